-- What edits of clerks lead to.
use Rattle.std.proofs.Common.{true, ◌==◌, ◌≡◌, ℕ, ◌+◌, ◌≤◌, List, [], ◌∷◌, length, arith, refl, sym, ap, subst}
use Rattle.std.proofs.Common.{◌∙◌}
use Rattle.std.proofs.lemmas.Bool.Decides.{nat_tests}
use Rattle.geo_exact.specs.declared.limits.TheConstants.{LAYER_RECORDS}
use Rattle.fabric_core.specs.Rows.{Tiles}
use Rattle.fabric_core.specs.Tiling.{IsTiling}
use Rattle.fabric_core.specs.Journal.{State, JournalEntry, Book, after_entry, replay}
use Rattle.fabric_core.specs.EditResults.{AreLawfulFrom}
use Rattle.clerk_runs.specs.ClerkRuns.{Register, Run, IsJournal, opened, register_of, AreMade}

-- a list of no length
pub none_where_empty : {X : Type 0} (xs : List X) (n : ℕ) → n ≡ length xs → true ≡ (n == 0) → xs ≡ []
none_where_empty [] n e h = refl
none_where_empty (x ∷ xs) n e h = absurd (grind (arith, nat_tests, e, h))

-- without clerks nothing is made
pub none_made : {A : Type 0} (tiles : Tiles) → IsTiling tiles.rows tiles.city → AreMade {A = A} tiles [] (opened tiles) []
none_made tiles tiling = record {
  is_journal = record { lawful = tt; of_clerks = λ k entry less. absurd (omega (arith, less)) };
  leads = refl;
  is_tiling = tiling;
  are_told = refl;
}

-- lawful entries never lead to more parcels than a layer may have
lawful_few : {A : Type 0} (state : State) (number : ℕ) (entries : List (JournalEntry A)) → AreLawfulFrom state number entries
    → length state.rows ≤ LAYER_RECORDS → length (replay state entries).rows ≤ LAYER_RECORDS
lawful_few state number [] h few = few
lawful_few state number (entry ∷ rest) h few = lawful_few (after_entry state entry) (number + 1) rest h.2 h.1.within.number

pub made_few : {A : Type 0} (run : Run) (after : Register A) → IsJournal run after.journal
    → after.now ≡ replay run.opening after.journal
    → length run.opening.rows ≤ LAYER_RECORDS → length after.now.rows ≤ LAYER_RECORDS
made_few run after is leads few = subst (λ state. length state.rows ≤ LAYER_RECORDS) (sym leads)
    (lawful_few run.opening 1 after.journal is.lawful few)

-- a book that has the state and the journal of a register is that register
pub same_register : {A : Type 0} (register : Register A) (book : Book A) → book.now ≡ register.now → book.journal ≡ register.journal
    → register ≡ register_of book
same_register register book e f =
    ap (λ now. record { now = now; journal = register.journal }) (sym e)
    ∙ ap (λ journal. record { now = book.now; journal = journal }) (sym f)
