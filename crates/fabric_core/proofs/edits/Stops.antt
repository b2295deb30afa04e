-- Edits that make no change.
use Rattle.std.proofs.Common.{true, false, ◌==◌, ◌≡◌, ◌≢◌, ◌⊎◌, arith, length, map, inl, inr, refl, sym, ◌∙◌, ap, ℕ, List, []}
use Rattle.std.proofs.Common.{◌∷◌, Option, Some, None, MatchOption}
use Rattle.std.specs.List.{Contains}
use Rattle.std.proofs.lemmas.Bool.{false≢true}
use Rattle.std.proofs.lemmas.Bool.Decides.{nat_tests}
use denote.Enum.Bare.{sameb}
use Rattle.geo_exact.specs.declared.corner.Corner.{Corner}
use Rattle.geo_exact.specs.Layers.{NumberedRing, numbered}
use Rattle.cell_index.proofs.Members.{mapped, from_mapped}
use Rattle.ring_edits.specs.contracts.fault.EditFault.{the_type}
use Rattle.ring_edits.specs.declared.fault.EditFault.{EditFault}
use Rattle.ring_edits.specs.declared.fault.EditFault.TheVariants.{BadPath as NoPath, NotNeighbours as NoBorder}
use Rattle.ring_edits.specs.declared.fault.EditFault.TheVariants.{SharedTwice as TwoBorders, NoMemory as NoRoom}
use Rattle.ring_edits.specs.Edits.{IsBorderFault, IsBadBorder}
use Rattle.fabric_core.specs.declared.journal.Row.{Row}
use Rattle.fabric_core.specs.declared.refusal.Refusal.{Refusal}
use Rattle.fabric_core.specs.declared.refusal.Refusal.TheVariants.{NoMemory, Retired, Unknown}
use Rattle.fabric_core.specs.own.EntryRows.{rows_of_entry}
use Rattle.fabric_core.specs.Rows.{numbers}
use Rattle.fabric_core.specs.Refusals.{AreParcels}
use Rattle.fabric_core.specs.own.Changes.{state_of, IsGone, IsStopped, IsBorderRefusal, IsMoveRefusal, refusal_of}
use Rattle.fabric_core.specs.own.Kept.{Kept, gone_by}

-- a row's id is one of theirs
pub id_here : (rows : List NumberedRing) (id : ℕ) (ring : List Corner) → Contains rows (numbered id ring) → Contains (numbers rows) id
id_here rows id ring h = mapped (λ row. row.number) rows (numbered id ring) h

-- an id that is no parcel's is never told as want of memory
told_otherwise : (id : ℕ) (r : Refusal) (o : Option ℕ) → MatchOption o (r ≡ Unknown id) (λ by. r ≡ Retired id by) → r ≡ NoMemory → ⊥
told_otherwise id r None e f = absurd (cc)
told_otherwise id r (Some by) e f = absurd (cc)

pub gone_otherwise : (kept : Kept) (id : ℕ) (r : Refusal) → IsGone kept id r → r ≡ NoMemory → ⊥
gone_otherwise kept id r h e = told_otherwise id r (gone_by kept id) h.1 e

-- and an edit's own fault is told as want of memory only where it is that
pub refusal_back : (fault : EditFault) → refusal_of fault ≡ NoMemory → fault ≡ NoRoom
refusal_back NoPath e = absurd (cc)
refusal_back NoBorder e = absurd (cc)
refusal_back TwoBorders e = absurd (cc)
refusal_back NoRoom e = refl

-- whether a fault is that of a path
pub was_path : (fault : EditFault) → sameb the_type fault NoPath ≡ true → fault ≡ NoPath
was_path NoPath e = refl
was_path NoBorder e = absurd (false≢true e)
was_path TwoBorders e = absurd (false≢true e)
was_path NoRoom e = absurd (false≢true e)

pub was_other : (fault : EditFault) → sameb the_type fault NoPath ≡ false → fault ≢ NoPath
was_other fault e same = false≢true (sym e ∙ ap (λ f. sameb the_type f NoPath) same)

-- an id that no row has is none of theirs
pub id_gone : (rows : List NumberedRing) (id : ℕ) → ((row : NumberedRing) → Contains rows row → ¬ (row.number ≡ id))
    → ¬ Contains (numbers rows) id
id_gone rows id none h = let w = from_mapped (λ (row : NumberedRing). row.number) rows id h in none w.0 w.1 w.2

module _ (kept : Kept) where
  -- the only id that is named is gone
  pub alone_gone : (id : ℕ) (own : Type 0) (refusal : Refusal) → IsGone kept id refusal → IsStopped kept (id ∷ []) own refusal
  alone_gone id own refusal h =
      inr (inl (id, record { before = []; behind = []; are_all = refl; are_here = tt; is_gone = h.0 }, h))

  module _ (a b : ℕ) (own : Type 0) (refusal : Refusal) where
    pub first_gone : IsGone kept a refusal → IsStopped kept (a ∷ b ∷ []) own refusal
    first_gone h = inr (inl (a, record { before = []; behind = b ∷ []; are_all = refl; are_here = tt; is_gone = h.0 }, h))

    pub second_gone : (ring : List Corner) → Contains kept.rows (numbered a ring) → IsGone kept b refusal
        → IsStopped kept (a ∷ b ∷ []) own refusal
    second_gone ring here h = inr (inl (
      b,
      record {
        before = a ∷ [];
        behind = [];
        are_all = refl;
        are_here = (id_here kept.rows a ring here, tt);
        is_gone = h.0;
      },
      h,
    ))

  module _ (a b : ℕ) (ring_a ring_b : List Corner) (here_a : Contains kept.rows (numbered a ring_a))
      (here_b : Contains kept.rows (numbered b ring_b)) where
    both_here : AreParcels kept.rows (a ∷ b ∷ [])
    both_here = (id_here kept.rows a ring_a here_a, (id_here kept.rows b ring_b here_b, tt))

    -- two parcels have no border
    pub no_border : (fault : EditFault) → (fault ≡ NoRoom) ⊎ IsBorderFault ring_a ring_b fault
        → IsStopped kept (a ∷ b ∷ []) (IsBorderRefusal (state_of kept) a b (refusal_of fault)) (refusal_of fault)
    no_border NoPath (inl e) = absurd (cc)
    no_border NoPath (inr h) = absurd h
    no_border NoBorder (inl e) = absurd (cc)
    no_border NoBorder (inr h) =
        inr (inr (both_here, inl (refl, (ring_a, ring_b, here_a, here_b, h))))
    no_border TwoBorders (inl e) = absurd (cc)
    no_border TwoBorders (inr h) =
        inr (inr (both_here, inr (refl, (ring_a, ring_b, here_a, here_b, h))))
    no_border NoRoom h = inl refl

    -- or the path does not go from one end of it to the other
    pub no_move : (path : List Corner) (fault : EditFault)
        → (fault ≡ NoRoom) ⊎ IsBorderFault ring_a ring_b fault ⊎ ((fault ≡ NoPath) × IsBadBorder ring_a ring_b path)
        → IsStopped kept (a ∷ b ∷ []) (IsMoveRefusal (state_of kept) a b path (refusal_of fault)) (refusal_of fault)
    no_move path fault (inl e) = inl (ap refusal_of e)
    no_move path fault (inr (inl h)) = either (no_border fault (inr h))
      where
        either : IsStopped kept (a ∷ b ∷ []) (IsBorderRefusal (state_of kept) a b (refusal_of fault)) (refusal_of fault)
            → IsStopped kept (a ∷ b ∷ []) (IsMoveRefusal (state_of kept) a b path (refusal_of fault)) (refusal_of fault)
        either (inl k) = inl k
        either (inr (inl k)) = inr (inl k)
        either (inr (inr (here, inl k))) = inr (inr (here, inl k))
        either (inr (inr (here, inr k))) = inr (inr (here, inr (inl k)))
    no_move path fault (inr (inr h)) =
        inr (inr (both_here, inr (inr (ap refusal_of h.0, (ring_a, ring_b, here_a, here_b, h.1)))))

-- ---- rows that are made of others, one of each
module _ {A : Type 0} (f : NumberedRing → NumberedRing) where
  -- where none is made, there are none
  pub none_made : (made : List (Row A)) (n : ℕ) (rows : List NumberedRing) → n ≡ length made → true ≡ (n == 0)
      → rows_of_entry made ≡ map f rows
      → rows ≡ []
  none_made [] n [] e h made = refl
  none_made [] n (row ∷ rows) e h made = absurd (cc)
  none_made (m ∷ more) n rows e h made = absurd (grind (arith, nat_tests, e, h))

  -- where one is made, there is one
  pub some_made : (made : List (Row A)) (n : ℕ) (rows : List NumberedRing) → n ≡ length made → false ≡ (n == 0)
      → rows_of_entry made ≡ map f rows
      → rows ≢ []
  some_made [] n rows e h made = absurd (grind (arith, nat_tests, e, h))
  some_made (m ∷ more) n [] e h made = absurd (cc)
  some_made (m ∷ more) n (row ∷ rows) e h made = λ k. absurd (cc)

-- the ids of an entry's rows
pub ids_of_entry : {A : Type 0} (rows : List (Row A)) → map (λ row. row.id) rows ≡ numbers (rows_of_entry rows)
ids_of_entry [] = refl
ids_of_entry (row ∷ rows) = ap (λ ids. row.id ∷ ids) (ids_of_entry rows)
