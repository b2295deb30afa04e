-- The first entries of a journal, and what is published of them.
use Rattle.std.proofs.Common.{◌≡◌, ◌≤◌, ℕ}
use Rattle.std.proofs.Common.{List, ◌++◌, take, drop, length, ap, sym, ◌∙◌, subst, arith}
use Rattle.std.proofs.Math.Seq.{take-append_seam}
use Rattle.std.proofs.lemmas.List.{take-append-drop, length-take}
use Rattle.std.proofs.lemmas.List.Elements.{All-take, All-same}
use mathlib.Core.List.{IsPrefix}
use Rattle.entry_cards.specs.Cards.{IsClerk}
use Rattle.entry_history.proofs.Beginnings.{begins_longer, begins_shorter}
use Rattle.fabric_core.specs.Journal.{State, JournalEntry, Book}
use Rattle.fabric_core.specs.EditResults.{IsLawful}
use Rattle.fabric_core.proofs.edits.Replays.{lawful_take}
use Rattle.desk_lock.specs.Offices.{Origin, IsOfOrigin, AreOfClerks, behind}
use Rattle.desk_lock.proofs.Behind.{more_behind}

module _ {X : Type 0} where
  -- a beginning of a list is as many of its first
  first_of : (xs zs : List X) → IsPrefix xs zs → xs ≡ take (length xs) zs
  first_of xs zs p = sym (ap (take (length xs)) (sym p.1) ∙ take-append_seam xs p.0)

  -- the first of a list begin it
  pub first_begins : (n : ℕ) (zs : List X) → IsPrefix (take n zs) zs
  first_begins n zs = (drop n zs, take-append-drop n zs)

  -- a beginning that has its first so many is those
  pub handed_first : (n : ℕ) (xs zs : List X) → IsPrefix xs zs → length xs ≡ n → xs ≡ take n zs
  handed_first n xs zs p is = first_of xs zs p ∙ ap (λ k. take k zs) is

module _ {A : Type 0} where
  -- ---- what a notice tells that has a journal's first entries
  module _ (origin : Origin A) (book : Book A) (n : ℕ) (told : List (JournalEntry A))
      (is : told ≡ take n book.journal) where
    pub first_lawful : IsLawful book.opening book.journal → IsOfOrigin origin book → IsLawful origin.opening told
    first_lawful lawful of =
        subst (IsLawful origin.opening) (sym is)
        (subst (λ (o : State). IsLawful o (take n book.journal)) of.opening (lawful_take book.opening 1 n book.journal lawful))

    pub first_has_origin : IsOfOrigin origin book → length origin.journal ≤ n → IsPrefix origin.journal told
    first_has_origin of le =
        let whole = begins_shorter origin.journal book.journal of.begins in
        let long : length origin.journal ≤ length (take n book.journal) = omega (arith, length-take n book.journal, le, whole) in
        subst (IsPrefix origin.journal) (sym is)
        (begins_longer origin.journal (take n book.journal) book.journal of.begins (first_begins n book.journal) long)

    pub first_of_clerks : (clerks : ℕ) → AreOfClerks clerks (behind origin book.journal) → IsPrefix origin.journal told
        → AreOfClerks clerks (behind origin told)
    first_of_clerks clerks of_clerks begins =
        let P = λ (entry : JournalEntry A). IsClerk clerks entry.clerk in
        let first : IsPrefix told book.journal = subst (λ l. IsPrefix l book.journal) (sym is) (first_begins n book.journal) in
        let more : behind origin book.journal ≡ behind origin told ++ first.0 =
        ap (drop (length origin.journal)) (sym first.1) ∙ more_behind origin.journal told first.0 begins in
        let part : behind origin told ≡ take (length (behind origin told)) (behind origin book.journal) =
        first_of (behind origin told) (behind origin book.journal) (first.0, sym more) in
        All-same P (behind origin told) (take (length (behind origin told)) (behind origin book.journal)) part
        (All-take P (length (behind origin told)) (behind origin book.journal) of_clerks)
