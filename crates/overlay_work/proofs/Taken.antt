-- Taking the first item of one of several lists.
use Rattle.std.proofs.Common.{◌≡◌, ◌<◌, ℕ, zero, suc, List, [], ◌∷◌, ◌++◌, length, get_or, append_assoc}
use Rattle.std.proofs.Common.{sym, subst, refl, arith}
use Rattle.std.proofs.Math.ListN.{set}
use Rattle.std.specs.Prelude.{IsPermutation}
use Rattle.std.proofs.lemmas.List.Sorted.{IsPermutation-trans, IsPermutation-refl, IsPermutation-middle, IsPermutation-append_right}
use Rattle.overlay_work.specs.Sharing.{joined}

module _ {X : Type 0} where
  -- what is taken from one list is taken from all
  pub taken_from_one : (lists : List (List X)) (at : ℕ) (item : X) (rest : List X) → at < length lists
      → get_or lists at [] ≡ item ∷ rest → IsPermutation (joined lists) (item ∷ joined (set lists at rest))
  taken_from_one [] at item rest below is = absurd (omega (arith, below))
  taken_from_one (list ∷ lists) zero item rest below is =
      subst (λ l. IsPermutation (l ++ joined lists) (item ∷ rest ++ joined lists)) (sym is)
      (IsPermutation-refl (item ∷ rest ++ joined lists))
  taken_from_one (list ∷ lists) (suc at) item rest below is =
      let left = joined (set lists at rest) in
      IsPermutation-trans (list ++ joined lists) (list ++ item ∷ left) (item ∷ list ++ left)
      (IsPermutation-append_right list (joined lists) (item ∷ left) (taken_from_one lists at item rest (omega (arith, below)) is))
      (IsPermutation-middle list item left)

  -- where each list is empty, so are all together
  pub none_of_empty : (lists : List (List X)) → ((at : ℕ) → at < length lists → get_or lists at [] ≡ []) → joined lists ≡ []
  none_of_empty [] empty = refl
  none_of_empty (list ∷ lists) empty =
      subst (λ l. l ++ joined lists ≡ []) (sym (empty zero (omega arith)))
      (none_of_empty lists (λ at below. empty (suc at) (omega (arith, below))))

  -- an item more is put behind others, and is taken from what is left
  pub one_moved : (all front old new : List X) (item : X) → IsPermutation all (front ++ old) → IsPermutation old (item ∷ new)
      → IsPermutation all ((front ++ item ∷ []) ++ new)
  one_moved all front old new item was taken =
      subst (IsPermutation all) (sym (append_assoc front (item ∷ []) new))
      (IsPermutation-trans all (front ++ old) (front ++ item ∷ new) was (IsPermutation-append_right front old (item ∷ new) taken))
