-- A ring without one of its corners: what the numbers of the other corners' neighbours are.
use Rattle.std.proofs.Common.{◌≡◌, ℕ, ◌+◌, ◌<◌, ◌≤◌, ◌∙◌, ap, inl, inr, List, length, get_or}
use Rattle.std.specs.List.{remove}
use Rattle.std.proofs.lemmas.Bool.{cases_lt}
use Rattle.std.proofs.lemmas.Bool.Decides.{nat_tests}
use Rattle.std.proofs.lemmas.List.Edits.{get_or-remove_below, get_or-remove_above}
use Rattle.std.proofs.Common.{arith, sym}
use Rattle.geo_exact.specs.declared.corner.Corner.{Corner}
use Rattle.geo_exact.specs.Places.{origin, corner_at, after, before}
use Rattle.ring_core.specs.own.Kinds.{number_before, WasBeside}

number_below : (k j : ℕ) → j < k → number_before k j ≡ j
number_below k j h = grind (arith, nat_tests)

number_above : (k j : ℕ) → k ≤ j → number_before k j ≡ j + 1
number_above k j h = grind (arith, nat_tests)

-- away from the gap, the numbers before and after are what they were
pub before_kept : (m k j : ℕ) → j < m → k ≤ m → ¬ WasBeside m k j → number_before k (before m j)
    ≡ before (m + 1) (number_before k j)
before_kept m k j h b off = grind (arith, nat_tests)

pub after_kept : (m k j : ℕ) → j < m → k ≤ m → ¬ WasBeside m k j → number_before k (after m j)
    ≡ after (m + 1) (number_before k j)
after_kept m k j h b off = grind (arith, nat_tests)

-- what stands in a list after an item was taken out
pub item_kept : {X : Type 0} (xs : List X) (k j : ℕ) (d : X) → k < length xs → get_or (remove xs k) j d
    ≡ get_or xs (number_before k j) d
item_kept xs k j d h = elim (cases_lt j k) [
  | inl q ↦ get_or-remove_below xs k d j q h ∙ ap (λ i. get_or xs i d) (sym (number_below k j q))
  | inr q ↦ get_or-remove_above xs k d j q h ∙ ap (λ i. get_or xs i d) (sym (number_above k j q))
]

pub number_in : (n k j : ℕ) → j + 1 < n → number_before k j < n
number_in n k j h = grind (arith, nat_tests)

pub corner_kept : (whole : List Corner) (k j : ℕ) → k < length whole → corner_at (remove whole k) j
    ≡ corner_at whole (number_before k j)
corner_kept whole k j h = item_kept whole k j origin h
