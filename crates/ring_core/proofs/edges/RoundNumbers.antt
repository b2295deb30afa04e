-- The numbers of corners, one after another round a ring.
use Rattle.std.proofs.Common.{◌≡◌, ◌≢◌, ℕ, suc, ◌<◌, arith}
use Rattle.std.proofs.lemmas.Bool.Decides.{nat_tests}
use Rattle.geo_exact.specs.Places.{after, before}

pub after_inner : (n i : ℕ) → suc i < n → after n i ≡ suc i
after_inner n i h = grind (arith, nat_tests)

pub after_end : (n i : ℕ) → n ≡ suc i → after n i ≡ 0
after_end n i h = grind (arith, nat_tests)

pub before_first : (n i : ℕ) → n ≡ suc i → before n 0 ≡ i
before_first n i h = omega arith

pub before_inner : (n i : ℕ) → before n (suc i) ≡ i
before_inner n i = grind (arith, nat_tests)

pub before_in : (n k : ℕ) → k < n → before n k < n
before_in n k h = grind (arith, nat_tests)

pub after_in : (n k : ℕ) → k < n → after n k < n
after_in n k h = grind (arith, nat_tests)

-- of three and more, a number and its two neighbours are three
pub before_other : (n k : ℕ) → 2 < n → k < n → k ≢ before n k
before_other n k l h = grind (arith, nat_tests)

pub after_other : (n k : ℕ) → 2 < n → k < n → after n k ≢ k
after_other n k l h = grind (arith, nat_tests)

pub neighbours_apart : (n k : ℕ) → 2 < n → k < n → after n k ≢ before n k
neighbours_apart n k l h = grind (arith, nat_tests)
