-- Tests on numbers that come from bytes.
use Rattle.std.proofs.Common.{◌≡◌, ℕ, ◌≤◌, ℤ, pos, negsuc, false, not, refl, ap, ◌∙◌}
use Rattle.std.specs.Prelude.{int_lt}
use Rattle.std.proofs.lemmas.Bool.{ltb-false, le-ltb, not-false}
use Rattle.std.proofs.lemmas.Bool.Decides.{Decides-int_eq}
use Rattle.shp_files.specs.Layout.{natural}
use Rattle.shp_files.specs.Checks.{is_not}

pub natural_pos : (n : ℕ) → natural (pos n) ≡ n
unfolding natural
natural_pos n = refl

-- a number that is at least some number is not negative
pub natural_from : (n : ℕ) (z : ℤ) → int_lt z (pos n) ≡ false → n ≤ natural z
unfolding natural
natural_from n (pos m) e = ltb-false m n e
natural_from n (negsuc m) e = absurd cc

pub pos_natural : (n : ℕ) (z : ℤ) → int_lt z (pos n) ≡ false → z ≡ pos (natural z)
unfolding natural
pos_natural n (pos m) e = refl
pos_natural n (negsuc m) e = absurd cc

pub not_below : (n : ℕ) (z : ℤ) (m : ℕ) → z ≡ pos m → n ≤ m → int_lt z (pos n) ≡ false
not_below n z m e h = ap (λ x. int_lt x (pos n)) e ∙ le-ltb m n h

pub same_from_is_not : (a b : ℤ) → is_not a b ≡ false → a ≡ b
same_from_is_not a b e = (Decides-int_eq a b).0 (not-false _ e)

pub is_not_same : (a b : ℤ) → a ≡ b → is_not a b ≡ false
is_not_same a b e = ap not ((Decides-int_eq a b).1 e)
