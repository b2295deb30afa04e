-- Corners as points, and their order by x, then by y (this product's own).
use Rattle.std.specs.Prelude.{◌≡◌, ◌⊎◌, ◌<ℤ◌, int_lt, Bool, ◌&&◌, ◌||◌, not, List}
use Rattle.std.specs.Ordering.{int_eq}
use Rattle.std.specs.Cmp.{IsEquivalence, and_equiv, on_equiv, int_eq_equiv}
use Rattle.std.specs.List.{list_any}
use Rattle.geo_exact.specs.declared.corner.Corner.{Corner}

-- the two corners are one point
abbrev pub is_same : Corner → Corner → Bool
is_same a b = int_eq a.x b.x && int_eq a.y b.y

-- so being one point is an equivalence, as `==` has to be
pub is_same_equivalence : IsEquivalence is_same
is_same_equivalence =
    and_equiv (on_equiv (λ (c : Corner). c.x) int_eq_equiv) (on_equiv (λ (c : Corner). c.y) int_eq_equiv)

-- a comes before b: by x, then by y
abbrev pub is_before : Corner → Corner → Bool
is_before a b = int_lt a.x b.x || (int_eq a.x b.x && int_lt a.y b.y)

-- a comes before b, as a proposition
abbrev pub IsBefore : Corner → Corner → Type 0
IsBefore a b = (a.x <ℤ b.x) ⊎ ((a.x ≡ b.x) × (a.y <ℤ b.y))

-- none of the corners comes before c
abbrev pub is_least : List Corner → Corner → Bool
is_least corners c = not (list_any (λ other. is_before other c) corners)
