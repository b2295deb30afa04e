-- The corners that are kept of a ring, edge by edge.
use Rattle.std.proofs.Common.{◌≡◌, ℕ, ◌+◌, ◌≤◌, ◌<◌, Bool, true, false, not, ◌||◌, ◌&&◌, List, [], ◌∷◌}
use Rattle.std.proofs.Common.{◌++◌}
use Rattle.std.proofs.Common.{length, drop, get_or, refl, sym, ap, ◌∙◌, arith, append_assoc}
use Rattle.std.proofs.lemmas.List.{append-nil, drop_all}
use Rattle.std.specs.Ordering.{int_eq}
use Rattle.geo_exact.specs.declared.corner.Corner.{Corner}
use Rattle.geo_exact.specs.Rings.{path}
use Rattle.geo_exact.proofs.numbers.Dropped.{drop_item}
use Rattle.shp_files.specs.Checks.{is_not}
use Rattle.shp_files.specs.NormalForm.{starts, kept_once}
use Rattle.shp_files.proofs.rings.Turned.{same_nowhere}

both_from : (a b other : Bool) → (not a || not b) ≡ other → (a && b) ≡ not other
both_from true true other e = ap not e
both_from true false other e = ap not e
both_from false b other e = ap not e

nowhere : (p q : Corner) (other : Bool) → (is_not p.x q.x || is_not p.y q.y) ≡ other
    → (int_eq p.x q.x && int_eq p.y q.y) ≡ not other
nowhere p q other e = both_from (int_eq p.x q.x) (int_eq p.y q.y) other e

-- a corner that the next one differs from is kept
pub keeps_corner : (kept drawn whole : List Corner) (from to first : Corner) (i : ℕ) → i < length drawn → to ≡ get_or drawn i to
    → kept ++ starts (path from (drop i drawn) first) ≡ whole → (is_not from.x to.x || is_not from.y to.y) ≡ true
    → (kept ++ from ∷ []) ++ starts (path to (drop (i + 1) drawn) first) ≡ whole
keeps_corner kept drawn whole from to first i below is before other =
    let step : starts (path from (drop i drawn) first) ≡ from ∷ starts (path to (drop (i + 1) drawn) first) =
    ap (λ rest. starts (path from rest first)) (drop_item drawn i to below is) ∙ rw (nowhere from to true other) refl in
    append_assoc kept (from ∷ []) (starts (path to (drop (i + 1) drawn) first)) ∙ ap (λ rest. kept ++ rest) (sym step) ∙ before

-- a corner that is the next one is not
pub skips_corner : (kept drawn whole : List Corner) (from to first : Corner) (i : ℕ) → i < length drawn → to ≡ get_or drawn i to
    → kept ++ starts (path from (drop i drawn) first) ≡ whole → (is_not from.x to.x || is_not from.y to.y) ≡ false
    → kept ++ starts (path to (drop (i + 1) drawn) first) ≡ whole
skips_corner kept drawn whole from to first i below is before other =
    let step : starts (path from (drop i drawn) first) ≡ starts (path to (drop (i + 1) drawn) first) =
    ap (λ rest. starts (path from rest first)) (drop_item drawn i to below is) ∙ rw (nowhere from to false other) refl in
    ap (λ rest. kept ++ rest) (sym step) ∙ before

-- the last corner, by the first
pub keeps_last : (kept drawn whole : List Corner) (from first : Corner) (i : ℕ) → length drawn ≤ i
    → kept ++ starts (path from (drop i drawn) first) ≡ whole
    → (is_not from.x first.x || is_not from.y first.y) ≡ true → kept ++ from ∷ [] ≡ whole
keeps_last kept drawn whole from first i past before other =
    let step : starts (path from (drop i drawn) first) ≡ from ∷ [] = ap (λ rest. starts (path from rest first)) (drop_all i drawn past)
    ∙ rw (nowhere from first true other) refl in
    ap (λ rest. kept ++ rest) (sym step) ∙ before

pub skips_last : (kept drawn whole : List Corner) (from first : Corner) (i : ℕ) → length drawn ≤ i
    → kept ++ starts (path from (drop i drawn) first) ≡ whole
    → (is_not from.x first.x || is_not from.y first.y) ≡ false → kept ≡ whole
skips_last kept drawn whole from first i past before other =
    let step : starts (path from (drop i drawn) first) ≡ [] = ap (λ rest. starts (path from rest first)) (drop_all i drawn past)
    ∙ rw (nowhere from first false other) refl in
    sym (append-nil kept) ∙ ap (λ rest. kept ++ rest) (sym step) ∙ before

-- a ring that is begun with its first corner once more
pub kept_of_whole : (drawn : List Corner) (first : Corner) → 0 < length drawn → first ≡ get_or drawn 0 first
    → starts (path first drawn first) ≡ kept_once drawn
kept_of_whole [] first some is = absurd (omega arith)
kept_of_whole (corner ∷ rest) first some is =
    ap (λ (c : Corner). starts (path c (corner ∷ rest) c)) is ∙ rw (same_nowhere corner corner refl) refl
