-- The corners of a ring that are left where neighbours that are equal are kept once.
use Rattle.std.proofs.Common.{◌≡◌, ℕ, suc, ◌+◌, ◌≤◌, ◌<◌, Bool, true, false, not, ◌||◌, ◌&&◌, cond, List, []}
use Rattle.std.proofs.Common.{◌∷◌, ◌++◌, length, refl, arith, ◌-◌, nat_lt, sym, subst, ◌∙◌, ap, Option, None}
use Rattle.std.specs.Ordering.{int_eq}
use Rattle.geo_exact.specs.declared.corner.Corner.{Corner}
use Rattle.geo_exact.specs.declared.coord.Unit.{Unit as LengthUnit}
use Rattle.geo_exact.specs.Rings.{path}
use Rattle.shp_files.specs.LayerFile.{closed}
use Rattle.shp_files.specs.NormalForm.{starts, kept_once}
use Rattle.shp_files.specs.Checks.{distinct_points, check, fault, first_failure, points_of, corner_checks, count_checks, ring_checks}
use Rattle.shp_files.specs.Checks.{polygon_checks}
use Rattle.shp_files.specs.declared.fault.FileFault.{FileFault}
use Rattle.shp_files.specs.declared.fault.FaultKind.TheVariants.{FewPoints}
use Rattle.shp_files.specs.own.Reading.{AreReadAs}
use Rattle.shp_files.proofs.lines.Lines.{goes_on}
use Rattle.shp_files.proofs.rings.Ring.{other_point}

-- one more edge, of some length or of none
one_more : (a b : Bool) (n : ℕ) (corner : Corner) (rest : List Corner) → n ≡ length rest
    → cond (not a || not b) 1 0 + n ≡ length (cond (a && b) rest (corner ∷ rest))
one_more true true n corner rest e = omega (arith, e)
one_more true false n corner rest e = omega (arith, e)
one_more false b n corner rest e = omega (arith, e)

distinct_path : (main : List ℕ) (unit : LengthUnit) (at : ℕ) (from : Corner) (rest : List Corner) (to : Corner)
    → AreReadAs unit main at (from ∷ (rest ++ to ∷ []))
    → distinct_points main unit at (suc (length rest)) ≡ length (starts (path from rest to))
unfolding distinct_points
distinct_path main unit at from [] to are =
    rw (other_point main unit at (at + 16) from to are.0 are.1.0) (one_more (int_eq from.x to.x) (int_eq from.y to.y) 0 from [] refl)
distinct_path main unit at from (next ∷ rest) to are =
    rw (other_point main unit at (at + 16) from next are.0 are.1.0)
    (one_more (int_eq from.x next.x) (int_eq from.y next.y) (distinct_points main unit (at + 16) (suc (length rest)))
    from (starts (path next rest to))
    (distinct_path main unit (at + 16) next rest to are.1))

-- the points of a ring that are not the point behind them are the corners that are kept
pub distinct_is : (main : List ℕ) (unit : LengthUnit) (at : ℕ) (corners : List Corner) → 0 < length corners
    → AreReadAs unit main at (closed corners)
    → distinct_points main unit at (length corners) ≡ length (kept_once corners)
distinct_is main unit at [] some are = absurd (omega arith)
distinct_is main unit at (first ∷ rest) some are = distinct_path main unit at first rest first are

fewer : (b : Bool) (corner : Corner) (kept : List Corner) (n : ℕ) → length kept ≤ n
    → length (cond b kept (corner ∷ kept)) ≤ suc n
fewer true corner kept n h = omega arith
fewer false corner kept n h = omega arith

starts_fewer : (from : Corner) (rest : List Corner) (to : Corner) → length (starts (path from rest to)) ≤ suc (length rest)
starts_fewer from [] to = fewer (int_eq from.x to.x && int_eq from.y to.y) from [] 0 (omega arith)
starts_fewer from (next ∷ rest) to = fewer (int_eq from.x next.x && int_eq from.y next.y) from
    (starts (path next rest to)) (suc (length rest)) (starts_fewer next rest to)

-- no more corners are kept than there were
pub kept_fewer : (corners : List Corner) → length (kept_once corners) ≤ length corners
kept_fewer [] = omega arith
kept_fewer (first ∷ rest) = starts_fewer first rest first

-- the check of the corners that are left, as it is made on a list of them
corners_line : (main : List ℕ) (unit : LengthUnit) (position start : ℕ) (drawn kept : List Corner) → 0 < length drawn
    → length drawn + 1 ≡ points_of main start
    → AreReadAs unit main (start + 56) (closed drawn) → kept ≡ kept_once drawn
    → first_failure (check (nat_lt (length kept) 3) (fault position (start + 48) FewPoints) ∷ [])
    ≡ first_failure (corner_checks main unit position start)
unfolding corner_checks
corners_line main unit position start drawn kept some count are is =
    let last : length drawn ≡ points_of main start - 1 = omega (arith, count) in
    let left : length kept ≡ distinct_points main unit (start + 56) (points_of main start - 1) =
    ap length is ∙ sym (distinct_is main unit (start + 56) drawn some are) ∙ ap (λ n. distinct_points main unit (start + 56) n) last in
    ap (λ n. first_failure (check (nat_lt n 3) (fault position (start + 48) FewPoints) ∷ [])) left

-- What is found behind counts and a ring that pass is what the test of the corners that are left finds: all lines of a polygon.
pub corners_answer : (main : List ℕ) (unit : LengthUnit) (position start before count : ℕ) (drawn kept : List Corner)
    (answer : FileFault) (found : Option FileFault)
    → None ≡ first_failure (count_checks main position start before) → count ≡ points_of main start → 1 < count
    → first_failure (ring_checks main unit position (start + 56) count) ≡ None
    → AreReadAs unit main (start + 56) (closed drawn) → length drawn + 1 ≡ count → kept ≡ kept_once drawn
    → answer ≡ fault position (start + 48) FewPoints → found ≡ first_failure (check (nat_lt (length kept) 3) answer ∷ [])
    → found ≡ first_failure (polygon_checks main unit position start before)
unfolding polygon_checks
corners_answer main unit position start before count drawn kept answer found counts points more ring are size is fails found_is =
    let ring_passes : first_failure (ring_checks main unit position (start + 56) (points_of main start)) ≡ None =
    subst (λ (n : ℕ). first_failure (ring_checks main unit position (start + 56) n) ≡ None) points ring in
    let line = corners_line main unit position start drawn kept (omega (arith, size, more)) (size ∙ points) are is in
    found_is ∙ ap (λ (f : FileFault). first_failure (check (nat_lt (length kept) 3) f ∷ [])) fails ∙ line
    ∙ sym (goes_on _ _ counts ∙ goes_on _ _ (sym ring_passes))
