-- The lines on a ring's points: all points but the last, the last, and that it is the first again.
use Rattle.std.proofs.Common.{◌≡◌, ℕ, suc, ◌+◌, ◌*◌, ◌-◌, ◌<◌, false, ◌||◌, List, [], ◌∷◌, ◌++◌}
use Rattle.std.proofs.Common.{length, Bool}
use Rattle.std.proofs.Common.{get_or, Option, Some, None, subst, refl, sym, ap, ◌∙◌, arith, append_assoc, length-append}
use Rattle.std.proofs.lemmas.Bool.{or_parts, or_from}
use Rattle.geo_exact.specs.declared.corner.Corner.{Corner}
use Rattle.geo_exact.specs.declared.coord.Unit.{Unit as LengthUnit}
use Rattle.geo_exact.proofs.corners_and_turns.SameCorner.{corner_same}
use Rattle.shp_files.specs.declared.fault.FileFault.{FileFault}
use Rattle.shp_files.specs.declared.fault.FaultKind.TheVariants.{NotClosed}
use Rattle.shp_files.specs.declared.fault.LayerFault.{LayerFault}
use Rattle.shp_files.specs.LayerFile.{closed}
use Rattle.shp_files.specs.Checks.{Check, check, fault, first_failure, is_not, is_other_point, coordinate_checks}
use Rattle.shp_files.specs.Checks.{closing_checks, ring_checks}
use Rattle.shp_files.specs.own.Reading.{Fails, IsReadAs, AreReadAs}
use Rattle.shp_files.proofs.numbers.Numbers.{same_from_is_not, is_not_same}
use Rattle.shp_files.proofs.lines.Lines.{goes_on, stops, pass_from, pass_both, first_failure_none}
use Rattle.shp_files.proofs.lines.FoundAmongLines.{fails_stops}
use Rattle.shp_files.proofs.rings.Points.{none_left, point_read, coordinates_append, reads_push}

pub ring_parts : (main : List ℕ) (unit : LengthUnit) (position at count : ℕ) → 0 < count
    → ring_checks main unit position at count
    ≡ coordinate_checks main unit position at (2 * (count - 1))
    ++ (coordinate_checks main unit position (at + 16 * (count - 1)) 2 ++ closing_checks main unit position at (at + 16 * (count - 1)))
unfolding ring_checks
ring_parts main unit position at count some =
    let all : 2 * count ≡ 2 * (count - 1) + 2 = omega arith in
    let place : at + 8 * (2 * (count - 1)) ≡ at + 16 * (count - 1) = omega arith in
    rw (all, coordinates_append main unit position at (2 * (count - 1)) 2, place, append_assoc) refl

-- two points that are read differ where their corners do
pub other_point : (main : List ℕ) (unit : LengthUnit) (a b : ℕ) (p q : Corner) → IsReadAs unit main a p → IsReadAs unit main b q
    → is_other_point main unit a b ≡ (is_not p.x q.x || is_not p.y q.y)
other_point main unit a b p q h k = rw (h.x, h.y, k.x, k.y) refl

-- corners none of whose coordinates differ are one
pub same_corner : (p q : Corner) → (is_not p.x q.x || is_not p.y q.y) ≡ false → p ≡ q
same_corner p q e =
    let both = or_parts _ _ e in
    corner_same p q (same_from_is_not _ _ both.0) (same_from_is_not _ _ both.1)

-- a ring's first corner closes it
closes_with : (corners : List Corner) (first : Corner) → 0 < length corners → first ≡ get_or corners 0 first
    → closed corners ≡ corners ++ first ∷ []
closes_with [] first some is = absurd (omega arith)
closes_with (corner ∷ rest) first some is = ap (λ c. (corner ∷ rest) ++ c ∷ []) (sym is)

-- the first element of a list, which is first in another list that equals it
pub first_of : (slice corners : List Corner) (first : Corner) → first ≡ get_or slice 0 first → slice ≡ corners
    → first ≡ get_or corners 0 first
first_of slice corners first is same = is ∙ ap (λ (xs : List Corner). get_or xs 0 first) same

first_read : (unit : LengthUnit) (bytes : List ℕ) (at : ℕ) (corners : List Corner) (first : Corner)
    → AreReadAs unit bytes at corners → 0 < length corners
    → first ≡ get_or corners 0 first → IsReadAs unit bytes at first
first_read unit bytes at [] first are some is = absurd (omega arith)
first_read unit bytes at (corner ∷ rest) first are some is = let P : Corner → Type 0 = IsReadAs unit bytes at in subst P (sym is) are.0

-- what is found at a point before the last
pub corners_refused : (main : List ℕ) (unit : LengthUnit) (position at count : ℕ) (e : LayerFault) → 0 < count
    → Fails e (first_failure (coordinate_checks main unit position at (2 * (count - 1))))
    → Fails e (first_failure (ring_checks main unit position at count))
corners_refused main unit position at count e some fails =
    let closing : List Check = closing_checks main unit position at (at + 16 * (count - 1)) in
    rw (ring_parts main unit position at count some)
    (fails_stops e (coordinate_checks main unit position at (2 * (count - 1)))
    (coordinate_checks main unit position (at + 16 * (count - 1)) 2 ++ closing) fails)

-- what is found at the last point, where those before it are read
pub last_refused : (main : List ℕ) (unit : LengthUnit) (position at count last : ℕ) (found : FileFault) → 0 < count
    → last ≡ at + 16 * (count - 1)
    → None ≡ first_failure (coordinate_checks main unit position at (2 * (count - 1)))
    → Some found ≡ first_failure (coordinate_checks main unit position last 2)
    → Some found ≡ first_failure (ring_checks main unit position at count)
last_refused main unit position at count last found some is before here =
    let closing : List Check = closing_checks main unit position at last in
    rw (
      ring_parts main unit position at count some,
      ← is,
      goes_on _ (coordinate_checks main unit position last 2 ++ closing) before,
    )
    (stops _ closing found here)

-- What is found where all points are read is what the test of the last one finds: whether it is the first. The first of the
-- corners is read from a slice of them.
pub closing_answer : (main : List ℕ) (unit : LengthUnit) (position at count last : ℕ) (corners slice : List Corner)
    (first closing : Corner) (differs : Bool) (answer : FileFault) (found : Option FileFault)
    → 1 < count → last ≡ at + 16 * (count - 1)
    → first_failure (coordinate_checks main unit position at (2 * (count - 1))) ≡ None
    → AreReadAs unit main at corners → length corners ≡ count - 1
    → None ≡ first_failure (coordinate_checks main unit position last 2) → IsReadAs unit main last closing
    → first ≡ get_or slice 0 first → slice ≡ corners
    → differs ≡ (is_not first.x closing.x || is_not first.y closing.y) → answer ≡ fault position last NotClosed
    → found ≡ first_failure (check differs answer ∷ [])
    → found ≡ first_failure (ring_checks main unit position at count)
unfolding closing_checks
closing_answer main unit position at count last corners slice first closing differs answer found more is before are size here closes
    begins same as_differs fails found_is =
    let lines : List Check = closing_checks main unit position at last in
    let start = first_read unit main at corners first are (omega (arith, size)) (first_of slice corners first begins same) in
    rw (
      ring_parts main unit position at count (omega arith),
      ← is,
      goes_on _ (coordinate_checks main unit position last 2 ++ lines) (sym before),
      goes_on _ lines here,
      other_point main unit at last first closing start closes,
    ) (found_is ∙ rw (as_differs, fails) refl)

-- a ring that is read, closed
pub closed_read : (unit : LengthUnit) (bytes : List ℕ) (at last : ℕ) (corners : List Corner) (first closing : Corner)
    → AreReadAs unit bytes at corners → 0 < length corners → first ≡ get_or corners 0 first
    → last ≡ at + 16 * length corners → IsReadAs unit bytes last closing → first ≡ closing
    → AreReadAs unit bytes at (closed corners)
closed_read unit bytes at last corners first closing are some begins is closes same =
    rw (closes_with corners first some begins) (reads_push unit bytes at corners first last is are
    (let P : Corner → Type 0 = IsReadAs unit bytes last in subst P (sym same) closes))

-- points that are read have no failure
pub coordinates_pass : (main : List ℕ) (unit : LengthUnit) (position at : ℕ) (corners : List Corner) → AreReadAs unit main at corners
    → first_failure (coordinate_checks main unit position at (2 * length corners)) ≡ None
coordinates_pass main unit position at [] h = none_left main unit position at
coordinates_pass main unit position at (corner ∷ rest) h =
    point_read main unit position at (length rest) corner h.0 ∙ coordinates_pass main unit position (at + 16) rest h.1

-- the corner at the end of points that are read
pub last_read : (unit : LengthUnit) (bytes : List ℕ) (at : ℕ) (corners : List Corner) (last : Corner)
    → AreReadAs unit bytes at (corners ++ last ∷ [])
    → IsReadAs unit bytes (at + 16 * length corners) last
last_read unit bytes at [] last h =
    let place : at ≡ at + 16 * 0 = omega arith in
    let P : ℕ → Type 0 = λ n. IsReadAs unit bytes n last in
    subst P place h.0
last_read unit bytes at (corner ∷ rest) last h =
    let place : at + 16 + 16 * length rest ≡ at + 16 * suc (length rest) = omega arith in
    let P : ℕ → Type 0 = λ n. IsReadAs unit bytes n last in
    subst P place (last_read unit bytes (at + 16) rest last h.1)

pub length_closed : (corners : List Corner) → 0 < length corners → length (closed corners) ≡ length corners + 1
length_closed [] some = absurd (omega arith)
length_closed (first ∷ rest) some = omega (arith, length-append (first ∷ rest) (first ∷ []))

-- a closed ring that is read passes
pub ring_passes : (main : List ℕ) (unit : LengthUnit) (position at count : ℕ) (corners : List Corner)
    → 0 < length corners → length corners + 1 ≡ count
    → AreReadAs unit main at (closed corners) → first_failure (ring_checks main unit position at count) ≡ None
unfolding ring_checks closing_checks
ring_passes main unit position at count [] some is h = absurd (omega arith)
ring_passes main unit position at count (first ∷ rest) some is h =
    let points : length (closed (first ∷ rest)) ≡ count = length_closed (first ∷ rest) some ∙ is in
    let all : first_failure (coordinate_checks main unit position at (2 * count)) ≡ None =
    ap (λ n. first_failure (coordinate_checks main unit position at (2 * n))) (sym points)
    ∙ coordinates_pass main unit position at (closed (first ∷ rest)) h in
    let place : at + 16 * length (first ∷ rest) ≡ at + 16 * (count - 1) = omega (arith, is) in
    let P : ℕ → Type 0 = λ n. IsReadAs unit main n first in
    let last = subst P place (last_read unit main at (first ∷ rest) first h) in
    let same = or_from _ _ (is_not_same first.x first.x refl) (is_not_same first.y first.y refl) in
    pass_both _ _ all (pass_from _ _ [] (other_point main unit at (at + 16 * (count - 1)) first first h.0 last ∙ same) first_failure_none)
