-- The box of a simple ring, and which zones a parcel of a sheet overlaps.
use Rattle.std.proofs.Common.{refl, subst, arith, ℕ, List, [], ◌∷◌, ◌<◌, length}
use Rattle.std.specs.Prelude.{◌≤ℤ◌, pos, ◌<ℤ◌}
use Rattle.std.specs.List.{All, Contains}
use Rattle.std.specs.List.Sorted.{IsStrictlyIncreasing}
use Rattle.std.proofs.lemmas.Int.{ints}
use Rattle.geo_exact.specs.declared.corner.Corner.{Corner}
use Rattle.geo_exact.specs.declared.bounds.Bounds.{Bounds}
use Rattle.geo_exact.specs.Bounds.{HoldsCorner, IsLeastBox}
use Rattle.geo_exact.specs.Interiors.{InteriorsMeet}
use Rattle.geo_exact.specs.Layers.{NumberedRing, numbered}
use Rattle.geo_exact.specs.Area.{area2}
use Rattle.ring_core.specs.Simple.{IsSimpleRing}
use Rattle.fabric_core.specs.Rows.{numbers}
use Rattle.fabric_core.proofs.rows.RowLists.{ascending, same_row}
use Rattle.overlay_work.specs.Rounds.{ArePairsOf}
use Rattle.overlay_work.specs.own.Kept.{AreFoundAmong}

no_area : pos 0 <ℤ area2 [] → ⊥
no_area h = omega (arith, ints, h)

pub some_corner : (ring : List Corner) → IsSimpleRing ring → 0 < length ring
some_corner [] simple = absurd (no_area simple.counterclockwise)
some_corner (corner ∷ ring) simple = omega arith

pub a_corner : (ring : List Corner) (box : Bounds) → IsSimpleRing ring → All (HoldsCorner box) ring
    → (corner : Corner) × HoldsCorner box corner
a_corner [] box simple holds = absurd (no_area simple.counterclockwise)
a_corner (corner ∷ ring) box simple holds = (corner, holds 0 corner (omega arith))

pub box_goes_east : (ring : List Corner) (box : Bounds) → IsSimpleRing ring → IsLeastBox box ring → box.low.x ≤ℤ box.high.x
box_goes_east ring box simple least = let c = a_corner ring box simple least.holds in omega (arith, ints, c.1.west, c.1.east)

pub box_goes_north : (ring : List Corner) (box : Bounds) → IsSimpleRing ring → IsLeastBox box ring → box.low.y ≤ℤ box.high.y
box_goes_north ring box simple least = let c = a_corner ring box simple least.holds in omega (arith, ints, c.1.south, c.1.north)

-- what was found among the candidates, among which each zone that the ring meets is, are all zones that the parcel overlaps
pub are_pairs : (rows zones : List NumberedRing) (id : ℕ) (ring : List Corner) (candidates : List ℕ) (pairs : List (ℕ × ℕ))
    → IsStrictlyIncreasing (numbers rows) → Contains rows (numbered id ring)
    → ((row : NumberedRing) → Contains zones row → InteriorsMeet row.corners ring → Contains candidates row.number)
    → AreFoundAmong zones ring id candidates pairs → ArePairsOf rows zones id pairs
are_pairs rows zones id ring candidates pairs up here meeting found = record {
  of_parcel = found.of_parcel;
  ascend = found.ascend;
  exactly = λ zone. (
    (λ c.
        let meets = ((found.exactly zone).0 c).1 in
        record {
          parcel = numbered id ring;
          is_row = here;
          has_id = refl;
          region = meets.region;
          is_zone = meets.is_zone;
          has_zone = meets.has_number;
          interiors_meet = meets.interiors_meet;
        }),
    (λ overlaps.
        let same = same_row rows overlaps.parcel (numbered id ring) (ascending rows up) overlaps.is_row here overlaps.has_id in
        let meet : InteriorsMeet ring overlaps.region.corners =
        subst (λ (r : NumberedRing). InteriorsMeet r.corners overlaps.region.corners) same overlaps.interiors_meet in
        let candidate = meeting overlaps.region overlaps.is_zone (meet.0, meet.2, meet.1) in
        (found.exactly zone).1 (
          subst (Contains candidates) overlaps.has_zone candidate,
          record { region = overlaps.region; is_zone = overlaps.is_zone; has_number = overlaps.has_zone; interiors_meet = meet },
        )),
  );
}
