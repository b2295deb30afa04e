-- A record that passes its checks is a polygon of the format, and the other way round.
use Rattle.std.proofs.Common.{◌≡◌, ℕ, ◌+◌, ◌*◌, ◌-◌, ◌≤◌, ◌<◌, ℤ, pos, List, [], ◌∷◌, length, Ok}
use Rattle.std.proofs.Common.{refl, sym, ap, ◌∙◌, arith}
use Rattle.std.proofs.lemmas.Int.{ints}
use Rattle.geo_exact.specs.declared.corner.Corner.{Corner}
use Rattle.geo_exact.specs.declared.coord.Unit.{Unit as LengthUnit}
use Rattle.geo_exact.specs.Grid.{IsOnGrid, coordinate}
use Rattle.geo_exact.proofs.doubles.Coordinates.{accepted_is, accepted_when}
use Rattle.geo_exact.specs.declared.limits.TheConstants.{LAYER_CORNERS, LAYER_RECORDS}
use Rattle.shp_files.specs.Layout.{double_at, content_words, point_count, natural}
use Rattle.shp_files.specs.LayerFile.{ArePoints, closed, IsNullShape, IsPolygon}
use Rattle.shp_files.specs.Checks.{declared_end, record_end, points_of, distinct_points}
use Rattle.shp_files.specs.own.Reading.{AreReadAs}
use Rattle.shp_files.proofs.numbers.Numbers.{natural_pos}
use Rattle.shp_files.proofs.lines.WhatPasses.{NullPasses, PolygonPasses}
use Rattle.shp_files.proofs.numbers.Places.{StandsAt, big_at_part, little_at_part, double_at_part}
use Rattle.shp_files.proofs.rings.Distinct.{distinct_is, kept_fewer}
use Rattle.shp_files.proofs.rings.Ring.{length_closed, ring_passes}

on_grid : (file : List ℕ) (unit : LengthUnit) (start : ℕ) (bytes : List ℕ) (at place : ℕ) (k : ℤ)
    → StandsAt file start bytes → at + 8 ≤ length bytes
    → place ≡ start + at
    → coordinate (double_at file place) unit ≡ Ok k → IsOnGrid (double_at bytes at) unit k
on_grid file unit start bytes at place k h fits e is =
    let same : double_at file place ≡ double_at bytes at = ap (λ n. double_at file n) e ∙ double_at_part file start bytes at h fits in
    (accepted_is (double_at bytes at) unit k (ap (λ b. coordinate b unit) (sym same) ∙ is)).0

-- points that are read in the file are on the grid in the record
pub points_from_read : (file : List ℕ) (unit : LengthUnit) (start : ℕ) (bytes : List ℕ) (at place : ℕ)
    (corners : List Corner) → StandsAt file start bytes
    → at + 16 * length corners ≤ length bytes → place ≡ start + at → AreReadAs unit file place corners
    → ArePoints unit bytes at corners
points_from_read file unit start bytes at place [] h fits e are = tt
points_from_read file unit start bytes at place (corner ∷ rest) h fits e are = (
  on_grid file unit start bytes at place corner.x h (omega arith) e are.0.x,
  on_grid file unit start bytes (at + 8) (place + 8) corner.y h (omega arith) (omega arith) are.0.y,
  points_from_read file unit start bytes (at + 16) (place + 16) rest h (omega arith) (omega arith) are.1,
)

-- and the other way round
pub read_from_points : (file : List ℕ) (unit : LengthUnit) (start : ℕ) (bytes : List ℕ) (at place : ℕ)
    (corners : List Corner) → StandsAt file start bytes
    → at + 16 * length corners ≤ length bytes → place ≡ start + at → ArePoints unit bytes at corners
    → AreReadAs unit file place corners
read_from_points file unit start bytes at place [] h fits e are = tt
read_from_points file unit start bytes at place (corner ∷ rest) h fits e are =
    let x : double_at file place ≡ double_at bytes at = ap (λ n. double_at file n) e
    ∙ double_at_part file start bytes at h (omega arith) in
    let place8 : place + 8 ≡ start + (at + 8) = omega arith in
    let y : double_at file (place + 8) ≡ double_at bytes (at + 8) = ap (λ n. double_at file n) place8
    ∙ double_at_part file start bytes (at + 8) h (omega arith) in (
      record {
        x = ap (λ b. coordinate b unit) x ∙ accepted_when (double_at bytes at) unit corner.x are.0 corner.x_in_range;
        y = ap (λ b. coordinate b unit) y ∙ accepted_when (double_at bytes (at + 8)) unit corner.y are.1 corner.y_in_range;
      },
      read_from_points file unit start bytes (at + 16) (place + 16) rest h (omega arith) (omega arith) are.2,
    )

counted : (n : ℕ) (z : ℤ) → z ≡ pos n → natural z ≡ n
counted n z e = ap natural e ∙ natural_pos n

-- a null shape that passes
pub null_from_passing : (file : List ℕ) (position start : ℕ) (bytes : List ℕ) → NullPasses file position start
    → StandsAt file start bytes
    → start + length bytes ≡ record_end file start → IsNullShape bytes
null_from_passing file position start bytes passes h size =
    let two = counted 2 (content_words file start) passes.words_are in
    let whole : length bytes ≡ 12 = omega (arith, two) in
    record {
      is_whole = whole;
      has_length = sym (big_at_part file start bytes 4 h (omega arith)) ∙ passes.words_are;
      has_type = sym (little_at_part file start bytes 8 h (omega arith)) ∙ passes.type_is;
    }

-- what a null shape of the format is to the reader
pub record IsReadNull (file : List ℕ) (position start : ℕ) (bytes : List ℕ) : Type 0 where
  pub passes : NullPasses file position start
  pub end : record_end file start ≡ start + length bytes

pub read_from_null : (file : List ℕ) (position start : ℕ) (bytes : List ℕ) → IsNullShape bytes
    → StandsAt file start bytes → position ≤ LAYER_RECORDS
    → start + length bytes ≤ declared_end file → IsReadNull file position start bytes
read_from_null file position start bytes null h few within =
    let whole = null.is_whole in
    let words : content_words file start ≡ pos 2 = big_at_part file start bytes 4 h (omega arith) ∙ null.has_length in
    let two = counted 2 (content_words file start) words in
    record {
      passes = record {
        frame = record {
          few_records = few;
          room = omega arith;
          words = words ∙ ap pos (sym two);
          some = omega (arith, two);
          within = omega (arith, two);
        };
        type_is = little_at_part file start bytes 8 h (omega arith) ∙ null.has_type;
        words_are = words;
      };
      end = omega (arith, two);
    }

-- a polygon that passes
pub polygon_from_passing : (file : List ℕ) (unit : LengthUnit) (position start before : ℕ) (bytes : List ℕ) (corners : List Corner)
    → PolygonPasses file unit position start before → StandsAt file start bytes → start + length bytes ≡ record_end file start
    → length corners + 1 ≡ points_of file start
    → AreReadAs unit file (start + 56) (closed corners) → IsPolygon unit bytes corners
polygon_from_passing file unit position start before bytes corners passes h size count are =
    let counts = passes.counts in
    let some : 0 < length corners = omega (arith, counts.enough) in
    let points : length (closed corners) ≡ points_of file start = length_closed corners some ∙ count in
    let filled : length bytes ≡ 56 + 16 * length (closed corners) = omega (arith, counts.filled) in
    let one_less : points_of file start - 1 ≡ length corners = omega (arith, count) in
    let distinct = ap (λ n. distinct_points file unit (start + 56) n) one_less ∙ distinct_is file unit (start + 56) corners some are in
    record {
      has_length = omega (arith, ints, big_at_part file start bytes 4 h (omega arith), counts.words);
      has_type = sym (little_at_part file start bytes 8 h (omega arith)) ∙ passes.type_is;
      has_one_part = sym (little_at_part file start bytes 44 h (omega arith)) ∙ counts.parts;
      has_count = sym (little_at_part file start bytes 48 h (omega arith)) ∙ counts.points ∙ ap pos (sym points);
      has_first_part = sym (little_at_part file start bytes 52 h (omega arith)) ∙ counts.first;
      is_filled = filled;
      has_points = points_from_read file unit start bytes 56 (start + 56) (closed corners) h (omega arith) refl are;
      has_enough = omega (arith, passes.distinct, distinct);
      has_not_too_many = omega (arith, counts.few);
    }

-- what a polygon of the format is to the reader
pub record IsReadPolygon (file : List ℕ) (unit : LengthUnit) (position start before : ℕ) (bytes : List ℕ)
    (corners : List Corner) : Type 0 where
  pub passes : PolygonPasses file unit position start before
  pub end : record_end file start ≡ start + length bytes
  pub count : length corners + 1 ≡ points_of file start
  pub are : AreReadAs unit file (start + 56) (closed corners)

pub read_from_polygon : (file : List ℕ) (unit : LengthUnit) (position start before : ℕ) (bytes : List ℕ)
    (corners : List Corner) → IsPolygon unit bytes corners
    → StandsAt file start bytes → position ≤ LAYER_RECORDS → start + length bytes ≤ declared_end file
    → before + length corners ≤ LAYER_CORNERS
    → IsReadPolygon file unit position start before bytes corners
read_from_polygon file unit position start before bytes corners polygon h few within together =
    let three : 3 ≤ length corners = omega (arith, polygon.has_enough, kept_fewer corners) in
    let some : 0 < length corners = omega arith in
    let points : length (closed corners) ≡ length corners + 1 = length_closed corners some in
    let filled : length bytes ≡ 56 + 16 * (length corners + 1) = omega (arith, polygon.is_filled) in
    let words : content_words file start ≡ pos (24 + 8 * (length corners + 1)) =
    big_at_part file start bytes 4 h (omega arith) ∙ omega (arith, ints, polygon.has_length) in
    let words_are = counted (24 + 8 * (length corners + 1)) (content_words file start) words in
    let count : point_count file start ≡ pos (length corners + 1) = little_at_part file start bytes 48 h (omega arith)
    ∙ polygon.has_count ∙ ap pos points in
    let count_is : points_of file start ≡ length corners + 1 = counted (length corners + 1) (point_count file start) count in
    let end : record_end file start ≡ start + length bytes = omega (arith, words_are) in
    let are = read_from_points file unit start bytes 56 (start + 56) (closed corners) h (omega arith) refl polygon.has_points in
    let one_less : points_of file start - 1 ≡ length corners = omega (arith, count_is) in
    let distinct = ap (λ n. distinct_points file unit (start + 56) n) one_less ∙ distinct_is file unit (start + 56) corners some are in
    record {
      passes = record {
        frame = record {
          few_records = few;
          room = omega arith;
          words = words ∙ ap pos (sym words_are);
          some = omega (arith, words_are);
          within = omega (arith, end);
        };
        type_is = little_at_part file start bytes 8 h (omega arith) ∙ polygon.has_type;
        counts = record {
          words = words ∙ ap pos (sym words_are);
          long = omega (arith, words_are);
          parts = little_at_part file start bytes 44 h (omega arith) ∙ polygon.has_one_part;
          points = count ∙ ap pos (sym count_is);
          enough = omega (arith, count_is);
          few = omega (arith, count_is, polygon.has_not_too_many);
          few_together = omega (arith, count_is);
          filled = omega (arith, words_are, count_is);
          first = little_at_part file start bytes 52 h (omega arith) ∙ polygon.has_first_part;
        };
        ring = ring_passes file unit position (start + 56) (points_of file start) corners some (sym count_is) are;
        distinct = omega (arith, polygon.has_enough, distinct);
      };
      end = end;
      count = sym count_is;
      are = are;
    }
