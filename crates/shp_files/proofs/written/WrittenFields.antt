-- The numbers of the files that are written, read where they stand.
use Rattle.std.proofs.Common.{◌≡◌, ℕ, ◌+◌, ◌*◌, ◌^◌, ◌<◌, ◌≤◌, ℤ, pos, true, nat_lt, List, [], ◌∷◌}
use Rattle.std.proofs.Common.{◌++◌, length, drop, flat_map, refl, sym, ap, ◌∙◌, subst, arith, lit<, append_assoc}
use Rattle.std.proofs.Common.{length-append}
use Rattle.std.proofs.lemmas.Bool.{lt-ltb}
use Rattle.std.proofs.Math.Seq.{drop-append_seam}
use Rattle.byteorder.specs.Endian.{big_number, little_number, twos_complement}
use Rattle.byteorder.specs.Numbers.{big_number-reads_back, little_number-reads_back}
use Rattle.geo_exact.specs.declared.corner.Corner.{Corner}
use Rattle.geo_exact.specs.declared.coord.Unit.TheVariants.{Mm}
use Rattle.geo_exact.specs.Doubles.{bits_of}
use Rattle.geo_exact.specs.Grid.{IsOnGrid}
use Rattle.geo_exact.specs.Limit.{IsWithin, limit}
use Rattle.geo_exact.proofs.doubles.Doubles.{bits_fit, bits_on_grid}
use Rattle.geo_exact.specs.declared.limits.TheConstants.{RING_CORNERS}
use Rattle.shp_files.specs.Layout.{big_at, little_at, double_at}
use Rattle.shp_files.specs.LayerFile.{ArePoints, IsHeader, IsPolygon}
use Rattle.shp_files.specs.NormalForm.{kept_once}
use Rattle.shp_files.proofs.numbers.Sizes.{length-point, length-content, length-record, words_of_content}
use Rattle.shp_files.proofs.layers.Rings.{points_few}
use Rattle.shp_files.specs.Written.{as_written, big, little, double, zeros, point, box, words, points, content, record_bytes, header}

signed : (n : ℕ) → n < 2 ^ 31 → twos_complement 4 n ≡ pos n
signed n h = let e : nat_lt n (2 ^ 31) ≡ true = lt-ltb n (2 ^ 31) h in rw e refl

pub big_read : (n : ℕ) (bytes rest : List ℕ) (at : ℕ) → n < 2 ^ 31 → drop at bytes ≡ big n ++ rest → big_at bytes at ≡ pos n
unfolding big big_at
big_read n bytes rest at h is =
    ap (λ b. twos_complement 4 (big_number 4 b)) is
    ∙ ap (twos_complement 4) (big_number-reads_back 4 n rest (omega arith)) ∙ signed n h

pub little_read : (n : ℕ) (bytes rest : List ℕ) (at : ℕ) → n < 2 ^ 31 → drop at bytes ≡ little n ++ rest
    → little_at bytes at ≡ pos n
unfolding little little_at
little_read n bytes rest at h is =
    ap (λ b. twos_complement 4 (little_number 4 b)) is
    ∙ ap (twos_complement 4) (little_number-reads_back 4 n rest (omega arith)) ∙ signed n h

pub double_read : (k : ℤ) (bytes rest : List ℕ) (at : ℕ) → IsWithin limit k → drop at bytes ≡ double k ++ rest
    → double_at bytes at ≡ bits_of k
unfolding double double_at
double_read k bytes rest at within is = ap (little_number 8) is ∙ little_number-reads_back 8 (bits_of k) rest (bits_fit k within)

-- ---- the header
pub header_whole : (n : ℕ) (corners : List Corner) → length (header n corners) ≡ 100
unfolding header big little zeros box double
header_whole n corners = refl

at_code : (n : ℕ) (corners : List Corner) → header n corners ≡ big 9994 ++ (zeros 20 ++ big n ++ little 1000
    ++ little 5 ++ box corners ++ zeros 32)
unfolding header big little zeros box double
at_code n corners = refl

at_words : (n : ℕ) (corners : List Corner) → drop 24 (header n corners)
    ≡ big n ++ (little 1000 ++ little 5 ++ box corners ++ zeros 32)
unfolding header big little zeros box double
at_words n corners = refl

at_version : (n : ℕ) (corners : List Corner) → drop 28 (header n corners) ≡ little 1000 ++ (little 5 ++ box corners ++ zeros 32)
unfolding header big little zeros box double
at_version n corners = refl

at_header_type : (n : ℕ) (corners : List Corner) → drop 32 (header n corners) ≡ little 5 ++ (box corners ++ zeros 32)
unfolding header big little zeros box double
at_header_type n corners = refl

pub header_is : (n declared : ℕ) (corners : List Corner) → n < 2 ^ 31 → declared ≡ 2 * n → IsHeader (header n corners) declared
header_is n declared corners h is = record {
  is_whole = header_whole n corners;
  has_code = big_read 9994 _ _ 0 (lit< tt) (at_code n corners);
  has_length = rw (big_read n _ _ 24 h (at_words n corners), is) refl;
  has_version = little_read 1000 _ _ 28 (lit< tt) (at_version n corners);
  has_type = little_read 5 _ _ 32 (lit< tt) (at_header_type n corners);
}

-- ---- points
there : (front after bytes : List ℕ) (at : ℕ) → bytes ≡ front ++ after → length front ≡ at → drop at bytes ≡ after
there front after bytes at is long = rw (is, ← long) (drop-append_seam front after)

length-double : (k : ℤ) → length (double k) ≡ 8
unfolding double
length-double k = refl

point_is : (corner : Corner) (front rest : List ℕ) → front ++ (point corner ++ rest)
    ≡ front ++ (double corner.x ++ (double corner.y ++ rest))
unfolding point
point_is corner front rest = simp append_assoc

-- points are read where they stand
pub are_points : (front bytes : List ℕ) (at : ℕ) (corners : List Corner) → bytes ≡ front ++ flat_map point corners
    → length front ≡ at
    → ArePoints Mm bytes at corners
are_points front bytes at [] is long = tt
are_points front bytes at (corner ∷ rest) is long =
    let split : bytes ≡ front ++ (double corner.x ++ (double corner.y ++ flat_map point rest)) =
    is ∙ point_is corner front (flat_map point rest) in
    let x_is : double_at bytes at ≡ bits_of corner.x = double_read corner.x bytes _ at corner.x_in_range
    (there front _ bytes at split long) in
    let y_is : double_at bytes (at + 8) ≡ bits_of corner.y =
    double_read corner.y bytes _ (at + 8) corner.y_in_range
    (there (front ++ double corner.x) _ bytes (at + 8) (split ∙ sym (append_assoc front (double corner.x) _))
    (simp length-append (omega (arith, long, length-double corner.x)))) in
    let P : ℤ → ℕ → Type 0 = λ k. λ bits. IsOnGrid bits Mm k in (
      subst (P corner.x) (sym x_is) (bits_on_grid corner.x corner.x_in_range),
      subst (P corner.y) (sym y_is) (bits_on_grid corner.y corner.y_in_range),
      are_points (front ++ point corner) bytes (at + 16) rest (is ∙ sym (append_assoc front (point corner) (flat_map point rest)))
          (simp length-append (omega (arith, long, length-point corner))),
    )

-- ---- a record
before_points : ℕ → List Corner → List ℕ
before_points number ring =
    big number ++ big (words (content ring)) ++ little 5 ++ box ring ++ little 1 ++ little (length (points ring)) ++ little 0

pub at_content_words : (number : ℕ) (ring : List Corner) → drop 4 (record_bytes number ring)
    ≡ big (words (content ring)) ++ content ring
unfolding record_bytes big
at_content_words number ring = refl

at_type : (number : ℕ) (ring : List Corner)
    → drop 8 (record_bytes number ring) ≡ little 5 ++ (box ring ++ little 1 ++ little (length (points ring))
    ++ little 0 ++ flat_map point (points ring))
unfolding record_bytes content big little box double
at_type number ring = refl

at_part_count : (number : ℕ) (ring : List Corner)
    → drop 44 (record_bytes number ring) ≡ little 1 ++ (little (length (points ring)) ++ little 0 ++ flat_map point (points ring))
unfolding record_bytes content big little box double
at_part_count number ring = refl

at_point_count : (number : ℕ) (ring : List Corner)
    → drop 48 (record_bytes number ring) ≡ little (length (points ring)) ++ (little 0 ++ flat_map point (points ring))
unfolding record_bytes content big little box double
at_point_count number ring = refl

at_first_part : (number : ℕ) (ring : List Corner) → drop 52 (record_bytes number ring) ≡ little 0 ++ flat_map point (points ring)
unfolding record_bytes content big little box double
at_first_part number ring = refl

at_points : (number : ℕ) (ring : List Corner) → record_bytes number ring ≡ before_points number ring ++ flat_map point (points ring)
unfolding record_bytes content before_points big little box double
at_points number ring = refl

length-before_points : (number : ℕ) (ring : List Corner) → length (before_points number ring) ≡ 56
unfolding before_points big little box double
length-before_points number ring = refl

pub record_is : (number : ℕ) (ring : List Corner) → 3 ≤ length ring → length ring ≤ RING_CORNERS
    → length (as_written ring) ≡ length ring
    → kept_once (as_written ring) ≡ as_written ring → IsPolygon Mm (record_bytes number ring) (as_written ring)
record_is number ring enough few same whole =
    let count = points_few ring in
    let size = length-record number ring in
    let filled = length-content ring in
    let half = words_of_content ring in
    record {
      has_length = rw (
        size,
        filled,
        big_read (words (content ring)) (record_bytes number ring) _ 4 (omega arith)
            (at_content_words number ring),
        half,
      ) (ap pos (omega arith));
      has_type = little_read 5 _ _ 8 (lit< tt) (at_type number ring);
      has_one_part = little_read 1 _ _ 44 (lit< tt) (at_part_count number ring);
      has_count = little_read (length (points ring)) _ _ 48 (omega arith) (at_point_count number ring);
      has_first_part = little_read 0 _ _ 52 (lit< tt) (at_first_part number ring);
      is_filled = omega (arith, size, filled);
      has_points = are_points (before_points number ring) (record_bytes number ring) 56 (points ring)
          (at_points number ring) (length-before_points number ring);
      has_enough = rw whole (omega (arith, same));
      has_not_too_many = omega (arith, same);
    }
