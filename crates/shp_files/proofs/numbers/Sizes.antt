-- How many bytes the parts of a file have.
use Rattle.std.proofs.Common.{◌≡◌, ℕ, ◌+◌, ◌*◌, List, [], ◌∷◌, length, flat_map, refl, arith, length-append}
use Rattle.geo_exact.specs.declared.corner.Corner.{Corner}
use Rattle.shp_files.specs.Written.{big, little, double, point, box, points, words, content, record_bytes}

pub length-big : (n : ℕ) → length (big n) ≡ 4
unfolding big
length-big n = refl

length-little : (n : ℕ) → length (little n) ≡ 4
unfolding little
length-little n = refl

length-box : (corners : List Corner) → length (box corners) ≡ 32
unfolding box double
length-box corners = refl

pub length-point : (corner : Corner) → length (point corner) ≡ 16
unfolding point double
length-point corner = refl

pub length-points_bytes : (corners : List Corner) → length (flat_map point corners) ≡ 16 * length corners
length-points_bytes [] = refl
length-points_bytes (corner ∷ rest) =
    simp length-append (omega (arith, length-point corner, length-points_bytes rest))

pub length-content : (ring : List Corner) → length (content ring) ≡ 48 + 16 * length (points ring)
unfolding content
length-content ring =
    simp length-append
    (omega (
      arith,
      length-little 5,
      length-box ring,
      length-little 1,
      length-little (length (points ring)),
      length-little 0,
      length-points_bytes (points ring),
    ))

pub words_of_content : (ring : List Corner) → words (content ring) ≡ 24 + 8 * length (points ring)
words_of_content ring = rw length-content (omega arith)

pub length-record : (number : ℕ) (ring : List Corner) → length (record_bytes number ring) ≡ 8 + length (content ring)
unfolding record_bytes
length-record number ring = simp length-append (omega (arith, length-big number, length-big (words (content ring))))
