-- What is written at the end of a list of bytes.
use Rattle.std.proofs.Common.{◌≡◌, ℕ, ℤ, List, [], ◌++◌, Result, Ok, Err, cond, ap, ◌∙◌, arith, FitsSigned, to_z}
use Rattle.std.proofs.Common.{of_z, OnOk, append_assoc}
use Rattle.std.specs.Result.{is_ok}
use Rattle.std.specs.Int.{w64}
use Rattle.std.proofs.lemmas.Int.{ints, to_z-of_z}
use Rattle.byteorder.specs.Endian.{little_bytes}
use Rattle.geo_exact.specs.Doubles.{bits_of}
use Rattle.geo_exact.specs.Limit.{IsWithin, limit}
use Rattle.geo_exact.specs.declared.corner.Corner.{Corner}
use Rattle.shp_files.specs.Written.{double, point}

pub extended : {T E : Type 0} (r : Result T E) (old bytes new wanted : List ℕ)
    → new ≡ cond (is_ok r) (old ++ bytes) old → bytes ≡ wanted
    → OnOk r (new ≡ old ++ wanted)
extended (Ok x) old bytes new wanted e is = e ∙ ap (λ b. old ++ b) is
extended (Err x) old bytes new wanted e is = tt

coordinate_in : (z : ℤ) (bits : ℕ) → IsWithin limit z → bits ≡ bits_of (to_z w64 (of_z w64 z)) → bits ≡ bits_of z
coordinate_in z bits within e = let fits : FitsSigned w64 z = omega (arith, ints) in simp to_z-of_z at e

-- a point's bytes, as the code computes them
pub point_bytes : (corner : Corner) (x y : ℕ) → x ≡ bits_of (to_z w64 (of_z w64 corner.x))
    → y ≡ bits_of (to_z w64 (of_z w64 corner.y))
    → little_bytes 8 x ++ little_bytes 8 y ≡ point corner
unfolding point double
point_bytes corner x y h k =
    rw (coordinate_in corner.x x corner.x_in_range h, coordinate_in corner.y y corner.y_in_range k)
    (λ i. little_bytes 8 (bits_of corner.x) ++ little_bytes 8 (bits_of corner.y))

-- two pieces, the second by a call whose answer is handed on
pub appended : {T E : Type 0} (r : Result T E) (old a b mid new wanted : List ℕ) → mid ≡ old ++ a
    → OnOk r (new ≡ mid ++ b) → a ++ b ≡ wanted
    → OnOk r (new ≡ old ++ wanted)
appended (Ok x) old a b mid new wanted first second is = second ∙ ap (λ m. m ++ b) first ∙ append_assoc old a b
    ∙ ap (λ w. old ++ w) is
appended (Err x) old a b mid new wanted first second is = tt

-- two pieces
pub more : (old a b mid new : List ℕ) → mid ≡ old ++ a → new ≡ mid ++ b → new ≡ old ++ (a ++ b)
more old a b mid new first second = second ∙ ap (λ m. m ++ b) first ∙ append_assoc old a b

-- two pieces, where nothing was written before
pub both : (start a b mid new : List ℕ) → start ≡ [] → mid ≡ start ++ a → new ≡ mid ++ b → new ≡ a ++ b
both start a b mid new none first second = second ∙ ap (λ m. m ++ b) (first ∙ ap (λ s. s ++ a) none)
