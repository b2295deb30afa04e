-- The steps of the clipping, as a loop makes them.
use Rattle.std.proofs.Common.{◌≡◌, ℕ, ◌+◌, ◌<◌, ap, arith, List, [], ◌∷◌, ◌++◌, length}
use Rattle.std.specs.List.{remove}
use Rattle.std.proofs.lemmas.List.Edits.{length-remove}
use Rattle.geo_exact.specs.declared.corner.Corner.{Corner}
use Rattle.ring_core.specs.declared.triangle.Tri.{Tri}
use Rattle.ring_core.specs.Clipping.{IsFlat, IsEar, IsTriangleAt, Clips, untouched, flat, ear}
use Rattle.geo_exact.specs.First.{HasNone, IsFirst}

pub clip_start : (ring rest : List Corner) (ts : List Tri) → ts ≡ [] → rest ≡ ring → Clips ring ts rest
clip_start ring rest ts e f = rw (e, f) untouched

pub clip_flat : (ring rest rest' : List Corner) (ts : List Tri) (k : ℕ) → Clips ring ts rest → 2 < length rest
    → IsFirst (IsFlat rest) (length rest) k
    → rest' ≡ remove rest k → Clips ring ts rest'
clip_flat ring rest rest' ts k c l f e = rw e (flat k c l f)

pub clip_ear : (ring rest rest' : List Corner) (ts ts' : List Tri) (k : ℕ) (t : Tri) → Clips ring ts rest → 2 < length rest
    → HasNone (IsFlat rest) (length rest) → IsFirst (IsEar rest) (length rest) k → IsTriangleAt rest k t
    → ts' ≡ ts ++ t ∷ [] → rest' ≡ remove rest k → Clips ring ts' rest'
clip_ear ring rest rest' ts ts' k t c l n f s d e = rw (d, e) (ear k t c l n f s)

pub one_less : (rest rest' : List Corner) (k : ℕ) → k < length rest → rest' ≡ remove rest k → length rest' + 1 ≡ length rest
one_less rest rest' k h e = omega (arith, ap length e, length-remove rest k h)
