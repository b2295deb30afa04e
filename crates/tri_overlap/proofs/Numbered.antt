-- Overlaps within one list, by the numbers of the two triangles.
use Rattle.std.proofs.Common.{◌≡◌, refl, ◌∙◌, ℕ, ◌<◌, List, length, get_or}
use Rattle.std.proofs.lemmas.Option.{slice_get_read, slice_get_within, get_or_from_slice_get}
use Rattle.geo_exact.specs.Interiors.{InteriorsMeet}
use Rattle.ring_core.specs.declared.triangle.Tri.{Tri}
use Rattle.ring_core.specs.Sums.{triangle_ring}
use Rattle.tri_overlap.specs.Folding.{OverlapAt}

pub overlap_of : (ts : List Tri) (i j : ℕ) (s t : Tri) → i < length ts → j < length ts → s ≡ get_or ts i s → t ≡ get_or ts j t
    → InteriorsMeet (triangle_ring s) (triangle_ring t) → OverlapAt ts i j
overlap_of ts i j s t h k e f m = record {
  one = s;
  other = t;
  at_i = slice_get_read ts (length ts) i s refl h e;
  at_j = slice_get_read ts (length ts) j t refl k f;
  meet = m;
}

pub meet_of : (ts : List Tri) (i j : ℕ) (s t : Tri) → s ≡ get_or ts i s → t ≡ get_or ts j t → OverlapAt ts i j
    → InteriorsMeet (triangle_ring s) (triangle_ring t)
meet_of ts i j s t e f o =
    let u : s ≡ o.one = e ∙ get_or_from_slice_get ts i o.one s o.at_i in
    let v : t ≡ o.other = f ∙ get_or_from_slice_get ts j o.other t o.at_j in
    rw (u, v) o.meet

pub second_in_list : (ts : List Tri) (i j : ℕ) → OverlapAt ts i j → j < length ts
second_in_list ts i j o = slice_get_within ts j o.other o.at_j
