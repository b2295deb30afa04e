-- The clipping of a ring ends in one way.
use Rattle.std.proofs.Common.{◌≡◌, ◌⊎◌, ℕ, ◌<◌, ◌∙◌, sym, refl, subst, arith, inl, inr, List, [], ◌∷◌}
use Rattle.std.proofs.Common.{◌++◌, length}
use Rattle.std.specs.List.{remove}
use lib.IntN.{ℤ, pos}
use lib.Signed.{◌<ℤ◌}
use lib.Dec.{T_prop}
use mathlib.Core.HLevel.{is_prop→PathP}
use Rattle.geo_exact.specs.declared.corner.Corner.{Corner}
use Rattle.geo_exact.specs.Turn.{turn}
use Rattle.ring_core.specs.declared.triangle.Tri.{Tri}
use Rattle.ring_core.specs.Clipping.{IsFlat, IsEar, IsTriangleAt, Clips, untouched, flat, ear, IsClippedTo}
use Rattle.geo_exact.specs.First.{HasNone, IsFirst}
use Rattle.geo_exact.proofs.numbers.Firsts.{first_same}

-- ---- one step is determined
above_prop : (z : ℤ) → IsProp (pos 0 <ℤ z)
above_prop z = hlevel T_prop

-- triangles are equal where their corners are
tri_same : (s t : Tri) → s.a ≡ t.a → s.b ≡ t.b → s.c ≡ t.c → s ≡ t
tri_same s t e f g = λ i. record {
  a = e i;
  b = f i;
  c = g i;
  turns_left = is_prop→PathP (λ j. pos 0 <ℤ turn (e j) (f j) (g j)) (λ j. above_prop (turn (e j) (f j) (g j)))
      s.turns_left t.turns_left i;
}

same_triangle : (rest : List Corner) (k : ℕ) (s t : Tri) → IsTriangleAt rest k s → IsTriangleAt rest k t → s ≡ t
same_triangle rest k s t h g = tri_same s t (h.a ∙ sym g.a) (h.b ∙ sym g.b) (h.c ∙ sym g.c)

-- ---- steps that lead from one state to another, the first step first
data Leads : List Tri → List Corner → List Tri → List Corner → Type 0 where
  here : {ts : List Tri} {rest : List Corner} → Leads ts rest ts rest
  by_flat : {ts us : List Tri} {rest other : List Corner} (k : ℕ) → 2 < length rest → IsFirst (IsFlat rest) (length rest) k
      → Leads ts (remove rest k) us other → Leads ts rest us other
  by_ear : {ts us : List Tri} {rest other : List Corner} (k : ℕ) (t : Tri) → 2 < length rest → HasNone (IsFlat rest) (length rest)
      → IsFirst (IsEar rest) (length rest) k → IsTriangleAt rest k t → Leads (ts ++ t ∷ []) (remove rest k) us other
      → Leads ts rest us other

leads_flat : {ts us : List Tri} {rest other : List Corner} (k : ℕ) → Leads ts rest us other → 2 < length other
    → IsFirst (IsFlat other) (length other) k
    → Leads ts rest us (remove other k)
leads_flat k here l f = by_flat k l f here
leads_flat k (by_flat j m g c) l f = by_flat j m g (leads_flat k c l f)
leads_flat k (by_ear j t m n g s c) l f = by_ear j t m n g s (leads_flat k c l f)

leads_ear : {ts us : List Tri} {rest other : List Corner} (k : ℕ) (t : Tri) → Leads ts rest us other
    → 2 < length other → HasNone (IsFlat other) (length other)
    → IsFirst (IsEar other) (length other) k → IsTriangleAt other k t → Leads ts rest (us ++ t ∷ []) (remove other k)
leads_ear k t here l n f s = by_ear k t l n f s here
leads_ear k t (by_flat j m g c) l n f s = by_flat j m g (leads_ear k t c l n f s)
leads_ear k t (by_ear j u m o g r c) l n f s = by_ear j u m o g r (leads_ear k t c l n f s)

leads_from_clips : {ring : List Corner} {ts : List Tri} {rest : List Corner} → Clips ring ts rest → Leads [] ring ts rest
leads_from_clips untouched = here
leads_from_clips (flat k c l f) = leads_flat k (leads_from_clips c) l f
leads_from_clips (ear k t c l n f s) = leads_ear k t (leads_from_clips c) l n f s

-- ---- of two ways from one state, one goes on where the other stops
past_flat : {ts us : List Tri} {rest other : List Corner} (k : ℕ) → Leads ts rest us other → 2 < length rest
    → IsFirst (IsFlat rest) (length rest) k
    → Leads ts (remove rest k) us other ⊎ Leads us other ts (remove rest k)
past_flat k here l f = inr (by_flat k l f here)
past_flat {ts} {us} {rest} {other} k (by_flat j m g c) l f =
    inl (subst (λ i. Leads ts (remove rest i) us other) (first_same (IsFlat rest) (length rest) j k g f) c)
past_flat k (by_ear j t m n g s c) l f = absurd (n k f.below f.has)

past_ear : {ts us : List Tri} {rest other : List Corner} (k : ℕ) (t : Tri) → Leads ts rest us other → 2 < length rest
    → HasNone (IsFlat rest) (length rest)
    → IsFirst (IsEar rest) (length rest) k → IsTriangleAt rest k t
    → Leads (ts ++ t ∷ []) (remove rest k) us other ⊎ Leads us other (ts ++ t ∷ []) (remove rest k)
past_ear k t here l n f s = inr (by_ear k t l n f s here)
past_ear k t (by_flat j m g c) l n f s = absurd (n j g.below g.has)
past_ear {ts} {us} {rest} {other} k t (by_ear j u m o g r c) l n f s =
    let e : j ≡ k = first_same (IsEar rest) (length rest) j k g f in
    let d : u ≡ t = same_triangle rest k u t (subst (λ i. IsTriangleAt rest i u) e r) s in
    inl (subst (λ v. Leads (ts ++ v ∷ []) (remove rest k) us other) d
    (subst (λ i. Leads (ts ++ u ∷ []) (remove rest i) us other) e c))

compare : {ring : List Corner} {ts us : List Tri} {rest other : List Corner} → Clips ring ts rest → Clips ring us other
    → Leads ts rest us other ⊎ Leads us other ts rest
compare untouched d = inl (leads_from_clips d)
compare (flat k c l f) d = elim (compare c d) [ inl w ↦ past_flat k w l f | inr w ↦ inr (leads_flat k w l f) ]
compare (ear k t c l n f s) d = elim (compare c d) [ inl w ↦ past_ear k t w l n f s | inr w ↦ inr (leads_ear k t w l n f s) ]

-- two corners are left: there is no further step
at_end : {ts us : List Tri} {rest other : List Corner} → length rest ≡ 2 → Leads ts rest us other → ts ≡ us
at_end e here = refl
at_end e (by_flat k l f c) = absurd (omega arith)
at_end e (by_ear k t l n f s c) = absurd (omega arith)

pub one_way : (ring : List Corner) (ts us : List Tri) → IsClippedTo ring ts → IsClippedTo ring us → ts ≡ us
one_way ring ts us (rest, c, e) (other, d, f) = elim (compare c d) [
  | inl w ↦ at_end e w
  | inr w ↦ sym (at_end f w)
]
