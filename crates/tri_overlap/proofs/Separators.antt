-- Two triangles whose interiors do not meet, and the edge that separates them.
use Rattle.std.proofs.Common.{◌↔◌, ◌⊎◌, inl, inr, ℤ, pos, ◌<ℤ◌, ◌≤ℤ◌, arith}
use Rattle.std.proofs.lemmas.Int.{ints, by_lt_z}
use Rattle.geo_exact.specs.declared.corner.Corner.{Corner}
use Rattle.geo_exact.specs.Turn.{turn}
use Rattle.geo_exact.specs.Interiors.{InteriorsMeet}
use Rattle.ring_core.specs.declared.triangle.Tri.{Tri}
use Rattle.ring_core.specs.Sums.{triangle_ring}
use Rattle.tri_overlap.specs.own.Pairs.{SeesSome, NoEdgeSeparates}
use Rattle.tri_overlap.specs.Separation.{IsBeyond, SomeEdgeSeparates}
use Rattle.tri_overlap.proofs.SeparatedTriangles.{meet_unseparated, unseparated_meet}

up_or_not : (z : ℤ) → (pos 0 <ℤ z) ⊎ (z ≤ℤ pos 0)
up_or_not z = by_lt_z (pos 0) z (λ p. inl p) (λ p. inr (omega (arith, ints, p)))

-- an edge sees some corner of a triangle, or has all of them on its right or on its line
sees_or_not : (g h : Corner) (t : Tri) → SeesSome g h t.a t.b t.c ⊎ IsBeyond g h t
sees_or_not g h t =
    elim (up_or_not (turn g h t.a)) [
      | inl a ↦ inl (inl a)
      | inr a ↦ elim (up_or_not (turn g h t.b)) [
        | inl b ↦ inl (inr (inl b))
        | inr b ↦ elim (up_or_not (turn g h t.c)) [
          | inl c ↦ inl (inr (inr c))
          | inr c ↦ inr (a, b, c)
        ]
      ]
    ]

none_or_some : (s t : Tri) → NoEdgeSeparates s t ⊎ SomeEdgeSeparates s t
none_or_some s t =
    elim (sees_or_not s.a s.b t) [
      | inr ab ↦ inr (inl ab)
      | inl ab ↦ elim (sees_or_not s.b s.c t) [
        | inr bc ↦ inr (inr (inl bc))
        | inl bc ↦ elim (sees_or_not s.c s.a t) [
          | inr ca ↦ inr (inr (inr ca))
          | inl ca ↦ inl (ab, bc, ca)
        ]
      ]
    ]

not_both : (g h : Corner) (t : Tri) → SeesSome g h t.a t.b t.c → IsBeyond g h t → ⊥
not_both g h t sees beyond =
    elim sees [
      | inl a ↦ apart (turn g h t.a) a beyond.0
      | inr o ↦ elim o [ inl b ↦ apart (turn g h t.b) b beyond.1 | inr c ↦ apart (turn g h t.c) c beyond.2 ]
    ]
  where
    apart : (z : ℤ) → pos 0 <ℤ z → z ≤ℤ pos 0 → ⊥
    apart z h k = omega (arith, ints)

none_nor_some : (s t : Tri) → NoEdgeSeparates s t → SomeEdgeSeparates s t → ⊥
none_nor_some s t none some =
    elim some [
      | inl ab ↦ not_both s.a s.b t none.0 ab
      | inr o ↦ elim o [ inl bc ↦ not_both s.b s.c t none.1 bc | inr ca ↦ not_both s.c s.a t none.2 ca ]
    ]

separated : (s t : Tri) → (InteriorsMeet (triangle_ring s) (triangle_ring t) → ⊥) → SomeEdgeSeparates s t ⊎ SomeEdgeSeparates t s
separated s t apart =
    elim (none_or_some s t) [
      | inr some ↦ inl some
      | inl none ↦ elim (none_or_some t s) [
        | inr other ↦ inr other
        | inl neither ↦ absurd (apart (meet_unseparated s t none neither))
      ]
    ]

apart_from_edge : (s t : Tri) → SomeEdgeSeparates s t ⊎ SomeEdgeSeparates t s
    → InteriorsMeet (triangle_ring s) (triangle_ring t) → ⊥
apart_from_edge s t some meet =
    let none = unseparated_meet s t meet in
    elim some [ inl h ↦ none_nor_some s t none.0 h | inr h ↦ none_nor_some t s none.1 h ]

-- two triangles have no common inner point exactly where an edge of one separates it from the other
pub apart_by_an_edge : (s t : Tri) → (¬ InteriorsMeet (triangle_ring s) (triangle_ring t))
    ↔ (SomeEdgeSeparates s t ⊎ SomeEdgeSeparates t s)
apart_by_an_edge s t = (separated s t, λ some meet. apart_from_edge s t some meet)
