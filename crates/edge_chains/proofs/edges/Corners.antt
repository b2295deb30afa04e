-- Undirected edges: their order, by their first corners and then by their second.
use Rattle.std.proofs.Common.{◌≡◌, ◌⊎◌, inl, inr, refl, sym, ◌∙◌, subst, ◌&&◌, Decides}
use Rattle.std.proofs.lemmas.Bool.Decides.{Decides-and, Decides-or}
use Rattle.geo_exact.specs.declared.corner.Corner.{Corner}
use Rattle.geo_exact.specs.Order.{is_same, is_before}
use Rattle.geo_exact.proofs.corners_and_turns.CornerOrder.{IsBefore, Decides-is_same, Decides-is_before}
use Rattle.geo_exact.proofs.corners_and_turns.CornerOrder.{before_irreflexive, before_transitive}
use Rattle.edge_chains.specs.Counts.{is_edge_before}

abbrev pub IsEdgeBefore : Corner × Corner → Corner × Corner → Type 0
IsEdgeBefore p q = IsBefore p.0 q.0 ⊎ ((p.0 ≡ q.0) × IsBefore p.1 q.1)

pub Decides-is_edge_before : (p q : Corner × Corner) → Decides (is_edge_before p q) (IsEdgeBefore p q)
Decides-is_edge_before p q =
    Decides-or (is_before p.0 q.0) (is_same p.0 q.0 && is_before p.1 q.1) (Decides-is_before p.0 q.0)
    (Decides-and (is_same p.0 q.0) (is_before p.1 q.1) (Decides-is_same p.0 q.0) (Decides-is_before p.1 q.1))

pub edge_before_irreflexive : (p : Corner × Corner) → ¬ IsEdgeBefore p p
edge_before_irreflexive p h =
    elim h [ inl q ↦ before_irreflexive p.0 p.0 q refl | inr q ↦ before_irreflexive p.1 p.1 q.1 refl ]

pub edge_before_transitive : (p q r : Corner × Corner) → IsEdgeBefore p q → IsEdgeBefore q r → IsEdgeBefore p r
edge_before_transitive p q r h k =
    elim h [
      | inl u ↦ elim k [ inl v ↦ inl (before_transitive p.0 q.0 r.0 u v) | inr v ↦ inl (subst (λ x. IsBefore p.0 x) v.0 u) ]
      | inr u ↦ elim k [
        | inl v ↦ inl (subst (λ x. IsBefore x r.0) (sym u.0) v)
        | inr v ↦
            inr (u.0 ∙ v.0, before_transitive p.1 q.1 r.1 u.1 v.1)
      ]
    ]
