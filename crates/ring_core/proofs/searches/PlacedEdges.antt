-- Edges of a ring that are listed by their places.
use Rattle.std.proofs.Common.{◌≡◌, ◌∙◌, ℕ, ◌<◌, ◌≤◌, ◌⊎◌, List, length, get_or, ap, sym, subst, arith, inl, inr}
use Rattle.std.specs.Prelude.{IsPermutation}
use Rattle.geo_exact.specs.declared.corner.Corner.{Corner}
use Rattle.geo_exact.specs.Bounds.{IsBeyondBox}
use Rattle.geo_exact.specs.Places.{after, corner_at}
use Rattle.geo_exact.specs.Point.{Point}
use Rattle.leaning_boxes.specs.declared.leaning.LeaningBox.{LeaningBox}
use Rattle.std.proofs.lemmas.Bool.{cases_lt}
use Rattle.ring_core.specs.Simple.{MeetOnlyAsNeighbours}
use Rattle.ring_core.specs.own.EdgePairs.{HaveCommonPoint}
use Rattle.leaning_boxes.proofs.Besides.{not_beyond}
use Rattle.std.proofs.lemmas.List.{get_or_read}
use Rattle.std.proofs.lemmas.List.Elements.{Contains-get_or}
use Rattle.std.proofs.lemmas.List.Sorted.{Contains-permutation, IsPermutation-sym}
use Rattle.ring_core.specs.declared.by_place.Placed.{Placed}
use Rattle.ring_core.specs.own.ByPlace.{AreClear, AreEdgesOf, HoldsEdge, edge_at}

abbrev none : Placed
none = record { place = 0; edge = 0 }

-- a list in another order has the same edges
pub edges_permuted : (n : ℕ) (old new : List Placed) → IsPermutation old new → length new ≡ length old → AreEdgesOf n old → AreEdgesOf n new
edges_permuted n old new same long are = record {
  as_many = long ∙ are.as_many;
  in_ring = λ p b.
      let it = get_or new p none in
      let h = Contains-permutation new old it (IsPermutation-sym old new same) (Contains-get_or new p none b) in
      subst (λ (x : Placed). x.edge < n) (sym (get_or_read old h.0 it h.1 (sym h.2) none)) (are.in_ring h.0 h.1);
  each = λ i b.
      let w = are.each i b in
      let it = get_or old w.0 none in
      let h = Contains-permutation old new it same (Contains-get_or old w.0 none w.1) in
      (h.0, h.1, ap (λ (x : Placed). x.edge) (sym (get_or_read new h.0 it h.1 (sym h.2) none)) ∙ w.2);
}

module _ (ring : List Corner) (i j : ℕ) where
  -- edges without a common point meet nowhere
  pub clear_without_point : (HaveCommonPoint (corner_at ring i) (corner_at ring (after (length ring) i)) (corner_at ring j)
      (corner_at ring (after (length ring) j)) → ⊥) → AreClear ring i j
  clear_without_point h = (λ _ m. h (m.0, m.1, m.2), λ _ m. h (m.0, m.2, m.1))

  -- edges in boxes of which each place is beyond one meet nowhere
  pub clear_in_boxes_apart : (box other : LeaningBox) → HoldsEdge box ring i → HoldsEdge other ring j
      → ((p : Point) → IsBeyondBox p box.bounds ⊎ IsBeyondBox p other.bounds) → AreClear ring i j
  clear_in_boxes_apart box other hi hj apart = clear_without_point (λ m. elim (apart m.0) [
    | inl o ↦ not_beyond box.bounds _ _ hi.0.inside hi.1.inside m.0 m.1 o
    | inr o ↦ not_beyond other.bounds _ _ hj.0.inside hj.1.inside m.0 m.2 o
  ])

-- where edges at any two places are clear, so are all
pub all_clear : (ring : List Corner) (list : List Placed) → AreEdgesOf (length ring) list
    → ((p q : ℕ) → p ≤ q → q < length list → AreClear ring (edge_at list p) (edge_at list q)) → MeetOnlyAsNeighbours ring
all_clear ring list are clear i j o b =
    let x = are.each i (omega (arith, o, b)) in let y = are.each j b in
    elim (cases_lt y.0 x.0) [
      | inl q ↦ (of_numbers y.0 x.0 j i y.2 x.2 (clear y.0 x.0 (omega (arith, q)) x.1)).1 o
      | inr q ↦ (of_numbers x.0 y.0 i j x.2 y.2 (clear x.0 y.0 q y.1)).0 o
    ]
  where
    of_numbers : (p q k l : ℕ) → edge_at list p ≡ k → edge_at list q ≡ l → AreClear ring (edge_at list p) (edge_at list q)
        → AreClear ring k l
    of_numbers p q k l e f h = subst (λ m. AreClear ring k m) f (subst (λ m. AreClear ring m (edge_at list q)) e h)
