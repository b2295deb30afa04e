-- A ring can be noded for any corners: those that lie strictly inside an edge are put into it one after the other, each
-- where it belongs along the edge.
use Rattle.std.proofs.Common.{◌≡◌, ◌⊎◌, inl, inr, ⊎_elim, refl, sym, ◌∙◌, subst, arith, false, ℤ, pos, ◌*ℤ◌}
use Rattle.std.proofs.Common.{List, [], ◌∷◌, ◌++◌}
use Rattle.std.specs.Prelude.{◌↔◌}
use Rattle.std.specs.List.{Contains, AllZip}
use Rattle.std.specs.Int.{int_min, int_max}
use Rattle.std.proofs.lemmas.Int.{ints, clamps}
use Rattle.std.proofs.lemmas.Bool.Decides.{not_from_Decides}
use lib.Signed.{◌≤ℤ◌}
use Rattle.geo_exact.specs.declared.corner.Corner.{Corner}
use Rattle.geo_exact.specs.Order.{is_same}
use Rattle.geo_exact.specs.Point.{corner_point}
use Rattle.geo_exact.specs.Rings.{Edge, edges}
use Rattle.geo_exact.specs.Segments.{IsStrictlyInside}
use Rattle.geo_exact.specs.Turn.{IsOnEdge}
use Rattle.geo_exact.proofs.corners_and_turns.CornerOrder.{Decides-is_same, cases_of}
use Rattle.geo_exact.proofs.corners_and_turns.SameCorner.{corner_same}
use Rattle.edge_chains.specs.Noding.{AreAlong, IsNodedEdge, AreNodedEdges, IsNoded}
use Rattle.edge_chains.specs.own.Inside.{is_strictly_inside}
use Rattle.edge_chains.proofs.edges.Inside.{Decides-is_strictly_inside}
use Rattle.edge_chains.proofs.edges.Parts.{on_parts}
use Rattle.edge_chains.proofs.nodings.NodedEdges.{none_in_nil, Contains-here, Contains-there, Contains-cases}

-- ---- corners on one line
pinned : (a c x : ℤ) → (int_min a x *ℤ pos 1) ≤ℤ c → c ≤ℤ (int_max a x *ℤ pos 1) → (int_min a c *ℤ pos 1) ≤ℤ x
    → x ≤ℤ (int_max a c *ℤ pos 1) → c ≡ x
pinned a c x h i j k = omega (arith, ints, clamps)

-- two corners that each lie between a and the other are one
pub each_on_other : (a c x : Corner) → IsOnEdge (corner_point c) a x → IsOnEdge (corner_point x) a c → c ≡ x
each_on_other a c x h k =
    corner_same c x (pinned a.x c.x x.x h.from_x h.to_x k.from_x k.to_x) (pinned a.y c.y x.y h.from_y h.to_y k.from_y k.to_y)

-- of two corners inside an edge, the later one is inside what is left behind the earlier one
later_inside : (a b c x : Corner) → IsStrictlyInside c a x → IsStrictlyInside c a b → IsStrictlyInside x a b → IsStrictlyInside x c b
later_inside a b c x before whole later = ⊎_elim
    (λ on. absurd (before.not_end (each_on_other a c x before.on_edge on)))
    (λ on. record { on_edge = on; not_start = λ e. before.not_end (sym e); not_end = later.not_end })
    (on_parts (corner_point x) a b c whole later.on_edge)

-- ---- one more corner along an edge
-- the corners of the second list, in order along the edge, are those of the first and c
record IsPutAlong (a b c : Corner) (xs ys : List Corner) : Type 0 where
  along : AreAlong a ys b
  exactly : (d : Corner) → Contains ys d ↔ ((d ≡ c) ⊎ Contains xs d)

here_or_there : (c : Corner) (xs : List Corner) (d : Corner) → Contains (c ∷ xs) d ↔ ((d ≡ c) ⊎ Contains xs d)
here_or_there c xs d = (
  λ h. ⊎_elim (λ e. inl (sym e)) (λ k. inr k) (Contains-cases c xs d h),
  λ h. ⊎_elim (λ e. subst (Contains (c ∷ xs)) (sym e) (Contains-here c xs)) (λ k. Contains-there c xs d k) h,
)

put_along : (a b c : Corner) (xs : List Corner) → AreAlong a xs b → IsStrictlyInside c a b → (ys : List Corner) × IsPutAlong a b c xs ys
put_along a b c [] along i = (c ∷ [], record { along = (i, tt); exactly = here_or_there c [] })
put_along a b c (x ∷ rest) along i =
    where_it_is (λ inside. put_along x b c rest along.1 inside) (cases_of (is_same c x) (Decides-is_same c x))
  where
    there_already : c ≡ x → IsPutAlong a b c (x ∷ rest) (x ∷ rest)
    there_already same = record {
      along = along;
      exactly = λ d. (
        λ k. inr k,
        λ h. ⊎_elim (λ e. subst (Contains (x ∷ rest)) (sym (e ∙ same)) (Contains-here x rest)) (λ k. k) h,
      );
    }

    first_of_all : IsStrictlyInside c a x → IsPutAlong a b c (x ∷ rest) (c ∷ x ∷ rest)
    first_of_all before = record {
      along = (i, (later_inside a b c x before i along.0, along.1));
      exactly = here_or_there c (x ∷ rest);
    }

    behind : (w : (ys : List Corner) × IsPutAlong x b c rest ys) → IsPutAlong a b c (x ∷ rest) (x ∷ w.0)
    behind w = record {
      along = (along.0, w.1.along);
      exactly = λ d. (
        λ k. ⊎_elim (λ e. inr (subst (Contains (x ∷ rest)) e (Contains-here x rest)))
            (λ m. ⊎_elim (λ e. inl e) (λ n. inr (Contains-there x rest d n)) ((w.1.exactly d).0 m))
            (Contains-cases x w.0 d k),
        λ h. ⊎_elim (λ e. Contains-there x w.0 d ((w.1.exactly d).1 (inl e)))
            (λ k. ⊎_elim (λ e. subst (Contains (x ∷ w.0)) e (Contains-here x w.0))
            (λ n. Contains-there x w.0 d ((w.1.exactly d).1 (inr n))) (Contains-cases x rest d k))
            h,
      );
    }

    where_it_is : (IsStrictlyInside c x b → (ys : List Corner) × IsPutAlong x b c rest ys) → (c ≡ x) ⊎ (is_same c x ≡ false)
        → (ys : List Corner) × IsPutAlong a b c (x ∷ rest) ys
    where_it_is further (inl same) = (x ∷ rest, there_already same)
    where_it_is further (inr other) =
        let apart : (c ≡ x → ⊥) = not_from_Decides (is_same c x) (Decides-is_same c x) other in
        ⊎_elim
        (λ on. (c ∷ x ∷ rest, first_of_all (record { on_edge = on; not_start = i.not_start; not_end = apart })))
        (λ on. let w = further (record { on_edge = on; not_start = apart; not_end = i.not_end }) in
        (x ∷ w.0, behind w))
        (on_parts (corner_point c) a b x along.0 i.on_edge)

-- ---- edges and rings
node_edge : (corners : List Corner) (edge : Edge) → (inserted : List Corner) × IsNodedEdge corners edge inserted
node_edge [] edge = (
  [],
  record {
    exactly = λ c. (λ h. absurd (none_in_nil c h), λ h. absurd (none_in_nil c h.0));
    in_order = tt;
  },
)
node_edge (c ∷ corners) edge =
    with_or_without (node_edge corners edge)
    (cases_of (is_strictly_inside c edge.from edge.to) (Decides-is_strictly_inside c edge.from edge.to))
  where
    with_it : (w : (inserted : List Corner) × IsNodedEdge corners edge inserted) → IsStrictlyInside c edge.from edge.to
        → (inserted : List Corner) × IsNodedEdge (c ∷ corners) edge inserted
    with_it w i = let put = put_along edge.from edge.to c w.0 w.1.in_order i in (
      put.0,
      record {
        exactly = λ d. (
          λ h. ⊎_elim
              (λ e. (
                subst (Contains (c ∷ corners)) (sym e) (Contains-here c corners),
                subst (λ z. IsStrictlyInside z edge.from edge.to) (sym e) i,
              ))
              (λ k. let r = (w.1.exactly d).0 k in (Contains-there c corners d r.0, r.1))
              ((put.1.exactly d).0 h),
          λ h. ⊎_elim (λ e. (put.1.exactly d).1 (inl (sym e))) (λ k. (put.1.exactly d).1 (inr ((w.1.exactly d).1 (k, h.1))))
              (Contains-cases c corners d h.0),
        );
        in_order = put.1.along;
      },
    )

    without_it : (w : (inserted : List Corner) × IsNodedEdge corners edge inserted) → ¬ IsStrictlyInside c edge.from edge.to
        → IsNodedEdge (c ∷ corners) edge w.0
    without_it w out = record {
      exactly = λ d. (
        λ h. let r = (w.1.exactly d).0 h in (Contains-there c corners d r.0, r.1),
        λ h. ⊎_elim (λ e. absurd (out (subst (λ z. IsStrictlyInside z edge.from edge.to) (sym e) h.1)))
            (λ k. (w.1.exactly d).1 (k, h.1)) (Contains-cases c corners d h.0),
      );
      in_order = w.1.in_order;
    }

    with_or_without : (w : (inserted : List Corner) × IsNodedEdge corners edge inserted)
        → IsStrictlyInside c edge.from edge.to ⊎ (is_strictly_inside c edge.from edge.to ≡ false)
        → (inserted : List Corner) × IsNodedEdge (c ∷ corners) edge inserted
    with_or_without w (inl i) = with_it w i
    with_or_without w (inr out) = (
      w.0,
      without_it w (not_from_Decides (is_strictly_inside c edge.from edge.to) (Decides-is_strictly_inside c edge.from edge.to) out),
    )

node_edges : (corners : List Corner) (es : List Edge) → (noded : List Corner) × AreNodedEdges corners es noded
node_edges corners [] = ([], refl)
node_edges corners (edge ∷ rest) =
    let one = node_edge corners edge in
    let others = node_edges corners rest in
    (edge.from ∷ one.0 ++ others.0, (one.0, others.0, one.1, others.1, refl))

pub node_ring : (corners ring : List Corner) → (noded : List Corner) × IsNoded ring corners noded
node_ring corners ring = node_edges corners (edges ring)

pub node_rings : (corners : List Corner) (rings : List (List Corner)) → (noded : List (List Corner))
    × AllZip (λ ring out. IsNoded ring corners out) rings noded
node_rings corners [] = ([], tt)
node_rings corners (ring ∷ rings) =
    let one = node_ring corners ring in
    let others = node_rings corners rings in (one.0 ∷ others.0, (one.1, others.1))
