-- Each ring is noded for whatever corners.
use Rattle.std.proofs.Common.{◌≡◌, ◌⊎◌, ◌↔◌, inl, inr, ⊎_elim, refl, sym, subst, false, List, [], ◌∷◌, ◌++◌}
use Rattle.std.specs.List.{Contains}
use Rattle.std.proofs.lemmas.Bool.Decides.{not_from_Decides}
use Rattle.geo_exact.specs.declared.corner.Corner.{Corner}
use Rattle.geo_exact.specs.Order.{is_same}
use Rattle.geo_exact.specs.Point.{corner_point}
use Rattle.geo_exact.specs.Rings.{Edge, edges}
use Rattle.geo_exact.specs.Segments.{IsStrictlyInside}
use Rattle.geo_exact.proofs.corners_and_turns.CornerOrder.{cases_of, Decides-is_same}
use Rattle.edge_chains.specs.Noding.{AreAlong, IsNodedEdge, AreNodedEdges, IsNoded}
use Rattle.edge_chains.specs.own.Inside.{is_strictly_inside}
use Rattle.edge_chains.proofs.edges.Inside.{Decides-is_strictly_inside}
use Rattle.edge_chains.proofs.edges.Parts.{on_parts, inside_whole_first}
use Rattle.edge_chains.proofs.nodings.NodedEdges.{none_in_nil, Contains-here, Contains-there, Contains-cases}
use Rattle.edge_chains.proofs.nodings.NodedLists.{AreNodedFor}

-- ---- one corner more along an edge
-- in order along the edge, the corners and this one
record IsWith (a b c : Corner) (xs out : List Corner) : Type 0 where
  in_order : AreAlong a out b
  exactly : (d : Corner) → Contains out d ↔ ((c ≡ d) ⊎ Contains xs d)

put_first : (a b c : Corner) (xs : List Corner) → IsStrictlyInside c a b → AreAlong c xs b → IsWith a b c xs (c ∷ xs)
put_first a b c xs i h = record {
  in_order = (i, h);
  exactly = λ d. (
    Contains-cases c xs d,
    ⊎_elim (λ e. subst (Contains (c ∷ xs)) e (Contains-here c xs)) (Contains-there c xs d),
  );
}

put_later : (a b c x : Corner) (rest out : List Corner) → IsStrictlyInside x a b → IsWith x b c rest out
    → IsWith a b c (x ∷ rest) (x ∷ out)
put_later a b c x rest out i h = record {
  in_order = (i, h.in_order);
  exactly = λ d. (
    λ k. ⊎_elim (λ e. inr (subst (Contains (x ∷ rest)) e (Contains-here x rest)))
        (λ m. ⊎_elim (λ e. inl e) (λ l. inr (Contains-there x rest d l)) ((h.exactly d).0 m))
        (Contains-cases x out d k),
    ⊎_elim (λ e. Contains-there x out d ((h.exactly d).1 (inl e)))
        (λ k. ⊎_elim (λ e. subst (Contains (x ∷ out)) e (Contains-here x out))
        (λ l. Contains-there x out d ((h.exactly d).1 (inr l))) (Contains-cases x rest d k)),
  );
}

put_none : (a b c : Corner) (rest : List Corner) (x : Corner) → c ≡ x → AreAlong a (x ∷ rest) b → IsWith a b c (x ∷ rest) (x ∷ rest)
put_none a b c rest x e h = record {
  in_order = h;
  exactly = λ d. (λ k. inr k, ⊎_elim (λ s. subst (λ z. z ≡ d → Contains (x ∷ rest) d) (sym e) (here d) s) (λ k. k));
}
  where
    here : (d : Corner) → x ≡ d → Contains (x ∷ rest) d
    here d s = subst (Contains (x ∷ rest)) s (Contains-here x rest)

-- a corner behind another is inside what is left behind that one
behind : (a b c x : Corner) → IsStrictlyInside c a b → IsStrictlyInside x a b → IsStrictlyInside c a x → IsStrictlyInside x c b
behind a b c x i h k =
    ⊎_elim
    (λ on. absurd ((inside_whole_first a x c x k
    (record { on_edge = on; not_start = h.not_start; not_end = λ e. k.not_end (sym e) })).not_end refl))
    (λ on. record { on_edge = on; not_start = λ e. k.not_end (sym e); not_end = h.not_end })
    (on_parts (corner_point x) a b c i h.on_edge)

with_one : (a b c : Corner) (xs : List Corner) → AreAlong a xs b → IsStrictlyInside c a b → (out : List Corner) × IsWith a b c xs out
with_one a b c [] h i = (c ∷ [], put_first a b c [] i tt)
with_one a b c (x ∷ rest) h i =
    ⊎_elim
    (λ e. (x ∷ rest, put_none a b c rest x e h))
    (λ f. let apart : c ≡ x → ⊥ = not_from_Decides (is_same c x) (Decides-is_same c x) f in
    ⊎_elim
    (λ on. (
      c ∷ x ∷ rest,
      put_first a b c (x ∷ rest) i
          (behind a b c x i h.0 (record { on_edge = on; not_start = i.not_start; not_end = apart }), h.1),
    ))
    (λ on. let w = with_one x b c rest h.1 (record { on_edge = on; not_start = apart; not_end = i.not_end }) in
    (x ∷ w.0, put_later a b c x rest w.0 h.0 w.1))
    (on_parts (corner_point c) a b x h.0 i.on_edge))
    (cases_of (is_same c x) (Decides-is_same c x))

-- ---- edges and rings
edge_noded : (corners : List Corner) (e : Edge) → (inserted : List Corner) × IsNodedEdge corners e inserted
edge_noded [] e = ([], record { exactly = λ c. (λ k. absurd (none_in_nil c k), λ k. absurd (none_in_nil c k.0)); in_order = tt })
edge_noded (c ∷ corners) e = more (edge_noded corners e)
    (cases_of (is_strictly_inside c e.from e.to) (Decides-is_strictly_inside c e.from e.to))
  where
    more : (inserted : List Corner) × IsNodedEdge corners e inserted
        → IsStrictlyInside c e.from e.to ⊎ (is_strictly_inside c e.from e.to ≡ false)
        → (inserted : List Corner) × IsNodedEdge (c ∷ corners) e inserted
    more w (inl i) = let o = with_one e.from e.to c w.0 w.1.in_order i in (
      o.0,
      record {
        exactly = λ d. (
          λ k. ⊎_elim
              (λ s. (
                subst (Contains (c ∷ corners)) s (Contains-here c corners),
                subst (λ z. IsStrictlyInside z e.from e.to) s i,
              ))
              (λ m. let r = (w.1.exactly d).0 m in (Contains-there c corners d r.0, r.1))
              ((o.1.exactly d).0 k),
          λ k. (o.1.exactly d).1
              (⊎_elim (λ s. inl s) (λ m. inr ((w.1.exactly d).1 (m, k.1))) (Contains-cases c corners d k.0)),
        );
        in_order = o.1.in_order;
      },
    )
    more w (inr f) = (
      w.0,
      record {
        exactly = λ d. (
          λ k. let r = (w.1.exactly d).0 k in (Contains-there c corners d r.0, r.1),
          λ k. ⊎_elim
              (λ s. absurd (not_from_Decides (is_strictly_inside c e.from e.to) (Decides-is_strictly_inside c e.from e.to) f
              (subst (λ z. IsStrictlyInside z e.from e.to) (sym s) k.1)))
              (λ m. (w.1.exactly d).1 (m, k.1))
              (Contains-cases c corners d k.0),
        );
        in_order = w.1.in_order;
      },
    )

edges_noded : (corners : List Corner) (es : List Edge) → (out : List Corner) × AreNodedEdges corners es out
edges_noded corners [] = ([], refl)
edges_noded corners (e ∷ es) =
    let w = edge_noded corners e in
    let later = edges_noded corners es in
    (e.from ∷ w.0 ++ later.0, (w.0, later.0, w.1, later.1, refl))

pub each_noded : (ring corners : List Corner) → (noded : List Corner) × IsNoded ring corners noded
each_noded ring corners = edges_noded corners (edges ring)

pub all_noded : (corners : List Corner) (rings : List (List Corner)) → (noded : List (List Corner)) × AreNodedFor corners rings noded
all_noded corners [] = ([], tt)
all_noded corners (ring ∷ rings) =
    let w = each_noded ring corners in
    let later = all_noded corners rings in
    (w.0 ∷ later.0, (w.1, later.1))
