-- Simple rings that stay simple: with corners put in strictly inside their edges, and with one taken out at which they are straight.
use Rattle.std.proofs.Common.{◌≡◌, ◌⊎◌, inl, inr, refl, sym, ◌∙◌, ap, subst, arith, Bool, true, false, not, ◌||◌}
use Rattle.std.proofs.Common.{if◌then◌else◌, ℕ, suc, ◌+◌, ◌<◌, ◌≤◌, pos, List, [], ◌∷◌, ◌++◌, length, get_or, append_assoc}
use Rattle.std.specs.List.{Contains, remove}
use Rattle.std.proofs.lemmas.List.{length-append}
use Rattle.std.proofs.lemmas.List.Elements.{filter-append}
use lib.Signed.{◌<ℤ◌}
use Rattle.geo_exact.specs.declared.corner.Corner.{Corner}
use Rattle.geo_exact.specs.Area.{area2}
use Rattle.geo_exact.specs.Order.{is_same}
use Rattle.geo_exact.specs.Places.{corner_at, origin, before}
use Rattle.geo_exact.specs.Point.{corner_point}
use Rattle.geo_exact.specs.Rings.{Edge, path, edges}
use Rattle.geo_exact.specs.Segments.{IsStrictlyInside}
use Rattle.geo_exact.specs.Turn.{IsOnEdge}
use Rattle.geo_exact.proofs.corners_and_turns.CornerOrder.{Decides-is_same}
use Rattle.ring_core.specs.Clipping.{previous, next, IsFlat}
use Rattle.ring_core.specs.Simple.{IsSimpleRing, MeetOnlyAsNeighbours}
use Rattle.ring_core.proofs.edges.Corners.{three_corners}
use Rattle.ring_core.proofs.edges.RoundNumbers.{after_inner, after_end, before_inner}
use Rattle.ring_core.proofs.ears.LeftSimple.{clipped_simple}
use Rattle.edge_chains.specs.Noding.{AreAlong, AreNodedEdges, IsNoded}
use Rattle.edge_chains.proofs.nodings.NodedRings.{area2_noded}
use Rattle.ring_edits.specs.Edits.{joins, put_along, put_between, has_corner, without_corner, BendsAt}
use Rattle.ring_edits.proofs.Apart.{simple_apart}
use Rattle.ring_edits.proofs.OneMore.{one_more}
use Rattle.ring_edits.proofs.PutEdges.{joined_inside}
use Rattle.ring_edits.proofs.PutGround.{put_covers}
use Rattle.ring_edits.proofs.SameRuns.{split_apart}
use Rattle.ring_edits.proofs.Straight.{without_none, keeps, drops, inside_at, without_covers}

-- ---- lists
at_seam : (xs : List Corner) (y : Corner) (ys : List Corner) → corner_at (xs ++ y ∷ ys) (length xs) ≡ y
at_seam [] y ys = refl
at_seam (x ∷ xs) y ys = at_seam xs y ys

behind_seam : (xs : List Corner) (y : Corner) (ys : List Corner) → corner_at (xs ++ y ∷ ys) (suc (length xs)) ≡ corner_at ys 0
behind_seam [] y ys = refl
behind_seam (x ∷ xs) y ys = behind_seam xs y ys

without_seam : (xs : List Corner) (y : Corner) (ys : List Corner) → remove (xs ++ y ∷ ys) (length xs) ≡ xs ++ ys
without_seam [] y ys = refl
without_seam (x ∷ xs) y ys = ap (λ zs. x ∷ zs) (without_seam xs y ys)

same_head : (xs : List Corner) (y d : Corner) (ys : List Corner) → get_or (xs ++ y ∷ ys) 0 d ≡ get_or xs 0 y
same_head [] y d ys = refl
same_head (x ∷ xs) y d ys = refl

-- ---- one corner is put in, between a corner a and what follows it round the ring
module _ (front : List Corner) (a c : Corner) (back : List Corner) where
  abbrev behind : List Corner
  behind = front ++ a ∷ []

  abbrev wider : List Corner
  wider = behind ++ c ∷ back

  abbrev k : ℕ
  k = length behind

  is_after : k ≡ suc (length front)
  is_after = omega (arith, length-append front (a ∷ []))

  many : length wider ≡ suc (k + length back)
  many = omega (arith, length-append behind (c ∷ back))

  before_it : previous wider k ≡ a
  before_it =
      ap (λ j. corner_at wider (before (length wider) j)) is_after
      ∙ ap (corner_at wider) (before_inner (length wider) (length front))
      ∙ ap (λ xs. corner_at xs (length front)) (append_assoc front (a ∷ []) (c ∷ back)) ∙ at_seam front a (c ∷ back)

  -- what follows
  first_of : corner_at wider 0 ≡ get_or front 0 a
  first_of = ap (λ xs. corner_at xs 0) (append_assoc front (a ∷ []) (c ∷ back)) ∙ same_head front a origin (c ∷ back)

  behind_it : next wider k ≡ get_or back 0 (get_or front 0 a)
  behind_it = follow back refl
    where
      follow : (ys : List Corner) → back ≡ ys → next wider k ≡ get_or ys 0 (get_or front 0 a)
      follow [] e = ap (corner_at wider) (after_end (length wider) k (omega (arith, many, ap length e))) ∙ first_of
      follow (y ∷ ys) e =
          ap (corner_at wider) (after_inner (length wider) k (omega (arith, many, ap length e)))
          ∙ behind_seam behind c back ∙ ap (λ zs. corner_at zs 0) e

  put_one : 3 ≤ length (front ++ a ∷ back) → IsStrictlyInside c a (get_or back 0 (get_or front 0 a))
      → MeetOnlyAsNeighbours (front ++ a ∷ back) → MeetOnlyAsNeighbours wider
  put_one three inside simple =
      one_more wider k
      (omega (arith, three, many, is_after, length-append front (a ∷ back)))
      (omega (arith, many))
      (subst MeetOnlyAsNeighbours (sym (without_seam behind c back ∙ append_assoc front (a ∷ []) back)) simple)
      (subst (λ x. IsStrictlyInside x (previous wider k) (next wider k)) (sym (at_seam behind c back))
      (subst (λ x. IsStrictlyInside c x (next wider k)) (sym before_it)
      (subst (IsStrictlyInside c a) (sym behind_it) inside)))

-- ---- corners are put in, in order along an edge
put_all : (front : List Corner) (a : Corner) (xs back : List Corner) → 3 ≤ length (front ++ a ∷ back)
    → AreAlong a xs (get_or back 0 (get_or front 0 a))
    → MeetOnlyAsNeighbours (front ++ a ∷ back) → MeetOnlyAsNeighbours (front ++ (a ∷ xs ++ back))
put_all front a [] back three h simple = simple
put_all front a (c ∷ xs) back three h simple =
    subst MeetOnlyAsNeighbours (append_assoc front (a ∷ []) (c ∷ xs ++ back))
    (put_all (front ++ a ∷ []) c xs back
    (omega (arith, three, length-append front (a ∷ back), length-append front (a ∷ []), length-append (front ++ a ∷ []) (c ∷ back)))
    (subst (λ x. AreAlong c xs (get_or back 0 x)) (sym (same_head front a c [])) h.1)
    (put_one front a c back three h.0 simple))

-- each edge gives its start, and behind it corners in order along it
abbrev pub AreCutAlong : List Edge → List Corner → Type 0
AreCutAlong [] out = out ≡ []
AreCutAlong (edge ∷ rest) out =
    (inserted : List Corner) × (others : List Corner) × AreAlong edge.from inserted edge.to × AreCutAlong rest others
    × (out ≡ edge.from ∷ inserted ++ others)

put_path : (front : List Corner) (from : Corner) (rest out : List Corner) → 3 ≤ length (front ++ from ∷ rest)
    → AreCutAlong (path from rest (get_or front 0 from)) out
    → MeetOnlyAsNeighbours (front ++ from ∷ rest) → MeetOnlyAsNeighbours (front ++ out)
put_path front from [] out three h simple =
    subst (λ xs. MeetOnlyAsNeighbours (front ++ xs)) (sym (h.4 ∙ ap (λ xs. from ∷ h.0 ++ xs) h.3))
    (put_all front from h.0 [] three h.2 simple)
put_path front from (to ∷ rest) out three h simple =
    let met : MeetOnlyAsNeighbours ((front ++ from ∷ h.0) ++ to ∷ rest) =
    subst MeetOnlyAsNeighbours (sym (append_assoc front (from ∷ h.0) (to ∷ rest)))
    (put_all front from h.0 (to ∷ rest) three h.2 simple) in
    subst (λ xs. MeetOnlyAsNeighbours (front ++ xs)) (sym h.4)
    (subst MeetOnlyAsNeighbours (append_assoc front (from ∷ h.0) h.1)
    (put_path (front ++ from ∷ h.0) to rest h.1
    (omega (
      arith,
      three,
      length-append front (from ∷ to ∷ rest),
      length-append front (from ∷ h.0),
      length-append (front ++ from ∷ h.0) (to ∷ rest),
    ))
    (subst (λ x. AreCutAlong (path to rest x) h.1) (sym (same_head front from to h.0)) h.3)
    met))

pub cut_simple : (ring out : List Corner) → 3 ≤ length ring → AreCutAlong (edges ring) out → MeetOnlyAsNeighbours ring
    → MeetOnlyAsNeighbours out
cut_simple [] out three h simple = absurd (omega (arith, three))
cut_simple (first ∷ rest) out three h simple = put_path [] first rest out three h simple

-- ---- noding, and a corner put into each edge between two others
cut_noded : (corners : List Corner) (es : List Edge) (out : List Corner) → AreNodedEdges corners es out → AreCutAlong es out
cut_noded corners [] out h = h
cut_noded corners (e ∷ es) out h = (h.0, h.1, h.2.in_order, cut_noded corners es h.1 h.3, h.4)

pub noded_simple : (ring corners noded : List Corner) → IsSimpleRing ring → IsNoded ring corners noded → IsSimpleRing noded
noded_simple ring corners noded h k = record {
  counterclockwise = subst (λ z. pos 0 <ℤ z) (sym (area2_noded ring corners noded k)) h.counterclockwise;
  simple = cut_simple ring noded (three_corners ring h.counterclockwise) (cut_noded corners (edges ring) noded k) h.simple;
}

cut_put : (u v at : Corner) (es : List Edge) → IsStrictlyInside at u v → AreCutAlong es (put_along u v at es)
cut_put u v at [] h = refl
cut_put u v at (e ∷ es) h = one (joins u v e) (λ k. joined_inside u v at e h k) (cut_put u v at es h)
  where
    one : (b : Bool) → (b ≡ true → IsStrictlyInside at e.from e.to) → AreCutAlong es (put_along u v at es)
        → AreCutAlong (e ∷ es) (e.from ∷ (if b then at ∷ put_along u v at es else put_along u v at es))
    one true i later = (at ∷ [], put_along u v at es, (i refl, tt), later, refl)
    one false i later = ([], put_along u v at es, tt, later, refl)

pub put_simple : (u v at : Corner) (ring : List Corner) → IsStrictlyInside at u v → IsSimpleRing ring
    → IsSimpleRing (put_between u v at ring)
put_simple u v at ring h k = record {
  counterclockwise = subst (λ z. pos 0 <ℤ z) (sym (put_covers u v at ring h).signed_area) k.counterclockwise;
  simple = cut_simple ring (put_between u v at ring) (three_corners ring k.counterclockwise) (cut_put u v at (edges ring) h) k.simple;
}

-- ---- a corner is taken out
found : (at : Corner) (ring : List Corner)
    → (has_corner at ring ≡ false) ⊎ ((front : List Corner) × (back : List Corner) × (ring ≡ front ++ at ∷ back))
found at [] = inl refl
found at (c ∷ cs) = step (is_same at c) (Decides-is_same at c).0 (found at cs)
  where
    step : (b : Bool) → (b ≡ true → at ≡ c)
        → (has_corner at cs ≡ false) ⊎ ((front : List Corner) × (back : List Corner) × (cs ≡ front ++ at ∷ back))
        → ((b || has_corner at cs) ≡ false) ⊎ ((front : List Corner) × (back : List Corner) × (c ∷ cs ≡ front ++ at ∷ back))
    step true e k = inr ([], cs, ap (λ x. x ∷ cs) (sym (e refl)))
    step false e (inl f) = inl f
    step false e (inr w) = inr (c ∷ w.0, w.1, ap (λ xs. c ∷ xs) w.2)

pub lacks : (at : Corner) (xs : List Corner) → (Contains xs at → ⊥) → without_corner at xs ≡ xs
lacks at [] h = refl
lacks at (c ∷ cs) h =
    keeps at c cs (λ e. h (0, omega arith, sym e)) ∙ ap (λ xs. c ∷ xs) (lacks at cs (λ k. h (suc k.0, omega (arith, k.1), k.2)))

-- the ring is straight at a corner that it has
module _ (at : Corner) (front back : List Corner) (straight : ¬ BendsAt at (front ++ at ∷ back))
    (simple : IsSimpleRing (front ++ at ∷ back)) where
  abbrev ring : List Corner
  ring = front ++ at ∷ back

  left : without_corner at ring ≡ front ++ back
  left =
      let apart = split_apart at front back (simple_apart ring simple) in
      filter-append (λ corner. not (is_same at corner)) front (at ∷ back)
      ∙ ap (λ xs. xs ++ without_corner at (at ∷ back)) (lacks at front apart.0)
      ∙ ap (λ xs. front ++ xs) (drops at at back refl ∙ lacks at back apart.1)

  place_in : length front < length ring
  place_in = omega (arith, length-append front (at ∷ back))

  is_flat : IsFlat ring (length front)
  is_flat =
      subst (λ c. IsOnEdge (corner_point c) (previous ring (length front)) (next ring (length front))) (sym (at_seam front at back))
      (inside_at at ring straight (length front) place_in (at_seam front at back)).on_edge

  area_left : pos 0 <ℤ area2 (front ++ back)
  area_left =
      subst (λ xs. pos 0 <ℤ area2 xs) left
      (subst (λ z. pos 0 <ℤ z) (sym (without_covers at ring straight).signed_area) simple.counterclockwise)

  left_simple : IsSimpleRing (without_corner at ring)
  left_simple = subst IsSimpleRing (sym left) (record {
    counterclockwise = area_left;
    simple = subst MeetOnlyAsNeighbours (without_seam front at back)
        (clipped_simple ring (length front)
        (omega (
          arith,
          three_corners (front ++ back) area_left,
          length-append front back,
          length-append front (at ∷ back),
        ))
        place_in simple.simple (inl is_flat));
  })

pub without_simple : (at : Corner) (ring : List Corner) → ¬ BendsAt at ring → IsSimpleRing ring
    → IsSimpleRing (without_corner at ring)
without_simple at ring h k = cases (found at ring)
  where
    cases : (has_corner at ring ≡ false) ⊎ ((front : List Corner) × (back : List Corner) × (ring ≡ front ++ at ∷ back))
        → IsSimpleRing (without_corner at ring)
    cases (inl f) = subst IsSimpleRing (sym (without_none at ring f)) k
    cases (inr w) =
        subst (λ xs. IsSimpleRing (without_corner at xs)) (sym w.2)
        (left_simple at w.0 w.1 (subst (λ xs. ¬ BendsAt at xs) w.2 h) (subst IsSimpleRing w.2 k))
