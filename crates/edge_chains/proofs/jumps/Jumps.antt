-- An edge with a net count other than 0 has two points beside it between which the winding numbers differ by that count.
use Rattle.std.proofs.Common.{◌≡◌, ◌≢◌, ◌⊎◌, inl, inr, ⊎_elim, refl, sym, ◌∙◌, ap, subst, arith, ℕ, ◌+◌}
use Rattle.std.proofs.Common.{◌<◌, ◌≤◌, ℤ, pos, negsuc, ◌+ℤ◌, ◌-ℤ◌, ◌*ℤ◌, neg_ℤ}
use Rattle.std.proofs.Common.{List, [], ◌∷◌, ◌++◌}
use Rattle.std.specs.Int.{int_min, int_max}
use Rattle.std.specs.List.{Contains, AllByRecursion}
use Rattle.std.proofs.lemmas.Int.{ints, clamps, by_lt_z}
use Rattle.std.proofs.lemmas.Bool.{cases_lt}
use Rattle.std.proofs.lemmas.List.Elements.{Contains-append_left, Contains-append_right, Contains-append_cases}
use lib.Signed.{◌<ℤ◌, ◌≤ℤ◌}
use Rattle.geo_exact.specs.declared.corner.Corner.{Corner}
use Rattle.geo_exact.specs.Limit.{IsWithin, limit}
use Rattle.geo_exact.specs.Point.{Point}
use Rattle.geo_exact.specs.Rings.{Edge, path, edges, sum_over}
use Rattle.geo_exact.specs.Turn.{turn, turn_at, IsOnEdge, IsOnSome}
use Rattle.geo_exact.specs.Winding.{crossing}
use Rattle.geo_exact.proofs.corners_and_turns.SameCorner.{corner_same}
use Rattle.geo_exact.proofs.rings.EdgeSums.{edge_of, sum_over-append, sum_over-plus}
use Rattle.geo_exact.proofs.corners_and_turns.TurnLaws.{turn_at_back}
use Rattle.geo_exact.proofs.corners_and_turns.OnEdge.{on_edge_back, on_edge_between, starts_on}
use Rattle.edge_chains.specs.Net.{edge_count, all_edges, net_of_edges, net_count, winding_of_rings}
use Rattle.edge_chains.specs.Noding.{all_corners, AreFullyNoded}
use Rattle.geo_exact.specs.Segments.{IsStrictlyInside}
use Rattle.edge_chains.specs.Jump.{AreBeside, Joins, MeetsOnly, winding_difference, net_difference, IsJump}
use Rattle.edge_chains.proofs.nets.Changes.{net_of_cons}
use Rattle.edge_chains.proofs.nets.Nets.{edge_count-append, all_edges-append}
use Rattle.edge_chains.proofs.nets.Balance.{find_edge, sum_of_rings-edges}
use Rattle.edge_chains.proofs.nodings.NodedEdges.{none_in_nil, Contains-here, Contains-there, Contains-cases, all_from_contains}
use Rattle.edge_chains.proofs.edges.Parts.{strictly_back}
use Rattle.edge_chains.proofs.jumps.Beside.{whole, step, near, cross, push, turn_near, last_one, step_past, step_short}
use Rattle.edge_chains.proofs.edges.Segments.{start_on_segment}
use Rattle.geo_exact.proofs.rings.Ways.{segment_back}
use Rattle.edge_chains.proofs.jumps.EdgeJumps.{AreClear, IsEdgeJump}
use Rattle.edge_chains.proofs.jumps.Steep.{left_of, right_of, cross_itself, flat, steep_jump, steep_meets}
use Rattle.edge_chains.proofs.jumps.Level.{IsLevel, above_of, below_of, shift, level_jump, level_meets}

-- ---- sums over edges
sum_over-on : (f g : Edge → ℤ) (es : List Edge) → AllByRecursion (λ e. f e ≡ g e) es → sum_over f es ≡ sum_over g es
sum_over-on f g [] h = refl
sum_over-on f g (e ∷ es) h = omega (arith, ints, h.0, sum_over-on f g es h.1)

sum_over-minus : (f g : Edge → ℤ) (es : List Edge) → sum_over (λ e. f e -ℤ g e) es ≡ sum_over f es -ℤ sum_over g es
sum_over-minus f g [] = refl
sum_over-minus f g (e ∷ es) = omega (arith, ints, sum_over-minus f g es)

sum_over-net : (a b : Corner) (es : List Edge) → sum_over (λ e. net_of_edges (e ∷ []) a b) es ≡ net_of_edges es a b
sum_over-net a b [] = refl
sum_over-net a b (e ∷ es) = ap (λ z. net_of_edges (e ∷ []) a b +ℤ z) (sum_over-net a b es) ∙ sym (net_of_cons e es a b)

-- what each edge takes from its start and gives to its end
climbs_path : (height : Corner → ℤ) (from to : Corner) (rest : List Corner)
    → sum_over (λ e. height e.to -ℤ height e.from) (path from rest to) ≡ height to -ℤ height from
climbs_path height from to [] = omega (arith, ints)
climbs_path height from to (next ∷ rest) = omega (arith, ints, climbs_path height next to rest)

climbs_ring : (height : Corner → ℤ) (ring : List Corner) → sum_over (λ e. height e.to -ℤ height e.from) (edges ring) ≡ pos 0
climbs_ring height [] = refl
climbs_ring height (first ∷ rest) = climbs_path height first first rest ∙ nothing (height first)
  where
    nothing : (z : ℤ) → z -ℤ z ≡ pos 0
    nothing z = omega (arith, ints)

climbs : (height : Corner → ℤ) (rings : List (List Corner))
    → sum_over (λ e. height e.to -ℤ height e.from) (all_edges rings) ≡ pos 0
climbs height [] = refl
climbs height (ring ∷ rings) =
    let both = sum_over-append (λ e. height e.to -ℤ height e.from) (edges ring) (all_edges rings) in
    omega (arith, ints, both, climbs_ring height ring, climbs height rings)

rings_jump : (l r : Point) (height : Corner → ℤ) (a b : Corner) (rings : List (List Corner))
    → ((e : Edge) → Contains (all_edges rings) e → IsEdgeJump height l r a b e.from e.to)
    → winding_of_rings l rings -ℤ winding_of_rings r rings ≡ net_count rings a b
rings_jump l r height a b rings h =
    let es = all_edges rings in
    let cl : Edge → ℤ = λ e. crossing l e.from e.to in
    let cr : Edge → ℤ = λ e. crossing r e.from e.to in
    let up : Edge → ℤ = λ e. height e.to -ℤ height e.from in
    let one : Edge → ℤ = λ e. net_of_edges (e ∷ []) a b in
    total (winding_of_rings l rings) (winding_of_rings r rings) (sum_over cl es) (sum_over cr es)
    (sum_over (λ e. cl e -ℤ cr e) es) (sum_over (λ e. up e +ℤ one e) es)
    (sum_over up es) (sum_over one es) (net_count rings a b)
    (sum_of_rings-edges cl rings) (sum_of_rings-edges cr rings) (sum_over-minus cl cr es)
    (sum_over-on (λ e. cl e -ℤ cr e) (λ e. up e +ℤ one e) es (all_from_contains (λ e. cl e -ℤ cr e ≡ up e +ℤ one e) es h))
    (sum_over-plus up one es) (climbs height rings) (sum_over-net a b es)
  where
    total : (wl wr sl sr d t u o n : ℤ) → wl ≡ sl → wr ≡ sr → d ≡ sl -ℤ sr → d ≡ t → t ≡ u +ℤ o → u ≡ pos 0
        → o ≡ n → wl -ℤ wr ≡ n
    total wl wr sl sr d t u o n h1 h2 h3 h4 h5 h6 h7 = omega (arith, ints)

-- ---- corners and edges of rings
path_ends : (from to : Corner) (rest : List Corner) (e : Edge) → Contains (path from rest to) e
    → Contains (from ∷ rest) e.from × (Contains (from ∷ rest) e.to ⊎ (to ≡ e.to))
path_ends from to [] e h =
    ⊎_elim (λ s. (
      subst (Contains (from ∷ [])) (ap (λ (x : Edge). x.from) s) (Contains-here from []),
      inr (ap (λ (x : Edge). x.to) s),
    ))
    (λ k. absurd (none_in_nil e k)) (Contains-cases (edge_of from to) [] e h)
path_ends from to (next ∷ rest) e h =
    ⊎_elim
    (λ s. (
      subst (Contains (from ∷ next ∷ rest)) (ap (λ (x : Edge). x.from) s) (Contains-here from (next ∷ rest)),
      inl (subst (Contains (from ∷ next ∷ rest)) (ap (λ (x : Edge). x.to) s) (Contains-there from (next ∷ rest) next
          (Contains-here next rest))),
    ))
    (λ k. let r = path_ends next to rest e k in
    (Contains-there from (next ∷ rest) e.from r.0, ⊎_elim (λ m. inl (Contains-there from (next ∷ rest) e.to m)) (λ m. inr m) r.1))
    (Contains-cases (edge_of from next) (path next rest to) e h)

ring_ends : (ring : List Corner) (e : Edge) → Contains (edges ring) e → Contains ring e.from × Contains ring e.to
ring_ends [] e h = absurd (none_in_nil e h)
ring_ends (first ∷ rest) e h =
    let r = path_ends first first rest e h in
    (r.0, ⊎_elim (λ m. m) (λ m. subst (Contains (first ∷ rest)) m (Contains-here first rest)) r.1)

all_ends : (rings : List (List Corner)) (e : Edge) → Contains (all_edges rings) e
    → Contains (all_corners rings) e.from × Contains (all_corners rings) e.to
all_ends [] e h = absurd (none_in_nil e h)
all_ends (ring ∷ rings) e h =
    ⊎_elim
    (λ k. let r = ring_ends ring e k in
    (Contains-append_left ring (all_corners rings) e.from r.0, Contains-append_left ring (all_corners rings) e.to r.1))
    (λ k. let r = all_ends rings e k in
    (Contains-append_right ring (all_corners rings) e.from r.0, Contains-append_right ring (all_corners rings) e.to r.1))
    (Contains-append_cases (edges ring) (all_edges rings) e h)

-- a b is an edge of the rings, in one direction or the other
abbrev HasEither : List (List Corner) → Corner → Corner → Type 0
HasEither rings a b = Contains (all_edges rings) (edge_of a b) ⊎ Contains (all_edges rings) (edge_of b a)

either_back : (rings : List (List Corner)) (a b : Corner) → HasEither rings a b → HasEither rings b a
either_back rings a b (inl h) = inr h
either_back rings a b (inr h) = inl h

is_clear : (rings : List (List Corner)) (a b : Corner) → AreFullyNoded rings → HasEither rings a b → (e : Edge)
    → Contains (all_edges rings) e
    → AreClear a b e.from e.to
is_clear rings a b h k e l =
    let ends : Contains (all_corners rings) a × Contains (all_corners rings) b =
    ⊎_elim (λ m. all_ends rings (edge_of a b) m) (λ m. let r = all_ends rings (edge_of b a) m in (r.1, r.0)) k in
    let none : (c : Corner) → Contains (all_corners rings) c → ¬ IsStrictlyInside c a b =
    λ c m i. ⊎_elim (λ n. h c (edge_of a b) m n i) (λ n. h c (edge_of b a) m n (strictly_back c a b i)) k in
    let own = all_ends rings e l in
    record {
      a_is_out = h a e ends.0 l;
      b_is_out = h b e ends.1 l;
      u_is_out = none e.from own.0;
      v_is_out = none e.to own.1;
    }

counted_edge : (rings : List (List Corner)) (a b : Corner) → 0 < edge_count (all_edges rings) a b
    → Contains (all_edges rings) (edge_of a b)
counted_edge rings a b h =
    let w = find_edge (all_edges rings) a b h in
    subst (λ es. Contains es (edge_of a b)) (sym w.is)
    (Contains-append_right w.front (edge_of a b ∷ w.back) (edge_of a b) (Contains-here (edge_of a b) w.back))

unbalanced_edge : (added taken : List (List Corner)) (a b : Corner) → net_difference added taken a b ≢ pos 0
    → HasEither (added ++ taken) a b
unbalanced_edge added taken a b h =
    let forth = ap (λ es. edge_count es a b) (all_edges-append added taken)
    ∙ edge_count-append (all_edges added) (all_edges taken) a b in
    let back = ap (λ es. edge_count es b a) (all_edges-append added taken) ∙ edge_count-append (all_edges added) (all_edges taken) b a in
    ⊎_elim (λ p. inl (counted_edge (added ++ taken) a b p))
    (λ p. ⊎_elim (λ q. inr (counted_edge (added ++ taken) b a q))
    (λ q. absurd (h (nothing (edge_count (all_edges added) a b) (edge_count (all_edges taken) a b) (edge_count (all_edges added) b a)
    (edge_count (all_edges taken) b a)
    (edge_count (all_edges (added ++ taken)) a b) (edge_count (all_edges (added ++ taken)) b a) forth back p q)))
    (cases_lt 0 (edge_count (all_edges (added ++ taken)) b a)))
    (cases_lt 0 (edge_count (all_edges (added ++ taken)) a b))
  where
    nothing : (p q r s m n : ℕ) → m ≡ p + q → n ≡ r + s → m ≤ 0 → n ≤ 0 → (pos p -ℤ pos r) -ℤ (pos q -ℤ pos s)
        ≡ pos 0
    nothing p q r s m n e f h k = omega (arith, ints)

-- ---- points off all edges
off_all : (p : Point) (es : List Edge) → ((e : Edge) → Contains es e → ¬ IsOnEdge p e.from e.to) → ¬ IsOnSome p es
off_all p [] h k = k
off_all p (e ∷ es) h (inl k) = h e (Contains-here e es) k
off_all p (e ∷ es) h (inr k) = off_all p es (λ f m. h f (Contains-there e es f m)) k

in_added : (added taken : List (List Corner)) (e : Edge) → Contains (all_edges added) e → Contains (all_edges (added ++ taken)) e
in_added added taken e h = subst (λ es. Contains es e) (sym (all_edges-append added taken))
    (Contains-append_left (all_edges added) (all_edges taken) e h)

in_taken : (added taken : List (List Corner)) (e : Edge) → Contains (all_edges taken) e → Contains (all_edges (added ++ taken)) e
in_taken added taken e h = subst (λ es. Contains es e) (sym (all_edges-append added taken))
    (Contains-append_right (all_edges added) (all_edges taken) e h)

differ : (al at rl rt na nt : ℤ) → al -ℤ rl ≡ na → at -ℤ rt ≡ nt → (al -ℤ at) -ℤ (rl -ℤ rt) ≡ na -ℤ nt
differ al at rl rt na nt h k = omega (arith, ints)

-- a point beside the edge is off all edges that the segment to the other one can meet
off_joined : (p : Point) (a b : Corner) (e : Edge) → turn_at a b p ≢ pos 0 → Joins e a b → ¬ IsOnEdge p e.from e.to
off_joined p a b e n (inl j) o = n (ap (λ s. turn_at s b p) (sym j.0) ∙ ap (λ s. turn_at e.from s p) (sym j.1) ∙ o.on_line)
off_joined p a b e n (inr j) o =
    n (ap (λ s. turn_at s b p) (sym j.1) ∙ ap (λ s. turn_at e.to s p) (sym j.0) ∙ (let r = on_edge_back e.from e.to p o in r.on_line))

IsJump-from : (l r : Point) (height : Corner → ℤ) (a b : Corner) (added taken : List (List Corner)) → AreBeside l r a b
    → ((e : Edge) → Contains (all_edges (added ++ taken)) e → IsEdgeJump height l r a b e.from e.to)
    → MeetsOnly l r (all_edges (added ++ taken)) a b → IsJump added taken a b l r
IsJump-from l r height a b added taken beside jumps meets = record {
  beside = beside;
  left_is_off = off_all l (all_edges (added ++ taken))
      (λ e k o. off_joined l a b e (λ z. let p = beside.is_left in omega (arith, ints)) (meets e l k (start_on_segment l r) o) o);
  right_is_off = off_all r (all_edges (added ++ taken))
      (λ e k o. off_joined r a b e (λ z. let p = beside.is_right in omega (arith, ints))
      (meets e r k (segment_back r r l (start_on_segment r l)) o) o);
  no_other_between = meets;
  changes = differ (winding_of_rings l added) (winding_of_rings l taken) (winding_of_rings r added)
      (winding_of_rings r taken) (net_count added a b) (net_count taken a b)
      (rings_jump l r height a b added (λ e k. jumps e (in_added added taken e k)))
      (rings_jump l r height a b taken (λ e k. jumps e (in_taken added taken e k)));
}

-- ---- the points are beside the edge
turn_beside : (a b : Corner) (ex ey : ℤ) → turn_at a b (near a b ex ey) ≡ push a b ex ey
turn_beside a b ex ey = turn_near a b a b ex ey ∙ last_one (turn a b a) (cross a b a b) (push a b ex ey)
    (starts_on a b) (cross_itself a b)

no_push : (a b : Corner) → push a b (pos 0) (pos 0) ≡ pos 0
no_push a b = omega (arith, ints)

-- one step from a towards b is at neither, where the two differ in a coordinate
after_start : (p q : ℤ) → p <ℤ q → p *ℤ whole +ℤ (q -ℤ p) *ℤ step +ℤ pos 0 ≢ p *ℤ whole
after_start p q up e = let h = step_past p q p up (omega (arith, ints)) in omega (arith, ints)

before_end : (p q : ℤ) → IsWithin limit p → IsWithin limit q → p <ℤ q
    → p *ℤ whole +ℤ (q -ℤ p) *ℤ step +ℤ pos 0 ≢ q *ℤ whole
before_end p q i j up e = let h = step_short p q q i j up in omega (arith, ints)

steep_beside : (a b : Corner) → a.y <ℤ b.y → AreBeside (left_of a b) (right_of a b) a b
steep_beside a b up = record {
  is_left = subst (λ z. pos 0 <ℤ z) (sym (turn_beside a b (negsuc 0) (pos 0))) (omega (arith, ints));
  is_right = subst (λ z. z <ℤ pos 0) (sym (turn_beside a b (pos 1) (pos 0))) (omega (arith, ints));
  through = (
    near a b (pos 0) (pos 0),
    record { same_d = (refl, refl); in_x = omega (arith, ints); in_y = omega (arith, ints) },
    record {
      on_edge = on_edge_between a b (near a b (pos 0) (pos 0)) (turn_beside a b (pos 0) (pos 0) ∙ no_push a b)
          (omega (arith, ints)) (omega (arith, ints));
      not_start = λ e. after_start a.y b.y up e.same_y;
      not_end = λ e. before_end a.y b.y a.y_in_range b.y_in_range up e.same_y;
    },
  );
}

level_beside : (a b : Corner) → IsLevel a b → AreBeside (above_of a b) (below_of a b) a b
level_beside a b f =
    let lx : int_min a.x b.x ≡ a.x = omega (arith, ints, clamps, f.to_right) in
    let hx : int_max a.x b.x ≡ b.x = omega (arith, ints, clamps, f.to_right) in
    let ly : int_min a.y b.y ≡ a.y = omega (arith, ints, clamps, f.same_height) in
    let hy : int_max a.y b.y ≡ a.y = omega (arith, ints, clamps, f.same_height) in
    let m = near a b (pos 0) (pos 0) in
    record {
      is_left = subst (λ z. pos 0 <ℤ z) (sym (turn_beside a b (pos 0) (pos 1))) (omega (arith, ints, f.to_right));
      is_right = subst (λ z. z <ℤ pos 0) (sym (turn_beside a b (pos 0) (negsuc 0))) (omega (arith, ints, f.to_right));
      through = (
        m,
        record { same_d = (refl, refl); in_x = omega (arith, ints); in_y = omega (arith, ints) },
        record {
          on_edge = record {
            on_line = turn_beside a b (pos 0) (pos 0) ∙ no_push a b;
            from_x = subst (λ z. (z *ℤ whole) ≤ℤ m.x) (sym lx) (omega (arith, ints, f.to_right));
            to_x = subst (λ z. m.x ≤ℤ (z *ℤ whole)) (sym hx) (omega (arith, ints, f.to_right));
            from_y = subst (λ z. (z *ℤ whole) ≤ℤ m.y) (sym ly) (omega (arith, ints, f.same_height));
            to_y = subst (λ z. m.y ≤ℤ (z *ℤ whole)) (sym hy) (omega (arith, ints, f.same_height));
          };
          not_start = λ e. after_start a.x b.x f.to_right e.same_x;
          not_end = λ e. before_end a.x b.x a.x_in_range b.x_in_range f.to_right e.same_x;
        },
      );
    }

-- ---- the same points, for the edge the other way
IsJump-turned : (added taken : List (List Corner)) (a b : Corner) (l r : Point) → IsJump added taken b a l r
    → IsJump added taken a b r l
IsJump-turned added taken a b l r h = record {
  beside = record {
    is_left = subst (λ z. pos 0 <ℤ z) (sym (turn_at_back b a r)) (let q = h.beside.is_right in omega (arith, ints));
    is_right = subst (λ z. z <ℤ pos 0) (sym (turn_at_back b a l)) (let q = h.beside.is_left in omega (arith, ints));
    through = let t = h.beside.through in (
      t.0,
      record { same_d = (t.1.same_d.1, t.1.same_d.0); in_x = omega (arith, ints, t.1.in_x); in_y = omega (arith, ints, t.1.in_y) },
      record { on_edge = on_edge_back b a t.0 t.2.on_edge; not_start = t.2.not_end; not_end = t.2.not_start },
    );
  };
  left_is_off = h.right_is_off;
  right_is_off = h.left_is_off;
  no_other_between = λ e q k s o. ⊎_elim (λ j. inr j) (λ j. inl j) (h.no_other_between e q k (segment_back q r l s) o);
  changes = turned (winding_difference l added taken) (winding_difference r added taken)
      (net_difference added taken b a) (net_difference added taken a b)
      h.changes
      (nets (edge_count (all_edges added) a b) (edge_count (all_edges added) b a) (edge_count (all_edges taken) a b)
      (edge_count (all_edges taken) b a));
}
  where
    turned : (l r n m : ℤ) → l -ℤ r ≡ n → m ≡ neg_ℤ n → r -ℤ l ≡ m
    turned l r n m h k = omega (arith, ints)

    nets : (p q r s : ℕ) → (pos p -ℤ pos q) -ℤ (pos r -ℤ pos s) ≡ neg_ℤ ((pos q -ℤ pos p) -ℤ (pos s -ℤ pos r))
    nets p q r s = omega (arith, ints)

steep_case : (added taken : List (List Corner)) (a b : Corner) → AreFullyNoded (added ++ taken)
    → HasEither (added ++ taken) a b → a.y <ℤ b.y
    → IsJump added taken a b (left_of a b) (right_of a b)
steep_case added taken a b h k up =
    IsJump-from (left_of a b) (right_of a b) flat a b added taken (steep_beside a b up)
    (λ e m. steep_jump a b e.from e.to up (is_clear (added ++ taken) a b h k e m))
    (λ e q m. steep_meets a b e.from e.to q up (is_clear (added ++ taken) a b h k e m))

level_case : (added taken : List (List Corner)) (a b : Corner) → AreFullyNoded (added ++ taken)
    → HasEither (added ++ taken) a b → IsLevel a b
    → IsJump added taken a b (above_of a b) (below_of a b)
level_case added taken a b h k f =
    IsJump-from (above_of a b) (below_of a b) (shift a) a b added taken (level_beside a b f)
    (λ e m. level_jump a b e.from e.to f (is_clear (added ++ taken) a b h k e m))
    (λ e q m. level_meets a b e.from e.to q f (is_clear (added ++ taken) a b h k e m))

-- an edge with a net count other than 0 is no false alarm
pub jump_beside : (added taken : List (List Corner)) → AreFullyNoded (added ++ taken) → (a b : Corner)
    → net_difference added taken a b ≢ pos 0
    → (left : Point) × (right : Point) × IsJump added taken a b left right
jump_beside added taken h a b n =
    let k = unbalanced_edge added taken a b n in
    by_lt_z a.y b.y (λ p. (left_of a b, right_of a b, steep_case added taken a b h k p))
    (λ p. by_lt_z b.y a.y (λ q. (
      right_of b a,
      left_of b a,
      IsJump-turned added taken a b (left_of b a) (right_of b a)
          (steep_case added taken b a h (either_back (added ++ taken) a b k) q),
    ))
    (λ q. by_lt_z a.x b.x
    (λ r. (above_of a b, below_of a b, level_case added taken a b h k (record { same_height = omega (arith, ints); to_right = r })))
    (λ r. by_lt_z b.x a.x
    (λ s. (
      below_of b a,
      above_of b a,
      IsJump-turned added taken a b (above_of b a) (below_of b a)
          (level_case added taken b a h (either_back (added ++ taken) a b k) (record { same_height = omega (arith, ints); to_right = s })),
    ))
    (λ s. absurd (n (let e : a ≡ b = corner_same a b (omega (arith, ints)) (omega (arith, ints)) in
    subst (λ c. net_difference added taken a c ≡ pos 0) e (nothing (edge_count (all_edges added) a a)
    (edge_count (all_edges taken) a a))))))))
  where
    nothing : (p q : ℕ) → (pos p -ℤ pos p) -ℤ (pos q -ℤ pos q) ≡ pos 0
    nothing p q = omega (arith, ints)
