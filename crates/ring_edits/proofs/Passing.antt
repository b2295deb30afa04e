-- How edges pass through a corner: a measure that no ring which is straight there has.
use Rattle.std.proofs.Common.{◌≡◌, refl, sym, ◌∙◌, ap, arith, Bool, true, false, not, if◌then◌else◌}
use Rattle.std.proofs.Common.{suc, ℤ, pos, neg_ℤ, ◌+ℤ◌, ◌-ℤ◌, ◌*ℤ◌, List, [], ◌∷◌, length, get_or}
use Rattle.std.specs.List.{AllByRecursion, Contains}
use Rattle.std.specs.Ordering.{int_eq}
use Rattle.std.proofs.lemmas.Bool.{false≢true}
use Rattle.std.proofs.lemmas.Bool.Decides.{Decides-int_eq}
use Rattle.std.proofs.lemmas.Int.{ints}
use Rattle.geo_exact.specs.declared.corner.Corner.{Corner}
use Rattle.geo_exact.specs.Order.{is_same}
use Rattle.geo_exact.specs.Places.{origin}
use Rattle.geo_exact.specs.Rings.{Edge, path, edges, sum_over}
use Rattle.geo_exact.specs.Segments.{IsStrictlyInside}
use Rattle.geo_exact.specs.Turn.{turn}
use Rattle.geo_exact.proofs.corners_and_turns.CornerOrder.{Decides-is_same, false_where, is_same_itself, same_from_test}
use Rattle.geo_exact.proofs.corners_and_turns.TurnLaws.{turn_cycle}
use Rattle.geo_exact.proofs.numbers.Polynomials.{var, mul, neg, sub, same_by}
use Rattle.geo_exact.proofs.rings.EdgeSums.{edge_of, sum_over-append}
use Rattle.edge_chains.specs.Net.{all_edges}
use Rattle.edge_chains.proofs.edges.Inside.{inside_from_strictly}
use Rattle.edge_chains.proofs.edges.Parts.{edge_has_length, ends_apart, strictly_back, third_line}
use Rattle.edge_chains.proofs.nets.Balance.{ChangesSign}
use Rattle.edge_chains.proofs.nodings.NodedEdges.{Contains-from_filter}
use Rattle.edge_chains.proofs.nodings.NodedRings.{AddsUp}
use Rattle.ring_edits.specs.Edits.{without_corner, BendsAt}
use Rattle.ring_edits.proofs.Straight.{sum_over-without}

-- ---- a corner c strictly inside the edge from a to b, and a line through one of the three and d
crossed : (x y z w : ℤ) → x *ℤ w -ℤ y *ℤ z ≡ pos 0 → z *ℤ y -ℤ w *ℤ x ≡ pos 0
crossed x y z w h =
    same_by (x ∷ y ∷ z ∷ w ∷ []) (sub (mul (var 2) (var 1)) (mul (var 3) (var 0)))
    (neg (sub (mul (var 0) (var 3)) (mul (var 1) (var 2)))) refl
    ∙ ap neg_ℤ h

line_to_end : (a b c d : Corner) → IsStrictlyInside c a b → turn a d c ≡ pos 0 → turn a d b ≡ pos 0
line_to_end a b c d h e =
    third_line (c.x -ℤ a.x) (c.y -ℤ a.y) (d.x -ℤ a.x) (d.y -ℤ a.y) (b.x -ℤ a.x) (b.y -ℤ a.y)
    (ends_apart a c (λ s. h.not_start (sym s)))
    (crossed (d.x -ℤ a.x) (d.y -ℤ a.y) (c.x -ℤ a.x) (c.y -ℤ a.y) e)
    (crossed (b.x -ℤ a.x) (b.y -ℤ a.y) (c.x -ℤ a.x) (c.y -ℤ a.y) (inside_from_strictly c a b h).1.0)

line_to_inner : (a b c d : Corner) → IsStrictlyInside c a b → turn a d b ≡ pos 0 → turn a d c ≡ pos 0
line_to_inner a b c d h e =
    third_line (b.x -ℤ a.x) (b.y -ℤ a.y) (d.x -ℤ a.x) (d.y -ℤ a.y) (c.x -ℤ a.x) (c.y -ℤ a.y)
    (ends_apart a b (edge_has_length a b c h))
    (crossed (d.x -ℤ a.x) (d.y -ℤ a.y) (b.x -ℤ a.x) (b.y -ℤ a.y) e)
    (inside_from_strictly c a b h).1.0

line_across : (a b c d : Corner) → IsStrictlyInside c a b → turn c d a ≡ pos 0 → turn c d b ≡ pos 0
line_across a b c d h e =
    third_line (a.x -ℤ c.x) (a.y -ℤ c.y) (d.x -ℤ c.x) (d.y -ℤ c.y) (b.x -ℤ c.x) (b.y -ℤ c.y)
    (ends_apart c a h.not_start)
    (crossed (d.x -ℤ c.x) (d.y -ℤ c.y) (a.x -ℤ c.x) (a.y -ℤ c.y) e)
    (sym (turn_cycle c a b) ∙ (inside_from_strictly c a b h).1.0)

-- ---- 1 where a number is 0, else 0
abbrev pub zero_flag : ℤ → ℤ
zero_flag t = if int_eq t (pos 0) then pos 1 else pos 0

pub flag_of_zero : (t : ℤ) → t ≡ pos 0 → zero_flag t ≡ pos 1
flag_of_zero t h = ap (λ b. if b then pos 1 else pos 0) ((Decides-int_eq t (pos 0)).1 h)

pub zero_of_flag : (t : ℤ) → zero_flag t ≡ pos 1 → t ≡ pos 0
zero_of_flag t h = read (int_eq t (pos 0)) (Decides-int_eq t (pos 0)).0 h
  where
    read : (b : Bool) → (b ≡ true → t ≡ pos 0) → (if b then pos 1 else pos 0) ≡ pos 1 → t ≡ pos 0
    read true k e = k refl
    read false k e = absurd (omega (arith, ints, e))

same_flag : (s t : ℤ) → (s ≡ pos 0 → t ≡ pos 0) → (t ≡ pos 0 → s ≡ pos 0) → zero_flag s ≡ zero_flag t
same_flag s t h k =
    read (int_eq s (pos 0)) (int_eq t (pos 0))
    (λ e. (Decides-int_eq t (pos 0)).1 (h ((Decides-int_eq s (pos 0)).0 e)))
    (λ e. (Decides-int_eq s (pos 0)).1 (k ((Decides-int_eq t (pos 0)).0 e)))
  where
    read : (p q : Bool) → (p ≡ true → q ≡ true) → (q ≡ true → p ≡ true)
        → (if p then pos 1 else pos 0) ≡ (if q then pos 1 else pos 0)
    read true true x y = refl
    read true false x y = absurd (false≢true (x refl))
    read false true x y = absurd (false≢true (y refl))
    read false false x y = refl

-- ---- the measure
-- whether a corner is on the line through `at` and d: 1 or 0
abbrev pub on_line : (at d : Corner) → Corner → ℤ
on_line at d c = zero_flag (turn at d c)

-- an edge from `at` counts whether its end is on that line, and an edge to `at` counts against it whether its start is
abbrev pub passing : (at d : Corner) → Edge → ℤ
passing at d edge =
    (if is_same edge.from at then on_line at d edge.to else pos 0) -ℤ (if is_same edge.to at then on_line at d edge.from else pos 0)

pub passing_turns : (at d : Corner) → ChangesSign (passing at d)
passing_turns at d edge =
    turned (if is_same edge.from at then on_line at d edge.to else pos 0) (if is_same edge.to at then on_line at d edge.from else pos 0)
  where
    turned : (x y : ℤ) → y -ℤ x ≡ neg_ℤ (x -ℤ y)
    turned x y = omega (arith, ints)

-- the parts of an edge that is cut count together what the edge counts
pub passing_adds : (at d : Corner) → AddsUp (passing at d)
passing_adds at d a b c h =
    added (is_same a at) (is_same b at) (is_same c at) (on_line at d a) (on_line at d b) (on_line at d c)
    (λ e f. edge_has_length a b c h (same_from_test a at e ∙ sym (same_from_test b at f)))
    (λ e f. h.not_start (same_from_test c at f ∙ sym (same_from_test a at e)))
    (λ e f. h.not_end (same_from_test c at f ∙ sym (same_from_test b at e)))
    (λ e. from_end a b h (same_from_test a at e))
    (λ e. from_end b a (strictly_back c a b h) (same_from_test b at e))
    (λ e. across (same_from_test c at e))
  where
    from_end : (u v : Corner) → IsStrictlyInside c u v → u ≡ at → on_line at d c ≡ on_line at d v
    from_end u v i e =
        ap (λ (x : Corner). on_line x d c) (sym e)
        ∙ same_flag (turn u d c) (turn u d v) (line_to_end u v c d i) (line_to_inner u v c d i)
        ∙ ap (λ (x : Corner). on_line x d v) e

    across : c ≡ at → on_line at d a ≡ on_line at d b
    across e =
        ap (λ (x : Corner). on_line x d a) (sym e)
        ∙ same_flag (turn c d a) (turn c d b) (line_across a b c d h) (line_across b a c d (strictly_back c a b h))
        ∙ ap (λ (x : Corner). on_line x d b) e

    added : (p q r : Bool) (x y z : ℤ) → (p ≡ true → q ≡ true → ⊥) → (p ≡ true → r ≡ true → ⊥) → (q ≡ true → r ≡ true → ⊥)
        → (p ≡ true → z ≡ y) → (q ≡ true → z ≡ x) → (r ≡ true → x ≡ y)
        → ((if p then z else pos 0) -ℤ (if r then x else pos 0)) +ℤ ((if r then y else pos 0) -ℤ (if q then z else pos 0))
        ≡ (if p then y else pos 0) -ℤ (if q then x else pos 0)
    added true true r x y z pq pr qr hp hq hr = absurd (pq refl refl)
    added true false true x y z pq pr qr hp hq hr = absurd (pr refl refl)
    added true false false x y z pq pr qr hp hq hr = omega (arith, ints, hp refl)
    added false true true x y z pq pr qr hp hq hr = absurd (qr refl refl)
    added false true false x y z pq pr qr hp hq hr = omega (arith, ints, hq refl)
    added false false true x y z pq pr qr hp hq hr = omega (arith, ints, hr refl)
    added false false false x y z pq pr qr hp hq hr = omega (arith, ints)

-- ---- sums of it
is_other : (at c : Corner) → (c ≡ at → ⊥) → is_same c at ≡ false
is_other at c h = false_where (is_same c at) (Decides-is_same c at) h

passing_by : (at d a b : Corner) → (a ≡ at → ⊥) → (b ≡ at → ⊥) → passing at d (edge_of a b) ≡ pos 0
passing_by at d a b h k =
    ap (λ t. (if t then on_line at d b else pos 0) -ℤ (if is_same b at then on_line at d a else pos 0)) (is_other at a h)
    ∙ ap (λ t. pos 0 -ℤ (if t then on_line at d a else pos 0)) (is_other at b k)

passing_from : (at d b : Corner) → (b ≡ at → ⊥) → passing at d (edge_of at b) ≡ on_line at d b
passing_from at d b k =
    ap (λ t. (if t then on_line at d b else pos 0) -ℤ (if is_same b at then on_line at d at else pos 0)) (is_same_itself at)
    ∙ ap (λ t. on_line at d b -ℤ (if t then on_line at d at else pos 0)) (is_other at b k)
    ∙ less (on_line at d b)
  where
    less : (z : ℤ) → z -ℤ pos 0 ≡ z
    less z = omega (arith, ints)

passing_to : (at d a : Corner) → (a ≡ at → ⊥) → passing at d (edge_of a at) ≡ neg_ℤ (on_line at d a)
passing_to at d a k =
    passing_turns at d (edge_of at a) ∙ ap neg_ℤ (passing_from at d a k)

later_in : (x : Corner) (xs : List Corner) (c : Corner) → Contains xs c → Contains (x ∷ xs) c
later_in x xs c k = (suc k.0, omega (arith, k.1), k.2)

-- a path that does not come to the corner
path_by : (at d from : Corner) (xs : List Corner) (to : Corner) → (Contains (from ∷ xs) at → ⊥) → (to ≡ at → ⊥)
    → sum_over (passing at d) (path from xs to) ≡ pos 0
path_by at d from [] to h k =
    omega (arith, ints, passing_by at d from to (λ e. h (0, omega arith, e)) k)
path_by at d from (x ∷ xs) to h k =
    omega (
      arith,
      ints,
      passing_by at d from x (λ e. h (0, omega arith, e)) (λ e. h (1, omega arith, e)),
      path_by at d x xs to (λ c. h (later_in from (x ∷ xs) at c)) k,
    )

ring_by : (at d : Corner) (ring : List Corner) → (Contains ring at → ⊥) → sum_over (passing at d) (edges ring) ≡ pos 0
ring_by at d [] h = refl
ring_by at d (first ∷ rest) h = path_by at d first rest first h (λ e. h (0, omega arith, e))

-- a ring that is straight at the corner
ring_straight : (at d : Corner) (ring : List Corner) → ¬ BendsAt at ring → sum_over (passing at d) (edges ring) ≡ pos 0
ring_straight at d ring h =
    sym (sum_over-without (passing at d) at ring (λ a b i. sym (passing_adds at d a b at i)) h)
    ∙ ring_by at d (without_corner at ring) (λ k.
    taken (is_same at at) (is_same_itself at) (Contains-from_filter (λ corner. not (is_same at corner)) ring at k).1)
  where
    taken : (b : Bool) → b ≡ true → not b ≡ true → ⊥
    taken true e f = false≢true f
    taken false e f = false≢true e

pub all_straight : (at d : Corner) (rings : List (List Corner)) → AllByRecursion (λ ring. ¬ BendsAt at ring) rings
    → sum_over (passing at d) (all_edges rings) ≡ pos 0
all_straight at d [] h = refl
all_straight at d (ring ∷ rings) h = omega (
  arith,
  ints,
  sum_over-append (passing at d) (edges ring) (all_edges rings),
  ring_straight at d ring h.0,
  all_straight at d rings h.1,
)

-- a path on to the corner, and one from it round to it again
path_back : (at d from : Corner) (xs : List Corner) → (Contains (from ∷ xs) at → ⊥)
    → sum_over (passing at d) (path from xs at) ≡ neg_ℤ (on_line at d (get_or (from ∷ xs) (length xs) origin))
path_back at d from [] h = omega (arith, ints, passing_to at d from (λ e. h (0, omega arith, e)))
path_back at d from (x ∷ xs) h =
    omega (
      arith,
      ints,
      passing_by at d from x (λ e. h (0, omega arith, e)) (λ e. h (1, omega arith, e)),
      path_back at d x xs (λ c. h (later_in from (x ∷ xs) at c)),
    )

pub path_round : (at d x : Corner) (xs : List Corner) → (Contains (x ∷ xs) at → ⊥)
    → sum_over (passing at d) (path at (x ∷ xs) at) ≡ on_line at d x -ℤ on_line at d (get_or (x ∷ xs) (length xs) origin)
path_round at d x xs h =
    omega (arith, ints, passing_from at d x (λ e. h (0, omega arith, e)), path_back at d x xs h)
