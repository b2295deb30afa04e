-- An edge of a noded simple ring does not run back anywhere in the ring: each is a part of one of the ring's edges, in
-- its direction, and two edges of a simple ring have one corner in common at most.
use Rattle.std.proofs.Common.{◌≡◌, ◌≢◌, inl, inr, ⊎_elim, refl, sym, ◌∙◌, ap, subst, arith, ℕ, ◌<◌, ◌≤◌}
use Rattle.std.proofs.Common.{List, [], ◌∷◌, ◌++◌, length, append-nil}
use Rattle.std.specs.List.{Contains}
use Rattle.std.proofs.lemmas.Bool.{cases_lt}
use Rattle.std.proofs.lemmas.Bool.Decides.{nat_tests}
use Rattle.std.proofs.lemmas.List.Elements.{Contains-append_cases}
use Rattle.std.proofs.lemmas.Option.{slice_get_read}
use Rattle.geo_exact.specs.declared.corner.Corner.{Corner}
use Rattle.geo_exact.specs.Places.{corner_at, after}
use Rattle.geo_exact.specs.Point.{corner_point}
use Rattle.geo_exact.specs.Rings.{Edge, path, edges}
use Rattle.geo_exact.specs.Turn.{IsOnEdge}
use Rattle.geo_exact.proofs.corners_and_turns.OnEdge.{on_edge_back, on_edge_start, on_edge_end}
use Rattle.geo_exact.proofs.rings.Begun.{ring_count}
use Rattle.geo_exact.proofs.rings.EdgeSums.{edge_of, path-join}
use Rattle.ring_core.specs.Simple.{IsSharedCorner, IsSimpleRing}
use Rattle.ring_core.proofs.ears.LeastCorners.{place_of}
use Rattle.ring_core.proofs.edges.EdgeNumbers.{ring_joins}
use Rattle.ring_core.proofs.edges.RoundNumbers.{after_in, after_other}
use Rattle.edge_chains.specs.Noding.{AreAlong, AreNodedEdges, IsNoded}
use Rattle.edge_chains.proofs.edges.Parts.{on_whole_second}
use Rattle.edge_chains.proofs.nodings.NodedEdges.{none_in_nil, Contains-here, Contains-there, Contains-cases}
use Rattle.ring_edits.specs.Round.{HasApartCorners}
use Rattle.ring_edits.proofs.Apart.{has_apart_corners}
use Rattle.district_laws.proofs.boundaries.Nodings.{each_on_other}

-- the part has two ends on the whole edge, and the one that it goes to lies between the other and the whole's end
record IsPart (part whole : Edge) : Type 0 where
  apart : part.from ≢ part.to
  starts : IsOnEdge (corner_point part.from) whole.from whole.to
  ends : IsOnEdge (corner_point part.to) whole.from whole.to
  onward : IsOnEdge (corner_point part.to) part.from whole.to

part_along : (a b : Corner) (xs : List Corner) → a ≢ b → AreAlong a xs b → (e : Edge) → Contains (path a xs b) e → IsPart e (edge_of a b)
part_along a b [] apart along e c = ⊎_elim
    (λ s. subst (λ z. IsPart z (edge_of a b)) s
    (record { apart = apart; starts = on_edge_start a b; ends = on_edge_end a b; onward = on_edge_end a b }))
    (λ none. absurd (none_in_nil e none)) (Contains-cases (edge_of a b) [] e c)
part_along a b (x ∷ rest) apart along e c = ⊎_elim
    (λ s. subst (λ z. IsPart z (edge_of a b)) s
    (record {
      apart = λ t. along.0.not_start (sym t);
      starts = on_edge_start a b;
      ends = along.0.on_edge;
      onward = along.0.on_edge;
    }))
    (λ later. let r = part_along x b rest along.0.not_end along.1 e later in record {
      apart = r.apart;
      starts = on_whole_second (corner_point e.from) a b x along.0 r.starts;
      ends = on_whole_second (corner_point e.to) a b x along.0 r.ends;
      onward = r.onward;
    })
    (Contains-cases (edge_of a x) (path x rest b) e c)

-- ---- paths and rings
-- the edge is a part of one of these
abbrev IsPartOfOne : List Edge → Edge → Type 0
IsPartOfOne es e = (whole : Edge) × Contains es whole × IsPart e whole

abbrev HaveTwoEnds : List Edge → Type 0
HaveTwoEnds es = (e : Edge) → Contains es e → e.from ≢ e.to

begins : (corners : List Corner) (from to : Corner) (rest out : List Corner) → AreNodedEdges corners (path from rest to) out
    → (tail : List Corner) × (out ≡ from ∷ tail)
begins corners from to [] out h = (h.0 ++ h.1, h.4)
begins corners from to (next ∷ rest) out h = (h.0 ++ h.1, h.4)

same_tail : (c : Corner) (xs ys : List Corner) → c ∷ xs ≡ c ∷ ys → xs ≡ ys
same_tail c xs ys e = cc

part_of_path : (corners : List Corner) (from to : Corner) (rest tail : List Corner) → HaveTwoEnds (path from rest to)
    → AreNodedEdges corners (path from rest to) (from ∷ tail) → (e : Edge) → Contains (path from tail to) e
    → IsPartOfOne (path from rest to) e
part_of_path corners from to [] tail two h e c =
    let s : tail ≡ h.0 = same_tail from tail (h.0 ++ h.1) h.4 ∙ ap (λ xs. h.0 ++ xs) h.3 ∙ append-nil h.0 in (
      edge_of from to,
      Contains-here (edge_of from to) [],
      part_along from to h.0 (two (edge_of from to) (Contains-here (edge_of from to) [])) h.2.in_order e
          (subst (λ xs. Contains (path from xs to) e) s c),
    )
part_of_path corners from to (next ∷ rest) tail two h e c =
    let w = begins corners next to rest h.1 h.3 in
    let s : tail ≡ h.0 ++ next ∷ w.0 = same_tail from tail (h.0 ++ h.1) h.4 ∙ ap (λ xs. h.0 ++ xs) w.1 in
    let joined : path from tail to ≡ path from h.0 next ++ path next w.0 to = ap (λ xs. path from xs to) s
    ∙ path-join from next to h.0 w.0 in
    ⊎_elim
    (λ here. (
      edge_of from next,
      Contains-here (edge_of from next) (path next rest to),
      part_along from next h.0 (two (edge_of from next) (Contains-here (edge_of from next) (path next rest to))) h.2.in_order e here,
    ))
    (λ later. let r = part_of_path corners next to rest w.0
    (λ f k. two f (Contains-there (edge_of from next) (path next rest to) f k))
    (subst (AreNodedEdges corners (path next rest to)) w.1 h.3) e later in
    (r.0, Contains-there (edge_of from next) (path next rest to) r.0 r.1, r.2))
    (Contains-append_cases (path from h.0 next) (path next w.0 to) e (subst (λ es. Contains es e) joined c))

part_of_ring : (corners ring noded : List Corner) → HaveTwoEnds (edges ring) → IsNoded ring corners noded → (e : Edge)
    → Contains (edges noded) e → IsPartOfOne (edges ring) e
part_of_ring corners [] noded two h e c = absurd (none_in_nil e (subst (λ r. Contains (edges r) e) h c))
part_of_ring corners (first ∷ rest) noded two h e c =
    let w = begins corners first first rest noded h in
    part_of_path corners first first rest w.0 two (subst (AreNodedEdges corners (path first rest first)) w.1 h) e
    (subst (λ r. Contains (edges r) e) w.1 c)

-- ---- the edges of a simple ring, by their numbers
record HasNumber (ring : List Corner) (e : Edge) : Type 0 where
  number : ℕ
  within : number < length ring
  from : e.from ≡ corner_at ring number
  to : e.to ≡ corner_at ring (after (length ring) number)

has_number : (ring : List Corner) (e : Edge) → Contains (edges ring) e → HasNumber ring e
has_number ring e c =
    let joined = ring_joins ring c.0 e (slice_get_read (edges ring) (length (edges ring)) c.0 e refl c.1 (sym c.2)) in record {
      number = c.0;
      within = omega (arith, c.1, ring_count ring);
      from = joined.0;
      to = joined.1;
    }

two_ends : (ring : List Corner) → HasApartCorners ring → HaveTwoEnds (edges ring)
two_ends ring h e c same =
    let n = has_number ring e c in
    h.apart n.number (after (length ring) n.number) n.within (after_in (length ring) n.number n.within)
    (λ s. after_other (length ring) n.number (omega (arith, h.three)) n.within (sym s))
    (sym n.from ∙ same ∙ n.to)

-- two numbers of three and more do not each follow the other
not_both_ways : (n i j : ℕ) → 3 ≤ n → i < j → j < n → j ≡ after n i → i ≡ after n j → ⊥
not_both_ways n i j h o b e f = grind (arith, nat_tests)

module _ (ring : List Corner) (simple : IsSimpleRing ring) (three : 3 ≤ length ring) where
  one_shared : (i j : ℕ) (a b : Corner) → a ≢ b → i < j → j < length ring → IsSharedCorner (corner_point a) ring i j
      → IsSharedCorner (corner_point b) ring i j → ⊥
  one_shared i j a b apart o l (inl s) (inl t) =
      apart (place_of a (corner_at ring j) s.1 ∙ sym (place_of b (corner_at ring j) t.1))
  one_shared i j a b apart o l (inr s) (inr t) =
      apart (place_of a (corner_at ring i) s.1 ∙ sym (place_of b (corner_at ring i) t.1))
  one_shared i j a b apart o l (inl s) (inr t) = not_both_ways (length ring) i j three o l s.0 t.0
  one_shared i j a b apart o l (inr s) (inl t) = not_both_ways (length ring) i j three o l t.0 s.0

  -- two edges of the ring have no two corners in common
  not_on_both : (i j : ℕ) (a b : Corner) → a ≢ b → i < j → j < length ring
      → IsOnEdge (corner_point a) (corner_at ring i) (corner_at ring (after (length ring) i))
      → IsOnEdge (corner_point a) (corner_at ring j) (corner_at ring (after (length ring) j))
      → IsOnEdge (corner_point b) (corner_at ring i) (corner_at ring (after (length ring) i))
      → IsOnEdge (corner_point b) (corner_at ring j) (corner_at ring (after (length ring) j)) → ⊥
  not_on_both i j a b apart o l ai aj bi bj =
      simple.simple i j o l
      (corner_point a, ai, aj, λ s. simple.simple i j o l (corner_point b, bi, bj, λ t. one_shared i j a b apart o l s t))

-- a corner on an edge, by the edge's number
at_number : (ring : List Corner) (e : Edge) (n : HasNumber ring e) (c : Corner) → IsOnEdge (corner_point c) e.from e.to
    → IsOnEdge (corner_point c) (corner_at ring n.number) (corner_at ring (after (length ring) n.number))
at_number ring e n c on =
    subst (λ u. IsOnEdge (corner_point c) u (corner_at ring (after (length ring) n.number))) n.from
    (subst (IsOnEdge (corner_point c) e.from) n.to on)

-- parts of one edge run one way
not_in_one : (a b w : Corner) → a ≢ b → IsOnEdge (corner_point b) a w → IsOnEdge (corner_point a) b w → ⊥
not_in_one a b w apart on back =
    apart (sym (each_on_other w b a (on_edge_back a w (corner_point b) on) (on_edge_back b w (corner_point a) back)))

pub runs_one_way : (corners ring noded : List Corner) → IsSimpleRing ring → IsNoded ring corners noded → (a b : Corner)
    → Contains (edges noded) (edge_of a b) → ¬ Contains (edges noded) (edge_of b a)
runs_one_way corners ring noded simple h a b c d =
    let apart_corners = has_apart_corners ring simple in
    let two = two_ends ring apart_corners in
    let one = part_of_ring corners ring noded two h (edge_of a b) c in
    let other = part_of_ring corners ring noded two h (edge_of b a) d in
    let m = has_number ring one.0 one.1 in
    let n = has_number ring other.0 other.1 in
    ⊎_elim
    (λ o. not_on_both ring simple apart_corners.three m.number n.number a b one.2.apart o n.within
    (at_number ring one.0 m a one.2.starts) (at_number ring other.0 n a other.2.ends)
    (at_number ring one.0 m b one.2.ends) (at_number ring other.0 n b other.2.starts))
    (λ not_less. ⊎_elim
    (λ o. not_on_both ring simple apart_corners.three n.number m.number a b one.2.apart o m.within
    (at_number ring other.0 n a other.2.ends) (at_number ring one.0 m a one.2.starts)
    (at_number ring other.0 n b other.2.starts) (at_number ring one.0 m b one.2.ends))
    (λ not_more. let same : m.number ≡ n.number = omega (arith, not_less, not_more) in
    let end : other.0.to ≡ one.0.to = n.to ∙ ap (λ k. corner_at ring (after (length ring) k)) (sym same) ∙ sym m.to in
    not_in_one a b one.0.to one.2.apart one.2.onward (subst (IsOnEdge (corner_point a) b) end other.2.onward))
    (cases_lt n.number m.number))
    (cases_lt m.number n.number)
