-- An edit is refused for one reason at most, and not where it has a result.
use Rattle.std.proofs.Common.{◌≡◌, ◌⊎◌, inl, inr, ⊎_elim, refl, sym, ◌∙◌, ap, subst, arith, ℕ, ◌+◌, ◌<◌, List}
use Rattle.std.proofs.Common.{[], ◌∷◌, ◌++◌, length}
use Rattle.std.proofs.Common.{take, drop}
use Rattle.std.specs.List.{AllByRecursion, Contains}
use Rattle.std.proofs.lemmas.List.{take-append-drop}
use Rattle.std.proofs.lemmas.List.Elements.{Contains-append_left, Contains-append_right, Contains-append_cases}
use Rattle.geo_exact.specs.declared.corner.Corner.{Corner}
use Rattle.geo_exact.specs.Layers.{NumberedRing, numbered}
use Rattle.geo_exact.specs.Rings.{begun_at}
use Rattle.ring_core.specs.Simple.{IsSimpleRing}
use Rattle.ring_core.specs.Faults.{IsRingFault}
use Rattle.ring_core.specs.declared.ring.RingFault.{RingFault}
use Rattle.edge_chains.proofs.nodings.NodedEdges.{Contains-here, Contains-there}
use Rattle.ring_edits.specs.declared.edit.Edit.{Edit}
use Rattle.ring_edits.specs.declared.edit.Edit.TheVariants.{Split, Merge, Move, Insert, Straighten}
use Rattle.ring_edits.specs.declared.fault.EditFault.TheVariants.{NotNeighbours as NoBorder, SharedTwice as TwoBorders}
use Rattle.ring_edits.specs.Edits.{IsPath, IsPathAcross, IsSplit, IsMerge, IsMove, ShareOneRun, AreNeighbours, IsBadBorder, IsBorderPath}
use Rattle.ring_edits.specs.Edits.{BendsAt}
use Rattle.ring_edits.proofs.Apart.{has_apart_corners}
use Rattle.ring_edits.proofs.OneResult.{one_split, one_merge, one_move, same_shared}
use Rattle.fabric_core.specs.own.Balanced.{Ascend}
use Rattle.fabric_core.specs.declared.journal.TheConstants.{JOURNAL_ENTRIES}
use Rattle.fabric_core.specs.declared.refusal.Refusal.{Refusal}
use Rattle.fabric_core.specs.declared.refusal.Refusal.TheVariants.{Unknown, Retired, BadPath, NotNeighbours, SharedTwice, Ring}
use Rattle.fabric_core.specs.declared.refusal.Refusal.TheVariants.{NoSuchEdge, NotOnEdge, NoSuchCorner, NotFlat}
use Rattle.fabric_core.specs.declared.refusal.Refusal.TheVariants.{JournalFull, TooMany, NoMemory}
use Rattle.fabric_core.specs.Rows.{numbers}
use Rattle.fabric_core.specs.Faults.{AreSimple}
use Rattle.fabric_core.specs.Journal.{State, JournalEntry, with_rows, without_ids}
use Rattle.fabric_core.specs.EditResults.{IsChange, IsSplitOf, IsMergeOf, IsMoveOf, IsInsertOf, IsStraightenOf, AreWithinLayerLimits}
use Rattle.fabric_core.specs.Refusals.{IsRetiredBy, named_ids, AreParcels, IsFirstAbsent, HaveBorderFault, IsBadMovePath, IsOwnRefusal}
use Rattle.fabric_core.specs.Refusals.{NeedsNoMemory}
use Rattle.fabric_core.specs.own.Changes.{AsksMemory}
use Rattle.fabric_core.specs.Refusals.{IsBent, IsFirstBadRing, IsFirstBent, IsChangeRefusal, IsIdRefusal, IsRefusal}
use Rattle.fabric_core.proofs.rows.RowLists.{one_ring}
use Rattle.fabric_core.proofs.loads.OneFault.{one_ring_fault, simple_has_no_fault}
use Rattle.fabric_core.proofs.loads.OneLoadFault.{head_of}
use Rattle.fabric_core.proofs.edits.Stops.{id_here}
use Rattle.fabric_core.proofs.edits.Neighbours.{ring_is_simple, run_has_edge, merged_run, moved_path, moved_run}

-- ---- cuts
-- a ring begun elsewhere has no other corners
begun_has : (k : ℕ) (ring : List Corner) (c : Corner) → Contains (begun_at k ring) c → Contains ring c
begun_has k ring c h = subst (λ xs. Contains xs c) (take-append-drop k ring) (⊎_elim
    (λ d. Contains-append_right (take k ring) (drop k ring) c d)
    (λ d. Contains-append_left (take k ring) (drop k ring) c d)
    (Contains-append_cases (drop k ring) (take k ring) c h))

-- a path along which a ring is cut goes across it
pub across : (ring path left right : List Corner) → IsSplit ring path left right → IsPathAcross ring path
across ring path left right h = record {
  from = h.from;
  between = h.between;
  to = h.to;
  is_path = h.is_path;
  has_from = begun_has h.round.start ring h.from
      (subst (λ xs. Contains xs h.from) (sym h.round.round) (Contains-here h.from (h.onward ++ h.to ∷ h.back)));
  has_to = begun_has h.round.start ring h.to
      (subst (λ xs. Contains xs h.to) (sym h.round.round)
      (Contains-there h.from (h.onward ++ h.to ∷ h.back) h.to
      (Contains-append_right h.onward (h.to ∷ h.back) h.to (Contains-here h.to h.back))));
}

-- ---- the first ring that bends
bent_at : (at : Corner) (before : List NumberedRing) (row : NumberedRing) (behind : List NumberedRing)
    → AllByRecursion (λ other. ¬ BendsAt at other.corners) (before ++ row ∷ behind) → BendsAt at row.corners → ⊥
bent_at at [] row behind h b = h.0 b
bent_at at (x ∷ before) row behind h b = bent_at at before row behind h.1 b

bent_or_straight : (rows : List NumberedRing) (at : Corner) (id : ℕ) → IsFirstBent rows at id
    → AllByRecursion (λ row. ¬ BendsAt at row.corners) rows → ⊥
bent_or_straight rows at id h k =
    bent_at at h.before h.row h.behind (subst (AllByRecursion (λ row. ¬ BendsAt at row.corners)) h.are_all k) h.bends

first_bent : (at : Corner) (before before' behind behind' : List NumberedRing) (row row' : NumberedRing)
    → AllByRecursion (λ other. ¬ BendsAt at other.corners) before → AllByRecursion (λ other. ¬ BendsAt at other.corners) before'
    → BendsAt at row.corners → BendsAt at row'.corners
    → before ++ row ∷ behind ≡ before' ++ row' ∷ behind' → row ≡ row'
first_bent at [] [] behind behind' row row' h k b c e = head_of row row' behind behind' e
first_bent at [] (x ∷ before') behind behind' row row' h k b c e =
    let same : row ≡ x = head_of row x behind (before' ++ row' ∷ behind') e in
    absurd (k.0 (subst (λ (r : NumberedRing). BendsAt at r.corners) same b))
first_bent at (x ∷ before) [] behind behind' row row' h k b c e =
    let same : x ≡ row' = head_of x row' (before ++ row ∷ behind) behind' e in
    absurd (h.0 (subst (λ (r : NumberedRing). BendsAt at r.corners) (sym same) c))
first_bent at (x ∷ before) (y ∷ before') behind behind' row row' h k b c e =
    let rest : before ++ row ∷ behind ≡ before' ++ row' ∷ behind' = cc in
    first_bent at before before' behind behind' row row' h.1 k.1 b c rest

one_first_bent : (rows : List NumberedRing) (at : Corner) (id other : ℕ) → IsFirstBent rows at id → IsFirstBent rows at other
    → id ≡ other
one_first_bent rows at id other h k =
    sym h.has_id
    ∙ ap (λ (r : NumberedRing). r.number)
    (first_bent at h.before k.before h.behind k.behind h.row k.row h.straight_before k.straight_before h.bends k.bends
    (sym h.are_all ∙ k.are_all))
    ∙ k.has_id

-- ---- one change
two_rows : (next : ℕ) (left right other_left other_right : List Corner) (rows others : List NumberedRing)
    → rows ≡ numbered next left ∷ numbered (next + 1) right ∷ []
    → others ≡ numbered next other_left ∷ numbered (next + 1) other_right ∷ []
    → other_left ≡ left → other_right ≡ right → rows ≡ others
two_rows next left right other_left other_right rows others h k e f =
    h ∙ ap (λ x. numbered next x ∷ numbered (next + 1) right ∷ []) (sym e)
    ∙ ap (λ x. numbered next other_left ∷ numbered (next + 1) x ∷ []) (sym f) ∙ sym k

-- ---- borders along which a path is good
border_run : (ring_a ring_b path : List Corner) → IsBorderPath ring_a ring_b path → ShareOneRun ring_a ring_b
border_run ring_a ring_b path h = (h.0, h.1, h.3)

good_or_bad : (ring_a ring_b path : List Corner) → IsBorderPath ring_a ring_b path → IsBadBorder ring_a ring_b path → ⊥
good_or_bad ring_a ring_b path h bad =
    let run = h.3 in
    let same = same_shared ring_a ring_b h.0 h.1 bad.0 bad.1 run.0 bad.2.0 run.1 bad.2.1 run.2 bad.2.2 in
    bad.3 h.2 (subst (λ c. IsPath path c h.2 bad.1) same.0 (subst (λ c. IsPath path h.0 h.2 c) same.2 h.4))

module _ (state : State) (simple : AreSimple state.rows) (up : Ascend state.rows) where
  ring_of : (id : ℕ) (ring other : List Corner) → Contains state.rows (numbered id ring) → Contains state.rows (numbered id other)
      → other ≡ ring
  ring_of id ring other h k = one_ring state.rows id other ring up k h

  simple_ring : (id : ℕ) (ring : List Corner) → Contains state.rows (numbered id ring) → IsSimpleRing ring
  simple_ring id ring h = ring_is_simple state.rows id ring simple h

  one_cut : (id : ℕ) (path : List Corner) (out other_out : List ℕ) (rows others : List NumberedRing)
      → IsSplitOf state id path out rows
      → IsSplitOf state id path other_out others → (out ≡ other_out) × (rows ≡ others)
  one_cut id path out other_out rows others h k =
      let r = one_split h.ring path h.left h.right k.left k.right (has_apart_corners h.ring (simple_ring id h.ring h.has)) h.is_split
      (subst (λ ring. IsSplit ring path k.left k.right) (ring_of id h.ring k.ring h.has k.has) k.is_split) in
      (h.out_is ∙ sym k.out_is, two_rows state.next h.left h.right k.left k.right rows others h.rows_are k.rows_are r.0 r.1)

  one_union : (a b : ℕ) (out other_out : List ℕ) (rows others : List NumberedRing) → IsMergeOf state a b out rows
      → IsMergeOf state a b other_out others → (out ≡ other_out) × (rows ≡ others)
  one_union a b out other_out rows others h k =
      let r = one_merge h.ring_a h.ring_b h.ring k.ring (has_apart_corners h.ring_b (simple_ring b h.ring_b h.has_b)) h.is_merge
      (subst (λ ring. IsMerge ring h.ring_b k.ring) (ring_of a h.ring_a k.ring_a h.has_a k.has_a)
      (subst (λ ring. IsMerge k.ring_a ring k.ring) (ring_of b h.ring_b k.ring_b h.has_b k.has_b) k.is_merge)) in
      (h.out_are ∙ sym k.out_are, h.rows_are ∙ ap (λ ring. numbered state.next ring ∷ []) (sym r) ∙ sym k.rows_are)

  one_shift : (a b : ℕ) (path : List Corner) (out other_out : List ℕ) (rows others : List NumberedRing)
      → IsMoveOf state a b path out rows
      → IsMoveOf state a b path other_out others → (out ≡ other_out) × (rows ≡ others)
  one_shift a b path out other_out rows others h k =
      let r =
      one_move h.ring_a h.ring_b path h.new_a h.new_b k.new_a k.new_b
      (has_apart_corners h.ring_b (simple_ring b h.ring_b h.has_b)) h.is_move
      (subst (λ ring. IsMove ring h.ring_b path k.new_a k.new_b) (ring_of a h.ring_a k.ring_a h.has_a k.has_a)
      (subst (λ ring. IsMove k.ring_a ring path k.new_a k.new_b) (ring_of b h.ring_b k.ring_b h.has_b k.has_b) k.is_move)) in
      (h.out_are ∙ sym k.out_are, two_rows state.next h.new_a h.new_b k.new_a k.new_b rows others h.rows_are k.rows_are r.0 r.1)

  one_insert : (from to at : Corner) (out other_out : List ℕ) (rows others : List NumberedRing) → IsInsertOf state from to at out rows
      → IsInsertOf state from to at other_out others → (out ≡ other_out) × (rows ≡ others)
  one_insert from to at out other_out rows others h k =
      let e : rows ≡ others = h.rows_are ∙ sym k.rows_are in (h.out_are ∙ ap numbers e ∙ sym k.out_are, e)

  one_straightening : (at : Corner) (out other_out : List ℕ) (rows others : List NumberedRing) → IsStraightenOf state at out rows
      → IsStraightenOf state at other_out others → (out ≡ other_out) × (rows ≡ others)
  one_straightening at out other_out rows others h k =
      let e : rows ≡ others = h.rows_are ∙ sym k.rows_are in (h.out_are ∙ ap numbers e ∙ sym k.out_are, e)

  -- what an edit takes out and brings is determined
  pub one_change : {A : Type 0} (edit : Edit A) (out other_out : List ℕ) (rows others : List NumberedRing)
      → IsChange state edit out rows
      → IsChange state edit other_out others → (out ≡ other_out) × (rows ≡ others)
  one_change (Split id path) out other_out rows others h k = one_cut id path out other_out rows others h k
  one_change (Merge a b) out other_out rows others h k = one_union a b out other_out rows others h k
  one_change (Move a b path) out other_out rows others h k = one_shift a b path out other_out rows others h k
  one_change (Insert from to at) out other_out rows others h k = one_insert from to at out other_out rows others h k
  one_change (Straighten at) out other_out rows others h k = one_straightening at out other_out rows others h k

  -- ---- the refusals of each edit
  -- where there is no border for one reason, there is none for the other, and no result
  borders_differ : (a b : ℕ) → HaveBorderFault state a b NoBorder → HaveBorderFault state a b TwoBorders → ⊥
  borders_differ a b h k =
      subst (λ ring. ¬ AreNeighbours ring h.1) (sym (ring_of a h.0 k.0 h.2 k.2)) h.4
      (subst (λ ring. AreNeighbours k.0 ring) (ring_of b h.1 k.1 h.3 k.3) k.4.0)

  border_or_run : (a b : ℕ) (ring_a ring_b : List Corner) → Contains state.rows (numbered a ring_a)
      → Contains state.rows (numbered b ring_b)
      → ShareOneRun ring_a ring_b → HaveBorderFault state a b NoBorder ⊎ HaveBorderFault state a b TwoBorders → ⊥
  border_or_run a b ring_a ring_b has_a has_b run (inl h) =
      h.4 (subst (λ ring. AreNeighbours ring h.1) (ring_of a h.0 ring_a h.2 has_a)
      (subst (λ ring. AreNeighbours ring_a ring) (ring_of b h.1 ring_b h.3 has_b) (run_has_edge ring_a ring_b run)))
  border_or_run a b ring_a ring_b has_a has_b run (inr h) =
      h.4.1 (subst (λ ring. ShareOneRun ring h.1) (ring_of a h.0 ring_a h.2 has_a)
      (subst (λ ring. ShareOneRun ring_a ring) (ring_of b h.1 ring_b h.3 has_b) run))

  bad_move_run : (a b : ℕ) (path : List Corner) (k : IsBadMovePath state a b path) → ShareOneRun k.0 k.1
  bad_move_run a b path k = let bad = k.4 in (bad.0, bad.1, bad.2)

  -- where a ring bends for one reason, it does not for the other
  one_bent : (at : Corner) (r s : Refusal) → IsBent state at r → IsBent state at s → r ≡ s
  one_bent at r s (inl h) (inl k) = h.1 ∙ ap NotFlat (one_first_bent state.rows at h.0 k.0 h.2 k.2) ∙ sym k.1
  one_bent at r s (inl h) (inr k) = absurd (bent_or_straight state.rows at h.0 h.2 k.1.0)
  one_bent at r s (inr h) (inl k) = absurd (bent_or_straight state.rows at k.0 k.2 h.1.0)
  one_bent at r s (inr h) (inr k) = h.0 ∙ sym k.0

  pub one_own : {A : Type 0} (edit : Edit A) (r s : Refusal) → IsOwnRefusal state edit r → IsOwnRefusal state edit s → r ≡ s
  one_own (Split id path) r s h k = h.0 ∙ sym k.0
  one_own (Merge a b) r s (inl h) (inl k) = h.0 ∙ sym k.0
  one_own (Merge a b) r s (inl h) (inr k) = absurd (borders_differ a b h.1 k.1)
  one_own (Merge a b) r s (inr h) (inl k) = absurd (borders_differ a b k.1 h.1)
  one_own (Merge a b) r s (inr h) (inr k) = h.0 ∙ sym k.0
  one_own (Move a b path) r s (inl h) (inl k) = h.0 ∙ sym k.0
  one_own (Move a b path) r s (inl h) (inr (inl k)) = absurd (borders_differ a b h.1 k.1)
  one_own (Move a b path) r s (inl h) (inr (inr k)) =
      absurd (border_or_run a b k.1.0 k.1.1 k.1.2 k.1.3 (bad_move_run a b path k.1) (inl h.1))
  one_own (Move a b path) r s (inr (inl h)) (inl k) = absurd (borders_differ a b k.1 h.1)
  one_own (Move a b path) r s (inr (inl h)) (inr (inl k)) = h.0 ∙ sym k.0
  one_own (Move a b path) r s (inr (inl h)) (inr (inr k)) =
      absurd (border_or_run a b k.1.0 k.1.1 k.1.2 k.1.3 (bad_move_run a b path k.1) (inr h.1))
  one_own (Move a b path) r s (inr (inr h)) (inl k) =
      absurd (border_or_run a b h.1.0 h.1.1 h.1.2 h.1.3 (bad_move_run a b path h.1) (inl k.1))
  one_own (Move a b path) r s (inr (inr h)) (inr (inl k)) =
      absurd (border_or_run a b h.1.0 h.1.1 h.1.2 h.1.3 (bad_move_run a b path h.1) (inr k.1))
  one_own (Move a b path) r s (inr (inr h)) (inr (inr k)) = h.0 ∙ sym k.0
  one_own (Insert from to at) r s (inl h) (inl k) = h.0 ∙ sym k.0
  one_own (Insert from to at) r s (inl h) (inr k) = absurd (k.1 h.1)
  one_own (Insert from to at) r s (inr h) (inl k) = absurd (h.1 k.1)
  one_own (Insert from to at) r s (inr h) (inr k) = h.0 ∙ sym k.0
  one_own (Straighten at) r s (inl h) (inl k) = h.0 ∙ sym k.0
  one_own (Straighten at) r s (inl h) (inr k) = absurd (k.0 h.1)
  one_own (Straighten at) r s (inr h) (inl k) = absurd (h.0 k.1)
  one_own (Straighten at) r s (inr h) (inr k) = one_bent at r s h.1 k.1

  -- and what an edit itself asks for is so where it has a result
  bad_move_or_shift : (a b : ℕ) (path : List Corner) (out : List ℕ) (rows : List NumberedRing) → IsMoveOf state a b path out rows
      → IsBadMovePath state a b path → ⊥
  bad_move_or_shift a b path out rows h k =
      let bad = subst (λ ring. IsBadBorder ring h.ring_b path) (ring_of a h.ring_a k.0 h.has_a k.2)
      (subst (λ ring. IsBadBorder k.0 ring path) (ring_of b h.ring_b k.1 h.has_b k.3) k.4) in
      let m = h.is_move in
      let same = same_shared h.ring_a h.ring_b m.u m.v bad.0 bad.1 m.run bad.2.0 m.of_a bad.2.1 m.shared bad.2.2 in
      bad.3 m.between (subst (λ c. IsPath path c m.between bad.1) same.0 (subst (λ c. IsPath path m.u m.between c) same.2 m.is_path))

  pub own_or_change : {A : Type 0} (edit : Edit A) (r : Refusal) (out : List ℕ) (rows : List NumberedRing) → IsOwnRefusal state edit r
      → IsChange state edit out rows → ⊥
  own_or_change (Split id path) r out rows h k =
      h.1.2 (subst (λ ring. IsPathAcross ring path) (ring_of id h.1.0 k.ring h.1.1 k.has) (across k.ring path k.left k.right k.is_split))
  own_or_change (Merge a b) r out rows (inl h) k =
      border_or_run a b k.ring_a k.ring_b k.has_a k.has_b (merged_run k.ring_a k.ring_b k.ring k.is_merge) (inl h.1)
  own_or_change (Merge a b) r out rows (inr h) k =
      border_or_run a b k.ring_a k.ring_b k.has_a k.has_b (merged_run k.ring_a k.ring_b k.ring k.is_merge) (inr h.1)
  own_or_change (Move a b path) r out rows (inl h) k =
      border_or_run a b k.ring_a k.ring_b k.has_a k.has_b (moved_run k.ring_a k.ring_b path k.new_a k.new_b k.is_move) (inl h.1)
  own_or_change (Move a b path) r out rows (inr (inl h)) k =
      border_or_run a b k.ring_a k.ring_b k.has_a k.has_b (moved_run k.ring_a k.ring_b path k.new_a k.new_b k.is_move) (inr h.1)
  own_or_change (Move a b path) r out rows (inr (inr h)) k = bad_move_or_shift a b path out rows k h.1
  own_or_change (Insert from to at) r out rows (inl h) k = ⊎_elim (λ e. k.two_ends e) (λ e. k.some e) h.1
  own_or_change (Insert from to at) r out rows (inr h) k = h.2 k.is_between
  own_or_change (Straighten at) r out rows (inl h) k = k.some h.1
  own_or_change (Straighten at) r out rows (inr h) k =
      ⊎_elim (λ w. bent_or_straight state.rows at w.0 w.2 k.straight) (λ w. k.city_straight w.1.1) h.1

  -- where memory is asked for an edit, nothing that is told before refuses it
  pub asks_or_own : {A : Type 0} (edit : Edit A) (r : Refusal) → AsksMemory state edit → IsOwnRefusal state edit r → NeedsNoMemory r → ⊥
  asks_or_own (Split id path) r w h n = h.1.2 (subst (λ ring. IsPathAcross ring path) (ring_of id h.1.0 w.0 h.1.1 w.1) w.2)
  asks_or_own (Merge a b) r w (inl h) n = border_or_run a b w.0 w.1 w.2 w.3 w.4 (inl h.1)
  asks_or_own (Merge a b) r w (inr h) n = border_or_run a b w.0 w.1 w.2 w.3 w.4 (inr h.1)
  asks_or_own (Move a b path) r w (inl h) n = border_or_run a b w.0 w.1 w.2 w.3 (border_run w.0 w.1 path w.4) (inl h.1)
  asks_or_own (Move a b path) r w (inr (inl h)) n = border_or_run a b w.0 w.1 w.2 w.3 (border_run w.0 w.1 path w.4) (inr h.1)
  asks_or_own (Move a b path) r w (inr (inr h)) n =
      good_or_bad w.0 w.1 path w.4
      (subst (λ ring. IsBadBorder ring w.1 path) (ring_of a w.0 h.1.0 w.2 h.1.2)
      (subst (λ ring. IsBadBorder h.1.0 ring path) (ring_of b w.1 h.1.1 w.3 h.1.3) h.1.4))
  asks_or_own (Insert from to at) r w (inl h) n = ⊎_elim (λ e. w.0 e) (λ e. w.1 e) h.1
  asks_or_own (Insert from to at) r w (inr h) n = subst NeedsNoMemory h.0 n
  asks_or_own (Straighten at) r w (inl h) n = w h.1
  asks_or_own (Straighten at) r w (inr h) n = ⊎_elim (λ k. subst NeedsNoMemory k.1 n) (λ k. subst NeedsNoMemory k.0 n) h.1

  -- memory is asked for each edit that has a result
  pub change_asks : {A : Type 0} (edit : Edit A) (out : List ℕ) (rows : List NumberedRing) → IsChange state edit out rows
      → AsksMemory state edit
  change_asks (Split id path) out rows k = (k.ring, k.has, across k.ring path k.left k.right k.is_split)
  change_asks (Merge a b) out rows k = (k.ring_a, k.ring_b, k.has_a, k.has_b, merged_run k.ring_a k.ring_b k.ring k.is_merge)
  change_asks (Move a b path) out rows k =
      (k.ring_a, k.ring_b, k.has_a, k.has_b, moved_path k.ring_a k.ring_b path k.new_a k.new_b k.is_move)
  change_asks (Insert from to at) out rows k = (k.two_ends, k.some)
  change_asks (Straighten at) out rows k = k.some

-- the ids of an edit for which memory is asked are parcels'
asks_here : {A : Type 0} (state : State) (edit : Edit A) → AsksMemory state edit → AreParcels state.rows (named_ids edit)
asks_here state (Split id path) w = (id_here state.rows id w.0 w.1, tt)
asks_here state (Merge a b) w = (id_here state.rows a w.0 w.2, (id_here state.rows b w.1 w.3, tt))
asks_here state (Move a b path) w = (id_here state.rows a w.0 w.2, (id_here state.rows b w.1 w.3, tt))
asks_here state (Insert from to at) w = tt
asks_here state (Straighten at) w = tt

-- ---- ids that are named
first_is_one : (rows : List NumberedRing) (before before' behind behind' : List ℕ) (id id' : ℕ) → AreParcels rows before
    → AreParcels rows before'
    → ¬ Contains (numbers rows) id → ¬ Contains (numbers rows) id' → before ++ id ∷ behind ≡ before' ++ id' ∷ behind'
    → id ≡ id'
first_is_one rows [] [] behind behind' id id' h k g l e = cc
first_is_one rows [] (x ∷ before') behind behind' id id' h k g l e =
    let f : id ≡ x = cc in absurd (g (subst (Contains (numbers rows)) (sym f) k.0))
first_is_one rows (x ∷ before) [] behind behind' id id' h k g l e =
    let f : x ≡ id' = cc in absurd (l (subst (Contains (numbers rows)) f h.0))
first_is_one rows (x ∷ before) (y ∷ before') behind behind' id id' h k g l e =
    let f : before ++ id ∷ behind ≡ before' ++ id' ∷ behind' = cc in
    first_is_one rows before before' behind behind' id id' h.1 k.1 g l f

one_first_gone : (rows : List NumberedRing) (ids : List ℕ) (id other : ℕ) → IsFirstAbsent rows ids id → IsFirstAbsent rows ids other
    → id ≡ other
one_first_gone rows ids id other h k =
    first_is_one rows h.before k.before h.behind k.behind id other h.are_here k.are_here h.is_gone k.is_gone (sym h.are_all ∙ k.are_all)

here_at : (rows : List NumberedRing) (before behind : List ℕ) (id : ℕ) → AreParcels rows (before ++ id ∷ behind)
    → Contains (numbers rows) id
here_at rows [] behind id h = h.0
here_at rows (x ∷ before) behind id h = here_at rows before behind id h.1

pub here_or_gone : (rows : List NumberedRing) (ids : List ℕ) (id : ℕ) → AreParcels rows ids → IsFirstAbsent rows ids id → ⊥
here_or_gone rows ids id h k = k.is_gone (here_at rows k.before k.behind id (subst (AreParcels rows) k.are_all h))

-- ---- the first new ring that is not simple
bad_at : (before : List NumberedRing) (row : NumberedRing) (behind : List NumberedRing) (fault : RingFault)
    → AreSimple (before ++ row ∷ behind)
    → IsRingFault row.corners fault → ⊥
bad_at [] row behind fault h f = simple_has_no_fault row.corners fault h.0 f
bad_at (x ∷ before) row behind fault h f = bad_at before row behind fault h.1 f

first_bad : (before before' behind behind' : List NumberedRing) (row row' : NumberedRing) (fault fault' : RingFault) → AreSimple before
    → AreSimple before' → IsRingFault row.corners fault → IsRingFault row'.corners fault'
    → before ++ row ∷ behind ≡ before' ++ row' ∷ behind' → (length before ≡ length before') × (fault ≡ fault')
first_bad [] [] behind behind' row row' fault fault' h k f g e =
    let same : row ≡ row' = head_of row row' behind behind' e in
    (refl, one_ring_fault row.corners fault fault' f (subst (λ (r : NumberedRing). IsRingFault r.corners fault') (sym same) g))
first_bad [] (x ∷ before') behind behind' row row' fault fault' h k f g e =
    let same : row ≡ x = head_of row x behind (before' ++ row' ∷ behind') e in
    absurd (simple_has_no_fault x.corners fault k.0 (subst (λ (r : NumberedRing). IsRingFault r.corners fault) same f))
first_bad (x ∷ before) [] behind behind' row row' fault fault' h k f g e =
    let same : x ≡ row' = head_of x row' (before ++ row ∷ behind) behind' e in
    absurd (simple_has_no_fault x.corners fault' h.0 (subst (λ (r : NumberedRing). IsRingFault r.corners fault') (sym same) g))
first_bad (x ∷ before) (y ∷ before') behind behind' row row' fault fault' h k f g e =
    let rest : before ++ row ∷ behind ≡ before' ++ row' ∷ behind' = cc in
    let r = first_bad before before' behind behind' row row' fault fault' h.1 k.1 f g rest in
    (omega (arith, r.0), r.1)

one_first_bad : (rows : List NumberedRing) (m n : ℕ) (f g : RingFault) → IsFirstBadRing rows m f → IsFirstBadRing rows n g
    → (m ≡ n) × (f ≡ g)
one_first_bad rows m n f g h k =
    let r = first_bad h.before k.before h.behind k.behind h.row k.row f g h.simple_before k.simple_before h.is_fault k.is_fault
    (sym h.are_all ∙ k.are_all) in
    (h.is_number ∙ ap (λ l. l + 1) r.0 ∙ sym k.is_number, r.1)

-- ---- which refusals are for the ids, and which for a change
abbrev IsForIds : {A : Type 0} → State → List (JournalEntry A) → Edit A → Refusal → Type 0
IsForIds state journal edit r =
    ((id : ℕ) × (r ≡ Unknown id) × IsFirstAbsent state.rows (named_ids edit) id × ((by : ℕ) → ¬ IsRetiredBy journal id by))
    ⊎ ((id : ℕ) × (by : ℕ) × (r ≡ Retired id by) × IsFirstAbsent state.rows (named_ids edit) id × IsRetiredBy journal id by)

for_ids : {A : Type 0} (state : State) (journal : List (JournalEntry A)) (edit : Edit A) (r : Refusal) → IsIdRefusal state journal edit r
    → IsForIds state journal edit r
for_ids state journal edit (Unknown id) h = inl (id, refl, h.0, h.1)
for_ids state journal edit (Retired id by) h = inr (id, by, refl, h.0, h.1)
for_ids state journal edit BadPath h = absurd h
for_ids state journal edit NotNeighbours h = absurd h
for_ids state journal edit SharedTwice h = absurd h
for_ids state journal edit (Ring which fault) h = absurd h
for_ids state journal edit NoSuchEdge h = absurd h
for_ids state journal edit NotOnEdge h = absurd h
for_ids state journal edit JournalFull h = absurd h
for_ids state journal edit TooMany h = absurd h
for_ids state journal edit NoSuchCorner h = absurd h
for_ids state journal edit (NotFlat id) h = absurd h
for_ids state journal edit NoMemory h = absurd h

abbrev IsForChange : State → List ℕ → List NumberedRing → Refusal → Type 0
IsForChange state out rows r =
    ((r ≡ TooMany) × (¬ AreWithinLayerLimits (with_rows rows (without_ids out state.rows))))
    ⊎ ((which : ℕ) × (fault : RingFault) × (r ≡ Ring which fault)
    × AreWithinLayerLimits (with_rows rows (without_ids out state.rows))
    × IsFirstBadRing rows which fault)

for_change : (state : State) (out : List ℕ) (rows : List NumberedRing) (r : Refusal) → IsChangeRefusal state out rows r
    → IsForChange state out rows r
for_change state out rows TooMany h = inl (refl, h)
for_change state out rows (Ring which fault) h = inr (which, fault, refl, h.0, h.1)
for_change state out rows (Unknown id) h = absurd h
for_change state out rows (Retired id by) h = absurd h
for_change state out rows BadPath h = absurd h
for_change state out rows NotNeighbours h = absurd h
for_change state out rows SharedTwice h = absurd h
for_change state out rows NoSuchEdge h = absurd h
for_change state out rows NotOnEdge h = absurd h
for_change state out rows JournalFull h = absurd h
for_change state out rows NoSuchCorner h = absurd h
for_change state out rows (NotFlat id) h = absurd h
for_change state out rows NoMemory h = absurd h

one_for_change : (state : State) (out : List ℕ) (rows : List NumberedRing) (r s : Refusal) → IsForChange state out rows r
    → IsForChange state out rows s → r ≡ s
one_for_change state out rows r s (inl h) (inl k) = h.0 ∙ sym k.0
one_for_change state out rows r s (inl h) (inr k) = absurd (h.1 k.3)
one_for_change state out rows r s (inr h) (inl k) = absurd (k.1 h.3)
one_for_change state out rows r s (inr h) (inr k) =
    let e = one_first_bad rows h.0 k.0 h.1 k.1 h.4 k.4 in
    h.2 ∙ ap (λ n. Ring n h.1) e.0 ∙ ap (λ f. Ring k.0 f) e.1 ∙ sym k.2

module _ {A : Type 0} (journal : List (JournalEntry A)) (edit : Edit A) where
  one_for_ids : (state : State) → ((id m n : ℕ) → IsRetiredBy journal id m → IsRetiredBy journal id n → m ≡ n)
      → (r s : Refusal)
      → IsForIds state journal edit r → IsForIds state journal edit s → r ≡ s
  one_for_ids state once r s (inl h) (inl k) =
      h.1 ∙ ap Unknown (one_first_gone state.rows (named_ids edit) h.0 k.0 h.2 k.2) ∙ sym k.1
  one_for_ids state once r s (inl h) (inr k) =
      absurd (h.3 k.1 (subst (λ id. IsRetiredBy journal id k.1) (one_first_gone state.rows (named_ids edit) k.0 h.0 k.3 h.2) k.4))
  one_for_ids state once r s (inr h) (inl k) =
      absurd (k.3 h.1 (subst (λ id. IsRetiredBy journal id h.1) (one_first_gone state.rows (named_ids edit) h.0 k.0 h.3 k.2) h.4))
  one_for_ids state once r s (inr h) (inr k) =
      let e = one_first_gone state.rows (named_ids edit) h.0 k.0 h.3 k.3 in
      let f = once k.0 h.1 k.1 (subst (λ id. IsRetiredBy journal id h.1) e h.4) k.4 in
      h.2 ∙ ap (λ id. Retired id h.1) e ∙ ap (λ by. Retired k.0 by) f ∙ sym k.2

  gone_of : (state : State) (r : Refusal) → IsForIds state journal edit r → (id : ℕ) × IsFirstAbsent state.rows (named_ids edit) id
  gone_of state r (inl h) = (h.0, h.2)
  gone_of state r (inr h) = (h.0, h.3)

  here_or_refused : (state : State) (r : Refusal) → AreParcels state.rows (named_ids edit) → IsIdRefusal state journal edit r → ⊥
  here_or_refused state r h k =
      let g = gone_of state r (for_ids state journal edit r k) in here_or_gone state.rows (named_ids edit) g.0 h g.1

  -- what is left to refuse where all ids are those of parcels
  abbrev IsOfParcels : State → Refusal → Type 0
  IsOfParcels state r = IsOwnRefusal state edit r
      ⊎ ((out : List ℕ) × (rows : List NumberedRing) × IsChange state edit out rows × IsChangeRefusal state out rows r)

  module _ (state : State) (simple : AreSimple state.rows) (up : Ascend state.rows) where
    one_of_parcels : (r s : Refusal) → IsOfParcels state r → IsOfParcels state s → r ≡ s
    one_of_parcels r s (inl h) (inl k) = one_own state simple up edit r s h k
    one_of_parcels r s (inl h) (inr k) = absurd (own_or_change state simple up edit r k.0 k.1 h k.2)
    one_of_parcels r s (inr h) (inl k) = absurd (own_or_change state simple up edit s h.0 h.1 k h.2)
    one_of_parcels r s (inr h) (inr k) =
        let e = one_change state simple up edit k.0 h.0 k.1 h.1 k.2 h.2 in
        one_for_change state h.0 h.1 r s (for_change state h.0 h.1 r h.3)
        (for_change state h.0 h.1 s (subst (λ out. IsChangeRefusal state out h.1 s) e.0
        (subst (λ rows. IsChangeRefusal state k.0 rows s) e.1 k.3)))

    one_with_room : (r s : Refusal) → IsIdRefusal state journal edit r ⊎ (AreParcels state.rows (named_ids edit) × IsOfParcels state r)
        → IsIdRefusal state journal edit s ⊎ (AreParcels state.rows (named_ids edit) × IsOfParcels state s)
        → ((id m n : ℕ) → IsRetiredBy journal id m → IsRetiredBy journal id n → m ≡ n) → r ≡ s
    one_with_room r s (inl h) (inl k) once = one_for_ids state once r s (for_ids state journal edit r h) (for_ids state journal edit s k)
    one_with_room r s (inl h) (inr k) once = absurd (here_or_refused state r k.0 h)
    one_with_room r s (inr h) (inl k) once = absurd (here_or_refused state s h.0 k)
    one_with_room r s (inr h) (inr k) once = one_of_parcels r s h.1 k.1

    -- an edit has one refusal at most, where each id is retired by one entry at most
    pub one_refusal : ((id m n : ℕ) → IsRetiredBy journal id m → IsRetiredBy journal id n → m ≡ n) → (r s : Refusal)
        → IsRefusal state journal edit r → IsRefusal state journal edit s → r ≡ s
    one_refusal once r s (inl h) (inl k) = h.0 ∙ sym k.0
    one_refusal once r s (inl h) (inr k) = absurd (omega (arith, h.1, k.0))
    one_refusal once r s (inr h) (inl k) = absurd (omega (arith, h.0, k.1))
    one_refusal once r s (inr h) (inr k) = one_with_room r s h.1 k.1 once

    -- and none where the journal has room, its ids are those of parcels, and it makes simple rings within the limits
    pub not_refused : (out : List ℕ) (rows : List NumberedRing) (r : Refusal) → length journal < JOURNAL_ENTRIES
        → AreParcels state.rows (named_ids edit) → IsChange state edit out rows → AreSimple rows
        → AreWithinLayerLimits (with_rows rows (without_ids out state.rows)) → IsRefusal state journal edit r → ⊥
    not_refused out rows r room here change are_simple within (inl h) = omega (arith, room, h.1)
    not_refused out rows r room here change are_simple within (inr (full, inl h)) = here_or_refused state r here h
    not_refused out rows r room here change are_simple within (inr (full, inr (all, inl h))) =
        own_or_change state simple up edit r out rows h change
    not_refused out rows r room here change are_simple within (inr (full, inr (all, inr h))) =
        let e = one_change state simple up edit h.0 out h.1 rows h.2 change in
        ⊎_elim
        (λ k. k.1 (subst (λ xs. AreWithinLayerLimits (with_rows xs (without_ids h.0 state.rows))) (sym e.1)
        (subst (λ xs. AreWithinLayerLimits (with_rows rows (without_ids xs state.rows))) (sym e.0) within)))
        (λ k. let bad = k.4 in
        bad_at bad.before bad.row bad.behind k.1 (subst AreSimple (bad.are_all) (subst AreSimple (sym e.1) are_simple)) bad.is_fault)
        (for_change state h.0 h.1 r h.3)

    -- nor where memory is asked for it, for a reason that needs none
    pub not_refused_early : (r : Refusal) → length journal < JOURNAL_ENTRIES → AsksMemory state edit → IsRefusal state journal edit r
        → NeedsNoMemory r → ⊥
    not_refused_early r room w (inl h) n = omega (arith, room, h.1)
    not_refused_early r room w (inr (full, inl h)) n = here_or_refused state r (asks_here state edit w) h
    not_refused_early r room w (inr (full, inr (all, inl h))) n = asks_or_own state simple up edit r w h n
    not_refused_early r room w (inr (full, inr (all, inr h))) n =
        ⊎_elim (λ k. subst NeedsNoMemory k.0 n) (λ k. subst NeedsNoMemory k.2 n) (for_change state h.0 h.1 r h.3)
