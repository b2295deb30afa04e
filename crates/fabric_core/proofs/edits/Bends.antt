-- The first of the rows that bends at a corner: only rows with the corner do, and these are looked at by ascending id. Where none does,
-- nor does the city's refined ring.
use Rattle.std.proofs.Common.{◌≡◌, ⊎_elim, refl, sym, ◌∙◌, ap, subst, arith, ℕ, ◌<◌, ◌≤◌, List, [], ◌∷◌}
use Rattle.std.proofs.Common.{◌++◌, length, take, get_or, ℤ, pos, ◌+ℤ◌}
use Rattle.std.specs.List.{AllByRecursion, Contains}
use Rattle.std.specs.List.Sorted.{IsStrictlyIncreasing}
use Rattle.std.proofs.lemmas.Bool.{cases_lt}
use Rattle.std.proofs.lemmas.Int.{ints}
use Rattle.std.proofs.lemmas.List.{length-take, get_or-take, get_or_default}
use Rattle.std.proofs.lemmas.List.Elements.{Contains-append_left, Contains-append_right, Contains-push_cases}
use Rattle.std.proofs.lemmas.List.Kept.{AllPairs-from_increasing}
use Rattle.geo_exact.specs.declared.corner.Corner.{Corner}
use Rattle.geo_exact.specs.Layers.{NumberedRing, numbered}
use Rattle.geo_exact.specs.Winding.{winding}
use Rattle.edge_chains.proofs.nodings.NodedEdges.{none_in_nil, Contains-here, all_from_contains}
use Rattle.ring_edits.specs.Edits.{BendsAt, has_corner}
use Rattle.ring_edits.proofs.BentAlike.{bends_alike}
use Rattle.ring_edits.proofs.Straight.{bends_has}
use Rattle.fabric_core.specs.EditResults.{rows_at_corner}
use Rattle.fabric_core.specs.Journal.{State}
use Rattle.fabric_core.specs.Refusals.{IsCityBent, IsFirstBent}
use Rattle.fabric_core.specs.Rows.{numbers}
use Rattle.fabric_core.specs.Tiling.{corner_lists}
use Rattle.fabric_core.specs.own.Balanced.{Ascend, IsBalanced}
use Rattle.fabric_core.proofs.rows.RowLists.{Ascend-filter, Contains-from_kept, Contains-from_mapped, Contains-kept, has_number}
use Rattle.fabric_core.proofs.rows.RowLists.{rising, same_row, taken_out}
use Rattle.fabric_core.proofs.tilings.OneParcel.{of_each}

-- a number of a list that rises stands before each greater one
in_front : (ids : List ℕ) (k m : ℕ) → IsStrictlyIncreasing ids → k < length ids → Contains ids m → m < get_or ids k 0
    → Contains (take k ids) m
in_front ids k m up h c below = ⊎_elim
    (λ before. (c.0, omega (arith, before, c.1, length-take k ids), get_or-take k ids c.0 m before ∙ c.2))
    (λ behind. absurd (not_behind behind))
    (cases_lt c.0 k)
  where
    at : get_or ids c.0 0 ≡ m
    at = get_or_default ids c.0 0 m c.1 ∙ c.2

    not_behind : k ≤ c.0 → ⊥
    not_behind behind = ⊎_elim
        (λ less. omega (arith, at, below, AllPairs-from_increasing ids up k c.0 0 less c.1))
        (λ not_less. let same : c.0 ≡ k = omega (arith, behind, not_less) in
        omega (arith, at, below, ap (λ i. get_or ids i 0) same))
        (cases_lt k c.0)

-- rows before another have lesser ids
ids_before : (before : List NumberedRing) (row : NumberedRing) (behind : List NumberedRing) → Ascend (before ++ row ∷ behind)
    → AllByRecursion (λ other. other.number < row.number) before
ids_before [] row behind up = tt
ids_before (x ∷ before) row behind up = (
  of_each (λ later. x.number < later.number) (before ++ row ∷ behind) row up.0
      (Contains-append_right before (row ∷ behind) row (Contains-here row behind)),
  ids_before before row behind up.1,
)

module _ (at : Corner) (rows : List NumberedRing) where
  -- the rows with these ids do not bend
  abbrev pub AreStraight : List ℕ → Type 0
  AreStraight ids = (row : NumberedRing) → Contains rows row → Contains ids row.number → ¬ BendsAt at row.corners

  pub none_straight : AreStraight []
  none_straight row is named = absurd (none_in_nil row.number named)

  pub more_straight : (ids : List ℕ) (id : ℕ) (ring : List Corner) → Ascend rows → Contains rows (numbered id ring) → ¬ BendsAt at ring
      → AreStraight ids → AreStraight (ids ++ id ∷ [])
  more_straight ids id ring up here off h row is named = ⊎_elim
      (λ old. h row is old)
      (λ e. subst (λ (r : NumberedRing). ¬ BendsAt at r.corners) (same_row rows (numbered id ring) row up here is e) off)
      (Contains-push_cases ids id row.number named)

  -- a row that bends is one of those with the corner
  named_bent : (ids : List ℕ) → ids ≡ numbers (rows_at_corner at rows) → (row : NumberedRing) → Contains rows row
      → BendsAt at row.corners → Contains ids row.number
  named_bent ids named row is bends = subst (λ ns. Contains ns row.number) (sym named)
      (has_number (rows_at_corner at rows) row
      (Contains-kept (λ r. has_corner at r.corners) rows row is (bends_has at row.corners bends)))

  -- where none of those bends, none does
  pub all_straight : (ids : List ℕ) → ids ≡ numbers (rows_at_corner at rows) → AreStraight ids
      → AllByRecursion (λ row. ¬ BendsAt at row.corners) rows
  all_straight ids named h =
      all_from_contains (λ row. ¬ BendsAt at row.corners) rows (λ row is bends. h row is (named_bent ids named row is bends) bends)

  -- and the first of those that bends is the first of all
  pub first_is_bent : (ids : List ℕ) (k id : ℕ) (ring : List Corner) → Ascend rows → ids ≡ numbers (rows_at_corner at rows)
      → IsStrictlyIncreasing ids
      → k < length ids → id ≡ get_or ids k 0 → AreStraight (take k ids) → Contains rows (numbered id ring) → BendsAt at ring
      → IsFirstBent rows at id
  first_is_bent ids k id ring up named rises in_ids is so_far here bends =
      let w = taken_out id ring rows up here in
      let below = ids_before w.before (numbered id ring) w.behind (subst Ascend w.were_all up) in record {
        before = w.before;
        row = numbered id ring;
        behind = w.behind;
        are_all = w.were_all;
        has_id = refl;
        bends = bends;
        straight_before = all_from_contains (λ row. ¬ BendsAt at row.corners) w.before (λ row c b.
            let there = subst (λ rs. Contains rs row) (sym w.were_all)
            (Contains-append_left w.before (numbered id ring ∷ w.behind) row c) in
            let less = of_each (λ (other : NumberedRing). other.number < id) w.before row below c in
            so_far row there
            (in_front ids k row.number rises in_ids (named_bent ids named row there b) (subst (λ n. row.number < n) is less)) b);
      }

  -- the ids of the rows with the corner rise, and each is a row's
  pub named_rise : (ids : List ℕ) → Ascend rows → ids ≡ numbers (rows_at_corner at rows) → IsStrictlyIncreasing ids
  named_rise ids up named = subst IsStrictlyIncreasing (sym named)
      (rising (rows_at_corner at rows) (Ascend-filter (λ row. has_corner at row.corners) rows up))

  pub named_here : (ids : List ℕ) (id : ℕ) → ids ≡ numbers (rows_at_corner at rows) → Contains ids id
      → (row : NumberedRing) × Contains rows row × (row.number ≡ id)
  named_here ids id named there =
      let w = Contains-from_mapped (λ (row : NumberedRing). row.number) (rows_at_corner at rows) id
      (subst (λ ns. Contains ns id) named there) in
      (w.0, (Contains-from_kept (λ (row : NumberedRing). has_corner at row.corners) rows w.0 w.1).0, w.2)

-- ---- the city's refined ring, which is simple, and which the rows go alike with
straight_lists : (at : Corner) (rows : List NumberedRing) → AllByRecursion (λ row. ¬ BendsAt at row.corners) rows
    → AllByRecursion (λ ring. ¬ BendsAt at ring) (corner_lists rows)
straight_lists at [] h = tt
straight_lists at (row ∷ rows) h = (h.0, straight_lists at rows h.1)

pub never_city_bent : (state : State) → IsBalanced state → (at : Corner) → ¬ IsCityBent state at
never_city_bent state h at bent =
    bends_alike at (corner_lists state.rows) state.refined h.simple_city (λ p. h.alike.windings p ∙ alone (winding p state.refined))
    (straight_lists at state.rows bent.0) bent.1
  where
    alone : (z : ℤ) → z +ℤ pos 0 ≡ z
    alone z = omega (arith, ints)
