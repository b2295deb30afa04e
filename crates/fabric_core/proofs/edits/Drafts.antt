-- What an edit takes out and brings: its ids are parcels', apart from one another; its rows are short, few and simple.
use Rattle.std.proofs.Common.{◌≡◌, ◌≢◌, sym, ap, subst, arith, Bool, ℕ, zero, suc, ◌≤◌, List, []}
use Rattle.std.proofs.Common.{◌∷◌, length}
use Rattle.std.specs.List.{AllByRecursion, AllPairs, Contains, filter}
use Rattle.std.proofs.lemmas.List.Kept.{AllPairs-from_increasing}
use Rattle.geo_exact.specs.declared.corner.Corner.{Corner}
use Rattle.geo_exact.specs.declared.limits.TheConstants.{LAYER_RECORDS, RING_CORNERS}
use Rattle.geo_exact.specs.Layers.{NumberedRing, numbered}
use Rattle.ring_core.specs.declared.shape.Shape.{Shape}
use Rattle.ring_core.specs.Simple.{IsSimpleRing}
use Rattle.ring_edits.specs.declared.edit.Edit.{Edit}
use Rattle.ring_edits.specs.declared.edit.Edit.TheVariants.{Split, Merge, Move, Insert, Straighten}
use Rattle.fabric_core.specs.declared.ring_change.RingChange.{RingChange}
use Rattle.fabric_core.specs.declared.ring_change.RingChange.TheVariants.{PutIn, TakeOut}
use Rattle.fabric_core.specs.Rows.{numbers}
use Rattle.fabric_core.specs.Tiling.{corner_lists}
use Rattle.fabric_core.specs.Faults.{AreSimple}
use Rattle.fabric_core.specs.Journal.{State, with_rows}
use Rattle.fabric_core.specs.EditResults.{IsChange, AreWithinLayerLimits}
use Rattle.fabric_core.specs.own.RingChanges.{IsRenewalOf, is_changed}
use Rattle.fabric_core.specs.Refusals.{AreParcels, named_ids}
use Rattle.fabric_core.specs.own.Balanced.{IsBalanced}
use Rattle.fabric_core.specs.own.Changes.{rings_of_shapes}
use Rattle.fabric_core.proofs.edits.Neighbours.{two_parcels, run_has_edge, merged_run, moved_run}
use Rattle.fabric_core.proofs.rows.NewLimits.{with_rows_length, with_rows_news}
use Rattle.fabric_core.proofs.edits.Replays.{renewed_ids}
use Rattle.fabric_core.proofs.edits.Retirements.{out_is_there}
use Rattle.fabric_core.proofs.edits.RingChanges.{renewal_of}
use Rattle.fabric_core.proofs.rows.RowLists.{Ascend-filter, Contains-from_kept, Contains-from_mapped, has_number, rising}

filtered_here : (keep : NumberedRing → Bool) (rows : List NumberedRing) (id : ℕ)
    → Contains (numbers (filter keep rows)) id → Contains (numbers rows) id
filtered_here keep rows id there =
    let w = Contains-from_mapped (λ (row : NumberedRing). row.number) (filter keep rows) id there in
    subst (Contains (numbers rows)) w.2 (has_number rows w.0 (Contains-from_kept keep rows w.0 w.1).0)

-- two ids that are not the same
pair_apart : (a b : ℕ) → a ≢ b → AllPairs (λ x y. x ≢ y) (a ∷ b ∷ [])
pair_apart a b off zero zero d l m = absurd (omega (arith, l))
pair_apart a b off zero (suc zero) d l m = off
pair_apart a b off zero (suc (suc j)) d l m = absurd (omega (arith, m))
pair_apart a b off (suc i) zero d l m = absurd (omega (arith, l))
pair_apart a b off (suc i) (suc zero) d l m = absurd (omega (arith, l))
pair_apart a b off (suc i) (suc (suc j)) d l m = absurd (omega (arith, m))

one_apart : (a : ℕ) → AllPairs (λ x y. x ≢ y) (a ∷ [])
one_apart a i j d l m = absurd (omega (arith, l, m))

rising_apart : (keep : NumberedRing → Bool) (state : State) → IsBalanced state
    → AllPairs (λ x y. x ≢ y) (numbers (filter keep state.rows))
rising_apart keep state h i j d l m e =
    let less = AllPairs-from_increasing (numbers (filter keep state.rows))
    (rising (filter keep state.rows) (Ascend-filter keep state.rows h.ids.up)) i j d l m in
    absurd (omega (arith, less, e))

module _ (state : State) (balanced : IsBalanced state) where
  -- the ids of parcels whose rings are changed
  renewed_here : (change : RingChange) (out : List ℕ) (rows : List NumberedRing) → IsRenewalOf state change out rows → (id : ℕ)
      → Contains out id → Contains (numbers state.rows) id
  renewed_here change out rows h id there =
      filtered_here (λ row. is_changed change row.corners) state.rows id
      (subst (λ xs. Contains xs id) (renewed_ids state change out rows h) there)

  renewed_apart : (change : RingChange) (out : List ℕ) (rows : List NumberedRing) → IsRenewalOf state change out rows
      → AllPairs (λ a b. a ≢ b) out
  renewed_apart change out rows h =
      subst (AllPairs (λ a b. a ≢ b)) (sym (renewed_ids state change out rows h))
      (rising_apart (λ row. is_changed change row.corners) state balanced)

module _ {A : Type 0} (state : State) (balanced : IsBalanced state) where
  -- the ids that go are parcels'
  pub out_here : (edit : Edit A) (out : List ℕ) (rows : List NumberedRing) → IsChange state edit out rows → (id : ℕ)
      → Contains out id
      → Contains (numbers state.rows) id
  out_here (Split id path) out rows h = out_is_there {A = A} state (Split id path) out rows tt h
  out_here (Merge a b) out rows h = out_is_there {A = A} state (Merge a b) out rows tt h
  out_here (Move a b path) out rows h = out_is_there {A = A} state (Move a b path) out rows tt h
  out_here (Insert from to at) out rows h =
      renewed_here state balanced (PutIn from to at) out rows (renewal_of A state (PutIn from to at) out rows h)
  out_here (Straighten at) out rows h =
      renewed_here state balanced (TakeOut at) out rows (renewal_of A state (TakeOut at) out rows h)

  -- and apart
  pub out_apart : (edit : Edit A) (out : List ℕ) (rows : List NumberedRing) → IsChange state edit out rows
      → AllPairs (λ a b. a ≢ b) out
  out_apart (Split id path) out rows h = subst (AllPairs (λ a b. a ≢ b)) (sym h.out_is) (one_apart id)
  out_apart (Merge a b) out rows h = subst (AllPairs (λ a b. a ≢ b)) (sym h.out_are)
      (pair_apart a b (two_parcels state.rows a b h.ring_a h.ring_b balanced.simple balanced.ids.up h.has_a h.has_b
      (run_has_edge h.ring_a h.ring_b (merged_run h.ring_a h.ring_b h.ring h.is_merge))))
  out_apart (Move a b path) out rows h = subst (AllPairs (λ a b. a ≢ b)) (sym h.out_are)
      (pair_apart a b (two_parcels state.rows a b h.ring_a h.ring_b balanced.simple balanced.ids.up h.has_a h.has_b
      (run_has_edge h.ring_a h.ring_b (moved_run h.ring_a h.ring_b path h.new_a h.new_b h.is_move))))
  out_apart (Insert from to at) out rows h =
      renewed_apart state balanced (PutIn from to at) out rows (renewal_of A state (PutIn from to at) out rows h)
  out_apart (Straighten at) out rows h =
      renewed_apart state balanced (TakeOut at) out rows (renewal_of A state (TakeOut at) out rows h)

  -- so are the ids that the edit names
  pub all_here : (edit : Edit A) (out : List ℕ) (rows : List NumberedRing) → IsChange state edit out rows
      → AreParcels state.rows (named_ids edit)
  all_here (Split id path) out rows h = (has_number state.rows (numbered id h.ring) h.has, tt)
  all_here (Merge a b) out rows h =
      (has_number state.rows (numbered a h.ring_a) h.has_a, (has_number state.rows (numbered b h.ring_b) h.has_b, tt))
  all_here (Move a b path) out rows h =
      (has_number state.rows (numbered a h.ring_a) h.has_a, (has_number state.rows (numbered b h.ring_b) h.has_b, tt))
  all_here (Insert from to at) out rows h = tt
  all_here (Straighten at) out rows h = tt

-- new rows within the limits of a layer
pub news_short : (news rest : List NumberedRing) → AreWithinLayerLimits (with_rows news rest)
    → AllByRecursion (λ row. length row.corners ≤ RING_CORNERS) news
news_short news rest h = (with_rows_news (λ row. length row.corners ≤ RING_CORNERS) news rest h.corners.each).0

pub news_few : (news rest : List NumberedRing) → AreWithinLayerLimits (with_rows news rest) → length news ≤ LAYER_RECORDS
news_few news rest h = omega (arith, with_rows_length news rest, h.number)

-- rows whose rings are those of shapes are simple
pub simple_news : {A : Type 0} (shapes : List (Shape A)) (rows : List NumberedRing) → rings_of_shapes shapes
    ≡ corner_lists rows → AreSimple rows
simple_news shapes [] e = tt
simple_news [] (row ∷ rows) e = absurd (omega (arith, ap length e))
simple_news (shape ∷ shapes) (row ∷ rows) e =
    (subst IsSimpleRing (heads e) shape.ring.is_simple, simple_news shapes rows (tails e))
  where
    heads : {x y : List Corner} {xs ys : List (List Corner)} → x ∷ xs ≡ y ∷ ys → x ≡ y
    heads e = cc

    tails : {x y : List Corner} {xs ys : List (List Corner)} → x ∷ xs ≡ y ∷ ys → xs ≡ ys
    tails e = cc
