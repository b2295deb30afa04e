-- The kind of a corner away from the one that was taken out.
use Rattle.std.proofs.Common.{◌≡◌, ◌≢◌, inl, inr, ℕ, ◌+◌, ◌<◌, ◌∙◌, sym, ap, subst, arith, List, length, get_or}
use Rattle.std.specs.List.{remove}
use Rattle.std.proofs.lemmas.Bool.Decides.{nat_tests}
use Rattle.geo_exact.specs.declared.corner.Corner.{Corner}
use Rattle.ring_core.specs.declared.kind.Kind.{Kind}
use Rattle.ring_core.specs.declared.kind.Kind.TheVariants.{Flat, Bent, Candidate, Blocked}
use Rattle.geo_exact.specs.Places.{corner_at, after, before}
use Rattle.ring_core.specs.Clipping.{previous, next, Blocks}
use Rattle.ring_core.specs.own.Kinds.{IsKind, IsReleased, IsTakenOut, IsWitness, TurnsLeft, WasBeside, number_before}
use Rattle.ring_core.proofs.clipping.ClipSteps.{one_less}
use Rattle.ring_core.proofs.clipping.TakenOut.{before_kept, after_kept, corner_kept, item_kept, number_in}
use Rattle.ring_core.proofs.ears.LeftSimple.{number_not}
use Rattle.ring_core.proofs.ears.WithoutCorner.{number_left, left_before, before_left, left_within}
use Rattle.ring_core.proofs.ears.PutBack.{blocks_left}

-- a corner that was not beside the gap was no neighbour of the corner that went
far_before : (m n k j : ℕ) → m + 1 ≡ n → j < m → k < n → ¬ WasBeside m k j → number_before k j ≢ before n k
far_before m n k j e b h off = grind (arith, nat_tests)

far_after : (m n k j : ℕ) → m + 1 ≡ n → j < m → k < n → ¬ WasBeside m k j → number_before k j ≢ after n k
far_after m n k j e b h off = grind (arith, nat_tests)

module _ (whole rest : List Corner) (numbers left : List ℕ) (k j gone : ℕ) (t : IsTakenOut whole numbers k gone rest left)
    (b : j < length rest) (off : ¬ WasBeside (length rest) k j) where
  shorter : length rest + 1 ≡ length whole
  shorter = one_less whole rest k t.below t.is_rest

  at : (i : ℕ) → corner_at rest i ≡ corner_at whole (number_before k i)
  at i = ap (λ r. corner_at r i) t.is_rest ∙ corner_kept whole k i t.below

  same_previous : previous rest j ≡ previous whole (number_before k j)
  same_previous =
      at (before (length rest) j)
      ∙ ap (corner_at whole) (before_kept (length rest) k j b (omega (arith, shorter, t.below)) off
      ∙ ap (λ n. before n (number_before k j)) shorter)

  same_next : next rest j ≡ next whole (number_before k j)
  same_next =
      at (after (length rest) j)
      ∙ ap (corner_at whole) (after_kept (length rest) k j b (omega (arith, shorter, t.below)) off
      ∙ ap (λ n. after n (number_before k j)) shorter)

  flat_kept : IsKind whole numbers (number_before k j) Flat → IsKind rest left j Flat
  flat_kept h = rw (at j, same_previous, same_next) h

  bent_kept : IsKind whole numbers (number_before k j) Bent → IsKind rest left j Bent
  bent_kept h = rw (at j, same_previous, same_next) h

  left_kept : TurnsLeft whole (number_before k j) → TurnsLeft rest j
  left_kept h = rw (at j, same_previous, same_next) h

  -- a witness with another number than the corner that is gone lives
  witness_kept : (number : ℕ) → number ≢ gone → IsWitness whole numbers (number_before k j) number → IsWitness rest left j number
  witness_kept number other w =
      let far : w.0 ≢ k = λ e. other (sym w.2 ∙ ap (λ i. get_or numbers i 0) e ∙ sym t.is_gone) in
      let blocks : Blocks (remove whole k) (number_left k (number_before k j)) (number_left k w.0) =
      blocks_left whole k (number_before k j) t.below (number_in (length whole) k j (omega (arith, shorter))) (number_not k j)
      (far_before (length rest) (length whole) k j shorter b t.below off)
      (far_after (length rest) (length whole) k j shorter b t.below off)
      w.0 w.1 far w.3 in
      subst (λ r. IsWitness r left j number) (sym t.is_rest) (
        number_left k w.0,
        left_within whole k t.below w.0 w.1 far,
        ap (λ xs. get_or xs (number_left k w.0) 0) t.is_left
            ∙ item_kept numbers k (number_left k w.0) 0 (omega (arith, t.below, t.as_many))
            ∙ ap (λ i. get_or numbers i 0) (before_left k w.0 far)
            ∙ w.2,
        subst (λ i. Blocks (remove whole k) i (number_left k w.0)) (left_before k j) blocks,
      )

  kept : (kind : Kind) → kind ≢ Blocked gone → IsKind whole numbers (number_before k j) kind → IsKind rest left j kind
  kept Flat other h = flat_kept h
  kept Bent other h = bent_kept h
  kept Candidate other h = left_kept h
  kept (Blocked number) other h = (left_kept h.0, witness_kept number (λ e. other (ap Blocked e)) h.1)

  -- the corner that is gone was the witness
  released : (kind : Kind) → kind ≡ Blocked gone → IsKind whole numbers (number_before k j) kind → IsKind rest left j Candidate
  released kind e h = left_kept ((subst (IsKind whole numbers (number_before k j)) e h).0)

  -- so the kind is up to date once it is released
  pub up_to_date : (was is : Kind) → IsReleased gone was is → IsKind whole numbers (number_before k j) was → IsKind rest left j is
  up_to_date was is r h = elim r [
    | inl same ↦ rw same.0 (kept was same.1 h)
    | inr free ↦ rw free.0 (released was free.1 h)
  ]
