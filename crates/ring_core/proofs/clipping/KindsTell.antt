-- What the kind of a corner tells: whether it is flat, and that it is no ear.
use Rattle.std.proofs.Common.{◌≡◌, ◌≢◌, ◌↔◌, inl, inr, ℕ, ◌<◌, ◌≤◌, ◌∙◌, sym, ap, refl, arith}
use Rattle.std.proofs.Common.{List, length, get_or, slice_set}
use Rattle.std.proofs.lemmas.Int.{ints}
use Rattle.std.specs.List.{remove}
use Rattle.std.specs.List.Sorted.{IsNonDecreasing}
use Rattle.std.proofs.lemmas.Bool.{cases_lt}
use Rattle.std.proofs.lemmas.Bool.Decides.{nat_tests}
use Rattle.std.proofs.lemmas.List.{get_or-set_same, get_or-set_other, length-set}
use Rattle.std.proofs.lemmas.List.Edits.{length-remove}
use lib.IntN.{ℤ, pos, neg_ℤ}
use lib.Signed.{◌<ℤ◌}
use Rattle.geo_exact.specs.declared.corner.Corner.{Corner}
use Rattle.geo_exact.specs.Turn.{turn}
use Rattle.geo_exact.proofs.corners_and_turns.TurnLaws.{turn_cycle, turn_swap, corner_on_line}
use Rattle.ring_core.specs.declared.kind.Kind.{Kind}
use Rattle.ring_core.specs.declared.kind.Kind.TheVariants.{Flat, Bent, Candidate, Blocked}
use Rattle.geo_exact.specs.Places.{corner_at}
use Rattle.ring_core.specs.Clipping.{previous, next, IsFlat, IsEar}
use Rattle.ring_core.specs.own.Kinds.{AreKinds, AreMarked, AreSeen, IsKind, IsMarked, TurnsLeft, number_before}
use Rattle.ring_core.specs.own.Blocks.{number_less}
use Rattle.ring_core.specs.declared.marks.Reach.{Reach}
use Rattle.ring_core.specs.declared.seen.Seen.{Seen}
use Rattle.ring_core.proofs.clipping.TakenOut.{item_kept, number_in}
use Rattle.ring_core.proofs.ears.LeftSimple.{same_or}

level : (t s : ℤ) → t ≡ neg_ℤ s → t ≡ pos 0 → pos 0 <ℤ s → ⊥
level t s e h k = omega (arith, ints)

-- a flat corner turns nowhere
flat_is_no_turn : (rest : List Corner) (k : ℕ) → IsFlat rest k → TurnsLeft rest k → ⊥
flat_is_no_turn rest k f t =
    level (turn (previous rest k) (next rest k) (corner_at rest k)) (turn (previous rest k) (corner_at rest k) (next rest k))
    (turn_cycle (corner_at rest k) (previous rest k) (next rest k) ∙ turn_swap (previous rest k) (corner_at rest k) (next rest k))
    (corner_on_line (previous rest k) (next rest k) (corner_at rest k) f) t

pub flat_told : (rest : List Corner) (numbers : List ℕ) (k : ℕ) (kind : Kind) → IsKind rest numbers k kind
    → (kind ≡ Flat) ↔ IsFlat rest k
flat_told rest numbers k Flat h = (λ e. h, λ f. refl)
flat_told rest numbers k Bent h = (λ e. cc, λ f. absurd (h.0 f))
flat_told rest numbers k Candidate h = (λ e. cc, λ f. absurd (flat_is_no_turn rest k f h))
flat_told rest numbers k (Blocked number) h = (λ e. cc, λ f. absurd (flat_is_no_turn rest k f h.0))

pub flat_here : (rest : List Corner) (numbers : List ℕ) (kinds : List Kind) (k : ℕ) → AreKinds rest numbers kinds → k < length rest
    → get_or kinds k Flat ≡ Flat → IsFlat rest k
flat_here rest numbers kinds k are b e = (flat_told rest numbers k (get_or kinds k Flat) (are.each k b)).0 e

-- no corner is flat, neither before the number nor from it on
pub none_flat : (rest : List Corner) (numbers : List ℕ) (kinds : List Kind) (start k : ℕ) → AreKinds rest numbers kinds
    → ((j : ℕ) → j < start → j < length kinds → get_or kinds j Flat ≢ Flat)
    → ((j : ℕ) → start ≤ j → j < k → get_or kinds j Flat ≢ Flat)
    → (j : ℕ) → j < k → j < length rest → ¬ IsFlat rest j
none_flat rest numbers kinds start k are seen found j b c flat =
    let told = (flat_told rest numbers j (get_or kinds j Flat) (are.each j c)).1 flat in
    elim (cases_lt j start) [
      | inl q ↦ seen j q (omega (arith, are.same_length, c)) told
      | inr q ↦ found j q b told
    ]

-- an ear is a candidate
pub ear_is_candidate : (rest : List Corner) (numbers : List ℕ) (k : ℕ) (kind : Kind) → IsKind rest numbers k kind
    → IsEar rest k → kind ≡ Candidate
ear_is_candidate rest numbers k Flat h x = absurd (flat_is_no_turn rest k h x.turns_left)
ear_is_candidate rest numbers k Bent h x = absurd (h.1 x.turns_left)
ear_is_candidate rest numbers k Candidate h x = refl
ear_is_candidate rest numbers k (Blocked number) h x = absurd (x.is_empty h.1.0 h.1.1 h.1.3)

-- what a blocked left turn tells
pub blocked_number : (m n : ℕ) → Blocked m ≡ Blocked n → m ≡ n
blocked_number m n e = cc

pub blocked_not_flat : (n : ℕ) → Blocked n ≢ Flat
blocked_not_flat n e = cc

pub blocked_no_candidate : (n : ℕ) → Blocked n ≢ Candidate
blocked_no_candidate n e = cc

-- one kind is written anew
pub kinds_set : (rest : List Corner) (numbers : List ℕ) (kinds : List Kind) (k : ℕ) (kind : Kind) → k < length kinds
    → AreKinds rest numbers kinds → IsKind rest numbers k kind
    → (j : ℕ) → j < length rest → IsKind rest numbers j (get_or (slice_set kinds k kind) j Flat)
kinds_set rest numbers kinds k kind b are h j c = elim (same_or j k) [
  | inl e ↦ rw (e, get_or-set_same kinds k kind Flat b) h
  | inr off ↦ rw (get_or-set_other kinds k j kind Flat off) (are.each j c)
]

pub marked_set : (kinds : List Kind) (numbers : List ℕ) (marks : List Reach) (k : ℕ) (kind : Kind) → k < length kinds
    → AreMarked kinds numbers marks → ((n : ℕ) → kind ≡ Blocked n → IsMarked marks n (get_or numbers k 0))
    → AreMarked (slice_set kinds k kind) numbers marks
marked_set kinds numbers marks k kind b are h j n c e = elim (same_or j k) [
  | inl x ↦ rw x (h n (sym (get_or-set_same kinds k kind Flat b)
      ∙ ap (λ i. get_or (slice_set kinds k kind) i Flat) (sym x) ∙ e))
  | inr off ↦ are j n (omega (arith, length-set kinds k kind, c)) (sym (get_or-set_other kinds k j kind Flat off) ∙ e)
]

pub seen_set : (kinds : List Kind) (seen less : Seen) (k : ℕ) (kind : Kind) → k < length kinds → AreSeen kinds seen
    → less.flats ≤ seen.flats → less.candidates ≤ seen.candidates
    → (kind ≡ Flat → less.flats ≤ k) → (kind ≡ Candidate → less.candidates ≤ k) → AreSeen (slice_set kinds k kind) less
seen_set kinds seen less k kind b are f c no_flat no_candidate = record {
  flats = λ j below in_kinds e. elim (same_or j k) [
    | inl x ↦
        let is : kind ≡ Flat =
        sym (get_or-set_same kinds k kind Flat b) ∙ ap (λ i. get_or (slice_set kinds k kind) i Flat) (sym x) ∙ e in
        absurd (omega (arith, no_flat is, x, below))
    | inr off ↦ are.flats j (omega (arith, below, f)) (omega (arith, length-set kinds k kind, in_kinds))
        (sym (get_or-set_other kinds k j kind Flat off) ∙ e)
  ];
  candidates = λ j below in_kinds e. elim (same_or j k) [
    | inl x ↦
        let is : kind ≡ Candidate =
        sym (get_or-set_same kinds k kind Flat b) ∙ ap (λ i. get_or (slice_set kinds k kind) i Flat) (sym x) ∙ e in
        absurd (omega (arith, no_candidate is, x, below))
    | inr off ↦ are.candidates j (omega (arith, below, c)) (omega (arith, length-set kinds k kind, in_kinds))
        (sym (get_or-set_other kinds k j kind Flat off) ∙ e)
  ];
}

-- one kind is taken out
pub marked_without : (kinds : List Kind) (numbers : List ℕ) (marks : List Reach) (k : ℕ) → k < length kinds → k < length numbers
    → AreMarked kinds numbers marks → AreMarked (remove kinds k) (remove numbers k) marks
marked_without kinds numbers marks k b in_numbers are j n c e =
    rw (item_kept numbers k j 0 in_numbers)
    (are (number_before k j) n (number_in (length kinds) k j (omega (arith, length-remove kinds k b, c)))
    (sym (item_kept kinds k j Flat b) ∙ e))

-- the numbers that are left still ascend
number_no_less : (k i j : ℕ) → i ≤ j → number_before k i ≤ number_before k j
number_no_less k i j h = grind (arith, nat_tests)

pub ascend_without : (numbers : List ℕ) (k : ℕ) → k < length numbers → IsNonDecreasing numbers → IsNonDecreasing (remove numbers k)
ascend_without numbers k b ascend i j d h in_left =
    rw (item_kept numbers k i d b, item_kept numbers k j d b)
    (ascend (number_before k i) (number_before k j) d (number_no_less k i j h)
    (number_in (length numbers) k j (omega (arith, length-remove numbers k b, in_left))))

number_seen : (k j n : ℕ) → j < number_less k n → number_before k j < n
number_seen k j n h = grind (arith, nat_tests)

pub seen_without : (kinds : List Kind) (seen less : Seen) (k : ℕ) → k < length kinds → AreSeen kinds seen
    → less.flats ≡ number_less k seen.flats → less.candidates ≡ number_less k seen.candidates → AreSeen (remove kinds k) less
seen_without kinds seen less k b are f c = record {
  flats = λ j below in_kinds e.
      are.flats (number_before k j) (number_seen k j seen.flats (rw f at below))
      (number_in (length kinds) k j (omega (arith, length-remove kinds k b, in_kinds))) (sym (item_kept kinds k j Flat b) ∙ e);
  candidates = λ j below in_kinds e.
      are.candidates (number_before k j) (number_seen k j seen.candidates (rw c at below))
      (number_in (length kinds) k j (omega (arith, length-remove kinds k b, in_kinds))) (sym (item_kept kinds k j Flat b) ∙ e);
}
