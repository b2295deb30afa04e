use Rattle.std.proofs.Common.{◌≡◌, ◌≢◌, ℕ, ◌<◌, length, slice_index_or}
use Rattle.ring_core.specs.Clipping.{IsEar}
use Rattle.ring_core.specs.declared.kind.Kind.TheVariants.{Flat, Candidate}
use Rattle.ring_core.specs.own.Kinds.{AreKinds, AreMarked}
use Rattle.ring_core.proofs.kind.first_ear.Given as goal

abbrev pub invariant-loop-k : goal.invariant-loop-k
invariant-loop-k g l = record {
  are : AreKinds l.corners l.numbers l.kinds;
  marked : AreMarked l.kinds l.numbers l.marks;
  others : (j : ℕ) → slice_index_or l.kinds j Flat ≡ Flat → slice_index_or l.initial.kinds j Flat ≡ Flat;
  seen : (j : ℕ) → j < l.k → j < length l.kinds → slice_index_or l.kinds j Flat ≢ Candidate;
  none_before : (j : ℕ) → j < l.k → j < length l.corners → ¬ IsEar l.corners j;
}
