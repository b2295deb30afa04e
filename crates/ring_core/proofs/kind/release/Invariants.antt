use Rattle.std.proofs.Common.{◌≡◌, ℕ, ◌<◌, ◌≤◌, length, slice_index_or}
use Rattle.ring_core.specs.declared.kind.Kind.TheVariants.{Flat}
use Rattle.ring_core.specs.own.Kinds.{AreMarked, AreSeen, IsReleased}
use Rattle.ring_core.proofs.kind.release.Given as goal

abbrev pub invariant-loop-j : goal.invariant-loop-j
invariant-loop-j l = record {
  done : (i : ℕ) → i < l.j → i < length l.kinds
      → IsReleased l.gone (slice_index_or l.initial.kinds i Flat) (slice_index_or l.kinds i Flat);
  unread : (i : ℕ) → l.j ≤ i → slice_index_or l.kinds i Flat ≡ slice_index_or l.initial.kinds i Flat;
  marked : AreMarked l.kinds l.numbers l.marks;
  seen : AreSeen l.kinds l.after;
}
