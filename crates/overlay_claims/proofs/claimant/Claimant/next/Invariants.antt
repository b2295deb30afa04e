use Rattle.std.proofs.Common.{◌≡◌, ℕ, ◌-◌, List, [], ◌++◌, length}
use Rattle.overlay_claims.specs.Claimants.{IsInOrder}
use Rattle.overlay_claims.proofs.claimant.Claimant.next.Given as goal

abbrev pub invariant-loop-self : goal.invariant-loop-self
invariant-loop-self g l = record {
  own : l.self-inside.mark.table_id ≡ l.claims.name;
  lengths : l.self-inside.mark.me.0.lengths ≡ l.claims.lengths;
  no_slot : l.self-inside.mark.me.1 ≡ [];
  one_part : l.self-inside.mark.me.0.parts ≡ 1;
  number : l.self-inside.number ≡ l.initial.self-inside.number;
  count : l.self-inside.count ≡ length l.claims.lengths;
  places : l.self-inside.mark.me.0.places ≡ l.initial.self-inside.mark.me.0.places;
  in_order : IsInOrder (length l.claims.lengths) l.self-inside.number l.self-inside.ended l.self-inside.mark.me.0.notes;
  more : List ℕ;
  ends : l.self-inside.mark.me.0.notes ≡ l.initial.self-inside.mark.me.0.notes ++ more;
}

abbrev pub decreases-loop-self : goal.decreases-loop-self
decreases-loop-self g l = l.self-inside.count - l.self-inside.ended
