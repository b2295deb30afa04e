use Rattle.std.proofs.Common.{◌≡◌, ◌-◌, [], length}
use Rattle.overlay_claims.specs.Claims.{view_of}
use Rattle.overlay_claims.specs.Claimants.{fresh_hands}
use Rattle.overlay_claims.proofs.claimant.deal.Given as goal

abbrev pub invariant-loop-number : goal.invariant-loop-number
invariant-loop-number g l = record {
  own : l.whole.table_id ≡ l.claims.name;
  mark : l.whole.me ≡ (view_of l.claims.lengths (length l.claims.lengths - l.number), []);
  dealt : l.hands.items ≡ fresh_hands l.claims l.number;
}
