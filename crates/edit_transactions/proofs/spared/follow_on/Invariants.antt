use Rattle.std.proofs.Common.{◌≡◌, take}
use Rattle.edit_transactions.proofs.spared.follow_on.Given as goal

abbrev pub invariant-loop-place : goal.invariant-loop-place
invariant-loop-place g l = record {
  opening : l.spare.opening ≡ l.fabric.opening;
  city : l.spare.city ≡ l.fabric.city;
  journal : l.spare.journal ≡ take l.place l.fabric.journal;
}
