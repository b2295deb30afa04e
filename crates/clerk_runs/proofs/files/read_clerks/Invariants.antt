use Rattle.std.proofs.Common.{◌≡◌, ◌+◌, drop}
use Rattle.clerk_runs.specs.ClerkFiles.{texts_of}
use Rattle.clerk_runs.proofs.ClerksRead.{HaveRead}
use Rattle.clerk_runs.proofs.files.read_clerks.Given as goal

abbrev pub invariant-loop-file : goal.invariant-loop-file
invariant-loop-file g l = record {
  count : l.clerk ≡ l.file-index;
  read : HaveRead (texts_of l.files) (l.clerk + 1) (texts_of (drop l.file-index l.files)) l.clerks.items;
}
