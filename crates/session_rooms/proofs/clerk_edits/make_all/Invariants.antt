use Rattle.std.proofs.Common.{take}
use Rattle.session_rooms.specs.declared.clerk_edits.TheConstants.{EDITS_CLERK}
use Rattle.session_rooms.specs.ClerkEdits.{AreMadeBy}
use Rattle.session_rooms.proofs.clerk_edits.make_all.Given as goal

abbrev pub invariant-loop-said : goal.invariant-loop-said
invariant-loop-said g l = AreMadeBy EDITS_CLERK (take l.said-index l.edits) l.fn.fabric l.fabric
