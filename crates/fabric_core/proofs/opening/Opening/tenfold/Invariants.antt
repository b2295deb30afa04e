use Rattle.fabric_core.proofs.tens.Farthest.{ten_kept}
use Rattle.fabric_core.proofs.opening.Opening.tenfold.Given as goal

abbrev pub ghost-stands_for : goal.ghost-stands_for
ghost-stands_for g a = ten_kept a._beside.now.value
