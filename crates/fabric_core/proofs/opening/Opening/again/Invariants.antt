use Rattle.fabric_core.proofs.opening.Opening.again.Given as goal

abbrev pub ghost-stands_for : goal.ghost-stands_for
ghost-stands_for g a = a._beside.now.value
