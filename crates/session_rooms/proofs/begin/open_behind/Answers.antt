use Rattle.std.proofs.Common.{◌∙◌, length, refl, sym, false, eqb-true}
use Rattle.std.proofs.lemmas.List.{nil_from_length}
use Rattle.session_rooms.proofs.Starts.{behind_nothing, behind_replayed, stopped_over, same_error, fault_over}
use Rattle.session_rooms.proofs.begin.open_behind.Goals as goal

pub returns-then-is_empty-clause-behind : goal.returns-then-is_empty-clause-behind
returns-then-is_empty-clause-behind g c =
    let seal = c.in-Ok-seal_of_layer.seal in
    let empty = nil_from_length c.args.text.now (eqb-true (length c.args.text.now) 0 (sym c.is_empty.ensures ∙ c.if-is_empty.true)) in
    behind_nothing seal c.args.text.now c.in-Ok.fabric (record { records = 0; seal = seal; torn = 0; lacks_end = false }) empty
    c.in-Ok.ensures.journal
    c.in-Ok.ensures.now c.in-Ok-seal_of_layer.ensures refl refl refl

pub returns-in-Ok-replay-clause-behind : goal.returns-in-Ok-replay-clause-behind
returns-in-Ok-replay-clause-behind g c =
    behind_replayed c.in-Ok-seal_of_layer.seal c.args.text.now c.in-Ok.fabric c.replay.new.fabric c.in-Ok-replay.replayed
    c.in-Ok.ensures.journal c.in-Ok.ensures.now c.in-Ok-seal_of_layer.ensures c.in-Ok-replay.ensures.ok
    c.use_invariant.ensures.replays

pub returns-clause-refused : goal.returns-clause-refused
returns-clause-refused g c = λ number refusal is.
    stopped_over c.args.layer c.args.text.now number refusal c.in-Ok.fabric c.replay.new.fabric c.in-Ok-seal_of_layer.seal.digits
    c.in-Ok.ensures.city c.in-Ok.ensures.opening c.in-Ok.ensures.now c.in-Ok.ensures.journal c.in-Ok-seal_of_layer.ensures
    (c.in-Err.ensures.refused number refusal (same_error _ _ is))

pub returns-clause-fault : goal.returns-clause-fault
returns-clause-fault g c =
    fault_over c.args.layer c.args.text.now c.in-Ok-seal_of_layer.seal.digits c.in-Ok.fabric c.in-Err.fault c.in-Ok.ensures.city
    c.in-Ok.ensures.opening c.in-Ok.ensures.now c.in-Ok-seal_of_layer.ensures c.in-Err.ensures.fault
