use Rattle.std.proofs.Common.{subst, ◌≤◌, length}
use Rattle.geo_exact.specs.declared.limits.TheConstants.{LAYER_RECORDS}
use Rattle.geo_exact.specs.declared.corner.Corner.{Corner}
use Rattle.fabric_core.specs.Journal.{Book, State}
use Rattle.fabric_core.specs.Refusals.{IsCityBent}
use Rattle.fabric_core.specs.own.Changes.{state_of}
use Rattle.fabric_core.proofs.edits.Bends.{never_city_bent}
use Rattle.fabric_core.proofs.edits.LawfulJournals.{few_now}
use Rattle.fabric_core.proofs.fabric.Fabric.use_invariant.Goals as goal

pub returns-clause-number : goal.returns-clause-number
returns-clause-number g c =
    subst (λ (b : Book _). length b.now.rows ≤ LAYER_RECORDS) c.self.view_is
    (subst (λ (s : State). length s.rows ≤ LAYER_RECORDS) c.self.invariant.replays
    (few_now c.self.inside.opening 1 c.self.inside.journal.items c.self.invariant.lawful c.self.invariant.few_opened))

pub returns-clause-city_bends : goal.returns-clause-city_bends
returns-clause-city_bends g c =
    subst (λ (b : Book _). (at : Corner) → ¬ IsCityBent b.now at) c.self.view_is
    (never_city_bent (state_of c.self.inside.tiled) c.use_invariant.ensures.balanced)
