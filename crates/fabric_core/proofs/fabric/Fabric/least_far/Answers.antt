use Rattle.std.proofs.Common.{◌≡◌, ap, subst, List, [], ◌++◌}
use Rattle.scaled_rings.specs.Tenfold.{IsLeastFarOf}
use Rattle.fabric_core.specs.Journal.{Book}
use Rattle.fabric_core.specs.Tenfold.{corners_of_state, corners_of_entries}
use Rattle.fabric_core.specs.own.Changes.{state_of}
use Rattle.fabric_core.proofs.fabric.Fabric.least_far.Goals as goal

joined : {X : Type 0} (city opening now journal : List X) {a b d e : List X} → city ≡ a → opening ≡ b → now ≡ d → journal ≡ e
    → ((city ++ opening) ++ now) ++ journal ≡ ((a ++ b) ++ d) ++ e
joined city opening now journal p q r s = cc

pub returns : goal.returns
returns g c =
    let city = c.city.result.now in let opening = corners_of_state c.self.inside.opening in
    let now = corners_of_state (state_of c.self.inside.tiled) in
    subst (λ xs. IsLeastFarOf xs c.least_far_of_entries.result)
    (joined city opening now (corners_of_entries c.journal.result.now) c.city.ensures
    (ap (λ (b : Book _). corners_of_state b.opening) c.self.view_is) (ap (λ (b : Book _). corners_of_state b.now) c.self.view_is)
    (ap corners_of_entries c.journal.ensures))
    (c.least_far_of_entries.ensures ((city ++ opening) ++ now)
    (c.least_far-found-3.ensures (city ++ opening) (c.least_far-found-2.ensures city (c.least_far-found.ensures [] tt))))
