-- States whose ids rise, and whose rings go alike with the city's. Public contracts do not speak of it.
use Rattle.std.specs.Prelude.{⊤, ℕ, ◌<◌, List, [], ◌∷◌}
use Rattle.std.specs.List.{AllByRecursion}
use Rattle.geo_exact.specs.Layers.{NumberedRing}
use Rattle.ring_core.specs.Simple.{IsSimpleRing}
use Rattle.fabric_core.specs.Tiling.{corner_lists}
use Rattle.fabric_core.specs.Faults.{AreSimple}
use Rattle.fabric_core.specs.Journal.{State}
use Rattle.fabric_core.specs.own.Alike.{GoAlike}

-- rows that ascend by id: each is below all later ones
abbrev pub Ascend : List NumberedRing → Type 0
Ascend [] = ⊤
Ascend (row ∷ rows) = AllByRecursion (λ later. row.number < later.number) rows × Ascend rows

-- rows below a number
abbrev pub AreBelow : ℕ → List NumberedRing → Type 0
AreBelow n rows = AllByRecursion (λ row. row.number < n) rows

-- a state's ids rise, and are below the next one
pub record HasRisingIds (state : State) : Type 0 where
  pub up : Ascend state.rows
  pub below : AreBelow state.next state.rows

-- a state of simple rings that go alike with the city's refined ring, which is simple, too
pub record IsBalanced (state : State) : Type 0 where
  pub ids : HasRisingIds state
  pub simple : AreSimple state.rows
  pub simple_city : IsSimpleRing state.refined
  pub alike : GoAlike (corner_lists state.rows) state.refined
