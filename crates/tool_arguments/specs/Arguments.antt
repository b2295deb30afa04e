-- The words of a command line (this product's own).
use Rattle.std.specs.Prelude.{◌≡◌, ◌≢◌, ◌⊎◌, ⊤, ℕ, ◌<◌, List, Option, None, Some, codes}
use Rattle.std.specs.Borrow.{Bor}
use Rattle.std.specs.Option.{option_copied}
use Rattle.geo_exact.specs.declared.coord.Unit.{Unit as LengthUnit}
use Rattle.geo_exact.specs.declared.coord.Unit.TheVariants.{Mm, Cm, M}
use Rattle.overlay_work.specs.declared.round.TheConstants.{MOST_HANDS}
use Rattle.tool_arguments.specs.declared.requests.Workers.{Workers}

-- the word that asks for a unit
abbrev pub unit_word : LengthUnit → List ℕ
unit_word Mm = codes "mm"
unit_word Cm = codes "cm"
unit_word M = codes "m"

-- this unit was asked for
abbrev pub IsUnit : Option (Bor (List ℕ)) → LengthUnit → Type 0
IsUnit word unit = option_copied word ≡ Some (unit_word unit)

-- none was
abbrev pub IsNoUnit : Option (Bor (List ℕ)) → Type 0
IsNoUnit word = (unit : LengthUnit) → option_copied word ≢ Some (unit_word unit)

-- no number of workers was asked for, or one that is not from 1 to 64
abbrev pub IsNoWorkerCount : Option ℕ → Type 0
IsNoWorkerCount None = ⊤
IsNoWorkerCount (Some count) = (count ≡ 0) ⊎ (MOST_HANDS < count)

-- a number of workers was asked for that is not from 1 to 64
abbrev pub IsBeyondWorkers : Option ℕ → Type 0
IsBeyondWorkers None = ⊥
IsBeyondWorkers (Some count) = (count ≡ 0) ⊎ (MOST_HANDS < count)

-- these workers were asked for, or no number was given
abbrev pub AreWorkers : Option ℕ → Option Workers → Type 0
AreWorkers asked None = asked ≡ None
AreWorkers asked (Some workers) = asked ≡ Some workers.count
