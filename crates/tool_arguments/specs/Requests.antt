-- What the words of a command line ask for, each word under its name (this product's own).
use Rattle.std.specs.Prelude.{◌≡◌, ◌⊎◌, ⊤, ℕ, true, false, List, [], ◌∷◌, map, Option, None, Some}
use Rattle.std.specs.Borrow.{Bor}
use Rattle.geo_exact.specs.declared.corner.Corner.{Corner}
use Rattle.line_files.specs.TextNumbers.{AreCornerWords}
use Rattle.line_files.specs.declared.grids.Grid.TheVariants.{Millimetres}
use Rattle.tool_arguments.specs.Arguments.{IsUnit, IsNoUnit, AreWorkers, IsBeyondWorkers}
use Rattle.tool_arguments.specs.declared.requests.Districts.{Districts}
use Rattle.tool_arguments.specs.declared.requests.Inputs.{Inputs}
use Rattle.tool_arguments.specs.declared.requests.Points.{Points}
use Rattle.tool_arguments.specs.declared.requests.Points.TheVariants.{At, File}
use Rattle.tool_arguments.specs.declared.requests.Request.{Request}
use Rattle.tool_arguments.specs.declared.requests.Request.TheVariants.{Area, Check, Explain, Export, Locate, Overlay}
use Rattle.tool_arguments.specs.declared.requests.Request.TheVariants.{Part, Session}
use Rattle.tool_arguments.specs.declared.requests.Session.{Session as SessionValue}
use Rattle.tool_arguments.specs.declared.requests.Wanted.{Wanted}
use Rattle.tool_arguments.specs.declared.words.Verb.{Verb}
use Rattle.tool_arguments.specs.declared.words.Words.{Words}

-- the words that were given under a name, in their order
abbrev pub given : {X : Type 0} → Option (Bor (List X)) → List X
given None = []
given (Some words) = words.now

-- what is read of parcels: the words of these names, every clerk's, and how many share the work
pub record AreInputs (words : Words) (inputs : Inputs) : Type 0 where
  pub is_city : words.city ≡ Some inputs.city
  pub is_parcels : words.parcels ≡ Some inputs.parcels
  pub is_unit : IsUnit words.unit inputs.unit
  pub are_clerks : inputs.clerks.items ≡ given words.clerks
  pub are_workers : AreWorkers words.workers inputs.workers

-- one district was asked for by its number, or all
abbrev pub AreWanted : Words → Wanted → Type 0
AreWanted words (Wanted.One id) = (words.id ≡ Some id) × (words.all ≡ false)
AreWanted words Wanted.All = (words.id ≡ None) × (words.all ≡ true)

-- neither was, or both were
abbrev pub IsNoChoice : Words → Type 0
IsNoChoice words = ((words.id ≡ None) × (words.all ≡ false))
    ⊎ ((id : ℕ) × (words.id ≡ Some id) × (words.all ≡ true))

-- what is read of districts
pub record AreDistrictWords (words : Words) (districts : Districts) : Type 0 where
  pub is_city : words.city ≡ Some districts.city
  pub is_districts : words.districts ≡ Some districts.districts
  pub is_unit : IsUnit words.unit districts.unit
  pub are_wanted : AreWanted words districts.wanted
  pub are_workers : AreWorkers words.workers districts.workers

-- the first of them, where there is one
abbrev pub first_of : {X : Type 0} → List X → Option X
first_of [] = None
first_of (first ∷ others) = Some first

-- what a session is of: the words of these names, with zones and journal where they were given, and every desk's
pub record AreSession (words : Words) (session : SessionValue) : Type 0 where
  pub is_city : words.city ≡ Some session.city
  pub is_parcels : words.parcels ≡ Some session.parcels
  pub is_unit : IsUnit words.unit session.unit
  pub is_zones : session.zones ≡ words.zones
  pub is_journal : session.journal ≡ words.journal
  pub is_clerk : session.clerk ≡ first_of (given words.clerks)
  pub are_desks : session.desks.items ≡ given words.desks
  pub are_workers : AreWorkers words.workers session.workers

-- the points: those of the file, where one was given, and else those whose coordinates the words of `--at` are
abbrev pub ArePoints : Words → Points → Type 0
ArePoints words (File path) = words.points ≡ Some path
ArePoints words (At corners) =
    (words.points ≡ None) × AreCornerWords Millimetres (map (λ word. word.now) (given words.at)) corners

-- the words ask for this
abbrev pub IsRequest : Words → Request → Type 0
IsRequest words (Area main unit) = (words.main ≡ Some main) × IsUnit words.unit unit
IsRequest words (Check inputs all) = AreInputs words inputs × (all ≡ words.all)
IsRequest words (Export inputs base force) =
    AreInputs words inputs × (words.out ≡ Some base) × (force ≡ words.force)
IsRequest words (Locate inputs points) = AreInputs words inputs × ArePoints words points
IsRequest words (Overlay inputs zones areas) =
    AreInputs words inputs × (words.zones ≡ Some zones) × (areas ≡ words.areas)
IsRequest words (Part districts base force) =
    AreDistrictWords words districts × (words.out ≡ Some base) × (force ≡ words.force)
IsRequest words (Session session) = AreSession words session
IsRequest words (Explain code) = code.items ≡ given words.code

-- what a request is to do
abbrev pub verb_of : Request → Verb
verb_of (Area main unit) = Verb.Area
verb_of (Check inputs all) = Verb.Check
verb_of (Export inputs base force) = Verb.Export
verb_of (Locate inputs points) = Verb.Locate
verb_of (Overlay inputs zones areas) = Verb.Overlay
verb_of (Part districts base force) = Verb.Part
verb_of (Session session) = Verb.Session
verb_of (Explain code) = Verb.Explain

-- a word is missing, or is none that there may be
abbrev pub HasNoInputs : Words → Type 0
HasNoInputs words =
    (words.city ≡ None) ⊎ (words.parcels ≡ None) ⊎ IsNoUnit words.unit ⊎ IsBeyondWorkers words.workers

abbrev pub HasNoSession : Words → Type 0
HasNoSession words =
    (words.city ≡ None) ⊎ (words.parcels ≡ None) ⊎ IsNoUnit words.unit ⊎ IsBeyondWorkers words.workers

abbrev pub HasNoDistricts : Words → Type 0
HasNoDistricts words = (words.city ≡ None) ⊎ (words.districts ≡ None) ⊎ IsNoUnit words.unit ⊎ IsNoChoice words
    ⊎ IsBeyondWorkers words.workers

abbrev pub HasNoPoints : Words → Type 0
HasNoPoints words = (words.points ≡ None)
    × ((list : List Corner) → ¬ AreCornerWords Millimetres (map (λ word. word.now) (given words.at)) list)

-- so the words ask for nothing that this command can do
abbrev pub IsMissing : Verb → Words → Type 0
IsMissing Verb.Area words = (words.main ≡ None) ⊎ IsNoUnit words.unit
IsMissing Verb.Check words = HasNoInputs words
IsMissing Verb.Export words = HasNoInputs words ⊎ (words.out ≡ None)
IsMissing Verb.Locate words = HasNoInputs words ⊎ HasNoPoints words
IsMissing Verb.Overlay words = HasNoInputs words ⊎ (words.zones ≡ None)
IsMissing Verb.Part words = HasNoDistricts words ⊎ (words.out ≡ None)
IsMissing Verb.Session words = HasNoSession words
IsMissing Verb.Explain words = ⊥

-- the number of workers that a command is given is one that there may be, or none is given; `explain` takes none
abbrev pub MayHaveWorkers : Verb → Words → Type 0
MayHaveWorkers Verb.Explain words = ⊤
MayHaveWorkers verb words = ¬ IsBeyondWorkers words.workers
