-- Which files are a session's own, and which bases no export replaces, since one of these files would be.
use Rattle.std.specs.Prelude.{◌≡◌, ◌≢◌, ◌⊎◌, ℕ, List, [], ◌∷◌, ◌++◌, codes, map, Option, None, Some}
use Rattle.std.specs.Option.{option_to_list, option_map}
use Rattle.std.specs.List.{AllByRecursion, Contains, flat_map}
use Rattle.register_sessions.specs.declared.start.Plan.{Plan}

-- the paths of a layer's files: of its main file and, where that ends as a main file does, of its index
abbrev pub AreLayerPaths : List ℕ → List (List ℕ) → Type 0
AreLayerPaths main paths =
    ((stem : List ℕ) × (main ≡ stem ++ codes ".shp") × (paths ≡ main ∷ (stem ++ codes ".shx") ∷ []))
    ⊎ (((stem : List ℕ) → main ≢ stem ++ codes ".shp") × (paths ≡ main ∷ []))

-- the same of a layer that there may be
abbrev pub AreLayerPathsOf : Option (List ℕ) → List (List ℕ) → Type 0
AreLayerPathsOf None paths = paths ≡ []
AreLayerPathsOf (Some main) paths = AreLayerPaths main paths

-- the paths of a desk's pipes, and of its lock
abbrev pub desk_paths : List ℕ → List (List ℕ)
desk_paths name = (name ++ codes ".in") ∷ (name ++ codes ".out") ∷ (name ++ codes ".lock") ∷ []

-- the paths of a session's own files: of the layers that it reads, of its journal, and of its desks
pub record AreOwnPaths (plan : Plan) (paths : List (List ℕ)) : Type 0 where
  pub city : List (List ℕ)
  pub are_citys : AreLayerPaths plan.city.now city
  pub parcels : List (List ℕ)
  pub are_parcels : AreLayerPaths plan.parcels.now parcels
  pub zones : List (List ℕ)
  pub are_zones : AreLayerPathsOf (option_map (λ main. main.now) plan.zones) zones
  pub are_all : paths ≡ city ++ parcels ++ zones ++ map (λ path. path.now) (option_to_list plan.journal)
      ++ flat_map (λ name. desk_paths name.now) plan.desks.items

-- one of the two files that an export to a base writes
abbrev pub IsExportPath : List ℕ → List ℕ → Type 0
IsExportPath base path = (path ≡ base ++ codes ".shp") ⊎ (path ≡ base ++ codes ".shx")

module _ {M : Type 0} (tells : M → List ℕ → Option (ℕ × ℕ) → Type 0) (machine : M) where
  -- two paths name one file: they are the same, or the machine tells one node of both
  abbrev pub NameOneFile : List ℕ → List ℕ → Type 0
  NameOneFile path own =
      (own ≡ path) ⊎ ((node : ℕ × ℕ) × tells machine path (Some node) × tells machine own (Some node))

  -- they name two, or no file: they differ, and the machine tells no node of the one, or another of the other
  abbrev pub NameTwoFiles : List ℕ → List ℕ → Type 0
  NameTwoFiles path own = (own ≢ path) × (tells machine path None
      ⊎ ((node : ℕ × ℕ) × (other : Option (ℕ × ℕ)) × tells machine path (Some node) × tells machine own other
      × (other ≢ Some node)))

  -- a path names one of these files
  pub record NamesOneOf (files : List (List ℕ)) (path : List ℕ) : Type 0 where
    pub own : List ℕ
    pub is_there : Contains files own
    pub is_named : NameOneFile path own

  -- it names none of them
  abbrev pub NamesNoneOf : List (List ℕ) → List ℕ → Type 0
  NamesNoneOf files path = AllByRecursion (NameTwoFiles path) files

  -- an export to the base would replace one of these files, which it names by this path
  abbrev pub IsOwnBase : List (List ℕ) → List ℕ → List ℕ → Type 0
  IsOwnBase files base path = IsExportPath base path × NamesOneOf files path

  -- it would replace none of them
  abbrev pub IsFreeBase : List (List ℕ) → List ℕ → Type 0
  IsFreeBase files base = NamesNoneOf files (base ++ codes ".shp") × NamesNoneOf files (base ++ codes ".shx")
