-- A layer's files as they were read (this product's own). The index lies beside the main file: the same path, with .shx
-- for .shp (Technical Description, July 1998: "Naming Conventions").
use Rattle.std.specs.Prelude.{◌≡◌, ◌⊎◌, ◌++◌, ⊤, ℕ, List, Option, Some, None, Result, Ok, Err, Vec, codes}
use Rattle.std.specs.Option.{option_map}
use Rattle.std.specs.Borrow.{Bor}
use Rattle.city_layers.specs.declared.sources.Source.{Source}
use Rattle.city_layers.specs.declared.sources.PathFault.{PathFault}
use Rattle.city_layers.specs.declared.sources.PathFault.TheVariants.{NotOpened, NotRead}
use Rattle.city_layers.specs.declared.fault.ToolFault.{ToolFault}
use Rattle.city_layers.specs.declared.fault.ToolFault.TheVariants.{Unreadable, UnreadableIndex, Output, File, CityCount}
use Rattle.city_layers.specs.declared.fault.ToolFault.TheVariants.{CityRing, NoTiling, ClerkCount, ClerkLine, PointLine}
use Rattle.city_layers.specs.declared.fault.ToolFault.TheVariants.{NoParcel, NoThread, NoWindow, NoMemory}

-- the bytes of the index file, where there is one
abbrev pub index_of : {A : Type 0} → Source A → Option (List ℕ)
index_of source = option_map (λ index. index.items) source.index

-- the bytes of an answer that has them
abbrev pub bytes_of : {A : Type 0} → Result (Vec ℕ A) PathFault → Result (List ℕ) PathFault
bytes_of (Ok bytes) = Ok bytes.items
bytes_of (Err fault) = Err fault

-- In what follows `reads` tells what reading the file at a path may answer.

-- what the bytes of a text are by its path: as they were read, or the path; memory may always be wanted
abbrev pub IsTextBy : {A : Type 0} → (List ℕ → Result (List ℕ) PathFault → Type 0) → Bor (List ℕ)
    → Result (Vec ℕ A) ToolFault → Type 0
IsTextBy reads path (Ok bytes) = reads path.now (Ok bytes.items)
IsTextBy reads path (Err (Unreadable told)) =
    (told ≡ path) × (reads path.now (Err NotOpened) ⊎ reads path.now (Err NotRead))
IsTextBy reads path (Err NoMemory) = ⊤
IsTextBy reads path (Err (UnreadableIndex stem)) = ⊥
IsTextBy reads path (Err Output) = ⊥
IsTextBy reads path (Err (File role fault)) = ⊥
IsTextBy reads path (Err (CityCount count)) = ⊥
IsTextBy reads path (Err (CityRing fault)) = ⊥
IsTextBy reads path (Err (NoTiling role fault)) = ⊥
IsTextBy reads path (Err (ClerkCount count)) = ⊥
IsTextBy reads path (Err (ClerkLine clerk line)) = ⊥
IsTextBy reads path (Err (PointLine number)) = ⊥
IsTextBy reads path (Err (NoParcel id)) = ⊥
IsTextBy reads path (Err (NoThread hand)) = ⊥
IsTextBy reads path (Err (NoWindow window)) = ⊥

-- the index is what was read beside the main file; there is none where nothing can be opened there, or the main file's
-- path has no .shp
abbrev pub IsIndexBy : (List ℕ → Result (List ℕ) PathFault → Type 0) → List ℕ → Option (List ℕ) → Type 0
IsIndexBy reads path (Some index) =
    (stem : List ℕ) × (stem ++ codes ".shp" ≡ path) × reads (stem ++ codes ".shx") (Ok index)
IsIndexBy reads path None = (stem : List ℕ) → stem ++ codes ".shp" ≡ path → reads (stem ++ codes ".shx") (Err NotOpened)

-- the main file was read, and the index beside it was opened and not read
pub record IsIndexUnread (reads : List ℕ → Result (List ℕ) PathFault → Type 0) (path stem : List ℕ) : Type 0 where
  pub main : List ℕ
  pub is_main : reads path (Ok main)
  pub is_stem : stem ++ codes ".shp" ≡ path
  pub is_unread : reads (stem ++ codes ".shx") (Err NotRead)

-- what a layer's files are by the path of the main file: both as they were read, or the path of the one that was not;
-- memory may always be wanted
abbrev pub IsSourceBy : {A : Type 0} → (List ℕ → Result (List ℕ) PathFault → Type 0) → Bor (List ℕ)
    → Result (Source A) ToolFault → Type 0
IsSourceBy reads path (Ok source) = reads path.now (Ok source.main.items) × IsIndexBy reads path.now (index_of source)
IsSourceBy reads path (Err (Unreadable told)) =
    (told ≡ path) × (reads path.now (Err NotOpened) ⊎ reads path.now (Err NotRead))
IsSourceBy reads path (Err (UnreadableIndex stem)) = IsIndexUnread reads path.now stem.now
IsSourceBy reads path (Err NoMemory) = ⊤
IsSourceBy reads path (Err Output) = ⊥
IsSourceBy reads path (Err (File role fault)) = ⊥
IsSourceBy reads path (Err (CityCount count)) = ⊥
IsSourceBy reads path (Err (CityRing fault)) = ⊥
IsSourceBy reads path (Err (NoTiling role fault)) = ⊥
IsSourceBy reads path (Err (ClerkCount count)) = ⊥
IsSourceBy reads path (Err (ClerkLine clerk line)) = ⊥
IsSourceBy reads path (Err (PointLine number)) = ⊥
IsSourceBy reads path (Err (NoParcel id)) = ⊥
IsSourceBy reads path (Err (NoThread hand)) = ⊥
IsSourceBy reads path (Err (NoWindow window)) = ⊥
