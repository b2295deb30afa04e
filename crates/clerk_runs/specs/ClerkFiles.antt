-- The files of several clerks, who are numbered from 1 in the order of their files (this product's own).
use Rattle.std.specs.Prelude.{◌≡◌, ◌⊎◌, ℕ, ◌+◌, List, [], ◌∷◌, map, Vec}
use Rattle.std.specs.List.{AllZip}
use Rattle.ring_edits.specs.declared.edit.Edit.{Edit}
use Rattle.line_files.specs.ClerkFile.{IsClerkFile, IsFirstBadLine, BeginsWithEdit}

-- Edits are in a memory A, which nothing here depends on.

-- the bytes of files
abbrev pub texts_of : {A : Type 0} → List (Vec ℕ A) → List (List ℕ)
texts_of files = map (λ file. file.items) files

-- of each file, in order, the number and the edit of each line that is not skipped
abbrev pub AreClerkFiles : {A : Type 0} → List (List ℕ) → List (List (ℕ × Edit A)) → Type 0
AreClerkFiles files clerks = AllZip IsClerkFile files clerks

-- the clerk's file is the first that has a bad line, and that is its first; clerks are numbered on from a first one
abbrev pub IsFirstBadFrom : ℕ → List (List ℕ) → ℕ → ℕ → Type 0
IsFirstBadFrom first [] clerk line = ⊥
IsFirstBadFrom first (file ∷ files) clerk line = ((clerk ≡ first) × IsFirstBadLine file line)
    ⊎ (((other : ℕ) → ¬ IsFirstBadLine file other) × IsFirstBadFrom (first + 1) files clerk line)

-- the first bad line of all files, and the number of its clerk
abbrev pub IsFirstBadOfAll : List (List ℕ) → ℕ → ℕ → Type 0
IsFirstBadOfAll files clerk line = IsFirstBadFrom 1 files clerk line

-- to read the files memory is asked for: the first begins with an edit, or has no bad line
abbrev pub AskForMemory : List (List ℕ) → Type 0
AskForMemory [] = ⊥
AskForMemory (file ∷ files) = BeginsWithEdit file ⊎ ((line : ℕ) → ¬ IsFirstBadLine file line)
