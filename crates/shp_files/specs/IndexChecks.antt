-- The checks of an index file against the main file, in their order, each with the fault that it answers: this profile
-- of the Technical Description (July 1998, "Organization of the Index File", "Index Records").
use Rattle.std.specs.Prelude.{ℕ, ◌+◌, ◌*◌, ◌-◌, ◌/◌, ◌==◌, nat_lt, not, pos, if◌then◌else◌, List, [], ◌∷◌}
use Rattle.shp_files.specs.declared.fault.FileFault.{FileFault}
use Rattle.shp_files.specs.declared.fault.FileName.TheVariants.{Index}
use Rattle.shp_files.specs.declared.fault.FaultKind.TheVariants.{IndexDisagrees}
use Rattle.shp_files.specs.Layout.{content_words, offset_words}
use Rattle.shp_files.specs.Checks.{Check, check, fault_in, is_not, declared_end}

-- the index does not agree with the main file: the record's position, and the byte of the index
abbrev pub disagreement : ℕ → ℕ → FileFault
disagreement position place = fault_in Index position place IndexDisagrees

-- the byte of the index at which the index record of the record at this position begins
abbrev pub entry_place : ℕ → ℕ
entry_place position = 100 + 8 * (position - 1)

-- where the main file's records end before this position, so does the index
unfoldable pub index_end_checks : List ℕ → ℕ → List Check
index_end_checks index position =
    check (not (declared_end index == entry_place position)) (disagreement position (entry_place position)) ∷ []

-- the index record of the record at this position, which begins at this byte of the main file: that it is there, its
-- offset, and its content length
unfoldable pub index_record_checks : List ℕ → List ℕ → ℕ → ℕ → List Check
index_record_checks main index position start =
    check (nat_lt (declared_end index) (entry_place position + 8)) (disagreement position (entry_place position))
    ∷ check (is_not (offset_words index (entry_place position)) (pos (start / 2)))
    (disagreement position (entry_place position))
    ∷ check (is_not (content_words index (entry_place position)) (content_words main start))
    (disagreement position (entry_place position + 4))
    ∷ []

-- the checks of the index at this position, where the main file's records before it end at this byte
unfoldable pub entry_checks : List ℕ → List ℕ → ℕ → ℕ → List Check
entry_checks main index position start =
    if start == declared_end main then index_end_checks index position
    else index_record_checks main index position start
