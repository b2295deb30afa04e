-- The lines that report clerks' edits (this product's own). Numbers are in decimal.
use Rattle.std.specs.Prelude.{ℕ, List, ◌++◌, codes, decimal}
use Rattle.fabric_core.specs.declared.refusal.Refusal.{Refusal}
use Rattle.fabric_core.specs.declared.refusal.Refusal.TheVariants.{Unknown, Retired, BadPath, NotNeighbours}
use Rattle.fabric_core.specs.declared.refusal.Refusal.TheVariants.{SharedTwice, Ring, NoSuchEdge, NotOnEdge}
use Rattle.fabric_core.specs.declared.refusal.Refusal.TheVariants.{JournalFull, TooMany, NoSuchCorner, NotFlat}
use Rattle.fabric_core.specs.declared.refusal.Refusal.TheVariants.{NoMemory}
use Rattle.text_pieces.specs.RingFaultText.{ring_fault_text}

-- `clerk K line L `
abbrev pub whose_text : ℕ → ℕ → List ℕ
whose_text clerk line = codes "clerk " ++ decimal clerk ++ codes " line " ++ decimal line ++ codes " "

-- `clerk K line L ok NUMBER`
abbrev pub ok_line : ℕ → ℕ → ℕ → List ℕ
ok_line clerk line number = whose_text clerk line ++ codes "ok " ++ decimal number ++ codes "\n"

-- why an edit is refused
abbrev pub refusal_text : Refusal → List ℕ
refusal_text (Unknown id) = codes "E1 " ++ decimal id
refusal_text (Retired id by) = codes "E2 " ++ decimal id ++ codes " " ++ decimal by
refusal_text BadPath = codes "E3"
refusal_text NotNeighbours = codes "E4"
refusal_text SharedTwice = codes "E5"
refusal_text (Ring which fault) = codes "E6 " ++ decimal which ++ codes " " ++ ring_fault_text fault
refusal_text NoSuchEdge = codes "E7"
refusal_text NotOnEdge = codes "E8"
refusal_text JournalFull = codes "E9"
refusal_text TooMany = codes "E10"
refusal_text NoSuchCorner = codes "E11"
refusal_text (NotFlat id) = codes "E12 " ++ decimal id
refusal_text NoMemory = codes "no memory"

-- `clerk K line L refused TEXT`
abbrev pub refused_line : ℕ → ℕ → Refusal → List ℕ
refused_line clerk line refusal = whose_text clerk line ++ codes "refused " ++ refusal_text refusal ++ codes "\n"
