-- The journal of a register as a text (this product's own). Digests are SHA-256 (FIPS
-- 180-4), in lower-case hexadecimal digits.
use Rattle.std.specs.Prelude.{◌≡◌, ◌≢◌, ⊤, ℕ, ◌+◌, ◌-◌, ◌%◌, ◌==◌, if◌then◌else◌, List, [], ◌∷◌, ◌++◌}
use Rattle.std.specs.Prelude.{length, codes, decimal, max, Bool, false, true}
use Rattle.sha2.specs.Sha256.{sha256}
use Rattle.hex.specs.Hex.{encode_lower}
use Rattle.ring_edits.specs.declared.edit.Edit.{Edit}
use Rattle.geo_exact.specs.declared.corner.Corner.{Corner}
use Rattle.line_files.specs.EditLine.{edit_line, places_text}
use Rattle.journal_records.specs.declared.record.Stamp.{Stamp}
use Rattle.journal_records.specs.declared.record.Record.{Record}
use Rattle.journal_records.specs.declared.read.JournalFault.{JournalFault}
use Rattle.journal_records.specs.declared.read.JournalFault.TheVariants.{NoJournal, OtherLayer, Changed, NoMemory}
use Rattle.journal_records.specs.Tails.{IsTwoLines, IsTail}

-- the digits of a message's digest
abbrev pub seal_text : List ℕ → List ℕ
seal_text message = encode_lower (sha256 message)

-- a line of a layer's outline: a number, and the corners of its ring
abbrev pub outline_line : ℕ → List Corner → List ℕ
outline_line number corners = decimal number ++ places_text corners ++ codes "\n"

-- the first line, of a layer with this digest
abbrev pub header_line : List ℕ → List ℕ
header_line layer = codes "# gandovel journal 1 mm " ++ layer ++ codes "\n"

-- who and why, and a space; nothing where nobody said it
abbrev pub who_text : List ℕ → List ℕ
who_text who = if length who == 0 then [] else who ++ codes " "

-- `# NUMBER CLERK TIME WHO `, the first line of a record up to its digest
abbrev pub stamp_text : Stamp → List ℕ
stamp_text stamp =
    codes "# " ++ decimal stamp.number ++ codes " " ++ decimal stamp.clerk ++ codes " " ++ stamp.time.now ++ codes " "
    ++ who_text stamp.who.now

-- the digest of a record: of the digest before it, of its first line up to the digest, and of its edit's line
abbrev pub record_seal : {A : Type 0} → List ℕ → Stamp → Edit A → List ℕ
record_seal before stamp edit = seal_text (before ++ stamp_text stamp ++ edit_line edit)

-- the two lines of a record
abbrev pub record_text : {A : Type 0} → List ℕ → Stamp → Edit A → List ℕ
record_text before stamp edit = stamp_text stamp ++ record_seal before stamp edit ++ codes "\n" ++ edit_line edit

-- the lines of records, behind the record with this digest
abbrev pub records_text : {A : Type 0} → List ℕ → List (Record A) → List ℕ
records_text before [] = []
records_text before (first ∷ others) =
    record_text before first.stamp first.edit ++ records_text (record_seal before first.stamp first.edit) others

-- the digest of the last of them, or the one before them
abbrev pub last_seal : {A : Type 0} → List ℕ → List (Record A) → List ℕ
last_seal before [] = before
last_seal before (first ∷ others) = last_seal (record_seal before first.stamp first.edit) others

-- they are numbered on from this number
abbrev pub AreNumbered : {A : Type 0} → ℕ → List (Record A) → Type 0
AreNumbered number [] = ⊤
AreNumbered number (first ∷ others) = (first.stamp.number ≡ number) × AreNumbered (number + 1) others

-- how many bytes the longest of them has; 0 where there is none
abbrev pub longest : {A : Type 0} → List ℕ → List (Record A) → ℕ
longest before [] = 0
longest before (first ∷ others) =
    max (length (record_text before first.stamp first.edit))
    (longest (record_seal before first.stamp first.edit) others)

-- each is two lines
abbrev pub AreTwoLines : {A : Type 0} → List ℕ → List (Record A) → Type 0
AreTwoLines before [] = ⊤
AreTwoLines before (first ∷ others) = IsTwoLines (record_text before first.stamp first.edit)
    × AreTwoLines (record_seal before first.stamp first.edit) others

-- a text with the line feed that it lacks at its end, where it does
abbrev pub ended : Bool → List ℕ → List ℕ
ended false text = text
ended true text = text ++ codes "\n"

-- the text is the header of this layer, the lines of these records, whose last digest this is, and what is behind them
pub record IsReadSoFar {A : Type 0} (layer text : List ℕ) (records : List (Record A))
    (seal behind : List ℕ) : Type 0 where
  pub is_text : text ≡ header_line layer ++ records_text layer records ++ behind
  pub is_seal : seal ≡ last_seal layer records
  pub are_numbered : AreNumbered 1 records

-- and each of them is two lines
pub record IsReadWhole {A : Type 0} (layer text : List ℕ) (records : List (Record A)) (seal behind : List ℕ)
    : Type 0 where
  pub is_read : IsReadSoFar layer text records seal behind
  pub in_lines : AreTwoLines layer records

-- the text is a journal: all its whole records, and behind them at most what a cut may leave, which is no whole one.
-- Where the last one lacks its line feed alone, it is whole, and nothing stands behind it
pub record IsJournal {A : Type 0} (layer text : List ℕ) (records : List (Record A)) (seal torn : List ℕ) (lacks : Bool)
    : Type 0 where
  pub is_read : IsReadWhole layer (ended lacks text) records seal torn
  pub is_tail : IsTail (1 + length records) ((length text - length torn) % 512) (longest layer records) torn
  pub is_ended : lacks ≡ true → torn ≡ []

-- the text begins with the record of this number, behind the one with this digest
pub record IsRecord {A : Type 0} (before : List ℕ) (number : ℕ) (text : List ℕ) (it : Record A) (seal rest : List ℕ)
    : Type 0 where
  pub is_text : text ≡ record_text before it.stamp it.edit ++ rest
  pub is_seal : seal ≡ record_seal before it.stamp it.edit
  pub is_number : it.stamp.number ≡ number
  pub in_lines : IsTwoLines (record_text before it.stamp it.edit)

-- a line of 24 and 64 bytes that begins as a journal's, of whatever layer
abbrev pub IsHeader : List ℕ → Type 0
IsHeader text = (layer rest : List ℕ) × (length layer ≡ 64) × (text ≡ header_line layer ++ rest)

-- why a text is no journal of this layer: its first line is no journal's, or that of another layer
abbrev pub IsHeaderFault : List ℕ → List ℕ → JournalFault → Type 0
IsHeaderFault layer text NoJournal = IsHeader text → ⊥
IsHeaderFault layer text OtherLayer = IsHeader text × ((rest : List ℕ) → text ≢ header_line layer ++ rest)
IsHeaderFault layer text (Changed line) = (rest : List ℕ) × (text ≡ header_line layer ++ rest)
IsHeaderFault layer text NoMemory = ⊤
