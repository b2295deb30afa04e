-- Lines that ask for nothing: neither alone, nor behind a client's own word.
use Rattle.std.proofs.Common.{◌≡◌, ◌⊎◌, inl, inr, refl, sym, ap, subst, arith, ℕ, List, [], ◌∷◌, ◌++◌, codes}
use Rattle.ring_edits.specs.declared.edit.Edit.{Edit}
use Rattle.ring_edits.specs.declared.edit.Edit.TheVariants.{Split, Merge, Move, Insert, Straighten}
use Rattle.line_files.specs.ClerkFile.{words_of, SayEdit}
use Rattle.line_files.specs.declared.grids.Grid.TheVariants.{Millimetres}
use Rattle.journal_records.specs.Words.{SaysWho}
use Rattle.session_lines.specs.Lines.{Asks, AskTheSame, AsksForEdit}
use Rattle.session_lines.specs.declared.line.Line.{Line}
use Rattle.session_lines.specs.declared.line.Line.TheVariants.{Skipped, Edit as AskedEdit, Locate, Parcel, Entries, Overlay}
use Rattle.session_lines.specs.declared.line.Line.TheVariants.{OverlayAreas, Check, Export, Publish, Close}
use Rattle.session_lines.specs.declared.faults.SessionFault.{SessionFault}
use Rattle.session_lines.specs.declared.faults.SessionFault.TheVariants.{BadLine, NoMemory}
use Rattle.session_rooms.specs.Asked.{AsksForNothing, IsLineFault}

-- the byte with which the first word begins
abbrev first_byte : List (List ℕ) → ℕ
first_byte [] = 0
first_byte ([] ∷ words) = 0
first_byte ((b ∷ bs) ∷ words) = b

-- the parts are the only ones that the line says
abbrev AreOnly : List ℕ → List ℕ → List ℕ → Type 0
AreOnly line who said = (other rest : List ℕ) → SaysWho line other rest → (who ≡ other) × (said ≡ rest)

-- why a line alone is not carried out
abbrev IsFaultAlone : Type 0 → List ℕ → SessionFault → Type 0
IsFaultAlone A line fault = ((fault ≡ BadLine) × ((asked : Line A) → ¬ Asks line asked)) ⊎ ((fault ≡ NoMemory) × AsksForEdit A line)

module _ {A : Type 0} where
  -- no edit's line begins with a `b` (98)
  no_edit_of_b : (words : List (List ℕ)) (edit : Edit A) → SayEdit Millimetres words edit → first_byte words ≡ 98 → ⊥
  no_edit_of_b words (Split id path) h first = let e : first_byte words ≡ 115 = ap first_byte h.are_words in omega arith
  no_edit_of_b words (Merge a b) h first = let e : first_byte words ≡ 109 = ap first_byte h.are_words in omega arith
  no_edit_of_b words (Move a b path) h first = let e : first_byte words ≡ 109 = ap first_byte h.are_words in omega arith
  no_edit_of_b words (Insert from to at) h first = let e : first_byte words ≡ 105 = ap first_byte h.are_words in omega arith
  no_edit_of_b words (Straighten at) h first = let e : first_byte words ≡ 115 = ap first_byte h.are_words in omega arith

  -- a line that begins with `by ` asks for nothing alone
  no_line_of_by : (rest : List ℕ) (asked : Line A) → Asks (98 ∷ 121 ∷ 32 ∷ rest) asked → ⊥
  no_line_of_by rest Skipped h = let e : ◌≡◌ {A = ℕ} 98 35 = h in omega arith
  no_line_of_by rest (AskedEdit edit) h = no_edit_of_b (words_of (98 ∷ 121 ∷ 32 ∷ rest)) edit h refl
  no_line_of_by rest (Locate corner) h = let e : ◌≡◌ {A = ℕ} 98 108 = ap first_byte h.are_words in omega arith
  no_line_of_by rest (Parcel id) h = let e : ◌≡◌ {A = ℕ} 98 112 = ap first_byte h.are_words in omega arith
  no_line_of_by rest Entries h = let e : ◌≡◌ {A = ℕ} 98 101 = ap (λ line. first_byte (words_of line)) h in omega arith
  no_line_of_by rest Overlay h = let e : ◌≡◌ {A = ℕ} 98 111 = ap (λ line. first_byte (words_of line)) h in omega arith
  no_line_of_by rest OverlayAreas h = let e : ◌≡◌ {A = ℕ} 98 111 = ap (λ line. first_byte (words_of line)) h in omega arith
  no_line_of_by rest Check h = let e : ◌≡◌ {A = ℕ} 98 99 = ap (λ line. first_byte (words_of line)) h in omega arith
  no_line_of_by rest (Export base) h = let e : ◌≡◌ {A = ℕ} 98 101 = ap (λ line. first_byte (words_of line)) h.is_line in omega arith
  no_line_of_by rest Publish h = let e : ◌≡◌ {A = ℕ} 98 112 = ap (λ line. first_byte (words_of line)) h in omega arith
  no_line_of_by rest Close h = let e : ◌≡◌ {A = ℕ} 98 99 = ap (λ line. first_byte (words_of line)) h in omega arith

  -- nor does one that says who asks
  no_line_alone : (line who said : List ℕ) → SaysWho line who said → (asked : Line A) → Asks line asked → ⊥
  no_line_alone line who said says asked asks =
      no_line_of_by (who ++ codes ": " ++ said) asked (subst (λ l. Asks l asked) says.is_line asks)

  -- what stands behind the word asks for no edit
  nothing_behind : (line who said : List ℕ) → SaysWho line who said → AreOnly line who said
      → ((edit : Edit A) → Asks said (AskedEdit edit) → ⊥) → AsksForNothing A line
  nothing_behind line who said says only none = record {
    not_alone = no_line_alone line who said says;
    not_by_word = λ h. none h.3.0 (subst (λ s. Asks s (AskedEdit h.3.0)) (sym (only h.0 h.1 h.2).1) h.3.1);
  }

  -- it asks for something else
  pub no_edit : (line who said : List ℕ) (found : Line A) → SaysWho line who said → AreOnly line who said
      → ((edit : Edit A) → found ≡ AskedEdit edit → ⊥) → ((other : Line A) → Asks said other → AskTheSame other found)
      → AsksForNothing A line
  no_edit line who said found says only is_other one =
      nothing_behind line who said says only (λ edit asks. is_other edit (sym (one (AskedEdit edit) asks)))

  -- it says who asks, and this is why what stands behind the word is not carried out
  pub fault_behind : (line who said : List ℕ) (fault : SessionFault) → SaysWho line who said → AreOnly line who said
      → IsFaultAlone A said fault → IsLineFault A line fault
  fault_behind line who said fault says only (inl bad) =
      inl (bad.0, nothing_behind line who said says only (λ edit. bad.1 (AskedEdit edit)))
  fault_behind line who said fault says only (inr memory) = inr (memory.0, inr (who, said, says, memory.1))
