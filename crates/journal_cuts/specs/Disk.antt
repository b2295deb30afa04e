-- What a cut of power leaves of a journal (this product's own).
use Rattle.std.specs.Prelude.{◌≡◌, ◌⊎◌, ⊤, ℕ, ◌≤◌, List, [], ◌∷◌, ◌++◌, length, take}
use Rattle.journal_records.specs.declared.record.Record.{Record}
use Rattle.journal_records.specs.Journals.{records_text, AreNumbered, AreTwoLines}

-- each byte is as it was written, or zero, and there are no more of them
abbrev pub AreWrittenOrZero : List ℕ → List ℕ → Type 0
AreWrittenOrZero written [] = ⊤
AreWrittenOrZero [] (byte ∷ left) = ⊥
AreWrittenOrZero (was ∷ written) (byte ∷ left) = ((byte ≡ was) ⊎ (byte ≡ 0)) × AreWrittenOrZero written left

-- What may be left of a file that had such bytes when it was synchronised, and then such others behind them: the first
-- stand, and of the others what the disk has written by then, in any order of blocks, torn at any byte; the rest are
-- zeros, or not there. So it is, too, where a synchronisation failed.
pub record IsCutOf (synced others left : List ℕ) : Type 0 where
  pub after : List ℕ
  pub is_text : left ≡ synced ++ after
  pub is_left : AreWrittenOrZero others after

-- these records, and then those, are the lines that were written: numbered on from 1, each of two lines
pub record AreWritten {A : Type 0} (layer : List ℕ) (synced others : List (Record A)) : Type 0 where
  pub are_numbered : AreNumbered 1 (synced ++ others)
  pub in_lines : AreTwoLines layer (synced ++ others)

-- A start after a cut has the lines of all records that were synchronised, and then those of some of the others, in
-- order, and no other line.
pub record IsKeptOf {A : Type 0} (layer : List ℕ) (synced others read : List (Record A)) : Type 0 where
  pub all : length synced ≤ length read
  pub few : length read ≤ length (synced ++ others)
  pub lines : records_text layer read ≡ records_text layer (take (length read) (synced ++ others))
