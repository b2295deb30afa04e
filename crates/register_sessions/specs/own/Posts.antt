-- How lines are answered, one after the other: each once, in order, and no half of an answer stays.
use Rattle.std.specs.Prelude.{◌≡◌, ◌⊎◌, Bool, true, false, ℕ, List, [], ◌++◌, length, take, Option, None, Some}
use Rattle.std.specs.Prelude.{Result, Ok, Err}
use Rattle.std.specs.Io.KnownBytes.{Appends}
use Rattle.std.specs.Io.BufRead.{strip_last}
use Rattle.geo_exact.specs.Bytes.{raised}
use Rattle.text_pieces.specs.Beginnings.{AppendsBeginning}
use Rattle.session_lines.specs.Answers.{error_line, fault_text}
use Rattle.session_lines.specs.declared.faults.SessionFault.TheVariants.{NoMemory}
use Rattle.session_rooms.specs.declared.lines.Came.{Came}
use Rattle.session_rooms.specs.declared.lines.Came.TheVariants.{Line, TooLong, NoMemory as NoMemoryCame, End, Closed}
use Rattle.session_rooms.specs.Lines.{IsWhatCame}
use Rattle.register_sessions.specs.declared.post.Next.{Next}
use Rattle.register_sessions.specs.declared.post.Next.TheVariants.{Line as NextLine, End as NextEnd}
use Rattle.register_sessions.specs.declared.post.Trouble.{Trouble}
use Rattle.register_sessions.specs.declared.post.Trouble.TheVariants.{NoMemory as NoMemoryLeft, Failed}
use Rattle.register_sessions.specs.declared.post.Served.{Served}
use Rattle.register_sessions.specs.declared.post.Served.TheVariants.{Deaf, Ended}

-- what follows at a desk: it ends where the session closes
abbrev pub next_after : Came → Next
next_after Line = NextLine
next_after TooLong = NextLine
next_after NoMemoryCame = NextLine
next_after End = NextLine
next_after Closed = NextEnd

-- the answers of a desk that were collected, and the writer to which they go
pub record Outbox (W : Type 0) : Type 0 where
  pub text : List ℕ
  pub out : W

module _ {W : Type 0} where
  -- what was collected was written whole, once
  abbrev pub IsWritten : (W → Option (List ℕ)) → Outbox W → Outbox W → Type 0
  IsWritten written before after = Appends (written before.out) (written after.out) before.text × (after.text ≡ [])

  -- where that is due; else it is collected still
  abbrev pub IsKept : (W → Option (List ℕ)) → Bool → Outbox W → Outbox W → Type 0
  IsKept written true before after = IsWritten written before after
  IsKept written false before after = after ≡ before

  -- the writer failed at it: a beginning of it was written
  abbrev pub BreaksOff : (W → Option (List ℕ)) → (W → ℕ) → Outbox W → Outbox W → Type 0
  BreaksOff written failures before after = AppendsBeginning (written before.out) (written after.out) before.text
      × (failures after.out ≡ raised (failures before.out))

  -- Memory was refused for an answer: nothing was written of it, and nothing of what is collected.
  abbrev pub IsRefused : Outbox W → Outbox W → Type 0
  IsRefused asked half = half.out ≡ asked.out

  -- There was no memory for an answer. Of what was collected the first so many bytes were written, which stood before
  -- the answer, and behind them that there was no memory; of the answer nothing was written, and nothing is collected.
  abbrev pub IsExcused : (W → Option (List ℕ)) → ℕ → Outbox W → Outbox W → Type 0
  IsExcused written count before after =
      Appends (written before.out) (written after.out) (take count before.text ++ error_line (fault_text NoMemory))
      × (after.text ≡ [])

  -- What follows an answer, before which so many bytes were collected: the next line, with the answer as it was
  -- collected; or none, once all was written.
  abbrev pub IsFollowed : (W → Option (List ℕ)) → (W → ℕ) → ℕ → Result Next Trouble → Outbox W → Outbox W
      → Option Served → Type 0
  IsFollowed written failures count (Ok NextLine) before after served = (served ≡ None) × (after ≡ before)
  IsFollowed written failures count (Ok NextEnd) before after served =
      (served ≡ Some Ended) × (IsWritten written before after ⊎ BreaksOff written failures before after)
  IsFollowed written failures count (Err Failed) before after served = (served ≡ Some Deaf) × (after ≡ before)
  IsFollowed written failures count (Err NoMemoryLeft) before after served =
      ((served ≡ None) × IsExcused written count before after) ⊎ (served ≡ Some Deaf)

  -- A line was taken, and answered, once. What was collected before is collected still, or was written whole. Where
  -- there was no memory for the answer, that is said, and nothing of the answer is collected.
  pub record IsServed (taken : (List ℕ → Type 0) → Came → Type 0)
      (answers : Came → List ℕ → Outbox W → Outbox W → Type 0)
      (written : W → Option (List ℕ)) (before after : Outbox W) : Type 0 where
    pub came : Came
    pub line : List ℕ
    pub asked : Outbox W
    pub is_taken : taken (λ bytes. line ≡ strip_last 13 bytes) came
    pub is_due : Bool
    pub is_kept : IsKept written is_due before asked
    pub is_answered : answers came line asked after
        ⊎ ((half : Outbox W) × IsRefused asked half × IsExcused written (length asked.text) half after)
