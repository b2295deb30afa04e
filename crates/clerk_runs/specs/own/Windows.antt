-- What a window has seen that learnt receipts. Public contracts do not speak of it.
use Rattle.std.specs.Prelude.{◌≡◌, true, List}
use mathlib.Core.List.{IsPrefix}
use Rattle.fabric_core.specs.Journal.{JournalEntry}
use Rattle.desk_lock.specs.Offices.{ReceiptState, EndsWith}

module _ {A : Type 0} where
  -- the receipt was published, and what was seen begins with what it tells
  pub record IsLearnt (seen : List (JournalEntry A)) (receipt : ReceiptState A) : Type 0 where
    pub published : receipt.published ≡ true
    pub begins : IsPrefix receipt.told seen

  -- what was seen begins with a list of as many entries as the entry's number, which ends with it
  pub record Stands (seen : List (JournalEntry A)) (entry : JournalEntry A) : Type 0 where
    pub told : List (JournalEntry A)
    pub ends : EndsWith entry entry.number told
    pub begins : IsPrefix told seen
