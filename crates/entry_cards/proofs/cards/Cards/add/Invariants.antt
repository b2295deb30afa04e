use mathlib.Core.Option.{some}
use Rattle.entry_cards.proofs.cards.Cards.add.Given as goal

-- the entry that is added
abbrev pub ghosts-add_told : goal.ghosts-add_told
ghosts-add_told g a = record { entry = some a.entry.now }
