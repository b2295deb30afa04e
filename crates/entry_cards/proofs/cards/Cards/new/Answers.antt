use Rattle.entry_cards.proofs.Steps.{begins}
use Rattle.entry_cards.proofs.cards.Cards.new.Goals as goal

pub of_words-requires : goal.of_words-requires
of_words-requires g c = begins _ c.args.clerks
