use borrow.Author.Rules.{rules, lives}
use Rattle.fabric_core.proofs.opening.Opening.again.Goals as goal

pub stands_for-requires : goal.stands_for-requires
stands_for-requires g c κs within = search (rules, lives, within) depth 60 fits 100000
