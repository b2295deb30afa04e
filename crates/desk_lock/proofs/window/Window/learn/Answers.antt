use Rattle.desk_lock.proofs.Behind.{learns_nothing}
use Rattle.desk_lock.proofs.window.Window.learn.Goals as goal

pub returns-in_default : goal.returns-in_default
returns-in_default g c = rw (← c.receipt.view_is, c.in_default.is) (learns_nothing c.args.self.now)
