use Rattle.std.proofs.Common.{sym, ◌∙◌, ◌++◌, append_assoc}
use Rattle.published_copies.specs.own.Keeping.{waiting_list}
use Rattle.published_copies.proofs.publisher.Publisher.use_invariant.Goals as goal

pub returns : goal.returns
returns g c = rw (← c.self.view_is)
    (let own = c.self.inside in (
      own.copies.pending ++ waiting_list own.waiting,
      sym (append_assoc own.copies.shown own.copies.pending (waiting_list own.waiting)) ∙ c.self.invariant.0,
    ))
