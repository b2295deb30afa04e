use Rattle.std.proofs.Common.{arith, sym, ◌∙◌}
use Rattle.published_copies.proofs.Appended.{shows_all, nothing_left}
use Rattle.published_copies.proofs.publisher.Publisher.publish.Goals as goal

pub of-requires : goal.of-requires
of-requires g c = (
  grind (arith),
  sym (shows_all c.self.inside.copies.shown c.self.inside.copies.pending c.self.inside.front c.flush.new.copies.shown
      c.flush.new.copies.pending c.publish.new.self.shown c.self.inside.waiting c.self.invariant.0 c.flush.ensures.shown
      c.if-not-flush.ensures.flushed.1 c.in-Ok.ensures.0),
)

pub invariant_of-self-2 : goal.invariant_of-self-2
invariant_of-self-2 g c =
    let whole =
    shows_all c.self.inside.copies.shown c.self.inside.copies.pending c.self.inside.front c.flush.new.copies.shown
    c.flush.new.copies.pending c.publish.new.self.shown c.self.inside.waiting c.self.invariant.0 c.flush.ensures.shown
    c.if-not-flush.ensures.flushed.1 c.in-Ok.ensures.0 in (
      nothing_left c.publish.new.self.shown c.publish.new.self.pending c.self.inside.front c.flush.new.waiting whole
          c.in-Ok.ensures.1 c.if-not-flush.ensures.flushed.0,
      c.of.ensures ∙ sym whole,
    )

pub returns-clause-some : goal.returns-clause-some
returns-clause-some g c =
    let whole =
    shows_all c.self.inside.copies.shown c.self.inside.copies.pending c.self.inside.front c.flush.new.copies.shown
    c.flush.new.copies.pending c.publish.new.self.shown c.self.inside.waiting c.self.invariant.0 c.flush.ensures.shown
    c.if-not-flush.ensures.flushed.1 c.in-Ok.ensures.0 in
    rw (← c.self.view_is) (c.again.ensures ∙ c.of.ensures, whole)
