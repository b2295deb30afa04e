use Rattle.std.proofs.Common.{◌∙◌}
use Rattle.desk_lock.proofs.Clerks.{is_sometime_after}
use Rattle.desk_lock.proofs.Told.{whole_shown, shown_told, shown_stays, none_told}
use Rattle.desk_lock.proofs.desk.Desk.submit.Goals as goal

pub returns-clause-after : goal.returns-clause-after
returns-clause-after g c = rw (c.publish-notice.ensures.same.0, c.in_ok-entry.ensures.made)
    (is_sometime_after g.J.Naming-1.office c.args.card.now c.args.self.now.book.journal c.in_ok-entry.entry c.edit.new.self.book
    c.edit.new.self.entries c.edit.new.card.met c.edit.ensures.met c.in_ok-entry.ensures.sometime c.in_ok-entry.ensures.clerk
    c.in_ok-entry.ensures.journal
    c.use_invariant.ensures.lawful c.use_invariant.ensures.origin c.use_invariant.ensures.entries c.use_invariant.ensures.of_clerks)

pub returns-clause-published : goal.returns-clause-published
returns-clause-published g c = rw c.publish-notice.ensures.same.0
    (whole_shown c.publish-notice.result c.edit.new.self.book.journal c.publish-notice.new.self.published
    c.publish-notice.ensures.whole c.publish-notice.ensures.shown)

pub returns-clause-told : goal.returns-clause-told
returns-clause-told g c = shown_told c.publish-notice.result c.publish-notice.new.self.published c.publish-notice.ensures.shown

pub returns-clause-unpublished : goal.returns-clause-unpublished
returns-clause-unpublished g c = λ not.
    shown_stays c.publish-notice.result c.edit.new.self c.publish-notice.new.self c.publish-notice.ensures.none not
    ∙ c.edit.ensures.published

pub returns-clause-untold : goal.returns-clause-untold
returns-clause-untold g c = none_told c.publish-notice.result

pub returns-clause-refuses : goal.returns-clause-refuses
returns-clause-refuses g c = c.in_ok-entry.ensures.refuses

pub returns-clause-exact : goal.returns-clause-exact
returns-clause-exact g c = λ refusal due alone. absurd (c.in_ok-entry.ensures.refuses refusal due)
