use Rattle.std.proofs.Common.{inl, inr, refl, sym, ◌∙◌, subst, arith, ⊎_elim, ◌<◌, length}
use Rattle.fabric_core.specs.declared.journal.TheConstants.{JOURNAL_ENTRIES}
use Rattle.fabric_core.specs.Journal.{Book}
use Rattle.fabric_core.specs.EditResults.{IsEntryOf}
use Rattle.fabric_core.specs.own.Books.{IsBook}
use Rattle.fabric_core.specs.own.Changes.{IsDraftRefusal}
use Rattle.fabric_core.proofs.edits.Booked.{no_entry, one_entry, one_more}
use Rattle.fabric_core.proofs.fabric.Fabric.follow.Goals as goal

pub returns-in-Err-clause-fault : goal.returns-in-Err-clause-fault
returns-in-Err-clause-fault g c =
    let room : length c.self.inside.journal.items < JOURNAL_ENTRIES = omega (arith, c.len-full.ensures, c.if-full.false) in
    ⊎_elim
    (λ none. inr (cc (none.1)))
    (λ some. inl (
      cc (some.1),
      λ due. ⊎_elim
          (λ why. no_entry c.self.inside.opening c.self.inside.journal.items c.self.inside.tiled c.self.inside.corners
          c.self.invariant c.args.entry.now
          c.in-Err.refusal room (subst (λ edit. IsDraftRefusal c.self.inside.tiled edit c.in-Err.refusal) c.edit.ensures why)
          (subst (λ (b : Book _). IsEntryOf b.now c.args.entry.now) (sym c.self.view_is) due.is_entry))
          (λ none. some.0 none) c.in-Err.ensures.err,
    ))
    c.from.ensures

pub returns-then-not-changes_as-clause-fault : goal.returns-then-not-changes_as-clause-fault
returns-then-not-changes_as-clause-fault g c =
    inl (
      refl,
      λ due.
          let same = one_entry c.self.inside.opening c.self.inside.journal.items c.self.inside.tiled c.self.inside.corners c.self.invariant
          c.in-Ok.draft.entry c.args.entry.now (c.in-Ok.ensures.edit ∙ c.edit.ensures) c.in-Ok.ensures.is_entry
          (subst (λ (b : Book _). IsEntryOf b.now c.args.entry.now) (sym c.self.view_is) due.is_entry) in
          let equal = c.changes_as.ensures.1 same in
          absurd (cc (c.if-not-changes_as.true, equal)),
    )

pub invariant_of-self-2 : goal.invariant_of-self-2
invariant_of-self-2 g c =
    let room : length c.self.inside.journal.items < JOURNAL_ENTRIES = omega (arith, c.len-full.ensures, c.if-full.false) in
    let entry = c.in-Ok.draft.entry in
    subst (λ xs. IsBook c.self.inside.opening xs c.carry_out.new.tiled c.in_ok-self-inside.field-0)
    (sym c.in_ok-self-inside.ensures.journal)
    (one_more c.self.inside.opening c.self.inside.journal.items c.self.inside.tiled c.self.inside.corners c.self.invariant entry
    c.carry_out.new.tiled c.in_ok-self-inside.field-0 room (omega (arith, c.in-Ok.ensures.number, c.len.ensures)) c.in-Ok.ensures.is_entry
    c.in_ok-self-inside.ensures.made (c.in_ok-self-inside.ensures.corners ∙ c.in-Ok.ensures.corners))
