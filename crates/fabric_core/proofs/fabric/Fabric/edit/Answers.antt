use Rattle.std.proofs.Common.{◌≡◌, ◌⊎◌, ap, Err, inl, inr, sym, ◌∙◌, subst, arith, ⊎_elim, refl, ◌<◌, ◌≤◌, length}
use Rattle.fabric_core.specs.declared.journal.TheConstants.{JOURNAL_ENTRIES}
use Rattle.fabric_core.specs.declared.refusal.Refusal.TheVariants.{JournalFull, NoMemory}
use Rattle.fabric_core.specs.Journal.{Book}
use Rattle.fabric_core.specs.Refusals.{IsFirstBent, IsRefusal, AreParcels, named_ids}
use Rattle.fabric_core.specs.own.Books.{IsBook}
use Rattle.fabric_core.specs.own.Changes.{state_of}
use Rattle.fabric_core.proofs.edits.Booked.{bent_told, drafted, for_that_alone, for_nothing, for_nothing_early, one_more}
use Rattle.fabric_core.proofs.edits.Refusals.{IsErrAnd-weaker, error_is}
use Rattle.geo_exact.proofs.PassedOn.{passed_if}
use Rattle.fabric_core.proofs.fabric.Fabric.edit.Goals as goal

pub returns-in_err-draft-clause-refusal : goal.returns-in_err-draft-clause-refusal
returns-in_err-draft-clause-refusal g c =
    let room : length c.self.inside.journal.items < JOURNAL_ENTRIES = omega (arith, c.len.ensures, c.if-len-ge-JOURNAL_ENTRIES.false) in
    passed_if c.from_residual.result c.in_err-draft.field-0.0
    (λ refusal. IsRefusal c.args.self.now.now c.args.self.now.journal c.args.edit.now refusal
    ⊎ (refusal ≡ NoMemory)) c.from_residual.ensures.1
    (⊎_elim
    (λ why. inl (subst (λ (b : Book _). IsRefusal b.now b.journal c.args.edit.now c.in_err-draft.field-0.0) c.self.view_is
    (drafted c.self.inside.opening c.self.inside.journal.items c.self.inside.tiled c.self.inside.corners c.self.invariant c.args.edit.now
    c.in_err-draft.field-0.0 room why)))
    (λ e. inr e) c.in_err-draft.ensures.err)

pub returns-in_err-draft-clause-bent : goal.returns-in_err-draft-clause-bent
returns-in_err-draft-clause-bent g c = λ at id e told.
    let room : length c.self.inside.journal.items < JOURNAL_ENTRIES = omega (arith, c.len.ensures, c.if-len-ge-JOURNAL_ENTRIES.false) in
    subst (λ (b : Book _). IsFirstBent b.now.rows at id) c.self.view_is
    (bent_told c.self.inside.opening c.self.inside.journal.items c.self.inside.tiled c.self.inside.corners c.self.invariant
    c.from_residual.result c.args.edit.now at id
    (passed_if c.from_residual.result c.in_err-draft.field-0.0
    (λ refusal. IsRefusal (state_of c.self.inside.tiled) c.self.inside.journal.items c.args.edit.now refusal
    ⊎ (refusal ≡ NoMemory)) c.from_residual.ensures.1
    (⊎_elim
    (λ why. inl (drafted c.self.inside.opening c.self.inside.journal.items c.self.inside.tiled c.self.inside.corners c.self.invariant
    c.args.edit.now c.in_err-draft.field-0.0 room why))
    (λ none. inr none) c.in_err-draft.ensures.err))
    e told)

pub returns-in_err-draft-clause-refuses : goal.returns-in_err-draft-clause-refuses
returns-in_err-draft-clause-refuses g c = λ s h.
    let room : length c.self.inside.journal.items < JOURNAL_ENTRIES = omega (arith, c.len.ensures, c.if-len-ge-JOURNAL_ENTRIES.false) in
    let told = subst (λ (b : Book _). IsRefusal b.now b.journal c.args.edit.now s) (sym c.self.view_is) h in
    IsErrAnd-weaker c.from_residual.result (λ f. f ≡ c.in_err-draft.field-0.0) (λ f. (f ≡ s) ⊎ (f ≡ NoMemory))
    (λ f e. ⊎_elim
    (λ why. inl (e ∙ for_that_alone c.self.inside.opening c.self.inside.journal.items c.self.inside.tiled
    c.self.inside.corners c.self.invariant
    c.args.edit.now c.in_err-draft.field-0.0 s
    (drafted c.self.inside.opening c.self.inside.journal.items c.self.inside.tiled c.self.inside.corners c.self.invariant c.args.edit.now
    c.in_err-draft.field-0.0 room why) told))
    (λ none. inr (e ∙ none)) c.in_err-draft.ensures.err)
    c.from_residual.ensures.1

pub invariant_of-self-2 : goal.invariant_of-self-2
invariant_of-self-2 g c =
    let room : length c.self.inside.journal.items < JOURNAL_ENTRIES = omega (arith, c.len.ensures, c.if-len-ge-JOURNAL_ENTRIES.false) in
    let entry = c.in_ok-draft.draft.entry in
    subst (λ xs. IsBook c.self.inside.opening xs c.carry_out.new.tiled c.in_ok-self-inside.field-0)
    (sym c.in_ok-self-inside.ensures.journal)
    (one_more c.self.inside.opening c.self.inside.journal.items c.self.inside.tiled c.self.inside.corners c.self.invariant entry
    c.carry_out.new.tiled c.in_ok-self-inside.field-0 room
    (omega (arith, c.in_ok-draft.ensures.number, c.len-2.ensures)) c.in_ok-draft.ensures.is_entry
    c.in_ok-self-inside.ensures.made (c.in_ok-self-inside.ensures.corners ∙ c.in_ok-draft.ensures.corners))

pub returns-clause-refuses : goal.returns-clause-refuses
returns-clause-refuses g c = λ s h.
    let room : length c.self.inside.journal.items < JOURNAL_ENTRIES = omega (arith, c.len.ensures, c.if-len-ge-JOURNAL_ENTRIES.false) in
    let told = subst (λ (b : Book _). IsRefusal b.now b.journal c.args.edit.now s) (sym c.self.view_is) h in
    let entry = c.in_ok-draft.draft.entry in
    for_nothing c.self.inside.opening c.self.inside.journal.items c.self.inside.tiled c.self.inside.corners c.self.invariant entry s room
    (subst (λ edit. AreParcels c.self.inside.tiled.rows (named_ids edit)) (sym c.in_ok-draft.ensures.edit) c.in_ok-draft.ensures.here)
    c.in_ok-draft.ensures.is_entry
    (subst (λ edit. IsRefusal (state_of c.self.inside.tiled) c.self.inside.journal.items edit s) (sym c.in_ok-draft.ensures.edit) told)

pub returns-then-len-ge-JOURNAL_ENTRIES-clause-exact : goal.returns-then-len-ge-JOURNAL_ENTRIES-clause-exact
returns-then-len-ge-JOURNAL_ENTRIES-clause-exact g c = λ s h early.
    let full : JOURNAL_ENTRIES ≤ length c.self.inside.journal.items = omega (arith, c.len.ensures, c.if-len-ge-JOURNAL_ENTRIES.true) in
    ap Err (for_that_alone c.self.inside.opening c.self.inside.journal.items c.self.inside.tiled c.self.inside.corners c.self.invariant
    c.args.edit.now JournalFull s (inl (refl, full))
    (subst (λ (b : Book _). IsRefusal b.now b.journal c.args.edit.now s) (sym c.self.view_is) h))

pub returns-in_err-draft-clause-exact : goal.returns-in_err-draft-clause-exact
returns-in_err-draft-clause-exact g c = λ s h early.
    let room : length c.self.inside.journal.items < JOURNAL_ENTRIES = omega (arith, c.len.ensures, c.if-len-ge-JOURNAL_ENTRIES.false) in
    let told = subst (λ (b : Book _). IsRefusal b.now b.journal c.args.edit.now s) (sym c.self.view_is) h in
    let r = c.in_err-draft.field-0.0 in
    error_is c.from_residual.result r s c.from_residual.ensures.1
    (⊎_elim
    (λ why. for_that_alone c.self.inside.opening c.self.inside.journal.items c.self.inside.tiled
    c.self.inside.corners c.self.invariant
    c.args.edit.now r s
    (drafted c.self.inside.opening c.self.inside.journal.items c.self.inside.tiled c.self.inside.corners c.self.invariant c.args.edit.now
    r room why) told)
    (λ none. absurd (for_nothing_early c.self.inside.opening c.self.inside.journal.items c.self.inside.tiled c.self.inside.corners
    c.self.invariant c.args.edit.now s room (c.in_err-draft.ensures.memory (ap Err none)) told early)) c.in_err-draft.ensures.err)

pub returns-in_err-entry-clause-exact : goal.returns-in_err-entry-clause-exact
returns-in_err-entry-clause-exact g c = λ s h early.
    let room : length c.self.inside.journal.items < JOURNAL_ENTRIES = omega (arith, c.len.ensures, c.if-len-ge-JOURNAL_ENTRIES.false) in
    let told = subst (λ (b : Book _). IsRefusal b.now b.journal c.args.edit.now s) (sym c.self.view_is) h in
    let entry = c.in_ok-draft.draft.entry in
    absurd (for_nothing c.self.inside.opening c.self.inside.journal.items c.self.inside.tiled c.self.inside.corners
    c.self.invariant entry s room
    (subst (λ edit. AreParcels c.self.inside.tiled.rows (named_ids edit)) (sym c.in_ok-draft.ensures.edit) c.in_ok-draft.ensures.here)
    c.in_ok-draft.ensures.is_entry
    (subst (λ edit. IsRefusal (state_of c.self.inside.tiled) c.self.inside.journal.items edit s) (sym c.in_ok-draft.ensures.edit) told))

pub returns-in_err-self-inside-clause-exact : goal.returns-in_err-self-inside-clause-exact
returns-in_err-self-inside-clause-exact g c = λ s h early.
    let room : length c.self.inside.journal.items < JOURNAL_ENTRIES = omega (arith, c.len.ensures, c.if-len-ge-JOURNAL_ENTRIES.false) in
    let told = subst (λ (b : Book _). IsRefusal b.now b.journal c.args.edit.now s) (sym c.self.view_is) h in
    let entry = c.in_ok-draft.draft.entry in
    absurd (for_nothing c.self.inside.opening c.self.inside.journal.items c.self.inside.tiled c.self.inside.corners
    c.self.invariant entry s room
    (subst (λ edit. AreParcels c.self.inside.tiled.rows (named_ids edit)) (sym c.in_ok-draft.ensures.edit) c.in_ok-draft.ensures.here)
    c.in_ok-draft.ensures.is_entry
    (subst (λ edit. IsRefusal (state_of c.self.inside.tiled) c.self.inside.journal.items edit s) (sym c.in_ok-draft.ensures.edit) told))

pub returns-clause-exact : goal.returns-clause-exact
returns-clause-exact g c = λ s h early. absurd (returns-clause-refuses g c s h)
