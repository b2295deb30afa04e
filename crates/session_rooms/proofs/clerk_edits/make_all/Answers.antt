use Rattle.std.proofs.Common.{◌≡◌, ◌∷◌, ◌++◌, [], ◌+◌, ◌∙◌, suc, take, drop, sym, ap, subst}
use Rattle.std.proofs.Math.Seq.{drop-cons}
use Rattle.std.proofs.lemmas.List.{take_more, take-append-drop}
use Rattle.session_rooms.specs.declared.clerk_edits.TheConstants.{EDITS_CLERK}
use Rattle.session_rooms.specs.ClerkEdits.{AreMadeBy}
use Rattle.session_rooms.proofs.EditsOfClerk.{one_more, stopped, short}
use Rattle.session_rooms.proofs.clerk_edits.make_all.Goals as goal

pub loop-said-preserved : goal.loop-said-preserved
loop-said-preserved g c =
    let edits = c.args.edits.now in
    let i = c.loop-said.said-index in
    let more : take (i + 1) edits ≡ take i edits ++ c.said-item.result ∷ [] =
    take_more edits i c.said-item.result c.loop-said-test.true ∙ ap (λ said. take i edits ++ said ∷ []) (sym c.said-item.is) in
    subst (λ made. AreMadeBy EDITS_CLERK made c.args.fabric.now c.edit.new.self) (sym more)
    (one_more EDITS_CLERK (take i edits) c.said-item.result c.args.fabric.now c.loop-said.fabric c.edit.new.self c.in_default.field-0
    c.loop-said.invariant c.in_default.ensures.journal c.in_default.ensures.edit c.in_default.ensures.clerk
    c.in_default.ensures.opening c.in_default.ensures.city)

pub returns-in-Err-clause-refused : goal.returns-in-Err-clause-refused
returns-in-Err-clause-refused g c =
    let edits = c.args.edits.now in
    let i = c.loop-said.said-index in
    let left : drop i edits ≡ c.said-item.result ∷ drop (suc i) edits =
    drop-cons edits i c.said-item.result c.loop-said-test.true ∙ ap (λ said. said ∷ drop (suc i) edits) (sym c.said-item.is) in
    stopped EDITS_CLERK edits i c.said-item.result c.args.fabric.now c.loop-said.fabric c.edit.new.self c.in-Err.refusal
    (sym (take-append-drop i edits) ∙ ap (λ rest. take i edits ++ rest) left) c.loop-said.invariant c.in-Err.ensures.unchanged
    c.in-Err.ensures.refusal

pub returns-in-Err-clause-memory : goal.returns-in-Err-clause-memory
returns-in-Err-clause-memory g c =
    let edits = c.args.edits.now in
    let i = c.loop-said.said-index in
    let left : drop i edits ≡ c.said-item.result ∷ drop (suc i) edits =
    drop-cons edits i c.said-item.result c.loop-said-test.true ∙ ap (λ said. said ∷ drop (suc i) edits) (sym c.said-item.is) in
    short EDITS_CLERK edits i c.said-item.result c.args.fabric.now c.loop-said.fabric c.edit.new.self c.in-Err.refusal
    (sym (take-append-drop i edits) ∙ ap (λ rest. take i edits ++ rest) left) c.loop-said.invariant c.in-Err.ensures.unchanged
    c.in-Err.ensures.exact
