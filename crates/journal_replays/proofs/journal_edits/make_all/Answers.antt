use Rattle.std.proofs.Common.{◌≡◌, ◌∷◌, ◌++◌, [], ◌+◌, ◌∙◌, suc, take, drop, sym, ap, subst}
use Rattle.std.proofs.Math.Seq.{drop-cons}
use Rattle.std.proofs.lemmas.List.{take_more, take-append-drop}
use Rattle.journal_replays.specs.Replays.{AreMade}
use Rattle.journal_replays.proofs.EditsMade.{one_more, stopped, short}
use Rattle.journal_replays.proofs.journal_edits.make_all.Goals as goal

pub returns-in-Err-clause-refused : goal.returns-in-Err-clause-refused
returns-in-Err-clause-refused g c =
    let records = c.args.records.now in
    let i = c.loop-said.said-index in
    let left : drop i records ≡ c.said-item.result ∷ drop (suc i) records =
    drop-cons records i c.said-item.result c.loop-said-test.true ∙ ap (λ said. said ∷ drop (suc i) records) (sym c.said-item.is) in
    stopped records i c.said-item.result c.args.fabric.now c.loop-said.fabric c.edit.new.self c.in-Err.refusal
    (sym (take-append-drop i records) ∙ ap (λ rest. take i records ++ rest) left) c.loop-said.invariant c.in-Err.ensures.unchanged
    c.in-Err.ensures.refusal

pub loop-said-preserved : goal.loop-said-preserved
loop-said-preserved g c =
    let records = c.args.records.now in
    let i = c.loop-said.said-index in
    let more : take (i + 1) records ≡ take i records ++ c.said-item.result ∷ [] =
    take_more records i c.said-item.result c.loop-said-test.true ∙ ap (λ said. take i records ++ said ∷ []) (sym c.said-item.is) in
    subst (λ made. AreMade made c.args.fabric.now c.edit.new.self) (sym more)
    (one_more (take i records) c.said-item.result c.args.fabric.now c.loop-said.fabric c.edit.new.self c.in_default.field-0
    c.loop-said.invariant c.in_default.ensures.journal c.in_default.ensures.edit c.in_default.ensures.clerk
    c.in_default.ensures.opening c.in_default.ensures.city)

pub returns-in-Err-clause-memory : goal.returns-in-Err-clause-memory
returns-in-Err-clause-memory g c =
    let records = c.args.records.now in
    let i = c.loop-said.said-index in
    let left : drop i records ≡ c.said-item.result ∷ drop (suc i) records =
    drop-cons records i c.said-item.result c.loop-said-test.true ∙ ap (λ said. said ∷ drop (suc i) records) (sym c.said-item.is) in
    short records i c.said-item.result c.args.fabric.now c.loop-said.fabric c.edit.new.self c.in-Err.refusal
    (sym (take-append-drop i records) ∙ ap (λ rest. take i records ++ rest) left) c.loop-said.invariant c.in-Err.ensures.unchanged
    c.in-Err.ensures.exact
