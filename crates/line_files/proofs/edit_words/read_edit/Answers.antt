use Rattle.std.proofs.Common.{◌≡◌, ◌∷◌, codes, rules, subst, sym}
use Rattle.line_files.specs.ClerkFile.{words_of, IsEditOf}
use Rattle.line_files.proofs.edit_words.read_edit.Goals as goal

pub returns-then-eq-2-clause-edit : goal.returns-then-eq-2-clause-edit
returns-then-eq-2-clause-edit g c =
    let e : words_of c.args.line.now ≡ codes "merge" ∷ c.next.new.self = search rules in
    subst (λ words. IsEditOf c.args.grid words c.read_merge.result) (sym e) (c.read_merge.ensures c.args.grid)
