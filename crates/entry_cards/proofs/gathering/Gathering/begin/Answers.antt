use Rattle.std.proofs.Common.{ap, []}
use Rattle.entry_cards.proofs.Marks.{keeps_taken, taken_of}
use Rattle.entry_cards.proofs.gathering.Gathering.begin.Goals as goal

pub invariant_of-result : goal.invariant_of-result
invariant_of-result g c = record {
  clerks_are = c.requires.clerks_are;
  own = c.requires.own;
  at_most = c.requires.at_most;
  mark = keeps_taken c.args.clerks c.args.dealt [] c.args.mark.me c.requires.mark;
}

pub returns : goal.returns
returns g c =
    ap (λ cards. record {
      name = c.args.cards.name;
      clerks = c.args.clerks;
      dealt = c.args.dealt;
      all = c.args.mark.me.0.all;
      cards = cards;
    })
    (taken_of c.args.clerks c.args.dealt [] c.args.mark.me c.requires.mark)
