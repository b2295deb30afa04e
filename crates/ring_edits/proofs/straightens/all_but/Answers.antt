use Rattle.std.proofs.Common.{rules, ◌∙◌, ap, not}
use Rattle.std.proofs.lemmas.Fn.{filter_same}
use Rattle.geo_exact.specs.Order.{is_same}
use Rattle.ring_edits.specs.Edits.{without_corner}
use Rattle.ring_edits.proofs.Straight.{without_by}
use Rattle.ring_edits.proofs.straightens.all_but.Goals as goal

pub returns : goal.returns
returns g c =
    filter_same _ (λ corner. not (is_same corner c.args.at)) _ (λ x b f' k. search rules) _ _ c.retain.ensures.filtered
    ∙ without_by c.args.at _ ∙ ap (without_corner c.args.at) c.in_ok-list.ensures.items
