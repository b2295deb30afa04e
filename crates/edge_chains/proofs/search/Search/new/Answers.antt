use Rattle.std.proofs.Common.{sym, ◌∙◌}
use Rattle.geo_exact.specs.Bounds.{holds_corner}
use Rattle.edge_chains.proofs.edges.Boxes.{filter_none}
use Rattle.edge_chains.proofs.search.Search.new.Goals as goal

pub invariant_of-result : goal.invariant_of-result
invariant_of-result g c = c.new-2.ensures.items ∙ sym (filter_none (λ x. holds_corner c.nowhere.result x) c.nowhere.ensures.empty _)
