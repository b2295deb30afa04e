use Rattle.std.specs.Vec.{vec_len}
use Rattle.fabric_core.proofs.places.Located.{on_edges_found, still_some, outside_found, none_where_empty, some_where_not_empty}
use Rattle.fabric_core.proofs.locate.on_edge_or_outside.Goals as goal

pub returns-then-is_empty : goal.returns-then-is_empty
returns-then-is_empty g c = λ rows p h.
    outside_found p rows c.args.on_edge.items (none_where_empty c.args.on_edge.items (vec_len c.args.on_edge)
    (search) c.if-is_empty.ensures) h

pub returns : goal.returns
returns g c = λ rows p h.
    let found = c.args.on_edge.items in let sorted = c.sort_once.new.ids.items in (
      on_edges_found p rows found sorted c.sort_once.ensures.ascend c.sort_once.ensures.same h,
      still_some found sorted c.sort_once.ensures.same (some_where_not_empty found (vec_len c.args.on_edge) (search) c.if-is_empty.ensures),
    )
