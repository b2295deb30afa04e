use Rattle.std.proofs.Common.{◌≡◌, ◌*◌, ◌<◌, ◌+◌, ◌++◌, ◌∷◌, [], arith, below_more, length, slice_index, subst, sym, ◌≤◌, get_or}
use Rattle.std.proofs.lemmas.List.{get_or_append_left, get_or_push, length_push}
use Rattle.edge_chains.specs.declared.blocks.TheConstants.{GROUP}
use Rattle.leaning_boxes.specs.Leaning.{IsHeld}
use Rattle.edge_chains.proofs.edges.Boxes.{first_inside}
use Rattle.edge_chains.proofs.tree.leaning_boxes.Goals as goal

pub loop-group-preserved : goal.loop-group-preserved
loop-group-preserved g c =
    let old = c.loop-group.boxes.items in let box = c.box_at.result in let n = c.loop-group.group in
    let corners = c.args.corners.now in let ends = c.args.ends.now in
    let inv = c.loop-group.invariant in
    let items = c.in_ok-push.ensures.items in record {
      as_many = subst (λ boxes. length boxes ≡ n + 1) (sym items) (omega (arith, inv.as_many, length_push old box));
      so_far = λ i below inside k corner b from to. subst (λ boxes. IsHeld (get_or boxes i b) (get_or corners k corner)) (sym items)
          (below_more (λ j. j * GROUP < length corners → j * GROUP ≤ k → k < slice_index ends j
          → IsHeld (get_or (old ++ box ∷ []) j b) (get_or corners k corner)) n
          (λ j q r s t. rw (get_or_append_left old (box ∷ []) b j (omega (arith, inv.as_many, q)))
          (inv.so_far j q r k corner b s t))
          (λ r s t. rw (get_or_push old box b n inv.as_many) (c.box_at.ensures r k corner s t))
          i below inside from to);
    }

pub returns : goal.returns
returns g c =
    let inv = c.loop-group.invariant in record {
      in_place = c.requires;
      as_many = omega (arith, inv.as_many);
      have_blocks = λ i inside.
          inv.so_far i (omega (arith, first_inside (length c.args.corners.now) c.args.ends.now c.requires i inside)) inside;
    }
