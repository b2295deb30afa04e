use Rattle.std.proofs.Common.{◌∙◌, sym, arith, length}
use Rattle.overlay_work.proofs.Hands.{rows_few}
use Rattle.overlay_work.proofs.Places.{map_map}
use Rattle.overlay_work.proofs.work.Work.new.Goals as goal

pub invariant_of-result : goal.invariant_of-result
invariant_of-result g c = (
  c.requires.city,
  record {
    sharing = c.requires.sharing;
    lengths = c.requires.lengths ∙ sym (map_map (λ list. list.items) (λ list. length list) c.args.lists.items);
    few_rows = (let few = rows_few c.args.sheet.now.now.rows c.use_invariant.ensures.simple in
        omega (arith, few, c.use_invariant.ensures.within.together));
    few_zones = (let few = rows_few c.args.zones.now.rows c.use_invariant-2.ensures.simple in
        omega (arith, few, c.use_invariant-2.ensures.within.together));
  },
)
