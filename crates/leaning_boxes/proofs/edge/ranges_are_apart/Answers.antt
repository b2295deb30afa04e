use Rattle.std.proofs.Common.{◌≡◌, ◌∙◌, ◌||◌, sym, ap, false, int_lt, FitsSigned}
use Rattle.std.specs.Int.{int_max, int_min, w128}
use Rattle.std.proofs.lemmas.Int.{to_z-of_z}
use Rattle.leaning_boxes.proofs.Rows.{apart_or_meeting}
use Rattle.leaning_boxes.proofs.edge.ranges_are_apart.Goals as goal

pub returns-else-lie_below : goal.returns-else-lie_below
returns-else-lie_below c =
    let u = c.args.u in let v = c.args.v in let w = c.args.w in let z = c.args.z in
    let f1 : FitsSigned w128 u = c.ranges.u in
    let f2 : FitsSigned w128 v = c.ranges.v in
    let f3 : FitsSigned w128 w = c.ranges.w in
    let f4 : FitsSigned w128 z = c.ranges.z in
    let one : c.lie_below.result ≡ int_lt (int_max u v) (int_min w z) = simp to_z-of_z at c.lie_below.ensures in
    let two : c.lie_below-else-lie_below.result ≡ int_lt (int_max w z) (int_min u v) =
    simp to_z-of_z at c.lie_below-else-lie_below.ensures in
    let first : int_lt (int_max u v) (int_min w z) ≡ false = sym one ∙ c.if-lie_below.false in
    let either = two ∙ ap (λ t. t || int_lt (int_max w z) (int_min u v)) (sym first) in
    apart_or_meeting c.lie_below-else-lie_below.result u v w z either
