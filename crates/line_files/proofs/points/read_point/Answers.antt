use Rattle.std.proofs.Common.{◌≢◌}
use Rattle.std.proofs.lemmas.List.Elements.{recursion_from_All}
use Rattle.line_files.proofs.Numerals.{point_by_split}
use Rattle.line_files.proofs.PassedOn.{if_none}
use Rattle.line_files.proofs.points.read_point.Goals as goal

pub returns-clause-none : goal.returns-clause-none
returns-clause-none c =
    let split = c.in_ok-x.ensures in
    if_none c.read_corner_on.result _ _
    (λ none corner h. none corner (point_by_split c.args.grid c.args.line.now c.in_ok-x.x.now c.in_ok-x.y.now corner split
    (recursion_from_All (λ b. b ≢ 32) c.in_ok-x.x.now split.lacks) h))
    c.read_corner_on.ensures.none
