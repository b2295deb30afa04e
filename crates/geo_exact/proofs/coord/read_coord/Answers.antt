use Rattle.std.proofs.Common.{◌∙◌}
use Rattle.geo_exact.proofs.doubles.Coordinates.{within_of, on_grid_of, refused_of, accepted_when, refused_when}
use Rattle.geo_exact.proofs.coord.read_coord.Goals as goal

pub returns : goal.returns
returns c = record {
  exact = c.any_coordinate.ensures;
  on_grid = on_grid_of c.args.bits c.args.unit c.any_coordinate.result c.any_coordinate.ensures;
  within = within_of c.args.bits c.args.unit c.any_coordinate.result c.any_coordinate.ensures;
  accepted = λ k. λ grid. λ within. c.any_coordinate.ensures ∙ accepted_when c.args.bits c.args.unit k grid within;
  refused = refused_of c.args.bits c.args.unit c.any_coordinate.result c.any_coordinate.ensures;
  fault = λ f. λ h. c.any_coordinate.ensures ∙ refused_when c.args.bits c.args.unit f h;
}
