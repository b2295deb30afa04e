use Rattle.district_laws.proofs.boundaries.Within.{ring_on_rows, inside_within, edge_within}
use Rattle.district_laws.proofs.places.rows_lie_in_the_ring_that_they_tile.Goals as goal

pub returns-clause-boundary : goal.returns-clause-boundary
returns-clause-boundary c = λ rows ring p simple tiling on. ring_on_rows rows ring simple tiling p on

pub returns-clause-inside : goal.returns-clause-inside
returns-clause-inside c = λ rows ring p row simple simple_rows tiling is_row i.
    inside_within rows ring simple simple_rows tiling p row is_row i

pub returns-clause-edges : goal.returns-clause-edges
returns-clause-edges c = λ rows ring p row simple simple_rows tiling is_row on off.
    edge_within rows ring simple simple_rows tiling p row is_row on off
