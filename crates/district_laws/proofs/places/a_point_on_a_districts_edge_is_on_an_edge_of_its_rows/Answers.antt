use Rattle.district_laws.proofs.Located.{on_its_rows, located_on_edges, edge_inside_none, edge_of_no_other, on_edge_of_some}
use Rattle.district_laws.proofs.places.a_point_on_a_districts_edge_is_on_an_edge_of_its_rows.Goals as goal

pub returns-clause-own : goal.returns-clause-own
returns-clause-own g c = λ districts city district p h simple is_one on. on_its_rows districts city h simple district p is_one on

pub returns-clause-located : goal.returns-clause-located
returns-clause-located g c = λ districts city district p at h simple is_one on located.
    located_on_edges districts city h simple district p at is_one on located

pub returns-clause-inside : goal.returns-clause-inside
returns-clause-inside g c = λ districts city district p id h simple is_one on.
    edge_inside_none districts city h simple district p is_one on id

pub returns-clause-others : goal.returns-clause-others
returns-clause-others g c = λ districts city one other p id h simple is_one is_other on off.
    edge_of_no_other districts city h simple one other p is_one is_other on off id

pub returns-clause-of_all : goal.returns-clause-of_all
returns-clause-of_all g c = on_edge_of_some
