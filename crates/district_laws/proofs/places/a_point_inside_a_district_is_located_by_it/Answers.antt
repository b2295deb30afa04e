use Rattle.district_laws.proofs.Located.{inside_alike, edges_alike, located_there}
use Rattle.district_laws.proofs.places.a_point_inside_a_district_is_located_by_it.Goals as goal

pub returns-clause-inside : goal.returns-clause-inside
returns-clause-inside g c = λ districts city district p id h is_one i. inside_alike districts city h district p is_one i id

pub returns-clause-edges : goal.returns-clause-edges
returns-clause-edges g c = λ districts city district p id h simple is_one i.
    edges_alike districts city h simple district p is_one i id

pub returns-clause-located : goal.returns-clause-located
returns-clause-located g c = λ districts city district p at h simple is_one i.
    located_there districts city h simple district p at is_one i
