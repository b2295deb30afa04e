use Rattle.district_laws.proofs.Located.{inside_none, on_none, located_outside}
use Rattle.district_laws.proofs.places.a_point_outside_all_districts_is_outside_all_rows.Goals as goal

pub returns-clause-inside : goal.returns-clause-inside
returns-clause-inside g c = λ districts city p id h simple none. inside_none districts city h simple p none id

pub returns-clause-edges : goal.returns-clause-edges
returns-clause-edges g c = λ districts city p id h simple none off. on_none districts city h simple p none off id

pub returns-clause-located : goal.returns-clause-located
returns-clause-located g c = λ districts city p at h simple is_outside located.
    located_outside districts city h simple p at is_outside located
