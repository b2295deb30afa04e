use Rattle.district_laws.proofs.Located.{own_row_inside, own_row_on_edge}
use Rattle.district_laws.proofs.places.rows_at_a_point_inside_a_district_are_its_own.Goals as goal

pub returns-clause-inside : goal.returns-clause-inside
returns-clause-inside c = λ districts city district p row h is_one i is_row inside.
    own_row_inside districts city h district p row is_one i is_row inside

pub returns-clause-edges : goal.returns-clause-edges
returns-clause-edges c = λ districts city district p row h simple is_one i is_row on.
    own_row_on_edge districts city h simple district p row is_one i is_row on
