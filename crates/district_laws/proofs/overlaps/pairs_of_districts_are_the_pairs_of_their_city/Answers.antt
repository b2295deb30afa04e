use Rattle.district_laws.proofs.Overlapped.{in_one_district, overlaps_in_one, table_of_tables}
use Rattle.district_laws.proofs.overlaps.pairs_of_districts_are_the_pairs_of_their_city.Goals as goal

pub returns-clause-one_district : goal.returns-clause-one_district
returns-clause-one_district c = λ districts city one other parcel zone h d e k l meet.
    in_one_district districts city h one other parcel zone d e k l meet

pub returns-clause-overlaps : goal.returns-clause-overlaps
returns-clause-overlaps c = λ districts city id zone h. overlaps_in_one districts city h id zone

pub returns-clause-tables : goal.returns-clause-tables
returns-clause-tables c = λ districts city pairs table id zone h whole each.
    table_of_tables districts city h table pairs whole each id zone
