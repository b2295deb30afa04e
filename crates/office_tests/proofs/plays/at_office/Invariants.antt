use Rattle.desk_lock.specs.Offices.{origin_of}
use Rattle.office_tests.proofs.plays.at_office.Given as goal

-- the office that is opened
abbrev pub ghosts-opened_as-J-Naming-1 : goal.ghosts-opened_as-J-Naming-1
ghosts-opened_as-J-Naming-1 g a = record { office = record { cards = a.name.cards; clerks = a.clerks; origin = origin_of a.fabric } }

-- its list of entries
abbrev pub ghosts-opened_as-J-Naming-2 : goal.ghosts-opened_as-J-Naming-2
ghosts-opened_as-J-Naming-2 g a = record { book = a.name.book }
