use Rattle.std.specs.Prelude.{length}
use Rattle.desk_lock.specs.Offices.{origin_of}
use Rattle.clerk_runs.proofs.runs.edit_by_clerks.Given as goal

-- the office that is opened with the fabric for these clerks
abbrev pub ghosts-edit_at_office-J-Naming-1 : goal.ghosts-edit_at_office-J-Naming-1
ghosts-edit_at_office-J-Naming-1 g a = record {
  office = record { cards = a.name.cards; clerks = length a.clerks.items; origin = origin_of a.fabric };
}

abbrev pub ghosts-edit_at_office-J-Naming-2 : goal.ghosts-edit_at_office-J-Naming-2
ghosts-edit_at_office-J-Naming-2 g a = record { book = a.name.book }
