use Rattle.std.specs.Prelude.{length, max}
use Rattle.desk_lock.specs.Offices.{origin_of}
use Rattle.register_sessions.proofs.start.serve_at.Given as goal

-- the office that is opened with the fabric, for the clerks of these desks
abbrev pub ghosts-at_office-J-Naming-1 : goal.ghosts-at_office-J-Naming-1
ghosts-at_office-J-Naming-1 g a = record {
  office = record { cards = a.name.cards; clerks = max (length a.paths.now) 1; origin = origin_of a.register.fabric };
}

abbrev pub ghosts-at_office-J-Naming-2 : goal.ghosts-at_office-J-Naming-2
ghosts-at_office-J-Naming-2 g a = record { book = a.name.book }
