-- A fabric beside what it was. Public contracts do not speak of it.
use Rattle.std.specs.Prelude.{◌≡◌, ◌≤◌, take, length}
use Rattle.fabric_core.specs.Journal.{Book}

-- the spare is what the fabric was some entries ago
pub record IsBehind {A : Type 0} (fabric spare : Book A) : Type 0 where
  pub opening : spare.opening ≡ fabric.opening
  pub city : spare.city ≡ fabric.city
  pub within : length spare.journal ≤ length fabric.journal
  pub beginning : take (length spare.journal) fabric.journal ≡ spare.journal
