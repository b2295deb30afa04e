-- What a desk does to publish the first so many entries of its journal. Public contracts do not speak of it.
use Rattle.std.specs.Prelude.{◌≡◌, ℕ, ◌+◌, ◌<◌, ◌≤◌}
use Rattle.desk_lock.specs.declared.desk.Step.{Step}
use Rattle.desk_lock.specs.declared.desk.Step.TheVariants.{Shown, Beyond, Ahead, HandOn}

-- as many are published; else the journal has fewer; else more were handed on behind those of the opening; else so many
-- are handed on behind those
abbrev pub IsStep : (number before published handed entries : ℕ) → Step → Type 0
IsStep number before published handed entries Shown = number ≤ published
IsStep number before published handed entries Beyond = (published < number) × (entries < number)
IsStep number before published handed entries Ahead =
    (published < number) × (number ≤ entries) × (number < before + handed)
IsStep number before published handed entries (HandOn count) =
    (published < number) × (number ≤ entries) × (before + handed ≤ number) × (number ≡ before + count)
