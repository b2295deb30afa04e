-- The bytes of a file, where it tells them (this product's own).
use Rattle.std.specs.Prelude.{ℕ, List, ◌++◌, Option, None, Some}

-- with more bytes at the end
abbrev pub with_more : List ℕ → Option (List ℕ) → Option (List ℕ)
with_more more None = None
with_more more (Some bytes) = Some (bytes ++ more)
