-- The number that four words of 64 bits stand for (this product's own).
use Rattle.std.specs.Prelude.{ℕ, ◌+◌, ◌*◌, ◌^◌}
use Rattle.wide_numbers.specs.declared.wide.Wide.{Wide}

-- the least word first: each counts 2 ^ 64 times as much as the one before
abbrev pub value : Wide → ℕ
value w = w.a + 2 ^ 64 * (w.b + 2 ^ 64 * (w.c + 2 ^ 64 * w.d))
