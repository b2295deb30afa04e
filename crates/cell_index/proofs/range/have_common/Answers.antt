use Rattle.std.proofs.Common.{◌≡◌, ℕ, ◌+◌, ◌<◌, min, max, nat_lt, arith}
use Rattle.std.proofs.lemmas.Bool.Decides.{nat_tests}
use Rattle.std.proofs.lemmas.Int.{to_z-of_z}
use Rattle.cell_index.specs.declared.axis.Span.{Span}
use Rattle.cell_index.specs.Cells.{cell_of}
use Rattle.cell_index.specs.own.Ranges.{common_along}
use Rattle.cell_index.proofs.KeptPlaces.{by_lt}
use Rattle.cell_index.proofs.range.have_common.Goals as goal

same_tests : (a b c d : ℕ) → (a < b → c < d) → (c < d → a < b) → nat_lt a b ≡ nat_lt c d
same_tests a b c d f h = by_lt a b (λ p. let q = f p in grind (arith, nat_tests))
    (λ p. by_lt c d (λ q. absurd (let r = h q in omega (arith, r, p))) (λ q. grind (arith, nat_tests)))

capped : (span : Span) (u v f t first end : ℕ) → f ≡ min 64 u → t ≡ min 64 v → first ≡ max span.first f
    → end ≡ min (span.first + span.count) (t + 1)
    → nat_lt first end ≡ common_along span u v
capped span u v f t first end a b c d =
    same_tests first end (max span.first u) (min (span.first + span.count) (v + 1))
    (λ p. omega (arith, a, b, c, d, p, span.is_in_grid)) (λ p. omega (arith, a, b, c, d, p, span.is_in_grid))

pub returns : goal.returns
returns c =
    let f1 = c.ranges.low in let f2 = c.ranges.high in let f3 = c.ranges.from in let f4 = c.ranges.to in
    capped c.args.span (cell_of c.args.low c.args.high c.args.from) (cell_of c.args.low c.args.high c.args.to)
    c.cell_of.result c.cell_of-2.result c.max-first.result c.min-end.result
    (simp to_z-of_z at c.cell_of.ensures) (simp to_z-of_z at c.cell_of-2.ensures) c.max-first.ensures c.min-end.ensures
