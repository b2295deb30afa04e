use Rattle.std.proofs.Common.{◌≡◌, ℕ, ◌+◌, ◌*◌, ◌/◌, ◌^◌, ◌%◌, ◌<◌, ◌≤◌, arith, sym, ◌∙◌, ap}
use Rattle.std.proofs.Common.{lit<}
use Rattle.std.proofs.lemmas.Nat.{one_shl, pow_pos, pow_below}
use Rattle.std.proofs.Math.Nat.{pow-le-pow_right}
use Rattle.std.specs.Int.{abs_diff}
use Rattle.geo_exact.specs.Grid.{nearest}
use Rattle.geo_exact.proofs.numbers.Nearest.{size_off, size_far, size_ok, size_none, shifted_nearest}
use Rattle.geo_exact.proofs.coord.near_size.Goals as goal

denominator_is : (s : ℕ) → s < 74 → 1 * 2 ^ s % 2 ^ 128 ≡ 2 ^ s
denominator_is s h = one_shl s 128 (omega arith)

nearest_is : (m s : ℕ) → s < 74 → (2 * m + 1 * 2 ^ s % 2 ^ 128) / 2 ^ (s + 1) ≡ nearest m (2 ^ s)
nearest_is m s h = ap (λ d. (2 * m + d) / 2 ^ (s + 1)) (denominator_is s h) ∙ shifted_nearest m s

apart_is : (m n s r : ℕ) → s < 74 → m ≡ n
    → r ≡ abs_diff m ((2 * m + 1 * 2 ^ s % 2 ^ 128) / 2 ^ (s + 1) * (1 * 2 ^ s % 2 ^ 128))
    → r ≡ abs_diff n (nearest n (2 ^ s) * 2 ^ s)
apart_is m n s r h same e = rw (← same) (rw (nearest_is m s h, denominator_is s h) at e)

pub returns-then-shift-ge74-clause-value : goal.returns-then-shift-ge74-clause-value
returns-then-shift-ge74-clause-value c =
    let large : 2 ^ 74 ≤ 2 ^ c.args.shift = pow-le-pow_right (lit< tt) c.if-shift-ge74.true in
    sym (size_none c.args.numerator (2 ^ c.args.shift) (pow_pos c.args.shift) (omega (arith, large, c.requires.small)))

pub overflow_add-nearest : goal.overflow_add-nearest
overflow_add-nearest c =
    let d = denominator_is c.args.shift c.if-shift-ge74.false in
    let small : 2 ^ c.args.shift < 2 ^ 74 = pow_below c.args.shift 74 c.if-shift-ge74.false in
    rw d (omega (arith, small, c.from-numerator.ensures, c.requires.small))

pub returns-then-abs_diff-denominator-clause-value : goal.returns-then-abs_diff-denominator-clause-value
returns-then-abs_diff-denominator-clause-value c =
    let apart = apart_is c.from-numerator.result c.args.numerator c.args.shift c.abs_diff.result c.if-shift-ge74.false
    c.from-numerator.ensures c.abs_diff.ensures in
    let d = denominator_is c.args.shift c.if-shift-ge74.false in
    sym (size_off c.args.numerator (2 ^ c.args.shift) (rw (← apart) (omega (arith, d, c.if-abs_diff-denominator.true))))

pub returns-then-nearest-clause-value : goal.returns-then-nearest-clause-value
returns-then-nearest-clause-value c =
    let apart = apart_is c.from-numerator.result c.args.numerator c.args.shift c.abs_diff.result c.if-shift-ge74.false
    c.from-numerator.ensures c.abs_diff.ensures in
    let d = denominator_is c.args.shift c.if-shift-ge74.false in
    let n = nearest_is c.from-numerator.result c.args.shift c.if-shift-ge74.false
    ∙ ap (λ m. nearest m (2 ^ c.args.shift)) c.from-numerator.ensures in
    sym (size_far c.args.numerator (2 ^ c.args.shift)
    (rw (← apart) (omega (arith, d, c.if-abs_diff-denominator.false))) (omega (arith, n, c.if-nearest.true)))

pub returns-clause-value : goal.returns-clause-value
returns-clause-value c =
    let apart = apart_is c.from-numerator.result c.args.numerator c.args.shift c.abs_diff.result c.if-shift-ge74.false
    c.from-numerator.ensures c.abs_diff.ensures in
    let d = denominator_is c.args.shift c.if-shift-ge74.false in
    let n = nearest_is c.from-numerator.result c.args.shift c.if-shift-ge74.false
    ∙ ap (λ m. nearest m (2 ^ c.args.shift)) c.from-numerator.ensures in
    rw n (sym (size_ok c.args.numerator (2 ^ c.args.shift)
    (rw (← apart) (omega (arith, d, c.if-abs_diff-denominator.false))) (omega (arith, n, c.if-nearest.false))))
