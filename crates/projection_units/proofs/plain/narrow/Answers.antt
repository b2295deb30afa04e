use Rattle.std.proofs.Common.{◌≡◌, ◌≤◌, ◌<◌, ◌+◌, ◌*◌, ◌/◌, ◌++◌, ◌∙◌, ℕ, Bool, List, [], ◌∷◌, length, drop, get_or, ap, refl, sym}
use Rattle.std.proofs.Common.{append_assoc, append-nil, arith, length-drop}
use Rattle.std.proofs.lemmas.List.{drop_more}
use Rattle.projection_units.specs.Plain.{narrow, one_byte}
use Rattle.projection_units.proofs.plain.narrow.Goals as goal

short : (big : Bool) (xs : List ℕ) → length xs ≤ 1 → narrow big xs ≡ []
short big [] few = refl
short big (x ∷ []) few = refl
short big (x ∷ y ∷ rest) few = absurd (omega (arith, few))

none_left : (big : Bool) (xs : List ℕ) (i : ℕ) → length xs / 2 ≤ i → narrow big (drop (2 * i) xs) ≡ []
none_left big xs i past = short big (drop (2 * i) xs) (omega (arith, length-drop (2 * i) xs, past))

one_more : (big : Bool) (xs : List ℕ) (i : ℕ) → i + 1 < length xs
    → narrow big (drop i xs) ≡ one_byte big (get_or xs i 0) (get_or xs (i + 1) 0) ∷ narrow big (drop (i + 1 + 1) xs)
one_more big xs i within = ap (narrow big)
    (drop_more xs i 0 (omega (arith, within)) ∙ ap (λ ys. get_or xs i 0 ∷ ys) (drop_more xs (i + 1) 0 within))

pushed : (big : Bool) (xs before now : List ℕ) (i byte : ℕ) → now ≡ before ++ byte ∷ []
    → byte ≡ one_byte big (get_or xs (2 * i) 0) (get_or xs (2 * i + 1) 0) → 2 * i + 1 < length xs
    → before ++ narrow big (drop (2 * i) xs) ≡ narrow big xs → now ++ narrow big (drop (2 * (i + 1)) xs) ≡ narrow big xs
pushed big xs before now i byte is_now is_byte within was =
    let rest = narrow big (drop (2 * (i + 1)) xs) in
    let place : 2 * i + 1 + 1 ≡ 2 * (i + 1) = omega arith in
    let whole : narrow big (drop (2 * i) xs) ≡ byte ∷ rest = one_more big xs (2 * i) within
    ∙ ap (λ b. b ∷ narrow big (drop (2 * i + 1 + 1) xs)) (sym is_byte) ∙ ap (λ k. byte ∷ narrow big (drop k xs)) place in
    ap (λ l. l ++ rest) is_now ∙ append_assoc before (byte ∷ []) rest ∙ ap (λ l. before ++ l) (sym whole) ∙ was

pub loop-at-preserved : goal.loop-at-preserved
loop-at-preserved c = pushed c.args.big c.args.wide.now c.loop-at.plain.items c.push.new.self.items c.loop-at.at
    c.one_byte.result c.in_ok-push.ensures.items c.one_byte.ensures (omega (arith, c.loop-at-test.true)) c.loop-at.invariant

pub returns : goal.returns
returns c =
    let items = c.loop-at.plain.items in
    sym (append-nil items)
    ∙ sym (ap (λ rest. items ++ rest) (none_left c.args.big c.args.wide.now c.loop-at.at c.loop-at-test.false))
    ∙ c.loop-at.invariant
