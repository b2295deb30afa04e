-- Products and quotients of numbers of several words.
use Rattle.std.proofs.Common.{◌≡◌, ◌+◌, ◌*◌, ◌^◌, ◌/◌, ◌<◌, ◌∙◌, sym, ap, arith, ℕ}
use Rattle.std.proofs.lemmas.Nat.{div-mul-add}

-- the product by the products of the words, each carry into the next word
pub product_of_words : (m m0 m1 n n0 n1 a0 a1 b0 b1 c0 c1 d0 d1 e0 e1 : ℕ)
    → m ≡ m0 + 2 ^ 64 * m1 → n ≡ n0 + 2 ^ 64 * n1
    → m0 * n0 + 0 ≡ a0 + 2 ^ 64 * a1
    → m1 * n0 + a1 ≡ b0 + 2 ^ 64 * b1
    → m0 * n1 + b0 ≡ c0 + 2 ^ 64 * c1
    → m1 * n1 + c1 ≡ d0 + 2 ^ 64 * d1
    → d0 + b1 ≡ e0 + 2 ^ 64 * e1
    → a0 + 2 ^ 64 * (c0 + 2 ^ 64 * (e0 + 2 ^ 64 * (d1 + e1))) ≡ m * n
product_of_words m m0 m1 n n0 n1 a0 a1 b0 b1 c0 c1 d0 d1 e0 e1 hm hn ha hb hc hd he =
    rw (hm, hn) (omega (arith, ha, hb, hc, hd, he))

-- a number is the sum of its shares and of what is left
pub shared : (v a b c d qa qb qc qd ra rb rc rd : ℕ)
    → 0 * 2 ^ 64 + d ≡ qd * v + rd → rd * 2 ^ 64 + c ≡ qc * v + rc → rc * 2 ^ 64 + b ≡ qb * v + rb
    → rb * 2 ^ 64 + a ≡ qa * v + ra
    → a + 2 ^ 64 * (b + 2 ^ 64 * (c + 2 ^ 64 * d)) ≡ (qa + 2 ^ 64 * (qb + 2 ^ 64 * (qc + 2 ^ 64 * qd))) * v + ra
shared v a b c d qa qb qc qd ra rb rc rd hd hc hb ha = omega (arith, hd, hc, hb, ha)

-- the quotient, from what is left
pub quotient_of : (n q v r : ℕ) → n ≡ q * v + r → r < v → q ≡ n / v
quotient_of n q v r e h = sym (ap (λ x. x / v) e ∙ div-mul-add q v r h)
