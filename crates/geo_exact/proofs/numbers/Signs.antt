-- Signs of products over ℤ.
use Rattle.std.proofs.Common.{◌≡◌, ◌≢◌, ℕ, ◌+◌, ◌-◌, ◌*◌, ◌<◌, ◌≤◌, sym, ◌∙◌, ap, arith, true}
use Rattle.std.proofs.Common.{false}
use Rattle.std.proofs.Math.Nat.{mul-pos}
use Rattle.std.proofs.lemmas.Int.{ints, by_lt_z}
use lib.IntN.{ℤ, pos, ◌+ℤ◌, ◌-ℤ◌, ◌*ℤ◌, neg_ℤ}
use lib.Signed.{◌<ℤ◌, ◌≤ℤ◌, lt_z}
use borrow.Author.Differences.{up, down}
use Rattle.geo_exact.proofs.numbers.Differences.{expand, neg-mul}

-- (a - a')(b - b') is at least 0, and above it where both are
atmost_times : (a a' b b' n m : ℕ) → a ≡ a' + n → b ≡ b' + m → a * b + a' * b' ≡ a * b' + a' * b + n * m
atmost_times a a' b b' n m h k = rw (h, k) (omega arith)

less_times : (a a' b b' : ℕ) → a' < a → b' < b → a * b' + a' * b < a * b + a' * b'
less_times a a' b b' h k =
    omega (
      arith,
      atmost_times a a' b b' (a - a') (b - b') (omega arith) (omega arith),
      mul-pos {m = a - a'} {n =
          b - b'} (omega arith) (omega arith),
    )

atmost : (a a' b b' : ℕ) → a' ≤ a → b' ≤ b → a * b' + a' * b ≤ a * b + a' * b'
atmost a a' b b' h k = omega (arith, atmost_times a a' b b' (a - a') (b - b') (omega arith) (omega arith))

pub mul_pos : (a b : ℤ) → pos 0 <ℤ a → pos 0 <ℤ b → pos 0 <ℤ (a *ℤ b)
mul_pos a b h k = omega (arith, ints, less_times (up a) (down a) (up b) (down b) (omega (arith, ints)) (omega (arith, ints)))

pub mul_not_neg : (a b : ℤ) → pos 0 ≤ℤ a → pos 0 ≤ℤ b → pos 0 ≤ℤ (a *ℤ b)
mul_not_neg a b h k = omega (arith, ints, atmost (up a) (down a) (up b) (down b) (omega (arith, ints)) (omega (arith, ints)))

pub mul_neg : (a b : ℤ) → pos 0 <ℤ a → b <ℤ pos 0 → (a *ℤ b) <ℤ pos 0
mul_neg a b h k = omega (arith, ints, less_times (up a) (down a) (down b) (up b) (omega (arith, ints)) (omega (arith, ints)))

pub mul_zero : (a : ℤ) → a *ℤ pos 0 ≡ pos 0
mul_zero a = omega (arith, ints)

-- at least 0 times at most 0
pub mul_not_pos : (a b : ℤ) → pos 0 ≤ℤ a → b ≤ℤ pos 0 → (a *ℤ b) ≤ℤ pos 0
mul_not_pos a b h k = omega (arith, ints, atmost (up a) (down a) (down b) (up b) (omega (arith, ints)) (omega (arith, ints)))

-- the sign of a factor, from that of the product
pub pos_of_mul : (a b : ℤ) → pos 0 <ℤ a → pos 0 <ℤ (a *ℤ b) → pos 0 <ℤ b
pos_of_mul a b h k = by_lt_z (pos 0) b (λ p. p)
    (λ q. absurd (omega (arith, ints, atmost (up a) (down a) (down b) (up b) (omega (arith, ints)) (omega (arith, ints)))))

pub not_neg_of_mul : (a b : ℤ) → pos 0 <ℤ a → pos 0 ≤ℤ (a *ℤ b) → pos 0 ≤ℤ b
not_neg_of_mul a b h k = by_lt_z b (pos 0) (λ q. absurd (omega (arith, ints, mul_neg a b h q))) (λ q. q)

pub not_pos_of_mul : (a b : ℤ) → pos 0 <ℤ a → (a *ℤ b) ≤ℤ pos 0 → b ≤ℤ pos 0
not_pos_of_mul a b h k = by_lt_z (pos 0) b (λ p. absurd (omega (arith, ints, mul_pos a b h p))) (λ p. p)

-- a convex combination of two positive numbers
pub convex : (k l s t : ℤ) → pos 0 ≤ℤ k → pos 0 ≤ℤ l → pos 0 <ℤ (k +ℤ l) → pos 0 <ℤ s → pos 0 <ℤ t
    → pos 0 <ℤ (k *ℤ s +ℤ l *ℤ t)
convex k l s t hk hl h hs ht = by_lt_z (pos 0) k
    (λ p. omega (arith, ints, mul_pos k s p hs, mul_not_neg l t hl (omega (arith, ints))))
    (λ q. let p : pos 0 <ℤ l = omega (arith, ints) in omega (arith, ints, mul_pos l t p ht, mul_not_neg k s hk (omega (arith, ints))))

-- numbers that are equal after positive factors have one sign
pub same_positive : (k l s t : ℤ) → pos 0 <ℤ k → pos 0 <ℤ l → k *ℤ s ≡ l *ℤ t → lt_z (pos 0) s ≡ lt_z (pos 0) t
same_positive k l s t hk hl e = by_lt_z (pos 0) s
    (λ p. let q : pos 0 <ℤ t = pos_of_mul l t hl (omega (arith, ints, mul_pos k s hk p)) in
    let x : true ≡ lt_z (pos 0) s = omega (arith, ints) in
    sym x ∙ omega (arith, ints))
    (λ p. let q : t ≤ℤ pos 0 = not_pos_of_mul l t hl (omega (arith, ints, e, mul_not_pos k s (omega (arith, ints)) p)) in
    let x : false ≡ lt_z (pos 0) s = omega (arith, ints) in
    sym x ∙ omega (arith, ints))

-- the test of the sign of a negative
pub flip : (z : ℤ) → lt_z (pos 0) (neg_ℤ z) ≡ lt_z z (pos 0)
flip z = by_lt_z z (pos 0)
    (λ p. sym (let x : true ≡ lt_z (pos 0) (neg_ℤ z) = omega (arith, ints) in x) ∙ omega (arith, ints))
    (λ p. sym (let x : false ≡ lt_z (pos 0) (neg_ℤ z) = omega (arith, ints) in x) ∙ omega (arith, ints))

pub same_negative : (k l s t : ℤ) → pos 0 <ℤ k → pos 0 <ℤ l → k *ℤ s ≡ l *ℤ t → lt_z s (pos 0) ≡ lt_z t (pos 0)
same_negative k l s t hk hl e = sym (flip s) ∙ same_positive k l (neg_ℤ s) (neg_ℤ t) hk hl (simp expand (ap neg_ℤ e)) ∙ flip t

-- at most 0 times at most 0
pub mul_falling : (a b : ℤ) → a ≤ℤ pos 0 → b ≤ℤ pos 0 → pos 0 ≤ℤ (a *ℤ b)
mul_falling a b h k = omega (arith, ints, atmost (down a) (up a) (down b) (up b) (omega (arith, ints)) (omega (arith, ints)))

-- at most 0 times at least 0
pub mul_sinking : (a b : ℤ) → a ≤ℤ pos 0 → pos 0 ≤ℤ b → (a *ℤ b) ≤ℤ pos 0
mul_sinking a b h k = omega (arith, ints, atmost (down a) (up a) (up b) (down b) (omega (arith, ints)) (omega (arith, ints)))

-- below 0 times above 0
pub mul_neg_pos : (a b : ℤ) → a <ℤ pos 0 → pos 0 <ℤ b → (a *ℤ b) <ℤ pos 0
mul_neg_pos a b h k = omega (arith, ints, less_times (down a) (up a) (up b) (down b) (omega (arith, ints)) (omega (arith, ints)))

pub mul_le : (u v d : ℤ) → pos 0 ≤ℤ d → u ≤ℤ v → (u *ℤ d) ≤ℤ (v *ℤ d)
mul_le u v d h k =
    let e : pos 0 ≤ℤ ((v -ℤ u) *ℤ d) = mul_not_neg (v -ℤ u) d (omega (arith, ints)) h in
    omega (arith, ints, simp expand at e)

pub mul_lt : (u v d : ℤ) → pos 0 <ℤ d → u <ℤ v → (u *ℤ d) <ℤ (v *ℤ d)
mul_lt u v d h k =
    let e : pos 0 <ℤ ((v -ℤ u) *ℤ d) = mul_pos (v -ℤ u) d (omega (arith, ints)) h in
    omega (arith, ints, simp expand at e)

-- a positive factor of 0
pub zero_factor : (d z : ℤ) → pos 0 <ℤ d → d *ℤ z ≡ pos 0 → z ≡ pos 0
zero_factor d z h e =
    by_lt_z (pos 0) z
    (λ p. absurd (omega (arith, ints, e, mul_pos d z h p)))
    (λ p. by_lt_z z (pos 0) (λ q. absurd (omega (arith, ints, e, mul_neg d z h q))) (λ q. omega (arith, ints)))

-- a factor of 0 beside one that is not 0
pub zero_of_mul : (k z : ℤ) → k ≢ pos 0 → k *ℤ z ≡ pos 0 → z ≡ pos 0
zero_of_mul k z h e =
    by_lt_z (pos 0) k
    (λ p. zero_factor k z p e)
    (λ p. by_lt_z k (pos 0) (λ q. zero_factor (neg_ℤ k) z (omega (arith, ints)) (neg-mul k z ∙ ap neg_ℤ e))
    (λ q. absurd (h (omega (arith, ints)))))
