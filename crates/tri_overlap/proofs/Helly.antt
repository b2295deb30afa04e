-- Helly's theorem for convex sets of rational points in the plane, by Radon's: for four sets, and for two triples of sets.
use Rattle.std.proofs.Common.{◌≡◌, inl, inr, ◌⊎◌}
use lib.IntN.{ℤ, pos}
use Rattle.geo_exact.specs.Point.{Point}
use Rattle.tri_overlap.proofs.Convex.{IsConvex, both_convex, three_convex}
use Rattle.tri_overlap.proofs.Radon.{IsSum, sum_turned, without_first, radon}

-- a place in three sets
abbrev InThree : (P Q R : Point → Type 0) → Type 0
InThree P Q R = (t : Point) × P t × Q t × R t

-- a place in four sets
abbrev pub InFour : (P Q R S : Point → Type 0) → Type 0
InFour P Q R S = (t : Point) × P t × Q t × R t × S t

-- a place that is a sum of two groups of four points is in a convex set with all points but the first: one group lacks that
in_convex : (P : Point → Type 0) → IsConvex P → {t p q r s : Point} {i j k l i' j' k' l' : ℤ}
    → IsSum t p q r s i j k l → IsSum t p q r s i' j' k' l' → (i ≡ pos 0) ⊎ (i' ≡ pos 0) → P q → P r → P s → P t
in_convex P hP {t} {p} {q} {r} {s} {i} {j} {k} {l} {i'} {j'} {k'} {l'} upper lower h Pq Pr Ps = elim h [
  | inl e ↦ hP t q r s j k l (without_first upper e) Pq Pr Ps
  | inr e ↦ hP t q r s j' k' l' (without_first lower e) Pq Pr Ps
]

-- Four convex sets of which each three have a common point have one together.
helly : (P Q R S : Point → Type 0) → IsConvex P → IsConvex Q → IsConvex R → IsConvex S
    → InThree Q R S → InThree P R S → InThree P Q S → InThree P Q R → InFour P Q R S
helly P Q R S hP hQ hR hS p q r s =
    let m = radon p.0 q.0 r.0 s.0 in
    let upper = sum_turned m.as_upper in
    let lower = sum_turned m.as_lower in
    let upper2 = sum_turned upper in
    let lower2 = sum_turned lower in (
      m.place,
      in_convex P hP m.as_upper m.as_lower m.first_is_in_one q.1 r.1 s.1,
      in_convex Q hQ upper lower m.second_is_in_one r.2 s.2 p.1,
      in_convex R hR upper2 lower2 m.third_is_in_one s.3 p.2 q.2,
      in_convex S hS (sum_turned upper2) (sum_turned lower2) m.fourth_is_in_one p.3 q.3 r.3,
    )

-- a triple and a pair of convex sets: each of the pair meets the whole triple, and the pair meets each of the triple
helly_five : (N1 N2 N3 M1 M2 : Point → Type 0)
    → IsConvex N1 → IsConvex N2 → IsConvex N3 → IsConvex M1 → IsConvex M2
    → InFour N1 N2 N3 M1 → InFour N1 N2 N3 M2
    → InThree M1 M2 N1 → InThree M1 M2 N2 → InThree M1 M2 N3
    → InFour (λ t. M1 t × M2 t) N1 N2 N3
helly_five N1 N2 N3 M1 M2 c1 c2 c3 d1 d2 t1 t2 u1 u2 u3 =
    -- the pair with two of the triple
    let w12 = helly M1 M2 N1 N2 d1 d2 c1 c2 (t2.0, t2.4, t2.1, t2.2) (t1.0, t1.4, t1.1, t1.2) u2 u1 in
    let w13 = helly M1 M2 N1 N3 d1 d2 c1 c3 (t2.0, t2.4, t2.1, t2.3) (t1.0, t1.4, t1.1, t1.3) u3 u1 in
    let w23 = helly M1 M2 N2 N3 d1 d2 c2 c3 (t2.0, t2.4, t2.2, t2.3) (t1.0, t1.4, t1.2, t1.3) u3 u2 in
    -- what the pair has in common, as one set
    helly (λ t. M1 t × M2 t) N1 N2 N3 (both_convex M1 M2 d1 d2) c1 c2 c3 (t1.0, t1.1, t1.2, t1.3)
    (w23.0, (w23.1, w23.2), w23.3, w23.4) (w13.0, (w13.1, w13.2), w13.3, w13.4) (w12.0, (w12.1, w12.2), w12.3, w12.4)

-- Two triples of convex sets have a place in all six, where each set of one triple meets the whole other triple.
pub helly_six : (N1 N2 N3 M1 M2 M3 : Point → Type 0)
    → IsConvex N1 → IsConvex N2 → IsConvex N3 → IsConvex M1 → IsConvex M2 → IsConvex M3
    → InFour N1 N2 N3 M1 → InFour N1 N2 N3 M2 → InFour N1 N2 N3 M3
    → InFour M1 M2 M3 N1 → InFour M1 M2 M3 N2 → InFour M1 M2 M3 N3
    → InFour (λ t. N1 t × N2 t × N3 t) M1 M2 M3
helly_six N1 N2 N3 M1 M2 M3 c1 c2 c3 d1 d2 d3 t1 t2 t3 u1 u2 u3 =
    -- the first triple with two of the second
    let v12 = helly_five N1 N2 N3 M1 M2 c1 c2 c3 d1 d2 t1 t2
    (u1.0, u1.1, u1.2, u1.4) (u2.0, u2.1, u2.2, u2.4) (u3.0, u3.1, u3.2, u3.4) in
    let v13 = helly_five N1 N2 N3 M1 M3 c1 c2 c3 d1 d3 t1 t3
    (u1.0, u1.1, u1.3, u1.4) (u2.0, u2.1, u2.3, u2.4) (u3.0, u3.1, u3.3, u3.4) in
    let v23 = helly_five N1 N2 N3 M2 M3 c1 c2 c3 d2 d3 t2 t3
    (u1.0, u1.2, u1.3, u1.4) (u2.0, u2.2, u2.3, u2.4) (u3.0, u3.2, u3.3, u3.4) in
    -- what the first triple has in common, as one set
    helly (λ t. N1 t × N2 t × N3 t) M1 M2 M3 (three_convex N1 N2 N3 c1 c2 c3) d1 d2 d3 (u1.0, u1.1, u1.2, u1.3)
    (v23.0, (v23.2, v23.3, v23.4), v23.1.0, v23.1.1) (v13.0, (v13.2, v13.3, v13.4), v13.1.0, v13.1.1)
    (v12.0, (v12.2, v12.3, v12.4), v12.1.0, v12.1.1)
