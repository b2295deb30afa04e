-- Edges by their lower and higher ends: their ways, rises and places.
use Rattle.std.proofs.Common.{◌≡◌, ℕ, ◌*◌, ◌<◌, ◌≤◌, refl, subst, ◌∙◌, sym, ap, arith, [], ◌∷◌, Bool, true, false, if◌then◌else◌}
use Rattle.std.proofs.lemmas.Nat.{mul-le}
use Rattle.std.proofs.lemmas.Int.{ints, int_max_is, int_min_is}
use Rattle.std.specs.Int.{int_min, int_max}
use lib.IntN.{ℤ, pos, negsuc, ◌+ℤ◌, ◌-ℤ◌, ◌*ℤ◌, neg_ℤ}
use lib.Signed.{◌<ℤ◌, ◌≤ℤ◌}
use Rattle.geo_exact.specs.declared.corner.Corner.{Corner}
use Rattle.geo_exact.specs.Rings.{Edge}
use Rattle.geo_exact.proofs.numbers.Polynomials.{var, lit, add, mul, sub, same_by}
use Rattle.common_areas.specs.Between.{way, rise, place, gap, lowest, highest}
use Rattle.common_areas.proofs.Numbers.{size_not_neg, size_not_pos, way_up, way_down}

-- the edge between two corners, up or down
abbrev pub turned : Bool → Corner → Corner → Edge
turned b lo hi = if b then record { from = lo; to = hi } else record { from = hi; to = lo }

abbrev pub sign : Bool → ℤ
sign b = if b then pos 1 else negsuc 0

-- where its line is, from the lower end on
abbrev pub placed : Corner → Corner → ℤ → ℤ
placed lo hi y = lo.x *ℤ (hi.y -ℤ y) +ℤ hi.x *ℤ (y -ℤ lo.y)

pub way_of : (b : Bool) (lo hi : Corner) → lo.y <ℤ hi.y → way (turned b lo hi) ≡ sign b
way_of true lo hi h = way_up (hi.y -ℤ lo.y) (omega (arith, ints))
way_of false lo hi h = way_down (lo.y -ℤ hi.y) (omega (arith, ints))

pub rise_of : (b : Bool) (lo hi : Corner) → lo.y <ℤ hi.y → rise (turned b lo hi) ≡ hi.y -ℤ lo.y
rise_of true lo hi h = size_not_neg (hi.y -ℤ lo.y) (omega (arith, ints))
rise_of false lo hi h = size_not_pos (lo.y -ℤ hi.y) (omega (arith, ints)) ∙ back lo.y hi.y
  where
    back : (u v : ℤ) → neg_ℤ (u -ℤ v) ≡ v -ℤ u
    back u v = omega (arith, ints)

pub place_of : (b : Bool) (lo hi : Corner) (y : ℤ) → lo.y <ℤ hi.y → place (turned b lo hi) y ≡ placed lo hi y
place_of true lo hi y h =
    ap (λ w. w *ℤ (lo.x *ℤ (hi.y -ℤ y) +ℤ hi.x *ℤ (y -ℤ lo.y))) (way_of true lo hi h)
    ∙ same_by (lo.x ∷ lo.y ∷ hi.x ∷ hi.y ∷ y ∷ [])
    (mul (lit (pos 1)) (add (mul (var 0) (sub (var 3) (var 4))) (mul (var 2) (sub (var 4) (var 1)))))
    (add (mul (var 0) (sub (var 3) (var 4))) (mul (var 2) (sub (var 4) (var 1)))) refl
place_of false lo hi y h =
    ap (λ w. w *ℤ (hi.x *ℤ (lo.y -ℤ y) +ℤ lo.x *ℤ (y -ℤ hi.y))) (way_of false lo hi h)
    ∙ same_by (lo.x ∷ lo.y ∷ hi.x ∷ hi.y ∷ y ∷ [])
    (mul (lit (negsuc 0)) (add (mul (var 2) (sub (var 1) (var 4))) (mul (var 0) (sub (var 4) (var 3)))))
    (add (mul (var 0) (sub (var 3) (var 4))) (mul (var 2) (sub (var 4) (var 1)))) refl

pub min_of_edge : (b : Bool) (lo hi : Corner) → lo.y <ℤ hi.y → int_min (turned b lo hi).from.y (turned b lo hi).to.y ≡ lo.y
min_of_edge true lo hi h = let f = int_min_is lo.y hi.y in omega (arith, ints)
min_of_edge false lo hi h = let f = int_min_is hi.y lo.y in omega (arith, ints)

pub max_of_edge : (b : Bool) (lo hi : Corner) → lo.y <ℤ hi.y → int_max (turned b lo hi).from.y (turned b lo hi).to.y ≡ hi.y
max_of_edge true lo hi h = let f = int_max_is lo.y hi.y in omega (arith, ints)
max_of_edge false lo hi h = let f = int_max_is hi.y lo.y in omega (arith, ints)

-- ---- two edges
pub lowest_of : (a b : Bool) (p q r s : Corner) → p.y <ℤ q.y → r.y <ℤ s.y → lowest (turned a p q) (turned b r s) ≡ int_max p.y r.y
lowest_of a b p q r s h k =
    ap (λ x. int_max x (int_min (turned b r s).from.y (turned b r s).to.y)) (min_of_edge a p q h) ∙ ap (int_max p.y) (min_of_edge b r s k)

pub highest_of : (a b : Bool) (p q r s : Corner) → p.y <ℤ q.y → r.y <ℤ s.y → highest (turned a p q) (turned b r s) ≡ int_min q.y s.y
highest_of a b p q r s h k =
    ap (λ x. int_min x (int_max (turned b r s).from.y (turned b r s).to.y)) (max_of_edge a p q h) ∙ ap (int_min q.y) (max_of_edge b r s k)

-- an edge that is nowhere above the lower end, or nowhere below the higher one, has no more than one level in common with this one
pub none_above : (b : Bool) (lo hi : Corner) (f : Edge) → lo.y <ℤ hi.y → f.from.y ≤ℤ lo.y → f.to.y ≤ℤ lo.y
    → highest (turned b lo hi) f ≤ℤ lowest (turned b lo hi) f
none_above b lo hi f h p q =
    let l : lowest (turned b lo hi) f ≡ int_max lo.y (int_min f.from.y f.to.y) =
    ap (λ x. int_max x (int_min f.from.y f.to.y)) (min_of_edge b lo hi h) in
    let m : highest (turned b lo hi) f ≡ int_min hi.y (int_max f.from.y f.to.y) =
    ap (λ x. int_min x (int_max f.from.y f.to.y)) (max_of_edge b lo hi h) in
    rw (l, m) (ends lo.y hi.y f.from.y f.to.y p q)
  where
    ends : (l m y z : ℤ) → y ≤ℤ l → z ≤ℤ l → int_min m (int_max y z) ≤ℤ int_max l (int_min y z)
    ends l m y z p q =
        let i = int_max_is y z in let j = int_min_is m (int_max y z) in let k = int_max_is l (int_min y z) in omega (arith, ints)

pub none_below : (b : Bool) (lo hi : Corner) (f : Edge) → lo.y <ℤ hi.y → hi.y ≤ℤ f.from.y → hi.y ≤ℤ f.to.y
    → highest (turned b lo hi) f ≤ℤ lowest (turned b lo hi) f
none_below b lo hi f h p q =
    let l : lowest (turned b lo hi) f ≡ int_max lo.y (int_min f.from.y f.to.y) =
    ap (λ x. int_max x (int_min f.from.y f.to.y)) (min_of_edge b lo hi h) in
    let m : highest (turned b lo hi) f ≡ int_min hi.y (int_max f.from.y f.to.y) =
    ap (λ x. int_min x (int_max f.from.y f.to.y)) (max_of_edge b lo hi h) in
    rw (l, m) (ends lo.y hi.y f.from.y f.to.y p q)
  where
    ends : (l m y z : ℤ) → m ≤ℤ y → m ≤ℤ z → int_min m (int_max y z) ≤ℤ int_max l (int_min y z)
    ends l m y z p q =
        let i = int_min_is y z in let j = int_min_is m (int_max y z) in let k = int_max_is l (int_min y z) in omega (arith, ints)

-- the gap of two edges, by their ends
abbrev pub gap_by : Corner → Corner → Corner → Corner → ℤ → ℤ
gap_by p q r s y = placed p q y *ℤ (s.y -ℤ r.y) -ℤ placed r s y *ℤ (q.y -ℤ p.y)

pub gap_of : (a b : Bool) (p q r s : Corner) (y : ℤ) → p.y <ℤ q.y → r.y <ℤ s.y
    → gap (turned a p q) (turned b r s) y ≡ gap_by p q r s y
gap_of a b p q r s y h k =
    ap (λ x. x *ℤ rise (turned b r s) -ℤ place (turned b r s) y *ℤ rise (turned a p q)) (place_of a p q y h)
    ∙ ap (λ x. placed p q y *ℤ x -ℤ place (turned b r s) y *ℤ rise (turned a p q)) (rise_of b r s k)
    ∙ ap (λ x. placed p q y *ℤ (s.y -ℤ r.y) -ℤ x *ℤ rise (turned a p q)) (place_of b r s y k)
    ∙ ap (λ x. placed p q y *ℤ (s.y -ℤ r.y) -ℤ placed r s y *ℤ x) (rise_of a p q h)

pub rises_of : (a b : Bool) (p q r s : Corner) → p.y <ℤ q.y → r.y <ℤ s.y
    → rise (turned a p q) *ℤ rise (turned b r s) ≡ (q.y -ℤ p.y) *ℤ (s.y -ℤ r.y)
rises_of a b p q r s h k =
    ap (λ x. x *ℤ rise (turned b r s)) (rise_of a p q h) ∙ ap (λ x. (q.y -ℤ p.y) *ℤ x) (rise_of b r s k)

-- how fast two lines part
abbrev pub parting_by : Corner → Corner → Corner → Corner → ℤ
parting_by p q r s = (q.x -ℤ p.x) *ℤ (s.y -ℤ r.y) -ℤ (s.x -ℤ r.x) *ℤ (q.y -ℤ p.y)

-- from one level to another the gap grows by that
pub widened : (p q r s : Corner) (y z : ℤ) → gap_by p q r s z -ℤ gap_by p q r s y ≡ (z -ℤ y) *ℤ parting_by p q r s
widened p q r s y z =
    same_by (p.x ∷ p.y ∷ q.x ∷ q.y ∷ r.x ∷ r.y ∷ s.x ∷ s.y ∷ y ∷ z ∷ [])
    (sub
    (sub (mul (add (mul (var 0) (sub (var 3) (var 9))) (mul (var 2) (sub (var 9) (var 1)))) (sub (var 7) (var 5)))
    (mul (add (mul (var 4) (sub (var 7) (var 9))) (mul (var 6) (sub (var 9) (var 5)))) (sub (var 3) (var 1))))
    (sub (mul (add (mul (var 0) (sub (var 3) (var 8))) (mul (var 2) (sub (var 8) (var 1)))) (sub (var 7) (var 5)))
    (mul (add (mul (var 4) (sub (var 7) (var 8))) (mul (var 6) (sub (var 8) (var 5)))) (sub (var 3) (var 1)))))
    (mul (sub (var 9) (var 8))
    (sub (mul (sub (var 2) (var 0)) (sub (var 7) (var 5))) (mul (sub (var 6) (var 4)) (sub (var 3) (var 1)))))
    refl

-- places from a limit on have the same gap
pub gap_from : (p q r s : Corner) (y l : ℤ)
    → ((p.x +ℤ l) *ℤ (q.y -ℤ y) +ℤ (q.x +ℤ l) *ℤ (y -ℤ p.y)) *ℤ (s.y -ℤ r.y)
    -ℤ ((r.x +ℤ l) *ℤ (s.y -ℤ y) +ℤ (s.x +ℤ l) *ℤ (y -ℤ r.y)) *ℤ (q.y -ℤ p.y) ≡ gap_by p q r s y
gap_from p q r s y l =
    same_by (p.x ∷ p.y ∷ q.x ∷ q.y ∷ r.x ∷ r.y ∷ s.x ∷ s.y ∷ y ∷ l ∷ [])
    (sub
    (mul (add (mul (add (var 0) (var 9)) (sub (var 3) (var 8))) (mul (add (var 2) (var 9)) (sub (var 8) (var 1)))) (sub (var 7) (var 5)))
    (mul (add (mul (add (var 4) (var 9)) (sub (var 7) (var 8))) (mul (add (var 6) (var 9)) (sub (var 8) (var 5)))) (sub (var 3) (var 1))))
    (sub (mul (add (mul (var 0) (sub (var 3) (var 8))) (mul (var 2) (sub (var 8) (var 1)))) (sub (var 7) (var 5)))
    (mul (add (mul (var 4) (sub (var 7) (var 8))) (mul (var 6) (sub (var 8) (var 5)))) (sub (var 3) (var 1))))
    refl

-- ---- with natural numbers, as the code has them
pub rises_natural : (a b : Bool) (p q r s : Corner) (m n : ℕ) → p.y <ℤ q.y → r.y <ℤ s.y → pos m ≡ q.y -ℤ p.y → pos n ≡ s.y -ℤ r.y
    → pos (m * n) ≡ rise (turned a p q) *ℤ rise (turned b r s)
rises_natural a b p q r s m n h k e f =
    ap (λ x. x *ℤ pos n) e ∙ ap (λ x. (q.y -ℤ p.y) *ℤ x) f ∙ sym (rises_of a b p q r s h k)

pub gap_natural : (a b : Bool) (p q r s : Corner) (y l : ℤ) (m n i j : ℕ) → p.y <ℤ q.y → r.y <ℤ s.y
    → pos m ≡ (p.x +ℤ l) *ℤ (q.y -ℤ y) +ℤ (q.x +ℤ l) *ℤ (y -ℤ p.y)
    → pos n ≡ (r.x +ℤ l) *ℤ (s.y -ℤ y) +ℤ (s.x +ℤ l) *ℤ (y -ℤ r.y)
    → pos i ≡ q.y -ℤ p.y → pos j ≡ s.y -ℤ r.y
    → pos (m * j) -ℤ pos (n * i) ≡ gap (turned a p q) (turned b r s) y
gap_natural a b p q r s y l m n i j h k em en ei ej =
    ap (λ x. x *ℤ pos j -ℤ pos n *ℤ pos i) em
    ∙ ap (λ x. ((p.x +ℤ l) *ℤ (q.y -ℤ y) +ℤ (q.x +ℤ l) *ℤ (y -ℤ p.y)) *ℤ x -ℤ pos n *ℤ pos i) ej
    ∙ ap (λ x. ((p.x +ℤ l) *ℤ (q.y -ℤ y) +ℤ (q.x +ℤ l) *ℤ (y -ℤ p.y)) *ℤ (s.y -ℤ r.y) -ℤ x *ℤ pos i) en
    ∙ ap (λ x. ((p.x +ℤ l) *ℤ (q.y -ℤ y) +ℤ (q.x +ℤ l) *ℤ (y -ℤ p.y)) *ℤ (s.y -ℤ r.y)
    -ℤ ((r.x +ℤ l) *ℤ (s.y -ℤ y) +ℤ (s.x +ℤ l) *ℤ (y -ℤ r.y)) *ℤ x) ei
    ∙ gap_from p q r s y l
    ∙ sym (gap_of a b p q r s y h k)

-- a bound of a place, in natural numbers
pub place_bound : (l m i : ℕ) (z : ℤ) → pos m ≤ℤ (pos l *ℤ z) → pos i ≡ z → m ≤ l * i
place_bound l m i z h e =
    let P : ℤ → Type 0 = λ x. pos m ≤ℤ (pos l *ℤ x) in
    naturals m (l * i) (subst P (sym e) h)
  where
    naturals : (x y : ℕ) → pos x ≤ℤ pos y → x ≤ y
    naturals x y h = omega (arith, ints, h)

pub place_fits : (l m i j : ℕ) → m ≤ l * i → i ≤ l → j ≤ l → m * j ≤ l * l * l
place_fits l m i j h k p =
    mul-le m j (l * l) l (omega (arith, h, mul-le l i l l (omega arith) k)) p

pub place_within : (l m i j : ℕ) (z : ℤ) → m ≤ l * i → z ≡ pos (i * j) → pos (m * j) ≤ℤ (pos l *ℤ z)
place_within l m i j z h e =
    let P : ℤ → Type 0 = λ x. pos (m * j) ≤ℤ (pos l *ℤ x) in
    subst P (sym e) (naturals (m * j) (l * (i * j)) (omega (arith, mul-le m j (l * i) j h (omega arith))))
  where
    naturals : (x y : ℕ) → x ≤ y → pos x ≤ℤ pos y
    naturals x y h = omega (arith, ints, h)

pub other_within : (l n i j : ℕ) (z : ℤ) → n ≤ l * j → z ≡ pos (i * j) → pos (n * i) ≤ℤ (pos l *ℤ z)
other_within l n i j z h e =
    let P : ℤ → Type 0 = λ x. pos (n * i) ≤ℤ (pos l *ℤ x) in
    subst P (sym e) (naturals (n * i) (l * (i * j)) (omega (arith, mul-le n i (l * j) i h (omega arith))))
  where
    naturals : (x y : ℕ) → x ≤ y → pos x ≤ℤ pos y
    naturals x y h = omega (arith, ints, h)

pub product_some : (m n : ℕ) → 0 < m → 0 < n → 0 < m * n
product_some m n h k = omega (arith, mul-le 1 1 m n (omega arith) (omega arith))

-- from one level to another the gap of two edges grows by how fast they part
pub widened_edges : (a b : Bool) (p q r s : Corner) (y z : ℤ) → p.y <ℤ q.y → r.y <ℤ s.y
    → gap (turned a p q) (turned b r s) z -ℤ gap (turned a p q) (turned b r s) y ≡ (z -ℤ y) *ℤ parting_by p q r s
widened_edges a b p q r s y z h k =
    ap (λ x. x -ℤ gap (turned a p q) (turned b r s) y) (gap_of a b p q r s z h k)
    ∙ ap (λ x. gap_by p q r s z -ℤ x) (gap_of a b p q r s y h k)
    ∙ widened p q r s y z
