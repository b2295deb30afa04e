-- Digits and signs in texts.
use Rattle.std.proofs.Common.{◌≡◌, ◌≢◌, inl, inr, ℕ, zero, suc, ◌<◌, ◌≤◌, List, [], ◌∷◌, ◌++◌, length}
use Rattle.std.proofs.Common.{get_or, take, ◌/◌, ◌^◌, refl, ap, sym, ◌∙◌, subst, arith, append_assoc, codes}
use Rattle.std.specs.Prelude.{ℤ, pos, neg_ℤ, ◌*ℤ◌, ◌*◌}
use Rattle.std.specs.List.{AllByRecursion}
use Rattle.std.specs.Char.{digit_value}
use Rattle.std.specs.Str.Parse.{AllDigits, digits_value}
use Rattle.std.proofs.lemmas.Int.{ints}
use Rattle.std.proofs.Math.Nat.{pow-le-pow_right}
use Rattle.std.proofs.lemmas.List.{length-take-le}
use Rattle.std.proofs.lemmas.Int.Digits.{digits_value-lt}
use Rattle.geo_exact.specs.Limit.{IsWithin, limit}
use Rattle.geo_exact.specs.declared.corner.Corner.{Corner}
use Rattle.geo_exact.proofs.corners_and_turns.SameCorner.{corner_same}
use Rattle.line_files.specs.Grids.{step}
use Rattle.line_files.specs.TextNumbers.{IsNumber, IsSigned, IsCoordinate, IsCornerText}
use Rattle.line_files.specs.declared.grids.Grid.{Grid}
use Rattle.line_files.specs.declared.grids.Grid.TheVariants.{Millimetres, Centimetres}
use Rattle.line_files.specs.PointLines.{IsPointLine, IsNumberedPointLine}
use Rattle.line_files.specs.own.Splitting.{IsSplitAt}
use Rattle.line_files.proofs.Said.{IsGrammar}

-- each byte of digits is one
pub digit_at : (radix : ℕ) (text : List ℕ) (i : ℕ) → i < length text → AllDigits radix text
    → digit_value (get_or text i 0) < radix
digit_at radix [] i l h = absurd (omega arith)
digit_at radix (b ∷ bs) zero l h = h.0
digit_at radix (b ∷ bs) (suc i) l h = digit_at radix bs i (omega arith) h.1

-- ---- so many steps of a grid
pub far_ahead : (grid : Grid) (n : ℕ) (z : ℤ) → z ≡ pos (step grid * n) → z ≡ pos (step grid) *ℤ pos n
far_ahead Millimetres n z e = omega (arith, ints, e)
far_ahead Centimetres n z e = omega (arith, ints, e)

pub far_back : (grid : Grid) (n : ℕ) (d z : ℤ) → d ≡ pos (step grid * n) → z ≡ neg_ℤ d → z ≡ pos (step grid) *ℤ neg_ℤ (pos n)
far_back Millimetres n d z e f = omega (arith, ints, e, f)
far_back Centimetres n d z e f = omega (arith, ints, e, f)

pub within_ahead : (grid : Grid) (n : ℕ) (z : ℤ) → z ≡ pos (step grid) *ℤ pos n → IsWithin limit z
    → IsWithin limit (pos (step grid * n))
within_ahead Millimetres n z e h = record { low = omega (arith, ints); high = omega (arith, ints, e, h.high) }
within_ahead Centimetres n z e h = record { low = omega (arith, ints); high = omega (arith, ints, e, h.high) }

within_back : (grid : Grid) (n : ℕ) (z : ℤ) → z ≡ pos (step grid) *ℤ neg_ℤ (pos n) → IsWithin limit z
    → IsWithin limit (pos (step grid * n))
within_back Millimetres n z e h = record { low = omega (arith, ints); high = omega (arith, ints, e, h.low) }
within_back Centimetres n z e h = record { low = omega (arith, ints); high = omega (arith, ints, e, h.low) }

-- the limit is tested on the number of steps
pub few_steps : (grid : Grid) (n : ℕ) → n ≤ 100000000000 / step grid → step grid * n ≤ 100000000000
few_steps Millimetres n h = omega (arith, h)
few_steps Centimetres n h = omega (arith, h)

pub many_steps : (grid : Grid) (n : ℕ) → 100000000000 / step grid < n → ¬ IsWithin limit (pos (step grid * n))
many_steps Millimetres n h k = absurd (omega (arith, ints, h, k.high))
many_steps Centimetres n h k = absurd (omega (arith, ints, h, k.high))

-- ---- a text is one number
pub one_number : (text : List ℕ) (m n : ℕ) → IsNumber text m → IsNumber text n → m ≡ n
one_number text m n h k = h.is_theirs ∙ sym k.is_theirs

-- a minus is no digit
pub minus_is_no_digit : (bs : List ℕ) (n : ℕ) → ¬ IsNumber (45 ∷ bs) n
minus_is_no_digit bs n h = absurd (omega (arith, h.are_digits.1.0))

minus_or_none : (text digits : List ℕ) (n : ℕ) → text ≡ codes "-" ++ digits → ¬ IsNumber text n
minus_or_none text digits n e h = minus_is_no_digit digits n (subst (λ t. IsNumber t n) e h)

-- what stands behind a minus
same_behind : (text xs ys : List ℕ) → text ≡ codes "-" ++ xs → text ≡ codes "-" ++ ys → xs ≡ ys
same_behind text xs ys h k = let e : 45 ∷ xs ≡ 45 ∷ ys = sym h ∙ k in cc

one_signed : (text : List ℕ) (y z : ℤ) → IsSigned text y → IsSigned text z → y ≡ z
one_signed text y z h k = elim h [
  | inl p ↦ elim k [
    | inl q ↦ p.1 ∙ ap pos (one_number text p.0 q.0 p.2 q.2) ∙ sym q.1
    | inr q ↦ absurd (minus_or_none text q.0 p.0 q.2 p.2)
  ]
  | inr p ↦ elim k [
    | inl q ↦ absurd (minus_or_none text p.0 q.0 p.2 q.2)
    | inr q ↦ p.3
        ∙ ap (λ n. neg_ℤ (pos n)) (one_number p.0 p.1 q.1 p.4
        (subst (λ t. IsNumber t q.1) (same_behind text q.0 p.0 q.2 p.2) q.4))
        ∙ sym q.3
  ]
]

-- ---- which texts are no coordinates
far_or_none : (grid : Grid) (text digits : List ℕ) → text ≡ 45 ∷ digits
    → ((n : ℕ) → IsWithin limit (pos (step grid * n)) → ¬ IsNumber digits n)
    → (z : ℤ) → IsWithin limit z → ¬ IsCoordinate grid text z
far_or_none grid text digits e none z within h = elim h.is_number [
  | inl p ↦ absurd (minus_is_no_digit digits p.0 (subst (λ t. IsNumber t p.0) e p.2))
  | inr p ↦ none p.1 (within_back grid p.1 z (h.is_theirs ∙ ap (λ m. pos (step grid) *ℤ m) p.3) within)
      (subst (λ t. IsNumber t p.1) (same_behind text p.0 digits p.2 e) p.4)
]

pub no_minus : (grid : Grid) (text : List ℕ) (first : ℕ) (digits : List ℕ) → text ≡ first ∷ digits → first ≡ 45
    → ((n : ℕ) → IsWithin limit (pos (step grid * n)) → ¬ IsNumber digits n) → (z : ℤ) → IsWithin limit z
    → ¬ IsCoordinate grid text z
no_minus grid text first digits e minus none z within h =
    far_or_none grid text digits (e ∙ ap (λ b. b ∷ digits) minus) none z within h

pub no_number : (grid : Grid) (text : List ℕ) (first : ℕ) (digits : List ℕ) → text ≡ first ∷ digits → first ≢ 45
    → ((n : ℕ) → IsWithin limit (pos (step grid * n)) → ¬ IsNumber text n) → (z : ℤ) → IsWithin limit z
    → ¬ IsCoordinate grid text z
no_number grid text first digits e other none z within h = elim h.is_number [
  | inl p ↦ none p.0 (within_ahead grid p.0 z (h.is_theirs ∙ ap (λ m. pos (step grid) *ℤ m) p.1) within) p.2
  | inr p ↦ absurd (other (let same : first ∷ digits ≡ 45 ∷ p.0 = sym e ∙ p.2 in cc))
]

-- which texts are
pub ahead_of_0 : (grid : Grid) (text : List ℕ) (n : ℕ) (z : ℤ) → IsNumber text n → z ≡ pos (step grid * n) → IsCoordinate grid text z
ahead_of_0 grid text n z h e = record { number = pos n; is_number = inl (n, refl, h); is_theirs = far_ahead grid n z e }

pub behind_0 : (grid : Grid) (text : List ℕ) (first : ℕ) (digits : List ℕ) (n : ℕ) (d z : ℤ) → text ≡ first ∷ digits → first ≡ 45
    → IsNumber digits n → d ≡ pos (step grid * n) → z ≡ neg_ℤ d → IsCoordinate grid text z
behind_0 grid text first digits n d z e minus h f g = record {
  number = neg_ℤ (pos n);
  is_number = inr (digits, n, e ∙ ap (λ b. b ∷ digits) minus, refl, h);
  is_theirs = far_back grid n d z f g;
}

-- ---- so few digits are a small number
pub few_digits : (text : List ℕ) (i value : ℕ) → i < length text → length text ≤ 19 → AllDigits 10 (take i text)
    → value ≡ digits_value 10 (take i text)
    → value < 1000000000000000000
few_digits text i value l few h e =
    let long : length (take i text) ≤ 18 = omega (arith, length-take-le i text (omega arith)) in
    let power : 10 ^ length (take i text) ≤ 10 ^ 18 = pow-le-pow_right (omega arith) long in
    omega (arith, power, digits_value-lt 10 (take i text) h)

-- ---- no space is in a number
digit_no_space : (b : ℕ) → digit_value b < 10 → b ≢ 32
digit_no_space b h e = absurd (let k : digit_value 32 < 10 = subst (λ d. digit_value d < 10) e h in omega arith)

digits_lack_space : (text : List ℕ) → AllDigits 10 text → AllByRecursion (λ b. b ≢ 32) text
digits_lack_space [] h = tt
digits_lack_space (b ∷ bs) h = (digit_no_space b h.0, digits_lack_space bs h.1)

lacks_space : (grid : Grid) (text : List ℕ) (z : ℤ) → IsCoordinate grid text z → AllByRecursion (λ b. b ≢ 32) text
lacks_space grid text z h = elim h.is_number [
  | inl p ↦ digits_lack_space text p.2.are_digits.1
  | inr p ↦ subst (AllByRecursion (λ b. b ≢ 32)) (sym p.2)
      (λ e. absurd (omega (arith, e)), digits_lack_space p.0 p.4.are_digits.1)
]

-- ---- a text is split in one way at the first such byte
pub same_split : (c : ℕ) (xs ys others rest : List ℕ) → AllByRecursion (λ b. b ≢ c) xs → AllByRecursion (λ b. b ≢ c) others
    → xs ++ c ∷ ys ≡ others ++ c ∷ rest → (xs ≡ others) × (ys ≡ rest)
same_split c [] ys [] rest h k e = (refl, cc)
same_split c [] ys (b ∷ bs) rest h k e = absurd (k.0 (cc))
same_split c (a ∷ more) ys [] rest h k e = absurd (h.0 (cc))
same_split c (a ∷ more) ys (b ∷ bs) rest h k e =
    let same : a ≡ b = cc in
    let tails : more ++ c ∷ ys ≡ bs ++ c ∷ rest = cc in
    let r = same_split c more ys bs rest h.1 k.1 tails in
    (cc (r.0, same), r.1)

lacks_none : (c : ℕ) (xs ys : List ℕ) → ¬ AllByRecursion (λ b. b ≢ c) (xs ++ c ∷ ys)
lacks_none c [] ys h = h.0 refl
lacks_none c (x ∷ xs) ys h = lacks_none c xs ys h.1

-- ---- lines of points
spaced : {grid : Grid} (line : List ℕ) (corner : Corner) (h : IsPointLine grid line corner) → line ≡ h.x ++ 32 ∷ h.y
spaced line corner h = h.is_line ∙ append_assoc h.x (codes " ") h.y

corner_text_split : (grid : Grid) (line front back : List ℕ) (corner : Corner) → line ≡ front ++ 32 ∷ back
    → AllByRecursion (λ b. b ≢ 32) front
    → IsPointLine grid line corner → IsCornerText grid front back corner
corner_text_split grid line front back corner whole lacks h =
    let r = same_split 32 h.x h.y front back (lacks_space grid h.x corner.x h.is_corner.is_x) lacks
    (sym (spaced line corner h) ∙ whole) in
    subst (λ x. IsCornerText grid x back corner) r.0 (subst (λ y. IsCornerText grid h.x y corner) r.1 h.is_corner)

pub no_space_no_point : {grid : Grid} (line : List ℕ) → AllByRecursion (λ b. b ≢ 32) line → (corner : Corner)
    → ¬ IsPointLine grid line corner
no_space_no_point line lacks corner h = lacks_none 32 h.x h.y (subst (AllByRecursion (λ b. b ≢ 32)) (spaced line corner h) lacks)

pub point_by_split : (grid : Grid) (line front back : List ℕ) (corner : Corner) → IsSplitAt 32 line front back
    → AllByRecursion (λ b. b ≢ 32) front
    → IsPointLine grid line corner → IsCornerText grid front back corner
point_by_split grid line front back corner h lacks k = corner_text_split grid line front back corner h.whole lacks k

one_coordinate : (grid : Grid) (text : List ℕ) (y z : ℤ) → IsCoordinate grid text y → IsCoordinate grid text z → y ≡ z
one_coordinate grid text y z h k =
    h.is_theirs ∙ ap (λ m. pos (step grid) *ℤ m) (one_signed text h.number k.number h.is_number k.is_number) ∙ sym k.is_theirs

pub one_corner : {grid : Grid} (x y : List ℕ) (a b : Corner) → IsCornerText grid x y a → IsCornerText grid x y b → a ≡ b
one_corner {grid} x y a b h k =
    corner_same a b (one_coordinate grid x a.x b.x h.is_x k.is_x) (one_coordinate grid y a.y b.y h.is_y k.is_y)

-- a line of points says one thing
pub points_are_grammar : (grid : Grid) → IsGrammar (IsNumberedPointLine grid)
points_are_grammar grid = record {
  unique = λ number line a b h k.
      one_corner h.x h.y a b h.is_corner
      (corner_text_split grid line h.x h.y b (spaced line a h) (lacks_space grid h.x a.x h.is_corner.is_x) k);
}
