-- What an edge is in the rows of a grid: whether it goes up or down through a row, and which columns are left of it there.
use Rattle.std.proofs.Common.{◌≡◌, ◌≢◌, ℕ, refl, subst, ◌∙◌, sym, ap, arith, List, [], ◌∷◌, inl, inr, Bool, true, false, if◌then◌else◌}
use Rattle.std.proofs.lemmas.Int.{ints, by_lt_z, int_max_is, int_min_is}
use Rattle.std.specs.Int.{int_min, int_max, int_signum}
use lib.IntN.{ℤ, pos, negsuc, ◌+ℤ◌, ◌-ℤ◌, ◌*ℤ◌, neg_ℤ}
use lib.Signed.{◌<ℤ◌, ◌≤ℤ◌, lt_z, le_z}
use Rattle.geo_exact.specs.declared.corner.Corner.{Corner}
use Rattle.geo_exact.specs.Limit.{IsWithin, limit}
use Rattle.geo_exact.specs.Rings.{Edge, path, edges, sum_over}
use Rattle.geo_exact.specs.Turn.{turn_at}
use Rattle.geo_exact.specs.Winding.{crossing, crossings}
use Rattle.geo_exact.proofs.numbers.Polynomials.{var, lit, add, mul, neg, sub, same_by}
use Rattle.geo_exact.proofs.numbers.Signs.{mul_pos, mul_neg, mul_le, mul_lt, mul_neg_pos, pos_of_mul}
use Rattle.geo_exact.proofs.numbers.Extremes.{min_of, max_of}
use Rattle.geo_exact.proofs.numbers.Orders.{le_of_lt}
use Rattle.std.specs.List.{AllByRecursion}
use Rattle.geo_exact.proofs.rings.Crossings.{crossed}
use Rattle.common_areas.specs.Between.{size, way, rise}
use Rattle.common_areas.specs.Grid.{Grid, middle, IsShare}
use Rattle.common_areas.proofs.Numbers.{size_not_neg, size_not_pos, way_up, way_down}

-- 1 where k comes before y, and else 0
pub before : ℤ → ℤ → ℤ
before k y = if lt_z k y then pos 1 else pos 0

pub before_yes : (k y : ℤ) → k <ℤ y → before k y ≡ pos 1
unfolding before
before_yes k y h = let e : true ≡ lt_z k y = omega (arith, ints) in sym (ap (λ b. if b then pos 1 else pos 0) e)

pub before_no : (k y : ℤ) → y ≤ℤ k → before k y ≡ pos 0
unfolding before
before_no k y h = let e : false ≡ lt_z k y = omega (arith, ints) in sym (ap (λ b. if b then pos 1 else pos 0) e)

-- 1 where the edge goes up through row k, -1 where it goes down, and else 0
pub weight : ℤ → Edge → ℤ → ℤ
weight H e k = before k (e.to.y *ℤ H) -ℤ before k (e.from.y *ℤ H)

unfoldable pub lower : Edge → ℤ
lower e = int_min e.from.y e.to.y

unfoldable pub upper : Edge → ℤ
upper e = int_max e.from.y e.to.y

pub weight_below : (H : ℤ) (e : Edge) (k : ℤ) → pos 0 <ℤ H → k <ℤ (lower e *ℤ H) → weight H e k ≡ pos 0
unfolding weight lower
weight_below H e k h p =
    let m : (int_min e.from.y e.to.y ≤ℤ e.from.y) × (int_min e.from.y e.to.y ≤ℤ e.to.y) =
    min_of {z = int_min e.from.y e.to.y} {u = e.from.y} {v = e.to.y} refl in
    omega (
      arith,
      ints,
      before_yes k (e.to.y *ℤ H) (omega (arith, ints, p, mul_le (int_min e.from.y e.to.y) e.to.y H (omega (arith, ints)) m.1)),
      before_yes k (e.from.y *ℤ H) (omega (arith, ints, p, mul_le (int_min e.from.y e.to.y) e.from.y H (omega (arith, ints)) m.0)),
    )

pub weight_above : (H : ℤ) (e : Edge) (k : ℤ) → pos 0 <ℤ H → (upper e *ℤ H) ≤ℤ k → weight H e k ≡ pos 0
unfolding weight upper
weight_above H e k h p =
    let m : (e.from.y ≤ℤ int_max e.from.y e.to.y) × (e.to.y ≤ℤ int_max e.from.y e.to.y) =
    max_of {z = int_max e.from.y e.to.y} {u = e.from.y} {v = e.to.y} refl in
    omega (
      arith,
      ints,
      before_no k (e.to.y *ℤ H) (omega (arith, ints, p, mul_le e.to.y (int_max e.from.y e.to.y) H (omega (arith, ints)) m.1)),
      before_no k (e.from.y *ℤ H) (omega (arith, ints, p, mul_le e.from.y (int_max e.from.y e.to.y) H (omega (arith, ints)) m.0)),
    )

-- in the rows between its ends an edge has its way's weight
pub weight_within : (H : ℤ) (e : Edge) (k : ℤ) → pos 0 <ℤ H → (lower e *ℤ H) ≤ℤ k → k <ℤ (upper e *ℤ H)
    → weight H e k ≡ way e
unfolding weight lower upper
weight_within H e k h p q =
    let m = int_min_is e.from.y e.to.y in
    let n = int_max_is e.from.y e.to.y in
    by_lt_z e.from.y e.to.y
    (λ u. let low : int_min e.from.y e.to.y ≡ e.from.y = omega (arith, ints) in
    let high : int_max e.from.y e.to.y ≡ e.to.y = omega (arith, ints) in
    omega (
      arith,
      ints,
      way_up (e.to.y -ℤ e.from.y) (omega (arith, ints)),
      before_yes k (e.to.y *ℤ H) (subst (λ z. k <ℤ (z *ℤ H)) high q),
      before_no k (e.from.y *ℤ H) (subst (λ z. (z *ℤ H) ≤ℤ k) low p),
    ))
    (λ u. by_lt_z e.to.y e.from.y
    (λ v. let low : int_min e.from.y e.to.y ≡ e.to.y = omega (arith, ints) in
    let high : int_max e.from.y e.to.y ≡ e.from.y = omega (arith, ints) in
    omega (
      arith,
      ints,
      way_down (e.to.y -ℤ e.from.y) (omega (arith, ints)),
      before_yes k (e.from.y *ℤ H) (subst (λ z. k <ℤ (z *ℤ H)) high q),
      before_no k (e.to.y *ℤ H) (subst (λ z. (z *ℤ H) ≤ℤ k) low p),
    ))
    (λ v. let same : int_min e.from.y e.to.y ≡ int_max e.from.y e.to.y = omega (arith, ints) in
    absurd (omega (arith, ints, q, subst (λ z. (z *ℤ H) ≤ℤ k) same p))))

-- ---- a ring goes up through a row as often as down
along_path : (H k : ℤ) (from : Corner) (between : List Corner) (to : Corner)
    → sum_over (λ e. weight H e k) (path from between to) ≡ before k (to.y *ℤ H) -ℤ before k (from.y *ℤ H)
unfolding weight
along_path H k from [] to = omega (arith, ints)
along_path H k from (next ∷ rest) to = omega (arith, ints, along_path H k next rest to)

pub balanced : (H k : ℤ) (ring : List Corner) → sum_over (λ e. weight H e k) (edges ring) ≡ pos 0
balanced H k [] = refl
balanced H k (first ∷ rest) = along_path H k first rest first ∙ none (before k (first.y *ℤ H))
  where
    none : (z : ℤ) → z -ℤ z ≡ pos 0
    none z = omega (arith, ints)

-- ---- the columns left of an edge
-- twice what the edge's line is at the middle of row k, times its rise and the rows
abbrev pub reach : ℤ → Edge → ℤ → ℤ
reach H e k =
    way e *ℤ (pos 2 *ℤ H *ℤ (e.from.x *ℤ e.to.y -ℤ e.to.x *ℤ e.from.y) +ℤ (pos 2 *ℤ k +ℤ pos 1) *ℤ (e.to.x -ℤ e.from.x))

-- how many columns of row k, from 0 on, are left of the edge; q is its share of the columns
unfoldable pub columns_left : ℤ → ℤ → Edge → ℤ → ℤ
columns_left H q e k = q *ℤ reach H e k

pub size_by_way : (z : ℤ) → size z ≡ int_signum z *ℤ z
size_by_way z = by_lt_z (pos 0) z
    (λ h. size_not_neg z (omega (arith, ints)) ∙ sym (ap (λ x. x *ℤ z) (way_up z h) ∙ omega (arith, ints)))
    (λ h. by_lt_z z (pos 0)
    (λ k. size_not_pos z (omega (arith, ints)) ∙ sym (ap (λ x. x *ℤ z) (way_down z k)
    ∙ same_by (z ∷ []) (mul (lit (negsuc 0)) (var 0)) (neg (var 0)) refl))
    (λ k. let e : z ≡ pos 0 = omega (arith, ints) in
    ap size e ∙ sym (ap (λ x. int_signum z *ℤ x) e ∙ omega (arith, ints))))

-- the turn from an edge to a cell's middle, by the columns left of the edge
turn_by : (ax ay bx by j k H W d w q r : ℤ) → d ≡ pos 2 *ℤ W *ℤ H → W ≡ pos 2 *ℤ H *ℤ r *ℤ q → r ≡ w *ℤ (by -ℤ ay)
    → (bx -ℤ ax) *ℤ ((pos 2 *ℤ k +ℤ pos 1) *ℤ W -ℤ ay *ℤ d) -ℤ (by -ℤ ay) *ℤ ((pos 2 *ℤ j +ℤ pos 1) *ℤ H -ℤ ax *ℤ d)
    ≡ H *ℤ ((by -ℤ ay) *ℤ (pos 2 *ℤ (q *ℤ (w *ℤ (pos 2 *ℤ H *ℤ (ax *ℤ by -ℤ bx *ℤ ay) +ℤ (pos 2 *ℤ k +ℤ pos 1) *ℤ (bx -ℤ ax))))
    -ℤ (pos 2 *ℤ j +ℤ pos 1)))
turn_by ax ay bx by j k H W d w q r ed ew er =
    let odd_k = add (mul (lit (pos 2)) (var 5)) (lit (pos 1)) in
    let odd_j = add (mul (lit (pos 2)) (var 4)) (lit (pos 1)) in
    let dx = sub (var 2) (var 0) in
    let dy = sub (var 3) (var 1) in
    let line = add (mul (mul (lit (pos 2)) (var 6)) (sub (mul (var 0) (var 3)) (mul (var 2) (var 1)))) (mul odd_k dx) in
    let line_is = pos 2 *ℤ H *ℤ (ax *ℤ by -ℤ bx *ℤ ay) +ℤ (pos 2 *ℤ k +ℤ pos 1) *ℤ (bx -ℤ ax) in
    ap (λ x. (bx -ℤ ax) *ℤ ((pos 2 *ℤ k +ℤ pos 1) *ℤ W -ℤ ay *ℤ x) -ℤ (by -ℤ ay) *ℤ ((pos 2 *ℤ j +ℤ pos 1) *ℤ H -ℤ ax *ℤ x)) ed
    ∙ same_by (ax ∷ ay ∷ bx ∷ by ∷ j ∷ k ∷ H ∷ W ∷ [])
    (sub (mul dx (sub (mul odd_k (var 7)) (mul (var 1) (mul (mul (lit (pos 2)) (var 7)) (var 6)))))
    (mul dy (sub (mul odd_j (var 6)) (mul (var 0) (mul (mul (lit (pos 2)) (var 7)) (var 6))))))
    (sub (mul (var 7) line) (mul dy (mul odd_j (var 6))))
    refl
    ∙ ap (λ x. x *ℤ line_is -ℤ (by -ℤ ay) *ℤ ((pos 2 *ℤ j +ℤ pos 1) *ℤ H)) (ew ∙ ap (λ x. pos 2 *ℤ H *ℤ x *ℤ q) er)
    ∙ same_by (ax ∷ ay ∷ bx ∷ by ∷ j ∷ k ∷ H ∷ w ∷ q ∷ [])
    (sub (mul (mul (mul (mul (lit (pos 2)) (var 6)) (mul (var 7) dy)) (var 8)) line) (mul dy (mul odd_j (var 6))))
    (mul (var 6) (mul dy (sub (mul (lit (pos 2)) (mul (var 8) (mul (var 7) line))) odd_j)))
    refl

-- the height of a corner and of a cell's middle
not_above : (W H d y k : ℤ) → pos 0 <ℤ W → d ≡ pos 2 *ℤ W *ℤ H → (y *ℤ H) ≤ℤ k → (y *ℤ d) ≤ℤ ((pos 2 *ℤ k +ℤ pos 1) *ℤ W)
not_above W H d y k Wp ed h =
    let e : y *ℤ d ≡ pos 2 *ℤ (y *ℤ H) *ℤ W =
    ap (λ x. y *ℤ x) ed ∙ same_by (W ∷ H ∷ y ∷ []) (mul (var 2) (mul (mul (lit (pos 2)) (var 0)) (var 1)))
    (mul (mul (lit (pos 2)) (mul (var 2) (var 1))) (var 0)) refl in
    subst (λ z. z ≤ℤ ((pos 2 *ℤ k +ℤ pos 1) *ℤ W)) (sym e)
    (mul_le (pos 2 *ℤ (y *ℤ H)) (pos 2 *ℤ k +ℤ pos 1) W (omega (arith, ints)) (omega (arith, ints, h)))

above : (W H d y k : ℤ) → pos 0 <ℤ W → d ≡ pos 2 *ℤ W *ℤ H → k <ℤ (y *ℤ H) → ((pos 2 *ℤ k +ℤ pos 1) *ℤ W) <ℤ (y *ℤ d)
above W H d y k Wp ed h =
    let e : y *ℤ d ≡ pos 2 *ℤ (y *ℤ H) *ℤ W =
    ap (λ x. y *ℤ x) ed ∙ same_by (W ∷ H ∷ y ∷ []) (mul (var 2) (mul (mul (lit (pos 2)) (var 0)) (var 1)))
    (mul (mul (lit (pos 2)) (mul (var 2) (var 1))) (var 0)) refl in
    subst (λ z. ((pos 2 *ℤ k +ℤ pos 1) *ℤ W) <ℤ z) (sym e)
    (mul_lt (pos 2 *ℤ k +ℤ pos 1) (pos 2 *ℤ (y *ℤ H)) W Wp (omega (arith, ints, h)))

pub columns_positive : (grid : Grid) → pos 0 <ℤ grid.columns
columns_positive grid = pos_of_mul (pos 2 *ℤ grid.rows) grid.columns (omega (arith, ints, grid.rows_positive))
    (subst (λ z. pos 0 <ℤ z) (grid.d_is ∙ same_by (grid.columns ∷ grid.rows ∷ []) (mul (mul (lit (pos 2)) (var 0)) (var 1))
    (mul (mul (lit (pos 2)) (var 1)) (var 0)) refl) grid.d_positive)

-- ---- crossings at the middle of a cell
positive_test : (t : ℤ) → pos 0 <ℤ t → true ≡ lt_z (pos 0) t
positive_test t h = omega (arith, ints)

not_positive_test : (t : ℤ) → t <ℤ pos 0 → false ≡ lt_z (pos 0) t
not_positive_test t h = omega (arith, ints)

negative_test : (t : ℤ) → t <ℤ pos 0 → true ≡ lt_z t (pos 0)
negative_test t h = omega (arith, ints)

not_negative_test : (t : ℤ) → pos 0 <ℤ t → false ≡ lt_z t (pos 0)
not_negative_test t h = omega (arith, ints)

-- a product of a positive number, y and z has the sign of y z
sign_up : (H y z t : ℤ) → pos 0 <ℤ H → t ≡ H *ℤ (y *ℤ z) → pos 0 <ℤ (y *ℤ z) → pos 0 <ℤ t
sign_up H y z t Hp e h = subst (λ x. pos 0 <ℤ x) (sym e) (mul_pos H (y *ℤ z) Hp h)

sign_down : (H y z t : ℤ) → pos 0 <ℤ H → t ≡ H *ℤ (y *ℤ z) → (y *ℤ z) <ℤ pos 0 → t <ℤ pos 0
sign_down H y z t Hp e h = subst (λ x. x <ℤ pos 0) (sym e) (mul_neg H (y *ℤ z) Hp h)

up_sign : (H y X j t : ℤ) → pos 0 <ℤ H → pos 0 <ℤ y → t ≡ H *ℤ (y *ℤ (pos 2 *ℤ X -ℤ (pos 2 *ℤ j +ℤ pos 1)))
    → (if lt_z (pos 0) t then pos 1 else pos 0) ≡ before j X
up_sign H y X j t Hp yp e = by_lt_z j X
    (λ p. sym (ap (λ b. if b then pos 1 else pos 0) (positive_test t (sign_up H y (pos 2 *ℤ X -ℤ (pos 2 *ℤ j +ℤ pos 1)) t Hp e
    (mul_pos y (pos 2 *ℤ X -ℤ (pos 2 *ℤ j +ℤ pos 1)) yp (omega (arith, ints))))))
    ∙ sym (before_yes j X p))
    (λ p. sym (ap (λ b. if b then pos 1 else pos 0) (not_positive_test t (sign_down H y (pos 2 *ℤ X -ℤ (pos 2 *ℤ j +ℤ pos 1)) t Hp e
    (mul_neg y (pos 2 *ℤ X -ℤ (pos 2 *ℤ j +ℤ pos 1)) yp (omega (arith, ints))))))
    ∙ sym (before_no j X p))

down_sign : (H y X j t : ℤ) → pos 0 <ℤ H → y <ℤ pos 0 → t ≡ H *ℤ (y *ℤ (pos 2 *ℤ X -ℤ (pos 2 *ℤ j +ℤ pos 1)))
    → (if lt_z t (pos 0) then negsuc 0 else pos 0) ≡ neg_ℤ (before j X)
down_sign H y X j t Hp yn e = by_lt_z j X
    (λ p. sym (ap (λ b. if b then negsuc 0 else pos 0) (negative_test t (sign_down H y (pos 2 *ℤ X -ℤ (pos 2 *ℤ j +ℤ pos 1)) t Hp e
    (mul_neg_pos y (pos 2 *ℤ X -ℤ (pos 2 *ℤ j +ℤ pos 1)) yn (omega (arith, ints))))))
    ∙ sym (ap neg_ℤ (before_yes j X p)))
    (λ p. sym (ap (λ b. if b then negsuc 0 else pos 0) (not_negative_test t (sign_up H y (pos 2 *ℤ X -ℤ (pos 2 *ℤ j +ℤ pos 1)) t Hp e
    (two_down y (pos 2 *ℤ X -ℤ (pos 2 *ℤ j +ℤ pos 1)) yn (omega (arith, ints))))))
    ∙ sym (ap neg_ℤ (before_no j X p)))
  where
    two_down : (u v : ℤ) → u <ℤ pos 0 → v <ℤ pos 0 → pos 0 <ℤ (u *ℤ v)
    two_down u v h k =
        let e : pos 0 <ℤ (neg_ℤ u *ℤ neg_ℤ v) = mul_pos (neg_ℤ u) (neg_ℤ v) (omega (arith, ints)) (omega (arith, ints)) in
        let f : neg_ℤ u *ℤ neg_ℤ v ≡ u *ℤ v = same_by (u ∷ v ∷ []) (mul (neg (var 0)) (neg (var 1))) (mul (var 0) (var 1)) refl in
        subst (λ x. pos 0 <ℤ x) f e

cross_by : (la lb : Bool) (u v x y t z : ℤ) → la ≡ le_z u v → lb ≡ le_z x y → crossed la lb t ≡ z
    → crossed (le_z u v) (le_z x y) t ≡ z
cross_by la lb u v x y t z e f h =
    sym (ap (λ b. crossed b (le_z x y) t) e) ∙ sym (ap (λ b. crossed la b t) f) ∙ h

yes : (u v : ℤ) → u ≤ℤ v → true ≡ le_z u v
yes u v h = omega (arith, ints)

no : (u v : ℤ) → v <ℤ u → false ≡ le_z u v
no u v h = omega (arith, ints)

-- the turn from an edge that is not level to the middle of a cell
pub turn_is : (grid : Grid) (e : Edge) (q j k : ℤ) → grid.columns ≡ pos 2 *ℤ grid.rows *ℤ rise e *ℤ q
    → turn_at e.from e.to (middle grid j k)
    ≡ grid.rows *ℤ ((e.to.y -ℤ e.from.y) *ℤ (pos 2 *ℤ columns_left grid.rows q e k -ℤ (pos 2 *ℤ j +ℤ pos 1)))
unfolding columns_left
turn_is grid e q j k h =
    turn_by e.from.x e.from.y e.to.x e.to.y j k grid.rows grid.columns grid.d (way e) q (rise e) grid.d_is h
    (size_by_way (e.to.y -ℤ e.from.y))

-- an edge through a row is not level
pub share_of : (grid : Grid) (e : Edge) (q : ℤ) → IsShare grid e q → e.from.y ≢ e.to.y
    → grid.columns ≡ pos 2 *ℤ grid.rows *ℤ rise e *ℤ q
share_of grid e q h n = elim h.divides [
  | inl z ↦ absurd (n (level e.from.y e.to.y z))
  | inr d ↦ d
]
  where
    level : (u v : ℤ) → size (v -ℤ u) ≡ pos 0 → u ≡ v
    level u v z = by_lt_z u v
        (λ p. absurd (omega (arith, ints, z, size_not_neg (v -ℤ u) (omega (arith, ints)))))
        (λ p. by_lt_z v u
        (λ r. absurd (omega (arith, ints, z, size_not_pos (v -ℤ u) (omega (arith, ints)))))
        (λ r. omega (arith, ints)))

-- where k lies between two multiples of H
between_multiples : (u v H k : ℤ) → pos 0 <ℤ H → (u *ℤ H) ≤ℤ k → k <ℤ (v *ℤ H) → u <ℤ v
between_multiples u v H k Hp h p = by_lt_z u v (λ q. q)
    (λ q. absurd (omega (arith, ints, h, p, mul_le v u H (omega (arith, ints)) q)))

-- how an edge crosses, seen from the middle of a cell: its weight in the row, if the cell is left of it
pub crossing_is : (grid : Grid) (e : Edge) (q j k : ℤ) → IsShare grid e q
    → crossing (middle grid j k) e.from e.to ≡ weight grid.rows e k *ℤ before j (columns_left grid.rows q e k)
unfolding weight
crossing_is grid e q j k h =
    let H = grid.rows in
    let W = grid.columns in
    let X = columns_left grid.rows q e k in
    let t = turn_at e.from e.to (middle grid j k) in
    let height = (pos 2 *ℤ k +ℤ pos 1) *ℤ grid.columns in
    let Wp : pos 0 <ℤ grid.columns = columns_positive grid in
    by_lt_z k (e.from.y *ℤ grid.rows)
    (λ a. by_lt_z k (e.to.y *ℤ grid.rows)
    (λ b. cross_by false false (e.from.y *ℤ grid.d) height (e.to.y *ℤ grid.d) height t _
    (no (e.from.y *ℤ grid.d) height (above W H grid.d e.from.y k Wp grid.d_is a))
    (no (e.to.y *ℤ grid.d) height (above W H grid.d e.to.y k Wp grid.d_is b))
    (weighted (before k (e.to.y *ℤ H)) (before k (e.from.y *ℤ H)) (before j X) (pos 1) (pos 1) (pos 0)
    (before_yes k (e.to.y *ℤ H) b) (before_yes k (e.from.y *ℤ H) a) (omega (arith, ints))))
    (λ b. let down : e.to.y <ℤ e.from.y = between_multiples e.to.y e.from.y H k grid.rows_positive b a in
    cross_by false true (e.from.y *ℤ grid.d) height (e.to.y *ℤ grid.d) height t _
    (no (e.from.y *ℤ grid.d) height (above W H grid.d e.from.y k Wp grid.d_is a))
    (yes (e.to.y *ℤ grid.d) height (not_above W H grid.d e.to.y k Wp grid.d_is b))
    (down_sign H (e.to.y -ℤ e.from.y) X j t grid.rows_positive (omega (arith, ints, down))
    (turn_is grid e q j k (share_of grid e q h (λ z. absurd (omega (arith, ints, z, down)))))
    ∙ weighted (before k (e.to.y *ℤ H)) (before k (e.from.y *ℤ H)) (before j X) (pos 0) (pos 1) (neg_ℤ (before j X))
    (before_no k (e.to.y *ℤ H) b) (before_yes k (e.from.y *ℤ H) a) (minus_one (before j X)))))
    (λ a. by_lt_z k (e.to.y *ℤ grid.rows)
    (λ b. let up : e.from.y <ℤ e.to.y = between_multiples e.from.y e.to.y H k grid.rows_positive a b in
    cross_by true false (e.from.y *ℤ grid.d) height (e.to.y *ℤ grid.d) height t _
    (yes (e.from.y *ℤ grid.d) height (not_above W H grid.d e.from.y k Wp grid.d_is a))
    (no (e.to.y *ℤ grid.d) height (above W H grid.d e.to.y k Wp grid.d_is b))
    (up_sign H (e.to.y -ℤ e.from.y) X j t grid.rows_positive (omega (arith, ints, up))
    (turn_is grid e q j k (share_of grid e q h (λ z. absurd (omega (arith, ints, z, up)))))
    ∙ weighted (before k (e.to.y *ℤ H)) (before k (e.from.y *ℤ H)) (before j X) (pos 1) (pos 0) (before j X)
    (before_yes k (e.to.y *ℤ H) b) (before_no k (e.from.y *ℤ H) a) (omega (arith, ints))))
    (λ b. cross_by true true (e.from.y *ℤ grid.d) height (e.to.y *ℤ grid.d) height t _
    (yes (e.from.y *ℤ grid.d) height (not_above W H grid.d e.from.y k Wp grid.d_is a))
    (yes (e.to.y *ℤ grid.d) height (not_above W H grid.d e.to.y k Wp grid.d_is b))
    (weighted (before k (e.to.y *ℤ H)) (before k (e.from.y *ℤ H)) (before j X) (pos 0) (pos 0) (pos 0)
    (before_no k (e.to.y *ℤ H) b) (before_no k (e.from.y *ℤ H) a) (omega (arith, ints)))))
  where
    weighted : (u v x a b z : ℤ) → u ≡ a → v ≡ b → z ≡ (a -ℤ b) *ℤ x → z ≡ (u -ℤ v) *ℤ x
    weighted u v x a b z f g e = e ∙ sym (ap (λ w. (w -ℤ v) *ℤ x) f ∙ ap (λ w. (a -ℤ w) *ℤ x) g)

    minus_one : (x : ℤ) → neg_ℤ x ≡ (pos 0 -ℤ pos 1) *ℤ x
    minus_one x = same_by (x ∷ []) (neg (var 0)) (mul (sub (lit (pos 0)) (lit (pos 1))) (var 0)) refl

-- the winding number at the middle of a cell
pub crossings_are : (grid : Grid) (share : Edge → ℤ) (j k : ℤ) (es : List Edge) → AllByRecursion (λ e. IsShare grid e (share e)) es
    → crossings (middle grid j k) es
    ≡ sum_over (λ e. weight grid.rows e k *ℤ before j (columns_left grid.rows (share e) e k)) es
crossings_are grid share j k [] h = refl
crossings_are grid share j k (e ∷ es) h =
    ap (λ x. x +ℤ crossings (middle grid j k) es) (crossing_is grid e (share e) j k h.0)
    ∙ ap (λ x. weight grid.rows e k *ℤ before j (columns_left grid.rows (share e) e k) +ℤ x) (crossings_are grid share j k es h.1)

-- ---- how far the columns left of an edge reach
bound_by : (L a b A B q S : ℤ) → neg_ℤ L ≤ℤ a → a ≤ℤ L → neg_ℤ L ≤ℤ b → b ≤ℤ L → pos 0 ≤ℤ A → pos 0 ≤ℤ B → pos 0 ≤ℤ q
    → A +ℤ B ≡ S → (neg_ℤ (L *ℤ (S *ℤ q)) ≤ℤ (q *ℤ (a *ℤ A +ℤ b *ℤ B))) × ((q *ℤ (a *ℤ A +ℤ b *ℤ B)) ≤ℤ (L *ℤ (S *ℤ q)))
bound_by L a b A B q S la ha lb hb Ap Bp qp e =
    let high : ((a *ℤ A +ℤ b *ℤ B) *ℤ q) ≤ℤ ((L *ℤ A +ℤ L *ℤ B) *ℤ q) =
    mul_le (a *ℤ A +ℤ b *ℤ B) (L *ℤ A +ℤ L *ℤ B) q qp (omega (arith, ints, mul_le a L A Ap ha, mul_le b L B Bp hb)) in
    let low : ((neg_ℤ L *ℤ A +ℤ neg_ℤ L *ℤ B) *ℤ q) ≤ℤ ((a *ℤ A +ℤ b *ℤ B) *ℤ q) =
    mul_le (neg_ℤ L *ℤ A +ℤ neg_ℤ L *ℤ B) (a *ℤ A +ℤ b *ℤ B) q qp
    (omega (arith, ints, mul_le (neg_ℤ L) a A Ap la, mul_le (neg_ℤ L) b B Bp lb)) in
    let middle_is : (a *ℤ A +ℤ b *ℤ B) *ℤ q ≡ q *ℤ (a *ℤ A +ℤ b *ℤ B) =
    same_by (a ∷ b ∷ A ∷ B ∷ q ∷ []) (mul (add (mul (var 0) (var 2)) (mul (var 1) (var 3))) (var 4))
    (mul (var 4) (add (mul (var 0) (var 2)) (mul (var 1) (var 3)))) refl in
    let high_is : (L *ℤ A +ℤ L *ℤ B) *ℤ q ≡ L *ℤ (S *ℤ q) =
    same_by (L ∷ A ∷ B ∷ q ∷ []) (mul (add (mul (var 0) (var 1)) (mul (var 0) (var 2))) (var 3))
    (mul (var 0) (mul (add (var 1) (var 2)) (var 3))) refl
    ∙ ap (λ x. L *ℤ (x *ℤ q)) e in
    let low_is : (neg_ℤ L *ℤ A +ℤ neg_ℤ L *ℤ B) *ℤ q ≡ neg_ℤ (L *ℤ (S *ℤ q)) =
    same_by (L ∷ A ∷ B ∷ q ∷ []) (mul (add (mul (neg (var 0)) (var 1)) (mul (neg (var 0)) (var 2))) (var 3))
    (neg (mul (var 0) (mul (add (var 1) (var 2)) (var 3)))) refl
    ∙ ap (λ x. neg_ℤ (L *ℤ (x *ℤ q))) e in (
      subst (λ x. x ≤ℤ (q *ℤ (a *ℤ A +ℤ b *ℤ B))) low_is
          (subst (λ x. ((neg_ℤ L *ℤ A +ℤ neg_ℤ L *ℤ B) *ℤ q) ≤ℤ x) middle_is low),
      subst (λ x. (q *ℤ (a *ℤ A +ℤ b *ℤ B)) ≤ℤ x) high_is
          (subst (λ x. x ≤ℤ ((L *ℤ A +ℤ L *ℤ B) *ℤ q)) middle_is high),
    )

-- the reach of an edge as a mean of its ends
reach_up : (w H ax ay bx by k : ℤ) → w ≡ pos 1
    → w *ℤ (pos 2 *ℤ H *ℤ (ax *ℤ by -ℤ bx *ℤ ay) +ℤ (pos 2 *ℤ k +ℤ pos 1) *ℤ (bx -ℤ ax))
    ≡ ax *ℤ (pos 2 *ℤ (by *ℤ H) -ℤ (pos 2 *ℤ k +ℤ pos 1)) +ℤ bx *ℤ (pos 2 *ℤ k +ℤ pos 1 -ℤ pos 2 *ℤ (ay *ℤ H))
reach_up w H ax ay bx by k e =
    let odd = add (mul (lit (pos 2)) (var 5)) (lit (pos 1)) in
    ap (λ x. x *ℤ (pos 2 *ℤ H *ℤ (ax *ℤ by -ℤ bx *ℤ ay) +ℤ (pos 2 *ℤ k +ℤ pos 1) *ℤ (bx -ℤ ax))) e
    ∙ same_by (H ∷ ax ∷ ay ∷ bx ∷ by ∷ k ∷ [])
    (mul (lit (pos 1)) (add (mul (mul (lit (pos 2)) (var 0)) (sub (mul (var 1) (var 4)) (mul (var 3) (var 2))))
    (mul odd (sub (var 3) (var 1)))))
    (add (mul (var 1) (sub (mul (lit (pos 2)) (mul (var 4) (var 0))) odd))
    (mul (var 3) (sub odd (mul (lit (pos 2)) (mul (var 2) (var 0))))))
    refl

reach_down : (w H ax ay bx by k : ℤ) → w ≡ negsuc 0
    → w *ℤ (pos 2 *ℤ H *ℤ (ax *ℤ by -ℤ bx *ℤ ay) +ℤ (pos 2 *ℤ k +ℤ pos 1) *ℤ (bx -ℤ ax))
    ≡ ax *ℤ (pos 2 *ℤ k +ℤ pos 1 -ℤ pos 2 *ℤ (by *ℤ H)) +ℤ bx *ℤ (pos 2 *ℤ (ay *ℤ H) -ℤ (pos 2 *ℤ k +ℤ pos 1))
reach_down w H ax ay bx by k e =
    let odd = add (mul (lit (pos 2)) (var 5)) (lit (pos 1)) in
    ap (λ x. x *ℤ (pos 2 *ℤ H *ℤ (ax *ℤ by -ℤ bx *ℤ ay) +ℤ (pos 2 *ℤ k +ℤ pos 1) *ℤ (bx -ℤ ax))) e
    ∙ same_by (H ∷ ax ∷ ay ∷ bx ∷ by ∷ k ∷ [])
    (mul (lit (negsuc 0)) (add (mul (mul (lit (pos 2)) (var 0)) (sub (mul (var 1) (var 4)) (mul (var 3) (var 2))))
    (mul odd (sub (var 3) (var 1)))))
    (add (mul (var 1) (sub odd (mul (lit (pos 2)) (mul (var 4) (var 0)))))
    (mul (var 3) (sub (mul (lit (pos 2)) (mul (var 2) (var 0))) odd)))
    refl

-- the columns left of an edge, in the rows between its ends, are within the limit
pub record IsReached (m : ℕ) (X : ℤ) : Type 0 where
  pub low : neg_ℤ (pos m) ≤ℤ X
  pub high : X ≤ℤ pos m

record IsReached' (L a : ℤ) : Type 0 where
  low : neg_ℤ L ≤ℤ a
  high : a ≤ℤ L

corner_reached : (z : ℤ) → IsWithin limit z → IsReached' (pos limit) z
corner_reached z h = record { low = h.low; high = h.high }

reached_by : (L a b A B q S W X z : ℤ) (m : ℕ) → IsReached' L a → IsReached' L b → pos 0 ≤ℤ A → pos 0 ≤ℤ B → pos 0 ≤ℤ q
    → A +ℤ B ≡ S → W ≡ S *ℤ q → z ≡ a *ℤ A +ℤ b *ℤ B → X ≡ q *ℤ z → (L *ℤ W) ≤ℤ pos m → IsReached m X
reached_by L a b A B q S W X z m ha hb Ap Bp qp e ew ez ex h =
    let bound = bound_by L a b A B q S ha.low ha.high hb.low hb.high Ap Bp qp e in
    let is : q *ℤ (a *ℤ A +ℤ b *ℤ B) ≡ X = ap (λ x. q *ℤ x) (sym ez) ∙ sym ex in
    let wide : (L *ℤ (S *ℤ q)) ≤ℤ pos m = subst (λ x. (L *ℤ x) ≤ℤ pos m) ew h in
    record { low = omega (arith, ints, bound.0, is, wide); high = omega (arith, ints, bound.1, is, wide) }

share_not_negative : (H r q W : ℤ) → pos 0 <ℤ H → pos 0 <ℤ r → pos 0 <ℤ W → W ≡ pos 2 *ℤ H *ℤ r *ℤ q → pos 0 ≤ℤ q
share_not_negative H r q W Hp rp Wp e =
    le_of_lt (pos 0) q (pos_of_mul (pos 2 *ℤ H *ℤ r) q
    (mul_pos (pos 2 *ℤ H) r (omega (arith, ints, Hp)) rp) (subst (λ x. pos 0 <ℤ x) e Wp))

pub reached : (grid : Grid) (e : Edge) (q k : ℤ) (m : ℕ) → IsShare grid e q → (lower e *ℤ grid.rows) ≤ℤ k → k <ℤ (upper e *ℤ grid.rows)
    → (pos limit *ℤ grid.columns) ≤ℤ pos m → IsReached m (columns_left grid.rows q e k)
unfolding lower upper columns_left
reached grid e q k m h p r wide =
    let H = grid.rows in
    let low_is = int_min_is e.from.y e.to.y in
    let high_is = int_max_is e.from.y e.to.y in
    by_lt_z e.from.y e.to.y
    (λ u. let low : int_min e.from.y e.to.y ≡ e.from.y = omega (arith, ints) in
    let high : int_max e.from.y e.to.y ≡ e.to.y = omega (arith, ints) in
    let p' : (e.from.y *ℤ grid.rows) ≤ℤ k = subst (λ z. (z *ℤ grid.rows) ≤ℤ k) low p in
    let r' : k <ℤ (e.to.y *ℤ grid.rows) = subst (λ z. k <ℤ (z *ℤ grid.rows)) high r in
    let rise_is : rise e ≡ e.to.y -ℤ e.from.y = size_not_neg (e.to.y -ℤ e.from.y) (omega (arith, ints)) in
    let share = share_of grid e q h (λ z. absurd (omega (arith, ints, z, u))) in
    let not_neg : pos 0 ≤ℤ q = share_not_negative H (rise e) q grid.columns grid.rows_positive
    (omega (arith, ints, rise_is, u)) (columns_positive grid) share in
    reached_by (pos limit) e.from.x e.to.x
    (pos 2 *ℤ (e.to.y *ℤ H) -ℤ (pos 2 *ℤ k +ℤ pos 1)) (pos 2 *ℤ k +ℤ pos 1 -ℤ pos 2 *ℤ (e.from.y *ℤ H))
    q (pos 2 *ℤ H *ℤ rise e) grid.columns (q *ℤ reach H e k) (reach H e k) m
    (corner_reached e.from.x e.from.x_in_range) (corner_reached e.to.x e.to.x_in_range)
    (omega (arith, ints, r')) (omega (arith, ints, p')) not_neg
    (sums_up e.from.y e.to.y H k ∙ ap (λ x. pos 2 *ℤ H *ℤ x) (sym rise_is))
    share
    (reach_up (way e) H e.from.x e.from.y e.to.x e.to.y k (way_up (e.to.y -ℤ e.from.y) (omega (arith, ints))))
    refl wide)
    (λ u'. by_lt_z e.to.y e.from.y
    (λ u. let low : int_min e.from.y e.to.y ≡ e.to.y = omega (arith, ints) in
    let high : int_max e.from.y e.to.y ≡ e.from.y = omega (arith, ints) in
    let p' : (e.to.y *ℤ grid.rows) ≤ℤ k = subst (λ z. (z *ℤ grid.rows) ≤ℤ k) low p in
    let r' : k <ℤ (e.from.y *ℤ grid.rows) = subst (λ z. k <ℤ (z *ℤ grid.rows)) high r in
    let rise_is : rise e ≡ neg_ℤ (e.to.y -ℤ e.from.y) = size_not_pos (e.to.y -ℤ e.from.y) (omega (arith, ints)) in
    let share = share_of grid e q h (λ z. absurd (omega (arith, ints, z, u))) in
    let not_neg : pos 0 ≤ℤ q = share_not_negative H (rise e) q grid.columns grid.rows_positive
    (omega (arith, ints, rise_is, u)) (columns_positive grid) share in
    reached_by (pos limit) e.from.x e.to.x
    (pos 2 *ℤ k +ℤ pos 1 -ℤ pos 2 *ℤ (e.to.y *ℤ H)) (pos 2 *ℤ (e.from.y *ℤ H) -ℤ (pos 2 *ℤ k +ℤ pos 1))
    q (pos 2 *ℤ H *ℤ rise e) grid.columns (q *ℤ reach H e k) (reach H e k) m
    (corner_reached e.from.x e.from.x_in_range) (corner_reached e.to.x e.to.x_in_range)
    (omega (arith, ints, p')) (omega (arith, ints, r')) not_neg
    (sums_down e.from.y e.to.y H k ∙ ap (λ x. pos 2 *ℤ H *ℤ x) (sym rise_is))
    share
    (reach_down (way e) H e.from.x e.from.y e.to.x e.to.y k (way_down (e.to.y -ℤ e.from.y) (omega (arith, ints))))
    refl wide)
    (λ u. let same : int_min e.from.y e.to.y ≡ int_max e.from.y e.to.y = omega (arith, ints) in
    absurd (omega (arith, ints, r, subst (λ z. (z *ℤ grid.rows) ≤ℤ k) same p))))
  where
    sums_up : (ay by H k : ℤ)
        → pos 2 *ℤ (by *ℤ H) -ℤ (pos 2 *ℤ k +ℤ pos 1) +ℤ (pos 2 *ℤ k +ℤ pos 1 -ℤ pos 2 *ℤ (ay *ℤ H)) ≡ pos 2 *ℤ H *ℤ (by -ℤ ay)
    sums_up ay by H k = same_by (ay ∷ by ∷ H ∷ k ∷ [])
        (add (sub (mul (lit (pos 2)) (mul (var 1) (var 2))) (add (mul (lit (pos 2)) (var 3)) (lit (pos 1))))
        (sub (add (mul (lit (pos 2)) (var 3)) (lit (pos 1))) (mul (lit (pos 2)) (mul (var 0) (var 2)))))
        (mul (mul (lit (pos 2)) (var 2)) (sub (var 1) (var 0))) refl

    sums_down : (ay by H k : ℤ)
        → pos 2 *ℤ k +ℤ pos 1 -ℤ pos 2 *ℤ (by *ℤ H) +ℤ (pos 2 *ℤ (ay *ℤ H) -ℤ (pos 2 *ℤ k +ℤ pos 1)) ≡ pos 2 *ℤ H *ℤ neg_ℤ (by -ℤ ay)
    sums_down ay by H k = same_by (ay ∷ by ∷ H ∷ k ∷ [])
        (add (sub (add (mul (lit (pos 2)) (var 3)) (lit (pos 1))) (mul (lit (pos 2)) (mul (var 1) (var 2))))
        (sub (mul (lit (pos 2)) (mul (var 0) (var 2))) (add (mul (lit (pos 2)) (var 3)) (lit (pos 1)))))
        (mul (mul (lit (pos 2)) (var 2)) (neg (sub (var 1) (var 0)))) refl
