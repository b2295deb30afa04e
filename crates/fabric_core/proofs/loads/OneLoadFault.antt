-- A layer has one first fault at most, and rows and a refined city are refined in one way.
use Rattle.std.proofs.Common.{◌≡◌, ◌⊎◌, inl, inr, refl, sym, ◌∙◌, ap, subst, arith, ℕ, ◌<◌, ◌≤◌, ℤ, pos}
use Rattle.std.proofs.Common.{◌-ℤ◌, List, [], ◌∷◌, ◌++◌, length, Bool, true, false, IsTrue, ◌||◌, ◌&&◌}
use Rattle.std.specs.List.{AllByRecursion, AllZip}
use Rattle.std.proofs.lemmas.Int.{ints}
use Rattle.geo_exact.specs.declared.corner.Corner.{Corner}
use Rattle.geo_exact.specs.Order.{is_same, is_before}
use Rattle.geo_exact.specs.Rings.{begun_at_least}
use Rattle.geo_exact.specs.Layers.{NumberedRing, corner_count}
use Rattle.geo_exact.proofs.corners_and_turns.CornerOrder.{same_unless_before, is_same_itself}
use Rattle.geo_exact.specs.declared.limits.TheConstants.{LAYER_CORNERS, RING_CORNERS}
use Rattle.ring_core.specs.declared.ring.RingFault.{RingFault}
use Rattle.ring_core.specs.Simple.{IsSimpleRing}
use Rattle.ring_core.specs.Faults.{IsRingFault}
use Rattle.edge_chains.specs.Counts.{is_edge_before}
use Rattle.edge_chains.specs.Net.{net_count}
use Rattle.edge_chains.specs.Jump.{net_difference}
use Rattle.fabric_core.specs.declared.layer.LoadFault.{LoadFault}
use Rattle.fabric_core.specs.declared.layer.LoadFault.TheVariants.{TooMany, Ring, Gap, NoMemory}
use Rattle.fabric_core.specs.Tiling.{corner_lists}
use Rattle.fabric_core.specs.Rows.{corners_of_layer, IsRowOf, AreRefined}
use Rattle.fabric_core.specs.Limits.{AreWithinLimits, IsFirstTooMany}
use Rattle.fabric_core.specs.Faults.{AreSimple, IsFirstFaulty, IsFirstGap, IsFirstFault, IsLoadFault}
use Rattle.fabric_core.specs.own.Checks.{HaveEqualNets, HaveNoFault}
use Rattle.fabric_core.proofs.rows.Lists.{corner_count-append}
use Rattle.fabric_core.proofs.loads.OneFault.{one_ring_fault, simple_has_no_fault}
use Rattle.fabric_core.proofs.loads.OneNoding.{one_noding}

-- ---- refined in one way
same_row : (corners : List Corner) (r row other : NumberedRing) → IsRowOf corners r row → IsRowOf corners r other → row ≡ other
same_row corners r row other h k = both row other (h.same_number ∙ sym k.same_number)
    (h.is_begun ∙ ap begun_at_least (one_noding r.corners corners h.noded k.noded h.is_noded k.is_noded) ∙ sym k.is_begun)
  where
    both : (row other : NumberedRing) → row.number ≡ other.number → row.corners ≡ other.corners → row ≡ other
    both row other e f = λ i. record { number = e i; corners = f i }

same_rows : (corners : List Corner) (records rows others : List NumberedRing) → AllZip (IsRowOf corners) records rows
    → AllZip (IsRowOf corners) records others
    → rows ≡ others
same_rows corners [] [] [] h k = refl
same_rows corners [] [] (o ∷ others) h k = absurd k
same_rows corners [] (row ∷ rows) others h k = absurd h
same_rows corners (r ∷ records) [] others h k = absurd h
same_rows corners (r ∷ records) (row ∷ rows) [] h k = absurd k
same_rows corners (r ∷ records) (row ∷ rows) (o ∷ others) h k =
    ap (λ x. x ∷ rows) (same_row corners r row o h.0 k.0) ∙ ap (λ xs. o ∷ xs) (same_rows corners records rows others h.1 k.1)

pub one_refinement : (records : List NumberedRing) (city : List Corner) (rows others : List NumberedRing) (refined other : List Corner)
    → AreRefined records city rows refined → AreRefined records city others other → (rows ≡ others) × (refined ≡ other)
one_refinement records city rows others refined other h k = (
  same_rows (corners_of_layer records city) records rows others h.are_rows k.are_rows,
  one_noding city (corners_of_layer records city) refined other h.is_refined k.is_refined,
)

-- ---- two places in one list
-- the first is the second, or comes before it, or behind it
data TwoPlaces {X : Type 0} (before : List X) (x : X) (before' : List X) (x' : X) : Type 0 where
  same : x ≡ x' → TwoPlaces before x before' x'
  earlier : (rest : List X) → before' ≡ before ++ x ∷ rest → TwoPlaces before x before' x'
  later : (rest : List X) → before ≡ before' ++ x' ∷ rest → TwoPlaces before x before' x'

pub head_of : {X : Type 0} (x y : X) (xs ys : List X) → x ∷ xs ≡ y ∷ ys → x ≡ y
head_of x y xs ys e = cc

tail_of : {X : Type 0} (x y : X) (xs ys : List X) → x ∷ xs ≡ y ∷ ys → xs ≡ ys
tail_of x y xs ys e = cc

two_places : {X : Type 0} (before : List X) (x : X) (behind before' : List X) (x' : X) (behind' : List X)
    → before ++ x ∷ behind ≡ before' ++ x' ∷ behind'
    → TwoPlaces before x before' x'
two_places [] x behind [] x' behind' e = same (head_of x x' behind behind' e)
two_places [] x behind (y ∷ before') x' behind' e =
    earlier before' (ap (λ z. z ∷ before') (sym (head_of x y behind (before' ++ x' ∷ behind') e)))
two_places (y ∷ before) x behind [] x' behind' e =
    later before (ap (λ z. z ∷ before) (head_of y x' (before ++ x ∷ behind) behind' e))
two_places (y ∷ before) x behind (z ∷ before') x' behind' e =
    lifted (head_of y z (before ++ x ∷ behind) (before' ++ x' ∷ behind') e)
    (two_places before x behind before' x' behind' (tail_of y z (before ++ x ∷ behind) (before' ++ x' ∷ behind') e))
  where
    lifted : y ≡ z → TwoPlaces before x before' x' → TwoPlaces (y ∷ before) x (z ∷ before') x'
    lifted f (same g) = same g
    lifted f (earlier rest g) = earlier rest (ap (λ w. w ∷ before') (sym f) ∙ ap (λ ws. y ∷ ws) g)
    lifted f (later rest g) = later rest (ap (λ w. w ∷ before) f ∙ ap (λ ws. z ∷ ws) g)

-- ---- limits
AllByRecursion-at : {X : Type 0} (P : X → Type 0) (before : List X) (x : X) (behind : List X)
    → AllByRecursion P (before ++ x ∷ behind) → P x
AllByRecursion-at P [] x behind h = h.0
AllByRecursion-at P (y ∷ before) x behind h = AllByRecursion-at P before x behind h.1

-- rows within the limits have no first row that passes one
within_at : (rows before : List NumberedRing) (row : NumberedRing) (behind : List NumberedRing) → AreWithinLimits rows
    → rows ≡ before ++ row ∷ behind
    → (RING_CORNERS < length row.corners) ⊎ (LAYER_CORNERS < corner_count (before ++ row ∷ [])) → ⊥
within_at rows before row behind within is (inl long) =
    let short : length row.corners ≤ RING_CORNERS = AllByRecursion-at (λ r. length r.corners ≤ RING_CORNERS) before row behind
    (subst (AllByRecursion (λ r. length r.corners ≤ RING_CORNERS)) is within.each) in
    omega (arith, long, short)
within_at rows before row behind within is (inr many) =
    omega (
      arith,
      many,
      within.together,
      ap corner_count is,
      corner_count-append before (row ∷ behind),
      corner_count-append before (row ∷ []),
    )

pub within_has_none : (rows : List NumberedRing) (n : ℕ) → AreWithinLimits rows → IsFirstTooMany rows n → ⊥
within_has_none rows n within h = within_at rows h.before h.row h.behind within h.are_all h.passes

one_too_many : (rows : List NumberedRing) (m n : ℕ) → IsFirstTooMany rows m → IsFirstTooMany rows n → m ≡ n
one_too_many rows m n h k = cases (two_places h.before h.row h.behind k.before k.row k.behind (sym h.are_all ∙ k.are_all))
  where
    cases : TwoPlaces h.before h.row k.before k.row → m ≡ n
    cases (same e) = sym h.has_number ∙ ap (λ (r : NumberedRing). r.number) e ∙ k.has_number
    cases (earlier rest e) = absurd (within_at k.before h.before h.row rest k.within_before e h.passes)
    cases (later rest e) = absurd (within_at h.before k.before k.row rest h.within_before e k.passes)

-- ---- rings
simple_at : (rows before : List NumberedRing) (row : NumberedRing) (behind : List NumberedRing) (f : RingFault) → AreSimple rows
    → rows ≡ before ++ row ∷ behind → IsRingFault row.corners f → ⊥
simple_at rows before row behind f simple is h =
    simple_has_no_fault row.corners f (AllByRecursion-at (λ r. IsSimpleRing r.corners) before row behind
    (subst (AllByRecursion (λ r. IsSimpleRing r.corners)) is simple)) h

pub simple_has_none : (rows : List NumberedRing) (n : ℕ) (f : RingFault) → AreSimple rows → IsFirstFaulty rows n f → ⊥
simple_has_none rows n f simple h = simple_at rows h.before h.row h.behind f simple h.are_all h.is_fault

one_faulty : (rows : List NumberedRing) (m n : ℕ) (f g : RingFault) → IsFirstFaulty rows m f → IsFirstFaulty rows n g
    → Ring m f ≡ Ring n g
one_faulty rows m n f g h k = cases (two_places h.before h.row h.behind k.before k.row k.behind (sym h.are_all ∙ k.are_all))
  where
    cases : TwoPlaces h.before h.row k.before k.row → Ring m f ≡ Ring n g
    cases (same e) =
        ap (λ x. Ring x f) (sym h.has_number ∙ ap (λ (r : NumberedRing). r.number) e ∙ k.has_number)
        ∙ ap (λ x. Ring n x) (one_ring_fault k.row.corners f g
        (subst (λ (r : NumberedRing). IsRingFault r.corners f) e h.is_fault) k.is_fault)
    cases (earlier rest e) = absurd (simple_at k.before h.before h.row rest f k.simple_before e h.is_fault)
    cases (later rest e) = absurd (simple_at h.before k.before k.row rest g h.simple_before e k.is_fault)

-- ---- gaps
not_true : (t : Bool) → ¬ IsTrue t → t ≡ false
not_true true h = absurd (h refl)
not_true false h = refl

-- edges of which neither comes before the other are one
one_edge : (a b c d : Corner) → is_edge_before (a, b) (c, d) ≡ false → is_edge_before (c, d) (a, b) ≡ false → (a ≡ c)
    × (b ≡ d)
one_edge a b c d h k =
    let e : a ≡ c = same_unless_before a c (first_part (is_before a c) (is_same a c && is_before b d) h)
    (first_part (is_before c a) (is_same c a && is_before d b) k) in (
      e,
      same_unless_before b d
          (second_part (is_before a c) (is_same a c) (is_before b d) (subst (λ x. is_same a x ≡ true) e (is_same_itself a)) h)
          (second_part (is_before c a) (is_same c a) (is_before d b) (subst (λ x. is_same x a ≡ true) e (is_same_itself a)) k),
    )
  where
    first_part : (x y : Bool) → x || y ≡ false → x ≡ false
    first_part true y h = h
    first_part false y h = refl

    second_part : (x y z : Bool) → y ≡ true → x || (y && z) ≡ false → z ≡ false
    second_part true y z e h = cc
    second_part false true z e h = h
    second_part false false z e h = cc

pub one_gap : (rows : List NumberedRing) (refined : List Corner) (a b c d : Corner) (m n : ℤ)
    → IsFirstGap rows refined a b m → IsFirstGap rows refined c d n → Gap a b m ≡ Gap c d n
one_gap rows refined a b c d m n h k = same_gap (one_edge a b c d (not_true (is_edge_before (a, b) (c, d)) (k.is_least a b m h.is_gap))
    (not_true (is_edge_before (c, d) (a, b)) (h.is_least c d n k.is_gap)))
  where
    same_gap : (a ≡ c) × (b ≡ d) → Gap a b m ≡ Gap c d n
    same_gap e =
        ap (λ x. Gap x b m) e.0 ∙ ap (λ y. Gap c y m) e.1
        ∙ ap (λ z. Gap c d z) (sym h.is_gap.is_net ∙ ap (λ x. net_difference (corner_lists rows) (refined ∷ []) x b) e.0
        ∙ ap (λ y. net_difference (corner_lists rows) (refined ∷ []) c y) e.1 ∙ k.is_gap.is_net)

balanced_has_none : (rows : List NumberedRing) (refined : List Corner) (a b : Corner) (n : ℤ)
    → HaveEqualNets (corner_lists rows) refined
    → IsFirstGap rows refined a b n → ⊥
balanced_has_none rows refined a b n nets h =
    h.is_gap.is_unbalanced (nothing (net_count (corner_lists rows) a b) (net_count (refined ∷ []) a b) n (nets a b) h.is_gap.is_net)
  where
    nothing : (x y n : ℤ) → x ≡ y → x -ℤ y ≡ n → n ≡ pos 0
    nothing x y n e f = omega (arith, ints, e, f)

-- ---- the first fault
pub no_fault_has_none : (rows : List NumberedRing) (refined : List Corner) (fault : LoadFault)
    → HaveNoFault rows refined → IsFirstFault rows refined fault → ⊥
no_fault_has_none rows refined (TooMany n) none h = within_has_none rows n none.within h
no_fault_has_none rows refined (Ring n f) none h = simple_has_none rows n f none.simple h.1
no_fault_has_none rows refined (Gap a b n) none h = balanced_has_none rows refined a b n none.nets h.2
no_fault_has_none rows refined NoMemory none h = h

pub one_first_fault : (rows : List NumberedRing) (refined : List Corner) (f g : LoadFault)
    → IsFirstFault rows refined f → IsFirstFault rows refined g → f ≡ g
one_first_fault rows refined (TooMany m) (TooMany n) h k = ap TooMany (one_too_many rows m n h k)
one_first_fault rows refined (TooMany m) (Ring n g) h k = absurd (within_has_none rows m k.0 h)
one_first_fault rows refined (TooMany m) (Gap c d n) h k = absurd (within_has_none rows m k.0 h)
one_first_fault rows refined (TooMany m) NoMemory h k = absurd k
one_first_fault rows refined (Ring m f) (TooMany n) h k = absurd (within_has_none rows n h.0 k)
one_first_fault rows refined (Ring m f) (Ring n g) h k = one_faulty rows m n f g h.1 k.1
one_first_fault rows refined (Ring m f) (Gap c d n) h k = absurd (simple_has_none rows m f k.1 h.1)
one_first_fault rows refined (Ring m f) NoMemory h k = absurd k
one_first_fault rows refined (Gap a b m) (TooMany n) h k = absurd (within_has_none rows n h.0 k)
one_first_fault rows refined (Gap a b m) (Ring n g) h k = absurd (simple_has_none rows n g h.1 k.1)
one_first_fault rows refined (Gap a b m) (Gap c d n) h k = one_gap rows refined a b c d m n h.2 k.2
one_first_fault rows refined (Gap a b m) NoMemory h k = absurd k
one_first_fault rows refined NoMemory g h k = absurd h

-- the rows of the records in the city have no fault
pub record AreFaultless (records : List NumberedRing) (city : List Corner) : Type 0 where
  pub rows : List NumberedRing
  pub refined : List Corner
  pub are_refined : AreRefined records city rows refined
  pub no_fault : HaveNoFault rows refined

pub faultless : (records : List NumberedRing) (city : List Corner) (fault : LoadFault) → AreFaultless records city
    → IsLoadFault records city fault → ⊥
faultless records city fault h k =
    let e = one_refinement records city k.rows h.rows k.refined h.refined k.are_refined h.are_refined in
    no_fault_has_none h.rows h.refined fault h.no_fault
    (subst (λ rows. IsFirstFault rows h.refined fault) e.0 (subst (λ refined. IsFirstFault k.rows refined fault) e.1 k.is_first))

pub one_load_fault : (records : List NumberedRing) (city : List Corner) (f g : LoadFault) → IsLoadFault records city f
    → IsLoadFault records city g → f ≡ g
one_load_fault records city f g h k =
    let e = one_refinement records city k.rows h.rows k.refined h.refined k.are_refined h.are_refined in
    one_first_fault h.rows h.refined f g h.is_first
    (subst (λ rows. IsFirstFault rows h.refined g) e.0 (subst (λ refined. IsFirstFault k.rows refined g) e.1 k.is_first))
