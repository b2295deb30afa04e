-- The lines of one parcel.
use Rattle.std.proofs.Common.{◌≡◌, ◌∙◌, ⊎_elim, refl, sym, ap, subst, arith, ℕ, ◌+◌, ◌*◌, ◌<◌, ◌≤◌, Bool, true, cond, map, length, get_or}
use Rattle.std.proofs.Common.{List, [], ◌∷◌, ◌++◌}
use Rattle.std.specs.List.{AllByRecursion, AllZip, Contains}
use Rattle.std.specs.List.Sorted.{IsStrictlyIncreasing}
use Rattle.std.specs.Prelude.{nat_eq}
use Rattle.std.proofs.lemmas.Slice.Zip.{AllZip-long}
use Rattle.std.proofs.Math.Nat.{mul-le-mul_left}
use Rattle.std.proofs.lemmas.Bool.{eq-eqb}
use Rattle.std.proofs.lemmas.Int.{ints, by_lt_z}
use lib.IntN.{ℤ, pos, ◌+ℤ◌, ◌-ℤ◌, ◌*ℤ◌}
use lib.Signed.{◌<ℤ◌, ◌≤ℤ◌}
use Rattle.geo_exact.specs.declared.corner.Corner.{Corner}
use Rattle.geo_exact.specs.Area.{area2}
use Rattle.geo_exact.specs.Layers.{NumberedRing, corner_count}
use Rattle.geo_exact.proofs.numbers.Polynomials.{var, lit, add, mul, sub, same_by}
use Rattle.geo_exact.proofs.numbers.Orders.{le_of_lt}
use Rattle.geo_exact.proofs.numbers.Signs.{mul_pos, mul_le}
use Rattle.edge_chains.proofs.nodings.NodedEdges.{none_in_nil, Contains-here, Contains-cases, all_from_contains}
use Rattle.ring_core.specs.Simple.{IsSimpleRing}
use Rattle.fabric_core.specs.Faults.{AreSimple}
use Rattle.fabric_core.specs.Rows.{numbers}
use Rattle.fabric_core.specs.Tiling.{IsTiling, corner_lists}
use Rattle.fabric_core.specs.own.Balanced.{Ascend}
use Rattle.fabric_core.proofs.tilings.OneParcel.{of_each}
use Rattle.fabric_core.proofs.rows.RowLists.{AllByRecursion-map, Contains-mapped, ascending, same_row}
use Rattle.common_areas.specs.Fractions.{Fraction, whole, plus, AreEqual}
use Rattle.common_areas.specs.Common.{common_area2}
use Rattle.common_areas.specs.Sums.{common_with}
use Rattle.common_areas.proofs.Scaled.{cancel}
use Rattle.common_areas.proofs.Counted.{denominator_positive, not_negative, positive_meets, added_to_whole}
use Rattle.area_bounds.specs.declared.parts.TheConstants.{PARTS}
use Rattle.zone_areas.proofs.Tiled.{made_up}
use Rattle.zone_tables.specs.Overlap.{IsPairBefore, AreInPairOrder}
use Rattle.area_shares.specs.declared.share.Share.{Share}
use Rattle.area_shares.specs.declared.shared.AreaLine.{AreaLine}
use Rattle.area_shares.specs.Shares.{IsWithinOne}
use Rattle.area_shares.specs.AreaTable.{pair_of, corners_of_zone, corners_of_zones, HasFewCorners, AreNear}
use Rattle.area_shares.specs.own.Rounded.{Term, sum_of_terms, lost_in_all, AreRounded, line_of, pair_with, AddsShares, AddsTwo}
use Rattle.area_shares.specs.own.Parcels.{AreParcelPairs, IsShareOf, AreSharesOf, AddsParcel}
use Rattle.area_shares.proofs.Aligned.{Rise, Own, own_zones}
use Rattle.area_shares.proofs.Given.{cancelled}
use Rattle.area_shares.proofs.Once.{winds_once, is_covered}
use Rattle.area_shares.proofs.Zips.{zip_images}

-- ---- a parcel's fractions
abbrev pub term_of : List Corner → NumberedRing → Term
term_of r zone = record { f = common_area2 r zone.corners; lost = length r * length zone.corners }

abbrev pub terms_of : List Corner → List NumberedRing → List Term
terms_of r own = map (term_of r) own

sum_is : (r : List Corner) (own : List NumberedRing) → sum_of_terms (terms_of r own) ≡ common_with r (corner_lists own)
sum_is r [] = refl
sum_is r (zone ∷ own) = ap (plus (common_area2 r zone.corners)) (sum_is r own)

lost_is : (r : List Corner) (own : List NumberedRing) → lost_in_all (terms_of r own) ≡ length r * corner_count own
lost_is r [] = omega arith
lost_is r (zone ∷ own) = omega (arith, lost_is r own)

sum_positive : (r : List Corner) (zones : List NumberedRing) → pos 0 <ℤ (common_with r (corner_lists zones)).d
sum_positive r [] = omega (arith, ints)
sum_positive r (zone ∷ zones) =
    mul_pos (common_area2 r zone.corners).d (common_with r (corner_lists zones)).d (denominator_positive r zone.corners)
    (sum_positive r zones)

-- what is equal to a fraction that is a whole number
through : (a b : Fraction) (total : ℤ) → pos 0 <ℤ a.d → AreEqual a b → AreEqual a (whole total) → AreEqual b (whole total)
through a b total h e f = cancel a.d (b.n *ℤ pos 1) (total *ℤ b.d) h (
    same_by (a.d ∷ b.n ∷ []) (mul (var 0) (mul (var 1) (lit (pos 1)))) (mul (var 1) (var 0)) refl
    ∙ sym e
    ∙ same_by (a.n ∷ b.d ∷ []) (mul (var 0) (var 1)) (mul (mul (var 0) (lit (pos 1))) (var 1)) refl
    ∙ ap (λ z. z *ℤ b.d) f
    ∙ same_by (total ∷ a.d ∷ b.d ∷ []) (mul (mul (var 0) (var 1)) (var 2)) (mul (var 1) (mul (var 0) (var 2))) refl)

-- ---- corners of zones
zone_counted : (zone : NumberedRing) (zones : List NumberedRing) → Contains zones zone
    → length zone.corners ≤ corners_of_zone zone.number zones
zone_counted zone [] c = absurd (none_in_nil zone c)
zone_counted zone (first ∷ zones) c =
    let at_first : first ≡ zone → length zone.corners ≤ corners_of_zone zone.number (first ∷ zones) =
    λ e. subst (λ (z : NumberedRing). length z.corners ≤ corners_of_zone z.number (first ∷ zones)) e
    (cond_first (length first.corners) (corners_of_zone first.number zones) (nat_eq first.number first.number)
    (eq-eqb first.number first.number refl)) in
    ⊎_elim at_first (λ later. omega (arith, zone_counted zone zones later)) (Contains-cases first zones zone c)
  where
    cond_first : (n rest : ℕ) (b : Bool) → b ≡ true → n ≤ cond b n 0 + rest
    cond_first n rest b e = rw e (omega arith)

own_counted : (id : ℕ) (here : List (ℕ × ℕ)) (own zones : List NumberedRing) → AllByRecursion (λ pair. pair.0 ≡ id) here
    → AllZip (λ zone pair. zone.number ≡ pair.1) own here → AllByRecursion (Contains zones) own
    → corner_count own ≤ corners_of_zones id here zones
own_counted id [] [] zones same h c = omega arith
own_counted id (pair ∷ here) [] zones same h c = absurd h
own_counted id [] (zone ∷ own) zones same h c = absurd h
own_counted id (pair ∷ here) (zone ∷ own) zones same h c =
    let t : nat_eq pair.0 id ≡ true = eq-eqb pair.0 id same.0 in
    let l : length zone.corners ≤ corners_of_zone pair.1 zones = rw (← h.0) (zone_counted zone zones c.0) in
    rw t (omega (arith, l, own_counted id here own zones same.1 h.1 c.1))

-- ---- shares and lines, zone by zone
rounded_terms : (r : List Corner) (zones own : List NumberedRing) (here : List (ℕ × ℕ)) (shares : List Share)
    → AllZip (λ zone pair. zone.number ≡ pair.1) own here → AllByRecursion (Contains zones) own → AreSharesOf r zones here shares
    → AreRounded (terms_of r own) shares
rounded_terms r zones [] [] [] h c k = tt
rounded_terms r zones [] [] (share ∷ shares) h c k = k
rounded_terms r zones [] (pair ∷ here) shares h c k = absurd h
rounded_terms r zones (zone ∷ own) [] shares h c k = absurd h
rounded_terms r zones (zone ∷ own) (pair ∷ here) [] h c k = k
rounded_terms r zones (zone ∷ own) (pair ∷ here) (share ∷ shares) h c k =
    (k.0.rounded zone c.0 h.0, rounded_terms r zones own here shares h.1 c.1 k.1)

pairs_of_shares : (r : List Corner) (zones : List NumberedRing) (id : ℕ) (here : List (ℕ × ℕ)) (shares : List Share)
    → AllByRecursion (λ pair. pair.0 ≡ id) here → AreSharesOf r zones here shares → map (pair_with id) shares ≡ here
pairs_of_shares r zones id [] [] same h = refl
pairs_of_shares r zones id [] (share ∷ shares) same h = absurd h
pairs_of_shares r zones id (pair ∷ here) [] same h = absurd h
pairs_of_shares r zones id (pair ∷ here) (share ∷ shares) same h =
    let first : pair_with id share ≡ pair = rw (h.0.has_zone, ← same.0) refl in
    ap (λ pairs. pair_with id share ∷ pairs) (pairs_of_shares r zones id here shares same.1 h.1)
    ∙ ap (λ p. p ∷ here) first

-- a line's zone, with the area near the fraction
record Found (r : List Corner) (zones : List NumberedRing) (line : AreaLine) : Type 0 where
  zone : NumberedRing
  is_zone : Contains zones zone
  has_number : zone.number ≡ line.zone
  is_near : IsWithinOne (common_area2 r zone.corners) line.area2

found : (r : List Corner) (zones own : List NumberedRing) (lines : List AreaLine) → AllZip (λ zone line. zone.number ≡ line.zone) own lines
    → AllByRecursion (Contains zones) own → AllZip (λ term line. IsWithinOne term.f line.area2) (terms_of r own) lines
    → (line : AreaLine) → Contains lines line → Found r zones line
found r zones [] [] h c k line is = absurd (none_in_nil line is)
found r zones [] (first ∷ lines) h c k line is = absurd h
found r zones (zone ∷ own) [] h c k line is = absurd h
found r zones (zone ∷ own) (first ∷ lines) h c k line is = ⊎_elim
    (λ e. subst (Found r zones) e (record { zone = zone; is_zone = c.0; has_number = h.0; is_near = k.0 }))
    (λ later. found r zones own lines h.1 c.1 k.1 line later)
    (Contains-cases first lines line is)

zones_of_lines : (lines : List AreaLine) → map (λ (pair : ℕ × ℕ). pair.1) (map pair_of lines) ≡ map (λ (line : AreaLine). line.zone) lines
zones_of_lines [] = refl
zones_of_lines (line ∷ lines) = ap (λ ns. line.zone ∷ ns) (zones_of_lines lines)

-- the zones' numbers of one parcel's pairs rise
zones_rise : (id : ℕ) (here : List (ℕ × ℕ)) → AreInPairOrder here → AllByRecursion (λ pair. pair.0 ≡ id) here
    → Rise (map (λ (pair : ℕ × ℕ). pair.1) here)
zones_rise id [] up same = tt
zones_rise id (pair ∷ here) up same = (heads here up.0 same.1, zones_rise id here up.1 same.1)
  where
    heads : (others : List (ℕ × ℕ)) → AllByRecursion (IsPairBefore pair) others → AllByRecursion (λ other. other.0 ≡ id) others
        → AllByRecursion (λ later. pair.1 < later) (map (λ (other : ℕ × ℕ). other.1) others)
    heads [] h k = tt
    heads (other ∷ others) h k =
        (⊎_elim (λ l. absurd (omega (arith, l, k.0, same.0))) (λ l. l.1) h.0, heads others h.1 k.1)

-- ---- a parcel within one zone
whole_is_near : (f : Fraction) (total : ℤ) → pos 0 <ℤ f.d → AreEqual (plus f (whole (pos 0))) (whole total) → IsWithinOne f total
whole_is_near f total h e =
    let is : f.n ≡ total *ℤ f.d =
    same_by (f.n ∷ f.d ∷ []) (var 0) (mul (add (mul (var 0) (lit (pos 1))) (mul (lit (pos 0)) (var 1))) (lit (pos 1))) refl
    ∙ e ∙ same_by (total ∷ f.d ∷ []) (mul (var 0) (mul (var 1) (lit (pos 1)))) (mul (var 0) (var 1)) refl in
    record {
      positive = h;
      low = omega (
        arith,
        ints,
        is,
        h,
        same_by (total ∷ f.d ∷ []) (mul (sub (var 0) (lit (pos 1))) (var 1))
            (sub (mul (var 0) (var 1)) (var 1)) refl,
      );
      high = omega (
        arith,
        ints,
        is,
        h,
        same_by (total ∷ f.d ∷ []) (mul (add (var 0) (lit (pos 1))) (var 1))
            (add (mul (var 0) (var 1)) (var 1)) refl,
      );
    }

alone : (r : List Corner) (own : List NumberedRing) (here : List (ℕ × ℕ)) (pair : ℕ × ℕ) (total : ℤ) → here ≡ pair ∷ []
    → AllZip (λ zone p. zone.number ≡ p.1) own here → AreEqual (common_with r (corner_lists own)) (whole total)
    → AllZip (λ term line. IsWithinOne term.f line.area2) (terms_of r own) (line_of pair.0 pair.1 total ∷ [])
alone r own here pair total e h k = of_one own (subst (AllZip (λ zone p. zone.number ≡ p.1) own) e h) k
  where
    of_one : (zones : List NumberedRing) → AllZip (λ zone p. zone.number ≡ p.1) zones (pair ∷ [])
        → AreEqual (common_with r (corner_lists zones)) (whole total)
        → AllZip (λ term line. IsWithinOne term.f line.area2) (terms_of r zones) (line_of pair.0 pair.1 total ∷ [])
    of_one [] z w = absurd z
    of_one (zone ∷ []) z w = (whole_is_near (common_area2 r zone.corners) total (denominator_positive r zone.corners) w, tt)
    of_one (zone ∷ other ∷ zones) z w = absurd z.1

-- ---- a parcel in two zones
rest_is_near : (f g : Fraction) (total number : ℤ) → pos 0 <ℤ f.d → pos 0 <ℤ g.d
    → AreEqual (plus f (plus g (whole (pos 0)))) (whole total) → IsWithinOne f number → IsWithinOne g (total -ℤ number)
rest_is_near f g total number fp gp e h =
    let all : f.n *ℤ g.d +ℤ g.n *ℤ f.d ≡ total *ℤ f.d *ℤ g.d =
    same_by (f.n ∷ f.d ∷ g.n ∷ g.d ∷ []) (add (mul (var 0) (var 3)) (mul (var 2) (var 1)))
    (mul (add (mul (var 0) (mul (var 3) (lit (pos 1)))) (mul (add (mul (var 2) (lit (pos 1))) (mul (lit (pos 0)) (var 3))) (var 1)))
    (lit (pos 1))) refl
    ∙ e ∙ same_by (total ∷ f.d ∷ g.d ∷ []) (mul (var 0) (mul (var 1) (mul (var 2) (lit (pos 1))))) (mul (mul (var 0) (var 1)) (var 2)) refl
    in
    let low : ((number -ℤ pos 1) *ℤ f.d *ℤ g.d) ≤ℤ (f.n *ℤ g.d) = mul_le ((number -ℤ pos 1) *ℤ f.d) f.n g.d (le_of_lt (pos 0) g.d gp) h.low
    in
    let high : (f.n *ℤ g.d) ≤ℤ ((number +ℤ pos 1) *ℤ f.d *ℤ g.d) = mul_le f.n ((number +ℤ pos 1) *ℤ f.d) g.d (le_of_lt (pos 0) g.d gp)
    h.high in
    record {
      positive = gp;
      low = cancelled ((total -ℤ number -ℤ pos 1) *ℤ g.d) g.n f.d fp
          (at_least (f.n *ℤ g.d) (g.n *ℤ f.d) (total *ℤ f.d *ℤ g.d) ((number +ℤ pos 1) *ℤ f.d *ℤ g.d)
          ((total -ℤ number -ℤ pos 1) *ℤ g.d *ℤ f.d) all high
          (same_by (total ∷ number ∷ f.d ∷ g.d ∷ []) (mul (mul (sub (sub (var 0) (var 1)) (lit (pos 1))) (var 3)) (var 2))
          (sub (mul (mul (var 0) (var 2)) (var 3)) (mul (mul (add (var 1) (lit (pos 1))) (var 2)) (var 3))) refl));
      high = cancelled g.n ((total -ℤ number +ℤ pos 1) *ℤ g.d) f.d fp
          (at_most (f.n *ℤ g.d) (g.n *ℤ f.d) (total *ℤ f.d *ℤ g.d) ((number -ℤ pos 1) *ℤ f.d *ℤ g.d)
          ((total -ℤ number +ℤ pos 1) *ℤ g.d *ℤ f.d) all low
          (same_by (total ∷ number ∷ f.d ∷ g.d ∷ []) (mul (mul (add (sub (var 0) (var 1)) (lit (pos 1))) (var 3)) (var 2))
          (sub (mul (mul (var 0) (var 2)) (var 3)) (mul (mul (sub (var 1) (lit (pos 1))) (var 2)) (var 3))) refl));
    }
  where
    at_least : (a b c u v : ℤ) → a +ℤ b ≡ c → a ≤ℤ u → v ≡ c -ℤ u → v ≤ℤ b
    at_least a b c u v e h k = omega (arith, ints)

    at_most : (a b c u v : ℤ) → a +ℤ b ≡ c → u ≤ℤ a → v ≡ c -ℤ u → b ≤ℤ v
    at_most a b c u v e h k = omega (arith, ints)

both_near : (r : List Corner) (own zones : List NumberedRing) (here : List (ℕ × ℕ)) (first second : ℕ × ℕ) (total number : ℤ)
    → here ≡ first ∷ second ∷ [] → AllZip (λ zone p. zone.number ≡ p.1) own here → AllByRecursion (Contains zones) own
    → AreEqual (common_with r (corner_lists own)) (whole total)
    → ((zone : NumberedRing) → Contains zones zone → zone.number ≡ first.1 → IsWithinOne (common_area2 r zone.corners) number)
    → AllZip (λ term line. IsWithinOne term.f line.area2) (terms_of r own)
    (line_of first.0 first.1 number ∷ line_of second.0 second.1 (total -ℤ number) ∷ [])
both_near r own zones here first second total number e h c k near =
    of_two own (subst (AllZip (λ zone p. zone.number ≡ p.1) own) e h) c k
  where
    of_two : (xs : List NumberedRing) → AllZip (λ zone p. zone.number ≡ p.1) xs (first ∷ second ∷ []) → AllByRecursion (Contains zones) xs
        → AreEqual (common_with r (corner_lists xs)) (whole total)
        → AllZip (λ term line. IsWithinOne term.f line.area2) (terms_of r xs)
        (line_of first.0 first.1 number ∷ line_of second.0 second.1 (total -ℤ number) ∷ [])
    of_two [] z is w = absurd z
    of_two (x ∷ []) z is w = absurd z.1
    of_two (x ∷ y ∷ []) z is w =
        let one = near x is.0 z.0 in
        let rest = rest_is_near (common_area2 r x.corners) (common_area2 r y.corners) total number (denominator_positive r x.corners)
        (denominator_positive r y.corners) w one in
        (one, (rest, tt))
    of_two (x ∷ y ∷ other ∷ xs) z is w = absurd z.1.1

-- ---- parcels and zones that tile one city
pub record AreLaid (rows zones : List NumberedRing) (city : List Corner) : Type 0 where
  pub tiling : IsTiling rows city
  pub others : IsTiling zones city
  pub up : Ascend rows
  pub zones_up : Ascend zones

pub are_laid : (rows zones : List NumberedRing) (city same_city : List Corner) (ids zone_ids : List ℕ) → IsTiling rows city
    → IsTiling zones same_city → same_city ≡ city → ids ≡ numbers rows → zone_ids ≡ numbers zones → IsStrictlyIncreasing ids
    → IsStrictlyIncreasing zone_ids → AreLaid rows zones city
are_laid rows zones city same_city ids zone_ids t u c e f rise zone_rise = record {
  tiling = t;
  others = subst (IsTiling zones) c u;
  up = ascending rows (subst IsStrictlyIncreasing e rise);
  zones_up = ascending zones (subst IsStrictlyIncreasing f zone_rise);
}

-- each simple ring has a corner
pub fewer_rows : (rows : List NumberedRing) → AreSimple rows → length rows ≤ corner_count rows
fewer_rows [] h = omega arith
fewer_rows (row ∷ rows) h = omega (arith, some row.corners h.0, fewer_rows rows h.1)
  where
    some : (ring : List Corner) → IsSimpleRing ring → 1 ≤ length ring
    some [] simple = let l : pos 0 <ℤ area2 [] = simple.counterclockwise in absurd (omega (arith, ints, l))
    some (corner ∷ ring) simple = omega arith

pub shares_counted : (r : List Corner) (zones : List NumberedRing) (here : List (ℕ × ℕ)) (shares : List Share)
    → AreSharesOf r zones here shares
    → length shares ≡ length here
shares_counted r zones here shares h = AllZip-long (IsShareOf r zones) here shares h

-- ---- the pairs of a parcel
pub the_parcel : (rows zones : List NumberedRing) (id : ℕ) (here : List (ℕ × ℕ)) → AreParcelPairs rows zones id here → 0 < length here
    → (row : NumberedRing) × Contains rows row × (row.number ≡ id)
the_parcel rows zones id [] all some = absurd (omega (arith, some))
the_parcel rows zones id (pair ∷ here) all some =
    let same : (pair.0, pair.1) ≡ (id, pair.1) = ap (λ n. (n, pair.1)) all.same.0 in
    let o = (all.exactly pair.1).0 (subst (Contains (pair ∷ here)) same (Contains-here pair here)) in
    (o.parcel, o.is_row, o.has_id)

pub one_pair : (id : ℕ) (here : List (ℕ × ℕ)) → AllByRecursion (λ pair. pair.0 ≡ id) here → length here ≡ 1
    → here ≡ (id, (get_or here 0 (0, 0)).1) ∷ []
one_pair id [] same e = absurd (omega (arith, e))
one_pair id (pair ∷ []) same e = ap (λ n. (n, pair.1) ∷ []) same.0
one_pair id (pair ∷ other ∷ here) same e = absurd (omega (arith, e))

pub two_pairs : (id : ℕ) (here : List (ℕ × ℕ)) → AllByRecursion (λ pair. pair.0 ≡ id) here → length here ≡ 2
    → here ≡ (id, (get_or here 0 (0, 0)).1) ∷ (id, (get_or here 1 (0, 0)).1) ∷ []
two_pairs id [] same e = absurd (omega (arith, e))
two_pairs id (pair ∷ []) same e = absurd (omega (arith, e))
two_pairs id (pair ∷ other ∷ []) same e =
    ap (λ n. (n, pair.1) ∷ other ∷ []) same.0 ∙ ap (λ n. (id, pair.1) ∷ (n, other.1) ∷ []) same.1.0
two_pairs id (pair ∷ other ∷ third ∷ here) same e = absurd (omega (arith, e))

pub zones_named : (rows zones : List NumberedRing) (id : ℕ) (here : List (ℕ × ℕ)) → AreParcelPairs rows zones id here
    → AllByRecursion (λ pair. Contains (numbers zones) pair.1) here
zones_named rows zones id here all = all_from_contains (λ (pair : ℕ × ℕ). Contains (numbers zones) pair.1) here (λ pair c.
    let same : pair.0 ≡ id = of_each (λ (p : ℕ × ℕ). p.0 ≡ id) here pair all.same c in
    let o = (all.exactly pair.1).0 (subst (λ n. Contains here (n, pair.1)) same c) in
    subst (Contains (numbers zones)) o.has_zone (Contains-mapped (λ (zone : NumberedRing). zone.number) zones o.region o.is_zone))

-- ---- a parcel of a tiling
module _ (rows zones : List NumberedRing) (city : List Corner) (laid : AreLaid rows zones city) (id : ℕ) (here : List (ℕ × ℕ))
    (all : AreParcelPairs rows zones id here) (row : NumberedRing) (is_row : Contains rows row) (has_id : row.number ≡ id) where
  named : AllByRecursion (Contains (numbers zones)) (map (λ (pair : ℕ × ℕ). pair.1) here)
  named = AllByRecursion-map (Contains (numbers zones)) (λ (pair : ℕ × ℕ). pair.1) here (zones_named rows zones id here all)

  has_none : (zone : NumberedRing) → Contains zones zone → ¬ Contains (map (λ (pair : ℕ × ℕ). pair.1) here) zone.number
      → (common_area2 row.corners zone.corners).n ≡ pos 0
  has_none zone c off =
      let once = winds_once rows city laid.tiling row is_row in
      let zone_once = winds_once zones city laid.others zone c in
      by_lt_z (pos 0) (common_area2 row.corners zone.corners).n
      (λ p. absurd (off (Contains-mapped (λ (pair : ℕ × ℕ). pair.1) here (id, zone.number) ((all.exactly zone.number).1 (record {
        parcel = row;
        is_row = is_row;
        has_id = has_id;
        region = zone;
        is_zone = c;
        has_zone = refl;
        interiors_meet = positive_meets row.corners zone.corners once zone_once p;
      })))))
      (λ p. omega (arith, ints, p, not_negative row.corners zone.corners once zone_once))

  own : Own row.corners (map (λ (pair : ℕ × ℕ). pair.1) here) zones
  own = own_zones row.corners (map (λ (pair : ℕ × ℕ). pair.1) here) zones (zones_rise id here all.ascend all.same) laid.zones_up named
      has_none

  whole_area : AreEqual (common_with row.corners (corner_lists own.own)) (whole (area2 row.corners))
  whole_area =
      through (common_with row.corners (corner_lists zones)) (common_with row.corners (corner_lists own.own)) (area2 row.corners)
      (sum_positive row.corners zones) own.area
      (added_to_whole row.corners city (corner_lists zones) (made_up zones city laid.others)
      (winds_once rows city laid.tiling row is_row) (is_covered rows city laid.tiling row is_row))

  with_pairs : AllZip (λ zone pair. zone.number ≡ pair.1) own.own here
  with_pairs = zip_images (λ (zone : NumberedRing). zone.number) (λ (pair : ℕ × ℕ). pair.1) own.own here own.are_numbered

  lost_few : HasFewCorners row zones here → lost_in_all (terms_of row.corners own.own) < PARTS
  lost_few few =
      omega (
        arith,
        few,
        lost_is row.corners own.own,
        mul-le-mul_left (length row.corners) (own_counted row.number here own.own zones
            (subst (λ n. AllByRecursion (λ pair. pair.0 ≡ n) here) (sym has_id) all.same) with_pairs own.are_zones),
      )

  -- there are no more pairs than zones
  pub few_pairs : length here ≤ length zones
  few_pairs = omega (arith, own.few, AllZip-long (λ (zone : NumberedRing) (pair : ℕ × ℕ). zone.number ≡ pair.1) own.own here with_pairs)

  -- each row with the parcel's id is the parcel
  the_row : (other : NumberedRing) → Contains rows other → other.number ≡ id → row ≡ other
  the_row other c e = same_row rows row other laid.up is_row c (has_id ∙ sym e)

  id_of : (lines : List AreaLine) → map pair_of lines ≡ here → (line : AreaLine) → Contains lines line → line.id ≡ id
  id_of lines e line c =
      of_each (λ (pair : ℕ × ℕ). pair.0 ≡ id) here (pair_of line) all.same
      (subst (λ pairs. Contains pairs (pair_of line)) e (Contains-mapped pair_of lines line c))

  near_by : (lines : List AreaLine) → map pair_of lines ≡ here
      → (HasFewCorners row zones here → AllZip (λ term line. IsWithinOne term.f line.area2) (terms_of row.corners own.own) lines)
      → AreNear rows zones here lines
  near_by lines e near other zone line c z l is_id is_zone few =
      let same : row ≡ other = the_row other c (sym is_id ∙ id_of lines e line l) in
      let with_lines : AllZip (λ zone line. zone.number ≡ line.zone) own.own lines =
      zip_images (λ (zone : NumberedRing). zone.number) (λ (line : AreaLine). line.zone) own.own lines
      (own.are_numbered ∙ sym (ap (map (λ (pair : ℕ × ℕ). pair.1)) e) ∙ zones_of_lines lines) in
      let f = found row.corners zones own.own lines with_lines own.are_zones
      (near (subst (λ (r : NumberedRing). HasFewCorners r zones here) (sym same) few)) line l in
      let zone_same : f.zone ≡ zone = same_row zones f.zone zone laid.zones_up f.is_zone z (f.has_number ∙ is_zone) in
      subst (λ (r : NumberedRing). IsWithinOne (common_area2 r.corners zone.corners) line.area2) same
      (subst (λ (t : NumberedRing). IsWithinOne (common_area2 row.corners t.corners) line.area2) zone_same f.is_near)

  -- the lines that a parcel's shares make
  pub lines_of_shares : (shares : List Share) (old new : List AreaLine) → AreSharesOf row.corners zones here shares
      → AddsShares id (area2 row.corners) shares old new → AddsParcel rows zones id here old new
  lines_of_shares shares old new are h =
      let pairs : map pair_of h.added ≡ here = h.are_pairs ∙ pairs_of_shares row.corners zones id here shares all.same are in
      record {
        added = h.added;
        is_added = h.is_added;
        are_lines = record {
          are_pairs = pairs;
          sum = λ other c e. h.sum ∙ ap (λ (r : NumberedRing). area2 r.corners) (the_row other c e);
          near = near_by h.added pairs (λ few. h.near (terms_of row.corners own.own)
              (rounded_terms row.corners zones own.own here shares with_pairs own.are_zones are)
              (subst (λ f. AreEqual f (whole (area2 row.corners))) (sym (sum_is row.corners own.own)) whole_area) (lost_few few));
        };
      }

  -- the lines of a parcel that has two zones
  pub lines_of_two : (share : Share) (other : ℕ) (old new : List AreaLine) → here ≡ (id, share.zone) ∷ (id, other) ∷ []
      → IsShareOf row.corners zones (id, share.zone) share → AddsTwo id (area2 row.corners) share other old new
      → AddsParcel rows zones id here old new
  lines_of_two share other old new e is h =
      let first = line_of id share.zone h.area in let second = line_of id other (area2 row.corners -ℤ h.area) in
      record {
        added = first ∷ second ∷ [];
        is_added = h.is_added;
        are_lines = record {
          are_pairs = sym e;
          sum = λ row' c k. omega (arith, ints, ap (λ (r : NumberedRing). area2 r.corners) (the_row row' c k));
          near = near_by (first ∷ second ∷ []) (sym e) (λ few. both_near row.corners own.own zones here (id, share.zone) (id, other)
              (area2 row.corners) h.area e with_pairs own.are_zones whole_area
              (λ zone c k. h.is_near (length row.corners * length zone.corners) (common_area2 row.corners zone.corners)
              (is.rounded zone c k)));
        };
      }

  -- the line of a parcel that has one zone
  pub line_alone : (zone : ℕ) (old : List AreaLine) → here ≡ (id, zone) ∷ []
      → AddsParcel rows zones id here old (old ++ line_of id zone (area2 row.corners) ∷ [])
  line_alone zone old e = record {
    added = line_of id zone (area2 row.corners) ∷ [];
    is_added = refl;
    are_lines = record {
      are_pairs = sym e;
      sum = λ other c is. omega (arith, ints, ap (λ (r : NumberedRing). area2 r.corners) (the_row other c is));
      near = near_by (line_of id zone (area2 row.corners) ∷ []) (sym e)
          (λ few. alone row.corners own.own here (id, zone) (area2 row.corners) e with_pairs whole_area);
    };
  }
