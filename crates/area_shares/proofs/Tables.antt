-- Pairs of parcels, one parcel after another.
use Rattle.std.proofs.Common.{◌≡◌, ◌≢◌, ◌⊎◌, inl, inr, ◌∙◌, ⊎_elim, refl, sym, ap, subst, arith, ℕ, ◌+◌, ◌<◌, ◌≤◌, Bool, true, false, cond}
use Rattle.std.proofs.Common.{map, length, get_or, take, drop, append_assoc, append-nil, add-one, List, [], ◌∷◌, ◌++◌}
use Rattle.std.specs.Prelude.{nat_eq}
use Rattle.std.specs.List.{AllByRecursion, Contains}
use Rattle.std.proofs.Math.Nat.{mul-le-mul_left}
use Rattle.std.proofs.lemmas.Bool.{eq-eqb, ne_eqb}
use Rattle.std.proofs.lemmas.Bool.Decides.{eqb_tells}
use Rattle.std.proofs.lemmas.Int.{ints}
use Rattle.std.proofs.lemmas.List.{map-append, length-append, take-append-drop}
use Rattle.std.proofs.lemmas.List.Elements.{Contains-append_left, Contains-append_right, Contains-append_cases}
use lib.IntN.{ℤ, pos, ◌+ℤ◌}
use Rattle.geo_exact.specs.Layers.{NumberedRing}
use Rattle.geo_exact.proofs.numbers.Dropped.{drop_item}
use Rattle.edge_chains.proofs.nodings.NodedEdges.{none_in_nil, Contains-here, all_from_contains}
use Rattle.fabric_core.proofs.tilings.OneParcel.{of_each}
use Rattle.fabric_core.proofs.rows.RowLists.{AllByRecursion-weaker, Contains-mapped, Contains-from_mapped}
use Rattle.zone_tables.specs.Overlap.{IsPairBefore, AreInPairOrder, IsOverlapTable}
use Rattle.area_shares.specs.declared.shared.AreaLine.{AreaLine}
use Rattle.area_shares.specs.Shares.{sum_of}
use Rattle.area_shares.specs.AreaTable.{pair_of, area2_of_lines, corners_of_zones, HasFewCorners, ArePairsOfParcels, AreAreaLines}
use Rattle.area_shares.specs.AreaTable.{AddsAreaLines, IsAreaTable}
use Rattle.area_shares.specs.own.Parcels.{AreParcelPairs, AreParcelLines, AddsParcel, count_first, IsSplitAt}
use Rattle.area_shares.specs.own.Slices.{AreApart}

-- ---- the pairs of the first parcel
abbrev first_of : ℕ × ℕ → ℕ
first_of pair = pair.0

cond_true : {X : Type 0} (b : Bool) (x y : X) → b ≡ true → cond b x y ≡ x
cond_true b x y e = rw e refl

cond_false : {X : Type 0} (b : Bool) (x y : X) → b ≡ false → cond b x y ≡ y
cond_false b x y e = rw e refl

pub counted-drop : (id : ℕ) (pairs : List (ℕ × ℕ)) (i : ℕ) (pair : ℕ × ℕ) → i < length pairs → pair ≡ get_or pairs i pair
    → count_first id (drop i pairs) ≡ cond (nat_eq pair.0 id) (count_first id (drop (i + 1) pairs) + 1) 0
counted-drop id pairs i pair h e = ap (count_first id) (drop_item pairs i pair h e)

not_below : (id : ℕ) (pair : ℕ × ℕ) (rest : List (ℕ × ℕ)) → id < pair.0 → AllByRecursion (IsPairBefore pair) rest
    → AllByRecursion (λ later. id < later.0) rest
not_below id pair rest h up =
    AllByRecursion-weaker (IsPairBefore pair) (λ later. id < later.0)
    (λ later b. ⊎_elim (λ l. omega (arith, h, l)) (λ l. omega (arith, h, l.0)) b) rest up

split_same : (id : ℕ) (pairs : List (ℕ × ℕ)) → AllByRecursion (λ pair. pair.0 ≡ id) (take (count_first id pairs) pairs)
split_same id [] = tt
split_same id (pair ∷ pairs) = ⊎_elim
    (λ same. rw same.0 (at_next pair pairs (count_first id pairs) same.1 (split_same id pairs)))
    (λ other. rw other.0 tt)
    (eqb_tells pair.0 id)
  where
    at_next : (p : ℕ × ℕ) (rest : List (ℕ × ℕ)) (n : ℕ) → p.0 ≡ id → AllByRecursion (λ q. q.0 ≡ id) (take n rest)
        → AllByRecursion (λ q. q.0 ≡ id) (take (n + 1) (p ∷ rest))
    at_next p rest n e h = rw add-one (e, h)

split_above : (id : ℕ) (pairs : List (ℕ × ℕ)) → AreInPairOrder pairs → AllByRecursion (λ pair. id ≤ pair.0) pairs
    → AllByRecursion (λ pair. id < pair.0) (drop (count_first id pairs) pairs)
split_above id [] up from = tt
split_above id (pair ∷ pairs) up from = ⊎_elim
    (λ same. rw same.0 (at_next pair pairs (count_first id pairs) (split_above id pairs up.1 from.1)))
    (λ other. let l : id < pair.0 = omega (arith, from.0, other.1) in rw other.0 (l, not_below id pair pairs l up.0))
    (eqb_tells pair.0 id)
  where
    at_next : (p : ℕ × ℕ) (rest : List (ℕ × ℕ)) (n : ℕ) → AllByRecursion (λ q. id < q.0) (drop n rest)
        → AllByRecursion (λ q. id < q.0) (drop (n + 1) (p ∷ rest))
    at_next p rest n h = rw add-one h

pub is_split : (id : ℕ) (pairs here behind : List (ℕ × ℕ)) → AreInPairOrder pairs → AllByRecursion (λ pair. id ≤ pair.0) pairs
    → (n : ℕ) → n ≡ count_first id pairs → here ≡ take n pairs → behind ≡ drop n pairs → IsSplitAt id pairs here behind
is_split id pairs here behind up from n e h b = record {
  are_all = sym (take-append-drop n pairs) ∙ ap (λ ps. ps ++ drop n pairs) (sym h) ∙ ap (λ ps. here ++ ps) (sym b);
  same = rw (h, e) (split_same id pairs);
  above = rw (b, e) (split_above id pairs up from);
}

-- ---- sums of lines
abbrev id_of : AreaLine → ℕ
id_of line = line.id

abbrev area_of : AreaLine → ℤ
area_of line = line.area2

-- all lines of one parcel
sum_same : (id : ℕ) (lines : List AreaLine) → AllByRecursion (λ line. line.id ≡ id) lines
    → area2_of_lines id lines ≡ sum_of (map area_of lines)
sum_same id [] h = refl
sum_same id (line ∷ lines) h =
    ap (λ z. z +ℤ area2_of_lines id lines) (cond_true (nat_eq line.id id) line.area2 (pos 0) (eq-eqb line.id id h.0))
    ∙ ap (λ z. line.area2 +ℤ z) (sum_same id lines h.1)

-- no line of the parcel
sum_none : (id : ℕ) (lines : List AreaLine) → AllByRecursion (λ line. line.id ≢ id) lines → area2_of_lines id lines ≡ pos 0
sum_none id [] h = refl
sum_none id (line ∷ lines) h =
    ap (λ z. z +ℤ area2_of_lines id lines) (cond_false (nat_eq line.id id) line.area2 (pos 0) (ne_eqb line.id id h.0))
    ∙ omega (arith, ints, sum_none id lines h.1)

sum_appended : (id : ℕ) (lines more : List AreaLine) → area2_of_lines id (lines ++ more) ≡ area2_of_lines id lines +ℤ area2_of_lines id more
sum_appended id [] more = omega (arith, ints)
sum_appended id (line ∷ lines) more = omega (arith, ints, sum_appended id lines more)

corners_appended : (id : ℕ) (here behind : List (ℕ × ℕ)) (zones : List NumberedRing)
    → corners_of_zones id (here ++ behind) zones ≡ corners_of_zones id here zones + corners_of_zones id behind zones
corners_appended id [] behind zones = omega arith
corners_appended id (pair ∷ here) behind zones = omega (arith, corners_appended id here behind zones)

few_in_first : (row : NumberedRing) (zones : List NumberedRing) (here behind : List (ℕ × ℕ)) → HasFewCorners row zones (here ++ behind)
    → HasFewCorners row zones here
few_in_first row zones here behind few =
    let l : corners_of_zones row.number here zones ≤ corners_of_zones row.number (here ++ behind) zones =
    omega (arith, corners_appended row.number here behind zones) in
    omega (arith, few, mul-le-mul_left (length row.corners) l)

few_in_second : (row : NumberedRing) (zones : List NumberedRing) (here behind : List (ℕ × ℕ)) → HasFewCorners row zones (here ++ behind)
    → HasFewCorners row zones behind
few_in_second row zones here behind few =
    let l : corners_of_zones row.number behind zones ≤ corners_of_zones row.number (here ++ behind) zones =
    omega (arith, corners_appended row.number here behind zones) in
    omega (arith, few, mul-le-mul_left (length row.corners) l)

-- ---- one parcel before others
ids_of_pairs : (P : ℕ → Type 0) (lines : List AreaLine) (pairs : List (ℕ × ℕ)) → map pair_of lines ≡ pairs
    → AllByRecursion (λ pair. P pair.0) pairs
    → AllByRecursion (λ line. P line.id) lines
ids_of_pairs P lines pairs e h = unmapped lines (subst (AllByRecursion (λ pair. P pair.0)) (sym e) h)
  where
    unmapped : (xs : List AreaLine) → AllByRecursion (λ pair. P pair.0) (map pair_of xs) → AllByRecursion (λ line. P line.id) xs
    unmapped [] k = tt
    unmapped (x ∷ xs) k = (k.0, unmapped xs k.1)

pub order_parts : (here behind : List (ℕ × ℕ)) → AreInPairOrder (here ++ behind) → AreInPairOrder here × AreInPairOrder behind
order_parts [] behind up = (tt, up)
order_parts (pair ∷ here) behind up = let w = order_parts here behind up.1 in ((all_front here up.0, w.0), w.1)
  where
    all_front : (first : List (ℕ × ℕ)) → AllByRecursion (IsPairBefore pair) (first ++ behind) → AllByRecursion (IsPairBefore pair) first
    all_front [] h = tt
    all_front (p ∷ first) h = (h.0, all_front first h.1)

-- what holds of the ids of all pairs holds of the ids of their lines
line_of_pairs : (lines : List AreaLine) (pairs : List (ℕ × ℕ)) → map pair_of lines ≡ pairs → (line : AreaLine) → Contains lines line
    → Contains pairs (pair_of line)
line_of_pairs lines pairs e line c = subst (λ ps. Contains ps (pair_of line)) e (Contains-mapped pair_of lines line c)

pub of_split : (id : ℕ) (pairs here behind : List (ℕ × ℕ)) → IsSplitAt id pairs here behind → AreApart pairs here behind
of_split id pairs here behind split = record {
  are_all = split.are_all;
  apart = λ a b c d. omega (
    arith,
    of_each (λ (pair : ℕ × ℕ). pair.0 ≡ id) here a split.same c,
    of_each (λ (pair : ℕ × ℕ). id < pair.0) behind b split.above d,
  );
}

module _ (rows zones : List NumberedRing) where
  -- the lines of some parcels, and behind them those of others
  pub joined_lines : (pairs here behind : List (ℕ × ℕ)) (added more : List AreaLine) → AreApart pairs here behind
      → AreAreaLines rows zones here added → AreAreaLines rows zones behind more → AreAreaLines rows zones pairs (added ++ more)
  joined_lines pairs here behind added more split first later = record {
    are_pairs = map-append pair_of added more ∙ ap (λ ps. ps ++ map pair_of more) first.are_pairs ∙ ap (λ ps. here ++ ps) later.are_pairs ∙
        sym split.are_all;
    sums = λ row c has. ⊎_elim
        (λ k.
        let w = Contains-from_mapped id_of added row.number k in
        let none : area2_of_lines row.number more ≡ pos 0 =
        sum_none row.number more (all_from_contains (λ (line : AreaLine). line.id ≢ row.number) more
        (λ line d e. omega (arith, apart w.0 line w.1 d, w.2, e))) in
        sum_appended row.number added more ∙ omega (arith, ints, first.sums row c k, none))
        (λ k.
        let w = Contains-from_mapped id_of more row.number k in
        let none : area2_of_lines row.number added ≡ pos 0 =
        sum_none row.number added (all_from_contains (λ (line : AreaLine). line.id ≢ row.number) added
        (λ line d e. omega (arith, apart line w.0 d w.1, w.2, e))) in
        sum_appended row.number added more ∙ omega (arith, ints, none, later.sums row c k))
        (Contains-append_cases (map id_of added) (map id_of more) row.number
        (subst (λ ids. Contains ids row.number) (map-append id_of added more) has));
    near = λ row zone line c z l is_id is_zone few.
        let all : HasFewCorners row zones (here ++ behind) = subst (HasFewCorners row zones) split.are_all few in
        ⊎_elim
        (λ a. first.near row zone line c z a is_id is_zone (few_in_first row zones here behind all))
        (λ b. later.near row zone line c z b is_id is_zone (few_in_second row zones here behind all))
        (Contains-append_cases added more line l);
  }
    where
      apart : (one other : AreaLine) → Contains added one → Contains more other → one.id < other.id
      apart one other c d = split.apart (pair_of one) (pair_of other) (line_of_pairs added here first.are_pairs one c)
          (line_of_pairs more behind later.are_pairs other d)

  -- the lines of one parcel
  of_parcel : (id : ℕ) (here : List (ℕ × ℕ)) (added : List AreaLine) → AllByRecursion (λ pair. pair.0 ≡ id) here
      → AreParcelLines rows zones id here added → AreAreaLines rows zones here added
  of_parcel id here added same first = record {
    are_pairs = first.are_pairs;
    sums = λ row c has.
        let w = Contains-from_mapped id_of added row.number has in
        let is : row.number ≡ id = sym w.2 ∙ of_each (λ (line : AreaLine). line.id ≡ id) added w.0 own w.1 in
        sum_same row.number added (AllByRecursion-weaker (λ line. line.id ≡ id) (λ line. line.id ≡ row.number) (λ line e. e ∙ sym is)
        added own)
        ∙ first.sum row c is;
    near = first.near;
  }
    where
      own : AllByRecursion (λ line. line.id ≡ id) added
      own = ids_of_pairs (λ n. n ≡ id) added here first.are_pairs same

  pub joined_behind : (id : ℕ) (pairs here behind : List (ℕ × ℕ)) (old now new : List AreaLine) → IsSplitAt id pairs here behind
      → AddsParcel rows zones id here old now → AddsAreaLines rows zones behind now new → AddsAreaLines rows zones pairs old new
  joined_behind id pairs here behind old now new split first later = record {
    added = first.added ++ later.added;
    is_added = later.is_added ∙ ap (λ lines. lines ++ later.added) first.is_added ∙ append_assoc old first.added later.added;
    are_lines = joined_lines pairs here behind first.added later.added (of_split id pairs here behind split)
        (of_parcel id here first.added split.same first.are_lines) later.are_lines;
  }

  pub added_none : (pairs : List (ℕ × ℕ)) (old : List AreaLine) → pairs ≡ [] → AddsAreaLines rows zones pairs old old
  added_none pairs old e = record {
    added = [];
    is_added = sym (append-nil old);
    are_lines = record {
      are_pairs = sym e;
      sums = λ row c has. absurd (none_in_nil row.number has);
      near = λ row zone line c z l is_id is_zone few. absurd (none_in_nil line l);
    };
  }

  -- ---- pairs of parcels
  pub of_table : (pairs : List (ℕ × ℕ)) → IsOverlapTable rows zones pairs → ArePairsOfParcels rows zones pairs
  of_table pairs h = record {
    ascend = h.ascend;
    sound = λ id zone c. (h.exactly id zone).0 c;
    complete = λ id zone other c o. (h.exactly id other).1 o;
  }

  module _ (pairs here behind : List (ℕ × ℕ)) (all : ArePairsOfParcels rows zones pairs) (split : AreApart pairs here behind) where
    within : (pair : ℕ × ℕ) → Contains here pair ⊎ Contains behind pair → Contains pairs pair
    within pair c = subst (λ ps. Contains ps pair) (sym split.are_all)
        (⊎_elim (Contains-append_left here behind pair) (Contains-append_right here behind pair) c)

    either : (pair : ℕ × ℕ) → Contains pairs pair → Contains here pair ⊎ Contains behind pair
    either pair c = Contains-append_cases here behind pair (subst (λ ps. Contains ps pair) split.are_all c)

    pub parcels_here : ArePairsOfParcels rows zones here
    parcels_here = record {
      ascend = (order_parts here behind (subst AreInPairOrder split.are_all all.ascend)).0;
      sound = λ n other c. all.sound n other (within (n, other) (inl c));
      complete = λ n first other c o. ⊎_elim
          (λ a. a)
          (λ b. let l : n < n = split.apart (n, first) (n, other) c b in absurd (omega (arith, l)))
          (either (n, other) (all.complete n first other (within (n, first) (inl c)) o));
    }

    pub parcels_behind : ArePairsOfParcels rows zones behind
    parcels_behind = record {
      ascend = (order_parts here behind (subst AreInPairOrder split.are_all all.ascend)).1;
      sound = λ n other c. all.sound n other (within (n, other) (inr c));
      complete = λ n first other c o. ⊎_elim
          (λ a. let l : n < n = split.apart (n, other) (n, first) a c in absurd (omega (arith, l)))
          (λ b. b)
          (either (n, other) (all.complete n first other (within (n, first) (inr c)) o));
    }

  module _ (id zone : ℕ) (pairs others here behind : List (ℕ × ℕ)) (all : ArePairsOfParcels rows zones pairs)
      (are : pairs ≡ (id, zone) ∷ others) (split : IsSplitAt id pairs here behind) where
    in_here : (other : ℕ) → Contains pairs (id, other) → Contains here (id, other)
    in_here other c = ⊎_elim (λ a. a)
        (λ b. let l : id < id = of_each (λ (pair : ℕ × ℕ). id < pair.0) behind (id, other) split.above b in absurd (omega (arith, l)))
        (Contains-append_cases here behind (id, other) (subst (λ ps. Contains ps (id, other)) split.are_all c))

    of_here : (pair : ℕ × ℕ) → Contains here pair → Contains pairs pair
    of_here pair c = subst (λ ps. Contains ps pair) (sym split.are_all) (Contains-append_left here behind pair c)

    first_here : Contains pairs (id, zone)
    first_here = subst (λ ps. Contains ps (id, zone)) (sym are) (Contains-here (id, zone) others)

    pub pairs_here : AreParcelPairs rows zones id here
    pairs_here = record {
      ascend = (order_parts here behind (subst AreInPairOrder split.are_all all.ascend)).0;
      same = split.same;
      exactly = λ other. (
        (λ c. all.sound id other (of_here (id, other) c)),
        (λ o. in_here other (all.complete id zone other first_here o)),
      );
    }

    pub pairs_behind : ArePairsOfParcels rows zones behind
    pairs_behind = parcels_behind pairs here behind all (of_split id pairs here behind split)

    pub some_here : 0 < length here
    some_here = some here (in_here zone first_here)
      where
        some : (ps : List (ℕ × ℕ)) → Contains ps (id, zone) → 0 < length ps
        some [] c = absurd (none_in_nil (id, zone) c)
        some (p ∷ ps) c = omega arith

    pub fewer_behind : length behind < length pairs
    fewer_behind = omega (arith, some_here, ap length split.are_all, length-append here behind)

  pub from_first : (id zone : ℕ) (others : List (ℕ × ℕ)) → AreInPairOrder ((id, zone) ∷ others)
      → AllByRecursion (λ pair. id ≤ pair.0) ((id, zone) ∷ others)
  from_first id zone others up = (
    omega arith,
    AllByRecursion-weaker (IsPairBefore (id, zone)) (λ later. id ≤ later.0)
        (λ later b. ⊎_elim (λ l. omega (arith, l)) (λ l. omega (arith, l.0)) b) others up.0,
  )

-- ---- all of a table
pub whole_table : (rows zones : List NumberedRing) (pairs : List (ℕ × ℕ)) (lines : List AreaLine) → AreAreaLines rows zones pairs lines
    → ((row : NumberedRing) → Contains rows row → (zone : ℕ) × Contains pairs (row.number, zone)) → IsAreaTable rows zones pairs lines
whole_table rows zones pairs lines h each = record {
  are_pairs = h.are_pairs;
  sums = λ row c. let w = each row c in
      h.sums row c (ids_are lines row.number w.0 (subst (λ ps. Contains ps (row.number, w.0)) (sym h.are_pairs) w.1));
  near = h.near;
}
  where
    ids_are : (xs : List AreaLine) (id zone : ℕ) → Contains (map pair_of xs) (id, zone) → Contains (map id_of xs) id
    ids_are xs id zone c = let w = Contains-from_mapped pair_of xs (id, zone) c in
        subst (Contains (map id_of xs)) (ap (λ (pair : ℕ × ℕ). pair.0) w.2) (Contains-mapped id_of xs w.0 w.1)

pub from_none : (rows zones : List NumberedRing) (pairs : List (ℕ × ℕ)) (old new : List AreaLine) → old ≡ []
    → AddsAreaLines rows zones pairs old new
    → AreAreaLines rows zones pairs new
from_none rows zones pairs old new e h =
    subst (AreAreaLines rows zones pairs) (sym (h.is_added ∙ ap (λ lines. lines ++ h.added) e)) h.are_lines
