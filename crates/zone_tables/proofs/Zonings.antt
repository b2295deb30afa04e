-- The parcels that ascending pairs speak of: each once, with its first zone, and split exactly where it has another.
use Rattle.std.proofs.Common.{◌≡◌, ◌≢◌, ◌⊎◌, inl, inr, ⊎_elim, refl, sym, ◌∙◌, ap, subst, arith, Bool, true}
use Rattle.std.proofs.Common.{false, cond, not}
use Rattle.std.proofs.Common.{ℕ, zero, suc, ◌<◌, ◌≤◌, List, [], ◌∷◌, length, map, add-one}
use Rattle.std.specs.Prelude.{nat_eq, nat_lt, slice_index, ◌↔◌}
use Rattle.std.specs.Bool.{⊤}
use Rattle.std.specs.List.{AllByRecursion, Contains, filter}
use Rattle.std.specs.List.Sorted.{IsStrictlyIncreasing}
use Rattle.std.proofs.lemmas.Bool.{cases_Bool, le-ltb, lt-ltb, not-true, false≢true}
use Rattle.std.proofs.lemmas.Bool.Decides.{eqb_tells}
use Rattle.edge_chains.proofs.nodings.NodedEdges.{none_in_nil, Contains-here, Contains-there, Contains-cases}
use Rattle.fabric_core.proofs.tilings.OneParcel.{of_each}
use Rattle.fabric_core.proofs.rows.RowLists.{AllByRecursion-filter, AllByRecursion-weaker, Contains-kept}
use Rattle.fabric_core.proofs.rows.RowLists.{Contains-from_kept, Contains-mapped, Contains-from_mapped}
use Rattle.zone_tables.specs.declared.zoning.Zoning.{Zoning}
use Rattle.zone_tables.specs.Overlap.{IsPairBefore, AreInPairOrder}
use Rattle.zone_tables.specs.own.Zonings.{behind, with_pair, zonings, split_ids, single_zones, IsOnlyZone}

abbrev zoning : ℕ → ℕ → Bool → Zoning
zoning id zone is_split = record { id = id; zone = zone; is_split = is_split }

-- ---- the first parcel
pub behind_fewer : (id : ℕ) (pairs : List (ℕ × ℕ)) → length (behind id pairs) ≤ length pairs
behind_fewer id [] = omega arith
behind_fewer id (pair ∷ pairs) = by_test (nat_eq pair.0 id) (behind_fewer id pairs)
  where
    by_test : (b : Bool) → length (behind id pairs) ≤ length pairs → length (cond b (behind id pairs) (pair ∷ pairs))
        ≤ length (pair ∷ pairs)
    by_test true h = omega (arith, h)
    by_test false h = omega arith

-- the first parcel is that of the first pair, and the others are those of the pairs behind its own
pub zonings_first : (id zone : ℕ) (rest : List (ℕ × ℕ))
    → zonings ((id, zone) ∷ rest) ≡ zoning id zone (nat_lt (length (behind id rest)) (length rest)) ∷ zonings (behind id rest)
zonings_first id zone [] = refl
zonings_first id zone (pair ∷ pairs) =
    let later = zonings_first pair.0 pair.1 pairs in ap (with_pair (id, zone)) later ∙ by_test later (eqb_tells pair.0 id)
  where
    by_test : zonings (pair ∷ pairs) ≡ zoning pair.0 pair.1 (nat_lt (length (behind pair.0 pairs)) (length pairs))
        ∷ zonings (behind pair.0 pairs)
        → ((nat_eq pair.0 id ≡ true) × (pair.0 ≡ id)) ⊎ ((nat_eq pair.0 id ≡ false) × (pair.0 ≢ id))
        → with_pair (id, zone) (zoning pair.0 pair.1 (nat_lt (length (behind pair.0 pairs)) (length pairs))
        ∷ zonings (behind pair.0 pairs))
        ≡ zoning id zone (nat_lt (length (behind id (pair ∷ pairs))) (length (pair ∷ pairs))) ∷ zonings (behind id (pair ∷ pairs))
    by_test later (inl h) =
        let more : nat_lt (length (behind id pairs)) (suc (length pairs)) ≡ true = lt-ltb _ _ (omega (arith, behind_fewer id pairs)) in
        rw (h.0, more, h.1) refl
    by_test later (inr h) =
        let none : nat_lt (length (pair ∷ pairs)) (length (pair ∷ pairs)) ≡ false = le-ltb _ _ (omega arith) in
        rw (h.0, none) (ap (λ rest. zoning id zone false ∷ rest) (sym later))

-- ---- what ascending pairs say of their parcels
-- the pairs have the parcel's first zone, another where it is split, and no other where it is not
pub record IsTold (pairs : List (ℕ × ℕ)) (parcel : Zoning) : Type 0 where
  pub here : Contains pairs (parcel.id, parcel.zone)
  pub more : parcel.is_split ≡ true → (other : ℕ) × (parcel.zone ≢ other) × Contains pairs (parcel.id, other)
  pub alone : parcel.is_split ≡ false → (other : ℕ) → Contains pairs (parcel.id, other) → other ≡ parcel.zone

-- each parcel comes before all later ones
abbrev pub AscendById : List Zoning → Type 0
AscendById [] = ⊤
AscendById (parcel ∷ rest) = AllByRecursion (λ later. parcel.id < later.id) rest × AscendById rest

-- the parcels are those of the pairs, each once
pub record AreTold (pairs : List (ℕ × ℕ)) (parcels : List Zoning) : Type 0 where
  pub up : AscendById parcels
  pub each : (parcel : Zoning) → Contains parcels parcel → IsTold pairs parcel
  pub all : (id zone : ℕ) → Contains pairs (id, zone) → (parcel : Zoning) × Contains parcels parcel × (parcel.id ≡ id)

-- one more pair, and a parcel that it is none of
told_behind : (pair : ℕ × ℕ) (pairs : List (ℕ × ℕ)) (parcel : Zoning) → pair.0 ≢ parcel.id → IsTold pairs parcel
    → IsTold (pair ∷ pairs) parcel
told_behind pair pairs parcel apart h = record {
  here = Contains-there pair pairs _ h.here;
  more = λ e. let m = h.more e in (m.0, m.1, Contains-there pair pairs _ m.2);
  alone = λ e other c. ⊎_elim (λ s. absurd (apart (ap (λ (p : ℕ × ℕ). p.0) s))) (λ l. h.alone e other l)
      (Contains-cases pair pairs (parcel.id, other) c);
}

-- one more pair, which is the first of its parcel
told_first : (pair : ℕ × ℕ) (pairs : List (ℕ × ℕ)) → ((other : ℕ) → Contains pairs (pair.0, other) → ⊥)
    → IsTold (pair ∷ pairs) (zoning pair.0 pair.1 false)
told_first pair pairs none = record {
  here = Contains-here pair pairs;
  more = λ e. absurd (false≢true e);
  alone = λ e other c. ⊎_elim (λ s. sym (ap (λ (p : ℕ × ℕ). p.1) s)) (λ l. absurd (none other l))
      (Contains-cases pair pairs (pair.0, other) c);
}

-- one more pair before parcels that all come later
told_new : (pair : ℕ × ℕ) (pairs : List (ℕ × ℕ)) (parcels : List Zoning) → AllByRecursion (λ later. pair.0 < later.id) parcels
    → AreTold pairs parcels → AreTold (pair ∷ pairs) (zoning pair.0 pair.1 false ∷ parcels)
told_new pair pairs parcels later told =
    let new = zoning pair.0 pair.1 false in
    let none : (other : ℕ) → Contains pairs (pair.0, other) → ⊥ =
    λ other c. let w = told.all pair.0 other c in
    let l : pair.0 < w.0.id = of_each (λ (p : Zoning). pair.0 < p.id) parcels w.0 later w.1 in omega (arith, l, w.2) in
    record {
      up = (later, told.up);
      each = λ parcel c. ⊎_elim
          (λ s. subst (IsTold (pair ∷ pairs)) s (told_first pair pairs none))
          (λ l. told_behind pair pairs parcel
          (λ e. let m : pair.0 < parcel.id = of_each (λ (p : Zoning). pair.0 < p.id) parcels parcel later l in
          omega (arith, m, e)) (told.each parcel l))
          (Contains-cases new parcels parcel c);
      all = λ id zone c. ⊎_elim
          (λ s. (new, Contains-here new parcels, ap (λ (p : ℕ × ℕ). p.0) s))
          (λ l. let w = told.all id zone l in (w.0, Contains-there new parcels w.0 w.1, w.2))
          (Contains-cases pair pairs (id, zone) c);
    }

-- one more pair of the first parcel
told_same : (pair : ℕ × ℕ) (pairs : List (ℕ × ℕ)) (first : Zoning) (rest : List Zoning) → first.id ≡ pair.0
    → pair.1 ≢ first.zone
    → AreTold pairs (first ∷ rest) → AreTold (pair ∷ pairs) (zoning pair.0 pair.1 true ∷ rest)
told_same pair pairs first rest same apart told =
    let new = zoning pair.0 pair.1 true in
    let later : AllByRecursion (λ later. pair.0 < later.id) rest =
    subst (λ n. AllByRecursion (λ later. n < later.id) rest) same told.up.0 in
    let old : IsTold pairs first = told.each first (Contains-here first rest) in
    record {
      up = (later, told.up.1);
      each = λ parcel c. ⊎_elim
          (λ s. subst (IsTold (pair ∷ pairs)) s (record {
            here = Contains-here pair pairs;
            more = λ e. (first.zone, apart, Contains-there pair pairs _ (subst (λ n. Contains pairs (n, first.zone)) same old.here));
            alone = λ e. absurd (false≢true (sym e));
          }))
          (λ l. told_behind pair pairs parcel
          (λ e. let m : pair.0 < parcel.id = of_each (λ (p : Zoning). pair.0 < p.id) rest parcel later l in omega (arith, m, e))
          (told.each parcel (Contains-there first rest parcel l)))
          (Contains-cases new rest parcel c);
      all = λ id zone c. ⊎_elim
          (λ s. (new, Contains-here new rest, ap (λ (p : ℕ × ℕ). p.0) s))
          (λ l. let w = told.all id zone l in
          ⊎_elim
          (λ t. (new, Contains-here new rest, sym same ∙ ap (λ (p : Zoning). p.id) t ∙ w.2))
          (λ m. (w.0, Contains-there new rest w.0 m, w.2))
          (Contains-cases first rest w.0 w.1))
          (Contains-cases pair pairs (id, zone) c);
    }

told_pair : (pair : ℕ × ℕ) (pairs : List (ℕ × ℕ)) (parcels : List Zoning) → AllByRecursion (IsPairBefore pair) pairs
    → AreTold pairs parcels → AreTold (pair ∷ pairs) (with_pair pair parcels)
told_pair pair pairs [] before told = told_new pair pairs [] tt told
told_pair pair pairs (first ∷ rest) before told =
    let old : IsTold pairs first = told.each first (Contains-here first rest) in
    let order : IsPairBefore pair (first.id, first.zone) = of_each (IsPairBefore pair) pairs (first.id, first.zone) before old.here in
    ⊎_elim
    (λ same. rw (same.0)
    (told_same pair pairs first rest same.1
    (λ e. ⊎_elim (λ l. omega (arith, l, same.1)) (λ l. omega (arith, l.1, e)) order) told))
    (λ other. rw (other.0)
    (let less : pair.0 < first.id = ⊎_elim (λ l. l) (λ l. absurd (other.1 (sym l.0))) order in
    told_new pair pairs (first ∷ rest) (
      less,
      AllByRecursion-weaker (λ (p : Zoning). first.id < p.id) (λ (p : Zoning). pair.0 < p.id) (λ p h.
          omega (arith, h, less)) rest told.up.0,
    ) told))
    (eqb_tells first.id pair.0)

pub zonings_told : (pairs : List (ℕ × ℕ)) → AreInPairOrder pairs → AreTold pairs (zonings pairs)
zonings_told [] up = record {
  up = tt;
  each = λ parcel c. absurd (none_in_nil parcel c);
  all =
      λ id zone c. absurd (none_in_nil (id, zone) c);
}
zonings_told (pair ∷ pairs) up = told_pair pair pairs (zonings pairs) up.0 (zonings_told pairs up.1)

-- ---- the parcels that are split, and the others
-- the pairs have two zones of the parcel
abbrev pub HasTwo : List (ℕ × ℕ) → ℕ → Type 0
HasTwo pairs id = (zone : ℕ) × (other : ℕ) × (zone ≢ other) × Contains pairs (id, zone) × Contains pairs (id, other)

two_zones : (pairs : List (ℕ × ℕ)) (parcel : Zoning) (id : ℕ) → IsTold pairs parcel → parcel.id ≡ id
    → parcel.is_split ≡ true → HasTwo pairs id
two_zones pairs parcel id h e split =
    let m = h.more split in
    (parcel.zone, m.0, m.1, subst (λ n. Contains pairs (n, parcel.zone)) e h.here, subst (λ n. Contains pairs (n, m.0)) e m.2)

pub one_zone : (pairs : List (ℕ × ℕ)) (parcel : Zoning) (id : ℕ) → IsTold pairs parcel → parcel.id ≡ id
    → parcel.is_split ≡ false
    → IsOnlyZone pairs id parcel.zone
one_zone pairs parcel id h e single = (
  subst (λ n. Contains pairs (n, parcel.zone)) e h.here,
  λ other c. h.alone single other (subst (λ n. Contains pairs (n, other)) (sym e) c),
)

is_split_of_two : (pairs : List (ℕ × ℕ)) (parcel : Zoning) (id : ℕ) → IsTold pairs parcel → parcel.id ≡ id → HasTwo pairs id
    → parcel.is_split ≡ true
is_split_of_two pairs parcel id h e two =
    ⊎_elim (λ yes. yes)
    (λ no. let one = one_zone pairs parcel id h e no in absurd (two.2 (one.1 two.0 two.3 ∙ sym (one.1 two.1 two.4))))
    (cases_Bool parcel.is_split)

pub single_of_one : (pairs : List (ℕ × ℕ)) (parcel : Zoning) (id zone : ℕ) → IsTold pairs parcel → parcel.id ≡ id
    → IsOnlyZone pairs id zone
    → (parcel.is_split ≡ false) × (parcel.zone ≡ zone)
single_of_one pairs parcel id zone h e one =
    let same : parcel.zone ≡ zone = one.1 parcel.zone (subst (λ n. Contains pairs (n, parcel.zone)) e h.here) in (
      ⊎_elim (λ yes. let m = h.more yes in absurd (m.1 (same ∙ sym (one.1 m.0 (subst (λ n. Contains pairs (n, m.0)) e m.2)))))
          (λ no. no) (cases_Bool parcel.is_split),
      same,
    )

module _ (pairs : List (ℕ × ℕ)) (parcels : List Zoning) (told : AreTold pairs parcels) where
  pub split_exactly : (id : ℕ) → Contains (split_ids parcels) id ↔ HasTwo pairs id
  split_exactly id = (
    (λ c. let m = Contains-from_mapped (λ (p : Zoning). p.id) (filter (λ (p : Zoning). p.is_split) parcels) id c in
        let k = Contains-from_kept (λ (p : Zoning). p.is_split) parcels m.0 m.1 in
        two_zones pairs m.0 id (told.each m.0 k.0) m.2 k.1),
    (λ two. let w = told.all id two.0 two.3 in
        let s = is_split_of_two pairs w.0 id (told.each w.0 w.1) w.2 two in
        subst (Contains (split_ids parcels)) w.2
        (Contains-mapped (λ (p : Zoning). p.id) (filter (λ (p : Zoning). p.is_split) parcels) w.0
        (Contains-kept (λ (p : Zoning). p.is_split) parcels w.0 w.1 s))),
  )

  pub single_exactly : (id zone : ℕ) → Contains (single_zones parcels) (id, zone) ↔ IsOnlyZone pairs id zone
  single_exactly id zone = (
    (λ c. let m = Contains-from_mapped (λ (p : Zoning). (p.id, p.zone)) (filter (λ (p : Zoning). not p.is_split) parcels) (id, zone) c in
        let k = Contains-from_kept (λ (p : Zoning). not p.is_split) parcels m.0 m.1 in
        subst (IsOnlyZone pairs id) (ap (λ (p : ℕ × ℕ). p.1) m.2)
        (one_zone pairs m.0 id (told.each m.0 k.0) (ap (λ (p : ℕ × ℕ). p.0) m.2) (not-true m.0.is_split k.1))),
    (λ one. let w = told.all id zone one.0 in
        let s = single_of_one pairs w.0 id zone (told.each w.0 w.1) w.2 one in
        subst (Contains (single_zones parcels)) (ap (λ n. (n, w.0.zone)) w.2 ∙ ap (λ z. (id, z)) s.1)
        (Contains-mapped (λ (p : Zoning). (p.id, p.zone)) (filter (λ (p : Zoning). not p.is_split) parcels) w.0
        (Contains-kept (λ (p : Zoning). not p.is_split) parcels w.0 w.1 (ap not s.0)))),
  )

  -- a parcel that has a pair is told as one or the other
  pub split_or_single : (id zone : ℕ) → Contains pairs (id, zone)
      → Contains (split_ids parcels) id ⊎ ((only : ℕ) × Contains (single_zones parcels) (id, only))
  split_or_single id zone c =
      let w = told.all id zone c in
      let h = told.each w.0 w.1 in
      ⊎_elim
      (λ yes. inl ((split_exactly id).1 (two_zones pairs w.0 id h w.2 yes)))
      (λ no. inr (w.0.zone, (single_exactly id w.0.zone).1 (one_zone pairs w.0 id h w.2 no)))
      (cases_Bool w.0.is_split)

-- ---- both lists ascend
rising_at : (parcels : List Zoning) → AscendById parcels → (k : ℕ) → suc k < length (map (λ (p : Zoning). p.id) parcels)
    → slice_index (map (λ (p : Zoning). p.id) parcels) k < slice_index (map (λ (p : Zoning). p.id) parcels) (suc k)
rising_at [] up k h = absurd (omega (arith, h))
rising_at (a ∷ []) up k h = absurd (omega (arith, h))
rising_at (a ∷ b ∷ rest) up zero h = up.0.0
rising_at (a ∷ b ∷ rest) up (suc k) h = rising_at (b ∷ rest) up.1 k (omega (arith, h))

rising_ids : (parcels : List Zoning) → AscendById parcels → IsStrictlyIncreasing (map (λ (p : Zoning). p.id) parcels)
rising_ids parcels up k h = rw add-one (rising_at parcels up k (omega (arith, h)))

AscendById-filter : (test : Zoning → Bool) (parcels : List Zoning) → AscendById parcels → AscendById (filter test parcels)
AscendById-filter test [] up = tt
AscendById-filter test (parcel ∷ rest) up = by_test (test parcel) (AscendById-filter test rest up.1)
  where
    by_test : (b : Bool) → AscendById (filter test rest) → AscendById (cond b (parcel ∷ filter test rest) (filter test rest))
    by_test true later = (AllByRecursion-filter (λ (later : Zoning). parcel.id < later.id) test rest up.0, later)
    by_test false later = later

pub splits_rise : (parcels : List Zoning) → AscendById parcels → IsStrictlyIncreasing (split_ids parcels)
splits_rise parcels up = rising_ids (filter (λ (p : Zoning). p.is_split) parcels)
    (AscendById-filter (λ (p : Zoning). p.is_split) parcels up)

firsts : (parcels : List Zoning) → map (λ (p : ℕ × ℕ). p.0) (map (λ (p : Zoning). (p.id, p.zone)) parcels)
    ≡ map (λ (p : Zoning). p.id) parcels
firsts [] = refl
firsts (parcel ∷ rest) = ap (λ ids. parcel.id ∷ ids) (firsts rest)

pub singles_rise : (parcels : List Zoning) → AscendById parcels
    → IsStrictlyIncreasing (map (λ (p : ℕ × ℕ). p.0) (single_zones parcels))
singles_rise parcels up =
    subst IsStrictlyIncreasing (sym (firsts (filter (λ (p : Zoning). not p.is_split) parcels)))
    (rising_ids (filter (λ (p : Zoning). not p.is_split) parcels) (AscendById-filter (λ (p : Zoning). not p.is_split) parcels up))

-- ---- the parcels one after the other
pub next_split : (parcels : List Zoning) (parcel : Zoning) (rest : List Zoning) → parcels ≡ parcel ∷ rest → parcel.is_split ≡ true
    → split_ids parcels ≡ parcel.id ∷ split_ids rest
next_split parcels parcel rest e split =
    ap split_ids e
    ∙ ap (λ b. map (λ (p : Zoning). p.id) (cond b (parcel ∷ filter (λ (p : Zoning). p.is_split) rest)
    (filter (λ (p : Zoning). p.is_split) rest))) split

pub next_single : (parcels : List Zoning) (parcel : Zoning) (rest : List Zoning) → parcels ≡ parcel ∷ rest
    → not parcel.is_split ≡ true
    → single_zones parcels ≡ (parcel.id, parcel.zone) ∷ single_zones rest
next_single parcels parcel rest e single =
    ap single_zones e
    ∙ ap (λ b. map (λ (p : Zoning). (p.id, p.zone))
    (cond b (parcel ∷ filter (λ (p : Zoning). not p.is_split) rest) (filter (λ (p : Zoning). not p.is_split) rest))) single
