-- Tables that are made parcel by parcel, and zone by zone.
use Rattle.std.proofs.Common.{◌≡◌, ◌⊎◌, inl, inr, ⊎_elim, refl, sym, ◌∙◌, ap, subst, arith, ℕ, ◌<◌, List, []}
use Rattle.std.proofs.Common.{◌∷◌, ◌++◌, map, append_assoc, append-nil}
use Rattle.std.specs.Prelude.{◌↔◌}
use Rattle.std.specs.List.{AllByRecursion, Contains}
use Rattle.std.specs.List.Sorted.{IsStrictlyIncreasing}
use Rattle.std.proofs.lemmas.List.Elements.{Contains-append_left, Contains-append_right, Contains-append_cases}
use Rattle.geo_exact.specs.declared.corner.Corner.{Corner}
use Rattle.geo_exact.specs.Interiors.{InteriorsMeet}
use Rattle.geo_exact.specs.Layers.{NumberedRing, numbered}
use Rattle.edge_chains.proofs.nodings.NodedEdges.{none_in_nil, Contains-here, Contains-cases, all_from_contains}
use Rattle.fabric_core.specs.Rows.{numbers}
use Rattle.fabric_core.specs.own.Balanced.{Ascend}
use Rattle.fabric_core.proofs.tilings.OneParcel.{of_each}
use Rattle.fabric_core.proofs.rows.RowLists.{ascending, AllByRecursion-append}
use Rattle.zone_tables.specs.Overlap.{Overlaps, IsPairBefore, AreInPairOrder, IsOverlapTable}

-- ---- pairs behind pairs
ordered_both : (xs ys : List (ℕ × ℕ)) → AreInPairOrder xs → AreInPairOrder ys
    → ((x y : ℕ × ℕ) → Contains xs x → Contains ys y → IsPairBefore x y) → AreInPairOrder (xs ++ ys)
ordered_both [] ys up ups h = ups
ordered_both (x ∷ xs) ys up ups h = (
  AllByRecursion-append (IsPairBefore x) xs ys up.0 (all_from_contains (IsPairBefore x) ys (λ y c. h x y (Contains-here x xs) c)),
  ordered_both xs ys up.1 ups (λ w y c d. h w y (Contains-there' x xs w c) d),
)
  where
    Contains-there' : (x : ℕ × ℕ) (xs : List (ℕ × ℕ)) (c : ℕ × ℕ) → Contains xs c → Contains (x ∷ xs) c
    Contains-there' x xs c h = Contains-append_right (x ∷ []) xs c h

-- what comes before another row in ascending rows is below it
below_row : (done : List NumberedRing) (row : NumberedRing) (rest : List NumberedRing) → Ascend (done ++ row ∷ rest)
    → (other : NumberedRing) → Contains done other → other.number < row.number
below_row [] row rest up other c = absurd (none_in_nil other c)
below_row (first ∷ done) row rest up other c = ⊎_elim
    (λ s. subst (λ (r : NumberedRing). r.number < row.number) s
    (of_each (λ (later : NumberedRing). first.number < later.number) (done ++ row ∷ rest) row up.0
    (Contains-append_right done (row ∷ rest) row (Contains-here row rest))))
    (λ l. below_row done row rest up.1 other l)
    (Contains-cases first done other c)

-- ---- one zone more
module _ (row : NumberedRing) (done : List NumberedRing) (zone : NumberedRing) (mine : List (ℕ × ℕ))
    (table : IsOverlapTable (row ∷ []) done mine) where
  -- a pair of the row and the zones so far is one of it and all zones
  wider : (id other : ℕ) → Overlaps (row ∷ []) done id other → Overlaps (row ∷ []) (done ++ zone ∷ []) id other
  wider id other h = record {
    parcel = h.parcel;
    is_row = h.is_row;
    has_id = h.has_id;
    region = h.region;
    is_zone = Contains-append_left done (zone ∷ []) h.region h.is_zone;
    has_zone = h.has_zone;
    interiors_meet = h.interiors_meet;
  }

  is_the_row : (other : NumberedRing) → Contains (row ∷ []) other → row ≡ other
  is_the_row other c = ⊎_elim (λ s. s) (λ l. absurd (none_in_nil other l)) (Contains-cases row [] other c)

  -- a pair of the row and all zones is one of the zones so far, or the last
  narrower : (id other : ℕ) → Overlaps (row ∷ []) (done ++ zone ∷ []) id other
      → Overlaps (row ∷ []) done id other ⊎ ((row.number ≡ id) × (zone.number ≡ other) × InteriorsMeet row.corners zone.corners)
  narrower id other h = ⊎_elim
      (λ l. inl (record {
        parcel = h.parcel;
        is_row = h.is_row;
        has_id = h.has_id;
        region = h.region;
        is_zone = l;
        has_zone = h.has_zone;
        interiors_meet = h.interiors_meet;
      }))
      (λ l. let same : zone ≡ h.region = ⊎_elim (λ s. s) (λ n. absurd (none_in_nil h.region n))
      (Contains-cases zone [] h.region l) in
      let it = is_the_row h.parcel h.is_row in
      inr (
        ap (λ (r : NumberedRing). r.number) it ∙ h.has_id,
        ap (λ (r : NumberedRing). r.number) same ∙ h.has_zone,
        subst (λ (r : NumberedRing). InteriorsMeet r.corners zone.corners) (sym it)
            (subst (λ (r : NumberedRing). InteriorsMeet h.parcel.corners r.corners) (sym same) h.interiors_meet),
      ))
      (Contains-append_cases done (zone ∷ []) h.region h.is_zone)

  pub zone_apart : ¬ InteriorsMeet row.corners zone.corners → IsOverlapTable (row ∷ []) (done ++ zone ∷ []) mine
  zone_apart apart = record {
    ascend = table.ascend;
    exactly = λ id other. (
      (λ c. wider id other ((table.exactly id other).0 c)),
      (λ h. ⊎_elim (λ l. (table.exactly id other).1 l) (λ l. absurd (apart l.2)) (narrower id other h)),
    );
  }

  pub zone_meets : ((other : NumberedRing) → Contains done other → other.number < zone.number)
      → InteriorsMeet row.corners zone.corners
      → IsOverlapTable (row ∷ []) (done ++ zone ∷ []) (mine ++ (row.number, zone.number) ∷ [])
  zone_meets below meets =
      let new : ℕ × ℕ = (row.number, zone.number) in record {
        ascend = ordered_both mine (new ∷ []) table.ascend (tt, tt)
            (λ x y c d. let h = (table.exactly x.0 x.1).0 c in
            let is_new : new ≡ y = ⊎_elim (λ s. s) (λ n. absurd (none_in_nil y n)) (Contains-cases new [] y d) in
            let lower : h.region.number < zone.number = below h.region h.is_zone in
            subst (IsPairBefore x) is_new
            (inr (
              sym h.has_id ∙ sym (ap (λ (r : NumberedRing). r.number) (is_the_row h.parcel h.is_row)),
              subst (λ n. n < zone.number) h.has_zone lower,
            )));
        exactly = λ id other. (
          (λ c. ⊎_elim
              (λ l. wider id other ((table.exactly id other).0 l))
              (λ l. let is_new : new ≡ (id, other) = ⊎_elim (λ s. s) (λ n. absurd (none_in_nil (id, other) n))
              (Contains-cases new [] (id, other) l) in
              record {
                parcel = row;
                is_row = Contains-here row [];
                has_id = ap (λ (p : ℕ × ℕ). p.0) is_new;
                region = zone;
                is_zone = Contains-append_right done (zone ∷ []) zone (Contains-here zone []);
                has_zone = ap (λ (p : ℕ × ℕ). p.1) is_new;
                interiors_meet = meets;
              })
              (Contains-append_cases mine (new ∷ []) (id, other) c)),
          (λ h. ⊎_elim
              (λ l. Contains-append_left mine (new ∷ []) (id, other) ((table.exactly id other).1 l))
              (λ l. Contains-append_right mine (new ∷ []) (id, other)
              (subst (Contains (new ∷ [])) (ap (λ n. (n, zone.number)) l.0 ∙ ap (λ n. (id, n)) l.1) (Contains-here new [])))
              (narrower id other h)),
        );
      }

-- ---- one row more
module _ (done : List NumberedRing) (row : NumberedRing) (zones : List NumberedRing) (pairs own : List (ℕ × ℕ))
    (table : IsOverlapTable done zones pairs) (last : IsOverlapTable (row ∷ []) zones own)
    (below : (other : NumberedRing) → Contains done other → other.number < row.number) where
  from_rows : (rows : List NumberedRing) (all : List NumberedRing) → ((r : NumberedRing) → Contains rows r
      → Contains all r) → (id zone : ℕ)
      → Overlaps rows zones id zone → Overlaps all zones id zone
  from_rows rows all more id zone h = record {
    parcel = h.parcel;
    is_row = more h.parcel h.is_row;
    has_id = h.has_id;
    region = h.region;
    is_zone = h.is_zone;
    has_zone = h.has_zone;
    interiors_meet = h.interiors_meet;
  }

  of_either : (id zone : ℕ) → Overlaps (done ++ row ∷ []) zones id zone → Overlaps done zones id zone
      ⊎ Overlaps (row ∷ []) zones id zone
  of_either id zone h = ⊎_elim
      (λ l. inl (record {
        parcel = h.parcel;
        is_row = l;
        has_id = h.has_id;
        region = h.region;
        is_zone = h.is_zone;
        has_zone = h.has_zone;
        interiors_meet = h.interiors_meet;
      }))
      (λ l. inr (record {
        parcel = h.parcel;
        is_row = l;
        has_id = h.has_id;
        region = h.region;
        is_zone = h.is_zone;
        has_zone = h.has_zone;
        interiors_meet = h.interiors_meet;
      }))
      (Contains-append_cases done (row ∷ []) h.parcel h.is_row)

  pub row_more : IsOverlapTable (done ++ row ∷ []) zones (pairs ++ own)
  row_more = record {
    ascend = ordered_both pairs own table.ascend last.ascend
        (λ x y c d. let h = (table.exactly x.0 x.1).0 c in
        let k = (last.exactly y.0 y.1).0 d in
        let same : row ≡ k.parcel = ⊎_elim (λ s. s) (λ n. absurd (none_in_nil k.parcel n))
        (Contains-cases row [] k.parcel k.is_row) in
        let lower : h.parcel.number < row.number = below h.parcel h.is_row in
        inl (omega (arith, lower, h.has_id, k.has_id, ap (λ (r : NumberedRing). r.number) same)));
    exactly = λ id zone. (
      (λ c. ⊎_elim
          (λ l. from_rows done (done ++ row ∷ []) (λ r m. Contains-append_left done (row ∷ []) r m) id zone
          ((table.exactly id zone).0 l))
          (λ l. from_rows (row ∷ []) (done ++ row ∷ []) (λ r m. Contains-append_right done (row ∷ []) r m) id zone
          ((last.exactly id zone).0 l))
          (Contains-append_cases pairs own (id, zone) c)),
      (λ h. ⊎_elim
          (λ l. Contains-append_left pairs own (id, zone) ((table.exactly id zone).1 l))
          (λ l. Contains-append_right pairs own (id, zone) ((last.exactly id zone).1 l))
          (of_either id zone h)),
    );
  }

-- ---- the loops
no_overlap_in_none : (zones : List NumberedRing) (id zone : ℕ) → Overlaps [] zones id zone → ⊥
no_overlap_in_none zones id zone h = none_in_nil h.parcel h.is_row

no_overlap_with_none : (rows : List NumberedRing) (id zone : ℕ) → Overlaps rows [] id zone → ⊥
no_overlap_with_none rows id zone h = none_in_nil h.region h.is_zone

-- of all rows these are left, and the pairs are those of the others
pub record AreSoFar (rows zones left : List NumberedRing) (pairs : List (ℕ × ℕ)) : Type 0 where
  pub done : List NumberedRing
  pub are_all : done ++ left ≡ rows
  pub table : IsOverlapTable done zones pairs

pub no_row_yet : (rows zones : List NumberedRing) → AreSoFar rows zones rows []
no_row_yet rows zones = record {
  done = [];
  are_all = refl;
  table = record {
    ascend = tt;
    exactly = λ id zone. ((λ c. absurd (none_in_nil (id, zone) c)), (λ h. absurd (no_overlap_in_none zones id zone h)));
  };
}

pub next_row : (rows zones left : List NumberedRing) (pairs own : List (ℕ × ℕ)) (row : NumberedRing) (rest : List NumberedRing)
    → IsStrictlyIncreasing (numbers rows) → AreSoFar rows zones left pairs → left ≡ row ∷ rest
    → IsOverlapTable (row ∷ []) zones own
    → AreSoFar rows zones rest (pairs ++ own)
next_row rows zones left pairs own row rest up h e last =
    let all : h.done ++ row ∷ rest ≡ rows = ap (λ t. h.done ++ t) (sym e) ∙ h.are_all in record {
      done = h.done ++ row ∷ [];
      are_all = append_assoc h.done (row ∷ []) rest ∙ all;
      table = row_more h.done row zones pairs own h.table last (below_row h.done row rest (subst Ascend (sym all) (ascending rows up)));
    }

pub all_rows : (rows zones left : List NumberedRing) (pairs : List (ℕ × ℕ)) → AreSoFar rows zones left pairs
    → left ≡ [] → IsOverlapTable rows zones pairs
all_rows rows zones left pairs h e =
    subst (λ all. IsOverlapTable all zones pairs) (sym (append-nil h.done) ∙ ap (λ t. h.done ++ t) (sym e) ∙ h.are_all) h.table

-- the same of zones
pub record AreZonesSoFar (row : NumberedRing) (zones left : List NumberedRing) (pairs : List (ℕ × ℕ)) : Type 0 where
  pub done : List NumberedRing
  pub are_all : done ++ left ≡ zones
  pub table : IsOverlapTable (row ∷ []) done pairs

pub no_zone_yet : (row : NumberedRing) (zones : List NumberedRing) → AreZonesSoFar row zones zones []
no_zone_yet row zones = record {
  done = [];
  are_all = refl;
  table = record {
    ascend = tt;
    exactly = λ id zone. ((λ c. absurd (none_in_nil (id, zone) c)), (λ h. absurd (no_overlap_with_none (row ∷ []) id zone h)));
  };
}

module _ (row : NumberedRing) (zones left : List NumberedRing) (pairs : List (ℕ × ℕ)) (zone : NumberedRing) (rest : List NumberedRing)
    (h : AreZonesSoFar row zones left pairs) (e : left ≡ zone ∷ rest) where
  all_zones_then : h.done ++ zone ∷ rest ≡ zones
  all_zones_then = ap (λ t. h.done ++ t) (sym e) ∙ h.are_all

  pub next_zone_apart : ¬ InteriorsMeet row.corners zone.corners → AreZonesSoFar row zones rest pairs
  next_zone_apart apart = record {
    done = h.done ++ zone ∷ [];
    are_all = append_assoc h.done (zone ∷ []) rest ∙ all_zones_then;
    table = zone_apart row h.done zone pairs h.table apart;
  }

  pub next_zone_meets : IsStrictlyIncreasing (numbers zones) → InteriorsMeet row.corners zone.corners
      → AreZonesSoFar row zones rest (pairs ++ (row.number, zone.number) ∷ [])
  next_zone_meets up meets = record {
    done = h.done ++ zone ∷ [];
    are_all = append_assoc h.done (zone ∷ []) rest ∙ all_zones_then;
    table = zone_meets row h.done zone pairs h.table
        (below_row h.done zone rest (subst Ascend (sym all_zones_then) (ascending zones up))) meets;
  }

pub all_zones : (row : NumberedRing) (zones left : List NumberedRing) (pairs : List (ℕ × ℕ))
    → AreZonesSoFar row zones left pairs → left ≡ []
    → IsOverlapTable (row ∷ []) zones pairs
all_zones row zones left pairs h e =
    subst (λ all. IsOverlapTable (row ∷ []) all pairs) (sym (append-nil h.done) ∙ ap (λ t. h.done ++ t) (sym e) ∙ h.are_all) h.table
