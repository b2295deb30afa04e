-- The limits of a layer, for rows that are put in where others are taken out.
use Rattle.std.proofs.Common.{◌≡◌, ◌≢◌, ◌↔◌, refl, sym, ◌∙◌, ap, subst, arith, Bool, true, false, cond, not, ℕ}
use Rattle.std.proofs.Common.{zero, suc, ◌+◌, ◌-◌, ◌<◌, ◌≤◌}
use Rattle.std.proofs.Common.{List, [], ◌∷◌, ◌++◌, length, take, get_or}
use Rattle.std.specs.Prelude.{nat_eq, nat_lt}
use Rattle.std.specs.List.{AllByRecursion, AllPairs, Contains, filter, list_any}
use Rattle.std.proofs.lemmas.List.{length-take, get_or-take, get_or_default, length-append, map-append, take_more}
use Rattle.geo_exact.specs.declared.corner.Corner.{Corner}
use Rattle.geo_exact.specs.declared.limits.TheConstants.{LAYER_CORNERS, RING_CORNERS}
use Rattle.geo_exact.specs.Layers.{NumberedRing, numbered, corner_count}
use Rattle.fabric_core.specs.own.Balanced.{Ascend}
use Rattle.fabric_core.specs.declared.journal.Row.{Row}
use Rattle.fabric_core.specs.JournalRows.{row_of}
use Rattle.fabric_core.specs.own.EntryRows.{rows_of_entry}
use Rattle.fabric_core.specs.EditResults.{AreWithinLayerLimits}
use Rattle.fabric_core.specs.Journal.{without_ids, with_row, with_rows}
use Rattle.fabric_core.specs.own.Changes.{AddWithin}
use Rattle.fabric_core.proofs.edits.NewShapes.{short_at}
use Rattle.fabric_core.proofs.rows.RowLists.{AllByRecursion-filter, Ascend-filter, Contains-without, without_both, IsOneLess, one_less_row}

-- ---- a row that is put in
module _ (row : NumberedRing) where
  with_row_corners : (rows : List NumberedRing) → corner_count (with_row row rows) ≡ length row.corners + corner_count rows
  with_row_corners [] = refl
  with_row_corners (other ∷ rest) = by_test (nat_lt row.number other.number) (with_row_corners rest)
    where
      by_test : (b : Bool) → corner_count (with_row row rest) ≡ length row.corners + corner_count rest
          → corner_count (cond b (row ∷ other ∷ rest) (other ∷ with_row row rest)) ≡ length row.corners
          + (length other.corners + corner_count rest)
      by_test true h = refl
      by_test false h = omega (arith, h)

  with_row_length : (rows : List NumberedRing) → length (with_row row rows) ≡ length rows + 1
  with_row_length [] = refl
  with_row_length (other ∷ rest) = by_test (nat_lt row.number other.number) (with_row_length rest)
    where
      by_test : (b : Bool) → length (with_row row rest) ≡ length rest + 1
          → length (cond b (row ∷ other ∷ rest) (other ∷ with_row row rest)) ≡ length (other ∷ rest) + 1
      by_test true h = omega arith
      by_test false h = omega (arith, h)

  module _ (P : NumberedRing → Type 0) where
    with_row_all : (rows : List NumberedRing) → P row → AllByRecursion P rows → AllByRecursion P (with_row row rows)
    with_row_all [] h k = (h, tt)
    with_row_all (other ∷ rest) h k = by_test (nat_lt row.number other.number) (with_row_all rest h k.1)
      where
        by_test : (b : Bool) → AllByRecursion P (with_row row rest)
            → AllByRecursion P (cond b (row ∷ other ∷ rest) (other ∷ with_row row rest))
        by_test true later = (h, k)
        by_test false later = (k.0, later)

    with_row_parts : (rows : List NumberedRing) → AllByRecursion P (with_row row rows) → P row × AllByRecursion P rows
    with_row_parts [] h = (h.0, tt)
    with_row_parts (other ∷ rest) h = by_test (nat_lt row.number other.number) h (with_row_parts rest)
      where
        by_test : (b : Bool) → AllByRecursion P (cond b (row ∷ other ∷ rest) (other ∷ with_row row rest))
            → (AllByRecursion P (with_row row rest) → P row × AllByRecursion P rest) → P row × AllByRecursion P (other ∷ rest)
        by_test true k later = (k.0, k.1)
        by_test false k later = ((later k.1).0, (k.0, (later k.1).1))

-- ---- rows that are put in, one after the other
pub with_rows_corners : (news rows : List NumberedRing) → corner_count (with_rows news rows) ≡ corner_count rows + corner_count news
with_rows_corners [] rows = omega arith
with_rows_corners (new ∷ news) rows = omega (arith, with_rows_corners news (with_row new rows), with_row_corners new rows)

pub with_rows_length : (news rows : List NumberedRing) → length (with_rows news rows) ≡ length rows + length news
with_rows_length [] rows = omega arith
with_rows_length (new ∷ news) rows = omega (arith, with_rows_length news (with_row new rows), with_row_length new rows)

module _ (P : NumberedRing → Type 0) where
  with_rows_all : (news rows : List NumberedRing) → AllByRecursion P news → AllByRecursion P rows
      → AllByRecursion P (with_rows news rows)
  with_rows_all [] rows h k = k
  with_rows_all (new ∷ news) rows h k = with_rows_all news (with_row new rows) h.1 (with_row_all new P rows h.0 k)

  pub with_rows_news : (news rows : List NumberedRing) → AllByRecursion P (with_rows news rows)
      → AllByRecursion P news × AllByRecursion P rows
  with_rows_news [] rows h = (tt, h)
  with_rows_news (new ∷ news) rows h =
      let w = with_rows_news news (with_row new rows) h in let v = with_row_parts new P rows w.1 in ((v.0, w.0), v.1)

-- the rows keep to the limits just where the new ones do, together with what stays
pub adds_within : (news rest : List NumberedRing) → AllByRecursion (λ row. length row.corners ≤ RING_CORNERS) rest
    → AddWithin (corner_count rest) (length rest) news ↔ AreWithinLayerLimits (with_rows news rest)
adds_within news rest short = (
  λ h. record {
    corners = record {
      each = with_rows_all (λ row. length row.corners ≤ RING_CORNERS) news rest h.each short;
      together = omega (arith, h.together, with_rows_corners news rest);
    };
    number = omega (arith, h.number, with_rows_length news rest);
  },
  λ h. record {
    each = (with_rows_news (λ row. length row.corners ≤ RING_CORNERS) news rest h.corners.each).0;
    together = omega (arith, h.corners.together, with_rows_corners news rest);
    number = omega (arith, h.number, with_rows_length news rest);
  },
)

-- ---- rows that are taken out, one after the other
pub without_none : (rows : List NumberedRing) → without_ids [] rows ≡ rows
without_none [] = refl
without_none (row ∷ rows) = ap (λ xs. row ∷ xs) (without_none rows)

pub without_last : (ids : List ℕ) (id : ℕ) (rows : List NumberedRing) → without_ids (ids ++ id ∷ []) rows
    ≡ without_ids (id ∷ []) (without_ids ids rows)
without_last [] id rows = ap (without_ids (id ∷ [])) (sym (without_none rows))
without_last (a ∷ ids) id rows =
    without_both a (ids ++ id ∷ []) rows ∙ without_last ids id (without_ids (a ∷ []) rows)
    ∙ ap (without_ids (id ∷ [])) (sym (without_both a ids rows))

-- so many corners and rows are left
pub record AreLeft (rows : List NumberedRing) (ids : List ℕ) (corners : ℕ) : Type 0 where
  pub corners_are : corners ≡ corner_count (without_ids ids rows)
  pub number_is : length (without_ids ids rows) + length ids ≡ length rows

pub none_out : (rows : List NumberedRing) → AreLeft rows [] (corner_count rows)
none_out rows = record {
  corners_are = ap corner_count (sym (without_none rows));
  number_is = omega (arith, ap (λ (xs : List NumberedRing). length xs) (without_none rows));
}

-- an id that comes once is not among those before it
not_before : (ids : List ℕ) (k : ℕ) → AllPairs (λ a b. a ≢ b) ids → k < length ids → ¬ Contains (take k ids) (get_or ids k 0)
not_before ids k apart h c =
    let id = get_or ids k 0 in
    let before : c.0 < k = omega (arith, c.1, length-take k ids) in
    let in_ids : c.0 < length ids = omega arith in
    let at : get_or ids c.0 0 ≡ id = get_or_default ids c.0 0 id in_ids ∙ sym (get_or-take k ids c.0 id before) ∙ c.2 in
    apart c.0 k 0 before h at

pub one_out : (rows : List NumberedRing) (ids : List ℕ) (k corners : ℕ) (ring : List Corner) → Ascend rows
    → AllPairs (λ a b. a ≢ b) ids
    → k < length ids → Contains rows (numbered (get_or ids k 0) ring) → AreLeft rows (take k ids) corners
    → IsOneLess (without_ids (take k ids) rows) (without_ids (take k ids ++ get_or ids k 0 ∷ []) rows) ring
one_out rows ids k corners ring up apart h is_row left =
    let id = get_or ids k 0 in
    subst (λ rest. IsOneLess (without_ids (take k ids) rows) rest ring) (sym (without_last (take k ids) id rows))
    (one_less_row id ring (without_ids (take k ids) rows)
    (Ascend-filter (λ row. not (list_any (nat_eq row.number) (take k ids))) rows up)
    (Contains-without (take k ids) rows (numbered id ring) is_row (not_before ids k apart h)))

-- what is left behind one id more
pub left_after : (rows : List NumberedRing) (ids : List ℕ) (k corners count : ℕ) (ring : List Corner) → Ascend rows
    → AllPairs (λ a b. a ≢ b) ids
    → k < length ids → Contains rows (numbered (get_or ids k 0) ring) → count ≡ length ring → AreLeft rows (take k ids) corners
    → (count ≤ corners) × AreLeft rows (take k ids ++ get_or ids k 0 ∷ []) (corners - count)
left_after rows ids k corners count ring up apart h is_row e left =
    let less = one_out rows ids k corners ring up apart h is_row left in (
      omega (arith, less.corners, left.corners_are, e),
      record {
        corners_are = omega (arith, less.corners, left.corners_are, e);
        number_is = omega (arith, less.number, left.number_is, length-append (take k ids) (get_or ids k 0 ∷ []));
      },
    )

pub fewer_corners : (p : NumberedRing → Bool) (rows : List NumberedRing) → corner_count (filter p rows) ≤ corner_count rows
fewer_corners p [] = omega arith
fewer_corners p (row ∷ rows) = by_test (p row) (fewer_corners p rows)
  where
    by_test : (b : Bool) → corner_count (filter p rows) ≤ corner_count rows
        → corner_count (cond b (row ∷ filter p rows) (filter p rows)) ≤ length row.corners + corner_count rows
    by_test true h = omega (arith, h)
    by_test false h = omega (arith, h)

-- ---- new rows that are gone through
module _ {A : Type 0} where
  pub entry_more : (rows : List (Row A)) (k : ℕ) (row : Row A) → k < length rows → row ≡ get_or rows k row
      → rows_of_entry (take (k + 1) rows) ≡ rows_of_entry (take k rows) ++ row_of row ∷ []
  entry_more rows k row h is =
      ap rows_of_entry (take_more rows k row h) ∙ map-append row_of (take k rows) (get_or rows k row ∷ [])
      ∙ ap (λ (r : Row A). rows_of_entry (take k rows) ++ row_of r ∷ []) (sym is)

  pub up_to : (rows : List (Row A)) (k : ℕ) (row : Row A) → k < length rows → row ≡ get_or rows k row
      → corner_count (rows_of_entry (take k rows)) + length row.corners ≤ corner_count (rows_of_entry rows)
  up_to [] k row h is = absurd (omega (arith, h))
  up_to (r ∷ rows) zero row h is = omega (arith, ap (λ (x : Row A). length x.corners) is)
  up_to (r ∷ rows) (suc k) row h is = omega (arith, up_to rows k row (omega (arith, h)) is)

  pub one_too_long : (rows : List (Row A)) (corners parcels k : ℕ) (row : Row A) → k < length rows → row ≡ get_or rows k row
      → RING_CORNERS < length row.corners → ¬ AddWithin corners parcels (rows_of_entry rows)
  one_too_long rows corners parcels k row h is long within = absurd (omega (arith, long, short_at rows k row h is within.each))

  pub all_too_long : (rows : List (Row A)) (corners parcels k : ℕ) (row : Row A) → k < length rows → row ≡ get_or rows k row
      → LAYER_CORNERS < corners + corner_count (rows_of_entry (take k rows)) + length row.corners
      → ¬ AddWithin corners parcels (rows_of_entry rows)
  all_too_long rows corners parcels k row h is long within = absurd (omega (arith, long, up_to rows k row h is, within.together))

-- what is left when some go, with what comes
pub changed_within : (rows news entries : List NumberedRing) (out ids : List ℕ) (left parcels : ℕ) → ids ≡ out → entries ≡ news
    → left ≡ corner_count (without_ids ids rows) → parcels ≡ length (without_ids ids rows)
    → AllByRecursion (λ row. length row.corners ≤ RING_CORNERS) rows
    → AddWithin left parcels entries ↔ AreWithinLayerLimits (with_rows news (without_ids out rows))
changed_within rows news entries out ids left parcels same_ids same_rows corners number short =
    let rest = without_ids ids rows in
    let few : AllByRecursion (λ row. length row.corners ≤ RING_CORNERS) rest =
    AllByRecursion-filter (λ row. length row.corners ≤ RING_CORNERS)
    (λ row. not (list_any (nat_eq row.number) ids)) rows short in
    subst (λ xs. AddWithin left parcels entries ↔ AreWithinLayerLimits (with_rows news (without_ids xs rows))) same_ids
    (subst (λ xs. AddWithin left parcels xs ↔ AreWithinLayerLimits (with_rows news rest)) (sym same_rows)
    (subst (λ n. AddWithin left n news ↔ AreWithinLayerLimits (with_rows news rest)) (sym number)
    (subst (λ n. AddWithin n (length rest) news ↔ AreWithinLayerLimits (with_rows news rest)) (sym corners)
    (adds_within news rest few))))
