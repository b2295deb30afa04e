-- All corners of rows and of entries: of lists joined, and one item more.
use Rattle.std.proofs.Common.{◌≡◌, refl, sym, ◌∙◌, ap, subst, arith, ℕ, zero, suc, ◌+◌, ◌<◌, List, [], ◌∷◌, ◌++◌, length, take, get_or}
use Rattle.std.proofs.Common.{append_assoc}
use Rattle.std.specs.List.{AllByRecursion, AllZip}
use Rattle.std.proofs.lemmas.List.{append-nil, map-append, take_more}
use Rattle.std.proofs.lemmas.Slice.Zip.{all_zipped_more}
use Rattle.geo_exact.specs.Layers.{NumberedRing}
use Rattle.scaled_rings.specs.Tenfold.{IsNear}
use Rattle.scaled_rings.specs.TenfoldEdits.{corners_of_edit}
use Rattle.scaled_rings.proofs.Lists.{near_append, near_left, near_right}
use Rattle.fabric_core.specs.declared.journal.Row.{Row}
use Rattle.fabric_core.specs.Journal.{JournalEntry}
use Rattle.fabric_core.specs.JournalRows.{row_of}
use Rattle.fabric_core.specs.Tenfold.{IsTenfoldRow, IsTenfoldEntry, corners_of_rows, corners_of_entries}
use Rattle.fabric_core.specs.own.EntryRows.{rows_of_entry}

pub corners_of_rows-append : (rows others : List NumberedRing)
    → corners_of_rows (rows ++ others) ≡ corners_of_rows rows ++ corners_of_rows others
corners_of_rows-append [] others = refl
corners_of_rows-append (row ∷ rows) others =
    ap (λ cs. row.corners ++ cs) (corners_of_rows-append rows others)
    ∙ sym (append_assoc row.corners (corners_of_rows rows) (corners_of_rows others))

pub corners_of_rows-push : (rows : List NumberedRing) (row : NumberedRing)
    → corners_of_rows (rows ++ row ∷ []) ≡ corners_of_rows rows ++ row.corners
corners_of_rows-push rows row =
    corners_of_rows-append rows (row ∷ []) ∙ ap (λ cs. corners_of_rows rows ++ cs) (append-nil row.corners)

module _ {A : Type 0} where
  -- one row more
  pub corners_more : (rows : List (Row A)) (i : ℕ) (row : Row A) → i < length rows → row ≡ get_or rows i row
      → corners_of_rows (rows_of_entry (take (i + 1) rows)) ≡ corners_of_rows (rows_of_entry (take i rows)) ++ row.corners
  corners_more rows i row h is =
      ap (λ xs. corners_of_rows (rows_of_entry xs)) (take_more rows i row h)
      ∙ ap corners_of_rows (map-append row_of (take i rows) (get_or rows i row ∷ []))
      ∙ ap (λ (x : Row A). corners_of_rows (rows_of_entry (take i rows) ++ row_of x ∷ [])) (sym is)
      ∙ corners_of_rows-push (rows_of_entry (take i rows)) (row_of row)

  pub corners_of_entries-append : (entries others : List (JournalEntry A))
      → corners_of_entries (entries ++ others) ≡ corners_of_entries entries ++ corners_of_entries others
  corners_of_entries-append [] others = refl
  corners_of_entries-append (entry ∷ entries) others =
      ap (λ cs. (corners_of_edit entry.edit ++ corners_of_rows entry.rows) ++ cs) (corners_of_entries-append entries others)
      ∙ sym (append_assoc (corners_of_edit entry.edit ++ corners_of_rows entry.rows) (corners_of_entries entries)
      (corners_of_entries others))

  -- one entry more
  pub entries_more : (entries : List (JournalEntry A)) (i : ℕ) (entry : JournalEntry A) → i < length entries
      → entry ≡ get_or entries i entry
      → corners_of_entries (take (i + 1) entries)
      ≡ (corners_of_entries (take i entries) ++ corners_of_edit entry.edit) ++ corners_of_rows entry.rows
  entries_more entries i entry h is =
      ap corners_of_entries (take_more entries i entry h)
      ∙ ap (λ (x : JournalEntry A). corners_of_entries (take i entries ++ x ∷ [])) (sym is)
      ∙ corners_of_entries-append (take i entries) (entry ∷ [])
      ∙ ap (λ cs. corners_of_entries (take i entries) ++ cs) (append-nil (corners_of_edit entry.edit ++ corners_of_rows entry.rows))
      ∙ sym (append_assoc (corners_of_entries (take i entries)) (corners_of_edit entry.edit) (corners_of_rows entry.rows))

-- ---- what is near in all corners is near in each row and entry
module _ {A : Type 0} where
  pub near_row : (rows : List (Row A)) (i : ℕ) (row : Row A) → i < length rows → row ≡ get_or rows i row
      → AllByRecursion IsNear (corners_of_rows (rows_of_entry rows)) → AllByRecursion IsNear row.corners
  near_row [] i row h is near = absurd (omega (arith, h))
  near_row (first ∷ rows) zero row h is near =
      subst (λ (x : Row A). AllByRecursion IsNear x.corners) (sym is) (near_left first.corners (corners_of_rows (rows_of_entry rows)) near)
  near_row (first ∷ rows) (suc i) row h is near =
      near_row rows i row (omega (arith, h)) is (near_right first.corners (corners_of_rows (rows_of_entry rows)) near)

  pub near_edit : (entry : JournalEntry A) → AllByRecursion IsNear (corners_of_entries (entry ∷ []))
      → AllByRecursion IsNear (corners_of_edit entry.edit)
  near_edit entry near =
      near_left (corners_of_edit entry.edit) (corners_of_rows entry.rows)
      (near_left (corners_of_edit entry.edit ++ corners_of_rows entry.rows) [] near)

  pub near_news : (entry : JournalEntry A) → AllByRecursion IsNear (corners_of_entries (entry ∷ []))
      → AllByRecursion IsNear (corners_of_rows entry.rows)
  near_news entry near =
      near_right (corners_of_edit entry.edit) (corners_of_rows entry.rows)
      (near_left (corners_of_edit entry.edit ++ corners_of_rows entry.rows) [] near)

  pub near_entry : (entries : List (JournalEntry A)) (i : ℕ) (entry : JournalEntry A) → i < length entries
      → entry ≡ get_or entries i entry
      → AllByRecursion IsNear (corners_of_entries entries) → AllByRecursion IsNear (corners_of_entries (entry ∷ []))
  near_entry [] i entry h is near = absurd (omega (arith, h))
  near_entry (first ∷ entries) zero entry h is near =
      subst (λ (x : JournalEntry A). AllByRecursion IsNear (corners_of_entries (x ∷ []))) (sym is)
      (near_append (corners_of_edit first.edit ++ corners_of_rows first.rows) []
      (near_left (corners_of_edit first.edit ++ corners_of_rows first.rows) (corners_of_entries entries) near) tt)
  near_entry (first ∷ entries) (suc i) entry h is near =
      near_entry entries i entry (omega (arith, h)) is
      (near_right (corners_of_edit first.edit ++ corners_of_rows first.rows) (corners_of_entries entries) near)

-- ---- rows, each ten times, one more
module _ {A B : Type 0} where
  pub ten_rows_more : (rows : List (Row A)) (others : List (Row B)) (i : ℕ) (row : Row A) (other : Row B) → i < length rows
      → row ≡ get_or rows i row
      → AllZip IsTenfoldRow (rows_of_entry (take i rows)) (rows_of_entry others) → IsTenfoldRow (row_of row) (row_of other)
      → AllZip IsTenfoldRow (rows_of_entry (take (i + 1) rows)) (rows_of_entry (others ++ other ∷ []))
  ten_rows_more rows others i row other h is zipped ten =
      subst (λ xs. AllZip IsTenfoldRow xs (rows_of_entry (others ++ other ∷ [])))
      (sym (ap rows_of_entry (take_more rows i row h) ∙ ap (λ (x : Row A). rows_of_entry (take i rows ++ x ∷ [])) (sym is)
      ∙ map-append row_of (take i rows) (row ∷ [])))
      (subst (AllZip IsTenfoldRow (rows_of_entry (take i rows) ++ row_of row ∷ [])) (sym (map-append row_of others (other ∷ [])))
      (all_zipped_more IsTenfoldRow (rows_of_entry (take i rows)) (rows_of_entry others) (row_of row) (row_of other) zipped ten))

-- entries, each ten times, one more
pub ten_entries_more : {A : Type 0} (entries others : List (JournalEntry A)) (i : ℕ) (entry other : JournalEntry A) → i < length entries
    → entry ≡ get_or entries i entry → AllZip IsTenfoldEntry (take i entries) others → IsTenfoldEntry entry other
    → AllZip IsTenfoldEntry (take (i + 1) entries) (others ++ other ∷ [])
ten_entries_more entries others i entry other h is zipped ten =
    subst (λ xs. AllZip IsTenfoldEntry xs (others ++ other ∷ []))
    (sym (take_more entries i entry h ∙ ap (λ x. take i entries ++ x ∷ []) (sym is)))
    (all_zipped_more IsTenfoldEntry (take i entries) others entry other zipped ten)
