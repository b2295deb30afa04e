-- Rows by ascending id: rows that come behind others, that are taken out, and that are put back changed.
use Rattle.std.proofs.Common.{◌≡◌, ◌≢◌, ◌⊎◌, inl, inr, ⊎_elim, refl, sym, ◌∙◌, ap, subst, arith, Bool, true}
use Rattle.std.proofs.Common.{false, cond, not, ◌||◌}
use Rattle.std.proofs.Common.{ℕ, zero, suc, ◌+◌, ◌<◌, ◌≤◌, List, [], ◌∷◌, ◌++◌, length, map, append_assoc}
use Rattle.std.proofs.Common.{add-one, get_or}
use Rattle.std.specs.Prelude.{nat_eq, nat_lt, slice_index}
use Rattle.std.specs.Bool.{⊤, Decides}
use Rattle.std.specs.List.{AllByRecursion, Contains, filter, list_any}
use Rattle.std.specs.List.Sorted.{IsStrictlyIncreasing}
use Rattle.std.proofs.lemmas.Bool.{cond-true, cond-false, lt-ltb, le-ltb, eq-eqb, ne_eqb, or_from, or_left, not_from_true}
use Rattle.std.proofs.lemmas.Bool.{not-true, not_from_false, false≢true}
use Rattle.std.proofs.lemmas.Bool.Decides.{Decides-eqb, Decides-or}
use Rattle.std.proofs.lemmas.List.{append-nil, length-append}
use Rattle.std.proofs.lemmas.List.Elements.{All-from_recursion, recursion_from_All, All-filter}
use Rattle.geo_exact.specs.declared.corner.Corner.{Corner}
use Rattle.geo_exact.specs.Layers.{NumberedRing, numbered, corner_count}
use Rattle.edge_chains.proofs.nodings.NodedEdges.{none_in_nil, Contains-here, Contains-there, Contains-cases}
use Rattle.fabric_core.specs.Rows.{numbers}
use Rattle.fabric_core.specs.Journal.{next_after, without_ids, with_row, with_rows}
use Rattle.fabric_core.proofs.rows.Lists.{AllByRecursion-push, corner_count-append}
use Rattle.std.proofs.lemmas.List.Kept.{AllPairs-from_increasing}
use Rattle.fabric_core.specs.own.Balanced.{Ascend, AreBelow}
use Rattle.fabric_core.proofs.tilings.OneParcel.{of_each}

-- rows with rising numbers ascend
pub ascending : (rows : List NumberedRing) → IsStrictlyIncreasing (numbers rows) → Ascend rows
ascending rows up = from rows (λ i j l m. AllPairs-from_increasing (numbers rows) up i j 0 l m)
  where
    heads : (n : ℕ) (rows : List NumberedRing) → ((j : ℕ) → j < length (numbers rows) → n < get_or (numbers rows) j 0)
        → AllByRecursion (λ later. n < later.number) rows
    heads n [] h = tt
    heads n (row ∷ rows) h = (h 0 (omega arith), heads n rows (λ j l. h (suc j) (omega (arith, l))))

    from : (rows : List NumberedRing) → ((i j : ℕ) → i < j → j < length (numbers rows)
        → get_or (numbers rows) i 0 < get_or (numbers rows) j 0)
        → Ascend rows
    from [] h = tt
    from (row ∷ rows) h = (
      heads row.number rows (λ j l. h 0 (suc j) (omega arith) (omega (arith, l))),
      from rows (λ i j l m. h (suc i) (suc j) (omega (arith, l)) (omega (arith, m))),
    )

-- ---- what holds of all items
pub AllByRecursion-append : {X : Type 0} (P : X → Type 0) (xs ys : List X) → AllByRecursion P xs → AllByRecursion P ys
    → AllByRecursion P (xs ++ ys)
AllByRecursion-append P [] ys h k = k
AllByRecursion-append P (x ∷ xs) ys h k = (h.0, AllByRecursion-append P xs ys h.1 k)

pub AllByRecursion-filter : {X : Type 0} (P : X → Type 0) (p : X → Bool) (xs : List X) → AllByRecursion P xs
    → AllByRecursion P (filter p xs)
AllByRecursion-filter P p xs h = recursion_from_All P (filter p xs) (All-filter p P xs (All-from_recursion P xs h))

pub AllByRecursion-map : {X Y : Type 0} (P : X → Type 0) (f : Y → X) (ys : List Y) → AllByRecursion (λ y. P (f y)) ys
    → AllByRecursion P (map f ys)
AllByRecursion-map P f [] h = tt
AllByRecursion-map P f (y ∷ ys) h = (h.0, AllByRecursion-map P f ys h.1)

pub AllByRecursion-weaker : {X : Type 0} (P Q : X → Type 0) → ((x : X) → P x → Q x) → (xs : List X) → AllByRecursion P xs
    → AllByRecursion Q xs
AllByRecursion-weaker P Q w [] h = tt
AllByRecursion-weaker P Q w (x ∷ xs) h = (w x h.0, AllByRecursion-weaker P Q w xs h.1)

abbrev pub AreAbove : ℕ → List NumberedRing → Type 0
AreAbove n rows = AllByRecursion (λ row. n < row.number) rows

abbrev pub AreNumberedFrom : ℕ → List NumberedRing → Type 0
AreNumberedFrom n [] = ⊤
AreNumberedFrom n (row ∷ rows) = (row.number ≡ n) × AreNumberedFrom (n + 1) rows

pub AreBelow-more : (m n : ℕ) (rows : List NumberedRing) → m ≤ n → AreBelow m rows → AreBelow n rows
AreBelow-more m n [] l h = tt
AreBelow-more m n (row ∷ rows) l h = (omega (arith, h.0), AreBelow-more m n rows l h.1)

pub numbered_above : (m n : ℕ) (rows : List NumberedRing) → m < n → AreNumberedFrom n rows → AreAbove m rows
numbered_above m n [] l h = tt
numbered_above m n (row ∷ rows) l h = (omega (arith, h.0), numbered_above m (n + 1) rows (omega arith) h.1)

pub numbered_ascend : (n : ℕ) (rows : List NumberedRing) → AreNumberedFrom n rows → Ascend rows
numbered_ascend n [] h = tt
numbered_ascend n (row ∷ rows) h = (numbered_above row.number (n + 1) rows (omega (arith, h.0)) h.1, numbered_ascend (n + 1) rows h.1)

-- ---- rows that ascend
rising_at : (rows : List NumberedRing) → Ascend rows → (k : ℕ) → suc k < length (numbers rows)
    → slice_index (numbers rows) k < slice_index (numbers rows) (suc k)
rising_at [] up k h = absurd (omega (arith, h))
rising_at (a ∷ []) up k h = absurd (omega (arith, h))
rising_at (a ∷ b ∷ rows) up zero h = up.0.0
rising_at (a ∷ b ∷ rows) up (suc k) h = rising_at (b ∷ rows) up.1 k (omega (arith, h))

-- their numbers rise
pub rising : (rows : List NumberedRing) → Ascend rows → IsStrictlyIncreasing (numbers rows)
rising rows up k h = rw add-one (rising_at rows up k (omega (arith, h)))

pub Ascend-filter : (p : NumberedRing → Bool) (rows : List NumberedRing) → Ascend rows → Ascend (filter p rows)
Ascend-filter p [] up = tt
Ascend-filter p (row ∷ rows) up = by_test (p row) (Ascend-filter p rows up.1)
  where
    by_test : (b : Bool) → Ascend (filter p rows) → Ascend (cond b (row ∷ filter p rows) (filter p rows))
    by_test true later = (AllByRecursion-filter (λ later. row.number < later.number) p rows up.0, later)
    by_test false later = later

pub Ascend-map : (f : NumberedRing → NumberedRing) → ((row : NumberedRing) → (f row).number ≡ row.number)
    → (rows : List NumberedRing) → Ascend rows
    → Ascend (map f rows)
Ascend-map f same [] up = tt
Ascend-map f same (row ∷ rows) up = (heads rows up.0, Ascend-map f same rows up.1)
  where
    heads : (others : List NumberedRing) → AreAbove row.number others → AreAbove (f row).number (map f others)
    heads [] h = tt
    heads (other ∷ others) h = (omega (arith, h.0, same row, same other), heads others h.1)

-- all of the first rows are below each of the others
abbrev AreBehind : List NumberedRing → List NumberedRing → Type 0
AreBehind rows news = AllByRecursion (λ new. AreBelow new.number rows) news

behind_next : (m n : ℕ) (rows news : List NumberedRing) → AreBelow m rows → m ≤ n → AreNumberedFrom n news → AreBehind rows news
behind_next m n rows [] h l k = tt
behind_next m n rows (new ∷ news) h l k =
    (AreBelow-more m new.number rows (omega (arith, l, k.0)) h, behind_next m (n + 1) rows news h (omega (arith, l)) k.1)

Ascend-append : (rows news : List NumberedRing) → Ascend rows → Ascend news → AreBehind rows news → Ascend (rows ++ news)
Ascend-append [] news up ups h = ups
Ascend-append (row ∷ rows) news up ups h = (
  AllByRecursion-append (λ later. row.number < later.number) rows news up.0
      (AllByRecursion-weaker (λ new. AreBelow new.number (row ∷ rows)) (λ new. row.number < new.number) (λ new k. k.0) news h),
  Ascend-append rows news up.1 ups
      (AllByRecursion-weaker (λ new. AreBelow new.number (row ∷ rows)) (λ new. AreBelow new.number rows) (λ new k. k.1) news h),
)

-- ---- rows that come behind
with_row_last : (row : NumberedRing) (rows : List NumberedRing) → AreBelow row.number rows → with_row row rows ≡ rows ++ row ∷ []
with_row_last row [] h = refl
with_row_last row (other ∷ rows) h =
    cond-false (nat_lt row.number other.number) (row ∷ other ∷ rows) (other ∷ with_row row rows)
    (le-ltb row.number other.number (omega (arith, h.0)))
    ∙ ap (λ xs. other ∷ xs) (with_row_last row rows h.1)

with_rows_last : (news rows : List NumberedRing) → Ascend news → AreBehind rows news → with_rows news rows ≡ rows ++ news
with_rows_last [] rows up h = sym (append-nil rows)
with_rows_last (new ∷ news) rows up h =
    ap (with_rows news) (with_row_last new rows h.0)
    ∙ with_rows_last news (rows ++ new ∷ []) up.1 (more news up.0 h.1)
    ∙ append_assoc rows (new ∷ []) news
  where
    more : (others : List NumberedRing) → AreAbove new.number others → AreBehind rows others → AreBehind (rows ++ new ∷ []) others
    more [] k l = tt
    more (other ∷ others) k l = (AllByRecursion-push (λ row. row.number < other.number) rows new l.0 k.0, more others k.1 l.1)

-- rows numbered on from the next id come behind those below it
pub put_behind : (next : ℕ) (rows news : List NumberedRing) → AreBelow next rows → AreNumberedFrom next news
    → with_rows news rows ≡ rows ++ news
put_behind next rows news h k =
    with_rows_last news rows (numbered_ascend next news k) (behind_next next next rows news h (omega arith) k)

pub ascend_behind : (next : ℕ) (rows news : List NumberedRing) → Ascend rows → AreBelow next rows → AreNumberedFrom next news
    → Ascend (rows ++ news)
ascend_behind next rows news up h k =
    Ascend-append rows news up (numbered_ascend next news k) (behind_next next next rows news h (omega arith) k)

-- ---- the next id
pub next_not_less : (news : List NumberedRing) (next : ℕ) → next ≤ next_after news next
next_not_less [] next = omega arith
next_not_less (new ∷ news) next = omega (arith, next_not_less news next)

pub next_above : (news : List NumberedRing) (next : ℕ) → AreBelow (next_after news next) news
next_above [] next = tt
next_above (new ∷ news) next = (
  omega arith,
  AreBelow-more (next_after news next) (next_after (new ∷ news) next) news (omega arith) (next_above news next),
)

-- all ids stay below it
pub all_below_next : (rows news : List NumberedRing) (next : ℕ) → AreBelow next rows → AreBelow (next_after news next) (rows ++ news)
all_below_next rows news next h =
    AllByRecursion-append (λ row. row.number < next_after news next) rows news
    (AreBelow-more next (next_after news next) rows (next_not_less news next) h) (next_above news next)

pub next_same : (news : List NumberedRing) (next : ℕ) → AreBelow next news → next_after news next ≡ next
next_same [] next h = refl
next_same (new ∷ news) next h = omega (arith, h.0, next_same news next h.1)

next_from : (m n : ℕ) (new : NumberedRing) (news : List NumberedRing) → m ≤ n → AreNumberedFrom n (new ∷ news)
    → next_after (new ∷ news) m ≡ n + 1 + length news
next_from m n new [] l h = omega (arith, h.0)
next_from m n new (other ∷ news) l h = omega (arith, h.0, next_from m (n + 1) other news (omega arith) h.1)

-- rows numbered on from it make it as much greater as they are
pub next_of_new : (next : ℕ) (news : List NumberedRing) → AreNumberedFrom next news → next_after news next ≡ next + length news
next_of_new next [] h = omega arith
next_of_new next (new ∷ news) h = omega (arith, next_from next next new news (omega arith) h)

-- ---- ids that are named
pub Decides-named : (n : ℕ) (ids : List ℕ) → Decides (list_any (nat_eq n) ids) (Contains ids n)
Decides-named n [] = (λ e. absurd (false≢true e), λ c. absurd (none_in_nil n c))
Decides-named n (id ∷ ids) =
    let both = Decides-or (nat_eq n id) (list_any (nat_eq n) ids) (Decides-eqb n id) (Decides-named n ids) in (
      λ e. ⊎_elim (λ s. subst (Contains (id ∷ ids)) (sym s) (Contains-here id ids)) (λ c. Contains-there id ids n c) (both.0 e),
      λ c. both.1 (⊎_elim (λ s. inl (sym s)) (λ d. inr d) (Contains-cases id ids n c)),
    )

not_named : (n : ℕ) (ids : List ℕ) → AllByRecursion (λ id. n ≢ id) ids → list_any (nat_eq n) ids ≡ false
not_named n [] h = refl
not_named n (id ∷ ids) h = or_from (nat_eq n id) (list_any (nat_eq n) ids) (ne_eqb n id h.0) (not_named n ids h.1)

-- ---- items of changed lists
pub Contains-kept : {X : Type 0} (p : X → Bool) (xs : List X) (x : X) → Contains xs x → p x ≡ true → Contains (filter p xs) x
Contains-kept p [] x h e = absurd (none_in_nil x h)
Contains-kept {X} p (y ∷ ys) x h e = by_test (p y) refl (Contains-cases y ys x h) (λ k. Contains-kept p ys x k e)
  where
    by_test : (b : Bool) → p y ≡ b → (y ≡ x) ⊎ Contains ys x → (Contains ys x → Contains (filter p ys) x)
        → Contains (cond b (y ∷ filter p ys) (filter p ys)) x
    by_test true is (inl s) later = subst (Contains (y ∷ filter p ys)) s (Contains-here y (filter p ys))
    by_test true is (inr k) later = Contains-there y (filter p ys) x (later k)
    by_test false is (inl s) later = absurd (false≢true (sym is ∙ ap p s ∙ e))
    by_test false is (inr k) later = later k

pub Contains-from_kept : {X : Type 0} (p : X → Bool) (xs : List X) (x : X) → Contains (filter p xs) x → Contains xs x
    × (p x ≡ true)
Contains-from_kept p [] x h = absurd (none_in_nil x h)
Contains-from_kept {X} p (y ∷ ys) x h = by_test (p y) refl h (λ k. Contains-from_kept p ys x k)
  where
    by_test : (b : Bool) → p y ≡ b → Contains (cond b (y ∷ filter p ys) (filter p ys)) x
        → (Contains (filter p ys) x → Contains ys x × (p x ≡ true))
        → Contains (y ∷ ys) x × (p x ≡ true)
    by_test true is k later = ⊎_elim
        (λ s. (subst (Contains (y ∷ ys)) s (Contains-here y ys), sym (ap p s) ∙ is))
        (λ l. (Contains-there y ys x (later l).0, (later l).1))
        (Contains-cases y (filter p ys) x k)
    by_test false is k later = (Contains-there y ys x (later k).0, (later k).1)

pub Contains-mapped : {X Y : Type 0} (f : X → Y) (xs : List X) (x : X) → Contains xs x → Contains (map f xs) (f x)
Contains-mapped f [] x h = absurd (none_in_nil x h)
Contains-mapped f (y ∷ ys) x h = ⊎_elim
    (λ s. subst (λ z. Contains (map f (y ∷ ys)) (f z)) s (Contains-here (f y) (map f ys)))
    (λ k. Contains-there (f y) (map f ys) (f x) (Contains-mapped f ys x k))
    (Contains-cases y ys x h)

pub Contains-from_mapped : {X Y : Type 0} (f : X → Y) (xs : List X) (y : Y) → Contains (map f xs) y → (x : X)
    × Contains xs x × (f x ≡ y)
Contains-from_mapped f [] y h = absurd (none_in_nil y h)
Contains-from_mapped f (x ∷ xs) y h = ⊎_elim
    (λ s. (x, Contains-here x xs, s))
    (λ k. let w = Contains-from_mapped f xs y k in (w.0, Contains-there x xs w.0 w.1, w.2))
    (Contains-cases (f x) (map f xs) y h)

-- ---- rows of rising ids are told apart by them
pub same_row : (rows : List NumberedRing) (x y : NumberedRing) → Ascend rows → Contains rows x → Contains rows y
    → x.number ≡ y.number → x ≡ y
same_row [] x y up h k e = absurd (none_in_nil x h)
same_row (row ∷ rows) x y up h k e = ⊎_elim
    (λ s. ⊎_elim
    (λ t. sym s ∙ t)
    (λ l. absurd (omega (arith, e, ap (λ (r : NumberedRing). r.number) s, of_each (λ later. row.number < later.number) rows y up.0 l)))
    (Contains-cases row rows y k))
    (λ l. ⊎_elim
    (λ t. absurd (omega (arith, e, ap (λ (r : NumberedRing). r.number) t, of_each (λ later. row.number < later.number) rows x up.0 l)))
    (λ m. same_row rows x y up.1 l m e)
    (Contains-cases row rows y k))
    (Contains-cases row rows x h)

pub one_ring : (rows : List NumberedRing) (id : ℕ) (ring other : List Corner) → Ascend rows → Contains rows (numbered id ring)
    → Contains rows (numbered id other) → ring ≡ other
one_ring rows id ring other up h k =
    ap (λ (r : NumberedRing). r.corners) (same_row rows (numbered id ring) (numbered id other) up h k refl)

-- a row's number is one of theirs, and each of theirs is a row's
pub has_number : (rows : List NumberedRing) (row : NumberedRing) → Contains rows row → Contains (numbers rows) row.number
has_number rows row h = Contains-mapped (λ row. row.number) rows row h

pub has_row : (rows : List NumberedRing) (id : ℕ) → Contains (numbers rows) id → (ring : List Corner)
    × Contains rows (numbered id ring)
has_row rows id h = let w = Contains-from_mapped (λ (row : NumberedRing). row.number) rows id h in
    (w.0.corners, subst (λ n. Contains rows (numbered n w.0.corners)) w.2 w.1)

-- ---- rows that are taken out
pub Contains-without : (out : List ℕ) (rows : List NumberedRing) (row : NumberedRing) → Contains rows row → ¬ Contains out row.number
    → Contains (without_ids out rows) row
Contains-without out rows row h off =
    Contains-kept (λ row. not (list_any (nat_eq row.number) out)) rows row h
    (not_from_false (list_any (nat_eq row.number) out) (unnamed (list_any (nat_eq row.number) out) (Decides-named row.number out)))
  where
    unnamed : (b : Bool) → Decides b (Contains out row.number) → b ≡ false
    unnamed true d = absurd (off (d.0 refl))
    unnamed false d = refl

pub Contains-from_without : (out : List ℕ) (rows : List NumberedRing) (row : NumberedRing) → Contains (without_ids out rows) row
    → Contains rows row × (¬ Contains out row.number)
Contains-from_without out rows row h =
    let w = Contains-from_kept (λ row. not (list_any (nat_eq row.number) out)) rows row h in
    (w.0, λ c. false≢true (sym (not-true (list_any (nat_eq row.number) out) w.1) ∙ (Decides-named row.number out).1 c))

without_first : (id : ℕ) (ids : List ℕ) (rows : List NumberedRing) → AreAbove id rows → without_ids (id ∷ ids) rows
    ≡ without_ids ids rows
without_first id ids [] h = refl
without_first id ids (row ∷ rows) h =
    ap (λ b. cond (not (b || list_any (nat_eq row.number) ids)) (row ∷ without_ids (id ∷ ids) rows) (without_ids (id ∷ ids) rows))
    (ne_eqb row.number id (λ e. omega (arith, h.0, e)))
    ∙ ap (λ xs. cond (not (list_any (nat_eq row.number) ids)) (row ∷ xs) xs) (without_first id ids rows h.1)

-- one after the other
pub without_both : (a : ℕ) (ids : List ℕ) (rows : List NumberedRing)
    → without_ids (a ∷ ids) rows ≡ without_ids ids (without_ids (a ∷ []) rows)
without_both a ids [] = refl
without_both a ids (row ∷ rows) = by_tests (nat_eq row.number a) (list_any (nat_eq row.number) ids) refl (without_both a ids rows)
  where
    by_tests : (b c : Bool) → list_any (nat_eq row.number) ids ≡ c
        → without_ids (a ∷ ids) rows ≡ without_ids ids (without_ids (a ∷ []) rows)
        → cond (not (b || c)) (row ∷ without_ids (a ∷ ids) rows) (without_ids (a ∷ ids) rows)
        ≡ without_ids ids (cond (not (b || false)) (row ∷ without_ids (a ∷ []) rows) (without_ids (a ∷ []) rows))
    by_tests true c is h = h
    by_tests false true is h = h ∙ sym (ap (λ b. cond (not b) (row ∷ rest) rest) is)
      where
        rest : List NumberedRing
        rest = without_ids ids (without_ids (a ∷ []) rows)
    by_tests false false is h = ap (λ xs. row ∷ xs) h ∙ sym (ap (λ b. cond (not b) (row ∷ rest) rest) is)
      where
        rest : List NumberedRing
        rest = without_ids ids (without_ids (a ∷ []) rows)

-- ---- rows that are put back, changed and under their own ids
with_row_first : (row : NumberedRing) (rows : List NumberedRing) → AreAbove row.number rows → with_row row rows ≡ row ∷ rows
with_row_first row [] h = refl
with_row_first row (other ∷ rows) h =
    cond-true (nat_lt row.number other.number) (row ∷ other ∷ rows) (other ∷ with_row row rows) (lt-ltb row.number other.number h.0)

with_rows_behind : (row : NumberedRing) (news rows : List NumberedRing) → AreAbove row.number news
    → with_rows news (row ∷ rows) ≡ row ∷ with_rows news rows
with_rows_behind row [] rows h = refl
with_rows_behind row (new ∷ news) rows h =
    ap (with_rows news) (cond-false (nat_lt new.number row.number) (new ∷ row ∷ rows) (row ∷ with_row new rows)
    (le-ltb new.number row.number (omega (arith, h.0))))
    ∙ with_rows_behind row news (with_row new rows) h.1

module _ (keep : NumberedRing → Bool) (f : NumberedRing → NumberedRing) (same : (row : NumberedRing)
    → (f row).number ≡ row.number) where
  -- the rows that are kept changed, the others as they are
  abbrev pub changed : List NumberedRing → List NumberedRing
  changed rows = map (λ row. cond (keep row) (f row) row) rows

  still_above : (n : ℕ) (rows : List NumberedRing) → AreAbove n rows → AreAbove n (map f (filter keep rows))
  still_above n rows h = AllByRecursion-map (λ row. n < row.number) f (filter keep rows)
      (AllByRecursion-weaker (λ row. n < row.number) (λ row. n < (f row).number) (λ row l. omega (arith, l, same row)) (filter keep rows)
      (AllByRecursion-filter (λ row. n < row.number) keep rows h))

  none_named : (n : ℕ) (rows : List NumberedRing) → AreAbove n rows → AllByRecursion (λ id. n ≢ id) (numbers (filter keep rows))
  none_named n rows h = AllByRecursion-map (λ id. n ≢ id) (λ row. row.number) (filter keep rows)
      (AllByRecursion-weaker (λ row. n < row.number) (λ row. n ≢ row.number) (λ row l e. omega (arith, l, e)) (filter keep rows)
      (AllByRecursion-filter (λ row. n < row.number) keep rows h))

  pub put_back : (rows : List NumberedRing) → Ascend rows
      → with_rows (map f (filter keep rows)) (without_ids (numbers (filter keep rows)) rows) ≡ changed rows
  put_back [] up = refl
  put_back (row ∷ rows) up = by_test (keep row) (put_back rows up.1)
    where
      ids : List ℕ
      ids = numbers (filter keep rows)

      rest : List NumberedRing
      rest = without_ids ids rows

      rest_above : AreAbove row.number rest
      rest_above =
          AllByRecursion-filter (λ later. row.number < later.number) (λ later. not (list_any (nat_eq later.number) ids)) rows up.0

      by_test : (b : Bool) → with_rows (map f (filter keep rows)) (without_ids (numbers (filter keep rows)) rows) ≡ changed rows
          → with_rows (map f (cond b (row ∷ filter keep rows) (filter keep rows)))
          (without_ids (numbers (cond b (row ∷ filter keep rows) (filter keep rows))) (row ∷ rows))
          ≡ cond b (f row) row ∷ changed rows
      by_test true h =
          ap (λ xs. with_rows (map f (filter keep rows)) (with_row (f row) xs))
          (cond-false (not (nat_eq row.number row.number || list_any (nat_eq row.number) ids))
          (row ∷ without_ids (row.number ∷ ids) rows)
          (without_ids (row.number ∷ ids) rows)
          (not_from_true (nat_eq row.number row.number || list_any (nat_eq row.number) ids)
          (or_left (nat_eq row.number row.number) (list_any (nat_eq row.number) ids) (eq-eqb row.number row.number refl)))
          ∙ without_first row.number ids rows up.0)
          ∙ ap (with_rows (map f (filter keep rows)))
          (with_row_first (f row) rest (subst (λ n. AreAbove n rest) (sym (same row)) rest_above))
          ∙ with_rows_behind (f row) (map f (filter keep rows)) rest
          (subst (λ n. AreAbove n (map f (filter keep rows))) (sym (same row)) (still_above row.number rows up.0))
          ∙ ap (λ xs. f row ∷ xs) h
      by_test false h =
          ap (with_rows (map f (filter keep rows)))
          (cond-true (not (list_any (nat_eq row.number) ids)) (row ∷ rest) rest
          (not_from_false (list_any (nat_eq row.number) ids) (not_named row.number ids (none_named row.number rows up.0))))
          ∙ with_rows_behind row (map f (filter keep rows)) rest (still_above row.number rows up.0)
          ∙ ap (λ xs. row ∷ xs) h

  -- so the next id stays
  pub put_back_next : (next : ℕ) (rows : List NumberedRing) → AreBelow next rows → next_after (map f (filter keep rows)) next ≡ next
  put_back_next next rows h = next_same (map f (filter keep rows)) next
      (AllByRecursion-map (λ row. row.number < next) f (filter keep rows)
      (AllByRecursion-weaker (λ row. row.number < next) (λ row. (f row).number < next) (λ row l. omega (arith, l, same row))
      (filter keep rows)
      (AllByRecursion-filter (λ row. row.number < next) keep rows h)))

  same_changed : (row : NumberedRing) → (cond (keep row) (f row) row).number ≡ row.number
  same_changed row = by_test (keep row)
    where
      by_test : (b : Bool) → (cond b (f row) row).number ≡ row.number
      by_test true = same row
      by_test false = refl

  pub numbers_changed : (rows : List NumberedRing) → numbers (changed rows) ≡ numbers rows
  numbers_changed [] = refl
  numbers_changed (row ∷ rows) =
      ap (λ n. n ∷ numbers (changed rows)) (same_changed row) ∙ ap (λ ns. row.number ∷ ns) (numbers_changed rows)

  pub ascend_changed : (rows : List NumberedRing) → Ascend rows → Ascend (changed rows)
  ascend_changed rows up = Ascend-map (λ row. cond (keep row) (f row) row) same_changed rows up

  pub below_changed : (next : ℕ) (rows : List NumberedRing) → AreBelow next rows → AreBelow next (changed rows)
  below_changed next rows h = AllByRecursion-map (λ row. row.number < next) (λ row. cond (keep row) (f row) row) rows
      (AllByRecursion-weaker (λ row. row.number < next) (λ row. (cond (keep row) (f row) row).number < next)
      (λ row l. omega (arith, l, same_changed row)) rows h)

  -- what holds of the rows and of those that are changed holds of all
  pub all_changed : (P : NumberedRing → Type 0) (rows : List NumberedRing) → AllByRecursion P rows
      → AllByRecursion P (map f (filter keep rows))
      → AllByRecursion P (changed rows)
  all_changed P [] h k = tt
  all_changed P (row ∷ rows) h k = by_test (keep row) k (λ l. all_changed P rows h.1 l)
    where
      by_test : (b : Bool) → AllByRecursion P (map f (cond b (row ∷ filter keep rows) (filter keep rows)))
          → (AllByRecursion P (map f (filter keep rows)) → AllByRecursion P (changed rows))
          → P (cond b (f row) row) × AllByRecursion P (changed rows)
      by_test true l later = (l.0, later l.1)
      by_test false l later = (h.0, later l)

  -- how many corners they have
  pub corners_changed : (rows : List NumberedRing)
      → corner_count (changed rows) + corner_count (filter keep rows) ≡ corner_count rows + corner_count (map f (filter keep rows))
  corners_changed [] = refl
  corners_changed (row ∷ rows) = by_test (keep row) (corners_changed rows)
    where
      by_test : (b : Bool)
          → corner_count (changed rows) + corner_count (filter keep rows) ≡ corner_count rows + corner_count (map f (filter keep rows))
          → length (cond b (f row) row).corners + corner_count (changed rows)
          + corner_count (cond b (row ∷ filter keep rows) (filter keep rows))
          ≡ length row.corners + corner_count rows + corner_count (map f (cond b (row ∷ filter keep rows) (filter keep rows)))
      by_test true h = omega (arith, h)
      by_test false h = omega (arith, h)

-- ---- counts without some
none_without : (id : ℕ) (rows : List NumberedRing) → AreAbove id rows → without_ids (id ∷ []) rows ≡ rows
none_without id rows h = without_first id [] rows h ∙ all_stay rows
  where
    all_stay : (rows : List NumberedRing) → without_ids [] rows ≡ rows
    all_stay [] = refl
    all_stay (row ∷ rows) = ap (λ xs. row ∷ xs) (all_stay rows)

-- a row that is taken out leaves those before it and behind it
pub record IsTakenOut (rows rest : List NumberedRing) (row : NumberedRing) : Type 0 where
  pub before : List NumberedRing
  pub behind : List NumberedRing
  pub were_all : rows ≡ before ++ row ∷ behind
  pub are_left : rest ≡ before ++ behind

pub taken_out : (id : ℕ) (ring : List Corner) (rows : List NumberedRing) → Ascend rows → Contains rows (numbered id ring)
    → IsTakenOut rows (without_ids (id ∷ []) rows) (numbered id ring)
taken_out id ring [] up h = absurd (none_in_nil (numbered id ring) h)
taken_out id ring (row ∷ rows) up h = ⊎_elim
    (λ s. record {
      before = [];
      behind = rows;
      were_all = ap (λ r. r ∷ rows) s;
      are_left = here (ap (λ (r : NumberedRing). r.number) s);
    })
    (λ k. let w = taken_out id ring rows up.1 k in record {
      before = row ∷ w.before;
      behind = w.behind;
      were_all = ap (λ xs. row ∷ xs) w.were_all;
      are_left = there (of_each (λ later. row.number < later.number) rows (numbered id ring) up.0 k) ∙ ap (λ xs. row ∷ xs) w.are_left;
    })
    (Contains-cases row rows (numbered id ring) h)
  where
    here : row.number ≡ id → without_ids (id ∷ []) (row ∷ rows) ≡ rows
    here e =
        ap (λ b. cond (not (b || false)) (row ∷ without_ids (id ∷ []) rows) (without_ids (id ∷ []) rows)) (eq-eqb row.number id e)
        ∙ none_without id rows (subst (λ n. AreAbove n rows) e up.0)

    there : row.number < id → without_ids (id ∷ []) (row ∷ rows) ≡ row ∷ without_ids (id ∷ []) rows
    there l = ap (λ b. cond (not (b || false)) (row ∷ without_ids (id ∷ []) rows) (without_ids (id ∷ []) rows))
        (ne_eqb row.number id (λ e. omega (arith, l, e)))

-- it takes its corners along
pub record IsOneLess (rows rest : List NumberedRing) (ring : List Corner) : Type 0 where
  pub corners : corner_count rest + length ring ≡ corner_count rows
  pub number : length rest + 1 ≡ length rows

pub one_less_row : (id : ℕ) (ring : List Corner) (rows : List NumberedRing) → Ascend rows → Contains rows (numbered id ring)
    → IsOneLess rows (without_ids (id ∷ []) rows) ring
one_less_row id ring rows up h =
    let w = taken_out id ring rows up h in record {
      corners = omega (
        arith,
        ap corner_count w.were_all,
        ap corner_count w.are_left,
        corner_count-append w.before (numbered id ring ∷ w.behind),
        corner_count-append w.before w.behind,
      );
      number = omega (
        arith,
        ap length w.were_all,
        ap length w.are_left,
        length-append w.before (numbered id ring ∷ w.behind),
        length-append w.before w.behind,
      );
    }

-- and so do two
pub record AreTwoLess (rows rest : List NumberedRing) (ring other : List Corner) : Type 0 where
  pub corners : corner_count rest + length ring + length other ≡ corner_count rows
  pub number : length rest + 2 ≡ length rows

pub still_has : (a b : ℕ) (ring : List Corner) (rows : List NumberedRing) → a ≢ b → Contains rows (numbered b ring)
    → Contains (without_ids (a ∷ []) rows) (numbered b ring)
still_has a b ring rows off h =
    Contains-without (a ∷ []) rows (numbered b ring) h
    (λ c. ⊎_elim (λ e. off e) (λ d. none_in_nil b d) (Contains-cases a [] b c))

pub two_less_rows : (a b : ℕ) (ring other : List Corner) (rows : List NumberedRing) → a ≢ b → Ascend rows
    → Contains rows (numbered a ring)
    → Contains rows (numbered b other) → AreTwoLess rows (without_ids (a ∷ b ∷ []) rows) ring other
two_less_rows a b ring other rows off up h k =
    let first = one_less_row a ring rows up h in
    let second = one_less_row b other (without_ids (a ∷ []) rows)
    (Ascend-filter (λ row. not (list_any (nat_eq row.number) (a ∷ []))) rows up) (still_has a b other rows off k) in
    subst (λ xs. AreTwoLess rows xs ring other) (sym (without_both a (b ∷ []) rows)) (record {
      corners = omega (arith, first.corners, second.corners);
      number = omega (arith, first.number, second.number);
    })
