-- Several entries are taken out or added one after another, in room that was made before.
use Rattle.std.proofs.Common.{◌≡◌, ◌∙◌, ⊎_elim, refl, sym, ap, subst, ℕ, ◌+◌, ◌<◌, ◌≤◌, arith, Bool, true}
use Rattle.std.proofs.Common.{false, not, ◌&&◌, ◌||◌, List, [], ◌∷◌, ◌++◌, length, get_or, take}
use Rattle.std.specs.List.{filter, list_any, Contains}
use Rattle.std.proofs.lemmas.List.{take_more, append_assoc}
use Rattle.std.proofs.lemmas.List.Elements.{filter_agree, Contains-append_cases}
use Rattle.std.proofs.lemmas.List.Folds.{list_any-append}
use Rattle.std.proofs.lemmas.List.Sums.{length-filter, count_by-le-length}
use Rattle.smallvec.specs.SmallVec.{HasRoomFor}
use Rattle.geo_exact.specs.declared.bounds.Bounds.{Bounds}
use Rattle.cell_index.specs.declared.entry.IndexEntry.{IndexEntry}
use Rattle.cell_index.specs.declared.places.Places.{Places}
use Rattle.cell_index.specs.Cells.{is_same_entry, without}
use Rattle.cell_index.specs.own.Ranges.{is_kept_in, place_count, place_at, Cell, cell_at, contents, HaveRoom}
use Rattle.cell_index.specs.own.Ranges.{HaveRoomForAll, KeepRoom, Keeps, IsChanged, with_entry, passing}
use Rattle.cell_index.proofs.KeptPlaces.{place_inside}
use Rattle.cell_index.proofs.CellsKept.{item_at, filter_both, AreWhereKept, changed_there, same_elsewhere, added, removed}
use Rattle.cell_index.proofs.Members.{by_test, either_member}

-- ---- the entries that go, one by one
not_either : (a b : Bool) → not (a || b) ≡ (not a && not b)
not_either true b = refl
not_either false b = refl

without_both : (gone more entries : List IndexEntry) → without (gone ++ more) entries ≡ without more (without gone entries)
without_both gone more entries =
    filter_agree _ _
    (λ e. ap not (list_any-append (is_same_entry e) gone more) ∙ not_either (list_any (is_same_entry e) gone)
    (list_any (is_same_entry e) more)) entries
    ∙ sym (filter_both (λ e. not (list_any (is_same_entry e) more)) (λ e. not (list_any (is_same_entry e) gone)) entries)

pub without_nothing : (entries : List IndexEntry) → without [] entries ≡ entries
without_nothing [] = refl
without_nothing (x ∷ xs) = ap (λ ys. x ∷ ys) (without_nothing xs)

pub one_gone_more : (area : Bounds) (places : Places) (gone : List IndexEntry) (n : ℕ) (x : IndexEntry) (old new : List Cell)
    → n < length gone → x ≡ get_or gone n x
    → AreWhereKept places area x.bounds → IsChanged places (place_count places) (passing (λ e. not (is_same_entry e x))) old new
    → (entries : List IndexEntry) → Keeps area old (without (take n gone) entries) → Keeps area new (without (take (n + 1) gone) entries)
one_gone_more area places gone n x old new inside is where_kept h entries kept =
    subst (Keeps area new)
    (sym (without_both (take n gone) (x ∷ []) entries)
    ∙ ap (λ y. without (take n gone ++ y ∷ []) entries) is
    ∙ sym (ap (λ gs. without gs entries) (take_more gone n x inside)))
    (removed area places x old new where_kept h (without (take n gone) entries) kept)

-- ---- the entries that come, one by one
pub one_come_more : (area : Bounds) (places : Places) (come : List IndexEntry) (n : ℕ) (x : IndexEntry) (old new : List Cell)
    → n < length come → x ≡ get_or come n x
    → AreWhereKept places area x.bounds → IsChanged places (place_count places) (with_entry x) old new
    → (entries : List IndexEntry) → Keeps area old (entries ++ take n come) → Keeps area new (entries ++ take (n + 1) come)
one_come_more area places come n x old new inside is where_kept h entries kept =
    subst (Keeps area new)
    (append_assoc entries (take n come) (x ∷ [])
    ∙ ap (λ y. entries ++ (take n come ++ y ∷ [])) is
    ∙ sym (ap (λ xs. entries ++ xs) (take_more come n x inside)))
    (added area places x old new where_kept h (entries ++ take n come) kept)

-- ---- room
pub room_of : (area : Bounds) (places : Places) (come : List IndexEntry) (count : ℕ) (x : IndexEntry) (cells : List Cell)
    → Contains come x → 1 ≤ count
    → AreWhereKept places area x.bounds → HaveRoomForAll area come count cells → HaveRoom places (place_count places) 1 cells
room_of area places come count x cells member some where_kept room m q =
    let inside = place_inside places m q in
    let here = room x member (place_at places m) inside ((where_kept (place_at places m) inside).0 (m, q, refl)) in
    omega (arith, here, some)

-- a cell that has what it had, and no less room
still_room : (old new : List Cell) (k count : ℕ) → length old ≡ 4097 → length new ≡ 4097 → contents new ≡ contents old
    → KeepRoom old new → k ≤ 4096
    → HasRoomFor (cell_at old k) count → HasRoomFor (cell_at new k) count
still_room old new k count lo ln same more inside room =
    let items : (cell_at new k).items ≡ (cell_at old k).items =
    sym (item_at new k (omega (arith, inside, ln))) ∙ ap (λ xs. get_or xs k []) same ∙ item_at old k (omega (arith, inside, lo)) in
    omega (arith, room, more k, ap length items)

pub room_for_one_more : (area : Bounds) (places : Places) (come : List IndexEntry) (n count : ℕ) (x : IndexEntry) (old new : List Cell)
    → n < length come → x ≡ get_or come n x → length old ≡ 4097 → length new ≡ 4097 → contents new ≡ contents old
    → KeepRoom old new
    → AreWhereKept places area x.bounds → HaveRoom places (place_count places) count new
    → HaveRoomForAll area (take n come) count old → HaveRoomForAll area (take (n + 1) come) count new
room_for_one_more area places come n count x old new inside is lo ln same more where_kept made room e member k within kept =
    ⊎_elim
    (λ before. still_room old new k count lo ln same more within (room e before k within kept))
    (λ last. ⊎_elim
    (λ here.
    let place = (where_kept k within).1 (subst (λ y. is_kept_in area k y.bounds ≡ true) (sym here ∙ sym is) kept) in
    subst (λ m. HasRoomFor (cell_at new m) count) place.2 (made place.0 place.1))
    (λ none. absurd (omega (arith, none.1)))
    (either_member (get_or come n x) e [] last))
    (Contains-append_cases (take n come) (get_or come n x ∷ []) e (subst (λ xs. Contains xs e) (take_more come n x inside) member))

pub room_after_taking : (area : Bounds) (places : Places) (x : IndexEntry) (old new : List Cell) → AreWhereKept places area x.bounds
    → IsChanged places (place_count places) (passing (λ e. not (is_same_entry e x))) old new
    → (come : List IndexEntry) (count : ℕ) → HaveRoomForAll area come count old → HaveRoomForAll area come count new
room_after_taking area places x old new where_kept h come count room e member k inside kept =
    by_test (is_kept_in area k x.bounds)
    (λ t. subst (λ c. HasRoomFor c count) (sym (changed_there places area x.bounds where_kept (passing stays) old new h k inside t))
    (let fewer : length (filter stays (cell_at old k).items) ≤ length (cell_at old k).items =
    omega (arith, length-filter stays (cell_at old k).items, count_by-le-length stays (cell_at old k).items) in
    omega (arith, fewer, room e member k inside kept)))
    (λ f. subst (λ c. HasRoomFor c count) (sym (same_elsewhere places area x.bounds where_kept (passing stays) old new h k inside f))
    (room e member k inside kept))
  where
    stays : IndexEntry → Bool
    stays y = not (is_same_entry y x)

one_longer : (c : Cell) (x : IndexEntry) (count less : ℕ) → less + 1 ≤ count → HasRoomFor c count → HasRoomFor (with_entry x c) less
one_longer c x count less h room = omega (arith, h, room, length-snoc c.items x)
  where
    length-snoc : (xs : List IndexEntry) (y : IndexEntry) → length (xs ++ y ∷ []) ≡ length xs + 1
    length-snoc [] y = refl
    length-snoc (z ∷ xs) y = omega (arith, length-snoc xs y)

pub room_after_adding : (area : Bounds) (places : Places) (x : IndexEntry) (old new : List Cell) (come : List IndexEntry)
    (count less : ℕ) → less + 1 ≤ count
    → AreWhereKept places area x.bounds → IsChanged places (place_count places) (with_entry x) old new
    → HaveRoomForAll area come count old → HaveRoomForAll area come less new
room_after_adding area places x old new come count less few where_kept h room e member k inside kept =
    by_test (is_kept_in area k x.bounds)
    (λ t. subst (λ c. HasRoomFor c less) (sym (changed_there places area x.bounds where_kept (with_entry x) old new h k inside t))
    (one_longer (cell_at old k) x count less few (room e member k inside kept)))
    (λ f. subst (λ c. HasRoomFor c less) (sym (same_elsewhere places area x.bounds where_kept (with_entry x) old new h k inside f))
    (let here = room e member k inside kept in omega (arith, here, few)))
