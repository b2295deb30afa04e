-- A fabric's book is known by its city, its opening and its journal.
use Rattle.std.proofs.Common.{◌≡◌, refl, sym, ◌∙◌, ap, subst, arith, ℕ, ◌+◌, ◌*◌, ◌/◌, ◌%◌, ◌<◌, List, [], ◌∷◌, length, get_or}
use Rattle.std.specs.List.{AllZip}
use Rattle.std.proofs.lemmas.List.{get_or_default, same_lists}
use Rattle.std.proofs.lemmas.Nat.{div_below, mod_below}
use Rattle.geo_exact.specs.declared.bounds.Bounds.{Bounds}
use Rattle.geo_exact.specs.declared.corner.Corner.{Corner}
use Rattle.geo_exact.specs.Layers.{NumberedRing}
use Rattle.cell_index.specs.declared.entry.IndexEntry.{IndexEntry}
use Rattle.cell_index.specs.Cells.{Grid, Indexes, narrow, stands_in, wide}
use Rattle.std.specs.List.{filter}
use Rattle.parcel_table.proofs.Boxes.{one_least_box}
use Rattle.fabric_core.specs.GridIndex.{IsEntryOf, IsIndexed}
use Rattle.fabric_core.specs.Journal.{Book, State, JournalEntry, replay}

same_entry : (row : NumberedRing) (x y : IndexEntry) → IsEntryOf row x → IsEntryOf row y → x ≡ y
same_entry row x y h k = both (h.has_id ∙ sym k.has_id) (one_least_box x.bounds y.bounds row.corners h.is_its_box k.is_its_box)
  where
    both : x.key ≡ y.key → x.bounds ≡ y.bounds → x ≡ y
    both e f = λ i. record { key = e i; bounds = f i }

same_entries : (rows : List NumberedRing) (xs ys : List IndexEntry) → AllZip IsEntryOf rows xs → AllZip IsEntryOf rows ys → xs ≡ ys
same_entries [] [] [] h k = refl
same_entries [] [] (y ∷ ys) h k = absurd k
same_entries [] (x ∷ xs) ys h k = absurd h
same_entries (row ∷ rows) [] ys h k = absurd h
same_entries (row ∷ rows) (x ∷ xs) [] h k = absurd k
same_entries (row ∷ rows) (x ∷ xs) (y ∷ ys) h k =
    ap (λ z. z ∷ xs) (same_entry row x y h.0 k.0) ∙ ap (λ zs. y ∷ zs) (same_entries rows xs ys h.1 k.1)

-- the entries and the area say what stands in each cell
same_cells : (area : Bounds) (entries : List IndexEntry) (a b : Grid) → a.area ≡ area → b.area ≡ area → Indexes a entries
    → Indexes b entries → a.cells ≡ b.cells
same_cells area entries a b f g h k =
    same_lists a.cells b.cells (h.all_cells ∙ sym k.all_cells)
    (λ n d inside.
    let below : n < 4096 = omega (arith, inside, h.all_cells) in
    let i : n / 64 < 64 = div_below n 64 64 (omega arith) (omega (arith, below)) in
    let j : n % 64 < 64 = mod_below n 64 (omega arith) in
    let place : 64 * (n / 64) + n % 64 ≡ n = omega arith in
    get_or_default a.cells n d [] inside
    ∙ ap (λ m. get_or a.cells m []) (sym place)
    ∙ h.in_cells (n / 64) (n % 64) i j
    ∙ ap (λ z. filter (λ (entry : IndexEntry). stands_in z (n / 64) (n % 64) entry.bounds) (narrow z entries)) (f ∙ sym g)
    ∙ sym (k.in_cells (n / 64) (n % 64) i j)
    ∙ ap (λ m. get_or b.cells m []) place
    ∙ sym (get_or_default b.cells n d [] (omega (arith, inside, h.all_cells, k.all_cells))))

pub one_index : (rows : List NumberedRing) (city : List Corner) (a b : Grid) → IsIndexed rows city a → IsIndexed rows city b → a ≡ b
one_index rows city a b h k =
    let area : a.area ≡ b.area = one_least_box a.area b.area city h.area k.area in
    let entries : h.entries ≡ k.entries = same_entries rows h.entries k.entries h.are_theirs k.are_theirs in
    let stand : Indexes a k.entries = subst (Indexes a) entries h.stand in
    let cells : a.cells ≡ b.cells = same_cells b.area k.entries a b area refl stand k.stand in
    let beside : a.beside ≡ b.beside = stand.beside_cells ∙ ap (λ z. wide z k.entries) area ∙ sym k.stand.beside_cells in
    λ i. record { area = area i; cells = cells i; beside = beside i }

pub one_book : {A : Type 0} (a b : Book A) → a.city ≡ b.city → a.opening ≡ b.opening → a.journal ≡ b.journal
    → replay a.opening a.journal ≡ a.now → replay b.opening b.journal ≡ b.now → IsIndexed a.now.rows a.city a.index
    → IsIndexed b.now.rows b.city b.index → a ≡ b
one_book a b city opening journal h k p q =
    let now : a.now ≡ b.now =
    sym h ∙ ap (λ o. replay o a.journal) opening ∙ ap (λ xs. replay b.opening xs) journal ∙ k in
    let index : a.index ≡ b.index =
    one_index b.now.rows b.city a.index b.index
    (subst (λ (s : State). IsIndexed s.rows b.city a.index) now (subst (λ c. IsIndexed a.now.rows c a.index) city p)) q in
    λ i. record { city = city i; opening = opening i; now = now i; index = index i; journal = journal i }
