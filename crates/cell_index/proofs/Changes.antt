-- Cells are changed one after another.
use Rattle.std.proofs.Common.{◌≡◌, ◌≢◌, ◌∙◌, inl, inr, sym, ap, subst, ℕ, ◌+◌, ◌<◌, ◌≤◌, arith, List, []}
use Rattle.std.proofs.Common.{length, get_or, slice_set, below_more}
use Rattle.std.proofs.lemmas.Bool.{cases_eq}
use Rattle.std.proofs.lemmas.List.{get_or-set_same, get_or-set_other, get_or_default, get_or-map, map-set, set-get_or}
use Rattle.smallvec.specs.SmallVec.{HasRoomFor}
use Rattle.cell_index.specs.declared.places.Places.{Places}
use Rattle.cell_index.specs.own.Ranges.{place_count, place_at, Cell, no_cell, cell_at, contents, HaveRoom, KeepRoom, IsChanged}
use Rattle.cell_index.proofs.KeptPlaces.{one_place}

pub same_cell : (c d : Cell) → c.items ≡ d.items → c.capacity ≡ d.capacity → c ≡ d
same_cell c d e f = λ i. record { items = e i; capacity = f i }

module _ (places : Places) (n k : ℕ) (below : n < place_count places) (is : k ≡ place_at places n) where
  -- the cells before it have other numbers
  other_number : (m : ℕ) → m < n → place_at places m ≢ k
  other_number m q e =
      let same : m ≡ n = one_place places m n (omega (arith, q, below)) below (e ∙ is) in omega (arith, same, q)

  -- one cell more is changed
  pub changed_more : (change : Cell → Cell) (old now : List Cell) (d made : Cell) → k < length now
      → made ≡ change (get_or now k d) → IsChanged places n change old now
      → IsChanged places (n + 1) change old (slice_set now k made)
  changed_more change old now d made inside e h = record {
    changed = below_more (λ m. cell_at (slice_set now k made) (place_at places m) ≡ change (cell_at old (place_at places m))) n
        (λ m q. get_or-set_other now k (place_at places m) made no_cell (other_number m q) ∙ h.changed m q)
        (subst (λ z. cell_at (slice_set now k made) z ≡ change (cell_at old z)) is
        (get_or-set_same now k made no_cell inside ∙ e
        ∙ ap change (get_or_default now k d no_cell inside ∙ h.others k other_number)));
    others = λ z off.
        get_or-set_other now k z made no_cell (λ e. off n (omega arith) (sym is ∙ sym e))
        ∙ h.others z (λ m q. off m (omega (arith, q)));
  }

  -- one cell more has room, and what stands in the cells stays
  pub room_more : (count : ℕ) (now : List Cell) (made : Cell) → k < length now → HasRoomFor made count
      → HaveRoom places n count now → HaveRoom places (n + 1) count (slice_set now k made)
  room_more count now made inside room h =
      below_more (λ m. HasRoomFor (cell_at (slice_set now k made) (place_at places m)) count) n
      (λ m q. subst (λ c. HasRoomFor c count) (sym (get_or-set_other now k (place_at places m) made no_cell (other_number m q))) (h m q))
      (subst (λ z. HasRoomFor (cell_at (slice_set now k made) z) count) is
      (subst (λ c. HasRoomFor c count) (sym (get_or-set_same now k made no_cell inside)) room))

pub contents_kept : (now : List Cell) (k : ℕ) (d made : Cell) → k < length now → made.items ≡ (get_or now k d).items
    → contents (slice_set now k made) ≡ contents now
contents_kept now k d made inside e =
    map-set (λ c. c.items) now k made
    ∙ ap (slice_set (contents now) k)
    (e ∙ ap (λ c. c.items) (get_or_default now k d no_cell inside) ∙ sym (get_or-map (λ c. c.items) now k no_cell [] inside))
    ∙ set-get_or (contents now) k []

pub room_kept : (old now : List Cell) (k : ℕ) (d made : Cell) → k < length now → (get_or now k d).capacity ≤ made.capacity
    → KeepRoom old now → KeepRoom old (slice_set now k made)
room_kept old now k d made inside more h z = elim (cases_eq z k) [
  | inl e ↦ subst (λ y. (cell_at old y).capacity ≤ (cell_at (slice_set now k made) y).capacity) (sym e)
      (subst (λ c. (cell_at old k).capacity ≤ c.capacity) (sym (get_or-set_same now k made no_cell inside))
      (let least : (cell_at old k).capacity ≤ (get_or now k d).capacity =
      subst (λ c. (cell_at old k).capacity ≤ c.capacity) (get_or_default now k no_cell d inside) (h k) in
      omega (arith, least, more)))
  | inr off ↦ subst (λ c. (cell_at old z).capacity ≤ c.capacity) (sym (get_or-set_other now k z made no_cell off)) (h z)
]
