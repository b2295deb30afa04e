-- Places of lists that hands claim by counting words (this product's own): one word a list, 0 at first, to which a
-- hand adds one. Where it finds the word below the list's length, the place with that number is its own; else it has
-- found the list at its end. The rule of the words says that each place is claimed by one hand.
use Rattle.std.specs.Prelude.{◌≡◌, ℕ, zero, suc, ◌+◌, ◌-◌, ◌^◌, ◌<◌, ◌≤◌, ◌⊎◌, min, nat_eq, List, []}
use Rattle.std.specs.Prelude.{◌∷◌, ◌++◌, length, slice_index, flat_map, sum_by, count_by, IsPermutation}
use Rattle.std.specs.List.{AllByRecursion}
use Rattle.overlay_claims.specs.declared.view.View.{View}

-- the places of a list, each under the list's number, that are below n
abbrev pub places_below : ℕ → ℕ → List (ℕ × ℕ)
places_below list zero = []
places_below list (suc n) = (list, n) ∷ places_below list n

-- the places of all lists, whose numbers begin at first
abbrev pub all_places : ℕ → List ℕ → List (ℕ × ℕ)
all_places first [] = []
all_places first (n ∷ lengths) = places_below first n ++ all_places (suc first) lengths

-- of each list the places that are below both its length and its word
abbrev pub claimed_places : ℕ → List ℕ → List ℕ → List (ℕ × ℕ)
claimed_places first [] words = []
claimed_places first (n ∷ lengths) [] = []
claimed_places first (n ∷ lengths) (word ∷ words) =
    places_below first (min word n) ++ claimed_places (suc first) lengths words

-- how often a list is noted
abbrev pub times : ℕ → List ℕ → ℕ
times list notes = count_by (nat_eq list) notes

-- the places of all views, and the notes of a list in all of them
abbrev pub places_of : List View → List (ℕ × ℕ)
places_of views = flat_map (λ view. view.places) views

abbrev pub notes_of : ℕ → List View → ℕ
notes_of list views = sum_by (λ view. times list view.notes) views

abbrev pub parts_of : List View → ℕ
parts_of views = sum_by (λ view. view.parts) views

-- A hand's view has one part of the right to know the whole, or the parts of all hands that were joined to it. It
-- knows the lists' lengths, and has at most as many notes of a list as parts. A view that was joined to another has
-- no part, no place and no note.
pub record IsFit (lengths : List ℕ) (view : View) : Type 0 where
  pub knows : 0 < view.parts → view.lengths ≡ lengths
  pub few_notes : (list : ℕ) → times list view.notes ≤ view.parts
  pub spent : view.parts ≡ 0 → view.places ≡ []

-- The rule of the words, for lists of these lengths:
--   each place that is below both its list's length and word stands in one view, once, and no other place in any;
--   a word is at most its list's length and the notes of the list together; where there is a note, the word is at least
--   the length; all views together have as many parts as there are lists, which are as many as the hands; and no
--   addition wraps.
pub record IsClaimed (lengths words : List ℕ) (views : List View) : Type 0 where
  pub a_word_each : length words ≡ length lengths
  pub each_once : IsPermutation (places_of views) (claimed_places 0 lengths words)
  pub not_beyond : (list : ℕ) → slice_index words list ≤ slice_index lengths list + notes_of list views
  pub at_the_end : (list : ℕ) → 0 < notes_of list views → slice_index lengths list ≤ slice_index words list
  pub whole : parts_of views ≡ length lengths
  pub fit : AllByRecursion (IsFit lengths) views
  pub short : AllByRecursion (λ n. n + length lengths < 2 ^ 64) lengths

-- the view of who has all parts, before any claim; a hand's first view; and the spent view
abbrev pub view_of : List ℕ → ℕ → View
view_of lengths parts = record { lengths = lengths; parts = parts; places = []; notes = [] }

abbrev pub spent_view : View
spent_view = view_of [] 0

-- a view with a part less, with one more place, with one more note, and with all that another knows
abbrev pub with_fewer_parts : View → View
with_fewer_parts v = record { lengths = v.lengths; parts = v.parts - 1; places = v.places; notes = v.notes }

abbrev pub with_place : View → ℕ → ℕ → View
with_place v list place =
    record { lengths = v.lengths; parts = v.parts; places = v.places ++ (list, place) ∷ []; notes = v.notes }

abbrev pub with_note : View → ℕ → View
with_note v list = record { lengths = v.lengths; parts = v.parts; places = v.places; notes = v.notes ++ list ∷ [] }

abbrev pub joined : View → View → View
joined v w =
    record { lengths = v.lengths; parts = v.parts + w.parts; places = v.places ++ w.places; notes = v.notes ++ w.notes }

-- The two kinds of step that there are, each an addition of one to a list's word by a hand: the word is found below
-- the list's length, and the hand claims the place with that number; or it is found at the length or above, and the
-- hand notes the end. A view has no more places than the lists together.
abbrev pub Claims : View → ℕ → ℕ → View → Type 0
Claims v list found w =
    ((found < slice_index v.lengths list) × (w ≡ with_place v list found)
    × (length w.places ≤ sum_by (λ n. n) v.lengths))
    ⊎ ((slice_index v.lengths list ≤ found) × (w ≡ with_note v list))

-- where each list was found at its end and the view has all parts, its places are all places, each once
abbrev pub KnowsAll : View → Type 0
KnowsAll v = 0 < v.parts → v.parts ≡ length v.lengths → ((list : ℕ) → list < length v.lengths → 0 < times list v.notes)
    → IsPermutation v.places (all_places 0 v.lengths)
