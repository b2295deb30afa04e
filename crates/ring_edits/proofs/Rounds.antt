-- Rings cut in two at two of their corners.
use Rattle.std.proofs.Common.{◌≡◌, ◌≢◌, ⊎_elim, refl, sym, ◌∙◌, ap, arith, ℕ, suc, ◌+◌, ◌-◌, ◌<◌}
use Rattle.std.proofs.Common.{◌≤◌, List, [], ◌∷◌, ◌++◌, length, take, drop, reverse, append_assoc, nat_lt, true, false}
use Rattle.std.specs.List.{slice_range}
use Rattle.std.proofs.lemmas.Bool.{cases_lt}
use Rattle.std.proofs.lemmas.Bool.Decides.{nat_tests}
use Rattle.std.proofs.lemmas.List.{get_or_default, take-append-drop, length-take-le, length-append}
use Rattle.std.proofs.Math.Seq.{take-append-add, take-append_seam}
use Rattle.std.proofs.lemmas.List.Folds.{drop_split}
use Rattle.geo_exact.specs.declared.corner.Corner.{Corner}
use Rattle.geo_exact.specs.Places.{corner_at, origin}
use Rattle.geo_exact.specs.Rings.{begun_at, begun_at_least}
use Rattle.geo_exact.proofs.numbers.Dropped.{drop_item}
use Rattle.ring_edits.specs.Round.{GoesRound}
use Rattle.ring_edits.specs.Edits.{IsPath, IsPathAcross, IsSplit}
use Rattle.ring_edits.specs.own.Between.{between, IsPathAt}

-- from a number on, a ring is the corner there and the others
pub from_corner : (ring : List Corner) (i : ℕ) → i < length ring → drop i ring ≡ corner_at ring i ∷ drop (i + 1) ring
from_corner ring i h = drop_item ring i (corner_at ring i) h (get_or_default ring i origin (corner_at ring i) h)

pub between_up : (ring : List Corner) (i j : ℕ) → i < j → between ring i j ≡ slice_range ring (i + 1) j
between_up ring i j h = let t : nat_lt i j ≡ true = grind (arith, nat_tests) in rw t refl

pub between_down : (ring : List Corner) (i j : ℕ) → j ≤ i → between ring i j ≡ drop (i + 1) ring ++ take j ring
between_down ring i j h = let t : nat_lt i j ≡ false = grind (arith, nat_tests) in rw t refl

-- the part of a ring from a number on to a later one
upward : (ring : List Corner) (i j : ℕ) → i < j → j < length ring
    → drop (i + 1) ring ≡ slice_range ring (i + 1) j ++ corner_at ring j ∷ drop (j + 1) ring
upward ring i j h k = drop_split ring (i + 1) j (omega arith) ∙ ap (λ xs. slice_range ring (i + 1) j ++ xs) (from_corner ring j k)

-- and up to a number, through an earlier one
up_to : (ring : List Corner) (i j : ℕ) → j < i → i < length ring
    → take i ring ≡ take j ring ++ corner_at ring j ∷ slice_range ring (j + 1) i
up_to ring i j h k =
    let n = i - (j + 1) in
    let e : i ≡ length (take j ring) + suc n = omega (arith, length-take-le j ring (omega arith)) in
    ap (take i) (sym (take-append-drop j ring))
    ∙ ap (λ m. take m (take j ring ++ drop j ring)) e
    ∙ take-append-add (take j ring) (drop j ring) (suc n)
    ∙ ap (λ xs. take j ring ++ take (suc n) xs) (from_corner ring j (omega arith))

goes_up : (ring : List Corner) (i j : ℕ) → i < j → j < length ring
    → begun_at i ring ≡ corner_at ring i ∷ between ring i j ++ corner_at ring j ∷ between ring j i
goes_up ring i j h k =
    ap (λ xs. xs ++ take i ring) (from_corner ring i (omega arith) ∙ ap (λ xs. corner_at ring i ∷ xs) (upward ring i j h k))
    ∙ ap (λ xs. corner_at ring i ∷ xs) (append_assoc (slice_range ring (i + 1) j)
    (corner_at ring j ∷ drop (j + 1) ring) (take i ring))
    ∙ ap (λ xs. corner_at ring i ∷ xs ++ corner_at ring j ∷ (drop (j + 1) ring ++ take i ring)) (sym (between_up ring i j h))
    ∙ ap (λ xs. corner_at ring i ∷ between ring i j ++ corner_at ring j ∷ xs) (sym (between_down ring j i (omega arith)))

goes_down : (ring : List Corner) (i j : ℕ) → j < i → i < length ring
    → begun_at i ring ≡ corner_at ring i ∷ between ring i j ++ corner_at ring j ∷ between ring j i
goes_down ring i j h k =
    ap (λ xs. xs ++ take i ring) (from_corner ring i k)
    ∙ ap (λ xs. corner_at ring i ∷ drop (i + 1) ring ++ xs) (up_to ring i j h k)
    ∙ ap (λ xs. corner_at ring i ∷ xs)
    (sym (append_assoc (drop (i + 1) ring) (take j ring) (corner_at ring j ∷ slice_range ring (j + 1) i)))
    ∙ ap (λ xs. corner_at ring i ∷ xs ++ corner_at ring j ∷ slice_range ring (j + 1) i) (sym (between_down ring i j (omega arith)))
    ∙ ap (λ xs. corner_at ring i ∷ between ring i j ++ corner_at ring j ∷ xs) (sym (between_up ring j i h))

-- begun at one of two corners, a ring goes by those between on to the other, and by the rest back
pub round_of : (ring : List Corner) (i j : ℕ) → i < length ring → j < length ring → i ≢ j
    → begun_at i ring ≡ corner_at ring i ∷ between ring i j ++ corner_at ring j ∷ between ring j i
round_of ring i j h k off = ⊎_elim (λ l. goes_up ring i j l k) (λ l. goes_down ring i j (omega (arith, off)) h) (cases_lt i j)

pub goes_round : (ring : List Corner) (i j : ℕ) → i < length ring → j < length ring → i ≢ j
    → GoesRound ring (corner_at ring i) (between ring i j) (corner_at ring j) (between ring j i)
goes_round ring i j h k off = record {
  start = i;
  within = h;
  round = round_of ring i j h k off;
}

-- a path between two numbers of a ring goes from a corner of it to another
pub across : (ring corners : List Corner) (i j : ℕ) → IsPathAt ring corners i j → IsPathAcross ring corners
across ring corners i j h = record {
  from = corner_at ring i;
  between = h.middle;
  to = corner_at ring j;
  is_path = h.is_path;
  has_from = (i, h.i_in_ring, get_or_default ring i (corner_at ring i) origin h.i_in_ring);
  has_to = (j, h.j_in_ring, get_or_default ring j (corner_at ring j) origin h.j_in_ring);
}

-- what stands between its ends
middle_is : (u v : Corner) (corners middle : List Corner) → IsPath corners u middle v
    → slice_range corners 1 (length corners - 1) ≡ middle
middle_is u v corners middle h =
    ap (λ xs. slice_range xs 1 (length xs - 1)) h.is
    ∙ ap (λ n. take n (middle ++ v ∷ [])) (let e = length-append middle (v ∷ []) in omega (arith, e))
    ∙ take-append_seam middle (v ∷ [])

numbers_apart : (ring : List Corner) (i j : ℕ) → corner_at ring i ≢ corner_at ring j → i ≢ j
numbers_apart ring i j h e = h (ap (corner_at ring) e)

pub is_split : (ring corners left right : List Corner) (i j : ℕ) → IsPathAt ring corners i j
    → left ≡ begun_at_least (corners ++ between ring j i)
    → right ≡ begun_at_least
    (corner_at ring i ∷ between ring i j ++ corner_at ring j ∷ reverse (slice_range corners 1 (length corners - 1)))
    → IsSplit ring corners left right
is_split ring corners left right i j h l r = record {
  from = corner_at ring i;
  between = h.middle;
  to = corner_at ring j;
  onward = between ring i j;
  back = between ring j i;
  is_path = h.is_path;
  round = goes_round ring i j h.i_in_ring h.j_in_ring (numbers_apart ring i j h.is_path.not_closed);
  left_is = l ∙ ap (λ xs. begun_at_least (xs ++ between ring j i)) h.is_path.is
      ∙ ap (λ xs. begun_at_least (corner_at ring i ∷ xs)) (append_assoc h.middle (corner_at ring j ∷ []) (between ring j i));
  right_is = r ∙ ap (λ xs. begun_at_least (corner_at ring i ∷ between ring i j ++ corner_at ring j ∷ reverse xs))
      (middle_is (corner_at ring i) (corner_at ring j) corners h.middle h.is_path);
}
