-- A ring begun at another of its corners: its numbers there, and that it is the same in all that the clipping asks.
use Rattle.std.proofs.Common.{◌≡◌, ◌≢◌, ⊎_elim, ℕ, ◌+◌, ◌-◌, ◌<◌, ◌≤◌, ◌∙◌, sym, ap, subst, arith}
use Rattle.std.proofs.Common.{if◌then◌else◌}
use Rattle.std.proofs.Common.{List, length, take, drop}
use Rattle.std.specs.Prelude.{nat_lt}
use Rattle.std.proofs.lemmas.Bool.{cases_lt}
use Rattle.std.proofs.lemmas.Bool.Decides.{nat_tests}
use Rattle.std.proofs.lemmas.List.{get_or_append_left, get_or-append_right, get_or-take, get_or-drop}
use Rattle.std.proofs.lemmas.List.{length-append, length-take-le, length-drop}
use Rattle.geo_exact.specs.declared.corner.Corner.{Corner}
use Rattle.geo_exact.specs.Rings.{begun_at}
use Rattle.geo_exact.specs.Places.{corner_at, origin, after}
use Rattle.ring_core.specs.Simple.{MeetOnlyAsNeighbours}
use Rattle.ring_core.specs.Clipping.{Blocks, IsFlat, IsEar}
use Rattle.ring_core.proofs.ears.EarWords.{IsLeftAtLeast, IsFlatOrEar, HaveEarsOff}
use Rattle.ring_core.proofs.ears.Renumbered.{IsBegunElsewhere, begun_back, simple_here, least_there, flat_there, blocks_there}
use Rattle.ring_core.proofs.ears.Renumbered.{ear_there, flat_or_ear_there, off_edge_there}

-- the number that corner i of a ring of n corners begun at corner k has in the ring
abbrev pub number_from : ℕ → ℕ → ℕ → ℕ
number_from n k i = if nat_lt (i + k) n then i + k else i + k - n

-- the number that corner j of a ring of n corners has in the ring begun at corner k
abbrev pub number_to : ℕ → ℕ → ℕ → ℕ
number_to n k j = if nat_lt j k then j + n - k else j - k

from_low : (n k i : ℕ) → i + k < n → number_from n k i ≡ i + k
from_low n k i h = grind (arith, nat_tests)

from_high : (n k i : ℕ) → n ≤ i + k → number_from n k i ≡ i + k - n
from_high n k i h = grind (arith, nat_tests)

from_in : (n k i : ℕ) → k < n → i < n → number_from n k i < n
from_in n k i h b = grind (arith, nat_tests)

to_in : (n k i : ℕ) → k < n → i < n → number_to n k i < n
to_in n k i h b = grind (arith, nat_tests)

to_from : (n k i : ℕ) → k < n → i < n → number_to n k (number_from n k i) ≡ i
to_from n k i h b = grind (arith, nat_tests)

from_to : (n k i : ℕ) → k < n → i < n → number_from n k (number_to n k i) ≡ i
from_to n k i h b = grind (arith, nat_tests)

from_after : (n k i : ℕ) → k < n → i < n → number_from n k (after n i) ≡ after n (number_from n k i)
from_after n k i h b = grind (arith, nat_tests)

-- corner k comes first
to_itself : (n k : ℕ) → number_to n k k ≡ 0
to_itself n k = grind (arith, nat_tests)

pub begun_length : (ring : List Corner) (k : ℕ) → k < length ring → length (begun_at k ring) ≡ length ring
begun_length ring k h =
    omega (arith, length-append (drop k ring) (take k ring), length-drop k ring, length-take-le k ring (omega arith))

drop_length : (ring : List Corner) (k : ℕ) → k < length ring → length (drop k ring) ≡ length ring - k
drop_length ring k h = omega (arith, length-drop k ring)

pub begun_corner : (ring : List Corner) (k i : ℕ) → k < length ring → i < length ring
    → corner_at (begun_at k ring) i ≡ corner_at ring (number_from (length ring) k i)
begun_corner ring k i h b =
    ⊎_elim
    (λ low. get_or_append_left (drop k ring) (take k ring) origin i (omega (arith, drop_length ring k h)) ∙ get_or-drop k ring i origin
    ∙ ap (corner_at ring) (omega arith ∙ sym (from_low (length ring) k i low)))
    (λ high. get_or-append_right (drop k ring) (take k ring) (length ring - k) i origin (drop_length ring k h) (omega arith)
    ∙ get_or-take k ring (i - (length ring - k)) origin (omega arith)
    ∙ ap (corner_at ring) (omega arith ∙ sym (from_high (length ring) k i high)))
    (cases_lt (i + k) (length ring))

pub is_begun : (ring : List Corner) (k : ℕ) → k < length ring
    → IsBegunElsewhere (begun_at k ring) ring (number_from (length ring) k) (number_to (length ring) k)
is_begun ring k h = record {
  same = record {
    as_many = begun_length ring k h;
    inside = λ i b. from_in (length ring) k i h b;
    back_inside = λ i b. to_in (length ring) k i h b;
    corners = λ i b. begun_corner ring k i h b;
    and_back = λ i b. to_from (length ring) k i h b;
    and_forth = λ i b. from_to (length ring) k i h b;
  };
  follows = λ i b. from_after (length ring) k i h b;
}

-- and the ring is that one, begun elsewhere
pub is_begun_back : (ring : List Corner) (k : ℕ) → k < length ring
    → IsBegunElsewhere ring (begun_at k ring) (number_to (length ring) k) (number_from (length ring) k)
is_begun_back ring k h =
    begun_back (begun_at k ring) ring (number_from (length ring) k) (number_to (length ring) k) (is_begun ring k h)

module _ (ring : List Corner) (k : ℕ) (h : k < length ring) where
  inside_begun : (i : ℕ) → i < length ring → i < length (begun_at k ring)
  inside_begun i b = omega (arith, begun_length ring k h)

  pub begun_simple : MeetOnlyAsNeighbours ring → MeetOnlyAsNeighbours (begun_at k ring)
  begun_simple = simple_here (begun_at k ring) ring (number_from (length ring) k) (number_to (length ring) k) (is_begun ring k h)

  -- by the numbers that the corners of the ring begun elsewhere have in the ring
  pub begun_flat : (i : ℕ) → i < length ring → IsFlat (begun_at k ring) i → IsFlat ring (number_from (length ring) k i)
  begun_flat = flat_there (begun_at k ring) ring (number_from (length ring) k) (number_to (length ring) k) (is_begun ring k h)

  pub begun_ear : (i : ℕ) → i < length ring → IsEar (begun_at k ring) i → IsEar ring (number_from (length ring) k i)
  begun_ear = ear_there (begun_at k ring) ring (number_from (length ring) k) (number_to (length ring) k) (is_begun ring k h)

  pub begun_flat_or_ear : (i : ℕ) → i < length ring → IsFlatOrEar (begun_at k ring) i
      → IsFlatOrEar ring (number_from (length ring) k i)
  begun_flat_or_ear =
      flat_or_ear_there (begun_at k ring) ring (number_from (length ring) k) (number_to (length ring) k) (is_begun ring k h)

  pub begun_blocks : (i j : ℕ) → i < length ring → j < length ring → Blocks (begun_at k ring) i j
      → Blocks ring (number_from (length ring) k i) (number_from (length ring) k j)
  begun_blocks = blocks_there (begun_at k ring) ring (number_from (length ring) k) (number_to (length ring) k) (is_begun ring k h)

  pub begun_least : (v : ℕ) → IsLeftAtLeast (begun_at k ring) v → IsLeftAtLeast ring (number_from (length ring) k v)
  begun_least = least_there (begun_at k ring) ring (number_from (length ring) k) (number_to (length ring) k) (is_begun ring k h)

  -- and by those that the corners of the ring have in the ring begun elsewhere
  pub flat_begun : (j : ℕ) → j < length ring → IsFlat ring j → IsFlat (begun_at k ring) (number_to (length ring) k j)
  flat_begun j b =
      flat_there ring (begun_at k ring) (number_to (length ring) k) (number_from (length ring) k) (is_begun_back ring k h) j
      (inside_begun j b)

  pub ear_begun : (j : ℕ) → j < length ring → IsEar ring j → IsEar (begun_at k ring) (number_to (length ring) k j)
  ear_begun j b =
      ear_there ring (begun_at k ring) (number_to (length ring) k) (number_from (length ring) k) (is_begun_back ring k h) j
      (inside_begun j b)

  pub flat_or_ear_begun : (j : ℕ) → j < length ring → IsFlatOrEar ring j
      → IsFlatOrEar (begun_at k ring) (number_to (length ring) k j)
  flat_or_ear_begun j b =
      flat_or_ear_there ring (begun_at k ring) (number_to (length ring) k) (number_from (length ring) k) (is_begun_back ring k h) j
      (inside_begun j b)

  pub blocks_begun : (i j : ℕ) → i < length ring → j < length ring → Blocks ring i j
      → Blocks (begun_at k ring) (number_to (length ring) k i) (number_to (length ring) k j)
  blocks_begun i j bi bj =
      blocks_there ring (begun_at k ring) (number_to (length ring) k) (number_from (length ring) k) (is_begun_back ring k h) i j
      (inside_begun i bi) (inside_begun j bj)

  pub least_begun : (v : ℕ) → IsLeftAtLeast ring v → IsLeftAtLeast (begun_at k ring) (number_to (length ring) k v)
  least_begun = least_there ring (begun_at k ring) (number_to (length ring) k) (number_from (length ring) k) (is_begun_back ring k h)

-- begun at its least corner, a ring has it first
pub least_first : (ring : List Corner) (v : ℕ) → IsLeftAtLeast ring v → IsLeftAtLeast (begun_at v ring) 0
least_first ring v l = subst (IsLeftAtLeast (begun_at v ring)) (to_itself (length ring) v) (least_begun ring v l.below v l)

-- ears off an edge of the ring begun elsewhere are ears off that edge of the ring
pub off_edge_begun : (ring : List Corner) (v i : ℕ) → v < length ring → i < length ring
    → (k : ℕ) × (k < length ring) × (k ≢ number_to (length ring) v i) × (k ≢ after (length ring) (number_to (length ring) v i))
    × IsFlatOrEar (begun_at v ring) k
    → (k : ℕ) × (k < length ring) × (k ≢ i) × (k ≢ after (length ring) i) × IsFlatOrEar ring k
off_edge_begun ring v i h b x =
    subst (λ z. (k : ℕ) × (k < length ring) × (k ≢ z) × (k ≢ after (length ring) z) × IsFlatOrEar ring k)
    (from_to (length ring) v i h b)
    (off_edge_there (begun_at v ring) ring (number_from (length ring) v) (number_to (length ring) v) (is_begun ring v h)
    (number_to (length ring) v i) (to_in (length ring) v i h b) x)

-- so ears are asked for where the least corner comes first
pub ears_off_by_first : (n : ℕ)
    → ((ring : List Corner) → length ring ≡ n → MeetOnlyAsNeighbours ring → IsLeftAtLeast ring 0
    → (i : ℕ) → i < n → (k : ℕ) × (k < n) × (k ≢ i) × (k ≢ after n i) × IsFlatOrEar ring k)
    → HaveEarsOff n
ears_off_by_first n first ring v e simple l i b =
    subst (λ m. (k : ℕ) × (k < m) × (k ≢ i) × (k ≢ after m i) × IsFlatOrEar ring k) e
    (off_edge_begun ring v i l.below (omega arith)
    (subst (λ m. (k : ℕ) × (k < m) × (k ≢ number_to (length ring) v i) × (k ≢ after m (number_to (length ring) v i))
    × IsFlatOrEar (begun_at v ring) k) (sym e)
    (first (begun_at v ring) (begun_length ring v l.below ∙ e) (begun_simple ring v l.below simple) (least_first ring v l)
    (number_to (length ring) v i) (omega (arith, to_in (length ring) v i l.below (omega arith))))))
