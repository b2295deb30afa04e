-- How many corners the new rings have.
use Rattle.std.proofs.Common.{◌≡◌, sym, ◌∙◌, ap, arith, ℕ, ◌+◌, ◌≤◌, List, [], ◌∷◌, ◌++◌, length, take}
use Rattle.std.proofs.Common.{drop, reverse, Bool, true, false, not}
use Rattle.std.specs.Prelude.{cond}
use Rattle.std.proofs.lemmas.List.{length-append, length-take-le, length-drop, length-reverse}
use Rattle.geo_exact.specs.declared.corner.Corner.{Corner}
use Rattle.geo_exact.specs.Order.{is_same}
use Rattle.geo_exact.specs.Rings.{begun_at, begun_at_least}
use Rattle.geo_exact.proofs.rings.Begun.{least_within}
use Rattle.ring_core.proofs.ears.BegunElsewhere.{begun_length}
use Rattle.ring_edits.specs.Round.{GoesRound}
use Rattle.ring_edits.specs.Edits.{IsPath, IsSplit, IsMerge, IsMove, without_corner, straightened}

turned_length : (k : ℕ) (ring : List Corner) → k ≤ length ring → length (begun_at k ring) ≡ length ring
turned_length k ring h = omega (arith, length-append (drop k ring) (take k ring), length-drop k ring, length-take-le k ring h)

pub least_length : (ring : List Corner) → length (begun_at_least ring) ≡ length ring
least_length ring = let h = least_within ring in ap length h.2 ∙ turned_length h.0 ring h.1

two_runs : (u v : Corner) (xs ys : List Corner) → length (u ∷ xs ++ v ∷ ys) ≡ length xs + length ys + 2
two_runs u v xs ys = omega (arith, length-append xs (v ∷ ys))

round_length : (ring : List Corner) (u v : Corner) (onward back : List Corner) → GoesRound ring u onward v back
    → length ring ≡ length onward + length back + 2
round_length ring u v onward back h = sym (begun_length ring h.start h.within) ∙ ap length h.round ∙ two_runs u v onward back

made_length : (out : List Corner) (u v : Corner) (xs ys : List Corner) → out ≡ begun_at_least (u ∷ xs ++ v ∷ ys)
    → length out ≡ length xs + length ys + 2
made_length out u v xs ys h = ap length h ∙ least_length (u ∷ xs ++ v ∷ ys) ∙ two_runs u v xs ys

path_length : (u v : Corner) (corners between : List Corner) → IsPath corners u between v → length corners ≡ length between + 2
path_length u v corners between h = ap length h.is ∙ two_runs u v between [] ∙ omega arith

pub split_lengths : (ring corners left right : List Corner) → IsSplit ring corners left right
    → length left + length right + 2 ≡ length ring + (length corners + length corners)
split_lengths ring corners left right h =
    omega (
      arith,
      round_length ring h.from h.to h.onward h.back h.round,
      path_length h.from h.to corners h.between h.is_path,
      made_length left h.from h.to h.between h.back h.left_is,
      made_length right h.from h.to h.onward (reverse h.between) h.right_is,
      length-reverse h.between,
    )

pub split_bound : (ring corners left right : List Corner) → IsSplit ring corners left right
    → (length left + 2 ≤ length ring + length corners) × (length right + 2 ≤ length ring + length corners)
split_bound ring corners left right h =
    let r = round_length ring h.from h.to h.onward h.back h.round in
    let p = path_length h.from h.to corners h.between h.is_path in (
      omega (arith, r, p, made_length left h.from h.to h.between h.back h.left_is),
      omega (arith, r, p, made_length right h.from h.to h.onward (reverse h.between) h.right_is, length-reverse h.between),
    )

pub merge_bound : (a b out : List Corner) → IsMerge a b out → length out + 2 ≤ length a + length b
merge_bound a b out h =
    omega (
      arith,
      round_length a h.u h.v h.run h.of_a h.shared.round,
      round_length b h.u h.v h.of_b h.back h.round_b,
      made_length out h.v h.u h.of_a h.of_b h.out_is,
    )

pub move_bound : (a b corners out_a out_b : List Corner) → IsMove a b corners out_a out_b
    → (length out_a + 2 ≤ length a + length corners) × (length out_b + 2 ≤ length b + length corners)
move_bound a b corners out_a out_b h =
    let p = path_length h.u h.v corners h.between h.is_path in (
      omega (arith, p, round_length a h.u h.v h.run h.of_a h.shared.round, made_length out_a h.u h.v h.between h.of_a h.out_a_is),
      omega (
        arith,
        p,
        round_length b h.u h.v h.of_b h.back h.round_b,
        made_length out_b h.v h.u (reverse h.between) h.of_b h.out_b_is,
        length-reverse h.between,
      ),
    )

pub without_length : (at : Corner) (ring : List Corner) → length (without_corner at ring) ≤ length ring
without_length at [] = omega arith
without_length at (c ∷ cs) = step (is_same at c) (without_length at cs)
  where
    step : (b : Bool) → length (without_corner at cs) ≤ length cs
        → length (cond (not b) (c ∷ without_corner at cs) (without_corner at cs)) ≤ length (c ∷ cs)
    step true h = omega (arith, h)
    step false h = omega (arith, h)

pub straightened_length : (at : Corner) (ring : List Corner) → length (straightened at ring) ≤ length ring
straightened_length at ring = omega (arith, least_length (without_corner at ring), without_length at ring)
