-- A ring whose first corner comes before all its others does not go round a corner that the first one sees outside: by numbers.
use Rattle.std.proofs.Common.{◌≡◌, ◌⊎◌, ℕ, zero, suc, ◌+◌, ◌<◌, ◌≤◌, ◌∙◌, sym, ap, subst, refl, arith}
use Rattle.std.proofs.Common.{List, [], ◌∷◌, ◌++◌, length, get_or}
use Rattle.std.specs.List.{AllByRecursion}
use Rattle.std.proofs.lemmas.List.{length-append, get_or_default, get_or_past}
use lib.IntN.{pos}
use lib.Signed.{◌<ℤ◌}
use Rattle.geo_exact.specs.declared.corner.Corner.{Corner}
use Rattle.geo_exact.specs.Point.{Point, corner_point}
use Rattle.geo_exact.specs.Order.{IsBefore}
use Rattle.geo_exact.specs.Rings.{path}
use Rattle.geo_exact.specs.Segments.{IsOnSegment}
use Rattle.geo_exact.specs.Turn.{turn, IsOnEdge, IsOnSome}
use Rattle.geo_exact.specs.Winding.{winding}
use Rattle.geo_exact.specs.Places.{origin, corner_at, after}
use Rattle.geo_exact.proofs.rings.Wedges.{outside_wedge}
use Rattle.ring_core.specs.Simple.{IsOnEdgeAt}
use Rattle.ring_core.specs.Clipping.{previous, next}
use Rattle.ring_core.proofs.edges.EdgeNumbers.{number_on_path}
use Rattle.ring_core.proofs.edges.RoundNumbers.{after_inner, before_first}

-- c is seen from corner 0 past the edges that are not at corner 0, and not between its two edges
pub record IsSeenOutside (ring : List Corner) (c : Corner) : Type 0 where
  pub least : (i : ℕ) → 0 < i → i < length ring → IsBefore (corner_at ring 0) (corner_at ring i)
  pub comes_later : IsBefore (corner_at ring 0) c
  pub clear : (q : Point) → IsOnSegment q (corner_point (corner_at ring 0)) (corner_point c)
      → (i : ℕ) → 0 < i → i + 1 < length ring → IsOnEdgeAt q ring i → ⊥
  pub left : pos 0 <ℤ turn (previous ring 0) (corner_at ring 0) (next ring 0)
  pub outside : (turn (corner_at ring 0) (next ring 0) c <ℤ pos 0) ⊎ (turn (previous ring 0) (corner_at ring 0) c <ℤ pos 0)

-- ---- lists by their numbers
all_by_number : (P : Corner → Type 0) (xs : List Corner) → ((i : ℕ) → i < length xs → P (get_or xs i origin))
    → AllByRecursion P xs
all_by_number P [] h = tt
all_by_number P (x ∷ xs) h = (h zero (omega arith), all_by_number P xs (λ i b. h (suc i) (omega arith)))

split_last : (xs : List Corner) → 0 < length xs → (ys : List Corner) × (y : Corner) × (xs ≡ ys ++ y ∷ [])
split_last [] h = absurd (omega arith)
split_last (x ∷ []) h = ([], x, refl)
split_last (x ∷ y ∷ xs) h = let r = split_last (y ∷ xs) (omega arith) in (x ∷ r.0, r.1, ap (λ zs. x ∷ zs) r.2)

item_or_last : (xs : List Corner) (y : Corner) (i : ℕ) → i ≤ length xs → get_or (xs ++ y ∷ []) i origin ≡ get_or xs i y
item_or_last [] y zero h = refl
item_or_last [] y (suc i) h = absurd (omega arith)
item_or_last (x ∷ xs) y zero h = refl
item_or_last (x ∷ xs) y (suc i) h = item_or_last xs y i (omega arith)

item_before_last : (xs : List Corner) (y : Corner) (i : ℕ) → i < length xs → get_or (xs ++ y ∷ []) i origin ≡ get_or xs i origin
item_before_last xs y i h = item_or_last xs y i (omega arith) ∙ sym (get_or_default xs i origin y h)

-- ---- the ring from v by n to p, and back
module _ (v n p c : Corner) (between : List Corner) (h : IsSeenOutside (v ∷ n ∷ (between ++ p ∷ [])) c) where
  number_of_last : length (v ∷ n ∷ (between ++ p ∷ [])) ≡ suc (suc (suc (length between)))
  number_of_last = omega (arith, length-append between (p ∷ []))

  last_is : get_or (between ++ p ∷ []) (length between) origin ≡ p
  last_is = item_or_last between p (length between) (omega arith) ∙ get_or_past between (length between) p (omega arith)

  previous_is : previous (v ∷ n ∷ (between ++ p ∷ [])) 0 ≡ p
  previous_is =
      ap (corner_at (v ∷ n ∷ (between ++ p ∷ [])))
      (before_first (length (v ∷ n ∷ (between ++ p ∷ []))) (suc (suc (length between))) number_of_last)
      ∙ last_is

  next_is : next (v ∷ n ∷ (between ++ p ∷ [])) 0 ≡ n
  next_is = ap (corner_at (v ∷ n ∷ (between ++ p ∷ [])))
      (after_inner (length (v ∷ n ∷ (between ++ p ∷ []))) 0 (omega (arith, number_of_last)))

  clear_path : (q : Point) → IsOnSegment q (corner_point v) (corner_point c) → ¬ IsOnSome q (path n between p)
  clear_path q way on =
      let r = number_on_path q n p between on in
      h.clear q way (suc r.0) (omega arith) (let b = r.1 in omega (arith, number_of_last))
      (subst (λ z. IsOnEdge q z (corner_at (v ∷ n ∷ (between ++ p ∷ [])) (after (length (v ∷ n ∷ (between ++ p ∷ [])))
      (suc r.0))))
      (sym (item_before_last (n ∷ between) p r.0 (let b = r.1 in omega arith)))
      (subst (λ z. IsOnEdge q (get_or (n ∷ between) r.0 origin) (corner_at (v ∷ n ∷ (between ++ p ∷ [])) z))
      (sym (after_inner (length (v ∷ n ∷ (between ++ p ∷ []))) (suc r.0) (let b = r.1 in omega (arith, number_of_last))))
      (subst (λ z. IsOnEdge q (get_or (n ∷ between) r.0 origin) z) (sym (item_or_last between p r.0 r.1)) r.2)))

  seen_by_name : winding (corner_point c) (v ∷ n ∷ (between ++ p ∷ [])) ≡ pos 0
  seen_by_name =
      outside_wedge v n p c between
      (h.least 1 (omega arith) (omega (arith, number_of_last)))
      (all_by_number (IsBefore v) between
      (λ i b. subst (IsBefore v) (item_before_last between p i b) (h.least (suc (suc i)) (omega arith) (omega (arith, number_of_last)))))
      (subst (IsBefore v) last_is (h.least (suc (suc (length between))) (omega arith) (omega (arith, number_of_last))))
      h.comes_later clear_path
      (subst (λ z. pos 0 <ℤ turn p v z) next_is (subst (λ z. pos 0 <ℤ turn z v (next (v ∷ n ∷ (between ++ p ∷ [])) 0))
      previous_is h.left))
      (subst (λ z. (turn v n c <ℤ pos 0) ⊎ (turn z v c <ℤ pos 0)) previous_is
      (subst (λ z. (turn v z c <ℤ pos 0) ⊎ (turn (previous (v ∷ n ∷ (between ++ p ∷ [])) 0) v c <ℤ pos 0)) next_is h.outside))

pub seen_outside : (ring : List Corner) (c : Corner) → 2 < length ring → IsSeenOutside ring c
    → winding (corner_point c) ring ≡ pos 0
seen_outside [] c big h = absurd (omega arith)
seen_outside (v ∷ []) c big h = absurd (omega arith)
seen_outside (v ∷ n ∷ rest) c big h =
    let r = split_last rest (omega arith) in
    subst (λ xs. winding (corner_point c) (v ∷ n ∷ xs) ≡ pos 0) (sym r.2)
    (seen_by_name v n r.1 c r.0 (subst (λ xs. IsSeenOutside (v ∷ n ∷ xs) c) r.2 h))
