-- A ring is noded in one way, and how long it is then.
use Rattle.std.proofs.Common.{◌≡◌, ◌⊎◌, ◌↔◌, inl, inr, ⊎_elim, refl, sym, ◌∙◌, ap, subst, arith, ◌*◌}
use Rattle.std.proofs.Common.{◌≤◌, List, [], ◌∷◌, ◌++◌, length, true, false, Bool, ◌||◌, ◌+◌}
use Rattle.std.specs.List.{AllByRecursion, Contains, IsDistinct, list_any}
use Rattle.std.proofs.lemmas.Int.{ints, clamps}
use Rattle.std.proofs.lemmas.List.{length-append}
use Rattle.geo_exact.specs.declared.corner.Corner.{Corner}
use Rattle.geo_exact.specs.Order.{is_same, is_same_equivalence}
use Rattle.geo_exact.specs.Rings.{Edge, edges}
use Rattle.geo_exact.specs.Segments.{IsStrictlyInside}
use Rattle.geo_exact.proofs.corners_and_turns.SameCorner.{corner_same}
use Rattle.geo_exact.proofs.corners_and_turns.CornerOrder.{Decides-is_same}
use Rattle.geo_exact.proofs.rings.Begun.{ring_count}
use Rattle.geo_exact.specs.declared.limits.TheConstants.{LAYER_CORNERS, RING_CORNERS}
use Rattle.fabric_core.specs.own.Lists.{most_refined}
use Rattle.std.proofs.lemmas.Map.Made.{length-le_from_is_member}
use Rattle.edge_chains.specs.Noding.{AreAlong, IsNodedEdge, AreNodedEdges, IsNoded}
use Rattle.edge_chains.proofs.edges.Inside.{inside_from_strictly}
use Rattle.edge_chains.proofs.edges.Parts.{inside_whole_second}
use Rattle.edge_chains.proofs.nodings.NodedEdges.{none_in_nil, Contains-here, Contains-there, Contains-cases}

-- ---- in order along an edge
-- of two corners, not each is inside what is left behind the other
never_both : (b c d : Corner) → IsStrictlyInside d c b → IsStrictlyInside c d b → ⊥
never_both b c d h k =
    let i = inside_from_strictly d c b h in
    let j = inside_from_strictly c d b k in
    h.not_start (corner_same d c
    (omega (arith, ints, clamps, i.0.0.0, i.0.0.1, j.0.0.0, j.0.0.1))
    (omega (arith, ints, clamps, i.0.1.0, i.0.1.1, j.0.1.0, j.0.1.1)))

along_inside : (a b : Corner) (xs : List Corner) (c : Corner) → AreAlong a xs b → Contains xs c → IsStrictlyInside c a b
along_inside a b [] c h k = absurd (none_in_nil c k)
along_inside a b (x ∷ xs) c h k =
    ⊎_elim (λ e. subst (λ y. IsStrictlyInside y a b) e h.0) (λ later. inside_whole_second a b x c h.0
    (along_inside x b xs c h.1 later)) (Contains-cases x xs c k)

-- each list has the other's corners
abbrev SameCorners : List Corner → List Corner → Type 0
SameCorners xs ys = (c : Corner) → Contains xs c ↔ Contains ys c

-- what stands behind the first, stands behind the first in the other list too
rest_of : (a b x : Corner) (xs ys : List Corner) → AreAlong x xs b → ((c : Corner) → Contains (x ∷ xs) c → Contains (x ∷ ys) c)
    → (c : Corner) → Contains xs c → Contains ys c
rest_of a b x xs ys h same c k =
    ⊎_elim (λ e. absurd ((along_inside x b xs c h k).not_start (sym e))) (λ later. later)
    (Contains-cases x ys c (same c (Contains-there x xs c k)))

same_first : (a b x y : Corner) (xs ys : List Corner) → AreAlong a (x ∷ xs) b → AreAlong a (y ∷ ys) b
    → SameCorners (x ∷ xs) (y ∷ ys) → x ≡ y
same_first a b x y xs ys h k same = ⊎_elim (λ e. e) (λ x_later. sym (other x_later))
    (Contains-cases x xs y ((same y).1 (Contains-here y ys)))
  where
    other : Contains xs y → y ≡ x
    other later =
        ⊎_elim (λ e. e) (λ x_later. absurd (never_both b x y (along_inside x b xs y h.1 later) (along_inside y b ys x k.1 x_later)))
        (Contains-cases y ys x ((same x).0 (Contains-here x xs)))

one_order : (a b : Corner) (xs ys : List Corner) → AreAlong a xs b → AreAlong a ys b → SameCorners xs ys → xs ≡ ys
one_order a b [] [] h k same = refl
one_order a b [] (y ∷ ys) h k same = absurd (none_in_nil y ((same y).1 (Contains-here y ys)))
one_order a b (x ∷ xs) [] h k same = absurd (none_in_nil x ((same x).0 (Contains-here x xs)))
one_order a b (x ∷ xs) (y ∷ ys) h k same =
    let e : x ≡ y = same_first a b x y xs ys h k same in
    let along : AreAlong x ys b = subst (λ z. AreAlong z ys b) (sym e) k.1 in
    let alike : SameCorners (x ∷ xs) (x ∷ ys) = subst (λ z. SameCorners (x ∷ xs) (z ∷ ys)) (sym e) same in
    ap (λ z. z ∷ xs) e ∙ ap (λ zs. y ∷ zs) (one_order x b xs ys h.1 along
    (λ c. (rest_of a b x xs ys h.1 (λ d m. (alike d).0 m) c, rest_of a b x ys xs along (λ d m. (alike d).1 m) c)))

one_inserted : (corners : List Corner) (edge : Edge) (xs ys : List Corner) → IsNodedEdge corners edge xs
    → IsNodedEdge corners edge ys → xs ≡ ys
one_inserted corners edge xs ys h k =
    one_order edge.from edge.to xs ys h.in_order k.in_order
    (λ c. ((λ m. (k.exactly c).1 ((h.exactly c).0 m)), (λ m. (h.exactly c).1 ((k.exactly c).0 m))))

one_path : (corners : List Corner) (es : List Edge) (out other : List Corner) → AreNodedEdges corners es out
    → AreNodedEdges corners es other → out ≡ other
one_path corners [] out other h k = h ∙ sym k
one_path corners (edge ∷ es) out other h k =
    h.4 ∙ ap (λ xs. edge.from ∷ xs ++ h.1) (one_inserted corners edge h.0 k.0 h.2 k.2)
    ∙ ap (λ ys. edge.from ∷ k.0 ++ ys) (one_path corners es h.1 k.1 h.3 k.3) ∙ sym k.4

-- a ring is noded in one way
pub one_noding : (ring corners out other : List Corner) → IsNoded ring corners out → IsNoded ring corners other → out ≡ other
one_noding ring corners out other h k = one_path corners (edges ring) out other h k

-- ---- how long a noded ring is
apart_from : (x y : Corner) → (y ≡ x → ⊥) → is_same x y ≡ false
apart_from x y h = cases (is_same x y) (Decides-is_same x y).0
  where
    cases : (t : Bool) → (t ≡ true → x ≡ y) → t ≡ false
    cases true same = absurd (h (sym (same refl)))
    cases false same = refl

all_of_contained : (P : Corner → Type 0) (xs : List Corner) → ((c : Corner) → Contains xs c → P c) → AllByRecursion P xs
all_of_contained P [] h = tt
all_of_contained P (x ∷ xs) h = (h x (Contains-here x xs), all_of_contained P xs (λ c k. h c (Contains-there x xs c k)))

distinct_along : (a b : Corner) (xs : List Corner) → AreAlong a xs b → IsDistinct is_same xs
unfolding IsDistinct
distinct_along a b [] h = tt
distinct_along a b (x ∷ xs) h = (
  all_of_contained (λ y. is_same x y ≡ false) xs (λ y k. apart_from x y (along_inside x b xs y h.1 k).not_start),
  distinct_along x b xs h.1,
)

pub contained_of_any : (q : Corner) (xs : List Corner) → list_any (is_same q) xs ≡ true → Contains xs q
contained_of_any q [] h = cc
contained_of_any q (x ∷ xs) h = cases (is_same q x) (Decides-is_same q x).0 h (λ k. contained_of_any q xs k)
  where
    cases : (t : Bool) → (t ≡ true → q ≡ x) → (t || list_any (is_same q) xs) ≡ true → (list_any (is_same q) xs ≡ true
        → Contains xs q)
        → Contains (x ∷ xs) q
    cases true same k later = subst (λ y. Contains (x ∷ xs) y) (sym (same refl)) (Contains-here x xs)
    cases false same k later = Contains-there x xs q (later k)

pub any_of_contained : (q : Corner) (xs : List Corner) → Contains xs q → list_any (is_same q) xs ≡ true
any_of_contained q [] h = absurd (none_in_nil q h)
any_of_contained q (x ∷ xs) h = cases (is_same q x) (Decides-is_same q x).1 (Contains-cases x xs q h) (λ k. any_of_contained q xs k)
  where
    cases : (t : Bool) → (q ≡ x → t ≡ true) → (x ≡ q) ⊎ Contains xs q → (Contains xs q → list_any (is_same q) xs ≡ true)
        → (t || list_any (is_same q) xs) ≡ true
    cases true same k later = refl
    cases false same (inl e) later = absurd (false_is_true (same (sym e)))
      where
        false_is_true : false ≡ true → ⊥
        false_is_true f = cc
    cases false same (inr k) later = later k

inserted_few : (corners : List Corner) (edge : Edge) (xs : List Corner) → IsNodedEdge corners edge xs → length xs ≤ length corners
inserted_few corners edge xs h =
    length-le_from_is_member is_same_equivalence xs corners (distinct_along edge.from edge.to xs h.in_order)
    (λ q k. any_of_contained q corners ((h.exactly q).0 (contained_of_any q xs k)).0)

noded_few : (corners : List Corner) (es : List Edge) (out : List Corner)
    → length corners ≤ (LAYER_CORNERS + RING_CORNERS) → AreNodedEdges corners es out
    → length out ≤ (LAYER_CORNERS + RING_CORNERS + 1) * length es
noded_few corners [] out few h = omega (arith, ap length h)
noded_few corners (edge ∷ es) out few h = omega (
  arith,
  few,
  ap length h.4,
  length-append h.0 h.1,
  inserted_few corners edge h.0 h.2,
  noded_few corners es h.1 few h.3,
)

pub noded_short : (ring corners out : List Corner) → length ring ≤ RING_CORNERS
    → length corners ≤ (LAYER_CORNERS + RING_CORNERS) → IsNoded ring corners out
    → length out ≤ most_refined
noded_short ring corners out short few h = omega (arith, short, noded_few corners (edges ring) out few h, ring_count ring)
