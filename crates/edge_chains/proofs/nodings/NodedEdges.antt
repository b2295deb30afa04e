-- Edges with the corners that were inserted into them.
use Rattle.std.proofs.Common.{◌≡◌, ◌⊎◌, ◌↔◌, inl, inr, ⊎_elim, refl, sym, ◌∙◌, ap, subst, arith, Bool, true}
use Rattle.std.proofs.Common.{false, cond, ℕ, ◌+◌}
use Rattle.std.proofs.Common.{◌<◌, length, get_or, drop, List, [], ◌∷◌, ◌++◌, append_assoc, append-nil, reverse, take}
use Rattle.std.specs.List.{Contains, filter, AllByRecursion, AllZip}
use Rattle.std.specs.List.Sorted.{IsStrictlySortedBy, IsPermutation}
use Rattle.std.proofs.lemmas.List.Elements.{Contains-append_left, Contains-append_right, Contains-append_cases}
use Rattle.std.proofs.lemmas.List.Elements.{Contains-push, Contains-push_cases}
use Rattle.std.proofs.lemmas.List.Sorted.{Contains-permutation, IsPermutation-reverse, IsPermutation-refl, IsPermutation-sym}
use Rattle.std.proofs.lemmas.List.{drop_all, take_more}
use Rattle.geo_exact.specs.declared.corner.Corner.{Corner}
use Rattle.geo_exact.specs.Rings.{Edge, path}
use Rattle.geo_exact.proofs.numbers.Dropped.{drop_item}
use Rattle.geo_exact.proofs.rings.EdgeSums.{edge_of}
use Rattle.edge_chains.specs.Noding.{AreAlong, IsNodedEdge, AreNodedEdges, IsNoded}
use Rattle.geo_exact.specs.Segments.{IsStrictlyInside}
use Rattle.edge_chains.specs.own.Steps.{AreInside}
use Rattle.geo_exact.specs.Order.{is_before}
use Rattle.geo_exact.specs.own.Sorted.{corner_cmp}
use Rattle.geo_exact.proofs.corners_and_turns.CornerOrder.{IsBefore, cases_of, Decides-is_before, same_unless_before}
use Rattle.edge_chains.proofs.edges.Along.{LeadsOn, IsChain, IsChain-weaker, IsChain-reverse, leads_on_up, leads_on_down, along}
use Rattle.edge_chains.proofs.edges.Parts.{edge_has_length}
use Rattle.edge_chains.proofs.edges.Sorted.{IsChain-from_sorted}

-- ---- elements of lists
pub none_in_nil : {X : Type 0} (x : X) → Contains [] x → ⊥
none_in_nil x h = omega (arith, h.1)

pub Contains-here : {X : Type 0} (x : X) (xs : List X) → Contains (x ∷ xs) x
Contains-here x xs = Contains-append_left (x ∷ []) xs x (Contains-push [] x)

pub Contains-there : {X : Type 0} (x : X) (xs : List X) (c : X) → Contains xs c → Contains (x ∷ xs) c
Contains-there x xs c h = Contains-append_right (x ∷ []) xs c h

pub Contains-cases : {X : Type 0} (x : X) (xs : List X) (c : X) → Contains (x ∷ xs) c → (x ≡ c) ⊎ Contains xs c
Contains-cases x xs c h =
    ⊎_elim (λ p. ⊎_elim (λ q. absurd (none_in_nil c q)) (λ e. inl e) (Contains-push_cases [] x c p)) (λ q. inr q)
    (Contains-append_cases (x ∷ []) xs c h)

pub Contains-filter : (p : Corner → Bool) (xs : List Corner) (c : Corner) → Contains xs c → p c ≡ true → Contains (filter p xs) c
Contains-filter p [] c h e = absurd (none_in_nil c h)
Contains-filter p (x ∷ xs) c h e = kept (p x) refl (Contains-cases x xs c h) (λ k. Contains-filter p xs c k e)
  where
    kept : (b : Bool) → p x ≡ b → (x ≡ c) ⊎ Contains xs c → (Contains xs c → Contains (filter p xs) c)
        → Contains (cond b (x ∷ filter p xs) (filter p xs)) c
    kept true is (inl s) later = subst (Contains (x ∷ filter p xs)) s (Contains-here x (filter p xs))
    kept true is (inr k) later = Contains-there x (filter p xs) c (later k)
    kept false is (inl s) later = let z : p x ≡ true = ap p s ∙ e in cc
    kept false is (inr k) later = later k

pub Contains-from_filter : (p : Corner → Bool) (xs : List Corner) (c : Corner) → Contains (filter p xs) c
    → Contains xs c × (p c ≡ true)
Contains-from_filter p [] c h = absurd (none_in_nil c h)
Contains-from_filter p (x ∷ xs) c h = kept (p x) refl h (λ k. Contains-from_filter p xs c k)
  where
    there : Contains xs c × (p c ≡ true) → Contains (x ∷ xs) c × (p c ≡ true)
    there k = (Contains-there x xs c k.0, k.1)

    kept : (b : Bool) → p x ≡ b → Contains (cond b (x ∷ filter p xs) (filter p xs)) c
        → (Contains (filter p xs) c → Contains xs c × (p c ≡ true))
        → Contains (x ∷ xs) c × (p c ≡ true)
    kept true is k later = ⊎_elim (λ s. (subst (Contains (x ∷ xs)) s (Contains-here x xs), sym (ap p s) ∙ is))
        (λ m. there (later m))
        (Contains-cases x (filter p xs) c k)
    kept false is k later = there (later k)

pub all_from_contains : {X : Type 0} (P : X → Type 0) (xs : List X) → ((c : X) → Contains xs c → P c) → AllByRecursion P xs
all_from_contains P [] h = tt
all_from_contains P (x ∷ xs) h = (h x (Contains-here x xs), all_from_contains P xs (λ c k. h c (Contains-there x xs c k)))

-- ---- one edge
IsNodedEdge-from : (corners found once out : List Corner) (a b : Corner) → AreInside corners a b found
    → ((c : Corner) → Contains found c → Contains once c) → ((c : Corner) → Contains once c → Contains found c)
    → IsPermutation once out → (AllByRecursion (λ c. IsStrictlyInside c a b) out → AreAlong a out b)
    → IsNodedEdge corners (edge_of a b) out
IsNodedEdge-from corners found once out a b f keeps adds moved order = record {
  exactly = λ c. (
    λ h. is_found c h,
    λ h. Contains-permutation once out c moved
        (keeps c ((f c).1 h)),
  );
  in_order = order (all_from_contains (λ c. IsStrictlyInside c a b) out (λ c h. (is_found c h).1));
}
  where
    is_found : (c : Corner) → Contains out c → Contains corners c × IsStrictlyInside c a b
    is_found c h = (f c).0 (adds c (Contains-permutation out once c (IsPermutation-sym once out moved) h))

-- found corners, sorted, and turned round where the edge goes down
pub IsNodedEdge-down : (corners found once out : List Corner) (a b : Corner) → AreInside corners a b found
    → IsStrictlySortedBy corner_cmp once → ((c : Corner) → Contains found c → Contains once c)
    → ((c : Corner) → Contains once c → Contains found c)
    → is_before b a ≡ true → out ≡ reverse once → IsNodedEdge corners (edge_of a b) out
IsNodedEdge-down corners found once out a b f rises keeps adds down e =
    IsNodedEdge-from corners found once out a b f keeps adds (subst (IsPermutation once) (sym e) (IsPermutation-reverse once))
    (λ all. along a b out all (IsChain-weaker (λ c d. IsBefore d c) (LeadsOn a b) (λ c. IsStrictlyInside c a b)
    (λ c d p q r. leads_on_down a b c d ((Decides-is_before b a).0 down) p q r) out all
    (subst (IsChain (λ c d. IsBefore d c)) (sym e) (IsChain-reverse IsBefore once (IsChain-from_sorted once rises)))))

pub IsNodedEdge-up : (corners found once out : List Corner) (a b : Corner) → AreInside corners a b found
    → IsStrictlySortedBy corner_cmp once → ((c : Corner) → Contains found c → Contains once c)
    → ((c : Corner) → Contains once c → Contains found c)
    → is_before b a ≡ false → out ≡ once → IsNodedEdge corners (edge_of a b) out
IsNodedEdge-up corners found once out a b f rises keeps adds up e =
    IsNodedEdge-from corners found once out a b f keeps adds (subst (IsPermutation once) (sym e) (IsPermutation-refl once))
    (λ all. along a b out all (IsChain-weaker IsBefore (LeadsOn a b) (λ c. IsStrictlyInside c a b)
    (λ c d p q r. ⊎_elim (λ h. leads_on_up a b c d h p q r) (λ h. absurd (edge_has_length a b c p (same_unless_before a b h up)))
    (cases_of (is_before a b) (Decides-is_before a b))) out all
    (subst (IsChain IsBefore) (sym e) (IsChain-from_sorted once rises))))

-- ---- edge after edge
-- a loop's step over a ring's corners
pub noded_more : (corners : List Corner) (whole : List Edge) (before after : List Corner) (from to last : Corner)
    (rest : List Corner) (i : ℕ)
    → i < length rest → to ≡ get_or rest i to
    → (inner : List Corner) × IsNodedEdge corners (edge_of from to) inner × (after ≡ before ++ from ∷ inner)
    → ((others : List Corner) → AreNodedEdges corners (path from (drop i rest) last) others
    → AreNodedEdges corners whole (before ++ others))
    → (others : List Corner) → AreNodedEdges corners (path to (drop (i + 1) rest) last) others
    → AreNodedEdges corners whole (after ++ others)
noded_more corners whole before after from to last rest i l e h k others m =
    subst (AreNodedEdges corners whole) (sym (append_assoc before (from ∷ h.0) others) ∙ ap (λ xs. xs ++ others) (sym h.2))
    (k (from ∷ h.0 ++ others) (subst (λ xs. AreNodedEdges corners (path from xs last) (from ∷ h.0 ++ others))
    (sym (drop_item rest i to l e))
    (h.0, others, h.1, m, refl)))

-- the last edge
pub noded_all : (corners : List Corner) (whole : List Edge) (before after : List Corner) (from last : Corner) (rest : List Corner) (i : ℕ)
    → length rest ≡ i → (inner : List Corner) × IsNodedEdge corners (edge_of from last) inner × (after ≡ before ++ from ∷ inner)
    → ((others : List Corner) → AreNodedEdges corners (path from (drop i rest) last) others
    → AreNodedEdges corners whole (before ++ others))
    → AreNodedEdges corners whole after
noded_all corners whole before after from last rest i l h k =
    subst (AreNodedEdges corners whole) (sym h.2)
    (k (from ∷ h.0) (subst (λ xs. AreNodedEdges corners (path from xs last) (from ∷ h.0)) (sym (drop_all i rest (omega arith)))
    (h.0, [], h.1, refl, ap (λ xs. from ∷ xs) (sym (append-nil h.0)))))

-- the same corners in another list
pub AreNodedEdges-alike : (xs ys : List Corner) → ((c : Corner) → Contains xs c ↔ Contains ys c)
    → (es : List Edge) (out : List Corner)
    → AreNodedEdges xs es out → AreNodedEdges ys es out
AreNodedEdges-alike xs ys same [] out h = h
AreNodedEdges-alike xs ys same (e ∷ es) out h = (
  h.0,
  h.1,
  record {
    exactly = λ c. (λ k. let m = (h.2.exactly c).0 k in ((same c).0 m.0, m.1), λ k. (h.2.exactly c).1 ((same c).1 k.0, k.1));
    in_order = h.2.in_order;
  },
  AreNodedEdges-alike xs ys same es h.1 h.3,
  h.4,
)

pub AllZip-weaker : {X Y : Type 0} (R S : X → Y → Type 0) → ((x : X) (y : Y) → R x y → S x y)
    → (xs : List X) (ys : List Y) → AllZip R xs ys → AllZip S xs ys
AllZip-weaker R S w [] [] h = h
AllZip-weaker R S w [] (y ∷ ys) h = h
AllZip-weaker R S w (x ∷ xs) [] h = h
AllZip-weaker R S w (x ∷ xs) (y ∷ ys) h = (w x y h.0, AllZip-weaker R S w xs ys h.1)

AllZip-end : {X Y : Type 0} (R : X → Y → Type 0) (xs : List X) (ys : List Y) (x : X) (y : Y) → AllZip R xs ys → R x y
    → AllZip R (xs ++ x ∷ []) (ys ++ y ∷ [])
AllZip-end R [] [] x y h r = (r, tt)
AllZip-end R [] (z ∷ ys) x y h r = absurd h
AllZip-end R (z ∷ xs) [] x y h r = absurd h
AllZip-end R (z ∷ xs) (w ∷ ys) x y h r = (h.0, AllZip-end R xs ys x y h.1 r)

pub AllZip-more : {X Y : Type 0} (R : X → Y → Type 0) (xs : List X) (ys : List Y) (i : ℕ) (x : X) (y : Y)
    → i < length xs → x ≡ get_or xs i x
    → AllZip R (take i xs) ys → R x y → AllZip R (take (i + 1) xs) (ys ++ y ∷ [])
AllZip-more R xs ys i x y l e h r =
    subst (λ zs. AllZip R zs (ys ++ y ∷ [])) (sym (take_more xs i x l ∙ ap (λ z. take i xs ++ z ∷ []) (sym e)))
    (AllZip-end R (take i xs) ys x y h r)

pub noded_ring : (corners ring noded : List Corner) (first : Corner) (rest : List Corner) → ring ≡ first ∷ rest
    → AreNodedEdges corners (path first rest first) noded → IsNoded ring corners noded
noded_ring corners ring noded first rest e h = subst (λ r. IsNoded r corners noded) (sym e) h

pub noded_nothing : (corners ring noded : List Corner) → length ring ≡ 0 → noded ≡ [] → IsNoded ring corners noded
noded_nothing corners [] noded e h = h
noded_nothing corners (c ∷ rest) noded e h = absurd (omega arith)
