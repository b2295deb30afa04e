-- The rows of a layer and its refined city have no corner strictly inside an edge; so an unbalanced edge is no false alarm.
use Rattle.std.proofs.Common.{◌≡◌, ◌⊎◌, inl, inr, ⊎_elim, refl, sym, ◌∙◌, ap, subst, ℕ, ℤ, List, [], ◌∷◌}
use Rattle.std.proofs.Common.{◌++◌, map, take, drop, Result, Ok, Err}
use Rattle.std.specs.List.{AllZip, Contains}
use Rattle.std.specs.Result.{IfOk, IfErr, IsErrOf, MatchResult}
use Rattle.std.proofs.lemmas.List.{take-append-drop}
use Rattle.std.proofs.lemmas.List.Elements.{Contains-append_left, Contains-append_right, Contains-append_cases}
use Rattle.geo_exact.specs.declared.corner.Corner.{Corner}
use Rattle.geo_exact.specs.Rings.{Edge, edges, begun_at, begun_at_least}
use Rattle.geo_exact.specs.Layers.{NumberedRing}
use Rattle.geo_exact.proofs.rings.Begun.{edges_begun, least_within}
use Rattle.edge_chains.specs.Net.{all_edges}
use Rattle.edge_chains.specs.Noding.{IsNoded, all_corners, AreFullyNoded}
use Rattle.edge_chains.proofs.nodings.NodedRings.{AreFullyNoded-noded}
use Rattle.fabric_core.specs.declared.layer.LoadFault.{LoadFault}
use Rattle.fabric_core.specs.declared.layer.LoadFault.TheVariants.{TooMany, Ring, Gap, NoMemory}
use Rattle.fabric_core.specs.Tiling.{corner_lists, IsTiling}
use Rattle.fabric_core.specs.Rows.{corners_of_layer, IsRowOf, AreRefined, Tiles, IsUntiledBeside}
use Rattle.fabric_core.specs.Limits.{AreWithinLimits}
use Rattle.fabric_core.specs.Faults.{AreSimple, IsFirstGap, IsFirstFault, IsLoadFault}
use Rattle.fabric_core.proofs.loads.RefinedRings.{whole_corners}
use Rattle.fabric_core.proofs.tilings.Tilings.{untiled_beside, no_tiling_beside}
use Rattle.fabric_core.proofs.loads.OneLoadFault.{one_refinement, within_has_none, simple_has_none}

-- ---- begun rings
contained_begun : {X : Type 0} (k : ℕ) (xs : List X) (x : X) → Contains (begun_at k xs) x → Contains xs x
contained_begun k xs x h =
    subst (λ ys. Contains ys x) (take-append-drop k xs)
    (⊎_elim (λ p. Contains-append_right (take k xs) (drop k xs) x p) (λ p. Contains-append_left (take k xs) (drop k xs) x p)
    (Contains-append_cases (drop k xs) (take k xs) x h))

corner_begun : (ring : List Corner) (c : Corner) → Contains (begun_at_least ring) c → Contains ring c
corner_begun ring c h = let w = least_within ring in contained_begun w.0 ring c (subst (λ xs. Contains xs c) w.2 h)

edge_begun : (ring : List Corner) (e : Edge) → Contains (edges (begun_at_least ring)) e → Contains (edges ring) e
edge_begun ring e h =
    let w = least_within ring in
    contained_begun w.0 (edges ring) e (subst (λ es. Contains es e) (ap edges w.2 ∙ edges_begun w.0 ring w.1) h)

corners_begun : (rings others : List (List Corner)) (c : Corner) → Contains (all_corners (map begun_at_least rings ++ others)) c
    → Contains (all_corners (rings ++ others)) c
corners_begun [] others c h = h
corners_begun (ring ∷ rings) others c h =
    ⊎_elim (λ p. Contains-append_left ring (all_corners (rings ++ others)) c (corner_begun ring c p))
    (λ p. Contains-append_right ring (all_corners (rings ++ others)) c (corners_begun rings others c p))
    (Contains-append_cases (begun_at_least ring) (all_corners (map begun_at_least rings ++ others)) c h)

all_edges_begun : (rings others : List (List Corner)) (e : Edge) → Contains (all_edges (map begun_at_least rings ++ others)) e
    → Contains (all_edges (rings ++ others)) e
all_edges_begun [] others e h = h
all_edges_begun (ring ∷ rings) others e h =
    ⊎_elim (λ p. Contains-append_left (edges ring) (all_edges (rings ++ others)) e (edge_begun ring e p))
    (λ p. Contains-append_right (edges ring) (all_edges (rings ++ others)) e (all_edges_begun rings others e p))
    (Contains-append_cases (edges (begun_at_least ring)) (all_edges (map begun_at_least rings ++ others)) e h)

-- ---- rows
record NodedLists (corners : List Corner) (records rows : List NumberedRing) : Type 0 where
  lists : List (List Corner)
  are_noded : AllZip (λ ring out. IsNoded ring corners out) (corner_lists records) lists
  are_begun : corner_lists rows ≡ map begun_at_least lists

noded_lists : (corners : List Corner) (records rows : List NumberedRing) → AllZip (IsRowOf corners) records rows
    → NodedLists corners records rows
noded_lists corners [] [] h = record { lists = []; are_noded = tt; are_begun = refl }
noded_lists corners [] (row ∷ rows) h = absurd h
noded_lists corners (r ∷ records) [] h = absurd h
noded_lists corners (r ∷ records) (row ∷ rows) h =
    let w = noded_lists corners records rows h.1 in record {
      lists = h.0.noded ∷ w.lists;
      are_noded = (h.0.is_noded, w.are_noded);
      are_begun = ap (λ x. x ∷ corner_lists rows) h.0.is_begun ∙ ap (λ xs. begun_at_least h.0.noded ∷ xs) w.are_begun;
    }

AllZip-push : {X Y : Type 0} (R : X → Y → Type 0) (xs : List X) (ys : List Y) (x : X) (y : Y) → AllZip R xs ys → R x y
    → AllZip R (xs ++ x ∷ []) (ys ++ y ∷ [])
AllZip-push R [] [] x y h k = (k, tt)
AllZip-push R [] (z ∷ ys) x y h k = absurd h
AllZip-push R (z ∷ xs) [] x y h k = absurd h
AllZip-push R (z ∷ xs) (w ∷ ys) x y h k = (h.0, AllZip-push R xs ys x y h.1 k)

pub rows_fully_noded : (records : List NumberedRing) (city : List Corner) (rows : List NumberedRing) (refined : List Corner)
    → AreRefined records city rows refined → AreFullyNoded (corner_lists rows ++ refined ∷ [])
rows_fully_noded records city rows refined h =
    let corners = corners_of_layer records city in
    let w = noded_lists corners records rows h.are_rows in
    let full : AreFullyNoded (w.lists ++ refined ∷ []) =
    AreFullyNoded-noded corners (corner_lists records ++ city ∷ []) (w.lists ++ refined ∷ [])
    (AllZip-push (λ ring out. IsNoded ring corners out) (corner_lists records) w.lists city refined w.are_noded h.is_refined)
    (λ c k. subst (λ cs. Contains cs c) (whole_corners records city) k) in
    subst (λ lists. AreFullyNoded (lists ++ refined ∷ [])) (sym w.are_begun)
    (λ c e k l i. full c e (corners_begun w.lists (refined ∷ []) c k) (all_edges_begun w.lists (refined ∷ []) e l) i)

-- ---- gaps
gap_beside : (records : List NumberedRing) (city : List Corner) (rows : List NumberedRing) (refined : List Corner) (a b : Corner) (n : ℤ)
    → AreRefined records city rows refined → IsFirstGap rows refined a b n → IsUntiledBeside rows city refined a b
gap_beside records city rows refined a b n h gap =
    untiled_beside rows city (corners_of_layer records city) refined a b h.is_refined (rows_fully_noded records city rows refined h)
    (λ none. gap.is_gap.is_unbalanced (sym gap.is_gap.is_net ∙ none))

-- a gap that is told is one of the rows
told_gap : (records : List NumberedRing) (city : List Corner) (rows : List NumberedRing) (refined : List Corner) (a b : Corner) (n : ℤ)
    → AreRefined records city rows refined → IsLoadFault records city (Gap a b n) → IsUntiledBeside rows city refined a b
told_gap records city rows refined a b n h fault =
    let same : (fault.rows ≡ rows) × (fault.refined ≡ refined) =
    one_refinement records city fault.rows rows fault.refined refined fault.are_refined h in
    subst (λ rs. IsUntiledBeside rs city refined a b) same.0
    (subst (λ r. IsUntiledBeside fault.rows city r a b) same.1
    (gap_beside records city fault.rows fault.refined a b n fault.are_refined fault.is_first.2))

pub no_error : {T E : Type 0} (r : Result T E) (x : T) (e : E) → r ≡ Ok x → r ≡ Err e → ⊥
no_error r x e h k = cc

pub same_error : {T E : Type 0} (r : Result T E) (e f : E) → r ≡ Err e → r ≡ Err f → e ≡ f
same_error r e f h k = cc

pub untiled_where_told : {T : Type 0} (r : Result T LoadFault) (records : List NumberedRing) (city : List Corner)
    → IfErr r (λ f. IsLoadFault records city f ⊎ (f ≡ NoMemory)) → (rows : List NumberedRing) (refined : List Corner)
    (a b : Corner) (n : ℤ)
    → AreRefined records city rows refined → IsErrOf r (Gap a b n) → IsUntiledBeside rows city refined a b
untiled_where_told (Ok x) records city told rows refined a b n h e = absurd (no_error (Ok x) x (Gap a b n) refl e)
untiled_where_told (Err f) records city (inl k) rows refined a b n h e =
    told_gap records city rows refined a b n h (subst (IsLoadFault records city) (same_error (Err f) f (Gap a b n) refl e) k)
untiled_where_told (Err f) records city (inr m) rows refined a b n h e =
    absurd (apart (sym (same_error (Err f) f (Gap a b n) refl e) ∙ m))
  where
    apart : Gap a b n ≡ NoMemory → ⊥
    apart x = cc

-- ---- no tiling is refused
tiling_has_none : (records : List NumberedRing) (city : List Corner) (rows : List NumberedRing) (refined : List Corner) (f : LoadFault)
    → AreRefined records city rows refined → AreWithinLimits rows → AreSimple rows → IsTiling rows city
    → IsFirstFault rows refined f → ⊥
tiling_has_none records city rows refined (TooMany n) h within simple tiling k = within_has_none rows n within k
tiling_has_none records city rows refined (Ring n f) h within simple tiling k = simple_has_none rows n f simple k.1
tiling_has_none records city rows refined (Gap a b n) h within simple tiling k =
    no_tiling_beside rows city refined a b (gap_beside records city rows refined a b n h k.2) tiling
tiling_has_none records city rows refined NoMemory h within simple tiling k = k

pub loaded_where_tiling : (r : Result Tiles LoadFault) (records : List NumberedRing) (city : List Corner)
    → IfOk r (λ x. AreRefined records city x.rows x.refined) → IfErr r (λ f. IsLoadFault records city f ⊎ (f ≡ NoMemory))
    → (rows : List NumberedRing) (refined : List Corner) → AreRefined records city rows refined → AreWithinLimits rows
    → AreSimple rows → IsTiling rows city
    → MatchResult r (λ x. x.rows ≡ rows) (λ e. e ≡ NoMemory)
loaded_where_tiling (Ok x) records city made told rows refined h within simple tiling =
    (one_refinement records city x.rows rows x.refined refined made h).0
loaded_where_tiling (Err f) records city made (inl k) rows refined h within simple tiling =
    let e = one_refinement records city k.rows rows k.refined refined k.are_refined h in
    absurd (tiling_has_none records city rows refined f h within simple tiling
    (subst (λ rs. IsFirstFault rs refined f) e.0 (subst (λ x. IsFirstFault k.rows x f) e.1 k.is_first)))
loaded_where_tiling (Err f) records city made (inr e) rows refined h within simple tiling = e
