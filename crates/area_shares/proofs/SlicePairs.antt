-- Pairs that are split between parcels, and slices of them.
use Rattle.std.proofs.Common.{◌≡◌, ◌∙◌, ⊎_elim, refl, sym, ap, subst, arith, ℕ, zero, suc, ◌+◌, ◌<◌, ◌≤◌}
use Rattle.std.proofs.Common.{length, get_or, take, drop, append_assoc, append-nil, List, [], ◌∷◌, ◌++◌}
use Rattle.std.specs.List.{AllByRecursion}
use Rattle.std.proofs.Math.Seq.{take-append_seam, drop-append_seam}
use Rattle.std.proofs.lemmas.List.{length-append, take-append-drop}
use Rattle.std.proofs.lemmas.List.Elements.{Contains-append_right, Contains-append_cases}
use Rattle.std.proofs.lemmas.Grind.{get_or_tail}
use Rattle.geo_exact.specs.Layers.{NumberedRing}
use Rattle.edge_chains.proofs.nodings.NodedEdges.{none_in_nil, Contains-here}
use Rattle.fabric_core.proofs.tilings.OneParcel.{of_each}
use Rattle.zone_tables.specs.Overlap.{IsPairBefore, AreInPairOrder}
use Rattle.area_shares.specs.declared.shared.AreaLine.{AreaLine}
use Rattle.area_shares.specs.AreaTable.{ArePairsOfParcels, AreAreaLines}
use Rattle.area_shares.specs.own.Parcels.{IsSplitAt}
use Rattle.area_shares.specs.own.Slices.{AreApart, AreInSlices}
use Rattle.area_shares.proofs.Tables.{joined_lines, added_none, parcels_here, parcels_behind, order_parts}

-- ---- where a slice ends
-- the pairs before another have no greater ids
none_greater : (front : List (ℕ × ℕ)) (pair : ℕ × ℕ) (others : List (ℕ × ℕ)) → AreInPairOrder (front ++ pair ∷ others)
    → AllByRecursion (λ a. a.0 ≤ pair.0) front
none_greater [] pair others up = tt
none_greater (a ∷ front) pair others up = (
  ⊎_elim (λ l. omega (arith, l)) (λ l. omega (arith, l.0))
      (of_each (IsPairBefore a) (front ++ pair ∷ others) pair up.0
      (Contains-append_right front (pair ∷ others) pair (Contains-here pair others))),
  none_greater front pair others up.1,
)

pub order_back : (pairs back : List (ℕ × ℕ)) (n : ℕ) → AreInPairOrder pairs → back ≡ drop n pairs → AreInPairOrder back
order_back pairs back n up e =
    subst AreInPairOrder (sym e) (order_parts (take n pairs) (drop n pairs) (subst AreInPairOrder (sym (take-append-drop n pairs)) up)).1

-- the pairs behind the front and the next parcel's are those of other parcels
split_apart : (pairs front here behind : List (ℕ × ℕ)) (pair : ℕ × ℕ) (others : List (ℕ × ℕ)) → AreInPairOrder pairs
    → pairs ≡ front ++ pair ∷ others → IsSplitAt pair.0 (pair ∷ others) here behind → AreApart pairs (front ++ here) behind
split_apart pairs front here behind pair others up e split = record {
  are_all = e ∙ ap (λ ps. front ++ ps) split.are_all ∙ sym (append_assoc front here behind);
  apart = λ a b c d.
      let above : pair.0 < b.0 = of_each (λ (p : ℕ × ℕ). pair.0 < p.0) behind b split.above d in
      ⊎_elim
      (λ k. let l : a.0 ≤ pair.0 = of_each (λ (p : ℕ × ℕ). p.0 ≤ pair.0) front a
      (none_greater front pair others (subst AreInPairOrder e up)) k in omega (arith, l, above))
      (λ k. let l : a.0 ≡ pair.0 = of_each (λ (p : ℕ × ℕ). p.0 ≡ pair.0) here a split.same k in omega (arith, l, above))
      (Contains-append_cases front here a c);
}

pub split_behind : (pairs front back here behind whole rest : List (ℕ × ℕ)) (pair : ℕ × ℕ) (others : List (ℕ × ℕ)) (n m : ℕ)
    → AreInPairOrder pairs → front ≡ take n pairs → back ≡ drop n pairs → back ≡ pair ∷ others → IsSplitAt pair.0 back here behind
    → m ≡ length front + length here → whole ≡ take m pairs → rest ≡ drop m pairs → AreApart pairs whole rest
split_behind pairs front back here behind whole rest pair others n m up f b e split g w r =
    let all : pairs ≡ front ++ pair ∷ others =
    sym (take-append-drop n pairs) ∙ ap (λ ps. ps ++ drop n pairs) (sym f) ∙ ap (λ ps. front ++ ps) (sym b ∙ e) in
    let are : AreApart pairs (front ++ here) behind =
    split_apart pairs front here behind pair others up all (subst (λ ps. IsSplitAt pair.0 ps here behind) e split) in
    let k : m ≡ length (front ++ here) = g ∙ sym (length-append front here) in
    let first : whole ≡ front ++ here =
    w ∙ ap (λ i. take i pairs) k ∙ ap (take (length (front ++ here))) are.are_all ∙ take-append_seam (front ++ here) behind in
    let second : rest ≡ behind =
    r ∙ ap (λ i. drop i pairs) k ∙ ap (drop (length (front ++ here))) are.are_all ∙ drop-append_seam (front ++ here) behind in
    subst (λ ps. AreApart pairs ps rest) (sym first) (subst (λ ps. AreApart pairs (front ++ here) ps) (sym second) are)

-- nothing is left behind all
pub all_apart : (pairs : List (ℕ × ℕ)) → AreApart pairs pairs []
all_apart pairs = record { are_all = sym (append-nil pairs); apart = λ a b c d. absurd (none_in_nil b d) }

pub order_behind : (pairs here behind : List (ℕ × ℕ)) → AreInPairOrder pairs → AreApart pairs here behind → AreInPairOrder behind
order_behind pairs here behind up split = (order_parts here behind (subst AreInPairOrder split.are_all up)).1

-- ---- what is made of slices
-- the item at a place behind the first
later : {X : Type 0} (x : X) (xs : List X) (i : ℕ) (d : X) → get_or (x ∷ xs) (i + 1) d ≡ get_or xs i d
later x xs i d = get_or_tail x xs (i + 1) d (omega arith) ∙ ap (λ k. get_or xs k d) (omega arith)

-- where what a job gives is what is wanted of its slice, the results are those of the slices
pub of_slices : {J Y : Type 0} (Q : List (ℕ × ℕ) → J → Type 0) (R : List (ℕ × ℕ) → Y → Type 0) (pairs : List (ℕ × ℕ)) (js : List J)
    (ys : List Y) → length ys ≡ length js → AreInSlices Q pairs js
    → ((i : ℕ) (j : J) (y : Y) → i < length js → (here : List (ℕ × ℕ)) → Q here (get_or js i j) → R here (get_or ys i y))
    → AreInSlices R pairs ys
of_slices Q R pairs [] [] e h each = h
of_slices Q R pairs [] (y ∷ ys) e h each = absurd (omega (arith, e))
of_slices Q R pairs (j ∷ js) [] e h each = absurd (omega (arith, e))
of_slices Q R pairs (j ∷ js) (y ∷ ys) e h each =
    let (here, behind, apart, is, rest) = h in (
      here,
      behind,
      apart,
      each 0 j y (omega arith) here is,
      of_slices Q R behind js ys (omega (arith, e)) rest
          (λ i d b l slice q. subst (R slice) (later y ys i b)
          (each (i + 1) d b (omega (arith, l)) slice (subst (Q slice) (sym (later j js i d)) q))),
    )

module _ (rows zones : List NumberedRing) where
  -- each slice has all pairs of its parcels
  pub each_slice : {J : Type 0} (Q : List (ℕ × ℕ) → J → Type 0) (pairs : List (ℕ × ℕ)) (js : List J) → ArePairsOfParcels rows zones pairs
      → AreInSlices Q pairs js → (i : ℕ) (j : J) → i < length js
      → (here : List (ℕ × ℕ)) × Q here (get_or js i j) × ArePairsOfParcels rows zones here
  each_slice Q pairs [] all h i j l = absurd (omega (arith, l))
  each_slice Q pairs (x ∷ xs) all h zero j l =
      let (here, behind, apart, is, rest) = h in (here, is, parcels_here rows zones pairs here behind all apart)
  each_slice {J} Q pairs (x ∷ xs) all h (suc i) j l =
      let (here, behind, apart, is, rest) = h in
      let (slice, q, are) = each_slice Q behind xs (parcels_behind rows zones pairs here behind all apart) rest i j (omega (arith, l)) in
      let P : J → Type 0 = λ y. Q slice y in
      let e : get_or xs i j ≡ get_or (x ∷ xs) (suc i) j = refl in
      (slice, subst P e q, are)

  -- the lines so far, and those of the slices that are left
  abbrev pub AreGathered : {X : Type 0} → (List (ℕ × ℕ) → X → Type 0) → List (ℕ × ℕ) → List X → List AreaLine → Type 0
  AreGathered R pairs xs so_far =
      (rest : List (ℕ × ℕ)) × AreInSlices R rest xs
      × ((more : List AreaLine) → AreAreaLines rows zones rest more → AreAreaLines rows zones pairs (so_far ++ more))

  pub gathered_first : {X : Type 0} (R : List (ℕ × ℕ) → X → Type 0) (pairs : List (ℕ × ℕ)) (xs : List X) → AreInSlices R pairs xs
      → AreGathered R pairs xs []
  gathered_first R pairs xs h = (pairs, h, λ more k. k)

  pub gathered_more : {X : Type 0} (R : List (ℕ × ℕ) → X → Type 0) (pairs : List (ℕ × ℕ)) (x : X) (xs : List X) (so_far new : List AreaLine)
      → AreGathered R pairs (x ∷ xs) so_far → ((here : List (ℕ × ℕ)) → R here x → AreAreaLines rows zones here new)
      → AreGathered R pairs xs (so_far ++ new)
  gathered_more R pairs x xs so_far new h fits =
      let (rest, slices, all) = h in let (here, behind, apart, is, left) = slices in (
        behind,
        left,
        λ more k. subst (AreAreaLines rows zones pairs) (sym (append_assoc so_far new more))
            (all (new ++ more) (joined_lines rows zones rest here behind new more apart (fits here is) k)),
      )

  pub gathered_last : {X : Type 0} (R : List (ℕ × ℕ) → X → Type 0) (pairs : List (ℕ × ℕ)) (xs : List X) (so_far : List AreaLine)
      → xs ≡ [] → AreGathered R pairs xs so_far → AreAreaLines rows zones pairs so_far
  gathered_last R pairs [] so_far e h =
      let (rest, slices, all) = h in
      subst (AreAreaLines rows zones pairs) (append-nil so_far) (all [] (no_lines rest slices))
    where
      no_lines : (ps : List (ℕ × ℕ)) → ps ≡ [] → AreAreaLines rows zones ps []
      no_lines ps e = let none = added_none rows zones ps [] e in subst (AreAreaLines rows zones ps) (sym none.is_added) none.are_lines
  gathered_last R pairs (x ∷ xs) so_far e h = cc
