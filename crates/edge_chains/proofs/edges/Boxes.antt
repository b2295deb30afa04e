-- Boxes of blocks: written one by one, and passed over.
use Rattle.std.proofs.Common.{◌≡◌, ◌⊎◌, inl, inr, ⊎_elim, sym, ◌∙◌, ap, subst, refl, arith, Bool, true, false, cond}
use Rattle.std.proofs.Common.{ℕ, zero, suc, ◌*◌, ◌<◌, ◌≤◌, List, [], ◌∷◌, ◌++◌, append-nil, length, get_or, set, take}
use Rattle.std.proofs.Common.{add-one, length-set, slice_index, ◌/◌}
use Rattle.std.specs.List.{filter}
use Rattle.std.proofs.lemmas.List.{get_or-set_same, get_or-set_other}
use Rattle.std.proofs.lemmas.List.Elements.{filter_more}
use Rattle.std.proofs.lemmas.Bool.{cases_eq, false≢true}
use Rattle.geo_exact.specs.declared.corner.Corner.{Corner}
use Rattle.geo_exact.specs.declared.bounds.Bounds.{Bounds}
use Rattle.geo_exact.specs.Bounds.{HoldsCorner}
use Rattle.edge_chains.specs.own.Blocks.{AreEnds, HasBlock}

-- a filter passes over elements of which none passes the test
pub filter_skips : (p : Corner → Bool) (xs : List Corner) (d : Corner) (i e : ℕ) → i ≤ e → e ≤ length xs
    → ((k : ℕ) → i ≤ k → k < e → p (get_or xs k d) ≡ false) → filter p (take e xs) ≡ filter p (take i xs)
filter_skips p xs d i zero l m h = let z : i ≡ 0 = omega arith in ap (λ n. filter p (take n xs)) (sym z)
filter_skips p xs d i (suc e) l m h =
    last (filter_skips p xs d i e) (cases_eq i (suc e))
  where
    last : (i ≤ e → e ≤ length xs → ((k : ℕ) → i ≤ k → k < e → p (get_or xs k d) ≡ false) → filter p (take e xs)
        ≡ filter p (take i xs))
        → (i ≡ suc e) ⊎ (i ≡ suc e → ⊥) → filter p (take (suc e) xs) ≡ filter p (take i xs)
    last before (inl z) = ap (λ n. filter p (take n xs)) (sym z)
    last before (inr z) =
        rw (← add-one e) (filter_more p xs e d (omega arith)
        ∙ ap (λ b. filter p (take e xs) ++ cond b (get_or xs e d ∷ []) []) (h e (omega arith) (omega arith))
        ∙ append-nil (filter p (take e xs))
        ∙ before (omega arith) (omega arith) (λ k u v. h k u (omega arith)))

-- a filter, where a weaker one went before
pub filter_within : (p q : Corner → Bool) (xs : List Corner) → ((c : Corner) → p c ≡ true → q c ≡ true)
    → filter p (filter q xs) ≡ filter p xs
filter_within p q [] h = refl
filter_within p q (x ∷ xs) h = kept (q x) refl (p x) refl (filter_within p q xs h)
  where
    kept : (b : Bool) → q x ≡ b → (t : Bool) → p x ≡ t → filter p (filter q xs) ≡ filter p xs
        → filter p (cond b (x ∷ filter q xs) (filter q xs)) ≡ cond (p x) (x ∷ filter p xs) (filter p xs)
    kept true e t f later = ap (λ ys. cond (p x) (x ∷ ys) ys) later
    kept false e true f later = absurd (false≢true (sym e ∙ h x f))
    kept false e false f later = later ∙ sym (ap (λ t. cond t (x ∷ filter p xs) (filter p xs)) f)

pub filter_none : (p : Corner → Bool) → ((c : Corner) → p c ≡ false) → (xs : List Corner) → filter p xs ≡ []
filter_none p h [] = refl
filter_none p h (x ∷ xs) = ap (λ t. cond t (x ∷ filter p xs) (filter p xs)) (h x) ∙ filter_none p h xs

-- ---- a box that is written
pub HasBlock-set : (corners : List Corner) (ends : List ℕ) (boxes : List Bounds) (i : ℕ) (v : Bounds) → i < length boxes
    → ((k : ℕ) (c : Corner) → i * 4 ≤ k → k < slice_index ends i → HoldsCorner v (get_or corners k c))
    → (j : ℕ) → (i < j → HasBlock corners ends boxes j) → i ≤ j → HasBlock corners ends (set boxes i v) j
HasBlock-set corners ends boxes i v l h j later ij k c b jk ke =
    ⊎_elim
    (λ e. subst (λ n. HoldsCorner (get_or (set boxes i v) n b) (get_or corners k c)) (sym e)
    (subst (λ box. HoldsCorner box (get_or corners k c)) (sym (get_or-set_same boxes i v b l))
    (h k c (omega arith) (subst (λ n. k < slice_index ends n) e ke))))
    (λ n. subst (λ box. HoldsCorner box (get_or corners k c)) (sym (get_or-set_other boxes i j v b n)) (later (omega arith) k c b jk ke))
    (cases_eq j i)

-- ---- where blocks end
-- a group's block has its first corner, and none behind the last
pub first_inside : (n : ℕ) (ends : List ℕ) → AreEnds n ends → (i : ℕ) → i * 4 < n
    → (i < length ends) × (i * 4 < slice_index ends i) × (slice_index ends i ≤ n)
first_inside n ends h i l =
    let e : i * 4 / 4 ≡ i = omega arith in
    let go = subst (λ g. (i * 4 < slice_index ends g) × (slice_index ends g ≤ n)) e (h.go_on (i * 4) l) in
    (subst (λ g. g < length ends) e (h.in_groups (i * 4) l), go.0, go.1)

-- an end that is written
pub AreEnds-set : (n : ℕ) (ends : List ℕ) (i e : ℕ) → AreEnds n ends → e ≤ n → ((k : ℕ) → k < n → k / 4 ≡ i → k < e)
    → AreEnds n (set ends i e)
AreEnds-set n ends i e h l f = record {
  in_groups = λ k m. rw (length-set ends i e) (h.in_groups k m);
  go_on = λ k m. ⊎_elim
      (λ same. subst (λ v. (k < v) × (v ≤ n))
      (sym (subst (λ g. get_or (set ends i e) g 0 ≡ e) (sym same)
      (get_or-set_same ends i e 0 (subst (λ g. g < length ends) same (h.in_groups k m)))))
      (f k m same, l))
      (λ other. subst (λ v. (k < v) × (v ≤ n)) (sym (get_or-set_other ends i (k / 4) e 0 other)) (h.go_on k m))
      (cases_eq (k / 4) i);
}
