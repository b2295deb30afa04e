-- Whether a path goes across a ring can be found out. So it does where it can't be that it does not.
use Rattle.std.proofs.Common.{◌≡◌, ⊎_elim, refl, sym, ◌∙◌, ap, subst, arith, List, [], ◌∷◌, ◌++◌, length}
use Rattle.std.specs.List.{Contains, list_any}
use Rattle.std.proofs.lemmas.Bool.{cases_lt}
use Rattle.std.proofs.lemmas.List.{length_push, same_from_push}
use Rattle.geo_exact.specs.declared.corner.Corner.{Corner}
use Rattle.geo_exact.specs.declared.limits.TheConstants.{RING_CORNERS}
use Rattle.geo_exact.specs.Order.{is_same}
use Rattle.ring_edits.specs.Edits.{IsPathAcross}
use Rattle.fabric_core.proofs.loads.OneNoding.{any_of_contained, contained_of_any}
use Rattle.fabric_core.proofs.edits.Renewed.{changes_it}

has_it : (ring : List Corner) (c : Corner) → ¬ (¬ Contains ring c) → Contains ring c
has_it ring c h =
    contained_of_any c ring (changes_it (list_any (is_same c) ring) (λ off. h (λ k. off (any_of_contained c ring k))))

-- a list that has an item has a last one
last_of : (first : Corner) (rest : List Corner) → (front : List Corner) × (last : Corner) × (first ∷ rest ≡ front ++ last ∷ [])
last_of first [] = ([], first, refl)
last_of first (next ∷ rest) = let w = last_of next rest in (first ∷ w.0, w.1, ap (λ xs. first ∷ xs) w.2)

module _ (ring : List Corner) (first : Corner) (front : List Corner) (last : Corner) where
  -- a path goes across from its first corner to its last
  ends : (h : IsPathAcross ring (first ∷ front ++ last ∷ [])) → (h.from ≡ first) × (h.to ≡ last)
  ends h =
      let e : first ∷ front ++ last ∷ [] ≡ h.from ∷ h.between ++ h.to ∷ [] = h.is_path.is in
      let head : h.from ≡ first = cc in
      let tail : front ++ last ∷ [] ≡ h.between ++ h.to ∷ [] = cc in
      (head, sym (same_from_push front h.between last h.to tail).1)

  goes_across : ¬ (¬ IsPathAcross ring (first ∷ front ++ last ∷ [])) → IsPathAcross ring (first ∷ front ++ last ∷ [])
  goes_across h = record {
    from = first;
    between = front;
    to = last;
    is_path = record {
      is = refl;
      not_closed = λ e. h (λ k. k.is_path.not_closed ((ends k).0 ∙ e ∙ sym (ends k).1));
      short = ⊎_elim
          (λ long. absurd (h (λ k. let short = k.is_path.short in omega (arith, long, short))))
          (λ short. omega (arith, short))
          (cases_lt RING_CORNERS (length (first ∷ front ++ last ∷ [])));
    };
    has_from = has_it ring first (λ off. h (λ k. off (subst (Contains ring) (ends k).0 k.has_from)));
    has_to = has_it ring last (λ off. h (λ k. off (subst (Contains ring) (ends k).1 k.has_to)));
  }

pub surely_across : (ring path : List Corner) → ¬ (¬ IsPathAcross ring path) → IsPathAcross ring path
surely_across ring [] h = absurd (h (λ k. let e = k.is_path.is in cc))
surely_across ring (first ∷ []) h =
    absurd (h (λ k. let e = ap length k.is_path.is in let n = length_push k.between k.to in omega (arith, e, n)))
surely_across ring (first ∷ next ∷ rest) h =
    let w = last_of next rest in
    subst (λ xs. IsPathAcross ring (first ∷ xs)) (sym w.2)
    (goes_across ring first w.0 w.1 (λ off. h (λ k. off (subst (λ xs. IsPathAcross ring (first ∷ xs)) w.2 k))))
