-- Rings that are clipped one after the other, and put into a table under rising numbers.
use Rattle.std.proofs.Common.{◌≡◌, refl, sym, ◌∙◌, ap, arith, ℕ, suc, ◌+◌, ◌<◌, ◌≤◌, List, [], ◌∷◌}
use Rattle.std.proofs.Common.{◌++◌, length, get_or, drop, append_assoc, drop-cons}
use Rattle.std.specs.List.Sorted.{IsStrictlyIncreasing}
use Rattle.std.proofs.lemmas.List.{append-nil}
use Rattle.std.proofs.lemmas.List.Kept.{AllPairs-from_increasing}
use Rattle.geo_exact.specs.declared.corner.Corner.{Corner}
use Rattle.geo_exact.specs.Layers.{NumberedRing, numbered}
use Rattle.fabric_core.specs.Journal.{next_after}
use Rattle.fabric_core.specs.own.Lists.{numbered_rows}

-- the next id with one row more, that is not below it
next_more : (rows : List NumberedRing) (number base : ℕ) (ring : List Corner) → next_after rows base ≤ number → base ≤ number
    → next_after (rows ++ numbered number ring ∷ []) base ≡ number + 1
next_more [] number base ring h b = omega (arith, b)
next_more (row ∷ rows) number base ring h b = omega (arith, h, next_more rows number base ring (omega (arith, h)) b)

-- the rows so far, with those of the rings that are left, are all; and no number that is left is below the next id,
-- which is one above the greatest so far
pub record AreClipped (numbers : List ℕ) (rings left : List (List Corner)) (rows : List NumberedRing) (next i : ℕ) : Type 0 where
  pub so_far : rows ++ numbered_rows (drop i numbers) left ≡ numbered_rows numbers rings
  pub as_many : i + length left ≡ length numbers
  pub above : (k : ℕ) → i ≤ k → k < length numbers → next ≤ get_or numbers k 0
  pub next_is : next ≡ next_after rows 0

pub none_clipped : (numbers : List ℕ) (rings left : List (List Corner)) (rows : List NumberedRing) (next i : ℕ)
    → length numbers ≡ length rings
    → left ≡ rings → rows ≡ [] → next ≡ 0 → i ≡ 0 → AreClipped numbers rings left rows next i
none_clipped numbers rings left rows next i e same none first begun = record {
  so_far = ap (λ xs. xs ++ numbered_rows (drop i numbers) left) none ∙ ap (λ k. numbered_rows (drop k numbers) left) begun
      ∙ ap (numbered_rows numbers) same;
  as_many = omega (arith, e, begun, ap length same);
  above = λ k l m. omega (arith, first);
  next_is = first ∙ sym (ap (λ xs. next_after xs 0) none);
}

pub one_clipped : (numbers : List ℕ) (rings left rest : List (List Corner)) (rows rows' : List NumberedRing)
    (next next' i i' number : ℕ)
    (ring : List Corner) → IsStrictlyIncreasing numbers → left ≡ ring ∷ rest → number ≡ get_or numbers i 0
    → rows' ≡ rows ++ numbered number ring ∷ [] → next' ≡ number + 1 → i' ≡ i + 1
    → AreClipped numbers rings left rows next i → AreClipped numbers rings rest rows' next' i'
one_clipped numbers rings left rest rows rows' next next' i i' number ring up e is more after step h =
    let below : i < length numbers = omega (arith, h.as_many, ap length e) in
    let next_place : suc i ≡ i' = omega (arith, step) in
    let here : numbered_rows (drop i numbers) left ≡ numbered number ring ∷ numbered_rows (drop i' numbers) rest =
    ap (λ xs. numbered_rows (drop i numbers) xs) e
    ∙ ap (λ xs. numbered_rows xs (ring ∷ rest)) (drop-cons numbers i 0 below)
    ∙ ap (λ n. numbered n ring ∷ numbered_rows (drop (suc i) numbers) rest) (sym is)
    ∙ ap (λ k. numbered number ring ∷ numbered_rows (drop k numbers) rest) next_place in
    record {
      so_far = ap (λ xs. xs ++ numbered_rows (drop i' numbers) rest) more
          ∙ append_assoc rows (numbered number ring ∷ []) (numbered_rows (drop i' numbers) rest)
          ∙ ap (λ xs. rows ++ xs) (sym here) ∙ h.so_far;
      as_many = omega (arith, h.as_many, ap length e, step);
      above = λ k l m. omega (arith, AllPairs-from_increasing numbers up i k 0 (omega (arith, l, step)) m, is, after);
      next_is = after ∙ sym (ap (λ xs. next_after xs 0) more
          ∙ next_more rows number 0 ring (omega (arith, h.above i (omega arith) below, is, h.next_is)) (omega arith));
    }

pub all_clipped : (numbers : List ℕ) (rings left : List (List Corner)) (rows : List NumberedRing) (next i : ℕ) → left ≡ []
    → AreClipped numbers rings left rows next i → rows ≡ numbered_rows numbers rings
all_clipped numbers rings left rows next i e h =
    sym (append-nil rows) ∙ ap (λ xs. rows ++ xs) (sym (none (drop i numbers))
    ∙ ap (λ xs. numbered_rows (drop i numbers) xs) (sym e)) ∙ h.so_far
  where
    none : (ns : List ℕ) → numbered_rows ns [] ≡ []
    none [] = refl
    none (n ∷ ns) = refl
