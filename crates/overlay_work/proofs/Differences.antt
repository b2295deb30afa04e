-- Where a sorted list differs first from rising ids is the least id that is out of place.
use Rattle.std.proofs.Common.{◌≡◌, ◌≢◌, ◌⊎◌, inl, inr, ⊎_elim, refl, sym, ◌∙◌, ap, subst, arith, ℕ, zero, suc}
use Rattle.std.proofs.Common.{◌+◌, ◌<◌, ◌≤◌, min, nat_eq, true, false, cond, List, [], ◌∷◌}
use Rattle.std.specs.Prelude.{count_by, IsPermutation, Option, Some, None, MatchOption}
use Rattle.std.specs.List.{AllByRecursion, Contains}
use Rattle.std.specs.List.Sorted.{IsStrictlyIncreasing, IsNonDecreasing}
use Rattle.std.proofs.lemmas.List.Elements.{Contains-append_right}
use Rattle.std.proofs.lemmas.List.Kept.{AllPairs-from_increasing}
use Rattle.std.proofs.lemmas.Bool.{cases_eq, cases_lt, eqb-true, eq-eqb}
use Rattle.overlay_claims.proofs.Counts.{count-cons, count_itself, count_found, counts_of, by_test}
use Rattle.overlay_work.specs.Sharing.{joined, IsOutOfPlace, IsLeastOutOfPlace}
use Rattle.overlay_work.specs.own.Differences.{IsFirstDifference}
use Rattle.overlay_work.proofs.ZonesFound.{member_of_all, all_member, nothing_in}
use Rattle.overlay_work.proofs.Hands.{Rising, rising_of}

abbrev NonFalling : List ℕ → Type 0
NonFalling [] = Unit {0}
NonFalling (x ∷ xs) = AllByRecursion (λ y. x ≤ y) xs × NonFalling xs

non_falling : (xs : List ℕ) → IsNonDecreasing xs → NonFalling xs
non_falling [] up = tt
non_falling (x ∷ xs) up = (
  all_member (λ y. x ≤ y) xs (λ y c. subst (λ z. x ≤ z) c.2 (up 0 (suc c.0) y (omega arith) (omega (arith, c.1)))),
  non_falling xs (λ i j d less here. up (suc i) (suc j) d (omega arith) (omega arith)),
)

-- the id is out of place: so often in the list as it stands there, and among the ids
abbrev IsOut : List ℕ → List ℕ → ℕ → Type 0
IsOut dealt ids id = (Contains ids id × (count_by (nat_eq id) dealt ≢ 1))
    ⊎ ((Contains ids id → ⊥) × (0 < count_by (nat_eq id) dealt))

abbrev IsLeastOut : List ℕ → List ℕ → ℕ → Type 0
IsLeastOut dealt ids id = IsOut dealt ids id × ((other : ℕ) → IsOut dealt ids other → id ≤ other)

more_here : (x : ℕ) (xs : List ℕ) → count_by (nat_eq x) (x ∷ xs) ≡ 1 + count_by (nat_eq x) xs
more_here x xs = count_itself nat_eq eqb-true (λ y. eq-eqb y y refl) x xs

same_there : (x y : ℕ) (ys : List ℕ) → x ≢ y → count_by (nat_eq x) (y ∷ ys) ≡ count_by (nat_eq x) ys
same_there x y ys apart =
    by_test (nat_eq x y)
    (λ (e : nat_eq x y ≡ true). absurd (apart (eqb-true x y e)))
    (λ (e : nat_eq x y ≡ false). count-cons nat_eq eqb-true (λ z. eq-eqb z z refl) x y ys
    ∙ ap (λ b. cond b 1 0 + count_by (nat_eq x) ys) e ∙ omega arith)

found : (x : ℕ) (ys : List ℕ) → 0 < count_by (nat_eq x) ys → Contains ys x
found x ys some = let f = count_found nat_eq eqb-true (λ y. eq-eqb y y refl) x ys some in
    subst (λ l. Contains l x) (sym f.2) (Contains-append_right f.0 (x ∷ f.1) x (0, omega arith, refl))

not_found : (x : ℕ) (ys : List ℕ) → (Contains ys x → ⊥) → count_by (nat_eq x) ys ≡ 0
not_found x ys none = ⊎_elim (λ (some : 0 < count_by (nat_eq x) ys). absurd (none (found x ys some)))
    (λ (few : count_by (nat_eq x) ys ≤ 0). omega arith)
    (cases_lt 0 (count_by (nat_eq x) ys))

there : (x y : ℕ) (ys : List ℕ) → Contains ys y → Contains (x ∷ ys) y
there x y ys c = (suc c.0, omega (arith, c.1), c.2)

not_here : (x y : ℕ) (ys : List ℕ) → x ≢ y → Contains (y ∷ ys) x → Contains ys x
not_here x y ys apart (zero, less, is) = absurd (apart (sym is))
not_here x y ys apart (suc k, less, is) = (k, omega (arith, less), is)

-- none is below the first
at_least_first : (x z : ℕ) (xs : List ℕ) → AllByRecursion (λ y. x ≤ y) xs → Contains (x ∷ xs) z → x ≤ z
at_least_first x z xs up (zero, less, is) = omega (arith, is)
at_least_first x z xs up (suc k, less, is) = member_of_all (λ y. x ≤ y) xs z up (k, omega (arith, less), is)

from_the_first : (x z : ℕ) (xs : List ℕ) → AllByRecursion (λ y. x < y) xs → Contains (x ∷ xs) z → x ≤ z
from_the_first x z xs up (zero, less, is) = omega (arith, is)
from_the_first x z xs up (suc k, less, is) =
    (let above : x < z = member_of_all (λ y. x < y) xs z up (k, omega (arith, less), is) in omega (arith, above))

-- what differs first without a number in front of both is the same with it
one_more_out : (x : ℕ) (dealt ids : List ℕ) (id : ℕ) → AllByRecursion (λ y. x < y) ids → IsOut dealt ids id
    → IsOut (x ∷ dealt) (x ∷ ids) id
one_more_out x dealt ids id above out = ⊎_elim
    (λ (e : id ≡ x).
    let twice : 0 < count_by (nat_eq x) dealt = ⊎_elim
    (λ (left : Contains ids id × (count_by (nat_eq id) dealt ≢ 1)). let less : x < id =
    member_of_all (λ y. x < y) ids id above left.0 in absurd (omega (arith, less, e)))
    (λ (right : (Contains ids id → ⊥) × (0 < count_by (nat_eq id) dealt)). subst (λ z. 0 < count_by (nat_eq z) dealt) e right.1)
    out in
    inl (
      subst (Contains (x ∷ ids)) (sym e) (0, omega arith, refl),
      λ once. let one = subst (λ z. count_by (nat_eq z) (x ∷ dealt) ≡ 1) e once in let more = more_here x dealt in
          omega (arith, one, more, twice),
    ))
    (λ (apart : id ≡ x → ⊥).
    let same = same_there id x dealt apart in
    ⊎_elim
    (λ (left : Contains ids id × (count_by (nat_eq id) dealt ≢ 1)). inl (there x id ids left.0, λ once. left.1 (sym same ∙ once)))
    (λ (right : (Contains ids id → ⊥) × (0 < count_by (nat_eq id) dealt)).
    inr ((λ c. right.0 (not_here id x ids apart c)), omega (arith, same, right.1)))
    out)
    (cases_eq id x)

one_less_out : (x : ℕ) (dealt ids : List ℕ) (id : ℕ) → AllByRecursion (λ y. x < y) ids
    → IsOut (x ∷ dealt) (x ∷ ids) id → IsOut dealt ids id
one_less_out x dealt ids id above out = ⊎_elim
    (λ (e : id ≡ x).
    let none : Contains ids id → ⊥ = (λ c. let less : x < id = member_of_all (λ y. x < y) ids id above c in omega (arith, less, e)) in
    inr (
      none,
      ⊎_elim
          (λ (left : Contains (x ∷ ids) id × (count_by (nat_eq id) (x ∷ dealt) ≢ 1)).
          ⊎_elim (λ (some : 0 < count_by (nat_eq id) dealt). some)
          (λ (few : count_by (nat_eq id) dealt ≤ 0).
          absurd (left.1 (let more = subst (λ z. count_by (nat_eq id) (z ∷ dealt) ≡ 1 + count_by (nat_eq id) dealt) e
          (more_here id dealt) in omega (arith, more, few))))
          (cases_lt 0 (count_by (nat_eq id) dealt)))
          (λ (right : (Contains (x ∷ ids) id → ⊥) × (0 < count_by (nat_eq id) (x ∷ dealt))).
          absurd (right.0 (subst (Contains (x ∷ ids)) (sym e) (0, omega arith, refl))))
          out,
    ))
    (λ (apart : id ≡ x → ⊥).
    let same = same_there id x dealt apart in
    ⊎_elim
    (λ (left : Contains (x ∷ ids) id × (count_by (nat_eq id) (x ∷ dealt) ≢ 1)).
    inl (not_here id x ids apart left.0, λ once. left.1 (same ∙ once)))
    (λ (right : (Contains (x ∷ ids) id → ⊥) × (0 < count_by (nat_eq id) (x ∷ dealt))).
    inr ((λ c. right.0 (there x id ids c)), omega (arith, same, right.1)))
    out)
    (cases_eq id x)

-- who is out of place stands in one of the two
either_stands : (dealt ids : List ℕ) (id : ℕ) → IsOut dealt ids id → Contains ids id ⊎ Contains dealt id
either_stands dealt ids id out = ⊎_elim (λ left. inl left.0) (λ right. inr (found id dealt right.1)) out

least_out : (dealt ids : List ℕ) (id : ℕ) → NonFalling dealt → Rising ids → IsFirstDifference dealt ids id
    → IsLeastOut dealt ids id
least_out [] [] id up rise differ = absurd differ
least_out [] (y ∷ ids) id up rise differ = (
  inl (subst (Contains (y ∷ ids)) (sym differ) (0, omega arith, refl), λ once. omega (arith, once)),
  λ other out. ⊎_elim (λ here. let least = from_the_first y other ids rise.0 here in omega (arith, differ, least))
      (λ none. absurd (nothing_in other none)) (either_stands [] (y ∷ ids) other out),
)
least_out (x ∷ dealt) [] id up rise differ = (
  inr (
    (λ c. nothing_in id c),
    subst (λ z. 0 < count_by (nat_eq z) (x ∷ dealt)) (sym differ) (let more =
        more_here x dealt in omega (arith, more)),
  ),
  λ other out. ⊎_elim (λ none. absurd (nothing_in other none)) (λ here. let least =
      at_least_first x other dealt up.0 here in omega (arith, differ, least)) (either_stands (x ∷ dealt) [] other out),
)
least_out (x ∷ dealt) (y ∷ ids) id up rise differ = ⊎_elim
    (λ (same : (x ≡ y) × IsFirstDifference dealt ids id).
    let rest = least_out dealt ids id up.1 rise.1 same.1 in
    let above : AllByRecursion (λ z. x < z) ids = subst (λ w. AllByRecursion (λ z. w < z) ids) (sym same.0) rise.0 in
    subst (λ w. IsLeastOut (x ∷ dealt) (w ∷ ids) id) same.0 (
      one_more_out x dealt ids id above rest.0,
      λ other out. rest.1 other (one_less_out x dealt ids other above out),
    ))
    (λ (differs : (x ≢ y) × (id ≡ min y x)).
    ⊎_elim
    (λ (less : x < y).
    let is : id ≡ x = omega (arith, differs.1, less) in (
      inr (
        (λ c. let least = from_the_first y id ids rise.0 c in omega (arith, least, is, less)),
        subst (λ z. 0 < count_by (nat_eq z) (x ∷ dealt)) (sym is) (let more = more_here x dealt in omega (arith, more)),
      ),
      λ other out. ⊎_elim
          (λ here. let least = from_the_first y other ids rise.0 here in omega (arith, least, is, less))
          (λ here. let least = at_least_first x other dealt up.0 here in omega (arith, least, is))
          (either_stands (x ∷ dealt) (y ∷ ids) other out),
    ))
    (λ (more : y ≤ x).
    let apart = differs.0 in
    let is : id ≡ y = omega (arith, differs.1, more) in (
      inl (
        subst (Contains (y ∷ ids)) (sym is) (0, omega arith, refl),
        λ once. let none = not_found id (x ∷ dealt) (λ c. let least = at_least_first x id dealt up.0 c in
            apart (omega (arith, least, is, more))) in omega (arith, once, none),
      ),
      λ other out. ⊎_elim
          (λ here. let least = from_the_first y other ids rise.0 here in omega (arith, least, is))
          (λ here. let least = at_least_first x other dealt up.0 here in omega (arith, least, is, more))
          (either_stands (x ∷ dealt) (y ∷ ids) other out),
    ))
    (cases_lt x y))
    differ

pub out_of_place : (lists : List (List ℕ)) (dealt ids : List ℕ) (id : ℕ) → IsPermutation (joined lists) dealt
    → IsNonDecreasing dealt → IsStrictlyIncreasing ids
    → IsFirstDifference dealt ids id → IsLeastOutOfPlace ids lists id
out_of_place lists dealt ids id moved up rise differ =
    let least = least_out dealt ids id (non_falling dealt up)
    (rising_of ids (λ i j d less here. AllPairs-from_increasing ids rise i j d less here)) differ in
    let same : (z : ℕ) → count_by (nat_eq z) (joined lists) ≡ count_by (nat_eq z) dealt =
    counts_of nat_eq eqb-true (λ y. eq-eqb y y refl) (joined lists) dealt moved in
    record {
      out_of_place = ⊎_elim
          (λ (left : Contains ids id × (count_by (nat_eq id) dealt ≢ 1)). inl (left.0, λ once. left.1 (sym (same id) ∙ once)))
          (λ (right : (Contains ids id → ⊥) × (0 < count_by (nat_eq id) dealt)).
          inr (right.0, subst (λ n. 0 < n) (sym (same id)) right.1))
          least.0;
      is_least = λ other out. least.1 other (⊎_elim
          (λ (left : Contains ids other × (count_by (nat_eq other) (joined lists) ≢ 1)).
          inl (left.0, λ once. left.1 (same other ∙ once)))
          (λ (right : (Contains ids other → ⊥) × (0 < count_by (nat_eq other) (joined lists))).
          inr (right.0, subst (λ n. 0 < n) (same other) right.1))
          out);
    }

-- each of rising ids stands among them once
once : (ids : List ℕ) (id : ℕ) → Rising ids → Contains ids id → count_by (nat_eq id) ids ≡ 1
once [] id rise here = absurd (nothing_in id here)
once (x ∷ ids) id rise here = ⊎_elim
    (λ (e : id ≡ x).
    let none = not_found id ids (λ c. let less : x < id = member_of_all (λ y. x < y) ids id rise.0 c in omega (arith, less, e)) in
    let more = subst (λ z. count_by (nat_eq id) (z ∷ ids) ≡ 1 + count_by (nat_eq id) ids) e (more_here id ids) in
    omega (arith, none, more))
    (λ (apart : id ≡ x → ⊥). same_there id x ids apart ∙ once ids id rise.1 (not_here id x ids apart here))
    (cases_eq id x)

-- where the lists share rising ids, none is out of place
pub in_place : (lists : List (List ℕ)) (ids : List ℕ) (id : ℕ) → IsPermutation (joined lists) ids
    → IsStrictlyIncreasing ids → IsOutOfPlace ids lists id → ⊥
in_place lists ids id moved rise out =
    let same = counts_of nat_eq eqb-true (λ y. eq-eqb y y refl) (joined lists) ids moved id in
    let up = rising_of ids (λ i j d less here. AllPairs-from_increasing ids rise i j d less here) in
    ⊎_elim
    (λ left. left.1 (same ∙ once ids id up left.0))
    (λ right. right.0 (found id ids (subst (λ n. 0 < n) same right.1)))
    out

-- what the first difference tells
pub told : (found : Option ℕ) (lists : List (List ℕ)) (dealt ids : List ℕ) → IsPermutation (joined lists) dealt
    → IsNonDecreasing dealt → IsStrictlyIncreasing ids
    → MatchOption found (dealt ≡ ids) (IsFirstDifference dealt ids)
    → MatchOption found (IsPermutation (joined lists) ids) (IsLeastOutOfPlace ids lists)
told None lists dealt ids moved up rise same = subst (IsPermutation (joined lists)) same moved
told (Some id) lists dealt ids moved up rise differ = out_of_place lists dealt ids id moved up rise differ
