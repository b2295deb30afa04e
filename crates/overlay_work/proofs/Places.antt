-- Ids at places of lists.
use Rattle.std.proofs.Common.{◌≡◌, refl, ◌∙◌, ap, arith, ℕ, zero, suc, ◌-◌, ◌<◌, ◌≤◌, List, [], ◌∷◌}
use Rattle.std.proofs.Common.{◌++◌, map, length, get_or, take, drop, length-append, append-nil}
use Rattle.std.specs.Prelude.{slice_index, slice_index_or, sum_by, Result, Ok, Err, IfErr, IsErr, IsErrAnd}
use Rattle.std.specs.List.{Contains}
use Rattle.std.proofs.lemmas.List.{map-append, get_or_default, take_all}
use Rattle.std.proofs.lemmas.List.Elements.{Contains-append_left, Contains-append_right}
use Rattle.std.proofs.lemmas.List.Sums.{sum_by-cons}
use Rattle.overlay_work.specs.Sharing.{joined}
use Rattle.overlay_work.specs.Rounds.{id_at}
use Rattle.overlay_work.specs.own.Kept.{ids_at}

module _ {X Y : Type 0} (f : X → Y) where
  pub map_at : (xs : List X) (i : ℕ) (d : X) (e : Y) → i < length xs → get_or (map f xs) i e ≡ f (get_or xs i d)
  map_at [] i d e less = absurd (omega arith)
  map_at (x ∷ xs) zero d e less = refl
  map_at (x ∷ xs) (suc i) d e less = map_at xs i d e (omega arith)

pub map_map : {X Y Z : Type 0} (f : X → Y) (g : Y → Z) (xs : List X) → map g (map f xs) ≡ map (λ x. g (f x)) xs
map_map f g [] = refl
map_map f g (x ∷ xs) = ap (λ l. g (f x) ∷ l) (map_map f g xs)

pub length_at : (lists : List (List ℕ)) (i : ℕ) → slice_index (map (λ list. length list) lists) i
    ≡ length (slice_index_or lists i [])
length_at [] i = refl
length_at (list ∷ lists) zero = refl
length_at (list ∷ lists) (suc i) = length_at lists i

pub contains_at : (xs : List ℕ) (i : ℕ) → i < length xs → Contains xs (slice_index xs i)
contains_at xs i less = (i, less, get_or_default xs i (slice_index xs i) 0 less)

-- what stands at a place stands in the lists
pub at_place : (lists : List (List ℕ)) (i j : ℕ) → j < length (slice_index_or lists i [])
    → Contains (joined lists) (id_at lists (i, j))
at_place [] i j less = absurd (omega arith)
at_place (list ∷ lists) zero j less = Contains-append_left list (joined lists) (slice_index list j) (contains_at list j less)
at_place (list ∷ lists) (suc i) j less = Contains-append_right list (joined lists) (id_at lists (i, j)) (at_place lists i j less)

pub length_joined : (lists : List (List ℕ)) → length (joined lists) ≡ sum_by (λ n. n) (map (λ list. length list) lists)
length_joined [] = refl
length_joined (list ∷ lists) =
    let both = length-append list (joined lists) in
    let rest = length_joined lists in
    let sum = sum_by-cons (λ (n : ℕ). n) (length list) (map (λ l. length l) lists) in
    omega (arith, both, rest, sum)

pub one_more_id : (lists : List (List ℕ)) (places : List (ℕ × ℕ)) (place : ℕ × ℕ)
    → ids_at lists (places ++ place ∷ []) ≡ ids_at lists places ++ id_at lists place ∷ []
one_more_id lists places place = map-append (id_at lists) places (place ∷ [])

pub before_last : {X : Type 0} (xs : List X) (x : X) → take (length (xs ++ x ∷ []) - 1) (xs ++ x ∷ []) ≡ xs
before_last {X = X} xs x =
    let n : length (xs ++ x ∷ []) - 1 ≡ length xs = (let e = length-append xs (x ∷ []) in omega (arith, e)) in
    ap (λ k. take k (xs ++ x ∷ [])) n ∙ front xs
  where
    front : (ys : List X) → take (length ys) (ys ++ x ∷ []) ≡ ys
    front [] = refl
    front (y ∷ ys) = ap (λ l. y ∷ l) (front ys)

-- a list that is written over whole
pub written_whole : {X : Type 0} (xs ys : List X) (n : ℕ) → length xs ≡ n → length ys ≡ n
    → take n (xs ++ drop (length xs) ys) ≡ xs
written_whole xs ys n long same =
    let none : drop (length xs) ys ≡ [] = nothing_left (length xs) ys (omega (arith, long, same)) in
    ap (λ l. take n (xs ++ l)) none ∙ ap (take n) (append-nil xs) ∙ take_all n xs (omega (arith, long))
  where
    nothing_left : {X : Type 0} (k : ℕ) (zs : List X) → length zs ≤ k → drop k zs ≡ []
    nothing_left zero [] few = refl
    nothing_left zero (z ∷ zs) few = absurd (omega (arith, few))
    nothing_left (suc k) [] few = refl
    nothing_left (suc k) (z ∷ zs) few = nothing_left k zs (omega (arith, few))

pub err_more : {X E : Type 0} (P Q : E → Type 0) (r : Result X E) → ((e : E) → P e → Q e) → IfErr r P → IfErr r Q
err_more P Q (Ok x) f h = h
err_more P Q (Err e) f h = f e h

pub err_both : {X E : Type 0} (P Q R : E → Type 0) (r : Result X E) → ((e : E) → P e → Q e → R e) → IfErr r P
    → IfErr r Q → IfErr r R
err_both P Q R (Ok x) f h k = h
err_both P Q R (Err e) f h k = f e h k

pub err_of : {X E : Type 0} (P : E → Type 0) (r : Result X E) → IsErrAnd r P → IsErr r
err_of P (Ok x) h = absurd h
err_of P (Err e) h = refl
