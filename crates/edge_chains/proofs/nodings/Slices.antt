-- Lists in slices, and relations that hold slice by slice.
use Rattle.std.proofs.Common.{◌≡◌, ℕ, ◌+◌, ◌*◌, ◌<◌, ◌≤◌, sym, ◌∙◌, ap, subst, arith}
use Rattle.std.proofs.Common.{List, [], ◌∷◌, ◌++◌, take, drop, length, get_or, refl}
use Rattle.std.proofs.lemmas.List.{drop-drop, length-drop, take-append-drop, append_assoc, append-nil}
use Rattle.std.proofs.lemmas.Grind.{get_or_tail}
use Rattle.std.specs.List.{AllZip}
use Rattle.edge_chains.specs.own.Slices.{AreOfSlices, AreJoined}

pub AllZip-append : {X Y : Type 0} (R : X → Y → Type 0) (xs zs : List X) (ys ws : List Y) → AllZip R xs ys → AllZip R zs ws
    → AllZip R (xs ++ zs) (ys ++ ws)
AllZip-append R [] zs [] ws h k = k
AllZip-append R [] zs (y ∷ ys) ws h k = absurd h
AllZip-append R (x ∷ xs) zs [] ws h k = absurd h
AllZip-append R (x ∷ xs) zs (y ∷ ys) ws h k = (h.0, AllZip-append R xs zs ys ws h.1 k)

drop_more : {X : Type 0} (n size : ℕ) (xs : List X) → drop (n * size) (drop size xs) ≡ drop ((n + 1) * size) xs
drop_more n size xs = drop-drop (n * size) size xs ∙ ap (λ k. drop k xs) (omega arith)

pub nil_of_none : {X : Type 0} (xs : List X) → length xs ≡ 0 → xs ≡ []
nil_of_none [] h = refl
nil_of_none (x ∷ xs) h = absurd (omega (arith, h))

mul-zero_left : (size : ℕ) → 0 * size ≡ 0
mul-zero_left size = omega arith

nil_of_no_length : {X : Type 0} (xs : List X) → length xs ≤ 0 → xs ≡ []
nil_of_no_length [] h = refl
nil_of_no_length (x ∷ xs) h = absurd (omega (arith, h))

-- where each slice has its result, and there are as many results as slices, nothing is left
pub of_slices : {X Y : Type 0} (R : List X → Y → Type 0) (size : ℕ) (xs : List X) (ys : List Y)
    → length xs ≤ length ys * size
    → ((n : ℕ) (y : Y) → n < length ys → R (take size (drop (n * size) xs)) (get_or ys n y))
    → AreOfSlices R size xs ys
of_slices R size xs [] h each = nil_of_no_length xs (omega (arith, h))
of_slices R size xs (y ∷ ys) h each = (
  subst (λ k. R (take size (drop k xs)) y) (mul-zero_left size) (each 0 y (omega arith)),
  of_slices R size (drop size xs) ys (omega (arith, h, length-drop size xs))
      (λ n d l. subst (λ zs. R (take size zs) (get_or ys n d)) (sym (drop_more n size xs))
      (subst (R (take size (drop ((n + 1) * size) xs))) (get_or_tail y ys (n + 1) d (omega arith) ∙ ap (λ k. get_or ys k d) (omega arith))
      (each (n + 1) d (omega (arith, l))))),
)

pub joined_first : {X Y Z : Type 0} (made : X → Z → Type 0) (R : List X → Y → Type 0) (size : ℕ) (xs : List X) (ys : List Y)
    → AreOfSlices R size xs ys → AreJoined made R size xs ys []
joined_first made R size xs ys h = ([], xs, refl, h, tt)

pub joined_more : {X Y Z : Type 0} (made : X → Z → Type 0) (R : List X → Y → Type 0) (size : ℕ) (xs : List X) (y : Y) (ys : List Y)
    (zs new : List Z) → AreJoined made R size xs (y ∷ ys) zs → ((slice : List X) → R slice y → AllZip made slice new)
    → AreJoined made R size xs ys (zs ++ new)
joined_more made R size xs y ys zs new h fits =
    let (done, left, all, rest, so_far) = h in (
      done ++ take size left,
      drop size left,
      append_assoc done (take size left) (drop size left) ∙ ap (λ it. done ++ it) (take-append-drop size left) ∙ all,
      rest.1,
      AllZip-append made done (take size left) zs new so_far (fits (take size left) rest.0),
    )

pub joined_last : {X Y Z : Type 0} (ys : List Y) (made : X → Z → Type 0) (R : List X → Y → Type 0) (size : ℕ) (xs : List X) (zs : List Z)
    → ys ≡ [] → AreJoined made R size xs ys zs → AllZip made xs zs
joined_last [] made R size xs zs none h =
    let (done, left, all, rest, so_far) = h in
    subst (λ it. AllZip made it zs) (sym (append-nil done) ∙ ap (λ it. done ++ it) (sym rest) ∙ all) so_far
joined_last (y ∷ ys) made R size xs zs none h = cc
