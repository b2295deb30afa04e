-- Lists that go together, place by place.
use Rattle.std.proofs.Common.{◌≡◌, refl, subst, map, List, [], ◌∷◌}
use Rattle.std.specs.List.{AllZip}

zip_mapped : {X Y : Type 0} (f : X → Y) (xs : List X) → AllZip (λ x y. f x ≡ y) xs (map f xs)
zip_mapped f [] = tt
zip_mapped f (x ∷ xs) = (refl, zip_mapped f xs)

zip_from : {X Y Z : Type 0} (f : X → Z) (g : Y → Z) (xs : List X) (ys : List Y) → AllZip (λ x z. f x ≡ z) xs (map g ys)
    → AllZip (λ x y. f x ≡ g y) xs ys
zip_from f g [] [] h = tt
zip_from f g [] (y ∷ ys) h = h
zip_from f g (x ∷ xs) [] h = h
zip_from f g (x ∷ xs) (y ∷ ys) h = (h.0, zip_from f g xs ys h.1)

-- two lists whose images are one list
pub zip_images : {X Y Z : Type 0} (f : X → Z) (g : Y → Z) (xs : List X) (ys : List Y) → map f xs ≡ map g ys
    → AllZip (λ x y. f x ≡ g y) xs ys
zip_images f g xs ys e = zip_from f g xs ys (subst (AllZip (λ x z. f x ≡ z) xs) e (zip_mapped f xs))
