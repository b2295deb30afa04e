-- What is taken of a list, one element after the other.
use Rattle.std.proofs.Common.{◌≡◌, List, [], ◌∷◌, ◌++◌, map, sym, ◌∙◌, ap, append_assoc, append-nil}
use Rattle.std.specs.List.{flat_map}

module _ {X Y : Type 0} where
  -- one element more, of each of which there is one
  pub mapped_on : (f : X → Y) (done whole : List Y) (here left : List X) (x : X) → here ≡ x ∷ left → done ++ map f here ≡ whole
      → (done ++ f x ∷ []) ++ map f left ≡ whole
  mapped_on f done whole here left x next is = append_assoc done (f x ∷ []) (map f left)
      ∙ (ap (λ l. done ++ map f l) (sym next) ∙ is)

  pub mapped_all : (f : X → Y) (done whole : List Y) (here : List X) → here ≡ [] → done ++ map f here ≡ whole → done ≡ whole
  mapped_all f done whole here none is = sym (append-nil done) ∙ (ap (λ l. done ++ map f l) (sym none) ∙ is)

  -- one element more, of each of which there are some
  pub joined_on : (f : X → List Y) (done whole : List Y) (here left : List X) (x : X) → here ≡ x ∷ left
      → done ++ flat_map f here ≡ whole
      → (done ++ f x) ++ flat_map f left ≡ whole
  joined_on f done whole here left x next is = append_assoc done (f x) (flat_map f left)
      ∙ (ap (λ l. done ++ flat_map f l) (sym next) ∙ is)

  pub joined_all : (f : X → List Y) (done whole : List Y) (here : List X) → here ≡ [] → done ++ flat_map f here
      ≡ whole → done ≡ whole
  joined_all f done whole here none is = sym (append-nil done) ∙ (ap (λ l. done ++ flat_map f l) (sym none) ∙ is)
