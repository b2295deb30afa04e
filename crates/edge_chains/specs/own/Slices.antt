-- A list in slices, with what was made of each. Public contracts do not speak of it.
use Rattle.std.specs.Prelude.{◌≡◌, ℕ, List, [], ◌∷◌, ◌++◌, take, drop}
use Rattle.std.specs.List.{AllZip}

-- the slices of so many items have these results, one after the other, and nothing is left
abbrev pub AreOfSlices : {X Y : Type 0} → (List X → Y → Type 0) → ℕ → List X → List Y → Type 0
AreOfSlices R size xs [] = xs ≡ []
AreOfSlices R size xs (y ∷ ys) = R (take size xs) y × AreOfSlices R size (drop size xs) ys

-- the first items have what was made of them, one by one, and the slices of those that are left have these results
abbrev pub AreJoined : {X Y Z : Type 0} → (X → Z → Type 0) → (List X → Y → Type 0) → ℕ → List X
    → List Y → List Z → Type 0
AreJoined {X} made R size xs rest zs =
    (done : List X) × (left : List X) × (done ++ left ≡ xs) × AreOfSlices R size left rest × AllZip made done zs
