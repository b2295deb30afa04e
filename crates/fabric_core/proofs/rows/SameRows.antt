-- Two lists that are compared place by place.
use Rattle.std.proofs.Common.{◌≡◌, arith, ℕ, zero, suc, ◌<◌, List, [], ◌∷◌, map, take, length, get_or}

-- one place more is the same
pub same_step : {X Y : Type 0} (f : X → Y) (xs ys : List X) (k : ℕ) (x y : X) → k < length xs → length xs ≡ length ys
    → x ≡ get_or xs k x → y ≡ get_or ys k y
    → f x ≡ f y → take k (map f xs) ≡ take k (map f ys) → take (suc k) (map f xs) ≡ take (suc k) (map f ys)
same_step f [] ys k x y less same is is' e h = absurd (omega (arith, less))
same_step f (a ∷ xs) [] k x y less same is is' e h = absurd (omega (arith, same))
same_step f (a ∷ xs) (b ∷ ys) zero x y less same is is' e h = cc (is, is', e)
same_step f (a ∷ xs) (b ∷ ys) (suc k) x y less same is is' e h =
    let rest = same_step f xs ys k x y (omega (arith, less)) (omega (arith, same)) is is' e (cc h) in cc (h, rest)

-- what stands at one place of lists that are the same is the same
pub same_at : {X Y : Type 0} (f : X → Y) (xs ys : List X) (k : ℕ) (x y : X) → k < length xs → length xs ≡ length ys
    → x ≡ get_or xs k x → y ≡ get_or ys k y
    → map f xs ≡ map f ys → f x ≡ f y
same_at f [] ys k x y less same is is' h = absurd (omega (arith, less))
same_at f (a ∷ xs) [] k x y less same is is' h = absurd (omega (arith, same))
same_at f (a ∷ xs) (b ∷ ys) zero x y less same is is' h = cc (is, is', h)
same_at f (a ∷ xs) (b ∷ ys) (suc k) x y less same is is' h =
    same_at f xs ys k x y (omega (arith, less)) (omega (arith, same)) is is' (cc h)
