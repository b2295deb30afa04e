-- What stands behind some free places at a list's beginning, once an item is taken out and what stands on one side of it has moved.
use Rattle.std.proofs.Common.{◌≡◌, ℕ, ◌<◌, ◌≤◌, ◌∙◌, ◌++◌, ◌+◌, ◌-◌, suc, List, sym, ap, ap₂, arith, length, take, drop}
use Rattle.std.specs.List.{remove}
use Rattle.std.proofs.Math.Seq.{paste, drop-append-add, drop-drop}
use Rattle.std.proofs.Math.ListN.{drop_of_length-le, length-append, length-drop, length-take}
use Rattle.std.proofs.lemmas.List.{append_assoc, append-nil, take-append-drop, take_all, take_at}
use borrow.Rule.Slice.PartMut.{put_mid}
use Rattle.std.proofs.lemmas.List.Edits.{remove-append_right}

pub behind : {X : Type 0} (front back : List X) (n : ℕ) → length front ≡ n → drop n (front ++ back) ≡ back
behind front back n long =
    let at : n ≡ length front + 0 = omega (arith, long) in ap (λ k. drop k (front ++ back)) at ∙ drop-append-add front back 0

-- the items before it moved up by one place
pub moved_up : {X : Type 0} (xs : List X) (s k : ℕ) → s + k < length xs
    → drop (s + 1) (paste xs (s + 1) (drop s xs) (s + k - s)) ≡ remove (drop s xs) k
moved_up xs s k below =
    let front = take (s + 1) xs in
    let middle = take (s + k - s) (drop s xs) in
    let back = drop (s + 1 + (s + k - s)) xs in
    let as_many : s + k - s ≡ k = omega arith in
    let last : s + 1 + (s + k - s) ≡ s + suc k = omega arith in
    let a = length-take (s + 1) xs in
    ap (drop (s + 1)) (append_assoc front middle back)
    ∙ behind front (middle ++ back) (s + 1) (omega (arith, a))
    ∙ ap₂ (λ p q. p ++ q) (ap (λ n. take n (drop s xs)) as_many) (ap (λ n. drop n xs) last ∙ sym (drop-drop (suc k) s xs))

-- those behind it moved down
pub moved_down : {X : Type 0} (xs : List X) (s k : ℕ) → s + k < length xs → drop s (remove xs (s + k)) ≡ remove (drop s xs) k
moved_down xs s k below =
    let as_many : s + k - s ≡ k = omega arith in
    let a = length-take s xs in
    let long : length (take s xs) ≡ s = omega (arith, a) in
    ap (λ l. drop s (remove l (s + k))) (sym (take-append-drop s xs))
    ∙ ap (drop s) (remove-append_right (take s xs) (drop s xs) s (s + k) long (omega arith))
    ∙ behind (take s xs) (remove (drop s xs) (s + k - s)) s long
    ∙ ap (remove (drop s xs)) as_many

-- what a slice from a place on shows
pub shown : {X : Type 0} (xs ys : List X) (s : ℕ) → xs ≡ ys → take (length xs - s) (drop s xs) ≡ drop s ys
shown xs ys s e = take_all (length xs - s) (drop s xs) (omega (arith, length-drop s xs)) ∙ ap (drop s) e

-- and what the list is once that slice was written: a vector of as many places has no more
pub written : {X : Type 0} (xs new more : List X) (s n : ℕ) → s ≤ length xs → length new + s ≡ length xs → length xs ≡ n
    → take n (put_mid s (length xs - s) xs new ++ more) ≡ take s xs ++ new
written xs new more s n within long all =
    let rest : put_mid s (length xs - s) xs new ≡ take s xs ++ new =
    ap (λ l. take s xs ++ (new ++ l)) (drop_of_length-le (drop s xs) (omega (arith, length-drop s xs)))
    ∙ ap (λ l. take s xs ++ l) (append-nil new) in
    let a = length-take s xs in
    let as_many : length (take s xs ++ new) ≡ n = omega (arith, length-append (take s xs) new, a, within, long, all) in
    ap (λ l. take n (l ++ more)) rest ∙ take_at (take s xs ++ new) more n as_many
