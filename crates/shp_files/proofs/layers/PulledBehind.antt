-- Bytes that are pulled behind those that a list holds at its front.
use Rattle.std.proofs.Common.{◌≡◌, ℕ, ◌+◌, ◌≤◌, List, ◌++◌, Option, length, take, length-append, length-take-le, sym}
use Rattle.std.proofs.Common.{ap, subst, ◌∙◌, arith}
use Rattle.std.proofs.lemmas.List.{take-append-le, take-take}
use Rattle.std.proofs.Math.Seq.{take-append-add, take-length}
use Rattle.std.specs.Io.KnownBytes.{Consumes}
use Rattle.std.proofs.KnownBytes.{Consumes-trans}

pulled_behind : (front buffer after rest : List ℕ) (f n all : ℕ) → length front ≡ f → n ≤ length buffer → f + n ≤ all
    → take (f + n) (take all ((front ++ (buffer ++ after)) ++ rest)) ≡ front ++ take n buffer
pulled_behind front buffer after rest f n all long fits room =
    let enough : f + n ≤ length (front ++ (buffer ++ after)) =
    omega (arith, long, length-append front (buffer ++ after), length-append buffer after) in
    take-take (f + n) all ((front ++ (buffer ++ after)) ++ rest) room
    ∙ take-append-le (f + n) (front ++ (buffer ++ after)) rest enough
    ∙ ap (λ k. take (k + n) (front ++ (buffer ++ after))) (sym long)
    ∙ take-append-add front (buffer ++ after) n
    ∙ ap (λ more. front ++ more) (take-append-le n buffer after fits)

-- the first f bytes of xs came before, and then n of a buffer that stands behind them
pub consumes_behind : (a b c : Option (List ℕ)) (held xs buffer after rest : List ℕ) (f n all : ℕ) → f ≤ length xs
    → n ≤ length buffer → f + n ≤ all
    → take f xs ≡ take f held → Consumes a b (take f held) → Consumes b c (take n buffer)
    → Consumes a c (take (f + n) (take all ((take f xs ++ (buffer ++ after)) ++ rest)))
consumes_behind a b c held xs buffer after rest f n all within fits room same before read =
    subst (Consumes a c) (sym (pulled_behind (take f xs) buffer after rest f n all (length-take-le f xs within) fits room))
    (Consumes-trans a b c (take f xs) (take n buffer) (subst (Consumes a b) (sym same) before) read)

-- a list that was made longer has the same front
pub longer_same : (old new : List ℕ) (f : ℕ) → f ≡ length old → take (length old) new ≡ old → take f new ≡ take f old
longer_same old new f all kept = ap (λ k. take k new) all ∙ kept ∙ sym (take-length old) ∙ ap (λ k. take k old) (sym all)
