-- The numbers of a part of a file are those of the file, where the part stands.
use Rattle.std.proofs.Common.{◌≡◌, ℕ, ◌+◌, ◌≤◌, List, ◌++◌, length, drop, sym, ap, ◌∙◌, arith}
use Rattle.std.proofs.lemmas.List.{drop-append-le, drop-drop, length-drop}
use Rattle.byteorder.specs.Endian.{twos_complement, big_number, little_number}
use Rattle.byteorder.specs.Numbers.{big_from-append, little_from-append}
use Rattle.shp_files.specs.Layout.{big_at, little_at, double_at}

-- the bytes stand in the file from a byte on
pub record StandsAt (file : List ℕ) (start : ℕ) (bytes : List ℕ) : Type 0 where
  pub tail : List ℕ
  pub is : drop start file ≡ bytes ++ tail

shifted : (file : List ℕ) (start : ℕ) (bytes : List ℕ) (at size : ℕ) → (h : StandsAt file start bytes)
    → at + size ≤ length bytes
    → drop (start + at) file ≡ drop at bytes ++ h.tail
shifted file start bytes at size h fits =
    sym (drop-drop at start file) ∙ ap (λ xs. drop at xs) h.is ∙ drop-append-le at bytes h.tail (omega arith)

enough : (bytes : List ℕ) (at size : ℕ) → at + size ≤ length bytes → size ≤ length (drop at bytes)
enough bytes at size fits = omega (arith, length-drop at bytes)

pub big_at_part : (file : List ℕ) (start : ℕ) (bytes : List ℕ) (at : ℕ) → StandsAt file start bytes → at + 4 ≤ length bytes
    → big_at file (start + at) ≡ big_at bytes at
unfolding big_at
big_at_part file start bytes at h fits =
    ap (λ xs. twos_complement 4 (big_number 4 xs)) (shifted file start bytes at 4 h fits)
    ∙ ap (λ n. twos_complement 4 n) (big_from-append 4 (drop at bytes) h.tail (enough bytes at 4 fits))

pub little_at_part : (file : List ℕ) (start : ℕ) (bytes : List ℕ) (at : ℕ) → StandsAt file start bytes → at + 4 ≤ length bytes
    → little_at file (start + at) ≡ little_at bytes at
unfolding little_at
little_at_part file start bytes at h fits =
    ap (λ xs. twos_complement 4 (little_number 4 xs)) (shifted file start bytes at 4 h fits)
    ∙ ap (λ n. twos_complement 4 n) (little_from-append 4 (drop at bytes) h.tail (enough bytes at 4 fits))

pub double_at_part : (file : List ℕ) (start : ℕ) (bytes : List ℕ) (at : ℕ) → StandsAt file start bytes → at + 8 ≤ length bytes
    → double_at file (start + at) ≡ double_at bytes at
unfolding double_at
double_at_part file start bytes at h fits =
    ap (λ xs. little_number 8 xs) (shifted file start bytes at 8 h fits) ∙ little_from-append 8 (drop at bytes) h.tail
    (enough bytes at 8 fits)
