-- Bytes of words and of lines: none of a word is a space or less, none of a line is less than a space.
use Rattle.std.proofs.Common.{◌≡◌, ◌≢◌, ℕ, ◌<◌, ◌≤◌, leb, true, List, [], ◌∷◌, arith, leb-true}
use Rattle.std.specs.Char.{digit_value}
use Rattle.std.specs.List.{All, list_all}
use Rattle.std.specs.Str.Parse.{AllDigits}
use Rattle.std.proofs.lemmas.List.Elements.{All-nil, All-cons, All-weaker}
use Rattle.std.proofs.lemmas.List.Sums.{AllPass-from_list_all}
use Rattle.std.proofs.lemmas.Str.Parse.{digit_from_value}

-- each byte is this one or a greater one
abbrev pub AreFrom : ℕ → List ℕ → Type 0
AreFrom least bytes = All (λ b. least ≤ b) bytes

-- so a lesser byte is none of them
pub lack_lesser : (least c : ℕ) → c < least → (bytes : List ℕ) → AreFrom least bytes → All (λ b. b ≢ c) bytes
lack_lesser least c low bytes h = All-weaker (λ b. least ≤ b) (λ b. b ≢ c) (λ b l e. absurd (omega (arith, low, l, e))) bytes h

pub from_lesser : (bytes : List ℕ) → AreFrom 33 bytes → AreFrom 32 bytes
from_lesser bytes h = All-weaker (λ b. 33 ≤ b) (λ b. 32 ≤ b) (λ b l. omega (arith, l)) bytes h

-- bytes that are all written out are tested
pub from_test : (least : ℕ) (bytes : List ℕ) → list_all (λ b. leb least b) bytes ≡ true → AreFrom least bytes
from_test least bytes e = All-weaker (λ b. leb least b ≡ true) (λ b. least ≤ b) (λ b. leb-true least b) bytes
    (AllPass-from_list_all (λ b. leb least b) bytes e)

digit_from : (b : ℕ) → digit_value b < 10 → 33 ≤ b
digit_from b h = omega (arith, (digit_from_value b h).0)

-- digits
pub digits_from : (digits : List ℕ) → AllDigits 10 digits → AreFrom 33 digits
digits_from [] h = All-nil (λ b. 33 ≤ b)
digits_from (b ∷ bs) h = All-cons (λ b. 33 ≤ b) b bs (digit_from b h.0) (digits_from bs h.1)
