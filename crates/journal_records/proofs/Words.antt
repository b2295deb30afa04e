-- Where a line is cut at its last colon, and what it says there.
use Rattle.std.proofs.Common.{◌≡◌, ◌≢◌, ℕ, ◌==◌, ◌<◌, List, [], ◌∷◌, ◌++◌, codes, length, take, Bool, true, false, not}
use Rattle.std.proofs.Common.{Option, None, Some, IfNone}
use Rattle.std.proofs.Common.{refl, ap, sym, subst, ◌∙◌, arith, append_assoc}
use Rattle.std.proofs.lemmas.Bool.{false≢true}
use Rattle.std.proofs.lemmas.List.Elements.{All-head, All-tail, All-cons}
use Rattle.journal_records.specs.Words.{HasNoColon, IsWord, SaysWho}

-- what stands behind the first byte
abbrev rest_of : List ℕ → List ℕ
rest_of [] = []
rest_of (byte ∷ bytes) = bytes

-- a text with a colon in it has one
pub has_colon : (before behind : List ℕ) → HasNoColon (before ++ 58 ∷ behind) → ⊥
has_colon [] behind none = All-head (λ byte. byte ≢ 58) 58 behind none refl
has_colon (byte ∷ before) behind none =
    has_colon before behind (All-tail (λ byte. byte ≢ 58) byte (before ++ 58 ∷ behind) none)

-- a text is cut at its last colon in one way
pub one_cut : (before others behind rest : List ℕ) → before ++ 58 ∷ behind ≡ others ++ 58 ∷ rest → HasNoColon behind → HasNoColon rest
    → (before ≡ others) × (behind ≡ rest)
one_cut [] [] behind rest same none nothing = (refl, ap rest_of same)
one_cut [] (other ∷ others) behind rest same none nothing =
    absurd (has_colon others rest (subst HasNoColon (ap rest_of same) none))
one_cut (byte ∷ before) [] behind rest same none nothing =
    absurd (has_colon before behind (subst HasNoColon (sym (ap rest_of same)) nothing))
one_cut (byte ∷ before) (other ∷ others) behind rest same none nothing =
    let first : byte ≡ other = cc in
    let one = one_cut before others behind rest (ap rest_of same) none nothing in
    (ap (λ b. b ∷ before) first ∙ ap (λ l. other ∷ l) one.0, one.1)

-- what a line says of who asks, stands around its last colon
pub said_around : (line said who asked : List ℕ) → line ≡ codes "by " ++ said → SaysWho line who asked
    → (said ≡ who ++ 58 ∷ 32 ∷ asked) × HasNoColon (32 ∷ asked)
said_around line said who asked is_line says = (
  ap (λ l. rest_of (rest_of (rest_of l))) (sym is_line ∙ says.is_line) ∙ append_assoc who (58 ∷ 32 ∷ []) asked,
  All-cons (λ byte. byte ≢ 58) 32 asked (omega arith) says.is_last,
)

-- so where its last colon stands, the line says this
pub said_parts : (line said before behind who asked : List ℕ) → line ≡ codes "by " ++ said → said ≡ before ++ 58 ∷ behind
    → HasNoColon behind → SaysWho line who asked → (before ≡ who) × (behind ≡ 32 ∷ asked)
said_parts line said before behind who asked is_line cut none says =
    let around = said_around line said who asked is_line says in
    one_cut before who behind (32 ∷ asked) (sym cut ∙ around.0) none around.1

-- and the bytes behind the colon and a blank are what is asked
pub same_asked : (behind asked other : List ℕ) → behind ≡ 32 ∷ asked → behind ≡ 32 ∷ other → asked ≡ other
same_asked behind asked other is was = ap rest_of (sym is ∙ was)

-- a line of these parts says them
pub says_parts : (line said who behind asked : List ℕ) → line ≡ codes "by " ++ said → said ≡ who ++ 58 ∷ behind → HasNoColon behind
    → behind ≡ 32 ∷ asked → IsWord who → SaysWho line who asked
says_parts line said who behind asked is_line cut none blank word = record {
  is_line = is_line ∙ ap (λ t. codes "by " ++ t) (cut ∙ ap (λ t. who ++ 58 ∷ t) blank ∙ sym (append_assoc who (58 ∷ 32 ∷ []) asked));
  is_last = All-tail (λ byte. byte ≢ 58) 32 asked (subst HasNoColon blank none);
  is_word = word;
}

-- where no parts are said, none were found
pub says_nothing : {T : Type 0} (found : Option T) (line : List ℕ) → ((who asked : List ℕ) → SaysWho line who asked → ⊥)
    → IfNone found ((who asked : List ℕ) → ¬ SaysWho line who asked)
says_nothing None line none = none
says_nothing (Some parts) line none = tt

-- a text that is not empty
pub some_bytes : (text : List ℕ) → (length text == 0) ≡ false → 0 < length text
some_bytes [] test = absurd (false≢true (sym test))
some_bytes (byte ∷ bytes) test = omega arith

-- the bytes with which a text begins
pub take_front : (front rest : List ℕ) → take (length front) (front ++ rest) ≡ front
take_front [] rest = refl
take_front (byte ∷ front) rest = ap (λ l. byte ∷ l) (take_front front rest)

-- no character passed
pub none_passed : (any test : Bool) → any ≡ test → not any ≡ true → test ≡ false
none_passed true test same passed = absurd (false≢true passed)
none_passed false test same passed = sym same

-- where none passes
pub none_passes : (any test : Bool) → any ≡ test → test ≡ false → not any ≡ true
none_passes true test same none = absurd (false≢true (sym (same ∙ none)))
none_passes false test same none = refl
