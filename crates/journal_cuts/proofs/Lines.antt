-- Texts of two lines, and where they are cut.
use Rattle.std.proofs.Common.{◌≡◌, ◌≢◌, inl, inr, refl, sym, ap, ◌∙◌, subst, ℕ, ◌+◌, ◌*◌, ◌==◌, List, [], ◌∷◌, ◌++◌}
use Rattle.std.proofs.Common.{length, arith, append_assoc, length-append, true, false, if◌then◌else◌}
use Rattle.std.specs.List.{All}
use Rattle.std.proofs.lemmas.Bool.{false≢true, ne_eqb}
use Rattle.std.proofs.lemmas.List.Elements.{All-head, All-tail, All-cons, All-nil}
use Rattle.hex.specs.Hex.{encode_with, lower_digits}
use Rattle.sha2.specs.Sha256.{sha256}
use Rattle.sha2.proofs.Facts256.{length-sha256}
use Rattle.journal_records.proofs.Torn.{same_cut}
use Rattle.journal_records.specs.Journals.{seal_text}
use Rattle.journal_records.specs.Tails.{IsInLine, IsTwoLines, IsTail}
use Rattle.journal_records.specs.Tails.{IsUnderTwoLines, is_of_edit}

-- what stands behind the first byte
abbrev rest_of : List ℕ → List ℕ
rest_of [] = []
rest_of (byte ∷ bytes) = bytes

-- the first byte
abbrev first_of : List ℕ → ℕ
first_of [] = 0
first_of (byte ∷ bytes) = byte

-- no line feed
abbrev pub NoFeed : List ℕ → Type 0
NoFeed text = All (λ byte. byte ≢ 10) text

-- bytes of a line have none
pub no_feed : (text : List ℕ) → All IsInLine text → NoFeed text
no_feed [] in_line = All-nil (λ b. b ≢ 10)
no_feed (byte ∷ text) in_line = All-cons (λ b. b ≢ 10) byte text (All-head IsInLine byte text in_line).0
    (no_feed text (All-tail IsInLine byte text in_line))

-- a text with a line feed in it has one
pub has_feed : (before behind : List ℕ) → NoFeed (before ++ 10 ∷ behind) → ⊥
has_feed [] behind none = All-head (λ b. b ≢ 10) 10 behind none refl
has_feed (byte ∷ before) behind none = has_feed before behind (All-tail (λ b. b ≢ 10) byte (before ++ 10 ∷ behind) none)

-- a text is cut at its first line feed in one way
pub line_cut : (first other rest more : List ℕ) → NoFeed first → NoFeed other → first ++ 10 ∷ rest ≡ other ++ 10 ∷ more
    → (first ≡ other) × (rest ≡ more)
line_cut [] [] rest more a b same = (refl, ap rest_of same)
line_cut [] (o ∷ other) rest more a b same = absurd (All-head (λ b. b ≢ 10) o other b (sym (ap first_of same)))
line_cut (f ∷ first) [] rest more a b same = absurd (All-head (λ b. b ≢ 10) f first a (ap first_of same))
line_cut (f ∷ first) (o ∷ other) rest more a b same =
    let one = line_cut first other rest more (All-tail (λ b. b ≢ 10) f first a) (All-tail (λ b. b ≢ 10) o other b) (ap rest_of same) in
    (ap (λ x. x ∷ first) (ap first_of same) ∙ ap (λ l. o ∷ l) one.0, one.1)

-- two texts of two lines, each with something behind it
pub two_cut : (text other rest more : List ℕ) → IsTwoLines text → IsTwoLines other → text ++ rest ≡ other ++ more
    → (text ≡ other) × (rest ≡ more)
two_cut text other rest more t o same =
    let parts : (text' first second rest' : List ℕ) → text' ≡ first ++ 10 ∷ second ++ 10 ∷ []
    → text' ++ rest' ≡ first ++ 10 ∷ (second ++ 10 ∷ rest') =
    λ text' first second rest' is. ap (λ x. x ++ rest') is ∙ append_assoc (first ++ 10 ∷ second) (10 ∷ []) rest'
    ∙ append_assoc first (10 ∷ second) (10 ∷ rest') in
    let all = sym (parts text t.first t.second rest t.is_text) ∙ same ∙ parts other o.first o.second more o.is_text in
    let one = line_cut t.first o.first _ _ (no_feed _ t.in_first) (no_feed _ o.in_first) all in
    let two = line_cut t.second o.second rest more (no_feed _ t.in_second) (no_feed _ o.in_second) one.1 in (
      t.is_text ∙ ap (λ f. f ++ 10 ∷ t.second ++ 10 ∷ []) one.0 ∙ ap (λ s. o.first ++ 10 ∷ s ++ 10 ∷ []) two.0 ∙ sym o.is_text,
      two.1,
    )

-- a zero byte does not stand in a line
zero_first : (before behind first rest : List ℕ) → NoFeed before → All IsInLine first → before ++ 0 ∷ behind ≡ first ++ 10 ∷ rest → ⊥
zero_first [] behind [] rest none line same = omega (arith, ap first_of same)
zero_first [] behind (f ∷ first) rest none line same = (All-head IsInLine f first line).1 (sym (ap first_of same))
zero_first (b ∷ before) behind [] rest none line same = All-head (λ b. b ≢ 10) b before none (ap first_of same)
zero_first (b ∷ before) behind (f ∷ first) rest none line same =
    zero_first before behind first rest (All-tail (λ b. b ≢ 10) b before none) (All-tail IsInLine f first line) (ap rest_of same)

-- how many line feeds a text has
abbrev feeds : List ℕ → ℕ
feeds [] = 0
feeds (byte ∷ text) = (if byte == 10 then 1 else 0) + feeds text

feeds_more : (text more : List ℕ) → feeds (text ++ more) ≡ feeds text + feeds more
feeds_more [] more = omega arith
feeds_more (byte ∷ text) more = omega (arith, feeds_more text more)

no_feeds : (text : List ℕ) → NoFeed text → feeds text ≡ 0
no_feeds [] none = refl
no_feeds (byte ∷ text) none =
    let other : (byte == 10) ≡ false = ne_eqb byte 10 (All-head (λ b. b ≢ 10) byte text none) in
    let rest : feeds text ≡ 0 = no_feeds text (All-tail (λ b. b ≢ 10) byte text none) in
    rw other (omega (arith, rest))

none_of : (text : List ℕ) → feeds text ≡ 0 → NoFeed text
none_of [] none = All-nil (λ b. b ≢ 10)
none_of (byte ∷ text) none = All-cons (λ b. b ≢ 10) byte text
    (λ is. absurd (omega (arith, subst (λ b. (if b == 10 then 1 else 0) + feeds text ≡ 0) is none)))
    (none_of text (omega (arith, none)))

-- the length of hexadecimal digits
encoded : (digits bytes : List ℕ) → length (encode_with digits bytes) ≡ 2 * length bytes
unfolding encode_with
encoded digits [] = refl
encoded digits (byte ∷ bytes) = omega (arith, encoded digits bytes)

pub seal_length : (message : List ℕ) → length (seal_text message) ≡ 64
seal_length message = encoded lower_digits (sha256 message) ∙ ap (λ n. 2 * n) (length-sha256 message)

-- the first line of a text of two lines, where its second begins behind a line feed and ends in one
pub first_line_is : (text head tail : List ℕ) → IsTwoLines text → text ≡ head ++ 10 ∷ (tail ++ 10 ∷ [])
    → NoFeed head × NoFeed tail
first_line_is text head tail two is =
    let counts : (one other : List ℕ) → feeds (one ++ 10 ∷ (other ++ 10 ∷ [])) ≡ feeds one + (1 + (feeds other + 1)) =
    λ one other. feeds_more one (10 ∷ (other ++ 10 ∷ [])) ∙ ap (λ n. feeds one + (1 + n)) (feeds_more other (10 ∷ [])) in
    let own : text ≡ two.first ++ 10 ∷ (two.second ++ 10 ∷ []) =
    two.is_text ∙ append_assoc two.first (10 ∷ two.second) (10 ∷ []) in
    let a = counts head tail in
    let b = counts two.first two.second in
    let same : feeds (head ++ 10 ∷ (tail ++ 10 ∷ [])) ≡ feeds (two.first ++ 10 ∷ (two.second ++ 10 ∷ [])) = ap feeds (sym is ∙ own) in
    let f = no_feeds two.first (no_feed _ two.in_first) in
    let s = no_feeds two.second (no_feed _ two.in_second) in
    (none_of head (omega (arith, a, b, same, f, s)), none_of tail (omega (arith, a, b, same, f, s)))

-- the ends of two equal texts, of the same length
pub same_end : (front other rest more : List ℕ) → front ++ rest ≡ other ++ more → length rest ≡ length more
    → (front ≡ other) × (rest ≡ more)
same_end front other rest more same count =
    let all : length front + length rest ≡ length other + length more =
    sym (length-append front rest) ∙ ap length same ∙ length-append other more in
    same_cut front other rest more same (omega (arith, all, count))

-- a byte of an edit is no line feed
of_edit : (second rest : List ℕ) → All (λ byte. is_of_edit byte ≡ true) (second ++ 10 ∷ rest) → ⊥
of_edit [] rest all = absurd (false≢true (All-head (λ b. is_of_edit b ≡ true) 10 rest all))
of_edit (byte ∷ second) rest all = of_edit second rest (All-tail (λ b. is_of_edit b ≡ true) byte (second ++ 10 ∷ rest) all)

-- a zero byte does not stand in two lines
in_two : (before behind first second rest : List ℕ) → IsUnderTwoLines before → All IsInLine first → All IsInLine second
    → NoFeed first → before ++ 0 ∷ behind ≡ first ++ 10 ∷ (second ++ 10 ∷ rest) → ⊥
in_two before behind first second rest (inl none) f s line same = zero_first before behind first (second ++ 10 ∷ rest) none f same
in_two before behind first second rest (inr one) f s line same =
    let moved : before ++ 0 ∷ behind ≡ one.first ++ 10 ∷ (one.second ++ 0 ∷ behind) =
    ap (λ b. b ++ 0 ∷ behind) one.is_text ∙ append_assoc one.first (10 ∷ one.second) (0 ∷ behind) in
    let cut = line_cut one.first first (one.second ++ 0 ∷ behind) (second ++ 10 ∷ rest) one.in_first line (sym moved ∙ same) in
    zero_first one.second behind second rest one.in_second s cut.1

-- what a cut may leave is no two lines
not_so : (number place longest : ℕ) (tail first second rest : List ℕ) → IsTail number place longest tail → All IsInLine first
    → All IsInLine second → NoFeed first → tail ≡ first ++ 10 ∷ (second ++ 10 ∷ rest) → ⊥
not_so number place longest tail first second rest (inl empty) f s line own =
    let sum = length-append first (10 ∷ (second ++ 10 ∷ rest)) in
    let none : length tail ≡ 0 = ap length empty in
    let all : length tail ≡ length (first ++ 10 ∷ (second ++ 10 ∷ rest)) = ap length own in
    omega (arith, sum, none, all)
not_so number place longest tail first second rest (inr (inl (inl begun))) f s line own =
    has_feed first (second ++ 10 ∷ rest) (subst NoFeed own (no_feed tail begun.in_line))
not_so number place longest tail first second rest (inr (inl (inr begun))) f s line own =
    let cut = line_cut begun.first first begun.second (second ++ 10 ∷ rest) (no_feed _ begun.in_line) line (sym begun.is_text ∙ own) in
    of_edit second rest (subst (λ t. All (λ b. is_of_edit b ≡ true) t) cut.1 begun.is_edit)
not_so number place longest tail first second rest (inr (inr lost)) f s line own =
    in_two lost.before lost.behind first second rest lost.in_first f s line (sym lost.is_text ∙ own)

-- nor does it begin with a whole record
pub no_record : (number place longest : ℕ) (tail text rest : List ℕ) → IsTail number place longest tail → IsTwoLines text
    → tail ≡ text ++ rest → ⊥
no_record number place longest tail text rest is two same =
    let own : tail ≡ two.first ++ 10 ∷ (two.second ++ 10 ∷ rest) =
    same ∙ ap (λ t. t ++ rest) two.is_text ∙ append_assoc (two.first ++ 10 ∷ two.second) (10 ∷ []) rest
    ∙ append_assoc two.first (10 ∷ two.second) (10 ∷ rest) in
    not_so number place longest tail two.first two.second rest is two.in_first two.in_second (no_feed two.first two.in_first) own
