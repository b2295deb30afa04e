-- Lemmas on the parts of a line that are taken out of a reader.
use Rattle.std.proofs.Common.{◌≡◌, ◌≢◌, ℕ, suc, ◌+◌, ◌≤◌, List, [], ◌∷◌, ◌++◌, Option, length, take, refl, sym, ap, subst, ◌∙◌, arith}
use Rattle.std.proofs.Common.{append_assoc, take-take, length-append, length-take-le}
use Rattle.std.proofs.lemmas.List.Elements.{All-append}
use Rattle.std.proofs.KnownBytes.{Consumes-trans}
use Rattle.std.specs.Io.KnownBytes.{Consumes}
use Rattle.session_rooms.specs.declared.lines.Came.{Came}
use Rattle.session_rooms.specs.declared.lines.Came.TheVariants.{Line, TooLong, NoMemory, End, Closed}
use Rattle.session_rooms.specs.Lines.{TakesPart, TakesLine, IsTooLong, IsWhatCame}

-- a part behind other parts
pub part_more : (a b c : Option (List ℕ)) (front back : List ℕ) → TakesPart a b front → TakesPart b c back → TakesPart a c (front ++ back)
part_more a b c front back p q =
    record {
      no_line_feed = All-append (λ byte. byte ≢ 10) front back p.no_line_feed q.no_line_feed;
      gone = Consumes-trans a b c front back p.gone q.gone;
    }

-- the last part of a line behind other parts
pub line_after : (a b c : Option (List ℕ)) (front back : List ℕ) → TakesPart a b front → TakesLine b c back → TakesLine a c (front ++ back)
line_after a b c front back p q =
    record {
      no_line_feed = All-append (λ byte. byte ≢ 10) front back p.no_line_feed q.no_line_feed;
      gone = subst (Consumes a c) (sym (append_assoc front back (10 ∷ []))) (Consumes-trans a b c front (back ++ 10 ∷ []) p.gone q.gone);
    }

-- the front through a line feed
line_front : (before behind : List ℕ) → take (suc (length before)) (before ++ 10 ∷ behind) ≡ before ++ 10 ∷ []
line_front [] behind = refl
line_front (x ∷ xs) behind = ap (λ l. x ∷ l) (line_front xs behind)

-- what is shown through the first line feed, which stands within the first so many bytes
pub shown_line : (shown before behind : List ℕ) (room : ℕ) → room ≤ length shown → take room shown ≡ before ++ 10 ∷ behind
    → (length before + 1 ≤ length shown) × (take (length before + 1) shown ≡ before ++ 10 ∷ [])
shown_line shown before behind room fits falls =
    let long = sym (length-take-le room shown fits) ∙ ap length falls ∙ length-append before (10 ∷ behind) in
    let within : length before + 1 ≤ room = omega (arith, long) in
    let next : length before + 1 ≡ suc (length before) = omega arith in (
      omega (arith, within, fits),
      sym (take-take (length before + 1) room shown within) ∙ ap (take (length before + 1)) falls
          ∙ ap (λ n. take n (before ++ 10 ∷ behind)) next ∙ line_front before behind,
    )

-- what comes at a line's end, where no end of the reader was met
pub line_came : (came : Came) (a c : Option (List ℕ)) (bytes items : List ℕ) → came ≢ End → TakesLine a c bytes
    → (came ≡ Line → items ≡ bytes) → (came ≡ TooLong → IsTooLong bytes) → IsWhatCame a c (λ taken. items ≡ taken) came
line_came Line a c bytes items no_end line kept long = (bytes, line, kept refl)
line_came TooLong a c bytes items no_end line kept long = (bytes, line, long refl)
line_came NoMemory a c bytes items no_end line kept long = (bytes, line)
line_came End a c bytes items no_end line kept long = absurd (no_end refl)
line_came Closed a c bytes items no_end line kept long = tt

-- what goes on behind a line that is too long, is too long
pub long_more : (front back : List ℕ) → IsTooLong front → IsTooLong (front ++ back)
long_more front back long = omega (arith, length-append front back)

-- what is too long behind some bytes, is so behind no fewer bytes
pub long_behind : (kept front back : List ℕ) → length kept ≤ length front → IsTooLong (kept ++ back) → IsTooLong (front ++ back)
long_behind kept front back few long = omega (arith, length-append kept back, length-append front back)

-- bytes behind some bytes are no fewer than behind fewer
pub few_more : (kept front back : List ℕ) → length kept ≤ length front → length (kept ++ back) ≤ length (front ++ back)
few_more kept front back few = omega (arith, length-append kept back, length-append front back)
