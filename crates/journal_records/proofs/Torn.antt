-- What may stand behind the last whole record, byte by byte.
use Rattle.std.proofs.Common.{◌≡◌, ◌<◌, ◌≤◌, refl, sym, ap, ◌∙◌, subst, ℕ, suc, ◌+◌, ◌==◌, List, [], ◌∷◌, ◌++◌, length, codes, arith}
use Rattle.std.proofs.Common.{append_assoc, length-append, Bool, true, false, take, drop}
use Rattle.std.specs.List.{All}
use Rattle.journal_records.specs.Journals.{IsHeader, header_line}
use Rattle.journal_records.specs.Tails.{IsInLine, IsTwoLines, are_torn_blocks, may_stand, next_place}

-- two texts in one, cut at the same length
pub same_cut : (front other rest more : List ℕ) → front ++ rest ≡ other ++ more → length front ≡ length other
    → (front ≡ other) × (rest ≡ more)
same_cut [] [] rest more same count = (refl, same)
same_cut [] (o ∷ other) rest more same count = absurd (omega (arith, count))
same_cut (f ∷ front) [] rest more same count = absurd (omega (arith, count))
same_cut (f ∷ front) (o ∷ other) rest more same count =
    let first : f ≡ o = cc in
    let tails : front ++ rest ≡ other ++ more = cc in
    let both = same_cut front other rest more tails (omega (arith, count)) in
    (ap (λ x. x ∷ front) first ∙ ap (λ l. o ∷ l) both.0, both.1)

-- a journal's first line
abbrev mark : List ℕ
mark = codes "# gandovel journal 1 mm "

pub is_header_line : (text said front rest more : List ℕ) → text ≡ mark ++ said → said ≡ front ++ rest → length front ≡ 64
    → rest ≡ codes "\n" ++ more → IsHeader text
is_header_line text said front rest more is cut count end = (
  front,
  more,
  count,
  is ∙ ap (λ t. mark ++ t) (cut ∙ ap (λ t. front ++ t) end ∙ sym (append_assoc front (codes "\n") more)),
)

-- what stands behind its beginning
pub behind_mark : (text : List ℕ) (h : IsHeader text) → text ≡ mark ++ (h.0 ++ codes "\n" ++ h.1)
behind_mark text h = h.3

-- and behind 64 bytes more
pub behind_layer : (text said front rest : List ℕ) (h : IsHeader text) → text ≡ mark ++ said → said ≡ front ++ rest
    → length front ≡ 64 → rest ≡ codes "\n" ++ h.1
behind_layer text said front rest h is cut count =
    let all : mark ++ said ≡ mark ++ (h.0 ++ codes "\n" ++ h.1) = sym is ∙ behind_mark text h in
    let same : said ≡ h.0 ++ codes "\n" ++ h.1 = (same_cut mark mark said _ all refl).1 in
    let parts : front ++ rest ≡ h.0 ++ (codes "\n" ++ h.1) = sym cut ∙ same ∙ append_assoc h.0 (codes "\n") h.1 in
    (same_cut front h.0 rest (codes "\n" ++ h.1) parts (count ∙ sym h.2)).1

-- one step of the blocks
pub torn_step : (was place byte : ℕ) (rest : List ℕ) → may_stand was place byte ≡ true
    → are_torn_blocks was place (byte ∷ rest) ≡ are_torn_blocks byte (next_place place) rest
unfolding are_torn_blocks
torn_step was place byte rest may = rw may refl

pub torn_stop : (was place byte : ℕ) (rest : List ℕ) → may_stand was place byte ≡ false
    → are_torn_blocks was place (byte ∷ rest) ≡ false
unfolding are_torn_blocks
torn_stop was place byte rest may = rw may refl

pub torn_end : (was place : ℕ) → are_torn_blocks was place [] ≡ true
unfolding are_torn_blocks
torn_end was place = refl

-- two lines that were found
pub two_lines : (text first rest second end : List ℕ) → text ≡ first ++ 10 ∷ rest → rest ≡ second ++ 10 ∷ end → end ≡ []
    → All IsInLine first → All IsInLine second → IsTwoLines text
two_lines text first rest second end is then none in_first in_second = record {
  first = first;
  second = second;
  is_text = is ∙ ap (λ r. first ++ 10 ∷ r) (then ∙ ap (λ e. second ++ 10 ∷ e) none)
      ∙ sym (append_assoc first (10 ∷ second) (10 ∷ []));
  in_first = in_first;
  in_second = in_second;
}
