use Rattle.std.proofs.Common.{◌≡◌, ◌++◌, ◌∙◌, sym, ap, refl, take, drop, length, codes}
use Rattle.std.proofs.lemmas.Bool.{false≢true}
use Rattle.std.proofs.lemmas.List.{take-append-drop}
use Rattle.journal_records.proofs.Torn.{is_header_line, behind_mark, behind_layer}
use Rattle.journal_records.proofs.header.is_header.Goals as goal

pub returns-in_default : goal.returns-in_default
returns-in_default c = (
  λ no. absurd (false≢true no),
  λ h. absurd (c.in_default.ensures.none (h.0 ++ codes "\n" ++ h.1) (behind_mark c.args.text.now h)),
)

pub returns-in-Some-behind : goal.returns-in-Some-behind
returns-in-Some-behind c =
    let said = c.in-Some.layer.now in
    let cut : said ≡ take 64 said ++ drop 64 said = sym (take-append-drop 64 said) in (
      λ _. is_header_line c.args.text.now said (take 64 said) (drop 64 said) _ c.in-Some.ensures.rest cut
          (sym (ap length c.split_at.ensures.front) ∙ c.split_at.ensures.front_len)
          (sym c.split_at.ensures.back ∙ c.in-Some-behind.ensures.rest),
      λ _. refl,
    )

pub returns-in-None : goal.returns-in-None
returns-in-None c =
    let said = c.in-Some.layer.now in
    let cut : said ≡ take 64 said ++ drop 64 said = sym (take-append-drop 64 said) in (
      λ no. absurd (false≢true no),
      λ h. absurd (c.in-None.ensures.none h.1 (c.split_at.ensures.back
          ∙ behind_layer c.args.text.now said (take 64 said) (drop 64 said) h c.in-Some.ensures.rest cut
          (sym (ap length c.split_at.ensures.front) ∙ c.split_at.ensures.front_len))),
    )
