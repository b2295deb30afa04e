use Rattle.std.proofs.Common.{◌≡◌, ◌∷◌, ◌∙◌, sym, subst, true, length, eqb-true, arith, rules}
use Rattle.journal_records.specs.Words.{HasNoColon, IsWord}
use Rattle.journal_records.proofs.Words.{has_colon, said_around, said_parts, same_asked, says_parts, says_nothing, some_bytes}
use Rattle.journal_records.proofs.word.split_word.Goals as goal
use Rattle.journal_records.proofs.word.split_word.Goals.{then-is_empty-via-then-is_empty}
use Rattle.journal_records.proofs.word.split_word.Goals.{then-is_empty-via-else-is_empty+then-who-gt-WORD_BYTES}
use Rattle.journal_records.proofs.word.split_word.Goals.{then-is_empty-via-else-is_empty+else-who-gt-WORD_BYTES+then-not-is_plain}

pub returns-in_err-who-clause-none : goal.returns-in_err-who-clause-none
returns-in_err-who-clause-none c =
    let line = c.args.line.now in
    let said = c.in_ok-said.said.now in
    says_nothing c.from_residual-in_err-who.result line (λ who asked says.
    let around = said_around line said who asked c.in_ok-said.ensures.rest says in
    has_colon who (32 ∷ asked) (subst HasNoColon around.0 c.in_err-who.ensures))

pub returns-in_err-asked-clause-none : goal.returns-in_err-asked-clause-none
returns-in_err-asked-clause-none c =
    let line = c.args.line.now in
    let said = c.in_ok-said.said.now in
    let cut = c.in_ok-who.ensures in
    says_nothing c.from_residual-in_err-asked.result line (λ who asked says.
    let parts = said_parts line said c.in_ok-who.who.now c.in_ok-who.rest.now who asked c.in_ok-said.ensures.rest cut.0 cut.1 says in
    c.in_err-asked.ensures.none asked parts.1)

pub returns-then-is_empty-clause-none : goal.returns-then-is_empty-clause-none
returns-then-is_empty-clause-none c = λ other asked says.
    let who = c.in_ok-who.who.now in
    let cut = c.in_ok-who.ensures in
    let parts = said_parts c.args.line.now c.in_ok-said.said.now who c.in_ok-who.rest.now other asked c.in_ok-said.ensures.rest
    cut.0 cut.1 says in
    let word : IsWord who = subst IsWord (sym parts.0) says.is_word in
    elim c.then-is_empty.branch [
      | then-is_empty-via-then-is_empty w ↦
          let none : length who ≡ 0 = eqb-true (length who) 0 (sym c.is_empty.ensures ∙ w.if-is_empty.true) in
          omega (arith, word.is_some)
      | then-is_empty-via-else-is_empty+then-who-gt-WORD_BYTES w ↦ omega (arith, word.is_short, w.if-who-gt-WORD_BYTES.true)
      | then-is_empty-via-else-is_empty+else-who-gt-WORD_BYTES+then-not-is_plain w ↦
          let plain : w.is_plain.result ≡ true = w.is_plain.ensures.1 word.is_plain in
          cc (plain, w.if-not-is_plain.true)
    ]

pub returns-clause-said : goal.returns-clause-said
returns-clause-said c =
    let who = c.in_ok-who.who.now in
    let cut = c.in_ok-who.ensures in
    let plain : c.is_plain.result ≡ true = search (rules, c.if-not-is_plain.false) in
    says_parts c.args.line.now c.in_ok-said.said.now who c.in_ok-who.rest.now c.in_ok-asked.asked.now c.in_ok-said.ensures.rest cut.0 cut.1
    c.in_ok-asked.ensures.rest (record {
      is_some = some_bytes who (sym c.is_empty.ensures ∙ c.if-is_empty.false);
      is_short = omega (arith, c.if-who-gt-WORD_BYTES.false);
      is_plain = c.is_plain.ensures.0 plain;
    })

pub returns-clause-only : goal.returns-clause-only
returns-clause-only c = λ other asked says.
    let cut = c.in_ok-who.ensures in
    let rest = c.in_ok-who.rest.now in
    let parts = said_parts c.args.line.now c.in_ok-said.said.now c.in_ok-who.who.now rest other asked c.in_ok-said.ensures.rest
    cut.0 cut.1 says in
    (parts.0, same_asked rest c.in_ok-asked.asked.now asked c.in_ok-asked.ensures.rest parts.1)
