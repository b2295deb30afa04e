use Rattle.std.proofs.Common.{rules, arith, FitsSigned, w32}
use Rattle.std.proofs.lemmas.Int.{to_z-of_z}
use Rattle.shp_files.specs.Layout.{content_words}
use Rattle.shp_files.specs.Checks.{first_failure, count_checks}
use Rattle.shp_files.proofs.lines.Lines.{on, at, passed}
use Rattle.shp_files.proofs.numbers.Numbers.{natural_from}
use Rattle.shp_files.proofs.record.check_counts.Goals as goal

pub little_at-parts-requires : goal.little_at-parts-requires
little_at-parts-requires c =
    let fits : FitsSigned w32 c.big_at-words.result = search rules in
    let words = simp to_z-of_z at (passed _ c.fault.result c.in_ok-refuse_if.ensures) in
    let enough = natural_from 22 (content_words c.args.main.now c.args.head.start) (rw (← c.big_at-words.ensures) words) in
    omega (arith, enough)

pub returns-in_err-refuse_if-4-clause-checked : goal.returns-in_err-refuse_if-4-clause-checked
unfolding count_checks first_failure
returns-in_err-refuse_if-4-clause-checked c = search (rules, on, at)

pub returns-in_err-refuse_if-5-clause-checked : goal.returns-in_err-refuse_if-5-clause-checked
unfolding count_checks first_failure
returns-in_err-refuse_if-5-clause-checked c = search (rules, on, at)

pub returns-in_err-refuse_if-6-clause-checked : goal.returns-in_err-refuse_if-6-clause-checked
unfolding count_checks first_failure
returns-in_err-refuse_if-6-clause-checked c = search (rules, on, at)

pub returns-in_err-refuse_if-7-clause-checked : goal.returns-in_err-refuse_if-7-clause-checked
unfolding count_checks first_failure
returns-in_err-refuse_if-7-clause-checked c = search (rules, on, at)

pub returns-clause-checked : goal.returns-clause-checked
unfolding count_checks first_failure
returns-clause-checked c = search (rules, on, at)
