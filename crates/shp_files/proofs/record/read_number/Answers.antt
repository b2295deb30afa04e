use Rattle.std.proofs.Common.{◌≡◌, sym, ◌∙◌, ap, Ok, Err}
use Rattle.geo_exact.specs.Grid.{coordinate}
use Rattle.shp_files.proofs.rings.Points.{one_read, one_refused, none_left}
use Rattle.shp_files.proofs.record.read_number.Goals as goal

pub returns-in-Ok-clause-checked : goal.returns-in-Ok-clause-checked
returns-in-Ok-clause-checked c =
    let k : coordinate _ c.args.unit ≡ Ok c.in-Ok.number =
    ap (λ b. coordinate b c.args.unit) (sym c.double_at.ensures) ∙ sym c.read_coord.ensures.exact ∙ c.in-Ok.is in
    sym (one_read c.args.main.now c.args.unit c.args.head.position _ 0 c.in-Ok.number k
    ∙ none_left c.args.main.now c.args.unit c.args.head.position _)

pub returns-in-Err-clause-checked : goal.returns-in-Err-clause-checked
returns-in-Err-clause-checked c =
    let k : coordinate _ c.args.unit ≡ Err c.in-Err.fault =
    ap (λ b. coordinate b c.args.unit) (sym c.double_at.ensures) ∙ sym c.read_coord.ensures.exact ∙ c.in-Err.is in
    let f = one_refused c.args.main.now c.args.unit c.args.head.position _ 0 c.in-Err.fault k in
    cc
