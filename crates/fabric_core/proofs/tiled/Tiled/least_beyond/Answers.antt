use Rattle.std.proofs.Common.{◌∙◌, ap, subst, ◌++◌}
use Rattle.std.proofs.lemmas.List.{append_assoc}
use Rattle.parcel_table.specs.Table.{rows_of as rows_of_shapes}
use Rattle.scaled_rings.specs.Tenfold.{IsLeastBeyondOf}
use Rattle.fabric_core.specs.Tenfold.{corners_of_rows}
use Rattle.fabric_core.proofs.tiled.Tiled.least_beyond.Goals as goal

pub returns : goal.returns
returns g c = λ before h.
    let rows = corners_of_rows (rows_of_shapes c.shapes.result) in
    subst (λ xs. IsLeastBeyondOf c.args.most xs c.least_beyond.result)
    (append_assoc before rows c.refined.result.now
    ∙ ap (λ rows. before ++ (corners_of_rows rows ++ c.refined.result.now)) c.shapes.ensures
    ∙ ap (λ ring. before ++ (corners_of_rows c.args.self.now.rows ++ ring)) c.refined.ensures)
    (c.least_beyond.ensures (before ++ rows) (c.least_beyond_of_shapes-found.ensures before h))
