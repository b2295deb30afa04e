use Rattle.std.proofs.Common.{◌∙◌, ap, length}
use Rattle.geo_exact.specs.Point.{corner_point}
use Rattle.fabric_core.specs.Locate.{IsLocatedAt}
use Rattle.std.proofs.lemmas.Slice.Zip.{AllZip-long}
use Rattle.clerk_runs.specs.ClerkRuns.{register_of}
use Rattle.parcel_runs.specs.own.PlaceTexts.{places_text}
use Rattle.parcel_runs.proofs.Places.{lines_told}
use Rattle.parcel_runs.proofs.locate.located_text.Goals as goal

pub push_point_lines-requires : goal.push_point_lines-requires
push_point_lines-requires g c =
    ap length c.deref.ensures.value
    ∙ AllZip-long (λ corner at. IsLocatedAt c.in_ok-lines.field-0.sheet.now.rows (corner_point corner) at) c.args.points.now _
    c.in_ok-lines.ensures.places

pub returns-clause-text : goal.returns-clause-text
returns-clause-text g c =
    let edited = c.in_ok-lines.field-0 in
    let points = c.args.points.now in
    let places = edited.places.items in (
      register_of edited.sheet,
      edited.lines.items,
      places_text points places,
      c.in_ok-lines.ensures.made,
      lines_told edited.sheet.now.rows points places c.in_ok-lines.ensures.places,
      rw (← c.deref.ensures.value) c.in_ok-push_point_lines.ensures,
    )
