use Rattle.std.proofs.Common.{◌≡◌, ◌++◌, drop}
use Rattle.parcel_runs.specs.own.PlaceTexts.{places_text}
use Rattle.parcel_runs.proofs.locate.push_point_lines.Given as goal

abbrev pub invariant-loop-k : goal.invariant-loop-k
invariant-loop-k g l =
    l.text.items ++ places_text (drop l.k l.points) (drop l.k l.places) ≡ l.fn.text.items ++ places_text l.points l.places
