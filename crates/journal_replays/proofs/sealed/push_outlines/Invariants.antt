use Rattle.std.proofs.Common.{◌≡◌, ◌++◌, map}
use Rattle.geo_exact.specs.Layers.{numbered}
use Rattle.journal_replays.specs.Replays.{outlines}
use Rattle.journal_replays.proofs.sealed.push_outlines.Given as goal

-- so far, and what is left, is the whole
abbrev pub invariant-loop-id : goal.invariant-loop-id
invariant-loop-id g l =
    l.text.items ++ outlines (map (λ shape. numbered shape.0 shape.1.ring.corners) l.id-iterator)
    ≡ l.fn.text.items ++ outlines (map (λ shape. numbered shape.0 shape.1.ring.corners) l.fn.shapes)
