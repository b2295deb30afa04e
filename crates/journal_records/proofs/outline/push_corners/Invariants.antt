use Rattle.std.proofs.Common.{◌≡◌, ◌++◌, take, flat_map}
use Rattle.text_pieces.specs.CornerText.{next_corner_text}
use Rattle.journal_records.proofs.outline.push_corners.Given as goal

abbrev pub invariant-loop-corner : goal.invariant-loop-corner
invariant-loop-corner g l = l.text.items ≡ l.fn.text.items ++ flat_map next_corner_text (take l.corner-index l.corners)
