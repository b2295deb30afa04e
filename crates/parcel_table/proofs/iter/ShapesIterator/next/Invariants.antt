use Rattle.std.proofs.Common.{◌≡◌, length}
use Rattle.parcel_table.specs.own.Places.{shapes_at}
use Rattle.parcel_table.proofs.iter.ShapesIterator.next.Given as goal

-- only places that lead to no parcel were passed over
abbrev pub invariant-loop-place : goal.invariant-loop-place
invariant-loop-place g l =
    (l.self-inside.left ≡ length (shapes_at l.self-inside.slab.now l.self-inside.places.now))
    × (shapes_at l.self-inside.slab.now l.self-inside.places.now ≡ l.fn.self)

abbrev pub decreases-loop-place : goal.decreases-loop-place
decreases-loop-place g l = length l.self-inside.places.now
