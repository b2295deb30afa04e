-- How the fault of a ring is told (this product's own). Numbers are in decimal.
use Rattle.std.specs.Prelude.{ℕ, List, ◌++◌, codes, decimal}
use Rattle.ring_core.specs.declared.ring.RingFault.{RingFault}
use Rattle.ring_core.specs.declared.ring.RingFault.TheVariants.{ZeroArea, Clockwise, EdgesMeet}

-- `G1`, `G3` or `G2 I J`
abbrev pub ring_fault_text : RingFault → List ℕ
ring_fault_text ZeroArea = codes "G1"
ring_fault_text Clockwise = codes "G3"
ring_fault_text (EdgesMeet i j) = codes "G2 " ++ decimal i ++ codes " " ++ decimal j
