-- What is wrong with a ring that is not simple (OGC 06-103r4, 6.1.7, LinearRing); the order in which it is looked for
-- is this product's own.
use Rattle.std.specs.Prelude.{◌≡◌, ℕ, pos, ◌<ℤ◌, List, length}
use Rattle.geo_exact.specs.declared.corner.Corner.{Corner}
use Rattle.geo_exact.specs.First.{IsFirstPair}
use Rattle.geo_exact.specs.Area.{area2}
use Rattle.ring_core.specs.declared.ring.RingFault.{RingFault}
use Rattle.ring_core.specs.declared.ring.RingFault.TheVariants.{ZeroArea, Clockwise, EdgesMeet}
use Rattle.ring_core.specs.Simple.{MeetOtherwise}

-- edges i and j are the first two, by i and then by j, that meet otherwise than as neighbours do
abbrev pub IsFirstMeeting : List Corner → ℕ → ℕ → Type 0
IsFirstMeeting ring i j = IsFirstPair (MeetOtherwise ring) (length ring) i j

-- the fault is the first that the ring has
abbrev pub IsRingFault : List Corner → RingFault → Type 0
IsRingFault ring ZeroArea = area2 ring ≡ pos 0
IsRingFault ring Clockwise = area2 ring <ℤ pos 0
IsRingFault ring (EdgesMeet i j) = (pos 0 <ℤ area2 ring) × IsFirstMeeting ring i j
