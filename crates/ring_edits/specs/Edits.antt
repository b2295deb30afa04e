-- What each edit makes of rings (this product's own). Each new ring is given by its corners as they are joined, and
-- begun at its least; `put_between` alone is not begun anew.
use Rattle.std.specs.Prelude.{◌≡◌, ◌≢◌, ◌↔◌, ℕ, ◌<◌, ◌≤◌, Bool, ◌||◌, not, if◌then◌else◌, List, []}
use Rattle.std.specs.Prelude.{◌∷◌, ◌++◌, reverse, length}
use Rattle.std.specs.List.{Contains, AllByRecursion, list_any, filter}
use Rattle.geo_exact.specs.declared.corner.Corner.{Corner}
use Rattle.geo_exact.specs.declared.limits.TheConstants.{RING_CORNERS}
use Rattle.geo_exact.specs.Area.{area2}
use Rattle.geo_exact.specs.Order.{is_same}
use Rattle.geo_exact.specs.Places.{corner_at, after, before}
use Rattle.geo_exact.specs.Point.{Point}
use Rattle.geo_exact.specs.Rings.{Edge, path, edges, begun_at_least}
use Rattle.geo_exact.specs.Segments.{IsStrictlyInside}
use Rattle.geo_exact.specs.Turn.{IsOnRing}
use Rattle.geo_exact.specs.Winding.{winding}
use Rattle.edge_chains.specs.Net.{runs_from_to}
use Rattle.ring_edits.specs.declared.fault.EditFault.{EditFault}
use Rattle.ring_edits.specs.declared.fault.EditFault.TheVariants.{BadPath, NotNeighbours, SharedTwice, NoMemory}
use Rattle.ring_edits.specs.Round.{GoesRound, HasEdge}

-- a path from one corner, by those between, to another that is not the same, of at most so many corners as a ring has
pub record IsPath (corners : List Corner) (from : Corner) (between : List Corner) (to : Corner) : Type 0 where
  pub is : corners ≡ from ∷ between ++ to ∷ []
  pub not_closed : from ≢ to
  pub short : length corners ≤ RING_CORNERS

-- the path goes from a corner of the ring to another
pub record IsPathAcross (ring corners : List Corner) : Type 0 where
  pub from : Corner
  pub between : List Corner
  pub to : Corner
  pub is_path : IsPath corners from between to
  pub has_from : Contains ring from
  pub has_to : Contains ring to

-- the path cuts the ring in two: left of it the path and the run from its last corner on to its first, right of it the
-- run from its first corner on to its last and the path backwards
pub record IsSplit (ring corners left right : List Corner) : Type 0 where
  pub from : Corner
  pub between : List Corner
  pub to : Corner
  pub onward : List Corner
  pub back : List Corner
  pub is_path : IsPath corners from between to
  pub round : GoesRound ring from onward to back
  pub left_is : left ≡ begun_at_least (from ∷ between ++ to ∷ back)
  pub right_is : right ≡ begun_at_least (from ∷ onward ++ to ∷ reverse between)

-- the edge goes between the two corners, in either direction
abbrev pub joins : Corner → Corner → Edge → Bool
joins from to edge = runs_from_to from to edge || runs_from_to to from edge

-- the ring has an edge between the two corners, in either direction
abbrev pub has_edge_between : Corner → Corner → List Corner → Bool
has_edge_between from to ring = list_any (joins from to) (edges ring)

-- of each edge the corner that it comes from, and behind that `at` where the edge goes between `from` and `to`
abbrev pub put_along : (from to at : Corner) → List Edge → List Corner
put_along from to at [] = []
put_along from to at (edge ∷ rest) =
    edge.from ∷ (if joins from to edge then at ∷ put_along from to at rest else put_along from to at rest)

-- the ring with `at` put into each of its edges between `from` and `to`, in either
-- direction; its first corner stays first
abbrev pub put_between : (from to at : Corner) → List Corner → List Corner
put_between from to at ring = put_along from to at (edges ring)

-- the same, begun at its least corner
abbrev pub with_corner : (from to at : Corner) → List Corner → List Corner
with_corner from to at ring = begun_at_least (put_between from to at ring)

-- the other ring covers what the ring covers: it goes round each rational point as often, has the same points on its
-- edges, and the same area
pub record CoversAlike (ring other : List Corner) : Type 0 where
  pub winding_number : (p : Point) → winding p other ≡ winding p ring
  pub boundary : (p : Point) → IsOnRing p other ↔ IsOnRing p ring
  pub signed_area : area2 other ≡ area2 ring

-- edge k of ring a is shared: ring b has it in the other direction
abbrev pub IsSharedAt : List Corner → List Corner → ℕ → Type 0
IsSharedAt a b k = HasEdge b (corner_at a (after (length a) k)) (corner_at a k)

-- the rings share an edge
abbrev pub AreNeighbours : List Corner → List Corner → Type 0
AreNeighbours a b = (k : ℕ) × (k < length a) × IsSharedAt a b k

-- the edge is shared, as one of ring a: ring b has it in the other direction
abbrev pub IsSharedWith : List Corner → Edge → Type 0
IsSharedWith b edge = HasEdge b edge.to edge.from

-- the edges of ring a that ring b shares are those of one run, which goes from u to another corner v in a's direction,
-- by the corners `onward`; the others go on by the corners `back` to u
pub record IsShared (a b : List Corner) (u : Corner) (onward : List Corner) (v : Corner)
    (back : List Corner) : Type 0 where
  pub round : GoesRound a u onward v back
  pub shared : AllByRecursion (IsSharedWith b) (path u onward v)
  pub others_not : AllByRecursion (λ edge. ¬ IsSharedWith b edge) (path v back u)

-- the shared run of a and b goes from u to v
abbrev pub IsSharedRun : List Corner → List Corner → Corner → Corner → Type 0
IsSharedRun a b u v = (onward : List Corner) × (back : List Corner) × IsShared a b u onward v back

-- the rings share one unbroken run of edges
abbrev pub ShareOneRun : List Corner → List Corner → Type 0
ShareOneRun a b = (u : Corner) × (v : Corner) × IsSharedRun a b u v

-- why two rings have no border: they share no edge, or they do, and not one unbroken run
abbrev pub IsBorderFault : List Corner → List Corner → EditFault → Type 0
IsBorderFault a b NotNeighbours = ¬ AreNeighbours a b
IsBorderFault a b SharedTwice = AreNeighbours a b × (¬ ShareOneRun a b)
IsBorderFault a b BadPath = ⊥
IsBorderFault a b NoMemory = ⊥

-- a's walk from v on to u and then b's from u on to v: the corners between u and v on the shared run go
pub record IsMerge (a b out : List Corner) : Type 0 where
  pub u : Corner
  pub v : Corner
  pub run : List Corner
  pub of_a : List Corner
  pub of_b : List Corner
  pub back : List Corner
  pub shared : IsShared a b u run v of_a
  pub round_b : GoesRound b u of_b v back
  pub out_is : out ≡ begun_at_least (v ∷ of_a ++ u ∷ of_b)

-- the path does not go from where the shared run begins to where it ends
abbrev pub IsBadBorder : List Corner → List Corner → List Corner → Type 0
IsBadBorder a b corners =
    (u : Corner) × (v : Corner) × IsSharedRun a b u v × ((between : List Corner) → ¬ IsPath corners u between v)

-- the path goes from where the shared run begins to where it ends
abbrev pub IsBorderPath : List Corner → List Corner → List Corner → Type 0
IsBorderPath a b corners =
    (u : Corner) × (v : Corner) × (between : List Corner) × IsSharedRun a b u v × IsPath corners u between v

-- a and b with the shared run exchanged for the path: for a the path and then a's walk from v on to u, for b the path
-- backwards and then b's walk from u on to v
pub record IsMove (a b corners out_a out_b : List Corner) : Type 0 where
  pub u : Corner
  pub v : Corner
  pub run : List Corner
  pub of_a : List Corner
  pub of_b : List Corner
  pub back : List Corner
  pub between : List Corner
  pub shared : IsShared a b u run v of_a
  pub round_b : GoesRound b u of_b v back
  pub is_path : IsPath corners u between v
  pub out_a_is : out_a ≡ begun_at_least (u ∷ between ++ v ∷ of_a)
  pub out_b_is : out_b ≡ begun_at_least (v ∷ reverse between ++ u ∷ of_b)

-- the ring has the corner
abbrev pub has_corner : Corner → List Corner → Bool
has_corner at ring = list_any (is_same at) ring

-- the ring without the corner: the others, in their order
abbrev pub without_corner : Corner → List Corner → List Corner
without_corner at ring = filter (λ corner. not (is_same at corner)) ring

-- the same, begun at its least corner
abbrev pub straightened : Corner → List Corner → List Corner
straightened at ring = begun_at_least (without_corner at ring)

-- the ring bends at the corner: somewhere it has the corner, and there it does not lie strictly inside the edge between
-- its two neighbours. (In a simple ring, where no two corners are one place, a corner is flat or the ring bends there.)
pub record BendsAt (at : Corner) (ring : List Corner) : Type 0 where
  pub place : ℕ
  pub in_ring : place < length ring
  pub is_there : corner_at ring place ≡ at
  pub is_not_flat : ¬ IsStrictlyInside at (corner_at ring (before (length ring) place))
      (corner_at ring (after (length ring) place))
