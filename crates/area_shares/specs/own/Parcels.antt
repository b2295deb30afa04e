-- The pairs of one parcel. Public contracts do not speak of them.
use Rattle.std.specs.Prelude.{◌≡◌, ◌↔◌, ℕ, ◌+◌, ◌*◌, ◌<◌, ◌++◌, nat_eq, if◌then◌else◌, List, [], ◌∷◌, length, map}
use Rattle.std.specs.List.{AllByRecursion, AllZip, Contains}
use Rattle.geo_exact.specs.declared.corner.Corner.{Corner}
use Rattle.geo_exact.specs.Area.{area2}
use Rattle.geo_exact.specs.Layers.{NumberedRing}
use Rattle.common_areas.specs.Common.{common_area2}
use Rattle.zone_tables.specs.Overlap.{Overlaps, AreInPairOrder}
use Rattle.area_shares.specs.declared.share.Share.{Share}
use Rattle.area_shares.specs.declared.shared.AreaLine.{AreaLine}
use Rattle.area_shares.specs.Shares.{sum_of}
use Rattle.area_shares.specs.AreaTable.{pair_of, AreNear}
use Rattle.area_shares.specs.own.Rounded.{IsRounded}

-- all pairs of a parcel, ascending
pub record AreParcelPairs (rows zones : List NumberedRing) (id : ℕ) (here : List (ℕ × ℕ)) : Type 0 where
  pub ascend : AreInPairOrder here
  pub same : AllByRecursion (λ pair. pair.0 ≡ id) here
  pub exactly : (zone : ℕ) → Contains here (id, zone) ↔ Overlaps rows zones id zone

-- the share is the pair's, of a parcel with this ring
pub record IsShareOf (r : List Corner) (zones : List NumberedRing) (pair : ℕ × ℕ) (share : Share) : Type 0 where
  pub has_zone : share.zone ≡ pair.1
  pub rounded : (zone : NumberedRing) → Contains zones zone → zone.number ≡ pair.1
      → IsRounded (length r * length zone.corners) (common_area2 r zone.corners) share.least share.has_next

abbrev pub AreSharesOf : List Corner → List NumberedRing → List (ℕ × ℕ) → List Share → Type 0
AreSharesOf r zones here shares = AllZip (IsShareOf r zones) here shares

-- the lines of one parcel
pub record AreParcelLines (rows zones : List NumberedRing) (id : ℕ) (here : List (ℕ × ℕ))
    (lines : List AreaLine) : Type 0 where
  pub are_pairs : map pair_of lines ≡ here
  pub sum : (row : NumberedRing) → Contains rows row → row.number ≡ id
      → sum_of (map (λ line. line.area2) lines) ≡ area2 row.corners
  pub near : AreNear rows zones here lines

-- new is old with the lines of a parcel behind it
pub record AddsParcel (rows zones : List NumberedRing) (id : ℕ) (here : List (ℕ × ℕ))
    (old new : List AreaLine) : Type 0 where
  pub added : List AreaLine
  pub is_added : new ≡ old ++ added
  pub are_lines : AreParcelLines rows zones id here added

-- how many pairs of a parcel stand first
abbrev pub count_first : ℕ → List (ℕ × ℕ) → ℕ
count_first id [] = 0
count_first id (pair ∷ pairs) = if nat_eq pair.0 id then count_first id pairs + 1 else 0

-- the pairs of a parcel that stand first, and those behind them
pub record IsSplitAt (id : ℕ) (pairs here behind : List (ℕ × ℕ)) : Type 0 where
  pub are_all : pairs ≡ here ++ behind
  pub same : AllByRecursion (λ pair. pair.0 ≡ id) here
  pub above : AllByRecursion (λ pair. id < pair.0) behind
