-- What the code knows of a hand besides what it shows.
use Rattle.std.specs.Prelude.{◌≡◌, ◌↔◌, ℕ, ◌*◌, ◌-◌, ◌≤◌, List, [], ◌∷◌, ◌++◌, length, map, take}
use Rattle.std.specs.Prelude.{sum_by, Option, Some, None, IsSome}
use Rattle.std.specs.List.{AllByRecursion, Contains}
use Rattle.geo_exact.specs.declared.corner.Corner.{Corner}
use Rattle.geo_exact.specs.Interiors.{InteriorsMeet}
use Rattle.geo_exact.specs.Layers.{NumberedRing}
use Rattle.fabric_core.specs.Rows.{numbers}
use Rattle.geo_exact.specs.declared.limits.TheConstants.{LAYER_CORNERS}
use Rattle.overlay_claims.specs.Claimants.{Lists, Standing, fresh as fresh_claimant, AreAllEnded}
use Rattle.zone_tables.specs.Overlap.{AreInPairOrder}
use Rattle.overlay_work.specs.Sharing.{IsSharing}
use Rattle.overlay_work.specs.Rounds.{Task, Progress, fresh, ArePairsOf, AreCandidatesFor, HasParcel, HasAllEnds, id_at}

-- the ids that stand at places of the lists, in order
abbrev pub ids_at : List (List ℕ) → List (ℕ × ℕ) → List ℕ
ids_at lists places = map (id_at lists) places

-- of the ids that a hand claimed those that it did: all, but for the last where it holds it
abbrev pub done_of : Option ℕ → List ℕ → List ℕ
done_of None ids = ids
done_of (Some held) ids = take (length ids - 1) ids

-- what a hand holds is the last that it claimed
abbrev pub HoldsLast : Option ℕ → List ℕ → Type 0
HoldsLast None ids = Unit {0}
HoldsLast (Some held) ids = (before : List ℕ) × (ids ≡ before ++ held ∷ [])

-- the pairs are those of these parcels, one after the other
abbrev pub ArePairsOfAll : (rows zones : List NumberedRing) → List ℕ → List (ℕ × ℕ) → Type 0
ArePairsOfAll rows zones [] kept = kept ≡ []
ArePairsOfAll rows zones (id ∷ ids) kept =
    (pairs : List (ℕ × ℕ)) × (rest : List (ℕ × ℕ)) × (kept ≡ pairs ++ rest) × ArePairsOf rows zones id pairs
    × ArePairsOfAll rows zones ids rest

-- the ring's interior meets that of the zone with this number
pub record MeetsZone (zones : List NumberedRing) (ring : List Corner) (zone : ℕ) : Type 0 where
  pub region : NumberedRing
  pub is_zone : Contains zones region
  pub has_number : region.number ≡ zone
  pub interiors_meet : InteriorsMeet ring region.corners

-- the pairs are those of this parcel and each of the tested zones whose interior its ring's meets
pub record AreFoundAmong (zones : List NumberedRing) (ring : List Corner) (id : ℕ) (tested : List ℕ)
    (pairs : List (ℕ × ℕ)) : Type 0 where
  pub of_parcel : AllByRecursion (λ pair. pair.0 ≡ id) pairs
  pub ascend : AreInPairOrder pairs
  pub exactly : (zone : ℕ) → Contains pairs (id, zone) ↔ (Contains tested zone × MeetsZone zones ring zone)

-- they were kept behind the others
pub record KeepsFound (zones : List NumberedRing) (ring : List Corner) (id : ℕ) (tested : List ℕ)
    (old new : List (ℕ × ℕ)) : Type 0 where
  pub pairs : List (ℕ × ℕ)
  pub kept : new ≡ old ++ pairs
  pub are_found : AreFoundAmong zones ring id tested pairs

-- what a task keeps: its lists share the sheet's ids, and claims are of their places
pub record IsTask (task : Task) : Type 0 where
  pub sharing : IsSharing (numbers task.rows) task.lists
  pub lengths : task.claims.lengths ≡ map (λ list. length list) task.lists
  pub few_rows : length task.rows ≤ LAYER_CORNERS
  pub few_zones : length task.zones ≤ LAYER_CORNERS

-- what a hand keeps
pub record IsHand (task : Task) (standing : Standing) (holds : Option ℕ) (kept : List (ℕ × ℕ))
    (tests : ℕ) : Type 0 where
  pub claims : standing.lists ≡ task.claims
  pub here : AllByRecursion (Contains (numbers task.rows)) (ids_at task.lists standing.places)
  pub holds_last : HoldsLast holds (ids_at task.lists standing.places)
  pub pairs : ArePairsOfAll task.rows task.zones (done_of holds (ids_at task.lists standing.places)) kept
  pub few : length standing.places ≤ sum_by (λ n. n) task.claims.lengths
  pub few_tests : tests ≤ LAYER_CORNERS * length (done_of holds (ids_at task.lists standing.places))
  pub is_not_done : IsSome holds → AreAllEnded (length task.lists) standing.ended → ⊥

-- the pairs of a parcel were kept behind the others, after so many tests
pub record KeepsPairs (task : Task) (id : ℕ) (old new : List (ℕ × ℕ)) (count : ℕ) : Type 0 where
  pub pairs : List (ℕ × ℕ)
  pub are_pairs : ArePairsOf task.rows task.zones id pairs
  pub kept : new ≡ old ++ pairs
  pub candidates : List ℕ
  pub are_candidates : AreCandidatesFor task.rows task.zones task.city id candidates
  pub tests : count ≡ length candidates

-- the hand holds this parcel, which it held or has claimed now; what it did before stays
pub record Takes (old new : Progress) (id : ℕ) : Type 0 where
  pub has_parcel : HasParcel old new id
  pub holds : new.holds ≡ Some id
  pub did : new.did ≡ old.did
  pub kept : new.kept ≡ old.kept
  pub tests : new.tests ≡ old.tests
  pub is_not_done : HasAllEnds new → ⊥

-- the hands of those who claim, before they have claimed anything
abbrev pub started : Task → List Standing → List Progress
started task [] = []
started task (hand ∷ hands) = fresh task hand.number ∷ started task hands

abbrev pub AreFresh : Lists → List Standing → Type 0
AreFresh lists [] = Unit {0}
AreFresh lists (hand ∷ hands) = (hand ≡ fresh_claimant lists hand.number) × AreFresh lists hands
