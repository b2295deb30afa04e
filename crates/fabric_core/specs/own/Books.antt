-- What a fabric keeps. Public contracts do not speak of it.
use Rattle.std.specs.Prelude.{◌≡◌, ◌↔◌, ◌+◌, ◌*◌, ◌^◌, ◌≤◌, ℕ, List, Some, length}
use Rattle.fabric_core.specs.declared.journal.TheConstants.{JOURNAL_ENTRIES}
use Rattle.geo_exact.specs.Layers.{corner_count}
use Rattle.geo_exact.specs.declared.limits.TheConstants.{LAYER_RECORDS, RING_CORNERS}
use Rattle.fabric_core.specs.Journal.{State, JournalEntry, replay}
use Rattle.fabric_core.specs.EditResults.{IsLawful}
use Rattle.fabric_core.specs.Refusals.{IsRetiredBy}
use Rattle.fabric_core.specs.own.Changes.{state_of}
use Rattle.fabric_core.specs.own.Balanced.{IsBalanced}
use Rattle.fabric_core.specs.own.Kept.{Kept, gone_by}

-- the journal is lawful on the opening, and leads to what is kept; it knows by which entry each parcel went; the
-- rings have so many corners together; and the opening's parcels and the city's corners are no more than a layer
-- and a ring may have
pub record IsBook {A : Type 0} (opening : State) (journal : List (JournalEntry A)) (kept : Kept)
    (corners : ℕ) : Type 0 where
  pub balanced : IsBalanced opening
  pub lawful : IsLawful opening journal
  pub replays : replay opening journal ≡ state_of kept
  pub few : length journal ≤ JOURNAL_ENTRIES
  pub gone : (id by : ℕ) → (gone_by kept id ≡ Some by) ↔ IsRetiredBy journal id by
  pub counted : corners ≡ corner_count kept.rows
  pub small : kept.next ≤ 2 ^ 32 + 2 * length journal
  pub few_opened : length opening.rows ≤ LAYER_RECORDS
  pub city_few : length kept.city ≤ RING_CORNERS
