-- The register that a session begins with, from the bytes of its files (this product's own).
use Rattle.std.specs.Prelude.{◌≡◌, ◌⊎◌, ⊤, ℕ, Bool, List, [], map, length, Option, None, Some}
use Rattle.std.specs.Option.{option_map}
use Rattle.geo_exact.specs.declared.coord.Unit.{Unit as LengthUnit}
use Rattle.geo_exact.specs.declared.corner.Corner.{Corner}
use Rattle.journal_records.specs.declared.record.Record.{Record}
use Rattle.journal_records.specs.declared.seal.Seal.{Seal}
use Rattle.journal_records.specs.Journals.{IsJournal, IsHeaderFault, seal_text}
use Rattle.fabric_core.specs.declared.refusal.Refusal.{Refusal}
use Rattle.fabric_core.specs.Rows.{Tiles}
use Rattle.fabric_core.specs.Journal.{Book, opening_state, replay}
use Rattle.journal_replays.specs.declared.journal_edits.Replayed.{Replayed}
use Rattle.journal_replays.specs.declared.journal_edits.ReplayFault.{ReplayFault}
use Rattle.journal_replays.specs.declared.journal_edits.ReplayFault.TheVariants.{Journal as Unread, Refused}
use Rattle.journal_replays.specs.Replays.{layer_text, IsRefusedAt}
use Rattle.city_layers.specs.declared.fault.ToolFault.{ToolFault}
use Rattle.city_layers.specs.declared.fault.ToolFault.TheVariants.{NoMemory}
use Rattle.city_layers.specs.TilingFiles.{Files, files_of, AreTiles, IsTiledBy, IsTilesFault}
use Rattle.city_layers.specs.ZonedFiles.{IsLayersFault}
use Rattle.session_rooms.specs.declared.begin.Sources.{Sources}
use Rattle.session_rooms.specs.declared.begin.BeginFault.{BeginFault}
use Rattle.session_rooms.specs.declared.begin.BeginFault.TheVariants.{Load, Journal}

-- the bytes of the zones' files, where there are some
abbrev pub zones_of : {A : Type 0} → Sources A → Option Files
zones_of sources = option_map files_of sources.zones

-- the zones tile this city, where there are some
abbrev pub AreZonesOf : Option Files → LengthUnit → List Corner → Option Tiles → Type 0
AreZonesOf None unit city None = ⊤
AreZonesOf None unit city (Some zones) = ⊥
AreZonesOf (Some files) unit city None = ⊥
AreZonesOf (Some files) unit city (Some zones) = IsTiledBy files unit city zones

-- the first fault of the layers' files: of the parcels in the city, and then of the zones in it
abbrev pub IsFaultOfFiles : Files → Files → Option Files → LengthUnit → ToolFault → Type 0
IsFaultOfFiles city parcels None unit fault = IsTilesFault city parcels unit fault
IsFaultOfFiles city parcels (Some zones) unit fault = IsLayersFault city parcels zones unit fault

-- a fault of the load is that; memory may always be wanted
abbrev pub IsLoadFaultOf : {A : Type 0} → Sources A → LengthUnit → BeginFault → Type 0
IsLoadFaultOf sources unit (Load fault) =
    IsFaultOfFiles (files_of sources.city) (files_of sources.parcels) (zones_of sources) unit fault ⊎ (fault ≡ NoMemory)
IsLoadFaultOf sources unit (Journal fault) = ⊤

module _ {A : Type 0} where
  -- a register was opened with this layer
  pub record IsOpenedOver (tiles : Tiles) (book : Book A) : Type 0 where
    pub same_city : book.city ≡ tiles.city
    pub opening : book.opening ≡ opening_state tiles.rows tiles.refined

  -- it was opened with the layer of the parcels' files, which tiles the city of the city's files
  pub record IsOpenedWith (city parcels : Files) (unit : LengthUnit) (book : Book A) : Type 0 where
    pub tiles : Tiles
    pub are_tiles : AreTiles city parcels unit tiles
    pub is_opened : IsOpenedOver tiles book

  -- the digest of the layer that it was opened with
  abbrev pub digest_of : Book A → List ℕ
  digest_of book = seal_text (layer_text book.city book.opening.rows)

  -- the text is a journal of the layer with this digest, with these records, or empty, with none
  abbrev pub IsTextOf : List ℕ → List ℕ → List (Record A) → List ℕ → List ℕ → Bool → Type 0
  IsTextOf layer text records seal rest lacks = IsJournal layer text records seal rest lacks
      ⊎ ((text ≡ []) × (records ≡ []) × (seal ≡ layer) × (rest ≡ []))

-- the text is a journal of the layer with this digest, or empty; so many records there are, with this last digest, and
-- so many torn bytes behind them
pub record IsMarked (A : Type 0) (text : List ℕ) (replayed : Replayed) (layer : Seal) : Type 0 where
  pub records : List (Record A)
  pub rest : List ℕ
  pub is_text : IsTextOf layer.digits text records replayed.seal.digits rest replayed.lacks_end
  pub are_so_many : replayed.records ≡ length records
  pub is_torn : replayed.torn ≡ length rest

module _ {A : Type 0} where
  -- the register's entries are exactly the edits of the journal's records, in order, each by its clerk, and lead to
  -- what it is now
  pub record IsBehind (text : List ℕ) (book : Book A) (replayed : Replayed) (layer : Seal) : Type 0 where
    pub marked : IsMarked A text replayed layer
    pub is_layer : layer.digits ≡ digest_of book
    pub have_edits : map (λ entry. entry.edit) book.journal ≡ map (λ said. said.edit) marked.records
    pub have_clerks : map (λ entry. entry.clerk) book.journal ≡ map (λ said. said.stamp.clerk) marked.records
    pub leads : replay book.opening book.journal ≡ book.now

  -- a register that was opened with this layer, and nothing edited yet
  pub record IsFresh (tiles : Tiles) (book : Book A) : Type 0 where
    pub is_opened : IsOpenedOver tiles book
    pub now : book.now ≡ book.opening
    pub journal : book.journal ≡ []

-- of the journal with this text the edit of the record of this number is the first that the register of this layer
-- refuses, for this reason
pub record IsStoppedOver (A : Type 0) (tiles : Tiles) (text : List ℕ) (number : ℕ) (refusal : Refusal) : Type 0 where
  pub fresh : Book A
  pub reached : Book A
  pub is_fresh : IsFresh tiles fresh
  pub is_refused : IsRefusedAt (digest_of fresh) text fresh reached number refusal

pub record IsStoppedBehind (A : Type 0) (city parcels : Files) (unit : LengthUnit) (text : List ℕ) (number : ℕ)
    (refusal : Refusal) : Type 0 where
  pub tiles : Tiles
  pub are_tiles : AreTiles city parcels unit tiles
  pub is_stopped : IsStoppedOver A tiles text number refusal

-- the digest of a layer before its first edit
abbrev pub digest_over : Tiles → List ℕ
digest_over tiles = seal_text (layer_text tiles.city (opening_state tiles.rows tiles.refined).rows)

-- what is told of the first line of a journal that is not of this layer
abbrev pub IsFaultOver : Tiles → List ℕ → ReplayFault → Type 0
IsFaultOver tiles text (Unread fault) = IsHeaderFault (digest_over tiles) text fault
IsFaultOver tiles text (Refused number refusal) = ⊤

-- the same over the layer of these files
pub record IsFaultBehind (city parcels : Files) (unit : LengthUnit) (text : List ℕ) (fault : ReplayFault) : Type 0 where
  pub tiles : Tiles
  pub are_tiles : AreTiles city parcels unit tiles
  pub is_fault : IsFaultOver tiles text fault

-- where the journal is at fault
abbrev pub IfJournal : BeginFault → (ReplayFault → Type 0) → Type 0
IfJournal (Load fault) is = ⊤
IfJournal (Journal fault) is = is fault
