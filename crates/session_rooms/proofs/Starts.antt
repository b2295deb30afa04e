-- The register that a session begins with.
use Rattle.std.proofs.Common.{◌≡◌, inl, inr, refl, sym, ap, ◌∙◌, subst, ℕ, ◌+◌, ◌-◌, ◌<◌, List, [], ◌∷◌, ◌++◌, length, map, arith}
use Rattle.std.proofs.Common.{Result, Ok, Err, IsErrOf, Bool, true, false, take}
use Rattle.geo_exact.specs.declared.coord.Unit.{Unit as LengthUnit}
use Rattle.journal_records.specs.declared.seal.Seal.{Seal}
use Rattle.journal_records.specs.declared.record.Record.{Record}
use Rattle.journal_records.specs.Journals.{header_line, records_text, seal_text, ended, IsHeaderFault}
use Rattle.journal_writers.specs.Writers.{IsKept}
use Rattle.journal_writers.proofs.Kept.{kept_of}
use Rattle.fabric_core.specs.declared.refusal.Refusal.{Refusal}
use Rattle.fabric_core.specs.Rows.{Tiles}
use Rattle.fabric_core.specs.Journal.{JournalEntry, Book, State, opening_state, replay}
use Rattle.journal_replays.specs.declared.journal_edits.Replayed.{Replayed}
use Rattle.journal_replays.specs.declared.journal_edits.ReplayFault.{ReplayFault}
use Rattle.journal_replays.specs.declared.journal_edits.ReplayFault.TheVariants.{Journal as Unread, Refused}
use Rattle.journal_replays.specs.Replays.{layer_text, IsReplayed, IsReplayFault, IsRefusedAt}
use Rattle.city_layers.specs.TilingFiles.{Files, AreTiles}
use Rattle.session_rooms.specs.declared.begin.BeginFault.{BeginFault}
use Rattle.session_rooms.specs.declared.begin.BeginFault.TheVariants.{Load, Journal}
use Rattle.session_rooms.specs.Starts.{digest_of, IsMarked, IsBehind, IsStoppedOver, IsStoppedBehind, IsTextOf}
use Rattle.session_rooms.specs.Starts.{digest_over, IsFaultOver}

module _ {A : Type 0} where
  -- the digest of a fresh register
  digest_fresh : (book : Book A) (seal : List ℕ) → book.now ≡ book.opening → seal ≡ seal_text (layer_text book.city book.now.rows)
      → seal ≡ digest_of book
  digest_fresh book seal now is = is ∙ ap (λ (s : State). seal_text (layer_text book.city s.rows)) now

  -- where there is no journal yet
  pub behind_nothing : (layer : Seal) (text : List ℕ) (book : Book A) (replayed : Replayed) → text ≡ [] → book.journal ≡ []
      → book.now ≡ book.opening → layer.digits ≡ seal_text (layer_text book.city book.now.rows) → replayed.records ≡ 0
      → replayed.torn ≡ 0 → replayed.seal ≡ layer → IsBehind text book replayed layer
  behind_nothing layer text book replayed empty none now seal count torn same = record {
    marked = record {
      records = [];
      rest = [];
      is_text = inr (empty, refl, ap (λ (s : Seal). s.digits) same, refl);
      are_so_many = count;
      is_torn = torn;
    };
    is_layer = digest_fresh book layer.digits now seal;
    have_edits = ap (λ (j : List (JournalEntry A)). map (λ entry. entry.edit) j) none;
    have_clerks = ap (λ (j : List (JournalEntry A)). map (λ entry. entry.clerk) j) none;
    leads = ap (λ j. replay book.opening j) none ∙ sym now;
  }

  -- behind a journal that was replayed
  pub behind_replayed : (layer : Seal) (text : List ℕ) (fresh book : Book A) (replayed : Replayed) → fresh.journal ≡ []
      → fresh.now ≡ fresh.opening → layer.digits ≡ seal_text (layer_text fresh.city fresh.now.rows)
      → IsReplayed layer.digits text fresh book replayed.records replayed.seal.digits replayed.torn replayed.lacks_end
      → replay book.opening book.journal ≡ book.now → IsBehind text book replayed layer
  behind_replayed layer text fresh book replayed none now seal is leads =
      let made = is.are_made in
      let journal : book.journal ≡ made.entries = made.journal ∙ ap (λ j. j ++ made.entries) none in
      record {
        marked = record {
          records = is.records;
          rest = is.rest;
          is_text = inl is.is_journal;
          are_so_many = is.are_so_many;
          is_torn = is.is_torn;
        };
        is_layer = digest_fresh fresh layer.digits now seal
            ∙ ap (λ c. seal_text (layer_text c fresh.opening.rows)) (sym made.city)
            ∙ ap (λ (s : State). seal_text (layer_text book.city s.rows)) (sym made.opening);
        have_edits = ap (λ (j : List (JournalEntry A)). map (λ entry. entry.edit) j) journal ∙ made.have_edits;
        have_clerks = ap (λ (j : List (JournalEntry A)). map (λ entry. entry.clerk) j) journal ∙ made.have_clerks;
        leads = leads;
      }

  -- or not
  pub stopped_over : (tiles : Tiles) (text : List ℕ) (number : ℕ) (refusal : Refusal) (fresh reached : Book A) (seal : List ℕ)
      → fresh.city ≡ tiles.city → fresh.opening ≡ opening_state tiles.rows tiles.refined → fresh.now ≡ fresh.opening
      → fresh.journal ≡ [] → seal ≡ seal_text (layer_text fresh.city fresh.now.rows)
      → IsRefusedAt seal text fresh reached number refusal → IsStoppedOver A tiles text number refusal
  stopped_over tiles text number refusal fresh reached seal city opening now none is refused = record {
    fresh = fresh;
    reached = reached;
    is_fresh = record { is_opened = record { same_city = city; opening = opening }; now = now; journal = none };
    is_refused = subst (λ s. IsRefusedAt s text fresh reached number refusal) (digest_fresh fresh seal now is) refused;
  }

-- the error, where there is one
abbrev error_or : {T E : Type 0} → E → Result T E → E
error_or other (Ok value) = other
error_or other (Err error) = error

-- the same error, where another value was wanted
pub same_error : {T U E : Type 0} (error fault : E) → IsErrOf {T = T} (Err error) fault → IsErrOf {T = U} (Err error) fault
same_error {U = U} {E = E} error fault is =
    let failed : E → Result U E = λ e. Err e in
    ap failed (ap (error_or error) is)

-- the fault of a journal, where it is one
abbrev journal_fault : {T : Type 0} → ReplayFault → Result T BeginFault → ReplayFault
journal_fault other (Ok value) = other
journal_fault other (Err (Load fault)) = other
journal_fault other (Err (Journal fault)) = fault

-- an edit that is refused over the layer of these files
pub stopped_behind : {T U : Type 0} (A : Type 0) (city parcels : Files) (unit : LengthUnit) (text : List ℕ) (fault : ReplayFault)
    (tiles : Tiles) (number : ℕ) (refusal : Refusal) → AreTiles city parcels unit tiles
    → (IsErrOf {T = T} (Err fault) (Refused number refusal) → IsStoppedOver A tiles text number refusal)
    → IsErrOf {T = U} (Err (Journal fault)) (Journal (Refused number refusal))
    → IsStoppedBehind A city parcels unit text number refusal
stopped_behind {T = T} A city parcels unit text fault tiles number refusal are stopped is =
    let failed : ReplayFault → Result T ReplayFault = λ e. Err e in
    record {
      tiles = tiles;
      are_tiles = are;
      is_stopped = stopped (ap failed (ap (journal_fault fault) is));
    }

-- one where there are two items
abbrev how_many : List ℕ → ℕ
how_many [] = 0
how_many (x ∷ []) = 0
how_many (x ∷ y ∷ xs) = 1

-- a journal's text is not empty
not_empty : (layer lines rest : List ℕ) (lacks : Bool) → ¬ (ended lacks [] ≡ header_line layer ++ lines ++ rest)
not_empty layer lines rest false is = absurd (omega (arith, ap how_many is))
not_empty layer lines rest true is = absurd (omega (arith, ap how_many is))

module _ {A : Type 0} where
  -- an empty text has no records
  none_of : (layer text : List ℕ) (records : List (Record A)) (seal rest : List ℕ) (lacks : Bool)
      → IsTextOf layer text records seal rest lacks → text ≡ [] → length records ≡ 0
  none_of layer text records seal rest lacks (inl journal) empty =
      absurd (not_empty layer (records_text layer records) rest lacks (sym (ap (ended lacks) empty) ∙ journal.is_read.is_read.is_text))
  none_of layer text records seal rest lacks (inr h) empty = ap length h.1

  pub none_marked : (text : List ℕ) (replayed : Replayed) (layer : Seal) → IsMarked A text replayed layer → text ≡ []
      → replayed.records ≡ 0
  none_marked text replayed layer marked empty =
      marked.are_so_many ∙ none_of layer.digits text marked.records replayed.seal.digits marked.rest replayed.lacks_end
      marked.is_text empty

  -- what is whole of the text that a register was begun with
  kept_of_marked : (layer text : List ℕ) (records : List (Record A)) (seal rest : List ℕ) (lacks : Bool) (count whole torn : ℕ)
      → IsTextOf layer text records seal rest lacks → count ≡ length records → torn ≡ length rest → 0 < length text
      → whole ≡ length text - torn → IsKept A layer (ended lacks (take whole text)) count seal
  kept_of_marked layer text records seal rest lacks count whole torn (inl journal) so_many is_torn some is =
      kept_of layer text records seal rest lacks count whole torn journal so_many is_torn is
  kept_of_marked layer text records seal rest lacks count whole torn (inr h) so_many is_torn some is =
      absurd (omega (arith, some, ap length h.0))

  pub kept_text : (text : List ℕ) (replayed : Replayed) (layer : Seal) (whole : ℕ) → IsMarked A text replayed layer
      → 0 < length text → whole ≡ length text - replayed.torn
      → IsKept A layer.digits (ended replayed.lacks_end (take whole text)) replayed.records replayed.seal.digits
  kept_text text replayed layer whole marked some is =
      kept_of_marked layer.digits text marked.records replayed.seal.digits marked.rest replayed.lacks_end replayed.records whole
      replayed.torn marked.is_text marked.are_so_many marked.is_torn some is

-- what is told of a journal's first line, over the layer that a register was opened with
pub fault_over : {A : Type 0} (tiles : Tiles) (text seal : List ℕ) (fresh : Book A) (fault : ReplayFault) → fresh.city ≡ tiles.city
    → fresh.opening ≡ opening_state tiles.rows tiles.refined → fresh.now ≡ fresh.opening
    → seal ≡ seal_text (layer_text fresh.city fresh.now.rows) → IsReplayFault seal text fault → IsFaultOver tiles text fault
fault_over tiles text seal fresh (Refused number refusal) city opening now is told = tt
fault_over tiles text seal fresh (Unread fault) city opening now is told =
    let same : seal ≡ digest_over tiles = is ∙ ap (λ (s : State). seal_text (layer_text fresh.city s.rows)) (now ∙ opening)
    ∙ ap (λ c. seal_text (layer_text c (opening_state tiles.rows tiles.refined).rows)) city in
    subst (λ s. IsHeaderFault s text fault) same told
