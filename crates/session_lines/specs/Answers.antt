-- What a session answers, a line for each line (this product's own). Numbers are in decimal, with a minus sign where
-- they are below 0; corners in millimetres, areas in square millimetres.
use Rattle.std.specs.Prelude.{ℕ, List, ◌++◌, codes, decimal}
use Rattle.std.specs.List.{flat_map}
use Rattle.std.specs.Fmt.{signed_decimal}
use Rattle.geo_exact.specs.Area.{area2}
use Rattle.geo_exact.specs.declared.corner.Corner.{Corner}
use Rattle.fabric_core.specs.Journal.{JournalEntry}
use Rattle.fabric_core.specs.Rows.{numbers}
use Rattle.fabric_core.specs.declared.locate.At.{At}
use Rattle.fabric_core.specs.declared.refusal.Refusal.{Refusal}
use Rattle.text_pieces.specs.CornerText.{corner_text, next_corner_text}
use Rattle.clerk_runs.specs.ClerkLines.{refusal_text}
use Rattle.clerk_runs.specs.PlaceTexts.{id_text, place_text}
use Rattle.session_lines.specs.declared.faults.SessionFault.{SessionFault}
use Rattle.session_lines.specs.declared.faults.SessionFault.TheVariants.{BadLine, NoVersion, NoMemory, OperatorOnly}
use Rattle.session_lines.specs.declared.faults.SessionFault.TheVariants.{NoCard, NoWindow, JournalFailed, Closed}
use Rattle.session_lines.specs.declared.faults.SessionFault.TheVariants.{NoZones, CardsMissing}

-- `ok NUMBER out ID..`: the entry's number, and the ids that it took out
abbrev pub out_text : {A : Type 0} → JournalEntry A → List ℕ
out_text entry = codes "ok " ++ decimal entry.number ++ codes " out" ++ flat_map id_text entry.out

-- `ok NUMBER out ID.. new ID..`: with those of the rows that it brought
abbrev pub accepted_line : {A : Type 0} → JournalEntry A → List ℕ
accepted_line entry = out_text entry ++ codes " new" ++ flat_map id_text (numbers entry.rows) ++ codes "\n"

-- `refused TEXT`
abbrev pub refused_line : Refusal → List ℕ
refused_line refusal = codes "refused " ++ refusal_text refusal ++ codes "\n"

-- `at ENTRIES X Y`
abbrev pub asked_text : ℕ → Corner → List ℕ
asked_text entries corner = codes "at " ++ decimal entries ++ codes " " ++ corner_text corner

-- `at ENTRIES X Y inside ID`, `at ENTRIES X Y edge ID ID ..` or `at ENTRIES X Y outside`
abbrev pub located_line : {A : Type 0} → ℕ → Corner → At A → List ℕ
located_line entries corner at = asked_text entries corner ++ codes " " ++ place_text at ++ codes "\n"

-- `parcel ENTRIES ID `
abbrev pub parcel_text : ℕ → ℕ → List ℕ
parcel_text entries id = codes "parcel " ++ decimal entries ++ codes " " ++ decimal id ++ codes " "

-- `parcel ENTRIES ID AREA2 X Y X Y ..`: twice the ring's area, and its corners in their order
abbrev pub parcel_line : ℕ → ℕ → List Corner → List ℕ
parcel_line entries id ring =
    parcel_text entries id ++ signed_decimal (area2 ring) ++ flat_map next_corner_text ring ++ codes "\n"

-- `parcel ENTRIES ID none`
abbrev pub no_parcel_line : ℕ → ℕ → List ℕ
no_parcel_line entries id = parcel_text entries id ++ codes "none\n"

-- `entries ENTRIES`
abbrev pub entries_line : ℕ → List ℕ
entries_line entries = codes "entries " ++ decimal entries ++ codes "\n"

-- `ready ENTRIES`
abbrev pub ready_line : ℕ → List ℕ
ready_line entries = codes "ready " ++ decimal entries ++ codes "\n"

-- `published ENTRIES`
abbrev pub published_line : ℕ → List ℕ
published_line entries = codes "published " ++ decimal entries ++ codes "\n"

-- `closed ENTRIES`
abbrev pub closed_line : ℕ → List ℕ
closed_line entries = codes "closed " ++ decimal entries ++ codes "\n"

-- what a fault is called
abbrev pub fault_text : SessionFault → List ℕ
fault_text BadLine = codes "L1"
fault_text NoVersion = codes "K4"
fault_text NoMemory = codes "no memory"
fault_text OperatorOnly = codes "operator"
fault_text NoCard = codes "no card"
fault_text NoWindow = codes "no window"
fault_text JournalFailed = codes "journal"
fault_text Closed = codes "closed"
fault_text NoZones = codes "no zones"
fault_text (CardsMissing clerks cards) = codes "K2 " ++ decimal clerks ++ codes " " ++ decimal cards

-- `error: TEXT`
abbrev pub error_line : List ℕ → List ℕ
error_line text = codes "error: " ++ text ++ codes "\n"
