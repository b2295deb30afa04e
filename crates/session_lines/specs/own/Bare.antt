-- What the code tells of lines that are always in the same words.
use Rattle.std.specs.Prelude.{⊤}
use Rattle.session_lines.specs.declared.line.Line.{Line}
use Rattle.session_lines.specs.declared.line.Line.TheVariants.{Skipped, Edit, Locate, Parcel, Entries, Overlay, Check}
use Rattle.session_lines.specs.declared.line.Line.TheVariants.{Export, Publish, OverlayAreas, Close}

-- what a line asks for by the same words each time
abbrev pub IsBare : {A : Type 0} → Line A → Type 0
IsBare Skipped = ⊥
IsBare (Edit edit) = ⊥
IsBare (Locate corner) = ⊥
IsBare (Parcel id) = ⊥
IsBare Entries = ⊤
IsBare Overlay = ⊤
IsBare OverlayAreas = ⊤
IsBare Check = ⊤
IsBare (Export base) = ⊥
IsBare Publish = ⊤
IsBare Close = ⊤
