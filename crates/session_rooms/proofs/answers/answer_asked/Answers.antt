use Rattle.std.proofs.Common.{ap, refl, codes}
use Rattle.session_lines.specs.declared.line.Line.TheVariants.{Skipped, Locate, Parcel, Entries}
use Rattle.session_lines.specs.Answers.{error_line, fault_text}
use Rattle.session_lines.specs.declared.faults.SessionFault.TheVariants.{OperatorOnly}
use Rattle.session_rooms.proofs.DeskAnswers.{answered_plainly, operators_line}
use Rattle.session_rooms.proofs.answers.answer_asked.Goals as goal
use Rattle.session_rooms.proofs.answers.answer_asked.Goals.{in-Skipped+in_ok-push_skipped-in-Skipped}
use Rattle.session_rooms.proofs.answers.answer_asked.Goals.{in-Locate+in_ok-answer_locate-in-Locate}
use Rattle.session_rooms.proofs.answers.answer_asked.Goals.{in-Parcel+in_ok-answer_parcel-in-Parcel}
use Rattle.session_rooms.proofs.answers.answer_asked.Goals.{in-Entries+in_ok-answer_entries-in-Entries}
use Rattle.session_rooms.proofs.answers.answer_asked.Goals.{in-Overlay+in_ok-push_error-in-Overlay}

pub returns-clause-answered : goal.returns-clause-answered
returns-clause-answered g c =
    let office = g.J.Naming-1.office in
    let journal = c.args.room.now.journal in
    let text = c.args.text.now.items in
    let chair = c.match-line.chair in
    let asked = c.args.asked.line in
    let went = answered_plainly office journal c.args.chair.now chair asked in
    elim c.match-line.branch [
      | in-Skipped+in_ok-push_skipped-in-Skipped w ↦
          went Skipped chair.window text w.push_skipped.new.text.items c.match-line.text.items w.in-Skipped.is refl
          (ap (λ t. t.items) w.text-is) (codes "skipped\n", refl, w.in_ok-push_skipped-in-Skipped.ensures.ok)
      | in-Locate+in_ok-answer_locate-in-Locate w ↦
          went (Locate w.in-Locate.corner) w.answer_locate.new.window text w.answer_locate.new.text.items c.match-line.text.items
          w.in-Locate.is (ap (λ c. c.window) w.chair-is) (ap (λ t. t.items) w.text-is)
          w.in_ok-answer_locate-in-Locate.ensures.answered
      | in-Parcel+in_ok-answer_parcel-in-Parcel w ↦
          went (Parcel w.in-Parcel.id) w.answer_parcel.new.window text w.answer_parcel.new.text.items c.match-line.text.items
          w.in-Parcel.is (ap (λ c. c.window) w.chair-is) (ap (λ t. t.items) w.text-is)
          w.in_ok-answer_parcel-in-Parcel.ensures.answered
      | in-Entries+in_ok-answer_entries-in-Entries w ↦
          went Entries w.answer_entries.new.window text w.answer_entries.new.text.items c.match-line.text.items
          w.in-Entries.is (ap (λ c. c.window) w.chair-is) (ap (λ t. t.items) w.text-is)
          w.in_ok-answer_entries-in-Entries.ensures.answered
      | in-Overlay+in_ok-push_error-in-Overlay w ↦
          went asked chair.window text w.push_error.new.text.items c.match-line.text.items refl refl (ap (λ t. t.items) w.text-is) (
            error_line (fault_text OperatorOnly),
            operators_line chair.window asked _ refl w.in-Overlay.is,
            w.in_ok-push_error-in-Overlay.ensures.ok,
          )
    ]
