-- What a window learns, and what is answered to a line that is no edit.
use Rattle.std.proofs.Common.{◌≡◌, ◌⊎◌, inl, inr, refl, sym, ◌∙◌, subst, append-nil, ℕ, List, [], Option, None, Some, Bor}
use Rattle.fabric_core.specs.Journal.{JournalEntry}
use Rattle.desk_lock.specs.Offices.{OfficeId, WindowState}
use Rattle.session_lines.specs.declared.line.Line.{Line}
use Rattle.session_lines.specs.declared.line.Line.TheVariants.{Edit as AskedEdit, Overlay, OverlayAreas, Check, Export, Publish}
use Rattle.session_lines.specs.declared.line.Line.TheVariants.{Close}
use Rattle.session_lines.specs.declared.faults.SessionFault.TheVariants.{OperatorOnly}
use Rattle.session_rooms.specs.DeskAnswers.{GoesOnBy, IsErrorLine, HasGoneOn, HasWindowGoneOn, HasWindowLearnt}
use Rattle.session_rooms.specs.DeskAnswers.{IsPlainLine, IsAnswerTo}
use Rattle.session_rooms.specs.declared.answers.Chair.{Chair}

module _ {A : Type 0} where
  -- a window that stays as it is
  stays : (window : WindowState A) → HasGoneOn window window
  stays window = record { opening = refl; begins = ([], append-nil window.seen) }

  -- where there is one
  pub same_window : (window : Option (WindowState A)) → HasWindowGoneOn window window
  same_window None = tt
  same_window (Some window) = stays window

  -- one that learns loses nothing
  pub learnt : (before after : Option (WindowState A)) (told : Option (List (JournalEntry A)))
      → HasWindowLearnt before told after → HasWindowGoneOn before after
  learnt None None told has = tt
  learnt None (Some after) told has = absurd has
  learnt (Some before) None told has = absurd has
  learnt (Some before) (Some after) None same = subst (λ window. HasGoneOn before window) (sym same) (stays before)
  learnt (Some before) (Some after) (Some told) learns =
      record { opening = learns.opening; begins = learns.longer.begins }

  -- one of the operator's lines
  abbrev pub IsOperators : Line A → Type 0
  IsOperators asked = (asked ≡ Overlay) ⊎ ((asked ≡ OverlayAreas) ⊎ ((asked ≡ Check)
      ⊎ (((base : Bor (List ℕ)) × (asked ≡ Export base)) ⊎ ((asked ≡ Publish) ⊎ (asked ≡ Close)))))

  -- is refused at any other desk
  pub operators_line : (window : Option (WindowState A)) (asked : Line A) (line : List ℕ) → IsErrorLine OperatorOnly line
      → IsOperators asked → IsPlainLine window asked line
  operators_line window asked line told (inl is) = subst (λ a. IsPlainLine window a line) (sym is) told
  operators_line window asked line told (inr (inl is)) = subst (λ a. IsPlainLine window a line) (sym is) told
  operators_line window asked line told (inr (inr (inl is))) = subst (λ a. IsPlainLine window a line) (sym is) told
  operators_line window asked line told (inr (inr (inr (inl is)))) = subst (λ a. IsPlainLine window a line) (sym is.1) told
  operators_line window asked line told (inr (inr (inr (inr (inl is))))) = subst (λ a. IsPlainLine window a line) (sym is) told
  operators_line window asked line told (inr (inr (inr (inr (inr is))))) = subst (λ a. IsPlainLine window a line) (sym is) told

module _ {H J T : Type 0} (office : OfficeId (Bor H)) (journal : Option T) (before after : Chair H J) where
  -- nothing was made
  plain_answer : (asked : Line (Bor H)) (line : List ℕ) → IsPlainLine after.window asked line
      → IsAnswerTo office journal before after asked None line
  plain_answer (AskedEdit edit) line plain = absurd plain
  plain_answer asked line plain = (refl, plain)

  -- the text went on by such a line, which is of the window as it is then
  pub answered_plainly : (asked which : Line (Bor H)) (window : Option (WindowState (Bor H))) (text mid end : List ℕ)
      → asked ≡ which → after.window ≡ window → end ≡ mid → GoesOnBy (IsPlainLine window which) text mid
      → GoesOnBy (IsAnswerTo office journal before after asked None) text end
  answered_plainly asked which window text mid end is same goes_on h =
      let plain = subst (λ w. IsPlainLine w which h.0) (sym same) h.1 in
      (h.0, plain_answer asked h.0 (subst (λ a. IsPlainLine after.window a h.0) (sym is) plain), goes_on ∙ h.2)
