-- Records that are added to a journal.
use Rattle.std.proofs.Common.{◌≡◌, refl, sym, ap, ◌∙◌, subst, ◌+◌, List, [], ◌∷◌, ◌++◌}
use Rattle.ring_edits.specs.declared.edit.Edit.{Edit}
use Rattle.journal_records.specs.declared.record.Stamp.{Stamp}
use Rattle.journal_records.specs.Journals.{record_text, record_seal}
use Rattle.journal_writers.specs.Files.{with_more}
use Rattle.journal_writers.specs.Writers.{WriterState, DraftState, IsDraftOf}
use Rattle.fabric_core.specs.Journal.{JournalEntry}
use Rattle.session_rooms.specs.Kept.{IsRecorded, HasRecords}

module _ {A : Type 0} where
  -- what was drafted of an entry is added
  pub recorded : (before after : WriterState) (draft : DraftState) (stamp : Stamp) (edit : Edit A) (entry : JournalEntry A)
      → IsDraftOf draft stamp edit → edit ≡ entry.edit → draft.before ≡ before.seal → stamp.number ≡ entry.number
      → stamp.clerk ≡ entry.clerk → after.bytes ≡ with_more draft.text before.bytes → draft.number ≡ before.records + 1
      → after.records ≡ draft.number → after.seal ≡ draft.seal → after.layer ≡ before.layer → after.file ≡ before.file
      → after.is_broken ≡ before.is_broken → IsRecorded before after entry
  recorded before after draft stamp edit entry is same follows number clerk bytes next records seal layer file whole =
      let of_entry : IsDraftOf draft stamp entry.edit = subst (λ e. IsDraftOf draft stamp e) same is in
      record {
        stamp = stamp;
        number = number;
        clerk = clerk;
        one_more = record {
          bytes = bytes
              ∙ ap (λ t. with_more t before.bytes) (subst (λ s. draft.text ≡ record_text s stamp entry.edit) follows of_entry.text);
          next = sym of_entry.number ∙ next;
          records = records ∙ of_entry.number;
          seal = seal ∙ subst (λ s. draft.seal ≡ record_seal s stamp entry.edit) follows of_entry.seal;
          layer = layer;
          file = file;
          whole = whole;
        };
      }

  -- one entry after the other
  pub one_more : (entries : List (JournalEntry A)) (before mid after : WriterState) (entry : JournalEntry A)
      → HasRecords before mid entries → IsRecorded mid after entry → HasRecords before after (entries ++ entry ∷ [])
  one_more [] before mid after entry has is = (after, subst (λ m. IsRecorded m after entry) has is, refl)
  one_more (first ∷ others) before mid after entry has is =
      (has.0, has.1, one_more others has.0 mid after entry has.2 is)
