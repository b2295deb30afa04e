-- What is read after a cut.
use Rattle.std.proofs.Common.{◌≡◌, ◌≢◌, inl, inr, refl, sym, ap, ◌∙◌, subst, ℕ, ◌+◌, List, [], ◌∷◌, ◌++◌, length}
use Rattle.std.proofs.Common.{arith, append_assoc, length-append, false}
use Rattle.std.specs.List.{All}
use Rattle.std.proofs.lemmas.List.Elements.{All-head, All-tail, All-cons, All-nil, All-append}
use Rattle.line_files.specs.EditLine.{edit_text, edit_line}
use Rattle.journal_records.specs.declared.record.Record.{Record}
use Rattle.journal_records.specs.Journals.{header_line, stamp_text, record_seal, record_text, records_text, last_seal, AreTwoLines}
use Rattle.journal_records.specs.Journals.{IsJournal, longest}
use Rattle.journal_records.specs.Tails.{IsInLine, IsTwoLines, IsTail}
use Rattle.journal_records.proofs.Torn.{same_cut}
use Rattle.journal_cuts.specs.Disk.{AreWrittenOrZero, IsCutOf, AreWritten, IsKeptOf}
use Rattle.journal_cuts.proofs.Lines.{line_cut, two_cut, seal_length, first_line_is, same_end, no_record}

-- bytes that are not zero are as they were written
pub as_written : (front left written : List ℕ) → All (λ byte. byte ≢ 0) front → AreWrittenOrZero written (front ++ left)
    → (rest : List ℕ) × (written ≡ front ++ rest) × AreWrittenOrZero rest left
as_written [] left written none are = (written, refl, are)
as_written (byte ∷ front) left [] none are = absurd are
as_written (byte ∷ front) left (was ∷ written) none are =
    let more = as_written front left written (All-tail (λ b. b ≢ 0) byte front none) are.1 in
    let same : byte ≡ was = elim are.0 [
      | inl h ↦ h
      | inr h ↦ absurd (All-head (λ b. b ≢ 0) byte front none h)
    ] in
    (more.0, ap (λ b. b ∷ written) (sym same) ∙ ap (λ w. byte ∷ w) more.1, more.2)

-- a text of two lines has no zero
no_zero : (text : List ℕ) → All IsInLine text → All (λ byte. byte ≢ 0) text
no_zero [] line = All-nil (λ b. b ≢ 0)
no_zero (byte ∷ text) line = All-cons (λ b. b ≢ 0) byte text (All-head IsInLine byte text line).1
    (no_zero text (All-tail IsInLine byte text line))

two_nonzero : (text : List ℕ) → IsTwoLines text → All (λ byte. byte ≢ 0) text
two_nonzero text two =
    let some : 10 ≢ 0 = omega arith in
    let end : All (λ byte. byte ≢ 0) (10 ∷ []) = All-cons (λ b. b ≢ 0) 10 [] some (All-nil (λ b. b ≢ 0)) in
    subst (λ t. All (λ byte. byte ≢ 0) t) (sym two.is_text)
    (All-append (λ b. b ≢ 0) (two.first ++ 10 ∷ two.second) (10 ∷ [])
    (All-append (λ b. b ≢ 0) two.first (10 ∷ two.second) (no_zero two.first two.in_first)
    (All-cons (λ b. b ≢ 0) 10 two.second some (no_zero two.second two.in_second))) end)

module _ {A : Type 0} where
  -- a record's lines, cut at the line feed of the first
  parted : (before : List ℕ) (it : Record A)
      → record_text before it.stamp it.edit
      ≡ (stamp_text it.stamp ++ record_seal before it.stamp it.edit) ++ 10 ∷ (edit_text it.edit ++ 10 ∷ [])
  parted before it = append_assoc (stamp_text it.stamp ++ record_seal before it.stamp it.edit) (10 ∷ []) (edit_line it.edit)

  -- the same lines have the same digest
  same_seal : (before other : List ℕ) (one two : Record A) → IsTwoLines (record_text before one.stamp one.edit)
      → IsTwoLines (record_text other two.stamp two.edit)
      → record_text before one.stamp one.edit ≡ record_text other two.stamp two.edit
      → record_seal before one.stamp one.edit ≡ record_seal other two.stamp two.edit
  same_seal before other one two a b same =
      let s1 = record_seal before one.stamp one.edit in
      let s2 = record_seal other two.stamp two.edit in
      let head1 = stamp_text one.stamp ++ s1 in
      let head2 = stamp_text two.stamp ++ s2 in
      let p = first_line_is (record_text before one.stamp one.edit) head1 (edit_text one.edit) a (parted before one) in
      let q = first_line_is (record_text other two.stamp two.edit) head2 (edit_text two.edit) b (parted other two) in
      let cut = line_cut head1 head2 (edit_text one.edit ++ 10 ∷ []) (edit_text two.edit ++ 10 ∷ []) p.0 q.0
      (sym (parted before one) ∙ same ∙ parted other two) in
      let long : length s1 ≡ length s2 = seal_length (before ++ stamp_text one.stamp ++ edit_line one.edit)
      ∙ sym (seal_length (other ++ stamp_text two.stamp ++ edit_line two.edit)) in
      (same_end (stamp_text one.stamp) (stamp_text two.stamp) s1 s2 cut.0 long).1

  -- one record more, of those that were synchronised or of the others
  of_synced : (before : List ℕ) (first one : Record A) (synced others read : List (Record A))
      → record_text before one.stamp one.edit ≡ record_text before first.stamp first.edit
      → record_seal before one.stamp one.edit ≡ record_seal before first.stamp first.edit
      → IsKeptOf (record_seal before first.stamp first.edit) synced others read → IsKeptOf before (first ∷ synced) others (one ∷ read)
  of_synced before first one synced others read same seal kept = record {
    all = omega (arith, kept.all);
    few = omega (arith, kept.few);
    lines = ap (λ t. t ++ records_text (record_seal before one.stamp one.edit) read) same
        ∙ ap (λ t. record_text before first.stamp first.edit ++ t) (ap (λ s. records_text s read) seal ∙ kept.lines);
  }

  of_others : (before : List ℕ) (first one : Record A) (others read : List (Record A))
      → record_text before one.stamp one.edit ≡ record_text before first.stamp first.edit
      → record_seal before one.stamp one.edit ≡ record_seal before first.stamp first.edit
      → IsKeptOf (record_seal before first.stamp first.edit) [] others read → IsKeptOf before [] (first ∷ others) (one ∷ read)
  of_others before first one others read same seal kept = record {
    all = omega arith;
    few = omega (arith, kept.few);
    lines = ap (λ t. t ++ records_text (record_seal before one.stamp one.edit) read) same
        ∙ ap (λ t. record_text before first.stamp first.edit ++ t) (ap (λ s. records_text s read) seal ∙ kept.lines);
  }

  -- what is read is what was written, as far as it goes, and all of what was synchronised
  kept_of : (read synced others : List (Record A)) (before left torn after : List ℕ) (number place most : ℕ)
      → AreTwoLines before (synced ++ others) → AreTwoLines before read → left ≡ records_text before read ++ torn
      → left ≡ records_text before synced ++ after → AreWrittenOrZero (records_text (last_seal before synced) others) after
      → IsTail number place most torn → IsKeptOf before synced others read
  kept_of [] [] others before left torn after number place most written lines is was may tail = record {
    all = omega arith;
    few = omega arith;
    lines = refl;
  }
  kept_of [] (first ∷ synced) others before left torn after number place most written lines is was may tail =
      let own = record_text before first.stamp first.edit in
      let more = records_text (record_seal before first.stamp first.edit) synced in
      absurd (no_record number place most torn own (more ++ after) tail written.0 (sym is ∙ was ∙ append_assoc own more after))
  kept_of (one ∷ read) (first ∷ synced) others before left torn after number place most written lines is was may tail =
      let own = record_text before one.stamp one.edit in
      let other = record_text before first.stamp first.edit in
      let next = record_seal before first.stamp first.edit in
      let mid = record_seal before one.stamp one.edit in
      let cut = two_cut own other (records_text mid read ++ torn) (records_text next synced ++ after) lines.0 written.0
      (sym (append_assoc own (records_text mid read) torn) ∙ sym is ∙ was ∙ append_assoc other (records_text next synced) after) in
      let seal : mid ≡ next = same_seal before before one first lines.0 written.0 cut.0 in
      of_synced before first one synced others read cut.0 seal
      (kept_of read synced others next (records_text next synced ++ after) torn after number place most written.1
      (subst (λ s. AreTwoLines s read) seal lines.1) (sym cut.1 ∙ ap (λ s. records_text s read ++ torn) seal) refl may tail)
  kept_of (one ∷ read) [] [] before left torn after number place most written lines is was may tail =
      let own = record_text before one.stamp one.edit in
      let mid = record_seal before one.stamp one.edit in
      let all : after ≡ own ++ (records_text mid read ++ torn) = sym was ∙ is ∙ append_assoc own (records_text mid read) torn in
      let found = as_written own (records_text mid read ++ torn) [] (two_nonzero own lines.0)
      (subst (λ t. AreWrittenOrZero [] t) all may) in
      let none : 0 ≡ length (own ++ found.0) = ap length found.1 in
      let some : own ≡ (stamp_text one.stamp ++ mid) ++ 10 ∷ (edit_text one.edit ++ 10 ∷ []) = parted before one in
      absurd (omega (
        arith,
        none,
        length-append own found.0,
        ap length some,
        length-append (stamp_text one.stamp ++ mid) (10 ∷ (edit_text one.edit ++ 10 ∷ [])),
      ))
  kept_of (one ∷ read) [] (first ∷ others) before left torn after number place most written lines is was may tail =
      let own = record_text before one.stamp one.edit in
      let other = record_text before first.stamp first.edit in
      let next = record_seal before first.stamp first.edit in
      let mid = record_seal before one.stamp one.edit in
      let rest = records_text mid read ++ torn in
      let all : after ≡ own ++ rest = sym was ∙ is ∙ append_assoc own (records_text mid read) torn in
      let found = as_written own rest (other ++ records_text next others) (two_nonzero own lines.0)
      (subst (λ t. AreWrittenOrZero (other ++ records_text next others) t) all may) in
      let cut = two_cut other own (records_text next others) found.0 written.0 lines.0 found.1 in
      let seal : mid ≡ next = same_seal before before one first lines.0 written.0 (sym cut.0) in
      let left_of : AreWrittenOrZero (records_text next others) rest = subst (λ w. AreWrittenOrZero w rest) (sym cut.1) found.2 in
      of_others before first one others read (sym cut.0) seal
      (kept_of read [] others next rest torn rest number place most written.1 (subst (λ s. AreTwoLines s read) seal lines.1)
      (ap (λ s. records_text s read ++ torn) seal) refl left_of tail)

  -- so a start loses nothing
  pub loses_nothing : (layer left : List ℕ) (synced others read : List (Record A)) (seal torn : List ℕ) → AreWritten layer synced others
      → IsCutOf (header_line layer ++ records_text layer synced) (records_text (last_seal layer synced) others) left
      → IsJournal layer left read seal torn false → IsKeptOf layer synced others read
  loses_nothing layer left synced others read seal torn written cut journal =
      let head = header_line layer in
      let whole = journal.is_read in
      let is : left ≡ head ++ (records_text layer read ++ torn) =
      whole.is_read.is_text ∙ append_assoc head (records_text layer read) torn in
      let was : left ≡ head ++ (records_text layer synced ++ cut.after) =
      cut.is_text ∙ append_assoc head (records_text layer synced) cut.after in
      let same : records_text layer read ++ torn ≡ records_text layer synced ++ cut.after =
      (same_cut head head _ _ (sym is ∙ was) refl).1 in
      kept_of read synced others layer (records_text layer read ++ torn) torn cut.after (1 + length read) _ (longest layer read)
      written.in_lines whole.in_lines refl same cut.is_left journal.is_tail
