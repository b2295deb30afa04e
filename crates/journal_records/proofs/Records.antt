-- Records of a journal, one after the other.
use Rattle.std.proofs.Common.{◌≡◌, refl, sym, ap, ◌∙◌, ℕ, ◌+◌, List, [], ◌∷◌, ◌++◌, length, arith}
use Rattle.std.proofs.Common.{append_assoc, append-nil, subst, codes, max, Bool, true, false}
use Rattle.journal_records.specs.declared.record.Record.{Record}
use Rattle.journal_records.specs.Journals.{header_line, record_text, record_seal, records_text, last_seal, AreNumbered}
use Rattle.journal_records.specs.Journals.{IsReadSoFar, IsReadWhole, IsRecord, AreTwoLines, longest, ended}
use Rattle.journal_records.specs.Tails.{IsTwoLines}

module _ {A : Type 0} where
  -- one more record's lines
  text_more : (before : List ℕ) (records : List (Record A)) (last : Record A)
      → records_text before (records ++ last ∷ [])
      ≡ records_text before records ++ record_text (last_seal before records) last.stamp last.edit
  text_more before [] last = append-nil (record_text before last.stamp last.edit)
  text_more before (first ∷ records) last =
      let mid = record_seal before first.stamp first.edit in
      ap (λ t. record_text before first.stamp first.edit ++ t) (text_more mid records last)
      ∙ sym (append_assoc (record_text before first.stamp first.edit) (records_text mid records)
      (record_text (last_seal mid records) last.stamp last.edit))

  -- its digest is the last
  seal_more : (before : List ℕ) (records : List (Record A)) (last : Record A)
      → last_seal before (records ++ last ∷ []) ≡ record_seal (last_seal before records) last.stamp last.edit
  seal_more before [] last = refl
  seal_more before (first ∷ records) last = seal_more (record_seal before first.stamp first.edit) records last

  -- and its number the next
  numbered_more : (n : ℕ) (records : List (Record A)) (last : Record A) → AreNumbered n records
      → last.stamp.number ≡ n + length records → AreNumbered n (records ++ last ∷ [])
  numbered_more n [] last are is = (omega (arith, is), tt)
  numbered_more n (first ∷ records) last are is = (are.0, numbered_more (n + 1) records last are.1 (omega (arith, is)))

  -- a journal and one more record
  pub one_more : (layer text : List ℕ) (records : List (Record A)) (seal rest : List ℕ) (number : ℕ) (last : Record A)
      (next behind : List ℕ) → IsReadSoFar layer text records seal rest → IsRecord seal number rest last next behind
      → number ≡ 1 + length records → IsReadSoFar layer text (records ++ last ∷ []) next behind
  one_more layer text records seal rest number last next behind journal is count =
      let front = header_line layer in
      let before = records_text layer records in
      let own = record_text seal last.stamp last.edit in
      let same = journal.is_seal in
      let lines : (before ++ own) ≡ records_text layer (records ++ last ∷ []) =
      ap (λ s. before ++ record_text s last.stamp last.edit) same ∙ sym (text_more layer records last) in
      record {
        is_text = journal.is_text ∙ ap (λ t. (front ++ before) ++ t) is.is_text
            ∙ sym (append_assoc (front ++ before) own behind)
            ∙ ap (λ t. t ++ behind) (append_assoc front before own)
            ∙ ap (λ t. (front ++ t) ++ behind) lines;
        is_seal = is.is_seal ∙ ap (λ s. record_seal s last.stamp last.edit) same ∙ sym (seal_more layer records last);
        are_numbered = numbered_more 1 records last journal.are_numbered (is.is_number ∙ count);
      }

  -- each of them two lines
  lines_more : (before : List ℕ) (records : List (Record A)) (last : Record A) → AreTwoLines before records
      → IsTwoLines (record_text (last_seal before records) last.stamp last.edit) → AreTwoLines before (records ++ last ∷ [])
  lines_more before [] last are is = (is, tt)
  lines_more before (first ∷ records) last are is =
      (are.0, lines_more (record_seal before first.stamp first.edit) records last are.1 is)

  -- the longest
  pub longest_more : (before seal : List ℕ) (records : List (Record A)) (last : Record A) (most length_of : ℕ)
      → most ≡ longest before records → seal ≡ last_seal before records
      → length_of ≡ length (record_text seal last.stamp last.edit) → max most length_of ≡ longest before (records ++ last ∷ [])
  longest_more before seal [] last most length_of is same count = rw (sym same) (omega (arith, is, count))
  longest_more before seal (first ∷ records) last most length_of is same count =
      let mid = record_seal before first.stamp first.edit in
      let own = length (record_text before first.stamp first.edit) in
      let rest = longest_more mid seal records last (longest mid records) length_of refl same count in
      omega (arith, is, rest)

  -- a text with more at its end
  with_end : (layer text : List ℕ) (records : List (Record A)) (seal rest : List ℕ) (lacks : Bool)
      → IsReadSoFar layer text records seal rest → IsReadSoFar layer (ended lacks text) records seal (ended lacks rest)
  with_end layer text records seal rest false read = read
  with_end layer text records seal rest true read = record {
    is_text = ap (λ t. t ++ codes "\n") read.is_text
        ∙ append_assoc (header_line layer ++ records_text layer records) rest (codes "\n");
    is_seal = read.is_seal;
    are_numbered = read.are_numbered;
  }

  -- a journal and one more record, which may lack its end
  pub whole_more : (layer text : List ℕ) (records : List (Record A)) (seal rest : List ℕ) (number : ℕ) (last : Record A)
      (next behind : List ℕ) (lacks : Bool) → IsReadWhole layer text records seal rest
      → IsRecord seal number (ended lacks rest) last next behind → number ≡ 1 + length records
      → IsReadWhole layer (ended lacks text) (records ++ last ∷ []) next behind
  whole_more layer text records seal rest number last next behind lacks whole is count = record {
    is_read = one_more layer (ended lacks text) records seal (ended lacks rest) number last next behind
        (with_end layer text records seal rest lacks whole.is_read) is count;
    in_lines = lines_more layer records last whole.in_lines
        (subst (λ s. IsTwoLines (record_text s last.stamp last.edit)) whole.is_read.is_seal is.in_lines);
  }

  -- a journal's text begins with its header
  pub has_header : (layer text : List ℕ) (records : List (Record A)) (seal rest : List ℕ)
      → IsReadWhole layer text records seal rest → (more : List ℕ) × (text ≡ header_line layer ++ more)
  has_header layer text records seal rest whole =
      (records_text layer records ++ rest, whole.is_read.is_text ∙ append_assoc (header_line layer) (records_text layer records) rest)
