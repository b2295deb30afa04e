-- A journal and one more record.
use Rattle.std.proofs.Common.{◌≡◌, ◌⊎◌, inl, inr, refl, sym, ap, ◌∙◌, subst, ℕ, ◌+◌, List, [], ◌∷◌, ◌++◌, length, arith}
use Rattle.std.proofs.Common.{append-nil, append_assoc, Option, None, Some, IfSome, Bool, true, false, ◌-◌, codes, take}
use Rattle.std.proofs.lemmas.Bool.{false≢true}
use Rattle.std.proofs.lemmas.List.{length-append, take_all}
use Rattle.std.proofs.Math.Seq.{take-append_seam}
use Rattle.journal_records.specs.declared.record.Record.{Record}
use Rattle.journal_records.specs.Journals.{header_line, records_text, record_text, record_seal, ended, IsJournal, IsReadWhole, IsRecord}
use Rattle.journal_records.specs.Tails.{IsTwoLines}
use Rattle.journal_records.proofs.Records.{whole_more}
use Rattle.journal_writers.specs.Files.{with_more}
use Rattle.journal_writers.specs.Writers.{DraftState, IsDraft, IsKept}

-- none
pub begun : (A : Type 0) (layer : List ℕ) (bytes : Option (List ℕ)) → IfSome bytes (λ b. b ≡ [])
    → IfSome (with_more (header_line layer) bytes) (λ b. IsKept A layer b 0 layer)
begun A layer None empty = tt
begun A layer (Some bytes) empty = subst (λ b. IsKept A layer (b ++ header_line layer) 0 layer) (sym empty) (record {
  written = [];
  are_lines = record {
    is_read = record {
      is_text = sym (append-nil (header_line layer)) ∙ sym (append-nil (header_line layer ++ []));
      is_seal = refl;
      are_numbered = tt;
    };
    in_lines = tt;
  };
  count = refl;
})

-- those of a text
pub went_on : (A : Type 0) (layer text : List ℕ) (bytes : Option (List ℕ)) (records : ℕ) (seal : List ℕ)
    → IfSome bytes (λ b. b ≡ []) → IsKept A layer text records seal
    → IfSome (with_more text bytes) (λ b. IsKept A layer b records seal)
went_on A layer text None records seal empty kept = tt
went_on A layer text (Some bytes) records seal empty kept =
    subst (λ b. IsKept A layer (b ++ text) records seal) (sym empty) kept

-- what is whole of a journal's text
pub kept_of : {A : Type 0} (layer text : List ℕ) (records : List (Record A)) (seal rest : List ℕ) (lacks : Bool) (count whole torn : ℕ)
    → IsJournal layer text records seal rest lacks → count ≡ length records → torn ≡ length rest → whole ≡ length text - torn
    → IsKept A layer (ended lacks (take whole text)) count seal
kept_of layer text records seal rest true count whole torn journal so_many is_torn is =
    let none : rest ≡ [] = journal.is_ended refl in
    let all : take whole text ≡ text = take_all whole text (omega (arith, is, is_torn, ap length none)) in
    record {
      written = records;
      are_lines = subst (λ t. IsReadWhole layer (ended true t) records seal []) (sym all)
          (subst (λ r. IsReadWhole layer (text ++ codes "\n") records seal r) none journal.is_read);
      count = sym so_many;
    }
kept_of layer text records seal rest false count whole torn journal so_many is_torn is =
    let front = header_line layer ++ records_text layer records in
    let read = journal.is_read.is_read in
    let sum : length text ≡ length front + length rest = ap length read.is_text ∙ length-append front rest in
    let place : whole ≡ length front = omega (arith, is, is_torn, sum) in
    let cut : take whole text ≡ front =
    ap (λ n. take n text) place ∙ ap (λ b. take (length front) b) read.is_text ∙ take-append_seam front rest in
    record {
      written = records;
      are_lines = record {
        is_read = record {
          is_text = cut ∙ sym (append-nil front);
          is_seal = read.is_seal;
          are_numbered = read.are_numbered;
        };
        in_lines = journal.is_read.in_lines;
      };
      count = sym so_many;
    }

-- where a write has not failed
pub unless_broken : {P : Type 0} (broken : Bool) → broken ≡ false → (broken ≡ true) ⊎ P → P
unless_broken broken whole (inl h) = absurd (false≢true (sym whole ∙ h))
unless_broken broken whole (inr h) = h

module _ {A : Type 0} where
  -- and one more
  kept_more : (layer bytes : List ℕ) (records : ℕ) (seal : List ℕ) (draft : DraftState) → IsKept A layer bytes records seal
      → IsDraft A draft → IsTwoLines draft.text → draft.before ≡ seal → draft.number ≡ records + 1
      → IsKept A layer (bytes ++ draft.text) draft.number draft.seal
  kept_more layer bytes records seal draft kept is two follows next =
      let it = is.0 in
      let of = is.1 in
      let own = record_text seal it.stamp it.edit in
      let lines = records_text layer kept.written in
      let read = kept.are_lines.is_read in
      let text : draft.text ≡ own = subst (λ s. draft.text ≡ record_text s it.stamp it.edit) follows of.text in
      let last : draft.seal ≡ record_seal seal it.stamp it.edit =
      subst (λ s. draft.seal ≡ record_seal s it.stamp it.edit) follows of.seal in
      let so_far : IsReadWhole layer (bytes ++ own) kept.written seal own = record {
        is_read = record {
          is_text = ap (λ t. t ++ own) (read.is_text ∙ append-nil (header_line layer ++ lines));
          is_seal = read.is_seal;
          are_numbered = read.are_numbered;
        };
        in_lines = kept.are_lines.in_lines;
      } in
      let own_is : IsRecord seal draft.number own it (record_seal seal it.stamp it.edit) [] = record {
        is_text = sym (append-nil own);
        is_seal = refl;
        is_number = sym of.number;
        in_lines = subst IsTwoLines text two;
      } in
      let count : draft.number ≡ 1 + length kept.written = omega (arith, next, kept.count) in
      let all : IsReadWhole layer (bytes ++ own) (kept.written ++ it ∷ []) (record_seal seal it.stamp it.edit) [] =
      whole_more layer (bytes ++ own) kept.written seal own draft.number it (record_seal seal it.stamp it.edit) [] false so_far own_is
      count in
      let longer : length (kept.written ++ it ∷ []) ≡ length kept.written + 1 = length-append kept.written (it ∷ []) in
      record {
        written = kept.written ++ it ∷ [];
        are_lines = subst (λ t. IsReadWhole layer (bytes ++ t) (kept.written ++ it ∷ []) draft.seal []) (sym text)
            (subst (λ s. IsReadWhole layer (bytes ++ own) (kept.written ++ it ∷ []) s []) (sym last) all);
        count = omega (arith, count, longer);
      }

-- the same of a file that may tell its bytes
pub more : (A : Type 0) (layer : List ℕ) (bytes : Option (List ℕ)) (records : ℕ) (seal : List ℕ) (draft : DraftState)
    → IfSome bytes (λ b. IsKept A layer b records seal) → IsDraft A draft → IsTwoLines draft.text → draft.before ≡ seal
    → draft.number ≡ records + 1 → IfSome (with_more draft.text bytes) (λ b. IsKept A layer b draft.number draft.seal)
more A layer None records seal draft kept is two follows next = tt
more A layer (Some bytes) records seal draft kept is two follows next = kept_more layer bytes records seal draft kept is two follows next

-- two texts that a file takes one after the other
pub both_more : (one other : List ℕ) (bytes : Option (List ℕ)) → with_more other (with_more one bytes) ≡ with_more (one ++ other) bytes
both_more one other None = refl
both_more one other (Some bytes) = ap (λ b. Some b) (append_assoc bytes one other)
