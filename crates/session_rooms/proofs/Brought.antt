-- What a synchronisation has brought to the disk.
use Rattle.std.proofs.Common.{◌≡◌, subst, ℕ, ◌≤◌}
use Rattle.journal_writers.specs.declared.file_id.FileId.{FileId}
use Rattle.session_rooms.specs.Kept.{AreBrought, HasBrought}

module _ (brought : FileId → ℕ → Type 0) (own file : FileId) (records : ℕ) where
  -- as many, or more
  pub are_brought : (number told : ℕ) → brought file records → file ≡ own → number ≤ records → number ≡ told
      → AreBrought brought own told
  are_brought number told has is few same = (records, subst (λ f. brought f records) is has, subst (λ n. n ≤ records) same few)

  -- as many, or fewer
  pub has_brought : (number told : ℕ) → brought file records → file ≡ own → number ≡ records → number ≤ told
      → HasBrought brought own told
  has_brought number told has is same few = (records, subst (λ f. brought f records) is has, subst (λ n. n ≤ told) same few)
