-- Files of clerks' edits, read one after the other.
use Rattle.std.proofs.Common.{◌≡◌, ◌⊎◌, inl, inr, ℕ, ◌+◌, List, [], ◌∷◌, ◌++◌, sym, ◌∙◌, subst}
use Rattle.std.proofs.Common.{append_assoc, append-nil}
use Rattle.ring_edits.specs.declared.edit.Edit.{Edit}
use Rattle.line_files.specs.ClerkFile.{IsClerkFile, IsFirstBadLine, BeginsWithEdit}
use Rattle.clerk_runs.specs.declared.files.FilesFault.{FilesFault}
use Rattle.clerk_runs.specs.declared.files.FilesFault.TheVariants.{BadLine, NoMemory}
use Rattle.clerk_runs.specs.ClerkFiles.{AreClerkFiles, IsFirstBadFrom, IsFirstBadOfAll, AskForMemory}

-- the files before these are read, and have no bad line
pub record HaveRead {A : Type 0} (all : List (List ℕ)) (first : ℕ) (left : List (List ℕ))
    (clerks : List (List (ℕ × Edit A))) : Type 0 where
  pub adds : (more : List (List (ℕ × Edit A))) → AreClerkFiles left more → AreClerkFiles all (clerks ++ more)
  pub is_fault : (clerk line : ℕ) → IsFirstBadFrom first left clerk line → IsFirstBadOfAll all clerk line
  pub is_here : (clerk line : ℕ) → IsFirstBadOfAll all clerk line → IsFirstBadFrom first left clerk line
  pub asks : AskForMemory left → AskForMemory all

-- none is read
pub none_read : {A : Type 0} (all : List (List ℕ)) → HaveRead {A = A} all 1 all []
none_read all = record {
  adds = λ more m. m;
  is_fault = λ clerk line h. h;
  is_here = λ clerk line h. h;
  asks = λ h. h;
}

-- one file more
pub more_read : {A : Type 0} (all : List (List ℕ)) (first : ℕ) (file : List ℕ) (left : List (List ℕ))
    (clerks : List (List (ℕ × Edit A)))
    (edits : List (ℕ × Edit A)) → HaveRead all first (file ∷ left) clerks → IsClerkFile file edits
    → ((line : ℕ) → ¬ IsFirstBadLine file line) → HaveRead all (first + 1) left (clerks ++ edits ∷ [])
more_read all first file left clerks edits h is good = record {
  adds = λ more m. subst (AreClerkFiles all) (sym (append_assoc clerks (edits ∷ []) more)) (h.adds (edits ∷ more) (is, m));
  is_fault = λ clerk line k. h.is_fault clerk line (inr (good, k));
  is_here = λ clerk line k. elim (h.is_here clerk line k) [ inl l ↦ absurd (good line l.1) | inr l ↦ l.1 ];
  asks = λ m. h.asks (inr good);
}

-- memory is asked for by the next file
pub next_asks : {A : Type 0} (all : List (List ℕ)) (first : ℕ) (file : List ℕ) (left : List (List ℕ))
    (clerks : List (List (ℕ × Edit A))) → HaveRead all first (file ∷ left) clerks
    → BeginsWithEdit file ⊎ ((line : ℕ) → ¬ IsFirstBadLine file line) → AskForMemory all
next_asks all first file left clerks h k = h.asks k

-- what is told of the next file
abbrev pub IsTold : ℕ → List ℕ → FilesFault → Type 0
IsTold clerk file fault = ((line : ℕ) × IsFirstBadLine file line × (fault ≡ BadLine clerk line)) ⊎ (fault ≡ NoMemory)

same_clerk : (a b m n : ℕ) → BadLine a m ≡ BadLine b n → a ≡ b
same_clerk a b m n is = cc is

same_line : (a b m n : ℕ) → BadLine a m ≡ BadLine b n → m ≡ n
same_line a b m n is = cc is

-- where the next file has a bad line, that is the fault
pub is_told : {A : Type 0} (all : List (List ℕ)) (first : ℕ) (file : List ℕ) (left : List (List ℕ))
    (clerks : List (List (ℕ × Edit A)))
    (e : FilesFault) → HaveRead all first (file ∷ left) clerks → IsTold first file e
    → (clerk line : ℕ) → e ≡ BadLine clerk line → IsFirstBadOfAll all clerk line
is_told all first file left clerks e h (inl k) clerk line is =
    let same : BadLine first k.0 ≡ BadLine clerk line = sym k.2 ∙ is in
    let here : IsFirstBadLine file line = subst (IsFirstBadLine file) (same_line first clerk k.0 line same) k.1 in
    h.is_fault clerk line (inl (sym (same_clerk first clerk k.0 line same), here))
is_told all first file left clerks e h (inr k) clerk line is = absurd (cc (k, is))

-- and it is the fault that is due
pub due_is_told : {A : Type 0} (all : List (List ℕ)) (first : ℕ) (file : List ℕ) (left : List (List ℕ))
    (clerks : List (List (ℕ × Edit A)))
    (e : FilesFault) → HaveRead all first (file ∷ left) clerks → IsTold first file e
    → ((line : ℕ) → IsFirstBadLine file line → (e ≡ BadLine first line) ⊎ (e ≡ NoMemory))
    → (clerk line : ℕ) → IsFirstBadOfAll all clerk line → (e ≡ BadLine clerk line) ⊎ (e ≡ NoMemory)
due_is_told all first file left clerks e h told refuses clerk line k = elim (h.is_here clerk line k) [
  | inl l ↦ subst (λ other. (e ≡ BadLine other line) ⊎ (e ≡ NoMemory)) (sym l.0) (refuses line l.1)
  | inr l ↦ elim told [ inl m ↦ absurd (l.0 m.0 m.1) | inr m ↦ inr m ]
]

-- all files are read
pub all_read : {A : Type 0} (all : List (List ℕ)) (first : ℕ) (clerks : List (List (ℕ × Edit A))) → HaveRead all first [] clerks
    → AreClerkFiles all clerks
all_read all first clerks h = subst (AreClerkFiles all) (append-nil clerks) (h.adds [] tt)

-- and none has a bad line
pub none_bad : {A : Type 0} (all : List (List ℕ)) (first : ℕ) (clerks : List (List (ℕ × Edit A))) → HaveRead all first [] clerks
    → (clerk line : ℕ) → ¬ IsFirstBadOfAll all clerk line
none_bad all first clerks h clerk line k = h.is_here clerk line k
