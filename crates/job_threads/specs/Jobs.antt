-- Jobs that are done in threads and handed back, and which of them had a thread of their own (this product's own).
use Rattle.std.specs.Prelude.{◌≡◌, ◌⊎◌, ℕ, ◌≤◌, Bool, true, false, List, [], ◌∷◌, Option, MatchOption}
use Rattle.std.specs.List.{AllZip}

-- each job had a thread of its own
abbrev pub HadThreads : {J : Type 0} → List J → List Bool → Type 0
HadThreads jobs threads = AllZip (λ job had. had ≡ true) jobs threads

-- a job that had none has this rank
abbrev pub HasRefused : {J : Type 0} → (J → ℕ) → List J → List Bool → ℕ → Type 0
HasRefused rank_of [] threads rank = ⊥
HasRefused rank_of (job ∷ jobs) [] rank = ⊥
HasRefused rank_of (job ∷ jobs) (had ∷ threads) rank =
    ((had ≡ false) × (rank_of job ≡ rank)) ⊎ HasRefused rank_of jobs threads rank

-- of the jobs that had none one has this rank, and none a lesser
pub record IsLeastRank {J : Type 0} (rank_of : J → ℕ) (jobs : List J) (threads : List Bool) (rank : ℕ) : Type 0 where
  pub has_rank : HasRefused rank_of jobs threads rank
  pub is_least : AllZip (λ job had. had ≡ false → rank ≤ rank_of job) jobs threads

-- the least rank of the jobs that had none, where there is one
abbrev pub IsLeastRefused : {J : Type 0} → (J → ℕ) → List J → List Bool → Option ℕ → Type 0
IsLeastRefused rank_of jobs threads refused =
    MatchOption refused (HadThreads jobs threads) (IsLeastRank rank_of jobs threads)
