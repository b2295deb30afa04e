-- What becomes of jobs until the others are joined: each is done, or stands as it was where it was refused a thread.
use Rattle.std.specs.Prelude.{◌≡◌, ℕ, Bool, List, ◌++◌, map, Option, Result, MatchResult}
use Rattle.std.specs.List.{AllZip}
use Rattle.job_threads.specs.Jobs.{IsLeastRefused}

-- a job that is done or stands as it was, and whether a thread of its own was joined for it
pub record Attempt (J : Type 0) : Type 0 where
  pub job : Result J J
  pub had_thread : Bool

-- done by a thread, or handed back as it was
abbrev pub WasTried : {J : Type 0} → (J → J → Type 0) → J → Result J J → Type 0
WasTried stays job tried = MatchResult tried (stays job) (λ refused. refused ≡ job)

-- done before, or now
abbrev pub IsFinished : {J : Type 0} → (J → J → Type 0) → Result J J → J → Type 0
IsFinished stays tried done = MatchResult tried (λ job. done ≡ job) (λ refused. stays refused done)

-- which had a thread of their own
abbrev pub threads_of : {J : Type 0} → List (Attempt J) → List Bool
threads_of tried = map (λ attempt. attempt.had_thread) tried

-- Behind the others stands what became of the jobs, each in its place; and of those that
-- had no thread the least rank is told.
pub record IsTriedBehind {J : Type 0} (stays : J → J → Type 0) (rank_of : J → ℕ) (jobs : List J)
    (old new : List (Attempt J)) (refused : Option ℕ) : Type 0 where
  pub tried : List (Attempt J)
  pub are_all : new ≡ old ++ tried
  pub each : AllZip (λ job attempt. WasTried stays job attempt.job) jobs tried
  pub least : IsLeastRefused rank_of jobs (threads_of tried) refused
