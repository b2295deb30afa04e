-- One job more is tried.
use Rattle.std.proofs.Common.{◌≡◌, ◌⊎◌, inl, inr, refl, ◌∙◌, sym, ap, subst, arith, ℕ, ◌≤◌, Bool, true, false}
use Rattle.std.proofs.Common.{true≢false, List, [], ◌∷◌, ◌++◌, append_assoc, append-nil, map}
use Rattle.std.specs.List.{AllZip}
use Rattle.std.proofs.lemmas.List.{map-append}
use Rattle.std.proofs.lemmas.Slice.Zip.{all_zipped_more}
use Rattle.std.specs.Prelude.{Option, Some, None, IfSome, MatchOption, ⊤, Result, Ok, Err}
use Rattle.job_threads.specs.Jobs.{HadThreads, HasRefused, IsLeastRank, IsLeastRefused}
use Rattle.job_threads.specs.own.Attempts.{Attempt, WasTried, IsFinished, IsTriedBehind, threads_of}

-- ---- which had a thread of their own
-- they are as many as the jobs
abbrev pub AreTried : {J : Type 0} → (J → J → Type 0) → List J → List (Attempt J) → Type 0
AreTried stays jobs tried = AllZip (λ job attempt. WasTried stays job attempt.job) jobs tried

-- a fact on each job and what became of it is one on the job and whether it had a thread
over_threads : {J : Type 0} (stays : J → J → Type 0) (P : J → Bool → Type 0) (jobs : List J) (tried : List (Attempt J))
    (job : J) (had : Bool) → AreTried stays jobs tried → AllZip P jobs (threads_of tried) → P job had
    → AllZip P (jobs ++ job ∷ []) (threads_of tried ++ had ∷ [])
over_threads stays P jobs tried job had each are is = all_zipped_more P jobs (threads_of tried) job had are is

pub threads_of_more : {J : Type 0} (tried : List (Attempt J)) (more : Attempt J)
    → threads_of (tried ++ more ∷ []) ≡ threads_of tried ++ more.had_thread ∷ []
threads_of_more [] more = refl
threads_of_more (attempt ∷ tried) more = ap (λ l. attempt.had_thread ∷ l) (threads_of_more tried more)

-- a rank of one in front is one of all
refused_in_front : {J : Type 0} (rank_of : J → ℕ) (jobs : List J) (threads : List Bool) (job : J) (had : Bool) (rank : ℕ)
    → HasRefused rank_of jobs threads rank → HasRefused rank_of (jobs ++ job ∷ []) (threads ++ had ∷ []) rank
refused_in_front rank_of [] threads job had rank is = absurd is
refused_in_front rank_of (j ∷ jobs) [] job had rank is = absurd is
refused_in_front rank_of (j ∷ jobs) (h ∷ threads) job had rank (inl here) = inl here
refused_in_front rank_of (j ∷ jobs) (h ∷ threads) job had rank (inr behind) =
    inr (refused_in_front rank_of jobs threads job had rank behind)

-- the last one's is one of all
refused_last : {J : Type 0} (stays : J → J → Type 0) (rank_of : J → ℕ) (jobs : List J) (tried : List (Attempt J)) (job : J)
    (had : Bool) (rank : ℕ) → AreTried stays jobs tried → had ≡ false → rank_of job ≡ rank
    → HasRefused rank_of (jobs ++ job ∷ []) (threads_of tried ++ had ∷ []) rank
refused_last stays rank_of [] [] job had rank each none has = inl (none, has)
refused_last stays rank_of [] (t ∷ tried) job had rank each none has = absurd each
refused_last stays rank_of (j ∷ jobs) [] job had rank each none has = absurd each
refused_last stays rank_of (j ∷ jobs) (t ∷ tried) job had rank each none has =
    inr (refused_last stays rank_of jobs tried job had rank each.1 none has)

-- a lesser number is below all that a greater one is below
below_all : {J : Type 0} (rank_of : J → ℕ) (jobs : List J) (threads : List Bool) (rank least : ℕ) → least ≤ rank
    → AllZip (λ job had. had ≡ false → rank ≤ rank_of job) jobs threads
    → AllZip (λ job had. had ≡ false → least ≤ rank_of job) jobs threads
below_all rank_of [] [] rank least less are = tt
below_all rank_of [] (h ∷ threads) rank least less are = absurd are
below_all rank_of (j ∷ jobs) [] rank least less are = absurd are
below_all rank_of (j ∷ jobs) (h ∷ threads) rank least less are =
    ((λ none. let here = are.0 none in omega (arith, less, here)), below_all rank_of jobs threads rank least less are.1)

-- where each had a thread, any number is
below_none : {J : Type 0} (rank_of : J → ℕ) (jobs : List J) (threads : List Bool) (least : ℕ) → HadThreads jobs threads
    → AllZip (λ job had. had ≡ false → least ≤ rank_of job) jobs threads
below_none rank_of [] [] least had = tt
below_none rank_of [] (h ∷ threads) least had = absurd had
below_none rank_of (j ∷ jobs) [] least had = absurd had
below_none rank_of (j ∷ jobs) (h ∷ threads) least had =
    ((λ none. absurd (true≢false (sym had.0 ∙ none))), below_none rank_of jobs threads least had.1)

-- ---- one job more
-- one that had a thread of its own changes nothing of what is told
pub least_as_before : {J : Type 0} (stays : J → J → Type 0) (rank_of : J → ℕ) (jobs : List J) (tried : List (Attempt J)) (job : J)
    (had : Bool) (refused : Option ℕ) → AreTried stays jobs tried → had ≡ true → IsLeastRefused rank_of jobs (threads_of tried) refused
    → IsLeastRefused rank_of (jobs ++ job ∷ []) (threads_of tried ++ had ∷ []) refused
least_as_before stays rank_of jobs tried job had None each is least =
    over_threads stays (λ job had. had ≡ true) jobs tried job had each least is
least_as_before stays rank_of jobs tried job had (Some rank) each is least = record {
  has_rank = refused_in_front rank_of jobs (threads_of tried) job had rank least.has_rank;
  is_least = over_threads stays (λ job had. had ≡ false → rank ≤ rank_of job) jobs tried job had each least.is_least
      (λ none. absurd (true≢false (sym is ∙ none)));
}

-- of one that had none, the lesser of its rank and what is told
pub lesser_rank : {J : Type 0} (stays : J → J → Type 0) (rank_of : J → ℕ) (jobs : List J) (tried : List (Attempt J)) (job : J)
    (had : Bool) (refused : Option ℕ) (rank least : ℕ) → AreTried stays jobs tried → had ≡ false
    → rank ≡ rank_of job → (least ≡ rank) ⊎ (refused ≡ Some least) → least ≤ rank → IfSome refused (λ told. least ≤ told)
    → IsLeastRefused rank_of jobs (threads_of tried) refused
    → IsLeastRank rank_of (jobs ++ job ∷ []) (threads_of tried ++ had ∷ []) least
lesser_rank stays rank_of jobs tried job had None rank least each none is (inl e) bound other front = record {
  has_rank = refused_last stays rank_of jobs tried job had least each none (sym (e ∙ is));
  is_least = over_threads stays (λ job had. had ≡ false → least ≤ rank_of job) jobs tried job had each
      (below_none rank_of jobs (threads_of tried) least front) (λ _. omega (arith, bound, is));
}
lesser_rank stays rank_of jobs tried job had None rank least each none is (inr e) bound other front =
    absurd (subst (λ (o : Option ℕ). MatchOption o ⊤ (λ _. ⊥)) e tt)
lesser_rank stays rank_of jobs tried job had (Some told) rank least each none is (inl e) bound other front = record {
  has_rank = refused_last stays rank_of jobs tried job had least each none (sym (e ∙ is));
  is_least = over_threads stays (λ job had. had ≡ false → least ≤ rank_of job) jobs tried job had each
      (below_all rank_of jobs (threads_of tried) told least other front.is_least) (λ _. omega (arith, bound, is));
}
lesser_rank stays rank_of jobs tried job had (Some told) rank least each none is (inr e) bound other front = record {
  has_rank = refused_in_front rank_of jobs (threads_of tried) job had least
      (subst (IsLeastRefused rank_of jobs (threads_of tried)) e front).has_rank;
  is_least = over_threads stays (λ job had. had ≡ false → least ≤ rank_of job) jobs tried job had each
      (below_all rank_of jobs (threads_of tried) told least other front.is_least) (λ _. omega (arith, bound, is));
}

pub one_more_behind : {J : Type 0} (stays : J → J → Type 0) (rank_of : J → ℕ) (jobs others : List J)
    (old now new : List (Attempt J)) (job : J) (tried : Attempt J) (told least : Option ℕ)
    → jobs ≡ others ++ job ∷ []
    → (behind : IsTriedBehind stays rank_of others old now told) → new ≡ now ++ tried ∷ [] → WasTried stays job tried.job
    → IsLeastRefused rank_of (others ++ job ∷ []) (threads_of behind.tried ++ tried.had_thread ∷ []) least
    → IsTriedBehind stays rank_of jobs old new least
one_more_behind stays rank_of jobs others old now new job tried told least whole behind more was is = record {
  tried = behind.tried ++ tried ∷ [];
  are_all = more ∙ ap (λ l. l ++ tried ∷ []) behind.are_all ∙ append_assoc old behind.tried (tried ∷ []);
  each = subst (λ l. AreTried stays l (behind.tried ++ tried ∷ [])) (sym whole)
      (all_zipped_more (λ job attempt. WasTried stays job attempt.job) others behind.tried job tried behind.each was);
  least = subst (λ l. IsLeastRefused rank_of l (threads_of (behind.tried ++ tried ∷ [])) least) (sym whole)
      (subst (λ l. IsLeastRefused rank_of (others ++ job ∷ []) l least) (sym (threads_of_more behind.tried tried)) is);
}

pub none_behind : {J : Type 0} (stays : J → J → Type 0) (rank_of : J → ℕ) (jobs : List J) (old : List (Attempt J)) → jobs ≡ []
    → IsTriedBehind stays rank_of jobs old old None
none_behind stays rank_of jobs old none = record {
  tried = [];
  are_all = sym (append-nil old);
  each = subst (λ l. AreTried stays l []) (sym none) tt;
  least = subst (λ l. HadThreads l []) (sym none) tt;
}

-- ---- tried, and then finished
pub tried_then_finished : {J : Type 0} (stays : J → J → Type 0) (jobs : List J) (tried : List (Attempt J)) (done : List J)
    → AreTried stays jobs tried → AllZip (λ attempt job. IsFinished stays attempt.job job) tried done → AllZip stays jobs done
tried_then_finished stays [] [] [] was is = tt
tried_then_finished stays [] [] (d ∷ ds) was is = absurd is
tried_then_finished stays [] (t ∷ ts) ds was is = absurd was
tried_then_finished stays (j ∷ js) [] ds was is = absurd was
tried_then_finished stays (j ∷ js) (t ∷ ts) [] was is = absurd is
tried_then_finished stays (j ∷ js) (t ∷ ts) (d ∷ ds) was is =
    (done_or_as_it_was stays j t.job d was.0 is.0, tried_then_finished stays js ts ds was.1 is.1)
  where
    done_or_as_it_was : {J : Type 0} (stays : J → J → Type 0) (job : J) (tried : Result J J) (done : J)
        → WasTried stays job tried → IsFinished stays tried done → stays job done
    done_or_as_it_was stays job (Ok now) done was is = subst (stays job) (sym is) was
    done_or_as_it_was stays job (Err refused) done was is = subst (λ job. stays job done) was is
