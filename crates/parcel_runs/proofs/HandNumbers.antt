-- The hands of a round have numbers below how many they are.
use Rattle.std.proofs.Common.{◌≡◌, inl, inr, sym, subst, arith, ℕ, zero, suc, ◌<◌, ◌≤◌, Bool, List, [], ◌∷◌}
use Rattle.std.specs.List.{AllByRecursion, AllZip}
use Rattle.job_threads.specs.Jobs.{HasRefused}
use Rattle.overlay_work.specs.declared.close.CloseFault.{CloseFault}
use Rattle.overlay_work.specs.declared.close.CloseFault.TheVariants.{NoThread}
use Rattle.overlay_work.specs.Rounds.{Task, Progress, fresh, fresh_hands, HasGoneOn}
use Rattle.overlay_work.specs.Faults.{IsRunFault}
use Rattle.overlay_work.proofs.ZonesFound.{all_snoc}

-- each has a number below this one
abbrev pub AreNumberedBelow : ℕ → List Progress → Type 0
AreNumberedBelow most hands = AllByRecursion (λ hand. hand.number < most) hands

pub fresh_below : (task : Task) (n most : ℕ) → n ≤ most → AreNumberedBelow most (fresh_hands task n)
fresh_below task zero most few = tt
fresh_below task (suc n) most few =
    all_snoc (λ hand. hand.number < most) (fresh_hands task n) (fresh task n) (fresh_below task n most (omega (arith, few)))
    (omega (arith, few))

-- what goes on keeps its number
still_below : (most : ℕ) (old new : List Progress) → AreNumberedBelow most old → AllZip HasGoneOn old new → AreNumberedBelow most new
still_below most [] [] below on = tt
still_below most [] (hand ∷ new) below on = absurd on
still_below most (was ∷ old) [] below on = absurd on
still_below most (was ∷ old) (hand ∷ new) below on =
    (subst (λ n. n < most) (sym on.0.same_number) below.0, still_below most old new below.1 on.1)

-- a hand that had no thread of its own is one of them
refused_below : (most number : ℕ) (hands : List Progress) (threads : List Bool) → AreNumberedBelow most hands
    → HasRefused (λ hand. hand.number) hands threads number → number < most
refused_below most number [] threads below is = absurd is
refused_below most number (hand ∷ hands) [] below is = absurd is
refused_below most number (hand ∷ hands) (had ∷ threads) below (inl here) = subst (λ n. n < most) here.1 below.0
refused_below most number (hand ∷ hands) (had ∷ threads) below (inr more) = refused_below most number hands threads below.1 more

pub thread_of_hand : (task : Task) (old new : List Progress) (threads : List Bool) (fault : CloseFault) (most number : ℕ)
    → AreNumberedBelow most old → AllZip HasGoneOn old new → IsRunFault task old new threads fault → fault ≡ NoThread number
    → number < most
thread_of_hand task old new threads fault most number below on is same =
    let told : IsRunFault task old new threads (NoThread number) = subst (IsRunFault task old new threads) same is in
    refused_below most number new threads (still_below most old new below on) told.has_rank
