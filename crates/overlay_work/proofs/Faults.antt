-- A round that can be closed has no fault, and no other has two.
use Rattle.std.proofs.Common.{◌≡◌, ◌⊎◌, inl, inr, ⊎_elim, refl, sym, ◌∙◌, ap, subst, arith, ℕ, ◌<◌, ◌≤◌}
use Rattle.std.proofs.Common.{Bool, List, [], ◌∷◌, length}
use Rattle.std.proofs.lemmas.Bool.{cases_eq}
use Rattle.job_threads.specs.Jobs.{HadThreads}
use Rattle.std.specs.Prelude.{Option, IsSome, None, Some, ⊤}
use Rattle.std.specs.List.{AllByRecursion}
use Rattle.overlay_work.specs.declared.close.CloseFault.{CloseFault}
use Rattle.overlay_work.specs.declared.close.CloseFault.TheVariants.{NoThread, HandsMissing, Holding, NotDone, NoMemory}
use Rattle.overlay_work.specs.Rounds.{Task, Progress, HasAllEnds, IsAtEnd}
use Rattle.overlay_work.specs.Faults.{AreAllIn, IsCloseFault, IsLeastHolding, HoldNothing, SomeHolds, IsRunFault}
use Rattle.overlay_work.specs.own.Gathered.{AreDone, HaveStopped, LeastIs}
use Rattle.overlay_work.proofs.ZonesFound.{member_of_all}
use Rattle.overlay_work.proofs.HandsIn.{nothing_held}

none_holds : (hands : List Progress) (number : ℕ) → HoldNothing hands → IsLeastHolding hands number → ⊥
none_holds hands number none is = nothing_held is.hand.holds (member_of_all (λ h. h.holds ≡ None) hands is.hand none is.is_in) is.holds

at_least : (hands : List Progress) (a b : ℕ) → IsLeastHolding hands a → IsLeastHolding hands b → a ≤ b
at_least hands a b is was =
    let least = member_of_all (λ other. IsSome other.holds → a ≤ other.number) hands was.hand is.is_least was.is_in was.holds in
    subst (λ n. a ≤ n) was.has_number least

pub none_is_a_fault : (task : Task) (hands : List Progress) (fault : CloseFault) → AreDone task hands
    → IsCloseFault task hands fault → ⊥
none_is_a_fault task hands (NoThread number) done is = is
none_is_a_fault task hands (HandsMissing made here) done is = is.0 done.all_in
none_is_a_fault task hands (Holding number) done is = none_holds hands number done.hold_nothing is.1
none_is_a_fault task hands NotDone done is = member_of_all (λ hand. HasAllEnds hand
    → ⊥) hands done.some_done.0 is.2 done.some_done.1 done.some_done.2
none_is_a_fault task hands NoMemory done is = is

pub one_close_fault : (task : Task) (hands : List Progress) (a b : CloseFault) → IsCloseFault task hands a
    → IsCloseFault task hands b → a ≡ b
one_close_fault task hands (NoThread number) b is was = absurd is
one_close_fault task hands a (NoThread number) is was = absurd was
one_close_fault task hands NoMemory b is was = absurd is
one_close_fault task hands a NoMemory is was = absurd was
one_close_fault task hands (HandsMissing made here) (HandsMissing other there) is was =
    λ i. HandsMissing ((is.1 ∙ sym was.1) i) ((is.2 ∙ sym was.2) i)
one_close_fault task hands (HandsMissing made here) (Holding number) is was = absurd (is.0 was.0)
one_close_fault task hands (HandsMissing made here) NotDone is was = absurd (is.0 was.0)
one_close_fault task hands (Holding number) (HandsMissing made here) is was = absurd (was.0 is.0)
one_close_fault task hands (Holding number) (Holding other) is was =
    let less = at_least hands number other is.1 was.1 in
    let more = at_least hands other number was.1 is.1 in
    ap Holding (omega (arith, less, more))
one_close_fault task hands (Holding number) NotDone is was = absurd (none_holds hands number was.1 is.1)
one_close_fault task hands NotDone (HandsMissing made here) is was = absurd (was.0 is.0)
one_close_fault task hands NotDone (Holding number) is was = absurd (none_holds hands number is.1 was.1)
one_close_fault task hands NotDone NotDone is was = refl

-- where the hands that stopped hold nothing, hands missing are all that is left to keep the round open
at_ends : (hands : List Progress) → HaveStopped hands → HoldNothing hands → AllByRecursion IsAtEnd hands
at_ends [] stopped none = tt
at_ends (hand ∷ hands) stopped none = (
  ⊎_elim (λ end. end) (λ holds. absurd (nothing_held hand.holds none.0 holds)) stopped.0,
  at_ends hands stopped.1 none.1,
)

none_is_at_end : (hands : List Progress) → 0 < length hands → AllByRecursion IsAtEnd hands
    → AllByRecursion (λ hand. HasAllEnds hand → ⊥) hands → ⊥
none_is_at_end [] some ends none = omega (arith, some)
none_is_at_end (hand ∷ hands) some ends none = none.0 ends.0.all_ends

-- an answer that is want of memory is no other
abbrev IsMemory : CloseFault → Type 0
IsMemory (NoThread number) = ⊥
IsMemory (HandsMissing made here) = ⊥
IsMemory (Holding number) = ⊥
IsMemory NotDone = ⊥
IsMemory NoMemory = ⊤

-- where a round with a fault is refused by that one, and memory was wanting, all hands were there
all_in_for_want : (task : Task) (hands : List Progress) (fault : CloseFault) → fault ≡ NoMemory
    → ((other : CloseFault) → IsCloseFault task hands other → fault ≡ other) → AreAllIn task hands
all_in_for_want task hands fault wants refuses = ⊎_elim
    (λ (same : length hands ≡ length task.lists). same)
    (λ (apart : length hands ≡ length task.lists → ⊥).
    absurd (subst IsMemory (sym wants ∙ refuses (HandsMissing (length task.lists) (length hands)) (apart, refl, refl)) tt))
    (cases_eq (length hands) (length task.lists))

pub told_of_stopped : (task : Task) (old hands : List Progress) (threads : List Bool) (fault : CloseFault) → 0 < length task.lists
    → HaveStopped hands → HoldNothing hands → HadThreads hands threads
    → ((other : CloseFault) → IsCloseFault task hands other → fault ≡ other)
    → IsCloseFault task hands fault ⊎ (fault ≡ NoMemory) → IsRunFault task old hands threads fault
told_of_stopped task old hands threads fault some stopped none had refuses (inr e) =
    subst (IsRunFault task old hands threads) (sym e)
    (inr (had, inr (all_in_for_want task hands fault e refuses, at_ends hands stopped none)))
told_of_stopped task old hands threads (NoThread number) some stopped none had refuses (inl is) = absurd is
told_of_stopped task old hands threads (HandsMissing made here) some stopped none had refuses (inl is) =
    (had, is, at_ends hands stopped none)
told_of_stopped task old hands threads (Holding number) some stopped none had refuses (inl is) =
    absurd (none_holds hands number none is.1)
told_of_stopped task old hands threads NotDone some stopped none had refuses (inl is) =
    let all = is.0 in
    absurd (none_is_at_end hands (omega (arith, all, some)) (at_ends hands stopped none) is.2)
told_of_stopped task old hands threads NoMemory some stopped none had refuses (inl is) = absurd is

-- where one holds a parcel, it stopped for want of memory
pub some_holding : (least : Option ℕ) (hands : List Progress) → LeastIs least hands → IsSome least → SomeHolds hands
some_holding None hands is some = absurd (nothing_held None refl some)
some_holding (Some number) hands is some = (is.hand, is.is_in, is.holds)

-- where all hands are handed in, a thread or memory was wanted
pub wants_of_all : (old : List Progress) (threads : List Bool) (task : Task) (hands : List Progress) (fault : CloseFault)
    → AreAllIn task hands → IsRunFault task old hands threads fault
    → (fault ≡ NoMemory) ⊎ ((hand : ℕ) × (fault ≡ NoThread hand))
wants_of_all old threads task hands (NoThread number) all is = inr (number, refl)
wants_of_all old threads task hands (HandsMissing made here) all is = absurd (is.1.0 all)
wants_of_all old threads task hands (Holding number) all is = absurd is
wants_of_all old threads task hands NotDone all is = absurd is
wants_of_all old threads task hands NoMemory all is = inl refl
