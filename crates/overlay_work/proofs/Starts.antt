-- The hands of a round before they have claimed anything.
use Rattle.std.proofs.Common.{◌≡◌, ◌⊎◌, inl, inr, ⊎_elim, refl, sym, ◌∙◌, ap, arith, ℕ, zero, suc, List, []}
use Rattle.std.proofs.Common.{◌∷◌, ◌++◌, length, length-append}
use Rattle.overlay_claims.specs.Claimants.{Lists, Standing, fresh as fresh_claimant, fresh_hands as fresh_claimants}
use Rattle.overlay_work.specs.Rounds.{Task, fresh, fresh_hands, AreHandsOf}
use Rattle.overlay_work.specs.own.Kept.{started, AreFresh}
use Rattle.geo_exact.specs.declared.corner.Corner.{Corner}
use Rattle.overlay_work.specs.declared.round.RoundFault.{RoundFault}
use Rattle.overlay_work.specs.declared.round.RoundFault.TheVariants.{HandCount, OtherCity, NotASharing, NoMemory}
use Rattle.overlay_work.specs.Faults.{IsRoundFault, NeedsNoMemory}
use Rattle.overlay_work.specs.Sharing.{HasHands}
use Rattle.overlay_work.specs.own.Starting.{CanBegin}
use Rattle.overlay_work.proofs.ZonesFound.{all_snoc}
use Rattle.overlay_work.proofs.Differences.{in_place}

pub no_items : {X : Type 0} (xs : List X) → length xs ≡ 0 → xs ≡ []
no_items [] none = refl
no_items (x ∷ xs) none = absurd (omega (arith, none))

started-append : (task : Task) (xs ys : List Standing) → started task (xs ++ ys) ≡ started task xs ++ started task ys
started-append task [] ys = refl
started-append task (x ∷ xs) ys = ap (λ l. fresh task x.number ∷ l) (started-append task xs ys)

pub started_fresh : (task : Task) (lists : Lists) (n : ℕ) → started task (fresh_claimants lists n) ≡ fresh_hands task n
started_fresh task lists zero = refl
started_fresh task lists (suc n) =
    started-append task (fresh_claimants lists n) (fresh_claimant lists n ∷ [])
    ∙ ap (λ l. l ++ fresh task n ∷ []) (started_fresh task lists n)

AreFresh-append : (lists : Lists) (xs ys : List Standing) → AreFresh lists xs → AreFresh lists ys → AreFresh lists (xs ++ ys)
AreFresh-append lists [] ys a b = b
AreFresh-append lists (x ∷ xs) ys a b = (a.0, AreFresh-append lists xs ys a.1 b)

pub are_fresh : (lists : Lists) (n : ℕ) → AreFresh lists (fresh_claimants lists n)
are_fresh lists zero = tt
are_fresh lists (suc n) = AreFresh-append lists (fresh_claimants lists n) (fresh_claimant lists n ∷ []) (are_fresh lists n) (refl, tt)

pub length-fresh_claimants : (lists : Lists) (n : ℕ) → length (fresh_claimants lists n) ≡ n
length-fresh_claimants lists zero = refl
length-fresh_claimants lists (suc n) =
    let both = length-append (fresh_claimants lists n) (fresh_claimant lists n ∷ []) in
    let rest = length-fresh_claimants lists n in
    omega (arith, both, rest)

pub fresh_are_of : (task : Task) (n : ℕ) → AreHandsOf task (fresh_hands task n)
fresh_are_of task zero = tt
fresh_are_of task (suc n) = all_snoc (λ hand. hand.task ≡ task) (fresh_hands task n) (fresh task n) (fresh_are_of task n) refl

-- ---- faults
-- a round that can begin has no fault
pub no_fault : (ids : List ℕ) (city zones_city : List Corner) (lists : List (List ℕ)) (fault : RoundFault)
    → CanBegin ids city zones_city lists
    → IsRoundFault ids city zones_city lists fault → ⊥
no_fault ids city zones_city lists (HandCount count) can is = is.0 can.sharing.has_hands
no_fault ids city zones_city lists OtherCity can is = is.1 can.same_city
no_fault ids city zones_city lists (NotASharing id) can is = in_place lists ids id can.sharing.each_once can.ascending is.2.out_of_place
no_fault ids city zones_city lists NoMemory can is = is

-- and no other has two
pub one_fault : (ids : List ℕ) (city zones_city : List Corner) (lists : List (List ℕ)) (a b : RoundFault)
    → IsRoundFault ids city zones_city lists a
    → IsRoundFault ids city zones_city lists b → a ≡ b
one_fault ids city zones_city lists (HandCount count) (HandCount other) is was = ap HandCount (is.1 ∙ sym was.1)
one_fault ids city zones_city lists (HandCount count) OtherCity is was = absurd (is.0 was.0)
one_fault ids city zones_city lists (HandCount count) (NotASharing id) is was = absurd (is.0 was.0)
one_fault ids city zones_city lists OtherCity (HandCount count) is was = absurd (was.0 is.0)
one_fault ids city zones_city lists OtherCity OtherCity is was = refl
one_fault ids city zones_city lists OtherCity (NotASharing id) is was = absurd (is.1 was.1)
one_fault ids city zones_city lists (NotASharing id) (HandCount count) is was = absurd (was.0 is.0)
one_fault ids city zones_city lists (NotASharing id) OtherCity is was = absurd (was.1 is.1)
one_fault ids city zones_city lists (NotASharing id) (NotASharing other) is was =
    let below = is.2.is_least other was.2.out_of_place in
    let above = was.2.is_least id is.2.out_of_place in
    ap NotASharing (omega (arith, below, above))
one_fault ids city zones_city lists NoMemory b is was = absurd is
one_fault ids city zones_city lists a NoMemory is was = absurd was

-- so it is refused by the one that it has
pub refused : (ids : List ℕ) (city zones_city : List Corner) (lists : List (List ℕ)) (told fault : RoundFault)
    → IsRoundFault ids city zones_city lists told ⊎ (told ≡ NoMemory) → IsRoundFault ids city zones_city lists fault
    → (told ≡ fault) ⊎ (told ≡ NoMemory)
refused ids city zones_city lists told fault is has =
    ⊎_elim (λ one. inl (one_fault ids city zones_city lists told fault one has)) (λ memory. inr memory) is

-- of a round with lists enough, of one city, no reason is left that is told before any memory is asked for
pub none_early : (ids : List ℕ) (city zones_city : List Corner) (lists : List (List ℕ)) (fault : RoundFault)
    → HasHands lists → zones_city ≡ city
    → IsRoundFault ids city zones_city lists fault → NeedsNoMemory fault → ⊥
none_early ids city zones_city lists (HandCount count) few same is early = is.0 few
none_early ids city zones_city lists OtherCity few same is early = is.1 same
none_early ids city zones_city lists (NotASharing id) few same is early = early
none_early ids city zones_city lists NoMemory few same is early = early
