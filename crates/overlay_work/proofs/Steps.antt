-- A step of a hand: it takes a parcel, and does it or keeps it.
use Rattle.std.proofs.Common.{◌≡◌, inl, inr, refl, sym, ◌∙◌, ap, subst, arith, ℕ, ◌<◌, ◌+◌, List, [], ◌∷◌}
use Rattle.std.proofs.Common.{◌++◌, length}
use Rattle.std.specs.Prelude.{Some, IsSome}
use Rattle.std.proofs.lemmas.List.{length-map}
use Rattle.overlay_claims.specs.Claimants.{Lists, Standing, AreAllEnded, IsPlace, ClaimsNext, list_after, lists_from}
use Rattle.overlay_claims.proofs.Orders.{not_all_before_the_end}
use Rattle.overlay_work.specs.Rounds.{Task, Progress, ArePairsOf, AreCandidatesFor, HasParcel, HeldParcel, DoesParcel, WaitsForMemory}
use Rattle.overlay_work.specs.own.Kept.{IsTask, Takes}
use Rattle.overlay_work.proofs.HandsIn.{nothing_held}

-- ---- a claim
same_count : (task : Task) (lists : Lists) → IsTask task → lists ≡ task.claims → length task.lists ≡ length lists.lengths
same_count task lists stands same =
    let count = length-map task.lists (λ (l : List ℕ). length l) in
    let all = ap length stands.lengths in
    let here = ap (λ (l : Lists). length l.lengths) same in
    omega (arith, count, all, here)

-- what who claims for a hand shows is what the hand shows
pub claims_for_hand : (task : Task) (old new : Standing) (place : ℕ × ℕ) → old.lists ≡ task.claims → ClaimsNext old new place
    → ClaimsNext (record { lists = task.claims; number = old.number; places = old.places; ended = old.ended })
    (record { lists = task.claims; number = new.number; places = new.places; ended = new.ended }) place
claims_for_hand task old new place same claims = record {
  is_place = subst (λ (l : Lists). IsPlace l place) same claims.is_place;
  claims = claims.claims;
  before = claims.before;
  is_a_list = subst (λ (l : Lists). claims.before < length l.lengths) same claims.is_a_list;
  is_next = subst (λ (l : Lists). place.0 ≡ list_after old.number (length l.lengths) claims.before) same claims.is_next;
  ended_before = subst (λ (l : Lists). new.ended ≡ lists_from old.number (length l.lengths) claims.before) same claims.ended_before;
  more = claims.more;
  ends = claims.ends;
}

-- the list that it claims from is not found at its end
pub not_done_yet : (task : Task) (old new : Standing) (place : ℕ × ℕ) → IsTask task → old.lists ≡ task.claims
    → ClaimsNext old new place
    → AreAllEnded (length task.lists) new.ended → ⊥
not_done_yet task old new place stands same claims all =
    not_all_before_the_end old.number (length old.lists.lengths) claims.before claims.is_a_list
    (subst (AreAllEnded (length old.lists.lengths)) claims.ended_before (subst (λ n. AreAllEnded n new.ended)
    (same_count task old.lists stands same) all))

-- ---- a step
-- what was claimed stays so while it is held
still_has : (old mid new : Progress) (id : ℕ) → HasParcel old mid id → HeldParcel mid new id → HasParcel old new id
still_has old mid new id (inl held) stays = inl (record {
  held = held.held;
  same_claims = stays.same_claims ∙ held.same_claims;
  same_ends = stays.same_ends ∙ held.same_ends;
})
still_has old mid new id (inr claims) stays = inr (record {
  held_nothing = claims.held_nothing;
  place = claims.place;
  claims = record {
    is_place = claims.claims.is_place;
    claims = stays.same_claims ∙ claims.claims.claims;
    before = claims.claims.before;
    is_a_list = claims.claims.is_a_list;
    is_next = claims.claims.is_next;
    ended_before = stays.same_ends ∙ claims.claims.ended_before;
    more = claims.claims.more;
    ends = stays.same_ends ∙ claims.claims.ends;
  };
  stands_there = claims.stands_there;
})

holds_it : (mid new : Progress) (id : ℕ) → mid.holds ≡ Some id → HasParcel mid new id → HeldParcel mid new id
holds_it mid new id holds (inl held) = held
holds_it mid new id holds (inr claims) = absurd (nothing_held mid.holds claims.held_nothing (subst IsSome (sym holds) refl))

pub does_what_it_took : (old mid new : Progress) (id : ℕ) → mid.task ≡ old.task → Takes old mid id
    → DoesParcel mid new id → DoesParcel old new id
does_what_it_took old mid new id same takes does = record {
  has_parcel = still_has old mid new id takes.has_parcel (holds_it mid new id takes.holds does.has_parcel);
  did = does.did ∙ ap (λ l. l ++ id ∷ []) takes.did;
  pairs = does.pairs;
  are_pairs = subst (λ (t : Task). ArePairsOf t.rows t.zones id does.pairs) same does.are_pairs;
  kept = does.kept ∙ ap (λ l. l ++ does.pairs) takes.kept;
  candidates = does.candidates;
  are_candidates = subst (λ (t : Task). AreCandidatesFor t.rows t.zones t.city id does.candidates) same does.are_candidates;
  tests = does.tests ∙ ap (λ n. n + length does.candidates) takes.tests;
  holds_nothing = does.holds_nothing;
  is_not_done = does.is_not_done;
}

pub keeps_what_it_took : (old new : Progress) (id : ℕ) → Takes old new id → WaitsForMemory old new
keeps_what_it_took old new id takes = record {
  parcel = id;
  has_parcel = takes.has_parcel;
  holds = takes.holds;
  did = takes.did;
  kept = takes.kept;
  tests = takes.tests;
  is_not_done = takes.is_not_done;
}
