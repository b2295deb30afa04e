-- What hands that are handed in show, one hand more at a time.
use Rattle.std.proofs.Common.{◌≡◌, ⊎_elim, refl, sym, ◌∙◌, ap, subst, arith, ℕ, ◌<◌, ◌≤◌, min, List, []}
use Rattle.std.proofs.Common.{◌∷◌, ◌++◌, append_assoc, append-nil, true≢false}
use Rattle.std.specs.Prelude.{Option, Some, None, IsSome}
use Rattle.std.proofs.lemmas.List.Elements.{Contains-append_left, Contains-append_right}
use Rattle.std.proofs.lemmas.Bool.{cases_lt}
use Rattle.overlay_work.specs.Rounds.{Progress}
use Rattle.overlay_work.specs.Faults.{HoldNothing, IsLeastHolding}
use Rattle.overlay_work.specs.own.Kept.{ArePairsOfAll}
use Rattle.overlay_work.specs.own.Gathered.{LeastIs, ArePairsOfHands}
use Rattle.overlay_work.proofs.ZonesFound.{all_snoc, its_own, member_of_all, all_member}

pub pairs_of_one_hand_more : (hands : List Progress) (hand : Progress) (pairs : List (ℕ × ℕ)) → ArePairsOfHands hands pairs
    → ArePairsOfAll hand.task.rows hand.task.zones hand.did hand.kept → ArePairsOfHands (hands ++ hand ∷ []) (pairs ++ hand.kept)
pairs_of_one_hand_more [] hand pairs all one = ([], ap (λ l. l ++ hand.kept) all ∙ sym (append-nil hand.kept), one, refl)
pairs_of_one_hand_more (x ∷ hands) hand pairs all one = (
  all.0 ++ hand.kept,
  ap (λ l. l ++ hand.kept) all.1 ∙ append_assoc x.kept all.0 hand.kept,
  all.2,
  pairs_of_one_hand_more hands hand all.0 all.3 one,
)

pub nothing_held : (o : Option ℕ) → o ≡ None → IsSome o → ⊥
nothing_held o e h = true≢false (sym (subst IsSome e h))

pub none_holding : (least : Option ℕ) (hands : List Progress) → LeastIs least hands → (IsSome least → ⊥) → HoldNothing hands
none_holding None hands is none = is
none_holding (Some number) hands is none = absurd (none refl)

-- the hand holds nothing
pub not_lesser : (least : Option ℕ) (hands : List Progress) (hand : Progress) → hand.holds ≡ None
    → LeastIs least hands → LeastIs least (hands ++ hand ∷ [])
not_lesser None hands hand none all = all_snoc (λ h. h.holds ≡ None) hands hand all none
not_lesser (Some number) hands hand none is = record {
  hand = is.hand;
  is_in = Contains-append_left hands (hand ∷ []) is.hand is.is_in;
  has_number = is.has_number;
  holds = is.holds;
  is_least = all_snoc (λ other. IsSome other.holds → number ≤ other.number) hands hand is.is_least
      (λ h. absurd (nothing_held hand.holds none h));
}

-- it is the first that holds a parcel
pub first_holding : (hands : List Progress) (hand : Progress) → IsSome hand.holds → HoldNothing hands
    → IsLeastHolding (hands ++ hand ∷ []) hand.number
first_holding hands hand holds none = record {
  hand = hand;
  is_in = Contains-append_right hands (hand ∷ []) hand (its_own hand);
  has_number = refl;
  holds = holds;
  is_least = all_snoc (λ other. IsSome other.holds → hand.number ≤ other.number) hands hand
      (all_member (λ other. IsSome other.holds → hand.number ≤ other.number) hands
      (λ other c h. absurd (nothing_held other.holds (member_of_all (λ o. o.holds ≡ None) hands other none c) h)))
      (λ h. omega arith);
}

-- it is another
pub lesser_holding : (hands : List Progress) (hand : Progress) (number : ℕ) → IsSome hand.holds → IsLeastHolding hands number
    → IsLeastHolding (hands ++ hand ∷ []) (min number hand.number)
lesser_holding hands hand number holds is = ⊎_elim
    (λ (less : number < hand.number).
    let same : number ≡ min number hand.number = omega (arith, less) in
    subst (IsLeastHolding (hands ++ hand ∷ [])) same (record {
      hand = is.hand;
      is_in = Contains-append_left hands (hand ∷ []) is.hand is.is_in;
      has_number = is.has_number;
      holds = is.holds;
      is_least = all_snoc (λ other. IsSome other.holds → number ≤ other.number) hands hand is.is_least (λ h. omega (arith, less));
    }))
    (λ (more : hand.number ≤ number).
    let same : hand.number ≡ min number hand.number = omega (arith, more) in
    subst (IsLeastHolding (hands ++ hand ∷ [])) same (record {
      hand = hand;
      is_in = Contains-append_right hands (hand ∷ []) hand (its_own hand);
      has_number = refl;
      holds = holds;
      is_least = all_snoc (λ other. IsSome other.holds → hand.number ≤ other.number) hands hand
          (all_member (λ other. IsSome other.holds → hand.number ≤ other.number) hands
          (λ other c h. let least = member_of_all (λ o. IsSome o.holds → number ≤ o.number) hands other is.is_least c
          h in omega (arith, least, more)))
          (λ h. omega arith);
    }))
    (cases_lt number hand.number)
