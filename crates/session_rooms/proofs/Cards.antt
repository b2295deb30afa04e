-- A card that stays as it is.
use Rattle.std.proofs.Common.{refl, append-nil, [], Option, None, Some}
use Rattle.desk_lock.specs.Offices.{CardState}
use Rattle.session_rooms.specs.DeskAnswers.{IsCardLater, IsOfSameClerk}

-- it is its clerk's, and has met what it had met
pub same_card : {A : Type 0} (card : CardState A) → IsCardLater card card
same_card card = record { clerk = refl; begins = ([], append-nil card.met) }

-- the same, where there may be none
pub same_card_if : {A : Type 0} (card : Option (CardState A)) → IsOfSameClerk card card
same_card_if None = tt
same_card_if (Some card) = same_card card
