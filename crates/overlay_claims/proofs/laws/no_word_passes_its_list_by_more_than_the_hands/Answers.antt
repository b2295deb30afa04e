use Rattle.overlay_claims.proofs.Views.{word_is_bounded}
use Rattle.overlay_claims.proofs.laws.no_word_passes_its_list_by_more_than_the_hands.Goals as goal

-- src/laws.rt:8:1
pub returns : goal.returns
returns c = record { bounded = word_is_bounded }
