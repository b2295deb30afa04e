use Rattle.common_areas.proofs.Counted.{not_negative, positive_meets}
use Rattle.common_areas.proofs.Near.{meeting_is_positive}
use Rattle.common_areas.proofs.laws.a_common_area_is_one_of_interiors.Goals as goal

pub returns-clause-not_negative : goal.returns-clause-not_negative
returns-clause-not_negative c = not_negative

pub returns-clause-exactly : goal.returns-clause-exactly
returns-clause-exactly c = λ r s once_r once_s. (positive_meets r s once_r once_s, meeting_is_positive r s once_r once_s)
