use Rattle.shp_files.proofs.numbers.Within.{rings_within, corners_within, numbers_within}
use Rattle.shp_files.proofs.limits.a_layer_file_is_within_the_limits.Goals as goal

pub returns-clause-rings : goal.returns-clause-rings
returns-clause-rings c = rings_within

pub returns-clause-corners : goal.returns-clause-corners
returns-clause-corners c = corners_within

pub returns-clause-numbers : goal.returns-clause-numbers
returns-clause-numbers c = numbers_within
