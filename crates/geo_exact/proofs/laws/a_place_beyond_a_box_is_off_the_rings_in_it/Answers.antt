use Rattle.geo_exact.proofs.boxes.BeyondBoxes.{beyond_box}
use Rattle.geo_exact.proofs.laws.a_place_beyond_a_box_is_off_the_rings_in_it.Goals as goal

pub returns : goal.returns
returns c = beyond_box
