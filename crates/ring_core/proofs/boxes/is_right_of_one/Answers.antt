use Rattle.ring_core.proofs.searches.RightOfEdges.{not_on_right}
use Rattle.ring_core.proofs.boxes.is_right_of_one.Goals as goal

pub returns-then-is_on_right : goal.returns-then-is_on_right
returns-then-is_on_right c = λ _ q h i. not_on_right _ (c.is_on_right.ensures c.if-is_on_right.true q h) i.along_bc

pub returns-then-is_on_right-2 : goal.returns-then-is_on_right-2
returns-then-is_on_right-2 c = λ _ q h i. not_on_right _ (c.is_on_right-2.ensures c.if-is_on_right-2.true q h) i.along_ca

pub returns : goal.returns
returns c = λ e q h i. not_on_right _ (c.is_on_right-3.ensures e q h) i.along_ab
