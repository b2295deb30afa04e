use Rattle.tri_overlap.proofs.folds.folded.Goals as goal

pub returns : goal.returns
returns g c = rw c.as_slice.ensures at c.first_overlap.ensures
