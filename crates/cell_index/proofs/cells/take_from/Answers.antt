use Rattle.std.proofs.Common.{rules}
use Rattle.arrayvec.proofs.ArrayVecLemmas.{filter-from_retain}
use Rattle.cell_index.proofs.cells.take_from.Goals as goal

pub returns-clause-items : goal.returns-clause-items
returns-clause-items g c = filter-from_retain _ _ _ (λ x b f' y called. search rules) _ _ c.retain.ensures.filtered
