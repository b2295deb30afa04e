use Rattle.journal_cuts.proofs.Cuts.{loses_nothing}
use Rattle.journal_cuts.proofs.a_cut_loses_no_record.Goals as goal

pub returns : goal.returns
returns g c = λ layer left synced others read seal torn written cut journal.
    loses_nothing layer left synced others read seal torn written cut journal
