use Rattle.area_shares.proofs.Tables.{is_split}
use Rattle.area_shares.proofs.parcels.split_parcel.Goals as goal

pub returns : goal.returns
returns c =
    is_split c.args.id c.args.pairs.now c.split_at.result.0.now c.split_at.result.1.now c.requires.ascend c.requires.from
    c.count_first.result c.count_first.ensures.value c.split_at.ensures.front c.split_at.ensures.back
