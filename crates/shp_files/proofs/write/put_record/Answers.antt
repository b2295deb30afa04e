use Rattle.std.proofs.Common.{◌++◌, refl, ◌∙◌, ap}
use Rattle.shp_files.specs.Written.{big, record_bytes}
use Rattle.shp_files.proofs.written.Puts.{more, appended}
use Rattle.shp_files.proofs.write.put_record.Goals as goal

pub returns : goal.returns
unfolding record_bytes
returns g c =
    let sized = c.in_ok-put_big-2.ensures ∙ ap (λ n. c.put_big.new.out.items ++ big n) c.content_words.ensures in
    appended c.put_content.result _ _ _ _ _ _ (more _ _ _ _ _ c.in_ok-put_big.ensures sized) c.put_content.ensures refl
