use Rattle.std.proofs.Common.{◌≡◌, ◌+◌, ◌*◌, ◌++◌, ◌∙◌, length, ap, sym}
use Rattle.std.proofs.lemmas.List.{length-map}
use Rattle.shp_files.specs.Written.{corner_lists, all_corners, header, index_records, written_index}
use Rattle.shp_files.proofs.written.Puts.{both}
use Rattle.shp_files.proofs.write.write_index.Goals as goal

pub returns : goal.returns
unfolding written_index
returns g c =
    let count : length (corner_lists c.args.rings.now) ≡ length c.args.rings.now = simp length-map in
    both _ _ _ _ _ c.in_ok-out.ensures.items (c.in_ok-put_header.ensures _ c.requires.bounds) c.in_ok-put_index_records.ensures
    ∙ ap (λ n. header (50 + 4 * n) (all_corners (corner_lists c.args.rings.now)) ++ index_records 50
    (corner_lists c.args.rings.now)) (sym count)
