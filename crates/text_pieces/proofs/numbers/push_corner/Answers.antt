use Rattle.std.proofs.Common.{[], ◌∷◌, ◌++◌}
use Rattle.std.proofs.lemmas.Int.{to_z-of_z}
use Rattle.std.proofs.lemmas.Result.{err_from_is_err_and, on_err_weaker, on_ok_weaker}
use Rattle.std.specs.Fmt.{signed_decimal}
use Rattle.geo_exact.proofs.numbers.Fits.{fits_x, fits_y}
use Rattle.text_pieces.proofs.numbers.push_corner.Goals as goal

pub returns-in_err-push_number-clause-err : goal.returns-in_err-push_number-clause-err
returns-in_err-push_number-clause-err g c =
    let p = err_from_is_err_and c.from_residual.result c.from_residual.ensures.1 in
    let x = signed_decimal c.args.corner.x in
    rw (p.1)
    (g.met.S.Sink.breaks_off_before _ _ (x ++ 32 ∷ []) (signed_decimal c.args.corner.y)
    (g.met.S.Sink.breaks_off_before _ _ x (32 ∷ []) (simp (to_z-of_z, fits_x) at c.in_err-push_number.ensures.err)))

pub returns-in_err-push_piece-clause-err : goal.returns-in_err-push_piece-clause-err
returns-in_err-push_piece-clause-err g c =
    let p = err_from_is_err_and c.from_residual-in_err-push_piece.result c.from_residual-in_err-push_piece.ensures.1 in
    let x = signed_decimal c.args.corner.x in
    let first = simp (to_z-of_z, fits_x) at c.in_ok-push_number.ensures.ok in
    rw (p.1)
    (g.met.S.Sink.breaks_off_before _ _ (x ++ 32 ∷ []) (signed_decimal c.args.corner.y)
    (g.met.S.Sink.breaks_off_later _ _ _ x (32 ∷ []) first c.in_err-push_piece.ensures.err))

pub returns-clause-ok : goal.returns-clause-ok
returns-clause-ok g c =
    let x = signed_decimal c.args.corner.x in
    let first = simp (to_z-of_z, fits_x) at c.in_ok-push_number.ensures.ok in
    let two = g.met.S.Sink.takes_both _ _ _ x (32 ∷ []) first c.in_ok-push_piece.ensures.ok in
    on_ok_weaker c.push_number-2.result
    (λ h. g.met.S.Sink.takes_both _ _ _ (x ++ 32 ∷ []) (signed_decimal c.args.corner.y) two (simp (to_z-of_z, fits_y) at h))
    c.push_number-2.ensures.ok

pub returns-clause-err : goal.returns-clause-err
returns-clause-err g c =
    let x = signed_decimal c.args.corner.x in
    let first = simp (to_z-of_z, fits_x) at c.in_ok-push_number.ensures.ok in
    let two = g.met.S.Sink.takes_both _ _ _ x (32 ∷ []) first c.in_ok-push_piece.ensures.ok in
    on_err_weaker c.push_number-2.result
    (λ h. g.met.S.Sink.breaks_off_later _ _ _ (x ++ 32 ∷ []) (signed_decimal c.args.corner.y) two (simp (to_z-of_z, fits_y) at h))
    c.push_number-2.ensures.err
