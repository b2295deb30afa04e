use Rattle.std.proofs.Common.{◌≡◌, ℕ, [], ◌∷◌, ◌++◌, codes, decimal, flat_map, subst, append_assoc, append-nil}
use Rattle.std.proofs.lemmas.Result.{err_from_is_err_and, on_err_weaker, on_ok_weaker}
use Rattle.text_pieces.specs.PieceText.{number_text}
use Rattle.text_pieces.proofs.ring_faults.push_edges.Goals as goal

-- numbers behind spaces
are_numbers : (i j : ℕ) → codes "G2" ++ flat_map number_text (i ∷ j ∷ []) ≡ codes "G2 " ++ decimal i ++ codes " " ++ decimal j
are_numbers i j = simp (append_assoc, append-nil)

pub returns-in_err-push_piece-clause-err : goal.returns-in_err-push_piece-clause-err
returns-in_err-push_piece-clause-err g c =
    let p = err_from_is_err_and c.from_residual.result c.from_residual.ensures.1 in
    rw (p.1)
    (subst (λ t. g.S.Sink.breaks_off c.args.text.now t c.push_piece.new.self) (are_numbers c.args.i c.args.j)
    (g.met.S.Sink.breaks_off_before _ _ (codes "G2") (flat_map number_text (c.args.i ∷ c.args.j ∷ [])) c.in_err-push_piece.ensures.err))

pub returns-clause-ok : goal.returns-clause-ok
returns-clause-ok g c =
    on_ok_weaker c.push_numbers.result
    (λ h. subst (λ t. g.S.Sink.takes c.args.text.now t c.push_numbers.new.text) (are_numbers c.args.i c.args.j)
    (g.met.S.Sink.takes_both _ _ _ (codes "G2") (flat_map number_text (c.args.i ∷ c.args.j ∷ [])) c.in_ok-push_piece.ensures.ok h))
    c.push_numbers.ensures.ok

pub returns-clause-err : goal.returns-clause-err
returns-clause-err g c =
    on_err_weaker c.push_numbers.result
    (λ h. subst (λ t. g.S.Sink.breaks_off c.args.text.now t c.push_numbers.new.text) (are_numbers c.args.i c.args.j)
    (g.met.S.Sink.breaks_off_later _ _ _ (codes "G2") (flat_map number_text (c.args.i ∷ c.args.j ∷ [])) c.in_ok-push_piece.ensures.ok h))
    c.push_numbers.ensures.err
