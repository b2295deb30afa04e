use Rattle.std.proofs.Common.{◌≡◌, sym, subst, arith, length}
use Rattle.std.specs.Io.Buffered.{reader_remaining}
use Rattle.std.specs.Io.BufRead.{strip_last}
use Rattle.session_rooms.specs.Lines.{IsWhatCame}
use Rattle.register_sessions.proofs.Served.{served, if_none_weaker}
use Rattle.register_sessions.proofs.post.serve_line.Goals as goal

pub returns : goal.returns
returns g c =
    let text = c.take_line.new.text in
    if_none_weaker c.go_on.result _ _ (λ is. record {
      came = c.in-Ok.came;
      line = c.as_slice.result.now;
      asked = record { text = text.items; out = c.take_line.new.out };
      is_taken = subst (λ line. IsWhatCame (reader_remaining g.F.Read.remaining c.args.reader.now)
          (reader_remaining g.F.Read.remaining c.take_line.new.reader) (λ bytes. line ≡ strip_last 13 bytes) c.in-Ok.came)
          (sym c.as_slice.ensures.value) c.in-Ok.ensures.came;
      is_due = c.in-Ok.ensures.kept.0;
      is_kept = c.in-Ok.ensures.kept.1;
      is_answered = is;
    })
    (served g.W.ByteOut.written g.W.ByteOut.failure_count
    (λ next after. g.T.Attendant.answers c.args.attendant.now c.in-Ok.came c.as_slice.result.now
    (record { text = text.items; out = c.take_line.new.out }) next c.answer-answered.new.self after)
    text.len (length text.items) (omega (arith, text.ok.0))
    (record { text = text.items; out = c.take_line.new.out })
    (record { text = c.answer-answered.new.text.items; out = c.answer-answered.new.out }) _
    c.answer-answered.result c.go_on.result c.answer-answered.ensures.answered c.answer-answered.ensures.unwritten
    (rw c.len-before.ensures at c.go_on.ensures))
