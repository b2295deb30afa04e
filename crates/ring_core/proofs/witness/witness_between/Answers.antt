use Rattle.std.proofs.Common.{◌≡◌, ◌≤◌, ◌∙◌, sym, arith, below_more}
use Rattle.std.proofs.lemmas.Bool.{false≢true}
use Rattle.std.proofs.lemmas.List.{get_or_read}
use Rattle.geo_exact.specs.Places.{origin, corner_at}
use Rattle.ring_core.specs.Clipping.{Blocks, IsInTriangle, next, previous}
use Rattle.ring_core.proofs.ears.Renumbered.{inside_like}
use Rattle.ring_core.proofs.witness.witness_between.Goals as goal
use Rattle.ring_core.proofs.witness.witness_between.Goals.{
  else-is_in_boxed-via-then-is_in_boxed+then-j-before+then-j-k+else-j-after,
  else-is_in_boxed-via-then-is_in_boxed+then-j-before+else-j-k,
  else-is_in_boxed-via-then-is_in_boxed+else-j-before,
  else-is_in_boxed-via-else-is_in_boxed,
}

pub returns-then-j-after : goal.returns-then-j-after
returns-then-j-after c =
    let corners = c.args.corners.now in let k = c.args.k in let j = c.loop-j.j in let t = c.args.triangle in let is =
    c.requires.is_triangle in
    let here : c.index-corners-j.result ≡ corner_at corners j =
    get_or_read corners j c.index-corners-j.result (omega arith) c.index-corners-j.is origin in (
      omega arith,
      record {
        not_before = λ e. c.if-j-before.true (e ∙ sym c.preceding-before.ensures);
        not_same = λ e. c.if-j-k.true e;
        not_after = λ e. c.if-j-after.true (e ∙ sym c.following-after.ensures);
        is_inside = inside_like c.index-corners-j.result t.a t.b t.c
            (corner_at corners j) (previous corners k) (corner_at corners k) (next corners k)
            (sym here) (sym is.a) (sym is.b) (sym is.c) (c.is_in_boxed.ensures.0 c.if-is_in_boxed.true);
      },
    )

pub loop-j-preserved : goal.loop-j-preserved
loop-j-preserved c =
    let corners = c.args.corners.now in let k = c.args.k in let j = c.loop-j.j in let t = c.args.triangle in let is =
    c.requires.is_triangle in
    let here : c.index-corners-j.result ≡ corner_at corners j =
    get_or_read corners j c.index-corners-j.result (omega arith) c.index-corners-j.is origin in
    λ i o b. below_more (λ i. c.args.start ≤ i → ¬ Blocks corners k i) j (λ i b o. c.loop-j.invariant i o b) (λ _ x.
    let inside : IsInTriangle c.index-corners-j.result t.a t.b t.c =
    inside_like (corner_at corners j) (previous corners k) (corner_at corners k) (next corners k)
    c.index-corners-j.result t.a t.b t.c here is.a is.b is.c x.is_inside in
    elim c.else-is_in_boxed.branch [
      | else-is_in_boxed-via-then-is_in_boxed+then-j-before+then-j-k+else-j-after w ↦
          x.not_after (w.if-j-after.false ∙ c.following-after.ensures)
      | else-is_in_boxed-via-then-is_in_boxed+then-j-before+else-j-k w ↦ x.not_same w.if-j-k.false
      | else-is_in_boxed-via-then-is_in_boxed+else-j-before w ↦ x.not_before (w.if-j-before.false ∙ c.preceding-before.ensures)
      | else-is_in_boxed-via-else-is_in_boxed w ↦ false≢true (sym w.if-is_in_boxed.false ∙ c.is_in_boxed.ensures.1 inside)
    ]) i b o

pub returns : goal.returns
returns c = λ i o b. c.loop-j.invariant i o (omega arith)
