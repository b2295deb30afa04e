use Rattle.std.proofs.Common.{◌<◌, ◌∙◌, sym, arith, below_more}
use Rattle.std.proofs.lemmas.Bool.{false≢true}
use Rattle.tri_overlap.specs.Folding.{OverlapAt}
use Rattle.tri_overlap.proofs.Boxes.{inside_box}
use Rattle.tri_overlap.proofs.Numbered.{overlap_of, meet_of, second_in_list}
use Rattle.tri_overlap.proofs.folds.first_overlap_with.Goals as goal

pub meet_in_box-requires : goal.meet_in_box-requires
meet_in_box-requires c = λ p i j. inside_box c.index-triangles-i.result p _ c.bounds_of-bounds.ensures i

pub returns-then-meet_in_box : goal.returns-then-meet_in_box
returns-then-meet_in_box c = (
  omega arith,
  overlap_of c.args.triangles.now c.args.i c.loop-j.j c.index-triangles-i.result c.index-triangles-j.result c.requires c.loop-j-test.true
      c.index-triangles-i.is c.index-triangles-j.is (c.meet_in_box.ensures.0 c.if-meet_in_box.true),
  c.loop-j.invariant,
)

pub loop-j-preserved : goal.loop-j-preserved
loop-j-preserved c =
    let ts = c.args.triangles.now in let i = c.args.i in
    λ k o b. below_more (λ m. i < m → ¬ OverlapAt ts i m) c.loop-j.j (λ m r q. c.loop-j.invariant m q r)
    (λ _ m. false≢true (sym c.if-meet_in_box.false
    ∙ c.meet_in_box.ensures.1 (meet_of ts i c.loop-j.j c.index-triangles-i.result c.index-triangles-j.result
    c.index-triangles-i.is c.index-triangles-j.is m))) k b o

pub returns : goal.returns
returns c = λ j o h.
    let b = second_in_list c.args.triangles.now c.args.i j h in
    c.loop-j.invariant j o (omega arith) h
