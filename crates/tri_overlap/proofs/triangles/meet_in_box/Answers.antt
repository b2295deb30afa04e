use Rattle.std.proofs.Common.{refl}
use Rattle.std.proofs.lemmas.Bool.{false≢true}
use Rattle.tri_overlap.proofs.Boxes.{apart_triangles}
use Rattle.tri_overlap.proofs.SeparatedTriangles.{meet_unseparated, unseparated_meet}
use Rattle.tri_overlap.proofs.triangles.meet_in_box.Goals as goal

pub returns-then-each_edge_sees : goal.returns-then-each_edge_sees
returns-then-each_edge_sees c =
    let s = c.args.first.now in
    let t = c.args.second.now in
    let h = c.if-each_edge_sees.ensures in
    let k = c.each_edge_sees-then-each_edge_sees.ensures in
    (λ b. meet_unseparated s t (h.0 refl) (k.0 b), λ m. k.1 (unseparated_meet s t m).1)

pub returns-else-each_edge_sees : goal.returns-else-each_edge_sees
returns-else-each_edge_sees c =
    let s = c.args.first.now in
    let t = c.args.second.now in
    (λ b. absurd (false≢true cc), λ m. c.each_edge_sees.ensures.1 (unseparated_meet s t m).0)

pub returns-then-is_apart : goal.returns-then-is_apart
returns-then-is_apart c = (
  λ b. absurd (false≢true b),
  λ m. absurd (apart_triangles c.args.first.now c.args.second.now _ _ c.requires c.bounds_of.ensures
      (c.is_apart.ensures.0 c.if-is_apart.true) m),
)
