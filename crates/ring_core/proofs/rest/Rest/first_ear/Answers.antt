use Rattle.std.proofs.Common.{◌≡◌, ◌≤◌, ◌∙◌, ◌+◌, ◌-◌, refl, ap, arith, length, drop, take}
use Rattle.std.proofs.Math.ListN.{length-append, length-drop, length-take}
use Rattle.std.proofs.lemmas.List.{take_at}
use borrow.Rule.Slice.PartMut.{put_mid}
use Rattle.ring_core.proofs.clipping.TakenOnEitherSide.{behind, shown, written}
use Rattle.ring_core.proofs.rest.Rest.first_ear.Goals as goal

pub invariant_of-self : goal.invariant_of-self
invariant_of-self g c =
    let inside = c.self.inside in let start = inside.start in let found = c.first_ear-k in
    let free = c.self.invariant.0 in let inv = c.self.invariant.1 in
    let all = c.deref_mut.result.now in let news = found.new.kinds in let marks = found.new.marks in
    let within : start ≤ length all = omega (arith, ap length c.deref_mut.ensures.value, free.in_kinds) in
    let long : length news + start ≡ length all =
    omega (arith, found.auto.kinds, ap length (shown all all start refl), length-drop start all, within) in
    let front : length (take start all) ≡ start = omega (arith, length-take start all, within) in
    let kinds_is = written all news (drop (length (put_mid start (length all - start) all news)) inside.kinds.items)
    start inside.kinds.len within long c.deref_mut.ensures.len in
    let kinds_are = ap (drop start) kinds_is ∙ behind (take start all) news start front in
    let corners_are = shown _ _ start c.deref.ensures.value in let left_is = shown _ _ start c.deref-2.ensures.value in
    let old_is = shown _ _ start c.deref_mut.ensures.value in
    let marks_are = take_at marks (drop (length marks) inside.marks.items) inside.marks.len
    (found.auto.marks ∙ c.as_mut_slice.ensures.len) in (
      record {
        in_corners = free.in_corners;
        in_numbers = free.in_numbers;
        in_kinds = rw kinds_is (omega (arith, length-append (take start all) news, front));
      },
      record {
        as_many = inv.as_many;
        ascend = inv.ascend;
        are = rw kinds_are (rw (corners_are, left_is) at found.ensures.kinds);
        marked = rw (kinds_are, marks_are) (rw left_is at found.ensures.marked);
        seen_so_far = rw kinds_are (record {
          flats = λ j below b e. inv.seen_so_far.flats j below (omega (arith, b, found.auto.kinds, ap length old_is))
              (rw old_is at (found.ensures.others j e));
          candidates = found.ensures.seen;
        });
      },
      c.self.invariant.2,
      c.self.invariant.3,
    )
