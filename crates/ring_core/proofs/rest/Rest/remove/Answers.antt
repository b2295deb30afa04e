use Rattle.std.proofs.Common.{◌≡◌, ℕ, ◌<◌, ◌≤◌, ◌∙◌, ◌+◌, ◌-◌, refl, ap, arith, length, List, get_or, drop, take}
use Rattle.std.specs.List.{remove}
use Rattle.std.proofs.Math.ListN.{length-append, length-drop, length-take}
use Rattle.std.proofs.lemmas.List.{take_at, get_or_read}
use Rattle.std.proofs.lemmas.List.Edits.{length-remove}
use borrow.Rule.Slice.PartMut.{put_mid}
use Rattle.geo_exact.specs.declared.corner.Corner.{Corner}
use Rattle.ring_core.specs.declared.kind.Kind.{Kind}
use Rattle.ring_core.specs.declared.kind.Kind.TheVariants.{Flat}
use Rattle.ring_core.specs.own.Blocks.{AreBlocksOrNone}
use Rattle.ring_core.specs.own.Kinds.{AreKinds, IsKind, IsTakenOut, number_before}
use Rattle.ring_core.proofs.clipping.ClipSteps.{one_less}
use Rattle.ring_core.proofs.clipping.KindsTell.{ascend_without, marked_without, seen_without}
use Rattle.ring_core.proofs.clipping.TakenOnEitherSide.{behind, shown, written}
use Rattle.ring_core.proofs.clipping.TakenOut.{item_kept, number_in}
use Rattle.ring_core.proofs.searches.Sorted.{sorted_kept}
use Rattle.ring_core.proofs.rest.Rest.remove.Goals as goal

kinds_before : (whole rest : List Corner) (numbers left : List ℕ) (kinds olds : List Kind) (k gone : ℕ)
    → AreKinds whole numbers kinds → IsTakenOut whole numbers k gone rest left → olds ≡ remove kinds k
    → (j : ℕ) → j < length rest → IsKind whole numbers (number_before k j) (get_or olds j Flat)
kinds_before whole rest numbers left kinds olds k gone are t e j b =
    let below : k < length kinds = omega (arith, t.below, are.same_length) in
    let in_whole : number_before k j < length whole =
    number_in (length whole) k j (omega (arith, one_less whole rest k t.below t.is_rest)) in
    rw (e, item_kept kinds k j Flat below) (are.each (number_before k j) in_whole)

pub update_kinds-self-inside-requires-clause-as_many : goal.update_kinds-self-inside-requires-clause-as_many
update_kinds-self-inside-requires-clause-as_many g c =
    let k = c.args.k in let inv = c.self.invariant.1 in let start = c.self.inside.start in let free = c.free_without-free.result in
    let whole = drop start c.self.inside.corners.items in let numbers = drop start c.self.inside.numbers.items in
    let below : k < length whole = omega (arith, c.requires.below, ap length c.self.view_is) in
    let in_numbers : k < length numbers = omega (arith, below, inv.as_many) in
    let are = ap length (shown _ _ free c.deref.ensures.value ∙ c.take_out.ensures.left) in
    let left = ap length (shown _ _ free c.deref-2.ensures.value ∙ c.take_out-gone.ensures.left) in
    omega (arith, are, left, length-remove whole k below, length-remove numbers k in_numbers, inv.as_many)

pub update_kinds-self-inside-requires-clause-same_length : goal.update_kinds-self-inside-requires-clause-same_length
update_kinds-self-inside-requires-clause-same_length g c =
    let k = c.args.k in let inv = c.self.invariant.1 in let start = c.self.inside.start in let free = c.free_without-free.result in
    let whole = drop start c.self.inside.corners.items in let kinds = drop start c.self.inside.kinds.items in
    let below : k < length whole = omega (arith, c.requires.below, ap length c.self.view_is) in
    let in_kinds : k < length kinds = omega (arith, below, inv.are.same_length) in
    let are = ap length (shown _ _ free c.deref.ensures.value ∙ c.take_out.ensures.left) in
    let olds = ap length (shown _ _ free c.deref_mut.ensures.value ∙ c.take_out-2.ensures.left) in
    omega (arith, are, olds, length-remove whole k below, length-remove kinds k in_kinds, inv.are.same_length)

pub update_kinds-self-inside-requires-clause-ascend : goal.update_kinds-self-inside-requires-clause-ascend
update_kinds-self-inside-requires-clause-ascend g c =
    let k = c.args.k in let inv = c.self.invariant.1 in let start = c.self.inside.start in let free = c.free_without-free.result in
    let numbers = drop start c.self.inside.numbers.items in
    let below : k < length numbers = omega (arith, c.requires.below, ap length c.self.view_is, inv.as_many) in
    rw (shown _ _ free c.deref-2.ensures.value ∙ c.take_out-gone.ensures.left) (ascend_without numbers k below inv.ascend)

pub update_kinds-self-inside-requires-clause-marked : goal.update_kinds-self-inside-requires-clause-marked
update_kinds-self-inside-requires-clause-marked g c =
    let k = c.args.k in let inv = c.self.invariant.1 in let start = c.self.inside.start in let free = c.free_without-free.result in
    let numbers = drop start c.self.inside.numbers.items in let kinds = drop start c.self.inside.kinds.items in
    let below : k < length numbers = omega (arith, c.requires.below, ap length c.self.view_is, inv.as_many) in
    let in_kinds : k < length kinds = omega (arith, below, inv.as_many, inv.are.same_length) in
    rw (
      shown _ _ free c.deref-2.ensures.value ∙ c.take_out-gone.ensures.left,
      shown _ _ free c.deref_mut.ensures.value ∙ c.take_out-2.ensures.left,
      c.as_slice.ensures.value,
    ) (marked_without kinds numbers c.self.inside.marks.items k in_kinds below inv.marked)

pub update_kinds-self-inside-requires-clause-seen : goal.update_kinds-self-inside-requires-clause-seen
update_kinds-self-inside-requires-clause-seen g c =
    let k = c.args.k in let inv = c.self.invariant.1 in let start = c.self.inside.start in let free = c.free_without-free.result in
    let kinds = drop start c.self.inside.kinds.items in
    let below : k < length kinds = omega (arith, c.requires.below, ap length c.self.view_is, inv.are.same_length) in
    rw (shown _ _ free c.deref_mut.ensures.value ∙ c.take_out-2.ensures.left)
    (seen_without kinds c.self.inside.seen c.without.result k below inv.seen_so_far
    c.without.ensures.flats c.without.ensures.candidates)

pub invariant_of-self : goal.invariant_of-self
invariant_of-self g c =
    let inside = c.self.inside in let start = inside.start in let free = c.free_without-free.result in
    let whole = drop start inside.corners.items in let numbers = drop start inside.numbers.items in
    let kinds = drop start inside.kinds.items in
    let k = c.args.k in let inv = c.self.invariant.1 in let updated = c.update_kinds-self-inside in
    let gone = c.take_out-gone.result in
    let all = c.deref_mut.result.now in let olds = take (length all - free) (drop free all) in let news = updated.new.kinds in
    let rest = drop free c.take_out.new.items.items in let left = drop free c.take_out-gone.new.items.items in
    let below : k < length whole = omega (arith, c.requires.below, ap length c.self.view_is) in
    let in_numbers : k < length numbers = omega (arith, below, inv.as_many) in
    let rest_is = shown _ _ free c.deref.ensures.value in let left_is = shown _ _ free c.deref-2.ensures.value in
    let old_is : olds ≡ remove kinds k = shown _ _ free c.deref_mut.ensures.value ∙ c.take_out-2.ensures.left in
    let taken : IsTakenOut whole numbers k gone rest left = record {
      below = below;
      as_many = inv.as_many;
      is_rest = c.take_out.ensures.left;
      is_left = c.take_out-gone.ensures.left;
      is_gone = get_or_read numbers k gone in_numbers c.take_out-gone.ensures.taken 0;
    } in
    let made : AreKinds rest left news =
    (rw (rest_is, left_is) at (updated.ensures.are whole numbers)) taken
    (kinds_before whole rest numbers left kinds olds k gone inv.are taken old_is) in
    let within : free ≤ length all = omega (arith, ap length c.deref_mut.ensures.value, c.take_out-2.ensures.within) in
    let long : length news + free ≡ length all =
    omega (arith, updated.auto.kinds, ap length (shown all all free refl), length-drop free all, within) in
    let front : length (take free all) ≡ free = omega (arith, length-take free all, within) in
    let kinds_is = written all news (drop (length (put_mid free (length all - free) all news)) c.take_out-2.new.items.items)
    free c.take_out-2.new.items.len within long c.deref_mut.ensures.len in
    let kinds_are = ap (drop free) kinds_is ∙ behind (take free all) news free front in
    let spans = c.close_gap.new.spans in let boxes = inside.blocks.boxes.items in
    let as_many : length spans ≡ inside.blocks.spans.len = c.close_gap.auto.spans ∙ c.as_mut_slice.ensures.len in
    let were : AreBlocksOrNone whole c.as_mut_slice.result.now boxes = rw c.as_mut_slice.ensures.value c.self.invariant.2 in
    let blocks : AreBlocksOrNone rest spans boxes = c.close_gap.ensures whole rest boxes below taken.is_rest were in (
      record {
        in_corners = c.take_out.ensures.within;
        in_numbers = c.take_out-gone.ensures.within;
        in_kinds = rw kinds_is (omega (arith, length-append (take free all) news, front));
      },
      record {
        as_many = omega (
          arith,
          inv.as_many,
          ap length taken.is_left,
          length-remove numbers k in_numbers,
          ap length taken.is_rest,
          length-remove whole k below,
        );
        ascend = rw taken.is_left (ascend_without numbers k in_numbers inv.ascend);
        are = rw kinds_are made;
        marked = rw (kinds_are, ← left_is, ← c.as_slice.ensures.value) updated.ensures.marked;
        seen_so_far = rw kinds_are updated.ensures.seen;
      },
      rw (take_at spans (drop (length spans) inside.blocks.spans.items) inside.blocks.spans.len as_many) blocks,
      rw (taken.is_rest, taken.is_left)
          (sorted_kept whole numbers inside.sorted.by_x.items inside.sorted.by_y.items k below inv.as_many c.self.invariant.3),
    )
