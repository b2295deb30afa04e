use Rattle.std.proofs.Common.{◌≡◌, ◌⊎◌, inl, inr, refl, sym, ap, subst, arith, ℕ, suc, ◌+◌, ◌<◌, ◌≤◌, List, []}
use Rattle.std.proofs.Common.{◌∷◌, ◌++◌, length, take, drop, add-one, get_or}
use Rattle.geo_exact.specs.declared.corner.Corner.{Corner}
use Rattle.geo_exact.specs.Layers.{numbered, corner_count}
use Rattle.geo_exact.specs.declared.limits.TheConstants.{LAYER_CORNERS, RING_CORNERS}
use Rattle.fabric_core.specs.Limits.{AreWithinLimits, IsFirstTooMany}
use Rattle.fabric_core.specs.own.Lists.{numbered_rows}
use Rattle.fabric_core.proofs.rows.Lists.{rows_split_at, rows_more, corner_count-append, AllByRecursion-push}
use Rattle.fabric_core.proofs.limits.first_too_many.Goals.{then-count-gt-RING_CORNERS-via-then-count-gt-RING_CORNERS}
use Rattle.fabric_core.proofs.limits.first_too_many.Goals.{
  then-count-gt-RING_CORNERS-via-else-count-gt-RING_CORNERS+then-total-count-gt-LAYER_CORNERS,
}
use Rattle.fabric_core.proofs.limits.first_too_many.Goals as goal

-- the ring passes one of the limits
too_many : (ids : List ℕ) (rings : List (List Corner)) (i n : ℕ) (ring : List Corner) → length ids ≡ length rings
    → i < length rings
    → n ≡ get_or ids i 0 → ring ≡ get_or rings i ring → AreWithinLimits (numbered_rows (take i ids) (take i rings))
    → (RING_CORNERS < length ring) ⊎ (LAYER_CORNERS < corner_count (numbered_rows (take i ids) (take i rings)) + length ring)
    → IsFirstTooMany (numbered_rows ids rings) n
too_many ids rings i n ring e h k l within passes = record {
  before = numbered_rows (take i ids) (take i rings);
  row = numbered n ring;
  behind = numbered_rows (drop (suc i) ids) (drop (suc i) rings);
  are_all = rows_split_at ids rings i n ring e h k l;
  has_number = refl;
  passes = either passes;
  within_before = within;
}
  where
    either : (RING_CORNERS < length ring) ⊎ (LAYER_CORNERS < corner_count (numbered_rows (take i ids) (take i rings)) + length ring)
        → (RING_CORNERS < length ring)
        ⊎ (LAYER_CORNERS < corner_count (numbered_rows (take i ids) (take i rings) ++ numbered n ring ∷ []))
    either (inl p) = inl p
    either (inr p) = inr (omega (arith, p, corner_count-append (numbered_rows (take i ids) (take i rings)) (numbered n ring ∷ [])))

-- it passes none, and neither do the rows up to it
within_more : (ids : List ℕ) (rings : List (List Corner)) (i n : ℕ) (ring : List Corner) → length ids ≡ length rings
    → i < length rings
    → n ≡ get_or ids i 0 → ring ≡ get_or rings i ring → AreWithinLimits (numbered_rows (take i ids) (take i rings))
    → length ring ≤ RING_CORNERS → corner_count (numbered_rows (take i ids) (take i rings)) + length ring ≤ LAYER_CORNERS
    → AreWithinLimits (numbered_rows (take (suc i) ids) (take (suc i) rings))
within_more ids rings i n ring e h k l within short few = subst AreWithinLimits (sym (rows_more ids rings i n ring e h k l)) (record {
  each = AllByRecursion-push (λ row. length row.corners ≤ RING_CORNERS) (numbered_rows (take i ids) (take i rings))
      (numbered n ring) within.each short;
  together = omega (arith, few, corner_count-append (numbered_rows (take i ids) (take i rings)) (numbered n ring ∷ []));
})

pub returns-then-count-gt-RING_CORNERS : goal.returns-then-count-gt-RING_CORNERS
returns-then-count-gt-RING_CORNERS g c =
    too_many c.args.numbers.now c.args.rings.now c.loop-i.i _ c.index-rings-i.result c.requires
    (omega (arith, c.loop-i-test.true)) refl c.index-rings-i.is
    c.loop-i.invariant.within (elim c.then-count-gt-RING_CORNERS.branch [
      | then-count-gt-RING_CORNERS-via-then-count-gt-RING_CORNERS w ↦
          inl (omega (arith, w.if-count-gt-RING_CORNERS.true, c.len-count.ensures))
      | then-count-gt-RING_CORNERS-via-else-count-gt-RING_CORNERS+then-total-count-gt-LAYER_CORNERS w ↦ inr
          (omega (arith, w.if-total-count-gt-LAYER_CORNERS.true, c.len-count.ensures, c.loop-i.invariant.total))
    ])

pub loop-i-preserved : goal.loop-i-preserved
loop-i-preserved g c =
    let n = get_or c.args.numbers.now c.loop-i.i 0 in
    let more = rows_more c.args.numbers.now c.args.rings.now c.loop-i.i n c.index-rings-i.result c.requires
    (omega (arith, c.loop-i-test.true)) refl c.index-rings-i.is in
    let count = corner_count-append (numbered_rows (take c.loop-i.i c.args.numbers.now)
    (take c.loop-i.i c.args.rings.now)) (numbered n c.index-rings-i.result ∷ []) in
    rw add-one (record {
      total = omega (arith, c.loop-i.invariant.total, c.len-count.ensures, ap corner_count more, count);
      within = within_more c.args.numbers.now c.args.rings.now c.loop-i.i n c.index-rings-i.result c.requires
          (omega (arith, c.loop-i-test.true)) refl c.index-rings-i.is c.loop-i.invariant.within
          (omega (arith, c.if-count-gt-RING_CORNERS.false, c.len-count.ensures))
          (omega (arith, c.if-total-count-gt-LAYER_CORNERS.false, c.len-count.ensures, c.loop-i.invariant.total));
    })
