use Rattle.std.proofs.lemmas.Int.{ints}
use Rattle.std.proofs.Common.{rules, arith, ℕ, ℤ, pos, ◌≡◌, ◌+ℤ◌, ◌≤◌, ◌≤ℤ◌, ◌^◌, nat_lt, inl, inr}
use Rattle.std.proofs.lemmas.Bool.{cases_lt}
use Rattle.std.specs.Prelude.{nat_le}
use Rattle.std.proofs.lemmas.Bool.{ltb-true, leb-false}
use Rattle.std.proofs.lemmas.List.Sorted.{IsPartitionedBy-leb, IsPartitionedBy-ltb, IsPartitionPoint-from_clause}
use Rattle.geo_exact.specs.declared.corner.Corner.{Corner}
use Rattle.geo_exact.specs.declared.bounds.Bounds.{Bounds}
use Rattle.geo_exact.specs.Bounds.{HoldsCorner}
use Rattle.ring_core.specs.declared.sorted.Axis.{Axis}
use Rattle.ring_core.specs.declared.sorted.Axis.TheVariants.{X, Y}
use Rattle.ring_core.specs.declared.sorted.Listed.{Listed}
use Rattle.ring_core.specs.own.Sorted.{along}
use Rattle.ring_core.proofs.sorted.few_between.Goals as goal

-- a corner that the box holds lies along each axis between the box's ends
within : (axis : Axis) (bounds : Bounds) (corner : Corner) → HoldsCorner bounds corner
    → (along axis bounds.low ≤ℤ along axis corner) × (along axis corner ≤ℤ along axis bounds.high)
within X bounds corner h = (h.west, h.east)
within Y bounds corner h = (h.south, h.north)

-- keys rise with the coordinates
keys_rise : (x y : ℤ) (k m : ℕ) → pos k ≡ x +ℤ pos (2 ^ 63) → pos m ≡ y +ℤ pos (2 ^ 63) → x ≤ℤ y → k ≤ m
keys_rise x y k m a b h = omega (arith, ints, a, b, h)

pub returns-clause-has : goal.returns-clause-has
returns-clause-has c = λ corner i d below key holds.
    let list = c.args.list.now in let low = c.key-low.result in let high = c.key-high.result in
    let key_of = λ (it : Listed). it.key in
    let ends = within c.args.axis c.args.bounds corner holds in
    let first = IsPartitionPoint-from_clause (λ (it : Listed). nat_lt it.key low) list c.partition_point-start.result
    c.partition_point-start.ensures.partitioned (IsPartitionedBy-ltb key_of list low c.requires.sorted) (λ a r q k. search rules) in
    let last = IsPartitionPoint-from_clause (λ (it : Listed). nat_le it.key high) list c.partition_point-end.result
    c.partition_point-end.ensures.partitioned (IsPartitionedBy-leb key_of list high c.requires.sorted) (λ a r q k. search rules) in
    record {
      from = elim (cases_lt i c.partition_point-start.result) [
        | inl q ↦ absurd (let less = ltb-true _ _ (first.0 i d (omega arith) q) in
            omega (arith, less, keys_rise _ _ _ _ c.key-low.ensures key ends.0))
        | inr q ↦ q
      ];
      to = elim (cases_lt i c.partition_point-end.result) [
        | inl q ↦ q
        | inr q ↦ absurd (let more = leb-false _ _ (last.1 i d q below) in
            omega (arith, more, keys_rise _ _ _ _ key c.key-high.ensures ends.1))
      ];
    }
