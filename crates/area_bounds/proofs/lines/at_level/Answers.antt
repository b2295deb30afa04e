use Rattle.std.proofs.Common.{◌≡◌, ◌*◌, ◌≤◌, sym, arith, FitsSigned, w64}
use Rattle.std.proofs.lemmas.Int.{to_z-of_z}
use lib.IntN.{pos, ◌-ℤ◌}
use Rattle.geo_exact.specs.Limit.{limit}
use Rattle.area_bounds.specs.Edges.{edge_of}
use Rattle.area_bounds.proofs.EdgeLines.{gap_natural, rises_natural, place_bound, place_fits, place_within, other_within}
use Rattle.area_bounds.proofs.lines.at_level.Goals as goal

pub returns : goal.returns
unfolding edge_of
returns c =
    let yf : FitsSigned w64 c.args.y = c.ranges.y in
    let f : c.from.result ≡ c.rise-second_rise.result = omega (arith, c.from.ensures) in
    let g : c.from-2.result ≡ c.rise-first_rise.result = omega (arith, c.from-2.ensures) in
    let m : c.place-first.result ≤ 2 * limit * c.rise-first_rise.result =
    place_bound (2 * limit) c.place-first.result c.rise-first_rise.result (c.args.one.high.y -ℤ c.args.one.low.y)
    c.place-first.ensures.bound c.rise-first_rise.ensures.value in
    let n : c.place-second.result ≤ 2 * limit * c.rise-second_rise.result =
    place_bound (2 * limit) c.place-second.result c.rise-second_rise.result (c.args.other.high.y -ℤ c.args.other.low.y)
    c.place-second.ensures.bound c.rise-second_rise.ensures.value in
    let r = rises_natural c.args.one.is_up c.args.other.is_up c.args.one.low c.args.one.high c.args.other.low c.args.other.high
    c.rise-first_rise.result c.rise-second_rise.result c.args.one.rises c.args.other.rises
    c.rise-first_rise.ensures.value c.rise-second_rise.ensures.value in
    record {
      value = rw (f, g) (gap_natural c.args.one.is_up c.args.other.is_up c.args.one.low c.args.one.high c.args.other.low c.args.other.high
          c.args.y (pos limit) c.place-first.result c.place-second.result c.rise-first_rise.result c.rise-second_rise.result
          c.args.one.rises c.args.other.rises (simp to_z-of_z at c.place-first.ensures.value)
          (simp to_z-of_z at c.place-second.ensures.value)
          c.rise-first_rise.ensures.value c.rise-second_rise.ensures.value);
      one = rw f (place_within (2 * limit) c.place-first.result c.rise-first_rise.result c.rise-second_rise.result _ m (sym r));
      other = rw g (other_within (2 * limit) c.place-second.result c.rise-first_rise.result c.rise-second_rise.result _ n (sym r));
    }

pub overflow_mul-result : goal.overflow_mul-result
overflow_mul-result c =
    let f : c.from.result ≡ c.rise-second_rise.result = omega (arith, c.from.ensures) in
    let m : c.place-first.result ≤ 2 * limit * c.rise-first_rise.result =
    place_bound (2 * limit) c.place-first.result c.rise-first_rise.result (c.args.one.high.y -ℤ c.args.one.low.y)
    c.place-first.ensures.bound c.rise-first_rise.ensures.value in
    let x : c.place-first.result * c.from.result ≤ 2 * limit * (2 * limit) * (2 * limit) =
    rw f (place_fits (2 * limit) c.place-first.result c.rise-first_rise.result c.rise-second_rise.result m
    c.rise-first_rise.ensures.bound c.rise-second_rise.ensures.bound) in
    omega (arith, x)

pub overflow_mul-result-2 : goal.overflow_mul-result-2
overflow_mul-result-2 c =
    let g : c.from-2.result ≡ c.rise-first_rise.result = omega (arith, c.from-2.ensures) in
    let n : c.place-second.result ≤ 2 * limit * c.rise-second_rise.result =
    place_bound (2 * limit) c.place-second.result c.rise-second_rise.result (c.args.other.high.y -ℤ c.args.other.low.y)
    c.place-second.ensures.bound c.rise-second_rise.ensures.value in
    let x : c.place-second.result * c.from-2.result ≤ 2 * limit * (2 * limit) * (2 * limit) =
    rw g (place_fits (2 * limit) c.place-second.result c.rise-second_rise.result c.rise-first_rise.result n
    c.rise-second_rise.ensures.bound c.rise-first_rise.ensures.bound) in
    omega (arith, x)
