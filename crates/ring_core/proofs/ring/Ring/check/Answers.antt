use Rattle.std.proofs.Common.{◌≡◌, ℕ, ◌<◌, ◌^◌, ◌∙◌, ap, List, arith, ℤ, pos, ◌<ℤ◌, false, to_z, of_z}
use Rattle.std.proofs.Common.{FitsSigned}
use Rattle.std.specs.Int.{w128}
use Rattle.std.proofs.lemmas.Int.{ints, to_z-of_z, by_lt_z}
use Rattle.std.proofs.lemmas.Bool.{false≢true}
use lib.Signed.{lt_z, mag, ◌≤ℤ◌}
use Rattle.geo_exact.specs.declared.corner.Corner.{Corner}
use Rattle.geo_exact.specs.Area.{area2}
use Rattle.ring_core.specs.Simple.{IsSimpleRing}
use Rattle.ring_core.specs.Faults.{IsFirstMeeting}
use Rattle.ring_core.proofs.edges.Corners.{three_corners}
use Rattle.ring_core.proofs.ring.Ring.check.Goals as goal

not_below : (z : ℤ) → lt_z z (pos 0) ≡ false → pos 0 ≤ℤ z
not_below z h = by_lt_z z (pos 0) (λ q. absurd (omega (arith, ints))) (λ q. q)

-- the area as the code tests it
positive : (z area : ℤ) → mag z < 2 ^ 127 → (of_z w128 z ≡ 0 → ⊥) → lt_z (to_z w128 (of_z w128 z)) (pos 0) ≡ false
    → z ≡ area → pos 0 <ℤ area
positive z area fits some h e =
    let f : FitsSigned w128 z = record { sfits = fits } in
    let k : pos 0 ≤ℤ z = not_below z (rw to_z-of_z at h) in
    by_lt_z (pos 0) area (λ q. q) (λ q. let n : z ≡ pos 0 = omega (arith, ints) in absurd (some (ap (of_z w128) n)))

first_is_some : (ring : List Corner) (i j : ℕ) → IsFirstMeeting ring i j → IsSimpleRing ring → ⊥
first_is_some ring i j h s = s.simple i j h.ordered h.below h.has

pub first_meeting-requires : goal.first_meeting-requires
first_meeting-requires g c =
    let area = positive c.area2-area.result (area2 c.as_slice.result.now)
    c.area2-area.type_inv c.if-area-eq0.false c.if-area-lt0.false c.area2-area.ensures.value in
    rw (c.as_slice-2.ensures, ← c.as_slice.ensures) (three_corners c.as_slice.result.now area)

pub returns-in-Some-clause-valid : goal.returns-in-Some-clause-valid
returns-in-Some-clause-valid g c = (
  λ e. absurd (false≢true e),
  λ s. absurd (first_is_some c.args.corners c.in-Some.i c.in-Some.j (rw c.as_slice-2.ensures at c.in-Some.ensures) s),
)

pub returns-in-Some-clause-err : goal.returns-in-Some-clause-err
returns-in-Some-clause-err g c = (
  positive c.area2-area.result (area2 c.args.corners) c.area2-area.type_inv
      c.if-area-eq0.false c.if-area-lt0.false (c.area2-area.ensures.value ∙ ap area2 c.as_slice.ensures),
  rw c.as_slice-2.ensures at c.in-Some.ensures,
)

pub invariant_of-result : goal.invariant_of-result
invariant_of-result g c =
    record {
      is_simple = record {
        counterclockwise = positive c.area2-area.result (area2 c.args.corners) c.area2-area.type_inv
            c.if-area-eq0.false c.if-area-lt0.false (c.area2-area.ensures.value ∙ ap area2 c.as_slice.ensures);
        simple = rw c.as_slice-2.ensures at c.in_default.ensures;
      };
    }
