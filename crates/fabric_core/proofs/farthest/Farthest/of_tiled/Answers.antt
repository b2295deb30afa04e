use Rattle.std.proofs.Common.{◌≡◌, refl, sym, ◌∙◌, subst, arith, ◌+◌, ◌≤◌, List, [], Option, None}
use Rattle.std.proofs.lemmas.List.{length-set}
use Rattle.geo_exact.specs.declared.corner.Corner.{Corner}
use Rattle.scaled_rings.specs.Tenfold.{IsLeastBeyondOf}
use Rattle.fabric_core.specs.Tenfold.{corners_of_state}
use Rattle.fabric_core.specs.own.Changes.{state_of}
use Rattle.fabric_core.specs.own.Farthest.{limit_of}
use Rattle.fabric_core.proofs.tens.Farthest.{first_only, rise_next, set_more, small}
use Rattle.fabric_core.proofs.farthest.Farthest.of_tiled.Goals as goal

pub loop-level-init : goal.loop-level-init
loop-level-init g c =
    let found = c.least_beyond-found.ensures [] tt in record { most = refl; found = found; all = refl; each = first_only _ found }

pub next_limit-most-requires : goal.next_limit-most-requires
next_limit-most-requires g c =
    subst (λ m. m ≤ 1000000000) (sym c.loop-level.invariant.most)
    (small c.loop-level.level (omega (arith, c.loop-level-test.true, c.loop-level.auto.level-end)))

pub loop-level-preserved : goal.loop-level-preserved
loop-level-preserved g c =
    let level = c.loop-level.level in let corners : List Corner = corners_of_state (state_of c.args.tiled.now) in
    let most : c.next_limit-most.result ≡ limit_of (level + 1) = c.next_limit-most.ensures level c.loop-level.invariant.most in
    let found : IsLeastBeyondOf (limit_of (level + 1)) corners c.least_behind-found.result =
    subst (λ m. IsLeastBeyondOf m corners c.least_behind-found.result) most
    (c.least_behind-found.ensures (limit_of level) (subst (λ m. limit_of level ≤ m) (sym most) (rise_next level))
    c.loop-level.invariant.found) in record {
      most = most;
      found = found;
      all = length-set c.loop-level.least (level + 1) c.least_behind-found.result ∙ c.loop-level.invariant.all;
      each = set_more (λ k x. IsLeastBeyondOf (limit_of k) corners x) c.loop-level.least (level + 1) c.least_behind-found.result None
          (omega (arith, c.loop-level-test.true, c.loop-level.auto.level-end, c.loop-level.invariant.all)) c.loop-level.invariant.each
          found;
    }
