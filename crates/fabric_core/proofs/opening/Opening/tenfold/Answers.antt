use borrow.Author.Rules.{rules, lives}
use Rattle.std.proofs.Common.{sym, subst, get_or, None}
use Rattle.std.specs.List.{AllByRecursion}
use Rattle.scaled_rings.specs.Tenfold.{IsNear}
use Rattle.fabric_core.specs.Journal.{State}
use Rattle.fabric_core.specs.Tenfold.{IsTenfoldState, corners_of_state}
use Rattle.fabric_core.specs.own.Changes.{state_of}
use Rattle.fabric_core.specs.own.Farthest.{AreLeastBeyond, limit_of}
use Rattle.fabric_core.specs.own.Kept.{Kept}
use Rattle.fabric_core.proofs.tens.Farthest.{ten_of_state, tens_of_state, told_near}
use Rattle.fabric_core.proofs.tens.Rows.{ten_state}
use Rattle.fabric_core.proofs.opening.Opening.tenfold.Goals as goal

pub tenfold-requires : goal.tenfold-requires
tenfold-requires g c = λ level l.
    let state = state_of c.self.inside.was.value in
    told_near (corners_of_state state) (limit_of level) (get_or c.self.inside.farthest.least level None)
    (subst (λ (s : State). AllByRecursion IsNear (corners_of_state s)) (sym c.self.view_is) c.requires) (c.self.invariant level l)

pub invariant_of-result : goal.invariant_of-result
invariant_of-result g c =
    let state = state_of c.self.inside.was.value in
    subst (λ (kept : Kept). AreLeastBeyond (corners_of_state (state_of kept)) c.tenfold.result.least) (sym c.stands_for.ensures)
    (c.tenfold.ensures (corners_of_state state) (corners_of_state (ten_state state))
    (tens_of_state state (subst (λ (s : State). AllByRecursion IsNear (corners_of_state s)) (sym c.self.view_is) c.requires))
    c.self.invariant)

pub returns : goal.returns
returns g c =
    let state = state_of c.self.inside.was.value in
    subst (λ (kept : Kept). IsTenfoldState c.args.self.now (state_of kept)) (sym c.stands_for.ensures)
    (subst (λ (s : State). IsTenfoldState s (ten_state state)) c.self.view_is
    (ten_of_state state (subst (λ (s : State). AllByRecursion IsNear (corners_of_state s)) (sym c.self.view_is) c.requires)))

pub stands_for-requires : goal.stands_for-requires
stands_for-requires g c κs within = search (rules, lives, within) depth 60 fits 100000
