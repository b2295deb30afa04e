use Rattle.std.proofs.Common.{◌≡◌, ◌+◌, ◌*◌, sym, subst, arith}
use Rattle.register_sessions.specs.StartFaults.{IsToldOf, IsToldRefused}
use Rattle.register_sessions.proofs.start.fault_of_replay.Goals as goal

pub returns : goal.returns
returns g c =
    subst (λ fault. IsToldOf c.args.path fault c.refused_in.result) (sym c.in-Refused.is) (λ small.
    let second : c.saturating_add-line.result ≡ 2 * c.in-Refused.number + 1 =
    omega (arith, small, c.saturating_mul.ensures, c.saturating_add-line.ensures) in
    subst (λ line. IsToldRefused c.args.path line c.in-Refused.refusal c.refused_in.result) second c.refused_in.ensures)
