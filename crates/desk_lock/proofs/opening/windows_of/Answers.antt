use Rattle.std.proofs.Common.{◌≡◌, ◌⊎◌, inl, ℕ, ◌+◌, ◌≤◌, ◌∷◌, [], ◌++◌, replicate, arith, ap, ◌∙◌}
use Rattle.std.proofs.lemmas.Bool.Decides.{nat_tests}
use Rattle.std.proofs.lemmas.List.{replicate_more}
use Rattle.geo_exact.proofs.PassedOn.{passed_if}
use Rattle.desk_lock.specs.declared.opening.OpenFault.TheVariants.{NoWindow, NoMemory}
use Rattle.desk_lock.specs.Offices.{window_of}
use Rattle.desk_lock.proofs.opening.windows_of.Goals as goal

pub loop-place-init : goal.loop-place-init
loop-place-init g c = record { windows = c.new-made.ensures.items }

pub loop-place-preserved : goal.loop-place-preserved
loop-place-preserved g c = record {
  windows = c.in_ok-push_window.ensures.pushed
      ∙ (ap (λ w. c.loop-place.made.items ++ w ∷ []) c.in_ok-window.ensures.fresh
      ∙ (ap (λ l. l ++ window_of g.J.Naming-1.office.origin ∷ []) c.loop-place.invariant.windows
      ∙ replicate_more c.loop-place.place (window_of g.J.Naming-1.office.origin)));
}

pub returns-clause-windows : goal.returns-clause-windows
returns-clause-windows g c =
    c.loop-place.invariant.windows
    ∙ ap (λ n. replicate n (window_of g.J.Naming-1.office.origin))
    (grind (arith, nat_tests, c.loop-place-test.false, c.loop-place.auto.place-end))

pub returns-in_err-window-clause-fault : goal.returns-in_err-window-clause-fault
returns-in_err-window-clause-fault g c =
    let number = c.loop-place.place + 1 in
    let first : 1 ≤ number = omega arith in
    let last : number ≤ c.args.windows = grind (arith, nat_tests, c.loop-place-test.true) in
    passed_if c.from_residual.result c.in_err-window.field-0.0
    (λ fault. ((k : ℕ) × (1 ≤ k) × (k ≤ c.args.windows) × (fault ≡ NoWindow k)) ⊎ (fault ≡ NoMemory)) c.from_residual.ensures.1
    (inl (number, first, last, c.in_err-window.ensures.fault))
