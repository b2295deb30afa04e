use Rattle.std.proofs.Common.{◌≡◌, refl, ◌⊎◌, inl, inr, sym, ◌∙◌, ap, subst, ◌≤◌, length}
use Rattle.std.specs.List.Sorted.{IsStrictlyIncreasing}
use Rattle.geo_exact.specs.declared.limits.TheConstants.{LAYER_CORNERS}
use Rattle.edge_chains.specs.Noding.{all_corners}
use Rattle.fabric_core.specs.Rows.{numbers}
use Rattle.fabric_core.specs.Limits.{AreWithinLimits, IsFirstTooMany}
use Rattle.fabric_core.specs.Faults.{AreSimple, IsOutOfMemory}
use Rattle.fabric_core.specs.own.Checks.{IsTold, IsToldOfRings, IsToldOfNets}
use Rattle.fabric_core.specs.own.Lists.{numbered_rows, corners_of_rings, most_refined}
use Rattle.fabric_core.proofs.rows.Lists.{numbers_of_rows, lists_of_rows}
use Rattle.fabric_core.proofs.rows.RowGaps.{short_rings, few_corners}
use Rattle.fabric_core.proofs.loads.RingChecks.{simple_rows}
use Rattle.geo_exact.proofs.PassedOn.{passed_if}
use Rattle.fabric_core.proofs.loads.Loaded.{checked_from}
use Rattle.fabric_core.proofs.loads.LoadRefusals.{tells_too_many, told_of_rings}
use Rattle.fabric_core.proofs.all_faults.without_fault.Goals as goal

pub checked-requires-clause-short : goal.checked-requires-clause-short
checked-requires-clause-short g c =
    let ids = c.args.refined.numbers.items in
    let rings = c.args.refined.rings.items in
    short_rings ids rings c.requires.numbered
    (subst (λ xs. AreWithinLimits (numbered_rows xs rings)) c.deref.ensures.value
    (subst (λ xs. AreWithinLimits (numbered_rows c.deref.result.now xs)) c.deref-2.ensures.value c.in_default.ensures))

pub check_nets-requires : goal.check_nets-requires
check_nets-requires g c =
    let ids = c.args.refined.numbers.items in
    let rings = c.args.refined.rings.items in
    let within : AreWithinLimits (numbered_rows ids rings) = subst (λ xs. AreWithinLimits (numbered_rows xs rings)) c.deref.ensures.value
    (subst (λ xs. AreWithinLimits (numbered_rows c.deref.result.now xs)) c.deref-2.ensures.value c.in_default.ensures) in
    let lists : corners_of_rings c.deref-4.result.now ≡ rings = ap corners_of_rings c.deref-4.ensures.value
    ∙ c.in_ok-rings.ensures.ok in
    record {
      together = subst (λ xs. length (all_corners xs) ≤ LAYER_CORNERS) (sym lists) (few_corners ids rings c.requires.numbered within);
      in_city = subst (λ xs. length xs ≤ most_refined) (sym c.as_slice.ensures) c.requires.city.is_short;
    }

pub returns-in-Some-clause-faults : goal.returns-in-Some-clause-faults
returns-in-Some-clause-faults g c =
    let ids = c.args.refined.numbers.items in
    let rings = c.args.refined.rings.items in
    inl (tells_too_many c.args.asked (numbered_rows ids rings) c.args.refined.refined c.in-Some.record c.from.result
    c.from.ensures.0 c.from.ensures.1
    (subst (λ xs. IsFirstTooMany (numbered_rows xs rings) c.in-Some.record) c.deref.ensures.value
    (subst (λ xs. IsFirstTooMany (numbered_rows c.deref.result.now xs) c.in-Some.record) c.deref-2.ensures.value c.in-Some.ensures)))

pub returns-in_err-rings-clause-faults : goal.returns-in_err-rings-clause-faults
returns-in_err-rings-clause-faults g c =
    let ids = c.args.refined.numbers.items in
    let rings = c.args.refined.rings.items in
    let refined = c.args.refined.refined in
    let within : AreWithinLimits (numbered_rows ids rings) = subst (λ xs. AreWithinLimits (numbered_rows xs rings)) c.deref.ensures.value
    (subst (λ xs. AreWithinLimits (numbered_rows c.deref.result.now xs)) c.deref-2.ensures.value c.in_default.ensures) in
    let rise : IsStrictlyIncreasing (numbers (numbered_rows ids rings)) =
    subst IsStrictlyIncreasing (sym (numbers_of_rows ids rings c.requires.numbered)) c.requires.rising in
    passed_if c.from_residual.result c.in_err-rings.field-0.0
    (λ refusal. IsTold c.args.asked (numbered_rows ids rings) refined refusal ⊎ IsOutOfMemory refusal) c.from_residual.ensures.1
    (elim c.in_err-rings.ensures.err [
      | inl h ↦ inl (told_of_rings c.args.asked (numbered_rows ids rings) refined c.in_err-rings.field-0.0
          (subst (λ xs. IsToldOfRings c.args.asked (numbered_rows xs rings) c.in_err-rings.field-0.0) c.deref-3.ensures.value h)
          within rise)
      | inr e ↦ inr e
    ])

pub returns-in_err-check_nets-clause-faults : goal.returns-in_err-check_nets-clause-faults
returns-in_err-check_nets-clause-faults g c =
    let ids = c.args.refined.numbers.items in
    let rings = c.args.refined.rings.items in
    let refined = c.args.refined.refined in
    let within : AreWithinLimits (numbered_rows ids rings) = subst (λ xs. AreWithinLimits (numbered_rows xs rings)) c.deref.ensures.value
    (subst (λ xs. AreWithinLimits (numbered_rows c.deref.result.now xs)) c.deref-2.ensures.value c.in_default.ensures) in
    let lists : corners_of_rings c.deref-4.result.now ≡ rings = ap corners_of_rings c.deref-4.ensures.value
    ∙ c.in_ok-rings.ensures.ok in
    let simple : AreSimple (numbered_rows ids rings) = subst (λ xs. AreSimple (numbered_rows ids xs)) c.in_ok-rings.ensures.ok
    (simple_rows ids c.in_ok-rings.rings.items) in
    passed_if c.from_residual-in_err-check_nets.result c.in_err-check_nets.field-0.0
    (λ refusal. IsTold c.args.asked (numbered_rows ids rings) refined refusal ⊎ IsOutOfMemory refusal)
    c.from_residual-in_err-check_nets.ensures.1
    (elim c.in_err-check_nets.ensures.err [
      | inl h ↦ inl (subst (λ ring. IsToldOfNets c.args.asked (corners_of_rings c.deref-4.result.now) ring c.in_err-check_nets.field-0.0)
          c.as_slice.ensures h (numbered_rows ids rings) (lists_of_rows ids rings c.requires.numbered ∙ sym lists) within simple)
      | inr e ↦ inr e
    ])

pub returns-clause-checked : goal.returns-clause-checked
returns-clause-checked g c =
    checked_from c.args.refined.numbers.items c.args.refined.numbers.items c.args.refined.rings.items c.deref.result.now
    c.deref-2.result.now
    c.in_ok-rings.rings.items c.deref-4.result.now c.as_slice.result.now c.args.refined.city c.args.refined.refined
    c.deref.ensures.value c.deref-2.ensures.value c.in_default.ensures c.in_ok-rings.ensures.ok c.deref-4.ensures.value c.as_slice.ensures
    c.in_ok-check_nets.ensures.ok refl c.requires.numbered c.requires.rising c.requires.few c.requires.city
