use Rattle.std.proofs.Common.{◌≡◌, ◌⊎◌, inl, inr, sym, subst, arith, ◌≤◌, length, ◌+◌}
use Rattle.std.proofs.lemmas.Result.{IfErr-weaker}
use Rattle.std.proofs.lemmas.List.{length-append}
use Rattle.std.specs.List.Sorted.{IsStrictlyIncreasing}
use Rattle.geo_exact.specs.Bounds.{IsLeastBox}
use Rattle.geo_exact.specs.Layers.{rings_of}
use Rattle.geo_exact.specs.declared.limits.TheConstants.{LAYER_CORNERS, LAYER_RECORDS, RING_CORNERS}
use Rattle.edge_chains.specs.Noding.{all_corners}
use Rattle.fabric_core.specs.Tiling.{corner_lists}
use Rattle.fabric_core.specs.Rows.{corners_of_layer, AreRefined}
use Rattle.fabric_core.specs.Faults.{IsLoadRefusal, IsOutOfMemory}
use Rattle.fabric_core.specs.own.Checks.{HaveNoFault, IsRefinedCity, IsTold}
use Rattle.fabric_core.specs.own.Lists.{numbered_rows}
use Rattle.fabric_core.proofs.rows.Lists.{count_of_corners}
use Rattle.fabric_core.proofs.loads.Loaded.{few_numbers, numbers_rising}
use Rattle.fabric_core.proofs.loads.OneLoadFault.{AreFaultless}
use Rattle.fabric_core.proofs.loads.LoadRefusals.{refused_by}
use Rattle.fabric_core.proofs.loads.OneNoding.{noded_short}
use Rattle.fabric_core.proofs.loads.RefinedRings.{as_many_numbers, refined_rows}
use Rattle.fabric_core.proofs.edits.Refusals.{IfOk-both}
use Rattle.fabric_core.proofs.layer.Layer.load_or_all.Goals as goal

pub load_refined-requires-clause-numbered : goal.load_refined-requires-clause-numbered
load_refined-requires-clause-numbered g c =
    as_many_numbers
    (rings_of c.args.records.items) c.args.city.now.ring.corners c.in_ok-refined.refined.numbers.items c.in_ok-refined.refined.rings.items
    c.in_ok-refined.refined.refined c.in_ok-refined.ensures.noded

pub load_refined-requires-clause-rising : goal.load_refined-requires-clause-rising
load_refined-requires-clause-rising g c =
    subst IsStrictlyIncreasing (sym c.in_ok-refined.ensures.noded.are_numbers) (numbers_rising
    (rings_of c.args.records.items) c.requires.numbers)

pub load_refined-requires-clause-few : goal.load_refined-requires-clause-few
load_refined-requires-clause-few g c =
    subst (λ numbers. length numbers ≤ LAYER_RECORDS) (sym c.in_ok-refined.ensures.noded.are_numbers) (few_numbers
    (rings_of c.args.records.items) c.requires.numbers)

pub load_refined-requires-clause-city : goal.load_refined-requires-clause-city
load_refined-requires-clause-city g c =
    let records = rings_of c.args.records.items in
    let city = c.args.city.now.ring.corners in
    let few : length (corners_of_layer records city) ≤ (LAYER_CORNERS + RING_CORNERS) = omega (
      arith,
      length-append (all_corners (corner_lists records)) city,
      count_of_corners records,
      c.requires.corners,
      c.args.city.now.few,
    ) in
    subst (λ ring. IsRefinedCity ring c.in_ok-refined.refined.refined) (sym c.in_ok-refined.ensures.city) (record {
      simple = c.args.city.now.ring.is_simple;
      few = c.args.city.now.few;
      wound_once = c.args.city.now.wound_once;
      corners = corners_of_layer records city;
      is_noded = c.in_ok-refined.ensures.noded.is_refined;
      is_short = noded_short city
          (corners_of_layer records city) c.in_ok-refined.refined.refined c.args.city.now.few few c.in_ok-refined.ensures.noded.is_refined;
    })

pub load_refined-requires-clause-area : goal.load_refined-requires-clause-area
load_refined-requires-clause-area g c =
    subst (IsLeastBox c.args.city.now.bounds) (sym c.in_ok-refined.ensures.city) c.args.city.now.least_box

pub returns-clause-rows : goal.returns-clause-rows
returns-clause-rows g c =
    let records = rings_of c.args.records.items in
    let city = c.args.city.now.ring.corners in
    let ids = c.in_ok-refined.refined.numbers.items in
    let rings = c.in_ok-refined.refined.rings.items in
    IfOk-both c.load_refined.result (λ layer. layer.rows ≡ numbered_rows ids rings)
    (λ layer. layer.refined ≡ c.in_ok-refined.refined.refined)
    (λ layer. AreRefined records city layer.rows layer.refined)
    (λ layer same_rows same_refined. subst (λ rows. AreRefined records city rows layer.refined) (sym same_rows)
    (subst (λ refined. AreRefined records city (numbered_rows ids rings) refined) (sym same_refined)
    (refined_rows records city ids rings c.in_ok-refined.refined.refined c.in_ok-refined.ensures.noded)))
    c.load_refined.ensures.rows c.load_refined.ensures.refined

pub returns-clause-faults : goal.returns-clause-faults
returns-clause-faults g c =
    let records = rings_of c.args.records.items in
    let city = c.args.city.now.ring.corners in
    let ids = c.in_ok-refined.refined.numbers.items in
    let rings = c.in_ok-refined.refined.rings.items in
    let refined = c.in_ok-refined.refined.refined in
    IfErr-weaker c.load_refined.result
    (λ refusal. IsTold c.args.asked (numbered_rows ids rings) refined refusal ⊎ IsOutOfMemory refusal)
    (λ refusal. IsLoadRefusal c.args.asked records city refusal ⊎ IsOutOfMemory refusal)
    (λ refusal h. elim h [
      | inl told ↦ inl (record {
        rows = numbered_rows ids rings;
        refined = refined;
        are_refined = refined_rows records city ids rings refined c.in_ok-refined.ensures.noded;
        is_first = told.is_first;
        are_asked = told.are_asked;
      })
      | inr e ↦ inr e
    ])
    c.load_refined.ensures.faults

pub returns-clause-refuses : goal.returns-clause-refuses
returns-clause-refuses g c =
    let records = rings_of c.args.records.items in
    let city = c.args.city.now.ring.corners in
    refused_by c.load_refined.result c.args.asked records city
    (IfOk-both c.load_refined.result (λ layer. AreRefined records city layer.rows layer.refined)
    (λ layer. HaveNoFault layer.rows layer.refined)
    (λ layer. AreFaultless records city)
    (λ layer h k. record { rows = layer.rows; refined = layer.refined; are_refined = h; no_fault = k })
    (returns-clause-rows g c) c.load_refined.ensures.no_fault)
    (returns-clause-faults g c)
