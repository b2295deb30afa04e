use Rattle.std.proofs.Common.{◌≡◌, inl, inr, arith, sym, ◌∙◌, ap, subst, length}
use Rattle.std.specs.Prelude.{IsPermutation}
use Rattle.std.specs.List.Sorted.{IsStrictlyIncreasing}
use Rattle.std.proofs.lemmas.List.{length-map}
use Rattle.fabric_core.specs.Rows.{numbers}
use Rattle.overlay_work.specs.declared.round.RoundFault.TheVariants.{NoMemory}
use Rattle.overlay_work.specs.Sharing.{joined}
use Rattle.overlay_work.specs.own.Starting.{CanBegin}
use Rattle.overlay_work.proofs.Starts.{no_fault}
use Rattle.parcel_runs.specs.own.Dealing.{dealt}
use Rattle.parcel_runs.proofs.DealtLists.{length_fresh_hands}
use Rattle.parcel_runs.proofs.HandNumbers.{AreNumberedBelow, fresh_below}
use Rattle.parcel_runs.proofs.overlay_job.begin.Goals as goal

pub unreachable-requires : goal.unreachable-requires
unreachable-requires g c =
    let ids = numbers c.args.sheet.now.now.rows in
    let lists = dealt c.in_ok-lists.lists.items in
    let count = length-map c.in_ok-lists.lists.items (λ list. list.items) in
    let many = c.in_ok-lists.ensures.count in
    let some = c.requires.some in
    let few = c.requires.few in
    let can : CanBegin ids c.args.sheet.now.city c.args.zones.now.city lists = record {
      ascending = subst IsStrictlyIncreasing c.ids.ensures.ids c.ids.ensures.ascending;
      sharing = record {
        has_hands = (omega (arith, count, many, some), omega (arith, count, many, few));
        each_once = subst (IsPermutation (joined lists)) c.ids.ensures.ids c.in_ok-lists.ensures.each_once;
      };
      same_city = c.requires.city;
    } in
    let memory : c.in-Err.fault ≡ NoMemory = elim c.in-Err.ensures.fault [
      | inl k ↦ absurd (no_fault ids c.args.sheet.now.city c.args.zones.now.city lists c.in-Err.fault can k)
      | inr e ↦ e
    ] in
    elim c.in-HandCount.is [
      | inl k ↦ let same = k.1 in cc
      | inr k ↦ elim k [ inl same ↦ cc | inr other ↦ let same = other.1 in cc ]
    ]

pub returns-in-Ok-clause-all : goal.returns-in-Ok-clause-all
returns-in-Ok-clause-all g c =
    ap length c.in-Ok.ensures.hands ∙ length_fresh_hands _ _ ∙ sym (ap length c.in-Ok.ensures.lists
    ∙ length-map c.in_ok-lists.lists.items (λ list. list.items))

pub returns-in-Ok-clause-numbers : goal.returns-in-Ok-clause-numbers
returns-in-Ok-clause-numbers g c =
    let many = c.in_ok-lists.ensures.count in
    subst (AreNumberedBelow c.args.workers) (sym c.in-Ok.ensures.hands)
    (fresh_below _ (length c.in_ok-lists.lists.items) c.args.workers (omega (arith, many)))
