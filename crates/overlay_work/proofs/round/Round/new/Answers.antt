use Rattle.std.proofs.Common.{sym, ◌≡◌, ◌⊎◌, ◌∙◌, ap, subst, ℕ, length, List, map, Err}
use Rattle.std.specs.Arc.{arc_value}
use Rattle.fabric_core.specs.Rows.{numbers}
use Rattle.overlay_work.specs.Rounds.{fresh_hands, AreHandsOf}
use Rattle.overlay_work.specs.declared.round.RoundFault.TheVariants.{NoMemory}
use Rattle.overlay_work.specs.own.Starting.{CanBegin}
use Rattle.overlay_work.specs.Faults.{IsRoundFault}
use Rattle.overlay_work.proofs.Starts.{no_fault, refused, fresh_are_of, length-fresh_claimants}
use Rattle.overlay_work.proofs.round.Round.new.Goals as goal

pub returns-in-Err-clause-refuses : goal.returns-in-Err-clause-refuses
returns-in-Err-clause-refuses g c fault has =
    let ids = numbers c.args.sheet.now.now.rows in
    let city = c.args.sheet.now.city in
    let zones_city = c.args.zones.now.city in
    let lists : List (List ℕ) = map (λ list. list.items) c.args.sharing.items in
    refused ids city zones_city lists c.in-Err.fault fault
    (subst (λ l. IsRoundFault ids city zones_city (map (λ list. list.items) l) c.in-Err.fault
    ⊎ (c.in-Err.fault ≡ NoMemory)) c.as_slice.ensures.value c.in-Err.ensures.fault) has

pub returns-clause-hands : goal.returns-clause-hands
returns-clause-hands g c =
    let task = arc_value c.in_ok-work.work in
    let count : length c.in_ok-work.claimants.items ≡ length c.args.sharing.items =
    ap length c.in_ok-work.ensures.claimants ∙ length-fresh_claimants task.claims (length c.args.sharing.items) in
    c.in_ok-hands.ensures ∙ ap (fresh_hands task) count

pub returns-clause-refuses : goal.returns-clause-refuses
returns-clause-refuses g c fault has =
    let ids = numbers c.args.sheet.now.now.rows in
    let city = c.args.sheet.now.city in
    let zones_city = c.args.zones.now.city in
    let lists : List (List ℕ) = map (λ list. list.items) c.args.sharing.items in
    no_fault ids city zones_city lists fault
    (subst (λ l. CanBegin ids city zones_city (map (λ list. list.items) l)) c.as_slice.ensures.value c.in_default.ensures.ok) has

pub returns-clause-of_round : goal.returns-clause-of_round
returns-clause-of_round g c =
    let task = arc_value c.in_ok-work.work in
    subst (AreHandsOf task) (sym c.in_ok-hands.ensures) (fresh_are_of task (length c.in_ok-work.claimants.items))

pub returns-in-Err-clause-exact : goal.returns-in-Err-clause-exact
returns-in-Err-clause-exact g c fault has early =
    let ids = numbers c.args.sheet.now.now.rows in
    let city = c.args.sheet.now.city in
    let zones_city = c.args.zones.now.city in
    let told = c.in-Err.ensures.exact fault
    (subst (λ l. IsRoundFault ids city zones_city (map (λ list. list.items) l) fault) (sym c.as_slice.ensures.value) has) early in
    let same : c.in-Err.fault ≡ fault = cc in
    ap Err same

pub returns-in_err-work-clause-exact : goal.returns-in_err-work-clause-exact
returns-in_err-work-clause-exact g c fault has early =
    let ids = numbers c.args.sheet.now.now.rows in
    let city = c.args.sheet.now.city in
    let zones_city = c.args.zones.now.city in
    let lists : List (List ℕ) = map (λ list. list.items) c.args.sharing.items in
    absurd (no_fault ids city zones_city lists fault
    (subst (λ l. CanBegin ids city zones_city (map (λ list. list.items) l)) c.as_slice.ensures.value c.in_default.ensures.ok) has)

pub returns-in_err-hands-clause-exact : goal.returns-in_err-hands-clause-exact
returns-in_err-hands-clause-exact g c fault has early =
    let ids = numbers c.args.sheet.now.now.rows in
    let city = c.args.sheet.now.city in
    let zones_city = c.args.zones.now.city in
    let lists : List (List ℕ) = map (λ list. list.items) c.args.sharing.items in
    absurd (no_fault ids city zones_city lists fault
    (subst (λ l. CanBegin ids city zones_city (map (λ list. list.items) l)) c.as_slice.ensures.value c.in_default.ensures.ok) has)

pub returns-clause-exact : goal.returns-clause-exact
returns-clause-exact g c fault has early = absurd (returns-clause-refuses g c fault has)
