use Rattle.std.proofs.Common.{◌≡◌, sym, ◌∙◌, ap, true, false, not}
use Rattle.std.proofs.lemmas.Bool.{eqb-true, not-true}
use Rattle.zone_tables.proofs.FromParcel.{answers_zone, none_is_only, first_is_only}
use Rattle.zone_tables.proofs.zoning.only_zone.Goals as goal
use Rattle.zone_tables.proofs.zoning.only_zone.Goals.{then-parcel-id, else-parcel-id}

pub returns : goal.returns
returns c = λ zone.
    let parcel = c.in_ok-parcel.parcel in
    let only = first_is_only c.args.id c.args.pairs.now c.from_parcel.result.now c.from_parcel.ensures c.requires
    parcel _ (sym c.new.ensures ∙ c.in_ok-parcel.ensures.steps) zone in
    let b = c.if-parcel-id.then_some in
    let yes : b ≡ true → (parcel.id ≡ c.args.id) × (parcel.is_split ≡ false) =
    λ e. elim c.if-parcel-id.branch [
      | then-parcel-id w ↦ (w.if-parcel-id.true, not-true parcel.is_split (sym w.then_some-is ∙ e))
      | else-parcel-id w ↦ absurd (w.if-parcel-id.false (eqb-true parcel.id c.args.id (sym w.then_some-is ∙ e)))
    ] in
    let back : parcel.id ≡ c.args.id → parcel.is_split ≡ false → b ≡ true =
    λ e s. elim c.if-parcel-id.branch [
      | then-parcel-id w ↦ w.then_some-is ∙ ap not s
      | else-parcel-id w ↦ absurd (w.if-parcel-id.false e)
    ] in
    let answer = answers_zone b parcel c.args.id zone c.then_some.result c.then_some.ensures yes back in
    ((λ h. only.1 (answer.0 h)), (λ h. answer.1 (only.0 h)))

pub returns-in_err-parcel : goal.returns-in_err-parcel
returns-in_err-parcel c = λ zone.
    let none = none_is_only c.args.id c.args.pairs.now c.from_parcel.result.now c.from_parcel.ensures c.requires zone
    (sym c.new.ensures ∙ c.in_err-parcel.ensures.steps.0) in
    ((λ h. absurd (cc)), (λ h. absurd (none h)))
