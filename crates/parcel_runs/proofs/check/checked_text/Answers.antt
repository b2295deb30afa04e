use Rattle.std.proofs.Common.{◌≤◌, ap, sym, subst, length}
use Rattle.geo_exact.specs.declared.limits.TheConstants.{LIST_CORNERS}
use Rattle.clerk_runs.specs.ClerkRuns.{register_of}
use Rattle.parcel_runs.proofs.check.checked_text.Goals as goal

pub push_sheet_tiling-requires : goal.push_sheet_tiling-requires
push_sheet_tiling-requires g c = subst (λ n. n ≤ LIST_CORNERS) (sym (ap length c.in_ok-sheet.ensures.city)) c.requires.short

pub returns-clause-text : goal.returns-clause-text
returns-clause-text g c =
    let edited = c.in_ok-sheet.field-0 in (
      register_of edited.sheet,
      edited.lines.items,
      c.in_ok-sheet.ensures.made,
      rw (← c.in_ok-sheet.ensures.city) c.in_ok-push_sheet_tiling.ensures.ok,
    )
