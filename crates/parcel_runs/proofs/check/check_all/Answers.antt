use Rattle.std.proofs.Common.{rules, ◌≤◌, length, ◌≡◌, ◌⊎◌, inl, inr, refl, subst}
use Rattle.std.specs.Io.KnownBytes.{Appends}
use Rattle.text_pieces.specs.Beginnings.{AppendsBeginning}
use Rattle.geo_exact.specs.declared.limits.TheConstants.{LIST_CORNERS}
use Rattle.parcel_runs.specs.RunFiles.{parcel_run_of}
use Rattle.parcel_runs.specs.RunFaults.{IsRunFault}
use Rattle.city_layers.specs.FaultLines.{text_or_none}
use Rattle.city_layers.specs.declared.fault.ToolFault.TheVariants.{NoMemory}
use Rattle.parcel_runs.proofs.LinesWritten.{lines_written, none_written, lines_begun}
use Rattle.parcel_runs.proofs.CityLimit.{city_short}
use Rattle.geo_exact.proofs.PassedOn.{passed_if, passed_is}
use Rattle.parcel_runs.proofs.RunFaults.{same_want, no_output, want_no_output}
use Rattle.parcel_runs.proofs.RunTexts.{check_text}
use Rattle.parcel_runs.proofs.check.check_all.Goals as goal

pub checked_text-requires-clause-short : goal.checked_text-requires-clause-short
checked_text-requires-clause-short g c =
    let city = c.in-Ok.ensures.tiles.is_city in
    let short : length c.in-Ok.inputs.layer.city ≤ LIST_CORNERS =
    city_short _ _ _ city (c.a_layer_file_is_within_the_limits.ensures.corners _ _ _ _ city.is_only) in
    search (rules, short)

pub returns-in_ok-put_all-in-Ok-clause-ok : goal.returns-in_ok-put_all-in-Ok-clause-ok
returns-in_ok-put_all-in-Ok-clause-ok g c =
    record {
      text = c.in_ok-text-in-Ok.text.items;
      is_check = check_text (parcel_run_of c.args.files.now)
          c.in-Ok.inputs.layer c.in-Ok.inputs.clerks.items c.in_ok-text-in-Ok.text.items c.in-Ok.ensures.tiles
          c.in-Ok.ensures.edits c.in_ok-text-in-Ok.ensures.text;
      is_written = subst (Appends (g.W.ByteOut.written c.args.out.now) (g.W.ByteOut.written c.put_all.new.out))
          c.as_slice.ensures.value c.in_ok-put_all-in-Ok.ensures.ok;
    }

pub returns-in_err-put_all-in-Ok-clause-output : goal.returns-in_err-put_all-in-Ok-clause-output
returns-in_err-put_all-in-Ok-clause-output g c = λ h. inl record {
  text = c.in_ok-text-in-Ok.text.items;
  is_check = check_text (parcel_run_of c.args.files.now)
      c.in-Ok.inputs.layer c.in-Ok.inputs.clerks.items c.in_ok-text-in-Ok.text.items c.in-Ok.ensures.tiles
      c.in-Ok.ensures.edits c.in_ok-text-in-Ok.ensures.text;
  is_begun = subst (AppendsBeginning (g.W.ByteOut.written c.args.out.now) (g.W.ByteOut.written c.put_all.new.out))
      c.as_slice.ensures.value c.in_err-put_all-in-Ok.ensures.err;
}

pub returns-in_err-put_lines-in-Err-clause-output : goal.returns-in_err-put_lines-in-Err-clause-output
returns-in_err-put_lines-in-Err-clause-output g c = λ h.
    inr (lines_begun (parcel_run_of c.args.files.now)
    c.in-Err.refusal.fault (text_or_none c.in-Err.refusal.lines) c.lines.result.now (g.W.ByteOut.written c.args.out.now) _
    c.lines.ensures c.in_err-put_lines-in-Err.ensures.err c.in-Err.ensures.fault)

pub returns-in_ok-put_lines-in-Err-clause-fault : goal.returns-in_ok-put_lines-in-Err-clause-fault
returns-in_ok-put_lines-in-Err-clause-fault g c =
    lines_written (parcel_run_of c.args.files.now) c.in-Err.refusal.fault
    (text_or_none c.in-Err.refusal.lines)
    c.lines.result.now (g.W.ByteOut.written c.args.out.now) _ (length c.args.files.now.clerks.items) c.lines.ensures
    c.in_ok-put_lines-in-Err.ensures.ok c.in-Err.ensures.fault

pub returns-in_ok-put_lines-in-Err-clause-refuses : goal.returns-in_ok-put_lines-in-Err-clause-refuses
returns-in_ok-put_lines-in-Err-clause-refuses g c = λ fault h. elim (c.in-Err.ensures.refuses fault h) [
  | inl e ↦ inl e
  | inr e ↦ inr (inl e)
]

pub returns-in_err-text-in-Ok-clause-fault : goal.returns-in_err-text-in-Ok-clause-fault
returns-in_err-text-in-Ok-clause-fault g c =
    let want = same_want c.args.files.now.clerks.items c.in-Ok.inputs.clerks.items _ c.in-Ok.ensures.edits
    c.in_err-text-in-Ok.ensures.fault in
    passed_if _ _ _ c.from_residual.ensures.1 (inl (
      inr want,
      none_written (parcel_run_of c.args.files.now) _ (g.W.ByteOut.written c.args.out.now)
          (length c.args.files.now.clerks.items) want,
    ))

pub returns-in_err-text-in-Ok-clause-failed : goal.returns-in_err-text-in-Ok-clause-failed
returns-in_err-text-in-Ok-clause-failed g c = λ h.
    absurd (want_no_output (length c.in-Ok.inputs.clerks.items) _ c.in_err-text-in-Ok.ensures.fault
    (passed_is _ _ _ c.from_residual.ensures.1 h))

pub returns-in_err-text-in-Ok-clause-output : goal.returns-in_err-text-in-Ok-clause-output
returns-in_err-text-in-Ok-clause-output g c = λ h.
    absurd (want_no_output (length c.in-Ok.inputs.clerks.items) _ c.in_err-text-in-Ok.ensures.fault
    (passed_is _ _ _ c.from_residual.ensures.1 h))

pub returns-in_err-text-in-Ok-clause-refuses : goal.returns-in_err-text-in-Ok-clause-refuses
returns-in_err-text-in-Ok-clause-refuses g c = λ fault h. absurd (c.in-Ok.ensures.refuses fault h)

pub returns-in_ok-put_lines-in-Err-clause-output : goal.returns-in_ok-put_lines-in-Err-clause-output
returns-in_ok-put_lines-in-Err-clause-output g c = λ h.
    let fault = c.in-Err.refusal.fault in
    let answered : IsRunFault (parcel_run_of c.args.files.now) fault ⊎ (fault ≡ NoMemory) =
    elim c.in-Err.ensures.fault [ inl k ↦ inl k.0 | inr k ↦ inr k.0 ] in
    absurd (no_output _ fault answered (passed_is _ fault _ refl h))

pub returns-in_ok-put_lines-in-Err-clause-failed : goal.returns-in_ok-put_lines-in-Err-clause-failed
returns-in_ok-put_lines-in-Err-clause-failed g c = λ h.
    let fault = c.in-Err.refusal.fault in
    let answered : IsRunFault (parcel_run_of c.args.files.now) fault ⊎ (fault ≡ NoMemory) =
    elim c.in-Err.ensures.fault [ inl k ↦ inl k.0 | inr k ↦ inr k.0 ] in
    absurd (no_output _ fault answered (passed_is _ fault _ refl h))
