use Rattle.std.proofs.Common.{inl, inr, refl, subst, length}
use Rattle.std.specs.Io.KnownBytes.{Appends}
use Rattle.text_pieces.specs.Beginnings.{AppendsBeginning}
use Rattle.parcel_runs.specs.RunFiles.{parcel_run_of}
use Rattle.parcel_runs.proofs.RunFaults.{same_want, no_output, want_no_output}
use Rattle.parcel_runs.proofs.RunTexts.{points_text}
use Rattle.geo_exact.proofs.PassedOn.{passed_on, passed_if, passed_is}
use Rattle.parcel_runs.proofs.locate.locate_text.Goals as goal

pub returns-in_err-inputs-clause-refuses : goal.returns-in_err-inputs-clause-refuses
returns-in_err-inputs-clause-refuses g c = λ fault h. passed_on _ _ _ c.from_residual.ensures.1 (elim h [
  | inl k ↦ c.in_err-inputs.ensures.refuses fault k
  | inr k ↦ elim c.in_err-inputs.ensures.fault [ inl l ↦ absurd (k.no_other c.in_err-inputs.field-0.0 l) | inr l ↦ inr l ]
])

pub returns-in_err-points-clause-fault : goal.returns-in_err-points-clause-fault
returns-in_err-points-clause-fault g c = passed_if _ _ _ c.from_residual-in_err-points.ensures.1 (elim c.in_err-points.ensures.fault [
  | inl k ↦ inl (
    inr record {
      tiles = c.in_ok-inputs.inputs.layer;
      are_tiles = c.in_ok-inputs.ensures.tiles;
      no_other = c.in_ok-inputs.ensures.refuses;
      number = k.0;
      is_first = k.2;
      is_told = k.1;
    },
    refl,
  )
  | inr e ↦ inr (inl (inl e, refl))
])

pub returns-in_err-points-clause-refuses : goal.returns-in_err-points-clause-refuses
returns-in_err-points-clause-refuses g c = λ fault h. passed_on _ _ _ c.from_residual-in_err-points.ensures.1 (elim h [
  | inl k ↦ absurd (c.in_ok-inputs.ensures.refuses fault k)
  | inr k ↦ rw k.is_told (c.in_err-points.ensures.refuses k.number k.is_first)
])

pub returns-in_err-lines-clause-refuses : goal.returns-in_err-lines-clause-refuses
returns-in_err-lines-clause-refuses g c = λ fault h. elim h [
  | inl k ↦ absurd (c.in_ok-inputs.ensures.refuses fault k)
  | inr k ↦ absurd (c.in_ok-points.ensures.refuses k.number k.is_first)
]

pub returns-in_err-put_all-clause-refuses : goal.returns-in_err-put_all-clause-refuses
returns-in_err-put_all-clause-refuses g c = λ fault h. elim h [
  | inl k ↦ absurd (c.in_ok-inputs.ensures.refuses fault k)
  | inr k ↦ absurd (c.in_ok-points.ensures.refuses k.number k.is_first)
]

pub returns-in_err-lines-clause-fault : goal.returns-in_err-lines-clause-fault
returns-in_err-lines-clause-fault g c = passed_if _ _ _ c.from_residual-in_err-lines.ensures.1
    (inr (inl (
      same_want c.args.files.now.clerks.items c.in_ok-inputs.inputs.clerks.items _ c.in_ok-inputs.ensures.edits
          c.in_err-lines.ensures.fault,
      refl,
    )))

pub returns-in_err-lines-clause-output : goal.returns-in_err-lines-clause-output
returns-in_err-lines-clause-output g c = λ h.
    absurd (want_no_output (length c.in_ok-inputs.inputs.clerks.items) _ c.in_err-lines.ensures.fault
    (passed_is _ _ _ c.from_residual-in_err-lines.ensures.1 h))

pub returns-in_err-lines-clause-failed : goal.returns-in_err-lines-clause-failed
returns-in_err-lines-clause-failed g c = λ h.
    absurd (want_no_output (length c.in_ok-inputs.inputs.clerks.items) _ c.in_err-lines.ensures.fault
    (passed_is _ _ _ c.from_residual-in_err-lines.ensures.1 h))

pub returns-in_err-put_all-clause-output : goal.returns-in_err-put_all-clause-output
returns-in_err-put_all-clause-output g c = λ h. record {
  points = c.in_ok-points.points.items;
  are_points = c.in_ok-points.ensures.points;
  are_begun = record {
    text = c.in_ok-lines.lines.items;
    are_places = rw (← c.deref.ensures.value)
        (points_text (parcel_run_of c.args.files.now)
        c.in_ok-inputs.inputs.layer c.in_ok-inputs.inputs.clerks.items c.in_ok-lines.lines.items c.in_ok-inputs.ensures.tiles
        c.in_ok-inputs.ensures.edits c.deref.result.now c.in_ok-lines.ensures.text);
    is_begun = subst (AppendsBeginning (g.W.ByteOut.written c.args.out.now) (g.W.ByteOut.written c.put_all.new.out))
        c.as_slice.ensures.value c.in_err-put_all.ensures.err;
  };
}

pub returns-clause-ok : goal.returns-clause-ok
returns-clause-ok g c = record {
  points = c.in_ok-points.points.items;
  are_points = c.in_ok-points.ensures.points;
  are_written = record {
    text = c.in_ok-lines.lines.items;
    are_places = rw (← c.deref.ensures.value)
        (points_text (parcel_run_of c.args.files.now)
        c.in_ok-inputs.inputs.layer c.in_ok-inputs.inputs.clerks.items c.in_ok-lines.lines.items c.in_ok-inputs.ensures.tiles
        c.in_ok-inputs.ensures.edits c.deref.result.now c.in_ok-lines.ensures.text);
    is_written = subst (Appends (g.W.ByteOut.written c.args.out.now) (g.W.ByteOut.written c.put_all.new.out))
        c.as_slice.ensures.value c.in_ok-put_all.ensures.ok;
  };
}

pub returns-clause-refuses : goal.returns-clause-refuses
returns-clause-refuses g c = λ fault h. elim h [
  | inl k ↦ absurd (c.in_ok-inputs.ensures.refuses fault k)
  | inr k ↦ absurd (c.in_ok-points.ensures.refuses k.number k.is_first)
]

pub returns-in_err-inputs-clause-output : goal.returns-in_err-inputs-clause-output
returns-in_err-inputs-clause-output g c = λ h.
    absurd (no_output (parcel_run_of c.args.files.now) c.in_err-inputs.field-0.0 c.in_err-inputs.ensures.fault
    (passed_is _ _ _ c.from_residual.ensures.1 h))

pub returns-in_err-inputs-clause-failed : goal.returns-in_err-inputs-clause-failed
returns-in_err-inputs-clause-failed g c = λ h.
    absurd (no_output (parcel_run_of c.args.files.now) c.in_err-inputs.field-0.0 c.in_err-inputs.ensures.fault
    (passed_is _ _ _ c.from_residual.ensures.1 h))
