use Rattle.std.proofs.Common.{subst, inl, inr, refl}
use Rattle.geo_exact.proofs.PassedOn.{passed_if}
use Rattle.session_lines.specs.Lines.{Asks}
use Rattle.session_rooms.specs.Asked.{IsLineFault}
use Rattle.session_rooms.proofs.ClientWords.{fault_behind, no_edit}
use Rattle.session_rooms.proofs.answers.read_said.Goals as goal

pub returns-in_err-edit-clause-fault : goal.returns-in_err-edit-clause-fault
returns-in_err-edit-clause-fault g c =
    let line = c.args.line.now in
    passed_if c.from_residual-in_err-edit.result c.in_err-edit.field-0.0 (IsLineFault g.row.A.Denot line)
    c.from_residual-in_err-edit.ensures.1
    (fault_behind line c.in-Some.who.now c.in-Some.said.now c.in_err-edit.field-0.0 c.in-Some.ensures.said c.in-Some.ensures.only
    c.in_err-edit.ensures.fault)

pub returns-in-Edit-clause-asked : goal.returns-in-Edit-clause-asked
returns-in-Edit-clause-asked g c = inr (record {
  said = c.in-Some.said.now;
  edit = c.in-Edit.edit;
  says_who = c.in-Some.ensures.said;
  asks = subst (λ asked. Asks c.in-Some.said.now asked) c.in-Edit.is c.in_ok-edit.ensures.asks;
  is_asked = refl;
})

pub returns-in_default-2 : goal.returns-in_default-2
returns-in_default-2 g c = record {
  asked = tt;
  fault = inl (
    refl,
    no_edit c.args.line.now c.in-Some.who.now c.in-Some.said.now c.in_ok-edit.field-0 c.in-Some.ensures.said c.in-Some.ensures.only
        c.in_default-2.not-Edit c.in_ok-edit.ensures.only,
  );
}
