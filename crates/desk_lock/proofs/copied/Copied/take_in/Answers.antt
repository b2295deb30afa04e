use Rattle.std.proofs.Common.{◌≡◌, Bor, arith, sym, subst}
use Rattle.std.proofs.lemmas.Bool.Decides.{nat_tests}
use Rattle.fabric_core.specs.Journal.{Book}
use Rattle.entry_cards.specs.Cards.{IsClerk}
use Rattle.desk_lock.specs.Offices.{IsOfOrigin, AreOfClerks, behind}
use Rattle.desk_lock.proofs.Behind.{takes_in}
use Rattle.desk_lock.proofs.Clerks.{of_clerks_more}
use Rattle.desk_lock.proofs.copied.Copied.take_in.Goals as goal
use Rattle.desk_lock.proofs.copied.Copied.take_in.Goals.{in-Ok, in-Err-NotDue, in-Err-NoMemory}

pub invariant_of-self : goal.invariant_of-self
invariant_of-self g c =
    let office = g.J.Naming-1.office in
    let old = c.self.inside.fabric in
    let new = c.follow.new.self in
    let is_clerk : IsClerk office.clerks c.args.entry.now.clerk = record {
      from_one = grind (arith, nat_tests, c.if-clerk-eq0.false);
      to_n = grind (arith, nat_tests, c.if-clerk-self.false, c.self.invariant.1);
    } in
    elim c.match-follow.branch [
      | in-Ok w ↦
          let taken = takes_in office.origin old new c.args.entry.now c.self.invariant.0 c.follow.ensures.city c.follow.ensures.opening
          w.in-Ok.ensures.journal in (
            taken.0,
            c.self.invariant.1,
            of_clerks_more office.clerks (behind office.origin old.journal) (behind office.origin new.journal) c.args.entry.now
                taken.1 c.self.invariant.2 is_clerk,
          )
      | in-Err-NotDue w ↦
          subst (λ (book : Book (Bor g.row.H.Denot)). IsOfOrigin office.origin book × (c.self.inside.clerks ≡ office.clerks)
          × AreOfClerks office.clerks (behind office.origin book.journal)) (sym w.in-Err-NotDue.ensures.unchanged) c.self.invariant
      | in-Err-NoMemory w ↦
          subst (λ (book : Book (Bor g.row.H.Denot)). IsOfOrigin office.origin book × (c.self.inside.clerks ≡ office.clerks)
          × AreOfClerks office.clerks (behind office.origin book.journal)) (sym w.in-Err-NoMemory.ensures.unchanged) c.self.invariant
    ]
