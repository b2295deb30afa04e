use Rattle.std.proofs.Common.{◌≢◌, ◌<◌, ◌∙◌, inl, inr, refl, ap, sym, subst, arith, below_more, length, get_or}
use Rattle.std.proofs.Common.{slice_set}
use Rattle.std.proofs.lemmas.Bool.{false≢true}
use Rattle.std.proofs.lemmas.List.{get_or-set_same, get_or-set_other, length-set}
use Rattle.ring_core.specs.declared.kind.Kind.TheVariants.{Flat, Candidate, Blocked}
use Rattle.ring_core.specs.Clipping.{IsEar}
use Rattle.ring_core.specs.own.Kinds.{IsKind, IsMarked, TurnsLeft}
use Rattle.ring_core.proofs.clipping.KindsTell.{blocked_no_candidate, blocked_not_flat, blocked_number}
use Rattle.ring_core.proofs.clipping.KindsTell.{ear_is_candidate, kinds_set, marked_set}
use Rattle.ring_core.proofs.ears.LeftSimple.{same_or}
use Rattle.ring_core.proofs.kind.first_ear.Goals as goal
use Rattle.ring_core.proofs.kind.first_ear.Goals.{then-is_candidate+in-Some, else-is_candidate}

pub loop-k-init : goal.loop-k-init
loop-k-init g c =
    let corners = c.args.corners.now in let numbers = c.args.numbers.now in let kinds = c.args.kinds.now in
    let are = c.requires.kinds in record {
      are = are;
      marked = c.requires.marked;
      others = λ j e. e;
      seen = c.requires.seen;
      none_before = λ j b in_rest x.
          c.requires.seen j b (omega (arith, are.same_length, in_rest))
          (ear_is_candidate corners numbers j (get_or kinds j Flat) (are.each j in_rest) x);
    }

pub witness_of-requires-clause-turns_left : goal.witness_of-requires-clause-turns_left
witness_of-requires-clause-turns_left g c =
    let corners = c.args.corners.now in let numbers = c.args.numbers.now in let kinds = c.loop-k.kinds in let k = c.loop-k.k in
    let below : k < length corners = omega (arith, c.loop-k.invariant.are.same_length, c.loop-k.auto.kinds) in
    subst (IsKind corners numbers k) (c.is_candidate.ensures.0 c.if-is_candidate.true)
    (c.loop-k.invariant.are.each k below)

pub returns-in_default-clause-ear : goal.returns-in_default-clause-ear
returns-in_default-clause-ear g c = λ below.
    let corners = c.args.corners.now in let numbers = c.args.numbers.now in let kinds = c.loop-k.kinds in let k = c.loop-k.k in
    let left : TurnsLeft corners k =
    subst (IsKind corners numbers k) (c.is_candidate.ensures.0 c.if-is_candidate.true)
    (c.loop-k.invariant.are.each k below) in
    record {
      below = below;
      has = record { turns_left = left; is_empty = c.in_default.ensures };
      none_before = λ j b. c.loop-k.invariant.none_before j b (omega (arith, b, below));
    }

pub loop-k-preserved : goal.loop-k-preserved
loop-k-preserved g c =
    let corners = c.args.corners.now in let numbers = c.args.numbers.now in let kinds = c.loop-k.kinds in let k = c.loop-k.k in
    let inv = c.loop-k.invariant in
    let are = inv.are in
    let below : k < length corners = omega (arith, are.same_length, c.loop-k.auto.kinds) in
    let here : k < length kinds = omega (arith, c.loop-k.auto.kinds) in
    elim c.if-is_candidate.branch [
      | then-is_candidate+in-Some w ↦
          let left : TurnsLeft corners k =
          subst (IsKind corners numbers k) (c.is_candidate.ensures.0 w.if-is_candidate.true) (are.each k below) in
          let found = w.in-Some.ensures in let witness = get_or numbers w.in-Some.j 0 in let blocked = Blocked witness in
          let number = get_or numbers k 0 in let marks = w.mark.new.marks in
          record {
            are = record {
              same_length = omega (arith, c.if-is_candidate.auto.kinds, are.same_length, c.loop-k.auto.kinds);
              each = rw w.kinds-is (kinds_set corners numbers kinds k blocked here are
                  (left, (w.in-Some.j, found.0, refl, found.1)));
            };
            marked = rw (w.kinds-is, w.marks-is) (marked_set kinds numbers marks k blocked here
                (λ j n b e. w.mark.ensures.kept n (get_or numbers j 0) (inv.marked j n b e))
                (λ n e. subst (λ n. IsMarked marks n number) (blocked_number witness n e) w.mark.ensures.marked));
            others = rw w.kinds-is (λ j e. elim (same_or j k) [
              | inl x ↦ absurd (blocked_not_flat witness
                  (sym (get_or-set_same kinds k blocked Flat here) ∙ ap (λ i. get_or (slice_set kinds k blocked) i Flat) (sym x) ∙ e))
              | inr off ↦ inv.others j (sym (get_or-set_other kinds k j blocked Flat off) ∙ e)
            ]);
            seen = rw w.kinds-is (λ j b in_kinds e. elim (same_or j k) [
              | inl x ↦ blocked_no_candidate witness
                  (sym (get_or-set_same kinds k blocked Flat here) ∙ ap (λ i. get_or (slice_set kinds k blocked) i Flat) (sym x) ∙ e)
              | inr off ↦ inv.seen j (omega (arith, b, off)) (omega (arith, length-set kinds k blocked, in_kinds))
                  (sym (get_or-set_other kinds k j blocked Flat off) ∙ e)
            ]);
            none_before = below_more (λ j. j < length corners → ¬ IsEar corners j) k inv.none_before
                (λ _ x. x.is_empty w.in-Some.j found.0 found.1);
          }
      | else-is_candidate w ↦
          let no_candidate : get_or kinds k Flat ≢ Candidate =
          λ e. false≢true (sym w.if-is_candidate.false ∙ c.is_candidate.ensures.1 e) in record {
            are = rw w.kinds-is are;
            marked = rw (w.kinds-is, w.marks-is) inv.marked;
            others = rw w.kinds-is inv.others;
            seen = rw w.kinds-is (below_more (λ j. j < length kinds → get_or kinds j Flat ≢ Candidate) k inv.seen
                (λ _. no_candidate));
            none_before = below_more (λ j. j < length corners → ¬ IsEar corners j) k inv.none_before
                (λ _ x. no_candidate (ear_is_candidate corners numbers k (get_or kinds k Flat) (are.each k below) x));
          }
    ]

pub returns-clause-none : goal.returns-clause-none
returns-clause-none g c = λ e j b.
    c.loop-k.invariant.none_before j (omega (arith, b, c.loop-k.invariant.are.same_length, c.loop-k.auto.kinds)) b
