use Rattle.std.proofs.Common.{◌≢◌, ◌∙◌, ap, arith, length, get_or, below_more, ◌++◌, ◌∷◌, []}
use Rattle.std.proofs.lemmas.List.{get_or_append_left, get_or_push, length_push}
use Rattle.ring_core.specs.declared.kind.Kind.TheVariants.{Flat, Blocked}
use Rattle.ring_core.specs.own.Kinds.{IsKind}
use Rattle.ring_core.proofs.kind.kinds_of.Goals as goal

pub loop-k-preserved : goal.loop-k-preserved
loop-k-preserved g c =
    let corners = c.args.corners.now in let kinds = c.loop-k.kinds.items in let kind = c.kind_at.result in let k = c.loop-k.k in
    record {
      so_long = ap length {y = kinds ++ kind ∷ []} c.in_ok-push.ensures.items ∙ length_push kinds kind
          ∙ omega (arith, c.loop-k.invariant.so_long);
      each = λ numbers. rw c.in_ok-push.ensures.items (below_more
          (λ i. IsKind corners numbers i (get_or (kinds ++ kind ∷ []) i Flat)) k
          (λ i q. rw (get_or_append_left kinds (kind ∷ []) Flat i (omega (arith, c.loop-k.invariant.so_long)))
          (c.loop-k.invariant.each numbers i q))
          (rw (get_or_push kinds kind Flat k c.loop-k.invariant.so_long) (c.kind_at.ensures.is_kind numbers)));
      unblocked = λ n. rw c.in_ok-push.ensures.items (below_more (λ i. get_or (kinds ++ kind ∷ []) i Flat ≢ Blocked n) k
          (λ i q. rw (get_or_append_left kinds (kind ∷ []) Flat i (omega (arith, c.loop-k.invariant.so_long)))
          (c.loop-k.invariant.unblocked n i q))
          (rw (get_or_push kinds kind Flat k c.loop-k.invariant.so_long) (c.kind_at.ensures.unblocked n)));
    }
