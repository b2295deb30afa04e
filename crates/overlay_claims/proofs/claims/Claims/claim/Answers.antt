use Rattle.std.proofs.Common.{◌≡◌, ◌∙◌, ◌+◌, ◌%◌, ◌^◌, ℕ, List, sym, refl, length, set, ap, subst, arith}
use Rattle.std.specs.Prelude.{slice_index}
use Rattle.atomic_table.specs.Table.Act.{keeps}
use Rattle.overlay_claims.specs.declared.view.View.{View}
use Rattle.overlay_claims.specs.Claims.{Claims}
use Rattle.overlay_claims.specs.own.Spread.{word_of, IsClaimedApart}
use Rattle.overlay_claims.proofs.Spread.{adds_apart}
use Rattle.overlay_claims.proofs.claims.Claims.claim.Goals as goal

-- what a step on a list's word needs, where the word's number is that list's
at_word : (lengths words : List ℕ) (views : List View) (id : ℕ) (v : View) (list number : ℕ) → number ≡ word_of list
    → (w : View) × IsClaimedApart lengths (set words (word_of list) ((slice_index words (word_of list) + 1) % 2 ^ 64)) (set views id w)
    × Claims v list (slice_index words (word_of list)) w
    → (w : View) × IsClaimedApart lengths (set words number ((slice_index words number + 1) % 2 ^ 64)) (set views id w)
    × Claims v list (slice_index words number) w
at_word lengths words views id v list number is step =
    subst (λ (k : ℕ). (w : View) × IsClaimedApart lengths (set words k ((slice_index words k + 1) % 2 ^ 64)) (set views id w)
    × Claims v list (slice_index words k) w) (sym is) step

pub word_for-requires : goal.word_for-requires
word_for-requires g c =
    let lengths = ap (λ v. length v.lengths) c.self.view_is in
    omega (arith, c.self.invariant.3, lengths, c.requires.here)

pub fetch_add-found-requires : goal.fetch_add-found-requires
fetch_add-found-requires g c =
    let lengths = ap (λ v. length v.lengths) c.self.view_is in
    let same = ap length c.self.invariant.0 in (
      c.requires.own ∙ sym (ap (λ v. v.name) c.self.view_is),
      omega (arith, c.self.invariant.1, lengths, c.requires.here, c.word_for.ensures),
      λ s kept homes at small.
          let step = at_word _ s.words s.views c.args.mark.now.id c.args.mark.now.me.0 c.args.list _ c.word_for.ensures
          (adds_apart _ s.words s.views c.args.mark.now.id c.args.mark.now.me.0 kept at c.args.list c.requires.not_noted
          (omega (arith, same, lengths, c.requires.here))) in
          (step.0, keeps, tt, step.1, (c.args.list, c.word_for.ensures, step.2, refl)),
    )
