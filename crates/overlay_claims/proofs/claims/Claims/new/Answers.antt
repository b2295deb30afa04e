use Rattle.std.proofs.Common.{rules, ◌≡◌, ◌∙◌, ◌*◌, length, arith}
use Rattle.overlay_claims.proofs.Spread.{begins_apart}
use Rattle.overlay_claims.proofs.claims.Claims.new.Goals as goal

pub of_words-requires : goal.of_words-requires
of_words-requires g c =
    let lists : c.len.result ≡ length c.args.lengths.items = search rules in
    let count : c.in-Some.count ≡ 16 * length c.args.lengths.items = omega (arith, c.in-Some.ensures, lists) in
    begins_apart _ _ c.in-Some.count count (c.as_slice.ensures.value ∙ c.in_ok-words.ensures.items_if_clones_equal (λ y e. e))
    c.requires.short
