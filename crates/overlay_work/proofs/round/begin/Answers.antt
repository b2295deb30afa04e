use Rattle.std.proofs.Common.{◌≡◌, ◌∙◌, sym, ap, arith, ℕ, length, List, map}
use Rattle.std.proofs.lemmas.List.{length-map}
use Rattle.overlay_claims.specs.Claimants.{fresh_hands}
use Rattle.overlay_work.specs.Rounds.{Task}
use Rattle.overlay_work.proofs.Places.{map_map}
use Rattle.overlay_work.proofs.Hands.{rows_few, short_lists}
use Rattle.overlay_work.proofs.round.begin.Goals as goal

pub open-requires-clause-short : goal.open-requires-clause-short
open-requires-clause-short g c =
    let lists : List (List ℕ) = map (λ list. list.items) c.args.lists.items in
    let lengths = c.in_ok-lengths.ensures ∙ ap (map (λ list. length list.items)) c.as_slice.ensures.value
    ∙ sym (map_map (λ list. list.items) (λ list. length list) c.args.lists.items) in
    let few = rows_few c.args.sheet.now.now.rows c.use_invariant.ensures.simple in
    short_lists c.args.sheet.now.now.rows lists c.in_ok-lengths.lengths.items c.requires.sharing lengths
    (omega (arith, few, c.use_invariant.ensures.within.together))

pub returns-clause-claimants : goal.returns-clause-claimants
returns-clause-claimants g c =
    let lists : List (List ℕ) = map (λ list. list.items) c.args.lists.items in
    let lengths = c.in_ok-lengths.ensures ∙ ap (map (λ list. length list.items)) c.as_slice.ensures.value in
    let count : length c.in_ok-lengths.lengths.items ≡ length c.args.lists.items = ap length lengths
    ∙ length-map c.args.lists.items (λ list. length list.items) in
    let claims = ap (λ (t : Task). t.claims) (c.in_ok-work.ensures.ok ∙ c.new.ensures) in
    c.in_ok-claims.ensures.hands ∙ ap (fresh_hands c.in_ok-claims.claims) count
    ∙ ap (λ l. fresh_hands l (length c.args.lists.items)) (sym claims)
