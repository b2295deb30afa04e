use Rattle.std.proofs.Common.{rules, ◌≡◌, ◌∙◌, sym, ap, subst, arith, ℕ, length, map, List, [], ◌<◌}
use Rattle.std.specs.Prelude.{slice_index, slice_index_or}
use Rattle.std.specs.List.{Contains}
use Rattle.std.specs.Vec.{vec_len}
use Rattle.std.proofs.lemmas.List.{get_or_default, length-map}
use Rattle.std.proofs.lemmas.List.Sorted.{Contains-permutation}
use Rattle.fabric_core.specs.Rows.{numbers}
use Rattle.overlay_work.specs.Sharing.{joined}
use Rattle.overlay_work.proofs.Places.{length_at, map_at, at_place}
use Rattle.overlay_work.proofs.work.Work.id_at.Goals as goal

-- the list at this place, and its length
pub index-requires-2 : goal.index-requires-2
index-requires-2 g c =
    let lists : List (List ℕ) = map (λ list. list.items) c.self.inside.lists.items in
    let list = c.index.result.now in
    let lengths : c.args.self.now.claims.lengths ≡ map (λ l. length l) lists =
    sym (ap (λ v. v.claims.lengths) c.self.view_is) ∙ c.self.invariant.1.lengths in
    let many : c.args.list < length c.self.inside.lists.items =
    (let a = ap length lengths in let b = length-map lists (λ (l : List ℕ). length l) in let d =
    length-map c.self.inside.lists.items (λ v. v.items) in omega (arith, a, b, d, c.requires.0)) in
    let at : slice_index_or lists c.args.list [] ≡ list.items =
    map_at (λ v. v.items) c.self.inside.lists.items c.args.list list [] many ∙ ap (λ v. v.items) (sym c.index.ensures) in
    let long : slice_index c.args.self.now.claims.lengths c.args.list ≡ length list.items =
    ap (λ l. slice_index l c.args.list) lengths ∙ length_at lists c.args.list ∙ ap length at in
    let count : vec_len list ≡ length list.items = search rules in
    omega (arith, long, count, c.requires.1)

pub returns-clause-here : goal.returns-clause-here
returns-clause-here g c =
    let lists : List (List ℕ) = map (λ list. list.items) c.self.inside.lists.items in
    let list = c.index.result.now in
    let lengths : c.args.self.now.claims.lengths ≡ map (λ l. length l) lists =
    sym (ap (λ v. v.claims.lengths) c.self.view_is) ∙ c.self.invariant.1.lengths in
    let many : c.args.list < length c.self.inside.lists.items =
    (let a = ap length lengths in let b = length-map lists (λ (l : List ℕ). length l) in let d =
    length-map c.self.inside.lists.items (λ v. v.items) in omega (arith, a, b, d, c.requires.0)) in
    let at : slice_index_or lists c.args.list [] ≡ list.items =
    map_at (λ v. v.items) c.self.inside.lists.items c.args.list list [] many ∙ ap (λ v. v.items) (sym c.index.ensures) in
    let less : c.args.place < length (slice_index_or lists c.args.list []) =
    subst (λ n. c.args.place < n) (ap (λ l. slice_index l c.args.list) lengths ∙ length_at lists c.args.list) c.requires.1 in
    let here = Contains-permutation (joined lists) (numbers c.self.inside.sheet.now.now.rows) _
    c.self.invariant.1.sharing.each_once (at_place lists c.args.list c.args.place less) in
    let is : slice_index (slice_index_or lists c.args.list []) c.args.place ≡ c.index-2.result.now =
    ap (λ l. slice_index l c.args.place) at ∙ get_or_default list.items c.args.place 0 c.index-2.result.now
    (subst (λ l. c.args.place < length l) at less) ∙ sym c.index-2.ensures in
    subst (λ rows. Contains (numbers rows) c.index-2.result.now) (ap (λ v. v.rows) c.self.view_is)
    (subst (Contains (numbers c.self.inside.sheet.now.now.rows)) is here)
