use Rattle.std.proofs.Common.{◌≡◌, ◌++◌, ◌+◌, sym, ◌∙◌, ap, subst, arith, map, drop, append-nil, FitsSigned, w64}
use Rattle.std.proofs.Common.{rules, to_z, of_z}
use Rattle.std.specs.Int.{w128}
use Rattle.std.specs.List.{All}
use Rattle.std.specs.List.Sorted.{IsPermutation}
use Rattle.std.proofs.lemmas.Int.{to_z-of_z}
use Rattle.std.proofs.lemmas.List.{drop_all}
use Rattle.std.proofs.lemmas.List.Elements.{All-push}
use Rattle.std.proofs.lemmas.List.Sorted.{All-permutation, Contains-permutation, IsPermutation-map, IsPermutation-sym}
use Rattle.edge_chains.specs.declared.lines.Ranked.{Ranked}
use Rattle.edge_chains.specs.own.Lines.{rank_of}
use Rattle.edge_chains.proofs.edges.OnLines.{ranked_more}
use Rattle.edge_chains.proofs.lines.Lines.new.Goals as goal

pub loop-corner-preserved : goal.loop-corner-preserved
loop-corner-preserved g c =
    let f : FitsSigned w64 c.args.steps.across = search rules in
    let h : FitsSigned w64 c.args.steps.up = search rules in
    let r : FitsSigned w128 c.rank.result = search rules in
    record {
      corners = subst (λ xs. map (λ it. it.corner) xs ++ drop (c.loop-corner.corner-index + 1) c.args.corners.now ≡ c.args.corners.now)
          (sym c.in_ok-push.ensures.items)
          (ranked_more c.loop-corner.ranked.items c.args.corners.now c.loop-corner.corner-index
          (record { rank = to_z w128 (of_z w128 c.rank.result); corner = c.corner-item.result })
          c.loop-corner-test.true c.corner-item.is c.loop-corner.invariant.corners);
      ranks = subst (All (λ it. it.rank ≡ rank_of c.args.steps.across c.args.steps.up it.corner)) (sym c.in_ok-push.ensures.items)
          (All-push (λ it. it.rank ≡ rank_of c.args.steps.across c.args.steps.up it.corner) c.loop-corner.ranked.items
          _ c.loop-corner.invariant.ranks
          (simp to_z-of_z (simp to_z-of_z at c.rank.ensures)));
    }

pub invariant_of-result : goal.invariant_of-result
invariant_of-result g c =
    let f : FitsSigned w64 c.args.steps.across = search rules in
    let h : FitsSigned w64 c.args.steps.up = search rules in
    simp to_z-of_z (record {
      ranks = All-permutation (λ (it : Ranked). it.rank ≡ rank_of c.args.steps.across c.args.steps.up it.corner)
          c.loop-corner.ranked.items
          c.sort_unstable.new.self.items c.sort_unstable.ensures.permutation c.loop-corner.invariant.ranks;
      in_order = c.sort_unstable.ensures.sorted;
    })

pub returns-clause-corners : goal.returns-clause-corners
returns-clause-corners g c =
    let began : map (λ it. it.corner) c.loop-corner.ranked.items ≡ c.args.corners.now =
    sym (append-nil (map (λ it. it.corner) c.loop-corner.ranked.items))
    ∙ ap (λ xs. map (λ it. it.corner) c.loop-corner.ranked.items ++ xs)
    (sym (drop_all c.loop-corner.corner-index c.args.corners.now (omega (arith, c.loop-corner-test.false))))
    ∙ c.loop-corner.invariant.corners in
    let moved = subst (λ xs. IsPermutation xs (map (λ it. it.corner) c.sort_unstable.new.self.items)) began
    (IsPermutation-map (λ (it : Ranked). it.corner) c.loop-corner.ranked.items c.sort_unstable.new.self.items
    c.sort_unstable.ensures.permutation) in
    λ x. (
      λ k. Contains-permutation _ _ x (IsPermutation-sym _ _ moved) k,
      λ k. Contains-permutation _ _ x moved k,
    )
