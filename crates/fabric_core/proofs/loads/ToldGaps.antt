-- The first gap and all gaps, as they are counted.
use Rattle.std.proofs.Common.{◌≡◌, inl, inr, sym, ◌∙◌, ap, subst, ℤ, List, [], ◌∷◌, IsTrue}
use Rattle.std.specs.List.{AllByRecursion, Contains}
use Rattle.geo_exact.specs.declared.corner.Corner.{Corner}
use Rattle.geo_exact.specs.Layers.{NumberedRing}
use Rattle.edge_chains.specs.Counts.{Counts, net_at, AreNetOf, IsFirstUnbalanced, is_edge_before}
use Rattle.edge_chains.specs.Jump.{net_difference}
use Rattle.edge_chains.specs.Unbalanced.{AreUnbalanced}
use Rattle.edge_chains.proofs.edges.Corners.{Decides-is_edge_before, edge_before_irreflexive, edge_before_transitive}
use Rattle.edge_chains.proofs.nodings.NodedEdges.{none_in_nil, Contains-here, Contains-cases}
use Rattle.edge_chains.proofs.nets.Firsts.{is_true}
use Rattle.fabric_core.specs.declared.layer.LoadFault.TheVariants.{Gap}
use Rattle.fabric_core.specs.Tiling.{corner_lists}
use Rattle.fabric_core.specs.Faults.{IsFirstGap, AreGaps}
use Rattle.fabric_core.proofs.loads.OneLoadFault.{one_gap}

-- ---- from the counts
net_of_rows : (sum : Counts) (rings : List (List Corner)) (refined : List Corner) → AreNetOf sum rings (refined ∷ [])
    → (rows : List NumberedRing) → corner_lists rows ≡ rings
    → (a b : Corner) → net_at sum.counts a b ≡ net_difference (corner_lists rows) (refined ∷ []) a b
net_of_rows sum rings refined net rows same a b = net a b ∙ ap (λ lists. net_difference lists (refined ∷ []) a b) (sym same)

pub first_counted : (sum : Counts) (rings : List (List Corner)) (refined : List Corner) (a b : Corner) (n : ℤ)
    → AreNetOf sum rings (refined ∷ [])
    → IsFirstUnbalanced sum a b n → (rows : List NumberedRing) → corner_lists rows ≡ rings → IsFirstGap rows refined a b n
first_counted sum rings refined a b n net first rows same = let is = net_of_rows sum rings refined net rows same in record {
  is_gap = record { in_order = first.in_order; is_net = sym (is a b) ∙ first.number; is_unbalanced = first.is_unbalanced };
  is_least = λ c d m gap. first.is_least c d gap.in_order (λ none. gap.is_unbalanced (sym gap.is_net ∙ sym (is c d) ∙ none));
}

pub all_counted : (sum : Counts) (rings : List (List Corner)) (refined : List Corner) (gaps : List (Corner × Corner × ℤ))
    → AreNetOf sum rings (refined ∷ [])
    → AreUnbalanced sum gaps → (rows : List NumberedRing) → corner_lists rows ≡ rings → AreGaps rows refined gaps
all_counted sum rings refined gaps net all rows same = let is = net_of_rows sum rings refined net rows same in record {
  ascend = all.ascend;
  exactly = λ a b n. (
    λ h. let k = (all.exactly a b n).0 h in record { in_order = k.0; is_net = sym (is a b) ∙ k.1; is_unbalanced = k.2 },
    λ gap. (all.exactly a b n).1 (gap.in_order, is a b ∙ gap.is_net, gap.is_unbalanced),
  );
}

-- ---- the first
not_behind : (first : Corner × Corner × ℤ) (rest : List (Corner × Corner × ℤ)) (c d : Corner) (n : ℤ)
    → AllByRecursion (λ later. IsTrue (is_edge_before (first.0, first.1) (later.0, later.1))) rest → Contains rest (c, d, n)
    → IsTrue (is_edge_before (c, d) (first.0, first.1)) → ⊥
not_behind first [] c d n h k e = none_in_nil (c, d, n) k
not_behind first (r ∷ rest) c d n h k e = elim (Contains-cases r rest (c, d, n) k) [
  | inl same ↦ never (subst (λ (t : Corner × Corner × ℤ). IsTrue (is_edge_before (first.0, first.1) (t.0, t.1))) same h.0) e
  | inr later ↦ not_behind first rest c d n h.1 later e
]
  where
    never : IsTrue (is_edge_before (first.0, first.1) (c, d)) → IsTrue (is_edge_before (c, d) (first.0, first.1)) → ⊥
    never x y =
        edge_before_irreflexive (c, d) (edge_before_transitive (c, d) (first.0, first.1) (c, d)
        ((Decides-is_edge_before (c, d) (first.0, first.1)).0 (is_true (is_edge_before (c, d) (first.0, first.1)) y))
        ((Decides-is_edge_before (first.0, first.1) (c, d)).0 (is_true (is_edge_before (first.0, first.1) (c, d)) x)))

first_of_gaps : (rows : List NumberedRing) (refined : List Corner) (first : Corner × Corner × ℤ) (rest : List (Corner × Corner × ℤ))
    → AreGaps rows refined (first ∷ rest) → IsFirstGap rows refined first.0 first.1 first.2
first_of_gaps rows refined first rest h = record {
  is_gap = (h.exactly first.0 first.1 first.2).0 (Contains-here first rest);
  is_least = λ c d n gap e. elim (Contains-cases first rest (c, d, n) ((h.exactly c d n).1 gap)) [
    | inl same ↦ edge_before_irreflexive (c, d) ((Decides-is_edge_before (c, d) (c, d)).0 (is_true (is_edge_before (c, d) (c, d))
        (subst (λ (t : Corner × Corner × ℤ). IsTrue (is_edge_before (c, d) (t.0, t.1))) same e)))
    | inr later ↦ not_behind first rest c d n h.ascend.0 later e
  ];
}

-- all gaps begin with the first
pub begun_by_first : (rows : List NumberedRing) (refined : List Corner) (a b : Corner) (n : ℤ) (gaps : List (Corner × Corner × ℤ))
    → AreGaps rows refined gaps → IsFirstGap rows refined a b n
    → (rest : List (Corner × Corner × ℤ)) × (gaps ≡ (a, b, n) ∷ rest)
begun_by_first rows refined a b n [] h first = absurd (none_in_nil (a, b, n) ((h.exactly a b n).1 first.is_gap))
begun_by_first rows refined a b n (t ∷ rest) h first = (
  rest,
  ap (λ gap. gap ∷ rest)
      (same t.0 t.1 t.2 (one_gap rows refined a b t.0 t.1 n t.2 first (first_of_gaps rows refined t rest h))),
)
  where
    same : (c d : Corner) (m : ℤ) → Gap a b n ≡ Gap c d m → ◌≡◌ {A = Corner × Corner × ℤ} (c, d, m) (a, b, n)
    same c d m e = cc
