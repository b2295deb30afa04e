-- The least edge of a list of numbered edges.
use Rattle.std.proofs.Common.{◌≡◌, ◌≢◌, refl, sym, ◌∙◌, ap, subst, Bool, true, false, cond, if◌then◌else◌, IsTrue}
use Rattle.std.proofs.Common.{ℕ}
use Rattle.std.proofs.Common.{ℤ, pos, neg_ℤ, List, [], ◌∷◌, ◌++◌, append_assoc, append-nil, Option, Some, None}
use Rattle.std.proofs.Common.{IsSome, IfNone, IfSome}
use Rattle.std.specs.Option.{unwrap_or}
use Rattle.std.specs.List.{All, AllByRecursion}
use Rattle.std.proofs.lemmas.List.Elements.{recursion_from_All}
use Rattle.std.specs.Map.{lookup}
use Rattle.std.proofs.lemmas.Bool.Decides.{not_from_Decides}
use Rattle.geo_exact.specs.declared.corner.Corner.{Corner}
use Rattle.edge_chains.specs.Counts.{Counts, is_edge_before, is_same_edge, number_at, net_at, AreCounts, IsFirstUnbalanced}
use Rattle.geo_exact.specs.Order.{is_before}
use Rattle.edge_chains.proofs.edges.Corners.{Decides-is_edge_before, edge_before_irreflexive, edge_before_transitive}
use Rattle.geo_exact.proofs.corners_and_turns.CornerOrder.{false_where}
use Rattle.edge_chains.proofs.nets.Changes.{Decides-is_same_edge}

-- no entry comes before the edge
abbrev pub NoneBefore : Corner × Corner → List ((Corner × Corner) × ℤ) → Type 0
NoneBefore edge entries = AllByRecursion (λ e. is_edge_before e.0 edge ≡ false) entries

-- the first of the entries done so far, which is an entry of all
abbrev pub IsFirstOf : List ((Corner × Corner) × ℤ) → Option ((Corner × Corner) × ℤ) → List ((Corner × Corner) × ℤ)
    → Type 0
IsFirstOf entries None done = done ≡ []
IsFirstOf entries (Some first) done = (lookup (is_same_edge first.0) entries ≡ Some first.1) × NoneBefore first.0 done

NoneBefore-push : (edge : Corner × Corner) (done : List ((Corner × Corner) × ℤ)) (e : (Corner × Corner) × ℤ)
    → NoneBefore edge done
    → is_edge_before e.0 edge ≡ false → NoneBefore edge (done ++ e ∷ [])
NoneBefore-push edge [] e h k = (k, tt)
NoneBefore-push edge (d ∷ done) e h k = (h.0, NoneBefore-push edge done e h.1 k)

not_before_itself : (p : Corner × Corner) → is_edge_before p p ≡ false
not_before_itself p = false_where (is_edge_before p p) (Decides-is_edge_before p p) (edge_before_irreflexive p)

-- what is not before the later one is not before the earlier one
NoneBefore-earlier : (p q : Corner × Corner) (done : List ((Corner × Corner) × ℤ)) → is_edge_before p q ≡ true
    → NoneBefore q done → NoneBefore p done
NoneBefore-earlier p q [] b h = tt
NoneBefore-earlier p q (d ∷ done) b h = (
  false_where (is_edge_before d.0 p) (Decides-is_edge_before d.0 p)
      (λ k. not_from_Decides (is_edge_before d.0 q) (Decides-is_edge_before d.0 q) h.0
      (edge_before_transitive d.0 p q k ((Decides-is_edge_before p q).0 b))),
  NoneBefore-earlier p q done b h.1,
)

pub IsFirstOf-start : (entries done : List ((Corner × Corner) × ℤ)) (e : (Corner × Corner) × ℤ)
    → lookup (is_same_edge e.0) entries ≡ Some e.1
    → done ≡ [] → IsFirstOf entries (Some e) (done ++ e ∷ [])
IsFirstOf-start entries done e l h = subst (λ d. IsFirstOf entries (Some e) (d ++ e ∷ [])) (sym h) (l, (not_before_itself e.0, tt))

pub IsFirstOf-replaced : (entries done : List ((Corner × Corner) × ℤ)) (f e : (Corner × Corner) × ℤ)
    → lookup (is_same_edge e.0) entries ≡ Some e.1
    → is_edge_before e.0 f.0 ≡ true → IsFirstOf entries (Some f) done → IsFirstOf entries (Some e) (done ++ e ∷ [])
IsFirstOf-replaced entries done f e l b h = (l, NoneBefore-push e.0 done e (NoneBefore-earlier e.0 f.0 done b h.1) (not_before_itself e.0))

pub IsFirstOf-kept : (entries done : List ((Corner × Corner) × ℤ)) (f e : (Corner × Corner) × ℤ)
    → is_edge_before e.0 f.0 ≡ false → IsFirstOf entries (Some f) done → IsFirstOf entries (Some f) (done ++ e ∷ [])
IsFirstOf-kept entries done f e b h = (h.0, NoneBefore-push f.0 done e h.1 b)

-- one more entry
pub IsFirstOf-more : (entries done : List ((Corner × Corner) × ℤ)) (first : Option ((Corner × Corner) × ℤ))
    (e next : (Corner × Corner) × ℤ)
    → lookup (is_same_edge e.0) entries ≡ Some e.1
    → IfNone first (next ≡ e) → IfSome first (λ f. next ≡ (if is_edge_before e.0 f.0 then e else f))
    → IsFirstOf entries first done → IsFirstOf entries (Some next) (done ++ e ∷ [])
IsFirstOf-more entries done None e next l only here h = subst (λ x. IsFirstOf entries (Some x) (done ++ e ∷ [])) (sym only)
    (IsFirstOf-start entries done e l h)
IsFirstOf-more entries done (Some f) e next l only here h =
    subst (λ x. IsFirstOf entries (Some x) (done ++ e ∷ [])) (sym here) (chosen (is_edge_before e.0 f.0) refl)
  where
    chosen : (t : Bool) → is_edge_before e.0 f.0 ≡ t → IsFirstOf entries (Some (if t then e else f)) (done ++ e ∷ [])
    chosen true b = IsFirstOf-replaced entries done f e l b h
    chosen false b = IsFirstOf-kept entries done f e b h

-- the entry behind those done
pub at_next : (P : (Corner × Corner) × ℤ → Type 0) (done rest : List ((Corner × Corner) × ℤ)) (e : (Corner × Corner) × ℤ)
    → AllByRecursion P (done ++ e ∷ rest) → P e
at_next P [] rest e h = h.0
at_next P (d ∷ done) rest e h = at_next P done rest e h.1

-- ---- at the end
pub net_at_of_none : (a b : Corner) → net_at [] a b ≡ pos 0
net_at_of_none a b = read (is_before a b) (is_before b a)
  where
    read : (x y : Bool) → (if x then pos 0 else (if y then pos 0 else pos 0)) ≡ pos 0
    read true y = refl
    read false true = refl
    read false false = refl

-- an entry that a look-up finds does not come before the first
found_not_before : (entries : List ((Corner × Corner) × ℤ)) (first q : Corner × Corner) (n : ℤ)
    → lookup (is_same_edge q) entries ≡ Some n
    → NoneBefore first entries → is_edge_before q first ≡ false
found_not_before [] first q n l h = cc
found_not_before (e ∷ entries) first q n l h = read (is_same_edge q e.0) (Decides-is_same_edge q e.0).0 l
    (λ k. found_not_before entries first q n k h.1)
  where
    read : (t : Bool) → (t ≡ true → (q.0 ≡ e.0.0) × (q.1 ≡ e.0.1))
        → cond t (Some e.1) (lookup (is_same_edge q) entries) ≡ Some n
        → (lookup (is_same_edge q) entries ≡ Some n → is_edge_before q first ≡ false) → is_edge_before q first ≡ false
    read true same k later = let s = same refl in ap (λ x. is_edge_before (x, q.1) first) s.0
        ∙ ap (λ y. is_edge_before (e.0.0, y) first) s.1 ∙ h.0
    read false same k later = later k

pub net_in_order : (counts : List ((Corner × Corner) × ℤ)) (a b : Corner) → is_before a b ≡ true → net_at counts a b
    ≡ number_at counts a b
net_in_order counts a b h =
    ap (λ t. if t then number_at counts a b else (if is_before b a then neg_ℤ (number_at counts b a) else pos 0)) h

pub found_where_not_zero : (o : Option ℤ) → unwrap_or o (pos 0) ≢ pos 0 → (n : ℤ) × (o ≡ Some n)
found_where_not_zero None h = absurd (h refl)
found_where_not_zero (Some n) h = (n, refl)

pub is_true : (t : Bool) → IsTrue t → t ≡ true
is_true true h = refl
is_true false h = cc

pub IsFirstUnbalanced-from_first : (sum : Counts) (first : (Corner × Corner) × ℤ) (n : ℕ) → AreCounts sum.counts n
    → IsFirstOf sum.counts (Some first) sum.counts → IsFirstUnbalanced sum first.0.0 first.0.1 first.1
IsFirstUnbalanced-from_first sum first n k h =
    let before : IsTrue (is_before first.0.0 first.0.1) = k.in_order first.0 (subst IsSome (sym h.0) refl) in
    record {
      in_order = before;
      number = net_in_order sum.counts first.0.0 first.0.1 (is_true (is_before first.0.0 first.0.1) before)
          ∙ ap (λ o. unwrap_or o (pos 0)) h.0;
      is_unbalanced = λ z. k.no_zero first.0 (h.0 ∙ ap Some z);
      is_least = λ c d cd u e.
          let found = found_where_not_zero (lookup (is_same_edge (c, d)) sum.counts)
          (λ z. u (net_in_order sum.counts c d (is_true (is_before c d) cd) ∙ z)) in
          let b : is_edge_before (c, d) first.0 ≡ false = found_not_before sum.counts first.0 (c, d) found.0 found.1 h.1 in
          contrary (is_edge_before (c, d) first.0) b e;
    }
  where
    contrary : (t : Bool) → t ≡ false → IsTrue t → ⊥
    contrary true e h = cc
    contrary false e h = cc

-- where nothing is left
pub IsFirstOf-whole : (counts done rest : List ((Corner × Corner) × ℤ)) (first : Option ((Corner × Corner) × ℤ))
    → rest ≡ [] → done ++ rest ≡ counts
    → IsFirstOf counts first done → IsFirstOf counts first counts
IsFirstOf-whole counts done rest first h e k =
    subst (IsFirstOf counts first) (sym (append-nil done) ∙ ap (λ r. done ++ r) (sym h) ∙ e) k

pub none_counted : (counts : List ((Corner × Corner) × ℤ)) → IsFirstOf counts None counts → (a b : Corner)
    → net_at counts a b ≡ pos 0
none_counted counts h a b = subst (λ es. net_at es a b ≡ pos 0) (sym h) (net_at_of_none a b)

-- a map's look-ups find each of its entries
abbrev pub FindsEach : List ((Corner × Corner) × ℤ) → Type 0
FindsEach entries = All (λ (e : (Corner × Corner) × ℤ). lookup (is_same_edge e.0) entries ≡ Some e.1) entries

pub found_next : (entries counts done left rest : List ((Corner × Corner) × ℤ)) (e : (Corner × Corner) × ℤ)
    → FindsEach entries → entries ≡ counts
    → done ++ left ≡ counts → left ≡ e ∷ rest → lookup (is_same_edge e.0) counts ≡ Some e.1
found_next entries counts done left rest e h v k l =
    let P : (Corner × Corner) × ℤ → Type 0 = λ x. lookup (is_same_edge x.0) counts ≡ Some x.1 in
    at_next P done rest e (subst (AllByRecursion P) (sym k ∙ ap (λ r. done ++ r) l) (recursion_from_All P counts (subst FindsEach v h)))

pub one_more_done : (counts done left rest : List ((Corner × Corner) × ℤ)) (e : (Corner × Corner) × ℤ)
    → done ++ left ≡ counts → left ≡ e ∷ rest
    → (done ++ e ∷ []) ++ rest ≡ counts
one_more_done counts done left rest e k l = append_assoc done (e ∷ []) rest ∙ ap (λ r. done ++ r) (sym l) ∙ k

pub if_none_always : {T : Type 0} (P : Type 0) (o : Option T) → P → IfNone o P
if_none_always P None p = p
if_none_always P (Some x) p = tt
