-- How the numbers of edges change when an edge is counted.
use Rattle.std.proofs.Common.{◌≡◌, ◌≢◌, refl, sym, ◌∙◌, ap, subst, arith, ℕ, ◌+◌, ◌<◌, ◌≤◌, length}
use Rattle.std.proofs.Common.{get_or, drop, Bool, true, false}
use Rattle.std.proofs.Common.{cond, ◌&&◌, if◌then◌else◌, IsTrue, ℤ, pos, neg_ℤ, ◌+ℤ◌, ◌-ℤ◌, List}
use Rattle.std.proofs.Common.{[], ◌∷◌, Option, Some, None, IsSome, Result, Ok, Err, IsOk, OnOk}
use Rattle.std.specs.Option.{unwrap_or}
use Rattle.std.specs.Ordering.{int_eq}
use Rattle.std.specs.Map.{lookup}
use Rattle.std.proofs.lemmas.Int.{ints}
use Rattle.std.specs.Bool.{Decides}
use Rattle.std.proofs.lemmas.Bool.Decides.{Decides-int_eq, Decides-and}
use Rattle.geo_exact.specs.declared.corner.Corner.{Corner}
use Rattle.geo_exact.specs.Limit.{IsWithin}
use Rattle.geo_exact.specs.Rings.{Edge, path}
use Rattle.geo_exact.proofs.numbers.Dropped.{drop_item}
use Rattle.geo_exact.proofs.rings.EdgeSums.{edge_of}
use Rattle.geo_exact.proofs.numbers.Within.{within_more}
use Rattle.edge_chains.specs.Net.{net_of_edges}
use Rattle.geo_exact.specs.Order.{is_same, is_before}
use Rattle.edge_chains.specs.Counts.{is_same_edge, number_at, net_at, AreCounts}
use Rattle.edge_chains.specs.own.Sides.{entry_of, signed}
use Rattle.edge_chains.specs.declared.edge_sum.Side.{Side}
use Rattle.edge_chains.specs.declared.edge_sum.Side.TheVariants.{Added, Taken}
use Rattle.geo_exact.proofs.corners_and_turns.CornerOrder.{false_where, Decides-is_same, Decides-is_before, IsBefore}
use Rattle.geo_exact.proofs.corners_and_turns.CornerOrder.{before_irreflexive, before_asymmetric}

pub entry_of_zero : (n : ℤ) → n ≡ pos 0 → entry_of n ≡ None
entry_of_zero n h = ap (λ b. if b then None else Some n) ((Decides-int_eq n (pos 0)).1 h)

pub entry_of_other : (n : ℤ) → n ≢ pos 0 → entry_of n ≡ Some n
entry_of_other n h = ap (λ b. if b then None else Some n) (false_where (int_eq n (pos 0)) (Decides-int_eq n (pos 0)) h)

-- what holds on success, where there is success
pub from_on_ok : {T E : Type 0} (P : Type 0) (r : Result T E) → IsOk r → OnOk r P → P
from_on_ok P (Ok x) h k = k
from_on_ok P (Err e) h k = cc

-- the number of an entry is what it was made of
number_of_entry : (n : ℤ) → unwrap_or (entry_of n) (pos 0) ≡ n
number_of_entry n = read (int_eq n (pos 0)) (Decides-int_eq n (pos 0)).0
  where
    read : (b : Bool) → (b ≡ true → n ≡ pos 0) → unwrap_or (if b then None else Some n) (pos 0) ≡ n
    read true h = sym (h refl)
    read false h = refl

pub Decides-is_same_edge : (p q : Corner × Corner) → Decides (is_same_edge p q) ((p.0 ≡ q.0) × (p.1 ≡ q.1))
Decides-is_same_edge p q = Decides-and (is_same p.0 q.0) (is_same p.1 q.1) (Decides-is_same p.0 q.0) (Decides-is_same p.1 q.1)

-- the entries of `new` are those of `old` but at the edge a, b, whose number is `by` more
abbrev pub IsChanged : List ((Corner × Corner) × ℤ) → List ((Corner × Corner) × ℤ) → Corner → Corner → ℤ → Type 0
IsChanged old new a b by = (q : Corner × Corner)
    → lookup (is_same_edge q) new ≡ cond (is_same_edge (a, b) q) (entry_of (number_at old a b +ℤ by)) (lookup (is_same_edge q) old)

number_of_cond : (same : Bool) (n : ℤ) (o : Option ℤ) → unwrap_or (cond same (entry_of n) o) (pos 0)
    ≡ cond same n (unwrap_or o (pos 0))
number_of_cond true n o = number_of_entry n
number_of_cond false n o = refl

number_at_changed : (old new : List ((Corner × Corner) × ℤ)) (a b : Corner) (by : ℤ) → IsChanged old new a b by → (c d : Corner)
    → number_at new c d ≡ cond (is_same_edge (a, b) (c, d)) (number_at old a b +ℤ by) (number_at old c d)
number_at_changed old new a b by h c d =
    ap (λ o. unwrap_or o (pos 0)) (h (c, d))
    ∙ number_of_cond (is_same_edge (a, b) (c, d)) (number_at old a b +ℤ by) (lookup (is_same_edge (c, d)) old)

-- over the tests: c is before d, d before c, the edge is c, d, the edge is d, c
combined : (cd dc here there : Bool) (v by at_cd at_dc : ℤ)
    → (here ≡ true → v ≡ at_cd) → (there ≡ true → v ≡ at_dc) → (here ≡ true → cd ≡ true)
    → (there ≡ true → dc ≡ true) → (cd ≡ true → dc ≡ false)
    → (if cd then cond here (v +ℤ by) at_cd else (if dc then neg_ℤ (cond there (v +ℤ by) at_dc) else pos 0))
    ≡ (if cd then at_cd else (if dc then neg_ℤ at_dc else pos 0)) +ℤ cond here by (cond there (neg_ℤ by) (pos 0))
combined true true here there v by x y p q r s t = cc (t refl)
combined true false true there v by x y p q r s t = omega (arith, ints, p refl)
combined true false false true v by x y p q r s t = cc (s refl)
combined true false false false v by x y p q r s t = omega (arith, ints)
combined false dc true there v by x y p q r s t = cc (r refl)
combined false true false true v by x y p q r s t = omega (arith, ints, q refl)
combined false true false false v by x y p q r s t = omega (arith, ints)
combined false false false true v by x y p q r s t = cc (s refl)
combined false false false false v by x y p q r s t = refl

at_same : (counts : List ((Corner × Corner) × ℤ)) (a b c d : Corner) → (a ≡ c) × (b ≡ d) → number_at counts a b
    ≡ number_at counts c d
at_same counts a b c d e = ap (λ x. number_at counts x b) e.0 ∙ ap (λ y. number_at counts c y) e.1

-- what the edge a, b adds to the net number of c, d, where its own is `by` more
abbrev share : Corner → Corner → ℤ → Corner → Corner → ℤ
share a b by c d = cond (is_same_edge (a, b) (c, d)) by (cond (is_same_edge (a, b) (d, c)) (neg_ℤ by) (pos 0))

net_at_changed : (old new : List ((Corner × Corner) × ℤ)) (a b : Corner) (by : ℤ) → IsBefore a b
    → IsChanged old new a b by → (c d : Corner)
    → net_at new c d ≡ net_at old c d +ℤ share a b by c d
net_at_changed old new a b by before h c d =
    ap (λ n. if is_before c d then n else (if is_before d c then neg_ℤ (number_at new d c) else pos 0))
    (number_at_changed old new a b by h c d)
    ∙ ap (λ n. if is_before c d then cond (is_same_edge (a, b) (c, d)) (number_at old a b +ℤ by) (number_at old c d) else
    (if is_before d c then neg_ℤ n else pos 0)) (number_at_changed old new a b by h d c)
    ∙ combined (is_before c d) (is_before d c) (is_same_edge (a, b) (c, d)) (is_same_edge (a, b) (d, c))
    (number_at old a b) by (number_at old c d)
    (number_at old d c)
    (λ e. at_same old a b c d ((Decides-is_same_edge (a, b) (c, d)).0 e))
    (λ e. at_same old a b d c ((Decides-is_same_edge (a, b) (d, c)).0 e))
    (λ e. in_order_too c d ((Decides-is_same_edge (a, b) (c, d)).0 e))
    (λ e. in_order_too d c ((Decides-is_same_edge (a, b) (d, c)).0 e))
    (λ e. false_where (is_before d c) (Decides-is_before d c) (before_asymmetric c d ((Decides-is_before c d).0 e)))
  where
    in_order_too : (x y : Corner) → (a ≡ x) × (b ≡ y) → is_before x y ≡ true
    in_order_too x y e = (Decides-is_before x y).1 (subst (λ z. IsBefore x z) e.1 (subst (λ z. IsBefore z b) e.0 before))

-- ---- what one directed edge adds
one_up : (here there : Bool) → (here ≡ true → there ≡ false)
    → cond here (pos 1) (cond there (neg_ℤ (pos 1)) (pos 0)) ≡ pos ((if here then 1 else 0) + 0)
    -ℤ pos ((if there then 1 else 0) + 0)
one_up true true h = cc (h refl)
one_up true false h = refl
one_up false true h = refl
one_up false false h = refl

one_down : (p q r s : Bool) → (p && q ≡ true → r && s ≡ false)
    → cond (p && q) (neg_ℤ (pos 1)) (cond (r && s) (neg_ℤ (neg_ℤ (pos 1))) (pos 0)) ≡ pos ((if s && r then 1 else 0) + 0) -ℤ pos
    ((if q && p then 1 else 0) + 0)
one_down true true true true h = cc (h refl)
one_down true true true false h = refl
one_down true true false true h = refl
one_down true true false false h = refl
one_down true false true true h = refl
one_down true false true false h = refl
one_down true false false true h = refl
one_down true false false false h = refl
one_down false true true true h = refl
one_down false true true false h = refl
one_down false true false true h = refl
one_down false true false false h = refl
one_down false false true true h = refl
one_down false false true false h = refl
one_down false false false true h = refl
one_down false false false false h = refl

not_both : (a b c d : Corner) → IsBefore a b → is_same_edge (a, b) (c, d) ≡ true → is_same_edge (a, b) (d, c) ≡ false
not_both a b c d before e =
    false_where (is_same_edge (a, b) (d, c)) (Decides-is_same_edge (a, b) (d, c))
    (λ k. before_irreflexive a b before (k.0 ∙ sym (((Decides-is_same_edge (a, b) (c, d)).0 e).1)))

pub net_at_up : (old new : List ((Corner × Corner) × ℤ)) (a b : Corner) → IsBefore a b → IsChanged old new a b (pos 1)
    → (c d : Corner)
    → net_at new c d ≡ net_at old c d +ℤ net_of_edges (edge_of a b ∷ []) c d
net_at_up old new a b before h c d =
    net_at_changed old new a b (pos 1) before h c d
    ∙ ap (λ z. net_at old c d +ℤ z) (one_up (is_same_edge (a, b) (c, d)) (is_same_edge (a, b) (d, c)) (not_both a b c d before))

pub net_at_down : (old new : List ((Corner × Corner) × ℤ)) (a b : Corner) → IsBefore a b
    → IsChanged old new a b (neg_ℤ (pos 1)) → (c d : Corner)
    → net_at new c d ≡ net_at old c d +ℤ net_of_edges (edge_of b a ∷ []) c d
net_at_down old new a b before h c d =
    net_at_changed old new a b (neg_ℤ (pos 1)) before h c d
    ∙ ap (λ z. net_at old c d +ℤ z) (one_down (is_same a c) (is_same b d) (is_same a d) (is_same b c) (not_both a b c d before))

flat : (p q : Bool) → pos ((if p && q then 1 else 0) + 0) -ℤ pos ((if q && p then 1 else 0) + 0) ≡ pos 0
flat true true = refl
flat true false = refl
flat false true = refl
flat false false = refl

-- an edge of no length
pub net_of_no_length : (a b c d : Corner) → a ≡ b → net_of_edges (edge_of a b ∷ []) c d ≡ pos 0
net_of_no_length a b c d e = subst (λ z. net_of_edges (edge_of a z ∷ []) c d ≡ pos 0) e (flat (is_same a c) (is_same a d))

-- ---- that the counts stay well kept
changed_small : (same : Bool) (n : ℕ) (v by o : ℤ) → IsWithin n v → IsWithin 1 by → IsWithin n o
    → IsWithin (n + 1) (cond same (v +ℤ by) o)
changed_small true n v by o h k l = record { low = omega (arith, ints); high = omega (arith, ints) }
changed_small false n v by o h k l = record { low = omega (arith, ints); high = omega (arith, ints) }

no_zero_entry : (n : ℤ) → entry_of n ≢ Some (pos 0)
no_zero_entry n = read (int_eq n (pos 0)) (Decides-int_eq n (pos 0)).1
  where
    read : (b : Bool) → (n ≡ pos 0 → b ≡ true) → (if b then None else Some n) ≢ Some (pos 0)
    read true h = λ e. cc
    read false h = λ e. let z : n ≡ pos 0 = cc in cc (h z)

pub AreCounts-changed : (old new : List ((Corner × Corner) × ℤ)) (a b : Corner) (by : ℤ) (n : ℕ) → IsBefore a b
    → IsWithin 1 by → IsChanged old new a b by
    → AreCounts old n → AreCounts new (n + 1)
AreCounts-changed old new a b by n before one h k = record {
  in_order = λ q s. in_order_at q (is_same_edge (a, b) q) (Decides-is_same_edge (a, b) q).0 (subst IsSome (h q) s);
  no_zero = λ q e. no_zero_at q (is_same_edge (a, b) q) (sym (h q) ∙ e);
  small = λ q. subst (IsWithin (n + 1)) (sym (number_at_changed old new a b by h q.0 q.1))
      (changed_small (is_same_edge (a, b) q) n (number_at old a b) by (number_at old q.0 q.1) (k.small (a, b)) one (k.small q));
}
  where
    in_order_at : (q : Corner × Corner) (same : Bool) → (same ≡ true → (a ≡ q.0) × (b ≡ q.1))
        → IsSome (cond same (entry_of (number_at old a b +ℤ by)) (lookup (is_same_edge q) old)) → IsTrue (is_before q.0 q.1)
    in_order_at q true e s = truth (is_before q.0 q.1) ((Decides-is_before q.0 q.1).1
        (subst (λ z. IsBefore q.0 z) (e refl).1 (subst (λ z. IsBefore z b) (e refl).0 before)))
      where
        truth : (t : Bool) → t ≡ true → IsTrue t
        truth true u = refl
        truth false u = cc
    in_order_at q false e s = k.in_order q s

    no_zero_at : (q : Corner × Corner) (same : Bool) → cond same (entry_of (number_at old a b +ℤ by))
        (lookup (is_same_edge q) old) ≢ Some (pos 0)
    no_zero_at q true = no_zero_entry (number_at old a b +ℤ by)
    no_zero_at q false = k.no_zero q

-- ---- the net number over lists of edges
turned_round_tests : (p q r s : Bool) → pos ((if q && p then 1 else 0) + 0) -ℤ pos ((if s && r then 1 else 0) + 0) ≡ neg_ℤ
    (pos ((if r && s then 1 else 0) + 0) -ℤ pos ((if p && q then 1 else 0) + 0))
turned_round_tests true true true true = refl
turned_round_tests true true true false = refl
turned_round_tests true true false true = refl
turned_round_tests true true false false = refl
turned_round_tests true false true true = refl
turned_round_tests true false true false = refl
turned_round_tests true false false true = refl
turned_round_tests true false false false = refl
turned_round_tests false true true true = refl
turned_round_tests false true true false = refl
turned_round_tests false true false true = refl
turned_round_tests false true false false = refl
turned_round_tests false false true true = refl
turned_round_tests false false true false = refl
turned_round_tests false false false true = refl
turned_round_tests false false false false = refl

pub net_of_turned : (from to a b : Corner) → net_of_edges (edge_of to from ∷ []) a b
    ≡ neg_ℤ (net_of_edges (edge_of from to ∷ []) a b)
net_of_turned from to a b = turned_round_tests (is_same from b) (is_same to a) (is_same from a) (is_same to b)

pub net_of_cons : (edge : Edge) (es : List Edge) (a b : Corner) → net_of_edges (edge ∷ es) a b
    ≡ net_of_edges (edge ∷ []) a b +ℤ net_of_edges es a b
net_of_cons edge es a b = omega (arith, ints)

pub signed_more : (side : Side) (x y z : ℤ) → z ≡ x +ℤ y → signed side z ≡ signed side x +ℤ signed side y
signed_more Added x y z h = h
signed_more Taken x y z h = omega (arith, ints)

pub AreCounts-upto : (counts : List ((Corner × Corner) × ℤ)) (m n : ℕ) → m ≤ n → AreCounts counts m → AreCounts counts n
AreCounts-upto counts m n l h = record { in_order = h.in_order; no_zero = h.no_zero; small = λ q. within_more l (h.small q) }

-- a loop's step over a ring's corners
pub counted_more : (side : Side) (before after whole : ℤ) (from to last : Corner) (rest : List Corner) (i : ℕ) (a b : Corner)
    → i < length rest → to ≡ get_or rest i to
    → after ≡ before +ℤ signed side (net_of_edges (edge_of from to ∷ []) a b)
    → before +ℤ signed side (net_of_edges (path from (drop i rest) last) a b) ≡ whole
    → after +ℤ signed side (net_of_edges (path to (drop (i + 1) rest) last) a b) ≡ whole
counted_more side before after whole from to last rest i a b l e h k =
    let c : net_of_edges (path from (drop i rest) last) a b ≡ net_of_edges (edge_of from to ∷ []) a b +ℤ net_of_edges
    (path to (drop (i + 1) rest) last) a b =
    ap (λ xs. net_of_edges (path from xs last) a b) (drop_item rest i to l e)
    ∙ net_of_cons (edge_of from to) (path to (drop (i + 1) rest) last) a b in
    regroup before after whole (signed side (net_of_edges (path from (drop i rest) last) a b))
    (signed side (net_of_edges (edge_of from to ∷ []) a b)) (signed side (net_of_edges (path to (drop (i + 1) rest) last) a b))
    h k (signed_more side (net_of_edges (edge_of from to ∷ []) a b) (net_of_edges (path to (drop (i + 1) rest) last) a b)
    (net_of_edges (path from (drop i rest) last) a b) c)
  where
    regroup : (before after whole all one others : ℤ) → after ≡ before +ℤ one → before +ℤ all ≡ whole
        → all ≡ one +ℤ others → after +ℤ others ≡ whole
    regroup before after whole all one others h k c = omega (arith, ints)

-- ---- the same entries in another order
abbrev pub AnswersAlike : List ((Corner × Corner) × ℤ) → List ((Corner × Corner) × ℤ) → Type 0
AnswersAlike old new = (q : Corner × Corner) → lookup (is_same_edge q) new ≡ lookup (is_same_edge q) old

pub AreCounts-alike : (old new : List ((Corner × Corner) × ℤ)) (n : ℕ) → AnswersAlike old new → AreCounts old n
    → AreCounts new n
AreCounts-alike old new n h k = record {
  in_order = λ q s. k.in_order q (subst IsSome (h q) s);
  no_zero = λ q e. k.no_zero q (sym (h q) ∙ e);
  small = λ q. subst (λ o. IsWithin n (unwrap_or o (pos 0))) (sym (h q)) (k.small q);
}

pub net_at_alike : (old new : List ((Corner × Corner) × ℤ)) → AnswersAlike old new → (a b : Corner)
    → net_at new a b ≡ net_at old a b
net_at_alike old new h a b =
    ap (λ o. if is_before a b then unwrap_or o (pos 0) else (if is_before b a then neg_ℤ (number_at new b a) else pos 0)) (h (a, b))
    ∙ ap (λ o. if is_before a b then number_at old a b else (if is_before b a then neg_ℤ (unwrap_or o (pos 0)) else pos 0)) (h (b, a))

-- what follows on success
pub on_ok_too : {T E : Type 0} (P Q : Type 0) (r : Result T E) → (P → Q) → OnOk r P → OnOk r Q
on_ok_too P Q (Ok x) h k = h k
on_ok_too P Q (Err e) h k = k
