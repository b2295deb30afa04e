-- The ends of the run of edges that two rings share, in both of them; and what is made there.
use Rattle.std.proofs.Common.{◌≡◌, ◌≢◌, refl, sym, ◌∙◌, ap, subst, arith, ℕ, ◌<◌, List, [], ◌∷◌, ◌++◌}
use Rattle.std.proofs.Common.{length, reverse, append_assoc, true}
use Rattle.std.specs.List.{Contains}
use Rattle.std.proofs.lemmas.Bool.Decides.{nat_tests}
use Rattle.std.proofs.lemmas.List.{get_or_default, reverse-append}
use Rattle.geo_exact.specs.declared.corner.Corner.{Corner}
use Rattle.geo_exact.specs.Places.{corner_at, origin, after, before}
use Rattle.geo_exact.specs.Rings.{begun_at_least}
use Rattle.ring_core.specs.Simple.{IsSimpleRing}
use Rattle.ring_core.proofs.edges.RoundNumbers.{after_in, before_in}
use Rattle.ring_core.proofs.ears.LeftSimple.{after_before}
use Rattle.ring_edits.specs.Round.{GoesRound, HasEdge}
use Rattle.ring_edits.specs.Edits.{IsPath, IsMerge, IsMove, IsBadBorder, IsBorderPath, ShareOneRun}
use Rattle.ring_edits.specs.own.Between.{between}
use Rattle.ring_edits.specs.own.Borders.{is_on_run, IsSharedFromTo, IsBorderAt}
use Rattle.ring_edits.proofs.Rounds.{goes_round}
use Rattle.ring_edits.proofs.Borders.{is_shared, on_its_run, shared_ends}
use Rattle.ring_edits.proofs.Apart.{simple_apart}

contains_at : (ring : List Corner) (c : Corner) (k : ℕ) → k < length ring → corner_at ring k ≡ c → Contains ring c
contains_at ring c k h e = (k, h, get_or_default ring k c origin h ∙ e)

-- both ends of an edge are corners of the ring
has_from : (ring : List Corner) (u v : Corner) → HasEdge ring u v → Contains ring u
has_from ring u v h = contains_at ring u h.0 h.1.in_ring h.1.from

has_to : (ring : List Corner) (u v : Corner) → HasEdge ring u v → Contains ring v
has_to ring u v h = contains_at ring v (after (length ring) h.0) (after_in (length ring) h.0 h.1.in_ring) h.1.to

pub begins_in_other : (a b : List Corner) (i j : ℕ) (u : Corner) → IsSharedFromTo a b i j → u ≡ corner_at a i → Contains b u
begins_in_other a b i j u h e =
    subst (Contains b) (sym e)
    (has_to b (corner_at a (after (length a) i)) (corner_at a i) ((h.exactly i h.i_in_ring).1 (on_its_run i j h.apart)))

before_end : (n i j : ℕ) → i < n → j < n → i ≢ j → is_on_run i j (before n j) ≡ true
before_end n i j h k off = grind (arith, nat_tests)

pub ends_in_other : (a b : List Corner) (i j : ℕ) (v : Corner) → IsSharedFromTo a b i j → v ≡ corner_at a j → Contains b v
ends_in_other a b i j v h e =
    let n = length a in
    let k = before_in n j h.j_in_ring in
    subst (Contains b) (ap (corner_at a) (after_before n j h.j_in_ring) ∙ sym e)
    (has_from b (corner_at a (after n (before n j))) (corner_at a (before n j))
    ((h.exactly (before n j) k).1 (before_end n i j h.i_in_ring h.j_in_ring h.apart)))

pub corners_apart : (a b : List Corner) (i j : ℕ) → IsSimpleRing a → IsSharedFromTo a b i j → corner_at a i ≢ corner_at a j
corners_apart a b i j simple h = simple_apart a simple i j h.i_in_ring h.j_in_ring h.apart

pub border_at : (a b : List Corner) (i j k l : ℕ) → IsSimpleRing a → IsSharedFromTo a b i j → k < length b
    → corner_at b k ≡ corner_at a i
    → l < length b → corner_at b l ≡ corner_at a j → IsBorderAt a b i j k l
border_at a b i j k l simple h x e y f = record {
  shared = h;
  k_in_ring = x;
  l_in_ring = y;
  apart = λ g. corners_apart a b i j simple h (sym e ∙ ap (corner_at b) g ∙ f);
  same_u = e;
  same_v = f;
}

-- ring b goes round by the ends of the border
other_round : (a b : List Corner) (i j k l : ℕ) → IsBorderAt a b i j k l
    → GoesRound b (corner_at a i) (between b k l) (corner_at a j) (between b l k)
other_round a b i j k l h =
    subst (λ u. GoesRound b u (between b k l) (corner_at a j) (between b l k)) h.same_u
    (subst (λ v. GoesRound b (corner_at b k) (between b k l) v (between b l k)) h.same_v
    (goes_round b k l h.k_in_ring h.l_in_ring h.apart))

pub is_merge : (a b out : List Corner) (i j k l : ℕ) → IsBorderAt a b i j k l
    → out ≡ begun_at_least (corner_at a j ∷ between a j i ++ corner_at a i ∷ between b k l) → IsMerge a b out
is_merge a b out i j k l h e = record {
  u = corner_at a i;
  v = corner_at a j;
  run = between a i j;
  of_a = between a j i;
  of_b = between b k l;
  back = between b l k;
  shared = is_shared a b i j h.shared;
  round_b = other_round a b i j k l h;
  out_is = e;
}

reversed_path : (u v : Corner) (corners middle : List Corner) → IsPath corners u middle v
    → reverse corners ≡ v ∷ reverse middle ++ u ∷ []
reversed_path u v corners middle h =
    ap reverse h.is ∙ reverse-append (u ∷ middle) (v ∷ []) ∙ ap (λ xs. v ∷ xs) (reverse-append (u ∷ []) middle)

pub is_move : (a b corners middle out_a out_b : List Corner) (i j k l : ℕ) → IsBorderAt a b i j k l
    → IsPath corners (corner_at a i) middle (corner_at a j)
    → out_a ≡ begun_at_least (corners ++ between a j i) → out_b ≡ begun_at_least (reverse corners ++ between b k l)
    → IsMove a b corners out_a out_b
is_move a b corners middle out_a out_b i j k l h path e f = record {
  u = corner_at a i;
  v = corner_at a j;
  run = between a i j;
  of_a = between a j i;
  of_b = between b k l;
  back = between b l k;
  between = middle;
  shared = is_shared a b i j h.shared;
  round_b = other_round a b i j k l h;
  is_path = path;
  out_a_is = e ∙ ap (λ xs. begun_at_least (xs ++ between a j i)) path.is
      ∙ ap (λ xs. begun_at_least (corner_at a i ∷ xs)) (append_assoc middle (corner_at a j ∷ []) (between a j i));
  out_b_is = f ∙ ap (λ xs. begun_at_least (xs ++ between b k l)) (reversed_path (corner_at a i) (corner_at a j) corners middle path)
      ∙ ap (λ xs. begun_at_least (corner_at a j ∷ xs)) (append_assoc (reverse middle) (corner_at a i ∷ []) (between b k l));
}

-- what two rings share between two numbers is one run
pub one_run_between : (a b : List Corner) (i j : ℕ) → IsSharedFromTo a b i j → ShareOneRun a b
one_run_between a b i j h = (corner_at a i, corner_at a j, shared_ends a b i j (corner_at a i) (corner_at a j) h refl refl)

-- a path from where it begins to where it ends
pub border_path : (a b corners : List Corner) (i j : ℕ) → IsSharedFromTo a b i j
    → (middle : List Corner) × IsPath corners (corner_at a i) middle (corner_at a j) → IsBorderPath a b corners
border_path a b corners i j h p =
    (corner_at a i, corner_at a j, p.0, shared_ends a b i j (corner_at a i) (corner_at a j) h refl refl, p.1)

pub no_border : (a b corners : List Corner) (i j : ℕ) → IsSharedFromTo a b i j
    → ((middle : List Corner) × IsPath corners (corner_at a i) middle (corner_at a j) → ⊥) → IsBadBorder a b corners
no_border a b corners i j h k =
    (corner_at a i, corner_at a j, shared_ends a b i j (corner_at a i) (corner_at a j) h refl refl, λ middle p. k (middle, p))
