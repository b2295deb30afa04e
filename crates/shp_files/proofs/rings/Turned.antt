-- A ring in its normal form has no equal neighbours and is not clockwise.
use Rattle.std.proofs.Common.{◌≡◌, ◌≢◌, ℤ, pos, neg_ℤ, ◌≤ℤ◌, Bool, true, false, ◌&&◌, cond, List, [], ◌∷◌}
use Rattle.std.proofs.Common.{◌++◌, length, reverse}
use Rattle.std.proofs.Common.{refl, sym, ap, subst, ◌∙◌, arith}
use Rattle.std.specs.Prelude.{int_lt}
use Rattle.std.specs.List.{AllByRecursion}
use Rattle.std.specs.Ordering.{int_eq}
use Rattle.std.proofs.lemmas.Int.{ints}
use Rattle.std.proofs.lemmas.List.{length-reverse, reverse-append}
use Rattle.std.proofs.lemmas.Bool.{and_parts, false_from_ne_true, false≢true}
use Rattle.std.proofs.lemmas.Bool.Decides.{Decides-int_eq}
use Rattle.geo_exact.specs.declared.corner.Corner.{Corner}
use Rattle.geo_exact.specs.Rings.{Edge, path, turned_round, HasNoRepeats}
use Rattle.geo_exact.specs.Area.{area2}
use Rattle.geo_exact.proofs.corners_and_turns.SameCorner.{corner_same}
use Rattle.geo_exact.proofs.rings.Windings.{area2_turned_round}
use Rattle.shp_files.specs.NormalForm.{starts, kept_once, counterclockwise, normal_form}

-- no edge of these ends where it begins
abbrev pub AllApart : List Edge → Type 0
AllApart all = AllByRecursion (λ edge. edge.from ≢ edge.to) all

pub nowhere_same : (p q : Corner) → (int_eq p.x q.x && int_eq p.y q.y) ≡ true → p ≡ q
nowhere_same p q e = let both = and_parts _ _ e in corner_same p q ((Decides-int_eq p.x q.x).0 both.0) ((Decides-int_eq p.y q.y).0 both.1)

pub same_nowhere : (p q : Corner) → p ≡ q → (int_eq p.x q.x && int_eq p.y q.y) ≡ true
same_nowhere p q e =
    rw ((Decides-int_eq p.x q.x).1 (ap (λ (c : Corner). c.x) e), (Decides-int_eq p.y q.y).1 (ap (λ (c : Corner). c.y) e)) refl

-- what is kept of a path: the corner where it begins and others, each unlike the next; or nothing, where it leads nowhere
Kept : Corner → List Corner → Corner → Type 0
Kept from [] to = from ≡ to
Kept from (k ∷ ks) to = (k ≡ from) × AllApart (path k ks to)

kept_step : (b : Bool) (from next : Corner) (ks : List Corner) (to : Corner)
    → (int_eq from.x next.x && int_eq from.y next.y) ≡ b → Kept next ks to
    → Kept from (cond b ks (from ∷ ks)) to
unfolding Kept
kept_step true from next [] to e h = nowhere_same from next e ∙ h
kept_step true from next (k ∷ ks) to e h = (h.0 ∙ sym (nowhere_same from next e), h.1)
kept_step false from next [] to e h = (refl, (λ same. false≢true (sym e ∙ same_nowhere from next (same ∙ sym h)), tt))
kept_step false from next (k ∷ ks) to e h = (refl, (λ same. false≢true (sym e ∙ same_nowhere from next (same ∙ h.0)), h.1))

kept_last : (b : Bool) (from to : Corner) → (int_eq from.x to.x && int_eq from.y to.y) ≡ b → Kept from (cond b [] (from ∷ [])) to
unfolding Kept
kept_last true from to e = nowhere_same from to e
kept_last false from to e = (refl, (λ same. false≢true (sym e ∙ same_nowhere from to same), tt))

kept_path : (from : Corner) (rest : List Corner) (to : Corner) → Kept from (starts (path from rest to)) to
kept_path from [] to = kept_last (int_eq from.x to.x && int_eq from.y to.y) from to refl
kept_path from (next ∷ rest) to =
    kept_step (int_eq from.x next.x && int_eq from.y next.y) from next (starts (path next rest to)) to refl (kept_path next rest to)

kept_round : (first : Corner) (ks : List Corner) → Kept first ks first → HasNoRepeats ks
unfolding Kept
kept_round first [] h = tt
kept_round first (k ∷ ks) h = subst (λ (c : Corner). AllApart (path k ks c)) (sym h.0) h.1

pub kept_apart : (ring : List Corner) → HasNoRepeats (kept_once ring)
kept_apart [] = tt
kept_apart (first ∷ rest) = kept_round first (starts (path first rest first)) (kept_path first rest first)

path_apart : (a : Corner) (xs : List Corner) (x : Corner) (b : Corner) → AllApart (path a xs x) → x ≢ b
    → AllApart (path a (xs ++ x ∷ []) b)
path_apart a [] x b h k = (h.0, (k, tt))
path_apart a (y ∷ ys) x b h k = (h.0, path_apart y ys x b h.1 k)

back_apart : (a : Corner) (xs : List Corner) (b : Corner) → AllApart (path a xs b) → AllApart (path b (reverse xs) a)
back_apart a [] b h = (λ e. h.0 (sym e), tt)
back_apart a (x ∷ xs) b h =
    subst (λ (back : List Corner). AllApart (path b back a)) (sym (reverse-append (x ∷ []) xs))
    (path_apart b (reverse xs) x a (back_apart x xs b h.1) (λ e. h.0 (sym e)))

pub turned_apart : (ring : List Corner) → HasNoRepeats ring → HasNoRepeats (turned_round ring)
turned_apart [] h = tt
turned_apart (first ∷ rest) h = back_apart first rest first h

turned_length : (ring : List Corner) → length (turned_round ring) ≡ length ring
turned_length [] = refl
turned_length (first ∷ rest) = omega (arith, length-reverse rest)

-- what the turned or the same ring has, by the sign of its area
pub record IsCounterclockwise (ring turned : List Corner) : Type 0 where
  pub same_length : length turned ≡ length ring
  pub apart : HasNoRepeats ring → HasNoRepeats turned
  pub area : pos 0 ≤ℤ area2 turned

turned_by : (b : Bool) (ring : List Corner) → int_lt (area2 ring) (pos 0) ≡ b
    → IsCounterclockwise ring (cond b (turned_round ring) ring)
turned_by true ring e = record {
  same_length = turned_length ring;
  apart = λ h. turned_apart ring h;
  area = below (area2 ring) (area2 (turned_round ring)) e (area2_turned_round ring);
}
  where
    below : (a b : ℤ) → int_lt a (pos 0) ≡ true → b ≡ neg_ℤ a → pos 0 ≤ℤ b
    below a b e f = omega (arith, ints, e, f)
turned_by false ring e = record {
  same_length = refl;
  apart = λ h. h;
  area = grind (arith, ints);
}

pub is_counterclockwise : (ring : List Corner) → IsCounterclockwise ring (counterclockwise ring)
is_counterclockwise ring = turned_by (int_lt (area2 ring) (pos 0)) ring refl

-- a ring in its normal form
pub record IsNormal (drawn ring : List Corner) : Type 0 where
  pub same_length : length ring ≡ length (kept_once drawn)
  pub apart : HasNoRepeats ring
  pub area : pos 0 ≤ℤ area2 ring

pub is_normal : (drawn : List Corner) → IsNormal drawn (normal_form drawn)
is_normal drawn =
    let turned = is_counterclockwise (kept_once drawn) in
    record { same_length = turned.same_length; apart = turned.apart (kept_apart drawn); area = turned.area }

-- ---- a ring without equal neighbours is kept whole
not_nowhere : (p q : Corner) → p ≢ q → (int_eq p.x q.x && int_eq p.y q.y) ≡ false
not_nowhere p q apart = false_from_ne_true _ (λ e. apart (nowhere_same p q e))

whole_path : (from : Corner) (xs : List Corner) (to : Corner) → AllApart (path from xs to) → starts (path from xs to) ≡ from ∷ xs
whole_path from [] to h = rw (not_nowhere from to h.0) refl
whole_path from (next ∷ rest) to h =
    rw (not_nowhere from next h.0) (ap (λ (cs : List Corner). from ∷ cs) (whole_path next rest to h.1))

pub kept_whole : (ring : List Corner) → HasNoRepeats ring → kept_once ring ≡ ring
kept_whole [] h = refl
kept_whole (first ∷ rest) h = whole_path first rest first h
