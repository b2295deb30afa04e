-- Lists of corners, each ten times: places, edges, where a ring begins.
use Rattle.std.proofs.Common.{◌≡◌, refl, sym, ◌∙◌, ap, arith, Bool, true, false, not, ◌||◌, cond, ℕ, zero, suc, ◌+◌, List, [], ◌∷◌}
use Rattle.std.proofs.Common.{map, ◌++◌, take, drop, length, reverse, get_or}
use Rattle.std.specs.List.{AllByRecursion, list_any, prefix_len, position_or_len}
use Rattle.std.proofs.lemmas.List.{map-append, take-map, drop-map, take-append-drop, reverse-append}
use Rattle.geo_exact.specs.declared.corner.Corner.{Corner}
use Rattle.geo_exact.specs.Order.{is_before, is_least}
use Rattle.geo_exact.specs.Places.{origin, corner_at}
use Rattle.geo_exact.specs.Rings.{Edge, path, edges, begun_at, begun_at_least}
use Rattle.scaled_rings.specs.Tenfold.{IsNear}
use Rattle.scaled_rings.proofs.Scaling.{ten, ten_origin, ten_before, AreNear}

-- ---- near corners
pub near_append : (xs ys : List Corner) → AreNear xs → AreNear ys → AreNear (xs ++ ys)
near_append [] ys h k = k
near_append (x ∷ xs) ys h k = (h.0, near_append xs ys h.1 k)

pub near_left : (xs ys : List Corner) → AreNear (xs ++ ys) → AreNear xs
near_left [] ys h = tt
near_left (x ∷ xs) ys h = (h.0, near_left xs ys h.1)

pub near_right : (xs ys : List Corner) → AreNear (xs ++ ys) → AreNear ys
near_right [] ys h = h
near_right (x ∷ xs) ys h = near_right xs ys h.1

-- the list begun at its item k
pub near_begun : (k : ℕ) (xs : List Corner) → AreNear xs → AreNear (begun_at k xs)
near_begun k xs h =
    let e = rw (sym (take-append-drop k xs)) at h in
    near_append (drop k xs) (take k xs) (near_right (take k xs) (drop k xs) e) (near_left (take k xs) (drop k xs) e)

near_origin : IsNear origin
near_origin = record {
  in_x = record { low = record { le = tt }; high = record { le = tt } };
  in_y = record { low = record { le = tt }; high = record { le = tt } };
}

pub near_at : (xs : List Corner) (k : ℕ) → AreNear xs → IsNear (corner_at xs k)
near_at [] k h = near_origin
near_at (x ∷ xs) zero h = h.0
near_at (x ∷ xs) (suc k) h = near_at xs k h.1

-- ---- places
pub at_ten : (xs : List Corner) (k : ℕ) → corner_at (map ten xs) k ≡ ten (corner_at xs k)
at_ten [] k = sym ten_origin
at_ten (x ∷ xs) zero = refl
at_ten (x ∷ xs) (suc k) = at_ten xs k

-- ---- edges
abbrev pub ten_edge : Edge → Edge
ten_edge edge = record { from = ten edge.from; to = ten edge.to }

pub record IsNearEdge (edge : Edge) : Type 0 where
  pub from : IsNear edge.from
  pub to : IsNear edge.to

abbrev pub AreNearEdges : List Edge → Type 0
AreNearEdges es = AllByRecursion IsNearEdge es

path_ten : (from : Corner) (xs : List Corner) (to : Corner) → path (ten from) (map ten xs) (ten to) ≡ map ten_edge (path from xs to)
path_ten from [] to = refl
path_ten from (x ∷ xs) to = ap (λ es. record { from = ten from; to = ten x } ∷ es) (path_ten x xs to)

pub edges_ten : (ring : List Corner) → edges (map ten ring) ≡ map ten_edge (edges ring)
edges_ten [] = refl
edges_ten (x ∷ xs) = path_ten x xs x

pub paths_ten : (from : Corner) (xs : List Corner) (to : Corner) → path (ten from) (map ten xs) (ten to) ≡ map ten_edge (path from xs to)
paths_ten = path_ten

pub near_path : (from : Corner) (xs : List Corner) (to : Corner) → IsNear from → AreNear xs → IsNear to → AreNearEdges (path from xs to)
near_path from [] to f h t = (record { from = f; to = t }, tt)
near_path from (x ∷ xs) to f h t = (record { from = f; to = h.0 }, near_path x xs to h.0 h.1 t)

pub near_edges : (ring : List Corner) → AreNear ring → AreNearEdges (edges ring)
near_edges [] h = tt
near_edges (x ∷ xs) h = near_path x xs x h.0 h.1 h.0

-- ---- where a ring begins
pub begun_ten : (k : ℕ) (xs : List Corner) → begun_at k (map ten xs) ≡ map ten (begun_at k xs)
begun_ten k xs = simp (take-map, drop-map, map-append)

any_before : (xs : List Corner) (c : Corner) → AreNear xs → IsNear c
    → list_any (λ other. is_before other (ten c)) (map ten xs) ≡ list_any (λ other. is_before other c) xs
any_before [] c h k = refl
any_before (x ∷ xs) c h k = let e = ten_before x c h.0 k in let f = any_before xs c h.1 k in cc

least_ten : (xs : List Corner) (c : Corner) → AreNear xs → IsNear c → is_least (map ten xs) (ten c) ≡ is_least xs c
least_ten xs c h k = ap not (any_before xs c h k)

prefix_ten : (all xs : List Corner) → AreNear all → AreNear xs
    → prefix_len (λ c. not (is_least (map ten all) c)) (map ten xs) ≡ prefix_len (λ c. not (is_least all c)) xs
prefix_ten all [] h k = refl
prefix_ten all (x ∷ xs) h k = let e = ap not (least_ten all x h k.0) in let f = prefix_ten all xs h k.1 in
    ap (λ b. cond b (1 + prefix_len (λ c. not (is_least (map ten all) c)) (map ten xs)) 0) e
    ∙ ap (λ n. cond (not (is_least all x)) (1 + n) 0) f

pub begun_least_ten : (ring : List Corner) → AreNear ring → begun_at_least (map ten ring) ≡ map ten (begun_at_least ring)
begun_least_ten ring h =
    ap (λ k. begun_at k (map ten ring)) (prefix_ten ring ring h h) ∙ begun_ten (position_or_len (is_least ring) ring) ring

pub reverse_ten : (xs : List Corner) → reverse (map ten xs) ≡ map ten (reverse xs)
reverse_ten [] = refl
reverse_ten (x ∷ xs) =
    reverse-append (ten x ∷ []) (map ten xs) ∙ ap (λ ys. ys ++ ten x ∷ []) (reverse_ten xs)
    ∙ sym (map-append ten (reverse xs) (x ∷ [])) ∙ ap (map ten) (sym (reverse-append (x ∷ []) xs))
