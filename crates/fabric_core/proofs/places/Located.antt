-- Going through rows to find out where a place lies among them.
use Rattle.std.proofs.Common.{true, false, ◌==◌, ◌≡◌, ◌≢◌, ◌↔◌, ◌⊎◌, inl, inr, ⊎_elim, refl, sym, ◌∙◌}
use Rattle.std.proofs.Common.{ap, subst, arith, ℕ, List, [], ◌∷◌, ◌++◌, length, append_assoc}
use Rattle.std.specs.List.{Contains}
use Rattle.std.specs.List.Sorted.{IsStrictlyIncreasing}
use Rattle.std.proofs.lemmas.Bool.Decides.{nat_tests}
use Rattle.std.proofs.lemmas.List.{append-nil}
use Rattle.std.proofs.lemmas.List.Elements.{Contains-append_left, Contains-push, Contains-push_cases}
use Rattle.geo_exact.specs.declared.corner.Corner.{Corner}
use Rattle.geo_exact.specs.Point.{Point}
use Rattle.geo_exact.specs.Turn.{IsOnRing}
use Rattle.geo_exact.specs.Winding.{IsInterior}
use Rattle.geo_exact.specs.Layers.{NumberedRing, numbered}
use Rattle.edge_chains.proofs.nodings.NodedEdges.{none_in_nil, Contains-here}
use Rattle.fabric_core.specs.Locate.{IsOnEdgeOf, IsInsideOf, AreAllOnEdge}
use Rattle.fabric_core.specs.own.Sides.{IsFound}

-- ---- one row more
module _ (p : Point) (rows : List NumberedRing) (n : ℕ) (ring : List Corner) where
  abbrev pub more : List NumberedRing
  more = rows ++ numbered n ring ∷ []

  kept_edge : (id : ℕ) → IsOnEdgeOf rows p id → IsOnEdgeOf more p id
  kept_edge id h = record {
    row = h.row;
    is_row = Contains-append_left rows (numbered n ring ∷ []) h.row h.is_row;
    has_id = h.has_id;
    is_on_edge = h.is_on_edge;
  }

  edge_cases : (id : ℕ) → IsOnEdgeOf more p id → IsOnEdgeOf rows p id ⊎ ((n ≡ id) × IsOnRing p ring)
  edge_cases id h = ⊎_elim
      (λ old. inl (record { row = h.row; is_row = old; has_id = h.has_id; is_on_edge = h.is_on_edge }))
      (λ e. inr (
        ap (λ (r : NumberedRing). r.number) e ∙ h.has_id,
        subst (λ (r : NumberedRing). IsOnRing p r.corners)
            (sym e) h.is_on_edge,
      ))
      (Contains-push_cases rows (numbered n ring) h.row h.is_row)

  inside_cases : (id : ℕ) → IsInsideOf more p id → IsInsideOf rows p id ⊎ ((n ≡ id) × IsInterior p ring)
  inside_cases id h = ⊎_elim
      (λ old. inl (record { row = h.row; is_row = old; has_id = h.has_id; is_inside = h.is_inside }))
      (λ e. inr (
        ap (λ (r : NumberedRing). r.number) e ∙ h.has_id,
        subst (λ (r : NumberedRing). IsInterior p r.corners)
            (sym e) h.is_inside,
      ))
      (Contains-push_cases rows (numbered n ring) h.row h.is_row)

  same_edges : (ids : List ℕ) → ¬ IsOnRing p ring → ((id : ℕ) → Contains ids id ↔ IsOnEdgeOf rows p id)
      → (id : ℕ) → Contains ids id ↔ IsOnEdgeOf more p id
  same_edges ids off h id = (
    λ c. kept_edge id ((h id).0 c),
    λ on. ⊎_elim (λ old. (h id).1 old) (λ new. absurd (off new.1)) (edge_cases id on),
  )

  still_none : ¬ IsInterior p ring → ((id : ℕ) → ¬ IsInsideOf rows p id) → (id : ℕ) → ¬ IsInsideOf more p id
  still_none off none = λ id i. ⊎_elim (λ old. none id old) (λ new. off new.1) (inside_cases id i)

  pub on_edge_more : (ids : List ℕ) → IsOnRing p ring → IsFound rows p ids → IsFound more p (ids ++ n ∷ [])
  on_edge_more ids on h = record {
    exactly = λ id. (
      λ c. ⊎_elim (λ old. kept_edge id ((h.exactly id).0 old)) (λ e. new_edge id e) (Contains-push_cases ids n id c),
      λ k. ⊎_elim (λ old. Contains-append_left ids (n ∷ []) id ((h.exactly id).1 old))
          (λ new. subst (Contains (ids ++ n ∷ [])) new.0 (Contains-push ids n)) (edge_cases id k),
    );
    none_inside = still_none (λ (i : IsInterior p ring). i.off_edges on) h.none_inside;
  }
    where
      new_edge : (id : ℕ) → n ≡ id → IsOnEdgeOf more p id
      new_edge id e = record { row = numbered n ring; is_row = Contains-push rows (numbered n ring); has_id = e; is_on_edge = on }

  pub outside_more : (ids : List ℕ) → ¬ IsOnRing p ring → ¬ IsInterior p ring → IsFound rows p ids → IsFound more p ids
  outside_more ids off out h = record { exactly = same_edges ids off h.exactly; none_inside = still_none out h.none_inside }

-- ---- rows gone through one after the other
-- what is found out when some of the rows are left
pub record AreSearched (p : Point) (all rest : List NumberedRing) (on_edge : List ℕ) : Type 0 where
  pub done : List NumberedRing
  pub are_all : done ++ rest ≡ all
  pub found : IsFound done p on_edge

pub none_found : (p : Point) → IsFound [] p []
none_found p = record {
  exactly = λ id. (λ c. absurd (none_in_nil id c), λ h. absurd (none_in_nil h.row h.is_row));
  none_inside = λ id h. none_in_nil h.row h.is_row;
}

-- before the first of some more rows
pub none_searched : (p : Point) (rows others : List NumberedRing) (on_edge : List ℕ) → IsFound rows p on_edge
    → AreSearched p (rows ++ others) others on_edge
none_searched p rows others on_edge h = record { done = rows; are_all = refl; found = h }

-- one row more
module _ (p : Point) (all rest left : List NumberedRing) (n : ℕ) (ring : List Corner) (on_edge : List ℕ)
    (searched : AreSearched p all rest on_edge) (next : rest ≡ numbered n ring ∷ left) where
  moved_on : (on : List ℕ) → IsFound (searched.done ++ numbered n ring ∷ []) p on → AreSearched p all left on
  moved_on on h = record {
    done = searched.done ++ numbered n ring ∷ [];
    are_all = append_assoc searched.done (numbered n ring ∷ []) left ∙ ap (λ xs. searched.done ++ xs) (sym next) ∙ searched.are_all;
    found = h;
  }

  pub searched_on_edge : IsOnRing p ring → AreSearched p all left (on_edge ++ n ∷ [])
  searched_on_edge on = moved_on (on_edge ++ n ∷ []) (on_edge_more p searched.done n ring on_edge on searched.found)

  pub searched_outside : ¬ IsOnRing p ring → ¬ IsInterior p ring → AreSearched p all left on_edge
  searched_outside off out = moved_on on_edge (outside_more p searched.done n ring on_edge off out searched.found)

-- a row that has it inside
pub inside_row : (p : Point) (rows : List NumberedRing) (n : ℕ) (ring : List Corner) → Contains rows (numbered n ring)
    → IsInterior p ring
    → IsInsideOf rows p n
inside_row p rows n ring there is = record { row = numbered n ring; is_row = there; has_id = refl; is_inside = is }

-- all rows gone through
pub found_all : (p : Point) (all rest : List NumberedRing) (on_edge : List ℕ) → rest ≡ [] → AreSearched p all rest on_edge
    → IsFound all p on_edge
found_all p all rest on_edge none h =
    subst (λ xs. IsFound xs p on_edge) (sym (append-nil h.done) ∙ ap (λ xs. h.done ++ xs) (sym none) ∙ h.are_all) h.found

-- ---- the answer
pub on_edges_found : (p : Point) (rows : List NumberedRing) (found sorted : List ℕ) → IsStrictlyIncreasing sorted
    → ((id : ℕ) → Contains sorted id ↔ Contains found id) → IsFound rows p found → AreAllOnEdge rows p sorted
on_edges_found p rows found sorted up same h = record {
  ascend = up;
  exactly = λ id. (λ c. (h.exactly id).0 ((same id).0 c), λ on. (same id).1 ((h.exactly id).1 on));
}

-- where there is none on an edge
pub none_on_edge : (p : Point) (rows : List NumberedRing) → ((id : ℕ) → ¬ IsOnEdgeOf rows p id) → AreAllOnEdge rows p []
none_on_edge p rows none = record {
  ascend = λ k l. absurd (omega (arith, l));
  exactly = λ id. (λ c. absurd (none_in_nil id c), λ on. absurd (none id on));
}

pub outside_found : (p : Point) (rows : List NumberedRing) (on_edge : List ℕ) → on_edge ≡ [] → IsFound rows p on_edge
    → AreAllOnEdge rows p [] × ((id : ℕ) → ¬ IsInsideOf rows p id)
outside_found p rows on_edge e h = (
  none_on_edge p rows (λ id on. none_in_nil id (subst (λ ids. Contains ids id) e ((h.exactly id).1 on))),
  h.none_inside,
)

pub none_where_empty : (xs : List ℕ) (n : ℕ) → n ≡ length xs → true ≡ (n == 0) → xs ≡ []
none_where_empty [] n e h = refl
none_where_empty (x ∷ xs) n e h = absurd (grind (arith, nat_tests, e, h))

pub some_where_not_empty : (xs : List ℕ) (n : ℕ) → n ≡ length xs → false ≡ (n == 0) → xs ≢ []
some_where_not_empty [] n e h = absurd (grind (arith, nat_tests, e, h))
some_where_not_empty (x ∷ xs) n e h = λ none. absurd (cc)

-- ids that are put in order are some where they were some
pub still_some : (found sorted : List ℕ) → ((id : ℕ) → Contains sorted id ↔ Contains found id) → found ≢ [] → sorted ≢ []
still_some [] sorted same some = absurd (some refl)
still_some (x ∷ found) sorted same some =
    λ none. none_in_nil x (subst (λ ids. Contains ids x) none ((same x).1 (Contains-here x found)))
