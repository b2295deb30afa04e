-- In a tiling, a place off all edges is inside one parcel at most.
use Rattle.std.proofs.Common.{◌≡◌, ⊎_elim, refl, sym, ◌∙◌, ap, subst, arith, pos, List, [], ◌∷◌}
use Rattle.std.proofs.lemmas.Int.{ints}
use Rattle.std.specs.List.{Contains, AllByRecursion}
use Rattle.std.proofs.lemmas.List.Elements.{Contains-append_right, Contains-append_cases}
use lib.Signed.{◌≤ℤ◌}
use Rattle.geo_exact.specs.declared.corner.Corner.{Corner}
use Rattle.geo_exact.specs.Point.{Point}
use Rattle.geo_exact.specs.Turn.{IsOnRing}
use Rattle.geo_exact.specs.Winding.{winding, IsInterior}
use Rattle.geo_exact.specs.Layers.{NumberedRing}
use Rattle.edge_chains.proofs.nodings.NodedEdges.{none_in_nil, Contains-cases, Contains-here}
use Rattle.fabric_core.specs.Tiling.{IsTiling, IsOffEdges, IsInNone}
use Rattle.fabric_core.specs.Locate.{IsInsideOneOnly}

-- what holds of all items holds of each
pub of_each : {X : Type 0} (P : X → Type 0) (xs : List X) (x : X) → AllByRecursion P xs → Contains xs x → P x
of_each P [] x h c = absurd (none_in_nil x c)
of_each P (y ∷ ys) x h c = ⊎_elim (λ e. subst P e h.0) (λ later. of_each P ys x h.1 later) (Contains-cases y ys x c)

-- no row that p is in none of has it inside
not_inside : (p : Point) (rows : List NumberedRing) (row : NumberedRing) → IsInNone p rows → Contains rows row
    → IsInterior p row.corners → ⊥
not_inside p rows row none c i =
    let zero : winding p row.corners ≡ pos 0 = of_each (λ r. winding p r.corners ≡ pos 0) rows row none c in
    let one : pos 1 ≤ℤ winding p row.corners = i.is_wound in
    omega (arith, ints, zero, one)

pub inside_one_only : (rows : List NumberedRing) (city : List Corner) (p : Point) → IsTiling rows city → IsOffEdges p rows city
    → IsInterior p city
    → IsInsideOneOnly rows p
inside_one_only rows city p tiling off i =
    let one = (tiling.inside p off i).1 in
    let here : Contains rows one.row = subst (λ all. Contains all one.row) (sym one.are_all)
    (Contains-append_right one.before (one.row ∷ one.behind) one.row (Contains-here one.row one.behind)) in
    let wound : winding p one.row.corners ≡ pos 1 = one.is_in_row in record {
      id = one.row.number;
      is_inside = record {
        row = one.row;
        is_row = here;
        has_id = refl;
        is_inside = record {
          off_edges = of_each (λ r. ¬ IsOnRing p r.corners) rows one.row off.off_rows here;
          is_wound = omega (arith, ints, wound);
        };
      };
      no_other = λ other h. ⊎_elim
          (λ before. absurd (not_inside p one.before h.row one.none_before before h.is_inside))
          (λ rest. ⊎_elim
          (λ e. sym h.has_id ∙ ap (λ (r : NumberedRing). r.number) (sym e))
          (λ behind. absurd (not_inside p one.behind h.row one.none_behind behind h.is_inside))
          (Contains-cases one.row one.behind h.row rest))
          (Contains-append_cases one.before (one.row ∷ one.behind) h.row (subst (λ all. Contains all h.row) one.are_all h.is_row));
      no_edge = λ other h. of_each (λ r. ¬ IsOnRing p r.corners) rows h.row off.off_rows h.is_row h.is_on_edge;
    }
