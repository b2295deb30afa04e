-- Lists of corners in order along an axis: what a search through one finds, and what is left of one.
use Rattle.std.proofs.Common.{◌≡◌, ◌∙◌, ◌<◌, ℕ, sym, subst, refl, arith}
use Rattle.std.proofs.Common.{List, length, Option, None, Some, MatchOption}
use Rattle.std.specs.List.{remove}
use Rattle.std.specs.List.Sorted.{IsNonDecreasingBy}
use Rattle.std.specs.Prelude.{IfSome, IfNone}
use Rattle.std.proofs.lemmas.List.{get_or_default}
use Rattle.geo_exact.specs.declared.bounds.Bounds.{Bounds}
use Rattle.geo_exact.specs.declared.corner.Corner.{Corner}
use Rattle.geo_exact.specs.First.{HasNone}
use Rattle.geo_exact.specs.Places.{corner_at}
use Rattle.ring_core.specs.declared.blocks.Span.{Span}
use Rattle.ring_core.specs.declared.sorted.Axis.{Axis}
use Rattle.ring_core.specs.declared.sorted.Axis.TheVariants.{X, Y}
use Rattle.ring_core.specs.declared.sorted.Listed.{Listed}
use Rattle.ring_core.specs.declared.triangle.Tri.{Tri}
use Rattle.ring_core.specs.Boxes.{HoldsTriangle}
use Rattle.ring_core.specs.Clipping.{Blocks, IsTriangleAt, next, previous}
use Rattle.ring_core.specs.own.Blocks.{IsInSpan}
use Rattle.ring_core.specs.own.Kinds.{number_before}
use Rattle.ring_core.specs.own.Sorted.{AreListedOrNone, AreSortedOrNone, HasHeld, IsListed, IsListedAt}
use Rattle.ring_core.proofs.clipping.ClipSteps.{one_less}
use Rattle.ring_core.proofs.clipping.HeldInside.{held_inside}
use Rattle.ring_core.proofs.clipping.TakenOut.{corner_kept, item_kept, number_in}
use Rattle.ring_core.proofs.ears.Renumbered.{inside_like}

module _ (axis : Axis) (corners : List Corner) (numbers : List ℕ) (list : List Listed) where
  pub in_order : AreListedOrNone axis corners numbers list → IsNonDecreasingBy (λ it. it.key) list
  in_order are i j d o b = (are (omega (arith, b))).sorted i j d o b

  -- a search through all that the box may hold finds a corner in the triangle, where there is one
  pub found_in_list : (k : ℕ) (t : Tri) (box : Bounds) (span : Span) (result : Option ℕ)
      → AreListedOrNone axis corners numbers list → 0 < length list → IsTriangleAt corners k t → HoldsTriangle box t
      → HasHeld axis box list span
      → IfSome result (λ j. (j < length corners) × Blocks corners k j)
      → IfNone result ((i j : ℕ) (axis : Axis) → IsInSpan i span → j < length corners
      → IsListedAt axis corners numbers j list i → ¬ Blocks corners k j)
      → MatchOption result (HasNone (Blocks corners k) (length corners)) (λ j. (j < length corners) × Blocks corners k j)
  found_in_list k t box span (Some j) are some at held has is none = is
  found_in_list k t box span None are some at held has is none = λ j below x.
      let found = (are some).each j below in let it = found.0 in let i = found.1.0 in
      let here : IsListedAt axis corners numbers j list i =
      λ d. subst (IsListed axis corners numbers j) (sym (get_or_default list i d it found.1.1 ∙ found.1.2)) found.2 in
      let inside = inside_like (corner_at corners j) (previous corners k) (corner_at corners k) (next corners k)
      (corner_at corners j) t.a t.b t.c refl at.a at.b at.c x.is_inside in
      none i j axis (has (corner_at corners j) i it found.1.1 (here it).key
      (held_inside box t (corner_at corners j) held inside)) below here x

  -- those that are left are listed still
  pub list_kept : (k : ℕ) → k < length corners → length numbers ≡ length corners → AreListedOrNone axis corners numbers list
      → AreListedOrNone axis (remove corners k) (remove numbers k) list
  list_kept k below as_many are some =
      let all = are some in record {
        sorted = all.sorted;
        each = λ j b.
            let found = all.each (number_before k j)
            (number_in (length corners) k j (omega (arith, one_less corners (remove corners k) k below refl, b))) in (
              found.0,
              found.1,
              record {
                key = rw (corner_kept corners k j below) found.2.key;
                corner = rw (corner_kept corners k j below) found.2.corner;
                number = rw (item_kept numbers k j 0 (omega (arith, below, as_many))) found.2.number;
              },
            );
      }

-- and so along both axes
pub sorted_kept : (corners : List Corner) (numbers : List ℕ) (by_x by_y : List Listed) (k : ℕ)
    → k < length corners → length numbers ≡ length corners → AreSortedOrNone corners numbers by_x by_y
    → AreSortedOrNone (remove corners k) (remove numbers k) by_x by_y
sorted_kept corners numbers by_x by_y k below as_many are = record {
  by_x = list_kept X corners numbers by_x k below as_many are.by_x;
  by_y = list_kept Y corners numbers by_y k below as_many are.by_y;
}
