-- Where a hand has found each list at its end, each parcel was claimed.
use Rattle.std.proofs.Common.{◌≡◌, ◌∙◌, ap, subst, arith, ℕ, zero, suc, ◌<◌, ◌≤◌, List, [], ◌∷◌}
use Rattle.std.proofs.Common.{length, map}
use Rattle.std.specs.Prelude.{slice_index, IsPermutation}
use Rattle.std.specs.List.{Contains}
use Rattle.std.proofs.lemmas.List.{length-map}
use Rattle.std.proofs.lemmas.List.Sums.{sum_by-cons}
use Rattle.fabric_core.specs.Rows.{numbers}
use Rattle.overlay_claims.specs.declared.view.View.{View}
use Rattle.overlay_claims.specs.Claims.{times, notes_of, places_of, IsClaimed}
use Rattle.overlay_claims.specs.Claimants.{AreAllEnded}
use Rattle.overlay_claims.proofs.Places.{all_claimed}
use Rattle.overlay_work.specs.Rounds.{Task, id_at}
use Rattle.overlay_work.specs.own.Kept.{IsTask}
use Rattle.overlay_work.proofs.EachIdOnce.{all_claimed_once}
use Rattle.overlay_work.proofs.ZonesFound.{nothing_in}

-- all know of the end of a list what one knows
notes_of_one : (list : ℕ) (views : List View) (view : View) → Contains views view → times list view.notes ≤ notes_of list views
notes_of_one list [] view c = absurd (nothing_in view c)
notes_of_one list (x ∷ views) view (zero, less, is) =
    let sum = sum_by-cons (λ (v : View). times list v.notes) x views in
    let same : times list x.notes ≡ times list view.notes = ap (λ (v : View). times list v.notes) is in
    omega (arith, sum, same)
notes_of_one list (x ∷ views) view (suc k, less, is) =
    let sum = sum_by-cons (λ (v : View). times list v.notes) x views in
    let rest = notes_of_one list views view (k, omega (arith, less), is) in
    omega (arith, sum, rest)

pub all_are_claimed : (task : Task) (view : View) → IsTask task → AreAllEnded (length task.lists) view.notes
    → (words : List ℕ) (views : List View) → IsClaimed task.claims.lengths words views → Contains views view
    → IsPermutation (map (id_at task.lists) (places_of views)) (numbers task.rows)
all_are_claimed task view stands all words views claimed here =
    let lengths = task.claims.lengths in
    let count : length lengths ≡ length task.lists = ap length stands.lengths ∙ length-map task.lists (λ (l : List ℕ). length l) in
    let ends : (list : ℕ) → list < length lengths → slice_index lengths list ≤ slice_index words list = (λ list less.
    claimed.at_the_end list
    (let one = all list (omega (arith, less, count)) in
    let more = notes_of_one list views view here in
    omega (arith, one, more))) in
    all_claimed_once (numbers task.rows) task.lists lengths (places_of views) stands.sharing stands.lengths
    (subst (IsPermutation (places_of views)) (all_claimed 0 lengths words claimed.a_word_each ends) claimed.each_once)
