-- Lines of points, one after the other.
use Rattle.std.proofs.Common.{◌≡◌, inl, inr, ℕ, List, [], ◌∷◌, ◌++◌, codes, refl, append_assoc}
use Rattle.geo_exact.specs.Point.{corner_point, Point}
use Rattle.geo_exact.specs.Layers.{NumberedRing}
use Rattle.geo_exact.specs.declared.corner.Corner.{Corner}
use Rattle.fabric_core.specs.declared.locate.At.{At}
use Rattle.fabric_core.specs.declared.locate.At.TheVariants.{Inside, OnEdge, Outside}
use Rattle.fabric_core.specs.Locate.{IsLocatedAt}
use Rattle.clerk_runs.specs.ClerkRuns.{AreLocated}
use Rattle.clerk_runs.specs.PlaceTexts.{place_text}
use Rattle.text_pieces.specs.CornerText.{corner_text}
use Rattle.parcel_runs.specs.LocateReport.{IsPlaceText, ArePlaceLines}
use Rattle.parcel_runs.specs.own.PlaceTexts.{places_text}

-- pieces, one behind the other
regrouped : (a b c d more : List ℕ) → (a ++ b ++ c ++ d) ++ more ≡ a ++ b ++ c ++ d ++ more
regrouped a b c d more = simp append_assoc

-- what the code tells is where the place lies
pub place_told : {A : Type 0} (rows : List NumberedRing) (p : Point) (at : At A) → IsLocatedAt rows p at
    → IsPlaceText rows p (place_text at)
place_told rows p (OnEdge ids) h = inl (ids.items, h.0, h.1, refl)
place_told rows p (Inside id) h = inr (inl (id, h.0, h.1, refl))
place_told rows p Outside h = inr (inr (h.0, h.1, refl))

-- and the lines that it tells are those of the points
pub lines_told : {A : Type 0} (rows : List NumberedRing) (points : List Corner) (places : List (At A)) → AreLocated rows points places
    → ArePlaceLines rows points (places_text points places)
lines_told rows [] places h = refl
lines_told rows (point ∷ points) [] h = absurd h
lines_told rows (point ∷ points) (at ∷ places) h = (
  place_text at,
  places_text points places,
  place_told rows (corner_point point) at h.0,
  regrouped (corner_text point) (codes " ") (place_text at) (codes "\n") (places_text points places),
  lines_told rows points places h.1,
)
