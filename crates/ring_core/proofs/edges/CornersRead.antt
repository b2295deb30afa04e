-- Corners of a ring that the code reads by their numbers.
use Rattle.std.proofs.Common.{◌≡◌, ◌∙◌, ap, ℕ, ◌<◌, List, length, get_or}
use Rattle.std.proofs.lemmas.List.{get_or_read}
use Rattle.geo_exact.specs.declared.corner.Corner.{Corner}
use Rattle.geo_exact.specs.Places.{after, corner_at, origin}
use Rattle.ring_core.proofs.edges.RoundNumbers.{after_in}

pub corner_read : (ring : List Corner) (i : ℕ) (x : Corner) → i < length ring → x ≡ get_or ring i x → x ≡ corner_at ring i
corner_read ring i x h e = get_or_read ring i x h e origin

pub corner_read_at : (ring : List Corner) (i j : ℕ) (x : Corner) → i < length ring → j ≡ i → x ≡ get_or ring j x
    → x ≡ corner_at ring i
corner_read_at ring i j x h e f = corner_read ring i x h (f ∙ ap (λ k. get_or ring k x) e)

-- the corner after corner i
pub corner_after_read : (ring : List Corner) (i j : ℕ) (x : Corner) → i < length ring → j ≡ after (length ring) i
    → x ≡ get_or ring j x
    → x ≡ corner_at ring (after (length ring) i)
corner_after_read ring i j x h e f = corner_read_at ring (after (length ring) i) j x (after_in (length ring) i h) e f
