-- Rings begun at their least corners have the same corners and edges.
use Rattle.std.proofs.Common.{◌≡◌, ◌∙◌, sym, ap, arith, ℕ, ◌+◌, List, length, take, drop}
use Rattle.std.proofs.lemmas.List.{length-append, take-append-drop}
use Rattle.geo_exact.specs.declared.corner.Corner.{Corner}
use Rattle.geo_exact.specs.Rings.{begun_at_least}
use Rattle.geo_exact.proofs.rings.Begun.{least_within}

pub begun_length : (ring : List Corner) → length (begun_at_least ring) ≡ length ring
begun_length ring =
    let w = least_within ring in
    ap length w.2 ∙ length-append (drop w.0 ring) (take w.0 ring)
    ∙ turn (length (drop w.0 ring)) (length (take w.0 ring)) ∙ sym (length-append (take w.0 ring) (drop w.0 ring))
    ∙ ap length (take-append-drop w.0 ring)
  where
    turn : (m n : ℕ) → m + n ≡ n + m
    turn m n = omega arith
