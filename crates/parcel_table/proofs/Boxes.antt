-- Least boxes of lists of corners.
use Rattle.std.proofs.Common.{◌≡◌, ◌∙◌, ap, arith, ℤ, List}
use Rattle.std.proofs.lemmas.Int.{ints}
use lib.Signed.{◌≤ℤ◌}
use Rattle.geo_exact.specs.declared.bounds.Bounds.{Bounds}
use Rattle.geo_exact.specs.declared.corner.Corner.{Corner}
use Rattle.geo_exact.specs.Bounds.{IsLeastBox}
use Rattle.geo_exact.proofs.corners_and_turns.SameCorner.{corner_same}

-- a list of corners has one least box
pub one_least_box : (a b : Bounds) (corners : List Corner) → IsLeastBox a corners → IsLeastBox b corners → a ≡ b
one_least_box a b corners h k = let f = h.is_least b k.holds in let g = k.is_least a h.holds in
    ap (λ low. record { low = low; high = a.high }) (corner_same a.low b.low (both g.0.0 f.0.0) (both g.1.0 f.1.0))
    ∙ ap (λ high. record { low = b.low; high = high }) (corner_same a.high b.high (both f.0.1 g.0.1) (both f.1.1 g.1.1))
  where
    both : {u s : ℤ} → u ≤ℤ s → s ≤ℤ u → u ≡ s
    both {u} {s} h k = omega (arith, ints, h, k)
