-- Of corners, the least beyond each of several limits. Public contracts do not speak of it.
use Rattle.std.specs.Prelude.{◌≡◌, ℕ, zero, suc, ◌*◌, ◌<◌, List, Option, Some, None, get_or}
use Rattle.geo_exact.specs.declared.corner.Corner.{Corner}
use Rattle.scaled_rings.specs.Tenfold.{IsLeastBeyondOf, IsTenTimes}
use Rattle.fabric_core.specs.declared.farthest.TheConstants.{LIMITS}

-- 0, 1, 10, 100 and so on
abbrev pub limit_of : ℕ → ℕ
limit_of zero = 0
limit_of (suc zero) = 1
limit_of (suc (suc level)) = 10 * limit_of (suc level)

-- beside each limit is the least of the corners beyond it
abbrev pub AreLeastBeyond : List Corner → List (Option Corner) → Type 0
AreLeastBeyond corners least =
    (level : ℕ) → level < LIMITS → IsLeastBeyondOf (limit_of level) corners (get_or least level None)

-- the other corner is this one ten times, where there is one
abbrev pub IsTenTimesOf : Option Corner → Option Corner → Type 0
IsTenTimesOf None other = other ≡ None
IsTenTimesOf (Some corner) other = (ten : Corner) × (other ≡ Some ten) × IsTenTimes corner ten
