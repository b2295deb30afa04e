-- A writer that is lent to who gathers a text for it, and handed back.
use Rattle.std.proofs.Common.{◌≡◌, subst, sym}

-- what holds of it as it was lent, and as it was left, holds of it before and after
pub handed_back : {W : Type 0} (P : W → W → Type 0) (old lent left new : W) → lent ≡ old → new ≡ left → P lent left → P old new
handed_back P old lent left new same back h = subst (λ w. P w new) same (subst (λ w. P lent w) (sym back) h)
