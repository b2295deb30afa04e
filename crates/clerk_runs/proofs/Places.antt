-- Places, one after the other.
use Rattle.std.proofs.Common.{List, [], ◌∷◌, ◌++◌, sym, subst, append_assoc, append-nil}
use Rattle.geo_exact.specs.Point.{corner_point}
use Rattle.geo_exact.specs.Layers.{NumberedRing}
use Rattle.geo_exact.specs.declared.corner.Corner.{Corner}
use Rattle.fabric_core.specs.declared.locate.At.{At}
use Rattle.fabric_core.specs.Locate.{IsLocatedAt}
use Rattle.clerk_runs.specs.ClerkRuns.{AreLocated}

module _ {A : Type 0} (rows : List NumberedRing) (all : List Corner) where
  -- the corners before these are located, and with places of these they all are
  pub record HaveLocated (left : List Corner) (places : List (At A)) : Type 0 where
    pub adds : (more : List (At A)) → AreLocated rows left more → AreLocated rows all (places ++ more)

  pub more_located : (left : List Corner) (corner : Corner) (places : List (At A)) (at : At A) → HaveLocated (corner ∷ left) places
      → IsLocatedAt rows (corner_point corner) at → HaveLocated left (places ++ at ∷ [])
  more_located left corner places at h is = record {
    adds = λ more rest. subst (AreLocated rows all) (sym (append_assoc places (at ∷ []) more)) (h.adds (at ∷ more) (is, rest));
  }

  pub all_located : (places : List (At A)) → HaveLocated [] places → AreLocated rows all places
  all_located places h = subst (AreLocated rows all) (append-nil places) (h.adds [] tt)

-- none is located
pub none_located : {A : Type 0} (rows : List NumberedRing) (all : List Corner) → HaveLocated {A = A} rows all all []
none_located rows all = record { adds = λ more m. m }
