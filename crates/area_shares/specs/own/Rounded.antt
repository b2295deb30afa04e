-- Fractions between whole numbers, and lines of a parcel.
use Rattle.std.specs.Prelude.{◌≡◌, ℕ, ◌+◌, ◌*◌, ◌<◌, ℤ, pos, ◌+ℤ◌, ◌-ℤ◌, ◌*ℤ◌, int_lt, Bool, true, false, IsTrue}
use Rattle.std.specs.Prelude.{if◌then◌else◌}
use Rattle.std.specs.Prelude.{List, [], ◌∷◌, ◌++◌, map}
use Rattle.std.specs.List.{AllZip}
use Rattle.common_areas.specs.Fractions.{Fraction, whole, plus, AreEqual}
use Rattle.area_bounds.specs.Parts.{IsCounted}
use Rattle.area_bounds.specs.declared.parts.TheConstants.{PARTS}
use Rattle.area_shares.specs.declared.share.Share.{Share}
use Rattle.area_shares.specs.declared.shared.AreaLine.{AreaLine}
use Rattle.area_shares.specs.Shares.{IsWithinOne, sum_of}
use Rattle.area_shares.specs.AreaTable.{pair_of}

-- 1 where the next number is as good, else 0
abbrev pub room : Bool → ℕ
room true = 1
room false = 0

-- 1 where the next number is as good and something is left over, else 0
abbrev pub taken : Bool → ℤ → ℤ
taken true rest = if int_lt (pos 0) rest then pos 1 else pos 0
taken false rest = pos 0

-- The least number is at most 1 away from the fraction, and so is the next one, where it has a next. The fraction is
-- not below the least of them, and not above the greatest, by more parts than were lost.
pub record IsRounded (lost : ℕ) (f : Fraction) (least : ℤ) (has_next : Bool) : Type 0 where
  pub is_near : IsWithinOne f least
  pub next_is_near : IsTrue has_next → IsWithinOne f (least +ℤ pos 1)
  pub counted : IsCounted (pos PARTS *ℤ least -ℤ pos lost) (PARTS * room has_next + 2 * lost) f

-- a fraction, and how many parts may be lost in it
pub record Term : Type 0 where
  pub f : Fraction
  pub lost : ℕ

abbrev pub sum_of_terms : List Term → Fraction
sum_of_terms [] = whole (pos 0)
sum_of_terms (term ∷ terms) = plus term.f (sum_of_terms terms)

abbrev pub lost_in_all : List Term → ℕ
lost_in_all [] = 0
lost_in_all (term ∷ terms) = term.lost + lost_in_all terms

-- the sum of the least numbers
abbrev pub least_of_all : List Share → ℤ
least_of_all [] = pos 0
least_of_all (share ∷ shares) = share.least +ℤ least_of_all shares

abbrev pub AreRounded : List Term → List Share → Type 0
AreRounded terms shares = AllZip (λ term share. IsRounded term.lost term.f share.least share.has_next) terms shares

-- a line of a parcel
abbrev pub line_of : ℕ → ℕ → ℤ → AreaLine
line_of id zone area = record { id = id; zone = zone; area2 = area }

-- the parcel and the zone of a share
abbrev pub pair_with : ℕ → Share → ℕ × ℕ
pair_with id share = (id, share.zone)

-- New is old with a line for each share behind it. They sum to the total; each is at most 1 away from its fraction,
-- where the fractions sum to the total and less than a whole is lost in them.
pub record AddsShares (id : ℕ) (total : ℤ) (shares : List Share) (old new : List AreaLine) : Type 0 where
  pub added : List AreaLine
  pub is_added : new ≡ old ++ added
  pub are_pairs : map pair_of added ≡ map (pair_with id) shares
  pub sum : sum_of (map (λ line. line.area2) added) ≡ total
  pub near : (terms : List Term) → AreRounded terms shares → AreEqual (sum_of_terms terms) (whole total)
      → lost_in_all terms < PARTS → AllZip (λ term line. IsWithinOne term.f line.area2) terms added

-- New is old with two lines of a parcel behind it: the first is at most 1 away from the share's fraction, and the
-- second has the rest of the total.
pub record AddsTwo (id : ℕ) (total : ℤ) (share : Share) (other : ℕ) (old new : List AreaLine) : Type 0 where
  pub area : ℤ
  pub is_added : new ≡ old ++ line_of id share.zone area ∷ line_of id other (total -ℤ area) ∷ []
  pub is_near : (lost : ℕ) (f : Fraction) → IsRounded lost f share.least share.has_next → IsWithinOne f area
