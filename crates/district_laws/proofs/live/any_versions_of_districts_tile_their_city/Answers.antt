use Rattle.std.proofs.Common.{sym, subst, map}
use Rattle.fabric_core.specs.Journal.{State}
use Rattle.fabric_core.specs.Tiling.{IsTiling}
use Rattle.district_laws.specs.Live.{district_at}
use Rattle.district_laws.proofs.Composed.{all_tile}
use Rattle.district_laws.proofs.Versions.{are_at}
use Rattle.district_laws.proofs.live.any_versions_of_districts_tile_their_city.Goals as goal

pub returns-clause-districts : goal.returns-clause-districts
returns-clause-districts g c = λ districts city versions live same whole. are_at districts city versions live same whole

pub returns-clause-tiling : goal.returns-clause-tiling
returns-clause-tiling g c = λ districts city versions live same whole.
    all_tile (map district_at versions) city (are_at districts city versions live same whole)

pub returns-clause-areas : goal.returns-clause-areas
returns-clause-areas g c = λ districts city versions live same whole.
    (all_tile (map district_at versions) city (are_at districts city versions live same whole)).areas

pub returns-clause-of_desk : goal.returns-clause-of_desk
returns-clause-of_desk g c = λ row book tiling replays.
    subst (λ (s : State). IsTiling s.rows book.city) (sym replays) tiling
