use Rattle.std.proofs.Common.{◌≡◌, ◌∙◌, ap, subst, ℕ, List, Some}
use Rattle.std.specs.Prelude.{◌↔◌}
use Rattle.zone_tables.specs.Overlap.{Overlay}
use Rattle.zone_tables.specs.own.Zonings.{IsOnlyZone}
use Rattle.zone_tables.proofs.Told.{Stands, only_is_within, one_is_alone}
use Rattle.zone_tables.proofs.table.Table.within.Goals as goal

pub returns-clause-within : goal.returns-clause-within
returns-clause-within g c = λ zone.
    let table = c.args.self.now in
    let same : c.deref.result.now ≡ table.pairs = c.deref.ensures.value ∙ ap (λ (t : Overlay). t.pairs) c.self.view_is in
    let only = subst (λ (pairs : List (ℕ × ℕ)). (c.only_zone.result ≡ Some zone) ↔ IsOnlyZone pairs c.args.id zone)
    same (c.only_zone.ensures zone) in
    let stands : Stands table.rows table.zones table.city table.pairs = record {
      table = c.use_invariant.ensures.table;
      tiling = c.use_invariant.ensures.tiling;
      zones_tile = c.use_invariant.ensures.zones_tile;
      simple = c.use_invariant.ensures.simple;
      ids_rise = c.use_invariant.ensures.ids_rise;
      zones_rise = c.use_invariant.ensures.zones_rise;
    } in
    let known = only_is_within table.rows table.zones table.city table.pairs stands c.args.id zone in
    ((λ h. known.0 (only.0 h)), (λ h. only.1 (known.1 h)))

pub returns-clause-alone : goal.returns-clause-alone
returns-clause-alone g c = λ zone.
    let table = c.args.self.now in
    let same : c.deref.result.now ≡ table.pairs = c.deref.ensures.value ∙ ap (λ (t : Overlay). t.pairs) c.self.view_is in
    let only = subst (λ (pairs : List (ℕ × ℕ)). (c.only_zone.result ≡ Some zone) ↔ IsOnlyZone pairs c.args.id zone)
    same (c.only_zone.ensures zone) in
    let known = one_is_alone table.rows table.zones table.pairs c.use_invariant.ensures.table c.args.id zone in
    ((λ h. known.0 (only.0 h)), (λ h. only.1 (known.1 h)))
