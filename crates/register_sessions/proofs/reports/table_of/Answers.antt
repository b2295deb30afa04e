use Rattle.std.proofs.Common.{inl, inr}
use Rattle.fabric_core.specs.Rows.{numbers}
use Rattle.register_sessions.proofs.Hands.{city_alone}
use Rattle.register_sessions.proofs.reports.table_of.Goals as goal

pub fault_of_round-requires : goal.fault_of_round-requires
fault_of_round-requires g c = elim c.in-Err.ensures.fault [
  | inl k ↦ inl (city_alone (numbers c.args.sheet.now.now.rows) c.args.sheet.now.city c.args.zones.now.city _ c.in-Err.fault
      c.in-Ok.ensures.whole c.in-Ok.ensures.rise k).0
  | inr e ↦ inr e
]
