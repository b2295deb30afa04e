use Rattle.zone_tables.proofs.table.Table.zone.Goals as goal

pub returns : goal.returns
returns g c = rw (← c.self.view_is) (record { ring = c.ring.ensures })
