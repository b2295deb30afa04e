use Rattle.std.proofs.Common.{sym, ◌∙◌, ap, subst, [], ◌∷◌, ◌++◌}
use Rattle.parcel_table.specs.own.Places.{IsTable, keyed}
use Rattle.parcel_table.proofs.Tables.{pushed}
use Rattle.parcel_table.proofs.parcels.Parcels.push_reserved.Goals as goal

pub invariant_of-self : goal.invariant_of-self
invariant_of-self g c =
    subst (IsTable c.insert_reserved-key.new.self) (sym c.push_reserved.ensures.items)
    (pushed c.self.inside.slab c.insert_reserved-key.new.self c.self.inside.places.items c.insert_reserved-key.result
    (record { id = c.next_id-id.result; shape = c.args.shape }) c.self.invariant
    (ap (λ t. t.next) c.self.view_is ∙ sym c.next_id-id.ensures)
    c.insert_reserved-key.ensures.was_vacant c.insert_reserved-key.ensures.updates c.insert_reserved-key.ensures.len).is_table

pub returns-clause-parcels : goal.returns-clause-parcels
returns-clause-parcels g c =
    ap (keyed c.insert_reserved-key.new.self) c.push_reserved.ensures.items
    ∙ (pushed c.self.inside.slab c.insert_reserved-key.new.self c.self.inside.places.items c.insert_reserved-key.result
    (record { id = c.next_id-id.result; shape = c.args.shape }) c.self.invariant
    (ap (λ t. t.next) c.self.view_is ∙ sym c.next_id-id.ensures)
    c.insert_reserved-key.ensures.was_vacant c.insert_reserved-key.ensures.updates c.insert_reserved-key.ensures.len).one_more
    ∙ ap (λ t. t.parcels ++ (c.insert_reserved-key.result, record { id = c.next_id-id.result; shape = c.args.shape })
    ∷ []) c.self.view_is
    ∙ ap (λ n. c.args.self.now.parcels ++ (c.insert_reserved-key.result, record { id = n; shape = c.args.shape })
    ∷ []) c.next_id-id.ensures
