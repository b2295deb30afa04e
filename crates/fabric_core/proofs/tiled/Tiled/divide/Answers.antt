use Rattle.std.proofs.Common.{arith, Some, None, slice_index_or, sym, ◌∙◌, ap, subst, refl, ℕ, ◌+◌, [], ◌∷◌, ◌++◌}
use Rattle.std.specs.List.{Contains, slice_set}
use Rattle.geo_exact.specs.Layers.{numbered}
use Rattle.cell_index.specs.declared.entry.IndexEntry.{IndexEntry}
use Rattle.parcel_table.specs.Table.{HasId}
use Rattle.fabric_core.specs.Rows.{numbers}
use Rattle.fabric_core.specs.Journal.{without_ids}
use Rattle.fabric_core.specs.own.Kept.{Kept, MayBeKept, IsExchanged}
use Rattle.fabric_core.proofs.edits.Exchanges.{shown, stays, has_id, entry_is, kept_after, rows_after, divided, fate_pushed, fate_of_one}
use Rattle.fabric_core.proofs.tiled.Tiled.divide.Goals as goal

pub entry_of-gone-requires : goal.entry_of-gone-requires
entry_of-gone-requires g c =
    subst (λ parcels. HasId parcels c.args.id) (sym (ap (λ table. table.parcels) c.in_ok-reserve.ensures.kept))
    (has_id c.self.inside.parcels.parcels c.args.id (subst (λ (t : Kept). Contains (numbers t.rows) c.args.id)
    (sym c.self.view_is) c.requires.here))

pub succeed-requires-clause-here : goal.succeed-requires-clause-here
succeed-requires-clause-here g c =
    subst (λ parcels. HasId parcels c.args.id) (sym (ap (λ table. table.parcels) c.in_ok-reserve.ensures.kept))
    (has_id c.self.inside.parcels.parcels c.args.id (subst (λ (t : Kept). Contains (numbers t.rows) c.args.id)
    (sym c.self.view_is) c.requires.here))

pub invariant_of-self-2 : goal.invariant_of-self-2
invariant_of-self-2 g c =
    let old = c.self.inside.parcels in let gone = c.entry_of-gone.result in let w = c.entry_of-gone.ensures in
    let parcels = ap (λ table. table.parcels) c.in_ok-reserve.ensures.kept in
    kept_after old.parcels ((gone.key, w.parcel) ∷ []) ((gone.key, record { id = old.next; shape = c.args.left })
    ∷ (c.push_reserved.result, record { id = old.next + 1; shape = c.args.right }) ∷ []) c.push_reserved.new.self.parcels
    (c.args.id ∷ []) (gone ∷ [])
    (record { key = gone.key; bounds = c.args.left.bounds } ∷ record { key = c.vacant_key.result; bounds = c.args.right.bounds } ∷ [])
    c.self.inside.city c.self.inside.refined c.self.inside.index c.change.new.self
    (ap (λ n. n ∷ []) w.has_id) c.self.invariant c.use_invariant.ensures.ascend c.use_invariant.ensures.keys
    (subst (λ xs. Contains xs (gone.key, w.parcel)) parcels w.is_here, tt)
    (ap (λ (e : IndexEntry). e ∷ []) (entry_is c.reserve.new.self.parcels c.args.id gone w))
    (ap (λ (k : ℕ). record { key = gone.key; bounds = c.args.left.bounds } ∷ record { key = k; bounds = c.args.right.bounds } ∷ [])
    (c.vacant_key.ensures ∙ sym (c.push_reserved.ensures.key ∙ c.succeed.ensures.vacant)))
    (divided old c.reserve.new.self c.succeed.new.self c.push_reserved.new.self c.args.id gone.key
    c.push_reserved.result c.args.left c.args.right
    parcels (ap (λ table. table.next) c.in_ok-reserve.ensures.kept) (c.succeed.ensures.parcels gone.key
    (record { parcel = w.parcel; is_here = w.is_here; has_id = w.has_id })) c.succeed.ensures.next
    c.push_reserved.ensures.parcels)
    c.use_invariant-2.ensures.ascend
    (subst (λ (t : Kept). MayBeKept (without_ids (c.args.id ∷ []) t.rows ++ numbered t.next c.args.left.ring.corners
    ∷ numbered (t.next + 1) c.args.right.ring.corners ∷ []) t.refined) (sym c.self.view_is) c.requires.kept)
    c.change.ensures.area c.in_ok-change.ensures.ok

pub returns-clause-ok : goal.returns-clause-ok
returns-clause-ok g c =
    let old = c.self.inside.parcels in let gone = c.entry_of-gone.result in let w = c.entry_of-gone.ensures in
    let kept = c.in_ok-reserve.ensures.kept in
    subst (λ (t : Kept). IsExchanged t (shown c.self.inside.city c.self.inside.refined c.push_reserved.new.self c.change.new.self)
    (c.args.id ∷ []) c.args.by (numbered t.next c.args.left.ring.corners
    ∷ numbered (t.next + 1) c.args.right.ring.corners ∷ [])) c.self.view_is (record {
      rows = rows_after old.parcels
          ((gone.key, record { id = old.next; shape = c.args.left })
          ∷ (c.push_reserved.result, record { id = old.next + 1; shape = c.args.right }) ∷ [])
          c.push_reserved.new.self.parcels (c.args.id ∷ [])
          (divided old c.reserve.new.self c.succeed.new.self c.push_reserved.new.self c.args.id gone.key
          c.push_reserved.result c.args.left c.args.right
          (ap (λ table. table.parcels) kept) (ap (λ table. table.next) kept)
          (c.succeed.ensures.parcels gone.key (record { parcel = w.parcel; is_here = w.is_here; has_id = w.has_id })) c.succeed.ensures.next
          c.push_reserved.ensures.parcels);
      city = refl;
      refined = refl;
      next = c.push_reserved.ensures.next ∙ ap (λ n. n + 1) (c.succeed.ensures.next
          ∙ ap (λ table. table.next + 1) kept) ∙ omega arith;
      fates = λ id. ap (λ fates. slice_index_or fates id None) c.push_reserved.ensures.fates ∙ fate_pushed c.succeed.new.self.fates id
          ∙ ap (λ fates. slice_index_or fates id None) (c.succeed.ensures.fates
          ∙ ap (λ table. slice_set table.fates c.args.id (Some c.args.by) ++ None ∷ []) kept)
          ∙ fate_of_one old.fates c.args.id c.args.by id
          (omega (
            arith,
            c.use_invariant.ensures.fates,
            c.use_invariant.ensures.below c.args.id
                (has_id old.parcels c.args.id (subst (λ (t : Kept). Contains (numbers t.rows) c.args.id)
                (sym c.self.view_is) c.requires.here)),
          ));
    })

pub returns-in_err-reserve-clause-err : goal.returns-in_err-reserve-clause-err
returns-in_err-reserve-clause-err g c =
    stays c.from_residual.result c.self.inside.city c.self.inside.refined c.reserve.new.self _
    c.self.inside.index c.self.inside.index c.args.self.now c.in_err-reserve.ensures.kept refl c.self.view_is

pub returns-in_err-change-clause-err : goal.returns-in_err-change-clause-err
returns-in_err-change-clause-err g c =
    stays c.from_residual-in_err-change.result c.self.inside.city c.self.inside.refined c.reserve.new.self _
    c.change.new.self c.self.inside.index c.args.self.now c.in_ok-reserve.ensures.kept c.in_err-change.ensures.err c.self.view_is
