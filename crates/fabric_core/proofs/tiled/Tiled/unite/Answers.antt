use Rattle.std.proofs.Common.{arith, Some, None, slice_index_or, ◌≢◌, sym, ◌∙◌, ap, subst, refl, ℕ, length, ◌+◌, ◌<◌}
use Rattle.std.proofs.Common.{[], ◌∷◌, ◌++◌}
use Rattle.std.specs.List.{Contains, slice_set}
use Rattle.std.proofs.lemmas.List.{length-append, length-set}
use Rattle.geo_exact.specs.Layers.{numbered}
use Rattle.cell_index.specs.declared.entry.IndexEntry.{IndexEntry}
use Rattle.parcel_table.specs.Table.{HasId, IsKeyOf}
use Rattle.fabric_core.specs.Rows.{numbers}
use Rattle.fabric_core.specs.Journal.{without_ids}
use Rattle.fabric_core.specs.own.Kept.{Kept, MayBeKept, IsExchanged}
use Rattle.fabric_core.proofs.edits.Exchanges.{shown, stays, has_id, entry_is, kept_after, rows_after, united, still_key, fate_of_two}
use Rattle.fabric_core.proofs.tiled.Tiled.unite.Goals as goal

pub entry_of-from_a-requires : goal.entry_of-from_a-requires
entry_of-from_a-requires g c =
    subst (λ parcels. HasId parcels c.args.a) (sym (ap (λ table. table.parcels) c.in_ok-reserve.ensures.kept))
    (has_id c.self.inside.parcels.parcels c.args.a (subst (λ (t : Kept). Contains (numbers t.rows) c.args.a)
    (sym c.self.view_is) c.requires.a_here))

pub entry_of-from_b-requires : goal.entry_of-from_b-requires
entry_of-from_b-requires g c =
    subst (λ parcels. HasId parcels c.args.b) (sym (ap (λ table. table.parcels) c.in_ok-reserve.ensures.kept))
    (has_id c.self.inside.parcels.parcels c.args.b (subst (λ (t : Kept). Contains (numbers t.rows) c.args.b)
    (sym c.self.view_is) c.requires.b_here))

pub succeed-requires-clause-here : goal.succeed-requires-clause-here
succeed-requires-clause-here g c =
    subst (λ parcels. HasId parcels c.args.a) (sym (ap (λ table. table.parcels) c.in_ok-reserve.ensures.kept))
    (has_id c.self.inside.parcels.parcels c.args.a (subst (λ (t : Kept). Contains (numbers t.rows) c.args.a)
    (sym c.self.view_is) c.requires.a_here))

pub retire-requires : goal.retire-requires
retire-requires g c =
    let a = c.entry_of-from_a.ensures in let b = c.entry_of-from_b.ensures in (
      c.entry_of-from_b.result.key,
      subst (λ parcels. IsKeyOf parcels c.args.b c.entry_of-from_b.result.key)
          (sym (c.succeed.ensures.parcels c.entry_of-from_a.result.key (record {
            parcel = a.parcel;
            is_here =
                a.is_here;
            has_id = a.has_id;
          })))
          (still_key c.reserve.new.self.parcels
          ((c.entry_of-from_a.result.key, record { id = c.reserve.new.self.next; shape = c.args.shape }) ∷ [])
          c.args.a c.args.b c.entry_of-from_b.result.key c.requires.apart (record {
            parcel = b.parcel;
            is_here =
                b.is_here;
            has_id = b.has_id;
          })),
    )

-- the next id is no parcel's
next_is_other : (next id : ℕ) → id < next → next ≢ id
next_is_other next id h e = omega (arith, h, e)

pub invariant_of-self-2 : goal.invariant_of-self-2
invariant_of-self-2 g c =
    let old = c.self.inside.parcels in let from_a = c.entry_of-from_a.result in let from_b = c.entry_of-from_b.result in
    let a = c.entry_of-from_a.ensures in let b = c.entry_of-from_b.ensures in
    let kept = c.in_ok-reserve.ensures.kept in let parcels = ap (λ table. table.parcels) c.in_ok-reserve.ensures.kept in
    kept_after old.parcels ((from_a.key, a.parcel) ∷ (from_b.key, b.parcel) ∷ [])
    ((from_a.key, record { id = old.next; shape = c.args.shape }) ∷ []) c.retire.new.self.parcels
    (c.args.a ∷ c.args.b ∷ []) (from_a ∷ from_b ∷ []) (record { key = from_a.key; bounds = c.args.shape.bounds } ∷ [])
    c.self.inside.city c.self.inside.refined c.self.inside.index c.change.new.self
    (ap (λ n. n ∷ b.parcel.id ∷ []) a.has_id ∙ ap (λ n. c.args.a ∷ n ∷ []) b.has_id)
    c.self.invariant c.use_invariant.ensures.ascend c.use_invariant.ensures.keys (
      subst (λ xs. Contains xs (from_a.key, a.parcel)) parcels a.is_here,
      (subst (λ xs. Contains xs (from_b.key, b.parcel)) parcels b.is_here, tt),
    )
    (ap (λ (e : IndexEntry). e ∷ from_b ∷ []) (entry_is c.reserve.new.self.parcels c.args.a from_a a)
    ∙ ap (λ (e : IndexEntry). record { key = from_a.key; bounds = a.parcel.shape.bounds } ∷ e ∷ [])
    (entry_is c.reserve.new.self.parcels c.args.b from_b b))
    refl
    (united old c.reserve.new.self c.succeed.new.self c.retire.new.self c.args.a c.args.b from_a.key c.args.shape parcels
    (ap (λ table. table.next) kept)
    (next_is_other old.next c.args.b (c.use_invariant.ensures.below c.args.b
    (has_id c.self.inside.parcels.parcels c.args.b (subst (λ (t : Kept). Contains (numbers t.rows) c.args.b)
    (sym c.self.view_is) c.requires.b_here))))
    (c.succeed.ensures.parcels from_a.key (record { parcel = a.parcel; is_here = a.is_here; has_id = a.has_id })) c.retire.ensures.parcels)
    c.use_invariant-2.ensures.ascend
    (subst (λ (t : Kept). MayBeKept (without_ids (c.args.a ∷ c.args.b ∷ []) t.rows
    ++ numbered t.next c.args.shape.ring.corners ∷ []) t.refined)
    (sym c.self.view_is) c.requires.kept)
    c.change.ensures.area c.in_ok-change.ensures.ok

pub returns-clause-ok : goal.returns-clause-ok
returns-clause-ok g c =
    let old = c.self.inside.parcels in let from_a = c.entry_of-from_a.result in
    let a = c.entry_of-from_a.ensures in let kept = c.in_ok-reserve.ensures.kept in
    let below_a = c.use_invariant.ensures.below c.args.a (has_id c.self.inside.parcels.parcels c.args.a
    (subst (λ (t : Kept). Contains (numbers t.rows) c.args.a) (sym c.self.view_is) c.requires.a_here)) in
    let below_b = c.use_invariant.ensures.below c.args.b (has_id c.self.inside.parcels.parcels c.args.b
    (subst (λ (t : Kept). Contains (numbers t.rows) c.args.b) (sym c.self.view_is) c.requires.b_here)) in
    let fates_a = c.succeed.ensures.fates ∙ ap (λ table. slice_set table.fates c.args.a (Some c.args.by) ++ None ∷ []) kept in
    subst (λ (t : Kept). IsExchanged t (shown c.self.inside.city c.self.inside.refined c.retire.new.self c.change.new.self)
    (c.args.a ∷ c.args.b ∷ []) c.args.by (numbered t.next c.args.shape.ring.corners ∷ [])) c.self.view_is (record {
      rows = rows_after old.parcels ((from_a.key, record { id = old.next; shape = c.args.shape }) ∷ []) c.retire.new.self.parcels
          (c.args.a ∷ c.args.b ∷ [])
          (united old c.reserve.new.self c.succeed.new.self c.retire.new.self c.args.a c.args.b from_a.key c.args.shape
          (ap (λ table. table.parcels) kept) (ap (λ table. table.next) kept) (next_is_other old.next c.args.b below_b)
          (c.succeed.ensures.parcels from_a.key (record {
            parcel = a.parcel;
            is_here = a.is_here;
            has_id =
                a.has_id;
          })) c.retire.ensures.parcels);
      city = refl;
      refined = refl;
      next = c.retire.ensures.next ∙ c.succeed.ensures.next ∙ ap (λ table. table.next + 1) kept;
      fates = λ id. ap (λ fates. slice_index_or fates id None) c.retire.ensures.fates
          ∙ fate_of_two old.fates c.succeed.new.self.fates c.args.a c.args.b c.args.by id
          (omega (arith, c.use_invariant.ensures.fates, below_a))
          (omega (
            arith,
            c.use_invariant.ensures.fates,
            below_b,
            ap length fates_a,
            length-append (slice_set old.fates c.args.a (Some c.args.by)) (None ∷ []),
            length-set old.fates c.args.a (Some c.args.by),
          ))
          fates_a;
    })

pub returns-in_err-reserve-clause-err : goal.returns-in_err-reserve-clause-err
returns-in_err-reserve-clause-err g c =
    stays c.from_residual.result c.self.inside.city c.self.inside.refined c.reserve.new.self _
    c.self.inside.index c.self.inside.index c.args.self.now c.in_err-reserve.ensures.kept refl c.self.view_is

pub returns-in_err-change-clause-err : goal.returns-in_err-change-clause-err
returns-in_err-change-clause-err g c =
    stays c.from_residual-in_err-change.result c.self.inside.city c.self.inside.refined c.reserve.new.self _
    c.change.new.self c.self.inside.index c.args.self.now c.in_ok-reserve.ensures.kept c.in_err-change.ensures.err c.self.view_is
