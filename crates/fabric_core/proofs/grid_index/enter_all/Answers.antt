use Rattle.std.proofs.Common.{rules, arith, refl, ℕ, zero, suc, Option, None, List, slice_index_or, ◌≡◌, ◌∙◌, ap}
use Rattle.std.proofs.Common.{subst, sym, [], ◌∷◌, length, get_or}
use Rattle.std.proofs.lemmas.List.{length-append, length-map}
use Rattle.fabric_core.specs.own.Lists.{corners_of_shapes}
use Rattle.cell_index.specs.Cells.{Indexes}
use Rattle.parcel_table.specs.Table.{rows_of_keyed, entries_of}
use Rattle.fabric_core.proofs.loads.Clipped.{none_clipped, one_clipped, all_clipped}
use Rattle.fabric_core.proofs.loads.ToldRings.{nil_of_no_length}
use Rattle.parcel_table.proofs.Tables.{rows_of_keyed-push, entries_of-push}
use Rattle.fabric_core.proofs.grid_index.enter_all.Goals as goal

abbrev no_fates : List (Option ℕ)
no_fates = []

-- no id has a fate in an empty list
nothing_there : (id : ℕ) → slice_index_or no_fates id None ≡ None
nothing_there zero = refl
nothing_there (suc id) = refl

pub loop-shape-init : goal.loop-shape-init
loop-shape-init g c =
    let all : c.into_iter-shape-iterator.result.rest.items ≡ c.args.shapes.items = search rules in record {
      clipped =
          none_clipped c.args.numbers.now (corners_of_shapes c.args.shapes.items)
          (corners_of_shapes c.into_iter-shape-iterator.result.rest.items)
          (rows_of_keyed c.in_ok-parcels.parcels.parcels) c.in_ok-parcels.parcels.next (length c.in_ok-parcels.parcels.parcels)
          (c.requires.numbered ∙ sym (length-map c.args.shapes.items (λ shape. shape.ring.corners)))
          (ap corners_of_shapes all) (ap rows_of_keyed c.in_ok-parcels.ensures.empty) c.in_ok-parcels.ensures.next
          (ap length c.in_ok-parcels.ensures.empty);
      area = c.in_ok-index.ensures.area;
      indexed = subst (λ parcels. Indexes c.in_ok-index.index (entries_of parcels))
          (sym c.in_ok-parcels.ensures.empty) c.in_ok-index.ensures.empty;
      small = omega (arith, c.in_ok-parcels.ensures.next);
      none_gone = λ id. ap (λ fates. slice_index_or fates id None) c.in_ok-parcels.ensures.fates ∙ nothing_there id;
    }

pub loop-shape-preserved : goal.loop-shape-preserved
loop-shape-preserved g c =
    let numbers = c.args.numbers.now in let old = c.loop-shape.parcels.parcels in let shape = c.in-Some.shape in
    let key = c.in_ok-key.key in record {
      clipped =
          one_clipped numbers (corners_of_shapes c.args.shapes.items) (corners_of_shapes c.loop-shape.shape-iterator.rest.items)
          (corners_of_shapes c.next.new.self.rest.items) (rows_of_keyed old) (rows_of_keyed c.push.new.self.parcels)
          c.loop-shape.parcels.next
          c.push.new.self.next (length old) (length c.push.new.self.parcels) c.from.result c.in-Some.shape.ring.corners
          c.requires.rising (ap corners_of_shapes c.in-Some.ensures.steps.0)
          (c.from.ensures ∙ ap (λ k. get_or numbers k 0) c.len-in-loop-shape.ensures)
          (ap rows_of_keyed c.in_ok-key.ensures.parcels ∙ rows_of_keyed-push old key (record { id = c.from.result; shape = shape }))
          c.in_ok-key.ensures.next
          (ap length c.in_ok-key.ensures.parcels
          ∙ length-append old ((key, record { id = c.from.result; shape = shape }) ∷ []))
          c.loop-shape.invariant.clipped;
      area = c.add.ensures.area ∙ c.loop-shape.invariant.area;
      indexed = subst (Indexes c.add.new.self)
          (sym (ap entries_of c.in_ok-key.ensures.parcels ∙ entries_of-push old key (record { id = c.from.result; shape = shape })))
          (c.in_ok-add.ensures.ok (entries_of old) c.loop-shape.invariant.indexed);
      small = omega (
        arith,
        c.in_ok-key.ensures.next,
        c.from.ensures,
        c.type_inv.numbers (length old),
        ap (λ k. get_or numbers k 0) c.len-in-loop-shape.ensures,
      );
      none_gone = λ id. c.push.ensures.fates id ∙ c.loop-shape.invariant.none_gone id;
    }

pub returns-clause-rows : goal.returns-clause-rows
returns-clause-rows g c =
    all_clipped c.args.numbers.now (corners_of_shapes c.args.shapes.items) (corners_of_shapes c.loop-shape.shape-iterator.rest.items)
    (rows_of_keyed c.loop-shape.parcels.parcels) c.loop-shape.parcels.next (length c.loop-shape.parcels.parcels)
    (ap corners_of_shapes (nil_of_no_length _ (sym c.loop-shape.shape-iterator.rest.ok.0 ∙ c.in-None.ensures.steps.0)))
    c.loop-shape.invariant.clipped

pub returns-clause-next : goal.returns-clause-next
returns-clause-next g c = c.loop-shape.invariant.clipped.next_is
