use Rattle.std.proofs.Common.{◌≡◌, ◌≢◌, ◌++◌, ◌∷◌, [], sym, ap, ◌∙◌, arith, refl}
use Rattle.std.proofs.lemmas.List.{map_push}
use Rattle.std.proofs.lemmas.Result.{err_from_is_err_and}
use Rattle.shp_files.specs.LayerFile.{numbered, rings_of}
use Rattle.shp_files.specs.Checks.{declared_end}
use Rattle.shp_files.proofs.layers.Walk.{read_to_null, read_to_polygon, stops_at}
use Rattle.shp_files.proofs.layers.Walk.Reads.{none}
use Rattle.shp_files.proofs.layers.Sound.{layer_file}
use Rattle.shp_files.proofs.layer.read_records.Goals as goal

pub loop-head-init : goal.loop-head-init
loop-head-init g c = record {
  before = [];
  held = c.requires.none_yet;
  read = record { drawn = []; reads = none c.requires.header; count = refl; are = refl };
  few_together = omega arith;
  few = omega arith;
  start = omega (arith, c.requires.room);
}

pub returns-in_err-found-clause-fault : goal.returns-in_err-found-clause-fault
returns-in_err-found-clause-fault g c = λ fault is.
    let p = err_from_is_err_and c.from_residual.result c.from_residual.ensures.1 in
    let apart : c.loop-head.head.start ≢ declared_end c.args.main.now = λ e. c.loop-head-test.true (e ∙ sym c.requires.end) in
    let old = c.loop-head.invariant.read in
    stops_at c.args.main.now c.args.unit c.loop-head.head.position c.loop-head.head.start old.drawn
    c.loop-head.corners_before c.in_err-found.field-0.0 fault
    old.reads old.count apart c.in_err-found.ensures.checked (let q = p.1 in let r = p.2 in cc)

pub loop-head-preserved-in_ok-take : goal.loop-head-preserved-in_ok-take
loop-head-preserved-in_ok-take g c =
    let apart : c.loop-head.head.start ≢ declared_end c.args.main.now = λ e. c.loop-head-test.true (e ∙ sym c.requires.end) in
    let new = c.in_ok-found.ensures in
    let ring = rw c.in-Some.is at new.ring in
    let old = c.loop-head.invariant in
    let ring_of = c.in-Some.ring in
    let pushed : rings_of (old.before ++ ring_of ∷ []) ≡ rings_of old.before ++ numbered c.loop-head.head.position ring_of.corners ∷ [] =
    map_push _ old.before _ ∙ ap (λ n. rings_of old.before ++ numbered n ring_of.corners ∷ []) ring.1 in
    record {
      before = old.before ++ ring_of ∷ [];
      held = rw c.in-Some.ring-is at c.in_ok-take.ensures old.before old.held;
      read = rw pushed (read_to_polygon c.args.main.now c.args.unit c.loop-head.head.position c.loop-head.head.start
          c.loop-head.corners_before c.in_ok-found.found.end c.in_ok-found.found.drawn
          (rings_of old.before) ring_of.corners
          old.read apart new.checked ring.0 new.end ring.2 ring.3);
      few_together = new.few_together;
      few = omega (arith, new.few);
      start = new.within;
    }

pub loop-head-preserved : goal.loop-head-preserved
loop-head-preserved g c =
    let apart : c.loop-head.head.start ≢ declared_end c.args.main.now = λ e. c.loop-head-test.true (e ∙ sym c.requires.end) in
    let new = c.in_ok-found.ensures in
    let null = rw c.in_default.is at new.null in
    let old = c.loop-head.invariant in
    record {
      before = old.before;
      held = old.held;
      read = read_to_null c.args.main.now c.args.unit c.loop-head.head.position c.loop-head.head.start
          c.loop-head.corners_before c.in_ok-found.found.end c.in_ok-found.found.drawn (rings_of old.before)
          old.read apart new.checked null.0 new.end null.1;
      few_together = new.few_together;
      few = omega (arith, new.few);
      start = new.within;
    }

pub returns-clause-layer : goal.returns-clause-layer
returns-clause-layer g c =
    let all = c.loop-head.invariant.read in
    record {
      held = c.loop-head.invariant.before;
      is_file = layer_file c.args.main.now c.args.unit c.loop-head.head.position c.loop-head.head.start all.drawn
          (rings_of c.loop-head.invariant.before) all.reads (c.loop-head-test.false ∙ c.requires.end) all.are;
      holds_them = c.loop-head.invariant.held;
    }
