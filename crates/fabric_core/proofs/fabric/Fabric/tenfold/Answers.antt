use Rattle.std.proofs.Common.{inl, sym, ◌∙◌, ap, subst, map}
use Rattle.std.specs.List.{AllByRecursion}
use Rattle.scaled_rings.specs.Tenfold.{IsNear, IsTenTimes, near_limit}
use Rattle.scaled_rings.proofs.Farthest.{one_far, none_far}
use Rattle.fabric_core.specs.declared.tenfold.ScaleFault.TheVariants.{TooFar}
use Rattle.fabric_core.specs.Journal.{Book}
use Rattle.fabric_core.specs.Tenfold.{corners_of_book, corners_of_entries, corners_of_state}
use Rattle.fabric_core.specs.own.Books.{IsBook}
use Rattle.fabric_core.specs.own.Changes.{state_of}
use Rattle.fabric_core.proofs.loads.RefinedRings.{AllZip-length}
use Rattle.fabric_core.proofs.tens.Rows.{are_ten_entries, is_ten_state, near_book, near_entries, near_state, ten_entry, ten_state}
use Rattle.fabric_core.proofs.tens.Journals.{book_ten}
use Rattle.fabric_core.proofs.fabric.Fabric.tenfold.Goals as goal

pub returns-in-Some-clause-refuses : goal.returns-in-Some-clause-refuses
returns-in-Some-clause-refuses g c = λ corner h.
    inl (ap TooFar (one_far near_limit (corners_of_book c.args.self.now) c.in-Some.corner corner c.in-Some.ensures h))

pub tenfold-requires-clause-near_city : goal.tenfold-requires-clause-near_city
tenfold-requires-clause-near_city g c =
    let near : AllByRecursion IsNear (corners_of_book c.args.self.now) = c.in_default.ensures in
    subst (λ (b : Book _). AllByRecursion IsNear b.city) (sym c.self.view_is) (near_book c.args.self.now near).city

pub tenfold-requires-clause-near : goal.tenfold-requires-clause-near
tenfold-requires-clause-near g c =
    let near : AllByRecursion IsNear (corners_of_book c.args.self.now) = c.in_default.ensures in
    subst (λ (b : Book _). AllByRecursion IsNear (corners_of_state b.now)) (sym c.self.view_is) (near_book c.args.self.now near).now

pub tenfold-opening-requires : goal.tenfold-opening-requires
tenfold-opening-requires g c =
    let near : AllByRecursion IsNear (corners_of_book c.args.self.now) = c.in_default.ensures in
    subst (λ (b : Book _). AllByRecursion IsNear (corners_of_state b.opening)) (sym c.self.view_is)
    (near_book c.args.self.now near).opening

pub tenfold_entries-requires : goal.tenfold_entries-requires
tenfold_entries-requires g c =
    let near : AllByRecursion IsNear (corners_of_book c.args.self.now) = c.in_default.ensures in
    subst (λ entries. AllByRecursion IsNear (corners_of_entries entries)) (sym c.journal.ensures) (near_book c.args.self.now near).journal

pub invariant_of-result : goal.invariant_of-result
invariant_of-result g c =
    let near : AllByRecursion IsNear (corners_of_book c.args.self.now) = c.in_default.ensures in
    let opening = c.self.inside.opening in let journal = c.self.inside.journal.items in let tiled = c.in_ok-tiled.tiled in
    let corners = c.self.inside.corners in
    subst (λ state. IsBook state c.in_ok-journal.journal.items tiled corners)
    (sym (is_ten_state opening c.tenfold-opening.result c.tenfold-opening.ensures))
    (subst (λ entries. IsBook (ten_state opening) entries tiled corners)
    (sym (are_ten_entries c.journal.result.now c.in_ok-journal.journal.items c.in_ok-journal.ensures
    ∙ ap (map ten_entry) (c.journal.ensures ∙ sym (ap (λ (b : Book _). b.journal) c.self.view_is))))
    (book_ten opening journal c.self.inside.tiled tiled corners
    (near_state opening (subst (λ (b : Book _). AllByRecursion IsNear (corners_of_state b.opening)) (sym c.self.view_is)
    (near_book c.args.self.now near).opening))
    (near_entries journal (subst (λ (b : Book _). AllByRecursion IsNear (corners_of_entries b.journal)) (sym c.self.view_is)
    (near_book c.args.self.now near).journal))
    (is_ten_state (state_of c.self.inside.tiled) (state_of tiled) c.in_ok-tiled.ensures.now) c.in_ok-tiled.ensures.gone
    (sym (AllZip-length IsTenTimes c.self.inside.tiled.city tiled.city c.in_ok-tiled.ensures.city)) c.self.invariant))

pub returns-clause-refuses : goal.returns-clause-refuses
returns-clause-refuses g c = λ corner h.
    let near : AllByRecursion IsNear (corners_of_book c.args.self.now) = c.in_default.ensures in
    none_far near_limit (corners_of_book c.args.self.now) corner near h
