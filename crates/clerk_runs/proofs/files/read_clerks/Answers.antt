use Rattle.std.proofs.Common.{◌≡◌, ◌∷◌, ◌+◌, inl, inr, suc, refl, sym, ap, drop, add-one}
use Rattle.std.proofs.Math.Seq.{drop-cons}
use Rattle.std.proofs.lemmas.List.{drop_all}
use Rattle.clerk_runs.specs.declared.files.FilesFault.TheVariants.{NoMemory}
use Rattle.clerk_runs.specs.ClerkFiles.{texts_of, AskForMemory}
use Rattle.geo_exact.proofs.PassedOn.{passed_on, passed_if, passed_as}
use Rattle.clerk_runs.proofs.ClerksRead.{none_read, more_read, next_asks, is_told, due_is_told, all_read, none_bad}
use Rattle.clerk_runs.proofs.files.read_clerks.Goals as goal

pub loop-file-init : goal.loop-file-init
loop-file-init g c = record { count = refl; read = rw c.new-clerks.ensures.items (none_read _) }

pub loop-file-preserved : goal.loop-file-preserved
loop-file-preserved g c =
    let files = c.args.files.now in
    let i = c.loop-file.file-index in
    let left : drop i files ≡ c.file-item.result ∷ drop (i + 1) files =
    rw (add-one, drop-cons files i c.file-item.result c.loop-file-test.true) (ap (λ file. file ∷ drop (suc i) files)
    (sym c.file-item.is)) in
    record {
      count = ap (λ n. n + 1) c.loop-file.invariant.count;
      read = rw c.in_ok-push.ensures.items (
          more_read (texts_of files) (c.loop-file.clerk + 1) c.file-item.result.items (texts_of (drop (i + 1) files))
          c.loop-file.clerks.items c.in_ok-edits.edits.items
          (rw left at c.loop-file.invariant.read) (rw c.as_slice.ensures.value at c.in_ok-edits.ensures.edits)
          (λ line h. c.in_ok-edits.ensures.refuses line (rw c.as_slice.ensures.value h)));
    }

pub returns-in_err-edits-clause-fault : goal.returns-in_err-edits-clause-fault
returns-in_err-edits-clause-fault g c =
    let files = c.args.files.now in
    let i = c.loop-file.file-index in
    let left : drop i files ≡ c.file-item.result ∷ drop (i + 1) files =
    rw (add-one, drop-cons files i c.file-item.result c.loop-file-test.true) (ap (λ file. file ∷ drop (suc i) files)
    (sym c.file-item.is)) in
    passed_if _ _ _ c.from_residual.ensures.1 (λ clerk line is.
    is_told (texts_of files) (c.loop-file.clerk + 1) c.file-item.result.items (texts_of (drop (i + 1) files)) c.loop-file.clerks.items _
    (rw left at c.loop-file.invariant.read) (rw c.as_slice.ensures.value at c.in_err-edits.ensures.fault) clerk line is)

pub returns-in_err-edits-clause-refuses : goal.returns-in_err-edits-clause-refuses
returns-in_err-edits-clause-refuses g c = λ clerk line h.
    let files = c.args.files.now in
    let i = c.loop-file.file-index in
    let left : drop i files ≡ c.file-item.result ∷ drop (i + 1) files =
    rw (add-one, drop-cons files i c.file-item.result c.loop-file-test.true) (ap (λ file. file ∷ drop (suc i) files)
    (sym c.file-item.is)) in
    passed_on _ _ _ c.from_residual.ensures.1 (
    due_is_told (texts_of files) (c.loop-file.clerk + 1) c.file-item.result.items (texts_of (drop (i + 1) files)) c.loop-file.clerks.items _
    (rw left at c.loop-file.invariant.read) (rw c.as_slice.ensures.value at c.in_err-edits.ensures.fault)
    (λ other k. c.in_err-edits.ensures.refuses other (rw c.as_slice.ensures.value k)) clerk line h)

pub returns-in_err-edits-clause-memory : goal.returns-in_err-edits-clause-memory
returns-in_err-edits-clause-memory g c =
    let files = c.args.files.now in
    let i = c.loop-file.file-index in
    let left : drop i files ≡ c.file-item.result ∷ drop (i + 1) files =
    rw (add-one, drop-cons files i c.file-item.result c.loop-file-test.true) (ap (λ file. file ∷ drop (suc i) files)
    (sym c.file-item.is)) in
    passed_if _ _ _ c.from_residual.ensures.1 (λ is.
    next_asks (texts_of files) (c.loop-file.clerk + 1) c.file-item.result.items (texts_of (drop (i + 1) files)) c.loop-file.clerks.items
    (rw left at c.loop-file.invariant.read) (inl (rw c.as_slice.ensures.value at (c.in_err-edits.ensures.memory is))))

pub returns-in_err-push-clause-memory : goal.returns-in_err-push-clause-memory
returns-in_err-push-clause-memory g c =
    let files = c.args.files.now in
    let i = c.loop-file.file-index in
    let left : drop i files ≡ c.file-item.result ∷ drop (i + 1) files =
    rw (add-one, drop-cons files i c.file-item.result c.loop-file-test.true) (ap (λ file. file ∷ drop (suc i) files)
    (sym c.file-item.is)) in
    passed_as _ _ (λ fault. fault ≡ NoMemory → AskForMemory (texts_of files)) c.from_residual-in_err-push.ensures.1 (λ fault told is.
    next_asks (texts_of files) (c.loop-file.clerk + 1) c.file-item.result.items (texts_of (drop (i + 1) files)) c.loop-file.clerks.items
    (rw left at c.loop-file.invariant.read)
    (inr (λ line h. c.in_ok-edits.ensures.refuses line (rw c.as_slice.ensures.value h))))

pub returns-clause-edits : goal.returns-clause-edits
returns-clause-edits g c =
    all_read _ _ _ (rw (drop_all c.loop-file.file-index c.args.files.now c.loop-file-test.false) at c.loop-file.invariant.read)

pub returns-clause-refuses : goal.returns-clause-refuses
returns-clause-refuses g c = λ clerk line h.
    absurd (none_bad _ _ _ (rw (drop_all c.loop-file.file-index c.args.files.now c.loop-file-test.false) at
    c.loop-file.invariant.read) clerk line h)
