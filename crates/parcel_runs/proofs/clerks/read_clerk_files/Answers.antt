use Rattle.std.proofs.Common.{◌≤◌, sym, subst}
use Rattle.std.proofs.lemmas.Slice.Zip.{AllZip-long}
use Rattle.line_files.specs.ClerkFile.{IsClerkFile}
use Rattle.clerk_runs.specs.ClerkFiles.{texts_of}
use Rattle.desk_lock.specs.declared.opening.TheConstants.{MOST_PLACES}
use Rattle.parcel_runs.proofs.RunFaults.{few_texts}
use Rattle.parcel_runs.proofs.clerks.read_clerk_files.Goals as goal

pub returns-in-Ok-clause-few : goal.returns-in-Ok-clause-few
returns-in-Ok-clause-few g c =
    let files = c.as_slice.result.now in
    subst (λ n. n ≤ MOST_PLACES) (sym (AllZip-long IsClerkFile (texts_of files) _ c.in-Ok.ensures.edits))
    (few_texts files (rw (c.as_slice.ensures.value) c.requires))
