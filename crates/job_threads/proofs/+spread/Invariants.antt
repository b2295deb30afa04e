use Rattle.std.specs.Vec.{vec_len}
use Rattle.job_threads.proofs.+spread.Given as goal

abbrev pub decreases-spread : goal.decreases-spread
decreases-spread g l = vec_len l.jobs
