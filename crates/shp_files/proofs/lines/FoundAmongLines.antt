-- What a reader finds among lines, memory aside.
use Rattle.std.proofs.Common.{◌≡◌, List, ◌++◌, Option, None, Result, Ok, Err, IsErrAnd, sym, subst, ◌∙◌}
use Rattle.shp_files.specs.declared.fault.FileFault.{FileFault}
use Rattle.shp_files.specs.declared.fault.LayerFault.{LayerFault}
use Rattle.shp_files.specs.declared.fault.LayerFault.TheVariants.{File, NoMemory}
use Rattle.shp_files.specs.Checks.{Check, first_failure}
use Rattle.shp_files.specs.own.Reading.{Fails, Finds}
use Rattle.shp_files.proofs.lines.Lines.{goes_on, stops}

-- what is refused stays refused, whatever lines follow
pub fails_stops : (e : LayerFault) (lines more : List Check) → Fails e (first_failure lines) → Fails e (first_failure (lines ++ more))
fails_stops (File fault) lines more p = sym (stops lines more fault (sym p))
fails_stops NoMemory lines more p = tt

-- what is refused behind lines that do not fail
pub fails_on : (e : LayerFault) (lines more : List Check) → None ≡ first_failure lines → Fails e (first_failure more)
    → Fails e (first_failure (lines ++ more))
fails_on (File fault) lines more p q = goes_on lines more p ∙ q
fails_on NoMemory lines more p q = tt

-- what is found behind lines that do not fail
pub finds_on : {X : Type 0} (r : Result X LayerFault) (lines more : List Check) → None ≡ first_failure lines
    → Finds r (first_failure more)
    → Finds r (first_failure (lines ++ more))
finds_on (Ok x) lines more p q = goes_on lines more p ∙ q
finds_on (Err e) lines more p q = fails_on e lines more p q

-- what the exit of a `?` finds is what the call behind it found
pub found_by_exit : {X : Type 0} (r : Result X LayerFault) (e : LayerFault) (found : Option FileFault) → IsErrAnd r (λ y. y ≡ e)
    → Fails e found → Finds r found
found_by_exit (Ok x) e found is fails = absurd is
found_by_exit (Err y) e found is fails = subst (λ (z : LayerFault). Fails z found) (sym is) fails
