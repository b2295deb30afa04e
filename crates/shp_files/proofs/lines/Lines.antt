-- The first failure among lines.
use Rattle.std.proofs.Common.{◌≡◌, Bool, true, false, cond, List, [], ◌∷◌, ◌++◌, Option, Some, None, refl, sym, ◌∙◌}
use Rattle.shp_files.specs.declared.fault.FileFault.{FileFault}
use Rattle.shp_files.specs.Checks.{Check, check, first_failure}

-- a line that does not fail leaves the answer to the lines after it
pub on : (fails : Bool) (answer : FileFault) (lines : List Check) (found : Option FileFault)
    → None ≡ first_failure (check fails answer ∷ [])
    → found ≡ first_failure lines
    → found ≡ first_failure (check fails answer ∷ lines)
unfolding first_failure
on true answer lines found p q = absurd cc
on false answer lines found p q = q

-- a line that fails has the answer
pub at : (fails : Bool) (answer fault : FileFault) (lines : List Check) → Some fault ≡ first_failure (check fails answer ∷ [])
    → Some fault ≡ first_failure (check fails answer ∷ lines)
unfolding first_failure
at true answer fault lines p = p
at false answer fault lines p = absurd cc

on_more : (fails : Bool) (answer : FileFault) (x y z : Option FileFault) → (None ≡ x → y ≡ z)
    → None ≡ cond fails (Some answer) x
    → cond fails (Some answer) y ≡ z
on_more true answer x y z h p = absurd cc
on_more false answer x y z h p = h p

stops_more : (fails : Bool) (answer fault : FileFault) (x y : Option FileFault) → (Some fault ≡ x → Some fault ≡ y)
    → Some fault ≡ cond fails (Some answer) x
    → Some fault ≡ cond fails (Some answer) y
stops_more true answer fault x y h p = p
stops_more false answer fault x y h p = h p

-- lines that do not fail leave the answer to those after them
pub goes_on : (lines more : List Check) → None ≡ first_failure lines → first_failure (lines ++ more) ≡ first_failure more
unfolding first_failure
goes_on [] more p = refl
goes_on (line ∷ lines) more p =
    on_more line.fails line.answer (first_failure lines) (first_failure (lines ++ more)) (first_failure more) (λ q. goes_on lines more q) p

-- the first failure of lines is that of all
pub stops : (lines more : List Check) (fault : FileFault) → Some fault ≡ first_failure lines
    → Some fault ≡ first_failure (lines ++ more)
unfolding first_failure
stops [] more fault p = absurd cc
stops (line ∷ lines) more fault p =
    stops_more line.fails line.answer fault (first_failure lines) (first_failure (lines ++ more)) (λ q. stops lines more fault q) p

-- a lone line that does not fail
pub passed : (fails : Bool) (answer : FileFault) → None ≡ first_failure (check fails answer ∷ []) → fails ≡ false
unfolding first_failure
passed true answer p = absurd cc
passed false answer p = refl

-- where no line fails, the first does not, nor do the others
pub pass : (fails : Bool) (answer : FileFault) (lines : List Check) → first_failure (check fails answer ∷ lines) ≡ None
    → (fails ≡ false) × (first_failure lines ≡ None)
unfolding first_failure
pass true answer lines p = absurd cc
pass false answer lines p = (refl, p)

pub pass_from : (fails : Bool) (answer : FileFault) (lines : List Check) → fails ≡ false → first_failure lines ≡ None
    → first_failure (check fails answer ∷ lines) ≡ None
unfolding first_failure
pass_from fails answer lines e p = rw e p

parts_more : (fails : Bool) (answer : FileFault) (x y z : Option FileFault) → (x ≡ None → (y ≡ None) × (z ≡ None))
    → cond fails (Some answer) x ≡ None
    → (cond fails (Some answer) y ≡ None) × (z ≡ None)
parts_more true answer x y z h p = absurd cc
parts_more false answer x y z h p = h p

-- where none of all lines fails, none of either part does
pub pass_parts : (lines more : List Check) → first_failure (lines ++ more) ≡ None → (first_failure lines ≡ None)
    × (first_failure more ≡ None)
unfolding first_failure
pass_parts [] more p = (refl, p)
pass_parts (line ∷ lines) more p =
    parts_more line.fails line.answer (first_failure (lines ++ more)) (first_failure lines) (first_failure more)
    (λ q. pass_parts lines more q) p

pub pass_both : (lines more : List Check) → first_failure lines ≡ None → first_failure more ≡ None
    → first_failure (lines ++ more) ≡ None
pass_both lines more p q = goes_on lines more (sym p) ∙ q

pub first_failure_none : first_failure [] ≡ None
unfolding first_failure
first_failure_none = refl
