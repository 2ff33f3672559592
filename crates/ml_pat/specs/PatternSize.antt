-- The parts of a pattern are smaller than the pattern.
use Rattle.std.specs.Prelude.{◌≤◌}
use Rattle.std.proofs.Common.{arith}
use Rattle.ml_pat.specs.FormsIn.{forms_in}
use Rattle.ml_pat.specs.PatternView.{pattern_of}
use Rattle.ml_pat.specs.declared.patterns.MForm.{MForm}
use Rattle.ml_pat.specs.declared.patterns.MForm.TheVariants as form
use Rattle.ml_pat.specs.declared.patterns.MPat.TheDeep.{deep-MForm}

pub deep-forms_in : (f : MForm) → deep-MForm f ≤ forms_in (pattern_of f)
deep-forms_in form.Bot = omega arith
deep-forms_in f = omega arith
