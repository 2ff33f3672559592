use Rattle.std.proofs.Common.{sym, ◌∙◌}
use Rattle.path_proof.specs.RecordedPaths.{first_of}
use Rattle.kore_prove.proofs.PathFiles.{last_there}
use Rattle.kore_prove.proofs.path_file.last_configuration.Goals as goal

pub returns-in-Some : goal.returns-in-Some
returns-in-Some c =
    let last = rw (c.in-Some.is, c.deref.ensures.value) at c.last.ensures.value in
    c.result.ensures
    ∙ sym (last_there (first_of c.args.path.now) c.args.path.now.steps.items c.in-Some.step.now
    (sym last))
