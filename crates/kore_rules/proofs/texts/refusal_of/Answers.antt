use Rattle.std.proofs.Common.{refl}
use Rattle.kore_text.specs.declared.faults.TextFault.TheVariants as text_fault
use Rattle.kore_rules.proofs.texts.refusal_of.Goals as goal

pub returns-in-Lex-clause-definition : goal.returns-in-Lex-clause-definition
returns-in-Lex-clause-definition c =
    λ bytes h. (text_fault.Lex c.in-Lex.at, rw c.in-Lex.is at h, refl)

pub returns-in-Lex-clause-pattern : goal.returns-in-Lex-clause-pattern
returns-in-Lex-clause-pattern c = λ bytes h. (text_fault.Lex c.in-Lex.at, rw c.in-Lex.is at h, refl)

pub returns-in-Syntax-clause-definition : goal.returns-in-Syntax-clause-definition
returns-in-Syntax-clause-definition c =
    λ bytes h. (text_fault.Syntax c.in-Syntax.at, rw c.in-Syntax.is at h, refl)

pub returns-in-Syntax-clause-pattern : goal.returns-in-Syntax-clause-pattern
returns-in-Syntax-clause-pattern c =
    λ bytes h. (text_fault.Syntax c.in-Syntax.at, rw c.in-Syntax.is at h, refl)

pub returns-in-Deep-clause-definition : goal.returns-in-Deep-clause-definition
returns-in-Deep-clause-definition c =
    λ bytes h. (text_fault.Deep c.in-Deep.at, rw c.in-Deep.is at h, refl)

pub returns-in-Deep-clause-pattern : goal.returns-in-Deep-clause-pattern
returns-in-Deep-clause-pattern c =
    λ bytes h. (text_fault.Deep c.in-Deep.at, rw c.in-Deep.is at h, refl)
