-- Comparing comes to no clash, if nothing was refuted.
use Rattle.std.proofs.Common.{◌≡◌, Option, None, sym, subst}
use Rattle.term_core.specs.Terms.{Tree}
use Rattle.term_core.specs.Patterns.{Pattern}
use Rattle.rule_core.specs.declared.rules.Program.{Program}
use Rattle.prove_term.specs.Contexts.{Context, HasGrown}
use Rattle.prove_open.specs.declared.differences.Difference.{Difference}
use Rattle.refute.specs.Clashes.{Clash, ComesTo}
use Rattle.refute.specs.Refuting.{IsRefuted}
use Rattle.refute.specs.declared.settings.Setting.{Setting}
use Rattle.refute.proofs.Growing.{program_grown}

pub no_clash_there : (old new : Context) (s : Setting) (p g : Pattern) (t : Tree)
    (o : Option Difference) → HasGrown old new → o ≡ None → IsRefuted new s p t o → p ≡ g
    → (q : Pattern) (u : Tree) → ComesTo old.program.sig.subsorts q u g t
    → Clash old.program.sig.subsorts q u → ⊥
no_clash_there old new s p g t o grown is free same q u comes clashes =
    let none : IsRefuted new s p t None = subst (IsRefuted new s p t) is free in
    (none q u
    (subst (λ (r : Pattern). ComesTo new.program.sig.subsorts q u r t) (sym same)
    (program_grown old new (λ (a : Program). ComesTo a.sig.subsorts q u g t) grown comes))).0
    (program_grown old new (λ (a : Program). Clash a.sig.subsorts q u) grown clashes)
