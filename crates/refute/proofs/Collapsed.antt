-- A term that is injected twice equals the term that is injected at once.
use Rattle.std.proofs.Common.{◌≡◌, ℕ, List, Some, sym, ap}
use Rattle.ml_pat.specs.Patterns.{Pattern}
use Rattle.term_core.specs.Terms.{Tree}
use Rattle.term_core.specs.Patterns.{injection, ground_pattern}
use Rattle.rule_core.specs.Sorting.{HasSort}
use Rattle.rule_core.specs.WellSorted.{IsSignature}
use Rattle.rule_core.specs.declared.signature.Signature.{Signature}
use Rattle.term_core.specs.Patterns.{Pattern as RulePattern}
use Rattle.ml_image.proofs.WellSortedLaws.{sorted_has_image}
use Rattle.ml_image.specs.Sentences.{term, equals, sentence_image}
use Rattle.prove_term.specs.Contexts.{Context}
use Rattle.prove_term.specs.InjectionTables.{InjectsBelow}
use Rattle.prove_term.specs.OpenAxioms.{SaysCollapseOf}

-- the equation is the image of a sentence
pub collapse_said : (cx : Context) (a b d : ℕ) (t : Tree) (p : Pattern)
    → SaysCollapseOf cx a b d t p
    → sentence_image cx.program.sig cx.names
    (equals (term (injection b d (injection a b (ground_pattern t))))
    (term (injection a d (ground_pattern t)))) ≡ Some p
collapse_said cx a b d t p is =
    rw (is.ends.is_symbol, is.ends.is_lower, is.ends.is_upper, is.is_last, is.is_image)
    (ap (λ (k : Pattern). Some k) (sym is.says))

-- the sorts of an injection that has a sort
pub injects_below : (sig : Signature) (sorts : List ℕ) (a b : ℕ) (p : RulePattern) (sort : ℕ)
    → IsSignature sig → HasSort sig sorts (injection a b p) sort → InjectsBelow sig a b
injects_below sig sorts a b p sort ok h = record {
  signature = ok;
  symbol = (sorted_has_image sig sorts (injection a b p) sort ok h).0;
  below = h.2;
}
