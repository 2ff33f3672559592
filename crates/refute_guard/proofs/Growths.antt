-- What stays true when a context grows.
use Rattle.std.proofs.Common.{◌≡◌, ℕ, List, Option, Some, sym, ◌∙◌, ap, subst}
use Rattle.ml_pat.specs.Patterns.{Pattern as LogicPattern}
use Rattle.ml_pat.specs.Patterns as logic
use Rattle.term_core.specs.Patterns.{Pattern}
use Rattle.rule_core.specs.declared.rules.Program.{Program}
use Rattle.ml_image.specs.Images.{both}
use Rattle.ml_image.specs.LastResorts.{condition_renamed}
use Rattle.ml_image.specs.Premises.{sort_of}
use Rattle.ml_image.specs.Sentences.{Sentence, and, sentence_image}
use Rattle.prove_term.specs.Contexts.{Context, HasGrown}

some_same : {A : Type 0} (x y : A) → Some x ≡ Some y → x ≡ y
some_same x y e = cc

-- what is said of a program is said of the program of the grown context
pub program_grown : (a b : Context) (P : Program → Type 0) → HasGrown a b → P a.program
    → P b.program
program_grown a b P g h = subst P (sym g.program) h

-- a pattern keeps its sort
pub sort_kept : (a b : Context) (sorts : List ℕ) (p : Pattern) (s r : ℕ) → HasGrown a b
    → sort_of a.program.sig sorts p ≡ Some s → sort_of b.program.sig sorts p ≡ Some r → s ≡ r
sort_kept a b sorts p s r g one other =
    some_same s r (sym one ∙ sym (ap (λ (program : Program). sort_of program.sig sorts p) g.program)
    ∙ other)

-- a condition keeps its sentence
pub condition_kept : (a b : Context) (g : ℕ → ℕ) (sorts : List ℕ) (o : Option Pattern) (c : Sentence)
    → HasGrown a b → condition_renamed b.program.sig g sorts o ≡ Some c
    → condition_renamed a.program.sig g sorts o ≡ Some c
condition_kept a b g sorts o c grown is =
    sym (ap (λ (program : Program). condition_renamed program.sig g sorts o) grown.program) ∙ is

-- the conjunction of two sentences
pub both_said : (cx : Context) (s r : Sentence) (p q made : LogicPattern)
    → sentence_image cx.program.sig cx.names s ≡ Some p
    → sentence_image cx.program.sig cx.names r ≡ Some q → made ≡ logic.and p q
    → sentence_image cx.program.sig cx.names (and s r) ≡ Some made
both_said cx s r p q made one other is =
    ap (λ (o : Option LogicPattern). both logic.and o (sentence_image cx.program.sig cx.names r)) one
    ∙ ap (both logic.and (Some p)) other ∙ ap (λ (x : LogicPattern). Some x) (sym is)
