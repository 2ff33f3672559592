-- A guard whose body says that one variable is two different terms.
use Rattle.std.proofs.Common.{◌≡◌, ℕ, [], Some, sym, ◌∙◌, ap, arith}
use Rattle.ml_pat.specs.Patterns.{Pattern as LogicPattern, imp}
use Rattle.ml_pat.specs.Patterns as logic
use Rattle.term_core.specs.Terms.{Tree}
use Rattle.term_core.specs.Patterns.{ground_pattern}
use Rattle.rule_core.specs.Sorting.{IsTermOf}
use Rattle.ml_image.specs.Sentences.{equals, not, sentence_image, term}
use Rattle.prove_term.specs.Contexts.{Context, HasGrown}
use Rattle.prove_term.proofs.ContextLaws.{image_grown}
use Rattle.prove_term.proofs.ImageShapes.{both_some, map_some}
use Rattle.refute.specs.Refutations.{SaysSentence, is_bound_to}
use Rattle.refute.proofs.FreshImages.{image_keeps}
use Rattle.refute.proofs.Pairs.{ground_no_call}
use Rattle.refute_guard.specs.Bodies.{AreTwoEquations}
use Rattle.refute_body.specs.Implications.{IsUnderTwo}
use Rattle.refute_body.specs.Conditions.{SaysUnderTwo}

some_same : {A : Type 0} (x y : A) → Some x ≡ Some y → x ≡ y
some_same x y e = cc

-- under two hypotheses the variable equals the term
record IsBoundSaid (cx : Context) (g b : LogicPattern) (x : ℕ) (t : Tree) (c : LogicPattern)
    : Type 0 where
  pub p : LogicPattern
  pub is : sentence_image cx.program.sig cx.names (term (ground_pattern t)) ≡ Some p
  pub says : IsUnderTwo g b (logic.equal (logic.var x) p) c

bound_said : (cx : Context) (g b : LogicPattern) (x : ℕ) (t : Tree) (c : LogicPattern)
    → SaysUnderTwo cx g b (is_bound_to x (Some t)) c → IsBoundSaid cx g b x t c
bound_said cx g b x t c said =
    let w = both_some logic.equal (Some (logic.var x))
    (sentence_image cx.program.sig cx.names (term (ground_pattern t))) said.image said.is_image in
    let this : logic.var x ≡ w.0 = some_same (logic.var x) w.0 w.2 in
    record {
      p = w.1;
      is = w.3;
      says =
          said.says
          ∙ ap (λ (e : LogicPattern). imp g (imp b e))
          (w.4 ∙ ap (λ (v : LogicPattern). logic.equal v w.1) (sym this));
    }

differ_said : (cx : Context) (t u : Tree) (p q d : LogicPattern)
    → sentence_image cx.program.sig cx.names (term (ground_pattern t)) ≡ Some p
    → sentence_image cx.program.sig cx.names (term (ground_pattern u)) ≡ Some q
    → SaysSentence cx (not (equals (term (ground_pattern t)) (term (ground_pattern u)))) d
    → d ≡ logic.not (logic.equal p q)
differ_said cx t u p q d one other says =
    let k = map_some logic.not
    (sentence_image cx.program.sig cx.names (equals (term (ground_pattern t)) (term (ground_pattern u)))) d says
    in
    let w = both_some logic.equal (sentence_image cx.program.sig cx.names (term (ground_pattern t)))
    (sentence_image cx.program.sig cx.names (term (ground_pattern u))) k.0 k.1 in
    k.2
    ∙ ap logic.not (w.4
    ∙ ap (λ (v : LogicPattern). logic.equal v w.1) (some_same w.0 p (sym w.2 ∙ one))
    ∙ ap (logic.equal p) (some_same w.1 q (sym w.3 ∙ other)))

-- the equations in the contexts in which they are proved, and that the terms differ
pub two_equations : (a b c : Context) (g body : LogicPattern) (x sort : ℕ) (t u : Tree)
    (one other differ : LogicPattern) → HasGrown a b → HasGrown b c
    → SaysUnderTwo a g body (is_bound_to x (Some t)) one
    → SaysUnderTwo b g body (is_bound_to x (Some u)) other → IsTermOf b.program.sig u sort
    → SaysSentence c (not (equals (term (ground_pattern t)) (term (ground_pattern u)))) differ
    → AreTwoEquations x one other differ
two_equations a b c g body x sort t u one other differ grown further first second is_term says =
    let m : IsBoundSaid a g body x t one = bound_said a g body x t one first in
    let n : IsBoundSaid b g body x u other = bound_said b g body x u other second in
    record {
      g = g;
      b = body;
      x = logic.var x;
      p = m.p;
      q = n.p;
      is_one = m.says;
      is_other = n.says;
      is_differ =
          differ_said c t u m.p n.p differ
          (image_grown b c (term (ground_pattern t)) m.p further
          (image_grown a b (term (ground_pattern t)) m.p grown m.is))
          (image_grown b c (term (ground_pattern u)) n.p further n.is) says;
      keeps = λ v. image_keeps b.program.sig b.names [] x (ground_pattern u) sort n.p v is_term
          (ground_no_call u) (omega arith) n.is;
    }
