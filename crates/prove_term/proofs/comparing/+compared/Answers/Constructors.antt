-- The answers for a constructor: its arguments are compared one by one.
use Rattle.std.proofs.Common.{◌≡◌, ◌+◌, ℕ, List, refl, ap, sym, ◌∙◌, subst, arith}
use Rattle.ml_pat.specs.Patterns.{Pattern, constant}
use Rattle.ml_kernel.specs.Lemmas.{HasNoVariable}
use Rattle.term_core.specs.Patterns.{Pattern as RulePattern, application}
use Rattle.term_core.specs.RulePatterns.{plain_pattern}
use Rattle.term_core.specs.PatternLists.{plain_patterns}
use Rattle.term_core.specs.declared.rule_patterns.RulePat.{RulePat}
use Rattle.term_core.proofs.PatternLaws.{depth, depths}
use Rattle.term_core.proofs.PlainPatterns.{plain-Ctor}
use Rattle.ml_image.specs.Images.{image_of}
use Rattle.prove_term.specs.Schemas.{AreImages}
use Rattle.prove_term.specs.Comparing.{MakesTerm, Compares, IsOverContext}
use Rattle.prove_term.proofs.ResultLaws.{if_ok}
use Rattle.prove_term.proofs.ComparingCalls.{IsTakenApart, taken_apart, parts_compare, head_over}
use Rattle.prove_term.proofs.comparing.+compared.Goals as goal
use Rattle.prove_term.proofs.comparing.+compared.Goals.{compared-After-deref}
use Rattle.prove_term.proofs.comparing.+compared.Goals.{constructor_compared-In-Ctor}

-- the pattern, with its arguments as they are passed on
pattern_is : (t : ℕ) (c : compared-After-deref t)
    → plain_pattern c.args.pat.now
    ≡ application c.in-Ctor.field-0.0 (plain_patterns c.deref.result.now)
pattern_is t c =
    ap plain_pattern c.in-Ctor.is ∙ plain-Ctor _ _
    ∙ ap (λ (ps : List RulePat). application c.in-Ctor.field-0.0 (plain_patterns ps))
    (sym c.deref.ensures.value)

pub compared-constructor_compared-requires : goal.compared-constructor_compared-requires
compared-constructor_compared-requires t c =
    let is = pattern_is t (goal.at.compared-constructor_compared-requires t c).After-deref in
    let high : depth (plain_pattern c.args.pat.now) ≡ depths (plain_patterns c.deref.result.now) +
    1 =
    ap depth is in (
      omega (arith, high, c.decreases),
      (
        c.requires.signature,
        (
          (
            c.in-Ctor.field-0.0,
            subst (λ (p : RulePattern).
                MakesTerm c.args.cx.now.program.sig p (plain_pattern c.args.whole.now)) is
                c.requires.made,
          ),
          c.requires.image,
        ),
      ),
    )

pub compared-returns-in-Ctor-clause-says : goal.compared-returns-in-Ctor-clause-says
compared-returns-in-Ctor-clause-says t c =
    let is = pattern_is t (goal.at.compared-returns-in-Ctor-clause-says t c).After-deref in
    if_ok c.constructor_compared.result
    (λ o says. subst (λ (p : RulePattern). Compares c.constructor_compared.new.cx p
    (plain_pattern c.args.whole.now) c.args.image.now o) (sym is) (says c.in-Ctor.field-0.0))
    c.constructor_compared.ensures.says

-- the term of the whole, with its arguments as they are passed on
whole_is : (t : ℕ) (c : constructor_compared-In-Ctor t) (ws : List RulePat)
    → ws ≡ c.in-Ctor.wholes.items
    → plain_pattern c.args.whole.now ≡ application c.in-Ctor.field-0.0 (plain_patterns ws)
whole_is t c ws same =
    ap plain_pattern c.in-Ctor.is ∙ plain-Ctor _ _
    ∙ ap (λ (qs : List RulePat). application c.in-Ctor.field-0.0 (plain_patterns qs)) (sym same)

image_apart : (t : ℕ) (c : constructor_compared-In-Ctor t) (ws : List RulePat)
    → ws ≡ c.in-Ctor.wholes.items
    → IsTakenApart c.args.cx.now c.requires.made.0 c.in-Ctor.field-0.0 c.args.args.now ws
    c.args.image.now
image_apart t c ws same =
    let w : plain_pattern c.args.whole.now ≡ application c.in-Ctor.field-0.0 (plain_patterns ws) =
    whole_is t c ws same in
    taken_apart c.args.cx.now c.requires.made.0 c.in-Ctor.field-0.0 c.args.args.now ws
    c.args.image.now
    (subst (λ (q : RulePattern). MakesTerm c.args.cx.now.program.sig
    (application c.requires.made.0 (plain_patterns c.args.args.now)) q) w c.requires.made.1)
    (ap (image_of c.args.cx.now.program.sig c.args.cx.now.names) (sym w) ∙ c.requires.image)

pub constructor_compared-taken_apart-requires : goal.constructor_compared-taken_apart-requires
constructor_compared-taken_apart-requires t c =
    let a = image_apart t (goal.at.constructor_compared-taken_apart-requires t c).In-Ctor
    c.in-Ctor.wholes.items refl in
    (constant a.number, a.images, a.is, a.many)

pub constructor_compared-all_compared-requires : goal.constructor_compared-all_compared-requires
constructor_compared-all_compared-requires t c =
    let a : IsTakenApart c.args.cx.now c.requires.made.0 c.in-Ctor.field-0.0 c.args.args.now
    c.deref.result.now c.args.image.now =
    image_apart t (goal.at.constructor_compared-all_compared-requires t c).In-Ctor
    c.deref.result.now c.deref.ensures.value in
    let parts : (c.in_ok-parts.parts.head ≡ constant a.number) ×
    (c.in_ok-parts.parts.arguments.items ≡ a.images) =
    c.in_ok-parts.ensures (constant a.number) a.images a.is a.many in
    let head : HasNoVariable (constant a.number) × IsOverContext c.args.cx.now (constant a.number) =
    head_over c.args.cx.now c.in-Ctor.field-0.0 a.number a.is_head in (
      omega (arith, c.decreases),
      (
        c.requires.signature,
        (
          a.made,
          (
            subst (λ (q : Pattern). HasNoVariable q × IsOverContext c.args.cx.now q) (sym parts.0)
                head,
            subst (λ (qs : List Pattern). AreImages c.args.cx.now.program.sig
                c.args.cx.now.names (plain_patterns c.deref.result.now) qs)
                (sym (c.deref-2.ensures.value ∙ parts.1)) a.are_images,
          ),
        ),
      ),
    )

pub constructor_compared-returns-clause-says : goal.constructor_compared-returns-clause-says
constructor_compared-returns-clause-says t c =
    let at = (goal.at.constructor_compared-returns-clause-says t c).In-Ctor in
    let a : IsTakenApart c.args.cx.now c.requires.made.0 c.in-Ctor.field-0.0 c.args.args.now
    c.deref.result.now c.args.image.now =
    image_apart t at c.deref.result.now c.deref.ensures.value in
    let parts : (c.in_ok-parts.parts.head ≡ constant a.number) ×
    (c.in_ok-parts.parts.arguments.items ≡ a.images) =
    c.in_ok-parts.ensures (constant a.number) a.images a.is a.many in
    if_ok c.all_compared.result
    (λ o says. λ f. subst (λ (q : RulePattern). Compares c.all_compared.new.cx
    (application f (plain_patterns c.args.args.now)) q c.args.image.now o)
    (sym (whole_is t at c.deref.result.now c.deref.ensures.value))
    (parts_compare c.args.cx.now c.all_compared.new.cx f c.requires.made.0 c.in-Ctor.field-0.0
    c.args.args.now c.deref.result.now c.args.image.now c.in_ok-parts.parts.head
    c.deref-2.result.now o
    a c.all_compared.ensures.grown parts.0 (c.deref-2.ensures.value ∙ parts.1) says))
    c.all_compared.ensures.says
