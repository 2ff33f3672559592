-- The answers for a constructor: its arguments are compared one by one.
use Rattle.std.proofs.Common.{◌≡◌, ℕ, List, Some, refl, ap, sym, ◌∙◌, subst, arith}
use Rattle.ml_pat.specs.Patterns.{Pattern, constant}
use Rattle.term_core.specs.Patterns.{Pattern as RulePattern, application}
use Rattle.term_core.specs.RulePatterns.{plain_pattern}
use Rattle.term_core.specs.PatternLists.{plain_patterns}
use Rattle.term_core.specs.declared.rule_patterns.RulePat.{RulePat}
use Rattle.term_core.proofs.PlainPatterns.{plain-Ctor}
use Rattle.ml_image.specs.Images.{image_of}
use Rattle.ml_image.specs.PartNames.{part_names}
use Rattle.ml_image.specs.Sentences.{term}
use Rattle.prove_term.specs.Applications.{applied_to}
use Rattle.prove_term.specs.Naming.{MakesNamed, ComparesPart}
use Rattle.prove_term.specs.Schemas.{AreImages}
use Rattle.prove_term.proofs.ComparingCalls.{IsTakenApart, taken_apart}
use Rattle.prove_term.proofs.NamingCalls.{constructor_part}
use Rattle.prove_term.proofs.NamingParts.{named_makes, named_made_arguments}
use Rattle.prove_term.proofs.ResultLaws.{if_ok}
use Rattle.prove_term.proofs.naming.+named.Goals as goal
use Rattle.prove_term.proofs.naming.+named.Goals.{constructor_named-In-Ctor}

-- the term of the whole, with its arguments as they are passed on
whole_is : (t : ℕ) (c : constructor_named-In-Ctor t) (ws : List RulePat)
    → ws ≡ c.in-Ctor.wholes.items
    → plain_pattern c.args.whole.now ≡ application c.in-Ctor.field-0.0 (plain_patterns ws)
whole_is t c ws same =
    ap plain_pattern c.in-Ctor.is ∙ plain-Ctor _ _
    ∙ ap (λ (qs : List RulePat). application c.in-Ctor.field-0.0 (plain_patterns qs)) (sym same)

whole_made : (t : ℕ) (c : constructor_named-In-Ctor t) (ws : List RulePat)
    → ws ≡ c.in-Ctor.wholes.items
    → MakesNamed c.args.cx.now.program.sig (part_names c.args.names.now)
    (application c.requires.made.0 (plain_patterns c.args.args.now))
    (application c.in-Ctor.field-0.0 (plain_patterns ws))
whole_made t c ws same =
    subst (λ (q : RulePattern). MakesNamed c.args.cx.now.program.sig (part_names c.args.names.now)
    (application c.requires.made.0 (plain_patterns c.args.args.now)) q) (whole_is t c ws same)
    c.requires.made.1

image_apart : (t : ℕ) (c : constructor_named-In-Ctor t) (ws : List RulePat)
    → ws ≡ c.in-Ctor.wholes.items
    → IsTakenApart c.args.cx.now c.requires.made.0 c.in-Ctor.field-0.0 c.args.args.now ws
    c.args.image.now
image_apart t c ws same =
    taken_apart c.args.cx.now c.requires.made.0 c.in-Ctor.field-0.0 c.args.args.now ws
    c.args.image.now
    (named_makes c.args.cx.now.program.sig (part_names c.args.names.now)
    (application c.requires.made.0 (plain_patterns c.args.args.now))
    (application c.in-Ctor.field-0.0 (plain_patterns ws)) (whole_made t c ws same))
    (ap (image_of c.args.cx.now.program.sig c.args.cx.now.names) (sym (whole_is t c ws same))
    ∙ c.requires.image)

pub constructor_named-taken_apart-requires : goal.constructor_named-taken_apart-requires
constructor_named-taken_apart-requires t c =
    let a = image_apart t (goal.at.constructor_named-taken_apart-requires t c).In-Ctor
    c.in-Ctor.wholes.items refl in
    (constant a.number, a.images, a.is, a.many)

pub constructor_named-all_named-requires : goal.constructor_named-all_named-requires
constructor_named-all_named-requires t c =
    let at = (goal.at.constructor_named-all_named-requires t c).In-Ctor in
    let a : IsTakenApart c.args.cx.now c.requires.made.0 c.in-Ctor.field-0.0 c.args.args.now
    c.deref.result.now c.args.image.now =
    image_apart t at c.deref.result.now c.deref.ensures.value in
    let parts : (c.in_ok-parts.parts.head ≡ constant a.number) ×
    (c.in_ok-parts.parts.arguments.items ≡ a.images) =
    c.in_ok-parts.ensures (constant a.number) a.images a.is a.many in (
      omega (arith, c.decreases),
      (
        c.requires.signature,
        (
          named_made_arguments c.args.cx.now.program.sig (part_names c.args.names.now)
              c.requires.made.0 c.in-Ctor.field-0.0 (plain_patterns c.args.args.now)
              (plain_patterns c.deref.result.now)
              (whole_made t at c.deref.result.now c.deref.ensures.value),
          (
            (
              c.in-Ctor.field-0.0,
              a.is_head ∙ ap (λ (q : Pattern). Some q) (sym parts.0),
            ),
            subst (λ (qs : List Pattern). AreImages c.args.cx.now.program.sig
                c.args.cx.now.names (plain_patterns c.deref.result.now) qs)
                (sym (c.deref-2.ensures.value ∙ parts.1)) a.are_images,
          ),
        ),
      ),
    )

pub constructor_named-returns-clause-says : goal.constructor_named-returns-clause-says
constructor_named-returns-clause-says t c =
    let at = (goal.at.constructor_named-returns-clause-says t c).In-Ctor in
    let a : IsTakenApart c.args.cx.now c.requires.made.0 c.in-Ctor.field-0.0 c.args.args.now
    c.deref.result.now c.args.image.now =
    image_apart t at c.deref.result.now c.deref.ensures.value in
    let parts : (c.in_ok-parts.parts.head ≡ constant a.number) ×
    (c.in_ok-parts.parts.arguments.items ≡ a.images) =
    c.in_ok-parts.ensures (constant a.number) a.images a.is a.many in
    let whole : c.args.image.now ≡ applied_to c.in_ok-parts.parts.head c.deref-2.result.now =
    a.is ∙ ap (λ (q : Pattern). applied_to q a.images) (sym parts.0)
    ∙ ap (applied_to c.in_ok-parts.parts.head) (sym (c.deref-2.ensures.value ∙ parts.1)) in
    if_ok c.all_named.result
    (λ o says. λ f. subst (λ (q : RulePattern). ComparesPart c.all_named.new.cx
    (part_names c.args.names.now) (application f (plain_patterns c.args.args.now)) q
    c.args.image.now o) (sym (whole_is t at c.deref.result.now c.deref.ensures.value))
    (constructor_part c.args.cx.now c.all_named.new.cx (part_names c.args.names.now) f
    c.in-Ctor.field-0.0 (plain_patterns c.args.args.now) (plain_patterns c.deref.result.now)
    c.in_ok-parts.parts.head c.args.image.now c.deref-2.result.now o
    (a.is_head ∙ ap (λ (q : Pattern). Some q) (sym parts.0)) whole says))
    c.all_named.ensures.says
