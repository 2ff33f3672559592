-- The answers for a pattern with its names, and for its parts by their form.
use Rattle.std.proofs.Common.{◌≡◌, ◌+◌, ℕ, inl, inr, List, Some, None, ap, sym, ◌∙◌, subst, arith}
use Rattle.std.specs.Prelude.{◌⊎◌}
use Rattle.ml_pat.specs.Patterns.{Pattern}
use Rattle.term_core.specs.Patterns.{Pattern as RulePattern, Patterns as RulePatterns, application}
use Rattle.term_core.specs.Patterns.{injection, call}
use Rattle.term_core.specs.RulePatterns.{plain_pattern, sort_numbers}
use Rattle.term_core.specs.PatternLists.{plain_patterns}
use Rattle.term_core.specs.Values.{value_of}
use Rattle.term_core.specs.declared.ids.SortId.{SortId}
use Rattle.term_core.specs.declared.values.Value.{Value}
use Rattle.term_core.specs.declared.rule_patterns.RulePat.{RulePat}
use Rattle.term_core.proofs.PatternLaws.{depth, depths}
use Rattle.term_core.proofs.PlainPatterns.{plain-Var, plain-Value, plain-Ctor, plain-Inj}
use Rattle.term_core.proofs.PlainPatterns.{plain-Call}
use Rattle.rule_core.specs.NamedParts.{Name}
use Rattle.rule_core.specs.declared.signature.Signature.{Signature}
use Rattle.ml_image.specs.Images.{image_of}
use Rattle.ml_image.specs.NamedSides.{of_child}
use Rattle.ml_image.specs.PartNames.{part_names}
use Rattle.ml_image.specs.Sentences.{term}
use Rattle.ml_image.proofs.ImageLaws.{none_some}
use Rattle.ml_image.proofs.NamedLaws.{none_there}
use Rattle.prove_term.specs.Contexts.{Context}
use Rattle.prove_term.specs.Naming.{MakesNamed, MakesBelow, ComparesPart, ComparesBelow}
use Rattle.prove_term.proofs.ContextLaws.{image_grown}
use Rattle.prove_term.proofs.NamingCalls.{without_names, with_names, part_says, named_closed}
use Rattle.prove_term.proofs.NamingCalls.{makes_grown, below_part, variable_part, value_part}
use Rattle.prove_term.proofs.NamingParts.{named_makes, makes_below}
use Rattle.prove_term.proofs.ResultLaws.{if_ok}
use Rattle.term_core.specs.declared.rule_patterns.RulePat.TheVariants as form
use Rattle.prove_term.proofs.naming.+named.Goals as goal
use Rattle.prove_term.proofs.naming.+named.Goals.{part_compared-After-deref-in-Inj-2}

-- ---- the names of the whole

pub named_compared-compared-requires : goal.named_compared-compared-requires
named_compared-compared-requires t c = record {
  signature = c.requires.signature;
  made =
      named_makes c.args.cx.now.program.sig (part_names c.args.names.now)
      (plain_pattern c.args.pat.now) (plain_pattern c.args.whole.now) c.requires.made;
  image = c.requires.image;
}

pub named_compared-returns-then-is_empty-clause-says :
    goal.named_compared-returns-then-is_empty-clause-says
named_compared-returns-then-is_empty-clause-says t c =
    if_ok c.compared.result
    (λ o says. without_names c.args.cx.now c.compared.new.cx (part_names c.args.names.now)
    (plain_pattern c.args.pat.now) (plain_pattern c.args.whole.now) c.args.image.now o
    (ap part_names
    (none_there c.args.names.now c.is_empty.result c.is_empty.ensures c.if-is_empty.true))
    c.compared.ensures.grown c.requires.image says)
    c.compared.ensures.says

pub named_compared-conjoined-requires-clause-part : goal.named_compared-conjoined-requires-clause-part
named_compared-conjoined-requires-clause-part t c =
    part_says c.part_compared.new.cx (part_names c.args.names.now) (plain_pattern c.args.pat.now)
    (plain_pattern c.args.whole.now) c.args.image.now c.in_ok-part.part
    (makes_grown c.args.cx.now c.part_compared.new.cx (part_names c.args.names.now)
    (plain_pattern c.args.pat.now) (plain_pattern c.args.whole.now) c.in_ok-part.ensures.grown
    c.requires.made) c.in_ok-part.ensures.says

pub named_compared-conjoined-requires-clause-closed :
    goal.named_compared-conjoined-requires-clause-closed
named_compared-conjoined-requires-clause-closed t c =
    named_closed c.args.cx.now (part_names c.args.names.now) (plain_pattern c.args.pat.now)
    (plain_pattern c.args.whole.now) c.args.image.now c.requires.made c.requires.image

pub named_compared-returns-clause-says : goal.named_compared-returns-clause-says
named_compared-returns-clause-says t c =
    if_ok c.conjoined.result
    (λ o says. with_names c.part_compared.new.cx c.conjoined.new.cx (part_names c.args.names.now)
    (plain_pattern c.args.pat.now) (plain_pattern c.args.whole.now) c.args.image.now
    c.in_ok-part.part o c.conjoined.ensures.grown
    (image_grown c.args.cx.now c.part_compared.new.cx (term (plain_pattern c.args.whole.now))
    c.args.image.now c.in_ok-part.ensures.grown c.requires.image)
    c.in_ok-part.ensures.says says)
    c.conjoined.ensures.says

-- ---- parts by their form

pub part_compared-constructor_named-requires : goal.part_compared-constructor_named-requires
part_compared-constructor_named-requires t c =
    let is : plain_pattern c.args.pat.now
    ≡ application c.in-Ctor.field-0.0 (plain_patterns c.deref.result.now) =
    ap plain_pattern c.in-Ctor.is ∙ plain-Ctor _ _
    ∙ ap (λ (ps : List RulePat). application c.in-Ctor.field-0.0 (plain_patterns ps))
    (sym c.deref.ensures.value) in
    let high : depth (plain_pattern c.args.pat.now) ≡ depths (plain_patterns c.deref.result.now) +
    1 =
    ap depth is in (
      omega (arith, high, c.decreases),
      (
        c.requires.signature,
        (
          (
            c.in-Ctor.field-0.0,
            subst (λ (p : RulePattern). MakesNamed c.args.cx.now.program.sig
                (part_names c.args.names.now) p (plain_pattern c.args.whole.now)) is c.requires.made,
          ),
          c.requires.image,
        ),
      ),
    )

pub part_compared-returns-in-Ctor-clause-says : goal.part_compared-returns-in-Ctor-clause-says
part_compared-returns-in-Ctor-clause-says t c =
    let is : plain_pattern c.args.pat.now
    ≡ application c.in-Ctor.field-0.0 (plain_patterns c.deref.result.now) =
    ap plain_pattern c.in-Ctor.is ∙ plain-Ctor _ _
    ∙ ap (λ (ps : List RulePat). application c.in-Ctor.field-0.0 (plain_patterns ps))
    (sym c.deref.ensures.value) in
    if_ok c.constructor_named.result
    (λ o says. subst (λ (p : RulePattern). ComparesPart c.constructor_named.new.cx
    (part_names c.args.names.now) p (plain_pattern c.args.whole.now) c.args.image.now o) (sym is)
    (says c.in-Ctor.field-0.0))
    c.constructor_named.ensures.says

-- a variable or a value
leaf_part : (cx : Context) (names : List Name) (p : RulePat) (w : RulePattern) (image : Pattern)
    → image_of cx.program.sig cx.names w ≡ Some image
    → ((x : ℕ) × (p ≡ form.Var x)) ⊎ ((s : SortId) × (v : Value) × (p ≡ form.Value s v))
    → ComparesPart cx names (plain_pattern p) w image None
leaf_part cx names p w image at (inl (x, is)) =
    subst (λ (q : RulePattern). ComparesPart cx names q w image None)
    (sym (ap plain_pattern is ∙ plain-Var x)) (variable_part cx names x w image at)
leaf_part cx names p w image at (inr (s, v, is)) =
    subst (λ (q : RulePattern). ComparesPart cx names q w image None)
    (sym (ap plain_pattern is ∙ plain-Value s v)) (value_part cx names s.0 (value_of v) w image at)

pub part_compared-returns-in-Var-clause-says : goal.part_compared-returns-in-Var-clause-says
part_compared-returns-in-Var-clause-says t c =
    leaf_part c.args.cx.now (part_names c.args.names.now) c.args.pat.now
    (plain_pattern c.args.whole.now) c.args.image.now c.requires.image c.in-Var.is

-- a function has no instance
no_call : (sig : Signature) (names : List Name) (f : ℕ) (ss : List ℕ) (ps : RulePatterns)
    (w : RulePattern) → MakesNamed sig names (call f ss ps) w → ⊥
no_call sig names f ss ps w (variables, theta, sort, u, h, is) = none_some u h.instance.makes

pub part_compared-unreachable-requires : goal.part_compared-unreachable-requires
part_compared-unreachable-requires t c =
    no_call c.args.cx.now.program.sig (part_names c.args.names.now) c.in-Call.field-0.0
    (sort_numbers c.in-Call.field-1.items) (plain_patterns c.in-Call.field-2.items)
    (plain_pattern c.args.whole.now)
    (subst (λ (p : RulePattern). MakesNamed c.args.cx.now.program.sig (part_names c.args.names.now)
    p (plain_pattern c.args.whole.now)) (ap plain_pattern c.in-Call.is ∙ plain-Call _ _ _)
    c.requires.made)

-- the injection, with the pattern below it as it is passed on
injection_is : (t : ℕ) (c : part_compared-After-deref-in-Inj-2 t)
    → plain_pattern c.args.pat.now
    ≡ injection c.in-Inj.from.0 c.in-Inj.to.0 (plain_pattern c.deref-in-Inj.result.now)
injection_is t c =
    ap plain_pattern c.in-Inj.is ∙ plain-Inj _ _ _
    ∙ ap (λ (p : RulePat). injection c.in-Inj.from.0 c.in-Inj.to.0 (plain_pattern p))
    (sym c.deref-in-Inj.ensures)

injection_names : (t : ℕ) (c : part_compared-After-deref-in-Inj-2 t)
    → part_names c.deref-in-Inj-2.result.now ≡ of_child 0 (part_names c.args.names.now)
injection_names t c =
    ap part_names c.deref-in-Inj-2.ensures.value ∙ c.in_ok-inside-in-Inj.ensures

pub part_compared-injection_named-requires : goal.part_compared-injection_named-requires
part_compared-injection_named-requires t c =
    let at = (goal.at.part_compared-injection_named-requires t c).After-deref-in-Inj-2 in
    let is = injection_is t at in
    let high : depth (plain_pattern c.args.pat.now)
    ≡ depth (plain_pattern c.deref-in-Inj.result.now) + 1 =
    ap depth is in (
      omega (arith, high, c.decreases),
      (
        c.requires.signature,
        (
          subst (λ (ns : List Name). MakesBelow c.args.cx.now.program.sig ns c.in-Inj.from.0
              c.in-Inj.to.0 (plain_pattern c.deref-in-Inj.result.now)
              (plain_pattern c.args.whole.now)) (sym (injection_names t at))
              (makes_below c.args.cx.now.program.sig (part_names c.args.names.now) c.in-Inj.from.0
              c.in-Inj.to.0 (plain_pattern c.deref-in-Inj.result.now)
              (plain_pattern c.args.whole.now)
              (subst (λ (p : RulePattern). MakesNamed c.args.cx.now.program.sig
              (part_names c.args.names.now) p (plain_pattern c.args.whole.now)) is
              c.requires.made)),
          c.requires.image,
        ),
      ),
    )

pub part_compared-returns-in_ok-inside-in-Inj-clause-says :
    goal.part_compared-returns-in_ok-inside-in-Inj-clause-says
part_compared-returns-in_ok-inside-in-Inj-clause-says t c =
    let there = goal.at.part_compared-returns-in_ok-inside-in-Inj-clause-says t c in
    let at = there.After-deref-in-Inj-2 in
    if_ok c.injection_named.result
    (λ o says. subst (λ (p : RulePattern). ComparesPart c.injection_named.new.cx
    (part_names c.args.names.now) p (plain_pattern c.args.whole.now) c.args.image.now o)
    (sym (injection_is t at))
    (below_part c.injection_named.new.cx (part_names c.args.names.now) c.in-Inj.from.0
    c.in-Inj.to.0 (plain_pattern c.deref-in-Inj.result.now) (plain_pattern c.args.whole.now)
    c.args.image.now o
    (subst (λ (ns : List Name). ComparesBelow c.injection_named.new.cx ns c.in-Inj.from.0
    c.in-Inj.to.0 (plain_pattern c.deref-in-Inj.result.now) (plain_pattern c.args.whole.now)
    c.args.image.now o) (injection_names t at) says)))
    c.injection_named.ensures.says
