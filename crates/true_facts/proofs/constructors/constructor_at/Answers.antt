use Rattle.std.proofs.Common.{◌≡◌, ℕ, List, Some, None, length, sym, ◌∙◌, ap, subst, arith}
use Rattle.std.proofs.lemmas.Bool.{false≢true}
use Rattle.ml_image.proofs.ImageLaws.{none_some, some_same}
use Rattle.ml_image.proofs.ListedLaws.{length-numbers}
use Rattle.ml_image.specs.Counted.{at_variables}
use Rattle.ml_pat.specs.Patterns.{constant}
use Rattle.term_core.specs.RulePatterns.{sort_numbers}
use Rattle.true_facts.specs.Constructors.{IsMade, IsDeclared, declaration_of, declared_found}
use Rattle.true_facts.proofs.ConstructorLaws.{HasParts, no_head, parts, no_declaration}
use Rattle.true_facts.proofs.ConstructorLaws.{constructor_is}
use Rattle.true_facts.proofs.OnlyLaws.{only_none, only_at}
use Rattle.true_facts.proofs.constructors.constructor_at.Goals as goal

pub returns-in_default : goal.returns-in_default
returns-in_default c =
    only_none (IsMade c.args.sig.now c.args.names.now c.args.pattern.now c.args.first)
    (λ m h. no_head c.args.sig.now c.args.names.now c.args.pattern.now c.args.first m
    (λ x e. c.in_default.ensures x (c.applied_head.ensures ∙ e)) h)

pub returns-in_default-symbol_of : goal.returns-in_default-symbol_of
returns-in_default-symbol_of c =
    only_none (IsMade c.args.sig.now c.args.names.now c.args.pattern.now c.args.first)
    (λ m h. none_some m.0 (sym c.in_default-symbol_of.is
    ∙ (parts c.args.sig.now c.args.names.now c.args.pattern.now c.args.first c.in-Some.number.0
    c.symbol_of.result m (sym c.applied_head.ensures ∙ c.in-Some.ensures) c.symbol_of.ensures
    h).symbol))

pub returns-in_default-2 : goal.returns-in_default-2
returns-in_default-2 c =
    only_none (IsMade c.args.sig.now c.args.names.now c.args.pattern.now c.args.first)
    (λ m h. none_some m.1 (no_declaration c.args.sig.now c.args.pattern.now c.args.first
    c.in-Some-symbol_of.symbol m None
    (parts c.args.sig.now c.args.names.now c.args.pattern.now c.args.first c.in-Some.number.0
    (Some c.in-Some-symbol_of.symbol) m (sym c.applied_head.ensures ∙ c.in-Some.ensures)
    c.in-Some-symbol_of.ensures h)
    (only_at (IsDeclared c.args.sig.now c.in-Some-symbol_of.symbol) declared_found
    c.in_ok-declared.field-0 None c.in_default-2.is c.in_ok-declared.ensures)))

pub returns-then-is_at_variables : goal.returns-then-is_at_variables
returns-then-is_at_variables c =
    constructor_is c.args.sig.now c.args.names.now c.args.pattern.now c.args.first
    c.in-Some.number.0 c.in-Some-symbol_of.symbol (declaration_of c.in-Some-2.declared)
    (sym c.applied_head.ensures ∙ c.in-Some.ensures) c.in-Some-symbol_of.ensures
    (only_at (IsDeclared c.args.sig.now c.in-Some-symbol_of.symbol) declared_found
    c.in_ok-declared.field-0 (Some c.in-Some-2.declared) c.in-Some-2.is c.in_ok-declared.ensures)
    (let long : c.len.result ≡ length (sort_numbers c.in-Some-2.declared.args.items) =
    omega (arith, length-numbers c.in-Some-2.declared.args.items, c.len.ensures) in
    subst (λ (n : ℕ). (x : ℕ) × (c.args.pattern.now ≡ at_variables (constant x) c.args.first n))
    long (c.is_at_variables.ensures.0 c.if-is_at_variables.true))

pub returns-else-is_at_variables : goal.returns-else-is_at_variables
returns-else-is_at_variables c =
    only_none (IsMade c.args.sig.now c.args.names.now c.args.pattern.now c.args.first)
    (λ m h.
    let h' : HasParts c.args.sig.now c.args.pattern.now c.args.first
    (Some c.in-Some-symbol_of.symbol) m =
    parts c.args.sig.now c.args.names.now c.args.pattern.now c.args.first c.in-Some.number.0
    (Some c.in-Some-symbol_of.symbol) m (sym c.applied_head.ensures ∙ c.in-Some.ensures)
    c.in-Some-symbol_of.ensures h in
    let same : declaration_of c.in-Some-2.declared ≡ m.1 =
    some_same (declaration_of c.in-Some-2.declared) m.1
    (no_declaration c.args.sig.now c.args.pattern.now c.args.first
    c.in-Some-symbol_of.symbol m (Some (declaration_of c.in-Some-2.declared)) h'
    (only_at (IsDeclared c.args.sig.now c.in-Some-symbol_of.symbol) declared_found
    c.in_ok-declared.field-0 (Some c.in-Some-2.declared) c.in-Some-2.is
    c.in_ok-declared.ensures)) in
    let sorts : sort_numbers c.in-Some-2.declared.args.items ≡ m.1.1 =
    ap (λ (d : ℕ × List ℕ). d.1) same in
    let long : length m.1.1 ≡ c.len.result =
    omega (
      arith,
      ap length sorts,
      length-numbers c.in-Some-2.declared.args.items,
      c.len.ensures,
    ) in
    false≢true (sym c.if-is_at_variables.false ∙ c.is_at_variables.ensures.1 (
      h'.constant_number,
      subst (λ (n : ℕ). c.args.pattern.now
          ≡ at_variables (constant h'.constant_number) c.args.first n) long h'.spelled,
    )))
