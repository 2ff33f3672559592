use Rattle.std.proofs.Common.{◌≡◌, ◌∙◌, ap, sym, arith, length}
use Rattle.indexmap.proofs.MapLemmas.{OnOk-map}
use Rattle.term_core.specs.Patterns.{Pattern, application, injection}
use Rattle.term_core.specs.RulePatterns.{plain_pattern}
use Rattle.term_core.specs.PatternLists.{plain_patterns}
use Rattle.term_core.proofs.PlainPatterns.{plain-Value, plain-Ctor, plain-Inj}
use Rattle.pat_matrix.specs.Groups.{Gains}
use Rattle.pat_matrix.specs.Heads.{PlainHead, takes, head_eq, of_constructor}
use Rattle.pat_matrix.specs.HeadView.{head_of}
use Rattle.pat_matrix.proofs.GroupLaws.{gains_as, gains_own_and_lower, takes_variable}
use Rattle.pat_matrix.proofs.GroupLaws.{takes_other}
use Rattle.pat_matrix.proofs.PartLaws.{constructor_head}
use Rattle.pat_matrix.proofs.groups.add_heads.Goals as goal

pub returns-in_ok-of_value-in-Value : goal.returns-in_ok-of_value-in-Value
returns-in_ok-of_value-in-Value c =
    let is = ap plain_pattern c.in-Value.is ∙ plain-Value c.in-Value.sort c.in-Value.value in
    OnOk-map c.add.result
    (Gains c.args.groups.now c.add.new.groups (head_eq (head_of c.in_ok-of_value-in-Value.field-0))
    c.args.row) _
    (gains_as c.args.groups.now c.add.new.groups _
    (takes c.args.order.now.subsorts.now (plain_pattern c.args.pat.now)) c.args.row
    (λ h. ap (λ (k : PlainHead). head_eq k h) c.in_ok-of_value-in-Value.ensures
    ∙ sym (ap (λ (p : Pattern). takes c.args.order.now.subsorts.now p h) is)))
    c.add.ensures

pub returns-in-Ctor : goal.returns-in-Ctor
returns-in-Ctor c =
    let is : plain_pattern c.args.pat.now ≡ application c.in-Ctor.sym.0
    (plain_patterns c.in-Ctor.args.items) =
    ap plain_pattern c.in-Ctor.is ∙ plain-Ctor _ _ in
    let count : c.len.result ≡ length c.in-Ctor.args.items = omega (arith, c.len.ensures) in
    OnOk-map c.add-in-Ctor.result
    (Gains c.args.groups.now c.add-in-Ctor.new.groups
    (head_eq (of_constructor c.in-Ctor.sym.0 c.len.result)) c.args.row) _
    (gains_as c.args.groups.now c.add-in-Ctor.new.groups _
    (takes c.args.order.now.subsorts.now (plain_pattern c.args.pat.now)) c.args.row
    (λ h. constructor_head c.args.order.now.subsorts.now _ _ c.in-Ctor.args.items _ h is count))
    c.add-in-Ctor.ensures

pub returns-in_ok-add_lower-in-Inj : goal.returns-in_ok-add_lower-in-Inj
returns-in_ok-add_lower-in-Inj c =
    let is = ap plain_pattern c.in-Inj.is ∙ plain-Inj c.in-Inj.from c.in-Inj.to c.in-Inj.below
    ∙ ap (injection c.in-Inj.from.0 c.in-Inj.to.0) (ap plain_pattern (sym c.deref.ensures)) in
    gains_own_and_lower c.args.groups.now c.add-in-Inj.new.groups c.add_lower.new.groups
    c.args.order.now.subsorts.now c.args.order.now.sorts c.in-Inj.from.0 c.in-Inj.to.0 c.args.row
    (takes c.args.order.now.subsorts.now (plain_pattern c.args.pat.now)) c.has_no_cycle.ensures
    (λ h. ap (λ (p : Pattern). takes c.args.order.now.subsorts.now p h) is
    ∙ takes_variable c.args.order.now.subsorts.now c.args.order.now.sorts _ _ _ h
    c.args.order.now.sorted (sym c.is_variable.ensures ∙ c.if-is_variable.true))
    c.in_ok-add-in-Inj.ensures c.in_ok-add_lower-in-Inj.ensures

pub returns-else-is_variable : goal.returns-else-is_variable
returns-else-is_variable c =
    let is = ap plain_pattern c.in-Inj.is ∙ plain-Inj c.in-Inj.from c.in-Inj.to c.in-Inj.below
    ∙ ap (injection c.in-Inj.from.0 c.in-Inj.to.0) (ap plain_pattern (sym c.deref.ensures)) in
    gains_as c.args.groups.now c.add-in-Inj.new.groups _
    (takes c.args.order.now.subsorts.now (plain_pattern c.args.pat.now)) c.args.row
    (λ h. sym (ap (λ (p : Pattern). takes c.args.order.now.subsorts.now p h) is
    ∙ takes_other c.args.order.now.subsorts.now _ _ _ h
    (sym c.is_variable.ensures ∙ c.if-is_variable.false)))
    c.in_ok-add-in-Inj.ensures
