use Rattle.std.proofs.Common.{List, [], sym, subst}
use Rattle.term_core.specs.Forests.{forest}
use Rattle.term_core.specs.PatternLists.{plain_patterns}
use Rattle.term_core.specs.declared.rule_patterns.RulePat.{RulePat}
use Rattle.rule_core.specs.ProgramView.{function_equation, names_of}
use Rattle.rule_core.specs.Sorting.{HaveSorts}
use Rattle.rule_core.specs.declared.rules.Named.{Named}
use Rattle.rule_core.specs.declared.signature.SortRef.{SortRef}
use Rattle.prove_term.specs.FilledSides.{AreBoundToParts, SaysNamedCall}
use Rattle.prove_term.proofs.ContextLaws.{grown_twice}
use Rattle.prove_schema.proofs.ResultLaws.{if_ok_two}
use Rattle.prove_equation.proofs.FillingLaws.{can_use_grown}
use Rattle.prove_equation.proofs.TurningLaws.{IsWritten, written_at, written_grown, written_turns}
use Rattle.prove_equation.proofs.TurningLaws.{written_proves, arguments_sorted}
use Rattle.prove_equation.proofs.direct.direct_at.Goals as goal

pub filled-requires-clause-used : goal.filled-requires-clause-used
filled-requires-clause-used c = record {
  image = c.requires.usable.image;
  direct = c.requires.direct;
  is_lemma = c.requires.usable.is_lemma;
  room = c.requires.usable.matches.binds.room;
  respects = c.requires.usable.matches.binds.sorted;
  bound = c.requires.usable.bound;
  condition = c.requires.usable.condition;
}

pub call_eq_named-requires-clause-signature : goal.call_eq_named-requires-clause-signature
call_eq_named-requires-clause-signature c =
    (can_use_grown c.filled.ensures.grown c.requires.usable).well_sorted.signature

pub call_eq_named-requires-clause-symbol : goal.call_eq_named-requires-clause-symbol
call_eq_named-requires-clause-symbol c =
    (can_use_grown c.filled.ensures.grown c.requires.usable).image.function

pub call_eq_named-requires-clause-sorted : goal.call_eq_named-requires-clause-sorted
call_eq_named-requires-clause-sorted c =
    let can = can_use_grown c.filled.ensures.grown c.requires.usable in
    let args : (refs : List SortRef) × HaveSorts c.filled.new.cx.program.sig
    (function_equation c.args.equation.now).variables []
    (function_equation c.args.equation.now).arguments refs =
    arguments_sorted c.filled.new.cx c.args.equation.now.fun.0
    (function_equation c.args.equation.now) can.well_sorted can.own in (
      (function_equation c.args.equation.now).variables,
      args.0,
      subst (λ (ps : List RulePat). HaveSorts c.filled.new.cx.program.sig
          (function_equation c.args.equation.now).variables [] (plain_patterns ps) args.0)
          (sym c.deref.ensures.value) args.1,
      can.matches.binds.sorted,
    )

pub call_eq_named-requires-clause-named : goal.call_eq_named-requires-clause-named
call_eq_named-requires-clause-named c =
    subst (λ (ps : List RulePat).
    AreBoundToParts c.args.subst.now (plain_patterns ps) (names_of c.deref-2.result.now))
    (sym c.deref.ensures.value)
    (subst (λ (ns : List Named). AreBoundToParts c.args.subst.now
    (function_equation c.args.equation.now).arguments (names_of ns)) (sym c.deref-2.ensures.value)
    c.requires.usable.matches.named)

pub from_normal-requires : goal.from_normal-requires
from_normal-requires c =
    let calls : SaysNamedCall c.call_eq_named.new.cx c.args.subst.now
    (function_equation c.args.equation.now).names c.args.equation.now.fun.0
    (function_equation c.args.equation.now).arguments c.in_ok-normal.normal =
    subst (λ (ps : List RulePat). SaysNamedCall c.call_eq_named.new.cx c.args.subst.now
    (function_equation c.args.equation.now).names c.args.equation.now.fun.0 (plain_patterns ps)
    c.in_ok-normal.normal) c.deref.ensures.value
    (subst (λ (ns : List Named). SaysNamedCall c.call_eq_named.new.cx c.args.subst.now (names_of ns)
    c.args.equation.now.fun.0 (plain_patterns c.deref.result.now) c.in_ok-normal.normal)
    c.deref-2.ensures.value c.in_ok-normal.ensures.says) in
    let w : IsWritten c.call_eq_named.new.cx c.args.equation.now.fun.0
    (function_equation c.args.equation.now) c.args.subst.now (forest c.args.args.now)
    c.in_ok-made.made c.in_ok-normal.normal =
    written_at c.filled.new.cx c.call_eq_named.new.cx c.args.equation.now.fun.0
    (function_equation c.args.equation.now) c.args.subst.now (forest c.args.args.now)
    c.in_ok-made.made c.in_ok-normal.normal
    c.call_eq_named.ensures.grown c.in_ok-made.ensures.says c.in_ok-made.ensures.stays calls c.requires.usable.matches.makes in
    written_turns c.call_eq_named.new.cx c.args.equation.now.fun.0 (function_equation c.args.equation.now)
    c.args.subst.now (forest c.args.args.now) c.in_ok-made.made c.in_ok-normal.normal w

pub returns-clause-proves : goal.returns-clause-proves
returns-clause-proves c =
    let calls : SaysNamedCall c.call_eq_named.new.cx c.args.subst.now
    (function_equation c.args.equation.now).names c.args.equation.now.fun.0
    (function_equation c.args.equation.now).arguments c.in_ok-normal.normal =
    subst (λ (ps : List RulePat). SaysNamedCall c.call_eq_named.new.cx c.args.subst.now
    (function_equation c.args.equation.now).names c.args.equation.now.fun.0 (plain_patterns ps)
    c.in_ok-normal.normal) c.deref.ensures.value
    (subst (λ (ns : List Named). SaysNamedCall c.call_eq_named.new.cx c.args.subst.now (names_of ns)
    c.args.equation.now.fun.0 (plain_patterns c.deref.result.now) c.in_ok-normal.normal)
    c.deref-2.ensures.value c.in_ok-normal.ensures.says) in
    let w : IsWritten c.call_eq_named.new.cx c.args.equation.now.fun.0
    (function_equation c.args.equation.now) c.args.subst.now (forest c.args.args.now)
    c.in_ok-made.made c.in_ok-normal.normal =
    written_at c.filled.new.cx c.call_eq_named.new.cx c.args.equation.now.fun.0
    (function_equation c.args.equation.now) c.args.subst.now (forest c.args.args.now)
    c.in_ok-made.made c.in_ok-normal.normal
    c.call_eq_named.ensures.grown c.in_ok-made.ensures.says c.in_ok-made.ensures.stays calls c.requires.usable.matches.makes in
    if_ok_two c.from_normal.result
    (λ t is within. written_proves c.from_normal.new.cx c.args.equation.now.fun.0
    (function_equation c.args.equation.now) c.args.subst.now (forest c.args.args.now)
    c.in_ok-made.made t c.in_ok-normal.normal
    (written_grown c.call_eq_named.new.cx c.from_normal.new.cx c.args.equation.now.fun.0
    (function_equation c.args.equation.now) c.args.subst.now (forest c.args.args.now)
    c.in_ok-made.made c.in_ok-normal.normal c.from_normal.ensures.grown w) is within)
    c.from_normal.ensures.says c.from_normal.ensures.stays

pub returns-clause-grown : goal.returns-clause-grown
returns-clause-grown c =
    grown_twice c.args.cx.now c.call_eq_named.new.cx c.from_normal.new.cx
    (grown_twice c.args.cx.now c.filled.new.cx c.call_eq_named.new.cx c.filled.ensures.grown
    c.call_eq_named.ensures.grown) c.from_normal.ensures.grown

pub returns-in_err-normal-clause-grown : goal.returns-in_err-normal-clause-grown
returns-in_err-normal-clause-grown c =
    grown_twice c.args.cx.now c.filled.new.cx c.call_eq_named.new.cx c.filled.ensures.grown
    c.call_eq_named.ensures.grown
