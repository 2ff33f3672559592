use Rattle.std.proofs.Common.{◌≡◌, ◌<◌, [], ◌∷◌, ◌++◌, List, length, refl, sym, ◌∙◌, ap, subst}
use Rattle.std.proofs.Common.{rules}
use Rattle.std.proofs.Common.{append-nil, append_assoc}
use Rattle.std.proofs.lemmas.List.{nil_from_length}
use Rattle.std.specs.Prelude.{IsSome}
use Rattle.term_core.specs.RulePatterns.{plain_pattern}
use Rattle.term_core.specs.PatternLists.{plain_patterns}
use Rattle.term_core.specs.declared.terms.TheConstants.{MAX_HEIGHT}
use Rattle.rule_core.specs.NamedLaws.{AddsNames}
use Rattle.rule_core.specs.NamedParts.{part_of}
use Rattle.rule_core.specs.Naming.{AreNamesOf}
use Rattle.rule_core.specs.ProgramView.{names_of}
use Rattle.rule_core.specs.declared.rules.Named.{Named}
use Rattle.rule_core.proofs.NamingLaws.{no_names_yet, later_names, part_of_first, part_fits}
use Rattle.rule_core.proofs.NamingLaws.{one_name_more, first_within_room, names_left}
use Rattle.rule_core.proofs.naming.with_names.Goals as goal

pub loop-name-init : goal.loop-name-init
loop-name-init c =
    let rest : c.into_iter-name-iterator.result.iter.rest.now ≡ c.args.named.now = search rules in (
      [],
      sym (append-nil c.args.named.now) ∙ ap (λ ws. ws ++ []) (sym rest),
      no_names_yet (plain_patterns c.args.pats.now) c.args.subst,
    )

pub part-requires : goal.part-requires
part-requires c =
    let ps = plain_patterns c.args.pats.now in
    let done = c.loop-name.invariant.0 in
    let left =
    names_left ps (length c.args.subst) c.args.named.now c.loop-name.name-iterator.iter.rest.now
    c.next.new.self.iter.rest.now done c.in-Some.name.now c.requires.names
    c.loop-name.invariant.1 c.in-Some.ensures.steps in
    subst (λ place. IsSome (part_of ps place)) (sym c.deref.ensures.value)
    (part_of_first ps (length c.args.subst) c.in-Some.name.now done left.1)

pub instance-requires : goal.instance-requires
instance-requires c =
    let ps = plain_patterns c.args.pats.now in
    let done = c.loop-name.invariant.0 in
    let left =
    names_left ps (length c.args.subst) c.args.named.now c.loop-name.name-iterator.iter.rest.now
    c.next.new.self.iter.rest.now done c.in-Some.name.now c.requires.names
    c.loop-name.invariant.1 c.in-Some.ensures.steps in
    part_fits MAX_HEIGHT ps (length c.args.subst) (names_of done) c.args.subst c.loop-name.whole
    c.deref.result.now (plain_pattern c.part.result.now) c.requires.fits
    (later_names ps (length c.args.subst) (c.in-Some.name.now ∷ []) done left.1)
    c.loop-name.invariant.2 c.part.ensures

pub bind-requires : goal.bind-requires
bind-requires c =
    let ps = plain_patterns c.args.pats.now in
    let done = c.loop-name.invariant.0 in
    let left =
    names_left ps (length c.args.subst) c.args.named.now c.loop-name.name-iterator.iter.rest.now
    c.next.new.self.iter.rest.now done c.in-Some.name.now c.requires.names
    c.loop-name.invariant.1 c.in-Some.ensures.steps in
    let low : c.in-Some.name.now.var < length c.args.subst =
    first_within_room ps (length c.args.subst) c.in-Some.name.now done left.1 in
    subst (λ k. c.in-Some.name.now.var < k) (sym c.loop-name.invariant.2.room) low

pub loop-name-preserved : goal.loop-name-preserved
loop-name-preserved c =
    let ps = plain_patterns c.args.pats.now in
    let done = c.loop-name.invariant.0 in
    let left =
    names_left ps (length c.args.subst) c.args.named.now c.loop-name.name-iterator.iter.rest.now
    c.next.new.self.iter.rest.now done c.in-Some.name.now c.requires.names
    c.loop-name.invariant.1 c.in-Some.ensures.steps in
    let more =
    one_name_more ps (length c.args.subst) c.in-Some.name.now done c.args.subst
    c.loop-name.whole (plain_pattern c.part.result.now) c.in_ok-term.term refl left.1
    c.loop-name.invariant.2
    (ap (part_of ps) (sym c.deref.ensures.value) ∙ c.part.ensures) c.in_ok-term.ensures.instance in (
      c.in-Some.name.now ∷ done,
      left.0,
      subst (λ theta. AddsNames ps (names_of (c.in-Some.name.now ∷ done)) c.args.subst theta)
          (sym c.bind.ensures) more,
    )

pub returns : goal.returns
returns c =
    let ps = plain_patterns c.args.pats.now in
    let done = c.loop-name.invariant.0 in
    let all : c.args.named.now ≡ done =
    c.loop-name.invariant.1
    ∙ ap (λ ws. ws ++ done) (nil_from_length _ c.in-None.ensures.steps.0) in
    subst (λ (ws : List Named). AddsNames ps (names_of ws) c.args.subst c.loop-name.whole)
    (sym all) c.loop-name.invariant.2
