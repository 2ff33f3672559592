use Rattle.std.proofs.Common.{◌≡◌, ◌<◌, List, Some, length, slice_get, sym, ◌∙◌, ap}
use Rattle.std.proofs.Common.{subst, arith}
use Rattle.std.proofs.lemmas.Option.{slice_get_within}
use Rattle.ml_pat.specs.Patterns.{Pattern, imp, and, bot}
use Rattle.ml_pat.specs.Judgements.{IsPredicate}
use Rattle.ml_derived.specs.Scopes.{IsOver, AreOver}
use Rattle.term_core.specs.RulePatterns.{plain_pattern, sort_numbers}
use Rattle.ml_image.specs.Sentences.{Sentence, term, sentence_image}
use Rattle.ml_image.specs.Sentences as sentence
use Rattle.prove_term.specs.Applications.{applied_to}
use Rattle.prove_term.proofs.ContextLaws.{grown_none, image_grown, stays_grown}
use Rattle.prove_term.proofs.ResultLaws.{if_ok_two}
use Rattle.prove_open.specs.Under.{DeniesUnder}
use Rattle.refute.proofs.Applications.{applied_over}
use Rattle.refute.proofs.Conversions.{denies_disjoint}
use Rattle.refute.proofs.Pairs.{as_many_arguments}
use Rattle.refute.proofs.Shapes.{IsFree, free_shape, IsRead, implication_read, common_at}
use Rattle.refute.proofs.Shapes.{as_many_common, as_many_images, one_image}
use Rattle.refute.proofs.Shapes.{inner_read, outer_read}
use Rattle.refute.proofs.rising.above_argument.Goals as goal
use Rattle.refute.proofs.rising.above_argument.Goals.{In_ok-free}

free : (c : In_ok-free)
    → IsFree c.freedom_under.new.cx c.args.symbol.0 c.args.args.now c.args.others.now
    c.args.setting.now.given.hypothesis c.in_ok-free.free.conclusion
free c =
    free_shape c.freedom_under.new.cx c.args.symbol.0 c.args.args.now c.args.others.now
    c.args.setting.now.given.hypothesis c.in_ok-free.free.conclusion c.in_ok-free.ensures.says

as_many : (c : In_ok-free) → length c.args.args.now ≡ length (free c).arguments
as_many c =
    sym (as_many_common c.args.args.now c.args.others.now
    (as_many_arguments c.args.cx.now.program.sig (sort_numbers c.args.setting.now.sorts.now)
    c.args.setting.now.given c.args.symbol.0 c.args.args.now c.args.others.now
    c.requires.covered))
    ∙ as_many_images c.freedom_under.new.cx _ (free c).arguments (free c).are_arguments

read : (d : In_ok-free) (k m n w : Pattern) → d.in_ok-free.free.conclusion ≡ imp k m
    → m ≡ imp n w
    → IsRead d.args.setting.now.given.hypothesis (and (free d).first (free d).second)
    (applied_to (free d).function (free d).arguments) k n w
read d k m n w outer inner =
    implication_read d.in_ok-free.free.conclusion d.args.setting.now.given.hypothesis _ _ k m n w
    (free d).says outer inner

pub freedom_under-requires-clause-some : goal.freedom_under-requires-clause-some
freedom_under-requires-clause-some c =
    let within : c.args.i < length c.args.args.now =
    slice_get_within _ _ _ c.requires.denies.2 in
    omega (arith, within)

pub sides-requires : goal.sides-requires
sides-requires c =
    let d = (goal.at.sides-requires c).In_ok-free in (
      c.args.setting.now.given.hypothesis,
      imp (and (free d).first (free d).second) (applied_to (free d).function (free d).arguments),
      c.conclusion.ensures ∙ (free d).says,
    )

pub sides-requires-2 : goal.sides-requires-2
sides-requires-2 c =
    let d = (goal.at.sides-requires-2 c).In_ok-free in (
      and (free d).first (free d).second,
      applied_to (free d).function (free d).arguments,
      inner_read c.in_ok-free.free.conclusion c.args.setting.now.given.hypothesis _
          c.sides.result.0.now c.sides.result.1.now (free d).says
          (sym c.conclusion.ensures ∙ c.sides.ensures),
    )

pub taken_apart-requires : goal.taken_apart-requires
taken_apart-requires c =
    let d = (goal.at.taken_apart-requires c).In_ok-free in
    let all =
    read d c.sides.result.0.now c.sides.result.1.now c.sides-2.result.0.now
    c.sides-2.result.1.now (sym c.conclusion.ensures ∙ c.sides.ensures) c.sides-2.ensures in
    ((free d).function, (free d).arguments, all.third, as_many d)

-- the part that is nothing
part_is : (d : In_ok-free) (k : Pattern) (items : List Pattern)
    → k ≡ d.args.setting.now.given.hypothesis → items ≡ (free d).arguments
    → (p : Pattern) × (slice_get items d.args.i ≡ Some p)
    × (d.args.none.now.conclusion ≡ imp k (imp p bot))
part_is d k items first same =
    let denies = d.requires.denies in
    let common : Sentence =
    sentence.and (term (plain_pattern denies.0)) (term (plain_pattern denies.1)) in
    let at : (p : Pattern) × (slice_get (free d).arguments d.args.i ≡ Some p)
    × (sentence_image d.freedom_under.new.cx.program.sig d.freedom_under.new.cx.names common
    ≡ Some p) =
    common_at d.freedom_under.new.cx d.args.args.now d.args.others.now d.args.i denies.0 denies.1
    (free d).arguments (free d).are_arguments denies.2 denies.3 in
    let none : DeniesUnder d.args.cx.now d.args.setting.now.given.hypothesis common
    d.args.none.now.conclusion = denies.4.says in
    let known : none.image ≡ at.0 =
    one_image
    (sentence_image d.freedom_under.new.cx.program.sig d.freedom_under.new.cx.names common)
    none.image at.0
    (image_grown d.args.cx.now d.freedom_under.new.cx common none.image
    d.in_ok-free.ensures.grown none.is_image) at.2 in (
      at.0,
      ap (λ (ps : List Pattern). slice_get ps d.args.i) same ∙ at.1,
      none.says ∙ ap (λ (p : Pattern). imp d.args.setting.now.given.hypothesis (imp p bot)) known
          ∙ ap (λ (p : Pattern). imp p (imp at.0 bot)) (sym first),
    )

pub no_part-requires-clause-none : goal.no_part-requires-clause-none
no_part-requires-clause-none c =
    let d = (goal.at.no_part-requires-clause-none c).In_ok-free in
    let all =
    read d c.sides.result.0.now c.sides.result.1.now c.sides-2.result.0.now
    c.sides-2.result.1.now (sym c.conclusion.ensures ∙ c.sides.ensures) c.sides-2.ensures in
    part_is d c.sides.result.0.now c.in_ok-parts.parts.arguments.items all.first
    (c.in_ok-parts.ensures (free d).function (free d).arguments all.third (as_many d)).1

pub no_part-requires-clause-predicate : goal.no_part-requires-clause-predicate
no_part-requires-clause-predicate c =
    let d = (goal.at.no_part-requires-clause-predicate c).In_ok-free in
    subst IsPredicate
    (sym (outer_read c.in_ok-free.free.conclusion c.args.setting.now.given.hypothesis _
    c.sides.result.0.now c.sides.result.1.now (free d).says
    (sym c.conclusion.ensures ∙ c.sides.ensures)))
    c.requires.setting.given.predicate

pub chain_under-requires-clause-a : goal.chain_under-requires-clause-a
chain_under-requires-clause-a c =
    sym c.conclusion.ensures ∙ c.sides.ensures ∙ ap (imp c.sides.result.0.now) c.sides-2.ensures

pub chain_under-requires-clause-b : goal.chain_under-requires-clause-b
chain_under-requires-clause-b c =
    let d = (goal.at.chain_under-requires-clause-b c).In_ok-free in
    let all =
    read d c.sides.result.0.now c.sides.result.1.now c.sides-2.result.0.now
    c.sides-2.result.1.now (sym c.conclusion.ensures ∙ c.sides.ensures) c.sides-2.ensures in
    let parts =
    c.in_ok-parts.ensures (free d).function (free d).arguments all.third (as_many d) in
    let k : Pattern = c.sides.result.0.now in
    c.in_ok-none.ensures.conclusion
    ∙ ap (λ (p : Pattern). imp k (imp (applied_to p c.in_ok-parts.parts.arguments.items) bot))
    parts.0
    ∙ ap (λ (ps : List Pattern). imp k (imp (applied_to (free d).function ps) bot)) parts.1
    ∙ ap (λ (p : Pattern). imp k (imp p bot)) (sym all.third)
    ∙ ap (λ (p : Pattern). imp k (imp c.sides-2.result.1.now p)) (sym c.in_ok-bot.ensures)

pub returns-clause-denies : goal.returns-clause-denies
returns-clause-denies c =
    let d = (goal.at.returns-clause-denies c).In_ok-free in
    let all =
    read d c.sides.result.0.now c.sides.result.1.now c.sides-2.result.0.now
    c.sides-2.result.1.now (sym c.conclusion.ensures ∙ c.sides.ensures) c.sides-2.ensures in
    let parts =
    c.in_ok-parts.ensures (free d).function (free d).arguments all.third (as_many d) in
    let new = c.freedom_under.new.cx in
    let h : Pattern = c.args.setting.now.given.hypothesis in
    if_ok_two c.chain_under.result
    (λ t says stays. denies_disjoint new new h _ _ (free d).first (free d).second t
    (grown_none new) (free d).is_first (free d).is_second
    (says ∙ ap (λ (p : Pattern). imp p (imp c.sides-2.result.0.now c.in_ok-bot.field-0)) all.first
    ∙ ap (λ (p : Pattern). imp h (imp p c.in_ok-bot.field-0)) all.second
    ∙ ap (λ (p : Pattern). imp h (imp (and (free d).first (free d).second) p)) c.in_ok-bot.ensures)
    (λ s has.
    let known = c.in_ok-free.ensures.stays s has in
    let over : IsOver s (imp h (imp (and (free d).first (free d).second)
    (applied_to (free d).function (free d).arguments))) =
    subst (IsOver s) (free d).says known.conclusion in
    let apart : IsOver s (free d).function × AreOver s (free d).arguments =
    applied_over s (free d).function (free d).arguments over.1.1 in
    stays s tt (
      known,
      (
        c.in_ok-none.ensures.stays s (
          subst (IsOver s) (sym parts.0) apart.0,
          subst (AreOver s) (sym parts.1) apart.1,
        ) (
          stays_grown c.args.cx.now new c.args.none.now c.in_ok-free.ensures.grown
              c.requires.denies.4.stays s has,
          tt,
        ),
        tt,
      ),
    )))
    c.chain_under.ensures.conclusion c.chain_under.ensures.stays
