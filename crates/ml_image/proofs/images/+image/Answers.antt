use Rattle.std.proofs.Common.{◌≡◌, Some, List, Option, IfOk, ap, sym, ◌∙◌, subst, ◌+◌}
use Rattle.std.proofs.Common.{◌≤◌, arith}
use Rattle.ml_pat.specs.Patterns.{Pattern, app}
use Rattle.term_core.specs.Patterns.{Pattern as RulePattern, application, injection, call}
use Rattle.term_core.specs.RulePatterns.{plain_pattern, sort_numbers}
use Rattle.term_core.specs.PatternLists.{plain_patterns}
use Rattle.term_core.specs.declared.ids.SortId.{SortId}
use Rattle.term_core.specs.declared.rule_patterns.RulePat.{RulePat}
use Rattle.term_core.proofs.PatternLaws.{depth, depths, depth_of-item}
use Rattle.term_core.proofs.PlainPatterns.{plain-Ctor, plain-Inj, plain-Call}
use Rattle.ml_image.specs.Numbering.{number_in, room}
use Rattle.ml_image.specs.Images.{both, injection_image, image_of, applied, at_sorts, symbol_image}
use Rattle.ml_image.specs.Images.{renamed, all_renamed}
use Rattle.ml_image.specs.HasImages.{HasImage}
use Rattle.ml_image.proofs.ImageLaws.{gained_twice, gained-symbol, gained-at_sorts}
use Rattle.ml_image.proofs.ImageLaws.{gained-injection, if_ok}
use Rattle.ml_image.proofs.LoopLaws.{applied-next, image-item}
use Rattle.ml_image.proofs.images.+image.Goals as goal

pub applied-image-requires : goal.applied-image-requires
applied-image-requires t c =
    let low : depth (plain_pattern c.arg-item.result) ≤ depths (plain_patterns c.args.args.now) =
    depth_of-item c.args.args.now c.loop-arg.arg-index c.arg-item.result c.arg-item.is
    c.loop-arg-test.true in (
      omega (arith, low, c.decreases),
      image-item c.args.sig.now (room c.args.numbering.now) c.args.args.now c.loop-arg.arg-index
          c.arg-item.result c.requires c.loop-arg-test.true c.arg-item.is,
    )

pub applied-returns-in_err-arg-clause-names : goal.applied-returns-in_err-arg-clause-names
applied-returns-in_err-arg-clause-names t c =
    gained_twice _ _ _ _ c.loop-arg.invariant.1 c.image.ensures.names

pub applied-returns-in_err-made-clause-names : goal.applied-returns-in_err-made-clause-names
applied-returns-in_err-made-clause-names t c =
    gained_twice _ _ _ _ c.loop-arg.invariant.1 c.image.ensures.names

pub applied-loop-arg-preserved : goal.applied-loop-arg-preserved
applied-loop-arg-preserved t c = (
  applied-next c.args.sig.now c.loop-arg.names c.image.new.names (number_in c.args.numbering.now)
      c.args.head
      c.args.args.now c.loop-arg.arg-index c.arg-item.result c.loop-arg.made c.in_ok-arg.arg
      c.image.ensures.names c.loop-arg-test.true c.arg-item.is c.loop-arg.invariant.0
      c.in_ok-arg.ensures.image
      ∙ ap (λ (p : Pattern). Some p) (sym c.in_ok-made.ensures),
  gained_twice _ _ _ _ c.loop-arg.invariant.1 c.image.ensures.names,
)

pub image-applied-requires : goal.image-applied-requires
image-applied-requires t c =
    let is : plain_pattern c.args.pat.now ≡ application c.in-Ctor.symbol.0
    (plain_patterns c.in-Ctor.args.items) =
    ap plain_pattern c.in-Ctor.is ∙ plain-Ctor _ _ in
    let own : HasImage c.args.sig.now (room c.args.numbering.now)
    (application c.in-Ctor.symbol.0 (plain_patterns c.in-Ctor.args.items)) =
    subst (λ (p : RulePattern). HasImage c.args.sig.now (room c.args.numbering.now) p) is
    c.requires in
    let high : depth (plain_pattern c.args.pat.now) ≡ depths (plain_patterns c.in-Ctor.args.items) +
    1 =
    ap depth is in
    let args : depths (plain_patterns c.deref.result.now) ≡ depths
    (plain_patterns c.in-Ctor.args.items) =
    ap (λ (ps : List RulePat). depths (plain_patterns ps)) c.deref.ensures.value in
    (omega (arith, high, args, c.decreases), rw c.deref.ensures.value own.1)

pub image-returns-in_err-head-in-Call-2-clause-names :
    goal.image-returns-in_err-head-in-Call-2-clause-names
image-returns-in_err-head-in-Call-2-clause-names t c =
    gained_twice _ _ _ _ c.head_image-in-Call.ensures.names c.at_sorts.ensures.names

pub image-applied-requires-in-Call : goal.image-applied-requires-in-Call
image-applied-requires-in-Call t c =
    let is : plain_pattern c.args.pat.now ≡ call c.in-Call.symbol.0
    (sort_numbers c.in-Call.sorts.items) (plain_patterns c.in-Call.args.items) =
    ap plain_pattern c.in-Call.is ∙ plain-Call _ _ _ in
    let own : HasImage c.args.sig.now (room c.args.numbering.now)
    (call c.in-Call.symbol.0 (sort_numbers c.in-Call.sorts.items)
    (plain_patterns c.in-Call.args.items)) =
    subst (λ (p : RulePattern). HasImage c.args.sig.now (room c.args.numbering.now) p) is
    c.requires in
    let high : depth (plain_pattern c.args.pat.now) ≡ depths (plain_patterns c.in-Call.args.items) +
    1 =
    ap depth is in
    let args : depths (plain_patterns c.deref-in-Call-2.result.now) ≡ depths
    (plain_patterns c.in-Call.args.items) =
    ap (λ (ps : List RulePat). depths (plain_patterns ps)) c.deref-in-Call-2.ensures.value in
    (omega (arith, high, args, c.decreases), rw c.deref-in-Call-2.ensures.value own.2)

pub image-returns-in_ok-head-in-Ctor-clause-image :
    goal.image-returns-in_ok-head-in-Ctor-clause-image
image-returns-in_ok-head-in-Ctor-clause-image t c =
    let is : plain_pattern c.args.pat.now ≡ application c.in-Ctor.symbol.0
    (plain_patterns c.in-Ctor.args.items) =
    ap plain_pattern c.in-Ctor.is ∙ plain-Ctor _ _ in
    let head : symbol_image c.args.sig.now c.applied.new.names c.in-Ctor.symbol.0 ≡ Some
    c.in_ok-head-in-Ctor.head =
    gained-symbol c.args.sig.now _ _ _ c.applied.ensures.names _
    c.in_ok-head-in-Ctor.ensures.image in
    let whole : image_of c.args.sig.now c.applied.new.names
    (renamed (number_in c.args.numbering.now) (plain_pattern c.args.pat.now)) ≡ applied
    c.args.sig.now
    c.applied.new.names (Some c.in_ok-head-in-Ctor.head)
    (all_renamed (number_in c.args.numbering.now) (plain_patterns c.deref.result.now)) =
    ap (λ (q : RulePattern). image_of c.args.sig.now c.applied.new.names (renamed (number_in
    c.args.numbering.now) q))
    is
    ∙ ap (λ (o : Option Pattern). applied c.args.sig.now c.applied.new.names o
    (all_renamed (number_in c.args.numbering.now) (plain_patterns c.in-Ctor.args.items))) head
    ∙ ap (λ (ps : List RulePat). applied c.args.sig.now c.applied.new.names
    (Some c.in_ok-head-in-Ctor.head) (all_renamed (number_in c.args.numbering.now) (plain_patterns
    ps)))
    (sym c.deref.ensures.value) in
    subst (λ (o : Option Pattern). IfOk c.applied.result (λ p. o ≡ Some p)) (sym whole)
    c.applied.ensures.image

pub image-returns-in_ok-head-in-Ctor-clause-names :
    goal.image-returns-in_ok-head-in-Ctor-clause-names
image-returns-in_ok-head-in-Ctor-clause-names t c =
    gained_twice _ _ _ _ c.head_image.ensures.names c.applied.ensures.names

pub image-returns-in_ok-head-in-Call-2-clause-image :
    goal.image-returns-in_ok-head-in-Call-2-clause-image
image-returns-in_ok-head-in-Call-2-clause-image t c =
    let is : plain_pattern c.args.pat.now ≡ call c.in-Call.symbol.0
    (sort_numbers c.in-Call.sorts.items) (plain_patterns c.in-Call.args.items) =
    ap plain_pattern c.in-Call.is ∙ plain-Call _ _ _ in
    let symbol : symbol_image c.args.sig.now c.at_sorts.new.names c.in-Call.symbol.0 ≡ Some
    c.in_ok-head-in-Call.head =
    gained-symbol c.args.sig.now _ _ _ c.at_sorts.ensures.names _
    c.in_ok-head-in-Call.ensures.image in
    let sorts : at_sorts c.args.sig.now c.at_sorts.new.names (Some c.in_ok-head-in-Call.head)
    (sort_numbers c.in-Call.sorts.items) ≡ Some c.in_ok-head-in-Call-2.head =
    ap (λ (ss : List SortId). at_sorts c.args.sig.now c.at_sorts.new.names
    (Some c.in_ok-head-in-Call.head) (sort_numbers ss))
    (sym c.deref-in-Call.ensures.value) ∙ c.in_ok-head-in-Call-2.ensures.image in
    let head : at_sorts c.args.sig.now c.applied-in-Call.new.names
    (symbol_image c.args.sig.now c.applied-in-Call.new.names c.in-Call.symbol.0)
    (sort_numbers c.in-Call.sorts.items) ≡ Some c.in_ok-head-in-Call-2.head =
    gained-at_sorts c.args.sig.now _ _ (sort_numbers c.in-Call.sorts.items) _ _
    c.applied-in-Call.ensures.names
    (gained-symbol c.args.sig.now _ _ _ c.applied-in-Call.ensures.names) _
    (ap (λ (o : Option Pattern).
    at_sorts c.args.sig.now c.at_sorts.new.names o (sort_numbers c.in-Call.sorts.items))
    symbol ∙ sorts) in
    let whole : image_of c.args.sig.now c.applied-in-Call.new.names
    (renamed (number_in c.args.numbering.now) (plain_pattern c.args.pat.now)) ≡ applied
    c.args.sig.now
    c.applied-in-Call.new.names (Some c.in_ok-head-in-Call-2.head)
    (all_renamed (number_in c.args.numbering.now) (plain_patterns c.deref-in-Call-2.result.now)) =
    ap (λ (q : RulePattern).
    image_of c.args.sig.now c.applied-in-Call.new.names (renamed (number_in c.args.numbering.now)
    q)) is
    ∙ ap (λ (o : Option Pattern). applied c.args.sig.now c.applied-in-Call.new.names o
    (all_renamed (number_in c.args.numbering.now) (plain_patterns c.in-Call.args.items))) head
    ∙ ap (λ (ps : List RulePat). applied c.args.sig.now c.applied-in-Call.new.names
    (Some c.in_ok-head-in-Call-2.head) (all_renamed (number_in c.args.numbering.now) (plain_patterns
    ps)))
    (sym c.deref-in-Call-2.ensures.value) in
    subst (λ (o : Option Pattern). IfOk c.applied-in-Call.result (λ p. o ≡ Some p)) (sym whole)
    c.applied-in-Call.ensures.image

pub image-returns-in_ok-head-in-Call-2-clause-names :
    goal.image-returns-in_ok-head-in-Call-2-clause-names
image-returns-in_ok-head-in-Call-2-clause-names t c =
    gained_twice _ _ _ _ c.head_image-in-Call.ensures.names
    (gained_twice _ _ _ _ c.at_sorts.ensures.names c.applied-in-Call.ensures.names)

pub image-returns-in_err-below-in-Inj-clause-names :
    goal.image-returns-in_err-below-in-Inj-clause-names
image-returns-in_err-below-in-Inj-clause-names t c =
    gained_twice _ _ _ _ c.injection_image.ensures.names c.image.ensures.names

pub image-returns-in_ok-below-in-Inj-clause-image :
    goal.image-returns-in_ok-below-in-Inj-clause-image
image-returns-in_ok-below-in-Inj-clause-image t c =
    let is : plain_pattern c.args.pat.now ≡ injection c.in-Inj.from.0 c.in-Inj.to.0
    (plain_pattern c.in-Inj.below.value) =
    ap plain_pattern c.in-Inj.is ∙ plain-Inj _ _ _ in
    let head : injection_image c.args.sig.now c.image.new.names c.in-Inj.from.0 c.in-Inj.to.0 ≡ Some
    c.in_ok-head-in-Inj.head =
    gained-injection c.args.sig.now c.injection_image.new.names c.image.new.names c.in-Inj.from.0
    c.in-Inj.to.0 c.image.ensures.names c.in_ok-head-in-Inj.head
    c.in_ok-head-in-Inj.ensures.image in
    let below : image_of c.args.sig.now c.image.new.names
    (renamed (number_in c.args.numbering.now) (plain_pattern c.in-Inj.below.value)) ≡ Some
    c.in_ok-below-in-Inj.below =
    ap (λ (p : RulePat).
    image_of c.args.sig.now c.image.new.names (renamed (number_in c.args.numbering.now)
    (plain_pattern p)))
    (sym c.deref-in-Inj.ensures) ∙ c.in_ok-below-in-Inj.ensures.image in
    let whole : image_of c.args.sig.now c.image.new.names
    (renamed (number_in c.args.numbering.now) (plain_pattern c.args.pat.now)) ≡ Some
    (app c.in_ok-head-in-Inj.head c.in_ok-below-in-Inj.below) =
    ap (λ (q : RulePattern). image_of c.args.sig.now c.image.new.names (renamed (number_in
    c.args.numbering.now) q)) is
    ∙ ap (λ (o : Option Pattern). both app o (image_of c.args.sig.now c.image.new.names
    (renamed (number_in c.args.numbering.now) (plain_pattern c.in-Inj.below.value)))) head
    ∙ ap (λ (o : Option Pattern). both app (Some c.in_ok-head-in-Inj.head) o) below in
    if_ok _ (λ p. image_of c.args.sig.now c.image.new.names
    (renamed (number_in c.args.numbering.now) (plain_pattern c.args.pat.now)) ≡ Some p) c.app.result
    (λ (p : Pattern) (made : p ≡ app c.in_ok-head-in-Inj.head c.in_ok-below-in-Inj.below).
    whole ∙ ap (λ (q : Pattern). Some q) (sym made)) c.app.ensures

pub image-returns-in_ok-below-in-Inj-clause-names :
    goal.image-returns-in_ok-below-in-Inj-clause-names
image-returns-in_ok-below-in-Inj-clause-names t c =
    gained_twice _ _ _ _ c.injection_image.ensures.names c.image.ensures.names
