use Rattle.std.proofs.Common.{None, refl, sym, ◌∙◌, subst}
use Rattle.std.proofs.lemmas.Bool.{false≢true}
use Rattle.ml_image.specs.HasImages.{HasTotality}
use Rattle.ml_image.specs.OwnAxioms.{SaysApart}
use Rattle.assumed_texts.specs.Constructors.{Leads}
use Rattle.assumed_texts.specs.Kinds.{IsDifference}
use Rattle.assumed_texts.proofs.Deciding.{decides-no, decides-same}
use Rattle.assumed_texts.proofs.ConstructorLaws.{apart-unique, no-first, no-second, only-apart}
use Rattle.assumed_texts.proofs.ConstructorLaws.{not-apart}
use Rattle.assumed_texts.proofs.constructors.says_apart.Goals as goal

pub returns-in_default-clause-answer : goal.returns-in_default-clause-answer
returns-in_default-clause-answer c =
    decides-no c.args.sig.now c.args.names.now c.args.names.now (IsDifference c.args.sig.now)
    c.args.pat.now
    (no-first c.args.sig.now c.args.names.now c.args.pat.now None refl c.in_default.ensures.only)

pub returns-in_default-constructor_in-clause-answer : goal.returns-in_default-constructor_in-clause-answer
returns-in_default-constructor_in-clause-answer c =
    decides-no c.args.sig.now c.args.names.now c.args.names.now (IsDifference c.args.sig.now)
    c.args.pat.now
    (no-second c.args.sig.now c.args.names.now c.args.pat.now
    None refl
    (λ g l k. c.in_default-constructor_in.ensures.only g
    (subst (Leads c.args.sig.now c.args.names.now g) (sym c.right_side.ensures) l) k))

pub returns-then-not-are_apart-clause-answer : goal.returns-then-not-are_apart-clause-answer
returns-then-not-are_apart-clause-answer c =
    let first : HasTotality c.args.sig.now c.in-Some.first.0 =
    c.in-Some.ensures.total in
    let second : HasTotality c.args.sig.now c.in-Some-constructor_in.second.0 =
    c.in-Some-constructor_in.ensures.total in
    decides-no c.args.sig.now c.args.names.now c.args.names.now (IsDifference c.args.sig.now)
    c.args.pat.now
    (λ i. not-apart c.args.sig.now c.args.names.now c.in-Some.first.0 c.in-Some-constructor_in.second.0
    c.args.pat.now first second
    (λ h. false≢true (sym c.if-not-are_apart.true ∙ c.are_apart.ensures.1 h))
    (only-apart c.args.sig.now c.args.names.now c.in-Some.first.0 c.in-Some-constructor_in.second.0
    c.args.pat.now
    c.in-Some.ensures.only
    (λ g l k. c.in-Some-constructor_in.ensures.only g
    (subst (Leads c.args.sig.now c.args.names.now g) (sym c.right_side.ensures) l) k) i))

pub returns-clause-answer : goal.returns-clause-answer
returns-clause-answer c =
    decides-same c.args.sig.now c.args.names.now c.ctor_apart.new.names
    (SaysApart c.args.sig.now c.in-Some.first.0 c.in-Some-constructor_in.second.0)
    (IsDifference c.args.sig.now) c.args.pat.now c.in_ok-image.image c.same.result
    c.in_ok-image.ensures.names
    (λ s h. (c.in-Some.first.0, c.in-Some-constructor_in.second.0, h))
    (apart-unique c.args.sig.now c.in-Some.first.0 c.in-Some-constructor_in.second.0)
    (only-apart c.args.sig.now c.args.names.now c.in-Some.first.0 c.in-Some-constructor_in.second.0
    c.args.pat.now
    c.in-Some.ensures.only
    (λ g l k. c.in-Some-constructor_in.ensures.only g
    (subst (Leads c.args.sig.now c.args.names.now g) (sym c.right_side.ensures) l) k))
    c.in_ok-image.ensures.image c.same.ensures
