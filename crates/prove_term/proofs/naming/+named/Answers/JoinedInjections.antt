-- The answers for an injection whose argument becomes an injection: a collapse makes them one.
use Rattle.std.proofs.Common.{◌≡◌, ℕ, [], Option, Some, None, ap, sym, ◌∙◌, subst, arith, eq-eqb}
use Rattle.std.specs.Prelude.{◌≢◌}
use Rattle.std.proofs.lemmas.Bool.{false≢true}
use Rattle.ml_pat.specs.Patterns.{Pattern}
use Rattle.ml_kernel.specs.Lemmas.{HasNoVariable}
use Rattle.ml_kernel.specs.Theorems.{Theorem}
use Rattle.term_core.specs.Terms.{Tree}
use Rattle.term_core.specs.Patterns.{Pattern as RulePattern, injection, ground_pattern}
use Rattle.term_core.specs.RulePatterns.{plain_pattern}
use Rattle.term_core.specs.declared.rule_patterns.RulePat.{RulePat}
use Rattle.rule_core.specs.Sorting.{HasSort}
use Rattle.rule_core.specs.WellSorted.{IsSignature}
use Rattle.rule_core.specs.declared.rules.Program.{Program}
use Rattle.ml_image.specs.Images.{image_of}
use Rattle.ml_image.specs.PartNames.{part_names}
use Rattle.ml_image.specs.Sentences.{term}
use Rattle.prove_term.specs.Applications.{IsApplication}
use Rattle.prove_term.specs.Comparing.{MakesTerm, IsOnce}
use Rattle.prove_term.specs.Contexts.{Context, HasGrown}
use Rattle.prove_term.specs.Naming.{MakesNamed, MakesBelow, ComparesNamed, ComparesBelow}
use Rattle.prove_term.proofs.ComparingCalls.{once_closed, once_halves, once_splits}
use Rattle.prove_term.proofs.ComparingCalls.{application_grown}
use Rattle.prove_term.proofs.ComparingInjections.{base_sorted, moved_reaches, once_grown}
use Rattle.prove_term.proofs.ComparingLaws.{closed-injection}
use Rattle.prove_term.proofs.ContextLaws.{grown_none, grown_twice, image_grown}
use Rattle.prove_term.proofs.NamingCalls.{named_says, named_closed, makes_grown, named_grown}
use Rattle.prove_term.proofs.NamingCalls.{moved_none, moved_some, moved_joinable}
use Rattle.prove_term.proofs.NamingParts.{named_makes, below_makes, below_moves_made, base_low}
use Rattle.prove_term.proofs.naming.+named.Goals as goal
use Rattle.prove_term.proofs.naming.+named.Answers.Injections.{ends_made, whole_ends}
use Rattle.prove_term.proofs.naming.+named.Goals.{injection_named-After-twice}
use Rattle.prove_term.proofs.naming.+named.Goals.{injection_named-In-Inj}

-- both injections are one, in a grown context
once_in : (t : ℕ) (c : injection_named-After-twice t) (cx : Context) → HasGrown c.merged.new.cx cx
    → IsOnce cx c.in-Inj.lowest.0 c.args.from.0 c.args.to.0 (plain_pattern c.deref-3.result.now)
    c.in_ok-once.once
once_in t c cx g =
    once_grown c.merged.new.cx cx c.in-Inj.lowest.0 c.args.from.0 c.args.to.0
    (plain_pattern c.deref-3.result.now) c.in_ok-once.once c.in_ok-once.ensures.says g

-- the two parts of its left side
parts_same : (t : ℕ) (c : injection_named-After-twice t) (cx : Context)
    (o : IsOnce cx c.in-Inj.lowest.0 c.args.from.0 c.args.to.0 (plain_pattern c.deref-3.result.now)
    c.in_ok-once.once)
    → (c.twice.result.0.now ≡ o.head) × (c.twice.result.1.now ≡ o.middle)
parts_same t c cx o =
    once_halves cx c.in-Inj.lowest.0 c.args.from.0 c.args.to.0 (plain_pattern c.deref-3.result.now)
    c.in_ok-once.once o c.twice.result.0.now c.twice.result.1.now c.twice.ensures.0
    c.twice.ensures.1

-- the inner injection, as it is passed on
middle_is : (t : ℕ) (c : injection_named-After-twice t)
    → plain_pattern c.in_ok-middle.middle
    ≡ injection c.in-Inj.lowest.0 c.args.from.0 (plain_pattern c.deref-3.result.now)
middle_is t c =
    c.in_ok-middle.ensures
    ∙ ap (λ (p : RulePat). injection c.in-Inj.lowest.0 c.args.from.0 (plain_pattern p))
    (c.deref-2.ensures ∙ sym c.deref-3.ensures)

lower : (t : ℕ) (c : injection_named-After-twice t) → c.in-Inj.lowest.0 ≢ c.args.from.0
lower t c =
    λ same. false≢true (sym (sym c.eq.ensures ∙ c.if-eq.false)
    ∙ eq-eqb c.in-Inj.lowest.0 c.args.from.0 same)

-- the pattern below becomes it
middle_made : (t : ℕ) (c : injection_named-After-twice t) (cx : Context)
    → HasGrown c.merged.new.cx cx
    → MakesBelow c.args.cx.now.program.sig (part_names c.args.names.now) c.args.from.0 c.args.to.0
    (plain_pattern c.args.below.now)
    (injection c.in-Inj.lowest.0 c.args.to.0 (plain_pattern c.deref-3.result.now))
    → MakesNamed cx.program.sig (part_names c.args.names.now) (plain_pattern c.args.below.now)
    (injection c.in-Inj.lowest.0 c.args.from.0 (plain_pattern c.deref-3.result.now))
middle_made t c cx g made =
    makes_grown c.args.cx.now cx (part_names c.args.names.now) (plain_pattern c.args.below.now)
    (injection c.in-Inj.lowest.0 c.args.from.0 (plain_pattern c.deref-3.result.now))
    (grown_twice c.args.cx.now c.merged.new.cx cx c.in_ok-once.ensures.grown g)
    (below_moves_made c.args.cx.now.program.sig (part_names c.args.names.now) c.in-Inj.lowest.0
    c.args.from.0 c.args.to.0 c.args.to.0 (plain_pattern c.args.below.now)
    (plain_pattern c.deref-3.result.now) made (lower t c)).2

middle_closed : (t : ℕ) (c : injection_named-After-twice t) (cx : Context)
    → HasGrown c.merged.new.cx cx
    → MakesBelow c.args.cx.now.program.sig (part_names c.args.names.now) c.args.from.0 c.args.to.0
    (plain_pattern c.args.below.now)
    (injection c.in-Inj.lowest.0 c.args.to.0 (plain_pattern c.deref-3.result.now))
    → (o : IsOnce cx c.in-Inj.lowest.0 c.args.from.0 c.args.to.0
    (plain_pattern c.deref-3.result.now) c.in_ok-once.once) → HasNoVariable o.middle
middle_closed t c cx g made o =
    named_closed cx (part_names c.args.names.now) (plain_pattern c.args.below.now)
    (injection c.in-Inj.lowest.0 c.args.from.0 (plain_pattern c.deref-3.result.now)) o.middle
    (middle_made t c cx g made) o.is_middle

-- what is proved of the pattern below, in a grown context
below_says : (t : ℕ) (c : injection_named-After-twice t) (mid cx : Context) (one : Option Theorem)
    (q : Pattern) → HasGrown mid cx → c.twice.result.1.now ≡ q
    → ComparesNamed mid (part_names c.args.names.now) (plain_pattern c.args.below.now)
    (plain_pattern c.in_ok-middle.middle) c.twice.result.1.now one
    → ComparesNamed cx (part_names c.args.names.now) (plain_pattern c.args.below.now)
    (injection c.in-Inj.lowest.0 c.args.from.0 (plain_pattern c.deref-3.result.now)) q one
below_says t c mid cx one q g same says =
    subst (λ (p : RulePattern). ComparesNamed cx (part_names c.args.names.now)
    (plain_pattern c.args.below.now) p q one) (middle_is t c)
    (subst (λ (r : Pattern). ComparesNamed cx (part_names c.args.names.now)
    (plain_pattern c.args.below.now) (plain_pattern c.in_ok-middle.middle) r one) same
    (named_grown mid cx (part_names c.args.names.now) (plain_pattern c.args.below.now)
    (plain_pattern c.in_ok-middle.middle) c.twice.result.1.now one g says))

-- the image of the outer injection is applied
further_applied : {cx : Context} {a b d : ℕ} {w : RulePattern} {once : Theorem}
    {head middle : Pattern} (o : IsOnce cx a b d w once) (one further : Option Theorem)
    → (head ≡ o.head) × (middle ≡ o.middle) → IsApplication cx head middle None one further
    → IsApplication cx o.head o.middle None one further
further_applied {cx = cx} {head = head} o one further same made =
    subst (λ (q : Pattern). IsApplication cx q o.middle None one further) same.0
    (subst (λ (q : Pattern). IsApplication cx head q None one further) same.1 made)

-- the term is an injection of the lowest sort
whole_makes : (t : ℕ) (c : injection_named-In-Inj t) (w : RulePat) → w ≡ c.in-Inj.base.value
    → MakesTerm c.args.cx.now.program.sig
    (injection c.args.from.0 c.args.to.0 (plain_pattern c.args.below.now))
    (injection c.in-Inj.lowest.0 c.args.to.0 (plain_pattern w))
whole_makes t c w base =
    below_makes c.args.cx.now.program.sig (part_names c.args.names.now) c.args.from.0 c.args.to.0
    (plain_pattern c.args.below.now) (injection c.in-Inj.lowest.0 c.args.to.0 (plain_pattern w))
    (ends_made t c w base)

base_is : (t : ℕ) (c : injection_named-In-Inj t) (w : RulePat) → w ≡ c.in-Inj.base.value
    → (v : Tree) × (plain_pattern w ≡ ground_pattern v)
    × HasSort c.args.cx.now.program.sig [] (plain_pattern w) c.in-Inj.lowest.0
base_is t c w base =
    base_sorted c.args.cx.now.program.sig
    (injection c.args.from.0 c.args.to.0 (plain_pattern c.args.below.now)) c.in-Inj.lowest.0
    c.args.to.0 (plain_pattern w) (whole_makes t c w base)

-- its image, in a grown context
whole_image : (t : ℕ) (c : injection_named-In-Inj t) (w : RulePat) (cx : Context)
    → w ≡ c.in-Inj.base.value → HasGrown c.args.cx.now cx
    → image_of cx.program.sig cx.names
    (injection c.in-Inj.lowest.0 c.args.to.0 (plain_pattern w)) ≡ Some c.args.image.now
whole_image t c w cx base g =
    ap (image_of cx.program.sig cx.names) (sym (whole_ends t c w base))
    ∙ image_grown c.args.cx.now cx (term (plain_pattern c.args.whole.now)) c.args.image.now g
    c.requires.image

pub injection_named-injected-requires : goal.injection_named-injected-requires
injection_named-injected-requires t c =
    base_low c.args.cx.now.program.sig (part_names c.args.names.now) c.args.from.0 c.args.to.0
    c.in-Inj.lowest.0 c.args.to.0 (plain_pattern c.args.below.now)
    (plain_pattern c.deref-2.result.now)
    (ends_made t (goal.at.injection_named-injected-requires t c).In-Inj c.deref-2.result.now
    c.deref-2.ensures)

pub injection_named-merged-requires-clause-term : goal.injection_named-merged-requires-clause-term
injection_named-merged-requires-clause-term t c =
    let b = base_is t (goal.at.injection_named-merged-requires-clause-term t c).In-Inj
    c.deref-3.result.now c.deref-3.ensures in
    (b.0, b.1)

pub injection_named-merged-requires-clause-sorted :
    goal.injection_named-merged-requires-clause-sorted
injection_named-merged-requires-clause-sorted t c =
    (base_is t (goal.at.injection_named-merged-requires-clause-sorted t c).In-Inj
    c.deref-3.result.now c.deref-3.ensures).2

pub injection_named-merged-requires-clause-below : goal.injection_named-merged-requires-clause-below
injection_named-merged-requires-clause-below t c =
    let apart : c.in-Inj.lowest.0 ≢ c.args.from.0 =
    λ same. false≢true (sym (sym c.eq.ensures ∙ c.if-eq.false)
    ∙ eq-eqb c.in-Inj.lowest.0 c.args.from.0 same) in
    (below_moves_made c.args.cx.now.program.sig (part_names c.args.names.now) c.in-Inj.lowest.0
    c.args.from.0 c.args.to.0 c.args.to.0 (plain_pattern c.args.below.now)
    (plain_pattern c.deref-3.result.now)
    (ends_made t (goal.at.injection_named-merged-requires-clause-below t c).In-Inj
    c.deref-3.result.now c.deref-3.ensures) apart).1

pub injection_named-merged-requires-clause-above : goal.injection_named-merged-requires-clause-above
injection_named-merged-requires-clause-above t c =
    moved_reaches c.args.cx.now.program.sig c.args.from.0 c.args.to.0
    (plain_pattern c.args.below.now)
    (injection c.in-Inj.lowest.0 c.args.to.0 (plain_pattern c.deref-3.result.now))
    c.requires.signature
    (whole_makes t (goal.at.injection_named-merged-requires-clause-above t c).In-Inj
    c.deref-3.result.now c.deref-3.ensures)

pub injection_named-twice-requires : goal.injection_named-twice-requires
injection_named-twice-requires t c =
    once_splits c.merged.new.cx c.in-Inj.lowest.0 c.args.from.0 c.args.to.0
    (plain_pattern c.deref-3.result.now) c.in_ok-once.once c.in_ok-once.ensures.says

pub injection_named-named_compared-requires-2 : goal.injection_named-named_compared-requires-2
injection_named-named_compared-requires-2 t c =
    let there = goal.at.injection_named-named_compared-requires-2 t c in
    let at = there.After-twice in
    let o : IsOnce c.merged.new.cx c.in-Inj.lowest.0 c.args.from.0 c.args.to.0
    (plain_pattern c.deref-3.result.now) c.in_ok-once.once = c.in_ok-once.ensures.says in (
      omega (arith, c.decreases),
      (
        subst (λ (program : Program). IsSignature program.sig)
            (sym c.in_ok-once.ensures.grown.program) c.requires.signature,
        (
          subst (MakesNamed c.merged.new.cx.program.sig (part_names c.args.names.now)
              (plain_pattern c.args.below.now)) (sym (middle_is t at))
              (middle_made t at c.merged.new.cx (grown_none c.merged.new.cx)
              (ends_made t there.In-Inj c.deref-3.result.now c.deref-3.ensures)),
          ap (image_of c.merged.new.cx.program.sig c.merged.new.cx.names) (middle_is t at)
              ∙ o.is_middle
              ∙ ap (λ (q : Pattern). Some q) (sym (parts_same t at c.merged.new.cx o).1),
        ),
      ),
    )

pub injection_named-applied-requires-2-clause-argument :
    goal.injection_named-applied-requires-2-clause-argument
injection_named-applied-requires-2-clause-argument t c =
    let there = goal.at.injection_named-applied-requires-2-clause-argument t c in
    let at = there.After-twice in
    named_says c.named_compared-2.new.cx (part_names c.args.names.now)
    (plain_pattern c.args.below.now) (plain_pattern c.in_ok-middle.middle) c.twice.result.1.now
    c.in_ok-one-2.one
    (subst (MakesNamed c.named_compared-2.new.cx.program.sig (part_names c.args.names.now)
    (plain_pattern c.args.below.now)) (sym (middle_is t at))
    (middle_made t at c.named_compared-2.new.cx c.in_ok-one-2.ensures.grown
    (ends_made t there.In-Inj c.deref-3.result.now c.deref-3.ensures)))
    c.in_ok-one-2.ensures.says

pub injection_named-applied-requires-2-clause-closed :
    goal.injection_named-applied-requires-2-clause-closed
injection_named-applied-requires-2-clause-closed t c =
    let there = goal.at.injection_named-applied-requires-2-clause-closed t c in
    let at = there.After-twice in
    let o : IsOnce c.merged.new.cx c.in-Inj.lowest.0 c.args.from.0 c.args.to.0
    (plain_pattern c.deref-3.result.now) c.in_ok-once.once = c.in_ok-once.ensures.says in
    let parts : (c.twice.result.0.now ≡ o.head) × (c.twice.result.1.now ≡ o.middle) =
    parts_same t at c.merged.new.cx o in (
      subst HasNoVariable (sym parts.0)
          (closed-injection c.merged.new.cx.program.sig c.merged.new.cx.names c.args.from.0
          c.args.to.0 o.head o.is_head),
      subst HasNoVariable (sym parts.1)
          (middle_closed t at c.merged.new.cx (grown_none c.merged.new.cx)
          (ends_made t there.In-Inj c.deref-3.result.now c.deref-3.ensures) o),
    )

pub injection_named-join-requires-clause-joinable :
    goal.injection_named-join-requires-clause-joinable
injection_named-join-requires-clause-joinable t c =
    let there = goal.at.injection_named-join-requires-clause-joinable t c in
    let at = there.After-twice in
    let g : HasGrown c.merged.new.cx c.applied-2.new.cx =
    grown_twice c.merged.new.cx c.named_compared-2.new.cx c.applied-2.new.cx
    c.in_ok-one-2.ensures.grown c.in_ok-further.ensures.grown in
    let o : IsOnce c.applied-2.new.cx c.in-Inj.lowest.0 c.args.from.0 c.args.to.0
    (plain_pattern c.deref-3.result.now) c.in_ok-once.once =
    once_in t at c.applied-2.new.cx g in
    let parts : (c.twice.result.0.now ≡ o.head) × (c.twice.result.1.now ≡ o.middle) =
    parts_same t at c.applied-2.new.cx o in
    let made = ends_made t there.In-Inj c.deref-3.result.now c.deref-3.ensures in
    moved_joinable c.applied-2.new.cx (part_names c.args.names.now) c.in-Inj.lowest.0
    c.args.from.0 c.args.to.0 (plain_pattern c.args.below.now)
    (plain_pattern c.deref-3.result.now) c.in_ok-once.once c.in-Some.further o c.in_ok-one-2.one
    c.in_ok-further.field-0 (lower t at) (middle_closed t at c.applied-2.new.cx g made o)
    (subst (λ (program : Program). MakesBelow program.sig (part_names c.args.names.now)
    c.args.from.0 c.args.to.0 (plain_pattern c.args.below.now)
    (injection c.in-Inj.lowest.0 c.args.to.0 (plain_pattern c.deref-3.result.now)))
    (sym (grown_twice c.args.cx.now c.merged.new.cx c.applied-2.new.cx
    c.in_ok-once.ensures.grown g).program) made)
    (below_says t at c.named_compared-2.new.cx c.applied-2.new.cx c.in_ok-one-2.one o.middle
    c.in_ok-further.ensures.grown parts.1 c.in_ok-one-2.ensures.says)
    (further_applied o c.in_ok-one-2.one c.in_ok-further.field-0 parts c.in_ok-further.ensures.says)
    c.in-Some.is

pub injection_named-join-requires-clause-closed : goal.injection_named-join-requires-clause-closed
injection_named-join-requires-clause-closed t c =
    let there = goal.at.injection_named-join-requires-clause-closed t c in
    let at = there.After-twice in
    let made = ends_made t there.In-Inj c.deref-3.result.now c.deref-3.ensures in
    once_closed c.merged.new.cx c.in-Inj.lowest.0 c.args.from.0 c.args.to.0
    (plain_pattern c.args.below.now)
    (injection c.args.from.0 c.args.to.0 (plain_pattern c.args.below.now))
    (plain_pattern c.deref-3.result.now) c.in_ok-once.once c.in_ok-once.ensures.says
    (named_makes c.merged.new.cx.program.sig (part_names c.args.names.now)
    (plain_pattern c.args.below.now)
    (injection c.in-Inj.lowest.0 c.args.from.0 (plain_pattern c.deref-3.result.now))
    (middle_made t at c.merged.new.cx (grown_none c.merged.new.cx) made))
    (subst (λ (program : Program). MakesTerm program.sig
    (injection c.args.from.0 c.args.to.0 (plain_pattern c.args.below.now))
    (injection c.in-Inj.lowest.0 c.args.to.0 (plain_pattern c.deref-3.result.now)))
    (sym c.in_ok-once.ensures.grown.program)
    (whole_makes t there.In-Inj c.deref-3.result.now c.deref-3.ensures))

pub injection_named-returns-in-Some-clause-says : goal.injection_named-returns-in-Some-clause-says
injection_named-returns-in-Some-clause-says t c =
    let there = goal.at.injection_named-returns-in-Some-clause-says t c in
    let at = there.After-twice in
    let k : HasGrown c.named_compared-2.new.cx c.join.new.cx =
    grown_twice c.named_compared-2.new.cx c.applied-2.new.cx c.join.new.cx
    c.in_ok-further.ensures.grown c.in_ok-join-in-Some.ensures.grown in
    let g : HasGrown c.merged.new.cx c.join.new.cx =
    grown_twice c.merged.new.cx c.named_compared-2.new.cx c.join.new.cx
    c.in_ok-one-2.ensures.grown k in
    let o : IsOnce c.join.new.cx c.in-Inj.lowest.0 c.args.from.0 c.args.to.0
    (plain_pattern c.deref-3.result.now) c.in_ok-once.once =
    once_in t at c.join.new.cx g in
    let parts : (c.twice.result.0.now ≡ o.head) × (c.twice.result.1.now ≡ o.middle) =
    parts_same t at c.join.new.cx o in
    let made = ends_made t there.In-Inj c.deref-3.result.now c.deref-3.ensures in
    subst (λ (q : RulePattern). ComparesBelow c.join.new.cx (part_names c.args.names.now)
    c.args.from.0 c.args.to.0 (plain_pattern c.args.below.now) q c.args.image.now
    (Some c.in_ok-join-in-Some.field-0))
    (sym (whole_ends t there.In-Inj c.deref-3.result.now c.deref-3.ensures))
    (moved_some c.join.new.cx (part_names c.args.names.now) c.in-Inj.lowest.0 c.args.from.0
    c.args.to.0 (plain_pattern c.args.below.now) (plain_pattern c.deref-3.result.now)
    c.in_ok-once.once c.in-Some.further c.in_ok-join-in-Some.field-0 o c.in_ok-one-2.one
    c.in_ok-further.field-0 (lower t at) (middle_closed t at c.join.new.cx g made o)
    (below_says t at c.named_compared-2.new.cx c.join.new.cx c.in_ok-one-2.one o.middle k parts.1
    c.in_ok-one-2.ensures.says)
    (further_applied o c.in_ok-one-2.one c.in_ok-further.field-0 parts
    (application_grown c.applied-2.new.cx c.join.new.cx c.twice.result.0.now
    c.twice.result.1.now None c.in_ok-one-2.one c.in_ok-further.field-0
    c.in_ok-join-in-Some.ensures.grown c.in_ok-further.ensures.says))
    c.in-Some.is c.in_ok-join-in-Some.ensures.conclusion c.in_ok-join-in-Some.ensures.stays
    c.args.image.now
    (whole_image t there.In-Inj c.deref-3.result.now c.join.new.cx c.deref-3.ensures
    (grown_twice c.args.cx.now c.merged.new.cx c.join.new.cx c.in_ok-once.ensures.grown g)))

pub injection_named-returns-in-Some-clause-grown : goal.injection_named-returns-in-Some-clause-grown
injection_named-returns-in-Some-clause-grown t c =
    grown_twice c.args.cx.now c.named_compared-2.new.cx c.join.new.cx
    (grown_twice c.args.cx.now c.merged.new.cx c.named_compared-2.new.cx
    c.in_ok-once.ensures.grown c.in_ok-one-2.ensures.grown)
    (grown_twice c.named_compared-2.new.cx c.applied-2.new.cx c.join.new.cx
    c.in_ok-further.ensures.grown c.in_ok-join-in-Some.ensures.grown)

pub injection_named-returns-in_err-further-clause-grown :
    goal.injection_named-returns-in_err-further-clause-grown
injection_named-returns-in_err-further-clause-grown t c =
    grown_twice c.args.cx.now c.named_compared-2.new.cx c.applied-2.new.cx
    (grown_twice c.args.cx.now c.merged.new.cx c.named_compared-2.new.cx
    c.in_ok-once.ensures.grown c.in_ok-one-2.ensures.grown) c.in_err-further.ensures.grown

pub injection_named-returns-in_err-join-in-Some-clause-grown :
    goal.injection_named-returns-in_err-join-in-Some-clause-grown
injection_named-returns-in_err-join-in-Some-clause-grown t c =
    grown_twice c.args.cx.now c.named_compared-2.new.cx c.join.new.cx
    (grown_twice c.args.cx.now c.merged.new.cx c.named_compared-2.new.cx
    c.in_ok-once.ensures.grown c.in_ok-one-2.ensures.grown)
    (grown_twice c.named_compared-2.new.cx c.applied-2.new.cx c.join.new.cx
    c.in_ok-further.ensures.grown c.in_err-join-in-Some.ensures.grown)

pub injection_named-returns-clause-says : goal.injection_named-returns-clause-says
injection_named-returns-clause-says t c =
    let there = goal.at.injection_named-returns-clause-says t c in
    let at = there.After-twice in
    let g : HasGrown c.merged.new.cx c.applied-2.new.cx =
    grown_twice c.merged.new.cx c.named_compared-2.new.cx c.applied-2.new.cx
    c.in_ok-one-2.ensures.grown c.in_ok-further.ensures.grown in
    let o : IsOnce c.applied-2.new.cx c.in-Inj.lowest.0 c.args.from.0 c.args.to.0
    (plain_pattern c.deref-3.result.now) c.in_ok-once.once =
    once_in t at c.applied-2.new.cx g in
    let parts : (c.twice.result.0.now ≡ o.head) × (c.twice.result.1.now ≡ o.middle) =
    parts_same t at c.applied-2.new.cx o in
    let made = ends_made t there.In-Inj c.deref-3.result.now c.deref-3.ensures in
    subst (λ (q : RulePattern). ComparesBelow c.applied-2.new.cx (part_names c.args.names.now)
    c.args.from.0 c.args.to.0 (plain_pattern c.args.below.now) q c.args.image.now
    (Some c.in_ok-once.once))
    (sym (whole_ends t there.In-Inj c.deref-3.result.now c.deref-3.ensures))
    (moved_none c.applied-2.new.cx (part_names c.args.names.now) c.in-Inj.lowest.0 c.args.from.0
    c.args.to.0 (plain_pattern c.args.below.now) (plain_pattern c.deref-3.result.now)
    c.in_ok-once.once o c.in_ok-one-2.one c.in_ok-further.field-0 (lower t at)
    (middle_closed t at c.applied-2.new.cx g made o)
    (below_says t at c.named_compared-2.new.cx c.applied-2.new.cx c.in_ok-one-2.one o.middle
    c.in_ok-further.ensures.grown parts.1 c.in_ok-one-2.ensures.says)
    (further_applied o c.in_ok-one-2.one c.in_ok-further.field-0 parts c.in_ok-further.ensures.says)
    c.in-None.is c.args.image.now
    (whole_image t there.In-Inj c.deref-3.result.now c.applied-2.new.cx c.deref-3.ensures
    (grown_twice c.args.cx.now c.merged.new.cx c.applied-2.new.cx c.in_ok-once.ensures.grown g)))

pub injection_named-returns-clause-grown : goal.injection_named-returns-clause-grown
injection_named-returns-clause-grown t c =
    grown_twice c.args.cx.now c.named_compared-2.new.cx c.applied-2.new.cx
    (grown_twice c.args.cx.now c.merged.new.cx c.named_compared-2.new.cx
    c.in_ok-once.ensures.grown c.in_ok-one-2.ensures.grown) c.in_ok-further.ensures.grown
