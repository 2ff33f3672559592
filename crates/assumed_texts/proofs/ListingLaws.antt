-- Listing images one by one.
use Rattle.std.proofs.Common.{◌≡◌, ◌⊎◌, ◌<◌, ◌≤◌, ◌+◌, ℕ, List, [], ◌∷◌, ◌++◌, length, Some}
use Rattle.std.proofs.Common.{inl, inr, refl, sym, ap, ◌∙◌, subst, arith, get_or, option_map}
use Rattle.std.specs.Prelude.{Contains, slice_get}
use Rattle.std.proofs.lemmas.List.Elements.{Contains-append_left, Contains-append_right}
use Rattle.std.proofs.lemmas.List.Elements.{Contains-append_cases}
use Rattle.std.proofs.lemmas.Option.{slice_get-map, slice_get-get_or, slice_get_within}
use Rattle.std.proofs.lemmas.Option.{get_or_from_slice_get}
use Rattle.std.proofs.lemmas.List.{length-map}
use Rattle.std.proofs.Common.{eq-or-lt_of_le}
use Rattle.mm_text.specs.Bytes.{Token}
use Rattle.ml_pat.specs.Patterns.{Pattern}
use Rattle.rule_core.specs.BoundVariables.{HasBoundVariables}
use Rattle.rule_core.specs.ProgramView.{theory_of, rewrite_rule}
use Rattle.rule_core.specs.Rules.{RewriteRule}
use Rattle.rule_core.specs.Theories.{RewriteTheory}
use Rattle.rule_core.specs.WellSorted.{IsWellSorted}
use Rattle.rule_core.specs.declared.rules.Program.{Program}
use Rattle.rule_core.specs.declared.rules.Rule.{Rule}
use Rattle.rule_core.specs.declared.signature.Signature.{Signature}
use Rattle.ml_image.specs.Gained.{HasGained}
use Rattle.ml_image.specs.HasImages.{HasRuleImage}
use Rattle.ml_image.specs.OwnAxioms.{SaysRule, rule_sentence}
use Rattle.ml_image.specs.Sentences.{Sentence, sentence_image, IsImageOf}
use Rattle.ml_image.proofs.ConditionLaws.{length-sorts_of}
use Rattle.ml_image.proofs.ImageLaws.{some_same}
use Rattle.ml_image.proofs.NamingLaws.{sentence-keeps}
use Rattle.ml_image.proofs.WellSortedLaws.{rule_has_image}
use Rattle.assumed_texts.specs.Kinds.{IsWritten, IsRuleAxiom}
use Rattle.assumed_texts.specs.Listing.{Lists, IsRuleBefore}
use Rattle.assumed_texts.proofs.Deciding.{image-gained}

-- ---- one more image

sentence-gained : (sig : Signature) (old new : List Token) (s : Sentence) (p : Pattern)
    → HasGained sig old new → sentence_image sig old s ≡ Some p → sentence_image sig new s ≡ Some p
sentence-gained sig old new s p gained is =
    ap (λ (ns : List Token). sentence_image sig ns s) gained.all
    ∙ sentence-keeps sig old gained.gained s p is

-- a list of one thing
pub only-one : {A : Type 0} (x y : A) → Contains (x ∷ []) y → x ≡ y
only-one {A} x y (i, lt, is) =
    let first : i ≡ 0 = omega (arith, lt) in
    ap (λ (n : ℕ). get_or (x ∷ []) n y) (sym first) ∙ is

-- P is the property of one sentence, whose image is q
pub listed-more : (theory : RewriteTheory) (old new : List Token) (before after P : Sentence → Type 0)
    (images : List Pattern) (q : Pattern) → Lists theory old before images
    → HasGained theory.sig old new → ((s : Sentence) → P s → IsWritten theory s)
    → ((s t : Sentence) → P s → P t → s ≡ t) → ((s : Sentence) → after s → before s ⊎ P s)
    → IsImageOf theory.sig new P q → Lists theory new after (images ++ q ∷ [])
listed-more theory old new before after P images q lists gained written unique split made = record {
  sound = λ p has. source p (Contains-append_cases images (q ∷ []) p has);
  complete = λ s h. found s (split s h);
}
  where
    source : (p : Pattern) → Contains images p ⊎ Contains (q ∷ []) p
        → IsImageOf theory.sig new (IsWritten theory) p
    source p (inl has) =
        image-gained theory.sig old new (IsWritten theory) p gained (lists.sound p has)
    source p (inr has) =
        subst (IsImageOf theory.sig new (IsWritten theory)) (only-one q p has)
        (made.0, written made.0 made.1, made.2)

    found : (s : Sentence) → before s ⊎ P s
        → (p : Pattern) × Contains (images ++ q ∷ []) p × (sentence_image theory.sig new s ≡ Some p)
    found s (inl h) =
        let w : (p : Pattern) × Contains images p × (sentence_image theory.sig old s ≡ Some p) =
        lists.complete s h in (
          w.0,
          Contains-append_left images (q ∷ []) w.0 w.1,
          sentence-gained theory.sig old new s w.0 gained w.2,
        )
    found s (inr h) = (
      q,
      Contains-append_right images (q ∷ []) q (0, omega arith, refl),
      ap (sentence_image theory.sig new) (unique s made.0 h made.1) ∙ made.2,
    )

-- the list serves a property that follows
pub listed-for : (theory : RewriteTheory) (names : List Token) (P Q : Sentence → Type 0)
    (images : List Pattern) → ((s : Sentence) → Q s → P s) → Lists theory names P images
    → Lists theory names Q images
listed-for theory names P Q images weaker lists = record {
  sound = lists.sound;
  complete = λ s h. lists.complete s (weaker s h);
}

-- ---- rules

pub rule-unique : (sig : Signature) (r : RewriteRule) (s t : Sentence) → SaysRule sig r s
    → SaysRule sig r t → s ≡ t
rule-unique sig r s t h k =
    h.says ∙ ap (rule_sentence r) (some_same h.condition k.condition (sym h.conditional
    ∙ k.conditional)) ∙ sym k.says

rule-at : (program : Program) (i : ℕ) (r : Rule) → slice_get program.rules.items i ≡ Some r
    → slice_get (theory_of program).rules i ≡ Some (rewrite_rule r)
rule-at program i r is =
    slice_get-map rewrite_rule program.rules.items i ∙ ap (option_map rewrite_rule) is

pub there : {A : Type 0} (xs : List A) (n : ℕ) (x : A) → slice_get xs n ≡ Some x → Contains xs x
there xs n x is = (n, slice_get_within xs n x is, get_or_from_slice_get xs n x x is)

pub rule-ready : (program : Program) (i : ℕ) (r : Rule) → IsWellSorted (theory_of program)
    → HasBoundVariables program → slice_get program.rules.items i ≡ Some r
    → HasRuleImage program.sig (rewrite_rule r)
rule-ready program i r sorted bound at =
    rule_has_image (theory_of program) (rewrite_rule r) sorted
    (there (theory_of program).rules i (rewrite_rule r) (rule-at program i r at))
    (omega (arith, (bound.rules i r at).few, length-sorts_of r.vars.items))

below-next : (k n : ℕ) → k < n + 1 → k ≤ n
below-next k n lt = omega (arith, lt)

before-next : (theory : RewriteTheory) (n : ℕ) (r : RewriteRule) → slice_get theory.rules n ≡ Some r
    → (s : Sentence) → IsRuleBefore theory (n + 1) s
    → IsRuleBefore theory n s ⊎ SaysRule theory.sig r s
before-next theory n r at s (k, q, lt, is, says) =
    elim (eq-or-lt_of_le (below-next k n lt)) as (λ (o : (k ≡ n) ⊎ (k < n)).
    IsRuleBefore theory n s ⊎ SaysRule theory.sig r s) [
      | inl same ↦ inr (subst (λ (x : RewriteRule). SaysRule theory.sig x s)
          (some_same q r (sym is ∙ ap (slice_get theory.rules) same ∙ at)) says)
      | inr less ↦ inl (k, q, less, is, says)
    ]

pub rule-listed : (program : Program) (old new : List Token) (images : List Pattern) (i : ℕ)
    (r : Rule) (q : Pattern) → slice_get program.rules.items i ≡ Some r
    → Lists (theory_of program) old (IsRuleBefore (theory_of program) i) images
    → HasGained program.sig old new
    → IsImageOf program.sig new (SaysRule program.sig (rewrite_rule r)) q
    → Lists (theory_of program) new (IsRuleBefore (theory_of program) (i + 1)) (images ++ q ∷ [])
rule-listed program old new images i r q at lists gained made =
    let theory : RewriteTheory = theory_of program in
    let plain : RewriteRule = rewrite_rule r in
    let here : slice_get theory.rules i ≡ Some plain = rule-at program i r at in
    listed-more theory old new (IsRuleBefore theory i) (IsRuleBefore theory (i + 1))
    (SaysRule program.sig plain) images q lists gained
    (λ s h. inl (plain, there theory.rules i plain here, h)) (rule-unique program.sig plain)
    (before-next theory i plain here) made

-- an item of a list that is read
pub item-at : {A : Type 0} (xs ys : List A) (i : ℕ) (x : A) → ys ≡ xs → x ≡ get_or ys i x
    → i < length ys → slice_get xs i ≡ Some x
item-at {A} xs ys i x same is lt =
    ap (λ (zs : List A). slice_get zs i) (sym same) ∙ slice_get-get_or ys i x lt ∙ ap Some (sym is)

-- nothing is listed yet
pub none-listed : (theory : RewriteTheory) (names : List Token)
    → Lists theory names (IsRuleBefore theory 0) []
none-listed theory names = record {
  sound = λ p (i, lt, is). absurd (omega (arith, lt));
  complete = λ s (k, r, lt, is, says). absurd (omega (arith, lt));
}

-- all rules are
pub rules-listed : (program : Program) (names : List Token) (images : List Pattern) (n : ℕ)
    → length program.rules.items ≤ n
    → Lists (theory_of program) names (IsRuleBefore (theory_of program) n) images
    → Lists (theory_of program) names (IsRuleAxiom (theory_of program)) images
rules-listed program names images n all =
    listed-for (theory_of program) names (IsRuleBefore (theory_of program) n)
    (IsRuleAxiom (theory_of program)) images
    (λ s (r, (i, lt, is), says). (
      i,
      r,
      omega (arith, lt, all, length-map program.rules.items rewrite_rule),
      slice_get-get_or (theory_of program).rules i r lt ∙ ap Some is,
      says,
    ))
