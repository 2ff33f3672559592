-- Left sides with names as a whole: what is known of them, and what an equality of images says.
use Rattle.std.proofs.Common.{◌≡◌, ◌≤◌, ℕ, [], List, Option, Some, sym, ◌∙◌, ap, subst}
use Rattle.ml_pat.specs.Patterns.{Pattern, constant}
use Rattle.ml_kernel.specs.Theorems.{Theorem}
use Rattle.term_core.specs.Terms.{Tree, Forest, height, heights}
use Rattle.term_core.specs.Patterns.{Pattern as RulePattern, Patterns as RulePatterns, instance_of}
use Rattle.term_core.specs.Patterns.{ground_pattern, ground_patterns, call}
use Rattle.term_core.specs.PatternLists.{plain_patterns}
use Rattle.term_core.specs.declared.rule_patterns.RulePat.{RulePat}
use Rattle.rule_core.specs.Evaluation.{most_height}
use Rattle.rule_core.specs.Matching.{RespectsSorts}
use Rattle.rule_core.specs.NamedParts.{Name}
use Rattle.rule_core.specs.Sorting.{HasSort, HaveSorts}
use Rattle.rule_core.specs.declared.rules.Program.{Program}
use Rattle.rule_core.specs.declared.signature.Signature.{Signature}
use Rattle.rule_core.specs.declared.signature.SortRef.{SortRef}
use Rattle.ml_image.specs.Images.{image_of, applied, symbol_image}
use Rattle.ml_image.specs.Sentences.{symbol}
use Rattle.ml_image.specs.NamedSides.{left_sentence, applied_sides}
use Rattle.prove_term.specs.Applications.{applied_to}
use Rattle.prove_term.specs.Contexts.{Context, HasGrown}
use Rattle.prove_term.specs.FilledSides.{filled_sentence, AreEqualSides, SaysNamedImage}
use Rattle.prove_term.specs.FilledSides.{SaysNamedCall, AreBoundToParts}
use Rattle.prove_term.specs.Naming.{IsNamedInstance, BecomesImage}
use Rattle.prove_term.specs.Naming.{AreNamedInstances, MakesNamed, MakeNamed, ComparesNamed}
use Rattle.prove_term.specs.Naming.{AllCompareNamed}
use Rattle.prove_term.proofs.ComparingLaws.{image_closed}
use Rattle.prove_term.specs.Schemas.{AreImages}
use Rattle.prove_term.proofs.CallLaws.{AreCalled, IsSplit, call_closed}
use Rattle.prove_term.proofs.ElementLaws.{images_grown}
use Rattle.prove_term.proofs.ImageShapes.{applied_images}
use Rattle.prove_term.proofs.KeptLaws.{symbol_grown}
use Rattle.prove_term.proofs.NamingCalls.{equal_sides}
use Rattle.prove_term.proofs.NamingParts.{parts_bound}

-- a pattern whose parts have names, and its instance
pub record IsNamedWhole (sig : Signature) (names : List Name) (theta : List (Option Tree))
    (p w : RulePattern) (t : Tree) : Type 0 where
  pub variables : List ℕ
  pub sort : ℕ
  pub instance : IsNamedInstance sig names variables theta p sort t
  pub is : w ≡ ground_pattern t

pub whole_grown : (old cx : Context) (names : List Name) (theta : List (Option Tree))
    (p w : RulePattern) (t : Tree) → HasGrown old cx
    → IsNamedWhole old.program.sig names theta p w t → IsNamedWhole cx.program.sig names theta p w t
whole_grown old cx names theta p w t g h =
    subst (λ (program : Program). IsNamedWhole program.sig names theta p w t) (sym g.program) h

pub whole_makes : (sig : Signature) (names : List Name) (theta : List (Option Tree))
    (p w : RulePattern) (t : Tree) → IsNamedWhole sig names theta p w t → MakesNamed sig names p w
whole_makes sig names theta p w t h = (h.variables, theta, h.sort, t, h.instance, h.is)

pub whole_says : (cx : Context) (names : List Name) (theta : List (Option Tree))
    (p w : RulePattern) (t : Tree) (image : Pattern) (o : Option Theorem)
    → IsNamedWhole cx.program.sig names theta p w t
    → image_of cx.program.sig cx.names w ≡ Some image → ComparesNamed cx names p w image o
    → SaysNamedImage cx theta names p o
whole_says cx names theta p w t image o h is all u makes =
    let same : t ≡ u = one_tree t u (sym h.instance.instance.makes ∙ makes) in
    let at : image_of cx.program.sig cx.names (ground_pattern t) ≡ Some image =
    ap (image_of cx.program.sig cx.names) (sym h.is) ∙ is in
    subst (λ (v : Tree). AreEqualSides cx (filled_sentence theta (left_sentence names p))
    (ground_pattern v) o) same
    (equal_sides cx (filled_sentence theta (left_sentence names p)) (ground_pattern t) image o at
    (image_closed cx.program.sig cx.names t image at)
    (all h.variables theta h.sort t h.instance h.is))
  where
    one_tree : (x y : Tree) → Some x ≡ Some y → x ≡ y
    one_tree x y e = cc

-- ---- functions of patterns

abbrev pub AreNamedCalled : Signature → List Name → List (Option Tree) → List RulePat → Forest
    → Type 0
AreNamedCalled sig names theta args us =
    AreBoundToParts theta (plain_patterns args) names × (heights us ≤ most_height)

pub call_makes : (old cx : Context) (f : ℕ) (names : List Name) (theta : List (Option Tree))
    (args ws : List RulePat) (us : Forest) → AreCalled old.program.sig f theta args us
    → AreNamedCalled old.program.sig names theta args us → HasGrown old cx
    → plain_patterns ws ≡ ground_patterns us
    → MakeNamed cx.program.sig names (plain_patterns args) (plain_patterns ws)
call_makes old cx f names theta args ws us h named grown is =
    subst (λ (program : Program).
    MakeNamed program.sig names (plain_patterns args) (plain_patterns ws)) (sym grown.program) (
      h.variables,
      theta,
      h.refs,
      us,
      record {
        instances = h.are;
        low = named.1;
        bound = λ k p there. parts_bound theta k (plain_patterns args) p names there named.0;
      },
      is,
    )

pub call_says : (old cx : Context) (f : ℕ) (names : List Name) (theta : List (Option Tree))
    (args ws : List RulePat) (us : Forest) (image head : Pattern) (images : List Pattern)
    (o : Option Theorem) (s : IsSplit old f args ws us image) → AreCalled old.program.sig f theta args us
    → AreNamedCalled old.program.sig names theta args us → HasGrown old cx
    → head ≡ constant s.number → images ≡ s.images
    → AllCompareNamed old cx names (plain_patterns args) (plain_patterns ws) head images o
    → SaysNamedCall cx theta names f (plain_patterns args) o
call_says old cx f names theta args ws us image head images o s h named grown is_head are all vs makes =
    let same : us ≡ vs = one_forest us vs (sym h.are.make ∙ makes) in
    let symbol_is : symbol_image cx.program.sig cx.names f ≡ Some (constant s.number) =
    symbol_grown old cx f (constant s.number) grown s.is_head in
    let there : AreImages cx.program.sig cx.names (ground_patterns us) s.images =
    subst (λ (ps : RulePatterns). AreImages cx.program.sig cx.names ps s.images) s.wholes
    (images_grown old cx (plain_patterns ws) s.images grown s.are_images) in
    let whole : image_of cx.program.sig cx.names (call f [] (ground_patterns us)) ≡ Some
    (applied_to (constant s.number) s.images) =
    ap (λ (q : Option Pattern). applied cx.program.sig cx.names q (ground_patterns us)) symbol_is
    ∙ applied_images cx.program.sig cx.names (ground_patterns us) s.images (constant s.number)
    there in
    let instances : AreNamedInstances cx.program.sig names h.variables theta (plain_patterns args)
    h.refs us =
    subst (λ (program : Program).
    AreNamedInstances program.sig names h.variables theta (plain_patterns args) h.refs us)
    (sym grown.program) (record {
      instances = h.are;
      low = named.1;
      bound = λ k p at. parts_bound theta k (plain_patterns args) p names at named.0;
    }) in
    let becomes : BecomesImage cx (filled_sentence theta (applied_sides names 0 (symbol f)
    (plain_patterns args))) (applied_to (constant s.number) s.images) o =
    subst (λ (qs : List Pattern). BecomesImage cx (filled_sentence theta (applied_sides names 0
    (symbol f) (plain_patterns args))) (applied_to (constant s.number) qs) o) are
    (subst (λ (q : Pattern). BecomesImage cx (filled_sentence theta (applied_sides names 0
    (symbol f) (plain_patterns args))) (applied_to q images) o) is_head
    (all h.variables theta h.refs us f instances s.wholes (s.is_head ∙ ap Some (sym is_head)))) in
    subst (λ (ts : Forest). AreEqualSides cx (filled_sentence theta (applied_sides names 0 (symbol f)
    (plain_patterns args))) (call f [] (ground_patterns ts)) o) same
    (equal_sides cx (filled_sentence theta (applied_sides names 0 (symbol f) (plain_patterns args)))
    (call f [] (ground_patterns us)) (applied_to (constant s.number) s.images) o whole
    (call_closed cx.program.sig cx.names f us (applied_to (constant s.number) s.images) whole)
    becomes)
  where
    one_forest : (x y : Forest) → Some x ≡ Some y → x ≡ y
    one_forest x y e = cc
