-- What the first theorem of a run says.
use Rattle.std.proofs.Common.{◌≡◌, ◌^◌, ℕ, List, [], ◌∷◌, Option, Some, None, refl, sym, ◌∙◌, ap}
use Rattle.std.proofs.Common.{subst}
use Rattle.ml_pat.specs.Patterns.{Pattern, imp, equal, ev, var}
use Rattle.ml_pat.specs.Judgements.{substituted}
use Rattle.ml_kernel.specs.Lemmas.{HasNoVariable}
use Rattle.ml_kernel.specs.Theorems.{Theorem}
use Rattle.ml_kernel.proofs.InstanceLaws.{substituted-without}
use Rattle.ml_derived.specs.Scopes.{StaysWithin}
use Rattle.ml_derived.specs.Equalities.{CanCarry, IsCarried}
use Rattle.term_core.specs.Terms.{Tree}
use Rattle.term_core.specs.Patterns.{Pattern as RulePattern, binding, ground_pattern}
use Rattle.rule_core.specs.Sorting.{HasSort}
use Rattle.rule_core.specs.WellSorted.{IsSignature, BindsVariablesOf}
use Rattle.rule_core.specs.declared.signature.Signature.{Signature}
use Rattle.ml_image.specs.HasImages.{HasImage}
use Rattle.ml_image.specs.Images.{image_of}
use Rattle.ml_image.specs.Sentences.{term}
use Rattle.ml_image.proofs.ImageLaws.{some_same}
use Rattle.ml_image.proofs.WellSortedLaws.{sorted_has_image}
use Rattle.prove_term.specs.Contexts.{Context, HasGrown, StaysIn}
use Rattle.prove_term.specs.Filling.{filled}
use Rattle.prove_term.specs.Values.{SaysValue}
use Rattle.prove_term.proofs.ContextLaws.{has_before}
use Rattle.prove_term.proofs.ComparingLaws.{image_closed}
use Rattle.prove_term.proofs.FillingLaws.{filled_nothing}
use Rattle.prove_schema.proofs.ElementLaws.{pattern_grown}
use Rattle.prove_fun.specs.Valuing.{HasImageOf}
use Rattle.proof_writer.specs.Writing.{HasNoVariables}
use Rattle.prove_run.specs.RunProof.{configuration}
use Rattle.prove_run.specs.Starting.{SaysReached}
use Rattle.prove_run.proofs.ContextLaws.{image_wherever, image_is_closed, sorted_has_none}
use Rattle.prove_run.proofs.ContextLaws.{ground_has_none}

-- ---- initial terms

pub start_has_image : (sig : Signature) (start : RulePattern) (sort : ℕ) → IsSignature sig
    → HasSort sig [] start sort → HasImage sig (2 ^ 32) start
start_has_image sig start sort ok sorted =
    image_wherever sig (2 ^ 32) start (sorted_has_image sig [] start sort ok sorted)

-- no variable is bound
nothing_bound : {P : Type 0} (x : ℕ) (t : Tree) → binding [] x ≡ Some t → P
nothing_bound x t e = absurd (let no : ⊥ = cc in no)

-- no variable needs to be bound
pub start_serves : (sig : Signature) (theta : List (Option Tree)) (start : RulePattern) (sort : ℕ)
    → theta ≡ [] → HasSort sig [] start sort → BindsVariablesOf sig [] theta start
start_serves sig theta start sort none sorted =
    subst (λ (s : List (Option Tree)). BindsVariablesOf sig [] s start) (sym none) (record {
      bound = λ x stands. absurd (sorted_has_none sig start sort sorted x stands);
      sorted = λ x t bound. nothing_bound x t bound;
      low = λ x t bound. nothing_bound x t bound;
    })

-- the configuration at which a proof begins has no variable
pub begun_has_none : (start : RulePattern) (value : Option Tree) → HasNoVariables start
    → HasNoVariables (configuration start value)
begun_has_none start None none = none
begun_has_none start (Some t) none = ground_has_none t

-- ---- the start reaches itself

pub itself_reached : (cx : Context) (start : RulePattern) (sort : ℕ) (here : Pattern) (t : Theorem)
    → IsSignature cx.program.sig → HasSort cx.program.sig [] start sort
    → image_of cx.program.sig cx.names start ≡ Some here → t.conclusion ≡ imp here (ev here)
    → SaysReached cx start start t
itself_reached cx start sort here t ok sorted image says =
    let closed : HasNoVariable here =
    image_is_closed cx.program.sig cx.names start here
    (sorted_has_image cx.program.sig [] start sort ok sorted) image in
    record {
      from = here;
      to = here;
      from_image = image;
      to_image = image;
      closed = (closed, closed);
      says = says;
    }

pub itself_stays : (cx : Context) (start : RulePattern) (here : Pattern) (t : Theorem)
    → image_of cx.program.sig cx.names start ≡ Some here → StaysWithin (here ∷ []) [] t
    → StaysIn cx t
itself_stays cx start here t image stays s has = stays s (has.images (term start) here image, tt) tt

-- ---- the start reaches its value

-- the start does not change when none of its variables is replaced
start_image : (old new : Context) (start : RulePattern) (theta : List (Option Tree))
    (itself : Theorem) → theta ≡ [] → HasGrown old new
    → (h : SaysReached old start start itself)
    → image_of new.program.sig new.names (filled theta start) ≡ Some h.to
start_image old new start theta itself none g h =
    ap (λ (s : List (Option Tree)). image_of new.program.sig new.names (filled s start)) none
    ∙ ap (image_of new.program.sig new.names) (filled_nothing start)
    ∙ pattern_grown old new start h.to g h.to_image

reached_as : (old new : Context) (start : RulePattern) (u : Tree) (itself t : Theorem)
    (to : Pattern) → HasGrown old new → (h : SaysReached old start start itself)
    → image_of new.program.sig new.names (ground_pattern u) ≡ Some to
    → t.conclusion ≡ imp h.from (ev to) → SaysReached new start (ground_pattern u) t
reached_as old new start u itself t to g h image says = record {
  from = h.from;
  to = to;
  from_image = pattern_grown old new start h.from g h.from_image;
  to_image = image;
  closed = (h.closed.0, image_closed new.program.sig new.names u to image);
  says = says;
}

pub same_reached : (old new : Context) (start : RulePattern) (theta : List (Option Tree)) (u : Tree)
    (itself : Theorem) → theta ≡ [] → HasGrown old new → SaysReached old start start itself
    → HasImageOf new theta start u → SaysReached new start (ground_pattern u) itself
same_reached old new start theta u itself none g h has =
    let same : h.to ≡ has.image =
    some_same h.to has.image
    (sym (start_image old new start theta itself none g h) ∙ has.left_image) in
    reached_as old new start u itself itself has.image g h has.right_image
    (h.says ∙ ap (λ (p : Pattern). imp h.from (ev p)) same)

-- the equality is between the image of the start and the image of its value
turned : (old new : Context) (start : RulePattern) (theta : List (Option Tree)) (u : Tree)
    (e itself : Theorem) → theta ≡ [] → HasGrown old new
    → (h : SaysReached old start start itself) → (is : SaysValue new theta start u e.conclusion)
    → e.conclusion ≡ equal h.to is.right
turned old new start theta u e itself none g h is =
    is.says
    ∙ ap (λ (p : Pattern). equal p is.right) (some_same is.left h.to
    (sym is.left_image ∙ start_image old new start theta itself none g h))

-- what `to_other` requires
pub can_turn : (old new : Context) (start : RulePattern) (theta : List (Option Tree)) (u : Tree)
    (e itself : Theorem) → theta ≡ [] → HasGrown old new → SaysReached old start start itself
    → SaysValue new theta start u e.conclusion
    → (p r q : Pattern) × (e.conclusion ≡ equal r q) × (itself.conclusion ≡ imp p (ev r))
    × HasNoVariable p
can_turn old new start theta u e itself none g h is =
    (h.from, h.to, is.right, turned old new start theta u e itself none g h is, h.says, h.closed.0)

pub other_reached : (old new : Context) (start : RulePattern) (theta : List (Option Tree))
    (u : Tree) (e itself t : Theorem) → theta ≡ [] → HasGrown old new
    → SaysReached old start start itself → SaysValue new theta start u e.conclusion
    → ((p r q : Pattern) → e.conclusion ≡ equal r q → itself.conclusion ≡ imp p (ev r)
    → t.conclusion ≡ imp p (ev q)) → SaysReached new start (ground_pattern u) t
other_reached old new start theta u e itself t none g h is turns =
    reached_as old new start u itself t is.right g h is.right_image
    (turns h.from h.to is.right (turned old new start theta u e itself none g h is) h.says)

pub other_stays : (old new : Context) (e itself t : Theorem) → HasGrown old new → StaysIn old itself
    → StaysIn new e → StaysWithin (var 0 ∷ []) (e ∷ itself ∷ []) t → StaysIn new t
other_stays old new e itself t g stays on_equality turned s has =
    turned s (has.objects 0, tt) (on_equality s has, (stays s (has_before old new s g has), tt))

-- ---- a context with a place

at_end : (p u : Pattern) → HasNoVariable p
    → substituted (imp p (ev (var 0))) 0 u ≡ Some (imp p (ev u))
at_end p u closed = rw (substituted-without p 0 u closed) refl

imp_parts : (p q r t : Pattern) → imp p q ≡ imp r t → (p ≡ r) × (q ≡ t)
imp_parts p q r t e = (cc, cc)

-- a reached pattern, and a pattern that equals it
pub record CanGoOn (e reached : Theorem) : Type 0 where
  pub from : Pattern
  pub to : Pattern
  pub other : Pattern
  pub equal_to : e.conclusion ≡ equal to other
  pub says : reached.conclusion ≡ imp from (ev to)
  pub closed : HasNoVariable from

-- the context with the place, as the code makes it
whole : (e reached : Theorem) (context before after : Pattern) (can : CanGoOn e reached)
    → reached.conclusion ≡ imp before after → context ≡ imp before (ev (var 0))
    → context ≡ imp can.from (ev (var 0))
whole e reached context before after can says is =
    is
    ∙ ap (λ (q : Pattern). imp q (ev (var 0)))
    (sym (imp_parts can.from (ev can.to) before after (sym can.says ∙ says)).0)

pub carry_on : (e reached : Theorem) (context before after : Pattern) → CanGoOn e reached
    → reached.conclusion ≡ imp before after → context ≡ imp before (ev (var 0))
    → CanCarry e.conclusion context 0 reached.conclusion
carry_on e reached context before after can says is =
    let at : (u : Pattern) → substituted context 0 u ≡ Some (imp can.from (ev u)) =
    λ u. ap (λ (q : Pattern). substituted q 0 u) (whole e reached context before after can says is)
    ∙ at_end can.from u can.closed in (
      can.to,
      (
        can.other,
        (
          imp can.from (ev can.other),
          (can.equal_to, (at can.to ∙ ap (λ (q : Pattern). Some q) (sym can.says), at can.other)),
        ),
      ),
    )

pub carried_on : (e reached t : Theorem) (context before after : Pattern) → CanGoOn e reached
    → reached.conclusion ≡ imp before after → context ≡ imp before (ev (var 0))
    → IsCarried e.conclusion context 0 t.conclusion → (p r q : Pattern) → e.conclusion ≡ equal r q
    → reached.conclusion ≡ imp p (ev r) → t.conclusion ≡ imp p (ev q)
carried_on e reached t context before after can says is carried p r q turns from =
    let same : can.from ≡ p = (imp_parts can.from (ev can.to) p (ev r) (sym can.says ∙ from)).0 in
    some_same t.conclusion (imp p (ev q)) (sym (carried r q turns)
    ∙ ap (λ (c : Pattern). substituted c 0 q) (whole e reached context before after can says is)
    ∙ at_end can.from q can.closed ∙ ap (λ (x : Pattern). Some (imp x (ev q))) same)
