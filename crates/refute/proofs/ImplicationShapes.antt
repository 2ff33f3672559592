-- The parts of implications between applications and between conjunctions.
use Rattle.std.proofs.Common.{◌≡◌, sym, ◌∙◌, ap, subst}
use Rattle.ml_pat.specs.Patterns.{Pattern, imp, app, and, bot, not}
use Rattle.ml_kernel.specs.Theorems.{Theorem}
use Rattle.ml_derived.specs.Implications.{IsChain}
use Rattle.ml_derived.specs.Scopes.{Scope, IsOver}
use Rattle.refute.specs.Dropping.{IsApplied, AreDroppable, AreDroppableDenial}
use Rattle.refute.specs.Dropping.{IsOfNamed}

imp_left : (p q r s : Pattern) → imp p q ≡ imp r s → p ≡ r
imp_left p q r s h = cc

imp_right : (p q r s : Pattern) → imp p q ≡ imp r s → q ≡ s
imp_right p q r s h = cc

-- both implications were applied, one after the other
pub applied_is : (function argument k l m n first second made : Pattern) → function ≡ imp k l
    → argument ≡ imp m n → first ≡ imp (app k m) (app l m) → second ≡ imp (app l m) (app l n)
    → IsChain first second made → IsApplied function argument made
applied_is function argument k l m n first second made one other is is' chained f g a b says
    tells =
    let fk : k ≡ f = imp_left k l f g (sym one ∙ says) in
    let gl : l ≡ g = imp_right k l f g (sym one ∙ says) in
    let am : m ≡ a = imp_left m n a b (sym other ∙ tells) in
    let bn : n ≡ b = imp_right m n a b (sym other ∙ tells) in
    chained (app k m) (app l m) (app l n) is is'
    ∙ ap (λ (p : Pattern). imp (app p m) (app l n)) fk
    ∙ ap (λ (p : Pattern). imp (app f p) (app l n)) am
    ∙ ap (λ (p : Pattern). imp (app f a) (app p n)) gl
    ∙ ap (λ (p : Pattern). imp (app f a) (app g p)) bn

-- an implication proved from `top`
pub always_over : (s : Scope) (p : Pattern) (t : Theorem) → p ≡ t.conclusion → IsOver s t.conclusion
    → IsOver s p
always_over s p t is over = subst (IsOver s) (sym is) over

-- ---- denials

-- what was read of a denial
pub denial_read : (c h q t k r n : Pattern) → c ≡ imp h (not (and q t)) → c ≡ imp k r → r ≡ not n
    → (k ≡ h) × (n ≡ and q t)
denial_read c h q t k r n is outer inner = (
  imp_left k r h (not (and q t)) (sym outer ∙ is),
  denied_same n (and q t) (sym inner ∙ imp_right k r h (not (and q t)) (sym outer ∙ is)),
)
  where
    denied_same : (x y : Pattern) → not x ≡ not y → x ≡ y
    denied_same x y e = cc

-- the denial as an implication of `bot`
none_is : (denial none h q t k r n : Pattern) → denial ≡ imp h (not (and q t))
    → denial ≡ imp k r → r ≡ not n → none ≡ imp k (imp n bot)
    → none ≡ imp h (imp (and q t) bot)
none_is denial none h q t k r n is outer inner made =
    let both : (k ≡ h) × (n ≡ and q t) = denial_read denial h q t k r n is outer inner in
    made ∙ ap (λ (p : Pattern). imp p (imp n bot)) both.0
    ∙ ap (λ (p : Pattern). imp h (imp p bot)) both.1

pub droppable_none : (denial dropping none k r n : Pattern) → AreDroppableDenial denial dropping
    → denial ≡ imp k r → r ≡ not n → none ≡ imp k (imp n bot) → AreDroppable none dropping
droppable_none denial dropping none k r n (h, q, t, d, is, drops) outer inner made =
    (h, q, t, bot, d, none_is denial none h q t k r n is outer inner made, drops)

-- the denial with the names
pub named_none : (denial dropping none made h q t d k r n : Pattern)
    → denial ≡ imp h (not (and q t)) → dropping ≡ imp d q → denial ≡ imp k r → r ≡ not n
    → none ≡ imp k (imp n bot) → IsOfNamed none dropping made → made ≡ imp h (imp (and d t) bot)
named_none denial dropping none made h q t d k r n is drops outer inner says named =
    named h q t bot d (none_is denial none h q t k r n is outer inner says) drops

pub named_denial : (denial dropping none made whole h q t d k r n l rest common b : Pattern)
    → denial ≡ imp h (not (and q t)) → dropping ≡ imp d q → denial ≡ imp k r → r ≡ not n
    → none ≡ imp k (imp n bot) → IsOfNamed none dropping made → made ≡ imp l rest
    → rest ≡ imp common b → whole ≡ imp k (not common) → whole ≡ imp h (not (and d t))
named_denial denial dropping none made whole h q t d k r n l rest common b is drops outer inner
    says named split next last =
    let full : made ≡ imp h (imp (and d t) bot) =
    named_none denial dropping none made h q t d k r n is drops outer inner says named in
    let below : rest ≡ imp (and d t) bot =
    imp_right l rest h (imp (and d t) bot) (sym split ∙ full) in
    let same : common ≡ and d t =
    imp_left common b (and d t) bot (sym next ∙ below) in
    last ∙ ap (λ (p : Pattern). imp p (not common))
    (denial_read denial h q t k r n is outer inner).0
    ∙ ap (λ (p : Pattern). imp h (not p)) same
