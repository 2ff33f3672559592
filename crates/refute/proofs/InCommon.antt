-- What is said of a pattern and a term in common.
use Rattle.std.proofs.Common.{◌≡◌, Some, refl, sym, ◌∙◌, ap, subst}
use Rattle.ml_pat.specs.Patterns.{Pattern}
use Rattle.ml_pat.specs.Patterns as logic
use Rattle.ml_derived.specs.Scopes.{Scope, IsOver}
use Rattle.term_core.specs.Terms.{Tree}
use Rattle.term_core.specs.Patterns.{Pattern as RulePattern, ground_pattern}
use Rattle.ml_image.specs.Sentences.{term, top}
use Rattle.prove_term.specs.Contexts.{Context, HasContext, HasGrown}
use Rattle.refute.specs.Bindings.{SaysInCommon}
use Rattle.refute.specs.Refutations.{in_common}
use Rattle.refute.proofs.Conversions.{image_later}
use Rattle.refute.proofs.Shapes.{image_in}

pub top_in_common : (old new : Context) (h : Pattern) (p w : RulePattern) (t : Tree)
    (l r c : Pattern) → HasGrown old new → image_in old p ≡ Some l → image_in new w ≡ Some r
    → w ≡ ground_pattern t → c ≡ logic.imp (logic.and h (logic.and l r)) logic.top
    → SaysInCommon new h (in_common p t) top c
top_in_common old new h p w t l r c grown one other is says =
    let left : image_in new p ≡ Some l = image_later old new p l grown one in
    let right : image_in new (ground_pattern t) ≡ Some r = ap (image_in new) (sym is) ∙ other in
    record {
      common = logic.and l r;
      is_common = rw (left, right) refl;
      image = logic.top;
      is_image = refl;
      says = says;
    }

pub common_over : (cx : Context) (s : Scope) (h : Pattern) (p w : RulePattern) (l r c : Pattern)
    → HasContext s cx → IsOver s h → image_in cx p ≡ Some l → image_in cx w ≡ Some r
    → c ≡ logic.and h (logic.and l r) → IsOver s c
common_over cx s h p w l r c has over one other is =
    subst (IsOver s) (sym is) (over, (has.images (term p) l one, has.images (term w) r other))
