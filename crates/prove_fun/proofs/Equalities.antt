-- Equalities: what stays true when a context grows, and what follows from them.
use Rattle.std.proofs.Common.{◌∷◌, [], Option, Some, None, refl, sym, ◌∙◌, ap, subst}
use Rattle.ml_pat.specs.Patterns.{Pattern, app, equal}
use Rattle.ml_kernel.specs.Lemmas.{HasNoVariable}
use Rattle.ml_kernel.specs.Theorems.{Theorem}
use Rattle.ml_derived.specs.Equalities.{AreJoinable, IsJoin}
use Rattle.term_core.specs.Terms.{Tree}
use Rattle.term_core.specs.Patterns.{Pattern as RulePattern, ground_pattern}
use Rattle.ml_image.specs.Sentences.{term}
use Rattle.prove_term.specs.Contexts.{Context, HasGrown, StaysInWith}
use Rattle.prove_term.specs.Applications.{HasClosedSides, SaysEqualTo, IsApplication}
use Rattle.prove_term.specs.Comparing.{IsOverContext}
use Rattle.prove_term.proofs.ContextLaws.{stays_grown, image_grown}
use Rattle.prove_term.proofs.ComparingLaws.{image_closed}
use Rattle.prove_fun.specs.Evaluating.{IsImage, SaysEqual, Equates, HasEqual}

pub says_grown : (a b : Context) (p q : Pattern) (t : Theorem) → HasGrown a b → SaysEqual a p q t
    → SaysEqual b p q t
says_grown a b p q t g h = record { says = h.says; stays = stays_grown a b t g h.stays }

pub equates_grown : (a b : Context) (p q : Pattern) (o : Option Theorem) → HasGrown a b
    → Equates a p q o → Equates b p q o
equates_grown a b p q None g h = h
equates_grown a b p q (Some t) g h = says_grown a b p q t g h

pub has_equal_grown : (a b : Context) (p : RulePattern) (image : Pattern) (o : Option Theorem)
    → HasGrown a b → HasEqual a p image o → HasEqual b p image o
has_equal_grown a b p image o g h =
    record {
      left = h.left;
      left_image = image_grown a b (term p) h.left g h.left_image;
      closed = h.closed;
      equates = equates_grown a b h.left image o g h.equates;
    }

-- the image of a term equals itself
pub equals_itself : (cx : Context) (t : Tree) (image : Pattern)
    → IsImage cx (ground_pattern t) image → HasEqual cx (ground_pattern t) image None
equals_itself cx t image is = record {
  left = image;
  left_image = is;
  closed = image_closed cx.program.sig cx.names t image is;
  equates = refl;
}

pub says_equal_to : (cx : Context) (p q : Pattern) (o : Option Theorem) → HasNoVariable p
    → Equates cx p q o → SaysEqualTo q o
says_equal_to cx p q None closed h = tt
says_equal_to cx p q (Some t) closed h = (p, h.says, closed)

-- ---- applications

pub application : (cx : Context) (f g a b : Pattern) (d e o : Option Theorem) → IsOverContext cx g
    → IsOverContext cx b → Equates cx f g d → Equates cx a b e → IsApplication cx g b d e o
    → Equates cx (app f a) (app g b) o
application cx f g a b None None o over_g over_b function argument is =
    subst (Equates cx (app f a) (app g b)) (sym is)
    (ap (λ (x : Pattern). app x a) function ∙ ap (app g) argument)
application cx f g a b (Some d) None o over_g over_b function argument is =
    subst (Equates cx (app f a) (app g b)) (sym is.is) (record {
      says = is.says f g function.says
          ∙ ap (λ (x : Pattern). equal (app f x) (app g b)) (sym argument);
      stays = λ s has. is.stays s has (over_b s has, tt) (function.stays s has, tt);
    })
application cx f g a b None (Some e) o over_g over_b function argument is =
    subst (Equates cx (app f a) (app g b)) (sym is.is) (record {
      says = is.says a b argument.says
          ∙ ap (λ (x : Pattern). equal (app x a) (app g b)) (sym function);
      stays = λ s has. is.stays s has (over_g s has, tt) (argument.stays s has, tt);
    })
application cx f g a b (Some d) (Some e) o over_g over_b function argument is =
    subst (Equates cx (app f a) (app g b)) (sym is.is) (record {
      says = is.says f g a b function.says argument.says;
      stays =
          λ s has. is.stays s has tt (function.stays s has, (argument.stays s has, tt));
    })

-- ---- one after another

pub joinable : (cx : Context) (a b c : Pattern) (d e : Theorem) → HasNoVariable a
    → SaysEqual cx a b d → SaysEqual cx b c e → AreJoinable d.conclusion e.conclusion
joinable cx a b c d e closed first second = (a, (b, (c, (first.says, (second.says, closed)))))

pub closed_sides : (cx : Context) (a b : Pattern) (e : Theorem) → HasNoVariable a → HasNoVariable b
    → SaysEqual cx a b e → HasClosedSides e.conclusion
closed_sides cx a b e left right says = (a, (b, (says.says, (left, right))))

pub joined_says : (old cx : Context) (a b c : Pattern) (d e t : Theorem) → HasGrown old cx
    → SaysEqual old a b d → SaysEqual old b c e → IsJoin d.conclusion e.conclusion t.conclusion
    → StaysInWith cx [] (d ∷ e ∷ []) t → SaysEqual cx a c t
joined_says old cx a b c d e t g first second is stays =
    record {
      says = is a b c first.says second.says;
      stays = λ s has.
          stays s has tt (
            stays_grown old cx d g first.stays s has,
            (stays_grown old cx e g second.stays s has, tt),
          );
    }
