-- Injections of patterns, and the terms that they become.
use Rattle.std.proofs.Common.{◌≡◌, ℕ, List, [], ◌∷◌, Option, Some, None, option_map, refl, sym, ◌∙◌}
use Rattle.std.proofs.Common.{ap, subst}
use Rattle.std.specs.Prelude.{◌≢◌}
use Rattle.ml_pat.specs.Patterns.{Pattern, app, at_sort, constant, equal, fun}
use Rattle.ml_kernel.specs.Theorems.{Theorem}
use Rattle.ml_derived.specs.Scopes.{IsOver}
use Rattle.ml_derived.proofs.RuleLaws.{lemma_within}
use Rattle.ml_derived.specs.Equalities.{IsJoin}
use Rattle.term_core.specs.Terms.{Tree, inj, injected}
use Rattle.term_core.specs.Patterns.{Pattern as RulePattern, injection, ground_pattern}
use Rattle.term_core.specs.Instances.{substituted}
use Rattle.rule_core.specs.Sorting.{HasSort, IsTermOf}
use Rattle.rule_core.specs.Subsorts.{IsBelow}
use Rattle.rule_core.specs.WellSorted.{IsSignature}
use Rattle.rule_core.specs.declared.signature.Signature.{Signature}
use Rattle.rule_core.proofs.SortedInstances.{instance_is_sorted}
use Rattle.ml_image.specs.Images.{both, image_of, injection_image}
use Rattle.ml_image.specs.Sentences.{term}
use Rattle.ml_image.proofs.ImageLaws.{some_same}
use Rattle.ml_image.proofs.WellSortedLaws.{sorted_has_image}
use Rattle.prove_term.specs.Contexts.{Context, HasGrown, StaysIn, StaysInWith}
use Rattle.prove_term.specs.Injections.{IsCollapseAt}
use Rattle.prove_term.specs.Numbered.{inject, HasEnds}
use Rattle.prove_term.specs.InjectionTables.{InjectsBelow}
use Rattle.prove_term.specs.Carrying.{Collapses, CollapsesTo, CollapsesBy}
use Rattle.prove_term.specs.Elements.{IsElement, IsElementAt}
use Rattle.prove_term.specs.Comparing.{IsInstance, MakesTerm, IsJoined, IsCompared, IsFactOn}
use Rattle.prove_term.specs.Comparing.{IsOnce}
use Rattle.prove_term.specs.Applications.{IsApplication}
use Rattle.prove_term.proofs.ContextLaws.{image_grown, stays_grown, contains_there}
use Rattle.prove_term.proofs.KeptLaws.{sort_grown}
use Rattle.prove_term.proofs.ImageShapes.{both_some}
use Rattle.prove_term.proofs.InjectionShapes.{injection_made, head_made}
use Rattle.prove_term.proofs.InjectionSteps.{collapse_over}
use Rattle.prove_term.proofs.ComparingLaws.{image_closed, closed-injection, ground_injection}
use Rattle.prove_term.proofs.ComparingLaws.{injected_of, injected_is, injection_moved}
use Rattle.prove_term.proofs.ComparingLaws.{injection_stayed}

-- ---- the image of an injection

-- what is applied, and to what
pub record HasHalves (cx : Context) (a b : ℕ) (w : RulePattern) (head argument : Pattern) :
    Type 0 where
  pub is_head : injection_image cx.program.sig cx.names a b ≡ Some head
  pub is_argument : image_of cx.program.sig cx.names w ≡ Some argument

same_app : (f g a b : Pattern) → app f a ≡ app g b → (f ≡ g) × (a ≡ b)
same_app f g a b h = (cc, cc)

pub halves_of : (cx : Context) (a b : ℕ) (w : RulePattern) (image head argument : Pattern)
    → image_of cx.program.sig cx.names (injection a b w) ≡ Some image → image ≡ app head argument
    → HasHalves cx a b w head argument
halves_of cx a b w image head argument is split =
    let o : (x : Pattern) × (y : Pattern) × (injection_image cx.program.sig cx.names a b ≡ Some x) ×
    (image_of cx.program.sig cx.names w ≡ Some y) × (image ≡ app x y) =
    both_some app (injection_image cx.program.sig cx.names a b) (image_of cx.program.sig cx.names w)
    image is in
    let same : (o.0 ≡ head) × (o.1 ≡ argument) = same_app o.0 head o.1 argument (sym o.4 ∙ split) in
    record {
      is_head = o.2 ∙ ap (λ (p : Pattern). Some p) same.0;
      is_argument = o.3 ∙ ap (λ (p : Pattern). Some p) same.1;
    }

pub halves_there : (cx : Context) (a b : ℕ) (w : RulePattern) (image : Pattern)
    → image_of cx.program.sig cx.names (injection a b w) ≡ Some image
    → (f : Pattern) × (q : Pattern) × (image ≡ app f q)
halves_there cx a b w image is =
    let o : (x : Pattern) × (y : Pattern) × (injection_image cx.program.sig cx.names a b ≡ Some x) ×
    (image_of cx.program.sig cx.names w ≡ Some y) × (image ≡ app x y) =
    both_some app (injection_image cx.program.sig cx.names a b) (image_of cx.program.sig cx.names w)
    image is in
    (o.0, o.1, o.4)

pub applied_image : (cx : Context) (a b : ℕ) (w : RulePattern) (head argument : Pattern)
    → injection_image cx.program.sig cx.names a b ≡ Some head
    → image_of cx.program.sig cx.names w ≡ Some argument
    → image_of cx.program.sig cx.names (injection a b w) ≡ Some (app head argument)
applied_image cx a b w head argument h k =
    ap (λ (o : Option Pattern). both app o (image_of cx.program.sig cx.names w)) h
    ∙ ap (both app (Some head)) k

-- ---- an injection that stays one

same_injected : (a b : ℕ) (t u : Tree) → inj a b t ≡ inj a b u → t ≡ u
same_injected a b t u h = cc

pub stays_injected : (cx : Context) (theta : List (Option Tree)) (a b : ℕ) (p : RulePattern)
    (v : Tree) (head argument : Pattern) (one o : Option Theorem)
    → IsCompared cx theta p v argument one
    → image_of cx.program.sig cx.names (ground_pattern (inj a b v)) ≡ Some (app head argument)
    → IsApplication cx head argument None one o
    → IsCompared cx theta (injection a b p) (inj a b v) (app head argument) o
stays_injected cx theta a b p v head argument None o same is made =
    subst (λ (x : Option Theorem).
    IsCompared cx theta (injection a b p) (inj a b v) (app head argument) x) (sym made)
    (ap (option_map (inj a b)) same)
stays_injected cx theta a b p v head argument (Some e) o joined is made =
    let split : HasHalves cx a b (ground_pattern v) head argument =
    halves_of cx a b (ground_pattern v) (app head argument) head argument is refl in
    subst (λ (x : Option Theorem).
    IsCompared cx theta (injection a b p) (inj a b v) (app head argument) x) (sym made.is)
    (record {
      written = inj a b joined.written;
      is_written = ap (option_map (inj a b)) joined.is_written;
      differs = λ same. joined.differs (same_injected a b joined.written v same);
      left = app head joined.left;
      is_left =
          applied_image cx a b (ground_pattern joined.written) head joined.left split.is_head
          joined.is_left;
      closed = (closed-injection cx.program.sig cx.names a b head split.is_head, joined.closed);
      says = made.says joined.left argument joined.says;
      stays =
          λ s has. made.stays s has (
            (has.images (term (ground_pattern (inj a b v))) (app head argument) is).0,
            tt,
          ) (joined.stays s has, tt);
    })

-- ---- an injection that becomes one from a lower sort

pub fact_grown : (old new : Context) (w : RulePattern) (sort : ℕ) (fact : Theorem)
    → HasGrown old new → IsFactOn old w sort fact → IsFactOn new w sort fact
fact_grown old new w sort fact g h = record {
  image = h.image;
  is_image = image_grown old new (term w) h.image g h.is_image;
  number = h.number;
  is_number = sort_grown old new sort h.number g h.is_number;
  says = h.says;
  closed = h.closed;
  no_hypotheses = h.no_hypotheses;
  stays = stays_grown old new fact g h.stays;
}

pub fact_collapses : (cx : Context) (a b d k : ℕ) (w : RulePattern) (fact : Theorem)
    (at : IsCollapseAt cx a b d k) (on : IsFactOn cx w a fact)
    → Collapses at.is.ends.symbol at.is.ends.lower at.is.ends.upper at.is.last on.image at.lemma
    fact
fact_collapses cx a b d k w fact at on =
    let number : on.number ≡ at.is.ends.lower =
    some_same on.number at.is.ends.lower (sym on.is_number ∙ at.is.ends.is_lower) in
    record { says = at.is.says; proved = on.says ∙ ap (fun on.image) number; closed = on.closed }

pub once_of : (cx : Context) (a b d k : ℕ) (w : RulePattern) (fact once : Theorem)
    (at : IsCollapseAt cx a b d k) → IsFactOn cx w a fact → CollapsesTo at.lemma fact once
    → CollapsesBy at.lemma fact once → IsOnce cx a b d w once
once_of cx a b d k w fact once at on to by =
    let e : HasEnds cx.program.sig cx.names a b = at.is.ends in
    let collapses : Collapses e.symbol e.lower e.upper at.is.last on.image at.lemma fact =
    fact_collapses cx a b d k w fact at on in
    let upper : HasEnds cx.program.sig cx.names b d =
    record {
      symbol = e.symbol;
      is_symbol = e.is_symbol;
      lower = e.upper;
      is_lower = e.is_upper;
      upper = at.is.last;
      is_upper = at.is.is_last;
    } in
    let far : HasEnds cx.program.sig cx.names a d =
    record {
      symbol = e.symbol;
      is_symbol = e.is_symbol;
      lower = e.lower;
      is_lower = e.is_lower;
      upper = at.is.last;
      is_upper = at.is.is_last;
    } in
    let concludes : once.conclusion ≡ equal
    (inject e.symbol e.upper at.is.last (inject e.symbol e.lower e.upper on.image))
    (inject e.symbol e.lower at.is.last on.image) =
    to e.symbol e.lower e.upper at.is.last on.image collapses in
    record {
      head = at_sort (at_sort (constant e.symbol) e.upper) at.is.last;
      is_head = head_made cx.program.sig cx.names b d upper;
      middle = inject e.symbol e.lower e.upper on.image;
      is_middle =
          injection_made cx.program.sig cx.names a b e (image_of cx.program.sig cx.names w) on.image
          on.is_image;
      last = inject e.symbol e.lower at.is.last on.image;
      is_last =
          injection_made cx.program.sig cx.names a d far (image_of cx.program.sig cx.names w)
          on.image on.is_image;
      says = concludes;
      stays = λ s has.
          lemma_within s at.lemma (on.image ∷ []) (fact ∷ []) once
          (by e.symbol e.lower e.upper at.is.last on.image collapses)
          (has.lemmas at.lemma (contains_there cx.lemmas k at.lemma at.there))
          (has.images (term w) on.image on.is_image, tt) (subst (IsOver s) (sym concludes)
          (collapse_over s cx a b d at.lemma at.is on.image has
          (has.images (term w) on.image on.is_image))) (on.stays s has, tt);
    }

pub once_grown : (old new : Context) (a b d : ℕ) (w : RulePattern) (once : Theorem)
    (o : IsOnce old a b d w once) → HasGrown old new → IsOnce new a b d w once
once_grown old new a b d w once o g =
    let both_images : image_of old.program.sig old.names (injection b d (injection a b w)) ≡ Some
    (app o.head o.middle) =
    applied_image old b d (injection a b w) o.head o.middle o.is_head o.is_middle in
    let split : HasHalves new b d (injection a b w) o.head o.middle =
    halves_of new b d (injection a b w) (app o.head o.middle) o.head o.middle (image_grown old new
    (term (injection b d (injection a b w))) (app o.head o.middle) g both_images) refl in
    record {
      head = o.head;
      is_head = split.is_head;
      middle = o.middle;
      is_middle = split.is_argument;
      last = o.last;
      is_last = image_grown old new (term (injection a d w)) o.last g o.is_last;
      says = o.says;
      stays = stays_grown old new once g o.stays;
    }

-- no injection from b is one from a
other_sort : (a b d : ℕ) (t v : Tree) → a ≢ b → inj b d t ≢ inj a d v
other_sort a b d t v apart same = let lower : a ≡ b = cc in apart lower

pub joined_here : (cx : Context) (theta : List (Option Tree)) (a b d : ℕ) (p : RulePattern)
    (v : Tree) (image : Pattern) (once : Theorem) (o : IsOnce cx a b d (ground_pattern v) once)
    → a ≢ b → image_of cx.program.sig cx.names (ground_pattern (inj a d v)) ≡ Some image
    → substituted theta p ≡ Some (inj a b v)
    → IsJoined cx theta (injection b d p) (inj a d v) image once
joined_here cx theta a b d p v image once o apart is same =
    let last : o.last ≡ image = some_same o.last image (sym o.is_last ∙ is) in
    record {
      written = inj b d (inj a b v);
      is_written = ap (option_map (inj b d)) same;
      differs = other_sort a b d (inj a b v) v apart;
      left = app o.head o.middle;
      is_left =
          applied_image cx b d (injection a b (ground_pattern v)) o.head o.middle o.is_head
          o.is_middle;
      closed = (
        closed-injection cx.program.sig cx.names b d o.head o.is_head,
        image_closed cx.program.sig cx.names (inj a b v) o.middle o.is_middle,
      );
      says = o.says ∙ ap (equal (app o.head o.middle)) last;
      stays = o.stays;
    }

pub joined_further : (cx : Context) (theta : List (Option Tree)) (a b d : ℕ) (p : RulePattern)
    (v : Tree) (image : Pattern) (once one e t : Theorem)
    (o : IsOnce cx a b d (ground_pattern v) once) → a ≢ b
    → image_of cx.program.sig cx.names (ground_pattern (inj a d v)) ≡ Some image
    → (j : IsJoined cx theta p (inj a b v) o.middle one)
    → e.conclusion ≡ equal (app o.head j.left) (app o.head o.middle) → StaysIn cx e
    → IsJoin e.conclusion once.conclusion t.conclusion
    → StaysInWith cx [] (e ∷ (once ∷ [])) t
    → IsJoined cx theta (injection b d p) (inj a d v) image t
joined_further cx theta a b d p v image once one e t o apart is j says stays join within =
    let last : o.last ≡ image = some_same o.last image (sym o.is_last ∙ is) in
    record {
      written = inj b d j.written;
      is_written = ap (option_map (inj b d)) j.is_written;
      differs = other_sort a b d j.written v apart;
      left = app o.head j.left;
      is_left = applied_image cx b d (ground_pattern j.written) o.head j.left o.is_head j.is_left;
      closed = (closed-injection cx.program.sig cx.names b d o.head o.is_head, j.closed);
      says = join (app o.head j.left) (app o.head o.middle) o.last says o.says
          ∙ ap (equal (app o.head j.left)) last;
      stays = λ s has. within s has tt (stays s has, (o.stays s has, tt));
    }

-- ---- results of injections

pub moved_made : (sig : Signature) (a b d e : ℕ) (p w : RulePattern)
    → MakesTerm sig (injection b d p) (injection a e w) → a ≢ b
    → (e ≡ d) × IsBelow sig.subsorts a b × MakesTerm sig p (injection a b w)
moved_made sig a b d e p w (variables, theta, sort, u, h, is) apart =
    let tree : (v : Tree) × (u ≡ inj a e v) × (w ≡ ground_pattern v) =
    ground_injection a e w u is in
    let m : (e ≡ d) × IsBelow sig.subsorts a b × IsInstance sig variables theta p b
    (inj a b tree.0) =
    injection_moved sig variables theta a b d e p sort tree.0
    (subst (λ (t : Tree). IsInstance sig variables theta (injection b d p) sort t) tree.1 h)
    apart in
    (m.0, m.1, (variables, theta, b, inj a b tree.0, m.2, ap (injection a b) tree.2))

pub stayed_made : (sig : Signature) (b d e : ℕ) (p w : RulePattern) → IsSignature sig
    → MakesTerm sig (injection b d p) (injection b e w) → (e ≡ d) × MakesTerm sig p w
stayed_made sig b d e p w ok (variables, theta, sort, u, h, is) =
    let tree : (v : Tree) × (u ≡ inj b e v) × (w ≡ ground_pattern v) =
    ground_injection b e w u is in
    let m : (e ≡ d) × IsInstance sig variables theta p b tree.0 =
    injection_stayed sig variables theta b d e p sort tree.0 ok
    (subst (λ (t : Tree). IsInstance sig variables theta (injection b d p) sort t) tree.1 h) in
    (m.0, (variables, theta, b, tree.0, m.1, tree.2))

-- an injection becomes an injection
pub made_injection : (sig : Signature) (b d : ℕ) (p w : RulePattern)
    → MakesTerm sig (injection b d p) w
    → (a : ℕ) × (v : Tree) × (w ≡ injection a d (ground_pattern v))
made_injection sig b d p w (variables, theta, sort, u, h, is) =
    let from : (t : Tree) × (injected b d t ≡ u) × IsInstance sig variables theta p b t × IsTermOf
    sig t b =
    injected_of sig variables theta b d p sort u h in
    let at : (a : ℕ) × (v : Tree) × (injected b d from.0 ≡ inj a d v) = injected_is b d from.0 in
    (at.0, at.1, is ∙ ap ground_pattern (sym from.1 ∙ at.2))

-- the result goes to the same sort
pub same_end : (sig : Signature) (b d a e : ℕ) (p base w : RulePattern)
    → MakesTerm sig (injection b d p) w → w ≡ injection a e base → e ≡ d
same_end sig b d a e p base w h is =
    let m : (x : ℕ) × (v : Tree) × (w ≡ injection x d (ground_pattern v)) =
    made_injection sig b d p w h in
    ends a m.0 e d base (ground_pattern m.1) (sym is ∙ m.2)
  where
    ends : (a x e d : ℕ) (p q : RulePattern) → injection a e p ≡ injection x d q → e ≡ d
    ends a x e d p q same = cc

-- the signature has an injection symbol, and the sort b is below d
pub moved_reaches : (sig : Signature) (b d : ℕ) (p w : RulePattern) → IsSignature sig
    → MakesTerm sig (injection b d p) w → InjectsBelow sig b d
moved_reaches sig b d p w ok (variables, theta, sort, u, h, is) = record {
  signature = ok;
  symbol = (sorted_has_image sig variables (injection b d p) sort ok h.sorted).0;
  below = h.sorted.2;
}

-- the injected term has its sort
pub base_sorted : (sig : Signature) (p : RulePattern) (a d : ℕ) (w : RulePattern)
    → MakesTerm sig p (injection a d w) → (v : Tree) × (w ≡ ground_pattern v) × HasSort sig [] w a
base_sorted sig p a d w (variables, theta, sort, u, h, is) =
    let tree : (v : Tree) × (u ≡ inj a d v) × (w ≡ ground_pattern v) =
    ground_injection a d w u is in
    let sorted : IsTermOf sig (inj a d tree.0) sort =
    subst (λ (t : Tree). IsTermOf sig t sort) tree.1
    (instance_is_sorted sig variables p sort theta u h.sorted h.respects h.makes).0 in
    (tree.0, tree.2, subst (λ (q : RulePattern). HasSort sig [] q a) (sym tree.2) sorted.3)

pub fact_of : (cx : Context) (w : RulePattern) (a : ℕ) (fact : Theorem)
    → HasSort cx.program.sig [] w a → IsElement cx w fact.conclusion → fact.hypotheses ≡ []
    → StaysIn cx fact → IsFactOn cx w a fact
fact_of cx w a fact sorted element none stays =
    let at : IsElementAt cx w a fact.conclusion = element a sorted in
    record {
      image = at.image;
      is_image = at.is_image;
      number = at.number;
      is_number = at.is_number;
      says = at.says;
      closed = at.no_variable;
      no_hypotheses = none;
      stays = stays;
    }
