-- What the functions that compare patterns with their terms get from each other.
use Rattle.std.proofs.Common.{◌≡◌, ℕ, List, [], ◌∷◌, Option, Some, None, option_map, length, sym}
use Rattle.std.proofs.Common.{◌∙◌, ap, subst}
use Rattle.std.specs.Prelude.{◌≢◌, IfSome}
use Rattle.ml_pat.specs.Patterns.{Pattern, app, constant, equal}
use Rattle.ml_kernel.specs.Lemmas.{HasNoVariable}
use Rattle.ml_kernel.specs.Theorems.{Theorem}
use Rattle.ml_derived.specs.Equalities.{AreJoinable, IsJoin}
use Rattle.term_core.specs.Terms.{Tree, Forest, node, inj, DomainValue}
use Rattle.term_core.specs.Patterns.{Pattern as RulePattern, Patterns as RulePatterns, variable}
use Rattle.term_core.specs.Patterns.{domain_value, application, injection, call, instance_of}
use Rattle.term_core.specs.Patterns.{ground_pattern, ground_patterns}
use Rattle.term_core.specs.Instances.{substituted}
use Rattle.term_core.specs.PatternLists.{plain_patterns}
use Rattle.term_core.specs.declared.rule_patterns.RulePat.{RulePat}
use Rattle.rule_core.specs.Subsorts.{IsBelow}
use Rattle.rule_core.specs.WellSorted.{IsSignature}
use Rattle.rule_core.specs.declared.signature.Signature.{Signature}
use Rattle.rule_core.specs.declared.signature.SortRef.{SortRef}
use Rattle.rule_core.specs.declared.rules.Program.{Program}
use Rattle.ml_image.specs.Images.{image_of, applied, symbol_image}
use Rattle.ml_image.specs.Sentences.{symbol, term}
use Rattle.ml_image.proofs.ImageLaws.{none_some}
use Rattle.prove_term.specs.Contexts.{Context, HasGrown, StaysIn, StaysInWith}
use Rattle.prove_term.specs.Schemas.{AreImages}
use Rattle.prove_term.specs.Applications.{HasClosedSides, applied_to, IsApplication}
use Rattle.prove_term.specs.EqualImages.{SaysEqualImages}
use Rattle.prove_term.specs.Comparing.{IsInstance, AreInstances, MakesTerm, MakeTerms, IsJoined}
use Rattle.prove_term.specs.Comparing.{IsCompared, Compares, AreCompared, AllCompare, IsOverContext}
use Rattle.prove_term.specs.Comparing.{IsOnce}
use Rattle.prove_term.proofs.ContextLaws.{image_grown, has_before, stays_grown}
use Rattle.prove_term.proofs.EqualityChains.{stays_with_grown}
use Rattle.prove_term.proofs.KeptLaws.{symbol_grown}
use Rattle.prove_term.proofs.ImageShapes.{applied_images}
use Rattle.prove_term.proofs.ComparingLaws.{image_closed, closed-injection, application_image}
use Rattle.prove_term.proofs.ComparingLaws.{arguments_of, ground_injection, as_many_images}
use Rattle.prove_term.proofs.ComparingLaws.{as_many_made, injection_stayed, injection_moved}
use Rattle.prove_term.proofs.ComparingInjections.{stays_injected, applied_image}
use Rattle.prove_term.proofs.ComparingInjections.{joined_here, joined_further}

-- ---- patterns that stay as they are written

pub variable_compares : (cx : Context) (x : ℕ) (w : RulePattern) (image : Pattern)
    → Compares cx (variable x) w image None
variable_compares cx x w image = λ variables theta sort u h is. h.makes

pub value_compares : (cx : Context) (s : ℕ) (v : DomainValue) (w : RulePattern) (image : Pattern)
    → Compares cx (domain_value s v) w image None
value_compares cx s v w image = λ variables theta sort u h is. h.makes

pub call_makes_nothing : (sig : Signature) (f : ℕ) (ss : List ℕ) (ps : RulePatterns)
    (w : RulePattern) → MakesTerm sig (call f ss ps) w → ⊥
call_makes_nothing sig f ss ps w (variables, theta, sort, u, h, is) = none_some u h.makes

-- ---- a context that grows

pub made_closed : (cx : Context) (p w : RulePattern) (q : Pattern) → MakesTerm cx.program.sig p w
    → image_of cx.program.sig cx.names w ≡ Some q → HasNoVariable q
made_closed cx p w q (variables, theta, sort, u, h, ground) is =
    image_closed cx.program.sig cx.names u q
    (ap (image_of cx.program.sig cx.names) (sym ground) ∙ is)

joined_grown : (a b : Context) (theta : List (Option Tree)) (p : RulePattern) (u : Tree)
    (image : Pattern) (t : Theorem) → HasGrown a b → IsJoined a theta p u image t
    → IsJoined b theta p u image t
joined_grown a b theta p u image t g h = record {
  written = h.written;
  is_written = h.is_written;
  differs = h.differs;
  left = h.left;
  is_left = image_grown a b (term (ground_pattern h.written)) h.left g h.is_left;
  closed = h.closed;
  says = h.says;
  stays = stays_grown a b t g h.stays;
}

compared_grown : (a b : Context) (theta : List (Option Tree)) (p : RulePattern) (u : Tree)
    (image : Pattern) (o : Option Theorem) → HasGrown a b → IsCompared a theta p u image o
    → IsCompared b theta p u image o
compared_grown a b theta p u image None g h = h
compared_grown a b theta p u image (Some t) g h = joined_grown a b theta p u image t g h

pub compares_grown : (a b : Context) (p w : RulePattern) (image : Pattern) (o : Option Theorem)
    → HasGrown a b → Compares a p w image o → Compares b p w image o
compares_grown a b p w image o g h = λ variables theta sort u instance is.
    compared_grown a b theta p u image o g (h variables theta sort u
    (subst (λ (program : Program). IsInstance program.sig variables theta p sort u) g.program
    instance) is)

pub application_grown : (a b : Context) (f q : Pattern) (d e o : Option Theorem) → HasGrown a b
    → IsApplication a f q d e o → IsApplication b f q d e o
application_grown a b f q None None o g h = h
application_grown a b f q (Some d) None o g h = record {
  made = h.made;
  is = h.is;
  says = h.says;
  stays = stays_with_grown a b (q ∷ []) (d ∷ []) h.made g h.stays;
}
application_grown a b f q None (Some e) o g h = record {
  made = h.made;
  is = h.is;
  says = h.says;
  stays = stays_with_grown a b (f ∷ []) (e ∷ []) h.made g h.stays;
}
application_grown a b f q (Some d) (Some e) o g h = record {
  made = h.made;
  is = h.is;
  says = h.says;
  stays = stays_with_grown a b [] (d ∷ e ∷ []) h.made g h.stays;
}

-- ---- constructors

pub made_application : (sig : Signature) (f : ℕ) (ps : RulePatterns) (w : RulePattern)
    → MakesTerm sig (application f ps) w → (us : Forest) × (w ≡ application f (ground_patterns us))
made_application sig f ps w (variables, theta, sort, u, h, is) =
    let parts : (refs : List SortRef) × (us : Forest) × (u ≡ node f us) × AreInstances sig variables
    theta ps refs us =
    arguments_of sig variables theta f ps sort u h in
    (parts.1, is ∙ ap ground_pattern parts.2)

pub made_arguments : (sig : Signature) (f g : ℕ) (ps ws : RulePatterns)
    → MakesTerm sig (application f ps) (application g ws) → MakeTerms sig ps ws
made_arguments sig f g ps ws (variables, theta, sort, u, h, is) =
    let parts : (refs : List SortRef) × (us : Forest) × (u ≡ node f us) × AreInstances sig variables
    theta ps refs us =
    arguments_of sig variables theta f ps sort u h in (
      variables,
      theta,
      parts.0,
      parts.1,
      parts.3,
      same_arguments g f ws (ground_patterns parts.1) (is ∙ ap ground_pattern parts.2),
    )
  where
    same_arguments : (g f : ℕ) (ws vs : RulePatterns) → application g ws ≡ application f vs
        → ws ≡ vs
    same_arguments g f ws vs e = cc

constructor_compared : (cx : Context) (theta : List (Option Tree)) (f c : ℕ) (ps : RulePatterns)
    (us : Forest) (qs : List Pattern) (image : Pattern) (o : Option Theorem)
    → symbol_image cx.program.sig cx.names f ≡ Some (constant c)
    → image ≡ applied_to (constant c) qs → AreCompared cx theta ps us (constant c) qs o
    → IsCompared cx theta (application f ps) (node f us) image o
constructor_compared cx theta f c ps us qs image None head is same = ap (option_map (node f)) same
constructor_compared cx theta f c ps us qs image (Some t) head is joined = record {
  written = node f joined.written;
  is_written = ap (option_map (node f)) joined.are_written;
  differs = λ same. joined.differ (same_trees joined.written us same);
  left = applied_to (constant c) joined.lefts;
  is_left =
      ap (λ (o : Option Pattern).
      applied cx.program.sig cx.names o (ground_patterns joined.written)) head
      ∙ applied_images cx.program.sig cx.names (ground_patterns joined.written) joined.lefts
      (constant c) joined.are_lefts;
  closed = joined.closed;
  says = joined.says ∙ ap (equal (applied_to (constant c) joined.lefts)) (sym is);
  stays = joined.stays;
}
  where
    same_trees : (ts us : Forest) → node f ts ≡ node f us → ts ≡ us
    same_trees ts us e = cc

pub constructor_compares : (cx : Context) (f g c : ℕ) (ps ws : RulePatterns) (qs : List Pattern)
    (image : Pattern) (o : Option Theorem)
    → symbol_image cx.program.sig cx.names g ≡ Some (constant c)
    → image ≡ applied_to (constant c) qs → AllCompare cx ps ws (constant c) qs o
    → Compares cx (application f ps) (application g ws) image o
constructor_compares cx f g c ps ws qs image o head is all = λ variables theta sort u h ground.
    let parts : (refs : List SortRef) × (us : Forest) × (u ≡ node f us) × AreInstances
    cx.program.sig variables theta ps refs us =
    arguments_of cx.program.sig variables theta f ps sort u h in
    let same : application g ws ≡ application f (ground_patterns parts.1) =
    ground ∙ ap ground_pattern parts.2 in
    let symbols : g ≡ f = symbol_same g f ws (ground_patterns parts.1) same in
    let arguments : ws ≡ ground_patterns parts.1 =
    arguments_same g f ws (ground_patterns parts.1) same in
    subst (λ (t : Tree). IsCompared cx theta (application f ps) t image o) (sym parts.2)
    (constructor_compared cx theta f c ps parts.1 qs image o
    (ap (symbol_image cx.program.sig cx.names) (sym symbols) ∙ head) is
    (all variables theta parts.0 parts.1 parts.3 arguments))
  where
    symbol_same : (g f : ℕ) (ws vs : RulePatterns) → application g ws ≡ application f vs → g ≡ f
    symbol_same g f ws vs e = cc

    arguments_same : (g f : ℕ) (ws vs : RulePatterns) → application g ws ≡ application f vs
        → ws ≡ vs
    arguments_same g f ws vs e = cc

-- the head of a constructor's image
pub head_over : (cx : Context) (f c : ℕ)
    → symbol_image cx.program.sig cx.names f ≡ Some (constant c)
    → HasNoVariable (constant c) × IsOverContext cx (constant c)
head_over cx f c is = (tt, λ s has. has.images (symbol f) (constant c) is)

-- a constructor of arguments, its image, and the patterns of the terms that the arguments become
pub record IsTakenApart (cx : Context) (f g : ℕ) (args ws : List RulePat) (image : Pattern) :
    Type 0 where
  pub number : ℕ
  pub images : List Pattern
  pub is_head : symbol_image cx.program.sig cx.names g ≡ Some (constant number)
  pub are_images : AreImages cx.program.sig cx.names (plain_patterns ws) images
  pub is : image ≡ applied_to (constant number) images
  pub many : length args ≡ length images
  pub made : MakeTerms cx.program.sig (plain_patterns args) (plain_patterns ws)

pub taken_apart : (cx : Context) (f g : ℕ) (args ws : List RulePat) (image : Pattern)
    → MakesTerm cx.program.sig (application f (plain_patterns args))
    (application g (plain_patterns ws))
    → image_of cx.program.sig cx.names (application g (plain_patterns ws)) ≡ Some image
    → IsTakenApart cx f g args ws image
taken_apart cx f g args ws image h is =
    let parts : (c : ℕ) × (qs : List Pattern) ×
    (symbol_image cx.program.sig cx.names g ≡ Some (constant c)) × AreImages cx.program.sig
    cx.names (plain_patterns ws) qs × (image ≡ applied_to (constant c) qs) =
    application_image cx.program.sig cx.names g (plain_patterns ws) image is in
    let made : MakeTerms cx.program.sig (plain_patterns args) (plain_patterns ws) =
    made_arguments cx.program.sig f g (plain_patterns args) (plain_patterns ws) h in
    record {
      number = parts.0;
      images = parts.1;
      is_head = parts.2;
      are_images = parts.3;
      is = parts.4;
      many = as_many_made made.1 args ws made.3 made.4.make made.5
          ∙ as_many_images cx.program.sig cx.names ws parts.1 parts.3;
      made = made;
    }

pub parts_compare : (old cx : Context) (f h g : ℕ) (args ws : List RulePat) (image head : Pattern)
    (images : List Pattern) (o : Option Theorem) (t : IsTakenApart old h g args ws image)
    → HasGrown old cx → head ≡ constant t.number → images ≡ t.images
    → AllCompare cx (plain_patterns args) (plain_patterns ws) head images o
    → Compares cx (application f (plain_patterns args)) (application g (plain_patterns ws)) image o
parts_compare old cx f h g args ws image head images o t grown is_head are all =
    constructor_compares cx f g t.number (plain_patterns args) (plain_patterns ws) t.images image o
    (symbol_grown old cx g (constant t.number) grown t.is_head) t.is
    (subst (λ (qs : List Pattern).
    AllCompare cx (plain_patterns args) (plain_patterns ws) (constant t.number) qs o) are
    (subst (λ (q : Pattern). AllCompare cx (plain_patterns args) (plain_patterns ws) q images o)
    is_head all))

-- ---- injections

-- an injection that stays one
pub beneath_compares : (old cx : Context) (a b : ℕ) (p w : RulePattern)
    (image head argument : Pattern) (one o : Option Theorem) → IsSignature cx.program.sig
    → HasGrown old cx → image_of old.program.sig old.names (injection a b w) ≡ Some image
    → image ≡ app head argument → Compares cx p w argument one
    → IsApplication cx head argument None one o
    → Compares cx (injection a b p) (injection a b w) image o
beneath_compares old cx a b p w image head argument one o ok g is split compared made =
    λ variables theta sort u h ground.
    let tree : (v : Tree) × (u ≡ inj a b v) × (w ≡ ground_pattern v) =
    ground_injection a b w u ground in
    let below : (b ≡ b) × IsInstance cx.program.sig variables theta p a tree.0 =
    injection_stayed cx.program.sig variables theta a b b p sort tree.0 ok (subst
    (λ (t : Tree). IsInstance cx.program.sig variables theta (injection a b p) sort t) tree.1
    h) in
    let image_is : image_of cx.program.sig cx.names (ground_pattern (inj a b tree.0)) ≡ Some
    (app head argument) =
    ap (λ (q : RulePattern). image_of cx.program.sig cx.names (injection a b q)) (sym tree.2)
    ∙ image_grown old cx (term (injection a b w)) image g is
    ∙ ap (λ (q : Pattern). Some q) split in
    subst (λ (t : Tree). IsCompared cx theta (injection a b p) t image o) (sym tree.1)
    (subst (λ (q : Pattern). IsCompared cx theta (injection a b p) (inj a b tree.0) q o) (sym split)
    (stays_injected cx theta a b p tree.0 head argument one o
    (compared variables theta a tree.0 below.1 tree.2) image_is made))

-- the halves of the left side of such an equality
pub once_halves : (cx : Context) (a b d : ℕ) (w : RulePattern) (once : Theorem)
    (o : IsOnce cx a b d w once) (head middle q : Pattern)
    → once.conclusion ≡ equal (app head middle) q → (head ≡ o.head) × (middle ≡ o.middle)
once_halves cx a b d w once o head middle q is =
    same_halves head o.head middle o.middle q o.last (sym is ∙ o.says)
  where
    same_halves : (f g m n q r : Pattern) → equal (app f m) q ≡ equal (app g n) r
        → (f ≡ g) × (m ≡ n)
    same_halves f g m n q r e = (cc, cc)

pub once_splits : (cx : Context) (a b d : ℕ) (w : RulePattern) (once : Theorem)
    → IsOnce cx a b d w once
    → (f : Pattern) × (m : Pattern) × (q : Pattern) × (once.conclusion ≡ equal (app f m) q)
once_splits cx a b d w once o = (o.head, o.middle, o.last, o.says)

-- there is no further collapse
pub once_compares : (cx : Context) (a b d : ℕ) (p w : RulePattern) (once : Theorem)
    (o : IsOnce cx a b d w once) (head middle : Pattern) (one r : Option Theorem) → a ≢ b
    → Compares cx p (injection a b w) middle one → IsApplication cx head middle None one r → r ≡ None
    → (image : Pattern) → image_of cx.program.sig cx.names (injection a d w) ≡ Some image
    → Compares cx (injection b d p) (injection a d w) image (Some once)
once_compares cx a b d p w once o head middle None r apart compared made none image is =
    λ variables theta sort u h ground.
    let tree : (v : Tree) × (u ≡ inj a d v) × (w ≡ ground_pattern v) =
    ground_injection a d w u ground in
    let below : (d ≡ d) × IsBelow cx.program.sig.subsorts a b × IsInstance cx.program.sig variables
    theta p b (inj a b tree.0) =
    injection_moved cx.program.sig variables theta a b d d p sort tree.0 (subst
    (λ (t : Tree). IsInstance cx.program.sig variables theta (injection b d p) sort t)
    tree.1 h) apart in
    let same : substituted theta p ≡ Some (inj a b tree.0) =
    compared variables theta b (inj a b tree.0) below.2 (ap (injection a b) tree.2) in
    subst (λ (t : Tree). IsJoined cx theta (injection b d p) t image once) (sym tree.1)
    (joined_here cx theta a b d p tree.0 image once
    (subst (λ (q : RulePattern). IsOnce cx a b d q once) tree.2 o) apart (ap
    (λ (q : RulePattern). image_of cx.program.sig cx.names (injection a d q))
    (sym tree.2) ∙ is) same)
once_compares cx a b d p w once o head middle (Some x) r apart compared made none image is =
    absurd (none_some made.made (sym none ∙ made.is))

-- both sides of that equality are closed
pub once_closed : (cx : Context) (a b d : ℕ) (p q w : RulePattern) (once : Theorem)
    → IsOnce cx a b d w once → MakesTerm cx.program.sig p (injection a b w)
    → MakesTerm cx.program.sig q (injection a d w) → HasClosedSides once.conclusion
once_closed cx a b d p q w once o middle last = (
  app o.head o.middle,
  (
    o.last,
    (
      o.says,
      (
        (
          closed-injection cx.program.sig cx.names b d o.head o.is_head,
          made_closed cx p (injection a b w) o.middle middle o.is_middle,
        ),
        made_closed cx q (injection a d w) o.last last o.is_last,
      ),
    ),
  ),
)

-- the halves at the sides of the result
record HasSides (cx : Context) (head middle : Pattern) (x e : Theorem) : Type 0 where
  pub says : (left : Pattern) → x.conclusion ≡ equal left middle
      → e.conclusion ≡ equal (app head left) (app head middle)
  pub stays : StaysInWith cx (head ∷ []) (x ∷ []) e

same_thm : (x y : Theorem) → Some x ≡ Some y → x ≡ y
same_thm x y e = cc

sides_of : (cx : Context) (head middle : Pattern) (x e : Theorem) (r : Option Theorem)
    → IsApplication cx head middle None (Some x) r → r ≡ Some e → HasSides cx head middle x e
sides_of cx head middle x e r made is =
    let same : made.made ≡ e = same_thm made.made e (sym made.is ∙ is) in
    record {
      says =
          λ left says. ap (λ (t : Theorem). t.conclusion) (sym same) ∙ made.says left middle says;
      stays = subst (λ (t : Theorem). StaysInWith cx (head ∷ []) (x ∷ []) t) same made.stays;
    }

-- both can be joined
pub joinable : (cx : Context) (a b d : ℕ) (p w : RulePattern) (once e : Theorem)
    (o : IsOnce cx a b d w once) (one r : Option Theorem)
    → MakesTerm cx.program.sig p (injection a b w) → Compares cx p (injection a b w) o.middle one
    → IsApplication cx o.head o.middle None one r → r ≡ Some e
    → AreJoinable e.conclusion once.conclusion
joinable cx a b d p w once e o None r made compared applies is =
    absurd (none_some e (sym applies ∙ is))
joinable cx a b d p w once e o (Some x) r (variables, theta, sort, u, h, ground) compared applies
    is =
    let j : IsJoined cx theta p u o.middle x = compared variables theta sort u h ground in
    let sides : HasSides cx o.head o.middle x e = sides_of cx o.head o.middle x e r applies is in (
      app o.head j.left,
      (
        app o.head o.middle,
        (
          o.last,
          (
            sides.says j.left j.says,
            (o.says, (closed-injection cx.program.sig cx.names b d o.head o.is_head, j.closed)),
          ),
        ),
      ),
    )

further_joined : (cx : Context) (theta : List (Option Tree)) (a b d : ℕ) (p w : RulePattern)
    (v : Tree) (image : Pattern) (once x e t : Theorem) → w ≡ ground_pattern v → a ≢ b
    → IsJoin e.conclusion once.conclusion t.conclusion
    → StaysInWith cx [] (e ∷ (once ∷ [])) t → (o : IsOnce cx a b d w once)
    → image_of cx.program.sig cx.names (injection a d w) ≡ Some image
    → IsJoined cx theta p (inj a b v) o.middle x → HasSides cx o.head o.middle x e
    → IsJoined cx theta (injection b d p) (inj a d v) image t
further_joined cx theta a b d p w v image once x e t ground apart join within =
    subst P (sym ground) at_ground
  where
    P : RulePattern → Type 0
    P q = (o : IsOnce cx a b d q once)
        → image_of cx.program.sig cx.names (injection a d q) ≡ Some image
        → IsJoined cx theta p (inj a b v) o.middle x → HasSides cx o.head o.middle x e
        → IsJoined cx theta (injection b d p) (inj a d v) image t

    at_ground : P (ground_pattern v)
    at_ground o is j sides =
        joined_further cx theta a b d p v image once x e t o apart is j (sides.says j.left j.says)
        (λ s has. sides.stays s has (
          (has.images
              (term (injection b d (injection a b (ground_pattern v)))) (app o.head o.middle)
              (applied_image cx b d (injection a b (ground_pattern v)) o.head o.middle
              o.is_head o.is_middle)).0,
          tt,
        ) (j.stays s has, tt))
        join within

-- there is a further collapse inside
pub further_compares : (cx : Context) (a b d : ℕ) (p w : RulePattern) (once e t : Theorem)
    (o : IsOnce cx a b d w once) (one r : Option Theorem) → a ≢ b
    → Compares cx p (injection a b w) o.middle one → IsApplication cx o.head o.middle None one r
    → r ≡ Some e → IsJoin e.conclusion once.conclusion t.conclusion
    → StaysInWith cx [] (e ∷ (once ∷ [])) t → (image : Pattern)
    → image_of cx.program.sig cx.names (injection a d w) ≡ Some image
    → Compares cx (injection b d p) (injection a d w) image (Some t)
further_compares cx a b d p w once e t o None r apart compared applies is join within image at =
    absurd (none_some e (sym applies ∙ is))
further_compares cx a b d p w once e t o (Some x) r apart compared applies is join within image at =
    λ variables theta sort u h ground.
    let tree : (v : Tree) × (u ≡ inj a d v) × (w ≡ ground_pattern v) =
    ground_injection a d w u ground in
    let below : (d ≡ d) × IsBelow cx.program.sig.subsorts a b × IsInstance cx.program.sig variables
    theta p b (inj a b tree.0) =
    injection_moved cx.program.sig variables theta a b d d p sort tree.0 (subst
    (λ (q : Tree). IsInstance cx.program.sig variables theta (injection b d p) sort q)
    tree.1 h) apart in
    let j : IsJoined cx theta p (inj a b tree.0) o.middle x =
    compared variables theta b (inj a b tree.0) below.2 (ap (injection a b) tree.2) in
    subst (λ (q : Tree). IsJoined cx theta (injection b d p) q image t) (sym tree.1)
    (further_joined cx theta a b d p w tree.0 image once x e t tree.2 apart join within o at j
    (sides_of cx o.head o.middle x e r applies is))

-- the converse
pub made_again : (old new : Context) (p w : RulePattern) → HasGrown old new
    → MakesTerm old.program.sig p w → MakesTerm new.program.sig p w
made_again old new p w g h =
    subst (λ (program : Program). MakesTerm program.sig p w) (sym g.program) h

pub over_applied : (old cx : Context) (f q : Pattern) (w : RulePattern) → HasGrown old cx
    → IsOverContext old f → image_of cx.program.sig cx.names w ≡ Some q → IsOverContext cx (app f q)
over_applied old cx f q w g over is =
    λ s has. (over s (has_before old cx s g has), has.images (term w) q is)

pub over_grown : (old cx : Context) (f : Pattern) → HasGrown old cx → IsOverContext old f
    → IsOverContext cx f
over_grown old cx f g over = λ s has. over s (has_before old cx s g has)

-- ---- the whole

theorem_kept : (cx : Context) (theta : List (Option Tree)) (p : RulePattern) (u : Tree)
    (image : Pattern) (o : Option Theorem) → instance_of theta p ≡ Some u
    → image_of cx.program.sig cx.names (ground_pattern u) ≡ Some image
    → IsCompared cx theta p u image o → SaysEqualImages cx theta p o
theorem_kept cx theta p u image None makes is same = same ∙ sym makes
theorem_kept cx theta p u image (Some t) makes is j = (
  (λ same. j.differs (one_tree j.written u (sym j.is_written ∙ same ∙ makes))),
  (λ v w written normal. record {
    left = j.left;
    left_image =
        ap (λ (x : Tree). image_of cx.program.sig cx.names (ground_pattern x))
        (one_tree v j.written (sym written ∙ j.is_written)) ∙ j.is_left;
    right = image;
    right_image =
        ap (λ (x : Tree). image_of cx.program.sig cx.names (ground_pattern x))
        (one_tree w u (sym normal ∙ makes)) ∙ is;
    says = j.says;
    no_variable = (j.closed, image_closed cx.program.sig cx.names u image is);
  }),
)
  where
    one_tree : (x y : Tree) → Some x ≡ Some y → x ≡ y
    one_tree x y e = cc

pub says_equal : (cx : Context) (theta : List (Option Tree)) (p w : RulePattern) (image : Pattern)
    (variables : List ℕ) (sort : ℕ) (u : Tree) (o : Option Theorem)
    → IsInstance cx.program.sig variables theta p sort u → w ≡ ground_pattern u
    → image_of cx.program.sig cx.names w ≡ Some image → Compares cx p w image o
    → SaysEqualImages cx theta p o
says_equal cx theta p w image variables sort u o h ground is compared =
    theorem_kept cx theta p u image o h.makes
    (ap (image_of cx.program.sig cx.names) (sym ground) ∙ is)
    (compared variables theta sort u h ground)

pub compared_stays : (cx : Context) (p w : RulePattern) (image : Pattern) (o : Option Theorem)
    → MakesTerm cx.program.sig p w → Compares cx p w image o → IfSome o (StaysIn cx)
compared_stays cx p w image None made compared = tt
compared_stays cx p w image (Some t) (variables, theta, sort, u, h, ground) compared =
    let j : IsJoined cx theta p u image t = compared variables theta sort u h ground in
    j.stays
