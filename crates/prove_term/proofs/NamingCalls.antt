-- What the functions on patterns with names get from each other.
use Rattle.std.proofs.Common.{◌≡◌, ◌+◌, ◌<◌, ℕ, zero, suc, List, [], ◌∷◌, Option, Some, None, length}
use Rattle.std.proofs.Common.{get_or, take, drop, map, refl, sym, ◌∙◌, ap, subst, arith}
use Rattle.std.specs.Prelude.{◌≢◌}
use Rattle.ml_pat.specs.Patterns.{Pattern, app, constant, equal}
use Rattle.ml_kernel.specs.Lemmas.{HasNoVariable}
use Rattle.ml_kernel.specs.Theorems.{Theorem}
use Rattle.ml_derived.specs.Equalities.{AreJoinable, IsJoin}
use Rattle.term_core.specs.Terms.{Tree, Forest, node, inj, DomainValue}
use Rattle.term_core.specs.Patterns.{Pattern as RulePattern, Patterns as RulePatterns, variable}
use Rattle.term_core.specs.Patterns.{domain_value, application, injection, call, instance_of}
use Rattle.term_core.specs.Patterns.{ground_pattern, ground_patterns}
use Rattle.term_core.specs.Instances.{substituted, patterns}
use Rattle.term_core.specs.RulePatterns.{plain_pattern}
use Rattle.term_core.specs.PatternLists.{plain_patterns}
use Rattle.term_core.specs.declared.rule_patterns.RulePat.{RulePat}
use Rattle.rule_core.specs.NamedParts.{Name}
use Rattle.rule_core.specs.Subsorts.{IsBelow}
use Rattle.rule_core.specs.WellSorted.{IsSignature}
use Rattle.rule_core.specs.declared.rules.Program.{Program}
use Rattle.rule_core.specs.declared.signature.Signature.{Signature}
use Rattle.rule_core.specs.declared.signature.SortRef.{SortRef}
use Rattle.ml_image.specs.Images.{image_of, symbol_image, injection_image}
use Rattle.ml_image.specs.NamedSides.{of_child, left_sentence, applied_sides, named_parts, of_whole}
use Rattle.ml_image.specs.PartNames.{part_sentence}
use Rattle.ml_image.specs.Sentences.{Sentence, term, symbol, inject, apply, sentence_image}
use Rattle.ml_image.proofs.ImageLaws.{none_some, some_same}
use Rattle.ml_image.proofs.NamedLaws.{left_parts, sides_next}
use Rattle.prove_term.specs.Applications.{HasClosedSides, SaysEqualTo, IsApplication, applied_to}
use Rattle.prove_term.specs.Comparing.{IsInstance, IsJoined, IsCompared, Compares, MakesTerm, IsOnce}
use Rattle.prove_term.specs.Contexts.{Context, HasGrown, StaysIn, StaysInWith}
use Rattle.prove_term.specs.FilledSides.{filled_sentence, AreEqualSides}
use Rattle.prove_term.specs.Filling.{filled}
use Rattle.prove_term.specs.Naming.{EqualsImage, BecomesImage, IsNamedInstance, IsBelowNamed}
use Rattle.prove_term.specs.Naming.{AreNamedInstances, MakesNamed, MakesBelow, MakeNamed}
use Rattle.prove_term.specs.Naming.{ComparesNamed, ComparesPart, ComparesBelow, AllCompareNamed}
use Rattle.prove_term.specs.Naming.{IsConjoinedTo}
use Rattle.prove_term.specs.Schemas.{AreImages}
use Rattle.prove_term.proofs.ComparingCalls.{IsTakenApart}
use Rattle.prove_term.proofs.ComparingLaws.{image_closed, closed-injection, ground_injection}
use Rattle.prove_term.proofs.ContextLaws.{grown_none, image_grown, stays_grown}
use Rattle.prove_term.proofs.FillingLaws.{filled_written}
use Rattle.prove_term.proofs.NamingParts.{IsNamedItem, named_item, named_arguments, named_below}
use Rattle.prove_term.proofs.NamingParts.{below_stays, below_moves, whole_bound}
use Rattle.prove_term.proofs.NamingSteps.{becomes_grown, becomes_says, becomes_apply, equals_grown}
use Rattle.prove_term.proofs.NamingSteps.{becomes_joined, filled_left}

-- ---- a context that grows

instance_back : (a b : Context) (names : List Name) (variables : List ℕ)
    (theta : List (Option Tree)) (p : RulePattern) (sort : ℕ) (u : Tree) → HasGrown a b
    → IsNamedInstance b.program.sig names variables theta p sort u
    → IsNamedInstance a.program.sig names variables theta p sort u
instance_back a b names variables theta p sort u g h =
    subst (λ (program : Program). IsNamedInstance program.sig names variables theta p sort u)
    g.program h

pub named_grown : (a b : Context) (names : List Name) (p w : RulePattern) (image : Pattern)
    (o : Option Theorem) → HasGrown a b → ComparesNamed a names p w image o
    → ComparesNamed b names p w image o
named_grown a b names p w image o g h = λ variables theta sort u instance is.
    becomes_grown a b (filled_sentence theta (left_sentence names p)) image o g
    (h variables theta sort u (instance_back a b names variables theta p sort u g instance) is)

pub makes_grown : (a b : Context) (names : List Name) (p w : RulePattern) → HasGrown a b
    → MakesNamed a.program.sig names p w → MakesNamed b.program.sig names p w
makes_grown a b names p w g h =
    subst (λ (program : Program). MakesNamed program.sig names p w) (sym g.program) h

-- what is known of the equality
pub named_says : (cx : Context) (names : List Name) (p w : RulePattern) (image : Pattern)
    (o : Option Theorem) → MakesNamed cx.program.sig names p w → ComparesNamed cx names p w image o
    → SaysEqualTo image o
named_says cx names p w image o (variables, theta, sort, u, h, is) all =
    becomes_says cx (filled_sentence theta (left_sentence names p)) image o
    (all variables theta sort u h is)

pub part_says : (cx : Context) (names : List Name) (p w : RulePattern) (image : Pattern)
    (o : Option Theorem) → MakesNamed cx.program.sig names p w → ComparesPart cx names p w image o
    → SaysEqualTo image o
part_says cx names p w image o (variables, theta, sort, u, h, is) all =
    becomes_says cx (filled_sentence theta (part_sentence names p)) image o
    (all variables theta sort u h is)

pub named_closed : (cx : Context) (names : List Name) (p w : RulePattern) (image : Pattern)
    → MakesNamed cx.program.sig names p w → image_of cx.program.sig cx.names w ≡ Some image
    → HasNoVariable image
named_closed cx names p w image (variables, theta, sort, u, h, is) at =
    image_closed cx.program.sig cx.names u image
    (ap (image_of cx.program.sig cx.names) (sym is) ∙ at)

-- ---- without names

written_image : (cx : Context) (theta : List (Option Tree)) (p : RulePattern) (t : Tree)
    (image : Pattern) → substituted theta p ≡ Some t
    → image_of cx.program.sig cx.names (ground_pattern t) ≡ Some image
    → sentence_image cx.program.sig cx.names (filled_sentence theta (left_sentence [] p)) ≡ Some image
written_image cx theta p t image is at =
    filled_left cx.program.sig cx.names theta p
    ∙ ap (image_of cx.program.sig cx.names) (filled_written theta p t is) ∙ at

pub compared_becomes : (cx : Context) (theta : List (Option Tree)) (p : RulePattern) (u : Tree)
    (image : Pattern) (o : Option Theorem)
    → image_of cx.program.sig cx.names (ground_pattern u) ≡ Some image
    → IsCompared cx theta p u image o
    → BecomesImage cx (filled_sentence theta (left_sentence [] p)) image o
compared_becomes cx theta p u image None at same = written_image cx theta p u image same at
compared_becomes cx theta p u image (Some t) at j = record {
  left = j.left;
  is_left = written_image cx theta p j.written j.left j.is_written j.is_left;
  closed = j.closed;
  says = j.says;
  stays = j.stays;
}

pub without_names : (old cx : Context) (names : List Name) (p w : RulePattern) (image : Pattern)
    (o : Option Theorem) → names ≡ [] → HasGrown old cx
    → image_of old.program.sig old.names w ≡ Some image → Compares cx p w image o
    → ComparesNamed cx names p w image o
without_names old cx names p w image o none g at compared =
    subst (λ (ns : List Name). ComparesNamed cx ns p w image o) (sym none)
    (λ variables theta sort u h is. compared_becomes cx theta p u image o
    (ap (image_of cx.program.sig cx.names) (sym is)
    ∙ image_grown old cx (term w) image g at)
    (compared variables theta sort u h.instance is))

-- ---- the names of the whole

pub with_names : (mid cx : Context) (names : List Name) (p w : RulePattern) (image : Pattern)
    (part o : Option Theorem) → HasGrown mid cx
    → image_of mid.program.sig mid.names w ≡ Some image
    → ComparesPart mid names p w image part → IsConjoinedTo mid cx names image part o
    → ComparesNamed cx names p w image o
with_names mid cx names p w image part o g at part_is all = λ variables theta sort u h is.
    let before : IsNamedInstance mid.program.sig names variables theta p sort u =
    instance_back mid cx names variables theta p sort u g h in
    subst (λ (s : Sentence). BecomesImage cx (filled_sentence theta s) image o)
    (sym (left_parts names p))
    (all theta u (part_sentence names p)
    (ap (image_of mid.program.sig mid.names) (sym is) ∙ at)
    (whole_bound theta p u names before.instance.makes before.bound)
    (part_is variables theta sort u before is))

-- ---- variables and values

pub variable_part : (cx : Context) (names : List Name) (x : ℕ) (w : RulePattern) (image : Pattern)
    → image_of cx.program.sig cx.names w ≡ Some image
    → ComparesPart cx names (variable x) w image None
variable_part cx names x w image at = λ variables theta sort u h is.
    ap (image_of cx.program.sig cx.names)
    (filled_written theta (variable x) u h.instance.makes ∙ sym is) ∙ at

pub value_part : (cx : Context) (names : List Name) (s : ℕ) (v : DomainValue) (w : RulePattern)
    (image : Pattern) → image_of cx.program.sig cx.names w ≡ Some image
    → ComparesPart cx names (domain_value s v) w image None
value_part cx names s v w image at = λ variables theta sort u h is.
    ap (image_of cx.program.sig cx.names)
    (filled_written theta (domain_value s v) u h.instance.makes ∙ sym is) ∙ at

-- ---- constructors

pub constructor_part : (old cx : Context) (names : List Name) (f g : ℕ) (ps ws : RulePatterns)
    (head image : Pattern) (images : List Pattern) (o : Option Theorem)
    → symbol_image old.program.sig old.names g ≡ Some head
    → image ≡ applied_to head images → AllCompareNamed old cx names ps ws head images o
    → ComparesPart cx names (application f ps) (application g ws) image o
constructor_part old cx names f g ps ws head image images o is_head is all =
    λ variables theta sort u h ground.
    let w : (refs : List SortRef) × (us : Forest) × (u ≡ node f us)
    × AreNamedInstances cx.program.sig names variables theta ps refs us =
    named_arguments cx.program.sig names variables theta f ps sort u h in
    let same : application g ws ≡ application f (ground_patterns w.1) =
    ground ∙ ap ground_pattern w.2 in
    subst (λ (q : Pattern).
    BecomesImage cx (filled_sentence theta (applied_sides names 0 (symbol f) ps)) q o) (sym is)
    (all variables theta w.0 w.1 f w.3 (arguments_same g f ws (ground_patterns w.1) same)
    (ap (symbol_image old.program.sig old.names)
    (sym (symbol_same g f ws (ground_patterns w.1) same)) ∙ is_head))
  where
    symbol_same : (g f : ℕ) (ws vs : RulePatterns) → application g ws ≡ application f vs → g ≡ f
    symbol_same g f ws vs e = cc

    arguments_same : (g f : ℕ) (ws vs : RulePatterns) → application g ws ≡ application f vs
        → ws ≡ vs
    arguments_same g f ws vs e = cc

-- ---- arguments, one after another

-- the arguments before number i are done
abbrev pub AreNamedBefore : Context → Context → List Name → List RulePat → List RulePat → ℕ
    → Pattern → Pattern → Option Theorem → Type 0
AreNamedBefore old cx names args ws i head function made =
    (variables : List ℕ) (theta : List (Option Tree)) (refs : List SortRef) (us : Forest) (f : ℕ)
    → AreNamedInstances cx.program.sig names variables theta (plain_patterns args) refs us
    → plain_patterns ws ≡ ground_patterns us → symbol_image old.program.sig old.names f ≡ Some head
    → BecomesImage cx
    (filled_sentence theta (applied_sides names 0 (symbol f) (plain_patterns (take i args)))) function
    made

pub named_before_none : (old : Context) (names : List Name) (args ws : List RulePat) (head : Pattern)
    → AreNamedBefore old old names args ws 0 head head None
named_before_none old names args ws head = λ variables theta refs us f h is at. at

map_same : {A : Type 0} (xs : List A) → map (λ (x : A). x) xs ≡ xs
map_same [] = refl
map_same {A} (x ∷ xs) = ap (λ (ys : List A). x ∷ ys) (map_same xs)

-- one more argument
sides_more : (names : List Name) (head : Sentence) (args : List RulePat) (i : ℕ) (a : RulePat)
    → i < length args → a ≡ get_or args i a
    → applied_sides names 0 head (plain_patterns (take (i + 1) args))
    ≡ apply (applied_sides names 0 head (plain_patterns (take i args)))
    (left_sentence (of_child i names) (plain_pattern a))
sides_more names head args i a low at =
    ap (λ (ps : List RulePattern). applied_sides names 0 head (patterns ps))
    (sym (map_same (map plain_pattern (take (i + 1) args))))
    ∙ sides_next names head (λ (p : RulePattern). p) args i a low at
    ∙ ap (λ (ps : List RulePattern). apply (applied_sides names 0 head (patterns ps))
    (left_sentence (of_child i names) (plain_pattern a)))
    (map_same (map plain_pattern (take i args)))

pub named_before_next : (old a b : Context) (names : List Name) (args ws : List RulePat) (i : ℕ)
    (p w : RulePat) (head function image : Pattern) (made one next : Option Theorem) → HasGrown a b
    → i < length args → p ≡ get_or args i p → w ≡ get_or ws i w
    → HasNoVariable function → HasNoVariable image
    → AreNamedBefore old a names args ws i head function made
    → ComparesNamed b (of_child i names) (plain_pattern p) (plain_pattern w) image one
    → IsApplication b function image made one next
    → AreNamedBefore old b names args ws (i + 1) head (app function image) next
named_before_next old a b names args ws i p w head function image made one next g low at on closed
    closed' before compared is_next =
    λ variables theta refs us f h ground symbols.
    let this : IsNamedItem b.program.sig (of_child i names) variables theta p w =
    named_item b.program.sig names variables theta args ws refs us i p w h ground low at on in
    let done : BecomesImage b (filled_sentence theta
    (applied_sides names 0 (symbol f) (plain_patterns (take i args)))) function made =
    becomes_grown a b (filled_sentence theta
    (applied_sides names 0 (symbol f) (plain_patterns (take i args)))) function made g
    (before variables theta refs us f
    (subst (λ (program : Program).
    AreNamedInstances program.sig names variables theta (plain_patterns args) refs us) g.program h)
    ground symbols) in
    subst (λ (s : Sentence). BecomesImage b (filled_sentence theta s) (app function image) next)
    (sym (sides_more names (symbol f) args i p low at))
    (becomes_apply b
    (filled_sentence theta (applied_sides names 0 (symbol f) (plain_patterns (take i args))))
    (filled_sentence theta (left_sentence (of_child i names) (plain_pattern p))) function image made
    one next done (compared variables theta this.sort this.tree this.instance this.is) closed closed'
    is_next)

pub named_before_all : (old cx : Context) (names : List Name) (args ws : List RulePat)
    (head function : Pattern) (images : List Pattern) (made : Option Theorem)
    → function ≡ applied_to head images
    → AreNamedBefore old cx names args ws (length args) head function made
    → AllCompareNamed old cx names (plain_patterns args) (plain_patterns ws) head images made
named_before_all old cx names args ws head function images made is done =
    λ variables theta refs us f h ground symbols.
    subst (λ (q : Pattern). BecomesImage cx
    (filled_sentence theta (applied_sides names 0 (symbol f) (plain_patterns args))) q made) is
    (subst (λ (xs : List RulePat). BecomesImage cx
    (filled_sentence theta (applied_sides names 0 (symbol f) (plain_patterns xs))) function made)
    (all_taken args) (done variables theta refs us f h ground symbols))
  where
    all_taken : (xs : List RulePat) → take (length xs) xs ≡ xs
    all_taken [] = refl
    all_taken (x ∷ xs) = ap (λ (ys : List RulePat). x ∷ ys) (all_taken xs)

pub named_item_makes : (sig : Signature) (names : List Name) (args ws : List RulePat) (i : ℕ)
    (p w : RulePat) → MakeNamed sig names (plain_patterns args) (plain_patterns ws)
    → i < length args → p ≡ get_or args i p → w ≡ get_or ws i w
    → MakesNamed sig (of_child i names) (plain_pattern p) (plain_pattern w)
named_item_makes sig names args ws i p w (variables, theta, refs, us, h, is) low at on =
    let this : IsNamedItem sig (of_child i names) variables theta p w =
    named_item sig names variables theta args ws refs us i p w h is low at on in
    (variables, theta, this.sort, this.tree, this.instance, this.is)

pub before_says : (old cx : Context) (names : List Name) (args ws : List RulePat) (i f : ℕ)
    (head function : Pattern) (made : Option Theorem)
    → MakeNamed cx.program.sig names (plain_patterns args) (plain_patterns ws)
    → symbol_image old.program.sig old.names f ≡ Some head
    → AreNamedBefore old cx names args ws i head function made → SaysEqualTo function made
before_says old cx names args ws i f head function made (variables, theta, refs, us, h, is) at done =
    becomes_says cx
    (filled_sentence theta (applied_sides names 0 (symbol f) (plain_patterns (take i args)))) function
    made (done variables theta refs us f h is at)

-- ---- injections

pub below_part : (cx : Context) (names : List Name) (a b : ℕ) (p w : RulePattern) (image : Pattern)
    (o : Option Theorem) → ComparesBelow cx (of_child 0 names) a b p w image o
    → ComparesPart cx names (injection a b p) w image o
below_part cx names a b p w image o all = λ variables theta sort u h is.
    all variables theta sort u (named_below cx.program.sig names variables theta a b p sort u h) is

-- an injection that stays one
pub beneath_named : (cx : Context) (names : List Name) (a b : ℕ) (p w : RulePattern)
    (head argument image : Pattern) (one o : Option Theorem) → IsSignature cx.program.sig
    → injection_image cx.program.sig cx.names a b ≡ Some head → HasNoVariable argument
    → image ≡ app head argument → ComparesNamed cx names p w argument one
    → IsApplication cx head argument None one o
    → ComparesBelow cx names a b p (injection a b w) image o
beneath_named cx names a b p w head argument image one o ok is_head closed split all made =
    λ variables theta sort u h ground.
    let tree : (v : Tree) × (u ≡ inj a b v) × (w ≡ ground_pattern v) =
    ground_injection a b w u ground in
    let below : (b ≡ b) × IsNamedInstance cx.program.sig names variables theta p a tree.0 =
    below_stays cx.program.sig names variables theta a b b p sort tree.0 ok (subst
    (λ (t : Tree). IsBelowNamed cx.program.sig names variables theta a b p sort t) tree.1 h) in
    subst (λ (q : Pattern). BecomesImage cx
    (filled_sentence theta (apply (inject a b) (left_sentence names p))) q o) (sym split)
    (becomes_apply cx (inject a b) (filled_sentence theta (left_sentence names p)) head argument None
    one o is_head (all variables theta a tree.0 below.1 tree.2)
    (closed-injection cx.program.sig cx.names a b head is_head) closed made)

-- an injection that becomes one from a lower sort
abbrev Moved : Context → List Name → ℕ → ℕ → ℕ → RulePattern → RulePattern → Option Theorem → Type 0
Moved cx names a b d p w o =
    (image : Pattern) → image_of cx.program.sig cx.names (injection a d w) ≡ Some image
    → ComparesBelow cx names b d p (injection a d w) image o

-- the pattern below becomes the inner injection, to which the outer is applied
moved_apply : (cx : Context) (names : List Name) (variables : List ℕ) (theta : List (Option Tree))
    (a b d : ℕ) (p w : RulePattern) (sort : ℕ) (u : Tree) (once : Theorem)
    (o : IsOnce cx a b d w once) (one r : Option Theorem) → a ≢ b
    → HasNoVariable o.middle
    → ComparesNamed cx names p (injection a b w) o.middle one
    → IsApplication cx o.head o.middle None one r
    → IsBelowNamed cx.program.sig names variables theta b d p sort u
    → injection a d w ≡ ground_pattern u
    → BecomesImage cx (filled_sentence theta (apply (inject b d) (left_sentence names p)))
    (app o.head o.middle) r
moved_apply cx names variables theta a b d p w sort u once o one r apart closed all made h ground =
    let tree : (v : Tree) × (u ≡ inj a d v) × (w ≡ ground_pattern v) =
    ground_injection a d w u ground in
    let below : (d ≡ d) × IsBelow cx.program.sig.subsorts a b
    × IsNamedInstance cx.program.sig names variables theta p b (inj a b tree.0) =
    below_moves cx.program.sig names variables theta a b d d p sort tree.0 (subst
    (λ (t : Tree). IsBelowNamed cx.program.sig names variables theta b d p sort t) tree.1 h) apart in
    becomes_apply cx (inject b d) (filled_sentence theta (left_sentence names p)) o.head o.middle None
    one r o.is_head (all variables theta b (inj a b tree.0) below.2 (ap (injection a b) tree.2))
    (closed-injection cx.program.sig cx.names b d o.head o.is_head) closed made

-- there is no equality below
pub moved_none : (cx : Context) (names : List Name) (a b d : ℕ) (p w : RulePattern) (once : Theorem)
    (o : IsOnce cx a b d w once) (one r : Option Theorem) → a ≢ b → HasNoVariable o.middle
    → ComparesNamed cx names p (injection a b w) o.middle one
    → IsApplication cx o.head o.middle None one r → r ≡ None
    → (image : Pattern) → image_of cx.program.sig cx.names (injection a d w) ≡ Some image
    → ComparesBelow cx names b d p (injection a d w) image (Some once)
moved_none cx names a b d p w once o one r apart closed all made none image is =
    λ variables theta sort u h ground.
    let last : o.last ≡ image = some_same o.last image (sym o.is_last ∙ is) in
    let at : BecomesImage cx (filled_sentence theta (apply (inject b d) (left_sentence names p)))
    (app o.head o.middle) None =
    subst (BecomesImage cx (filled_sentence theta (apply (inject b d) (left_sentence names p)))
    (app o.head o.middle)) none
    (moved_apply cx names variables theta a b d p w sort u once o one r apart closed all made h
    ground) in
    record {
      left = app o.head o.middle;
      is_left = at;
      closed = (closed-injection cx.program.sig cx.names b d o.head o.is_head, closed);
      says = o.says ∙ ap (equal (app o.head o.middle)) last;
      stays = o.stays;
    }

-- there is one
pub moved_some : (cx : Context) (names : List Name) (a b d : ℕ) (p w : RulePattern)
    (once e t : Theorem) (o : IsOnce cx a b d w once) (one r : Option Theorem) → a ≢ b
    → HasNoVariable o.middle → ComparesNamed cx names p (injection a b w) o.middle one
    → IsApplication cx o.head o.middle None one r → r ≡ Some e
    → IsJoin e.conclusion once.conclusion t.conclusion → StaysInWith cx [] (e ∷ once ∷ []) t
    → (image : Pattern) → image_of cx.program.sig cx.names (injection a d w) ≡ Some image
    → ComparesBelow cx names b d p (injection a d w) image (Some t)
moved_some cx names a b d p w once e t o one r apart closed all made some join within image is =
    λ variables theta sort u h ground.
    let last : o.last ≡ image = some_same o.last image (sym o.is_last ∙ is) in
    let at : EqualsImage cx (filled_sentence theta (apply (inject b d) (left_sentence names p)))
    (app o.head o.middle) e =
    subst (BecomesImage cx (filled_sentence theta (apply (inject b d) (left_sentence names p)))
    (app o.head o.middle)) some
    (moved_apply cx names variables theta a b d p w sort u once o one r apart closed all made h
    ground) in
    becomes_joined cx (filled_sentence theta (apply (inject b d) (left_sentence names p)))
    (app o.head o.middle) image e once t at (o.says ∙ ap (equal (app o.head o.middle)) last) o.stays
    join within

pub moved_joinable : (cx : Context) (names : List Name) (a b d : ℕ) (p w : RulePattern)
    (once e : Theorem) (o : IsOnce cx a b d w once) (one r : Option Theorem) → a ≢ b
    → HasNoVariable o.middle → MakesBelow cx.program.sig names b d p (injection a d w)
    → ComparesNamed cx names p (injection a b w) o.middle one
    → IsApplication cx o.head o.middle None one r → r ≡ Some e
    → AreJoinable e.conclusion once.conclusion
moved_joinable cx names a b d p w once e o one r apart closed (variables, theta, sort, u, h, ground)
    all made some =
    let at : EqualsImage cx (filled_sentence theta (apply (inject b d) (left_sentence names p)))
    (app o.head o.middle) e =
    subst (BecomesImage cx (filled_sentence theta (apply (inject b d) (left_sentence names p)))
    (app o.head o.middle)) some
    (moved_apply cx names variables theta a b d p w sort u once o one r apart closed all made h
    ground) in
    (at.left, (app o.head o.middle, (o.last, (at.says, (o.says, at.closed)))))

-- ---- the whole

pub equal_sides : (cx : Context) (s : Sentence) (p : RulePattern) (image : Pattern)
    (o : Option Theorem) → image_of cx.program.sig cx.names p ≡ Some image → HasNoVariable image
    → BecomesImage cx s image o → AreEqualSides cx s p o
equal_sides cx s p image None at closed is = is ∙ sym at
equal_sides cx s p image (Some t) at closed h = (
  record {
    left = h.left;
    left_image = h.is_left;
    right = image;
    right_image = at;
    says = h.says;
    no_variable = (h.closed, closed);
  },
  h.stays,
)
