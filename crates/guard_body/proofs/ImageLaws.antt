-- The images of what a guard says: the condition and the arguments.
use Rattle.std.proofs.Common.{◌≡◌, ◌⊎◌, ℕ, ◌+◌, ◌<◌, List, [], ◌∷◌, Option, Some, None}
use Rattle.std.proofs.Common.{option_map, Result, IfOk, length, drop, get_or, refl, sym, ◌∙◌, ap}
use Rattle.std.proofs.Common.{subst, inl, inr, true, All}
use Rattle.std.specs.Global.{Vec}
use Rattle.std.proofs.lemmas.List.{drop_more}
use Rattle.ml_pat.specs.Patterns.{Pattern as LogicPattern}
use Rattle.ml_pat.specs.Patterns as logic
use Rattle.term_core.specs.Terms.{truth}
use Rattle.term_core.specs.Patterns.{Pattern, Patterns, variable, domain_value, application}
use Rattle.term_core.specs.Patterns.{injection, call, no_pattern, more_patterns, ground_pattern}
use Rattle.term_core.specs.RulePatterns.{plain_pattern}
use Rattle.term_core.specs.declared.ids.SortId.{SortId}
use Rattle.term_core.specs.declared.ids.SymId.{SymId}
use Rattle.term_core.specs.declared.values.Value.{Value}
use Rattle.term_core.specs.declared.rule_patterns.RulePat.{RulePat}
use Rattle.term_core.specs.declared.rule_patterns.RulePat.TheVariants as form
use Rattle.term_core.proofs.PlainPatterns.{plain-Var, plain-Value, plain-Call}
use Rattle.rule_core.specs.Matching.{OccursIn, OccursInSome}
use Rattle.rule_core.specs.NamedParts.{Name}
use Rattle.rule_core.specs.declared.rules.Program.{Program}
use Rattle.rule_core.specs.declared.signature.Signature.{Signature}
use Rattle.ml_image.specs.HasImages.{HasImage, HaveImages}
use Rattle.ml_image.specs.Images.{both, image_of, renamed, all_renamed}
use Rattle.ml_image.specs.LastResorts.{condition_renamed}
use Rattle.ml_image.specs.NamedSides.{left_sentence, of_child}
use Rattle.ml_image.specs.PartNames.{left_renamed, part_renamed, part_sentence}
use Rattle.ml_image.specs.Premises.{sort_of, is_true}
use Rattle.ml_image.specs.Sentences.{Sentence, term, top, and, sentence_image}
use Rattle.ml_image.proofs.ImageLaws.{if_ok, some_same}
use Rattle.ml_image.proofs.NamedLaws.{left-kept, names-kept, renamed-kept}
use Rattle.prove_term.specs.Contexts.{Context, HasGrown}
use Rattle.prove_term.proofs.ContextLaws.{image_grown}
use Rattle.guard_body.specs.Arguments.{all_in, in_argument, part_names_of, pattern_of}
use Rattle.guard_body.specs.Renaming.{itself}
use Rattle.guard_body.specs.declared.arguments.Argument.{Argument}

-- ---- patterns that have images

mutual
  pub has_renamed : (sig : Signature) (g : ℕ → ℕ) (n m : ℕ) (p : Pattern) → ((x : ℕ) → g x < m)
      → HasImage sig n p → HasImage sig m (renamed g p)
  has_renamed sig g n m (variable x) low h = low x
  has_renamed sig g n m (domain_value s v) low h = h
  has_renamed sig g n m (application f ps) low h = (h.0, have_renamed sig g n m ps low h.1)
  has_renamed sig g n m (injection a b p) low h = (h.0, h.1, has_renamed sig g n m p low h.2)
  has_renamed sig g n m (call f ss ps) low h = (h.0, h.1, have_renamed sig g n m ps low h.2)

  have_renamed : (sig : Signature) (g : ℕ → ℕ) (n m : ℕ) (ps : Patterns) → ((x : ℕ) → g x < m)
      → HaveImages sig n ps → HaveImages sig m (all_renamed g ps)
  have_renamed sig g n m no_pattern low h = tt
  have_renamed sig g n m (more_patterns p ps) low h =
      (has_renamed sig g n m p low h.0, have_renamed sig g n m ps low h.1)

-- the variables of a pattern that has an image
mutual
  pub occurs_within : (sig : Signature) (n x : ℕ) (p : Pattern) → HasImage sig n p → OccursIn x p
      → x < n
  occurs_within sig n x (variable y) h o = subst (λ (z : ℕ). z < n) (sym o) h
  occurs_within sig n x (domain_value s v) h o = absurd o
  occurs_within sig n x (application f ps) h o = some_within sig n x ps h.1 o
  occurs_within sig n x (injection a b p) h o = occurs_within sig n x p h.2 o
  occurs_within sig n x (call f ss ps) h o = some_within sig n x ps h.2 o

  some_within : (sig : Signature) (n x : ℕ) (ps : Patterns) → HaveImages sig n ps
      → OccursInSome x ps → x < n
  some_within sig n x no_pattern h o = absurd o
  some_within sig n x (more_patterns p ps) h (inl o) = occurs_within sig n x p h.0 o
  some_within sig n x (more_patterns p ps) h (inr o) = some_within sig n x ps h.1 o

-- ---- sentences whose variables keep their numbers

pub left_itself : (names : List Name) (p : Pattern)
    → left_renamed itself names p ≡ left_sentence names p
left_itself names p = left-kept itself (λ x. refl) names p

pub renamed_itself : (p : Pattern) → renamed itself p ≡ p
renamed_itself p = renamed-kept itself (λ x. refl) p

part_itself : (names : List Name) (p : Pattern)
    → part_renamed itself names p ≡ part_sentence names p
part_itself names p =
    ap (λ (ns : List Name). part_sentence ns (renamed itself p))
    (names-kept itself (λ x. refl) names)
    ∙ ap (part_sentence names) (renamed_itself p)

-- a variable, a value or a call
pub leaf_image : {E : Type 0} (sig : Signature) (tokens : List (List ℕ)) (names : List Name)
    (p : RulePat) (image : LogicPattern) (result : Result LogicPattern E)
    → ((y : ℕ) × (p ≡ form.Var y)) ⊎ (((s : SortId) × (v : Value) × (p ≡ form.Value s v))
    ⊎ ((f : SymId) × (ss : Vec SortId) × (ps : Vec RulePat) × (p ≡ form.Call f ss ps)))
    → image_of sig tokens (plain_pattern p) ≡ Some image → IfOk result (λ q. q ≡ image)
    → IfOk result (λ q. sentence_image sig tokens (part_renamed itself names (plain_pattern p))
    ≡ Some q)
leaf_image sig tokens names p image result leaf at shared =
    if_ok (λ (q : LogicPattern). q ≡ image) (λ (q : LogicPattern).
    sentence_image sig tokens (part_renamed itself names (plain_pattern p)) ≡ Some q) result
    (λ q is. ap (sentence_image sig tokens) (part_itself names (plain_pattern p) ∙ plain_leaf leaf)
    ∙ at ∙ ap (λ (r : LogicPattern). Some r) (sym is)) shared
  where
    IsLeaf : Pattern → Type 0
    IsLeaf q = part_sentence names q ≡ term q

    plain_leaf : ((y : ℕ) × (p ≡ form.Var y)) ⊎ (((s : SortId) × (v : Value) × (p ≡ form.Value s v))
        ⊎ ((f : SymId) × (ss : Vec SortId) × (ps : Vec RulePat) × (p ≡ form.Call f ss ps)))
        → IsLeaf (plain_pattern p)
    plain_leaf (inl (y, is)) = subst IsLeaf (sym (ap plain_pattern is ∙ plain-Var y)) refl
    plain_leaf (inr (inl (s, v, is))) =
        subst IsLeaf (sym (ap plain_pattern is ∙ plain-Value s v)) refl
    plain_leaf (inr (inr (f, ss, ps, is))) =
        subst IsLeaf (sym (ap plain_pattern is ∙ plain-Call f ss ps)) refl

-- ---- arguments

both_are : (k : LogicPattern → LogicPattern → LogicPattern) (a b : Option LogicPattern)
    (p q : LogicPattern) → a ≡ Some p → b ≡ Some q → both k a b ≡ Some (k p q)
both_are k a b p q is_a is_b =
    ap (λ (o : Option LogicPattern). both k o b) is_a
    ∙ ap (λ (o : Option LogicPattern). both k (Some p) o) is_b

-- the term is in its argument
pub member_said : {E : Type 0} (a b : Context) (argument : Argument) (names : List Name)
    (t side : LogicPattern) (result : Result LogicPattern E) → HasGrown a b
    → image_of a.program.sig a.names (ground_pattern argument.term.now) ≡ Some t
    → names ≡ of_child 0 (part_names_of argument)
    → sentence_image b.program.sig b.names (left_renamed itself names (pattern_of argument))
    ≡ Some side
    → IfOk result (λ p. p ≡ logic.member t side)
    → IfOk result (λ m. sentence_image b.program.sig b.names (in_argument argument) ≡ Some m)
member_said a b argument names t side result grown is_term are is_side made =
    let whole : sentence_image b.program.sig b.names (in_argument argument)
    ≡ Some (logic.member t side) =
    both_are logic.member _ _ t side
    (image_grown a b (term (ground_pattern argument.term.now)) t grown is_term)
    (ap (λ (ns : List Name). sentence_image b.program.sig b.names
    (left_sentence ns (pattern_of argument))) (sym are)
    ∙ ap (sentence_image b.program.sig b.names) (sym (left_itself names (pattern_of argument)))
    ∙ is_side) in
    if_ok (λ (p : LogicPattern). p ≡ logic.member t side)
    (λ (m : LogicPattern).
    sentence_image b.program.sig b.names (in_argument argument) ≡ Some m) result
    (λ p is. whole ∙ ap (λ (r : LogicPattern). Some r) (sym is)) made

pub members_none : (arguments : List Argument) → all_in (drop (length arguments) arguments) ≡ top
members_none [] = refl
members_none (a ∷ arguments) = members_none arguments

pub members_next : (a b : Context) (arguments : List Argument) (i j : ℕ) (x : Argument)
    (member made new : LogicPattern) → i ≡ j + 1 → j < length arguments → x ≡ get_or arguments j x
    → HasGrown a b → sentence_image a.program.sig a.names (all_in (drop i arguments)) ≡ Some made
    → sentence_image b.program.sig b.names (in_argument x) ≡ Some member
    → new ≡ logic.and member made
    → sentence_image b.program.sig b.names (all_in (drop j arguments)) ≡ Some new
members_next a b arguments i j x member made new is low at grown before one made_is =
    let front : drop j arguments ≡ x ∷ drop (j + 1) arguments =
    drop_more arguments j x low
    ∙ ap (λ (y : Argument). y ∷ drop (j + 1) arguments) (sym at) in
    ap (λ (xs : List Argument). sentence_image b.program.sig b.names (all_in xs)) front
    ∙ both_are logic.and _ _ member made one
    (ap (λ (n : ℕ). sentence_image b.program.sig b.names (all_in (drop n arguments))) (sym is)
    ∙ image_grown a b (all_in (drop i arguments)) made grown before)
    ∙ ap (λ (r : LogicPattern). Some r) (sym made_is)

pub argument_there : (P : Argument → Type 0) (arguments : List Argument) (j : ℕ) (x : Argument)
    → j < length arguments → x ≡ get_or arguments j x → All P arguments → P x
argument_there P arguments j x low at all = subst P (sym at) (all j x low)

-- ---- the condition

-- the pattern is the image of the condition with these numbers for its variables
abbrev pub IsConditionOf : Context → (ℕ → ℕ) → List ℕ → Option Pattern → LogicPattern → Type 0
IsConditionOf cx g sorts o p =
    (c : Sentence) → condition_renamed cx.program.sig g sorts o ≡ Some c
    → sentence_image cx.program.sig cx.names c ≡ Some p

pub condition_none : {E : Type 0} (cx : Context) (g : ℕ → ℕ) (sorts : List ℕ) (o : Option Pattern)
    (result : Result LogicPattern E) → o ≡ None → IfOk result (λ p. p ≡ logic.top)
    → IfOk result (IsConditionOf cx g sorts o)
condition_none cx g sorts o result none made =
    if_ok (λ (p : LogicPattern). p ≡ logic.top) (IsConditionOf cx g sorts o) result
    (λ p is c says.
    let this : top ≡ c =
    some_same _ _ (sym (ap (condition_renamed cx.program.sig g sorts) none) ∙ says) in
    ap (sentence_image cx.program.sig cx.names) (sym this)
    ∙ ap (λ (r : LogicPattern). Some r) (sym is)) made

pub condition_some : {E : Type 0} (old a b : Context) (g : ℕ → ℕ) (sorts : List ℕ)
    (o : Option Pattern) (q : Pattern) (s : ℕ) (held value : LogicPattern)
    (result : Result LogicPattern E) → HasGrown old b → HasGrown a b → o ≡ Some q
    → sort_of old.program.sig sorts q ≡ Some s
    → image_of a.program.sig a.names (renamed g q) ≡ Some held
    → image_of b.program.sig b.names (domain_value s (truth true)) ≡ Some value
    → IfOk result (λ p. p ≡ logic.equal held value)
    → IfOk result (IsConditionOf b g sorts o)
condition_some old a b g sorts o q s held value result first grown is sort is_held is_value made =
    let sort' : sort_of b.program.sig sorts q ≡ Some s =
    ap (λ (program : Program). sort_of program.sig sorts q) first.program ∙ sort in
    if_ok (λ (p : LogicPattern). p ≡ logic.equal held value) (IsConditionOf b g sorts o) result
    (λ p p_is c says.
    let this : is_true (renamed g q) s ≡ c =
    some_same _ _ (sym (ap (condition_renamed b.program.sig g sorts) is
    ∙ ap (option_map (is_true (renamed g q))) sort') ∙ says) in
    ap (sentence_image b.program.sig b.names) (sym this)
    ∙ both_are logic.equal _ _ held value
    (image_grown a b (term (renamed g q)) held grown is_held) is_value
    ∙ ap (λ (r : LogicPattern). Some r) (sym p_is)) made

-- the condition and the arguments
pub body_said : {E : Type 0} (a b : Context) (g : ℕ → ℕ) (sorts : List ℕ) (o : Option Pattern)
    (arguments : List Argument) (condition members : LogicPattern)
    (result : Result LogicPattern E) → HasGrown a b → IsConditionOf a g sorts o condition
    → sentence_image b.program.sig b.names (all_in arguments) ≡ Some members
    → IfOk result (λ p. p ≡ logic.and condition members)
    → IfOk result (λ p. (c : Sentence) → condition_renamed b.program.sig g sorts o ≡ Some c
    → sentence_image b.program.sig b.names (and c (all_in arguments)) ≡ Some p)
body_said a b g sorts o arguments condition members result grown first second made =
    if_ok (λ (p : LogicPattern). p ≡ logic.and condition members)
    (λ (p : LogicPattern). (c : Sentence) → condition_renamed b.program.sig g sorts o ≡ Some c
    → sentence_image b.program.sig b.names (and c (all_in arguments)) ≡ Some p) result
    (λ p is c says. both_are logic.and _ _ condition members
    (image_grown a b c condition grown (first c
    (ap (λ (program : Program). condition_renamed program.sig g sorts o) (sym grown.program)
    ∙ says))) second
    ∙ ap (λ (r : LogicPattern). Some r) (sym is)) made
