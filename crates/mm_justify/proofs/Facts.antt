-- Which axioms of a program are counted as facts.
use Rattle.std.proofs.Common.{◌≡◌, ℕ, ◌+◌, Bool, true, false, List, [], ◌∷◌, ◌++◌, length}
use Rattle.std.proofs.Common.{take, Option, Some, None, inl, inr, refl, sym, ap, ◌∙◌, subst}
use Rattle.std.specs.Prelude.{◌&&◌, ◌||◌, ◌⊎◌, if◌then◌else◌, filter, bytes_eq}
use Rattle.std.specs.List.{list_any}
use Rattle.std.proofs.lemmas.Bool.{false≢true}
use Rattle.std.proofs.lemmas.List.Folds.{list_any_at}
use Rattle.std.proofs.lemmas.Slice.Eq.{bytes_eq-Decides}
use Rattle.mm_text.specs.Bytes.{Token}
use Rattle.mm_database.specs.Frames.{Hypothesis, floating, essential, Frame}
use Rattle.mm_database.specs.Assertions.{Assertion}
use Rattle.mm_header.specs.Header.{Row, header_rows}
use Rattle.mm_header.specs.HeaderRows.{header_types, is_in_row, premises, expression_of}
use Rattle.ml_pat.specs.Patterns.{Pattern}
use Rattle.ml_pat.specs.Patterns as logic
use Rattle.ml_pat.specs.Leaves.{EachLeaf}
use Rattle.ml_pat.proofs.LeafLaws.{split_true}
use Rattle.term_core.specs.Patterns.{Pattern as RulePattern, Patterns as RulePatterns, variable}
use Rattle.term_core.specs.Patterns.{domain_value, injection, call, no_pattern, more_patterns}
use Rattle.term_core.specs.Terms.{DomainValue}
use Rattle.rule_core.specs.Matching.{OccursInSome}
use Rattle.rule_core.specs.Theories.{RewriteTheory}
use Rattle.rule_core.specs.NamedParts.{Name}
use Rattle.rule_core.specs.declared.signature.Signature.{Signature}
use Rattle.ml_image.specs.Tokens.{token_of_symbol, number_in_names}
use Rattle.ml_image.specs.Images.{both, sort_image, symbol_image}
use Rattle.ml_image.specs.Sentences.{Sentence, term, symbol, apply, not, and, implies, equals}
use Rattle.ml_image.specs.Sentences.{functional, exists, next, sentence_image, for_all, variables}
use Rattle.ml_image.specs.Sentences.{apply_all}
use Rattle.ml_image.specs.Sentences.{conjunctions}
use Rattle.ml_image.specs.NamedSides.{left_sentence, applied_sides, of_child}
use Rattle.ml_image.specs.OwnAxioms.{direct, kompile, last_resort, behind_parameters}
use Rattle.ml_image.specs.OwnAxioms.{of_variables}
use Rattle.ml_image.specs.Premises.{meets}
use Rattle.ml_image.specs.OwnAxioms.{IsOwnAxiom, of_rule, of_equation, total, apart, free, subsort}
use Rattle.ml_image.specs.OwnAxioms.{collapse}
use Rattle.ml_image.specs.TrueFacts.{value_patterns, IsTrueFact, of_value, of_hook, of_unequal}
use Rattle.ml_image.specs.TrueFacts.{of_injective}
use Rattle.ml_image.proofs.ImageLaws.{some_same}
use Rattle.mm_claims.specs.OverNames.{closed_over}
use Rattle.mm_claims.specs.Blocks.{open_frame, open_assertion}
use Rattle.mm_claims.specs.ClaimVariables.{claim_of, claim_variables}
use Rattle.mm_claims.proofs.ClosedPatterns.{closed_frame_has_none}
use Rattle.mm_justify.specs.Stating.{holds_text, holds_frame, variables_in}
use Rattle.mm_justify.specs.Justifying.{typecode_in, premises_in, SaysNoMore, header_row}
use Rattle.mm_justify.specs.Justifying.{declaration, assumption_of}
use Rattle.ml_image.specs.Assumed.{IsAssumed}
use Rattle.mm_justify.specs.Counting.{begins_as_fact, has_none, assumes_nothing, says_apart}
use Rattle.mm_justify.specs.Counting.{is_fact}
use Rattle.mm_justify.specs.CountingLaws.{FactsAreTrue, TrueFactsAreFacts, IsFrameOfFact}
use Rattle.mm_justify.specs.CountingLaws.{AddsCounts, AxiomCounts}
use Rattle.mm_justify.specs.FactForms.{is_variable, is_plain_form, is_apart_form, is_fact_form}
use Rattle.mm_justify.proofs.ImageLeaves.{Known, two_leaves, sorted_leaves, sort_fact, term_leaves}
use Rattle.mm_justify.proofs.ImageLeaves.{sentence_has_no_meta}
use Rattle.mm_justify.proofs.StatedFrames.{claim_says_no_more, no_premises}
use Rattle.mm_justify.proofs.FactTexts.{image_words, says_by_form, names_unlike}
use Rattle.mm_justify.proofs.SmallTexts.{both_there, map_there}
use Rattle.mm_justify.proofs.CountedTexts.{one_if, counts_one}

-- ---- hypotheses

is_nothing : (hs : List Hypothesis) → has_none hs ≡ true → hs ≡ []
is_nothing [] h = refl
is_nothing (x ∷ hs) h = absurd (false≢true h)

-- hypotheses that type no variable and assume nothing are an empty list
none_typed : (hs : List Hypothesis) → premises_in hs ≡ [] → ((v : Token) → typecode_in hs v ≡ None)
    → hs ≡ []
none_typed [] none untyped = refl
none_typed (floating label typecode typed ∷ hs) none untyped =
    absurd (found (bytes_eq typed typed) ((bytes_eq-Decides typed typed).1 refl) (untyped typed))
  where
    found : (b : Bool) → b ≡ true → (if b then Some typecode else typecode_in hs typed) ≡ None → ⊥
    found true is h = cc
    found false is h = false≢true is
none_typed (essential label statement ∷ hs) none untyped = absurd (cc)

none_below : (f other : Frame) → SaysNoMore f other → f.hypotheses ≡ [] → other.hypotheses ≡ []
none_below f other says none =
    none_typed other.hypotheses (sym says.premises ∙ ap premises_in none)
    (λ v. sym (says.types v) ∙ ap (λ (hs : List Hypothesis). typecode_in hs v) none)

none_above : (f other : Frame) → SaysNoMore f other → other.hypotheses ≡ [] → f.hypotheses ≡ []
none_above f other says none =
    none_typed f.hypotheses (says.premises ∙ ap premises_in none)
    (λ v. says.types v ∙ ap (λ (hs : List Hypothesis). typecode_in hs v) none)

-- hypotheses that only type variables have no premises
nothing_assumed : (hs : List Hypothesis) → premises_in hs ≡ [] → assumes_nothing hs ≡ true
nothing_assumed [] none = refl
nothing_assumed (floating label typecode typed ∷ hs) none = nothing_assumed hs none
nothing_assumed (essential label statement ∷ hs) none = absurd (cc)

-- ---- statements

-- a clause for one connective of a shape makes the last clause go through its others
begins_by_form : (names : List Token) (p : Pattern)
    → begins_as_fact (holds_text names p) ≡ is_plain_form p
begins_by_form names (logic.not p) = refl
begins_by_form names (logic.equal p q) = refl
begins_by_form names (logic.fun p s) = refl
begins_by_form names (logic.ex x s p) = refl
begins_by_form names p = refl

-- ---- what a definition says

-- no image of the sentence has the form of a fact
abbrev NoFact : Signature → List Token → Sentence → Type 0
NoFact sig names s =
    (p : Pattern) → sentence_image sig names s ≡ Some p
    → (is_plain_form p ≡ false) × (is_apart_form p ≡ false)

no_form : (q p : Pattern) → p ≡ q → is_plain_form q ≡ false → is_apart_form q ≡ false
    → (is_plain_form p ≡ false) × (is_apart_form p ≡ false)
no_form q p is plain lacks = (ap is_plain_form is ∙ plain, ap is_apart_form is ∙ lacks)

implies_no : (sig : Signature) (names : List Token) (a b c : Sentence)
    → NoFact sig names (implies (and a b) c)
implies_no sig names a b c p is =
    let w =
    both_there logic.imp (sentence_image sig names (and a b)) (sentence_image sig names c) p is in
    let v =
    both_there logic.and (sentence_image sig names a) (sentence_image sig names b) w.0 w.2 in
    no_form (logic.imp (logic.and v.0 v.1) w.1) p
    (w.4 ∙ ap (λ (q : Pattern). logic.imp q w.1) v.4) refl refl

-- an equation of a function is no equality of variables
abbrev NoVariable : Option Pattern → Type 0
NoVariable o = (p : Pattern) → o ≡ Some p → is_variable p ≡ false

symbol_no_variable : (sig : Signature) (names : List Token) (f : ℕ)
    → NoVariable (symbol_image sig names f)
symbol_no_variable sig names f p is =
    let w = map_there logic.constant (number_in_names names (token_of_symbol sig f)) p is in
    ap is_variable w.2

sides_no_variable : (sig : Signature) (names : List Token) (parts : List Name) (k : ℕ)
    (head : Sentence) (ps : RulePatterns) → NoVariable (sentence_image sig names head)
    → NoVariable (sentence_image sig names (applied_sides parts k head ps))
sides_no_variable sig names parts k head no_pattern lacks = lacks
sides_no_variable sig names parts k head (more_patterns q qs) lacks =
    let side : Sentence = left_sentence (of_child k parts) q in
    sides_no_variable sig names parts (k + 1) (apply head side) qs
    (λ p is. ap is_variable
    (both_there logic.app (sentence_image sig names head) (sentence_image sig names side) p is).4)

apply_no_variable : (sig : Signature) (names : List Token) (qs : List Sentence) (head : Sentence)
    → NoVariable (sentence_image sig names head)
    → NoVariable (sentence_image sig names (apply_all head qs))
apply_no_variable sig names [] head lacks = lacks
apply_no_variable sig names (q ∷ qs) head lacks =
    apply_no_variable sig names qs (apply head q)
    (λ p is. ap is_variable
    (both_there logic.app (sentence_image sig names head) (sentence_image sig names q) p is).4)

equates_no : (a f r : Pattern) → is_variable f ≡ false
    → is_apart_form (logic.imp a (logic.equal f r)) ≡ false
equates_no (logic.equal u v) (logic.var x) r lacks = absurd (false≢true (sym lacks))
equates_no (logic.equal u v) f r lacks = refl
equates_no a f r lacks = refl

equation_no : (sig : Signature) (names : List Token) (c f r : Sentence)
    → NoVariable (sentence_image sig names f) → NoFact sig names (implies c (equals f r))
equation_no sig names c f r lacks p is =
    let w =
    both_there logic.imp (sentence_image sig names c) (sentence_image sig names (equals f r)) p is
    in
    let v =
    both_there logic.equal (sentence_image sig names f) (sentence_image sig names r) w.1 w.3 in
    no_form (logic.imp w.0 (logic.equal v.0 v.1)) p (w.4 ∙ ap (logic.imp w.0) v.4) refl
    (equates_no w.0 v.0 v.1 (lacks v.0 v.2))

exists_no : (sig : Signature) (names : List Token) (x s : ℕ) (a : Sentence)
    → NoFact sig names (exists x s a)
exists_no sig names x s a p is =
    let w = both_there (logic.ex x) (sort_image sig names s) (sentence_image sig names a) p is in
    no_form (logic.ex x w.0 w.1) p w.4 refl refl

not_no : (sig : Signature) (names : List Token) (a b : Sentence) → NoFact sig names (not (and a b))
not_no sig names a b p is =
    let w = map_there logic.not (sentence_image sig names (and a b)) p is in
    let v =
    both_there logic.and (sentence_image sig names a) (sentence_image sig names b) w.0 w.1 in
    no_form (logic.not (logic.and v.0 v.1)) p (w.2 ∙ ap logic.not v.4) refl refl

abbrev NoApart : Signature → List Token → Sentence → Type 0
NoApart sig names s =
    (p : Pattern) → sentence_image sig names s ≡ Some p → is_apart_form p ≡ false

some_no : (sig : Signature) (names : List Token) (k x : ℕ) (ss : List ℕ) (a : Sentence)
    → NoApart sig names (for_all (k + 1) ss a) → NoFact sig names (for_all k (x ∷ ss) a)
some_no sig names k x ss a lacks p is =
    let w =
    both_there (logic.all k) (sort_image sig names x)
    (sentence_image sig names (for_all (k + 1) ss a)) p is in
    no_form (logic.all k w.0 w.1) p w.4 refl (lacks w.1 w.3)

closed_no : (sig : Signature) (names : List Token) (k : ℕ) (ss : List ℕ) (a : Sentence)
    → NoFact sig names a → NoFact sig names (for_all k ss a)
closed_no sig names k [] a lacks = lacks
closed_no sig names k (x ∷ ss) a lacks =
    some_no sig names k x ss a (λ p is. (closed_no sig names (k + 1) ss a lacks p is).1)

equals_no : (sig : Signature) (names : List Token) (a b : Sentence)
    → NoApart sig names (equals a b)
equals_no sig names a b p is =
    let w =
    both_there logic.equal (sentence_image sig names a) (sentence_image sig names b) p is in
    ap is_apart_form w.4

own_no : (theory : RewriteTheory) (names : List Token) (s : Sentence) → IsOwnAxiom theory s
    → NoFact theory.sig names s
own_no theory names s (of_rule r there says) =
    subst (NoFact theory.sig names) (sym says.says) (closed_no theory.sig names 0 r.variables _
    (implies_no theory.sig names (left_sentence (of_child 0 r.names) r.left) says.condition
    (next (term r.right))))
own_no theory names s (of_equation f e there (direct c ordinary none says is)) =
    subst (NoFact theory.sig names) (sym is) (closed_no theory.sig names 0 e.variables _
    (equation_no theory.sig names c (applied_sides e.names 0 (symbol f) e.arguments) (term e.right)
    (sides_no_variable theory.sig names e.names 0 (symbol f) e.arguments
    (symbol_no_variable theory.sig names f))))
own_no theory names s
    (of_equation f e there (kompile c info sorts sort ordinary some many declared says is)) =
    subst (NoFact theory.sig names) (sym is) (closed_no theory.sig names 0
    (behind_parameters sorts e).variables _ (implies_no theory.sig names c
    (meets (behind_parameters sorts e).names 0 (behind_parameters sorts e).arguments)
    (equals (of_variables f 0 (length sorts)) (term (behind_parameters sorts e).right))))
own_no theory names s (of_equation f e there
    (last_resort guards g c info sorts sort last some many declared tells says is)) =
    subst (NoFact theory.sig names) (sym is) (closed_no theory.sig names 0
    (behind_parameters sorts e).variables _ (implies_no theory.sig names (not g)
    (and c (meets (behind_parameters sorts e).names 0 (behind_parameters sorts e).arguments))
    (equals (of_variables f 0 (length sorts)) (term (behind_parameters sorts e).right))))
own_no theory names s (total f says) =
    subst (NoFact theory.sig names) (sym says.says) (closed_no theory.sig names 0 says.sorts _
    (exists_no theory.sig names (length says.sorts) says.sort
    (equals (term (variable (length says.sorts))) (of_variables f 0 (length says.sorts)))))
own_no theory names s (apart f g says) =
    subst (NoFact theory.sig names) (sym says.says) (closed_no theory.sig names 0
    (says.sorts ++ says.others) _ (not_no theory.sig names
    (of_variables f 0 (length says.sorts))
    (of_variables g (length says.sorts) (length says.others))))
own_no theory names s (free f says) =
    subst (NoFact theory.sig names) (sym says.says) (closed_no theory.sig names 0
    (says.sorts ++ says.sorts) _ (implies_no theory.sig names
    (of_variables f 0 (length says.sorts))
    (of_variables f (length says.sorts) (length says.sorts)) (apply_all (symbol f)
    (conjunctions (variables 0 (length says.sorts))
    (variables (length says.sorts) (length says.sorts))))))
own_no theory names s (subsort a b says) =
    subst (NoFact theory.sig names) (sym says.says) (closed_no theory.sig names 0 (a ∷ [])
    (exists 1 b (equals (term (variable 1)) (term (injection a b (variable 0)))))
    (exists_no theory.sig names 1 b
    (equals (term (variable 1)) (term (injection a b (variable 0))))))
own_no theory names s (collapse a b c says) =
    subst (NoFact theory.sig names) (sym says.says) (some_no theory.sig names 0 a []
    (equals (term (injection b c (injection a b (variable 0))))
    (term (injection a c (variable 0))))
    (equals_no theory.sig names (term (injection b c (injection a b (variable 0))))
    (term (injection a c (variable 0)))))

-- ---- true facts

no_variable : (sorts : List ℕ) (vs : List DomainValue) (x : ℕ)
    → OccursInSome x (value_patterns sorts vs) → ⊥
no_variable [] vs x h = h
no_variable (s ∷ ss) [] x h = h
no_variable (s ∷ ss) (v ∷ vs) x (inl h) = h
no_variable (s ∷ ss) (v ∷ vs) x (inr h) = no_variable ss vs x h

closed_known : (names : List Token) → Known names (closed_over names)
closed_known names = record { sorts = λ n k t. k; constants = λ n k t. k }

-- the image of a fact about a value or a hook is closed
abbrev IsPlainFact : List Token → Pattern → Type 0
IsPlainFact names p = (is_plain_form p ≡ true) × EachLeaf (closed_over names) p

value_image : (sig : Signature) (names : List Token) (sort : ℕ) (v : DomainValue) (p : Pattern)
    → sentence_image sig names (functional (term (domain_value sort v)) sort) ≡ Some p
    → IsPlainFact names p
value_image sig names sort v p is =
    let w =
    both_there logic.fun (sentence_image sig names (term (domain_value sort v)))
    (sort_image sig names sort) p is in (
      ap is_plain_form w.4,
      sorted_leaves (closed_over names) logic.fun (λ x n hx hn. (hx, hn)) _ _
          (term_leaves sig names (closed_over names) (closed_known names) (domain_value sort v)
          (λ x h. absurd h))
          (sort_fact sig names (closed_over names) (closed_known names) sort) p is,
    )

hook_image : (sig : Signature) (names : List Token) (f sort : ℕ) (sorts : List ℕ)
    (vs : List DomainValue) (v : DomainValue) (p : Pattern)
    → sentence_image sig names
    (equals (term (call f [] (value_patterns sorts vs))) (term (domain_value sort v))) ≡ Some p
    → IsPlainFact names p
hook_image sig names f sort sorts vs v p is =
    let left : RulePattern = call f [] (value_patterns sorts vs) in
    let right : RulePattern = domain_value sort v in
    let w =
    both_there logic.equal (sentence_image sig names (term left))
    (sentence_image sig names (term right)) p is in (
      ap is_plain_form w.4,
      two_leaves (closed_over names) logic.equal (λ x y hx hy. (hx, hy)) _ _
          (term_leaves sig names (closed_over names) (closed_known names) left
          (λ x h. absurd (no_variable sorts vs x h)))
          (term_leaves sig names (closed_over names) (closed_known names) right
          (λ x h. absurd h)) p is,
    )

-- those of the others have their form below their quantifiers
abbrev HasApart : Signature → List Token → Sentence → Type 0
HasApart sig names s =
    (p : Pattern) → sentence_image sig names s ≡ Some p → is_apart_form p ≡ true

closed_has : (sig : Signature) (names : List Token) (k : ℕ) (ss : List ℕ) (a : Sentence)
    → HasApart sig names a → HasApart sig names (for_all k ss a)
closed_has sig names k [] a has = has
closed_has sig names k (x ∷ ss) a has =
    λ p is. (let w =
    both_there (logic.all k) (sort_image sig names x)
    (sentence_image sig names (for_all (k + 1) ss a)) p is in
    ap is_apart_form w.4 ∙ closed_has sig names (k + 1) ss a has w.1 w.3)

unequal_has : (sig : Signature) (names : List Token) (a b : Sentence)
    → HasApart sig names (not (equals a b))
unequal_has sig names a b p is =
    let w = map_there logic.not (sentence_image sig names (equals a b)) p is in
    let v =
    both_there logic.equal (sentence_image sig names a) (sentence_image sig names b) w.0 w.1 in
    ap is_apart_form (w.2 ∙ ap logic.not v.4)

injective_has : (sig : Signature) (names : List Token) (a b : Sentence) (x y : ℕ)
    → HasApart sig names (implies (equals a b) (equals (term (variable x)) (term (variable y))))
injective_has sig names a b x y p is =
    let w =
    both_there logic.imp (sentence_image sig names (equals a b))
    (Some (logic.equal (logic.var x) (logic.var y))) p is in
    let v =
    both_there logic.equal (sentence_image sig names a) (sentence_image sig names b) w.0 w.2 in
    ap is_apart_form
    (w.4 ∙ ap (λ (q : Pattern). logic.imp q w.1) v.4
    ∙ ap (logic.imp (logic.equal v.0 v.1)) (sym (some_same _ _ w.3)))

-- the image of a true fact has one of the two forms
fact_image : (sig : Signature) (names : List Token) (s : Sentence) (p : Pattern) → IsTrueFact sig s
    → sentence_image sig names s ≡ Some p → IsPlainFact names p ⊎ (is_apart_form p ≡ true)
fact_image sig names s p (of_value sort v says) image =
    inl (value_image sig names sort v p
    (ap (sentence_image sig names) (sym says.says) ∙ image))
fact_image sig names s p (of_hook f vs says) image =
    inl (hook_image sig names f says.sort says.sorts vs says.value p
    (ap (sentence_image sig names) (sym says.says) ∙ image))
fact_image sig names s p (of_unequal left right says) image =
    inr (closed_has sig names 0 says.sorts (not (equals (term left) (term right))) (unequal_has sig names (term left) (term right)) p
    (ap (sentence_image sig names) (sym says.says) ∙ image))
fact_image sig names s p (of_injective a b says) image =
    inr (closed_has sig names 0 (a ∷ a ∷ [])
    (implies
    (equals (term (injection a b (variable 0))) (term (injection a b (variable 1))))
    (equals (term (variable 0)) (term (variable 1))))
    (injective_has sig names (term (injection a b (variable 0)))
    (term (injection a b (variable 1))) 0 1) p
    (ap (sentence_image sig names) (sym says.says) ∙ image))

-- ---- what is counted

-- the two ways in which an assertion is a fact
abbrev IsPlainlyStated : Assertion → Type 0
IsPlainlyStated a =
    (has_none a.frame.hypotheses ≡ true) × (begins_as_fact a.frame.statement ≡ true)

abbrev IsStatedApart : Assertion → Type 0
IsStatedApart a =
    (assumes_nothing a.frame.hypotheses ≡ true) × (says_apart a.frame.statement ≡ true)

counted : (a : Assertion) → a.is_proved ≡ false → IsPlainlyStated a ⊎ IsStatedApart a
    → is_fact a ≡ true
counted a unproved (inl (none, begins)) = rw (unproved, none, begins) refl
counted a unproved (inr (nothing, says)) =
    rw (unproved, nothing, says)
    (last (has_none a.frame.hypotheses && begins_as_fact a.frame.statement))
  where
    last : (b : Bool) → (b || true) ≡ true
    last true = refl
    last false = refl

either : (a b : Bool) → (a || b) ≡ true → (a ≡ true) ⊎ (b ≡ true)
either true b h = inl refl
either false b h = inr h

parts : (a : Assertion) → is_fact a ≡ true → IsPlainlyStated a ⊎ IsStatedApart a
parts a is =
    let outer = split_true _ _ is in
    go (either (has_none a.frame.hypotheses && begins_as_fact a.frame.statement)
    (assumes_nothing a.frame.hypotheses && says_apart a.frame.statement) outer.1)
  where
    go : ((has_none a.frame.hypotheses && begins_as_fact a.frame.statement) ≡ true)
        ⊎ ((assumes_nothing a.frame.hypotheses && says_apart a.frame.statement) ≡ true)
        → IsPlainlyStated a ⊎ IsStatedApart a
    go (inl h) = inl (split_true _ _ h)
    go (inr h) = inr (split_true _ _ h)

-- no row of the header is a fact
abbrev row_is_fact : Row → Bool
row_is_fact r = has_none (filter (is_in_row r) header_types ++ premises r)
    && begins_as_fact (expression_of r.statement)

no_row : list_any row_is_fact header_rows ≡ false
unfolding header_rows
no_row = refl

abbrev row_says_apart : Row → Bool
row_says_apart r = says_apart (expression_of r.statement)

no_row_apart : list_any row_says_apart header_rows ≡ false
unfolding header_rows
no_row_apart = refl

pub facts_are_true : FactsAreTrue
facts_are_true theory a (header_row r other (k, lt, at) fits says) is = absurd (go (parts a is))
  where
    row_made : (q : Row) → filter (is_in_row q) header_types ++ premises q ≡ []
        → begins_as_fact (expression_of q.statement) ≡ true → row_is_fact q ≡ true
    row_made q none begins = rw (none, begins) refl

    go : IsPlainlyStated a ⊎ IsStatedApart a → ⊥
    go (inl both) =
        let none : filter (is_in_row r) header_types ++ premises r ≡ [] =
        sym fits.hypotheses
        ∙ none_below a.frame other says (is_nothing a.frame.hypotheses both.0) in
        let begins : begins_as_fact (expression_of r.statement) ≡ true =
        ap begins_as_fact (sym (says.statement ∙ fits.statement)) ∙ both.1 in
        let row : row_is_fact r ≡ true = row_made r none begins in
        false≢true
        (sym no_row ∙ list_any_at row_is_fact header_rows k r lt (ap row_is_fact at ∙ row))
    go (inr both) =
        let row : row_says_apart r ≡ true =
        ap says_apart (sym (says.statement ∙ fits.statement)) ∙ both.1 in
        false≢true
        (sym no_row_apart
        ∙ list_any_at row_says_apart header_rows k r lt (ap row_says_apart at ∙ row))
facts_are_true theory a (declaration token own says) is = absurd (go (parts a is))
  where
    go : IsPlainlyStated a ⊎ IsStatedApart a → ⊥
    go (inl both) = false≢true (sym (ap begins_as_fact says.statement) ∙ both.1)
    go (inr both) =
        false≢true (sym (ap says_apart says.statement ∙ names_unlike token) ∙ both.1)
facts_are_true theory a (assumption_of names s p (inl own) image says) is =
    absurd (go (parts a is))
  where
    lacks : (is_plain_form p ≡ false) × (is_apart_form p ≡ false)
    lacks = own_no theory names s own p image

    go : IsPlainlyStated a ⊎ IsStatedApart a → ⊥
    go (inl both) =
        false≢true (sym lacks.0
        ∙ sym (ap begins_as_fact says.statement ∙ begins_by_form names p) ∙ both.1)
    go (inr both) =
        false≢true (sym lacks.1
        ∙ sym (ap says_apart says.statement
        ∙ says_by_form names p (image_words theory.sig names s p image)) ∙ both.1)
facts_are_true theory a (assumption_of names s p (inr fact) image says) is = record {
  names = names;
  sentence = s;
  image = p;
  fact = fact;
  image_is = image;
  says = says;
}

-- the frame that says that the image of a fact holds
fact_stated : (theory : RewriteTheory) (a : Assertion) → a.is_proved ≡ false
    → (frame : IsFrameOfFact theory a.frame) → IsPlainlyStated a ⊎ IsStatedApart a
fact_stated theory a unproved frame =
    go (fact_image theory.sig frame.names frame.sentence frame.image frame.fact frame.image_is)
  where
    stated : Frame
    stated = holds_frame frame.names frame.image

    go : IsPlainFact frame.names frame.image ⊎ (is_apart_form frame.image ≡ true)
        → IsPlainlyStated a ⊎ IsStatedApart a
    go (inl plain) =
        inl (
          ap has_none (none_above a.frame stated frame.says
              (none_below (open_frame frame.names 0 (claim_of [] frame.image)) stated
              (claim_says_no_more frame.names 0 frame.image
              (sentence_has_no_meta theory.sig frame.names frame.sentence frame.image
              frame.image_is))
              (closed_frame_has_none frame.names 0 frame.image plain.1))),
          ap begins_as_fact frame.says.statement ∙ begins_by_form frame.names frame.image
              ∙ plain.0,
        )
    go (inr other) =
        inr (
          nothing_assumed a.frame.hypotheses
              (frame.says.premises ∙ no_premises (variables_in frame.image)),
          ap says_apart frame.says.statement
              ∙ says_by_form frame.names frame.image
              (image_words theory.sig frame.names frame.sentence frame.image frame.image_is)
              ∙ other,
        )

pub true_facts_are_facts : TrueFactsAreFacts
true_facts_are_facts theory a unproved frame =
    counted a unproved (fact_stated theory a unproved frame)

pub axiom_counts : AxiomCounts
axiom_counts theory names old new s p bytes appended assumed image gains fits =
    let a : Assertion = open_assertion false declared old.count (claim_of [] p) in
    subst (λ n. AddsCounts n 1 bytes (bytes ++ appended)) (ap one_if (same assumed))
    (counts_one bytes appended old.count (claim_variables [] p) a (gains.just bytes fits))
  where
    declared : List Token
    declared = take old.named names

    said : says_apart (holds_text declared p) ≡ is_apart_form p
    said = says_by_form declared p (image_words theory.sig declared s p image)

    uncounted : (none nothing plain other : Bool) → plain ≡ false → other ≡ false
        → ((none && plain) || (nothing && other)) ≡ (plain || other)
    uncounted true true plain other h k = rw (h, k) refl
    uncounted true false plain other h k = rw (h, k) refl
    uncounted false true plain other h k = rw (h, k) refl
    uncounted false false plain other h k = rw (h, k) refl

    first : (a b : Bool) → a ≡ true → (a || b) ≡ true
    first true b h = refl
    first false b h = absurd (false≢true h)

    last : (a b : Bool) → b ≡ true → (a || b) ≡ true
    last true b h = refl
    last false b h = h

    formed : IsPlainFact declared p ⊎ (is_apart_form p ≡ true) → is_fact_form p ≡ true
    formed (inl plain) = first (is_plain_form p) (is_apart_form p) plain.0
    formed (inr other) = last (is_plain_form p) (is_apart_form p) other

    same : IsAssumed theory s
        → is_fact (open_assertion false declared old.count (claim_of [] p)) ≡ is_fact_form p
    same (inl own) =
        let lacks = own_no theory declared s own p image in
        let hs : List Hypothesis = (open_frame declared old.count (claim_of [] p)).hypotheses in
        rw (begins_by_form declared p, said)
        (uncounted (has_none hs) (assumes_nothing hs) (is_plain_form p) (is_apart_form p)
        lacks.0 lacks.1)
    same (inr fact) =
        true_facts_are_facts theory (open_assertion false declared old.count (claim_of [] p)) refl
        (record {
          names = declared;
          sentence = s;
          image = p;
          fact = fact;
          image_is = image;
          says =
              claim_says_no_more declared old.count p
              (sentence_has_no_meta theory.sig declared s p image);
        })
        ∙ sym (formed (fact_image theory.sig declared s p fact image))
