-- A small text that justifies a run, and an axiom that no theory has.
use Rattle.std.proofs.Common.{◌≡◌, ℕ, ◌+◌, ◌<◌, Bool, true, false, List, [], ◌∷◌, ◌++◌, map, length}
use Rattle.std.proofs.Common.{zero, suc, Option, Some, None, option_map, inl, inr, refl, sym, ap}
use Rattle.std.proofs.Common.{◌∙◌, subst, arith, append_assoc}
use Rattle.std.specs.Prelude.{◌==◌, ◌||◌, ◌⊎◌, if◌then◌else◌, codes, decimal, bytes_eq}
use Rattle.std.specs.Prelude.{slice_index_or}
use Rattle.std.proofs.lemmas.Bool.{false≢true}
use Rattle.std.proofs.lemmas.Fmt.{decimal_by_steps}
use Rattle.std.proofs.lemmas.Slice.Eq.{bytes_eq-Decides}
use Rattle.mm_text.specs.Bytes.{Token, has_token}
use Rattle.mm_database.specs.Forms.{declares_constants, asserts}
use Rattle.mm_database.specs.Assertions.{assertions_of}
use Rattle.mm_database.specs.Proofs.{proof_node, no_proof, more_proofs}
use Rattle.mm_database.specs.Steps.{cites, by_label, no_steps, more_steps}
use Rattle.mm_header.specs.Header.{Row, header_rows}
use Rattle.mm_header.specs.HeaderText.{header_bytes}
use Rattle.mm_header.specs.HeaderRows.{expression_of}
use Rattle.ml_pat.specs.Patterns.{Pattern, imp, ev, constant}
use Rattle.ml_pat.specs.Patterns as logic
use Rattle.ml_kernel.specs.Rules.{pattern, ev_1}
use Rattle.ml_kernel.specs.Theorems.{Derivation, by_rule, no_derivation}
use Rattle.ml_kernel.specs.Concluding.{Concludes}
use Rattle.ml_kernel.specs.declared.rules.Rule.TheVariants as rule
use Rattle.rule_core.specs.Theories.{RewriteTheory}
use Rattle.ml_image.specs.Tokens.{token_of_symbol, number_in_names}
use Rattle.term_core.specs.Terms.{truth}
use Rattle.term_core.specs.Patterns.{Pattern as RulePattern, variable, domain_value, injection}
use Rattle.term_core.specs.Patterns.{call}
use Rattle.rule_core.specs.declared.signature.Signature.{Signature}
use Rattle.ml_image.specs.Images.{both, image_of, sort_image}
use Rattle.ml_image.specs.Sentences.{Sentence, term, symbol, top, not, and, implies, equals, exists}
use Rattle.ml_image.specs.Sentences.{functional, next, sentence_image, for_all, variables}
use Rattle.ml_image.specs.Sentences.{apply_all, conjunctions}
use Rattle.ml_image.specs.NamedSides.{left_sentence, applied_sides, of_child}
use Rattle.ml_image.specs.Premises.{is_true, sort_of, condition_sentence, meets}
use Rattle.ml_image.specs.OwnAxioms.{direct, kompile, last_resort}
use Rattle.ml_image.specs.OwnAxioms.{behind_parameters, of_variables, IsOwnAxiom, of_rule}
use Rattle.ml_image.specs.OwnAxioms.{of_equation, total, apart, free, subsort, collapse}
use Rattle.ml_image.specs.TrueFacts.{value_patterns, IsTrueFact, of_value, of_hook, of_unequal}
use Rattle.ml_image.specs.TrueFacts.{of_injective}
use Rattle.ml_image.specs.OwnTokens.{is_symbol_token}
use Rattle.ml_image.proofs.ImageLaws.{none_some, some_same}
use Rattle.ml_pat.specs.Leaves.{EachLeaf}
use Rattle.mm_proof.specs.Tokens.{name_of}
use Rattle.mm_proof.specs.Labels.{name_label}
use Rattle.ml_pat.proofs.LeafLaws.{both_true}
use Rattle.mm_claims.proofs.BoolLaws.{either_true}
use Rattle.mm_claims.proofs.StatedLaws.{itself}
use Rattle.mm_justify.specs.Stating.{holds_text}
use Rattle.mm_justify.proofs.StatedFrames.{all_names}
use Rattle.mm_claims.specs.Statements.{symbol_name, typecode_of, all_name_statements}
use Rattle.mm_claims.specs.Fitting.{AreNames}
use Rattle.mm_claims.specs.OverNames.{closed_over}
use Rattle.mm_claims.specs.Blocks.{Claim, IsClaim, open_frame, open_assertion, theorem_statements}
use Rattle.mm_claims.specs.CitedAt.{at_places, ArePremises}
use Rattle.mm_claims.specs.Claiming.{FitsClaims, IsProofOfClaim, GainsExactly}
use Rattle.mm_claims.specs.Provable.{IsProvable}
use Rattle.mm_justify.specs.Justifying.{header_row, declaration, assumption_of, HasOnlyAxiomsOf}
use Rattle.mm_justify.specs.Justifying.{Justifies}
use Rattle.ml_image.specs.Assumed.{IsAssumed}
use Rattle.mm_justify.specs.JustifyingCases.{small_text, alone, SmallJustifies, conclusion}
use Rattle.mm_justify.specs.JustifyingCases.{ConclusionIsNoAxiom}
use Rattle.mm_claims.proofs.OpenFits.{header_fits_claims, claims_are_valid, theorem_fits}
use Rattle.mm_claims.proofs.OpenFits.{theorem_is_gained}
use Rattle.mm_claims.proofs.NamedClaims.{names_fit_claims}
use Rattle.mm_justify.proofs.Allowing.{has_only_just}
use Rattle.mm_justify.proofs.DeclaredStates.{declared_behind}
use Rattle.mm_justify.proofs.HeaderStates.{header_has_only}
use Rattle.mm_database.specs.StatementTexts.{written_statements, plain_tokens, proof_tokens}

-- a small text

abbrev names : List Token
names = codes "f:a" ∷ []

abbrev reached : Pattern
reached = imp (constant 0) (ev (constant 0))

abbrev one_rule : Derivation
one_rule = by_rule rule.Ev1 (pattern (constant 0) ∷ []) no_derivation

abbrev claim : Claim
claim = record { variables = []; hypotheses = []; conclusion = reached }

-- nothing is cited
abbrev nowhere : List Pattern → Pattern → ℕ
nowhere own q = 0

abbrev no_premise : Pattern → ℕ
no_premise p = 0

abbrev declarations : List ℕ
declarations = written_statements (all_name_statements 0 names)

-- the proof lists its two labels
abbrev proof : List Token
proof =
    codes "(" ∷ (name_label 0 ∷ (codes "ev.1" ∷ (codes ")" ∷ (codes "AB" ∷ []))))

compressed : IsProofOfClaim names 0 (at_places [] nowhere) no_premise claim one_rule proof
compressed = record {
  listed = name_label 0 ∷ codes "ev.1" ∷ [];
  letters = codes "AB";
  steps = cites (name_label 0) ∷ cites (codes "ev.1") ∷ [];
  saved = [];
  is = refl;
  once = refl;
  others = refl;
  used =
      both_true (has_token (name_label 0 ∷ codes "ev.1" ∷ []) (name_label 0)) true
      (either_true (bytes_eq (name_label 0) (name_label 0)) _ (itself (name_label 0))) refl;
  means = refl;
  builds =
      by_label [] (cites (name_label 0) ∷ []) (codes "ev.1")
      (more_proofs (proof_node (name_label 0) no_proof) no_proof) []
      (more_steps [] (cites (name_label 0) ∷ []) (proof_node (name_label 0) no_proof) [] []
      no_proof [] (by_label [] [] (name_label 0) no_proof [] (no_steps [])) (no_steps []));
}

abbrev theorem : List ℕ
theorem = written_statements (theorem_statements names 0 claim [] proof)

are_names : AreNames names
are_names = (record { kind = symbol_name; rest = codes "a"; is = refl; bytes = refl }, tt)

declared_fits : FitsClaims names [] (header_bytes ++ declarations)
declared_fits =
    names_fit_claims [] names [] header_bytes header_fits_claims are_names (tt, tt) (omega arith)

closed_constant : EachLeaf (closed_over names) (constant 0)
closed_constant = (omega arith, refl)

is_claim : IsClaim names claim
is_claim = record {
  once = refl;
  numbered = tt;
  stand = refl;
  over = ((closed_constant, closed_constant), tt);
  few = omega arith;
}

concludes : Concludes [] one_rule reached
concludes = ([], (ev_1 (constant 0), tt))

no_premises : ArePremises [] no_premise
no_premises p (k, lt, is) = absurd (omega (arith, lt))

provable : IsProvable names [] claim [] one_rule nowhere no_premise
provable = record {
  once = refl;
  numbered = tt;
  concludes = concludes;
  used = ((closed_constant, tt), tt);
  cites = tt;
  premises = no_premises;
}

decimal_zero : decimal 0 ≡ codes "0"
decimal_zero =
    decimal_by_steps (λ m ds. m ≡ 0 → ds ≡ 48 ∷ [])
    (λ m small none. ap (λ (n : ℕ). (48 + n) ∷ []) none)
    (λ m ds large below none. absurd (omega (arith, large, none))) 0 (omega arith) refl

-- the text after the header, with the digits of 0
abbrev spelt_with : List ℕ → List ℕ
spelt_with digits =
    written_statements (plain_tokens [] declares_constants (codes "f:a" ∷ [])
    ∷ plain_tokens ((codes "n." ++ digits) ∷ []) asserts (codes "#Pattern" ∷ codes "f:a" ∷ [])
    ∷ [])
    ++ written_statements (proof_tokens ((codes "t." ++ digits) ∷ [])
    (holds_text names reached) (codes "(" ∷ (codes "n." ++ digits) ∷ codes "ev.1" ∷ codes ")"
    ∷ codes "AB" ∷ [])
    ∷ [])

spelt_behind : declarations ++ theorem ≡ spelt_with (decimal 0)
spelt_behind = refl

text_spelt : (header_bytes ++ declarations) ++ theorem ≡ small_text
text_spelt =
    append_assoc header_bytes declarations theorem
    ∙ ap (λ (text : List ℕ). header_bytes ++ text) spelt_behind
    ∙ ap (λ (digits : List ℕ). header_bytes ++ spelt_with digits) decimal_zero

small_image : (theory : RewriteTheory) (f : ℕ) → token_of_symbol theory.sig f ≡ Some (codes "f:a")
    → image_of theory.sig names (alone f) ≡ Some (constant 0)
small_image theory f there = ap (λ (o : Option Token).
    option_map constant (number_in_names names o)) there

small_text_justifies : (theory : RewriteTheory) (f : ℕ)
    → token_of_symbol theory.sig f ≡ Some (codes "f:a")
    → Justifies small_text theory names (constant 0) (constant 0)
small_text_justifies theory f there =
    let before : HasOnlyAxiomsOf theory (header_bytes ++ declarations) =
    declared_behind theory [] names [] header_bytes header_fits_claims are_names (tt, tt)
    (omega arith) (is_symbol_token f there, tt) (header_has_only theory) in
    let fits : FitsClaims names (claim ∷ []) ((header_bytes ++ declarations) ++ theorem) =
    theorem_fits names [] (header_bytes ++ declarations) claim [] one_rule nowhere no_premise proof
    declared_fits (omega arith) is_claim provable compressed in
    let just : GainsExactly (header_bytes ++ declarations) theorem 0 []
    (open_assertion true names 0 claim) =
    theorem_is_gained names [] (header_bytes ++ declarations) claim [] one_rule nowhere
    no_premise proof declared_fits (omega arith) is_claim provable compressed in
    subst (λ (bytes : List ℕ). Justifies bytes theory names (constant 0) (constant 0)) text_spelt
    (record {
      valid = claims_are_valid names (claim ∷ []) ((header_bytes ++ declarations) ++ theorem) fits;
      only =
          has_only_just theory (header_bytes ++ declarations) theorem 0 []
          (open_assertion true names 0 claim) before
          (λ never. absurd (false≢true (sym never)), tt) just;
      before = assertions_of (header_bytes ++ declarations);
      last = open_frame names 0 claim;
      assertions = just.assertions;
      no_hypotheses = refl;
      are_names = all_names names are_names;
      distinct = (tt, tt);
      closed = (closed_constant, closed_constant);
      says = refl;
    })

pub small_justifies : SmallJustifies
small_justifies theory f there = record {
  names = names;
  from = constant 0;
  to = constant 0;
  from_image = small_image theory f there;
  to_image = small_image theory f there;
  justifies = small_text_justifies theory f there;
}

-- an axiom that no theory has

-- no row has this token at this place
rows_differ : has_token (map (λ (r : Row). name_of (expression_of r.statement) 3) header_rows)
    (codes "f:a") ≡ false
unfolding header_rows
rows_differ = refl

is_there : (g : Row → Token) (rows : List Row) (k : ℕ) (d : Row) → k < length rows
    → has_token (map g rows) (g (slice_index_or rows k d)) ≡ true
is_there g [] k d lt = absurd (omega (arith, lt))
is_there g (r ∷ rows) zero d lt =
    first (bytes_eq (g r) (g r)) ((bytes_eq-Decides (g r) (g r)).1 refl)
  where
    first : (b : Bool) → b ≡ true → (b || has_token (map g rows) (g r)) ≡ true
    first b h = rw h refl
is_there g (r ∷ rows) (suc k) d lt =
    second (bytes_eq (g r) (g (slice_index_or rows k d))) (is_there g rows k d (omega (arith, lt)))
  where
    second : (b : Bool) → has_token (map g rows) (g (slice_index_or rows k d)) ≡ true
        → (b || has_token (map g rows) (g (slice_index_or rows k d))) ≡ true
    second true h = refl
    second false h = h

-- a typecode begins with a `#`
begins : (t : Token) → slice_index_or (typecode_of t) 0 0 ≡ 35
begins [] = refl
begins (b ∷ bytes) = go (b == 115)
  where
    go : (c : Bool) → slice_index_or (if c then codes "#Sort" else codes "#Pattern") 0 0 ≡ 35
    go true = refl
    go false = refl

-- ---- what the program may assume

-- if something was made of two options, both have a value
pub both_there : {A B C : Type 0} (f : A → B → C) (a : Option A) (b : Option B) (c : C)
    → both f a b ≡ Some c → (x : A) × (y : B) × (a ≡ Some x) × (b ≡ Some y) × (c ≡ f x y)
both_there f None b c is = absurd (none_some c is)
both_there f (Some x) None c is = absurd (none_some c is)
both_there f (Some x) (Some y) c is = (x, y, refl, refl, some_same c (f x y) (sym is))

pub map_there : {A B : Type 0} (f : A → B) (a : Option A) (b : B) → option_map f a ≡ Some b
    → (x : A) × (a ≡ Some x) × (b ≡ f x)
map_there f None b is = absurd (none_some b is)
map_there f (Some x) b is = (x, refl, some_same b (f x) (sym is))

-- the text of the pattern differs from the conclusion: in its connective, or in the first token
-- after it
abbrev IsOther : List Token → Pattern → Type 0
IsOther ts p = (bytes_eq (name_of (holds_text ts p) 2) (codes "\\imp") ≡ false)
    ⊎ (bytes_eq (name_of (holds_text ts p) 3) (codes "f:a") ≡ false)

other_text : (ts : List Token) (p : Pattern) → IsOther ts p
    → holds_text ts p ≡ conclusion → ⊥
other_text ts p (inl other) same =
    false≢true
    (sym other ∙ ap (λ (text : List Token). bytes_eq (name_of text 2) (codes "\\imp")) same)
other_text ts p (inr other) same =
    false≢true
    (sym other ∙ ap (λ (text : List Token). bytes_eq (name_of text 3) (codes "f:a")) same)

-- all images of the sentence differ from the conclusion
abbrev AreOther : Signature → List Token → Sentence → Type 0
AreOther sig ts s = (p : Pattern) → sentence_image sig ts s ≡ Some p → IsOther ts p

closed_other : (sig : Signature) (ts : List Token) (k : ℕ) (ss : List ℕ) (s : Sentence)
    → AreOther sig ts s → AreOther sig ts (for_all k ss s)
closed_other sig ts k [] s others p is = others p is
closed_other sig ts k (x ∷ ss) s others p is =
    let w =
    both_there (logic.all k) (sort_image sig ts x)
    (sentence_image sig ts (for_all (k + 1) ss s)) p is in
    subst (IsOther ts) (sym w.4) (inl refl)

equals_other : (sig : Signature) (ts : List Token) (a b : Sentence) → AreOther sig ts (equals a b)
equals_other sig ts a b p is =
    let w = both_there logic.equal (sentence_image sig ts a) (sentence_image sig ts b) p is in
    subst (IsOther ts) (sym w.4) (inl refl)

after_and_other : (sig : Signature) (ts : List Token) (a b c : Sentence)
    → AreOther sig ts (implies (and a b) c)
after_and_other sig ts a b c p is =
    let w =
    both_there logic.imp (both logic.and (sentence_image sig ts a) (sentence_image sig ts b))
    (sentence_image sig ts c) p is in
    let v = both_there logic.and (sentence_image sig ts a) (sentence_image sig ts b) w.0 w.2 in
    subst (IsOther ts) (sym (w.4 ∙ ap (λ (q : Pattern). logic.imp q w.1) v.4)) (inr refl)

after_equals_other : (sig : Signature) (ts : List Token) (a b c : Sentence)
    → AreOther sig ts (implies (equals a b) c)
after_equals_other sig ts a b c p is =
    let w =
    both_there logic.imp (both logic.equal (sentence_image sig ts a) (sentence_image sig ts b))
    (sentence_image sig ts c) p is in
    let v = both_there logic.equal (sentence_image sig ts a) (sentence_image sig ts b) w.0 w.2 in
    subst (IsOther ts) (sym (w.4 ∙ ap (λ (q : Pattern). logic.imp q w.1) v.4)) (inr refl)

condition_other : (sig : Signature) (ts : List Token) (vars : List ℕ) (o : Option RulePattern)
    (c d : Sentence) → condition_sentence sig vars o ≡ Some c → AreOther sig ts (implies c d)
condition_other sig ts vars None c d says p is =
    let top_is : sentence_image sig ts c ≡ Some logic.top =
    ap (sentence_image sig ts) (sym (some_same top c says)) in
    let w = both_there logic.imp (sentence_image sig ts c) (sentence_image sig ts d) p is in
    let first : w.0 ≡ logic.top = some_same w.0 logic.top (sym w.2 ∙ top_is) in
    subst (IsOther ts) (sym (w.4 ∙ ap (λ (q : Pattern). logic.imp q w.1) first)) (inr refl)
condition_other sig ts vars (Some q) c d says p is =
    let u = map_there (is_true q) (sort_of sig vars q) c says in
    let w = both_there logic.imp (sentence_image sig ts c) (sentence_image sig ts d) p is in
    let v =
    both_there logic.equal (sentence_image sig ts (term q))
    (sentence_image sig ts (term (domain_value u.0 (truth true)))) w.0
    (ap (sentence_image sig ts) (sym u.2) ∙ w.2) in
    subst (IsOther ts) (sym (w.4 ∙ ap (λ (r : Pattern). logic.imp r w.1) v.4)) (inr refl)

exists_other : (sig : Signature) (ts : List Token) (x s : ℕ) (a : Sentence)
    → AreOther sig ts (exists x s a)
exists_other sig ts x s a p is =
    let w = both_there (logic.ex x) (sort_image sig ts s) (sentence_image sig ts a) p is in
    subst (IsOther ts) (sym w.4) (inl refl)

not_other : (sig : Signature) (ts : List Token) (a : Sentence) → AreOther sig ts (not a)
not_other sig ts a p is =
    let w = map_there logic.not (sentence_image sig ts a) p is in
    subst (IsOther ts) (sym w.2) (inl refl)

functional_other : (sig : Signature) (ts : List Token) (a : Sentence) (s : ℕ)
    → AreOther sig ts (functional a s)
functional_other sig ts a s p is =
    let w = both_there logic.fun (sentence_image sig ts a) (sort_image sig ts s) p is in
    subst (IsOther ts) (sym w.4) (inl refl)

own_other : (theory : RewriteTheory) (ts : List Token) (s : Sentence) → IsOwnAxiom theory s
    → AreOther theory.sig ts s
own_other theory ts s (of_rule r there says) =
    subst (AreOther theory.sig ts) (sym says.says) (closed_other theory.sig ts 0 r.variables _
    (after_and_other theory.sig ts (left_sentence (of_child 0 r.names) r.left) says.condition
    (next (term r.right))))
own_other theory ts s (of_equation f e there (direct c ordinary none says is)) =
    subst (AreOther theory.sig ts) (sym is) (closed_other theory.sig ts 0 e.variables _
    (condition_other theory.sig ts e.variables e.condition c
    (equals (applied_sides e.names 0 (symbol f) e.arguments) (term e.right)) says))
own_other theory ts s
    (of_equation f e there (kompile c info sorts sort ordinary some many declared says is)) =
    subst (AreOther theory.sig ts) (sym is) (closed_other theory.sig ts 0
    (behind_parameters sorts e).variables _ (after_and_other theory.sig ts c
    (meets (behind_parameters sorts e).names 0 (behind_parameters sorts e).arguments)
    (equals (of_variables f 0 (length sorts)) (term (behind_parameters sorts e).right))))
own_other theory ts s (of_equation f e there
    (last_resort guards g c info sorts sort last some many declared tells says is)) =
    subst (AreOther theory.sig ts) (sym is) (closed_other theory.sig ts 0
    (behind_parameters sorts e).variables _ (after_and_other theory.sig ts (not g)
    (and c (meets (behind_parameters sorts e).names 0 (behind_parameters sorts e).arguments))
    (equals (of_variables f 0 (length sorts)) (term (behind_parameters sorts e).right))))
own_other theory ts s (total f says) =
    subst (AreOther theory.sig ts) (sym says.says) (closed_other theory.sig ts 0 says.sorts
    (exists (length says.sorts) says.sort
    (equals (term (variable (length says.sorts))) (of_variables f 0 (length says.sorts))))
    (exists_other theory.sig ts (length says.sorts) says.sort
    (equals (term (variable (length says.sorts))) (of_variables f 0 (length says.sorts)))))
own_other theory ts s (apart f g says) =
    subst (AreOther theory.sig ts) (sym says.says) (closed_other theory.sig ts 0
    (says.sorts ++ says.others) (not (and (of_variables f 0
    (length says.sorts)) (of_variables g (length says.sorts) (length says.others))))
    (not_other theory.sig ts (and (of_variables f 0 (length says.sorts))
    (of_variables g (length says.sorts) (length says.others)))))
own_other theory ts s (free f says) =
    subst (AreOther theory.sig ts) (sym says.says) (closed_other theory.sig ts 0
    (says.sorts ++ says.sorts) (implies (and (of_variables f 0 (length says.sorts))
    (of_variables f (length says.sorts) (length says.sorts))) (apply_all (symbol f)
    (conjunctions (variables 0 (length says.sorts))
    (variables (length says.sorts) (length says.sorts)))))
    (after_and_other theory.sig ts (of_variables f 0 (length says.sorts))
    (of_variables f (length says.sorts) (length says.sorts)) (apply_all (symbol f)
    (conjunctions (variables 0 (length says.sorts))
    (variables (length says.sorts) (length says.sorts))))))
own_other theory ts s (subsort a b says) =
    subst (AreOther theory.sig ts) (sym says.says) (closed_other theory.sig ts 0 (a ∷ [])
    (exists 1 b (equals (term (variable 1)) (term (injection a b (variable 0)))))
    (exists_other theory.sig ts 1 b
    (equals (term (variable 1)) (term (injection a b (variable 0))))))
own_other theory ts s (collapse a b c says) =
    subst (AreOther theory.sig ts) (sym says.says) (closed_other theory.sig ts 0 (a ∷ [])
    (equals (term (injection b c (injection a b (variable 0))))
    (term (injection a c (variable 0)))) (equals_other theory.sig ts
    (term (injection b c (injection a b (variable 0)))) (term (injection a c (variable 0)))))

fact_other : (sig : Signature) (ts : List Token) (s : Sentence) → IsTrueFact sig s
    → AreOther sig ts s
fact_other sig ts s (of_value sort v says) =
    subst (AreOther sig ts) (sym says.says)
    (functional_other sig ts (term (domain_value sort v)) sort)
fact_other sig ts s (of_hook f vs says) =
    subst (AreOther sig ts) (sym says.says) (equals_other sig ts
    (term (call f [] (value_patterns says.sorts vs)))
    (term (domain_value says.sort says.value)))
fact_other sig ts s (of_unequal left right says) =
    subst (AreOther sig ts) (sym says.says) (closed_other sig ts 0 says.sorts
    (not (equals (term left) (term right)))
    (not_other sig ts (equals (term left) (term right))))
fact_other sig ts s (of_injective a b says) =
    subst (AreOther sig ts) (sym says.says) (closed_other sig ts 0 (a ∷ a ∷ [])
    (implies
    (equals (term (injection a b (variable 0))) (term (injection a b (variable 1))))
    (equals (term (variable 0)) (term (variable 1))))
    (after_equals_other sig ts (term (injection a b (variable 0)))
    (term (injection a b (variable 1))) (equals (term (variable 0)) (term (variable 1)))))

assumed_other : (theory : RewriteTheory) (ts : List Token) (s : Sentence) → IsAssumed theory s
    → AreOther theory.sig ts s
assumed_other theory ts s (inl own) = own_other theory ts s own
assumed_other theory ts s (inr fact) = fact_other theory.sig ts s fact

pub conclusion_is_no_axiom : ConclusionIsNoAxiom
conclusion_is_no_axiom theory f states (header_row r other (k, lt, at) fits says) =
    let statement : expression_of r.statement ≡ conclusion =
    sym (says.statement ∙ fits.statement) ∙ states in
    let here : has_token (map (λ (q : Row). name_of (expression_of q.statement) 3) header_rows)
    (name_of (expression_of r.statement) 3) ≡ true =
    ap (λ (q : Row). has_token
    (map (λ (q' : Row). name_of (expression_of q'.statement) 3) header_rows)
    (name_of (expression_of q.statement) 3)) (sym at)
    ∙ is_there (λ (q : Row). name_of (expression_of q.statement) 3) header_rows k r lt in
    let token : name_of (expression_of r.statement) 3 ≡ codes "f:a" =
    ap (λ (tokens : List Token). name_of tokens 3) statement in
    false≢true (sym rows_differ
    ∙ ap (has_token (map (λ (q : Row). name_of (expression_of q.statement) 3) header_rows))
    (sym token) ∙ here)
conclusion_is_no_axiom theory f states (declaration token own says) =
    let first : typecode_of token ≡ codes "|-" =
    ap (λ (tokens : List Token). name_of tokens 0) (sym says.statement ∙ states) in
    let byte : 35 ≡ 124 = sym (begins token) ∙ ap (λ (t : Token). slice_index_or t 0 0) first in
    absurd (omega (arith, byte))
conclusion_is_no_axiom theory f states (assumption_of ts s p assumed image says) =
    other_text ts p (assumed_other theory ts s assumed p image) (sym says.statement ∙ states)
