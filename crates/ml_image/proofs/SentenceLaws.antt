-- The images of sentences, composed of the images of their parts, which were made under names that
-- gained tokens later.
use Rattle.std.proofs.Common.{◌≡◌, ◌≢◌, ℕ, ◌+◌, ◌⊎◌, inl, inr, suc, List, [], ◌∷◌, ◌++◌, Option}
use Rattle.std.proofs.Common.{Some, None, option_map, Result, IfOk, refl, sym, ◌∙◌, ap, length}
use Rattle.std.proofs.Common.{slice_get, map, Contains, subst, arith}
use Rattle.std.specs.Prelude.{IfSome, All, ◌<◌, ◌^◌}
use Rattle.ml_pat.specs.Patterns.{Pattern}
use Rattle.ml_pat.specs.Patterns as logic
use Rattle.term_core.specs.Patterns.{Pattern as RulePattern, variable}
use Rattle.term_core.specs.Patterns.{domain_value, application, injection, call}
use Rattle.rule_core.specs.Rules.{RewriteRule, Equation, Guard}
use Rattle.rule_core.specs.declared.signature.Signature.{Signature}
use Rattle.rule_core.specs.declared.signature.SortRef.{SortRef}
use Rattle.rule_core.specs.declared.signature.SortRef.TheVariants.{Param, Sort}
use Rattle.rule_core.specs.declared.signature.SymInfo.{SymInfo}
use Rattle.rule_core.specs.Subsorts.{IsBelow}
use Rattle.rule_core.specs.Sorting.{IsSymbol}
use Rattle.ml_image.specs.Images.{both, image_of, applied, symbol_image, sort_image}
use Rattle.ml_image.specs.Images.{injection_image, shifted, all_renamed}
use Rattle.ml_image.specs.Sentences.{Sentence, term, symbol, not, and, implies, equals, exists}
use Rattle.ml_image.specs.Sentences.{next}
use Rattle.ml_image.specs.Sentences.{sentence_image, for_all, IsImageOf}
use Rattle.ml_image.specs.NamedSides.{left_sentence, applied_sides, of_child}
use Rattle.ml_image.specs.Premises.{sort_of, is_true, condition_sentence, meets, renamed_name}
use Rattle.ml_image.specs.LastResorts.{condition_renamed, premise, guards_sentence}
use Rattle.ml_image.specs.Held.{without_guards, held}
use Rattle.ml_image.specs.OwnAxioms.{SaysRule}
use Rattle.ml_image.specs.OwnAxioms.{sort_numbered, Declares, SaysEquation, direct, kompile}
use Rattle.ml_image.specs.OwnAxioms.{last_resort, IsConstructor, of_variables, SaysTotal}
use Rattle.ml_image.specs.OwnAxioms.{SaysSubsort}
use Rattle.ml_image.specs.OwnAxioms.{SaysCollapse}
use Rattle.term_core.specs.Terms.{DomainValue}
use Rattle.ml_image.specs.Tokens.{token_of_value, number_in_names}
use Rattle.ml_image.specs.TrueFacts.{SaysHook, value_patterns}
use Rattle.ml_image.specs.HasImages.{HasFittingGuards, IsGuard, HasPremise, HasEquationImage}
use Rattle.ml_image.specs.HasImages.{after_guards}
use Rattle.ml_image.specs.Closing.{Closes}
use Rattle.ml_image.specs.Counted.{IsConditionImage}
use Rattle.ml_image.specs.Gained.{HasGained}
use Rattle.ml_image.proofs.ImageLaws.{none_some, some_same, if_ok, gained_twice}
use Rattle.ml_image.proofs.ImageLaws.{gained-injection}
use Rattle.ml_image.proofs.NamingLaws.{gained-sentence}
use Rattle.ml_image.proofs.NamedLaws.{shifted-zero}

-- ---- variables numbered from a number

behind : (sorts vars : List ℕ) (x : ℕ)
    → slice_get (sorts ++ vars) (length sorts + x) ≡ slice_get vars x
behind [] vars x = ap (slice_get vars) (omega arith)
behind (s ∷ sorts) vars x =
    let further : length (s ∷ sorts) + x ≡ suc (length sorts + x) = omega arith in
    ap (slice_get (s ∷ (sorts ++ vars))) further ∙ behind sorts vars x

sort_of-behind : (sig : Signature) (sorts vars : List ℕ) (p : RulePattern)
    → sort_of sig (sorts ++ vars) (shifted (length sorts) p) ≡ sort_of sig vars p
sort_of-behind sig sorts vars (variable x) = behind sorts vars x
sort_of-behind sig sorts vars (domain_value s v) = refl
sort_of-behind sig sorts vars (application f ps) = refl
sort_of-behind sig sorts vars (injection a b p) = refl
sort_of-behind sig sorts vars (call f ss ps) = refl

condition-zero : (sig : Signature) (vars : List ℕ) (p : Option RulePattern)
    → condition_renamed sig (λ x. 0 + x) vars p ≡ condition_sentence sig vars p
condition-zero sig vars None = refl
condition-zero sig vars (Some p) =
    ap (λ (q : RulePattern). option_map (is_true q) (sort_of sig vars p)) (shifted-zero p)

condition-behind : (sig : Signature) (sorts vars : List ℕ) (p : Option RulePattern)
    → condition_sentence sig (sorts ++ vars) (option_map (shifted (length sorts)) p)
    ≡ condition_renamed sig (λ x. length sorts + x) vars p
condition-behind sig sorts vars None = refl
condition-behind sig sorts vars (Some p) =
    ap (option_map (is_true (shifted (length sorts) p))) (sort_of-behind sig sorts vars p)

-- ---- declarations

numbers : List SortRef → List ℕ
numbers [] = []
numbers (Sort s ∷ refs) = s.0 ∷ numbers refs
numbers (Param i ∷ refs) = i ∷ numbers refs

numbers-named : (sorts : List ℕ) → numbers (map sort_numbered sorts) ≡ sorts
unfolding numbers
numbers-named [] = refl
numbers-named (s ∷ sorts) = ap (λ (ns : List ℕ). s ∷ ns) (numbers-named sorts)

pub named_same : (xs ys : List ℕ) → map sort_numbered xs ≡ map sort_numbered ys → xs ≡ ys
named_same xs ys is = sym (numbers-named xs) ∙ ap numbers is ∙ numbers-named ys

pub one_symbol : (sig : Signature) (f : ℕ) (a b : SymInfo) → IsSymbol sig f a → IsSymbol sig f b
    → a ≡ b
one_symbol sig f a b ha hb =
    ap (λ (e : List ℕ × SymInfo). e.1) (some_same (ha.0, a) (hb.0, b) (sym ha.1 ∙ hb.1))

-- ---- closed sentences

-- a sentence with a property has its image, if its body has one and is closed
pub closed_image : {E : Type 0} (sig : Signature) (old new : List (List ℕ)) (sorts : List ℕ)
    (body : Pattern) (P : Sentence → Type 0) (s : Sentence) (result : Result Pattern E)
    → P (for_all 0 sorts s) → sentence_image sig old s ≡ Some body
    → IfOk result (Closes sig old new sorts body) → IfOk result (IsImageOf sig new P)
closed_image sig old new sorts body P s result says is closes =
    if_ok (Closes sig old new sorts body) (IsImageOf sig new P) result
    (λ p close. (for_all 0 sorts s, says, close s is)) closes

pub rule_closes : {E : Type 0} (sig : Signature) (n1 n2 n3 n4 : List (List ℕ)) (r : RewriteRule)
    (l c u body : Pattern) (sorts : List ℕ) (result : Result Pattern E) → HasGained sig n1 n2
    → HasGained sig n2 n3
    → sentence_image sig n1 (left_sentence (of_child 0 r.names) r.left) ≡ Some l
    → IsConditionImage sig n2 r.variables (λ x. 0 + x) r.condition c → image_of sig n3 r.right ≡
    Some u
    → body ≡ logic.imp (logic.and l c) (logic.next u) → sorts ≡ r.variables
    → IfOk result (Closes sig n3 n4 sorts body) → IfOk result (IsImageOf sig n4 (SaysRule sig r))
rule_closes sig n1 n2 n3 n4 r l c u body sorts result g2 g3 left (cs, says, condition) right is same
    closes =
    let ls : Sentence = left_sentence (of_child 0 r.names) r.left in
    let left' : sentence_image sig n3 (left_sentence (of_child 0 r.names) r.left) ≡ Some l =
    gained-sentence sig n1 n3 ls (gained_twice sig n1 n2 n3 g2 g3) l left in
    let condition' : sentence_image sig n3 cs ≡ Some c =
    gained-sentence sig n2 n3 cs g3 c condition in
    let whole : both logic.imp (both logic.and
    (sentence_image sig n3 (left_sentence (of_child 0 r.names) r.left))
    (sentence_image sig n3 cs)) (option_map logic.next (image_of sig n3 r.right)) ≡ Some
    (logic.imp (logic.and l c) (logic.next u)) =
    ap (λ (o : Option Pattern). both logic.imp (both logic.and o (sentence_image sig n3 cs))
    (option_map logic.next (image_of sig n3 r.right))) left'
    ∙ ap (λ (o : Option Pattern). both logic.imp (both logic.and (Some l) o)
    (option_map logic.next (image_of sig n3 r.right))) condition'
    ∙ ap (λ (o : Option Pattern).
    both logic.imp (both logic.and (Some l) (Some c)) (option_map logic.next o)) right in
    closed_image sig n3 n4 sorts body (SaysRule sig r)
    (implies (and ls cs) (next (term r.right))) result
    (record {
      condition = cs;
      conditional = sym (condition-zero sig r.variables r.condition) ∙ says;
      says =
          ap (λ (ss : List ℕ).
          for_all 0 ss (implies (and ls cs) (next (term r.right)))) same;
    })
    (whole ∙ ap (λ (p : Pattern). Some p) (sym is)) closes

pub direct_closes : {E : Type 0} (sig : Signature) (n1 n2 n3 n4 : List (List ℕ))
    (equations : List Equation) (f : ℕ) (e : Equation) (c l u body : Pattern) (sorts : List ℕ)
    (result : Result Pattern E)
    → HasGained sig n1 n2 → HasGained sig n2 n3 → e.last_resort ≡ None → e.parameters ≡ 0
    → IsConditionImage sig n1 e.variables (λ x. 0 + x) e.condition c
    → sentence_image sig n2 (applied_sides e.names 0 (symbol f) e.arguments) ≡ Some l
    → image_of sig n3 e.right ≡ Some u
    → body ≡ logic.imp c (logic.equal l u) → sorts ≡ e.variables
    → IfOk result (Closes sig n3 n4 sorts body)
    → IfOk result (IsImageOf sig n4 (SaysEquation sig equations f e))
direct_closes sig n1 n2 n3 n4 equations f e c l u body sorts result g2 g3 ordinary none
    (cs, says, condition) left right is same closes =
    let condition' : sentence_image sig n3 cs ≡ Some c =
    gained-sentence sig n1 n3 cs (gained_twice sig n1 n2 n3 g2 g3) c condition in
    let left' : sentence_image sig n3 (applied_sides e.names 0 (symbol f) e.arguments) ≡ Some l =
    gained-sentence sig n2 n3 (applied_sides e.names 0 (symbol f) e.arguments) g3 l left in
    let ls : Sentence = applied_sides e.names 0 (symbol f) e.arguments in
    let s : Sentence = implies cs (equals ls (term e.right)) in
    let whole : sentence_image sig n3
    (implies cs (equals (applied_sides e.names 0 (symbol f) e.arguments) (term e.right))) ≡ Some
    (logic.imp c (logic.equal l u)) =
    ap (λ (o : Option Pattern). both logic.imp o (both logic.equal
    (sentence_image sig n3 (applied_sides e.names 0 (symbol f) e.arguments))
    (sentence_image sig n3 (term e.right)))) condition'
    ∙ ap (λ (o : Option Pattern).
    both logic.imp (Some c) (both logic.equal o (sentence_image sig n3 (term e.right))))
    left'
    ∙ ap (λ (o : Option Pattern). both logic.imp (Some c) (both logic.equal (Some l) o))
    right in
    closed_image sig n3 n4 sorts body (SaysEquation sig equations f e) s result
    (direct cs ordinary none (sym (condition-zero sig e.variables e.condition) ∙ says)
    (ap (λ (ss : List ℕ). for_all 0 ss s) same))
    (whole ∙ ap (λ (p : Pattern). Some p) (sym is)) closes

-- ---- equations in the form of kompile

-- what a result that exists was made of
map_made : {A B : Type 0} (f : A → B) (o : Option A) (b : B) → option_map f o ≡ Some b
    → (a : A) × (o ≡ Some a) × (f a ≡ b)
map_made f None b h = absurd (none_some b h)
map_made f (Some a) b h = (a, refl, some_same (f a) b h)

both_made : {A B C : Type 0} (f : A → B → C) (o : Option A) (q : Option B) (c : C)
    → both f o q ≡ Some c → (a : A) × (b : B) × (o ≡ Some a) × (q ≡ Some b) × (f a b ≡ c)
both_made f None q c h = absurd (none_some c h)
both_made f (Some a) None c h = absurd (none_some c h)
both_made f (Some a) (Some b) c h = (a, b, refl, refl, some_same (f a b) c h)

-- an equation with this requirement
abbrev requiring : List ℕ → ℕ → Equation → Sentence → Sentence
requiring params f e s =
    for_all 0 (params ++ e.variables)
    (implies s (equals (of_variables f 0 (length params)) (term (shifted (length params) e.right))))

-- its parameters are in its arguments
abbrev met : ℕ → Equation → Sentence
met k e = meets (map (renamed_name (λ x. k + x)) e.names) 0 (all_renamed (λ x. k + x) e.arguments)

held_says : (sig : Signature) (equations : List Equation) (f : ℕ) (info : SymInfo)
    (params : List ℕ) (sort : ℕ) (e : Equation) (s : Sentence) → e.parameters ≢ 0
    → e.parameters ≡ length params → Declares sig f info params sort
    → held sig equations e ≡ Some s → SaysEquation sig equations f e (requiring params f e s)
held_says sig equations f info params sort e s some many declared says =
    go e.last_resort refl (subst
    (λ (k : ℕ). without_guards sig equations (k + length e.variables) e.last_resort
    (premise sig (λ x. k + x) e) ≡ Some s) many says)
  where
    behind_all : (c : Sentence)
        → condition_renamed sig (λ x. length params + x) e.variables e.condition ≡ Some c
        → condition_sentence sig (params ++ e.variables)
        (option_map (shifted (length params)) e.condition) ≡ Some c
    behind_all c is = condition-behind sig params e.variables e.condition ∙ is

    go : (o : Option (List Guard)) → e.last_resort ≡ o
        → without_guards sig equations (length params + length e.variables) o
        (premise sig (λ x. length params + x) e) ≡ Some s
        → SaysEquation sig equations f e (requiring params f e s)
    go None ordinary is =
        let c : (c : Sentence)
        × (condition_renamed sig (λ x. length params + x) e.variables e.condition ≡ Some c)
        × (and c (met (length params) e) ≡ s) =
        map_made (λ (c : Sentence). and c (met (length params) e)) _ s is in
        kompile c.0 info params sort ordinary some many declared (behind_all c.0 c.1)
        (ap (requiring params f e) (sym c.2))
    go (Some guards) last is =
        let w : (n : Sentence) × (a : Sentence)
        × (option_map not (guards_sentence sig equations (length params + length e.variables)
        guards) ≡ Some n)
        × (premise sig (λ x. length params + x) e ≡ Some a) × (and n a ≡ s) =
        both_made and _ _ s is in
        let g : (g : Sentence) × (guards_sentence sig equations
        (length params + length e.variables) guards ≡ Some g) × (not g ≡ w.0) =
        map_made not _ w.0 w.2 in
        let c : (c : Sentence)
        × (condition_renamed sig (λ x. length params + x) e.variables e.condition ≡ Some c)
        × (and c (met (length params) e) ≡ w.1) =
        map_made (λ (c : Sentence). and c (met (length params) e)) _ w.1 w.3 in
        last_resort guards g.0 c.0 info params sort last some many declared g.1
        (behind_all c.0 c.1)
        (ap (requiring params f e) (sym w.4
        ∙ ap (λ (n : Sentence). and n w.1) (sym g.2)
        ∙ ap (λ (a : Sentence). and (not g.0) a) (sym c.2)))

pub kompile_closes : {E : Type 0} (sig : Signature) (n1 n2 n3 n4 : List (List ℕ))
    (equations : List Equation) (f : ℕ) (info : SymInfo) (params : List ℕ) (sort : ℕ)
    (e : Equation) (c h u body : Pattern) (sorts : List ℕ) (result : Result Pattern E)
    → HasGained sig n1 n2 → HasGained sig n2 n3 → e.parameters ≢ 0
    → e.parameters ≡ length params → Declares sig f info params sort
    → IsImageOf sig n1 (λ s. held sig equations e ≡ Some s) c
    → sentence_image sig n2 (of_variables f 0 (length params)) ≡ Some h
    → image_of sig n3 (shifted (length params) e.right) ≡ Some u
    → body ≡ logic.imp c (logic.equal h u) → sorts ≡ params ++ e.variables
    → IfOk result (Closes sig n3 n4 sorts body)
    → IfOk result (IsImageOf sig n4 (SaysEquation sig equations f e))
kompile_closes sig n1 n2 n3 n4 equations f info params sort e c h u body sorts result g2 g3 some
    many declared (cs, says, condition) function right is same closes =
    let fs : Sentence = of_variables f 0 (length params) in
    let us : Sentence = term (shifted (length params) e.right) in
    let s : Sentence = implies cs (equals fs us) in
    let condition' : sentence_image sig n3 cs ≡ Some c =
    gained-sentence sig n1 n3 cs (gained_twice sig n1 n2 n3 g2 g3) c condition in
    let function' : sentence_image sig n3 (of_variables f 0 (length params)) ≡ Some h =
    gained-sentence sig n2 n3 fs g3 h function in
    let whole : both logic.imp (sentence_image sig n3 cs)
    (both logic.equal (sentence_image sig n3 (of_variables f 0 (length params)))
    (image_of sig n3 (shifted (length params) e.right))) ≡ Some
    (logic.imp c (logic.equal h u)) =
    ap (λ (o : Option Pattern). both logic.imp o
    (both logic.equal (sentence_image sig n3 (of_variables f 0 (length params)))
    (image_of sig n3 (shifted (length params) e.right)))) condition'
    ∙ ap (λ (o : Option Pattern). both logic.imp (Some c)
    (both logic.equal o (image_of sig n3 (shifted (length params) e.right)))) function'
    ∙ ap (λ (o : Option Pattern). both logic.imp (Some c) (both logic.equal (Some h) o))
    right in
    closed_image sig n3 n4 sorts body (SaysEquation sig equations f e) s result
    (subst (λ (ss : List ℕ). SaysEquation sig equations f e (for_all 0 ss s)) (sym same)
    (held_says sig equations f info params sort e cs some many declared says))
    (whole ∙ ap (λ (p : Pattern). Some p) (sym is)) closes

pub total_closes : {E : Type 0} (sig : Signature) (n1 n2 n3 : List (List ℕ)) (f : ℕ)
    (info : SymInfo) (sorts : List ℕ) (sort s : ℕ) (m body : Pattern)
    (result : Result Pattern E) → HasGained sig n1 n2 → IsConstructor sig f info sorts sort
    → sentence_image sig n1 (of_variables f 0 (length sorts)) ≡ Some m
    → sort_image sig n2 sort ≡ Some s
    → body ≡ logic.ex (length sorts) s (logic.equal (logic.var (length sorts)) m)
    → IfOk result (Closes sig n2 n3 sorts body) → IfOk result (IsImageOf sig n3 (SaysTotal sig f))
total_closes sig n1 n2 n3 f info sorts sort s m body result g2 constructs made at is closes =
    let n : ℕ = length sorts in
    let made' : sentence_image sig n2 (of_variables f 0 (length sorts)) ≡ Some m =
    gained-sentence sig n1 n2 (of_variables f 0 (length sorts)) g2 m made in
    let whole : both (logic.ex (length sorts)) (sort_image sig n2 sort) (both logic.equal
    (Some (logic.var (length sorts)))
    (sentence_image sig n2 (of_variables f 0 (length sorts)))) ≡ Some
    (logic.ex (length sorts) s (logic.equal (logic.var (length sorts)) m)) =
    ap (λ (o : Option ℕ). both (logic.ex (length sorts)) o (both logic.equal
    (Some (logic.var (length sorts)))
    (sentence_image sig n2 (of_variables f 0 (length sorts))))) at
    ∙ ap (λ (o : Option Pattern). both (logic.ex (length sorts)) (Some s)
    (both logic.equal (Some (logic.var (length sorts))) o)) made' in
    closed_image sig n2 n3 sorts body (SaysTotal sig f) (exists (length sorts) sort
    (equals (term (variable (length sorts))) (of_variables f 0 (length sorts)))) result
    (record { info = info; sorts = sorts; sort = sort; constructs = constructs; says = refl })
    (whole ∙ ap (λ (p : Pattern). Some p) (sym is)) closes

pub subsort_closes : {E : Type 0} (sig : Signature) (n1 n2 n3 : List (List ℕ)) (a b t : ℕ)
    (j body : Pattern) (result : Result Pattern E) → HasGained sig n1 n2
    → Contains sig.subsorts (a, b) → image_of sig n1 (injection a b (variable 0)) ≡ Some j
    → sort_image sig n2 b ≡ Some t → body ≡ logic.ex 1 t (logic.equal (logic.var 1) j)
    → IfOk result (Closes sig n2 n3 (a ∷ []) body)
    → IfOk result (IsImageOf sig n3 (SaysSubsort sig a b))
subsort_closes sig n1 n2 n3 a b t j body result g2 pair injected sort is closes =
    let injected' : image_of sig n2 (injection a b (variable 0)) ≡ Some j =
    gained-sentence sig n1 n2 (term (injection a b (variable 0))) g2 j injected in
    let whole : both (logic.ex 1) (sort_image sig n2 b)
    (both logic.equal (Some (logic.var 1)) (image_of sig n2 (injection a b (variable 0)))) ≡
    Some (logic.ex 1 t (logic.equal (logic.var 1) j)) =
    ap (λ (o : Option ℕ). both (logic.ex 1) o
    (both logic.equal (Some (logic.var 1)) (image_of sig n2 (injection a b (variable 0)))))
    sort
    ∙ ap (λ (o : Option Pattern).
    both (logic.ex 1) (Some t) (both logic.equal (Some (logic.var 1)) o)) injected' in
    closed_image sig n2 n3 (a ∷ []) body (SaysSubsort sig a b)
    (exists 1 b (equals (term (variable 1)) (term (injection a b (variable 0))))) result
    (record { pair = pair; says = refl }) (whole ∙ ap (λ (p : Pattern). Some p) (sym is)) closes

pub collapse_closes : {E : Type 0} (sig : Signature) (n1 n2 n3 n4 : List (List ℕ)) (a b c : ℕ)
    (l u o' twice body : Pattern) (result : Result Pattern E) → HasGained sig n1 n2
    → HasGained sig n2 n3 → IsBelow sig.subsorts a b → IsBelow sig.subsorts b c
    → image_of sig n1 (injection a b (variable 0)) ≡ Some l → injection_image sig n2 b c ≡ Some u
    → twice ≡ logic.app u l → image_of sig n3 (injection a c (variable 0)) ≡ Some o'
    → body ≡ logic.equal twice o' → IfOk result (Closes sig n3 n4 (a ∷ []) body)
    → IfOk result (IsImageOf sig n4 (SaysCollapse sig a b c))
collapse_closes sig n1 n2 n3 n4 a b c l u o' twice body result g2 g3 lower upper first second joined
    once is closes =
    let first' : image_of sig n3 (injection a b (variable 0)) ≡ Some l =
    gained-sentence sig n1 n3 (term (injection a b (variable 0)))
    (gained_twice sig n1 n2 n3 g2 g3) l first in
    let second' : injection_image sig n3 b c ≡ Some u =
    gained-injection sig n2 n3 b c g3 u second in
    let whole : both logic.equal
    (both logic.app (injection_image sig n3 b c) (image_of sig n3 (injection a b (variable 0))))
    (image_of sig n3 (injection a c (variable 0))) ≡ Some (logic.equal (logic.app u l) o') =
    ap (λ (o : Option Pattern). both logic.equal
    (both logic.app o (image_of sig n3 (injection a b (variable 0))))
    (image_of sig n3 (injection a c (variable 0)))) second'
    ∙ ap (λ (o : Option Pattern). both logic.equal (both logic.app (Some u) o)
    (image_of sig n3 (injection a c (variable 0)))) first'
    ∙ ap (λ (o : Option Pattern). both logic.equal (Some (logic.app u l)) o) once in
    closed_image sig n3 n4 (a ∷ []) body (SaysCollapse sig a b c) (equals
    (term (injection b c (injection a b (variable 0)))) (term (injection a c (variable 0))))
    result
    (record { lower = lower; upper = upper; says = refl }) (whole
    ∙ ap (λ (t : Pattern). Some (logic.equal t o')) (sym joined)
    ∙ ap (λ (p : Pattern). Some p) (sym is)) closes

pub hook_said : {E : Type 0} (sig : Signature) (n1 n2 : List (List ℕ)) (f : ℕ)
    (vs : List DomainValue) (s : Sentence) (says : SaysHook sig f vs s)
    (head called value : Pattern) (t : ℕ) (result : Result Pattern E) → HasGained sig n1 n2
    → symbol_image sig n1 f ≡ Some head
    → applied sig n1 (Some head) (value_patterns says.sorts vs) ≡ Some called
    → number_in_names n2 (token_of_value sig says.sort says.value) ≡ Some t → value
    ≡ logic.constant t
    → IfOk result (λ p. p ≡ logic.equal called value)
    → IfOk result (IsImageOf sig n2 (SaysHook sig f vs))
hook_said sig n1 n2 f vs s says head called value t result gained symbol_is call_is number is made =
    let first : image_of sig n1 (call f [] (value_patterns says.sorts vs)) ≡ Some called =
    ap (λ (o : Option Pattern). applied sig n1 o (value_patterns says.sorts vs)) symbol_is
    ∙ call_is in
    let left : sentence_image sig n2 (term (call f [] (value_patterns says.sorts vs))) ≡ Some
    called =
    gained-sentence sig n1 n2 (term (call f [] (value_patterns says.sorts vs))) gained called
    first in
    let whole : both logic.equal
    (sentence_image sig n2 (term (call f [] (value_patterns says.sorts vs))))
    (option_map logic.constant (number_in_names n2 (token_of_value sig says.sort says.value)))
    ≡ Some
    (logic.equal called (logic.constant t)) =
    ap (λ (o : Option Pattern). both logic.equal o
    (option_map logic.constant (number_in_names n2 (token_of_value sig says.sort says.value))))
    left
    ∙ ap (λ (o : Option ℕ). both logic.equal (Some called) (option_map logic.constant o))
    number in
    if_ok (λ (p : Pattern). p ≡ logic.equal called value) (IsImageOf sig n2 (SaysHook sig f vs))
    result
    (λ p e. (
      s,
      says,
      ap (sentence_image sig n2) says.says ∙ whole
          ∙ ap (λ (q : Pattern). Some (logic.equal called q)) (sym is)
          ∙ ap (λ (q : Pattern). Some q) (sym e),
    )) made

-- the parameters of an equation that has parameters
pub has_parameters : {P : Type 0} (n : ℕ) → (n ≡ 0) ⊎ P → n ≢ 0 → P
has_parameters n (inl none) some = absurd (some none)
has_parameters n (inr has) some = has

-- an equation without parameters is not one of the last resort
pub ordinary : (equations : List Equation) (e : Equation) → HasFittingGuards equations e
    → e.parameters ≡ 0 → e.last_resort ≡ None
ordinary equations e fits none = go e.last_resort fits
  where
    go : (o : Option (List Guard)) → IfSome o (λ (gs : List Guard). (e.parameters ≢ 0)
        × All (IsGuard equations) gs
        × (after_guards (e.parameters + length e.variables) gs < 2 ^ 32)) → o ≡ None
    go None h = refl
    go (Some gs) h = absurd (h.0 none)

-- the premise of an equation with parameters has an image
pub has_premise : (sig : Signature) (equations : List Equation) (f : ℕ) (e : Equation)
    → HasEquationImage sig equations f e → e.parameters ≢ 0 → HasPremise sig e
has_premise sig equations f e has some = record {
  sorts = has.sorts;
  arguments = has.arguments;
  names = has.names;
  condition = has.condition;
  few =
      omega (arith, has.few, (has_parameters e.parameters has.parameters some).each);
}
