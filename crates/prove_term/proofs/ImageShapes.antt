-- What images look like: which parts they have, and which leaves.
use Rattle.std.proofs.Common.{◌≡◌, ◌+◌, ℕ, zero, suc, List, [], ◌∷◌, Option, Some, None, option_map}
use Rattle.std.proofs.Common.{length, refl, sym, ◌∙◌, ap, subst}
use Rattle.ml_pat.specs.Patterns.{Pattern}
use Rattle.ml_pat.specs.Patterns as logic
use Rattle.ml_kernel.specs.Lemmas.{HasNoMeta}
use Rattle.term_core.specs.Terms.{DomainValue}
use Rattle.term_core.specs.Patterns.{Pattern as RulePattern, Patterns as RulePatterns, variable}
use Rattle.term_core.specs.Patterns.{domain_value, application, injection, call, no_pattern}
use Rattle.term_core.specs.Patterns.{more_patterns}
use Rattle.rule_core.specs.declared.signature.Signature.{Signature}
use Rattle.ml_image.specs.Tokens.{token_of_symbol, token_of_value, number_in_names}
use Rattle.ml_image.specs.Images.{both, image_of, applied, symbol_image, sort_image, at_sorts}
use Rattle.ml_image.specs.Images.{injection_image, some_symbol_image, injection_symbol}
use Rattle.ml_image.specs.Sentences.{Sentence, term, symbol, inject, apply, top, bottom, not, and}
use Rattle.ml_image.specs.Sentences.{or, implies}
use Rattle.ml_image.specs.Sentences.{equals, is_in, functional, exists, forall, next}
use Rattle.ml_image.specs.Sentences.{sentence_image}
use Rattle.ml_image.specs.Sentences.{for_all, variables, apply_all}
use Rattle.ml_image.specs.OwnAxioms.{of_variables}
use Rattle.ml_image.specs.Counted.{at_variables}
use Rattle.ml_image.proofs.ImageLaws.{none_some, some_same}
use Rattle.ml_image.proofs.ClosingLaws.{variables_image}
use Rattle.prove_term.specs.ValueAxioms.{IsValueFact}
use Rattle.prove_term.specs.Constructing.{totality}
use Rattle.prove_term.specs.Numbered.{HasNumbers}
use Rattle.prove_term.specs.Schemas.{AreImages}
use Rattle.prove_term.specs.Numbered.{all_from, AreSortImages}
use Rattle.prove_term.specs.Applications.{applied_to}

-- ---- options

pub both_some : {A B C : Type 0} (f : A → B → C) (a : Option A) (b : Option B) (c : C)
    → both f a b ≡ Some c → (x : A) × (y : B) × (a ≡ Some x) × (b ≡ Some y) × (c ≡ f x y)
both_some f None b c h = absurd (none_some c h)
both_some f (Some x) None c h = absurd (none_some c h)
both_some f (Some x) (Some y) c h = (x, y, refl, refl, sym (some_same (f x y) c h))

pub map_some : {A B : Type 0} (f : A → B) (a : Option A) (b : B) → option_map f a ≡ Some b
    → (x : A) × (a ≡ Some x) × (b ≡ f x)
map_some f None b h = absurd (none_some b h)
map_some f (Some x) b h = (x, refl, sym (some_same (f x) b h))

-- ---- images have no pattern variable

abbrev HasNone : Option Pattern → Type 0
HasNone o = (p : Pattern) → o ≡ Some p → HasNoMeta p

none-both : (f : Pattern → Pattern → Pattern) (a b : Option Pattern)
    → ((p q : Pattern) → HasNoMeta p → HasNoMeta q → HasNoMeta (f p q)) → HasNone a → HasNone b
    → HasNone (both f a b)
none-both f a b joins ha hb r h =
    let w : (x : Pattern) × (y : Pattern) × (a ≡ Some x) × (b ≡ Some y) × (r ≡ f x y) =
    both_some f a b r h in
    subst HasNoMeta (sym w.4) (joins w.0 w.1 (ha w.0 w.2) (hb w.1 w.3))

none-map : (f : Pattern → Pattern) (a : Option Pattern)
    → ((p : Pattern) → HasNoMeta p → HasNoMeta (f p)) → HasNone a → HasNone (option_map f a)
none-map f a keeps ha r h =
    let w : (x : Pattern) × (a ≡ Some x) × (r ≡ f x) = map_some f a r h in
    subst HasNoMeta (sym w.2) (keeps w.0 (ha w.0 w.1))

none-constant : (o : Option ℕ) → HasNone (option_map logic.constant o)
none-constant o r h =
    let w : (x : ℕ) × (o ≡ Some x) × (r ≡ logic.constant x) = map_some logic.constant o r h in
    subst HasNoMeta (sym w.2) tt

none-sorted : (f : Pattern → ℕ → Pattern) (a : Option Pattern) (o : Option ℕ)
    → ((p : Pattern) (s : ℕ) → HasNoMeta p → HasNoMeta (f p s)) → HasNone a → HasNone (both f a o)
none-sorted f a o keeps ha r h =
    let w : (x : Pattern) × (s : ℕ) × (a ≡ Some x) × (o ≡ Some s) × (r ≡ f x s) =
    both_some f a o r h in
    subst HasNoMeta (sym w.4) (keeps w.0 w.1 (ha w.0 w.2))

none-bound : (f : ℕ → Pattern → Pattern) (o : Option ℕ) (a : Option Pattern)
    → ((s : ℕ) (p : Pattern) → HasNoMeta p → HasNoMeta (f s p)) → HasNone a → HasNone (both f o a)
none-bound f o a keeps ha r h =
    let w : (s : ℕ) × (x : Pattern) × (o ≡ Some s) × (a ≡ Some x) × (r ≡ f s x) =
    both_some f o a r h in
    subst HasNoMeta (sym w.4) (keeps w.0 w.1 (ha w.1 w.3))

none-sorts : (sig : Signature) (names : List (List ℕ)) (ss : List ℕ) (head : Option Pattern)
    → HasNone head → HasNone (at_sorts sig names head ss)
none-sorts sig names [] head h = h
none-sorts sig names (s ∷ ss) head h =
    none-sorts sig names ss _
    (none-sorted logic.at_sort head (sort_image sig names s) (λ p s' k. k) h)

none-some_symbol : (sig : Signature) (names : List (List ℕ)) (o : Option ℕ)
    → HasNone (some_symbol_image sig names o)
none-some_symbol sig names None = λ r h. absurd (none_some r h)
none-some_symbol sig names (Some f) = none-constant (number_in_names names (token_of_symbol sig f))

mutual
  none-image : (sig : Signature) (names : List (List ℕ)) (p : RulePattern)
      → HasNone (image_of sig names p)
  none-image sig names (variable x) = λ r h. subst HasNoMeta (some_same (logic.var x) r h) tt
  none-image sig names (domain_value s v) =
      none-constant (number_in_names names (token_of_value sig s v))
  none-image sig names (application f ps) =
      none-applied sig names ps _ (none-constant (number_in_names names (token_of_symbol sig f)))
  none-image sig names (injection a b p) =
      none-both logic.app (injection_image sig names a b) (image_of sig names p) (λ p q h k. (h, k))
      (none-sorts sig names (a ∷ b ∷ []) _ (none-some_symbol sig names (injection_symbol sig)))
      (none-image sig names p)
  none-image sig names (call f ss ps) =
      none-applied sig names ps _
      (none-sorts sig names ss _ (none-constant (number_in_names names (token_of_symbol sig f))))

  none-applied : (sig : Signature) (names : List (List ℕ)) (ps : RulePatterns)
      (head : Option Pattern) → HasNone head → HasNone (applied sig names head ps)
  none-applied sig names no_pattern head h = h
  none-applied sig names (more_patterns p ps) head h =
      none-applied sig names ps _ (none-both logic.app head (image_of sig names p)
      (λ p q h k. (h, k)) h (none-image sig names p))

none-sentence : (sig : Signature) (names : List (List ℕ)) (s : Sentence)
    → HasNone (sentence_image sig names s)
none-sentence sig names (term p) = none-image sig names p
none-sentence sig names (symbol f) = none-constant (number_in_names names (token_of_symbol sig f))
none-sentence sig names (inject a b) =
    none-sorts sig names (a ∷ b ∷ []) _ (none-some_symbol sig names (injection_symbol sig))
none-sentence sig names (apply p q) =
    none-both logic.app _ _ (λ p q h k. (h, k)) (none-sentence sig names p)
    (none-sentence sig names q)
none-sentence sig names top = λ r h. subst HasNoMeta (some_same logic.top r h) tt
none-sentence sig names bottom = λ r h. subst HasNoMeta (some_same logic.bot r h) tt
none-sentence sig names (not p) = none-map logic.not _ (λ p h. h) (none-sentence sig names p)
none-sentence sig names (and p q) =
    none-both logic.and _ _ (λ p q h k. (h, k)) (none-sentence sig names p)
    (none-sentence sig names q)
none-sentence sig names (or p q) =
    none-both logic.or _ _ (λ p q h k. (h, k)) (none-sentence sig names p)
    (none-sentence sig names q)
none-sentence sig names (implies p q) =
    none-both logic.imp _ _ (λ p q h k. (h, k)) (none-sentence sig names p)
    (none-sentence sig names q)
none-sentence sig names (equals p q) =
    none-both logic.equal _ _ (λ p q h k. (h, k)) (none-sentence sig names p)
    (none-sentence sig names q)
none-sentence sig names (is_in p q) =
    none-both logic.member _ _ (λ p q h k. (h, k)) (none-sentence sig names p)
    (none-sentence sig names q)
none-sentence sig names (functional p s) =
    none-sorted logic.fun _ (sort_image sig names s) (λ p n h. h) (none-sentence sig names p)
none-sentence sig names (exists x s p) =
    none-bound (logic.ex x) (sort_image sig names s) _ (λ n p h. h) (none-sentence sig names p)
none-sentence sig names (forall x s p) =
    none-bound (logic.all x) (sort_image sig names s) _ (λ n p h. h) (none-sentence sig names p)
none-sentence sig names (next p) = none-map logic.next _ (λ p h. h) (none-sentence sig names p)

pub sentence_has_no_meta : (sig : Signature) (names : List (List ℕ)) (s : Sentence) (p : Pattern)
    → sentence_image sig names s ≡ Some p → HasNoMeta p
sentence_has_no_meta sig names s p h = none-sentence sig names s p h

-- ---- the fact on a value

pub value_fact_shape : (sig : Signature) (names : List (List ℕ)) (s : ℕ) (v : DomainValue)
    (p : Pattern) → sentence_image sig names (functional (term (domain_value s v)) s) ≡ Some p
    → IsValueFact sig names s v p
value_fact_shape sig names s v p h =
    let w : (x : Pattern) × (n : ℕ) ×
    (option_map logic.constant (number_in_names names (token_of_value sig s v)) ≡ Some x) ×
    (sort_image sig names s ≡ Some n) × (p ≡ logic.fun x n) =
    both_some logic.fun (option_map logic.constant (number_in_names names (token_of_value sig s v)))
    (sort_image sig names s) p h in
    let c : (c : ℕ) × (number_in_names names (token_of_value sig s v) ≡ Some c) ×
    (w.0 ≡ logic.constant c) =
    map_some logic.constant (number_in_names names (token_of_value sig s v)) w.0 w.2 in
    record {
      token = c.0;
      is_token = c.1;
      sort = w.1;
      is_sort = w.3;
      says = w.4 ∙ ap (λ (x : Pattern). logic.fun x w.1) c.2;
    }

-- ---- quantifiers, one by one

pub record IsClosing (sig : Signature) (names : List (List ℕ)) (k : ℕ) (sorts : List ℕ)
    (s : Sentence) (p : Pattern) : Type 0 where
  pub numbers : List ℕ
  pub are_numbers : AreSortImages sig names sorts numbers
  pub body : Pattern
  pub is_body : sentence_image sig names s ≡ Some body
  pub says : p ≡ all_from k numbers body

pub closing_shape : (sig : Signature) (names : List (List ℕ)) (sorts : List ℕ) (k : ℕ)
    (s : Sentence) (p : Pattern) → sentence_image sig names (for_all k sorts s) ≡ Some p
    → IsClosing sig names k sorts s p
closing_shape sig names [] k s p h = record {
  numbers = [];
  are_numbers = tt;
  body = p;
  is_body = h;
  says = refl;
}
closing_shape sig names (t ∷ sorts) k s p h =
    let w : (n : ℕ) × (q : Pattern) × (sort_image sig names t ≡ Some n) ×
    (sentence_image sig names (for_all (k + 1) sorts s) ≡ Some q) × (p ≡ logic.all k n q) =
    both_some (logic.all k) (sort_image sig names t)
    (sentence_image sig names (for_all (k + 1) sorts s)) p h in
    let below : IsClosing sig names (k + 1) sorts s w.1 =
    closing_shape sig names sorts (k + 1) s w.1 w.3 in
    record {
      numbers = w.0 ∷ below.numbers;
      are_numbers = (w.2, below.are_numbers);
      body = below.body;
      is_body = below.is_body;
      says = w.4 ∙ ap (logic.all k w.0) below.says;
    }

pub as_many_numbers : (sig : Signature) (names : List (List ℕ)) (sorts numbers : List ℕ)
    → AreSortImages sig names sorts numbers → length numbers ≡ length sorts
as_many_numbers sig names [] [] h = refl
as_many_numbers sig names [] (n ∷ ns) h = absurd h
as_many_numbers sig names (s ∷ ss) [] h = absurd h
as_many_numbers sig names (s ∷ ss) (n ∷ ns) h = ap suc (as_many_numbers sig names ss ns h.1)

-- ---- the totality of a constructor

-- if an application to variables has an image, what is applied has one
pub applied_variables_some : (sig : Signature) (names : List (List ℕ)) (n k : ℕ) (s : Sentence)
    (p : Pattern) → sentence_image sig names (apply_all s (variables k n)) ≡ Some p
    → (h : Pattern) × (sentence_image sig names s ≡ Some h)
applied_variables_some sig names zero k s p h = (p, h)
applied_variables_some sig names (suc n) k s p h =
    let below : (h : Pattern) ×
    (both logic.app (sentence_image sig names s) (Some (logic.var k)) ≡ Some h) =
    applied_variables_some sig names n (k + 1) (apply s (term (variable k))) p h in
    let w : (x : Pattern) × (y : Pattern) × (sentence_image sig names s ≡ Some x) ×
    (Some (logic.var k) ≡ Some y) × (below.0 ≡ logic.app x y) =
    both_some logic.app (sentence_image sig names s) (Some (logic.var k)) below.0 below.1 in
    (w.0, w.2)

pub totality_shape : (sig : Signature) (names : List (List ℕ)) (f : ℕ) (sorts : List ℕ) (sort : ℕ)
    (p : Pattern)
    → sentence_image sig names (for_all 0 sorts (exists (length sorts) sort
    (equals (term (variable (length sorts))) (of_variables f 0 (length sorts))))) ≡ Some p
    → (n : HasNumbers sig names f sorts sort) × (p ≡ totality n.head n.numbers n.number)
totality_shape sig names f sorts sort p h =
    let n : ℕ = length sorts in
    let made : Option Pattern = sentence_image sig names (of_variables f 0 (length sorts)) in
    let closing : IsClosing sig names 0 sorts (exists (length sorts) sort
    (equals (term (variable (length sorts))) (of_variables f 0 (length sorts)))) p =
    closing_shape sig names sorts 0 (exists (length sorts) sort
    (equals (term (variable (length sorts))) (of_variables f 0 (length sorts)))) p h in
    let e : (t : ℕ) × (q : Pattern) × (sort_image sig names sort ≡ Some t) ×
    (both logic.equal (Some (logic.var (length sorts))) made ≡ Some q) ×
    (closing.body ≡ logic.ex (length sorts) t q) =
    both_some (logic.ex (length sorts)) (sort_image sig names sort)
    (both logic.equal (Some (logic.var (length sorts))) made) closing.body closing.is_body in
    let q : (x : Pattern) × (y : Pattern) × (Some (logic.var (length sorts)) ≡ Some x) ×
    (made ≡ Some y) × (e.1 ≡ logic.equal x y) =
    both_some logic.equal (Some (logic.var (length sorts))) made e.1 e.3 in
    let head : (h : Pattern) × (symbol_image sig names f ≡ Some h) =
    applied_variables_some sig names (length sorts) 0 (symbol f) q.1 q.3 in
    let c : (c : ℕ) × (number_in_names names (token_of_symbol sig f) ≡ Some c) ×
    (head.0 ≡ logic.constant c) =
    map_some logic.constant (number_in_names names (token_of_symbol sig f)) head.0 head.1 in
    let is_head : symbol_image sig names f ≡ Some (logic.constant c.0) =
    head.1 ∙ ap (λ (x : Pattern). Some x) c.2 in
    let applied_is : q.1 ≡ at_variables (logic.constant c.0) 0 (length sorts) =
    some_same q.1 (at_variables (logic.constant c.0) 0 (length sorts)) (sym q.3
    ∙ variables_image sig names (length sorts) 0 (symbol f) (logic.constant c.0) is_head) in
    let inner : e.1 ≡ logic.equal (logic.var (length sorts))
    (at_variables (logic.constant c.0) 0 (length sorts)) =
    q.4
    ∙ ap (λ (x : Pattern). logic.equal x q.1)
    (sym (some_same (logic.var (length sorts)) q.0 q.2))
    ∙ ap (logic.equal (logic.var (length sorts))) applied_is in
    let count : length sorts ≡ length closing.numbers =
    sym (as_many_numbers sig names sorts closing.numbers closing.are_numbers) in (
      record {
        head = c.0;
        is_head = is_head;
        numbers = closing.numbers;
        are_numbers = closing.are_numbers;
        number = e.0;
        is_number = e.2;
      },
      closing.says ∙ ap (all_from 0 closing.numbers)
          (e.4 ∙ ap (logic.ex (length sorts) e.0) inner
          ∙ ap (λ (m : ℕ). logic.ex m e.0
          (logic.equal (logic.var m) (at_variables (logic.constant c.0) 0 m))) count),
    )

-- ---- an application to patterns that have images

pub applied_images : (sig : Signature) (names : List (List ℕ)) (ps : RulePatterns)
    (qs : List Pattern) (head : Pattern) → AreImages sig names ps qs
    → applied sig names (Some head) ps ≡ Some (applied_to head qs)
applied_images sig names no_pattern [] head h = refl
applied_images sig names no_pattern (q ∷ qs) head h = absurd h
applied_images sig names (more_patterns p ps) [] head h = absurd h
applied_images sig names (more_patterns p ps) (q ∷ qs) head h =
    ap (λ (o : Option Pattern). applied sig names (both logic.app (Some head) o) ps) h.0
    ∙ applied_images sig names ps qs (logic.app head q) h.1
