-- What the axioms look like that constructors are free and apart, and that injections are
-- injective.
use Rattle.std.proofs.Common.{◌≡◌, ◌<◌, ◌+◌, ◌^◌, ℕ, List, [], ◌∷◌, ◌++◌, Option, Some}
use Rattle.std.proofs.Common.{length}
use Rattle.std.proofs.Common.{refl, sym, ◌∙◌, ap, subst, arith, zero, suc}
use Rattle.std.proofs.lemmas.List.{length-map}
use Rattle.ml_pat.specs.Patterns.{Pattern}
use Rattle.ml_pat.specs.Patterns as logic
use Rattle.rule_core.specs.Sorting.{IsSymbol}
use Rattle.rule_core.specs.WellSorted.{IsSignature}
use Rattle.rule_core.specs.declared.signature.Signature.{Signature}
use Rattle.rule_core.specs.declared.signature.SymInfo.{SymInfo}
use Rattle.rule_core.specs.declared.signature.SymKind.TheVariants.{Ctor}
use Rattle.rule_core.specs.declared.signature.SortRef.{SortRef}
use Rattle.rule_core.specs.declared.signature.SortRef.TheVariants.{Param, Sort}
use Rattle.ml_image.specs.Tokens.{token_of_symbol, number_in_names}
use Rattle.ml_image.specs.Images.{both, sort_image, symbol_image, injection_image}
use Rattle.ml_image.specs.Sentences.{Sentence, sentence_image, symbol, not, and, implies}
use Rattle.ml_image.specs.Sentences.{variables, apply_all, conjunctions, IsImageOf}
use Rattle.ml_image.specs.OwnAxioms.{SaysFree, SaysApart, of_variables}
use Rattle.ml_image.specs.OwnAxioms.{sort_numbered}
use Rattle.ml_image.specs.TrueFacts.{SaysInjective}
use Rattle.ml_image.specs.HasImages.{HasTotality, HasFreedom, HasDifference, MakesTerms}
use Rattle.ml_image.specs.Counted.{at_variables, at_pairs}
use Rattle.ml_image.proofs.ImageLaws.{some_same}
use Rattle.ml_image.proofs.ClosingLaws.{variables_image, pairs_image}
use Rattle.ml_image.proofs.WellSortedLaws.{constructor_has_totality}
use Rattle.prove_term.specs.Applications.{applied_to}
use Rattle.prove_term.specs.Constructing.{HasArity}
use Rattle.prove_term.specs.Contexts.{Context}
use Rattle.prove_term.specs.Numbered.{variables_from, pairs_from, all_from, AreSortImages, inject}
use Rattle.prove_term.specs.Numbered.{HasEnds}
use Rattle.prove_term.specs.OpenAxioms.{at_numbered, IsFreeConstructor, AreApartConstructors}
use Rattle.prove_term.specs.OpenAxioms.{SaysFreeFrom, SaysApartFrom, SaysInjectiveFrom}
use Rattle.prove_term.proofs.ImageShapes.{both_some, map_some, IsClosing, closing_shape}
use Rattle.prove_term.proofs.ImageShapes.{as_many_numbers, applied_variables_some}
use Rattle.prove_term.proofs.InjectionShapes.{injection_shape, injection_made}

-- ---- which constructors

same_info : (sig : Signature) (f : ℕ) (i j : SymInfo) → IsSymbol sig f i → IsSymbol sig f j → i ≡ j
same_info sig f i j h k =
    ap (λ (e : List ℕ × SymInfo). e.1) (some_same (h.0, i) (k.0, j) (sym h.1 ∙ k.1))

-- a constructor with few arguments, with the declaration that is given
makes_terms : (sig : Signature) (f n : ℕ) (info : SymInfo) → IsSignature sig → IsSymbol sig f info
    → info.kind ≡ Ctor → HasArity sig f n → n < 2 ^ 31
    → (sorts : List ℕ) × (sort : ℕ) × MakesTerms sig f info sorts sort
makes_terms sig f n info ok there constructs takes few =
    let h : HasTotality sig f =
    constructor_has_totality sig f info ok there constructs
    (omega (arith, few, takes info there)) in
    let same : h.0 ≡ info = same_info sig f h.0 info h.3.constructs.0.there there in
    (h.1, h.2, subst (λ (i : SymInfo). MakesTerms sig f i h.1 h.2) same h.3)

pub has_freedom : (sig : Signature) (f n : ℕ) → IsSignature sig → IsFreeConstructor sig f
    → HasArity sig f n → n < 2 ^ 31 → HasFreedom sig f
has_freedom sig f n ok free takes few =
    let m : (sorts : List ℕ) × (sort : ℕ) × MakesTerms sig f free.info sorts sort =
    makes_terms sig f n free.info ok free.there free.constructs takes few in
    let args : length free.info.args.items ≡ length m.0 =
    ap (λ (rs : List SortRef). length rs) m.2.constructs.0.takes ∙ length-map m.0 sort_numbered in
    record {
      info = free.info;
      sorts = m.0;
      sort = m.1;
      makes = m.2;
      no_ac = free.no_ac;
      some = omega (arith, args, free.some);
    }

number_of : SortRef → ℕ
number_of (Param i) = i
number_of (Sort s) = s.0

same_sort : (s t : ℕ) → sort_numbered s ≡ sort_numbered t → s ≡ t
unfolding number_of
same_sort s t h = ap number_of h

pub has_difference : (sig : Signature) (f g n m : ℕ) → IsSignature sig
    → AreApartConstructors sig f g → HasArity sig f n → HasArity sig g m → n < 2 ^ 31
    → m < 2 ^ 31 → HasDifference sig f g
has_difference sig f g n m ok apart takes takes' few few' =
    let one : (sorts : List ℕ) × (sort : ℕ) × MakesTerms sig f apart.info sorts sort =
    makes_terms sig f n apart.info ok apart.there apart.construct.0 takes few in
    let other : (sorts : List ℕ) × (sort : ℕ) × MakesTerms sig g apart.other sorts sort =
    makes_terms sig g m apart.other ok apart.other_there apart.construct.1 takes' few' in
    let same : other.1 ≡ one.1 =
    same_sort other.1 one.1
    (sym other.2.constructs.0.makes ∙ sym apart.same_result ∙ one.2.constructs.0.makes) in
    record {
      differ = apart.differ;
      info = apart.info;
      other = apart.other;
      sorts = one.0;
      others = other.0;
      sort = one.1;
      first = one.2;
      second = subst (λ (s : ℕ). MakesTerms sig g apart.other other.0 s) same other.2;
      no_ac = apart.no_ac;
    }

-- ---- numbers of sorts

-- the numbers of two lists, one behind the other
pub record AreBehind (sig : Signature) (names : List (List ℕ)) (ss ts numbers : List ℕ) : Type 0
  where
    pub first : List ℕ
    pub are_first : AreSortImages sig names ss first
    pub second : List ℕ
    pub are_second : AreSortImages sig names ts second
    pub all : numbers ≡ first ++ second

split_numbers : (sig : Signature) (names : List (List ℕ)) (ss ts ns : List ℕ)
    → AreSortImages sig names (ss ++ ts) ns → AreBehind sig names ss ts ns
split_numbers sig names [] ts ns h = record {
  first = [];
  are_first = tt;
  second = ns;
  are_second = h;
  all = refl;
}
split_numbers sig names (s ∷ ss) ts [] h = absurd h
split_numbers sig names (s ∷ ss) ts (n ∷ ns) h =
    let rest : AreBehind sig names ss ts ns = split_numbers sig names ss ts ns h.1 in
    record {
      first = n ∷ rest.first;
      are_first = (h.0, rest.are_first);
      second = rest.second;
      are_second = rest.are_second;
      all = ap (λ (ms : List ℕ). n ∷ ms) rest.all;
    }

same_numbers : (sig : Signature) (names : List (List ℕ)) (ss ns ms : List ℕ)
    → AreSortImages sig names ss ns → AreSortImages sig names ss ms → ns ≡ ms
same_numbers sig names [] [] [] h k = refl
same_numbers sig names [] [] (m ∷ ms) h k = absurd k
same_numbers sig names [] (n ∷ ns) ms h k = absurd h
same_numbers sig names (s ∷ ss) [] ms h k = absurd h
same_numbers sig names (s ∷ ss) (n ∷ ns) [] h k = absurd k
same_numbers sig names (s ∷ ss) (n ∷ ns) (m ∷ ms) h k =
    ap (λ (xs : List ℕ). n ∷ xs) (same_numbers sig names ss ns ms h.1 k.1)
    ∙ ap (λ (x : ℕ). x ∷ ms) (some_same n m (sym h.0 ∙ k.0))

-- ---- applications to variables

pub applied_variables : (n k : ℕ) (h : Pattern)
    → at_variables h k n ≡ applied_to h (variables_from k n)
applied_variables zero k h = refl
applied_variables (suc n) k h = applied_variables n (k + 1) (logic.app h (logic.var k))

applied_pairs : (n k m : ℕ) (h : Pattern) → at_pairs h k m n ≡ applied_to h (pairs_from k m n)
applied_pairs zero k m h = refl
applied_pairs (suc n) k m h =
    applied_pairs n (k + 1) (m + 1) (logic.app h (logic.and (logic.var k) (logic.var m)))

-- a symbol of variables: the number of the symbol, and the pattern
pub record IsOfVariables (sig : Signature) (names : List (List ℕ)) (f k n : ℕ) (p : Pattern) :
    Type 0 where
  pub head : ℕ
  pub is_head : symbol_image sig names f ≡ Some (logic.constant head)
  pub is : p ≡ at_numbered head k n

numbered_made : (sig : Signature) (names : List (List ℕ)) (f c k n : ℕ) (p : Pattern)
    → symbol_image sig names f ≡ Some (logic.constant c)
    → sentence_image sig names (of_variables f k n) ≡ Some p → p ≡ at_numbered c k n
numbered_made sig names f c k n p head is =
    some_same p (at_variables (logic.constant c) k n)
    (sym is ∙ variables_image sig names n k (symbol f) (logic.constant c) head)
    ∙ applied_variables n k (logic.constant c)

numbered_shape : (sig : Signature) (names : List (List ℕ)) (f k n : ℕ) (p : Pattern)
    → sentence_image sig names (of_variables f k n) ≡ Some p → IsOfVariables sig names f k n p
numbered_shape sig names f k n p is =
    let head : (h : Pattern) × (symbol_image sig names f ≡ Some h) =
    applied_variables_some sig names n k (symbol f) p is in
    let c : (c : ℕ) × (number_in_names names (token_of_symbol sig f) ≡ Some c) ×
    (head.0 ≡ logic.constant c) =
    map_some logic.constant (number_in_names names (token_of_symbol sig f)) head.0 head.1 in
    let is_head : symbol_image sig names f ≡ Some (logic.constant c.0) =
    head.1 ∙ ap (λ (x : Pattern). Some x) c.2 in
    record {
      head = c.0;
      is_head = is_head;
      is = numbered_made sig names f c.0 k n p is_head is;
    }

same_constant : (c d : ℕ) → logic.constant c ≡ logic.constant d → c ≡ d
same_constant c d h = cc

-- ---- freedom

-- the body of the axiom, with the number of the symbol
free_body : ℕ → ℕ → Pattern
free_body c n =
    logic.imp (logic.and (at_numbered c 0 n) (at_numbered c n n))
    (applied_to (logic.constant c) (pairs_from 0 n n))

free_shape : (sig : Signature) (names : List (List ℕ)) (f n : ℕ) (p : Pattern)
    → sentence_image sig names (implies (and (of_variables f 0 n) (of_variables f n n))
    (apply_all (symbol f) (conjunctions (variables 0 n) (variables n n)))) ≡ Some p
    → (c : ℕ) × (symbol_image sig names f ≡ Some (logic.constant c)) × (p ≡ free_body c n)
unfolding free_body
free_shape sig names f n p is =
    let joined : Sentence = apply_all (symbol f) (conjunctions (variables 0 n) (variables n n)) in
    let w : (x : Pattern) × (y : Pattern) ×
    (both logic.and (sentence_image sig names (of_variables f 0 n))
    (sentence_image sig names (of_variables f n n)) ≡ Some x) ×
    (sentence_image sig names
    (apply_all (symbol f) (conjunctions (variables 0 n) (variables n n))) ≡ Some y) ×
    (p ≡ logic.imp x y) =
    both_some logic.imp (both logic.and (sentence_image sig names (of_variables f 0 n))
    (sentence_image sig names (of_variables f n n))) (sentence_image sig names joined) p is in
    let v : (x : Pattern) × (y : Pattern) ×
    (sentence_image sig names (of_variables f 0 n) ≡ Some x) ×
    (sentence_image sig names (of_variables f n n) ≡ Some y) × (w.0 ≡ logic.and x y) =
    both_some logic.and (sentence_image sig names (of_variables f 0 n))
    (sentence_image sig names (of_variables f n n)) w.0 w.2 in
    let one : IsOfVariables sig names f 0 n v.0 = numbered_shape sig names f 0 n v.0 v.2 in
    let other : v.1 ≡ at_numbered one.head n n =
    numbered_made sig names f one.head n n v.1 one.is_head v.3 in
    let pairs : w.1 ≡ applied_to (logic.constant one.head) (pairs_from 0 n n) =
    some_same w.1 (at_pairs (logic.constant one.head) 0 n n)
    (sym w.3 ∙ pairs_image sig names n 0 n (symbol f) (logic.constant one.head) one.is_head)
    ∙ applied_pairs n 0 n (logic.constant one.head) in (
      one.head,
      one.is_head,
      w.4 ∙ ap (λ (x : Pattern). logic.imp x w.1)
          (v.4 ∙ ap (λ (x : Pattern). logic.and x v.1) one.is
          ∙ ap (logic.and (at_numbered one.head 0 n)) other)
          ∙ ap (logic.imp (logic.and (at_numbered one.head 0 n) (at_numbered one.head n n))) pairs,
    )

pub says_free : (cx : Context) (f : ℕ) (p : Pattern)
    → IsImageOf cx.program.sig cx.names (SaysFree cx.program.sig f) p → SaysFreeFrom cx f 0 p
unfolding free_body
says_free cx f p (s, says, is) =
    let n : ℕ = length says.sorts in
    let body : Sentence = implies (and (of_variables f 0 n) (of_variables f n n))
    (apply_all (symbol f) (conjunctions (variables 0 n) (variables n n))) in
    let closing : IsClosing cx.program.sig cx.names 0 (says.sorts ++ says.sorts) body p =
    closing_shape cx.program.sig cx.names (says.sorts ++ says.sorts) 0 body p
    (ap (sentence_image cx.program.sig cx.names) (sym says.says) ∙ is) in
    let behind : AreBehind cx.program.sig cx.names says.sorts says.sorts closing.numbers =
    split_numbers cx.program.sig cx.names says.sorts says.sorts closing.numbers
    closing.are_numbers in
    let same : behind.second ≡ behind.first =
    same_numbers cx.program.sig cx.names says.sorts behind.second behind.first
    behind.are_second behind.are_first in
    let many : length says.sorts ≡ length behind.first =
    sym (as_many_numbers cx.program.sig cx.names says.sorts behind.first behind.are_first) in
    let shape : (c : ℕ) × (symbol_image cx.program.sig cx.names f ≡ Some (logic.constant c)) ×
    (closing.body ≡ free_body c (length says.sorts)) =
    free_shape cx.program.sig cx.names f n closing.body closing.is_body in
    let next : length behind.first ≡ 0 + length behind.first = omega arith in
    record {
      numbered = record {
        info = says.info;
        sorts = says.sorts;
        sort = says.sort;
        constructs = says.constructs;
        head = shape.0;
        is_head = shape.1;
        numbers = behind.first;
        are_numbers = behind.are_first;
      };
      says = closing.says ∙ ap (all_from 0 closing.numbers) shape.2
          ∙ ap (λ (ns : List ℕ). all_from 0 ns (free_body shape.0 (length says.sorts)))
          (behind.all ∙ ap (λ (ns : List ℕ). behind.first ++ ns) same)
          ∙ ap (λ (m : ℕ). all_from 0 (behind.first ++ behind.first) (free_body shape.0 m)) many
          ∙ ap (λ (m : ℕ). all_from 0 (behind.first ++ behind.first) (logic.imp
          (logic.and (at_numbered shape.0 0 (length behind.first))
          (at_numbered shape.0 m (length behind.first)))
          (applied_to (logic.constant shape.0) (pairs_from 0 m (length behind.first))))) next;
    }

-- ---- difference

-- what the two symbols of variables are
pub record IsDifference (sig : Signature) (names : List (List ℕ)) (f n g m : ℕ) (p : Pattern) :
    Type 0 where
  pub one : ℕ
  pub is_one : symbol_image sig names f ≡ Some (logic.constant one)
  pub other : ℕ
  pub is_other : symbol_image sig names g ≡ Some (logic.constant other)
  pub says : p ≡ logic.not (logic.and (at_numbered one 0 n) (at_numbered other n m))

apart_shape : (sig : Signature) (names : List (List ℕ)) (f n g m : ℕ) (p : Pattern)
    → sentence_image sig names (not (and (of_variables f 0 n) (of_variables g n m))) ≡ Some p
    → IsDifference sig names f n g m p
apart_shape sig names f n g m p is =
    let w : (x : Pattern) × (both logic.and (sentence_image sig names (of_variables f 0 n))
    (sentence_image sig names (of_variables g n m)) ≡ Some x) × (p ≡ logic.not x) =
    map_some logic.not (both logic.and (sentence_image sig names (of_variables f 0 n))
    (sentence_image sig names (of_variables g n m))) p is in
    let v : (x : Pattern) × (y : Pattern) ×
    (sentence_image sig names (of_variables f 0 n) ≡ Some x) ×
    (sentence_image sig names (of_variables g n m) ≡ Some y) × (w.0 ≡ logic.and x y) =
    both_some logic.and (sentence_image sig names (of_variables f 0 n))
    (sentence_image sig names (of_variables g n m)) w.0 w.1 in
    let one : IsOfVariables sig names f 0 n v.0 = numbered_shape sig names f 0 n v.0 v.2 in
    let other : IsOfVariables sig names g n m v.1 = numbered_shape sig names g n m v.1 v.3 in
    record {
      one = one.head;
      is_one = one.is_head;
      other = other.head;
      is_other = other.is_head;
      says = w.2 ∙ ap logic.not (v.4 ∙ ap (λ (x : Pattern). logic.and x v.1) one.is
          ∙ ap (logic.and (at_numbered one.head 0 n)) other.is);
    }

pub says_apart : (cx : Context) (f g : ℕ) (p : Pattern)
    → IsImageOf cx.program.sig cx.names (SaysApart cx.program.sig f g) p
    → SaysApartFrom cx f g 0 p
says_apart cx f g p (s, says, is) =
    let n : ℕ = length says.sorts in
    let m : ℕ = length says.others in
    let body : Sentence = not (and (of_variables f 0 n) (of_variables g n m)) in
    let closing : IsClosing cx.program.sig cx.names 0 (says.sorts ++ says.others) body p =
    closing_shape cx.program.sig cx.names (says.sorts ++ says.others) 0 body p
    (ap (sentence_image cx.program.sig cx.names) (sym says.says) ∙ is) in
    let behind : AreBehind cx.program.sig cx.names says.sorts says.others closing.numbers =
    split_numbers cx.program.sig cx.names says.sorts says.others closing.numbers
    closing.are_numbers in
    let many : length says.sorts ≡ length behind.first =
    sym (as_many_numbers cx.program.sig cx.names says.sorts behind.first behind.are_first) in
    let many' : length says.others ≡ length behind.second =
    sym (as_many_numbers cx.program.sig cx.names says.others behind.second behind.are_second) in
    let shape : IsDifference cx.program.sig cx.names f (length says.sorts) g (length says.others)
    closing.body =
    apart_shape cx.program.sig cx.names f n g m closing.body closing.is_body in
    let next : length behind.first ≡ 0 + length behind.first = omega arith in
    record {
      first = record {
        info = says.info;
        sorts = says.sorts;
        sort = says.sort;
        constructs = says.first;
        head = shape.one;
        is_head = shape.is_one;
        numbers = behind.first;
        are_numbers = behind.are_first;
      };
      second = record {
        info = says.other;
        sorts = says.others;
        sort = says.sort;
        constructs = says.second;
        head = shape.other;
        is_head = shape.is_other;
        numbers = behind.second;
        are_numbers = behind.are_second;
      };
      says = closing.says ∙ ap (all_from 0 closing.numbers) shape.says
          ∙ ap (λ (ns : List ℕ). all_from 0 ns (logic.not (logic.and
          (at_numbered shape.one 0 (length says.sorts))
          (at_numbered shape.other (length says.sorts) (length says.others))))) behind.all
          ∙ ap (λ (i : ℕ). all_from 0 (behind.first ++ behind.second) (logic.not (logic.and
          (at_numbered shape.one 0 i) (at_numbered shape.other i (length says.others))))) many
          ∙ ap (λ (i : ℕ). all_from 0 (behind.first ++ behind.second) (logic.not (logic.and
          (at_numbered shape.one 0 (length behind.first))
          (at_numbered shape.other (length behind.first) i)))) many'
          ∙ ap (λ (i : ℕ). all_from 0 (behind.first ++ behind.second) (logic.not (logic.and
          (at_numbered shape.one 0 (length behind.first))
          (at_numbered shape.other i (length behind.second))))) next;
    }

-- ---- injections

pub says_injective : (cx : Context) (a b : ℕ) (p : Pattern)
    → IsImageOf cx.program.sig cx.names (SaysInjective cx.program.sig a b) p
    → SaysInjectiveFrom cx a b 0 p
says_injective cx a b p (s, says, is) =
    let at : ℕ → Option Pattern = λ i.
    both logic.app (injection_image cx.program.sig cx.names a b) (Some (logic.var i)) in
    let whole : both (logic.all 0) (sort_image cx.program.sig cx.names a) (both (logic.all 1)
    (sort_image cx.program.sig cx.names a) (both logic.imp
    (both logic.equal
    (both logic.app (injection_image cx.program.sig cx.names a b) (Some (logic.var 0)))
    (both logic.app (injection_image cx.program.sig cx.names a b) (Some (logic.var 1))))
    (Some (logic.equal (logic.var 0) (logic.var 1))))) ≡ Some p =
    ap (sentence_image cx.program.sig cx.names) (sym says.says) ∙ is in
    let w : (m : ℕ) × (q : Pattern) × (sort_image cx.program.sig cx.names a ≡ Some m) ×
    (both (logic.all 1) (sort_image cx.program.sig cx.names a) (both logic.imp
    (both logic.equal (at 0) (at 1)) (Some (logic.equal (logic.var 0) (logic.var 1)))) ≡ Some q)
    × (p ≡ logic.all 0 m q) =
    both_some (logic.all 0) (sort_image cx.program.sig cx.names a) (both (logic.all 1)
    (sort_image cx.program.sig cx.names a) (both logic.imp (both logic.equal (at 0) (at 1))
    (Some (logic.equal (logic.var 0) (logic.var 1))))) p whole in
    let v : (m : ℕ) × (q : Pattern) × (sort_image cx.program.sig cx.names a ≡ Some m) ×
    (both logic.imp (both logic.equal (at 0) (at 1))
    (Some (logic.equal (logic.var 0) (logic.var 1))) ≡ Some q) × (w.1 ≡ logic.all 1 m q) =
    both_some (logic.all 1) (sort_image cx.program.sig cx.names a) (both logic.imp
    (both logic.equal (at 0) (at 1)) (Some (logic.equal (logic.var 0) (logic.var 1)))) w.1 w.3 in
    let u : (x : Pattern) × (y : Pattern) × (both logic.equal (at 0) (at 1) ≡ Some x) ×
    (Some (logic.equal (logic.var 0) (logic.var 1)) ≡ Some y) × (v.1 ≡ logic.imp x y) =
    both_some logic.imp (both logic.equal (at 0) (at 1))
    (Some (logic.equal (logic.var 0) (logic.var 1))) v.1 v.3 in
    let r : (x : Pattern) × (y : Pattern) × (at 0 ≡ Some x) × (at 1 ≡ Some y) ×
    (u.0 ≡ logic.equal x y) =
    both_some logic.equal (at 0) (at 1) u.0 u.2 in
    let j : (e : HasEnds cx.program.sig cx.names a b) × (q : Pattern) ×
    (Some (logic.var 0) ≡ Some q) × (r.0 ≡ inject e.symbol e.lower e.upper q) =
    injection_shape cx.program.sig cx.names a b (Some (logic.var 0)) r.0 r.2 in
    let first : r.0 ≡ inject j.0.symbol j.0.lower j.0.upper (logic.var 0) =
    some_same r.0 (inject j.0.symbol j.0.lower j.0.upper (logic.var 0)) (sym r.2
    ∙ injection_made cx.program.sig cx.names a b j.0 (Some (logic.var 0)) (logic.var 0) refl) in
    let second : r.1 ≡ inject j.0.symbol j.0.lower j.0.upper (logic.var 1) =
    some_same r.1 (inject j.0.symbol j.0.lower j.0.upper (logic.var 1)) (sym r.3
    ∙ injection_made cx.program.sig cx.names a b j.0 (Some (logic.var 1)) (logic.var 1) refl) in
    let given : u.0 ≡ logic.equal (inject j.0.symbol j.0.lower j.0.upper (logic.var 0))
    (inject j.0.symbol j.0.lower j.0.upper (logic.var 1)) =
    r.4 ∙ ap (λ (x : Pattern). logic.equal x r.1) first
    ∙ ap (logic.equal (inject j.0.symbol j.0.lower j.0.upper (logic.var 0))) second in
    let then : u.1 ≡ logic.equal (logic.var 0) (logic.var 1) =
    sym (some_same (logic.equal (logic.var 0) (logic.var 1)) u.1 u.3) in
    let outer : w.0 ≡ j.0.lower = some_same w.0 j.0.lower (sym w.2 ∙ j.0.is_lower) in
    let inner : v.0 ≡ j.0.lower = some_same v.0 j.0.lower (sym v.2 ∙ j.0.is_lower) in
    record {
      ends = j.0;
      says = w.4 ∙ ap (λ (m : ℕ). logic.all 0 m w.1) outer
          ∙ ap (logic.all 0 j.0.lower) (v.4 ∙ ap (λ (m : ℕ). logic.all 1 m v.1) inner
          ∙ ap (logic.all 1 j.0.lower) (u.4 ∙ ap (λ (x : Pattern). logic.imp x u.1) given
          ∙ ap (logic.imp (logic.equal (inject j.0.symbol j.0.lower j.0.upper (logic.var 0))
          (inject j.0.symbol j.0.lower j.0.upper (logic.var 1)))) then));
    }
