-- Two signatures of the same declarations give the axioms the same faults. They differ at most in
-- where their names and lists are stored.
use Rattle.std.proofs.Common.{◌≡◌, ℕ, ◌+◌, Bool, cond, List, [], ◌∷◌, ◌++◌, drop, length, zero, suc}
use Rattle.std.proofs.Common.{Option, Some, None, refl, sym, ap, ◌∙◌, subst, inl, inr}
use Rattle.std.specs.Prelude.{◌==◌, ◌&&◌, not, Contains, slice_get, option_map, string_bytes}
use Rattle.std.specs.Prelude.{is_none, flat_map, if◌then◌else◌, ◌||◌, codes, nat_lt}
use Rattle.std.specs.List.{AllZip, position_from}
use Rattle.std.specs.Option.{option_and_then}
use Rattle.std.specs.Str.{bytes_eq}
use Rattle.kore_text.specs.Trees.{SortTree, PatternTree, AxiomDeclaration}
use Rattle.rule_core.specs.Named.{number_of_name}
use Rattle.rule_core.specs.Sorting.{sort_at}
use Rattle.rule_core.specs.declared.signature.Signature.{Signature}
use Rattle.rule_core.specs.declared.signature.SymInfo.{SymInfo}
use Rattle.rule_core.specs.declared.signature.SymKind.{SymKind}
use Rattle.rule_core.specs.declared.signature.SortRef.{SortRef}
use Rattle.kore_sig.specs.Attributes.{has_attribute}
use Rattle.kore_sig.specs.FirstFault.{Fault, ByByte, ByNumber, IsFirstBy, Then, IsFirstOfSequence}
use Rattle.kore_sig.specs.FirstFault.{when, unless, faults_of_tests}
use Rattle.kore_sig.specs.SignatureLaws.{IsSameSymbol, AreSameSignature}
use Rattle.kore_sig.specs.SortReferences.{sort_number}
use Rattle.kore_check.specs.Folds.{Unfolded, named_variable, written_value, applied_symbol}
use Rattle.kore_check.specs.Folds.{both_of, other_form, Unfoldeds, no_more, and_more, unfolded_byte, count}
use Rattle.kore_check.specs.Folds.{unfolded_height, unfolded}
use Rattle.kore_check.specs.PatternSorts.{symbol_named, sort_numbers, number_then, result_sort}
use Rattle.kore_check.specs.PatternSorts.{sort_of_pattern, places_of}
use Rattle.kore_check.specs.PatternFaults.{sort_faults, clash_faults, symbol_faults, first_wanted}
use Rattle.kore_check.specs.PatternFaults.{pattern_faults, argument_faults, all_faults}
use Rattle.kore_check.specs.PatternFaults.{is_bad_injection}
use Rattle.rule_core.specs.Evaluation.{most_height}
use Rattle.rule_core.specs.KindTests.{is_injection, has_no_kind, is_defined_kind, is_function_kind}
use Rattle.kore_shapes.specs.Shapes.{Rewriting, rewriting, Condition, always, tests, ill}
use Rattle.kore_shapes.specs.Shapes.{found_part}
use Rattle.kore_shapes.specs.Statements.{StatedEquation, stated_equation}
use Rattle.kore_axioms.specs.AxiomClasses.{AxiomClass, refused, orders_sorts, rewrites, equates}
use Rattle.kore_axioms.specs.AxiomClasses.{passed_over, axiom_class, takes_equations}
use Rattle.kore_axioms.specs.AxiomClasses.{is_no_equation, class_of_statement, class_of_pattern}
use Rattle.kore_axioms.specs.AxiomClasses.{states_pairs}
use Rattle.kore_axioms.specs.Conditions.{tested_pattern}
use Rattle.kore_axioms.specs.RuleFaults.{FirstOfRule, faults_at_sort, side_faults, condition_faults}
use Rattle.kore_axioms.specs.RuleFaults.{found_top_faults, sorted_faults, listed_pattern, is_bound}
use Rattle.kore_axioms.specs.RuleFaults.{differs_from, use_faults}
use Rattle.kore_axioms.specs.RuleForms.{form_faults, holds_of}
use Rattle.kore_axioms.specs.RuleParts.{RuleParts, rule_parts, left_of, right_of}
use Rattle.kore_axioms.specs.Uses.{has_symbol, is_plain_function, is_plain_function_with}
use Rattle.kore_axioms.specs.Uses.{is_ac_symbol, is_ac_with}
use Rattle.kore_rules.specs.FirstRefusal.{FirstOfClass, FirstOfAxioms, first_sort}

-- ---- symbols

-- two declared symbols with the same name
pub record IsAlike (a b : SymInfo) : Type 0 where
  pub kind : a.kind ≡ b.kind
  pub params : a.params ≡ b.params
  pub args : a.args.items ≡ b.args.items
  pub result : a.result ≡ b.result
  pub hook : option_map string_bytes a.hook ≡ option_map string_bytes b.hook
  pub ac : a.ac ≡ b.ac

-- both are declared and alike, or neither is declared
abbrev pub AreAlike : Option SymInfo → Option SymInfo → Type 0
AreAlike None None = Unit {0}
AreAlike None (Some b) = ⊥
AreAlike (Some a) None = ⊥
AreAlike (Some a) (Some b) = IsAlike a b

pub alike : (e f : List ℕ × SymInfo) → IsSameSymbol e f → IsAlike e.1 f.1
alike e f h = record {
  kind = h.kind;
  params = h.params;
  args = h.args;
  result = h.result;
  hook = h.hook;
  ac = h.ac;
}

abbrev pub Symbols : Type 0
Symbols = List (List ℕ × SymInfo)

pub position_alike : (name : List ℕ) (i : ℕ) (xs ys : Symbols) → AllZip IsSameSymbol xs ys
    → position_from (λ (e : List ℕ × SymInfo). bytes_eq name e.0) i xs
    ≡ position_from (λ (e : List ℕ × SymInfo). bytes_eq name e.0) i ys
position_alike name i [] [] same = refl
position_alike name i [] (y ∷ ys) same = absurd same
position_alike name i (x ∷ xs) [] same = absurd same
position_alike name i (x ∷ xs) (y ∷ ys) same =
    ap (λ (n : List ℕ). cond (bytes_eq name n) (Some i)
    (position_from (λ (e : List ℕ × SymInfo). bytes_eq name e.0) (i + 1) xs)) same.0.name
    ∙ ap (λ (o : Option ℕ). cond (bytes_eq name y.0) (Some i) o)
    (position_alike name (i + 1) xs ys same.1)

abbrev pub info_at : Symbols → ℕ → Option SymInfo
info_at xs n = option_map (λ (e : List ℕ × SymInfo). e.1) (slice_get xs n)

pub info_alike : (xs ys : Symbols) (n : ℕ) → AllZip IsSameSymbol xs ys
    → AreAlike (info_at xs n) (info_at ys n)
info_alike [] [] n same = tt
info_alike [] (y ∷ ys) n same = absurd same
info_alike (x ∷ xs) [] n same = absurd same
info_alike (x ∷ xs) (y ∷ ys) zero same = alike x y same.0
info_alike (x ∷ xs) (y ∷ ys) (suc n) same = info_alike xs ys n same.1

numbered_alike : (xs ys : Symbols) (o : Option ℕ) → AllZip IsSameSymbol xs ys
    → AreAlike (option_and_then (info_at xs) o) (option_and_then (info_at ys) o)
numbered_alike xs ys None same = tt
numbered_alike xs ys (Some n) same = info_alike xs ys n same

result_alike : (a b : Option SymInfo) (ss : List SortTree) (ns : Option (List ℕ)) → AreAlike a b
    → result_sort a ss ns ≡ result_sort b ss ns
result_alike None None ss ns h = refl
result_alike None (Some b) ss ns h = absurd h
result_alike (Some a) None ss ns h = absurd h
result_alike (Some a) (Some b) ss None h = refl
result_alike (Some a) (Some b) ss (Some ns) h =
    ap (λ (n : ℕ). if length ss == n then sort_at ns a.result else None) h.params
    ∙ ap (λ (of : SortRef). if length ss == b.params then sort_at ns of else None) h.result

places_alike : (a b : Option SymInfo) → AreAlike a b → places_of a ≡ places_of b
places_alike None None h = refl
places_alike None (Some b) h = absurd h
places_alike (Some a) None h = absurd h
places_alike (Some a) (Some b) h = h.args

plain_function_alike : (a b : Option SymInfo) → AreAlike a b
    → is_plain_function_with a ≡ is_plain_function_with b
plain_function_alike None None h = refl
plain_function_alike None (Some b) h = absurd h
plain_function_alike (Some a) None h = absurd h
plain_function_alike (Some a) (Some b) h =
    ap (λ (k : SymKind). is_function_kind k && not a.ac) h.kind
    ∙ ap (λ (ac : Bool). is_function_kind b.kind && not ac) h.ac

ac_alike : (a b : Option SymInfo) → AreAlike a b → is_ac_with a ≡ is_ac_with b
ac_alike None None h = refl
ac_alike None (Some b) h = absurd h
ac_alike (Some a) None h = absurd h
ac_alike (Some a) (Some b) h = h.ac

is_none_map : {X Y : Type 0} (f : X → Y) (o : Option X) → is_none (option_map f o) ≡ is_none o
is_none_map f None = refl
is_none_map f (Some x) = refl

takes_alike : (a b : Option SymInfo) → AreAlike a b → takes_equations a ≡ takes_equations b
takes_alike None None h = refl
takes_alike None (Some b) h = absurd h
takes_alike (Some a) None h = absurd h
takes_alike (Some a) (Some b) h =
    ap (λ (k : SymKind). is_defined_kind k && is_none a.hook) h.kind
    ∙ ap (λ (none : Bool). is_defined_kind b.kind && none) (sym (is_none_map string_bytes a.hook)
    ∙ ap (λ (name : Option (List ℕ)). is_none name) h.hook ∙ is_none_map string_bytes b.hook)

-- ---- stages and things in order

then_alike : (P Q R S : Option Fault → Type 0) → ((r : Option Fault) → P r → R r)
    → ((r : Option Fault) → Q r → S r) → (r : Option Fault) → Then P Q r → Then R S r
then_alike P Q R S one two None h = (one None h.0, two None h.1)
then_alike P Q R S one two (Some f) (inl h) = inl (one (Some f) h)
then_alike P Q R S one two (Some f) (inr h) = inr (one None h.0, two (Some f) h.1)

in_order_alike : {S A : Type 0} (P Q : S → A → Option Fault → Type 0) (next onward : S → A → S)
    → ((s : S) (x : A) (r : Option Fault) → P s x r → Q s x r)
    → ((s : S) (x : A) → next s x ≡ onward s x) → (s : S) (xs : List A) (r : Option Fault)
    → IsFirstOfSequence P next s xs r → IsFirstOfSequence Q onward s xs r
in_order_alike P Q next onward each same s [] r h = h
in_order_alike {S} P Q next onward each same s (x ∷ xs) r h =
    then_alike (P s x) (IsFirstOfSequence P next (next s x) xs) (Q s x)
    (IsFirstOfSequence Q onward (onward s x) xs) (each s x)
    (λ q k. subst (λ (behind : S). IsFirstOfSequence Q onward behind xs q) (same s x)
    (in_order_alike P Q next onward each same (next s x) xs q k)) r h

-- ---- faults, by what they depend on

abbrev height_faults : Unfolded → List Fault
height_faults p = when (nat_lt most_height (unfolded_height p)) 3 (unfolded_byte p)

abbrev faults_by : (List ℕ → Bool) → (List ℕ → Bool) → Option SortTree → ℕ → SortTree → RuleParts
    → List Fault
faults_by plain ac first at x w =
    faults_of_tests at
    ((holds_of (λ (p : PatternTree). has_symbol plain (unfolded p)) (left_of w), 12)
    ∷ ((holds_of (λ (p : PatternTree). has_symbol ac (unfolded p)) (left_of w), 14)
    ∷ ((
      not (is_bound (listed_pattern
          (left_of w)) (tested_pattern w.condition)
          && is_bound (listed_pattern (left_of w)) (right_of w)),
      18,
    )
    ∷ ((differs_from first x, 19) ∷ []))))

abbrev FirstBy : List Fault → List Fault → List Fault → Option Fault → Type 0
FirstBy form sorted uses r =
    Then (IsFirstBy ByNumber (Contains form))
    (Then (IsFirstBy ByByte (Contains sorted)) (IsFirstBy ByNumber (Contains uses))) r

abbrev class_or : List PatternTree → AxiomClass → AxiomClass
class_or attributes k =
    if has_attribute (codes "anywhere") attributes then refused 20
    else if has_attribute (codes
    "overload") attributes || has_attribute (codes "symbol-overload") attributes then refused 21
    else if states_pairs attributes then orders_sorts
    else k

-- ---- a signature, and another one with other entries of the same symbols

abbrev pub with_symbols : Signature → Symbols → Signature
with_symbols s xs = record { sorts = s.sorts; symbols = xs; subsorts = s.subsorts }

module _ (s : Signature) (xs : Symbols) (same : AllZip IsSameSymbol s.symbols xs) where
  abbrev t : Signature
  t = with_symbols s xs

  pub symbol_alike : (name : List ℕ) → AreAlike (symbol_named s name) (symbol_named t name)
  symbol_alike name =
      subst (λ (o : Option ℕ). AreAlike (symbol_named s name) (option_and_then (info_at xs) o))
      (position_alike name 0 s.symbols xs same)
      (numbered_alike s.symbols xs (number_of_name s.symbols name) same)

  pub numbers_alike : (ss : List SortTree) → sort_numbers s ss ≡ sort_numbers t ss
  numbers_alike [] = refl
  numbers_alike (x ∷ ss) = ap (number_then (sort_number s.sorts x)) (numbers_alike ss)

  sort_alike : (p : Unfolded) → sort_of_pattern s p ≡ sort_of_pattern t p
  sort_alike (named_variable at name x) = refl
  sort_alike (written_value at x text byte) = refl
  sort_alike (applied_symbol at byte name ss ps) =
      result_alike (symbol_named s name) (symbol_named t name) ss (sort_numbers s ss)
      (symbol_alike name) ∙ ap (result_sort (symbol_named t name) ss) (numbers_alike ss)
  sort_alike (both_of at x p q) = refl
  sort_alike (other_form at) = refl

  head_alike : (byte : ℕ) (a b : Option SymInfo) (ss : List SortTree) (n : ℕ) → AreAlike a b
      → symbol_faults s byte a ss n ≡ symbol_faults t byte b ss n
  head_alike byte None None ss n h = refl
  head_alike byte None (Some b) ss n h = absurd h
  head_alike byte (Some a) None ss n h = absurd h
  head_alike byte (Some a) (Some b) ss n h =
      let all : ℕ → List SortRef → SymKind → Option (List ℕ) → List Fault =
      λ (m : ℕ) (refs : List SortRef) (k : SymKind) (ns : Option (List ℕ)).
      unless ((length ss == m) && (n == length refs)) 8 byte
      ++ when (is_injection k && is_bad_injection s ns) 9 byte
      ++ when (has_no_kind k) 25 byte in
      ap (λ (m : ℕ). all m a.args.items a.kind (sort_numbers s ss)) h.params
      ∙ ap (λ (refs : List SortRef). all b.params refs a.kind (sort_numbers s ss)) h.args
      ∙ ap (λ (k : SymKind). all b.params b.args.items k (sort_numbers s ss)) h.kind
      ∙ ap (λ (ns : Option (List ℕ)). all b.params b.args.items b.kind ns) (numbers_alike ss)

  mutual
    faults_alike : (p : Unfolded) → pattern_faults s p ≡ pattern_faults t p
    faults_alike (named_variable at name x) = refl
    faults_alike (written_value at x text byte) = refl
    faults_alike (applied_symbol at byte name ss ps) =
        let front : List Fault = flat_map (sort_faults s) ss in
        ap (λ (fs : List Fault).
        front ++ (fs ++ argument_faults s ss (places_of (symbol_named s name)) ps))
        (head_alike byte (symbol_named s name) (symbol_named t name) ss (count ps)
        (symbol_alike name))
        ∙ ap (λ (refs : List SortRef). front
        ++ (symbol_faults t byte (symbol_named t name) ss (count ps)
        ++ argument_faults s ss refs ps))
        (places_alike (symbol_named s name) (symbol_named t name) (symbol_alike name))
        ∙ ap (λ (fs : List Fault).
        front ++ (symbol_faults t byte (symbol_named t name) ss (count ps) ++ fs))
        (arguments_alike ss (places_of (symbol_named t name)) ps)
    faults_alike (both_of at x p q) = λ i.
        sort_faults s x
        ++ (faults_alike p i
        ++ (clash_faults (unfolded_byte p) (sort_alike p i) (sort_number s.sorts x)
        ++ (faults_alike q i
        ++ clash_faults (unfolded_byte q) (sort_alike q i) (sort_number s.sorts x))))
    faults_alike (other_form at) = refl

    pub arguments_alike : (ss : List SortTree) (refs : List SortRef) (ps : Unfoldeds)
        → argument_faults s ss refs ps ≡ argument_faults t ss refs ps
    arguments_alike ss refs no_more = refl
    arguments_alike ss refs (and_more p ps) =
        ap (λ (fs : List Fault). fs
        ++ (clash_faults (unfolded_byte p) (sort_of_pattern s p) (first_wanted s ss refs)
        ++ argument_faults s ss (drop 1 refs) ps)) (faults_alike p)
        ∙ ap (λ (o : Option ℕ). pattern_faults t p
        ++ (clash_faults (unfolded_byte p) o (first_wanted s ss refs)
        ++ argument_faults s ss (drop 1 refs) ps)) (sort_alike p)
        ∙ ap (λ (fs : List Fault). pattern_faults t p
        ++ (clash_faults (unfolded_byte p) (sort_of_pattern t p) (first_wanted s ss refs) ++ fs))
        (arguments_alike ss (drop 1 refs) ps)

  -- ---- rules

  pub at_sort_alike : (wanted : Option ℕ) (p : Unfolded)
      → faults_at_sort s wanted p ≡ faults_at_sort t wanted p
  at_sort_alike wanted p =
      ap (λ (fs : List Fault).
      (height_faults p ++ fs) ++ clash_faults (unfolded_byte p) (sort_of_pattern s p) wanted)
      (faults_alike p)
      ∙ ap (λ (o : Option ℕ). all_faults t p ++ clash_faults (unfolded_byte p) o wanted)
      (sort_alike p)

  side_alike : (wanted : Option ℕ) (p : Option PatternTree)
      → side_faults s wanted p ≡ side_faults t wanted p
  side_alike wanted None = refl
  side_alike wanted (Some p) = at_sort_alike wanted (unfolded p)

  pub condition_alike : (c : Condition) → condition_faults s c ≡ condition_faults t c
  condition_alike always = refl
  condition_alike (tests x b) = at_sort_alike (sort_number s.sorts x) (unfolded b)
  condition_alike ill = refl

  sorted_alike : (x : SortTree) (w : RuleParts) → sorted_faults s x w ≡ sorted_faults t x w
  sorted_alike x w =
      let front : List Fault = sort_faults s x in
      let wanted : Option ℕ = sort_number s.sorts x in
      let top : List Fault = found_top_faults s wanted (found_part w.after) in
      ap (λ (fs : List Fault). front
      ++ (fs
      ++ (condition_faults s w.condition
      ++ (side_faults s wanted (right_of w) ++ top))))
      (side_alike wanted (left_of w))
      ∙ ap (λ (fs : List Fault). front
      ++ (side_faults t wanted (left_of w)
      ++ (fs ++ (side_faults s wanted (right_of w) ++ top))))
      (condition_alike w.condition)
      ∙ ap (λ (fs : List Fault). front
      ++ (side_faults t wanted (left_of w)
      ++ (condition_faults t w.condition ++ (fs ++ top))))
      (side_alike wanted (right_of w))

  pub plain_functions_alike : is_plain_function s ≡ is_plain_function t
  plain_functions_alike =
      λ i name.
      plain_function_alike (symbol_named s name) (symbol_named t name) (symbol_alike name) i

  pub ac_symbols_alike : is_ac_symbol s ≡ is_ac_symbol t
  ac_symbols_alike =
      λ i name. ac_alike (symbol_named s name) (symbol_named t name) (symbol_alike name) i

  uses_alike : (first : Option SortTree) (at : ℕ) (x : SortTree) (w : RuleParts)
      → use_faults s first at x w ≡ use_faults t first at x w
  uses_alike first at x w =
      ap (λ (test : List ℕ → Bool). faults_by test (is_ac_symbol s) first at x w)
      plain_functions_alike
      ∙ ap (λ (test : List ℕ → Bool). faults_by (is_plain_function t) test first at x w)
      ac_symbols_alike

  rule_alike : (first : Option SortTree) (a : AxiomDeclaration) (w : Rewriting) (r : Option Fault)
      → FirstOfRule s first a w r → FirstOfRule t first a w r
  rule_alike first a w r h =
      let parts : RuleParts = rule_parts s w in
      subst (λ (fs : List Fault). FirstBy (form_faults a parts) (sorted_faults t w.sort parts) fs r)
      (uses_alike first a.at w.sort parts)
      (subst (λ (fs : List Fault).
      FirstBy (form_faults a parts) fs (use_faults s first a.at w.sort parts) r)
      (sorted_alike w.sort parts) h)

  -- ---- axioms

  statement_alike : (attributes : List PatternTree) (e : Option StatedEquation)
      → class_of_statement s attributes e ≡ class_of_statement t attributes e
  statement_alike attributes None = refl
  statement_alike attributes (Some e) =
      ap (λ (yes : Bool). if not (is_no_equation attributes) && yes then equates e else passed_over)
      (takes_alike (symbol_named s e.function) (symbol_named t e.function)
      (symbol_alike e.function))

  pattern_alike : (a : AxiomDeclaration) (w : Option Rewriting)
      → class_of_pattern s a w ≡ class_of_pattern t a w
  pattern_alike a None = statement_alike a.attributes (stated_equation a.pattern)
  pattern_alike a (Some w) = refl

  pub class_alike : (a : AxiomDeclaration) → axiom_class s a ≡ axiom_class t a
  class_alike a =
      ap (λ (k : AxiomClass). class_or a.attributes k) (pattern_alike a (rewriting a.pattern))

  first_alike : (first : Option SortTree) (a : AxiomDeclaration) (k : AxiomClass) (r : Option Fault)
      → FirstOfClass s first a k r → FirstOfClass t first a k r
  first_alike first a (refused n) r h = h
  first_alike first a orders_sorts r h = h
  first_alike first a (rewrites w) r h = rule_alike first a w r h
  first_alike first a (equates e) r h = h
  first_alike first a passed_over r h = h

  axiom_alike : (first : Option SortTree) (a : AxiomDeclaration) (r : Option Fault)
      → FirstOfClass s first a (axiom_class s a) r → FirstOfClass t first a (axiom_class t a) r
  axiom_alike first a r h =
      subst (λ (k : AxiomClass). FirstOfClass t first a k r) (class_alike a)
      (first_alike first a (axiom_class s a) r h)

  in_order : (axioms : List AxiomDeclaration) (r : Option Fault) → FirstOfAxioms s axioms r
      → FirstOfAxioms t axioms r
  in_order axioms r h =
      in_order_alike (λ (first : Option SortTree) (a : AxiomDeclaration).
      FirstOfClass s first a (axiom_class s a)) (λ (first : Option SortTree)
      (a : AxiomDeclaration).
      FirstOfClass t first a (axiom_class t a))
      (λ (first : Option SortTree) (a : AxiomDeclaration). first_sort first (axiom_class s a))
      (λ (first : Option SortTree) (a : AxiomDeclaration). first_sort first (axiom_class t a))
      axiom_alike (λ first a. ap (first_sort first) (class_alike a)) None axioms r h

pub axioms_alike : (s t : Signature) → AreSameSignature s t
    → (axioms : List AxiomDeclaration) (r : Option Fault) → FirstOfAxioms s axioms r
    → FirstOfAxioms t axioms r
axioms_alike s t same axioms r h =
    let moved : with_symbols s t.symbols ≡ t =
    λ i. record { sorts = same.sorts i; symbols = t.symbols; subsorts = same.subsorts i } in
    subst (λ (sig : Signature). FirstOfAxioms sig axioms r) moved
    (in_order s t.symbols same.symbols axioms r h)

-- ---- entries

pub same_back : (e f : List ℕ × SymInfo) → IsSameSymbol e f → IsSameSymbol f e
same_back e f h = record {
  name = sym h.name;
  kind = sym h.kind;
  params = sym h.params;
  args = sym h.args;
  result = sym h.result;
  hook = sym h.hook;
  ac = sym h.ac;
}

pub all_back : (xs ys : Symbols) → AllZip IsSameSymbol xs ys → AllZip IsSameSymbol ys xs
all_back [] [] same = tt
all_back [] (y ∷ ys) same = absurd same
all_back (x ∷ xs) [] same = absurd same
all_back (x ∷ xs) (y ∷ ys) same = (same_back x y same.0, all_back xs ys same.1)

pub signatures_back : (u v : Signature) → AreSameSignature u v → AreSameSignature v u
signatures_back u v same = record {
  sorts = sym same.sorts;
  symbols = all_back u.symbols v.symbols same.symbols;
  subsorts = sym same.subsorts;
}

-- the entry at the same place is the same symbol
pub entry_alike : (xs ys : Symbols) (n : ℕ) (e : List ℕ × SymInfo) → AllZip IsSameSymbol xs ys
    → slice_get xs n ≡ Some e
    → (f : List ℕ × SymInfo) × (slice_get ys n ≡ Some f) × IsSameSymbol e f
entry_alike [] ys n e same there = absurd (let never : ⊥ = cc in never)
entry_alike (x ∷ xs) [] n e same there = absurd same
entry_alike (x ∷ xs) (y ∷ ys) zero e same there =
    let is : x ≡ e = cc in
    (y, refl, subst (λ (d : List ℕ × SymInfo). IsSameSymbol d y) is same.0)
entry_alike (x ∷ xs) (y ∷ ys) (suc n) e same there = entry_alike xs ys n e same.1 there

pub alike_back : (a b : SymInfo) → IsAlike a b → IsAlike b a
alike_back a b h = record {
  kind = sym h.kind;
  params = sym h.params;
  args = sym h.args;
  result = sym h.result;
  hook = sym h.hook;
  ac = sym h.ac;
}
