-- The fault that is judged from what scopes hold is the one of the definitions. The numbers that a
-- statement is read as are those of its symbols.
use Rattle.std.proofs.Common.{◌≡◌, ℕ, Bool, true, false, List, [], ◌∷◌, ◌++◌, map, reverse, refl}
use Rattle.std.proofs.Common.{ap, sym, ◌∙◌, is_some}
use Rattle.std.specs.Prelude.{not, ◌&&◌, ◌||◌, slice_get, Option, Some, None, Result, Ok, Err}
use Rattle.std.specs.Prelude.{if◌then◌else◌}
use Rattle.std.specs.List.{list_all}
use Rattle.std.proofs.lemmas.List.{reverse-append}
use Rattle.mm_text.specs.Bytes.{Token, has_repeated}
use Rattle.mm_text.specs.Reader.{words_of}
use Rattle.mm_database.specs.Forms.{is_nil, plain}
use Rattle.mm_database.specs.Database.{Block, Context}
use Rattle.mm_frame.specs.Numbered.{NumberedHypothesis}
use Rattle.mm_database.specs.Validity.{is_active, is_typed, is_open, begins_with_constant, has_two}
use Rattle.mm_database.specs.Validity.{has_one_label, is_typing, second_has_type, declaration_fault}
use Rattle.mm_scope.specs.FormsRead.{keyword_read, form_read}
use Rattle.mm_scope.specs.ScopeState.{ScopeState, symbol}
use Rattle.mm_scope.specs.StateTests.{is_active_number, is_typed_in, constant_if, variable_if}
use Rattle.mm_scope.specs.StateTests.{name_number, number_in, is_in, is_active_in, with_number}
use Rattle.mm_scope.specs.StateTests.{numbers_in, constant_in, constant_named, label_in}
use Rattle.mm_scope.specs.StateTests.{redeclares_variable, redeclares_constant}
use Rattle.mm_scope.specs.StateFaults.{statement_under, floating_under, floating_of_numbers}
use Rattle.mm_scope.specs.StateFaults.{floating_of_symbols, floating_in, begins_constant}
use Rattle.mm_scope.specs.StateFaults.{stated_numbers, stated_in, separated_numbers, disjoint_in}
use Rattle.mm_scope.specs.StateFaults.{is_open_in, constants_fault, variables_fault}
use Rattle.mm_scope.specs.Judging.{Saying, or_saying, saying_floating, saying_essential}
use Rattle.mm_scope.specs.Judging.{saying_disjoint, saying_states, judged_plain, judged_end}
use Rattle.mm_scope.specs.Judging.{judged_form, error_of}
use Rattle.mm_scope.specs.Standing.{SymbolStands, NamesSymbols, BlocksStand, Stands}
use Rattle.mm_scope.specs.declared.forms.Keyword.{Keyword}
use Rattle.mm_scope.specs.declared.forms.Keyword.TheVariants.{Constants, Variables, Floating}
use Rattle.mm_scope.specs.declared.forms.Keyword.TheVariants.{Essential, Disjoint, Axiom, Theorem}
use Rattle.mm_scope.specs.declared.forms.Form.{Form}
use Rattle.mm_scope.specs.declared.forms.Form.TheVariants.{BlockStart, BlockEnd, Plain}
use Rattle.mm_frame.specs.declared.names.Name.{Name}
use Rattle.mm_frame.specs.declared.names.Name.TheVariants.{Constant, Variable, Hypothesis}
use Rattle.mm_frame.specs.declared.names.Name.TheVariants.{Assertion}
use Rattle.mm_scope.specs.declared.scopes.Need.{Need}
use Rattle.mm_scope.specs.declared.scopes.Need.TheVariants as need
use Rattle.mm_scope.specs.declared.scopes.OpenBlock.{OpenBlock}
use Rattle.mm_scope.proofs.Namings.{naming_of}
use Rattle.mm_scope.proofs.StandTests.{by-naming, variable-typed, test-variable, test-active}
use Rattle.mm_scope.proofs.StandTests.{test-typed, test-constant, test-named, test-taken}
use Rattle.mm_scope.proofs.StandTests.{test-labels, list_all-same, list_any-same, all-numbers}
use Rattle.mm_scope.specs.StateFrames.{Statement}

abbrev a_fault : ℕ → Option ℕ
a_fault kind = Some kind

-- numbers and their tokens

some-if : (b : Bool) (m n : ℕ) → (if b then Some m else None) ≡ Some n → m ≡ n
some-if true m n e = cc
some-if false m n e = absurd (cc)

constant-number : (need : Need) (m n : ℕ) → constant_if need m ≡ Some n → m ≡ n
constant-number need.Active m n e = cc
constant-number need.Variable m n e = absurd (cc)
constant-number need.Typed m n e = cc

variable-number : (h : ScopeState) (need : Need) (m n : ℕ) → variable_if h need m ≡ Some n → m ≡ n
variable-number h need.Active m n e = some-if (is_active_number h m) m n e
variable-number h need.Variable m n e = some-if (is_active_number h m) m n e
variable-number h need.Typed m n e = some-if (is_active_number h m && is_typed_in h m) m n e

pub number-token : (h : ScopeState) (c : Context) → Stands h c → (need : Need) (t : Token) (n : ℕ)
    → number_in h need t ≡ Some n → (b : Bool) × (slice_get h.symbols n ≡ Some (symbol t b))
number-token h c w need t n is = go (h.names t) is (w.numbered t)
  where
    go : (o : Option Name) → name_number h need o ≡ Some n → SymbolStands h.symbols t o
        → (b : Bool) × (slice_get h.symbols n ≡ Some (symbol t b))
    go None e stands = absurd (cc)
    go (Some (Constant m)) e stands =
        (false, ap (slice_get h.symbols) (sym (constant-number need m n e)) ∙ stands)
    go (Some (Variable m)) e stands =
        (true, ap (slice_get h.symbols) (sym (variable-number h need m n e)) ∙ stands)
    go (Some (Hypothesis i)) e stands = absurd (cc)
    go (Some (Assertion i)) e stands = absurd (cc)

pub variable-token : (h : ScopeState) (c : Context) → Stands h c → (t : Token) (n : ℕ)
    → number_in h need.Variable t ≡ Some n → slice_get h.symbols n ≡ Some (symbol t true)
variable-token h c w t n is = go (h.names t) is (w.numbered t)
  where
    go : (o : Option Name) → name_number h need.Variable o ≡ Some n → SymbolStands h.symbols t o
        → slice_get h.symbols n ≡ Some (symbol t true)
    go None e stands = absurd (cc)
    go (Some (Constant m)) e stands = absurd (cc)
    go (Some (Variable m)) e stands =
        ap (slice_get h.symbols) (sym (variable-number h need.Variable m n e)) ∙ stands
    go (Some (Hypothesis i)) e stands = absurd (cc)
    go (Some (Assertion i)) e stands = absurd (cc)

pub constant-token : (h : ScopeState) (c : Context) → Stands h c → (t : Token) (n : ℕ)
    → constant_in h t ≡ Some n → slice_get h.symbols n ≡ Some (symbol t false)
constant-token h c w t n is = go (h.names t) is (w.numbered t)
  where
    go : (o : Option Name) → constant_named o ≡ Some n → SymbolStands h.symbols t o
        → slice_get h.symbols n ≡ Some (symbol t false)
    go None e stands = absurd (cc)
    go (Some (Constant m)) e stands =
        let same : m ≡ n = cc in ap (slice_get h.symbols) (sym same) ∙ stands
    go (Some (Variable m)) e stands = absurd (cc)
    go (Some (Hypothesis i)) e stands = absurd (cc)
    go (Some (Assertion i)) e stands = absurd (cc)

pub numbers-named : (h : ScopeState) (c : Context) → Stands h c → (name : ℕ → Token)
    → NamesSymbols name h.symbols → (need : Need) (ts : List Token) (ns : List ℕ)
    → numbers_in h need ts ≡ Some ns → map name ns ≡ ts
numbers-named h c w name names need [] ns is = let same : [] ≡ ns = cc in ap (map name) (sym same)
numbers-named h c w name names need (t ∷ ts) ns is =
    go (number_in h need t) (numbers_in h need ts) refl refl is
    (λ (rest : List ℕ). numbers-named h c w name names need ts rest)
  where
    go : (o : Option ℕ) (os : Option (List ℕ)) → number_in h need t ≡ o → numbers_in h need ts ≡ os
        → with_number o os ≡ Some ns
        → ((rest : List ℕ) → numbers_in h need ts ≡ Some rest → map name rest ≡ ts)
        → map name ns ≡ t ∷ ts
    go None os e f g more = absurd (cc)
    go (Some n) None e f g more = absurd (cc)
    go (Some n) (Some rest) e f g more =
        let known : (b : Bool) × (slice_get h.symbols n ≡ Some (symbol t b)) =
        number-token h c w need t n e in
        let first : name n ≡ t = names n (symbol t known.0) known.1 in
        let same : n ∷ rest ≡ ns = cc in
        ap (map name) (sym same) ∙ ap (λ (u : Token). u ∷ map name rest) first
        ∙ ap (λ (us : List Token). t ∷ us) (more rest f)

-- blocks

open-blocks : (name : ℕ → Token) (declared : Token → Bool) (vs : List ℕ)
    (hs : List NumberedHypothesis) (ds : List (List ℕ)) (os : List OpenBlock)
    (blocks : List Block) → BlocksStand name declared vs hs ds os blocks
    → is_open blocks ≡ is_open_in os
open-blocks name declared vs hs ds [] [] s = refl
open-blocks name declared vs hs ds [] (b ∷ bs) s = absurd s
open-blocks name declared vs hs ds (o ∷ os) [] s = absurd s
open-blocks name declared vs hs ds (o ∷ os) (b ∷ bs) s = refl

open-append : (os : List OpenBlock) (o : OpenBlock) → is_open_in (os ++ o ∷ []) ≡ true
open-append [] o = refl
open-append (p ∷ os) o = refl

open-reverse : (os : List OpenBlock) → is_open_in (reverse os) ≡ is_open_in os
open-reverse [] = refl
open-reverse (o ∷ os) = ap is_open_in (reverse-append (o ∷ []) os) ∙ open-append (reverse os) o

pub test-open : (h : ScopeState) (c : Context) → Stands h c → is_open c.blocks ≡ is_open_in h.blocks
test-open h c w =
    open-blocks (naming_of h.symbols) c.variables h.variables h.hypotheses h.disjoint
    (reverse h.blocks) c.blocks ((by-naming h c w).blocks) ∙ open-reverse h.blocks

-- the faults

error-or_saying : (o : Option ℕ) (s : Saying) → error_of (or_saying o s) ≡ o
error-or_saying None s = refl
error-or_saying (Some k) s = refl

constants-same : (a x b y r nil : Bool) → a ≡ x → b ≡ y
    → (if a then a_fault 4 else if (b || r) then a_fault 5 else if not nil then a_fault 11
    else None)
    ≡ (if x then a_fault 4 else if (y || r) then a_fault 5 else if nil then None
    else a_fault 11)
constants-same a true b y r nil e f = rw e refl
constants-same a false b y r nil e f = rw (e, f) (rest (y || r) nil)
  where
    rest : (v u : Bool)
        → (if v then a_fault 5 else if not u then a_fault 11 else None)
        ≡ (if v then a_fault 5 else if u then None else a_fault 11)
    rest true u = refl
    rest false true = refl
    rest false false = refl

variables-same : (b y r nil : Bool) → b ≡ y
    → (if (b || r) then a_fault 5 else if not nil then a_fault 11 else None)
    ≡ (if (y || r) then a_fault 5 else if nil then None else a_fault 11)
variables-same b y r nil f = rw f (rest (y || r) nil)
  where
    rest : (v u : Bool)
        → (if v then a_fault 5 else if not u then a_fault 11 else None)
        ≡ (if v then a_fault 5 else if u then None else a_fault 11)
    rest true u = refl
    rest false true = refl
    rest false false = refl

-- the faults of a `$f` after kind 6
floating-rest : Context → List Token → List Token → Option ℕ
floating-rest c ls ws =
    if not (is_typing c ws) then a_fault 7 else if second_has_type c ws then a_fault 8
    else if not (has_one_label c ls) then a_fault 11 else None

error-floating_under : (k v : ℕ) (o : Option Token)
    → (if not (is_some o) then a_fault 11 else None)
    ≡ error_of (saying_floating (floating_under k v o))
error-floating_under k v None = refl
error-floating_under k v (Some l) = refl

floating-numbers : (h : ScopeState) (c : Context) → Stands h c
    → (ls : List Token) (t v : Token) (o p : Option ℕ) → constant_in h t ≡ o
    → number_in h need.Variable v ≡ p
    → floating-rest c ls (t ∷ (v ∷ [])) ≡ error_of (saying_floating (floating_of_numbers h ls o p))
unfolding floating-rest
floating-numbers h c w ls t v None p e f = rw (test-constant h c w t ∙ ap is_some e) refl
floating-numbers h c w ls t v (Some k) None e f =
    rw (test-constant h c w t ∙ ap is_some e, test-variable h c w v ∙ ap is_some f) refl
floating-numbers h c w ls t v (Some k) (Some n) e f =
    rw (
      test-constant h c w t ∙ ap is_some e,
      test-variable h c w v
          ∙ ap is_some f,
      variable-typed h c w v n (variable-token h c w v n f),
    )
    (go (is_typed_in h n))
  where
    go : (b : Bool)
        → (if b then a_fault 8 else if not (has_one_label c ls) then a_fault 11 else None)
        ≡ error_of (saying_floating (if b then Err 8 else floating_under k n (label_in h ls)))
    go true = refl
    go false = rw (test-labels h c w ls) (error-floating_under k n (label_in h ls))

floating-symbols : (h : ScopeState) (c : Context) → Stands h c → (ls ws : List Token)
    → floating-rest c ls ws ≡ error_of (saying_floating (floating_of_symbols h ls ws))
unfolding floating-rest
floating-symbols h c w ls [] = refl
floating-symbols h c w ls (t ∷ []) = refl
floating-symbols h c w ls (t ∷ (v ∷ [])) =
    floating-numbers h c w ls t v (constant_in h t) (number_in h need.Variable v) refl refl
floating-symbols h c w ls (t ∷ (v ∷ (u ∷ ws))) = refl

floating-fault : (h : ScopeState) (c : Context) → Stands h c → (ls ws : List Token)
    → (if not (list_all (is_active c) ws) then a_fault 6 else floating-rest c ls ws)
    ≡ error_of (saying_floating (floating_in h ls ws))
floating-fault h c w ls ws =
    rw (list_all-same (is_active c) (is_active_in h) (test-active h c w) ws)
    (go (list_all (is_active_in h) ws))
  where
    go : (b : Bool)
        → (if not b then a_fault 6 else floating-rest c ls ws)
        ≡ error_of (saying_floating (if b then floating_of_symbols h ls ws else Err 6))
    go true = floating-symbols h c w ls ws
    go false = refl

stated-tested : Option (List ℕ) → Bool → Option Token → Result Statement ℕ
stated-tested None b l = Err 6
stated-tested (Some ns) b l = if b then statement_under ns l else Err 7

stated-numbers : (h : ScopeState) (ls ws : List Token) (o : Option (List ℕ))
    → stated-tested o (begins_constant h ws) (label_in h ls) ≡ stated_numbers h ls ws o
unfolding stated-tested
stated-numbers h ls ws None = refl
stated-numbers h ls ws (Some ns) = refl

separated-tested : Option (List ℕ) → Bool → Bool → Result (List ℕ) ℕ
separated-tested None b nil = Err 6
separated-tested (Some ns) b nil = if b then Err 9 else if nil then Ok ns else Err 11

separated-numbers : (ls ws : List Token) (o : Option (List ℕ))
    → separated-tested o (not (has_two ws) || has_repeated ws) (is_nil ls)
    ≡ separated_numbers ls ws o
unfolding separated-tested
separated-numbers ls ws None = refl
separated-numbers ls ws (Some ns) = refl

-- the faults of an `$e`, `$a` or `$p`
error_of_statement : Result Statement ℕ → Option ℕ
error_of_statement (Ok s) = None
error_of_statement (Err k) = Some k

begins-same : (h : ScopeState) (c : Context) → Stands h c → (ws : List Token)
    → begins_with_constant c ws ≡ begins_constant h ws
begins-same h c w [] = refl
begins-same h c w (t ∷ ws) = test-constant h c w t

stated-fault : (h : ScopeState) (c : Context) → Stands h c → (ls ws : List Token)
    → (if not (list_all (is_typed c) ws) then a_fault 6 else if not (begins_with_constant c ws)
    then a_fault 7 else if not (has_one_label c ls) then a_fault 11 else None)
    ≡ error_of_statement (stated_in h ls ws)
unfolding error_of_statement stated-tested
stated-fault h c w ls ws =
    rw (
      list_all-same (is_typed c) (is_in h need.Typed) (test-typed h c w) ws
          ∙ all-numbers h need.Typed ws,
      begins-same h c w ws,
      test-labels h c w ls,
    )
    (go (numbers_in h need.Typed ws) (begins_constant h ws) (label_in h ls)
    ∙ ap error_of_statement (stated-numbers h ls ws (numbers_in h need.Typed ws)))
  where
    go : (o : Option (List ℕ)) (b : Bool) (l : Option Token)
        → (if not (is_some o) then a_fault 6 else if not b then a_fault 7 else if not (is_some l)
        then a_fault 11 else None) ≡ error_of_statement (stated-tested o b l)
    go None b l = refl
    go (Some ns) false l = refl
    go (Some ns) true None = refl
    go (Some ns) true (Some l) = refl

error-essential : (r : Result Statement ℕ) → error_of_statement r ≡ error_of (saying_essential r)
unfolding error_of_statement
error-essential (Ok s) = refl
error-essential (Err k) = refl

error-states : (r : Result Statement ℕ) → error_of_statement r ≡ error_of (saying_states r)
unfolding error_of_statement
error-states (Ok s) = refl
error-states (Err k) = refl

disjoint-fault : (h : ScopeState) (c : Context) → Stands h c → (ls ws : List Token)
    → (if not (list_all c.scope.variables ws) then a_fault 6
    else if (not (has_two ws) || has_repeated ws) then a_fault 9 else if not (is_nil ls)
    then a_fault 11 else None) ≡ error_of (saying_disjoint (disjoint_in h ls ws))
unfolding separated-tested
disjoint-fault h c w ls ws =
    rw (list_all-same c.scope.variables (is_in h need.Variable) (test-variable h c w) ws
    ∙ all-numbers h need.Variable ws) (go (numbers_in h need.Variable ws)
    (not (has_two ws) || has_repeated ws) (is_nil ls)
    ∙ ap (λ (r : Result (List ℕ) ℕ). error_of (saying_disjoint r))
    (separated-numbers ls ws (numbers_in h need.Variable ws)))
  where
    go : (o : Option (List ℕ)) (b nil : Bool)
        → (if not (is_some o) then a_fault 6 else if b then a_fault 9 else if not nil
        then a_fault 11 else None) ≡ error_of (saying_disjoint (separated-tested o b nil))
    go None b nil = refl
    go (Some ns) true nil = refl
    go (Some ns) false true = refl
    go (Some ns) false false = refl

pub plain-fault : (h : ScopeState) (c : Context) → Stands h c
    → (k : Keyword) (ls ws ps : List Token)
    → declaration_fault c (Some (plain ls (keyword_read k) ws ps))
    ≡ error_of (judged_plain h k ls ws)
unfolding floating-rest
plain-fault h c w Constants ls ws ps =
    constants-same _ _ _ _ (has_repeated ws) (is_nil ls) (test-open h c w)
    (list_any-same _ (redeclares_constant h) (test-named h c w) ws)
    ∙ sym (error-or_saying (constants_fault h ls ws) _)
plain-fault h c w Variables ls ws ps =
    variables-same _ _ (has_repeated ws) (is_nil ls)
    (list_any-same _ (redeclares_variable h) (test-taken h c w) ws)
    ∙ sym (error-or_saying (variables_fault h ls ws) _)
plain-fault h c w Floating ls ws ps = floating-fault h c w ls ws
plain-fault h c w Essential ls ws ps =
    stated-fault h c w ls ws ∙ error-essential (stated_in h ls ws)
plain-fault h c w Disjoint ls ws ps = disjoint-fault h c w ls ws
plain-fault h c w Axiom ls ws ps = stated-fault h c w ls ws ∙ error-states (stated_in h ls ws)
plain-fault h c w Theorem ls ws ps = stated-fault h c w ls ws ∙ error-states (stated_in h ls ws)

error-end : (os : List OpenBlock)
    → (if is_open_in os then None else a_fault 10) ≡ error_of (judged_end os)
error-end [] = refl
error-end (o ∷ os) = refl

pub form-fault : (h : ScopeState) (c : Context) → Stands h c → (bytes : List ℕ) (f : Form)
    → declaration_fault c (Some (form_read bytes f)) ≡ error_of (judged_form h bytes f)
form-fault h c w bytes BlockStart = refl
form-fault h c w bytes BlockEnd =
    ap (λ b. if b then None else a_fault 10) (test-open h c w) ∙ error-end h.blocks
form-fault h c w bytes (Plain p) =
    plain-fault h c w p.keyword (words_of bytes p.labels.now) (words_of bytes p.symbols.now)
    (words_of bytes p.proof.now)
