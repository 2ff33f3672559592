-- After a faultless statement is added, the scopes stand for the context after it.
use Rattle.std.proofs.Math.Path.{fun_ext}
use Rattle.std.proofs.Common.{◌≡◌, ℕ, ◌<◌, Bool, true, false, List, [], ◌∷◌, ◌++◌, length, refl, ap}
use Rattle.std.proofs.Common.{sym, ◌∙◌, arith, is_some, is_none, subst}
use Rattle.std.specs.Prelude.{not, ◌&&◌, ◌||◌, slice_get, Option, Some, None, Result, Ok, Err}
use Rattle.std.specs.Prelude.{bytes_eq, if◌then◌else◌}
use Rattle.std.specs.List.{list_any, list_all}
use Rattle.std.proofs.lemmas.Option.{slice_get_within}
use Rattle.std.proofs.lemmas.Slice.Eq.{bytes_eq-Decides}
use Rattle.mm_text.specs.Bytes.{Token, has_token, has_repeated}
use Rattle.mm_text.specs.Labels.{is_label}
use Rattle.mm_text.specs.Reader.{words_of}
use Rattle.mm_database.specs.Forms as forms
use Rattle.mm_database.specs.Forms.{is_nil, plain}
use Rattle.mm_database.specs.Frames.{floating, essential}
use Rattle.mm_database.specs.Database.{Block, Context, with_tokens, first_label, floating_of}
use Rattle.mm_database.specs.Database.{with_hypothesis, with_assertion, with_declared}
use Rattle.mm_database.specs.Database.{with_block_closed, after_form}
use Rattle.mm_frame.specs.Numbered.{NumberedHypothesis, NumberedFrame}
use Rattle.mm_scope.specs.FormsRead.{keyword_read, form_read}
use Rattle.mm_database.specs.Validity.{has_two, is_open}
use Rattle.mm_frame.specs.PlainFrames.{has_number}
use Rattle.mm_scope.specs.ScopeState.{ScopeState, symbol}
use Rattle.mm_scope.specs.StateFaults.{statement_under, floating_under, floating_of_numbers}
use Rattle.mm_scope.specs.StateFaults.{floating_of_symbols, floating_in, begins_constant}
use Rattle.mm_scope.specs.StateFaults.{stated_numbers, stated_in, unlabelled, separated_numbers}
use Rattle.mm_scope.specs.StateFaults.{disjoint_in, is_open_in}
use Rattle.mm_scope.specs.StateFrames.{IsFrameIn, Statement}
use Rattle.mm_scope.specs.StateSteps.{AddsSymbol, AddsConstants, VariableStep, AddsVariables}
use Rattle.mm_scope.specs.StateSteps.{AddsHypothesis, AddsAssertion, ClosesBlock}
use Rattle.mm_scope.specs.StateTests.{is_typed_in, number_in, is_active_in, numbers_in, constant_in}
use Rattle.mm_scope.specs.StateTests.{label_in, redeclares_constant, redeclares_variable}
use Rattle.mm_scope.specs.Judging.{Saying, opens, closes, names_constants, names_variables}
use Rattle.mm_scope.specs.Judging.{supposes, parts, states, or_saying, saying_floating}
use Rattle.mm_scope.specs.Judging.{saying_essential, saying_disjoint, saying_states, judged_plain}
use Rattle.mm_scope.specs.Judging.{judged_end, judged_form, Follows}
use Rattle.mm_scope.specs.Standing.{names_constant, names_variable, names_label, SymbolStands}
use Rattle.mm_scope.specs.Standing.{Stands}
use Rattle.mm_scope.specs.declared.forms.Keyword.{Keyword}
use Rattle.mm_scope.specs.declared.forms.Keyword.TheVariants.{Constants, Variables, Floating}
use Rattle.mm_scope.specs.declared.forms.Keyword.TheVariants.{Essential, Disjoint, Axiom, Theorem}
use Rattle.mm_scope.specs.declared.forms.Form.{Form}
use Rattle.mm_scope.specs.declared.forms.Form.TheVariants.{BlockStart, BlockEnd, Plain}
use Rattle.mm_frame.specs.declared.names.Name.{Name}
use Rattle.mm_frame.specs.declared.names.Name.TheVariants.{Constant, Variable}
use Rattle.mm_frame.specs.declared.names.Name.TheVariants.{Hypothesis as HypothesisName, Assertion}
use Rattle.mm_scope.specs.declared.scopes.Need.TheVariants as need
use Rattle.mm_scope.specs.declared.scopes.OpenBlock.{OpenBlock}
use Rattle.mm_scope.proofs.Namings.{slice_get-last}
use Rattle.mm_scope.proofs.StandAdds.{with_symbol, symbol-added}
use Rattle.mm_scope.proofs.StandScopes.{activated, hypothesis-added, disjoint-added, block-opened}
use Rattle.mm_scope.proofs.StandScopes.{block-closed}
use Rattle.mm_scope.proofs.StandFrames.{assertion-added}
use Rattle.mm_scope.proofs.StandFaults.{variable-token, constant-token, numbers-named, test-open}
use Rattle.mm_scope.proofs.StandTests.{scope_state-active, scope_state-typed, variable-active}
use Rattle.mm_scope.proofs.StandTests.{test-named, test-taken, list_any-same}
use Rattle.mm_scope.specs.StatePlaces.{ArePlaced}

-- lists of tokens that are new

pub any-less : {X : Type 0} (f g r : X → Bool) (xs : List X)
    → ((x : X) → f x ≡ false → r x ≡ false → g x ≡ false) → list_any f xs ≡ false
    → list_any r xs ≡ false → list_any g xs ≡ false
any-less f g r [] less a b = refl
any-less f g r (x ∷ xs) less a b = go (f x) (r x) refl refl a b (any-less f g r xs less)
  where
    go : (u v : Bool) → f x ≡ u → r x ≡ v → (u || list_any f xs) ≡ false
        → (v || list_any r xs) ≡ false
        → (list_any f xs ≡ false → list_any r xs ≡ false → list_any g xs ≡ false)
        → (g x || list_any g xs) ≡ false
    go true v e k a b rest = absurd (cc)
    go false true e k a b rest = absurd (cc)
    go false false e k a b rest = rw (less x e k, rest a b) refl

none-first : (a b : Bool) → (a || b) ≡ false → a ≡ false
none-first true b e = absurd (cc)
none-first false b e = refl

none-rest : (a b : Bool) → (a || b) ≡ false → b ≡ false
none-rest true b e = absurd (cc)
none-rest false b e = e

turned-false : (a b : Token) → bytes_eq a b ≡ false → bytes_eq b a ≡ false
turned-false a b e = go (bytes_eq b a) refl
  where
    go : (x : Bool) → bytes_eq b a ≡ x → x ≡ false
    go true f =
        let same : b ≡ a = (bytes_eq-Decides b a).0 f in
        let yes : bytes_eq a b ≡ true = (bytes_eq-Decides a b).1 (sym same) in
        absurd (let wrong : true ≡ false = sym yes ∙ e in let z : ⊥ = cc in z)
    go false f = refl

-- the same sets

abbrev pub with_sets : Context → (Token → Bool) → (Token → Bool) → (Token → Bool) → Context
with_sets c constants variables active =
    record c {
      constants = constants;
      variables = variables;
      scope = record c.scope { variables = active };
    }

pub same-sets : (h : ScopeState) (c : Context) (f g k f' g' k' : Token → Bool)
    → ((t : Token) → f t ≡ f' t) → ((t : Token) → g t ≡ g' t) → ((t : Token) → k t ≡ k' t)
    → Stands h (with_sets c f g k) → Stands h (with_sets c f' g' k')
same-sets h c f g k f' g' k' e p q w =
    subst (λ (x : Token → Bool). Stands h (with_sets c f' g' x)) (fun_ext q)
    (subst (λ (x : Token → Bool). Stands h (with_sets c f' x k)) (fun_ext p)
    (subst (λ (x : Token → Bool). Stands h (with_sets c x g k)) (fun_ext e) w))

or-nothing : (a : Bool) → (a || false) ≡ a
or-nothing true = refl
or-nothing false = refl

or-yes : (a b : Bool) → (a || (b && true)) ≡ (a || b)
or-yes true b = refl
or-yes false true = refl
or-yes false false = refl

or-no : (a b : Bool) → (a || (b && false)) ≡ a
or-no true b = refl
or-no false true = refl
or-no false false = refl

or-first : (a b e : Bool) → ((a || b) || e) ≡ (a || (b || e))
or-first true b e = refl
or-first false b e = refl

-- constants

abbrev pub taken-constant : Context → Token → Bool
taken-constant c t = c.constants t || (c.variables t || c.labels t)

constant-fresh : (h : ScopeState) (c : Context) → Stands h c → (t : Token)
    → taken-constant c t ≡ false → h.names t ≡ None
constant-fresh h c w t none = go (h.names t) (sym (test-named h c w t) ∙ none)
  where
    go : (o : Option Name) → is_some o ≡ false → o ≡ None
    go None e = refl
    go (Some n) e = absurd (cc)

pub constants-added : (ts : List Token) (old new : ScopeState) (c : Context) → Stands old c
    → list_any (taken-constant c) ts ≡ false → has_repeated ts ≡ false → AddsConstants old ts new
    → Stands new (record c { constants = with_tokens c.constants ts })
constants-added [] old new c w none once adds =
    subst (λ (h : ScopeState). Stands h (record c { constants = with_tokens c.constants [] }))
    (sym adds)
    (same-sets old c c.constants c.variables c.scope.variables (with_tokens c.constants [])
    c.variables c.scope.variables (λ t. sym (or-nothing (c.constants t))) (λ t. refl)
    (λ t. refl) w)
constants-added (t ∷ ts) old new c w none once (n, mid, first, rest) =
    let fresh : old.names t ≡ None =
    constant-fresh old c w t
    (none-first (taken-constant c t) (list_any (taken-constant c) ts) none) in
    let added : Stands mid (with_symbol c t false) =
    symbol-added old c t false n mid w fresh first in
    let next : Context = record c { constants = λ u. c.constants u || bytes_eq t u } in
    let stands : Stands mid next =
    same-sets mid c (λ u. c.constants u || (bytes_eq t u && true))
    (λ u. c.variables u || (bytes_eq t u && false)) c.scope.variables
    (λ u. c.constants u || bytes_eq t u) c.variables c.scope.variables
    (λ u. or-yes (c.constants u) (bytes_eq t u)) (λ u. or-no (c.variables u) (bytes_eq t u))
    (λ u. refl) added in
    let later : list_any (taken-constant next) ts ≡ false =
    any-less (taken-constant c) (taken-constant next) (λ u. bytes_eq u t) ts (λ u e k. still
    (c.constants u) (bytes_eq t u) (c.variables u || c.labels u) e (turned-false u t k))
    (none-rest (taken-constant c t) (list_any (taken-constant c) ts) none)
    (none-first (has_token ts t) (has_repeated ts) once) in
    same-sets new c (λ u. (c.constants u || bytes_eq t u) || has_token ts u) c.variables
    c.scope.variables (with_tokens c.constants (t ∷ ts)) c.variables c.scope.variables
    (λ u. or-first (c.constants u) (bytes_eq t u) (has_token ts u)) (λ u. refl) (λ u. refl)
    (constants-added ts mid new next stands later
    (none-rest (has_token ts t) (has_repeated ts) once) rest)
  where
    still : (a b e : Bool) → (a || e) ≡ false → b ≡ false → ((a || b) || e) ≡ false
    still true b e p q = absurd (cc)
    still false b e p q = rw q p

-- variables

abbrev pub taken-variable : Context → Token → Bool
taken-variable c t = c.constants t || (c.scope.variables t || c.labels t)

has-active : (h : ScopeState) (c : Context) → Stands h c → (t : Token) (n : ℕ)
    → slice_get h.symbols n ≡ Some (symbol t true) → has_number h.variables n ≡ c.scope.variables t
has-active h c w t n is = scope_state-active h c w n ∙ sym (variable-active h c w t n is)

middle-false : (a b e : Bool) → (a || (b || e)) ≡ false → b ≡ false
middle-false true b e p = absurd (cc)
middle-false false true e p = absurd (cc)
middle-false false false e p = refl

abbrev with_variable : Context → Token → Context
with_variable c t =
    with_sets c c.constants (λ u. c.variables u || bytes_eq t u)
    (λ u. c.scope.variables u || bytes_eq t u)

symbol-of : (old mid : ScopeState) (t : Token) (n : ℕ) → AddsSymbol old t true n mid
    → slice_get mid.symbols n ≡ Some (symbol t true)
symbol-of old mid t n adds = ap (λ (h : ScopeState). slice_get h.symbols n) adds.rest
    ∙ ap (slice_get (old.symbols ++ symbol t true ∷ [])) adds.number
    ∙ slice_get-last old.symbols (symbol t true)

variable-added : (old : ScopeState) (c : Context) (t : Token) (mid : ScopeState) (o : Option Name)
    → Stands old c → taken-variable c t ≡ false → old.names t ≡ o → VariableStep old t o mid
    → Stands mid (with_variable c t)
variable-added old c t mid None w none is (n, between, first, behind) =
    let added : Stands between (with_symbol c t true) =
    symbol-added old c t true n between w is first in
    let declared : Context =
    with_sets c c.constants (λ u. c.variables u || bytes_eq t u) c.scope.variables in
    let stands : Stands between declared =
    same-sets between c (λ u. c.constants u || (bytes_eq t u && false))
    (λ u. c.variables u || (bytes_eq t u && true)) c.scope.variables c.constants
    (λ u. c.variables u || bytes_eq t u) c.scope.variables
    (λ u. or-no (c.constants u) (bytes_eq t u)) (λ u. or-yes (c.variables u) (bytes_eq t u))
    (λ u. refl) added in
    let known : slice_get between.symbols n ≡ Some (symbol t true) =
    symbol-of old between t n first in
    let off : has_number between.variables n ≡ false =
    has-active between declared stands t n known
    ∙ middle-false (c.constants t) (c.scope.variables t) (c.labels t) none in
    let yes : bytes_eq t t ≡ true = (bytes_eq-Decides t t).1 refl in
    activated between declared t n mid stands known off (rw yes (or-true (c.variables t))) behind
  where
    or-true : (b : Bool) → (b || true) ≡ true
    or-true true = refl
    or-true false = refl
variable-added old c t mid (Some (Variable n)) w none is step =
    let known : slice_get old.symbols n ≡ Some (symbol t true) =
    subst (λ (o : Option Name). SymbolStands old.symbols t o) is (w.numbered t) in
    let off : has_number old.variables n ≡ false =
    has-active old c w t n known
    ∙ middle-false (c.constants t) (c.scope.variables t) (c.labels t) none in
    let yes : c.variables t ≡ true = w.variables t ∙ ap names_variable is in
    same-sets mid c c.constants c.variables (λ u. c.scope.variables u || bytes_eq t u) c.constants
    (λ u. c.variables u || bytes_eq t u) (λ u. c.scope.variables u || bytes_eq t u) (λ u. refl)
    (λ u. again u (bytes_eq t u) refl yes) (λ u. refl)
    (activated old c t n mid w known off yes step)
  where
    again : (u : Token) (b : Bool) → bytes_eq t u ≡ b → c.variables t ≡ true
        → c.variables u ≡ (c.variables u || b)
    again u true e sure =
        let same : t ≡ u = (bytes_eq-Decides t u).0 e in
        let here : c.variables u ≡ true = ap c.variables (sym same) ∙ sure in rw here refl
    again u false e sure = sym (or-nothing (c.variables u))
variable-added old c t mid (Some (Constant n)) w none is step =
    absurd (let bad : true ≡ false =
    sym (w.constants t ∙ ap names_constant is)
    ∙ none-first (c.constants t) (c.scope.variables t || c.labels t) none in
    let z : ⊥ = cc in z)
variable-added old c t mid (Some (HypothesisName i)) w none is step =
    absurd (let bad : true ≡ false =
    sym (w.labels t ∙ ap names_label is)
    ∙ none-rest (c.scope.variables t) (c.labels t)
    (none-rest (c.constants t) (c.scope.variables t || c.labels t) none) in
    let z : ⊥ = cc in z)
variable-added old c t mid (Some (Assertion i)) w none is step =
    absurd (let bad : true ≡ false =
    sym (w.labels t ∙ ap names_label is)
    ∙ none-rest (c.scope.variables t) (c.labels t)
    (none-rest (c.constants t) (c.scope.variables t || c.labels t) none) in
    let z : ⊥ = cc in z)

pub variables-added : (ts : List Token) (old new : ScopeState) (c : Context) → Stands old c
    → list_any (taken-variable c) ts ≡ false → has_repeated ts ≡ false → AddsVariables old ts new
    → Stands new
    (with_sets c c.constants (with_tokens c.variables ts) (with_tokens c.scope.variables ts))
variables-added [] old new c w none once adds =
    subst (λ (h : ScopeState). Stands h (with_sets c c.constants (with_tokens c.variables [])
    (with_tokens c.scope.variables []))) (sym adds)
    (same-sets old c c.constants c.variables c.scope.variables c.constants
    (with_tokens c.variables []) (with_tokens c.scope.variables []) (λ t. refl)
    (λ t. sym (or-nothing (c.variables t))) (λ t. sym (or-nothing (c.scope.variables t))) w)
variables-added (t ∷ ts) old new c w none once (mid, first, rest) =
    let next : Context = with_variable c t in
    let stands : Stands mid next =
    variable-added old c t mid (old.names t) w
    (none-first (taken-variable c t) (list_any (taken-variable c) ts) none) refl first in
    let later : list_any (taken-variable next) ts ≡ false =
    any-less (taken-variable c) (taken-variable next) (λ u. bytes_eq u t) ts (λ u e k. still
    (c.constants u) (c.scope.variables u) (bytes_eq t u) (c.labels u) e
    (turned-false u t k))
    (none-rest (taken-variable c t) (list_any (taken-variable c) ts) none)
    (none-first (has_token ts t) (has_repeated ts) once) in
    same-sets new c c.constants (λ u. (c.variables u || bytes_eq t u) || has_token ts u)
    (λ u. (c.scope.variables u || bytes_eq t u) || has_token ts u) c.constants
    (with_tokens c.variables (t ∷ ts)) (with_tokens c.scope.variables (t ∷ ts)) (λ u. refl)
    (λ u. or-first (c.variables u) (bytes_eq t u) (has_token ts u))
    (λ u. or-first (c.scope.variables u) (bytes_eq t u) (has_token ts u))
    (variables-added ts mid new next stands later
    (none-rest (has_token ts t) (has_repeated ts) once) rest)
  where
    still : (a b r e : Bool) → (a || (b || e)) ≡ false → r ≡ false → (a || ((b || r) || e)) ≡ false
    still true b r e p q = absurd (cc)
    still false true r e p q = absurd (cc)
    still false false r e p q = rw q p

-- what a statement says, added

two-lists : (c : Context) (ls ts : List Token) (a b : Bool) → (a || b) ≡ false
    → (a ≡ false) × (b ≡ false)
two-lists c ls ts true b e = absurd (cc)
two-lists c ls ts false b e = (refl, e)

no-fault-constants : (h : ScopeState) (ls ts : List Token) (a b : Bool) (o : Option ℕ) (s : Saying)
    (said : Saying) → or_saying (if a then Some 4 else if b then Some 5 else o) s ≡ Ok said
    → (b ≡ false) × (s ≡ said)
no-fault-constants h ls ts true b o s said e = absurd (cc)
no-fault-constants h ls ts false true o s said e = absurd (cc)
no-fault-constants h ls ts false false None s said e = (refl, cc)
no-fault-constants h ls ts false false (Some k) s said e = absurd (cc)

no-fault-variables : (b : Bool) (o : Option ℕ) (s : Saying) (said : Saying)
    → or_saying (if b then Some 5 else o) s ≡ Ok said → (b ≡ false) × (s ≡ said)
no-fault-variables true o s said e = absurd (cc)
no-fault-variables false None s said e = (refl, cc)
no-fault-variables false (Some k) s said e = absurd (cc)

-- the only label
pub label-is : (h : ScopeState) (ls : List Token) (l : Token) → label_in h ls ≡ Some l
    → (first_label ls ≡ l) × (h.names l ≡ None)
label-is h [] l e = absurd (cc)
label-is h (m ∷ []) l e = go (is_label m) (h.names m) refl e
  where
    go : (b : Bool) (o : Option Name) → h.names m ≡ o
        → (if b && is_none o then Some m else None) ≡ Some l → (m ≡ l) × (h.names l ≡ None)
    go true None is f = let same : m ≡ l = cc in (same, ap h.names (sym same) ∙ is)
    go true (Some n) is f = absurd (cc)
    go false o is f = absurd (cc)
label-is h (m ∷ (n ∷ ls)) l e = absurd (cc)

-- what is known of a hypothesis that was read from a `$f`
pub record FloatingRead (h : ScopeState) (ls ws : List Token) (x : NumberedHypothesis) :
    Type 0 where
  pub label : Token
  pub typecode : ℕ
  pub variable : ℕ
  pub kind : Token
  pub of : Token
  pub symbols : ws ≡ kind ∷ (of ∷ [])
  pub is : x ≡ floating label typecode variable
  pub constant : constant_in h kind ≡ Some typecode
  pub number : number_in h need.Variable of ≡ Some variable
  pub untyped : is_typed_in h variable ≡ false
  pub labelled : label_in h ls ≡ Some label

under-label : (h : ScopeState) (ls : List Token) (t v : Token) (k n : ℕ) (x : NumberedHypothesis)
    (o : Option Token) → constant_in h t ≡ Some k → number_in h need.Variable v ≡ Some n
    → is_typed_in h n ≡ false → label_in h ls ≡ o → floating_under k n o ≡ Ok x
    → FloatingRead h ls (t ∷ (v ∷ [])) x
under-label h ls t v k n x None a b e f g = absurd (cc)
under-label h ls t v k n x (Some l) a b e f g = record {
  label = l;
  typecode = k;
  variable = n;
  kind = t;
  of = v;
  symbols = refl;
  is = let same : floating l k n ≡ x = cc in sym same;
  constant = a;
  number = b;
  untyped = e;
  labelled = f;
}

read-numbers : (h : ScopeState) (ls : List Token) (t v : Token) (x : NumberedHypothesis)
    (o p : Option ℕ) → constant_in h t ≡ o → number_in h need.Variable v ≡ p
    → floating_of_numbers h ls o p ≡ Ok x → FloatingRead h ls (t ∷ (v ∷ [])) x
read-numbers h ls t v x None p a b g = absurd (cc)
read-numbers h ls t v x (Some k) None a b g = absurd (cc)
read-numbers h ls t v x (Some k) (Some n) a b g = go (is_typed_in h n) refl g
  where
    go : (e : Bool) → is_typed_in h n ≡ e
        → (if e then Err 8 else floating_under k n (label_in h ls)) ≡ Ok x
        → FloatingRead h ls (t ∷ (v ∷ [])) x
    go true e f = absurd (cc)
    go false e f = under-label h ls t v k n x (label_in h ls) a b e refl f

read-floating : (h : ScopeState) (ls ws : List Token) (x : NumberedHypothesis)
    → floating_of_symbols h ls ws ≡ Ok x → FloatingRead h ls ws x
read-floating h ls [] x g = absurd (cc)
read-floating h ls (t ∷ []) x g = absurd (cc)
read-floating h ls (t ∷ (v ∷ [])) x g =
    read-numbers h ls t v x (constant_in h t) (number_in h need.Variable v) refl refl g
read-floating h ls (t ∷ (v ∷ (u ∷ ws))) x g = absurd (cc)

floating-read : (h : ScopeState) (ls ws : List Token) (x : NumberedHypothesis)
    → floating_in h ls ws ≡ Ok x → FloatingRead h ls ws x
floating-read h ls ws x g = go (list_all (is_active_in h) ws) g
  where
    go : (b : Bool) → (if b then floating_of_symbols h ls ws else Err 6) ≡ Ok x
        → FloatingRead h ls ws x
    go true f = read-floating h ls ws x f
    go false f = absurd (cc)

floating-added : (old : ScopeState) (c : Context) (ls ws : List Token) (x : NumberedHypothesis)
    (new : ScopeState) → Stands old c → FloatingRead old ls ws x → AddsHypothesis old x new
    → Stands new (with_hypothesis c (first_label ls) (floating_of (first_label ls) ws))
floating-added old c ls ws x new w r adds =
    let label : (first_label ls ≡ r.label) × (old.names r.label ≡ None) =
    label-is old ls r.label r.labelled in
    let known : slice_get old.symbols r.variable ≡ Some (symbol r.of true) =
    variable-token old c w r.of r.variable r.number in
    let room : r.variable < length old.types =
    omega (
      arith,
      slice_get_within old.symbols r.variable (symbol r.of true) known,
      w.many_types,
    ) in
    let adds' : AddsHypothesis old (floating r.label r.typecode r.variable) new =
    subst (λ (y : NumberedHypothesis). AddsHypothesis old y new) r.is adds in
    let stands : Stands new (with_hypothesis c r.label (floating r.label r.kind r.of)) =
    hypothesis-added old c (floating r.label r.typecode r.variable)
    (floating r.label r.kind r.of) new w label.1
    (room, scope_state-typed old c w r.variable ∙ r.untyped)
    (λ name names. ap (λ (t : Token). floating r.label t r.of) (sym (names r.typecode (symbol r.kind
    false) (constant-token old c w r.kind r.typecode r.constant)))
    ∙ ap (λ (t : Token). floating r.label (name r.typecode) t)
    (sym (names r.variable (symbol r.of true) known))) adds' in
    subst (λ (us : List Token).
    Stands new (with_hypothesis c (first_label ls) (floating_of (first_label ls) us)))
    (sym r.symbols)
    (subst (λ (l : Token). Stands new (with_hypothesis c l (floating_of l (r.kind ∷ (r.of ∷ [])))))
    (sym label.0) stands)

-- what is known of a statement that was read
pub record StatedRead (h : ScopeState) (ls ws : List Token) (s : Statement) : Type 0 where
  pub numbers : numbers_in h need.Typed ws ≡ Some s.symbols
  pub labelled : label_in h ls ≡ Some s.label

stated-label : (h : ScopeState) (ls ws : List Token) (ns : List ℕ) (s : Statement)
    (o : Option Token) → numbers_in h need.Typed ws ≡ Some ns → label_in h ls ≡ o
    → statement_under ns o ≡ Ok s → StatedRead h ls ws s
stated-label h ls ws ns s None a b e = absurd (cc)
stated-label h ls ws ns s (Some l) a b e =
    let same : record { label = l; symbols = ns } ≡ s = cc in
    subst (λ (r : Statement). StatedRead h ls ws r) same (record { numbers = a; labelled = b })

pub stated-read : (h : ScopeState) (ls ws : List Token) (s : Statement) → stated_in h ls ws ≡ Ok s
    → StatedRead h ls ws s
stated-read h ls ws s g = go (numbers_in h need.Typed ws) refl g
  where
    begun : (b : Bool) (ns : List ℕ) → numbers_in h need.Typed ws ≡ Some ns
        → (if b then statement_under ns (label_in h ls) else Err 7) ≡ Ok s → StatedRead h ls ws s
    begun true ns a e = stated-label h ls ws ns s (label_in h ls) a refl e
    begun false ns a e = absurd (cc)

    go : (o : Option (List ℕ)) → numbers_in h need.Typed ws ≡ o → stated_numbers h ls ws o ≡ Ok s
        → StatedRead h ls ws s
    go None a e = absurd (cc)
    go (Some ns) a e = begun (begins_constant h ws) ns a e

essential-added : (old : ScopeState) (c : Context) (ls ws : List Token) (s : Statement)
    (new : ScopeState) → Stands old c → StatedRead old ls ws s
    → AddsHypothesis old (essential s.label s.symbols) new
    → Stands new (with_hypothesis c (first_label ls) (essential (first_label ls) ws))
essential-added old c ls ws s new w r adds =
    let label : (first_label ls ≡ s.label) × (old.names s.label ≡ None) =
    label-is old ls s.label r.labelled in
    let stands : Stands new (with_hypothesis c s.label (essential s.label ws)) =
    hypothesis-added old c (essential s.label s.symbols) (essential s.label ws) new w label.1 tt
    (λ name names. ap (essential s.label)
    (sym (numbers-named old c w name names need.Typed ws s.symbols r.numbers))) adds in
    subst (λ (l : Token). Stands new (with_hypothesis c l (essential l ws))) (sym label.0) stands

states-added : (old : ScopeState) (c : Context) (ls ws : List Token) (s : Statement)
    (f : NumberedFrame) (new : ScopeState) → Stands old c → StatedRead old ls ws s
    → (ArePlaced old → IsFrameIn old s f) → AddsAssertion old f new
    → Stands new (with_assertion c (first_label ls) ws)
states-added old c ls ws s f new w r is adds =
    let label : (first_label ls ≡ s.label) × (old.names s.label ≡ None) =
    label-is old ls s.label r.labelled in
    let stands : Stands new (with_assertion c s.label ws) =
    assertion-added old c s f ws new w label.1 (is w.typed)
    (λ name names. numbers-named old c w name names need.Typed ws s.symbols r.numbers)
    adds in
    subst (λ (l : Token). Stands new (with_assertion c l ws)) (sym label.0) stands

tested-numbers : Bool → Bool → List ℕ → Result (List ℕ) ℕ
tested-numbers a b ms = if a then Err 9 else if b then Ok ms else Err 11

disjoint-read : (h : ScopeState) (ls ws : List Token) (ns : List ℕ) → disjoint_in h ls ws ≡ Ok ns
    → numbers_in h need.Variable ws ≡ Some ns
unfolding tested-numbers
disjoint-read h ls ws ns g = go (numbers_in h need.Variable ws) refl g
  where
    tests : (a b : Bool) (ms : List ℕ) → numbers_in h need.Variable ws ≡ Some ms
        → tested-numbers a b ms ≡ Ok ns → numbers_in h need.Variable ws ≡ Some ns
    tests true b ms e f = absurd (cc)
    tests false true ms e f = let same : ms ≡ ns = cc in e ∙ ap (λ (xs : List ℕ). Some xs) same
    tests false false ms e f = absurd (cc)

    go : (o : Option (List ℕ)) → numbers_in h need.Variable ws ≡ o
        → separated_numbers ls ws o ≡ Ok ns → numbers_in h need.Variable ws ≡ Some ns
    go None e f = absurd (cc)
    go (Some ms) e f = tests (not (has_two ws) || has_repeated ws) (is_nil ls) ms e f

-- each keyword

plain-added : (old : ScopeState) (c : Context) (k : Keyword) (ls ws ps : List Token) (at : ℕ)
    (said : Saying) (new : ScopeState) → Stands old c → judged_plain old k ls ws ≡ Ok said
    → Follows old at said new → Stands new (with_declared c ls (keyword_read k) ws)
plain-added old c Constants ls ws ps at said new w judged follows =
    let facts : ((list_any (redeclares_constant old) ws || has_repeated ws) ≡ false) ×
    (names_constants ws ≡ said) =
    no-fault-constants old ls ws (is_open_in old.blocks)
    (list_any (redeclares_constant old) ws || has_repeated ws) (unlabelled ls)
    (names_constants ws) said judged in
    constants-added ws old new c w (list_any-same (taken-constant c) (redeclares_constant old)
    (test-named old c w) ws
    ∙ none-first (list_any (redeclares_constant old) ws) (has_repeated ws) facts.0)
    (none-rest (list_any (redeclares_constant old) ws) (has_repeated ws) facts.0)
    (subst (λ (s : Saying). Follows old at s new) (sym facts.1) follows)
plain-added old c Variables ls ws ps at said new w judged follows =
    let facts : ((list_any (redeclares_variable old) ws || has_repeated ws) ≡ false) ×
    (names_variables ws ≡ said) =
    no-fault-variables (list_any (redeclares_variable old) ws || has_repeated ws)
    (unlabelled ls) (names_variables ws) said judged in
    variables-added ws old new c w (list_any-same (taken-variable c) (redeclares_variable old)
    (test-taken old c w) ws
    ∙ none-first (list_any (redeclares_variable old) ws) (has_repeated ws) facts.0)
    (none-rest (list_any (redeclares_variable old) ws) (has_repeated ws) facts.0)
    (subst (λ (s : Saying). Follows old at s new) (sym facts.1) follows)
plain-added old c Floating ls ws ps at said new w judged follows =
    go (floating_in old ls ws) refl judged
  where
    go : (r : Result NumberedHypothesis ℕ) → floating_in old ls ws ≡ r → saying_floating r ≡ Ok said
        → Stands new (with_declared c ls forms.types_variable ws)
    go (Ok x) e f =
        let same : supposes x ≡ said = cc in
        floating-added old c ls ws x new w (floating-read old ls ws x e)
        (subst (λ (s : Saying). Follows old at s new) (sym same) follows)
    go (Err k) e f = absurd (cc)
plain-added old c Essential ls ws ps at said new w judged follows =
    go (stated_in old ls ws) refl judged
  where
    go : (r : Result Statement ℕ) → stated_in old ls ws ≡ r → saying_essential r ≡ Ok said
        → Stands new (with_declared c ls forms.assumes ws)
    go (Ok s) e f =
        let same : supposes (essential s.label s.symbols) ≡ said = cc in
        essential-added old c ls ws s new w (stated-read old ls ws s e)
        (subst (λ (s : Saying). Follows old at s new) (sym same) follows)
    go (Err k) e f = absurd (cc)
plain-added old c Disjoint ls ws ps at said new w judged follows =
    go (disjoint_in old ls ws) refl judged
  where
    go : (r : Result (List ℕ) ℕ) → disjoint_in old ls ws ≡ r → saying_disjoint r ≡ Ok said
        → Stands new (with_declared c ls forms.separates ws)
    go (Ok ns) e f =
        let same : parts ns ≡ said = cc in
        disjoint-added old c ns ws new w (λ name names. numbers-named old c w name names
        need.Variable ws ns (disjoint-read old ls ws ns e))
        (subst (λ (s : Saying). Follows old at s new) (sym same) follows)
    go (Err k) e f = absurd (cc)
plain-added old c Axiom ls ws ps at said new w judged follows = go (stated_in old ls ws) refl judged
  where
    go : (r : Result Statement ℕ) → stated_in old ls ws ≡ r → saying_states r ≡ Ok said
        → Stands new (with_declared c ls forms.asserts ws)
    go (Ok s) e f =
        let same : states s ≡ said = cc in
        let made = subst (λ (s : Saying). Follows old at s new) (sym same) follows in
        states-added old c ls ws s made.0 new w (stated-read old ls ws s e) made.1 made.2
    go (Err k) e f = absurd (cc)
plain-added old c Theorem ls ws ps at said new w judged follows =
    go (stated_in old ls ws) refl judged
  where
    go : (r : Result Statement ℕ) → stated_in old ls ws ≡ r → saying_states r ≡ Ok said
        → Stands new (with_declared c ls forms.proves ws)
    go (Ok s) e f =
        let same : states s ≡ said = cc in
        let made = subst (λ (s : Saying). Follows old at s new) (sym same) follows in
        states-added old c ls ws s made.0 new w (stated-read old ls ws s e) made.1 made.2
    go (Err k) e f = absurd (cc)

-- the end of a block

closed-added : (old : ScopeState) (c : Context) (blocks : List Block) (new : ScopeState)
    (o : Option OpenBlock) → Stands old c → c.blocks ≡ blocks → is_open_in old.blocks ≡ true
    → ClosesBlock old new o → Stands new (with_block_closed c blocks)
closed-added old c blocks new None w is opened taken =
    absurd (let none : is_open_in old.blocks ≡ false = ap is_open_in taken.0 in let z : ⊥ = cc in z)
closed-added old c [] new (Some o) w is opened taken =
    absurd (let none : is_open_in old.blocks ≡ false = sym (test-open old c w) ∙ ap is_open is in
    let z : ⊥ = cc in z)
closed-added old c (b ∷ bs) new (Some o) w is opened taken =
    block-closed old c b bs o new w is taken

open-end : (os : List OpenBlock) (said : Saying) → judged_end os ≡ Ok said
    → (is_open_in os ≡ true) × (closes ≡ said)
open-end [] said e = absurd (cc)
open-end (o ∷ os) said e = (refl, cc)

pub form-added : (old : ScopeState) (c : Context) (bytes : List ℕ) (f : Form) (at : ℕ)
    (said : Saying) (new : ScopeState) → Stands old c → judged_form old bytes f ≡ Ok said
    → Follows old at said new → Stands new (after_form c at (Some (form_read bytes f)))
form-added old c bytes BlockStart at said new w judged follows =
    let same : opens ≡ said = cc in
    block-opened old c at new w
    (subst (λ (s : Saying). Follows old at s new) (sym same) follows)
form-added old c bytes BlockEnd at said new w judged follows =
    let facts : (is_open_in old.blocks ≡ true) × (closes ≡ said) =
    open-end old.blocks said judged in
    let made = subst (λ (s : Saying). Follows old at s new) (sym facts.1) follows in
    closed-added old c c.blocks new made.0 w refl facts.0 made.1
form-added old c bytes (Plain p) at said new w judged follows =
    plain-added old c p.keyword (words_of bytes p.labels.now) (words_of bytes p.symbols.now)
    (words_of bytes p.proof.now) at said new w judged follows
