-- The variables and hypotheses of a block: no statement has a fault, and what is active after them.
use Rattle.std.proofs.Common.{◌≡◌, ℕ, ◌<◌, ◌^◌, Bool, true, false, List, [], ◌∷◌, ◌++◌, map, refl}
use Rattle.std.proofs.Common.{ap, ◌∙◌, sym, subst, append_assoc, append-nil, Some, None}
use Rattle.std.specs.Prelude.{◌||◌, not, bytes_eq}
use Rattle.std.specs.List.{list_any, list_all}
use Rattle.std.proofs.lemmas.Bool.{false≢true}
use Rattle.mm_text.specs.Bytes.{Token, has_token, has_repeated}
use Rattle.mm_text.specs.Labels.{is_label}
use Rattle.mm_database.specs.Forms.{declares_variables, types_variable, assumes, separates, plain}
use Rattle.mm_database.specs.Forms.{has_dollar}
use Rattle.mm_database.specs.Frames.{Hypothesis, label_of, types, Scope}
use Rattle.mm_database.specs.Database.{Context}
use Rattle.mm_database.specs.Validity.{declaration_fault, has_two, has_type, is_new_label, is_typed}
use Rattle.mm_header.specs.HeaderContext.{header_context}
use Rattle.mm_proof.specs.Labels.{statement_label, premise_label}
use Rattle.ml_pat.proofs.LeafLaws.{both_true, split_true}
use Rattle.mm_claims.specs.Statements.{NameKind, sort_name, symbol_name, value_name, kind_front}
use Rattle.mm_claims.specs.Statements.{IsName}
use Rattle.mm_claims.specs.Fitting.{AreNames, Holds}
use Rattle.mm_claims.specs.Variables.{Variable, object_variable, pattern_variable, number_of}
use Rattle.mm_claims.specs.Variables.{same_variable, has_variable, are_once, AreNumbered}
use Rattle.mm_claims.specs.Variables.{variable_token, variable_label, variable_type}
use Rattle.mm_claims.specs.Variables.{variable_tokens, is_variable_token}
use Rattle.mm_claims.specs.Blocks.{variable_statements, variable_float, separation_statements}
use Rattle.mm_claims.specs.Claiming.{IsFree}
use Rattle.mm_claims.proofs.SpeltLaws.{statement_label-is_label}
use Rattle.mm_database.proofs.LabelTokens.{LabelFacts, label_facts}
use Rattle.mm_claims.proofs.StatedLaws.{itself, name_no_statement}
use Rattle.mm_claims.proofs.VariableLaws.{VariableFacts, variable_facts, label_differs, label_spelt}
use Rattle.mm_claims.proofs.VariableLaws.{premise_spelt, no_variable_among, no_other_among}
use Rattle.mm_claims.proofs.InsideLaws.{Left, inside, AddsAnywhere, AreSymbols, list_any-append}
use Rattle.mm_claims.proofs.InsideLaws.{map-append, behind_variable, behind_hypothesis}
use Rattle.mm_claims.proofs.InsideLaws.{behind_separation, unlabelled_adds, labelled_adds}
use Rattle.mm_claims.proofs.Separations.{new_variable, numbered_front, numbered_behind}
use Rattle.mm_claims.proofs.Separations.{absent_token, EachSeparated, separated_once}
use Rattle.mm_claims.proofs.Separations.{variables_are_symbols, all_among}
use Rattle.mm_claims.proofs.BoolLaws.{both_false, either_true, second_true, not_false, split_false}
use Rattle.mm_text.specs.PlainTokens.{is_plain_token}
use Rattle.mm_database.specs.StatementTexts.{plain_tokens}

-- what is true after the text before a block
pub record IsGround (declared : List Token) (k : ℕ) (c : Context) : Type 0 where
  pub base : Holds declared c
  pub names : AreNames declared
  pub free : IsFree c k
  pub no_label : (v : Variable) → c.labels (variable_token v) ≡ false
  pub small : k < 2 ^ 64

-- what is known about a label of a block
pub record IsOwnLabel (l : Token) : Type 0 where
  pub spelt : is_label l ≡ true
  pub no_constant : header_context.constants l ≡ false
  pub no_variable : header_context.variables l ≡ false
  pub no_token : is_variable_token l ≡ false
  pub no_name : (t : Token) → IsName t → bytes_eq t l ≡ false

named_otherwise : (l t : Token)
    → ((k : NameKind) (rest : Token) → bytes_eq (kind_front k ++ rest) l ≡ false) → IsName t
    → bytes_eq t l ≡ false
named_otherwise l t h w = ap (λ (u : Token). bytes_eq u l) w.is ∙ h w.kind w.rest

object_no_name : (k i : ℕ) (n : NameKind) (rest : Token)
    → bytes_eq (kind_front n ++ rest) (variable_label k (object_variable i)) ≡ false
object_no_name k i sort_name rest = refl
object_no_name k i symbol_name rest = refl
object_no_name k i value_name rest = refl

pattern_no_name : (k i : ℕ) (n : NameKind) (rest : Token)
    → bytes_eq (kind_front n ++ rest) (variable_label k (pattern_variable i)) ≡ false
pattern_no_name k i sort_name rest = refl
pattern_no_name k i symbol_name rest = refl
pattern_no_name k i value_name rest = refl

premise_no_name : (k j : ℕ) (n : NameKind) (rest : Token)
    → bytes_eq (kind_front n ++ rest) (premise_label k j) ≡ false
premise_no_name k j sort_name rest = refl
premise_no_name k j symbol_name rest = refl
premise_no_name k j value_name rest = refl

pub variable_label_own : (k : ℕ) (v : Variable) → k < 2 ^ 64 → number_of v < 2 ^ 64
    → IsOwnLabel (variable_label k v)
unfolding header_context
variable_label_own k (object_variable i) h g = record {
  spelt =
      label_spelt k (object_variable i) h g;
  no_constant = refl;
  no_variable = refl;
  no_token = refl;
  no_name =
      λ t w. named_otherwise (variable_label k (object_variable i)) t (object_no_name k i) w;
}
variable_label_own k (pattern_variable i) h g = record {
  spelt =
      label_spelt k (pattern_variable i) h g;
  no_constant = refl;
  no_variable = refl;
  no_token = refl;
  no_name =
      λ t w. named_otherwise (variable_label k (pattern_variable i)) t (pattern_no_name k i) w;
}

pub premise_label_own : (k j : ℕ) → k < 2 ^ 64 → j < 2 ^ 64 → IsOwnLabel (premise_label k j)
unfolding header_context
premise_label_own k j h g = record {
  spelt = premise_spelt k j h g;
  no_constant = refl;
  no_variable = refl;
  no_token = refl;
  no_name = λ t w. named_otherwise (premise_label k j) t (premise_no_name k j) w;
}

pub statement_label_own : (k : ℕ) → k < 2 ^ 64 → IsOwnLabel (statement_label k)
unfolding header_context
statement_label_own k h = record {
  spelt = statement_label-is_label k h;
  no_constant = refl;
  no_variable = refl;
  no_token = refl;
  no_name = λ t w. name_no_statement t k w;
}

no_name_among : (ts : List Token) (l : Token) → IsOwnLabel l → AreNames ts → has_token ts l ≡ false
no_name_among [] l own h = refl
no_name_among (t ∷ ts) l own h =
    both_false (bytes_eq t l) (has_token ts l) (own.no_name t h.0) (no_name_among ts l own h.1)

new_when : (d : Context) (l : Token) → is_label l ≡ true → d.labels l ≡ false
    → d.constants l ≡ false → d.variables l ≡ false → is_new_label d l ≡ true
new_when d l h g f e = rw (h, g, f, e) refl

-- such a label is new in a block if it was not taken there
pub new_inside : (declared : List Token) (k : ℕ) (c : Context) (at : ℕ) (vs : List Variable)
    (hs : List Hypothesis) (ds : List (List Token)) (l : Token) → IsGround declared k c
    → IsOwnLabel l → c.labels l ≡ false → has_token (map label_of hs) l ≡ false
    → is_new_label (inside c at (variable_tokens vs) hs ds) l ≡ true
new_inside declared k c at vs hs ds l w own free other =
    new_when (inside c at (variable_tokens vs) hs ds) l own.spelt
    (both_false (c.labels l) (has_token (map label_of hs) l) free other)
    (w.base.constants l
    ∙ both_false (header_context.constants l) (has_token declared l) own.no_constant
    (no_name_among declared l own w.names))
    (both_false (c.variables l) (has_token (variable_tokens vs) l)
    (w.base.variables l own.no_token ∙ own.no_variable) (no_other_among vs l own.no_token))

pub own_symbols : (l : Token) → IsOwnLabel l → AreSymbols (l ∷ [])
own_symbols l own =
    let facts : LabelFacts l = label_facts l own.spelt in
    record {
      plain = both_true (is_plain_token l) true facts.plain refl;
      clean = both_true (not (has_dollar l)) true (not_false (has_dollar l) facts.clean) refl;
    }

-- the labels and types of variables

label_no_token : (k : ℕ) (u v : Variable) → bytes_eq (variable_label k u) (variable_token v) ≡ false
label_no_token k (object_variable i) (object_variable j) = refl
label_no_token k (object_variable i) (pattern_variable j) = refl
label_no_token k (pattern_variable i) (object_variable j) = refl
label_no_token k (pattern_variable i) (pattern_variable j) = refl

no_token_among : (k : ℕ) (us : List Variable) (v : Variable)
    → has_token (map label_of (map (variable_float k) us)) (variable_token v) ≡ false
no_token_among k [] v = refl
no_token_among k (u ∷ us) v =
    both_false (bytes_eq (variable_label k u) (variable_token v))
    (has_token (map label_of (map (variable_float k) us)) (variable_token v))
    (label_no_token k u v) (no_token_among k us v)

absent_label : (k : ℕ) (us : List Variable) (v : Variable) → k < 2 ^ 64 → AreNumbered us
    → number_of v < 2 ^ 64 → has_variable us v ≡ false
    → has_token (map label_of (map (variable_float k) us)) (variable_label k v) ≡ false
absent_label k [] v small all h none = refl
absent_label k (u ∷ us) v small all h none =
    let both : (same_variable u v ≡ false) × (has_variable us v ≡ false) =
    split_false (same_variable u v) (has_variable us v) none in
    both_false (bytes_eq (variable_label k u) (variable_label k v))
    (has_token (map label_of (map (variable_float k) us)) (variable_label k v))
    (label_differs k u v small all.0 h both.0) (absent_label k us v small all.1 h both.1)

pub typed_tokens : (k : ℕ) (us : List Variable) (t : Token)
    → list_any (types t) (map (variable_float k) us) ≡ has_token (variable_tokens us) t
typed_tokens k [] t = refl
typed_tokens k (u ∷ us) t =
    ap (λ (b : Bool). bytes_eq (variable_token u) t || b) (typed_tokens k us t)

-- what the declaration of a variable needs

variable_well : (d : Context) (t : Token) → d.constants t ≡ false → d.scope.variables t ≡ false
    → d.labels t ≡ false
    → declaration_fault d (Some (plain [] declares_variables (t ∷ []) [])) ≡ None
variable_well d t h g f = rw (h, g, f) refl

float_well : (d : Context) (l s t : Token) → is_new_label d l ≡ true → d.constants s ≡ true
    → d.constants t ≡ false → d.scope.variables t ≡ true → has_type d t ≡ false
    → declaration_fault d (Some (plain (l ∷ []) types_variable (s ∷ (t ∷ [])) [])) ≡ None
float_well d l s t h g f e i = rw (h, g, f, e, i) refl

separation_well : (d : Context) (t : Token) (ts : List Token)
    → list_all d.scope.variables (t ∷ ts) ≡ true → has_two (t ∷ ts) ≡ true
    → has_repeated (t ∷ ts) ≡ false
    → declaration_fault d (Some (plain [] separates (t ∷ ts) [])) ≡ None
separation_well d t ts h g f = rw (h, g, f) refl

pub premise_well : (d : Context) (l s : Token) (ts : List Token) → is_new_label d l ≡ true
    → d.constants s ≡ true → list_all (is_typed d) (s ∷ ts) ≡ true
    → declaration_fault d (Some (plain (l ∷ []) assumes (s ∷ ts) [])) ≡ None
premise_well d l s ts h g f = rw (f, g, h) refl

-- a variable

variable_adds : (declared : List Token) (k : ℕ) (c : Context) (at : ℕ) (done : List Variable)
    (v : Variable) (sts : List (List Token)) (left : Left) → IsGround declared k c
    → AreNumbered done → number_of v < 2 ^ 64 → has_variable done v ≡ false
    → AddsAnywhere (inside c at (variable_tokens (done ++ v ∷ []))
    (map (variable_float k) (done ++ v ∷ [])) []) sts left
    → AddsAnywhere (inside c at (variable_tokens done) (map (variable_float k) done) [])
    (plain_tokens [] declares_variables (variable_token v ∷ [])
    ∷ (plain_tokens (variable_label k v ∷ []) types_variable
    (variable_type v ∷ (variable_token v ∷ [])) ∷ sts)) left
variable_adds declared k c at done v sts left w numbered small new behind =
    let facts : VariableFacts v = variable_facts v small in
    let t : Token = variable_token v in
    let fs : List Hypothesis = map (variable_float k) done in
    let constant : c.constants (variable_token v) ≡ false =
    w.base.constants (variable_token v)
    ∙ both_false (header_context.constants (variable_token v))
    (has_token declared (variable_token v)) facts.no_constant
    (no_variable_among declared v w.names) in
    let outside : c.scope.variables (variable_token v) ≡ false =
    ap (λ (s : Scope). s.variables (variable_token v)) w.base.scope ∙ facts.not_active in
    let absent : has_token (variable_tokens done) (variable_token v) ≡ false =
    absent_token done v numbered small new in
    let own : IsOwnLabel (variable_label k v) = variable_label_own k v w.small small in
    let token : AreSymbols (variable_token v ∷ []) =
    record {
      plain = both_true (is_plain_token (variable_token v)) true facts.plain refl;
      clean =
          both_true (not (has_dollar (variable_token v))) true
          (not_false (has_dollar (variable_token v)) facts.clean) refl;
    } in
    let typing : AreSymbols (variable_type v ∷ (variable_token v ∷ [])) =
    record {
      plain =
          both_true (is_plain_token (variable_type v)) _ facts.plain_typecode token.plain;
      clean =
          both_true (not (has_dollar (variable_type v))) _
          (not_false (has_dollar (variable_type v)) facts.clean_typecode) token.clean;
    } in
    let tokens : variable_tokens done ++ variable_token v ∷ [] ≡ variable_tokens (done ++ v ∷ []) =
    sym (map-append variable_token done (v ∷ [])) in
    let floats : map (variable_float k) done ++ variable_float k v ∷ [] ≡ map (variable_float k)
    (done ++ v ∷ []) =
    sym (map-append (variable_float k) done (v ∷ [])) in
    let d : Context = inside c at (variable_tokens done) (map (variable_float k) done) [] in
    let active : has_token (variable_tokens (done ++ v ∷ [])) (variable_token v) ≡ true =
    ap (λ (ts : List Token). has_token ts (variable_token v)) (sym tokens)
    ∙ list_any-append (λ u. bytes_eq u (variable_token v)) (variable_tokens done)
    (variable_token v ∷ [])
    ∙ second_true (has_token (variable_tokens done) (variable_token v))
    (has_token (variable_token v ∷ []) (variable_token v))
    (either_true (bytes_eq (variable_token v) (variable_token v)) false
    (itself (variable_token v))) in
    let untyped : list_any (types (variable_token v))
    (c.scope.hypotheses ++ map (variable_float k) done) ≡ false =
    list_any-append (types (variable_token v)) c.scope.hypotheses (map (variable_float k) done)
    ∙ both_false (list_any (types (variable_token v)) c.scope.hypotheses)
    (list_any (types (variable_token v)) (map (variable_float k) done)) (ap
    (λ (s : Scope). list_any (types (variable_token v)) s.hypotheses) w.base.scope
    ∙ facts.no_type) (typed_tokens k done (variable_token v) ∙ absent) in
    let typecode : c.constants (variable_type v) ≡ true =
    w.base.constants (variable_type v)
    ∙ either_true (header_context.constants (variable_type v))
    (has_token declared (variable_type v)) facts.typecode in
    unlabelled_adds (inside c at (variable_tokens done) (map (variable_float k) done) [])
    declares_variables (variable_token v) [] (plain_tokens (variable_label k v ∷ [])
    types_variable (variable_type v ∷ (variable_token v ∷ [])) ∷ sts) left refl refl
    token
    (variable_well (inside c at (variable_tokens done) (map (variable_float k) done) [])
    (variable_token v) constant
    (both_false (c.scope.variables (variable_token v)) _ outside absent)
    (both_false (c.labels (variable_token v)) _ (w.no_label v) (no_token_among k done v)))
    (subst (λ (e : Context). AddsAnywhere e (plain_tokens (variable_label k v ∷ []) types_variable
    (variable_type v ∷ (variable_token v ∷ [])) ∷ sts) left)
    (sym (behind_variable c at (variable_tokens
    done) (map (variable_float k) done) [] (variable_token v) ∙ ap (λ (ts : List Token). inside c at
    ts (map (variable_float k) done) []) tokens))
    (labelled_adds (inside c at (variable_tokens (done ++ v ∷ [])) (map (variable_float k) done) [])
    (variable_label k v) types_variable (variable_type v) (variable_token v ∷ []) sts left refl
    refl (own_symbols (variable_label k v) own) typing
    (float_well (inside c at (variable_tokens (done ++ v ∷ [])) (map (variable_float k) done) [])
    (variable_label k v) (variable_type v) (variable_token v)
    (new_inside declared k c at (done ++ v ∷ []) (map (variable_float k) done) []
    (variable_label k v) w own (w.free.variable v small)
    (absent_label k done v w.small numbered small new))
    typecode constant (second_true (c.scope.variables (variable_token v)) _ active) untyped)
    (subst (λ (e : Context). AddsAnywhere e sts left) (sym (behind_hypothesis c at (variable_tokens
    (done ++ v
    ∷ [])) (map (variable_float k) done) [] (variable_float k v) ∙ ap (λ (hs : List
    Hypothesis). inside c at (variable_tokens (done ++ v ∷ [])) hs []) floats))
    behind)))

pub variables_add : (declared : List Token) (k : ℕ) (c : Context) (at : ℕ)
    (done more : List Variable) (sts : List (List Token)) (left : Left) → IsGround declared k c
    → AreNumbered (done ++ more) → are_once (done ++ more) ≡ true
    → AddsAnywhere
    (inside c at (variable_tokens (done ++ more)) (map (variable_float k) (done ++ more)) [])
    sts left
    → AddsAnywhere (inside c at (variable_tokens done) (map (variable_float k) done) [])
    (variable_statements k more ++ sts) left
variables_add declared k c at done [] sts left w numbered once behind =
    subst (λ (vs : List Variable).
    AddsAnywhere (inside c at (variable_tokens vs) (map (variable_float k) vs) []) sts left)
    (append-nil done) behind
variables_add declared k c at done (v ∷ more) sts left w numbered once behind =
    let same : (done ++ v ∷ []) ++ more ≡ done ++ v ∷ more = append_assoc done (v ∷ []) more in
    variable_adds declared k c at done v (variable_statements k more ++ sts) left w
    (numbered_front done (v ∷ more) numbered) (numbered_behind done (v ∷ more) numbered).0
    (new_variable done v more once)
    (variables_add declared k c at (done ++ v ∷ []) more sts left w
    (subst AreNumbered (sym same) numbered)
    (subst (λ (vs : List Variable). are_once vs ≡ true) (sym same) once)
    (subst (λ (vs : List Variable).
    AddsAnywhere (inside c at (variable_tokens vs) (map (variable_float k) vs) []) sts left)
    (sym same) behind))

-- the `$d`s

scoped : (c : Context) (vs ts : List Token) → list_all (has_token vs) ts ≡ true
    → list_all (λ t. c.scope.variables t || has_token vs t) ts ≡ true
scoped c vs [] h = refl
scoped c vs (t ∷ ts) h =
    let both : (has_token vs t ≡ true) × (list_all (has_token vs) ts ≡ true) =
    split_true (has_token vs t) (list_all (has_token vs) ts) h in
    both_true (c.scope.variables t || has_token vs t)
    (list_all (λ u. c.scope.variables u || has_token vs u) ts)
    (second_true (c.scope.variables t) (has_token vs t) both.0) (scoped c vs ts both.1)

pub separations_add : (c : Context) (at : ℕ) (vs : List Variable) (hs : List Hypothesis)
    (done : List (List Token)) (wss : List (List Variable)) (sts : List (List Token))
    (left : Left) → EachSeparated vs wss
    → AddsAnywhere (inside c at (variable_tokens vs) hs (done ++ map variable_tokens wss)) sts left
    → AddsAnywhere (inside c at (variable_tokens vs) hs done)
    (separation_statements (map variable_tokens wss) ++ sts) left
separations_add c at vs hs done [] sts left all behind =
    subst
    (λ (ds : List (List Token)). AddsAnywhere (inside c at (variable_tokens vs) hs ds) sts left)
    (append-nil done) behind
separations_add c at vs hs done ([] ∷ wss) sts left all behind = absurd (false≢true all.0.1)
separations_add c at vs hs done ((w ∷ []) ∷ wss) sts left all behind = absurd (false≢true all.0.1)
separations_add c at vs hs done ((w ∷ (x ∷ ws)) ∷ wss) sts left all behind =
    let ts : List Token = variable_tokens (w ∷ (x ∷ ws)) in
    unlabelled_adds (inside c at (variable_tokens vs) hs done) separates (variable_token w)
    (variable_tokens (x ∷ ws)) (separation_statements (map variable_tokens wss) ++ sts) left
    refl refl (variables_are_symbols (w ∷ (x ∷ ws)) all.0.0.numbered)
    (separation_well (inside c at (variable_tokens vs) hs done) (variable_token w)
    (variable_tokens (x ∷ ws)) (scoped c (variable_tokens vs) (variable_tokens (w ∷ (x ∷ ws)))
    (all_among vs (w ∷ (x ∷ ws)) all.0.0.among)) refl
    (separated_once (w ∷ (x ∷ ws)) all.0.0.once all.0.0.numbered))
    (subst (λ (e : Context).
    AddsAnywhere e (separation_statements (map variable_tokens wss) ++ sts) left)
    (sym (behind_separation c at (variable_tokens vs) hs done (variable_tokens (w ∷ (x ∷ ws)))))
    (separations_add c at vs hs (done ++ variable_tokens (w ∷ (x ∷ ws)) ∷ []) wss sts left all.1
    (subst
    (λ (ds : List (List Token)). AddsAnywhere (inside c at (variable_tokens vs) hs ds) sts left)
    (sym (append_assoc done (variable_tokens (w ∷ (x ∷ ws)) ∷ []) (map variable_tokens wss)))
    behind)))
