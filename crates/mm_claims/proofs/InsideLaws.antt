-- What is declared and active inside a block, statement by statement.
use Rattle.std.proofs.Common.{◌≡◌, ℕ, ◌+◌, Bool, true, false, List, [], ◌∷◌, ◌++◌, length, map}
use Rattle.std.proofs.Common.{refl, ap, ◌∙◌, sym, subst, append_assoc, append-nil, Option, Some}
use Rattle.std.proofs.Common.{None}
use Rattle.std.proofs.Math.Path.{fun_ext}
use Rattle.std.specs.Prelude.{◌||◌, not, codes, bytes_eq, IfSome}
use Rattle.std.specs.List.{list_any, list_all}
use Rattle.std.proofs.lemmas.Bool.{false≢true}
use Rattle.std.proofs.lemmas.Slice.Eq.{bytes_eq-Decides}
use Rattle.mm_text.specs.Bytes.{Token, has_token}
use Rattle.mm_text.proofs.Writing.{written_statement}
use Rattle.mm_text.specs.Statements.{statement, statements_from, ends_statement, is_whole}
use Rattle.mm_database.specs.Forms.{Form, Keyword, declares_constants, declares_variables}
use Rattle.mm_database.specs.Forms.{types_variable, assumes, separates, asserts, proves, plain}
use Rattle.mm_database.specs.Forms.{form_of, has_dollar}
use Rattle.mm_database.specs.Frames.{Hypothesis, label_of, Frame, frame_of}
use Rattle.mm_database.specs.Database.{Block, Context, context_after, after_form, with_declared}
use Rattle.mm_database.specs.Database.{with_block_opened, with_block_closed, with_tokens}
use Rattle.mm_database.specs.Database.{with_token, with_hypothesis, with_assertion}
use Rattle.mm_database.specs.Database.{are_different_tokens}
use Rattle.mm_database.specs.Assertions.{Assertion, assertion, keyword_assertion, assertions_in}
use Rattle.mm_database.specs.Assertions.{form_assertion, with_assertion_first, keyword_typing}
use Rattle.mm_database.specs.Assertions.{form_typing, with_typing_first, typings_in}
use Rattle.mm_database.specs.Validity.{IsProved, task, form_fault, declaration_fault, or_else}
use Rattle.mm_database.specs.Validity.{HasNoFault}
use Rattle.mm_database.specs.Compressing.{is_compressed}
use Rattle.mm_database.specs.FrameLaws.{Adds}
use Rattle.mm_database.proofs.WrittenForms.{plain_tokens_say}
use Rattle.ml_pat.proofs.LeafLaws.{both_true, split_true}
use Rattle.mm_proof.proofs.LeafLaws.{list_all-append}
use Rattle.mm_claims.proofs.StatedLaws.{ends_last}
use Rattle.mm_claims.proofs.BoolLaws.{not_false, with_false}
use Rattle.mm_text.specs.Written.{written}
use Rattle.mm_text.specs.PlainTokens.{is_plain_token, is_one_statement, ends_once}
use Rattle.mm_database.specs.StatementTexts.{written_statements, keyword_token, plain_tokens}
use Rattle.mm_database.specs.CleanTokens.{are_clean, has_proof}

-- the context inside a block that began at a byte, with the tokens of these variables, these
-- hypotheses and these `$d`s
abbrev pub inside : Context → ℕ → List Token → List Hypothesis → List (List Token) → Context
inside c at ts hs ds = record {
  constants = c.constants;
  variables = with_tokens c.variables ts;
  labels = with_tokens c.labels (map label_of hs);
  frames = c.frames;
  scope = record {
    variables = with_tokens c.scope.variables ts;
    hypotheses = c.scope.hypotheses ++ hs;
    apart = λ a b. c.scope.apart a b || list_any (λ d. are_different_tokens d a b) ds;
  };
  blocks = record { at = at; outside = c.scope } ∷ c.blocks;
}

-- the parts of a context inside a block that change
abbrev made : Context → ℕ → (Token → Bool) → (Token → Bool) → (Token → Bool) → List Hypothesis
    → (Token → Token → Bool) → Context
made c at vs ls active hs apart = record {
  constants = c.constants;
  variables = vs;
  labels = ls;
  frames = c.frames;
  scope = record { variables = active; hypotheses = hs; apart = apart };
  blocks = record { at = at; outside = c.scope } ∷ c.blocks;
}

or_assoc : (a b c : Bool) → ((a || b) || c) ≡ (a || (b || c))
or_assoc true b c = refl
or_assoc false b c = refl

pub list_any-append : {A : Type 0} (test : A → Bool) (xs ys : List A)
    → list_any test (xs ++ ys) ≡ (list_any test xs || list_any test ys)
list_any-append test [] ys = refl
list_any-append test (x ∷ xs) ys = ap (λ (b : Bool). test x || b) (list_any-append test xs ys)
    ∙ sym (or_assoc (test x) (list_any test xs) (list_any test ys))

pub map-append : {A B : Type 0} (f : A → B) (xs ys : List A)
    → map f (xs ++ ys) ≡ map f xs ++ map f ys
map-append f [] ys = refl
map-append f (x ∷ xs) ys = ap (λ bs. f x ∷ bs) (map-append f xs ys)

pub none_more : (set : Token → Bool) → set ≡ with_tokens set []
none_more set = fun_ext (λ t. with_false (set t))

tokens_more : (set : Token → Bool) (ts us : List Token)
    → with_tokens (with_tokens set ts) us ≡ with_tokens set (ts ++ us)
tokens_more set ts us =
    fun_ext (λ t. or_assoc (set t) (has_token ts t) (has_token us t)
    ∙ ap (λ (b : Bool). set t || b) (sym (list_any-append (λ u. bytes_eq u t) ts us)))

pub bytes_eq-turned : (s t : Token) → bytes_eq s t ≡ bytes_eq t s
bytes_eq-turned s t = go (bytes_eq s t) refl (bytes_eq t s) refl
  where
    go : (a : Bool) → bytes_eq s t ≡ a → (b : Bool) → bytes_eq t s ≡ b → a ≡ b
    go true h true k = refl
    go false h false k = refl
    go true h false k =
        absurd (false≢true (sym k ∙ (bytes_eq-Decides t s).1 (sym ((bytes_eq-Decides s t).0 h))))
    go false h true k =
        absurd (false≢true (sym h ∙ (bytes_eq-Decides s t).1 (sym ((bytes_eq-Decides t s).0 k))))

token_more : (set : Token → Bool) (ts : List Token) (u : Token)
    → with_token (with_tokens set ts) u ≡ with_tokens set (ts ++ u ∷ [])
token_more set ts u =
    fun_ext (λ t. ap (λ (b : Bool). (set t || has_token ts t) || b)
    (bytes_eq-turned t u ∙ with_false (bytes_eq u t))) ∙ tokens_more set ts (u ∷ [])

pub opened : (c : Context) (at : ℕ) → with_block_opened c at ≡ inside c at [] [] []
opened c at =
    ap (λ (s : Token → Bool).
    made c at s c.labels c.scope.variables c.scope.hypotheses c.scope.apart)
    (none_more c.variables)
    ∙ ap (λ (s : Token → Bool). made c at (with_tokens c.variables []) s c.scope.variables
    c.scope.hypotheses c.scope.apart) (none_more c.labels)
    ∙ ap (λ (s : Token → Bool). made c at (with_tokens c.variables []) (with_tokens c.labels []) s
    c.scope.hypotheses c.scope.apart) (none_more c.scope.variables)
    ∙ ap (λ (hs : List Hypothesis). made c at (with_tokens c.variables []) (with_tokens c.labels [])
    (with_tokens c.scope.variables []) hs c.scope.apart)
    (sym (append-nil c.scope.hypotheses))
    ∙ ap (λ (p : Token → Token → Bool). made c at (with_tokens c.variables [])
    (with_tokens c.labels []) (with_tokens c.scope.variables []) (c.scope.hypotheses ++ [])
    p) (fun_ext (λ a. fun_ext (λ b. with_false (c.scope.apart a b))))

pub behind_variable : (c : Context) (at : ℕ) (ts : List Token) (hs : List Hypothesis)
    (ds : List (List Token)) (t : Token)
    → with_declared (inside c at ts hs ds) [] declares_variables (t ∷ [])
    ≡ inside c at (ts ++ t ∷ []) hs ds
behind_variable c at ts hs ds t =
    ap (λ (s : Token → Bool). made c at s (inside c at ts hs ds).labels
    (with_tokens (with_tokens c.scope.variables ts) (t ∷ [])) (c.scope.hypotheses ++ hs)
    (inside c at ts hs ds).scope.apart) (tokens_more c.variables ts (t ∷ []))
    ∙ ap (λ (s : Token → Bool). made c at (with_tokens c.variables (ts ++ t ∷ []))
    (inside c at ts hs ds).labels s (c.scope.hypotheses ++ hs)
    (inside c at ts hs ds).scope.apart) (tokens_more c.scope.variables ts (t ∷ []))

pub behind_hypothesis : (c : Context) (at : ℕ) (ts : List Token) (hs : List Hypothesis)
    (ds : List (List Token)) (h : Hypothesis)
    → with_hypothesis (inside c at ts hs ds) (label_of h) h ≡ inside c at ts (hs ++ h ∷ []) ds
behind_hypothesis c at ts hs ds h =
    ap (λ (s : Token → Bool). made c at (with_tokens c.variables ts) s
    (with_tokens c.scope.variables ts) ((c.scope.hypotheses ++ hs) ++ h ∷ [])
    (inside c at ts hs ds).scope.apart)
    (token_more c.labels (map label_of hs) (label_of h)
    ∙ ap (λ (ls : List Token). with_tokens c.labels ls) (sym (map-append label_of hs (h ∷ []))))
    ∙ ap (λ (gs : List Hypothesis). made c at (with_tokens c.variables ts)
    (with_tokens c.labels (map label_of (hs ++ h ∷ []))) (with_tokens c.scope.variables ts)
    gs (inside c at ts hs ds).scope.apart) (append_assoc c.scope.hypotheses hs (h ∷ []))

pub behind_separation : (c : Context) (at : ℕ) (ts : List Token) (hs : List Hypothesis)
    (ds : List (List Token)) (d : List Token)
    → with_declared (inside c at ts hs ds) [] separates d ≡ inside c at ts hs (ds ++ d ∷ [])
behind_separation c at ts hs ds d =
    ap (λ (p : Token → Token → Bool). made c at (with_tokens c.variables ts)
    (with_tokens c.labels (map label_of hs)) (with_tokens c.scope.variables ts)
    (c.scope.hypotheses ++ hs) p)
    (fun_ext (λ a. fun_ext (λ b. one a b)))
  where
    one : (a b : Token)
        → ((c.scope.apart a b || list_any (λ e. are_different_tokens e a b) ds)
        || are_different_tokens d a b)
        ≡ (c.scope.apart a b || list_any (λ e. are_different_tokens e a b) (ds ++ d ∷ []))
    one a b =
        or_assoc (c.scope.apart a b) (list_any (λ e. are_different_tokens e a b) ds)
        (are_different_tokens d a b)
        ∙ ap (λ (x : Bool).
        c.scope.apart a b || (list_any (λ e. are_different_tokens e a b) ds || x))
        (with_false (are_different_tokens d a b))
        ∙ ap (λ (x : Bool). c.scope.apart a b || x)
        (sym (list_any-append (λ e. are_different_tokens e a b) ds (d ∷ [])))

-- the assertions that written statements make, from a context and a byte on
abbrev pub asserted : Context → ℕ → List (List Token) → List Assertion
asserted c at [] = []
asserted c at (tokens ∷ sts) =
    with_assertion_first (form_assertion c (form_of tokens))
    (asserted (context_after c (statement at tokens)) (at + length (written tokens)) sts)

-- the context after statements, and the assertions that they make
pub record Left : Type 0 where
  pub context : Context
  pub assertions : List Assertion

-- statements that lead to these from any byte on
abbrev pub AddsAnywhere : Context → List (List Token) → Left → Type 0
AddsAnywhere c sts left =
    (at : ℕ) → Adds c at sts left.context × (asserted c at sts ≡ left.assertions)

-- clean tokens do not end a statement

is_other : (t u : Token) → has_dollar t ≡ false → has_dollar u ≡ true → bytes_eq t u ≡ false
is_other t u clean marked = go (bytes_eq t u) refl
  where
    go : (b : Bool) → bytes_eq t u ≡ b → bytes_eq t u ≡ false
    go false is = is
    go true is =
        absurd (false≢true (sym clean ∙ ap has_dollar ((bytes_eq-Decides t u).0 is) ∙ marked))

no_end : (t : Token) → has_dollar t ≡ false → ends_statement t ≡ false
no_end t clean = is_other t (codes "$.") clean refl

not_whole : (t : Token) → has_dollar t ≡ false → is_whole t ≡ false
not_whole t clean =
    let first : bytes_eq t (codes "${") ≡ false = is_other t (codes "${") clean refl in
    let second : bytes_eq t (codes "$}") ≡ false = is_other t (codes "$}") clean refl in
    let third : ends_statement t ≡ false = no_end t clean in
    rw (first, second, third) refl

is_clean : (t : Token) → not (has_dollar t) ≡ true → has_dollar t ≡ false
is_clean t h = go (has_dollar t) h
  where
    go : (b : Bool) → not b ≡ true → b ≡ false
    go true k = absurd (false≢true k)
    go false k = refl

pub clean_go_on : (ts : List Token) → are_clean ts ≡ true
    → list_all (λ t. not (ends_statement t)) ts ≡ true
clean_go_on [] h = refl
clean_go_on (t ∷ ts) h =
    let both : (not (has_dollar t) ≡ true) × (are_clean ts ≡ true) =
    split_true (not (has_dollar t)) (are_clean ts) h in
    both_true (not (ends_statement t)) (list_all (λ u. not (ends_statement u)) ts)
    (not_false (ends_statement t) (no_end t (is_clean t both.0))) (clean_go_on ts both.1)

keyword_goes_on : (k : Keyword) → not (ends_statement (keyword_token k)) ≡ true
keyword_goes_on declares_constants = refl
keyword_goes_on declares_variables = refl
keyword_goes_on types_variable = refl
keyword_goes_on assumes = refl
keyword_goes_on separates = refl
keyword_goes_on asserts = refl
keyword_goes_on proves = refl

keyword_not_whole : (k : Keyword) → not (is_whole (keyword_token k)) ≡ true
keyword_not_whole declares_constants = refl
keyword_not_whole declares_variables = refl
keyword_not_whole types_variable = refl
keyword_not_whole assumes = refl
keyword_not_whole separates = refl
keyword_not_whole asserts = refl
keyword_not_whole proves = refl

keyword_plain : (k : Keyword) → is_plain_token (keyword_token k) ≡ true
keyword_plain declares_constants = refl
keyword_plain declares_variables = refl
keyword_plain types_variable = refl
keyword_plain assumes = refl
keyword_plain separates = refl
keyword_plain asserts = refl
keyword_plain proves = refl

one_unlabelled : (k : Keyword) (symbol : Token) (symbols : List Token)
    → are_clean (symbol ∷ symbols) ≡ true
    → is_one_statement (plain_tokens [] k (symbol ∷ symbols)) ≡ true
one_unlabelled k symbol symbols h =
    both_true (not (is_whole (keyword_token k))) (ends_once ((symbol ∷ symbols) ++ codes "$." ∷ []))
    (keyword_not_whole k) (ends_last (symbol ∷ symbols) (clean_go_on (symbol ∷ symbols) h))

one_labelled : (l : Token) (k : Keyword) (symbol : Token) (symbols : List Token)
    → has_dollar l ≡ false → are_clean (symbol ∷ symbols) ≡ true
    → is_one_statement (plain_tokens (l ∷ []) k (symbol ∷ symbols)) ≡ true
one_labelled l k symbol symbols clean h =
    both_true (not (is_whole l))
    (ends_once ((keyword_token k ∷ (symbol ∷ symbols)) ++ codes "$." ∷ []))
    (not_false (is_whole l) (not_whole l clean))
    (ends_last (keyword_token k ∷ (symbol ∷ symbols)) (both_true
    (not (ends_statement (keyword_token k)))
    (list_all (λ t. not (ends_statement t)) (symbol ∷ symbols)) (keyword_goes_on k)
    (clean_go_on (symbol ∷ symbols) h)))

all_plain : (labels : List Token) (k : Keyword) (symbols : List Token)
    → list_all is_plain_token labels ≡ true → list_all is_plain_token symbols ≡ true
    → list_all is_plain_token (plain_tokens labels k symbols) ≡ true
all_plain labels k symbols h g =
    list_all-append is_plain_token labels (keyword_token k ∷ (symbols ++ codes "$." ∷ [])) h
    (both_true (is_plain_token (keyword_token k))
    (list_all is_plain_token (symbols ++ codes "$." ∷ [])) (keyword_plain k)
    (list_all-append is_plain_token symbols (codes "$." ∷ []) g refl))

-- the only faults of a statement without a proof are those of its declaration
plain_fine : (c : Context) (labels : List Token) (k : Keyword) (symbol : Token)
    (symbols : List Token) → has_proof k ≡ false → are_clean labels ≡ true
    → are_clean (symbol ∷ symbols) ≡ true
    → declaration_fault c (Some (plain labels k (symbol ∷ symbols) [])) ≡ None
    → HasNoFault c (plain_tokens labels k (symbol ∷ symbols))
plain_fine c labels k symbol symbols no_proof clean_labels clean well =
    let said : form_of (plain_tokens labels k (symbol ∷ symbols)) ≡ Some
    (plain labels k (symbol ∷ symbols) []) =
    plain_tokens_say labels k symbol symbols clean_labels clean no_proof in
    record {
      form = ap (form_fault c) said ∙ whole k no_proof well;
      proof =
          subst (λ (o : Option Form). IfSome (task c o) (IsProved c)) (sym said)
          (no_task k no_proof);
    }
  where
    whole : (k : Keyword) → has_proof k ≡ false
        → declaration_fault c (Some (plain labels k (symbol ∷ symbols) [])) ≡ None
        → form_fault c (Some (plain labels k (symbol ∷ symbols) [])) ≡ None
    whole declares_constants h w = ap (λ (o : Option ℕ). or_else o None) w
    whole declares_variables h w = ap (λ (o : Option ℕ). or_else o None) w
    whole types_variable h w = ap (λ (o : Option ℕ). or_else o None) w
    whole assumes h w = ap (λ (o : Option ℕ). or_else o None) w
    whole separates h w = ap (λ (o : Option ℕ). or_else o None) w
    whole asserts h w = ap (λ (o : Option ℕ). or_else o None) w
    whole proves h w = absurd (false≢true (sym h))

    no_task : (k : Keyword) → has_proof k ≡ false
        → IfSome (task c (Some (plain labels k (symbol ∷ symbols) []))) (IsProved c)
    no_task declares_constants h = tt
    no_task declares_variables h = tt
    no_task types_variable h = tt
    no_task assumes h = tt
    no_task separates h = tt
    no_task asserts h = tt
    no_task proves h = absurd (false≢true (sym h))

-- tokens that may occur in a statement
pub record AreSymbols (ts : List Token) : Type 0 where
  pub plain : list_all is_plain_token ts ≡ true
  pub clean : are_clean ts ≡ true

-- one statement that makes no assertion, and the statements after it
then_asserted : (c : Context) (at : ℕ) (tokens : List Token) (form : Form) (sts : List (List Token))
    (more : List Assertion) → form_of tokens ≡ Some form → form_assertion c (Some form) ≡ None
    → asserted (after_form c at (Some form)) (at + length (written tokens)) sts ≡ more
    → asserted c at (tokens ∷ sts) ≡ more
then_asserted c at tokens form sts more said none behind =
    ap (λ (o : Option Form). with_assertion_first (form_assertion c o)
    (asserted (after_form c at o) (at + length (written tokens)) sts)) said
    ∙ ap (λ (o : Option Assertion). with_assertion_first o
    (asserted (after_form c at (Some form)) (at + length (written tokens)) sts)) none
    ∙ behind

pub unlabelled_adds : (c : Context) (k : Keyword) (symbol : Token) (symbols : List Token)
    (sts : List (List Token)) (left : Left) → has_proof k ≡ false
    → form_assertion c (Some (plain [] k (symbol ∷ symbols) [])) ≡ None
    → AreSymbols (symbol ∷ symbols)
    → declaration_fault c (Some (plain [] k (symbol ∷ symbols) [])) ≡ None
    → AddsAnywhere (with_declared c [] k (symbol ∷ symbols)) sts left
    → AddsAnywhere c (plain_tokens [] k (symbol ∷ symbols) ∷ sts) left
unlabelled_adds c k symbol symbols sts left no_proof none w well behind at =
    let said : form_of (plain_tokens [] k (symbol ∷ symbols)) ≡ Some
    (plain [] k (symbol ∷ symbols) []) =
    plain_tokens_say [] k symbol symbols refl w.clean no_proof in (
      (
        all_plain [] k (symbol ∷ symbols) refl w.plain,
        one_unlabelled k symbol symbols w.clean,
        plain_fine c [] k symbol symbols no_proof refl w.clean well,
        subst (λ (d : Context). Adds d
            (at + length (written (plain_tokens [] k (symbol ∷ symbols)))) sts left.context)
            (sym (ap (after_form c at) said)) (behind _).0,
      ),
      then_asserted c at (plain_tokens [] k (symbol ∷ symbols)) (plain [] k (symbol ∷ symbols) [])
          sts left.assertions said none (behind _).1,
    )

pub labelled_adds : (c : Context) (l : Token) (k : Keyword) (symbol : Token) (symbols : List Token)
    (sts : List (List Token)) (left : Left) → has_proof k ≡ false
    → form_assertion c (Some (plain (l ∷ []) k (symbol ∷ symbols) [])) ≡ None → AreSymbols (l ∷ [])
    → AreSymbols (symbol ∷ symbols)
    → declaration_fault c (Some (plain (l ∷ []) k (symbol ∷ symbols) [])) ≡ None
    → AddsAnywhere (with_declared c (l ∷ []) k (symbol ∷ symbols)) sts left
    → AddsAnywhere c (plain_tokens (l ∷ []) k (symbol ∷ symbols) ∷ sts) left
labelled_adds c l k symbol symbols sts left no_proof none label w well behind at =
    let said : form_of (plain_tokens (l ∷ []) k (symbol ∷ symbols)) ≡ Some
    (plain (l ∷ []) k (symbol ∷ symbols) []) =
    plain_tokens_say (l ∷ []) k symbol symbols label.clean w.clean no_proof in (
      (
        all_plain (l ∷ []) k (symbol ∷ symbols) label.plain w.plain,
        one_labelled l k symbol symbols
            (is_clean l (split_true (not (has_dollar l)) true label.clean).0) w.clean,
        plain_fine c (l ∷ []) k symbol symbols no_proof label.clean w.clean well,
        subst (λ (d : Context). Adds d
            (at + length (written (plain_tokens (l ∷ []) k (symbol ∷ symbols)))) sts
            left.context) (sym (ap (after_form c at) said)) (behind _).0,
      ),
      then_asserted c at (plain_tokens (l ∷ []) k (symbol ∷ symbols))
          (plain (l ∷ []) k (symbol ∷ symbols) []) sts left.assertions said none (behind _).1,
    )

-- Tokens that assert these symbols under a label, as an axiom or as a theorem, and have no fault.
pub record Asserts (c : Context) (label : Token) (symbols : List Token) (proved : Bool)
    (tokens : List Token) : Type 0 where
  pub plain_ones : list_all is_plain_token tokens ≡ true
  pub one : is_one_statement tokens ≡ true
  pub fine : HasNoFault c tokens
  pub keyword : Keyword
  pub proof : List Token
  pub said : form_of tokens ≡ Some (plain (label ∷ []) keyword symbols proof)
  pub makes : keyword_assertion c (label ∷ []) symbols keyword
      ≡ Some (assertion c proved (label ∷ []) symbols)
  pub declares : with_declared c (label ∷ []) keyword symbols ≡ with_assertion c label symbols
  pub types_none : keyword_typing (label ∷ []) symbols keyword ≡ None
  pub compressed : is_compressed (form_of tokens) ≡ true

-- they type nothing
pub untyped : (c : Context) (label : Token) (symbols : List Token) (proved : Bool)
    (tokens : List Token) → Asserts c label symbols proved tokens
    → form_typing (form_of tokens) ≡ None
untyped c label symbols proved tokens w = ap form_typing w.said ∙ w.types_none

-- such an assertion has this frame, and the statements after it
pub assertion_adds : (c : Context) (label : Token) (symbols : List Token) (proved : Bool)
    (tokens : List Token) (f : Frame) (sts : List (List Token)) (left : Context)
    → Asserts c label symbols proved tokens → frame_of c.scope label symbols ≡ f
    → AddsAnywhere (with_assertion c label symbols) sts (record { context = left; assertions = [] })
    → AddsAnywhere c (tokens ∷ sts)
    (record { context = left; assertions = record { is_proved = proved; frame = f } ∷ [] })
assertion_adds c label symbols proved tokens f sts left w framed behind at =
    let after : context_after c (statement at tokens) ≡ with_assertion c label symbols =
    ap (after_form c at) w.said ∙ w.declares in
    let made_it : form_assertion c (form_of tokens) ≡ Some
    (assertion c proved (label ∷ []) symbols) =
    ap (form_assertion c) w.said ∙ w.makes in (
      (
        w.plain_ones,
        w.one,
        w.fine,
        subst (λ (d : Context). Adds d (at + length (written tokens)) sts left) (sym after)
            (behind _).0,
      ),
      ap (λ (o : Option Assertion). with_assertion_first o
          (asserted (context_after c (statement at tokens)) (at + length (written tokens)) sts))
          made_it
          ∙ ap (λ (d : Context). assertion c proved (label ∷ []) symbols
          ∷ asserted d (at + length (written tokens)) sts) after
          ∙ ap (λ (more : List Assertion). assertion c proved (label ∷ []) symbols ∷ more)
          (behind _).1
          ∙ ap (λ (g : Frame).
          let a : Assertion = record { is_proved = proved; frame = g } in a ∷ []) framed,
    )

-- `${`, statements and `$}`

pub block_opens : (c : Context) (sts : List (List Token)) (left : Left) (at : ℕ)
    → AddsAnywhere (inside c at [] [] []) sts left
    → Adds c at ((codes "${" ∷ []) ∷ sts) left.context
    × (asserted c at ((codes "${" ∷ []) ∷ sts) ≡ left.assertions)
block_opens c sts left at behind = (
  (
    refl,
    refl,
    record { form = refl; proof = tt },
    subst (λ (d : Context). Adds d (at + length (written (codes "${" ∷ []))) sts left.context)
        (sym (opened c at)) (behind _).0,
  ),
  ap (λ (d : Context). asserted d (at + length (written (codes "${" ∷ []))) sts) (opened c at)
      ∙ (behind _).1,
)

pub block_closes : (c : Context) (b : Block) (bs : List Block) → c.blocks ≡ b ∷ bs
    → AddsAnywhere c ((codes "$}" ∷ []) ∷ [])
    (record { context = with_block_closed c (b ∷ bs); assertions = [] })
block_closes c b bs running at = (
  (
    refl,
    refl,
    record { form = well; proof = tt },
    sym (ap (λ (blocks : List Block). with_block_closed c blocks) running),
  ),
  refl,
)
  where
    well : form_fault c (form_of (codes "$}" ∷ [])) ≡ None
    well = rw running refl

-- written statements are read as they are written, and so are their assertions
pub asserted_in : (c : Context) (at : ℕ) (sts : List (List Token)) (left : Context)
    → Adds c at sts left
    → assertions_in c (statements_from at (written_statements sts)) ≡ asserted c at sts
asserted_in c at [] left h = refl
asserted_in c at (tokens ∷ sts) left (plain_ones, one, fine, rest) =
    ap (assertions_in c) (written_statement at tokens (written_statements sts) plain_ones one)
    ∙ ap (λ (more : List Assertion). with_assertion_first (form_assertion c (form_of tokens)) more)
    (asserted_in (context_after c (statement at tokens)) (at + length (written tokens)) sts left
    rest)

-- the typings of written statements
abbrev pub typed : List (List Token) → List Hypothesis
typed [] = []
typed (tokens ∷ sts) = with_typing_first (form_typing (form_of tokens)) (typed sts)

-- the typings are read as they are written, too
pub typed_in : (c : Context) (at : ℕ) (sts : List (List Token)) (left : Context)
    → Adds c at sts left → typings_in (statements_from at (written_statements sts)) ≡ typed sts
typed_in c at [] left h = refl
typed_in c at (tokens ∷ sts) left (plain_ones, one, fine, rest) =
    ap typings_in (written_statement at tokens (written_statements sts) plain_ones one)
    ∙ ap (λ (more : List Hypothesis). with_typing_first (form_typing (form_of tokens)) more)
    (typed_in (context_after c (statement at tokens)) (at + length (written tokens)) sts left
    rest)

-- Statements without fault that lead to a context, make exactly this assertion and have exactly
-- these typings. Each `$p` has a compressed proof.
pub record AddsJust (c : Context) (at : ℕ) (sts : List (List Token)) (left : Context)
    (a : Assertion) (hs : List Hypothesis) : Type 0 where
  pub adds : Adds c at sts left
  pub makes : asserted c at sts ≡ a ∷ []
  pub types : typed sts ≡ hs
  pub compressed : list_all (λ ts. is_compressed (form_of ts)) sts ≡ true
