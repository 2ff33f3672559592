-- What is true after the declarations of names.
use Rattle.std.proofs.Common.{◌≡◌, ℕ, ◌+◌, ◌<◌, ◌≤◌, ◌^◌, Bool, true, false, List, [], ◌∷◌, ◌++◌}
use Rattle.std.proofs.Common.{length, take, drop, zero, suc, refl, ap, ◌∙◌, sym, subst, arith}
use Rattle.std.proofs.Common.{append_assoc, append-nil, length-append, ◌⊎◌, inl, inr, Option, Some}
use Rattle.std.proofs.Common.{None}
use Rattle.std.specs.Prelude.{◌||◌, not, bytes_eq, IfSome}
use Rattle.std.specs.List.{list_all}
use Rattle.std.proofs.lemmas.Bool.{false≢true}
use Rattle.std.proofs.lemmas.Slice.Eq.{bytes_eq-Decides}
use Rattle.mm_text.specs.Bytes.{Token, has_token}
use Rattle.mm_text.specs.Statements.{statement, ends_statement}
use Rattle.mm_database.specs.Forms.{Form, declares_constants, asserts, plain, form_of, has_dollar}
use Rattle.mm_database.specs.Frames.{Frame, frame_of}
use Rattle.mm_database.specs.Database.{Context, context_after, after_form, with_declared}
use Rattle.mm_database.specs.Validity.{IsProved, task, form_fault, is_new_label, HasNoFault}
use Rattle.mm_database.specs.FrameLaws.{Adds}
use Rattle.mm_database.specs.Writing.{MayBeStated}
use Rattle.mm_database.proofs.WrittenForms.{plain_tokens_say}
use Rattle.mm_database.proofs.Continued.{axiom_is_fine}
use Rattle.mm_header.specs.Header.{header_rows}
use Rattle.mm_header.specs.HeaderContext.{header_context, header_labels}
use Rattle.ml_pat.specs.Named.{AreDistinct, IsNoneOf}
use Rattle.mm_proof.specs.Labels.{name_label}
use Rattle.mm_proof.specs.Tokens.{name_of}
use Rattle.mm_claims.specs.Statements.{IsName, sort_name, symbol_name, value_name, kind_front}
use Rattle.mm_claims.specs.Statements.{NameKind, typecode_of, name_statements, all_name_statements}
use Rattle.mm_claims.specs.Fitting.{AreNames, name_frame, Holds}
use Rattle.mm_claims.proofs.NameLaws.{NameFacts, name_facts, name_label-is_label, name_label-plain}
use Rattle.mm_claims.proofs.NameLaws.{name_label-clean, name_label-differs, no_label_among}
use Rattle.mm_claims.proofs.BoolLaws.{with_false, either_true, both_false, if_false, if_true}
use Rattle.mm_text.specs.Written.{written}
use Rattle.mm_text.specs.PlainTokens.{is_plain_token, is_one_statement}
use Rattle.mm_database.specs.StatementTexts.{plain_tokens}

header_no_label : (t : Token) → IsName t → header_context.labels t ≡ false
unfolding header_context header_rows header_labels
header_no_label t w = go w.kind w.is
  where
    go : (k : NameKind) → t ≡ kind_front k ++ w.rest → header_context.labels t ≡ false
    go sort_name is = subst (λ (u : Token). header_context.labels u ≡ false) (sym is) refl
    go symbol_name is = subst (λ (u : Token). header_context.labels u ≡ false) (sym is) refl
    go value_name is = subst (λ (u : Token). header_context.labels u ≡ false) (sym is) refl

header_free : (i : ℕ) → header_context.labels (name_label i) ≡ false
unfolding header_context header_rows header_labels
header_free i = refl

pub header_closed : header_context.blocks ≡ []
unfolding header_context
header_closed = refl

pub header_holds : Holds [] header_context
header_holds = record {
  rows = λ label f h. h;
  scope = refl;
  variables = λ t h. refl;
  constants = λ t. with_false (header_context.constants t);
  frames = λ i lt. absurd (omega (arith, lt));
  free = λ i le lt. header_free i;
  no_label = header_no_label;
}

-- one declaration

-- the context after a constant and its `$a`
abbrev pub with_constant : Context → Token → Context
with_constant c t = with_declared c [] declares_constants (t ∷ [])

abbrev pub with_name : Context → ℕ → Token → Context
with_name c i t =
    with_declared (with_constant c t) (name_label i ∷ []) asserts (typecode_of t ∷ (t ∷ []))

pub clean_one : (t : Token) → has_dollar t ≡ false
    → list_all (λ u. not (has_dollar u)) (t ∷ []) ≡ true
clean_one t h = rw h refl

pub clean_two : (t u : Token) → has_dollar t ≡ false → has_dollar u ≡ false
    → list_all (λ v. not (has_dollar v)) (t ∷ (u ∷ [])) ≡ true
clean_two t u h k = rw (h, k) refl

-- a new constant may be declared
constant_is_fine : (c : Context) (t : Token) → c.blocks ≡ [] → c.constants t ≡ false
    → c.variables t ≡ false → c.labels t ≡ false → has_dollar t ≡ false
    → HasNoFault c (plain_tokens [] declares_constants (t ∷ []))
constant_is_fine c t closed constants variables labels clean =
    let said : form_of (plain_tokens [] declares_constants (t ∷ [])) ≡ Some
    (plain [] declares_constants (t ∷ []) []) =
    plain_tokens_say [] declares_constants t [] refl (clean_one t clean) refl in
    let well : form_fault c (Some (plain [] declares_constants (t ∷ []) [])) ≡ None =
    rw (closed, constants, variables, labels) refl in
    record {
      form = ap (form_fault c) said ∙ well;
      proof = subst (λ (o : Option Form). IfSome (task c o) (IsProved c)) (sym said) tt;
    }

behind_constant : (c : Context) (at : ℕ) (t : Token) → has_dollar t ≡ false
    → context_after c (statement at (plain_tokens [] declares_constants (t ∷ [])))
    ≡ with_constant c t
behind_constant c at t clean =
    ap (after_form c at) (plain_tokens_say [] declares_constants t [] refl (clean_one t clean) refl)

behind_axiom : (c : Context) (at : ℕ) (label t u : Token) → has_dollar label ≡ false
    → has_dollar t ≡ false → has_dollar u ≡ false
    → context_after c (statement at (plain_tokens (label ∷ []) asserts (t ∷ (u ∷ []))))
    ≡ with_declared c (label ∷ []) asserts (t ∷ (u ∷ []))
behind_axiom c at label t u cl ct cu =
    ap (after_form c at) (plain_tokens_say (label ∷ []) asserts t (u ∷ []) (clean_one label cl)
    (clean_two t u ct cu) refl)

one_constant : (t : Token) → ends_statement t ≡ false
    → is_one_statement (plain_tokens [] declares_constants (t ∷ [])) ≡ true
one_constant t h = rw h refl

one_axiom : (i : ℕ) (t u : Token) → ends_statement t ≡ false → ends_statement u ≡ false
    → is_one_statement (plain_tokens (name_label i ∷ []) asserts (t ∷ (u ∷ []))) ≡ true
one_axiom i t u h k = rw (h, k) refl

plain_three : (t : Token) → is_plain_token t ≡ true
    → list_all is_plain_token (plain_tokens [] declares_constants (t ∷ [])) ≡ true
plain_three t h = rw h refl

plain_five : (l t u : Token) → is_plain_token l ≡ true → is_plain_token t ≡ true
    → is_plain_token u ≡ true
    → list_all is_plain_token (plain_tokens (l ∷ []) asserts (t ∷ (u ∷ []))) ≡ true
plain_five l t u h k m = rw (h, k, m) refl

has_token-append : (xs ys : List Token) (t : Token)
    → has_token (xs ++ ys) t ≡ (has_token xs t || has_token ys t)
has_token-append [] ys t = refl
has_token-append (x ∷ xs) ys t = ap (λ (b : Bool). bytes_eq x t || b) (has_token-append xs ys t)
    ∙ or_assoc (bytes_eq x t) (has_token xs t) (has_token ys t)
  where
    or_assoc : (a b c : Bool) → (a || (b || c)) ≡ ((a || b) || c)
    or_assoc true b c = refl
    or_assoc false b c = refl

pub name_of-front : (xs ys : List Token) (i : ℕ) → i < length xs
    → name_of (xs ++ ys) i ≡ name_of xs i
name_of-front [] ys i lt = absurd (omega (arith, lt))
name_of-front (x ∷ xs) ys zero lt = refl
name_of-front (x ∷ xs) ys (suc i) lt = name_of-front xs ys i (omega (arith, lt))

name_of-next : (xs : List Token) (t : Token) → name_of (xs ++ t ∷ []) (length xs) ≡ t
name_of-next [] t = refl
name_of-next (x ∷ xs) t = name_of-next xs t

-- what the statements of a new name need
pub record IsNew (done : List Token) (t : Token) : Type 0 where
  pub name : IsName t
  pub other : has_token done t ≡ false
  pub names : AreNames done
  pub few : length done < 2 ^ 64

-- the label of a name is neither a constant nor a variable
label_no_constant : (done : List Token) (c : Context) (i : ℕ) → Holds done c → AreNames done
    → header_context.constants (name_label i) ≡ false → c.constants (name_label i) ≡ false
label_no_constant done c i w names h = w.constants (name_label i)
    ∙ both_false (header_context.constants (name_label i)) (has_token done (name_label i)) h
    (no_label_among done i names)

header_label_constant : (i : ℕ) → header_context.constants (name_label i) ≡ false
unfolding header_context
header_label_constant i = refl

header_label_variable : (i : ℕ) → header_context.variables (name_label i) ≡ false
unfolding header_context
header_label_variable i = refl

may_be_stated : (done : List Token) (c : Context) (t : Token) → Holds done c → IsNew done t
    → MayBeStated (with_constant c t) (name_label (length done)) (typecode_of t) (t ∷ [])
may_be_stated done c t w new =
    let facts : NameFacts t = name_facts t new.name in
    let i : ℕ = length done in
    let label : is_new_label (with_constant c t) (name_label (length done)) ≡ true =
    rw (
      name_label-is_label (length done) new.few,
      w.free (length done) (omega arith) new.few,
      label_no_constant done c (length done) w new.names
          (header_label_constant (length done)),
      facts.no_label (length done),
      w.variables (name_label (length done)) refl,
      header_label_variable (length done),
    )
    refl in
    let typecode : c.constants (typecode_of t) ≡ true =
    w.constants (typecode_of t)
    ∙ either_true (header_context.constants (typecode_of t))
    (has_token done (typecode_of t)) facts.typecode in
    let itself : bytes_eq t t ≡ true = (bytes_eq-Decides t t).1 refl in
    let other : c.constants t ≡ false =
    w.constants t
    ∙ both_false (header_context.constants t) (has_token done t) facts.no_constant
    new.other in
    record {
      new = label;
      constant = rw typecode refl;
      typed = rw (typecode, other, itself) refl;
      clean_label = clean_one (name_label (length done)) (name_label-clean (length done) new.few);
      clean = clean_two (typecode_of t) t facts.clean_typecode facts.clean;
    }

adds_name : (done : List Token) (c : Context) (at : ℕ) (t : Token) (sts : List (List Token))
    (left : Context) → Holds done c → c.blocks ≡ [] → IsNew done t
    → ((at' : ℕ) → Adds (with_name c (length done) t) at' sts left)
    → Adds c at (name_statements (length done) t ++ sts) left
adds_name done c at t sts left w closed new behind =
    let facts : NameFacts t = name_facts t new.name in
    let other : c.constants t ≡ false =
    w.constants t
    ∙ both_false (header_context.constants t) (has_token done t) facts.no_constant
    new.other in
    let variable : c.variables t ≡ false =
    w.variables t facts.no_variable_token ∙ facts.no_variable in
    let first : HasNoFault c (plain_tokens [] declares_constants (t ∷ [])) =
    constant_is_fine c t closed other variable (w.no_label t new.name) facts.clean in
    let second : HasNoFault (with_constant c t)
    (plain_tokens (name_label (length done) ∷ []) asserts (typecode_of t ∷ (t ∷ []))) =
    axiom_is_fine (with_constant c t) (name_label (length done)) (typecode_of t) (t ∷ [])
    (may_be_stated done c t w new) in (
      plain_three t facts.plain,
      one_constant t facts.no_end,
      first,
      subst (λ (d : Context). Adds d
          (at + length (written (plain_tokens [] declares_constants (t ∷ []))))
          (plain_tokens (name_label (length done) ∷ []) asserts (typecode_of t ∷ (t ∷ []))
          ∷ sts) left) (sym (behind_constant c at t facts.clean)) (
            plain_five (name_label (length done)) (typecode_of t) t
                (name_label-plain (length done) new.few) facts.plain_typecode facts.plain,
            one_axiom (length done) (typecode_of t) t facts.no_end_typecode facts.no_end,
            second,
            subst (λ (d : Context). Adds d (at
                + length (written (plain_tokens [] declares_constants (t ∷ [])))
                + length (written (plain_tokens (name_label (length done) ∷ []) asserts
                (typecode_of t ∷ (t ∷ []))))) sts left)
                (sym (behind_axiom (with_constant c
                t) (at
                + length (written (plain_tokens [] declares_constants (t ∷ [])))) (name_label
                (length done)) (typecode_of t) t (name_label-clean (length done)
                new.few) facts.clean_typecode facts.clean))
                (behind _),
          ),
    )

-- what is true after a declaration

header_no_row : (i : ℕ) → header_context.frames (name_label i) ≡ None
unfolding header_context header_rows
header_no_row i = refl

row_is_other : (label : Token) (f : Frame) (i : ℕ) → header_context.frames label ≡ Some f
    → bytes_eq label (name_label i) ≡ false
row_is_other label f i h = go (bytes_eq label (name_label i)) refl
  where
    go : (b : Bool) → bytes_eq label (name_label i) ≡ b → bytes_eq label (name_label i) ≡ false
    go true is =
        let same : label ≡ name_label i = (bytes_eq-Decides label (name_label i)).0 is in
        let no : Some f ≡ None = sym h ∙ ap header_context.frames same ∙ header_no_row i in
        absurd (cc)
    go false is = is

below_or_last : (i n : ℕ) → i < n + 1 → (i < n) ⊎ (i ≡ n)
below_or_last i n lt = grind (arith, lt)

pub name_holds : (done : List Token) (c : Context) (t : Token) → Holds done c → IsNew done t
    → Holds (done ++ t ∷ []) (with_name c (length done) t)
name_holds done c t w new = record {
  rows =
      λ label f h. if_false (bytes_eq label (name_label (length done))) _ (c.frames label)
      (row_is_other label f (length done) h) ∙ w.rows label f h;
  scope = w.scope;
  variables = w.variables;
  constants =
      λ u. ap (λ (b : Bool). b || has_token (t ∷ []) u) (w.constants u)
      ∙ or_three (header_context.constants u) (has_token done u) (has_token (t ∷ []) u)
      ∙ ap (λ (b : Bool). header_context.constants u || b)
      (sym (has_token-append done (t ∷ []) u));
  frames =
      λ i lt. frame_at i
      (below_or_last i (length done) (omega (arith, lt, length-append done (t ∷ []))));
  free =
      λ i le lt. both_false (c.labels (name_label i))
      (bytes_eq (name_label i) (name_label (length done)))
      (w.free i (omega (arith, le, length-append done (t ∷ []))) lt)
      (name_label-differs i (length done) lt new.few
      (λ same. absurd (omega (arith, le, same, length-append done (t ∷ [])))));
  no_label =
      λ u h. both_false (c.labels u) (bytes_eq u (name_label (length done))) (w.no_label u h)
      ((name_facts u h).no_label (length done));
}
  where
    or_three : (a b d : Bool) → ((a || b) || d) ≡ (a || (b || d))
    or_three true b d = refl
    or_three false b d = refl

    made : frame_of c.scope (name_label (length done)) (typecode_of t ∷ (t ∷ []))
        ≡ name_frame (length done) t
    made =
        ap (λ scope. frame_of scope (name_label (length done)) (typecode_of t ∷ (t ∷ []))) w.scope
        ∙ (name_facts t new.name).frame (length done)

    frame_at : (i : ℕ) → (i < length done) ⊎ (i ≡ length done)
        → (with_name c (length done) t).frames (name_label i)
        ≡ Some (name_frame i (name_of (done ++ t ∷ []) i))
    frame_at i (inl lt) =
        if_false (bytes_eq (name_label i) (name_label (length done))) _ (c.frames (name_label i))
        (name_label-differs i (length done) (omega (arith, lt, new.few)) new.few
        (λ same. absurd (omega (arith, lt, same))))
        ∙ w.frames i lt
        ∙ ap (λ (u : Token). Some (name_frame i u)) (sym (name_of-front done (t ∷ []) i lt))
    frame_at i (inr same) =
        subst (λ (j : ℕ). (with_name c (length done) t).frames (name_label j)
        ≡ Some (name_frame j (name_of (done ++ t ∷ []) j))) (sym same)
        (if_true (bytes_eq (name_label (length done)) (name_label (length done))) _ _
        ((bytes_eq-Decides (name_label (length done)) (name_label (length done))).1 refl)
        ∙ ap Some made
        ∙ ap (λ (u : Token). Some (name_frame (length done) u)) (sym (name_of-next done t)))

-- all declarations

pub none_has : (done more : List Token) (t : Token) → AreDistinct (done ++ t ∷ more)
    → has_token done t ≡ false
none_has [] more t h = refl
none_has (x ∷ done) more t h =
    let here : bytes_eq x t ≡ false = other x (done ++ t ∷ more) h.0 (is_there done) in
    rw here (none_has done more t h.1)
  where
    -- a token is among the others
    is_there : (xs : List Token) → has_token (xs ++ t ∷ more) t ≡ true
    is_there [] = either_true (bytes_eq t t) (has_token more t) ((bytes_eq-Decides t t).1 refl)
    is_there (y ∷ xs) = second (bytes_eq y t) (has_token (xs ++ t ∷ more) t) (is_there xs)
      where
        second : (a b : Bool) → b ≡ true → (a || b) ≡ true
        second true b k = refl
        second false b k = k

    other : (x : Token) (ys : List Token) → IsNoneOf x ys → has_token ys t ≡ true
        → bytes_eq x t ≡ false
    other x [] none there = absurd (false≢true there)
    other x (y ∷ ys) none there =
        go (bytes_eq x t) refl (bytes_eq y t) refl there (other x ys none.1)
      where
        go : (a : Bool) → bytes_eq x t ≡ a → (b : Bool) → bytes_eq y t ≡ b
            → (b || has_token ys t) ≡ true → (has_token ys t ≡ true → bytes_eq x t ≡ false)
            → bytes_eq x t ≡ false
        go false is b found there behind = is
        go true is true found there behind =
            absurd (none.0 ((bytes_eq-Decides x t).0 is ∙ sym ((bytes_eq-Decides y t).0 found)))
        go true is false found there behind = behind there

pub AreNames-front : (xs ys : List Token) → AreNames (xs ++ ys) → AreNames xs
AreNames-front [] ys h = tt
AreNames-front (x ∷ xs) ys h = (h.0, AreNames-front xs ys h.1)

pub AreNames-next : (xs : List Token) (t : Token) (ys : List Token) → AreNames (xs ++ t ∷ ys)
    → IsName t
AreNames-next [] t ys h = h.0
AreNames-next (x ∷ xs) t ys h = AreNames-next xs t ys h.1

-- the context after the declarations of some names
abbrev pub behind_names : Context → ℕ → List Token → Context
behind_names c i [] = c
behind_names c i (t ∷ ts) = behind_names (with_name c i t) (i + 1) ts

pub closed_names : (c : Context) (i : ℕ) (ts : List Token) → (behind_names c i ts).blocks ≡ c.blocks
closed_names c i [] = refl
closed_names c i (t ∷ ts) = closed_names (with_name c i t) (i + 1) ts

pub names_hold : (done more : List Token) (c : Context) → Holds done c → AreNames (done ++ more)
    → AreDistinct (done ++ more) → length (done ++ more) < 2 ^ 64
    → Holds (done ++ more) (behind_names c (length done) more)
names_hold done [] c w names distinct few =
    subst (λ (ts : List Token). Holds ts c) (sym (append-nil done)) w
names_hold done (t ∷ more) c w names distinct few =
    let new : IsNew done t =
    record {
      name = AreNames-next done t more names;
      other = none_has done more t distinct;
      names = AreNames-front done (t ∷ more) names;
      few = omega (arith, few, length-append done (t ∷ more));
    } in
    let same : (done ++ t ∷ []) ++ more ≡ done ++ t ∷ more = append_assoc done (t ∷ []) more in
    let count : length (done ++ t ∷ []) ≡ length done + 1 = length-append done (t ∷ []) in
    let rest : Holds ((done ++ t ∷ []) ++ more)
    (behind_names (with_name c (length done) t) (length (done ++ t ∷ [])) more) =
    names_hold (done ++ t ∷ []) more (with_name c (length done) t) (name_holds done c t w new)
    (subst AreNames (sym same) names) (subst AreDistinct (sym same) distinct)
    (subst (λ (ts : List Token). length ts < 2 ^ 64) (sym same) few) in
    subst (λ (ts : List Token).
    Holds ts (behind_names (with_name c (length done) t) (length done + 1) more)) same
    (subst (λ (n : ℕ). Holds ((done ++ t ∷ []) ++ more)
    (behind_names (with_name c (length done) t) n more)) count rest)

pub adds_names : (done more : List Token) (c : Context) (at : ℕ) → Holds done c → c.blocks ≡ []
    → AreNames (done ++ more) → AreDistinct (done ++ more) → length (done ++ more) < 2 ^ 64
    → Adds c at (all_name_statements (length done) more) (behind_names c (length done) more)
adds_names done [] c at w closed names distinct few = refl
adds_names done (t ∷ more) c at w closed names distinct few =
    let new : IsNew done t =
    record {
      name = AreNames-next done t more names;
      other = none_has done more t distinct;
      names = AreNames-front done (t ∷ more) names;
      few = omega (arith, few, length-append done (t ∷ more));
    } in
    let same : (done ++ t ∷ []) ++ more ≡ done ++ t ∷ more = append_assoc done (t ∷ []) more in
    let count : length (done ++ t ∷ []) ≡ length done + 1 = length-append done (t ∷ []) in
    adds_name done c at t (all_name_statements (length done + 1) more)
    (behind_names (with_name c (length done) t) (length done + 1) more) w closed new
    (λ at'. subst (λ (n : ℕ). Adds (with_name c (length done) t) at' (all_name_statements n more)
    (behind_names (with_name c (length done) t) n more)) count
    (adds_names (done ++ t ∷ []) more (with_name c (length done) t) at' (name_holds done c t w new)
    closed (subst AreNames (sym same) names) (subst AreDistinct (sym same) distinct)
    (subst (λ (ts : List Token). length ts < 2 ^ 64) (sym same) few)))

pub take-all : (ts : List Token) → take (length ts) ts ≡ ts
take-all [] = refl
take-all (t ∷ ts) = ap (λ us. t ∷ us) (take-all ts)

pub take-drop : (n : ℕ) (ts : List Token) → take n ts ++ drop n ts ≡ ts
take-drop zero ts = refl
take-drop (suc n) [] = refl
take-drop (suc n) (t ∷ ts) = ap (λ us. t ∷ us) (take-drop n ts)

pub length-front : (n : ℕ) (ts : List Token) → n ≤ length ts → length (take n ts) ≡ n
length-front zero ts h = refl
length-front (suc n) [] h = absurd (omega (arith, h))
length-front (suc n) (t ∷ ts) h = ap suc (length-front n ts (omega (arith, h)))
