-- What declarations state: that each name has its type, and nothing else.
use Rattle.std.proofs.Common.{◌≡◌, ℕ, ◌+◌, ◌<◌, ◌^◌, Bool, true, false, List, [], ◌∷◌, ◌++◌, length}
use Rattle.std.proofs.Common.{take, drop, refl, ap, ◌∙◌, sym, subst, arith, append_assoc}
use Rattle.std.proofs.Common.{length-append, Option, Some}
use Rattle.std.specs.Prelude.{◌≤◌, count_by, suc}
use Rattle.std.proofs.lemmas.Bool.{false≢true}
use Rattle.std.proofs.Math.Nat.{zero-add}
use Rattle.mm_text.specs.Bytes.{Token}
use Rattle.mm_text.specs.Statements.{Statements, next_statement, statement, statements_from}
use Rattle.mm_text.proofs.Writing.{written_statement}
use Rattle.mm_database.specs.Forms.{Form, declares_constants, asserts, plain, form_of, has_dollar}
use Rattle.mm_database.specs.Frames.{Hypothesis, Frame, Scope, frame_of}
use Rattle.mm_database.specs.Database.{Context, after_form}
use Rattle.mm_database.specs.Assertions.{Assertion, assertions_in, assertions_of, form_assertion}
use Rattle.mm_database.specs.Assertions.{with_assertion_first, form_typing, typings_in, typings_of}
use Rattle.mm_database.specs.Assertions.{with_typing_first}
use Rattle.mm_database.specs.FrameLaws.{Adds}
use Rattle.mm_database.proofs.WrittenForms.{plain_tokens_say}
use Rattle.mm_database.proofs.Stated.{appended_states}
use Rattle.ml_pat.specs.Named.{AreDistinct, IsNoneOf}
use Rattle.rule_core.specs.Theories.{RewriteTheory}
use Rattle.ml_image.specs.Gained.{AreOwnTokens}
use Rattle.mm_proof.specs.Labels.{name_label}
use Rattle.mm_claims.specs.Statements.{typecode_of, all_name_statements}
use Rattle.mm_claims.specs.Fitting.{AreNames, name_frame, Holds}
use Rattle.mm_claims.specs.Blocks.{Claim}
use Rattle.mm_claims.specs.Claiming.{FitsClaims}
use Rattle.mm_claims.specs.Rendered.{Rendered, all_stated}
use Rattle.mm_claims.specs.Keeping.{Fits, FitsWhen}
use Rattle.mm_justify.specs.Justifying.{declaration, AreAllowed, HasOnlyAxiomsOf}
use Rattle.mm_justify.specs.JustifyingLaws.{DeclaredHasOnly}
use Rattle.mm_justify.specs.Counting.{is_fact}
use Rattle.mm_justify.specs.CountingLaws.{DeclaredCounts}
use Rattle.mm_claims.proofs.NameLaws.{NameFacts, name_facts, name_label-clean}
use Rattle.mm_claims.proofs.FittingLaws.{with_constant, with_name, IsNew, name_holds, behind_names}
use Rattle.mm_claims.proofs.FittingLaws.{adds_names, none_has, AreNames-front, AreNames-next}
use Rattle.mm_claims.proofs.FittingLaws.{take-drop, length-front, clean_one, clean_two}
use Rattle.mm_justify.proofs.Allowing.{has_only_more}
use Rattle.mm_justify.proofs.CountedTexts.{one_if, count_first, counts_more}
use Rattle.mm_justify.proofs.FactTexts.{names_unlike}
use Rattle.mm_text.specs.Written.{written}
use Rattle.mm_database.specs.StatementTexts.{plain_tokens, written_statements}

-- the `$a` of a name, and those of names with the numbers from one on
abbrev name_assertion : ℕ → Token → Assertion
name_assertion i t = record { is_proved = false; frame = name_frame i t }

abbrev name_assertions : ℕ → List Token → List Assertion
name_assertions i [] = []
name_assertions i (t ∷ ts) = name_assertion i t ∷ name_assertions (i + 1) ts

-- statements make these assertions and no typing
abbrev StatesJust : Context → Statements → List Assertion → Type 0
StatesJust c ss assertions = (assertions_in c ss ≡ assertions) × (typings_in ss ≡ [])

-- a constant and its `$a`, before other statements
name_first : (c : Context) (i at : ℕ) (t : Token) (rest : List ℕ) (assertions : List Assertion)
    → NameFacts t → has_dollar (name_label i) ≡ false → (left : Context)
    → Adds c at (all_name_statements i (t ∷ [])) left
    → frame_of c.scope (name_label i) (typecode_of t ∷ (t ∷ [])) ≡ name_frame i t
    → ((next : ℕ) → StatesJust (with_name c i t) (statements_from next rest) assertions)
    → StatesJust c (statements_from at (written (plain_tokens [] declares_constants (t ∷ []))
    ++ (written (plain_tokens (name_label i ∷ []) asserts (typecode_of t ∷ (t ∷ [])))
    ++ rest))) (name_assertion i t ∷ assertions)
name_first c i at t rest assertions facts label left adds made behind =
    let ct : List Token = plain_tokens [] declares_constants (t ∷ []) in
    let st : List Token = plain_tokens (name_label i ∷ []) asserts (typecode_of t ∷ (t ∷ [])) in
    let there : ℕ = at + length (written ct) in
    let later : ℕ = there + length (written st) in
    let first : statements_from at (written ct ++ (written st ++ rest)) ≡ next_statement
    (statement at ct) (statements_from there (written st ++ rest)) =
    written_statement at ct (written st ++ rest) adds.0 adds.1 in
    let second : statements_from there (written st ++ rest) ≡ next_statement (statement there st)
    (statements_from later rest) =
    written_statement there st rest adds.3.0 adds.3.1 in
    let declares : form_of ct ≡ Some (plain [] declares_constants (t ∷ []) []) =
    plain_tokens_say [] declares_constants t [] refl (clean_one t facts.clean) refl in
    let states : form_of st ≡ Some
    (plain (name_label i ∷ []) asserts (typecode_of t ∷ (t ∷ [])) []) =
    plain_tokens_say (name_label i ∷ []) asserts (typecode_of t) (t ∷ [])
    (clean_one (name_label i) label)
    (clean_two (typecode_of t) t facts.clean_typecode facts.clean) refl in (
      ap (assertions_in c) first
          ∙ ap (λ (o : Option Form). with_assertion_first (form_assertion c o)
          (assertions_in (after_form c at o) (statements_from there (written st ++ rest))))
          declares
          ∙ ap (assertions_in (with_constant c t)) second
          ∙ ap (λ (o : Option Form). with_assertion_first (form_assertion (with_constant c t) o)
          (assertions_in (after_form (with_constant c t) there o)
          (statements_from later rest))) states
          ∙ ap (λ (f : Frame). (let a : Assertion = record { is_proved = false; frame = f } in a)
          ∷ assertions_in (with_name c i t) (statements_from later rest)) made
          ∙ ap (λ (others : List Assertion). name_assertion i t ∷ others) (behind later).0,
      ap typings_in first
          ∙ ap (λ (o : Option Form). with_typing_first (form_typing o)
          (typings_in (statements_from there (written st ++ rest)))) declares
          ∙ ap typings_in second
          ∙ ap (λ (o : Option Form).
          with_typing_first (form_typing o) (typings_in (statements_from later rest)))
          states
          ∙ (behind later).1,
    )

declared_states : (done more : List Token) (c : Context) (at : ℕ) → Holds done c → c.blocks ≡ []
    → AreNames (done ++ more) → AreDistinct (done ++ more) → length (done ++ more) < 2 ^ 64
    → StatesJust c
    (statements_from at (written_statements (all_name_statements (length done) more)))
    (name_assertions (length done) more)
declared_states done [] c at w closed names distinct few = (refl, refl)
declared_states done (t ∷ more) c at w closed names distinct few =
    let new : IsNew done t =
    record {
      name = AreNames-next done t more names;
      other = none_has done more t distinct;
      names = AreNames-front done (t ∷ more) names;
      few = omega (arith, few, length-append done (t ∷ more));
    } in
    let facts : NameFacts t = name_facts t new.name in
    let same : (done ++ t ∷ []) ++ more ≡ done ++ t ∷ more = append_assoc done (t ∷ []) more in
    let front : AreDistinct ((done ++ t ∷ []) ++ more) = subst AreDistinct (sym same) distinct in
    let all : AreNames ((done ++ t ∷ []) ++ more) = subst AreNames (sym same) names in
    let low : length ((done ++ t ∷ []) ++ more) < 2 ^ 64 =
    subst (λ (ts : List Token). length ts < 2 ^ 64) (sym same) few in
    let count : length (done ++ t ∷ []) ≡ length done + 1 = length-append done (t ∷ []) in
    let made : frame_of c.scope (name_label (length done)) (typecode_of t ∷ (t ∷ [])) ≡ name_frame
    (length done) t =
    ap (λ (s : Scope). frame_of s (name_label (length done)) (typecode_of t ∷ (t ∷ []))) w.scope
    ∙ facts.frame (length done) in
    name_first c (length done) at t
    (written_statements (all_name_statements (length done + 1) more))
    (name_assertions (length done + 1) more) facts (name_label-clean (length done) new.few)
    (behind_names c (length done) (t ∷ []))
    (adds_names done (t ∷ []) c at w closed (AreNames-front (done ++ t ∷ []) more all)
    (AreDistinct-front (done ++ t ∷ []) more front)
    (omega (arith, low, length-append (done ++ t ∷ []) more))) made
    (λ next. subst (λ (n : ℕ). StatesJust (with_name c (length done) t)
    (statements_from next (written_statements (all_name_statements n more)))
    (name_assertions n more)) count
    (declared_states (done ++ t ∷ []) more (with_name c (length done) t) next
    (name_holds done c t w new) closed all front low))
  where
    IsNoneOf-front : (x : Token) (xs ys : List Token) → IsNoneOf x (xs ++ ys) → IsNoneOf x xs
    IsNoneOf-front x [] ys h = tt
    IsNoneOf-front x (y ∷ xs) ys h = (h.0, IsNoneOf-front x xs ys h.1)

    AreDistinct-front : (xs ys : List Token) → AreDistinct (xs ++ ys) → AreDistinct xs
    AreDistinct-front [] ys h = tt
    AreDistinct-front (x ∷ xs) ys h = (IsNoneOf-front x xs ys h.0, AreDistinct-front xs ys h.1)

names_allowed : (theory : RewriteTheory) (i : ℕ) (ts : List Token) → AreOwnTokens theory.sig ts
    → AreAllowed theory (name_assertions i ts)
names_allowed theory i [] own = tt
names_allowed theory i (t ∷ ts) own = (
  λ is. declaration t own.0
      (record { statement = refl; premises = refl; types = λ v. refl; apart = λ x y h. h }),
  names_allowed theory (i + 1) ts own.1,
)

-- a text has gained the declarations of these names
abbrev GainsNames : List ℕ → List ℕ → ℕ → List Token → Type 0
GainsNames old new i ts = (assertions_of new ≡ assertions_of old ++ name_assertions i ts)
    × (typings_of new ≡ typings_of old ++ [])

-- what a text has gained after the declarations
gained_behind : (done more : List Token) (claims : List Claim) (bytes : List ℕ)
    → FitsClaims done claims bytes → AreNames (done ++ more) → AreDistinct (done ++ more)
    → length (done ++ more) < 2 ^ 64
    → GainsNames bytes (bytes ++ written_statements (all_name_statements (length done) more))
    (length done) more
gained_behind done more claims bytes (c, leaves, w, compressed) names distinct few =
    let appended : List ℕ = written_statements (all_name_statements (length done) more) in
    let gains : (assertions_of (bytes ++ appended)
    ≡ assertions_of bytes ++ assertions_in c (statements_from (length bytes) appended)) ×
    (typings_of (bytes ++ appended)
    ≡ typings_of bytes ++ typings_in (statements_from (length bytes) appended)) =
    appended_states bytes appended c leaves.white leaves.fine in
    let states : StatesJust c (statements_from (length bytes) appended)
    (name_assertions (length done) more) =
    declared_states done more c (length bytes) w.base leaves.closed names distinct few in (
      gains.0 ∙ ap (λ (others : List Assertion). assertions_of bytes ++ others) states.0,
      gains.1 ∙ ap (λ (hs : List Hypothesis). typings_of bytes ++ hs) states.1,
    )

pub declared_behind : (theory : RewriteTheory) (done more : List Token) (claims : List Claim)
    (bytes : List ℕ) → FitsClaims done claims bytes → AreNames (done ++ more)
    → AreDistinct (done ++ more) → length (done ++ more) < 2 ^ 64 → AreOwnTokens theory.sig more
    → HasOnlyAxiomsOf theory bytes
    → HasOnlyAxiomsOf theory (bytes ++ written_statements (all_name_statements (length done) more))
declared_behind theory done more claims bytes fits names distinct few own only =
    let gains = gained_behind done more claims bytes fits names distinct few in
    has_only_more theory bytes (written_statements (all_name_statements (length done) more))
    (name_assertions (length done) more) [] only (names_allowed theory (length done) more own)
    tt gains.0 gains.1

declared_gains : (names : List Token) (k : Rendered) (bytes : List ℕ) → AreNames names
    → AreDistinct names → length names < 2 ^ 64 → k.begun ≡ true → k.named ≤ length names
    → Fits names k bytes
    → GainsNames bytes
    (bytes ++ written_statements (all_name_statements k.named (drop k.named names))) k.named
    (drop k.named names)
declared_gains names k bytes each distinct few begun within fits = go k.begun begun fits
  where
    go : (b : Bool) → b ≡ true → FitsWhen b (take k.named names) k.count (all_stated k) bytes
        → GainsNames bytes
        (bytes ++ written_statements (all_name_statements k.named (drop k.named names))) k.named
        (drop k.named names)
    go false never fit = absurd (false≢true never)
    go true is fit =
        let whole : take k.named names ++ drop k.named names ≡ names = take-drop k.named names in
        subst (λ (n : ℕ). GainsNames bytes
        (bytes ++ written_statements (all_name_statements n (drop k.named names))) n
        (drop k.named names)) (length-front k.named names within)
        (gained_behind (take k.named names) (drop k.named names) fit.claims bytes fit.fits
        (subst AreNames (sym whole) each) (subst AreDistinct (sym whole) distinct)
        (subst (λ (ts : List Token). length ts < 2 ^ 64) (sym whole) few))

pub declared_has_only : DeclaredHasOnly
declared_has_only theory names k bytes each distinct few begun within own fits only =
    let gains = declared_gains names k bytes each distinct few begun within fits in
    has_only_more theory bytes
    (written_statements (all_name_statements k.named (drop k.named names)))
    (name_assertions k.named (drop k.named names)) [] only
    (names_allowed theory k.named (drop k.named names) own) tt
    gains.0 gains.1

-- ---- how many they are

names_length : (i : ℕ) (ts : List Token) → length (name_assertions i ts) ≡ length ts
names_length i [] = refl
names_length i (t ∷ ts) = ap suc (names_length (i + 1) ts)

names_no_facts : (i : ℕ) (ts : List Token) → count_by is_fact (name_assertions i ts) ≡ 0
names_no_facts i [] = refl
names_no_facts i (t ∷ ts) = count_first is_fact (name_assertion i t) (name_assertions (i + 1) ts)
    ∙ ap (λ (b : Bool). one_if b + count_by is_fact (name_assertions (i + 1) ts))
    (names_unlike t)
    ∙ zero-add (count_by is_fact (name_assertions (i + 1) ts)) ∙ names_no_facts (i + 1) ts

pub declared_counts : DeclaredCounts
declared_counts names k bytes each distinct few begun within fits =
    let more : List Token = drop k.named names in
    let gains = declared_gains names k bytes each distinct few begun within fits in
    counts_more bytes (bytes ++ written_statements (all_name_statements k.named more))
    (name_assertions k.named more) 0 (length more) gains.0 (names_no_facts k.named more)
    (names_length k.named more)
