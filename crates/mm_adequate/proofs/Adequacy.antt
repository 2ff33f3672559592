-- What a database justifies has a derivation.
use Rattle.std.proofs.Common.{◌≡◌, ℕ, true, List, [], ◌∷◌, ◌++◌, refl}
use Rattle.std.proofs.Common.{sym, ap, ◌∙◌, subst, append-nil, arith, zero, suc}
use Rattle.std.specs.Prelude.{All, Contains, codes}
use Rattle.mm_text.specs.Bytes.{Token}
use Rattle.mm_database.specs.Frames.{Frame}
use Rattle.mm_database.specs.Assertions.{Assertion, assertions_of}
use Rattle.ml_pat.specs.Patterns.{Pattern, nullary, unary, binary, sorted, quantified, var, meta}
use Rattle.ml_pat.specs.Patterns.{constant, imp, ev}
use Rattle.ml_pat.specs.Judgements.{absent}
use Rattle.ml_pat.specs.Leaves.{EachLeaf}
use Rattle.ml_kernel.specs.Derivability.{Derives}
use Rattle.ml_kernel.specs.Renamings.{renamed}
use Rattle.term_core.specs.Patterns.{Pattern as RulePattern}
use Rattle.rule_core.specs.Theories.{RewriteTheory}
use Rattle.rule_core.specs.WellSorted.{IsWellSorted}
use Rattle.mm_proof.specs.Tokens.{name_of, pattern_tokens}
use Rattle.mm_readings.specs.Letters.{Letter, letter_of, word_letter, says_holds}
use Rattle.mm_readings.specs.Pieces.{word_piece, pattern_piece, spell}
use Rattle.mm_readings.specs.Readings.{Reading, put, has_object, AllHold, IsFit, IsSound}
use Rattle.mm_readings.proofs.Dummies.{not_both}
use Rattle.mm_readings.proofs.Meanings.{says}
use Rattle.mm_readings.proofs.Objects.{no_object}
use Rattle.mm_readings.proofs.RowReadings.{rows_sound}
use Rattle.mm_readings.proofs.RowTokens.{fixed_letter}
use Rattle.mm_justify.specs.Stating.{fronts, IsName, typecode_of, closed_over, holds_text}
use Rattle.mm_justify.specs.Justifying.{header_row, declaration, assumption_of}
use Rattle.mm_justify.specs.Justifying.{Justifies, JustifiesRun}
use Rattle.mm_justify.proofs.ImageLeaves.{is_sort_token, is_constant_token, sentence_leaves}
use Rattle.mm_adequate.specs.Assuming.{numbered, IsNumberedImage, IsAssumedPattern, AssumesClosed}
use Rattle.mm_adequate.specs.Assuming.{HasFewVariables}
use Rattle.mm_adequate.proofs.OwnAxioms.{assumes_closed}
use Rattle.mm_adequate.proofs.Allowed.{allowed_sound, row_gives}
use Rattle.mm_adequate.proofs.Databases.{AxiomsSound, AreSound, database_sound}
use Rattle.mm_adequate.proofs.Spelling.{named_leaves, ReadsNames, spells}
use Rattle.mm_adequate.proofs.Assumptions.{own_token_sound, objects_give, image_sound}
use Rattle.mm_adequate.proofs.Assumptions.{sort_letter_of, constant_letter_of}

-- ---- the axioms of a program

pub axioms_sound : (theory : RewriteTheory) (number : Token → ℕ) → AssumesClosed theory
    → AxiomsSound theory (IsAssumedPattern theory number) number
axioms_sound theory number closed f (header_row r other there row says_less) =
    allowed_sound (IsAssumedPattern theory number) number f other (row_gives r other row) says_less
    (rows_sound (IsAssumedPattern theory number) number r other there row)
axioms_sound theory number closed f (declaration token own says_less) =
    allowed_sound (IsAssumedPattern theory number) number f _ tt says_less
    (own_token_sound (IsAssumedPattern theory number) number theory.sig token own)
axioms_sound theory number closed f (assumption_of names s p assumed image_is says_less) =
    allowed_sound (IsAssumedPattern theory number) number f _ (objects_give names p) says_less
    (image_sound (IsAssumedPattern theory number) number names p (record {
      names = names;
      sentence = s;
      image = p;
      assumed = assumed;
      image_is = image_is;
      is = refl;
    }) (λ x. closed.closed s names p x assumed image_is) (closed.few s names p assumed image_is)
    (sentence_leaves theory.sig names (named_leaves names)
    (record { sorts = λ n k t. t; constants = λ n k t. t }) (λ x. tt) s p image_is))

-- ---- the last statement

-- the token of a name is that of a sort or of a constant, by its typecode
named_sort : (t : Token) → IsName t → typecode_of t ≡ codes "#Sort" → is_sort_token t ≡ true
named_sort t name h = go name.is_front
  where
    differ : codes "#Pattern" ≡ codes "#Sort" → ⊥
    differ e = cc

    go : Contains fronts name.front → is_sort_token t ≡ true
    go (zero, lt, at) =
        subst (λ (u : Token). is_sort_token u ≡ true)
        (sym (name.is ∙ ap (λ (f : Token). f ++ name.rest) (sym at))) refl
    go (suc zero, lt, at) =
        absurd (differ (subst (λ (u : Token). typecode_of u ≡ codes "#Sort")
        (name.is ∙ ap (λ (f : Token). f ++ name.rest) (sym at)) h))
    go (suc (suc zero), lt, at) =
        absurd (differ (subst (λ (u : Token). typecode_of u ≡ codes "#Sort")
        (name.is ∙ ap (λ (f : Token). f ++ name.rest) (sym at)) h))
    go (suc (suc (suc k)), lt, at) = absurd (omega (arith, lt))

named_constant : (t : Token) → IsName t → typecode_of t ≡ codes "#Pattern"
    → is_constant_token t ≡ true
named_constant t name h = go name.is_front
  where
    differ : codes "#Sort" ≡ codes "#Pattern" → ⊥
    differ e = cc

    go : Contains fronts name.front → is_constant_token t ≡ true
    go (zero, lt, at) =
        absurd (differ (subst (λ (u : Token). typecode_of u ≡ codes "#Pattern")
        (name.is ∙ ap (λ (f : Token). f ++ name.rest) (sym at)) h))
    go (suc zero, lt, at) =
        subst (λ (u : Token). is_constant_token u ≡ true)
        (sym (name.is ∙ ap (λ (f : Token). f ++ name.rest) (sym at))) refl
    go (suc (suc zero), lt, at) =
        subst (λ (u : Token). is_constant_token u ≡ true)
        (sym (name.is ∙ ap (λ (f : Token). f ++ name.rest) (sym at))) refl
    go (suc (suc (suc k)), lt, at) = absurd (omega (arith, lt))

closed_named : (names : List Token) → All IsName names → (p : Pattern)
    → EachLeaf (closed_over names) p → EachLeaf (named_leaves names) p
closed_named names each (nullary c) h = tt
closed_named names each (unary c p) h = closed_named names each p h
closed_named names each (binary c p q) h =
    (closed_named names each p h.0, closed_named names each q h.1)
closed_named names each (sorted c p s) h =
    (closed_named names each p h.0, named_sort (name_of names s) (each s [] h.1.0) h.1.1)
closed_named names each (quantified c x s p) h = absurd h.1.0
closed_named names each (var x) h = absurd h
closed_named names each (meta i) h = absurd h
closed_named names each (constant c) h = named_constant (name_of names c) (each c [] h.0) h.1

-- and no variable occurs in it
closed_absent : (names : List Token) (p : Pattern) → EachLeaf (closed_over names) p → (x : ℕ)
    → absent x p ≡ true
closed_absent names (nullary c) h x = refl
closed_absent names (unary c p) h x = closed_absent names p h x
closed_absent names (binary c p q) h x =
    rw (closed_absent names p h.0 x, closed_absent names q h.1 x) refl
closed_absent names (sorted c p s) h x = closed_absent names p h.0 x
closed_absent names (quantified c y s p) h x = absurd h.1.0
closed_absent names (var y) h x = absurd h
closed_absent names (meta i) h x = absurd h
closed_absent names (constant c) h x = refl

renamed_same : (p : Pattern) → renamed (λ x. x) p ≡ p
renamed_same (nullary c) = refl
renamed_same (unary c p) = ap (unary c) (renamed_same p)
renamed_same (binary c p q) = rw (renamed_same p, renamed_same q) refl
renamed_same (sorted c p s) = ap (λ (q : Pattern). sorted c q s) (renamed_same p)
renamed_same (quantified c x s p) = ap (quantified c x s) (renamed_same p)
renamed_same (var x) = refl
renamed_same (meta i) = refl
renamed_same (constant c) = refl

-- without hypotheses the reading by letters is fit
abbrev by_letters : (Token → ℕ) → Reading
by_letters number t = letter_of number t ∷ []

letters_fit : (A : Pattern → Type 0) (number : Token → ℕ) (f : Frame) → f.hypotheses ≡ []
    → IsFit A number f (by_letters number)
letters_fit A number f none = record {
  constants = λ t h. refl;
  hypotheses = subst (AllHold A (by_letters number)) (sym none) tt;
  apart = λ a b pair x i j.
      not_both (has_object x (by_letters number a)) i (no_object x number a);
}

letters_read : (number : Token → ℕ) → ReadsNames number (by_letters number)
letters_read number = record {
  fixed = λ l h. ap (λ (k : Letter). k ∷ []) (fixed_letter number l h);
  sorts = λ t h. ap (λ (k : Letter). k ∷ []) (sort_letter_of number t h);
  constants = λ t h. ap (λ (k : Letter). k ∷ []) (constant_letter_of number t h);
}

closed_text : (number : Token → ℕ) (names : List Token) (p : Pattern) → All IsName names
    → EachLeaf (closed_over names) p
    → put (by_letters number) (holds_text names p)
    ≡ word_letter says_holds ∷ spell (numbered number names p) []
closed_text number names p each closed =
    ap (λ (ls : List Letter). word_letter says_holds ∷ ls)
    (sym (append-nil (put (by_letters number) (pattern_tokens names p)))
    ∙ spells number names (by_letters number) (λ x. x) (letters_read number) p
    (λ x here. absurd (not_both (absent x p) (closed_absent names p closed x) here))
    (closed_named names each p closed) []
    ∙ ap (λ (q : Pattern). spell q []) (renamed_same (numbered number names p)))

last_sound : (A : Pattern → Type 0) (number : Token → ℕ) (before : List Assertion) (a : Assertion)
    → AreSound A number (before ++ a ∷ []) → IsSound A number a.frame
last_sound A number [] a h = h.0
last_sound A number (one ∷ before) a h = last_sound A number before a h.1

pub justified_derived : (bytes : List ℕ) (theory : RewriteTheory) (names : List Token)
    (a b : Pattern) (number : Token → ℕ) → AssumesClosed theory
    → Justifies bytes theory names a b
    → Derives [] (IsAssumedPattern theory number)
    (imp (numbered number names a) (ev (numbered number names b)))
justified_derived bytes theory names a b number closed w =
    let A : Pattern → Type 0 = IsAssumedPattern theory number in
    let each : AreSound A number (assertions_of bytes) =
    database_sound theory A number bytes (axioms_sound theory number closed) w.valid w.only in
    let sound : IsSound A number w.last =
    last_sound A number w.before (record { is_proved = true; frame = w.last })
    (subst (AreSound A number) w.assertions each) in
    says A (put (by_letters number) w.last.statement)
    (word_piece says_holds
    ∷ (pattern_piece (imp (numbered number names a) (ev (numbered number names b))) ∷ []))
    (sound (by_letters number) (letters_fit A number w.last w.no_hypotheses))
    (ap (put (by_letters number)) w.says
    ∙ closed_text number names (imp a (ev b)) w.are_names w.closed)

pub run_derived : (bytes : List ℕ) (theory : RewriteTheory) (start end : RulePattern)
    (number : Token → ℕ) → IsWellSorted theory → HasFewVariables theory
    → JustifiesRun bytes theory start end
    → (a b : Pattern) × IsNumberedImage theory number start a × IsNumberedImage theory number end b
    × Derives [] (IsAssumedPattern theory number) (imp a (ev b))
run_derived bytes theory start end number well few w = (
  numbered number w.names w.from,
  numbered number w.names w.to,
  record { names = w.names; image = w.from; image_is = w.from_image; is = refl },
  record { names = w.names; image = w.to; image_is = w.to_image; is = refl },
  justified_derived bytes theory w.names w.from w.to number (assumes_closed theory well few)
      w.justifies,
)
