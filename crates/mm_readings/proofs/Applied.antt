-- The reading after a substitution is fit.
use Rattle.std.proofs.Common.{◌≡◌, ℕ, Bool, true, false, List, [], ◌∷◌, ◌++◌, map, refl, sym, ap}
use Rattle.std.proofs.Common.{◌∙◌, subst, append-nil, append_assoc}
use Rattle.std.specs.Prelude.{not, ◌||◌, ◌&&◌, if◌then◌else◌, bytes_eq}
use Rattle.std.specs.List.{list_any, list_all}
use Rattle.std.proofs.lemmas.Slice.Eq.{bytes_eq-Decides}
use Rattle.mm_text.specs.Bytes.{Token, has_token}
use Rattle.mm_database.specs.Frames.{Hypothesis, floating, essential, types, Frame}
use Rattle.mm_database.specs.Database.{Context}
use Rattle.mm_database.specs.Proofs.{Expression, substituted, instance_of, typed_variables}
use Rattle.mm_database.specs.Proofs.{symbols_apart, texts_apart, pair_apart, keeps_apart, Applies}
use Rattle.ml_pat.specs.Patterns.{Pattern}
use Rattle.ml_pat.proofs.LeafLaws.{split_true}
use Rattle.mm_readings.specs.Letters.{Letter, letter_of}
use Rattle.mm_readings.specs.Holding.{Holds}
use Rattle.mm_readings.specs.Readings.{Reading, put, has_object, ShareNone, AllHold, IsFit}
use Rattle.mm_readings.specs.Proving.{IsFitIn, after_substitution, EachHolds, is_in_any}
use Rattle.mm_readings.specs.Proving.{HaveTypecodes, TypesItsVariables}
use Rattle.mm_readings.proofs.Objects.{no_object, stands_in, passes}

or_right : (a b : Bool) → b ≡ true → (a || b) ≡ true
or_right true b h = refl
or_right false b h = h

or_left : (a b : Bool) → a ≡ true → (a || b) ≡ true
or_left a b h = rw h refl

pub put-append : (m : Reading) (xs ys : List Token) → put m (xs ++ ys) ≡ put m xs ++ put m ys
put-append m [] ys = refl
put-append m (x ∷ xs) ys =
    ap (λ (ls : List Letter). m x ++ ls) (put-append m xs ys)
    ∙ sym (append_assoc (m x) (put m xs) (put m ys))

-- ---- texts

-- a token whose kind in the context is that in the frame is read as what replaces it
after_token : (A : Pattern → Type 0) (number : Token → ℕ) (c : Context) (m : Reading) (f : Frame)
    (sigma : Token → Expression) → IsFitIn A number c m
    → ((t : Token) → list_any (types t) f.hypotheses ≡ false → sigma t ≡ t ∷ [])
    → (t : Token) → list_any (types t) f.hypotheses ≡ c.variables t
    → after_substitution number m f sigma t ≡ put m (sigma t)
after_token A number c m f sigma fit others t kind =
    go (list_any (types t) f.hypotheses) refl
  where
    go : (b : Bool) → list_any (types t) f.hypotheses ≡ b
        → (if b then put m (sigma t) else letter_of number t ∷ []) ≡ put m (sigma t)
    go true here = refl
    go false here =
        sym (ap (put m) (others t here) ∙ append-nil (m t)
        ∙ fit.constants t (sym kind ∙ here))

after_text : (A : Pattern → Type 0) (number : Token → ℕ) (c : Context) (m : Reading) (f : Frame)
    (sigma : Token → Expression) → IsFitIn A number c m
    → ((t : Token) → list_any (types t) f.hypotheses ≡ false → sigma t ≡ t ∷ [])
    → (tokens : List Token)
    → ((t : Token) → has_token tokens t ≡ true → list_any (types t) f.hypotheses ≡ c.variables t)
    → put (after_substitution number m f sigma) tokens ≡ put m (substituted sigma tokens)
after_text A number c m f sigma fit others [] kinds = refl
after_text A number c m f sigma fit others (t ∷ tokens) kinds =
    ap (λ (ls : List Letter). ls ++ put (after_substitution number m f sigma) tokens)
    (after_token A number c m f sigma fit others t
    (kinds t (or_left (bytes_eq t t) (has_token tokens t) ((bytes_eq-Decides t t).1 refl))))
    ∙ ap (λ (ls : List Letter). put m (sigma t) ++ ls)
    (after_text A number c m f sigma fit others tokens
    (λ w there. kinds w (or_right (bytes_eq t w) (has_token tokens w) there)))
    ∙ sym (put-append m (sigma t) (substituted sigma tokens))

-- ---- hypotheses

after_hypotheses : (A : Pattern → Type 0) (number : Token → ℕ) (c : Context) (m : Reading)
    (f : Frame) (sigma : Token → Expression) → IsFitIn A number c m
    → ((t : Token) → list_any (types t) f.hypotheses ≡ false → sigma t ≡ t ∷ [])
    → (hs : List Hypothesis)
    → ((t : Token) → is_in_any hs t ≡ true → list_any (types t) f.hypotheses ≡ c.variables t)
    → HaveTypecodes c hs → EachHolds A m (map (instance_of sigma) hs)
    → AllHold A (after_substitution number m f sigma) hs
after_hypotheses A number c m f sigma fit others [] kinds codes hold = tt
after_hypotheses A number c m f sigma fit others (essential l statement ∷ hs) kinds codes hold = (
  subst (Holds A) (sym (after_text A number c m f sigma fit others statement
      (λ t there. kinds t (or_left (has_token statement t) (is_in_any hs t) there)))) hold.0,
  after_hypotheses A number c m f sigma fit others hs
      (λ t there. kinds t (or_right (has_token statement t) (is_in_any hs t) there)) codes hold.1,
)
after_hypotheses A number c m f sigma fit others (floating label typecode variable ∷ hs) kinds codes
    hold =
    let here : has_token (typecode ∷ (variable ∷ [])) typecode ≡ true =
    or_left (bytes_eq typecode typecode) _ ((bytes_eq-Decides typecode typecode).1 refl) in
    let kind : list_any (types typecode) f.hypotheses ≡ c.variables typecode =
    kinds typecode (or_left (has_token (typecode ∷ (variable ∷ [])) typecode) _ here) in
    let there : has_token (typecode ∷ (variable ∷ [])) variable ≡ true =
    or_right (bytes_eq typecode variable) _
    (or_left (bytes_eq variable variable) false ((bytes_eq-Decides variable variable).1 refl)) in
    let kind' : list_any (types variable) f.hypotheses ≡ c.variables variable =
    kinds variable (or_left (has_token (typecode ∷ (variable ∷ [])) variable) _ there) in
    let first : after_substitution number m f sigma typecode ≡ m typecode =
    after_token A number c m f sigma fit others typecode kind
    ∙ ap (put m) (others typecode (kind ∙ codes.0)) ∙ append-nil (m typecode) in
    let text : List Letter = after_substitution number m f sigma variable ++ [] in
    let second : text ≡ put m (sigma variable) =
    append-nil (after_substitution number m f sigma variable)
    ∙ after_token A number c m f sigma fit others variable kind' in (
      subst (Holds A)
          (sym (ap (λ (ls : List Letter). ls ++ text) first
          ∙ ap (λ (ls : List Letter). m typecode ++ ls) second)) hold.0,
      after_hypotheses A number c m f sigma fit others hs
          (λ t k. kinds t (or_right (has_token (typecode ∷ (variable ∷ [])) t) (is_in_any hs t) k))
          codes.1 hold.1,
    )

-- ---- pairs

-- two symbols that are apart share no object variable
symbols_share : (A : Pattern → Type 0) (number : Token → ℕ) (c : Context) (m : Reading)
    → IsFitIn A number c m → (x y : Token) → symbols_apart c x y ≡ true → ShareNone (m x) (m y)
symbols_share A number c m fit x y h =
    go (c.variables x) (c.variables y) (bytes_eq x y) (c.scope.apart x y) refl refl refl refl h
  where
    none : (t : Token) → c.variables t ≡ false → (z : ℕ) → has_object z (m t) ≡ true → ⊥
    none t k z here =
        let no : has_object z (m t) ≡ false =
        ap (has_object z) (fit.constants t k) ∙ no_object z number t in
        let bad : true ≡ false = sym here ∙ no in
        cc

    go : (a b same pair : Bool) → c.variables x ≡ a → c.variables y ≡ b → bytes_eq x y ≡ same
        → c.scope.apart x y ≡ pair → (not (a && b) || (not same && pair)) ≡ true
        → ShareNone (m x) (m y)
    go false b same pair ha hb hs hp k = λ z i j. none x ha z i
    go true false same pair ha hb hs hp k = λ z i j. none y hb z j
    go true true true pair ha hb hs hp k = absurd (cc)
    go true true false false ha hb hs hp k = absurd (cc)
    go true true false true ha hb hs hp k = fit.apart x y hs hp

texts_share : (A : Pattern → Type 0) (number : Token → ℕ) (c : Context) (m : Reading)
    → IsFitIn A number c m → (xs ys : List Token) → texts_apart (symbols_apart c) xs ys ≡ true
    → ShareNone (put m xs) (put m ys)
texts_share A number c m fit xs ys h z i j =
    let v : (x : Token) × (has_token xs x ≡ true) × (has_object z (m x) ≡ true) =
    stands_in z m xs i in
    let w : (y : Token) × (has_token ys y ≡ true) × (has_object z (m y) ≡ true) =
    stands_in z m ys j in
    symbols_share A number c m fit v.0 w.0
    (passes (symbols_apart c v.0) ys w.0
    (passes (λ (x : Token). list_all (symbols_apart c x) ys) xs v.0 h v.1) w.1) z v.2 w.2

typed_passes : (test : Token → Bool) (hs : List Hypothesis) (t : Token)
    → list_all test (typed_variables hs) ≡ true → list_any (types t) hs ≡ true → test t ≡ true
typed_passes test [] t h k = absurd (cc)
typed_passes test (essential label statement ∷ hs) t h k = typed_passes test hs t h k
typed_passes test (floating label typecode variable ∷ hs) t h k =
    go (bytes_eq variable t) refl k
    (split_true (test variable) (list_all test (typed_variables hs)) h)
    (typed_passes test hs t)
  where
    go : (same : Bool) → bytes_eq variable t ≡ same → (same || list_any (types t) hs) ≡ true
        → ((test variable ≡ true) × (list_all test (typed_variables hs) ≡ true))
        → (list_all test (typed_variables hs) ≡ true → list_any (types t) hs ≡ true
        → test t ≡ true)
        → test t ≡ true
    go true is l both rest =
        subst (λ (w : Token). test w ≡ true) ((bytes_eq-Decides variable t).0 is) both.0
    go false is l both rest = rest both.1 l

after_apart : (A : Pattern → Type 0) (number : Token → ℕ) (c : Context) (m : Reading) (f : Frame)
    (sigma : Token → Expression) → IsFitIn A number c m
    → keeps_apart (symbols_apart c) f sigma ≡ true → (a b : Token) → f.apart a b ≡ true
    → ShareNone (after_substitution number m f sigma a) (after_substitution number m f sigma b)
after_apart A number c m f sigma fit kept a b pair =
    go (list_any (types a) f.hypotheses) (list_any (types b) f.hypotheses) refl refl
  where
    none : (t : Token) (z : ℕ) → has_object z (letter_of number t ∷ []) ≡ true → ⊥
    none t z here =
        let bad : true ≡ false = sym here ∙ no_object z number t in
        cc

    texts : list_any (types a) f.hypotheses ≡ true → list_any (types b) f.hypotheses ≡ true
        → texts_apart (symbols_apart c) (sigma a) (sigma b) ≡ true
    texts ha hb =
        let one : pair_apart (symbols_apart c) f sigma a b ≡ true =
        typed_passes (pair_apart (symbols_apart c) f sigma a) f.hypotheses b
        (typed_passes (λ (x : Token). list_all (pair_apart (symbols_apart c) f sigma x)
        (typed_variables f.hypotheses)) f.hypotheses a kept ha) hb in
        (rw pair at one)

    go : (ta tb : Bool) → list_any (types a) f.hypotheses ≡ ta
        → list_any (types b) f.hypotheses ≡ tb
        → ShareNone (if ta then put m (sigma a) else letter_of number a ∷ [])
        (if tb then put m (sigma b) else letter_of number b ∷ [])
    go true true ha hb = texts_share A number c m fit (sigma a) (sigma b) (texts ha hb)
    go true false ha hb = λ z i j. none b z j
    go false tb ha hb = λ z i j. none a z i

-- ---- the reading after a substitution

pub fit_after : (A : Pattern → Type 0) (number : Token → ℕ) (c : Context) (m : Reading) (f : Frame)
    (sigma : Token → Expression) (given : List Expression) (result : Expression)
    → IsFitIn A number c m → TypesItsVariables c f → Applies c f sigma given result
    → EachHolds A m given
    → IsFit A number f (after_substitution number m f sigma)
    × (put (after_substitution number m f sigma) f.statement ≡ put m result)
fit_after A number c m f sigma given result fit typed applies hold = (
  record {
    constants = λ t none. rw none refl;
    hypotheses =
        after_hypotheses A number c m f sigma fit applies.others f.hypotheses
        (λ t there. typed.tokens t
        (or_right (has_token f.statement t) (is_in_any f.hypotheses t) there)) typed.typecodes
        (subst (EachHolds A m) applies.hypotheses hold);
    apart = after_apart A number c m f sigma fit applies.apart;
  },
  after_text A number c m f sigma fit applies.others f.statement
      (λ t there. typed.tokens t
      (or_left (has_token f.statement t) (is_in_any f.hypotheses t) there))
      ∙ ap (put m) (sym applies.conclusion),
)
