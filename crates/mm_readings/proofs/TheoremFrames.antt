-- The frame of a theorem is sound.
use Rattle.std.proofs.Common.{◌≡◌, ℕ, ◌<◌, ◌≤◌, ◌+◌, Bool, true, false, List, [], ◌∷◌, ◌++◌, refl}
use Rattle.std.proofs.Common.{sym, ap, ◌∙◌, subst, append-nil, arith, ◌⊎◌, inl, inr}
use Rattle.std.specs.Prelude.{◌||◌, if◌then◌else◌, filter, codes, bytes_eq}
use Rattle.std.specs.List.{list_any}
use Rattle.std.proofs.lemmas.Slice.Eq.{bytes_eq-Decides}
use Rattle.mm_text.specs.Bytes.{Token, has_token}
use Rattle.mm_database.specs.Frames.{Hypothesis, floating, essential, statement_of, types}
use Rattle.mm_database.specs.Frames.{occurs_in, Scope, is_needed, is_mandatory, frame_of}
use Rattle.mm_database.specs.Database.{Context}
use Rattle.mm_database.specs.Proofs.{ProofTree, Proves}
use Rattle.mm_database.specs.Orderly.{TypeOnce}
use Rattle.ml_pat.specs.Patterns.{Pattern, var, bot}
use Rattle.mm_readings.specs.Letters.{Letter, says_pattern, says_sort, says_variable, letter_of}
use Rattle.mm_readings.specs.Pieces.{word_piece, pattern_piece, sort_piece}
use Rattle.mm_readings.specs.Holding.{Holds}
use Rattle.mm_readings.specs.Readings.{Reading, put, ShareNone, AllHold, IsFit, IsSound}
use Rattle.mm_readings.specs.Proving.{IsFitIn, HasSoundFrames, HaveTypecodes, typecodes}
use Rattle.mm_readings.specs.Proving.{HaveKnownTypes, TypesWell}
use Rattle.mm_readings.proofs.ProofTrees.{proved_holds}
use Rattle.mm_readings.proofs.Dummies.{or_left, or_right, not_both, same, itself, base, under_base}
use Rattle.mm_readings.proofs.Dummies.{typed_text, dummy, in_dummy, dummies_share, untyped_dummy}

-- ---- hypotheses of a list

abbrev In : Hypothesis → List Hypothesis → Type 0
In h [] = ⊥
In h (k ∷ hs) = (k ≡ h) ⊎ In h hs

hold_in : (A : Pattern → Type 0) (m : Reading) (hs : List Hypothesis) → AllHold A m hs
    → (h : Hypothesis) → In h hs → Holds A (put m (statement_of h))
hold_in A m [] hold h i = absurd i
hold_in A m (k ∷ hs) hold h (inl e) =
    subst (λ (g : Hypothesis). Holds A (put m (statement_of g))) e hold.0
hold_in A m (k ∷ hs) hold h (inr i) = hold_in A m hs hold.1 h i

in_hold : (A : Pattern → Type 0) (m : Reading) (hs : List Hypothesis)
    → ((h : Hypothesis) → In h hs → Holds A (put m (statement_of h))) → AllHold A m hs
in_hold A m [] each = tt
in_hold A m (k ∷ hs) each = (each k (inl refl), in_hold A m hs (λ h i. each h (inr i)))

in_filter : (test : Hypothesis → Bool) (hs : List Hypothesis) (h : Hypothesis) → In h hs
    → test h ≡ true → In h (filter test hs)
in_filter test [] h i passes = absurd i
in_filter test (k ∷ hs) h (inl e) passes =
    let here : test k ≡ true = ap test e ∙ passes in
    rw here (inl e)
in_filter test (k ∷ hs) h (inr i) passes = go (test k) (in_filter test hs h i passes)
  where
    go : (b : Bool) → In h (filter test hs)
        → In h (if b then k ∷ filter test hs else filter test hs)
    go true j = inr j
    go false j = j

in_occurs : (t : Token) (hs : List Hypothesis) (h : Hypothesis) → In h hs → occurs_in t h ≡ true
    → list_any (occurs_in t) hs ≡ true
in_occurs t [] h i there = absurd i
in_occurs t (k ∷ hs) h (inl e) there =
    or_left (occurs_in t k) (list_any (occurs_in t) hs) (ap (occurs_in t) e ∙ there)
in_occurs t (k ∷ hs) h (inr i) there =
    or_right (occurs_in t k) (list_any (occurs_in t) hs) (in_occurs t hs h i there)

in_types : (t : Token) (hs : List Hypothesis) (h : Hypothesis) → In h hs → types t h ≡ true
    → list_any (types t) hs ≡ true
in_types t [] h i there = absurd i
in_types t (k ∷ hs) h (inl e) there =
    or_left (types t k) (list_any (types t) hs) (ap (types t) e ∙ there)
in_types t (k ∷ hs) h (inr i) there =
    or_right (types t k) (list_any (types t) hs) (in_types t hs h i there)

in_typecodes : (c : Context) (hs : List Hypothesis) (l typecode v : Token) → HaveTypecodes c hs
    → In (floating l typecode v) hs → c.variables typecode ≡ false
in_typecodes c [] l typecode v h i = absurd i
in_typecodes c (essential k s ∷ hs) l typecode v h (inl e) = absurd (cc)
in_typecodes c (essential k s ∷ hs) l typecode v h (inr i) = in_typecodes c hs l typecode v h i
in_typecodes c (floating k other w ∷ hs) l typecode v h (inl e) =
    let one : other ≡ typecode = cc in
    subst (λ (t : Token). c.variables t ≡ false) one h.0
in_typecodes c (floating k other w ∷ hs) l typecode v h (inr i) =
    in_typecodes c hs l typecode v h.1 i

in_known : (hs : List Hypothesis) (l typecode v : Token) → HaveKnownTypes hs
    → In (floating l typecode v) hs → has_token typecodes typecode ≡ true
in_known [] l typecode v h i = absurd i
in_known (essential k s ∷ hs) l typecode v h (inl e) = absurd (cc)
in_known (essential k s ∷ hs) l typecode v h (inr i) = in_known hs l typecode v h i
in_known (floating k other w ∷ hs) l typecode v h (inl e) =
    let one : other ≡ typecode = cc in
    subst (λ (t : Token). has_token typecodes t ≡ true) one h.0
in_known (floating k other w ∷ hs) l typecode v h (inr i) = in_known hs l typecode v h.1 i

typed_dummy : (number : Token → ℕ) (n : ℕ) (hs : List Hypothesis) (l typecode v : Token)
    → TypeOnce hs → In (floating l typecode v) hs
    → (k : ℕ) × (dummy number n hs v ≡ typed_text k typecode)
typed_dummy number n [] l typecode v once i = absurd i
typed_dummy number n (essential k s ∷ hs) l typecode v once (inl e) = absurd (cc)
typed_dummy number n (essential k s ∷ hs) l typecode v once (inr i) =
    typed_dummy number n hs l typecode v once i
typed_dummy number n (floating k other w ∷ hs) l typecode v once (inl e) =
    let one : other ≡ typecode = cc in
    let two : w ≡ v = cc in
    let three : bytes_eq w v ≡ true = (bytes_eq-Decides w v).1 two in
    (n, rw three (ap (typed_text n) one))
typed_dummy number n (floating k other w ∷ hs) l typecode v once (inr i) =
    go (bytes_eq w v) refl (typed_dummy number (n + 1) hs l typecode v once.1 i)
  where
    go : (b : Bool) → bytes_eq w v ≡ b
        → ((j : ℕ) × (dummy number (n + 1) hs v ≡ typed_text j typecode))
        → (j : ℕ) × ((if b then typed_text n other else dummy number (n + 1) hs v)
        ≡ typed_text j typecode)
    go true e rest =
        let again : list_any (types w) hs ≡ true =
        in_types w hs (floating l typecode v) i ((bytes_eq-Decides v w).1 (sym (same w v e))) in
        absurd (not_both _ again once.0)
    go false e rest = rest

-- the text of a variable by its type is one of that type
typing_holds : (A : Pattern → Type 0) (number : Token → ℕ) (n : ℕ) (typecode : Token)
    → has_token typecodes typecode ≡ true
    → Holds A (letter_of number typecode ∷ typed_text n typecode)
typing_holds A number n typecode h =
    go (bytes_eq (codes "#Pattern") typecode) (bytes_eq (codes "#Sort") typecode)
    (bytes_eq (codes "#Var") typecode) refl refl refl h
  where
    go : (p s x : Bool) → bytes_eq (codes "#Pattern") typecode ≡ p
        → bytes_eq (codes "#Sort") typecode ≡ s → bytes_eq (codes "#Var") typecode ≡ x
        → (p || (s || (x || false))) ≡ true
        → Holds A (letter_of number typecode ∷ typed_text n typecode)
    go true s x hp hs hx k =
        subst (λ (t : Token). Holds A (letter_of number t ∷ typed_text n t))
        (same (codes "#Pattern") typecode hp)
        (word_piece says_pattern ∷ (pattern_piece bot ∷ []), refl, tt)
    go false true x hp hs hx k =
        subst (λ (t : Token). Holds A (letter_of number t ∷ typed_text n t))
        (same (codes "#Sort") typecode hs) (word_piece says_sort ∷ (sort_piece 0 ∷ []), refl, tt)
    go false false true hp hs hx k =
        subst (λ (t : Token). Holds A (letter_of number t ∷ typed_text n t))
        (same (codes "#Var") typecode hx)
        (word_piece says_variable ∷ (pattern_piece (var n) ∷ []), refl, tt)
    go false false false hp hs hx k = absurd (cc)

-- ---- the variables of a theorem's frame

pub filter_types : (test : Hypothesis → Bool) (t : Token) (hs : List Hypothesis)
    → list_any (types t) (filter test hs) ≡ true → list_any (types t) hs ≡ true
filter_types test t [] h = h
filter_types test t (k ∷ hs) h = go (test k) h (filter_types test t hs)
  where
    first : (a b d : Bool) → (a || b) ≡ true → (b ≡ true → d ≡ true) → (a || d) ≡ true
    first true b d l rest = refl
    first false b d l rest = rest l

    go : (b : Bool) → list_any (types t) (if b then k ∷ filter test hs else filter test hs) ≡ true
        → (list_any (types t) (filter test hs) ≡ true → list_any (types t) hs ≡ true)
        → (types t k || list_any (types t) hs) ≡ true
    go true l rest = first (types t k) _ _ l rest
    go false l rest = or_right (types t k) (list_any (types t) hs) (rest l)

-- each `$f` of a variable that is needed is mandatory
pub needed_typed : (s : Scope) (symbols : List Token) (t : Token) (hs : List Hypothesis)
    → is_needed s symbols t ≡ true → list_any (types t) hs ≡ true
    → list_any (types t) (filter (is_mandatory s symbols) hs) ≡ true
needed_typed s symbols t [] needed h = h
needed_typed s symbols t (essential l e ∷ hs) needed h = needed_typed s symbols t hs needed h
needed_typed s symbols t (floating l code v ∷ hs) needed h =
    go (bytes_eq v t) (is_needed s symbols v) refl refl h (needed_typed s symbols t hs needed)
  where
    go : (y b : Bool) → bytes_eq v t ≡ y → is_needed s symbols v ≡ b
        → (y || list_any (types t) hs) ≡ true
        → (list_any (types t) hs ≡ true
        → list_any (types t) (filter (is_mandatory s symbols) hs) ≡ true)
        → list_any (types t) (if b then floating l code v ∷ filter (is_mandatory s symbols) hs
        else filter (is_mandatory s symbols) hs)
        ≡ true
    go true true e n k rest = or_left (bytes_eq v t) _ e
    go true false e n k rest =
        absurd (not_both _ (ap (is_needed s symbols) (same v t e) ∙ needed) n)
    go false true e n k rest = or_right (bytes_eq v t) _ (rest k)
    go false false e n k rest = rest k

-- and a variable of a mandatory `$f` is needed
typed_needed : (s : Scope) (symbols : List Token) (t : Token) (hs : List Hypothesis)
    → list_any (types t) (filter (is_mandatory s symbols) hs) ≡ true
    → is_needed s symbols t ≡ true
typed_needed s symbols t [] h = absurd (cc)
typed_needed s symbols t (essential l e ∷ hs) h = typed_needed s symbols t hs h
typed_needed s symbols t (floating l code v ∷ hs) h =
    go (is_needed s symbols v) refl h (typed_needed s symbols t hs)
  where
    one : (y : Bool) → bytes_eq v t ≡ y → is_needed s symbols v ≡ true
        → (y || list_any (types t) (filter (is_mandatory s symbols) hs)) ≡ true
        → (list_any (types t) (filter (is_mandatory s symbols) hs) ≡ true
        → is_needed s symbols t ≡ true)
        → is_needed s symbols t ≡ true
    one true e n k rest = ap (is_needed s symbols) (sym (same v t e)) ∙ n
    one false e n k rest = rest k

    go : (b : Bool) → is_needed s symbols v ≡ b
        → list_any (types t) (if b then floating l code v ∷ filter (is_mandatory s symbols) hs
        else filter (is_mandatory s symbols) hs)
        ≡ true
        → (list_any (types t) (filter (is_mandatory s symbols) hs) ≡ true
        → is_needed s symbols t ≡ true)
        → is_needed s symbols t ≡ true
    go true n k rest = one (bytes_eq v t) refl n k rest
    go false n k rest = rest k

-- ---- the extended reading

abbrev mandatory : Scope → List Token → List Hypothesis
mandatory s symbols = filter (is_mandatory s symbols) s.hypotheses

abbrev extended : (Token → ℕ) → Scope → List Token → Reading → Reading
extended number s symbols m = λ t.
    if list_any (types t) (mandatory s symbols) then m t
    else dummy number (base m (mandatory s symbols)) s.hypotheses t

-- it changes nothing in the frame
needed_agrees : (A : Pattern → Type 0) (number : Token → ℕ) (s : Scope) (label : Token)
    (symbols : List Token) (m : Reading) → IsFit A number (frame_of s label symbols) m
    → (t : Token) → is_needed s symbols t ≡ true → extended number s symbols m t ≡ m t
needed_agrees A number s label symbols m fit t needed =
    go (list_any (types t) (mandatory s symbols)) refl (list_any (types t) s.hypotheses) refl
  where
    go : (b : Bool) → list_any (types t) (mandatory s symbols) ≡ b
        → (d : Bool) → list_any (types t) s.hypotheses ≡ d
        → (if b then m t else dummy number (base m (mandatory s symbols)) s.hypotheses t) ≡ m t
    go true e d k = refl
    go false e true k =
        absurd (not_both _ (needed_typed s symbols t s.hypotheses needed k) e)
    go false e false k =
        untyped_dummy number (base m (mandatory s symbols)) s.hypotheses t k
        ∙ sym (fit.constants t e)

put_agrees : (m n : Reading) (tokens : List Token)
    → ((t : Token) → has_token tokens t ≡ true → m t ≡ n t) → put m tokens ≡ put n tokens
put_agrees m n [] same_there = refl
put_agrees m n (t ∷ tokens) same_there =
    ap (λ (ls : List Letter). ls ++ put m tokens)
    (same_there t (or_left (bytes_eq t t) (has_token tokens t) (itself t)))
    ∙ ap (λ (ls : List Letter). n t ++ ls)
    (put_agrees m n tokens
    (λ w there. same_there w (or_right (bytes_eq t w) (has_token tokens w) there)))

untyped_mandatory : (s : Scope) (symbols : List Token) (t : Token)
    → list_any (types t) s.hypotheses ≡ false → list_any (types t) (mandatory s symbols) ≡ false
untyped_mandatory s symbols t h = go (list_any (types t) (mandatory s symbols)) refl
  where
    go : (b : Bool) → list_any (types t) (mandatory s symbols) ≡ b
        → list_any (types t) (mandatory s symbols) ≡ false
    go true e =
        absurd (not_both _ (filter_types (is_mandatory s symbols) t s.hypotheses e) h)
    go false e = e

not_typed : (c : Context) → TypesWell c → (t : Token) → c.variables t ≡ false
    → list_any (types t) c.scope.hypotheses ≡ false
not_typed c well t h = go (list_any (types t) c.scope.hypotheses) refl
  where
    go : (b : Bool) → list_any (types t) c.scope.hypotheses ≡ b
        → list_any (types t) c.scope.hypotheses ≡ false
    go true e = absurd (not_both _ (well.variables t e) h)
    go false e = e

constant_extended : (number : Token → ℕ) (c : Context) (symbols : List Token) (m : Reading)
    → TypesWell c → (t : Token) → c.variables t ≡ false
    → extended number c.scope symbols m t ≡ letter_of number t ∷ []
constant_extended number c symbols m well t h =
    let none : list_any (types t) c.scope.hypotheses ≡ false = not_typed c well t h in
    let none' : list_any (types t) (mandatory c.scope symbols) ≡ false =
    untyped_mandatory c.scope symbols t none in
    rw none' (untyped_dummy number (base m (mandatory c.scope symbols)) c.scope.hypotheses t none)

hypothesis_extended : (A : Pattern → Type 0) (number : Token → ℕ) (c : Context) (label : Token)
    (symbols : List Token) (m : Reading) → TypesWell c
    → IsFit A number (frame_of c.scope label symbols) m → (h : Hypothesis)
    → In h c.scope.hypotheses
    → Holds A (put (extended number c.scope symbols m) (statement_of h))
hypothesis_extended A number c label symbols m well fit (essential l statement) i =
    subst (Holds A) (sym (put_agrees (extended number c.scope symbols m) m statement (λ t there.
    needed_agrees A number c.scope label symbols m fit t
    (or_right (has_token symbols t) (list_any (occurs_in t) c.scope.hypotheses)
    (in_occurs t c.scope.hypotheses (essential l statement) i there)))))
    (hold_in A m (mandatory c.scope symbols) fit.hypotheses (essential l statement)
    (in_filter (is_mandatory c.scope symbols) c.scope.hypotheses (essential l statement) i refl))
hypothesis_extended A number c label symbols m well fit (floating l typecode v) i =
    go (list_any (types v) (mandatory c.scope symbols)) refl
  where
    code : c.variables typecode ≡ false
    code = in_typecodes c c.scope.hypotheses l typecode v well.typecodes i

    first : extended number c.scope symbols m typecode ≡ letter_of number typecode ∷ []
    first = constant_extended number c symbols m well typecode code

    front : (letters : List Letter)
        → Holds A (letter_of number typecode ∷ letters)
        → Holds A (extended number c.scope symbols m typecode ++ (letters ++ []))
    front letters holds =
        subst (Holds A)
        (sym (ap (λ (ls : List Letter). ls ++ (letters ++ [])) first
        ∙ ap (λ (ls : List Letter). letter_of number typecode ∷ ls) (append-nil letters)))
        holds

    read_typecode : m typecode ≡ letter_of number typecode ∷ []
    read_typecode =
        fit.constants typecode
        (untyped_mandatory c.scope symbols typecode (not_typed c well typecode code))

    go : (b : Bool) → list_any (types v) (mandatory c.scope symbols) ≡ b
        → Holds A (extended number c.scope symbols m typecode
        ++ ((if b then m v
        else dummy number (base m (mandatory c.scope symbols)) c.scope.hypotheses v) ++ []))
    go true e =
        let needed : is_needed c.scope symbols v ≡ true =
        typed_needed c.scope symbols v c.scope.hypotheses e in
        let own : Holds A (m typecode ++ (m v ++ [])) =
        hold_in A m (mandatory c.scope symbols) fit.hypotheses (floating l typecode v)
        (in_filter (is_mandatory c.scope symbols) c.scope.hypotheses (floating l typecode v) i
        needed) in
        subst (Holds A)
        (ap (λ (ls : List Letter). ls ++ (m v ++ [])) (read_typecode ∙ sym first)) own
    go false e =
        let w : (k : ℕ) × (dummy number (base m (mandatory c.scope symbols)) c.scope.hypotheses v
        ≡ typed_text k typecode) =
        typed_dummy number (base m (mandatory c.scope symbols)) c.scope.hypotheses l typecode v
        well.once i in
        front (dummy number (base m (mandatory c.scope symbols)) c.scope.hypotheses v)
        (subst (λ (ls : List Letter). Holds A (letter_of number typecode ∷ ls)) (sym w.1)
        (typing_holds A number w.0 typecode
        (in_known c.scope.hypotheses l typecode v well.known i)))

apart_extended : (A : Pattern → Type 0) (number : Token → ℕ) (c : Context) (label : Token)
    (symbols : List Token) (m : Reading) → IsFit A number (frame_of c.scope label symbols) m
    → (x y : Token) → bytes_eq x y ≡ false → c.scope.apart x y ≡ true
    → ShareNone (extended number c.scope symbols m x) (extended number c.scope symbols m y)
apart_extended A number c label symbols m fit x y differ pair =
    go (list_any (types x) own) (list_any (types y) own) refl refl
  where
    own : List Hypothesis
    own = mandatory c.scope symbols

    go : (a b : Bool) → list_any (types x) (mandatory c.scope symbols) ≡ a
        → list_any (types y) (mandatory c.scope symbols) ≡ b
        → ShareNone (if a then m x
        else dummy number (base m (mandatory c.scope symbols)) c.scope.hypotheses x)
        (if b then m y
        else dummy number (base m (mandatory c.scope symbols)) c.scope.hypotheses y)
    go true true a b =
        fit.apart x y (rw (
          pair,
          typed_needed c.scope symbols x c.scope.hypotheses a,
          typed_needed c.scope symbols y c.scope.hypotheses b,
        ) refl)
    go true false a b = λ z i j.
        let k : z < base m (mandatory c.scope symbols) =
        under_base z m (mandatory c.scope symbols) x a i in
        let n : base m (mandatory c.scope symbols) ≤ z =
        in_dummy number z (base m (mandatory c.scope symbols)) c.scope.hypotheses y j in
        omega arith
    go false true a b = λ z i j.
        let k : z < base m (mandatory c.scope symbols) =
        under_base z m (mandatory c.scope symbols) y b j in
        let n : base m (mandatory c.scope symbols) ≤ z =
        in_dummy number z (base m (mandatory c.scope symbols)) c.scope.hypotheses x i in
        omega arith
    go false false a b =
        dummies_share number (base m (mandatory c.scope symbols)) c.scope.hypotheses x y differ

extended_fit : (A : Pattern → Type 0) (number : Token → ℕ) (c : Context) (label : Token)
    (symbols : List Token) (m : Reading) → TypesWell c
    → IsFit A number (frame_of c.scope label symbols) m
    → IsFitIn A number c (extended number c.scope symbols m)
extended_fit A number c label symbols m well fit = record {
  constants = constant_extended number c symbols m well;
  hypotheses =
      in_hold A (extended number c.scope symbols m) c.scope.hypotheses
      (hypothesis_extended A number c label symbols m well fit);
  apart = apart_extended A number c label symbols m fit;
}

pub theorem_sound : (A : Pattern → Type 0) (number : Token → ℕ) (c : Context) (label : Token)
    (symbols : List Token) (tree : ProofTree) → HasSoundFrames A number c → TypesWell c
    → Proves c tree symbols → IsSound A number (frame_of c.scope label symbols)
theorem_sound A number c label symbols tree frames well proves m fit =
    subst (Holds A)
    (put_agrees (extended number c.scope symbols m) m symbols (λ t there.
    needed_agrees A number c.scope label symbols m fit t
    (or_left (has_token symbols t) (list_any (occurs_in t) c.scope.hypotheses) there)))
    (proved_holds A number c (extended number c.scope symbols m) tree symbols
    (extended_fit A number c label symbols m well fit) frames proves)
