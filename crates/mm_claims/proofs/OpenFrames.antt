-- The frame of an assertion in its block.
use Rattle.std.proofs.Common.{◌≡◌, ℕ, ◌+◌, ◌<◌, ◌^◌, Bool, true, false, List, [], ◌∷◌, ◌++◌, map}
use Rattle.std.proofs.Common.{refl, ap, ◌∙◌, sym}
use Rattle.std.proofs.Math.Path.{fun_ext}
use Rattle.std.specs.Prelude.{◌==◌, ◌&&◌, ◌||◌, if◌then◌else◌, filter, codes, bytes_eq}
use Rattle.std.specs.Prelude as std
use Rattle.std.specs.List.{list_any, list_all}
use Rattle.std.proofs.lemmas.Bool.{false≢true}
use Rattle.std.proofs.lemmas.Slice.Eq.{bytes_eq-Decides}
use Rattle.mm_text.specs.Bytes.{Token, has_token}
use Rattle.mm_database.specs.Frames as frames
use Rattle.mm_database.specs.Frames.{Hypothesis, floating, essential, Scope, Frame, is_needed}
use Rattle.mm_database.specs.Frames.{is_mandatory, frame_of}
use Rattle.mm_database.specs.Database.{Context, are_different_tokens}
use Rattle.mm_header.specs.HeaderContext.{header_context}
use Rattle.ml_pat.specs.Patterns.{Pattern, unary, binary, sorted, quantified, var, meta}
use Rattle.mm_proof.specs.Tokens.{letters_of, text_by, bracket, name_of, own_naming}
use Rattle.mm_proof.specs.Tokens.{unary_name, binary_name, sorted_name, quantifier_name}
use Rattle.mm_proof.specs.Labels.{statement_label}
use Rattle.ml_pat.specs.Leaves.{EachLeaf}
use Rattle.mm_proof.specs.Derivations.{holds_text}
use Rattle.ml_pat.proofs.LeafLaws.{both_true, split_true}
use Rattle.mm_proof.proofs.LeafLaws.{PassFixed}
use Rattle.mm_claims.specs.Fitting.{AreNames, Holds}
use Rattle.mm_claims.specs.Variables.{Variable, object_variable, pattern_variable, is_object}
use Rattle.mm_claims.specs.Variables.{number_of, same_variable, has_variable, are_once, AreNumbered}
use Rattle.mm_claims.specs.Variables.{occurs_in, variable_token, variable_tokens, object_tokens}
use Rattle.mm_claims.specs.Blocks.{Claim, IsClaim, variable_float, premise_hypotheses, separations}
use Rattle.mm_claims.specs.Blocks.{are_apart, open_frame}
use Rattle.mm_claims.specs.OverNames.{open_over, AreOpenOver}
use Rattle.mm_claims.proofs.StatedLaws.{itself, none_passes, name_at, name_no_letter}
use Rattle.mm_claims.proofs.VariableLaws.{name_no_variable, token_differs, same_is, numbered_at}
use Rattle.mm_claims.proofs.InsideLaws.{inside, list_any-append, map-append}
use Rattle.mm_claims.proofs.Separations.{numbered_behind, new_variable, separations_apart}
use Rattle.mm_claims.proofs.OpenTexts.{open_passes, own_hypotheses}
use Rattle.mm_claims.proofs.BoolLaws.{both_false, either_true, second_true, not_false, split_false}
use Rattle.mm_claims.proofs.BoolLaws.{and_false, and_true}

-- a variable that occurs in a pattern occurs in its text

here : (t : Token) (ts : List Token) → has_token (t ∷ ts) t ≡ true
here t ts = either_true (bytes_eq t t) (has_token ts t) (itself t)

in_first : (xs ys : List Token) (t : Token) → has_token xs t ≡ true → has_token (xs ++ ys) t ≡ true
in_first xs ys t h =
    list_any-append (λ u. bytes_eq u t) xs ys ∙ either_true (has_token xs t) (has_token ys t) h

in_second : (xs ys : List Token) (t : Token) → has_token ys t ≡ true → has_token (xs ++ ys) t ≡ true
in_second xs ys t h =
    list_any-append (λ u. bytes_eq u t) xs ys ∙ second_true (has_token xs t) (has_token ys t) h

behind_one : (x : Token) (ys : List Token) (t : Token) → has_token ys t ≡ true
    → has_token (x ∷ ys) t ≡ true
behind_one x ys t h = second_true (bytes_eq x t) (has_token ys t) h

either : (a b : Bool) {C : Type 0} → (a || b) ≡ true → (a ≡ true → C) → (b ≡ true → C) → C
either true b h f g = f refl
either false b h f g = g h

same_token : (u v : Variable) (ts : List Token) → same_variable u v ≡ true
    → has_token (variable_token u ∷ ts) (variable_token v) ≡ true
same_token u v ts h =
    ap (λ (x : Variable). has_token (variable_token u ∷ ts) (variable_token x))
    (sym (same_is u v h)) ∙ here (variable_token u) ts

-- inside brackets with a connective before it
bracketed_has : (k : Token) (ts : List Token) (t : Token) → has_token ts t ≡ true
    → has_token (codes "(" ∷ (k ∷ ts)) t ≡ true
bracketed_has k ts t h = behind_one (codes "(") (k ∷ ts) t (behind_one k ts t h)

two_have : (k : Token) (xs ys : List Token) (t : Token) (a b : Bool) → (a || b) ≡ true
    → (a ≡ true → has_token xs t ≡ true) → (b ≡ true → has_token ys t ≡ true)
    → has_token (codes "(" ∷ (k ∷ (xs ++ (ys ++ bracket)))) t ≡ true
two_have k xs ys t a b h f g =
    bracketed_has k (xs ++ (ys ++ bracket)) t (either a b h
    (λ l. in_first xs (ys ++ bracket) t (f l))
    (λ r. in_second xs (ys ++ bracket) t (in_first ys bracket t (g r))))

pub stands_token : (declared : List Token) (v : Variable) (p : Pattern) → occurs_in v p ≡ true
    → has_token (text_by (letters_of (own_naming declared)) p) (variable_token v) ≡ true
stands_token declared v (binary c p q) h =
    two_have (codes "\\" ++ binary_name c) (text_by (letters_of (own_naming declared)) p)
    (text_by (letters_of (own_naming declared)) q) (variable_token v) (occurs_in v p)
    (occurs_in v q) h (stands_token declared v p) (stands_token declared v q)
stands_token declared v (unary c p) h =
    bracketed_has (codes "\\" ++ unary_name c)
    (text_by (letters_of (own_naming declared)) p ++ bracket)
    (variable_token v) (in_first (text_by (letters_of (own_naming declared)) p) bracket
    (variable_token v) (stands_token declared v p h))
stands_token declared v (sorted c p s) h =
    bracketed_has (codes "\\" ++ sorted_name c)
    (text_by (letters_of (own_naming declared)) p ++ (name_of declared s ∷ bracket))
    (variable_token v) (in_first (text_by (letters_of (own_naming declared)) p)
    (name_of declared s ∷ bracket) (variable_token v) (stands_token declared v p h))
stands_token declared v (quantified c x s p) h =
    bracketed_has (codes "\\" ++ quantifier_name c) (variable_token (object_variable x)
    ∷ (name_of declared s ∷ (text_by (letters_of (own_naming declared)) p ++ bracket)))
    (variable_token v)
    (either (same_variable (object_variable x) v) (occurs_in v p) h (same_token (object_variable x)
    v (name_of declared s ∷ (text_by (letters_of (own_naming declared)) p ++ bracket)))
    (λ r. behind_one (variable_token (object_variable x))
    (name_of declared s ∷ (text_by (letters_of (own_naming declared)) p ++ bracket))
    (variable_token v) (behind_one (name_of declared s)
    (text_by (letters_of (own_naming declared)) p ++ bracket) (variable_token v)
    (in_first (text_by (letters_of (own_naming declared)) p) bracket (variable_token v)
    (stands_token declared v p r)))))
stands_token declared v (var x) h = same_token (object_variable x) v [] h
stands_token declared v (meta i) h = same_token (pattern_variable i) v [] h
stands_token declared v p h = absurd (false≢true h)

-- another variable does not occur in it

fixed_no_variable : (v : Variable) → PassFixed (λ t. std.not (bytes_eq t (variable_token v)))
fixed_no_variable (object_variable i) = refl
fixed_no_variable (pattern_variable i) = refl

turnstile_no_variable : (v : Variable) → std.not (bytes_eq (codes "|-") (variable_token v)) ≡ true
turnstile_no_variable (object_variable i) = refl
turnstile_no_variable (pattern_variable i) = refl

other_variable : (vs : List Variable) (u v : Variable) → has_variable vs u ≡ true
    → has_variable vs v ≡ false → same_variable u v ≡ false
other_variable vs u v h g = go (same_variable u v) refl
  where
    go : (b : Bool) → same_variable u v ≡ b → same_variable u v ≡ false
    go false is = is
    go true is = absurd (false≢true (sym g ∙ ap (has_variable vs) (sym (same_is u v is)) ∙ h))

pub stands_not : (declared : List Token) (vs : List Variable) (v : Variable) (p : Pattern)
    → AreNames declared → AreNumbered vs → number_of v < 2 ^ 64 → has_variable vs v ≡ false
    → EachLeaf (open_over declared vs) p
    → has_token (holds_text (own_naming declared) p) (variable_token v) ≡ false
stands_not declared vs v p names numbered small none leaves =
    none_passes (λ t. bytes_eq t (variable_token v)) (holds_text (own_naming declared) p)
    (open_passes (λ t. std.not (bytes_eq t (variable_token v))) declared vs p (fixed_no_variable v)
    (turnstile_no_variable v)
    (λ i lt. not_false (bytes_eq (name_of declared i) (variable_token v))
    (name_no_variable (name_of declared i) v (name_at declared i names lt)))
    (λ u h. not_false (bytes_eq (variable_token u) (variable_token v))
    (token_differs u v (numbered_at vs u numbered h) small (other_variable vs u v h none)))
    leaves)

variable_no_letter : (v : Variable) (a : ℕ) → bytes_eq (variable_token v) (a ∷ []) ≡ false
variable_no_letter (object_variable i) a = and_false (120 == a)
variable_no_letter (pattern_variable i) a = and_false (109 == a)

letter_not : (declared : List Token) (vs : List Variable) (a : ℕ) (p : Pattern) → AreNames declared
    → PassFixed (λ t. std.not (bytes_eq t (a ∷ [])))
    → std.not (bytes_eq (codes "|-") (a ∷ [])) ≡ true → EachLeaf (open_over declared vs) p
    → has_token (holds_text (own_naming declared) p) (a ∷ []) ≡ false
letter_not declared vs a p names fixed turnstile leaves =
    none_passes (λ t. bytes_eq t (a ∷ [])) (holds_text (own_naming declared) p)
    (open_passes (λ t. std.not (bytes_eq t (a ∷ []))) declared vs p fixed turnstile
    (λ i lt. not_false (bytes_eq (name_of declared i) (a ∷ []))
    (name_no_letter (name_of declared i) a (name_at declared i names lt)))
    (λ v h. not_false (bytes_eq (variable_token v) (a ∷ [])) (variable_no_letter v a)) leaves)

-- what is needed

any_same : {A : Type 0} (f g : A → Bool) (xs : List A) → ((x : A) → f x ≡ true → g x ≡ true)
    → list_any f xs ≡ true → list_any g xs ≡ true
any_same f g [] h there = there
any_same f g (x ∷ xs) h there =
    either (f x) (list_any f xs) there (λ l. either_true (g x) (list_any g xs) (h x l))
    (λ r. second_true (g x) (list_any g xs) (any_same f g xs h r))

-- a token occurs in one of the patterns
abbrev pub in_some : List Token → List Pattern → Token → Bool
in_some declared ps t = list_any (λ p. has_token (holds_text (own_naming declared) p) t) ps

pub none_in_some : (declared : List Token) (vs : List Variable) (t : Token) (ps : List Pattern)
    → ((p : Pattern) → EachLeaf (open_over declared vs) p
    → has_token (holds_text (own_naming declared) p) t ≡ false) → AreOpenOver declared vs ps
    → in_some declared ps t ≡ false
none_in_some declared vs t [] h leaves = refl
none_in_some declared vs t (p ∷ ps) h leaves =
    both_false (has_token (holds_text (own_naming declared) p) t) (in_some declared ps t)
    (h p leaves.0) (none_in_some declared vs t ps h leaves.1)

in_premises : (declared : List Token) (k j : ℕ) (ps : List Pattern) (t : Token)
    → list_any (frames.occurs_in t) (premise_hypotheses declared k j ps) ≡ in_some declared ps t
in_premises declared k j [] t = refl
in_premises declared k j (p ∷ ps) t =
    ap (λ (b : Bool). has_token (holds_text (own_naming declared) p) t || b)
    (in_premises declared k (j + 1) ps t)

in_no_float : (k : ℕ) (vs : List Variable) (t : Token)
    → list_any (frames.occurs_in t) (map (variable_float k) vs) ≡ false
in_no_float k [] t = refl
in_no_float k (v ∷ vs) t = in_no_float k vs t

in_no_header : (t : Token) → list_any (frames.occurs_in t) header_context.scope.hypotheses ≡ false
unfolding header_context
in_no_header t = refl

-- the scope inside a block
abbrev pub block_scope : List Token → ℕ → Context → ℕ → List Variable → List Pattern → Scope
block_scope declared k c at vs ps =
    (inside c at (variable_tokens vs) (own_hypotheses declared k vs ps) (separations vs)).scope

pub needed_is : (declared : List Token) (k : ℕ) (c : Context) (at : ℕ) (vs : List Variable)
    (ps : List Pattern) (q : Pattern) (t : Token) → Holds declared c
    → is_needed (block_scope declared k c at vs ps) (holds_text (own_naming declared) q) t
    ≡ in_some declared (q ∷ ps) t
needed_is declared k c at vs ps q t w =
    ap (λ (b : Bool). has_token (holds_text (own_naming declared) q) t || b)
    (list_any-append (frames.occurs_in t) c.scope.hypotheses (own_hypotheses declared k vs ps)
    ∙ ap (λ (b : Bool). b || list_any (frames.occurs_in t) (own_hypotheses declared k vs ps))
    (ap (λ (s : Scope). list_any (frames.occurs_in t) s.hypotheses) w.scope ∙ in_no_header t)
    ∙ list_any-append (frames.occurs_in t) (map (variable_float k) vs)
    (premise_hypotheses declared k 0 ps)
    ∙ ap (λ (b : Bool). b || list_any (frames.occurs_in t) (premise_hypotheses declared k 0 ps))
    (in_no_float k vs t)
    ∙ in_premises declared k 0 ps t)

-- which hypotheses are mandatory

filter-append : {A : Type 0} (test : A → Bool) (xs ys : List A)
    → filter test (xs ++ ys) ≡ filter test xs ++ filter test ys
filter-append test [] ys = refl
filter-append test (x ∷ xs) ys = go (test x) (filter-append test xs ys)
  where
    go : (b : Bool) → filter test (xs ++ ys) ≡ filter test xs ++ filter test ys
        → (if b then x ∷ filter test (xs ++ ys) else filter test (xs ++ ys))
        ≡ (if b then x ∷ filter test xs else filter test xs) ++ filter test ys
    go true h = ap (λ zs. x ∷ zs) h
    go false h = h

-- hypotheses that only type variables that are not needed
abbrev NoneNeeded : (Token → Bool) → List Hypothesis → Type 0
NoneNeeded need [] = Unit {0}
NoneNeeded need (floating l s v ∷ hs) = (need v ≡ false) × NoneNeeded need hs
NoneNeeded need (essential l t ∷ hs) = ⊥

none_filtered : (s : Scope) (text : List Token) (hs : List Hypothesis)
    → NoneNeeded (is_needed s text) hs → filter (is_mandatory s text) hs ≡ []
none_filtered s text [] h = refl
none_filtered s text (floating l c v ∷ hs) h =
    ap (λ (b : Bool). if b then floating l c v ∷ filter (is_mandatory s text) hs
    else filter (is_mandatory s text) hs) h.0 ∙ none_filtered s text hs h.1
none_filtered s text (essential l t ∷ hs) h = absurd h

header_unneeded : (need : Token → Bool) → need (codes "p") ≡ false → need (codes "q") ≡ false
    → need (codes "r") ≡ false → need (codes "t") ≡ false → need (codes "u") ≡ false
    → need (codes "x") ≡ false → need (codes "y") ≡ false → need (codes "s") ≡ false
    → need (codes "v") ≡ false → NoneNeeded need header_context.scope.hypotheses
unfolding header_context
header_unneeded need p q r t u x y s v = (p, (q, (r, (t, (u, (x, (y, (s, (v, tt)))))))))

floats_kept : (s : Scope) (text : List Token) (k : ℕ) (vs : List Variable)
    → list_all (λ v. is_needed s text (variable_token v)) vs ≡ true
    → filter (is_mandatory s text) (map (variable_float k) vs) ≡ map (variable_float k) vs
floats_kept s text k [] h = refl
floats_kept s text k (v ∷ vs) h =
    let both : (is_needed s text (variable_token v) ≡ true) ×
    (list_all (λ u. is_needed s text (variable_token u)) vs ≡ true) =
    split_true (is_needed s text (variable_token v))
    (list_all (λ u. is_needed s text (variable_token u)) vs) h in
    ap (λ (b : Bool). if b
    then variable_float k v ∷ filter (is_mandatory s text) (map (variable_float k) vs)
    else filter (is_mandatory s text) (map (variable_float k) vs)) both.0
    ∙ ap (λ (hs : List Hypothesis). variable_float k v ∷ hs) (floats_kept s text k vs both.1)

floats_dropped : (s : Scope) (text : List Token) (k : ℕ) (vs : List Variable)
    → list_any (λ v. is_needed s text (variable_token v)) vs ≡ false
    → filter (is_mandatory s text) (map (variable_float k) vs) ≡ []
floats_dropped s text k [] h = refl
floats_dropped s text k (v ∷ vs) h =
    let both : (is_needed s text (variable_token v) ≡ false) ×
    (list_any (λ u. is_needed s text (variable_token u)) vs ≡ false) =
    split_false (is_needed s text (variable_token v))
    (list_any (λ u. is_needed s text (variable_token u)) vs) h in
    ap (λ (b : Bool). if b
    then variable_float k v ∷ filter (is_mandatory s text) (map (variable_float k) vs)
    else filter (is_mandatory s text) (map (variable_float k) vs)) both.0
    ∙ floats_dropped s text k vs both.1

premises_kept : (s : Scope) (text : List Token) (declared : List Token) (k j : ℕ)
    (ps : List Pattern)
    → filter (is_mandatory s text) (premise_hypotheses declared k j ps)
    ≡ premise_hypotheses declared k j ps
premises_kept s text declared k j [] = refl
premises_kept s text declared k j (p ∷ ps) =
    ap (λ (hs : List Hypothesis). premise_hypotheses declared k j (p ∷ []) ++ hs)
    (premises_kept s text declared k (j + 1) ps)

-- which pairs have to stay apart

kept_tokens : (need : Token → Bool) (us ms : List Variable) (a : Token)
    → list_all (λ v. need (variable_token v)) us ≡ true
    → list_any (λ v. need (variable_token v)) ms ≡ false
    → (has_token (variable_tokens (us ++ ms)) a && need a) ≡ has_token (variable_tokens us) a
kept_tokens need [] [] a h g = refl
kept_tokens need [] (m ∷ ms) a h g =
    let both : (need (variable_token m) ≡ false) ×
    (list_any (λ v. need (variable_token v)) ms ≡ false) =
    split_false (need (variable_token m)) (list_any (λ v. need (variable_token v)) ms) g in
    go (bytes_eq (variable_token m) a) refl both.0 (kept_tokens need [] ms a h both.1)
  where
    go : (b : Bool) → bytes_eq (variable_token m) a ≡ b → need (variable_token m) ≡ false
        → (has_token (variable_tokens ms) a && need a) ≡ false
        → ((b || has_token (variable_tokens ms) a) && need a) ≡ false
    go true is none behind = ap need (sym ((bytes_eq-Decides (variable_token m) a).0 is)) ∙ none
    go false is none behind = behind
kept_tokens need (u ∷ us) ms a h g =
    let both : (need (variable_token u) ≡ true) ×
    (list_all (λ v. need (variable_token v)) us ≡ true) =
    split_true (need (variable_token u)) (list_all (λ v. need (variable_token v)) us) h in
    go (bytes_eq (variable_token u) a) refl both.0 (kept_tokens need us ms a both.1 g)
  where
    go : (b : Bool) → bytes_eq (variable_token u) a ≡ b → need (variable_token u) ≡ true
        → (has_token (variable_tokens (us ++ ms)) a && need a) ≡ has_token (variable_tokens us) a
        → ((b || has_token (variable_tokens (us ++ ms)) a) && need a)
        ≡ (b || has_token (variable_tokens us) a)
    go true is some behind = ap need (sym ((bytes_eq-Decides (variable_token u) a).0 is)) ∙ some
    go false is some behind = behind

filter_all : (test : Variable → Bool) (need : Variable → Bool) (vs : List Variable)
    → list_all need vs ≡ true → list_all need (filter test vs) ≡ true
filter_all test need [] h = refl
filter_all test need (v ∷ vs) h =
    let both : (need v ≡ true) × (list_all need vs ≡ true) =
    split_true (need v) (list_all need vs) h in
    go (test v) both.0 (filter_all test need vs both.1)
  where
    go : (b : Bool) → need v ≡ true → list_all need (filter test vs) ≡ true
        → list_all need (if b then v ∷ filter test vs else filter test vs) ≡ true
    go true some behind = both_true (need v) (list_all need (filter test vs)) some behind
    go false some behind = behind

filter_none : (test : Variable → Bool) (need : Variable → Bool) (vs : List Variable)
    → list_any need vs ≡ false → list_any need (filter test vs) ≡ false
filter_none test need [] h = refl
filter_none test need (v ∷ vs) h =
    let both : (need v ≡ false) × (list_any need vs ≡ false) =
    split_false (need v) (list_any need vs) h in
    go (test v) both.0 (filter_none test need vs both.1)
  where
    go : (b : Bool) → need v ≡ false → list_any need (filter test vs) ≡ false
        → list_any need (if b then v ∷ filter test vs else filter test vs) ≡ false
    go true none behind = both_false (need v) (list_any need (filter test vs)) none behind
    go false none behind = behind

pairs_law : (e a b p q m n : Bool)
    → ((std.not e && ((a && b) && (p || q))) && (m && n))
    ≡ (std.not e && (((a && m) && (b && n)) && ((p && m) || (q && n))))
pairs_law e a b p q true true =
    and_true (std.not e && ((a && b) && (p || q)))
    ∙ ap (λ (x : Bool). std.not e && ((x && b) && (p || q))) (sym (and_true a))
    ∙ ap (λ (x : Bool). std.not e && (((a && true) && x) && (p || q))) (sym (and_true b))
    ∙ ap (λ (x : Bool). std.not e && (((a && true) && (b && true)) && (x || q))) (sym (and_true p))
    ∙ ap (λ (x : Bool). std.not e && (((a && true) && (b && true)) && ((p && true) || x)))
    (sym (and_true q))
pairs_law e a b p q false n =
    and_false (std.not e && ((a && b) && (p || q)))
    ∙
    sym (ap (λ (x : Bool). std.not e
    && ((x && (b && n))
    && ((p && false) || (q && n)))) (and_false a) ∙ and_false (std.not e))
pairs_law e a b p q true false =
    and_false (std.not e && ((a && b) && (p || q)))
    ∙
    sym (ap (λ (x : Bool). std.not e
    && (((a && true) && x)
    && ((p && true)
    || (q
    &&
    false)))) (and_false b) ∙ ap (λ (x : Bool). std.not e && (x && ((p && true) || (q
    && false)))) (and_false (a && true)) ∙ and_false (std.not e))

object_append : (vs more : List Variable)
    → object_tokens (vs ++ more) ≡ variable_tokens (filter is_object vs ++ filter is_object more)
object_append vs more = ap variable_tokens (filter-append is_object vs more)

kept_pairs : (need : Token → Bool) (vs more : List Variable) (a b : Token)
    → list_all (λ v. need (variable_token v)) vs ≡ true
    → list_any (λ v. need (variable_token v)) more ≡ false
    → (are_apart (vs ++ more) a b && (need a && need b)) ≡ are_apart vs a b
kept_pairs need vs more a b h g =
    pairs_law (bytes_eq a b) (has_token (variable_tokens (vs ++ more)) a)
    (has_token (variable_tokens (vs ++ more)) b) (has_token (object_tokens (vs ++ more)) a)
    (has_token (object_tokens (vs ++ more)) b) (need a) (need b)
    ∙ ap (λ (x : Bool). std.not (bytes_eq a b)
    && ((x && (has_token (variable_tokens (vs ++ more)) b && need b))
    && ((has_token (object_tokens (vs ++ more)) a && need a)
    || (has_token (object_tokens (vs ++ more)) b && need b))))
    (kept_tokens need vs more a h g)
    ∙ ap (λ (x : Bool). std.not (bytes_eq a b)
    && ((has_token (variable_tokens vs) a && x)
    && ((has_token (object_tokens (vs ++ more)) a && need a)
    || (has_token (object_tokens (vs ++ more)) b && need b))))
    (kept_tokens need vs more b h g)
    ∙ ap (λ (x : Bool). std.not (bytes_eq a b)
    && ((has_token (variable_tokens vs) a && has_token (variable_tokens vs) b)
    && (x || (has_token (object_tokens (vs ++ more)) b && need b)))) (objects a)
    ∙ ap (λ (x : Bool). std.not (bytes_eq a b)
    && ((has_token (variable_tokens vs) a && has_token (variable_tokens vs) b)
    && (has_token (object_tokens vs) a || x))) (objects b)
  where
    objects : (t : Token)
        → (has_token (object_tokens (vs ++ more)) t && need t) ≡ has_token (object_tokens vs) t
    objects t = ap (λ (ts : List Token). has_token ts t && need t) (object_append vs more)
        ∙ kept_tokens need (filter is_object vs) (filter is_object more) t
        (filter_all is_object (λ v. need (variable_token v)) vs h)
        (filter_none is_object (λ v. need (variable_token v)) more g)

header_no_pair : (a b : Token) → header_context.scope.apart a b ≡ false
unfolding header_context
header_no_pair a b = refl

-- the frame of a claim in its block, in which more variables may be declared

all_needed : (declared : List Token) (s : Claim) (need : Token → Bool) (vs : List Variable)
    → ((t : Token) → need t ≡ in_some declared (s.conclusion ∷ s.hypotheses) t)
    → list_all (λ v. list_any (occurs_in v) (s.conclusion ∷ s.hypotheses)) vs ≡ true
    → list_all (λ v. need (variable_token v)) vs ≡ true
all_needed declared s need [] is h = refl
all_needed declared s need (v ∷ vs) is h =
    let both : (list_any (occurs_in v) (s.conclusion ∷ s.hypotheses) ≡ true) ×
    (list_all (λ u. list_any (occurs_in u) (s.conclusion ∷ s.hypotheses)) vs ≡ true) =
    split_true (list_any (occurs_in v) (s.conclusion ∷ s.hypotheses))
    (list_all (λ u. list_any (occurs_in u) (s.conclusion ∷ s.hypotheses)) vs) h in
    both_true (need (variable_token v)) (list_all (λ u. need (variable_token u)) vs)
    (is (variable_token v)
    ∙ any_same (occurs_in v)
    (λ p. has_token (holds_text (own_naming declared) p) (variable_token v))
    (s.conclusion ∷ s.hypotheses) (λ p there. behind_one (codes "|-")
    (text_by (letters_of (own_naming declared)) p) (variable_token v)
    (stands_token declared v p there)) both.0)
    (all_needed declared s need vs is both.1)

-- the other variables are not among the first ones

drop_first : (a b : Bool) → std.not (a || b) ≡ true → std.not b ≡ true
drop_first true b h = absurd (false≢true h)
drop_first false b h = h

keep_first : (a b c : Bool) → std.not (a || b) ≡ true → (std.not b ≡ true → std.not c ≡ true)
    → std.not (a || c) ≡ true
keep_first true b c h f = absurd (false≢true h)
keep_first false b c h f = f h

not_among : (vs : List Variable) (m : Variable) (more : List Variable) (v : Variable)
    → std.not (has_variable (vs ++ m ∷ more) v) ≡ true
    → std.not (has_variable (vs ++ more) v) ≡ true
not_among [] m more v h = drop_first (same_variable m v) (has_variable more v) h
not_among (u ∷ vs) m more v h =
    keep_first (same_variable u v) (has_variable (vs ++ m ∷ more) v) (has_variable (vs ++ more) v) h
    (not_among vs m more v)

once_without : (vs : List Variable) (m : Variable) (more : List Variable)
    → are_once (vs ++ m ∷ more) ≡ true → are_once (vs ++ more) ≡ true
once_without [] m more h = (split_true (std.not (has_variable more m)) (are_once more) h).1
once_without (v ∷ vs) m more h =
    let both : (std.not (has_variable (vs ++ m ∷ more) v) ≡ true) ×
    (are_once (vs ++ m ∷ more) ≡ true) =
    split_true (std.not (has_variable (vs ++ m ∷ more) v)) (are_once (vs ++ m ∷ more)) h in
    both_true (std.not (has_variable (vs ++ more) v)) (are_once (vs ++ more))
    (not_among vs m more v both.0) (once_without vs m more both.1)

others_not : (vs more : List Variable) → are_once (vs ++ more) ≡ true
    → list_any (has_variable vs) more ≡ false
others_not vs [] h = refl
others_not vs (m ∷ more) h =
    both_false (has_variable vs m) (list_any (has_variable vs) more) (new_variable vs m more h)
    (others_not vs more (once_without vs m more h))

none_needed : (declared : List Token) (s : Claim) (need : Token → Bool) (more : List Variable)
    → ((t : Token) → need t ≡ in_some declared (s.conclusion ∷ s.hypotheses) t) → AreNames declared
    → IsClaim declared s → AreNumbered more → list_any (has_variable s.variables) more ≡ false
    → list_any (λ v. need (variable_token v)) more ≡ false
none_needed declared s need [] is names w numbered h = refl
none_needed declared s need (m ∷ more) is names w numbered h =
    let both : (has_variable s.variables m ≡ false) ×
    (list_any (has_variable s.variables) more ≡ false) =
    split_false (has_variable s.variables m) (list_any (has_variable s.variables) more) h in
    both_false (need (variable_token m)) (list_any (λ v. need (variable_token v)) more)
    (is (variable_token m)
    ∙ none_in_some declared s.variables (variable_token m) (s.conclusion ∷ s.hypotheses)
    (λ p leaves.
    stands_not declared s.variables m p names w.numbered numbered.0 both.0 leaves)
    w.over)
    (none_needed declared s need more is names w numbered.1 both.1)

pub frame_is : (declared : List Token) (k : ℕ) (c : Context) (at : ℕ) (s : Claim)
    (more : List Variable) → Holds declared c → AreNames declared → IsClaim declared s
    → are_once (s.variables ++ more) ≡ true → AreNumbered (s.variables ++ more)
    → frame_of (block_scope declared k c at (s.variables ++ more) s.hypotheses) (statement_label k)
    (holds_text (own_naming declared) s.conclusion) ≡ open_frame declared k s
frame_is declared k c at s more w names claim once numbered =
    ap (λ (hs : List Hypothesis). let f : Frame =
    record {
      label = statement_label k;
      hypotheses = hs;
      apart =
          λ a b. (block_scope declared k c at (s.variables ++ more)
          s.hypotheses).apart a b && (need a && need b);
      statement = text;
    } in
    f) hypotheses
    ∙ ap (λ (pairs : Token → Token → Bool). let f : Frame =
    record {
      label = statement_label k;
      hypotheses = own_hypotheses declared k s.variables s.hypotheses;
      apart = pairs;
      statement = text;
    } in
    f) (fun_ext (λ a. fun_ext (λ b. pair a b)))
  where
    text : List Token
    text = holds_text (own_naming declared) s.conclusion

    scope : Scope
    scope = block_scope declared k c at (s.variables ++ more) s.hypotheses

    need : Token → Bool
    need =
        is_needed (block_scope declared k c at (s.variables ++ more) s.hypotheses)
        (holds_text (own_naming declared) s.conclusion)

    is : (t : Token) → need t ≡ in_some declared (s.conclusion ∷ s.hypotheses) t
    is t = needed_is declared k c at (s.variables ++ more) s.hypotheses s.conclusion t w

    some : list_all (λ v. need (variable_token v)) s.variables ≡ true
    some = all_needed declared s need s.variables is claim.stand

    none : list_any (λ v. need (variable_token v)) more ≡ false
    none =
        none_needed declared s need more is names claim (numbered_behind s.variables more numbered)
        (others_not s.variables more once)

    letter : (a : ℕ) → PassFixed (λ t. std.not (bytes_eq t (a ∷ [])))
        → std.not (bytes_eq (codes "|-") (a ∷ [])) ≡ true → need (a ∷ []) ≡ false
    letter a fixed turnstile = is (a ∷ [])
        ∙ none_in_some declared s.variables (a ∷ []) (s.conclusion ∷ s.hypotheses)
        (λ p leaves. letter_not declared s.variables a p names fixed turnstile leaves)
        claim.over

    header : filter (is_mandatory scope text) c.scope.hypotheses ≡ []
    header = ap (λ (o : Scope). filter (is_mandatory scope text) o.hypotheses) w.scope
        ∙ none_filtered scope text header_context.scope.hypotheses (header_unneeded need
        (letter 112 refl refl) (letter 113 refl refl) (letter 114 refl refl)
        (letter 116 refl refl) (letter 117 refl refl) (letter 120 refl refl)
        (letter 121 refl refl) (letter 115 refl refl) (letter 118 refl refl))

    floats : filter (is_mandatory scope text) (map (variable_float k) (s.variables ++ more))
        ≡ map (variable_float k) s.variables
    floats = ap (filter (is_mandatory scope text)) (map-append (variable_float k) s.variables more)
        ∙ filter-append (is_mandatory scope text) (map (variable_float k) s.variables)
        (map (variable_float k) more)
        ∙ ap (λ (hs : List Hypothesis).
        hs ++ filter (is_mandatory scope text) (map (variable_float k) more))
        (floats_kept scope text k s.variables some)
        ∙ ap (λ (hs : List Hypothesis). map (variable_float k) s.variables ++ hs)
        (floats_dropped scope text k more none)
        ∙ append_nil (map (variable_float k) s.variables)
      where
        append_nil : (hs : List Hypothesis) → hs ++ [] ≡ hs
        append_nil [] = refl
        append_nil (h ∷ hs) = ap (λ (gs : List Hypothesis). h ∷ gs) (append_nil hs)

    hypotheses : filter (is_mandatory scope text) scope.hypotheses
        ≡ own_hypotheses declared k s.variables s.hypotheses
    hypotheses =
        filter-append (is_mandatory scope text) c.scope.hypotheses
        (own_hypotheses declared k (s.variables ++ more) s.hypotheses)
        ∙ ap (λ (hs : List Hypothesis). hs
        ++ filter (is_mandatory scope text)
        (own_hypotheses declared k (s.variables ++ more) s.hypotheses)) header
        ∙ filter-append (is_mandatory scope text) (map (variable_float k) (s.variables ++ more))
        (premise_hypotheses declared k 0 s.hypotheses)
        ∙ ap (λ (hs : List Hypothesis). hs
        ++ filter (is_mandatory scope text) (premise_hypotheses declared k 0 s.hypotheses))
        floats
        ∙ ap (λ (hs : List Hypothesis). map (variable_float k) s.variables ++ hs)
        (premises_kept scope text declared k 0 s.hypotheses)

    pair : (a b : Token) → (scope.apart a b && (need a && need b)) ≡ are_apart s.variables a b
    pair a b =
        ap (λ (x : Bool). (x
        || list_any (λ d. are_different_tokens d a b)
        (separations (s.variables ++ more))) && (need a && need b))
        (ap (λ (o : Scope). o.apart a b) w.scope ∙ header_no_pair a b)
        ∙ ap (λ (x : Bool). x && (need a && need b)) (separations_apart (s.variables ++ more) a b)
        ∙ kept_pairs need s.variables more a b some none
