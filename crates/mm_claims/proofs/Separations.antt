-- Which variables a block keeps apart.
use Rattle.std.proofs.Common.{◌≡◌, ◌<◌, ◌^◌, Bool, true, false, List, [], ◌∷◌, ◌++◌, map, refl, ap}
use Rattle.std.proofs.Common.{◌∙◌, sym}
use Rattle.std.specs.Prelude.{◌&&◌, ◌||◌, not, if◌then◌else◌, filter, bytes_eq}
use Rattle.std.specs.List.{list_any, list_all}
use Rattle.std.proofs.lemmas.Bool.{false≢true}
use Rattle.std.proofs.lemmas.Slice.Eq.{bytes_eq-Decides}
use Rattle.mm_text.specs.Bytes.{Token, has_token, has_repeated}
use Rattle.mm_database.specs.Forms.{has_dollar}
use Rattle.mm_database.specs.Database.{are_different_tokens}
use Rattle.ml_pat.proofs.LeafLaws.{both_true, split_true, not_true}
use Rattle.mm_claims.specs.Variables.{Variable, object_variable, pattern_variable, is_object}
use Rattle.mm_claims.specs.Variables.{number_of, same_variable, has_variable, are_once, AreNumbered}
use Rattle.mm_claims.specs.Variables.{variable_token, variable_tokens, object_tokens, are_several}
use Rattle.mm_claims.specs.Blocks.{separated, separations, are_apart}
use Rattle.mm_claims.proofs.StatedLaws.{itself}
use Rattle.mm_claims.proofs.VariableLaws.{VariableFacts, variable_facts, token_differs, same_is}
use Rattle.mm_claims.proofs.VariableLaws.{itself_same, turned_variable, has_append, numbered_both}
use Rattle.mm_claims.proofs.VariableLaws.{once_more}
use Rattle.mm_claims.proofs.InsideLaws.{list_any-append, map-append, AreSymbols}
use Rattle.mm_claims.proofs.BoolLaws.{both_false, second_true, not_false, or_false, and_true}
use Rattle.mm_claims.proofs.BoolLaws.{split_false, and_false}
use Rattle.mm_text.specs.PlainTokens.{is_plain_token}
use Rattle.mm_database.specs.CleanTokens.{are_clean}

-- variables among others

pub numbered_front : (us vs : List Variable) → AreNumbered (us ++ vs) → AreNumbered us
numbered_front [] vs h = tt
numbered_front (u ∷ us) vs h = (h.0, numbered_front us vs h.1)

pub numbered_behind : (us vs : List Variable) → AreNumbered (us ++ vs) → AreNumbered vs
numbered_behind [] vs h = h
numbered_behind (u ∷ us) vs h = numbered_behind us vs h.1

pub once_front : (us vs : List Variable) → are_once (us ++ vs) ≡ true → are_once us ≡ true
once_front [] vs h = refl
once_front (u ∷ us) vs h =
    let both : (not (has_variable (us ++ vs) u) ≡ true) × (are_once (us ++ vs) ≡ true) =
    split_true (not (has_variable (us ++ vs) u)) (are_once (us ++ vs)) h in
    let none : (has_variable us u || has_variable vs u) ≡ false =
    sym (has_append us vs u) ∙ not_true (has_variable (us ++ vs) u) both.0 in
    both_true (not (has_variable us u)) (are_once us)
    (not_false (has_variable us u) (split_false (has_variable us u) (has_variable vs u) none).0)
    (once_front us vs both.1)

-- a variable after others is none of them
pub new_variable : (us : List Variable) (v : Variable) (vs : List Variable)
    → are_once (us ++ v ∷ vs) ≡ true → has_variable us v ≡ false
new_variable [] v vs h = refl
new_variable (u ∷ us) v vs h =
    let both : (not (has_variable (us ++ v ∷ vs) u) ≡ true) × (are_once (us ++ v ∷ vs) ≡ true) =
    split_true (not (has_variable (us ++ v ∷ vs) u)) (are_once (us ++ v ∷ vs)) h in
    let none : (has_variable us u || has_variable (v ∷ vs) u) ≡ false =
    sym (has_append us (v ∷ vs) u) ∙ not_true (has_variable (us ++ v ∷ vs) u) both.0 in
    let here : same_variable v u ≡ false =
    (split_false (same_variable v u) (has_variable vs u)
    (split_false (has_variable us u) (has_variable (v ∷ vs) u) none).1).0 in
    both_false (same_variable u v) (has_variable us v) (turned_variable v u here)
    (new_variable us v vs both.1)

pub absent_token : (vs : List Variable) (v : Variable) → AreNumbered vs → number_of v < 2 ^ 64
    → has_variable vs v ≡ false → has_token (variable_tokens vs) (variable_token v) ≡ false
absent_token [] v all small h = refl
absent_token (u ∷ vs) v all small h =
    let both : (same_variable u v ≡ false) × (has_variable vs v ≡ false) =
    split_false (same_variable u v) (has_variable vs v) h in
    both_false (bytes_eq (variable_token u) (variable_token v))
    (has_token (variable_tokens vs) (variable_token v)) (token_differs u v all.0 small both.0)
    (absent_token vs v all.1 small both.1)

pub present_token : (vs : List Variable) (v : Variable) → has_variable vs v ≡ true
    → has_token (variable_tokens vs) (variable_token v) ≡ true
present_token [] v h = h
present_token (u ∷ vs) v h = go (same_variable u v) refl h (present_token vs v)
  where
    go : (b : Bool) → same_variable u v ≡ b → (b || has_variable vs v) ≡ true
        → (has_variable vs v ≡ true → has_token (variable_tokens vs) (variable_token v) ≡ true)
        → (bytes_eq (variable_token u) (variable_token v)
        || has_token (variable_tokens vs) (variable_token v)) ≡ true
    go true is there behind =
        ap (λ (b : Bool). b || has_token (variable_tokens vs) (variable_token v)) (ap
        (λ (x : Variable). bytes_eq (variable_token u) (variable_token x))
        (sym (same_is u v is)) ∙ itself (variable_token u))
    go false is there behind =
        second_true (bytes_eq (variable_token u) (variable_token v))
        (has_token (variable_tokens vs) (variable_token v)) (behind there)

-- filtered

pub filtered_none : (test : Variable → Bool) (vs : List Variable) (v : Variable)
    → has_variable vs v ≡ false → has_variable (filter test vs) v ≡ false
filtered_none test [] v h = refl
filtered_none test (u ∷ vs) v h =
    let both : (same_variable u v ≡ false) × (has_variable vs v ≡ false) =
    split_false (same_variable u v) (has_variable vs v) h in
    go (test u) both (filtered_none test vs v both.1)
  where
    go : (b : Bool) → (same_variable u v ≡ false) × (has_variable vs v ≡ false)
        → has_variable (filter test vs) v ≡ false
        → has_variable (if b then u ∷ filter test vs else filter test vs) v ≡ false
    go true both behind =
        both_false (same_variable u v) (has_variable (filter test vs) v) both.0 behind
    go false both behind = behind

filtered_once : (test : Variable → Bool) (vs : List Variable) → are_once vs ≡ true
    → are_once (filter test vs) ≡ true
filtered_once test [] h = refl
filtered_once test (v ∷ vs) h =
    let both : (not (has_variable vs v) ≡ true) × (are_once vs ≡ true) =
    split_true (not (has_variable vs v)) (are_once vs) h in
    go (test v) (filtered_none test vs v (not_true (has_variable vs v) both.0))
    (filtered_once test vs both.1)
  where
    go : (b : Bool) → has_variable (filter test vs) v ≡ false → are_once (filter test vs) ≡ true
        → are_once (if b then v ∷ filter test vs else filter test vs) ≡ true
    go true none behind =
        both_true (not (has_variable (filter test vs) v)) (are_once (filter test vs))
        (not_false (has_variable (filter test vs) v) none) behind
    go false none behind = behind

filtered_numbered : (test : Variable → Bool) (vs : List Variable) → AreNumbered vs
    → AreNumbered (filter test vs)
filtered_numbered test [] h = tt
filtered_numbered test (v ∷ vs) h = go (test v) (filtered_numbered test vs h.1)
  where
    go : (b : Bool) → AreNumbered (filter test vs)
        → AreNumbered (if b then v ∷ filter test vs else filter test vs)
    go true behind = (h.0, behind)
    go false behind = behind

-- each is one of some variables
abbrev pub AreAmong : List Variable → List Variable → Type 0
AreAmong vs [] = Unit {0}
AreAmong vs (w ∷ ws) = (has_variable vs w ≡ true) × AreAmong vs ws

pub more_among : (v : Variable) (vs ws : List Variable) → AreAmong vs ws → AreAmong (v ∷ vs) ws
more_among v vs [] h = tt
more_among v vs (w ∷ ws) h =
    (second_true (same_variable v w) (has_variable vs w) h.0, more_among v vs ws h.1)

filtered_among : (test : Variable → Bool) (vs : List Variable) → AreAmong vs (filter test vs)
filtered_among test [] = tt
filtered_among test (v ∷ vs) =
    go (test v) (more_among v vs (filter test vs) (filtered_among test vs))
  where
    go : (b : Bool) → AreAmong (v ∷ vs) (filter test vs)
        → AreAmong (v ∷ vs) (if b then v ∷ filter test vs else filter test vs)
    go true behind = (ap (λ (b : Bool). b || has_variable vs v) (itself_same v), behind)
    go false behind = behind

all_filtered : (test : Variable → Bool) (vs : List Variable) → list_all test (filter test vs) ≡ true
all_filtered test [] = refl
all_filtered test (v ∷ vs) = go (test v) refl (all_filtered test vs)
  where
    go : (b : Bool) → test v ≡ b → list_all test (filter test vs) ≡ true
        → list_all test (if b then v ∷ filter test vs else filter test vs) ≡ true
    go true is behind = both_true (test v) (list_all test (filter test vs)) is behind
    go false is behind = behind

-- what a `$d` needs of its variables
pub record IsSeparated (vs ws : List Variable) : Type 0 where
  pub once : are_once ws ≡ true
  pub numbered : AreNumbered ws
  pub among : AreAmong vs ws

abbrev pub EachSeparated : List Variable → List (List Variable) → Type 0
EachSeparated vs [] = Unit {0}
EachSeparated vs (ws ∷ wss) = (IsSeparated vs ws × (are_several ws ≡ true)) × EachSeparated vs wss

abbrev AllSeparated : List Variable → List (List Variable) → Type 0
AllSeparated vs [] = Unit {0}
AllSeparated vs (ws ∷ wss) = IsSeparated vs ws × AllSeparated vs wss

no_object : (us : List Variable) (v : Variable) → list_all is_object us ≡ true → is_object v ≡ false
    → has_variable us v ≡ false
no_object [] v h g = refl
no_object (object_variable i ∷ us) (object_variable j) h g = absurd (false≢true (sym g))
no_object (object_variable i ∷ us) (pattern_variable j) h g = no_object us (pattern_variable j) h g
no_object (pattern_variable i ∷ us) v h g = absurd (false≢true h)

among_both : (vs us ws : List Variable) → AreAmong vs us → AreAmong vs ws → AreAmong vs (us ++ ws)
among_both vs [] ws h g = g
among_both vs (u ∷ us) ws h g = (h.0, among_both vs us ws h.1 g)

pub each_separated : (vs : List Variable) → are_once vs ≡ true → AreNumbered vs
    → EachSeparated vs (separated vs)
each_separated vs once numbered =
    kept (filter is_object vs
    ∷ map (λ v. filter is_object vs ++ v ∷ []) (filter (λ v. not (is_object v)) vs)) (
      objects,
      with_each (filter (λ v. not (is_object v)) vs) (filtered_among (λ v. not (is_object v)) vs)
          (filtered_numbered (λ v. not (is_object v)) vs numbered)
          (all_filtered (λ v. not (is_object v)) vs),
    )
  where
    objects : IsSeparated vs (filter is_object vs)
    objects = record {
      once = filtered_once is_object vs once;
      numbered = filtered_numbered is_object vs numbered;
      among = filtered_among is_object vs;
    }

    with_each : (ms : List Variable) → AreAmong vs ms → AreNumbered ms
        → list_all (λ v. not (is_object v)) ms ≡ true
        → AllSeparated vs (map (λ v. filter is_object vs ++ v ∷ []) ms)
    with_each [] h g f = tt
    with_each (m ∷ ms) h g f =
        let both : (not (is_object m) ≡ true) × (list_all (λ v. not (is_object v)) ms ≡ true) =
        split_true (not (is_object m)) (list_all (λ v. not (is_object v)) ms) f in (
          record {
            once =
                once_more (filter is_object vs) m objects.once (no_object (filter is_object vs) m
                (all_filtered is_object vs) (not_true (is_object m) both.0));
            numbered = numbered_both (filter is_object vs) (m ∷ []) objects.numbered (g.0, tt);
            among = among_both vs (filter is_object vs) (m ∷ []) objects.among (h.0, tt);
          },
          with_each ms h.1 g.1 both.1,
        )

    kept : (wss : List (List Variable)) → AllSeparated vs wss
        → EachSeparated vs (filter (λ ws. are_several ws) wss)
    kept [] h = tt
    kept (ws ∷ wss) h = go (are_several ws) refl (kept wss h.1)
      where
        go : (b : Bool) → are_several ws ≡ b → EachSeparated vs (filter (λ us. are_several us) wss)
            → EachSeparated vs (if b then ws ∷ filter (λ us. are_several us) wss
            else filter (λ us. are_several us) wss)
        go true is behind = ((h.0, is), behind)
        go false is behind = behind

-- and what the tokens of the `$d` are

pub separated_once : (ws : List Variable) → are_once ws ≡ true → AreNumbered ws
    → has_repeated (variable_tokens ws) ≡ false
separated_once [] h g = refl
separated_once (w ∷ ws) h g =
    let both : (not (has_variable ws w) ≡ true) × (are_once ws ≡ true) =
    split_true (not (has_variable ws w)) (are_once ws) h in
    both_false (has_token (variable_tokens ws) (variable_token w))
    (has_repeated (variable_tokens ws))
    (absent_token ws w g.1 g.0 (not_true (has_variable ws w) both.0))
    (separated_once ws both.1 g.1)

pub variables_are_symbols : (ws : List Variable) → AreNumbered ws → AreSymbols (variable_tokens ws)
variables_are_symbols [] g = record { plain = refl; clean = refl }
variables_are_symbols (w ∷ ws) g =
    let facts : VariableFacts w = variable_facts w g.0 in
    let rest : AreSymbols (variable_tokens ws) = variables_are_symbols ws g.1 in
    record {
      plain =
          both_true (is_plain_token (variable_token w))
          (list_all is_plain_token (variable_tokens ws)) facts.plain rest.plain;
      clean =
          both_true (not (has_dollar (variable_token w))) (are_clean (variable_tokens ws))
          (not_false (has_dollar (variable_token w)) facts.clean) rest.clean;
    }

pub all_among : (vs ws : List Variable) → AreAmong vs ws
    → list_all (has_token (variable_tokens vs)) (variable_tokens ws) ≡ true
all_among vs [] h = refl
all_among vs (w ∷ ws) h =
    both_true (has_token (variable_tokens vs) (variable_token w))
    (list_all (has_token (variable_tokens vs)) (variable_tokens ws)) (present_token vs w h.0)
    (all_among vs ws h.1)

-- which tokens the `$d`s keep apart

any_none : {A : Type 0} (test : A → Bool) (xs : List A) → ((x : A) → test x ≡ false)
    → list_any test xs ≡ false
any_none test [] h = refl
any_none test (x ∷ xs) h = both_false (test x) (list_any test xs) (h x) (any_none test xs h)

any_same : {A : Type 0} (f g : A → Bool) (xs : List A) → ((x : A) → f x ≡ g x)
    → list_any f xs ≡ list_any g xs
any_same f g [] h = refl
any_same f g (x ∷ xs) h =
    ap (λ (b : Bool). b || list_any f xs) (h x) ∙ ap (λ (b : Bool). g x || b) (any_same f g xs h)

-- a token is not equal to two different tokens
both_same : (t a b : Token) → bytes_eq a b ≡ false → (bytes_eq t a && bytes_eq t b) ≡ false
both_same t a b h = go (bytes_eq t a) refl (bytes_eq t b) refl
  where
    go : (x : Bool) → bytes_eq t a ≡ x → (y : Bool) → bytes_eq t b ≡ y → (x && y) ≡ false
    go false is y at = refl
    go true is false at = refl
    go true is true at =
        absurd (false≢true (sym h
        ∙ (bytes_eq-Decides a b).1
        (sym ((bytes_eq-Decides t a).0 is) ∙ (bytes_eq-Decides t b).0 at)))

-- fewer than two variables keep no tokens apart
few_apart : (ws : List Variable) (a b : Token) → are_several ws ≡ false
    → are_different_tokens (variable_tokens ws) a b ≡ false
few_apart [] a b h = and_false (not (bytes_eq a b))
few_apart (w ∷ []) a b h = go (bytes_eq a b) refl
  where
    go : (e : Bool) → bytes_eq a b ≡ e
        → (not e
        && ((bytes_eq (variable_token w) a || false)
        && (bytes_eq (variable_token w) b || false))) ≡ false
    go true is = refl
    go false is =
        ap (λ (x : Bool). x && (bytes_eq (variable_token w) b || false))
        (or_false (bytes_eq (variable_token w) a))
        ∙ ap (λ (x : Bool). bytes_eq (variable_token w) a && x)
        (or_false (bytes_eq (variable_token w) b)) ∙ both_same (variable_token w) a b is
few_apart (w ∷ (v ∷ ws)) a b h = absurd (false≢true (sym h))

kept_apart : (wss : List (List Variable)) (a b : Token)
    → list_any (λ d. are_different_tokens d a b)
    (map variable_tokens (filter (λ ws. are_several ws) wss))
    ≡ list_any (λ ws. are_different_tokens (variable_tokens ws) a b) wss
kept_apart [] a b = refl
kept_apart (ws ∷ wss) a b = go (are_several ws) refl (kept_apart wss a b)
  where
    go : (e : Bool) → are_several ws ≡ e
        → list_any (λ d. are_different_tokens d a b)
        (map variable_tokens (filter (λ us. are_several us) wss))
        ≡ list_any (λ us. are_different_tokens (variable_tokens us) a b) wss
        → list_any (λ d. are_different_tokens d a b) (map variable_tokens (if e
        then ws ∷ filter (λ us. are_several us) wss else filter (λ us. are_several us) wss))
        ≡ (are_different_tokens (variable_tokens ws) a b
        || list_any (λ us. are_different_tokens (variable_tokens us) a b) wss)
    go true is behind = ap (λ (x : Bool). are_different_tokens (variable_tokens ws) a b || x) behind
    go false is behind = behind
        ∙ ap (λ (x : Bool). x || list_any (λ us. are_different_tokens (variable_tokens us) a b) wss)
        (sym (few_apart ws a b is))

any_map : {A B : Type 0} (f : A → B) (test : B → Bool) (xs : List A)
    → list_any test (map f xs) ≡ list_any (λ x. test (f x)) xs
any_map f test [] = refl
any_map f test (x ∷ xs) = ap (λ (b : Bool). test (f x) || b) (any_map f test xs)

-- the token of a variable is that of an object variable or of a pattern variable
parted_tokens : (vs : List Variable) (a : Token)
    → has_token (variable_tokens vs) a
    ≡ (has_token (object_tokens vs) a
    || has_token (variable_tokens (filter (λ v. not (is_object v)) vs)) a)
parted_tokens [] a = refl
parted_tokens (object_variable i ∷ vs) a =
    ap (λ (x : Bool). bytes_eq (variable_token (object_variable i)) a || x) (parted_tokens vs a)
    ∙
    sym (or_assoc (bytes_eq (variable_token (object_variable i))
    a) (has_token (object_tokens vs) a) (has_token
    (variable_tokens (filter (λ v. not (is_object v)) vs)) a))
  where
    or_assoc : (x y z : Bool) → ((x || y) || z) ≡ (x || (y || z))
    or_assoc true y z = refl
    or_assoc false y z = refl
parted_tokens (pattern_variable i ∷ vs) a =
    ap (λ (x : Bool). bytes_eq (variable_token (pattern_variable i)) a || x) (parted_tokens vs a)
    ∙ or_turned (bytes_eq (variable_token (pattern_variable i)) a)
    (has_token (object_tokens vs) a)
    (has_token (variable_tokens (filter (λ v. not (is_object v)) vs)) a)
  where
    or_turned : (x y z : Bool) → (x || (y || z)) ≡ (y || (x || z))
    or_turned true true z = refl
    or_turned true false z = refl
    or_turned false true z = refl
    or_turned false false z = refl

abbrev objects : List Variable → List Variable
objects vs = filter is_object vs

abbrev patterns : List Variable → List Variable
patterns vs = filter (λ v. not (is_object v)) vs

abbrev one_more : List Variable → Token → Token → Variable → Bool
one_more vs a b v = not (bytes_eq a b)
    && ((has_token (object_tokens vs) a || bytes_eq (variable_token v) a)
    && (has_token (object_tokens vs) b || bytes_eq (variable_token v) b))

pub separations_apart : (vs : List Variable) (a b : Token)
    → list_any (λ d. are_different_tokens d a b) (separations vs) ≡ are_apart vs a b
separations_apart vs a b =
    kept_apart ((objects vs) ∷ map (λ v. (objects vs) ++ v ∷ []) (patterns vs)) a b
    ∙ ap (λ (x : Bool). are_different_tokens (variable_tokens (objects vs)) a b || x)
    (any_map (λ (v : Variable). (objects vs) ++ v ∷ [])
    (λ ws. are_different_tokens (variable_tokens ws) a b) (patterns vs)
    ∙ any_same (λ v. are_different_tokens (variable_tokens ((objects vs) ++ v ∷ [])) a b)
    (one_more vs a b) (patterns vs) one_is)
    ∙ cases (bytes_eq a b) refl (has_token (object_tokens vs) a) refl
    (has_token (object_tokens vs) b) refl
    ∙ ap (λ (x : Bool). not (bytes_eq a b)
    && ((x
    && (has_token (object_tokens vs) b
    || has_token (variable_tokens (patterns vs)) b))
    && (has_token (object_tokens vs) a || has_token (object_tokens vs) b)))
    (sym (parted_tokens vs a))
    ∙ ap (λ (x : Bool). not (bytes_eq a b)
    && ((has_token (variable_tokens vs) a && x)
    && (has_token (object_tokens vs) a || has_token (object_tokens vs) b)))
    (sym (parted_tokens vs b))
  where
    token_more : (v : Variable) (t : Token)
        → has_token (variable_tokens ((objects vs) ++ v ∷ [])) t
        ≡ (has_token (object_tokens vs) t || bytes_eq (variable_token v) t)
    token_more v t =
        ap (λ (ts : List Token). has_token ts t) (map-append variable_token (objects vs) (v ∷ []))
        ∙ list_any-append (λ u. bytes_eq u t) (variable_tokens (objects vs))
        (variable_token v ∷ [])
        ∙ ap (λ (x : Bool). has_token (object_tokens vs) t || x)
        (or_false (bytes_eq (variable_token v) t))

    one_is : (v : Variable)
        → are_different_tokens (variable_tokens ((objects vs) ++ v ∷ [])) a b ≡ (one_more vs a b v)
    one_is v =
        ap (λ (x : Bool). not (bytes_eq a b)
        && (x && has_token (variable_tokens ((objects vs) ++ v ∷ [])) b))
        (token_more v a)
        ∙ ap (λ (x : Bool). not (bytes_eq a b)
        && ((has_token (object_tokens vs) a || bytes_eq (variable_token v) a) && x))
        (token_more v b)

    token_any : (ms : List Variable) (t : Token)
        → list_any (λ v. bytes_eq (variable_token v) t) ms ≡ has_token (variable_tokens ms) t
    token_any ms t = sym (any_map variable_token (λ u. bytes_eq u t) ms)

    cases : (e : Bool) → bytes_eq a b ≡ e → (x : Bool) → has_token (object_tokens vs) a ≡ x
        → (y : Bool) → has_token (object_tokens vs) b ≡ y
        → ((not e && (x && y))
        || list_any (λ v. not e
        && ((x || bytes_eq (variable_token v) a)
        && (y || bytes_eq (variable_token v) b))) (patterns vs))
        ≡ (not e
        && (((x || has_token (variable_tokens (patterns vs)) a)
        && (y || has_token (variable_tokens (patterns vs)) b)) && (x || y)))
    cases true is x hx y hy = any_none (λ v. false) (patterns vs) (λ v. refl)
    cases false is true hx true hy = refl
    cases false is true hx false hy =
        token_any (patterns vs) b ∙ sym (and_true (has_token (variable_tokens (patterns vs)) b))
    cases false is false hx true hy =
        any_same (λ v. bytes_eq (variable_token v) a && true) (λ v. bytes_eq (variable_token v) a)
        (patterns vs) (λ v. and_true (bytes_eq (variable_token v) a))
        ∙ token_any (patterns vs) a
        ∙ sym (and_true (has_token (variable_tokens (patterns vs)) a))
        ∙ sym (and_true (has_token (variable_tokens (patterns vs)) a && true))
    cases false is false hx false hy =
        any_none (λ v. bytes_eq (variable_token v) a && bytes_eq (variable_token v) b) (patterns vs)
        (λ v. both_same (variable_token v) a b is)
        ∙
        sym (and_false (has_token (variable_tokens (patterns vs)) a
        && has_token (variable_tokens (patterns vs)) b))
