-- The substitution that the citation of a claim defines for its variables, and what it makes of the
-- text of patterns.
use Rattle.std.proofs.Common.{◌≡◌, ℕ, ◌+◌, ◌<◌, ◌^◌, Bool, true, false, List, [], ◌∷◌, ◌++◌, map}
use Rattle.std.proofs.Common.{zero, suc, refl, ap, ◌∙◌, sym, subst}
use Rattle.std.specs.Prelude.{◌||◌, if◌then◌else◌, codes, bytes_eq, slice_index_or}
use Rattle.std.proofs.lemmas.Bool.{false≢true}
use Rattle.std.proofs.lemmas.Slice.Eq.{bytes_eq-Decides}
use Rattle.mm_text.specs.Bytes.{Token}
use Rattle.mm_database.specs.Frames.{Hypothesis}
use Rattle.mm_database.specs.Proofs.{Expression, instance_of, substituted}
use Rattle.mm_database.specs.Stack.{bindings_of, text_of}
use Rattle.ml_pat.specs.Patterns.{Pattern, nullary, unary, binary, sorted, quantified, meta}
use Rattle.ml_pat.specs.Patterns.{constant}
use Rattle.ml_kernel.specs.Lemmas.{instance, instances, HasNoVariable, HaveNoVariables}
use Rattle.ml_kernel.specs.Renamings.{renamed, by_place}
use Rattle.mm_proof.specs.Tokens.{Naming, letters_of, bracket, bracketed, text_by, object_token}
use Rattle.mm_proof.specs.Tokens.{meta_token, own_naming, name_of, unary_name, binary_name}
use Rattle.mm_proof.specs.Tokens.{sorted_name, quantifier_name}
use Rattle.mm_proof.specs.Judgements.{holds}
use Rattle.ml_pat.specs.Leaves.{LeafFacts, EachLeaf}
use Rattle.mm_proof.specs.Derivations.{holds_text}
use Rattle.mm_proof.specs.Serving.{punctuation}
use Rattle.mm_proof.proofs.Schemes.{Leaves, under, judgement-under}
use Rattle.ml_pat.proofs.LeafLaws.{EachLeaf-implied, other_leaves}
use Rattle.mm_proof.proofs.Decimals.{decimal-same}
use Rattle.mm_claims.specs.Fitting.{AreNames}
use Rattle.mm_claims.specs.Variables.{Variable, object_variable, pattern_variable, same_variable}
use Rattle.mm_claims.specs.Variables.{has_variable, number_of, AreNumbered, variable_token}
use Rattle.mm_claims.specs.Variables.{variable_type, is_variable_token}
use Rattle.mm_claims.specs.Blocks.{variable_float, premise_hypotheses}
use Rattle.mm_claims.specs.OverNames.{open_over, AreOpenOver}
use Rattle.mm_claims.proofs.NameLaws.{name_facts}
use Rattle.mm_claims.proofs.VariableLaws.{numbered_at, same_is, itself_same, token_is_variable}

-- variables and their tokens

abbrev behind_two : Token → Token
behind_two [] = []
behind_two (a ∷ []) = []
behind_two (a ∷ (b ∷ bs)) = bs

-- variables with the same token are equal
one_token : (u v : Variable) → number_of u < 2 ^ 64 → number_of v < 2 ^ 64
    → bytes_eq (variable_token u) (variable_token v) ≡ true → u ≡ v
one_token (object_variable i) (object_variable j) h k is =
    ap object_variable (decimal-same i j h k
    (ap behind_two ((bytes_eq-Decides (object_token i) (object_token j)).0 is)))
one_token (object_variable i) (pattern_variable j) h k is = absurd (false≢true is)
one_token (pattern_variable i) (object_variable j) h k is = absurd (false≢true is)
one_token (pattern_variable i) (pattern_variable j) h k is =
    ap pattern_variable (decimal-same i j h k
    (ap behind_two ((bytes_eq-Decides (meta_token i) (meta_token j)).0 is)))

-- the token of a variable differs from every token that is not one of a variable
no_variable : (v : Variable) (t : Token) → is_variable_token t ≡ false
    → bytes_eq (variable_token v) t ≡ false
no_variable v t h = go (bytes_eq (variable_token v) t) refl
  where
    go : (b : Bool) → bytes_eq (variable_token v) t ≡ b → bytes_eq (variable_token v) t ≡ false
    go true is =
        absurd (false≢true (sym h
        ∙ ap is_variable_token (sym ((bytes_eq-Decides (variable_token v) t).0 is))
        ∙ token_is_variable v))
    go false is = is

pub name_is_no_variable : (ts : List Token) (i : ℕ) → AreNames ts
    → is_variable_token (name_of ts i) ≡ false
name_is_no_variable [] i h = refl
name_is_no_variable (t ∷ ts) zero h = (name_facts t h.0).no_variable_token
name_is_no_variable (t ∷ ts) (suc i) h = name_is_no_variable ts i h.1

-- one of some variables is the first or one of the others
pub case_variable : (P : Variable → Type 0) (u : Variable) (us : List Variable) (v : Variable)
    → has_variable (u ∷ us) v ≡ true → P u → (has_variable us v ≡ true → P v) → P v
case_variable P u us v has here there = go (same_variable u v) refl has
  where
    go : (b : Bool) → same_variable u v ≡ b → (b || has_variable us v) ≡ true → P v
    go true is h = subst P (same_is u v is) here
    go false is h = there h

pub first_there : (u : Variable) (us : List Variable) → has_variable (u ∷ us) u ≡ true
first_there u us = rw (itself_same u) refl

pub later_there : (u : Variable) (us : List Variable) (v : Variable) → has_variable us v ≡ true
    → has_variable (u ∷ us) v ≡ true
later_there u us v h = go (same_variable u v)
  where
    go : (b : Bool) → (b || has_variable us v) ≡ true
    go true = refl
    go false = h

-- what is substituted for a variable, and its entry on the stack
abbrev pub value : Naming → List ℕ → List Pattern → Variable → Expression
value n new ms (object_variable i) = n.object (by_place new i) ∷ []
value n new ms (pattern_variable i) = text_by (letters_of n) (instance ms (meta i))

abbrev pub entry : Naming → List ℕ → List Pattern → Variable → Expression
entry n new ms v = variable_type v ∷ value n new ms v

-- the substitution that the entries of variables and then other entries define
abbrev pub given_by : Naming → List ℕ → List Pattern → ℕ → List Variable → List Hypothesis
    → List Expression → Token → Expression
given_by n new ms k vs hs es =
    text_of (bindings_of (map (variable_float k) vs ++ hs) (map (entry n new ms) vs ++ es))

-- it gives each variable what is substituted for it
pub given_variable : (n : Naming) (new : List ℕ) (ms : List Pattern) (k : ℕ) (vs : List Variable)
    (hs : List Hypothesis) (es : List Expression) (v : Variable) → AreNumbered vs
    → has_variable vs v ≡ true → given_by n new ms k vs hs es (variable_token v) ≡ value n new ms v
given_variable n new ms k [] hs es v every has = absurd (false≢true has)
given_variable n new ms k (u ∷ us) hs es v every has =
    split (bytes_eq (variable_token u) (variable_token v)) refl
    (λ there. given_variable n new ms k us hs es v every.1 there)
  where
    split : (b : Bool) → bytes_eq (variable_token u) (variable_token v) ≡ b
        → (has_variable us v ≡ true
        → given_by n new ms k us hs es (variable_token v) ≡ value n new ms v)
        → (if b then value n new ms u else given_by n new ms k us hs es (variable_token v))
        ≡ value n new ms v
    split true is behind =
        ap (value n new ms) (one_token u v every.0 (numbered_at (u ∷ us) v every has) is)
    split false is behind =
        behind (case_variable
        (λ w. bytes_eq (variable_token u) (variable_token w) ≡ false → has_variable us w ≡ true)
        u us v has
        (λ other. absurd (false≢true
        (sym other ∙ (bytes_eq-Decides (variable_token u) (variable_token u)).1 refl)))
        (λ h other. h) is)

-- it does not change what is not a variable
given_premises : (declared : List Token) (k j : ℕ) (ps : List Pattern) (es : List Expression)
    (t : Token) → text_of (bindings_of (premise_hypotheses declared k j ps) es) t ≡ t ∷ []
given_premises declared k j [] es t = refl
given_premises declared k j (p ∷ ps) [] t = refl
given_premises declared k j (p ∷ ps) (e ∷ es) t = given_premises declared k (j + 1) ps es t

pub given_other : (n : Naming) (new : List ℕ) (ms : List Pattern) (k : ℕ) (vs : List Variable)
    (declared : List Token) (ps : List Pattern) (es : List Expression) (t : Token)
    → is_variable_token t ≡ false
    → given_by n new ms k vs (premise_hypotheses declared k 0 ps) es t ≡ t ∷ []
given_other n new ms k [] declared ps es t h = given_premises declared k 0 ps es t
given_other n new ms k (v ∷ vs) declared ps es t h =
    rw (no_variable v t h) (given_other n new ms k vs declared ps es t h)

-- so it does not change the constants of the header
pub leaves_others : (sigma : Token → Expression)
    → ((t : Token) → is_variable_token t ≡ false → sigma t ≡ t ∷ []) → Leaves sigma
leaves_others sigma h = go punctuation refl
  where
    go : (ts : List Token) → map is_variable_token ts ≡ map (λ t. false) ts
        → map sigma ts ≡ map (λ t. t ∷ []) ts
    go [] k = refl
    go (t ∷ ts) k =
        let here : is_variable_token t ≡ false = cc in
        let there : map is_variable_token ts ≡ map (λ t. false) ts = cc in
        ap (λ e. e ∷ map sigma ts) (h t here) ∙ ap (λ es. (t ∷ []) ∷ es) (go ts there)

-- Take a substitution that gives each object variable its new one and each pattern variable its
-- instance, and does not change other leaves. The text of a pattern under it is the text of the
-- instance of the pattern after the renaming.
abbrev pub gives_instances : (Token → Expression) → Naming → List ℕ → List Pattern → LeafFacts
gives_instances sigma n new ms = record {
  sort = λ i. sigma (n.sort i) ≡ n.sort i ∷ [];
  constant = λ i. sigma (n.constant i) ≡ n.constant i ∷ [];
  object = λ i. sigma (n.object i) ≡ n.object (by_place new i) ∷ [];
  meta = λ i. sigma (n.meta i) ≡ text_by (letters_of n) (instance ms (meta i));
}

two_same : (k : Token) (a a' b b' : List Token) → a ≡ a' → b ≡ b'
    → bracketed k (a ++ (b ++ bracket)) ≡ bracketed k (a' ++ (b' ++ bracket))
two_same k a a' b b' h l = rw (h, l) refl

one_same : (k : Token) (a a' : List Token) → a ≡ a'
    → bracketed k (a ++ bracket) ≡ bracketed k (a' ++ bracket)
one_same k a a' h = rw h refl

bound_same : (k : Token) (x x' s s' a a' : List Token) → x ≡ x' → s ≡ s' → a ≡ a'
    → bracketed k (x ++ (s ++ (a ++ bracket))) ≡ bracketed k (x' ++ (s' ++ (a' ++ bracket)))
bound_same k x x' s s' a a' h l m = rw (h, l, m) refl

pub text-instance : (sigma : Token → Expression) (n : Naming) (new : List ℕ) (ms : List Pattern)
    (p : Pattern) → EachLeaf (gives_instances sigma n new ms) p
    → text_by (under sigma n) p ≡ text_by (letters_of n) (instance ms (renamed (by_place new) p))
text-instance sigma n new ms (nullary c) h = refl
text-instance sigma n new ms (binary c p q) h =
    two_same (codes "\\" ++ binary_name c) _ _ _ _ (text-instance sigma n new ms p h.0)
    (text-instance sigma n new ms q h.1)
text-instance sigma n new ms (unary c p) h =
    one_same (codes "\\" ++ unary_name c) _ _ (text-instance sigma n new ms p h)
text-instance sigma n new ms (sorted c p s) h =
    two_same (codes "\\" ++ sorted_name c) _ _ _ _ (text-instance sigma n new ms p h.0) h.1
text-instance sigma n new ms (quantified c x s p) h =
    bound_same (codes "\\" ++ quantifier_name c) _ _ _ _ _ _ h.1.0 h.1.1
    (text-instance sigma n new ms p h.0)
text-instance sigma n new ms p h = h

-- What a substitution gives the variables of a claim over declared names, and what it gives
-- everything that is not a variable.
pub record GivesInstances (sigma : Token → Expression) (declared : List Token) (new : List ℕ)
    (ms : List Pattern) (vs : List Variable) : Type 0 where
  pub names : AreNames declared
  pub there : (v : Variable) → has_variable vs v ≡ true
      → sigma (variable_token v) ≡ value (own_naming declared) new ms v
  pub others : (t : Token) → is_variable_token t ≡ false → sigma t ≡ t ∷ []

pub holds-instance : (sigma : Token → Expression) (declared : List Token) (new : List ℕ)
    (ms : List Pattern) (vs : List Variable) (p : Pattern)
    → GivesInstances sigma declared new ms vs → EachLeaf (open_over declared vs) p
    → substituted sigma (holds_text (own_naming declared) p)
    ≡ holds_text (own_naming declared) (instance ms (renamed (by_place new) p))
holds-instance sigma declared new ms vs p w h =
    judgement-under sigma (own_naming declared) (leaves_others sigma w.others) (holds p)
    ∙ ap (λ (ts : List Token). codes "|-" ∷ ts) (text-instance sigma (own_naming declared) new ms p
    (EachLeaf-implied (open_over declared vs)
    (gives_instances sigma (own_naming declared) new ms) p (record {
      sort = λ i k. w.others (name_of declared i) (name_is_no_variable declared i w.names);
      constant = λ i k. w.others (name_of declared i) (name_is_no_variable declared i w.names);
      object = λ i k. w.there (object_variable i) k;
      meta = λ i k. w.there (pattern_variable i) k;
    }) h))

-- under the instances, the hypotheses of a claim's frame require the entries of the claim and its
-- own hypotheses
pub floats-instance : (sigma : Token → Expression) (n : Naming) (new : List ℕ) (ms : List Pattern)
    (k : ℕ) (vs : List Variable)
    → ((v : Variable) → has_variable vs v ≡ true → sigma (variable_token v) ≡ value n new ms v)
    → map (instance_of sigma) (map (variable_float k) vs) ≡ map (entry n new ms) vs
floats-instance sigma n new ms k [] h = refl
floats-instance sigma n new ms k (v ∷ vs) h =
    ap (λ e. (variable_type v ∷ e) ∷ map (instance_of sigma) (map (variable_float k) vs))
    (h v (first_there v vs))
    ∙ ap (λ es. entry n new ms v ∷ es)
    (floats-instance sigma n new ms k vs (λ u there. h u (later_there v vs u there)))

pub premises-instance : (sigma : Token → Expression) (declared : List Token) (new : List ℕ)
    (ms : List Pattern) (vs : List Variable) (k j : ℕ) (ps : List Pattern)
    → GivesInstances sigma declared new ms vs → AreOpenOver declared vs ps
    → map (instance_of sigma) (premise_hypotheses declared k j ps)
    ≡ map (holds_text (own_naming declared)) (instances ms (map (renamed (by_place new)) ps))
premises-instance sigma declared new ms vs k j [] w h = refl
premises-instance sigma declared new ms vs k j (p ∷ ps) w h =
    ap (λ e. e ∷ map (instance_of sigma) (premise_hypotheses declared k (j + 1) ps))
    (holds-instance sigma declared new ms vs p w h.0)
    ∙ ap (λ es. holds_text (own_naming declared) (instance ms (renamed (by_place new) p)) ∷ es)
    (premises-instance sigma declared new ms vs k (j + 1) ps w h.1)

-- instances are patterns without object variables if the given patterns are
pub no_variables_at : (ms : List Pattern) (i : ℕ) (p : Pattern) → HaveNoVariables ms
    → HasNoVariable p → HasNoVariable (slice_index_or ms i p)
no_variables_at [] i p h k = k
no_variables_at (m ∷ ms) zero p h k = h.0
no_variables_at (m ∷ ms) (suc i) p h k = no_variables_at ms i p h.1 k

-- such a pattern has no object variable, so it does not have x
pub other_than : (f : LeafFacts) (x : ℕ) (p : Pattern) → HasNoVariable p → EachLeaf f p
    → EachLeaf (other_leaves x f) p
other_than f x (nullary c) n h = tt
other_than f x (binary c p q) n h = (other_than f x p n.0 h.0, other_than f x q n.1 h.1)
other_than f x (unary c p) n h = other_than f x p n h
other_than f x (sorted c p s) n h = (other_than f x p n h.0, h.1)
other_than f x (meta i) n h = h
other_than f x (constant c) n h = h
other_than f x p n h = absurd n

-- a pattern is its own instance if no patterns are given
pub instance-none : (p : Pattern) → instance [] p ≡ p
instance-none (binary c p q) = rw (instance-none p, instance-none q) refl
instance-none (unary c p) = ap (unary c) (instance-none p)
instance-none (sorted c p s) = rw (instance-none p) refl
instance-none (quantified c x s p) = rw (instance-none p) refl
instance-none p = refl
