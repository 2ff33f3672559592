-- The frame of the statement that a pattern holds, and the frame of a claim that a text states.
use Rattle.std.proofs.Common.{◌≡◌, ℕ, Bool, true, false, List, [], ◌∷◌, ◌++◌, map, Option, Some}
use Rattle.std.proofs.Common.{None}
use Rattle.std.proofs.Common.{refl, sym, ap, ◌∙◌, subst, append-nil, append_assoc, arith, zero, suc}
use Rattle.std.specs.Prelude.{if◌then◌else◌, ◌||◌, ◌&&◌, filter, bytes_eq, codes, All, Contains}
use Rattle.std.specs.Prelude as std
use Rattle.std.proofs.lemmas.Bool.{false≢true}
use Rattle.std.proofs.lemmas.List.Elements.{All-nil, All-cons}
use Rattle.std.proofs.lemmas.Slice.Eq.{bytes_eq-Decides}
use Rattle.mm_text.specs.Bytes.{Token, has_token}
use Rattle.mm_database.specs.Frames.{Hypothesis, Frame}
use Rattle.ml_pat.specs.Patterns.{Pattern, unary, binary, sorted, quantified, meta}
use Rattle.ml_kernel.specs.Lemmas.{HasNoMeta}
use Rattle.mm_proof.specs.Tokens.{object_token}
use Rattle.mm_claims.specs.Statements.{IsName as IsClaimedName, NameKind, sort_name, symbol_name}
use Rattle.mm_claims.specs.Statements.{value_name, kind_front}
use Rattle.mm_claims.specs.Fitting.{AreNames}
use Rattle.mm_claims.specs.Variables.{Variable, object_variable, is_object, same_variable}
use Rattle.mm_claims.specs.Variables.{has_variable, variable_token, variable_tokens}
use Rattle.mm_claims.specs.Variables.{object_tokens}
use Rattle.mm_claims.specs.ClaimVariables.{variables_in as all_variables_in, other_variables}
use Rattle.mm_claims.specs.Blocks.{variable_float, open_frame, are_apart as are_claimed_apart}
use Rattle.mm_claims.specs.ClaimVariables.{claim_of, claim_variables}
use Rattle.mm_claims.proofs.VariableLaws.{same_is}
use Rattle.mm_justify.specs.Stating.{fronts, IsName, variables_in, typed, are_apart, holds_frame}
use Rattle.mm_justify.specs.Justifying.{typecode_in, premises_in, SaysNoMore}
use Rattle.mm_justify.specs.StatingLaws.{NamesAreNames, ClaimsAreHolds}

-- ---- names

front_there : (k : NameKind) → Contains fronts (kind_front k)
front_there sort_name = (0, omega arith, refl)
front_there symbol_name = (1, omega arith, refl)
front_there value_name = (2, omega arith, refl)

pub is_name : (token : Token) → IsClaimedName token → IsName token
is_name token w = record {
  front = kind_front w.kind;
  rest = w.rest;
  is_front = front_there w.kind;
  is = w.is;
  bytes = w.bytes;
}

front_kind : (front : Token) → Contains fronts front → (k : NameKind) × (front ≡ kind_front k)
front_kind front (zero, lt, at) = (sort_name, sym at)
front_kind front (suc zero, lt, at) = (symbol_name, sym at)
front_kind front (suc (suc zero), lt, at) = (value_name, sym at)
front_kind front (suc (suc (suc k)), lt, at) = absurd (omega (arith, lt))

pub names_are_names : NamesAreNames
names_are_names token = (
  is_name token,
  λ w. (let kind = front_kind w.front w.is_front in
      record {
        kind = kind.0;
        rest = w.rest;
        is = w.is ∙ ap (λ (front : Token). front ++ w.rest) kind.1;
        bytes = w.bytes;
      }),
)

pub all_names : (names : List Token) → AreNames names → All IsName names
all_names [] h = All-nil IsName
all_names (t ∷ ts) h = All-cons IsName t ts (is_name t h.0) (all_names ts h.1)

-- ---- the variables of a pattern without pattern variables

map_both : (xs ys : List ℕ) → map object_variable xs ++ map object_variable ys ≡ map object_variable
    (xs ++ ys)
map_both [] ys = refl
map_both (x ∷ xs) ys = ap (λ (vs : List Variable). object_variable x ∷ vs) (map_both xs ys)

two : (us vs : List Variable) (xs ys : List ℕ) → us ≡ map object_variable xs
    → vs ≡ map object_variable ys → us ++ vs ≡ map object_variable (xs ++ ys)
two us vs xs ys h k = rw (h, k) (map_both xs ys)

objects_in : (p : Pattern) → HasNoMeta p
    → all_variables_in p ≡ map object_variable (variables_in p)
objects_in (binary c p q) h = two _ _ _ _ (objects_in p h.0) (objects_in q h.1)
objects_in (unary c p) h = objects_in p h
objects_in (sorted c p s) h = objects_in p h
objects_in (quantified c x s p) h =
    ap (λ (vs : List Variable). object_variable x ∷ vs) (objects_in p h)
objects_in (meta i) h = absurd (omega (arith, h))
objects_in p h = refl

-- ---- each variable once

abbrev has : List Variable → Token → Bool
has vs t = has_token (variable_tokens vs) t

has-append : (us ws : List Variable) (t : Token) → has (us ++ ws) t ≡ (has us t || has ws t)
has-append [] ws t = refl
has-append (u ∷ us) ws t = ap (λ b. bytes_eq (variable_token u) t || b) (has-append us ws t)
    ∙ grouped (bytes_eq (variable_token u) t) (has us t) (has ws t)
  where
    grouped : (a b c : Bool) → (a || (b || c)) ≡ ((a || b) || c)
    grouped true b c = refl
    grouped false b c = refl

there : (vs : List Variable) (u : Variable) → has_variable vs u ≡ true
    → has vs (variable_token u) ≡ true
there [] u h = absurd (false≢true h)
there (w ∷ vs) u h = go (same_variable w u) refl h (there vs u)
  where
    first : (a b : Bool) → a ≡ true → (a || b) ≡ true
    first true b is = refl
    first false b is = absurd (false≢true is)

    later : (a b : Bool) → b ≡ true → (a || b) ≡ true
    later true b is = refl
    later false b is = is

    go : (b : Bool) → same_variable w u ≡ b → (b || has_variable vs u) ≡ true
        → (has_variable vs u ≡ true → has vs (variable_token u) ≡ true)
        → has (w ∷ vs) (variable_token u) ≡ true
    go true same is before =
        first (bytes_eq (variable_token w) (variable_token u)) (has vs (variable_token u))
        ((bytes_eq-Decides (variable_token w) (variable_token u)).1
        (ap variable_token (same_is w u same)))
    go false other is before =
        later (bytes_eq (variable_token w) (variable_token u)) (has vs (variable_token u))
        (before is)

among : (vs us : List Variable) (t : Token)
    → has (vs ++ other_variables vs us) t ≡ (has vs t || has us t)
among vs [] t = has-append vs [] t
among vs (u ∷ us) t = go (has_variable vs u) refl (among vs us t) (among (vs ++ u ∷ []) us t)
  where
    old_there : (a b c : Bool) → (b ≡ true → a ≡ true) → (a || c) ≡ (a || (b || c))
    old_there true b c h = refl
    old_there false true c h = absurd (false≢true (h refl))
    old_there false false c h = refl

    new_there : (a b c : Bool) → ((a || (b || false)) || c) ≡ (a || (b || c))
    new_there true b c = refl
    new_there false true c = refl
    new_there false false c = refl

    go : (b : Bool) → has_variable vs u ≡ b
        → has (vs ++ other_variables vs us) t ≡ (has vs t || has us t)
        → has ((vs ++ u ∷ []) ++ other_variables (vs ++ u ∷ []) us) t
        ≡ (has (vs ++ u ∷ []) t || has us t)
        → has (vs ++ (if b then other_variables vs us
        else (u ∷ other_variables (vs ++ u ∷ []) us))) t
        ≡ (has vs t || (bytes_eq (variable_token u) t || has us t))
    go true is old new =
        old ∙ old_there (has vs t) (bytes_eq (variable_token u) t) (has us t)
        (λ same. subst (λ (token : Token). has vs token ≡ true)
        ((bytes_eq-Decides (variable_token u) t).0 same) (there vs u is))
    go false is old new =
        ap (λ (ws : List Variable). has ws t)
        (sym (append_assoc vs (u ∷ []) (other_variables (vs ++ u ∷ []) us)))
        ∙ new ∙ ap (λ (b : Bool). b || has us t) (has-append vs (u ∷ []) t)
        ∙ new_there (has vs t) (bytes_eq (variable_token u) t) (has us t)

-- those that are not among others are object variables too
others : (vs : List Variable) (xs : List ℕ)
    → (ys : List ℕ) × (other_variables vs (map object_variable xs) ≡ map object_variable ys)
others vs [] = ([], refl)
others vs (x ∷ xs) =
    go (has_variable vs (object_variable x)) (others vs xs)
    (others (vs ++ object_variable x ∷ []) xs)
  where
    go : (b : Bool)
        → (ys : List ℕ) × (other_variables vs (map object_variable xs) ≡ map object_variable ys)
        → (ys : List ℕ) × (other_variables (vs ++ object_variable x ∷ []) (map object_variable xs)
        ≡ map object_variable ys)
        → (ys : List ℕ) × ((if b then other_variables vs (map object_variable xs)
        else (object_variable x
        ∷ other_variables (vs ++ object_variable x ∷ []) (map object_variable xs)))
        ≡ map object_variable ys)
    go true old new = old
    go false old new =
        (x ∷ new.0, ap (λ (ws : List Variable). object_variable x ∷ ws) new.1)

tokens_are : (xs : List ℕ) → variable_tokens (map object_variable xs) ≡ map object_token xs
tokens_are [] = refl
tokens_are (x ∷ xs) = ap (λ (ts : List Token). object_token x ∷ ts) (tokens_are xs)

-- the variables of a claim that a pattern holds are these, with the tokens of the pattern's
record ClaimedObjects (p : Pattern) : Type 0 where
  objects : List ℕ
  are : claim_variables [] p ≡ map object_variable objects
  same : (t : Token)
      → has_token (map object_token objects) t ≡ has_token (map object_token (variables_in p)) t

claimed_objects : (p : Pattern) → HasNoMeta p → ClaimedObjects p
claimed_objects p h =
    let xs : List ℕ = variables_in p in
    let only = others [] xs in
    record {
      objects = only.0;
      are =
          ap (other_variables []) (append-nil (all_variables_in p) ∙ objects_in p h) ∙ only.1;
      same =
          λ t. ap (λ (ts : List Token). has_token ts t) (sym (tokens_are only.0))
          ∙ ap (λ (vs : List Variable). has vs t) (sym only.1)
          ∙ among [] (map object_variable xs) t
          ∙ ap (λ (ts : List Token). has_token ts t) (tokens_are xs);
    }

-- ---- hypotheses and pairs

type_of : (xs : List ℕ) (t : Token)
    → typecode_in (map typed xs) t
    ≡ (if has_token (map object_token xs) t then Some (codes "#Var") else None)
type_of [] t = refl
type_of (x ∷ xs) t = go (bytes_eq (object_token x) t) (type_of xs t)
  where
    go : (b : Bool)
        → typecode_in (map typed xs) t
        ≡ (if has_token (map object_token xs) t then Some (codes "#Var") else None)
        → (if b then Some (codes "#Var") else typecode_in (map typed xs) t)
        ≡ (if (b || has_token (map object_token xs) t) then Some (codes "#Var") else None)
    go true is = refl
    go false is = is

float_types : (k : ℕ) (xs : List ℕ) (t : Token)
    → typecode_in (map (variable_float k) (map object_variable xs)) t
    ≡ typecode_in (map typed xs) t
float_types k [] t = refl
float_types k (x ∷ xs) t =
    ap (λ (o : Option Token). if bytes_eq (object_token x) t then Some (codes "#Var") else o)
    (float_types k xs t)

no_float_premises : (k : ℕ) (vs : List Variable) → premises_in (map (variable_float k) vs) ≡ []
no_float_premises k [] = refl
no_float_premises k (v ∷ vs) = no_float_premises k vs

pub no_premises : (xs : List ℕ) → premises_in (map typed xs) ≡ []
no_premises [] = refl
no_premises (x ∷ xs) = no_premises xs

all_objects : (xs : List ℕ) → filter is_object (map object_variable xs) ≡ map object_variable xs
all_objects [] = refl
all_objects (x ∷ xs) = ap (λ (vs : List Variable). object_variable x ∷ vs) (all_objects xs)

apart_alike : (xs ys : List ℕ)
    → ((t : Token) → has_token (map object_token ys) t ≡ has_token (map object_token xs) t)
    → (a b : Token) → are_claimed_apart (map object_variable ys) a b ≡ are_apart xs a b
apart_alike xs ys same a b =
    let tokens : variable_tokens (map object_variable ys) ≡ map object_token ys = tokens_are ys in
    let objects : object_tokens (map object_variable ys) ≡ map object_token ys =
    ap (map variable_token) (all_objects ys) ∙ tokens in
    rw (tokens, objects, same a, same b) (both (std.not (bytes_eq a b))
    (has_token (map object_token xs) a) (has_token (map object_token xs) b))
  where
    both : (n c d : Bool) → (n && ((c && d) && (c || d))) ≡ (n && (c && d))
    both false c d = refl
    both true false d = refl
    both true true true = refl
    both true true false = refl

-- two frames with the same statement, premises and types, and the same pairs
record IsSame (f g : Frame) : Type 0 where
  statement : f.statement ≡ g.statement
  premises : premises_in f.hypotheses ≡ premises_in g.hypotheses
  types : (t : Token) → typecode_in f.hypotheses t ≡ typecode_in g.hypotheses t
  apart : (a b : Token) → f.apart a b ≡ g.apart a b

-- the frame of the claim that a pattern without pattern variables holds
claimed_frame : (names : List Token) (k : ℕ) (p : Pattern) → HasNoMeta p
    → IsSame (open_frame names k (claim_of [] p)) (holds_frame names p)
claimed_frame names k p h =
    let claimed = claimed_objects p h in
    let vs : List Variable = claim_variables [] p in
    let all_typed : map (variable_float k) vs ++ [] ≡ map (variable_float k) vs =
    append-nil (map (variable_float k) vs) in
    let objects : map (variable_float k) vs ≡ map (variable_float k)
    (map object_variable claimed.objects) =
    ap (map (variable_float k)) claimed.are in
    record {
      statement = refl;
      premises =
          ap premises_in all_typed ∙ no_float_premises k vs ∙ sym (no_premises (variables_in p));
      types =
          λ t. ap (λ (hs : List Hypothesis). typecode_in hs t) (all_typed ∙ objects)
          ∙ float_types k claimed.objects t ∙ type_of claimed.objects t
          ∙ ap (λ (b : Bool). if b then Some (codes "#Var") else None) (claimed.same t)
          ∙ sym (type_of (variables_in p) t);
      apart =
          λ a b. ap (λ (ws : List Variable). are_claimed_apart ws a b) claimed.are
          ∙ apart_alike (variables_in p) claimed.objects claimed.same a b;
    }

pub claim_says_no_more : (names : List Token) (k : ℕ) (p : Pattern) → HasNoMeta p
    → SaysNoMore (open_frame names k (claim_of [] p)) (holds_frame names p)
claim_says_no_more names k p h =
    let same = claimed_frame names k p h in
    record {
      statement = same.statement;
      premises = same.premises;
      types = same.types;
      apart = λ a b is. same.apart a b ∙ is;
    }

pub claims_are_holds : ClaimsAreHolds
claims_are_holds names k p h =
    let same = claimed_frame names k p h in (
      claim_says_no_more names k p h,
      record {
        statement = sym same.statement;
        premises = sym same.premises;
        types = λ t. sym (same.types t);
        apart = λ a b is. sym (same.apart a b) ∙ is;
      },
    )
