-- Frames of an axiom with two variables, as tests.
use Rattle.std.proofs.Common.{◌≡◌, ◌+◌, ℕ, Bool, true, false, List, [], ◌∷◌, ◌++◌, Option, Some}
use Rattle.std.proofs.Common.{None, refl, sym, ap, ◌∙◌, arith}
use Rattle.std.specs.Prelude.{if◌then◌else◌, codes, bytes_eq, decimal}
use Rattle.std.proofs.lemmas.Bool.{false≢true}
use Rattle.std.proofs.lemmas.Fmt.{decimal_by_steps}
use Rattle.std.proofs.lemmas.Slice.Eq.{bytes_eq-Decides}
use Rattle.mm_text.specs.Bytes.{Token}
use Rattle.mm_proof.specs.Tokens.{object_token}
use Rattle.mm_justify.specs.Stating.{holds_frame}
use Rattle.mm_justify.specs.JustifyingCases.{sorts, two_variables, TriedFrames}

-- the digits of 0 and of 1
zero_digits : decimal 0 ≡ codes "0"
zero_digits =
    decimal_by_steps (λ m ds. m ≡ 0 → ds ≡ 48 ∷ []) (λ m small is. ap (λ (n : ℕ). (48 + n) ∷ []) is)
    (λ m ds large below is. absurd (omega (arith, large, is))) 0 (omega arith) refl

one_digits : decimal 1 ≡ codes "1"
one_digits =
    decimal_by_steps (λ m ds. m ≡ 1 → ds ≡ 49 ∷ []) (λ m small is. ap (λ (n : ℕ). (48 + n) ∷ []) is)
    (λ m ds large below is. absurd (omega (arith, large, is))) 1 (omega arith) refl

same : (t : Token) → bytes_eq t t ≡ true
same t = (bytes_eq-Decides t t).1 refl

differ : bytes_eq (object_token 0) (object_token 1) ≡ false
differ = ap (λ (ds : List ℕ). bytes_eq (codes "x:" ++ ds) (object_token 1)) zero_digits
    ∙ ap (λ (ds : List ℕ). bytes_eq (codes "x:" ++ codes "0") (codes "x:" ++ ds)) one_digits

differ_back : bytes_eq (object_token 1) (object_token 0) ≡ false
differ_back = ap (λ (ds : List ℕ). bytes_eq (codes "x:" ++ ds) (object_token 0)) one_digits
    ∙ ap (λ (ds : List ℕ). bytes_eq (codes "x:" ++ codes "1") (codes "x:" ++ ds)) zero_digits

-- the type of two variables of the same type, each named twice
abbrev twice : Bool → Bool → Token → Option Token
twice p q t =
    if p then Some t else
    if q then Some t else
    if p then Some t else
    if q then Some t else None

once : (p q : Bool) (t : Token) → (if p then Some t else (if q then Some t else None)) ≡ twice p q t
once true q t = refl
once false true t = refl
once false false t = refl

-- their order does not matter
either : (p q : Bool) (t : Token)
    → (if q then Some t else (if p then Some t else None)) ≡ twice p q t
either true true t = refl
either true false t = refl
either false true t = refl
either false false t = refl

types_differ : (p : Bool) (other more : Option Token) → p ≡ true
    → (if p then Some (codes "#Pattern") else other) ≡ (if p then Some (codes "#Var") else more) → ⊥
types_differ true other more is typed = false≢true (ap (λ (o : Option Token). is_var o) typed)
  where
    is_var : Option Token → Bool
    is_var None = false
    is_var (Some t) = bytes_eq t (codes "#Var")
types_differ false other more is typed = false≢true is

none_typed : (p q : Bool) (other : Option Token) → p ≡ true → q ≡ false
    → (if q then Some (codes "#Var") else None) ≡ (if p then Some (codes "#Var") else other) → ⊥
none_typed true true other is not typed = false≢true (sym not)
none_typed true false other is not typed = cc
none_typed false q other is not typed = false≢true is

apart_there : (holds_frame sorts two_variables).apart (object_token 0) (object_token 1) ≡ true
apart_there = rw (zero_digits, one_digits) refl

pub tried_frames : TriedFrames
tried_frames = record {
  taken = record {
    statement = refl;
    premises = refl;
    types = λ v. once (bytes_eq (object_token 0) v) (bytes_eq (object_token 1) v) (codes "#Var");
    apart = λ x y h. refl;
  };
  other_order = record {
    statement = refl;
    premises = refl;
    types =
        λ v. either (bytes_eq (object_token 0) v) (bytes_eq (object_token 1) v) (codes "#Var");
    apart = λ x y h. refl;
  };
  other_type =
      λ says. types_differ (bytes_eq (object_token 0) (object_token 0)) _ _ (same (object_token 0))
      (says.types (object_token 0));
  untyped =
      λ says. none_typed (bytes_eq (object_token 0) (object_token 0))
      (bytes_eq (object_token 1) (object_token 0)) _ (same (object_token 0)) differ_back
      (says.types (object_token 0));
  not_apart = λ says. false≢true (says.apart (object_token 0) (object_token 1) apart_there);
  hypothesis = λ statement says. let none : statement ∷ [] ≡ [] = says.premises in cc;
}
