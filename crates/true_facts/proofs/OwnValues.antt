-- The token of a value as the only name.
use Rattle.std.proofs.Common.{◌≡◌, ◌↔◌, ℕ, List, [], ◌∷◌, Option, Some, None, refl, sym, ◌∙◌, ap}
use Rattle.std.proofs.Common.{subst, Bool}
use Rattle.std.specs.Prelude.{IsTrue, option_map}
use Rattle.std.specs.Option.{is_some}
use Rattle.std.proofs.lemmas.Bool.{false≢true}
use Rattle.ml_pat.specs.Named.{IsNumbered}
use Rattle.ml_pat.specs.Patterns.{Pattern, constant}
use Rattle.term_core.specs.Terms.{DomainValue}
use Rattle.term_core.specs.Values.{value_of}
use Rattle.rule_core.specs.Sorting.{HasValue}
use Rattle.rule_core.specs.declared.signature.Signature.{Signature}
use Rattle.ml_image.specs.Tokens.{token_of_value, value_token, number_in_names}
use Rattle.ml_image.proofs.ImageLaws.{none_some}
use Rattle.true_facts.specs.Only.{IsOnly}
use Rattle.true_facts.specs.Tokens.{IsValueToken}
use Rattle.true_facts.specs.Values.{IsValueAt, typed_found}
use Rattle.true_facts.specs.declared.values.Typed.{Typed}
use Rattle.true_facts.proofs.TokenLaws.{number_there}
use Rattle.true_facts.proofs.ValueTokenLaws.{HasToken, token_at, there_at}

-- the value of the constant whose number is that of the token
value_from : (sig : Signature) (token : List ℕ) (x : ℕ × DomainValue)
    → IsValueAt sig (token ∷ []) (constant 0) x → IsValueToken sig token
value_from sig token x h =
    let t : HasToken sig (token ∷ []) (constant 0) x =
    token_at sig (token ∷ []) (constant 0) x h in
    let there : Some token ≡ Some (value_token t.name x.1) =
    there_at sig (token ∷ []) (constant 0) x 0 refl t in (
      x.0,
      x.1,
      h.0,
      ap (option_map (λ (name : List ℕ). value_token name x.1)) t.named ∙ sym there,
    )

value_to : (sig : Signature) (token : List ℕ) (s : ℕ) (v : DomainValue) → HasValue sig s v
    → token_of_value sig s v ≡ Some token → IsValueAt sig (token ∷ []) (constant 0) (s, v)
value_to sig token s v has is = (
  has,
  ap (λ (o : Option (List ℕ)). option_map constant (number_in_names (token ∷ []) o)) is
      ∙ ap (option_map constant) (number_there (token ∷ []) token 0 (tt, tt) refl),
)

decided : (sig : Signature) (token : List ℕ) (r : Option Typed)
    → IsOnly (IsValueAt sig (token ∷ []) (constant 0)) (typed_found r)
    → IsTrue (is_some r) ↔ IsValueToken sig token
decided sig token None only = (
  λ t. absurd (false≢true t),
  λ (s, v, has, is).
      absurd (none_some (s, v) ((only (s, v)).0 (value_to sig token s v has is))),
)
decided sig token (Some t) only = (
  λ _. value_from sig token (t.sort.0, value_of t.value) ((only (t.sort.0, value_of t.value)).1 refl),
  λ _. refl,
)

pub value_token_decided : (sig : Signature) (old new : List (List ℕ)) (token : List ℕ) (n : ℕ)
    (p : Pattern) (r : Option Typed) (b : Bool) → old ≡ [] → IsNumbered old new token n
    → p ≡ constant n → IsOnly (IsValueAt sig new p) (typed_found r) → b ≡ is_some r
    → IsTrue b ↔ IsValueToken sig token
value_token_decided sig old new token n p r b none numbered is only answer =
    let first : (n ≡ 0) × (new ≡ token ∷ []) =
    subst (λ (names : List (List ℕ)). IsNumbered names new token n) none numbered in
    let pattern : p ≡ constant 0 = is ∙ ap constant first.0 in
    let there : IsOnly (IsValueAt sig (token ∷ []) (constant 0)) (typed_found r) =
    subst (λ (q : Pattern). IsOnly (IsValueAt sig (token ∷ []) q) (typed_found r)) pattern
    (subst (λ (names : List (List ℕ)). IsOnly (IsValueAt sig names p) (typed_found r)) first.1
    only) in
    subst (λ (c : Bool). IsTrue c ↔ IsValueToken sig token) (sym answer)
    (decided sig token r there)
