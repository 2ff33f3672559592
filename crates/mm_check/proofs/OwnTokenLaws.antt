-- Which tokens are those of sorts, symbols and values.
use Rattle.std.proofs.Common.{◌≡◌, ◌≢◌, ◌↔◌, ℕ, List, ◌∷◌, ◌++◌, Option, Some, None, refl, sym}
use Rattle.std.proofs.Common.{◌∙◌, ap, subst, Bool, arith, Result, Ok, Err}
use Rattle.std.specs.Prelude.{IsTrue, IfOk, option_map, codes}
use Rattle.std.specs.Option.{is_some}
use Rattle.std.proofs.lemmas.Bool.{false≢true}
use Rattle.std.proofs.lemmas.List.{append_cancel_left}
use Rattle.std.specs.declared.alloc.AllocError.{AllocError}
use Rattle.rule_core.specs.DistinctNames.{names_of, AreDistinct}
use Rattle.rule_core.specs.Named.{number_of_name}
use Rattle.rule_core.specs.declared.signature.Signature.{Signature}
use Rattle.ml_image.specs.OwnTokens.{IsOwnToken, is_sort_token, is_symbol_token, is_value_token}
use Rattle.ml_image.specs.Tokens.{sort_token, symbol_token, value_token, hexadecimal, name_at}
use Rattle.ml_image.proofs.ImageLaws.{none_some, some_same}
use Rattle.term_core.specs.ValueTexts.{value_text}
use Rattle.true_facts.specs.Tokens.{IsValueToken}
use Rattle.true_facts.proofs.TokenLaws.{name_there, named_there}

-- the name of which a token is made
made_of : (f : List ℕ → List ℕ) (o : Option (List ℕ)) (token : List ℕ)
    → option_map f o ≡ Some token → (name : List ℕ) × (o ≡ Some name) × (f name ≡ token)
made_of f None token h = absurd (none_some token h)
made_of f (Some name) token h = (name, refl, some_same (f name) token h)

-- tokens that begin with different bytes
differ : (a b : ℕ) (x y : List ℕ) → (a ≡ b → ⊥) → (a ∷ x) ≡ (b ∷ y) → ⊥
differ a b x y apart same = apart (let first : a ≡ b = cc in first)

-- a name of a table, by its number
answered : {V : Type 0} (es : List (List ℕ × V)) (name : List ℕ) (o : Option ℕ)
    → o ≡ number_of_name es name → IsTrue (is_some o) → (n : ℕ) × (name_at es n ≡ Some name)
answered es name None is t = absurd (false≢true t)
answered es name (Some n) is t = (n, name_there es name n (sym is))

found : {V : Type 0} (es : List (List ℕ × V)) (name : List ℕ) (n : ℕ) (o : Option ℕ)
    → AreDistinct (names_of es) → o ≡ number_of_name es name → name_at es n ≡ Some name
    → IsTrue (is_some o)
found es name n o distinct is there =
    ap is_some (is ∙ named_there es name n distinct there)

-- a token that begins with `s:` is that of a sort
sort_named : (sig : Signature) (token name : List ℕ) → token ≡ codes "s:" ++ name
    → IsOwnToken sig token → (s : ℕ) × (name_at sig.sorts s ≡ Some name)
sort_named sig token name is (is_sort_token s e) =
    let m = made_of sort_token (name_at sig.sorts s) token e in
    let same : m.0 ≡ name = append_cancel_left (codes "s:") m.0 name (m.2 ∙ is) in
    (s, m.1 ∙ ap (λ (l : List ℕ). Some l) same)
sort_named sig token name is (is_symbol_token f e) =
    let m = made_of symbol_token (name_at sig.symbols f) token e in
    absurd (differ 102 115 (58 ∷ m.0) (58 ∷ name) (λ (h : 102 ≡ 115). omega (arith, h)) (m.2 ∙ is))
sort_named sig token name is (is_value_token s v has e) =
    let m = made_of (λ (n : List ℕ). value_token n v) (name_at sig.sorts s) token e in
    absurd (differ 100 115 (58 ∷ (m.0 ++ (codes ":" ++ hexadecimal (value_text v)))) (58 ∷ name)
    (λ (h : 100 ≡ 115). omega (arith, h)) (m.2 ∙ is))

symbol_named : (sig : Signature) (token name : List ℕ) → token ≡ codes "f:" ++ name
    → IsOwnToken sig token → (f : ℕ) × (name_at sig.symbols f ≡ Some name)
symbol_named sig token name is (is_sort_token s e) =
    let m = made_of sort_token (name_at sig.sorts s) token e in
    absurd (differ 115 102 (58 ∷ m.0) (58 ∷ name) (λ (h : 115 ≡ 102). omega (arith, h)) (m.2 ∙ is))
symbol_named sig token name is (is_symbol_token f e) =
    let m = made_of symbol_token (name_at sig.symbols f) token e in
    let same : m.0 ≡ name = append_cancel_left (codes "f:") m.0 name (m.2 ∙ is) in
    (f, m.1 ∙ ap (λ (l : List ℕ). Some l) same)
symbol_named sig token name is (is_value_token s v has e) =
    let m = made_of (λ (n : List ℕ). value_token n v) (name_at sig.sorts s) token e in
    absurd (differ 100 102 (58 ∷ (m.0 ++ (codes ":" ++ hexadecimal (value_text v)))) (58 ∷ name)
    (λ (h : 100 ≡ 102). omega (arith, h)) (m.2 ∙ is))

pub own_sort : (sig : Signature) (given token name : List ℕ) (o : Option ℕ) (b : Bool)
    → AreDistinct (names_of sig.sorts) → given ≡ token → token ≡ codes "s:" ++ name
    → o ≡ number_of_name sig.sorts name → b ≡ is_some o → IsTrue b ↔ IsOwnToken sig given
own_sort sig given token name o b distinct same is number answer = (
  λ t. let n = answered sig.sorts name o number (sym answer ∙ t) in
      is_sort_token n.0 (ap (option_map sort_token) n.1
      ∙ ap (λ (l : List ℕ). Some l) (sym (same ∙ is))),
  λ own. let n = sort_named sig given name (same ∙ is) own in
      answer ∙ found sig.sorts name n.0 o distinct number n.1,
)

pub own_symbol : (sig : Signature) (given token name : List ℕ) (o : Option ℕ) (b : Bool)
    → AreDistinct (names_of sig.symbols) → given ≡ token → token ≡ codes "f:" ++ name
    → o ≡ number_of_name sig.symbols name → b ≡ is_some o → IsTrue b ↔ IsOwnToken sig given
own_symbol sig given token name o b distinct same is number answer = (
  λ t. let n = answered sig.symbols name o number (sym answer ∙ t) in
      is_symbol_token n.0 (ap (option_map symbol_token) n.1
      ∙ ap (λ (l : List ℕ). Some l) (sym (same ∙ is))),
  λ own. let n = symbol_named sig given name (same ∙ is) own in
      answer ∙ found sig.symbols name n.0 o distinct number n.1,
)

-- a token that begins with neither is that of a value
value_named : (sig : Signature) (token : List ℕ)
    → ((rest : List ℕ) → token ≢ codes "s:" ++ rest)
    → ((rest : List ℕ) → token ≢ codes "f:" ++ rest) → IsOwnToken sig token
    → IsValueToken sig token
value_named sig token no_sort no_symbol (is_sort_token s e) =
    let m = made_of sort_token (name_at sig.sorts s) token e in absurd (no_sort m.0 (sym m.2))
value_named sig token no_sort no_symbol (is_symbol_token f e) =
    let m = made_of symbol_token (name_at sig.symbols f) token e in
    absurd (no_symbol m.0 (sym m.2))
value_named sig token no_sort no_symbol (is_value_token s v has e) = (s, v, has, e)

pub own_value : (sig : Signature) (given token : List ℕ) (r : Result Bool AllocError)
    → given ≡ token → ((rest : List ℕ) → token ≢ codes "s:" ++ rest)
    → ((rest : List ℕ) → token ≢ codes "f:" ++ rest)
    → IfOk r (λ b. IsTrue b ↔ IsValueToken sig token)
    → IfOk r (λ b. IsTrue b ↔ IsOwnToken sig given)
own_value sig given token (Err e) same no_sort no_symbol h = tt
own_value sig given token (Ok b) same no_sort no_symbol h =
    subst (λ (t : List ℕ). IsTrue b ↔ IsOwnToken sig t) (sym same) (
      λ t. let (s, v, has, is) = h.0 t in is_value_token s v has is,
      λ own. h.1 (value_named sig token no_sort no_symbol own),
    )
