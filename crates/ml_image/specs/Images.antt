-- The images of rules' patterns as patterns of matching logic (Chen and Rosu 2019). A constant or a
-- sort of an image is the number of its token among the names. If the names do not have a token,
-- there is no image.
use Rattle.std.specs.Prelude.{ℕ, ◌+◌, List, [], ◌∷◌, Option, Some, None, option_map}
use Rattle.std.specs.List.{position_from}
use Rattle.ml_pat.specs.Patterns.{Pattern, app, at_sort, var, constant}
use Rattle.term_core.specs.Patterns.{Pattern as RulePattern, Patterns as RulePatterns, variable}
use Rattle.term_core.specs.Patterns.{domain_value, application, injection, call, no_pattern}
use Rattle.term_core.specs.Patterns.{more_patterns}
use Rattle.rule_core.specs.declared.signature.Signature.{Signature}
use Rattle.rule_core.specs.declared.signature.SymInfo.{SymInfo}
use Rattle.rule_core.specs.KindTests.{is_injection}
use Rattle.ml_image.specs.Tokens.{token_of_sort, token_of_symbol, token_of_value, number_in_names}

-- the function of two things, if both are given
abbrev pub both : {A B C : Type 0} → (A → B → C) → Option A → Option B → Option C
both f None b = None
both f (Some a) None = None
both f (Some a) (Some b) = Some (f a b)

-- the injection symbol: the first of that kind
abbrev pub injection_symbol : Signature → Option ℕ
injection_symbol sig = position_from (λ (e : List ℕ × SymInfo). is_injection e.1.kind) 0 sig.symbols

-- the constant of a symbol
abbrev pub symbol_image : Signature → List (List ℕ) → ℕ → Option Pattern
symbol_image sig names f = option_map constant (number_in_names names (token_of_symbol sig f))

-- the number of a sort
abbrev pub sort_image : Signature → List (List ℕ) → ℕ → Option ℕ
sort_image sig names s = number_in_names names (token_of_sort sig s)

-- the pattern applied to the sort arguments, in order
abbrev pub at_sorts : Signature → List (List ℕ) → Option Pattern → List ℕ → Option Pattern
at_sorts sig names head [] = head
at_sorts sig names head (s ∷ ss) =
    at_sorts sig names (both at_sort head (sort_image sig names s)) ss

-- the injection symbol, if there is one, applied to the source sort and the target sort of an
-- injection
abbrev pub some_symbol_image : Signature → List (List ℕ) → Option ℕ → Option Pattern
some_symbol_image sig names None = None
some_symbol_image sig names (Some f) = symbol_image sig names f

abbrev pub injection_image : Signature → List (List ℕ) → ℕ → ℕ → Option Pattern
injection_image sig names a b =
    at_sorts sig names (some_symbol_image sig names (injection_symbol sig)) (a ∷ b ∷ [])

-- The image of a variable is the object variable with its number. The image of a domain value is
-- the constant of its token. A symbol is applied to its sort arguments and then to its arguments,
-- one after another, in order.
abbrev mutual
  pub image_of : Signature → List (List ℕ) → RulePattern → Option Pattern
  image_of sig names (variable x) = Some (var x)
  image_of sig names (domain_value s v) =
      option_map constant (number_in_names names (token_of_value sig s v))
  image_of sig names (application f ps) = applied sig names (symbol_image sig names f) ps
  image_of sig names (injection a b p) =
      both app (injection_image sig names a b) (image_of sig names p)
  image_of sig names (call f ss ps) =
      applied sig names (at_sorts sig names (symbol_image sig names f) ss) ps

  -- the pattern applied to the images of the arguments, in order
  pub applied : Signature → List (List ℕ) → Option Pattern → RulePatterns → Option Pattern
  applied sig names head no_pattern = head
  applied sig names head (more_patterns p ps) =
      applied sig names (both app head (image_of sig names p)) ps

-- the pattern with each variable x as the variable g x
abbrev mutual
  pub renamed : (ℕ → ℕ) → RulePattern → RulePattern
  renamed g (variable x) = variable (g x)
  renamed g (domain_value s v) = domain_value s v
  renamed g (application f ps) = application f (all_renamed g ps)
  renamed g (injection a b p) = injection a b (renamed g p)
  renamed g (call f ss ps) = call f ss (all_renamed g ps)

  pub all_renamed : (ℕ → ℕ) → RulePatterns → RulePatterns
  all_renamed g no_pattern = no_pattern
  all_renamed g (more_patterns p ps) = more_patterns (renamed g p) (all_renamed g ps)

-- the pattern with its variables numbered from k
abbrev pub shifted : ℕ → RulePattern → RulePattern
shifted k = renamed (λ x. k + x)

abbrev pub all_shifted : ℕ → RulePatterns → RulePatterns
all_shifted k = all_renamed (λ x. k + x)
