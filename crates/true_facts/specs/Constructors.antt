-- Constructors that are applied to variables, and how the constructors of the code are seen.
use Rattle.std.specs.Prelude.{◌≡◌, ℕ, List, Vec, Option, Some, option_map}
use Rattle.std.specs.Global.{Global}
use Rattle.ml_pat.specs.Patterns.{Pattern, nullary, unary, binary, sorted, quantified, var}
use Rattle.ml_pat.specs.Patterns.{meta, constant, App}
use Rattle.term_core.specs.RulePatterns.{sort_numbers}
use Rattle.term_core.specs.declared.ids.SortId.{SortId}
use Rattle.rule_core.specs.declared.signature.Signature.{Signature}
use Rattle.ml_image.specs.Images.{image_of}
use Rattle.ml_image.specs.Sides.{constructor, IsHead, head_pattern}
use Rattle.true_facts.specs.declared.constructors.Declared.{Declared}
use Rattle.true_facts.specs.declared.constructors.Made.{Made}

-- what is applied in the end, without its arguments
abbrev pub applied_head : Pattern → Pattern
applied_head (binary App p q) = applied_head p
applied_head (binary c p q) = binary c p q
applied_head (nullary c) = nullary c
applied_head (unary c p) = unary c p
applied_head (sorted c p s) = sorted c p s
applied_head (quantified c x s p) = quantified c x s p
applied_head (var x) = var x
applied_head (meta i) = meta i
applied_head (constant c) = constant c

abbrev pub sorts_found : Option (Vec SortId Global) → Option (List ℕ)
sorts_found r = option_map (λ (v : Vec SortId Global). sort_numbers v.items) r

-- the symbol is such a constructor of this sort, with arguments of these sorts
abbrev pub IsDeclared : Signature → ℕ → ℕ × List ℕ → Type 0
IsDeclared sig f d = IsHead sig d.0 (constructor f d.1)

abbrev pub declaration_of : Declared → ℕ × List ℕ
declaration_of d = (d.sort.0, sort_numbers d.args.items)

abbrev pub declared_found : Option Declared → Option (ℕ × List ℕ)
declared_found r = option_map declaration_of r

-- the pattern is the image of this constructor at variables, numbered from k
abbrev pub IsMade : Signature → List (List ℕ) → Pattern → ℕ → ℕ × (ℕ × List ℕ) → Type 0
IsMade sig names p k m =
    IsDeclared sig m.0 m.1
    × (image_of sig names (head_pattern m.1.0 k (constructor m.0 m.1.1)) ≡ Some p)

abbrev pub made_found : Option Made → Option (ℕ × (ℕ × List ℕ))
made_found r = option_map (λ (m : Made). (m.symbol, declaration_of m.declared)) r
