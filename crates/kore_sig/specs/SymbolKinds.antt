-- What a symbol is used for, and whether it is said to be associative, commutative or the like (K
-- framework, attributes `sortInjection`, `function`, `constructor`, `assoc`, `comm`, `unit` and
-- `idem`).
use Rattle.std.specs.Prelude.{ℕ, Bool, false, not, ◌&&◌, ◌||◌, ◌==◌, List, [], ◌∷◌, length, Option}
use Rattle.std.specs.Prelude.{Some, None, option_map, find, filter_map, if◌then◌else◌, codes}
use Rattle.std.specs.Str.{bytes_eq}
use Rattle.kore_text.specs.Trees.{SortTree, sort_parameter, sort_applied, listed_sorts, PatternTree}
use Rattle.kore_text.specs.Trees.{symbol_applied, connected, listed_patterns, SymbolDeclaration}
use Rattle.kore_text.specs.Trees.{AxiomDeclaration, DefinitionTree}
use Rattle.kore_text.specs.declared.names.Op.{Op}
use Rattle.kore_text.specs.declared.names.Op.TheVariants.{Equals}
use Rattle.rule_core.specs.declared.signature.SymKind.{SymKind}
use Rattle.rule_core.specs.declared.signature.SymKind.TheVariants.{Injection, Ctor, Equations}
use Rattle.rule_core.specs.declared.signature.SymKind.TheVariants.{Closed, NoKind}
use Rattle.rule_core.specs.Named.{is_among}
use Rattle.kore_sig.specs.Attributes.{has_attribute, is_said_ac}
use Rattle.kore_sig.specs.Declarations.{axioms_of}

-- the sort is the parameter with this name
abbrev pub is_parameter : List ℕ → SortTree → Bool
is_parameter name (sort_parameter at n) = bytes_eq n name
is_parameter name (sort_applied at n ss) = false

-- two different parameters From and To, one argument of sort From, and the result sort To
abbrev pub goes_from_to : List (List ℕ) → List SortTree → SortTree → Bool
goes_from_to (from ∷ (to ∷ [])) (arg ∷ []) result =
    not (bytes_eq from to) && (is_parameter from arg && is_parameter to result)
goes_from_to params args result = false

abbrev pub has_injection_form : SymbolDeclaration → Bool
has_injection_form d =
    has_attribute (codes "sortInjection") d.attributes && goes_from_to d.params d.args d.result

-- the name of the injection symbol, which is the first symbol of that form
abbrev pub injection_of : List SymbolDeclaration → Option (List ℕ)
injection_of symbols =
    option_map (λ (d : SymbolDeclaration). d.name) (find has_injection_form symbols)

-- the name is there and is the same
abbrev pub is_named_so : Option (List ℕ) → List ℕ → Bool
is_named_so None name = false
is_named_so (Some n) name = bytes_eq n name

-- a function with sort parameters is not evaluated
abbrev pub function_kind : SymbolDeclaration → SymKind
function_kind d = if length d.params == 0 then Equations else Closed

-- The kind of a symbol if the injection symbol has this name. The first kind that fits is taken.
-- Hooks of functions are not considered here.
abbrev pub kind_of : Option (List ℕ) → SymbolDeclaration → SymKind
kind_of injection d =
    if is_named_so injection d.name then Injection
    else if has_attribute (codes "function") d.attributes then function_kind d
    else if has_attribute (codes "constructor") d.attributes && (length d.params == 0) then Ctor
    else NoKind

-- the symbol of an application without sort arguments
abbrev pub head_of : List ℕ → List SortTree → Option (List ℕ)
head_of name [] = Some name
head_of name (s ∷ sorts) = None

abbrev pub head_symbol : PatternTree → Option (List ℕ)
head_symbol (symbol_applied at n sorts args) = head_of n (listed_sorts sorts)
head_symbol p = None

-- the symbol of the first of these patterns
abbrev pub first_symbol : List PatternTree → Option (List ℕ)
first_symbol [] = None
first_symbol (p ∷ ps) = head_symbol p

-- the symbol f of `\equals{S,R}(f{}(..),..)`
abbrev pub equated_by : Op → List PatternTree → Option (List ℕ)
equated_by Equals args = first_symbol args
equated_by op args = None

abbrev pub equated_symbol : PatternTree → Option (List ℕ)
equated_symbol (connected at op sorts args) = equated_by op (listed_patterns args)
equated_symbol p = None

-- the symbol that an axiom says to be associative, commutative or the like
abbrev pub said_ac : AxiomDeclaration → Option (List ℕ)
said_ac stated = if is_said_ac stated.attributes then equated_symbol stated.pattern else None

-- the symbols that axioms say to be associative, commutative or the like
abbrev pub ac_names : DefinitionTree → List (List ℕ)
ac_names definition = filter_map said_ac (axioms_of definition)

-- the symbol's own attributes or an axiom say that it is associative, commutative or the like
abbrev pub is_ac : List (List ℕ) → SymbolDeclaration → Bool
is_ac by_axiom d = is_said_ac d.attributes || is_among by_axiom d.name
