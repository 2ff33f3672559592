-- Tests of what a symbol is used for.
use Rattle.std.specs.Prelude.{Bool, true, false}
use Rattle.rule_core.specs.declared.signature.SymKind.{SymKind}
use Rattle.rule_core.specs.declared.signature.SymKind.TheVariants.{Injection, Equations, Hooked}
use Rattle.rule_core.specs.declared.signature.SymKind.TheVariants.{Closed, NoKind}

-- the symbol is an injection
abbrev pub is_injection : SymKind → Bool
is_injection Injection = true
is_injection _ = false

-- nothing says what the symbol is used for
abbrev pub has_no_kind : SymKind → Bool
has_no_kind NoKind = true
has_no_kind _ = false

-- the symbol is a function that equations define
abbrev pub is_defined_kind : SymKind → Bool
is_defined_kind Equations = true
is_defined_kind _ = false

-- the symbol is a function
abbrev pub is_function_kind : SymKind → Bool
is_function_kind Equations = true
is_function_kind (Hooked row) = true
is_function_kind Closed = true
is_function_kind _ = false
