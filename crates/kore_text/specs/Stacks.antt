-- What the private functions say of the symbols that may come next.
use Rattle.std.specs.Prelude.{◌≡◌, Bool, true, false, ◌&&◌, List, [], ◌∷◌, ◌++◌, reverse, Option}
use Rattle.std.specs.Prelude.{Some, None}
use Rattle.kore_text.specs.declared.expected.Expected.{Expected}
use Rattle.kore_text.specs.declared.symbols.Symbol.{Symbol}
use Rattle.kore_text.specs.TokenStream.{KoreToken}
use Rattle.kore_text.specs.Table.{is_empty, turn}

-- the symbols that are to come, the next one first
abbrev pub stack : Expected → List Symbol
stack e = reverse e.symbols.items

-- true: the token made a move, and the symbols of the move were put in front of the symbols to
-- come; false: the token made no move
abbrev pub Expands : Bool → Option (List Symbol) → List Symbol → List Symbol → Type 0
Expands true (Some b) k new = new ≡ b ++ k
Expands true None k new = ⊥
Expands false (Some b) k new = ⊥
Expands false None k new = Unit {0}

-- true: there is a stack after the token, and this is it; false: there is none
abbrev pub Steps : Bool → Option (List Symbol) → List Symbol → Type 0
Steps true (Some b) new = new ≡ b
Steps true None new = ⊥
Steps false (Some b) new = ⊥
Steps false None new = Unit {0}

-- the token makes no move
abbrev pub is_none : Option (List Symbol) → Bool
is_none (Some b) = false
is_none None = true

abbrev pub is_left_out : Symbol → KoreToken → Bool
is_left_out f t = is_empty f && is_none (turn f t)

abbrev pub is_nil : List Symbol → Bool
is_nil [] = true
is_nil (f ∷ k) = false
