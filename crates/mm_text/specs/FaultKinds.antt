-- The kinds of faults of a Metamath text. If a statement has faults of several kinds, the smallest
-- kind is reported.
use Rattle.std.specs.Prelude.{ℕ}
use Rattle.mm_text.specs.declared.fault.MmFault.{MmFault}

-- a byte is neither white space nor printable ASCII
abbrev pub bad_byte : ℕ
bad_byte = 1

-- a comment has no end or has a comment mark in it, or a comment is closed that was not opened
abbrev pub bad_comment : ℕ
bad_comment = 2

-- a keyword is unknown or misplaced, or the statement has no end
abbrev pub bad_keyword : ℕ
bad_keyword = 3

-- a constant is declared in an inner block
abbrev pub inner_constant : ℕ
inner_constant = 4

-- a symbol is declared that may not be declared
abbrev pub redeclared : ℕ
redeclared = 5

-- a symbol is not active, or a variable has no type
abbrev pub not_active : ℕ
not_active = 6

-- a statement does not begin with a constant, or a typing is not a constant and a variable
abbrev pub bad_typecode : ℕ
bad_typecode = 7

-- a variable that has a type is typed again
abbrev pub second_float : ℕ
second_float = 8

-- a `$d` has fewer than two variables, or the same variable twice
abbrev pub bad_disjoint : ℕ
bad_disjoint = 9

-- a block is closed that was not opened, or has no end
abbrev pub bad_scope : ℕ
bad_scope = 10

-- a label is missing, misplaced, misspelt or in use
abbrev pub bad_label : ℕ
bad_label = 11

-- the text of a proof does not name steps
abbrev pub bad_proof_text : ℕ
bad_proof_text = 12

-- a step of a proof does not fit
abbrev pub bad_step : ℕ
bad_step = 13

-- a proof does not prove its statement
abbrev pub bad_conclusion : ℕ
bad_conclusion = 14

abbrev pub fault : ℕ → ℕ → MmFault
fault kind at = record { kind = kind; at = at }
