-- The lines of a drill: each as its tokens and white space, and the declaration that it spells.
use Rattle.std.proofs.Common.{◌+◌, ℕ, zero, suc, List, [], ◌∷◌, ◌++◌, codes, Some}
use Rattle.kore_text.specs.declared.names.Op.{Op}
use Rattle.kore_text.specs.declared.names.Op.TheVariants as op
use Rattle.kore_text.specs.declared.names.Built.TheVariants.{Connective, Value}
use Rattle.kore_text.specs.TokenStream.{identifier, builtin, mark}
use Rattle.kore_text.specs.Trees.{Declaration, sort_declaration, symbol_declaration}
use Rattle.kore_text.specs.Trees.{axiom_declaration}
use Rattle.drill_accepted.proofs.Parts.{Part, blank, written, quoted, named_number, quoted_number}
use Rattle.drill_accepted.proofs.DrillTrees.{Places, int_sort, bool_sort, plain_sort, add_symbol}
use Rattle.drill_accepted.proofs.DrillTrees.{ge_symbol, state_symbol, step_symbol, rule_axiom}

-- ---- how a thing is written in front of what follows it

abbrev pub Writing : Type 0
Writing = List Part → List Part

abbrev pub punct : ℕ → Writing
punct c k = written (mark c) ∷ k

abbrev pub word : List ℕ → Writing
word n k = written (identifier n) ∷ k

abbrev pub space : Writing
space k = blank 32 ∷ k

-- one after the other, up to the end of the line
abbrev pub whole_line : List Writing → List Part
whole_line [] = blank 10 ∷ []
whole_line (w ∷ ws) = w (whole_line ws)

-- the rest of a list, with commas
abbrev pub more_items : ℕ → List Writing → Writing
more_items last [] k = punct last k
more_items last (w ∷ ws) k = punct 44 (w (more_items last ws k))

-- a list between two marks
abbrev pub items : ℕ → ℕ → List Writing → Writing
items first last [] k = punct first (punct last k)
items first last (w ∷ ws) k = punct first (w (more_items last ws k))

abbrev pub in_braces : List Writing → Writing
in_braces ws = items 123 125 ws

abbrev pub in_parentheses : List Writing → Writing
in_parentheses ws = items 40 41 ws

abbrev pub in_brackets : List Writing → Writing
in_brackets ws = items 91 93 ws

abbrev pub sort_writing : List ℕ → Writing
sort_writing n k = word n (in_braces [] k)

abbrev pub applied_writing : List ℕ → List Writing → Writing
applied_writing n ws k = word n (in_braces [] (in_parentheses ws k))

abbrev pub connected_writing : Op → List Writing → List Writing → Writing
connected_writing o ss ws k =
    written (builtin (Some (Connective o))) ∷ in_braces ss (in_parentheses ws k)

-- a domain value of this sort and this string
abbrev pub value_writing : List ℕ → Part → Writing
value_writing s p k =
    written (builtin (Some Value)) ∷ in_braces (sort_writing s ∷ [])
    (in_parentheses ((λ (l : List Part). p ∷ l) ∷ []) k)

abbrev pub step_writing : ℕ → Writing
step_writing i k = named_number i ∷ in_braces [] (in_parentheses [] k)

abbrev pub hook_writing : List ℕ → Writing
hook_writing n = applied_writing (codes "hook") ((λ (k : List Part). quoted n ∷ k) ∷ [])

-- ---- the lines

-- the parts of a line, and the declaration that they spell if its tokens stand at these places
pub record Line : Type 0 where
  pub parts : List Part
  pub declared : Places → Declaration

abbrev pub hooked_sort_parts : List ℕ → List ℕ → List Part
hooked_sort_parts n hook =
    whole_line (word (codes "hooked-sort") ∷ space ∷ sort_writing n ∷ space
    ∷ in_brackets (hook_writing hook ∷ []) ∷ [])

abbrev pub sort_parts : List ℕ → List Part
sort_parts n =
    whole_line (word (codes "sort") ∷ space ∷ sort_writing n ∷ space ∷ in_brackets [] ∷ [])

-- what a symbol is applied to in its declaration, ` : `, its result and its attributes
abbrev pub declared_writing : Writing → List ℕ → List Writing → List Writing
declared_writing applied result attributes =
    space ∷ applied ∷ space ∷ punct 58 ∷ space ∷ sort_writing result ∷ space
    ∷ in_brackets attributes ∷ []

abbrev int_writing : Writing
int_writing = sort_writing (codes "SortInt")

abbrev state_writing : Writing
state_writing = sort_writing (codes "SortS")

abbrev step_sort_writing : Writing
step_sort_writing = sort_writing (codes "SortC")

abbrev constructor_writing : List Writing
constructor_writing = applied_writing (codes "constructor") [] ∷ []

abbrev pub hooked_symbol_parts : List ℕ → List ℕ → List ℕ → List Part
hooked_symbol_parts n result hook =
    whole_line (word (codes "hooked-symbol")
    ∷ declared_writing (applied_writing n (int_writing ∷ int_writing ∷ [])) result
    (applied_writing (codes "function") [] ∷ hook_writing hook ∷ []))

abbrev pub state_symbol_parts : List Part
state_symbol_parts =
    whole_line (word (codes "symbol")
    ∷ declared_writing (applied_writing (codes "st") (step_sort_writing ∷ int_writing ∷ []))
    (codes "SortS") constructor_writing)

abbrev pub step_parts : ℕ → List Part
step_parts i =
    whole_line (word (codes "symbol")
    ∷ declared_writing (step_writing i) (codes "SortC") constructor_writing)

abbrev sum_writing : Writing
sum_writing k = word (codes "X") (punct 58 (int_writing k))

abbrev both_writing : Writing → Writing → Writing
both_writing a b = connected_writing op.And (state_writing ∷ []) (a ∷ b ∷ [])

abbrev condition_writing : Writing
condition_writing =
    connected_writing op.Equals (sort_writing (codes "SortBool") ∷ state_writing ∷ [])
    (applied_writing (codes "ge")
    (sum_writing ∷ value_writing (codes "SortInt") (quoted (codes "0")) ∷ [])
    ∷ value_writing (codes "SortBool") (quoted (codes "true")) ∷ [])

abbrev before_writing : ℕ → Writing
before_writing i =
    both_writing (applied_writing (codes "st") (step_writing i ∷ sum_writing ∷ []))
    condition_writing

abbrev after_writing : ℕ → Writing
after_writing i =
    both_writing
    (applied_writing (codes "st") (step_writing (i + 1) ∷ applied_writing (codes "add")
    (sum_writing ∷ value_writing (codes "SortInt") (quoted_number i) ∷ []) ∷ []))
    (connected_writing op.Top (state_writing ∷ []) [])

abbrev pub rule_parts : ℕ → List Part
rule_parts i =
    whole_line (word (codes "axiom") ∷ in_braces [] ∷ space
    ∷ connected_writing op.Rewrites (state_writing ∷ []) (before_writing i ∷ after_writing i ∷ [])
    ∷ space ∷ in_brackets [] ∷ [])

abbrev pub step_line : ℕ → Line
step_line i = record { parts = step_parts i; declared = λ q. symbol_declaration (step_symbol i q) }

abbrev pub axiom_line : ℕ → Line
axiom_line i = record { parts = rule_parts i; declared = λ q. axiom_declaration (rule_axiom i q) }

-- the lines that each drill has in front of these
abbrev pub int_line : Line
int_line = record {
  parts = hooked_sort_parts (codes "SortInt") (codes "INT.Int");
  declared = λ q. sort_declaration (int_sort q);
}

abbrev pub bool_line : Line
bool_line = record {
  parts = hooked_sort_parts (codes "SortBool") (codes "BOOL.Bool");
  declared = λ q. sort_declaration (bool_sort q);
}

abbrev pub step_sort_line : Line
step_sort_line = record {
  parts = sort_parts (codes "SortC");
  declared = λ q. sort_declaration (plain_sort (codes "SortC") q);
}

abbrev pub state_sort_line : Line
state_sort_line = record {
  parts = sort_parts (codes "SortS");
  declared = λ q. sort_declaration (plain_sort (codes "SortS") q);
}

abbrev pub add_line : Line
add_line = record {
  parts = hooked_symbol_parts (codes "add") (codes "SortInt") (codes "INT.add");
  declared = λ q. symbol_declaration (add_symbol q);
}

abbrev pub ge_line : Line
ge_line = record {
  parts = hooked_symbol_parts (codes "ge") (codes "SortBool") (codes "INT.ge");
  declared = λ q. symbol_declaration (ge_symbol q);
}

abbrev pub state_line : Line
state_line = record {
  parts = state_symbol_parts;
  declared =
      λ q. symbol_declaration (state_symbol q);
}

abbrev pub fixed_lines : List Line
fixed_lines =
    int_line ∷ bool_line ∷ step_sort_line ∷ state_sort_line ∷ add_line ∷ ge_line ∷ state_line ∷ []

-- the lines of the steps below n, and of the rules from them
abbrev pub step_lines : ℕ → List Line
step_lines zero = []
step_lines (suc n) = step_lines n ++ step_line n ∷ []

abbrev pub axiom_lines : ℕ → List Line
axiom_lines zero = []
axiom_lines (suc n) = axiom_lines n ++ axiom_line n ∷ []

-- the lines of the declarations of a drill of n steps
abbrev pub drill_lines : ℕ → List Line
drill_lines n = fixed_lines ++ (step_lines (n + 1) ++ axiom_lines n)

-- `[]`, and `module DRILL`
abbrev pub opening_parts : List Part
opening_parts =
    in_brackets []
    (blank 10 ∷ whole_line (word (codes "module") ∷ space ∷ word (codes "DRILL") ∷ []))

abbrev pub closing_parts : List Part
closing_parts = whole_line (word (codes "endmodule") ∷ space ∷ in_brackets [] ∷ [])

-- the parts of lines, in order
abbrev pub parts_of : List Line → List Part
parts_of [] = []
parts_of (l ∷ ls) = l.parts ++ parts_of ls

abbrev pub drill_parts : ℕ → List Part
drill_parts n = opening_parts ++ (parts_of (drill_lines n) ++ closing_parts)

abbrev pub term_parts : List Part
term_parts =
    applied_writing (codes "st")
    (applied_writing (codes "c0") [] ∷ value_writing (codes "SortInt") (quoted (codes "0")) ∷ [])
    (blank 10 ∷ [])
