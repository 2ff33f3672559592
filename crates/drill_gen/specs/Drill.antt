-- The texts of a drill: a definition with one rule for each of its steps, all different, and the
-- term that takes all steps. Each rule adds a number, under a condition.
use Rattle.std.specs.Prelude.{ℕ, zero, suc, ◌+◌, ◌++◌, List, [], ◌∷◌, codes}
use Rattle.std.specs.Fmt.{decimal}

-- pieces of text, one after the other
abbrev pub joined : List (List ℕ) → List ℕ
joined [] = []
joined (piece ∷ pieces) = piece ++ joined pieces

-- a line of these pieces, with its newline
abbrev pub line : List (List ℕ) → List ℕ
line pieces = joined pieces ++ 10 ∷ []

abbrev pub lines : List (List ℕ) → List ℕ
lines [] = []
lines (text ∷ texts) = line (text ∷ []) ++ lines texts

abbrev pub first_lines : List ℕ
first_lines =
    lines (codes "[]" ∷ codes "module DRILL"
    ∷ codes "hooked-sort SortInt{} [hook{}(\"INT.Int\")]"
    ∷ codes "hooked-sort SortBool{} [hook{}(\"BOOL.Bool\")]"
    ∷ codes "sort SortC{} []" ∷ codes "sort SortS{} []"
    ∷ codes
    "hooked-symbol add{}(SortInt{},SortInt{}) : SortInt{} [function{}(),hook{}(\"INT.add\")]"
    ∷ codes "hooked-symbol ge{}(SortInt{},SortInt{}) : SortBool{} [function{}(),hook{}(\"INT.ge\")]"
    ∷ codes "symbol st{}(SortC{},SortInt{}) : SortS{} [constructor{}()]" ∷ [])

-- the symbol of a step
abbrev pub symbol_line : ℕ → List ℕ
symbol_line i = line (codes "symbol c" ∷ decimal i ∷ codes "{}() : SortC{} [constructor{}()]" ∷ [])

-- the rule from one step to the next: it adds the step's number if the sum so far is not negative
abbrev pub rule_line : ℕ → List ℕ
rule_line i =
    line (codes "axiom{} \\rewrites{SortS{}}(\\and{SortS{}}(st{}(c" ∷ decimal i
    ∷ codes
    "{}(),X:SortInt{}),\\equals{SortBool{},SortS{}}(ge{}(X:SortInt{},\\dv{SortInt{}}(\"0\")),"
    ∷ codes "\\dv{SortBool{}}(\"true\"))),\\and{SortS{}}(st{}(c"
    ∷ decimal (i + 1) ∷ codes "{}(),add{}(X:SortInt{},\\dv{SortInt{}}(\"" ∷ decimal i
    ∷ codes "\"))),\\top{SortS{}}())) []" ∷ [])

-- the symbols of the steps below n, and the rules that start from them
abbrev pub symbol_lines : ℕ → List ℕ
symbol_lines zero = []
symbol_lines (suc n) = symbol_lines n ++ symbol_line n

abbrev pub rule_lines : ℕ → List ℕ
rule_lines zero = []
rule_lines (suc n) = rule_lines n ++ rule_line n

-- the definition of a drill of n steps
abbrev pub drill_definition : ℕ → List ℕ
drill_definition n =
    first_lines ++ (symbol_lines (n + 1) ++ (rule_lines n ++ lines (codes "endmodule []" ∷ [])))

-- the term of a drill
abbrev pub drill_term : List ℕ
drill_term = lines (codes "st{}(c0{}(),\\dv{SortInt{}}(\"0\"))" ∷ [])
