-- The text of the header: the declarations of its constants and variables, the `$f` of each
-- variable, and a `$a` for each row, in order. A row with pairs or hypotheses is in a block with
-- its `$d`s and its `$e`s. The `$e`s have the labels `LABEL.1` and `LABEL.2`.
use Rattle.std.specs.Prelude.{ℕ, Bool, true, false, ◌&&◌, if◌then◌else◌, List, [], ◌∷◌, ◌++◌, codes}
use Rattle.std.specs.List.{flat_map}
use Rattle.mm_header.specs.Header.{Row, header_rows}
use Rattle.mm_header.specs.HeaderRows.{expression_text, labelled, types_texts}

abbrev pub constants_text : List ℕ
constants_text =
    codes "( ) \\bot \\top \\imp \\not \\and \\or \\eq \\mem \\fun \\ex \\all \\app \\at "
    ++ codes "\\next \\ev #Pattern #Sort #Var #Sub #Fresh #Pred |-"

abbrev pub variables_text : List ℕ
variables_text = codes "p q r t u x y s v"

-- ` $.` and the end of the line
abbrev pub line_end : List ℕ
line_end = codes " $.\n"

abbrev pub apart_line : List ℕ × List ℕ → List ℕ
apart_line (x, y) = codes "$d " ++ x ++ codes " " ++ y ++ line_end

abbrev pub hypothesis_line : List ℕ → List ℕ × List ℕ → List ℕ
hypothesis_line label (ending, text) =
    label ++ ending ++ codes " $e " ++ expression_text text ++ line_end

abbrev pub statement_line : Row → List ℕ
statement_line r = r.label ++ codes " $a " ++ expression_text r.statement ++ line_end

abbrev pub scope_lines : Row → List ℕ
scope_lines r = flat_map apart_line r.apart ++ flat_map (hypothesis_line r.label) (labelled r)

abbrev pub is_nil : {A : Type 0} → List A → Bool
is_nil [] = true
is_nil (x ∷ xs) = false

-- a row with no pairs and no hypotheses
abbrev pub is_single : Row → Bool
is_single r = is_nil r.apart && is_nil r.hypotheses

-- the text of a row
abbrev pub row_text : Row → List ℕ
row_text r =
    if is_single r then statement_line r
    else codes "${\n" ++ scope_lines r ++ statement_line r ++ codes "$}\n"

abbrev pub type_line : List ℕ × List ℕ × List ℕ → List ℕ
type_line (label, typecode, variable) =
    label ++ codes " $f " ++ typecode ++ codes " " ++ variable ++ line_end

-- the constants and the variables
abbrev pub symbols_text : List ℕ
symbols_text =
    codes "$c " ++ constants_text ++ line_end ++ codes "$v " ++ variables_text ++ line_end

abbrev pub declarations_text : List ℕ
declarations_text = symbols_text ++ flat_map type_line types_texts

unfoldable pub header_bytes : List ℕ
header_bytes = declarations_text ++ flat_map row_text header_rows
