-- The texts of a drill are those of its parts.
use Rattle.std.proofs.Common.{◌≡◌, ◌+◌, ℕ, zero, suc, List, [], ◌∷◌, ◌++◌, refl, ap, sym, ◌∙◌}
use Rattle.std.proofs.Common.{append_assoc, codes}
use Rattle.std.specs.Fmt.{decimal}
use Rattle.std.proofs.lemmas.List.{append-nil}
use Rattle.drill_gen.specs.Drill.{line, lines, symbol_line, symbol_lines, drill_definition}
use Rattle.drill_gen.specs.Drill.{drill_term, first_lines, rule_line, rule_lines}
use Rattle.drill_accepted.proofs.Parts.{Part, parts_text, text-append}
use Rattle.drill_accepted.proofs.DrillLines.{Line, parts_of, fixed_lines, step_line, axiom_line}
use Rattle.drill_accepted.proofs.DrillLines.{step_lines, axiom_lines, drill_lines, opening_parts}
use Rattle.drill_accepted.proofs.DrillLines.{closing_parts, drill_parts, term_parts, step_parts}
use Rattle.drill_accepted.proofs.DrillLines.{rule_parts}

line-of-three : (a b c : List ℕ) → line (a ∷ b ∷ c ∷ []) ≡ a ++ (b ++ (c ++ (10 ∷ [])))
line-of-three a b c = simp (append_assoc, append-nil)

line-of-eight : (a b c d e f g h : List ℕ)
    → line (a ∷ b ∷ c ∷ d ∷ e ∷ f ∷ g ∷ h ∷ []) ≡ a ++
    (b ++ (c ++ (d ++ (e ++ (f ++ (g ++ (h ++ (10 ∷ []))))))))
line-of-eight a b c d e f g h = simp (append_assoc, append-nil)

step-text : (i : ℕ) → symbol_line i ≡ parts_text (step_parts i)
step-text i = line-of-three (codes "symbol c") (decimal i)
    (codes "{}() : SortC{} [constructor{}()]")

rule-text : (i : ℕ) → rule_line i ≡ parts_text (rule_parts i)
rule-text i =
    line-of-eight (codes "axiom{} \\rewrites{SortS{}}(\\and{SortS{}}(st{}(c") (decimal i)
    (codes
    "{}(),X:SortInt{}),\\equals{SortBool{},SortS{}}(ge{}(X:SortInt{},\\dv{SortInt{}}(\"0\")),")
    (codes "\\dv{SortBool{}}(\"true\"))),\\and{SortS{}}(st{}(c") (decimal (i + 1))
    (codes "{}(),add{}(X:SortInt{},\\dv{SortInt{}}(\"") (decimal i)
    (codes "\"))),\\top{SortS{}}())) []")

-- ---- lists of lines

abbrev text_of_lines : List Line → List ℕ
text_of_lines ls = parts_text (parts_of ls)

parts-append : (ls ms : List Line) → parts_of (ls ++ ms) ≡ parts_of ls ++ parts_of ms
parts-append [] ms = refl
parts-append (l ∷ ls) ms =
    ap (λ (ps : List Part). l.parts ++ ps) (parts-append ls ms)
    ∙ sym (append_assoc l.parts (parts_of ls) (parts_of ms))

lines-append : (ls ms : List Line) → text_of_lines (ls ++ ms) ≡ text_of_lines ls ++ text_of_lines ms
lines-append ls ms = ap parts_text (parts-append ls ms) ∙ text-append (parts_of ls) (parts_of ms)

one-line : (l : Line) → text_of_lines (l ∷ []) ≡ parts_text l.parts
one-line l = ap parts_text (append-nil l.parts)

steps-text : (n : ℕ) → symbol_lines n ≡ text_of_lines (step_lines n)
steps-text zero = refl
steps-text (suc n) =
    ap (λ (t : List ℕ). t ++ symbol_line n) (steps-text n)
    ∙ ap (λ (t : List ℕ). text_of_lines (step_lines n) ++ t)
    (step-text n ∙ sym (one-line (step_line n)))
    ∙ sym (lines-append (step_lines n) (step_line n ∷ []))

rules-text : (n : ℕ) → rule_lines n ≡ text_of_lines (axiom_lines n)
rules-text zero = refl
rules-text (suc n) =
    ap (λ (t : List ℕ). t ++ rule_line n) (rules-text n)
    ∙ ap (λ (t : List ℕ). text_of_lines (axiom_lines n) ++ t)
    (rule-text n ∙ sym (one-line (axiom_line n)))
    ∙ sym (lines-append (axiom_lines n) (axiom_line n ∷ []))

-- ---- the whole texts

first-text : first_lines ≡ parts_text opening_parts ++ text_of_lines fixed_lines
first-text = refl

last-text : lines (codes "endmodule []" ∷ []) ≡ parts_text closing_parts
last-text = refl

middle-text : (n : ℕ) → text_of_lines (drill_lines n) ≡ text_of_lines fixed_lines ++
    (symbol_lines (n + 1) ++ rule_lines n)
middle-text n =
    lines-append fixed_lines (step_lines (n + 1) ++ axiom_lines n)
    ∙ ap (λ (t : List ℕ). text_of_lines fixed_lines ++ t)
    (lines-append (step_lines (n + 1)) (axiom_lines n)
    ∙ ap (λ (t : List ℕ). t ++ text_of_lines (axiom_lines n)) (sym (steps-text (n + 1)))
    ∙ ap (λ (t : List ℕ). symbol_lines (n + 1) ++ t) (sym (rules-text n)))

regrouped : (a b c d e : List ℕ) → (a ++ b) ++ (c ++ (d ++ e)) ≡ a ++ ((b ++ (c ++ d)) ++ e)
regrouped a b c d e = simp append_assoc

pub definition-text : (n : ℕ) → drill_definition n ≡ parts_text (drill_parts n)
definition-text n =
    ap (λ (t : List ℕ). t ++ (symbol_lines (n + 1) ++
    (rule_lines n ++ lines (codes "endmodule []" ∷ [])))) first-text
    ∙ regrouped (parts_text opening_parts) (text_of_lines fixed_lines) (symbol_lines (n + 1))
    (rule_lines n) (parts_text closing_parts)
    ∙ ap (λ (t : List ℕ). parts_text opening_parts ++ (t ++ parts_text closing_parts))
    (sym (middle-text n))
    ∙ ap (λ (t : List ℕ). parts_text opening_parts ++ t)
    (sym (text-append (parts_of (drill_lines n)) closing_parts))
    ∙ sym (text-append opening_parts (parts_of (drill_lines n) ++ closing_parts))

pub term-text : drill_term ≡ parts_text term_parts
term-text = refl
