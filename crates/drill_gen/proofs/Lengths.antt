-- The texts of a drill are short: lines are constants and numbers of at most four digits.
use Rattle.std.proofs.Common.{◌≡◌, ◌∙◌, ◌+◌, ◌*◌, ◌≤◌, ◌++◌, ℕ, zero, suc, List, [], ◌∷◌, length}
use Rattle.std.proofs.Common.{codes, refl, ap, arith}
use Rattle.std.proofs.lemmas.List.{length-append}
use Rattle.std.proofs.lemmas.Fmt.{length-decimal-le}
use Rattle.std.specs.Fmt.{decimal}
use Rattle.drill_gen.specs.Drill.{joined, line, lines, first_lines, symbol_line, rule_line}
use Rattle.drill_gen.specs.Drill.{symbol_lines, rule_lines}
use Rattle.drill_gen.specs.DrillLaws.{IsShort}

-- the sum of the lengths of pieces
abbrev lengths : List (List ℕ) → ℕ
lengths [] = 0
lengths (piece ∷ pieces) = length piece + lengths pieces

length-joined : (ps : List (List ℕ)) → length (joined ps) ≡ lengths ps
length-joined [] = refl
length-joined (p ∷ ps) =
    length-append p (joined ps) ∙ ap (λ (n : ℕ). length p + n) (length-joined ps)

length-line : (ps : List (List ℕ)) → length (line ps) ≡ lengths ps + 1
length-line ps = length-append (joined ps) (10 ∷ []) ∙ ap (λ (n : ℕ). n + 1) (length-joined ps)

length-decimal : (i : ℕ) → i ≤ 1000 → length (decimal i) ≤ 4
length-decimal i few = length-decimal-le 4 i (omega arith) (omega (arith, few)) (omega (arith, few))

length-symbol_line : (i : ℕ) → i ≤ 1000 → length (symbol_line i) ≤ 50
length-symbol_line i few =
    let all : length (symbol_line i) ≡ (8 + (length (decimal i) + 32)) + 1 =
    length-line
    (codes "symbol c" ∷ decimal i ∷ codes "{}() : SortC{} [constructor{}()]" ∷ []) in
    omega (arith, all, length-decimal i few)

length-rule_line : (i : ℕ) → i + 1 ≤ 1000 → length (rule_line i) ≤ 300
length-rule_line i few =
    let all =
    length-line (codes "axiom{} \\rewrites{SortS{}}(\\and{SortS{}}(st{}(c" ∷ decimal i
    ∷ codes
    "{}(),X:SortInt{}),\\equals{SortBool{},SortS{}}(ge{}(X:SortInt{},\\dv{SortInt{}}(\"0\")),"
    ∷ codes "\\dv{SortBool{}}(\"true\"))),\\and{SortS{}}(st{}(c" ∷ decimal (i + 1)
    ∷ codes "{}(),add{}(X:SortInt{},\\dv{SortInt{}}(\"" ∷ decimal i
    ∷ codes "\"))),\\top{SortS{}}())) []" ∷ []) in
    let total : length (rule_line i) ≡ (47
    + (length (decimal i)
    + (84 + (46 + (length (decimal (i + 1)) + (39 + (length (decimal i) + 25)))))))
    + 1 =
    all in
    omega (arith, total, length-decimal i (omega (arith, few)), length-decimal (i + 1) few)

length-symbol_lines : (n : ℕ) → n ≤ 1001 → length (symbol_lines n) ≤ 50 * n
length-symbol_lines zero few = omega arith
length-symbol_lines (suc n) few =
    omega (
      arith,
      length-append (symbol_lines n) (symbol_line n),
      length-symbol_lines n (omega (arith, few)),
      length-symbol_line n (omega (arith, few)),
    )

length-rule_lines : (n : ℕ) → n ≤ 1000 → length (rule_lines n) ≤ 300 * n
length-rule_lines zero few = omega arith
length-rule_lines (suc n) few =
    omega (
      arith,
      length-append (rule_lines n) (rule_line n),
      length-rule_lines n (omega (arith, few)),
      length-rule_line n (omega (arith, few)),
    )

pub drill-short : (n : ℕ) → n ≤ 1000 → IsShort n
drill-short n few =
    let last : List ℕ = lines (codes "endmodule []" ∷ []) in
    let first : length first_lines ≤ 1000 = omega arith in
    record {
      definition = omega (
        arith,
        few,
        first,
        length-append first_lines (symbol_lines (n + 1) ++ (rule_lines n ++ last)),
        length-append (symbol_lines (n + 1)) (rule_lines n ++ last),
        length-append (rule_lines n) last,
        length-symbol_lines (n + 1) (omega (arith, few)),
        length-rule_lines n few,
      );
      term = omega arith;
    }
