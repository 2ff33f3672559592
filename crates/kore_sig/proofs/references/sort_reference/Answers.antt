use Rattle.std.proofs.Common.{rules, ◌≡◌, ◌∙◌, ◌<◌, ◌∷◌, [], List, ℕ, length, sym, arith, Some}
use Rattle.std.specs.Str.{bytes_eq}
use Rattle.rule_core.specs.declared.signature.SortInfo.{SortInfo}
use Rattle.kore_text.specs.Trees.{SortTree}
use Rattle.kore_sig.specs.SortReferences.{declared_number, parameter_place}
use Rattle.kore_sig.proofs.ListLaws.{position_within, number_within}
use Rattle.kore_sig.proofs.references.sort_reference.Goals as goal

declared_within : (sorts : List (List ℕ × SortInfo)) (name : List ℕ) (args : List SortTree) (n : ℕ)
    → Some n ≡ declared_number sorts name args → n < length sorts
declared_within sorts name [] n e = number_within sorts name n (sym e)
declared_within sorts name (s ∷ args) n e = absurd (let never : ⊥ = cc in never)

pub overflow_cast-result : goal.overflow_cast-result
overflow_cast-result c =
    let found : Some c.in_ok-place-in-Param.place ≡ parameter_place c.args.params.now
    c.in-Param.name =
    search rules in
    let lt =
    position_within (λ (p : List ℕ). bytes_eq c.in-Param.name p) 0 c.args.params.now
    c.in_ok-place-in-Param.place (sym found) in
    omega (arith, lt, c.requires.params)

pub overflow_cast-result-in-App : goal.overflow_cast-result-in-App
overflow_cast-result-in-App c =
    let found : Some c.in_ok-number-in-App.number ≡ c.declared_number.result = search rules in
    let lt =
    declared_within c.args.sorts.now c.in-App.name _ c.in_ok-number-in-App.number
    (found ∙ c.declared_number.ensures) in
    omega (arith, lt, c.requires.sorts)
