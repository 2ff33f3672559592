use Rattle.std.proofs.Common.{rules, ◌≡◌, ◌∙◌, ◌++◌, ◌∷◌, [], ℕ, List, None, Some, length, cond}
use Rattle.std.proofs.Common.{sym, ap, string_bytes, arith}
use Rattle.std.proofs.lemmas.List.{map-append, length-map}
use Rattle.kore_check.specs.PatternMeanings.{variable_number}
use Rattle.kore_check.specs.VariableFields.{variables_of, number_under}
use Rattle.kore_check.proofs.BuildLaws.{number-added}
use Rattle.kore_check.proofs.VariableLaws.{same, numbers-updated, numbers-added, AreNumbered-added}
use Rattle.kore_check.proofs.variables.Variables.add.Goals as goal

pub invariant_of-self-2 : goal.invariant_of-self-2
invariant_of-self-2 c =
    let none : variable_number (variables_of c.self.inside) c.args.name.now c.args.sort.0 ≡ None =
    rw c.self.view_is c.requires in
    let bytes : string_bytes c.in_ok-from_str-2.field-0 ≡ c.args.name.now = search rules in
    let grown : variables_of (record { infos = c.push.new.self; numbers = c.insert.new.self }) ≡
    variables_of c.self.inside ++ (c.args.name.now, c.args.sort.0) ∷ [] =
    search (rules, map-append) in
    let many : c.in_ok-number.number ≡ length (variables_of c.self.inside) =
    let same_length : length (variables_of c.self.inside) ≡ length c.self.inside.infos.items =
    length-map _ _ in
    let fits = rw c.in_ok-number.ensures.ok_part at c.as_number.ensures.fits in
    omega (arith, same_length, fits, c.len.ensures) in
    record {
      distinct =
          rw grown (AreNumbered-added (variables_of c.self.inside) (c.args.name.now, c.args.sort.0)
          none c.self.invariant.distinct);
      numbered = λ name s.
          numbers-updated (string_bytes c.in_ok-from_str-2.field-0, c.args.sort.0)
          c.self.inside.numbers c.insert.new.self (Some c.in_ok-number.number)
          c.in_ok-insert.ensures.updates (name, s)
          ∙ ap (λ (n : List ℕ). cond (same (n, c.args.sort.0) (name, s))
          (Some c.in_ok-number.number) (number_under c.self.inside.numbers name s)) bytes
          ∙ ap (λ (k : ℕ). cond (same (c.args.name.now, c.args.sort.0) (name, s)) (Some k)
          (number_under c.self.inside.numbers name s)) many
          ∙ ap (λ o. cond (same (c.args.name.now, c.args.sort.0) (name, s))
          (Some (length (variables_of c.self.inside))) o) (c.self.invariant.numbered name s)
          ∙ numbers-added (variables_of c.self.inside) (c.args.name.now, c.args.sort.0) (name, s)
          none
          ∙ ap (λ (vs : List (List ℕ × ℕ)). variable_number vs name s) (sym grown);
    }

pub returns-clause-number : goal.returns-clause-number
returns-clause-number c =
    let none : variable_number (variables_of c.self.inside) c.args.name.now c.args.sort.0 ≡ None =
    rw c.self.view_is c.requires in
    let grown : variables_of (record { infos = c.push.new.self; numbers = c.insert.new.self }) ≡
    variables_of c.self.inside ++ (c.args.name.now, c.args.sort.0) ∷ [] =
    search (rules, map-append) in
    let many : c.in_ok-number.number ≡ length (variables_of c.self.inside) =
    let same_length : length (variables_of c.self.inside) ≡ length c.self.inside.infos.items =
    length-map _ _ in
    let fits = rw c.in_ok-number.ensures.ok_part at c.as_number.ensures.fits in
    omega (arith, same_length, fits, c.len.ensures) in
    ap (λ (vs : List (List ℕ × ℕ)). variable_number vs c.args.name.now c.args.sort.0) grown
    ∙ number-added (variables_of c.self.inside) c.args.name.now c.args.sort.0 none
    ∙ ap (λ (k : ℕ). Some k) (sym many)
