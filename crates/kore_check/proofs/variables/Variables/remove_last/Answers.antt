use Rattle.std.proofs.Common.{rules, ◌≡◌, ◌∙◌, ◌++◌, ◌∷◌, [], ℕ, List, None, cond, ap, subst}
use Rattle.std.proofs.Common.{string_bytes}
use Rattle.std.proofs.lemmas.List.{map-append}
use Rattle.kore_check.specs.PatternMeanings.{variable_number}
use Rattle.kore_check.specs.VariableFields.{variables_of, number_under, AreNumbered}
use Rattle.kore_check.proofs.VariableLaws.{same, numbers-updated, numbers-gone, AreNumbered-gone}
use Rattle.kore_check.proofs.variables.Variables.remove_last.Goals as goal

pub invariant_of-self-2 : goal.invariant_of-self-2
invariant_of-self-2 c =
    let bytes : c.as_str.result.now ≡ string_bytes c.in-Some.info.name = search rules in
    let parts : variables_of c.self.inside ≡ variables_of
    (record { infos = c.pop.new.self; numbers = c.remove.new.self }) ++
    (string_bytes c.in-Some.info.name, c.in-Some.info.sort.0) ∷ [] =
    search (rules, map-append) in
    let had : AreNumbered (variables_of
    (record { infos = c.pop.new.self; numbers = c.remove.new.self })
    ++ (string_bytes c.in-Some.info.name, c.in-Some.info.sort.0) ∷ []) =
    subst AreNumbered parts c.self.invariant.distinct in
    record {
      distinct = AreNumbered-gone _ _ had;
      numbered = λ name s.
          numbers-updated (c.as_str.result.now, c.in-Some.info.sort.0) c.self.inside.numbers
          c.remove.new.self None c.remove.ensures.updates (name, s)
          ∙ ap (λ (n : List ℕ). cond (same (n, c.in-Some.info.sort.0) (name, s)) None
          (number_under c.self.inside.numbers name s)) bytes
          ∙ ap (λ o. cond (same (string_bytes c.in-Some.info.name, c.in-Some.info.sort.0) (name, s))
          None o) (c.self.invariant.numbered name s
          ∙ ap (λ (vs : List (List ℕ × ℕ)). variable_number vs name s) parts)
          ∙ numbers-gone
          (variables_of (record { infos = c.pop.new.self; numbers = c.remove.new.self }))
          (string_bytes c.in-Some.info.name, c.in-Some.info.sort.0) (name, s) had;
    }
