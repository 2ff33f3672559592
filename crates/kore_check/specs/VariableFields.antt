-- What contracts see of variables, and how the two fields of `Variables` agree.
use Rattle.std.specs.Prelude.{◌≡◌, ℕ, List, Option, Some, String, slice_get}
use Rattle.std.specs.BTreeMap.{BTreeMap, get_by}
use Rattle.std.specs.Global.{Global}
use Rattle.kore_check.specs.PatternMeanings.{variable_number}
use Rattle.kore_check.specs.VariableNames.{named_sorts}
use Rattle.kore_check.specs.VariableKeys.{key_of, key_cmp}
use Rattle.kore_check.specs.declared.variables.Variables.TheInside.{Inside}

abbrev pub variables_of : Inside → List (List ℕ × ℕ)
variables_of v = named_sorts v.infos.items

-- the number that the map has for a name and a sort
abbrev pub number_under : BTreeMap (String Global × ℕ) ℕ → List ℕ → ℕ → Option ℕ
number_under m name s = get_by (λ k. key_cmp (name, s) (key_of k)) m

-- no two variables have the same name and the same sort
abbrev pub AreNumbered : List (List ℕ × ℕ) → Type 0
AreNumbered vars =
    (i : ℕ) (v : List ℕ × ℕ) → slice_get vars i ≡ Some v → variable_number vars v.0 v.1 ≡ Some i

-- the variables are distinct, and the map has exactly the number of each of them
pub record IsIndexed (v : Inside) : Type 0 where
  pub distinct : AreNumbered (variables_of v)
  pub numbered : (name : List ℕ) (s : ℕ)
      → number_under v.numbers name s ≡ variable_number (variables_of v) name s
