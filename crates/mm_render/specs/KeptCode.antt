-- The code of what a renderer keeps.
use Rattle.std.specs.Prelude.{◌≡◌, refl, ℕ, Bool, true, false, List}
use Rattle.std.specs.Coded.{Coded, code_by, coded×, coded_bool, coded_ℕ, coded_list}
use Rattle.ml_pat.specs.Patterns.{Pattern}
use Rattle.ml_pat.specs.PatternCode.{pattern_code}
use Rattle.mm_claims.specs.Variables.{Variable, object_variable, pattern_variable, is_object}
use Rattle.mm_claims.specs.Variables.{number_of}
use Rattle.mm_claims.specs.Blocks.{Claim, Stated}
use Rattle.mm_claims.specs.Rendered.{Rendered}

abbrev variable_by : Bool → ℕ → Variable
variable_by true i = object_variable i
variable_by false i = pattern_variable i

abbrev pub variable_code : Coded Variable
variable_code =
    code_by (Bool × ℕ) (coded× coded_bool coded_ℕ) (λ v. (is_object v, number_of v))
    (λ p. variable_by p.0 p.1) (λ v. by_cases v)
  where
    by_cases : (v : Variable) → variable_by (is_object v) (number_of v) ≡ v
    by_cases (object_variable i) = refl
    by_cases (pattern_variable i) = refl

abbrev pub claim_code : Coded Claim
claim_code =
    code_by (List Variable × (List Pattern × Pattern))
    (coded× (coded_list variable_code) (coded× (coded_list pattern_code) pattern_code))
    (λ s. (s.variables, (s.hypotheses, s.conclusion)))
    (λ p. record { variables = p.0; hypotheses = p.1.0; conclusion = p.1.1 }) (λ _. refl)

abbrev pub stated_code : Coded Stated
stated_code = code_by (ℕ × Claim) (coded× coded_ℕ claim_code) (λ s. (s.number, s.claim))
    (λ p. record { number = p.0; claim = p.1 }) (λ _. refl)

abbrev pub kept_code : Coded Rendered
kept_code =
    code_by (Bool × (ℕ × (ℕ × (List Stated × List Stated))))
    (coded× coded_bool (coded× coded_ℕ
    (coded× coded_ℕ (coded× (coded_list stated_code) (coded_list stated_code)))))
    (λ k. (k.begun, (k.named, (k.count, (k.stated, k.last)))))
    (λ p. record {
      begun = p.0;
      named = p.1.0;
      count = p.1.1.0;
      stated = p.1.1.1.0;
      last = p.1.1.1.1;
    }) (λ _. refl)
