-- Derivations and theorems as lists of tokens, and the way back. The proofs use this to show that
-- they differ.
use Rattle.std.specs.Prelude.{◌≡◌, refl, ℕ, List, [], ◌∷◌, ◌⊎◌, if◌then◌else◌, bytes_eq}
use Rattle.std.proofs.Common.{inl, inr, ◌∙◌, ap}
use Rattle.std.specs.Coded.{Coded, code_by, coded×, coded⊎, coded_ℕ, coded_list}
use base.Stored.{coded_unit}
use Rattle.ml_pat.specs.Patterns.{Pattern, bot}
use Rattle.ml_pat.specs.PatternCode.{pattern_code}
use Rattle.ml_kernel.specs.Rules.{Instance, pattern, variable, sort, label}
use Rattle.ml_kernel.specs.Theorems.{Derivation, Derivations, hypothesis, own_axiom, by_rule, cited}
use Rattle.ml_kernel.specs.Theorems.{no_derivation, more_derivations, Theorem}
use Rattle.ml_kernel.specs.declared.rules.Rule.{Rule}
use Rattle.ml_kernel.specs.declared.rules.Rule.TheVariants as rule

-- a rule is encoded as its label
abbrev all_rules : List Rule
all_rules =
    rule.P1 ∷ rule.P2 ∷ rule.P3 ∷ rule.Mp ∷ rule.Not1 ∷ rule.Not2 ∷ rule.And1 ∷ rule.And2
    ∷ rule.And3 ∷ rule.Or1 ∷ rule.Or2 ∷ rule.Or3 ∷ rule.Top ∷ rule.Inst ∷ rule.FunEx ∷ rule.ExEl
    ∷ rule.EqRefl ∷ rule.EqEl ∷ rule.EqIn ∷ rule.MemIn ∷ rule.MemNo ∷ rule.Apart ∷ rule.AppL
    ∷ rule.AppR ∷ rule.BotL ∷ rule.BotR ∷ rule.NextIn ∷ rule.Ev1 ∷ rule.Ev2 ∷ rule.EvKt ∷ []

abbrev rule_with : List Rule → List ℕ → Rule
rule_with [] token = rule.P1
rule_with (r ∷ rs) token = if bytes_eq (label r) token then r else rule_with rs token

pub rule_with-label : (r : Rule) → rule_with all_rules (label r) ≡ r
rule_with-label rule.P1 = refl
rule_with-label rule.P2 = refl
rule_with-label rule.P3 = refl
rule_with-label rule.Mp = refl
rule_with-label rule.Not1 = refl
rule_with-label rule.Not2 = refl
rule_with-label rule.And1 = refl
rule_with-label rule.And2 = refl
rule_with-label rule.And3 = refl
rule_with-label rule.Or1 = refl
rule_with-label rule.Or2 = refl
rule_with-label rule.Or3 = refl
rule_with-label rule.Top = refl
rule_with-label rule.Inst = refl
rule_with-label rule.FunEx = refl
rule_with-label rule.ExEl = refl
rule_with-label rule.EqRefl = refl
rule_with-label rule.EqEl = refl
rule_with-label rule.EqIn = refl
rule_with-label rule.MemIn = refl
rule_with-label rule.MemNo = refl
rule_with-label rule.Apart = refl
rule_with-label rule.AppL = refl
rule_with-label rule.AppR = refl
rule_with-label rule.BotL = refl
rule_with-label rule.BotR = refl
rule_with-label rule.NextIn = refl
rule_with-label rule.Ev1 = refl
rule_with-label rule.Ev2 = refl
rule_with-label rule.EvKt = refl

abbrev rule_code : Coded Rule
rule_code = code_by (List ℕ) (coded_list coded_ℕ) label (rule_with all_rules) rule_with-label

abbrev instance_cases : Instance → Pattern ⊎ (ℕ ⊎ ℕ)
instance_cases (pattern p) = inl p
instance_cases (variable x) = inr (inl x)
instance_cases (sort s) = inr (inr s)

abbrev instance_of_cases : Pattern ⊎ (ℕ ⊎ ℕ) → Instance
instance_of_cases (inl p) = pattern p
instance_of_cases (inr (inl x)) = variable x
instance_of_cases (inr (inr s)) = sort s

pub instance_of_cases-instance_cases : (i : Instance) → instance_of_cases (instance_cases i) ≡ i
instance_of_cases-instance_cases (pattern p) = refl
instance_of_cases-instance_cases (variable x) = refl
instance_of_cases-instance_cases (sort s) = refl

abbrev instance_code : Coded Instance
instance_code =
    code_by (Pattern ⊎ (ℕ ⊎ ℕ)) (coded⊎ pattern_code (coded⊎ coded_ℕ coded_ℕ)) instance_cases
    instance_of_cases instance_of_cases-instance_cases

-- A token begins a list of derivations, or is a hypothesis or an axiom, or ends the derivations
-- below a rule or a citation.
abbrev Token : Type 0
Token = (Unit {0} ⊎ (Pattern ⊎ (ℕ × (Pattern × List ℕ))))
    ⊎ ((Rule × List Instance) ⊎ (List Pattern × (Pattern × List Pattern)))

abbrev token_code : Coded Token
token_code =
    coded⊎ (coded⊎ coded_unit
    (coded⊎ pattern_code (coded× coded_ℕ (coded× pattern_code (coded_list coded_ℕ)))))
    (coded⊎ (coded× rule_code (coded_list instance_code))
    (coded× (coded_list pattern_code) (coded× pattern_code (coded_list pattern_code))))

-- the tokens of a derivation, or of derivations from the last one on, in front of other tokens
abbrev mutual
  tokens : Derivation → List Token → List Token
  tokens (hypothesis p) rest = inl (inr (inl p)) ∷ rest
  tokens (own_axiom n p new) rest = inl (inr (inr (n, (p, new)))) ∷ rest
  tokens (by_rule r is ds) rest = inl (inl tt) ∷ all_tokens ds (inr (inl (r, is)) ∷ rest)
  tokens (cited hyps q d ms ds) rest =
      inl (inl tt) ∷ tokens d (inl (inl tt) ∷ all_tokens ds (inr (inr (hyps, (q, ms))) ∷ rest))

  all_tokens : Derivations → List Token → List Token
  all_tokens no_derivation rest = rest
  all_tokens (more_derivations d ds) rest = all_tokens ds (tokens d rest)

-- reads one token, with a stack of the open lists
abbrev read_token : Token → List Derivations → List Derivations
read_token (inl (inl u)) open_lists = no_derivation ∷ open_lists
read_token (inl (inr k)) [] = []
read_token (inl (inr (inl p))) (f ∷ fs) = more_derivations (hypothesis p) f ∷ fs
read_token (inl (inr (inr k))) (f ∷ fs) = more_derivations (own_axiom k.0 k.1.0 k.1.1) f ∷ fs
read_token (inr k) [] = []
read_token (inr k) (ds ∷ []) = []
read_token (inr (inl k)) (ds ∷ (f ∷ fs)) = more_derivations (by_rule k.0 k.1 ds) f ∷ fs
read_token (inr (inr k)) (ds ∷ (no_derivation ∷ fs)) = []
read_token (inr (inr k)) (ds ∷ (more_derivations d rest ∷ [])) = []
read_token (inr (inr k)) (ds ∷ (more_derivations d rest ∷ (f ∷ fs))) =
    more_derivations (cited k.0 k.1.0 d k.1.1 ds) f ∷ fs

abbrev read_all : List Token → List Derivations → List Derivations
read_all [] fs = fs
read_all (k ∷ ks) fs = read_all ks (read_token k fs)

mutual
  read_all-tokens : (d : Derivation) (rest : List Token) (f : Derivations) (fs : List Derivations)
      → read_all (tokens d rest) (f ∷ fs) ≡ read_all rest (more_derivations d f ∷ fs)
  read_all-tokens (hypothesis p) rest f fs = refl
  read_all-tokens (own_axiom n p new) rest f fs = refl
  read_all-tokens (by_rule r is ds) rest f fs =
      read_all-all_tokens ds (inr (inl (r, is)) ∷ rest) (f ∷ fs)
  read_all-tokens (cited hyps q d ms ds) rest f fs =
      read_all-tokens d (inl (inl tt) ∷ all_tokens ds (inr (inr (hyps, (q, ms))) ∷ rest))
      no_derivation (f ∷ fs)
      ∙ read_all-all_tokens ds (inr (inr (hyps, (q, ms))) ∷ rest)
      (more_derivations d no_derivation ∷ (f ∷ fs))

  read_all-all_tokens : (ds : Derivations) (rest : List Token) (fs : List Derivations)
      → read_all (all_tokens ds rest) (no_derivation ∷ fs) ≡ read_all rest (ds ∷ fs)
  read_all-all_tokens no_derivation rest fs = refl
  read_all-all_tokens (more_derivations d ds) rest fs =
      read_all-all_tokens ds (tokens d rest) fs ∙ read_all-tokens d rest ds fs

-- the first derivation of the list at the top of the stack
abbrev first_derivation : List Derivations → Derivation
first_derivation [] = hypothesis bot
first_derivation (no_derivation ∷ fs) = hypothesis bot
first_derivation (more_derivations d ds ∷ fs) = d

pub first_derivation-tokens : (d : Derivation)
    → first_derivation (read_all (tokens d []) (no_derivation ∷ [])) ≡ d
first_derivation-tokens d = ap first_derivation (read_all-tokens d [] no_derivation [])

abbrev pub derivation_code : Coded Derivation
derivation_code =
    code_by (List Token) (coded_list token_code) (λ d. tokens d [])
    (λ ks. first_derivation (read_all ks (no_derivation ∷ []))) first_derivation-tokens

-- a theorem is encoded as its fields
abbrev pub theorem_code : Coded Theorem
theorem_code =
    code_by (List Pattern × (Pattern × Derivation))
    (coded× (coded_list pattern_code) (coded× pattern_code derivation_code))
    (λ t. (t.hypotheses, (t.conclusion, t.derivation)))
    (λ k. record { hypotheses = k.0; conclusion = k.1.0; derivation = k.1.1 })
    (λ _. refl)
