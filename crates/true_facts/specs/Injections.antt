-- Injections, and the pattern that states that an injection is injective.
use Rattle.std.specs.Prelude.{ℕ, Option, option_map}
use Rattle.ml_pat.specs.Patterns.{Pattern, imp, equal, app, all, var}
use Rattle.true_facts.specs.declared.injections.Injection.{Injection}

abbrev pub injection_found : Option Injection → Option (ℕ × ℕ)
injection_found r = option_map (λ (i : Injection). (i.from.0, i.to.0)) r

-- for all x:0 and x:1 of the sort, if the pattern applied to them is equal, then they are equal
abbrev pub injective : ℕ → Pattern → Pattern
injective s head =
    all 0 s (all 1 s
    (imp (equal (app head (var 0)) (app head (var 1))) (equal (var 0) (var 1))))
