use Rattle.std.proofs.Common.{rules, ◌≡◌, ◌∙◌, ap, sym, ℕ, List, Bool, false, take, Option, Some}
use Rattle.std.proofs.Common.{None}
use Rattle.std.specs.Prelude.{nat_lt, MatchOption}
use Rattle.rule_core.specs.Named.{number_of_name, is_among}
use Rattle.rule_core.specs.DistinctNames.{names_of}
use Rattle.kore_sig.proofs.FaultLaws.{earlier_some, earlier_none}
use Rattle.kore_sig.proofs.declaring.is_earlier.Goals as goal

earlier_by : {V : Type 0} (es : List (List ℕ × V)) (n : List ℕ) (k : ℕ) (o : Option ℕ) (b : Bool)
    → o ≡ number_of_name es n → MatchOption o (b ≡ false) (λ (j : ℕ). b ≡ nat_lt j k)
    → b ≡ is_among (take k (names_of es)) n
earlier_by es n k None b is h = h ∙ earlier_none es n k (sym is)
earlier_by es n k (Some j) b is h = h ∙ earlier_some es n k j (sym is)

pub returns : goal.returns
returns c =
    let tested : MatchOption c.number.result (c.is_some_and.result ≡ false)
    (λ (j : ℕ). c.is_some_and.result ≡ nat_lt j c.args.own) =
    search rules in
    earlier_by c.args.modules.now c.args.name.now c.args.own c.number.result c.is_some_and.result
    (c.number.ensures ∙ ap (number_of_name c.args.modules.now) c.as_str.ensures) tested
