use Rattle.std.proofs.Common.{◌≡◌, ℕ, Bool, List, [], ◌∷◌, ◌++◌, ◌∙◌, subst}
use Rattle.std.specs.Prelude.{Result, Ok, Err, IfOk, OnOk, is_none, if◌then◌else◌, string_bytes}
use Rattle.rule_core.specs.Named.{number_of_name}
use Rattle.kore_sig.specs.Sets.{Knows}
use Rattle.kore_sig.proofs.SetLaws.{knows_more}
use Rattle.kore_sig.proofs.names.add_name.Goals as goal

-- the set grows by the name that was inserted
grown : {E : Type 0} (r : Result Bool E) (old new : List (List ℕ × Unit {0})) (given name : List ℕ)
    → given ≡ name → IfOk r (λ added. added ≡ is_none (number_of_name old given))
    → IfOk r (λ added. new ≡ (if added then old ++ (given, tt) ∷ [] else old))
    → OnOk r ((known : List (List ℕ)) → Knows old known → Knows new (known ++ name ∷ []))
grown (Ok b) old new given name same fresh is =
    λ known knows. subst (λ (n : List ℕ). Knows new (known ++ n ∷ [])) same
    (knows_more b old new given tt known fresh is knows)
grown (Err e) old new given name same fresh is = tt

pub returns-clause-known : goal.returns-clause-known
returns-clause-known c =
    grown c.insert.result c.args.names.now c.insert.new.self (string_bytes c.in_ok-from_str.field-0)
    c.args.name.now (c.in_ok-from_str.ensures.ok ∙ c.as_str.ensures) c.insert.ensures.fresh
    c.insert.ensures.entries
