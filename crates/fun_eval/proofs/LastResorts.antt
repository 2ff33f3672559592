-- Functions with an equation of the last resort, one by one.
use Rattle.std.proofs.Common.{◌≡◌, ℕ, ◌+◌, ◌<◌, Bool, List, [], ◌∷◌, ◌++◌, length, map, get_or}
use Rattle.std.proofs.Common.{take, Option, Some, None, option_map, refl, sym, ◌∙◌, ap, subst}
use Rattle.std.proofs.Common.{true, false}
use Rattle.std.specs.Prelude.{Vec, is_some, ◌||◌, IsNone, IsSome}
use Rattle.std.specs.Global.{Global}
use Rattle.std.specs.List.{list_any}
use Rattle.std.proofs.lemmas.List.{take_more}
use Rattle.rule_core.specs.ProgramView.{function_equation, function_equations, guard_of}
use Rattle.rule_core.specs.declared.rules.Equation.{Equation}
use Rattle.rule_core.specs.declared.rules.Guard.{Guard}
use Rattle.fun_eval.specs.LastResorts.{has_last_resort, is_last_resort}

some_mapped : {A B : Type 0} (f : A → B) (o : Option A) → is_some (option_map f o) ≡ is_some o
some_mapped f None = refl
some_mapped f (Some x) = refl

no_mapped : {A B : Type 0} (f : A → B) (o : Option A) → is_some o ≡ false
    → IsNone (option_map f o)
no_mapped f None none = refl
no_mapped f (Some x) none = let no : ⊥ = cc in absurd no

-- whether an equation is of the last resort
pub is_last : (e : Equation) → is_some e.owise ≡ true → IsSome (function_equation e).last_resort
is_last e some = some_mapped (λ (gs : Vec Guard Global). map guard_of gs.items) e.owise ∙ some

pub is_not_last : (e : Equation) → is_some e.owise ≡ false
    → IsNone (function_equation e).last_resort
is_not_last e none = no_mapped (λ (gs : Vec Guard Global). map guard_of gs.items) e.owise none

any_last : (es : List Equation) → list_any is_last_resort es
    ≡ has_last_resort (map function_equation es)
any_last [] = refl
any_last (e ∷ es) =
    ap (λ (b : Bool). b || list_any is_last_resort es)
    (sym (some_mapped (λ (gs : Vec Guard Global). map guard_of gs.items) e.owise))
    ∙ ap (λ (b : Bool). is_some (function_equation e).last_resort || b) (any_last es)

one_at_end : (lists : List (Vec Equation Global)) (es : Vec Equation Global)
    → map has_last_resort (function_equations (lists ++ es ∷ []))
    ≡ map has_last_resort (function_equations lists)
    ++ has_last_resort (map function_equation es.items) ∷ []
one_at_end [] es = refl
one_at_end (x ∷ lists) es =
    ap (λ (bs : List Bool). has_last_resort (map function_equation x.items) ∷ bs)
    (one_at_end lists es)

pub one_list_more : (lists seen : List (Vec Equation Global)) (i : ℕ) (es : Vec Equation Global)
    (found more : List Bool) (b : Bool) (items : List Equation) → seen ≡ lists
    → es ≡ get_or seen i es → i < length seen
    → found ≡ map has_last_resort (function_equations (take i lists))
    → more ≡ found ++ b ∷ [] → b ≡ list_any is_last_resort items → items ≡ es.items
    → more ≡ map has_last_resort (function_equations (take (i + 1) lists))
one_list_more lists seen i es found more b items all is lt before pushed any same =
    let there : es ≡ get_or lists i es =
    subst (λ (xs : List (Vec Equation Global)). es ≡ get_or xs i es) all is in
    let within : i < length lists =
    subst (λ (xs : List (Vec Equation Global)). i < length xs) all lt in
    let here : b ≡ has_last_resort (map function_equation es.items) =
    any ∙ (any_last items
    ∙ ap (λ (xs : List Equation). has_last_resort (map function_equation xs)) same) in
    let next : take (i + 1) lists ≡ take i lists ++ es ∷ [] =
    take_more lists i es within
    ∙ ap (λ (x : Vec Equation Global). take i lists ++ x ∷ []) (sym there) in
    pushed
    ∙ (ap (λ (bs : List Bool). bs ++ b ∷ []) before
    ∙ (ap (λ (a : Bool). map has_last_resort (function_equations (take i lists)) ++ a ∷ []) here
    ∙ (sym (one_at_end (take i lists) es)
    ∙ ap (λ (xs : List (Vec Equation Global)). map has_last_resort (function_equations xs))
    (sym next))))
