-- Lists of patterns with a name in the place of the part that it names.
use Rattle.std.proofs.Common.{◌≡◌, ℕ, ◌+◌, ◌<◌, List, [], ◌∷◌, ◌++◌, length, map, drop, get_or}
use Rattle.std.proofs.Common.{refl, sym, ◌∙◌, ap, subst, arith, zero, suc}
use Rattle.term_core.specs.Patterns.{Pattern, more_patterns}
use Rattle.term_core.specs.Instances.{patterns}
use Rattle.term_core.specs.PatternLists.{plain_patterns}
use Rattle.term_core.specs.RulePatterns.{plain_pattern}
use Rattle.term_core.specs.declared.rule_patterns.RulePat.{RulePat}
use Rattle.rule_core.specs.NamedParts.{Name}
use Rattle.rule_core.specs.WellSorted.{HasNoCall, HaveNoCall}
use Rattle.ml_image.specs.NamedSides.{of_child}
use Rattle.refute.specs.Choosing.{chosen, all_chosen}

-- the patterns with the name x, the first of which is the child k
abbrev pub chosen_list : ℕ → List Name → ℕ → List RulePat → List Pattern
chosen_list x names k [] = []
chosen_list x names k (p ∷ ps) =
    chosen x (of_child k names) (plain_pattern p) ∷ chosen_list x names (k + 1) ps

chosen_listed : (x : ℕ) (names : List Name) (k : ℕ) (ps : List RulePat)
    → patterns (chosen_list x names k ps) ≡ all_chosen x names k (plain_patterns ps)
chosen_listed x names k [] = refl
chosen_listed x names k (p ∷ ps) =
    ap (more_patterns (chosen x (of_child k names) (plain_pattern p)))
    (chosen_listed x names (k + 1) ps)

-- none is left
pub chosen_all : (x : ℕ) (names : List Name) (args done : List RulePat) (i : ℕ)
    → i ≡ length args
    → map plain_pattern done ++ chosen_list x names i (drop i args) ≡ chosen_list x names 0 args
    → plain_patterns done ≡ all_chosen x names 0 (plain_patterns args)
chosen_all x names args done i all before =
    ap patterns (sym (nothing (map plain_pattern done))
    ∙ ap (λ (ps : List RulePat). map plain_pattern done ++ chosen_list x names i ps)
    (sym (none_left args i all)) ∙ before)
    ∙ chosen_listed x names 0 args
  where
    nothing : (qs : List Pattern) → qs ++ [] ≡ qs
    nothing [] = refl
    nothing (q ∷ qs) = ap (λ (rs : List Pattern). q ∷ rs) (nothing qs)

    none_left : (xs : List RulePat) (i : ℕ) → i ≡ length xs → drop i xs ≡ []
    none_left xs i is = ap (λ (n : ℕ). drop n xs) is ∙ go xs
      where
        go : (ys : List RulePat) → drop (length ys) ys ≡ []
        go [] = refl
        go (y ∷ ys) = go ys

-- an argument has no call
pub no_call_item : (args : List RulePat) (i : ℕ) (p : RulePat) → HaveNoCall (plain_patterns args)
    → i < length args → p ≡ get_or args i p → HasNoCall (plain_pattern p)
no_call_item [] i p h low is = absurd (omega (arith, low))
no_call_item (a ∷ args) zero p h low is =
    subst (λ (q : RulePat). HasNoCall (plain_pattern q)) (sym is) h.0
no_call_item (a ∷ args) (suc i) p h low is = no_call_item args i p h.1 (omega (arith, low)) is
