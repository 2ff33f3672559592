-- The axioms among declarations, one after another.
use Rattle.std.proofs.Common.{◌≡◌, ◌<◌, ℕ, ◌+◌, List, [], ◌∷◌, ◌++◌, map, take, get_or, length}
use Rattle.std.proofs.Common.{refl, sym, ap, ◌∙◌}
use Rattle.std.specs.Prelude.{Option, Some, None, filter_map}
use Rattle.std.specs.List.{cons_option}
use Rattle.std.proofs.lemmas.List.{map-append}
use Rattle.std.proofs.lemmas.List.Elements.{filter_map-append}
use Rattle.kore_text.specs.Trees.{Declaration, AxiomDeclaration, import_declaration}
use Rattle.kore_text.specs.Trees.{sort_declaration, symbol_declaration, alias_declaration}
use Rattle.kore_text.specs.Trees.{axiom_declaration, claim_declaration}
use Rattle.kore_sig.specs.Declarations.{axiom_declared}
use Rattle.kore_sig.proofs.ListLaws.{map_step}

-- what h keeps of the items so far, and of the next one
pub kept_more : {X Y Z : Type 0} (f : X → Y) (h : Y → Option Z) (xs : List X) (i : ℕ) (x : X)
    → i < length xs → x ≡ get_or xs i x
    → filter_map h (map f (take (i + 1) xs))
    ≡ filter_map h (map f (take i xs)) ++ cons_option (h (f x)) []
kept_more f h xs i x lt is =
    ap (filter_map h) (map_step f xs i x lt is) ∙ filter_map-append h (map f (take i xs)) (f x ∷ [])
