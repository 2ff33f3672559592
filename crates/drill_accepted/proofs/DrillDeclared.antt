-- What the tree of a drill declares: its sorts, its symbols and its axioms.
use Rattle.std.proofs.Common.{◌≡◌, ◌+◌, ℕ, zero, suc, List, [], ◌∷◌, ◌++◌, map, Option, None, refl}
use Rattle.std.proofs.Common.{ap, sym, ◌∙◌, append_assoc, codes}
use Rattle.std.specs.Prelude.{filter_map, flat_map, option_map, find}
use Rattle.std.proofs.lemmas.List.{append-nil, map-append}
use Rattle.std.proofs.lemmas.List.Elements.{filter_map-append}
use Rattle.std.proofs.lemmas.List.Folds.{find-append}
use Rattle.std.proofs.lemmas.Grind.{flat_map-append}
use Rattle.kore_text.specs.Trees.{SortDeclaration, SymbolDeclaration, AxiomDeclaration, Declaration}
use Rattle.kore_text.specs.Trees.{sort_declaration, symbol_declaration, axiom_declaration}
use Rattle.kore_text.specs.Trees.{ModuleTree, DefinitionTree}
use Rattle.rule_core.specs.declared.signature.SortInfo.{SortInfo}
use Rattle.rule_core.specs.declared.signature.SortKind.TheVariants as kind
use Rattle.kore_sig.specs.CountedModules.{counted_declarations}
use Rattle.kore_sig.specs.Declarations.{sort_declared, symbol_declared, axiom_declared, sorts_of}
use Rattle.kore_sig.specs.Declarations.{symbols_of, axioms_of, SubsortPair, pairs_of_axiom}
use Rattle.kore_sig.specs.Declarations.{pairs_of}
use Rattle.kore_sig.specs.SortReferences.{sort_entry, sort_entries}
use Rattle.kore_sig.specs.SymbolKinds.{has_injection_form, injection_of, said_ac, ac_names}
use Rattle.drill_accepted.proofs.Parts.{place_after, place-append}
use Rattle.drill_accepted.proofs.Taking.{token_places}
use Rattle.drill_accepted.proofs.DrillTrees.{Places, int_sort, bool_sort, plain_sort, add_symbol}
use Rattle.drill_accepted.proofs.DrillTrees.{ge_symbol, state_symbol, step_symbol, rule_axiom}
use Rattle.drill_accepted.proofs.DrillLines.{Line, parts_of, fixed_lines, step_line, axiom_line}
use Rattle.drill_accepted.proofs.DrillLines.{step_lines, axiom_lines, drill_lines, step_parts}
use Rattle.drill_accepted.proofs.DrillLines.{rule_parts}
use Rattle.drill_accepted.proofs.SpelledLines.{declared_at, declared_from}

-- the places of the tokens of each line of a kind
abbrev pub Layout : Type 0
Layout = ℕ → Places

abbrev pub steps_of : Layout → ℕ → List SymbolDeclaration
steps_of q zero = []
steps_of q (suc n) = steps_of q n ++ step_symbol n (q n) ∷ []

abbrev pub rules_of : Layout → ℕ → List AxiomDeclaration
rules_of r zero = []
rules_of r (suc n) = rules_of r n ++ rule_axiom n (r n) ∷ []

abbrev pub first_sorts : Layout → List SortDeclaration
first_sorts p = int_sort (p 0) ∷ bool_sort (p 1) ∷ plain_sort (codes "SortC") (p 2) ∷ plain_sort
    (codes "SortS") (p 3) ∷ []

abbrev pub first_symbols : Layout → List SymbolDeclaration
first_symbols p = add_symbol (p 4) ∷ ge_symbol (p 5) ∷ state_symbol (p 6) ∷ []

-- the declarations of so many steps and so many rules
abbrev pub declarations : Layout → Layout → Layout → ℕ → ℕ → List Declaration
declarations p q r m n =
    map sort_declaration (first_sorts p)
    ++ (map symbol_declaration (first_symbols p)
    ++ (map symbol_declaration (steps_of q m) ++ map axiom_declaration (rules_of r n)))

abbrev pub module_with : List Declaration → ModuleTree
module_with ds = record { at = 3; name = codes "DRILL"; declarations = ds; attributes = [] }

abbrev pub tree_with : List Declaration → DefinitionTree
tree_with ds = record { attributes = []; modules = module_with ds ∷ [] }

-- ---- the declarations of lines

declared-append : (ls ms : List Line) (at : ℕ)
    → declared_from at (ls ++ ms) ≡ declared_from at ls ++ declared_from
    (place_after at (parts_of ls)) ms
declared-append [] ms at = refl
declared-append (l ∷ ls) ms at =
    ap (λ (ds : List Declaration). declared_at at l ∷ ds)
    (declared-append ls ms (place_after at l.parts)
    ∙ ap (λ (i : ℕ). declared_from (place_after at l.parts) ls ++ declared_from i ms)
    (sym (place-append l.parts (parts_of ls) at)))

abbrev steps_layout : ℕ → Layout
steps_layout at i = token_places (place_after at (parts_of (step_lines i))) (step_parts i)

abbrev rules_layout : ℕ → Layout
rules_layout at i = token_places (place_after at (parts_of (axiom_lines i))) (rule_parts i)

steps-declared : (n at : ℕ)
    → declared_from at (step_lines n) ≡ map symbol_declaration (steps_of (steps_layout at) n)
steps-declared zero at = refl
steps-declared (suc n) at =
    let q : Layout = steps_layout at in
    let last : List Declaration = symbol_declaration (step_symbol n (q n)) ∷ [] in
    declared-append (step_lines n) (step_line n ∷ []) at
    ∙ ap (λ (ds : List Declaration). ds ++ last) (steps-declared n at)
    ∙ sym (map-append symbol_declaration (steps_of q n) (step_symbol n (q n) ∷ []))

rules-declared : (n at : ℕ)
    → declared_from at (axiom_lines n) ≡ map axiom_declaration (rules_of (rules_layout at) n)
rules-declared zero at = refl
rules-declared (suc n) at =
    let r : Layout = rules_layout at in
    let last : List Declaration = axiom_declaration (rule_axiom n (r n)) ∷ [] in
    declared-append (axiom_lines n) (axiom_line n ∷ []) at
    ∙ ap (λ (ds : List Declaration). ds ++ last) (rules-declared n at)
    ∙ sym (map-append axiom_declaration (rules_of r n) (rule_axiom n (r n) ∷ []))

-- the places of the first lines: of the line with this number
abbrev first_layout : ℕ → List Line → Layout
first_layout at [] k = λ i. 0
first_layout at (l ∷ ls) zero = token_places at l.parts
first_layout at (l ∷ ls) (suc k) = first_layout (place_after at l.parts) ls k

first-declared : (at : ℕ) → declared_from at fixed_lines
    ≡ map sort_declaration (first_sorts (first_layout at fixed_lines))
    ++ map symbol_declaration (first_symbols (first_layout at fixed_lines))
first-declared at = refl

-- the lines of a drill declare so much, at some places
pub record IsLaidOut (at n : ℕ) : Type 0 where
  pub first : Layout
  pub steps : Layout
  pub rules : Layout
  pub same : declared_from at (drill_lines n) ≡ declarations first steps rules (n + 1) n

pub laid-out : (at n : ℕ) → IsLaidOut at n
laid-out at n =
    let i : ℕ = place_after at (parts_of fixed_lines) in
    let j : ℕ = place_after i (parts_of (step_lines (n + 1))) in
    let p : Layout = first_layout at fixed_lines in
    let q : Layout = steps_layout i in
    let r : Layout = rules_layout j in record {
      first = p;
      steps = q;
      rules = r;
      same = declared-append fixed_lines (step_lines (n + 1) ++ axiom_lines n) at
          ∙ ap (λ (ds : List Declaration). declared_from at fixed_lines ++ ds)
          (declared-append (step_lines (n + 1)) (axiom_lines n) i
          ∙ ap (λ (ds : List Declaration). ds ++ declared_from j (axiom_lines n))
          (steps-declared (n + 1) i)
          ∙ ap (λ (ds : List Declaration). map symbol_declaration (steps_of q (n + 1)) ++ ds)
          (rules-declared n j))
          ∙ append_assoc (map sort_declaration (first_sorts p))
          (map symbol_declaration (first_symbols p))
          (map symbol_declaration (steps_of q (n + 1)) ++ map axiom_declaration (rules_of r n));
    }

-- ---- what they declare

counted-are : (ds : List Declaration) → counted_declarations (tree_with ds) ≡ ds
counted-are ds = append-nil ds

no-sorts-symbols : (ds : List SymbolDeclaration) → filter_map sort_declared
    (map symbol_declaration ds) ≡ []
no-sorts-symbols [] = refl
no-sorts-symbols (d ∷ ds) = no-sorts-symbols ds

no-sorts-axioms : (ds : List AxiomDeclaration) → filter_map sort_declared (map axiom_declaration ds)
    ≡ []
no-sorts-axioms [] = refl
no-sorts-axioms (d ∷ ds) = no-sorts-axioms ds

all-symbols : (ds : List SymbolDeclaration) → filter_map symbol_declared (map symbol_declaration ds)
    ≡ ds
all-symbols [] = refl
all-symbols (d ∷ ds) = ap (λ (rest : List SymbolDeclaration). d ∷ rest) (all-symbols ds)

no-symbols-axioms : (ds : List AxiomDeclaration) → filter_map symbol_declared
    (map axiom_declaration ds) ≡ []
no-symbols-axioms [] = refl
no-symbols-axioms (d ∷ ds) = no-symbols-axioms ds

no-axioms-symbols : (ds : List SymbolDeclaration) → filter_map axiom_declared
    (map symbol_declaration ds) ≡ []
no-axioms-symbols [] = refl
no-axioms-symbols (d ∷ ds) = no-axioms-symbols ds

all-axioms : (ds : List AxiomDeclaration) → filter_map axiom_declared (map axiom_declaration ds)
    ≡ ds
all-axioms [] = refl
all-axioms (d ∷ ds) = ap (λ (rest : List AxiomDeclaration). d ∷ rest) (all-axioms ds)

-- what is kept of the steps and the rules, and then of all
kept-rest : {X : Type 0} (f : Declaration → Option X) (ss : List SymbolDeclaration)
    (axioms : List AxiomDeclaration) (xs ys : List X)
    → filter_map f (map symbol_declaration ss) ≡ xs
    → filter_map f (map axiom_declaration axioms) ≡ ys
    → filter_map f (map symbol_declaration ss ++ map axiom_declaration axioms) ≡ xs ++ ys
kept-rest f ss axioms xs ys e g =
    filter_map-append f (map symbol_declaration ss) (map axiom_declaration axioms)
    ∙ ap (λ (zs : List _). zs ++ filter_map f (map axiom_declaration axioms)) e
    ∙ ap (λ (zs : List _). xs ++ zs) g

pub sorts-are : (p q r : Layout) (m n : ℕ) → sorts_of (tree_with (declarations p q r m n))
    ≡ first_sorts p
sorts-are p q r m n =
    ap (filter_map sort_declared) (counted-are (declarations p q r m n))
    ∙ ap (λ (ds : List SortDeclaration). int_sort (p 0) ∷ bool_sort (p 1) ∷ plain_sort
    (codes "SortC") (p 2) ∷ plain_sort (codes "SortS") (p 3) ∷ ds)
    (kept-rest sort_declared (steps_of q m) (rules_of r n) [] [] (no-sorts-symbols (steps_of q m))
    (no-sorts-axioms (rules_of r n)))

pub symbols-are : (p q r : Layout) (m n : ℕ) → symbols_of (tree_with (declarations p q r m n))
    ≡ first_symbols p ++ steps_of q m
symbols-are p q r m n =
    ap (filter_map symbol_declared) (counted-are (declarations p q r m n))
    ∙ ap (λ (ds : List SymbolDeclaration). first_symbols p ++ ds)
    (kept-rest symbol_declared (steps_of q m) (rules_of r n) (steps_of q m) []
    (all-symbols (steps_of q m)) (no-symbols-axioms (rules_of r n))
    ∙ append-nil (steps_of q m))

pub axioms-are : (p q r : Layout) (m n : ℕ) → axioms_of (tree_with (declarations p q r m n))
    ≡ rules_of r n
axioms-are p q r m n =
    ap (filter_map axiom_declared) (counted-are (declarations p q r m n))
    ∙ kept-rest axiom_declared (steps_of q m) (rules_of r n) [] (rules_of r n)
    (no-axioms-symbols (steps_of q m)) (all-axioms (rules_of r n))

-- the table of the sorts
abbrev pub drill_sorts : List (List ℕ × SortInfo)
drill_sorts =
    (codes "SortInt", record { kind = kind.Int }) ∷ (codes "SortBool", record { kind = kind.Bool })
    ∷ (codes "SortC", record { kind = kind.Other }) ∷
    (codes "SortS", record { kind = kind.Other }) ∷ []

pub entries-are : (p q r : Layout) (m n : ℕ) → sort_entries (tree_with (declarations p q r m n))
    ≡ drill_sorts
entries-are p q r m n = ap (map sort_entry) (sorts-are p q r m n)

no-pairs : (r : Layout) (n : ℕ) → flat_map pairs_of_axiom (rules_of r n) ≡ []
no-pairs r zero = refl
no-pairs r (suc n) =
    flat_map-append pairs_of_axiom (rules_of r n) (rule_axiom n (r n) ∷ [])
    ∙ ap (λ (ps : List SubsortPair). ps ++ []) (no-pairs r n)

pub no-pairs-are : (p q r : Layout) (m n : ℕ) → pairs_of (tree_with (declarations p q r m n)) ≡ []
no-pairs-are p q r m n = ap (flat_map pairs_of_axiom) (axioms-are p q r m n) ∙ no-pairs r n

no-injection : (q : Layout) (n : ℕ) → find has_injection_form (steps_of q n) ≡ None
no-injection q zero = refl
no-injection q (suc n) =
    find-append has_injection_form (steps_of q n) (step_symbol n (q n) ∷ [])
    ∙ rw (no-injection q n) refl

pub no-injection-is : (p q r : Layout) (m n : ℕ) → injection_of
    (symbols_of (tree_with (declarations p q r m n))) ≡ None
no-injection-is p q r m n =
    ap injection_of (symbols-are p q r m n) ∙ ap (option_map (λ (d : SymbolDeclaration). d.name))
    (no-injection q m)

no-ac : (r : Layout) (n : ℕ) → filter_map said_ac (rules_of r n) ≡ []
no-ac r zero = refl
no-ac r (suc n) =
    filter_map-append said_ac (rules_of r n) (rule_axiom n (r n) ∷ [])
    ∙ ap (λ (ns : List (List ℕ)). ns ++ []) (no-ac r n)

pub no-ac-are : (p q r : Layout) (m n : ℕ) → ac_names (tree_with (declarations p q r m n)) ≡ []
no-ac-are p q r m n = ap (filter_map said_ac) (axioms-are p q r m n) ∙ no-ac r n
