-- The declarations of a drill have no fault.
use Rattle.std.proofs.Common.{◌≡◌, ◌<◌, ◌≤◌, ◌^◌, ℕ, zero, suc, Bool, true, false, List, [], ◌∷◌}
use Rattle.std.proofs.Common.{◌++◌, map, Option, None, refl, ap, sym, ◌∙◌, subst, arith}
use Rattle.std.proofs.Common.{append_assoc, codes}
use Rattle.std.specs.Prelude.{Contains}
use Rattle.std.specs.Fmt.{decimal}
use Rattle.std.specs.Str.{bytes_eq}
use Rattle.std.proofs.lemmas.Fmt.{decimal_injective}
use Rattle.std.proofs.lemmas.List.{append-nil, map-append}
use Rattle.std.proofs.lemmas.List.Folds.{list_any-append}
use Rattle.std.proofs.lemmas.Slice.Eq.{bytes_eq-Decides}
use Rattle.kore_text.specs.Trees.{AxiomDeclaration, Declaration, sort_declaration}
use Rattle.kore_text.specs.Trees.{symbol_declaration, axiom_declaration, DefinitionTree}
use Rattle.rule_core.specs.declared.signature.SortInfo.{SortInfo}
use Rattle.kore_sig.specs.Declarations.{SubsortPair, pairs_of}
use Rattle.kore_sig.specs.FirstFault.{Fault, ByNumber, IsFirstBy, IsFirstOfSequence}
use Rattle.rule_core.specs.Named.{is_among}
use Rattle.kore_sig.specs.SignatureFaults.{Placed, placed_at, declarations_placed, DeclaredBefore}
use Rattle.kore_sig.specs.SignatureFaults.{nothing_declared, declared_after, declaration_faults}
use Rattle.kore_sig.specs.SignatureFaults.{FirstOfModules, FirstOfDeclarations, FirstOfPairs}
use Rattle.kore_sig.specs.SignatureFaults.{FirstOfSignature}
use Rattle.kore_sig.specs.SortReferences.{sort_entries}
use Rattle.kore_sig.proofs.FirstLaws.{contains_none}
use Rattle.drill_accepted.proofs.Parts.{numbered_name}
use Rattle.drill_accepted.proofs.DrillTrees.{step_symbol}
use Rattle.drill_accepted.proofs.DrillDeclared.{Layout, steps_of, rules_of, first_sorts}
use Rattle.drill_accepted.proofs.DrillDeclared.{first_symbols, declarations, module_with, tree_with}
use Rattle.drill_accepted.proofs.DrillDeclared.{drill_sorts, entries-are, no-pairs-are}

-- ---- faults in order

-- the state after things
abbrev pub state_after : {S A : Type 0} → (S → A → S) → S → List A → S
state_after next s [] = s
state_after next s (x ∷ xs) = state_after next (next s x) xs

pub after-both : {S A : Type 0} (next : S → A → S) (s : S) (xs ys : List A)
    → state_after next s (xs ++ ys) ≡ state_after next (state_after next s xs) ys
after-both next s [] ys = refl
after-both next s (x ∷ xs) ys = after-both next (next s x) xs ys

-- things have no fault if the first ones have none, and the others, after these, have none
pub none-in-both : {S A : Type 0} (R : S → A → Option Fault → Type 0) (next : S → A → S) (s : S)
    (xs ys : List A)
    → IsFirstOfSequence R next s xs None → IsFirstOfSequence R next (state_after next s xs) ys None
    → IsFirstOfSequence R next s (xs ++ ys) None
none-in-both R next s [] ys first later = later
none-in-both R next s (x ∷ xs) ys first later =
    (first.0, none-in-both R next (next s x) xs ys first.1 later)

pub none-of : {f : Fault} (fs : List Fault) → fs ≡ [] → Contains fs f → ⊥
none-of {f} fs e h = contains_none f (subst (λ (gs : List Fault). Contains gs f) e h)

-- ---- names of steps

abbrev names_below : ℕ → List (List ℕ)
names_below zero = []
names_below (suc n) = names_below n ++ numbered_name n ∷ []

differ : (b : Bool) (i j : ℕ) → i < j → j < 2 ^ 64 → bytes_eq (numbered_name j) (numbered_name i)
    ≡ b → b ≡ false
differ false i j less small e = refl
differ true i j less small e =
    let same : numbered_name j ≡ numbered_name i =
    (bytes_eq-Decides (numbered_name j) (numbered_name i)).0 e in
    let digits : decimal j ≡ decimal i = cc in
    let equal : j ≡ i = decimal_injective j i small (omega (arith, less, small)) digits in
    absurd (omega (arith, less, equal))

fresh-below : (n j : ℕ) → n ≤ j → j < 2 ^ 64 → is_among (names_below n) (numbered_name j) ≡ false
fresh-below zero j le small = refl
fresh-below (suc n) j le small =
    list_any-append (bytes_eq (numbered_name j)) (names_below n) (numbered_name n ∷ [])
    ∙ rw (
      fresh-below n j (omega (arith, le)) small,
      differ
          (bytes_eq (numbered_name j) (numbered_name n)) n j (omega (arith, le)) small refl,
    ) refl

abbrev first_names : List (List ℕ)
first_names = codes "add" ∷ codes "ge" ∷ codes "st" ∷ []

fresh : (n : ℕ) → n < 2 ^ 64 → is_among (first_names ++ names_below n) (numbered_name n) ≡ false
fresh n small =
    list_any-append (bytes_eq (numbered_name n)) first_names (names_below n)
    ∙ fresh-below n n (omega arith) small

-- ---- the declarations

abbrev Clears : DeclaredBefore → Placed → Option Fault → Type 0
Clears b p = IsFirstBy ByNumber
    (Contains (declaration_faults drill_sorts b p.earlier p.declaration))

abbrev then_declared : DeclaredBefore → Placed → DeclaredBefore
then_declared b p = declared_after b p.declaration

abbrev NoneFrom : DeclaredBefore → List Declaration → Type 0
NoneFrom b ds = IsFirstOfSequence Clears then_declared b (map (placed_at []) ds) None

abbrev after_all : DeclaredBefore → List Declaration → DeclaredBefore
after_all b ds = state_after then_declared b (map (placed_at []) ds)

both-clear : (b c : DeclaredBefore) (ds es : List Declaration) → NoneFrom b ds → after_all b ds ≡ c
    → NoneFrom c es → NoneFrom b (ds ++ es)
both-clear b c ds es first e later =
    subst (λ (ps : List Placed). IsFirstOfSequence Clears then_declared b ps None)
    (sym (map-append (placed_at []) ds es))
    (none-in-both Clears then_declared b (map (placed_at []) ds) (map (placed_at []) es) first
    (subst (λ (x : DeclaredBefore). NoneFrom x es) (sym e) later))

abbrev sort_names : List (List ℕ)
sort_names = codes "SortInt" ∷ codes "SortBool" ∷ codes "SortC" ∷ codes "SortS" ∷ []

-- what is declared after the first declarations and so many steps
abbrev before_step : ℕ → DeclaredBefore
before_step n = record { sorts = sort_names; symbols = first_names ++ names_below n }

one-step : (q : Layout) (n : ℕ) → n < 2 ^ 64 → NoneFrom (before_step n)
    (symbol_declaration (step_symbol n (q n)) ∷ [])
one-step q n small = (
  λ f. none-of (declaration_faults drill_sorts (before_step n) []
      (symbol_declaration (step_symbol n (q n))))
      (rw (fresh n small) refl),
  refl,
)

step-after : (n : ℕ) (q : Layout) → after_all (before_step n)
    (symbol_declaration (step_symbol n (q n)) ∷ []) ≡ before_step (suc n)
step-after n q =
    ap (λ (names : List (List ℕ)). record { sorts = sort_names; symbols = names })
    (append_assoc first_names (names_below n) (numbered_name n ∷ []))

record AreClear (b c : DeclaredBefore) (ds : List Declaration) : Type 0 where
  pub none : NoneFrom b ds
  pub after : after_all b ds ≡ c

clear-both : (b c e : DeclaredBefore) (ds es : List Declaration) → AreClear b c ds → AreClear c e es
    → AreClear b e (ds ++ es)
clear-both b c e ds es first later = record {
  none = both-clear b c ds es first.none first.after later.none;
  after = ap (state_after then_declared b) (map-append (placed_at []) ds es)
      ∙ after-both then_declared b (map (placed_at []) ds) (map (placed_at []) es)
      ∙ ap (λ (x : DeclaredBefore). after_all x es) first.after ∙ later.after;
}

steps-clear : (q : Layout) (n : ℕ) → n < 2 ^ 64 → AreClear (before_step 0) (before_step n)
    (map symbol_declaration (steps_of q n))
steps-clear q zero few = record { none = refl; after = refl }
steps-clear q (suc n) few =
    let small : n < 2 ^ 64 = omega (arith, few) in
    let last : AreClear (before_step n) (before_step (suc n))
    (symbol_declaration (step_symbol n (q n)) ∷ []) =
    record { none = one-step q n small; after = step-after n q } in
    subst (AreClear (before_step 0) (before_step (suc n)))
    (sym (map-append symbol_declaration (steps_of q n) (step_symbol n (q n) ∷ [])))
    (clear-both (before_step 0) (before_step n) (before_step (suc n))
    (map symbol_declaration (steps_of q n))
    (symbol_declaration (step_symbol n (q n)) ∷ []) (steps-clear q n small) last)

axioms-clear : (b : DeclaredBefore) (axioms : List AxiomDeclaration)
    → NoneFrom b (map axiom_declaration axioms)
axioms-clear b [] = refl
axioms-clear b (a ∷ axioms) = (λ f. contains_none f, axioms-clear b axioms)

sorts-clear : (p : Layout) → AreClear nothing_declared (record { sorts = sort_names; symbols = [] })
    (map sort_declaration (first_sorts p))
sorts-clear p = record {
  none = (
    λ f. contains_none f,
    (
      λ f. contains_none f,
      (λ f. contains_none f, (λ f. contains_none f, refl)),
    ),
  );
  after = refl;
}

symbols-clear : (p : Layout) → AreClear (record { sorts = sort_names; symbols = [] })
    (before_step 0) (map symbol_declaration (first_symbols p))
symbols-clear p = record {
  none = (λ f. contains_none f, (λ f. contains_none f, (λ f. contains_none f, refl)));
  after = refl;
}

all-clear : (p q r : Layout) (m n : ℕ) → m < 2 ^ 64
    → NoneFrom nothing_declared (declarations p q r m n)
all-clear p q r m n few =
    let rest : List Declaration = map symbol_declaration (steps_of q m) ++ map axiom_declaration
    (rules_of r n) in
    let steps = steps-clear q m few in
    both-clear nothing_declared (record { sorts = sort_names; symbols = [] })
    (map sort_declaration (first_sorts p))
    (map symbol_declaration (first_symbols p) ++ rest) (sorts-clear p).none (sorts-clear p).after
    (both-clear (record { sorts = sort_names; symbols = [] }) (before_step 0)
    (map symbol_declaration (first_symbols p)) rest
    (symbols-clear p).none (symbols-clear p).after
    (both-clear (before_step 0) (before_step m) (map symbol_declaration (steps_of q m))
    (map axiom_declaration (rules_of r n))
    steps.none steps.after (axioms-clear (before_step m) (rules_of r n))))

-- ---- the whole

modules-clear : (ds : List Declaration) → FirstOfModules (module_with ds ∷ []) None
modules-clear ds = (λ f. contains_none f, refl)

declarations-clear : (ds : List Declaration) → NoneFrom nothing_declared ds
    → FirstOfDeclarations drill_sorts (declarations_placed [] (module_with ds ∷ [])) None
declarations-clear ds none =
    subst (λ (ps : List Placed). FirstOfDeclarations drill_sorts ps None)
    (sym (append-nil (map (placed_at []) ds))) none

pub no-declaration-fault : (p q r : Layout) (m n : ℕ) → m < 2 ^ 64
    → FirstOfSignature (tree_with (declarations p q r m n)) None
no-declaration-fault p q r m n few =
    let ds : List Declaration = declarations p q r m n in
    let d : DefinitionTree = tree_with ds in
    let sorts : sort_entries d ≡ drill_sorts = entries-are p q r m n in
    let declared : FirstOfDeclarations (sort_entries d) (declarations_placed [] (module_with ds
    ∷ [])) None =
    subst (λ (es : List (List ℕ × SortInfo)). FirstOfDeclarations es
    (declarations_placed [] (module_with ds ∷ [])) None) (sym sorts)
    (declarations-clear ds (all-clear p q r m n few)) in
    let paired : FirstOfPairs (sort_entries d) (pairs_of d) None =
    subst (λ (ps : List SubsortPair). FirstOfPairs (sort_entries d) ps None)
    (sym (no-pairs-are p q r m n)) refl in
    (modules-clear ds, (declared, paired))
