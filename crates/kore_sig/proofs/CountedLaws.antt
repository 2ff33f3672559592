-- Which modules count, with one more module before the others.
use Rattle.std.proofs.Common.{◌≡◌, ℕ, zero, suc, ◌+◌, ◌-◌, ◌<◌, ◌≤◌, Bool, true, false, cond, List}
use Rattle.std.proofs.Common.{[], ◌∷◌, ◌++◌, map, drop, reverse, get_or, length, refl, ap, sym, ◌∙◌}
use Rattle.std.proofs.Common.{arith}
use Rattle.std.specs.Prelude.{flat_map}
use Rattle.std.proofs.lemmas.List.{reverse-append, append_assoc, map-append}
use Rattle.kore_text.specs.Trees.{Declaration, ModuleTree}
use Rattle.kore_ast.specs.Plain.{plain_module, plain_declaration}
use Rattle.kore_ast.specs.declared.tree.Module.{Module}
use Rattle.kore_sig.specs.CountedModules.{imports_of, counts, counted}
use Rattle.rule_core.specs.Named.{is_among}
use Rattle.kore_sig.specs.declared.counted.Placed.{Placed as PlacedDecl}
use Rattle.kore_sig.specs.Placing.{marks_of, plain_placed}
use Rattle.kore_sig.specs.SignatureFaults.{Placed, placed_at, declarations_placed, names_after}
use Rattle.kore_sig.proofs.ListLaws.{drop_step}

-- the modules from the place before this one on: the module there, and those from this place on
pub behind : (modules : List Module) (i : ℕ) (m : Module) → 0 < i → i ≤ length modules
    → m ≡ get_or modules (i - 1) m
    → map plain_module (drop (i - 1) modules) ≡ plain_module m ∷ map plain_module (drop i modules)
behind modules i m some within is =
    let lt : i - 1 < length modules = omega arith in
    let next : i - 1 + 1 ≡ i = omega arith in
    ap (map plain_module) (drop_step modules (i - 1) m lt is ∙ ap (λ j. m ∷ drop j modules) next)

pub counts_main : (m : ModuleTree) (later : List ModuleTree) (b : Bool) → later ≡ [] → b ≡ true
    → b ≡ counts m later (counted later)
counts_main m [] b e is = is
counts_main m (n ∷ later) b e is = absurd (let no : ⊥ = cc in no)

pub counts_imported : (m : ModuleTree) (later : List ModuleTree) (b : Bool) → 0 < length later
    → b ≡ is_among (flat_map imports_of (counted later)) m.name → b ≡ counts m later (counted later)
counts_imported m [] b some is = absurd (omega arith)
counts_imported m (n ∷ later) b some is = is

pub marks_more : (marks : List Bool) (b : Bool) (m : ModuleTree) (later : List ModuleTree)
    → b ≡ counts m later (counted later) → reverse marks ≡ marks_of later
    → reverse (marks ++ b ∷ []) ≡ marks_of (m ∷ later)
marks_more marks b m later is so_far =
    reverse-append marks (b ∷ []) ∙ ap (λ bs. b ∷ bs) so_far ∙ ap (λ c. c ∷ marks_of later) is

pub counted_with : (m : ModuleTree) (later : List ModuleTree) (b : Bool)
    → b ≡ counts m later (counted later) → b ≡ true → counted (m ∷ later) ≡ m ∷ counted later
counted_with m later b is holds =
    ap (λ c. cond c (m ∷ counted later) (counted later)) (sym is ∙ holds)

pub counted_without : (m : ModuleTree) (later : List ModuleTree) (b : Bool)
    → b ≡ counts m later (counted later) → b ≡ false → counted (m ∷ later) ≡ counted later
counted_without m later b is fails =
    ap (λ c. cond c (m ∷ counted later) (counted later)) (sym is ∙ fails)

-- ---- the declarations

unplaced : (names : List (List ℕ)) (ds : List Declaration)
    → map (λ (p : Placed). p.declaration) (map (placed_at names) ds) ≡ ds
unplaced names [] = refl
unplaced names (d ∷ ds) = ap (λ xs. d ∷ xs) (unplaced names ds)

by_mark : (b : Bool) (names : List (List ℕ)) (m : ModuleTree) (later : List ModuleTree)
    → map (λ (p : Placed). p.declaration) (cond b (map (placed_at names) m.declarations) [])
    ++ flat_map (λ (n : ModuleTree). n.declarations) (counted later)
    ≡ flat_map (λ (n : ModuleTree). n.declarations) (cond b (m ∷ counted later) (counted later))
by_mark true names m later =
    ap (λ ds. ds ++ flat_map (λ (n : ModuleTree). n.declarations) (counted later))
    (unplaced names m.declarations)
by_mark false names m later = refl

-- the declarations of the modules that count, module by module
pub placed_counted : (names : List (List ℕ)) (modules : List ModuleTree)
    → map (λ (p : Placed). p.declaration) (declarations_placed names modules)
    ≡ flat_map (λ (m : ModuleTree). m.declarations) (counted modules)
placed_counted names [] = refl
placed_counted names (m ∷ later) =
    map-append (λ (p : Placed). p.declaration)
    (cond (counts m later (counted later)) (map (placed_at names) m.declarations) [])
    (declarations_placed (names_after names m) later)
    ∙ ap (λ ds. map (λ (p : Placed). p.declaration)
    (cond (counts m later (counted later)) (map (placed_at names) m.declarations) [])
    ++ ds) (placed_counted (names_after names m) later)
    ∙ by_mark (counts m later (counted later)) names m later

pub length_marks : (ms : List ModuleTree) → length (marks_of ms) ≡ length ms
length_marks [] = refl
length_marks (m ∷ ms) = ap suc (length_marks ms)

drop_marks : (i : ℕ) (ms : List ModuleTree) → drop i (marks_of ms) ≡ marks_of (drop i ms)
drop_marks zero ms = refl
drop_marks (suc i) [] = refl
drop_marks (suc i) (m ∷ ms) = drop_marks i ms

-- the mark at a place
pub mark_at : (ms : List ModuleTree) (marks : List Bool) (i : ℕ) (m : ModuleTree)
    (later : List ModuleTree) (b : Bool) → marks ≡ marks_of ms → i < length ms
    → b ≡ get_or marks i b → drop i ms ≡ m ∷ later → b ≡ counts m later (counted later)
mark_at ms marks i m later b is lt at rest =
    let within : i < length marks = omega (arith, ap length is, length_marks ms) in
    let both : b ∷ drop (i + 1) marks ≡ counts m later (counted later) ∷ marks_of later =
    sym (drop_step marks i b within at) ∙ ap (drop i) is ∙ drop_marks i ms ∙ ap marks_of rest in
    cc

-- the declarations with one more module
pub placed_with : (names : List (List ℕ)) (m : ModuleTree) (later : List ModuleTree) (b : Bool)
    (so_far : List Placed) → b ≡ counts m later (counted later) → b ≡ true
    → (so_far ++ map (placed_at names) m.declarations)
    ++ declarations_placed (names_after names m) later
    ≡ so_far ++ declarations_placed names (m ∷ later)
placed_with names m later b so_far is holds =
    append_assoc so_far (map (placed_at names) m.declarations)
    (declarations_placed (names_after names m) later)
    ∙ ap (λ c. so_far
    ++ (cond c (map (placed_at names) m.declarations) []
    ++ declarations_placed (names_after names m) later)) (sym holds ∙ is)

pub placed_without : (names : List (List ℕ)) (m : ModuleTree) (later : List ModuleTree) (b : Bool)
    (so_far : List Placed) → b ≡ counts m later (counted later) → b ≡ false
    → so_far ++ declarations_placed (names_after names m) later ≡ so_far
    ++ declarations_placed names (m ∷ later)
placed_without names m later b so_far is fails =
    ap (λ c. so_far
    ++ (cond c (map (placed_at names) m.declarations) []
    ++ declarations_placed (names_after names m) later)) (sym fails ∙ is)

-- the declarations of placed declarations
pub declarations_of : (names : List (List ℕ)) (ps : List PlacedDecl)
    → map (λ (p : Placed). p.declaration) (map (plain_placed names) ps)
    ≡ map (λ (p : PlacedDecl). plain_declaration p.decl.now) ps
declarations_of names [] = refl
declarations_of names (p ∷ ps) =
    ap (λ ds. plain_declaration p.decl.now ∷ ds) (declarations_of names ps)
