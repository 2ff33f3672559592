-- What is kept of the declarations so far, and of one more.
use Rattle.std.proofs.Common.{◌≡◌, ℕ, Bool, true, false, not, cond, List, [], ◌∷◌, ◌++◌, refl, ap}
use Rattle.std.proofs.Common.{sym, ◌∙◌, subst}
use Rattle.std.specs.Prelude.{Some, None, is_none, option_copied, if◌then◌else◌, flat_map, nat_lt}
use Rattle.std.specs.Prelude.{length, ◌==◌}
use Rattle.std.specs.List.{AllZip}
use Rattle.std.proofs.lemmas.List.{map-append, append-nil}
use Rattle.rule_core.specs.Named.{number_of_name, is_among}
use Rattle.rule_core.specs.DistinctNames.{names_of}
use Rattle.rule_core.specs.declared.signature.SymInfo.{SymInfo}
use Rattle.kore_text.specs.Trees.{SortDeclaration, SymbolDeclaration, Declaration, sort_declaration}
use Rattle.kore_text.specs.Trees.{symbol_declaration}
use Rattle.kore_sig.specs.FirstFault.{Fault, when, unless}
use Rattle.kore_sig.specs.Noted.{leads_by_number, noted, first_by_number}
use Rattle.kore_sig.specs.Declaring.{before_of, Grows}
use Rattle.kore_sig.specs.Knowing.{entries_in, symbols_in}
use Rattle.rule_core.specs.declared.signature.SortInfo.{SortInfo}
use Rattle.std.proofs.lemmas.Grind.{flat_map-append}
use Rattle.kore_ast.specs.Plain.{plain_declaration}
use Rattle.kore_ast.specs.declared.tree.Decl.{Decl}
use Rattle.kore_ast.specs.declared.tree.Decl.TheVariants as decl
use Rattle.kore_ast.specs.declared.tree.SortDecl.{SortDecl}
use Rattle.kore_ast.specs.declared.tree.SymbolDecl.{SymbolDecl}
use Rattle.kore_sig.specs.SignatureFaults.{declared_after, reference_faults}
use Rattle.kore_sig.specs.SignatureFaults.{symbol_declaration_faults, sort_declaration_faults}
use Rattle.kore_sig.specs.SignatureFaults.{most_arguments}
use Rattle.kore_sig.specs.Signatures.{IsSymbolEntry}
use Rattle.kore_sig.specs.declared.declared_facts.DeclaredFacts.{DeclaredFacts}
use Rattle.kore_sig.proofs.KnowingLaws.{entries_push, symbols_push}
use Rattle.kore_sig.proofs.SetLaws.{number_among, names_push}

-- ---- no fault

still_some : (leads : Fault → Fault → Bool) (b : Bool) (f g : Fault) (fs : List Fault)
    → noted leads (cond b (Some f) (Some g)) fs ≡ None
    → ((h : Fault) → noted leads (Some h) fs ≡ None → ⊥) → ⊥
still_some leads true f g fs e never = never f e
still_some leads false f g fs e never = never g e

never_none : (leads : Fault → Fault → Bool) (fs : List Fault) (f : Fault)
    → noted leads (Some f) fs ≡ None → ⊥
never_none leads [] f e = cc
never_none leads (g ∷ fs) f e = still_some leads (leads f g) f g fs e (λ h. never_none leads fs h)

-- a set without a first fault is empty
pub empty_from_none : (leads : Fault → Fault → Bool) (fs : List Fault) → noted leads None fs ≡ None
    → fs ≡ []
empty_from_none leads [] e = refl
empty_from_none leads (f ∷ fs) e = absurd (never_none leads fs f e)

pub both_empty : {X : Type 0} (xs ys : List X) → xs ++ ys ≡ [] → (xs ≡ []) × (ys ≡ [])
both_empty [] ys e = (refl, e)
both_empty (x ∷ xs) ys e = absurd (let never : ⊥ = cc in never)

pub when_empty : (b : Bool) (number at : ℕ) → when b number at ≡ [] → b ≡ false
when_empty true number at e = absurd (let never : ⊥ = cc in never)
when_empty false number at e = refl

-- ---- one more

pub allzip_push : {X Y : Type 0} (R : X → Y → Type 0) (xs : List X) (ys : List Y) (x : X) (y : Y)
    → AllZip R xs ys → R x y → AllZip R (xs ++ x ∷ []) (ys ++ y ∷ [])
allzip_push R [] [] x y h r = (r, tt)
allzip_push R [] (z ∷ ys) x y h r = absurd h
allzip_push R (w ∷ xs) [] x y h r = absurd h
allzip_push R (w ∷ xs) (z ∷ ys) x y h r = (h.0, allzip_push R xs ys x y h.1 r)

fresh_true : {V : Type 0} (es : List (List ℕ × V)) (name : List ℕ)
    → is_among (names_of es) name ≡ false → is_none (number_of_name es name) ≡ true
fresh_true es name e = ap not (number_among es name ∙ e)

-- a new name is added
pub added : {V : Type 0} (old new : List (List ℕ × V)) (name : List ℕ) (v : V) (b : Bool)
    → is_among (names_of old) name ≡ false → b ≡ is_none (number_of_name old name)
    → new ≡ (if b then old ++ (name, v) ∷ [] else old) → new ≡ old ++ (name, v) ∷ []
added old new name v b free fresh is =
    is ∙ ap (λ c. cond c (old ++ (name, v) ∷ []) old) (fresh ∙ fresh_true old name free)

pub grows_sort : (known : DeclaredFacts) (seen seen_behind : List (List ℕ × Unit {0}))
    (symbols : List (List ℕ × SymInfo)) (d : SortDeclaration)
    → seen_behind ≡ seen ++ (d.name, tt) ∷ []
    → Grows known seen symbols seen_behind symbols (sort_declaration d)
grows_sort known seen seen_behind symbols d is =
    let named : names_of seen_behind ≡ names_of seen ++ d.name ∷ [] =
    ap names_of is ∙ names_push seen d.name tt in
    record {
      names = ap (λ ns. record { sorts = ns; symbols = names_of symbols }) named;
      declared =
          λ ds h. subst (λ (xs : List SymbolDeclaration). AllZip
          (IsSymbolEntry known.sorts (option_copied known.injection) (names_of known.ac)) xs
          symbols) (sym (symbols_push ds (sort_declaration d) ∙ append-nil (symbols_in ds)))
          h;
      sorts =
          λ ds e. named ∙ ap (λ ns. ns ++ d.name ∷ []) e
          ∙
          sym (ap names_of (entries_push ds (sort_declaration
          d)) ∙ map-append (λ e. e.0) (entries_in ds) (entries_in (sort_declaration d ∷ [])));
    }

pub grows_symbol : (known : DeclaredFacts) (seen : List (List ℕ × Unit {0}))
    (symbols symbols_behind : List (List ℕ × SymInfo)) (d : SymbolDeclaration) (info : SymInfo)
    → symbols_behind ≡ symbols ++ (d.name, info) ∷ []
    → IsSymbolEntry known.sorts (option_copied known.injection) (names_of known.ac) d (d.name, info)
    → Grows known seen symbols seen symbols_behind (symbol_declaration d)
grows_symbol known seen symbols symbols_behind d info is entry = record {
  names =
      ap (λ ns. record { sorts = names_of seen; symbols = ns })
      (ap names_of is ∙ names_push symbols d.name info);
  declared = λ ds h.
      let R = IsSymbolEntry known.sorts (option_copied known.injection) (names_of known.ac) in
      subst (λ (ys : List (List ℕ × SymInfo)).
      AllZip R (symbols_in (ds ++ symbol_declaration d ∷ [])) ys) (sym is)
      (subst (λ (xs : List SymbolDeclaration). AllZip R xs (symbols ++ (d.name, info) ∷ []))
      (sym (symbols_push ds (symbol_declaration d)))
      (allzip_push R (symbols_in ds) symbols d (d.name, info) h entry));
  sorts =
      λ ds e. e
      ∙ ap names_of (sym (entries_push ds (symbol_declaration d) ∙ append-nil (entries_in ds)));
}

-- a declaration that is neither a sort nor a symbol
pub grows_not : (known : DeclaredFacts) (seen : List (List ℕ × Unit {0}))
    (symbols : List (List ℕ × SymInfo)) (d : Declaration)
    → declared_after (before_of seen symbols) d ≡ before_of seen symbols → symbols_in (d ∷ []) ≡ []
    → entries_in (d ∷ []) ≡ [] → Grows known seen symbols seen symbols d
grows_not known seen symbols d behind none_declared none_sort = record {
  names = sym behind;
  declared =
      λ ds h. subst (λ (xs : List SymbolDeclaration). AllZip
      (IsSymbolEntry known.sorts (option_copied known.injection) (names_of known.ac)) xs
      symbols) (sym (symbols_push ds d ∙ ap (λ xs.
      symbols_in ds ++ xs) none_declared ∙ append-nil (symbols_in ds))) h;
  sorts =
      λ ds e. e
      ∙ ap names_of (sym (entries_push ds d ∙ ap (λ xs.
      entries_in ds ++ xs) none_sort ∙ append-nil (entries_in ds)));
}

pub grows_other : (known : DeclaredFacts) (seen : List (List ℕ × Unit {0}))
    (symbols : List (List ℕ × SymInfo)) (d : Decl) → ((x : SortDecl) → d ≡ decl.SortDecl x → ⊥)
    → ((x : SymbolDecl) → d ≡ decl.SymbolDecl x → ⊥)
    → Grows known seen symbols seen symbols (plain_declaration d)
grows_other known seen symbols (decl.Import x) no_sort no_symbol =
    grows_not known seen symbols _ refl refl refl
grows_other known seen symbols (decl.SortDecl x) no_sort no_symbol = absurd (no_sort x refl)
grows_other known seen symbols (decl.SymbolDecl x) no_sort no_symbol = absurd (no_symbol x refl)
grows_other known seen symbols (decl.Alias x) no_sort no_symbol =
    grows_not known seen symbols _ refl refl refl
grows_other known seen symbols (decl.Axiom x) no_sort no_symbol =
    grows_not known seen symbols _ refl refl refl
grows_other known seen symbols (decl.Claim x) no_sort no_symbol =
    grows_not known seen symbols _ refl refl refl

-- ---- a symbol without a fault

pub record IsClearSymbol (sorts : List (List ℕ × SortInfo)) (names : List (List ℕ))
    (d : SymbolDeclaration) : Type 0 where
  pub free : is_among names d.name ≡ false
  pub args : flat_map (reference_faults sorts d.params) d.args ≡ []
  pub result : reference_faults sorts d.params d.result ≡ []

pub clear_symbol : (sorts : List (List ℕ × SortInfo)) (names : List (List ℕ))
    (d : SymbolDeclaration) → first_by_number (symbol_declaration_faults sorts names d) ≡ None
    → IsClearSymbol sorts names d
clear_symbol sorts names d none =
    let F = reference_faults sorts d.params in
    let all = empty_from_none leads_by_number (symbol_declaration_faults sorts names d) none in
    let front =
    (both_empty (when (is_among names d.name) 5 d.at ++ flat_map F (d.args ++ d.result ∷ []))
    (when (nat_lt most_arguments (length d.args)) 8 d.at) all).0 in
    let two =
    both_empty (when (is_among names d.name) 5 d.at) (flat_map F (d.args ++ d.result ∷ []))
    front in
    let parts =
    both_empty (flat_map F d.args) (F d.result ++ [])
    (sym (flat_map-append F d.args (d.result ∷ [])) ∙ two.1) in
    record {
      free = when_empty (is_among names d.name) 5 d.at two.0;
      args = parts.0;
      result = sym (append-nil (F d.result)) ∙ parts.1;
    }

pub clear_sort : (names : List (List ℕ)) (d : SortDeclaration)
    → first_by_number (sort_declaration_faults names d) ≡ None → is_among names d.name ≡ false
clear_sort names d none =
    when_empty (is_among names d.name) 5 d.at (both_empty (when (is_among names d.name) 5 d.at)
    (unless (length d.params == 0) 10 d.at)
    (empty_from_none leads_by_number (sort_declaration_faults names d) none)).0
