-- The program of a definition without faults is well-sorted.
use Rattle.std.proofs.Common.{◌≡◌, ℕ, zero, suc, List, [], ◌∷◌, length, map, slice_get, Option}
use Rattle.std.proofs.Common.{Some, None, ◌⊎◌, inl, inr, refl, ap, sym, ◌∙◌, subst, arith}
use Rattle.std.specs.Prelude.{All, Contains, slice_index_or}
use Rattle.std.proofs.lemmas.List.Elements.{All-weaker, All-contains_itself}
use Rattle.kore_text.specs.Trees.{AxiomDeclaration, DefinitionTree}
use Rattle.term_core.specs.declared.ids.HookNo.{HookNo}
use Rattle.term_core.specs.HookValues.{Kind, argument_kinds, result_kind}
use Rattle.rule_core.specs.DistinctNames.{names_of, AreDistinct}
use Rattle.rule_core.specs.Rules.{RewriteRule, Equation, AreInOrder}
use Rattle.rule_core.specs.Sorting.{IsSymbol, IsFunction}
use Rattle.rule_core.specs.Subsorts.{IsBelow}
use Rattle.rule_core.specs.Theories.{RewriteTheory, equations_of}
use Rattle.rule_core.specs.WellSorted.{IsSignature, IsWellSorted, IsReference}
use Rattle.rule_core.specs.WellSorted.{IsRuleOf as IsSortedRule, IsEquationOf as IsSortedEquation}
use Rattle.rule_core.specs.HookSorts.{IsSortOf, RefersTo, ReferTo, FitsHook}
use Rattle.rule_core.specs.declared.signature.Signature.{Signature}
use Rattle.rule_core.specs.declared.signature.SortInfo.{SortInfo}
use Rattle.rule_core.specs.declared.signature.SortRef.{SortRef}
use Rattle.rule_core.specs.declared.signature.SymInfo.{SymInfo}
use Rattle.rule_core.specs.declared.signature.SymKind.{SymKind}
use Rattle.rule_core.specs.declared.signature.SymKind.TheVariants.{Ctor, Equations, Hooked}
use Rattle.kore_sig.specs.Declarations.{axioms_of}
use Rattle.kore_sig.specs.SignatureFaults.{FirstOfSignature}
use Rattle.kore_sig.specs.Signatures.{IsSignatureOf}
use Rattle.kore_sig.specs.SortReferences.{sort_number}
use Rattle.kore_check.specs.PatternSorts.{symbol_named}
use Rattle.kore_shapes.specs.Shapes.{Rewriting}
use Rattle.kore_axioms.specs.AxiomClasses.{rewrites, axiom_class}
use Rattle.kore_rules.specs.FirstRefusal.{FirstOfAxioms}
use Rattle.kore_rules.specs.Programs.{HasKind, as_declared, hooked_kind, without_hook}
use Rattle.kore_rules.specs.Programs.{by_unreadable, equations_kind, IsSymbolOf, IsProgramUnder}
use Rattle.kore_rules.specs.Programs.{IsTopOf}
use Rattle.kore_rules.specs.RefusedTexts.{IsSortOfRules}
use Rattle.kore_rules.proofs.AmongLaws.{among_parts}
use Rattle.kore_rules.proofs.DeclaredKinds.{functions_plain, never_hooked, named_by_number}
use Rattle.kore_rules.proofs.EquationSorts.{sorted_equation}
use Rattle.kore_rules.proofs.KeptSorts.{IsKept, kept, kind_kept, declared_symbol, signature_kept}
use Rattle.kore_rules.proofs.RuleFirsts.{contains_here, rule_clear, one_sort_of_rules}
use Rattle.kore_rules.proofs.RuleFirsts.{sort_declared, class_same}
use Rattle.kore_rules.proofs.RuleSorts.{sorted_rule}
use Rattle.kore_rules.proofs.SignatureFacts.{distinct_symbols, faultless_signature}

-- A definition with this signature, whose axioms have no fault, means this program.
pub record IsFaultlessProgram (d : DefinitionTree) (declared : Signature) (theory : RewriteTheory) :
    Type 0 where
  pub signature : IsSignatureOf d declared
  pub sorted : IsSignature declared
  pub distinct : AreDistinct (names_of declared.symbols)
  pub no_fault : FirstOfAxioms declared (axioms_of d) None
  pub program : IsProgramUnder declared (axioms_of d) theory

-- the program is such a one if the declarations have no fault
pub faultless_program : (d : DefinitionTree) (declared : Signature) (theory : RewriteTheory)
    → FirstOfSignature d None → IsSignatureOf d declared → FirstOfAxioms declared (axioms_of d) None
    → IsProgramUnder declared (axioms_of d) theory → IsFaultlessProgram d declared theory
faultless_program d declared theory none is axioms program = record {
  signature = is;
  sorted = faultless_signature d declared none is;
  distinct = distinct_symbols d declared none is;
  no_fault = axioms;
  program = program;
}

-- ---- kinds

equations_declared : (sig : Signature) (axioms : List AxiomDeclaration) (f : List ℕ) (own : SymInfo)
    (k : SymKind) → HasKind sig axioms f own k → k ≡ Equations → own.kind ≡ Equations
equations_declared sig axioms f own _ (as_declared other) e = e
equations_declared sig axioms f own _ (hooked_kind is hook fits) e =
    absurd (let never : ⊥ = cc in never)
equations_declared sig axioms f own _ (without_hook is hook none) e =
    absurd (let never : ⊥ = cc in never)
equations_declared sig axioms f own _ (by_unreadable is none there bad) e =
    absurd (let never : ⊥ = cc in never)
equations_declared sig axioms f own _ (equations_kind is none all) e = is

same_row : (n row : ℕ) → Hooked (record { 0 = n }) ≡ Hooked (record { 0 = row }) → n ≡ row
same_row n row e =
    let both : ◌≡◌ {A = HookNo} (record { 0 = n }) (record { 0 = row }) = cc in
    ap (λ (h : HookNo). h.0) both

hook_fits : (sig : Signature) (axioms : List AxiomDeclaration) (f : List ℕ) (own : SymInfo)
    (k : SymKind) (row : ℕ) → HasKind sig axioms f own k → k ≡ Hooked (record { 0 = row })
    → (own.kind ≡ k → ⊥) → FitsHook sig row own
hook_fits sig axioms f own _ row (as_declared other) e never = absurd (never refl)
hook_fits sig axioms f own _ row (hooked_kind {row = n} is hook fits) e never =
    subst (λ (i : ℕ). FitsHook sig i own) (same_row n row e) fits.3
hook_fits sig axioms f own _ row (without_hook is hook none) e never =
    absurd (let no : ⊥ = cc in no)
hook_fits sig axioms f own _ row (by_unreadable is none there bad) e never =
    absurd (let no : ⊥ = cc in no)
hook_fits sig axioms f own _ row (equations_kind is none all) e never =
    absurd (let no : ⊥ = cc in no)

not_ctor : (k : SymKind) → k ≡ Ctor → IsFunction k → ⊥
not_ctor k e fun = subst IsFunction e fun

sort_kept_of : (declared final : Signature) (axioms : List AxiomDeclaration) (k : Kind) (s : ℕ)
    → IsKept declared final axioms → IsSortOf declared k s → IsSortOf final k s
sort_kept_of declared final axioms k s same is = record {
  name = is.name;
  info = is.info;
  there = ap (λ (es : List (List ℕ × SortInfo)). slice_get es s) same.sorts ∙ is.there;
  of_kind = is.of_kind;
  no_constructor = λ f made symbol ctor result.
      let found = declared_symbol declared final axioms f made same symbol in
      let of = found.3.2 in
      let own_kind : found.1.kind ≡ Ctor =
      kind_kept declared axioms _ found.1 made.kind of.kind (not_ctor made.kind ctor) ∙ ctor in
      is.no_constructor f found.1 (found.0, found.2) own_kind (sym of.result ∙ result);
  lowest =
      λ a below. is.lowest a (subst (λ (ps : List (ℕ × ℕ)). IsBelow ps a s) same.subsorts below);
}

refers_kept : (declared final : Signature) (axioms : List AxiomDeclaration) (k : Kind)
    (of : SortRef) → IsKept declared final axioms → RefersTo declared k of → RefersTo final k of
refers_kept declared final axioms k of same (s, is, sort) =
    (s, is, sort_kept_of declared final axioms k s same sort)

all_refer_kept : (declared final : Signature) (axioms : List AxiomDeclaration) (ks : List Kind)
    (refs : List SortRef) → IsKept declared final axioms → ReferTo declared ks refs
    → ReferTo final ks refs
all_refer_kept declared final axioms [] [] same h = tt
all_refer_kept declared final axioms [] (of ∷ refs) same h = h
all_refer_kept declared final axioms (k ∷ ks) [] same h = h
all_refer_kept declared final axioms (k ∷ ks) (of ∷ refs) same h = (
  refers_kept declared final axioms k of same h.0,
  all_refer_kept declared final axioms ks refs same h.1,
)

fits_kept : (declared final : Signature) (axioms : List AxiomDeclaration) (row : ℕ)
    (own info : SymInfo) (name made : List ℕ) → IsKept declared final axioms
    → IsSymbolOf declared axioms (name, own) (made, info) → FitsHook declared row own
    → FitsHook final row info
fits_kept declared final axioms row own info name made same of is = record {
  hook = is.hook;
  there = is.there;
  plain = of.params ∙ is.plain;
  arguments =
      subst (ReferTo final (argument_kinds is.hook.operation)) (sym of.args)
      (all_refer_kept declared final axioms (argument_kinds is.hook.operation) own.args.items
      same is.arguments);
  result =
      subst (RefersTo final (result_kind is.hook.operation)) (sym of.result)
      (refers_kept declared final axioms (result_kind is.hook.operation) own.result same
      is.result);
}

-- ---- rules

-- the rules of such a program have the sort of any of its rules
rules_sorted : (d : DefinitionTree) (declared : Signature) (theory : RewriteTheory) (s : ℕ)
    (a : AxiomDeclaration) (w : Rewriting) → IsFaultlessProgram d declared theory
    → Contains (axioms_of d) a → axiom_class declared a ≡ rewrites w
    → sort_number declared.sorts w.sort ≡ Some s → All (IsSortedRule theory.sig s) theory.rules
rules_sorted d declared theory s a w p there class number =
    let axioms = axioms_of d in
    let common = one_sort_of_rules declared axioms p.no_fault in
    let is_kept = kept declared axioms theory p.program in
    All-weaker (Contains theory.rules) (IsSortedRule theory.sig s)
    (λ rule known.
    let of = (p.program.rules.just rule).0 known in
    let clear = rule_clear declared None axioms of.0 of.2.shape p.no_fault of.1 of.2.class in
    sorted_rule declared theory.sig axioms of.0 rule clear.0 s is_kept p.sorted of.2 clear.1
    (common.1 of.0 of.1 of.2.shape of.2.class ∙ sym (common.1 a there w class) ∙ number))
    theory.rules (All-contains_itself theory.rules)

rules_of_one_sort : (d : DefinitionTree) (declared : Signature) (theory : RewriteTheory)
    (rules : List RewriteRule) → IsFaultlessProgram d declared theory → theory.rules ≡ rules
    → (theory.rules ≡ []) ⊎ ((s : ℕ) × All (IsSortedRule theory.sig s) theory.rules)
rules_of_one_sort d declared theory [] p e = inl e
rules_of_one_sort d declared theory (rule ∷ rules) p e =
    let axioms = axioms_of d in
    let of =
    (p.program.rules.just rule).0 (subst (λ (rs : List RewriteRule). Contains rs rule) (sym e)
    (contains_here rules rule)) in
    let clear = rule_clear declared None axioms of.0 of.2.shape p.no_fault of.1 of.2.class in
    let sort = sort_declared declared clear.0 of.0 of.2.shape clear.1 in
    inr (sort.0, rules_sorted d declared theory sort.0 of.0 of.2.shape p of.1 of.2.class sort.1)

-- ---- equations

-- a place past the end of one list is past the end of the other
none_listed : {X Y : Type 0} (xs : List X) (ys : List Y) (i : ℕ) (y : Y) → slice_get xs i ≡ None
    → length xs ≡ length ys → slice_index_or ys i y ≡ y
none_listed xs [] i y none same = refl
none_listed [] (z ∷ ys) i y none same = absurd (omega (arith, same))
none_listed (x ∷ xs) (z ∷ ys) zero y none same = absurd (let never : ⊥ = cc in never)
none_listed (x ∷ xs) (z ∷ ys) (suc i) y none same = none_listed xs ys i y none (omega (arith, same))

in_order : (theory : RewriteTheory) (declared : Signature) (axioms : List AxiomDeclaration) (f : ℕ)
    (o : Option (List ℕ × SymInfo)) → IsProgramUnder declared axioms theory
    → slice_get theory.sig.symbols f ≡ o
    → AreInOrder (map (λ (e : Equation). (e.priority, e.place)) (equations_of theory f))
in_order theory declared axioms f (Some (name, info)) p at = (p.equations f name info at).in_order
in_order theory declared axioms f None p at =
    subst (λ (es : List Equation). AreInOrder (map (λ (e : Equation). (e.priority, e.place)) es))
    (sym (none_listed theory.sig.symbols theory.equations f [] at (sym p.listed))) tt

first_of_pair : (p q : List ℕ × SymInfo) → Some p ≡ Some q → p.0 ≡ q.0
first_of_pair p q e = let same : p ≡ q = cc in ap (λ (x : List ℕ × SymInfo). x.0) same

equation_sorted : (d : DefinitionTree) (declared : Signature) (theory : RewriteTheory) (f : ℕ)
    (info : SymInfo) → IsFaultlessProgram d declared theory → IsSymbol theory.sig f info
    → All (IsSortedEquation theory.sig info) (equations_of theory f)
equation_sorted d declared theory f info p (name, there) =
    let axioms = axioms_of d in
    let is_kept = kept declared axioms theory p.program in
    let found = declared_symbol declared theory.sig axioms f info is_kept (name, there) in
    let own : SymInfo = found.1 in
    let of = found.3.2 in
    let both : ◌≡◌ {A = Option (List ℕ × SymInfo)} (Some (name, info)) (Some (found.3.0, info)) =
    sym there ∙ found.3.1 in
    let same_name : name ≡ found.0 = first_of_pair (name, info) (found.3.0, info) both ∙ of.name in
    let at : slice_get declared.symbols f ≡ Some (name, own) =
    found.2 ∙ ap (λ (n : List ℕ). Some (n, own)) (sym same_name) in
    let named : symbol_named declared name ≡ Some own =
    named_by_number declared f name own p.distinct at in
    All-weaker (Contains (equations_of theory f)) (IsSortedEquation theory.sig info)
    (λ e known.
    let is = ((p.program.equations f name info there).just e).0 known in
    let r = among_parts declared axioms name is.1.0 e is.1.2 in
    let infos : Some own ≡ Some r.info = sym named ∙ r.states.declared in
    let same : own ≡ r.info = cc in
    let kind : own.kind ≡ Equations =
    equations_declared declared axioms _ own info.kind of.kind is.0 in
    let plain : own.params ≡ 0 = functions_plain d declared f (name, own) p.signature at kind in
    sorted_equation declared theory.sig axioms is.1.0 r.stated r.info r.parts e info is_kept
    p.sorted r.readable r.means
    (ap (λ (i : SymInfo). i.params) (sym same) ∙ plain)
    (subst (λ (i : SymInfo). All (IsReference declared i.params) i.args.items) same
    (p.sorted.declared f own (name, at)).arguments)
    (of.args ∙ ap (λ (i : SymInfo). i.args.items) same)
    (of.result ∙ ap (λ (i : SymInfo). i.result) same))
    (equations_of theory f) (All-contains_itself (equations_of theory f))

-- ---- the program

pub well_sorted_program : (d : DefinitionTree) (declared : Signature) (theory : RewriteTheory)
    → IsFaultlessProgram d declared theory → IsWellSorted theory
well_sorted_program d declared theory p =
    let axioms = axioms_of d in
    let is_kept = kept declared axioms theory p.program in
    record {
      signature = signature_kept declared theory.sig axioms is_kept p.sorted;
      hooked = λ f row info symbol is.
          let found = declared_symbol declared theory.sig axioms f info is_kept symbol in
          let of = found.3.2 in
          fits_kept declared theory.sig axioms row found.1 info found.0 found.3.0 is_kept of
          (hook_fits declared axioms _ found.1 info.kind row of.kind is (λ e. never_hooked d
          declared f (found.0, found.1) (record { 0 = row }) p.signature found.2 (e ∙ is)));
      functions = λ f info symbol is.
          let found = declared_symbol declared theory.sig axioms f info is_kept symbol in
          let of = found.3.2 in
          of.params
          ∙ functions_plain d declared f (found.0, found.1) p.signature found.2
          (equations_declared declared axioms _ found.1 info.kind of.kind is);
      one_sort = rules_of_one_sort d declared theory theory.rules p refl;
      rules_in_order = p.program.rules.in_order;
      listed = p.program.listed;
      equations = λ f info symbol. equation_sorted d declared theory f info p symbol;
      equations_in_order =
          λ f. in_order theory declared axioms f (slice_get theory.sig.symbols f) p.program refl;
    }

no_rules : (d : DefinitionTree) (declared : Signature) (theory : RewriteTheory)
    (rules : List RewriteRule) → IsFaultlessProgram d declared theory
    → ((a : AxiomDeclaration) → Contains (axioms_of d) a → (w : Rewriting)
    → axiom_class theory.sig a ≡ rewrites w → ⊥) → theory.rules ≡ rules → theory.rules ≡ []
no_rules d declared theory [] p none e = e
no_rules d declared theory (rule ∷ rules) p none e =
    let of =
    (p.program.rules.just rule).0 (subst (λ (rs : List RewriteRule). Contains rs rule) (sym e)
    (contains_here rules rule)) in
    absurd (none of.0 of.1 of.2.shape (class_same declared theory.sig of.0 of.2.shape of.2.class))

-- the sort of the program's rules, if there are rules
pub sorted_rules : (d : DefinitionTree) (declared : Signature) (theory : RewriteTheory)
    (top : Option ℕ) → IsFaultlessProgram d declared theory
    → IsTopOf theory.sig (axioms_of d) top → IsSortOfRules theory top
sorted_rules d declared theory None p is = no_rules d declared theory theory.rules p is refl
sorted_rules d declared theory (Some s) p (a, there, (w, class, number)) =
    rules_sorted d declared theory s a w p there (class_same theory.sig declared a w class)
    (ap (λ (es : List (List ℕ × SortInfo)). sort_number es w.sort) (sym p.program.sorts)
    ∙ number)
