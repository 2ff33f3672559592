-- The signature of a program is that of its declarations, except for the kinds of functions.
use Rattle.std.proofs.Common.{◌≡◌, ◌<◌, ℕ, zero, suc, List, [], ◌∷◌, length, slice_get, Some, refl}
use Rattle.std.proofs.Common.{ap, sym, ◌∙◌, subst}
use Rattle.std.specs.Prelude.{All}
use Rattle.std.specs.List.{AllZip}
use Rattle.std.proofs.lemmas.List.Elements.{All-weaker}
use Rattle.kore_text.specs.Trees.{AxiomDeclaration}
use Rattle.term_core.specs.Patterns.{Pattern, Patterns, variable, domain_value, application}
use Rattle.term_core.specs.Patterns.{injection, call, no_pattern, more_patterns}
use Rattle.rule_core.specs.Sorting.{HasSort, HaveSorts, HasValue, IsSymbol, IsFunction, AreSorts}
use Rattle.rule_core.specs.Sorting.{sort_at}
use Rattle.rule_core.specs.Subsorts.{IsBelow, HasNoCycle}
use Rattle.rule_core.specs.WellSorted.{IsSignature, IsReference, IsPair}
use Rattle.rule_core.specs.declared.signature.Signature.{Signature}
use Rattle.rule_core.specs.declared.signature.SortInfo.{SortInfo}
use Rattle.rule_core.specs.declared.signature.SortRef.{SortRef}
use Rattle.rule_core.specs.declared.signature.SortRef.TheVariants.{Param, Sort}
use Rattle.rule_core.specs.declared.signature.SymInfo.{SymInfo}
use Rattle.rule_core.specs.declared.signature.SymKind.{SymKind}
use Rattle.rule_core.specs.declared.signature.SymKind.TheVariants.{Injection, Ctor, Equations}
use Rattle.kore_rules.specs.Programs.{HasKind, as_declared, hooked_kind, without_hook}
use Rattle.kore_rules.specs.Programs.{by_unreadable, equations_kind, IsSymbolOf, IsProgramUnder}
use Rattle.rule_core.specs.Theories.{RewriteTheory}

-- ---- entries at the same place

pub zipped_left : {X Y : Type 0} (R : X → Y → Type 0) (xs : List X) (ys : List Y) (i : ℕ) (x : X)
    → AllZip R xs ys → slice_get xs i ≡ Some x → (y : Y) × (slice_get ys i ≡ Some y) × R x y
zipped_left R [] ys i x all is = absurd (let never : ⊥ = cc in never)
zipped_left R (w ∷ xs) [] i x all is = absurd all
zipped_left R (w ∷ xs) (z ∷ ys) zero x all is =
    (z, refl, subst (λ (v : _). R v z) (let same : w ≡ x = cc in same) all.0)
zipped_left R (w ∷ xs) (z ∷ ys) (suc i) x all is = zipped_left R xs ys i x all.1 is

pub zipped_right : {X Y : Type 0} (R : X → Y → Type 0) (xs : List X) (ys : List Y) (i : ℕ) (y : Y)
    → AllZip R xs ys → slice_get ys i ≡ Some y → (x : X) × (slice_get xs i ≡ Some x) × R x y
zipped_right R xs [] i y all is = absurd (let never : ⊥ = cc in never)
zipped_right R [] (z ∷ ys) i y all is = absurd all
zipped_right R (w ∷ xs) (z ∷ ys) zero y all is =
    (w, refl, subst (λ (v : _). R w v) (let same : z ≡ y = cc in same) all.0)
zipped_right R (w ∷ xs) (z ∷ ys) (suc i) y all is = zipped_right R xs ys i y all.1 is

-- ---- kinds

-- a final kind that is not a function's is the declared one
pub kind_kept : (sig : Signature) (axioms : List AxiomDeclaration) (f : List ℕ) (info : SymInfo)
    (k : SymKind) → HasKind sig axioms f info k → (IsFunction k → ⊥) → info.kind ≡ k
kind_kept sig axioms f info _ (as_declared other) not = refl
kind_kept sig axioms f info _ (hooked_kind is hook fits) not = absurd (not tt)
kind_kept sig axioms f info _ (without_hook is hook none) not = absurd (not tt)
kind_kept sig axioms f info _ (by_unreadable is none there bad) not = absurd (not tt)
kind_kept sig axioms f info _ (equations_kind is none all) not = absurd (not tt)

-- a declared kind that is not a function's is the final one
pub kind_stays : (sig : Signature) (axioms : List AxiomDeclaration) (f : List ℕ) (info : SymInfo)
    (k : SymKind) → HasKind sig axioms f info k → (info.kind ≡ Equations → ⊥) → k ≡ info.kind
kind_stays sig axioms f info _ (as_declared other) not = refl
kind_stays sig axioms f info _ (hooked_kind is hook fits) not = absurd (not is)
kind_stays sig axioms f info _ (without_hook is hook none) not = absurd (not is)
kind_stays sig axioms f info _ (by_unreadable is none there bad) not = absurd (not is)
kind_stays sig axioms f info _ (equations_kind is none all) not = absurd (not is)

-- a function stays a function
pub function_stays : (sig : Signature) (axioms : List AxiomDeclaration) (f : List ℕ)
    (info : SymInfo) (k : SymKind) → HasKind sig axioms f info k → IsFunction info.kind
    → IsFunction k
function_stays sig axioms f info _ (as_declared other) fun = fun
function_stays sig axioms f info _ (hooked_kind is hook fits) fun = tt
function_stays sig axioms f info _ (without_hook is hook none) fun = tt
function_stays sig axioms f info _ (by_unreadable is none there bad) fun = tt
function_stays sig axioms f info _ (equations_kind is none all) fun = tt

ctor_apart : Ctor ≡ Equations → ⊥
ctor_apart e = let never : ⊥ = cc in never

injection_apart : Injection ≡ Equations → ⊥
injection_apart e = let never : ⊥ = cc in never

-- ---- the two signatures

-- a program's signature is the declared one, except for the kinds of functions
pub record IsKept (declared final : Signature) (axioms : List AxiomDeclaration) : Type 0 where
  pub sorts : final.sorts ≡ declared.sorts
  pub symbols : AllZip (IsSymbolOf declared axioms) declared.symbols final.symbols
  pub subsorts : final.subsorts ≡ declared.subsorts

pub kept : (declared : Signature) (axioms : List AxiomDeclaration) (theory : RewriteTheory)
    → IsProgramUnder declared axioms theory → IsKept declared theory.sig axioms
kept declared axioms theory is = record {
  sorts = is.sorts;
  symbols = is.symbols;
  subsorts = is.subsorts;
}

-- the declared symbol for a symbol of the program
pub declared_symbol : (declared final : Signature) (axioms : List AxiomDeclaration) (f : ℕ)
    (info : SymInfo) → IsKept declared final axioms → IsSymbol final f info
    → (name : List ℕ) × (own : SymInfo) × (slice_get declared.symbols f ≡ Some (name, own))
    × ((made : List ℕ) × (slice_get final.symbols f ≡ Some (made, info))
    × IsSymbolOf declared axioms (name, own) (made, info))
declared_symbol declared final axioms f info k (made, there) =
    let found =
    zipped_right (IsSymbolOf declared axioms) declared.symbols final.symbols f (made, info)
    k.symbols there in
    (found.0.0, found.0.1, found.1, (made, there, found.2))

pub final_symbol : (declared final : Signature) (axioms : List AxiomDeclaration) (f : ℕ)
    (own : SymInfo) → IsKept declared final axioms → IsSymbol declared f own
    → (info : SymInfo) × IsSymbol final f info
    × ((name : List ℕ) × (made : List ℕ) × IsSymbolOf declared axioms (name, own) (made, info))
final_symbol declared final axioms f own k (name, there) =
    let found =
    zipped_left (IsSymbolOf declared axioms) declared.symbols final.symbols f (name, own)
    k.symbols there in
    (found.0.1, (found.0.0, found.1), (name, found.0.0, found.2))

-- ---- sorts of patterns

value_kept : (declared final : Signature) (s : ℕ) (v : _) → final.sorts ≡ declared.sorts
    → HasValue declared s v → HasValue final s v
value_kept declared final s v e (name, info, there, is) =
    (name, info, ap (λ (es : List (List ℕ × SortInfo)). slice_get es s) e ∙ there, is)

sorts_kept : (declared final : Signature) (ns : List ℕ) → final.sorts ≡ declared.sorts
    → AreSorts declared ns → AreSorts final ns
sorts_kept declared final [] e all = tt
sorts_kept declared final (n ∷ ns) e all = (
  subst (λ (es : List (List ℕ × SortInfo)). n < length es) (sym e) all.0,
  sorts_kept declared final ns e all.1,
)

mutual
  pub sort_kept : (declared final : Signature) (axioms : List AxiomDeclaration) (V : List ℕ)
      (p : Pattern) (s : ℕ) → IsKept declared final axioms → HasSort declared V p s
      → HasSort final V p s
  sort_kept declared final axioms V (variable x) s k h = h
  sort_kept declared final axioms V (domain_value t v) s k h =
      (h.0, value_kept declared final t v k.sorts h.1)
  sort_kept declared final axioms V (application f ps) s k (own, symbol, kind, result, args) =
      let found = final_symbol declared final axioms f own k symbol in
      let is = found.2.2 in
      let final_kind : found.0.kind ≡ Ctor =
      kind_stays declared axioms _ own found.0.kind is.kind (λ e. ctor_apart (sym kind ∙ e))
      ∙ kind in (
        found.0,
        found.1,
        final_kind,
        ap (sort_at []) is.result
            ∙ result,
        subst (HaveSorts final V [] ps) (sym is.args)
            (all_sorts_kept declared final axioms V [] ps own.args.items k args),
      )
  sort_kept declared final axioms V (injection a b p) s k
      ((f, own, symbol, kind), to, below, inner) =
      let found = final_symbol declared final axioms f own k symbol in
      let is = found.2.2 in
      let final_kind : found.0.kind ≡ Injection =
      kind_stays declared axioms _ own found.0.kind is.kind
      (λ e. injection_apart (sym kind ∙ e)) ∙ kind in (
        (f, found.0, found.1, final_kind),
        to,
        subst (λ (ps : List (ℕ × ℕ)). IsBelow ps a b) (sym k.subsorts) below,
        sort_kept declared final axioms V p a k inner,
      )
  sort_kept declared final axioms V (call f ns ps) s k
      (own, symbol, fun, many, sorts, result, args) =
      let found = final_symbol declared final axioms f own k symbol in
      let is = found.2.2 in (
        found.0,
        found.1,
        function_stays declared axioms _ own found.0.kind is.kind fun,
        many
            ∙ sym is.params,
        sorts_kept declared final ns k.sorts sorts,
        ap (sort_at ns) is.result
            ∙ result,
        subst (HaveSorts final V ns ps) (sym is.args)
            (all_sorts_kept declared final axioms V ns ps own.args.items k args),
      )

  pub all_sorts_kept : (declared final : Signature) (axioms : List AxiomDeclaration) (V : List ℕ)
      (ns : List ℕ) (ps : Patterns) (refs : List SortRef) → IsKept declared final axioms
      → HaveSorts declared V ns ps refs → HaveSorts final V ns ps refs
  all_sorts_kept declared final axioms V ns no_pattern [] k h = tt
  all_sorts_kept declared final axioms V ns no_pattern (of ∷ refs) k h = h
  all_sorts_kept declared final axioms V ns (more_patterns p ps) [] k h = h
  all_sorts_kept declared final axioms V ns (more_patterns p ps) (of ∷ refs) k
      (s, at, first, rest) = (
        s,
        at,
        sort_kept declared final axioms V p s k first,
        all_sorts_kept declared final axioms V ns ps refs k rest,
      )

-- ---- the signature

reference_kept : (declared final : Signature) (m n : ℕ) (of : SortRef)
    → final.sorts ≡ declared.sorts → n ≡ m → IsReference declared m of → IsReference final n of
reference_kept declared final m n (Param i) e same h = subst (λ (x : ℕ). i < x) (sym same) h
reference_kept declared final m n (Sort s) e same h =
    subst (λ (es : List (List ℕ × SortInfo)). s.0 < length es) (sym e) h

references_kept : (declared final : Signature) (m n : ℕ) (refs : List SortRef)
    → final.sorts ≡ declared.sorts → n ≡ m → All (IsReference declared m) refs
    → All (IsReference final n) refs
references_kept declared final m n refs e same all =
    All-weaker (IsReference declared m) (IsReference final n)
    (λ of h. reference_kept declared final m n of e same h) refs all

pairs_kept : (declared final : Signature) (ps : List (ℕ × ℕ)) → final.sorts ≡ declared.sorts
    → All (IsPair declared) ps → All (IsPair final) ps
pairs_kept declared final ps e all =
    All-weaker (IsPair declared) (IsPair final)
    (λ p h. (
      subst (λ (es : List (List ℕ × SortInfo)). p.0 < length es) (sym e) h.0,
      subst (λ (es : List (List ℕ × SortInfo)). p.1 < length es) (sym e) h.1,
    )) ps all

not_ctor : (k : SymKind) → k ≡ Ctor → IsFunction k → ⊥
not_ctor k e fun = subst IsFunction e fun

not_injection : (k : SymKind) → k ≡ Injection → IsFunction k → ⊥
not_injection k e fun = subst IsFunction e fun

pub signature_kept : (declared final : Signature) (axioms : List AxiomDeclaration)
    → IsKept declared final axioms → IsSignature declared → IsSignature final
signature_kept declared final axioms k good = record {
  declared = λ f info symbol.
      let found = declared_symbol declared final axioms f info k symbol in
      let is = found.3.2 in
      let own = good.declared f found.1 (found.0, found.2) in
      record {
        arguments =
            subst (All (IsReference final info.params)) (sym is.args)
            (references_kept declared final found.1.params info.params found.1.args.items
            k.sorts is.params own.arguments);
        result =
            subst (IsReference final info.params) (sym is.result) (reference_kept declared final
            found.1.params info.params found.1.result k.sorts is.params own.result);
      };
  injections = λ f info symbol kind.
      let found = declared_symbol declared final axioms f info k symbol in
      let is = found.3.2 in
      let own_kind : found.1.kind ≡ Injection =
      kind_kept declared axioms _ found.1 info.kind is.kind (not_injection info.kind kind)
      ∙ kind in
      let own = good.injections f found.1 (found.0, found.2) own_kind in
      record {
        parameters = is.params ∙ own.parameters;
        argument = is.args ∙ own.argument;
        result = is.result ∙ own.result;
      };
  constructors = λ f info symbol kind.
      let found = declared_symbol declared final axioms f info k symbol in
      let is = found.3.2 in
      let own_kind : found.1.kind ≡ Ctor =
      kind_kept declared axioms _ found.1 info.kind is.kind (not_ctor info.kind kind) ∙ kind in
      is.params ∙ good.constructors f found.1 (found.0, found.2) own_kind;
  pairs =
      subst (All (IsPair final)) (sym k.subsorts)
      (pairs_kept declared final declared.subsorts k.sorts good.pairs);
  no_cycle = subst HasNoCycle (sym k.subsorts) good.no_cycle;
}
