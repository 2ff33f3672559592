-- A text means one program, and its rules have one sort.
use Rattle.std.proofs.Common.{◌≡◌, ◌<◌, ℕ, zero, suc, List, [], ◌∷◌, length, Option, Some, None}
use Rattle.std.proofs.Common.{refl, sym, ap, ◌∙◌, subst, arith}
use Rattle.std.specs.Prelude.{Contains, slice_get, slice_index_or}
use Rattle.std.specs.List.{AllZip}
use Rattle.std.proofs.lemmas.Slice.Zip.{AllZip-long}
use Rattle.kore_text.specs.Trees.{AxiomDeclaration, DefinitionTree}
use Rattle.rule_core.specs.Rules.{RewriteRule, Equation}
use Rattle.rule_core.specs.Theories.{RewriteTheory}
use Rattle.rule_core.specs.declared.signature.Signature.{Signature}
use Rattle.rule_core.specs.declared.signature.SymInfo.{SymInfo}
use Rattle.rule_core.specs.declared.signature.SymKind.{SymKind}
use Rattle.rule_core.specs.declared.signature.SymKind.TheVariants.{Equations}
use Rattle.kore_sig.specs.Declarations.{axioms_of}
use Rattle.kore_sig.specs.SignatureLaws.{IsSameSymbol, AreSameSignature, SignatureIsOne}
use Rattle.kore_sig.specs.Signatures.{IsSignatureOf}
use Rattle.kore_axioms.specs.AxiomMeanings.{MeansRule}
use Rattle.kore_rules.specs.EquationsAmong.{IsEquationAmong}
use Rattle.kore_rules.specs.AcceptanceLaws.{DefinitionIsOne}
use Rattle.kore_rules.specs.Programs.{HasKind, IsSymbolOf, AreRulesOf, AreEquationsOf}
use Rattle.kore_rules.specs.Programs.{IsProgramUnder, IsTopOf}
use Rattle.kore_rules.specs.SamePrograms.{ProgramIsOne}
use Rattle.kore_rules.proofs.AcceptedLaws.{top_any}
use Rattle.kore_rules.proofs.AlikeKinds.{kind_carried, kind_one}
use Rattle.kore_rules.proofs.AlikeLastResorts.{among_carried}
use Rattle.kore_rules.proofs.AlikeMeanings.{rule_carried}
use Rattle.kore_rules.proofs.AlikeSignatures.{Symbols, alike, signatures_back, entry_alike}
use Rattle.kore_rules.proofs.OneOrder.{one_list}
use Rattle.kore_rules.proofs.RuleFirsts.{NoneFrom, one_sort_of_rules}

-- ---- the sort of the rules

some_same : {A : Type 0} (x y : A) → Some x ≡ Some y → x ≡ y
some_same x y e = cc

top_one : (sig : Signature) (axioms : List AxiomDeclaration) → NoneFrom sig None axioms
    → (top other : Option ℕ) → IsTopOf sig axioms top → IsTopOf sig axioms other → top ≡ other
top_one sig axioms clear None None a b = refl
top_one sig axioms clear None (Some n) a (x, there, (w, class, number)) =
    absurd (a x there w class)
top_one sig axioms clear (Some m) None (x, there, (w, class, number)) b =
    absurd (b x there w class)
top_one sig axioms clear (Some m) (Some n) (x, there, (w, class, number)) (y, has, (v, is, code)) =
    let all = one_sort_of_rules sig axioms clear in
    sym number ∙ all.1 x there w class ∙ sym (all.1 y has v is) ∙ code

-- ---- symbols, under two signatures that agree

module _ (s t : Signature) (same : AreSameSignature s t) (axioms : List AxiomDeclaration) where
  symbol_one : (d e m n : List ℕ × SymInfo) → IsSameSymbol d e → IsSymbolOf s axioms d m
      → IsSymbolOf t axioms e n → IsSameSymbol m n
  symbol_one d e m n h a b =
      let kind : HasKind t axioms e.0 e.1 m.1.kind =
      kind_carried s t same axioms e.0 d.1 e.1 (alike d e h)
      (subst (λ (f : List ℕ). HasKind s axioms f d.1 m.1.kind) h.name a.kind) in
      record {
        name = a.name ∙ h.name ∙ sym b.name;
        kind = kind_one t axioms e.0 e.1 kind b.kind;
        params = a.params ∙ h.params ∙ sym b.params;
        args = a.args ∙ h.args ∙ sym b.args;
        result = a.result ∙ h.result ∙ sym b.result;
        hook = a.hook ∙ h.hook ∙ sym b.hook;
        ac = a.ac ∙ h.ac ∙ sym b.ac;
      }

  symbols_one : (ds es ms ns : Symbols) → AllZip IsSameSymbol ds es
      → AllZip (IsSymbolOf s axioms) ds ms → AllZip (IsSymbolOf t axioms) es ns
      → AllZip IsSameSymbol ms ns
  symbols_one [] [] [] [] h a b = tt
  symbols_one [] [] [] (n ∷ ns) h a b = absurd b
  symbols_one [] [] (m ∷ ms) ns h a b = absurd a
  symbols_one [] (e ∷ es) ms ns h a b = absurd h
  symbols_one (d ∷ ds) [] ms ns h a b = absurd h
  symbols_one (d ∷ ds) (e ∷ es) [] ns h a b = absurd a
  symbols_one (d ∷ ds) (e ∷ es) (m ∷ ms) [] h a b = absurd b
  symbols_one (d ∷ ds) (e ∷ es) (m ∷ ms) (n ∷ ns) h a b =
      (symbol_one d e m n h.0 a.0 b.0, symbols_one ds es ms ns h.1 a.1 b.1)

  -- ---- rules and equations

  rules_within : (xs ys : List RewriteRule) → AreRulesOf s axioms xs → AreRulesOf t axioms ys
      → (x : RewriteRule) → Contains xs x → Contains ys x
  rules_within xs ys a b x has =
      let is : (d : AxiomDeclaration) × Contains axioms d × MeansRule s d x = (a.just x).0 has in
      (b.just x).1 (is.0, is.1, rule_carried s t same is.0 x is.2)

  equations_within : (f g : List ℕ) (j k : SymKind) (xs ys : List Equation) → f ≡ g → j ≡ k
      → AreEquationsOf s axioms f j xs → AreEquationsOf t axioms g k ys → (x : Equation)
      → Contains xs x → Contains ys x
  equations_within f g j k xs ys name kind a b x has =
      let is : (j ≡ Equations) × ((d : AxiomDeclaration) × Contains axioms d
      × IsEquationAmong s axioms f d x) =
      (a.just x).0 has in
      let d : AxiomDeclaration = is.1.0 in
      (b.just x).1 (
        sym kind ∙ is.0,
        (
          d,
          is.1.1,
          subst (λ (h : List ℕ). IsEquationAmong t axioms h d x) name
              (among_carried s t same axioms f d x is.1.2),
        ),
      )

  program_sig : (p q : RewriteTheory) → IsProgramUnder s axioms p → IsProgramUnder t axioms q
      → AreSameSignature p.sig q.sig
  program_sig p q a b = record {
    sorts = a.sorts ∙ same.sorts ∙ sym b.sorts;
    symbols =
        symbols_one s.symbols t.symbols p.sig.symbols q.sig.symbols same.symbols a.symbols
        b.symbols;
    subsorts = a.subsorts ∙ same.subsorts ∙ sym b.subsorts;
  }

-- the equations of a symbol of both programs
listed_one : (s t : Signature) → AreSameSignature s t → (axioms : List AxiomDeclaration)
    → (f g : List ℕ) (j k : SymKind) (xs ys : List Equation) → f ≡ g → j ≡ k
    → AreEquationsOf s axioms f j xs → AreEquationsOf t axioms g k ys → xs ≡ ys
listed_one s t same axioms f g j k xs ys name kind a b =
    one_list (λ (e : Equation). (e.priority, e.place)) xs ys a.in_order b.in_order
    (equations_within s t same axioms f g j k xs ys name kind a b)
    (equations_within t s (signatures_back s t same) axioms g f k j ys xs (sym name) (sym kind) b
    a)

rules_one : (s t : Signature) → AreSameSignature s t → (axioms : List AxiomDeclaration)
    → (xs ys : List RewriteRule) → AreRulesOf s axioms xs → AreRulesOf t axioms ys → xs ≡ ys
rules_one s t same axioms xs ys a b =
    one_list (λ (r : RewriteRule). (r.priority, r.place)) xs ys a.in_order b.in_order
    (rules_within s t same axioms xs ys a b)
    (rules_within t s (signatures_back s t same) axioms ys xs b a)

each_same : {X : Type 0} (d : X) (xs ys : List X) → length xs ≡ length ys
    → ((n : ℕ) → n < length xs → slice_index_or xs n d ≡ slice_index_or ys n d) → xs ≡ ys
each_same d [] [] long each = refl
each_same d [] (y ∷ ys) long each = absurd (let never : ⊥ = omega (arith, long) in never)
each_same d (x ∷ xs) [] long each = absurd (let never : ⊥ = omega (arith, long) in never)
each_same {X} d (x ∷ xs) (y ∷ ys) long each =
    ap (λ (z : X). z ∷ xs) (each 0 (omega arith))
    ∙ ap (λ (zs : List X). y ∷ zs) (each_same d xs ys (omega (arith, long))
    (λ n lt. each (suc n) (omega (arith, lt))))

-- there is an entry at each place of a list
within : (xs : Symbols) (n : ℕ) → n < length xs → slice_get xs n ≡ None → ⊥
within [] n lt none = omega (arith, lt)
within (x ∷ xs) zero lt none = let never : ⊥ = cc in never
within (x ∷ xs) (suc n) lt none = within xs n (omega (arith, lt)) none

equations_one : (s t : Signature) → AreSameSignature s t → (axioms : List AxiomDeclaration)
    → (p q : RewriteTheory) → AreSameSignature p.sig q.sig → IsProgramUnder s axioms p
    → IsProgramUnder t axioms q → p.equations ≡ q.equations
equations_one s t same axioms p q agree a b =
    let long : length q.sig.symbols ≡ length p.sig.symbols =
    AllZip-long IsSameSymbol p.sig.symbols q.sig.symbols agree.symbols in
    each_same [] p.equations q.equations (a.listed ∙ sym long ∙ sym b.listed) (λ n lt. at n
    (subst (λ (m : ℕ). n < m) a.listed lt))
  where
    at : (n : ℕ) → n < length p.sig.symbols
        → slice_index_or p.equations n [] ≡ slice_index_or q.equations n []
    at n lt = by_entry (slice_get p.sig.symbols n) refl where
      by_entry : (o : Option (List ℕ × SymInfo)) → slice_get p.sig.symbols n ≡ o
          → slice_index_or p.equations n [] ≡ slice_index_or q.equations n []
      by_entry None none = absurd (within p.sig.symbols n lt none)
      by_entry (Some e) there =
          let other : (f : List ℕ × SymInfo) × (slice_get q.sig.symbols n ≡ Some f)
          × IsSameSymbol e f =
          entry_alike p.sig.symbols q.sig.symbols n e agree.symbols there in
          listed_one s t same axioms e.0 other.0.0 e.1.kind other.0.1.kind
          (slice_index_or p.equations n []) (slice_index_or q.equations n []) other.2.name
          other.2.kind (a.equations n e.0 e.1 there) (b.equations n other.0.0 other.0.1 other.1)

-- ---- programs

pub program_is_one : DefinitionIsOne → SignatureIsOne → ProgramIsOne
program_is_one one law bytes p q top other a b =
    let tree : a.definition ≡ b.definition =
    one bytes a.definition b.definition a.spelled b.spelled in
    let axioms : List AxiomDeclaration = axioms_of b.definition in
    let same : AreSameSignature a.declared b.declared =
    law b.definition a.declared b.declared
    (subst (λ (d : DefinitionTree). IsSignatureOf d a.declared) tree a.signature) b.signature in
    let program : IsProgramUnder a.declared axioms p =
    subst (λ (d : DefinitionTree). IsProgramUnder a.declared (axioms_of d) p) tree a.program in
    let sort : IsTopOf p.sig axioms top =
    subst (λ (d : DefinitionTree). IsTopOf p.sig (axioms_of d) top) tree a.sort in
    let agree : AreSameSignature p.sig q.sig =
    program_sig a.declared b.declared same axioms p q program b.program in (
      record {
        sig = agree;
        rules =
            rules_one a.declared b.declared same axioms p.rules q.rules program.rules
            b.program.rules;
        equations =
            equations_one a.declared b.declared same axioms p q agree program b.program;
      },
      top_one b.declared axioms b.no_axiom_fault top other
          (top_any p.sig b.declared axioms top
          (sym (program.sorts ∙ same.sorts)) sort)
          (top_any q.sig b.declared axioms other (sym b.program.sorts) b.sort),
    )
