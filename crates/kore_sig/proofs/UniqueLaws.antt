-- The first fault of a set, of stages, or of things in order is unique. A definition has one
-- signature.
use Rattle.std.proofs.Common.{◌≡◌, ℕ, List, [], ◌∷◌, map, Option, Some, None, refl, ap, sym, ◌∙◌}
use Rattle.std.proofs.Common.{arith, inl, inr, subst}
use Rattle.std.specs.Prelude.{Contains}
use Rattle.std.specs.List.{AllZip}
use Rattle.rule_core.specs.declared.signature.SortInfo.{SortInfo}
use Rattle.rule_core.specs.declared.signature.SymInfo.{SymInfo}
use Rattle.kore_text.specs.Trees.{SymbolDeclaration}
use Rattle.kore_sig.specs.Declarations.{SubsortPair, symbols_of, pairs_of}
use Rattle.kore_sig.specs.FirstFault.{Fault, ByByte, ByNumber, IsFirstBy, Then, IsFirstOfSequence}
use Rattle.kore_sig.specs.SignatureFaults.{FirstOfModules, FirstOfDeclarations, FirstOfPairs}
use Rattle.kore_sig.specs.SignatureFaults.{HasPairFault, declarations_placed, module_faults}
use Rattle.kore_sig.specs.SignatureFaults.{names_after, nothing_declared, pairs_after}
use Rattle.kore_sig.specs.Declaring.{placed_faults, placed_behind}
use Rattle.kore_sig.specs.SignatureLaws.{FirstIsOne, IsSameSymbol, SignatureIsOne}
use Rattle.kore_sig.specs.Signatures.{IsSymbolEntry, IsPairOf}
use Rattle.kore_sig.specs.SortReferences.{sort_entries}
use Rattle.kore_sig.specs.SymbolKinds.{injection_of, ac_names}

-- ---- the first fault

pub same_fault : (f g : Fault) → f.number ≡ g.number → f.byte ≡ g.byte → f ≡ g
same_fault f g e h = λ i. record { number = e i; byte = h i }

abbrev pub IsAntisymmetric : (Fault → Fault → Type 0) → Type 0
IsAntisymmetric Leads = (f g : Fault) → Leads f g → Leads g f → f ≡ g

pub number_antisymmetric : IsAntisymmetric ByNumber
number_antisymmetric f g (inl h) (inl k) = absurd (let never : ⊥ = omega arith in never)
number_antisymmetric f g (inl h) (inr k) =
    absurd (let e = k.0 in let never : ⊥ = omega arith in never)
number_antisymmetric f g (inr h) (inl k) =
    absurd (let e = h.0 in let never : ⊥ = omega arith in never)
number_antisymmetric f g (inr h) (inr k) =
    same_fault f g h.0 (let a = h.1 in let b = k.1 in omega arith)

pub byte_antisymmetric : IsAntisymmetric ByByte
byte_antisymmetric f g (inl h) (inl k) = absurd (let never : ⊥ = omega arith in never)
byte_antisymmetric f g (inl h) (inr k) =
    absurd (let e = k.0 in let never : ⊥ = omega arith in never)
byte_antisymmetric f g (inr h) (inl k) =
    absurd (let e = h.0 in let never : ⊥ = omega arith in never)
byte_antisymmetric f g (inr h) (inr k) =
    same_fault f g (let a = h.1 in let b = k.1 in omega arith) h.0

-- sets with the same items have the same first
pub first_same : (Leads : Fault → Fault → Type 0) → IsAntisymmetric Leads
    → (P Q : Fault → Type 0) (q r : Option Fault) → ((f : Fault) → P f → Q f)
    → ((f : Fault) → Q f → P f) → IsFirstBy Leads P q → IsFirstBy Leads Q r → q ≡ r
first_same Leads anti P Q None None there back p q = refl
first_same Leads anti P Q None (Some g) there back p q = absurd (p g (back g q.0))
first_same Leads anti P Q (Some f) None there back p q = absurd (q f (there f p.0))
first_same Leads anti P Q (Some f) (Some g) there back p q =
    ap Some (anti f g (p.1 g (back g q.0)) (q.1 f (there f p.0)))

pub first_one : (P : Fault → Type 0) (q r : Option Fault) → IsFirstBy ByNumber P q
    → IsFirstBy ByNumber P r → q ≡ r
first_one P q r = first_same ByNumber number_antisymmetric P P q r (λ f h. h) (λ f h. h)

abbrev pub IsOne : (Option Fault → Type 0) → Type 0
IsOne P = (q r : Option Fault) → P q → P r → q ≡ r

-- there cannot be both none and some
none_or_some : (P : Option Fault → Type 0) (f : Fault) → IsOne P → P None → P (Some f) → ⊥
none_or_some P f one p q =
    let e : None ≡ Some f = one None (Some f) p q in let never : ⊥ = cc in never

then_some_one : (P Q : Option Fault → Type 0) (f g : Fault) → IsOne P → IsOne Q → Then P Q (Some f)
    → Then P Q (Some g) → Some f ≡ Some g
then_some_one P Q f g p q (inl a) (inl b) = p (Some f) (Some g) a b
then_some_one P Q f g p q (inl a) (inr b) = absurd (none_or_some P f p b.0 a)
then_some_one P Q f g p q (inr a) (inl b) = absurd (none_or_some P g p a.0 b)
then_some_one P Q f g p q (inr a) (inr b) = q (Some f) (Some g) a.1 b.1

then_none_some : (P Q : Option Fault → Type 0) (f : Fault) → IsOne P → IsOne Q → Then P Q None
    → Then P Q (Some f) → ⊥
then_none_some P Q f p q h (inl a) = none_or_some P f p h.0 a
then_none_some P Q f p q h (inr a) = none_or_some Q f q h.1 a.1

pub then_one : (P Q : Option Fault → Type 0) → IsOne P → IsOne Q → IsOne (Then P Q)
then_one P Q p q None None a b = refl
then_one P Q p q None (Some g) a b = absurd (then_none_some P Q g p q a b)
then_one P Q p q (Some f) None a b = absurd (then_none_some P Q f p q b a)
then_one P Q p q (Some f) (Some g) a b = then_some_one P Q f g p q a b

pub in_order_one : {S A : Type 0} (R : S → A → Option Fault → Type 0) (next : S → A → S)
    → ((s : S) (x : A) → IsOne (R s x)) → (s : S) (xs : List A)
    → IsOne (IsFirstOfSequence R next s xs)
in_order_one R next one s [] = λ q r a b. a ∙ sym b
in_order_one R next one s (x ∷ xs) =
    then_one (R s x) (IsFirstOfSequence R next (next s x) xs) (one s x)
    (in_order_one R next one (next s x) xs)

pub first_is_one : FirstIsOne
first_is_one d =
    then_one (FirstOfModules d.modules) (Then
    (FirstOfDeclarations (sort_entries d) (declarations_placed [] d.modules))
    (FirstOfPairs (sort_entries d) (pairs_of d)))
    (in_order_one (λ names m. IsFirstBy ByNumber (Contains (module_faults names m))) names_after
    (λ names m. first_one (Contains (module_faults names m))) [] d.modules)
    (then_one (FirstOfDeclarations (sort_entries d) (declarations_placed [] d.modules))
    (FirstOfPairs (sort_entries d) (pairs_of d))
    (in_order_one
    (λ before p. IsFirstBy ByNumber (Contains (placed_faults (sort_entries d) before p)))
    placed_behind (λ before p. first_one (Contains (placed_faults (sort_entries d) before p)))
    nothing_declared (declarations_placed [] d.modules))
    (in_order_one (λ before p. IsFirstBy ByNumber (HasPairFault (sort_entries d) before p))
    (pairs_after (sort_entries d))
    (λ before p. first_one (HasPairFault (sort_entries d) before p)) [] (pairs_of d)))

-- ---- the signature

some_same : {X : Type 0} (xs ys : List X) → map Some xs ≡ map Some ys → xs ≡ ys
some_same [] [] e = refl
some_same [] (y ∷ ys) e = absurd (let never : ⊥ = cc in never)
some_same (x ∷ xs) [] e = absurd (let never : ⊥ = cc in never)
some_same (x ∷ xs) (y ∷ ys) e =
    let first : x ≡ y = cc in
    let rest : map Some xs ≡ map Some ys = cc in
    let tail : xs ≡ ys = some_same xs ys rest in
    cc

same_symbol : (sorts : List (List ℕ × SortInfo)) (i : Option (List ℕ)) (ac : List (List ℕ))
    (d : SymbolDeclaration) (e f : List ℕ × SymInfo) → IsSymbolEntry sorts i ac d e
    → IsSymbolEntry sorts i ac d f → IsSameSymbol e f
same_symbol sorts i ac d e f a b = record {
  name = a.name ∙ sym b.name;
  kind = a.kind ∙ sym b.kind;
  params = a.params ∙ sym b.params;
  args = some_same e.1.args.items f.1.args.items (a.args ∙ sym b.args);
  result = (let same : Some e.1.result ≡ Some f.1.result = a.result ∙ sym b.result in cc);
  hook = a.hook ∙ sym b.hook;
  ac = a.ac ∙ sym b.ac;
}

same_symbols : (sorts : List (List ℕ × SortInfo)) (i : Option (List ℕ)) (ac : List (List ℕ))
    (ds : List SymbolDeclaration) (es fs : List (List ℕ × SymInfo))
    → AllZip (IsSymbolEntry sorts i ac) ds es → AllZip (IsSymbolEntry sorts i ac) ds fs
    → AllZip IsSameSymbol es fs
same_symbols sorts i ac [] [] [] a b = tt
same_symbols sorts i ac [] [] (f ∷ fs) a b = absurd b
same_symbols sorts i ac [] (e ∷ es) fs a b = absurd a
same_symbols sorts i ac (d ∷ ds) [] fs a b = absurd a
same_symbols sorts i ac (d ∷ ds) (e ∷ es) [] a b = absurd b
same_symbols sorts i ac (d ∷ ds) (e ∷ es) (f ∷ fs) a b =
    (same_symbol sorts i ac d e f a.0 b.0, same_symbols sorts i ac ds es fs a.1 b.1)

same_pair : (sorts : List (List ℕ × SortInfo)) (p : SubsortPair) (m n : ℕ × ℕ) → IsPairOf sorts p m
    → IsPairOf sorts p n → m ≡ n
same_pair sorts p m n a b =
    let lower : Some m.0 ≡ Some n.0 = sym a.lower ∙ b.lower in
    let upper : Some m.1 ≡ Some n.1 = sym a.upper ∙ b.upper in
    let left : m.0 ≡ n.0 = cc in
    let right : m.1 ≡ n.1 = cc in
    λ i. (left i, right i)

same_pairs : (sorts : List (List ℕ × SortInfo)) (ps : List SubsortPair) (ms ns : List (ℕ × ℕ))
    → AllZip (IsPairOf sorts) ps ms → AllZip (IsPairOf sorts) ps ns → ms ≡ ns
same_pairs sorts [] [] [] a b = refl
same_pairs sorts [] [] (n ∷ ns) a b = absurd b
same_pairs sorts [] (m ∷ ms) ns a b = absurd a
same_pairs sorts (p ∷ ps) [] ns a b = absurd a
same_pairs sorts (p ∷ ps) (m ∷ ms) [] a b = absurd b
same_pairs sorts (p ∷ ps) (m ∷ ms) (n ∷ ns) a b =
    let first : m ≡ n = same_pair sorts p m n a.0 b.0 in
    let rest : ms ≡ ns = same_pairs sorts ps ms ns a.1 b.1 in
    cc

pub signature_is_one : SignatureIsOne
signature_is_one d s t a b =
    let sorts : t.sorts ≡ s.sorts = b.sorts ∙ sym a.sorts in record {
      sorts = sym sorts;
      symbols =
          same_symbols s.sorts (injection_of (symbols_of d)) (ac_names d) (symbols_of d) s.symbols
          t.symbols a.symbols
          (subst (λ (es : List (List ℕ × SortInfo)). AllZip
          (IsSymbolEntry es (injection_of (symbols_of d)) (ac_names d)) (symbols_of d)
          t.symbols) sorts b.symbols);
      subsorts =
          same_pairs s.sorts (pairs_of d) s.subsorts t.subsorts a.subsorts (subst
          (λ (es : List (List ℕ × SortInfo)). AllZip (IsPairOf es) (pairs_of d) t.subsorts)
          sorts b.subsorts);
    }
