-- Constructors at variables, and what their declarations say.
use Rattle.std.proofs.Common.{◌≡◌, ◌≢◌, ◌↔◌, ℕ, ◌+◌, zero, suc, List, length}
use Rattle.std.proofs.Common.{map, Option, Some, None, refl, sym, ◌∙◌, ap, subst}
use Rattle.std.proofs.Common.{arith, Bool, false, option_map, MatchOption, is_some, IsTrue}
use Rattle.std.proofs.lemmas.Bool.{false≢true}
use Rattle.ml_pat.specs.Patterns.{Pattern, app, nullary, unary, binary, sorted, quantified, var}
use Rattle.ml_pat.specs.Patterns.{meta, constant, Imp, And, Or, Equal, Member, App}
use Rattle.ml_image.specs.Counted.{at_variables}
use Rattle.ml_image.proofs.ClosingLaws.{at_variables-push}
use Rattle.ml_image.proofs.ImageLaws.{none_some, some_same}
use Rattle.ml_image.specs.Images.{image_of, applied, symbol_image}
use Rattle.ml_image.specs.Sides.{numbered}
use Rattle.ml_image.specs.Tokens.{number_in_names, token_of_symbol}
use Rattle.rule_core.specs.Sorting.{IsSymbol}
use Rattle.rule_core.specs.declared.signature.Signature.{Signature}
use Rattle.rule_core.specs.declared.signature.SortRef.TheVariants.{Sort}
use Rattle.rule_core.specs.declared.signature.SymInfo.{SymInfo}
use Rattle.rule_core.specs.declared.signature.SymKind.TheVariants.{Ctor}
use Rattle.term_core.specs.declared.ids.SortId.{SortId}
use Rattle.ml_image.specs.OwnAxioms.{sort_numbered}
use Rattle.ml_image.proofs.SentenceLaws.{one_symbol}
use Rattle.ml_image.proofs.ConstructorLaws.{one_sort}
use Rattle.term_core.specs.Patterns.{application}
use Rattle.true_facts.specs.Only.{IsOnly}
use Rattle.true_facts.specs.Constructors.{applied_head, IsDeclared, IsMade}
use Rattle.true_facts.proofs.OnlyLaws.{only_some, pair_same}

-- what is applied to nothing is its own head
pub applied_head-same : (p : Pattern) → ((q r : Pattern) → p ≢ app q r) → applied_head p ≡ p
applied_head-same (binary Imp p q) none = refl
applied_head-same (binary And p q) none = refl
applied_head-same (binary Or p q) none = refl
applied_head-same (binary Equal p q) none = refl
applied_head-same (binary Member p q) none = refl
applied_head-same (binary App p q) none = absurd (none p q refl)
applied_head-same (nullary c) none = refl
applied_head-same (unary c p) none = refl
applied_head-same (sorted c p s) none = refl
applied_head-same (quantified c x s p) none = refl
applied_head-same (var x) none = refl
applied_head-same (meta i) none = refl
applied_head-same (constant c) none = refl

pub applied_head-variables : (p : Pattern) (k n : ℕ)
    → applied_head (at_variables p k n) ≡ applied_head p
applied_head-variables p k zero = refl
applied_head-variables p k (suc n) = applied_head-variables (app p (var k)) (k + 1) n

-- the last of several variables is the outermost argument
pub variables-last : (c k n i : ℕ) → n ≡ i + 1
    → at_variables (constant c) k n ≡ app (at_variables (constant c) k i) (var (k + i))
variables-last c k n i is =
    let more : n ≡ suc i = omega arith in
    ap (at_variables (constant c) k) more ∙ at_variables-push i k (constant c)

-- one argument further inside
pub variables-next : (p head inner arg : Pattern) (c k m n i : ℕ) → n ≡ i + 1
    → head ≡ app inner arg → arg ≡ var (k + i)
    → (p ≡ at_variables (constant c) k m) ↔ (head ≡ at_variables (constant c) k n)
    → (p ≡ at_variables (constant c) k m) ↔ (inner ≡ at_variables (constant c) k i)
variables-next p head inner arg c k m n i is applied last before = (
  λ h.
      let whole : app inner arg ≡ app (at_variables (constant c) k i) (var (k + i)) =
      sym applied ∙ before.0 h ∙ variables-last c k n i is in cc,
  λ h.
      before.1 (applied ∙ ap (λ (q : Pattern). app q arg) h
      ∙ ap (λ (x : Pattern). app (at_variables (constant c) k i) x) last
      ∙ sym (variables-last c k n i is)),
)

-- the outermost of several applications
pub no_application : (head : Pattern) (c k n i : ℕ) → n ≡ i + 1
    → ((q r : Pattern) → head ≢ app q r) → head ≡ at_variables (constant c) k n → ⊥
no_application head c k n i is none h =
    none (at_variables (constant c) k i) (var (k + i)) (h ∙ variables-last c k n i is)

pub other_argument : (head inner arg : Pattern) (c k n i : ℕ) → n ≡ i + 1 → head ≡ app inner arg
    → arg ≢ var (k + i) → head ≡ at_variables (constant c) k n → ⊥
other_argument head inner arg c k n i is applied other h =
    let whole : app inner arg ≡ app (at_variables (constant c) k i) (var (k + i)) =
    sym applied ∙ h ∙ variables-last c k n i is in
    let same : arg ≡ var (k + i) = cc in
    other same

-- whether the pattern is a constant
pub constant_test : {A : Type 0} (number : A → ℕ) (o : Option A) (p : Pattern) (b : Bool)
    → MatchOption o ((c : ℕ) → p ≢ constant c) (λ a. p ≡ constant (number a)) → b ≡ is_some o
    → IsTrue b ↔ ((c : ℕ) × (p ≡ constant c))
constant_test number None p b is test =
    (λ t. absurd (false≢true (sym test ∙ t)), λ h. absurd (is h.0 h.1))
constant_test number (Some a) p b is test = (λ t. (number a, is), λ h. test)

-- ---- images

applied-variables : (sig : Signature) (names : List (List ℕ)) (head : Pattern) (k n : ℕ)
    → applied sig names (Some head) (numbered k n) ≡ Some (at_variables head k n)
applied-variables sig names head k zero = refl
applied-variables sig names head k (suc n) =
    applied-variables sig names (app head (var k)) (k + 1) n

applied-nothing : (sig : Signature) (names : List (List ℕ)) (k n : ℕ)
    → applied sig names None (numbered k n) ≡ None
applied-nothing sig names k zero = refl
applied-nothing sig names k (suc n) = applied-nothing sig names (k + 1) n

pub made_image : (sig : Signature) (names : List (List ℕ)) (f k n : ℕ) (head : Pattern)
    → symbol_image sig names f ≡ Some head
    → image_of sig names (application f (numbered k n)) ≡ Some (at_variables head k n)
made_image sig names f k n head is =
    ap (λ (o : Option Pattern). applied sig names o (numbered k n)) is
    ∙ applied-variables sig names head k n

pub image_made : (sig : Signature) (names : List (List ℕ)) (f k n : ℕ) (p : Pattern)
    → image_of sig names (application f (numbered k n)) ≡ Some p
    → (c : ℕ) × (symbol_image sig names f ≡ Some (constant c))
    × (p ≡ at_variables (constant c) k n)
image_made sig names f k n p h = by_number (number_in_names names (token_of_symbol sig f)) refl
  where
    by_number : (o : Option ℕ) → number_in_names names (token_of_symbol sig f) ≡ o
        → (c : ℕ) × (symbol_image sig names f ≡ Some (constant c))
        × (p ≡ at_variables (constant c) k n)
    by_number None e =
        let none : symbol_image sig names f ≡ None =
        ap (λ (o : Option ℕ). option_map constant o) e in
        absurd (none_some p (sym (ap (λ (o : Option Pattern). applied sig names o (numbered k n))
        none ∙ applied-nothing sig names k n) ∙ h))
    by_number (Some c) e =
        let some : symbol_image sig names f ≡ Some (constant c) =
        ap (λ (o : Option ℕ). option_map constant o) e in (
          c,
          some,
          some_same p (at_variables (constant c) k n)
              (sym h ∙ made_image sig names f k n (constant c) some),
        )

-- ---- what is read of a constructor

pub record HasParts (sig : Signature) (p : Pattern) (k : ℕ) (o : Option ℕ)
    (m : ℕ × (ℕ × List ℕ)) : Type 0 where
  pub symbol : o ≡ Some m.0
  pub declared : IsDeclared sig m.0 m.1
  pub constant_number : ℕ
  pub spelled : p ≡ at_variables (constant constant_number) k (length m.1.1)

pub no_head : (sig : Signature) (names : List (List ℕ)) (p : Pattern) (k : ℕ)
    (m : ℕ × (ℕ × List ℕ)) → ((c : ℕ) → applied_head p ≢ constant c) → IsMade sig names p k m → ⊥
no_head sig names p k m none (declared, image) =
    let made = image_made sig names m.0 k (length m.1.1) p image in
    none made.0 (ap applied_head made.2 ∙ applied_head-variables (constant made.0) k (length m.1.1))

pub parts : (sig : Signature) (names : List (List ℕ)) (p : Pattern) (k n : ℕ) (o : Option ℕ)
    (m : ℕ × (ℕ × List ℕ)) → applied_head p ≡ constant n
    → IsOnly (λ f. symbol_image sig names f ≡ Some (constant n)) o → IsMade sig names p k m
    → HasParts sig p k o m
parts sig names p k n o m head one (declared, image) =
    let made = image_made sig names m.0 k (length m.1.1) p image in
    let same : constant n ≡ constant made.0 =
    sym head ∙ ap applied_head made.2
    ∙ applied_head-variables (constant made.0) k (length m.1.1) in
    record {
      symbol =
          (one m.0).0 (made.1 ∙ ap (λ (q : Pattern). Some q) (sym same));
      declared = declared;
      constant_number = made.0;
      spelled = made.2;
    }

pub no_declaration : (sig : Signature) (p : Pattern) (k f : ℕ) (m : ℕ × (ℕ × List ℕ))
    (d : Option (ℕ × List ℕ)) → HasParts sig p k (Some f) m → IsOnly (IsDeclared sig f) d
    → d ≡ Some m.1
no_declaration sig p k f m d h one =
    let same : m.0 ≡ f = some_same m.0 f (sym h.symbol) in
    (one m.1).0 (subst (λ (g : ℕ). IsDeclared sig g m.1) same h.declared)

pub constructor_is : (sig : Signature) (names : List (List ℕ)) (p : Pattern) (k n f : ℕ)
    (d : ℕ × List ℕ) → applied_head p ≡ constant n
    → IsOnly (λ g. symbol_image sig names g ≡ Some (constant n)) (Some f)
    → IsOnly (IsDeclared sig f) (Some d)
    → (c : ℕ) × (p ≡ at_variables (constant c) k (length d.1))
    → IsOnly (IsMade sig names p k) (Some (f, d))
constructor_is sig names p k n f d head symbol declared (c, spelled) =
    let same : constant n ≡ constant c =
    sym head ∙ ap applied_head spelled ∙ applied_head-variables (constant c) k (length d.1) in
    let image : symbol_image sig names f ≡ Some (constant c) =
    (symbol f).1 refl ∙ ap (λ (q : Pattern). Some q) same in
    only_some (IsMade sig names p k) (f, d) (
      (declared d).1 refl,
      made_image sig names f k (length d.1) (constant c) image
          ∙ ap (λ (q : Pattern). Some q) (sym spelled),
    )
    (λ m h.
    let h' : HasParts sig p k (Some f) m = parts sig names p k n (Some f) m head symbol h in
    let first : f ≡ m.0 = some_same f m.0 h'.symbol in
    let second : d ≡ m.1 =
    some_same d m.1 (no_declaration sig p k f m (Some d) h' declared) in
    pair_same f m.0 d m.1 first second)

-- ---- declarations

pub declaration_is : (sig : Signature) (f : ℕ) (info : SymInfo) (sort : SortId) (sorts : List ℕ)
    → IsSymbol sig f info → info.kind ≡ Ctor → info.ac ≡ false → info.result ≡ Sort sort
    → IsOnly (λ ss. info.args.items ≡ map sort_numbered ss) (Some sorts)
    → IsOnly (IsDeclared sig f) (Some (sort.0, sorts))
declaration_is sig f info sort sorts there kind plain result args =
    only_some (IsDeclared sig f) (sort.0, sorts)
    (info, (record { there = there; takes = (args sorts).1 refl; makes = result }, kind), plain)
    (λ d h.
    let same : h.0 ≡ info = one_symbol sig f h.0 info h.1.0.there there in
    let sort_same : sort.0 ≡ d.0 =
    one_sort sort.0 d.0 (sym result ∙ ap (λ (i : SymInfo). i.result) (sym same) ∙ h.1.0.makes) in
    let sorts_same : sorts ≡ d.1 =
    some_same sorts d.1
    ((args d.1).0 (ap (λ (i : SymInfo). i.args.items) (sym same) ∙ h.1.0.takes)) in
    pair_same sort.0 d.0 sorts d.1 sort_same sorts_same)
