-- The setting of a rule: its variables, counted down, and its condition.
use Rattle.std.proofs.Common.{◌≡◌, ◌≢◌, ◌⊎◌, inl, inr, ◌<◌, ◌≤◌, ◌+◌, ℕ, zero, suc, List, [], ◌∷◌}
use Rattle.std.proofs.Common.{◌++◌, Option, Some, None, option_map, take, get_or, length, refl}
use Rattle.std.proofs.Common.{sym, ◌∙◌, ap, subst, arith}
use Rattle.std.specs.Prelude.{true, All, Contains}
use Rattle.std.proofs.lemmas.List.{take_more, map-append}
use Rattle.ml_pat.specs.Patterns.{Pattern as LogicPattern}
use Rattle.ml_pat.specs.Patterns as logic
use Rattle.term_core.specs.Terms.{truth}
use Rattle.term_core.specs.Patterns.{Pattern, Patterns, variable, domain_value, application}
use Rattle.term_core.specs.Patterns.{injection, call}
use Rattle.term_core.specs.RulePatterns.{sort_numbers}
use Rattle.term_core.specs.declared.ids.SortId.{SortId}
use Rattle.rule_core.specs.NamedParts.{Name}
use Rattle.rule_core.specs.ProgramView.{sorts_of}
use Rattle.rule_core.specs.Sorting.{AreSorts, HasSort, HasValue, IsSymbol, IsValueOf, sort_at}
use Rattle.rule_core.specs.WellSorted.{IsCondition, IsSignature}
use Rattle.rule_core.specs.declared.rules.Program.{Program}
use Rattle.rule_core.specs.declared.rules.VarInfo.{VarInfo}
use Rattle.rule_core.specs.declared.signature.Signature.{Signature}
use Rattle.rule_core.specs.declared.signature.SortKind.{SortKind}
use Rattle.rule_core.specs.declared.signature.SymInfo.{SymInfo}
use Rattle.rule_core.proofs.Bindings.{same_or_other}
use Rattle.ml_image.specs.ConditionLaws.{SortedHasImage}
use Rattle.ml_image.specs.HasImages.{IsTruth}
use Rattle.ml_image.specs.Images.{both, image_of}
use Rattle.ml_image.specs.Premises.{condition_sentence, is_true, made_sort, sort_of}
use Rattle.ml_image.specs.Sentences.{Sentence, sentence_image, term, top}
use Rattle.prove_term.specs.Contexts.{Context, HasGrown}
use Rattle.prove_term.proofs.ContextLaws.{image_grown}
use Rattle.stuck_prove.specs.Settings.{down_from}

-- ---- the sorts of variables

pub are_sorts : (sig : Signature) (ss : List ℕ) → All (λ s. s < length sig.sorts) ss
    → AreSorts sig ss
are_sorts sig [] all = tt
are_sorts sig (s ∷ ss) all =
    (all 0 0 (omega arith), are_sorts sig ss (λ k d low. all (suc k) d (omega (arith, low))))

-- the sorts of one variable more
pub one_more_sort : (vars : List VarInfo) (sorts : List SortId) (i : ℕ) (v : VarInfo)
    → i < length vars → v ≡ get_or vars i v → sort_numbers sorts ≡ sorts_of (take i vars)
    → sort_numbers (sorts ++ v.sort ∷ []) ≡ sorts_of (take (i + 1) vars)
one_more_sort vars sorts i v low is before =
    map-append (λ (s : SortId). s.0) sorts (v.sort ∷ [])
    ∙ ap (λ (ss : List ℕ). ss ++ v.sort.0 ∷ []) before
    ∙ sym (map-append (λ (w : VarInfo). w.sort.0) (take i vars) (v ∷ []))
    ∙ ap sorts_of (ap (λ (w : VarInfo). take i vars ++ w ∷ []) is ∙ sym (take_more vars i v low))

-- ---- variables, counted down

-- the last n variables of those from number i on, the last one first
abbrev pub down_to : ℕ → ℕ → List ℕ
down_to zero i = []
down_to (suc n) i = (n + i) ∷ down_to n i

pub down_all : (n : ℕ) → down_to n 0 ≡ down_from n
down_all zero = refl
down_all (suc n) =
    let same : n + 0 ≡ n = omega arith in
    ap (λ (x : ℕ). x ∷ down_to n 0) same ∙ ap (λ (xs : List ℕ). n ∷ xs) (down_all n)

pub down_more : (n i : ℕ) → down_to (n + 1) i ≡ down_to n (i + 1) ++ i ∷ []
down_more zero i = let same : 0 + i ≡ i = omega arith in ap (λ (x : ℕ). x ∷ []) same
down_more (suc n) i =
    let same : n + 1 + i ≡ n + (i + 1) = omega arith in
    let further : suc n + 1 ≡ suc (n + 1) = omega arith in
    ap (λ (m : ℕ). down_to m i) further
    ∙ ap (λ (x : ℕ). x ∷ down_to (n + 1) i) same
    ∙ ap (λ (xs : List ℕ). (n + (i + 1)) ∷ xs) (down_more n i)

pub down_low : (n m : ℕ) → n ≤ m → All (λ x. x < m) (down_from n)
down_low zero m within i d lt = absurd (omega (arith, lt))
down_low (suc n) m within zero d lt = omega (arith, within)
down_low (suc n) m within (suc i) d lt =
    down_low n m (omega (arith, within)) i d (omega (arith, lt))

pub down_there : (n x : ℕ) → x < n → Contains (down_from n) x
down_there zero x low = absurd (omega (arith, low))
down_there (suc n) x low = there (same_or_other x n) (λ less. down_there n x less)
  where
    there : (x ≡ n) ⊎ (x ≢ n) → (x < n → Contains (down_from n) x)
        → Contains (down_from (suc n)) x
    there (inl same) below = (0, omega arith, sym same)
    there (inr other) below =
        let w : Contains (down_from n) x = below (grind (arith, low, other)) in
        (suc w.0, omega (arith, w.1), w.2)

-- ---- the condition

made_there : (sig : Signature) (f : ℕ) (info : SymInfo) (sorts : List ℕ) → IsSymbol sig f info
    → made_sort sig f sorts ≡ sort_at sorts info.result
made_there sig f info sorts there = rw there.1 refl

sort_of_sorted : (sig : Signature) (vars : List ℕ) (p : Pattern) (sort : ℕ)
    → HasSort sig vars p sort → sort_of sig vars p ≡ Some sort
sort_of_sorted sig vars (variable x) sort h = h
sort_of_sorted sig vars (domain_value s v) sort h = ap (λ (n : ℕ). Some n) h.0
sort_of_sorted sig vars (application f ps) sort h = made_there sig f h.0 [] h.1 ∙ h.3
sort_of_sorted sig vars (injection a b p) sort h = ap (λ (n : ℕ). Some n) h.1
sort_of_sorted sig vars (call f ss ps) sort h = made_there sig f h.0 ss h.1 ∙ h.5

-- the condition has an image, and its sort has the value `true`
pub condition_truth : (sig : Signature) (vars : List ℕ) (ps : Patterns) (names : List Name)
    (p : Pattern) → SortedHasImage → IsSignature sig → IsCondition sig vars ps names p
    → IsTruth sig vars p
condition_truth sig vars ps names p law ok (sort, name, info, there, kind, sorted, only) = record {
  image = law sig vars p sort ok sorted;
  sort = sort;
  sorted = sort_of_sorted sig vars p sort sorted;
  truths = (name, info, there, subst (λ (k : SortKind). IsValueOf k (truth true)) (sym kind) tt);
}

-- the sentence of a condition, with its image
abbrev pub HasCondition : Context → List ℕ → Option Pattern → LogicPattern → Type 0
HasCondition cx sorts o p =
    (c : Sentence) × (condition_sentence cx.program.sig sorts o ≡ Some c)
    × (sentence_image cx.program.sig cx.names c ≡ Some p)

pub condition_said : (old a b : Context) (sorts : List ℕ) (o : Option Pattern) (q : Pattern) (s : ℕ)
    (held value p : LogicPattern) → HasGrown old b → HasGrown a b → o ≡ Some q
    → sort_of old.program.sig sorts q ≡ Some s
    → image_of a.program.sig a.names q ≡ Some held
    → image_of b.program.sig b.names (domain_value s (truth true)) ≡ Some value
    → p ≡ logic.equal held value → HasCondition b sorts o p
condition_said old a b sorts o q s held value p first grown is sort is_held is_value made = (
  is_true q s,
  ap (condition_sentence b.program.sig sorts) is
      ∙ ap (option_map (is_true q))
      (ap (λ (program : Program). sort_of program.sig sorts q) first.program ∙ sort),
  ap (λ (r : Option LogicPattern). both logic.equal r
      (image_of b.program.sig b.names (domain_value s (truth true))))
      (image_grown a b (term q) held grown is_held)
      ∙ ap (both logic.equal (Some held)) is_value
      ∙ ap (λ (r : LogicPattern). Some r) (sym made),
)

pub condition_grown : (a b : Context) (sorts : List ℕ) (o : Option Pattern) (p : LogicPattern)
    → HasGrown a b → HasCondition a sorts o p → HasCondition b sorts o p
condition_grown a b sorts o p grown (c, is, image) = (
  c,
  ap (λ (program : Program). condition_sentence program.sig sorts o) grown.program ∙ is,
  image_grown a b c p grown image,
)

pub no_condition : (cx : Context) (sorts : List ℕ) (o : Option Pattern) (p : LogicPattern)
    → o ≡ None → p ≡ logic.top → HasCondition cx sorts o p
no_condition cx sorts o p none made = (
  top,
  ap (condition_sentence cx.program.sig sorts) none,
  ap (λ (r : LogicPattern). Some r) (sym made),
)

-- the sort that was found has the value `true`
pub same_sort : (sig : Signature) (vars : List ℕ) (p : Pattern) (s : ℕ) → IsTruth sig vars p
    → sort_of sig vars p ≡ Some s → HasValue sig s (truth true)
same_sort sig vars p s is found =
    subst (λ (n : ℕ). HasValue sig n (truth true)) (one is.sort s (sym is.sorted ∙ found)) is.truths
  where
    one : (n m : ℕ) → Some n ≡ Some m → n ≡ m
    one n m e = cc
