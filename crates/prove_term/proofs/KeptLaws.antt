-- What is kept of rules, values and constructors stays right when a context grows.
use Rattle.std.proofs.Common.{◌≡◌, ℕ, List, [], ◌∷◌, Some, option_map, map, inl, get_or, sym, ◌∙◌}
use Rattle.std.proofs.Common.{ap, subst, slice_get, arith, length, length-append, ◌<◌}
use Rattle.std.specs.Prelude.{IfSome, Contains}
use Rattle.std.specs.BTreeMap as tree
use Rattle.std.specs.BTreeMap.{BTreeMap}
use Rattle.std.specs.Ordering.{nat_cmp}
use Rattle.std.proofs.lemmas.Option.{IfSome_then, slice_get-map, get_or_from_slice_get}
use Rattle.ml_pat.specs.Patterns.{Pattern, constant, fun}
use Rattle.ml_kernel.specs.declared.derivations.AxiomNo.{AxiomNo}
use Rattle.rule_core.specs.declared.rules.Program.{Program}
use Rattle.rule_core.specs.declared.rules.Rule.{Rule}
use Rattle.rule_core.specs.ProgramView.{rewrite_rule, theory_of}
use Rattle.ml_image.specs.Tokens.{token_of_sort}
use Rattle.ml_image.specs.Images.{sort_image, symbol_image}
use Rattle.ml_image.specs.Sentences.{IsImageOf}
use Rattle.ml_image.specs.OwnAxioms.{SaysRule, IsConstructor, of_rule}
use Rattle.ml_image.proofs.ImageLaws.{numbered-keeps, gained-symbol}
use Rattle.prove_term.specs.Contexts.{Context, HasGrown}
use Rattle.ml_image.specs.Assumed.{IsAssumed}
use Rattle.prove_term.specs.RuleAxioms.{SaysRuleAt}
use Rattle.prove_term.specs.Stated.{IsRuleAxiom}
use Rattle.prove_term.specs.ValueAxioms.{IsValueAxiom}
use Rattle.prove_term.specs.Numbered.{AreSortImages}
use Rattle.prove_term.specs.Constructing.{IsConstructorAt, SaysTotality}
use Rattle.prove_term.specs.Numbered.{HasNumbers, IsNumbered}
use Rattle.prove_term.specs.declared.context.ValueAxiom.{ValueAxiom}
use Rattle.prove_term.proofs.ContextLaws.{image_grown, axiom_grown, lemma_there_grown}
use Rattle.prove_term.proofs.ContextLaws.{contains_there}

-- ---- rules

pub says_rule_grown : (a b : Context) (i : ℕ) (p : Pattern) → HasGrown a b → SaysRuleAt a i p
    → SaysRuleAt b i p
says_rule_grown a b i p g says = λ r there.
    let before : IsImageOf a.program.sig a.names (SaysRule a.program.sig (rewrite_rule r)) p =
    says r
    (subst (λ (program : Program). slice_get program.rules.items i ≡ Some r) g.program there) in (
      before.0,
      subst (λ (program : Program). SaysRule program.sig (rewrite_rule r) before.0)
          (sym g.program) before.1,
      image_grown a b before.0 p g before.2,
    )

pub rule_axiom_grown : (a b : Context) (i n : ℕ) → HasGrown a b → IsRuleAxiom a i n
    → IsRuleAxiom b i n
rule_axiom_grown a b i n g h = record {
  stated = h.stated;
  there = axiom_grown a b n h.stated g h.there;
  says = says_rule_grown a b i h.stated g h.says;
}

pub rules_grown : (a b : Context) (kept : BTreeMap ℕ AxiomNo) → HasGrown a b
    → ((i : ℕ) → IfSome (tree.get nat_cmp kept i) (λ no. IsRuleAxiom a i no.0)) → (i : ℕ)
    → IfSome (tree.get nat_cmp kept i) (λ no. IsRuleAxiom b i no.0)
rules_grown a b kept g h =
    λ i. IfSome_then (tree.get nat_cmp kept i) (h i) (λ no is. rule_axiom_grown a b i no.0 g is)

-- ---- axioms that are stated once

pub stated_grown : (a b : Context) (kept : BTreeMap ℕ AxiomNo) → HasGrown a b
    → ((i : ℕ) → IfSome (tree.get nat_cmp kept i) (λ no. no.0 < length a.axioms)) → (i : ℕ)
    → IfSome (tree.get nat_cmp kept i) (λ no. no.0 < length b.axioms)
stated_grown a b kept g h =
    λ i. IfSome_then (tree.get nat_cmp kept i) (h i)
    (λ no low. omega (
      arith,
      low,
      ap (λ (ps : List Pattern). length ps) g.more_axioms,
      length-append a.axioms g.axioms,
    ))

-- ---- values

pub values_grown : (a b : Context) (kept : BTreeMap ℕ ValueAxiom) → HasGrown a b
    → ((c : ℕ) → IfSome (tree.get nat_cmp kept c) (λ v. IsValueAxiom a c v.sort.0 v.no.0)) → (c : ℕ)
    → IfSome (tree.get nat_cmp kept c) (λ v. IsValueAxiom b c v.sort.0 v.no.0)
values_grown a b kept g h =
    λ c. IfSome_then (tree.get nat_cmp kept c) (h c)
    (λ v is. axiom_grown a b v.no.0 (fun (constant c) v.sort.0) g is)

-- ---- constructors

pub sort_grown : (a b : Context) (s n : ℕ) → HasGrown a b
    → sort_image a.program.sig a.names s ≡ Some n → sort_image b.program.sig b.names s ≡ Some n
sort_grown a b s n g h =
    subst (λ (program : Program). sort_image program.sig b.names s ≡ Some n) (sym g.program)
    (subst (λ (names : List (List ℕ)). sort_image a.program.sig names s ≡ Some n) (sym g.names.all)
    (numbered-keeps a.names g.names.gained (token_of_sort a.program.sig s) n h))

pub symbol_grown : (a b : Context) (f : ℕ) (p : Pattern) → HasGrown a b
    → symbol_image a.program.sig a.names f ≡ Some p → symbol_image b.program.sig b.names f ≡ Some p
symbol_grown a b f p g h =
    subst (λ (program : Program). symbol_image program.sig b.names f ≡ Some p) (sym g.program)
    (gained-symbol a.program.sig a.names b.names f g.names p h)

pub sorts_grown : (a b : Context) (ss ns : List ℕ) → HasGrown a b
    → AreSortImages a.program.sig a.names ss ns → AreSortImages b.program.sig b.names ss ns
sorts_grown a b [] [] g h = tt
sorts_grown a b [] (n ∷ ns) g h = absurd h
sorts_grown a b (s ∷ ss) [] g h = absurd h
sorts_grown a b (s ∷ ss) (n ∷ ns) g h = (sort_grown a b s n g h.0, sorts_grown a b ss ns g h.1)

pub numbers_grown : (a b : Context) (f : ℕ) (sorts : List ℕ) (sort : ℕ) → HasGrown a b
    → HasNumbers a.program.sig a.names f sorts sort → HasNumbers b.program.sig b.names f sorts sort
numbers_grown a b f sorts sort g h = record {
  head = h.head;
  is_head = symbol_grown a b f (constant h.head) g h.is_head;
  numbers = h.numbers;
  are_numbers = sorts_grown a b sorts h.numbers g h.are_numbers;
  number = h.number;
  is_number = sort_grown a b sort h.number g h.is_number;
}

pub numbered_grown : (a b : Context) (f : ℕ) → HasGrown a b → IsNumbered a.program.sig a.names f
    → IsNumbered b.program.sig b.names f
numbered_grown a b f g h = record {
  info = h.info;
  sorts = h.sorts;
  sort = h.sort;
  constructs =
      subst (λ (program : Program). IsConstructor program.sig f h.info h.sorts h.sort)
      (sym g.program) h.constructs;
  numbers = numbers_grown a b f h.sorts h.sort g h.numbers;
}

pub constructor_grown : (a b : Context) (f k : ℕ) → HasGrown a b → IsConstructorAt a f k
    → IsConstructorAt b f k
unfolding numbered_grown numbers_grown
constructor_grown a b f k g h = record {
  numbered = numbered_grown a b f g h.numbered;
  lemma = h.lemma;
  there = lemma_there_grown a b k h.lemma g h.there;
  says = h.says;
}

pub totality_grown : (a b : Context) (f : ℕ) (p : Pattern) → HasGrown a b → SaysTotality a f p
    → SaysTotality b f p
unfolding numbered_grown numbers_grown
totality_grown a b f p g h = record {
  numbered = numbered_grown a b f g h.numbered;
  few = h.few;
  says = h.says;
}

pub constructors_grown : (a b : Context) (kept : BTreeMap ℕ ℕ) → HasGrown a b
    → ((f : ℕ) → IfSome (tree.get nat_cmp kept f) (IsConstructorAt a f)) → (f : ℕ)
    → IfSome (tree.get nat_cmp kept f) (IsConstructorAt b f)
constructors_grown a b kept g h =
    λ f. IfSome_then (tree.get nat_cmp kept f) (h f) (λ k is. constructor_grown a b f k g is)

-- ---- what is assumed

contains_mapped : {A B : Type 0} (f : A → B) (xs : List A) (i : ℕ) (x : A) → slice_get xs i ≡ Some x
    → Contains (map f xs) (f x)
contains_mapped f xs i x there =
    contains_there (map f xs) i (f x) (slice_get-map f xs i ∙ ap (option_map f) there)

pub rule_assumed : (cx : Context) (i : ℕ) (r : Rule) (p : Pattern)
    → slice_get cx.program.rules.items i ≡ Some r → SaysRuleAt cx i p
    → IsImageOf cx.program.sig cx.names (IsAssumed (theory_of cx.program)) p
rule_assumed cx i r p there says =
    let image : IsImageOf cx.program.sig cx.names (SaysRule cx.program.sig (rewrite_rule r)) p =
    says r there in (
      image.0,
      inl (of_rule (rewrite_rule r)
          (contains_mapped rewrite_rule cx.program.rules.items i r there) image.1),
      image.2,
    )

-- ---- the rule at a place

pub rule_found : (rules : List Rule) (i : ℕ) (r found : Rule) → slice_get rules i ≡ Some r
    → get_or rules i found ≡ found → r ≡ found
rule_found rules i r found there is = sym (get_or_from_slice_get rules i r found there) ∙ is
