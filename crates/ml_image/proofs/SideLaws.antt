-- The sides of facts, as the code reads them.
use Rattle.std.proofs.Common.{◌≡◌, ℕ, ◌+◌, ◌<◌, ◌≤◌, ◌^◌, List, [], ◌∷◌, ◌++◌, Option, Some, Result}
use Rattle.std.proofs.Common.{Ok, Err, IfOk, option_map, length, map, ap, refl, sym, ◌∙◌, subst}
use Rattle.std.proofs.Common.{arith, length-append}
use Rattle.std.proofs.lemmas.Option.{slice_get_within}
use Rattle.ml_pat.specs.Patterns.{Pattern as LogicPattern}
use Rattle.ml_pat.specs.Patterns as logic
use Rattle.term_core.specs.Patterns.{Pattern, Patterns, variable, application, injection}
use Rattle.term_core.specs.RulePatterns.{sort_numbers}
use Rattle.term_core.specs.declared.ids.SortId.{SortId}
use Rattle.rule_core.specs.Subsorts.{IsBelow}
use Rattle.rule_core.specs.Sorting.{IsSymbol, AreSorts}
use Rattle.rule_core.specs.declared.signature.Signature.{Signature}
use Rattle.rule_core.specs.declared.signature.SortRef.{SortRef}
use Rattle.rule_core.specs.declared.signature.SymInfo.{SymInfo}
use Rattle.ml_image.specs.Images.{both, image_of, injection_image}
use Rattle.ml_image.specs.Sentences.{Sentence, term, not, implies, equals, for_all}
use Rattle.ml_image.specs.Sentences.{IsImageOf}
use Rattle.ml_image.specs.OwnAxioms.{sort_numbered}
use Rattle.ml_image.specs.Sides.{Head, value, constructor, IsHead, head_sorts, head_pattern}
use Rattle.ml_image.specs.Sides.{AreApart, side_sorts}
use Rattle.ml_image.specs.SideSorts.{IsHeadPattern, HasHeadSorts, IsSidePattern, HasSideSorts}
use Rattle.ml_image.specs.TrueFacts.{SaysUnequal, SaysInjective}
use Rattle.ml_image.specs.HasImages.{HaveApartImages}
use Rattle.ml_image.specs.Closing.{Closes}
use Rattle.ml_image.specs.Gained.{HasGained}
use Rattle.ml_image.proofs.ListedLaws.{length-numbers}
use Rattle.ml_image.proofs.NamingLaws.{gained-sentence}
use Rattle.ml_image.proofs.SentenceLaws.{closed_image}
use Rattle.ml_image.proofs.ConstructorLaws.{read_sorts}

-- ---- heads

head_within : (sig : Signature) (f sort k : ℕ) (ps : Patterns) (h : Head) → IsHead sig sort h
    → application f ps ≡ head_pattern sort k h → f < length sig.symbols
head_within sig f sort k ps (value v) is e = absurd (cc)
head_within sig f sort k ps (constructor g sorts) (info, constructs, no_ac) e =
    let same : g ≡ f = cc in
    subst (λ (n : ℕ). n < length sig.symbols) same
    (slice_get_within sig.symbols g _ constructs.0.there.1)

-- the symbol of a head is a symbol of the signature
pub symbol_within : (sig : Signature) (p : Pattern) (f : ℕ) (ps : Patterns) → IsHeadPattern sig p
    → p ≡ application f ps → f < length sig.symbols
symbol_within sig p f ps (sort, k, h, is, e) read =
    head_within sig f sort k ps h is (sym read ∙ e)

head_takes : (sig : Signature) (f sort k : ℕ) (info : SymInfo) (listed : List ℕ) (ps : Patterns)
    (h : Head) → IsSymbol sig f info → info.args.items ≡ map sort_numbered listed → IsHead sig sort h
    → application f ps ≡ head_pattern sort k h → listed ≡ head_sorts h
head_takes sig f sort k info listed ps (value v) there takes is e = absurd (cc)
head_takes sig f sort k info listed ps (constructor g sorts) there takes (other, constructs, no_ac)
    e =
    let same : f ≡ g = cc in
    sym (read_sorts sig g other info sorts listed sort constructs.0
    (subst (λ (n : ℕ). IsSymbol sig n info) same there) takes)

-- the sorts of its arguments are those that its declaration lists
pub symbol_takes : {T E : Type 0} (items : T → List SortId) (sig : Signature) (p : Pattern) (f : ℕ)
    (ps : Patterns) (info : SymInfo) (refs : List SortRef) (result : Result T E)
    → p ≡ application f ps → IsSymbol sig f info → refs ≡ info.args.items
    → IfOk result (λ v. refs ≡ map sort_numbered (sort_numbers (items v)))
    → IfOk result (λ v. HasHeadSorts sig p (sort_numbers (items v)))
symbol_takes items sig p f ps info refs (Ok v) read there listed takes =
    λ sort k h is e. head_takes sig f sort k info (sort_numbers (items v)) ps h there
    (sym listed ∙ takes) is (sym read ∙ e)
symbol_takes items sig p f ps info refs (Err e) read there listed takes = tt

-- ---- two sides

pub first_side : (sig : Signature) (p q : Pattern) → HaveApartImages sig p q → IsSidePattern sig p
first_side sig p q h = (h.apart.sort, 0, h.apart.one, h.apart.is_one, h.apart.first)

pub second_side : (sig : Signature) (p q : Pattern) → HaveApartImages sig p q → IsSidePattern sig q
second_side sig p q h =
    (h.apart.sort, length (side_sorts h.apart.one), h.apart.other, h.apart.is_other, h.apart.second)

-- the sorts that were read are those of the variables
both_sorts : (sig : Signature) (p q : Pattern) (sorts ss os : List ℕ) → AreApart sig p q sorts
    → HasSideSorts sig p ss → HasSideSorts sig q os → sorts ≡ ss ++ os
both_sorts sig p q sorts ss os h first second =
    h.sorts_are
    ∙ ap (λ (xs : List ℕ). xs ++ side_sorts h.other)
    (sym (first h.sort 0 h.one h.is_one h.first))
    ∙ ap (λ (xs : List ℕ). ss ++ xs)
    (sym (second h.sort (length (side_sorts h.one)) h.other h.is_other h.second))

AreSorts-first : (sig : Signature) (xs ys : List ℕ) → AreSorts sig (xs ++ ys) → AreSorts sig xs
AreSorts-first sig [] ys h = tt
AreSorts-first sig (x ∷ xs) ys h = (h.0, AreSorts-first sig xs ys h.1)

AreSorts-second : (sig : Signature) (xs ys : List ℕ) → AreSorts sig (xs ++ ys) → AreSorts sig ys
AreSorts-second sig [] ys h = h
AreSorts-second sig (x ∷ xs) ys h = AreSorts-second sig xs ys h.1

pub first_sorts : (sig : Signature) (p q : Pattern) (ss os : List ℕ) → HaveApartImages sig p q
    → HasSideSorts sig p ss → HasSideSorts sig q os → AreSorts sig ss
first_sorts sig p q ss os h first second =
    AreSorts-first sig ss os
    (subst (AreSorts sig) (both_sorts sig p q h.sorts ss os h.apart first second) h.are_sorts)

pub second_sorts : (sig : Signature) (p q : Pattern) (ss os : List ℕ) → HaveApartImages sig p q
    → HasSideSorts sig p ss → HasSideSorts sig q os → AreSorts sig os
second_sorts sig p q ss os h first second =
    AreSorts-second sig ss os
    (subst (AreSorts sig) (both_sorts sig p q h.sorts ss os h.apart first second) h.are_sorts)

pub few_variables : (sig : Signature) (p q : Pattern) (ss os : List SortId)
    → HaveApartImages sig p q → HasSideSorts sig p (sort_numbers ss)
    → HasSideSorts sig q (sort_numbers os) → length ss + length os ≤ 2 ^ 32
few_variables sig p q ss os h first second =
    let same : h.sorts ≡ sort_numbers ss ++ sort_numbers os =
    both_sorts sig p q h.sorts (sort_numbers ss) (sort_numbers os) h.apart first second in
    omega (
      arith,
      h.few,
      ap length same,
      length-append (sort_numbers ss) (sort_numbers os),
      length-numbers ss,
      length-numbers os,
    )

-- ---- closed facts

pub unequal_closes : {E : Type 0} (sig : Signature) (n1 n2 n3 : List (List ℕ)) (p q : Pattern)
    (ss os : List ℕ) (first second same body : LogicPattern) (result : Result LogicPattern E)
    → HaveApartImages sig p q → HasSideSorts sig p ss → HasSideSorts sig q os
    → HasGained sig n1 n2 → image_of sig n1 p ≡ Some first → image_of sig n2 q ≡ Some second
    → same ≡ logic.equal first second → body ≡ logic.not same
    → IfOk result (Closes sig n2 n3 (ss ++ os) body)
    → IfOk result (IsImageOf sig n3 (SaysUnequal sig p q))
unequal_closes sig n1 n2 n3 p q ss os first second same body result h one other gained is_first
    is_second is_same is_body closes =
    closed_image sig n2 n3 (ss ++ os) body (SaysUnequal sig p q) (not (equals (term p) (term q)))
    result
    (record {
      sorts = h.sorts;
      apart = h.apart;
      says =
          ap (λ (sorts : List ℕ). for_all 0 sorts (not (equals (term p) (term q))))
          (sym (both_sorts sig p q h.sorts ss os h.apart one other));
    })
    (ap (λ (o : Option LogicPattern).
    option_map logic.not (both logic.equal o (image_of sig n2 q)))
    (gained-sentence sig n1 n2 (term p) gained first is_first)
    ∙ ap (λ (o : Option LogicPattern).
    option_map logic.not (both logic.equal (Some first) o)) is_second
    ∙ ap (λ (r : LogicPattern). Some (logic.not r)) (sym is_same)
    ∙ ap (λ (r : LogicPattern). Some r) (sym is_body)) closes

pub injective_closes : {E : Type 0} (sig : Signature) (n1 n2 : List (List ℕ)) (a b : ℕ)
    (head one other body : LogicPattern) (result : Result LogicPattern E)
    → IsBelow sig.subsorts a b → injection_image sig n1 a b ≡ Some head → one ≡ logic.var 0
    → other ≡ logic.var 1
    → body ≡ logic.imp (logic.equal (logic.app head one) (logic.app head other))
    (logic.equal one other)
    → IfOk result (Closes sig n1 n2 (a ∷ a ∷ []) body)
    → IfOk result (IsImageOf sig n2 (SaysInjective sig a b))
injective_closes sig n1 n2 a b head one other body result lower is_head is_one is_other is_body
    closes =
    let s : Sentence =
    implies (equals (term (injection a b (variable 0))) (term (injection a b (variable 1))))
    (equals (term (variable 0)) (term (variable 1))) in
    closed_image sig n1 n2 (a ∷ a ∷ []) body (SaysInjective sig a b) s result
    (record { lower = lower; says = refl })
    (ap (λ (o : Option LogicPattern). both logic.imp
    (both logic.equal (both logic.app o (Some (logic.var 0))) (both logic.app o (Some (logic.var 1))))
    (Some (logic.equal (logic.var 0) (logic.var 1)))) is_head
    ∙ ap (λ (x : LogicPattern). Some (logic.imp
    (logic.equal (logic.app head x) (logic.app head (logic.var 1)))
    (logic.equal x (logic.var 1)))) (sym is_one)
    ∙ ap (λ (x : LogicPattern). Some (logic.imp
    (logic.equal (logic.app head one) (logic.app head x)) (logic.equal one x))) (sym is_other)
    ∙ ap (λ (r : LogicPattern). Some r) (sym is_body)) closes
