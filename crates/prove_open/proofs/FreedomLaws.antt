-- Axioms about two applications of constructors, and about two injections, at patterns with
-- variables.
use Rattle.std.proofs.Common.{◌≡◌, ◌+◌, ◌<◌, ℕ, zero, suc, Bool, true, false, List, [], ◌∷◌}
use Rattle.std.proofs.Common.{◌++◌, Option, Some, length, refl, sym, ◌∙◌, ap, subst, arith}
use Rattle.std.proofs.Common.{length-append}
use Rattle.ml_pat.specs.Patterns.{Pattern, app, and, equal, fun, imp, var, constant}
use Rattle.ml_kernel.specs.Theorems.{Theorem, conclusions}
use Rattle.ml_derived.specs.Scopes.{Scope, AreWithin, StaysWithin}
use Rattle.term_core.specs.Patterns.{Pattern as RulePattern, Patterns as RulePatterns, application}
use Rattle.term_core.specs.Patterns.{injection, no_pattern, more_patterns}
use Rattle.term_core.specs.PatternLists.{plain_patterns}
use Rattle.term_core.specs.declared.rule_patterns.RulePat.{RulePat}
use Rattle.rule_core.specs.AcSymbols.{IsAcFree}
use Rattle.rule_core.specs.Sorting.{HaveSorts, IsSymbol}
use Rattle.rule_core.specs.declared.signature.Signature.{Signature}
use Rattle.rule_core.specs.declared.signature.SymInfo.{SymInfo}
use Rattle.rule_core.specs.declared.signature.SymKind.TheVariants.{Ctor}
use Rattle.rule_core.specs.declared.signature.SortRef.{SortRef}
use Rattle.ml_image.specs.Images.{both, image_of}
use Rattle.ml_image.specs.Sentences.{Sentence, term, symbol, apply, sentence_image, apply_all}
use Rattle.ml_image.specs.Sentences.{conjunctions}
use Rattle.ml_image.specs.Sentences as says
use Rattle.prove_term.specs.Contexts.{Context, StaysIn}
use Rattle.prove_term.specs.Applications.{applied_to}
use Rattle.prove_term.specs.Schemas.{AreImages}
use Rattle.prove_term.specs.Numbered.{pairs_from, all_from, HasNumberedArguments}
use Rattle.prove_term.specs.Numbered.{inject}
use Rattle.prove_term.specs.OpenAxioms.{SaysFreeFrom, SaysInjectiveFrom, at_numbered}
use Rattle.prove_term.specs.OpenAxioms.{IsFreeConstructor}
use Rattle.prove_term.proofs.Instances.{conclusions-append}
use Rattle.prove_term.proofs.InjectionShapes.{injection_made}
use Rattle.prove_open.specs.Givens.{IsCovered, IsOverContext}
use Rattle.prove_open.specs.Under.{freedom, injectivity, terms}
use Rattle.prove_open.specs.Values.{at_values, values_from, given_from, paired, BindsFrom}
use Rattle.prove_open.specs.Values.{facts_under}
use Rattle.prove_open.specs.Instances.{IsForPatterns, HoldsOfPatterns}
use Rattle.prove_open.specs.Elements.{AreBothUnder, IsUnder, IsElementUnder, IsElementAt}
use Rattle.prove_open.specs.declared.givens.Given.{Given}
use Rattle.prove_open.proofs.ValueLaws.{all_open_joined, values_applied, values_pairs, given_front}
use Rattle.prove_open.proofs.ValueLaws.{given_back, value_here, value_later}
use Rattle.prove_open.proofs.CoverLaws.{HasImageAt, has_image, covered_below}
use Rattle.prove_open.proofs.ConstructingLaws.{AreArguments, arguments, arguments_image}
use Rattle.prove_open.proofs.ConstructingLaws.{binds_numbered, numbered_values}

some_same : {A : Type 0} (a b : A) → Some a ≡ Some b → a ≡ b
some_same a b e = cc

two_same : (f : Pattern → Pattern → Pattern) (p q r t : Pattern) → p ≡ r → q ≡ t → f p q ≡ f r t
two_same f p q r t e i = ap (λ (a : Pattern). f a q) e ∙ ap (f r) i

-- ---- both lists of arguments

pub facts_joined : (h : Pattern) (ps qs : List Pattern) (ms ns : List ℕ) → length ps ≡ length ms
    → facts_under h (ps ++ qs) (ms ++ ns) ≡ facts_under h ps ms ++ facts_under h qs ns
facts_joined h [] qs [] ns many = refl
facts_joined h [] qs (m ∷ ms) ns many = absurd (omega (arith, many))
facts_joined h (p ∷ ps) qs [] ns many = absurd (omega (arith, many))
facts_joined h (p ∷ ps) qs (m ∷ ms) ns many =
    ap (λ (rs : List Pattern). imp h (fun p m) ∷ rs)
    (facts_joined h ps qs ms ns (omega (arith, many)))

pub within_joined : (s : Scope) (ts us : List Theorem) → AreWithin s ts → AreWithin s us
    → AreWithin s (ts ++ us)
within_joined s [] us h k = k
within_joined s (t ∷ ts) us h k = (h.0, within_joined s ts us h.1 k)

-- the arguments of two constructors, and the theorems on all of them
pub record AreBoth (cx : Context) (h : Pattern) (k f g : ℕ) (ps qs : RulePatterns)
    (m : HasNumberedArguments cx.program.sig cx.names f) (n : HasNumberedArguments cx.program.sig cx.names g)
    (ts : List Theorem) : Type 0 where
  pub first : List Theorem
  pub second : List Theorem
  pub are : ts ≡ first ++ second
  pub lefts : AreArguments cx h k f ps m first
  pub rights : AreArguments cx h k g qs n second

pub both_arguments : (cx : Context) (sorts : List ℕ) (given : Given) (f g : ℕ)
    (ps qs : List RulePat) (sort other : ℕ) (ts : List Theorem)
    (m : HasNumberedArguments cx.program.sig cx.names f) (n : HasNumberedArguments cx.program.sig cx.names g)
    → IsCovered cx.program.sig sorts given (application f (plain_patterns ps)) sort
    → IsCovered cx.program.sig sorts given (application g (plain_patterns qs)) other
    → AreBothUnder cx sorts given ps qs ts
    → AreBoth cx given.hypothesis (length sorts) f g (plain_patterns ps) (plain_patterns qs) m n ts
both_arguments cx sorts given f g ps qs sort other ts m n c d b = record {
  first = b.first;
  second = b.second;
  are = b.are;
  lefts = arguments cx sorts given f ps sort b.first m c b.lefts;
  rights = arguments cx sorts given g qs other b.second n d b.rights;
}

both_images : (cx : Context) (h : Pattern) (k f g : ℕ) (ps qs : RulePatterns)
    (m : HasNumberedArguments cx.program.sig cx.names f) (n : HasNumberedArguments cx.program.sig cx.names g)
    (ts : List Theorem) → AreBoth cx h k f g ps qs m n ts → List Pattern
both_images cx h k f g ps qs m n ts b = b.lefts.gathered.qs ++ b.rights.gathered.qs

-- an axiom on both lists of variables, at both lists of arguments
pub both_for : (cx : Context) (h : Pattern) (k f g : ℕ) (ps qs : RulePatterns)
    (m : HasNumberedArguments cx.program.sig cx.names f) (n : HasNumberedArguments cx.program.sig cx.names g)
    (ts : List Theorem) (p body : Pattern) (b : AreBoth cx h k f g ps qs m n ts)
    → p ≡ all_from k (m.numbers ++ n.numbers) body
    → BindsFrom (k + length (b.lefts.gathered.qs ++ b.rights.gathered.qs)) body
    → IsForPatterns h p (conclusions ts)
both_for cx h k f g ps qs m n ts p body b is binds = record {
  k = k;
  numbers = m.numbers ++ n.numbers;
  body = body;
  qs = b.lefts.gathered.qs ++ b.rights.gathered.qs;
  is = is;
  binds = binds;
  facts_are =
      ap conclusions b.are ∙ conclusions-append b.first b.second
      ∙ two_lists (conclusions b.first) (conclusions b.second)
      (facts_under h b.lefts.gathered.qs m.numbers)
      (facts_under h b.rights.gathered.qs n.numbers) b.lefts.say b.rights.say
      ∙ sym (facts_joined h b.lefts.gathered.qs b.rights.gathered.qs m.numbers
      n.numbers b.lefts.many);
  many =
      length-append b.lefts.gathered.qs b.rights.gathered.qs
      ∙ two_lengths (length b.lefts.gathered.qs) (length b.rights.gathered.qs)
      (length m.numbers) (length n.numbers) b.lefts.many b.rights.many
      ∙ sym (length-append m.numbers n.numbers);
  below =
      all_open_joined k b.lefts.gathered.qs b.rights.gathered.qs b.lefts.gathered.below
      b.rights.gathered.below;
}
  where
    two_lists : (ps qs rs us : List Pattern) → ps ≡ rs → qs ≡ us → ps ++ qs ≡ rs ++ us
    two_lists ps qs rs us e i =
        ap (λ (xs : List Pattern). xs ++ qs) e ∙ ap (λ (xs : List Pattern). rs ++ xs) i

    two_lengths : (a b c d : ℕ) → a ≡ c → b ≡ d → a + b ≡ c + d
    two_lengths a b c d e i = omega (arith, e, i)

-- what is known after an axiom was taken at both lists
pub record IsOfBoth (cx : Context) (g : Given) (stated : Theorem) (ts : List Theorem) (t : Theorem)
    : Type 0 where
  pub over : IsOverContext cx g.hypothesis
  pub stated_stays : StaysIn cx stated
  pub holds : HoldsOfPatterns g.hypothesis stated.conclusion (conclusions ts) t.conclusion
  pub stays : StaysWithin (g.hypothesis ∷ []) (stated ∷ ts) t

pub both_stay : (cx : Context) (given : Given) (k f g : ℕ) (ps qs : RulePatterns)
    (m : HasNumberedArguments cx.program.sig cx.names f) (n : HasNumberedArguments cx.program.sig cx.names g)
    (stated : Theorem) (ts : List Theorem) (t : Theorem)
    → AreBoth cx given.hypothesis k f g ps qs m n ts → IsOfBoth cx given stated ts t → StaysIn cx t
both_stay cx given k f g ps qs m n stated ts t b o = λ s has.
    o.stays s (o.over s has, tt) (
      o.stated_stays s has,
      subst (λ (us : List Theorem). AreWithin s us) (sym b.are)
          (within_joined s b.first b.second (b.lefts.gathered.stay s has)
          (b.rights.gathered.stay s has)),
    )

-- the values of both lists of variables
lefts_given : (k n : ℕ) (ps qs : List Pattern) → length ps ≡ n
    → given_from (values_from k (ps ++ qs)) k n ≡ ps
lefts_given k n ps qs many =
    ap (given_from (values_from k (ps ++ qs)) k) (sym many) ∙ given_front k ps qs

rights_given : (k m n : ℕ) (ps qs : List Pattern) → length ps ≡ m → length qs ≡ n
    → given_from (values_from k (ps ++ qs)) (k + m) n ≡ qs
rights_given k m n ps qs many more =
    ap (λ (x : ℕ). given_from (values_from k (ps ++ qs)) (k + x) n) (sym many)
    ∙ ap (given_from (values_from k (ps ++ qs)) (k + length ps)) (sym more)
    ∙ given_back k ps qs

pub two_applications : (k m n f g : ℕ) (ps qs : List Pattern) → length ps ≡ m → length qs ≡ n
    → at_values (values_from k (ps ++ qs)) (and (at_numbered f k m) (at_numbered g (k + m) n))
    ≡ and (applied_to (constant f) ps) (applied_to (constant g) qs)
two_applications k m n f g ps qs many more =
    two_same and (at_values (values_from k (ps ++ qs)) (at_numbered f k m))
    (at_values (values_from k (ps ++ qs)) (at_numbered g (k + m) n))
    (applied_to (constant f) ps) (applied_to (constant g) qs)
    (numbered_values (values_from k (ps ++ qs)) f k m ps (lefts_given k m ps qs many))
    (numbered_values (values_from k (ps ++ qs)) g (k + m) n qs (rights_given k m n ps qs many more))

-- ---- a constructor is free

binds_pairs : (b k m n : ℕ) (head : Pattern) → BindsFrom b head
    → BindsFrom b (applied_to head (pairs_from k m n))
binds_pairs b k m zero head h = h
binds_pairs b k m (suc n) head h =
    binds_pairs b (k + 1) (m + 1) n (app head (and (var k) (var m))) (h, (tt, tt))

free_pairs : (k n f : ℕ) (ps qs : List Pattern) → length ps ≡ n → length qs ≡ n
    → at_values (values_from k (ps ++ qs)) (applied_to (constant f) (pairs_from k (k + n) n))
    ≡ applied_to (constant f) (paired ps qs)
free_pairs k n f ps qs many more =
    values_applied (values_from k (ps ++ qs)) (constant f) (pairs_from k (k + n) n)
    ∙ ap (applied_to (constant f))
    (values_pairs (values_from k (ps ++ qs)) k (k + n) n
    ∙ ap (λ (rs : List Pattern). paired rs (given_from (values_from k (ps ++ qs)) (k + n) n))
    (lefts_given k n ps qs many)
    ∙ ap (paired ps) (rights_given k n n ps qs many more))

pub free_for : (cx : Context) (h : Pattern) (k f : ℕ) (ps qs : RulePatterns) (p : Pattern)
    (ts : List Theorem) (says : SaysFreeFrom cx f k p)
    → AreBoth cx h k f f ps qs says.numbered says.numbered ts → IsForPatterns h p (conclusions ts)
free_for cx h k f ps qs p ts says b =
    let n : ℕ = length says.numbered.numbers in
    both_for cx h k f f ps qs says.numbered says.numbered ts p
    (imp
    (and
    (at_numbered says.numbered.head k (length says.numbered.numbers))
    (at_numbered says.numbered.head (k + length says.numbered.numbers)
    (length says.numbered.numbers)))
    (applied_to (constant says.numbered.head)
    (pairs_from k (k + length says.numbered.numbers)
    (length says.numbered.numbers))))
    b says.says (
      (
        binds_numbered (k + length (b.lefts.gathered.qs ++ b.rights.gathered.qs))
            says.numbered.head k (length says.numbered.numbers),
        binds_numbered (k + length (b.lefts.gathered.qs ++ b.rights.gathered.qs))
            says.numbered.head (k + length says.numbered.numbers)
            (length says.numbered.numbers),
      ),
      binds_pairs (k + length (b.lefts.gathered.qs ++ b.rights.gathered.qs)) k
          (k + length says.numbered.numbers) (length says.numbered.numbers)
          (constant says.numbered.head) tt,
    )

-- the image of an application to conjunctions
pairs_image : (sig : Signature) (names : List (List ℕ)) (ps qs : RulePatterns)
    (us ws : List Pattern) (s : Sentence) (head : Pattern) → AreImages sig names ps us
    → AreImages sig names qs ws → sentence_image sig names s ≡ Some head
    → sentence_image sig names (apply_all s (conjunctions (terms ps) (terms qs)))
    ≡ Some (applied_to head (paired us ws))
pairs_image sig names no_pattern qs [] ws s head h i e = e
pairs_image sig names no_pattern qs (a ∷ us) ws s head h i e = absurd h
pairs_image sig names (more_patterns p ps) qs [] ws s head h i e = absurd h
pairs_image sig names (more_patterns p ps) no_pattern (a ∷ us) [] s head h i e = e
pairs_image sig names (more_patterns p ps) no_pattern (a ∷ us) (b ∷ ws) s head h i e = absurd i
pairs_image sig names (more_patterns p ps) (more_patterns q qs) (a ∷ us) [] s head h i e = absurd i
pairs_image sig names (more_patterns p ps) (more_patterns q qs) (a ∷ us) (b ∷ ws) s head h i e =
    pairs_image sig names ps qs us ws (apply s (says.and (term p) (term q))) (app head (and a b))
    h.1 i.1
    (ap
    (λ (o : Option Pattern). both app o
    (both and (image_of sig names p) (image_of sig names q))) e
    ∙ ap (λ (o : Option Pattern). both app (Some head) (both and o (image_of sig names q))) h.0
    ∙ ap (λ (o : Option Pattern). both app (Some head) (both and (Some a) o)) i.0)

pub free_under : (cx : Context) (sorts : List ℕ) (given : Given) (f : ℕ) (ps qs : List RulePat)
    (sort other : ℕ) (stated : Theorem) (ts : List Theorem) (t : Theorem)
    → SaysFreeFrom cx f (length sorts) stated.conclusion
    → IsCovered cx.program.sig sorts given (application f (plain_patterns ps)) sort
    → IsCovered cx.program.sig sorts given (application f (plain_patterns qs)) other
    → AreBothUnder cx sorts given ps qs ts → IsOfBoth cx given stated ts t
    → IsUnder cx given.hypothesis (freedom f (plain_patterns ps) (plain_patterns qs)) t
unfolding free_for both_for
free_under cx sorts given f ps qs sort other stated ts t says c d both_are o =
    let b : AreBoth cx given.hypothesis (length sorts) f f (plain_patterns ps) (plain_patterns qs)
    says.numbered says.numbered ts =
    both_arguments cx sorts given f f ps qs sort other ts says.numbered says.numbered c d
    both_are in
    let n : ℕ = length says.numbered.numbers in
    let head : ℕ = says.numbered.head in
    record {
      says = record {
        image =
            imp
            (and
            (applied_to (constant says.numbered.head) b.lefts.gathered.qs)
            (applied_to (constant says.numbered.head) b.rights.gathered.qs))
            (applied_to (constant says.numbered.head)
            (paired b.lefts.gathered.qs b.rights.gathered.qs));
        is_image =
            three_images
            (image_of cx.program.sig cx.names (application f (plain_patterns ps)))
            (image_of cx.program.sig cx.names (application f (plain_patterns qs)))
            (sentence_image cx.program.sig cx.names
            (apply_all (symbol f)
            (conjunctions (terms (plain_patterns ps)) (terms (plain_patterns qs)))))
            (applied_to (constant says.numbered.head) b.lefts.gathered.qs)
            (applied_to (constant says.numbered.head) b.rights.gathered.qs)
            (applied_to (constant says.numbered.head)
            (paired b.lefts.gathered.qs b.rights.gathered.qs))
            (arguments_image cx given.hypothesis (length sorts) f (plain_patterns ps)
            says.numbered b.first b.lefts)
            (arguments_image cx given.hypothesis (length sorts) f (plain_patterns qs)
            says.numbered b.second b.rights)
            (pairs_image cx.program.sig cx.names (plain_patterns ps) (plain_patterns qs)
            b.lefts.gathered.qs b.rights.gathered.qs (symbol f)
            (constant says.numbered.head) b.lefts.gathered.are_images
            b.rights.gathered.are_images says.numbered.is_head);
        says =
            o.holds
            (free_for cx given.hypothesis (length sorts) f (plain_patterns ps) (plain_patterns qs)
            stated.conclusion ts says b)
            ∙ ap (imp given.hypothesis)
            (two_same imp
            (at_values (values_from (length sorts) (b.lefts.gathered.qs ++ b.rights.gathered.qs))
            (and
            (at_numbered says.numbered.head (length sorts)
            (length says.numbered.numbers))
            (at_numbered says.numbered.head
            (length sorts + length says.numbered.numbers)
            (length says.numbered.numbers))))
            (at_values (values_from (length sorts) (b.lefts.gathered.qs ++ b.rights.gathered.qs))
            (applied_to (constant says.numbered.head)
            (pairs_from (length sorts) (length sorts + length says.numbered.numbers)
            (length says.numbered.numbers))))
            (and
            (applied_to (constant says.numbered.head) b.lefts.gathered.qs)
            (applied_to (constant says.numbered.head) b.rights.gathered.qs))
            (applied_to (constant says.numbered.head)
            (paired b.lefts.gathered.qs b.rights.gathered.qs))
            (two_applications (length sorts) (length says.numbered.numbers)
            (length says.numbered.numbers) says.numbered.head
            says.numbered.head b.lefts.gathered.qs b.rights.gathered.qs b.lefts.many
            b.rights.many)
            (free_pairs (length sorts) (length says.numbered.numbers)
            says.numbered.head b.lefts.gathered.qs b.rights.gathered.qs b.lefts.many
            b.rights.many));
      };
      stays =
          both_stay cx given (length sorts) f f (plain_patterns ps) (plain_patterns qs)
          says.numbered says.numbered stated ts t b o;
    }
  where
    three_images : (x y z : Option Pattern) (p q r : Pattern) → x ≡ Some p → y ≡ Some q
        → z ≡ Some r → both imp (both and x y) z ≡ Some (imp (and p q) r)
    three_images x y z p q r e i j = rw (e, i, j) refl

-- ---- which constructors are free

pub not_ac : (sig : Signature) (f : ℕ) (info : SymInfo) → IsAcFree sig → IsSymbol sig f info
    → info.kind ≡ Ctor → info.ac ≡ false
not_ac sig f info free there kind = go info.ac refl
  where
    go : (b : Bool) → info.ac ≡ b → b ≡ false
    go true is = absurd (free f (info, there, kind, is))
    go false is = refl

as_many : (sig : Signature) (sorts : List ℕ) (args : List RulePat) (refs : List SortRef)
    → HaveSorts sig sorts [] (plain_patterns args) refs → length args ≡ length refs
as_many sig sorts [] [] h = refl
as_many sig sorts [] (r ∷ refs) h = absurd h
as_many sig sorts (a ∷ args) [] h = absurd h
as_many sig sorts (a ∷ args) (r ∷ refs) h = ap suc (as_many sig sorts args refs h.3)

pub is_free : (sig : Signature) (sorts : List ℕ) (given : Given) (f : ℕ) (ps : List RulePat)
    (sort : ℕ) → IsAcFree sig → 0 < length ps
    → IsCovered sig sorts given (application f (plain_patterns ps)) sort → IsFreeConstructor sig f
is_free sig sorts given f ps sort free some c = record {
  info = c.sorted.0;
  there = c.sorted.1;
  constructs = c.sorted.2;
  no_ac = not_ac sig f c.sorted.0 free c.sorted.1 c.sorted.2;
  some =
      omega (arith, some, as_many sig sorts ps c.sorted.0.args.items c.sorted.4);
}

-- ---- an injection is injective

pub injective_for : (cx : Context) (h : Pattern) (k a b : ℕ) (q r p : Pattern)
    (first second : Theorem) → SaysInjectiveFrom cx a b k p → IsElementAt cx h k a q first
    → IsElementAt cx h k a r second
    → IsForPatterns h p (first.conclusion ∷ second.conclusion ∷ [])
injective_for cx h k a b q r p first second says d e = record {
  k = k;
  numbers = says.ends.lower ∷ says.ends.lower ∷ [];
  body =
      imp
      (equal (inject says.ends.symbol says.ends.lower says.ends.upper (var k))
      (inject says.ends.symbol says.ends.lower says.ends.upper (var (k + 1))))
      (equal (var k) (var (k + 1)));
  qs = q ∷ r ∷ [];
  is = says.says;
  binds = (((tt, tt), (tt, tt)), (tt, tt));
  facts_are =
      two_facts first.conclusion second.conclusion (imp h (fun q says.ends.lower))
      (imp h (fun r says.ends.lower)) (numbered q first d) (numbered r second e);
  many = refl;
  below = (d.below, (e.below, tt));
}
  where
    two_facts : (p q r u : Pattern) → p ≡ r → q ≡ u
        → ◌≡◌ {A = List Pattern} (p ∷ q ∷ []) (r ∷ u ∷ [])
    two_facts p q r u x y =
        ap (λ (z : Pattern). z ∷ q ∷ []) x ∙ ap (λ (z : Pattern). r ∷ z ∷ []) y

    numbered : (u : Pattern) (t : Theorem) (i : IsElementAt cx h k a u t)
        → t.conclusion ≡ imp h (fun u says.ends.lower)
    numbered u t i = i.says
        ∙ ap (λ (n : ℕ). imp h (fun u n))
        (some_same i.number says.ends.lower (sym i.is_number ∙ says.ends.is_lower))

injective_made : (k c s u : ℕ) (q r : Pattern) → at_values (values_from k (q ∷ r ∷ []))
    (imp (equal (inject c s u (var k)) (inject c s u (var (k + 1)))) (equal (var k) (var (k + 1))))
    ≡ imp (equal (inject c s u q) (inject c s u r)) (equal q r)
injective_made k c s u q r =
    two_places (values_from k (q ∷ r ∷ []) k) (values_from k (q ∷ r ∷ []) (k + 1)) q r
    (λ x y. imp (equal (inject c s u x) (inject c s u y)) (equal x y))
    (value_here k q (r ∷ []))
    (value_later k (k + 1) q (r ∷ []) (omega arith) ∙ value_here (k + 1) r [])
  where
    two_places : (a b p q : Pattern) (f : Pattern → Pattern → Pattern) → a ≡ p → b ≡ q
        → f a b ≡ f p q
    two_places a b p q f e i = two_same f a b p q e i

pub injective_at_patterns : (cx : Context) (sorts : List ℕ) (given : Given) (a b : ℕ)
    (p q : RulePattern) (sort other : ℕ) (stated first second : Theorem) (ts : List Theorem)
    (t : Theorem) → SaysInjectiveFrom cx a b (length sorts) stated.conclusion
    → IsCovered cx.program.sig sorts given (injection a b p) sort
    → IsCovered cx.program.sig sorts given (injection a b q) other
    → IsElementUnder cx sorts given p first → IsElementUnder cx sorts given q second
    → ts ≡ first ∷ second ∷ [] → IsOfBoth cx given stated ts t
    → IsUnder cx given.hypothesis (injectivity a b p q) t
unfolding injective_for
injective_at_patterns cx sorts given a b p q sort other stated first second ts t says c d u v are o =
    let below : IsCovered cx.program.sig sorts given p a =
    covered_below cx.program.sig sorts given a b p sort c in
    let under : IsCovered cx.program.sig sorts given q a =
    covered_below cx.program.sig sorts given a b q other d in
    let left : HasImageAt cx given.hypothesis (length sorts) p a first =
    has_image cx sorts given p a first below (u a below) in
    let right : HasImageAt cx given.hypothesis (length sorts) q a second =
    has_image cx sorts given q a second under (v a under) in
    let holds : HoldsOfPatterns given.hypothesis stated.conclusion
    (first.conclusion ∷ second.conclusion ∷ []) t.conclusion =
    subst
    (λ (us : List Theorem). HoldsOfPatterns given.hypothesis stated.conclusion (conclusions us)
    t.conclusion) are o.holds in
    record {
      says = record {
        image =
            imp
            (equal (inject says.ends.symbol says.ends.lower says.ends.upper left.image)
            (inject says.ends.symbol says.ends.lower says.ends.upper right.image))
            (equal left.image right.image);
        is_image =
            four_images (image_of cx.program.sig cx.names (injection a b p))
            (image_of cx.program.sig cx.names (injection a b q))
            (image_of cx.program.sig cx.names p) (image_of cx.program.sig cx.names q)
            (inject says.ends.symbol says.ends.lower says.ends.upper left.image)
            (inject says.ends.symbol says.ends.lower says.ends.upper right.image) left.image
            right.image
            (injection_made cx.program.sig cx.names a b says.ends
            (image_of cx.program.sig cx.names p) left.image left.is_image)
            (injection_made cx.program.sig cx.names a b says.ends
            (image_of cx.program.sig cx.names q) right.image right.is_image) left.is_image
            right.is_image;
        says =
            holds
            (injective_for cx given.hypothesis (length sorts) a b left.image right.image
            stated.conclusion first second says left.element right.element)
            ∙ ap (imp given.hypothesis)
            (injective_made (length sorts) says.ends.symbol says.ends.lower says.ends.upper
            left.image right.image);
      };
      stays =
          λ s has. o.stays s (o.over s has, tt) (
            o.stated_stays s has,
            subst (λ (us : List Theorem). AreWithin s us) (sym are)
                (left.element.stays s has, (right.element.stays s has, tt)),
          );
    }
  where
    four_images : (w x y z : Option Pattern) (p q r u : Pattern) → w ≡ Some p → x ≡ Some q
        → y ≡ Some r → z ≡ Some u
        → both imp (both equal w x) (both equal y z) ≡ Some (imp (equal p q) (equal r u))
    four_images w x y z p q r u e i j l = rw (e, i, j, l) refl

pub injective_fits : (cx : Context) (sorts : List ℕ) (given : Given) (a b : ℕ)
    (p q : RulePattern) (sort other : ℕ) (c : Pattern) (first second : Theorem) (ts : List Theorem)
    → SaysInjectiveFrom cx a b (length sorts) c
    → IsCovered cx.program.sig sorts given (injection a b p) sort
    → IsCovered cx.program.sig sorts given (injection a b q) other
    → IsElementUnder cx sorts given p first → IsElementUnder cx sorts given q second
    → ts ≡ first ∷ second ∷ [] → IsForPatterns given.hypothesis c (conclusions ts)
injective_fits cx sorts given a b p q sort other c first second ts says d e u v are =
    let below : IsCovered cx.program.sig sorts given p a =
    covered_below cx.program.sig sorts given a b p sort d in
    let under : IsCovered cx.program.sig sorts given q a =
    covered_below cx.program.sig sorts given a b q other e in
    let left : HasImageAt cx given.hypothesis (length sorts) p a first =
    has_image cx sorts given p a first below (u a below) in
    let right : HasImageAt cx given.hypothesis (length sorts) q a second =
    has_image cx sorts given q a second under (v a under) in
    subst (λ (us : List Theorem). IsForPatterns given.hypothesis c (conclusions us)) (sym are)
    (injective_for cx given.hypothesis (length sorts) a b left.image right.image c first second says
    left.element right.element)
