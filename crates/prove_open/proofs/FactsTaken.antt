-- The fact that two patterns differ, taken at the parts of the patterns.
use Rattle.std.proofs.Common.{◌≡◌, ◌+◌, ◌≤◌, ◌^◌, ℕ, suc, Bool, false, List, [], ◌∷◌, ◌++◌, Option}
use Rattle.std.proofs.Common.{Some, length, option_map, refl, sym, ◌∙◌, ap, subst, arith}
use Rattle.std.proofs.Common.{length-append}
use Rattle.std.specs.List.{AllZip}
use Rattle.ml_pat.specs.Patterns.{Pattern, equal, not}
use Rattle.ml_kernel.specs.Theorems.{Theorem, conclusions}
use Rattle.ml_derived.specs.Scopes.{Scope, AreWithin, StaysWithin}
use Rattle.term_core.specs.Patterns.{Pattern as RulePattern, Patterns as RulePatterns, no_pattern}
use Rattle.term_core.specs.Patterns.{more_patterns}
use Rattle.term_core.specs.PatternLists.{plain_patterns}
use Rattle.term_core.specs.RulePatterns.{plain_pattern}
use Rattle.term_core.specs.declared.rule_patterns.RulePat.{RulePat}
use Rattle.rule_core.specs.AcSymbols.{IsAcFree}
use Rattle.rule_core.specs.WellSorted.{IsSignature}
use Rattle.rule_core.specs.declared.rules.Program.{Program}
use Rattle.rule_core.specs.declared.signature.Signature.{Signature}
use Rattle.ml_image.specs.HasImages.{count_of, HaveApartImages}
use Rattle.ml_image.specs.Images.{both, image_of}
use Rattle.ml_image.specs.Sentences as sentence
use Rattle.ml_image.specs.Sides.{side_sorts}
use Rattle.prove_term.specs.Contexts.{Context, HasContext, HasGrown, StaysIn}
use Rattle.prove_term.specs.Numbered.{all_from, AreSortImages}
use Rattle.prove_term.specs.OpenAxioms.{SaysUnequalFrom}
use Rattle.prove_term.specs.Schemas.{AreImages}
use Rattle.prove_term.proofs.ContextLaws.{grown_twice}
use Rattle.prove_term.proofs.Instances.{conclusions-append}
use Rattle.prove_open.specs.Differences.{DifferAtRoot}
use Rattle.prove_open.specs.Elements.{IsElementUnder, IsReady, IsUnder}
use Rattle.prove_open.specs.FactSides.{is_injected, side_form, side_parts}
use Rattle.prove_open.specs.FactSides.{AreCoveredAlike, IsClash, IsSided, HaveFacts, HaveBothFacts}
use Rattle.prove_open.specs.Givens.{IsCovered, IsOverContext}
use Rattle.prove_open.specs.Instances.{IsForPatterns, HoldsOfPatterns}
use Rattle.prove_open.specs.Values.{at_values, values_from, given_from, AreOpenBelow}
use Rattle.prove_open.specs.Values.{facts_under}
use Rattle.prove_open.specs.declared.givens.Given.{Given}
use Rattle.prove_open.proofs.ValueLaws.{all_open_joined, given_front, given_back}
use Rattle.prove_open.proofs.CoverLaws.{AreCovered}
use Rattle.prove_open.proofs.GatheringLaws.{AreGathered, gathered, same_numbers, elements_grown}
use Rattle.prove_open.proofs.GatheringLaws.{ready_grown}
use Rattle.prove_open.proofs.FactSideLaws.{IsOfSide, of_side, first_has_side, second_has_side}
use Rattle.prove_open.proofs.FactSideLaws.{side_at, sides_same, apart_images}
use Rattle.prove_open.proofs.FreedomLaws.{facts_joined, within_joined}
use Rattle.prove_open.proofs.FactInstances.{Becomes, side_becomes}

-- ---- how many

zip_many : {X Y : Type 0} (R : X → Y → Type 0) (xs : List X) (ys : List Y) → AllZip R xs ys
    → length xs ≡ length ys
zip_many R [] [] h = refl
zip_many R [] (y ∷ ys) h = absurd h
zip_many R (x ∷ xs) [] h = absurd h
zip_many R (x ∷ xs) (y ∷ ys) h = ap suc (zip_many R xs ys h.1)

pub count_plain : (args : List RulePat) → count_of (plain_patterns args) ≡ length args
count_plain [] = refl
count_plain (a ∷ args) = ap suc (count_plain args)

pub facts_many : (cx : Context) (sorts : List ℕ) (g : Given) (ps : RulePatterns)
    (ts : List Theorem) → HaveFacts cx sorts g ps ts → count_of ps ≡ length ts
facts_many cx sorts g ps ts h =
    ap count_of (sym h.are) ∙ count_plain h.args
    ∙ zip_many (λ (p : RulePat) (t : Theorem). IsElementUnder cx sorts g (plain_pattern p) t) h.args
    ts h.elements

images_many : (sig : Signature) (names : List (List ℕ)) (ps : RulePatterns) (qs : List Pattern)
    → AreImages sig names ps qs → length qs ≡ count_of ps
images_many sig names no_pattern [] h = refl
images_many sig names no_pattern (q ∷ qs) h = absurd h
images_many sig names (more_patterns p ps) [] h = absurd h
images_many sig names (more_patterns p ps) (q ∷ qs) h = ap suc (images_many sig names ps qs h.1)

-- ---- grown contexts

pub have_grown : (old new : Context) (sorts : List ℕ) (g : Given) (ps : RulePatterns)
    (ts : List Theorem) → HasGrown old new → HaveFacts old sorts g ps ts
    → HaveFacts new sorts g ps ts
have_grown old new sorts g ps ts grown h = record {
  args = h.args;
  are = h.are;
  elements = elements_grown old new sorts g h.args ts grown h.elements;
}

pub both_facts_grown : (old new : Context) (sorts : List ℕ) (g : Given) (n : ℕ)
    (ps qs : RulePatterns) (ts : List Theorem) → HasGrown old new
    → HaveBothFacts old sorts g n ps qs ts → HaveBothFacts new sorts g n ps qs ts
both_facts_grown old new sorts g n ps qs ts grown h = record {
  first = h.first;
  second = h.second;
  are = h.are;
  many = h.many;
  lefts = have_grown old new sorts g ps h.first grown h.lefts;
  rights = have_grown old new sorts g qs h.second grown h.rights;
}

-- ---- both lists

sorts_joined : (sig : Signature) (names : List (List ℕ)) (ss rs ms ns : List ℕ)
    → AreSortImages sig names ss ms → AreSortImages sig names rs ns
    → AreSortImages sig names (ss ++ rs) (ms ++ ns)
sorts_joined sig names [] rs [] ns h k = k
sorts_joined sig names [] rs (m ∷ ms) ns h k = absurd h
sorts_joined sig names (s ∷ ss) rs [] ns h k = absurd h
sorts_joined sig names (s ∷ ss) rs (m ∷ ms) ns h k =
    (h.0, sorts_joined sig names ss rs ms ns h.1 k)

pub two_lists : {A : Type 0} (ps qs rs us : List A) → ps ≡ rs → qs ≡ us → ps ++ qs ≡ rs ++ us
two_lists {A} ps qs rs us e i =
    ap (λ (xs : List A). xs ++ qs) e ∙ ap (λ (xs : List A). rs ++ xs) i

-- ---- the parts

parts_gathered : (cx : Context) (sorts : List ℕ) (g : Given) (deep : Bool) (p : RulePattern)
    (sort : ℕ) (ts : List Theorem) (side : IsOfSide cx.program.sig sorts g deep p sort)
    → HaveFacts cx sorts g (side_parts deep p) ts
    → AreGathered cx g.hypothesis (length sorts) (side_parts deep p) side.ss ts
parts_gathered cx sorts g deep p sort ts side h =
    subst
    (λ (ps : RulePatterns). AreGathered cx g.hypothesis (length sorts) ps side.ss ts) h.are
    (gathered cx sorts g h.args side.refs side.ss ts
    (subst (λ (ps : RulePatterns). AreCovered cx.program.sig sorts g ps side.refs) (sym h.are)
    side.covered) side.refs_are h.elements)

-- what is given when the fact is taken
pub record IsFactOn (cx : Context) (sorts : List ℕ) (g : Given) (p q : RulePattern) (sort n : ℕ)
    (stated : Theorem) (ts : List Theorem) : Type 0 where
  pub signature : IsSignature cx.program.sig
  pub free : IsAcFree cx.program.sig
  pub over : IsOverContext cx g.hypothesis
  pub left : IsCovered cx.program.sig sorts g p sort
  pub right : IsCovered cx.program.sig sorts g q sort
  pub differ : DifferAtRoot cx.program.sig.subsorts p q
  pub facts : HaveBothFacts cx sorts g n (side_parts false p) (side_parts (is_injected p) q) ts
  pub says : SaysUnequalFrom cx (side_form false 0 p) (side_form (is_injected p) n q)
      (length sorts) stated.conclusion
  pub stays : StaysIn cx stated

-- the fact is about the patterns
pub record IsOnSides (cx : Context) (h : Pattern) (k : ℕ) (p q : RulePattern) (stated : Pattern)
    (ts : List Theorem) : Type 0 where
  pub numbers : List ℕ
  pub first : Pattern
  pub second : Pattern
  pub is : stated ≡ all_from k numbers (not (equal first second))
  pub qs : List Pattern
  pub one : Becomes cx.program.sig cx.names (values_from k qs) p first
  pub other : Becomes cx.program.sig cx.names (values_from k qs) q second
  pub say : conclusions ts ≡ facts_under h qs numbers
  pub many : length qs ≡ length numbers
  pub below : AreOpenBelow k qs
  pub stay : (s : Scope) → HasContext s cx → AreWithin s ts

front_given : (k n : ℕ) (ps qs : List Pattern) → length ps ≡ n
    → given_from (values_from k (ps ++ qs)) (k + 0) n ≡ ps
front_given k n ps qs many =
    ap (λ (i : ℕ). given_from (values_from k (ps ++ qs)) i n) (none k)
    ∙ ap (given_from (values_from k (ps ++ qs)) k) (sym many) ∙ given_front k ps qs
  where
    none : (k : ℕ) → k + 0 ≡ k
    none k = omega arith

back_given : (k m n : ℕ) (ps qs : List Pattern) → length ps ≡ m → length qs ≡ n
    → given_from (values_from k (ps ++ qs)) (k + m) n ≡ qs
back_given k m n ps qs many more =
    ap (λ (x : ℕ). given_from (values_from k (ps ++ qs)) (k + x) n) (sym many)
    ∙ ap (given_from (values_from k (ps ++ qs)) (k + length ps)) (sym more)
    ∙ given_back k ps qs

pub on_sides : (cx : Context) (sorts : List ℕ) (g : Given) (p q : RulePattern) (sort n : ℕ)
    (stated : Theorem) (ts : List Theorem) → IsFactOn cx sorts g p q sort n stated ts
    → IsOnSides cx g.hypothesis (length sorts) p q stated.conclusion ts
on_sides cx sorts g p q sort n stated ts f =
    let one : IsOfSide cx.program.sig sorts g false p sort =
    of_side cx.program.sig sorts g false p sort f.signature f.free f.left
    (first_has_side cx.program.sig.subsorts p q f.differ) in
    let two : IsOfSide cx.program.sig sorts g (is_injected p) q sort =
    of_side cx.program.sig sorts g (is_injected p) q sort f.signature f.free f.right
    (second_has_side cx.program.sig.subsorts p q f.differ) in
    let lefts : AreGathered cx g.hypothesis (length sorts) (side_parts false p) one.ss
    f.facts.first =
    parts_gathered cx sorts g false p sort f.facts.first one f.facts.lefts in
    let rights : AreGathered cx g.hypothesis (length sorts) (side_parts (is_injected p) q) two.ss
    f.facts.second =
    parts_gathered cx sorts g (is_injected p) q sort f.facts.second two f.facts.rights in
    let firsts : side_sorts f.says.apart.one ≡ one.ss =
    sides_same cx.program.sig f.says.apart.sort 0 sort 0 f.says.apart.one
    (side_at false p one.ss) f.says.apart.is_one one.is
    (sym f.says.apart.first ∙ one.form 0) ∙ one.listed in
    let seconds : side_sorts f.says.apart.other ≡ two.ss =
    sides_same cx.program.sig f.says.apart.sort (length (side_sorts f.says.apart.one)) sort n
    f.says.apart.other (side_at (is_injected p) q two.ss) f.says.apart.is_other two.is
    (sym f.says.apart.second ∙ two.form n) ∙ two.listed in
    let listed : f.says.sorts ≡ one.ss ++ two.ss =
    f.says.apart.sorts_are
    ∙ two_lists (side_sorts f.says.apart.one) (side_sorts f.says.apart.other) one.ss two.ss firsts
    seconds in
    let numbers : f.says.numbers ≡ lefts.numbers ++ rights.numbers =
    same_numbers cx.program.sig cx.names (one.ss ++ two.ss) f.says.numbers
    (lefts.numbers ++ rights.numbers)
    (subst (λ (ss : List ℕ). AreSortImages cx.program.sig cx.names ss f.says.numbers) listed
    f.says.are_numbers)
    (sorts_joined cx.program.sig cx.names one.ss two.ss lefts.numbers rights.numbers
    lefts.are_numbers rights.are_numbers) in
    let left_many : length lefts.qs ≡ count_of (side_parts false p) =
    images_many cx.program.sig cx.names (side_parts false p) lefts.qs lefts.are_images in
    let right_many : length rights.qs ≡ count_of (side_parts (is_injected p) q) =
    images_many cx.program.sig cx.names (side_parts (is_injected p) q) rights.qs
    rights.are_images in
    let next : length lefts.qs ≡ n =
    left_many ∙ facts_many cx sorts g (side_parts false p) f.facts.first f.facts.lefts
    ∙ f.facts.many in
    record {
      numbers = lefts.numbers ++ rights.numbers;
      first = f.says.first;
      second = f.says.second;
      is =
          f.says.says
          ∙ ap
          (λ (ns : List ℕ). all_from (length sorts) ns (not (equal f.says.first f.says.second)))
          numbers;
      qs = lefts.qs ++ rights.qs;
      one =
          side_becomes cx.program.sig cx.names (values_from (length sorts) (lefts.qs ++ rights.qs))
          (length sorts) 0 false p lefts.qs f.says.first
          (first_has_side cx.program.sig.subsorts p q f.differ) lefts.are_images
          (front_given (length sorts) (count_of (side_parts false p)) lefts.qs rights.qs left_many)
          f.says.is_first;
      other =
          side_becomes cx.program.sig cx.names (values_from (length sorts) (lefts.qs ++ rights.qs))
          (length sorts) n (is_injected p) q rights.qs f.says.second
          (second_has_side cx.program.sig.subsorts p q f.differ) rights.are_images
          (back_given (length sorts) n (count_of (side_parts (is_injected p) q)) lefts.qs rights.qs
          next right_many)
          f.says.is_second;
      say =
          ap conclusions f.facts.are
          ∙ conclusions-append f.facts.first f.facts.second
          ∙ two_lists (conclusions f.facts.first) (conclusions f.facts.second)
          (facts_under g.hypothesis lefts.qs lefts.numbers)
          (facts_under g.hypothesis rights.qs rights.numbers) lefts.say rights.say
          ∙ sym (facts_joined g.hypothesis lefts.qs rights.qs lefts.numbers rights.numbers
          lefts.many);
      many =
          omega (
            arith,
            length-append lefts.qs rights.qs,
            length-append lefts.numbers rights.numbers,
            lefts.many,
            rights.many,
          );
      below = all_open_joined (length sorts) lefts.qs rights.qs lefts.below rights.below;
      stay =
          λ s has. subst (λ (us : List Theorem). AreWithin s us) (sym f.facts.are)
          (within_joined s f.facts.first f.facts.second (lefts.stay s has) (rights.stay s has));
    }

pub for_sides : (cx : Context) (h : Pattern) (k : ℕ) (p q : RulePattern) (stated : Pattern)
    (ts : List Theorem) → IsOnSides cx h k p q stated ts → IsForPatterns h stated (conclusions ts)
for_sides cx h k p q stated ts o = record {
  k = k;
  numbers = o.numbers;
  body = not (equal o.first o.second);
  qs = o.qs;
  is = o.is;
  binds = (o.one.binds (k + length o.qs), o.other.binds (k + length o.qs));
  facts_are = o.say;
  many = o.many;
  below = o.below;
}

pub under_sides : (cx : Context) (h : Pattern) (k : ℕ) (p q : RulePattern)
    (stated made : Theorem) (ts : List Theorem) → IsOnSides cx h k p q stated.conclusion ts
    → IsOverContext cx h → StaysIn cx stated
    → HoldsOfPatterns h stated.conclusion (conclusions ts) made.conclusion
    → StaysWithin (h ∷ []) (stated ∷ ts) made
    → IsUnder cx h (sentence.not (sentence.equals (sentence.term p) (sentence.term q))) made
unfolding for_sides
under_sides cx h k p q stated made ts o over stated_stays holds stays = record {
  says = record {
    image =
        not (equal (at_values (values_from k o.qs) o.first)
        (at_values (values_from k o.qs) o.second));
    is_image =
        ap
        (λ (i : Option Pattern). option_map not
        (both equal i (image_of cx.program.sig cx.names q))) o.one.made
        ∙ ap
        (λ (i : Option Pattern). option_map not
        (both equal (Some (at_values (values_from k o.qs) o.first)) i)) o.other.made;
    says = holds (for_sides cx h k p q stated.conclusion ts o);
  };
  stays = λ s has. stays s (over s has, tt) (stated_stays s has, o.stay s has);
}

-- ---- what the code has

-- the facts on the parts, and the sides
pub record IsPrepared (old mid : Context) (sorts : List ℕ) (g : Given) (p q : RulePattern)
    (deep : Bool) (n : ℕ) (ts : List Theorem) (left right : RulePattern) : Type 0 where
  pub ready : IsReady old sorts g
  pub clash : IsClash old.program.sig sorts g p q false
  pub grown : HasGrown old mid
  pub deep_is : deep ≡ is_injected p
  pub facts : HaveBothFacts mid sorts g n (side_parts false p) (side_parts deep q) ts
  pub few : length ts ≤ 2 ^ 32
  pub left_is : left ≡ side_form false 0 p
  pub right_is : right ≡ side_form deep n q

prepared_facts : (old mid : Context) (sorts : List ℕ) (g : Given) (p q : RulePattern)
    (deep : Bool) (n : ℕ) (ts : List Theorem) (left right : RulePattern)
    → IsPrepared old mid sorts g p q deep n ts left right
    → HaveBothFacts mid sorts g n (side_parts false p) (side_parts (is_injected p) q) ts
prepared_facts old mid sorts g p q deep n ts left right i =
    subst (λ (b : Bool). HaveBothFacts mid sorts g n (side_parts false p) (side_parts b q) ts)
    i.deep_is i.facts

pub prepared_images : (old mid : Context) (sorts : List ℕ) (g : Given) (p q : RulePattern)
    (deep : Bool) (n : ℕ) (ts : List Theorem) (left right : RulePattern)
    → IsPrepared old mid sorts g p q deep n ts left right
    → HaveApartImages mid.program.sig left right
prepared_images old mid sorts g p q deep n ts left right i =
    let facts : HaveBothFacts mid sorts g n (side_parts false p) (side_parts (is_injected p) q) ts =
    prepared_facts old mid sorts g p q deep n ts left right i in
    let lefts : count_of (side_parts false p) ≡ length facts.first =
    facts_many mid sorts g (side_parts false p) facts.first facts.lefts in
    let rights : count_of (side_parts (is_injected p) q) ≡ length facts.second =
    facts_many mid sorts g (side_parts (is_injected p) q) facts.second facts.rights in
    let all : length ts ≡ length facts.first + length facts.second =
    ap length facts.are ∙ length-append facts.first facts.second in
    let images : HaveApartImages old.program.sig (side_form false 0 p)
    (side_form (is_injected p) n q) =
    apart_images old.program.sig sorts g p q i.clash.covered.0 n i.ready.well_sorted.signature
    i.clash.free i.clash.covered.1 i.clash.covered.2 i.clash.differ i.clash.both_is
    (sym (lefts ∙ facts.many))
    (few_parts n (count_of (side_parts (is_injected p) q)) (length facts.first)
    (length facts.second) (length ts) (2 ^ 32) facts.many rights all i.few) in
    let at_left : HaveApartImages old.program.sig left (side_form (is_injected p) n q) =
    subst (λ (r : RulePattern). HaveApartImages old.program.sig r
    (side_form (is_injected p) n q)) (sym i.left_is) images in
    let right_is : right ≡ side_form (is_injected p) n q =
    i.right_is ∙ ap (λ (b : Bool). side_form b n q) i.deep_is in
    let at_both : HaveApartImages old.program.sig left right =
    subst (HaveApartImages old.program.sig left) (sym right_is) at_left in
    subst (λ (program : Program). HaveApartImages program.sig left right) (sym i.grown.program)
    at_both
  where
    few_parts : (n b x y t m : ℕ) → x ≡ n → b ≡ y → t ≡ x + y → t ≤ m → n + b ≤ m
    few_parts n b x y t m e f a low = omega (arith, e, f, a, low)

pub prepared_sides : (old mid cx : Context) (sorts : List ℕ) (g : Given) (p q : RulePattern)
    (deep : Bool) (n k : ℕ) (ts : List Theorem) (left right : RulePattern) (stated : Theorem)
    → IsPrepared old mid sorts g p q deep n ts left right → HasGrown mid cx → k ≡ length sorts
    → SaysUnequalFrom cx left right k stated.conclusion → StaysIn cx stated
    → IsOnSides cx g.hypothesis (length sorts) p q stated.conclusion ts
prepared_sides old mid cx sorts g p q deep n k ts left right stated i more is_k says stays =
    let grown : HasGrown old cx = grown_twice old mid cx i.grown more in
    let ready : IsReady cx sorts g = ready_grown old cx sorts g grown i.ready in
    let covered : AreCoveredAlike cx.program.sig sorts g p q =
    subst (λ (program : Program). AreCoveredAlike program.sig sorts g p q) (sym grown.program)
    i.clash.covered in
    let right_is : right ≡ side_form (is_injected p) n q =
    i.right_is ∙ ap (λ (b : Bool). side_form b n q) i.deep_is in
    let at_k : SaysUnequalFrom cx left right (length sorts) stated.conclusion =
    subst (λ (m : ℕ). SaysUnequalFrom cx left right m stated.conclusion) is_k says in
    let at_left : SaysUnequalFrom cx (side_form false 0 p) right (length sorts)
    stated.conclusion =
    subst (λ (r : RulePattern). SaysUnequalFrom cx r right (length sorts) stated.conclusion)
    i.left_is at_k in
    on_sides cx sorts g p q covered.0 n stated ts (record {
      signature = ready.well_sorted.signature;
      free =
          subst (λ (program : Program). IsAcFree program.sig) (sym grown.program) i.clash.free;
      over = ready.given.over;
      left = covered.1;
      right = covered.2;
      differ =
          subst (λ (program : Program). DifferAtRoot program.sig.subsorts p q)
          (sym grown.program) i.clash.differ;
      facts =
          both_facts_grown mid cx sorts g n (side_parts false p) (side_parts (is_injected p) q) ts
          more (prepared_facts old mid sorts g p q deep n ts left right i);
      says =
          subst (λ (r : RulePattern). SaysUnequalFrom cx (side_form false 0 p) r (length sorts)
          stated.conclusion) right_is at_left;
      stays = stays;
    })

-- ---- the sides of a clash

pub first_sided : (sig : Signature) (sorts : List ℕ) (g : Given) (p q : RulePattern) (b : Bool)
    → IsClash sig sorts g p q b → IsSided false p
first_sided sig sorts g p q b c = record { has = first_has_side sig.subsorts p q c.differ }

pub second_sided : (sig : Signature) (sorts : List ℕ) (g : Given) (p q : RulePattern)
    (b deep : Bool) → IsClash sig sorts g p q b → deep ≡ is_injected p → IsSided deep q
second_sided sig sorts g p q b deep c is =
    subst (λ (d : Bool). IsSided d q) (sym is)
    (record { has = second_has_side sig.subsorts p q c.differ })
