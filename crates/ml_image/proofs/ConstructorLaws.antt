-- Declarations of constructors and functions, as the code reads them.
use Rattle.std.proofs.Common.{◌≡◌, ℕ, List, [], ◌∷◌, ◌++◌, refl, sym, ◌∙◌, ap, subst, length}
use Rattle.std.proofs.Common.{map, suc, Option, Some, option_map, Result, IfOk}
use Rattle.ml_pat.specs.Patterns.{Pattern}
use Rattle.ml_pat.specs.Patterns as logic
use Rattle.term_core.specs.RulePatterns.{sort_numbers}
use Rattle.term_core.specs.PatternLists.{plain_patterns}
use Rattle.term_core.specs.declared.rule_patterns.RulePat.{RulePat}
use Rattle.term_core.specs.declared.ids.SortId.{SortId}
use Rattle.rule_core.specs.Sorting.{IsSymbol, AreSorts, sort_at}
use Rattle.rule_core.specs.declared.signature.Signature.{Signature}
use Rattle.rule_core.specs.declared.signature.SymInfo.{SymInfo}
use Rattle.ml_image.specs.Sentences.{sentence_image, for_all, IsImageOf}
use Rattle.ml_image.specs.Images.{both}
use Rattle.ml_image.specs.OwnAxioms.{sort_numbered, Declares, of_variables, SaysApart, SaysFree}
use Rattle.ml_image.specs.HasImages.{MakesTerms, HasDifference, HasFreedom, count_of}
use Rattle.ml_image.specs.Closing.{Closes, TakesSorts, apart_body, of_pairs, free_body}
use Rattle.ml_image.specs.Gained.{HasGained}
use Rattle.ml_image.proofs.ImageLaws.{some_same, gained_twice}
use Rattle.ml_image.proofs.NamingLaws.{gained-sentence}
use Rattle.ml_image.proofs.ListedLaws.{length-numbers}
use Rattle.ml_image.proofs.SentenceLaws.{named_same, one_symbol, closed_image}

pub one_sort : (s t : ℕ) → sort_numbered s ≡ sort_numbered t → s ≡ t
one_sort s t is = some_same s t (ap (sort_at []) is)

-- the sorts that were read from a declaration are its sorts
pub read_sorts : (sig : Signature) (f : ℕ) (info read : SymInfo) (sorts listed : List ℕ) (sort : ℕ)
    → Declares sig f info sorts sort → IsSymbol sig f read → read.args.items
    ≡ map sort_numbered listed
    → sorts ≡ listed
read_sorts sig f info read sorts listed sort declared there takes =
    named_same sorts listed (sym declared.takes
    ∙ ap (λ (i : SymInfo). i.args.items) (one_symbol sig f info read declared.there there)
    ∙ takes)

pub read_maker : (sig : Signature) (f : ℕ) (info read : SymInfo) (sorts listed : List ℕ) (sort : ℕ)
    → MakesTerms sig f info sorts sort → IsSymbol sig f read → read.args.items
    ≡ map sort_numbered listed
    → MakesTerms sig f read listed sort
read_maker sig f info read sorts listed sort makes there takes =
    subst (λ (ss : List ℕ). MakesTerms sig f read ss sort)
    (read_sorts sig f info read sorts listed sort makes.constructs.0 there takes)
    (subst (λ (i : SymInfo). MakesTerms sig f i sorts sort)
    (one_symbol sig f info read makes.constructs.0.there there) makes)

pub AreSorts-append : (sig : Signature) (xs ys : List ℕ) → AreSorts sig xs → AreSorts sig ys
    → AreSorts sig (xs ++ ys)
AreSorts-append sig [] ys hx hy = hy
AreSorts-append sig (x ∷ xs) ys hx hy = (hx.0, AreSorts-append sig xs ys hx.1 hy)

pub numbers-append : (xs ys : List SortId)
    → sort_numbers (xs ++ ys) ≡ sort_numbers xs ++ sort_numbers ys
numbers-append [] ys = refl
numbers-append (x ∷ xs) ys = ap (λ (ns : List ℕ). x.0 ∷ ns) (numbers-append xs ys)

pub read_declared : (sig : Signature) (f : ℕ) (info read : SymInfo) (sorts listed : List ℕ)
    (sort : ℕ) → Declares sig f info sorts sort → IsSymbol sig f read
    → read.args.items ≡ map sort_numbered listed → Declares sig f read listed sort
read_declared sig f info read sorts listed sort declared there takes =
    subst (λ (ss : List ℕ). Declares sig f read ss sort)
    (read_sorts sig f info read sorts listed sort declared there takes)
    (subst (λ (i : SymInfo). Declares sig f i sorts sort)
    (one_symbol sig f info read declared.there there) declared)

pub count-plain : (ps : List RulePat) → count_of (plain_patterns ps) ≡ length ps
count-plain [] = refl
count-plain (p ∷ ps) = ap suc (count-plain ps)

-- ---- the sorts that a constructor takes

pub taken_sorts : (sig : Signature) (f : ℕ) (info : SymInfo) (sorts taken : List ℕ) (sort : ℕ)
    → MakesTerms sig f info sorts sort → TakesSorts sig f taken → sorts ≡ taken
taken_sorts sig f info sorts taken sort makes takes =
    read_sorts sig f info takes.info sorts taken sort makes.constructs.0 takes.there takes.takes

pub are_taken : (sig : Signature) (f : ℕ) (info : SymInfo) (sorts taken : List ℕ) (sort : ℕ)
    → MakesTerms sig f info sorts sort → TakesSorts sig f taken → AreSorts sig taken
are_taken sig f info sorts taken sort makes takes =
    subst (AreSorts sig) (taken_sorts sig f info sorts taken sort makes takes) makes.are_sorts.1

-- ---- closed axioms

apart-counts : (f g n m : ℕ) (xs ys ss os : List ℕ) → xs ≡ ss → ys ≡ os → n ≡ length ss
    → m ≡ length os → for_all 0 (ss ++ os) (apart_body f n g m)
    ≡ for_all 0 (xs ++ ys) (apart_body f (length xs) g (length ys))
apart-counts f g n m xs ys ss os first second count others =
    rw (count, others, first, second) refl

pub apart_closes : {E : Type 0} (sig : Signature) (old new : List (List ℕ)) (f g n m : ℕ)
    (differ : HasDifference sig f g) (ss os : List SortId) (body : Pattern)
    (result : Result Pattern E) → TakesSorts sig f (sort_numbers ss)
    → TakesSorts sig g (sort_numbers os) → n ≡ length ss → m ≡ length os
    → sentence_image sig old (apart_body f n g m) ≡ Some body
    → IfOk result (Closes sig old new (sort_numbers ss ++ sort_numbers os) body)
    → IfOk result (IsImageOf sig new (SaysApart sig f g))
apart_closes sig old new f g n m differ ss os body result takes other_takes count others is closes =
    closed_image sig old new (sort_numbers ss ++ sort_numbers os) body (SaysApart sig f g)
    (apart_body f n g m) result
    (record {
      differ = differ.differ;
      info = differ.info;
      other = differ.other;
      sorts = differ.sorts;
      others = differ.others;
      sort = differ.sort;
      first = differ.first.constructs;
      second = differ.second.constructs;
      no_ac = differ.no_ac;
      says =
          apart-counts f g n m differ.sorts differ.others (sort_numbers ss) (sort_numbers os)
          (taken_sorts sig f differ.info differ.sorts (sort_numbers ss) differ.sort differ.first
          takes)
          (taken_sorts sig g differ.other differ.others (sort_numbers os) differ.sort differ.second
          other_takes)
          (count ∙ sym (length-numbers ss)) (others ∙ sym (length-numbers os));
    }) is closes

free-counts : (f n : ℕ) (xs ss os : List ℕ) → xs ≡ ss → xs ≡ os → n ≡ length ss
    → for_all 0 (ss ++ os) (free_body f n) ≡ for_all 0 (xs ++ xs) (free_body f (length xs))
free-counts f n xs ss os first second count =
    ap (λ (k : ℕ). for_all 0 (ss ++ os) (free_body f k)) (count ∙ ap length (sym first))
    ∙ ap (λ (zs : List ℕ). for_all 0 (zs ++ os) (free_body f (length xs))) (sym first)
    ∙ ap (λ (zs : List ℕ). for_all 0 (xs ++ zs) (free_body f (length xs))) (sym second)

pub free_closes : {E : Type 0} (sig : Signature) (old new : List (List ℕ)) (f n : ℕ)
    (free : HasFreedom sig f) (ss os : List SortId) (body : Pattern)
    (result : Result Pattern E) → TakesSorts sig f (sort_numbers ss)
    → TakesSorts sig f (sort_numbers os) → n ≡ length ss
    → sentence_image sig old (free_body f n) ≡ Some body
    → IfOk result (Closes sig old new (sort_numbers ss ++ sort_numbers os) body)
    → IfOk result (IsImageOf sig new (SaysFree sig f))
free_closes sig old new f n free ss os body result takes again count is closes =
    closed_image sig old new (sort_numbers ss ++ sort_numbers os) body (SaysFree sig f)
    (free_body f n) result
    (record {
      info = free.info;
      sorts = free.sorts;
      sort = free.sort;
      constructs = free.makes.constructs;
      no_ac = free.no_ac;
      some = free.some;
      says =
          free-counts f n free.sorts (sort_numbers ss) (sort_numbers os)
          (taken_sorts sig f free.info free.sorts (sort_numbers ss) free.sort free.makes takes)
          (taken_sorts sig f free.info free.sorts (sort_numbers os) free.sort free.makes again)
          (count ∙ sym (length-numbers ss));
    }) is closes

-- ---- the images of what is quantified

pub apart_image : (sig : Signature) (n1 n2 : List (List ℕ)) (f n g m : ℕ) (l u p : Pattern)
    → HasGained sig n1 n2 → sentence_image sig n1 (of_variables f 0 n) ≡ Some l
    → sentence_image sig n2 (of_variables g n m) ≡ Some u → p ≡ logic.not (logic.and l u)
    → sentence_image sig n2 (apart_body f n g m) ≡ Some p
apart_image sig n1 n2 f n g m l u p gained left right is =
    ap (λ (o : Option Pattern). option_map logic.not
    (both logic.and o (sentence_image sig n2 (of_variables g n m))))
    (gained-sentence sig n1 n2 (of_variables f 0 n) gained l left)
    ∙ ap (λ (o : Option Pattern). option_map logic.not (both logic.and (Some l) o)) right
    ∙ ap (λ (q : Pattern). Some q) (sym is)

pub free_image : (sig : Signature) (n1 n2 n3 : List (List ℕ)) (f n : ℕ) (l u h p : Pattern)
    → HasGained sig n1 n2 → HasGained sig n2 n3
    → sentence_image sig n1 (of_variables f 0 n) ≡ Some l
    → sentence_image sig n2 (of_variables f n n) ≡ Some u
    → sentence_image sig n3 (of_pairs f n) ≡ Some h → p ≡ logic.imp (logic.and l u) h
    → sentence_image sig n3 (free_body f n) ≡ Some p
free_image sig n1 n2 n3 f n l u h p first second left right joined is =
    ap (λ (o : Option Pattern). both logic.imp
    (both logic.and o (sentence_image sig n3 (of_variables f n n)))
    (sentence_image sig n3 (of_pairs f n)))
    (gained-sentence sig n1 n3 (of_variables f 0 n) (gained_twice sig n1 n2 n3 first second) l left)
    ∙ ap (λ (o : Option Pattern). both logic.imp (both logic.and (Some l) o)
    (sentence_image sig n3 (of_pairs f n)))
    (gained-sentence sig n2 n3 (of_variables f n n) second u right)
    ∙ ap (λ (o : Option Pattern). both logic.imp (both logic.and (Some l) (Some u)) o) joined
    ∙ ap (λ (q : Pattern). Some q) (sym is)
