-- Axioms about constructors at patterns with variables.
use Rattle.std.proofs.Common.{◌≡◌, ◌+◌, ℕ, zero, suc, List, [], ◌∷◌, Option, Some, length}
use Rattle.std.proofs.Common.{map, sym, ◌∙◌, ap, arith}
use Rattle.ml_pat.specs.Patterns.{Pattern, app, equal, ex, imp, var, constant}
use Rattle.ml_kernel.specs.Theorems.{Theorem, conclusions}
use Rattle.ml_derived.specs.Scopes.{StaysWithin}
use Rattle.term_core.specs.Patterns.{Patterns as RulePatterns, application}
use Rattle.term_core.specs.PatternLists.{plain_patterns}
use Rattle.term_core.specs.declared.rule_patterns.RulePat.{RulePat}
use Rattle.rule_core.specs.Sorting.{sort_at}
use Rattle.rule_core.specs.declared.signature.Signature.{Signature}
use Rattle.rule_core.specs.declared.signature.SymInfo.{SymInfo}
use Rattle.ml_image.specs.Images.{image_of, applied, sort_image}
use Rattle.ml_image.specs.OwnAxioms.{sort_numbered}
use Rattle.prove_term.specs.Contexts.{Context, StaysIn}
use Rattle.prove_term.specs.Applications.{applied_to}
use Rattle.prove_term.specs.Numbered.{variables_from, IsNumbered, HasNumberedArguments}
use Rattle.prove_term.specs.OpenAxioms.{SaysTotalFrom, at_numbered}
use Rattle.prove_term.proofs.ImageShapes.{applied_images}
use Rattle.prove_open.specs.Givens.{IsCovered, IsOverContext}
use Rattle.prove_open.specs.Values.{at_values, values_from, given_from, BindsFrom}
use Rattle.prove_open.specs.Values.{facts_under}
use Rattle.prove_open.specs.Instances.{IsForPatterns, HoldsOfPatterns, IsSomeUnder, IsOneUnder}
use Rattle.prove_open.specs.Elements.{IsElementUnder, AreElementsUnder}
use Rattle.prove_open.specs.declared.givens.Given.{Given}
use Rattle.prove_open.proofs.ValueLaws.{absent-below, open_applied, value_above, values_applied}
use Rattle.prove_open.proofs.ValueLaws.{values_variables, given_all}
use Rattle.prove_open.proofs.CoverLaws.{covered_arguments, is_under}
use Rattle.prove_open.proofs.GatheringLaws.{AreGathered, gathered, same_numbers, same_symbol}

some_same : {A : Type 0} (a b : A) → Some a ≡ Some b → a ≡ b
some_same a b e = cc

-- ---- applications to numbered variables

binds_applied : (m k n : ℕ) (head : Pattern) → BindsFrom m head
    → BindsFrom m (applied_to head (variables_from k n))
binds_applied m k zero head h = h
binds_applied m k (suc n) head h = binds_applied m (k + 1) n (app head (var k)) (h, tt)

pub binds_numbered : (m f k n : ℕ) → BindsFrom m (at_numbered f k n)
binds_numbered m f k n = binds_applied m k n (constant f) tt

-- an application to variables becomes one to their values
pub numbered_values : (e : ℕ → Pattern) (f k n : ℕ) (qs : List Pattern) → given_from e k n ≡ qs
    → at_values e (at_numbered f k n) ≡ applied_to (constant f) qs
numbered_values e f k n qs is =
    values_applied e (constant f) (variables_from k n)
    ∙ ap (applied_to (constant f)) (values_variables e k n ∙ is)

-- ---- the declaration of a constructor

-- the numbers without that of the result
abbrev pub arguments_of : {sig : Signature} {names : List (List ℕ)} {f : ℕ}
    → IsNumbered sig names f → HasNumberedArguments sig names f
arguments_of n = record {
  info = n.info;
  sorts = n.sorts;
  sort = n.sort;
  constructs = n.constructs;
  head = n.numbers.head;
  is_head = n.numbers.is_head;
  numbers = n.numbers.numbers;
  are_numbers = n.numbers.are_numbers;
}

-- the arguments of a constructor, with the numbers of its sorts
pub record AreArguments (cx : Context) (h : Pattern) (k f : ℕ) (ps : RulePatterns)
    (n : HasNumberedArguments cx.program.sig cx.names f) (ts : List Theorem) : Type 0 where
  pub gathered : AreGathered cx h k ps n.sorts ts
  pub say : conclusions ts ≡ facts_under h gathered.qs n.numbers
  pub many : length gathered.qs ≡ length n.numbers

pub arguments : (cx : Context) (sorts : List ℕ) (g : Given) (f : ℕ) (args : List RulePat)
    (sort : ℕ) (ts : List Theorem) (n : HasNumberedArguments cx.program.sig cx.names f)
    → IsCovered cx.program.sig sorts g (application f (plain_patterns args)) sort
    → AreElementsUnder cx sorts g args ts
    → AreArguments cx g.hypothesis (length sorts) f (plain_patterns args) n ts
arguments cx sorts g f args sort ts n c elements =
    let info_is : c.sorted.0 ≡ n.info =
    same_symbol cx.program.sig f c.sorted.0 n.info c.sorted.1 n.constructs.0.there in
    let takes : c.sorted.0.args.items ≡ map sort_numbered n.sorts =
    ap (λ (i : SymInfo). i.args.items) info_is ∙ n.constructs.0.takes in
    let all : AreGathered cx g.hypothesis (length sorts) (plain_patterns args) n.sorts ts =
    gathered cx sorts g args c.sorted.0.args.items n.sorts ts
    (covered_arguments cx.program.sig sorts g f (plain_patterns args) sort c) takes elements in
    let same : all.numbers ≡ n.numbers =
    same_numbers cx.program.sig cx.names n.sorts all.numbers n.numbers all.are_numbers
    n.are_numbers in
    record {
      gathered = all;
      say = all.say ∙ ap (facts_under g.hypothesis all.qs) same;
      many = all.many ∙ ap (λ (ns : List ℕ). length ns) same;
    }

pub arguments_image : (cx : Context) (h : Pattern) (k f : ℕ) (ps : RulePatterns)
    (n : HasNumberedArguments cx.program.sig cx.names f) (ts : List Theorem)
    (a : AreArguments cx h k f ps n ts)
    → image_of cx.program.sig cx.names (application f ps)
    ≡ Some (applied_to (constant n.head) a.gathered.qs)
arguments_image cx h k f ps n ts a =
    ap (λ (o : Option Pattern). applied cx.program.sig cx.names o ps) n.is_head
    ∙ applied_images cx.program.sig cx.names ps a.gathered.qs (constant n.head)
    a.gathered.are_images

pub result_number : (cx : Context) (sorts : List ℕ) (g : Given) (f : ℕ) (ps : RulePatterns)
    (sort : ℕ) (n : IsNumbered cx.program.sig cx.names f)
    → IsCovered cx.program.sig sorts g (application f ps) sort
    → sort_image cx.program.sig cx.names sort ≡ Some n.numbers.number
result_number cx sorts g f ps sort n c =
    let info_is : c.sorted.0 ≡ n.info =
    same_symbol cx.program.sig f c.sorted.0 n.info c.sorted.1 n.constructs.0.there in
    let sort_is : sort ≡ n.sort =
    some_same sort n.sort (sym c.sorted.3
    ∙ ap (λ (i : SymInfo). sort_at [] i.result) info_is ∙ ap (sort_at []) n.constructs.0.makes) in
    ap (sort_image cx.program.sig cx.names) sort_is ∙ n.numbers.is_number

-- ---- a constructor is total

pub total_for : (cx : Context) (h : Pattern) (k f : ℕ) (ps : RulePatterns) (p : Pattern)
    (ts : List Theorem) (says : SaysTotalFrom cx f k p)
    → AreArguments cx h k f ps (arguments_of says.numbered) ts
    → IsForPatterns h p (conclusions ts)
total_for cx h k f ps p ts says a =
    let n : IsNumbered cx.program.sig cx.names f = says.numbered in
    record {
      k = k;
      numbers = says.numbered.numbers.numbers;
      body =
          ex (k + length says.numbered.numbers.numbers) says.numbered.numbers.number
          (equal (var (k + length says.numbered.numbers.numbers))
          (at_numbered says.numbered.numbers.head k (length says.numbered.numbers.numbers)));
      qs = a.gathered.qs;
      is = says.says;
      binds = (
        omega (arith, a.many),
        (
          tt,
          binds_numbered (k + length a.gathered.qs) says.numbered.numbers.head k
              (length says.numbered.numbers.numbers),
        ),
      );
      facts_are = a.say;
      many = a.many;
      below = a.gathered.below;
    }

two_same : (f : Pattern → Pattern → Pattern) (p q r t : Pattern) → p ≡ r → q ≡ t → f p q ≡ f r t
two_same f p q r t e i = ap (λ (a : Pattern). f a q) e ∙ ap (f r) i

all_given : (k n : ℕ) (qs : List Pattern) → length qs ≡ n
    → given_from (values_from k qs) k n ≡ qs
all_given k n qs many =
    ap (given_from (values_from k qs) k) (sym many) ∙ given_all k qs

total_made : (k n f number : ℕ) (qs : List Pattern) → length qs ≡ n
    → at_values (values_from k qs) (ex (k + n) number (equal (var (k + n)) (at_numbered f k n)))
    ≡ ex (k + n) number (equal (var (k + n)) (applied_to (constant f) qs))
total_made k n f number qs many =
    ap (ex (k + n) number)
    (two_same equal (values_from k qs (k + n)) (at_values (values_from k qs) (at_numbered f k n))
    (var (k + n)) (applied_to (constant f) qs)
    (value_above k (k + n) qs (omega (arith, many)))
    (numbered_values (values_from k qs) f k n qs (all_given k n qs many)))

-- what is known after the axiom was taken at the arguments
pub record IsTotal (cx : Context) (sorts : List ℕ) (g : Given) (f : ℕ) (args : List RulePat)
    (total some : Theorem) (ts : List Theorem) : Type 0 where
  pub over : IsOverContext cx g.hypothesis
  pub says : SaysTotalFrom cx f (length sorts) total.conclusion
  pub total_stays : StaysIn cx total
  pub elements : AreElementsUnder cx sorts g args ts
  pub holds : HoldsOfPatterns g.hypothesis total.conclusion (conclusions ts) some.conclusion
  pub stays : StaysWithin (g.hypothesis ∷ []) (total ∷ ts) some

pub total_some : (cx : Context) (sorts : List ℕ) (g : Given) (f : ℕ) (args : List RulePat)
    (total some : Theorem) (ts : List Theorem) (sort : ℕ) → IsTotal cx sorts g f args total some ts
    → IsCovered cx.program.sig sorts g (application f (plain_patterns args)) sort
    → IsSomeUnder some.conclusion
unfolding total_for
total_some cx sorts g f args total some ts sort t c =
    let n : IsNumbered cx.program.sig cx.names f = t.says.numbered in
    let a : AreArguments cx g.hypothesis (length sorts) f (plain_patterns args) (arguments_of t.says.numbered) ts =
    arguments cx sorts g f args sort ts (arguments_of t.says.numbered) c t.elements in
    record {
      h = g.hypothesis;
      variable = length sorts + length t.says.numbered.numbers.numbers;
      sort = t.says.numbered.numbers.number;
      made = applied_to (constant t.says.numbered.numbers.head) a.gathered.qs;
      is =
          t.holds (total_for cx g.hypothesis (length sorts) f (plain_patterns args)
          total.conclusion ts t.says a)
          ∙ ap (imp g.hypothesis) (total_made (length sorts)
          (length t.says.numbered.numbers.numbers) t.says.numbered.numbers.head
          t.says.numbered.numbers.number a.gathered.qs a.many);
      absent =
          absent-below (length sorts) (length sorts + length t.says.numbered.numbers.numbers)
          (applied_to (constant t.says.numbered.numbers.head) a.gathered.qs)
          (open_applied (length sorts) (constant t.says.numbered.numbers.head) a.gathered.qs tt
          a.gathered.below) (omega arith);
    }

pub total_element : (cx : Context) (sorts : List ℕ) (g : Given) (f : ℕ) (args : List RulePat)
    (total some made : Theorem) (ts : List Theorem) → IsTotal cx sorts g f args total some ts
    → IsOneUnder some.conclusion made.conclusion → StaysWithin [] (some ∷ []) made
    → IsElementUnder cx sorts g (application f (plain_patterns args)) made
unfolding total_some
total_element cx sorts g f args total some made ts t one stays = λ sort c.
    let n : IsNumbered cx.program.sig cx.names f = t.says.numbered in
    let a : AreArguments cx g.hypothesis (length sorts) f (plain_patterns args) (arguments_of t.says.numbered) ts =
    arguments cx sorts g f args sort ts (arguments_of t.says.numbered) c t.elements in
    is_under cx g.hypothesis (length sorts) (application f (plain_patterns args)) sort
    (applied_to (constant t.says.numbered.numbers.head) a.gathered.qs) made
    (arguments_image cx g.hypothesis (length sorts) f (plain_patterns args) (arguments_of t.says.numbered) ts a)
    (record {
      number = t.says.numbered.numbers.number;
      is_number = result_number cx sorts g f (plain_patterns args) sort t.says.numbered c;
      says = one (total_some cx sorts g f args total some ts sort t c);
      below =
          open_applied (length sorts) (constant t.says.numbered.numbers.head) a.gathered.qs tt
          a.gathered.below;
      stays =
          λ s has. stays s tt
          (t.stays s (t.over s has, tt) (t.total_stays s has, a.gathered.stay s has), tt);
    })
