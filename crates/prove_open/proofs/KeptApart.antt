-- Two different constructors of patterns with variables have nothing in common.
use Rattle.std.proofs.Common.{◌≡◌, ◌≢◌, ◌+◌, ◌++◌, ℕ, List, [], ◌∷◌, Option, Some, length}
use Rattle.std.proofs.Common.{sym, ◌∙◌, ap, subst, arith, length-append}
use Rattle.ml_pat.specs.Patterns.{Pattern, and, imp, not, constant}
use Rattle.ml_kernel.specs.Theorems.{Theorem, conclusions}
use Rattle.ml_derived.specs.Scopes.{StaysWithin}
use Rattle.term_core.specs.Patterns.{Pattern as RulePattern, Patterns as RulePatterns, application}
use Rattle.term_core.specs.PatternLists.{plain_patterns}
use Rattle.term_core.specs.declared.rule_patterns.RulePat.{RulePat}
use Rattle.rule_core.specs.AcSymbols.{IsAcFree}
use Rattle.rule_core.specs.Sorting.{IsSymbol, sort_at}
use Rattle.rule_core.specs.WellSorted.{IsReference, IsSignature}
use Rattle.rule_core.specs.declared.signature.Signature.{Signature}
use Rattle.rule_core.specs.declared.signature.SymInfo.{SymInfo}
use Rattle.rule_core.specs.declared.signature.SymKind.TheVariants.{Ctor}
use Rattle.ml_image.specs.Images.{both, image_of}
use Rattle.ml_image.specs.OwnAxioms.{sort_numbered}
use Rattle.ml_image.specs.Sentences as sentence
use Rattle.prove_term.specs.Applications.{applied_to}
use Rattle.prove_term.specs.Contexts.{Context}
use Rattle.prove_term.specs.OpenAxioms.{SaysApartFrom, AreApartConstructors, at_numbered}
use Rattle.prove_open.specs.Elements.{AreBothUnder}
use Rattle.prove_open.specs.FactSides.{AreCoveredAlike, AreKeptApart, IsDenied, IsDeniedBy}
use Rattle.prove_open.specs.Givens.{IsCovered}
use Rattle.prove_open.specs.Instances.{IsForPatterns}
use Rattle.prove_open.specs.Values.{facts_under}
use Rattle.prove_open.specs.declared.givens.Given.{Given}
use Rattle.prove_term.proofs.Instances.{conclusions-append}
use Rattle.prove_open.proofs.ConstructingLaws.{arguments_image, binds_numbered}
use Rattle.prove_open.proofs.FactSideLaws.{name_of}
use Rattle.prove_open.proofs.FactsTaken.{two_lists}
use Rattle.prove_open.proofs.FreedomLaws.{AreBoth, both_arguments, both_stay, IsOfBoth}
use Rattle.prove_open.proofs.FreedomLaws.{facts_joined, two_applications, not_ac}
use Rattle.prove_open.proofs.ValueLaws.{all_open_joined}

-- ---- which constructors

result_of : (sig : Signature) (f : ℕ) (info : SymInfo) (sort : ℕ) → IsSignature sig
    → IsSymbol sig f info → info.kind ≡ Ctor → sort_at [] info.result ≡ Some sort
    → info.result ≡ sort_numbered sort
result_of sig f info sort ok there constructs at =
    name_of sig info.result sort
    (subst (λ (n : ℕ). IsReference sig n info.result) (ok.constructors f info there constructs)
    (ok.declared f info there).result) at

pub apart_constructors : (sig : Signature) (sorts : List ℕ) (g : Given) (first second : ℕ)
    (ps qs : RulePatterns) → IsSignature sig → IsAcFree sig → first ≢ second
    → AreCoveredAlike sig sorts g (application first ps) (application second qs)
    → AreApartConstructors sig first second
apart_constructors sig sorts g first second ps qs ok free differ (sort, c, d) = record {
  differ = differ;
  info = c.sorted.0;
  other = d.sorted.0;
  there = c.sorted.1;
  other_there = d.sorted.1;
  construct = (c.sorted.2, d.sorted.2);
  same_result =
      result_of sig first c.sorted.0 sort ok c.sorted.1 c.sorted.2 c.sorted.3
      ∙ sym (result_of sig second d.sorted.0 sort ok d.sorted.1 d.sorted.2 d.sorted.3);
  no_ac = (
    not_ac sig first c.sorted.0 free c.sorted.1 c.sorted.2,
    not_ac sig second d.sorted.0 free d.sorted.1 d.sorted.2,
  );
}

-- ---- the axiom at the arguments

pub apart_for : (cx : Context) (h : Pattern) (k f g : ℕ) (ps qs : RulePatterns) (p : Pattern)
    (ts : List Theorem) (says : SaysApartFrom cx f g k p)
    → AreBoth cx h k f g ps qs says.first says.second ts → IsForPatterns h p (conclusions ts)
apart_for cx h k f g ps qs p ts says b = record {
  k = k;
  numbers = says.first.numbers ++ says.second.numbers;
  body =
      not (and (at_numbered says.first.head k (length says.first.numbers))
      (at_numbered says.second.head (k + length says.first.numbers)
      (length says.second.numbers)));
  qs = b.lefts.gathered.qs ++ b.rights.gathered.qs;
  is = says.says;
  binds = (
    binds_numbered (k + length (b.lefts.gathered.qs ++ b.rights.gathered.qs)) says.first.head k
        (length says.first.numbers),
    binds_numbered (k + length (b.lefts.gathered.qs ++ b.rights.gathered.qs)) says.second.head
        (k + length says.first.numbers) (length says.second.numbers),
  );
  facts_are =
      ap conclusions b.are ∙ conclusions-append b.first b.second
      ∙ two_lists (conclusions b.first) (conclusions b.second)
      (facts_under h b.lefts.gathered.qs says.first.numbers)
      (facts_under h b.rights.gathered.qs says.second.numbers) b.lefts.say b.rights.say
      ∙ sym (facts_joined h b.lefts.gathered.qs b.rights.gathered.qs says.first.numbers
      says.second.numbers b.lefts.many);
  many =
      omega (
        arith,
        length-append b.lefts.gathered.qs b.rights.gathered.qs,
        length-append says.first.numbers says.second.numbers,
        b.lefts.many,
        b.rights.many,
      );
  below =
      all_open_joined k b.lefts.gathered.qs b.rights.gathered.qs b.lefts.gathered.below
      b.rights.gathered.below;
}

pub apart_under : (cx : Context) (sorts : List ℕ) (given : Given) (f g : ℕ) (ps qs : List RulePat)
    (sort other : ℕ) (stated : Theorem) (ts : List Theorem) (t : Theorem)
    → SaysApartFrom cx f g (length sorts) stated.conclusion
    → IsCovered cx.program.sig sorts given (application f (plain_patterns ps)) sort
    → IsCovered cx.program.sig sorts given (application g (plain_patterns qs)) other
    → AreBothUnder cx sorts given ps qs ts → IsOfBoth cx given stated ts t
    → AreKeptApart cx given.hypothesis (application f (plain_patterns ps))
    (application g (plain_patterns qs)) t
unfolding apart_for
apart_under cx sorts given f g ps qs sort other stated ts t says c d both_are o =
    let b : AreBoth cx given.hypothesis (length sorts) f g (plain_patterns ps) (plain_patterns qs)
    says.first says.second ts =
    both_arguments cx sorts given f g ps qs sort other ts says.first says.second c d both_are in
    record {
      left = applied_to (constant says.first.head) b.lefts.gathered.qs;
      right = applied_to (constant says.second.head) b.rights.gathered.qs;
      is_left =
          arguments_image cx given.hypothesis (length sorts) f (plain_patterns ps) says.first
          b.first b.lefts;
      is_right =
          arguments_image cx given.hypothesis (length sorts) g (plain_patterns qs) says.second
          b.second b.rights;
      says =
          o.holds
          (apart_for cx given.hypothesis (length sorts) f g (plain_patterns ps)
          (plain_patterns qs) stated.conclusion ts says b)
          ∙ ap (λ (r : Pattern). imp given.hypothesis (not r))
          (two_applications (length sorts) (length says.first.numbers)
          (length says.second.numbers) says.first.head says.second.head b.lefts.gathered.qs
          b.rights.gathered.qs b.lefts.many b.rights.many);
      stays =
          both_stay cx given (length sorts) f g (plain_patterns ps) (plain_patterns qs)
          says.first says.second stated ts t b o;
    }

-- ---- denied

pub kept_denied : (cx : Context) (h : Pattern) (p q : RulePattern) (apart made : Theorem)
    → AreKeptApart cx h p q apart → IsDeniedBy h apart.conclusion made.conclusion
    → StaysWithin [] (apart ∷ []) made
    → IsDenied cx h (sentence.and (sentence.term p) (sentence.term q)) made
kept_denied cx h p q apart made a denied stays = record {
  says = record {
    image = and a.left a.right;
    is_image =
        ap (λ (o : Option Pattern). both and o (image_of cx.program.sig cx.names q)) a.is_left
        ∙ ap (both and (Some a.left)) a.is_right;
    says = denied (and a.left a.right) a.says;
  };
  stays = λ s has. stays s tt (a.stays s has, tt);
}
