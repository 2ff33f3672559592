use Rattle.std.proofs.Common.{◌≡◌, ◌∙◌, sym, refl, subst, arith, List, Bool, map}
use Rattle.std.proofs.Common.{length}
use Rattle.std.specs.Prelude.{Vec}
use Rattle.std.specs.Global.{Global}
use Rattle.std.specs.List.{AllZip}
use Rattle.std.proofs.lemmas.Slice.Zip.{AllZip-long}
use Rattle.rule_core.specs.ProgramView.{rewrite_rule, function_equation}
use Rattle.rule_core.specs.Rules.{RewriteRule}
use Rattle.rule_core.specs.declared.rules.Equation.{Equation}
use Rattle.rule_core.specs.declared.rules.Rule.{Rule}
use Rattle.kore_axioms.specs.AxiomMeanings.{MeansRule}
use Rattle.kore_rules.specs.AxiomsRead.{tree_at}
use Rattle.kore_rules.specs.LastResortsRead.{AreAllListed}
use Rattle.kore_rules.specs.Programs.{IsSymbolOf}
use Rattle.kore_rules.specs.ScalarSorts.{IsFinal}
use Rattle.kore_rules.specs.TrialOrder.{rule_key}
use Rattle.kore_rules.proofs.ProgramLaws.{length_mapped, read_apart, rules_are, symbols_are}
use Rattle.kore_rules.proofs.ProgramLaws.{equations_are, few_rules, few_equations, was_listed}
use Rattle.kore_rules.proofs.ProgramLaws.{moved_rules, AreEmptied}
use Rattle.kore_rules.proofs.acceptance.program_under.Goals as goal

pub empty_others-requires : goal.empty_others-requires
empty_others-requires c =
    c.in_ok-equations.ensures.len
    ∙ sym (AllZip-long (IsFinal c.args.sig c.deref.result.now c.deref-2.result.now)
    c.args.sig.symbols c.in_ok-symbols.symbols c.in_ok-symbols.ensures)

pub returns : goal.returns
returns c =
    let sig = c.args.sig in
    let axioms = map tree_at c.args.axioms.now in
    let made = c.in_ok-symbols.symbols in
    let old_rules = c.args.readings.rules.items in
    let rules = c.put_rules_in_order.new.rules.items in
    let old : List (Vec Equation Global) = c.in_ok-equations.field-0.lists.items in
    let new : List (Vec Equation Global) = c.empty_others.new.lists.items in
    let marks = c.in_ok-with_terms.with_terms.items in
    let unreadable = c.in_ok-equations.field-0.unreadable.items in
    let final : AllZip (IsFinal sig marks unreadable) sig.symbols made =
    subst (λ (ms : List Bool). AllZip (IsFinal sig ms unreadable) sig.symbols made)
    c.deref.ensures.value
    (subst (λ (us : List Bool). AllZip (IsFinal sig c.deref.result.now us) sig.symbols made)
    c.deref-2.ensures.value c.in_ok-symbols.ensures) in
    let long : length made ≡ length sig.symbols =
    AllZip-long (IsFinal sig marks unreadable) sig.symbols made final in
    let symbols : AllZip (IsSymbolOf sig axioms) sig.symbols made =
    symbols_are sig axioms marks unreadable made c.requires.pairs c.in_ok-with_terms.ensures
    c.in_ok-equations.ensures.unreadable final in
    let apart =
    read_apart (MeansRule sig) (λ (r : RewriteRule). r.place) rewrite_rule rule_key axioms
    old_rules (λ (r : Rule). refl) c.requires.few c.requires.read.rules in
    let all : AreAllListed sig axioms old = c.in_ok-equations.ensures.listed in
    let emptied : AreEmptied made old new = c.empty_others.ensures.listed in
    record {
      means = record {
        sorts = refl;
        symbols = symbols;
        subsorts = refl;
        rules =
            rules_are sig axioms old_rules rules c.requires.read.rules
            c.in_ok-put_rules_in_order.ensures.permutation
            (c.in_ok-put_rules_in_order.ensures.in_order apart);
        listed = length_mapped (λ (es : Vec Equation Global). map function_equation es.items) new
            ∙ c.empty_others.ensures.len ∙ c.in_ok-equations.ensures.len ∙ sym long;
        equations = λ n f info there.
            equations_are sig axioms made old new n f info c.requires.distinct symbols all emptied
            there;
      };
      named = record {
        rules =
            moved_rules sig axioms old_rules rules c.requires.read.named_rules
            c.in_ok-put_rules_in_order.ensures.permutation;
        equations = λ f i e at. all.named f e (was_listed made old new f i at.0 e emptied at.1 at.2);
      };
      top = refl;
      numbered =
          (c.requires.numbered.0, (let few = c.requires.numbered.1 in omega (arith, few, long)));
      rules =
          few_rules sig axioms old_rules rules c.requires.few c.requires.read.rules
          c.in_ok-put_rules_in_order.ensures.permutation;
      own = λ f i e at. all.own f e (was_listed made old new f i at.0 e emptied at.1 at.2);
      equations = λ f. few_equations sig axioms made old new f c.requires.few all emptied;
    }
