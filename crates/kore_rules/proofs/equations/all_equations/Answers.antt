use Rattle.std.proofs.Common.{◌∙◌, ℕ, sym, refl, subst, length, map}
use Rattle.rule_core.specs.Rules as plain
use Rattle.rule_core.specs.declared.rules.Equation.{Equation}
use Rattle.kore_equations.specs.EquationMeanings.{MeansEquation}
use Rattle.kore_rules.specs.AxiomsRead.{IsNumberedEquation, numbered_equation, tree_at}
use Rattle.kore_rules.specs.EquationsAmong.{IsLastResortAmong}
use Rattle.kore_rules.specs.LastResortsRead.{AreOthers, IsNumberedLast, HaveReadLast}
use Rattle.kore_rules.specs.TrialOrder.{equation_key}
use Rattle.kore_rules.specs.declared.last_resorts.LastResorts.{LastResorts}
use Rattle.kore_rules.proofs.AllListed.{others_are, all_listed, all_marked}
use Rattle.kore_rules.proofs.ProgramLaws.{functions_there, read_apart}
use Rattle.kore_rules.proofs.equations.all_equations.Goals as goal

pub by_function-requires : goal.by_function-requires
by_function-requires c =
    functions_there c.args.sig.now (MeansEquation c.args.sig.now) (map tree_at c.args.axioms.now)
    c.len.result c.args.equations.items c.put_equations_in_order.new.equations.items
    c.len.ensures c.requires.equations c.in_ok-put_equations_in_order.ensures.permutation

pub read_last_resorts-requires-clause-others : goal.read_last_resorts-requires-clause-others
read_last_resorts-requires-clause-others c =
    let sig = c.args.sig.now in
    let axioms = map tree_at c.args.axioms.now in
    let old = c.args.equations.items in
    let apart =
    read_apart (IsNumberedEquation sig) (λ (e : ℕ × plain.Equation). e.1.place) numbered_equation
    equation_key axioms old (λ (e : Equation). refl) c.requires.few c.requires.equations in
    subst (AreOthers sig axioms) (sym c.deref.ensures.value)
    (others_are sig axioms old c.put_equations_in_order.new.equations.items
    c.in_ok-lists.lists.items c.requires.equations
    c.in_ok-put_equations_in_order.ensures.permutation
    (c.in_ok-put_equations_in_order.ensures.in_order apart) c.in_ok-lists.ensures.listed)

pub add_all-requires : goal.add_all-requires
add_all-requires c =
    let sig = c.args.sig.now in
    let axioms = map tree_at c.args.axioms.now in
    let read : LastResorts = c.in_ok-equations.field-0 in
    let had : HaveReadLast sig axioms axioms c.args.unreadable.items read =
    c.in_ok-equations.ensures in
    functions_there sig (IsLastResortAmong sig axioms) axioms (length c.in_ok-lists.lists.items)
    read.equations.items c.put_equations_in_order-2.new.equations.items
    (c.in_ok-lists.ensures.len ∙ c.len.ensures) had.equations
    c.in_ok-put_equations_in_order-2.ensures.permutation

pub returns : goal.returns
returns c =
    let sig = c.args.sig.now in
    let axioms = map tree_at c.args.axioms.now in
    let old = c.args.equations.items in
    let new = c.put_equations_in_order.new.equations.items in
    let read : LastResorts = c.in_ok-equations.field-0 in
    let last = c.put_equations_in_order-2.new.equations.items in
    let had : HaveReadLast sig axioms axioms c.args.unreadable.items read =
    c.in_ok-equations.ensures in
    let apart =
    read_apart (IsNumberedEquation sig) (λ (e : ℕ × plain.Equation). e.1.place) numbered_equation
    equation_key axioms old (λ (e : Equation). refl) c.requires.few c.requires.equations in
    let apart_too =
    read_apart (IsNumberedLast sig axioms) (λ (e : ℕ × plain.Equation). e.1.place)
    numbered_equation equation_key axioms read.equations.items (λ (e : Equation). refl)
    c.requires.few had.equations in
    record {
      len = c.in_ok-add_all.ensures.len ∙ c.in_ok-lists.ensures.len ∙ c.len.ensures;
      listed =
          all_listed sig axioms old new last c.in_ok-lists.lists.items c.add_all.new.lists.items
          c.args.unreadable.items read c.requires.equations c.requires.named c.requires.ordinary
          c.in_ok-put_equations_in_order.ensures.permutation
          (c.in_ok-put_equations_in_order.ensures.in_order apart) c.in_ok-lists.ensures.listed had
          c.in_ok-put_equations_in_order-2.ensures.permutation
          (c.in_ok-put_equations_in_order-2.ensures.in_order apart_too)
          c.in_ok-add_all.ensures.listed;
      unreadable =
          all_marked sig axioms c.args.unreadable.items read c.requires.signature
          c.requires.unreadable had;
    }
