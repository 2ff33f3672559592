use Rattle.std.proofs.Common.{◌<◌, length, ◌∙◌, ap, sym, arith, List, [], ◌∷◌, ◌++◌, cond, append_assoc}
use Rattle.std.specs.Prelude.{filter, ◌==◌}
use Rattle.std.proofs.lemmas.Iterator.Adapters.{YieldsList-from_vec}
use Rattle.std.proofs.lemmas.Iterator.Consumers.{YieldsList-turn, YieldsList-end}
use Rattle.std.proofs.lemmas.List.{map-id}
use Rattle.std.proofs.lemmas.List.Elements.{filter-append, All-contains}
use Rattle.rule_core.specs.declared.rules.Equation.{Equation}
use Rattle.kore_rules.specs.TrialOrder.{is_of, listed_at}
use Rattle.kore_rules.proofs.ListedLaws.{placed}
use Rattle.kore_rules.proofs.order.add_all.Goals as goal

pub add-requires : goal.add-requires
add-requires c =
    let gives = c.into_iter-equation-iterator.ensures.into_iter_gives in
    let turn =
    YieldsList-turn
    (YieldsList-from_vec c.args.equations.items gives.0 (gives.1 ∙ c.args.equations.ok.0))
    c.loop-equation.yielded c.loop-equation.equation-iterator c.loop-equation.yielded_by
    c.next.result c.next.new.self c.in-Some.equation c.in-Some.is c.next.ensures.steps in
    let len = c.loop-equation.invariant.len in
    let fits =
    All-contains (λ (e : Equation). e.fun.0 < length c.args.lists.now.items)
    c.args.equations.items
    c.in-Some.equation c.requires (length c.loop-equation.yielded, turn.0, sym turn.1) in
    omega (arith, len, fits)

pub loop-equation-preserved : goal.loop-equation-preserved
loop-equation-preserved c =
    let e : Equation = c.in-Some.equation in
    record {
      len = c.in_ok-add.ensures.len ∙ c.loop-equation.invariant.len;
      listed = λ n.
          let old : List Equation = listed_at c.args.lists.now.items n in
          let so_far : List Equation = filter (is_of n) c.loop-equation.yielded in
          c.in_ok-add.ensures.listed n
          ∙ placed (e.fun.0 == n) (listed_at c.loop-equation.lists.items n) e
          ∙ ap (λ (es : List Equation). es ++ cond (e.fun.0 == n) (e ∷ []) [])
          (c.loop-equation.invariant.listed n)
          ∙ append_assoc old so_far (cond (e.fun.0 == n) (e ∷ []) [])
          ∙ ap (λ (es : List Equation). old ++ es)
          (sym (filter-append (is_of n) c.loop-equation.yielded (e ∷ [])));
    }

pub returns : goal.returns
returns c =
    let gives = c.into_iter-equation-iterator.ensures.into_iter_gives in
    let end =
    YieldsList-end
    (YieldsList-from_vec c.args.equations.items gives.0 (gives.1 ∙ c.args.equations.ok.0))
    c.loop-equation.yielded c.loop-equation.equation-iterator c.loop-equation.yielded_by
    c.next.result c.next.new.self c.in-None.is c.next.ensures.steps in
    record {
      len = c.loop-equation.invariant.len;
      listed =
          λ n. c.loop-equation.invariant.listed n
          ∙ ap (λ (es : List Equation). listed_at c.args.lists.now.items n ++ filter (is_of n) es)
          (sym (map-id c.loop-equation.yielded) ∙ end.0);
    }
