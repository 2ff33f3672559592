use Rattle.std.proofs.Common.{◌≡◌, ◌<◌, ◌+◌, ℕ, List, [], ◌∷◌, ◌++◌, length, map, drop, Some, true, false}
use Rattle.std.proofs.Common.{subst, sym, ◌∙◌, ap, arith}
use Rattle.std.proofs.lemmas.List.{drop_all, length-map}
use Rattle.kore_ast.specs.Plain.{pattern_tree}
use Rattle.kore_text.specs.Trees.{PatternTree}
use Rattle.kore_check.specs.Folds.{unfolded}
use Rattle.kore_check.specs.PartNames.{number_of_variable}
use Rattle.kore_check.proofs.Items.{drop-item}
use Rattle.kore_shapes.specs.Views.{pattern_at}
use Rattle.kore_equations.specs.Marks.{is_marked}
use Rattle.kore_equations.proofs.OrderLaws.{AreNumbersBefore, AreMarked, one_more, one_more_marked}
use Rattle.kore_equations.proofs.OrderLaws.{none_stops, twice_stops, variable_within, all_numbered}
use Rattle.kore_equations.proofs.OrderLaws.{get_or_default}
use Rattle.kore_equations.proofs.guards.order_of.Goals as goal

pub returns-in_default : goal.returns-in_default
returns-in_default c =
    let sig = c.args.sig.now in
    let vars = c.args.vars.now in
    let all = map pattern_at c.args.quantified.now in
    let rest = map pattern_at (drop (c.loop-pat.pat-index + 1) c.args.quantified.now) in
    none_stops sig vars all rest (pattern_at c.pat-item.result) c.loop-pat.order.items
    (sym c.number_of.ensures ∙ c.in_default.is)
    (subst (λ (xs : List PatternTree). AreNumbersBefore sig vars all xs c.loop-pat.order.items)
    (ap (map pattern_at) (drop-item c.args.quantified.now c.loop-pat.pat-index c.pat-item.result
    c.loop-pat-test.true c.pat-item.is)) c.loop-pat.invariant.0)

pub index-requires : goal.index-requires
index-requires c =
    let within : c.in-Some.number < length c.args.vars.now =
    variable_within c.args.sig.now c.args.vars.now (unfolded (pattern_at c.pat-item.result))
    c.in-Some.number (sym c.number_of.ensures ∙ c.in-Some.is) in
    let many : length c.loop-pat.seen.items ≡ length c.args.vars.now =
    c.loop-pat.invariant.1.marked in
    omega (arith, within, many)

pub returns-then-index : goal.returns-then-index
returns-then-index c =
    let sig = c.args.sig.now in
    let vars = c.args.vars.now in
    let n : ℕ = c.in-Some.number in
    let all = map pattern_at c.args.quantified.now in
    let rest = map pattern_at (drop (c.loop-pat.pat-index + 1) c.args.quantified.now) in
    let number : number_of_variable sig vars (unfolded (pattern_at c.pat-item.result)) ≡ Some n =
    sym c.number_of.ensures ∙ c.in-Some.is in
    let within : n < length vars =
    variable_within sig vars (unfolded (pattern_at c.pat-item.result)) n number in
    let many : length c.loop-pat.seen.items ≡ length vars = c.loop-pat.invariant.1.marked in
    let set : is_marked c.loop-pat.seen.items n ≡ true =
    get_or_default c.loop-pat.seen.items n false c.index.result.now (omega (arith, within, many))
    ∙ sym c.index.ensures ∙ c.if-index.true in
    twice_stops sig vars all rest (pattern_at c.pat-item.result) c.loop-pat.order.items n number
    (subst (λ (xs : List PatternTree). AreNumbersBefore sig vars all xs c.loop-pat.order.items)
    (ap (map pattern_at) (drop-item c.args.quantified.now c.loop-pat.pat-index c.pat-item.result
    c.loop-pat-test.true c.pat-item.is)) c.loop-pat.invariant.0)
    ((c.loop-pat.invariant.1.seen n).0 set)

pub mark-requires : goal.mark-requires
mark-requires c =
    let within : c.in-Some.number < length c.args.vars.now =
    variable_within c.args.sig.now c.args.vars.now (unfolded (pattern_at c.pat-item.result))
    c.in-Some.number (sym c.number_of.ensures ∙ c.in-Some.is) in
    let many : length c.loop-pat.seen.items ≡ length c.args.vars.now =
    c.loop-pat.invariant.1.marked in
    omega (arith, within, many)

pub loop-pat-preserved : goal.loop-pat-preserved
loop-pat-preserved c =
    let sig = c.args.sig.now in
    let vars = c.args.vars.now in
    let n : ℕ = c.in-Some.number in
    let all = map pattern_at c.args.quantified.now in
    let rest = map pattern_at (drop (c.loop-pat.pat-index + 1) c.args.quantified.now) in
    let number : number_of_variable sig vars (unfolded (pattern_at c.pat-item.result)) ≡ Some n =
    sym c.number_of.ensures ∙ c.in-Some.is in
    let within : n < length vars =
    variable_within sig vars (unfolded (pattern_at c.pat-item.result)) n number in
    let many : length c.loop-pat.seen.items ≡ length vars = c.loop-pat.invariant.1.marked in
    let unset : is_marked c.loop-pat.seen.items n ≡ false =
    get_or_default c.loop-pat.seen.items n false c.index.result.now (omega (arith, within, many))
    ∙ sym c.index.ensures ∙ c.if-index.false in (
      subst (λ (ns : List ℕ). AreNumbersBefore sig vars all rest ns) (sym c.in_ok-push.ensures.items)
          (one_more sig vars all rest (pattern_at c.pat-item.result) c.loop-pat.order.items n number
          (subst (λ (xs : List PatternTree).
          AreNumbersBefore sig vars all xs c.loop-pat.order.items)
          (ap (map pattern_at) (drop-item c.args.quantified.now c.loop-pat.pat-index
          c.pat-item.result c.loop-pat-test.true c.pat-item.is)) c.loop-pat.invariant.0)),
      subst (λ (ns : List ℕ). AreMarked (length vars) ns c.mark.new.marks.items)
          (sym c.in_ok-push.ensures.items)
          (one_more_marked (length vars) c.loop-pat.order.items c.loop-pat.seen.items
          c.mark.new.marks.items n unset c.mark.ensures.len c.mark.ensures.marked
          c.loop-pat.invariant.1),
    )

pub returns : goal.returns
returns c =
    let sig = c.args.sig.now in
    let vars = c.args.vars.now in
    let all = map pattern_at c.args.quantified.now in
    let many : length all ≡ length c.args.quantified.now =
    length-map c.args.quantified.now pattern_at in
    let count : length all ≡ length vars =
    omega (arith, many, c.if-quantified-len.false, c.len.ensures) in
    all_numbered sig vars all c.loop-pat.order.items c.loop-pat.seen.items (length vars)
    (subst (λ (xs : List PatternTree). AreNumbersBefore sig vars all xs c.loop-pat.order.items)
    (ap (map pattern_at)
    (drop_all c.loop-pat.pat-index c.args.quantified.now c.loop-pat-test.false))
    c.loop-pat.invariant.0) c.loop-pat.invariant.1 count
