use Rattle.std.proofs.Common.{rules, ◌≡◌, ◌+◌, ◌-◌, ◌++◌, ◌∷◌, [], ℕ, true, false, List, length}
use Rattle.std.proofs.Common.{map, get_or, append_assoc, append-nil, refl, sym, ◌∙◌, ap, subst, arith}
use Rattle.kore_ast.specs.declared.tree.Pat.{Pat}
use Rattle.kore_ast.specs.Plain.{plain_sort, pattern_tree as plain_tree}
use Rattle.rule_core.specs.NamedParts.{Name}
use Rattle.rule_core.specs.ProgramView.{names_of}
use Rattle.kore_check.specs.Folds.{unfolded, inner_fold, only_of, connective_of, fold_of}
use Rattle.kore_check.specs.PartNames.{names_in, names_in_all}
use Rattle.kore_check.proofs.Applications.{reads}
use Rattle.kore_check.proofs.Connectives.{connective_read, only_read, others_read, pair_parts}
use Rattle.kore_check.proofs.NameFolds.{zeros, step_back, back_to, more_zeros, fewer_zeros}
use Rattle.kore_check.proofs.NameFolds.{all_more, all_end, left_begun, left_goes_on, left_ended}
use Rattle.kore_check.proofs.NameFolds.{no_zeros, right_whole, right_goes_on, right_ended, no_names}
use Rattle.kore_check.proofs.NameFolds.{on_same, pair_names, short_read, side_read}
use Rattle.kore_check.proofs.names.+names.Goals as goal

pub note_all-loop-i-init : goal.note_all-loop-i-init
note_all-loop-i-init t c = record { way = refl; named = refl }

pub note_all-loop-i-preserved : goal.note_all-loop-i-preserved
note_all-loop-i-preserved t c =
    let number : c.in_ok-number.number ≡ c.loop-i.i = search rules in
    record {
      way = c.in_ok-note_below.ensures.way ∙ c.loop-i.invariant.way;
      named =
          all_more c.args.sig.now c.args.vars.now c.args.way.now.items c.args.args.now c.loop-i.i
          c.index-args-i.result (names_of c.loop-i.named.items)
          (names_of c.note_below.new.named.items) _ c.loop-i-test.true c.index-args-i.is
          (c.in_ok-note_below.ensures.named
          ∙ ap (λ (n : ℕ). names_of c.loop-i.named.items
          ++ names_in c.args.sig.now c.args.vars.now (c.loop-i.way.items ++ n ∷ [])
          (unfolded (plain_tree c.index-args-i.result))) number
          ∙ ap (λ (w : List ℕ). names_of c.loop-i.named.items
          ++ names_in c.args.sig.now c.args.vars.now (w ++ c.loop-i.i ∷ [])
          (unfolded (plain_tree c.index-args-i.result))) c.loop-i.invariant.way)
          c.loop-i.invariant.named;
    }

pub note_all-returns-clause-named : goal.note_all-returns-clause-named
note_all-returns-clause-named t c =
    all_end c.args.sig.now c.args.vars.now c.args.way.now.items c.args.args.now c.loop-i.i
    (names_of c.loop-i.named.items) _ c.loop-i-test.false c.loop-i.invariant.named

pub note_all-returns-clause-way : goal.note_all-returns-clause-way
note_all-returns-clause-way t c = c.loop-i.invariant.way

pub note_below-returns-clause-named : goal.note_below-returns-clause-named
note_below-returns-clause-named t c =
    let pushed : c.push.new.self.items ≡ c.args.way.now.items ++ c.args.number ∷ [] =
    search rules in
    c.in_ok-note_names.ensures.named
    ∙ ap (λ (w : List ℕ). names_of c.args.named.now.items
    ++ names_in c.args.sig.now c.args.vars.now w (unfolded (plain_tree c.args.arg.now))) pushed

pub note_below-returns-clause-way : goal.note_below-returns-clause-way
note_below-returns-clause-way t c =
    let pushed : c.push.new.self.items ≡ c.args.way.now.items ++ c.args.number ∷ [] =
    search rules in
    c.pop.ensures.rest
    ∙ step_back c.args.way.now.items c.note_names.new.way.items c.args.number _
    (c.in_ok-note_names.ensures.way ∙ pushed) (omega arith)

pub note_connective-returns-clause-named : goal.note_connective-returns-clause-named
note_connective-returns-clause-named t c = λ at.
    let pair =
    pair_parts at c.args.op c.args.sorts.now c.args.args.now c.index-args-0.result
    c.index-args-1.result (sym c.is_pair.ensures ∙ c.if-not-is_pair.false) c.index-args-0.is
    c.index-args-1.is in
    pair_names c.args.sig.now c.args.vars.now c.args.way.now.items c.note_names.new.way.items
    c.deref.result.now at pair.0 (unfolded (plain_tree c.index-args-0.result))
    (unfolded (plain_tree c.index-args-1.result))
    (connective_of at c.args.op (map plain_sort c.args.sorts.now) (reads c.args.args.now))
    c.variable_in.result c.variable_in-2.result (names_of c.args.named.now.items)
    (names_of c.note_names.new.named.items) (names_of c.note_names-2.new.named.items)
    (names_of c.add_name.new.named.items) c.add_name.result
    pair.1 c.in_ok-note_names.ensures.way
    (c.deref.ensures.value ∙ c.in_ok-note_names-2.ensures.way ∙ c.in_ok-note_names.ensures.way)
    c.variable_in.ensures c.variable_in-2.ensures c.in_ok-note_names.ensures.named
    c.in_ok-note_names-2.ensures.named c.add_name.ensures

pub note_fold-returns-then-len-eq1-clause-named : goal.note_fold-returns-then-len-eq1-clause-named
note_fold-returns-then-len-eq1-clause-named t c =
    on_same c.note_only-then-len-eq1.result (names_of c.args.named.now.items)
    (names_of c.note_only-then-len-eq1.new.named.items) _ _
    (ap (names_in c.args.sig.now c.args.vars.now c.args.way.now.items) (only_read c.args.left
    c.args.inner.now c.in-Built.op c.in-Built.sorts c.in-Built.args
    c.deref-then-len-eq1.result.now c.in-Built.is c.deref-then-len-eq1.ensures.value
    (omega (arith, c.len-in-Built.ensures, c.if-len-eq1.true))))
    (c.note_only-then-len-eq1.ensures.named c.args.inner.now.at)

pub note_fold-returns-then-len-lt2-clause-named : goal.note_fold-returns-then-len-lt2-clause-named
note_fold-returns-then-len-lt2-clause-named t c =
    on_same c.note_only.result (names_of c.args.named.now.items)
    (names_of c.note_only.new.named.items) _ _
    (ap (names_in c.args.sig.now c.args.vars.now c.args.way.now.items) (short_read c.args.left
    c.args.inner.now c.in-App.field-0 c.in-App.field-1 c.in-App.args c.deref.result.now c.in-App.is
    c.deref.ensures.value (omega (arith, c.len.ensures, c.if-len-lt2.true))))
    (c.note_only.ensures.named c.args.inner.now.at)

pub note_fold-returns-then-left-clause-named : goal.note_fold-returns-then-left-clause-named
note_fold-returns-then-left-clause-named t c =
    on_same c.note_left.result (names_of c.args.named.now.items)
    (names_of c.note_left.new.named.items) _ _
    (ap (names_in c.args.sig.now c.args.vars.now c.args.way.now.items) (side_read c.args.left true
    c.args.inner.now c.in-App.field-0 c.in-App.field-1 c.in-App.args c.deref-then-left.result.now
    c.in-App.is c.deref-then-left.ensures.value c.if-left.true))
    (c.note_left.ensures.named c.args.inner.now.at c.in-App.field-0
    (map plain_sort c.in-App.field-1.items))

pub note_fold-returns-else-left-clause-named : goal.note_fold-returns-else-left-clause-named
note_fold-returns-else-left-clause-named t c =
    on_same c.note_right.result (names_of c.args.named.now.items)
    (names_of c.note_right.new.named.items) _ _
    (ap (names_in c.args.sig.now c.args.vars.now c.args.way.now.items) (side_read c.args.left false
    c.args.inner.now c.in-App.field-0 c.in-App.field-1 c.in-App.args c.deref-else-left.result.now
    c.in-App.is c.deref-else-left.ensures.value c.if-left.false))
    (c.note_right.ensures.named c.args.inner.now.at c.in-App.field-0
    (map plain_sort c.in-App.field-1.items))

pub note_fold-returns-else-len-eq1-clause-named : goal.note_fold-returns-else-len-eq1-clause-named
note_fold-returns-else-len-eq1-clause-named t c =
    on_same c.note_connective.result (names_of c.args.named.now.items)
    (names_of c.note_connective.new.named.items) _ _
    (ap (names_in c.args.sig.now c.args.vars.now c.args.way.now.items) (others_read c.args.left
    c.args.inner.now c.in-Built.op c.in-Built.sorts c.in-Built.args
    c.deref-in-Built-2.result.now c.deref-in-Built.result.now c.in-Built.is
    c.deref-in-Built-2.ensures.value c.deref-in-Built.ensures.value
    (λ one. c.if-len-eq1.false (omega (arith, c.len-in-Built.ensures, one)))))
    (c.note_connective.ensures.named c.args.inner.now.at)

pub note_left-loop-init : goal.note_left-loop-init
note_left-loop-init t c = sym (append-nil c.args.way.now.items)

pub note_left-loop-preserved : goal.note_left-loop-preserved
note_left-loop-preserved t c =
    let pushed : c.push.new.self.items ≡ c.loop.way.items ++ 0 ∷ [] = search rules in
    more_zeros c.args.way.now.items c.loop.way.items c.push.new.self.items c.loop.counter
    c.loop.auto.counter c.loop.invariant pushed

pub note_left-loop-i-init : goal.note_left-loop-i-init
note_left-loop-i-init t c =
    let last : c.loop.counter - 1 ≡ length c.args.args.now - 1 =
    omega (arith, c.loop-test.false, c.loop.auto.counter-end) in
    let at : c.loop.way.items ≡ c.args.way.now.items ++ zeros (length c.args.args.now - 1) =
    c.loop.invariant ∙ ap (λ (n : ℕ). c.args.way.now.items ++ zeros n) last in
    record {
      way = c.in_ok-note_names.ensures.way ∙ at;
      named =
          left_begun c.args.sig.now c.args.vars.now c.args.way.now.items c.args.args.now
          c.index-args-0.result c.loop.way.items (names_of c.args.named.now.items)
          (names_of c.note_names.new.named.items) c.requires.some c.index-args-0.is at
          c.in_ok-note_names.ensures.named;
    }

pub note_left-loop-i-preserved : goal.note_left-loop-i-preserved
note_left-loop-i-preserved t c =
    let at : c.pop.new.self.items ≡ c.args.way.now.items ++ zeros
    (length c.args.args.now - (c.loop-i.i + 1)) =
    fewer_zeros c.args.way.now.items c.loop-i.way.items c.pop.new.self.items
    (length c.args.args.now) c.loop-i.i _ c.loop-i-test.true c.loop-i.invariant.way
    (omega arith) c.pop.ensures.rest in
    record {
      way = c.in_ok-note_below.ensures.way ∙ at;
      named = λ byte name ss.
          left_goes_on c.args.sig.now c.args.vars.now c.args.way.now.items c.args.args.now
          c.loop-i.i c.index-args-i.result c.pop.new.self.items (names_of c.loop-i.named.items)
          (names_of c.note_below.new.named.items) _ c.loop-i-test.true c.index-args-i.is at
          c.in_ok-note_below.ensures.named (c.loop-i.invariant.named byte name ss);
    }

pub note_left-returns-clause-named : goal.note_left-returns-clause-named
note_left-returns-clause-named t c = λ byte name ss.
    left_ended c.args.sig.now c.args.vars.now c.args.way.now.items c.args.args.now c.loop-i.i
    (names_of c.loop-i.named.items) _ c.loop-i-test.false (c.loop-i.invariant.named byte name ss)

pub note_left-returns-clause-way : goal.note_left-returns-clause-way
note_left-returns-clause-way t c =
    no_zeros c.args.way.now.items c.loop-i.way.items (length c.args.args.now) c.loop-i.i
    c.loop-i-test.false c.loop-i.invariant.way

pub note_names-returns-in-Built-clause-named : goal.note_names-returns-in-Built-clause-named
note_names-returns-in-Built-clause-named t c =
    on_same c.note_connective.result (names_of c.args.named.now.items)
    (names_of c.note_connective.new.named.items) _ _
    (ap (names_in c.args.sig.now c.args.vars.now c.args.way.now.items) (connective_read
    c.args.pat.now c.in-Built.op c.in-Built.sorts c.in-Built.args
    c.deref-in-Built-2.result.now c.deref-in-Built.result.now c.in-Built.is
    c.deref-in-Built-2.ensures.value c.deref-in-Built.ensures.value))
    (c.note_connective.ensures.named c.args.pat.now.at)

pub note_only-returns-then-args-ne1-clause-named : goal.note_only-returns-then-args-ne1-clause-named
note_only-returns-then-args-ne1-clause-named t c = λ at.
    no_names c.args.sig.now c.args.vars.now c.args.way.now.items at c.args.args.now
    (names_of c.args.named.now.items) c.if-args-ne1.true

pub note_right-loop-i-init : goal.note_right-loop-i-init
note_right-loop-i-init t c = record {
  way = ([], sym (append-nil c.args.way.now.items));
  named = refl;
}

pub note_right-loop-i-preserved : goal.note_right-loop-i-preserved
note_right-loop-i-preserved t c =
    let pushed : c.push.new.self.items ≡ c.note_below.new.way.items ++ 1 ∷ [] = search rules in
    let at : c.push.new.self.items ≡ c.loop-i.way.items ++ 1 ∷ [] =
    pushed ∙ ap (λ (w : List ℕ). w ++ 1 ∷ []) c.in_ok-note_below.ensures.way in
    record {
      way = (
        c.loop-i.invariant.way.0 ++ 1 ∷ [],
        at ∙ ap (λ (w : List ℕ). w ++ 1 ∷ []) c.loop-i.invariant.way.1
            ∙ append_assoc c.args.way.now.items c.loop-i.invariant.way.0 (1 ∷ []),
      );
      named =
          right_goes_on c.args.sig.now c.args.vars.now c.loop-i.way.items c.push.new.self.items
          c.args.args.now c.loop-i.i c.index-args-i.result (names_of c.loop-i.named.items)
          (names_of c.note_below.new.named.items) _
          (omega (arith, c.loop-i-test.true, c.requires.some)) c.index-args-i.is at
          c.in_ok-note_below.ensures.named c.loop-i.invariant.named;
    }

pub note_right-returns-clause-named : goal.note_right-returns-clause-named
note_right-returns-clause-named t c = λ byte name ss.
    let here : length c.args.args.now - 1 ≡ c.loop-i.i =
    omega (arith, c.loop-i-test.false, c.loop-i.auto.i-end) in
    right_ended c.args.sig.now c.args.vars.now c.loop-i.way.items c.args.args.now c.loop-i.i
    c.index-args-last.result (names_of c.loop-i.named.items)
    (names_of c.note_names.new.named.items) _ (omega (arith, here, c.requires.some))
    (omega (arith, here))
    (c.index-args-last.is
    ∙ ap (λ (n : ℕ). get_or c.args.args.now n c.index-args-last.result) here)
    c.in_ok-note_names.ensures.named c.loop-i.invariant.named
    ∙ ap (λ (ns : List Name). names_of c.args.named.now.items ++ ns)
    (right_whole c.args.sig.now c.args.vars.now c.args.way.now.items c.args.args.now c.requires.some
    byte name ss)

pub note_right-returns-clause-way : goal.note_right-returns-clause-way
note_right-returns-clause-way t c =
    c.truncate.ensures.items
    ∙ back_to c.args.way.now.items c.note_names.new.way.items c.loop-i.invariant.way.0
    c.len-before.result (c.in_ok-note_names.ensures.way ∙ c.loop-i.invariant.way.1)
    (omega (arith, c.len-before.ensures))
