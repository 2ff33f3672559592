use Rattle.std.proofs.Common.{◌≤◌, ℕ, List, [], ◌∷◌, false, length, map, arith, ap, ◌∙◌}
use Rattle.std.proofs.Common.{string_bytes}
use Rattle.std.proofs.lemmas.List.{length-map}
use Rattle.kore_text.specs.Grammar.{spell_pattern}
use Rattle.kore_ast.specs.Plain.{pattern_tree}
use Rattle.kore_print.proofs.Written.{on_ok, added, item_here, item_written, list_closed}
use Rattle.kore_print.proofs.FormLaws.{written_application, written_connective, bound_written}
use Rattle.kore_print.proofs.FormLaws.{written_binding, written_fold}
use Rattle.kore_print.proofs.print.+patterns.Goals as goal

pub push_pattern-returns-in_ok-push_symbol-in-App :
    goal.push_pattern-returns-in_ok-push_symbol-in-App
push_pattern-returns-in_ok-push_symbol-in-App t c =
    on_ok c.push_patterns.result _ _ c.push_patterns.ensures (λ w.
    written_application c.args.pat.now c.in-App.name c.in-App.sorts c.in-App.args c.deref.result.now
    c.deref-in-App.result.now _ _ _
    c.in-App.is c.deref.ensures.value c.deref-in-App.ensures.value
    c.in_ok-push_symbol-in-App.ensures w)

pub push_pattern-returns-in_ok-push_built-in-Built :
    goal.push_pattern-returns-in_ok-push_built-in-Built
push_pattern-returns-in_ok-push_built-in-Built t c =
    on_ok c.push_patterns-in-Built.result _ _ c.push_patterns-in-Built.ensures (λ w.
    written_connective c.args.pat.now c.in-Built.op c.in-Built.sorts c.in-Built.args
    c.deref-in-Built.result.now c.deref-in-Built-2.result.now _ _ _
    c.in-Built.is c.deref-in-Built.ensures.value c.deref-in-Built-2.ensures.value
    c.in_ok-push_built-in-Built.ensures w)

pub push_pattern-returns-in_ok-push_pattern-in-Bound-2 :
    goal.push_pattern-returns-in_ok-push_pattern-in-Bound-2
push_pattern-returns-in_ok-push_pattern-in-Bound-2 t c =
    let last : List ℕ = string_bytes c.push_str-in-Bound.new.self in
    on_ok c.push_str-in-Bound.result _ _ (added c.push_str-in-Bound.result (41 ∷ [])
    (string_bytes c.push_pattern-in-Bound.new.text) last c.push_str-in-Bound.ensures.bytes)
    (λ e.
    written_binding c.args.pat.now c.in-Bound.binder c.in-Bound.sorts c.in-Bound.variable
    c.in-Bound.body c.deref-in-Bound.result.now
    (string_bytes c.args.text.now) (string_bytes c.push_built-in-Bound.new.text) last c.in-Bound.is
    c.deref-in-Bound.ensures.value c.in_ok-push_built-in-Bound.ensures
    (bound_written c.deref-in-Bound-2.result.now c.deref-in-Bound-3.result.now
    (pattern_tree c.in-Bound.variable.value) (pattern_tree c.in-Bound.body.value)
    (string_bytes c.push_built-in-Bound.new.text) (string_bytes c.push_str.new.self)
    (string_bytes c.push_pattern.new.text) (string_bytes c.push_comma.new.text)
    (string_bytes c.push_pattern-in-Bound.new.text) last
    (ap pattern_tree c.deref-in-Bound-2.ensures) (ap pattern_tree c.deref-in-Bound-3.ensures)
    c.in_ok-push_str-in-Bound.ensures.bytes c.in_ok-push_pattern-in-Bound.ensures
    c.in_ok-push_comma-in-Bound.ensures c.in_ok-push_pattern-in-Bound-2.ensures e))

pub push_pattern-returns-in_ok-push_pattern-in-Fold :
    goal.push_pattern-returns-in_ok-push_pattern-in-Fold
push_pattern-returns-in_ok-push_pattern-in-Fold t c =
    let last : List ℕ = string_bytes c.push_str-in-Fold-2.new.self in
    on_ok c.push_str-in-Fold-2.result _ _ (added c.push_str-in-Fold-2.result (41 ∷ [])
    (string_bytes c.push_pattern-in-Fold.new.text) last c.push_str-in-Fold-2.ensures.bytes)
    (λ e.
    written_fold c.args.pat.now c.deref-in-Fold.result.now c.in-Fold.from_left c.in-Fold.folded
    (string_bytes c.args.text.now) (string_bytes c.push_built-in-Fold.new.text)
    (string_bytes c.push_str-in-Fold.new.self) (string_bytes c.push_pattern-in-Fold.new.text) last
    c.in-Fold.is (ap pattern_tree c.deref-in-Fold.ensures)
    c.in_ok-push_built-in-Fold.ensures c.in_ok-push_str-in-Fold.ensures.bytes
    c.in_ok-push_pattern-in-Fold.ensures e)

pub push_patterns-loop-i-preserved : goal.push_patterns-loop-i-preserved
push_patterns-loop-i-preserved t c = λ k.
    item_written (spell_pattern false) (map pattern_tree c.args.patterns.now)
    (pattern_tree c.index-patterns-i.result) c.loop-i.i 41 _ _ _
    (item_here pattern_tree c.args.patterns.now c.loop-i.i c.index-patterns-i.result
    c.loop-i-test.true c.index-patterns-i.is) c.in_ok-push_comma.ensures
    c.in_ok-push_pattern.ensures k
    ∙ c.loop-i.invariant k

pub push_patterns-returns : goal.push_patterns-returns
push_patterns-returns t c =
    let l : length (map pattern_tree c.args.patterns.now) ≤ c.loop-i.i =
    omega (arith, length-map c.args.patterns.now pattern_tree) in
    on_ok c.push_str-2.result _ _ (added c.push_str-2.result (41 ∷ []) (string_bytes c.loop-i.text)
    (string_bytes c.push_str-2.new.self) c.push_str-2.ensures.bytes)
    (λ e k. list_closed (spell_pattern false) (map pattern_tree c.args.patterns.now) c.loop-i.i 41 _
    _ l e k ∙ c.loop-i.invariant k)
