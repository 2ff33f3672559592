use Rattle.std.proofs.Common.{◌≤◌, [], ◌∷◌, length, map, arith, ◌∙◌, string_bytes}
use Rattle.std.proofs.lemmas.List.{length-map}
use Rattle.kore_text.specs.TokenStream.{identifier}
use Rattle.kore_text.specs.Grammar.{spell_sort}
use Rattle.kore_ast.specs.Plain.{plain_sort}
use Rattle.kore_print.specs.Writing.{spell_in_braces}
use Rattle.kore_print.proofs.Written.{on_ok, added, item_here, item_written, list_closed}
use Rattle.kore_print.proofs.FormLaws.{token_first, written_sort}
use Rattle.kore_print.proofs.print.+sorts.Goals as goal

pub push_sort-returns-in_ok-push_str-in-App : goal.push_sort-returns-in_ok-push_str-in-App
push_sort-returns-in_ok-push_str-in-App t c =
    on_ok c.push_sorts.result _ _ c.push_sorts.ensures (λ w.
    written_sort c.args.sort.now c.in-App.name c.in-App.sorts c.deref.result.now _ _ c.in-App.is
    c.deref.ensures.value
    (token_first (identifier c.in-App.name) c.as_str-in-App.result.now
    (spell_in_braces (map plain_sort c.deref.result.now)) _ _ _
    c.as_str-in-App.ensures c.in_ok-push_str-in-App.ensures.bytes w))

pub push_sorts-loop-i-preserved : goal.push_sorts-loop-i-preserved
push_sorts-loop-i-preserved t c = λ k.
    item_written spell_sort (map plain_sort c.args.sorts.now) (plain_sort c.index-sorts-i.result)
    c.loop-i.i 125 _ _ _
    (item_here plain_sort c.args.sorts.now c.loop-i.i c.index-sorts-i.result c.loop-i-test.true
    c.index-sorts-i.is) c.in_ok-push_comma.ensures c.in_ok-push_sort.ensures k
    ∙ c.loop-i.invariant k

pub push_sorts-returns : goal.push_sorts-returns
push_sorts-returns t c =
    let l : length (map plain_sort c.args.sorts.now) ≤ c.loop-i.i =
    omega (arith, length-map c.args.sorts.now plain_sort) in
    on_ok c.push_str-2.result _ _ (added c.push_str-2.result (125 ∷ []) (string_bytes c.loop-i.text)
    (string_bytes c.push_str-2.new.self) c.push_str-2.ensures.bytes)
    (λ e k. list_closed spell_sort (map plain_sort c.args.sorts.now) c.loop-i.i 125 _ _ l e k
    ∙ c.loop-i.invariant k)
