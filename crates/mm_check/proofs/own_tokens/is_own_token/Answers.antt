use Rattle.std.proofs.Common.{◌≡◌, ◌++◌, ◌∙◌, ℕ, List, ap, sym}
use Rattle.std.specs.Prelude.{codes}
use Rattle.mm_check.proofs.OwnTokenLaws.{own_sort, own_symbol, own_value}
use Rattle.mm_check.proofs.own_tokens.is_own_token.Goals as goal

pub returns-in-Some : goal.returns-in-Some
returns-in-Some c =
    let parts = c.in-Some.ensures.cases in
    let is : c.in-Ok.text.now ≡ codes "s:" ++ c.in-Some.name.now =
    parts.1.1 ∙ ap (λ (rest : List ℕ). codes "s:" ++ rest) (sym parts.2) in
    own_sort c.args.sig.now c.args.token.now c.in-Ok.text.now c.in-Some.name.now c.number.result
    c.is_some.result c.names_differ.ensures (sym c.in-Ok.ensures.cases.0) is c.number.ensures
    c.is_some.ensures

pub returns-in-Some-strip_prefix : goal.returns-in-Some-strip_prefix
returns-in-Some-strip_prefix c =
    let parts = c.in-Some-strip_prefix.ensures.cases in
    let is : c.in-Ok.text.now ≡ codes "f:" ++ c.in-Some-strip_prefix.name.now =
    parts.1.1 ∙ ap (λ (rest : List ℕ). codes "f:" ++ rest) (sym parts.2) in
    own_symbol c.args.sig.now c.args.token.now c.in-Ok.text.now c.in-Some-strip_prefix.name.now
    c.number-in-Some-strip_prefix.result c.is_some-in-Some-strip_prefix.result
    c.names_differ-in-Some-strip_prefix.ensures (sym c.in-Ok.ensures.cases.0) is
    c.number-in-Some-strip_prefix.ensures c.is_some-in-Some-strip_prefix.ensures

pub returns : goal.returns
returns c =
    own_value c.args.sig.now c.args.token.now c.in-Ok.text.now c.is_value_token.result
    (sym c.in-Ok.ensures.cases.0) c.in_default-strip_prefix.ensures.cases
    c.in_default-strip_prefix-2.ensures.cases c.is_value_token.ensures
