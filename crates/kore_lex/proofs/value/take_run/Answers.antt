use Rattle.std.proofs.Common.{◌∙◌, ◌++◌, take, ap, sym, subst}
use Rattle.std.specs.Str.{IsUtf8}
use Rattle.std.specs.String.{string_bytes}
use Rattle.kore_lex.specs.Steps.{Took}
use Rattle.kore_lex.proofs.ValueLaws.{run-took, run-utf8}
use Rattle.kore_lex.proofs.value.take_run.Goals as goal

pub unreachable-requires : goal.unreachable-requires
unreachable-requires c =
    c.in_default.ensures.cases.0
    (subst IsUtf8 (sym (c.first.ensures ∙ ap (λ n. take n c.args.bytes.now) c.run_len-len.ensures))
    (run-utf8 c.args.bytes.now c.requires.inner))

pub returns : goal.returns
returns c =
    let r =
    c.in-Ok.ensures.cases.0 ∙ c.first.ensures
    ∙ ap (λ n. take n c.args.bytes.now) c.run_len-len.ensures in
    subst (λ n. Took c.args.bytes.now (string_bytes c.args.text.now)
    (string_bytes c.push_str.new.self) n) (sym c.run_len-len.ensures)
    (run-took c.args.bytes.now _ _ c.requires.some c.requires.begins c.requires.inner
    (c.in_ok-push_str.ensures.bytes ∙ ap (λ t. string_bytes c.args.text.now ++ t) r))
