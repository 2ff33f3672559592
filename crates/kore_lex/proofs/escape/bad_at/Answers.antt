use Rattle.std.proofs.Common.{◌≡◌, ◌∙◌, length, sym, ap, arith, length-drop, drop, Some}
use Rattle.kore_lex.specs.Steps.{unit_len}
use Rattle.kore_lex.proofs.EscapeLaws.{unit-pass, unit-none, bad-past}
use Rattle.kore_lex.proofs.escape.bad_at.Goals as goal

pub loop-at-preserved : goal.loop-at-preserved
loop-at-preserved c =
    let e : Some c.in-Some.len ≡ unit_len (drop c.loop-at.at c.args.body.now) =
    c.in-Some.ensures.value ∙ ap unit_len c.behind.ensures in
    let w = c.in-Some.ensures.within in
    record {
      within =
          omega (
            arith,
            w.1,
            ap (λ l. length l) c.behind.ensures,
            length-drop c.loop-at.at c.args.body.now,
          );
      found = sym (unit-pass _ _ _ (omega arith) w.0 e) ∙ c.loop-at.invariant.found;
    }

pub returns-in-None-clause-value : goal.returns-in-None-clause-value
returns-in-None-clause-value c =
    sym (unit-none _ _ (omega arith) (c.in-None.ensures.value ∙ ap unit_len c.behind.ensures))
    ∙ c.loop-at.invariant.found

pub returns-clause-value : goal.returns-clause-value
returns-clause-value c =
    sym (bad-past c.loop-at.at c.args.body.now (omega arith)) ∙ c.loop-at.invariant.found
