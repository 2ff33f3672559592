use Rattle.std.proofs.Common.{rules, ◌≡◌, true, false, ap, ◌∙◌}
use Rattle.mm_database.specs.Frames.{essential}
use Rattle.mm_frame.specs.ExpressionView.{expression_symbols}
use Rattle.mm_frame.specs.PlainFrames.{plain_hypothesis}
use Rattle.mm_frame.specs.CountsView.{times_counted}
use Rattle.mm_frame.proofs.HypothesesKept.{essential-popped, floating-popped, essential-uncounted}
use Rattle.mm_frame.proofs.HypothesesKept.{floating-uncounted}
use Rattle.mm_frame.specs.Listed.{is_essential}
use Rattle.mm_frame.proofs.hypotheses.Hypotheses.pop.Goals as goal

pub invariant_of-self : goal.invariant_of-self
invariant_of-self c =
    let s = c.args.self.now in
    let kind : is_essential (plain_hypothesis c.in-Some.hyp) ≡ true = search rules in
    let is : plain_hypothesis c.in-Some.hyp ≡ essential c.in-Essential.field-0.now
    (expression_symbols c.in-Essential.statement.value) =
    ap plain_hypothesis c.in-Essential.is in
    record {
      placed =
          essential-popped s.all.items c.pop.new.self.items c.in-Some.hyp s.essentials.items _
          s.essentials.len c.in-Some.ensures.items s.placed kind (search rules)
          c.pop-in-Essential.ensures.rest;
      counted = λ n.
          essential-uncounted n s.all.items c.pop.new.self.items c.in-Some.hyp
          c.in-Essential.field-0.now (expression_symbols c.in-Essential.statement.value)
          (times_counted s.counts n)
          (times_counted c.remove.new.self n) c.in-Some.ensures.items is (s.counted n)
          (rw (c.symbols.ensures ∙ ap expression_symbols c.deref.ensures) at (c.remove.ensures n));
    }

pub invariant_of-self-in_default-hyp : goal.invariant_of-self-in_default-hyp
invariant_of-self-in_default-hyp c =
    let s = c.args.self.now in
    let kind : is_essential (plain_hypothesis c.in-Some.hyp) ≡ false = search rules in
    record {
      placed =
          floating-popped s.all.items c.pop.new.self.items c.in-Some.hyp s.essentials.items
          c.in-Some.ensures.items s.placed kind;
      counted =
          λ n. floating-uncounted n s.all.items c.pop.new.self.items c.in-Some.hyp
          (times_counted s.counts n) c.in-Some.ensures.items kind (s.counted n);
    }
