use Rattle.std.proofs.Common.{rules, ◌≡◌, ℕ, ◌+◌, ◌++◌, ◌∷◌, [], List, length, true, false, ap, sym}
use Rattle.std.proofs.Common.{◌∙◌}
use Rattle.std.specs.Prelude.{is_ok, Ok, Err, IfOk, Result}
use Rattle.mm_database.specs.Frames.{essential}
use Rattle.mm_frame.specs.ExpressionView.{expression_symbols}
use Rattle.mm_frame.specs.PlainFrames.{plain_hypothesis, plain_hypotheses}
use Rattle.mm_frame.specs.Places.{places_of}
use Rattle.mm_frame.specs.Times.{times, times_in}
use Rattle.mm_frame.specs.CountsView.{times_counted}
use Rattle.mm_frame.specs.declared.frames.Hyp.{Hyp}
use Rattle.mm_frame.proofs.HypothesesKept.{essential-pushed, floating-pushed, essential-counted}
use Rattle.mm_frame.proofs.HypothesesKept.{floating-counted}
use Rattle.mm_frame.specs.Listed.{is_essential}
use Rattle.mm_frame.proofs.hypotheses.Hypotheses.push.Goals as goal

where-ok : {T E : Type 0} (Q : Type 0) (r : Result T E) → is_ok r ≡ true → IfOk r (λ _. Q) → Q
where-ok Q (Ok x) is q = q
where-ok Q (Err e) is q = absurd (cc)

pub invariant_of-self-in_default : goal.invariant_of-self-in_default
invariant_of-self-in_default c =
    let s = c.args.self.now in
    let before = s.all.items in
    let items : c.push.new.self.items ≡ before ++ c.args.hyp ∷ [] = search rules in
    let kind : is_essential (plain_hypothesis c.args.hyp) ≡ false = search rules in
    let same : c.reserve-2.new.self.items ≡ s.essentials.items = search rules in
    record {
      placed = same ∙ floating-pushed before c.args.hyp s.essentials.items s.placed kind
          ∙ ap (λ hs. places_of is_essential (plain_hypotheses hs)) (sym items);
      counted =
          λ n. floating-counted n before c.args.hyp (times_counted s.counts n) kind (s.counted n)
          ∙ ap (λ (hs : List Hyp). times_in n (plain_hypotheses hs)) (sym items);
    }

pub invariant_of-self-2 : goal.invariant_of-self-2
invariant_of-self-2 c =
    let s = c.args.self.now in
    let before = s.all.items in
    let items : c.push-3.new.self.items ≡ before ++ c.args.hyp ∷ [] = search rules in
    let numbers : c.push-2.new.self.items ≡ s.essentials.items ++ c.len-place.result ∷ [] =
    search rules in
    let kind : is_essential (plain_hypothesis c.args.hyp) ≡ true = search rules in
    let is : plain_hypothesis c.args.hyp ≡ essential c.in-Essential.field-0.now
    (expression_symbols c.in-Essential.statement.value) =
    ap plain_hypothesis c.in-Essential.is in
    let place : c.len-place.result ≡ length before = search rules in
    let passed : is_ok c.add.result ≡ true = search rules in
    let more : (n : ℕ) → times_counted c.add.new.self n ≡ times_counted s.counts n + times n
    c.symbols.result.now =
    where-ok _ c.add.result passed c.add.ensures in
    record {
      placed = numbers
          ∙ essential-pushed before c.args.hyp s.essentials.items c.len-place.result s.placed kind
          place ∙ ap (λ hs. places_of is_essential (plain_hypotheses hs)) (sym items);
      counted = λ n.
          essential-counted n before c.args.hyp c.in-Essential.field-0.now
          (expression_symbols c.in-Essential.statement.value) (times_counted s.counts n)
          (times_counted c.add.new.self n) is (s.counted n)
          (rw (c.symbols.ensures ∙ ap expression_symbols c.deref.ensures) at (more n))
          ∙ ap (λ (hs : List Hyp). times_in n (plain_hypotheses hs)) (sym items);
    }
