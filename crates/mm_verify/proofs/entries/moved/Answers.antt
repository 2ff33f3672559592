use Rattle.std.proofs.Common.{rules, ap, sym, subst, ◌∙◌, ◌≡◌, ◌++◌, ◌∷◌, [], List, ℕ, length}
use Rattle.std.proofs.lemmas.List.{append_assoc}
use Rattle.mm_verify.specs.Ranges.{pieces, AreRanges}
use Rattle.mm_verify.specs.declared.stack.Range.{Range}
use Rattle.mm_verify.proofs.Pieces.{moved-more, ranges-push}
use Rattle.mm_verify.proofs.entries.moved.Goals as goal

pub loop-range-preserved : goal.loop-range-preserved
loop-range-preserved c =
    let xs = c.loop-range.to.items in
    let ys = c.piece.result.now in
    let ss = c.loop-range.moved.items in
    let s = c.in_ok-append.field-0 in
    let past = c.loop-range.invariant in
    let symbols : c.append.new.to.items ≡ xs ++ ys = search rules in
    let ranges : c.push.new.self.items ≡ ss ++ s ∷ [] = search rules in
    let from : s.from ≡ length xs = search rules in
    let to : s.to ≡ length (xs ++ ys) = search rules in
    record {
      front = (
        past.front.0 ++ ys,
        symbols ∙ ap (λ (zs : List ℕ). zs ++ ys) past.front.1
            ∙ append_assoc c.args.to.now.items past.front.0 ys,
      );
      within =
          subst (λ (zs : List ℕ). AreRanges (length zs) c.push.new.self.items) (sym symbols)
          (subst (λ (ts : List Range). AreRanges (length (xs ++ ys)) ts) (sym ranges)
          (ranges-push xs ys ss s past.within from to));
      same =
          ap (λ (zs : List ℕ). pieces zs c.push.new.self.items) symbols
          ∙ ap (λ (ts : List Range). pieces (xs ++ ys) ts) ranges
          ∙ moved-more c.args.symbols.now c.args.ranges.now c.loop-range.range-index
          (record { from = 0; to = 0 }) xs ys ss s c.piece.ensures c.loop-range-test.true past.within from to past.same;
    }
