use Rattle.std.proofs.Common.{◌≡◌, ◌<◌, ◌∙◌, ap, sym, subst, drop, length, List, ℕ}
use Rattle.std.specs.Prelude.{All, flat_map, slice_get}
use Rattle.std.specs.List.Sorted.{IsStrictlyIncreasing}
use Rattle.std.proofs.lemmas.List.Elements.{All-filter}
use Rattle.std.proofs.lemmas.List.Filters.{dedup_is}
use Rattle.std.proofs.lemmas.Map.Keys.{IsStrictlyIncreasing-dedup}
use Rattle.std.proofs.lemmas.Result.{IfOk-weaker}
use Rattle.mm_frame.specs.Places.{found_at}
use Rattle.mm_frame.proofs.Placing.{sorted-has}
use Rattle.mm_frame.proofs.Placing.{places-filter}
use Rattle.mm_verify.specs.declared.parts.Part.{Part}
use Rattle.mm_verify.specs.Filling.{IsWithin, AreWithin, filled}
use Rattle.mm_verify.specs.LongStatementView.{part_by, long_parts, long_symbols}
use Rattle.mm_verify.specs.Present.{has_text}
use Rattle.mm_verify.proofs.Presence.{with_text, present-filled, present-within}
use Rattle.mm_verify.proofs.present.Present.find.Goals as goal

pub parts_at-requires : goal.parts_at-requires
parts_at-requires c =
    subst (λ (ns : List ℕ). All (λ i. i < length (long_symbols c.args.statement.now)) ns)
    (sym c.deref.ensures.value)
    (present-within (drop c.args.base c.args.stack.now) (part_by c.args.statement.now.places.value)
    (long_symbols c.args.statement.now) c.dedup.new.self.items
    (λ i. sorted-has _ _ _ c.sort_unstable.ensures.permutation
    (dedup_is _ _ _ c.dedup.ensures.filtered) i ∙ c.in_ok-gather.ensures i))

ascending : (c : goal.After-parts_at) → IsStrictlyIncreasing c.dedup.new.self.items
ascending c =
    let is = dedup_is _ _ _ c.dedup.ensures.filtered in
    rw is (IsStrictlyIncreasing-dedup _ c.sort_unstable.ensures.sorted)

found : (c : goal.After-parts_at)
    → flat_map (λ i. found_at (slice_get (long_parts c.args.statement.now) i)) c.deref.result.now
    ≡ with_text (drop c.args.base c.args.stack.now) (long_parts c.args.statement.now)
found c =
    ap (λ (ns : List ℕ).
    flat_map (λ i. found_at (slice_get (long_parts c.args.statement.now) i)) ns)
    c.deref.ensures.value
    ∙ places-filter (has_text (drop c.args.base c.args.stack.now))
    (long_parts c.args.statement.now) c.dedup.new.self.items (ascending c)
    (λ i. sorted-has _ _ _ c.sort_unstable.ensures.permutation
    (dedup_is _ _ _ c.dedup.ensures.filtered) i ∙ c.in_ok-gather.ensures i)

pub returns-clause-within : goal.returns-clause-within
returns-clause-within c =
    IfOk-weaker c.parts_at.result _ _
    (λ u is. subst (λ (ps : List Part). AreWithin (length (drop c.args.base c.args.stack.now)) ps)
    (sym (is ∙ found c))
    (All-filter (has_text (drop c.args.base c.args.stack.now))
    (IsWithin (length (drop c.args.base c.args.stack.now))) (long_parts c.args.statement.now)
    c.requires.within))
    c.parts_at.ensures

pub returns-clause-filled : goal.returns-clause-filled
returns-clause-filled c =
    IfOk-weaker c.parts_at.result _ _
    (λ u is. ap (λ (ps : List Part). filled (drop c.args.base c.args.stack.now) ps) (is ∙ found c)
    ∙ present-filled (drop c.args.base c.args.stack.now) (long_parts c.args.statement.now))
    c.parts_at.ensures
