use Rattle.std.proofs.Common.{◌≡◌, ◌≤◌, ℕ, List, length, get_or, sym, ◌∙◌, ap, subst}
use Rattle.std.proofs.Common.{below_more, eq-eqb, arith}
use Rattle.std.proofs.lemmas.Bool.{false≢true}
use Rattle.std.proofs.lemmas.List.{length-map, get_or_default}
use Rattle.term_core.specs.declared.ids.SortId.{SortId}
use Rattle.rule_core.specs.SubsortFields.{sort_pairs}
use Rattle.rule_core.proofs.Paths.{Leads, some_leads, entry_seen}
use Rattle.rule_core.proofs.subsorts.Subsorts.next_towards.Goals as goal
use Rattle.rule_core.proofs.subsorts.Subsorts.next_towards.Goals.{else-eq-via-then-eq+else-reaches}
use Rattle.rule_core.proofs.subsorts.Subsorts.next_towards.Goals.{else-eq-via-else-eq}

pub loop-lower-preserved : goal.loop-lower-preserved
loop-lower-preserved c =
    let pairs : List (SortId × SortId) = c.deref-lower-items.result.now in
    let i : ℕ = c.loop-lower.lower-index in
    let none : SortId × SortId = (record { 0 = 0 }, record { 0 = 0 }) in
    let entry : SortId × SortId = get_or pairs i none in
    let read : get_or c.args.self.now i (0, 0) ≡ (entry.0.0, entry.1.0) =
    ap (λ (ps : List (ℕ × ℕ)). get_or ps i (0, 0))
    (sym c.self.view_is ∙ ap sort_pairs (sym c.deref-lower-items.ensures.value))
    ∙ entry_seen pairs i entry c.loop-lower-test.true
    (get_or_default pairs i none entry c.loop-lower-test.true) in
    let P : ℕ × ℕ → Type 0 = λ p. Leads c.args.self.now c.args.from.0 c.args.b.0 p in
    below_more _ _ c.loop-lower.invariant (λ leads. elim c.else-eq.branch [
      | else-eq-via-then-eq+else-reaches w ↦ false≢true
          (sym w.if-reaches.false ∙ w.reaches.ensures.1 ((subst P read leads).1))
      | else-eq-via-else-eq w ↦ false≢true
          (sym w.if-eq.false ∙ c.eq.ensures ∙ eq-eqb _ _ ((subst P read leads).0))
    ])

pub unreachable-requires : goal.unreachable-requires
unreachable-requires c =
    let count : length c.args.self.now ≡ length c.self.inside.pairs.items =
    ap (λ (ps : List (ℕ × ℕ)). length ps) (sym c.self.view_is) ∙ length-map _ _ in
    let all : length c.args.self.now ≤ c.loop-lower.lower-index = omega (arith, count) in
    some_leads c.args.self.now c.args.from.0 c.args.b.0 c.loop-lower.lower-index c.requires all
    c.loop-lower.invariant
