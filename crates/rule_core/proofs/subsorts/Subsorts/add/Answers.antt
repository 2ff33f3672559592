use Rattle.std.proofs.Common.{rules, ◌≡◌, ◌↔◌, ◌++◌, ◌∷◌, [], ℕ, List, ◌∙◌, ap, sym, refl, subst}
use Rattle.std.proofs.Common.{false, length, ◌<◌, arith, eq-eqb, Contains}
use Rattle.std.proofs.lemmas.Grind.{common_steps}
use Rattle.std.specs.Prelude.{IsTrue, ◌||◌, ◌==◌}
use Rattle.std.proofs.lemmas.Bool.{false≢true}
use Rattle.std.proofs.lemmas.List.{map-append}
use Rattle.rule_core.specs.Subsorts.{IsBelow, HasNoCycle}
use Rattle.rule_core.specs.SubsortFields.{sort_pairs, pairs_of, has, is_in}
use Rattle.rule_core.proofs.Belows.{no_cycle_more, cycle_same, cycle_back}
use Rattle.rule_core.proofs.SortSets.{chains_closed, chains_more, single_more, table_same}
use Rattle.rule_core.proofs.subsorts.Subsorts.add.Goals as goal
use Rattle.rule_core.proofs.subsorts.Subsorts.add.Goals.{then-eq-via-then-eq}
use Rattle.rule_core.proofs.subsorts.Subsorts.add.Goals.{then-eq-via-else-eq+then-below}

pub returns-then-eq-clause-fresh : goal.returns-then-eq-clause-fresh
returns-then-eq-clause-fresh c = elim c.then-eq.branch [
  | then-eq-via-then-eq w ↦
      let same : c.args.a.0 ≡ c.args.b.0 = search rules in
      (λ e. absurd (false≢true e), λ none. absurd (cycle_same c.args.self.now _ _ same none))
  | then-eq-via-else-eq+then-below w ↦
      let back : IsBelow c.args.self.now c.args.b.0 c.args.a.0 = w.below.ensures.0 (search rules) in
      (λ e. absurd (false≢true e), λ none. absurd (cycle_back c.args.self.now _ _ back none))
]

pub returns-clause-fresh : goal.returns-clause-fresh
returns-clause-fresh c =
    let none : HasNoCycle c.args.self.now =
    subst HasNoCycle c.self.view_is c.self.invariant.no_cycle in
    let apart : (c.args.a.0 == c.args.b.0) ≡ false = search rules in
    let not : c.below.result ≡ false = search rules in (
      λ e. no_cycle_more c.args.self.now _ _ none (λ same. false≢true (sym apart ∙ eq-eqb _ _ same))
          (λ back. false≢true (sym not ∙ c.below.ensures.1 back)),
      λ more. refl,
    )

pub invariant_of-self-2 : goal.invariant_of-self-2
invariant_of-self-2 c =
    let grown : sort_pairs c.push.new.self.items ≡ pairs_of c.self.inside ++
    (c.args.a.0, c.args.b.0) ∷ [] =
    search (rules, map-append) in
    let apart : (c.args.a.0 == c.args.b.0) ≡ false = search rules in
    let not : c.below.result ≡ false = search rules in
    let P : List (ℕ × ℕ) → Type 0 = λ pairs. IsBelow pairs c.args.b.0 c.args.a.0 in
    let inside : c.args.a.0 < length c.grow.new.rows.items = grind (arith, common_steps) in
    let direct : (x y : ℕ) → IsTrue (is_in c.grow.new.rows.items x y) ↔ Contains
    (pairs_of c.self.inside) (x, y) =
    λ x y. (
      λ t. (c.self.invariant.single x y).0 (sym (c.grow.ensures.same x y) ∙ t),
      λ there. c.grow.ensures.same x y ∙ (c.self.invariant.single x y).1 there,
    ) in
    let gets : (y : ℕ) → has c.in_ok-right_above.right_above.items y ≡
    (c.args.b.0 == y || is_in c.grow.new.rows.items c.args.a.0 y) =
    λ y.
    c.in_ok-right_above.ensures y
    ∙ ap (λ t. c.args.b.0 == y || t)
    (c.set_of.ensures y ∙ ap (λ l. is_in l c.args.a.0 y) c.deref.ensures.value) in
    record {
      chains =
          rw grown (chains_more (pairs_of c.self.inside) c.args.a.0 c.args.b.0
          c.self.inside.above.items _ c.self.invariant.chains c.in_ok-join.ensures.joined);
      single =
          rw grown (single_more (pairs_of c.self.inside) c.args.a.0 c.args.b.0 c.grow.new.rows.items
          c.in_ok-right_above.right_above inside direct gets);
      no_cycle = rw grown (no_cycle_more _ c.args.a.0 c.args.b.0 c.self.invariant.no_cycle
          (λ same. false≢true (sym apart ∙ eq-eqb _ _ same))
          (λ back. false≢true (sym not ∙ c.below.ensures.1 (subst P c.self.view_is back))));
    }

pub invariant_of-self-in_err-join : goal.invariant_of-self-in_err-join
invariant_of-self-in_err-join c =
    table_same c.self.inside _ (search rules) c.in_err-join.ensures.same c.grow.ensures.same
    c.self.invariant

pub join-requires : goal.join-requires
join-requires c = chains_closed (pairs_of c.self.inside) _ c.self.invariant.chains
