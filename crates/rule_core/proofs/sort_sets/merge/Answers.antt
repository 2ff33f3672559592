use Rattle.std.proofs.Common.{rules, ℕ, ◌≡◌, ◌≢◌, ◌<◌, length, sym, ◌∙◌, ap, arith}
use Rattle.std.specs.Prelude.{IsTrue, ◌||◌}
use Rattle.std.proofs.lemmas.Grind.{common_steps}
use Rattle.rule_core.specs.SubsortFields.{has, set_at, is_in, reaches}
use Rattle.rule_core.proofs.SortSets.{set_at_entry, set_at_set_same, set_at_set_other, merged_next}
use Rattle.rule_core.proofs.SortSets.{merged_still, known_before}
use Rattle.rule_core.proofs.sort_sets.merge.Goals as goal
use Rattle.rule_core.proofs.sort_sets.merge.Goals.{then-gets, else-gets}

pub loop-x-preserved : goal.loop-x-preserved
loop-x-preserved c = elim c.if-gets.branch [
  | then-gets w ↦
      let inside : c.loop-x.x < length c.loop-x.rows.items = grind (arith, common_steps) in
      let entry : set_at c.loop-x.rows.items c.loop-x.x ≡ w.index_mut.result.now.items =
      set_at_entry c.loop-x.rows.items c.loop-x.x _ inside
      ∙ sym (ap (λ v. v.items) w.index_mut.ensures.value) in
      let gets : (y : ℕ) → is_in c.if-gets.rows.items c.loop-x.x y ≡
      (is_in c.loop-x.rows.items c.loop-x.x y || has c.args.more.now y) =
      λ y.
      rw w.rows-is (ap (λ s. has s y)
      (set_at_set_same c.loop-x.rows.items c.loop-x.x w.include.new.set inside)
      ∙ w.include.ensures y
      ∙ ap (λ s. has s y || has c.args.more.now y) (sym entry)) in
      let others : (z : ℕ) → z ≢ c.loop-x.x → set_at c.if-gets.rows.items z ≡ set_at
      c.loop-x.rows.items z =
      λ z n. rw w.rows-is (set_at_set_other _ _ z _ n) in
      record {
        count = search rules;
        done =
            merged_next c.loop-x.rows.items c.if-gets.rows.items _ c.loop-x.x _ _
            (c.loop-x.invariant.rest _ (grind (arith, common_steps))) (search rules) gets others
            c.loop-x.invariant.done;
        rest =
            λ z le. others z (λ e. omega (arith, le, e))
            ∙ c.loop-x.invariant.rest z (omega (arith, le));
      }
  | else-gets w ↦
      let same : set_at c.loop-x.rows.items c.loop-x.x ≡ set_at c.args.rows.now.items c.loop-x.x =
      c.loop-x.invariant.rest _ (grind (arith, common_steps)) in
      let known : IsTrue (reaches c.loop-x.rows.items c.loop-x.x c.args.a.0) → IsTrue
      (is_in c.loop-x.rows.items c.loop-x.x c.args.b.0) =
      search rules in
      record {
        count = search rules;
        done =
            rw w.rows-is (merged_still _ _ c.loop-x.x _ _ same (λ y leads more. c.requires.known _ y
            (known_before _ _ _ c.args.a.0 c.args.b.0 same known leads) more)
            c.loop-x.invariant.done);
        rest = λ z le. rw w.rows-is (c.loop-x.invariant.rest z (omega (arith, le)));
      }
]
