use Rattle.std.proofs.Common.{rules, ◌≡◌, ◌<◌, sym, ◌∙◌, ap, arith, length}
use Rattle.std.proofs.lemmas.Grind.{common_steps}
use Rattle.rule_core.specs.SubsortFields.{has, set_at}
use Rattle.rule_core.proofs.SortSets.{set_at_set_same, set_at_set_other, is_in_same, set_at_entry}
use Rattle.rule_core.proofs.SortSets.{long_next, long_still}
use Rattle.rule_core.proofs.sort_sets.widen.Goals as goal
use Rattle.rule_core.proofs.sort_sets.widen.Goals.{then-leads+in_ok-lengthen, else-leads}

pub returns-in_err-lengthen-clause-same : goal.returns-in_err-lengthen-clause-same
returns-in_err-lengthen-clause-same c =
    let inside : c.loop-x.x < length c.loop-x.rows.items = grind (arith, common_steps) in
    λ z y. is_in_same c.loop-x.rows.items c.loop-x.x c.lengthen.new.set inside
    (λ y. c.lengthen.ensures.same y ∙ ap (λ v. has v.items y) c.index_mut.ensures.value
    ∙ ap (λ s. has s y) (sym (set_at_entry c.loop-x.rows.items c.loop-x.x _ inside))) z y
    ∙ c.loop-x.invariant.same z y

pub loop-x-preserved : goal.loop-x-preserved
loop-x-preserved c =
    let inside : c.loop-x.x < length c.loop-x.rows.items = grind (arith, common_steps) in
    elim c.if-leads.branch [
      | then-leads+in_ok-lengthen w ↦
          let entry : set_at c.loop-x.rows.items c.loop-x.x ≡ w.index_mut.result.now.items =
          set_at_entry c.loop-x.rows.items c.loop-x.x _ inside
          ∙ sym (ap (λ v. v.items) w.index_mut.ensures.value) in
          record {
            count = search rules;
            same =
                λ z y. rw w.rows-is (is_in_same c.loop-x.rows.items c.loop-x.x w.lengthen.new.set
                inside (λ y. w.lengthen.ensures.same y ∙ ap (λ s. has s y) (sym entry)) z y
                ∙ c.loop-x.invariant.same z y);
            long =
                long_next c.loop-x.rows.items c.if-leads.rows.items _ c.loop-x.x _ _
                (rw (
                  w.rows-is,
                  set_at_set_same c.loop-x.rows.items c.loop-x.x w.lengthen.new.set
                      inside,
                ) w.in_ok-lengthen.ensures.long)
                (λ z n. rw w.rows-is (set_at_set_other _ _ z _ n)) c.loop-x.invariant.long;
          }
      | else-leads w ↦
          record {
            count = search rules;
            same = rw w.rows-is c.loop-x.invariant.same;
            long =
                rw w.rows-is (long_still _ _ c.loop-x.x _ _ (c.loop-x.invariant.same _ _)
                (search rules) c.loop-x.invariant.long);
          }
    ]
