use Rattle.std.proofs.Common.{rules, ◌≡◌, ◌+◌, List, [], ◌∷◌, ◌++◌, map, ap, ◌∙◌, sym, subst}
use Rattle.std.proofs.lemmas.List.{map-append}
use Rattle.term_core.specs.Patterns.{Pattern}
use Rattle.term_core.specs.RulePatterns.{plain_pattern}
use Rattle.term_core.specs.declared.rule_patterns.RulePat.{RulePat}
use Rattle.kore_shapes.specs.Views.{pattern_at}
use Rattle.kore_equations.proofs.MeaningLaws.{MeanBefore, first_fine, next_variables, next_meaning}
use Rattle.kore_equations.proofs.MeaningLaws.{last_meaning}
use Rattle.kore_equations.proofs.patterns.built_patterns.Goals as goal

pub loop-pat-preserved : goal.loop-pat-preserved
loop-pat-preserved c =
    let sig = c.args.sig.now in
    let pats = c.args.pats.now in
    let i = c.loop-pat.pat-index in
    let p : RulePat = c.in_ok-build_pattern.field-0 in
    let pushed : c.push.new.self.items ≡ c.loop-pat.made.items ++ p ∷ [] = search rules in
    let mapped : map plain_pattern c.push.new.self.items ≡ map plain_pattern c.loop-pat.made.items
    ++
    plain_pattern p ∷ [] =
    ap (map plain_pattern) pushed ∙ map-append plain_pattern c.loop-pat.made.items (p ∷ []) in
    record {
      fine =
          (first_fine pattern_at sig pats i c.pat-item.result c.loop-pat-test.true
          c.pat-item.is c.loop-pat.invariant.fine).1;
      vars =
          next_variables pattern_at sig pats i c.pat-item.result c.loop-pat.vars
          c.build_pattern.new.vars _ c.loop-pat-test.true c.pat-item.is
          c.in_ok-build_pattern.ensures.vars c.loop-pat.invariant.vars;
      means =
          subst (λ (ps : List Pattern).
          MeanBefore pattern_at sig c.build_pattern.new.vars pats (i + 1) ps) (sym mapped)
          (next_meaning pattern_at sig pats i c.pat-item.result c.loop-pat.vars
          c.build_pattern.new.vars (map plain_pattern c.loop-pat.made.items) (plain_pattern p)
          c.loop-pat-test.true c.pat-item.is c.in_ok-build_pattern.ensures.vars
          c.in_ok-build_pattern.ensures.means c.loop-pat.invariant.means);
    }

pub returns-clause-means : goal.returns-clause-means
returns-clause-means c =
    last_meaning pattern_at c.args.sig.now c.args.pats.now c.loop-pat.pat-index c.loop-pat.vars
    (map plain_pattern c.loop-pat.made.items) c.loop-pat-test.false c.loop-pat.invariant.means
