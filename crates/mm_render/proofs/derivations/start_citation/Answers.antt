use Rattle.std.proofs.Common.{◌≡◌, ℕ, ◌+◌, List, [], ◌∷◌, ◌++◌, Result, Ok, Err, length, take, ap}
use Rattle.std.proofs.Common.{◌∙◌, sym, arith}
use Rattle.std.specs.Prelude.{OnOk}
use Rattle.std.proofs.lemmas.List.{length-map, take_all, take_more}
use Rattle.ml_pat.specs.Patterns.{Pattern}
use Rattle.ml_kernel.specs.Theorems.{derivations}
use Rattle.ml_kernel.specs.StepView.{numbers_of}
use Rattle.mm_claims.specs.Blocks.{Stated}
use Rattle.mm_claims.specs.Variables as plain
use Rattle.mm_proof.specs.Labels.{statement_label}
use Rattle.mm_proof.specs.Trees.{cite}
use Rattle.mm_proof.specs.declared.words.Label.TheVariants as label
use Rattle.mm_render.specs.Parts.{proofs_by, value_trees}
use Rattle.mm_render.specs.PlaceTable.{found_at}
use Rattle.mm_render.specs.VariablesView.{plain_variables, variable_of}
use Rattle.mm_render.specs.declared.variables.Variable.{Variable}
use Rattle.mm_proof.proofs.Stacking.{on_ok}
use Rattle.mm_render.proofs.PartLaws.{builds_same, more_values, put_citation}
use Rattle.mm_render.proofs.derivations.start_citation.Goals as goal

pub loop-variable-preserved : goal.loop-variable-preserved
loop-variable-preserved c =
    let all : List Variable = c.in_ok-cited.cited.variables.now in
    more_values (numbers_of c.args.new.now) c.args.patterns.now all c.loop-variable.variable-index _
    c.args.table.now c.loop-variable.table c.prove_value.new.table c.loop-variable.invariant
    c.in_ok-prove_value.ensures
    (take_more all c.loop-variable.variable-index _ c.loop-variable-test.true)

on_any : {T E : Type 0} {P : Type 0} (r : Result T E) → P → OnOk r P
on_any (Ok x) p = p
on_any (Err e) p = tt

pub returns-clause-values : goal.returns-clause-values
returns-clause-values c =
    let all : List Variable = c.in_ok-cited.cited.variables.now in
    let xs : List ℕ = numbers_of c.args.new.now in
    let ms : List Pattern = c.args.patterns.now in
    let whole : take c.loop-variable.variable-index all ≡ all =
    take_all c.loop-variable.variable-index all (omega (arith, c.loop-variable-test.false)) in
    on_any c.put_derived.result (builds_same _ _ c.args.table.now c.loop-variable.table
    (λ k. ap (λ (us : List Variable). value_trees k xs ms (plain_variables us)) whole
    ∙ ap (λ (vs : List plain.Variable). value_trees k xs ms vs) c.in_ok-cited.ensures.variables)
    c.loop-variable.invariant)

pub returns-clause-stack : goal.returns-clause-stack
returns-clause-stack c =
    let found : Stated = found_at c.args.at.now c.args.hypotheses.now c.args.conclusion.now in
    let cited = c.in_ok-cited.cited in
    let xs : List ℕ = numbers_of c.args.new.now in
    let ms : List Pattern = c.args.patterns.now in
    let variables : length (plain_variables cited.variables.now) ≡ length found.claim.variables =
    ap length c.in_ok-cited.ensures.variables in
    let count : length cited.variables.now + length c.args.parts.now
    ≡ length found.claim.variables + length c.args.parts.now =
    omega (arith, variables, length-map cited.variables.now variable_of) in
    on_ok c.put_derived.result (put_citation
    (length cited.variables.now + length c.args.parts.now) found xs ms c.args.parts.now
    (label.Stated cited.number) c.args.stack.now.items c.push.new.self.items
    c.put_derived.new.stack.items
    (λ k at. ap (λ (i : ℕ). cite (statement_label i) (value_trees k xs ms found.claim.variables
    ++ proofs_by k at (derivations c.args.parts.now))) c.in_ok-cited.ensures.number)
    count c.in_ok-push.ensures.items) c.put_derived.ensures
