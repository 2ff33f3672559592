use Rattle.std.proofs.Common.{◌≡◌, List, ◌++◌, false, true, ap, ◌∙◌, sym, rules}
use Rattle.ml_pat.specs.Patterns.{Pattern}
use Rattle.ml_kernel.specs.Theorems.{Derivation}
use Rattle.mm_claims.specs.AddedVariables.{added}
use Rattle.mm_claims.specs.Blocks.{Claim, needs_block}
use Rattle.mm_claims.specs.OpenVariables.{variables_of}
use Rattle.mm_claims.specs.ClaimVariables.{other_variables}
use Rattle.mm_claims.specs.Variables.{Variable}
use Rattle.mm_render.specs.declared.variables.Variable as code
use Rattle.mm_render.specs.ClaimView.{plain_claim}
use Rattle.mm_render.specs.PlaceTable.{found_at}
use Rattle.mm_render.specs.TheoremText.{theorem_front}
use Rattle.mm_render.specs.VariablesView.{plain_variables}
use Rattle.mm_proof.proofs.Stacking.{on_ok}
use Rattle.mm_render.proofs.TheoremTexts.{plain_theorem_written, block_theorem_written}
use Rattle.mm_render.proofs.TheoremTexts.{written_theorem}
use Rattle.mm_render.proofs.statements.push_theorem.Goals as goal

pub returns-then-not-needs_block : goal.returns-then-not-needs_block
returns-then-not-needs_block c =
    let at = c.args.at.now in
    let s : Claim = plain_claim c.args.claim.now in
    let d : Derivation = c.args.derivation.now in
    let all : plain_variables c.in_ok-variables.variables.items
    ≡ s.variables ++ other_variables s.variables (variables_of (found_at at) d) =
    c.in_ok-variables.ensures.needed
    ∙ ap (λ (vs : List code.Variable). added (plain_variables vs) (variables_of (found_at at) d))
    c.deref.ensures.value in
    let off : c.needs_block.result ≡ false = search rules in
    let none : needs_block
    (s.variables ++ other_variables s.variables (variables_of (found_at at) d)) s.hypotheses
    ≡ false =
    ap (λ (vs : List Variable). needs_block vs s.hypotheses) (sym all)
    ∙ ap (λ (vs : List code.Variable). needs_block (plain_variables vs) s.hypotheses)
    (sym c.deref-2.ensures.value)
    ∙ ap (λ (ps : List Pattern). needs_block (plain_variables c.deref-2.result.now) ps)
    (sym c.deref-3.ensures.value)
    ∙ sym c.needs_block.ensures ∙ off in
    let w = c.in_ok-write_derivation.ensures in
    on_ok c.push_word.result (λ text. written_theorem at s d w.proof c.args.to.now.items
    c.push_word.new.to.items c.in_ok-variables.ensures.numbered w.compresses
    (plain_theorem_written at.names.now at.serial s
    (other_variables s.variables (variables_of (found_at at) d))
    w.proof c.args.to.now.items
    c.push_statement_front.new.to.items c.write_derivation.new.to.items
    c.push_word.new.to.items none c.in_ok-push_statement_front.ensures
    w.appended text)) c.push_word.ensures

pub returns : goal.returns
returns c =
    let at = c.args.at.now in
    let s : Claim = plain_claim c.args.claim.now in
    let d : Derivation = c.args.derivation.now in
    let all : plain_variables c.in_ok-variables.variables.items
    ≡ s.variables ++ other_variables s.variables (variables_of (found_at at) d) =
    c.in_ok-variables.ensures.needed
    ∙ ap (λ (vs : List code.Variable). added (plain_variables vs) (variables_of (found_at at) d))
    c.deref.ensures.value in
    let on : c.needs_block.result ≡ true = search rules in
    let needed : needs_block
    (s.variables ++ other_variables s.variables (variables_of (found_at at) d)) s.hypotheses
    ≡ true =
    ap (λ (vs : List Variable). needs_block vs s.hypotheses) (sym all)
    ∙ ap (λ (vs : List code.Variable). needs_block (plain_variables vs) s.hypotheses)
    (sym c.deref-2.ensures.value)
    ∙ ap (λ (ps : List Pattern). needs_block (plain_variables c.deref-2.result.now) ps)
    (sym c.deref-3.ensures.value)
    ∙ sym c.needs_block.ensures ∙ on in
    let front : c.push_theorem_front.new.to.items
    ≡ c.args.to.now.items ++ theorem_front at.names.now at.serial
    (s.variables ++ other_variables s.variables (variables_of (found_at at) d)) s.hypotheses
    s.conclusion =
    c.in_ok-push_theorem_front.ensures
    ∙ ap (λ (vs : List code.Variable). c.args.to.now.items
    ++ theorem_front at.names.now at.serial (plain_variables vs) s.hypotheses s.conclusion)
    c.deref-4.ensures.value
    ∙ ap (λ (vs : List Variable). c.args.to.now.items
    ++ theorem_front at.names.now at.serial vs s.hypotheses s.conclusion) all in
    let w = c.in_ok-write_derivation-2.ensures in
    on_ok c.push_words.result (λ text. written_theorem at s d w.proof c.args.to.now.items
    c.push_words.new.to.items c.in_ok-variables.ensures.numbered w.compresses
    (block_theorem_written at.names.now at.serial s
    (other_variables s.variables (variables_of (found_at at) d))
    w.proof c.args.to.now.items
    c.push_theorem_front.new.to.items c.write_derivation-2.new.to.items
    c.push_words.new.to.items needed front w.appended text))
    c.push_words.ensures
