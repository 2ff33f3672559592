use Rattle.std.proofs.Common.{List, ℕ, ◌≡◌, [], ◌<◌, ◌^◌, take, false, ap, ◌∙◌, sym, subst, rules}
use Rattle.ml_pat.specs.Patterns.{Pattern}
use Rattle.mm_claims.specs.Blocks.{axiom_statements, open_assertion}
use Rattle.mm_claims.specs.ClaimVariables.{claim_of, claim_variables}
use Rattle.mm_render.specs.ClaimView.{plain_claim}
use Rattle.mm_claims.specs.Keeping.{Gains, axiom_at, with_stated}
use Rattle.mm_claims.specs.Rendered.{Rendered}
use Rattle.mm_claims.specs.Variables.{AreNumbered}
use Rattle.mm_proof.proofs.Stacking.{on_ok}
use Rattle.mm_claims.proofs.KeepingLaws.{axiom_is, axiom_gains}
use Rattle.mm_database.specs.StatementTexts.{written_statements}
use Rattle.mm_render.proofs.renderer.Renderer.axiom.Goals as goal

axiom_of : (c : goal.After-drop-text-2) → axiom_at c.args.theory.now c.args.no.0 ≡ c.at.result.now
axiom_of c = axiom_is c.args.theory.now c.args.no.0 c.at.result.now c.at.ensures.axiom

stated : (c : goal.After-drop-text-2)
    → plain_claim c.in_ok-claim.claim ≡ claim_of [] (axiom_at c.args.theory.now c.args.no.0)
stated c = c.in_ok-claim.ensures.claim ∙ ap (claim_of []) (sym (axiom_of c))

pub returns-clause-gains : goal.returns-clause-gains
returns-clause-gains c =
    let inside : c.self.inside.written < 2 ^ 64 = search rules in
    let few : c.args.self.now.count < 2 ^ 64 =
    subst (λ (k : Rendered). k.count < 2 ^ 64) c.self.view_is inside in
    let p : Pattern = axiom_at c.args.theory.now c.args.no.0 in
    let text : List ℕ =
    written_statements
    (axiom_statements c.args.names.now c.args.self.now.count (claim_of [] p)) in
    let numbered : AreNumbered (claim_variables [] p) =
    subst (λ (q : Pattern). AreNumbered (claim_variables [] q)) (sym (axiom_of c))
    c.in_ok-claim.ensures.numbered in
    on_ok c.keep.result (λ h may. subst (λ (k : Rendered). Gains c.args.names.now c.args.self.now k
    text (claim_variables [] p) (open_assertion false
    (take c.args.self.now.named c.args.names.now) c.args.self.now.count (claim_of [] p)))
    (sym (h ∙ ap (with_stated c.args.self.now) (stated c)))
    (axiom_gains c.args.names.now c.args.self.now p few numbered may)) c.keep.ensures.kept
