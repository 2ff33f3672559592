use Rattle.std.proofs.Common.{◌≡◌, get_or, length, List, ℕ, sym, ◌∙◌, ap, subst}
use Rattle.std.specs.Prelude.{Contains}
use Rattle.ml_kernel.specs.Theorems.{Theorem}
use Rattle.ml_image.proofs.ImageLaws.{if_ok}
use Rattle.prove_term.specs.Contexts.{Context, HasGrown}
use Rattle.prove_term.proofs.ContextLaws.{grown_none, grown_lemma}
use Rattle.prove_run.specs.ReachLemma.{IsReachLemma}
use Rattle.prove_run.proofs.ContextLaws.{kept_lemma, last_lemma}
use Rattle.prove_run.proofs.proof.keep_reach_lemma.Goals as goal

pub returns-in_err-thm-clause-grown : goal.returns-in_err-thm-clause-grown
returns-in_err-thm-clause-grown c = grown_none c.args.prover.now

pub returns-in_err-add_lemma-clause-grown : goal.returns-in_err-add_lemma-clause-grown
returns-in_err-add_lemma-clause-grown c =
    subst (λ (cx : Context). HasGrown c.args.prover.now cx) (sym c.in_err-add_lemma.ensures.err)
    (grown_none c.args.prover.now)

pub add_lemma-requires : goal.add_lemma-requires
add_lemma-requires c = c.in_ok-thm.ensures.stays c.args.prover.now

pub returns-clause-says : goal.returns-clause-says
returns-clause-says c =
    let at : length c.lemmas-place.result.now ≡ length c.args.prover.now.lemmas =
    ap length (c.lemmas-place.ensures ∙ ap (λ (cx : Context). cx.lemmas) c.cx.ensures) in
    let kept : c.lemmas.result.now ≡ c.add_lemma.new.self.lemmas =
    c.lemmas.ensures ∙ ap (λ (cx : Context). cx.lemmas) c.cx-2.ensures in
    let lemma = c.index-lemmas-place.result in
    let found : lemma ≡ get_or c.add_lemma.new.self.lemmas (length c.lemmas-place.result.now) lemma =
    c.index-lemmas-place.is
    ∙ ap (λ (ts : List Theorem). get_or ts (length c.lemmas-place.result.now) lemma) kept in
    if_ok (λ (t : Theorem). t ≡ lemma) IsReachLemma c.share.result
    (λ t same. subst IsReachLemma
    (sym (last_lemma c.args.prover.now c.add_lemma.new.self c.in_ok-thm.thm lemma t
    (length c.lemmas-place.result.now) c.in_ok-add_lemma.ensures.ok at found same))
    c.in_ok-thm.ensures.says) c.share.ensures

pub returns-clause-there : goal.returns-clause-there
returns-clause-there c =
    let at : length c.lemmas-place.result.now ≡ length c.args.prover.now.lemmas =
    ap length (c.lemmas-place.ensures ∙ ap (λ (cx : Context). cx.lemmas) c.cx.ensures) in
    let kept : c.lemmas.result.now ≡ c.add_lemma.new.self.lemmas =
    c.lemmas.ensures ∙ ap (λ (cx : Context). cx.lemmas) c.cx-2.ensures in
    let lemma = c.index-lemmas-place.result in
    let found : lemma ≡ get_or c.add_lemma.new.self.lemmas (length c.lemmas-place.result.now) lemma =
    c.index-lemmas-place.is
    ∙ ap (λ (ts : List Theorem). get_or ts (length c.lemmas-place.result.now) lemma) kept in
    if_ok (λ (t : Theorem). t ≡ lemma) (Contains c.add_lemma.new.self.lemmas) c.share.result
    (λ t same. kept_lemma c.args.prover.now c.add_lemma.new.self c.in_ok-thm.thm t
    c.in_ok-add_lemma.ensures.ok
    (last_lemma c.args.prover.now c.add_lemma.new.self c.in_ok-thm.thm lemma t
    (length c.lemmas-place.result.now) c.in_ok-add_lemma.ensures.ok at found same))
    c.share.ensures

pub returns-clause-grown : goal.returns-clause-grown
returns-clause-grown c =
    subst (λ (cx : Context). HasGrown c.args.prover.now cx) (sym c.in_ok-add_lemma.ensures.ok)
    (grown_lemma c.args.prover.now c.in_ok-thm.thm)
