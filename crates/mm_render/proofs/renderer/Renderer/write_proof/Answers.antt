use Rattle.std.proofs.Common.{List, ℕ, ◌≡◌, ◌++◌, ◌<◌, ◌^◌, length, ap, ◌∙◌, subst, rules}
use Rattle.ml_pat.specs.Patterns.{Pattern}
use Rattle.ml_kernel.specs.Theorems.{Theorem, Derivation}
use Rattle.mm_claims.specs.Blocks.{Claim, Stated}
use Rattle.mm_claims.specs.CitedAt.{ArePremises}
use Rattle.mm_claims.specs.ClaimVariables.{claim_of, claim_variables}
use Rattle.mm_claims.specs.Rendered.{Rendered, all_stated}
use Rattle.mm_claims.specs.OpenVariables.{variables_of}
use Rattle.mm_claims.specs.Places.{Finds}
use Rattle.mm_claims.specs.Provable.{HaveNeeded}
use Rattle.mm_claims.specs.Variables.{AreNumbered}
use Rattle.mm_render.specs.declared.claims.Stated as code
use Rattle.mm_render.specs.ClaimView.{last_of, plain_claim, plain_stated_all}
use Rattle.mm_render.specs.KeyPlaces.{find_by, premise_place_by}
use Rattle.mm_render.specs.PlaceTable.{found_in}
use Rattle.mm_claims.proofs.KeepingLaws.{lemma_gains, one_last_more, one_stated_more}
use Rattle.mm_render.specs.ProvedText.{WritesTheorem}
use Rattle.mm_claims.proofs.ClaimLaws.{claim_once}
use Rattle.mm_render.proofs.PlaceLaws.{all_found}
use Rattle.mm_render.proofs.renderer.Renderer.write_proof.Goals as goal

-- how claims are found, and the places of hypotheses
abbrev find_of : goal.After-drop-premises-2 → List Pattern → Pattern → Stated
find_of c =
    find_by (plain_stated_all c.self.inside.stated.items) (last_of c.self.inside.run)
    (found_in c.self.inside.places)

abbrev premises_of : goal.After-drop-premises-2 → Pattern → ℕ
premises_of c = premise_place_by (found_in c.in_ok-premises.premises)

count : (c : goal.After-drop-premises-2) → c.serial-serial.result ≡ c.args.self.now.count
count c = c.serial-serial.ensures

stated : (c : goal.After-drop-premises-2)
    → plain_claim c.in_ok-claim.claim
    ≡ claim_of c.args.theorem.now.hypotheses c.args.theorem.now.conclusion
stated c =
    c.in_ok-claim.ensures.claim
    ∙ ap (λ (hs : List Pattern). claim_of hs c.conclusion.result.now)
    c.hypotheses-hypotheses.ensures.value
    ∙ ap (claim_of c.args.theorem.now.hypotheses) c.conclusion.ensures

-- how the statement finds claims
abbrev found : goal.After-drop-premises-2 → List code.Stated → List Pattern → Pattern → Stated
found c ss =
    find_by (plain_stated_all ss) (last_of c.self.inside.run) (found_in c.self.inside.places)

-- what is written for a claim with a number and a derivation
abbrev Written : goal.After-drop-premises-2 → ℕ → (List Pattern → Pattern → Stated) → Claim
    → Derivation → Type 0
Written c k find s d =
    WritesTheorem c.args.names.now k find (premises_of c) s d c.args.to.now.items
    c.push_theorem.new.to.items

written : (c : goal.After-drop-premises-2)
    → Written c c.args.self.now.count (find_of c)
    (claim_of c.args.theorem.now.hypotheses c.args.theorem.now.conclusion)
    c.args.theorem.now.derivation
written c =
    let t : Theorem = c.args.theorem.now in
    subst (Written c c.args.self.now.count (find_of c) (claim_of t.hypotheses t.conclusion))
    c.derivation.ensures
    (subst (λ (q : Claim). Written c c.args.self.now.count (find_of c) q c.derivation.result.now)
    (stated c)
    (subst (λ (n : ℕ). Written c n (find_of c) (plain_claim c.in_ok-claim.claim)
    c.derivation.result.now) (count c)
    (subst (λ (ss : List code.Stated). Written c c.serial-serial.result (found c ss)
    (plain_claim c.in_ok-claim.claim) c.derivation.result.now) c.deref.ensures.value
    c.in_ok-push_theorem.ensures)))

numbered : (c : goal.After-drop-premises-2)
    → AreNumbered (claim_variables c.args.theorem.now.hypotheses c.args.theorem.now.conclusion)
numbered c =
    subst (λ (p : Pattern). AreNumbered (claim_variables c.args.theorem.now.hypotheses p))
    c.conclusion.ensures
    (subst (λ (hs : List Pattern). AreNumbered (claim_variables hs c.conclusion.result.now))
    c.hypotheses-hypotheses.ensures.value c.in_ok-claim.ensures.numbered)

needed : (c : goal.After-drop-premises-2)
    → HaveNeeded (variables_of (find_of c) c.args.theorem.now.derivation)
    (claim_variables c.args.theorem.now.hypotheses c.args.theorem.now.conclusion
    ++ (written c).more)
needed c =
    (written c).needed
    (claim_once c.args.theorem.now.hypotheses c.args.theorem.now.conclusion) (numbered c)

finds : (c : goal.After-drop-premises-2) → Finds (all_stated c.args.self.now) (find_of c)
finds c =
    subst (λ (k : Rendered). Finds (all_stated k) (find_of c)) c.self.view_is
    (all_found (plain_stated_all c.self.inside.stated.items) c.self.inside.run
    (found_in c.self.inside.places) c.self.invariant)

pub returns-clause-text : goal.returns-clause-text
returns-clause-text c =
    let k : Rendered = c.args.self.now in
    let t : Theorem = c.args.theorem.now in
    let claim : Claim = claim_of t.hypotheses t.conclusion in
    let inside : c.serial-serial.result < 2 ^ 64 = search rules in
    let few : c.args.self.now.count < 2 ^ 64 = subst (λ (n : ℕ). n < 2 ^ 64) (count c) inside in
    let own : length c.hypotheses-hypotheses.result.now < 2 ^ 64 = search rules in
    let few_hypotheses : length c.args.theorem.now.hypotheses < 2 ^ 64 =
    subst (λ (hs : List Pattern). length hs < 2 ^ 64) c.hypotheses-hypotheses.ensures.value
    own in
    let premises : ArePremises c.args.theorem.now.hypotheses (premises_of c) =
    subst (λ (hs : List Pattern). ArePremises hs (premises_of c))
    c.hypotheses-hypotheses.ensures.value c.in_ok-premises.ensures in
    record {
      find = find_of c;
      premise_place = premises_of c;
      more = (written c).more;
      proof = (written c).proof;
      finds = finds c;
      premises = premises;
      proves = (written c).proves;
      appended = (written c).appended;
      gains =
          λ may. lemma_gains c.args.names.now k _ (find_of c) (premises_of c) t
          (written c).more (written c).proof (one_stated_more k claim) few few_hypotheses
          (numbered c) (needed c) c.hypotheses-hypotheses.ensures.kept (finds c) premises
          (written c).proves may;
      gains_last =
          λ may. lemma_gains c.args.names.now k _ (find_of c) (premises_of c) t
          (written c).more (written c).proof (one_last_more k claim) few few_hypotheses
          (numbered c) (needed c) c.hypotheses-hypotheses.ensures.kept (finds c) premises
          (written c).proves may;
    }
