-- A derivation that cites soundly is written as a proof of what it concludes, by induction.
use Rattle.std.proofs.Common.{List, [], ◌∷◌, map, refl, subst}
use Rattle.mm_database.specs.Database.{Context}
use Rattle.mm_database.specs.Proofs.{Proves, AllProve}
use Rattle.ml_pat.specs.Patterns.{Pattern}
use Rattle.ml_kernel.specs.Lemmas.{instances}
use Rattle.ml_kernel.specs.Theorems.{Derivation, Derivations, hypothesis, own_axiom, by_rule, cited}
use Rattle.ml_kernel.specs.Theorems.{no_derivation, more_derivations}
use Rattle.ml_kernel.specs.Concluding.{Concludes, AllConclude}
use Rattle.mm_proof.specs.Tokens.{Naming}
use Rattle.proof_nodes.specs.Tables.{forest_of}
use Rattle.ml_pat.specs.Leaves.{LeafFacts}
use Rattle.mm_proof.specs.Serving.{Serves}
use Rattle.mm_proof.specs.Derivations.{holds_text, Citing, derivation_tree, derivation_trees}
use Rattle.mm_proof.specs.SoundCiting.{CitesSoundly}
use Rattle.ml_kernel.specs.UsedLeaves.{EachUsed, AllUsed}
use Rattle.ml_kernel.specs.MayCite.{MayCite, EachCited, AllCited}
use Rattle.mm_proof.proofs.RuleLaws.{rule_proves}

mutual
  pub cited_proves : (c : Context) (l n : Naming) (known : LeafFacts) (hyps : List Pattern)
      (k : MayCite) (s : Citing) → Serves c l n known → CitesSoundly c n hyps k s
      → (d : Derivation) (q : Pattern) → Concludes hyps d q → EachUsed known d → EachCited k d
      → Proves c (derivation_tree l s d) (holds_text n q)
  cited_proves c l n known hyps k s w sound (hypothesis p) q concludes used cites =
      subst (λ (r : Pattern). Proves c (s.premise p) (holds_text n r)) concludes.1
      (sound.premise p concludes.0)
  cited_proves c l n known hyps k s w sound (own_axiom i p new) q concludes used cites =
      sound.fact p q new cites concludes.1
  cited_proves c l n known hyps k s w sound (by_rule r is ds) q (ps, (infers, every)) used cites =
      rule_proves c l n known (derivation_trees l s ds) w infers used.0
      (cited_prove c l n known hyps k s w sound ds ps every used.1 cites)
  cited_proves c l n known hyps k s w sound (cited own p d ms ds) q (inner, closed) used cites =
      subst
      (λ (r : Pattern). Proves c (s.lemma own p ms (derivation_trees l s ds)) (holds_text n r))
      closed.1.0
      (sound.lemma own p ms (derivation_trees l s ds) cites.0 closed.0
      (cited_prove c l n known hyps k s w sound ds (instances ms own) closed.1.1 used cites.1))

  cited_prove : (c : Context) (l n : Naming) (known : LeafFacts) (hyps : List Pattern) (k : MayCite)
      (s : Citing) → Serves c l n known → CitesSoundly c n hyps k s
      → (ds : Derivations) (ps : List Pattern) → AllConclude hyps ds ps → AllUsed known ds
      → AllCited k ds → AllProve c (forest_of (derivation_trees l s ds)) (map (holds_text n) ps)
  cited_prove c l n known hyps k s w sound no_derivation [] every used cites = refl
  cited_prove c l n known hyps k s w sound no_derivation (p ∷ ps) every used cites = absurd every
  cited_prove c l n known hyps k s w sound (more_derivations d ds) [] every used cites =
      absurd every
  cited_prove c l n known hyps k s w sound (more_derivations d ds) (p ∷ ps) every used cites = (
    holds_text n p,
    map (holds_text n) ps,
    refl,
    cited_proves c l n known hyps k s w sound d p every.0 used.0 cites.0,
    cited_prove c l n known hyps k s w sound ds ps every.1 used.1 cites.1,
  )
