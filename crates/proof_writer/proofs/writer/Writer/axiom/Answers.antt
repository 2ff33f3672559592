use Rattle.std.proofs.Common.{◌≡◌, ℕ, ◌+◌, if◌then◌else◌, List, [], Some, length, take, refl, ap}
use Rattle.std.proofs.Common.{◌∙◌, sym, subst}
use Rattle.std.specs.Prelude.{slice_get}
use Rattle.mm_text.specs.Bytes.{Token}
use Rattle.ml_pat.specs.Leaves.{EachLeaf}
use Rattle.ml_image.specs.Sentences.{Sentence, sentence_image}
use Rattle.mm_claims.specs.Rendered.{Rendered}
use Rattle.mm_claims.specs.ClaimVariables.{claim_of}
use Rattle.mm_claims.specs.Keeping.{MayState, axiom_at, with_stated}
use Rattle.mm_claims.specs.OverNames.{over_names}
use Rattle.mm_justify.specs.FactForms.{is_fact_form}
use Rattle.rule_core.specs.ProgramView.{theory_of}
use Rattle.ml_image.specs.Assumed.{IsAssumed}
use Rattle.proof_writer.specs.Writing.{context_of}
use Rattle.proof_writer.proofs.CountLaws.{fact_counted, more_counts}
use Rattle.proof_writer.proofs.ScopeLaws.{contained}
use Rattle.proof_writer.proofs.WritingLaws.{axiom_there, written_axiom, keeps_stated, stated_still}
use Rattle.proof_writer.proofs.WritingLaws.{last_stated, few_named}
use Rattle.proof_writer.proofs.writer.Writer.axiom.Goals as goal

pub returns-clause-writes : goal.returns-clause-writes
returns-clause-writes c =
    let w = c.args.self.now in
    let cx = context_of c.args.made.now in
    let p = axiom_at cx.axioms c.args.no in
    let there : slice_get cx.axioms c.args.no ≡ Some p =
    axiom_there cx.axioms c.args.no c.requires.there in
    let kept : c.axiom.new.self ≡ with_stated w.renderer (claim_of [] p) =
    c.in_ok-axiom.ensures.kept in
    let own : (s : Sentence) × IsAssumed (theory_of cx.program) s ×
    (sentence_image cx.program.sig cx.names s ≡ Some p) =
    c.requires.context.axioms p (contained cx.axioms c.args.no p there) in
    let back : take w.renderer.named cx.names ≡ cx.names =
    c.later_laws.ensures.all cx.names w.renderer c.requires.named in
    let image : sentence_image cx.program.sig (take w.renderer.named cx.names) own.0 ≡ Some p =
    subst (λ (ns : List Token). sentence_image cx.program.sig ns own.0 ≡ Some p) (sym back) own.2 in
    let over : EachLeaf (over_names (take w.renderer.named cx.names)) p =
    c.image_laws.ensures.over cx.program.sig (take w.renderer.named cx.names) own.0 p image in
    let may : MayState cx.names w.renderer p =
    record { begun = c.requires.written.begun; over = (over, tt) } in
    let gains = c.in_ok-axiom.ensures.gains may in
    record {
      written =
          written_axiom cx w _ p c.requires.written
          (subst (λ (n : ℕ). slice_get cx.axioms n ≡ Some p) (sym c.requires.next) there)
          (ap (λ (k : Rendered). k.begun) kept)
          (few_named w.renderer c.axiom.new.self (claim_of [] p) (length cx.names) kept
          c.requires.written.named)
          (ap (λ (n : ℕ). n + 1) (sym c.requires.next)) refl
          (stated_still c.later_laws.ensures.stated w.renderer c.axiom.new.self (claim_of [] p)
          kept)
          (last_stated c.later_laws.ensures.last w.renderer c.axiom.new.self (claim_of [] p) kept);
      named = ap (λ (k : Rendered). k.named) kept ∙ c.requires.named;
      keeps =
          keeps_stated c.later_laws.ensures.stated w.renderer c.axiom.new.self (claim_of [] p) kept;
      text = (
        _,
        c.in_ok-axiom.ensures.text,
        λ bytes h. record {
          fits = gains.fits bytes h.fits;
          only =
              c.justifying_laws.ensures.axiomatic (theory_of cx.program) cx.names w.renderer
              c.axiom.new.self own.0 p bytes _ own.1 image gains h.fits h.only;
          counts =
              more_counts w.facts _ w.statements _ (if is_fact_form p then 1 else 0) 1 bytes _
              h.counts
              (c.counting_laws.ensures.axiomatic (theory_of cx.program) cx.names w.renderer
              c.axiom.new.self own.0 p bytes _ own.1 image gains h.fits)
              (fact_counted cx.axioms c.args.no p c.at.result.now c.is_fact-fact.result
              c.from.result w.facts c.saturating_add-self-2.result there c.at.ensures.axiom
              c.is_fact-fact.ensures c.from.ensures c.saturating_add-self-2.ensures)
              c.saturating_add-self.ensures;
        },
      );
    }
