use Rattle.mm_claims.specs.ClaimVariables.{claim_of}
use Rattle.rule_core.specs.ProgramView.{theory_of}
use Rattle.proof_writer.specs.Writing.{context_of}
use Rattle.proof_writer.proofs.CountLaws.{more_statements}
use Rattle.proof_writer.proofs.TheoremLaws.{keeps_assertions, states_theorem}
use Rattle.proof_writer.proofs.WritingLaws.{keeps_stated}
use Rattle.proof_writer.proofs.writer.Writer.state.Goals as goal

pub returns-clause-text : goal.returns-clause-text
returns-clause-text c =
    let w = c.args.self.now in
    let names = c.args.made.now.names.now in
    let states = c.in_ok-lemma.ensures.states in (
      _,
      states.appended,
      λ text h. record {
        fits =
            c.justifying_laws.ensures.anywhere names w.renderer c.lemma.new.self c.args.thm.now
            c.args.to.now.items c.lemma.new.to.items text _ states states.appended
            c.requires.proved h.fits;
        only =
            c.justifying_laws.ensures.theorem (theory_of c.args.made.now.program.now) names
            w.renderer c.lemma.new.self c.args.thm.now c.args.to.now.items c.lemma.new.to.items
            text _ states states.appended
            c.requires.proved h.fits h.only;
        counts = more_statements w.facts w.statements _ 1 text _ h.counts
            (c.counting_laws.ensures.theorem names w.renderer c.lemma.new.self c.args.thm.now
            c.args.to.now.items c.lemma.new.to.items text _ states states.appended
            c.requires.proved h.fits)
            c.saturating_add-self.ensures;
      },
    )

pub returns-clause-keeps : goal.returns-clause-keeps
returns-clause-keeps c =
    keeps_stated c.later_laws.ensures.stated c.args.self.now.renderer c.lemma.new.self
    (claim_of c.args.thm.now.hypotheses c.args.thm.now.conclusion) c.in_ok-lemma.ensures.kept

pub returns-clause-states : goal.returns-clause-states
returns-clause-states c =
    let w = c.args.self.now in
    let cx = context_of c.args.made.now in
    states_theorem cx w c.lemma.new.self c.args.thm.now c.args.to.now.items c.lemma.new.to.items
    (c.later_laws.ensures.all cx.names w.renderer c.requires.named) c.in_ok-lemma.ensures.states
    c.requires.proved

pub returns-clause-assertions : goal.returns-clause-assertions
returns-clause-assertions c =
    keeps_assertions (context_of c.args.made.now) c.args.self.now c.lemma.new.self c.args.thm.now
    c.args.to.now.items c.lemma.new.to.items c.in_ok-lemma.ensures.states c.requires.proved
