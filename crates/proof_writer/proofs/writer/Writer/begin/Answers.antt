use Rattle.std.proofs.Common.{[], refl, sym, subst}
use Rattle.mm_header.specs.HeaderText.{header_bytes}
use Rattle.mm_claims.specs.Rendered.{Rendered}
use Rattle.mm_claims.specs.Keeping.{Fits}
use Rattle.rule_core.specs.ProgramView.{theory_of}
use Rattle.proof_writer.proofs.WritingLaws.{nothing_written}
use Rattle.proof_writer.proofs.writer.Writer.begin.Goals as goal

pub returns-clause-written : goal.returns-clause-written
returns-clause-written c =
    nothing_written c.args.program.now
    (record { renderer = c.begin.new.self; axioms = 0; lemmas = 0; statements = 88; facts = 0 })
    c.in_ok-begin.ensures.kept refl refl

pub returns-clause-text : goal.returns-clause-text
returns-clause-text c = (
  header_bytes,
  c.in_ok-begin.ensures.text,
  record {
    fits =
        c.in_ok-begin.ensures.fits [] []
        (subst (λ (k : Rendered). Fits [] k []) (sym c.new-renderer.ensures) refl);
    only = c.justifying_laws.ensures.header (theory_of c.args.program.now);
    counts = c.counting_laws.ensures.header;
  },
)
