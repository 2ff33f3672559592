use Rattle.std.proofs.Common.{◌≡◌, ℕ, ◌<◌, ◌^◌, ◌-◌, length, drop, refl, sym, ap, ◌∙◌, rules, arith}
use Rattle.mm_claims.specs.Rendered.{Rendered}
use Rattle.rule_core.specs.ProgramView.{theory_of}
use Rattle.proof_writer.specs.Writing.{context_of}
use Rattle.proof_writer.proofs.CountLaws.{more_statements, undeclared}
use Rattle.proof_writer.proofs.PlainNameLaws.{own_names, own_behind}
use Rattle.proof_writer.proofs.WritingLaws.{declared, keeps_names}
use Rattle.proof_writer.proofs.writer.Writer.declare.Goals as goal

pub returns-clause-writes : goal.returns-clause-writes
returns-clause-writes c =
    let w = c.args.self.now in
    let cx = context_of c.args.made.now in
    let names = c.args.made.now.names.now in
    let sig = c.args.made.now.program.now.sig in
    let kept = c.in_ok-declare.ensures.kept in
    let are = own_names sig c.requires.names names c.requires.context.own in
    let few : length names < 2 ^ 64 = search rules in
    let new : length (drop w.renderer.named names) ≡ c.count-count.result -
    c.declared-before.result =
    undeclared names w.renderer.named c.count-count.result c.count-count.ensures
    ∙ ap (λ (n : ℕ). c.count-count.result - n) (sym c.declared-before.ensures) in
    record {
      written = declared cx w _ c.requires.written kept refl refl;
      named = ap (λ (k : Rendered). k.named) kept;
      keeps = keeps_names w.renderer c.declare.new.self (length names) kept;
      text = (
        _,
        c.in_ok-declare.ensures.text,
        λ bytes h. record {
          fits = c.in_ok-declare.ensures.fits are c.requires.written.begun bytes h.fits;
          only =
              c.justifying_laws.ensures.declared (theory_of c.args.made.now.program.now) names
              w.renderer bytes are c.tokens_differ.ensures few c.requires.written.begun
              c.requires.written.named
              (own_behind sig names w.renderer.named c.requires.context.own) h.fits h.only;
          counts =
              more_statements w.facts w.statements _ (length (drop w.renderer.named names)) bytes
              _ h.counts
              (c.counting_laws.ensures.declared names w.renderer bytes are c.tokens_differ.ensures
              few c.requires.written.begun c.requires.written.named h.fits)
              (omega (arith, c.saturating_add-self.ensures, new));
        },
      );
    }
