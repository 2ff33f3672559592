use Rattle.std.proofs.Common.{arith, map, sym, ◌∙◌, refl}
use Rattle.kore_text.specs.Grammar.{spell_declaration}
use Rattle.kore_ast.specs.Plain.{plain_declaration}
use Rattle.kore_ast.specs.Reading.{left}
use Rattle.kore_ast.proofs.Sequences.{vector-start, vector-more}
use Rattle.kore_ast.proofs.Declared.{ending, body-read, not-ended, apart-declarations}
use Rattle.kore_ast.proofs.reader.Reader.body.Goals as goal

pub loop-self-init : goal.loop-self-init
loop-self-init c = record {
  follows =
      λ k e. vector-start plain_declaration spell_declaration c.new-decls.result (ending k) e
      (left c.args.self.now) c.new-decls.ensures.items;
  shorter = omega arith;
}

pub loop-self-preserved : goal.loop-self-preserved
loop-self-preserved c = record {
  follows = λ k e.
      vector-more plain_declaration spell_declaration c.loop-self.decls c.push.new.self
      c.in_ok-decl.decl (ending k) e (left c.args.self.now) (left c.loop-self.self)
      (left c.declaration.new.self) c.in_ok-push.ensures.items (c.loop-self.invariant.follows k e)
      (not-ended (left c.loop-self.self) k e
      (sym c.has_declaration.ensures.same ∙ c.loop-self-test.true))
      (λ us. apart-declarations us (ending k) e refl) c.in_ok-decl.ensures.exact;
  shorter = omega (arith, c.loop-self.invariant.shorter, c.in_ok-decl.ensures.shorter);
}

pub returns-clause-exact : goal.returns-clause-exact
returns-clause-exact c =
    body-read (map plain_declaration c.loop-self.decls.items) (left c.args.self.now)
    (left c.loop-self.self) (left c.pass.new.self) c.loop-self.invariant.follows
    (sym c.has_declaration.ensures.same ∙ c.loop-self-test.false) c.pass.ensures.rest
