use Rattle.std.proofs.Common.{map, sym, ◌∙◌, []}
use Rattle.kore_text.specs.TokenStream.{end}
use Rattle.kore_text.specs.Grammar.{spell_module}
use Rattle.kore_ast.specs.Plain.{pattern_tree, plain_module}
use Rattle.kore_ast.specs.Reading.{left}
use Rattle.kore_ast.proofs.Sequences.{vector-start, vector-more}
use Rattle.kore_ast.proofs.Declared.{definition-read, not-done, apart-modules}
use Rattle.kore_ast.proofs.reader.Reader.definition.Goals as goal

pub loop-self-init : goal.loop-self-init
loop-self-init c = record {
  starts = left c.attributes.new.self;
  attributes = c.in_ok-attrs.ensures.exact;
  modules =
      λ e. vector-start plain_module spell_module c.new-modules.result [] (end e)
      (left c.attributes.new.self) c.new-modules.ensures.items;
}

pub loop-self-preserved : goal.loop-self-preserved
loop-self-preserved c = record {
  starts = c.loop-self.invariant.starts;
  attributes = c.loop-self.invariant.attributes;
  modules = λ e.
      vector-more plain_module spell_module c.loop-self.modules c.push.new.self
      c.in_ok-module.module [] (end e) c.loop-self.invariant.starts (left c.loop-self.self)
      (left c.module.new.self) c.in_ok-push.ensures.items (c.loop-self.invariant.modules e)
      (not-done (left c.loop-self.self) e (sym c.is_done.ensures.same ∙ c.loop-self-test.true))
      (λ us. apart-modules us [] (end e) tt) c.in_ok-module.ensures.exact;
}

pub returns : goal.returns
returns c = record {
  exact =
      definition-read (map pattern_tree c.in_ok-attrs.attrs.items)
      (map plain_module c.loop-self.modules.items) (left c.args.self.now)
      (left c.loop-self.self)
      c.loop-self.invariant (sym c.is_done.ensures.same ∙ c.loop-self-test.false);
}
