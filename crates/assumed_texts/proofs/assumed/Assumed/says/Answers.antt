use Rattle.assumed_texts.proofs.FilingLaws.{written-kept}
use Rattle.assumed_texts.proofs.assumed.Assumed.says.Goals as goal

pub invariant_of-self : goal.invariant_of-self
invariant_of-self c = record {
  program = c.self.invariant.program;
  images =
      written-kept c.self.inside.program.now c.self.inside.names c.says_in.new.names
      c.self.inside.images.by_text c.self.inside.images.others.items c.self.invariant.program
      c.says_in.ensures.names c.self.invariant.images;
}
