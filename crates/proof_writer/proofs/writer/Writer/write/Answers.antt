use Rattle.std.proofs.Common.{◌∙◌}
use Rattle.proof_writer.specs.Writing.{context_of}
use Rattle.proof_writer.proofs.TheoremLaws.{lemmas_after, on_both}
use Rattle.proof_writer.proofs.WritingLaws.{on_one, adds_then}
use Rattle.proof_writer.proofs.writer.Writer.write.Goals as goal

pub returns-clause-keeps : goal.returns-clause-keeps
returns-clause-keeps c =
    on_one c.write_lemmas.result
    (λ writes hs q h. writes.keeps hs q (c.in_ok-write_axioms.ensures.writes.keeps hs q
    (c.in_ok-declare.ensures.writes.keeps hs q h)))
    c.write_lemmas.ensures.writes

pub returns-clause-text : goal.returns-clause-text
returns-clause-text c =
    let cx = context_of c.args.made.now in
    let w = c.args.self.now in
    let to = c.args.to.now.items in
    on_one c.write_lemmas.result
    (λ writes. adds_then cx w c.write_axioms.new.self c.write_lemmas.new.self to
    c.write_axioms.new.to.items c.write_lemmas.new.to.items
    (adds_then cx w c.declare.new.self c.write_axioms.new.self to c.declare.new.to.items
    c.write_axioms.new.to.items c.in_ok-declare.ensures.writes.text
    c.in_ok-write_axioms.ensures.writes.text)
    writes.text)
    c.write_lemmas.ensures.writes

pub returns-clause-theorems : goal.returns-clause-theorems
returns-clause-theorems c =
    let cx = context_of c.args.made.now in
    let w = c.args.self.now in
    let to = c.args.to.now.items in
    on_both c.write_lemmas.result
    (λ writes states. lemmas_after cx w c.write_axioms.new.self c.write_lemmas.new.self to
    c.write_axioms.new.to.items c.write_lemmas.new.to.items
    (c.in_ok-write_axioms.ensures.lemmas ∙ c.in_ok-declare.ensures.lemmas)
    (adds_then cx w c.declare.new.self c.write_axioms.new.self to c.declare.new.to.items
    c.write_axioms.new.to.items c.in_ok-declare.ensures.writes.text
    c.in_ok-write_axioms.ensures.writes.text)
    writes.text states)
    c.write_lemmas.ensures.writes c.write_lemmas.ensures.theorems
