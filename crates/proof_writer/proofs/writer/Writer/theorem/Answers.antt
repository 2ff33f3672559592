use Rattle.std.proofs.Common.{◌≡◌, ◌≤◌, List, ◌++◌, Some, length, take, ap, ◌∙◌, sym, subst}
use Rattle.mm_text.specs.Bytes.{Token}
use Rattle.ml_pat.specs.Patterns.{imp, ev}
use Rattle.ml_pat.specs.Leaves.{EachLeaf}
use Rattle.ml_image.specs.Images.{image_of}
use Rattle.mm_claims.specs.Rendered.{Rendered}
use Rattle.mm_claims.specs.ClaimVariables.{claim_of}
use Rattle.mm_claims.specs.OverNames.{closed_over}
use Rattle.mm_claims.specs.Places.{IsStated}
use Rattle.rule_core.specs.ProgramView.{theory_of}
use Rattle.proof_writer.specs.Writing.{context_of}
use Rattle.proof_writer.specs.declared.writer.Writer.{Writer}
use Rattle.proof_writer.proofs.PlainNameLaws.{own_names}
use Rattle.proof_writer.proofs.WritingLaws.{on_one, written_more, run_stated, theorem_may}
use Rattle.proof_writer.proofs.WritingLaws.{theorem_assumes_nothing}
use Rattle.proof_writer.proofs.writer.Writer.theorem.Goals as goal

pub state_last-requires-clause-proved : goal.state_last-requires-clause-proved
state_last-requires-clause-proved c =
    theorem_may (context_of c.args.made.now) c.args.self.now c.args.thm.now
    c.image_laws.ensures.over c.requires.all c.requires.follows

pub returns-clause-all : goal.returns-clause-all
returns-clause-all c =
    let w = c.args.self.now in
    let cx = context_of c.args.made.now in
    let new = c.state_last.new.self in
    on_one c.state_last.result
    (λ is.
    let kept = ap (λ (v : Writer). v.renderer) is in
    record {
      written = written_more cx w new c.requires.all.written (ap (λ (k : Rendered). k.begun) kept)
          (subst (λ (k : Rendered). k.named ≤ length cx.names) (sym kept)
          c.requires.all.written.named)
          (ap (λ (v : Writer). v.axioms) is) (ap (λ (v : Writer). v.lemmas) is)
          (λ hs q h. subst (λ (k : Rendered). IsStated k.stated hs q) (sym kept) h);
      names = ap (λ (k : Rendered). k.named) kept ∙ c.requires.all.names;
      axioms = ap (λ (v : Writer). v.axioms) is ∙ c.requires.all.axioms;
      lemmas = ap (λ (v : Writer). v.lemmas) is ∙ c.requires.all.lemmas;
    })
    c.state_last.ensures.kept

pub returns-clause-stated : goal.returns-clause-stated
returns-clause-stated c =
    let t = c.args.thm.now in
    on_one c.state_last.result
    (λ is. run_stated c.later_laws.ensures.last c.args.self.now.renderer
    c.state_last.new.self.renderer (claim_of t.hypotheses t.conclusion)
    (ap (λ (v : Writer). v.renderer) is))
    c.state_last.ensures.kept

pub returns-clause-concludes : goal.returns-clause-concludes
returns-clause-concludes c =
    let w = c.args.self.now in
    let cx = context_of c.args.made.now in
    let t = c.args.thm.now in
    let back : take w.renderer.named cx.names ≡ cx.names =
    c.later_laws.ensures.all cx.names w.renderer c.requires.all.names in
    on_one c.state_last.result
    (λ states a b from to added text none none' image image' says is h.
    let here : image_of cx.program.sig (take w.renderer.named cx.names) a ≡ Some from =
    subst (λ (ns : List Token). image_of cx.program.sig ns a ≡ Some from) (sym back) image in
    let there : image_of cx.program.sig (take w.renderer.named cx.names) b ≡ Some to =
    subst (λ (ns : List Token). image_of cx.program.sig ns b ≡ Some to) (sym back) image' in
    let closed : EachLeaf (closed_over (take w.renderer.named cx.names)) (imp from (ev to)) = (
      c.image_laws.ensures.closed cx.program.sig (take w.renderer.named cx.names) a from none here,
      c.image_laws.ensures.closed cx.program.sig (take w.renderer.named cx.names) b to none' there,
    ) in
    let may = theorem_may cx w t c.image_laws.ensures.over c.requires.all c.requires.follows in
    record {
      justifies =
          c.justifying_laws.ensures.run (theory_of cx.program) (take w.renderer.named cx.names)
          (text ++ added) a b from to here there
          (c.justifying_laws.ensures.justifies (theory_of cx.program) cx.names w.renderer
          c.state_last.new.self.renderer t c.args.to.now.items c.state_last.new.to.items text added
          from to states is may h.fits h.only
          (own_names cx.program.sig c.requires.names cx.names c.requires.context.own)
          c.tokens_differ.ensures
          (theorem_assumes_nothing cx w t c.image_laws.ensures.over c.requires.all
          c.requires.follows) says closed);
      compressed =
          c.fitting_laws.ensures.compressed cx.names c.state_last.new.self.renderer (text ++ added)
          (c.justifying_laws.ensures.anywhere cx.names w.renderer c.state_last.new.self.renderer t
          c.args.to.now.items c.state_last.new.to.items text added states is may h.fits);
    })
    c.state_last.ensures.states
