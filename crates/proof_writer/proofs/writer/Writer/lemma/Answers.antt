use Rattle.std.proofs.Common.{◌≡◌, ℕ, ◌+◌, Some, length, refl, ap, ◌∙◌, sym, subst}
use Rattle.std.specs.Prelude.{get_or, slice_get}
use Rattle.std.proofs.lemmas.Option.{slice_get-get_or}
use Rattle.mm_claims.specs.Rendered.{Rendered}
use Rattle.mm_claims.specs.ClaimVariables.{claim_of}
use Rattle.proof_writer.specs.Writing.{context_of}
use Rattle.proof_writer.specs.declared.writer.Writer.{Writer}
use Rattle.proof_writer.proofs.TheoremLaws.{states_lemma}
use Rattle.proof_writer.proofs.WritingLaws.{adds_same, written_lemma, stated_still, last_stated}
use Rattle.proof_writer.proofs.WritingLaws.{few_named, lemma_may}
use Rattle.proof_writer.proofs.writer.Writer.lemma.Goals as goal

pub state-requires-clause-proved : goal.state-requires-clause-proved
state-requires-clause-proved c =
    let cx = context_of c.args.made.now in
    let t = get_or cx.lemmas c.args.place c.index-made-place.result in
    let at : slice_get cx.lemmas c.args.place ≡ Some t =
    slice_get-get_or cx.lemmas c.args.place c.index-made-place.result c.requires.there in
    lemma_may cx c.args.self.now c.args.place t c.image_laws.ensures.over c.requires.context
    c.requires.written c.requires.named c.requires.axioms c.requires.next at

pub returns-clause-writes : goal.returns-clause-writes
returns-clause-writes c =
    let w = c.args.self.now in
    let cx = context_of c.args.made.now in
    let t = get_or cx.lemmas c.args.place c.index-made-place.result in
    let at : slice_get cx.lemmas c.args.place ≡ Some t =
    slice_get-get_or cx.lemmas c.args.place c.index-made-place.result c.requires.there in
    let claim = claim_of t.hypotheses t.conclusion in
    let is = c.in_ok-state.ensures.kept in
    let kept = ap (λ (v : Writer). v.renderer) is in
    record {
      written =
          written_lemma cx w _ t c.requires.written
          (subst (λ (n : ℕ). slice_get cx.lemmas n ≡ Some t) (sym c.requires.next) at)
          (ap (λ (k : Rendered). k.begun) kept)
          (few_named w.renderer c.state.new.self.renderer claim (length cx.names) kept
          c.requires.written.named)
          (ap (λ (v : Writer). v.axioms) is) (ap (λ (n : ℕ). n + 1) (sym c.requires.next))
          (stated_still c.later_laws.ensures.stated w.renderer c.state.new.self.renderer claim kept)
          (last_stated c.later_laws.ensures.last w.renderer c.state.new.self.renderer claim kept);
      named = ap (λ (k : Rendered). k.named) kept ∙ c.requires.named;
      keeps = c.in_ok-state.ensures.keeps;
      text =
          adds_same cx w c.state.new.self _ c.args.to.now.items c.state.new.to.items refl refl refl
          c.in_ok-state.ensures.text;
    }

pub returns-clause-axioms : goal.returns-clause-axioms
returns-clause-axioms c =
    ap (λ (v : Writer). v.axioms) c.in_ok-state.ensures.kept ∙ c.requires.axioms

pub returns-clause-states : goal.returns-clause-states
returns-clause-states c =
    let w = c.args.self.now in
    let cx = context_of c.args.made.now in
    let t = get_or cx.lemmas c.args.place c.index-made-place.result in
    let at : slice_get cx.lemmas c.args.place ≡ Some t =
    slice_get-get_or cx.lemmas c.args.place c.index-made-place.result c.requires.there in
    states_lemma cx w c.args.place t c.args.to.now.items c.state.new.to.items at
    c.in_ok-state.ensures.states
