use Rattle.std.proofs.Common.{◌≡◌, ℕ, ◌++◌, [], List, length, sym, ap, ◌∙◌, subst, drop, arith}
use Rattle.proof_nodes.specs.Walking.{labels_of}
use Rattle.proof_nodes.specs.Numbering.{AreAmong, AreNew, ArePlaced, SpellsSteps}
use Rattle.proof_nodes.specs.declared.walk.ProofStep.{ProofStep}
use Rattle.proof_nodes.proofs.TableLaws.{parts_taken}
use Rattle.proof_nodes.proofs.Meaning.{means, drop-front}
use Rattle.proof_nodes.proofs.letters.compressed.Goals as goal

pub returns : goal.returns
returns c =
    let mandatory = c.args.mandatory.now in
    let table = c.placed_steps.new.numbering.table.items in
    let old = c.in_ok-numbering.numbering.table.items in
    let new : List ℕ = c.in_ok-placed.ensures.listed.0 in
    let front : c.in_ok-numbering.numbering.table.items ≡ c.args.mandatory.now =
    c.in_ok-numbering.ensures.table in
    let whole : c.placed_steps.new.numbering.table.items ≡ c.args.mandatory.now ++ new =
    c.in_ok-placed.ensures.listed.1 ∙ ap (λ (ls : List ℕ). ls ++ new) front in
    let listed : c.in_ok-listed.listed.items ≡ new =
    c.in_ok-listed.ensures.items
    ∙ parts_taken c.deref-2.result.now table (length mandatory) c.deref-2.ensures.value
    ∙ ap (drop (length mandatory)) whole ∙ drop-front mandatory new in
    let long : c.len.result ≡ length c.placed_steps.new.numbering.table.items =
    omega (arith, c.len.ensures) in
    record {
      new =
          subst (AreNew c.args.mandatory.now) (sym listed)
          (subst (λ (ls : List ℕ). AreNew ls new) front c.in_ok-placed.ensures.listed.2);
      used =
          subst (AreAmong (labels_of c.args.steps.now)) (sym listed)
          c.in_ok-placed.ensures.listed.3;
      means =
          means c.letter_laws.ensures.number c.letter_laws.ensures.save
          (c.args.mandatory.now ++ c.in_ok-listed.listed.items) c.args.steps.now
          c.deref.result.now c.in_ok-letters.letters.items
          (subst (λ (ls : List ℕ). ArePlaced ls c.args.steps.now c.deref.result.now)
          (whole ∙ ap (λ (ls : List ℕ). c.args.mandatory.now ++ ls) (sym listed))
          (subst (λ (ps : List ProofStep). ArePlaced c.placed_steps.new.numbering.table.items
          c.args.steps.now ps) (sym c.deref.ensures.value) c.in_ok-placed.ensures.steps))
          (subst (λ n. SpellsSteps n c.deref.result.now [] c.in_ok-letters.letters.items)
          (long ∙ ap length
          (whole ∙ ap (λ (ls : List ℕ). c.args.mandatory.now ++ ls) (sym listed)))
          c.in_ok-letters.ensures);
    }
