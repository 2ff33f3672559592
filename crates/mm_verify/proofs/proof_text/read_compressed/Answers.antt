use Rattle.std.proofs.Common.{◌∙◌, ap, sym, subst, map}
use Rattle.std.specs.Prelude.{option_map}
use Rattle.std.proofs.lemmas.Result.{IfOk-weaker}
use Rattle.mm_database.specs.ProofText.{lettered_steps}
use Rattle.mm_text.specs.Reader.{words_of}
use Rattle.mm_frame.specs.PlainFrames.{plain_frame, mandatory_hypotheses}
use Rattle.mm_scope.specs.ScopeState.{scope_state}
use Rattle.mm_frame.specs.declared.asking.Mandatory.{Mandatory}
use Rattle.mm_verify.specs.Running.{citation_of}
use Rattle.mm_verify.specs.Reading.{citations_in, letters_of, table_of}
use Rattle.mm_verify.proofs.ReadProofs.{compressed-is, compressed-none}
use Rattle.mm_verify.proofs.proof_text.read_compressed.Goals as goal

pub returns-in-None-2 : goal.returns-in-None-2
returns-in-None-2 c = λ labelled.
    compressed-none (scope_state c.args.known.now.scopes.now)
    (plain_frame c.args.frame.now).hypotheses (words_of c.args.bytes.now c.args.tokens.now)
    (words_of c.args.bytes.now c.in-Some.labels.now)
    c.in-Some.ensures.found.0 c.in-Some.ensures.found.1
    (sym (ap (option_map citations_in) c.in-None-2.is)
    ∙ c.in_ok-read_listed-in-Some.ensures labelled)

pub returns-in-Some-2 : goal.returns-in-Some-2
returns-in-Some-2 c =
    let listed = c.in-Some-2.listed.items in
    IfOk-weaker c.read_letters.result _ _
    (λ r is labelled.
    is
    ∙ ap (λ (m : Mandatory). lettered_steps (table_of (mandatory_hypotheses m) listed)
    (letters_of c.args.bytes.now c.in-Some.letters.now)) c.deref.ensures
    ∙ compressed-is (scope_state c.args.known.now.scopes.now)
    (plain_frame c.args.frame.now).hypotheses
    (words_of c.args.bytes.now c.args.tokens.now)
    (words_of c.args.bytes.now c.in-Some.labels.now)
    (words_of c.args.bytes.now c.in-Some.letters.now) (map citation_of listed)
    c.in-Some.ensures.found.0 c.in-Some.ensures.found.1 c.in-Some.ensures.found.2
    (sym (ap (option_map citations_in) c.in-Some-2.is)
    ∙ c.in_ok-read_listed-in-Some.ensures labelled))
    c.read_letters.ensures
