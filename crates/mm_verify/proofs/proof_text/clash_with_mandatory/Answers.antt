use Rattle.std.proofs.Common.{rules, ◌≡◌, ◌∙◌, ap, sym, List, ℕ, Bool, []}
use Rattle.std.specs.Prelude.{◌||◌}
use Rattle.std.specs.List.{list_any}
use Rattle.std.proofs.lemmas.Result.{IfOk-weaker}
use Rattle.mm_text.specs.Reader.{words_of}
use Rattle.mm_frame.specs.PlainFrames.{has_number}
use Rattle.mm_scope.specs.ScopeState.{scope_state}
use Rattle.mm_scope.specs.StateReads.{is_mandatory_named}
use Rattle.mm_verify.specs.ProofSteps.{clashes}
use Rattle.mm_verify.proofs.Clashing.{any-mandatory-same}
use Rattle.mm_verify.proofs.proof_text.clash_with_mandatory.Goals as goal

pub returns-then-cite_mandatory : goal.returns-then-cite_mandatory
returns-then-cite_mandatory c =
    let h = scope_state c.args.known.now.scopes.now in
    let words = words_of c.args.bytes.now c.args.labels.now in
    let own = c.ascending-own.result.items in
    let copied : c.in_ok-copy.copy.items ≡ c.args.symbols.now = search rules in
    sym (ap (λ (b : Bool). b || clashes [] words)
    (any-mandatory-same h own c.args.symbols.now words
    (λ n. c.ascending-own.ensures.numbers n ∙ ap (λ (ns : List ℕ). has_number ns n) copied)
    ∙ ap (λ (ns : List ℕ). list_any (is_mandatory_named h ns) words) (sym c.deref.ensures.value)
    ∙ sym c.cite_mandatory.ensures ∙ c.if-cite_mandatory.true))

pub returns : goal.returns
returns c =
    let h = scope_state c.args.known.now.scopes.now in
    let words = words_of c.args.bytes.now c.args.labels.now in
    let own = c.ascending-own.result.items in
    let copied : c.in_ok-copy.copy.items ≡ c.args.symbols.now = search rules in
    IfOk-weaker c.has_clash.result _ _
    (λ r is. is
    ∙ sym (ap (λ (b : Bool). b || clashes [] words)
    (any-mandatory-same h own c.args.symbols.now words
    (λ n. c.ascending-own.ensures.numbers n ∙ ap (λ (ns : List ℕ). has_number ns n) copied)
    ∙ ap (λ (ns : List ℕ). list_any (is_mandatory_named h ns) words) (sym c.deref.ensures.value)
    ∙ sym c.cite_mandatory.ensures ∙ c.if-cite_mandatory.false)))
    c.has_clash.ensures
