use Rattle.std.proofs.Common.{◌≡◌, ◌∙◌, IfOk, codes, true, false, Result, Ok, Err}
use Rattle.clap.specs.Simple.{app_of, with_rule}
use Rattle.command_words.specs.CommandLine.{positional_rule, option_rule, bare_app}
use Rattle.command_words.proofs.definitions.run_definition.Goals as goal

if_ok : {T E : Type 0} (r : Result T E) (P Q : T → Type 0) → ((t : T) → P t → Q t) → IfOk r P
    → IfOk r Q
if_ok (Ok t) P Q on p = on t p
if_ok (Err e) P Q on p = tt

pub returns : goal.returns
returns c =
    let first : app_of c.in_ok-with.field-0 ≡ with_rule (bare_app (codes "run"))
    (positional_rule (codes "def")) =
    c.in_ok-with.ensures ∙ (λ k. with_rule (c.bare.ensures k) (c.positional.ensures.rule k)) in
    let second : app_of c.in_ok-named.named ≡ with_rule
    (with_rule (bare_app (codes "run")) (positional_rule (codes "def")))
    (positional_rule (codes "term")) =
    c.in_ok-named.ensures ∙ (λ k. with_rule (first k) (c.positional-2.ensures.rule k)) in
    let third : app_of c.in_ok-limited.limited ≡ with_rule (with_rule
    (with_rule (bare_app (codes "run")) (positional_rule (codes "def")))
    (positional_rule (codes "term"))) (option_rule (codes "limit") true) =
    c.in_ok-limited.ensures ∙ (λ k. with_rule (second k) (c.option.ensures.rule k)) in
    let fourth : app_of c.in_ok-with-2.field-0 ≡ with_rule (with_rule
    (with_rule (with_rule (bare_app (codes "run")) (positional_rule (codes "def")))
    (positional_rule (codes "term"))) (option_rule (codes "limit") true))
    (option_rule (codes "calls") false) =
    c.in_ok-with-2.ensures ∙ (λ k. with_rule (third k) (c.option-2.ensures.rule k)) in
    let fifth : app_of c.in_ok-proved.proved ≡ with_rule (with_rule (with_rule
    (with_rule (with_rule (bare_app (codes "run")) (positional_rule (codes "def")))
    (positional_rule (codes "term"))) (option_rule (codes "limit") true))
    (option_rule (codes "calls") false)) (option_rule (codes "proof") false) =
    c.in_ok-proved.ensures ∙ (λ k. with_rule (fourth k) (c.option-3.ensures.rule k)) in
    let sixth : app_of c.in_ok-with-3.field-0 ≡ with_rule (with_rule (with_rule (with_rule
    (with_rule (with_rule (bare_app (codes "run")) (positional_rule (codes "def")))
    (positional_rule (codes "term"))) (option_rule (codes "limit") true))
    (option_rule (codes "calls") false)) (option_rule (codes "proof") false))
    (option_rule (codes "hints") false) =
    c.in_ok-with-3.ensures ∙ (λ k. with_rule (fifth k) (c.option-4.ensures.rule k)) in
    if_ok c.with-7.result _ _ (λ t e. e ∙ (λ k. with_rule (sixth k) (c.flag.ensures.rule k)))
    c.with-7.ensures
