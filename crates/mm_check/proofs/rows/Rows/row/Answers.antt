use Rattle.std.proofs.Common.{sym, subst, ◌∙◌, ap, List, ℕ, ◌≡◌}
use Rattle.std.specs.Prelude.{slice_get, Some, None}
use Rattle.std.specs.Str.{IsUtf8}
use Rattle.rule_core.specs.Named.{number_of_name}
use Rattle.mm_check.proofs.HeaderTexts.{row_at, no_row_at, number_some, number_none}
use Rattle.mm_check.proofs.HeaderTexts.{statement_is_text}
use Rattle.mm_check.proofs.rows.Rows.row.Goals as goal

pub returns-in_default : goal.returns-in_default
returns-in_default c =
    λ r there is. c.in_default.ensures.cases.0 (subst IsUtf8 is (statement_is_text r there))

pub returns-in-None : goal.returns-in-None
returns-in-None c =
    let es = c.args.self.now.numbers in
    let is : number_of_name es c.args.key.now ≡ None =
    ap (number_of_name es) (sym c.in-Ok.ensures.cases.0) ∙ sym c.number.ensures ∙ c.in-None.is in
    no_row_at c.args.key.now (λ k there. number_none es c.args.key.now k is
    (ap (λ (xs : List (List ℕ)). slice_get xs k) c.args.self.now.numbered ∙ there))

pub returns-in-Some : goal.returns-in-Some
returns-in-Some c =
    let es = c.args.self.now.numbers in
    let is : number_of_name es c.args.key.now ≡ Some c.in-Some.number =
    ap (number_of_name es) (sym c.in-Ok.ensures.cases.0) ∙ sym c.number.ensures ∙ c.in-Some.is in
    row_at c.args.key.now c.in-Some.number c.row_numbered.result c.row_numbered.ensures
    (ap (λ (xs : List (List ℕ)). slice_get xs c.in-Some.number) (sym c.args.self.now.numbered)
    ∙ number_some es c.args.key.now c.in-Some.number is)
