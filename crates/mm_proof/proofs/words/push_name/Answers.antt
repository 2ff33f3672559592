use Rattle.std.proofs.Common.{◌≡◌, ℕ, List, [], ◌∷◌, ◌++◌, zero, suc, refl, sym, ap, ◌∙◌}
use Rattle.std.proofs.Common.{append-nil, Some, None, slice_get}
use Rattle.mm_text.specs.Bytes.{Token}
use Rattle.mm_proof.specs.Tokens.{name_of}
use Rattle.mm_proof.proofs.words.push_name.Goals as goal

missing : (names : List Token) (i : ℕ) → slice_get names i ≡ None → name_of names i ≡ []
missing [] i h = refl
missing (t ∷ names) zero h = absurd (let no : Some t ≡ None = h in cc)
missing (t ∷ names) (suc i) h = missing names i h

pub returns-in_default : goal.returns-in_default
returns-in_default c =
    sym (append-nil c.args.to.now.items)
    ∙ ap (λ (t : Token). c.args.to.now.items ++ t)
    (sym (missing c.args.names.now c.args.no (sym c.in_default.ensures)))
