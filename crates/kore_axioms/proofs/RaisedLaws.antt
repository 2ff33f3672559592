-- Laws of faults at one byte.
use Rattle.std.proofs.Common.{◌≡◌, ℕ, Bool, List, [], ◌∷◌, ◌++◌, refl, ap, ◌∙◌, sym}
use Rattle.std.specs.Prelude.{Option, None}
use Rattle.std.proofs.lemmas.List.{append-nil, append_assoc}
use Rattle.kore_sig.specs.FirstFault.{Fault, when, faults_of_tests}
use Rattle.kore_sig.specs.Noted.{noted, leads_by_number, first_by_number}
use Rattle.kore_sig.proofs.NotedLaws.{noted_append}

raised_append : (at : ℕ) (ts us : List (Bool × ℕ))
    → faults_of_tests at (ts ++ us) ≡ faults_of_tests at ts ++ faults_of_tests at us
raised_append at [] us = refl
raised_append at (t ∷ ts) us =
    ap (λ (fs : List Fault). when t.0 t.1 at ++ fs) (raised_append at ts us)
    ∙ sym (append_assoc (when t.0 t.1 at) (faults_of_tests at ts) (faults_of_tests at us))

-- one more test
pub first_raised_more : (at : ℕ) (ts : List (Bool × ℕ)) (t : Bool × ℕ) (r : Option Fault)
    → r ≡ first_by_number (faults_of_tests at ts)
    → noted leads_by_number r (when t.0 t.1 at)
    ≡ first_by_number (faults_of_tests at (ts ++ t ∷ []))
first_raised_more at ts t r e =
    ap (λ (o : Option Fault). noted leads_by_number o (when t.0 t.1 at)) e
    ∙ sym (noted_append leads_by_number None (faults_of_tests at ts) (when t.0 t.1 at))
    ∙ ap (λ (fs : List Fault). first_by_number (faults_of_tests at ts ++ fs))
    (sym (append-nil (when t.0 t.1 at)))
    ∙ ap first_by_number (sym (raised_append at ts (t ∷ [])))
