-- Faults that are noted one after the other.
use Rattle.std.proofs.Common.{◌≡◌, List, [], ◌∷◌, ◌++◌, Option, Some, None, ap, sym, ◌∙◌, subst}
use Rattle.std.specs.Prelude.{Bool, true, false, not, Contains, is_none, is_some}
use Rattle.std.proofs.lemmas.Bool.{false≢true}
use Rattle.kore_sig.specs.FirstFault.{Fault, ByByte, IsFirstBy}
use Rattle.kore_sig.specs.Noted.{noted, leads_by_byte}
use Rattle.kore_check.specs.FaultNumbers.{plain_fault, IsFirstOf}
use Rattle.kore_check.specs.declared.faults.PatternFault.{PatternFault}
use Rattle.kore_check.proofs.NotedLaws.{left, noted-append, noted-first, first-one}
use Rattle.kore_check.specs.Notes.{kept_fault, after}
use Rattle.kore_axioms.specs.RuleFaults.{is_empty}

-- what the check of sorts says about the faults that it notes
abbrev pub Notes : List Fault → Option PatternFault → Option PatternFault → Type 0
Notes faults first second =
    (before : List Fault) → IsFirstOf before first → IsFirstOf (before ++ faults) second

pub as_noted : (fs : List Fault) (first second : Option PatternFault) → Notes fs first second
    → kept_fault second ≡ after first fs
as_noted fs None second notes =
    first-one fs (kept_fault second) (noted leads_by_byte None fs) (notes [] (noted-first []))
    (noted-first fs)
as_noted fs (Some f) second notes =
    first-one (plain_fault f ∷ fs) (kept_fault second)
    (noted leads_by_byte None (plain_fault f ∷ fs))
    (notes (plain_fault f ∷ []) (noted-first (plain_fault f ∷ [])))
    (noted-first (plain_fault f ∷ fs))

-- faults that are noted in two parts
pub noted_both : (fs gs : List Fault) (first second third : Option PatternFault)
    → kept_fault second ≡ after first fs → kept_fault third ≡ after second gs
    → kept_fault third ≡ after first (fs ++ gs)
noted_both fs gs first second third one two =
    two ∙ ap (λ (o : Option Fault). noted leads_by_byte o gs) one
    ∙ sym (noted-append (kept_fault first) fs gs)

-- what is kept if nothing was noted before
pub all_noted : (fs : List Fault) (r : Option PatternFault) → kept_fault r ≡ after None fs
    → IsFirstOf fs r
all_noted fs r e =
    subst (λ (o : Option Fault). IsFirstBy ByByte (Contains fs) o) (sym e) (noted-first fs)

nothing_kept : (fs : List Fault) (o : Option Fault) → o ≡ noted leads_by_byte None fs
    → is_none o ≡ is_empty fs
nothing_kept [] o e = ap is_none e
nothing_kept (f ∷ fs) o e = let l = left f fs in ap is_none (e ∙ l.is)

-- nothing is kept if and only if there is no fault
pub none_kept : (fs : List Fault) (r : Option PatternFault) → kept_fault r ≡ after None fs
    → is_none r ≡ is_empty fs
none_kept fs None e = nothing_kept fs None e
none_kept fs (Some f) e = nothing_kept fs (Some (plain_fault f)) e

-- the returned value says so
pub none_seen : (fs : List Fault) (r : Option PatternFault) (b : Bool)
    → kept_fault r ≡ after None fs → is_some r ≡ not b → b ≡ is_empty fs
none_seen fs None false e h = absurd (false≢true h)
none_seen fs None true e h = none_kept fs None e
none_seen fs (Some f) true e h = absurd (false≢true (sym h))
none_seen fs (Some f) false e h = none_kept fs (Some f) e
