-- What the last assertion of a valid text with only axioms decides.
use Rattle.std.proofs.Common.{◌≡◌, ◌≢◌, ℕ, true, List, [], ◌∷◌, ◌++◌, refl, ap, sym, ◌∙◌, subst}
use Rattle.std.proofs.Common.{Option, Some, None, Result, Ok, Err, Bool, Bor}
use Rattle.std.specs.Global.{Vec}
use Rattle.std.specs.Prelude.{length, IfOk}
use Rattle.mm_text.specs.Bytes.{Token}
use Rattle.mm_text.specs.declared.fault.MmFault.{MmFault}
use Rattle.mm_database.specs.Assertions.{Assertion, assertions_of}
use Rattle.mm_database.specs.Validity.{IsValid, IsFirstFault}
use Rattle.mm_database.specs.ComputedFault.{first_fault}
use Rattle.mm_database.specs.FrameLaws.{ValidIsFaultless, FirstFaultIsComputed}
use Rattle.ml_pat.specs.Patterns.{Pattern}
use Rattle.rule_core.specs.Theories.{RewriteTheory}
use Rattle.rule_core.specs.ProgramView.{theory_of}
use Rattle.rule_core.specs.declared.rules.Program.{Program}
use Rattle.mm_justify.specs.Justifying.{Justifies}
use Rattle.mm_adequate.specs.AdequacyLaws.{JustifiedIsDerived, WellSortedAssumesClosed}
use Rattle.assumed_texts.specs.AssumedTexts.{CanBeAssumed}
use Rattle.assumed_texts.proofs.SmallVariables.{has_few_variables}
use Rattle.mm_check.specs.Derived.{IsDerivedFrom}
use Rattle.mm_check.specs.Stated.{words}
use Rattle.mm_check.specs.Conclusions.{are_symbols, SaysReached, SaysNothing}
use Rattle.mm_check.specs.Passing.{IsLast, IsProven, Passes, place_of}
use Rattle.mm_check.specs.Offences.{IsFirstOffence, by_conclusion, JustifiesNothing}
use Rattle.mm_check.specs.OffenceLaws.{JustifiedHasNone}
use Rattle.mm_check.specs.declared.ends.Offence.TheVariants.{Conclusion}
use Rattle.mm_check.specs.Judging.{Judges}
use Rattle.mm_check.specs.declared.ends.Checked.{Checked}
use Rattle.mm_check.specs.declared.ends.CheckEnd.{CheckEnd}
use Rattle.mm_check.specs.declared.ends.CheckEnd.TheVariants.{Invalid, Unjustified, Memory}
use Rattle.mm_check.specs.declared.notes.Last.{Last}
use Rattle.mm_check.proofs.Symbols.{last_symbols}

-- ---- the last of a list

none_left : (ys : List Assertion) (b : Assertion) → [] ≡ (ys ++ b ∷ []) → ⊥
none_left [] b is = let no : ⊥ = cc in no
none_left (y ∷ ys) b is = let no : ⊥ = cc in no

last_same : (xs ys : List Assertion) (a b : Assertion) → xs ++ a ∷ [] ≡ ys ++ b ∷ [] → a ≡ b
last_same [] [] a b is = cc
last_same [] (y ∷ ys) a b is =
    let rest : [] ≡ (ys ++ b ∷ []) = cc in absurd (none_left ys b rest)
last_same (x ∷ xs) [] a b is =
    let rest : [] ≡ (xs ++ a ∷ []) = cc in absurd (none_left xs a rest)
last_same (x ∷ xs) (y ∷ ys) a b is =
    let rest : xs ++ a ∷ [] ≡ ys ++ b ∷ [] = cc in last_same xs ys a b rest

-- ---- the last assertion

-- the last assertion, with these words if it is a `$p` without hypotheses
record Ends (xs : List Assertion) (proven : Option (Vec (Bor Token))) : Type 0 where
  before : List Assertion
  assertion : Assertion
  is : xs ≡ before ++ assertion ∷ []
  proven_is : IsProven assertion proven

ends : (xs : List Assertion) (last : Option Last) (l : Last) (proven : Option (Vec (Bor Token)))
    → IsLast xs last → last ≡ Some l → l.proven ≡ proven → Ends xs proven
ends xs last l proven is there same =
    let so : IsLast xs (Some l) = subst (IsLast xs) there is in
    record {
      before = so.0;
      assertion = so.1;
      is = so.2;
      proven_is = subst (IsProven so.1) same so.3;
    }

-- what is justified is what the last assertion says
justified_last : (theory : RewriteTheory) (bytes : List ℕ) (names : List Token) (a b : Pattern)
    (proven : Option (Vec (Bor Token))) (e : Ends (assertions_of bytes) proven)
    (j : Justifies bytes theory names a b)
    → record { is_proved = true; frame = j.last } ≡ e.assertion
justified_last theory bytes names a b proven e j =
    last_same j.before e.before (record { is_proved = true; frame = j.last }) e.assertion
    (sym j.assertions ∙ e.is)

pub said_symbols : (bytes : List ℕ) (last : Option Last) (l : Last) (ws : Vec (Bor Token))
    (us : List (Bor Token)) → IsLast (assertions_of bytes) last → last ≡ Some l
    → l.proven ≡ Some ws → us ≡ ws.items → are_symbols (words us) ≡ true
said_symbols bytes last l ws us is there proven all =
    let e : Ends (assertions_of bytes) (Some ws) =
    ends (assertions_of bytes) last l (Some ws) is there proven in
    let said : words us ≡ e.assertion.frame.statement =
    ap words all ∙ sym e.proven_is.2 in
    ap are_symbols said ∙ last_symbols bytes e.before e.assertion e.is

pub no_assertion : (theory : RewriteTheory) (bytes : List ℕ) (last : Option Last)
    → Passes theory bytes (Ok last) → last ≡ None
    → IsFirstOffence theory bytes Conclusion (length bytes)
no_assertion theory bytes last passes none =
    let so : Passes theory bytes (Ok None) =
    subst (λ (o : Option Last). Passes theory bytes (Ok o)) none passes in
    by_conclusion so.0
    (λ names a b j. none_left j.before (record { is_proved = true; frame = j.last })
    (sym so.1 ∙ j.assertions))
    refl (sym so.2)

-- the byte of the last assertion
at_last : (theory : RewriteTheory) (bytes : List ℕ) (last : Option Last) (l : Last)
    → Passes theory bytes (Ok last) → last ≡ Some l → JustifiesNothing bytes theory
    → IsFirstOffence theory bytes Conclusion l.at
at_last theory bytes last l passes there nothing =
    by_conclusion passes.0 nothing refl
    (ap (λ (o : Option Last). place_of o (length bytes)) (sym there) ∙ sym passes.2)

pub unproven : (theory : RewriteTheory) (bytes : List ℕ) (last : Option Last) (l : Last)
    → Passes theory bytes (Ok last) → last ≡ Some l → l.proven ≡ None
    → IsFirstOffence theory bytes Conclusion l.at
unproven theory bytes last l passes there none =
    let e : Ends (assertions_of bytes) None =
    ends (assertions_of bytes) last l None passes.1 there none in
    at_last theory bytes last l passes there
    (λ names a b j.
    let is : record { is_proved = true; frame = j.last } ≡ e.assertion =
    justified_last theory bytes names a b None e j in
    e.proven_is (ap (λ (x : Assertion). x.is_proved) (sym is))
    (ap (λ (x : Assertion). x.frame.hypotheses) (sym is) ∙ j.no_hypotheses))

pub silent : (theory : RewriteTheory) (bytes : List ℕ) (last : Option Last) (l : Last)
    (ws : Vec (Bor Token)) (us : List (Bor Token)) → Passes theory bytes (Ok last)
    → last ≡ Some l → l.proven ≡ Some ws → us ≡ ws.items → SaysNothing (words us)
    → IsFirstOffence theory bytes Conclusion l.at
silent theory bytes last l ws us passes there proven all nothing =
    let e : Ends (assertions_of bytes) (Some ws) =
    ends (assertions_of bytes) last l (Some ws) passes.1 there proven in
    at_last theory bytes last l passes there
    (λ names a b j.
    let is : record { is_proved = true; frame = j.last } ≡ e.assertion =
    justified_last theory bytes names a b (Some ws) e j in
    nothing names a b (record {
      are_names = j.are_names;
      distinct = j.distinct;
      closed = j.closed;
      says = ap words all ∙ sym e.proven_is.2
          ∙ ap (λ (x : Assertion). x.frame.statement) (sym is) ∙ j.says;
    }))

pub said : (theory : RewriteTheory) (bytes : List ℕ) (last : Option Last) (l : Last)
    (ws : Vec (Bor Token)) (us : List (Bor Token)) (names : List Token) (a b : Pattern)
    → IsValid bytes → Passes theory bytes (Ok last) → last ≡ Some l → l.proven ≡ Some ws
    → us ≡ ws.items → SaysReached (words us) names a b → Justifies bytes theory names a b
said theory bytes last l ws us names a b valid passes there proven all says =
    let e : Ends (assertions_of bytes) (Some ws) =
    ends (assertions_of bytes) last l (Some ws) passes.1 there proven in
    let is : e.assertion ≡ record { is_proved = true; frame = e.assertion.frame } =
    ap (λ (p : Bool). record { is_proved = p; frame = e.assertion.frame }) e.proven_is.0 in
    record {
      valid = valid;
      only = passes.0;
      before = e.before;
      last = e.assertion.frame;
      assertions = e.is ∙ ap (λ (x : Assertion). e.before ++ x ∷ []) is;
      no_hypotheses = e.proven_is.1;
      are_names = says.are_names;
      distinct = says.distinct;
      closed = says.closed;
      says = e.proven_is.2 ∙ ap words (sym all) ∙ says.says;
    }

-- ---- a text that is not valid

pub faulty_justifies_nothing : (theory : RewriteTheory) (bytes : List ℕ) (f : MmFault)
    → ValidIsFaultless → FirstFaultIsComputed → IsFirstFault bytes f
    → JustifiesNothing bytes theory
faulty_justifies_nothing theory bytes f faultless computed first names a b j =
    let none : first_fault bytes ≡ None = (faultless bytes).0 j.valid in
    let some : first_fault bytes ≡ Some f = (computed bytes f).0 first in
    let no : ⊥ = cc in no

-- ---- a valid text

pub judged_nothing : (theory : RewriteTheory) (bytes : List ℕ) (r : Result Checked CheckEnd)
    (end : CheckEnd) → JustifiedHasNone → Judges theory bytes r → r ≡ Err end → end ≢ Memory
    → JustifiesNothing bytes theory
judged_nothing theory bytes r end none judges is other =
    go end (subst (Judges theory bytes) is judges) other
  where
    go : (e : CheckEnd) → Judges theory bytes (Err e) → e ≢ Memory → JustifiesNothing bytes theory
    go (Invalid f) judged differs = absurd judged
    go (Unjustified offence at) judged differs = λ names a b j.
        none theory bytes names a b offence at j judged
    go Memory judged differs = absurd (differs refl)

-- what a database justifies over a program has a derivation
pub judged_derived : (program : Program) (bytes : List ℕ) (r : Result Checked CheckEnd)
    → WellSortedAssumesClosed → JustifiedIsDerived → CanBeAssumed program
    → Judges (theory_of program) bytes r
    → IfOk r (λ c. IsDerivedFrom (theory_of program) c.names c.from c.to)
judged_derived program bytes (Ok c) closed derived can justifies = λ number.
    derived bytes (theory_of program) c.names c.from c.to number
    (closed (theory_of program) can.sorted (has_few_variables program can.bound)) justifies
judged_derived program bytes (Err e) closed derived can judges = tt
