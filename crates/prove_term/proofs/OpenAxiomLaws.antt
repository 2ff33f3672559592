-- Axioms about symbols and sorts with the numbers of their variables raised, in grown contexts.
use Rattle.std.proofs.Common.{◌≡◌, ◌+◌, ℕ, List, length, inl, inr, sym, ◌∙◌, ap, subst, arith}
use Rattle.ml_pat.specs.Patterns.{Pattern, ex, equal, var, constant}
use Rattle.rule_core.specs.ProgramView.{theory_of}
use Rattle.rule_core.specs.declared.rules.Program.{Program}
use Rattle.ml_image.specs.Assumed.{IsAssumed}
use Rattle.ml_image.specs.OwnAxioms.{SaysFree, SaysApart, IsConstructor, free, apart}
use Rattle.ml_image.specs.Sentences.{IsImageOf}
use Rattle.ml_image.specs.TrueFacts.{SaysInjective, SaysUnequal, of_injective, of_unequal}
use Rattle.term_core.specs.Patterns.{Pattern as RulePattern}
use Rattle.prove_term.specs.Constructing.{SaysTotality, totality}
use Rattle.prove_term.specs.Contexts.{Context, HasGrown}
use Rattle.prove_term.specs.Injections.{SaysInjecting, SaysCollapsing}
use Rattle.prove_term.specs.Numbered.{all_from, HasNumberedArguments}
use Rattle.prove_term.specs.OpenAxioms.{at_numbered, total_at, SaysTotalFrom, SaysFreeFrom}
use Rattle.prove_term.specs.OpenAxioms.{SaysApartFrom, SaysSubsortFrom, SaysCollapseFrom}
use Rattle.prove_term.specs.OpenAxioms.{SaysInjectiveFrom, SaysUnequalFrom}
use Rattle.prove_term.specs.Raised.{IsBoundInFront, raised}
use Rattle.prove_term.proofs.ApartImages.{says_unequal}
use Rattle.prove_term.proofs.ApartShapes.{applied_variables}
use Rattle.prove_term.proofs.ContextLaws.{image_grown}
use Rattle.prove_term.proofs.InjectionGrown.{injecting_grown, collapsing_grown, injective_grown}
use Rattle.prove_term.proofs.KeptLaws.{totality_grown, sorts_grown, symbol_grown}
use Rattle.prove_term.proofs.RaisedShapes.{raised_total, raised_free, raised_apart, raised_subsort}
use Rattle.prove_term.proofs.RaisedShapes.{raised_collapse, raised_injective, bound_total}
use Rattle.prove_term.proofs.RaisedShapes.{bound_free, bound_apart, bound_subsort, bound_collapse}
use Rattle.prove_term.proofs.RaisedShapes.{bound_injective}

-- ---- totality

totality_is : (head : ℕ) (ns : List ℕ) (number : ℕ)
    → totality head ns number ≡ total_at 0 head ns number
totality_is head ns number =
    let start : length ns ≡ 0 + length ns = omega arith in
    ap (λ (p : Pattern). all_from 0 ns (ex (length ns) number (equal (var (length ns)) p)))
    (applied_variables (length ns) 0 (constant head))
    ∙ ap (λ (i : ℕ). all_from 0 ns
    (ex i number (equal (var i) (at_numbered head 0 (length ns))))) start

pub total_bound : (cx : Context) (f : ℕ) (p : Pattern) → SaysTotality cx f p → IsBoundInFront p
total_bound cx f p h =
    let n = h.numbered.numbers in
    subst IsBoundInFront (sym (h.says ∙ totality_is n.head n.numbers n.number))
    (bound_total n.head n.numbers n.number)

pub total_raised : (a b : Context) (f k : ℕ) (p q : Pattern) → HasGrown a b → SaysTotality a f p
    → q ≡ raised k p → SaysTotalFrom b f k q
total_raised a b f k p q g h is =
    let now : SaysTotality b f p = totality_grown a b f p g h in
    let n = now.numbered.numbers in
    record {
      numbered = now.numbered;
      says = is ∙ ap (raised k) (now.says ∙ totality_is n.head n.numbers n.number)
          ∙ raised_total k n.head n.numbers n.number;
    }

-- ---- freedom and difference

arguments_grown : (a b : Context) (f : ℕ) → HasGrown a b
    → HasNumberedArguments a.program.sig a.names f → HasNumberedArguments b.program.sig b.names f
arguments_grown a b f g h = record {
  info = h.info;
  sorts = h.sorts;
  sort = h.sort;
  constructs =
      subst (λ (program : Program). IsConstructor program.sig f h.info h.sorts h.sort)
      (sym g.program) h.constructs;
  head = h.head;
  is_head = symbol_grown a b f (constant h.head) g h.is_head;
  numbers = h.numbers;
  are_numbers = sorts_grown a b h.sorts h.numbers g h.are_numbers;
}

pub free_bound : (cx : Context) (f : ℕ) (p : Pattern) → SaysFreeFrom cx f 0 p → IsBoundInFront p
free_bound cx f p h =
    subst IsBoundInFront (sym h.says) (bound_free h.numbered.head h.numbered.numbers)

pub free_raised : (a b : Context) (f k : ℕ) (p q : Pattern) → HasGrown a b → SaysFreeFrom a f 0 p
    → q ≡ raised k p → SaysFreeFrom b f k q
unfolding arguments_grown
free_raised a b f k p q g h is = record {
  numbered = arguments_grown a b f g h.numbered;
  says = is ∙ ap (raised k) h.says ∙ raised_free k h.numbered.head h.numbered.numbers;
}

pub apart_bound : (cx : Context) (f g : ℕ) (p : Pattern) → SaysApartFrom cx f g 0 p
    → IsBoundInFront p
apart_bound cx f g p h =
    subst IsBoundInFront (sym h.says)
    (bound_apart h.first.head h.first.numbers h.second.head h.second.numbers)

pub apart_raised : (a b : Context) (f g k : ℕ) (p q : Pattern) → HasGrown a b
    → SaysApartFrom a f g 0 p → q ≡ raised k p → SaysApartFrom b f g k q
unfolding arguments_grown
apart_raised a b f g k p q more h is = record {
  first = arguments_grown a b f more h.first;
  second = arguments_grown a b g more h.second;
  says = is ∙ ap (raised k) h.says
      ∙ raised_apart k h.first.head h.first.numbers h.second.head h.second.numbers;
}

pub free_assumed : (cx : Context) (f : ℕ) (p : Pattern)
    → IsImageOf cx.program.sig cx.names (SaysFree cx.program.sig f) p
    → IsImageOf cx.program.sig cx.names (IsAssumed (theory_of cx.program)) p
free_assumed cx f p (s, says, is) = (s, inl (free f says), is)

pub apart_assumed : (cx : Context) (f g : ℕ) (p : Pattern)
    → IsImageOf cx.program.sig cx.names (SaysApart cx.program.sig f g) p
    → IsImageOf cx.program.sig cx.names (IsAssumed (theory_of cx.program)) p
apart_assumed cx f g p (s, says, is) = (s, inl (apart f g says), is)

-- ---- injections

pub subsort_bound : (cx : Context) (a b : ℕ) (p : Pattern) → SaysInjecting cx a b p
    → IsBoundInFront p
subsort_bound cx a b p h =
    subst IsBoundInFront (sym h.says) (bound_subsort h.ends.symbol h.ends.lower h.ends.upper)

pub subsort_raised : (old new : Context) (a b k : ℕ) (p q : Pattern) → HasGrown old new
    → SaysInjecting old a b p → q ≡ raised k p → SaysSubsortFrom new a b k q
subsort_raised old new a b k p q g h is =
    let now : SaysInjecting new a b p = injecting_grown old new a b p g h in
    record {
      ends = now.ends;
      says = is ∙ ap (raised k) now.says
          ∙ raised_subsort k now.ends.symbol now.ends.lower now.ends.upper;
    }

pub collapse_bound : (cx : Context) (a b d : ℕ) (p : Pattern) → SaysCollapsing cx a b d p
    → IsBoundInFront p
collapse_bound cx a b d p h =
    subst IsBoundInFront (sym h.says)
    (bound_collapse h.ends.symbol h.ends.lower h.ends.upper h.last)

pub collapse_raised : (old new : Context) (a b d k : ℕ) (p q : Pattern) → HasGrown old new
    → SaysCollapsing old a b d p → q ≡ raised k p → SaysCollapseFrom new a b d k q
collapse_raised old new a b d k p q g h is =
    let now : SaysCollapsing new a b d p = collapsing_grown old new a b d p g h in
    record {
      ends = now.ends;
      last = now.last;
      is_last = now.is_last;
      says = is ∙ ap (raised k) now.says
          ∙ raised_collapse k now.ends.symbol now.ends.lower now.ends.upper now.last;
    }

pub injective_bound : (cx : Context) (a b : ℕ) (p : Pattern) → SaysInjectiveFrom cx a b 0 p
    → IsBoundInFront p
injective_bound cx a b p h =
    subst IsBoundInFront (sym h.says) (bound_injective h.ends.symbol h.ends.lower h.ends.upper)

pub injective_raised : (old new : Context) (a b k : ℕ) (p q : Pattern) → HasGrown old new
    → SaysInjectiveFrom old a b 0 p → q ≡ raised k p → SaysInjectiveFrom new a b k q
injective_raised old new a b k p q g h is =
    let now : SaysInjectiveFrom new a b 0 p = injective_grown old new a b 0 p g h in
    record {
      ends = now.ends;
      says = is ∙ ap (raised k) now.says
          ∙ raised_injective k now.ends.symbol now.ends.lower now.ends.upper;
    }

pub injective_assumed : (cx : Context) (a b : ℕ) (p : Pattern)
    → IsImageOf cx.program.sig cx.names (SaysInjective cx.program.sig a b) p
    → IsImageOf cx.program.sig cx.names (IsAssumed (theory_of cx.program)) p
injective_assumed cx a b p (s, says, is) = (s, inr (of_injective a b says), is)

-- ---- patterns without a common instance

pub unequal_raised : (old new : Context) (left right : RulePattern) (k : ℕ) (p q : Pattern)
    → HasGrown old new
    → IsImageOf old.program.sig old.names (SaysUnequal old.program.sig left right) p
    → q ≡ raised k p → SaysUnequalFrom new left right k q
unequal_raised old new left right k p q g (s, says, is) same =
    says_unequal new left right k p q (
      s,
      subst (λ (program : Program). SaysUnequal program.sig left right s) (sym g.program) says,
      image_grown old new s p g is,
    ) same

pub unequal_assumed : (cx : Context) (left right : RulePattern) (p : Pattern)
    → IsImageOf cx.program.sig cx.names (SaysUnequal cx.program.sig left right) p
    → IsImageOf cx.program.sig cx.names (IsAssumed (theory_of cx.program)) p
unequal_assumed cx left right p (s, says, is) = (s, inr (of_unequal left right says), is)
