-- The kept lemmas of injections in grown contexts.
use Rattle.std.proofs.Common.{◌≡◌, ℕ, List, ◌++◌, Option, Some, None, sym, subst}
use Rattle.std.specs.Prelude.{IfSome}
use Rattle.std.specs.BTreeMap as tree
use Rattle.std.specs.BTreeMap.{BTreeMap}
use Rattle.std.proofs.lemmas.Option.{IfSome_then}
use Rattle.ml_pat.specs.Patterns.{Pattern, constant}
use Rattle.rule_core.specs.declared.rules.Program.{Program}
use Rattle.rule_core.specs.declared.signature.Signature.{Signature}
use Rattle.ml_image.specs.Images.{some_symbol_image, injection_symbol}
use Rattle.ml_image.proofs.ImageLaws.{none_some, symbol-keeps}
use Rattle.prove_term.specs.Contexts.{Context, HasGrown}
use Rattle.prove_term.specs.Injections.{SaysInjecting, SaysCollapsing, IsInjectionAt}
use Rattle.prove_term.specs.Numbered.{HasEnds}
use Rattle.prove_term.specs.Injections.{IsCollapseAt}
use Rattle.prove_term.specs.OpenAxioms.{SaysInjectiveFrom}
use Rattle.prove_term.specs.SortKeys.{pair_cmp, triple_cmp}
use Rattle.prove_term.proofs.ContextLaws.{lemma_there_grown}
use Rattle.prove_term.proofs.KeptLaws.{sort_grown}

symbol_stays : (sig : Signature) (names more : List (List ℕ)) (o : Option ℕ) (p : Pattern)
    → some_symbol_image sig names o ≡ Some p → some_symbol_image sig (names ++ more) o ≡ Some p
symbol_stays sig names more None p h = absurd (none_some p h)
symbol_stays sig names more (Some f) p h = symbol-keeps sig names more f p h

ends_symbol_grown : (a b : Context) (c : ℕ) → HasGrown a b
    → some_symbol_image a.program.sig a.names (injection_symbol a.program.sig) ≡ Some (constant c)
    → some_symbol_image b.program.sig b.names (injection_symbol b.program.sig) ≡ Some (constant c)
ends_symbol_grown a b c g h =
    subst (λ (program : Program). some_symbol_image program.sig b.names
    (injection_symbol program.sig) ≡ Some (constant c)) (sym g.program)
    (subst (λ (names : List (List ℕ)). some_symbol_image a.program.sig names
    (injection_symbol a.program.sig) ≡ Some (constant c)) (sym g.names.all)
    (symbol_stays a.program.sig a.names g.names.gained (injection_symbol a.program.sig) (constant c)
    h))

pub ends_grown : (a b : Context) (x y : ℕ) → HasGrown a b → HasEnds a.program.sig a.names x y
    → HasEnds b.program.sig b.names x y
ends_grown a b x y g h = record {
  symbol = h.symbol;
  is_symbol = ends_symbol_grown a b h.symbol g h.is_symbol;
  lower = h.lower;
  is_lower = sort_grown a b x h.lower g h.is_lower;
  upper = h.upper;
  is_upper = sort_grown a b y h.upper g h.is_upper;
}

pub injection_grown : (a b : Context) (x y k : ℕ) → HasGrown a b → IsInjectionAt a x y k
    → IsInjectionAt b x y k
unfolding ends_grown
injection_grown a b x y k g h = record {
  lemma = h.lemma;
  there = lemma_there_grown a b k h.lemma g h.there;
  is = record { ends = ends_grown a b x y g h.is.ends; says = h.is.says };
}

pub injections_grown : (a b : Context) (kept : BTreeMap (ℕ × ℕ) ℕ) → HasGrown a b
    → ((q : ℕ × ℕ) → IfSome (tree.get pair_cmp kept q) (IsInjectionAt a q.0 q.1)) → (q : ℕ × ℕ)
    → IfSome (tree.get pair_cmp kept q) (IsInjectionAt b q.0 q.1)
injections_grown a b kept g h =
    λ q. IfSome_then (tree.get pair_cmp kept q) (h q) (λ k is. injection_grown a b q.0 q.1 k g is)

pub collapse_grown : (a b : Context) (x y z k : ℕ) → HasGrown a b → IsCollapseAt a x y z k
    → IsCollapseAt b x y z k
unfolding ends_grown
collapse_grown a b x y z k g h = record {
  lemma = h.lemma;
  there = lemma_there_grown a b k h.lemma g h.there;
  is = record {
    ends = ends_grown a b x y g h.is.ends;
    last = h.is.last;
    is_last = sort_grown a b z h.is.last g h.is.is_last;
    says = h.is.says;
  };
}

pub collapses_grown : (a b : Context) (kept : BTreeMap (ℕ × ℕ × ℕ) ℕ) → HasGrown a b
    → ((q : ℕ × ℕ × ℕ) → IfSome (tree.get triple_cmp kept q) (IsCollapseAt a q.0 q.1 q.2))
    → (q : ℕ × ℕ × ℕ) → IfSome (tree.get triple_cmp kept q) (IsCollapseAt b q.0 q.1 q.2)
collapses_grown a b kept g h =
    λ q. IfSome_then (tree.get triple_cmp kept q) (h q)
    (λ k is. collapse_grown a b q.0 q.1 q.2 k g is)

pub injecting_grown : (a b : Context) (x y : ℕ) (p : Pattern) → HasGrown a b → SaysInjecting a x y p
    → SaysInjecting b x y p
unfolding ends_grown
injecting_grown a b x y p g h = record { ends = ends_grown a b x y g h.ends; says = h.says }

pub collapsing_grown : (a b : Context) (x y z : ℕ) (p : Pattern) → HasGrown a b
    → SaysCollapsing a x y z p → SaysCollapsing b x y z p
unfolding ends_grown
collapsing_grown a b x y z p g h = record {
  ends = ends_grown a b x y g h.ends;
  last = h.last;
  is_last = sort_grown a b z h.last g h.is_last;
  says = h.says;
}

pub injective_grown : (a b : Context) (x y k : ℕ) (p : Pattern) → HasGrown a b
    → SaysInjectiveFrom a x y k p → SaysInjectiveFrom b x y k p
unfolding ends_grown
injective_grown a b x y k p g h = record { ends = ends_grown a b x y g h.ends; says = h.says }
