-- Injections along chains of pairs of sorts, one pair at a time.
use Rattle.std.proofs.Common.{◌≡◌, ◌<◌, ◌+◌, ℕ, zero, suc, List, [], ◌∷◌, ◌++◌, Some, length}
use Rattle.std.proofs.Common.{get_or, refl, sym, ◌∙◌, ap, subst, arith}
use Rattle.std.specs.Prelude.{Contains}
use Rattle.ml_pat.specs.Patterns.{Pattern, constant, at_sort, equal, var, meta}
use Rattle.ml_kernel.specs.Theorems.{Theorem}
use Rattle.ml_derived.specs.Scopes.{Scope, IsOver}
use Rattle.term_core.specs.Patterns.{injection, variable}
use Rattle.term_core.specs.RulePatterns.{sort_numbers}
use Rattle.term_core.specs.declared.ids.SortId.{SortId}
use Rattle.rule_core.specs.Subsorts.{IsBelow, by_pair}
use Rattle.rule_core.specs.SubsortPaths.{IsPath}
use Rattle.rule_core.proofs.Belows.{IsBelow-trans}
use Rattle.ml_image.specs.Sentences.{term}
use Rattle.ml_image.proofs.ImageLaws.{some_same}
use Rattle.prove_term.specs.Contexts.{Context, HasContext, IsLemmaIn}
use Rattle.prove_term.specs.Injections.{SaysInjecting, SaysCollapsing}
use Rattle.prove_term.specs.Numbered.{inject, HasEnds}
use Rattle.prove_term.specs.Injections.{SaysInjected, IsInjected, IsInjectionAt, IsCollapsed}
use Rattle.prove_term.specs.Injections.{IsCollapseAt, InjectedFrom, CollapsedFrom, Joins}
use Rattle.prove_term.specs.Injections.{JoinedFrom, StaysJoined}
use Rattle.prove_term.proofs.ContextLaws.{contains_there}
use Rattle.prove_term.proofs.KeptInside.{last_there}
use Rattle.prove_term.proofs.InjectionShapes.{injection_made}

pub injection_learned : (cx : Context) (a b place : ℕ) (lemma : Theorem) → IsInjected cx a b lemma
    → place ≡ length cx.lemmas
    → IsInjectionAt (record cx { lemmas = cx.lemmas ++ lemma ∷ [] }) a b place
injection_learned cx a b place lemma is last = record {
  lemma = lemma;
  there = last_there cx.lemmas lemma place last;
  is = record { ends = is.ends; says = is.says };
}

pub injected_by_pair : (cx : Context) (a b : ℕ) (total lemma : Theorem)
    → SaysInjecting cx a b total.conclusion → InjectedFrom total lemma → IsInjected cx a b lemma
injected_by_pair cx a b total lemma says from = record {
  ends = says.ends;
  says = from says.ends.symbol says.ends.lower says.ends.upper says.says;
}

same_constant : (c d : ℕ) → constant c ≡ constant d → c ≡ d
same_constant c d h = cc

-- the lemma of an injection, with numbers that are known to be the same
said_with : (c s t c' s' t' : ℕ) (lemma : Theorem) → c ≡ c' → s ≡ s' → t ≡ t'
    → SaysInjected c s t lemma → SaysInjected c' s' t' lemma
said_with c s t c' s' t' lemma e f g h =
    subst (λ (x : ℕ). SaysInjected x s' t' lemma) e (subst (λ (x : ℕ). SaysInjected c x t' lemma) f
    (subst (λ (x : ℕ). SaysInjected c s x lemma) g h))

pub collapse_learned : (cx : Context) (a b d place : ℕ) (lemma : Theorem)
    → IsCollapsed cx a b d lemma → place ≡ length cx.lemmas
    → IsCollapseAt (record cx { lemmas = cx.lemmas ++ lemma ∷ [] }) a b d place
collapse_learned cx a b d place lemma is last = record {
  lemma = lemma;
  there = last_there cx.lemmas lemma place last;
  is = record { ends = is.ends; last = is.last; is_last = is.is_last; says = is.says };
}

pub collapsed_by_axiom : (cx : Context) (a b d : ℕ) (stated lemma : Theorem)
    → SaysCollapsing cx a b d stated.conclusion → CollapsedFrom stated lemma
    → IsCollapsed cx a b d lemma
collapsed_by_axiom cx a b d stated lemma says from = record {
  ends = says.ends;
  last = says.last;
  is_last = says.is_last;
  says = from says.ends.symbol says.ends.lower says.ends.upper says.last says.says;
}

-- the injection symbol at two sorts uses only what a scope with the context has
pub ends_over : (s : Scope) (cx : Context) (a b : ℕ) (e : HasEnds cx.program.sig cx.names a b)
    → HasContext s cx → IsOver s (at_sort (at_sort (constant e.symbol) e.lower) e.upper)
ends_over s cx a b e has =
    (has.images (term (injection a b (variable 0))) (inject e.symbol e.lower e.upper (var 0))
    (injection_made cx.program.sig cx.names a b e (Some (var 0)) (var 0) refl)).0

pub collapse_over : (s : Scope) (cx : Context) (a b d : ℕ) (lemma : Theorem)
    (is : IsCollapsed cx a b d lemma) (p : Pattern) → HasContext s cx → IsOver s p
    → IsOver s (equal (inject is.ends.symbol is.ends.upper is.last
    (inject is.ends.symbol is.ends.lower is.ends.upper p))
    (inject is.ends.symbol is.ends.lower is.last p))
collapse_over s cx a b d lemma is p has over =
    let low = ends_over s cx a b is.ends has in
    let far =
    ends_over s cx a d (record {
      symbol = is.ends.symbol;
      is_symbol = is.ends.is_symbol;
      lower = is.ends.lower;
      is_lower = is.ends.is_lower;
      upper = is.last;
      is_upper = is.is_last;
    }) has in
    ((((low.0.0, low.1), far.1), (low, over)), (far, over))

pub joins_of : (cx : Context) (a b d m k l : ℕ) (col : IsCollapseAt cx a b d m)
    (low : IsInjectionAt cx a b k) (up : IsInjectionAt cx b d l)
    → Joins col.is.ends.symbol col.is.ends.lower col.is.ends.upper col.is.last col.lemma low.lemma
    up.lemma
joins_of cx a b d m k l col low up =
    let e : HasEnds cx.program.sig cx.names a b = col.is.ends in
    let symbol : low.is.ends.symbol ≡ e.symbol =
    same_constant low.is.ends.symbol e.symbol (some_same (constant low.is.ends.symbol)
    (constant e.symbol) (sym low.is.ends.is_symbol ∙ e.is_symbol)) in
    let symbol' : up.is.ends.symbol ≡ e.symbol =
    same_constant up.is.ends.symbol e.symbol (some_same (constant up.is.ends.symbol)
    (constant e.symbol) (sym up.is.ends.is_symbol ∙ e.is_symbol)) in
    record {
      collapses = col.is.says;
      lower =
          said_with low.is.ends.symbol low.is.ends.lower low.is.ends.upper e.symbol e.lower e.upper
          low.lemma symbol
          (some_same low.is.ends.lower e.lower (sym low.is.ends.is_lower ∙ e.is_lower))
          (some_same low.is.ends.upper e.upper (sym low.is.ends.is_upper ∙ e.is_upper))
          low.is.says;
      upper =
          said_with up.is.ends.symbol up.is.ends.lower up.is.ends.upper e.symbol e.upper col.is.last
          up.lemma symbol'
          (some_same up.is.ends.lower e.upper (sym up.is.ends.is_lower ∙ e.is_upper))
          (some_same up.is.ends.upper col.is.last (sym up.is.ends.is_upper ∙ col.is.is_last))
          up.is.says;
    }

pub injected_by_chain : (cx : Context) (a b d m k l : ℕ) (made : Theorem)
    (col : IsCollapseAt cx a b d m) (low : IsInjectionAt cx a b k) (up : IsInjectionAt cx b d l)
    → JoinedFrom col.lemma low.lemma up.lemma made → IsInjected cx a d made
injected_by_chain cx a b d m k l made col low up from = record {
  ends = record {
    symbol = col.is.ends.symbol;
    is_symbol = col.is.ends.is_symbol;
    lower = col.is.ends.lower;
    is_lower = col.is.ends.is_lower;
    upper = col.is.last;
    is_upper = col.is.is_last;
  };
  says =
      from col.is.ends.symbol col.is.ends.lower col.is.ends.upper col.is.last
      (joins_of cx a b d m k l col low up);
}

pub chain_stays : (cx : Context) (a b d m k l : ℕ) (made : Theorem) (col : IsCollapseAt cx a b d m)
    (low : IsInjectionAt cx a b k) (up : IsInjectionAt cx b d l)
    → StaysJoined col.lemma low.lemma up.lemma made → IsLemmaIn cx made
chain_stays cx a b d m k l made col low up joined = λ s has assumed.
    joined s has.objects has.metas (subst (IsOver s) (sym col.is.says.conclusion)
    (collapse_over s cx a b d col.lemma col.is (meta 0) has (has.metas 0)))
    (has.lemmas col.lemma (contains_there cx.lemmas m col.lemma col.there))
    (has.lemmas low.lemma (contains_there cx.lemmas k low.lemma low.there))
    (has.lemmas up.lemma (contains_there cx.lemmas l up.lemma up.there)) assumed

-- ---- chains

pub path_long : (pairs : List (ℕ × ℕ)) (a b : ℕ) (sorts : List ℕ) → IsPath pairs a b sorts
    → 1 < length sorts
path_long pairs a b [] h = absurd h
path_long pairs a b (s ∷ []) h = absurd h
path_long pairs a b (s ∷ (t ∷ [])) h = omega arith
path_long pairs a b (s ∷ (t ∷ (u ∷ sorts))) h = omega arith

pub path_first : (pairs : List (ℕ × ℕ)) (a b : ℕ) (sorts : List ℕ) → IsPath pairs a b sorts
    → get_or sorts 0 0 ≡ a
path_first pairs a b [] h = absurd h
path_first pairs a b (s ∷ []) h = absurd h
path_first pairs a b (s ∷ (t ∷ [])) h = h.0
path_first pairs a b (s ∷ (t ∷ (u ∷ sorts))) h = h.0

pub path_last : (pairs : List (ℕ × ℕ)) (a b : ℕ) (sorts : List ℕ) (n : ℕ) → IsPath pairs a b sorts
    → n + 1 ≡ length sorts → get_or sorts n 0 ≡ b
path_last pairs a b [] n h is = absurd h
path_last pairs a b (s ∷ []) n h is = absurd h
path_last pairs a b (s ∷ (t ∷ [])) zero h is = absurd (omega (arith, is))
path_last pairs a b (s ∷ (t ∷ [])) (suc zero) h is = h.1
path_last pairs a b (s ∷ (t ∷ [])) (suc (suc n)) h is = absurd (omega (arith, is))
path_last pairs a b (s ∷ (t ∷ (u ∷ sorts))) zero h is = absurd (omega (arith, is))
path_last pairs a b (s ∷ (t ∷ (u ∷ sorts))) (suc n) h is =
    path_last pairs t b (t ∷ (u ∷ sorts)) n h.2 (omega (arith, is))

pub path_pair : (pairs : List (ℕ × ℕ)) (a b : ℕ) (sorts : List ℕ) (i : ℕ) → IsPath pairs a b sorts
    → i + 1 < length sorts → Contains pairs (get_or sorts i 0, get_or sorts (i + 1) 0)
path_pair pairs a b [] i h low = absurd h
path_pair pairs a b (s ∷ []) i h low = absurd h
path_pair pairs a b (s ∷ (t ∷ [])) zero h low =
    subst (λ (x : ℕ). Contains pairs (x, t)) (sym h.0)
    (subst (λ (y : ℕ). Contains pairs (a, y)) (sym h.1) h.2)
path_pair pairs a b (s ∷ (t ∷ [])) (suc i) h low = absurd (omega (arith, low))
path_pair pairs a b (s ∷ (t ∷ (u ∷ sorts))) zero h low =
    subst (λ (x : ℕ). Contains pairs (x, t)) (sym h.0) h.1
path_pair pairs a b (s ∷ (t ∷ (u ∷ sorts))) (suc i) h low =
    subst (λ (n : ℕ).
    Contains pairs (get_or (t ∷ (u ∷ sorts)) i 0, get_or (s ∷ (t ∷ (u ∷ sorts))) n 0))
    (further i) (path_pair pairs t b (t ∷ (u ∷ sorts)) i h.2 (omega (arith, low)))
  where
    further : (i : ℕ) → suc (i + 1) ≡ suc i + 1
    further i = omega arith

pub number_at : (ss : List SortId) (i : ℕ) (d : SortId) → i < length ss
    → get_or (sort_numbers ss) i 0 ≡ (get_or ss i d).0
number_at [] i d low = absurd (omega (arith, low))
number_at (s ∷ ss) zero d low = refl
number_at (s ∷ ss) (suc i) d low = number_at ss i d (omega (arith, low))

pub length-numbers : (ss : List SortId) → length (sort_numbers ss) ≡ length ss
length-numbers [] = refl
length-numbers (s ∷ ss) = ap suc (length-numbers ss)

pub one_further : (pairs : List (ℕ × ℕ)) (a b d : ℕ) → IsBelow pairs a b → Contains pairs (b, d)
    → IsBelow pairs a d
one_further pairs a b d below pair = IsBelow-trans pairs a b d below (by_pair pair)

-- two neighbouring sorts of a chain
pub pair_at : (pairs : List (ℕ × ℕ)) (a b : ℕ) (ss : List SortId) (i : ℕ) (d e : SortId)
    → IsPath pairs a b (sort_numbers ss) → i + 1 < length ss
    → Contains pairs ((get_or ss i d).0, (get_or ss (i + 1) e).0)
pair_at pairs a b ss i d e path low =
    let low' : i + 1 < length (sort_numbers ss) = omega (arith, low, length-numbers ss) in
    subst (λ (x : ℕ). Contains pairs (x, (get_or ss (i + 1) e).0))
    (number_at ss i d (omega (arith, low)))
    (subst (λ (y : ℕ). Contains pairs (get_or (sort_numbers ss) i 0, y))
    (number_at ss (i + 1) e low) (path_pair pairs a b (sort_numbers ss) i path low'))

pub first_pair : (pairs : List (ℕ × ℕ)) (a b : ℕ) (ss : List SortId) (e : SortId)
    → IsPath pairs a b (sort_numbers ss) → Contains pairs (a, (get_or ss 1 e).0)
first_pair pairs a b ss e path =
    let long : 1 < length (sort_numbers ss) = path_long pairs a b (sort_numbers ss) path in
    subst (λ (x : ℕ). Contains pairs (x, (get_or ss 1 e).0))
    (path_first pairs a b (sort_numbers ss) path)
    (subst (λ (y : ℕ). Contains pairs (get_or (sort_numbers ss) 0 0, y))
    (number_at ss 1 e (omega (arith, long, length-numbers ss)))
    (path_pair pairs a b (sort_numbers ss) 0 path (omega (arith, long))))
