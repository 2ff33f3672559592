-- Terms as patterns: their sorts do not depend on variables, and each has one sort.
use Rattle.std.proofs.Common.{◌≡◌, ℕ, List, [], ◌∷◌, Option, Some, sym, ◌∙◌, ap, subst}
use Rattle.ml_pat.specs.Patterns.{Pattern, fun, imp}
use Rattle.ml_kernel.specs.Theorems.{Theorem}
use Rattle.ml_derived.specs.Scopes.{StaysWithin}
use Rattle.term_core.specs.Terms.{Tree, leaf, node, inj, Forest, no_tree, more_trees}
use Rattle.term_core.specs.Patterns.{Pattern as RulePattern, ground_pattern, ground_patterns}
use Rattle.rule_core.specs.Sorting.{HasSort, HaveSorts, IsTermOf, sort_at}
use Rattle.rule_core.specs.declared.signature.Signature.{Signature}
use Rattle.rule_core.specs.declared.signature.SymInfo.{SymInfo}
use Rattle.rule_core.specs.declared.signature.SortRef.{SortRef}
use Rattle.ml_image.specs.Images.{both, image_of, sort_image}
use Rattle.prove_term.specs.Contexts.{Context, HasGrown, StaysIn}
use Rattle.prove_term.specs.Functional.{SaysFunctional}
use Rattle.prove_term.proofs.ContextLaws.{has_before}
use Rattle.prove_open.specs.Givens.{IsOverContext}
use Rattle.prove_open.specs.Elements.{IsElementUnder, HasElement}
use Rattle.prove_open.specs.declared.givens.Given.{Given}
use Rattle.prove_open.proofs.GatheringLaws.{same_symbol}

some_same : {A : Type 0} (a b : A) → Some a ≡ Some b → a ≡ b
some_same a b e = cc

mutual
  sorted_alone : (sig : Signature) (sorts : List ℕ) (t : Tree) (sort : ℕ)
      → HasSort sig sorts (ground_pattern t) sort → IsTermOf sig t sort
  sorted_alone sig sorts (leaf s v) sort h = h
  sorted_alone sig sorts (node f ts) sort (info, is, ctor, result, args) =
      (info, is, ctor, result, all_sorted_alone sig sorts ts info.args.items args)
  sorted_alone sig sorts (inj a b t) sort (has, to, under, inside) =
      (has, to, under, sorted_alone sig sorts t a inside)

  all_sorted_alone : (sig : Signature) (sorts : List ℕ) (ts : Forest) (refs : List SortRef)
      → HaveSorts sig sorts [] (ground_patterns ts) refs
      → HaveSorts sig [] [] (ground_patterns ts) refs
  all_sorted_alone sig sorts no_tree [] h = tt
  all_sorted_alone sig sorts no_tree (of ∷ refs) h = absurd h
  all_sorted_alone sig sorts (more_trees t ts) [] h = absurd h
  all_sorted_alone sig sorts (more_trees t ts) (of ∷ refs) (sort, at, first, others) = (
    sort,
    at,
    sorted_alone sig sorts t sort first,
    all_sorted_alone sig sorts ts refs others,
  )

-- a term has one sort
one_sort : (sig : Signature) (us vs : List ℕ) (t : Tree) (s r : ℕ)
    → HasSort sig us (ground_pattern t) s → HasSort sig vs (ground_pattern t) r → s ≡ r
one_sort sig us vs (leaf q v) s r h k = sym h.0 ∙ k.0
one_sort sig us vs (node f ts) s r (info, is, ctor, result, args) (other, at, made, sort, rest) =
    some_same s r
    (sym result ∙ ap (λ (i : SymInfo). sort_at [] i.result) (same_symbol sig f info other is at)
    ∙ sort)
one_sort sig us vs (inj a b t) s r h k = sym h.1 ∙ k.1

-- a pattern that is a term has the term's sort
pub term_sorted : (sig : Signature) (sorts : List ℕ) (g : Given) (p : RulePattern) (t : Tree)
    → p ≡ ground_pattern t → HasElement sig sorts g p → (sort : ℕ) × IsTermOf sig t sort
term_sorted sig sorts g p t is (sort, c) = (
  sort,
  sorted_alone sig sorts t sort (subst (λ (q : RulePattern). HasSort sig sorts q sort) is c.sorted),
)

-- what is proved of a term holds of it as a pattern, also under the hypothesis
pub term_under : (old cx : Context) (sorts : List ℕ) (g : Given) (p : RulePattern) (u : Tree)
    (fact t : Theorem) → HasGrown old cx → p ≡ ground_pattern u
    → SaysFunctional cx u fact.conclusion → StaysIn cx fact → IsOverContext old g.hypothesis
    → t.conclusion ≡ imp g.hypothesis fact.conclusion
    → StaysWithin (g.hypothesis ∷ []) (fact ∷ []) t → IsElementUnder cx sorts g p t
term_under old cx sorts g p u fact t grown is f fact_stays over says stays = λ sort c.
    let sorted : HasSort cx.program.sig sorts (ground_pattern u) sort =
    subst (λ (q : RulePattern). HasSort cx.program.sig sorts q sort) is c.sorted in
    let same : sort ≡ f.sort = one_sort cx.program.sig sorts [] u sort f.sort sorted f.sorted in
    record {
      says = record {
        image = fun f.image f.number;
        is_image =
            ap
            (λ (q : RulePattern). both fun (image_of cx.program.sig cx.names q)
            (sort_image cx.program.sig cx.names sort)) is
            ∙ ap
            (λ (o : Option Pattern). both fun o (sort_image cx.program.sig cx.names sort))
            f.is_image
            ∙ ap (both fun (Some f.image))
            (ap (sort_image cx.program.sig cx.names) same ∙ f.is_number);
        says = says ∙ ap (imp g.hypothesis) f.says;
      };
      stays =
          λ scope has. stays scope (over scope (has_before old cx scope grown has), tt)
          (fact_stays scope has, tt);
    }
