-- Terms that are injected in two steps: by a lemma, one injection does the same.
use Rattle.std.proofs.Common.{◌≡◌, ℕ, List, [], ◌∷◌, ◌++◌, get_or, sym, ◌∙◌, ap, subst}
use Rattle.ml_pat.specs.Patterns.{Pattern}
use Rattle.ml_kernel.specs.Theorems.{Theorem, IsByLemma, AddsNew}
use Rattle.term_core.specs.Terms.{Tree}
use Rattle.term_core.specs.Patterns.{Pattern as RulePattern, ground_pattern}
use Rattle.rule_core.specs.Sorting.{HasSort, IsTermOf}
use Rattle.rule_core.specs.declared.rules.Program.{Program}
use Rattle.ml_image.specs.Images.{image_of}
use Rattle.prove_term.specs.Contexts.{Context, HasGrown, StaysIn}
use Rattle.prove_term.specs.Carrying.{Collapses, CollapsesTo, CollapsesBy}
use Rattle.prove_term.specs.Comparing.{IsFactOn, IsOnce}
use Rattle.prove_term.specs.Elements.{IsElement, IsElementAt}
use Rattle.prove_term.specs.Injections.{IsCollapseAt}
use Rattle.prove_term.specs.OpenAxioms.{SaysCollapseOf}
use Rattle.prove_term.proofs.ComparingInjections.{fact_collapses, fact_grown, once_of}
use Rattle.prove_term.proofs.ElementLaws.{lemma_found}

-- what is proved of a term as an element, in a context that has grown since
pub term_fact : (a b d : Context) (t : Tree) (p : RulePattern) (sort : ℕ) (fact : Theorem)
    → HasGrown a b → HasGrown b d → p ≡ ground_pattern t → IsTermOf a.program.sig t sort
    → IsElement b p fact.conclusion → fact.hypotheses ≡ [] → StaysIn b fact
    → IsFactOn d (ground_pattern t) sort fact
term_fact a b d t p sort fact g more is sorted element none stays =
    let at : IsElementAt b p sort fact.conclusion =
    element sort (subst (λ (program : Program). HasSort program.sig [] p sort) (sym g.program)
    (subst (λ (r : RulePattern). HasSort a.program.sig [] r sort) (sym is) sorted)) in
    fact_grown b d (ground_pattern t) sort fact more (record {
      image = at.image;
      is_image = ap (image_of b.program.sig b.names) (sym is) ∙ at.is_image;
      number = at.number;
      is_number = at.is_number;
      says = at.says;
      closed = at.no_variable;
      no_hypotheses = none;
      stays = stays;
    })

-- the lemma that is read is that of the collapse
pub lemma_read : {cx : Context} {a b d place : ℕ} {lemmas : List Theorem} {lemma : Theorem}
    (at : IsCollapseAt cx a b d place) → lemmas ≡ cx.lemmas → lemma ≡ get_or lemmas place lemma
    → at.lemma ≡ lemma
lemma_read {cx} {place = place} {lemma = lemma} at same is =
    lemma_found cx.lemmas place at.lemma lemma at.there
    (is ∙ ap (λ (ts : List Theorem). get_or ts place lemma) same)

-- it may be cited for the term
pub may_collapse : (cx : Context) (a b d place : ℕ) (t : Tree) (lemma fact : Theorem)
    (at : IsCollapseAt cx a b d place) → at.lemma ≡ lemma → IsFactOn cx (ground_pattern t) a fact
    → (c s u v : ℕ) × (p : Pattern) × Collapses c s u v p lemma fact
may_collapse cx a b d place t lemma fact at same on =
    let e = at.is.ends in (
      e.symbol,
      e.lower,
      e.upper,
      at.is.last,
      on.image,
      subst (λ (l : Theorem). Collapses e.symbol e.lower e.upper at.is.last on.image l fact) same
          (fact_collapses cx a b d place (ground_pattern t) fact at on),
    )

pub says_collapse_of : (cx : Context) (a b d place : ℕ) (t : Tree) (lemma fact once : Theorem)
    (at : IsCollapseAt cx a b d place) → at.lemma ≡ lemma → IsFactOn cx (ground_pattern t) a fact
    → CollapsesTo lemma fact once → SaysCollapseOf cx a b d t once.conclusion
says_collapse_of cx a b d place t lemma fact once at same on to =
    let e = at.is.ends in
    record {
      ends = e;
      last = at.is.last;
      is_last = at.is.is_last;
      image = on.image;
      is_image = on.is_image;
      says =
          to e.symbol e.lower e.upper at.is.last on.image
          (subst (λ (l : Theorem). Collapses e.symbol e.lower e.upper at.is.last on.image l fact)
          same (fact_collapses cx a b d place (ground_pattern t) fact at on));
      no_variable = on.closed;
    }

pub collapse_assumes_nothing : (cx : Context) (a b d place : ℕ) (t : Tree)
    (lemma fact once : Theorem) (at : IsCollapseAt cx a b d place) → at.lemma ≡ lemma
    → IsFactOn cx (ground_pattern t) a fact → CollapsesBy lemma fact once → once.hypotheses ≡ []
collapse_assumes_nothing cx a b d place t lemma fact once at same on by =
    let e = at.is.ends in
    let cited : IsByLemma lemma (on.image ∷ []) (fact ∷ []) once =
    by e.symbol e.lower e.upper at.is.last on.image
    (subst (λ (l : Theorem). Collapses e.symbol e.lower e.upper at.is.last on.image l fact)
    same (fact_collapses cx a b d place (ground_pattern t) fact at on)) in
    subst (λ (hs : List Pattern). AddsNew [] hs once.hypotheses)
    (ap (λ (hs : List Pattern). hs ++ []) on.no_hypotheses) cited.kept_hypotheses

pub collapse_stays : (cx : Context) (a b d place : ℕ) (t : Tree) (lemma fact once : Theorem)
    (at : IsCollapseAt cx a b d place) → at.lemma ≡ lemma → IsFactOn cx (ground_pattern t) a fact
    → CollapsesTo lemma fact once → CollapsesBy lemma fact once → StaysIn cx once
collapse_stays cx a b d place t lemma fact once at same on to by =
    let o : IsOnce cx a b d (ground_pattern t) once =
    once_of cx a b d place (ground_pattern t) fact once at on
    (subst (λ (l : Theorem). CollapsesTo l fact once) (sym same) to)
    (subst (λ (l : Theorem). CollapsesBy l fact once) (sym same) by) in
    o.stays
