-- Terms that replace pattern variables, while a context grows.
use Rattle.std.proofs.Common.{◌≡◌, ◌<◌, ◌+◌, ℕ, List, [], ◌∷◌, ◌++◌, Option, Some, None, length}
use Rattle.std.proofs.Common.{take, get_or, sym, ◌∙◌, ap, subst}
use Rattle.std.specs.List.{AllZip}
use Rattle.std.proofs.lemmas.List.{take_more}
use Rattle.ml_pat.specs.Patterns.{Pattern, fun, top}
use Rattle.ml_kernel.specs.Theorems.{Theorem}
use Rattle.term_core.specs.Terms.{Tree}
use Rattle.term_core.specs.Patterns.{Pattern as RulePattern, binding, ground_pattern}
use Rattle.rule_core.specs.Sorting.{IsTermOf}
use Rattle.rule_core.specs.declared.rules.Program.{Program}
use Rattle.ml_image.specs.Images.{both, image_of, sort_image}
use Rattle.ml_image.specs.Sentences.{term, functional}
use Rattle.ml_image.specs.Sentences as says
use Rattle.ml_image.proofs.ImageLaws.{none_some}
use Rattle.prove_term.specs.Contexts.{Context, HasGrown}
use Rattle.prove_term.specs.Functional.{SaysFunctional}
use Rattle.prove_term.proofs.ContextLaws.{image_grown, stays_grown}
use Rattle.prove_schema.specs.Elements.{IsBound, AllBound, AreTerms, IsElementOf, IsElementFor}
use Rattle.prove_schema.specs.Elements.{AreElementsFor}
use Rattle.prove_schema.proofs.UsingLaws.{zip_push}

pub pattern_grown : (old new : Context) (a : RulePattern) (p : Pattern) → HasGrown old new
    → image_of old.program.sig old.names a ≡ Some p → image_of new.program.sig new.names a ≡ Some p
pattern_grown old new a p g is = image_grown old new (term a) p g is

number_of : (o : Option ℕ) (n : ℕ) → both fun (Some top) o ≡ Some (fun top n) → o ≡ Some n
number_of None n e = absurd (none_some (fun top n) e)
number_of (Some m) n e = cc

pub sort_grown : (old new : Context) (s n : ℕ) → HasGrown old new
    → sort_image old.program.sig old.names s ≡ Some n
    → sort_image new.program.sig new.names s ≡ Some n
sort_grown old new s n g is =
    number_of (sort_image new.program.sig new.names s) n
    (image_grown old new (functional says.top s) (fun top n) g (ap (both fun (Some top)) is))

pub functional_grown : (old new : Context) (t : Tree) (p : Pattern) → HasGrown old new
    → SaysFunctional old t p → SaysFunctional new t p
functional_grown old new t p g says = record {
  sort = says.sort;
  sorted =
      subst (λ (program : Program). IsTermOf program.sig t says.sort) (sym g.program) says.sorted;
  image = says.image;
  is_image = pattern_grown old new (ground_pattern t) says.image g says.is_image;
  number = says.number;
  is_number = sort_grown old new says.sort says.number g says.is_number;
  says = says.says;
  no_variable = says.no_variable;
  no_meta = says.no_meta;
}

pub element_grown : (old new : Context) (u : Tree) (t : Theorem) → HasGrown old new
    → IsElementOf old u t → IsElementOf new u t
element_grown old new u t g h =
    (functional_grown old new u t.conclusion g h.0, stays_grown old new t g h.1)

element_for_grown : (old new : Context) (o : Option Tree) (t : Theorem) → HasGrown old new
    → IsElementFor old o t → IsElementFor new o t
element_for_grown old new None t g h = h
element_for_grown old new (Some u) t g h = element_grown old new u t g h

pub zip_weaker : {X Y : Type 0} (R S : X → Y → Type 0) (xs : List X) (ys : List Y)
    → ((x : X) (y : Y) → R x y → S x y) → AllZip R xs ys → AllZip S xs ys
zip_weaker R S [] [] f h = tt
zip_weaker R S [] (b ∷ ys) f h = absurd h
zip_weaker R S (a ∷ xs) [] f h = absurd h
zip_weaker R S (a ∷ xs) (b ∷ ys) f h = (f a b h.0, zip_weaker R S xs ys f h.1)

pub elements_for_grown : (old new : Context) (theta : List (Option Tree)) (ts : List Theorem)
    → HasGrown old new → AreElementsFor old theta ts → AreElementsFor new theta ts
elements_for_grown old new theta ts g h =
    zip_weaker (IsElementFor old) (IsElementFor new) theta ts
    (λ o t k. element_for_grown old new o t g k) h

pub elements_grown : (old new : Context) (us : List Tree) (ts : List Theorem) → HasGrown old new
    → AllZip (IsElementOf old) us ts → AllZip (IsElementOf new) us ts
elements_grown old new us ts g h =
    zip_weaker (IsElementOf old) (IsElementOf new) us ts (λ u t k. element_grown old new u t g k) h

pub one_more_element : (old new : Context) (theta : List (Option Tree)) (x : ℕ) (ts : List Theorem)
    (t : Theorem) → x < length theta → HasGrown old new → AreElementsFor old (take x theta) ts
    → IsElementFor new (binding theta x) t → AreElementsFor new (take (x + 1) theta) (ts ++ t ∷ [])
one_more_element old new theta x ts t low g before here =
    subst (λ (os : List (Option Tree)). AreElementsFor new os (ts ++ t ∷ []))
    (sym (take_more theta x None low))
    (zip_push (IsElementFor new) (take x theta) ts (binding theta x) t
    (elements_for_grown old new (take x theta) ts g before) here)

pub one_more_term : (old new : Context) (us : List Tree) (i : ℕ) (u : Tree) (ts : List Theorem)
    (t : Theorem) → i < length us → u ≡ get_or us i u → HasGrown old new
    → AllZip (IsElementOf old) (take i us) ts → IsElementOf new u t
    → AllZip (IsElementOf new) (take (i + 1) us) (ts ++ t ∷ [])
one_more_term old new us i u ts t low is g before here =
    let front : take (i + 1) us ≡ take i us ++ u ∷ [] =
    take_more us i u low ∙ ap (λ (v : Tree). take i us ++ v ∷ []) (sym is) in
    subst (λ (vs : List Tree). AllZip (IsElementOf new) vs (ts ++ t ∷ [])) (sym front)
    (zip_push (IsElementOf new) (take i us) ts u t (elements_grown old new (take i us) ts g before)
    here)

-- ---- bound terms

pub bound_grown : (old new : Context) (theta : List (Option Tree)) (x : ℕ) → HasGrown old new
    → AllBound old.program.sig theta → x < length theta → IsBound new.program.sig theta x
bound_grown old new theta x g each low =
    subst (λ (p : Program). IsBound p.sig theta x) (sym g.program) (each x low)

pub term_sorted : (old new : Context) (us : List Tree) (i : ℕ) (u : Tree) → HasGrown old new
    → AreTerms old.program.sig us → i < length us → u ≡ get_or us i u
    → (sort : ℕ) × IsTermOf new.program.sig u sort
term_sorted old new us i u g each low is =
    subst (λ (p : Program). (sort : ℕ) × IsTermOf p.sig u sort) (sym g.program)
    (subst (λ (v : Tree). (sort : ℕ) × IsTermOf old.program.sig v sort) (sym is) (each i u low))
