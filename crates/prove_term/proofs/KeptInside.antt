-- A `Cx` of the code with more names, axioms or lemmas.
use Rattle.std.proofs.Common.{◌≡◌, ◌∙◌, ℕ, List, [], ◌∷◌, ◌++◌, Some, refl, sym, ap, subst}
use Rattle.std.proofs.Common.{slice_get, inl, inr, length}
use Rattle.std.specs.Prelude.{◌⊎◌, Result, Ok, Err, OnOk, OnErr}
use Rattle.std.specs.Global.{Vec}
use Rattle.ml_pat.specs.Patterns.{Pattern}
use Rattle.ml_kernel.specs.Lemmas.{HasNoMeta}
use Rattle.ml_kernel.specs.Theorems.{Theorem}
use Rattle.rule_core.specs.ProgramView.{theory_of}
use Rattle.ml_image.specs.Sentences.{IsImageOf}
use Rattle.ml_image.specs.Gained.{HasGained}
use Rattle.prove_term.specs.Contexts.{Context, IsContext, IsLemmaIn, HasGrown}
use Rattle.ml_image.specs.Assumed.{IsAssumed}
use Rattle.prove_term.specs.ContextView.{context_of, IsKept}
use Rattle.prove_term.specs.declared.context.Cx.TheInside.{Inside}
use Rattle.prove_term.proofs.ContextLaws.{grown_none, grown_names, grown_axiom, grown_lemma}
use Rattle.prove_term.proofs.ContextLaws.{context_gains, context_states, context_learns}
use Rattle.prove_term.proofs.KeptLaws.{rules_grown, values_grown, constructors_grown, stated_grown}
use Rattle.prove_term.proofs.InjectionGrown.{injections_grown, collapses_grown}
use Rattle.prove_term.proofs.KeptEqualities.{equalities_grown}
use Rattle.prove_term.proofs.ImageShapes.{sentence_has_no_meta}

either_way : {A E P Q : Type 0} (r : Result A E) → OnOk r P → OnErr r Q → P ⊎ Q
either_way (Ok x) h k = inl h
either_way (Err e) h k = inr k

pub kept_gains : (a : Inside) (names : List (List ℕ)) → IsKept a
    → HasGained a.program.now.sig a.names names → IsKept (record a { names = names })
kept_gains a names h gained =
    let cx : Context = context_of a in
    let g : HasGrown (context_of a) (context_of (record a { names = names })) =
    grown_names (context_of a) names gained in
    record {
      context = context_gains (context_of a) names h.context gained;
      rules =
          rules_grown (context_of a) (context_of (record a { names = names })) a.rules g h.rules;
      values =
          values_grown (context_of a) (context_of (record a { names = names })) a.values g h.values;
      stated =
          stated_grown (context_of a) (context_of (record a { names = names })) a.stated g h.stated;
      constructors =
          constructors_grown (context_of a) (context_of (record a { names = names })) a.constructors
          g h.constructors;
      theorems = h.theorems;
      injections =
          injections_grown (context_of a) (context_of (record a { names = names })) a.injections g
          h.injections;
      collapses =
          collapses_grown (context_of a) (context_of (record a { names = names })) a.collapses g
          h.collapses;
      equalities =
          equalities_grown (context_of a) (context_of (record a { names = names })) a.equalities g
          h.equalities;
    }

pub grown_gains : (a : Inside) (v : Context) (names : List (List ℕ)) → context_of a ≡ v
    → HasGained a.program.now.sig a.names names
    → HasGrown v (context_of (record a { names = names }))
grown_gains a v names is gained =
    subst (λ (w : Context). HasGrown w (context_of (record a { names = names }))) is
    (grown_names (context_of a) names gained)

-- an assumed sentence has no pattern variable
pub assumed_no_meta : (v : Context) (p : Pattern)
    → IsImageOf v.program.sig v.names (IsAssumed (theory_of v.program)) p → HasNoMeta p
assumed_no_meta v p image = sentence_has_no_meta v.program.sig v.names image.0 p image.2

pub kept_states : {A E : Type 0} (r : Result A E) (a : Inside) (v : Context) (p : Pattern)
    (theory : List Pattern) → context_of a ≡ v → IsKept a
    → IsImageOf v.program.sig v.names (IsAssumed (theory_of v.program)) p
    → OnOk r (theory ≡ a.theory ++ p ∷ []) → OnErr r (theory ≡ a.theory)
    → IsKept (record a { theory = theory })
kept_states {A} {E} r a v p theory is h image ok err = go (either_way r ok err)
  where
    go : (theory ≡ a.theory ++ p ∷ []) ⊎ (theory ≡ a.theory) → IsKept (record a { theory = theory })
    go (inl more) =
        let image' : IsImageOf a.program.now.sig a.names (IsAssumed (theory_of a.program.now)) p =
        subst (λ (w : Context).
        IsImageOf w.program.sig w.names (IsAssumed (theory_of w.program)) p) (sym is)
        image in
        let g : HasGrown (context_of a) (context_of (record a { theory = a.theory ++ p ∷ [] })) =
        grown_axiom (context_of a) p in
        subst (λ (t : List Pattern). IsKept (record a { theory = t })) (sym more) (record {
          context = context_states (context_of a) p h.context image';
          rules =
              rules_grown (context_of a) (context_of (record a { theory = a.theory ++ p ∷ [] }))
              a.rules g h.rules;
          values =
              values_grown (context_of a) (context_of (record a { theory = a.theory ++ p ∷ [] }))
              a.values g h.values;
          stated =
              stated_grown (context_of a)
              (context_of (record a { theory = a.theory ++ p ∷ [] })) a.stated g h.stated;
          constructors =
              constructors_grown (context_of a)
              (context_of (record a { theory = a.theory ++ p ∷ [] })) a.constructors g
              h.constructors;
          theorems = h.theorems;
          injections =
              injections_grown (context_of a)
              (context_of (record a { theory = a.theory ++ p ∷ [] })) a.injections g
              h.injections;
          collapses =
              collapses_grown (context_of a) (context_of (record a { theory = a.theory ++ p ∷ [] }))
              a.collapses g h.collapses;
          equalities =
              equalities_grown (context_of a)
              (context_of (record a { theory = a.theory ++ p ∷ [] })) a.equalities g
              h.equalities;
        })
    go (inr same) = subst (λ (t : List Pattern). IsKept (record a { theory = t })) (sym same) h

pub grown_states : {A E : Type 0} (r : Result A E) (a : Inside) (v : Context) (p : Pattern)
    (theory : List Pattern) → context_of a ≡ v → OnOk r (theory ≡ a.theory ++ p ∷ [])
    → OnErr r (theory ≡ a.theory) → HasGrown v (context_of (record a { theory = theory }))
grown_states {A} {E} r a v p theory is ok err =
    subst (λ (w : Context). HasGrown w (context_of (record a { theory = theory }))) is
    (go (either_way r ok err))
  where
    go : (theory ≡ a.theory ++ p ∷ []) ⊎ (theory ≡ a.theory)
        → HasGrown (context_of a) (context_of (record a { theory = theory }))
    go (inl more) =
        subst (λ (t : List Pattern). HasGrown (context_of a) (context_of (record a { theory = t })))
        (sym more) (grown_axiom (context_of a) p)
    go (inr same) =
        subst (λ (t : List Pattern). HasGrown (context_of a) (context_of (record a { theory = t })))
        (sym same) (grown_none (context_of a))

pub kept_learns : (a : Inside) (v : Context) (t : Theorem) (lemmas theorems : Vec Theorem)
    → context_of a ≡ v → IsKept a → IsLemmaIn v t → lemmas.items ≡ a.lemmas.items ++ t ∷ []
    → theorems.items ≡ a.theorems.items ++ t ∷ []
    → IsKept (record a { lemmas = lemmas; theorems = theorems })
kept_learns a v t lemmas theorems is h stays more told =
    let b : Context = record (context_of a) { lemmas = a.lemmas.items ++ t ∷ [] } in
    let same : b ≡ context_of (record a { lemmas = lemmas }) =
    ap (λ (ts : List Theorem). record (context_of a) { lemmas = ts }) (sym more) in
    let stays' : IsLemmaIn (context_of a) t =
    subst (λ (w : Context). IsLemmaIn w t) (sym is) stays in
    let g : HasGrown (context_of a) (context_of (record a { lemmas = lemmas })) =
    subst (HasGrown (context_of a)) same (grown_lemma (context_of a) t) in
    record {
      context = subst IsContext same (context_learns (context_of a) t h.context stays');
      rules =
          rules_grown (context_of a) (context_of (record a { lemmas = lemmas })) a.rules g h.rules;
      values =
          values_grown (context_of a) (context_of (record a { lemmas = lemmas })) a.values g
          h.values;
      stated =
          stated_grown (context_of a) (context_of (record a { lemmas = lemmas })) a.stated g
          h.stated;
      constructors =
          constructors_grown (context_of a) (context_of (record a { lemmas = lemmas }))
          a.constructors g h.constructors;
      theorems = told ∙ ap (λ (ts : List Theorem). ts ++ t ∷ []) h.theorems ∙ sym more;
      injections =
          injections_grown (context_of a) (context_of (record a { lemmas = lemmas })) a.injections g
          h.injections;
      collapses =
          collapses_grown (context_of a) (context_of (record a { lemmas = lemmas })) a.collapses g
          h.collapses;
      equalities =
          equalities_grown (context_of a) (context_of (record a { lemmas = lemmas })) a.equalities g
          h.equalities;
    }

pub last_there : {A : Type 0} (xs : List A) (x : A) (n : ℕ) → n ≡ length xs
    → slice_get (xs ++ x ∷ []) n ≡ Some x
last_there {A} xs x n is =
    subst (λ (k : ℕ). slice_get (xs ++ x ∷ []) k ≡ Some x) (sym is) (at_end xs)
  where
    at_end : (ys : List A) → slice_get (ys ++ x ∷ []) (length ys) ≡ Some x
    at_end [] = refl
    at_end (y ∷ ys) = at_end ys
