-- How the lemma of an equation is made from its axiom.
use Rattle.std.proofs.Common.{◌≡◌, ◌+◌, ℕ, zero, suc, List, [], ◌∷◌, ◌++◌, length, inl, inr, sym}
use Rattle.std.proofs.Common.{subst, arith}
use Rattle.std.specs.Prelude.{IsTrue, Contains, ◌⊎◌}
use Rattle.std.proofs.lemmas.List.Elements.{Contains-append_left, Contains-append_right}
use Rattle.std.proofs.lemmas.List.Elements.{Contains-append_cases}
use Rattle.ml_pat.specs.Patterns.{Pattern, top, imp, and}
use Rattle.ml_kernel.specs.Theorems.{Theorem}
use Rattle.ml_derived.specs.Scopes.{Scope, IsOver, AreAssumed, IsWithin}
use Rattle.rule_core.specs.Rules.{Equation}
use Rattle.rule_core.specs.Theories.{equations_of}
use Rattle.rule_core.specs.ProgramView.{theory_of}
use Rattle.rule_core.specs.declared.rules.Program.{Program}
use Rattle.ml_image.specs.HasImages.{HasEquationImage}
use Rattle.prove_term.specs.Contexts.{Context, HasGrown, StaysIn, IsLemmaIn}
use Rattle.prove_term.specs.EquationAxioms.{SaysEquationOf}
use Rattle.prove_schema.specs.Schemas.{with_metas, closed, meta_facts, parts_of}
use Rattle.prove_schema.specs.Opening.{IsForAll, IsSchemaOf, StaysOpen, IsConditional, IsFollowing}
use Rattle.prove_schema.specs.Opening.{StaysFollowing}
use Rattle.prove_schema.proofs.ScopeLaws.{StaysAssuming, lemma_of, assumes_only}
use Rattle.prove_equation.specs.EquationLemmas.{SaysEquationSchema}
use Rattle.prove_equation.proofs.ShapeLaws.{IsImplied, equation_implied}

-- ---- the assumptions are over the scope

only_one : (x y : Pattern) → Contains (x ∷ []) y → x ≡ y
only_one x y (zero, low, is) = is
only_one x y (suc k, low, is) = absurd (omega (arith, low))

alone_over : (s : Scope) (p q : Pattern) → IsOver s p → Contains (p ∷ []) q → IsOver s q
alone_over s p q over there = subst (IsOver s) (only_one p q there) over

either : {A B C : Type 0} → (A → C) → (B → C) → A ⊎ B → C
either f g (inl a) = f a
either f g (inr b) = g b

pub parts_over : (s : Scope) (p q : Pattern) → IsOver s p → Contains (parts_of p) q → IsOver s q
parts_over s top q over there = absurd (omega (arith, there.1))
parts_over s (and a b) q over there =
    either (parts_over s a q over.0) (parts_over s b q over.1)
    (Contains-append_cases (parts_of a) (parts_of b) q there)
parts_over s p q over there = alone_over s p q over there

facts_over : (s : Scope) (k : ℕ) (ns : List ℕ) (p q : Pattern) → ((i : ℕ) → IsTrue (s.meta i))
    → IsOver s (closed k ns p) → Contains (meta_facts k ns) q → IsOver s q
facts_over s k [] p q metas over there = absurd (omega (arith, there.1))
facts_over s k (n ∷ ns) p q metas over (zero, low, is) = subst (IsOver s) is (metas k, over.1.1)
facts_over s k (n ∷ ns) p q metas over (suc i, low, is) =
    facts_over s (k + 1) ns p q metas over.0 (i, omega (arith, low), is)

-- ---- the lemma

-- what is known of an equation, its axiom, the axiom at pattern variables, and the latter without
-- its condition
pub record IsOpened (cx : Context) (f : ℕ) (e : Equation) (stated whole : Theorem) : Type 0 where
  pub image : HasEquationImage cx.program.sig (equations_of (theory_of cx.program) f) f e
  pub axiom_says : SaysEquationOf cx f e stated.conclusion
  pub axiom_stays : StaysIn cx stated
  pub says : IsSchemaOf stated.conclusion whole.conclusion
  pub stays : StaysOpen stated whole

pub image_grown : (old cx : Context) (f : ℕ) (e : Equation) → HasGrown old cx
    → HasEquationImage old.program.sig (equations_of (theory_of old.program) f) f e
    → HasEquationImage cx.program.sig (equations_of (theory_of cx.program) f) f e
image_grown old cx f e g h =
    subst (λ (p : Program). HasEquationImage p.sig (equations_of (theory_of p) f) f e)
    (sym g.program) h

implied : (cx : Context) (f : ℕ) (e : Equation) (p : Pattern)
    → HasEquationImage cx.program.sig (equations_of (theory_of cx.program) f) f e
    → SaysEquationOf cx f e p → IsImplied p
implied cx f e p has says =
    equation_implied cx.program.sig cx.names (equations_of (theory_of cx.program) f) f e p has says

pub axiom_for_all : (old cx : Context) (f : ℕ) (e : Equation) (p : Pattern) → HasGrown old cx
    → HasEquationImage old.program.sig (equations_of (theory_of old.program) f) f e
    → SaysEquationOf cx f e p → IsForAll p
axiom_for_all old cx f e p g has says =
    let i : IsImplied p = implied cx f e p (image_grown old cx f e g has) says in
    (i.numbers, imp i.condition i.equality, i.closes)

pub opened_conditional : (cx : Context) (f : ℕ) (e : Equation) (stated whole : Theorem)
    → IsOpened cx f e stated whole → IsConditional whole.conclusion
opened_conditional cx f e stated whole o =
    let i : IsImplied stated.conclusion = implied cx f e stated.conclusion o.image o.axiom_says in (
      with_metas (length i.numbers) i.condition,
      with_metas (length i.numbers) i.equality,
      o.says i.numbers (imp i.condition i.equality) i.closes,
    )

opened_assuming : (cx : Context) (f : ℕ) (e : Equation) (stated whole freed : Theorem)
    → IsOpened cx f e stated whole → StaysFollowing whole freed → (i : IsImplied stated.conclusion)
    → StaysAssuming cx (meta_facts 0 i.numbers ++ parts_of
    (with_metas (length i.numbers) i.condition)) freed
opened_assuming cx f e stated whole freed o follows i s has may =
    let facts : List Pattern = meta_facts 0 i.numbers in
    let conditions : List Pattern = parts_of (with_metas (length i.numbers) i.condition) in
    let axiom_within : IsWithin s stated = o.axiom_stays s has in
    let axiom_over : IsOver s (closed 0 i.numbers (imp i.condition i.equality)) =
    subst (IsOver s) i.closes.says axiom_within.conclusion in
    let facts_assumed : AreAssumed s (meta_facts 0 i.numbers) =
    λ p there. (
      may p (Contains-append_left (meta_facts 0 i.numbers)
          (parts_of (with_metas (length i.numbers) i.condition)) p there),
      facts_over s 0 i.numbers (imp i.condition i.equality) p has.metas axiom_over there,
    ) in
    let whole_within : IsWithin s whole =
    o.stays i.numbers (imp i.condition i.equality) i.closes s axiom_within facts_assumed in
    let says : whole.conclusion ≡ imp (with_metas (length i.numbers) i.condition)
    (with_metas (length i.numbers) i.equality) =
    o.says i.numbers (imp i.condition i.equality) i.closes in
    let whole_over : IsOver s
    (imp (with_metas (length i.numbers) i.condition) (with_metas (length i.numbers) i.equality)) =
    subst (IsOver s) says whole_within.conclusion in
    follows (with_metas (length i.numbers) i.condition) (with_metas (length i.numbers) i.equality)
    says s whole_within
    (λ p there. (
      may p (Contains-append_right (meta_facts 0 i.numbers)
          (parts_of (with_metas (length i.numbers) i.condition)) p there),
      parts_over s (with_metas (length i.numbers) i.condition) p whole_over.0 there,
    ))

pub opened_lemma : (cx : Context) (f : ℕ) (e : Equation) (stated whole freed : Theorem)
    → IsOpened cx f e stated whole → StaysFollowing whole freed → IsLemmaIn cx freed
opened_lemma cx f e stated whole freed o follows =
    let i : IsImplied stated.conclusion = implied cx f e stated.conclusion o.image o.axiom_says in
    lemma_of cx (meta_facts 0 i.numbers ++ parts_of (with_metas (length i.numbers) i.condition))
    freed
    (opened_assuming cx f e stated whole freed o follows i)

pub opened_says : (cx : Context) (f : ℕ) (e : Equation) (stated whole freed : Theorem)
    → IsOpened cx f e stated whole → IsFollowing whole.conclusion freed.conclusion
    → StaysFollowing whole freed → SaysEquationSchema cx f e freed
opened_says cx f e stated whole freed o follows stays =
    let i : IsImplied stated.conclusion = implied cx f e stated.conclusion o.image o.axiom_says in
    record {
      sentence = stated.conclusion;
      is_sentence = o.axiom_says;
      numbers = i.numbers;
      condition = i.condition;
      equality = i.equality;
      closes = i.closes;
      says =
          follows (with_metas (length i.numbers) i.condition)
          (with_metas (length i.numbers) i.equality)
          (o.says i.numbers (imp i.condition i.equality) i.closes);
      assumes =
          assumes_only cx (meta_facts 0 i.numbers ++ parts_of
          (with_metas (length i.numbers) i.condition)) freed
          (opened_assuming cx f e stated whole freed o stays i);
    }
