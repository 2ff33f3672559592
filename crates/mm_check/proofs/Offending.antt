-- What is wrong first in a database.
use Rattle.std.proofs.Common.{◌≡◌, ℕ, List, [], ◌∷◌, refl, sym, ◌∙◌, inl, inr}
use Rattle.std.specs.Prelude.{Option, Some, None, IfSome}
use Rattle.mm_text.specs.Statements.{Statement, Statements, no_statement, unended, bad_statement}
use Rattle.mm_text.specs.Statements.{next_statement, statements_of}
use Rattle.mm_database.specs.Forms.{declares_constants, declares_variables, types_variable, assumes}
use Rattle.mm_database.specs.Forms.{separates, asserts, proves, Form, block_start, block_end, plain}
use Rattle.mm_database.specs.Forms.{form_of}
use Rattle.mm_database.specs.Frames.{Hypothesis, floating, essential}
use Rattle.mm_database.specs.Database.{Context, empty_context, context_after}
use Rattle.mm_database.specs.Assertions.{Assertion, form_assertion, form_typing, assertions_in}
use Rattle.mm_database.specs.Assertions.{typings_in, with_assertion_first, with_typing_first}
use Rattle.mm_database.specs.Validity.{HaveNoFault}
use Rattle.rule_core.specs.Theories.{RewriteTheory}
use Rattle.mm_justify.specs.Justifying.{AreTypings, AreAllowed, IsAllowed}
use Rattle.mm_check.specs.Offences.{TypesWell, AssumesWell, Offends, IsFirstOffending}
use Rattle.mm_check.specs.Offences.{by_statement, by_conclusion}
use Rattle.mm_check.specs.Offences.{last_assertion_at}
use Rattle.mm_check.specs.OffenceLaws.{JustifiedHasNone, FaultlessJustifies, FirstIsOne}
use Rattle.mm_check.specs.declared.ends.Offence.{Offence}
use Rattle.mm_check.specs.declared.ends.Offence.TheVariants.{Conclusion, Typing, Axiom}

-- ---- a database with only axioms of the program has no statement that offends

first_allowed : (theory : RewriteTheory) (o : Option Assertion) (xs : List Assertion)
    → AreAllowed theory (with_assertion_first o xs)
    → IfSome o (IsAllowed theory) × AreAllowed theory xs
first_allowed theory None xs h = (tt, h)
first_allowed theory (Some a) xs h = (h.0, h.1)

-- the hypothesis of a `$f` is a typing or not
first_typed : (o : Option Hypothesis) (xs : List Hypothesis) → AreTypings (with_typing_first o xs)
    → IfSome o (λ h. AreTypings (h ∷ [])) × AreTypings xs
first_typed None xs h = (tt, h)
first_typed (Some (floating l k v)) xs h = ((h.0, tt), h.1)
first_typed (Some (essential l s)) xs h = absurd h

pub none_offends : (theory : RewriteTheory) (c : Context) (ss : Statements) (offence : Offence)
    (at : ℕ) → AreAllowed theory (assertions_in c ss) → AreTypings (typings_in ss)
    → IsFirstOffending theory c ss offence at → ⊥
none_offends theory c no_statement offence at allowed typed first = first
none_offends theory c (unended e) offence at allowed typed first = first
none_offends theory c (bad_statement f) offence at allowed typed first = first
none_offends theory c (next_statement s ss) offence at allowed typed (inl here) =
    go offence here.0
  where
    go : (o : Offence) → Offends theory c s o → ⊥
    go Conclusion never = never
    go Typing bad = bad (first_typed (form_typing (form_of s.tokens)) (typings_in ss) typed).0
    go Axiom bad =
        bad (first_allowed theory (form_assertion c (form_of s.tokens))
        (assertions_in (context_after c s) ss) allowed).0
none_offends theory c (next_statement s ss) offence at allowed typed (inr later) =
    none_offends theory (context_after c s) ss offence at
    (first_allowed theory (form_assertion c (form_of s.tokens))
    (assertions_in (context_after c s) ss) allowed).1
    (first_typed (form_typing (form_of s.tokens)) (typings_in ss) typed).1 later.2

pub justified_has_none : JustifiedHasNone
justified_has_none theory bytes names a b offence at justifies (by_statement first) =
    none_offends theory empty_context (statements_of bytes) offence at justifies.only.axioms
    justifies.only.types first
justified_has_none theory bytes names a b offence at justifies
    (by_conclusion only nothing is where_is) =
    nothing names a b justifies

-- ---- only one statement is the first that offends

-- no statement is both a `$f` and an assertion
not_both : (c : Context) (o : Option Form) (P : Hypothesis → Type 0) (Q : Assertion → Type 0)
    → (IfSome (form_typing o) P → ⊥) → (IfSome (form_assertion c o) Q → ⊥) → ⊥
not_both c None P Q p q = p tt
not_both c (Some block_start) P Q p q = p tt
not_both c (Some block_end) P Q p q = p tt
not_both c (Some (plain ls declares_constants ss ws)) P Q p q = p tt
not_both c (Some (plain ls declares_variables ss ws)) P Q p q = p tt
not_both c (Some (plain ls types_variable ss ws)) P Q p q = q tt
not_both c (Some (plain ls assumes ss ws)) P Q p q = p tt
not_both c (Some (plain ls separates ss ws)) P Q p q = p tt
not_both c (Some (plain ls asserts ss ws)) P Q p q = p tt
not_both c (Some (plain ls proves ss ws)) P Q p q = p tt

same_offence : (theory : RewriteTheory) (c : Context) (s : Statement) (one other : Offence)
    → Offends theory c s one → Offends theory c s other → one ≡ other
same_offence theory c s Conclusion other bad worse = absurd bad
same_offence theory c s Typing Conclusion bad worse = absurd worse
same_offence theory c s Typing Typing bad worse = refl
same_offence theory c s Typing Axiom bad worse =
    absurd (not_both c (form_of s.tokens) (λ h. AreTypings (h ∷ [])) (IsAllowed theory) bad worse)
same_offence theory c s Axiom Conclusion bad worse = absurd worse
same_offence theory c s Axiom Typing bad worse =
    absurd (not_both c (form_of s.tokens) (λ h. AreTypings (h ∷ [])) (IsAllowed theory) worse bad)
same_offence theory c s Axiom Axiom bad worse = refl

well_enough : (theory : RewriteTheory) (c : Context) (s : Statement) (o : Offence)
    → TypesWell s → AssumesWell theory c s → Offends theory c s o → ⊥
well_enough theory c s Conclusion types states never = never
well_enough theory c s Typing types states bad = bad types
well_enough theory c s Axiom types states bad = bad states

same_first : (theory : RewriteTheory) (c : Context) (ss : Statements) (one other : Offence)
    (at at' : ℕ) → IsFirstOffending theory c ss one at → IsFirstOffending theory c ss other at'
    → (one ≡ other) × (at ≡ at')
same_first theory c no_statement one other at at' h k = absurd h
same_first theory c (unended e) one other at at' h k = absurd h
same_first theory c (bad_statement f) one other at at' h k = absurd h
same_first theory c (next_statement s ss) one other at at' (inl h) (inl k) =
    (same_offence theory c s one other h.0 k.0, h.1 ∙ sym k.1)
same_first theory c (next_statement s ss) one other at at' (inl h) (inr k) =
    absurd (well_enough theory c s one k.0 k.1 h.0)
same_first theory c (next_statement s ss) one other at at' (inr h) (inl k) =
    absurd (well_enough theory c s other h.0 h.1 k.0)
same_first theory c (next_statement s ss) one other at at' (inr h) (inr k) =
    same_first theory (context_after c s) ss one other at at' h.2 k.2

pub first_is_one : FirstIsOne
first_is_one theory bytes one other at at' (by_statement h) (by_statement k) =
    same_first theory empty_context (statements_of bytes) one other at at' h k
first_is_one theory bytes one other at at' (by_statement h) (by_conclusion only nothing is here) =
    absurd (none_offends theory empty_context (statements_of bytes) one at only.axioms only.types h)
first_is_one theory bytes one other at at' (by_conclusion only nothing is here) (by_statement k) =
    absurd (none_offends theory empty_context (statements_of bytes) other at' only.axioms only.types
    k)
first_is_one theory bytes one other at at' (by_conclusion a b is here)
    (by_conclusion d e is' here') =
    (is ∙ sym is', here ∙ sym here')

-- ---- a valid database in which nothing is wrong

pub allowed_first : (theory : RewriteTheory) (o : Option Assertion) (xs : List Assertion)
    → IfSome o (IsAllowed theory) → AreAllowed theory xs
    → AreAllowed theory (with_assertion_first o xs)
allowed_first theory None xs h k = k
allowed_first theory (Some a) xs h k = (h, k)

pub typed_first : (o : Option Hypothesis) (xs : List Hypothesis)
    → IfSome o (λ h. AreTypings (h ∷ [])) → AreTypings xs → AreTypings (with_typing_first o xs)
typed_first None xs h k = k
typed_first (Some (floating l t v)) xs h k = (h.0, k)
typed_first (Some (essential l s)) xs h k = absurd h

abbrev HasOnly : RewriteTheory → Context → Statements → Type 0
HasOnly theory c ss = AreAllowed theory (assertions_in c ss) × AreTypings (typings_in ss)

doubly : (theory : RewriteTheory) (c left : Context) (ss : Statements) → HaveNoFault c ss left
    → ((o : Offence) (at : ℕ) → IsFirstOffending theory c ss o at → ⊥)
    → (HasOnly theory c ss → ⊥) → ⊥
doubly theory c left no_statement fine none k = k (tt, tt)
doubly theory c left (unended e) fine none k = fine
doubly theory c left (bad_statement f) fine none k = fine
doubly theory c left (next_statement s ss) fine none k =
    none Typing s.at (inl (
      λ types. none Axiom s.at (inl (
        λ states.
            doubly theory (context_after c s) left ss fine.1
            (λ o at first. none o at (inr (types, states, first)))
            (λ only. k (
              allowed_first theory (form_assertion c (form_of s.tokens))
                  (assertions_in (context_after c s) ss) states only.0,
              typed_first (form_typing (form_of s.tokens)) (typings_in ss) types only.1,
            )),
        refl,
      )),
      refl,
    ))

pub faultless_justifies : FaultlessJustifies
faultless_justifies theory bytes valid none nothing =
    doubly theory empty_context valid.left (statements_of bytes) valid.fine
    (λ o at first. none o at (by_statement first))
    (λ only. none Conclusion (last_assertion_at bytes) (by_conclusion
    (record { axioms = only.0; types = only.1 }) nothing refl refl))
