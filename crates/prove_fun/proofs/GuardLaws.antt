-- Guards at terms, one after another: what is known of each, and what is known of the first ones.
use Rattle.std.proofs.Common.{◌≡◌, ◌<◌, ◌≤◌, ◌+◌, ℕ, zero, suc, List, [], ◌∷◌, ◌++◌, Option, Some}
use Rattle.std.proofs.Common.{length, slice_get, take, map, option_map, sym, ◌∙◌, ap, subst}
use Rattle.std.proofs.Common.{arith}
use Rattle.std.specs.Prelude.{IfSome, All, Vec}
use Rattle.std.specs.Global.{Global}
use Rattle.std.proofs.Math.Seq.{take-length}
use Rattle.ml_kernel.specs.Theorems.{Theorem}
use Rattle.term_core.specs.Terms.{Forest}
use Rattle.rule_core.specs.AcSymbols.{IsAcFree}
use Rattle.rule_core.specs.BoundVariables.{IsEquationAt}
use Rattle.rule_core.specs.Guards.{AreGuards, IsGuardAmong, after_guards}
use Rattle.rule_core.specs.MatchLaws.{AreTermsOf}
use Rattle.rule_core.specs.ProgramView.{function_equation, guard_of, theory_of, sorts_of}
use Rattle.rule_core.specs.Records.{Miss}
use Rattle.rule_core.specs.Rules.{Equation as PlainEquation, Guard}
use Rattle.rule_core.specs.Sorting.{IsSymbol}
use Rattle.rule_core.specs.Theories.{equations_of}
use Rattle.rule_core.specs.WellSorted.{IsEquationOf}
use Rattle.rule_core.specs.declared.records.EqRecord.{EqRecord}
use Rattle.rule_core.specs.declared.rules.Equation.{Equation}
use Rattle.rule_core.specs.declared.rules.Guard.{Guard as CodeGuard}
use Rattle.rule_core.specs.declared.rules.Program.{Program}
use Rattle.ml_image.specs.Sentences.{bottom, implies}
use Rattle.prove_term.specs.Contexts.{Context, HasGrown}
use Rattle.prove_term.specs.GuardsAt.{guard_at}
use Rattle.prove_term.proofs.ContextLaws.{image_grown, stays_grown}
use Rattle.refute_guard.specs.Guards.{DeniesGuard, DenyGuards}
use Rattle.prove_fun.specs.Denying.{CanDeny, CanDenyOne}
use Rattle.prove_fun.specs.Evaluating.{IsSortedAndBound}
use Rattle.prove_fun.specs.Missing.{AreMissedAt, AreValued, IsMissedAt}
use Rattle.prove_fun.specs.Using.{IsUseRecord, missed_records}
use Rattle.prove_fun.proofs.Items.{item_taken}
use Rattle.prove_fun.proofs.Missing.{values_grown}
use Rattle.prove_fun.proofs.Recording.{all_at}
use Rattle.prove_fun.proofs.Uses.{ready_later, same_equation}

-- ---- the numbers of the guards' variables

pub most_after : (k : ℕ) (gs : List Guard) → k ≤ after_guards k gs
most_after k [] = omega arith
most_after k (g ∷ gs) = omega (arith, most_after (k + length g.order) gs)

pub next_after : (k i : ℕ) (gs : List Guard) (g : Guard) → slice_get gs i ≡ Some g
    → after_guards k (take (suc i) gs) ≡ after_guards k (take i gs) + length g.order
next_after k i [] g there = absurd (let no : ⊥ = cc in no)
next_after k zero (x ∷ gs) g there = start (first x g there) gs
  where
    first : (x g : Guard) → Some x ≡ Some g → x ≡ g
    first x g e = cc

    start : x ≡ g → (gs : List Guard) → after_guards (k + length x.order) (take zero gs)
        ≡ k + length g.order
    start is [] = ap (λ (y : Guard). k + length y.order) is
    start is (y ∷ gs) = ap (λ (y : Guard). k + length y.order) is
next_after k (suc i) (x ∷ gs) g there = next_after (k + length x.order) i gs g there

pub within_after : (k i : ℕ) (gs : List Guard) (g : Guard) → slice_get gs i ≡ Some g
    → after_guards k (take i gs) + length g.order ≤ after_guards k gs
within_after k i [] g there = absurd (let no : ⊥ = cc in no)
within_after k zero (x ∷ gs) g there =
    subst (λ (y : Guard). k + length y.order ≤ after_guards k (x ∷ gs)) (first x g there)
    (most_after (k + length x.order) gs)
  where
    first : (x g : Guard) → Some x ≡ Some g → x ≡ g
    first x g e = cc
within_after k (suc i) (x ∷ gs) g there = within_after (k + length x.order) i gs g there

-- ---- denials

denies_grown : (a b : Context) (k : ℕ) (order : List ℕ) (ts : Forest) (e : PlainEquation)
    (t : Theorem) → HasGrown a b → DeniesGuard a k order ts e t → DeniesGuard b k order ts e t
denies_grown a b k order ts e t g h = record {
  guard = h.guard;
  is_guard =
      subst (λ (p : Program). guard_at p.sig k order ts (Some e) ≡ Some h.guard) (sym g.program)
      h.is_guard;
  says = image_grown a b (implies h.guard bottom) t.conclusion g h.says;
  no_hypotheses = h.no_hypotheses;
  stays = stays_grown a b t g h.stays;
}

pub deny_grown : (a b : Context) (es : List PlainEquation) (k : ℕ) (gs : List Guard) (ts : Forest)
    (ds : List Theorem) → HasGrown a b → DenyGuards a es k gs ts ds → DenyGuards b es k gs ts ds
deny_grown a b es k [] ts [] g h = tt
deny_grown a b es k [] ts (d ∷ ds) g h = absurd h
deny_grown a b es k (x ∷ gs) ts [] g h = absurd h
deny_grown a b es k (x ∷ gs) ts (d ∷ ds) g ((e, there, one), rest) = (
  (e, there, denies_grown a b k x.order ts e d g one),
  deny_grown a b es (k + length x.order) gs ts ds g rest,
)

pub deny_next : (cx : Context) (es : List PlainEquation) (k i : ℕ) (gs : List Guard) (ts : Forest)
    (ds : List Theorem) (g : Guard) (e : PlainEquation) (d : Theorem) → slice_get gs i ≡ Some g
    → slice_get es g.equation ≡ Some e → DenyGuards cx es k (take i gs) ts ds
    → DeniesGuard cx (after_guards k (take i gs)) g.order ts e d
    → DenyGuards cx es k (take (suc i) gs) ts (ds ++ d ∷ [])
deny_next cx es k i [] ts ds g e d there of old new = absurd (let no : ⊥ = cc in no)
deny_next cx es k zero (x ∷ gs) ts [] g e d there of old new = one (first x g there) gs
  where
    first : (x g : Guard) → Some x ≡ Some g → x ≡ g
    first x g e = cc

    one : x ≡ g → (gs : List Guard) → DenyGuards cx es k (x ∷ take zero gs) ts (d ∷ [])
    one is [] = (
      (
        e,
        subst (λ (y : Guard). slice_get es y.equation ≡ Some e) (sym is) of,
        subst (λ (y : Guard). DeniesGuard cx k y.order ts e d) (sym is) new,
      ),
      tt,
    )
    one is (y ∷ gs) = (
      (
        e,
        subst (λ (y : Guard). slice_get es y.equation ≡ Some e) (sym is) of,
        subst (λ (y : Guard). DeniesGuard cx k y.order ts e d) (sym is) new,
      ),
      tt,
    )
deny_next cx es k zero (x ∷ gs) ts (c ∷ ds) g e d there of old new = absurd old
deny_next cx es k (suc i) (x ∷ gs) ts [] g e d there of old new = absurd old
deny_next cx es k (suc i) (x ∷ gs) ts (c ∷ ds) g e d there of (one, old) new =
    (one, deny_next cx es (k + length x.order) i gs ts ds g e d there of old new)

pub none_denied : (cx : Context) (es : List PlainEquation) (k : ℕ) (gs : List Guard) (ts : Forest)
    → DenyGuards cx es k (take zero gs) ts []
none_denied cx es k [] ts = tt
none_denied cx es k (g ∷ gs) ts = tt

pub all_denied : (cx : Context) (es : List PlainEquation) (k i : ℕ) (gs : List Guard) (ts : Forest)
    (ds : List Theorem) → i ≡ length gs → DenyGuards cx es k (take i gs) ts ds
    → DenyGuards cx es k gs ts ds
all_denied cx es k i gs ts ds is h =
    subst (λ (xs : List Guard). DenyGuards cx es k xs ts ds)
    (ap (λ (n : ℕ). take n gs) is ∙ take-length gs) h

-- ---- what is known of the guards of a used equation

pub can_deny : (cx : Context) (f : ℕ) (ts : Forest) (q : Equation) (used : EqRecord)
    (guards : Vec CodeGuard Global) (values : List (Option Theorem)) → IsSortedAndBound cx.program
    → IsEquationAt cx.program f used.equation q → IsUseRecord cx.program f ts used
    → AreValued cx f (missed_records used) values → q.owise ≡ Some guards
    → CanDeny cx f (q.params + length (sorts_of q.vars.items)) (map guard_of guards.items) ts
    (missed_records used) values
can_deny cx f ts q used guards values ready at u valued is =
    let listed : (function_equation q).last_resort ≡ Some (map guard_of guards.items) =
    ap (option_map (λ (gs : Vec CodeGuard Global). map guard_of gs.items)) is in
    let own : function_equation q ≡ u.equation =
    same_equation cx.program f used.equation q u.equation at u.there in
    let many : length (missed_records used) ≡ used.equation =
    subst (λ (o : Option (List Guard)).
    IfSome o (λ (gs : List Guard). length (missed_records used) ≡ used.equation))
    (ap (λ (e : PlainEquation). e.last_resort) (sym own) ∙ listed) u.all_missed in
    let are : AreGuards cx.program.sig
    (take used.equation (equations_of (theory_of cx.program) f)) (function_equation q)
    (map guard_of guards.items) =
    subst (λ (o : Option (List Guard)). IfSome o (AreGuards cx.program.sig
    (take used.equation (equations_of (theory_of cx.program) f)) (function_equation q))) listed
    (ready.bound.guards f used.equation q at) in
    record {
      ready = ready;
      no_ac = are.no_ac;
      info = u.info;
      function = u.function;
      sorted = u.sorted;
      among =
          subst (λ (n : ℕ). All (IsGuardAmong (take n (equations_of (theory_of cx.program) f)))
          (map guard_of guards.items)) (sym many) are.each;
      few = are.few;
      are_missed = u.are_missed;
      valued = valued;
    }

pub can_deny_grown : (a b : Context) (f k : ℕ) (gs : List Guard) (ts : Forest) (ms : List Miss)
    (os : List (Option Theorem)) → HasGrown a b → CanDeny a f k gs ts ms os
    → CanDeny b f k gs ts ms os
can_deny_grown a b f k gs ts ms os g h =
    let p = sym g.program in
    record {
      ready = ready_later a b g h.ready;
      no_ac = subst (λ (x : Program). IsAcFree x.sig) p h.no_ac;
      info = h.info;
      function = subst (λ (x : Program). IsSymbol x.sig f h.info) p h.function;
      sorted = subst (λ (x : Program). AreTermsOf x.sig [] ts h.info.args.items) p h.sorted;
      among =
          subst (λ (x : Program). All (IsGuardAmong (take (length ms) (equations_of (theory_of x) f)))
          gs) p h.among;
      few = h.few;
      are_missed = subst (λ (x : Program). AreMissedAt x f ts ms) p h.are_missed;
      valued = values_grown a b f ms os g h.valued;
    }

-- the equation that a guard repeats, and why it is missed
pub record IsDeniable (cx : Context) (f k : ℕ) (ts : Forest) (g : Guard) (ms : List Miss)
    (os : List (Option Theorem)) : Type 0 where
  pub within : g.equation < length ms
  pub equation : PlainEquation
  pub there : slice_get (equations_of (theory_of cx.program) f) g.equation ≡ Some equation
  pub each : (m : Miss) (o : Option Theorem) → slice_get ms g.equation ≡ Some m
      → slice_get os g.equation ≡ Some o → CanDenyOne cx equation k g.order ts m o

pub deniable : (cx : Context) (f k i : ℕ) (gs : List Guard) (ts : Forest) (ms : List Miss)
    (os : List (Option Theorem)) (g : Guard) → CanDeny cx f k gs ts ms os → slice_get gs i ≡ Some g
    → IsDeniable cx f (after_guards k (take i gs)) ts g ms os
deniable cx f k i gs ts ms os g h at =
    let es = equations_of (theory_of cx.program) f in
    let among : IsGuardAmong (take (length ms) es) g =
    all_at (IsGuardAmong (take (length ms) es)) gs i g h.among at in
    let own = item_taken (length ms) es g.equation among.equation among.there in
    let fits : IsEquationOf cx.program.sig h.info among.equation =
    all_at (IsEquationOf cx.program.sig h.info) es g.equation among.equation
    (h.ready.well_sorted.equations f h.info h.function) own.0 in
    record {
      within = own.1;
      equation = among.equation;
      there = own.0;
      each = λ m o of value.
          let missed = h.are_missed g.equation m of in
          let same : missed.0 ≡ among.equation = first missed.0 among.equation (sym missed.1 ∙ own.0)
          in
          record {
            ready = h.ready;
            no_ac = h.no_ac;
            applied = (h.info, fits, h.sorted);
            lists = record { each = among.each; different = among.different };
            few = omega (arith, h.few, within_after k i gs g at);
            missed = subst (λ (e : PlainEquation). IsMissedAt cx.program e ts m) same missed.2;
            valued = h.valued.each g.equation among.equation m o own.0 of value;
          };
    }
  where
    first : (x y : PlainEquation) → Some x ≡ Some y → x ≡ y
    first x y e = cc
