-- The condition of a guard, with the bindings of its arguments, one after another, in place of its
-- variables.
use Rattle.std.proofs.Common.{◌≡◌, ◌⊎◌, inl, inr, ◌<◌, ◌≤◌, ◌+◌, ◌^◌, ℕ, zero, suc, List, []}
use Rattle.std.proofs.Common.{◌∷◌, length, Option, Some, None, slice_get}
use Rattle.std.proofs.Common.{refl, sym, ◌∙◌, ap, subst, arith}
use Rattle.std.specs.Prelude.{All, Contains, IsSome}
use Rattle.std.proofs.lemmas.Bool.{false≢true}
use Rattle.std.proofs.lemmas.List.{length-map}
use Rattle.std.proofs.lemmas.Option.{slice_get_within, get_or_from_slice_get}
use Rattle.ml_pat.specs.Patterns.{Pattern as LogicPattern, bot}
use Rattle.ml_pat.specs.Patterns as logic
use Rattle.ml_pat.specs.Judgements.{IsFresh}
use Rattle.ml_kernel.specs.Theorems.{Theorem}
use Rattle.ml_derived.specs.Scopes.{StaysWithin}
use Rattle.term_core.specs.Terms.{Tree}
use Rattle.term_core.specs.Patterns.{Pattern, binding, no_pattern, more_patterns}
use Rattle.term_core.specs.RulePatterns.{sort_numbers}
use Rattle.term_core.specs.declared.ids.SortId.{SortId}
use Rattle.rule_core.specs.Matching.{OccursIn, OccursInSome}
use Rattle.rule_core.specs.NamedParts.{IsNamed}
use Rattle.rule_core.specs.declared.rules.Program.{Program}
use Rattle.rule_core.specs.declared.signature.Signature.{Signature}
use Rattle.ml_image.specs.NamedSides.{of_child}
use Rattle.ml_image.specs.Premises.{is_true}
use Rattle.ml_image.specs.Sentences.{Sentence, and, not, bottom, sentence_image}
use Rattle.prove_term.specs.Contexts.{Context, HasGrown, StaysIn}
use Rattle.prove_term.specs.Filling.{filled}
use Rattle.prove_term.proofs.ContextLaws.{image_grown, stays_grown}
use Rattle.prove_term.proofs.ImageShapes.{both_some, map_some}
use Rattle.refute.specs.Refutations.{all_bound}
use Rattle.guard_body.specs.Arguments.{IsArgument, IsVariableOf, MatchTogether, MatchesArgument}
use Rattle.guard_body.specs.Arguments.{all_in, part_names_of, pattern_of}
use Rattle.refute_guard.specs.Bodies.{variables_of}
use Rattle.refute_body.specs.Conditions.{CanFill, IsFilled}
use Rattle.refute_body.specs.Implications.{IsUnderTwo}
use Rattle.refute_guard.specs.Repeated.{FailsTogether, IsOfBody}
use Rattle.refute_body.specs.Conditions.{SaysUnderTwo}
use Rattle.guard_body.specs.Guarded.{IsGuarded}
use Rattle.guard_body.specs.declared.arguments.Argument.{Argument}
use Rattle.guard_body.specs.declared.guarded.Guarded.{Guarded}
use Rattle.refute_body.proofs.BodyImages.{condition_free, filled_closed}
use Rattle.refute_guard.proofs.Growths.{program_grown}
use Rattle.refute_guard.proofs.NamedWritten.{variable_written}
use Rattle.refute_guard.proofs.WrittenVariables.{child_named, written_variables}

some_same : {A : Type 0} (x y : A) → Some x ≡ Some y → x ≡ y
some_same x y e = cc

-- The terms of the first n arguments are in their places in r. The theorem says that under the
-- guard's body r is true.
pub record IsSofar (cx : Context) (x : Guarded) (q : Pattern) (s : ℕ) (theta : List (Option Tree))
    (n : ℕ) (t : Theorem) : Type 0 where
  pub r : Pattern
  pub holds : SaysUnderTwo cx x.given.hypothesis x.body (is_true r s) t.conclusion
  pub stays : StaysIn cx t
  pub same : filled theta r ≡ filled theta q
  pub fewer : (y : ℕ) → OccursIn y r → OccursIn y q
  pub gone : (i y : ℕ) (a : Argument) → i < n → slice_get x.arguments.items i ≡ Some a
      → IsVariableOf a y → OccursIn y r → ⊥

abbrev pub IsSofarFrom : Context → Context → Guarded → Theorem → ℕ → Theorem → Type 0
IsSofarFrom old cx x denial n t =
    (c : Sentence) → IsGuarded old c x
    → (f : FailsTogether old (sort_numbers x.sorts.items) x.arguments.items c denial)
    → IsSofar cx x f.q f.sort f.theta n t

-- ---- the start

pub sofar_begins : (cx : Context) (x : Guarded) (denial t : Theorem)
    → ((c m : LogicPattern) → x.body ≡ logic.and c m
    → IsUnderTwo x.given.hypothesis x.body c t.conclusion)
    → StaysWithin (x.given.hypothesis ∷ x.body ∷ []) [] t → IsSofarFrom cx cx x denial 0 t
sofar_begins cx x denial t says stays c is f =
    let w : (p : LogicPattern) × (m : LogicPattern)
    × (sentence_image cx.program.sig cx.names c ≡ Some p)
    × (sentence_image cx.program.sig cx.names (all_in x.arguments.items) ≡ Some m)
    × (x.body ≡ logic.and p m) =
    both_some logic.and (sentence_image cx.program.sig cx.names c)
    (sentence_image cx.program.sig cx.names (all_in x.arguments.items)) x.body is.body in
    record {
      r = f.q;
      holds = record {
        image = w.0;
        is_image =
            ap (λ (d : Sentence). sentence_image cx.program.sig cx.names d) (sym f.is) ∙ w.2;
        says = says w.0 w.1 w.4;
      };
      stays = λ scope has.
          stays scope (
            is.given.over scope has,
            (has.images (and c (all_in x.arguments.items)) x.body is.body, tt),
          ) tt;
      same = refl;
      fewer = λ y o. o;
      gone = λ i y a low. absurd (omega (arith, low));
    }

pub body_parts : (cx : Context) (c : Sentence) (x : Guarded) → IsGuarded cx c x
    → (p m : LogicPattern) × (x.body ≡ logic.and p m)
body_parts cx c x is =
    let w : (p : LogicPattern) × (m : LogicPattern)
    × (sentence_image cx.program.sig cx.names c ≡ Some p)
    × (sentence_image cx.program.sig cx.names (all_in x.arguments.items) ≡ Some m)
    × (x.body ≡ logic.and p m) =
    both_some logic.and (sentence_image cx.program.sig cx.names c)
    (sentence_image cx.program.sig cx.names (all_in x.arguments.items)) x.body is.body in
    (w.0, w.1, w.4)

-- ---- the argument at a place

pub there_at : {A : Type 0} (xs : List A) (i : ℕ) → i < length xs
    → (x : A) × (slice_get xs i ≡ Some x)
there_at [] i low = absurd (omega (arith, low))
there_at (x ∷ xs) zero low = (x, refl)
there_at (x ∷ xs) (suc i) low = there_at xs i (omega (arith, low))

pub argument_at : (sig : Signature) (sorts : List ℕ) (arguments : List Argument)
    (found : List (List (Option Tree))) (i : ℕ) → MatchTogether sig sorts arguments found
    → i < length found → (a : Argument) × (slice_get arguments i ≡ Some a)
argument_at sig sorts arguments found i together low =
    there_at arguments i (omega (arith, low, together.many))

is_some : {A : Type 0} (o : Option A) → IsSome o → (x : A) × (o ≡ Some x)
is_some None h = absurd (false≢true h)
is_some (Some x) h = (x, refl)

-- the substitution binds each variable of the argument
binds_variable : (sig : Signature) (sorts : List ℕ) (a : Argument) (theta : List (Option Tree))
    (y : ℕ) → MatchesArgument sig sorts a theta → IsVariableOf a y
    → (t : Tree) × (binding theta y ≡ Some t)
binds_variable sig sorts a theta y matches is =
    is_some (binding theta y) ((matches.binds.just y).1 (go is))
  where
    go : IsVariableOf a y
        → OccursInSome y (more_patterns (pattern_of a) no_pattern) ⊎ IsNamed (part_names_of a) y
    go (inl occurs) = inl (inl occurs)
    go (inr named) = inr named

binds_written : (sig : Signature) (sorts : List ℕ) (a : Argument) (theta : List (Option Tree))
    → MatchesArgument sig sorts a theta → (y : ℕ) → Contains (variables_of a) y
    → (t : Tree) × (binding theta y ≡ Some t)
binds_written sig sorts a theta matches =
    written_variables (of_child 0 (part_names_of a)) (pattern_of a)
    (λ y. (t : Tree) × (binding theta y ≡ Some t))
    (λ y is. binds_variable sig sorts a theta y matches (go y is))
  where
    go : (y : ℕ) → OccursIn y (pattern_of a) ⊎ IsNamed (of_child 0 (part_names_of a)) y
        → IsVariableOf a y
    go y (inl occurs) = inl occurs
    go y (inr named) = inr (child_named 0 (part_names_of a) y named)

argument_is : (sig : Signature) (sorts : List ℕ) (arguments : List Argument) (i : ℕ) (a : Argument)
    → All (IsArgument sig sorts) arguments → slice_get arguments i ≡ Some a
    → IsArgument sig sorts a
argument_is sig sorts arguments i a all at =
    subst (IsArgument sig sorts) (get_or_from_slice_get arguments i a a at)
    (all i a (slice_get_within arguments i a at))

earlier : (i n : ℕ) → i < n + 1 → (i < n) ⊎ (i ≡ n)
earlier zero zero low = inr refl
earlier zero (suc n) low = inl (omega arith)
earlier (suc i) zero low = absurd (omega (arith, low))
earlier (suc i) (suc n) low = go (earlier i n (omega (arith, low)))
  where
    go : (i < n) ⊎ (i ≡ n) → (suc i < suc n) ⊎ (suc i ≡ suc n)
    go (inl less) = inl (omega (arith, less))
    go (inr same) = inr (ap (λ (k : ℕ). suc k) same)

-- what is gone with the variables of the argument n
gone_more : (arguments : List Argument) (n : ℕ) (P : ℕ → Type 0)
    → ((i y : ℕ) (a : Argument) → i < n → slice_get arguments i ≡ Some a → IsVariableOf a y → P y
    → ⊥)
    → ((y : ℕ) (a : Argument) → slice_get arguments n ≡ Some a → IsVariableOf a y → P y → ⊥)
    → (i y : ℕ) (a : Argument) → i < n + 1 → slice_get arguments i ≡ Some a → IsVariableOf a y
    → P y → ⊥
gone_more arguments n P before here i y a low at is p = go (earlier i n low)
  where
    go : (i < n) ⊎ (i ≡ n) → ⊥
    go (inl less) = before i y a less at is p
    go (inr same) =
        here y a (subst (λ (k : ℕ). slice_get arguments k ≡ Some a) same at) is p

-- ---- a step

-- the condition has none of the variables that the next argument binds
pub sofar_skips : (old cx : Context) (x : Guarded) (denial t : Theorem) (n : ℕ)
    (found : List (List (Option Tree))) (sigma : List (Option Tree))
    → MatchTogether old.program.sig (sort_numbers x.sorts.items) x.arguments.items found
    → slice_get found n ≡ Some sigma
    → ((g b p : LogicPattern) → IsUnderTwo g b p t.conclusion → (y : ℕ) (u : Tree)
    → binding sigma y ≡ Some u → IsFresh y p)
    → IsSofarFrom old cx x denial n t → IsSofarFrom old cx x denial (n + 1) t
sofar_skips old cx x denial t n found sigma together there free sofar c is f =
    let now : IsSofar cx x f.q f.sort f.theta n t = sofar c is f in
    record {
      r = now.r;
      holds = now.holds;
      stays = now.stays;
      same = now.same;
      fewer = now.fewer;
      gone =
          gone_more x.arguments.items n (λ y. OccursIn y now.r) now.gone
          (λ y a at variable o.
          let b : (u : Tree) × (binding sigma y ≡ Some u) =
          binds_variable old.program.sig (sort_numbers x.sorts.items) a sigma y
          (together.matched n a sigma at there) variable in
          condition_free cx.program.sig cx.names y now.r f.sort now.holds.image now.holds.is_image
          (free x.given.hypothesis x.body now.holds.image now.holds.says y b.0 b.1) o);
    }

-- the equations of the next argument can be used
pub can_fill : (old cx next : Context) (x : Guarded) (q : Pattern) (s : ℕ)
    (theta : List (Option Tree)) (t equations : Theorem) (n : ℕ) (a : Argument)
    (found : List (List (Option Tree))) (sigma : List (Option Tree)) → HasGrown cx next
    → MatchTogether old.program.sig (sort_numbers x.sorts.items) x.arguments.items found
    → slice_get found n ≡ Some sigma → slice_get x.arguments.items n ≡ Some a
    → (f : IsSofar cx x q s theta n t)
    → IsOfBody next x (all_bound sigma (variables_of a)) equations
    → CanFill next x.given.hypothesis x.body (variables_of a) sigma f.r s equations t
can_fill old cx next x q s theta t equations n a found sigma grown together there at f of_body =
    record {
      says = of_body.says;
      stays = of_body.stays;
      bound =
          binds_written old.program.sig (sort_numbers x.sorts.items) a sigma
          (together.matched n a sigma at there);
      holds = record {
        image = f.holds.image;
        is_image = image_grown cx next (is_true f.r s) f.holds.image grown f.holds.is_image;
        says = f.holds.says;
      };
      start_stays = stays_grown cx next t grown f.stays;
    }

pub sofar_fills : (old cx next : Context) (x : Guarded) (denial t equations made : Theorem) (n : ℕ)
    (found : List (List (Option Tree))) (sigma : List (Option Tree)) → HasGrown cx next
    → MatchTogether old.program.sig (sort_numbers x.sorts.items) x.arguments.items found
    → slice_get found n ≡ Some sigma → IsSofarFrom old cx x denial n t
    → ((a : Argument) → slice_get x.arguments.items n ≡ Some a
    → IsOfBody next x (all_bound sigma (variables_of a)) equations)
    → ((cx : Context) (g b : LogicPattern) (xs : List ℕ) (theta : List (Option Tree)) (q : Pattern)
    (s : ℕ) → CanFill cx g b xs theta q s equations t → IsFilled cx g b xs theta q s made)
    → IsSofarFrom old next x denial (n + 1) made
sofar_fills old cx next x denial t equations made n found sigma grown together there sofar of_body
    fills c is f =
    let now : IsSofar cx x f.q f.sort f.theta n t = sofar c is f in
    let one : (a : Argument) × (slice_get x.arguments.items n ≡ Some a) =
    argument_at old.program.sig (sort_numbers x.sorts.items) x.arguments.items found n together
    (slice_get_within found n sigma there) in
    let full : IsFilled next x.given.hypothesis x.body (variables_of one.0) sigma now.r f.sort
    made =
    fills next x.given.hypothesis x.body (variables_of one.0) sigma now.r f.sort
    (can_fill old cx next x f.q f.sort f.theta t equations n one.0 found sigma grown together there
    one.1 now (of_body one.0 one.1)) in
    record {
      r = full.r;
      holds = full.holds;
      stays = full.stays;
      same =
          full.same f.theta (λ y u listed bound. f.bindings found together n y sigma u there bound)
          ∙ now.same;
      fewer = λ y o. now.fewer y (full.fewer y o);
      gone =
          gone_more x.arguments.items n (λ y. OccursIn y full.r)
          (λ i y a low at variable o. now.gone i y a low at variable (full.fewer y o))
          (λ y a at variable o.
          let same : a ≡ one.0 = some_same a one.0 (sym at ∙ one.1) in
          full.gone y
          (subst (λ (b : Argument). Contains (variables_of b) y) same
          (variable_written old.program.sig (sort_numbers x.sorts.items) (part_names_of a)
          (pattern_of a) y
          (argument_is old.program.sig (sort_numbers x.sorts.items) x.arguments.items n a
          is.arguments at).names variable)) o);
    }

-- ---- what the calls rest on

pub matches_at : (old cx : Context) (x : Guarded) (found : List (List (Option Tree)))
    (sigma : List (Option Tree)) (n : ℕ) → HasGrown old cx
    → MatchTogether old.program.sig (sort_numbers x.sorts.items) x.arguments.items found
    → slice_get found n ≡ Some sigma
    → (a : Argument) × (slice_get x.arguments.items n ≡ Some a)
    × MatchesArgument cx.program.sig (sort_numbers x.sorts.items) a sigma
matches_at old cx x found sigma n grown together there =
    let one : (a : Argument) × (slice_get x.arguments.items n ≡ Some a) =
    argument_at old.program.sig (sort_numbers x.sorts.items) x.arguments.items found n together
    (slice_get_within found n sigma there) in (
      one.0,
      one.1,
      program_grown old cx
          (λ (program : Program). MatchesArgument program.sig (sort_numbers x.sorts.items) one.0
          sigma) grown (together.matched n one.0 sigma one.1 there),
    )

pub few_bound : (cx : Context) (c : Sentence) (x : Guarded) (found : List (List (Option Tree)))
    (sigma : List (Option Tree)) (n : ℕ) → IsGuarded cx c x
    → MatchTogether cx.program.sig (sort_numbers x.sorts.items) x.arguments.items found
    → slice_get found n ≡ Some sigma → length sigma ≤ 2 ^ 32
few_bound cx c x found sigma n is together there =
    let one : (a : Argument) × (slice_get x.arguments.items n ≡ Some a) =
    argument_at cx.program.sig (sort_numbers x.sorts.items) x.arguments.items found n together
    (slice_get_within found n sigma there) in
    omega (
      arith,
      is.few,
      length-map x.sorts.items (λ (r : SortId). r.0),
      (together.matched n one.0 sigma one.1 there).binds.room,
    )

-- ---- the end

-- the denial is of what the theorem says
pub sofar_denied : (old cx : Context) (c : Sentence) (x : Guarded) (denial t : Theorem) (n : ℕ)
    (found : List (List (Option Tree))) → HasGrown old cx → IsGuarded old c x
    → FailsTogether old (sort_numbers x.sorts.items) x.arguments.items c denial
    → MatchTogether old.program.sig (sort_numbers x.sorts.items) x.arguments.items found
    → length found ≤ n → IsSofarFrom old cx x denial n t
    → (e : LogicPattern) × IsUnderTwo x.given.hypothesis x.body e t.conclusion
    × (denial.conclusion ≡ logic.not e)
sofar_denied old cx c x denial t n found grown is f together all sofar =
    let now : IsSofar cx x f.q f.sort f.theta n t = sofar c is f in
    let none : (y : ℕ) → OccursIn y now.r → ⊥ =
    λ y o.
    let used : (i : ℕ) × (a : Argument) × (slice_get x.arguments.items i ≡ Some a)
    × IsVariableOf a y = f.uses y (now.fewer y o) in
    now.gone used.0 y used.1
    (omega (arith, all, together.many, slice_get_within x.arguments.items used.0 used.1 used.2))
    used.2 used.3 o in
    let closed : filled f.theta f.q ≡ now.r = sym now.same ∙ filled_closed f.theta now.r none in
    let w : (e : LogicPattern)
    × (sentence_image cx.program.sig cx.names (is_true (filled f.theta f.q) f.sort) ≡ Some e)
    × (denial.conclusion ≡ logic.not e) =
    map_some logic.not
    (sentence_image cx.program.sig cx.names (is_true (filled f.theta f.q) f.sort)) denial.conclusion
    (image_grown old cx (not (is_true (filled f.theta f.q) f.sort)) denial.conclusion grown
    f.says) in
    let same : w.0 ≡ now.holds.image =
    some_same w.0 now.holds.image
    (sym w.1
    ∙ ap (λ (p : Pattern). sentence_image cx.program.sig cx.names (is_true p f.sort)) closed
    ∙ now.holds.is_image) in
    (now.holds.image, now.holds.says, w.2 ∙ ap logic.not same)

pub body_denied : (old cx : Context) (c : Sentence) (x : Guarded) (denial t made : Theorem) (n : ℕ)
    (found : List (List (Option Tree))) → HasGrown old cx → IsGuarded old c x
    → FailsTogether old (sort_numbers x.sorts.items) x.arguments.items c denial
    → MatchTogether old.program.sig (sort_numbers x.sorts.items) x.arguments.items found
    → length found ≤ n → IsSofarFrom old cx x denial n t
    → ((g b e : LogicPattern) → IsUnderTwo g b e t.conclusion → denial.conclusion ≡ logic.not e
    → IsUnderTwo g b bot made.conclusion)
    → StaysWithin [] (t ∷ denial ∷ []) made → IsOfBody cx x bottom made
body_denied old cx c x denial t made n found grown is f together all sofar says stays =
    let w : (e : LogicPattern) × IsUnderTwo x.given.hypothesis x.body e t.conclusion
    × (denial.conclusion ≡ logic.not e) =
    sofar_denied old cx c x denial t n found grown is f together all sofar in
    record {
      says = record {
        image = bot;
        is_image = refl;
        says = says x.given.hypothesis x.body w.0 w.1 w.2;
      };
      stays = λ scope has.
          stays scope tt (
            (sofar c is f).stays scope has,
            (stays_grown old cx denial grown f.stays scope has, tt),
          );
    }
