-- Substitutions that match the arguments of a guard, if they are one, come from one substitution that
-- matches the arguments of the equation.
use Rattle.std.proofs.Common.{◌≡◌, ◌⊎◌, inl, inr, ◌<◌, ◌≤◌, ◌+◌, ℕ, zero, suc, List, [], ◌∷◌}
use Rattle.std.proofs.Common.{length, get_or, Bool, true, false, Option, Some, None, option_map}
use Rattle.std.proofs.Common.{slice_get, eq-eqb}
use Rattle.std.proofs.Common.{refl, sym, ◌∙◌, ap, subst, arith, ⊎_elim}
use Rattle.std.specs.Prelude.{All, IsSome}
use Rattle.std.specs.Bool.{Decides}
use Rattle.std.specs.Option.{option_and_then}
use Rattle.std.proofs.lemmas.Bool.{cases_lt, false≢true}
use Rattle.std.proofs.lemmas.Option.{slice_get_within, slice_get-get_or, get_or_from_slice_get}
use Rattle.term_core.specs.Terms.{Tree, Forest, no_tree, more_trees, node, injected}
use Rattle.term_core.specs.TreeTest.{tree_eq}
use Rattle.term_core.specs.Patterns.{Pattern, Patterns, variable, domain_value, application}
use Rattle.term_core.specs.Patterns.{injection, call, no_pattern, more_patterns, binding}
use Rattle.term_core.specs.Patterns.{instance_of, instances_of, with_first}
use Rattle.term_core.proofs.TreeTests.{Decides-tree_eq}
use Rattle.rule_core.specs.Matching.{OccursIn, OccursInSome, MatchNamed, RespectsSorts}
use Rattle.rule_core.specs.NamedParts.{IsNamed, Name, part_at, part_instance, part_of, pattern_at}
use Rattle.rule_core.specs.Sorting.{IsTermOf}
use Rattle.rule_core.specs.WellSorted.{HaveNames}
use Rattle.rule_core.specs.declared.signature.Signature.{Signature}
use Rattle.rule_core.proofs.NamedMatches.{occurs_at, occurs_in_part}
use Rattle.ml_image.specs.Images.{renamed, all_renamed}
use Rattle.ml_image.specs.PartNames.{names_renamed}
use Rattle.guard_body.specs.Arguments.{AreOne, IsVariableOf, MatchesArgument}
use Rattle.guard_body.specs.Arguments.{MatchTogether, part_names_of, pattern_of}
use Rattle.guard_body.specs.Renaming.{AreRenamed, begins_with, names_at, zero_first}
use Rattle.guard_body.specs.declared.arguments.Argument.{Argument}
use Rattle.guard_body.proofs.RenamedNames.{all_names_back, moved, part_there, placed}
use Rattle.guard_body.proofs.Renamings.{Renumbers, occurs_renamed, occurs_where, part_renamed}
use Rattle.guard_body.proofs.RepeatedLaws.{IsNumberOf, arguments_use}

-- ---- what several substitutions bind

-- the first of the two that is there
abbrev first_of : Option Tree → Option Tree → Option Tree
first_of None o = o
first_of (Some t) o = Some t

-- what the first substitution that binds the variable binds it to
abbrev bound_in : List (List (Option Tree)) → ℕ → Option Tree
bound_in [] y = None
bound_in (theta ∷ found) y = first_of (binding theta y) (bound_in found y)

-- a substitution of n variables, from x on, by what is bound to their numbers
abbrev pub pulled : (ℕ → ℕ) → List (List (Option Tree)) → ℕ → ℕ → List (Option Tree)
pulled g found x zero = []
pulled g found x (suc n) = bound_in found (g x) ∷ pulled g found (suc x) n

pulled_long : (g : ℕ → ℕ) (found : List (List (Option Tree))) (x n : ℕ)
    → length (pulled g found x n) ≡ n
pulled_long g found x zero = refl
pulled_long g found x (suc n) = ap suc (pulled_long g found (suc x) n)

pulled_at : (g : ℕ → ℕ) (found : List (List (Option Tree))) (x n y : ℕ) → y < n
    → binding (pulled g found x n) y ≡ bound_in found (g (x + y))
pulled_at g found x zero y low = absurd (omega (arith, low))
pulled_at g found x (suc n) zero low =
    let same : x ≡ x + zero = omega arith in ap (λ (z : ℕ). bound_in found (g z)) same
pulled_at g found x (suc n) (suc y) low =
    let same : suc x + y ≡ x + suc y = omega arith in
    pulled_at g found (suc x) n y (omega (arith, low)) ∙ ap (λ (z : ℕ). bound_in found (g z)) same

pulled_past : (g : ℕ → ℕ) (found : List (List (Option Tree))) (x n y : ℕ) → n ≤ y
    → binding (pulled g found x n) y ≡ None
pulled_past g found x zero y high = refl
pulled_past g found x (suc n) zero high = absurd (omega (arith, high))
pulled_past g found x (suc n) (suc y) high = pulled_past g found (suc x) n y (omega (arith, high))

-- a variable that has a binding has it from one of the substitutions
record IsFrom (found : List (List (Option Tree))) (y : ℕ) (t : Tree) : Type 0 where
  place : ℕ
  sigma : List (Option Tree)
  there : slice_get found place ≡ Some sigma
  binds : binding sigma y ≡ Some t

bound_from : (found : List (List (Option Tree))) (y : ℕ) (t : Tree) → bound_in found y ≡ Some t
    → IsFrom found y t
bound_from [] y t is = absurd (let no : ⊥ = cc in no)
bound_from (theta ∷ found) y t is =
    go (binding theta y) refl (λ rest. bound_from found y t rest) is
  where
    first : (u t : Tree) → Some u ≡ Some t → u ≡ t
    first u t e = cc

    go : (o : Option Tree) → binding theta y ≡ o → (bound_in found y ≡ Some t → IsFrom found y t)
        → first_of o (bound_in found y) ≡ Some t → IsFrom (theta ∷ found) y t
    go None own later rest =
        let w = later rest in
        record { place = suc w.place; sigma = w.sigma; there = w.there; binds = w.binds }
    go (Some u) own later some = record {
      place = zero;
      sigma = theta;
      there = refl;
      binds = own ∙ some;
    }

bound_some : (found : List (List (Option Tree))) (i : ℕ) (theta : List (Option Tree)) (y : ℕ)
    (u : Tree) → slice_get found i ≡ Some theta → binding theta y ≡ Some u
    → (t : Tree) × (bound_in found y ≡ Some t)
bound_some [] i theta y u there is = absurd (let no : ⊥ = cc in no)
bound_some (sigma ∷ found) zero theta y u there is =
    let same : sigma ≡ theta = first sigma theta there in (
      u,
      ap (λ (o : Option Tree). first_of o (bound_in found y))
          (ap (λ (s : List (Option Tree)). binding s y) same ∙ is),
    )
  where
    first : (a b : List (Option Tree)) → Some a ≡ Some b → a ≡ b
    first a b e = cc
bound_some (sigma ∷ found) (suc i) theta y u there is =
    go (binding sigma y) refl (bound_some found i theta y u there is)
  where
    go : (o : Option Tree) → binding sigma y ≡ o → (t : Tree) × (bound_in found y ≡ Some t)
        → (t : Tree) × (first_of (binding sigma y) (bound_in found y) ≡ Some t)
    go None own w = (w.0, ap (λ (o : Option Tree). first_of o (bound_in found y)) own ∙ w.1)
    go (Some t) own w = (t, ap (λ (o : Option Tree). first_of o (bound_in found y)) own)

not_different : (t u : Tree) → ((t ≡ u → ⊥) → ⊥) → t ≡ u
not_different t u never = go (tree_eq t u) (Decides-tree_eq t u)
  where
    go : (b : Bool) → Decides b (t ≡ u) → t ≡ u
    go true d = d.0 refl
    go false d = absurd (never (λ e. false≢true (d.1 e)))

-- what one of the substitutions binds, all do that bind it
bound_here : (found : List (List (Option Tree))) (i : ℕ) (theta : List (Option Tree)) (y : ℕ)
    (u : Tree) → AreOne found → slice_get found i ≡ Some theta → binding theta y ≡ Some u
    → bound_in found y ≡ Some u
bound_here found i theta y u one there is =
    let s = bound_some found i theta y u there is in
    let w : IsFrom found y s.0 = bound_from found y s.0 s.1 in
    let same : s.0 ≡ u =
    not_different s.0 u (λ differ. one w.place i y w.sigma theta w.there there (record {
      first = s.0;
      second = u;
      is_first = w.binds;
      is_second = is;
      differ = differ;
    })) in
    s.1 ∙ ap (λ (t : Tree). Some t) same

-- ---- instances

mutual
  instance_agrees : (g : ℕ → ℕ) (theta sigma : List (Option Tree)) (p : Pattern)
      → ((x : ℕ) → OccursIn x p → binding sigma (g x) ≡ binding theta x)
      → instance_of theta p ≡ instance_of sigma (renamed g p)
  instance_agrees g theta sigma (variable x) same = sym (same x refl)
  instance_agrees g theta sigma (domain_value s v) same = refl
  instance_agrees g theta sigma (application f ps) same =
      ap (option_map (node f)) (instances_agree g theta sigma ps same)
  instance_agrees g theta sigma (injection a b p) same =
      ap (option_map (injected a b)) (instance_agrees g theta sigma p same)
  instance_agrees g theta sigma (call f ss ps) same = refl

  instances_agree : (g : ℕ → ℕ) (theta sigma : List (Option Tree)) (ps : Patterns)
      → ((x : ℕ) → OccursInSome x ps → binding sigma (g x) ≡ binding theta x)
      → instances_of theta ps ≡ instances_of sigma (all_renamed g ps)
  instances_agree g theta sigma no_pattern same = refl
  instances_agree g theta sigma (more_patterns p ps) same =
      ap (λ (o : Option Tree). with_first o (instances_of theta ps))
      (instance_agrees g theta sigma p (λ x o. same x (inl o)))
      ∙ ap (with_first (instance_of sigma (renamed g p)))
      (instances_agree g theta sigma ps (λ x o. same x (inr o)))

single_makes : (sigma : List (Option Tree)) (p : Pattern) (t : Tree)
    → instances_of sigma (more_patterns p no_pattern) ≡ Some (more_trees t no_tree)
    → instance_of sigma p ≡ Some t
single_makes sigma p t is = go (instance_of sigma p) is
  where
    go : (o : Option Tree) → with_first o (Some no_tree) ≡ Some (more_trees t no_tree)
        → o ≡ Some t
    go None e = absurd (let no : ⊥ = cc in no)
    go (Some u) e = let same : u ≡ t = cc in ap (λ (v : Tree). Some v) same

-- ---- the arguments of the equation and of the guard

record IsArgumentAt (g : ℕ → ℕ) (names : List Name) (j : ℕ) (p : Pattern) (a : Argument) :
    Type 0 where
  pattern : pattern_of a ≡ renamed g p
  named : part_names_of a ≡ names_at j (names_renamed g names)

argument_at : (g : ℕ → ℕ) (names : List Name) (i : ℕ) (ps : Patterns) (ts : Forest)
    (bs : List Argument) (j : ℕ) (p : Pattern) → AreRenamed g names i ps ts bs
    → pattern_at ps j ≡ Some p
    → (a : Argument) × (slice_get bs j ≡ Some a) × IsArgumentAt g names (i + j) p a
argument_at g names i no_pattern ts bs j p are there = absurd (let no : ⊥ = cc in no)
argument_at g names i (more_patterns q ps) no_tree bs j p are there = absurd are
argument_at g names i (more_patterns q ps) (more_trees t ts) [] j p are there = absurd are
argument_at g names i (more_patterns q ps) (more_trees t ts) (a ∷ bs) zero p (same, named, is, rest)
    there =
    let own : q ≡ p = first q p there in
    let place : i ≡ i + zero = omega arith in (
      a,
      refl,
      record {
        pattern = same ∙ ap (renamed g) own;
        named = named ∙ ap (λ (k : ℕ). names_at k (names_renamed g names)) place;
      },
    )
  where
    first : (q p : Pattern) → Some q ≡ Some p → q ≡ p
    first q p e = cc
argument_at g names i (more_patterns q ps) (more_trees t ts) (a ∷ bs) (suc j) p
    (same, named, is, rest) there =
    let w = argument_at g names (i + 1) ps ts bs j p rest there in
    let place : i + 1 + j ≡ i + suc j = omega arith in (
      w.0,
      w.1,
      subst (λ (k : ℕ). IsArgumentAt g names k p w.0) place w.2,
    )

-- The arguments of a guard that repeats an equation, and substitutions that match them, and are one.
pub record AreTogether (sig : Signature) (g : ℕ → ℕ) (vars new : List ℕ) (ps : Patterns)
    (names : List Name) (ts : Forest) (bs : List Argument) (found : List (List (Option Tree))) :
    Type 0 where
  pub numbers : Renumbers g vars new
  pub low : (x : ℕ) → OccursInSome x ps ⊎ IsNamed names x → x < length vars
  pub named : HaveNames sig vars ps names
  pub renamed : AreRenamed g names 0 ps ts bs
  pub together : MatchTogether sig new bs found

-- ---- the substitution of the equation

some_of : (o : Option Tree) → IsSome o → (t : Tree) × (o ≡ Some t)
some_of None is = absurd (let no : ⊥ = cc in no)
some_of (Some t) is = (t, refl)

is_some : (o : Option Tree) (t : Tree) → o ≡ Some t → IsSome o
is_some o t is = subst IsSome (sym is) refl

-- the substitution of the argument at a place
record IsFoundAt (sig : Signature) (new : List ℕ) (found : List (List (Option Tree))) (j : ℕ)
    (a : Argument) : Type 0 where
  sigma : List (Option Tree)
  there : slice_get found j ≡ Some sigma
  matches : MatchesArgument sig new a sigma

found_at : (sig : Signature) (new : List ℕ) (bs : List Argument) (found : List (List (Option Tree)))
    (j : ℕ) (a : Argument) → MatchTogether sig new bs found → slice_get bs j ≡ Some a
    → IsFoundAt sig new found j a
found_at sig new bs found j a m at =
    let low : j < length found = omega (arith, m.many, slice_get_within bs j a at) in
    let there = slice_get-get_or found j [] low in
    record { sigma = get_or found j []; there = there; matches = m.matched j a _ at there }

-- what the argument's substitution binds to the number of a variable
bound_at : (sig : Signature) (g : ℕ → ℕ) (vars new : List ℕ) (bs : List Argument)
    (found : List (List (Option Tree))) (j x : ℕ) (a : Argument) (w : IsFoundAt sig new found j a)
    → MatchTogether sig new bs found → x < length vars → IsVariableOf a (g x)
    → (u : Tree) × (binding w.sigma (g x) ≡ Some u)
    × (binding (pulled g found 0 (length vars)) x ≡ Some u)
bound_at sig g vars new bs found j x a w m low uses =
    let b = some_of (binding w.sigma (g x)) ((w.matches.binds.just (g x)).1
    (⊎_elim (λ o. inl (inl o)) (λ n. inr n) uses)) in
    let first : 0 + x ≡ x = omega arith in (
      b.0,
      b.1,
      pulled_at g found 0 (length vars) x low ∙ ap (λ (z : ℕ). bound_in found (g z)) first
          ∙ bound_here found j w.sigma (g x) b.0 m.one w.there b.1,
    )

agrees_at : (sig : Signature) (g : ℕ → ℕ) (vars new : List ℕ) (bs : List Argument)
    (found : List (List (Option Tree))) (j x : ℕ) (a : Argument) (w : IsFoundAt sig new found j a)
    → MatchTogether sig new bs found → x < length vars → IsVariableOf a (g x)
    → binding w.sigma (g x) ≡ binding (pulled g found 0 (length vars)) x
agrees_at sig g vars new bs found j x a w m low uses =
    let b = bound_at sig g vars new bs found j x a w m low uses in b.1 ∙ sym b.2

-- under it the arguments become the terms
makes_all : (g : ℕ → ℕ) (theta : List (Option Tree)) (names : List Name) (i : ℕ) (ps : Patterns)
    (ts : Forest) (bs : List Argument) → AreRenamed g names i ps ts bs
    → ((j : ℕ) (p : Pattern) (a : Argument) → pattern_at ps j ≡ Some p → slice_get bs j ≡ Some a
    → pattern_of a ≡ renamed g p → instance_of theta p ≡ Some a.term.now)
    → instances_of theta ps ≡ Some ts
makes_all g theta names i no_pattern no_tree [] are each = refl
makes_all g theta names i no_pattern no_tree (a ∷ bs) are each = absurd are
makes_all g theta names i no_pattern (more_trees t ts) bs are each = absurd are
makes_all g theta names i (more_patterns p ps) no_tree bs are each = absurd are
makes_all g theta names i (more_patterns p ps) (more_trees t ts) [] are each = absurd are
makes_all g theta names i (more_patterns p ps) (more_trees t ts) (a ∷ bs) (same, named, is, rest)
    each =
    ap (λ (o : Option Tree). with_first o (instances_of theta ps))
    (each 0 p a refl refl same ∙ ap (λ (u : Tree). Some u) is)
    ∙ ap (with_first (Some t)) (makes_all g theta names (i + 1) ps ts bs rest
    (λ j q b at there. each (suc j) q b at there))

makes_one : (sig : Signature) (g : ℕ → ℕ) (vars new : List ℕ) (ps : Patterns) (names : List Name)
    (ts : Forest) (bs : List Argument) (found : List (List (Option Tree))) (j : ℕ) (p : Pattern)
    (a : Argument) → AreTogether sig g vars new ps names ts bs found → pattern_at ps j ≡ Some p
    → slice_get bs j ≡ Some a → pattern_of a ≡ renamed g p
    → instance_of (pulled g found 0 (length vars)) p ≡ Some a.term.now
makes_one sig g vars new ps names ts bs found j p a h at there same =
    let w = found_at sig new bs found j a h.together there in
    instance_agrees g (pulled g found 0 (length vars)) w.sigma p
    (λ x o. agrees_at sig g vars new bs found j x a w h.together (h.low x (inl (occurs_at ps j x p at o)))
    (inl (subst (OccursIn (g x)) (sym same) (occurs_renamed g x p o))))
    ∙ ap (instance_of w.sigma) (sym same)
    ∙ single_makes w.sigma (pattern_of a) a.term.now w.matches.makes

-- a variable of the equation is one of an argument of the guard
record IsUsedAt (g : ℕ → ℕ) (ps : Patterns) (names : List Name) (bs : List Argument) (x : ℕ) :
    Type 0 where
  place : ℕ
  argument : Argument
  there : slice_get bs place ≡ Some argument
  uses : IsVariableOf argument (g x)

parts_there : (sig : Signature) (vars : List ℕ) (ps : Patterns) (names : List Name)
    → HaveNames sig vars ps names
    → All (λ (n : Name). (q : Pattern) × (part_of ps n.place ≡ Some q)) names
parts_there sig vars ps names h = λ i d lt. let w = h.sorted i d lt in (w.0, w.2)

used_at : (sig : Signature) (g : ℕ → ℕ) (vars new : List ℕ) (ps : Patterns) (names : List Name)
    (ts : Forest) (bs : List Argument) (found : List (List (Option Tree))) (x : ℕ)
    → AreTogether sig g vars new ps names ts bs found → OccursInSome x ps ⊎ IsNamed names x
    → IsUsedAt g ps names bs x
used_at sig g vars new ps names ts bs found x h (inl o) =
    let w = occurs_where x ps o in
    let a = argument_at g names 0 ps ts bs w.0 w.1 h.renamed w.2 in
    record {
      place = w.0;
      argument = a.0;
      there = a.1;
      uses = inl (subst (OccursIn (g x)) (sym a.2.pattern) (occurs_renamed g x w.1 w.3));
    }
used_at sig g vars new ps names ts bs found x h (inr n) =
    let w = placed g ps names x (parts_there sig vars ps names h.named) n in
    let a = argument_at g names 0 ps ts bs w.number w.pattern h.renamed w.there in
    let place : 0 + w.number ≡ w.number = omega arith in
    record {
      place = w.number;
      argument = a.0;
      there = a.1;
      uses = inr (subst (λ (ns : List Name). IsNamed ns (g x))
          (sym (a.2.named ∙ ap (λ (k : ℕ). names_at k (names_renamed g names)) place)) w.named);
    }

-- the variable is bound by one of the substitutions
record IsBoundBy (sig : Signature) (g : ℕ → ℕ) (vars new : List ℕ) (bs : List Argument)
    (found : List (List (Option Tree))) (x : ℕ) (t : Tree) : Type 0 where
  low : x < length vars
  place : ℕ
  argument : Argument
  at : slice_get bs place ≡ Some argument
  sigma : List (Option Tree)
  there : slice_get found place ≡ Some sigma
  matches : MatchesArgument sig new argument sigma
  binds : binding sigma (g x) ≡ Some t

below_there : (bs : List Argument) (j : ℕ) → j < length bs
    → (a : Argument) × (slice_get bs j ≡ Some a)
below_there [] j low = absurd (omega (arith, low))
below_there (a ∷ bs) zero low = (a, refl)
below_there (a ∷ bs) (suc j) low = below_there bs j (omega (arith, low))

bound_by : (sig : Signature) (g : ℕ → ℕ) (vars new : List ℕ) (bs : List Argument)
    (found : List (List (Option Tree))) (x : ℕ) (t : Tree) → MatchTogether sig new bs found
    → binding (pulled g found 0 (length vars)) x ≡ Some t
    → IsBoundBy sig g vars new bs found x t
bound_by sig g vars new bs found x t m is = go (cases_lt x (length vars))
  where
    first : 0 + x ≡ x
    first = omega arith

    go : (x < length vars) ⊎ (length vars ≤ x) → IsBoundBy sig g vars new bs found x t
    go (inr high) =
        absurd (let e : None ≡ Some t =
        sym (pulled_past g found 0 (length vars) x high) ∙ is in let no : ⊥ = cc in no)
    go (inl low) =
        let w : IsFrom found (g x) t =
        bound_from found (g x) t (ap (λ (z : ℕ). bound_in found (g z)) (sym first)
        ∙ sym (pulled_at g found 0 (length vars) x low) ∙ is) in
        let within = slice_get_within found w.place w.sigma w.there in
        let a = below_there bs w.place (omega (arith, m.many, within)) in
        record {
          low = low;
          place = w.place;
          argument = a.0;
          at = a.1;
          sigma = w.sigma;
          there = w.there;
          matches = m.matched w.place a.0 w.sigma a.1 w.there;
          binds = w.binds;
        }

variable_of : (sig : Signature) (new : List ℕ) (a : Argument) (sigma : List (Option Tree)) (y : ℕ)
    → MatchesArgument sig new a sigma → IsSome (binding sigma y) → IsVariableOf a y
variable_of sig new a sigma y m some = go ((m.binds.just y).0 some)
  where
    go : OccursInSome y (more_patterns (pattern_of a) no_pattern) ⊎ IsNamed (part_names_of a) y
        → IsVariableOf a y
    go (inl (inl o)) = inl o
    go (inl (inr o)) = absurd o
    go (inr n) = inr n

numbered : (g : ℕ → ℕ) (ps : Patterns) (names : List Name) (ts : Forest) (bs : List Argument)
    (i y : ℕ) (a : Argument) → AreRenamed g names 0 ps ts bs → slice_get bs i ≡ Some a
    → IsVariableOf a y → IsNumberOf g ps names y
numbered g ps names ts bs i y a are there uses =
    let P : Argument → Type 0 = λ b. (z : ℕ) → IsVariableOf b z → IsNumberOf g ps names z in
    let all : All P bs = arguments_use g ps names 0 ps ts bs (λ x o. o) are in
    (subst P (get_or_from_slice_get bs i a a there) (all i a (slice_get_within bs i a there))) y uses

-- it binds exactly the variables of the equation
just_whole : (sig : Signature) (g : ℕ → ℕ) (vars new : List ℕ) (ps : Patterns) (names : List Name)
    (ts : Forest) (bs : List Argument) (found : List (List (Option Tree))) (x : ℕ)
    → AreTogether sig g vars new ps names ts bs found
    → IsSome (binding (pulled g found 0 (length vars)) x) → OccursInSome x ps ⊎ IsNamed names x
just_whole sig g vars new ps names ts bs found x h some =
    let b = some_of (binding (pulled g found 0 (length vars)) x) some in
    let w = bound_by sig g vars new bs found x b.0 h.together b.1 in
    let used =
    numbered g ps names ts bs w.place (g x) w.argument h.renamed w.at
    (variable_of sig new w.argument w.sigma (g x) w.matches
    (is_some (binding w.sigma (g x)) b.0 w.binds)) in
    let same : x ≡ used.0 =
    h.numbers.one_to_one x used.0 w.low (h.low used.0 used.1) used.2 in
    subst (λ (z : ℕ). OccursInSome z ps ⊎ IsNamed names z) (sym same) used.1

binds_whole : (sig : Signature) (g : ℕ → ℕ) (vars new : List ℕ) (ps : Patterns)
    (names : List Name) (ts : Forest) (bs : List Argument) (found : List (List (Option Tree)))
    (x : ℕ) → AreTogether sig g vars new ps names ts bs found
    → OccursInSome x ps ⊎ IsNamed names x → IsSome (binding (pulled g found 0 (length vars)) x)
binds_whole sig g vars new ps names ts bs found x h used =
    let u = used_at sig g vars new ps names ts bs found x h used in
    let w = found_at sig new bs found u.place u.argument h.together u.there in
    let b =
    bound_at sig g vars new bs found u.place x u.argument w h.together (h.low x used) u.uses in
    is_some (binding (pulled g found 0 (length vars)) x) b.0 b.2

same_number : (a b : ℕ) → Some a ≡ Some b → a ≡ b
same_number a b e = cc

sorts_whole : (sig : Signature) (g : ℕ → ℕ) (vars new : List ℕ) (ps : Patterns)
    (names : List Name) (ts : Forest) (bs : List Argument) (found : List (List (Option Tree)))
    → AreTogether sig g vars new ps names ts bs found
    → RespectsSorts sig vars (pulled g found 0 (length vars))
sorts_whole sig g vars new ps names ts bs found h = λ x t is.
    let w = bound_by sig g vars new bs found x t h.together is in
    let sorted = w.matches.binds.sorted (g x) t w.binds in
    let own = slice_get-get_or vars x 0 w.low in
    let same : sorted.1.0 ≡ get_or vars x 0 =
    same_number sorted.1.0 (get_or vars x 0) (sym sorted.1.1
    ∙ h.numbers.sorted x (get_or vars x 0) own) in
    (sorted.0, (get_or vars x 0, own, subst (IsTermOf sig t) same sorted.1.2))

-- ---- names

named_there : (ns : List Name) (i : ℕ) (d : Name) → i < length ns
    → IsNamed ns (get_or ns i d).variable
named_there [] i d low = absurd (omega (arith, low))
named_there (n ∷ ns) zero d low = inl refl
named_there (n ∷ ns) (suc i) d low = inr (named_there ns i d (omega (arith, low)))

begins : (i : ℕ) (way place : List ℕ) → place ≡ i ∷ way → begins_with i place ≡ true
begins i way place is = ap (begins_with i) is ∙ eq-eqb i i refl

occurs_above : (x : ℕ) (way : List ℕ) (p q : Pattern) → part_at way p ≡ Some q → OccursIn x q
    → OccursIn x p
occurs_above x way p q at o = go (occurs_in_part (more_patterns p no_pattern) (0 ∷ way) q x at o)
  where
    go : OccursInSome x (more_patterns p no_pattern) → OccursIn x p
    go (inl h) = h
    go (inr h) = absurd h

named_whole : (sig : Signature) (g : ℕ → ℕ) (vars new : List ℕ) (ps : Patterns)
    (names : List Name) (ts : Forest) (bs : List Argument) (found : List (List (Option Tree)))
    → AreTogether sig g vars new ps names ts bs found
    → All (λ (n : Name). binding (pulled g found 0 (length vars)) n.variable
    ≡ part_instance (pulled g found 0 (length vars)) ps n.place) names
named_whole sig g vars new ps names ts bs found h = λ i d lt.
    let theta = pulled g found 0 (length vars) in
    let n : Name = get_or names i d in
    let part = h.named.sorted i d lt in
    let p = part_there ps n.place part.0 part.2 in
    let a = argument_at g names 0 ps ts bs p.number p.pattern h.renamed p.there in
    let place : 0 + p.number ≡ p.number = omega arith in
    let own : part_names_of a.0 ≡ names_at p.number (names_renamed g names) =
    a.2.named ∙ ap (λ (k : ℕ). names_at k (names_renamed g names)) place in
    let w = found_at sig new bs found p.number a.0 h.together a.1 in
    let N : Name → Type 0 = λ m. IsNamed (names_at p.number (names_renamed g names)) m.variable in
    let P : Name → Type 0 =
    λ m. binding w.sigma m.variable
    ≡ part_instance w.sigma (more_patterns (pattern_of a.0) no_pattern) m.place in
    let first = begins p.number p.way n.place p.is in
    let is_named : IsNamed (names_at p.number (names_renamed g names)) (g n.variable) =
    all_names_back g N p.number names
    (λ j e low. named_there (names_at p.number (names_renamed g names)) j e low) i d lt first in
    let says : P (moved g n) =
    all_names_back g P p.number names (subst (λ (ns : List Name). All P ns) own w.matches.named) i d
    lt first in
    let low : n.variable < length vars = h.low n.variable (inr (named_there names i d lt)) in
    let there : part_of (more_patterns (pattern_of a.0) no_pattern) (moved g n).place ≡ Some
    (renamed g part.0) =
    ap (λ (way : List ℕ). part_of (more_patterns (pattern_of a.0) no_pattern) (zero_first way)) p.is
    ∙ ap (part_at p.way) a.2.pattern ∙ part_renamed g p.way p.pattern
    ∙ ap (option_map (renamed g)) p.at in
    sym (agrees_at sig g vars new bs found p.number n.variable a.0 w h.together low
    (inr (subst (λ (ns : List Name). IsNamed ns (g n.variable)) (sym own) is_named)))
    ∙ says ∙ ap (option_and_then (instance_of w.sigma)) there
    ∙ sym (instance_agrees g theta w.sigma part.0
    (λ x o. agrees_at sig g vars new bs found p.number x a.0 w h.together
    (h.low x (inl (occurs_at ps p.number x p.pattern p.there
    (occurs_above x p.way p.pattern part.0 p.at o))))
    (inl (subst (OccursIn (g x)) (sym a.2.pattern) (occurs_renamed g x p.pattern
    (occurs_above x p.way p.pattern part.0 p.at o))))))
    ∙ sym (ap (option_and_then (instance_of theta)) part.2)

-- ---- the whole

-- the substitution matches the arguments of the equation
pub matches_whole : (sig : Signature) (g : ℕ → ℕ) (vars new : List ℕ) (ps : Patterns)
    (names : List Name) (ts : Forest) (bs : List Argument) (found : List (List (Option Tree)))
    → AreTogether sig g vars new ps names ts bs found
    → MatchNamed sig vars ps names ts (pulled g found 0 (length vars))
matches_whole sig g vars new ps names ts bs found h = record {
  binds = record {
    room = pulled_long g found 0 (length vars);
    just = λ x. (
      just_whole sig g vars new ps names ts bs found x h,
      binds_whole sig g vars new ps names ts bs found x h,
    );
    sorted = sorts_whole sig g vars new ps names ts bs found h;
  };
  makes =
      makes_all g (pulled g found 0 (length vars)) names 0 ps ts bs h.renamed
      (λ j p a at there same. makes_one sig g vars new ps names ts bs found j p a h at there same);
  named = named_whole sig g vars new ps names ts bs found h;
}

-- what the substitutions bind, it binds
pub from_whole : (sig : Signature) (g : ℕ → ℕ) (vars new : List ℕ) (ps : Patterns)
    (names : List Name) (ts : Forest) (bs : List Argument) (found : List (List (Option Tree)))
    (i y : ℕ) (sigma : List (Option Tree)) (u : Tree)
    → AreTogether sig g vars new ps names ts bs found → slice_get found i ≡ Some sigma
    → binding sigma y ≡ Some u
    → (v : ℕ) × (v < length vars) × (y ≡ g v)
    × (binding (pulled g found 0 (length vars)) v ≡ Some u)
from_whole sig g vars new ps names ts bs found i y sigma u h there is =
    let within = slice_get_within found i sigma there in
    let a = below_there bs i (omega (arith, h.together.many, within)) in
    let m = h.together.matched i a.0 sigma a.1 there in
    let used =
    numbered g ps names ts bs i y a.0 h.renamed a.1
    (variable_of sig new a.0 sigma y m (is_some (binding sigma y) u is)) in
    let low = h.low used.0 used.1 in
    let first : 0 + used.0 ≡ used.0 = omega arith in (
      used.0,
      low,
      used.2,
      pulled_at g found 0 (length vars) used.0 low
          ∙ ap (λ (z : ℕ). bound_in found (g z)) first
          ∙ bound_here found i sigma (g used.0) u h.together.one there
          (ap (binding sigma) (sym used.2) ∙ is),
    )
