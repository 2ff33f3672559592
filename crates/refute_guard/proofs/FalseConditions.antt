-- A condition that is not true, with the variables of a guard that repeats its equation.
use Rattle.std.proofs.Common.{◌≡◌, ◌⊎◌, inl, inr, ◌<◌, ◌+◌, ◌++◌, ℕ, zero, suc, List, [], ◌∷◌}
use Rattle.std.proofs.Common.{Option, Some, None, option_map, length, map, replicate, slice_get}
use Rattle.std.proofs.Common.{refl, sym, ◌∙◌, ap, subst, arith}
use Rattle.std.specs.Prelude.{All, IfSome}
use Rattle.std.proofs.lemmas.Option.{slice_get-map, slice_get_within, get_or_from_slice_get}
use Rattle.ml_kernel.specs.Theorems.{Theorem}
use Rattle.term_core.specs.Terms.{Tree, Forest, no_tree, more_trees}
use Rattle.term_core.specs.Patterns.{Pattern, Patterns, variable, domain_value, application}
use Rattle.term_core.specs.Patterns.{injection, call, no_pattern, more_patterns, binding}
use Rattle.term_core.specs.RulePatterns.{sort_numbers}
use Rattle.rule_core.specs.Matching.{OccursIn, OccursInSome}
use Rattle.rule_core.specs.NamedParts.{Name, IsNamed, part_of, pattern_at}
use Rattle.rule_core.specs.ProgramView.{theory_of}
use Rattle.rule_core.specs.Rules.{Equation}
use Rattle.rule_core.specs.WellSorted.{HaveNames, IsCondition, IsWellSorted}
use Rattle.rule_core.specs.declared.signature.Signature.{Signature}
use Rattle.rule_core.proofs.Bindings.{given}
use Rattle.ml_image.specs.Images.{renamed, all_renamed}
use Rattle.ml_image.specs.LastResorts.{number_from, condition_renamed}
use Rattle.ml_image.specs.PartNames.{names_renamed}
use Rattle.ml_image.specs.Premises.{is_true}
use Rattle.ml_image.specs.Sentences.{not, sentence_image}
use Rattle.ml_image.proofs.ImageLaws.{some_same}
use Rattle.prove_term.specs.Contexts.{Context}
use Rattle.prove_term.specs.Filling.{in_place, filled, all_filled}
use Rattle.guard_body.specs.Arguments.{IsVariableOf, MatchTogether, part_names_of, pattern_of}
use Rattle.guard_body.specs.Guarded.{IsRepeated}
use Rattle.refute_guard.specs.Guards.{FailsAt}
use Rattle.guard_body.specs.Guarded.{IsAppliedTo, IsOrderOf}
use Rattle.guard_body.specs.Renaming.{AreRenamed, names_at}
use Rattle.refute_guard.specs.Repeated.{FailsTogether}
use Rattle.guard_body.specs.declared.arguments.Argument.{Argument}
use Rattle.guard_body.specs.declared.guarded.Guarded.{Guarded}
use Rattle.guard_body.proofs.RenamedNames.{IsPlaced, placed}
use Rattle.guard_body.proofs.Renamings.{occurs_before, occurs_renamed, occurs_where}
use Rattle.guard_body.proofs.RepeatedLaws.{IsListed, listed}

-- ---- the substitution

-- the terms of the variables in this order, numbered from k
abbrev pub moved_from : ℕ → List ℕ → List (Option Tree) → List (Option Tree)
moved_from k order theta = replicate k None ++ map (binding theta) order

binding_behind : (k : ℕ) (ys : List (Option Tree)) (i : ℕ)
    → binding (replicate k None ++ ys) (k + i) ≡ binding ys i
binding_behind zero ys i = let same : 0 + i ≡ i = omega arith in ap (binding ys) same
binding_behind (suc k) ys i =
    let next : suc k + i ≡ suc (k + i) = omega arith in
    ap (binding (replicate (suc k) None ++ ys)) next ∙ binding_behind k ys i

pub binding_moved : (k n : ℕ) (order : List ℕ) (theta : List (Option Tree)) (v : ℕ)
    → IsOrderOf n order → v < n
    → binding (moved_from k order theta) (number_from k order v) ≡ binding theta v
binding_moved k n order theta v is low =
    let w : IsListed k order v = listed k order v ((is.each v).1 low) in
    let there : slice_get (map (binding theta) order) w.place ≡ Some (binding theta v) =
    slice_get-map (binding theta) order w.place ∙ ap (option_map (binding theta)) w.there in
    ap (binding (moved_from k order theta)) w.number
    ∙ binding_behind k (map (binding theta) order) w.place
    ∙ get_or_from_slice_get (map (binding theta) order) w.place (binding theta v) None there

-- ---- filled patterns

-- the variable has a term, and its number has the same one
pub record HasTerm (g : ℕ → ℕ) (theta sigma : List (Option Tree)) (x : ℕ) : Type 0 where
  pub term : Tree
  pub bound : binding theta x ≡ Some term
  pub moved : binding sigma (g x) ≡ Some term

mutual
  pub filled_renamed : (g : ℕ → ℕ) (theta sigma : List (Option Tree)) (p : Pattern)
      → ((x : ℕ) → OccursIn x p → HasTerm g theta sigma x)
      → filled sigma (renamed g p) ≡ filled theta p
  filled_renamed g theta sigma (variable x) has =
      let h : HasTerm g theta sigma x = has x refl in
      ap (in_place (g x)) h.moved ∙ sym (ap (in_place x) h.bound)
  filled_renamed g theta sigma (domain_value s v) has = refl
  filled_renamed g theta sigma (application f ps) has =
      ap (application f) (all_filled_renamed g theta sigma ps has)
  filled_renamed g theta sigma (injection a b p) has =
      ap (injection a b) (filled_renamed g theta sigma p has)
  filled_renamed g theta sigma (call f ss ps) has =
      ap (call f ss) (all_filled_renamed g theta sigma ps has)

  pub all_filled_renamed : (g : ℕ → ℕ) (theta sigma : List (Option Tree)) (ps : Patterns)
      → ((x : ℕ) → OccursInSome x ps → HasTerm g theta sigma x)
      → all_filled sigma (all_renamed g ps) ≡ all_filled theta ps
  all_filled_renamed g theta sigma no_pattern has = refl
  all_filled_renamed g theta sigma (more_patterns p ps) has =
      ap (λ (q : Pattern). more_patterns q (all_filled sigma (all_renamed g ps)))
      (filled_renamed g theta sigma p (λ x h. has x (inl h)))
      ∙ ap (more_patterns (filled theta p))
      (all_filled_renamed g theta sigma ps (λ x h. has x (inr h)))

-- ---- the arguments

-- the argument at place j, where the first one has number i
pub record IsArgumentAt (g : ℕ → ℕ) (names : List Name) (i j : ℕ) (p : Pattern)
    (bs : List Argument) : Type 0 where
  pub argument : Argument
  pub there : slice_get bs j ≡ Some argument
  pub same : pattern_of argument ≡ renamed g p
  pub named : part_names_of argument ≡ names_at (i + j) (names_renamed g names)

pub argument_at : (g : ℕ → ℕ) (names : List Name) (i j : ℕ) (ps : Patterns) (ts : Forest)
    (bs : List Argument) (p : Pattern) → AreRenamed g names i ps ts bs → pattern_at ps j ≡ Some p
    → IsArgumentAt g names i j p bs
argument_at g names i j no_pattern ts bs p are at = absurd (let no : ⊥ = cc in no)
argument_at g names i j (more_patterns q ps) no_tree bs p are at = absurd are
argument_at g names i j (more_patterns q ps) (more_trees t ts) [] p are at = absurd are
argument_at g names i zero (more_patterns q ps) (more_trees t ts) (a ∷ bs) p
    (same, named, term_is, rest) at =
    let here : i ≡ i + 0 = omega arith in
    record {
      argument = a;
      there = refl;
      same = same ∙ ap (renamed g) (some_same q p at);
      named = named ∙ ap (λ (n : ℕ). names_at n (names_renamed g names)) here;
    }
argument_at g names i (suc j) (more_patterns q ps) (more_trees t ts) (a ∷ bs) p
    (same, named, term_is, rest) at =
    let w : IsArgumentAt g names (i + 1) j p bs =
    argument_at g names (i + 1) j ps ts bs p rest at in
    let next : i + 1 + j ≡ i + suc j = omega arith in
    record {
      argument = w.argument;
      there = w.there;
      same = w.same;
      named = w.named ∙ ap (λ (n : ℕ). names_at n (names_renamed g names)) next;
    }

-- the variable is one of an argument
abbrev pub IsInSome : List Argument → ℕ → Type 0
IsInSome bs y =
    (i : ℕ) × (a : Argument) × (slice_get bs i ≡ Some a) × IsVariableOf a y

pub variable_there : (sig : Signature) (g : ℕ → ℕ) (vars : List ℕ) (ps : Patterns)
    (names : List Name) (ts : Forest) (bs : List Argument) (v : ℕ) → HaveNames sig vars ps names
    → AreRenamed g names 0 ps ts bs → OccursInSome v ps ⊎ IsNamed names v → IsInSome bs (g v)
variable_there sig g vars ps names ts bs v have are (inl occurs) =
    let o : (i : ℕ) × (p : Pattern) × (pattern_at ps i ≡ Some p) × OccursIn v p =
    occurs_where v ps occurs in
    let w : IsArgumentAt g names 0 o.0 o.1 bs = argument_at g names 0 o.0 ps ts bs o.1 are o.2 in (
      o.0,
      w.argument,
      w.there,
      inl (subst (OccursIn (g v)) (sym w.same) (occurs_renamed g v o.1 o.3)),
    )
variable_there sig g vars ps names ts bs v have are (inr named) =
    let parts : All (λ (n : Name). (q : Pattern) × (part_of ps n.place ≡ Some q)) names =
    λ k d low. let told = have.sorted k d low in (told.0, told.2) in
    let o : IsPlaced g ps names v = placed g ps names v parts named in
    let w : IsArgumentAt g names 0 o.number o.pattern bs =
    argument_at g names 0 o.number ps ts bs o.pattern are o.there in
    let here : o.number ≡ 0 + o.number = omega arith in
    let same : names_at o.number (names_renamed g names) ≡ part_names_of w.argument =
    ap (λ (n : ℕ). names_at n (names_renamed g names)) here ∙ sym w.named in (
      o.number,
      w.argument,
      w.there,
      inr (subst (λ (ns : List Name). IsNamed ns (g v)) same o.named),
    )

-- ---- the condition

-- what binds the variables of the condition binds the variables of the repeated one to the same
-- terms
condition_has : (cx : Context) (k : ℕ) (order : List ℕ) (ts : Forest) (e : Equation)
    (theta : List (Option Tree)) (t : Theorem) (v : ℕ) → IsOrderOf (length e.variables) order
    → FailsAt cx e ts theta t → OccursInSome v e.arguments ⊎ IsNamed e.names v
    → HasTerm (number_from k order) theta (moved_from k order theta) v
condition_has cx k order ts e theta t v is fails used =
    let b : (u : Tree) × (binding theta v ≡ Some u) =
    given (binding theta v) ((fails.matches.binds.just v).1 used) in
    let told = fails.matches.binds.sorted v b.0 b.1 in
    let low : v < length e.variables = slice_get_within e.variables v told.1.0 told.1.1 in
    record {
      term = b.0;
      bound = b.1;
      moved = binding_moved k (length e.variables) order theta v is low ∙ b.1;
    }

-- if the equation's condition is not true at the terms, it is not for the guard that repeats it
pub fails_together : (cx : Context) (k : ℕ) (order : List ℕ) (ts : Forest) (e : Equation)
    (x : Guarded) (theta : List (Option Tree)) (t : Theorem) → IsWellSorted (theory_of cx.program)
    → IsAppliedTo cx.program.sig e ts → IsOrderOf (length e.variables) order
    → (w : IsRepeated cx k order ts e x) → FailsAt cx e ts theta t
    → ((found : List (List (Option Tree)))
    → MatchTogether cx.program.sig (sort_numbers x.sorts.items) x.arguments.items found
    → (i y : ℕ) (sigma : List (Option Tree)) (u : Tree) → slice_get found i ≡ Some sigma
    → binding sigma y ≡ Some u
    → (v : ℕ) × (v < length e.variables) × (y ≡ number_from k order v)
    × (binding theta v ≡ Some u))
    → FailsTogether cx (sort_numbers x.sorts.items) x.arguments.items w.condition t
fails_together cx k order ts e x theta t ok (info, equation, terms) is w fails key = record {
  q = renamed g fails.condition;
  sort = fails.sort;
  is = said;
  theta = moved_from k order theta;
  says =
      ap (λ (q : Pattern). sentence_image cx.program.sig cx.names (not (is_true q fails.sort)))
      (filled_renamed g theta (moved_from k order theta) fails.condition
      (λ v o. condition_has cx k order ts e theta t v is fails (uses_only v o)))
      ∙ fails.says;
  stays = fails.stays;
  uses = uses;
  bindings = λ found together i y sigma u at bound.
      bindings y u (key found together i y sigma u at bound);
} where
  g : ℕ → ℕ
  g = number_from k order

  said : w.condition ≡ is_true (renamed g fails.condition) fails.sort
  said =
      some_same w.condition (is_true (renamed g fails.condition) fails.sort)
      (sym w.is_condition
      ∙ ap (condition_renamed cx.program.sig g e.variables) fails.is_condition
      ∙ ap (option_map (is_true (renamed g fails.condition))) fails.is_sort)

  uses_only : (v : ℕ) → OccursIn v fails.condition → OccursInSome v e.arguments ⊎ IsNamed e.names v
  uses_only v o =
      let met : IsCondition cx.program.sig e.variables e.arguments e.names fails.condition =
      subst (λ (c : Option Pattern). IfSome c
      (IsCondition cx.program.sig e.variables e.arguments e.names)) fails.is_condition
      equation.condition in
      met.6 v o

  uses : (y : ℕ) → OccursIn y (renamed g fails.condition) → IsInSome x.arguments.items y
  uses y h =
      let o : (v : ℕ) × OccursIn v fails.condition × (y ≡ g v) =
      occurs_before g y fails.condition h in
      subst (IsInSome x.arguments.items) (sym o.2)
      (variable_there cx.program.sig g e.variables e.arguments e.names ts x.arguments.items o.0
      equation.names w.arguments (uses_only o.0 o.1))

  bindings : (y : ℕ) (u : Tree)
      → (v : ℕ) × (v < length e.variables) × (y ≡ number_from k order v)
      × (binding theta v ≡ Some u)
      → binding (moved_from k order theta) y ≡ Some u
  bindings y u (v, low, same, bound) =
      ap (binding (moved_from k order theta)) same
      ∙ binding_moved k (length e.variables) order theta v is low ∙ bound
