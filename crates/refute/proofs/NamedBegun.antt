-- What holds when a left side with names and a term begin to be compared.
use Rattle.std.proofs.Common.{◌≡◌, ◌≢◌, ◌⊎◌, inl, inr, ◌<◌, ℕ, List, [], Option, Some, length}
use Rattle.std.proofs.Common.{sym, ◌∙◌, ap, subst, arith}
use Rattle.std.specs.Prelude.{All, Contains, option_map, slice_get}
use Rattle.std.proofs.lemmas.List.{length-map}
use Rattle.std.proofs.lemmas.Option.{slice_get_within, get_or_from_slice_get}
use Rattle.ml_pat.specs.Patterns.{Pattern}
use Rattle.ml_pat.specs.Patterns as logic
use Rattle.term_core.specs.Terms.{Tree, Forest, IsNormal, no_tree, more_trees}
use Rattle.term_core.specs.Patterns.{Pattern as RulePattern, no_pattern, more_patterns}
use Rattle.term_core.specs.Patterns.{instance_of, ground_pattern}
use Rattle.term_core.specs.RulePatterns.{sort_numbers}
use Rattle.term_core.specs.declared.ids.SortId.{SortId}
use Rattle.rule_core.specs.Matching.{OccursIn, RespectsSorts, MatchAll, MatchNamed}
use Rattle.rule_core.specs.NamedParts.{Name}
use Rattle.rule_core.specs.Sorting.{HasSort, IsTermOf}
use Rattle.rule_core.specs.Subsorts.{HasNoCycle}
use Rattle.rule_core.specs.WellSorted.{HasNoCall, HaveNames}
use Rattle.rule_core.specs.declared.rules.Program.{Program}
use Rattle.rule_core.specs.declared.signature.Signature.{Signature}
use Rattle.rule_core.proofs.SortedInstances.{both_there}
use Rattle.ml_image.specs.Images.{both}
use Rattle.ml_image.specs.Sentences.{term, not, sentence_image}
use Rattle.ml_image.specs.NamedSides.{of_child}
use Rattle.ml_image.proofs.NamedLaws.{plain_left}
use Rattle.prove_term.specs.Contexts.{Context, HasGrown}
use Rattle.prove_term.proofs.ContextLaws.{image_grown}
use Rattle.prove_open.specs.Givens.{HasFact, all_sorted}
use Rattle.prove_open.specs.Under.{SaysUnder}
use Rattle.prove_open.specs.declared.givens.Given.{Given}
use Rattle.refute.specs.Bindings.{SaysInCommon}
use Rattle.refute.specs.Choosing.{chosen}
use Rattle.refute.specs.NamedRefutations.{variables_as_written, named_in_common}
use Rattle.refute.specs.NamedRefutations.{mismatched_named, inverted_named}
use Rattle.refute.specs.NamedSettings.{AreParts, IsReached}
use Rattle.refute.specs.Refutations.{SaysSentence, mismatched, inverted, all_bound, in_common}
use Rattle.refute.specs.Refutations.{variables_in_order}
use Rattle.refute.specs.Refuting.{IsPair}
use Rattle.refute.proofs.ChosenLaws.{AreBound, chosen_sorted, chosen_no_call, chosen_occurs}
use Rattle.refute.proofs.ChosenLaws.{chosen_instance, only_parts, only_bound}
use Rattle.refute.proofs.Growing.{program_grown}
use Rattle.refute.proofs.Inverted.{says_inverted, says_under}
use Rattle.refute.proofs.Listed.{all_contained}
use Rattle.refute.proofs.Reached.{occurs_low}
use Rattle.refute.proofs.ReachingLaws.{IsCome, reached}
use Rattle.refute.proofs.WrittenLaws.{occurs_written, written_occurs, written_in_order}

-- ---- the variables

-- a variable that is written
written_there : (names : List Name) (p : RulePattern) (xs : List ℕ) (x : ℕ)
    → xs ≡ variables_as_written names p → Contains xs x → OccursIn x (chosen x names p)
written_there names p xs x is there =
    written_occurs names p x (subst (λ (ys : List ℕ). Contains ys x) is there)

pub written_low : (sig : Signature) (sorts : List SortId) (names : List Name) (p : RulePattern)
    (sort : ℕ) (xs : List ℕ) → HasSort sig (sort_numbers sorts) p sort → HasNoCall p
    → AreParts sig (sort_numbers sorts) p names → xs ≡ variables_as_written names p
    → All (λ (x : ℕ). x < length sorts) xs
written_low sig sorts names p sort xs h k parts is =
    all_contained (λ (x : ℕ). x < length sorts) xs
    (λ x there.
    let low : x < length (sort_numbers sorts) =
    occurs_low sig (sort_numbers sorts) (chosen x names p) sort x
    (chosen_sorted sig (sort_numbers sorts) x names p sort h parts) (chosen_no_call x names p k)
    (written_there names p xs x is there) in
    omega (arith, low, length-map sorts (λ (r : SortId). r.0)))

pub written_facts : (names : List Name) (p : RulePattern) (xs ys : List ℕ) (g : Given)
    → ys ≡ variables_as_written names p → xs ≡ ys → ((x : ℕ) → Contains xs x → HasFact g x)
    → (x : ℕ) → OccursIn x p → HasFact g x
written_facts names p xs ys g is same facts = λ x occurs.
    facts x (subst (λ (zs : List ℕ). Contains zs x) (sym (same ∙ is))
    (occurs_written names p x occurs))

-- no name is a number from the number of sorts on
pub parts_others : (sig : Signature) (sorts : List SortId) (names : List Name) (p : RulePattern)
    (y : ℕ) → y ≡ length sorts → AreParts sig (sort_numbers sorts) p names
    → All (λ (n : Name). n.variable ≢ y) names
parts_others sig sorts names p y is parts = λ i d low same.
    let part = parts i d low in
    let within = slice_get_within (sort_numbers sorts) _ part.1 part.4 in
    omega (arith, within, same, is, length-map sorts (λ (r : SortId). r.0))

pub these_parts : (sig : Signature) (sorts : List ℕ) (p : RulePattern) (named names : List Name)
    → names ≡ of_child 0 named → HaveNames sig sorts (more_patterns p no_pattern) named
    → AreParts sig sorts p names
these_parts sig sorts p named names is have =
    subst (AreParts sig sorts p) (sym is) (only_parts sig sorts p named have)

pub these_bound : (sig : Signature) (sorts : List ℕ) (theta : List (Option Tree))
    (p : RulePattern) (t : Tree) (named names : List Name) → names ≡ of_child 0 named
    → MatchNamed sig sorts (more_patterns p no_pattern) named (more_trees t no_tree) theta
    → AreBound theta p names
these_bound sig sorts theta p t named names is matches =
    subst (AreBound theta p) (sym is) (only_bound sig sorts theta p t named matches)

-- ---- the pattern and the term

pub named_pair : (old new : Context) (sorts : List ℕ) (g : Given) (p : RulePattern) (sort : ℕ)
    (t : Tree) → HasGrown old new → HasSort old.program.sig sorts p sort → HasNoCall p
    → IsTermOf old.program.sig t sort → IsNormal t → ((x : ℕ) → OccursIn x p → HasFact g x)
    → IsPair new.program.sig sorts g p t
named_pair old new sorts g p sort t grown h k is normal facts =
    program_grown old new (λ (program : Program). IsPair program.sig sorts g p t) grown (record {
      sort = sort;
      left = record { sorted = h; no_call = k; given = facts };
      right = is;
      normal = normal;
    })

-- the term is the instance
pub only_instance : (sig : Signature) (variables : List ℕ) (theta : List (Option Tree))
    (p : RulePattern) (t : Tree) (names : List Name)
    → MatchNamed sig variables (more_patterns p no_pattern) names (more_trees t no_tree) theta
    → instance_of theta p ≡ Some t
only_instance sig variables theta p t names matches =
    let parts = both_there (instance_of theta p) (Some no_tree) (more_trees t no_tree)
    matches.makes in
    parts.1.1.1.0 ∙ ap (λ (u : Tree). Some u) (same parts.0 t parts.1.0 no_tree (sym parts.1.1.0))
  where
    same : (u t : Tree) (us ts : Forest) → more_trees u us ≡ more_trees t ts → u ≡ t
    same u t us ts e = cc

pub all_reached : (sig : Signature) (sorts : List ℕ) (g : Given) (names : List Name)
    (p : RulePattern) (sort : ℕ) (t : Tree) (theta : List (Option Tree)) (xs : List ℕ)
    → HasNoCycle sig.subsorts → HasSort sig sorts p sort → HasNoCall p
    → AreParts sig sorts p names → IsTermOf sig t sort → IsNormal t
    → RespectsSorts sig sorts theta → instance_of theta p ≡ Some t → AreBound theta p names
    → xs ≡ variables_as_written names p → ((x : ℕ) → Contains xs x → HasFact g x)
    → All (IsReached sig sorts g theta names p t) xs
all_reached sig sorts g names p sort t theta xs acyclic h k parts is normal respects makes bound
    written facts =
    all_contained (IsReached sig sorts g theta names p t) xs (λ x there.
    let sorted : HasSort sig sorts (chosen x names p) sort =
    chosen_sorted sig sorts x names p sort h parts in
    let come : IsCome sig.subsorts theta x (chosen x names p) t =
    reached sig sorts theta x (chosen x names p) sort t acyclic respects sorted
    (chosen_instance theta x names p bound ∙ makes) (written_there names p xs x written there) in
    record {
      bound = come.0;
      is_bound = come.1;
      pair = record {
        sort = sort;
        left = record {
          sorted = sorted;
          no_call = chosen_no_call x names p k;
          given = λ y occurs. given x there y (chosen_occurs x y names p occurs);
        };
        right = is;
        normal = normal;
      };
      comes = come.2;
    })
  where
    given : (x : ℕ) → Contains xs x → (y : ℕ) → OccursIn y p ⊎ (y ≡ x) → HasFact g y
    given x there y (inl occurs) =
        facts y (subst (λ (ys : List ℕ). Contains ys y) (sym written)
        (occurs_written names p y occurs))
    given x there y (inr same) = subst (HasFact g) (sym same) (facts x there)

-- ---- one variable

pub reached_at : (sig : Signature) (sorts : List ℕ) (g : Given) (theta : List (Option Tree))
    (names : List Name) (p : RulePattern) (t : Tree) (xs : List ℕ) (k x : ℕ)
    → All (IsReached sig sorts g theta names p t) xs → k < length xs
    → slice_get xs k ≡ Some x → IsReached sig sorts g theta names p t x
reached_at sig sorts g theta names p t xs k x all low is =
    subst (IsReached sig sorts g theta names p t) (get_or_from_slice_get xs k x x is) (all k x low)

-- ---- without names

plain_common : (cx : Context) (p : RulePattern) (t : Tree)
    → sentence_image cx.program.sig cx.names (in_common p t)
    ≡ sentence_image cx.program.sig cx.names (named_in_common [] p t)
plain_common cx p t =
    ap (λ (o : Option Pattern). both logic.and o
    (sentence_image cx.program.sig cx.names (term (ground_pattern t))))
    (sym (plain_left cx.program.sig cx.names p))

pub plain_mismatched : (cx : Context) (sorts : List ℕ) (names : List Name) (p : RulePattern)
    (t : Tree) (r : Pattern) → names ≡ [] → SaysSentence cx (mismatched sorts p t) r
    → SaysSentence cx (mismatched_named sorts names p t) r
plain_mismatched cx sorts names p t r none says =
    subst (λ (ns : List Name). SaysSentence cx (mismatched_named sorts ns p t) r) (sym none)
    (ap (λ (xs : List ℕ). both logic.imp
    (sentence_image cx.program.sig cx.names (all_sorted sorts xs))
    (option_map logic.not (sentence_image cx.program.sig cx.names (named_in_common [] p t))))
    (written_in_order p)
    ∙ ap (λ (o : Option Pattern). both logic.imp
    (sentence_image cx.program.sig cx.names (all_sorted sorts (variables_in_order p)))
    (option_map logic.not o)) (sym (plain_common cx p t))
    ∙ says)

pub plain_inverted : (cx : Context) (sorts : List ℕ) (theta : List (Option Tree))
    (names : List Name) (p : RulePattern) (t : Tree) (r : Pattern) → names ≡ []
    → SaysSentence cx (inverted sorts theta p t) r
    → SaysSentence cx (inverted_named sorts theta names p t) r
plain_inverted cx sorts theta names p t r none says =
    subst (λ (ns : List Name). SaysSentence cx (inverted_named sorts theta ns p t) r) (sym none)
    (ap (λ (xs : List ℕ). both logic.imp
    (both logic.and (sentence_image cx.program.sig cx.names (all_sorted sorts xs))
    (sentence_image cx.program.sig cx.names (named_in_common [] p t)))
    (sentence_image cx.program.sig cx.names (all_bound theta xs)))
    (written_in_order p)
    ∙ ap (λ (o : Option Pattern). both logic.imp
    (both logic.and
    (sentence_image cx.program.sig cx.names (all_sorted sorts (variables_in_order p))) o)
    (sentence_image cx.program.sig cx.names (all_bound theta (variables_in_order p))))
    (sym (plain_common cx p t))
    ∙ says)

-- without names the substitution matches
pub plain_matches : (sig : Signature) (variables : List ℕ) (theta : List (Option Tree))
    (p : RulePattern) (t : Tree) (names : List Name) → names ≡ []
    → MatchNamed sig variables (more_patterns p no_pattern) names (more_trees t no_tree) theta
    → MatchAll sig variables (more_patterns p no_pattern) (more_trees t no_tree) theta
plain_matches sig variables theta p t names none matches =
    let all : MatchNamed sig variables (more_patterns p no_pattern) [] (more_trees t no_tree)
    theta =
    subst (λ (ns : List Name). MatchNamed sig variables (more_patterns p no_pattern) ns
    (more_trees t no_tree) theta) none matches in
    record {
      binds = record {
        room = all.binds.room;
        just = λ x. (
          λ bound. alone ((all.binds.just x).0 bound),
          λ occurs. (all.binds.just x).1 (inl occurs),
        );
        sorted = all.binds.sorted;
      };
      makes = all.makes;
    }
  where
    alone : {A : Type 0} → A ⊎ ⊥ → A
    alone (inl a) = a
    alone (inr never) = absurd never

-- ---- with the hypothesis

hypothesis_later : (old new : Context) (sorts : List ℕ) (h : Pattern) (names : List Name)
    (p : RulePattern) (xs ys : List ℕ) → HasGrown old new
    → sentence_image old.program.sig old.names (all_sorted sorts xs) ≡ Some h
    → ys ≡ variables_as_written names p → xs ≡ ys
    → sentence_image new.program.sig new.names (all_sorted sorts (variables_as_written names p))
    ≡ Some h
hypothesis_later old new sorts h names p xs ys grown is written same =
    image_grown old new (all_sorted sorts (variables_as_written names p)) h grown
    (subst (λ (zs : List ℕ).
    sentence_image old.program.sig old.names (all_sorted sorts zs) ≡ Some h) (same ∙ written) is)

pub mismatch_named_said : (old new : Context) (sorts : List ℕ) (h : Pattern) (names : List Name)
    (p : RulePattern) (t : Tree) (xs ys : List ℕ) (r : Pattern) → HasGrown old new
    → sentence_image old.program.sig old.names (all_sorted sorts xs) ≡ Some h
    → ys ≡ variables_as_written names p → xs ≡ ys
    → SaysUnder new h (not (named_in_common names p t)) r
    → SaysSentence new (mismatched_named sorts names p t) r
mismatch_named_said old new sorts h names p t xs ys r grown is written same says =
    says_under new (all_sorted sorts (variables_as_written names p))
    (not (named_in_common names p t)) h r
    (hypothesis_later old new sorts h names p xs ys grown is written same) says

pub inversion_named_said : (old new : Context) (sorts : List ℕ) (h : Pattern)
    (theta : List (Option Tree)) (names : List Name) (p : RulePattern) (t : Tree)
    (xs ys zs : List ℕ) (r : Pattern) → HasGrown old new
    → sentence_image old.program.sig old.names (all_sorted sorts xs) ≡ Some h
    → ys ≡ variables_as_written names p → xs ≡ ys → zs ≡ ys
    → SaysInCommon new h (named_in_common names p t) (all_bound theta zs) r
    → SaysSentence new (inverted_named sorts theta names p t) r
inversion_named_said old new sorts h theta names p t xs ys zs r grown is written same there says =
    says_inverted new (all_sorted sorts (variables_as_written names p)) (named_in_common names p t)
    (all_bound theta (variables_as_written names p)) h r
    (hypothesis_later old new sorts h names p xs ys grown is written same)
    (subst (λ (ws : List ℕ). SaysInCommon new h (named_in_common names p t) (all_bound theta ws) r)
    (there ∙ written) says)
