-- Guards of equations of the last resort: their quantifiers, and what they become when terms
-- replace the parameters.
use Rattle.std.proofs.Common.{◌≡◌, ◌≢◌, ◌<◌, ◌≤◌, ◌+◌, ◌⊎◌, ℕ, Bool, true, false, zero, suc, List}
use Rattle.std.proofs.Common.{[], ◌∷◌, Option, Some, None, option_map, length, map, take, slice_get}
use Rattle.std.proofs.Common.{inl, inr, refl, sym, ◌∙◌, ap, subst, arith}
use Rattle.std.specs.Prelude.{Contains, IfSome, nat_eq, if◌then◌else◌, slice_index_or}
use Rattle.std.proofs.lemmas.Bool.Decides.{eqb_tells}
use Rattle.std.proofs.lemmas.Option.{get_or_from_slice_get}
use Rattle.ml_pat.specs.Patterns.{Pattern, var, meta}
use Rattle.ml_pat.specs.Patterns as logic
use Rattle.ml_kernel.specs.Lemmas.{instance}
use Rattle.term_core.specs.Terms.{Tree, truth}
use Rattle.term_core.specs.Forests.{forest}
use Rattle.term_core.specs.Patterns.{Pattern as RulePattern, Patterns as RulePatterns, variable}
use Rattle.term_core.specs.Patterns.{domain_value, application, injection, call, no_pattern}
use Rattle.term_core.specs.Patterns.{more_patterns, ground_pattern}
use Rattle.rule_core.specs.NamedParts.{Name}
use Rattle.rule_core.specs.Rules.{Equation, Guard}
use Rattle.rule_core.specs.Guards.{AreGuards, IsGuardAmong}
use Rattle.rule_core.specs.declared.signature.Signature.{Signature}
use Rattle.ml_image.specs.Images.{both, sort_image, image_of, renamed, all_renamed}
use Rattle.ml_image.specs.HasImages.{HasImage, HaveImages, HasPremise, IsCondition, count_of}
use Rattle.ml_image.specs.Premises.{sort_of, is_true, meets, renamed_name}
use Rattle.ml_image.specs.NamedSides.{left_sentence, of_child}
use Rattle.ml_image.specs.LastResorts.{number_from, sorts_at, condition_renamed, premise}
use Rattle.ml_image.specs.LastResorts.{guard_sentence, guards_sentence}
use Rattle.ml_image.specs.Sentences.{Sentence, sentence_image, top, bottom, and, or}
use Rattle.ml_image.specs.Sentences.{for_some}
use Rattle.ml_image.proofs.ImageLaws.{none_some, some_same}
use Rattle.prove_term.specs.GuardsAt.{are_in, premise_at, guard_at, guards_at}
use Rattle.prove_term.proofs.ImageShapes.{both_some, map_some}
use Rattle.prove_schema.specs.Schemas.{with_metas}
use Rattle.prove_schema.proofs.OpenLaws.{meta_below}
use Rattle.prove_schema.proofs.BodyLaws.{QuantifiesFrom, for_some_quantifies}
use Rattle.prove_schema.proofs.BoundSides.{IsAbove, AreAbove, AreNamesAbove, of_child_above}
use Rattle.prove_schema.proofs.BoundSides.{left_is_above, left_quantifies, above_image, above_side}
use Rattle.prove_schema.proofs.InstanceLaws.{Becomes, becomes_both}
use Rattle.prove_schema.proofs.LeftSides.{AreBelow, names_below}
use Rattle.prove_equation.specs.Conditions.{ListEachVariable}

-- ---- quantifiers

condition_quantifies : (sig : Signature) (g : ℕ → ℕ) (sorts : List ℕ) (o : Option RulePattern)
    (c : Sentence) (n : ℕ) → condition_renamed sig g sorts o ≡ Some c → QuantifiesFrom n c
condition_quantifies sig g sorts None c n is = subst (QuantifiesFrom n) (some_same top c is) tt
condition_quantifies sig g sorts (Some p) c n is =
    let w : (s : ℕ) × (sort_of sig sorts p ≡ Some s) × (c ≡ is_true (renamed g p) s) =
    map_some (is_true (renamed g p)) (sort_of sig sorts p) c is in
    subst (QuantifiesFrom n) (sym w.2) (tt, tt)

meets_quantify : (n : ℕ) (names : List Name) (k : ℕ) (ps : RulePatterns)
    → QuantifiesFrom n (meets names k ps)
meets_quantify n names k no_pattern = tt
meets_quantify n names k (more_patterns p ps) =
    ((tt, left_quantifies n (of_child k names) p), meets_quantify n names (k + 1) ps)

-- what the arguments of an equation require, with its variables renamed
abbrev met_by : (ℕ → ℕ) → Equation → Sentence
met_by g e = meets (map (renamed_name g) e.names) 0 (all_renamed g e.arguments)

premise_quantifies : (sig : Signature) (g : ℕ → ℕ) (e : Equation) (s : Sentence) (n : ℕ)
    → premise sig g e ≡ Some s → QuantifiesFrom n s
premise_quantifies sig g e s n is =
    let w : (c : Sentence) × (condition_renamed sig g e.variables e.condition ≡ Some c) ×
    (s ≡ and c (met_by g e)) =
    map_some (λ (c : Sentence). and c (met_by g e))
    (condition_renamed sig g e.variables e.condition) s is in
    subst (QuantifiesFrom n) (sym w.2) (
      condition_quantifies sig g e.variables e.condition w.0 n w.1,
      meets_quantify n (map (renamed_name g) e.names) 0 (all_renamed g e.arguments),
    )

guard_quantifies : (sig : Signature) (n k : ℕ) (order : List ℕ) (o : Option Equation)
    (s : Sentence) → n ≤ k → guard_sentence sig k order o ≡ Some s → QuantifiesFrom n s
guard_quantifies sig n k order None s low is = absurd (none_some s is)
guard_quantifies sig n k order (Some e) s low is =
    let w : (t : Sentence) × (premise sig (number_from k order) e ≡ Some t) ×
    (s ≡ for_some k (sorts_at e.variables order) t) =
    map_some (for_some k (sorts_at e.variables order)) (premise sig (number_from k order) e) s is in
    subst (QuantifiesFrom n) (sym w.2)
    (for_some_quantifies n k (sorts_at e.variables order) w.0 low
    (premise_quantifies sig (number_from k order) e w.0 n w.1))

pub guards_quantify : (sig : Signature) (equations : List Equation) (n k : ℕ) (gs : List Guard)
    (s : Sentence) → n ≤ k → guards_sentence sig equations k gs ≡ Some s → QuantifiesFrom n s
guards_quantify sig equations n k [] s low is = subst (QuantifiesFrom n) (some_same bottom s is) tt
guards_quantify sig equations n k (g ∷ gs) s low is =
    let w : (a : Sentence) × (b : Sentence) ×
    (guard_sentence sig k g.order (slice_get equations g.equation) ≡ Some a) ×
    (guards_sentence sig equations (k + length g.order) gs ≡ Some b) × (s ≡ or a b) =
    both_some or (guard_sentence sig k g.order (slice_get equations g.equation))
    (guards_sentence sig equations (k + length g.order) gs) s is in
    subst (QuantifiesFrom n) (sym w.4) (
      guard_quantifies sig n k g.order (slice_get equations g.equation) w.0 low w.2,
      guards_quantify sig equations n (k + length g.order) gs w.1 (omega (arith, low)) w.3,
    )

-- ---- numbers of the variables of guards

later : (y : ℕ) (ys : List ℕ) (x : ℕ) → x ≢ y → Contains (y ∷ ys) x → Contains ys x
later y ys x other (zero, low, is) = absurd (other (sym is))
later y ys x other (suc i, low, is) = (i, omega (arith, low), is)

number_listed : (n k : ℕ) (order : List ℕ) (x : ℕ) → n ≤ k → Contains order x
    → n ≤ number_from k order x
number_listed n k [] x low there = absurd (omega (arith, there.1))
number_listed n k (y ∷ ys) x low there =
    go (eqb_tells x y)
    (λ other. number_listed n (k + 1) ys x (omega (arith, low)) (later y ys x other there))
  where
    go : ((nat_eq x y ≡ true) × (x ≡ y)) ⊎ ((nat_eq x y ≡ false) × (x ≢ y))
        → (x ≢ y → n ≤ number_from (k + 1) ys x) → n ≤ number_from k (y ∷ ys) x
    go (inl same) rest =
        subst (λ (b : Bool). n ≤ (if b then k else number_from (k + 1) ys x)) (sym same.0) low
    go (inr differ) rest =
        subst (λ (b : Bool). n ≤ (if b then k else number_from (k + 1) ys x)) (sym differ.0)
        (rest differ.1)

-- the variables below m are numbered from n on
abbrev NumbersFrom : ℕ → ℕ → (ℕ → ℕ) → Type 0
NumbersFrom n m g = (x : ℕ) → x < m → n ≤ g x

mutual
  renamed_above : (sig : Signature) (n m : ℕ) (g : ℕ → ℕ) (p : RulePattern) → NumbersFrom n m g
      → HasImage sig m p → IsAbove n (renamed g p)
  renamed_above sig n m g (variable x) high h = high x h
  renamed_above sig n m g (domain_value s v) high h = tt
  renamed_above sig n m g (application f ps) high h = all_renamed_above sig n m g ps high h.1
  renamed_above sig n m g (injection a b p) high h = renamed_above sig n m g p high h.2
  renamed_above sig n m g (call f ss ps) high h = all_renamed_above sig n m g ps high h.2

  all_renamed_above : (sig : Signature) (n m : ℕ) (g : ℕ → ℕ) (ps : RulePatterns)
      → NumbersFrom n m g → HaveImages sig m ps → AreAbove n (all_renamed g ps)
  all_renamed_above sig n m g no_pattern high h = tt
  all_renamed_above sig n m g (more_patterns p ps) high h =
      (renamed_above sig n m g p high h.0, all_renamed_above sig n m g ps high h.1)

names_above : (n m : ℕ) (g : ℕ → ℕ) (names : List Name) → NumbersFrom n m g → AreBelow m names
    → AreNamesAbove n (map (renamed_name g) names)
names_above n m g [] high h = tt
names_above n m g (a ∷ names) high h = (high a.variable h.0, names_above n m g names high h.1)

count_renamed : (g : ℕ → ℕ) (ps : RulePatterns) → count_of (all_renamed g ps) ≡ count_of ps
count_renamed g no_pattern = refl
count_renamed g (more_patterns p ps) = ap suc (count_renamed g ps)

-- ---- guards at terms

-- the images of the terms are in the list, from place j on
abbrev pub AreAtPlaces : Signature → List (List ℕ) → List Pattern → ℕ → List Tree → Type 0
AreAtPlaces sig names qs j us =
    (i : ℕ) (u : Tree) → slice_get us i ≡ Some u →
    (q : Pattern) × (slice_get qs (j + i) ≡ Some q)
    × (image_of sig names (ground_pattern u) ≡ Some q)

next_places : (sig : Signature) (names : List (List ℕ)) (qs : List Pattern) (j : ℕ) (u : Tree)
    (us : List Tree) → AreAtPlaces sig names qs j (u ∷ us) → AreAtPlaces sig names qs (j + 1) us
next_places sig names qs j u us at i v there =
    let here : (q : Pattern) × (slice_get qs (j + suc i) ≡ Some q) ×
    (image_of sig names (ground_pattern v) ≡ Some q) =
    at (suc i) v there in
    let same : j + 1 + i ≡ j + suc i = omega arith in
    (here.0, ap (slice_get qs) same ∙ here.1, here.2)

becomes_top : (n : ℕ) (qs : List Pattern) → Becomes n qs (Some logic.top) (Some logic.top)
becomes_top n qs p is =
    ap (λ (r : Pattern). Some (instance qs (with_metas n r))) (some_same logic.top p is)

becomes_bottom : (n : ℕ) (qs : List Pattern) → Becomes n qs (Some logic.bot) (Some logic.bot)
becomes_bottom n qs p is =
    ap (λ (r : Pattern). Some (instance qs (with_metas n r))) (some_same logic.bot p is)

becomes_exists : (n : ℕ) (qs : List Pattern) (x : ℕ) (o : Option ℕ) (a a' : Option Pattern)
    → Becomes n qs a a' → Becomes n qs (both (logic.ex x) o a) (both (logic.ex x) o a')
becomes_exists n qs x None a a' k p is = absurd (none_some p is)
becomes_exists n qs x (Some s) None a' k p is = absurd (none_some p is)
becomes_exists n qs x (Some s) (Some y) a' k p is =
    ap (λ (o : Option Pattern). both (logic.ex x) (Some s) o) (k y refl)
    ∙ ap (λ (r : Pattern). Some (instance qs (with_metas n r))) (some_same (logic.ex x s y) p is)

becomes_for_some : (sig : Signature) (names : List (List ℕ)) (n : ℕ) (qs : List Pattern) (k : ℕ)
    (ss : List ℕ) (s s' : Sentence)
    → Becomes n qs (sentence_image sig names s) (sentence_image sig names s')
    → Becomes n qs (sentence_image sig names (for_some k ss s))
    (sentence_image sig names (for_some k ss s'))
becomes_for_some sig names n qs k [] s s' h = h
becomes_for_some sig names n qs k (t ∷ ss) s s' h =
    becomes_exists n qs k (sort_image sig names t)
    (sentence_image sig names (for_some (k + 1) ss s))
    (sentence_image sig names (for_some (k + 1) ss s'))
    (becomes_for_some sig names n qs (k + 1) ss s s' h)

-- a parameter becomes its term
parameter_becomes : (sig : Signature) (names : List (List ℕ)) (n : ℕ) (qs : List Pattern) (j : ℕ)
    (u : Tree) (q : Pattern) → j < n → slice_get qs j ≡ Some q
    → image_of sig names (ground_pattern u) ≡ Some q
    → Becomes n qs (Some (var j)) (image_of sig names (ground_pattern u))
parameter_becomes sig names n qs j u q low there image = λ p is.
    image
    ∙ ap (λ (r : Pattern). Some r) (sym (get_or_from_slice_get qs j q (meta j) there))
    ∙ ap (λ (r : Pattern). Some (instance qs r)) (sym (meta_below n j low))
    ∙ ap (λ (r : Pattern). Some (instance qs (with_metas n r))) (some_same (var j) p is)

meets_become : (sig : Signature) (names : List (List ℕ)) (n : ℕ) (qs : List Pattern)
    (parts : List Name) (j : ℕ) (ps : RulePatterns) (us : List Tree)
    → AreAtPlaces sig names qs j us → j + length us ≤ n → AreNamesAbove n parts → AreAbove n ps
    → count_of ps ≡ length us
    → Becomes n qs (sentence_image sig names (meets parts j ps))
    (sentence_image sig names (are_in parts j (forest us) ps))
meets_become sig names n qs parts j no_pattern [] at low high above many = becomes_top n qs
meets_become sig names n qs parts j no_pattern (u ∷ us) at low high above many =
    absurd (omega (arith, many))
meets_become sig names n qs parts j (more_patterns p ps) [] at low high above many =
    absurd (omega (arith, many))
meets_become sig names n qs parts j (more_patterns p ps) (u ∷ us) at low high above many =
    let here : (q : Pattern) × (slice_get qs (j + 0) ≡ Some q) ×
    (image_of sig names (ground_pattern u) ≡ Some q) =
    at zero u refl in
    let same : j ≡ j + 0 = omega arith in
    let below : j < n = omega (arith, low) in
    let element : Becomes n qs (Some (var j)) (image_of sig names (ground_pattern u)) =
    parameter_becomes sig names n qs j u here.0 below (ap (slice_get qs) same ∙ here.1) here.2 in
    becomes_both n qs logic.and
    (both logic.member (Some (var j))
    (sentence_image sig names (left_sentence (of_child j parts) p)))
    (both logic.member (image_of sig names (ground_pattern u))
    (sentence_image sig names (left_sentence (of_child j parts) p)))
    (sentence_image sig names (meets parts (j + 1) ps))
    (sentence_image sig names (are_in parts (j + 1) (forest us) ps)) (λ x y. refl)
    (becomes_both n qs logic.member (Some (var j)) (image_of sig names (ground_pattern u))
    (sentence_image sig names (left_sentence (of_child j parts) p))
    (sentence_image sig names (left_sentence (of_child j parts) p)) (λ x y. refl) element
    (above_side sig names n qs (left_sentence (of_child j parts) p)
    (left_is_above n (of_child j parts) p (of_child_above n j parts high) above.0)))
    (meets_become sig names n qs parts (j + 1) ps us (next_places sig names qs j u us at)
    (omega (arith, low)) high above.1 (omega (arith, many)))

condition_becomes : (sig : Signature) (names : List (List ℕ)) (n : ℕ) (qs : List Pattern)
    (g : ℕ → ℕ) (sorts : List ℕ) (o : Option RulePattern) (c : Sentence)
    → IsCondition sig sorts o → NumbersFrom n (length sorts) g
    → condition_renamed sig g sorts o ≡ Some c
    → Becomes n qs (sentence_image sig names c) (sentence_image sig names c)
condition_becomes sig names n qs g sorts None c h high is =
    subst (λ (s : Sentence).
    Becomes n qs (sentence_image sig names s) (sentence_image sig names s))
    (some_same top c is) (becomes_top n qs)
condition_becomes sig names n qs g sorts (Some p) c h high is =
    let w : (s : ℕ) × (sort_of sig sorts p ≡ Some s) × (c ≡ is_true (renamed g p) s) =
    map_some (is_true (renamed g p)) (sort_of sig sorts p) c is in
    subst (λ (s : Sentence).
    Becomes n qs (sentence_image sig names s) (sentence_image sig names s)) (sym w.2)
    (becomes_both n qs logic.equal (image_of sig names (renamed g p))
    (image_of sig names (renamed g p)) (image_of sig names (domain_value w.0 (truth true)))
    (image_of sig names (domain_value w.0 (truth true))) (λ x y. refl)
    (above_image sig names n qs (renamed g p)
    (renamed_above sig n (length sorts) g p high h.image))
    (above_image sig names n qs (domain_value w.0 (truth true)) tt))

-- the sentence becomes that of the option, which there is
pub record Turns (sig : Signature) (names : List (List ℕ)) (n : ℕ) (qs : List Pattern)
    (s : Sentence) (o : Option Sentence) : Type 0 where
  pub at : Sentence
  pub is : o ≡ Some at
  pub becomes : Becomes n qs (sentence_image sig names s) (sentence_image sig names at)

-- the equation that a guard repeats has an image and this many arguments, and the guard lists each
-- of its variables
pub record IsRepeatable (sig : Signature) (count : ℕ) (order : List ℕ) (q : Equation) : Type 0 where
  pub premise : HasPremise sig q
  pub many : count_of q.arguments ≡ count
  pub each : (x : ℕ) → x < length q.variables → Contains order x

premise_turns : (sig : Signature) (names : List (List ℕ)) (n : ℕ) (qs : List Pattern)
    (us : List Tree)
    (g : ℕ → ℕ) (e : Equation) (s : Sentence) → AreAtPlaces sig names qs 0 us → length us ≤ n
    → HasPremise sig e → count_of e.arguments ≡ length us → NumbersFrom n (length e.variables) g
    → premise sig g e ≡ Some s → Turns sig names n qs s (premise_at sig g e (forest us))
premise_turns sig names n qs us g e s at few has many high is =
    let w : (c : Sentence) × (condition_renamed sig g e.variables e.condition ≡ Some c) ×
    (s ≡ and c (met_by g e)) =
    map_some (λ (c : Sentence). and c (met_by g e))
    (condition_renamed sig g e.variables e.condition) s is in
    let low : 0 + length us ≤ n = omega (arith, few) in
    let count : count_of (all_renamed g e.arguments) ≡ length us =
    count_renamed g e.arguments ∙ many in
    record {
      at = and w.0
          (are_in (map (renamed_name g) e.names) 0 (forest us) (all_renamed g e.arguments));
      is = ap (option_map (λ (c : Sentence). and c
          (are_in (map (renamed_name g) e.names) 0 (forest us) (all_renamed g e.arguments)))) w.1;
      becomes =
          subst (λ (t : Sentence). Becomes n qs (sentence_image sig names t)
          (sentence_image sig names (and w.0
          (are_in (map (renamed_name g) e.names) 0 (forest us) (all_renamed g e.arguments)))))
          (sym w.2)
          (becomes_both n qs logic.and (sentence_image sig names w.0) (sentence_image sig names w.0)
          (sentence_image sig names (met_by g e)) (sentence_image sig names
          (are_in (map (renamed_name g) e.names) 0 (forest us) (all_renamed g e.arguments)))
          (λ x y. refl)
          (condition_becomes sig names n qs g e.variables e.condition w.0 has.condition high w.1)
          (meets_become sig names n qs (map (renamed_name g) e.names) 0
          (all_renamed g e.arguments) us at low
          (names_above n (length e.variables) g e.names high
          (names_below (length e.variables) e.names has.names))
          (all_renamed_above sig n (length e.variables) g e.arguments high has.arguments) count));
    }

guard_turns : (sig : Signature) (names : List (List ℕ)) (n : ℕ) (qs : List Pattern) (us : List Tree)
    (k : ℕ) (order : List ℕ) (o : Option Equation) (s : Sentence) → AreAtPlaces sig names qs 0 us
    → length us ≤ n → n ≤ k
    → ((q : Equation) → o ≡ Some q → IsRepeatable sig (length us) order q)
    → guard_sentence sig k order o ≡ Some s
    → Turns sig names n qs s (guard_at sig k order (forest us) o)
guard_turns sig names n qs us k order None s at few low may is = absurd (none_some s is)
guard_turns sig names n qs us k order (Some e) s at few low may is =
    let r : IsRepeatable sig (length us) order e = may e refl in
    let w : (t : Sentence) × (premise sig (number_from k order) e ≡ Some t) ×
    (s ≡ for_some k (sorts_at e.variables order) t) =
    map_some (for_some k (sorts_at e.variables order)) (premise sig (number_from k order) e) s is in
    let inside : Turns sig names n qs w.0 (premise_at sig (number_from k order) e (forest us)) =
    premise_turns sig names n qs us (number_from k order) e w.0 at few r.premise r.many
    (λ x below. number_listed n k order x low (r.each x below)) w.1 in
    record {
      at = for_some k (sorts_at e.variables order) inside.at;
      is = ap (option_map (for_some k (sorts_at e.variables order))) inside.is;
      becomes =
          subst (λ (t : Sentence). Becomes n qs (sentence_image sig names t)
          (sentence_image sig names (for_some k (sorts_at e.variables order) inside.at)))
          (sym w.2)
          (becomes_for_some sig names n qs k (sorts_at e.variables order) w.0 inside.at
          inside.becomes);
    }

-- The sentence of the guards, with the images of terms in the place of the parameters, is their
-- sentence at the terms.
pub guards_turn : (sig : Signature) (names : List (List ℕ)) (n : ℕ) (qs : List Pattern)
    (us : List Tree) (equations : List Equation) (k : ℕ) (gs : List Guard) (s : Sentence)
    → AreAtPlaces sig names qs 0 us → length us ≤ n → n ≤ k
    → ((g : Guard) (q : Equation) → Contains gs g → slice_get equations g.equation ≡ Some q
    → IsRepeatable sig (length us) g.order q) → guards_sentence sig equations k gs ≡ Some s
    → Turns sig names n qs s (guards_at sig equations k gs (forest us))
guards_turn sig names n qs us equations k [] s at few low may is =
    record {
      at = bottom;
      is = refl;
      becomes =
          subst (λ (t : Sentence).
          Becomes n qs (sentence_image sig names t) (sentence_image sig names bottom))
          (some_same bottom s is) (becomes_bottom n qs);
    }
guards_turn sig names n qs us equations k (g ∷ gs) s at few low may is =
    let w : (a : Sentence) × (b : Sentence) ×
    (guard_sentence sig k g.order (slice_get equations g.equation) ≡ Some a) ×
    (guards_sentence sig equations (k + length g.order) gs ≡ Some b) × (s ≡ or a b) =
    both_some or (guard_sentence sig k g.order (slice_get equations g.equation))
    (guards_sentence sig equations (k + length g.order) gs) s is in
    let first : Turns sig names n qs w.0
    (guard_at sig k g.order (forest us) (slice_get equations g.equation)) =
    guard_turns sig names n qs us k g.order (slice_get equations g.equation) w.0 at few low
    (λ q there. may g q (zero, omega arith, refl) there) w.2 in
    let rest : Turns sig names n qs w.1
    (guards_at sig equations (k + length g.order) gs (forest us)) =
    guards_turn sig names n qs us equations (k + length g.order) gs w.1 at few (omega (arith, low))
    (λ h q there found. may h q (one_more h there) found) w.3 in
    record {
      at = or first.at rest.at;
      is =
          ap (λ (o : Option Sentence). both or o
          (guards_at sig equations (k + length g.order) gs (forest us))) first.is
          ∙ ap (both or (Some first.at)) rest.is;
      becomes =
          subst (λ (t : Sentence). Becomes n qs (sentence_image sig names t)
          (sentence_image sig names (or first.at rest.at))) (sym w.4)
          (becomes_both n qs logic.or (sentence_image sig names w.0)
          (sentence_image sig names first.at) (sentence_image sig names w.1)
          (sentence_image sig names rest.at) (λ x y. refl) first.becomes rest.becomes);
    }
  where
    one_more : (h : Guard) → Contains gs h → Contains (g ∷ gs) h
    one_more h (i, below, same) = (suc i, omega (arith, below), same)

-- ---- guards of accepted definitions

taken_there : {A : Type 0} (xs : List A) (i k : ℕ) (x : A) → slice_get (take i xs) k ≡ Some x
    → slice_get xs k ≡ Some x
taken_there [] zero k x there = there
taken_there [] (suc i) k x there = there
taken_there (y ∷ xs) zero k x there = absurd (none_some x there)
taken_there (y ∷ xs) (suc i) zero x there = there
taken_there (y ∷ xs) (suc i) (suc k) x there = taken_there xs i k x there

-- guards that repeat equations before their own list each variable of these
pub guards_list_each : (sig : Signature) (i : ℕ) (equations : List Equation) (e : Equation)
    (gs : List Guard) → AreGuards sig (take i equations) e gs → ListEachVariable equations gs
guards_list_each sig i equations e gs are k d low =
    let is : IsGuardAmong (take i equations) (slice_index_or gs k d) = are.each k d low in
    subst (λ (o : Option Equation). IfSome o (λ (q : Equation). (x : ℕ) → x < length q.variables
    → Contains (slice_index_or gs k d).order x))
    (sym (taken_there equations i (slice_index_or gs k d).equation is.equation is.there))
    (λ x below. (is.each x).1 below)
