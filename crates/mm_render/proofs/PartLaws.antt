-- Parts on a stack.
use Rattle.std.proofs.Common.{◌≡◌, ℕ, ◌+◌, ◌*◌, ◌<◌, ◌≤◌, List, [], ◌∷◌, ◌++◌, length, map, refl}
use Rattle.std.proofs.Common.{ap, ◌∙◌, sym, subst, append_assoc, append-nil, arith, length-append}
use Rattle.std.specs.Borrow.{Bor}
use Rattle.std.proofs.Common.{take, Result, Ok, Err}
use Rattle.std.specs.Prelude.{OnOk}
use Rattle.std.proofs.lemmas.List.{length-map, map-append}
use Rattle.mm_text.specs.Bytes.{Token}
use Rattle.mm_database.specs.Proofs.{ProofTree}
use Rattle.proof_nodes.specs.Tables.{with_cited}
use Rattle.ml_pat.specs.Patterns.{Pattern}
use Rattle.ml_kernel.specs.Rules.{Instance, label}
use Rattle.ml_kernel.specs.Theorems.{Derivation, Derivations, own_axiom, by_rule, cited}
use Rattle.ml_kernel.specs.Theorems.{no_derivation, more_derivations, derivations}
use Rattle.ml_kernel.specs.StepsIn.{steps_in, all_steps}
use Rattle.ml_kernel.specs.declared.rules.Rule.{Rule}
use Rattle.mm_proof.specs.Derivations.{derivation_tree}
use Rattle.mm_proof.specs.Labels.{own_labels}
use Rattle.mm_proof.specs.Listings.{Listing, trees_of, Builds}
use Rattle.mm_proof.specs.Trees.{cite, instance_tree, rule_tree, trees_before, trees_after}
use Rattle.mm_proof.specs.Writing.{label_token, goal_tree}
use Rattle.mm_proof.specs.declared.words.Label.{Label}
use Rattle.mm_proof.specs.declared.works.Goal.{Goal}
use Rattle.mm_proof.proofs.Stacking.{cited_exactly}
use Rattle.mm_claims.specs.Blocks.{Stated}
use Rattle.mm_claims.specs.CitedAt.{claim_tree, variable_tree}
use Rattle.mm_render.specs.declared.places.StatementContext.{StatementContext}
use Rattle.mm_render.specs.VariablesView.{plain_variables, variable_of}
use Rattle.mm_render.specs.declared.variables.Variable.{Variable}
use Rattle.mm_render.proofs.HeadTexts.{plain_variables-push}
use Rattle.mm_render.specs.declared.derivations.Part.{Part}
use Rattle.mm_render.specs.declared.derivations.Part.TheVariants as part
use Rattle.mm_render.specs.Parts.{citing_in, proof_by, proofs_by, before_part, before_parts, Leads}
use Rattle.mm_render.specs.Parts.{part_weight, parts_weight, PutsTrees, PutsOver, PartIsTaken}
use Rattle.mm_render.specs.Parts.{StepIsTaken, value_trees}

-- the part on top is done first

popped : (k : ℕ) (at : StatementContext) (ps : List Part) (p : Part)
    (after : List ProofTree → Type 0) (ts : List ProofTree)
    → before_parts k at (ps ++ p ∷ []) after ts
    → before_part k at p (before_parts k at ps after) ts
popped k at [] p after ts h = h
popped k at (q ∷ ps) p after ts h = popped k at ps p (before_part k at q after) ts h

pushed : (k : ℕ) (at : StatementContext) (ps : List Part) (p : Part)
    (after : List ProofTree → Type 0) (ts : List ProofTree)
    → before_part k at p (before_parts k at ps after) ts
    → before_parts k at (ps ++ p ∷ []) after ts
pushed k at [] p after ts h = h
pushed k at (q ∷ ps) p after ts h = pushed k at ps p (before_part k at q after) ts h

parts_weight-push : (ps : List Part) (p : Part)
    → parts_weight (ps ++ p ∷ []) ≡ parts_weight ps + part_weight p
parts_weight-push [] p = omega arith
parts_weight-push (q ∷ ps) p = omega (arith, parts_weight-push ps p)

-- derivations on a stack

pub put_none : (old : List Part)
    → PutsTrees (λ k at. proofs_by k at (derivations [])) (3 * all_steps (derivations [])) old old
put_none old = record {
  builds = λ k at ts last h.
      subst (λ (us : List ProofTree). Leads k at old us last) (append-nil ts) h;
  weight = omega arith;
}

pub put_more : (d : Bor Derivation) (put : List Derivation) (old mid new : List Part)
    → PutsTrees (λ k at. proofs_by k at (derivations put)) (3 * all_steps (derivations put)) old mid
    → new ≡ mid ++ part.Derived d ∷ []
    → PutsTrees (λ k at. proofs_by k at (derivations (d.now ∷ put)))
    (3 * all_steps (derivations (d.now ∷ put))) old new
put_more d put old mid new w is = record {
  builds = λ k at ts last h.
      subst (λ (ps : List Part). Leads k at ps ts last) (sym is)
      (pushed k at mid (part.Derived d) (λ us. us ≡ last) ts
      (w.builds k at (ts ++ proof_by k at d.now ∷ []) last
      (subst (λ (us : List ProofTree). Leads k at old us last)
      (sym (append_assoc ts (proof_by k at d.now ∷ []) (proofs_by k at (derivations put)))) h)));
  weight =
      let e : parts_weight new ≡ parts_weight mid + part_weight (part.Derived d) =
      ap parts_weight is ∙ parts_weight-push mid (part.Derived d) in
      omega (arith, e, w.weight);
}

-- one goal

pub one_goal : (g : Goal) (trees : ℕ → StatementContext → List ProofTree) (old new : List Part)
    → ((k : ℕ) (at : StatementContext) → trees k at ≡ goal_tree k g ∷ [])
    → new ≡ old ++ part.Goal g ∷ [] → PutsTrees trees 1 old new
one_goal g trees old new same is = record {
  builds = λ k at ts last h.
      subst (λ (ps : List Part). Leads k at ps ts last) (sym is)
      (pushed k at old (part.Goal g) (λ us. us ≡ last) ts
      (subst (λ (us : List ProofTree). Leads k at old (ts ++ us) last) (same k at) h));
  weight =
      let e : parts_weight new ≡ parts_weight old + 1 =
      ap parts_weight is ∙ parts_weight-push old (part.Goal g) in
      omega (arith, e);
}

-- a label over trees that are there, and over the trees of what was put above it

length-proofs : (k : ℕ) (at : StatementContext) (ds : List Derivation)
    → length (proofs_by k at (derivations ds)) ≡ length ds
length-proofs k at [] = refl
length-proofs k at (d ∷ ds) = omega (arith, length-proofs k at ds)

over : (k : ℕ) (at : StatementContext) (l : Label) (n : ℕ) (front above : List ProofTree)
    (old mid new : List Part) (ts last : List ProofTree) → mid ≡ old ++ part.Cite l n ∷ []
    → n ≡ length (front ++ above)
    → (Leads k at mid ((ts ++ front) ++ above) last → Leads k at new (ts ++ front) last)
    → Leads k at old (ts ++ cite (label_token k l) (front ++ above) ∷ []) last
    → Leads k at new (ts ++ front) last
over k at l n front above old mid new ts last is count rest h =
    rest (subst (λ (ps : List Part). Leads k at ps ((ts ++ front) ++ above) last) (sym is)
    (pushed k at old (part.Cite l n) (λ us. us ≡ last) ((ts ++ front) ++ above)
    (subst (λ (us : List ProofTree). Leads k at old us last)
    (sym (ap (with_cited (label_token k l) n) (append_assoc ts front above)
    ∙ cited_exactly (label_token k l) n ts (front ++ above) count)) h)))

pub put_citation : (n : ℕ) (c : Stated) (xs : List ℕ) (ms : List Pattern) (ds : List Derivation)
    (l : Label) (old mid new : List Part)
    → ((k : ℕ) (at : StatementContext)
    → cite (label_token k l) (value_trees k xs ms c.claim.variables
    ++ proofs_by k at (derivations ds))
    ≡ claim_tree (own_labels k) c xs ms (proofs_by k at (derivations ds)))
    → n ≡ length c.claim.variables + length ds → mid ≡ old ++ part.Cite l n ∷ []
    → PutsTrees (λ k at. proofs_by k at (derivations ds)) (3 * all_steps (derivations ds)) mid new
    → PutsOver (λ k at. value_trees k xs ms c.claim.variables)
    (λ k at. claim_tree (own_labels k) c xs ms (proofs_by k at (derivations ds)))
    (3 * all_steps (derivations ds) + 1) old new
put_citation n c xs ms ds l old mid new same count is above = record {
  builds = λ k at ts last h.
      over k at l n (value_trees k xs ms c.claim.variables) (proofs_by k at (derivations ds)) old
      mid new ts last is
      (omega (
        arith,
        count,
        length-map c.claim.variables (variable_tree (own_labels k) xs ms),
        length-proofs k at ds,
        length-append (value_trees k xs ms c.claim.variables)
            (proofs_by k at (derivations ds)),
      ))
      (above.builds k at (ts ++ value_trees k xs ms c.claim.variables) last)
      (subst (λ (t : ProofTree). Leads k at old (ts ++ t ∷ []) last) (sym (same k at)) h);
  weight =
      let e : parts_weight mid ≡ parts_weight old + 1 =
      ap parts_weight is ∙ parts_weight-push old (part.Cite l n) in
      omega (arith, e, above.weight);
}

-- the trees of a rule: those in front of its premises, and those of its premises and behind them
abbrev rule_front : Rule → List Instance → ℕ → List ProofTree
rule_front r is k =
    map (instance_tree (own_labels k)) is ++ trees_before (own_labels k) r is

abbrev rule_above : Rule → List Instance → List Derivation → ℕ → StatementContext → List ProofTree
rule_above r is ds k at =
    proofs_by k at (derivations ds) ++ trees_after (own_labels k) r is

pub put_over_rule : (r : Rule) (is : List Instance) (ds : List Derivation) (l : Label) (n : ℕ)
    (old first mid new : List Part) → ((k : ℕ) → label_token k l ≡ label r)
    → ((k : ℕ) (at : StatementContext)
    → n ≡ length (rule_front r is k ++ rule_above r is ds k at))
    → first ≡ old ++ part.Cite l n ∷ []
    → PutsTrees (λ k at. trees_after (own_labels k) r is) 1 first mid
    → PutsTrees (λ k at. proofs_by k at (derivations ds)) (3 * all_steps (derivations ds)) mid new
    → PutsOver (λ k at. map (instance_tree (own_labels k)) is ++ trees_before (own_labels k) r is)
    (λ k at. rule_tree (own_labels k) r is (proofs_by k at (derivations ds)))
    (3 * all_steps (derivations ds) + 2) old new
put_over_rule r is ds l n old first mid new named count pushed_first behind above = record {
  builds = λ k at ts last h.
      let front : List ProofTree = rule_front r is k in
      let proofs : List ProofTree = proofs_by k at (derivations ds) in
      let after : List ProofTree = trees_after (own_labels k) r is in
      over k at l n front (proofs ++ after) old first new ts last pushed_first (count k at)
      (λ h'. above.builds k at (ts ++ front) last
      (behind.builds k at ((ts ++ front) ++ proofs) last
      (subst (λ (us : List ProofTree). Leads k at first us last)
      (sym (append_assoc (ts ++ front) proofs after)) h')))
      (subst (λ (t : ProofTree). Leads k at old (ts ++ t ∷ []) last)
      (sym (ap (λ (t : Token). cite t (front ++ (proofs ++ after))) (named k)
      ∙ ap (cite (label r)) (append_assoc (map (instance_tree (own_labels k)) is)
      (trees_before (own_labels k) r is) (proofs ++ after)))) h);
  weight =
      let e : parts_weight first ≡ parts_weight old + 1 =
      ap parts_weight pushed_first ∙ parts_weight-push old (part.Cite l n) in
      omega (arith, e, behind.weight, above.weight);
}

pub rule_count : (r : Rule) (is : List Instance) (ds : List Derivation) (few : ℕ) (k : ℕ)
    (at : StatementContext)
    → few ≡ length (trees_before (own_labels k) r is) + length (trees_after (own_labels k) r is)
    → length is + few + length ds ≡ length (rule_front r is k ++ rule_above r is ds k at)
rule_count r is ds few k at judged =
    omega (
      arith,
      judged,
      length-map is (instance_tree (own_labels k)),
      length-proofs k at ds,
      length-append (rule_front r is k) (rule_above r is ds k at),
      length-append (map (instance_tree (own_labels k)) is) (trees_before (own_labels k) r is),
      length-append (proofs_by k at (derivations ds)) (trees_after (own_labels k) r is),
    )

-- what was built, one after another

pub builds_both : (f g : ℕ → List ProofTree) (old mid new : Listing) → Builds f old mid
    → Builds g mid new → Builds (λ k. f k ++ g k) old new
builds_both f g old mid new first second = (
  second.0 ∙ first.0,
  second.1 ∙ ap (λ (k : ℕ). trees_of mid ++ g k) first.0
      ∙ ap (λ (us : List ProofTree). us ++ g old.serial) first.1
      ∙ append_assoc (trees_of old) (f old.serial) (g old.serial),
)

pub builds_same : (f g : ℕ → List ProofTree) (old new : Listing) → ((k : ℕ) → f k ≡ g k)
    → Builds f old new → Builds g old new
builds_same f g old new same built =
    (built.0, built.1 ∙ ap (λ (us : List ProofTree). trees_of old ++ us) (same old.serial))

pub more_values : (xs : List ℕ) (ms : List Pattern) (all : List Variable) (i : ℕ) (v : Variable)
    (start old new : Listing)
    → Builds (λ k. value_trees k xs ms (plain_variables (take i all))) start old
    → Builds (λ k. value_trees k xs ms (variable_of v ∷ [])) old new
    → take (i + 1) all ≡ take i all ++ v ∷ []
    → Builds (λ k. value_trees k xs ms (plain_variables (take (i + 1) all))) start new
more_values xs ms all i v start old new before built is =
    builds_same (λ k. value_trees k xs ms (plain_variables (take i all))
    ++ value_trees k xs ms (variable_of v ∷ []))
    (λ k. value_trees k xs ms (plain_variables (take (i + 1) all))) start new
    (λ k. sym (ap (λ (us : List Variable). value_trees k xs ms (plain_variables us)) is
    ∙ ap (value_trees k xs ms) (plain_variables-push (take i all) v)
    ∙ map-append (variable_tree (own_labels k) xs ms) (plain_variables (take i all))
    (variable_of v ∷ [])))
    (builds_both (λ k. value_trees k xs ms (plain_variables (take i all)))
    (λ k. value_trees k xs ms (variable_of v ∷ [])) start old new before built)

pub both_ok : {A E : Type 0} {P Q R : Type 0} (r : Result A E) → (P → Q → R) → OnOk r P → OnOk r Q
    → OnOk r R
both_ok (Ok a) f p q = f p q
both_ok (Err e) f p q = tt

-- a step

pub step_built : (at : StatementContext) (d : Derivation) (stack : List Part) (old new : Listing)
    → Builds (λ k. proof_by k at d ∷ []) old new → 0 < 3 * steps_in d
    → StepIsTaken at d stack stack old new
step_built at d stack old new built heavy = record {
  serial = built.0;
  builds = λ last h.
      subst (λ (us : List ProofTree). Leads old.serial at stack us last) (sym built.1) h;
  weight = omega (arith, heavy);
}

pub step_split : (at : StatementContext) (d : Derivation) (front : ℕ → List ProofTree)
    (whole : ℕ → StatementContext → ProofTree) (more : ℕ) (stack new : List Part)
    (table table' : Listing) → Builds front table table'
    → PutsOver (λ k at. front k) whole more stack new
    → ((k : ℕ) → whole k at ≡ proof_by k at d) → more < 3 * steps_in d
    → StepIsTaken at d stack new table table'
step_split at d front whole more stack new table table' built puts same heavy = record {
  serial = built.0;
  builds = λ last h.
      let k : ℕ = table.serial in
      subst (λ (us : List ProofTree). Leads k at new us last) (sym built.1)
      (puts.builds k at (trees_of table) last
      (subst (λ (t : ProofTree). Leads k at stack (trees_of table ++ t ∷ []) last)
      (sym (same k)) h));
  weight = omega (arith, heavy, puts.weight);
}

-- a part

pub part_goal : (at : StatementContext) (g : Goal) (stack : List Part) (old new : Listing)
    → Builds (λ k. goal_tree k g ∷ []) old new → PartIsTaken at (part.Goal g) stack stack old new
part_goal at g stack old new built = record {
  serial = built.0;
  builds = λ last h.
      subst (λ (us : List ProofTree). Leads old.serial at stack us last) (sym built.1) h;
  weight = omega arith;
}

pub part_cite : (at : StatementContext) (l : Label) (n : ℕ) (stack : List Part)
    (old new : Listing) → new.serial ≡ old.serial
    → trees_of new ≡ with_cited (label_token old.serial l) n (trees_of old)
    → PartIsTaken at (part.Cite l n) stack stack old new
part_cite at l n stack old new serial trees = record {
  serial = serial;
  builds = λ last h.
      subst (λ (us : List ProofTree). Leads old.serial at stack us last) (sym trees) h;
  weight = omega arith;
}

pub part_derived : (at : StatementContext) (d : Bor Derivation) (stack new : List Part)
    (table table' : Listing) → StepIsTaken at d.now stack new table table'
    → PartIsTaken at (part.Derived d) stack new table table'
part_derived at d stack new table table' w =
    record { serial = w.serial; builds = w.builds; weight = w.weight }

-- what is left to be done after one part

pub left_next : (at : StatementContext) (p : Part) (before stack new : List Part)
    (table table' : Listing) (last : List ProofTree) → before ≡ stack ++ p ∷ []
    → PartIsTaken at p stack new table table' → Leads table.serial at before (trees_of table) last
    → Leads table'.serial at new (trees_of table') last
left_next at p before stack new table table' last is taken h =
    subst (λ (k : ℕ). Leads k at new (trees_of table') last) (sym taken.serial)
    (taken.builds last
    (popped table.serial at stack p (λ us. us ≡ last) (trees_of table)
    (subst (λ (ps : List Part). Leads table.serial at ps (trees_of table) last) is h)))

pub left_smaller : (at : StatementContext) (p : Part) (before stack new : List Part)
    (table table' : Listing) → before ≡ stack ++ p ∷ [] → PartIsTaken at p stack new table table'
    → parts_weight new < parts_weight before
left_smaller at p before stack new table table' is taken =
    let e : parts_weight before ≡ parts_weight stack + part_weight p =
    ap parts_weight is ∙ parts_weight-push stack p in
    omega (arith, e, taken.weight)
