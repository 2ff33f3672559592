-- What symbols are used for, from the marked sorts and the equations that are not readable.
use Rattle.std.proofs.Common.{◌≡◌, ℕ, zero, suc, Bool, true, false, List, [], ◌∷◌}
use Rattle.std.proofs.Common.{map, Contains, Option, Some, None, refl, sym, ap, ◌∙◌}
use Rattle.std.proofs.Common.{subst, eq-eqb}
use Rattle.std.specs.Prelude.{◌||◌, ◌&&◌, ◌==◌, not, slice_get, option_map, flat_map}
use Rattle.std.specs.Prelude.{filter_map}
use Rattle.std.specs.List.{list_any, cons_option, AllZip}
use Rattle.std.proofs.lemmas.Bool.{eqb-true, false≢true}
use Rattle.std.proofs.lemmas.List.Folds.{list_any-append}
use Rattle.std.proofs.lemmas.Option.{slice_get_within, get_or_from_slice_get, slice_get-get_or}
use Rattle.term_core.specs.HookValues.{Kind, integers, truths, Hook, hooks, argument_kinds}
use Rattle.term_core.specs.HookValues.{result_kind}
use Rattle.term_core.specs.HookSignatures.{signature}
use Rattle.kore_text.specs.Trees.{SortTree, PatternTree, AxiomDeclaration}
use Rattle.rule_core.specs.Subsorts.{IsBelow, by_pair, by_chain}
use Rattle.rule_core.specs.Sorting.{IsSymbol}
use Rattle.rule_core.specs.HookSorts.{IsOfKind, RefersTo, ReferTo, FitsHook}
use Rattle.rule_core.specs.declared.signature.Signature.{Signature}
use Rattle.rule_core.specs.declared.signature.SortInfo.{SortInfo}
use Rattle.rule_core.specs.declared.signature.SortKind.{SortKind}
use Rattle.rule_core.specs.declared.signature.SortKind.TheVariants as kind
use Rattle.rule_core.specs.declared.signature.SortRef.{SortRef}
use Rattle.rule_core.specs.declared.signature.SortRef.TheVariants.{Param, Sort}
use Rattle.rule_core.specs.declared.signature.SymInfo.{SymInfo}
use Rattle.rule_core.specs.declared.signature.SymKind.{SymKind}
use Rattle.rule_core.specs.declared.signature.SymKind.TheVariants.{Injection, Ctor, Equations}
use Rattle.rule_core.specs.declared.signature.SymKind.TheVariants.{Hooked, Closed, NoKind}
use Rattle.kore_sig.specs.Attributes.{subsort_sorts}
use Rattle.kore_sig.specs.Declarations.{SubsortPair, pair_at, pairs_of_axiom}
use Rattle.kore_sig.specs.Signatures.{IsPairOf}
use Rattle.kore_sig.specs.SortReferences.{sort_number}
use Rattle.kore_check.specs.PatternSorts.{sort_kind}
use Rattle.kore_rules.specs.AxiomsRead.{is_marked}
use Rattle.kore_rules.specs.ScalarSorts.{is_constructor_kind, is_sort, makes, entry_makes}
use Rattle.kore_rules.specs.ScalarSorts.{is_number, upper_one, is_numbered_so, puts_below}
use Rattle.kore_rules.specs.ScalarSorts.{states_upper, has_terms, MarksTerms, is_of_kind, refers_to}
use Rattle.kore_rules.specs.ScalarSorts.{refer_to, fits_row}

-- ---- tests on lists

abbrev pub Found : {X : Type 0} → (X → Bool) → List X → Type 0
Found {X} test xs = (i : ℕ) × (x : X) × (slice_get xs i ≡ Some x) × (test x ≡ true)

found_by : {X : Type 0} (test : X → Bool) (x : X) (xs : List X) (t : Bool) → test x ≡ t
    → (t || list_any test xs) ≡ true → (list_any test xs ≡ true → Found test xs)
    → Found test (x ∷ xs)
found_by test x xs true here e rest = (0, x, refl, here)
found_by test x xs false here e rest =
    let found = rest e in (suc found.0, found.1, found.2, found.3)

pub any_found : {X : Type 0} (test : X → Bool) (xs : List X) → list_any test xs ≡ true → Found test xs
any_found test [] e = absurd (let never : ⊥ = cc in never)
any_found test (x ∷ xs) e = found_by test x xs (test x) refl e (λ h. any_found test xs h)

or_right : (a b : Bool) → b ≡ true → (a || b) ≡ true
or_right true b e = refl
or_right false b e = e

pub any_there : {X : Type 0} (test : X → Bool) (xs : List X) (i : ℕ) (x : X) → slice_get xs i ≡ Some x
    → test x ≡ true → list_any test xs ≡ true
any_there test [] i x is e = absurd (let never : ⊥ = cc in never)
any_there test (y ∷ ys) zero x is e = let same : y ≡ x = cc in rw (ap test same ∙ e) refl
any_there test (y ∷ ys) (suc i) x is e =
    or_right (test y) (list_any test ys) (any_there test ys i x is e)

both_true : (a b : Bool) → (a && b) ≡ true → (a ≡ true) × (b ≡ true)
both_true true b e = (refl, e)
both_true false b e = absurd (let never : ⊥ = cc in never)

both_from : (a b : Bool) → a ≡ true → b ≡ true → (a && b) ≡ true
both_from true b e f = f
both_from false b e f = absurd (let never : ⊥ = cc in never)

both_false : (a b : Bool) → (a || b) ≡ false → (a ≡ false) × (b ≡ false)
both_false false b e = (refl, e)
both_false true b e = absurd (let never : ⊥ = cc in never)

false_from : (b : Bool) → (b ≡ true → ⊥) → b ≡ false
false_from true never = absurd (never refl)
false_from false never = refl

neither_from : (a b : Bool) → a ≡ false → b ≡ false → (a || b) ≡ false
neither_from false b e f = f
neither_from true b e f = absurd (false≢true (sym e))

not_true : (b : Bool) → not b ≡ true → b ≡ false
not_true true e = absurd (false≢true e)
not_true false e = refl

-- ---- constructors of a sort

pub constructor_from : (k : SymKind) → is_constructor_kind k ≡ true → k ≡ Ctor
constructor_from Injection e = absurd (false≢true e)
constructor_from Ctor e = refl
constructor_from Equations e = absurd (false≢true e)
constructor_from (Hooked row) e = absurd (false≢true e)
constructor_from Closed e = absurd (false≢true e)
constructor_from NoKind e = absurd (false≢true e)

sort_from : (n : ℕ) (of : SortRef) → is_sort n of ≡ true → of ≡ Sort (record { 0 = n })
sort_from n (Param i) e = absurd (false≢true e)
sort_from n (Sort s) e = ap (λ (m : ℕ). Sort (record { 0 = m })) (sym (eqb-true n s.0 e))

makes_from : (n : ℕ) (info : SymInfo) → info.kind ≡ Ctor → info.result ≡ Sort (record { 0 = n })
    → makes n info ≡ true
makes_from n info k r =
    both_from (is_constructor_kind info.kind) (is_sort n info.result) (ap is_constructor_kind k)
    (ap (is_sort n) r ∙ eq-eqb n n refl)

no_constructor_from : (sig : Signature) (n : ℕ) → list_any (entry_makes n) sig.symbols ≡ false
    → (f : ℕ) (made : SymInfo) → IsSymbol sig f made → made.kind ≡ Ctor
    → made.result ≡ Sort (record { 0 = n }) → ⊥
no_constructor_from sig n none f made (name, there) k r =
    false≢true (sym none
    ∙ any_there (entry_makes n) sig.symbols f (name, made) there (makes_from n made k r))

none_made : (sig : Signature) (n : ℕ)
    → ((f : ℕ) (made : SymInfo) → IsSymbol sig f made → made.kind ≡ Ctor
    → made.result ≡ Sort (record { 0 = n }) → ⊥) → list_any (entry_makes n) sig.symbols ≡ false
none_made sig n never = false_from (list_any (entry_makes n) sig.symbols) (λ e.
    let found = any_found (entry_makes n) sig.symbols e in
    let info = found.1.1 in
    let parts = both_true (is_constructor_kind info.kind) (is_sort n info.result) found.3 in
    never found.0 info (found.1.0, found.2) (constructor_from info.kind parts.0)
    (sort_from n info.result parts.1))

-- ---- sorts below a sort

abbrev pair_upper : List (List ℕ × SortInfo) → ℕ → SubsortPair → Bool
pair_upper sorts n p = is_number n (sort_number sorts p.upper)

abbrev is_upper : ℕ → ℕ × ℕ → Bool
is_upper n q = n == q.1

zip_upper : (sorts : List (List ℕ × SortInfo)) (n : ℕ) (ps : List SubsortPair) (qs : List (ℕ × ℕ))
    → AllZip (IsPairOf sorts) ps qs → list_any (pair_upper sorts n) ps ≡ list_any (is_upper n) qs
zip_upper sorts n [] [] z = refl
zip_upper sorts n [] (q ∷ qs) z = absurd z
zip_upper sorts n (p ∷ ps) [] z = absurd z
zip_upper sorts n (p ∷ ps) (q ∷ qs) z =
    ap (λ (o : Option ℕ). is_number n o || list_any (pair_upper sorts n) ps) z.0.upper
    ∙ ap (λ (b : Bool). (n == q.1) || b) (zip_upper sorts n ps qs z.1)

option_upper : (sorts : List (List ℕ × SortInfo)) (n at : ℕ) (o : Option (SortTree × SortTree))
    (rest : List (SortTree × SortTree))
    → list_any (pair_upper sorts n) (map (pair_at at) (cons_option o rest))
    ≡ (is_numbered_so sorts n (upper_one o)
    || list_any (pair_upper sorts n) (map (pair_at at) rest))
option_upper sorts n at None rest = refl
option_upper sorts n at (Some p) rest = refl

stated_upper : (sorts : List (List ℕ × SortInfo)) (n at : ℕ) (attributes : List PatternTree)
    → list_any (pair_upper sorts n) (map (pair_at at) (filter_map subsort_sorts attributes))
    ≡ list_any (puts_below sorts n) attributes
stated_upper sorts n at [] = refl
stated_upper sorts n at (t ∷ ts) =
    option_upper sorts n at (subsort_sorts t) (filter_map subsort_sorts ts)
    ∙ ap (λ (b : Bool). puts_below sorts n t || b) (stated_upper sorts n at ts)

axioms_upper : (sorts : List (List ℕ × SortInfo)) (n : ℕ) (axioms : List AxiomDeclaration)
    → list_any (pair_upper sorts n) (flat_map pairs_of_axiom axioms)
    ≡ list_any (states_upper sorts n) axioms
axioms_upper sorts n [] = refl
axioms_upper sorts n (a ∷ axioms) =
    list_any-append (pair_upper sorts n) (pairs_of_axiom a) (flat_map pairs_of_axiom axioms)
    ∙ ap (λ (b : Bool). b || list_any (pair_upper sorts n) (flat_map pairs_of_axiom axioms))
    (stated_upper sorts n a.at a.attributes)
    ∙ ap (λ (b : Bool). states_upper sorts n a || b) (axioms_upper sorts n axioms)

-- the pairs of the signature are those that these axioms state
abbrev pub HasPairs : Signature → List AxiomDeclaration → Type 0
HasPairs sig axioms = AllZip (IsPairOf sig.sorts) (flat_map pairs_of_axiom axioms) sig.subsorts

upper_same : (sig : Signature) (axioms : List AxiomDeclaration) (n : ℕ) → HasPairs sig axioms
    → list_any (states_upper sig.sorts n) axioms ≡ list_any (is_upper n) sig.subsorts
upper_same sig axioms n zip = sym (axioms_upper sig.sorts n axioms)
    ∙ zip_upper sig.sorts n (flat_map pairs_of_axiom axioms) sig.subsorts zip

last_pair : (pairs : List (ℕ × ℕ)) (a b : ℕ) → IsBelow pairs a b → (x : ℕ) × Contains pairs (x, b)
last_pair pairs a b (by_pair h) = (a, h)
last_pair pairs a b (by_chain h rest) = last_pair pairs _ b rest

lowest_from : (pairs : List (ℕ × ℕ)) (n : ℕ) → list_any (is_upper n) pairs ≡ false → (a : ℕ)
    → IsBelow pairs a n → ⊥
lowest_from pairs n none a below =
    let last = last_pair pairs a n below in
    let has = last.1 in
    let there : slice_get pairs has.0 ≡ Some (last.0, n) =
    slice_get-get_or pairs has.0 (last.0, n) has.1 ∙ ap Some has.2 in
    false≢true (sym none ∙ any_there (is_upper n) pairs has.0 (last.0, n) there (eq-eqb n n refl))

none_below : (pairs : List (ℕ × ℕ)) (n : ℕ) → ((a : ℕ) → IsBelow pairs a n → ⊥)
    → list_any (is_upper n) pairs ≡ false
none_below pairs n never = false_from (list_any (is_upper n) pairs) (λ e.
    let found = any_found (is_upper n) pairs e in
    let q = found.1 in
    let has : Contains pairs q = (
      found.0,
      slice_get_within pairs found.0 q found.2,
      get_or_from_slice_get pairs found.0 q q found.2,
    ) in
    never q.0 (subst (IsBelow pairs q.0) (sym (eqb-true n q.1 found.3)) (by_pair has)))

-- ---- sorts of integers and of truth values

of_kind_from : (k : Kind) (info : SortInfo) (m : SortKind) → info.kind ≡ m
    → is_of_kind k (Some m) ≡ true → IsOfKind k info
of_kind_from integers info kind.Int is e = is
of_kind_from integers info kind.Bool is e = absurd (false≢true e)
of_kind_from integers info kind.Map is e = absurd (false≢true e)
of_kind_from integers info kind.Other is e = absurd (false≢true e)
of_kind_from truths info kind.Int is e = absurd (false≢true e)
of_kind_from truths info kind.Bool is e = is
of_kind_from truths info kind.Map is e = absurd (false≢true e)
of_kind_from truths info kind.Other is e = absurd (false≢true e)

of_kind_true : (k : Kind) (info : SortInfo) → IsOfKind k info → is_of_kind k (Some info.kind) ≡ true
of_kind_true integers info is = ap (λ (m : SortKind). is_of_kind integers (Some m)) is
of_kind_true truths info is = ap (λ (m : SortKind). is_of_kind truths (Some m)) is

kind_there : (k : Kind) (o : Option (List ℕ × SortInfo))
    → is_of_kind k (option_map (λ (e : List ℕ × SortInfo). e.1.kind) o) ≡ true
    → (e : List ℕ × SortInfo) × (o ≡ Some e) × IsOfKind k e.1
kind_there integers None e = absurd (false≢true e)
kind_there truths None e = absurd (false≢true e)
kind_there k (Some s) e = (s, refl, of_kind_from k s.1 s.1.kind refl e)

refers_true : (sig : Signature) (axioms : List AxiomDeclaration) (marks : List Bool)
    → HasPairs sig axioms → MarksTerms sig axioms marks → (k : Kind) (of : SortRef)
    → refers_to sig marks k of ≡ true → RefersTo sig k of
refers_true sig axioms marks zip is k (Param i) e = absurd (false≢true e)
refers_true sig axioms marks zip is k (Sort s) e =
    let parts = both_true (is_of_kind k (sort_kind sig s.0)) (not (is_marked marks s.0)) e in
    let there = kind_there k (slice_get sig.sorts s.0) parts.0 in
    let unmarked : has_terms sig axioms s.0 ≡ false =
    sym (is s.0) ∙ not_true (is_marked marks s.0) parts.1 in
    let none =
    both_false (list_any (entry_makes s.0) sig.symbols)
    (list_any (states_upper sig.sorts s.0) axioms) unmarked in (
      s.0,
      refl,
      record {
        name = there.0.0;
        info = there.0.1;
        there = there.1;
        of_kind = there.2;
        no_constructor = no_constructor_from sig s.0 none.0;
        lowest = lowest_from sig.subsorts s.0 (sym (upper_same sig axioms s.0 zip) ∙ none.1);
      },
    )

refers_from : (sig : Signature) (axioms : List AxiomDeclaration) (marks : List Bool)
    → HasPairs sig axioms → MarksTerms sig axioms marks → (k : Kind) (of : SortRef)
    → RefersTo sig k of → refers_to sig marks k of ≡ true
refers_from sig axioms marks zip is k of (n, same, s) =
    let kind_is : sort_kind sig n ≡ Some s.info.kind =
    ap (option_map (λ (e : List ℕ × SortInfo). e.1.kind)) s.there in
    let none : has_terms sig axioms n ≡ false =
    neither_from (list_any (entry_makes n) sig.symbols) (list_any (states_upper sig.sorts n) axioms)
    (none_made sig n s.no_constructor)
    (upper_same sig axioms n zip ∙ none_below sig.subsorts n s.lowest) in
    ap (refers_to sig marks k) same
    ∙ both_from (is_of_kind k (sort_kind sig n)) (not (is_marked marks n))
    (ap (is_of_kind k) kind_is ∙ of_kind_true k s.info s.of_kind) (ap not (is n ∙ none))

refer_true : (sig : Signature) (axioms : List AxiomDeclaration) (marks : List Bool)
    → HasPairs sig axioms → MarksTerms sig axioms marks → (ks : List Kind) (refs : List SortRef)
    → refer_to sig marks ks refs ≡ true → ReferTo sig ks refs
refer_true sig axioms marks zip is [] [] e = tt
refer_true sig axioms marks zip is [] (of ∷ refs) e = absurd (false≢true e)
refer_true sig axioms marks zip is (k ∷ ks) [] e = absurd (false≢true e)
refer_true sig axioms marks zip is (k ∷ ks) (of ∷ refs) e =
    let parts = both_true (refers_to sig marks k of) (refer_to sig marks ks refs) e in (
      refers_true sig axioms marks zip is k of parts.0,
      refer_true sig axioms marks zip is ks refs parts.1,
    )

refer_from : (sig : Signature) (axioms : List AxiomDeclaration) (marks : List Bool)
    → HasPairs sig axioms → MarksTerms sig axioms marks → (ks : List Kind) (refs : List SortRef)
    → ReferTo sig ks refs → refer_to sig marks ks refs ≡ true
refer_from sig axioms marks zip is [] [] r = refl
refer_from sig axioms marks zip is [] (of ∷ refs) r = absurd r
refer_from sig axioms marks zip is (k ∷ ks) [] r = absurd r
refer_from sig axioms marks zip is (k ∷ ks) (of ∷ refs) r =
    both_from (refers_to sig marks k of) (refer_to sig marks ks refs)
    (refers_from sig axioms marks zip is k of r.0)
    (refer_from sig axioms marks zip is ks refs r.1)

-- ---- hooks

pub fits_true : (sig : Signature) (axioms : List AxiomDeclaration) (marks : List Bool)
    → HasPairs sig axioms → MarksTerms sig axioms marks → (info : SymInfo) (row : ℕ) (h : Hook)
    → slice_get hooks row ≡ Some h → fits_row sig marks (signature h) info ≡ true
    → FitsHook sig row info
fits_true sig axioms marks zip is info row h there e =
    let arguments = argument_kinds h.operation in
    let result = result_kind h.operation in
    let first =
    both_true (info.params == 0)
    (refer_to sig marks arguments info.args.items && refers_to sig marks result info.result)
    e in
    let rest =
    both_true (refer_to sig marks arguments info.args.items)
    (refers_to sig marks result info.result) first.1 in
    record {
      hook = h;
      there = there;
      plain = eqb-true info.params 0 first.0;
      arguments = refer_true sig axioms marks zip is arguments info.args.items rest.0;
      result = refers_true sig axioms marks zip is result info.result rest.1;
    }

some_same : {A : Type 0} (x y : A) → Some x ≡ Some y → x ≡ y
some_same x y e = cc

pub fits_from : (sig : Signature) (axioms : List AxiomDeclaration) (marks : List Bool)
    → HasPairs sig axioms → MarksTerms sig axioms marks → (info : SymInfo) (row : ℕ) (h : Hook)
    → slice_get hooks row ≡ Some h → FitsHook sig row info
    → fits_row sig marks (signature h) info ≡ true
fits_from sig axioms marks zip is info row h there fits =
    let same : fits.hook ≡ h = some_same fits.hook h (sym fits.there ∙ there) in
    let arguments = argument_kinds h.operation in
    let result = result_kind h.operation in
    both_from (info.params == 0)
    (refer_to sig marks arguments info.args.items && refers_to sig marks result info.result)
    (eq-eqb info.params 0 fits.plain)
    (both_from (refer_to sig marks arguments info.args.items)
    (refers_to sig marks result info.result)
    (refer_from sig axioms marks zip is arguments info.args.items (subst
    (λ (g : Hook). ReferTo sig (argument_kinds g.operation) info.args.items) same
    fits.arguments))
    (refers_from sig axioms marks zip is result info.result (subst
    (λ (g : Hook). RefersTo sig (result_kind g.operation) info.result) same fits.result)))
