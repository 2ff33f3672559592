-- Laws of the pairs of sorts: the first fault of one pair, and of pairs one after another.
use Rattle.std.proofs.Common.{◌≡◌, ℕ, ◌+◌, ◌<◌, ◌≤◌, Bool, true, false, cond, List, [], ◌∷◌, ◌++◌}
use Rattle.std.proofs.Common.{map, take, drop, get_or, Option, Some, None, refl, ap, sym, ◌∙◌}
use Rattle.std.proofs.Common.{arith, subst, inl, inr, min}
use Rattle.std.proofs.lemmas.Bool.{leb-true, le-leb}
use Rattle.std.specs.Prelude.{nat_le, length, Contains, is_some, flat_map, filter_map}
use Rattle.std.specs.List.{AllZip, cons_option}
use Rattle.std.proofs.lemmas.List.{append-nil, append_assoc, map-append}
use Rattle.std.proofs.lemmas.List.Elements.{filter_map-append}
use Rattle.std.proofs.lemmas.Grind.{flat_map-append}
use Rattle.rule_core.specs.Subsorts.{HasNoCycle}
use Rattle.rule_core.specs.declared.signature.SortInfo.{SortInfo}
use Rattle.kore_text.specs.Trees.{PatternTree, Declaration, SortTree, sort_parameter, sort_applied}
use Rattle.kore_text.specs.Trees.{listed_sorts}
use Rattle.kore_sig.specs.Declarations.{SubsortPair, pair_at, pairs_of_axiom, axiom_declared}
use Rattle.kore_sig.specs.Attributes.{subsort_sorts, subsort_pairs}
use Rattle.kore_sig.specs.FirstFault.{Fault, unless, ByNumber, IsFirstBy, Then}
use Rattle.kore_sig.specs.Noted.{first_by_number}
use Rattle.kore_sig.specs.Ordering.{FirstFrom, Passes, pairs_in}
use Rattle.kore_sig.specs.Refusals.{fault_at, Refuses}
use Rattle.kore_sig.specs.SignatureFaults.{number_faults, HasPairFault, unknown_sort, cycle}
use Rattle.kore_sig.specs.SignatureFaults.{pairs_after, with_numbers}
use Rattle.kore_sig.specs.Signatures.{IsPairOf}
use Rattle.kore_sig.specs.SortReferences.{sort_number, sort_place, declared_number}
use Rattle.kore_sig.specs.declared.faults.SigFault.{SigFault}
use Rattle.kore_sig.specs.declared.faults.SigFault.TheVariants.{Import, Duplicate, UnknownSort}
use Rattle.kore_sig.specs.declared.faults.SigFault.TheVariants.{Arity, SortParameter, SubsortCycle}
use Rattle.kore_sig.specs.declared.faults.SigFault.TheVariants.{Memory}
use Rattle.kore_sig.proofs.DeclaringLaws.{allzip_push}
use Rattle.kore_sig.proofs.ListLaws.{number_within, split_at}
use Rattle.kore_ast.specs.declared.tree.Pat.{Pat}
use Rattle.kore_ast.specs.Plain.{pattern_tree}
use Rattle.kore_sig.specs.declared.counted.Placed.{Placed}
use Rattle.kore_sig.proofs.FirstLaws.{contains_none, by_number, first_of_list}

-- ---- one pair

some_faults : (sorts : List (List ℕ × SortInfo)) (s : SortTree) (n : ℕ)
    → sort_number sorts s ≡ Some n → number_faults sorts s ≡ []
some_faults sorts s n e = ap (λ (o : Option ℕ). unless (is_some o) 6 (sort_place s)) e

none_faults : (sorts : List (List ℕ × SortInfo)) (s : SortTree) → sort_number sorts s ≡ None
    → number_faults sorts s ≡ record { number = 6; byte = sort_place s } ∷ []
none_faults sorts s e = ap (λ (o : Option ℕ). unless (is_some o) 6 (sort_place s)) e

pub both_faults : (sorts : List (List ℕ × SortInfo)) (s t : SortTree) (a b : ℕ)
    → sort_number sorts s ≡ Some a → sort_number sorts t ≡ Some b
    → number_faults sorts s ++ number_faults sorts t ≡ []
both_faults sorts s t a b e f =
    ap (λ (fs : List Fault). fs ++ number_faults sorts t) (some_faults sorts s a e)
    ∙ some_faults sorts t b f

pub lower_fault : (sorts : List (List ℕ × SortInfo)) (s t : SortTree) (b : ℕ)
    → sort_number sorts s ≡ None → sort_number sorts t ≡ Some b
    → first_by_number (number_faults sorts s ++ number_faults sorts t) ≡ fault_at 6 (sort_place s)
lower_fault sorts s t b e f =
    ap first_by_number (ap (λ (fs : List Fault). fs ++ number_faults sorts t)
    (none_faults sorts s e)
    ∙ ap (λ (fs : List Fault). record { number = 6; byte = sort_place s } ∷ fs)
    (some_faults sorts t b f))

pub upper_fault : (sorts : List (List ℕ × SortInfo)) (s t : SortTree) (a : ℕ)
    → sort_number sorts s ≡ Some a → sort_number sorts t ≡ None
    → first_by_number (number_faults sorts s ++ number_faults sorts t) ≡ fault_at 6 (sort_place t)
upper_fault sorts s t a e f =
    ap first_by_number (ap (λ (fs : List Fault). fs ++ number_faults sorts t)
    (some_faults sorts s a e) ∙ none_faults sorts t f)

two_kept : (b : Bool) (x y : ℕ) → nat_le x y ≡ b
    → cond b (fault_at 6 x) (fault_at 6 y) ≡ fault_at 6 (min x y)
two_kept true x y e =
    let le = leb-true x y e in let least : x ≡ min x y = omega arith in ap (fault_at 6) least
two_kept false x y e =
    let lt : x ≤ y → ⊥ = λ le. (let told = le-leb x y le in let never : ⊥ = cc in never) in
    let least : y ≡ min x y = omega (arith, lt) in
    ap (fault_at 6) least

of_two : (x y : ℕ)
    → first_by_number (record { number = 6; byte = x } ∷ (record { number = 6; byte = y } ∷ []))
    ≡ fault_at 6 (min x y)
of_two x y = two_kept (nat_le x y) x y refl

pub earlier_fault : (sorts : List (List ℕ × SortInfo)) (s t : SortTree) → sort_number sorts s ≡ None
    → sort_number sorts t ≡ None
    → first_by_number (number_faults sorts s ++ number_faults sorts t)
    ≡ fault_at 6 (min (sort_place s) (sort_place t))
earlier_fault sorts s t e f =
    ap first_by_number (ap (λ (fs : List Fault). fs ++ number_faults sorts t)
    (none_faults sorts s e)
    ∙ ap (λ (fs : List Fault). record { number = 6; byte = sort_place s } ∷ fs)
    (none_faults sorts t f)) ∙ of_two (sort_place s) (sort_place t)

leads_others : (sorts : List (List ℕ × SortInfo)) (before : List (ℕ × ℕ)) (p : SubsortPair)
    (byte : ℕ)
    → ((g : Fault) → Contains (number_faults sorts p.lower ++ number_faults sorts p.upper) g
    → ByNumber (record { number = 6; byte = byte }) g) → (g : Fault)
    → HasPairFault sorts before p g → ByNumber (record { number = 6; byte = byte }) g
leads_others sorts before p byte law g (unknown_sort h) = law g h
leads_others sorts before p byte law _ (cycle ea eb never) = inl (omega arith)

-- a sort of the pair is not declared
pub first_unknown_sort : (sorts : List (List ℕ × SortInfo)) (before : List (ℕ × ℕ))
    (p : SubsortPair) (byte : ℕ)
    → first_by_number (number_faults sorts p.lower ++ number_faults sorts p.upper) ≡ fault_at 6 byte
    → IsFirstBy ByNumber (HasPairFault sorts before p) (fault_at 6 byte)
first_unknown_sort sorts before p byte e =
    let fs = number_faults sorts p.lower ++ number_faults sorts p.upper in
    let law : IsFirstBy ByNumber (Contains fs) (fault_at 6 byte) =
    subst (IsFirstBy ByNumber (Contains fs)) e (first_of_list by_number fs) in
    (unknown_sort law.0, leads_others sorts before p byte law.1)

leads_cycle : (sorts : List (List ℕ × SortInfo)) (before : List (ℕ × ℕ)) (p : SubsortPair)
    → number_faults sorts p.lower ++ number_faults sorts p.upper ≡ [] → (g : Fault)
    → HasPairFault sorts before p g → ByNumber (record { number = 24; byte = p.at }) g
leads_cycle sorts before p none g (unknown_sort h) =
    absurd (contains_none g (subst (λ (fs : List Fault). Contains fs g) none h))
leads_cycle sorts before p none _ (cycle ea eb never) = inr (refl, omega arith)

pub first_cycle : (sorts : List (List ℕ × SortInfo)) (before : List (ℕ × ℕ)) (p : SubsortPair)
    (a b : ℕ) → sort_number sorts p.lower ≡ Some a → sort_number sorts p.upper ≡ Some b
    → (HasNoCycle (before ++ (a, b) ∷ []) → ⊥)
    → IsFirstBy ByNumber (HasPairFault sorts before p) (fault_at 24 p.at)
first_cycle sorts before p a b ea eb never =
    (cycle ea eb never, leads_cycle sorts before p (both_faults sorts p.lower p.upper a b ea eb))

no_pair_fault : (sorts : List (List ℕ × SortInfo)) (before : List (ℕ × ℕ)) (p : SubsortPair)
    (a b : ℕ) → sort_number sorts p.lower ≡ Some a → sort_number sorts p.upper ≡ Some b
    → HasNoCycle (before ++ (a, b) ∷ []) → (g : Fault) → HasPairFault sorts before p g → ⊥
no_pair_fault sorts before p a b ea eb fine g (unknown_sort h) =
    contains_none g
    (subst (λ (fs : List Fault). Contains fs g) (both_faults sorts p.lower p.upper a b ea eb) h)
no_pair_fault sorts before p a b ea eb fine _ (cycle {a = a'} {b = b'} ea' eb' never) =
    let left : a ≡ a' = cc in
    let right : b ≡ b' = cc in
    never (subst (λ (y : ℕ). HasNoCycle (before ++ (a', y) ∷ [])) right
    (subst (λ (x : ℕ). HasNoCycle (before ++ (x, b) ∷ [])) left fine))

-- ---- one after another

pub then_next : (P Q : Option Fault → Type 0) (r : Option Fault) → P None → Q r → Then P Q r
then_next P Q None p q = (p, q)
then_next P Q (Some f) p q = inr (p, q)

pub passes_pair : (sorts : List (List ℕ × SortInfo)) (before behind : List (ℕ × ℕ))
    (p : SubsortPair) (a b : ℕ) → sort_number sorts p.lower ≡ Some a
    → sort_number sorts p.upper ≡ Some b → HasNoCycle (before ++ (a, b) ∷ [])
    → behind ≡ before ++ (a, b) ∷ [] → Passes sorts before behind (p ∷ [])
passes_pair sorts before behind p a b ea eb fine is =
    let next : behind ≡ pairs_after sorts before p =
    is ∙ ap (λ (o : Option ℕ). with_numbers before (Some a) o) (sym eb)
    ∙ ap (λ (o : Option ℕ). with_numbers before o (sort_number sorts p.upper)) (sym ea) in
    record {
      first =
          λ rest r h. then_next (IsFirstBy ByNumber (HasPairFault sorts before p))
          (FirstFrom sorts (pairs_after sorts before p) rest) r
          (no_pair_fault sorts before p a b ea eb fine)
          (subst (λ (ns : List (ℕ × ℕ)). FirstFrom sorts ns rest r) next h);
      numbers =
          λ earlier h. subst (AllZip (IsPairOf sorts) (earlier ++ p ∷ [])) (sym is)
          (allzip_push (IsPairOf sorts) earlier before p (a, b) h
          (record { lower = ea; upper = eb }));
      no_cycle = λ h. subst HasNoCycle (sym is) fine;
    }

pub passes_none : (sorts : List (List ℕ × SortInfo)) (before : List (ℕ × ℕ))
    → Passes sorts before before []
passes_none sorts before = record {
  first = λ rest r h. h;
  numbers =
      λ earlier h. subst (λ (ps : List SubsortPair). AllZip (IsPairOf sorts) ps before)
      (sym (append-nil earlier)) h;
  no_cycle = λ h. h;
}

pub passes_then : (sorts : List (List ℕ × SortInfo)) (a b c : List (ℕ × ℕ))
    (xs ys : List SubsortPair) → Passes sorts a b xs → Passes sorts b c ys
    → Passes sorts a c (xs ++ ys)
passes_then sorts a b c xs ys h k = record {
  first =
      λ rest r f. subst (λ (ps : List SubsortPair). FirstFrom sorts a ps r)
      (sym (append_assoc xs ys rest)) (h.first (ys ++ rest) r (k.first rest r f));
  numbers =
      λ earlier z. subst (λ (ps : List SubsortPair). AllZip (IsPairOf sorts) ps c)
      (append_assoc earlier xs ys) (k.numbers (earlier ++ xs) (h.numbers earlier z));
  no_cycle = λ z. k.no_cycle (h.no_cycle z);
}

pub passes_at : (sorts : List (List ℕ × SortInfo)) (before behind behind' : List (ℕ × ℕ))
    (xs ys : List SubsortPair) → behind' ≡ behind → ys ≡ xs → Passes sorts before behind xs
    → Passes sorts before behind' ys
passes_at sorts before behind behind' xs ys e f h =
    subst (λ (ns : List (ℕ × ℕ)). Passes sorts before ns ys) (sym e)
    (subst (Passes sorts before behind) (sym f) h)

-- ---- the error

pub refuses_map : (P Q : Option Fault → Type 0) (f : SigFault) → ((r : Option Fault) → P r → Q r)
    → Refuses P f → Refuses Q f
refuses_map P Q (Import at) h p = h _ p
refuses_map P Q (Duplicate at) h p = h _ p
refuses_map P Q (UnknownSort at) h p = h _ p
refuses_map P Q (Arity at) h p = h _ p
refuses_map P Q (SortParameter at) h p = h _ p
refuses_map P Q (SubsortCycle at) h p = h _ p
refuses_map P Q Memory h p = tt

-- ---- numbers of sorts

declared_within : (sorts : List (List ℕ × SortInfo)) (name : List ℕ) (args : List SortTree) (n : ℕ)
    → declared_number sorts name args ≡ Some n → n < length sorts
declared_within sorts name [] n e = number_within sorts name n e
declared_within sorts name (s ∷ args) n e = absurd (let never : ⊥ = cc in never)

pub number_of_sort : (sorts : List (List ℕ × SortInfo)) (s : SortTree) (n : ℕ)
    → sort_number sorts s ≡ Some n → n < length sorts
number_of_sort sorts (sort_parameter at name) n e = absurd (let never : ⊥ = cc in never)
number_of_sort sorts (sort_applied at name args) n e =
    declared_within sorts name (listed_sorts args) n e

-- ---- the pairs so far, and one more item

-- the pairs of the attributes so far
pub attribute_pairs : (at : ℕ) (ps : List PatternTree) (p : PatternTree)
    → map (pair_at at) (subsort_pairs (ps ++ p ∷ []))
    ≡ map (pair_at at) (subsort_pairs ps) ++ map (pair_at at) (subsort_pairs (p ∷ []))
attribute_pairs at ps p = ap (map (pair_at at)) (filter_map-append subsort_sorts ps (p ∷ []))
    ∙ map-append (pair_at at) (subsort_pairs ps) (subsort_pairs (p ∷ []))

pub pairs_push : (ds : List Declaration) (d : Declaration)
    → pairs_in (ds ++ d ∷ []) ≡ pairs_in ds ++ pairs_in (d ∷ [])
pairs_push ds d = ap (flat_map pairs_of_axiom) (filter_map-append axiom_declared ds (d ∷ []))
    ∙ flat_map-append pairs_of_axiom (filter_map axiom_declared ds)
    (filter_map axiom_declared (d ∷ []))

-- the first fault of pairs after others that have none is the first fault of all
pub first_behind : (sorts : List (List ℕ × SortInfo)) (before behind : List (ℕ × ℕ))
    (xs : List SubsortPair) (f : SigFault) (rest : List SubsortPair)
    → Passes sorts before behind xs → Refuses (λ r. FirstFrom sorts behind rest r) f
    → Refuses (λ r. FirstFrom sorts before (xs ++ rest) r) f
first_behind sorts before behind xs f rest passes first =
    refuses_map (λ r. FirstFrom sorts behind rest r) (λ r. FirstFrom sorts before (xs ++ rest) r) f
    (λ r h. passes.first rest r h) first

-- the pairs of attributes, split at one that states a pair
pub split_pairs : (at : ℕ) (attrs : List Pat) (i : ℕ) (x : Pat) (lower upper : SortTree)
    → i < length attrs → x ≡ get_or attrs i x → Some (lower, upper) ≡ subsort_sorts (pattern_tree x)
    → map (pair_at at) (subsort_pairs (map pattern_tree attrs))
    ≡ map (pair_at at) (subsort_pairs (map pattern_tree (take i attrs)))
    ++ record { at = at; lower = lower; upper = upper }
    ∷ map (pair_at at) (subsort_pairs (map pattern_tree (drop (i + 1) attrs)))
split_pairs at attrs i x lower upper lt is e =
    let front = map pattern_tree (take i attrs) in
    let rest = map pattern_tree (drop (i + 1) attrs) in
    ap (λ (ps : List Pat). map (pair_at at) (subsort_pairs (map pattern_tree ps)))
    (split_at attrs i x lt is)
    ∙ ap (λ (ps : List PatternTree). map (pair_at at) (subsort_pairs ps))
    (map-append pattern_tree (take i attrs) (x ∷ drop (i + 1) attrs))
    ∙ ap (map (pair_at at)) (filter_map-append subsort_sorts front (pattern_tree x ∷ rest))
    ∙ map-append (pair_at at) (subsort_pairs front) (subsort_pairs (pattern_tree x ∷ rest))
    ∙ ap (λ (o : Option (SortTree × SortTree)). map (pair_at at) (subsort_pairs front)
    ++ map (pair_at at) (cons_option o (subsort_pairs rest))) (sym e)

-- the pairs of declarations, split at one of them
pub split_order : (f : Placed → Declaration) (decls : List Placed) (i : ℕ) (x : Placed)
    → i < length decls → x ≡ get_or decls i x
    → pairs_in (map f decls)
    ≡ pairs_in (map f (take i decls))
    ++ (pairs_in (f x ∷ []) ++ pairs_in (map f (drop (i + 1) decls)))
split_order f decls i x lt is =
    let front = map f (take i decls) in
    let rest = map f (drop (i + 1) decls) in
    ap (λ (ps : List Placed). pairs_in (map f ps)) (split_at decls i x lt is)
    ∙ ap pairs_in (map-append f (take i decls) (x ∷ drop (i + 1) decls))
    ∙ ap (flat_map pairs_of_axiom) (filter_map-append axiom_declared front (f x ∷ rest))
    ∙ flat_map-append pairs_of_axiom (filter_map axiom_declared front)
    (filter_map axiom_declared (f x ∷ rest))
    ∙ ap (λ ps. pairs_in front ++ ps) (ap (flat_map pairs_of_axiom)
    (filter_map-append axiom_declared (f x ∷ []) rest)
    ∙ flat_map-append pairs_of_axiom (filter_map axiom_declared (f x ∷ []))
    (filter_map axiom_declared rest))
