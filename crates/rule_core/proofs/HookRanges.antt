-- The hooks of well-sorted theories have values at well-sorted terms, or a reason why they have
-- none, and the values are in range.
use Rattle.std.proofs.Common.{◌≡◌, ℕ, suc, zero, ◌-◌, ◌/◌, ◌%◌, ◌^◌, ◌<◌, ◌≤◌, ◌⊎◌, inl, inr}
use Rattle.std.proofs.Common.{⊎_elim, ℤ, pos, negsuc, Bool, true, false, cond, leb, leb→le, le→leb}
use Rattle.std.proofs.Common.{List, [], ◌∷◌, Some, None, refl, sym, ◌∙◌, ap, subst, slice_get}
use Rattle.std.proofs.Common.{arith}
use Rattle.std.specs.Prelude.{bit_and, int_rem, int_div, ◌-ℤ◌, ◌+ℤ◌, ◌*ℤ◌, int_le, int_lt, ◌&&◌}
use Rattle.std.specs.Prelude.{Result, Ok, Err, unsigned_abs, if◌then◌else◌}
use Rattle.std.specs.Int.{int_min, int_max, int_div_euclid, int_rem_euclid}
use Rattle.std.specs.Int.Signed.{mag, mag_rem}
use Rattle.std.specs.Ordering.{int_eq}
use Rattle.std.proofs.Math.Nat.{div-le_self, mod-le}
use Rattle.std.proofs.lemmas.Bool.{false≢true, le-leb}
use Rattle.std.proofs.lemmas.Bool.Decides.{leb_tells}
use Rattle.std.proofs.lemmas.Nat.{and_le_l, or_lt, xor_lt}
use Rattle.term_core.specs.Terms.{Tree, leaf, node, inj, Forest, no_tree, more_trees, DomainValue}
use Rattle.term_core.specs.Terms.{integer, truth, text}
use Rattle.term_core.specs.HookValues.{is_in_range, in_range, complement, bitwise_and, bitwise_or}
use Rattle.term_core.specs.HookValues.{bitwise_xor, Operation, on_integer, on_integers, compares}
use Rattle.term_core.specs.HookValues.{on_truth, on_truths, Hook, hooks, Kind, integers, truths}
use Rattle.term_core.specs.HookValues.{argument_kinds, result_kind, operation_value, outcome}
use Rattle.term_core.specs.HookValues.{value_by, hook_value}
use Rattle.term_core.specs.declared.values.NoValue.{NoValue}
use Rattle.term_core.specs.declared.values.NoValue.TheVariants.{ZeroDivisor, NegativeShift, Range}
use Rattle.rule_core.specs.Subsorts.{IsBelow}
use Rattle.rule_core.specs.Sorting.{IsValueOf, HasValue, IsTermOf, sort_at}
use Rattle.rule_core.specs.MatchLaws.{AreTermsOf}
use Rattle.rule_core.specs.HookSorts.{FitsHook, IsOfKind, IsSortOf, RefersTo, ReferTo}
use Rattle.rule_core.specs.HookCalls.{AreValues, HookAnswers, HookFails}
use Rattle.rule_core.specs.declared.signature.Signature.{Signature}
use Rattle.rule_core.specs.declared.signature.SortInfo.{SortInfo}
use Rattle.rule_core.specs.declared.signature.SortKind.TheVariants as sort_kind
use Rattle.rule_core.specs.declared.signature.SortRef.{SortRef}
use Rattle.rule_core.specs.declared.signature.SortRef.TheVariants.{Param, Sort}
use Rattle.rule_core.specs.declared.signature.SymInfo.{SymInfo}
use Rattle.rule_core.specs.declared.signature.SymKind.TheVariants.{Hooked}
use Rattle.rule_core.proofs.Belows.{both_true}

-- ---- whole numbers

-- the number has k bits and a sign
abbrev IsShort : ℕ → ℤ → Type 0
IsShort k z = mag z < 2 ^ k

short_from : (k : ℕ) (z w : ℤ) → mag z ≤ mag w → IsShort k w → IsShort k z
short_from k z w le lt = omega arith

chosen : (b : Bool) (z : ℤ) (why : NoValue) (r : ℤ)
    → ◌≡◌ {A = Result ℤ NoValue} (if b then Ok z else Err why) (Ok r) → (b ≡ true) × (z ≡ r)
chosen true z why r e = let k : ◌≡◌ {A = Result ℤ NoValue} (Ok z) (Ok r) = e in (refl, cc)
chosen false z why r e =
    let k : ◌≡◌ {A = Result ℤ NoValue} (Err why) (Ok r) = e in let no : ⊥ = cc in absurd no

otherwise : (b : Bool) (x : Result ℤ NoValue) (why : NoValue) (r : ℤ)
    → ◌≡◌ {A = Result ℤ NoValue} (if b then Err why else x) (Ok r) → x ≡ Ok r
otherwise true x why r e =
    let k : ◌≡◌ {A = Result ℤ NoValue} (Err why) (Ok r) = e in let no : ⊥ = cc in absurd no
otherwise false x why r e = e

no_more : (m n : ℕ) → leb m n ≡ true → m ≤ n
no_more m n e =
    ⊎_elim (λ (yes : (leb m n ≡ true) × (m ≤ n)). yes.1)
    (λ (other : (leb m n ≡ false) × (n < m)). absurd (false≢true (sym other.0 ∙ e)))
    (leb_tells m n)

tested_short : (z : ℤ) → is_in_range z ≡ true → IsShort 127 z
tested_short (pos n) e = no_more (suc n) (2 ^ 127) e
tested_short (negsuc n) e =
    let le : n ≤ 2 ^ 127 - 1 = no_more n (2 ^ 127 - 1) (both_true _ _ e).0 in omega arith

ranged : (z r : ℤ) → in_range z ≡ Ok r → IsShort 127 r
ranged z r e =
    let d = chosen (is_in_range z) z Range r e in
    subst (IsShort 127) d.1 (tested_short z d.0)

rem_short : (x y : ℤ) → mag (int_rem x y) ≤ mag x
rem_short x y = mag_rem x y

chosen_short : (k : ℕ) (b : Bool) (x y : ℤ) → IsShort k x → IsShort k y → IsShort k (cond b x y)
chosen_short k true x y sx sy = sx
chosen_short k false x y sx sy = sy

remainder_short : (k : ℕ) (x y : ℤ) → IsShort k x → IsShort k y → IsShort k (int_rem_euclid x y)
remainder_short k (pos a) y sx sy =
    let le : a % unsigned_abs y ≤ a = mod-le a (unsigned_abs y) in omega arith
remainder_short k (negsuc a) (pos b) sx sy = omega arith
remainder_short k (negsuc a) (negsuc b) sx sy = omega arith

shifted_short : (k : ℕ) (x : ℤ) (m : ℕ) → IsShort k x → IsShort k (int_div_euclid x (pos m))
shifted_short k (pos a) m sx = let le : a / m ≤ a = div-le_self a m in omega arith
shifted_short k (negsuc a) m sx = let le : a / m ≤ a = div-le_self a m in omega arith

complement_short : (k : ℕ) (x : ℤ) → IsShort k x → IsShort k (complement x)
complement_short k (pos n) s = s
complement_short k (negsuc n) s = s

and_short : (k : ℕ) (x y : ℤ) → IsShort k x → IsShort k y → IsShort k (bitwise_and x y)
and_short k (pos m) (pos n) sx sy = let le : bit_and m n ≤ m = and_le_l m n in omega arith
and_short k (pos m) (negsuc n) sx sy = omega arith
and_short k (negsuc m) (pos n) sx sy = omega arith
and_short k (negsuc m) (negsuc n) sx sy = or_lt k m n sx sy

or_short : (k : ℕ) (x y : ℤ) → IsShort k x → IsShort k y → IsShort k (bitwise_or x y)
or_short k x y sx sy =
    complement_short k (bitwise_and (complement x) (complement y)) (and_short k (complement x)
    (complement y) (complement_short k x sx) (complement_short k y sy))

xor_short : (k : ℕ) (x y : ℤ) → IsShort k x → IsShort k y → IsShort k (bitwise_xor x y)
xor_short k (pos m) (pos n) sx sy = xor_lt k m n sx sy
xor_short k (pos m) (negsuc n) sx sy = xor_lt k m n sx sy
xor_short k (negsuc m) (pos n) sx sy = xor_lt k m n sx sy
xor_short k (negsuc m) (negsuc n) sx sy = xor_lt k m n sx sy

-- ---- the table

-- the results of an operation are in range if its arguments are in range
abbrev KeepsRange : Operation → Type 0
KeepsRange (on_integer f) = (x r : ℤ) → IsShort 127 x → f x ≡ Ok r → IsShort 127 r
KeepsRange (on_integers f) =
    (x y r : ℤ) → IsShort 127 x → IsShort 127 y → f x y ≡ Ok r → IsShort 127 r
KeepsRange (compares f) = Unit {0}
KeepsRange (on_truth f) = Unit {0}
KeepsRange (on_truths f) = Unit {0}

abbrev AllKeepRange : List Hook → Type 0
AllKeepRange [] = Unit {0}
AllKeepRange (h ∷ hs) = KeepsRange h.operation × AllKeepRange hs

-- the number of a result that is not an error
plain : (k : ℕ) (z r : ℤ) → ◌≡◌ {A = Result ℤ NoValue} (Ok z) (Ok r) → IsShort k z → IsShort k r
plain k z r e s = let same : z ≡ r = cc in subst (IsShort k) same s

hooks_keep_range : AllKeepRange hooks
hooks_keep_range = (
  λ x y r sx sy e. ranged (x +ℤ y) r e,
  (
    λ x y r sx sy e. ranged (x -ℤ y) r e,
    (
      λ x y r sx sy e. ranged (x *ℤ y) r e,
      (
        λ x y r sx sy e. ranged (int_div x y) r
            (otherwise (int_eq y (pos 0)) (in_range (int_div x y)) ZeroDivisor r e),
        (
          λ x y r sx sy e. plain 127 (int_rem x y) r
              (otherwise (int_eq y (pos 0)) (Ok (int_rem x y)) ZeroDivisor r e)
              (short_from 127 (int_rem x y) x (rem_short x y) sx),
          (
            λ x y r sx sy e. ranged (int_div_euclid x y) r
                (otherwise (int_eq y (pos 0)) (in_range (int_div_euclid x y)) ZeroDivisor r e),
            (
              λ x y r sx sy e. plain 127 (int_rem_euclid x y) r
                  (otherwise (int_eq y (pos 0)) (Ok (int_rem_euclid x y)) ZeroDivisor r e)
                  (remainder_short 127 x y sx sy),
              (
                tt,
                (
                  tt,
                  (
                    tt,
                    (
                      tt,
                      (
                        tt,
                        (
                          tt,
                          (
                            λ x y r sx sy e. plain 127 (int_min x y) r e
                                (chosen_short 127 (int_lt y x) y x sy sx),
                            (
                              λ x y r sx sy e. plain 127 (int_max x y) r e
                                  (chosen_short 127 (int_lt y x) x y sx sy),
                              (
                                λ x r sx e. ranged (pos (unsigned_abs x)) r e,
                                (
                                  λ x y r sx sy e.
                                      plain 127 (bitwise_and x y) r e (and_short 127 x y sx sy),
                                  (
                                    λ x y r sx sy e.
                                        plain 127 (bitwise_or x y) r e (or_short 127 x y sx sy),
                                    (
                                      λ x y r sx sy e.
                                          plain 127 (bitwise_xor x y) r e (xor_short 127 x y sx sy),
                                      (
                                        λ x r sx e. plain 127 (complement x) r e
                                            (complement_short 127 x sx),
                                        (
                                          λ x y r sx sy e. ranged (x *ℤ pos (2 ^ unsigned_abs y)) r
                                              (otherwise (int_lt y (pos 0))
                                              (in_range (x *ℤ pos (2 ^ unsigned_abs y)))
                                              NegativeShift r e),
                                          (
                                            λ x y r sx sy e. plain 127
                                                (int_div_euclid x (pos (2 ^ unsigned_abs y))) r
                                                (otherwise (int_lt y (pos 0)) (Ok
                                                (int_div_euclid x
                                                (pos (2 ^ unsigned_abs y))))
                                                NegativeShift r e)
                                                (shifted_short 127 x (2 ^ unsigned_abs y) sx),
                                            (
                                              tt,
                                              (
                                                tt,
                                                (
                                                  tt,
                                                  (
                                                    tt,
                                                    (
                                                      tt,
                                                      (
                                                        tt,
                                                        (
                                                          tt,
                                                          (
                                                            tt,
                                                            (
                                                              tt,
                                                              tt,
                                                            ),
                                                          ),
                                                        ),
                                                      ),
                                                    ),
                                                  ),
                                                ),
                                              ),
                                            ),
                                          ),
                                        ),
                                      ),
                                    ),
                                  ),
                                ),
                              ),
                            ),
                          ),
                        ),
                      ),
                    ),
                  ),
                ),
              ),
            ),
          ),
        ),
      ),
    ),
  ),
)

hook_keeps : (hs : List Hook) → AllKeepRange hs → (row : ℕ) (h : Hook) → slice_get hs row ≡ Some h
    → KeepsRange h.operation
hook_keeps [] all row h e = let k : None ≡ Some h = e in let no : ⊥ = cc in absurd no
hook_keeps (g ∷ hs) all zero h e =
    let k : Some g ≡ Some h = e in
    let same : g ≡ h = cc in subst (λ (x : Hook). KeepsRange x.operation) same all.0
hook_keeps (g ∷ hs) all (suc row) h e = hook_keeps hs all.1 row h e

-- ---- terms of these sorts are values

-- a value of this kind
abbrev IsOfThisKind : Kind → DomainValue → Type 0
IsOfThisKind integers (integer z) = IsShort 127 z
IsOfThisKind integers (truth b) = ⊥
IsOfThisKind integers (text bytes) = ⊥
IsOfThisKind truths (integer z) = ⊥
IsOfThisKind truths (truth b) = Unit {0}
IsOfThisKind truths (text bytes) = ⊥

abbrev AreOfTheseKinds : List Kind → List DomainValue → Type 0
AreOfTheseKinds [] [] = Unit {0}
AreOfTheseKinds [] (v ∷ vs) = ⊥
AreOfTheseKinds (k ∷ ks) [] = ⊥
AreOfTheseKinds (k ∷ ks) (v ∷ vs) = IsOfThisKind k v × AreOfTheseKinds ks vs

pub short_range : (z : ℤ) → IsShort 127 z → is_in_range z ≡ true
short_range (pos n) s = le-leb (suc n) (2 ^ 127) (omega arith)
short_range (negsuc n) s = rw (le-leb n (2 ^ 127 - 1) (omega arith)) refl

value_kind : (k : Kind) (info : SortInfo) (v : DomainValue) → IsOfKind k info
    → IsValueOf info.kind v → IsOfThisKind k v
value_kind integers info (integer z) is v =
    let there : IsValueOf sort_kind.Int (integer z) = subst (λ k. IsValueOf k (integer z)) is v in
    tested_short z there
value_kind integers info (truth b) is v =
    let there : IsValueOf sort_kind.Int (truth b) = subst (λ k. IsValueOf k (truth b)) is v in there
value_kind integers info (text bytes) is v =
    let there : IsValueOf sort_kind.Int (text bytes) = subst (λ k. IsValueOf k (text bytes)) is v in
    there
value_kind truths info (integer z) is v =
    let there : IsValueOf sort_kind.Bool (integer z) = subst (λ k. IsValueOf k (integer z)) is v in
    there
value_kind truths info (truth b) is v = tt
value_kind truths info (text bytes) is v =
    let there : IsValueOf sort_kind.Bool (text bytes) =
    subst (λ k. IsValueOf k (text bytes)) is v in
    there

kind_value : (k : Kind) (info : SortInfo) (v : DomainValue) → IsOfKind k info → IsOfThisKind k v
    → IsValueOf info.kind v
kind_value integers info (integer z) is v =
    subst (λ k. IsValueOf k (integer z)) (sym is) (short_range z v)
kind_value integers info (truth b) is v = absurd v
kind_value integers info (text bytes) is v = absurd v
kind_value truths info (integer z) is v = absurd v
kind_value truths info (truth b) is v = subst (λ k. IsValueOf k (truth b)) (sym is) tt
kind_value truths info (text bytes) is v = absurd v

-- the sort that a reference names outside any symbol
named_sort : (of : SortRef) (sort : ℕ) → sort_at [] of ≡ Some sort → of ≡ Sort (record { 0 = sort })
named_sort (Param i) sort e = let k : None ≡ Some sort = e in let no : ⊥ = cc in absurd no
named_sort (Sort s) sort e =
    let k : Some s.0 ≡ Some sort = e in
    let same : s.0 ≡ sort = cc in ap (λ (n : ℕ). Sort (record { 0 = n })) same

term_value : (sig : Signature) (k : Kind) (sort : ℕ) (t : Tree) → IsSortOf sig k sort
    → IsTermOf sig t sort → (s : ℕ) × (v : DomainValue) × (t ≡ leaf s v) × IsOfThisKind k v
term_value sig k sort (leaf s v) is (same, has) =
    let there : Some (has.0, has.1) ≡ Some (is.name, is.info) =
    sym has.2 ∙ ap (slice_get sig.sorts) same ∙ is.there in
    let pair : (has.0, has.1) ≡ (is.name, is.info) = cc in
    let infos : has.1 ≡ is.info = ap (λ (q : List ℕ × SortInfo). q.1) pair in (
      s,
      v,
      refl,
      value_kind k is.info v is.of_kind
          (subst (λ (i : SortInfo). IsValueOf i.kind v) infos has.3),
    )
term_value sig k sort (node f ts) is h =
    absurd (is.no_constructor f h.0 h.1 h.2 (named_sort h.0.result sort h.3))
term_value sig k sort (inj a b t) is h =
    absurd (is.lowest a (subst (λ s. IsBelow sig.subsorts a s) h.1 h.2))

terms_values : (sig : Signature) (ks : List Kind) (refs : List SortRef) (ts : Forest)
    → ReferTo sig ks refs → AreTermsOf sig [] ts refs
    → (vs : List DomainValue) × AreValues ts vs × AreOfTheseKinds ks vs
terms_values sig [] [] no_tree refer of = ([], refl, tt)
terms_values sig [] [] (more_trees t ts) refer of = absurd of
terms_values sig [] (r ∷ refs) ts refer of = absurd refer
terms_values sig (k ∷ ks) [] ts refer of = absurd refer
terms_values sig (k ∷ ks) (r ∷ refs) no_tree refer of = absurd of
terms_values sig (k ∷ ks) (r ∷ refs) (more_trees t ts) refer of =
    let sorts : Some refer.0.0 ≡ Some of.0 = sym (ap (sort_at []) refer.0.1) ∙ of.1 in
    let same : of.0 ≡ refer.0.0 = cc in
    let first = term_value sig k refer.0.0 t refer.0.2 (subst (λ s. IsTermOf sig t s) same of.2) in
    let others = terms_values sig ks refs ts refer.1 of.3 in
    let back : leaf first.0 first.1 ≡ t = sym first.2 in (
      first.1
          ∷ others.0,
      subst (λ u. AreValues (more_trees u ts) (first.1 ∷ others.0)) back
          (others.0, refl, others.1),
      (first.3, others.2),
    )

-- ---- an operation on values of its kinds

an_integer : (v : DomainValue) → IsOfThisKind integers v → (z : ℤ) × (v ≡ integer z) × IsShort 127 z
an_integer (integer z) is = (z, refl, is)
an_integer (truth b) is = absurd is
an_integer (text bytes) is = absurd is

a_truth : (v : DomainValue) → IsOfThisKind truths v → (b : Bool) × (v ≡ truth b)
a_truth (integer z) is = absurd is
a_truth (truth b) is = (b, refl)
a_truth (text bytes) is = absurd is

one_value : (k : Kind) (vs : List DomainValue) → AreOfTheseKinds (k ∷ []) vs
    → (v : DomainValue) × (vs ≡ v ∷ []) × IsOfThisKind k v
one_value k [] are = absurd are
one_value k (v ∷ []) are = (v, refl, are.0)
one_value k (v ∷ (w ∷ vs)) are = absurd are.1

two_values : (k l : Kind) (vs : List DomainValue) → AreOfTheseKinds (k ∷ (l ∷ [])) vs
    → (v : DomainValue) × (w : DomainValue) × (vs ≡ v ∷ (w ∷ [])) × IsOfThisKind k v
    × IsOfThisKind l w
two_values k l [] are = absurd are
two_values k l (v ∷ []) are = absurd are.1
two_values k l (v ∷ (w ∷ [])) are = (v, w, refl, are.0, are.1.0)
two_values k l (v ∷ (w ∷ (u ∷ vs))) are = absurd are.1.1

abbrev OperationAnswer : Operation → List DomainValue → Type 0
OperationAnswer op vs =
    ((v : DomainValue) × (operation_value op vs ≡ Some (Ok v)) × IsOfThisKind (result_kind op) v)
    ⊎ ((why : NoValue) × (operation_value op vs ≡ Some (Err why)))

number_answer : (op : Operation) (vs : List DomainValue) (r : Result ℤ NoValue)
    → result_kind op ≡ integers → operation_value op vs ≡ Some (outcome integer r)
    → ((z : ℤ) → r ≡ Ok z → IsShort 127 z) → OperationAnswer op vs
number_answer op vs (Ok z) kind e short =
    inl (integer z, e, subst (λ k. IsOfThisKind k (integer z)) (sym kind) (short z refl))
number_answer op vs (Err why) kind e short = inr (why, e)

operation_answer : (op : Operation) (vs : List DomainValue) → KeepsRange op
    → AreOfTheseKinds (argument_kinds op) vs → OperationAnswer op vs
operation_answer (on_integer f) vs keeps are =
    let one = one_value integers vs are in
    let x = an_integer one.0 one.2 in
    let whole : vs ≡ integer x.0 ∷ [] = one.1 ∙ ap (λ v. v ∷ []) x.1 in
    number_answer (on_integer f) vs (f x.0) refl (ap (operation_value (on_integer f)) whole)
    (λ z e. keeps x.0 z x.2 e)
operation_answer (on_integers f) vs keeps are =
    let two = two_values integers integers vs are in
    let x = an_integer two.0 two.3 in
    let y = an_integer two.1 two.4 in
    let whole : vs ≡ integer x.0 ∷ (integer y.0 ∷ []) =
    two.2 ∙ ap (λ v. v ∷ (two.1 ∷ [])) x.1 ∙ ap (λ w. integer x.0 ∷ (w ∷ [])) y.1 in
    number_answer (on_integers f) vs (f x.0 y.0) refl (ap (operation_value (on_integers f)) whole)
    (λ z e. keeps x.0 y.0 z x.2 y.2 e)
operation_answer (compares f) vs keeps are =
    let two = two_values integers integers vs are in
    let x = an_integer two.0 two.3 in
    let y = an_integer two.1 two.4 in
    let whole : vs ≡ integer x.0 ∷ (integer y.0 ∷ []) =
    two.2 ∙ ap (λ v. v ∷ (two.1 ∷ [])) x.1 ∙ ap (λ w. integer x.0 ∷ (w ∷ [])) y.1 in
    inl (truth (f x.0 y.0), ap (operation_value (compares f)) whole, tt)
operation_answer (on_truth f) vs keeps are =
    let one = one_value truths vs are in
    let x = a_truth one.0 one.2 in
    let whole : vs ≡ truth x.0 ∷ [] = one.1 ∙ ap (λ v. v ∷ []) x.1 in
    inl (truth (f x.0), ap (operation_value (on_truth f)) whole, tt)
operation_answer (on_truths f) vs keeps are =
    let two = two_values truths truths vs are in
    let x = a_truth two.0 two.3 in
    let y = a_truth two.1 two.4 in
    let whole : vs ≡ truth x.0 ∷ (truth y.0 ∷ []) =
    two.2 ∙ ap (λ v. v ∷ (two.1 ∷ [])) x.1 ∙ ap (λ w. truth x.0 ∷ (w ∷ [])) y.1 in
    inl (truth (f x.0 y.0), ap (operation_value (on_truths f)) whole, tt)

result_sort : (sig : Signature) (k : Kind) (of : SortRef) (sort : ℕ) (v : DomainValue)
    → RefersTo sig k of → sort_at [] of ≡ Some sort → IsOfThisKind k v → HasValue sig sort v
result_sort sig k of sort v refers at is =
    let sorts : Some refers.0 ≡ Some sort = sym (ap (sort_at []) refers.1) ∙ at in
    let same : refers.0 ≡ sort = cc in
    subst (λ s. HasValue sig s v) same (
      refers.2.name,
      refers.2.info,
      refers.2.there,
      kind_value k refers.2.info v refers.2.of_kind is,
    )

pub hook_answer : (sig : Signature) (info : SymInfo) (row : ℕ) (ts : Forest) (sort : ℕ)
    → FitsHook sig row info → info.kind ≡ Hooked (record { 0 = row })
    → sort_at [] info.result ≡ Some sort → AreTermsOf sig [] ts info.args.items
    → ((v : DomainValue) × HookAnswers info row ts v × HasValue sig sort v)
    ⊎ ((why : NoValue) × HookFails info row ts why)
hook_answer sig info row ts sort fits hooked at of =
    let op : Operation = fits.hook.operation in
    let vs = terms_values sig (argument_kinds op) info.args.items ts fits.arguments of in
    let there : hook_value row vs.0 ≡ operation_value op vs.0 =
    ap (λ o. value_by o vs.0) fits.there in
    ⊎_elim
    (λ (a : (v :
    DomainValue) × (operation_value op vs.0 ≡ Some (Ok v)) × IsOfThisKind (result_kind op) v).
    inl (
      a.0,
      record { hooked = hooked; arguments = vs.0; are = vs.1; answers = there ∙ a.1 },
      result_sort sig (result_kind op) info.result sort a.0 fits.result at a.2,
    ))
    (λ (a : (why : NoValue) × (operation_value op vs.0 ≡ Some (Err why))).
    inr (a.0, record { hooked = hooked; arguments = vs.0; are = vs.1; fails = there ∙ a.1 }))
    (operation_answer op vs.0 (hook_keeps hooks hooks_keep_range row fits.hook fits.there) vs.2)
