-- Patterns that differ at the root are instances of the sides of a fact.
use Rattle.std.proofs.Common.{◌≡◌, ◌&&◌, ◌+◌, ◌≤◌, ◌^◌, ◌⊎◌, ℕ, zero, suc, Bool, true, false, List}
use Rattle.std.proofs.Common.{[], ◌∷◌, ◌++◌, Some, length, map, inl, inr, refl, sym, ◌∙◌, ap, subst}
use Rattle.std.proofs.Common.{arith, length-append}
use Rattle.std.specs.Prelude.{All}
use Rattle.term_core.specs.Patterns.{Pattern, Patterns, variable, domain_value, application}
use Rattle.term_core.specs.Patterns.{injection, call, no_pattern, more_patterns}
use Rattle.rule_core.specs.AcSymbols.{IsAcFree}
use Rattle.rule_core.specs.Matching.{OccursInSome}
use Rattle.rule_core.specs.Sorting.{HaveSorts, HasValue, IsSymbol, AreSorts, sort_at}
use Rattle.rule_core.specs.Subsorts.{IsBelow}
use Rattle.rule_core.specs.WellSorted.{IsReference, IsDeclaration, IsSignature}
use Rattle.rule_core.specs.declared.signature.Signature.{Signature}
use Rattle.rule_core.specs.declared.signature.SortRef.{SortRef}
use Rattle.rule_core.specs.declared.signature.SortRef.TheVariants.{Param, Sort}
use Rattle.ml_image.specs.HasImages.{HasImage, HaveImages, HaveApartImages, count_of}
use Rattle.ml_image.specs.OwnAxioms.{sort_numbered}
use Rattle.ml_image.specs.Sides.{Head, Side, value, constructor, plain, injected_variable}
use Rattle.ml_image.specs.Sides.{injected_head, numbered, head_sorts, side_sorts, head_pattern}
use Rattle.ml_image.specs.Sides.{side_pattern, IsHead, IsSide, Differ}
use Rattle.ml_image.proofs.ConstructorLaws.{read_sorts, AreSorts-append}
use Rattle.ml_image.proofs.WellSortedLaws.{sorted_has_image}
use Rattle.prove_open.specs.Givens.{IsCovered, HasFact}
use Rattle.prove_open.specs.Differences.{IsValueOrConstructor, DifferAtRoot}
use Rattle.prove_open.specs.FactSides.{is_injected, is_application, head_form, injected_form}
use Rattle.prove_open.specs.FactSides.{side_form, head_parts, injected_parts, side_parts, HasSide}
use Rattle.prove_open.specs.declared.givens.Given.{Given}
use Rattle.prove_open.proofs.CoverLaws.{AreCovered, covered_arguments, covered_below}
use Rattle.prove_open.proofs.FreedomLaws.{not_ac}

some_same : {A : Type 0} (a b : A) → Some a ≡ Some b → a ≡ b
some_same a b e = cc

-- ---- declarations

-- the sorts that references without parameters name
names_of : (sig : Signature) (refs : List SortRef) → All (IsReference sig 0) refs
    → (sorts : List ℕ) × (refs ≡ map sort_numbered sorts) × AreSorts sig sorts
names_of sig [] each = ([], refl, tt)
names_of sig (Param i ∷ refs) each = absurd (omega (arith, each 0 (Param i) (omega arith)))
names_of sig (Sort s ∷ refs) each =
    let w : (sorts : List ℕ) × (refs ≡ map sort_numbered sorts) × AreSorts sig sorts =
    names_of sig refs (λ k d low. each (suc k) d (omega (arith, low))) in
    (s.0 ∷ w.0, ap (λ (rs : List SortRef). Sort s ∷ rs) w.1, (each 0 (Sort s) (omega arith), w.2))

pub name_of : (sig : Signature) (r : SortRef) (sort : ℕ) → IsReference sig 0 r
    → sort_at [] r ≡ Some sort → r ≡ sort_numbered sort
name_of sig (Param i) sort is at = absurd (omega (arith, is))
name_of sig (Sort s) sort is at = ap sort_numbered (some_same s.0 sort at)

counted : (sig : Signature) (vars : List ℕ) (ps : Patterns) (refs : List SortRef) (ss : List ℕ)
    → HaveSorts sig vars [] ps refs → refs ≡ map sort_numbered ss → count_of ps ≡ length ss
counted sig vars no_pattern [] [] h e = refl
counted sig vars no_pattern [] (s ∷ ss) h e = absurd (omega (arith, ap length e))
counted sig vars no_pattern (r ∷ refs) ss h e = absurd h
counted sig vars (more_patterns p ps) [] ss h e = absurd h
counted sig vars (more_patterns p ps) (r ∷ refs) [] h e = absurd (omega (arith, ap length e))
counted sig vars (more_patterns p ps) (r ∷ refs) (s ∷ ss) h e =
    let rest : refs ≡ map sort_numbered ss = cc in
    ap suc (counted sig vars ps refs ss h.3 rest)

-- ---- sides

abbrev pub head_at : Pattern → List ℕ → Head
head_at (domain_value s v) ss = value v
head_at (application f ps) ss = constructor f ss
head_at _ ss = constructor 0 ss

abbrev pub injected_at : Bool → ℕ → Pattern → List ℕ → Side
injected_at false a p ss = injected_variable a
injected_at true a p ss = injected_head a (head_at p ss)

-- the side, with the sorts of its variables
abbrev pub side_at : Bool → Pattern → List ℕ → Side
side_at deep (injection a b p) ss = injected_at deep a p ss
side_at deep p ss = plain (head_at p ss)

-- the pattern is an instance of the head, whose variables have the sorts ss
pub record IsOfHead (sig : Signature) (sorts : List ℕ) (g : Given) (p : Pattern) (sort : ℕ)
    : Type 0 where
  pub ss : List ℕ
  pub is : IsHead sig sort (head_at p ss)
  pub listed : head_sorts (head_at p ss) ≡ ss
  pub are_sorts : AreSorts sig ss
  pub many : count_of (head_parts p) ≡ length ss
  pub form : (k : ℕ) → head_form k p ≡ head_pattern sort k (head_at p ss)
  pub refs : List SortRef
  pub covered : AreCovered sig sorts g (head_parts p) refs
  pub refs_are : refs ≡ map sort_numbered ss

pub record IsOfSide (sig : Signature) (sorts : List ℕ) (g : Given) (deep : Bool) (p : Pattern)
    (sort : ℕ) : Type 0 where
  pub ss : List ℕ
  pub is : IsSide sig sort (side_at deep p ss)
  pub listed : side_sorts (side_at deep p ss) ≡ ss
  pub are_sorts : AreSorts sig ss
  pub many : count_of (side_parts deep p) ≡ length ss
  pub form : (k : ℕ) → side_form deep k p ≡ side_pattern sort k (side_at deep p ss)
  pub refs : List SortRef
  pub covered : AreCovered sig sorts g (side_parts deep p) refs
  pub refs_are : refs ≡ map sort_numbered ss

of_head : (sig : Signature) (sorts : List ℕ) (g : Given) (p : Pattern) (sort : ℕ)
    → IsSignature sig → IsAcFree sig → IsCovered sig sorts g p sort → IsValueOrConstructor p
    → IsOfHead sig sorts g p sort
of_head sig sorts g (variable x) sort ok free c h = absurd h
of_head sig sorts g (domain_value s v) sort ok free c h = record {
  ss = [];
  is = subst (λ (n : ℕ). HasValue sig n v) c.sorted.0 c.sorted.1;
  listed = refl;
  are_sorts = tt;
  many = refl;
  form = λ k. ap (λ (n : ℕ). domain_value n v) c.sorted.0;
  refs = [];
  covered = record { sorted = tt; no_call = tt; given = λ x occurs. absurd occurs };
  refs_are = refl;
}
of_head sig sorts g (application f ps) sort ok free c h =
    let none : c.sorted.0.params ≡ 0 = ok.constructors f c.sorted.0 c.sorted.1 c.sorted.2 in
    let declared : IsDeclaration sig c.sorted.0 = ok.declared f c.sorted.0 c.sorted.1 in
    let takes : (ss : List ℕ) × (c.sorted.0.args.items ≡ map sort_numbered ss) × AreSorts sig ss =
    names_of sig c.sorted.0.args.items
    (subst (λ (n : ℕ). All (IsReference sig n) c.sorted.0.args.items) none declared.arguments) in
    let many : count_of ps ≡ length takes.0 =
    counted sig sorts ps c.sorted.0.args.items takes.0 c.sorted.4 takes.1 in
    record {
      ss = takes.0;
      is = (
        c.sorted.0,
        (
          record {
            there = c.sorted.1;
            takes = takes.1;
            makes =
                name_of sig c.sorted.0.result sort
                (subst (λ (n : ℕ). IsReference sig n c.sorted.0.result) none declared.result)
                c.sorted.3;
          },
          c.sorted.2,
        ),
        not_ac sig f c.sorted.0 free c.sorted.1 c.sorted.2,
      );
      listed = refl;
      are_sorts = takes.2;
      many = many;
      form = λ k. ap (λ (n : ℕ). application f (numbered k n)) many;
      refs = c.sorted.0.args.items;
      covered = covered_arguments sig sorts g f ps sort c;
      refs_are = takes.1;
    }
of_head sig sorts g (injection a b p) sort ok free c h = absurd h
of_head sig sorts g (call f ss ps) sort ok free c h = absurd h

plain_side : (sig : Signature) (sorts : List ℕ) (g : Given) (deep : Bool) (p : Pattern) (sort : ℕ)
    → IsValueOrConstructor p → IsOfHead sig sorts g p sort → IsOfSide sig sorts g deep p sort
plain_side sig sorts g deep (variable x) sort h i = absurd h
plain_side sig sorts g deep (domain_value s v) sort h i = record {
  ss = i.ss;
  is = i.is;
  listed = i.listed;
  are_sorts = i.are_sorts;
  many = i.many;
  form = i.form;
  refs = i.refs;
  covered = i.covered;
  refs_are = i.refs_are;
}
plain_side sig sorts g deep (application f ps) sort h i = record {
  ss = i.ss;
  is = i.is;
  listed = i.listed;
  are_sorts = i.are_sorts;
  many = i.many;
  form = i.form;
  refs = i.refs;
  covered = i.covered;
  refs_are = i.refs_are;
}
plain_side sig sorts g deep (injection a b p) sort h i = absurd h
plain_side sig sorts g deep (call f ss ps) sort h i = absurd h

injected_side : (sig : Signature) (sorts : List ℕ) (g : Given) (deep : Bool) (a b : ℕ)
    (p : Pattern) (sort : ℕ) → IsSignature sig → IsAcFree sig
    → IsCovered sig sorts g (injection a b p) sort → HasSide deep (injection a b p)
    → IsOfSide sig sorts g deep (injection a b p) sort
injected_side sig sorts g false a b p sort ok free c h = record {
  ss = a ∷ [];
  is = subst (IsBelow sig.subsorts a) c.sorted.1 c.sorted.2;
  listed = refl;
  are_sorts = ((sorted_has_image sig sorts (injection a b p) sort ok c.sorted).1.0, tt);
  many = refl;
  form = λ k. ap (λ (n : ℕ). injection a n (variable k)) c.sorted.1;
  refs = sort_numbered a ∷ [];
  covered = record {
    sorted = (a, refl, c.sorted.3, tt);
    no_call = (c.no_call, tt);
    given = λ x occurs. only x occurs;
  };
  refs_are = refl;
}
  where
    only : (x : ℕ) → OccursInSome x (more_patterns p no_pattern) → HasFact g x
    only x (inl occurs) = c.given x occurs
    only x (inr none) = absurd none
injected_side sig sorts g true a b p sort ok free c h =
    let i : IsOfHead sig sorts g p a =
    of_head sig sorts g p a ok free (covered_below sig sorts g a b p sort c) h in
    record {
      ss = i.ss;
      is = (subst (IsBelow sig.subsorts a) c.sorted.1 c.sorted.2, i.is);
      listed = i.listed;
      are_sorts = i.are_sorts;
      many = i.many;
      form =
          λ k. ap (λ (n : ℕ). injection a n (head_form k p)) c.sorted.1
          ∙ ap (injection a sort) (i.form k);
      refs = i.refs;
      covered = i.covered;
      refs_are = i.refs_are;
    }

pub of_side : (sig : Signature) (sorts : List ℕ) (g : Given) (deep : Bool) (p : Pattern)
    (sort : ℕ) → IsSignature sig → IsAcFree sig → IsCovered sig sorts g p sort → HasSide deep p
    → IsOfSide sig sorts g deep p sort
of_side sig sorts g deep (variable x) sort ok free c h = absurd h
of_side sig sorts g deep (domain_value s v) sort ok free c h =
    plain_side sig sorts g deep (domain_value s v) sort h
    (of_head sig sorts g (domain_value s v) sort ok free c h)
of_side sig sorts g deep (application f ps) sort ok free c h =
    plain_side sig sorts g deep (application f ps) sort h
    (of_head sig sorts g (application f ps) sort ok free c h)
of_side sig sorts g deep (injection a b p) sort ok free c h =
    injected_side sig sorts g deep a b p sort ok free c h
of_side sig sorts g deep (call f ss ps) sort ok free c h = absurd h

-- ---- differing

pub first_has_side : (pairs : List (ℕ × ℕ)) (p q : Pattern) → DifferAtRoot pairs p q
    → HasSide false p
first_has_side pairs (variable x) q d = absurd d
first_has_side pairs (domain_value s v) q d = tt
first_has_side pairs (application f ps) q d = tt
first_has_side pairs (injection a b p) q d = tt
first_has_side pairs (call f ss ps) q d = absurd d

pub second_has_side : (pairs : List (ℕ × ℕ)) (p q : Pattern) → DifferAtRoot pairs p q
    → HasSide (is_injected p) q
second_has_side pairs (variable x) q d = absurd d
second_has_side pairs (domain_value s v) (variable x) d = absurd d
second_has_side pairs (domain_value s v) (domain_value r w) d = tt
second_has_side pairs (domain_value s v) (application g qs) d = tt
second_has_side pairs (domain_value s v) (injection a b q) d = tt
second_has_side pairs (domain_value s v) (call g ss qs) d = absurd d
second_has_side pairs (application f ps) (variable x) d = absurd d
second_has_side pairs (application f ps) (domain_value r w) d = tt
second_has_side pairs (application f ps) (application g qs) d = tt
second_has_side pairs (application f ps) (injection a b q) d = tt
second_has_side pairs (application f ps) (call g ss qs) d = absurd d
second_has_side pairs (injection a b p) (variable x) d = absurd d
second_has_side pairs (injection a b p) (domain_value r w) d = tt
second_has_side pairs (injection a b p) (application g qs) d = tt
second_has_side pairs (injection a b p) (injection c e q) d = d.2
second_has_side pairs (injection a b p) (call g ss qs) d = absurd d
second_has_side pairs (call f ss ps) q d = absurd d

pub sides_differ : (sig : Signature) (p q : Pattern) (ss rs : List ℕ)
    → DifferAtRoot sig.subsorts p q → (is_application p && is_application q) ≡ false
    → Differ sig (side_at false p ss) (side_at (is_injected p) q rs)
    ⊎ Differ sig (side_at (is_injected p) q rs) (side_at false p ss)
sides_differ sig (variable x) q ss rs d n = absurd d
sides_differ sig (domain_value s v) (variable x) ss rs d n = absurd d
sides_differ sig (domain_value s v) (domain_value r w) ss rs d n = inl d
sides_differ sig (domain_value s v) (application g qs) ss rs d n = inl tt
sides_differ sig (domain_value s v) (injection a b q) ss rs d n = inl tt
sides_differ sig (domain_value s v) (call g ts qs) ss rs d n = absurd d
sides_differ sig (application f ps) (variable x) ss rs d n = absurd d
sides_differ sig (application f ps) (domain_value r w) ss rs d n = inr tt
sides_differ sig (application f ps) (application g qs) ss rs d n = absurd (cc)
sides_differ sig (application f ps) (injection a b q) ss rs d n = inl tt
sides_differ sig (application f ps) (call g ts qs) ss rs d n = absurd d
sides_differ sig (injection a b p) (variable x) ss rs d n = absurd d
sides_differ sig (injection a b p) (domain_value r w) ss rs d n = inr tt
sides_differ sig (injection a b p) (application g qs) ss rs d n = inr tt
sides_differ sig (injection a b p) (injection c e q) ss rs d n =
    inl (λ same. d.0 (sym same), d.1)
sides_differ sig (injection a b p) (call g ts qs) ss rs d n = absurd d
sides_differ sig (call f ts ps) q ss rs d n = absurd d

-- ---- the sorts of a side

heads_same : (sig : Signature) (sort k r m : ℕ) (h i : Head) → IsHead sig sort h → IsHead sig r i
    → head_pattern sort k h ≡ head_pattern r m i → head_sorts h ≡ head_sorts i
heads_same sig sort k r m (value v) (value w) j l e = refl
heads_same sig sort k r m (value v) (constructor g ts) j l e = absurd (cc)
heads_same sig sort k r m (constructor f ss) (value w) j l e = absurd (cc)
heads_same sig sort k r m (constructor f ss) (constructor g ts) j l e =
    let same : g ≡ f = cc in
    read_sorts sig f j.0 l.0 ss ts sort j.1.0
    (subst (λ (n : ℕ). IsSymbol sig n l.0) same l.1.0.there) l.1.0.takes

head_injected : {P : Type 0} (sort k a b : ℕ) (h : Head) (p : Pattern)
    → head_pattern sort k h ≡ injection a b p → P
head_injected sort k a b (value v) p e = absurd (cc)
head_injected sort k a b (constructor f ss) p e = absurd (cc)

head_variable : {P : Type 0} (sort k x : ℕ) (h : Head) → head_pattern sort k h ≡ variable x → P
head_variable sort k x (value v) e = absurd (cc)
head_variable sort k x (constructor f ss) e = absurd (cc)

injections_same : (a b c d : ℕ) (p q : Pattern) → injection a b p ≡ injection c d q
    → (a ≡ c) × (p ≡ q)
injections_same a b c d p q e = (cc, cc)

pub sides_same : (sig : Signature) (sort k r m : ℕ) (s t : Side) → IsSide sig sort s
    → IsSide sig r t → side_pattern sort k s ≡ side_pattern r m t → side_sorts s ≡ side_sorts t
sides_same sig sort k r m (plain h) (plain i) j l e = heads_same sig sort k r m h i j l e
sides_same sig sort k r m (plain h) (injected_variable b) j l e =
    head_injected sort k b r h (variable m) e
sides_same sig sort k r m (plain h) (injected_head b i) j l e =
    head_injected sort k b r h (head_pattern b m i) e
sides_same sig sort k r m (injected_variable a) (plain i) j l e =
    head_injected r m a sort i (variable k) (sym e)
sides_same sig sort k r m (injected_variable a) (injected_variable b) j l e =
    ap (λ (n : ℕ). n ∷ [])
    (injections_same a sort b r (variable k) (variable m) e).0
sides_same sig sort k r m (injected_variable a) (injected_head b i) j l e =
    head_variable b m k i
    (sym (injections_same a sort b r (variable k) (head_pattern b m i) e).1)
sides_same sig sort k r m (injected_head a h) (plain i) j l e =
    head_injected r m a sort i (head_pattern a k h) (sym e)
sides_same sig sort k r m (injected_head a h) (injected_variable b) j l e =
    head_variable a k m h (injections_same a sort b r (head_pattern a k h) (variable m) e).1
sides_same sig sort k r m (injected_head a h) (injected_head b i) j l e =
    heads_same sig a k b m h i j.1 l.1
    (injections_same a sort b r (head_pattern a k h) (head_pattern b m i) e).1

-- ---- images

numbered_images : (sig : Signature) (m k n : ℕ) → k + n ≤ m → HaveImages sig m (numbered k n)
numbered_images sig m k zero low = tt
numbered_images sig m k (suc n) low =
    (omega (arith, low), numbered_images sig m (k + 1) n (omega (arith, low)))

head_image : (sig : Signature) (n m k : ℕ) (p : Pattern) → HasImage sig n p → IsValueOrConstructor p
    → k + count_of (head_parts p) ≤ m → HasImage sig m (head_form k p)
head_image sig n m k (variable x) i h low = absurd h
head_image sig n m k (domain_value s v) i h low = i
head_image sig n m k (application f ps) i h low =
    (i.0, numbered_images sig m k (count_of ps) low)
head_image sig n m k (injection a b p) i h low = absurd h
head_image sig n m k (call f ss ps) i h low = absurd h

inner_image : (sig : Signature) (n m k : ℕ) (deep : Bool) (a b : ℕ) (p : Pattern)
    → HasImage sig n p → HasSide deep (injection a b p)
    → k + count_of (injected_parts deep p) ≤ m → HasImage sig m (injected_form deep k p)
inner_image sig n m k false a b p i h low = omega (arith, low)
inner_image sig n m k true a b p i h low = head_image sig n m k p i h low

pub side_image : (sig : Signature) (n m k : ℕ) (deep : Bool) (p : Pattern) → HasImage sig n p
    → HasSide deep p → k + count_of (side_parts deep p) ≤ m → HasImage sig m (side_form deep k p)
side_image sig n m k deep (variable x) i h low = absurd h
side_image sig n m k deep (domain_value s v) i h low = i
side_image sig n m k deep (application f ps) i h low =
    head_image sig n m k (application f ps) i h low
side_image sig n m k deep (injection a b p) i h low =
    (i.0, i.1, inner_image sig n m k deep a b p i.2 h low)
side_image sig n m k deep (call f ss ps) i h low = absurd h

-- ---- both sides

pub apart_images : (sig : Signature) (sorts : List ℕ) (g : Given) (p q : Pattern) (sort n : ℕ)
    → IsSignature sig → IsAcFree sig → IsCovered sig sorts g p sort
    → IsCovered sig sorts g q sort → DifferAtRoot sig.subsorts p q
    → (is_application p && is_application q) ≡ false
    → n ≡ count_of (side_parts false p)
    → n + count_of (side_parts (is_injected p) q) ≤ 2 ^ 32
    → HaveApartImages sig (side_form false 0 p) (side_form (is_injected p) n q)
apart_images sig sorts g p q sort n ok free c e d other count few =
    let one : IsOfSide sig sorts g false p sort =
    of_side sig sorts g false p sort ok free c (first_has_side sig.subsorts p q d) in
    let two : IsOfSide sig sorts g (is_injected p) q sort =
    of_side sig sorts g (is_injected p) q sort ok free e (second_has_side sig.subsorts p q d) in
    let next : n ≡ length (side_sorts (side_at false p one.ss)) =
    count ∙ one.many ∙ ap length (sym one.listed) in
    record {
      sorts = one.ss ++ two.ss;
      apart = record {
        sort = sort;
        one = side_at false p one.ss;
        other = side_at (is_injected p) q two.ss;
        is_one = one.is;
        is_other = two.is;
        differ = sides_differ sig p q one.ss two.ss d other;
        first = one.form 0;
        second =
            two.form n
            ∙ ap (λ (k : ℕ). side_pattern sort k (side_at (is_injected p) q two.ss)) next;
        sorts_are =
            ap (λ (xs : List ℕ). xs ++ two.ss) (sym one.listed)
            ∙ ap (λ (xs : List ℕ). side_sorts (side_at false p one.ss) ++ xs) (sym two.listed);
      };
      left =
          side_image sig (length sorts) (2 ^ 32) 0 false p
          (sorted_has_image sig sorts p sort ok c.sorted) (first_has_side sig.subsorts p q d)
          (omega (arith, few, count));
      right =
          side_image sig (length sorts) (2 ^ 32) n (is_injected p) q
          (sorted_has_image sig sorts q sort ok e.sorted) (second_has_side sig.subsorts p q d) few;
      are_sorts = AreSorts-append sig one.ss two.ss one.are_sorts two.are_sorts;
      few = omega (arith, few, count, one.many, two.many, length-append one.ss two.ss);
    }
