-- The scope of a text: the names that it has declared, and what it has stated. A theorem within the
-- scope may be proved.
use Rattle.std.proofs.Common.{◌≡◌, ◌<◌, ℕ, Bool, true, false, map, List, [], ◌∷◌, Some, length}
use Rattle.std.proofs.Common.{take, zero, suc, slice_get, refl, sym, ap, ◌∙◌, subst, arith}
use Rattle.std.specs.Prelude.{Contains, nat_lt, ◌&&◌, ◌==◌, if◌then◌else◌, codes, get_or}
use Rattle.std.proofs.lemmas.Option.{get_or_from_slice_get, slice_get_within}
use Rattle.std.proofs.Math.Seq.{take-length}
use Rattle.std.proofs.lemmas.List.Elements.{Contains-append_left}
use Rattle.mm_text.specs.Bytes.{Token}
use Rattle.ml_pat.specs.Patterns.{Pattern}
use Rattle.ml_pat.specs.Leaves.{LeafFacts, EachLeaf}
use Rattle.ml_pat.proofs.LeafLaws.{Implies, EachLeaf-implied, both_true, split_true}
use Rattle.ml_kernel.specs.Rules.{Instance, pattern, variable, sort}
use Rattle.ml_kernel.specs.Theorems.{Theorem, Derivation, Derivations, hypothesis, own_axiom}
use Rattle.ml_kernel.specs.Theorems.{by_rule, cited, no_derivation, more_derivations}
use Rattle.ml_kernel.specs.UsedLeaves.{EachInstance, EachUsed, AllUsed}
use Rattle.ml_kernel.specs.MayCite.{EachCited, AllCited}
use Rattle.ml_derived.specs.Scopes.{Scope, leaves_of, cites_of, IsOver, AreOver, IsStatedIn}
use Rattle.ml_derived.specs.Scopes.{AreAssumed, IsWithin}
use Rattle.mm_justify.specs.ImageLaws.{SentenceIsOver}
use Rattle.prove_term.specs.Contexts.{Context, HasContext}
use Rattle.proof_writer.specs.declared.writer.Writer.{Writer}
use Rattle.proof_writer.specs.Writing.{HasStated}
use Rattle.mm_proof.specs.Tokens.{name_of}
use Rattle.mm_claims.specs.Statements.{typecode_of}
use Rattle.mm_claims.specs.Blocks.{Stated}
use Rattle.mm_claims.specs.Rendered.{Rendered, all_stated}
use Rattle.mm_claims.specs.OverNames.{over_names, AreOverNames}
use Rattle.mm_claims.specs.Places.{IsStated, MayProve, stated_cites}

-- the token is the token of a sort
abbrev pub names_sort : Token → Bool
names_sort [] = false
names_sort (b ∷ bytes) = b == 115

abbrev pub names_other : Token → Bool
names_other [] = true
names_other (b ∷ bytes) = if b == 115 then false else true

abbrev pub pair_of : Stated → List Pattern × Pattern
pair_of s = (s.claim.hypotheses, s.claim.conclusion)

abbrev pub scope_of : List Token → List Stated → List Pattern → Scope
scope_of names claims assumed = record {
  sort = λ i. nat_lt i (length names) && names_sort (name_of names i);
  constant = λ i. nat_lt i (length names) && names_other (name_of names i);
  object = λ i. true;
  meta = λ i. true;
  stated = map pair_of claims;
  assumed = assumed;
}

-- ---- leaves

lt_to : (i n : ℕ) → nat_lt i n ≡ true → i < n
lt_to i n h = grind (arith, h)

lt_from : (i n : ℕ) → i < n → nat_lt i n ≡ true
lt_from i n h = grind (arith, h)

sort_to : (t : Token) → names_sort t ≡ true → typecode_of t ≡ codes "#Sort"
sort_to [] h = absurd (cc)
sort_to (b ∷ bytes) h = go (b == 115) h
  where
    go : (is : Bool) → is ≡ true → (if is then codes "#Sort" else codes "#Pattern") ≡ codes "#Sort"
    go true k = refl
    go false k = absurd (cc)

sort_from : (t : Token) → typecode_of t ≡ codes "#Sort" → names_sort t ≡ true
sort_from [] h = absurd (cc)
sort_from (b ∷ bytes) h = go (b == 115) h
  where
    go : (is : Bool) → (if is then codes "#Sort" else codes "#Pattern") ≡ codes "#Sort" → is ≡ true
    go true k = refl
    go false k = absurd (cc)

other_to : (t : Token) → names_other t ≡ true → typecode_of t ≡ codes "#Pattern"
other_to [] h = refl
other_to (b ∷ bytes) h = go (b == 115) h
  where
    go : (is : Bool) → (if is then false else true) ≡ true
        → (if is then codes "#Sort" else codes "#Pattern") ≡ codes "#Pattern"
    go true k = absurd (cc)
    go false k = refl

other_from : (t : Token) → typecode_of t ≡ codes "#Pattern" → names_other t ≡ true
other_from [] h = refl
other_from (b ∷ bytes) h = go (b == 115) h
  where
    go : (is : Bool) → (if is then codes "#Sort" else codes "#Pattern") ≡ codes "#Pattern"
        → (if is then false else true) ≡ true
    go true k = absurd (cc)
    go false k = refl

leaves_to : (names : List Token) (claims : List Stated) (assumed : List Pattern)
    → Implies (leaves_of (scope_of names claims assumed)) (over_names names)
leaves_to names claims assumed = record {
  sort = λ i h.
      let parts : (nat_lt i (length names) ≡ true) × (names_sort (name_of names i) ≡ true) =
      split_true (nat_lt i (length names)) (names_sort (name_of names i)) h in
      (lt_to i (length names) parts.0, sort_to (name_of names i) parts.1);
  constant = λ i h.
      let parts : (nat_lt i (length names) ≡ true) × (names_other (name_of names i) ≡ true) =
      split_true (nat_lt i (length names)) (names_other (name_of names i)) h in
      (lt_to i (length names) parts.0, other_to (name_of names i) parts.1);
  object = λ i h. tt;
  meta = λ i h. tt;
}

leaves_from : (names : List Token) (claims : List Stated) (assumed : List Pattern)
    → Implies (over_names names) (leaves_of (scope_of names claims assumed))
leaves_from names claims assumed = record {
  sort =
      λ i h. both_true (nat_lt i (length names)) (names_sort (name_of names i))
      (lt_from i (length names) h.0) (sort_from (name_of names i) h.1);
  constant =
      λ i h. both_true (nat_lt i (length names)) (names_other (name_of names i))
      (lt_from i (length names) h.0) (other_from (name_of names i) h.1);
  object = λ i h. refl;
  meta = λ i h. refl;
}

-- a pattern over the names is over the scope; the converse follows below
pub over_from : (names : List Token) (claims : List Stated) (assumed : List Pattern) (p : Pattern)
    → EachLeaf (over_names names) p → IsOver (scope_of names claims assumed) p
over_from names claims assumed p h =
    EachLeaf-implied (over_names names) (leaves_of (scope_of names claims assumed)) p
    (leaves_from names claims assumed) h

pub over_to : (names : List Token) (claims : List Stated) (assumed : List Pattern) (p : Pattern)
    → IsOver (scope_of names claims assumed) p → EachLeaf (over_names names) p
over_to names claims assumed p h =
    EachLeaf-implied (leaves_of (scope_of names claims assumed)) (over_names names) p
    (leaves_to names claims assumed) h

over_all_to : (names : List Token) (claims : List Stated) (assumed : List Pattern)
    (ps : List Pattern) → AreOver (scope_of names claims assumed) ps → AreOverNames names ps
over_all_to names claims assumed [] h = tt
over_all_to names claims assumed (p ∷ ps) h =
    (over_to names claims assumed p h.0, over_all_to names claims assumed ps h.1)

-- ---- what a derivation uses

instances_implied : (f g : LeafFacts) (is : List Instance) → Implies f g → EachInstance f is
    → EachInstance g is
instances_implied f g [] i h = tt
instances_implied f g (pattern p ∷ is) i h =
    (EachLeaf-implied f g p i h.0, instances_implied f g is i h.1)
instances_implied f g (variable x ∷ is) i h = (i.object x h.0, instances_implied f g is i h.1)
instances_implied f g (sort s ∷ is) i h = (i.sort s h.0, instances_implied f g is i h.1)

mutual
  used_implied : (f g : LeafFacts) (d : Derivation) → Implies f g → EachUsed f d → EachUsed g d
  used_implied f g (hypothesis p) i h = tt
  used_implied f g (own_axiom n p new) i h = tt
  used_implied f g (by_rule r is ds) i h =
      (instances_implied f g is i h.0, all_used_implied f g ds i h.1)
  used_implied f g (cited own q d ms ds) i h = all_used_implied f g ds i h

  all_used_implied : (f g : LeafFacts) (ds : Derivations) → Implies f g → AllUsed f ds
      → AllUsed g ds
  all_used_implied f g no_derivation i h = tt
  all_used_implied f g (more_derivations d ds) i h =
      (used_implied f g d i h.0, all_used_implied f g ds i h.1)

-- ---- what it cites

mapped : (claims : List Stated) (i : ℕ) (x : List Pattern × Pattern)
    → slice_get (map pair_of claims) i ≡ Some x
    → (c : Stated) × (slice_get claims i ≡ Some c) × (pair_of c ≡ x)
mapped [] i x h = absurd (cc)
mapped (c ∷ claims) zero x h = (c, refl, some_same (pair_of c) x h)
  where
    some_same : {A : Type 0} (a b : A) → Some a ≡ Some b → a ≡ b
    some_same a b k = cc
mapped (c ∷ claims) (suc i) x h = mapped claims i x h

there_from : {A : Type 0} (xs : List A) (i : ℕ) (x : A) → i < length xs → get_or xs i x ≡ x
    → slice_get xs i ≡ Some x
there_from [] i x h k = absurd (omega (arith, h))
there_from (y ∷ xs) zero x h k = ap (λ z. Some z) k
there_from (y ∷ xs) (suc i) x h k = there_from xs i x (omega (arith, h)) k

-- an item at a place is contained in the list
pub contained : {A : Type 0} (xs : List A) (i : ℕ) (x : A) → slice_get xs i ≡ Some x → Contains xs x
contained {A} xs i x h = (i, slice_get_within xs i x h, get_or_from_slice_get xs i x x h)

stated_to : (names : List Token) (claims : List Stated) (assumed : List Pattern)
    (own : List Pattern) (q : Pattern) → IsStatedIn (scope_of names claims assumed) own q
    → IsStated claims own q
stated_to names claims assumed own q (i, within, is) =
    let there : (c : Stated) × (slice_get claims i ≡ Some c) × (pair_of c ≡ (own, q)) =
    mapped claims i (own, q) (there_from (map pair_of claims) i (own, q) within is) in (
      there.0,
      record {
        there = contained claims i there.0 there.1;
        hypotheses_are = ap (λ (x : List Pattern × Pattern). x.0) there.2;
        conclusion_is = ap (λ (x : List Pattern × Pattern). x.1) there.2;
      },
    )

mapped_there : (claims : List Stated) (i : ℕ) (c : Stated) → slice_get claims i ≡ Some c
    → slice_get (map pair_of claims) i ≡ Some (pair_of c)
mapped_there [] i c h = absurd (cc)
mapped_there (d ∷ claims) zero c h = ap (λ (x : Stated). Some (pair_of x)) (same d c h)
  where
    same : (a b : Stated) → Some a ≡ Some b → a ≡ b
    same a b k = cc
mapped_there (d ∷ claims) (suc i) c h = mapped_there claims i c h

pub stated_from : (names : List Token) (claims : List Stated) (assumed : List Pattern)
    (own : List Pattern) (q : Pattern) → IsStated claims own q
    → IsStatedIn (scope_of names claims assumed) own q
stated_from names claims assumed own q (c, at) =
    let i : ℕ = at.there.0 in
    let is : pair_of c ≡ (own, q) =
    ap (λ (hs : List Pattern). (hs, c.claim.conclusion)) at.hypotheses_are
    ∙ ap (λ (p : Pattern). (own, p)) at.conclusion_is in
    let there : slice_get (map pair_of claims) i ≡ Some (own, q) =
    mapped_there claims i c (there_from claims i c at.there.1 at.there.2)
    ∙ ap (λ (x : List Pattern × Pattern). Some x) is in (
      i,
      slice_get_within (map pair_of claims) i (own, q) there,
      get_or_from_slice_get (map pair_of claims) i (own, q) (own, q) there,
    )

mutual
  cited_to : (names : List Token) (claims : List Stated) (assumed : List Pattern) (d : Derivation)
      → EachCited (cites_of (scope_of names claims assumed)) d
      → EachCited (stated_cites names claims) d
  cited_to names claims assumed (hypothesis p) h = tt
  cited_to names claims assumed (own_axiom n p new) h = stated_to names claims assumed [] p h
  cited_to names claims assumed (by_rule r is ds) h = all_cited_to names claims assumed ds h
  cited_to names claims assumed (cited own q d ms ds) h = (
    (stated_to names claims assumed own q h.0.0, over_all_to names claims assumed ms h.0.1),
    all_cited_to names claims assumed ds h.1,
  )

  all_cited_to : (names : List Token) (claims : List Stated) (assumed : List Pattern)
      (ds : Derivations) → AllCited (cites_of (scope_of names claims assumed)) ds
      → AllCited (stated_cites names claims) ds
  all_cited_to names claims assumed no_derivation h = tt
  all_cited_to names claims assumed (more_derivations d ds) h =
      (cited_to names claims assumed d h.0, all_cited_to names claims assumed ds h.1)

-- ---- theorems within the scope

take_all : {X : Type 0} (n : ℕ) (xs : List X) → n ≡ length xs → take n xs ≡ xs
take_all {X} n xs h = subst (λ (m : ℕ). take m xs ≡ xs) (sym h) (take-length xs)

hypotheses_over : (names : List Token) (claims : List Stated) (assumed ps : List Pattern) →
    ((p : Pattern) → Contains ps p → IsOver (scope_of names claims assumed) p)
    → AreOverNames names ps
hypotheses_over names claims assumed [] h = tt
hypotheses_over names claims assumed (p ∷ ps) h = (
  over_to names claims assumed p (h p (0, omega arith, refl)),
  hypotheses_over names claims assumed ps (λ q k. h q (suc k.0, omega (arith, k.1), k.2)),
)

-- a theorem within the scope may be proved
pub may_prove : (names : List Token) (k : Rendered) (t : Theorem) (assumed : List Pattern)
    → k.begun ≡ true → k.named ≡ length names → IsWithin (scope_of names (all_stated k) assumed) t
    → MayProve names k t
may_prove names k t assumed begun named within =
    let s : Scope = scope_of names (all_stated k) assumed in
    let over : AreOverNames names (t.conclusion ∷ t.hypotheses) = (
      over_to names (all_stated k) assumed t.conclusion within.conclusion,
      hypotheses_over names (all_stated k) assumed t.hypotheses
          (λ p h. (within.hypotheses p h).1),
    ) in
    let back : names ≡ take k.named names = sym (take_all k.named names named) in
    record {
      begun = begun;
      over = subst (λ (ns : List Token). AreOverNames ns (t.conclusion ∷ t.hypotheses)) back over;
      used = subst (λ (ns : List Token). EachUsed (over_names ns) t.derivation) back
          (used_implied (leaves_of s) (over_names names) t.derivation
          (leaves_to names (all_stated k) assumed) within.used);
      cites =
          subst (λ (ns : List Token). EachCited (stated_cites ns (all_stated k)) t.derivation) back
          (cited_to names (all_stated k) assumed t.derivation within.cited);
    }

nothing_there : (names : List Token) (claims : List Stated) (ps : List Pattern)
    → AreAssumed (scope_of names claims []) ps → ps ≡ []
nothing_there names claims [] h = refl
nothing_there names claims (p ∷ ps) h = absurd (omega (arith, (h p (0, omega arith, refl)).0.1))

-- a theorem within a scope without assumptions assumes nothing
pub assumes_nothing : (names : List Token) (claims : List Stated) (t : Theorem)
    → IsWithin (scope_of names claims []) t → t.hypotheses ≡ []
assumes_nothing names claims t h = nothing_there names claims t.hypotheses h.hypotheses

-- ---- contexts

pub may_be_cited : (k : Rendered) (hypotheses : List Pattern) (conclusion : Pattern)
    → IsStated k.stated hypotheses conclusion → IsStated (all_stated k) hypotheses conclusion
may_be_cited k hypotheses conclusion (s, at) = (
  s,
  record {
    there = Contains-append_left k.stated k.last s at.there;
    hypotheses_are = at.hypotheses_are;
    conclusion_is = at.conclusion_is;
  },
)

-- if all of a context is stated, the scope has the context
pub has_context : (cx : Context) (w : Writer) (assumed : List Pattern)
    → ((p : Pattern) → Contains cx.axioms p → IsStated (all_stated w.renderer) [] p)
    → ((t : Theorem) → Contains cx.lemmas t
    → IsStated (all_stated w.renderer) t.hypotheses t.conclusion) → SentenceIsOver
    → HasContext (scope_of cx.names (all_stated w.renderer) assumed) cx
has_context cx w assumed axioms lemmas over = record {
  images =
      λ q p h.
      over_from cx.names (all_stated w.renderer) assumed p (over cx.program.sig cx.names q p h);
  objects = λ x. refl;
  metas = λ i. refl;
  axioms = λ p h. stated_from cx.names (all_stated w.renderer) assumed [] p (axioms p h);
  lemmas =
      λ t h. stated_from cx.names (all_stated w.renderer) assumed t.hypotheses t.conclusion
      (lemmas t h);
}

pub has_stated : (names : List Token) (k : Rendered) (assumed : List Pattern)
    → HasStated (scope_of names (all_stated k) assumed) k
has_stated names k assumed hypotheses conclusion h =
    stated_from names (all_stated k) assumed hypotheses conclusion h
