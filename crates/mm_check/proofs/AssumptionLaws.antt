-- An assertion says what a program may assume exactly if its frame says no more than that.
use Rattle.std.proofs.Common.{◌≡◌, ℕ, zero, suc, Bool, true, false, map, List, [], ◌∷◌, refl, ap}
use Rattle.std.proofs.Common.{sym, ◌∙◌}
use Rattle.std.proofs.Common.{nat_eq}
use Rattle.std.specs.Prelude.{Option, Some, None, ◌&&◌, ◌||◌, not, bytes_eq, slice_get, option_map}
use Rattle.std.specs.Prelude.{codes}
use Rattle.std.specs.List.{list_any, list_all}
use Rattle.std.specs.Cmp.Derive.{both_true}
use Rattle.std.proofs.lemmas.Bool.{both_ways, false≢true, and_parts, eqb-true}
use Rattle.std.proofs.lemmas.Option.{slice_get-map}
use Rattle.std.proofs.lemmas.Slice.Eq.{bytes_eq-Decides}
use Rattle.mm_text.specs.Bytes.{Token, has_token}
use Rattle.mm_database.specs.Frames.{Frame}
use Rattle.mm_frame.specs.PlainFrames.{has_number, in_group, in_groups}
use Rattle.mm_scope.specs.ScopeState.{ScopeSymbol, ScopeState}
use Rattle.ml_pat.specs.Patterns.{Pattern}
use Rattle.ml_pat.specs.Leaves.{EachLeaf}
use Rattle.mm_proof.specs.Tokens.{object_token}
use Rattle.rule_core.specs.Theories.{RewriteTheory}
use Rattle.ml_image.specs.Assumed.{IsAssumed}
use Rattle.ml_image.specs.Sentences.{Sentence, sentence_image}
use Rattle.mm_justify.specs.Counting.{is_object}
use Rattle.mm_justify.specs.Stating.{variables_in, typed, holds_frame, holds_text, are_apart}
use Rattle.mm_justify.specs.Justifying.{premises_in, typecode_in, SaysNoMore, IsAxiomOf}
use Rattle.mm_justify.specs.Justifying.{assumption_of}
use Rattle.mm_check.specs.Stated.{PlainTyped, PlainStated, symbol_token}
use Rattle.mm_check.specs.StatedFrames.{IsStated}
use Rattle.mm_check.specs.RowTexts.{type_among, occurs}
use Rattle.mm_check.specs.AxiomTests.{are_objects, is_typed_object, numbers_of, is_known, all_apart}
use Rattle.mm_check.specs.AxiomTests.{has_object_types, SaysAssumption}
use Rattle.mm_check.proofs.RowLaws.{all_from, typed_some}
use Rattle.mm_check.proofs.RowFrames.{number_entry, typed_number, kept_apart}
use Rattle.mm_check.proofs.HeaderTexts.{all_at}
use Rattle.mm_check.proofs.ApartLaws.{group_apart, apart_group, number_at, has_number-at}
use Rattle.mm_check.proofs.ObjectTokens.{no_objects, image_leaves, object_in_text, object_only}

-- ---- the frame of an image

no_premises : (xs : List ℕ) → premises_in (map typed xs) ≡ []
no_premises [] = refl
no_premises (x ∷ xs) = no_premises xs

-- the type of the object variables
pub type_if : Bool → Option Token
type_if true = Some (codes "#Var")
type_if false = None

typed_as : (xs : List ℕ) (v : Token)
    → typecode_in (map typed xs) v ≡ type_if (has_token (map object_token xs) v)
unfolding type_if
typed_as [] v = refl
typed_as (x ∷ xs) v = go (bytes_eq (object_token x) v) refl (typed_as xs v)
  where
    go : (b : Bool) → bytes_eq (object_token x) v ≡ b
        → typecode_in (map typed xs) v ≡ type_if (has_token (map object_token xs) v)
        → typecode_in (map typed (x ∷ xs)) v ≡ type_if (has_token (map object_token (x ∷ xs)) v)
    go true e rest = rw e refl
    go false e rest = rw e rest

-- ---- entries

type_entry : (ts : List PlainTyped) (v k : Token) → type_among ts v ≡ Some k
    → (i : ℕ) × ((t : PlainTyped) × ((slice_get ts i ≡ Some t) × ((t.variable ≡ v)
    × (t.typecode ≡ k))))
type_entry [] v k is = let never : ⊥ = cc in absurd never
type_entry (t ∷ ts) v k is = go (bytes_eq t.variable v) refl (type_entry ts v k)
  where
    go : (b : Bool) → bytes_eq t.variable v ≡ b
        → (type_among ts v ≡ Some k → (i : ℕ) × ((u : PlainTyped) × ((slice_get ts i ≡ Some u)
        × ((u.variable ≡ v) × (u.typecode ≡ k)))))
        → (i : ℕ) × ((u : PlainTyped) × ((slice_get (t ∷ ts) i ≡ Some u) × ((u.variable ≡ v)
        × (u.typecode ≡ k))))
    go true same rest =
        let here : Some t.typecode ≡ Some k = rw same at is in
        let code : t.typecode ≡ k = cc in
        (0, (t, (refl, ((bytes_eq-Decides t.variable v).0 same, code))))
    go false other rest =
        let later : type_among ts v ≡ Some k = rw other at is in
        let found = rest later in (suc found.0, (found.1.0, found.1.1))

token_at : (ws : List Token) (v : Token) → has_token ws v ≡ true
    → (k : ℕ) × (slice_get ws k ≡ Some v)
token_at [] v has = absurd (false≢true has)
token_at (w ∷ ws) v has = go (bytes_eq w v) refl (token_at ws v)
  where
    go : (b : Bool) → bytes_eq w v ≡ b
        → (has_token ws v ≡ true → (k : ℕ) × (slice_get ws k ≡ Some v))
        → (k : ℕ) × (slice_get (w ∷ ws) k ≡ Some v)
    go true e rest = (0, ap Some ((bytes_eq-Decides w v).0 e))
    go false e rest =
        let later : has_token ws v ≡ true = rw e at has in
        let found = rest later in (suc found.0, found.1)

has_at : (ws : List Token) (k : ℕ) (v : Token) → slice_get ws k ≡ Some v → has_token ws v ≡ true
has_at [] k v there = let never : ⊥ = cc in absurd never
has_at (w ∷ ws) zero v there =
    let same : w ≡ v = cc in
    let here : bytes_eq w v ≡ true = (bytes_eq-Decides w v).1 same in rw here refl
has_at (w ∷ ws) (suc k) v there = go (bytes_eq w v) (has_at ws k v there)
  where
    go : (b : Bool) → has_token ws v ≡ true → (b || has_token ws v) ≡ true
    go true h = refl
    go false h = h

-- the item behind a place of a mapped list
mapped_at : {X Y : Type 0} (f : X → Y) (xs : List X) (k : ℕ) (y : Y)
    → slice_get (map f xs) k ≡ Some y → (x : X) × ((slice_get xs k ≡ Some x) × (f x ≡ y))
mapped_at {X} {Y} f xs k y there = go (slice_get xs k) refl (sym (slice_get-map f xs k) ∙ there)
  where
    go : (o : Option X) → slice_get xs k ≡ o → option_map f o ≡ Some y
        → (x : X) × ((slice_get xs k ≡ Some x) × (f x ≡ y))
    go None at h = let never : ⊥ = cc in absurd never
    go (Some x) at h = let same : f x ≡ y = cc in (x, (at, same))

some_same : {X : Type 0} {x y : X} → Some x ≡ Some y → x ≡ y
some_same h = cc

-- ---- the types of an assertion whose variables are object variables

-- what the tests of its variables say
record Objects (h : ScopeState) (s : PlainStated) : Type 0 where
  objects : are_objects s.types ≡ true
  apart : all_apart (in_groups h.disjoint) (numbers_of s.types) ≡ true
  known : list_all (is_known h.symbols (numbers_of s.types)) s.numbers ≡ true

objects_from : (h : ScopeState) (s : PlainStated) → has_object_types h s ≡ true → Objects h s
objects_from h s is =
    let parts = and_parts _ _ is in
    let others = and_parts _ _ parts.1 in
    record { objects = parts.0; apart = others.0; known = others.1 }

is_known_number : (symbols : List ScopeSymbol) (ns : List ℕ) (n : ℕ) → is_known symbols ns n ≡ true
    → is_object (symbol_token symbols n) ≡ true → has_number ns n ≡ true
is_known_number symbols ns n known is =
    let later : (not true || has_number ns n) ≡ true = rw is at known in later

pub typed_objects : (h : ScopeState) (s : PlainStated) (f : Frame)
    → IsStated (in_groups h.disjoint) s f → s.words ≡ map (symbol_token h.symbols) s.numbers
    → s.premises ≡ [] → has_object_types h s ≡ true → (v : Token)
    → type_among s.types v ≡ type_if (has_token s.words v && is_object v)
unfolding type_if
typed_objects h s f stated tokens none is v = go (type_among s.types v) refl
  where
    all : Objects h s
    all = objects_from h s is

    or_false : (b : Bool) → (b || false) ≡ b
    or_false true = refl
    or_false false = refl

    -- nothing is typed that is no object variable of the statement
    some : (k : Token) → type_among s.types v ≡ Some k
        → type_among s.types v ≡ type_if (has_token s.words v && is_object v)
    some k at =
        let e = type_entry s.types v k at in
        let test = and_parts _ _ (all_at is_typed_object s.types e.0 e.1.0 all.objects e.1.1.0) in
        let code : e.1.0.typecode ≡ codes "#Var" =
        (bytes_eq-Decides e.1.0.typecode (codes "#Var")).0 test.0 in
        let object : is_object v ≡ true = ap is_object (sym e.1.1.1.0) ∙ test.1 in
        let there : has_token s.words v ≡ true =
        sym (or_false (has_token s.words v))
        ∙ ap (λ (ps : List (List Token)). has_token s.words v
        || list_any (λ (ws : List Token). has_token ws v) ps) (sym none)
        ∙ ap (occurs s) (sym e.1.1.1.0) ∙ stated.occurring e.0 e.1.0 e.1.1.0 in
        rw (there, object) (at ∙ ap Some (sym e.1.1.1.1 ∙ code))

    -- each object variable of the statement is typed
    missing : type_among s.types v ≡ None → (b : Bool) → (has_token s.words v && is_object v) ≡ b
        → type_among s.types v ≡ type_if b
    missing at false e = at
    missing at true e =
        let both = and_parts _ _ e in
        let place = token_at s.words v both.0 in
        let one = mapped_at (symbol_token h.symbols) s.numbers place.0 v
        (ap (λ (ws : List Token). slice_get ws place.0) (sym tokens) ∙ place.1) in
        let other = mapped_at stated.name s.numbers place.0 v
        (ap (λ (ws : List Token). slice_get ws place.0) (sym stated.numbers) ∙ place.1) in
        let same : one.0 ≡ other.0 = some_same (sym one.1.0 ∙ other.1.0) in
        let known : has_number (numbers_of s.types) one.0 ≡ true =
        is_known_number h.symbols (numbers_of s.types) one.0
        (all_at (is_known h.symbols (numbers_of s.types)) s.numbers place.0 one.0 all.known one.1.0)
        (ap is_object one.1.1 ∙ both.1) in
        let found = number_at (numbers_of s.types) one.0 known in
        let entry = mapped_at (λ (t : PlainTyped). t.number) s.types found.0 one.0 found.1 in
        let variable : entry.0.variable ≡ v =
        stated.named found.0 entry.0 entry.1.0 ∙ ap stated.name (entry.1.1 ∙ same) ∙ other.1.1 in
        let typed = typed_some s.types found.0 entry.0 entry.1.0 in
        let here : type_among s.types v ≡ Some typed.0 =
        ap (type_among s.types) (sym variable) ∙ typed.1 in
        let never : ⊥ = cc in absurd never

    go : (o : Option Token) → type_among s.types v ≡ o
        → type_among s.types v ≡ type_if (has_token s.words v && is_object v)
    go (Some k) at = some k at
    go None at = missing at (has_token s.words v && is_object v) refl

-- two variables are kept apart
kept : (h : ScopeState) (s : PlainStated) (f : Frame) (x y k l : Token)
    → IsStated (in_groups h.disjoint) s f → all_apart (in_groups h.disjoint) (numbers_of s.types)
    ≡ true
    → type_among s.types x ≡ Some k → type_among s.types y ≡ Some l → bytes_eq x y ≡ false
    → f.apart x y ≡ true
kept h s f x y k l stated apart one other differ =
    let n = typed_number s.types x k one in
    let m = typed_number s.types y l other in
    let t = number_entry s.types x n.0 n.1 in
    let u = number_entry s.types y m.0 m.1 in
    kept_apart (in_groups h.disjoint) s f x y n.0 m.0 stated n.1 m.1
    ∙ apart_group (in_groups h.disjoint) (numbers_of s.types) apart n.0 m.0
    (has_number-at (numbers_of s.types) t.0 n.0 (numbered t.0 t.1.0 n.0 t.1.1.0 t.1.1.1.1))
    (has_number-at (numbers_of s.types) u.0 m.0 (numbered u.0 u.1.0 m.0 u.1.1.0 u.1.1.1.1))
    (other_number (nat_eq m.0 n.0) refl
    (sym t.1.1.1.0 ∙ stated.named t.0 t.1.0 t.1.1.0 ∙ ap stated.name t.1.1.1.1)
    (sym u.1.1.1.0 ∙ stated.named u.0 u.1.0 u.1.1.0 ∙ ap stated.name u.1.1.1.1))
  where
    numbered : (i : ℕ) (t : PlainTyped) (n : ℕ) → slice_get s.types i ≡ Some t → t.number ≡ n
        → slice_get (numbers_of s.types) i ≡ Some n
    numbered i t n there is =
        slice_get-map (λ (t : PlainTyped). t.number) s.types i
        ∙ ap (option_map (λ (t : PlainTyped). t.number)) there ∙ ap Some is

    other_number : {n m : ℕ} (b : Bool) → nat_eq m n ≡ b → x ≡ stated.name n → y ≡ stated.name m
        → nat_eq m n ≡ false
    other_number false e p q = e
    other_number {n} {m} true e p q =
        let same : x ≡ y = p ∙ ap stated.name (sym (eqb-true m n e)) ∙ sym q in
        absurd (both_ways (bytes_eq x y) differ ((bytes_eq-Decides x y).1 same))

pub assumption_axiom : (theory : RewriteTheory) (h : ScopeState) (s : PlainStated) (f : Frame)
    → IsStated (in_groups h.disjoint) s f → s.words ≡ map (symbol_token h.symbols) s.numbers
    → SaysAssumption theory h s → IsAxiomOf theory f
unfolding type_if
assumption_axiom theory h s f stated tokens says =
    assumption_of names says.said.sentence p says.said.assumed says.said.is_image (record {
      statement = stated.statement ∙ says.said.says;
      premises = stated.premises ∙ says.premises ∙ sym (no_premises (variables_in p));
      types = λ v. stated.types v
          ∙ typed_objects h s f stated tokens says.premises says.objects v ∙ sym (as_typed v);
      apart = λ x y apart. are_kept x y apart;
    })
  where
    names : List Token
    names = says.said.names

    p : Pattern
    p = says.said.image

    leaves : EachLeaf (no_objects names) p
    leaves = image_leaves theory.sig names says.said.sentence p says.said.is_image

    in_text : (v : Token) → has_token (map object_token (variables_in p)) v
        ≡ (has_token s.words v && is_object v)
    in_text v =
        object_in_text names p v leaves
        ∙ ap (λ (ws : List Token). has_token ws v && is_object v) (sym says.said.says)

    as_typed : (v : Token) → typecode_in (map typed (variables_in p)) v
        ≡ type_if (has_token s.words v && is_object v)
    as_typed v = typed_as (variables_in p) v ∙ ap type_if (in_text v)

    has_type : (v : Token) → has_token (map object_token (variables_in p)) v ≡ true
        → type_among s.types v ≡ Some (codes "#Var")
    has_type v there =
        typed_objects h s f stated tokens says.premises says.objects v
        ∙ ap type_if (sym (in_text v) ∙ there)

    not_true : (b : Bool) → not b ≡ true → b ≡ false
    not_true false is = refl
    not_true true is = absurd (false≢true is)

    are_kept : (x y : Token) → are_apart (variables_in p) x y ≡ true → f.apart x y ≡ true
    are_kept x y apart =
        let parts = and_parts _ _ apart in
        let both = and_parts _ _ parts.1 in
        kept h s f x y _ _ stated (objects_from h s says.objects).apart (has_type x both.0)
        (has_type y both.1) (not_true (bytes_eq x y) parts.0)

-- ---- the other way round

type_if-some : (b : Bool) (k : Token) → type_if b ≡ Some k → (b ≡ true) × (k ≡ codes "#Var")
unfolding type_if
type_if-some true k is = (refl, sym (some_same is))
type_if-some false k is = let never : ⊥ = cc in absurd never

pub said_assumption : (theory : RewriteTheory) (h : ScopeState) (s : PlainStated) (f : Frame)
    (names : List Token) (sentence : Sentence) (p : Pattern) → IsStated (in_groups h.disjoint) s f
    → s.words ≡ map (symbol_token h.symbols) s.numbers → IsAssumed theory sentence
    → sentence_image theory.sig names sentence ≡ Some p → SaysNoMore f (holds_frame names p)
    → SaysAssumption theory h s
unfolding type_if
said_assumption theory h s f names sentence p stated tokens assumed image no_more = record {
  said = record {
    names = names;
    sentence = sentence;
    image = p;
    assumed = assumed;
    is_image = image;
    says = says;
  };
  premises = sym stated.premises ∙ no_more.premises ∙ no_premises (variables_in p);
  objects = both_true objects (both_true apart known);
}
  where
    says : s.words ≡ holds_text names p
    says = sym stated.statement ∙ no_more.statement

    leaves : EachLeaf (no_objects names) p
    leaves = image_leaves theory.sig names sentence p image

    among : Token → Bool
    among v = has_token (map object_token (variables_in p)) v

    types : (v : Token) → type_among s.types v
        ≡ type_if (has_token (map object_token (variables_in p)) v)
    types v = sym (stated.types v) ∙ no_more.types v ∙ typed_as (variables_in p) v

    entry : (k : ℕ) (t : PlainTyped) → slice_get s.types k ≡ Some t
        → (has_token (map object_token (variables_in p)) t.variable ≡ true)
        × (t.typecode ≡ codes "#Var")
    entry k t there =
        type_if-some (has_token (map object_token (variables_in p)) t.variable) t.typecode
        (sym (types t.variable) ∙ stated.first k t there)

    objects : are_objects s.types ≡ true
    objects =
        all_from is_typed_object s.types (λ k t there.
        both_true ((bytes_eq-Decides t.typecode (codes "#Var")).1 (entry k t there).1)
        (object_only (variables_in p) t.variable (entry k t there).0))

    pair : (a b : ℕ) → in_group a b (numbers_of s.types) ≡ true
        → in_groups h.disjoint a b ≡ true
    pair a b group =
        let parts = and_parts _ _ group in
        let both = and_parts _ _ parts.1 in
        let i = number_at (numbers_of s.types) a both.0 in
        let j = number_at (numbers_of s.types) b both.1 in
        let t = mapped_at (λ (t : PlainTyped). t.number) s.types i.0 a i.1 in
        let u = mapped_at (λ (t : PlainTyped). t.number) s.types j.0 b j.1 in
        let here = entry i.0 t.0 t.1.0 in
        let there = entry j.0 u.0 u.1.0 in
        let one : t.0.variable ≡ stated.name a =
        stated.named i.0 t.0 t.1.0 ∙ ap stated.name t.1.1 in
        let other : u.0.variable ≡ stated.name b =
        stated.named j.0 u.0 u.1.0 ∙ ap stated.name u.1.1 in
        let differ : bytes_eq t.0.variable u.0.variable ≡ false =
        ap (λ (x : Token). bytes_eq x u.0.variable) one ∙ ap (bytes_eq (stated.name a)) other
        ∙ stated.naming a b ∙ not_true (nat_eq a b) parts.0 in
        let is : are_apart (variables_in p) t.0.variable u.0.variable ≡ true =
        rw (differ, here.0, there.0) refl in
        sym (stated.apart i.0 j.0 t.0 u.0 t.1.0 u.1.0
        ∙ ap (λ (n : ℕ). in_groups h.disjoint n u.0.number) t.1.1
        ∙ ap (in_groups h.disjoint a) u.1.1) ∙ no_more.apart t.0.variable u.0.variable is
      where
        not_true : (b : Bool) → not b ≡ true → b ≡ false
        not_true false is = refl
        not_true true is = absurd (false≢true is)

    apart : all_apart (in_groups h.disjoint) (numbers_of s.types) ≡ true
    apart = group_apart (in_groups h.disjoint) (numbers_of s.types) pair

    number : (k n : ℕ) → slice_get s.numbers k ≡ Some n
        → is_object (symbol_token h.symbols n) ≡ true → has_number (numbers_of s.types) n ≡ true
    number k n there is =
        let v : Token = symbol_token h.symbols n in
        let word : slice_get s.words k ≡ Some v =
        ap (λ (ws : List Token). slice_get ws k) tokens
        ∙ slice_get-map (symbol_token h.symbols) s.numbers k
        ∙ ap (option_map (symbol_token h.symbols)) there in
        let named : slice_get s.words k ≡ Some (stated.name n) =
        ap (λ (ws : List Token). slice_get ws k) stated.numbers
        ∙ slice_get-map stated.name s.numbers k ∙ ap (option_map stated.name) there in
        let found : has_token (map object_token (variables_in p)) v ≡ true =
        object_in_text names p v leaves
        ∙ both_true (ap (λ (ws : List Token). has_token ws v) (sym says) ∙ has_at s.words k v word)
        is in
        let typed : type_among s.types v ≡ Some (codes "#Var") = types v ∙ ap type_if found in
        let m = typed_number s.types v (codes "#Var") typed in
        let t = number_entry s.types v m.0 m.1 in
        let same : stated.name t.1.0.number ≡ stated.name n =
        sym (stated.named t.0 t.1.0 t.1.1.0) ∙ t.1.1.1.0 ∙ some_same (sym word ∙ named) in
        let equal : t.1.0.number ≡ n =
        eqb-true t.1.0.number n (sym (stated.naming t.1.0.number n)
        ∙ (bytes_eq-Decides (stated.name t.1.0.number) (stated.name n)).1 same) in
        has_number-at (numbers_of s.types) t.0 n
        (slice_get-map (λ (t : PlainTyped). t.number) s.types t.0
        ∙ ap (option_map (λ (t : PlainTyped). t.number)) t.1.1.0 ∙ ap Some equal)

    known : list_all (is_known h.symbols (numbers_of s.types)) s.numbers ≡ true
    known =
        all_from (is_known h.symbols (numbers_of s.types)) s.numbers (λ k n there.
        either (is_object (symbol_token h.symbols n)) (has_number (numbers_of s.types) n)
        (number k n there))
      where
        either : (a b : Bool) → (a ≡ true → b ≡ true) → (not a || b) ≡ true
        either false b h = refl
        either true b h = h refl
