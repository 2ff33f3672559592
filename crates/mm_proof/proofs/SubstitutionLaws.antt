-- The proofs of substitution.
use Rattle.std.proofs.Common.{◌≡◌, ℕ, Bool, true, false, List, [], ◌∷◌, ◌++◌, refl, ap, ◌∙◌, sym}
use Rattle.std.proofs.Common.{Option, Some, None, subst, eqb-true}
use Rattle.std.proofs.Common as std
use Rattle.std.specs.Prelude.{◌==◌, ◌||◌, ◌&&◌, if◌then◌else◌, codes, option_map}
use Rattle.std.proofs.lemmas.Bool.{false≢true}
use Rattle.mm_text.specs.Bytes.{Token}
use Rattle.mm_database.specs.Database.{Context}
use Rattle.mm_database.specs.Proofs.{Expression, Proves, symbols_apart, texts_apart, keeps_apart}
use Rattle.mm_database.specs.Frames.{Hypothesis}
use Rattle.ml_pat.specs.Patterns.{Quantifier, Ex, All, Pattern, nullary, unary, binary, sorted}
use Rattle.ml_pat.specs.Patterns.{quantified, var, meta, constant}
use Rattle.ml_pat.specs.Judgements.{fresh, substituted, both_parts}
use Rattle.mm_proof.specs.Tokens.{Naming, letters_of, unary_name, binary_name, sorted_name}
use Rattle.mm_proof.specs.Tokens.{quantifier_name}
use Rattle.mm_proof.specs.Judgements.{Judgement, is_fresh, is_substituted, judgement_by}
use Rattle.ml_pat.specs.Leaves.{LeafFacts, EachLeaf}
use Rattle.mm_proof.specs.Serving.{Serves}
use Rattle.mm_proof.specs.Trees.{cite, syntax_tree, fresh_tree, unchanged_tree, substitution_tree}
use Rattle.mm_proof.specs.Trees.{substitution_by_form}
use Rattle.mm_proof.proofs.Schemes.{under}
use Rattle.mm_proof.proofs.RowProofs.{sigma_of, row_proves}
use Rattle.mm_proof.proofs.SyntaxLaws.{pattern_text, sort_text, object_text, sort_proves}
use Rattle.mm_proof.proofs.SyntaxLaws.{object_proves, syntax_proves}
use Rattle.ml_pat.proofs.ReplacingLaws.{substituted-fresh}
use Rattle.mm_proof.proofs.ApartLaws.{turned}
use Rattle.mm_proof.proofs.FreshLaws.{fresh_text, fresh_proves, two_apart}
use Rattle.mm_proof.proofs.Rows.{header_naming, no_pair, frame, IsRow, P, Q, R, T, U, fp, fq, fr}
use Rattle.mm_proof.proofs.Rows.{ft, fu, fx, fy, fs, su_v, su_f, su_binary, su_unary, su_sorted}
use Rattle.mm_proof.proofs.Rows.{su_pair, su_quantified}

-- t is p with u substituted for x
abbrev pub substitution_text : Naming → Pattern → Pattern → Pattern → ℕ → Expression
substitution_text n t p u x = judgement_by (letters_of n) (is_substituted t p u x)

-- a pattern in which x is not free
unchanged_proves : (c : Context) (l n : Naming) (known : LeafFacts) (x : ℕ) (u p : Pattern)
    → Serves c l n known → known.object x → EachLeaf known u → EachLeaf known p → fresh x p ≡ true
    → Proves c (unchanged_tree l x u p) (substitution_text n p p u x)
unchanged_proves c l n known x u p w hx hu hp f =
    row_proves c (codes "su.f") no_pair (fp ∷ fu ∷ fx ∷ []) (is_fresh 0 P ∷ [])
    (is_substituted P P U 0)
    (pattern_text n p ∷ pattern_text n u ∷ object_text n x ∷ fresh_text n x p ∷ []) _
    (syntax_tree l p ∷ syntax_tree l u ∷ cite (l.object x) [] ∷ fresh_tree l x p ∷ []) w.header
    su_f refl refl refl refl (
      _,
      _,
      refl,
      syntax_proves c l n p known w hp,
      (
        _,
        _,
        refl,
        syntax_proves c l n u known w hu,
        (
          _,
          _,
          refl,
          object_proves c l n x (w.object x hx),
          (_, _, refl, fresh_proves c l n known x p w hx hp f, refl),
        ),
      ),
    )

-- the variable itself
replaced_proves : (c : Context) (l n : Naming) (known : LeafFacts) (x : ℕ) (u : Pattern)
    → Serves c l n known → known.object x → EachLeaf known u
    → Proves c (cite (codes "su.v") (syntax_tree l u ∷ cite (l.object x) [] ∷ []))
    (substitution_text n u (var x) u x)
replaced_proves c l n known x u w hx hu =
    row_proves c (codes "su.v") no_pair (fu ∷ fx ∷ []) [] (is_substituted U (var 0) U 0)
    (pattern_text n u ∷ object_text n x ∷ []) _ (syntax_tree l u ∷ cite (l.object x) [] ∷ [])
    w.header su_v refl refl refl refl (
      _,
      _,
      refl,
      syntax_proves c l n u known w hu,
      (_, _, refl, object_proves c l n x (w.object x hx), refl),
    )

substituted_two : (c : Context) (l n : Naming) (name : Token) (k : Pattern → Pattern → Pattern)
    (x : ℕ) (u p q t r : Pattern) (known : LeafFacts) → Serves c l n known
    → IsRow name no_pair (fp ∷ fq ∷ fr ∷ ft ∷ fu ∷ fx ∷ [])
    (is_substituted T P U 0 ∷ is_substituted R Q U 0 ∷ []) (is_substituted (k T R) (k P Q) U 0)
    → judgement_by (under (sigma_of name (fp ∷ fq ∷ fr ∷ ft ∷ fu ∷ fx ∷ [])
    (is_substituted T P U 0 ∷ is_substituted R Q U 0 ∷ []) (pattern_text n p
    ∷ pattern_text n q ∷ pattern_text n r ∷ pattern_text n t ∷ pattern_text n u
    ∷ object_text n x ∷ substitution_text n t p u x ∷ substitution_text n r q u x
    ∷ [])) header_naming) (is_substituted (k T R) (k P Q) U 0)
    ≡ substitution_text n (k t r) (k p q) u x → known.object x → EachLeaf known u
    → EachLeaf known p → EachLeaf known q → EachLeaf known t → EachLeaf known r
    → Proves c (substitution_tree l x u p t) (substitution_text n t p u x)
    → Proves c (substitution_tree l x u q r) (substitution_text n r q u x)
    → Proves c (cite name (syntax_tree l p ∷ syntax_tree l q ∷ syntax_tree l r ∷ syntax_tree l t
    ∷ syntax_tree l u ∷ cite (l.object x) [] ∷ substitution_tree l x u p t
    ∷ substitution_tree l x u q r ∷ [])) (substitution_text n (k t r) (k p q) u x)
substituted_two c l n name k x u p q t r known w row same hx hu hp hq ht hr first second =
    row_proves c name no_pair (fp ∷ fq ∷ fr ∷ ft ∷ fu ∷ fx ∷ [])
    (is_substituted T P U 0 ∷ is_substituted R Q U 0 ∷ []) (is_substituted (k T R) (k P Q) U 0)
    (pattern_text n p ∷ pattern_text n q ∷ pattern_text n r ∷ pattern_text n t
    ∷ pattern_text n u ∷ object_text n x ∷ substitution_text n t p u x
    ∷ substitution_text n r q u x ∷ []) _ (syntax_tree l p ∷ syntax_tree l q
    ∷ syntax_tree l r ∷ syntax_tree l t ∷ syntax_tree l u ∷ cite (l.object x) []
    ∷ substitution_tree l x u p t ∷ substitution_tree l x u q r ∷ []) w.header row refl refl
    refl same (
      _,
      _,
      refl,
      syntax_proves c l n p known w hp,
      (
        _,
        _,
        refl,
        syntax_proves c l n q known w hq,
        (
          _,
          _,
          refl,
          syntax_proves c l n r known w hr,
          (
            _,
            _,
            refl,
            syntax_proves c l n t known w ht,
            (
              _,
              _,
              refl,
              syntax_proves c l n u known w hu,
              (
                _,
                _,
                refl,
                object_proves c l n x (w.object x hx),
                (_, _, refl, first, (_, _, refl, second, refl)),
              ),
            ),
          ),
        ),
      ),
    )

substituted_one : (c : Context) (l n : Naming) (name : Token) (k : Pattern → Pattern) (x : ℕ)
    (u p t : Pattern) (known : LeafFacts) → Serves c l n known
    → IsRow name no_pair (fp ∷ ft ∷ fu ∷ fx ∷ []) (is_substituted T P U 0 ∷ [])
    (is_substituted (k T) (k P) U 0)
    → judgement_by (under (sigma_of name (fp ∷ ft ∷ fu ∷ fx ∷ []) (is_substituted T P U 0 ∷ [])
    (pattern_text n p ∷ pattern_text n t ∷ pattern_text n u ∷ object_text n x
    ∷ substitution_text n t p u x ∷ [])) header_naming)
    (is_substituted (k T) (k P) U 0) ≡ substitution_text n (k t) (k p) u x → known.object x
    → EachLeaf known u → EachLeaf known p → EachLeaf known t
    → Proves c (substitution_tree l x u p t) (substitution_text n t p u x)
    → Proves c (cite name (syntax_tree l p ∷ syntax_tree l t ∷ syntax_tree l u
    ∷ cite (l.object x) [] ∷ substitution_tree l x u p t ∷ []))
    (substitution_text n (k t) (k p) u x)
substituted_one c l n name k x u p t known w row same hx hu hp ht below =
    row_proves c name no_pair (fp ∷ ft ∷ fu ∷ fx ∷ []) (is_substituted T P U 0 ∷ [])
    (is_substituted (k T) (k P) U 0) (pattern_text n p ∷ pattern_text n t ∷ pattern_text n u
    ∷ object_text n x ∷ substitution_text n t p u x ∷ []) _ (syntax_tree l p
    ∷ syntax_tree l t ∷ syntax_tree l u ∷ cite (l.object x) [] ∷ substitution_tree l x u p t
    ∷ []) w.header row refl refl refl same (
      _,
      _,
      refl,
      syntax_proves c l n p known w hp,
      (
        _,
        _,
        refl,
        syntax_proves c l n t known w ht,
        (
          _,
          _,
          refl,
          syntax_proves c l n u known w hu,
          (_, _, refl, object_proves c l n x (w.object x hx), (_, _, refl, below, refl)),
        ),
      ),
    )

substituted_sort : (c : Context) (l n : Naming) (name : Token) (k : Pattern → ℕ → Pattern) (x : ℕ)
    (u p t : Pattern) (s : ℕ) (known : LeafFacts) → Serves c l n known
    → IsRow name no_pair (fp ∷ ft ∷ fu ∷ fx ∷ fs ∷ []) (is_substituted T P U 0 ∷ [])
    (is_substituted (k T 0) (k P 0) U 0)
    → judgement_by (under (sigma_of name (fp ∷ ft ∷ fu ∷ fx ∷ fs ∷ []) (is_substituted T P U 0 ∷ [])
    (pattern_text n p ∷ pattern_text n t ∷ pattern_text n u ∷ object_text n x
    ∷ sort_text n s ∷ substitution_text n t p u x ∷ [])) header_naming)
    (is_substituted (k T 0) (k P 0) U 0) ≡ substitution_text n (k t s) (k p s) u x
    → known.object x → EachLeaf known u → EachLeaf known p → EachLeaf known t → known.sort s
    → Proves c (substitution_tree l x u p t) (substitution_text n t p u x)
    → Proves c (cite name (syntax_tree l p ∷ syntax_tree l t ∷ syntax_tree l u
    ∷ cite (l.object x) [] ∷ cite (l.sort s) [] ∷ substitution_tree l x u p t ∷ []))
    (substitution_text n (k t s) (k p s) u x)
substituted_sort c l n name k x u p t s known w row same hx hu hp ht hs below =
    row_proves c name no_pair (fp ∷ ft ∷ fu ∷ fx ∷ fs ∷ []) (is_substituted T P U 0 ∷ [])
    (is_substituted (k T 0) (k P 0) U 0) (pattern_text n p ∷ pattern_text n t ∷ pattern_text n u
    ∷ object_text n x ∷ sort_text n s ∷ substitution_text n t p u x ∷ []) _
    (syntax_tree l p ∷ syntax_tree l t ∷ syntax_tree l u ∷ cite (l.object x) []
    ∷ cite (l.sort s) [] ∷ substitution_tree l x u p t ∷ []) w.header row refl refl refl
    same (
      _,
      _,
      refl,
      syntax_proves c l n p known w hp,
      (
        _,
        _,
        refl,
        syntax_proves c l n t known w ht,
        (
          _,
          _,
          refl,
          syntax_proves c l n u known w hu,
          (
            _,
            _,
            refl,
            object_proves c l n x (w.object x hx),
            (_, _, refl, sort_proves c l n s (w.sort s hs), (_, _, refl, below, refl)),
          ),
        ),
      ),
    )

parted_texts : (c : Context) (a b : Token) → symbols_apart c a b ≡ true
    → texts_apart (symbols_apart c) (a ∷ []) (b ∷ []) ≡ true
parted_texts c a b h = rw h refl

substituted_under : (c : Context) (l n : Naming) (o : Quantifier) (known : LeafFacts) (x y s : ℕ)
    (u p t : Pattern)
    → Serves c l n known → known.object x → known.object y → known.sort s → EachLeaf known u
    → EachLeaf known p → EachLeaf known t → (x == y) ≡ false → fresh y u ≡ true
    → Proves c (substitution_tree l x u p t) (substitution_text n t p u x)
    → Proves c (cite (codes "su." ++ quantifier_name o)
    (syntax_tree l p ∷ syntax_tree l t ∷ syntax_tree l u
    ∷ cite (l.object x) [] ∷ cite (l.object y) [] ∷ cite (l.sort s) [] ∷ fresh_tree l y u
    ∷ substitution_tree l x u p t ∷ []))
    (substitution_text n (quantified o y s t) (quantified o y s p) u x)
substituted_under c l n o known x y s u p t w hx hy hs hu hp ht differ f below =
    let name : Token = codes "su." ++ quantifier_name o in
    let floats : List Hypothesis = fp ∷ ft ∷ fu ∷ fx ∷ fy ∷ fs ∷ [] in
    let js : List Judgement = is_fresh 1 U ∷ is_substituted T P U 0 ∷ [] in
    let j : Judgement = is_substituted (quantified o 1 0 T) (quantified o 1 0 P) U 0 in
    let es : List Expression = pattern_text n p ∷ pattern_text n t ∷ pattern_text n u
    ∷ object_text n x ∷ object_text n y ∷ sort_text n s ∷ fresh_text n y u
    ∷ substitution_text n t p u x ∷ [] in
    let a : Bool = texts_apart (symbols_apart c) (n.object x ∷ []) (n.object y ∷ []) in
    let b : Bool = texts_apart (symbols_apart c) (n.object y ∷ []) (n.object x ∷ []) in
    let apart : ((a && true) && ((b && true) && true)) ≡ true = two_apart a b
    (parted_texts c (n.object x) (n.object y) (w.objects_apart x y hx hy differ))
    (parted_texts c (n.object y) (n.object x) (w.objects_apart y x hy hx (turned x y differ))) in
    row_proves c name (su_pair o) floats js j es _
    (syntax_tree l p ∷ syntax_tree l t ∷ syntax_tree l u ∷ cite (l.object x) []
    ∷ cite (l.object y) [] ∷ cite (l.sort s) [] ∷ fresh_tree l y u
    ∷ substitution_tree l x u p t ∷ []) w.header (su_quantified o) refl
    (elim o as (λ k. keeps_apart (symbols_apart c) (frame name (su_pair k) floats js j)
    (sigma_of name floats js es) ≡ true) [ Ex ↦ apart | All ↦ apart ]) refl refl (
      _,
      _,
      refl,
      syntax_proves c l n p known w hp,
      (
        _,
        _,
        refl,
        syntax_proves c l n t known w ht,
        (
          _,
          _,
          refl,
          syntax_proves c l n u known w hu,
          (
            _,
            _,
            refl,
            object_proves c l n x (w.object x hx),
            (
              _,
              _,
              refl,
              object_proves c l n y (w.object y hy),
              (
                _,
                _,
                refl,
                sort_proves c l n s (w.sort s hs),
                (_, _, refl, fresh_proves c l n known y u w hy hu f, (_, _, refl, below, refl)),
              ),
            ),
          ),
        ),
      ),
    )

-- an option with a value was made from options with values

pub record BothParts (k : Pattern → Pattern → Pattern) (a b : Option Pattern) (r : Pattern) :
    Type 0 where
  pub first : Pattern
  pub second : Pattern
  pub first_is : a ≡ Some first
  pub second_is : b ≡ Some second
  pub whole : k first second ≡ r

both_parts_some : (k : Pattern → Pattern → Pattern) (a b : Option Pattern) (r : Pattern)
    → both_parts k a b ≡ Some r → BothParts k a b r
both_parts_some k None b r h = absurd (cc)
both_parts_some k (Some p) None r h = absurd (cc)
both_parts_some k (Some p) (Some q) r h = record {
  first = p;
  second = q;
  first_is = refl;
  second_is = refl;
  whole = cc;
}

pub record OnePart (k : Pattern → Pattern) (a : Option Pattern) (r : Pattern) : Type 0 where
  pub part : Pattern
  pub part_is : a ≡ Some part
  pub whole : k part ≡ r

one_part_some : (k : Pattern → Pattern) (a : Option Pattern) (r : Pattern) → option_map k a ≡ Some r
    → OnePart k a r
one_part_some k None r h = absurd (cc)
one_part_some k (Some p) r h = record { part = p; part_is = refl; whole = cc }

none_some : (r : Pattern) → None ≡ Some r → ⊥
none_some r h = cc

some_same : (p r : Pattern) → Some p ≡ Some r → p ≡ r
some_same p r h = cc

-- a pattern with u substituted for x, if it stays the same
unchanged_law : (c : Context) (l n : Naming) (known : LeafFacts) (x : ℕ) (u p r : Pattern)
    → Serves c l n known → known.object x → EachLeaf known u → EachLeaf known p → fresh x p ≡ true
    → Some p ≡ Some r → Proves c (unchanged_tree l x u p) (substitution_text n r p u x)
unchanged_law c l n known x u p r w hx hu hp f same =
    subst (λ (t : Pattern). Proves c (unchanged_tree l x u p) (substitution_text n t p u x))
    (some_same p r same) (unchanged_proves c l n known x u p w hx hu hp f)

-- if it changes, it is proved by its form
whole_or_form : (c : Context) (l n : Naming) (known : LeafFacts) (x : ℕ) (u p r : Pattern)
    → Serves c l n known → known.object x → EachLeaf known u → EachLeaf known p
    → substituted p x u ≡ Some r
    → (fresh x p ≡ false → Proves c (substitution_by_form l x u p r) (substitution_text n r p u x))
    → Proves c (substitution_tree l x u p r) (substitution_text n r p u x)
whole_or_form c l n known x u p r w hx hu hp h below = go (fresh x p) refl
  where
    go : (b : Bool) → fresh x p ≡ b
        → Proves c (if b then unchanged_tree l x u p else substitution_by_form l x u p r)
        (substitution_text n r p u x)
    go true is =
        unchanged_law c l n known x u p r w hx hu hp is (sym (substituted-fresh x u p is) ∙ h)
    go false is = below is

variable_law : (c : Context) (l n : Naming) (known : LeafFacts) (x y : ℕ) (u r : Pattern)
    → Serves c l n known → known.object x → EachLeaf known u → substituted (var y) x u ≡ Some r
    → fresh x (var y) ≡ false
    → Proves c (substitution_by_form l x u (var y) r) (substitution_text n r (var y) u x)
variable_law c l n known x y u r w hx hu h free = go (x == y) refl h free
  where
    go : (b : Bool) → (x == y) ≡ b → (if b then Some u else Some (var y)) ≡ Some r
        → std.not b ≡ false
        → Proves c (cite (codes "su.v") (syntax_tree l u ∷ cite (l.object x) [] ∷ []))
        (substitution_text n r (var y) u x)
    go true is same here =
        let made : Proves c (cite (codes "su.v") (syntax_tree l u ∷ cite (l.object x) [] ∷ []))
        (substitution_text n u (var x) u x) =
        replaced_proves c l n known x u w hx hu in
        let found : Proves c (cite (codes "su.v") (syntax_tree l u ∷ cite (l.object x) [] ∷ []))
        (substitution_text n r (var x) u x) =
        subst (λ (t : Pattern). Proves c
        (cite (codes "su.v") (syntax_tree l u ∷ cite (l.object x) [] ∷ []))
        (substitution_text n t (var x) u x)) (some_same u r same) made in
        subst (λ (z : ℕ). Proves c
        (cite (codes "su.v") (syntax_tree l u ∷ cite (l.object x) [] ∷ []))
        (substitution_text n r (var z) u x)) (eqb-true x y is) found
    go false is same here = absurd (false≢true (sym here))

under_law : (c : Context) (l n : Naming) (o : Quantifier) (known : LeafFacts) (x y s : ℕ)
    (u p r : Pattern)
    → Serves c l n known → known.object x → EachLeaf known u → EachLeaf known (quantified o y s p)
    → EachLeaf known r → substituted (quantified o y s p) x u ≡ Some r → fresh x
    (quantified o y s p) ≡ false
    → ((t : Pattern) → EachLeaf known t → substituted p x u ≡ Some t
    → Proves c (substitution_tree l x u p t) (substitution_text n t p u x))
    → Proves c (substitution_by_form l x u (quantified o y s p) r)
    (substitution_text n r (quantified o y s p) u x)
under_law c l n o known x y s u p r w hx hu hp hr h free below =
    go (x == y) (fresh x p) (fresh y u) refl refl h free
  where
    go : (a b f : Bool) → (x == y) ≡ a → fresh y u ≡ f
        → (if a || b then Some (quantified o y s p)
        else (if f then option_map (quantified o y s) (substituted p x u) else None)) ≡ Some r
        → (a || b) ≡ false
        → Proves c (substitution_by_form l x u (quantified o y s p) r)
        (substitution_text n r (quantified o y s p) u x)
    go true b f same captured made is = absurd (false≢true (sym is))
    go false true f differ captured made is = absurd (false≢true (sym is))
    go false false true differ captured made is =
        let w' : OnePart (quantified o y s) (substituted p x u) r =
        one_part_some (quantified o y s) (substituted p x u) r made in
        subst (λ (r : Pattern). EachLeaf known r
        → Proves c (substitution_by_form l x u (quantified o y s p) r)
        (substitution_text n r (quantified o y s p) u x)) w'.whole
        (λ ht. substituted_under c l n o known x y s u p w'.part w hx hp.1.0 hp.1.1 hu hp.0 ht.0
        differ
        captured (below w'.part ht.0 w'.part_is)) hr
    go false false false differ captured made is = absurd (none_some r made)

pub substitution_proves : (c : Context) (l n : Naming) (known : LeafFacts) (x : ℕ) (u p r : Pattern)
    → Serves c l n known → known.object x → EachLeaf known u → EachLeaf known p → EachLeaf known r
    → substituted p x u ≡ Some r
    → Proves c (substitution_tree l x u p r) (substitution_text n r p u x)
substitution_proves c l n known x u (nullary o) r w hx hu hp hr h =
    unchanged_law c l n known x u (nullary o) r w hx hu tt refl h
substitution_proves c l n known x u (meta i) r w hx hu hp hr h =
    unchanged_law c l n known x u (meta i) r w hx hu hp refl h
substitution_proves c l n known x u (constant i) r w hx hu hp hr h =
    unchanged_law c l n known x u (constant i) r w hx hu hp refl h
substitution_proves c l n known x u (var y) r w hx hu hp hr h =
    whole_or_form c l n known x u (var y) r w hx hu hp h
    (variable_law c l n known x y u r w hx hu h)
substitution_proves c l n known x u (binary o p q) r w hx hu hp hr h =
    let made : BothParts (binary o) (substituted p x u) (substituted q x u) r =
    both_parts_some (binary o) (substituted p x u) (substituted q x u) r h in
    whole_or_form c l n known x u (binary o p q) r w hx hu hp h (λ free.
    subst (λ (r : Pattern). EachLeaf known r
    → Proves c (substitution_by_form l x u (binary o p q) r)
    (substitution_text n r (binary o p q) u x)) made.whole
    (λ ht. substituted_two c l n (codes "su." ++ binary_name o) (binary o) x u p q made.first
    made.second known w (su_binary o)
    refl hx hu hp.0 hp.1 ht.0 ht.1
    (substitution_proves c l n known x u p made.first w hx hu hp.0 ht.0 made.first_is)
    (substitution_proves c l n known x u q made.second w hx hu hp.1 ht.1 made.second_is))
    hr)
substitution_proves c l n known x u (unary o p) r w hx hu hp hr h =
    let made : OnePart (unary o) (substituted p x u) r = one_part_some (unary o) (substituted p x u)
    r h in
    whole_or_form c l n known x u (unary o p) r w hx hu hp h (λ free.
    subst (λ (r : Pattern). EachLeaf known r
    → Proves c (substitution_by_form l x u (unary o p) r) (substitution_text n r (unary o p) u x))
    made.whole
    (λ ht. substituted_one c l n (codes "su." ++ unary_name o) (unary o) x u p made.part known w
    (su_unary o) refl hx hu hp
    ht (substitution_proves c l n known x u p made.part w hx hu hp ht made.part_is)) hr)
substitution_proves c l n known x u (sorted o p s) r w hx hu hp hr h =
    let made : OnePart (λ t. sorted o t s) (substituted p x u) r =
    one_part_some (λ t. sorted o t s) (substituted p x u) r h in
    whole_or_form c l n known x u (sorted o p s) r w hx hu hp h (λ free.
    subst (λ (r : Pattern). EachLeaf known r
    → Proves c (substitution_by_form l x u (sorted o p s) r)
    (substitution_text n r (sorted o p s) u x)) made.whole
    (λ ht. substituted_sort c l n (codes "su." ++ sorted_name o) (sorted o) x u p made.part s known
    w (su_sorted o) refl hx hu
    hp.0 ht.0 hp.1
    (substitution_proves c l n known x u p made.part w hx hu hp.0 ht.0 made.part_is)) hr)
substitution_proves c l n known x u (quantified o y s p) r w hx hu hp hr h =
    whole_or_form c l n known x u (quantified o y s p) r w hx hu hp h
    (λ free. under_law c l n o known x y s u p r
    w hx hu hp hr h free
    (λ t ht is. substitution_proves c l n known x u p t w hx hu hp.0 ht is))
