-- The proofs that a variable is not free in a pattern.
use Rattle.std.proofs.Common.{◌≡◌, ℕ, Bool, true, false, [], ◌∷◌, ◌++◌, refl, sym, subst, eqb-true}
use Rattle.std.specs.Prelude.{◌==◌, ◌&&◌, ◌||◌, if◌then◌else◌, codes}
use Rattle.std.proofs.lemmas.Bool.{false≢true}
use Rattle.mm_text.specs.Bytes.{Token}
use Rattle.mm_database.specs.Database.{Context}
use Rattle.mm_database.specs.Proofs.{Expression, Proves, texts_apart, symbols_apart}
use Rattle.ml_pat.specs.Patterns.{Pattern, nullary, unary, binary, sorted, quantified, var, meta}
use Rattle.ml_pat.specs.Patterns.{constant}
use Rattle.ml_pat.specs.Judgements.{absent, fresh}
use Rattle.mm_proof.specs.Tokens.{Naming, letters_of, text_by, unary_name, binary_name, sorted_name}
use Rattle.mm_proof.specs.Tokens.{quantifier_name}
use Rattle.mm_proof.specs.Judgements.{is_fresh, judgement_by}
use Rattle.ml_pat.specs.Leaves.{LeafFacts, EachLeaf}
use Rattle.mm_proof.specs.Serving.{Serves}
use Rattle.mm_proof.specs.Trees.{cite, syntax_tree, absent_tree, fresh_tree, fresh_by_form}
use Rattle.mm_proof.proofs.Schemes.{under}
use Rattle.mm_proof.proofs.RowProofs.{sigma_of, row_proves}
use Rattle.mm_proof.proofs.SyntaxLaws.{pattern_text, sort_text, object_text, sort_proves}
use Rattle.mm_proof.proofs.SyntaxLaws.{object_proves, syntax_proves}
use Rattle.ml_pat.proofs.LeafLaws.{split_true, not_true, other_leaves, EachLeaf-absent}
use Rattle.mm_proof.proofs.ApartLaws.{text_apart, apart_text}
use Rattle.mm_proof.proofs.Rows.{header_naming, no_pair, pair_of, IsRow, P, Q, fp, fq, fx, fy, fs}
use Rattle.mm_proof.proofs.Rows.{fr_d, fr_binary, fr_unary, fr_sorted, fr_quantified}
use Rattle.mm_proof.proofs.Rows.{fr_quantified_bound}

abbrev pub fresh_text : Naming → ℕ → Pattern → Expression
fresh_text n x p = judgement_by (letters_of n) (is_fresh x p)

pub two_apart : (a b : Bool) → a ≡ true → b ≡ true → ((a && true) && ((b && true) && true)) ≡ true
two_apart a b h k = rw (h, k) refl

-- a variable that does not occur in a pattern is not free in it
pub absent_proves : (c : Context) (l n : Naming) (known : LeafFacts) (x : ℕ) (p : Pattern)
    → Serves c l n known → known.object x → EachLeaf known p → EachLeaf (other_leaves x known) p
    → Proves c (absent_tree l x p) (fresh_text n x p)
absent_proves c l n known x p w hx hp other =
    row_proves c (codes "fr.d")
    (pair_of (codes "x") (codes "p") (codes "fr.d") [] (codes "#Fresh x p")) (fp ∷ fx ∷ []) []
    (is_fresh 0 P) (pattern_text n p ∷ object_text n x ∷ []) (fresh_text n x p)
    (syntax_tree l p ∷ cite (l.object x) [] ∷ []) w.header fr_d refl
    (two_apart (texts_apart (symbols_apart c) (text_by (letters_of n) p) (n.object x ∷ []))
    (texts_apart (symbols_apart c) (n.object x ∷ []) (text_by (letters_of n) p))
    (apart_text c l n known x p w hx other) (text_apart c l n known x p w hx other))
    refl refl (
      _,
      _,
      refl,
      syntax_proves c l n p known w hp,
      (_, _, refl, object_proves c l n x (w.object x hx), refl),
    )

fresh_two : (c : Context) (l n : Naming) (name : Token) (k : Pattern → Pattern → Pattern) (x : ℕ)
    (p q : Pattern) (known : LeafFacts) → Serves c l n known
    → IsRow name no_pair (fp ∷ fq ∷ fx ∷ []) (is_fresh 0 P ∷ is_fresh 0 Q ∷ []) (is_fresh 0 (k P Q))
    → judgement_by (under (sigma_of name (fp ∷ fq ∷ fx ∷ []) (is_fresh 0 P ∷ is_fresh 0 Q ∷ [])
    (pattern_text n p ∷ pattern_text n q ∷ object_text n x ∷ fresh_text n x p
    ∷ fresh_text n x q ∷ [])) header_naming) (is_fresh 0 (k P Q))
    ≡ fresh_text n x (k p q) → known.object x → EachLeaf known p → EachLeaf known q
    → Proves c (fresh_tree l x p) (fresh_text n x p)
    → Proves c (fresh_tree l x q) (fresh_text n x q)
    → Proves c (cite name (syntax_tree l p ∷ syntax_tree l q ∷ cite (l.object x) []
    ∷ fresh_tree l x p ∷ fresh_tree l x q ∷ [])) (fresh_text n x (k p q))
fresh_two c l n name k x p q known w row same hx hp hq first second =
    row_proves c name no_pair (fp ∷ fq ∷ fx ∷ []) (is_fresh 0 P ∷ is_fresh 0 Q ∷ [])
    (is_fresh 0 (k P Q)) (pattern_text n p ∷ pattern_text n q ∷ object_text n x
    ∷ fresh_text n x p ∷ fresh_text n x q ∷ []) _ (syntax_tree l p ∷ syntax_tree l q
    ∷ cite (l.object x) [] ∷ fresh_tree l x p ∷ fresh_tree l x q ∷ []) w.header row refl
    refl refl same (
      _,
      _,
      refl,
      syntax_proves c l n p known w hp,
      (
        _,
        _,
        refl,
        syntax_proves c l n q known w hq,
        (
          _,
          _,
          refl,
          object_proves c l n x (w.object x hx),
          (_, _, refl, first, (_, _, refl, second, refl)),
        ),
      ),
    )

fresh_one : (c : Context) (l n : Naming) (name : Token) (k : Pattern → Pattern) (x : ℕ)
    (p : Pattern) (known : LeafFacts) → Serves c l n known
    → IsRow name no_pair (fp ∷ fx ∷ []) (is_fresh 0 P ∷ []) (is_fresh 0 (k P))
    → judgement_by (under (sigma_of name (fp ∷ fx ∷ []) (is_fresh 0 P ∷ [])
    (pattern_text n p ∷ object_text n x ∷ fresh_text n x p ∷ [])) header_naming)
    (is_fresh 0 (k P)) ≡ fresh_text n x (k p) → known.object x → EachLeaf known p
    → Proves c (fresh_tree l x p) (fresh_text n x p)
    → Proves c (cite name (syntax_tree l p ∷ cite (l.object x) [] ∷ fresh_tree l x p ∷ []))
    (fresh_text n x (k p))
fresh_one c l n name k x p known w row same hx hp below =
    row_proves c name no_pair (fp ∷ fx ∷ []) (is_fresh 0 P ∷ []) (is_fresh 0 (k P))
    (pattern_text n p ∷ object_text n x ∷ fresh_text n x p ∷ []) _
    (syntax_tree l p ∷ cite (l.object x) [] ∷ fresh_tree l x p ∷ []) w.header row refl refl refl
    same (
      _,
      _,
      refl,
      syntax_proves c l n p known w hp,
      (_, _, refl, object_proves c l n x (w.object x hx), (_, _, refl, below, refl)),
    )

fresh_sort : (c : Context) (l n : Naming) (name : Token) (k : Pattern → ℕ → Pattern) (x : ℕ)
    (p : Pattern) (s : ℕ) (known : LeafFacts) → Serves c l n known
    → IsRow name no_pair (fp ∷ fx ∷ fs ∷ []) (is_fresh 0 P ∷ []) (is_fresh 0 (k P 0))
    → judgement_by (under (sigma_of name (fp ∷ fx ∷ fs ∷ []) (is_fresh 0 P ∷ [])
    (pattern_text n p ∷ object_text n x ∷ sort_text n s ∷ fresh_text n x p ∷ []))
    header_naming) (is_fresh 0 (k P 0)) ≡ fresh_text n x (k p s) → known.object x
    → EachLeaf known p → known.sort s → Proves c (fresh_tree l x p) (fresh_text n x p)
    → Proves c (cite name
    (syntax_tree l p ∷ cite (l.object x) [] ∷ cite (l.sort s) [] ∷ fresh_tree l x p ∷ []))
    (fresh_text n x (k p s))
fresh_sort c l n name k x p s known w row same hx hp hs below =
    row_proves c name no_pair (fp ∷ fx ∷ fs ∷ []) (is_fresh 0 P ∷ []) (is_fresh 0 (k P 0))
    (pattern_text n p ∷ object_text n x ∷ sort_text n s ∷ fresh_text n x p ∷ []) _
    (syntax_tree l p ∷ cite (l.object x) [] ∷ cite (l.sort s) [] ∷ fresh_tree l x p ∷ [])
    w.header row refl refl refl same (
      _,
      _,
      refl,
      syntax_proves c l n p known w hp,
      (
        _,
        _,
        refl,
        object_proves c l n x (w.object x hx),
        (_, _, refl, sort_proves c l n s (w.sort s hs), (_, _, refl, below, refl)),
      ),
    )

-- under a quantifier of the same variable, and of another one
fresh_bound : (c : Context) (l n : Naming) (name : Token) (k : ℕ → ℕ → Pattern → Pattern) (x s : ℕ)
    (p : Pattern) (known : LeafFacts) → Serves c l n known
    → IsRow name no_pair (fp ∷ fx ∷ fs ∷ []) ([]) (is_fresh 0 (k 0 0 P))
    → judgement_by (under (sigma_of name (fp ∷ fx ∷ fs ∷ []) ([])
    (pattern_text n p ∷ object_text n x ∷ sort_text n s ∷ [])) header_naming)
    (is_fresh 0 (k 0 0 P)) ≡ fresh_text n x (k x s p) → known.object x → EachLeaf known p
    → known.sort s
    → Proves c (cite name (syntax_tree l p ∷ cite (l.object x) [] ∷ cite (l.sort s) [] ∷ []))
    (fresh_text n x (k x s p))
fresh_bound c l n name k x s p known w row same hx hp hs =
    row_proves c name no_pair (fp ∷ fx ∷ fs ∷ []) ([]) (is_fresh 0 (k 0 0 P))
    (pattern_text n p ∷ object_text n x ∷ sort_text n s ∷ []) _
    (syntax_tree l p ∷ cite (l.object x) [] ∷ cite (l.sort s) [] ∷ []) w.header row refl refl
    refl same (
      _,
      _,
      refl,
      syntax_proves c l n p known w hp,
      (
        _,
        _,
        refl,
        object_proves c l n x (w.object x hx),
        (_, _, refl, sort_proves c l n s (w.sort s hs), refl),
      ),
    )

fresh_under : (c : Context) (l n : Naming) (name : Token) (k : ℕ → ℕ → Pattern → Pattern)
    (x y s : ℕ) (p : Pattern) (known : LeafFacts) → Serves c l n known
    → IsRow name no_pair (fp ∷ fx ∷ fy ∷ fs ∷ []) (is_fresh 0 P ∷ []) (is_fresh 0 (k 1 0 P))
    → judgement_by (under (sigma_of name (fp ∷ fx ∷ fy ∷ fs ∷ []) (is_fresh 0 P ∷ [])
    (pattern_text n p ∷ object_text n x ∷ object_text n y ∷ sort_text n s
    ∷ fresh_text n x p ∷ [])) header_naming) (is_fresh 0 (k 1 0 P))
    ≡ fresh_text n x (k y s p) → known.object x → known.object y → EachLeaf known p
    → known.sort s → Proves c (fresh_tree l x p) (fresh_text n x p)
    → Proves c (cite name (syntax_tree l p ∷ cite (l.object x) [] ∷ cite (l.object y) []
    ∷ cite (l.sort s) [] ∷ fresh_tree l x p ∷ [])) (fresh_text n x (k y s p))
fresh_under c l n name k x y s p known w row same hx hy hp hs below =
    row_proves c name no_pair (fp ∷ fx ∷ fy ∷ fs ∷ []) (is_fresh 0 P ∷ []) (is_fresh 0 (k 1 0 P))
    (pattern_text n p ∷ object_text n x ∷ object_text n y ∷ sort_text n s ∷ fresh_text n x p
    ∷ []) _ (syntax_tree l p ∷ cite (l.object x) [] ∷ cite (l.object y) []
    ∷ cite (l.sort s) [] ∷ fresh_tree l x p ∷ []) w.header row refl refl refl same (
      _,
      _,
      refl,
      syntax_proves c l n p known w hp,
      (
        _,
        _,
        refl,
        object_proves c l n x (w.object x hx),
        (
          _,
          _,
          refl,
          object_proves c l n y (w.object y hy),
          (_, _, refl, sort_proves c l n s (w.sort s hs), (_, _, refl, below, refl)),
        ),
      ),
    )

fresh_quantified : (c : Context) (l n : Naming) (bound other : Token)
    (k : ℕ → ℕ → Pattern → Pattern) (x y s : ℕ) (p : Pattern)
    → Proves c (cite bound (syntax_tree l p ∷ cite (l.object x) [] ∷ cite (l.sort s) [] ∷ []))
    (fresh_text n x (k x s p))
    → ((x == y) ≡ false
    → Proves c (cite other (syntax_tree l p ∷ cite (l.object x) [] ∷ cite (l.object y) []
    ∷ cite (l.sort s) [] ∷ fresh_tree l x p ∷ [])) (fresh_text n x (k y s p)))
    → Proves c (if x == y
    then cite bound (syntax_tree l p ∷ cite (l.object x) [] ∷ cite (l.sort s) [] ∷ [])
    else cite other (syntax_tree l p ∷ cite (l.object x) [] ∷ cite (l.object y) []
    ∷ cite (l.sort s) [] ∷ fresh_tree l x p ∷ [])) (fresh_text n x (k y s p))
fresh_quantified c l n bound other k x y s p same differ = go (x == y) refl
  where
    go : (b : Bool) → (x == y) ≡ b
        → Proves c (if b
        then cite bound (syntax_tree l p ∷ cite (l.object x) [] ∷ cite (l.sort s) [] ∷ [])
        else cite other (syntax_tree l p ∷ cite (l.object x) [] ∷ cite (l.object y) []
        ∷ cite (l.sort s) [] ∷ fresh_tree l x p ∷ [])) (fresh_text n x (k y s p))
    go true is =
        subst (λ (z : ℕ). Proves c
        (cite bound (syntax_tree l p ∷ cite (l.object x) [] ∷ cite (l.sort s) [] ∷ []))
        (fresh_text n x (k z s p))) (eqb-true x y is) same
    go false is = differ is

-- the second of two tests is true if the first is not
pub second_holds : (a b : Bool) → a ≡ false → (a || b) ≡ true → b ≡ true
second_holds true b h k = absurd (false≢true (sym h))
second_holds false b h k = k

-- what is proved by its form is proved, even if one row proves the whole
whole_or_form : (c : Context) (l n : Naming) (known : LeafFacts) (x : ℕ) (p : Pattern)
    → Serves c l n known → known.object x → EachLeaf known p
    → Proves c (fresh_by_form l x p) (fresh_text n x p)
    → Proves c (fresh_tree l x p) (fresh_text n x p)
whole_or_form c l n known x p w hx h below = go (absent x p) refl
  where
    go : (b : Bool) → absent x p ≡ b
        → Proves c (if b then absent_tree l x p else fresh_by_form l x p) (fresh_text n x p)
    go true is = absent_proves c l n known x p w hx h (EachLeaf-absent known x p is h)
    go false is = below

pub fresh_proves : (c : Context) (l n : Naming) (known : LeafFacts) (x : ℕ) (p : Pattern)
    → Serves c l n known → known.object x → EachLeaf known p → fresh x p ≡ true
    → Proves c (fresh_tree l x p) (fresh_text n x p)
fresh_proves c l n known x (nullary o) w hx h f = absent_proves c l n known x (nullary o) w hx tt tt
fresh_proves c l n known x (binary o p q) w hx h f =
    let b : (fresh x p ≡ true) × (fresh x q ≡ true) = split_true (fresh x p) (fresh x q) f in
    whole_or_form c l n known x (binary o p q) w hx h
    (fresh_two c l n (codes "fr." ++ binary_name o) (binary o) x p q
    known w (fr_binary o) refl hx h.0 h.1 (fresh_proves c l n known x p w hx h.0 b.0)
    (fresh_proves c l n known x q w hx h.1 b.1))
fresh_proves c l n known x (unary o p) w hx h f =
    whole_or_form c l n known x (unary o p) w hx h
    (fresh_one c l n (codes "fr." ++ unary_name o) (unary o) x p known w
    (fr_unary o) refl hx h (fresh_proves c l n known x p w hx h f))
fresh_proves c l n known x (sorted o p s) w hx h f =
    whole_or_form c l n known x (sorted o p s) w hx h
    (fresh_sort c l n (codes "fr." ++ sorted_name o) (sorted o) x p s
    known w (fr_sorted o) refl hx h.0 h.1 (fresh_proves c l n known x p w hx h.0 f))
fresh_proves c l n known x (quantified o y s p) w hx h f =
    whole_or_form c l n known x (quantified o y s p) w hx h
    (fresh_quantified c l n (codes "fr." ++ (quantifier_name o ++ codes "b"))
    (codes "fr." ++ quantifier_name o) (quantified o) x y s p
    (fresh_bound c l n (codes "fr." ++ (quantifier_name o ++ codes "b")) (quantified o) x s p known
    w (fr_quantified_bound o) refl hx h.0 h.1.1)
    (λ differ. fresh_under c l n (codes "fr." ++ quantifier_name o) (quantified o) x y s p known w
    (fr_quantified o) refl hx h.1.0 h.0 h.1.1
    (fresh_proves c l n known x p w hx h.0 (second_holds (x == y) (fresh x p) differ f))))
fresh_proves c l n known x (var y) w hx h f =
    whole_or_form c l n known x (var y) w hx h
    (absent_proves c l n known x (var y) w hx h (h, not_true (x == y) f))
fresh_proves c l n known x (meta i) w hx h f = absent_proves c l n known x (meta i) w hx h h
fresh_proves c l n known x (constant i) w hx h f = absent_proves c l n known x (constant i) w hx h h
