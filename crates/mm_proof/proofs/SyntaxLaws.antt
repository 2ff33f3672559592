-- The syntax tree of a pattern proves that it is one.
use Rattle.std.proofs.Common.{◌≡◌, ℕ, [], ◌∷◌, ◌++◌, refl}
use Rattle.std.specs.Prelude.{codes}
use Rattle.mm_text.specs.Bytes.{Token}
use Rattle.mm_database.specs.Frames.{floating}
use Rattle.mm_database.specs.Database.{Context}
use Rattle.mm_database.specs.Proofs.{Expression, by_hypothesis, Proves}
use Rattle.ml_pat.specs.Patterns.{Pattern, nullary, unary, binary, sorted, quantified, var, meta}
use Rattle.ml_pat.specs.Patterns.{constant}
use Rattle.mm_proof.specs.Tokens.{Naming, letters_of, nullary_name, unary_name, binary_name}
use Rattle.mm_proof.specs.Tokens.{sorted_name, quantifier_name}
use Rattle.mm_proof.specs.Judgements.{is_pattern, judgement_by}
use Rattle.mm_proof.specs.Trees.{cite, syntax_tree}
use Rattle.mm_proof.specs.Serving.{HasHeader, Declares, Types, Serves}
use Rattle.mm_proof.specs.ClosedFrames.{closed_frame}
use Rattle.ml_pat.specs.Leaves.{LeafFacts, EachLeaf}
use Rattle.mm_proof.proofs.Schemes.{leads-by, under}
use Rattle.mm_proof.proofs.Rows.{header_naming, no_pair, IsRow, P, Q, fp, fq, fx, fs, w_var}
use Rattle.mm_proof.proofs.Rows.{w_nullary, w_binary, w_unary, w_sorted, w_quantified}
use Rattle.mm_proof.proofs.RowProofs.{sigma_of, row_proves}

-- what is written for the parts of a statement
abbrev pub pattern_text : Naming → Pattern → Expression
pattern_text n p = judgement_by (letters_of n) (is_pattern p)

abbrev pub sort_text : Naming → ℕ → Expression
sort_text n s = codes "#Sort" ∷ (n.sort s ∷ [])

abbrev pub object_text : Naming → ℕ → Expression
object_text n x = codes "#Var" ∷ (n.object x ∷ [])

-- a declaration and a `$f` prove what they state
pub declared_proves : (c : Context) (typecode label token : Token) → Declares c typecode label token
    → Proves c (cite label []) (typecode ∷ (token ∷ []))
declared_proves c typecode label token h = (
  [],
  leads-by c label (closed_frame label (typecode ∷ (token ∷ []))) [] (typecode ∷ (token ∷ []))
      h.stated refl refl refl,
  refl,
)

pub typed_proves : (c : Context) (typecode label token : Token) → Types c typecode label token
    → Proves c (cite label []) (typecode ∷ (token ∷ []))
typed_proves c typecode label token h = ([], by_hypothesis (floating label typecode token) h, refl)

pub sort_proves : (c : Context) (l n : Naming) (s : ℕ)
    → Declares c (codes "#Sort") (l.sort s) (n.sort s)
    → Proves c (cite (l.sort s) []) (sort_text n s)
sort_proves c l n s h = declared_proves c (codes "#Sort") (l.sort s) (n.sort s) h

pub object_proves : (c : Context) (l n : Naming) (x : ℕ)
    → Types c (codes "#Var") (l.object x) (n.object x)
    → Proves c (cite (l.object x) []) (object_text n x)
object_proves c l n x h = typed_proves c (codes "#Var") (l.object x) (n.object x) h

-- the connectives on two patterns, on one pattern, and on a pattern and a sort; and the quantifiers
two_part : (c : Context) (l n : Naming) (name : Token) (k : Pattern → Pattern → Pattern)
    (p q : Pattern) → HasHeader c → IsRow name no_pair (fp ∷ fq ∷ []) [] (is_pattern (k P Q))
    → judgement_by (under
    (sigma_of name (fp ∷ fq ∷ []) [] (pattern_text n p ∷ pattern_text n q ∷ []))
    header_naming) (is_pattern (k P Q)) ≡ pattern_text n (k p q)
    → Proves c (syntax_tree l p) (pattern_text n p) → Proves c (syntax_tree l q) (pattern_text n q)
    → Proves c (cite name (syntax_tree l p ∷ syntax_tree l q ∷ [])) (pattern_text n (k p q))
two_part c l n name k p q header row same hp hq =
    row_proves c name no_pair (fp ∷ fq ∷ []) [] (is_pattern (k P Q))
    (pattern_text n p ∷ pattern_text n q ∷ []) _ (syntax_tree l p ∷ syntax_tree l q ∷ []) header
    row refl refl refl same
    (_, _, refl, hp, (_, _, refl, hq, refl))

one_part : (c : Context) (l n : Naming) (name : Token) (k : Pattern → Pattern) (p : Pattern)
    → HasHeader c → IsRow name no_pair (fp ∷ []) [] (is_pattern (k P))
    → judgement_by (under (sigma_of name (fp ∷ []) [] (pattern_text n p ∷ [])) header_naming)
    (is_pattern (k P)) ≡ pattern_text n (k p)
    → Proves c (syntax_tree l p) (pattern_text n p)
    → Proves c (cite name (syntax_tree l p ∷ [])) (pattern_text n (k p))
one_part c l n name k p header row same hp =
    row_proves c name no_pair (fp ∷ []) [] (is_pattern (k P)) (pattern_text n p ∷ []) _
    (syntax_tree l p ∷ []) header row refl refl refl same
    (_, _, refl, hp, refl)

sort_part : (c : Context) (l n : Naming) (name : Token) (k : Pattern → ℕ → Pattern) (p : Pattern)
    (s : ℕ) → HasHeader c → IsRow name no_pair (fp ∷ fs ∷ []) [] (is_pattern (k P 0))
    → judgement_by (under (sigma_of name (fp ∷ fs ∷ []) [] (pattern_text n p ∷ sort_text n s ∷ []))
    header_naming) (is_pattern (k P 0)) ≡ pattern_text n (k p s)
    → Proves c (syntax_tree l p) (pattern_text n p)
    → Declares c (codes "#Sort") (l.sort s) (n.sort s)
    → Proves c (cite name (syntax_tree l p ∷ cite (l.sort s) [] ∷ [])) (pattern_text n (k p s))
sort_part c l n name k p s header row same hp hs =
    row_proves c name no_pair (fp ∷ fs ∷ []) [] (is_pattern (k P 0))
    (pattern_text n p ∷ sort_text n s ∷ []) _ (syntax_tree l p ∷ cite (l.sort s) [] ∷ []) header
    row refl refl refl same
    (_, _, refl, hp, (_, _, refl, sort_proves c l n s hs, refl))

quantifier_part : (c : Context) (l n : Naming) (name : Token) (k : ℕ → ℕ → Pattern → Pattern)
    (x s : ℕ)
    (p : Pattern) → HasHeader c
    → IsRow name no_pair (fp ∷ fx ∷ fs ∷ []) [] (is_pattern (k 0 0 P))
    → judgement_by (under (sigma_of name (fp ∷ fx ∷ fs ∷ []) []
    (pattern_text n p ∷ object_text n x ∷ sort_text n s ∷ [])) header_naming)
    (is_pattern (k 0 0 P)) ≡ pattern_text n (k x s p)
    → Proves c (syntax_tree l p) (pattern_text n p)
    → Types c (codes "#Var") (l.object x) (n.object x)
    → Declares c (codes "#Sort") (l.sort s) (n.sort s)
    → Proves c (cite name (syntax_tree l p ∷ cite (l.object x) [] ∷ cite (l.sort s) [] ∷ []))
    (pattern_text n (k x s p))
quantifier_part c l n name k x s p header row same hp hx hs =
    row_proves c name no_pair (fp ∷ fx ∷ fs ∷ []) [] (is_pattern (k 0 0 P))
    (pattern_text n p ∷ object_text n x ∷ sort_text n s ∷ []) _
    (syntax_tree l p ∷ cite (l.object x) [] ∷ cite (l.sort s) [] ∷ []) header row refl refl refl
    same (
      _,
      _,
      refl,
      hp,
      (_, _, refl, object_proves c l n x hx, (_, _, refl, sort_proves c l n s hs, refl)),
    )

-- the tokens of a pattern parse as its syntax tree
pub syntax_proves : (c : Context) (l n : Naming) (p : Pattern) (known : LeafFacts)
    → Serves c l n known → EachLeaf known p → Proves c (syntax_tree l p) (pattern_text n p)
syntax_proves c l n (nullary o) known w h =
    row_proves c (codes "w." ++ nullary_name o) no_pair [] [] (is_pattern (nullary o)) [] _ []
    w.header (w_nullary o) refl refl
    refl refl refl
syntax_proves c l n (binary o p q) known w h =
    two_part c l n (codes "w." ++ binary_name o) (binary o) p q w.header (w_binary o) refl
    (syntax_proves c l n p known w h.0)
    (syntax_proves c l n q known w h.1)
syntax_proves c l n (unary o p) known w h =
    one_part c l n (codes "w." ++ unary_name o) (unary o) p w.header (w_unary o) refl
    (syntax_proves c l n p known w h)
syntax_proves c l n (sorted o p s) known w h =
    sort_part c l n (codes "w." ++ sorted_name o) (sorted o) p s w.header (w_sorted o) refl
    (syntax_proves c l n p known w h.0) (w.sort s h.1)
syntax_proves c l n (quantified o x s p) known w h =
    quantifier_part c l n (codes "w." ++ quantifier_name o) (quantified o) x s p w.header
    (w_quantified o) refl (syntax_proves c l n p known w h.0)
    (w.object x h.1.0) (w.sort s h.1.1)
syntax_proves c l n (var x) known w h =
    row_proves c (codes "w.var") no_pair (fx ∷ []) [] (is_pattern (var 0)) (object_text n x ∷ []) _
    (cite (l.object x) [] ∷ []) w.header w_var refl refl refl refl
    (_, _, refl, object_proves c l n x (w.object x h), refl)
syntax_proves c l n (meta i) known w h =
    typed_proves c (codes "#Pattern") (l.meta i) (n.meta i) (w.meta i h)
syntax_proves c l n (constant i) known w h =
    declared_proves c (codes "#Pattern") (l.constant i) (n.constant i) (w.constant i h)
