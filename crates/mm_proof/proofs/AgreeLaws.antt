-- Patterns with the same tokens at their leaves have the same tokens.
use Rattle.std.proofs.Common.{◌≡◌, List, [], ◌∷◌, ◌++◌, refl, ap, ◌∙◌}
use Rattle.std.specs.Prelude.{codes}
use Rattle.mm_text.specs.Bytes.{Token}
use Rattle.ml_pat.specs.Patterns.{Pattern, nullary, unary, binary, sorted, quantified, var, meta}
use Rattle.ml_pat.specs.Patterns.{constant}
use Rattle.mm_proof.specs.Tokens.{Naming, letters_of, bracketed, bracket, text_by}
use Rattle.mm_proof.specs.Tokens.{unary_name, binary_name, sorted_name, quantifier_name}
use Rattle.ml_pat.specs.Leaves.{LeafFacts, EachLeaf}

-- two namings agree
abbrev pub agreeing : Naming → Naming → LeafFacts
agreeing n m = record {
  sort = λ i. n.sort i ≡ m.sort i;
  constant = λ i. n.constant i ≡ m.constant i;
  object = λ i. n.object i ≡ m.object i;
  meta = λ i. n.meta i ≡ m.meta i;
}

pub text-agrees : (n m : Naming) (p : Pattern) → EachLeaf (agreeing n m) p
    → text_by (letters_of n) p ≡ text_by (letters_of m) p
text-agrees n m (nullary c) h = refl
text-agrees n m (binary c p q) h =
    ap (λ (ts : List Token).
    bracketed (codes "\\" ++ binary_name c) (ts ++ (text_by (letters_of n) q ++ bracket)))
    (text-agrees n m p h.0)
    ∙ ap (λ (ts : List Token).
    bracketed (codes "\\" ++ binary_name c) (text_by (letters_of m) p ++ (ts ++ bracket)))
    (text-agrees n m q h.1)
text-agrees n m (unary c p) h =
    ap (λ (ts : List Token). bracketed (codes "\\" ++ unary_name c) (ts ++ bracket))
    (text-agrees n m p h)
text-agrees n m (sorted c p s) h =
    ap (λ (ts : List Token). bracketed (codes "\\" ++ sorted_name c) (ts ++ (n.sort s ∷ bracket)))
    (text-agrees n m p h.0)
    ∙ ap (λ (t : Token). bracketed (codes "\\" ++ sorted_name c)
    (text_by (letters_of m) p ++ (t ∷ bracket)))
    h.1
text-agrees n m (quantified c x s p) h =
    ap (λ (ts : List Token). bracketed (codes "\\" ++ quantifier_name c)
    (n.object x ∷ (n.sort s ∷ (ts ++ bracket))))
    (text-agrees n m p h.0)
    ∙ ap (λ (t : Token).
    bracketed (codes "\\" ++ quantifier_name c)
    (t ∷ (n.sort s ∷ (text_by (letters_of m) p ++ bracket))))
    h.1.0
    ∙ ap (λ (t : Token).
    bracketed (codes "\\" ++ quantifier_name c)
    (m.object x ∷ (t ∷ (text_by (letters_of m) p ++ bracket))))
    h.1.1
text-agrees n m (var x) h = ap (λ (t : Token). t ∷ []) h
text-agrees n m (meta i) h = ap (λ (t : Token). t ∷ []) h
text-agrees n m (constant i) h = ap (λ (t : Token). t ∷ []) h
