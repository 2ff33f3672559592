-- Schemes of the header under a substitution, and how an assertion is applied.
use Rattle.std.proofs.Common.{◌≡◌, ℕ, Bool, true, false, List, [], ◌∷◌, ◌++◌, refl, ap, ◌∙◌, sym}
use Rattle.std.proofs.Common.{append_assoc}
use Rattle.std.specs.Prelude.{◌||◌, if◌then◌else◌, map, slice_index_or, codes, bytes_eq}
use Rattle.std.specs.List.{list_any}
use Rattle.mm_text.specs.Bytes.{Token}
use Rattle.mm_database.specs.Frames.{Hypothesis, floating, essential, Frame, types}
use Rattle.mm_database.specs.Database.{Context}
use Rattle.mm_database.specs.Proofs.{Expression, substituted, instance_of, keeps_apart, Leads}
use Rattle.mm_database.specs.Proofs.{by_assertion, symbols_apart}
use Rattle.mm_database.specs.Stack.{behind_first, bindings_of, text_of}
use Rattle.ml_pat.specs.Patterns.{Pattern, nullary, unary, binary, sorted, quantified, var, meta}
use Rattle.ml_pat.specs.Patterns.{constant}
use Rattle.mm_proof.specs.Tokens.{Naming, Letters, letters_of, bracket, text_by, unary_name}
use Rattle.mm_proof.specs.Tokens.{binary_name, sorted_name, quantifier_name}
use Rattle.mm_proof.specs.Judgements.{Judgement, is_pattern, holds, is_fresh, is_substituted}
use Rattle.mm_proof.specs.Judgements.{is_predicate, judgement_by}
use Rattle.mm_proof.specs.Serving.{IsAssertion, punctuation}
use Rattle.mm_proof.proofs.LeafLaws.{agree_at, agree_nullary, agree_unary, agree_binary}
use Rattle.mm_proof.proofs.LeafLaws.{agree_sorted, agree_quantifier}

-- a substitution does not change the constants of the header
abbrev pub Leaves : (Token → Expression) → Type 0
Leaves sigma = map sigma punctuation ≡ map (λ t. t ∷ []) punctuation

-- the texts that the substitution gives the leaves
abbrev pub under : (Token → Expression) → Naming → Letters
under sigma n = record {
  sort = λ i. sigma (n.sort i);
  constant = λ i. sigma (n.constant i);
  object = λ i. sigma (n.object i);
  meta = λ i. sigma (n.meta i);
}

-- the substitution does not change the constant at a place
left : (sigma : Token → Expression) → Leaves sigma → (i : ℕ)
    → slice_index_or (map sigma punctuation) i []
    ≡ slice_index_or (map (λ t. t ∷ []) punctuation) i []
left sigma h i = agree_at sigma (λ t. t ∷ []) [] h i

substituted-append : (sigma : Token → Expression) (xs ys : Expression)
    → substituted sigma (xs ++ ys) ≡ substituted sigma xs ++ substituted sigma ys
substituted-append sigma [] ys = refl
substituted-append sigma (x ∷ xs) ys = ap (λ e. sigma x ++ e) (substituted-append sigma xs ys)
    ∙ sym (append_assoc (sigma x) (substituted sigma xs) (substituted sigma ys))

-- a bracket with a connective and arguments
bracket_law : (sigma : Token → Expression) (k : Token) (xs ys : Expression) → Leaves sigma
    → sigma k ≡ k ∷ [] → substituted sigma xs ≡ ys
    → substituted sigma (codes "(" ∷ (k ∷ xs)) ≡ codes "(" ∷ (k ∷ ys)
bracket_law sigma k xs ys h this same =
    ap (λ e. e ++ (sigma k ++ substituted sigma xs)) (left sigma h 0)
    ∙ ap (λ e. codes "(" ∷ (e ++ substituted sigma xs)) this
    ∙ ap (λ e. codes "(" ∷ (k ∷ e)) same

closing : (sigma : Token → Expression) → Leaves sigma → substituted sigma bracket ≡ bracket
closing sigma h = ap (λ e. e ++ []) (left sigma h 1)

-- arguments one after another
behind : (sigma : Token → Expression) (xs ys xs' ys' : Expression) → substituted sigma xs ≡ xs'
    → substituted sigma ys ≡ ys' → substituted sigma (xs ++ ys) ≡ xs' ++ ys'
behind sigma xs ys xs' ys' h k =
    substituted-append sigma xs ys ∙ ap (λ e. e ++ substituted sigma ys) h ∙ ap (λ e. xs' ++ e) k

-- a leaf, and what comes after it
leaf : (sigma : Token → Expression) (t : Token) (ys ys' : Expression) → substituted sigma ys ≡ ys'
    → substituted sigma ((t ∷ []) ++ ys) ≡ sigma t ++ ys'
leaf sigma t ys ys' h = ap (λ e. sigma t ++ e) h

single : (sigma : Token → Expression) (t : Token) → substituted sigma (t ∷ []) ≡ sigma t
single sigma t = append-nil-of (sigma t)
  where
    append-nil-of : (xs : Expression) → xs ++ [] ≡ xs
    append-nil-of [] = refl
    append-nil-of (x ∷ xs) = ap (λ e. x ∷ e) (append-nil-of xs)

-- the text of a pattern under a substitution is its text with its leaves replaced by what the
-- substitution gives them
pub text-under : (sigma : Token → Expression) (n : Naming) → Leaves sigma → (p : Pattern)
    → substituted sigma (text_by (letters_of n) p) ≡ text_by (under sigma n) p
text-under sigma n h (nullary c) =
    ap (λ e. e ++ []) (agree_nullary sigma (λ t. t ∷ []) [] h c)
text-under sigma n h (binary c p q) =
    bracket_law sigma (codes "\\" ++ binary_name c) _ _ h
    (agree_binary sigma (λ t. t ∷ []) [] h c) (behind sigma (text_by (letters_of n) p)
    (text_by (letters_of n) q ++ bracket) _ _ (text-under sigma n h p) (behind sigma
    (text_by (letters_of n) q) bracket _ _ (text-under sigma n h q) (closing sigma h)))
text-under sigma n h (unary c p) =
    bracket_law sigma (codes "\\" ++ unary_name c) _ _ h (agree_unary sigma (λ t. t ∷ []) [] h c)
    (behind sigma (text_by (letters_of n) p) bracket _ _ (text-under sigma n h p)
    (closing sigma h))
text-under sigma n h (sorted c p s) =
    bracket_law sigma (codes "\\" ++ sorted_name c) _ _ h
    (agree_sorted sigma (λ t. t ∷ []) [] h c) (behind sigma (text_by (letters_of n) p)
    ((n.sort s ∷ []) ++ bracket) _ _ (text-under sigma n h p)
    (leaf sigma (n.sort s) bracket _ (closing sigma h)))
text-under sigma n h (quantified c x s p) =
    bracket_law sigma (codes "\\" ++ quantifier_name c)
    ((n.object x ∷ []) ++ ((n.sort s ∷ []) ++ (text_by (letters_of n) p ++ bracket))) _ h
    (agree_quantifier sigma (λ t. t ∷ []) [] h c) (leaf sigma (n.object x)
    ((n.sort s ∷ []) ++ (text_by (letters_of n) p ++ bracket)) _ (leaf sigma (n.sort s)
    (text_by (letters_of n) p ++ bracket) _ (behind sigma (text_by (letters_of n) p) bracket _ _
    (text-under sigma n h p) (closing sigma h))))
text-under sigma n h (var x) = single sigma (n.object x)
text-under sigma n h (meta i) = single sigma (n.meta i)
text-under sigma n h (constant c) = single sigma (n.constant c)

-- the same is true of the text of a judgement
pub judgement-under : (sigma : Token → Expression) (n : Naming) → Leaves sigma → (j : Judgement)
    → substituted sigma (judgement_by (letters_of n) j) ≡ judgement_by (under sigma n) j
judgement-under sigma n h (is_pattern p) =
    ap (λ e. e ++ substituted sigma (text_by (letters_of n) p)) (left sigma h 17)
    ∙ ap (λ e. codes "#Pattern" ∷ e) (text-under sigma n h p)
judgement-under sigma n h (holds p) =
    ap (λ e. e ++ substituted sigma (text_by (letters_of n) p)) (left sigma h 21)
    ∙ ap (λ e. codes "|-" ∷ e) (text-under sigma n h p)
judgement-under sigma n h (is_fresh x p) =
    ap (λ e. e ++ (sigma (n.object x) ++ substituted sigma (text_by (letters_of n) p)))
    (left sigma h 18)
    ∙ ap (λ e. codes "#Fresh" ∷ (sigma (n.object x) ++ e)) (text-under sigma n h p)
judgement-under sigma n h (is_substituted t p u x) =
    ap (λ e. e
    ++ substituted sigma (text_by (letters_of n) t
    ++ (text_by (letters_of n) p ++ (text_by (letters_of n) u ++ n.object x ∷ []))))
    (left sigma h 19)
    ∙ ap (λ e. codes "#Sub" ∷ e) (behind sigma (text_by (letters_of n) t)
    (text_by (letters_of n) p ++ (text_by (letters_of n) u ++ n.object x ∷ [])) _ _
    (text-under sigma n h t) (behind sigma (text_by (letters_of n) p)
    (text_by (letters_of n) u ++ n.object x ∷ []) _ _ (text-under sigma n h p)
    (behind sigma (text_by (letters_of n) u) (n.object x ∷ []) _ _ (text-under sigma n h u)
    (single sigma (n.object x)))))
judgement-under sigma n h (is_predicate p) =
    ap (λ e. e ++ substituted sigma (text_by (letters_of n) p)) (left sigma h 20)
    ∙ ap (λ e. codes "#Pred" ∷ e) (text-under sigma n h p)

-- a symbol that is not bound stays the same
pub text_of-other : (hypotheses : List Hypothesis) (entries : List Expression) (t : Token)
    → list_any (types t) hypotheses ≡ false → text_of (bindings_of hypotheses entries) t ≡ t ∷ []
text_of-other [] entries t h = refl
text_of-other (h ∷ hypotheses) [] t other = refl
text_of-other (floating label typecode variable ∷ hypotheses) (entry ∷ entries) t other =
    go (bytes_eq variable t) other (text_of-other hypotheses entries t)
  where
    go : (test : Bool) → (test || list_any (types t) hypotheses) ≡ false
        → (list_any (types t) hypotheses ≡ false
        → text_of (bindings_of hypotheses entries) t ≡ t ∷ [])
        → (if test then behind_first entry else text_of (bindings_of hypotheses entries) t) ≡ t ∷ []
    go true h behind = absurd (cc)
    go false h behind = behind h
text_of-other (essential label statement ∷ hypotheses) (entry ∷ entries) t other =
    text_of-other hypotheses entries t other

-- an assertion leads from expressions to its statement, under the substitution that the expressions
-- define
pub leads-by : (c : Context) (label : Token) (f : Frame) (given : List Expression)
    (result : Expression) → IsAssertion c label f
    → given ≡ map (instance_of (text_of (bindings_of f.hypotheses given))) f.hypotheses
    → keeps_apart (symbols_apart c) f (text_of (bindings_of f.hypotheses given)) ≡ true
    → substituted (text_of (bindings_of f.hypotheses given)) f.statement ≡ result
    → Leads c label given result
leads-by c label f given result w same apart concludes =
    by_assertion f (text_of (bindings_of f.hypotheses given)) given result w.no_hypothesis w.kept
    (record {
      others = λ t h. text_of-other f.hypotheses given t h;
      hypotheses = same;
      apart = apart;
      conclusion = sym concludes;
    })
