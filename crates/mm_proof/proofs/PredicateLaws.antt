-- The proofs that a pattern is everything or nothing.
use Rattle.std.proofs.Common.{◌≡◌, ℕ, true, [], ◌∷◌, ◌++◌, refl}
use Rattle.std.specs.Prelude.{codes}
use Rattle.std.proofs.lemmas.Bool.{false≢true}
use Rattle.mm_text.specs.Bytes.{Token}
use Rattle.mm_database.specs.Database.{Context}
use Rattle.mm_database.specs.Proofs.{Expression, Proves}
use Rattle.ml_pat.specs.Patterns.{Pattern, nullary, quantified, imp, not, and, or, equal, member}
use Rattle.ml_pat.specs.Patterns.{fun}
use Rattle.ml_pat.specs.Judgements.{predicate}
use Rattle.mm_proof.specs.Tokens.{Naming, letters_of, nullary_name, quantifier_name}
use Rattle.mm_proof.specs.Judgements.{is_predicate, judgement_by}
use Rattle.ml_pat.specs.Leaves.{LeafFacts, EachLeaf}
use Rattle.mm_proof.specs.Serving.{Serves}
use Rattle.mm_proof.specs.Trees.{cite, syntax_tree, predicate_tree}
use Rattle.mm_proof.proofs.Schemes.{under}
use Rattle.mm_proof.proofs.RowProofs.{sigma_of, row_proves}
use Rattle.mm_proof.proofs.SyntaxLaws.{pattern_text, sort_text, object_text, sort_proves}
use Rattle.mm_proof.proofs.SyntaxLaws.{object_proves, syntax_proves}
use Rattle.ml_pat.proofs.LeafLaws.{split_true}
use Rattle.mm_proof.proofs.Rows.{header_naming, no_pair, IsRow, P, Q, fp, fq, fx, fs, pr_nullary}
use Rattle.mm_proof.proofs.Rows.{pr_imp, pr_and, pr_or, pr_eq, pr_mem, pr_not, pr_fun}
use Rattle.mm_proof.proofs.Rows.{pr_quantified}

abbrev pub predicate_text : Naming → Pattern → Expression
predicate_text n p = judgement_by (letters_of n) (is_predicate p)

predicate_two : (c : Context) (l n : Naming) (name : Token) (k : Pattern → Pattern → Pattern)
    (p q : Pattern) (known : LeafFacts) → Serves c l n known
    → IsRow name no_pair (fp ∷ fq ∷ []) (is_predicate P ∷ is_predicate Q ∷ [])
    (is_predicate (k P Q))
    → judgement_by (under (sigma_of name (fp ∷ fq ∷ []) (is_predicate P ∷ is_predicate Q ∷ [])
    (pattern_text n p ∷ pattern_text n q ∷ predicate_text n p ∷ predicate_text n q
    ∷ [])) header_naming) (is_predicate (k P Q)) ≡ predicate_text n (k p q)
    → EachLeaf known p → EachLeaf known q → Proves c (predicate_tree l p) (predicate_text n p)
    → Proves c (predicate_tree l q) (predicate_text n q)
    → Proves c (cite name
    (syntax_tree l p ∷ syntax_tree l q ∷ predicate_tree l p ∷ predicate_tree l q ∷ []))
    (predicate_text n (k p q))
predicate_two c l n name k p q known w row same hp hq first second =
    row_proves c name no_pair (fp ∷ fq ∷ []) (is_predicate P ∷ is_predicate Q ∷ [])
    (is_predicate (k P Q))
    (pattern_text n p ∷ pattern_text n q ∷ predicate_text n p ∷ predicate_text n q ∷ []) _
    (syntax_tree l p ∷ syntax_tree l q ∷ predicate_tree l p ∷ predicate_tree l q ∷ []) w.header
    row refl refl refl same (
      _,
      _,
      refl,
      syntax_proves c l n p known w hp,
      (
        _,
        _,
        refl,
        syntax_proves c l n q known w hq,
        (_, _, refl, first, (_, _, refl, second, refl)),
      ),
    )

predicate_pair : (c : Context) (l n : Naming) (name : Token) (k : Pattern → Pattern → Pattern)
    (p q : Pattern) (known : LeafFacts) → Serves c l n known
    → IsRow name no_pair (fp ∷ fq ∷ []) ([]) (is_predicate (k P Q))
    → judgement_by (under
    (sigma_of name (fp ∷ fq ∷ []) ([]) (pattern_text n p ∷ pattern_text n q ∷ []))
    header_naming) (is_predicate (k P Q)) ≡ predicate_text n (k p q) → EachLeaf known p
    → EachLeaf known q
    → Proves c (cite name (syntax_tree l p ∷ syntax_tree l q ∷ [])) (predicate_text n (k p q))
predicate_pair c l n name k p q known w row same hp hq =
    row_proves c name no_pair (fp ∷ fq ∷ []) ([]) (is_predicate (k P Q))
    (pattern_text n p ∷ pattern_text n q ∷ []) _ (syntax_tree l p ∷ syntax_tree l q ∷ [])
    w.header row refl refl refl same (
      _,
      _,
      refl,
      syntax_proves c l n p known w hp,
      (_, _, refl, syntax_proves c l n q known w hq, refl),
    )

predicate_quantified : (c : Context) (l n : Naming) (name : Token) (k : ℕ → ℕ → Pattern → Pattern)
    (x s : ℕ) (p : Pattern) (known : LeafFacts) → Serves c l n known
    → IsRow name no_pair (fp ∷ fx ∷ fs ∷ []) (is_predicate P ∷ []) (is_predicate (k 0 0 P))
    → judgement_by (under (sigma_of name (fp ∷ fx ∷ fs ∷ []) (is_predicate P ∷ [])
    (pattern_text n p ∷ object_text n x ∷ sort_text n s ∷ predicate_text n p ∷ []))
    header_naming) (is_predicate (k 0 0 P)) ≡ predicate_text n (k x s p)
    → known.object x → EachLeaf known p → known.sort s
    → Proves c (predicate_tree l p) (predicate_text n p)
    → Proves c (cite name
    (syntax_tree l p ∷ cite (l.object x) [] ∷ cite (l.sort s) [] ∷ predicate_tree l p ∷ []))
    (predicate_text n (k x s p))
predicate_quantified c l n name k x s p known w row same hx hp hs below =
    row_proves c name no_pair (fp ∷ fx ∷ fs ∷ []) (is_predicate P ∷ []) (is_predicate (k 0 0 P))
    (pattern_text n p ∷ object_text n x ∷ sort_text n s ∷ predicate_text n p ∷ []) _
    (syntax_tree l p ∷ cite (l.object x) [] ∷ cite (l.sort s) [] ∷ predicate_tree l p ∷ [])
    w.header row refl refl refl same (
      _,
      _,
      refl,
      syntax_proves c l n p known w hp,
      (
        _,
        _,
        refl,
        object_proves c l n x (w.object x hx),
        (_, _, refl, sort_proves c l n s (w.sort s hs), (_, _, refl, below, refl)),
      ),
    )

pub predicate_proves : (c : Context) (l n : Naming) (known : LeafFacts) (p : Pattern)
    → Serves c l n known → EachLeaf known p → predicate p ≡ true
    → Proves c (predicate_tree l p) (predicate_text n p)
predicate_proves c l n known (nullary o) w h t =
    row_proves c (codes "pr." ++ nullary_name o) no_pair [] [] (is_predicate (nullary o)) [] _ []
    w.header (pr_nullary o) refl refl
    refl refl refl
predicate_proves c l n known (imp p q) w h t =
    let b : (predicate p ≡ true) × (predicate q ≡ true) =
    split_true (predicate p) (predicate q) t in
    predicate_two c l n (codes "pr.imp") imp p q known w pr_imp refl h.0 h.1
    (predicate_proves c l n known p w h.0 b.0) (predicate_proves c l n known q w h.1 b.1)
predicate_proves c l n known (and p q) w h t =
    let b : (predicate p ≡ true) × (predicate q ≡ true) =
    split_true (predicate p) (predicate q) t in
    predicate_two c l n (codes "pr.and") and p q known w pr_and refl h.0 h.1
    (predicate_proves c l n known p w h.0 b.0) (predicate_proves c l n known q w h.1 b.1)
predicate_proves c l n known (or p q) w h t =
    let b : (predicate p ≡ true) × (predicate q ≡ true) =
    split_true (predicate p) (predicate q) t in
    predicate_two c l n (codes "pr.or") or p q known w pr_or refl h.0 h.1
    (predicate_proves c l n known p w h.0 b.0) (predicate_proves c l n known q w h.1 b.1)
predicate_proves c l n known (equal p q) w h t =
    predicate_pair c l n (codes "pr.eq") equal p q known w pr_eq refl h.0 h.1
predicate_proves c l n known (member p q) w h t =
    predicate_pair c l n (codes "pr.mem") member p q known w pr_mem refl h.0 h.1
predicate_proves c l n known (not p) w h t =
    row_proves c (codes "pr.not") no_pair (fp ∷ []) (is_predicate P ∷ []) (is_predicate (not P))
    (pattern_text n p ∷ predicate_text n p ∷ []) _ (syntax_tree l p ∷ predicate_tree l p ∷ [])
    w.header pr_not refl refl refl refl (
      _,
      _,
      refl,
      syntax_proves c l n p known w h,
      (_, _, refl, predicate_proves c l n known p w h t, refl),
    )
predicate_proves c l n known (fun p s) w h t =
    row_proves c (codes "pr.fun") no_pair (fp ∷ fs ∷ []) [] (is_predicate (fun P 0))
    (pattern_text n p ∷ sort_text n s ∷ []) _ (syntax_tree l p ∷ cite (l.sort s) [] ∷ [])
    w.header pr_fun refl refl refl refl (
      _,
      _,
      refl,
      syntax_proves c l n p known w h.0,
      (_, _, refl, sort_proves c l n s (w.sort s h.1), refl),
    )
predicate_proves c l n known (quantified o x s p) w h t =
    predicate_quantified c l n (codes "pr." ++ quantifier_name o) (quantified o) x s p known w
    (pr_quantified o) refl h.1.0 h.0 h.1.1
    (predicate_proves c l n known p w h.0 t)
predicate_proves c l n known p w h t = absurd (false≢true t)
