-- What is read at a pattern, by its first token.
use Rattle.std.proofs.Common.{◌≡◌, ◌==◌, ℕ, Bool, true, false, ◌&&◌, List, [], ◌∷◌, map, Some, refl}
use Rattle.std.proofs.Common.{ap, sym, ◌∙◌, subst}
use Rattle.kore_text.specs.declared.names.Op.{Op}
use Rattle.kore_text.specs.declared.names.Binder.{Binder}
use Rattle.kore_text.specs.declared.names.Built.TheVariants as built
use Rattle.kore_text.specs.TokenStream.{KoreToken, identifier, set_identifier, builtin}
use Rattle.kore_text.specs.TokenStream.{string_token, mark, Stream}
use Rattle.kore_text.specs.Trees.{SortTree, SortTrees, sort_trees, sort_count, PatternTree}
use Rattle.kore_text.specs.Trees.{element_variable, set_variable, string, symbol_applied, connected}
use Rattle.kore_text.specs.Trees.{binder_applied, value_written, folded, PatternTrees, no_patterns}
use Rattle.kore_text.specs.Trees.{pattern_then, pattern_trees, pattern_count, listed_patterns}
use Rattle.kore_text.specs.Grammar.{Requirement, placed, any, listed, Spelling, takes, binder_sorts}
use Rattle.kore_text.specs.Grammar.{binds_sets, is_variable_tree, is_foldable, spell_sort}
use Rattle.kore_text.specs.Grammar.{spell_sorts, spell_pattern, spell_patterns, spell_applied}
use Rattle.kore_text.specs.Apart.{Apart}
use Rattle.kore_ast.specs.declared.reader.Head.{Head}
use Rattle.kore_ast.specs.declared.reader.Head.TheVariants as head
use Rattle.kore_ast.specs.Streams.{after, byte_of_next, seen, has_mark, is_over, name_of}
use Rattle.kore_ast.specs.Streams.{set_name_of, text_of, head_of, is_textual}
use Rattle.kore_ast.specs.Reading.{Has, Reads, spell_list}
use Rattle.kore_ast.proofs.Steps.{any-step, placed-step, given-step}
use Rattle.kore_ast.proofs.Lists.{Begins}
use Rattle.kore_ast.proofs.Sorts.{sorts-exact, contrary}

pub spell_patterns-trees : (b : Bool) (ps : List PatternTree)
    → spell_patterns b (pattern_trees ps) ≡ map (spell_pattern b) ps
spell_patterns-trees b [] = refl
spell_patterns-trees b (p ∷ ps) = ap (λ fs. spell_pattern b p ∷ fs) (spell_patterns-trees b ps)

pub pattern_trees-listed : (ps : PatternTrees) → ps ≡ pattern_trees (listed_patterns ps)
pattern_trees-listed no_patterns = refl
pattern_trees-listed (pattern_then p ps) = ap (pattern_then p) (pattern_trees-listed ps)

pub spell_patterns-listed : (b : Bool) (ps : PatternTrees)
    → spell_patterns b ps ≡ map (spell_pattern b) (listed_patterns ps)
spell_patterns-listed b ps =
    ap (spell_patterns b) (pattern_trees-listed ps) ∙ spell_patterns-trees b (listed_patterns ps)

-- patterns in parentheses as the children of a tree
pub patterns-exact : (b : Bool) (xs : List PatternTree) (s r : Stream)
    → Reads (spell_list (spell_pattern b) 41) xs s r
    → (ps : PatternTrees) (k : List Requirement) (e : Stream) → Apart k e
    → Has (listed (spell_patterns b ps) 41 k) s e → (ps ≡ pattern_trees xs) × Has k r e
patterns-exact b xs s r h ps k e a g =
    let x =
    h.exact (listed_patterns ps) k e a
    (subst (λ fs. Has (listed fs 41 k) s e) (spell_patterns-listed b ps) g) in
    (pattern_trees-listed ps ∙ ap pattern_trees x.0, x.1)

-- what follows the name of a binder
abbrev behind-binder : Bool → SortTrees → PatternTree → PatternTree → Spelling
behind-binder b ss x q k =
    any (mark 123)
    ∷ listed (spell_sorts ss) 125 (any (mark 40)
    ∷ spell_pattern b x (any (mark 44) ∷ spell_pattern b q (any (mark 41) ∷ k)))

-- a pattern's first token
abbrev pub first_of : PatternTree → KoreToken
first_of (element_variable p n s) = identifier n
first_of (set_variable p n s) = set_identifier n
first_of (string p t) = string_token t
first_of (symbol_applied p n ss ps) = identifier n
first_of (connected p o ss ps) = builtin (Some (built.Connective o))
first_of (binder_applied p o ss x q) = builtin (Some (built.Binding o))
first_of (value_written p s t q) = builtin (Some built.Value)
first_of (folded p l q) = builtin (Some (built.Fold l))

pub begins-with : (b : Bool) (t : PatternTree) (k : List Requirement) (s e : Stream)
    → Has (spell_pattern b t k) s e → seen s ≡ Some (first_of t)
begins-with b (element_variable p n x) k s e h =
    (placed-step p (identifier n) (any (mark 58) ∷ spell_sort x k) s e h).0
begins-with b (set_variable p n x) k s e h =
    (placed-step p (set_identifier n) (any (mark 58) ∷ spell_sort x k) s e h).0
begins-with b (string p t) k s e h =
    (placed-step p (string_token t) k s e (given-step b (placed p (string_token t) ∷ k) s e h).1).0
begins-with b (symbol_applied p n ss ps) k s e h =
    (placed-step p (identifier n) (any (mark 123)
    ∷ listed (spell_sorts ss) 125 (any (mark 40) ∷ listed (spell_patterns b ps) 41 k)) s e
    h).0
begins-with b (connected p o ss ps) k s e h =
    (placed-step p (builtin (Some (built.Connective o))) (any (mark 123)
    ∷ listed (spell_sorts ss) 125 (any (mark 40) ∷ listed (spell_patterns b ps) 41 k)) s e
    (given-step (takes o (sort_count ss) (pattern_count ps))
    (spell_applied p (builtin (Some (built.Connective o))) ss (spell_patterns b ps) k) s e
    h).1).0
begins-with b (binder_applied p o ss x q) k s e h =
    (placed-step p (builtin (Some (built.Binding o))) (behind-binder b ss x q k) s e
    (given-step ((sort_count ss == binder_sorts o) && is_variable_tree (binds_sets o) x)
    (placed p (builtin (Some (built.Binding o))) ∷ behind-binder b ss x q k) s e h).1).0
begins-with b (value_written p x t q) k s e h =
    (placed-step p (builtin (Some built.Value)) (any (mark 123)
    ∷ spell_sort x
    (any (mark 125) ∷ any (mark 40) ∷ placed q (string_token t) ∷ any (mark 41) ∷ k)) s
    e h).0
begins-with b (folded p l q) k s e h =
    (placed-step p (builtin (Some (built.Fold l)))
    (any (mark 123) ∷ any (mark 125) ∷ any (mark 40) ∷ spell_pattern b q (any (mark 41) ∷ k)) s
    e
    (given-step (is_foldable q) (placed p (builtin (Some (built.Fold l))) ∷ any (mark 123)
    ∷ any (mark 125) ∷ any (mark 40) ∷ spell_pattern b q (any (mark 41) ∷ k)) s e h).1).0

abbrev pub head_of_tree : PatternTree → Head
head_of_tree t = head_of (Some (first_of t))

pub begins-head : (b : Bool) (t : PatternTree) (k : List Requirement) (s e : Stream) (h : Head)
    → head_of (seen s) ≡ h → Has (spell_pattern b t k) s e → head_of_tree t ≡ h
begins-head b t k s e h i g = sym (ap head_of (begins-with b t k s e g)) ∙ i

no-mark : (close : ℕ) (t : PatternTree) → is_over close (Some (first_of t)) ≡ false
no-mark close (element_variable p n s) = refl
no-mark close (set_variable p n s) = refl
no-mark close (string p t) = refl
no-mark close (symbol_applied p n ss ps) = refl
no-mark close (connected p o ss ps) = refl
no-mark close (binder_applied p o ss x q) = refl
no-mark close (value_written p s t q) = refl
no-mark close (folded p l q) = refl

-- if a pattern begins here, the list is not over
pub begins-pattern : (b : Bool) (close : ℕ) → Begins (spell_pattern b) close
begins-pattern b close = record {
  open_at =
      λ t k s e h. ap (is_over close) (begins-with b t k s e h) ∙ no-mark close t;
}

-- the form of a pattern follows from its first token
by-set : (t : PatternTree) → head_of_tree t ≡ head.SetName
    → (p : ℕ) × (n : List ℕ) × (s : SortTree) × (t ≡ set_variable p n s)
by-set (element_variable p n s) e = absurd (let z : ⊥ = cc in z)
by-set (set_variable p n s) e = (p, n, s, refl)
by-set (string p n) e = absurd (let z : ⊥ = cc in z)
by-set (symbol_applied p n ss ps) e = absurd (let z : ⊥ = cc in z)
by-set (connected p o ss ps) e = absurd (let z : ⊥ = cc in z)
by-set (binder_applied p o ss x q) e = absurd (let z : ⊥ = cc in z)
by-set (value_written p s n q) e = absurd (let z : ⊥ = cc in z)
by-set (folded p l q) e = absurd (let z : ⊥ = cc in z)

by-connective : (t : PatternTree) (op : Op) → head_of_tree t ≡ head.Builtin (built.Connective op)
    → (p : ℕ) × (ss : SortTrees) × (ps : PatternTrees) × (t ≡ connected p op ss ps)
by-connective (element_variable p n s) op e = absurd (let z : ⊥ = cc in z)
by-connective (set_variable p n s) op e = absurd (let z : ⊥ = cc in z)
by-connective (string p n) op e = absurd (let z : ⊥ = cc in z)
by-connective (symbol_applied p n ss ps) op e = absurd (let z : ⊥ = cc in z)
by-connective (connected p o ss ps) op e =
    let f : o ≡ op = cc in (p, ss, ps, ap (λ v. connected p v ss ps) f)
by-connective (binder_applied p o ss x q) op e = absurd (let z : ⊥ = cc in z)
by-connective (value_written p s n q) op e = absurd (let z : ⊥ = cc in z)
by-connective (folded p l q) op e = absurd (let z : ⊥ = cc in z)

by-binder : (t : PatternTree) (binder : Binder)
    → head_of_tree t ≡ head.Builtin (built.Binding binder)
    → (p : ℕ) × (ss : SortTrees) × (x : PatternTree) × (q : PatternTree)
    × (t ≡ binder_applied p binder ss x q)
by-binder (element_variable p n s) binder e = absurd (let z : ⊥ = cc in z)
by-binder (set_variable p n s) binder e = absurd (let z : ⊥ = cc in z)
by-binder (string p n) binder e = absurd (let z : ⊥ = cc in z)
by-binder (symbol_applied p n ss ps) binder e = absurd (let z : ⊥ = cc in z)
by-binder (connected p o ss ps) binder e = absurd (let z : ⊥ = cc in z)
by-binder (binder_applied p o ss x q) binder e =
    let f : o ≡ binder = cc in (p, ss, x, q, ap (λ v. binder_applied p v ss x q) f)
by-binder (value_written p s n q) binder e = absurd (let z : ⊥ = cc in z)
by-binder (folded p l q) binder e = absurd (let z : ⊥ = cc in z)

by-value : (t : PatternTree) → head_of_tree t ≡ head.Builtin built.Value
    → (p : ℕ) × (s : SortTree) × (n : List ℕ) × (q : ℕ) × (t ≡ value_written p s n q)
by-value (element_variable p n s) e = absurd (let z : ⊥ = cc in z)
by-value (set_variable p n s) e = absurd (let z : ⊥ = cc in z)
by-value (string p n) e = absurd (let z : ⊥ = cc in z)
by-value (symbol_applied p n ss ps) e = absurd (let z : ⊥ = cc in z)
by-value (connected p o ss ps) e = absurd (let z : ⊥ = cc in z)
by-value (binder_applied p o ss x q) e = absurd (let z : ⊥ = cc in z)
by-value (value_written p s n q) e = (p, s, n, q, refl)
by-value (folded p l q) e = absurd (let z : ⊥ = cc in z)

by-fold : (t : PatternTree) (from_left : Bool)
    → head_of_tree t ≡ head.Builtin (built.Fold from_left)
    → (p : ℕ) × (q : PatternTree) × (t ≡ folded p from_left q)
by-fold (element_variable p n s) from_left e = absurd (let z : ⊥ = cc in z)
by-fold (set_variable p n s) from_left e = absurd (let z : ⊥ = cc in z)
by-fold (string p n) from_left e = absurd (let z : ⊥ = cc in z)
by-fold (symbol_applied p n ss ps) from_left e = absurd (let z : ⊥ = cc in z)
by-fold (connected p o ss ps) from_left e = absurd (let z : ⊥ = cc in z)
by-fold (binder_applied p o ss x q) from_left e = absurd (let z : ⊥ = cc in z)
by-fold (value_written p s n q) from_left e = absurd (let z : ⊥ = cc in z)
by-fold (folded p l q) from_left e = let f : l ≡ from_left = cc in (p, q, ap (λ v. folded p v q) f)

by-text : (t : PatternTree) → is_textual (head_of_tree t) ≡ true
    → (p : ℕ) × (n : List ℕ) × (t ≡ string p n)
by-text (element_variable p n s) e = absurd (let y : false ≡ true = e in let z : ⊥ = cc in z)
by-text (set_variable p n s) e = absurd (let y : false ≡ true = e in let z : ⊥ = cc in z)
by-text (string p n) e = (p, n, refl)
by-text (symbol_applied p n ss ps) e = absurd (let y : false ≡ true = e in let z : ⊥ = cc in z)
by-text (connected p o ss ps) e = absurd (let y : false ≡ true = e in let z : ⊥ = cc in z)
by-text (binder_applied p o ss x q) e = absurd (let y : false ≡ true = e in let z : ⊥ = cc in z)
by-text (value_written p s n q) e = absurd (let y : false ≡ true = e in let z : ⊥ = cc in z)
by-text (folded p l q) e = absurd (let y : false ≡ true = e in let z : ⊥ = cc in z)

abbrev Matches : (b : Bool) → PatternTree → Stream → Stream → Type 0
Matches b x s r = (t : PatternTree) (k : List Requirement) (e : Stream) → Apart k e
    → Has (spell_pattern b t k) s e → (t ≡ x) × Has k r e

element-go : (b : Bool) (x : SortTree) (s r : Stream) → head_of (seen s) ≡ head.Name
    → has_mark 58 (seen (after s)) ≡ true → Reads spell_sort x (after (after s)) r
    → Matches b (element_variable (byte_of_next s) (name_of (seen s)) x) s r
element-go b x s r hd m i (element_variable p n y) k e a h =
    let w : List Requirement = any (mark 58) ∷ spell_sort y k in
    let u = placed-step p (identifier n) w s e h in
    let v = any-step (mark 58) (spell_sort y k) (after s) e u.2 in
    let z = i.exact y k e a v.1 in (
      ap (λ q. element_variable q n y) u.1
          ∙ ap (λ o. element_variable (byte_of_next s) (name_of o) y) (sym u.0)
          ∙ ap (element_variable (byte_of_next s) (name_of (seen s))) z.0,
      z.1,
    )
element-go b x s r hd m i (set_variable p n y) k e a h =
    let z : head_of_tree (set_variable p n y) ≡ head.Name =
    begins-head b (set_variable p n y) k s e head.Name hd h in
    absurd (let y' : ⊥ = cc in y')
element-go b x s r hd m i (string p n) k e a h =
    let z : head_of_tree (string p n) ≡ head.Name =
    begins-head b (string p n) k s e head.Name hd h in
    absurd (let y' : ⊥ = cc in y')
element-go b x s r hd m i (symbol_applied p n ss ps) k e a h =
    let w : List Requirement =
    listed (spell_sorts ss) 125 (any (mark 40) ∷ listed (spell_patterns b ps) 41 k) in
    let u = placed-step p (identifier n) (any (mark 123) ∷ w) s e h in
    absurd (contrary (has_mark 58 (seen (after s))) m
    (ap (has_mark 58) (any-step (mark 123) w (after s) e u.2).0))
element-go b x s r hd m i (connected p o ss ps) k e a h =
    let z : head_of_tree (connected p o ss ps) ≡ head.Name =
    begins-head b (connected p o ss ps) k s e head.Name hd h in
    absurd (let y' : ⊥ = cc in y')
element-go b x s r hd m i (binder_applied p o ss y q) k e a h =
    let z : head_of_tree (binder_applied p o ss y q) ≡ head.Name =
    begins-head b (binder_applied p o ss y q) k s e head.Name hd h in
    absurd (let y' : ⊥ = cc in y')
element-go b x s r hd m i (value_written p y n q) k e a h =
    let z : head_of_tree (value_written p y n q) ≡ head.Name =
    begins-head b (value_written p y n q) k s e head.Name hd h in
    absurd (let y' : ⊥ = cc in y')
element-go b x s r hd m i (folded p l q) k e a h =
    let z : head_of_tree (folded p l q) ≡ head.Name =
    begins-head b (folded p l q) k s e head.Name hd h in
    absurd (let y' : ⊥ = cc in y')

symbol-go : (b : Bool) (xs : List SortTree) (ys : List PatternTree) (s r1 r : Stream)
    → head_of (seen s) ≡ head.Name → has_mark 58 (seen (after s)) ≡ false
    → Reads (spell_list spell_sort 125) xs (after (after s)) r1
    → Reads (spell_list (spell_pattern b) 41) ys (after r1) r
    → Matches b
    (symbol_applied (byte_of_next s) (name_of (seen s)) (sort_trees xs) (pattern_trees ys)) s r
symbol-go b xs ys s r1 r hd m i j (element_variable p n x) k e a h =
    let u = placed-step p (identifier n) (any (mark 58) ∷ spell_sort x k) s e h in
    absurd (contrary (has_mark 58 (seen (after s)))
    (ap (has_mark 58) (any-step (mark 58) (spell_sort x k) (after s) e u.2).0) m)
symbol-go b xs ys s r1 r hd m i j (set_variable p n x) k e a h =
    let z : head_of_tree (set_variable p n x) ≡ head.Name =
    begins-head b (set_variable p n x) k s e head.Name hd h in
    absurd (let y' : ⊥ = cc in y')
symbol-go b xs ys s r1 r hd m i j (string p n) k e a h =
    let z : head_of_tree (string p n) ≡ head.Name =
    begins-head b (string p n) k s e head.Name hd h in
    absurd (let y' : ⊥ = cc in y')
symbol-go b xs ys s r1 r hd m i j (symbol_applied p n ss ps) k e a h =
    let w : List Requirement = any (mark 40) ∷ listed (spell_patterns b ps) 41 k in
    let u = placed-step p (identifier n) (any (mark 123) ∷ listed (spell_sorts ss) 125 w) s e h in
    let v = any-step (mark 123) (listed (spell_sorts ss) 125 w) (after s) e u.2 in
    let z = sorts-exact xs (after (after s)) r1 i ss w e refl v.1 in
    let y = any-step (mark 40) (listed (spell_patterns b ps) 41 k) r1 e z.1 in
    let c = patterns-exact b ys (after r1) r j ps k e a y.1 in (
      ap (λ q. symbol_applied q n ss ps) u.1
          ∙ ap (λ o. symbol_applied (byte_of_next s) (name_of o) ss ps) (sym u.0)
          ∙ ap (λ o. symbol_applied (byte_of_next s) (name_of (seen s)) o ps) z.0
          ∙ ap (symbol_applied (byte_of_next s) (name_of (seen s)) (sort_trees xs)) c.0,
      c.1,
    )
symbol-go b xs ys s r1 r hd m i j (connected p o ss ps) k e a h =
    let z : head_of_tree (connected p o ss ps) ≡ head.Name =
    begins-head b (connected p o ss ps) k s e head.Name hd h in
    absurd (let y' : ⊥ = cc in y')
symbol-go b xs ys s r1 r hd m i j (binder_applied p o ss x q) k e a h =
    let z : head_of_tree (binder_applied p o ss x q) ≡ head.Name =
    begins-head b (binder_applied p o ss x q) k s e head.Name hd h in
    absurd (let y' : ⊥ = cc in y')
symbol-go b xs ys s r1 r hd m i j (value_written p x n q) k e a h =
    let z : head_of_tree (value_written p x n q) ≡ head.Name =
    begins-head b (value_written p x n q) k s e head.Name hd h in
    absurd (let y' : ⊥ = cc in y')
symbol-go b xs ys s r1 r hd m i j (folded p l q) k e a h =
    let z : head_of_tree (folded p l q) ≡ head.Name =
    begins-head b (folded p l q) k s e head.Name hd h in
    absurd (let y' : ⊥ = cc in y')

-- the spelling of equal patterns is the same
form : (b : Bool) (t u : PatternTree) (k : List Requirement) (s e : Stream) → t ≡ u
    → Has (spell_pattern b t k) s e → Has (spell_pattern b u k) s e
form b t u k s e f h = subst (λ v. Has (spell_pattern b v k) s e) f h

set-go : (b : Bool) (x : SortTree) (s r : Stream) → head_of (seen s) ≡ head.SetName
    → Reads spell_sort x (after (after s)) r
    → Matches b (set_variable (byte_of_next s) (set_name_of (seen s)) x) s r
set-go b x s r hd i t k e a h =
    let f = by-set t (begins-head b t k s e head.SetName hd h) in
    let p : ℕ = f.0 in
    let n : List ℕ = f.1 in
    let y : SortTree = f.2 in
    let w : List Requirement = any (mark 58) ∷ spell_sort y k in
    let u = placed-step p (set_identifier n) w s e (form b t (set_variable p n y) k s e f.3 h) in
    let v = any-step (mark 58) (spell_sort y k) (after s) e u.2 in
    let z = i.exact y k e a v.1 in (
      f.3 ∙ ap (λ q. set_variable q n y) u.1
          ∙ ap (λ o. set_variable (byte_of_next s) (set_name_of o) y) (sym u.0)
          ∙ ap (set_variable (byte_of_next s) (set_name_of (seen s))) z.0,
      z.1,
    )

text-go : (b : Bool) (s : Stream) → is_textual (head_of (seen s)) ≡ true
    → Matches b (string (byte_of_next s) (text_of (seen s))) s (after s)
text-go b s hd t k e a h =
    let f = by-text t (ap is_textual (begins-head b t k s e (head_of (seen s)) refl h) ∙ hd) in
    let p : ℕ = f.0 in
    let n : List ℕ = f.1 in
    let g = given-step b (placed p (string_token n) ∷ k) s e (form b t (string p n) k s e f.2 h) in
    let u = placed-step p (string_token n) k s e g.1 in
    (f.2 ∙ ap (λ q. string q n) u.1 ∙ ap (λ o. string (byte_of_next s) (text_of o)) (sym u.0), u.2)

connected-go : (b : Bool) (op : Op) (xs : List SortTree) (ys : List PatternTree) (s r1 r : Stream)
    → head_of (seen s) ≡ head.Builtin (built.Connective op)
    → Reads (spell_list spell_sort 125) xs (after (after s)) r1
    → Reads (spell_list (spell_pattern b) 41) ys (after r1) r
    → Matches b (connected (byte_of_next s) op (sort_trees xs) (pattern_trees ys)) s r
connected-go b op xs ys s r1 r hd i j t k e a h =
    let f = by-connective t op (begins-head b t k s e (head.Builtin (built.Connective op)) hd h) in
    let p : ℕ = f.0 in
    let ss : SortTrees = f.1 in
    let ps : PatternTrees = f.2 in
    let w : List Requirement = any (mark 40) ∷ listed (spell_patterns b ps) 41 k in
    let d : KoreToken = builtin (Some (built.Connective op)) in
    let g =
    given-step (takes op (sort_count ss) (pattern_count ps))
    (spell_applied p d ss (spell_patterns b ps) k) s e
    (form b t (connected p op ss ps) k s e f.3 h) in
    let u = placed-step p d (any (mark 123) ∷ listed (spell_sorts ss) 125 w) s e g.1 in
    let v = any-step (mark 123) (listed (spell_sorts ss) 125 w) (after s) e u.2 in
    let z = sorts-exact xs (after (after s)) r1 i ss w e refl v.1 in
    let y = any-step (mark 40) (listed (spell_patterns b ps) 41 k) r1 e z.1 in
    let c = patterns-exact b ys (after r1) r j ps k e a y.1 in (
      f.3 ∙ ap (λ q. connected q op ss ps) u.1
          ∙ ap (λ o. connected (byte_of_next s) op o ps) z.0
          ∙ ap (connected (byte_of_next s) op (sort_trees xs)) c.0,
      c.1,
    )

binding-go : (b : Bool) (o : Binder) (xs : List SortTree) (y z : PatternTree) (s r1 r2 r3 : Stream)
    → head_of (seen s) ≡ head.Builtin (built.Binding o)
    → Reads (spell_list spell_sort 125) xs (after (after s)) r1
    → Reads (spell_pattern b) y (after r1) r2 → Reads (spell_pattern b) z (after r2) r3
    → Matches b (binder_applied (byte_of_next s) o (sort_trees xs) y z) s (after r3)
binding-go b o xs y z s r1 r2 r3 hd i j l t k e a h =
    let f = by-binder t o (begins-head b t k s e (head.Builtin (built.Binding o)) hd h) in
    let p : ℕ = f.0 in
    let ss : SortTrees = f.1 in
    let x : PatternTree = f.2 in
    let q : PatternTree = f.3 in
    let w3 : List Requirement = any (mark 41) ∷ k in
    let w2 : List Requirement = any (mark 44) ∷ spell_pattern b q w3 in
    let w1 : List Requirement = any (mark 40) ∷ spell_pattern b x w2 in
    let d : KoreToken = builtin (Some (built.Binding o)) in
    let g =
    given-step ((sort_count ss == binder_sorts o) && is_variable_tree (binds_sets o) x)
    (placed p d ∷ behind-binder b ss x q k) s e
    (form b t (binder_applied p o ss x q) k s e f.4 h) in
    let u = placed-step p d (behind-binder b ss x q k) s e g.1 in
    let v = any-step (mark 123) (listed (spell_sorts ss) 125 w1) (after s) e u.2 in
    let c1 = sorts-exact xs (after (after s)) r1 i ss w1 e refl v.1 in
    let m1 = any-step (mark 40) (spell_pattern b x w2) r1 e c1.1 in
    let c2 = j.exact x w2 e refl m1.1 in
    let m2 = any-step (mark 44) (spell_pattern b q w3) r2 e c2.1 in
    let c3 = l.exact q w3 e refl m2.1 in
    let m3 = any-step (mark 41) k r3 e c3.1 in (
      f.4 ∙ ap (λ v. binder_applied v o ss x q) u.1
          ∙ ap (λ v. binder_applied (byte_of_next s) o v x q) c1.0
          ∙ ap (λ v. binder_applied (byte_of_next s) o (sort_trees xs) v q) c2.0
          ∙ ap (binder_applied (byte_of_next s) o (sort_trees xs) y) c3.0,
      m3.1,
    )

value-go : (b : Bool) (x : SortTree) (s r : Stream) → head_of (seen s) ≡ head.Builtin built.Value
    → Reads spell_sort x (after (after s)) r
    → Matches b (value_written (byte_of_next s) x (text_of (seen (after (after r))))
    (byte_of_next (after (after r)))) s (after (after (after (after r))))
value-go b x s r hd i t k e a h =
    let f = by-value t (begins-head b t k s e (head.Builtin built.Value) hd h) in
    let p : ℕ = f.0 in
    let y : SortTree = f.1 in
    let n : List ℕ = f.2 in
    let q : ℕ = f.3 in
    let w4 : List Requirement = any (mark 41) ∷ k in
    let w3 : List Requirement = placed q (string_token n) ∷ w4 in
    let w2 : List Requirement = any (mark 40) ∷ w3 in
    let w1 : List Requirement = any (mark 125) ∷ w2 in
    let d : KoreToken = builtin (Some built.Value) in
    let u =
    placed-step p d (any (mark 123) ∷ spell_sort y w1) s e
    (form b t (value_written p y n q) k s e f.4 h) in
    let v = any-step (mark 123) (spell_sort y w1) (after s) e u.2 in
    let z = i.exact y w1 e refl v.1 in
    let m1 = any-step (mark 125) w2 r e z.1 in
    let m2 = any-step (mark 40) w3 (after r) e m1.1 in
    let m3 = placed-step q (string_token n) w4 (after (after r)) e m2.1 in
    let m4 = any-step (mark 41) k (after (after (after r))) e m3.2 in (
      f.4 ∙ ap (λ v. value_written v y n q) u.1 ∙ ap (λ v. value_written (byte_of_next s) v n q) z.0
          ∙ ap (λ v. value_written (byte_of_next s) x (text_of v) q) (sym m3.0)
          ∙ ap (value_written (byte_of_next s) x (text_of (seen (after (after r))))) m3.1,
      m4.1,
    )

fold-go : (b l : Bool) (x : PatternTree) (s r : Stream)
    → head_of (seen s) ≡ head.Builtin (built.Fold l)
    → Reads (spell_pattern b) x (after (after (after (after s)))) r
    → Matches b (folded (byte_of_next s) l x) s (after r)
fold-go b l x s r hd i t k e a h =
    let f = by-fold t l (begins-head b t k s e (head.Builtin (built.Fold l)) hd h) in
    let p : ℕ = f.0 in
    let q : PatternTree = f.1 in
    let w4 : List Requirement = any (mark 41) ∷ k in
    let w3 : List Requirement = spell_pattern b q w4 in
    let w2 : List Requirement = any (mark 40) ∷ w3 in
    let w1 : List Requirement = any (mark 125) ∷ w2 in
    let d : KoreToken = builtin (Some (built.Fold l)) in
    let g =
    given-step (is_foldable q) (placed p d ∷ any (mark 123) ∷ w1) s e
    (form b t (folded p l q) k s e f.2 h) in
    let u = placed-step p d (any (mark 123) ∷ w1) s e g.1 in
    let m1 = any-step (mark 123) w1 (after s) e u.2 in
    let m2 = any-step (mark 125) w2 (after (after s)) e m1.1 in
    let m3 = any-step (mark 40) w3 (after (after (after s))) e m2.1 in
    let z = i.exact q w4 e refl m3.1 in
    let m4 = any-step (mark 41) k r e z.1 in
    (f.2 ∙ ap (λ v. folded v l q) u.1 ∙ ap (folded (byte_of_next s) l) z.0, m4.1)

-- The same, stated with the calls of the reader.
pub element-read : (at : ℕ) (n : List ℕ) (x : SortTree) (s s1 s2 r : Stream)
    → head_of (seen s) ≡ head.Name → at ≡ byte_of_next s → n ≡ name_of (seen s) → s1 ≡ after s
    → has_mark 58 (seen s1) ≡ true → s2 ≡ after s1 → Reads spell_sort x s2 r → (b : Bool)
    → Reads (spell_pattern b) (element_variable at n x) s r
element-read at n x s s1 s2 r hd e f g m h i b =
    rw (e, f) (record {
      exact =
          element-go b x s r hd (subst (λ u. has_mark 58 (seen u) ≡ true) g m)
          (subst (λ u. Reads spell_sort x u r) (h ∙ ap after g) i);
    })

pub symbol-read : (at : ℕ) (n : List ℕ) (xs : List SortTree) (ys : List PatternTree)
    (s s1 s2 s3 s4 r : Stream) → head_of (seen s) ≡ head.Name → at ≡ byte_of_next s
    → n ≡ name_of (seen s) → s1 ≡ after s → has_mark 58 (seen s1) ≡ false → s2 ≡ after s1
    → Reads (spell_list spell_sort 125) xs s2 s3 → s4 ≡ after s3
    → ((b : Bool) → Reads (spell_list (spell_pattern b) 41) ys s4 r) → (b : Bool)
    → Reads (spell_pattern b) (symbol_applied at n (sort_trees xs) (pattern_trees ys)) s r
symbol-read at n xs ys s s1 s2 s3 s4 r hd e f g m h i l j b =
    rw (e, f) (record {
      exact =
          symbol-go b xs ys s s3 r hd (subst (λ u. has_mark 58 (seen u) ≡ false) g m)
          (subst (λ u. Reads (spell_list spell_sort 125) xs u s3) (h ∙ ap after g) i)
          (subst (λ u. Reads (spell_list (spell_pattern b) 41) ys u r) l (j b));
    })

pub set-read : (at : ℕ) (n : List ℕ) (x : SortTree) (s s1 s2 r : Stream)
    → head_of (seen s) ≡ head.SetName → at ≡ byte_of_next s → n ≡ set_name_of (seen s)
    → s1 ≡ after s → s2 ≡ after s1 → Reads spell_sort x s2 r → (b : Bool)
    → Reads (spell_pattern b) (set_variable at n x) s r
set-read at n x s s1 s2 r hd e f g h i b =
    rw (e, f) (record {
      exact =
          set-go b x s r hd (subst (λ u. Reads spell_sort x u r) (h ∙ ap after g) i);
    })

pub text-read : (at : ℕ) (n : List ℕ) (s r : Stream) → is_textual (head_of (seen s)) ≡ true
    → at ≡ byte_of_next s → n ≡ text_of (seen s) → r ≡ after s → (b : Bool)
    → Reads (spell_pattern b) (string at n) s r
text-read at n s r hd e f g b = rw (e, f, g) (record { exact = text-go b s hd })

pub connected-read : (at : ℕ) (op : Op) (xs : List SortTree) (ys : List PatternTree)
    (s s1 s2 s3 s4 r : Stream) → head_of (seen s) ≡ head.Builtin (built.Connective op)
    → at ≡ byte_of_next s → s1 ≡ after s → s2 ≡ after s1
    → Reads (spell_list spell_sort 125) xs s2 s3 → s4 ≡ after s3
    → ((b : Bool) → Reads (spell_list (spell_pattern b) 41) ys s4 r) → (b : Bool)
    → Reads (spell_pattern b) (connected at op (sort_trees xs) (pattern_trees ys)) s r
connected-read at op xs ys s s1 s2 s3 s4 r hd e g h i l j b =
    rw e (record {
      exact =
          connected-go b op xs ys s s3 r hd
          (subst (λ u. Reads (spell_list spell_sort 125) xs u s3) (h ∙ ap after g) i)
          (subst (λ u. Reads (spell_list (spell_pattern b) 41) ys u r) l (j b));
    })

pub binding-read : (at : ℕ) (o : Binder) (xs : List SortTree) (y z : PatternTree)
    (s s1 s2 s3 s4 s5 s6 s7 r : Stream) → head_of (seen s) ≡ head.Builtin (built.Binding o)
    → at ≡ byte_of_next s → s1 ≡ after s → s2 ≡ after s1
    → Reads (spell_list spell_sort 125) xs s2 s3 → s4 ≡ after s3
    → ((b : Bool) → Reads (spell_pattern b) y s4 s5) → s6 ≡ after s5
    → ((b : Bool) → Reads (spell_pattern b) z s6 s7) → r ≡ after s7 → (b : Bool)
    → Reads (spell_pattern b) (binder_applied at o (sort_trees xs) y z) s r
binding-read at o xs y z s s1 s2 s3 s4 s5 s6 s7 r hd e g h i l j m q w b =
    rw (e, w) (record {
      exact =
          binding-go b o xs y z s s3 s5 s7 hd
          (subst (λ u. Reads (spell_list spell_sort 125) xs u s3) (h ∙ ap after g) i)
          (subst (λ u. Reads (spell_pattern b) y u s5) l (j b))
          (subst (λ u. Reads (spell_pattern b) z u s7) m (q b));
    })

pub value-read : (at p : ℕ) (n : List ℕ) (x : SortTree) (s s1 s2 s3 s4 s5 s6 r : Stream)
    → head_of (seen s) ≡ head.Builtin built.Value → at ≡ byte_of_next s → s1 ≡ after s
    → s2 ≡ after s1 → Reads spell_sort x s2 s3 → s4 ≡ after s3 → s5 ≡ after s4 → p ≡ byte_of_next s5
    → n ≡ text_of (seen s5) → s6 ≡ after s5 → r ≡ after s6 → (b : Bool)
    → Reads (spell_pattern b) (value_written at x n p) s r
value-read at p n x s s1 s2 s3 s4 s5 s6 r hd e g h i l m f q w v b =
    let c : s5 ≡ after (after s3) = m ∙ ap after l in
    let u1 : n ≡ text_of (seen (after (after s3))) = q ∙ ap (λ u. text_of (seen u)) c in
    let u2 : p ≡ byte_of_next (after (after s3)) = f ∙ ap byte_of_next c in
    let u3 : r ≡ after (after (after (after s3))) = v ∙ ap after w ∙ ap (λ u. after (after u)) c in
    rw (e, u1, u2, u3) (record {
      exact =
          value-go b x s s3 hd (subst (λ u. Reads spell_sort x u s3) (h ∙ ap after g) i);
    })

pub fold-read : (at : ℕ) (l : Bool) (x : PatternTree) (s s1 s2 s3 s4 s5 r : Stream)
    → head_of (seen s) ≡ head.Builtin (built.Fold l) → at ≡ byte_of_next s → s1 ≡ after s
    → s2 ≡ after s1 → s3 ≡ after s2 → s4 ≡ after s3 → ((b : Bool) → Reads (spell_pattern b) x s4 s5)
    → r ≡ after s5 → (b : Bool) → Reads (spell_pattern b) (folded at l x) s r
fold-read at l x s s1 s2 s3 s4 s5 r hd e g h i j m w b =
    rw (e, w) (record {
      exact =
          fold-go b l x s s5 hd (subst (λ u. Reads (spell_pattern b) x u s5)
          (j ∙ ap after (i ∙ ap after (h ∙ ap after g))) (m b));
    })
