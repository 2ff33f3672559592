-- What folds and empty connectives say, by the moves that their tokens make.
use Rattle.std.proofs.Common.{◌≡◌, ℕ, Bool, true, false, ◌==◌, ◌&&◌, List, [], ◌∷◌, length, map}
use Rattle.std.proofs.Common.{Option, Some, None, refl, ap, sym, ◌∙◌, subst, inl, inr}
use Rattle.std.proofs.Common.{if◌then◌else◌}
use Rattle.kore_text.specs.declared.names.Op.{Op}
use Rattle.kore_text.specs.declared.names.Op.TheVariants as op
use Rattle.kore_text.specs.declared.names.Built.{Built}
use Rattle.kore_text.specs.declared.names.Built.TheVariants.{Connective, Binding, Value, Fold}
use Rattle.kore_text.specs.declared.symbols.Close.TheVariants as close
use Rattle.kore_text.specs.declared.symbols.Item.TheVariants as item
use Rattle.kore_text.specs.declared.symbols.Symbol.{Symbol}
use Rattle.kore_text.specs.declared.symbols.Symbol.TheVariants as symbol
use Rattle.kore_text.specs.TokenStream.{KoreToken, identifier, set_identifier, builtin}
use Rattle.kore_text.specs.TokenStream.{string_token, mark, assign, Stream, token}
use Rattle.kore_text.specs.Trees.{SortTree, sort_parameter, sort_applied, no_sorts, sort_then}
use Rattle.kore_text.specs.Trees.{sort_count, PatternTree, element_variable, set_variable, string}
use Rattle.kore_text.specs.Trees.{symbol_applied, connected, binder_applied, value_written, folded}
use Rattle.kore_text.specs.Trees.{pattern_then, pattern_count, sort_trees, pattern_trees}
use Rattle.kore_text.specs.Grammar.{Requirement, placed, any, listed, more_listed, TakesTokens}
use Rattle.kore_text.specs.Grammar.{connective_sorts, connective_arguments, takes, is_count}
use Rattle.kore_text.specs.Grammar.{binder_sorts, binds_sets, is_variable_tree, is_associative}
use Rattle.kore_text.specs.Grammar.{spell_sort, spell_sorts, spell_pattern, spell_patterns}
use Rattle.kore_text.specs.Grammar.{spell_variable}
use Rattle.kore_text.specs.Table.{folded_arguments, exactly, argument_symbols, built_symbols, when}
use Rattle.kore_text.specs.Table.{name_move, sort_move, pattern_move, built_move, assign_move}
use Rattle.kore_text.specs.Table.{text_move, pattern_tail_move, variable_move}
use Rattle.kore_text.specs.Apart.{is_mark}
use Rattle.kore_text.specs.declared.names.Binder.{Binder}
use Rattle.kore_text.proofs.Accepting.{number-is, single}
use Rattle.kore_text.proofs.Saying.{To, variable_token, Says, Pieces, along, spell_sorts-trees}
use Rattle.kore_text.proofs.Saying.{spell_patterns-trees, sort_count-trees, pattern_count-trees}
use Rattle.kore_text.proofs.Saying.{same-count, exactly-back}

-- what the symbols of the move say is here
abbrev pub Moved : Option (List Symbol) → Stream → Stream → Type 0
Moved None s r = ⊥
Moved (Some b) s r = Pieces b s r

pub when-back : (x : Bool) (b : List Symbol) (s r : Stream) → Moved (when x b) s r
    → (x ≡ true) × Pieces b s r
when-back true b s r m = (refl, m)
when-back false b s r m = absurd m

and-true : (a b : Bool) → a ≡ true → b ≡ true → (a && b) ≡ true
and-true a b h i = rw (h, i) refl

pub mark-is : (c : ℕ) (t : KoreToken) → is_mark c t ≡ true → t ≡ mark c
mark-is c (identifier n) h = let z : ⊥ = cc in absurd z
mark-is c (set_identifier n) h = let z : ⊥ = cc in absurd z
mark-is c (builtin x) h = let z : ⊥ = cc in absurd z
mark-is c (string_token n) h = let z : ⊥ = cc in absurd z
mark-is c (mark d) h = ap mark (number-is d c h)
mark-is c assign h = let z : ⊥ = cc in absurd z

-- lists of sorts and of patterns in a tree
pub as-sorts : (xs : List SortTree) (s r : Stream) → To (listed (map spell_sort xs) 125) s r
    → To (listed (spell_sorts (sort_trees xs)) 125) s r
as-sorts xs s r m w e h =
    subst (λ fs. TakesTokens (listed fs 125 w) s e) (sym (spell_sorts-trees xs)) (m w e h)

as-patterns : (b : Bool) (ps : List PatternTree) (s r : Stream)
    → To (listed (map (spell_pattern b) ps) 41) s r
    → To (listed (spell_patterns b (pattern_trees ps)) 41) s r
as-patterns b ps s r m w e h =
    subst (λ fs. TakesTokens (listed fs 41 w) s e) (sym (spell_patterns-trees b ps)) (m w e h)

as-more-patterns : (b : Bool) (ps : List PatternTree) (s r : Stream)
    → To (more_listed (map (spell_pattern b) ps) 41) s r
    → To (more_listed (spell_patterns b (pattern_trees ps)) 41) s r
as-more-patterns b ps s r m w e h =
    subst (λ fs. TakesTokens (more_listed fs 41 w) s e) (sym (spell_patterns-trees b ps)) (m w e h)

pub name-back : (t : KoreToken) (p : ℕ) (s r : Stream) → Moved (name_move t) s r
    → Says symbol.Name (token t p s) r
name-back (identifier n) p s r m = (n, λ w e h. (refl, along s r m w e h))
name-back (set_identifier n) p s r m = absurd m
name-back (builtin x) p s r m = absurd m
name-back (string_token n) p s r m = absurd m
name-back (mark d) p s r m = absurd m
name-back assign p s r m = absurd m

pub text-back : (t : KoreToken) (p : ℕ) (s r : Stream) → Moved (text_move t) s r
    → Says symbol.Text (token t p s) r
text-back (identifier n) p s r m = absurd m
text-back (set_identifier n) p s r m = absurd m
text-back (builtin x) p s r m = absurd m
text-back (string_token n) p s r m = (n, p, λ w e h. (refl, refl, along s r m w e h))
text-back (mark d) p s r m = absurd m
text-back assign p s r m = absurd m

pub assign-back : (t : KoreToken) (p : ℕ) (s r : Stream) → Moved (assign_move t) s r
    → Says symbol.Assign (token t p s) r
assign-back (identifier n) p s r m = absurd m
assign-back (set_identifier n) p s r m = absurd m
assign-back (builtin x) p s r m = absurd m
assign-back (string_token n) p s r m = absurd m
assign-back (mark d) p s r m = absurd m
assign-back assign p s r m = λ w e h. (refl, along s r m w e h)

pub sort-back : (t : KoreToken) (p : ℕ) (s r : Stream) → Moved (sort_move t) s r
    → Says symbol.Sort (token t p s) r
sort-back (identifier n) p s r m = elim m.1 [
  | inl g ↦ (sort_parameter p n, λ w e h. (refl, refl, g w e (along m.0 r m.2 w e h)))
  | inr g ↦ (sort_applied p n g.0, λ w e h. (refl, refl, g.1 w e (along m.0 r m.2 w e h)))
]
sort-back (set_identifier n) p s r m = absurd m
sort-back (builtin x) p s r m = absurd m
sort-back (string_token n) p s r m = absurd m
sort-back (mark d) p s r m = absurd m
sort-back assign p s r m = absurd m

pub sort-tail-back : (t : KoreToken) (p : ℕ) (s r : Stream)
    → Moved (when (is_mark 123 t) (symbol.First item.Sort close.Brace ∷ [])) s r
    → Says symbol.SortTail (token t p s) r
sort-tail-back t p s r m =
    let x = when-back (is_mark 123 t) (symbol.First item.Sort close.Brace ∷ []) s r m in
    inr (
      sort_trees x.1.1.0,
      λ w e h.
          (mark-is 123 t x.0, as-sorts x.1.1.0 s x.1.0 x.1.1.1 w e (along x.1.0 r x.1.2 w e h)),
    )

pub variable-back : (c : Bool) (t : KoreToken) (p : ℕ) (s r : Stream)
    → Moved (variable_move c t) s r
    → Says (symbol.Variable c) (token t p s) r
variable-back true (identifier n) p s r m = absurd m
variable-back true (set_identifier n) p s r m = (
  p,
  n,
  m.2.1.0,
  λ w e h.
      (refl, refl, m.1 (spell_sort m.2.1.0 w) e (m.2.1.1 w e (along m.2.0 r m.2.2 w e h))),
)
variable-back true (builtin x) p s r m = absurd m
variable-back true (string_token n) p s r m = absurd m
variable-back true (mark d) p s r m = absurd m
variable-back true assign p s r m = absurd m
variable-back false (identifier n) p s r m = (
  p,
  n,
  m.2.1.0,
  λ w e h.
      (refl, refl, m.1 (spell_sort m.2.1.0 w) e (m.2.1.1 w e (along m.2.0 r m.2.2 w e h))),
)
variable-back false (set_identifier n) p s r m = absurd m
variable-back false (builtin x) p s r m = absurd m
variable-back false (string_token n) p s r m = absurd m
variable-back false (mark d) p s r m = absurd m
variable-back false assign p s r m = absurd m

arguments-back : (b : Bool) (x : Option ℕ) (s r : Stream) → Pieces (argument_symbols b x) s r
    → (ys : List PatternTree)
    × ((is_count x (length ys) ≡ true) × To (listed (map (spell_pattern b) ys) 41) s r)
arguments-back b None s r m = (m.1.0, (refl, λ w e h. m.1.1 w e (along m.0 r m.2 w e h)))
arguments-back b (Some n) s r m =
    let x = exactly-back (item.Pattern b) close.Paren n [] s r m in (
      x.0,
      (
        subst (λ k. (k == n) ≡ true) (sym x.1.0) (same-count n),
        λ w e h. x.1.1.1.0 w e (along x.1.1.0 r x.1.1.1.1 w e h),
      ),
    )

connected-back : (b : Bool) (o : Op) (p : ℕ) (s r : Stream)
    → Pieces (built_symbols b (Connective o)) s r
    → Says (symbol.Pattern b) (token (builtin (Some (Connective o))) p s) r
connected-back b o p s r m =
    let x =
    exactly-back item.Sort close.Brace (connective_sorts o)
    (symbol.Mark 40 ∷ argument_symbols b (connective_arguments o)) m.0 r m.2 in
    let xs : List SortTree = x.0 in
    let q2 : Stream = x.1.1.0 in
    let g : Pieces (symbol.Mark 40 ∷ argument_symbols b (connective_arguments o)) q2 r =
    x.1.1.1.1 in
    let y = arguments-back b (connective_arguments o) g.0 r g.2 in
    let ys : List PatternTree = y.0 in
    let v : List Requirement → List Requirement =
    λ w. listed (spell_patterns b (pattern_trees ys)) 41 w in
    let fit : takes o (sort_count (sort_trees xs)) (pattern_count (pattern_trees ys)) ≡ true =
    and-true (sort_count (sort_trees xs) == connective_sorts o)
    (is_count (connective_arguments o) (pattern_count (pattern_trees ys)))
    (subst (λ k. (k == connective_sorts o) ≡ true) (sym (sort_count-trees xs ∙ x.1.0))
    (same-count (connective_sorts o)))
    (subst (λ k. is_count (connective_arguments o) k ≡ true) (sym (pattern_count-trees ys)) y.1.0)
    in (
      connected p o (sort_trees xs) (pattern_trees ys),
      λ w e h. (
        fit,
        (
          refl,
          refl,
          m.1 (listed (spell_sorts (sort_trees xs)) 125 (any (mark 40) ∷ v w)) e
              (as-sorts xs m.0 q2 x.1.1.1.0 (any (mark 40) ∷ v w) e
              (g.1 (v w) e (as-patterns b ys g.0 r y.1.1 w e h))),
        ),
      ),
    )

abbrev variable_tree : Bool → ℕ → List ℕ → SortTree → PatternTree
variable_tree true p n t = set_variable p n t
variable_tree false p n t = element_variable p n t

is-variable : (c : Bool) (p : ℕ) (n : List ℕ) (t : SortTree)
    → is_variable_tree c (variable_tree c p n t) ≡ true
is-variable true p n t = refl
is-variable false p n t = refl

variable-spelled : (b c : Bool) (p : ℕ) (n : List ℕ) (t : SortTree) (w : List Requirement)
    → spell_pattern b (variable_tree c p n t) w ≡ spell_variable p (variable_token c n) t w
variable-spelled b true p n t w = refl
variable-spelled b false p n t w = refl

binding-back : (b : Bool) (o : Binder) (p : ℕ) (s r : Stream)
    → Pieces (built_symbols b (Binding o)) s r
    → Says (symbol.Pattern b) (token (builtin (Some (Binding o))) p s) r
binding-back b o p s r m =
    let c : Bool = binds_sets o in
    let x =
    exactly-back item.Sort close.Brace (binder_sorts o) (symbol.Mark 40 ∷ symbol.Variable c
    ∷ symbol.Mark 44 ∷ symbol.Pattern b ∷ symbol.Mark 41 ∷ []) m.0 r m.2 in
    let xs : List SortTree = x.0 in
    let q2 : Stream = x.1.1.0 in
    let g : Pieces (symbol.Mark 40 ∷ symbol.Variable c ∷ symbol.Mark 44 ∷ symbol.Pattern b
    ∷ symbol.Mark 41 ∷ []) q2 r =
    x.1.1.1.1 in
    let v = g.2.1 in
    let tree : PatternTree = variable_tree c v.0 v.1 v.2 in
    let k : Pieces (symbol.Mark 44 ∷ symbol.Pattern b ∷ symbol.Mark 41 ∷ []) g.2.0 r = g.2.2 in
    let body : PatternTree = k.2.1.0 in
    let fit : ((sort_count (sort_trees xs) == binder_sorts o) && is_variable_tree c tree) ≡ true =
    and-true (sort_count (sort_trees xs) == binder_sorts o) (is_variable_tree c tree)
    (subst (λ j. (j == binder_sorts o) ≡ true) (sym (sort_count-trees xs ∙ x.1.0))
    (same-count (binder_sorts o))) (is-variable c v.0 v.1 v.2) in (
      binder_applied p o (sort_trees xs) tree body,
      λ w e h. (
        fit,
        (
          refl,
          refl,
          m.1 (listed (spell_sorts (sort_trees xs)) 125 (any (mark 40)
              ∷ spell_pattern b tree
              (any (mark 44) ∷ spell_pattern b body (any (mark 41) ∷ w)))) e
              (as-sorts xs m.0 q2 x.1.1.1.0 (any (mark 40)
              ∷ spell_pattern b tree
              (any (mark 44) ∷ spell_pattern b body (any (mark 41) ∷ w))) e
              (g.1 (spell_pattern b tree (any (mark 44) ∷ spell_pattern b body (any (mark 41) ∷ w)))
              e
              (subst (λ u. TakesTokens u g.0 e) (sym (variable-spelled b c v.0 v.1 v.2 (any
              (mark 44) ∷ spell_pattern b body (any (mark 41) ∷ w))))
              (v.3 (any (mark 44) ∷ spell_pattern b body (any (mark 41) ∷ w)) e
              (k.1 (spell_pattern b body (any (mark 41) ∷ w)) e
              (k.2.1.1 (any (mark 41) ∷ w) e (k.2.2.1 w e (along k.2.2.0 r k.2.2.2 w e h)))))))),
        ),
      ),
    )

value-back : (b : Bool) (p : ℕ) (s r : Stream) → Pieces (built_symbols b Value) s r
    → Says (symbol.Pattern b) (token (builtin (Some Value)) p s) r
value-back b p s r m =
    let t : SortTree = m.2.1.0 in
    let k : Pieces (symbol.Mark 125 ∷ symbol.Mark 40 ∷ symbol.Text ∷ symbol.Mark 41 ∷ []) m.2.0 r =
    m.2.2 in
    let g : Pieces (symbol.Text ∷ symbol.Mark 41 ∷ []) k.2.0 r = k.2.2 in
    let x : List ℕ = g.1.0 in
    let place : ℕ = g.1.1 in (
      value_written p t x place,
      λ w e h. (
        refl,
        refl,
        m.1 (spell_sort t (any (mark 125) ∷ any (mark 40) ∷ placed place (string_token x)
            ∷ any (mark 41) ∷ w)) e
            (m.2.1.1
            (any (mark 125) ∷ any (mark 40) ∷ placed place (string_token x) ∷ any (mark 41) ∷ w)
            e
            (k.1 (any (mark 40) ∷ placed place (string_token x) ∷ any (mark 41) ∷ w) e
            (k.2.1 (placed place (string_token x) ∷ any (mark 41) ∷ w) e
            (g.1.2 (any (mark 41) ∷ w) e (g.2.1 w e (along g.2.0 r g.2.2 w e h)))))),
      ),
    )

fold-back : (b left : Bool) (p : ℕ) (s r : Stream) → Pieces (built_symbols b (Fold left)) s r
    → Says (symbol.Pattern b) (token (builtin (Some (Fold left))) p s) r
fold-back b left p s r m =
    let k : Pieces (symbol.Mark 40 ∷ symbol.Folded b ∷ symbol.Mark 41 ∷ []) m.2.0 r = m.2.2 in
    let q : PatternTree = k.2.1.0 in
    let g : Pieces (symbol.Mark 41 ∷ []) k.2.0 r = k.2.2 in (
      folded p left q,
      λ w e h. (
        k.2.1.1,
        (
          refl,
          refl,
          m.1 (any (mark 125) ∷ any (mark 40) ∷ spell_pattern b q (any (mark 41) ∷ w)) e
              (m.2.1 (any (mark 40) ∷ spell_pattern b q (any (mark 41) ∷ w)) e
              (k.1 (spell_pattern b q (any (mark 41) ∷ w)) e
              (k.2.1.2 (any (mark 41) ∷ w) e (g.1 w e (along g.0 r g.2 w e h))))),
        ),
      ),
    )

pub built-back : (b : Bool) (x : Option Built) (p : ℕ) (s r : Stream) → Moved (built_move b x) s r
    → Says (symbol.Pattern b) (token (builtin x) p s) r
built-back b None p s r m = absurd m
built-back b (Some (Connective o)) p s r m = connected-back b o p s r m
built-back b (Some (Binding o)) p s r m = binding-back b o p s r m
built-back b (Some Value) p s r m = value-back b p s r m
built-back b (Some (Fold left)) p s r m = fold-back b left p s r m

pub pattern-back : (b : Bool) (t : KoreToken) (p : ℕ) (s r : Stream) → Moved (pattern_move b t) s r
    → Says (symbol.Pattern b) (token t p s) r
pattern-back b (identifier n) p s r m = elim m.1 [
  | inl g ↦ (element_variable p n g.0, λ w e h. (refl, refl, g.1 w e (along m.0 r m.2 w e h)))
  | inr g ↦ (symbol_applied p n g.0 g.1, λ w e h. (refl, refl, g.2 w e (along m.0 r m.2 w e h)))
]
pattern-back b (set_identifier n) p s r m = (
  set_variable p n m.2.1.0,
  λ w e h.
      (refl, refl, m.1 (spell_sort m.2.1.0 w) e (m.2.1.1 w e (along m.2.0 r m.2.2 w e h))),
)
pattern-back b (builtin x) p s r m = built-back b x p s r m
pattern-back true (string_token n) p s r m =
    (string p n, λ w e h. (refl, (refl, refl, along s r m w e h)))
pattern-back false (string_token n) p s r m = absurd m
pattern-back b (mark d) p s r m = absurd m
pattern-back b assign p s r m = absurd m

tail-choice : (b x y : Bool) (d p : ℕ) (s r : Stream) → x ≡ (d == 58) → y ≡ (d == 123)
    → Moved (if x then Some (symbol.Sort ∷ [])
    else when y (symbol.First item.Sort close.Brace ∷ symbol.Mark 40
    ∷ symbol.First (item.Pattern b) close.Paren ∷ [])) s r
    → Says (symbol.PatternTail b) (token (mark d) p s) r
tail-choice b true y d p s r i j m =
    inl (m.1.0, λ w e h. (mark-is 58 (mark d) (sym i), m.1.1 w e (along m.0 r m.2 w e h)))
tail-choice b false true d p s r i j m =
    let k : Pieces (symbol.Mark 40 ∷ symbol.First (item.Pattern b) close.Paren ∷ []) m.0 r = m.2 in
    inr (
      sort_trees m.1.0,
      pattern_trees k.2.1.0,
      λ w e h. (
        mark-is 123 (mark d) (sym j),
        as-sorts m.1.0 s m.0 m.1.1
            (any (mark 40) ∷ listed (spell_patterns b (pattern_trees k.2.1.0)) 41 w) e
            (k.1 (listed (spell_patterns b (pattern_trees k.2.1.0)) 41 w) e
            (as-patterns b k.2.1.0 k.0 k.2.0 k.2.1.1 w e (along k.2.0 r k.2.2 w e h))),
      ),
    )
tail-choice b false false d p s r i j m = absurd m

pub pattern-tail-back : (b : Bool) (t : KoreToken) (p : ℕ) (s r : Stream)
    → Moved (pattern_tail_move b t) s r → Says (symbol.PatternTail b) (token t p s) r
pattern-tail-back b (mark d) p s r m = tail-choice b (d == 58) (d == 123) d p s r refl refl m
pattern-tail-back b (identifier n) p s r m = absurd m
pattern-tail-back b (set_identifier n) p s r m = absurd m
pattern-tail-back b (builtin x) p s r m = absurd m
pattern-tail-back b (string_token n) p s r m = absurd m
pattern-tail-back b assign p s r m = absurd m

any-count : (o : Op) (n : ℕ) → is_associative o ≡ true → is_count (connective_arguments o) n ≡ true
any-count op.Top n h = let z : ⊥ = cc in absurd z
any-count op.Bottom n h = let z : ⊥ = cc in absurd z
any-count op.Not n h = let z : ⊥ = cc in absurd z
any-count op.Next n h = let z : ⊥ = cc in absurd z
any-count op.And n h = refl
any-count op.Or n h = refl
any-count op.Implies n h = let z : ⊥ = cc in absurd z
any-count op.Iff n h = let z : ⊥ = cc in absurd z
any-count op.Rewrites n h = let z : ⊥ = cc in absurd z
any-count op.Ceil n h = let z : ⊥ = cc in absurd z
any-count op.Floor n h = let z : ⊥ = cc in absurd z
any-count op.Equals n h = let z : ⊥ = cc in absurd z
any-count op.Member n h = let z : ⊥ = cc in absurd z

pub folded-connective-back : (b : Bool) (o : Op) (p : ℕ) (s r : Stream) → is_associative o ≡ true
    → Pieces (symbol.Mark 123 ∷ exactly symbol.Sort close.Brace 1 (folded_arguments b)) s r
    → Says (symbol.Folded b) (token (builtin (Some (Connective o))) p s) r
folded-connective-back b o p s r a m =
    let t : SortTree = m.2.1.0 in
    let k : Pieces (symbol.Mark 125 ∷ folded_arguments b) m.2.0 r = m.2.2 in
    let g : Pieces (symbol.Pattern b ∷ symbol.More (item.Pattern b) close.Paren ∷ []) k.2.0 r =
    k.2.2 in
    let q : PatternTree = g.1.0 in
    let ps : List PatternTree = g.2.1.0 in
    let fit : takes o 1 (pattern_count (pattern_then q (pattern_trees ps))) ≡ true =
    and-true (1 == connective_sorts o)
    (is_count (connective_arguments o) (pattern_count (pattern_then q (pattern_trees ps))))
    (subst (λ n. (1 == n) ≡ true) (sym (single o a)) refl)
    (any-count o (pattern_count (pattern_then q (pattern_trees ps))) a) in (
      connected p o (sort_then t no_sorts) (pattern_then q (pattern_trees ps)),
      and-true (is_associative o) true a refl,
      λ w e h. (
        fit,
        (
          refl,
          refl,
          m.1 (spell_sort t (any (mark 125) ∷ any (mark 40)
              ∷ spell_pattern b q (more_listed (spell_patterns b (pattern_trees ps)) 41 w))) e
              (m.2.1.1 (any (mark 125) ∷ any (mark 40)
              ∷ spell_pattern b q (more_listed (spell_patterns b (pattern_trees ps)) 41 w))
              e
              (k.1 (any (mark 40)
              ∷ spell_pattern b q (more_listed (spell_patterns b (pattern_trees ps)) 41 w))
              e
              (k.2.1 (spell_pattern b q (more_listed (spell_patterns b (pattern_trees ps)) 41 w)) e
              (g.1.1 (more_listed (spell_patterns b (pattern_trees ps)) 41 w) e
              (as-more-patterns b ps g.0 g.2.0 g.2.1.1 w e (along g.2.0 r g.2.2 w e h)))))),
        ),
      ),
    )

pub folded-symbol-back : (b : Bool) (n : List ℕ) (p : ℕ) (s r : Stream)
    → Pieces (symbol.Mark 123 ∷ symbol.First item.Sort close.Brace ∷ folded_arguments b) s r
    → Says (symbol.Folded b) (token (identifier n) p s) r
folded-symbol-back b n p s r m =
    let xs : List SortTree = m.2.1.0 in
    let k : Pieces (folded_arguments b) m.2.0 r = m.2.2 in
    let g : Pieces (symbol.Pattern b ∷ symbol.More (item.Pattern b) close.Paren ∷ []) k.0 r = k.2 in
    let q : PatternTree = g.1.0 in
    let ps : List PatternTree = g.2.1.0 in (
      symbol_applied p n (sort_trees xs) (pattern_then q (pattern_trees ps)),
      refl,
      λ w e h. (
        refl,
        refl,
        m.1 (listed (spell_sorts (sort_trees xs)) 125 (any (mark 40)
            ∷ spell_pattern b q (more_listed (spell_patterns b (pattern_trees ps)) 41 w))) e
            (as-sorts xs m.0 m.2.0 m.2.1.1 (any (mark 40)
            ∷ spell_pattern b q (more_listed (spell_patterns b (pattern_trees ps)) 41 w)) e
            (k.1 (spell_pattern b q (more_listed (spell_patterns b (pattern_trees ps)) 41 w)) e
            (g.1.1 (more_listed (spell_patterns b (pattern_trees ps)) 41 w) e
            (as-more-patterns b ps g.0 g.2.0 g.2.1.1 w e (along g.2.0 r g.2.2 w e h))))),
      ),
    )
