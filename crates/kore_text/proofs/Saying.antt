-- What a stack of symbols says, in the terms of the grammar.
use Rattle.std.proofs.Common.{◌≡◌, ℕ, zero, suc, Bool, true, false, ◌==◌, List, [], ◌∷◌, length}
use Rattle.std.proofs.Common.{map, refl, ap, sym, subst, arith, codes, ◌⊎◌}
use Rattle.std.proofs.lemmas.Bool.Decides.{nat_tests}
use Rattle.kore_text.specs.declared.symbols.Close.{Close}
use Rattle.kore_text.specs.declared.symbols.Item.{Item}
use Rattle.kore_text.specs.declared.symbols.Item.TheVariants as item
use Rattle.kore_text.specs.declared.symbols.Symbol.{Symbol}
use Rattle.kore_text.specs.declared.symbols.Symbol.TheVariants as symbol
use Rattle.kore_text.specs.TokenStream.{KoreToken, identifier, set_identifier, string_token, mark}
use Rattle.kore_text.specs.TokenStream.{assign, Stream}
use Rattle.kore_text.specs.Trees.{SortTree, SortTrees, sort_count, PatternTree, PatternTrees}
use Rattle.kore_text.specs.Trees.{pattern_count, sort_trees, pattern_trees, ModuleTree, Declaration}
use Rattle.kore_text.specs.Grammar.{Requirement, placed, any, Spelling, listed, more_listed}
use Rattle.kore_text.specs.Grammar.{in_order, TakesTokens, is_foldable, spell_name, spell_names}
use Rattle.kore_text.specs.Grammar.{spell_sort, spell_sorts, spell_pattern, spell_patterns}
use Rattle.kore_text.specs.Grammar.{spell_variable, spell_attributes, spell_signature, spell_body}
use Rattle.kore_text.specs.Grammar.{spell_module}
use Rattle.kore_text.specs.Table.{byte_of, symbol_of, more_exactly, exactly}
use Rattle.kore_text.specs.Faults.{FoldHead, spell_unfilled}

-- requirements that the stream meets from `r` on, it meets from `s` on with this spelling in front
abbrev pub To : Spelling → Stream → Stream → Type 0
To g s r = (w : List Requirement) (e : Stream) → TakesTokens w r e → TakesTokens (g w) s e

abbrev pub ItemTree : Item → Type 0
ItemTree item.Name = List ℕ
ItemTree item.Sort = SortTree
ItemTree (item.Pattern b) = PatternTree

abbrev pub spell_item : (i : Item) → ItemTree i → Spelling
spell_item item.Name = spell_name
spell_item item.Sort = spell_sort
spell_item (item.Pattern b) = spell_pattern b

abbrev pub variable_token : Bool → List ℕ → KoreToken
variable_token true n = set_identifier n
variable_token false n = identifier n

-- what the symbol says is in the first stream, up to the second
abbrev pub Says : Symbol → Stream → Stream → Type 0
Says (symbol.Mark c) s r = To (λ w. any (mark c) ∷ w) s r
Says symbol.Name s r = (n : List ℕ) × To (spell_name n) s r
Says symbol.Where s r = To (λ w. any (identifier (codes "where")) ∷ w) s r
Says symbol.Assign s r = To (λ w. any assign ∷ w) s r
Says symbol.Text s r = (x : List ℕ) × (p : ℕ) × To (λ w. placed p (string_token x) ∷ w) s r
Says symbol.Sort s r = (t : SortTree) × To (spell_sort t) s r
Says symbol.SortTail s r = To (λ w. w) s r
    ⊎ ((ss : SortTrees) × To (λ w. any (mark 123) ∷ listed (spell_sorts ss) 125 w) s r)
Says (symbol.Pattern b) s r = (p : PatternTree) × To (spell_pattern b p) s r
Says (symbol.PatternTail b) s r =
    ((t : SortTree) × To (λ w. any (mark 58) ∷ spell_sort t w) s r)
    ⊎ ((ss : SortTrees) × (ps : PatternTrees)
    × To (λ w. any (mark 123)
    ∷ listed (spell_sorts ss) 125 (any (mark 40) ∷ listed (spell_patterns b ps) 41 w)) s
    r)
Says (symbol.Variable c) s r =
    (p : ℕ) × (n : List ℕ) × (t : SortTree) × To (spell_variable p (variable_token c n) t) s r
Says (symbol.Folded b) s r = (p : PatternTree) × (is_foldable p ≡ true) × To (spell_pattern b p) s r
Says symbol.EmptyFolded s r = (h : FoldHead) × To (spell_unfilled h) s r
Says (symbol.First i c) s r =
    (xs : List (ItemTree i)) × To (listed (map (spell_item i) xs) (byte_of c)) s r
Says (symbol.More i c) s r =
    (xs : List (ItemTree i)) × To (more_listed (map (spell_item i) xs) (byte_of c)) s r
Says symbol.Attributes s r = (ps : List PatternTree) × To (spell_attributes ps) s r
Says symbol.Names s r = (ns : List (List ℕ)) × To (spell_names ns) s r
Says symbol.Signature s r = (ts : List SortTree) × (t : SortTree) × To (spell_signature ts t) s r
Says symbol.Declarations s r =
    (ds : List Declaration) × (ps : List PatternTree) × To (spell_body ds ps) s r
Says symbol.Module s r = (m : ModuleTree) × To (spell_module m) s r
Says symbol.Modules s r = (ms : List ModuleTree) × To (in_order (map spell_module ms)) s r

-- what the symbols say, one after the other, is in the first stream, up to the second
abbrev pub Pieces : List Symbol → Stream → Stream → Type 0
Pieces [] s r = s ≡ r
Pieces (f ∷ k) s r = (q : Stream) × Says f s q × Pieces k q r

pub along : (s r : Stream) → s ≡ r → To (λ w. w) s r
along s r i w e h = subst (λ x. TakesTokens w x e) (sym i) h

pub spell_sorts-trees : (ss : List SortTree) → spell_sorts (sort_trees ss) ≡ map spell_sort ss
spell_sorts-trees [] = refl
spell_sorts-trees (s ∷ ss) = ap (λ fs. spell_sort s ∷ fs) (spell_sorts-trees ss)

pub spell_patterns-trees : (b : Bool) (ps : List PatternTree)
    → spell_patterns b (pattern_trees ps) ≡ map (spell_pattern b) ps
spell_patterns-trees b [] = refl
spell_patterns-trees b (p ∷ ps) = ap (λ fs. spell_pattern b p ∷ fs) (spell_patterns-trees b ps)

pub sort_count-trees : (ss : List SortTree) → sort_count (sort_trees ss) ≡ length ss
sort_count-trees [] = refl
sort_count-trees (s ∷ ss) = ap suc (sort_count-trees ss)

pub pattern_count-trees : (ps : List PatternTree) → pattern_count (pattern_trees ps) ≡ length ps
pattern_count-trees [] = refl
pattern_count-trees (p ∷ ps) = ap suc (pattern_count-trees ps)

pub same-count : (n : ℕ) → (n == n) ≡ true
same-count n = grind (arith, nat_tests)

-- an item of a list
pub said : (i : Item) (s r : Stream) → Says (symbol_of i) s r
    → (x : ItemTree i) × To (spell_item i x) s r
said item.Name s r m = m
said item.Sort s r m = m
said (item.Pattern b) s r m = m

-- a list of exactly `n` items
pub more-exactly-back : (i : Item) (c : Close) (n : ℕ) (fs : List Symbol) (s r : Stream)
    → Pieces (more_exactly (symbol_of i) c n fs) s r
    → (xs : List (ItemTree i))
    × ((length xs ≡ n)
    × ((q : Stream)
    × (To (more_listed (map (spell_item i) xs) (byte_of c)) s q × Pieces fs q r)))
more-exactly-back i c zero fs s r m = ([], (refl, (m.0, (m.1, m.2))))
more-exactly-back i c (suc n) fs s r m =
    let x = said i m.0 m.2.0 m.2.1 in
    let y = more-exactly-back i c n fs m.2.0 r m.2.2 in (
      x.0 ∷ y.0,
      (
        ap suc y.1.0,
        (
          y.1.1.0,
          (
            (λ w e h. m.1
                (spell_item i x.0 (more_listed (map (spell_item i) y.0) (byte_of c) w)) e
                (x.1 (more_listed (map (spell_item i) y.0) (byte_of c) w) e (y.1.1.1.0 w e h))),
            y.1.1.1.1,
          ),
        ),
      ),
    )

pub exactly-back : (i : Item) (c : Close) (n : ℕ) (fs : List Symbol) (s r : Stream)
    → Pieces (exactly (symbol_of i) c n fs) s r
    → (xs : List (ItemTree i))
    × ((length xs ≡ n)
    × ((q : Stream)
    × (To (listed (map (spell_item i) xs) (byte_of c)) s q × Pieces fs q r)))
exactly-back i c zero fs s r m = ([], (refl, (m.0, (m.1, m.2))))
exactly-back i c (suc n) fs s r m =
    let x = said i s m.0 m.1 in
    let y = more-exactly-back i c n fs m.0 r m.2 in (
      x.0 ∷ y.0,
      (
        ap suc y.1.0,
        (
          y.1.1.0,
          (
            (λ w e h.
                x.1 (more_listed (map (spell_item i) y.0) (byte_of c) w) e (y.1.1.1.0 w e h)),
            y.1.1.1.1,
          ),
        ),
      ),
    )
