-- A text spells only patterns that can be read.
use Rattle.std.proofs.Common.{◌≡◌, ◌≤◌, ℕ, Bool, false, ◌==◌, ◌&&◌, List, [], ◌∷◌, Some, refl, ap}
use Rattle.std.proofs.Common.{sym, ◌∙◌, subst}
use Rattle.kore_text.specs.declared.names.Op.{Op}
use Rattle.kore_text.specs.declared.names.Built.TheVariants.{Connective, Binding, Value, Fold}
use Rattle.kore_text.specs.Trees.{SortTree, sort_parameter, sort_applied, SortTrees, no_sorts}
use Rattle.kore_text.specs.Trees.{sort_then, sort_count, PatternTree, element_variable}
use Rattle.kore_text.specs.Trees.{set_variable, string, symbol_applied, connected, binder_applied}
use Rattle.kore_text.specs.Trees.{value_written, folded, PatternTrees, no_patterns, pattern_then}
use Rattle.kore_text.specs.Trees.{pattern_count}
use Rattle.kore_text.specs.TokenStream.{KoreToken, identifier, set_identifier, builtin}
use Rattle.kore_text.specs.TokenStream.{string_token, mark, Stream, end, no_token_at, token}
use Rattle.kore_text.specs.TokenStream.{token_stream}
use Rattle.kore_text.specs.Grammar.{Requirement, placed, any, provided, TakesTokens, listed}
use Rattle.kore_text.specs.Grammar.{more_listed, takes, binder_sorts, binds_sets, is_variable_tree}
use Rattle.kore_text.specs.Grammar.{spell_sort, spell_sorts, spell_pattern, spell_patterns}
use Rattle.kore_text.specs.Depth.{opened, IsShallow}
use Rattle.kore_print.specs.Reading.{unplaced_sort, unplaced_sorts, unplaced, unplaced_patterns}
use Rattle.kore_print.specs.PrintLaws.{ReadIsReadable, IsReadable, CanStand, IsTextual}
use Rattle.kore_print.proofs.TextualStreams.{AllTextual, tokens-textual}
use Rattle.kore_print.proofs.Unplacing.{sorts-counted, patterns-counted, variable-kept}
use Rattle.kore_print.proofs.Unplacing.{foldable-kept}

-- the same requirements, at any places
abbrev bare : List Requirement → List Requirement
bare [] = []
bare (provided b ∷ ws) = provided b ∷ bare ws
bare (placed p t ∷ ws) = any t ∷ bare ws
bare (any t ∷ ws) = any t ∷ bare ws

given-same : (a b : Bool) (k l : List Requirement) → a ≡ b → k ≡ l
    → ◌≡◌ {A = List Requirement} (provided a ∷ k) (provided b ∷ l)
given-same a b k l h g =
    ap (λ (c : Bool). provided c ∷ k) h ∙ ap (λ (m : List Requirement). provided b ∷ m) g

any-same : (t : KoreToken) (k l : List Requirement) → k ≡ l
    → ◌≡◌ {A = List Requirement} (any t ∷ k) (any t ∷ l)
any-same t k l h = ap (λ (m : List Requirement). any t ∷ m) h

mutual
  sort-bare : (s : SortTree) (k l : List Requirement) → bare k ≡ bare l
      → bare (spell_sort s k) ≡ bare (spell_sort (unplaced_sort s) l)
  sort-bare (sort_parameter p n) k l h = any-same (identifier n) _ _ h
  sort-bare (sort_applied p n ss) k l h =
      any-same (identifier n) _ _ (any-same (mark 123) _ _ (sorts-bare ss k l h))

  sorts-bare : (ss : SortTrees) (k l : List Requirement) → bare k ≡ bare l
      → bare (listed (spell_sorts ss) 125 k) ≡ bare (listed (spell_sorts (unplaced_sorts ss)) 125 l)
  sorts-bare no_sorts k l h = any-same (mark 125) _ _ h
  sorts-bare (sort_then s ss) k l h =
      sort-bare s (more_listed (spell_sorts ss) 125 k)
      (more_listed (spell_sorts (unplaced_sorts ss)) 125 l) (more-sorts-bare ss k l h)

  more-sorts-bare : (ss : SortTrees) (k l : List Requirement) → bare k ≡ bare l
      → bare (more_listed (spell_sorts ss) 125 k)
      ≡ bare (more_listed (spell_sorts (unplaced_sorts ss)) 125 l)
  more-sorts-bare no_sorts k l h = any-same (mark 125) _ _ h
  more-sorts-bare (sort_then s ss) k l h =
      any-same (mark 44) _ _ (sort-bare s (more_listed (spell_sorts ss) 125 k)
      (more_listed (spell_sorts (unplaced_sorts ss)) 125 l) (more-sorts-bare ss k l h))

counts-bare : (o : Op) (ss : SortTrees) (ps : PatternTrees)
    → takes o (sort_count ss) (pattern_count ps)
    ≡ takes o (sort_count (unplaced_sorts ss)) (pattern_count (unplaced_patterns ps))
counts-bare o ss ps =
    ap (λ (n : ℕ). takes o n (pattern_count ps)) (sym (sorts-counted ss))
    ∙ ap (takes o (sort_count (unplaced_sorts ss))) (sym (patterns-counted ps))

mutual
  pattern-bare : (b : Bool) (p : PatternTree) (k l : List Requirement) → bare k ≡ bare l
      → bare (spell_pattern b p k) ≡ bare (spell_pattern b (unplaced p) l)
  pattern-bare b (element_variable p n s) k l h =
      any-same (identifier n) _ _ (any-same (mark 58) _ _ (sort-bare s k l h))
  pattern-bare b (set_variable p n s) k l h =
      any-same (set_identifier n) _ _ (any-same (mark 58) _ _ (sort-bare s k l h))
  pattern-bare b (string p t) k l h = given-same b b _ _ refl (any-same (string_token t) _ _ h)
  pattern-bare b (symbol_applied p n ss ps) k l h =
      any-same (identifier n) _ _ (any-same (mark 123) _ _
      (sorts-bare ss _ _ (any-same (mark 40) _ _ (patterns-bare b ps k l h))))
  pattern-bare b (connected p o ss ps) k l h =
      given-same _ _ _ _ (counts-bare o ss ps)
      (any-same (builtin (Some (Connective o))) _ _ (any-same (mark 123) _ _
      (sorts-bare ss _ _ (any-same (mark 40) _ _ (patterns-bare b ps k l h)))))
  pattern-bare b (binder_applied p o ss x q) k l h =
      given-same _ _ _ _
      (ap (λ (n : ℕ). (n == binder_sorts o) && is_variable_tree (binds_sets o) x)
      (sym (sorts-counted ss))
      ∙ ap (λ (v : Bool). (sort_count (unplaced_sorts ss) == binder_sorts o) && v)
      (sym (variable-kept (binds_sets o) x)))
      (any-same (builtin (Some (Binding o))) _ _
      (any-same (mark 123) _ _ (sorts-bare ss _ _ (any-same (mark 40) _ _
      (pattern-bare b x _ _
      (any-same (mark 44) _ _ (pattern-bare b q _ _ (any-same (mark 41) _ _ h))))))))
  pattern-bare b (value_written p s t place) k l h =
      any-same (builtin (Some Value)) _ _
      (any-same (mark 123) _ _ (sort-bare s _ _ (any-same (mark 125) _ _ (any-same (mark 40) _ _
      (any-same (string_token t) _ _ (any-same (mark 41) _ _ h))))))
  pattern-bare b (folded p left q) k l h =
      given-same _ _ _ _ (sym (foldable-kept q))
      (any-same (builtin (Some (Fold left))) _ _
      (any-same (mark 123) _ _ (any-same (mark 125) _ _ (any-same (mark 40) _ _
      (pattern-bare b q _ _ (any-same (mark 41) _ _ h))))))

  patterns-bare : (b : Bool) (ps : PatternTrees) (k l : List Requirement) → bare k ≡ bare l
      → bare (listed (spell_patterns b ps) 41 k)
      ≡ bare (listed (spell_patterns b (unplaced_patterns ps)) 41 l)
  patterns-bare b no_patterns k l h = any-same (mark 41) _ _ h
  patterns-bare b (pattern_then p ps) k l h =
      pattern-bare b p (more_listed (spell_patterns b ps) 41 k)
      (more_listed (spell_patterns b (unplaced_patterns ps)) 41 l)
      (more-patterns-bare b ps k l h)

  more-patterns-bare : (b : Bool) (ps : PatternTrees) (k l : List Requirement) → bare k ≡ bare l
      → bare (more_listed (spell_patterns b ps) 41 k)
      ≡ bare (more_listed (spell_patterns b (unplaced_patterns ps)) 41 l)
  more-patterns-bare b no_patterns k l h = any-same (mark 41) _ _ h
  more-patterns-bare b (pattern_then p ps) k l h =
      any-same (mark 44) _ _
      (pattern-bare b p (more_listed (spell_patterns b ps) 41 k)
      (more_listed (spell_patterns b (unplaced_patterns ps)) 41 l)
      (more-patterns-bare b ps k l h))

to-bare : (ws : List Requirement) (n : ℕ) → CanStand n ws → CanStand n (bare ws)
to-bare [] n h = tt
to-bare (provided b ∷ ws) n h = (h.0, to-bare ws n h.1)
to-bare (placed p t ∷ ws) n h = (h.0, h.1, to-bare ws (opened t n) h.2)
to-bare (any t ∷ ws) n h = (h.0, h.1, to-bare ws (opened t n) h.2)

from-bare : (ws : List Requirement) (n : ℕ) → CanStand n (bare ws) → CanStand n ws
from-bare [] n h = tt
from-bare (provided b ∷ ws) n h = (h.0, from-bare ws n h.1)
from-bare (placed p t ∷ ws) n h = (h.0, h.1, from-bare ws (opened t n) h.2)
from-bare (any t ∷ ws) n h = (h.0, h.1, from-bare ws (opened t n) h.2)

-- a token of the text can occur in a text
taken-one : (t u : KoreToken) (n : ℕ) (s : Stream) (R : ℕ → Type 0) → u ≡ t → IsTextual u
    → opened u n ≤ 500 → IsShallow (opened u n) s → (IsShallow (opened t n) s → R (opened t n))
    → IsTextual t × (opened t n ≤ 500) × R (opened t n)
taken-one t u n s R e x o d go = (
  subst IsTextual e x,
  subst (λ (u : KoreToken). opened u n ≤ 500) e o,
  go (subst (λ (u : KoreToken). IsShallow (opened u n) s) e d),
)

taken-stand : (ws : List Requirement) (n : ℕ) (s e : Stream) → TakesTokens ws s e → IsShallow n s
    → AllTextual s → CanStand n ws
taken-stand [] n s e h d x = tt
taken-stand (provided b ∷ ws) n s e h d x = (h.0, taken-stand ws n s e h.1 d x)
taken-stand (placed p t ∷ ws) n (end y) e h d x = absurd h
taken-stand (placed p t ∷ ws) n (no_token_at y) e h d x = absurd h
taken-stand (placed p t ∷ ws) n (token u q s) e h d x =
    taken-one t u n s (λ m. CanStand m ws) h.0 x.0 d.0 d.1
    (λ c. taken-stand ws (opened t n) s e h.2 c x.1)
taken-stand (any t ∷ ws) n (end y) e h d x = absurd h
taken-stand (any t ∷ ws) n (no_token_at y) e h d x = absurd h
taken-stand (any t ∷ ws) n (token u q s) e h d x =
    taken-one t u n s (λ m. CanStand m ws) h.0 x.0 d.0 d.1
    (λ c. taken-stand ws (opened t n) s e h.1 c x.1)

-- whether a pattern can be read does not depend on places
readable-same : (p q : PatternTree) → unplaced q ≡ unplaced p → IsReadable q → IsReadable p
readable-same p q h r =
    let e : bare (spell_pattern false q []) ≡ bare (spell_pattern false p []) =
    pattern-bare false q [] [] refl ∙ ap (λ (t : PatternTree). bare (spell_pattern false t [])) h
    ∙ sym (pattern-bare false p [] [] refl) in
    from-bare (spell_pattern false p []) 0 (subst (λ (ws : List Requirement). CanStand 0 ws) e
    (to-bare (spell_pattern false q []) 0 r))

pub read_readable : ReadIsReadable
read_readable bytes p h =
    let q : PatternTree = h.0 in
    let r : IsReadable q =
    taken-stand (spell_pattern false q []) 0 (token_stream bytes) (end h.2.1.0) h.2.1.1 h.2.0
    (tokens-textual bytes) in
    readable-same p q h.1 r
