-- Every spelling is accepted.
use Rattle.std.proofs.Common.{◌≡◌, ℕ, suc, Bool, true, false, ◌==◌, ◌&&◌, IsTrue, List, [], ◌∷◌}
use Rattle.std.proofs.Common.{◌++◌, length, map, Option, Some, None, refl, ap, ◌∙◌, subst, arith}
use Rattle.std.proofs.lemmas.Bool.Decides.{nat_tests}
use Rattle.kore_text.specs.declared.names.Op.{Op}
use Rattle.kore_text.specs.declared.names.Op.TheVariants as op
use Rattle.kore_text.specs.declared.names.Built.{Built}
use Rattle.kore_text.specs.declared.names.Built.TheVariants.{Connective}
use Rattle.kore_text.specs.declared.symbols.Close.TheVariants as close
use Rattle.kore_text.specs.declared.symbols.Item.TheVariants as item
use Rattle.kore_text.specs.declared.symbols.Symbol.{Symbol}
use Rattle.kore_text.specs.declared.symbols.Symbol.TheVariants as symbol
use Rattle.kore_text.specs.TokenStream.{identifier, set_identifier, builtin, string_token, mark}
use Rattle.kore_text.specs.TokenStream.{Stream, end, no_token_at, token}
use Rattle.kore_text.specs.Trees.{SortTree, sort_parameter, sort_applied, SortTrees, no_sorts}
use Rattle.kore_text.specs.Trees.{sort_then, sort_count, PatternTree, element_variable}
use Rattle.kore_text.specs.Trees.{set_variable, string, symbol_applied, connected, binder_applied}
use Rattle.kore_text.specs.Trees.{value_written, folded, PatternTrees, no_patterns, pattern_then}
use Rattle.kore_text.specs.Trees.{pattern_count}
use Rattle.kore_text.specs.Grammar.{Requirement, placed, any, provided, Spelling, listed}
use Rattle.kore_text.specs.Grammar.{more_listed, TakesTokens, connective_sorts, is_count}
use Rattle.kore_text.specs.Grammar.{is_variable_tree, is_associative, spell_name, spell_sort}
use Rattle.kore_text.specs.Grammar.{spell_sorts, spell_pattern, spell_patterns}
use Rattle.kore_text.specs.Table.{turn, step, folded_arguments, exactly, argument_symbols}
use Rattle.kore_text.specs.Table.{built_symbols}
use Rattle.kore_text.proofs.Reaching.{Reaches, done, after, by-token, any-placed, mark-then}
use Rattle.kore_text.proofs.Reaching.{tail-goes, is_plain, IsPlain, apart-more, Goes, AllGo}
use Rattle.kore_text.proofs.Reaching.{more-goes, first-goes, exactly-goes}
use Rattle.kore_text.specs.Apart.{Apart}

-- if the conjunction of two tests holds, both hold
pub both : (a b : Bool) → IsTrue (a && b) → (a ≡ true) × (b ≡ true)
both true b h = (refl, h)
both false b h = let z : ⊥ = cc in absurd z

pub true-is : (a : Bool) → a ≡ true → IsTrue a
true-is a h = h

pub number-is : (a b : ℕ) → (a == b) ≡ true → a ≡ b
number-is a b h = grind (arith, nat_tests)

pub name-step : (k : List Symbol) (n : List ℕ) → step (symbol.Name ∷ k) (identifier n) ≡ Some k
unfolding step turn
name-step k n = refl

pub name-goes : (n : List ℕ) (w : List Requirement) (s e : Stream)
    → TakesTokens (any (identifier n) ∷ w) s e → Reaches (symbol.Name ∷ []) w s e
name-goes n w s e h =
    by-token symbol.Name [] (identifier n) w w s e refl (λ k. name-step k n) h (λ q x. done w q e x)

-- the first token that is required is no mark
abbrev pub requires_plain : List Requirement → Bool
requires_plain [] = false
requires_plain (provided b ∷ ws) = requires_plain ws
requires_plain (any t ∷ ws) = is_plain t
requires_plain (placed p t ∷ ws) = is_plain t

pub plain-first : (ws : List Requirement) (s e : Stream) → requires_plain ws ≡ true
    → TakesTokens ws s e → IsPlain s
plain-first [] s e i h = let z : ⊥ = cc in absurd z
plain-first (provided b ∷ ws) s e i h = plain-first ws s e i h.1
plain-first (any t ∷ ws) (end n) e i h = absurd h
plain-first (any t ∷ ws) (no_token_at n) e i h = absurd h
plain-first (any t ∷ ws) (token u p s) e i h = rw h.0 i
plain-first (placed q t ∷ ws) (end n) e i h = absurd h
plain-first (placed q t ∷ ws) (no_token_at n) e i h = absurd h
plain-first (placed q t ∷ ws) (token u p s) e i h = rw h.0 i

pub names-go : (ns : List (List ℕ)) (e : Stream) → AllGo symbol.Name (map spell_name ns) e
names-go [] e = tt
names-go (n ∷ ns) e = (
  record {
    plain = λ w s h. plain-first (any (identifier n) ∷ w) s e refl h;
    goes = λ w s a h. name-goes n w s e h;
  },
  names-go ns e,
)

pub sort-step : (k : List Symbol) (n : List ℕ)
    → step (symbol.Sort ∷ k) (identifier n) ≡ Some (symbol.SortTail ∷ k)
unfolding step turn
sort-step k n = refl

pub tail-step : (k : List Symbol)
    → step (symbol.SortTail ∷ k) (mark 123) ≡ Some (symbol.First item.Sort close.Brace ∷ k)
unfolding step turn
tail-step k = refl

pub sort-plain : (t : SortTree) (w : List Requirement) (s e : Stream)
    → TakesTokens (spell_sort t w) s e → IsPlain s
sort-plain (sort_parameter at n) w s e h =
    plain-first (spell_sort (sort_parameter at n) w) s e refl h
sort-plain (sort_applied at n ss) w s e h =
    plain-first (spell_sort (sort_applied at n ss) w) s e refl h

mutual
  pub sort-goes : (t : SortTree) (w : List Requirement) (s e : Stream) → Apart w e
      → TakesTokens (spell_sort t w) s e → Reaches (symbol.Sort ∷ []) w s e
  sort-goes (sort_parameter at n) w s e a h =
      by-token symbol.Sort (symbol.SortTail ∷ []) (identifier n) w w s e refl (λ k. sort-step k n)
      (any-placed (identifier n) at w s e h)
      (λ q x. tail-goes w q e a x)
  sort-goes (sort_applied at n ss) w s e a h =
      by-token symbol.Sort (symbol.SortTail ∷ []) (identifier n)
      (any (mark 123) ∷ listed (spell_sorts ss) 125 w) w s e refl (λ k. sort-step k n)
      (any-placed (identifier n) at (any (mark 123) ∷ listed (spell_sorts ss) 125 w) s e h)
      (λ q x. by-token symbol.SortTail (symbol.First item.Sort close.Brace ∷ []) (mark 123)
      (listed (spell_sorts ss) 125 w) w q e refl tail-step x
      (λ r y. first-goes item.Sort close.Brace (spell_sorts ss) w r e (sorts-go ss e) y))

  pub sorts-go : (ss : SortTrees) (e : Stream) → AllGo symbol.Sort (spell_sorts ss) e
  sorts-go no_sorts e = tt
  sorts-go (sort_then t ss) e = (
    record { plain = λ w s h. sort-plain t w s e h; goes = λ w s a h. sort-goes t w s e a h },
    sorts-go ss e,
  )

pub listed-go : (ts : List SortTree) (e : Stream) → AllGo symbol.Sort (map spell_sort ts) e
listed-go [] e = tt
listed-go (t ∷ ts) e = (
  record { plain = λ w s h. sort-plain t w s e h; goes = λ w s a h. sort-goes t w s e a h },
  listed-go ts e,
)

pub sorts-length : (ss : SortTrees) → length (spell_sorts ss) ≡ sort_count ss
sorts-length no_sorts = refl
sorts-length (sort_then t ss) = ap suc (sorts-length ss)

pub patterns-length : (b : Bool) (ps : PatternTrees)
    → length (spell_patterns b ps) ≡ pattern_count ps
patterns-length b no_patterns = refl
patterns-length b (pattern_then p ps) = ap suc (patterns-length b ps)

-- no pattern begins with a mark
pub plain-pattern : (b : Bool) (p : PatternTree) (w : List Requirement) (s e : Stream)
    → TakesTokens (spell_pattern b p w) s e → IsPlain s
plain-pattern b (element_variable at n t) w s e h =
    plain-first (spell_pattern b (element_variable at n t) w) s e refl h
plain-pattern b (set_variable at n t) w s e h =
    plain-first (spell_pattern b (set_variable at n t) w) s e refl h
plain-pattern b (string at x) w s e h = plain-first (spell_pattern b (string at x) w) s e refl h
plain-pattern b (symbol_applied at n ss ps) w s e h =
    plain-first (spell_pattern b (symbol_applied at n ss ps) w) s e refl h
plain-pattern b (connected at o ss ps) w s e h =
    plain-first (spell_pattern b (connected at o ss ps) w) s e refl h
plain-pattern b (binder_applied at o ss x q) w s e h =
    plain-first (spell_pattern b (binder_applied at o ss x q) w) s e refl h
plain-pattern b (value_written at t x place) w s e h =
    plain-first (spell_pattern b (value_written at t x place) w) s e refl h
plain-pattern b (folded at left q) w s e h =
    plain-first (spell_pattern b (folded at left q) w) s e refl h

pub pattern-step : (b : Bool) (k : List Symbol) (n : List ℕ)
    → step (symbol.Pattern b ∷ k) (identifier n) ≡ Some (symbol.PatternTail b ∷ k)
unfolding step turn
pattern-step b k n = refl

pub set-step : (b : Bool) (k : List Symbol) (n : List ℕ)
    → step (symbol.Pattern b ∷ k) (set_identifier n) ≡ Some (symbol.Mark 58 ∷ symbol.Sort ∷ k)
unfolding step turn
set-step b k n = refl

pub string-step : (k : List Symbol) (n : List ℕ)
    → step (symbol.Pattern true ∷ k) (string_token n) ≡ Some k
unfolding step turn
string-step k n = refl

pub built-step : (b : Bool) (x : Built) (k : List Symbol)
    → step (symbol.Pattern b ∷ k) (builtin (Some x)) ≡ Some (built_symbols b x ++ k)
unfolding step turn
built-step b x k = refl

pub colon-step : (b : Bool) (k : List Symbol)
    → step (symbol.PatternTail b ∷ k) (mark 58) ≡ Some (symbol.Sort ∷ k)
unfolding step turn
colon-step b k = refl

pub brace-step : (b : Bool) (k : List Symbol) → step (symbol.PatternTail b ∷ k) (mark 123)
    ≡ Some (symbol.First item.Sort close.Brace ∷ symbol.Mark 40
    ∷ symbol.First (item.Pattern b) close.Paren ∷ k)
unfolding step turn
brace-step b k = refl

pub text-step : (k : List Symbol) (n : List ℕ) → step (symbol.Text ∷ k) (string_token n) ≡ Some k
unfolding step turn
text-step k n = refl

pub element-step : (k : List Symbol) (n : List ℕ)
    → step (symbol.Variable false ∷ k) (identifier n) ≡ Some (symbol.Mark 58 ∷ symbol.Sort ∷ k)
unfolding step turn
element-step k n = refl

pub set-variable-step : (k : List Symbol) (n : List ℕ)
    → step (symbol.Variable true ∷ k) (set_identifier n) ≡ Some (symbol.Mark 58 ∷ symbol.Sort ∷ k)
unfolding step turn
set-variable-step k n = refl

pub folded-step : (b : Bool) (k : List Symbol) (n : List ℕ)
    → step (symbol.Folded b ∷ k) (identifier n)
    ≡ Some (symbol.Mark 123 ∷ symbol.First item.Sort close.Brace ∷ (folded_arguments b ++ k))
unfolding step turn
folded-step b k n = refl

pub folded-built-step : (b : Bool) (o : Op) (k : List Symbol) → is_associative o ≡ true
    → step (symbol.Folded b ∷ k) (builtin (Some (Connective o)))
    ≡ Some (symbol.Mark 123 ∷ symbol.Sort ∷ symbol.Mark 125 ∷ (folded_arguments b ++ k))
unfolding step turn
folded-built-step b o k h = rw h refl

pub empty-step : (k : List Symbol) (n : List ℕ) → step (symbol.EmptyFolded ∷ k) (identifier n)
    ≡ Some
    (symbol.Mark 123 ∷ symbol.First item.Sort close.Brace ∷ symbol.Mark 40 ∷ symbol.Mark 41 ∷ k)
unfolding step turn
empty-step k n = refl

pub empty-built-step : (o : Op) (k : List Symbol) → is_associative o ≡ true
    → step (symbol.EmptyFolded ∷ k) (builtin (Some (Connective o)))
    ≡ Some
    (symbol.Mark 123 ∷ symbol.Sort ∷ symbol.Mark 125 ∷ symbol.Mark 40 ∷ symbol.Mark 41 ∷ k)
unfolding step turn
empty-built-step o k h = rw h refl

-- a colon and a sort
pub colon-goes : (t : SortTree) (w : List Requirement) (s e : Stream) → Apart w e
    → TakesTokens (any (mark 58) ∷ spell_sort t w) s e
    → Reaches (symbol.Mark 58 ∷ symbol.Sort ∷ []) w s e
colon-goes t w s e a h =
    mark-then 58 (symbol.Sort ∷ []) (spell_sort t w) w s e h (λ q x. sort-goes t w q e a x)

pub variable-goes : (b c : Bool) (x : PatternTree) (w : List Requirement) (s e : Stream)
    → is_variable_tree c x ≡ true → Apart w e → TakesTokens (spell_pattern b x w) s e
    → Reaches (symbol.Variable c ∷ []) w s e
variable-goes b true (element_variable at n t) w s e v a h = let z : ⊥ = cc in absurd z
variable-goes b true (set_variable at n t) w s e v a h =
    by-token (symbol.Variable true) (symbol.Mark 58 ∷ symbol.Sort ∷ []) (set_identifier n)
    (any (mark 58) ∷ spell_sort t w) w s e refl (λ k. set-variable-step k n)
    (any-placed (set_identifier n) at (any (mark 58) ∷ spell_sort t w) s e h)
    (λ q x. colon-goes t w q e a x)
variable-goes b true (string at x) w s e v a h = let z : ⊥ = cc in absurd z
variable-goes b true (symbol_applied at n ss ps) w s e v a h = let z : ⊥ = cc in absurd z
variable-goes b true (connected at o ss ps) w s e v a h = let z : ⊥ = cc in absurd z
variable-goes b true (binder_applied at o ss x q) w s e v a h = let z : ⊥ = cc in absurd z
variable-goes b true (value_written at t x place) w s e v a h = let z : ⊥ = cc in absurd z
variable-goes b true (folded at left q) w s e v a h = let z : ⊥ = cc in absurd z
variable-goes b false (element_variable at n t) w s e v a h =
    by-token (symbol.Variable false) (symbol.Mark 58 ∷ symbol.Sort ∷ []) (identifier n)
    (any (mark 58) ∷ spell_sort t w) w s e refl (λ k. element-step k n)
    (any-placed (identifier n) at (any (mark 58) ∷ spell_sort t w) s e h)
    (λ q x. colon-goes t w q e a x)
variable-goes b false (set_variable at n t) w s e v a h = let z : ⊥ = cc in absurd z
variable-goes b false (string at x) w s e v a h = let z : ⊥ = cc in absurd z
variable-goes b false (symbol_applied at n ss ps) w s e v a h = let z : ⊥ = cc in absurd z
variable-goes b false (connected at o ss ps) w s e v a h = let z : ⊥ = cc in absurd z
variable-goes b false (binder_applied at o ss x q) w s e v a h = let z : ⊥ = cc in absurd z
variable-goes b false (value_written at t x place) w s e v a h = let z : ⊥ = cc in absurd z
variable-goes b false (folded at left q) w s e v a h = let z : ⊥ = cc in absurd z

pub single : (o : Op) → is_associative o ≡ true → connective_sorts o ≡ 1
single op.Top h = let z : ⊥ = cc in absurd z
single op.Bottom h = let z : ⊥ = cc in absurd z
single op.Not h = let z : ⊥ = cc in absurd z
single op.Next h = let z : ⊥ = cc in absurd z
single op.And h = refl
single op.Or h = refl
single op.Implies h = let z : ⊥ = cc in absurd z
single op.Iff h = let z : ⊥ = cc in absurd z
single op.Rewrites h = let z : ⊥ = cc in absurd z
single op.Ceil h = let z : ⊥ = cc in absurd z
single op.Floor h = let z : ⊥ = cc in absurd z
single op.Equals h = let z : ⊥ = cc in absurd z
single op.Member h = let z : ⊥ = cc in absurd z

-- the sorts of a connective
pub sorts-exactly : (n : ℕ) (ss : SortTrees) (fs : List Symbol) (v w : List Requirement)
    (s e : Stream) → sort_count ss ≡ n → TakesTokens (listed (spell_sorts ss) 125 v) s e
    → ((q : Stream) → TakesTokens v q e → Reaches fs w q e)
    → Reaches (exactly symbol.Sort close.Brace n fs) w s e
sorts-exactly n ss fs v w s e i h go =
    subst (λ m. Reaches (exactly symbol.Sort close.Brace m fs) w s e) (sorts-length ss ∙ i)
    (exactly-goes symbol.Sort close.Brace (spell_sorts ss) fs v w s e (sorts-go ss e) h go)

pub arguments-go : (b : Bool) (x : Option ℕ) (ps : PatternTrees) (w : List Requirement)
    (s e : Stream) → is_count x (pattern_count ps) ≡ true
    → AllGo (symbol.Pattern b) (spell_patterns b ps) e
    → TakesTokens (listed (spell_patterns b ps) 41 w) s e → Reaches (argument_symbols b x) w s e
arguments-go b None ps w s e i a h =
    first-goes (item.Pattern b) close.Paren (spell_patterns b ps) w s e a h
arguments-go b (Some n) ps w s e i a h =
    subst (λ m. Reaches (exactly (symbol.Pattern b) close.Paren m []) w s e)
    (patterns-length b ps ∙ number-is (pattern_count ps) n i)
    (exactly-goes (symbol.Pattern b) close.Paren (spell_patterns b ps) [] w w s e a h
    (λ q x. done w q e x))

-- the arguments of a folded application
pub arguments-folded : (b : Bool) (f : Spelling) (fs : List Spelling) (w : List Requirement)
    (s e : Stream) → Goes (symbol.Pattern b) f e → AllGo (symbol.Pattern b) fs e
    → TakesTokens (any (mark 40) ∷ f (more_listed fs 41 w)) s e → Reaches (folded_arguments b) w s e
arguments-folded b f fs w s e g gs h =
    mark-then 40 (symbol.Pattern b ∷ symbol.More (item.Pattern b) close.Paren ∷ [])
    (f (more_listed fs 41 w)) w s e h
    (λ q x. after (symbol.Pattern b) (symbol.More (item.Pattern b) close.Paren ∷ [])
    (more_listed fs 41 w) w q e
    (g.goes (more_listed fs 41 w) q (apart-more fs close.Paren w e) x)
    (λ r y. more-goes (item.Pattern b) close.Paren fs w r e gs y))
