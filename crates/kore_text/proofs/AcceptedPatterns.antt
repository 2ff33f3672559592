-- Every spelling of a pattern is accepted.
use Rattle.std.proofs.Common.{◌≡◌, ℕ, Bool, true, false, ◌==◌, ◌&&◌, List, [], ◌∷◌, ◌++◌, map, Some}
use Rattle.std.proofs.Common.{None, refl, ◌∙◌}
use Rattle.kore_text.specs.declared.names.Op.{Op}
use Rattle.kore_text.specs.declared.names.Built.TheVariants.{Connective, Binding, Value, Fold}
use Rattle.kore_text.specs.declared.symbols.Close.TheVariants as close
use Rattle.kore_text.specs.declared.symbols.Item.TheVariants as item
use Rattle.kore_text.specs.declared.symbols.Symbol.{Symbol}
use Rattle.kore_text.specs.declared.symbols.Symbol.TheVariants as symbol
use Rattle.kore_text.specs.TokenStream.{KoreToken, identifier, set_identifier, builtin}
use Rattle.kore_text.specs.TokenStream.{string_token, mark, Stream, end, no_token_at, token}
use Rattle.kore_text.specs.Trees.{SortTree, SortTrees, sort_count, PatternTree, element_variable}
use Rattle.kore_text.specs.Trees.{set_variable, string, symbol_applied, connected, binder_applied}
use Rattle.kore_text.specs.Trees.{value_written, folded, PatternTrees, no_patterns, pattern_then}
use Rattle.kore_text.specs.Trees.{pattern_count}
use Rattle.kore_text.specs.Grammar.{Requirement, placed, any, Spelling, listed, more_listed}
use Rattle.kore_text.specs.Grammar.{TakesTokens, connective_sorts, connective_arguments, takes}
use Rattle.kore_text.specs.Grammar.{is_count, binder_sorts, binds_sets, is_variable_tree}
use Rattle.kore_text.specs.Grammar.{is_associative, is_foldable, spell_sort, spell_sorts}
use Rattle.kore_text.specs.Grammar.{spell_pattern, spell_patterns}
use Rattle.kore_text.specs.Table.{turn, step, passes, run, empty_fold, folded_arguments, exactly}
use Rattle.kore_text.specs.Table.{argument_symbols, built_symbols}
use Rattle.kore_text.proofs.Reaching.{Reaches, done, after, by-token, any-placed, mark-goes}
use Rattle.kore_text.proofs.Reaching.{mark-then, IsPlain, AllGo, first-goes, pass-step, unmarked}
use Rattle.kore_text.specs.Apart.{Apart}
use Rattle.kore_text.specs.declared.names.Binder.{Binder}
use Rattle.kore_text.proofs.Accepting.{both, number-is, sort-goes, sorts-go, plain-pattern}
use Rattle.kore_text.proofs.Accepting.{pattern-step, set-step, string-step, built-step, colon-step}
use Rattle.kore_text.proofs.Accepting.{brace-step, text-step, folded-step, folded-built-step}
use Rattle.kore_text.proofs.Accepting.{empty-step, empty-built-step, colon-goes, variable-goes}
use Rattle.kore_text.proofs.Accepting.{single, sorts-exactly, arguments-go, arguments-folded}

pub applied-goes : (b : Bool) (at : ℕ) (n : List ℕ) (ss : SortTrees) (gs : List Spelling)
    (w : List Requirement) (s e : Stream) → AllGo (symbol.Pattern b) gs e
    → TakesTokens (placed at (identifier n) ∷ any (mark 123)
    ∷ listed (spell_sorts ss) 125 (any (mark 40) ∷ listed gs 41 w)) s e
    → Reaches (symbol.Pattern b ∷ []) w s e
applied-goes b at n ss gs w s e ga h =
    let v2 : List Requirement = any (mark 40) ∷ listed gs 41 w in
    let v1 : List Requirement = listed (spell_sorts ss) 125 v2 in
    by-token (symbol.Pattern b) (symbol.PatternTail b ∷ []) (identifier n) (any (mark 123) ∷ v1) w s
    e refl (λ k. pattern-step b k n)
    (any-placed (identifier n) at (any (mark 123) ∷ v1) s e h)
    (λ q x. by-token (symbol.PatternTail b) (symbol.First item.Sort close.Brace ∷ symbol.Mark 40
    ∷ symbol.First (item.Pattern b) close.Paren ∷ []) (mark 123) v1 w q e refl
    (λ k. brace-step b k) x
    (λ r y. after (symbol.First item.Sort close.Brace)
    (symbol.Mark 40 ∷ symbol.First (item.Pattern b) close.Paren ∷ []) v2 w r e
    (first-goes item.Sort close.Brace (spell_sorts ss) v2 r e (sorts-go ss e) y)
    (λ i z. mark-then 40 (symbol.First (item.Pattern b) close.Paren ∷ []) (listed gs 41 w) w i e z
    (λ j u. first-goes (item.Pattern b) close.Paren gs w j e ga u))))

pub connected-goes : (b : Bool) (at : ℕ) (o : Op) (ss : SortTrees) (ps : PatternTrees)
    (w : List Requirement) (s e : Stream) → takes o (sort_count ss) (pattern_count ps) ≡ true
    → AllGo (symbol.Pattern b) (spell_patterns b ps) e
    → TakesTokens (placed at (builtin (Some (Connective o))) ∷ any (mark 123)
    ∷ listed (spell_sorts ss) 125 (any (mark 40) ∷ listed (spell_patterns b ps) 41 w)) s e
    → Reaches (symbol.Pattern b ∷ []) w s e
connected-goes b at o ss ps w s e t ga h =
    let c = both (sort_count ss == connective_sorts o) (is_count (connective_arguments o)
    (pattern_count ps)) t in
    let v2 : List Requirement = any (mark 40) ∷ listed (spell_patterns b ps) 41 w in
    let v1 : List Requirement = listed (spell_sorts ss) 125 v2 in
    by-token (symbol.Pattern b) (built_symbols b (Connective o)) (builtin (Some (Connective o)))
    (any (mark 123) ∷ v1) w s e refl (λ k. built-step b (Connective o) k)
    (any-placed (builtin (Some (Connective o))) at (any (mark 123) ∷ v1) s e h)
    (λ q x. mark-then 123 (exactly symbol.Sort close.Brace (connective_sorts o)
    (symbol.Mark 40 ∷ argument_symbols b (connective_arguments o))) v1 w q e x
    (λ r y. sorts-exactly (connective_sorts o) ss (symbol.Mark 40
    ∷ argument_symbols b (connective_arguments o)) v2
    w r e (number-is (sort_count ss) (connective_sorts o) c.0) y
    (λ i z. mark-then 40 (argument_symbols b (connective_arguments o))
    (listed (spell_patterns b ps) 41 w) w
    i e z
    (λ j u. arguments-go b (connective_arguments o) ps w j e c.1 ga u))))

pub binding-goes : (b : Bool) (at : ℕ) (o : Binder) (ss : SortTrees) (x p : PatternTree)
    (w : List Requirement) (s e : Stream)
    → ((sort_count ss == binder_sorts o) && is_variable_tree (binds_sets o) x) ≡ true
    → ((w' : List Requirement) (s' : Stream) → Apart w' e → TakesTokens (spell_pattern b p w') s' e
    → Reaches (symbol.Pattern b ∷ []) w' s' e)
    → TakesTokens (placed at (builtin (Some (Binding o))) ∷ any (mark 123)
    ∷ listed (spell_sorts ss) 125 (any (mark 40)
    ∷ spell_pattern b x (any (mark 44) ∷ spell_pattern b p (any (mark 41) ∷ w)))) s e
    → Reaches (symbol.Pattern b ∷ []) w s e
binding-goes b at o ss x p w s e t body h =
    let c = both (sort_count ss == binder_sorts o) (is_variable_tree (binds_sets o) x) t in
    let v4 : List Requirement = spell_pattern b p (any (mark 41) ∷ w) in
    let v3 : List Requirement = spell_pattern b x (any (mark 44) ∷ v4) in
    let v1 : List Requirement = listed (spell_sorts ss) 125 (any (mark 40) ∷ v3) in
    let f2 : List Symbol = symbol.Pattern b ∷ symbol.Mark 41 ∷ [] in
    let f1 : List Symbol = symbol.Mark 40 ∷ symbol.Variable (binds_sets o) ∷ symbol.Mark 44 ∷ f2 in
    by-token (symbol.Pattern b) (built_symbols b (Binding o)) (builtin (Some (Binding o)))
    (any (mark 123) ∷ v1) w s e refl (λ k. built-step b (Binding o) k)
    (any-placed (builtin (Some (Binding o))) at (any (mark 123) ∷ v1) s e h)
    (λ q y. mark-then 123 (exactly symbol.Sort close.Brace (binder_sorts o) f1) v1 w q e y
    (λ r z. sorts-exactly (binder_sorts o) ss f1 (any (mark 40) ∷ v3) w r e
    (number-is (sort_count ss) (binder_sorts o) c.0) z
    (λ i u. mark-then 40 (symbol.Variable (binds_sets o) ∷ symbol.Mark 44 ∷ f2) v3 w i e u
    (λ j m. after (symbol.Variable (binds_sets o)) (symbol.Mark 44 ∷ f2) (any (mark 44) ∷ v4) w j e
    (variable-goes b (binds_sets o) x (any (mark 44) ∷ v4) j e c.1 refl m)
    (λ k n. mark-then 44 f2 v4 w k e n
    (λ l d. after (symbol.Pattern b) (symbol.Mark 41 ∷ []) (any (mark 41) ∷ w) w l e
    (body (any (mark 41) ∷ w) l refl d)
    (λ a g. mark-goes 41 w a e g)))))))

pub value-goes : (b : Bool) (at : ℕ) (t : SortTree) (x : List ℕ) (place : ℕ) (w : List Requirement)
    (s e : Stream)
    → TakesTokens (placed at (builtin (Some Value)) ∷ any (mark 123)
    ∷ spell_sort t (any (mark 125) ∷ any (mark 40) ∷ placed place (string_token x)
    ∷ any (mark 41) ∷ w)) s e → Reaches (symbol.Pattern b ∷ []) w s e
value-goes b at t x place w s e h =
    let v2 : List Requirement = any (mark 40) ∷ placed place (string_token x) ∷ any (mark 41) ∷ w in
    let v1 : List Requirement = spell_sort t (any (mark 125) ∷ v2) in
    let f2 : List Symbol = symbol.Mark 40 ∷ symbol.Text ∷ symbol.Mark 41 ∷ [] in
    by-token (symbol.Pattern b) (built_symbols b Value) (builtin (Some Value)) (any (mark 123) ∷ v1)
    w s e refl (λ k. built-step b Value k)
    (any-placed (builtin (Some Value)) at (any (mark 123) ∷ v1) s e h)
    (λ q y. mark-then 123 (symbol.Sort ∷ symbol.Mark 125 ∷ f2) v1 w q e y
    (λ r z. after symbol.Sort (symbol.Mark 125 ∷ f2) (any (mark 125) ∷ v2) w r e
    (sort-goes t (any (mark 125) ∷ v2) r e refl z)
    (λ i u. mark-then 125 f2 v2 w i e u
    (λ j m. mark-then 40 (symbol.Text ∷ symbol.Mark 41 ∷ [])
    (placed place (string_token x) ∷ any (mark 41) ∷ w) w j e m
    (λ k n. after symbol.Text (symbol.Mark 41 ∷ []) (any (mark 41) ∷ w) w k e
    (by-token symbol.Text [] (string_token x) (any (mark 41) ∷ w) (any (mark 41) ∷ w) k e refl
    (λ c. text-step c x)
    (any-placed (string_token x) place (any (mark 41) ∷ w) k e n)
    (λ c d. done (any (mark 41) ∷ w) c e d))
    (λ a g. mark-goes 41 w a e g))))))

-- the arguments of a folded application
abbrev pub folded_spellings : Bool → PatternTree → List Spelling
folded_spellings b (symbol_applied at n ss ps) = spell_patterns b ps
folded_spellings b (connected at o ss ps) = spell_patterns b ps
folded_spellings b _ = []

no-close : (s : Stream) → IsPlain s → passes s (symbol.Mark 41 ∷ []) ≡ false
unfolding passes step turn
no-close (end x) h = absurd h
no-close (no_token_at x) h = absurd h
no-close (token t p s) h = rw (unmarked 41 t h) refl

-- after the head of an application with an argument comes more than `(` and `)`
head-filled : (t : KoreToken) (p : ℕ) (bs : List Symbol) (v w : List Requirement) (s e : Stream)
    → step (symbol.EmptyFolded ∷ []) t ≡ Some (bs ++ (symbol.Mark 41 ∷ []))
    → TakesTokens (placed p t ∷ v) s e → ((q : Stream) → TakesTokens v q e → Reaches bs w q e)
    → ((q : Stream) → TakesTokens w q e → IsPlain q)
    → passes s (symbol.EmptyFolded ∷ []) ≡ false
head-filled t p bs v w (end x) e m h go f = absurd h
head-filled t p bs v w (no_token_at x) e m h go f = absurd h
head-filled t p bs v w (token u q s) e m h go f =
    let r : Reaches bs w s e = go s h.2 in
    rw h.0 (pass-step t q s symbol.EmptyFolded [] (bs ++ (symbol.Mark 41 ∷ [])) m)
    ∙ r.passing (symbol.Mark 41 ∷ []) refl ∙ no-close r.to (f r.to r.rest)

filled : (b : Bool) (q : PatternTree) (w : List Requirement) (s e : Stream) → is_foldable q ≡ true
    → TakesTokens (spell_pattern b q w) s e → passes s (symbol.EmptyFolded ∷ []) ≡ false
filled b (element_variable at n t) w s e i h = let z : ⊥ = cc in absurd z
filled b (set_variable at n t) w s e i h = let z : ⊥ = cc in absurd z
filled b (string at x) w s e i h = let z : ⊥ = cc in absurd z
filled b (binder_applied at o ss x q) w s e i h = let z : ⊥ = cc in absurd z
filled b (value_written at t x place) w s e i h = let z : ⊥ = cc in absurd z
filled b (folded at left q) w s e i h = let z : ⊥ = cc in absurd z
filled b (symbol_applied at n ss no_patterns) w s e i h = let z : ⊥ = cc in absurd z
filled b (symbol_applied at n ss (pattern_then p ps)) w s e i h =
    let v3 : List Requirement = spell_pattern b p (more_listed (spell_patterns b ps) 41 w) in
    let v1 : List Requirement = listed (spell_sorts ss) 125 (any (mark 40) ∷ v3) in
    head-filled (identifier n) at
    (symbol.Mark 123 ∷ symbol.First item.Sort close.Brace ∷ symbol.Mark 40 ∷ [])
    (any (mark 123) ∷ v1) v3 s e (empty-step [] n) h
    (λ q x. mark-then 123 (symbol.First item.Sort close.Brace ∷ symbol.Mark 40 ∷ []) v1 v3 q e x
    (λ r y.
    after (symbol.First item.Sort close.Brace) (symbol.Mark 40 ∷ []) (any (mark 40) ∷ v3) v3 r e
    (first-goes item.Sort close.Brace (spell_sorts ss) (any (mark 40) ∷ v3) r e (sorts-go ss e) y)
    (λ k z. mark-goes 40 v3 k e z)))
    (λ q x. plain-pattern b p (more_listed (spell_patterns b ps) 41 w) q e x)
filled b (connected at o ss no_patterns) w s e i h =
    let z = both (is_associative o) false i in let y : ⊥ = cc in absurd y
filled b (connected at o ss (pattern_then p ps)) w s e i h =
    let a = both (is_associative o) true i in
    let c =
    both (sort_count ss == connective_sorts o)
    (is_count (connective_arguments o) (pattern_count (pattern_then p ps))) h.0 in
    let v3 : List Requirement = spell_pattern b p (more_listed (spell_patterns b ps) 41 w) in
    let v1 : List Requirement = listed (spell_sorts ss) 125 (any (mark 40) ∷ v3) in
    head-filled (builtin (Some (Connective o))) at
    (symbol.Mark 123 ∷ symbol.Sort ∷ symbol.Mark 125 ∷ symbol.Mark 40 ∷ [])
    (any (mark 123) ∷ v1) v3 s e (empty-built-step o [] a.0) h.1
    (λ q x. mark-then 123 (symbol.Sort ∷ symbol.Mark 125 ∷ symbol.Mark 40 ∷ []) v1 v3 q e x
    (λ r y. sorts-exactly 1 ss (symbol.Mark 40 ∷ []) (any (mark 40) ∷ v3) v3 r e
    (number-is (sort_count ss) (connective_sorts o) c.0 ∙ single o a.0) y
    (λ k z. mark-goes 40 v3 k e z)))
    (λ q x. plain-pattern b p (more_listed (spell_patterns b ps) 41 w) q e x)

not-empty : (b : Bool) (q : PatternTree) (w : List Requirement) (s e : Stream)
    → is_foldable q ≡ true
    → TakesTokens (any (mark 123) ∷ any (mark 125) ∷ any (mark 40) ∷ spell_pattern b q w) s e
    → passes s empty_fold ≡ false
not-empty b q w s e i h =
    let v : List Requirement = spell_pattern b q w in
    let r : Reaches (symbol.Mark 123 ∷ symbol.Mark 125 ∷ symbol.Mark 40 ∷ []) v s e =
    mark-then 123 (symbol.Mark 125 ∷ symbol.Mark 40 ∷ []) (any (mark 125) ∷ any (mark 40) ∷ v) v s e
    h
    (λ k x. mark-then 125 (symbol.Mark 40 ∷ []) (any (mark 40) ∷ v) v k e x
    (λ l y. mark-goes 40 v l e y))
    in r.passing (symbol.EmptyFolded ∷ []) refl ∙ filled b q w r.to e i r.rest

fold-walks : (b left : Bool) (p : ℕ) (s : Stream) (k : List Symbol) → passes s empty_fold ≡ false
    → run (token (builtin (Some (Fold left))) p s) None (symbol.Pattern b ∷ k)
    ≡ run s None (built_symbols b (Fold left) ++ k)
unfolding run
fold-walks b left p s k h = rw (h, built-step b (Fold left) k) refl

by-fold : (b left : Bool) (p : ℕ) (v w : List Requirement) (s e : Stream)
    → TakesTokens (placed p (builtin (Some (Fold left))) ∷ v) s e
    → ((q : Stream) → TakesTokens v q e → passes q empty_fold ≡ false)
    → ((q : Stream) → TakesTokens v q e → Reaches (built_symbols b (Fold left)) w q e)
    → Reaches (symbol.Pattern b ∷ []) w s e
by-fold b left p v w (end x) e h f go = absurd h
by-fold b left p v w (no_token_at x) e h f go = absurd h
by-fold b left p v w (token t q s) e h f go =
    let c : Reaches (built_symbols b (Fold left)) w s e = go s h.2 in record {
      to = c.to;
      rest = c.rest;
      walks = λ k. rw h.0 (fold-walks b left q s k (f s h.2)) ∙ c.walks k;
      passing =
          λ k n. rw h.0 (pass-step (builtin (Some (Fold left))) q s (symbol.Pattern b) k
          (built_symbols b (Fold left) ++ k) (built-step b (Fold left) k)) ∙ c.passing k n;
    }

-- a folded application
folded-goes : (b : Bool) (q : PatternTree) (w : List Requirement) (s e : Stream)
    → is_foldable q ≡ true → AllGo (symbol.Pattern b) (folded_spellings b q) e
    → TakesTokens (spell_pattern b q w) s e → Reaches (symbol.Folded b ∷ []) w s e
folded-goes b (element_variable at n t) w s e i ga h = let z : ⊥ = cc in absurd z
folded-goes b (set_variable at n t) w s e i ga h = let z : ⊥ = cc in absurd z
folded-goes b (string at x) w s e i ga h = let z : ⊥ = cc in absurd z
folded-goes b (binder_applied at o ss x q) w s e i ga h = let z : ⊥ = cc in absurd z
folded-goes b (value_written at t x place) w s e i ga h = let z : ⊥ = cc in absurd z
folded-goes b (folded at left q) w s e i ga h = let z : ⊥ = cc in absurd z
folded-goes b (symbol_applied at n ss no_patterns) w s e i ga h = let z : ⊥ = cc in absurd z
folded-goes b (symbol_applied at n ss (pattern_then p ps)) w s e i ga h =
    let v2 : List Requirement =
    any (mark 40) ∷ spell_pattern b p (more_listed (spell_patterns b ps) 41 w) in
    let v1 : List Requirement = listed (spell_sorts ss) 125 v2 in
    by-token (symbol.Folded b)
    (symbol.Mark 123 ∷ symbol.First item.Sort close.Brace ∷ folded_arguments b) (identifier n)
    (any (mark 123) ∷ v1) w s e refl (λ k. folded-step b k n)
    (any-placed (identifier n) at (any (mark 123) ∷ v1) s e h)
    (λ q x. mark-then 123 (symbol.First item.Sort close.Brace ∷ folded_arguments b) v1 w q e x
    (λ r y. after (symbol.First item.Sort close.Brace) (folded_arguments b) v2 w r e
    (first-goes item.Sort close.Brace (spell_sorts ss) v2 r e (sorts-go ss e) y)
    (λ k z. arguments-folded b (spell_pattern b p) (spell_patterns b ps) w k e ga.0 ga.1 z)))
folded-goes b (connected at o ss no_patterns) w s e i ga h =
    let z = both (is_associative o) false i in let y : ⊥ = cc in absurd y
folded-goes b (connected at o ss (pattern_then p ps)) w s e i ga h =
    let a = both (is_associative o) true i in
    let c =
    both (sort_count ss == connective_sorts o)
    (is_count (connective_arguments o) (pattern_count (pattern_then p ps))) h.0 in
    let v2 : List Requirement =
    any (mark 40) ∷ spell_pattern b p (more_listed (spell_patterns b ps) 41 w) in
    let v1 : List Requirement = listed (spell_sorts ss) 125 v2 in
    by-token (symbol.Folded b)
    (symbol.Mark 123 ∷ symbol.Sort ∷ symbol.Mark 125 ∷ folded_arguments b)
    (builtin (Some (Connective o))) (any (mark 123) ∷ v1) w s e refl
    (λ k. folded-built-step b o k a.0)
    (any-placed (builtin (Some (Connective o))) at (any (mark 123) ∷ v1) s e h.1)
    (λ q x. mark-then 123 (symbol.Sort ∷ symbol.Mark 125 ∷ folded_arguments b) v1 w q e x
    (λ r y. sorts-exactly 1 ss (folded_arguments b) v2 w r e
    (number-is (sort_count ss) (connective_sorts o) c.0 ∙ single o a.0) y
    (λ k z. arguments-folded b (spell_pattern b p) (spell_patterns b ps) w k e ga.0 ga.1 z)))

fold-goes : (b left : Bool) (at : ℕ) (q : PatternTree) (w : List Requirement) (s e : Stream)
    → is_foldable q ≡ true → AllGo (symbol.Pattern b) (folded_spellings b q) e
    → TakesTokens (placed at (builtin (Some (Fold left))) ∷ any (mark 123) ∷ any (mark 125)
    ∷ any (mark 40) ∷ spell_pattern b q (any (mark 41) ∷ w)) s e
    → Reaches (symbol.Pattern b ∷ []) w s e
fold-goes b left at q w s e i ga h =
    let v3 : List Requirement = spell_pattern b q (any (mark 41) ∷ w) in
    by-fold b left at (any (mark 123) ∷ any (mark 125) ∷ any (mark 40) ∷ v3) w s e h
    (λ r x. not-empty b q (any (mark 41) ∷ w) r e i x)
    (λ r x. mark-then 123 (symbol.Mark 125 ∷ symbol.Mark 40 ∷ symbol.Folded b ∷ symbol.Mark 41 ∷ [])
    (any (mark 125) ∷ any (mark 40) ∷ v3) w r e x
    (λ k y. mark-then 125 (symbol.Mark 40 ∷ symbol.Folded b ∷ symbol.Mark 41 ∷ [])
    (any (mark 40) ∷ v3) w k e y
    (λ l z. mark-then 40 (symbol.Folded b ∷ symbol.Mark 41 ∷ []) v3 w l e z
    (λ m u. after (symbol.Folded b) (symbol.Mark 41 ∷ []) (any (mark 41) ∷ w) w m e
    (folded-goes b q (any (mark 41) ∷ w) m e i ga u)
    (λ n d. mark-goes 41 w n e d)))))

string-goes : (b : Bool) (at : ℕ) (x : List ℕ) (w : List Requirement) (s e : Stream) → b ≡ true
    → TakesTokens (placed at (string_token x) ∷ w) s e → Reaches (symbol.Pattern b ∷ []) w s e
string-goes b at x w s e i h =
    rw i (by-token (symbol.Pattern true) [] (string_token x) w w s e refl (λ k. string-step k x)
    (any-placed (string_token x) at w s e h) (λ q y. done w q e y))

mutual
  pub pattern-goes : (b : Bool) (p : PatternTree) (w : List Requirement) (s e : Stream) → Apart w e
      → TakesTokens (spell_pattern b p w) s e → Reaches (symbol.Pattern b ∷ []) w s e
  pattern-goes b (element_variable at n t) w s e a h =
      by-token (symbol.Pattern b) (symbol.PatternTail b ∷ []) (identifier n)
      (any (mark 58) ∷ spell_sort t w) w s e refl (λ k. pattern-step b k n)
      (any-placed (identifier n) at (any (mark 58) ∷ spell_sort t w) s e h)
      (λ q x. by-token (symbol.PatternTail b) (symbol.Sort ∷ []) (mark 58) (spell_sort t w) w q e
      refl (λ k. colon-step b k) x (λ r y. sort-goes t w r e a y))
  pattern-goes b (set_variable at n t) w s e a h =
      by-token (symbol.Pattern b) (symbol.Mark 58 ∷ symbol.Sort ∷ []) (set_identifier n)
      (any (mark 58) ∷ spell_sort t w) w s e refl (λ k. set-step b k n)
      (any-placed (set_identifier n) at (any (mark 58) ∷ spell_sort t w) s e h)
      (λ q x. colon-goes t w q e a x)
  pattern-goes b (string at x) w s e a h = string-goes b at x w s e h.0 h.1
  pattern-goes b (symbol_applied at n ss ps) w s e a h =
      applied-goes b at n ss (spell_patterns b ps) w s e (patterns-go b ps e) h
  pattern-goes b (connected at o ss ps) w s e a h =
      connected-goes b at o ss ps w s e h.0 (patterns-go b ps e) h.1
  pattern-goes b (binder_applied at o ss x p) w s e a h =
      binding-goes b at o ss x p w s e h.0 (λ w' s' a' h'. pattern-goes b p w' s' e a' h') h.1
  pattern-goes b (value_written at t x place) w s e a h = value-goes b at t x place w s e h
  pattern-goes b (folded at left q) w s e a h =
      fold-goes b left at q w s e h.0 (folded-go b q e) h.1

  pub folded-go : (b : Bool) (q : PatternTree) (e : Stream)
      → AllGo (symbol.Pattern b) (folded_spellings b q) e
  folded-go b (symbol_applied at n ss ps) e = patterns-go b ps e
  folded-go b (connected at o ss ps) e = patterns-go b ps e
  folded-go b (element_variable at n t) e = tt
  folded-go b (set_variable at n t) e = tt
  folded-go b (string at x) e = tt
  folded-go b (binder_applied at o ss x q) e = tt
  folded-go b (value_written at t x place) e = tt
  folded-go b (folded at left q) e = tt

  pub patterns-go : (b : Bool) (ps : PatternTrees) (e : Stream)
      → AllGo (symbol.Pattern b) (spell_patterns b ps) e
  patterns-go b no_patterns e = tt
  patterns-go b (pattern_then p ps) e = (
    record {
      plain = λ w s h. plain-pattern b p w s e h;
      goes = λ w s a h. pattern-goes b p w s e a h;
    },
    patterns-go b ps e,
  )

pub listed-patterns-go : (b : Bool) (ps : List PatternTree) (e : Stream)
    → AllGo (symbol.Pattern b) (map (spell_pattern b) ps) e
listed-patterns-go b [] e = tt
listed-patterns-go b (p ∷ ps) e = (
  record {
    plain = λ w s h. plain-pattern b p w s e h;
    goes = λ w s a h. pattern-goes b p w s e a h;
  },
  listed-patterns-go b ps e,
)
