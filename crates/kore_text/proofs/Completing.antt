-- Tokens that fit the stack can be completed to a text. What the table finds is there.
use Rattle.std.proofs.Common.{◌≡◌, ℕ, Bool, true, false, ◌&&◌, List, [], ◌∷◌, ◌++◌, Option, Some}
use Rattle.std.proofs.Common.{None, refl, ap, sym, ◌∙◌, subst, codes, ◌⊎◌, inl, inr, if◌then◌else◌}
use Rattle.kore_text.specs.declared.names.Built.TheVariants.{Connective, Binding, Value, Fold}
use Rattle.kore_text.specs.declared.symbols.Close.{Close}
use Rattle.kore_text.specs.declared.symbols.Close.TheVariants as close
use Rattle.kore_text.specs.declared.symbols.Item.{Item}
use Rattle.kore_text.specs.declared.symbols.Item.TheVariants as item
use Rattle.kore_text.specs.declared.symbols.Symbol.{Symbol}
use Rattle.kore_text.specs.declared.symbols.Symbol.TheVariants as symbol
use Rattle.kore_text.specs.TokenStream.{KoreToken, identifier, set_identifier, builtin}
use Rattle.kore_text.specs.TokenStream.{string_token, mark, assign, Stream, end, no_token_at, token}
use Rattle.kore_text.specs.Trees.{sort_parameter, no_sorts, sort_count, element_variable}
use Rattle.kore_text.specs.Trees.{symbol_applied, no_patterns, pattern_then}
use Rattle.kore_text.specs.Grammar.{Requirement, any, listed, TakesTokens, spell_sorts}
use Rattle.kore_text.specs.Table.{byte_of, is_fold, turn, step, passes, empty_fold, item_move}
use Rattle.kore_text.specs.Table.{rest_of, is_empty, onto, can_end, passes_on}
use Rattle.kore_text.specs.Apart.{is_mark}
use Rattle.kore_text.specs.Faults.{FoldHead, head_of_symbol, of_connective, spell_unfilled}
use Rattle.kore_text.specs.Faults.{IsEmptyFold}
use Rattle.kore_text.proofs.Accepting.{number-is, both, sorts-go, sorts-exactly, empty-step}
use Rattle.kore_text.proofs.Accepting.{empty-built-step}
use Rattle.kore_text.proofs.Reaching.{Reaches, after, mark-goes, mark-then, pass-step, first-goes}
use Rattle.kore_text.proofs.Saying.{variable_token, Says, Pieces, along}
use Rattle.kore_text.proofs.Returning.{first-back, move-back}
use Rattle.kore_text.proofs.ReturningFolds.{Moved}

-- each symbol can be completed
x_name : List ℕ
x_name = codes "x"

complete : (f : Symbol) (r : Stream) → (s : Stream) × Says f s r
complete (symbol.Mark c) r = (token (mark c) 0 r, λ w e h. (refl, h))
complete symbol.Name r = (token (identifier x_name) 0 r, (x_name, λ w e h. (refl, h)))
complete symbol.Where r = (token (identifier (codes "where")) 0 r, λ w e h. (refl, h))
complete symbol.Assign r = (token assign 0 r, λ w e h. (refl, h))
complete symbol.Text r = (token (string_token x_name) 0 r, (x_name, 0, λ w e h. (refl, refl, h)))
complete symbol.Sort r =
    (token (identifier x_name) 0 r, (sort_parameter 0 x_name, λ w e h. (refl, refl, h)))
complete symbol.SortTail r = (r, inl (λ w e h. h))
complete (symbol.Pattern b) r = (
  token (identifier x_name) 0 (token (mark 58) 0 (token (identifier x_name) 0 r)),
  (
    element_variable 0 x_name (sort_parameter 0 x_name),
    λ w e h. (refl, refl, (refl, (refl, refl, h))),
  ),
)
complete (symbol.PatternTail b) r = (
  token (mark 58) 0 (token (identifier x_name) 0 r),
  inl (sort_parameter 0 x_name, λ w e h. (refl, (refl, refl, h))),
)
complete (symbol.Variable b) r = (
  token (variable_token b x_name) 0 (token (mark 58) 0 (token (identifier x_name) 0 r)),
  (0, x_name, sort_parameter 0 x_name, λ w e h. (refl, refl, (refl, (refl, refl, h)))),
)
complete (symbol.Folded b) r = (
  token (identifier x_name) 0 (token (mark 123) 0 (token (mark 125) 0 (token (mark 40) 0
      (token (identifier x_name) 0
      (token (mark 58) 0 (token (identifier x_name) 0 (token (mark 41) 0 r))))))),
  (
    symbol_applied 0 x_name no_sorts
        (pattern_then (element_variable 0 x_name (sort_parameter 0 x_name)) no_patterns),
    refl,
    λ w e h. (refl, refl, (refl, (refl, (refl, (refl, refl, (refl, (refl, refl, (refl, h)))))))),
  ),
)
complete symbol.EmptyFolded r = (
  token (identifier x_name) 0
      (token (mark 123) 0 (token (mark 125) 0 (token (mark 40) 0 (token (mark 41) 0 r)))),
  (head_of_symbol x_name no_sorts, λ w e h. (refl, (refl, (refl, (refl, (refl, h)))))),
)
complete (symbol.First i c) r = (token (mark (byte_of c)) 0 r, ([], λ w e h. (refl, h)))
complete (symbol.More i c) r = (token (mark (byte_of c)) 0 r, ([], λ w e h. (refl, h)))
complete symbol.Attributes r =
    (token (mark 91) 0 (token (mark 93) 0 r), ([], λ w e h. (refl, (refl, h))))
complete symbol.Names r =
    (token (mark 123) 0 (token (mark 125) 0 r), ([], λ w e h. (refl, (refl, h))))
complete symbol.Signature r = (
  token (mark 40) 0 (token (mark 41) 0 (token (mark 58) 0 (token (identifier x_name) 0 r))),
  ([], sort_parameter 0 x_name, λ w e h. (refl, (refl, (refl, (refl, refl, h))))),
)
complete symbol.Declarations r = (
  token (identifier (codes "endmodule")) 0 (token (mark 91) 0 (token (mark 93) 0 r)),
  ([], [], λ w e h. (refl, (refl, (refl, h)))),
)
complete symbol.Module r = (
  token (identifier (codes "module")) 0 (token (identifier x_name) 0
      (token (identifier (codes "endmodule")) 0 (token (mark 91) 0 (token (mark 93) 0 r)))),
  (
    record { at = 0; name = x_name; declarations = []; attributes = [] },
    λ w e h. (refl, refl, (refl, (refl, (refl, (refl, h))))),
  ),
)
complete symbol.Modules r = (r, ([], λ w e h. h))

pub completes : (k : List Symbol) (e : Stream) → (s : Stream) × Pieces k s e
completes [] e = (e, refl)
completes (f ∷ k) e = let q = completes k e in let s = complete f q.0 in (s.0, (q.0, s.1, q.1))

empty-says : (f : Symbol) (s : Stream) → is_empty f ≡ true → Says f s s
empty-says (symbol.Mark c) s h = let z : ⊥ = cc in absurd z
empty-says symbol.Name s h = let z : ⊥ = cc in absurd z
empty-says symbol.Where s h = let z : ⊥ = cc in absurd z
empty-says symbol.Assign s h = let z : ⊥ = cc in absurd z
empty-says symbol.Text s h = let z : ⊥ = cc in absurd z
empty-says symbol.Sort s h = let z : ⊥ = cc in absurd z
empty-says symbol.SortTail s h = inl (λ w e k. k)
empty-says (symbol.Pattern b) s h = let z : ⊥ = cc in absurd z
empty-says (symbol.PatternTail b) s h = let z : ⊥ = cc in absurd z
empty-says (symbol.Variable b) s h = let z : ⊥ = cc in absurd z
empty-says (symbol.Folded b) s h = let z : ⊥ = cc in absurd z
empty-says symbol.EmptyFolded s h = let z : ⊥ = cc in absurd z
empty-says (symbol.First i c) s h = let z : ⊥ = cc in absurd z
empty-says (symbol.More i c) s h = let z : ⊥ = cc in absurd z
empty-says symbol.Attributes s h = let z : ⊥ = cc in absurd z
empty-says symbol.Names s h = let z : ⊥ = cc in absurd z
empty-says symbol.Signature s h = let z : ⊥ = cc in absurd z
empty-says symbol.Declarations s h = let z : ⊥ = cc in absurd z
empty-says symbol.Module s h = let z : ⊥ = cc in absurd z
empty-says symbol.Modules s h = ([], λ w e k. k)

pieces-split : (b m : List Symbol) (s e : Stream) → Pieces (b ++ m) s e
    → (q : Stream) × (Pieces b s q × Pieces m q e)
pieces-split [] m s e h = (s, (refl, h))
pieces-split (f ∷ b) m s e h =
    let x = pieces-split b m h.0 e h.2 in (x.0, ((h.0, h.1, x.1.0), x.1.1))

-- what is still to come of a list, if the symbol begins one
pub record Rests (f : Symbol) (t : KoreToken) (k : List Symbol) (q e : Stream) : Type 0 where
  pub item : Item
  pub close : Close
  pub first : f ≡ symbol.First item close
  pub unclosed : is_mark (byte_of close) t ≡ false
  pub to : Stream
  pub more : Says (symbol.More item close) q to
  pub others : Pieces k to e

first-rests : (i : Item) (c : Close) (t : KoreToken) (k : List Symbol) (q e : Stream) (x : Bool)
    → x ≡ is_mark (byte_of c) t → Pieces (if x then k else (symbol.More i c ∷ k)) q e
    → (((if x then [] else (symbol.More i c ∷ [])) ≡ []) × Pieces k q e)
    ⊎ Rests (symbol.First i c) t k q e
first-rests i c t k q e true h m = inl (refl, m)
first-rests i c t k q e false h m =
    inr (record {
      item = i;
      close = c;
      first = refl;
      unclosed = sym h;
      to = m.0;
      more = m.1;
      others = m.2;
    })

rests : (f : Symbol) (t : KoreToken) (k : List Symbol) (q e : Stream) → Pieces (rest_of f t k) q e
    → ((rest_of f t [] ≡ []) × Pieces k q e) ⊎ Rests f t k q e
rests (symbol.Mark c) t k q e m = inl (refl, m)
rests symbol.Name t k q e m = inl (refl, m)
rests symbol.Where t k q e m = inl (refl, m)
rests symbol.Assign t k q e m = inl (refl, m)
rests symbol.Text t k q e m = inl (refl, m)
rests symbol.Sort t k q e m = inl (refl, m)
rests symbol.SortTail t k q e m = inl (refl, m)
rests (symbol.Pattern b) t k q e m = inl (refl, m)
rests (symbol.PatternTail b) t k q e m = inl (refl, m)
rests (symbol.Variable b) t k q e m = inl (refl, m)
rests (symbol.Folded b) t k q e m = inl (refl, m)
rests symbol.EmptyFolded t k q e m = inl (refl, m)
rests (symbol.First i c) t k q e m = first-rests i c t k q e (is_mark (byte_of c) t) refl m
rests (symbol.More i c) t k q e m = inl (refl, m)
rests symbol.Attributes t k q e m = inl (refl, m)
rests symbol.Names t k q e m = inl (refl, m)
rests symbol.Signature t k q e m = inl (refl, m)
rests symbol.Declarations t k q e m = inl (refl, m)
rests symbol.Module t k q e m = inl (refl, m)
rests symbol.Modules t k q e m = inl (refl, m)

first-move : (i : Item) (c : Close) (t : KoreToken) → is_mark (byte_of c) t ≡ false
    → turn (symbol.First i c) t ≡ item_move i t
unfolding turn
first-move i c t h = rw h refl

first-moved : (i : Item) (c : Close) (t : KoreToken) (b : List Symbol) (s q : Stream)
    → Some b ≡ turn (symbol.First i c) t → is_mark (byte_of c) t ≡ false → Pieces b s q
    → Moved (item_move i t) s q
first-moved i c t b s q m u h = subst (λ x. Moved x s q) (m ∙ first-move i c t u) h

-- a token that fits the stack, and what the new stack says after it
taken : (f : Symbol) (t : KoreToken) (p : ℕ) (s : Stream) (k b : List Symbol) (e : Stream)
    → Some b ≡ turn f t → Pieces (b ++ rest_of f t k) s e → Pieces (f ∷ k) (token t p s) e
taken f t p s k b e m h =
    let x = pieces-split b (rest_of f t k) s e h in
    let q : Stream = x.0 in
    elim (rests f t k q e x.1.1) [
      | inl y ↦ (q, move-back f t p s q (subst (λ u. Moved u s q) m x.1.0) y.0, y.1)
      | inr y ↦ (
        y.to,
        subst (λ g. Says g (token t p s) y.to) (sym y.first)
            (first-back y.item y.close t p s q y.to (first-moved y.item y.close t b s q
            (m ∙ ap (λ g. turn g t) y.first) y.unclosed x.1.0) y.more),
        y.others,
      )
    ]

some-same : (a b : List Symbol) → Some a ≡ Some b → a ≡ b
some-same a b h = cc

stepped : (f : Symbol) (t : KoreToken) (p : ℕ) (s : Stream) (k k' : List Symbol) (e : Stream)
    (mv : Option (List Symbol)) (z : Bool) → mv ≡ turn f t → z ≡ is_empty f
    → onto mv (rest_of f t k) (if z then step k t else None) ≡ Some k' → Pieces k' s e
    → (step k t ≡ Some k' → Pieces k' s e → Pieces k (token t p s) e)
    → Pieces (f ∷ k) (token t p s) e
stepped f t p s k k' e (Some b) z m i h g rec =
    taken f t p s k b e m (subst (λ u. Pieces u s e) (sym (some-same (b ++ rest_of f t k) k' h)) g)
stepped f t p s k k' e None true m i h g rec =
    (token t p s, empty-says f (token t p s) (sym i), rec h g)
stepped f t p s k k' e None false m i h g rec = let z : ⊥ = cc in absurd z

pub step-back : (k : List Symbol) (t : KoreToken) (p : ℕ) (s : Stream) (k' : List Symbol)
    (e : Stream)
    → step k t ≡ Some k' → Pieces k' s e → Pieces k (token t p s) e
unfolding step
step-back [] t p s k' e h g = let z : ⊥ = cc in absurd z
step-back (f ∷ k) t p s k' e h g =
    stepped f t p s k k' e (turn f t) (is_empty f) refl refl h g
    (λ h' g'. step-back k t p s k' e h' g')

pub ends-back : (k : List Symbol) (e : Stream) → can_end k ≡ true → Pieces k e e
ends-back [] e h = refl
ends-back (f ∷ k) e h =
    let x = both (is_empty f) (can_end k) h in (e, empty-says f e x.0, ends-back k e x.1)

passed-on : (t : KoreToken) (p : ℕ) (s : Stream) (k : List Symbol) (mv : Option (List Symbol))
    → step k t ≡ mv → passes_on (passes s) mv ≡ true
    → ((k' : List Symbol) → passes s k' ≡ true → (r : Stream) × Pieces k' s r)
    → (r : Stream) × Pieces k (token t p s) r
passed-on t p s k None m h rec = let z : ⊥ = cc in absurd z
passed-on t p s k (Some k') m h rec = let x = rec k' h in (x.0, step-back k t p s k' x.0 m x.1)

-- tokens that the table accepts for a stack are what the stack says
passed : (s : Stream) (k : List Symbol) → passes s k ≡ true → (r : Stream) × Pieces k s r
unfolding passes
passed s [] h = (s, refl)
passed (end e) (f ∷ k) h = let z : ⊥ = cc in absurd z
passed (no_token_at e) (f ∷ k) h = let z : ⊥ = cc in absurd z
passed (token t p s) (f ∷ k) h =
    passed-on t p s (f ∷ k) (step (f ∷ k) t) refl h (λ k' g. passed s k' g)

fold-token : (t : KoreToken) → is_fold t ≡ true → (left : Bool) × (t ≡ builtin (Some (Fold left)))
fold-token (builtin (Some (Fold left))) h = (left, refl)
fold-token (builtin (Some (Connective o))) h = let z : ⊥ = cc in absurd z
fold-token (builtin (Some (Binding o))) h = let z : ⊥ = cc in absurd z
fold-token (builtin (Some Value)) h = let z : ⊥ = cc in absurd z
fold-token (builtin None) h = let z : ⊥ = cc in absurd z
fold-token (identifier n) h = let z : ⊥ = cc in absurd z
fold-token (set_identifier n) h = let z : ⊥ = cc in absurd z
fold-token (string_token n) h = let z : ⊥ = cc in absurd z
fold-token (mark c) h = let z : ⊥ = cc in absurd z
fold-token assign h = let z : ⊥ = cc in absurd z

-- if the table finds a fold without an argument, there is one
pub is-empty-fold : (t : KoreToken) (s : Stream) → (is_fold t && passes s empty_fold) ≡ true
    → IsEmptyFold t s
is-empty-fold t s h =
    let x = both (is_fold t) (passes s empty_fold) h in
    let f = fold-token t x.0 in
    let y = passed s empty_fold x.1 in
    let m : Pieces empty_fold s y.0 = y.1 in
    let k : Pieces (symbol.Mark 40 ∷ symbol.EmptyFolded ∷ []) m.2.0 y.0 = m.2.2 in
    let g : Pieces (symbol.EmptyFolded ∷ []) k.0 y.0 = k.2 in (
      f.0,
      f.1,
      g.1.0,
      y.0,
      m.1 (any (mark 125) ∷ any (mark 40) ∷ spell_unfilled g.1.0 []) y.0
          (m.2.1 (any (mark 40) ∷ spell_unfilled g.1.0 []) y.0
          (k.1 (spell_unfilled g.1.0 []) y.0 (g.1.1 [] y.0 (along g.0 y.0 g.2 [] y.0 refl)))),
    )

last-passes : (s e : Stream) → TakesTokens (any (mark 41) ∷ []) s e
    → passes s (symbol.Mark 41 ∷ []) ≡ true
unfolding passes step turn
last-passes (end x) e h = absurd h
last-passes (no_token_at x) e h = absurd h
last-passes (token t p s) e h = rw h.0 refl

unfilled-by : (t : KoreToken) (bs : List Symbol) (v : List Requirement) (s e : Stream)
    → step (symbol.EmptyFolded ∷ []) t ≡ Some (bs ++ (symbol.Mark 41 ∷ []))
    → TakesTokens (any t ∷ v) s e
    → ((q : Stream) → TakesTokens v q e → Reaches bs (any (mark 41) ∷ []) q e)
    → passes s (symbol.EmptyFolded ∷ []) ≡ true
unfilled-by t bs v (end x) e m h go = absurd h
unfilled-by t bs v (no_token_at x) e m h go = absurd h
unfilled-by t bs v (token u q s) e m h go =
    let r : Reaches bs (any (mark 41) ∷ []) s e = go s h.1 in
    rw h.0 (pass-step t q s symbol.EmptyFolded [] (bs ++ (symbol.Mark 41 ∷ [])) m)
    ∙ r.passing (symbol.Mark 41 ∷ []) refl ∙ last-passes r.to e r.rest

unfilled : (h : FoldHead) (s e : Stream) → TakesTokens (spell_unfilled h []) s e
    → passes s (symbol.EmptyFolded ∷ []) ≡ true
unfilled (head_of_symbol n ss) s e h =
    let v3 : List Requirement = any (mark 41) ∷ [] in
    let v1 : List Requirement = listed (spell_sorts ss) 125 (any (mark 40) ∷ v3) in
    unfilled-by (identifier n)
    (symbol.Mark 123 ∷ symbol.First item.Sort close.Brace ∷ symbol.Mark 40 ∷ [])
    (any (mark 123) ∷ v1) s e (empty-step [] n) h
    (λ q x. mark-then 123 (symbol.First item.Sort close.Brace ∷ symbol.Mark 40 ∷ []) v1 v3 q e x
    (λ r y.
    after (symbol.First item.Sort close.Brace) (symbol.Mark 40 ∷ []) (any (mark 40) ∷ v3) v3 r e
    (first-goes item.Sort close.Brace (spell_sorts ss) (any (mark 40) ∷ v3) r e (sorts-go ss e) y)
    (λ k z. mark-goes 40 v3 k e z)))
unfilled (of_connective o ss) s e h =
    let v3 : List Requirement = any (mark 41) ∷ [] in
    let v1 : List Requirement = listed (spell_sorts ss) 125 (any (mark 40) ∷ v3) in
    unfilled-by (builtin (Some (Connective o)))
    (symbol.Mark 123 ∷ symbol.Sort ∷ symbol.Mark 125 ∷ symbol.Mark 40 ∷ [])
    (any (mark 123) ∷ v1) s e (empty-built-step o [] h.0) h.1.1
    (λ q x. mark-then 123 (symbol.Sort ∷ symbol.Mark 125 ∷ symbol.Mark 40 ∷ []) v1 v3 q e x
    (λ r y. sorts-exactly 1 ss (symbol.Mark 40 ∷ []) (any (mark 40) ∷ v3) v3 r e
    (number-is (sort_count ss) 1 h.1.0) y
    (λ k z. mark-goes 40 v3 k e z)))

-- if there is a fold without an argument, the table finds it
pub fold-found : (t : KoreToken) (s : Stream) → IsEmptyFold t s
    → (is_fold t && passes s empty_fold) ≡ true
fold-found t s h =
    let v : List Requirement = spell_unfilled h.2 [] in
    let r : Reaches (symbol.Mark 123 ∷ symbol.Mark 125 ∷ symbol.Mark 40 ∷ []) v s h.3 =
    mark-then 123 (symbol.Mark 125 ∷ symbol.Mark 40 ∷ []) (any (mark 125) ∷ any (mark 40) ∷ v) v s
    h.3 h.4
    (λ k x. mark-then 125 (symbol.Mark 40 ∷ []) (any (mark 40) ∷ v) v k h.3 x
    (λ l y. mark-goes 40 v l h.3 y)) in
    let p : passes s empty_fold ≡ true =
    r.passing (symbol.EmptyFolded ∷ []) refl ∙ unfilled h.2 r.to h.3 r.rest in
    rw (h.1, p) refl
