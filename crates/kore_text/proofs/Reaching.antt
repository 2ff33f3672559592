-- The table accepts what is spelled.
use Rattle.std.proofs.Common.{◌≡◌, ℕ, Bool, true, false, ◌==◌, List, [], ◌∷◌, ◌++◌, length, Some}
use Rattle.std.proofs.Common.{None, refl, ◌∙◌, arith}
use Rattle.std.proofs.lemmas.Bool.Decides.{nat_tests}
use Rattle.kore_text.specs.declared.symbols.Close.{Close}
use Rattle.kore_text.specs.declared.symbols.Close.TheVariants as close
use Rattle.kore_text.specs.declared.symbols.Item.{Item}
use Rattle.kore_text.specs.declared.symbols.Item.TheVariants as item
use Rattle.kore_text.specs.declared.symbols.Symbol.{Symbol}
use Rattle.kore_text.specs.declared.symbols.Symbol.TheVariants as symbol
use Rattle.kore_text.specs.TokenStream.{KoreToken, identifier, set_identifier, builtin}
use Rattle.kore_text.specs.TokenStream.{string_token, mark, assign, Stream, end, no_token_at, token}
use Rattle.kore_text.specs.Grammar.{Requirement, placed, any, provided, Spelling, listed}
use Rattle.kore_text.specs.Grammar.{more_listed, TakesTokens}
use Rattle.kore_text.specs.Apart.{Apart, is_mark}
use Rattle.kore_text.specs.Table.{byte_of, symbol_of, is_fold, turn, step, passes, run}
use Rattle.kore_text.specs.Table.{more_exactly, exactly}

abbrev pub is_nil : List Symbol → Bool
is_nil [] = true
is_nil (f ∷ k) = false

-- from the stream `s`, the table removes these symbols from the top of any stack, and then the
-- requirements `w` are met up to `e`
pub record Reaches (fs : List Symbol) (w : List Requirement) (s e : Stream) : Type 0 where
  pub to : Stream
  pub rest : TakesTokens w to e
  pub walks : (k : List Symbol) → run s None (fs ++ k) ≡ run to None k
  pub passing : (k : List Symbol) → is_nil k ≡ false → passes s (fs ++ k) ≡ passes to k

pub done : (w : List Requirement) (s e : Stream) → TakesTokens w s e → Reaches [] w s e
done w s e h = record { to = s; rest = h; walks = λ k. refl; passing = λ k n. refl }

still : (fs k : List Symbol) → is_nil k ≡ false → is_nil (fs ++ k) ≡ false
still [] k n = n
still (f ∷ fs) k n = refl

pub after : (f : Symbol) (fs : List Symbol) (v w : List Requirement) (s e : Stream)
    → Reaches (f ∷ []) v s e → ((q : Stream) → TakesTokens v q e → Reaches fs w q e)
    → Reaches (f ∷ fs) w s e
after f fs v w s e a go =
    let c : Reaches fs w a.to e = go a.to a.rest in record {
      to = c.to;
      rest = c.rest;
      walks = λ k. a.walks (fs ++ k) ∙ c.walks k;
      passing = λ k n. a.passing (fs ++ k) (still fs k n) ∙ c.passing k n;
    }

pub walk-step : (t : KoreToken) (p : ℕ) (s : Stream) (k b : List Symbol) → is_fold t ≡ false
    → step k t ≡ Some b → run (token t p s) None k ≡ run s None b
unfolding run
walk-step t p s k b f e = rw (f, e) refl

pub pass-step : (t : KoreToken) (p : ℕ) (s : Stream) (f : Symbol) (k b : List Symbol)
    → step (f ∷ k) t ≡ Some b → passes (token t p s) (f ∷ k) ≡ passes s b
unfolding passes
pass-step t p s f k b e = rw e refl

pub any-placed : (t : KoreToken) (p : ℕ) (k : List Requirement) (s e : Stream)
    → TakesTokens (placed p t ∷ k) s e → TakesTokens (any t ∷ k) s e
any-placed t p k (end n) e h = absurd h
any-placed t p k (no_token_at n) e h = absurd h
any-placed t p k (token u at s) e h = (h.0, h.2)

-- a token that replaces a symbol with others
pub by-token : (f : Symbol) (b : List Symbol) (u : KoreToken) (v w : List Requirement)
    (s e : Stream)
    → is_fold u ≡ false → ((k : List Symbol) → step (f ∷ k) u ≡ Some (b ++ k))
    → TakesTokens (any u ∷ v) s e → ((q : Stream) → TakesTokens v q e → Reaches b w q e)
    → Reaches (f ∷ []) w s e
by-token f b u v w (end n) e i m h go = absurd h
by-token f b u v w (no_token_at n) e i m h go = absurd h
by-token f b u v w (token t p s) e i m h go =
    let c : Reaches b w s e = go s h.1 in record {
      to = c.to;
      rest = c.rest;
      walks = λ k. rw h.0 (walk-step u p s (f ∷ k) (b ++ k) i (m k)) ∙ c.walks k;
      passing = λ k n. rw h.0 (pass-step u p s f k (b ++ k) (m k)) ∙ c.passing k n;
    }

pub same-number : (c : ℕ) → (c == c) ≡ true
same-number c = grind (arith, nat_tests)

mark-step : (c : ℕ) (k : List Symbol) → step (symbol.Mark c ∷ k) (mark c) ≡ Some k
unfolding step turn
mark-step c k = rw (same-number c) refl

pub mark-goes : (c : ℕ) (w : List Requirement) (s e : Stream) → TakesTokens (any (mark c) ∷ w) s e
    → Reaches (symbol.Mark c ∷ []) w s e
mark-goes c w s e h =
    by-token (symbol.Mark c) [] (mark c) w w s e refl (mark-step c) h (λ q x. done w q e x)

-- a mark, and then these symbols
pub mark-then : (c : ℕ) (fs : List Symbol) (v w : List Requirement) (s e : Stream)
    → TakesTokens (any (mark c) ∷ v) s e → ((q : Stream) → TakesTokens v q e → Reaches fs w q e)
    → Reaches (symbol.Mark c ∷ fs) w s e
mark-then c fs v w s e h go = after (symbol.Mark c) fs v w s e (mark-goes c v s e h) go

-- this mark comes next
abbrev pub comes : ℕ → Stream → Bool
comes c (token t p s) = is_mark c t
comes c _ = false

pub apart-comes : (w : List Requirement) (s e : Stream) → Apart w e → TakesTokens w s e
    → comes 123 s ≡ false
apart-comes [] s (end x) a h = rw h refl
apart-comes [] s (no_token_at x) a h = absurd a
apart-comes [] s (token t p r) a h = absurd a
apart-comes (provided b ∷ ws) s e a h = apart-comes ws s e a h.1
apart-comes (any t ∷ ws) (end n) e a h = absurd h
apart-comes (any t ∷ ws) (no_token_at n) e a h = absurd h
apart-comes (any t ∷ ws) (token u p s) e a h = rw h.0 a
apart-comes (placed q t ∷ ws) (end n) e a h = absurd h
apart-comes (placed q t ∷ ws) (no_token_at n) e a h = absurd h
apart-comes (placed q t ∷ ws) (token u p s) e a h = rw h.0 a

tail-step : (t : KoreToken) (k : List Symbol) → is_mark 123 t ≡ false
    → step (symbol.SortTail ∷ k) t ≡ step k t
unfolding step turn
tail-step t k h = rw h refl

tail-walks : (s : Stream) (k : List Symbol) → comes 123 s ≡ false
    → run s None (symbol.SortTail ∷ k) ≡ run s None k
unfolding run
tail-walks (end n) k h = refl
tail-walks (no_token_at n) k h = refl
tail-walks (token t p s) k h = rw (tail-step t k h) refl

tail-passing : (s : Stream) (k : List Symbol) → comes 123 s ≡ false → is_nil k ≡ false
    → passes s (symbol.SortTail ∷ k) ≡ passes s k
unfolding passes
tail-passing s [] h n = let z : ⊥ = cc in absurd z
tail-passing (end x) (f ∷ k) h n = refl
tail-passing (no_token_at x) (f ∷ k) h n = refl
tail-passing (token t p s) (f ∷ k) h n = rw (tail-step t (f ∷ k) h) refl

pub tail-goes : (w : List Requirement) (s e : Stream) → Apart w e → TakesTokens w s e
    → Reaches (symbol.SortTail ∷ []) w s e
tail-goes w s e a h = record {
  to = s;
  rest = h;
  walks = λ k. tail-walks s k (apart-comes w s e a h);
  passing = λ k n. tail-passing s k (apart-comes w s e a h) n;
}

-- a token that is no mark comes next
abbrev pub is_plain : KoreToken → Bool
is_plain (mark c) = false
is_plain _ = true

abbrev pub IsPlain : Stream → Type 0
IsPlain (token t p s) = is_plain t ≡ true
IsPlain _ = ⊥

-- what has this spelling begins with no mark, and the table accepts it for this symbol
pub record Goes (f : Symbol) (g : Spelling) (e : Stream) : Type 0 where
  pub plain : (w : List Requirement) (s : Stream) → TakesTokens (g w) s e → IsPlain s
  pub goes : (w : List Requirement) (s : Stream) → Apart w e → TakesTokens (g w) s e
      → Reaches (f ∷ []) w s e

abbrev pub AllGo : Symbol → List Spelling → Stream → Type 0
AllGo f [] e = Unit {0}
AllGo f (g ∷ gs) e = Goes f g e × AllGo f gs e

pub apart-more : (gs : List Spelling) (c : Close) (w : List Requirement) (e : Stream)
    → Apart (more_listed gs (byte_of c) w) e
apart-more [] close.Brace w e = refl
apart-more [] close.Paren w e = refl
apart-more [] close.Bracket w e = refl
apart-more (g ∷ gs) c w e = refl

more-closes : (i : Item) (c : Close) (k : List Symbol)
    → step (symbol.More i c ∷ k) (mark (byte_of c)) ≡ Some k
unfolding step turn
more-closes i close.Brace k = refl
more-closes i close.Paren k = refl
more-closes i close.Bracket k = refl

more-comma : (i : Item) (c : Close) (k : List Symbol)
    → step (symbol.More i c ∷ k) (mark 44) ≡ Some (symbol_of i ∷ symbol.More i c ∷ k)
unfolding step turn
more-comma i close.Brace k = refl
more-comma i close.Paren k = refl
more-comma i close.Bracket k = refl

pub more-goes : (i : Item) (c : Close) (gs : List Spelling) (w : List Requirement) (s e : Stream)
    → AllGo (symbol_of i) gs e → TakesTokens (more_listed gs (byte_of c) w) s e
    → Reaches (symbol.More i c ∷ []) w s e
more-goes i c [] w s e a h =
    by-token (symbol.More i c) [] (mark (byte_of c)) w w s e refl (more-closes i c) h
    (λ q x. done w q e x)
more-goes i c (g ∷ gs) w s e a h =
    by-token (symbol.More i c) (symbol_of i ∷ symbol.More i c ∷ []) (mark 44)
    (g (more_listed gs (byte_of c) w)) w s e refl (more-comma i c) h
    (λ q x. after (symbol_of i) (symbol.More i c ∷ []) (more_listed gs (byte_of c) w) w q e
    (a.0.goes (more_listed gs (byte_of c) w) q (apart-more gs c w e) x)
    (λ r y. more-goes i c gs w r e a.1 y))

first-closes : (i : Item) (c : Close) (k : List Symbol)
    → step (symbol.First i c ∷ k) (mark (byte_of c)) ≡ Some k
unfolding step turn
first-closes i close.Brace k = refl
first-closes i close.Paren k = refl
first-closes i close.Bracket k = refl

pub unmarked : (c : ℕ) (t : KoreToken) → is_plain t ≡ true → is_mark c t ≡ false
unmarked c (identifier n) h = refl
unmarked c (set_identifier n) h = refl
unmarked c (builtin x) h = refl
unmarked c (string_token n) h = refl
unmarked c (mark d) h = let z : ⊥ = cc in absurd z
unmarked c assign h = refl

first-step : (i : Item) (c : Close) (t : KoreToken) (k : List Symbol) → is_plain t ≡ true
    → step (symbol.First i c ∷ k) t ≡ step (symbol_of i ∷ symbol.More i c ∷ k) t
unfolding step turn
first-step item.Name c t k h = rw (unmarked (byte_of c) t h) refl
first-step item.Sort c t k h = rw (unmarked (byte_of c) t h) refl
first-step (item.Pattern b) c t k h = rw (unmarked (byte_of c) t h) refl

first-walks : (i : Item) (c : Close) (s : Stream) (k : List Symbol) → IsPlain s
    → run s None (symbol.First i c ∷ k) ≡ run s None (symbol_of i ∷ symbol.More i c ∷ k)
unfolding run
first-walks i c (end n) k h = absurd h
first-walks i c (no_token_at n) k h = absurd h
first-walks i c (token t p s) k h = rw (first-step i c t k h) refl

first-passing : (i : Item) (c : Close) (s : Stream) (k : List Symbol) → IsPlain s
    → passes s (symbol.First i c ∷ k) ≡ passes s (symbol_of i ∷ symbol.More i c ∷ k)
unfolding passes
first-passing i c (end n) k h = absurd h
first-passing i c (no_token_at n) k h = absurd h
first-passing i c (token t p s) k h = rw (first-step i c t k h) refl

pub first-goes : (i : Item) (c : Close) (gs : List Spelling) (w : List Requirement) (s e : Stream)
    → AllGo (symbol_of i) gs e → TakesTokens (listed gs (byte_of c) w) s e
    → Reaches (symbol.First i c ∷ []) w s e
first-goes i c [] w s e a h =
    by-token (symbol.First i c) [] (mark (byte_of c)) w w s e refl (first-closes i c) h
    (λ q x. done w q e x)
first-goes i c (g ∷ gs) w s e a h =
    let p : IsPlain s = a.0.plain (more_listed gs (byte_of c) w) s h in
    let r : Reaches (symbol_of i ∷ symbol.More i c ∷ []) w s e =
    after (symbol_of i) (symbol.More i c ∷ []) (more_listed gs (byte_of c) w) w s e
    (a.0.goes (more_listed gs (byte_of c) w) s (apart-more gs c w e) h)
    (λ q y. more-goes i c gs w q e a.1 y)
    in record {
      to = r.to;
      rest = r.rest;
      walks = λ k. first-walks i c s k p ∙ r.walks k;
      passing = λ k n. first-passing i c s k p ∙ r.passing k n;
    }

pub more-exactly-goes : (f : Symbol) (c : Close) (gs : List Spelling) (fs : List Symbol)
    (v w : List Requirement) (s e : Stream) → AllGo f gs e
    → TakesTokens (more_listed gs (byte_of c) v) s e
    → ((q : Stream) → TakesTokens v q e → Reaches fs w q e)
    → Reaches (more_exactly f c (length gs) fs) w s e
more-exactly-goes f c [] fs v w s e a h go = mark-then (byte_of c) fs v w s e h go
more-exactly-goes f c (g ∷ gs) fs v w s e a h go =
    mark-then 44 (f ∷ more_exactly f c (length gs) fs) (g (more_listed gs (byte_of c) v)) w s e h
    (λ q x. after f (more_exactly f c (length gs) fs) (more_listed gs (byte_of c) v) w q e
    (a.0.goes (more_listed gs (byte_of c) v) q (apart-more gs c v e) x)
    (λ r y. more-exactly-goes f c gs fs v w r e a.1 y go))

pub exactly-goes : (f : Symbol) (c : Close) (gs : List Spelling) (fs : List Symbol)
    (v w : List Requirement) (s e : Stream) → AllGo f gs e
    → TakesTokens (listed gs (byte_of c) v) s e
    → ((q : Stream) → TakesTokens v q e → Reaches fs w q e)
    → Reaches (exactly f c (length gs) fs) w s e
exactly-goes f c [] fs v w s e a h go = mark-then (byte_of c) fs v w s e h go
exactly-goes f c (g ∷ gs) fs v w s e a h go =
    after f (more_exactly f c (length gs) fs) (more_listed gs (byte_of c) v) w s e
    (a.0.goes (more_listed gs (byte_of c) v) s (apart-more gs c v e) h)
    (λ r y. more-exactly-goes f c gs fs v w r e a.1 y go)
