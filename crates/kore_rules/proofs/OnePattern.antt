-- A text spells one pattern, because the first tokens of a pattern decide its form.
use Rattle.std.proofs.Common.{◌≡◌, ℕ, ◌==◌, Bool, true, false, not, List, [], ◌∷◌, map, Some, None}
use Rattle.std.proofs.Common.{refl, sym, ap, ◌∙◌, subst, arith, if◌then◌else◌}
use Rattle.kore_text.specs.declared.names.Built.{Built}
use Rattle.kore_text.specs.declared.names.Built.TheVariants.{Connective, Binding, Value, Fold}
use Rattle.kore_text.specs.TokenStream.{KoreToken, identifier, set_identifier, builtin}
use Rattle.kore_text.specs.TokenStream.{string_token, mark, assign, Stream, end, no_token_at, token}
use Rattle.kore_text.specs.Trees.{SortTree, sort_parameter, sort_applied, SortTrees, no_sorts}
use Rattle.kore_text.specs.Trees.{sort_then, sort_trees, listed_sorts, PatternTree}
use Rattle.kore_text.specs.Trees.{element_variable, set_variable, string, symbol_applied, connected}
use Rattle.kore_text.specs.Trees.{binder_applied, value_written, folded, PatternTrees, no_patterns}
use Rattle.kore_text.specs.Trees.{pattern_then, pattern_trees, listed_patterns}
use Rattle.kore_text.specs.Grammar.{Requirement, placed, any, Spelling, listed, more_listed}
use Rattle.kore_text.specs.Grammar.{TakesTokens, spell_name, spell_names, spell_variable}
use Rattle.kore_text.specs.Grammar.{spell_applied, spell_sort, spell_sorts, spell_pattern}
use Rattle.kore_text.specs.Grammar.{spell_patterns, spell_attributes}
use Rattle.kore_text.specs.Apart.{Apart, is_mark}
use Rattle.kore_text.proofs.Reaching.{comes, apart-comes, IsPlain}
use Rattle.kore_text.proofs.Accepting.{plain-first, sort-plain, plain-pattern}
use Rattle.kore_ast.specs.Streams.{after}

-- two things that were taken from the same stream are the same, and so is the rest of the stream
pub record Agree {T : Type 0} (t u : T) (v w : List Requirement) (d e : Stream) : Type 0 where
  pub same : t ≡ u
  pub to : Stream
  pub first : TakesTokens v to d
  pub second : TakesTokens w to e

pub any-one : (t u : KoreToken) (v w : List Requirement) (s d e : Stream)
    → TakesTokens (any t ∷ v) s d
    → TakesTokens (any u ∷ w) s e → Agree t u v w d e
any-one t u v w (end n) d e h k = absurd h
any-one t u v w (no_token_at n) d e h k = absurd h
any-one t u v w (token x p s) d e h k = record {
  same = sym h.0 ∙ k.0;
  to = s;
  first = h.1;
  second = k.1;
}

pub placed-one : (p q : ℕ) (t u : KoreToken) (v w : List Requirement) (s d e : Stream)
    → TakesTokens (placed p t ∷ v) s d → TakesTokens (placed q u ∷ w) s e
    → Agree {T = ℕ × KoreToken} (p, t) (q, u) v w d e
placed-one p q t u v w (end n) d e h k = absurd h
placed-one p q t u v w (no_token_at n) d e h k = absurd h
placed-one p q t u v w (token x at s) d e h k =
    let places : p ≡ q = sym h.1 ∙ k.1 in
    let tokens : t ≡ u = sym h.0 ∙ k.0 in
    record { same = λ i. (places i, tokens i); to = s; first = h.2; second = k.2 }

-- the tokens that spell a thing decide the thing
abbrev Told : {T : Type 0} → (T → Spelling) → T → Type 0
Told {T} spell t =
    (u : T) (v w : List Requirement) (s d e : Stream) → Apart v d → Apart w e
    → TakesTokens (spell t v) s d → TakesTokens (spell u w) s e → Agree t u v w d e

abbrev AllTold : {T : Type 0} → (T → Spelling) → List T → Type 0
AllTold spell [] = Unit {0}
AllTold spell (t ∷ ts) = Told spell t × AllTold spell ts

pub all-told : {T : Type 0} (spell : T → Spelling) → ((t : T) → Told spell t) → (ts : List T)
    → AllTold spell ts
all-told spell each [] = tt
all-told spell each (t ∷ ts) = (each t, all-told spell each ts)

-- the spelling begins with no mark
abbrev BeginsPlain : {T : Type 0} → (T → Spelling) → Type 0
BeginsPlain {T} spell =
    (t : T) (w : List Requirement) (s e : Stream) → TakesTokens (spell t w) s e → IsPlain s

-- the mark is neither a comma nor an opening brace, so it can close a list
abbrev Closes : ℕ → Type 0
Closes c = (c ≡ 44 → ⊥) × ((c == 123) ≡ false)

marks-same : (a b : ℕ) → mark a ≡ mark b → a ≡ b
marks-same a b h = cc

pub both-same : {T : Type 0} (t u : T) (ts us : List T) → t ≡ u → ts ≡ us → t ∷ ts ≡ u ∷ us
both-same t u ts us h k = λ i. h i ∷ k i

apart-more : (c : ℕ) (fs : List Spelling) (v : List Requirement) (e : Stream) → Closes c
    → Apart (more_listed fs c v) e
apart-more c [] v e h = h.1
apart-more c (f ∷ fs) v e h = refl

more-told : {T : Type 0} (spell : T → Spelling) (c : ℕ) → Closes c → (ts us : List T)
    → AllTold spell ts → (v w : List Requirement) (s d e : Stream)
    → TakesTokens (more_listed (map spell ts) c v) s d
    → TakesTokens (more_listed (map spell us) c w) s e → Agree ts us v w d e
more-told spell c closes [] [] told v w s d e h k =
    let a = any-one (mark c) (mark c) v w s d e h k in
    record { same = refl; to = a.to; first = a.first; second = a.second }
more-told spell c closes [] (u ∷ us) told v w s d e h k =
    let a = any-one (mark c) (mark 44) v (spell u (more_listed (map spell us) c w)) s d e h k in
    absurd (closes.0 (marks-same c 44 a.same))
more-told spell c closes (t ∷ ts) [] told v w s d e h k =
    let a = any-one (mark 44) (mark c) (spell t (more_listed (map spell ts) c v)) w s d e h k in
    absurd (closes.0 (sym (marks-same 44 c a.same)))
more-told spell c closes (t ∷ ts) (u ∷ us) told v w s d e h k =
    let x : List Requirement = more_listed (map spell ts) c v in
    let y : List Requirement = more_listed (map spell us) c w in
    let a = any-one (mark 44) (mark 44) (spell t x) (spell u y) s d e h k in
    let b =
    told.0 u x y a.to d e (apart-more c (map spell ts) v d closes)
    (apart-more c (map spell us) w e closes) a.first a.second in
    let r = more-told spell c closes ts us told.1 v w b.to d e b.first b.second in
    record {
      same = both-same t u ts us b.same r.same;
      to = r.to;
      first = r.first;
      second = r.second;
    }

plain-mark : (c : ℕ) (w : List Requirement) (s e : Stream) → TakesTokens (any (mark c) ∷ w) s e
    → IsPlain s → ⊥
plain-mark c w (end n) e h p = h
plain-mark c w (no_token_at n) e h p = h
plain-mark c w (token t q s) e h p =
    let marked : IsPlain (token (mark c) q s) =
    subst (λ (x : KoreToken). IsPlain (token x q s)) h.0 p in
    let never : ⊥ = cc in never

pub list-told : {T : Type 0} (spell : T → Spelling) → BeginsPlain spell → (c : ℕ) → Closes c
    → (ts us : List T) → AllTold spell ts → (v w : List Requirement) (s d e : Stream)
    → TakesTokens (listed (map spell ts) c v) s d → TakesTokens (listed (map spell us) c w) s e
    → Agree ts us v w d e
list-told spell plain c closes [] [] told v w s d e h k =
    let a = any-one (mark c) (mark c) v w s d e h k in
    record { same = refl; to = a.to; first = a.first; second = a.second }
list-told spell plain c closes [] (u ∷ us) told v w s d e h k =
    absurd (plain-mark c v s d h (plain u (more_listed (map spell us) c w) s e k))
list-told spell plain c closes (t ∷ ts) [] told v w s d e h k =
    absurd (plain-mark c w s e k (plain t (more_listed (map spell ts) c v) s d h))
list-told spell plain c closes (t ∷ ts) (u ∷ us) told v w s d e h k =
    let x : List Requirement = more_listed (map spell ts) c v in
    let y : List Requirement = more_listed (map spell us) c w in
    let b =
    told.0 u x y s d e (apart-more c (map spell ts) v d closes)
    (apart-more c (map spell us) w e closes) h k in
    let r = more-told spell c closes ts us told.1 v w b.to d e b.first b.second in
    record {
      same = both-same t u ts us b.same r.same;
      to = r.to;
      first = r.first;
      second = r.second;
    }

pub brace-closes : Closes 125
brace-closes = (λ (e : 125 ≡ 44). omega (arith, e), refl)

pub paren-closes : Closes 41
paren-closes = (λ (e : 41 ≡ 44). omega (arith, e), refl)

bracket-closes : Closes 93
bracket-closes = (λ (e : 93 ≡ 44). omega (arith, e), refl)

-- ---- sorts

spelled-sorts : (ss : SortTrees) → spell_sorts ss ≡ map spell_sort (listed_sorts ss)
spelled-sorts no_sorts = refl
spelled-sorts (sort_then s ss) = ap (λ (fs : List Spelling). spell_sort s ∷ fs) (spelled-sorts ss)

sorts-back : (ss : SortTrees) → sort_trees (listed_sorts ss) ≡ ss
sorts-back no_sorts = refl
sorts-back (sort_then s ss) = ap (λ (rest : SortTrees). sort_then s rest) (sorts-back ss)

sorts-one : (ss rs : SortTrees) → AllTold spell_sort (listed_sorts ss)
    → (v w : List Requirement) (s d e : Stream) → TakesTokens (listed (spell_sorts ss) 125 v) s d
    → TakesTokens (listed (spell_sorts rs) 125 w) s e → Agree ss rs v w d e
sorts-one ss rs told v w s d e h k =
    let a =
    list-told spell_sort sort-plain 125 brace-closes (listed_sorts ss) (listed_sorts rs) told v
    w s d e
    (subst (λ (fs : List Spelling). TakesTokens (listed fs 125 v) s d) (spelled-sorts ss) h)
    (subst (λ (fs : List Spelling). TakesTokens (listed fs 125 w) s e) (spelled-sorts rs) k) in
    record {
      same = sym (sorts-back ss) ∙ ap sort_trees a.same ∙ sorts-back rs;
      to = a.to;
      first = a.first;
      second = a.second;
    }

pub names-same : (p q : ℕ) (n m : List ℕ)
    → ◌≡◌ {A = ℕ × KoreToken} (p, identifier n) (q, identifier m)
    → (p ≡ q) × (n ≡ m)
names-same p q n m h =
    let tokens : identifier n ≡ identifier m = ap (λ (x : ℕ × KoreToken). x.1) h in
    (ap (λ (x : ℕ × KoreToken). x.0) h, let e : n ≡ m = cc in e)

-- there is no brace where a brace must not come
no-brace : (v w : List Requirement) (s d e : Stream) → Apart v d → TakesTokens v s d
    → TakesTokens (any (mark 123) ∷ w) s e → ⊥
no-brace v w s d e apart h k = brace s (apart-comes v s d apart h) k where
  brace : (s : Stream) → comes 123 s ≡ false → TakesTokens (any (mark 123) ∷ w) s e → ⊥
  brace (end n) none k = k
  brace (no_token_at n) none k = k
  brace (token t p s) none k =
      let at : is_mark 123 (mark 123) ≡ false =
      subst (λ (x : KoreToken). is_mark 123 x ≡ false) k.0 none in
      let never : ⊥ = cc in never

mutual
  pub sort-told : (t : SortTree) → Told spell_sort t
  sort-told (sort_parameter at n) (sort_parameter bt m) v w s d e av aw h k =
      let a = placed-one at bt (identifier n) (identifier m) v w s d e h k in
      let same = names-same at bt n m a.same in
      record {
        same = λ i. sort_parameter (same.0 i) (same.1 i);
        to = a.to;
        first = a.first;
        second = a.second;
      }
  sort-told (sort_parameter at n) (sort_applied bt m rs) v w s d e av aw h k =
      let a =
      placed-one at bt (identifier n) (identifier m) v
      (any (mark 123) ∷ listed (spell_sorts rs) 125 w) s d e h k in
      absurd (no-brace v (listed (spell_sorts rs) 125 w) a.to d e av a.first a.second)
  sort-told (sort_applied at n ss) (sort_parameter bt m) v w s d e av aw h k =
      let a =
      placed-one at bt (identifier n) (identifier m)
      (any (mark 123) ∷ listed (spell_sorts ss) 125 v) w s d e h k in
      absurd (no-brace w (listed (spell_sorts ss) 125 v) a.to e d aw a.second a.first)
  sort-told (sort_applied at n ss) (sort_applied bt m rs) v w s d e av aw h k =
      let x : List Requirement = listed (spell_sorts ss) 125 v in
      let y : List Requirement = listed (spell_sorts rs) 125 w in
      let a =
      placed-one at bt (identifier n) (identifier m) (any (mark 123) ∷ x) (any (mark 123) ∷ y) s
      d e h k in
      let same = names-same at bt n m a.same in
      let b = any-one (mark 123) (mark 123) x y a.to d e a.first a.second in
      let c = sorts-one ss rs (sorts-told ss) v w b.to d e b.first b.second in
      record {
        same = λ i. sort_applied (same.0 i) (same.1 i) (c.same i);
        to = c.to;
        first = c.first;
        second = c.second;
      }

  sorts-told : (ss : SortTrees) → AllTold spell_sort (listed_sorts ss)
  sorts-told no_sorts = tt
  sorts-told (sort_then s ss) = (sort-told s, sorts-told ss)

-- ---- patterns

spelled-patterns : (b : Bool) (ps : PatternTrees)
    → spell_patterns b ps ≡ map (spell_pattern b) (listed_patterns ps)
spelled-patterns b no_patterns = refl
spelled-patterns b (pattern_then p ps) =
    ap (λ (fs : List Spelling). spell_pattern b p ∷ fs) (spelled-patterns b ps)

patterns-back : (ps : PatternTrees) → pattern_trees (listed_patterns ps) ≡ ps
patterns-back no_patterns = refl
patterns-back (pattern_then p ps) =
    ap (λ (rest : PatternTrees). pattern_then p rest) (patterns-back ps)

patterns-one : (b : Bool) (ps qs : PatternTrees) → AllTold (spell_pattern b) (listed_patterns ps)
    → (v w : List Requirement) (s d e : Stream)
    → TakesTokens (listed (spell_patterns b ps) 41 v) s d
    → TakesTokens (listed (spell_patterns b qs) 41 w) s e → Agree ps qs v w d e
patterns-one b ps qs told v w s d e h k =
    let a =
    list-told (spell_pattern b) (plain-pattern b) 41 paren-closes (listed_patterns ps)
    (listed_patterns qs) told v w s d e
    (subst (λ (fs : List Spelling). TakesTokens (listed fs 41 v) s d) (spelled-patterns b ps) h)
    (subst (λ (fs : List Spelling). TakesTokens (listed fs 41 w) s e) (spelled-patterns b qs) k) in
    record {
      same = sym (patterns-back ps) ∙ ap pattern_trees a.same ∙ patterns-back qs;
      to = a.to;
      first = a.first;
      second = a.second;
    }

-- a number for each form of a pattern, and for what its tokens begin with
abbrev form : PatternTree → ℕ
form (element_variable at n s) = 0
form (set_variable at n s) = 1
form (string at t) = 2
form (symbol_applied at n ss ps) = 3
form (connected at o ss ps) = 4
form (binder_applied at o ss x p) = 5
form (value_written at s t place) = 6
form (folded at left p) = 7

abbrev built_form : Built → ℕ
built_form (Connective o) = 4
built_form (Binding o) = 5
built_form Value = 6
built_form (Fold left) = 7

abbrev token_form : KoreToken → Bool → ℕ
token_form (identifier n) colon = if colon then 0 else 3
token_form (set_identifier n) colon = 1
token_form (builtin None) colon = 8
token_form (builtin (Some x)) colon = built_form x
token_form (string_token t) colon = 2
token_form (mark c) colon = 8
token_form assign colon = 8

abbrev form_at : Stream → ℕ
form_at (end n) = 8
form_at (no_token_at n) = 8
form_at (token t p s) = token_form t (comes 58 s)

placed-form : (p : ℕ) (t : KoreToken) (w : List Requirement) (s e : Stream)
    → TakesTokens (placed p t ∷ w) s e → form_at s ≡ token_form t (comes 58 (after s))
placed-form p t w (end n) e h = absurd h
placed-form p t w (no_token_at n) e h = absurd h
placed-form p t w (token u q s) e h = ap (λ (x : KoreToken). token_form x (comes 58 s)) h.0

marked-form : (p : ℕ) (t : KoreToken) (c : ℕ) (w : List Requirement) (s e : Stream)
    → TakesTokens (placed p t ∷ any (mark c) ∷ w) s e → form_at s ≡ token_form t (c == 58)
marked-form p t c w (end n) e h = absurd h
marked-form p t c w (no_token_at n) e h = absurd h
marked-form p t c w (token u q (end n)) e h = absurd h.2
marked-form p t c w (token u q (no_token_at n)) e h = absurd h.2
marked-form p t c w (token u q (token x r s)) e h =
    ap (λ (y : KoreToken). token_form y (is_mark 58 x)) h.0
    ∙ ap (λ (y : KoreToken). token_form t (is_mark 58 y)) h.2.0

pattern-form : (b : Bool) (t : PatternTree) (w : List Requirement) (s e : Stream)
    → TakesTokens (spell_pattern b t w) s e → form_at s ≡ form t
pattern-form b (element_variable at n o) w s e h =
    marked-form at (identifier n) 58 (spell_sort o w) s e h
pattern-form b (set_variable at n o) w s e h =
    placed-form at (set_identifier n) (any (mark 58) ∷ spell_sort o w) s e h
pattern-form b (string at t) w s e h = placed-form at (string_token t) w s e h.1
pattern-form b (symbol_applied at n ss ps) w s e h =
    marked-form at (identifier n) 123
    (listed (spell_sorts ss) 125 (any (mark 40) ∷ listed (spell_patterns b ps) 41 w)) s e h
pattern-form b (connected at o ss ps) w s e h =
    placed-form at (builtin (Some (Connective o))) (any (mark 123)
    ∷ listed (spell_sorts ss) 125 (any (mark 40) ∷ listed (spell_patterns b ps) 41 w)) s e
    h.1
pattern-form b (binder_applied at o ss x p) w s e h =
    placed-form at (builtin (Some (Binding o))) (any (mark 123)
    ∷ listed (spell_sorts ss) 125 (any (mark 40)
    ∷ spell_pattern b x (any (mark 44) ∷ spell_pattern b p (any (mark 41) ∷ w)))) s e
    h.1
pattern-form b (value_written at o t place) w s e h =
    placed-form at (builtin (Some Value)) (any (mark 123)
    ∷ spell_sort o (any (mark 125) ∷ any (mark 40) ∷ placed place (string_token t)
    ∷ any (mark 41) ∷ w)) s e h
pattern-form b (folded at left p) w s e h =
    placed-form at (builtin (Some (Fold left)))
    (any (mark 123) ∷ any (mark 125) ∷ any (mark 40) ∷ spell_pattern b p (any (mark 41) ∷ w)) s
    e h.1

forms-same : (b : Bool) (t u : PatternTree) (v w : List Requirement) (s d e : Stream)
    → TakesTokens (spell_pattern b t v) s d → TakesTokens (spell_pattern b u w) s e
    → form t ≡ form u
forms-same b t u v w s d e h k = sym (pattern-form b t v s d h) ∙ pattern-form b u w s e k

variable-one : (at bt : ℕ) (t u : KoreToken) (o r : SortTree) (v w : List Requirement)
    (s d e : Stream)
    → Apart v d → Apart w e → TakesTokens (spell_variable at t o v) s d
    → TakesTokens (spell_variable bt u r w) s e
    → Agree {T = (ℕ × KoreToken) × SortTree} ((at, t), o) ((bt, u), r) v w d e
variable-one at bt t u o r v w s d e av aw h k =
    let a =
    placed-one at bt t u (any (mark 58) ∷ spell_sort o v) (any (mark 58) ∷ spell_sort r w) s d e
    h k in
    let b =
    any-one (mark 58) (mark 58) (spell_sort o v) (spell_sort r w) a.to d e a.first a.second in
    let c = sort-told o r v w b.to d e av aw b.first b.second in
    record { same = λ i. (a.same i, c.same i); to = c.to; first = c.first; second = c.second }

applied-one : (b : Bool) (at bt : ℕ) (t u : KoreToken) (ss rs : SortTrees) (ps qs : PatternTrees)
    → AllTold (spell_pattern b) (listed_patterns ps) → (v w : List Requirement) (s d e : Stream)
    → TakesTokens (spell_applied at t ss (spell_patterns b ps) v) s d
    → TakesTokens (spell_applied bt u rs (spell_patterns b qs) w) s e
    → Agree {T = ((ℕ × KoreToken) × SortTrees) × PatternTrees} (((at, t), ss), ps) (
      ((bt, u), rs),
      qs,
    ) v
    w d e
applied-one b at bt t u ss rs ps qs told v w s d e h k =
    let x2 : List Requirement = listed (spell_patterns b ps) 41 v in
    let y2 : List Requirement = listed (spell_patterns b qs) 41 w in
    let x1 : List Requirement = listed (spell_sorts ss) 125 (any (mark 40) ∷ x2) in
    let y1 : List Requirement = listed (spell_sorts rs) 125 (any (mark 40) ∷ y2) in
    let a = placed-one at bt t u (any (mark 123) ∷ x1) (any (mark 123) ∷ y1) s d e h k in
    let c = any-one (mark 123) (mark 123) x1 y1 a.to d e a.first a.second in
    let f =
    sorts-one ss rs (sorts-told ss) (any (mark 40) ∷ x2) (any (mark 40) ∷ y2) c.to d e c.first
    c.second in
    let g = any-one (mark 40) (mark 40) x2 y2 f.to d e f.first f.second in
    let j = patterns-one b ps qs told v w g.to d e g.first g.second in
    record {
      same = λ i. ((a.same i, f.same i), j.same i);
      to = j.to;
      first = j.first;
      second = j.second;
    }

pub identifiers-same : (n m : List ℕ) → identifier n ≡ identifier m → n ≡ m
identifiers-same n m h = cc

set-identifiers-same : (n m : List ℕ) → set_identifier n ≡ set_identifier m → n ≡ m
set-identifiers-same n m h = cc

texts-same : (n m : List ℕ) → string_token n ≡ string_token m → n ≡ m
texts-same n m h = cc

mutual
  pub pattern-told : (b : Bool) (t : PatternTree) → Told (spell_pattern b) t
  pattern-told b (element_variable at n o) (element_variable bt m r) v w s d e av aw h k =
      let a = variable-one at bt (identifier n) (identifier m) o r v w s d e av aw h k in
      let same = names-same at bt n m (λ i. (a.same i).0) in
      record {
        same = λ i. element_variable (same.0 i) (same.1 i) (a.same i).1;
        to = a.to;
        first = a.first;
        second = a.second;
      }
  pattern-told b (set_variable at n o) (set_variable bt m r) v w s d e av aw h k =
      let a = variable-one at bt (set_identifier n) (set_identifier m) o r v w s d e av aw h k in
      let same : n ≡ m = set-identifiers-same n m (λ i. (a.same i).0.1) in
      record {
        same = λ i. set_variable (a.same i).0.0 (same i) (a.same i).1;
        to = a.to;
        first = a.first;
        second = a.second;
      }
  pattern-told b (string at t) (string bt u) v w s d e av aw h k =
      let a = placed-one at bt (string_token t) (string_token u) v w s d e h.1 k.1 in
      let same : t ≡ u = texts-same t u (λ i. (a.same i).1) in
      record {
        same = λ i. string (a.same i).0 (same i);
        to = a.to;
        first = a.first;
        second = a.second;
      }
  pattern-told b (symbol_applied at n ss ps) (symbol_applied bt m rs qs) v w s d e av aw h k =
      let a =
      applied-one b at bt (identifier n) (identifier m) ss rs ps qs (patterns-told b ps) v w s d
      e h k in
      let same : n ≡ m = identifiers-same n m (λ i. (a.same i).0.0.1) in
      record {
        same = λ i. symbol_applied (a.same i).0.0.0 (same i) (a.same i).0.1 (a.same i).1;
        to = a.to;
        first = a.first;
        second = a.second;
      }
  pattern-told b (connected at o ss ps) (connected bt r rs qs) v w s d e av aw h k =
      let a =
      applied-one b at bt (builtin (Some (Connective o))) (builtin (Some (Connective r))) ss rs
      ps qs (patterns-told b ps) v w s d e h.1 k.1 in
      let heads : builtin (Some (Connective o)) ≡ builtin (Some (Connective r)) =
      λ i. (a.same i).0.0.1 in
      let same : o ≡ r = cc in
      record {
        same = λ i. connected (a.same i).0.0.0 (same i) (a.same i).0.1 (a.same i).1;
        to = a.to;
        first = a.first;
        second = a.second;
      }
  pattern-told b (binder_applied at o ss x p) (binder_applied bt r rs y q) v w s d e av aw h k =
      let v3 : List Requirement = any (mark 41) ∷ v in
      let w3 : List Requirement = any (mark 41) ∷ w in
      let v2 : List Requirement = any (mark 44) ∷ spell_pattern b p v3 in
      let w2 : List Requirement = any (mark 44) ∷ spell_pattern b q w3 in
      let v1 : List Requirement = any (mark 40) ∷ spell_pattern b x v2 in
      let w1 : List Requirement = any (mark 40) ∷ spell_pattern b y w2 in
      let v0 : List Requirement = listed (spell_sorts ss) 125 v1 in
      let w0 : List Requirement = listed (spell_sorts rs) 125 w1 in
      let a =
      placed-one at bt (builtin (Some (Binding o))) (builtin (Some (Binding r)))
      (any (mark 123) ∷ v0) (any (mark 123) ∷ w0) s d e h.1 k.1 in
      let heads : builtin (Some (Binding o)) ≡ builtin (Some (Binding r)) = λ i. (a.same i).1 in
      let same : o ≡ r = cc in
      let c = any-one (mark 123) (mark 123) v0 w0 a.to d e a.first a.second in
      let f = sorts-one ss rs (sorts-told ss) v1 w1 c.to d e c.first c.second in
      let g =
      any-one (mark 40) (mark 40) (spell_pattern b x v2) (spell_pattern b y w2) f.to d e f.first
      f.second in
      let m = pattern-told b x y v2 w2 g.to d e refl refl g.first g.second in
      let n =
      any-one (mark 44) (mark 44) (spell_pattern b p v3) (spell_pattern b q w3) m.to d e m.first
      m.second in
      let j = pattern-told b p q v3 w3 n.to d e refl refl n.first n.second in
      let z = any-one (mark 41) (mark 41) v w j.to d e j.first j.second in
      record {
        same = λ i. binder_applied (a.same i).0 (same i) (f.same i) (m.same i) (j.same i);
        to = z.to;
        first = z.first;
        second = z.second;
      }
  pattern-told b (value_written at o t place) (value_written bt r u there) v w s d e av aw h k =
      let v3 : List Requirement = any (mark 41) ∷ v in
      let w3 : List Requirement = any (mark 41) ∷ w in
      let v2 : List Requirement = placed place (string_token t) ∷ v3 in
      let w2 : List Requirement = placed there (string_token u) ∷ w3 in
      let v1 : List Requirement = any (mark 125) ∷ any (mark 40) ∷ v2 in
      let w1 : List Requirement = any (mark 125) ∷ any (mark 40) ∷ w2 in
      let a =
      placed-one at bt (builtin (Some Value)) (builtin (Some Value))
      (any (mark 123) ∷ spell_sort o v1) (any (mark 123) ∷ spell_sort r w1) s d e h k in
      let c =
      any-one (mark 123) (mark 123) (spell_sort o v1) (spell_sort r w1) a.to d e a.first
      a.second in
      let f = sort-told o r v1 w1 c.to d e refl refl c.first c.second in
      let g =
      any-one (mark 125) (mark 125) (any (mark 40) ∷ v2) (any (mark 40) ∷ w2) f.to d e f.first
      f.second in
      let m = any-one (mark 40) (mark 40) v2 w2 g.to d e g.first g.second in
      let n =
      placed-one place there (string_token t) (string_token u) v3 w3 m.to d e m.first
      m.second in
      let same : t ≡ u = texts-same t u (λ i. (n.same i).1) in
      let z = any-one (mark 41) (mark 41) v w n.to d e n.first n.second in
      record {
        same = λ i. value_written (a.same i).0 (f.same i) (same i) (n.same i).0;
        to = z.to;
        first = z.first;
        second = z.second;
      }
  pattern-told b (folded at left p) (folded bt other q) v w s d e av aw h k =
      let v3 : List Requirement = any (mark 41) ∷ v in
      let w3 : List Requirement = any (mark 41) ∷ w in
      let v2 : List Requirement = any (mark 40) ∷ spell_pattern b p v3 in
      let w2 : List Requirement = any (mark 40) ∷ spell_pattern b q w3 in
      let a =
      placed-one at bt (builtin (Some (Fold left))) (builtin (Some (Fold other)))
      (any (mark 123) ∷ any (mark 125) ∷ v2) (any (mark 123) ∷ any (mark 125) ∷ w2) s d e
      h.1 k.1 in
      let heads : builtin (Some (Fold left)) ≡ builtin (Some (Fold other)) = λ i. (a.same i).1 in
      let same : left ≡ other = cc in
      let c =
      any-one (mark 123) (mark 123) (any (mark 125) ∷ v2) (any (mark 125) ∷ w2) a.to d e a.first
      a.second in
      let f = any-one (mark 125) (mark 125) v2 w2 c.to d e c.first c.second in
      let g =
      any-one (mark 40) (mark 40) (spell_pattern b p v3) (spell_pattern b q w3) f.to d e f.first
      f.second in
      let j = pattern-told b p q v3 w3 g.to d e refl refl g.first g.second in
      let z = any-one (mark 41) (mark 41) v w j.to d e j.first j.second in
      record {
        same = λ i. folded (a.same i).0 (same i) (j.same i);
        to = z.to;
        first = z.first;
        second = z.second;
      }
  pattern-told b (element_variable at n o) u v w s d e av aw h k =
      absurd (omega (arith, forms-same b (element_variable at n o) u v w s d e h k))
  pattern-told b (set_variable at n o) u v w s d e av aw h k =
      absurd (omega (arith, forms-same b (set_variable at n o) u v w s d e h k))
  pattern-told b (string at t) u v w s d e av aw h k =
      absurd (omega (arith, forms-same b (string at t) u v w s d e h k))
  pattern-told b (symbol_applied at n ss ps) u v w s d e av aw h k =
      absurd (omega (arith, forms-same b (symbol_applied at n ss ps) u v w s d e h k))
  pattern-told b (connected at o ss ps) u v w s d e av aw h k =
      absurd (omega (arith, forms-same b (connected at o ss ps) u v w s d e h k))
  pattern-told b (binder_applied at o ss x p) u v w s d e av aw h k =
      absurd (omega (arith, forms-same b (binder_applied at o ss x p) u v w s d e h k))
  pattern-told b (value_written at o t place) u v w s d e av aw h k =
      absurd (omega (arith, forms-same b (value_written at o t place) u v w s d e h k))
  pattern-told b (folded at left p) u v w s d e av aw h k =
      absurd (omega (arith, forms-same b (folded at left p) u v w s d e h k))

  patterns-told : (b : Bool) (ps : PatternTrees) → AllTold (spell_pattern b) (listed_patterns ps)
  patterns-told b no_patterns = tt
  patterns-told b (pattern_then p ps) = (pattern-told b p, patterns-told b ps)

-- ---- declarations

name-told : (n : List ℕ) → Told spell_name n
name-told n m v w s d e av aw h k =
    let a = any-one (identifier n) (identifier m) v w s d e h k in
    record { same = identifiers-same n m a.same; to = a.to; first = a.first; second = a.second }

name-plain : BeginsPlain spell_name
name-plain n w s e h = plain-first (any (identifier n) ∷ w) s e refl h

pub names-one : (ns ms : List (List ℕ)) (v w : List Requirement) (s d e : Stream)
    → TakesTokens (spell_names ns v) s d → TakesTokens (spell_names ms w) s e → Agree ns ms v w d e
names-one ns ms v w s d e h k =
    let a =
    any-one (mark 123) (mark 123) (listed (map spell_name ns) 125 v)
    (listed (map spell_name ms) 125 w) s d e h k in
    list-told spell_name name-plain 125 brace-closes ns ms (all-told spell_name name-told ns) v w
    a.to d e a.first a.second

pub attributes-one : (ps qs : List PatternTree) (v w : List Requirement) (s d e : Stream)
    → TakesTokens (spell_attributes ps v) s d → TakesTokens (spell_attributes qs w) s e
    → Agree ps qs v w d e
attributes-one ps qs v w s d e h k =
    let a =
    any-one (mark 91) (mark 91) (listed (map (spell_pattern true) ps) 93 v)
    (listed (map (spell_pattern true) qs) 93 w) s d e h k in
    list-told (spell_pattern true) (plain-pattern true) 93 bracket-closes ps qs
    (all-told (spell_pattern true) (pattern-told true) ps) v w a.to d e a.first a.second
