-- What tokens say stays when names are added.
use Rattle.std.proofs.Common.{◌≡◌, ℕ, ◌+◌, ◌<◌, List, [], ◌∷◌, ◌++◌, length, zero, suc, refl, ap}
use Rattle.std.proofs.Common.{sym, ◌⊎◌, inl, inr, Option, Some, None, Result, Ok, Err}
use Rattle.std.proofs.Common.{◌∙◌, subst, get_or, arith, take, Bor}
use Rattle.std.specs.Prelude.{Contains, IfOk, OnErr, MatchOption}
use Rattle.std.proofs.lemmas.List.{append_assoc, map-append, take_more}
use Rattle.std.proofs.lemmas.List.Elements.{Contains-push_cases}
use Rattle.mm_text.specs.Bytes.{Token}
use Rattle.ml_pat.specs.Named.{IsNumbered, token_number}
use Rattle.mm_proof.specs.Tokens.{name_of}
use Rattle.pattern_reader.specs.Readings.{AreKept, GainsOnly, IsSortToken, IsConstantToken}
use Rattle.pattern_reader.specs.Readings.{IsNameToken, texts}
use Rattle.pattern_reader.specs.Words.{Word, opening, closing, alone, one, two, at_sort, binder}
use Rattle.pattern_reader.specs.Words.{object, pattern_variable, sort_name, constant_name}
use Rattle.pattern_reader.specs.Words.{Says, AllSay}
use Rattle.pattern_reader.proofs.TokenLaws.{starts-sort, starts-constant}

-- a name that is not empty keeps its number
name-kept : (names more : List Token) (i b : ℕ) (rest : Token) → name_of names i ≡ (b ∷ rest)
    → name_of (names ++ more) i ≡ name_of names i
name-kept [] more i b rest is = absurd (let z : ⊥ = cc in z)
name-kept (t ∷ names) more zero b rest is = refl
name-kept (t ∷ names) more (suc i) b rest is = name-kept names more i b rest is

sort-kept : (names more : List Token) (s : ℕ) → IsSortToken (name_of names s)
    → name_of (names ++ more) s ≡ name_of names s
sort-kept names more s h =
    let w = starts-sort (name_of names s) h in name-kept names more s 115 w.0 w.1

constant-kept : (names more : List Token) (c : ℕ) → IsConstantToken (name_of names c)
    → name_of (names ++ more) c ≡ name_of names c
constant-kept names more c h =
    let w = starts-constant (name_of names c) h in name-kept names more c w.0 w.1.0 w.1.1

word-kept : (names more : List Token) (t : Token) (w : Word) → Says names t w
    → Says (names ++ more) t w
word-kept names more t opening s = record { fits = tt; is = s.is }
word-kept names more t closing s = record { fits = tt; is = s.is }
word-kept names more t (alone c) s = record { fits = tt; is = s.is }
word-kept names more t (one c) s = record { fits = tt; is = s.is }
word-kept names more t (two c) s = record { fits = tt; is = s.is }
word-kept names more t (at_sort c) s = record { fits = tt; is = s.is }
word-kept names more t (binder c) s = record { fits = tt; is = s.is }
word-kept names more t (object x) s = record { fits = s.fits; is = s.is }
word-kept names more t (pattern_variable i) s = absurd s.fits
word-kept names more t (sort_name i) s =
    let e : name_of (names ++ more) i ≡ name_of names i = sort-kept names more i s.fits in
    record { fits = subst IsSortToken (sym e) s.fits; is = s.is ∙ sym e }
word-kept names more t (constant_name i) s =
    let e : name_of (names ++ more) i ≡ name_of names i = constant-kept names more i s.fits in
    record { fits = subst IsConstantToken (sym e) s.fits; is = s.is ∙ sym e }

pub said-kept : (names more ts : List Token) (ws : List Word) → AllSay names ts ws
    → AllSay (names ++ more) ts ws
said-kept names more [] [] h = tt
said-kept names more [] (w ∷ ws) h = h
said-kept names more (t ∷ ts) [] h = h
said-kept names more (t ∷ ts) (w ∷ ws) h =
    (word-kept names more t w h.0, said-kept names more ts ws h.1)

said-one_more : (names ts : List Token) (ws : List Word) (t : Token) (w : Word)
    → AllSay names ts ws → Says names t w → AllSay names (ts ++ t ∷ []) (ws ++ w ∷ [])
said-one_more names [] [] t w h s = (s, tt)
said-one_more names [] (v ∷ ws) t w h s = absurd h
said-one_more names (u ∷ ts) [] t w h s = absurd h
said-one_more names (u ∷ ts) (v ∷ ws) t w h s = (h.0, said-one_more names ts ws t w h.1 s)

pub kept_twice : (a b c : List Token) → AreKept a b → AreKept b c → AreKept a c
kept_twice a b c h k = record {
  added = h.added ++ k.added;
  all = k.all ∙ ap (λ (ns : List Token). ns ++ k.added) h.all ∙ append_assoc a h.added k.added;
}

-- one more token says one more word
pub said-next : (old new : List Token) (tokens : List (Bor Token)) (i : ℕ) (d : Bor Token)
    (ws : List Word) (w : Word) → i < length tokens → AreKept old new
    → AllSay old (texts (take i tokens)) ws → Says new (get_or tokens i d).now w
    → AllSay new (texts (take (i + 1) tokens)) (ws ++ w ∷ [])
said-next old new tokens i d ws w lt kept h s =
    let all : AllSay new (texts (take i tokens)) ws =
    subst (λ (ns : List Token). AllSay ns (texts (take i tokens)) ws) (sym kept.all)
    (said-kept old kept.added (texts (take i tokens)) ws h) in
    subst (λ (ts : List Token). AllSay new ts (ws ++ w ∷ []))
    (sym (ap texts (take_more tokens i d lt)
    ∙ map-append (λ (t : Bor Token). t.now) (take i tokens) (get_or tokens i d ∷ [])))
    (said-one_more new (texts (take i tokens)) ws (get_or tokens i d).now w all s)

-- a token is among the tokens
pub among : (tokens : List (Bor Token)) (i : ℕ) (d : Bor Token) → i < length tokens
    → Contains (texts tokens) (get_or tokens i d).now
among [] i d lt = absurd (omega (arith, lt))
among (t ∷ tokens) zero d lt = (0, omega arith, refl)
among (t ∷ tokens) (suc i) d lt =
    let w : Contains (texts tokens) (get_or tokens i d).now = among tokens i d (omega (arith, lt))
    in
    (suc w.0, omega (arith, w.1), w.2)

-- ---- which names are new

-- no names are new
pub gains_none : (tokens names : List Token) → GainsOnly tokens names names
gains_none tokens names = record { each = λ name there. inl there }

-- the token is new
gains-added : (old : List Token) (token : Token) → IsNameToken token
    → GainsOnly (token ∷ []) old (old ++ token ∷ [])
gains-added old token named = record {
  each = λ name there. cases name (Contains-push_cases old token name there);
}
  where
    cases : (name : Token) → Contains old name ⊎ (token ≡ name)
        → Contains old name ⊎ (Contains (token ∷ []) name × IsNameToken name)
    cases name (inl there) = inl there
    cases name (inr is) = inr ((0, omega arith, is), subst IsNameToken is named)

-- the token got a number
gains-numbered : (old new : List Token) (token : Token) (n : ℕ) → IsNameToken token
    → IsNumbered old new token n → GainsOnly (token ∷ []) old new
gains-numbered old new token n named h = go (token_number old token) h
  where
    go : (found : Option ℕ)
        → MatchOption found ((n ≡ length old) × (new ≡ old ++ token ∷ []))
        (λ m. (n ≡ m) × (new ≡ old)) → GainsOnly (token ∷ []) old new
    go None k = subst (λ (names : List Token). GainsOnly (token ∷ []) old names) (sym k.1)
        (gains-added old token named)
    go (Some m) k = subst (λ (names : List Token). GainsOnly (token ∷ []) old names) (sym k.1)
        (gains_none (token ∷ []) old)

pub gains-number : {E : Type 0} (old new : List Token) (text token : Token) (r : Result ℕ E)
    → IsNameToken token → text ≡ token → IfOk r (λ (n : ℕ). IsNumbered old new text n)
    → OnErr r (new ≡ old) → GainsOnly (token ∷ []) old new
gains-number old new text token (Err e) named same h err =
    subst (λ (names : List Token). GainsOnly (token ∷ []) old names) (sym err)
    (gains_none (token ∷ []) old)
gains-number old new text token (Ok n) named same h err =
    gains-numbered old new token n named
    (subst (λ (t : Token). IsNumbered old new t n) same h)

-- the names of one more token of these are new
gains-one_more : (tokens : List Token) (token : Token) (a b c : List Token)
    → Contains tokens token → GainsOnly tokens a b → GainsOnly (token ∷ []) b c
    → GainsOnly tokens a c
gains-one_more tokens token a b c here h k = record {
  each = λ name there. cases name (k.each name there);
}
  where
    only : (name : Token) → Contains (token ∷ []) name → Contains tokens name
    only name (zero, lt, is) = subst (λ (t : Token). Contains tokens t) is here
    only name (suc n, lt, is) = absurd (omega (arith, lt))

    cases : (name : Token)
        → Contains b name ⊎ (Contains (token ∷ []) name × IsNameToken name)
        → Contains a name ⊎ (Contains tokens name × IsNameToken name)
    cases name (inl there) = h.each name there
    cases name (inr there) = inr (only name there.0, there.1)

pub gains-next : (tokens : List (Bor Token)) (i : ℕ) (d : Bor Token) (a b c : List Token)
    → i < length tokens → GainsOnly (texts tokens) a b
    → GainsOnly ((get_or tokens i d).now ∷ []) b c → GainsOnly (texts tokens) a c
gains-next tokens i d a b c lt h k =
    gains-one_more (texts tokens) (get_or tokens i d).now a b c (among tokens i d lt) h k
