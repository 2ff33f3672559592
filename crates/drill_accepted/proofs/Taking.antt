-- Requirements that the tokens of parts meet.
use Rattle.std.proofs.Common.{◌≡◌, ℕ, zero, suc, Bool, true, ◌&&◌, List, [], ◌∷◌, ◌++◌, refl, sym}
use Rattle.std.proofs.Common.{subst, nat_le}
use Rattle.std.proofs.lemmas.Bool.{leb-true}
use Rattle.rule_core.proofs.Belows.{both_true}
use Rattle.kore_text.specs.TokenStream.{Stream, end, no_token_at, token}
use Rattle.kore_text.specs.Grammar.{Requirement, placed, any, provided, TakesTokens}
use Rattle.kore_text.specs.Depth.{opened, IsShallow}
use Rattle.drill_accepted.proofs.Parts.{Part, blank, written, quoted, named_number, quoted_number}
use Rattle.drill_accepted.proofs.Parts.{tokens_from, place_after}

-- ---- places

-- the place of the token with this number
abbrev pub place_in : Stream → ℕ → ℕ
place_in (end n) k = n
place_in (no_token_at n) k = n
place_in (token t p s) zero = p
place_in (token t p s) (suc k) = place_in s k

-- the places of the tokens of parts
abbrev pub token_places : ℕ → List Part → ℕ → ℕ
token_places at ps = place_in (tokens_from at ps end)

-- ---- requirements

abbrev first_place : Stream → ℕ
first_place s = place_in s 0

abbrev rest_of : Stream → Stream
rest_of (end n) = end n
rest_of (no_token_at n) = no_token_at n
rest_of (token t p s) = s

-- the stream with the required tokens in the place of its own, those that may stand anywhere at its
-- own places
abbrev pub fulfilled : List Requirement → Stream → Stream
fulfilled [] s = s
fulfilled (provided b ∷ ws) s = fulfilled ws s
fulfilled (placed p t ∷ ws) s = token t p (fulfilled ws (rest_of s))
fulfilled (any t ∷ ws) s = token t (first_place s) (fulfilled ws (rest_of s))

-- what is left of the stream behind them
abbrev pub left_after : List Requirement → Stream → Stream
left_after [] s = s
left_after (provided b ∷ ws) s = left_after ws s
left_after (placed p t ∷ ws) s = left_after ws (rest_of s)
left_after (any t ∷ ws) s = left_after ws (rest_of s)

abbrev pub all_hold : List Requirement → Bool
all_hold [] = true
all_hold (provided b ∷ ws) = b && all_hold ws
all_hold (placed p t ∷ ws) = all_hold ws
all_hold (any t ∷ ws) = all_hold ws

-- a stream that already has the required tokens meets the requirements
pub takes-all : (ws : List Requirement) (s : Stream) → all_hold ws ≡ true → fulfilled ws s ≡ s
    → TakesTokens ws s (left_after ws s)
takes-all [] s h e = refl
takes-all (provided b ∷ ws) s h e = let p = both_true b (all_hold ws) h in (
  p.0,
  takes-all ws s p.1 e,
)
takes-all (placed p t ∷ ws) (end n) h e = let no : ⊥ = cc in no
takes-all (placed p t ∷ ws) (no_token_at n) h e = let no : ⊥ = cc in no
takes-all (placed p t ∷ ws) (token u q s) h e =
    let same : u ≡ t = cc in
    let place : q ≡ p = cc in
    let rest : fulfilled ws s ≡ s = cc in
    (same, place, takes-all ws s h rest)
takes-all (any t ∷ ws) (end n) h e = let no : ⊥ = cc in no
takes-all (any t ∷ ws) (no_token_at n) h e = let no : ⊥ = cc in no
takes-all (any t ∷ ws) (token u q s) h e =
    let same : u ≡ t = cc in
    let rest : fulfilled ws s ≡ s = cc in
    (same, takes-all ws s h rest)

-- one list of requirements after another
pub takes-both : (ws k : List Requirement) (s m e : Stream) → TakesTokens ws s m → TakesTokens k m e
    → TakesTokens (ws ++ k) s e
takes-both [] k s m e h g = subst (λ (x : Stream). TakesTokens k x e) (sym h) g
takes-both (provided b ∷ ws) k s m e h g = (h.0, takes-both ws k s m e h.1 g)
takes-both (placed p t ∷ ws) k (end n) m e h g = h
takes-both (placed p t ∷ ws) k (no_token_at n) m e h g = h
takes-both (placed p t ∷ ws) k (token u q s) m e h g = (h.0, h.1, takes-both ws k s m e h.2 g)
takes-both (any t ∷ ws) k (end n) m e h g = h
takes-both (any t ∷ ws) k (no_token_at n) m e h g = h
takes-both (any t ∷ ws) k (token u q s) m e h g = (h.0, takes-both ws k s m e h.1 g)

-- ---- brackets

-- the brackets that are open after the parts, if so many are open before them
abbrev pub open_after : ℕ → List Part → ℕ
open_after n [] = n
open_after n (blank c ∷ ps) = open_after n ps
open_after n (written t ∷ ps) = open_after (opened t n) ps
open_after n (quoted w ∷ ps) = open_after n ps
open_after n (named_number i ∷ ps) = open_after n ps
open_after n (quoted_number i ∷ ps) = open_after n ps

-- at most 500 are open anywhere
abbrev pub is_low : ℕ → List Part → Bool
is_low n [] = true
is_low n (blank c ∷ ps) = is_low n ps
is_low n (written t ∷ ps) = nat_le (opened t n) 500 && is_low (opened t n) ps
is_low n (quoted w ∷ ps) = nat_le n 500 && is_low n ps
is_low n (named_number i ∷ ps) = nat_le n 500 && is_low n ps
is_low n (quoted_number i ∷ ps) = nat_le n 500 && is_low n ps

pub low-shallow : (ps : List Part) (n at : ℕ) (more : ℕ → Stream) → is_low n ps ≡ true
    → IsShallow (open_after n ps) (more (place_after at ps))
    → IsShallow n (tokens_from at ps more)
low-shallow [] n at more h s = s
low-shallow (blank c ∷ ps) n at more h s = low-shallow ps n _ more h s
low-shallow (written t ∷ ps) n at more h s =
    let p = both_true (nat_le (opened t n) 500) (is_low (opened t n) ps) h in
    (leb-true (opened t n) 500 p.0, low-shallow ps (opened t n) _ more p.1 s)
low-shallow (quoted w ∷ ps) n at more h s =
    let p = both_true (nat_le n 500) (is_low n ps) h in
    (leb-true n 500 p.0, low-shallow ps n _ more p.1 s)
low-shallow (named_number i ∷ ps) n at more h s =
    let p = both_true (nat_le n 500) (is_low n ps) h in
    (leb-true n 500 p.0, low-shallow ps n _ more p.1 s)
low-shallow (quoted_number i ∷ ps) n at more h s =
    let p = both_true (nat_le n 500) (is_low n ps) h in
    (leb-true n 500 p.0, low-shallow ps n _ more p.1 s)
