-- Chains of parts.
use Rattle.std.proofs.Common.{◌≡◌, ℕ, ◌+◌, ◌<◌, ◌≤◌, ◌⊎◌, inl, inr, List, [], ◌∷◌, ◌++◌, length}
use Rattle.std.proofs.Common.{get_or, Some, refl, sym, ap, ◌∙◌, subst, arith}
use Rattle.std.specs.Prelude.{slice_get}
use Rattle.std.proofs.lemmas.List.{length-append, get_or_append_left}
use Rattle.std.proofs.lemmas.Option.{get_or_from_slice_get}
use Rattle.proof_nodes.specs.Tables.{grown}
use Rattle.proof_nodes.specs.Links.{Link, linked, chains_of, parts_of, AreLinks, Gains}
use Rattle.proof_nodes.specs.Links.{KeepsChains}
use Rattle.proof_nodes.proofs.Growing.{slice_get-push, grown-push, length-grown, grown-at}

length-chains : (links : List Link) → length (chains_of links) ≡ 1 + length links
length-chains links = length-grown linked ([] ∷ []) links

parts_of-push : (links : List Link) (link : Link) (chain : ℕ) → chain ≤ length links
    → parts_of (links ++ link ∷ []) chain ≡ parts_of links chain
parts_of-push links link chain le =
    let lt : chain < length (chains_of links) = omega (arith, le, length-chains links) in
    ap (λ cs. get_or cs chain []) (grown-push linked ([] ∷ []) links link)
    ∙ get_or_append_left (chains_of links) (linked (chains_of links) link ∷ []) [] chain lt

linked-stable : (made more : List (List ℕ)) (link : Link) → link.0 < length made
    → linked (made ++ more) link ≡ linked made link
linked-stable made more link lt =
    ap (λ ns. ns ++ link.1 ∷ []) (get_or_append_left made more [] link.0 lt)

-- what the chain of a link is
pub parts_of-link : (links : List Link) (i : ℕ) (link : Link) → AreLinks links
    → slice_get links i ≡ Some link
    → parts_of links (i + 1) ≡ parts_of links link.0 ++ link.1 ∷ []
parts_of-link links i link are is =
    let le : link.0 ≤ i = are i link is in
    get_or_from_slice_get (chains_of links) (i + 1) _ []
    (grown-at linked (λ n l. l.0 < n) linked-stable ([] ∷ []) links i (i + 1) link (omega arith)
    (omega (arith, le)) is)

pub kept_chains : (link : Link) (old new : List Link) → Gains link old new → KeepsChains old new
kept_chains link old new (inl same) = (
  let e : length new ≡ length old = ap length same in omega (arith, e),
  λ chain le. ap (λ ls. parts_of ls chain) same,
)
kept_chains link old new (inr more) = (
  let e : length new ≡ length old + 1 = ap length more ∙ length-append old (link ∷ []) in
      omega (arith, e),
  λ chain le. ap (λ ls. parts_of ls chain) more ∙ parts_of-push old link chain le,
)

pub kept_twice : (old mid new : List Link) → KeepsChains old mid → KeepsChains mid new
    → KeepsChains old new
kept_twice old mid new h k =
    let a : length old ≤ length mid = h.0 in
    let b : length mid ≤ length new = k.0 in
    (omega (arith, a, b), λ chain le. k.1 chain (omega (arith, a, le)) ∙ h.1 chain le)

pub kept_same : (links : List Link) → KeepsChains links links
kept_same links = (omega arith, λ chain le. refl)

in_more : (link : Link) (old : List Link) (i : ℕ) (other : Link) → AreLinks old
    → link.0 ≤ length old
    → (slice_get old i ≡ Some other) ⊎ ((i ≡ length old) × (link ≡ other)) → other.0 ≤ i
in_more link old i other are le (inl p) = are i other p
in_more link old i other are le (inr p) =
    let same : link.0 ≡ other.0 = ap (λ (l : Link). l.0) p.1 in
    let at : i ≡ length old = p.0 in
    omega (arith, le, same, at)

pub links_more : (link : Link) (old new : List Link) → AreLinks old → link.0 ≤ length old
    → Gains link old new → AreLinks new
links_more link old new are le (inl same) = subst AreLinks (sym same) are
links_more link old new are le (inr more) =
    subst AreLinks (sym more)
    (λ i other is. in_more link old i other are le (slice_get-push old link i other is))

pub next_parts : (old new : List Link) (chain part i : ℕ) → AreLinks new
    → slice_get new i ≡ Some (chain, part) → KeepsChains old new → chain ≤ length old
    → parts_of new (i + 1) ≡ parts_of old chain ++ part ∷ []
next_parts old new chain part i are is kept le =
    parts_of-link new i (chain, part) are is ∙ ap (λ ns. ns ++ part ∷ []) (kept.1 chain le)

-- the chain 0
pub no_parts : (links : List Link) → parts_of links 0 ≡ []
no_parts links = by links [] []
  where
    by : (ls : List Link) (first : List ℕ) (made : List (List ℕ))
        → get_or (grown linked (first ∷ made) ls) 0 [] ≡ first
    by [] first made = refl
    by (l ∷ ls) first made = by ls first (made ++ linked (first ∷ made) l ∷ [])
