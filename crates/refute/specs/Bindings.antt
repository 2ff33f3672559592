-- The terms that comparing a pattern with a term comes to at a variable.
use Rattle.std.specs.Prelude.{◌≢◌, ◌≡◌, ℕ, List, Option, Some, None, All}
use Rattle.ml_pat.specs.Patterns.{Pattern as LogicPattern, imp}
use Rattle.ml_pat.specs.Patterns as logic
use Rattle.ml_pat.specs.Judgements.{substituted}
use Rattle.term_core.specs.Terms.{Tree, IsNormal}
use Rattle.ml_kernel.specs.Theorems.{Theorem}
use Rattle.term_core.specs.Patterns.{Pattern, variable, ground_pattern, binding}
use Rattle.rule_core.specs.Sorting.{HasSort, IsTermOf}
use Rattle.rule_core.specs.WellSorted.{HasNoCall}
use Rattle.rule_core.specs.declared.signature.Signature.{Signature}
use Rattle.ml_image.specs.Sentences.{Sentence, term, implies, equals, sentence_image}
use Rattle.prove_term.specs.Contexts.{Context, StaysIn}
use Rattle.refute.specs.Clashes.{ComesTo}
use Rattle.refute.specs.Refutations.{in_common}

-- a pattern without calls, and a normal term of its sort
pub record IsSortedPair (sig : Signature) (variables : List ℕ) (p : Pattern) (t : Tree) : Type 0
  where
    pub sort : ℕ
    pub left : HasSort sig variables p sort
    pub no_call : HasNoCall p
    pub right : IsTermOf sig t sort
    pub normal : IsNormal t

-- the same over a signature with these subsorts
pub record IsPairOver (pairs : List (ℕ × ℕ)) (p : Pattern) (t : Tree) : Type 0 where
  pub sig : Signature
  pub variables : List ℕ
  pub subsorts : sig.subsorts ≡ pairs
  pub pair : IsSortedPair sig variables p t

-- the term is not that one
abbrev pub IsOther : Option Tree → Tree → Type 0
IsOther None u = Unit {0}
IsOther (Some t) u = u ≢ t

-- the term is what comparing comes to at the variable, and is not `but`; or there is no such term
abbrev pub FindsBinding : List (ℕ × ℕ) → ℕ → Option Tree → Pattern → Tree → Option Tree → Type 0
FindsBinding pairs x but p t (Some u) = ComesTo pairs (variable x) u p t × IsOther but u
FindsBinding pairs x but p t None =
    (u : Tree) → ComesTo pairs (variable x) u p t → IsOther but u → ⊥

-- comparing comes to two different terms at the variable
pub record HasTwo (pairs : List (ℕ × ℕ)) (x : ℕ) (p : Pattern) (t : Tree) : Type 0 where
  pub first : Tree
  pub second : Tree
  pub comes_first : ComesTo pairs (variable x) first p t
  pub comes_second : ComesTo pairs (variable x) second p t
  pub differ : first ≢ second

-- the sentence that the variable equals the term, if the pattern and the term t have something in
-- common
abbrev pub equals_bound : ℕ → Tree → Sentence
equals_bound x u = equals (term (variable x)) (term (ground_pattern u))

abbrev pub bound_if_common : ℕ → Tree → Pattern → Tree → Sentence
bound_if_common x u p t = implies (in_common p t) (equals_bound x u)

-- r says that the sentence s holds if the hypothesis and the sentence w do; w is what a left side and
-- a term have in common
pub record SaysInCommon (cx : Context) (h : LogicPattern) (w s : Sentence) (r : LogicPattern)
    : Type 0 where
  pub common : LogicPattern
  pub is_common : sentence_image cx.program.sig cx.names w ≡ Some common
  pub image : LogicPattern
  pub is_image : sentence_image cx.program.sig cx.names s ≡ Some image
  pub says : r ≡ imp (logic.and h common) image

-- `h -> w -> x = p`, `h -> w -> x = q` and `~(p = q)`, where y can be replaced in the equation
pub record AreTwoBindings (y : ℕ) (one other differ : LogicPattern) : Type 0 where
  pub h : LogicPattern
  pub w : LogicPattern
  pub x : LogicPattern
  pub p : LogicPattern
  pub q : LogicPattern
  pub is_one : one ≡ imp h (imp w (logic.equal x p))
  pub is_other : other ≡ imp h (imp w (logic.equal x q))
  pub is_differ : differ ≡ logic.not (logic.equal p q)
  pub keeps : (u : LogicPattern) → substituted q y u ≡ Some q

-- `h -> ~w`, from `h -> w -> e`
abbrev pub IsDeniedByBoth : LogicPattern → LogicPattern → Type 0
IsDeniedByBoth one made =
    (h w e : LogicPattern) → one ≡ imp h (imp w e) → made ≡ imp h (logic.not w)

-- the theorem says this
pub record IsInverting (cx : Context) (h : LogicPattern) (w s : Sentence) (r : Theorem) : Type 0
  where
    pub says : SaysInCommon cx h w s r.conclusion
    pub stays : StaysIn cx r

-- comparing comes to each of the variables with its binding
abbrev pub AllCome : List (ℕ × ℕ) → List (Option Tree) → Pattern → Tree → List ℕ → Type 0
AllCome pairs theta p t xs =
    All (λ (x : ℕ). (u : Tree) × (binding theta x ≡ Some u) × ComesTo pairs (variable x) u p t) xs

-- `h -> w -> e` and `h & w -> p`
abbrev pub AreJoinable : LogicPattern → LogicPattern → Type 0
AreJoinable equation present =
    (h : LogicPattern) × (w : LogicPattern) × (e : LogicPattern) × (p : LogicPattern)
    × (equation ≡ imp h (imp w e)) × (present ≡ imp (logic.and h w) p)

-- `h & w -> e & p`
abbrev pub IsJoined : LogicPattern → LogicPattern → LogicPattern → Type 0
IsJoined equation present made =
    (h w e p : LogicPattern) → equation ≡ imp h (imp w e) → present ≡ imp (logic.and h w) p
    → made ≡ imp (logic.and h w) (logic.and e p)

-- `b = t` and `~(t = d)`, where y can be replaced in d
pub record CanSwitch (y : ℕ) (eq differ : LogicPattern) : Type 0 where
  pub b : LogicPattern
  pub t : LogicPattern
  pub d : LogicPattern
  pub is_eq : eq ≡ logic.equal b t
  pub is_differ : differ ≡ logic.not (logic.equal t d)
  pub keeps : (u : LogicPattern) → substituted d y u ≡ Some d

-- `~(b = d)`
abbrev pub IsSwitched : LogicPattern → LogicPattern → LogicPattern → Type 0
IsSwitched eq differ made =
    (b t d : LogicPattern) → eq ≡ logic.equal b t → differ ≡ logic.not (logic.equal t d)
    → made ≡ logic.not (logic.equal b d)
