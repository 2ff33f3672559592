-- What scopes hold stands for what a database has declared. Names stand for its symbols and labels.
-- Numbers stand for symbols, under every naming that gives the numbers their tokens.
use Rattle.std.specs.Prelude.{◌≡◌, ℕ, ◌≤◌, Bool, true, false, List, [], ◌∷◌, map, length, take}
use Rattle.std.specs.Prelude.{reverse, slice_get, slice_index, Option, Some, None}
use Rattle.mm_text.specs.Bytes.{Token}
use Rattle.mm_database.specs.Frames.{Scope, Frame, floating, label_of}
use Rattle.mm_database.specs.Database.{Block, Context}
use Rattle.mm_frame.specs.Numbered.{NumberedHypothesis, NumberedFrame, IsNaming, named_hypothesis}
use Rattle.mm_frame.specs.Numbered.{IsNamedFrame}
use Rattle.mm_frame.specs.PlainFrames.{has_number, in_groups}
use Rattle.mm_scope.specs.ScopeState.{ScopeSymbol, ScopeState, symbol, symbol_name}
use Rattle.mm_frame.specs.declared.names.Name.{Name}
use Rattle.mm_frame.specs.declared.names.Name.TheVariants.{Constant, Variable, Hypothesis}
use Rattle.mm_frame.specs.declared.names.Name.TheVariants.{Assertion}
use Rattle.mm_scope.specs.declared.scopes.OpenBlock.{OpenBlock}

abbrev pub names_constant : Option Name → Bool
names_constant None = false
names_constant (Some (Constant n)) = true
names_constant (Some (Variable n)) = false
names_constant (Some (Hypothesis i)) = false
names_constant (Some (Assertion i)) = false

abbrev pub names_variable : Option Name → Bool
names_variable None = false
names_variable (Some (Constant n)) = false
names_variable (Some (Variable n)) = true
names_variable (Some (Hypothesis i)) = false
names_variable (Some (Assertion i)) = false

abbrev pub names_label : Option Name → Bool
names_label None = false
names_label (Some (Constant n)) = false
names_label (Some (Variable n)) = false
names_label (Some (Hypothesis i)) = true
names_label (Some (Assertion i)) = true

-- if the token names a symbol, the symbol with that number has this token
abbrev pub SymbolStands : List ScopeSymbol → Token → Option Name → Type 0
SymbolStands symbols token None = Unit {0}
SymbolStands symbols token (Some (Constant n)) = slice_get symbols n ≡ Some (symbol token false)
SymbolStands symbols token (Some (Variable n)) = slice_get symbols n ≡ Some (symbol token true)
SymbolStands symbols token (Some (Hypothesis i)) = Unit {0}
SymbolStands symbols token (Some (Assertion i)) = Unit {0}

-- the naming gives each symbol its token
abbrev pub NamesSymbols : (ℕ → Token) → List ScopeSymbol → Type 0
NamesSymbols name symbols =
    (n : ℕ) (s : ScopeSymbol) → slice_get symbols n ≡ Some s → name n ≡ s.token

-- the lists of what is active stand for a scope
pub record ScopeStands (name : ℕ → Token) (declared : Token → Bool) (vs : List ℕ)
    (hs : List NumberedHypothesis) (ds : List (List ℕ)) (scope : Scope) : Type 0 where
  pub only : (t : Token) → declared t ≡ false → scope.variables t ≡ false
  pub active : (n : ℕ) → scope.variables (name n) ≡ has_number vs n
  pub typed : scope.hypotheses ≡ map (named_hypothesis name) hs
  pub separate : (a b : ℕ) → scope.apart (name a) (name b) ≡ in_groups ds a b

-- the lists, cut at the start of each block, stand for what was active outside it; innermost block
-- first
abbrev pub BlocksStand : (ℕ → Token) → (Token → Bool) → List ℕ → List NumberedHypothesis
    → List (List ℕ) → List OpenBlock → List Block → Type 0
BlocksStand name declared vs hs ds [] [] = Unit {0}
BlocksStand name declared vs hs ds [] (block ∷ blocks) = ⊥
BlocksStand name declared vs hs ds (o ∷ os) [] = ⊥
BlocksStand name declared vs hs ds (o ∷ os) (block ∷ blocks) =
    (block.at ≡ o.at) × (o.variables ≤ length vs) × (o.hyps ≤ length hs) × (o.disjoint ≤ length ds)
    × ScopeStands name declared (take o.variables vs) (take o.hyps hs) (take o.disjoint ds)
    block.outside
    × BlocksStand name declared (take o.variables vs) (take o.hyps hs) (take o.disjoint ds) os
    blocks

-- if the token names an assertion, the frame with that number stands for its frame; else it has no
-- frame
abbrev pub FrameStands : (ℕ → Token) → List NumberedFrame → Option Name → Option Frame → Type 0
FrameStands name frames None frame = frame ≡ None
FrameStands name frames (Some (Constant n)) frame = frame ≡ None
FrameStands name frames (Some (Variable n)) frame = frame ≡ None
FrameStands name frames (Some (Hypothesis i)) frame = frame ≡ None
FrameStands name frames (Some (Assertion i)) frame =
    (n : NumberedFrame) × (f : Frame) × (slice_get frames i ≡ Some n) × (frame ≡ Some f)
    × IsNamedFrame name n f

pub record StandsUnder (name : ℕ → Token) (h : ScopeState) (c : Context) : Type 0 where
  pub scope : ScopeStands name c.variables h.variables h.hypotheses h.disjoint c.scope
  pub blocks : BlocksStand name c.variables h.variables h.hypotheses h.disjoint (reverse h.blocks)
      c.blocks
  pub frames : (t : Token) → FrameStands name h.frames (h.names t) (c.frames t)

pub record Stands (h : ScopeState) (c : Context) : Type 0 where
  pub constants : (t : Token) → c.constants t ≡ names_constant (h.names t)
  pub variables : (t : Token) → c.variables t ≡ names_variable (h.names t)
  pub labels : (t : Token) → c.labels t ≡ names_label (h.names t)
  pub numbered : (t : Token) → SymbolStands h.symbols t (h.names t)
  pub named : (n : ℕ) (s : ScopeSymbol) → slice_get h.symbols n ≡ Some s
      → h.names s.token ≡ Some (symbol_name s.is_variable n)
  pub many_places : length h.places ≡ length h.symbols
  pub many_types : length h.types ≡ length h.symbols
  pub placed : (i v : ℕ) → slice_get h.variables i ≡ Some v → slice_index h.places v ≡ i
  pub typed : (i : ℕ) (l : Token) (k v : ℕ) → slice_get h.hypotheses i ≡ Some (floating l k v)
      → slice_index h.types v ≡ i
  pub labelled : (i : ℕ) (x : NumberedHypothesis) → slice_get h.hypotheses i ≡ Some x
      → h.names (label_of x) ≡ Some (Hypothesis i)
  pub under : (name : ℕ → Token) → IsNaming name → NamesSymbols name h.symbols
      → StandsUnder name h c

-- a fact holds of each context that the scopes stand for, under each naming of their symbols
abbrev pub Tells : ScopeState → (Context → (ℕ → Token) → Type 0) → Type 0
Tells h Fact = (c : Context) (name : ℕ → Token) → Stands h c → IsNaming name
    → NamesSymbols name h.symbols → Fact c name

-- the frame of numbers stands for the frame of tokens, or there is neither
abbrev pub FrameFound : (ℕ → Token) → Option NumberedFrame → Option Frame → Type 0
FrameFound name None frame = frame ≡ None
FrameFound name (Some n) frame = (f : Frame) × (frame ≡ Some f) × IsNamedFrame name n f
