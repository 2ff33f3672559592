-- What adding a declaration does to what scopes hold. Only clauses of private functions cite these
-- definitions.
use Rattle.std.specs.Prelude.{◌≡◌, ℕ, Bool, true, false, List, [], ◌∷◌, ◌++◌, length}
use Rattle.std.specs.Prelude.{take, slice_set, Option, Some, None}
use Rattle.mm_text.specs.Bytes.{Token}
use Rattle.mm_frame.specs.KnownNames.{Renames}
use Rattle.mm_frame.specs.Numbered.{NumberedHypothesis, NumberedFrame}
use Rattle.mm_scope.specs.ScopeState.{ScopeState, symbol, symbol_name}
use Rattle.mm_frame.specs.declared.names.Name.{Name}
use Rattle.mm_frame.specs.declared.names.Name.TheVariants.{Constant, Variable, Hypothesis}
use Rattle.mm_frame.specs.declared.names.Name.TheVariants.{Assertion}
use Rattle.mm_scope.specs.declared.scopes.OpenBlock.{OpenBlock}
use Rattle.mm_frame.specs.Grouping.{Extends}
use Rattle.mm_database.specs.Frames.{floating, essential, label_of}

abbrev pub AppendsSymbol : ScopeState → Token → Bool → ScopeState → Type 0
AppendsSymbol old token is_variable new = new ≡ record old {
  symbols = old.symbols ++ symbol token is_variable ∷ [];
  places = old.places ++ 0 ∷ [];
  types = old.types ++ 0 ∷ [];
}

pub record Names (old : ScopeState) (token : Token) (name : Name) (new : ScopeState) : Type 0 where
  pub names : Renames old.names token name new.names
  pub rest : new ≡ record old { names = new.names }

pub record AddsSymbol (old : ScopeState) (token : Token) (is_variable : Bool) (n : ℕ)
    (new : ScopeState) : Type 0 where
  pub number : n ≡ length old.symbols
  pub names : Renames old.names token (symbol_name is_variable n) new.names
  pub rest : new ≡ record old {
    names = new.names;
    symbols = old.symbols ++ symbol token is_variable ∷ [];
    places = old.places ++ 0 ∷ [];
    types = old.types ++ 0 ∷ [];
  }

abbrev pub Activates : ScopeState → ℕ → ScopeState → Type 0
Activates old n new = new ≡ record old {
  variables = old.variables ++ n ∷ [];
  places = slice_set old.places n (length old.variables);
}

-- the places of the `$f` of variables, after a hypothesis is added at a place
abbrev pub types_with : List ℕ → ℕ → NumberedHypothesis → List ℕ
types_with types place (floating label typecode variable) = slice_set types variable place
types_with types place (essential label statement) = types

pub record AddsHypothesis (old : ScopeState) (h : NumberedHypothesis) (new : ScopeState) :
    Type 0 where
  pub names : Renames old.names (label_of h) (Hypothesis (length old.hypotheses)) new.names
  pub rest : new ≡ record old {
    names = new.names;
    hypotheses = old.hypotheses ++ h ∷ [];
    types = types_with old.types (length old.hypotheses) h;
  }

pub record AddsDisjoint (old : ScopeState) (variables : List ℕ) (new : ScopeState) : Type 0 where
  pub groups : Extends old.disjoint variables new.disjoint
  pub rest : new ≡ record old { disjoint = new.disjoint }

pub record AddsAssertion (old : ScopeState) (f : NumberedFrame) (new : ScopeState) : Type 0 where
  pub names : Renames old.names f.label (Assertion (length old.frames)) new.names
  pub rest : new ≡ record old { names = new.names; frames = old.frames ++ f ∷ [] }

abbrev pub block_at : ScopeState → ℕ → OpenBlock
block_at h at = record {
  at = at;
  variables = length h.variables;
  hyps = length h.hypotheses;
  disjoint = length h.disjoint;
}

abbrev pub OpensBlock : ScopeState → ℕ → ScopeState → Type 0
OpensBlock old at new = new ≡ record old { blocks = old.blocks ++ block_at old at ∷ [] }

-- the innermost block, the last one, is removed with what became active in it
abbrev pub ClosesBlock : ScopeState → ScopeState → Option OpenBlock → Type 0
ClosesBlock old new None = (old.blocks ≡ []) × (new ≡ old)
ClosesBlock old new (Some block) = (old.blocks ≡ new.blocks ++ block ∷ []) × (new ≡ record old {
  variables = take block.variables old.variables;
  hypotheses = take block.hyps old.hypotheses;
  disjoint = take block.disjoint old.disjoint;
  blocks = new.blocks;
})

-- each token gets a number and the name of a constant
abbrev pub AddsConstants : ScopeState → List Token → ScopeState → Type 0
AddsConstants old [] new = new ≡ old
AddsConstants old (token ∷ tokens) new =
    (n : ℕ) × (mid : ScopeState) × AddsSymbol old token false n mid
    × AddsConstants mid tokens new

-- a variable gets a number if it is new, and becomes active
abbrev pub VariableStep : ScopeState → Token → Option Name → ScopeState → Type 0
VariableStep old token None new =
    (n : ℕ) × (mid : ScopeState) × AddsSymbol old token true n mid × Activates mid n new
VariableStep old token (Some (Variable n)) new = Activates old n new
VariableStep old token (Some (Constant n)) new = new ≡ old
VariableStep old token (Some (Hypothesis i)) new = new ≡ old
VariableStep old token (Some (Assertion i)) new = new ≡ old

abbrev pub AddsVariable : ScopeState → Token → ScopeState → Type 0
AddsVariable old token new = VariableStep old token (old.names token) new

abbrev pub AddsVariables : ScopeState → List Token → ScopeState → Type 0
AddsVariables old [] new = new ≡ old
AddsVariables old (token ∷ tokens) new =
    (mid : ScopeState) × AddsVariable old token mid × AddsVariables mid tokens new
