-- What scopes hold: what each token names, the symbols by their numbers, and lists of what is
-- active.
use Rattle.std.specs.Prelude.{ℕ, Bool, List, map, Option, if◌then◌else◌}
use Rattle.mm_text.specs.Bytes.{Token}
use Rattle.mm_frame.specs.Numbered.{NumberedHypothesis, NumberedFrame}
use Rattle.mm_frame.specs.PlainFrames.{plain_frame}
use Rattle.mm_frame.specs.DisjointView.{groups_in}
use Rattle.mm_frame.specs.HypothesesView.{hypotheses_in}
use Rattle.mm_frame.specs.NamesView.{names_in}
use Rattle.mm_frame.specs.declared.names.Name.{Name}
use Rattle.mm_scope.specs.declared.scopes.Symbol.{Symbol}
use Rattle.mm_scope.specs.declared.scopes.OpenBlock.{OpenBlock}
use Rattle.mm_scope.specs.declared.scopes.Scopes.{Scopes}
use Rattle.mm_frame.specs.declared.names.Name.TheVariants.{Constant, Variable}

pub record ScopeSymbol : Type 0 where
  pub token : Token
  pub is_variable : Bool

pub record ScopeState : Type 0 where
  pub names : Token → Option Name
  pub symbols : List ScopeSymbol
  pub places : List ℕ
  pub types : List ℕ
  pub variables : List ℕ
  pub hypotheses : List NumberedHypothesis
  pub disjoint : List (List ℕ)
  pub blocks : List OpenBlock
  pub frames : List NumberedFrame

abbrev pub plain_symbol : Symbol → ScopeSymbol
plain_symbol s = record { token = s.token.now; is_variable = s.is_variable }

abbrev pub named : Scopes → Token → Option Name
named s token = names_in s.names token

abbrev pub scope_state : Scopes → ScopeState
scope_state s = record {
  names = named s;
  symbols = map plain_symbol s.symbols.items;
  places = s.places.items;
  types = s.types.items;
  variables = s.variables.items;
  hypotheses = hypotheses_in s.hyps;
  disjoint = groups_in s.disjoint;
  blocks = s.blocks.items;
  frames = map plain_frame s.frames.items;
}

abbrev pub symbol_name : Bool → ℕ → Name
symbol_name is_variable n = if is_variable then Variable n else Constant n

abbrev pub symbol : Token → Bool → ScopeSymbol
symbol token is_variable = record { token = token; is_variable = is_variable }
