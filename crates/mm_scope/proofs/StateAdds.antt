-- What adding a symbol and closing a block do, step by step.
use Rattle.std.proofs.Common.{◌≡◌, ℕ, Bool, List, length, take, sym, ap, ◌∙◌, subst}
use Rattle.mm_text.specs.Bytes.{Token}
use Rattle.mm_frame.specs.Numbered.{NumberedHypothesis}
use Rattle.mm_scope.specs.ScopeState.{ScopeState, symbol_name}
use Rattle.mm_scope.specs.StateSteps.{AppendsSymbol, Names, AddsSymbol}
use Rattle.mm_scope.specs.declared.scopes.OpenBlock.{OpenBlock}

pub adds-symbol : (old mid new : ScopeState) (token : Token) (b : Bool) (n : ℕ)
    → n ≡ length old.symbols → AppendsSymbol old token b mid → Names mid token (symbol_name b n) new
    → AddsSymbol old token b n new
adds-symbol old mid new token b n size grown =
    subst (λ (m : ScopeState). Names m token (symbol_name b n) new → AddsSymbol old token b n new)
    (sym grown) (λ (named : Names _ token (symbol_name b n) new).
    record { number = size; names = named.names; rest = named.rest })

-- the lists of what is active, cut
pub cut : (old : ScopeState) (vs vs' : List ℕ) (hs hs' : List NumberedHypothesis)
    (ds ds' : List (List ℕ)) (outer : List OpenBlock) (a b d : ℕ) → vs' ≡ take a vs
    → hs' ≡ take b hs → ds' ≡ take d ds
    → record old { variables = vs'; hypotheses = hs'; disjoint = ds'; blocks = outer }
    ≡ record old {
      variables = take a vs;
      hypotheses = take b hs;
      disjoint = take d ds;
      blocks = outer;
    }
cut old vs vs' hs hs' ds ds' outer a b d e f g =
    ap (λ (xs : List ℕ).
    record old { variables = xs; hypotheses = hs'; disjoint = ds'; blocks = outer }) e
    ∙ ap (λ (xs : List NumberedHypothesis).
    record old { variables = take a vs; hypotheses = xs; disjoint = ds'; blocks = outer }) f
    ∙ ap (λ (xs : List (List ℕ)). record old {
      variables = take a vs;
      hypotheses = take b hs;
      disjoint = xs;
      blocks = outer;
    }) g
