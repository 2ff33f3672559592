use Rattle.std.proofs.Common.{arith, subst}
use Rattle.std.proofs.lemmas.List.{length-map}
use Rattle.mm_scope.specs.ScopeState.{scope_state, plain_symbol}
use Rattle.mm_scope.specs.StateSteps.{Names}
use Rattle.mm_frame.specs.declared.names.Name.{Name}
use Rattle.mm_scope.proofs.StateAdds.{adds-symbol}
use Rattle.mm_scope.proofs.scopes.Scopes.add_symbol.Goals as goal

pub returns : goal.returns
returns c =
    adds-symbol (scope_state c.args.self.now) (scope_state c.push_symbol.new.self)
    (scope_state c.rename.new.self) c.args.word.now c.args.is_variable c.in-Ok.n
    (omega (
      arith,
      length-map c.args.self.now.symbols.items plain_symbol,
      c.in-Ok.ensures,
      c.len.ensures,
    ))
    c.in_ok-push_symbol.ensures
    (subst (λ (x : Name). Names (scope_state c.push_symbol.new.self) c.args.word.now x
    (scope_state c.rename.new.self)) c.symbol_name.ensures c.in_ok-rename.ensures)
