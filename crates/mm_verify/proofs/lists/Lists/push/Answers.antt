use Rattle.std.proofs.Common.{rules, ◌≡◌, List, ℕ, [], ◌∷◌, ◌++◌, length, ◌∙◌, ap}
use Rattle.mm_verify.proofs.Cuts.{pushed_ends, pushed_cut}
use Rattle.mm_verify.proofs.lists.Lists.push.Goals as goal

symbols : (c : goal.After-unwrap)
    → c.extend_from_slice.new.self.items ≡ c.self.inside.symbols.items ++ c.args.list.now
symbols c = search rules

ends : (c : goal.After-unwrap)
    → c.push.new.self.items
    ≡ c.self.inside.ends.items ++ length c.extend_from_slice.new.self.items ∷ []
ends c = search rules

pub invariant_of-self-2 : goal.invariant_of-self-2
invariant_of-self-2 c =
    pushed_ends c.self.inside.symbols.items c.args.list.now _ c.self.inside.ends.items _
    (symbols c) (ends c) c.self.invariant

pub returns-clause-pushed : goal.returns-clause-pushed
returns-clause-pushed c =
    pushed_cut c.self.inside.symbols.items c.args.list.now _ c.self.inside.ends.items _
    (symbols c) (ends c) c.self.invariant
    ∙ ap (λ (l : List (List ℕ)). l ++ c.args.list.now ∷ []) c.self.view_is
