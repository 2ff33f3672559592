use Rattle.std.proofs.Common.{arith, subst, ◌≡◌, ◌≤◌, List, ℕ, take, length, ap, sym, ◌∙◌}
use Rattle.std.proofs.lemmas.List.{length-take-le}
use Rattle.mm_verify.specs.Cut.{cut, AreEnds, start_of}
use Rattle.mm_verify.proofs.Cuts.{AreEnds-take, cut-take, start_high, length_cut}
use Rattle.mm_verify.proofs.lists.Lists.truncate.Goals as goal

within : (c : goal.After-truncate-2) → c.args.n ≤ length c.self.inside.ends.items
within c =
    omega (
      arith,
      c.requires,
      ap (λ (l : List (List ℕ)). length l) c.self.view_is,
      length_cut c.self.inside.symbols.items 0 c.self.inside.ends.items,
    )

end : (c : goal.After-truncate-2)
    → c.start-end.result ≡ start_of 0 c.self.inside.ends.items c.args.n
end c = c.start-end.ensures ∙ ap (λ (l : List ℕ). start_of 0 l c.args.n) c.deref.ensures.value

pub invariant_of-self : goal.invariant_of-self
invariant_of-self c =
    let high =
    start_high (length c.self.inside.symbols.items) 0 c.self.inside.ends.items c.args.n
    c.self.invariant (within c) in
    let kept : length c.truncate.new.self.items ≡ c.start-end.result =
    ap (λ (l : List ℕ). length l) c.truncate.ensures.items
    ∙ length-take-le c.start-end.result c.self.inside.symbols.items
    (omega (arith, high, end c)) in
    subst (λ (l : List ℕ). AreEnds (length c.truncate.new.self.items) 0 l)
    (sym c.truncate-2.ensures.items)
    (AreEnds-take (length c.self.inside.symbols.items) 0 c.self.inside.ends.items c.args.n
    (length c.truncate.new.self.items) (kept ∙ end c) c.self.invariant (within c))

pub returns : goal.returns
returns c =
    ap (λ (l : List ℕ). cut c.truncate.new.self.items 0 l) c.truncate-2.ensures.items
    ∙ ap (λ (l : List ℕ). cut l 0 (take c.args.n c.self.inside.ends.items)) c.truncate.ensures.items
    ∙ cut-take c.self.inside.symbols.items 0 c.self.inside.ends.items c.args.n c.start-end.result
    (end c) c.self.invariant (within c)
    ∙ ap (λ (l : List (List ℕ)). take c.args.n l) c.self.view_is
