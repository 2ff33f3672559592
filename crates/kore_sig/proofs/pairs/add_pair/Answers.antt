use Rattle.std.proofs.Common.{◌∙◌, ap, sym, ℕ, [], ◌∷◌, ◌++◌, arith, inl, Bool, cond, min}
use Rattle.kore_ast.specs.Plain.{plain_sort}
use Rattle.kore_sig.specs.Refusals.{fault_at}
use Rattle.kore_sig.specs.SortReferences.{sort_place}
use Rattle.kore_sig.proofs.PairLaws.{number_of_sort, lower_fault, upper_fault, earlier_fault}
use Rattle.kore_sig.proofs.PairLaws.{first_unknown_sort, first_cycle, passes_pair}
use Rattle.kore_sig.proofs.pairs.add_pair.Goals as goal

pub overflow_cast-a : goal.overflow_cast-a
overflow_cast-a c =
    omega (
      arith,
      number_of_sort c.args.sorts.now (plain_sort c.args.lower.now) c.in-Some-Some.a
          (sym c.in-Some-Some.ensures),
      c.requires,
    )

pub overflow_cast-b : goal.overflow_cast-b
overflow_cast-b c =
    omega (
      arith,
      number_of_sort c.args.sorts.now (plain_sort c.args.upper.now) c.in-Some-Some.b
          (sym c.in-Some-Some.ensures'),
      c.requires,
    )

pub returns-then-branch-clause-passes : goal.returns-then-branch-clause-passes
returns-then-branch-clause-passes c =
    passes_pair c.args.sorts.now c.args.subsorts.now c.add.new.self (record {
      at = c.args.at;
      lower = plain_sort c.args.lower.now;
      upper = plain_sort c.args.upper.now;
    })
    c.in-Some-Some.a c.in-Some-Some.b (sym c.in-Some-Some.ensures) (sym c.in-Some-Some.ensures')
    (c.in_ok-add-in-Some-Some.ensures.fresh.0 c.if-branch.true)
    (c.in_ok-add-in-Some-Some.ensures.pairs
    ∙ ap (λ (b : Bool). cond b
    (c.args.subsorts.now ++ (c.in-Some-Some.a, c.in-Some-Some.b) ∷ [])
    c.args.subsorts.now) c.if-branch.true)

pub returns-else-branch-clause-refused : goal.returns-else-branch-clause-refused
returns-else-branch-clause-refused c =
    λ rest. inl (first_cycle c.args.sorts.now c.args.subsorts.now (record {
      at = c.args.at;
      lower = plain_sort c.args.lower.now;
      upper = plain_sort c.args.upper.now;
    })
    c.in-Some-Some.a c.in-Some-Some.b (sym c.in-Some-Some.ensures) (sym c.in-Some-Some.ensures')
    (λ fine.
    (let told = c.in_ok-add-in-Some-Some.ensures.fresh.1 fine in let never : ⊥ = cc in never)))

pub returns-in-Some-None-clause-refused : goal.returns-in-Some-None-clause-refused
returns-in-Some-None-clause-refused c =
    λ rest. inl (first_unknown_sort c.args.sorts.now c.args.subsorts.now (record {
      at = c.args.at;
      lower = plain_sort c.args.lower.now;
      upper = plain_sort c.args.upper.now;
    })
    c.sort_place.result
    (upper_fault c.args.sorts.now (plain_sort c.args.lower.now) (plain_sort c.args.upper.now)
    c.in-Some-None.field-0-0 (sym c.in-Some-None.ensures) (sym c.in-Some-None.ensures')
    ∙ ap (fault_at 6) (sym c.sort_place.ensures)))

pub returns-in-None-Some-clause-refused : goal.returns-in-None-Some-clause-refused
returns-in-None-Some-clause-refused c =
    λ rest. inl (first_unknown_sort c.args.sorts.now c.args.subsorts.now (record {
      at = c.args.at;
      lower = plain_sort c.args.lower.now;
      upper = plain_sort c.args.upper.now;
    })
    c.sort_place-in-None-Some.result
    (lower_fault c.args.sorts.now (plain_sort c.args.lower.now) (plain_sort c.args.upper.now)
    c.in-None-Some.field-0-1 (sym c.sort_number.ensures ∙ c.in-None-Some.is-0)
    (sym c.sort_number-2.ensures ∙ c.in-None-Some.is-1)
    ∙ ap (fault_at 6) (sym c.sort_place-in-None-Some.ensures)))

pub returns-in-None-None-clause-refused : goal.returns-in-None-None-clause-refused
returns-in-None-None-clause-refused c =
    λ rest. inl (first_unknown_sort c.args.sorts.now c.args.subsorts.now (record {
      at = c.args.at;
      lower = plain_sort c.args.lower.now;
      upper = plain_sort c.args.upper.now;
    }) c.min.result
    (earlier_fault c.args.sorts.now (plain_sort c.args.lower.now) (plain_sort c.args.upper.now)
    (sym c.sort_number.ensures ∙ c.in-None-None.is-0)
    (sym c.sort_number-2.ensures ∙ c.in-None-None.is-1)
    ∙ ap (λ (n : ℕ). fault_at 6 (min n (sort_place (plain_sort c.args.upper.now))))
    (sym c.sort_place-in-None-None.ensures)
    ∙ ap (λ (n : ℕ). fault_at 6 (min c.sort_place-in-None-None.result n))
    (sym c.sort_place-in-None-None-2.ensures)
    ∙ ap (fault_at 6) (sym c.min.ensures)))
