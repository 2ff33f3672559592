use Rattle.match_tree.proofs.KeptLaws.{row_scoped, row_count, row_binds, row_bound, row_found}
use Rattle.match_tree.proofs.compiling.Tree.bindings.Goals as goal

pub bind_row-requires-clause-scoped : goal.bind_row-requires-clause-scoped
bind_row-requires-clause-scoped g c =
    row_scoped c.row-patterns.result.now _ c.in_ok-subst.subst c.args.vars c.row-patterns.ensures
    c.in_ok-subst.ensures c.requires.scoped

pub bind_row-requires-clause-count : goal.bind_row-requires-clause-count
bind_row-requires-clause-count g c =
    row_count c.args.self.now c.args.subjects.now c.args.row c.row-patterns.result.now
    c.requires.matches c.row-patterns.ensures

pub bind_row-requires-clause-matches : goal.bind_row-requires-clause-matches
bind_row-requires-clause-matches g c =
    row_binds c.args.self.now c.args.subjects.now c.args.row c.args.vars
    c.subsorts-subsorts.result.now c.row-patterns.result.now c.in_ok-subst.subst
    c.requires.matches c.requires.scoped c.subsorts-subsorts.ensures
    c.row-patterns.ensures c.in_ok-subst.ensures

pub returns-clause-matches : goal.returns-clause-matches
returns-clause-matches g c =
    row_bound c.args.self.now c.args.subjects.now c.args.row c.args.vars
    c.subsorts-subsorts.result.now c.row-patterns.result.now c.in_ok-subst.subst
    c.bind_row.new.subst c.subsorts-subsorts.ensures c.row-patterns.ensures
    c.in_ok-subst.ensures c.in_ok-bind_row.ensures

pub returns-clause-found : goal.returns-clause-found
returns-clause-found g c =
    row_found c.args.self.now c.args.subjects.now c.args.row c.args.vars c.bind_row.new.subst
    c.highest-high.ensures.normal
    (row_bound c.args.self.now c.args.subjects.now c.args.row c.args.vars
    c.subsorts-subsorts.result.now c.row-patterns.result.now c.in_ok-subst.subst
    c.bind_row.new.subst c.subsorts-subsorts.ensures c.row-patterns.ensures
    c.in_ok-subst.ensures c.in_ok-bind_row.ensures)
