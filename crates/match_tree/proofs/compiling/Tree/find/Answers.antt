use Rattle.std.proofs.Common.{◌++◌, ◌∙◌, ℕ, [], sym, refl, subst}
use Rattle.std.proofs.lemmas.Bool.{false≢true}
use Rattle.match_tree.specs.Finding.{BeginsAt}
use Rattle.match_tree.specs.SlotView.{FindsFirst}
use Rattle.match_tree.specs.declared.slots.NodeNo.{NodeNo}
use Rattle.match_tree.proofs.FindLaws.{looks_once, reached_gives, tried_gives}
use Rattle.match_tree.proofs.WalkEnds.{start_is}
use Rattle.match_tree.proofs.compiling.Tree.find.Goals as goal

pub descend-requires-clause-tree : goal.descend-requires-clause-tree
descend-requires-clause-tree g c =
    c.requires.tree

pub descend-requires-clause-wide : goal.descend-requires-clause-wide
descend-requires-clause-wide g c =
    c.requires.wide

pub descend-requires-in-Node-clause-tree : goal.descend-requires-in-Node-clause-tree
descend-requires-in-Node-clause-tree g c =
    c.requires.tree

pub descend-requires-in-Node-clause-wide : goal.descend-requires-in-Node-clause-wide
descend-requires-in-Node-clause-wide g c =
    c.requires.wide

pub try_rows-requires-clause-tree : goal.try_rows-requires-clause-tree
try_rows-requires-clause-tree g c =
    c.requires.tree

pub try_rows-requires-clause-wide : goal.try_rows-requires-clause-wide
try_rows-requires-clause-wide g c =
    c.requires.wide

pub descend-requires-clause-room : goal.descend-requires-clause-room
descend-requires-clause-room g c =
    tt

pub descend-requires-in-Node-clause-room : goal.descend-requires-in-Node-clause-room
descend-requires-in-Node-clause-room g c =
    tt

pub descend-requires-clause-way : goal.descend-requires-clause-way
descend-requires-clause-way g c =
    ([], tt, refl)

pub descend-requires-in-Node-clause-way : goal.descend-requires-in-Node-clause-way
descend-requires-in-Node-clause-way g c =
    let B : NodeNo → Type 0 = λ no. BeginsAt c.args.self.now c.args.subjects.now no c.requires.begins.0 in
    let begins = subst B c.in-Node.is c.requires.begins.1 in
    (begins.0.0, tt, begins.0.1)

pub returns-in-Start-clause-first : goal.returns-in-Start-clause-first
returns-in-Start-clause-first g c =
    λ first begins.
    let B : NodeNo → Type 0 = λ no. BeginsAt c.args.self.now c.args.subjects.now no first in
    let F : ℕ → Type 0 = λ n. FindsFirst c.args.self.now c.args.subjects.now n c.descend.result in
    subst F (subst B c.in-Start.is begins)
    (c.descend.ensures.first 0 (start_is c.args.self.now c.requires.tree))

pub returns-in-Node-clause-first : goal.returns-in-Node-clause-first
returns-in-Node-clause-first g c =
    λ first begins.
    let B : NodeNo → Type 0 = λ no. BeginsAt c.args.self.now c.args.subjects.now no first in
    c.descend-in-Node.ensures.first first (subst B c.in-Node.is begins).1

pub returns-in-Rows-clause-first : goal.returns-in-Rows-clause-first
returns-in-Rows-clause-first g c =
    λ first begins.
    let B : NodeNo → Type 0 = λ no. BeginsAt c.args.self.now c.args.subjects.now no first in
    let F : ℕ → Type 0 = λ n. FindsFirst c.args.self.now c.args.subjects.now n c.try_rows.result in
    subst F (subst B c.in-Rows.is begins).1 c.try_rows.ensures.first

pub returns-in-Start-clause-on : goal.returns-in-Start-clause-on
returns-in-Start-clause-on g c =
    let reaches = c.descend.ensures.reaches in
    reached_gives c.args.self.now c.args.subjects.now (reaches.1.path ++ reaches.1.more)
    c.descend.result c.requires.tree reaches.2

pub returns-in-Start-clause-looks : goal.returns-in-Start-clause-looks
returns-in-Start-clause-looks g c =
    λ none. looks_once c.args.self.now c.args.subjects.now _ _ c.args.steps.now c.descend.new.steps
    c.descend.result c.requires.tree c.requires.wide none c.descend.ensures.reaches

pub returns-in-Node-clause-on : goal.returns-in-Node-clause-on
returns-in-Node-clause-on g c =
    let reaches = c.descend-in-Node.ensures.reaches in
    reached_gives c.args.self.now c.args.subjects.now (reaches.1.path ++ reaches.1.more)
    c.descend-in-Node.result c.requires.tree reaches.2

pub returns-in-Node-clause-looks : goal.returns-in-Node-clause-looks
returns-in-Node-clause-looks g c =
    λ none. looks_once c.args.self.now c.args.subjects.now _ _ c.args.steps.now c.descend-in-Node.new.steps
    c.descend-in-Node.result c.requires.tree c.requires.wide none c.descend-in-Node.ensures.reaches

pub returns-in-Rows-clause-on : goal.returns-in-Rows-clause-on
returns-in-Rows-clause-on g c =
    let B : NodeNo → Type 0 = λ no. BeginsAt c.args.self.now c.args.subjects.now no c.requires.begins.0 in
    let begins = subst B c.in-Rows.is c.requires.begins.1 in
    tried_gives c.args.self.now c.args.subjects.now c.in-Rows.row c.try_rows.result begins.0
    c.try_rows.ensures.tried

pub returns-in-Rows-clause-looks : goal.returns-in-Rows-clause-looks
returns-in-Rows-clause-looks g c =
    let B : NodeNo → Type 0 = λ no. BeginsAt c.args.self.now c.args.subjects.now no c.requires.begins.0 in
    let begins = subst B c.in-Rows.is c.requires.begins.1 in
    λ none. absurd (false≢true (sym none ∙ begins.0))
