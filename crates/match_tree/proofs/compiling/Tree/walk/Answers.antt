use Rattle.std.proofs.Common.{◌+◌, ◌++◌, ◌∙◌, ℕ, List, [], length, ap, sym, refl, subst}
use Rattle.std.proofs.Common.{arith}
use Rattle.std.proofs.lemmas.Bool.{false≢true}
use Rattle.std.proofs.lemmas.List.{append-nil}
use Rattle.match_tree.specs.TreeView.{nodes_of}
use Rattle.match_tree.specs.SlotView.{CanBegin, FindsFirst, AreNew, first_row, path_before}
use Rattle.match_tree.specs.SlotView.{kept_positions}
use Rattle.match_tree.specs.declared.slots.NodeNo.{NodeNo}
use Rattle.match_tree.specs.declared.slots.NodeNo.TheVariants as place
use Rattle.match_tree.specs.declared.slots.Hit.{Hit}
use Rattle.match_tree.proofs.ArmLaws.{some_tries, tried_reached}
use Rattle.match_tree.specs.Asking.{AreAskedInTurn}
use Rattle.match_tree.proofs.OnceLaws.{tested_once}
use Rattle.match_tree.proofs.AskedLaws.{tested_asked}
use Rattle.match_tree.proofs.PassLaws.{extends}
use Rattle.match_tree.proofs.WalkEnds.{start_is, keeps_by, resumed_at, hit_starts, tried_lower}
use Rattle.match_tree.proofs.compiling.Tree.walk.Goals as goal

pub descend-hit-requires-clause-tree : goal.descend-hit-requires-clause-tree
descend-hit-requires-clause-tree g c =
    c.requires.tree

pub descend-hit-requires-clause-wide : goal.descend-hit-requires-clause-wide
descend-hit-requires-clause-wide g c =
    c.requires.wide

pub descend-hit-requires-in-Node-clause-tree : goal.descend-hit-requires-in-Node-clause-tree
descend-hit-requires-in-Node-clause-tree g c =
    c.requires.tree

pub descend-hit-requires-in-Node-clause-wide : goal.descend-hit-requires-in-Node-clause-wide
descend-hit-requires-in-Node-clause-wide g c =
    c.requires.wide

pub try_rows-hit-requires-clause-tree : goal.try_rows-hit-requires-clause-tree
try_rows-hit-requires-clause-tree g c =
    c.requires.tree

pub try_rows-hit-requires-clause-wide : goal.try_rows-hit-requires-clause-wide
try_rows-hit-requires-clause-wide g c =
    c.requires.wide

pub descend-hit-requires-clause-room : goal.descend-hit-requires-clause-room
descend-hit-requires-clause-room g c =
    omega (arith, c.requires.room, c.clear.ensures.room)

pub descend-hit-requires-clause-way : goal.descend-hit-requires-clause-way
descend-hit-requires-clause-way g c =
    ([], c.clear.ensures.path, refl)

pub descend-hit-requires-in-Node-clause-room : goal.descend-hit-requires-in-Node-clause-room
descend-hit-requires-in-Node-clause-room g c =
    c.requires.room

pub descend-hit-requires-in-Node-clause-way : goal.descend-hit-requires-in-Node-clause-way
descend-hit-requires-in-Node-clause-way g c =
    let B : NodeNo → Type 0 = CanBegin c.args.self.now c.args.subjects.now c.args.slots.now in
    let b = subst B c.in-Node.is c.requires.begins in
    let r = resumed_at c.args.self.now c.args.subjects.now c.args.slots.now (place.Node c.in-Node.place) b.0 b.1 in
    (c.args.slots.now.path.items, refl, r.1.0)

pub returns-in-Start-clause-first : goal.returns-in-Start-clause-first
returns-in-Start-clause-first g c =
    let P : NodeNo → Type 0 = λ no. FindsFirst c.args.self.now c.args.subjects.now (first_row c.args.slots.now no) c.keep.result in
    let Q : Hit → Type 0 = FindsFirst c.args.self.now c.args.subjects.now 0 in
    subst P (sym c.in-Start.is) (subst Q (sym c.keep.ensures.same) (c.descend-hit.ensures.first 0 (start_is c.args.self.now c.requires.tree)))

pub returns-in-Node-clause-first : goal.returns-in-Node-clause-first
returns-in-Node-clause-first g c =
    let B : NodeNo → Type 0 = CanBegin c.args.self.now c.args.subjects.now c.args.slots.now in
    let b = subst B c.in-Node.is c.requires.begins in
    let r = resumed_at c.args.self.now c.args.subjects.now c.args.slots.now (place.Node c.in-Node.place) b.0 b.1 in
    let A : ℕ → Type 0 = λ n. FindsFirst c.args.self.now c.args.subjects.now n c.keep-in-Node.result in
    let P : NodeNo → Type 0 = λ no. FindsFirst c.args.self.now c.args.subjects.now (first_row c.args.slots.now no) c.keep-in-Node.result in
    let Q : Hit → Type 0 = FindsFirst c.args.self.now c.args.subjects.now (r.0 + 1) in
    subst P (sym c.in-Node.is) (subst A (sym r.2) (subst Q (sym c.keep-in-Node.ensures.same) (c.descend-hit-in-Node.ensures.first (r.0 + 1) (hit_starts c.args.self.now r.1.1.1 r.0 c.in-Node.place r.1.1.2 c.requires.tree r.1.1.4))))

pub returns-in-Rows-clause-first : goal.returns-in-Rows-clause-first
returns-in-Rows-clause-first g c =
    let B : NodeNo → Type 0 = CanBegin c.args.self.now c.args.subjects.now c.args.slots.now in
    let b = subst B c.in-Rows.is c.requires.begins in
    let r = resumed_at c.args.self.now c.args.subjects.now c.args.slots.now (place.Rows c.in-Rows.row) b.0 b.1 in
    let A : ℕ → Type 0 = λ n. FindsFirst c.args.self.now c.args.subjects.now n c.keep-in-Rows.result in
    let P : NodeNo → Type 0 = λ no. FindsFirst c.args.self.now c.args.subjects.now (first_row c.args.slots.now no) c.keep-in-Rows.result in
    let Q : Hit → Type 0 = FindsFirst c.args.self.now c.args.subjects.now c.in-Rows.row in
    subst P (sym c.in-Rows.is) (subst A (r.1.0 ∙ sym r.2) (subst Q (sym c.keep-in-Rows.ensures.same) c.try_rows-hit.ensures.first))

pub returns-in-Start-clause-keeps : goal.returns-in-Start-clause-keeps
returns-in-Start-clause-keeps g c =
    let walked = extends c.args.self.now c.args.subjects.now c.clear.new.self.path.items
    c.descend-hit.new.notes.path.items c.args.steps.now c.descend-hit.new.steps
    c.descend-hit.result c.descend-hit.ensures.reaches in
    keeps_by c.args.self.now c.args.subjects.now c.keep.new.self c.descend-hit.new.notes.path.items c.descend-hit.result c.keep.result c.keep.ensures.same c.keep.ensures.hit c.keep.ensures.path walked.leads

pub returns-in-Start-clause-room : goal.returns-in-Start-clause-room
returns-in-Start-clause-room g c =
    omega (arith, c.descend-hit.ensures.room, c.keep.ensures.room)

pub returns-in-Start-clause-looks : goal.returns-in-Start-clause-looks
returns-in-Start-clause-looks g c =
    let walked = extends c.args.self.now c.args.subjects.now c.clear.new.self.path.items
    c.descend-hit.new.notes.path.items c.args.steps.now c.descend-hit.new.steps
    c.descend-hit.result c.descend-hit.ensures.reaches in
    λ none. ap (λ p. c.descend-hit.new.steps + length (kept_positions c.args.self.now p)) (ap (path_before c.args.slots.now) c.in-Start.is ∙ sym c.clear.ensures.path)
    ∙ walked.looks none
    ∙ ap (λ p. c.args.steps.now + length (kept_positions c.args.self.now p)) (sym c.keep.ensures.path)

pub returns-in-Start-clause-more : goal.returns-in-Start-clause-more
returns-in-Start-clause-more g c =
    let walked = extends c.args.self.now c.args.subjects.now c.clear.new.self.path.items
    c.descend-hit.new.notes.path.items c.args.steps.now c.descend-hit.new.steps
    c.descend-hit.result c.descend-hit.ensures.reaches in (
      walked.more.0,
      c.keep.ensures.path ∙ walked.more.1
          ∙ ap (λ p. p ++ walked.more.0) (sym (ap (path_before c.args.slots.now) c.in-Start.is ∙ sym c.clear.ensures.path)),
    )

pub returns-in-Start-clause-once : goal.returns-in-Start-clause-once
returns-in-Start-clause-once g c =
    let walked = extends c.args.self.now c.args.subjects.now c.clear.new.self.path.items
    c.descend-hit.new.notes.path.items c.args.steps.now c.descend-hit.new.steps
    c.descend-hit.result c.descend-hit.ensures.reaches in
    let P : List ℕ → Type 0 = λ p. AreNew c.args.subjects.now [] (kept_positions c.args.self.now p) in
    subst P (sym c.keep.ensures.path)
    (tested_once c.args.self.now c.args.subjects.now c.descend-hit.new.notes.path.items walked.way.0 c.requires.tree c.requires.wide walked.way.1)

pub returns-in-Node-clause-keeps : goal.returns-in-Node-clause-keeps
returns-in-Node-clause-keeps g c =
    let walked = extends c.args.self.now c.args.subjects.now c.args.slots.now.path.items
    c.descend-hit-in-Node.new.notes.path.items c.args.steps.now c.descend-hit-in-Node.new.steps
    c.descend-hit-in-Node.result c.descend-hit-in-Node.ensures.reaches in
    keeps_by c.args.self.now c.args.subjects.now c.keep-in-Node.new.self c.descend-hit-in-Node.new.notes.path.items c.descend-hit-in-Node.result c.keep-in-Node.result c.keep-in-Node.ensures.same c.keep-in-Node.ensures.hit c.keep-in-Node.ensures.path walked.leads

pub returns-in-Node-clause-room : goal.returns-in-Node-clause-room
returns-in-Node-clause-room g c =
    omega (arith, c.descend-hit-in-Node.ensures.room, c.keep-in-Node.ensures.room)

pub returns-in-Node-clause-looks : goal.returns-in-Node-clause-looks
returns-in-Node-clause-looks g c =
    let walked = extends c.args.self.now c.args.subjects.now c.args.slots.now.path.items
    c.descend-hit-in-Node.new.notes.path.items c.args.steps.now c.descend-hit-in-Node.new.steps
    c.descend-hit-in-Node.result c.descend-hit-in-Node.ensures.reaches in
    λ none. ap (λ p. c.descend-hit-in-Node.new.steps + length (kept_positions c.args.self.now p)) (ap (path_before c.args.slots.now) c.in-Node.is)
    ∙ walked.looks none
    ∙ ap (λ p. c.args.steps.now + length (kept_positions c.args.self.now p)) (sym c.keep-in-Node.ensures.path)

pub returns-in-Node-clause-more : goal.returns-in-Node-clause-more
returns-in-Node-clause-more g c =
    let walked = extends c.args.self.now c.args.subjects.now c.args.slots.now.path.items
    c.descend-hit-in-Node.new.notes.path.items c.args.steps.now c.descend-hit-in-Node.new.steps
    c.descend-hit-in-Node.result c.descend-hit-in-Node.ensures.reaches in (
      walked.more.0,
      c.keep-in-Node.ensures.path ∙ walked.more.1
          ∙ ap (λ p. p ++ walked.more.0) (sym (ap (path_before c.args.slots.now) c.in-Node.is)),
    )

pub returns-in-Node-clause-once : goal.returns-in-Node-clause-once
returns-in-Node-clause-once g c =
    let walked = extends c.args.self.now c.args.subjects.now c.args.slots.now.path.items
    c.descend-hit-in-Node.new.notes.path.items c.args.steps.now c.descend-hit-in-Node.new.steps
    c.descend-hit-in-Node.result c.descend-hit-in-Node.ensures.reaches in
    let P : List ℕ → Type 0 = λ p. AreNew c.args.subjects.now [] (kept_positions c.args.self.now p) in
    subst P (sym c.keep-in-Node.ensures.path)
    (tested_once c.args.self.now c.args.subjects.now c.descend-hit-in-Node.new.notes.path.items walked.way.0 c.requires.tree c.requires.wide walked.way.1)

pub returns-in-Rows-clause-keeps : goal.returns-in-Rows-clause-keeps
returns-in-Rows-clause-keeps g c =
    let B : NodeNo → Type 0 = CanBegin c.args.self.now c.args.subjects.now c.args.slots.now in
    let b = subst B c.in-Rows.is c.requires.begins in
    let r = resumed_at c.args.self.now c.args.subjects.now c.args.slots.now (place.Rows c.in-Rows.row) b.0 b.1 in
    keeps_by c.args.self.now c.args.subjects.now c.keep-in-Rows.new.self c.args.slots.now.path.items c.try_rows-hit.result c.keep-in-Rows.result c.keep-in-Rows.ensures.same c.keep-in-Rows.ensures.hit c.keep-in-Rows.ensures.path
    (tried_reached c.args.self.now c.args.subjects.now c.args.slots.now.path.items r.1.1.0 r.1.1.1 c.try_rows-hit.result r.1.1.2 r.1.1.3
    (tried_lower c.args.self.now c.args.subjects.now r.1.1.1 c.in-Rows.row c.try_rows-hit.result (omega (arith, r.1.0, r.1.1.4)) c.try_rows-hit.ensures.tried))

pub returns-in-Rows-clause-room : goal.returns-in-Rows-clause-room
returns-in-Rows-clause-room g c =
    omega (arith, c.requires.room, c.keep-in-Rows.ensures.room)

pub returns-in-Rows-clause-looks : goal.returns-in-Rows-clause-looks
returns-in-Rows-clause-looks g c =
    let B : NodeNo → Type 0 = CanBegin c.args.self.now c.args.subjects.now c.args.slots.now in
    let b = subst B c.in-Rows.is c.requires.begins in
    let r = resumed_at c.args.self.now c.args.subjects.now c.args.slots.now (place.Rows c.in-Rows.row) b.0 b.1 in
    λ none. absurd (false≢true (sym none ∙ some_tries (nodes_of c.args.self.now) r.1.1.0 r.1.1.1 r.1.1.3))

pub returns-in-Rows-clause-more : goal.returns-in-Rows-clause-more
returns-in-Rows-clause-more g c = (
  [],
  c.keep-in-Rows.ensures.path ∙ sym (ap (path_before c.args.slots.now) c.in-Rows.is)
      ∙ sym (append-nil (path_before c.args.slots.now c.args.from)),
)

pub returns-in-Rows-clause-once : goal.returns-in-Rows-clause-once
returns-in-Rows-clause-once g c =
    let B : NodeNo → Type 0 = CanBegin c.args.self.now c.args.subjects.now c.args.slots.now in
    let b = subst B c.in-Rows.is c.requires.begins in
    let r = resumed_at c.args.self.now c.args.subjects.now c.args.slots.now (place.Rows c.in-Rows.row) b.0 b.1 in
    let P : List ℕ → Type 0 = λ p. AreNew c.args.subjects.now [] (kept_positions c.args.self.now p) in
    subst P (sym c.keep-in-Rows.ensures.path)
    (tested_once c.args.self.now c.args.subjects.now c.args.slots.now.path.items r.1.1.0 c.requires.tree c.requires.wide r.1.1.2)

pub returns-in-Start-clause-asked : goal.returns-in-Start-clause-asked
returns-in-Start-clause-asked g c =
    let walked = extends c.args.self.now c.args.subjects.now c.clear.new.self.path.items
    c.descend-hit.new.notes.path.items c.args.steps.now c.descend-hit.new.steps
    c.descend-hit.result c.descend-hit.ensures.reaches in
    let P : List ℕ → Type 0 = λ p. AreAskedInTurn c.args.self.now.matrix c.args.subjects.now [] (kept_positions c.args.self.now p) in
    subst P (sym c.keep.ensures.path)
    (tested_asked c.args.self.now c.args.subjects.now c.descend-hit.new.notes.path.items walked.way.0 c.requires.tree walked.way.1)

pub returns-in-Node-clause-asked : goal.returns-in-Node-clause-asked
returns-in-Node-clause-asked g c =
    let walked = extends c.args.self.now c.args.subjects.now c.args.slots.now.path.items
    c.descend-hit-in-Node.new.notes.path.items c.args.steps.now c.descend-hit-in-Node.new.steps
    c.descend-hit-in-Node.result c.descend-hit-in-Node.ensures.reaches in
    let P : List ℕ → Type 0 = λ p. AreAskedInTurn c.args.self.now.matrix c.args.subjects.now [] (kept_positions c.args.self.now p) in
    subst P (sym c.keep-in-Node.ensures.path)
    (tested_asked c.args.self.now c.args.subjects.now c.descend-hit-in-Node.new.notes.path.items walked.way.0 c.requires.tree walked.way.1)

pub returns-in-Rows-clause-asked : goal.returns-in-Rows-clause-asked
returns-in-Rows-clause-asked g c =
    let B : NodeNo → Type 0 = CanBegin c.args.self.now c.args.subjects.now c.args.slots.now in
    let b = subst B c.in-Rows.is c.requires.begins in
    let r = resumed_at c.args.self.now c.args.subjects.now c.args.slots.now (place.Rows c.in-Rows.row) b.0 b.1 in
    let P : List ℕ → Type 0 = λ p. AreAskedInTurn c.args.self.now.matrix c.args.subjects.now [] (kept_positions c.args.self.now p) in
    subst P (sym c.keep-in-Rows.ensures.path)
    (tested_asked c.args.self.now c.args.subjects.now c.args.slots.now.path.items r.1.1.0 c.requires.tree r.1.1.2)
