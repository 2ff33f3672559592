use Rattle.std.proofs.Common.{◌++◌, ◌∷◌, ◌∙◌, List, [], length, map, ap}
use Rattle.std.proofs.Common.{sym, refl, subst, arith, true}
use Rattle.std.proofs.lemmas.List.{append_assoc, length-map}
use Rattle.pat_matrix.specs.HeadView.{head_of}
use Rattle.pat_matrix.specs.Positions.{subject_at}
use Rattle.match_tree.specs.Spots.{AreSpotsThere, spots_agree}
use Rattle.match_tree.specs.SpotView.{plain_spots}
use Rattle.match_tree.specs.TreeView.{nodes_of}
use Rattle.match_tree.specs.declared.nodes.Node.TheVariants as form
use Rattle.match_tree.proofs.ArmLaws.{some_tries, tried_reached, node_later, next_leads}
use Rattle.match_tree.proofs.DescentLaws.{node_within, test_there, found_not_none, hit_at}
use Rattle.match_tree.proofs.DescentLaws.{over_hit, at_hit, over_test, at_no_row, at_try}
use Rattle.match_tree.proofs.DescentLaws.{finds_from, first_matches}
use Rattle.match_tree.proofs.PassLaws.{node_is, passes_none, passes_on, passes_tried}
use Rattle.match_tree.proofs.compiling.Tree.descend.Goals as goal

pub walk-init : goal.walk-init
walk-init g c =
    record {
      passed =
          passes_none c.args.self.now c.args.subjects.now (g.N.Notes.tell c.args.notes.now) c.args.steps.now
          c.args.place c.requires.way.0 c.requires.way.1 c.requires.way.2;
      same = λ from s. (from, s, refl);
      room = c.requires.room;
    }

pub overflow_cast-place : goal.overflow_cast-place
overflow_cast-place g c =
    omega (arith, c.walk.auto.place-fits)

pub index-requires : goal.index-requires
index-requires g c =
    omega (
      arith,
      (node_within c.args.self.now c.args.subjects.now
          (c.walk.invariant.passed.path ++ c.walk.invariant.passed.more) c.walk.place c.requires.tree
          c.requires.wide c.walk.invariant.passed.way).0,
    )

pub returns-in-End-clause-first : goal.returns-in-End-clause-first
returns-in-End-clause-first g c =
    let node = node_is c.args.self.now c.args.subjects.now
    (c.walk.invariant.passed.path ++ c.walk.invariant.passed.more) c.walk.place
    c.index.result.now form.End c.requires.tree c.requires.wide c.walk.invariant.passed.way
    c.index.ensures c.in-End.is in
    λ from s. at_no_row c.args.self.now c.args.subjects.now
    (c.walk.invariant.passed.path ++ c.walk.invariant.passed.more) from c.walk.place c.requires.tree
    c.requires.wide c.walk.invariant.passed.way node (c.walk.invariant.same from s)

pub returns-in-End-clause-reaches : goal.returns-in-End-clause-reaches
returns-in-End-clause-reaches g c =
    (c.walk.place, c.walk.invariant.passed, tt)

pub returns-in-End-clause-room : goal.returns-in-End-clause-room
returns-in-End-clause-room g c =
    c.walk.invariant.room

pub pass-requires : goal.pass-requires
pass-requires g c = (
  (c.walk.invariant.passed.path ++ c.walk.invariant.passed.more),
  length (nodes_of c.args.self.now),
  c.walk.invariant.passed.notes,
  c.walk.invariant.room,
  (node_within c.args.self.now c.args.subjects.now
      (c.walk.invariant.passed.path ++ c.walk.invariant.passed.more) c.walk.place c.requires.tree
      c.requires.wide c.walk.invariant.passed.way).1,
)

pub pass-requires-in-Test : goal.pass-requires-in-Test
pass-requires-in-Test g c = (
  (c.walk.invariant.passed.path ++ c.walk.invariant.passed.more),
  length (nodes_of c.args.self.now),
  c.walk.invariant.passed.notes,
  c.walk.invariant.room,
  (node_within c.args.self.now c.args.subjects.now
      (c.walk.invariant.passed.path ++ c.walk.invariant.passed.more) c.walk.place c.requires.tree
      c.requires.wide c.walk.invariant.passed.way).1,
)

pub spots_agree-requires : goal.spots_agree-requires
spots_agree-requires g c =
    let node = node_is c.args.self.now c.args.subjects.now
    (c.walk.invariant.passed.path ++ c.walk.invariant.passed.more) c.walk.place
    c.index.result.now (form.Hit c.in-Hit.hit) c.requires.tree c.requires.wide c.walk.invariant.passed.way
    c.index.ensures c.in-Hit.is in
    let P : List _ → Type 0 = λ es. AreSpotsThere c.args.subjects.now (plain_spots es) in
    subst P (sym c.deref.ensures.value)
    (hit_at c.args.self.now c.args.subjects.now (c.walk.invariant.passed.path ++ c.walk.invariant.passed.more)
    c.walk.place c.in-Hit.hit.row c.in-Hit.hit.next (plain_spots c.in-Hit.hit.spots.items)
    c.requires.tree.draft.0 c.requires.tree c.requires.wide c.requires.tree.draft.1
    c.walk.invariant.passed.way node).there

pub returns-then-spots_agree-clause-first : goal.returns-then-spots_agree-clause-first
returns-then-spots_agree-clause-first g c =
    let node = node_is c.args.self.now c.args.subjects.now
    (c.walk.invariant.passed.path ++ c.walk.invariant.passed.more) c.walk.place
    c.index.result.now (form.Hit c.in-Hit.hit) c.requires.tree c.requires.wide c.walk.invariant.passed.way
    c.index.ensures c.in-Hit.is in
    let agree = sym (c.spots_agree.ensures
    ∙ ap (λ es. spots_agree c.args.subjects.now (plain_spots es)) c.deref.ensures.value)
    ∙ c.if-spots_agree.true in
    λ from s. at_hit c.args.self.now c.args.subjects.now (c.walk.invariant.passed.path ++ c.walk.invariant.passed.more)
    from c.walk.place c.in-Hit.hit.row c.in-Hit.hit.next (plain_spots c.in-Hit.hit.spots.items)
    c.requires.tree c.requires.wide c.walk.invariant.passed.way node agree (c.walk.invariant.same from s)

pub returns-then-spots_agree-clause-reaches : goal.returns-then-spots_agree-clause-reaches
returns-then-spots_agree-clause-reaches g c =
    let node = node_is c.args.self.now c.args.subjects.now
    (c.walk.invariant.passed.path ++ c.walk.invariant.passed.more) c.walk.place
    c.index.result.now (form.Hit c.in-Hit.hit) c.requires.tree c.requires.wide c.walk.invariant.passed.way
    c.index.ensures c.in-Hit.is in
    let agree = sym (c.spots_agree.ensures
    ∙ ap (λ es. spots_agree c.args.subjects.now (plain_spots es)) c.deref.ensures.value)
    ∙ c.if-spots_agree.true in
    let first = (hit_at c.args.self.now c.args.subjects.now (c.walk.invariant.passed.path ++ c.walk.invariant.passed.more)
    c.walk.place c.in-Hit.hit.row c.in-Hit.hit.next (plain_spots c.in-Hit.hit.spots.items)
    c.requires.tree.draft.0 c.requires.tree c.requires.wide c.requires.tree.draft.1
    c.walk.invariant.passed.way node).first true agree in
    let passed = passes_on c.args.self.now c.args.subjects.now (g.N.Notes.tell c.args.notes.now)
    (g.N.Notes.tell c.walk.notes) (g.N.Notes.tell c.pass.new.self) c.args.steps.now
    c.walk.steps c.walk.steps c.walk.place c.in-Hit.hit.next _ c.walk.invariant.passed node refl
    c.pass.ensures.path (omega arith) in (
      c.in-Hit.hit.next,
      passed,
      (
        (
          passed.way,
          (
            (c.walk.invariant.passed.path ++ c.walk.invariant.passed.more),
            c.walk.place,
            (plain_spots c.in-Hit.hit.spots.items),
            sym (append_assoc c.walk.invariant.passed.path c.walk.invariant.passed.more
                (c.walk.place ∷ [])),
            node,
          ),
        ),
        first_matches c.args.self.now c.args.subjects.now _ c.in-Hit.hit.row _ c.requires.tree first,
      ),
    )

pub returns-then-spots_agree-clause-room : goal.returns-then-spots_agree-clause-room
returns-then-spots_agree-clause-room g c =
    c.pass.ensures.room (length (nodes_of c.args.self.now)) c.walk.invariant.room

pub walk-smaller-in-Hit : goal.walk-smaller-in-Hit
walk-smaller-in-Hit g c =
    let node = node_is c.args.self.now c.args.subjects.now
    (c.walk.invariant.passed.path ++ c.walk.invariant.passed.more) c.walk.place
    c.index.result.now (form.Hit c.in-Hit.hit) c.requires.tree c.requires.wide c.walk.invariant.passed.way
    c.index.ensures c.in-Hit.is in
    let lt = node_later c.args.self.now c.args.subjects.now (c.walk.invariant.passed.path ++ c.walk.invariant.passed.more)
    c.walk.place c.in-Hit.hit.next _ c.requires.tree c.requires.wide c.walk.invariant.passed.way node refl in
    omega (
      arith,
      lt,
      (node_within c.args.self.now c.args.subjects.now
          (c.walk.invariant.passed.path ++ c.walk.invariant.passed.more) c.walk.place c.requires.tree
          c.requires.wide c.walk.invariant.passed.way).0,
    )

pub walk-preserved-in-Hit : goal.walk-preserved-in-Hit
walk-preserved-in-Hit g c =
    let node = node_is c.args.self.now c.args.subjects.now
    (c.walk.invariant.passed.path ++ c.walk.invariant.passed.more) c.walk.place
    c.index.result.now (form.Hit c.in-Hit.hit) c.requires.tree c.requires.wide c.walk.invariant.passed.way
    c.index.ensures c.in-Hit.is in
    let agree = sym (c.spots_agree.ensures
    ∙ ap (λ es. spots_agree c.args.subjects.now (plain_spots es)) c.deref.ensures.value)
    ∙ c.if-spots_agree.false in
    record {
      passed = passes_on c.args.self.now c.args.subjects.now (g.N.Notes.tell c.args.notes.now)
          (g.N.Notes.tell c.walk.notes) (g.N.Notes.tell c.pass.new.self) c.args.steps.now
          c.walk.steps c.walk.steps c.walk.place c.in-Hit.hit.next _ c.walk.invariant.passed node refl
          c.pass.ensures.path (omega arith);
      same = λ from s. over_hit c.args.self.now c.args.subjects.now (c.walk.invariant.passed.path ++ c.walk.invariant.passed.more)
          from c.walk.place c.in-Hit.hit.row c.in-Hit.hit.next (plain_spots c.in-Hit.hit.spots.items)
          c.requires.tree c.requires.wide c.walk.invariant.passed.way node agree
          (c.walk.invariant.same from s);
      room = c.pass.ensures.room (length (nodes_of c.args.self.now)) c.walk.invariant.room;
    }

pub next-place-requires-clause-there : goal.next-place-requires-clause-there
next-place-requires-clause-there g c =
    let node = node_is c.args.self.now c.args.subjects.now
    (c.walk.invariant.passed.path ++ c.walk.invariant.passed.more) c.walk.place
    c.index.result.now (form.Test c.in-Test.test) c.requires.tree c.requires.wide c.walk.invariant.passed.way
    c.index.ensures c.in-Test.is in
    let there = test_there c.args.self.now c.args.subjects.now (c.walk.invariant.passed.path ++ c.walk.invariant.passed.more)
    c.walk.place c.in-Test.test.value.position.items (map head_of c.in-Test.test.value.heads.keys)
    c.in-Test.test.value.branches.items c.in-Test.test.value.other c.requires.tree c.requires.wide
    c.walk.invariant.passed.way node in
    found_not_none _ there.0.0
    (ap (λ x. subject_at c.args.subjects.now x.position.items) c.deref-in-Test.ensures ∙ there.0.1)

pub next-place-requires-clause-places : goal.next-place-requires-clause-places
next-place-requires-clause-places g c =
    let node = node_is c.args.self.now c.args.subjects.now
    (c.walk.invariant.passed.path ++ c.walk.invariant.passed.more) c.walk.place
    c.index.result.now (form.Test c.in-Test.test) c.requires.tree c.requires.wide c.walk.invariant.passed.way
    c.index.ensures c.in-Test.is in
    let there = test_there c.args.self.now c.args.subjects.now (c.walk.invariant.passed.path ++ c.walk.invariant.passed.more)
    c.walk.place c.in-Test.test.value.position.items (map head_of c.in-Test.test.value.heads.keys)
    c.in-Test.test.value.branches.items c.in-Test.test.value.other c.requires.tree c.requires.wide
    c.walk.invariant.passed.way node in
    ap (λ x. length x.branches.items) c.deref-in-Test.ensures ∙ there.1
    ∙ length-map c.in-Test.test.value.heads.keys head_of
    ∙ sym (ap (λ x. length x.heads.keys) c.deref-in-Test.ensures)

pub walk-smaller : goal.walk-smaller
walk-smaller g c =
    let node = node_is c.args.self.now c.args.subjects.now
    (c.walk.invariant.passed.path ++ c.walk.invariant.passed.more) c.walk.place
    c.index.result.now (form.Test c.in-Test.test) c.requires.tree c.requires.wide c.walk.invariant.passed.way
    c.index.ensures c.in-Test.is in
    let there = test_there c.args.self.now c.args.subjects.now (c.walk.invariant.passed.path ++ c.walk.invariant.passed.more)
    c.walk.place c.in-Test.test.value.position.items (map head_of c.in-Test.test.value.heads.keys)
    c.in-Test.test.value.branches.items c.in-Test.test.value.other c.requires.tree c.requires.wide
    c.walk.invariant.passed.way node in
    let leads = next_leads c.args.subjects.now c.deref-in-Test.result.now c.in-Test.test.value
    c.next-place.result c.deref-in-Test.ensures there.0 c.next-place.ensures.next in
    let lt = node_later c.args.self.now c.args.subjects.now (c.walk.invariant.passed.path ++ c.walk.invariant.passed.more)
    c.walk.place c.next-place.result _ c.requires.tree c.requires.wide c.walk.invariant.passed.way node leads in
    omega (
      arith,
      lt,
      (node_within c.args.self.now c.args.subjects.now
          (c.walk.invariant.passed.path ++ c.walk.invariant.passed.more) c.walk.place c.requires.tree
          c.requires.wide c.walk.invariant.passed.way).0,
    )

pub walk-preserved : goal.walk-preserved
walk-preserved g c =
    let node = node_is c.args.self.now c.args.subjects.now
    (c.walk.invariant.passed.path ++ c.walk.invariant.passed.more) c.walk.place
    c.index.result.now (form.Test c.in-Test.test) c.requires.tree c.requires.wide c.walk.invariant.passed.way
    c.index.ensures c.in-Test.is in
    let there = test_there c.args.self.now c.args.subjects.now (c.walk.invariant.passed.path ++ c.walk.invariant.passed.more)
    c.walk.place c.in-Test.test.value.position.items (map head_of c.in-Test.test.value.heads.keys)
    c.in-Test.test.value.branches.items c.in-Test.test.value.other c.requires.tree c.requires.wide
    c.walk.invariant.passed.way node in
    let leads = next_leads c.args.subjects.now c.deref-in-Test.result.now c.in-Test.test.value
    c.next-place.result c.deref-in-Test.ensures there.0 c.next-place.ensures.next in
    record {
      passed = passes_on c.args.self.now c.args.subjects.now (g.N.Notes.tell c.args.notes.now)
          (g.N.Notes.tell c.walk.notes) (g.N.Notes.tell c.pass-in-Test.new.self) c.args.steps.now
          c.walk.steps c.next-place.new.steps c.walk.place c.next-place.result _
          c.walk.invariant.passed node leads c.pass-in-Test.ensures.path c.next-place.ensures.looks;
      same = λ from s. over_test c.args.self.now c.args.subjects.now from c.walk.place c.next-place.result
          c.in-Test.test.value.position.items (map head_of c.in-Test.test.value.heads.keys) c.in-Test.test.value.branches.items c.in-Test.test.value.other leads.0 node leads.2 (c.walk.invariant.same from s);
      room = c.pass-in-Test.ensures.room (length (nodes_of c.args.self.now)) c.walk.invariant.room;
    }

pub try_rows-requires-clause-tree : goal.try_rows-requires-clause-tree
try_rows-requires-clause-tree g c =
    c.requires.tree

pub try_rows-requires-clause-wide : goal.try_rows-requires-clause-wide
try_rows-requires-clause-wide g c =
    c.requires.wide

pub returns-in-Try-clause-first : goal.returns-in-Try-clause-first
returns-in-Try-clause-first g c =
    let node = node_is c.args.self.now c.args.subjects.now
    (c.walk.invariant.passed.path ++ c.walk.invariant.passed.more) c.walk.place
    c.index.result.now (form.Try c.in-Try.from) c.requires.tree c.requires.wide c.walk.invariant.passed.way
    c.index.ensures c.in-Try.is in
    λ from s. finds_from c.args.self.now c.args.subjects.now from c.in-Try.from c.try_rows.result
    (at_try c.args.self.now c.args.subjects.now from c.walk.place c.in-Try.from node (c.walk.invariant.same from s))
    c.try_rows.ensures.first

pub returns-in-Try-clause-reaches : goal.returns-in-Try-clause-reaches
returns-in-Try-clause-reaches g c =
    let node = node_is c.args.self.now c.args.subjects.now
    (c.walk.invariant.passed.path ++ c.walk.invariant.passed.more) c.walk.place
    c.index.result.now (form.Try c.in-Try.from) c.requires.tree c.requires.wide c.walk.invariant.passed.way
    c.index.ensures c.in-Try.is in (
      c.walk.place,
      passes_tried c.args.self.now c.args.subjects.now (g.N.Notes.tell c.args.notes.now) (g.N.Notes.tell c.walk.notes) c.args.steps.now c.walk.steps c.try_rows.new.steps
          c.walk.place c.walk.invariant.passed
          (some_tries (nodes_of c.args.self.now) c.walk.place c.in-Try.from node),
      tried_reached c.args.self.now c.args.subjects.now (c.walk.invariant.passed.path ++ c.walk.invariant.passed.more) c.walk.place c.in-Try.from c.try_rows.result
          c.walk.invariant.passed.way node c.try_rows.ensures.tried,
    )

pub returns-in-Try-clause-room : goal.returns-in-Try-clause-room
returns-in-Try-clause-room g c =
    c.walk.invariant.room
