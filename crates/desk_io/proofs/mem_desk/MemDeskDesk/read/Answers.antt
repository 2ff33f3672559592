use Rattle.std.proofs.Common.{◌+◌, ◌<◌, ◌≤◌, length, vec_len, refl, ◌∙◌, arith}
use Rattle.desk_io.specs.Memory.{named_bytes}
use Rattle.desk_io.proofs.Memory.{content_at, unread_part-read, unread_part-end, passed-read}
use Rattle.desk_io.proofs.mem_desk.MemDeskDesk.read.Goals as goal

pub invariant_of-self-2 : goal.invariant_of-self-2
invariant_of-self-2 c =
    let place = c.in-Some.place in
    let within : place.passed ≤ place.end = rw c.in-Some.is at c.args.self.now.within in
    record {
      some = c.args.self.now.some;
      there = rw c.in-Some.is at c.args.self.now.there;
      within =
          passed-read place c.pass-n.result c.args.self.now.most _ c.as_slice-content.result.now
          within c.pass-n.ensures.count;
      ended = rw c.in-Some.is at c.args.self.now.ended;
      first = c.args.self.now.first;
    }

pub returns-clause-passed : goal.returns-clause-passed
returns-clause-passed c =
    let files = c.args.self.now.files.items in
    let place = c.in-Some.place in
    let needed : place.file + 1 ≤ vec_len c.args.self.now.files =
    rw c.in-Some.is at c.args.self.now.there in
    let less : place.file < length files = omega arith in (
      _,
      unread_part-read (named_bytes files) c.args.self.now.reading place c.pass-n.result
          c.args.self.now.most _ c.as_slice-content.result.now c.pass-n.new.to c.in-Some.is
          (c.as_slice-content.ensures.value
          ∙ content_at files place.file c.index.result.now c.index.ensures less)
          c.pass-n.ensures.count c.pass-n.ensures.bytes,
      refl,
    )

pub returns-clause-end : goal.returns-clause-end
returns-clause-end c =
    let files = c.args.self.now.files.items in
    let place = c.in-Some.place in
    let needed : place.file + 1 ≤ vec_len c.args.self.now.files =
    rw c.in-Some.is at c.args.self.now.there in
    let less : place.file < length files = omega arith in
    λ none. unread_part-end (named_bytes files) c.args.self.now.reading place c.pass-n.result
    c.args.self.now.most _ c.as_slice-content.result.now c.in-Some.is
    (c.as_slice-content.ensures.value
    ∙ content_at files place.file c.index.result.now c.index.ensures less)
    c.pass-n.ensures.count c.args.self.now.some c.requires none
