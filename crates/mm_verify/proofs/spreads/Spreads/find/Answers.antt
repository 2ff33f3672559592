use Rattle.std.proofs.Common.{rules, arith, ◌≡◌, ◌<◌, drop, length}
use Rattle.std.specs.Prelude.{slice_get, Some}
use Rattle.mm_verify.proofs.Spreading.{none-there, known-more, keeps-more, found-more}
use Rattle.mm_verify.proofs.spreads.Spreads.find.Goals as goal

pub returns-clause-known : goal.returns-clause-known
returns-clause-known g c =
    let p = g.P.Place.place c.args.place.now in
    let entries = drop c.args.base c.args.stack.now in
    let s = c.args.self.now in
    let within : c.args.i < length s.numbers.items =
    omega (arith, c.requires.within, c.requires.known.room) in
    let none : slice_get s.numbers.items c.args.i ≡ Some 0 =
    none-there s.numbers.items c.args.i c.index-number.result.now within c.index-number.ensures
    c.if-number-gt0.false in
    known-more p entries s c.add.new.self c.args.i c.in_ok-number.number c.gather.new.to.items
    c.requires.known within none (search rules)
    c.in_ok-number.ensures.numbers c.in_ok-number.ensures.lists c.in_ok-number.ensures.last
    c.in_ok-number.ensures.tested c.in_ok-number.ensures.notes

pub returns-clause-keeps : goal.returns-clause-keeps
returns-clause-keeps g c =
    let p = g.P.Place.place c.args.place.now in
    let entries = drop c.args.base c.args.stack.now in
    let s = c.args.self.now in
    let within : c.args.i < length s.numbers.items =
    omega (arith, c.requires.within, c.requires.known.room) in
    let none : slice_get s.numbers.items c.args.i ≡ Some 0 =
    none-there s.numbers.items c.args.i c.index-number.result.now within c.index-number.ensures
    c.if-number-gt0.false in
    keeps-more p entries s c.add.new.self c.args.i c.in_ok-number.number c.gather.new.to.items
    c.requires.known within none (search rules)
    c.in_ok-number.ensures.numbers c.in_ok-number.ensures.lists c.in_ok-number.ensures.last
    c.in_ok-number.ensures.tested c.in_ok-number.ensures.notes

pub returns-clause-found : goal.returns-clause-found
returns-clause-found g c =
    let p = g.P.Place.place c.args.place.now in
    let entries = drop c.args.base c.args.stack.now in
    let s = c.args.self.now in
    let within : c.args.i < length s.numbers.items =
    omega (arith, c.requires.within, c.requires.known.room) in
    let none : slice_get s.numbers.items c.args.i ≡ Some 0 =
    none-there s.numbers.items c.args.i c.index-number.result.now within c.index-number.ensures
    c.if-number-gt0.false in
    found-more p entries s c.add.new.self c.args.i c.in_ok-number.number c.gather.new.to.items
    c.requires.known within none (search rules)
    c.in_ok-number.ensures.numbers c.in_ok-number.ensures.lists c.in_ok-number.ensures.last
    c.in_ok-number.ensures.tested c.in_ok-number.ensures.notes
