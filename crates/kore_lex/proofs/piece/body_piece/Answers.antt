use Rattle.std.proofs.Common.{◌≡◌, sym, refl, true, false}
use Rattle.std.specs.Str.{is_utf8}
use Rattle.kore_lex.proofs.EscapeLaws.{text-if-ok}
use Rattle.kore_lex.proofs.piece.body_piece.Goals as goal

pub returns-then-is_err : goal.returns-then-is_err
returns-then-is_err c =
    let e : is_utf8 c.args.body.now ≡ false =
    text-if-ok _ _ _ _ true c.if-is_err.ensures.value c.from_utf8.ensures.cases in
    rw e refl

pub returns-in-Some : goal.returns-in-Some
returns-in-Some c =
    let e : is_utf8 c.args.body.now ≡ true =
    text-if-ok _ _ _ _ false c.if-is_err.ensures.value c.from_utf8.ensures.cases in
    rw (e, sym c.in-Some.ensures.value) refl

pub returns-in-None : goal.returns-in-None
returns-in-None c =
    let e : is_utf8 c.args.body.now ≡ true =
    text-if-ok _ _ _ _ false c.if-is_err.ensures.value c.from_utf8.ensures.cases in
    rw (e, sym c.in-None.ensures.value) refl
