use Rattle.std.proofs.Common.{◌≡◌, refl, rules}
use Rattle.std.proofs.lemmas.Slice.Eq.{text_from_reads}
use lib.Chars.{codes}
use Rattle.kore_ast.proofs.reader.keyword_at.Goals as goal

pub returns-in-import : goal.returns-in-import
returns-in-import c =
    let e : c.args.word.now ≡ codes "import" =
    text_from_reads _ _ (search rules) (search rules) in
    rw e refl

pub returns-in-symbol : goal.returns-in-symbol
returns-in-symbol c =
    let e : c.args.word.now ≡ codes "symbol" =
    text_from_reads _ _ (search rules) (search rules) in
    rw e refl

pub returns-in-104 : goal.returns-in-104
returns-in-104 c =
    let e : c.args.word.now ≡ codes "hooked-sort" =
    text_from_reads _ _ (search rules) (search rules) in
    rw e refl

pub returns-in-104-2 : goal.returns-in-104-2
returns-in-104-2 c =
    let e : c.args.word.now ≡ codes "hooked-symbol" =
    text_from_reads _ _ (search rules) (search rules) in
    rw e refl
