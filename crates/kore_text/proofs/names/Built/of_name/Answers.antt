use Rattle.std.proofs.Common.{◌≡◌, refl, rules}
use Rattle.std.proofs.lemmas.Slice.Eq.{text_from_reads}
use lib.Chars.{codes}
use Rattle.kore_text.specs.TokenStream.{built_of}
use Rattle.kore_text.proofs.names.Built.of_name.Goals as goal

pub returns-in-floor : goal.returns-in-floor
unfolding built_of
returns-in-floor c =
    let e : c.args.name.now ≡ codes "floor" =
    text_from_reads _ _ (search rules) (search rules) in
    rw e refl

pub returns-in-bottom : goal.returns-in-bottom
unfolding built_of
returns-in-bottom c =
    let e : c.args.name.now ≡ codes "bottom" =
    text_from_reads _ _ (search rules) (search rules) in
    rw e refl

pub returns-in-equals : goal.returns-in-equals
unfolding built_of
returns-in-equals c =
    let e : c.args.name.now ≡ codes "equals" =
    text_from_reads _ _ (search rules) (search rules) in
    rw e refl

pub returns-in-exists : goal.returns-in-exists
unfolding built_of
returns-in-exists c =
    let e : c.args.name.now ≡ codes "exists" =
    text_from_reads _ _ (search rules) (search rules) in
    rw e refl

pub returns-in-forall : goal.returns-in-forall
unfolding built_of
returns-in-forall c =
    let e : c.args.name.now ≡ codes "forall" =
    text_from_reads _ _ (search rules) (search rules) in
    rw e refl

pub returns-in-implies : goal.returns-in-implies
unfolding built_of
returns-in-implies c =
    let e : c.args.name.now ≡ codes "implies" =
    text_from_reads _ _ (search rules) (search rules) in
    rw e refl

pub returns-in-rewrites : goal.returns-in-rewrites
unfolding built_of
returns-in-rewrites c =
    let e : c.args.name.now ≡ codes "rewrites" =
    text_from_reads _ _ (search rules) (search rules) in
    rw e refl

pub returns-in-108 : goal.returns-in-108
unfolding built_of
returns-in-108 c =
    let e : c.args.name.now ≡ codes "left-assoc" =
    text_from_reads _ _ (search rules) (search rules) in
    rw e refl

pub returns-in-114 : goal.returns-in-114
unfolding built_of
returns-in-114 c =
    let e : c.args.name.now ≡ codes "right-assoc" =
    text_from_reads _ _ (search rules) (search rules) in
    rw e refl
