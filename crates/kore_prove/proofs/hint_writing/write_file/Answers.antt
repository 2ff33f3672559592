use Rattle.std.proofs.Common.{◌≡◌, inl, inr, Some}
use Rattle.std.proofs.lemmas.Result.{err_from_is_err_and}
use Rattle.kore_prove.proofs.FileProofs.{same_file, same_others}
use Rattle.kore_prove.proofs.HintWriting.{on_ok_given, on_err_given, text_told, whole_front}
use Rattle.kore_prove.proofs.HintWriting.{front_told, text_others, front_others}
use Rattle.kore_prove.proofs.hint_writing.write_file.Goals as goal

-- ---- all bytes were written

pub returns-in-Ok-clause-held : goal.returns-in-Ok-clause-held
returns-in-Ok-clause-held g c =
    on_ok_given c.close_file.result _ (text_told _ _ _ _ c.args.name.now c.args.bytes.now
    c.in_ok-create_file.ensures.creates c.in-Ok.ensures.written c.close_file.ensures.closes)

pub returns-in-Ok-clause-front : goal.returns-in-Ok-clause-front
returns-in-Ok-clause-front g c =
    on_err_given c.close_file.result _ (inr (whole_front _ _ c.args.name.now c.args.bytes.now
    (text_told _ _ _ _ c.args.name.now c.args.bytes.now c.in_ok-create_file.ensures.creates
    c.in-Ok.ensures.written c.close_file.ensures.closes)))

pub returns-in-Ok-clause-files : goal.returns-in-Ok-clause-files
returns-in-Ok-clause-files g c =
    text_others _ _ _ _ c.args.name.now c.args.bytes.now c.in_ok-create_file.ensures.creates
    c.in-Ok.ensures.written c.close_file.ensures.closes

-- ---- a part of them was written

pub returns-in-Err-clause-front : goal.returns-in-Err-clause-front
returns-in-Err-clause-front g c =
    inr (front_told _ _ _ _ c.args.name.now c.args.bytes.now c.in_ok-create_file.ensures.creates
    c.in-Err.ensures.prefix c.close_file-closed.ensures.closes)

pub returns-in-Err-clause-files : goal.returns-in-Err-clause-files
returns-in-Err-clause-files g c =
    front_others _ _ _ _ c.args.name.now c.args.bytes.now c.in_ok-create_file.ensures.creates
    c.in-Err.ensures.prefix c.close_file-closed.ensures.closes

-- ---- no file was created

pub returns-in_err-create_file-clause-front : goal.returns-in_err-create_file-clause-front
returns-in_err-create_file-clause-front g c =
    let p = err_from_is_err_and c.from_residual.result c.from_residual.ensures.1 in
    rw p.1 (inl (same_file _ _ c.args.name.now c.in_err-create_file.ensures.fault))

pub returns-in_err-create_file-clause-files : goal.returns-in_err-create_file-clause-files
returns-in_err-create_file-clause-files g c =
    same_others (λ other. Some c.args.name.now ≡ Some other) _ _ c.in_err-create_file.ensures.fault
