use Rattle.kore_prove.proofs.FileProofs.{created_others}
use Rattle.kore_prove.proofs.PathFiles.{created_path, created_path_front}
use Rattle.kore_prove.proofs.path_file.proved_path_lines.Goals as goal

pub returns-in-Ok-clause-proof : goal.returns-in-Ok-clause-proof
returns-in-Ok-clause-proof g c =
    created_path (g.D.Desk.state c.args.desk.now).told
    (g.D.Desk.state c.create_file.new.self).told (g.D.Desk.state c.proved_path.new.desk).told
    c.args.file.now c.args.program.now c.args.path.now c.in_ok-create_file.ensures.creates
    c.in-Ok.ensures.justified

pub returns-in-Ok-clause-files : goal.returns-in-Ok-clause-files
returns-in-Ok-clause-files g c =
    created_others (g.D.Desk.state c.args.desk.now).told
    (g.D.Desk.state c.create_file.new.self).told (g.D.Desk.state c.proved_path.new.desk).told
    c.args.file.now c.in_ok-create_file.ensures.creates c.proved_path.ensures.files

pub returns-in-Err-clause-front : goal.returns-in-Err-clause-front
returns-in-Err-clause-front g c =
    created_path_front (g.D.Desk.state c.args.desk.now).told
    (g.D.Desk.state c.create_file.new.self).told (g.D.Desk.state c.proved_path.new.desk).told
    c.args.file.now c.args.program.now c.args.path.now c.in_ok-create_file.ensures.creates
    c.in-Err.ensures.front

pub returns-in-Err-clause-files : goal.returns-in-Err-clause-files
returns-in-Err-clause-files g c =
    created_others (g.D.Desk.state c.args.desk.now).told
    (g.D.Desk.state c.create_file.new.self).told (g.D.Desk.state c.proved_path.new.desk).told
    c.args.file.now c.in_ok-create_file.ensures.creates c.proved_path.ensures.files
