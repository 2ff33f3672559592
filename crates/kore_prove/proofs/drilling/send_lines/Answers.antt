use Rattle.std.proofs.Common.{◌++◌, List, ℕ, [], Result, Ok, Err, refl, sym, ap}
use Rattle.std.specs.Prelude.{OnOk}
use Rattle.std.proofs.lemmas.List.{append-nil}
use Rattle.desk_io.specs.Sent.{Appends}
use Rattle.desk_io.specs.SinkChanges.{AppendsFront}
use Rattle.desk_io.proofs.Counts.{CountRose-later}
use Rattle.kore_prove.specs.DrilledRun.{counts_line}
use Rattle.kore_prove.proofs.FileProofs.{on_err_more}
use Rattle.kore_prove.proofs.Pieces.{Appends-then, AppendsFront-after, AppendsFront-more}
use Rattle.kore_prove.proofs.drilling.send_lines.Goals as goal

on_ok_more : {T E : Type 0} (r : Result T E) (P Q : Type 0) → (P → Q) → OnOk r P → OnOk r Q
on_ok_more (Ok t) P Q f h = f h
on_ok_more (Err e) P Q f h = tt

pub returns-in-Ok-clause-sent : goal.returns-in-Ok-clause-sent
returns-in-Ok-clause-sent g c =
    let old = (g.O.Sink.state c.args.out.now).bytes in
    let mid = (g.O.Sink.state c.send_whole.new.sink).bytes in
    let new = (g.O.Sink.state c.send_counts.new.out).bytes in
    let s = c.args.summary in
    let line : List ℕ = counts_line s.facts s.statements s.bytes in
    on_ok_more c.send_counts.result (Appends mid new line)
    (Appends old new (c.args.lines.now ++ line))
    (λ h. Appends-then old mid new c.args.lines.now line (c.args.lines.now ++ line) refl
    c.in-Ok.ensures.sent h) c.send_counts.ensures.sent

pub returns-in-Ok-clause-prefix : goal.returns-in-Ok-clause-prefix
returns-in-Ok-clause-prefix g c =
    let old = (g.O.Sink.state c.args.out.now).bytes in
    let mid = (g.O.Sink.state c.send_whole.new.sink).bytes in
    let new = (g.O.Sink.state c.send_counts.new.out).bytes in
    let s = c.args.summary in
    let line : List ℕ = counts_line s.facts s.statements s.bytes in
    on_err_more c.send_counts.result (AppendsFront mid new line)
    (AppendsFront old new (c.args.lines.now ++ line))
    (λ h. AppendsFront-after old mid new c.args.lines.now line [] (c.args.lines.now ++ line)
    (ap (λ (bytes : List ℕ). c.args.lines.now ++ bytes) (sym (append-nil line)))
    c.in-Ok.ensures.sent h) c.send_counts.ensures.prefix

pub returns-in-Ok-clause-failed : goal.returns-in-Ok-clause-failed
returns-in-Ok-clause-failed g c = λ is.
    CountRose-later _ _ _ c.send_whole.ensures.counts (c.send_counts.ensures.failed is)

pub returns-in-Err-clause-prefix : goal.returns-in-Err-clause-prefix
returns-in-Err-clause-prefix g c =
    AppendsFront-more _ _ c.args.lines.now
    (counts_line c.args.summary.facts c.args.summary.statements c.args.summary.bytes)
    c.in-Err.ensures.prefix
