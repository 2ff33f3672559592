use Rattle.std.proofs.Common.{◌≡◌, ◌<◌, length, slice_get, sym, ap, ◌∙◌, arith}
use Rattle.rule_core.specs.Records.{Record}
use Rattle.rule_core.specs.RecordView.{plain_record}
use Rattle.prove_fun.specs.RecordParts.{children}
use Rattle.prove_fun.specs.Using.{used_record}
use Rattle.prove_fun.proofs.PlainRecords.{plain-Ctor, plain-ByHook, plain-ByEquation, many_records}
use Rattle.prove_fun.proofs.PlainRecords.{record_at}
use Rattle.prove_fun.proofs.parts.child.Goals as goal

pub index-requires : goal.index-requires
index-requires c =
    let is = ap plain_record c.in-Ctor.is ∙ plain-Ctor _ c.in-Ctor.records _ in
    let many = ap (λ (r : Record). length (children r)) is in
    omega (arith, c.requires, many, many_records c.in-Ctor.records.items)

pub returns-in-Ctor : goal.returns-in-Ctor
returns-in-Ctor c =
    let is = ap plain_record c.in-Ctor.is ∙ plain-Ctor _ c.in-Ctor.records _ in
    let many = ap (λ (r : Record). length (children r)) is in
    let low : c.args.i < length c.in-Ctor.records.items =
    omega (arith, c.requires, many, many_records c.in-Ctor.records.items) in
    ap (λ (r : Record). slice_get (children r) c.args.i) is
    ∙ record_at c.in-Ctor.records.items c.args.i c.index.result.now low c.index.ensures

pub index-requires-in-ByHook : goal.index-requires-in-ByHook
index-requires-in-ByHook c =
    let is = ap plain_record c.in-ByHook.is ∙ plain-ByHook _ c.in-ByHook.records _ in
    let many = ap (λ (r : Record). length (children r)) is in
    omega (arith, c.requires, many, many_records c.in-ByHook.records.items)

pub returns-in-ByHook : goal.returns-in-ByHook
returns-in-ByHook c =
    let is = ap plain_record c.in-ByHook.is ∙ plain-ByHook _ c.in-ByHook.records _ in
    let many = ap (λ (r : Record). length (children r)) is in
    let low : c.args.i < length c.in-ByHook.records.items =
    omega (arith, c.requires, many, many_records c.in-ByHook.records.items) in
    ap (λ (r : Record). slice_get (children r) c.args.i) is
    ∙ record_at c.in-ByHook.records.items c.args.i c.index-in-ByHook.result.now low
    c.index-in-ByHook.ensures

pub index-requires-in-ByEquation : goal.index-requires-in-ByEquation
index-requires-in-ByEquation c =
    let used : c.deref-in-ByEquation.result.now ≡ c.in-ByEquation.used.value =
    c.deref-in-ByEquation.ensures in
    let is = ap plain_record c.in-ByEquation.is ∙ plain-ByEquation c.in-ByEquation.used
    ∙ ap used_record (sym used) in
    let many = ap (λ (r : Record). length (children r)) is in
    omega (arith, c.requires, many, many_records c.deref-in-ByEquation.result.now.args.items)

pub returns-in-ByEquation : goal.returns-in-ByEquation
returns-in-ByEquation c =
    let used : c.deref-in-ByEquation.result.now ≡ c.in-ByEquation.used.value =
    c.deref-in-ByEquation.ensures in
    let is = ap plain_record c.in-ByEquation.is ∙ plain-ByEquation c.in-ByEquation.used
    ∙ ap used_record (sym used) in
    let many = ap (λ (r : Record). length (children r)) is in
    let low : c.args.i < length c.deref-in-ByEquation.result.now.args.items =
    omega (arith, c.requires, many, many_records c.deref-in-ByEquation.result.now.args.items) in
    ap (λ (r : Record). slice_get (children r) c.args.i) is
    ∙ record_at c.deref-in-ByEquation.result.now.args.items c.args.i
    c.index-in-ByEquation.result.now low c.index-in-ByEquation.ensures
