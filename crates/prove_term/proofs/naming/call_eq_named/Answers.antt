use Rattle.std.proofs.Common.{◌≡◌, ◌^◌, List, Some, sym, ◌∙◌, ap, subst, arith}
use Rattle.ml_pat.specs.Patterns.{Pattern, constant}
use Rattle.term_core.specs.Forests.{forest}
use Rattle.term_core.specs.Patterns.{call}
use Rattle.term_core.specs.RulePatterns.{plain_pattern, sort_numbers}
use Rattle.term_core.specs.PatternLists.{plain_patterns}
use Rattle.term_core.specs.declared.rule_patterns.RulePat.{RulePat}
use Rattle.term_core.proofs.PlainPatterns.{plain-Call}
use Rattle.rule_core.specs.NamedParts.{Name}
use Rattle.rule_core.specs.ProgramView.{names_of}
use Rattle.rule_core.specs.declared.rules.Program.{Program}
use Rattle.ml_image.specs.Images.{image_of}
use Rattle.ml_image.specs.PartNames.{part_names}
use Rattle.prove_term.specs.Schemas.{AreImages}
use Rattle.prove_term.specs.Naming.{MakeNamed, AllCompareNamed}
use Rattle.prove_term.proofs.ResultLaws.{if_ok}
use Rattle.prove_term.proofs.CallLaws.{AreCalled, IsSplit, called_has_image, split}
use Rattle.prove_term.proofs.NamingWholes.{AreNamedCalled, call_makes, call_says}
use Rattle.prove_term.proofs.naming.call_eq_named.Goals as goal

pub image-requires : goal.image-requires
image-requires c =
    let h : AreCalled c.args.cx.now.program.sig c.args.function.0 c.args.subst.now c.args.args.now
    (forest c.args.terms.now) =
    record {
      signature = c.requires.signature;
      symbol = c.requires.symbol;
      variables = c.requires.sorted.0;
      refs = c.requires.sorted.1;
      are = record {
        sorted = c.requires.sorted.2;
        respects = c.requires.sorted.3;
        make = c.requires.makes;
      };
    } in
    called_has_image c.args.cx.now.program.sig c.args.function.0 (2 ^ 32) c.args.subst.now
    c.args.args.now (forest c.args.terms.now) (plain_pattern c.in_ok-whole.whole) h
    c.in_ok-whole.ensures

pub taken_apart-requires : goal.taken_apart-requires
taken_apart-requires c =
    let h : AreCalled c.args.cx.now.program.sig c.args.function.0 c.args.subst.now c.args.args.now
    (forest c.args.terms.now) =
    record {
      signature = c.requires.signature;
      symbol = c.requires.symbol;
      variables = c.requires.sorted.0;
      refs = c.requires.sorted.1;
      are = record {
        sorted = c.requires.sorted.2;
        respects = c.requires.sorted.3;
        make = c.requires.makes;
      };
    } in
    let w : plain_pattern c.in_ok-whole.whole ≡ call c.in-Call.field-0.0
    (sort_numbers c.in-Call.field-1.items) (plain_patterns c.in-Call.wholes.items) =
    ap plain_pattern c.in-Call.is
    ∙ plain-Call c.in-Call.field-0 c.in-Call.field-1 c.in-Call.wholes in
    let s : IsSplit c.image.new.self c.args.function.0 c.args.args.now c.in-Call.wholes.items
    (forest c.args.terms.now) c.in_ok-image.image =
    split c.args.cx.now c.image.new.self c.args.function.0 c.args.subst.now c.args.args.now
    c.in-Call.wholes.items (forest c.args.terms.now) c.in_ok-image.image c.in-Call.field-0.0
    (sort_numbers c.in-Call.field-1.items)
    h c.in_ok-image.ensures.grown (sym w ∙ c.in_ok-whole.ensures)
    (ap (image_of c.image.new.self.program.sig c.image.new.self.names) (sym w)
    ∙ c.in_ok-image.ensures.image) in
    (constant s.number, s.images, s.is, s.many)

pub all_named-requires-clause-made : goal.all_named-requires-clause-made
all_named-requires-clause-made c =
    let h : AreCalled c.args.cx.now.program.sig c.args.function.0 c.args.subst.now c.args.args.now
    (forest c.args.terms.now) =
    record {
      signature = c.requires.signature;
      symbol = c.requires.symbol;
      variables = c.requires.sorted.0;
      refs = c.requires.sorted.1;
      are = record {
        sorted = c.requires.sorted.2;
        respects = c.requires.sorted.3;
        make = c.requires.makes;
      };
    } in
    let w : plain_pattern c.in_ok-whole.whole ≡ call c.in-Call.field-0.0
    (sort_numbers c.in-Call.field-1.items) (plain_patterns c.in-Call.wholes.items) =
    ap plain_pattern c.in-Call.is
    ∙ plain-Call c.in-Call.field-0 c.in-Call.field-1 c.in-Call.wholes in
    let s : IsSplit c.image.new.self c.args.function.0 c.args.args.now c.in-Call.wholes.items
    (forest c.args.terms.now) c.in_ok-image.image =
    split c.args.cx.now c.image.new.self c.args.function.0 c.args.subst.now c.args.args.now
    c.in-Call.wholes.items (forest c.args.terms.now) c.in_ok-image.image c.in-Call.field-0.0
    (sort_numbers c.in-Call.field-1.items)
    h c.in_ok-image.ensures.grown (sym w ∙ c.in_ok-whole.ensures)
    (ap (image_of c.image.new.self.program.sig c.image.new.self.names) (sym w)
    ∙ c.in_ok-image.ensures.image) in
    let named : AreNamedCalled c.args.cx.now.program.sig (names_of c.args.named.now)
    c.args.subst.now c.args.args.now (forest c.args.terms.now) =
    (c.requires.named, omega (arith, c.highest-highest.ensures.value, c.highest-highest.ensures.bound)) in
    let names : part_names c.deref.result.now ≡ names_of c.args.named.now =
    ap part_names c.deref.ensures.value ∙ c.in_ok-names.ensures in
    subst (λ (ws : List RulePat). MakeNamed c.image.new.self.program.sig
    (part_names c.deref.result.now) (plain_patterns c.args.args.now) (plain_patterns ws))
    (sym c.deref-2.ensures.value)
    (subst (λ (ns : List Name). MakeNamed c.image.new.self.program.sig ns
    (plain_patterns c.args.args.now) (plain_patterns c.in-Call.wholes.items)) (sym names)
    (call_makes c.args.cx.now c.image.new.self c.args.function.0 (names_of c.args.named.now)
    c.args.subst.now c.args.args.now c.in-Call.wholes.items (forest c.args.terms.now) h named
    c.in_ok-image.ensures.grown s.wholes))

pub all_named-requires-clause-head : goal.all_named-requires-clause-head
all_named-requires-clause-head c =
    let h : AreCalled c.args.cx.now.program.sig c.args.function.0 c.args.subst.now c.args.args.now
    (forest c.args.terms.now) =
    record {
      signature = c.requires.signature;
      symbol = c.requires.symbol;
      variables = c.requires.sorted.0;
      refs = c.requires.sorted.1;
      are = record {
        sorted = c.requires.sorted.2;
        respects = c.requires.sorted.3;
        make = c.requires.makes;
      };
    } in
    let w : plain_pattern c.in_ok-whole.whole ≡ call c.in-Call.field-0.0
    (sort_numbers c.in-Call.field-1.items) (plain_patterns c.in-Call.wholes.items) =
    ap plain_pattern c.in-Call.is
    ∙ plain-Call c.in-Call.field-0 c.in-Call.field-1 c.in-Call.wholes in
    let s : IsSplit c.image.new.self c.args.function.0 c.args.args.now c.in-Call.wholes.items
    (forest c.args.terms.now) c.in_ok-image.image =
    split c.args.cx.now c.image.new.self c.args.function.0 c.args.subst.now c.args.args.now
    c.in-Call.wholes.items (forest c.args.terms.now) c.in_ok-image.image c.in-Call.field-0.0
    (sort_numbers c.in-Call.field-1.items)
    h c.in_ok-image.ensures.grown (sym w ∙ c.in_ok-whole.ensures)
    (ap (image_of c.image.new.self.program.sig c.image.new.self.names) (sym w)
    ∙ c.in_ok-image.ensures.image) in
    let parts : (c.in_ok-parts.parts.head ≡ constant s.number) ×
    (c.in_ok-parts.parts.arguments.items ≡ s.images) =
    c.in_ok-parts.ensures (constant s.number) s.images s.is s.many in
    (c.args.function.0, s.is_head ∙ ap Some (sym parts.0))

pub all_named-requires-clause-images : goal.all_named-requires-clause-images
all_named-requires-clause-images c =
    let h : AreCalled c.args.cx.now.program.sig c.args.function.0 c.args.subst.now c.args.args.now
    (forest c.args.terms.now) =
    record {
      signature = c.requires.signature;
      symbol = c.requires.symbol;
      variables = c.requires.sorted.0;
      refs = c.requires.sorted.1;
      are = record {
        sorted = c.requires.sorted.2;
        respects = c.requires.sorted.3;
        make = c.requires.makes;
      };
    } in
    let w : plain_pattern c.in_ok-whole.whole ≡ call c.in-Call.field-0.0
    (sort_numbers c.in-Call.field-1.items) (plain_patterns c.in-Call.wholes.items) =
    ap plain_pattern c.in-Call.is
    ∙ plain-Call c.in-Call.field-0 c.in-Call.field-1 c.in-Call.wholes in
    let s : IsSplit c.image.new.self c.args.function.0 c.args.args.now c.in-Call.wholes.items
    (forest c.args.terms.now) c.in_ok-image.image =
    split c.args.cx.now c.image.new.self c.args.function.0 c.args.subst.now c.args.args.now
    c.in-Call.wholes.items (forest c.args.terms.now) c.in_ok-image.image c.in-Call.field-0.0
    (sort_numbers c.in-Call.field-1.items)
    h c.in_ok-image.ensures.grown (sym w ∙ c.in_ok-whole.ensures)
    (ap (image_of c.image.new.self.program.sig c.image.new.self.names) (sym w)
    ∙ c.in_ok-image.ensures.image) in
    let parts : (c.in_ok-parts.parts.head ≡ constant s.number) ×
    (c.in_ok-parts.parts.arguments.items ≡ s.images) =
    c.in_ok-parts.ensures (constant s.number) s.images s.is s.many in
    subst (λ (ws : List RulePat). AreImages c.image.new.self.program.sig c.image.new.self.names
    (plain_patterns ws) c.deref-3.result.now) (sym c.deref-2.ensures.value)
    (subst (λ (qs : List Pattern). AreImages c.image.new.self.program.sig c.image.new.self.names
    (plain_patterns c.in-Call.wholes.items) qs) (sym (c.deref-3.ensures.value ∙ parts.1))
    s.are_images)

pub returns-clause-says : goal.returns-clause-says
returns-clause-says c =
    let h : AreCalled c.args.cx.now.program.sig c.args.function.0 c.args.subst.now c.args.args.now
    (forest c.args.terms.now) =
    record {
      signature = c.requires.signature;
      symbol = c.requires.symbol;
      variables = c.requires.sorted.0;
      refs = c.requires.sorted.1;
      are = record {
        sorted = c.requires.sorted.2;
        respects = c.requires.sorted.3;
        make = c.requires.makes;
      };
    } in
    let w : plain_pattern c.in_ok-whole.whole ≡ call c.in-Call.field-0.0
    (sort_numbers c.in-Call.field-1.items) (plain_patterns c.in-Call.wholes.items) =
    ap plain_pattern c.in-Call.is
    ∙ plain-Call c.in-Call.field-0 c.in-Call.field-1 c.in-Call.wholes in
    let s : IsSplit c.image.new.self c.args.function.0 c.args.args.now c.in-Call.wholes.items
    (forest c.args.terms.now) c.in_ok-image.image =
    split c.args.cx.now c.image.new.self c.args.function.0 c.args.subst.now c.args.args.now
    c.in-Call.wholes.items (forest c.args.terms.now) c.in_ok-image.image c.in-Call.field-0.0
    (sort_numbers c.in-Call.field-1.items)
    h c.in_ok-image.ensures.grown (sym w ∙ c.in_ok-whole.ensures)
    (ap (image_of c.image.new.self.program.sig c.image.new.self.names) (sym w)
    ∙ c.in_ok-image.ensures.image) in
    let parts : (c.in_ok-parts.parts.head ≡ constant s.number) ×
    (c.in_ok-parts.parts.arguments.items ≡ s.images) =
    c.in_ok-parts.ensures (constant s.number) s.images s.is s.many in
    let named : AreNamedCalled c.args.cx.now.program.sig (names_of c.args.named.now)
    c.args.subst.now c.args.args.now (forest c.args.terms.now) =
    (c.requires.named, omega (arith, c.highest-highest.ensures.value, c.highest-highest.ensures.bound)) in
    let names : part_names c.deref.result.now ≡ names_of c.args.named.now =
    ap part_names c.deref.ensures.value ∙ c.in_ok-names.ensures in
    let later : AreCalled c.image.new.self.program.sig c.args.function.0 c.args.subst.now
    c.args.args.now (forest c.args.terms.now) =
    subst (λ (p : Program). AreCalled p.sig c.args.function.0 c.args.subst.now c.args.args.now
    (forest c.args.terms.now)) (sym c.in_ok-image.ensures.grown.program) h in
    if_ok c.all_named.result
    (λ o says. call_says c.image.new.self c.all_named.new.cx c.args.function.0
    (names_of c.args.named.now) c.args.subst.now c.args.args.now c.in-Call.wholes.items
    (forest c.args.terms.now) c.in_ok-image.image c.in_ok-parts.parts.head c.deref-3.result.now o s
    later named c.all_named.ensures.grown parts.0 (c.deref-3.ensures.value ∙ parts.1)
    (subst (λ (ws : List RulePat). AllCompareNamed c.image.new.self c.all_named.new.cx
    (names_of c.args.named.now) (plain_patterns c.args.args.now) (plain_patterns ws)
    c.in_ok-parts.parts.head c.deref-3.result.now o) c.deref-2.ensures.value
    (subst (λ (ns : List Name). AllCompareNamed c.image.new.self c.all_named.new.cx ns
    (plain_patterns c.args.args.now) (plain_patterns c.deref-2.result.now)
    c.in_ok-parts.parts.head c.deref-3.result.now o) names says)))
    c.all_named.ensures.says
