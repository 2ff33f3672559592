use Rattle.std.proofs.Common.{◌≡◌, ◌^◌, List, sym, ◌∙◌, ap, subst}
use Rattle.ml_pat.specs.Patterns.{Pattern, constant}
use Rattle.ml_kernel.specs.Lemmas.{HasNoVariable}
use Rattle.term_core.specs.Forests.{forest}
use Rattle.term_core.specs.Patterns.{call}
use Rattle.term_core.specs.RulePatterns.{plain_pattern, sort_numbers}
use Rattle.term_core.specs.PatternLists.{plain_patterns}
use Rattle.term_core.specs.declared.rule_patterns.RulePat.{RulePat}
use Rattle.term_core.proofs.PlainPatterns.{plain-Call}
use Rattle.rule_core.specs.declared.rules.Program.{Program}
use Rattle.ml_image.specs.Images.{image_of}
use Rattle.prove_term.specs.Schemas.{AreImages}
use Rattle.prove_term.specs.Comparing.{MakeTerms, AllCompare, IsOverContext}
use Rattle.prove_term.proofs.ResultLaws.{if_ok}
use Rattle.prove_term.proofs.ComparingCalls.{head_over}
use Rattle.prove_term.proofs.CallLaws.{AreCalled, IsSplit, called_has_image, split, called_made}
use Rattle.prove_term.proofs.CallLaws.{split_says}
use Rattle.prove_term.proofs.calls.call_eq.Goals as goal

pub image-requires : goal.image-requires
image-requires c =
    let h : AreCalled c.args.cx.now.program.sig c.args.function.0 c.args.subst.now c.args.args.now
    (forest c.args.terms.now) =
    record {
      signature = c.requires.signature;
      symbol = c.requires.symbol;
      variables = c.requires.sorted.0;
      refs = c.requires.sorted.1;
      are = record {
        sorted = c.requires.sorted.2;
        respects = c.requires.sorted.3;
        make = c.requires.makes;
      };
    } in
    called_has_image c.args.cx.now.program.sig c.args.function.0 (2 ^ 32) c.args.subst.now
    c.args.args.now (forest c.args.terms.now) (plain_pattern c.in_ok-whole.whole) h
    c.in_ok-whole.ensures

pub taken_apart-requires : goal.taken_apart-requires
taken_apart-requires c =
    let h : AreCalled c.args.cx.now.program.sig c.args.function.0 c.args.subst.now c.args.args.now
    (forest c.args.terms.now) =
    record {
      signature = c.requires.signature;
      symbol = c.requires.symbol;
      variables = c.requires.sorted.0;
      refs = c.requires.sorted.1;
      are = record {
        sorted = c.requires.sorted.2;
        respects = c.requires.sorted.3;
        make = c.requires.makes;
      };
    } in
    let w : plain_pattern c.in_ok-whole.whole ≡ call c.in-Call.field-0.0
    (sort_numbers c.in-Call.field-1.items) (plain_patterns c.in-Call.wholes.items) =
    ap plain_pattern c.in-Call.is
    ∙ plain-Call c.in-Call.field-0 c.in-Call.field-1 c.in-Call.wholes in
    let s : IsSplit c.image.new.self c.args.function.0 c.args.args.now c.in-Call.wholes.items
    (forest c.args.terms.now) c.in_ok-image.image =
    split c.args.cx.now c.image.new.self c.args.function.0 c.args.subst.now c.args.args.now
    c.in-Call.wholes.items (forest c.args.terms.now) c.in_ok-image.image c.in-Call.field-0.0
    (sort_numbers c.in-Call.field-1.items)
    h c.in_ok-image.ensures.grown (sym w ∙ c.in_ok-whole.ensures)
    (ap (image_of c.image.new.self.program.sig c.image.new.self.names) (sym w)
    ∙ c.in_ok-image.ensures.image) in
    (constant s.number, s.images, s.is, s.many)

pub all_compared-requires-clause-made : goal.all_compared-requires-clause-made
all_compared-requires-clause-made c =
    let h : AreCalled c.args.cx.now.program.sig c.args.function.0 c.args.subst.now c.args.args.now
    (forest c.args.terms.now) =
    record {
      signature = c.requires.signature;
      symbol = c.requires.symbol;
      variables = c.requires.sorted.0;
      refs = c.requires.sorted.1;
      are = record {
        sorted = c.requires.sorted.2;
        respects = c.requires.sorted.3;
        make = c.requires.makes;
      };
    } in
    let w : plain_pattern c.in_ok-whole.whole ≡ call c.in-Call.field-0.0
    (sort_numbers c.in-Call.field-1.items) (plain_patterns c.in-Call.wholes.items) =
    ap plain_pattern c.in-Call.is
    ∙ plain-Call c.in-Call.field-0 c.in-Call.field-1 c.in-Call.wholes in
    let s : IsSplit c.image.new.self c.args.function.0 c.args.args.now c.in-Call.wholes.items
    (forest c.args.terms.now) c.in_ok-image.image =
    split c.args.cx.now c.image.new.self c.args.function.0 c.args.subst.now c.args.args.now
    c.in-Call.wholes.items (forest c.args.terms.now) c.in_ok-image.image c.in-Call.field-0.0
    (sort_numbers c.in-Call.field-1.items)
    h c.in_ok-image.ensures.grown (sym w ∙ c.in_ok-whole.ensures)
    (ap (image_of c.image.new.self.program.sig c.image.new.self.names) (sym w)
    ∙ c.in_ok-image.ensures.image) in
    subst (λ (ws : List RulePat). MakeTerms c.image.new.self.program.sig
    (plain_patterns c.args.args.now) (plain_patterns ws)) (sym c.deref.ensures.value)
    (called_made c.args.cx.now c.image.new.self c.args.function.0 c.args.subst.now c.args.args.now
    c.in-Call.wholes.items (forest c.args.terms.now) h c.in_ok-image.ensures.grown s.wholes)

pub all_compared-requires-clause-head : goal.all_compared-requires-clause-head
all_compared-requires-clause-head c =
    let h : AreCalled c.args.cx.now.program.sig c.args.function.0 c.args.subst.now c.args.args.now
    (forest c.args.terms.now) =
    record {
      signature = c.requires.signature;
      symbol = c.requires.symbol;
      variables = c.requires.sorted.0;
      refs = c.requires.sorted.1;
      are = record {
        sorted = c.requires.sorted.2;
        respects = c.requires.sorted.3;
        make = c.requires.makes;
      };
    } in
    let w : plain_pattern c.in_ok-whole.whole ≡ call c.in-Call.field-0.0
    (sort_numbers c.in-Call.field-1.items) (plain_patterns c.in-Call.wholes.items) =
    ap plain_pattern c.in-Call.is
    ∙ plain-Call c.in-Call.field-0 c.in-Call.field-1 c.in-Call.wholes in
    let s : IsSplit c.image.new.self c.args.function.0 c.args.args.now c.in-Call.wholes.items
    (forest c.args.terms.now) c.in_ok-image.image =
    split c.args.cx.now c.image.new.self c.args.function.0 c.args.subst.now c.args.args.now
    c.in-Call.wholes.items (forest c.args.terms.now) c.in_ok-image.image c.in-Call.field-0.0
    (sort_numbers c.in-Call.field-1.items)
    h c.in_ok-image.ensures.grown (sym w ∙ c.in_ok-whole.ensures)
    (ap (image_of c.image.new.self.program.sig c.image.new.self.names) (sym w)
    ∙ c.in_ok-image.ensures.image) in
    let parts : (c.in_ok-parts.parts.head ≡ constant s.number) ×
    (c.in_ok-parts.parts.arguments.items ≡ s.images) =
    c.in_ok-parts.ensures (constant s.number) s.images s.is s.many in
    subst (λ (q : Pattern). HasNoVariable q × IsOverContext c.image.new.self q) (sym parts.0)
    (head_over c.image.new.self c.args.function.0 s.number s.is_head)

pub all_compared-requires-clause-images : goal.all_compared-requires-clause-images
all_compared-requires-clause-images c =
    let h : AreCalled c.args.cx.now.program.sig c.args.function.0 c.args.subst.now c.args.args.now
    (forest c.args.terms.now) =
    record {
      signature = c.requires.signature;
      symbol = c.requires.symbol;
      variables = c.requires.sorted.0;
      refs = c.requires.sorted.1;
      are = record {
        sorted = c.requires.sorted.2;
        respects = c.requires.sorted.3;
        make = c.requires.makes;
      };
    } in
    let w : plain_pattern c.in_ok-whole.whole ≡ call c.in-Call.field-0.0
    (sort_numbers c.in-Call.field-1.items) (plain_patterns c.in-Call.wholes.items) =
    ap plain_pattern c.in-Call.is
    ∙ plain-Call c.in-Call.field-0 c.in-Call.field-1 c.in-Call.wholes in
    let s : IsSplit c.image.new.self c.args.function.0 c.args.args.now c.in-Call.wholes.items
    (forest c.args.terms.now) c.in_ok-image.image =
    split c.args.cx.now c.image.new.self c.args.function.0 c.args.subst.now c.args.args.now
    c.in-Call.wholes.items (forest c.args.terms.now) c.in_ok-image.image c.in-Call.field-0.0
    (sort_numbers c.in-Call.field-1.items)
    h c.in_ok-image.ensures.grown (sym w ∙ c.in_ok-whole.ensures)
    (ap (image_of c.image.new.self.program.sig c.image.new.self.names) (sym w)
    ∙ c.in_ok-image.ensures.image) in
    let parts : (c.in_ok-parts.parts.head ≡ constant s.number) ×
    (c.in_ok-parts.parts.arguments.items ≡ s.images) =
    c.in_ok-parts.ensures (constant s.number) s.images s.is s.many in
    subst (λ (ws : List RulePat). AreImages c.image.new.self.program.sig c.image.new.self.names
    (plain_patterns ws) c.deref-2.result.now) (sym c.deref.ensures.value)
    (subst (λ (qs : List Pattern). AreImages c.image.new.self.program.sig c.image.new.self.names
    (plain_patterns c.in-Call.wholes.items) qs) (sym (c.deref-2.ensures.value ∙ parts.1))
    s.are_images)

pub returns-clause-says : goal.returns-clause-says
returns-clause-says c =
    let h : AreCalled c.args.cx.now.program.sig c.args.function.0 c.args.subst.now c.args.args.now
    (forest c.args.terms.now) =
    record {
      signature = c.requires.signature;
      symbol = c.requires.symbol;
      variables = c.requires.sorted.0;
      refs = c.requires.sorted.1;
      are = record {
        sorted = c.requires.sorted.2;
        respects = c.requires.sorted.3;
        make = c.requires.makes;
      };
    } in
    let w : plain_pattern c.in_ok-whole.whole ≡ call c.in-Call.field-0.0
    (sort_numbers c.in-Call.field-1.items) (plain_patterns c.in-Call.wholes.items) =
    ap plain_pattern c.in-Call.is
    ∙ plain-Call c.in-Call.field-0 c.in-Call.field-1 c.in-Call.wholes in
    let s : IsSplit c.image.new.self c.args.function.0 c.args.args.now c.in-Call.wholes.items
    (forest c.args.terms.now) c.in_ok-image.image =
    split c.args.cx.now c.image.new.self c.args.function.0 c.args.subst.now c.args.args.now
    c.in-Call.wholes.items (forest c.args.terms.now) c.in_ok-image.image c.in-Call.field-0.0
    (sort_numbers c.in-Call.field-1.items)
    h c.in_ok-image.ensures.grown (sym w ∙ c.in_ok-whole.ensures)
    (ap (image_of c.image.new.self.program.sig c.image.new.self.names) (sym w)
    ∙ c.in_ok-image.ensures.image) in
    let parts : (c.in_ok-parts.parts.head ≡ constant s.number) ×
    (c.in_ok-parts.parts.arguments.items ≡ s.images) =
    c.in_ok-parts.ensures (constant s.number) s.images s.is s.many in
    let later : AreCalled c.image.new.self.program.sig c.args.function.0 c.args.subst.now
    c.args.args.now (forest c.args.terms.now) =
    subst (λ (p : Program). AreCalled p.sig c.args.function.0 c.args.subst.now c.args.args.now
    (forest c.args.terms.now)) (sym c.in_ok-image.ensures.grown.program) h in
    if_ok c.all_compared.result
    (λ o says. split_says c.image.new.self c.all_compared.new.cx c.args.function.0 c.args.subst.now
    c.args.args.now c.in-Call.wholes.items (forest c.args.terms.now) c.in_ok-image.image
    c.in_ok-parts.parts.head c.deref-2.result.now o s later
    c.all_compared.ensures.grown parts.0 (c.deref-2.ensures.value ∙ parts.1)
    (subst (λ (ws : List RulePat). AllCompare c.all_compared.new.cx (plain_patterns c.args.args.now)
    (plain_patterns ws) c.in_ok-parts.parts.head c.deref-2.result.now o)
    c.deref.ensures.value says))
    c.all_compared.ensures.says
