use Rattle.std.proofs.Common.{◌≡◌, ◌+◌, ◌<◌, ◌++◌, ◌∷◌, [], arith, ap, sym, ◌∙◌, List, ℕ, map, drop}
use Rattle.std.proofs.Common.{length, get_or, refl, not, Bool, true, false, cond}
use Rattle.std.specs.Option.{option_or}
use Rattle.std.specs.Prelude.{is_some}
use Rattle.rule_core.specs.Named.{number_of_name, is_among}
use Rattle.rule_core.specs.DistinctNames.{names_of}
use Rattle.kore_ast.specs.declared.tree.Module.{Module}
use Rattle.kore_ast.specs.Plain.{plain_module}
use Rattle.kore_sig.specs.FirstFault.{when}
use Rattle.kore_sig.specs.Naming.{first_module}
use Rattle.kore_sig.specs.Noted.{first_by_number}
use Rattle.kore_sig.proofs.ListLaws.{drop_step, map_step}
use Rattle.kore_sig.proofs.SetLaws.{number_among, names_push}
use Rattle.kore_sig.proofs.meaning.module_names.Goals as goal

-- whether a name was there, from whether it was added
taken : (fresh there : Bool) → fresh ≡ not there → fresh ≡ false → there ≡ true
taken fresh true e f = refl
taken fresh false e f = absurd (let never : ⊥ = cc in never)

free : (fresh there : Bool) → fresh ≡ not there → fresh ≡ true → there ≡ false
free fresh true e f = absurd (let never : ⊥ = cc in never)
free fresh false e f = refl

-- the first fault of the modules from this one on
from_here : (names : List (List ℕ)) (modules : List Module) (i : ℕ) (m : Module)
    → i < length modules → m ≡ get_or modules i m
    → first_module names (map plain_module (drop i modules))
    ≡ option_or (first_by_number (when (is_among names m.name) 5 m.at))
    (first_module (names ++ m.name ∷ []) (map plain_module (drop (i + 1) modules)))
from_here names modules i m lt is =
    ap (λ (ms : List Module). first_module names (map plain_module ms))
    (drop_step modules i m lt is)

pub returns-then-not-branch-clause-refused : goal.returns-then-not-branch-clause-refused
returns-then-not-branch-clause-refused c =
    let names = names_of c.loop-module.names in
    let m = c.module-item.result in
    let there : is_among names m.name ≡ true =
    sym (number_among c.loop-module.names m.name)
    ∙ taken c.in_ok-add_name.field-0 (is_some (number_of_name c.loop-module.names m.name))
    c.in_ok-add_name.ensures.fresh c.if-not-branch.true in
    sym c.loop-module.invariant.first
    ∙ from_here names c.args.modules.now c.loop-module.module-index m (omega arith) c.module-item.is
    ∙ ap (λ (b : Bool). option_or (first_by_number (when b 5 m.at)) (first_module
    (names ++ m.name ∷ [])
    (map plain_module (drop (c.loop-module.module-index + 1) c.args.modules.now)))) there

pub loop-module-preserved : goal.loop-module-preserved
loop-module-preserved c =
    let names = names_of c.loop-module.names in
    let m = c.module-item.result in
    let lt : c.loop-module.module-index < length c.args.modules.now = omega arith in
    let left = map plain_module (drop (c.loop-module.module-index + 1) c.args.modules.now) in
    let none : is_among names m.name ≡ false =
    sym (number_among c.loop-module.names m.name)
    ∙ free c.in_ok-add_name.field-0 (is_some (number_of_name c.loop-module.names m.name))
    c.in_ok-add_name.ensures.fresh c.if-not-branch.false in
    let named : names_of c.add_name.new.names ≡ names ++ m.name ∷ [] =
    ap names_of (c.in_ok-add_name.ensures.entries
    ∙ ap (λ (b : Bool).
    cond b (c.loop-module.names ++ (m.name, tt) ∷ []) c.loop-module.names)
    c.if-not-branch.false) ∙ names_push c.loop-module.names m.name tt in record {
      first = ap (λ (ns : List (List ℕ)). first_module ns left) named
          ∙
          sym (from_here names c.args.modules.now c.loop-module.module-index m lt
          c.module-item.is
          ∙ ap (λ (b : Bool). option_or (first_by_number (when b 5 m.at))
          (first_module (names ++ m.name ∷ []) left)) none)
          ∙ c.loop-module.invariant.first;
      named = named ∙ ap (λ (ns : List (List ℕ)). ns ++ m.name ∷ []) c.loop-module.invariant.named
          ∙
          sym (map_step (λ (x : Module).
          x.name) c.args.modules.now c.loop-module.module-index m lt c.module-item.is);
    }
