use Rattle.std.proofs.Common.{◌≡◌, ℕ, List, Option, Some, None, option_map, slice_get, sym}
use Rattle.std.proofs.Common.{ap}
use Rattle.rule_core.specs.declared.signature.SymInfo.{SymInfo}
use Rattle.ml_image.proofs.ImageLaws.{none_some, some_same}
use Rattle.ml_image.proofs.constructors.declaration.Goals as goal

there : (o : Option (List ℕ × SymInfo)) (info : SymInfo)
    → Some info ≡ option_map (λ (e : List ℕ × SymInfo). e.1) o
    → (name : List ℕ) × (o ≡ Some (name, info))
there None info is = absurd (none_some info (sym is))
there (Some e) info is = (e.0, ap (λ (i : SymInfo). Some (e.0, i)) (sym (some_same info e.1 is)))

pub returns : goal.returns
returns c =
    there (slice_get c.args.sig.now.symbols c.args.symbol.0) c.in-Some.info.now c.in-Some.ensures
