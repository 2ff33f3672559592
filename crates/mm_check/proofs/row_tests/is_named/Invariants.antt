use Rattle.std.proofs.Common.{◌≡◌, drop}
use Rattle.std.specs.Prelude.{bytes_eq}
use Rattle.std.specs.List.{list_any}
use Rattle.mm_header.specs.declared.declarations.HeaderVariable.{HeaderVariable}
use Rattle.mm_check.proofs.row_tests.is_named.Given as goal

abbrev pub invariant-loop-x : goal.invariant-loop-x
invariant-loop-x l =
    list_any (λ (x : HeaderVariable). bytes_eq x.name.now l.variable) (drop l.x-index l.known)
    ≡ list_any (λ (x : HeaderVariable). bytes_eq x.name.now l.variable) l.known
