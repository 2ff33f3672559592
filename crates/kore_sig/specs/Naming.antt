-- The names of the modules, one after another.
use Rattle.std.specs.Prelude.{ℕ, List, Option}
use Rattle.kore_text.specs.Trees.{ModuleTree}
use Rattle.kore_sig.specs.FirstFault.{Fault}
use Rattle.kore_sig.specs.Noted.{first_in}
use Rattle.kore_sig.specs.SignatureFaults.{module_faults, names_after}

-- the first fault of the names of these modules, if the modules before them have those names
abbrev pub first_module : List (List ℕ) → List ModuleTree → Option Fault
first_module names modules = first_in module_faults names_after names modules
