-- There are at most as many steps as memory can hold.
use Rattle.std.proofs.Common.{◌+◌, ◌<◌, ◌^◌, length, arith}
use Rattle.std.specs.Global.{Vec}
use Rattle.mm_verify.specs.declared.letters.ReadSteps.{ReadSteps}
use Rattle.mm_frame.specs.PlainFrames.{mandatory_hypotheses}
use Rattle.mm_verify.specs.Reading.{table_of}
use Rattle.mm_verify.proofs.ReadLetters.{table-length}

few_items : {X : Type 0} (v : Vec X) → length v.items < 2 ^ 64
few_items v = grind (arith, v.small, v.ok)

pub few_steps : (r : ReadSteps)
    → length (table_of (mandatory_hypotheses r.mandatory.now) r.listed.items) + r.saved < 2 ^ 128
few_steps r =
    omega (
      arith,
      table-length (mandatory_hypotheses r.mandatory.now) r.listed.items,
      r.counted,
      few_items r.listed,
      few_items r.steps,
      r.few,
    )
