use Rattle.std.proofs.Common.{take}
use Rattle.assumed_texts.specs.Filing.{AreFiled}
use Rattle.assumed_texts.proofs.filing.file_all.Given as goal

abbrev pub invariant-loop-image : goal.invariant-loop-image
invariant-loop-image l =
    AreFiled l.names (take l.image-index l.images) l.filed.by_text l.filed.others.items
