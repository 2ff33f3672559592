use Rattle.kore_sig.proofs.UniqueLaws.{first_is_one, signature_is_one}
use Rattle.kore_sig.proofs.laws.signature_laws.Goals as goal

pub returns : goal.returns
returns c = record { first = first_is_one; one = signature_is_one }
