use Rattle.mm_database.proofs.ClosedFrames.{closed_has_none}
use Rattle.mm_database.proofs.Continued.{leaves_is_valid, continued_leaves, axiom_is_fine}
use Rattle.mm_database.proofs.Continued.{appended_compressed, theorem_is_fine}
use Rattle.mm_database.proofs.Compressed.{proof_text_is_plain}
use Rattle.mm_database.proofs.Texts.{appended_is_fine, written_is_fine}
use Rattle.mm_database.proofs.Stated.{appended_states}
use Rattle.mm_database.proofs.WrittenForms.{plain_tokens_say, proof_tokens_say}
use Rattle.mm_database.proofs.laws.database_laws.Goals as goal

pub returns-clause-appended : goal.returns-clause-appended
returns-clause-appended a = appended_is_fine

pub returns-clause-states : goal.returns-clause-states
returns-clause-states a = appended_states

pub returns-clause-written : goal.returns-clause-written
returns-clause-written a = written_is_fine

pub returns-clause-plain : goal.returns-clause-plain
returns-clause-plain a = plain_tokens_say

pub returns-clause-proof : goal.returns-clause-proof
returns-clause-proof a = proof_tokens_say

pub returns-clause-valid : goal.returns-clause-valid
returns-clause-valid a = leaves_is_valid

pub returns-clause-continued : goal.returns-clause-continued
returns-clause-continued a = continued_leaves

pub returns-clause-axiom : goal.returns-clause-axiom
returns-clause-axiom a = axiom_is_fine

pub returns-clause-theorem : goal.returns-clause-theorem
returns-clause-theorem a = theorem_is_fine

pub returns-clause-proof_text : goal.returns-clause-proof_text
returns-clause-proof_text a = proof_text_is_plain

pub returns-clause-compressed : goal.returns-clause-compressed
returns-clause-compressed a = appended_compressed

pub returns-clause-closed : goal.returns-clause-closed
returns-clause-closed a = closed_has_none
