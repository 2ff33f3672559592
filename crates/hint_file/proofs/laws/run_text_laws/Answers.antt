use Rattle.hint_file.proofs.OneText.{hint_text_is_one}
use Rattle.hint_file.proofs.laws.run_text_laws.Goals as goal

pub returns : goal.returns
returns a = hint_text_is_one
