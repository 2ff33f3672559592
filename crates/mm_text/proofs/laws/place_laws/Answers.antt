use Rattle.mm_text.proofs.AtPlaces.{end_at, white_at, stray_at, run_at}
use Rattle.mm_text.proofs.laws.place_laws.Goals as goal

pub returns-clause-end : goal.returns-clause-end
returns-clause-end a = end_at

pub returns-clause-white : goal.returns-clause-white
returns-clause-white a = white_at

pub returns-clause-stray : goal.returns-clause-stray
returns-clause-stray a = stray_at

pub returns-clause-run : goal.returns-clause-run
returns-clause-run a = run_at
