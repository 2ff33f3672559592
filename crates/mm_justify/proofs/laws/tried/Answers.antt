use Rattle.mm_justify.proofs.ImageTexts.{tried_images, tried_last_resorts}
use Rattle.mm_justify.proofs.FrameCases.{tried_frames}
use Rattle.mm_justify.proofs.SmallTexts.{small_justifies, conclusion_is_no_axiom}
use Rattle.mm_justify.proofs.laws.tried.Goals as goal

pub returns-clause-justifies : goal.returns-clause-justifies
returns-clause-justifies a = small_justifies

pub returns-clause-refuses : goal.returns-clause-refuses
returns-clause-refuses a = conclusion_is_no_axiom

pub returns-clause-frames : goal.returns-clause-frames
returns-clause-frames a = tried_frames

pub returns-clause-images : goal.returns-clause-images
returns-clause-images a = tried_images

pub returns-clause-last_resorts : goal.returns-clause-last_resorts
returns-clause-last_resorts a = tried_last_resorts
