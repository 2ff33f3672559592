use Rattle.mm_proof.proofs.TextStacking.{put_one}
use Rattle.mm_proof.proofs.texts.put_word.Goals as goal

pub returns : goal.returns
returns c =
    put_one c.args.word c.args.stack.now.items c.push.new.self.items c.in_ok-push.ensures.items
