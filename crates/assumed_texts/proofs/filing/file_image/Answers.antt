use Rattle.assumed_texts.proofs.FilingLaws.{filed-pushed}
use Rattle.assumed_texts.proofs.filing.file_image.Goals as goal

pub returns-in_default : goal.returns-in_default
returns-in_default c =
    filed-pushed c.args.names.now c.args.image.now c.in_ok-share.field-0
    c.args.filed.now.by_text c.args.filed.now.others.items c.push.new.self.items
    c.in_ok-share.ensures c.in_ok-push.ensures.items
