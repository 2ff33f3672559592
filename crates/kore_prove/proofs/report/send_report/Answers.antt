use Rattle.kore_prove.proofs.report.send_report.Goals as goal

pub returns-in-OutOfMemory-clause-sent : goal.returns-in-OutOfMemory-clause-sent
returns-in-OutOfMemory-clause-sent g c = rw c.in-OutOfMemory.is c.send_pieces.ensures.sent

pub returns-in-BadWords-clause-sent : goal.returns-in-BadWords-clause-sent
returns-in-BadWords-clause-sent g c = rw c.in-BadWords.is c.send_pieces-in-BadWords.ensures.sent

pub returns-in-ReadFault-clause-sent : goal.returns-in-ReadFault-clause-sent
returns-in-ReadFault-clause-sent g c = rw c.in-ReadFault.is c.send_pieces-in-ReadFault.ensures.sent

pub returns-in-WriteFault-clause-sent : goal.returns-in-WriteFault-clause-sent
returns-in-WriteFault-clause-sent g c =
    rw c.in-WriteFault.is c.send_pieces-in-WriteFault.ensures.sent

pub returns-in-NoSuchFile-clause-sent : goal.returns-in-NoSuchFile-clause-sent
returns-in-NoSuchFile-clause-sent g c =
    rw c.in-NoSuchFile.is c.send_pieces-in-NoSuchFile.ensures.sent

pub returns-in-DefinitionRefused-clause-sent : goal.returns-in-DefinitionRefused-clause-sent
returns-in-DefinitionRefused-clause-sent g c =
    rw c.in-DefinitionRefused.is c.send_refusal.ensures.sent

pub returns-in-TermRefused-clause-sent : goal.returns-in-TermRefused-clause-sent
returns-in-TermRefused-clause-sent g c =
    rw c.in-TermRefused.is c.send_refusal-in-TermRefused.ensures.sent

pub returns-in-TooLarge-clause-sent : goal.returns-in-TooLarge-clause-sent
returns-in-TooLarge-clause-sent g c = rw c.in-TooLarge.is c.send_pieces-in-TooLarge.ensures.sent

pub returns-in-HintsRefused-clause-sent : goal.returns-in-HintsRefused-clause-sent
returns-in-HintsRefused-clause-sent g c =
    rw c.in-HintsRefused.is c.send_hint_refusal.ensures.sent
