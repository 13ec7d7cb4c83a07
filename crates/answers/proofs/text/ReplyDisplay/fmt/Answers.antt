use Rattle.answers.proofs.text.ReplyDisplay.fmt.Goals as goal

pub returns-in-MoverReady-clause-writes : goal.returns-in-MoverReady-clause-writes
returns-in-MoverReady-clause-writes g c = simp c.in-MoverReady.is c.write-in-MoverReady.ensures.writes
