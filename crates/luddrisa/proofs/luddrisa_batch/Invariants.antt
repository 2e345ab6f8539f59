-- What the loop of `luddrisa_batch` keeps: so many actions are done, and what is left leads to where all of them lead.
use Rattle.luddrisa.proofs.Fold.{Turned}
use Rattle.luddrisa.proofs.luddrisa_batch.Given as goal

abbrev pub invariant-loop-i : goal.invariant-loop-i
invariant-loop-i l = Turned l.sound l.fn.ledger l.fn.postings l.words l.actions l.fn.answers l.i l.ledger l.postings l.answers
