-- `hand_out`: the words came back at the front where they fit.
use borrow.Author.Tests.{le-leb, lt-leb}
use Rattle.luddrisa.proofs.Handing.{fitting, too_long}
use Rattle.luddrisa.proofs.hand_out.Goals as goal

pub returns-then-ws-out : goal.returns-then-ws-out
returns-then-ws-out c = search (fitting, le-leb)

pub returns-else-ws-out : goal.returns-else-ws-out
returns-else-ws-out c = search (too_long, lt-leb)
