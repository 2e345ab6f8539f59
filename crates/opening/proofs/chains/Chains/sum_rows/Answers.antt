use native.Mathlib.Omega.{arith}
use Rattle.opening.proofs.Chained.{chained_falls}
use Rattle.opening.proofs.Added.{sums_none, sums_wider, start_own, start_room, last_in, rows_summed}
use Rattle.opening.proofs.chains.Chains.sum_rows.Goals as goal

pub add_own-requires : goal.add_own-requires
add_own-requires g c = sums_wider (omega arith) (sums_none c.args.self.now.ledger.size.hours c.args.sums.now c.requires.sums_len c.clear.ensures)

pub add_chain-requires-clause-last_bound : goal.add_chain-requires-clause-last_bound
add_chain-requires-clause-last_bound g c = last_in c.requires.n_bound (g.T.Test.link c.args.self.now.ledger.size.hours c.args.self.now.ledger.words.now) c.args.self.now.chained

pub add_chain-requires-clause-falling : goal.add_chain-requires-clause-falling
add_chain-requires-clause-falling g c = chained_falls c.args.self.now.chained

pub add_chain-requires-clause-sums : goal.add_chain-requires-clause-sums
add_chain-requires-clause-sums g c =
    start_room c.args.sums.now c.requires.sums_len c.clear.ensures c.add_own.ensures.sums c.add_own.ensures.most

pub returns : goal.returns
returns g c =
    rows_summed c.requires.n_bound g.T.Test.link c.args.self.now.chained g.T.Test.own g.T.Test.share
    (start_own c.args.sums.now c.requires.sums_len c.clear.ensures c.add_own.ensures.sums) c.add_chain.ensures
