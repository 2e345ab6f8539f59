use Rattle.std.proofs.Common.{◌-◌, arith, rules}
use Rattle.words.proofs.Laws.{zip_is, covered_at}
use Rattle.words.proofs.subtract.Goals as goal

pub each_word-requires-clause-callable : goal.each_word-requires-clause-callable
each_word-requires-clause-callable c = λ i h. let less = covered_at c.args.src.now c.args.dst.now c.requires.dst_value i (omega arith) in search rules

pub returns : goal.returns
returns c = zip_is ◌-◌ _ _ _ c.each_word.ensures.len (λ i h. let e = c.each_word.ensures.each i h in search rules)
