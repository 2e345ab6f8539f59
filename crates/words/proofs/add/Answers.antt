use Rattle.std.proofs.Common.{◌+◌, arith, rules}
use Rattle.words.specs.Lists.{most_word}
use Rattle.words.proofs.Laws.{zip_is, roomy_at}
use Rattle.words.proofs.add.Goals as goal

pub each_word-requires-clause-callable : goal.each_word-requires-clause-callable
each_word-requires-clause-callable c = λ i h. let room = roomy_at most_word c.args.src.now c.args.dst.now c.requires.dst_value i (omega arith) in search rules

pub returns : goal.returns
returns c = zip_is ◌+◌ _ _ _ c.each_word.ensures.len (λ i h. let e = c.each_word.ensures.each i h in search rules)
