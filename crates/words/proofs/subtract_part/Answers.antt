use Rattle.std.proofs.Common.{◌-◌, arith}
use Rattle.words.proofs.Laws.{zip_front, zip_back}
use Rattle.words.proofs.subtract_part.Goals as goal

pub returns-then-to-count : goal.returns-then-to-count
returns-then-to-count c =
    let s = c.split_at_mut-front in
    zip_front ◌-◌ _ _ _ _ _ _ _ s.ensures.value c.requires.apart.second s.ensures.front_len (omega arith) c.subtract.ensures

pub returns-else-to-count : goal.returns-else-to-count
returns-else-to-count c =
    let s = c.split_at_mut-front-else-to-count in
    zip_back ◌-◌ _ _ _ _ _ _ _ s.ensures.value c.requires.apart.first s.ensures.front_len (omega (arith, c.requires.apart.apart)) c.subtract-else-to-count.ensures
