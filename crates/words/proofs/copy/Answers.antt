use Rattle.std.proofs.Common.{arith, rules, sym, ◌∙◌}
use lib.Seq.{ext_get_or}
use Rattle.words.proofs.copy.Goals as goal

pub returns : goal.returns
returns c =
    ext_get_or 0 _ _ (c.each_word.ensures.len ∙ sym c.requires) (λ i h. let e = c.each_word.ensures.each i (omega (arith, h, c.each_word.ensures.len)) in search rules)
