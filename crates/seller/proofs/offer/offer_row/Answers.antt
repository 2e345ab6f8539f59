use Rattle.seller.proofs.Laws.{priced_words}
use Rattle.seller.proofs.offer.offer_row.Goals as goal

pub give_row-requires-clause-sound_words : goal.give_row-requires-clause-sound_words
give_row-requires-clause-sound_words c = priced_words c.requires.r_len c.requires.sound_words c.requires.price c.price_row.ensures
