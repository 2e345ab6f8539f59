use mathlib.Core.Path.{sym, ap, ◌∙◌}
use lib.ListN.{length}
use Rattle.words.specs.Lists.{noughts}
use Rattle.words.proofs.Laws.{noughts_length}
use Rattle.opening.proofs.Added.{links_unchained, links_chained}
use Rattle.opening.proofs.chains.chain_rows.Goals as goal

pub chain-requires-clause-unchained : goal.chain-requires-clause-unchained
chain-requires-clause-unchained g c =
    links_unchained c.args.ledger.sound_at _ c.link_rows.ensures.links c.link_rows.ensures.low (ap length c.clear.ensures ∙ noughts_length _ ∙ c.requires.lasts_len) c.requires.befores_len

pub chain-requires-clause-lasts_value : goal.chain-requires-clause-lasts_value
chain-requires-clause-lasts_value g c =
    c.clear.ensures ∙ ap noughts (sym (ap length c.clear.ensures ∙ noughts_length _))

pub returns : goal.returns
returns g c = links_chained c.args.ledger.sound_at _ c.link_rows.ensures.links c.chain.ensures
