use Rattle.std.proofs.Common.{◌∙◌, sym}
use Rattle.unwinding.proofs.Judged.{postings_at, moved_not, fitted_not, carried_is}
use Rattle.unwinding.proofs.unwinds.Goals as goal

pub returns-then-not-note_all : goal.returns-then-not-note_all
returns-then-not-note_all c =
    moved_not c.args.rows.ledger.words.now c.args.postings.now c.requires c.args.rows.ledger.sound_at c.args.refs.now
    c.if-not-note_all.ensures

pub returns-then-not-all_fit : goal.returns-then-not-all_fit
returns-then-not-all_fit c =
    fitted_not c.args.rows.ledger.words.now c.args.postings.now c.requires c.args.rows.ledger.sound_at c.args.refs.now
    c.if-not-note_all.ensures.0 c.if-not-note_all.ensures.2 (sym c.all_fit.ensures ∙ c.if-not-all_fit.true)

pub invariant_of-carrying : goal.invariant_of-carrying
invariant_of-carrying c = record {
  postings_value = postings_at c.args.rows.ledger.words.now c.args.postings.now c.requires c.args.rows.ledger.sound_at;
  movable = c.if-not-note_all.ensures.0;
}

pub returns : goal.returns
returns c =
    carried_is c.args.rows.ledger.words.now c.args.postings.now c.requires c.args.rows.ledger.sound_at c.args.refs.now
    c.if-not-note_all.ensures.0 c.if-not-note_all.ensures.2 (sym c.all_fit.ensures ∙ c.if-not-all_fit.false) c.paths_carry.ensures
