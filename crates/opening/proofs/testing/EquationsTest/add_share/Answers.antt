use mathlib.Core.Path.{◌≡◌, refl, sym, ◌∙◌}
use borrow.Author.Tests.{eq-eqb, ne_eqb}
use Rattle.words.proofs.Sums.{adds_as}
use Rattle.rules.specs.Layout.{row, reqtype}
use Rattle.rules.specs.Open.{granted_of}
use Rattle.rules.proofs.Picks.{hit, skip}
use Rattle.opening.specs.Shares.{drawn_share}
use Rattle.opening.proofs.testing.EquationsTest.add_share.Goals as goal

pub returns-then-is_nonfirm_redirect-clause-sums : goal.returns-then-is_nonfirm_redirect-clause-sums
unfolding drawn_share
returns-then-is_nonfirm_redirect-clause-sums c =
    let e : c.word-is_nonfirm_redirect.result ≡ reqtype (row c.args.entry.ledger.size.hours c.args.entry.ledger.words.now c.args.entry.n) = c.word-is_nonfirm_redirect.ensures ∙ cc (c.row.ensures.words, c.row.ensures.size, c.row.ensures.n) in
    adds_as (λ h lt. hit _ _ _ (eq-eqb _ _ (sym e ∙ c.if-is_nonfirm_redirect.true))) c.add_held.ensures

pub returns-else-is_nonfirm_redirect-clause-sums : goal.returns-else-is_nonfirm_redirect-clause-sums
unfolding drawn_share granted_of
returns-else-is_nonfirm_redirect-clause-sums c =
    let e : c.word-is_nonfirm_redirect.result ≡ reqtype (row c.args.entry.ledger.size.hours c.args.entry.ledger.words.now c.args.entry.n) = c.word-is_nonfirm_redirect.ensures ∙ cc (c.row.ensures.words, c.row.ensures.size, c.row.ensures.n) in
    adds_as (λ h lt. skip _ _ _ _ (ne_eqb _ _ (λ q. c.if-is_nonfirm_redirect.false (e ∙ q))) refl) c.add_profile.ensures
