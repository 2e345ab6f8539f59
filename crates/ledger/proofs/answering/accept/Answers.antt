use Rattle.std.proofs.Common.{ℕ, sym, subst, arith}
use Rattle.rules.proofs.Passed.{PostPassed}
use Rattle.rules.proofs.Soundness.{number_passed, both_facts}
use Rattle.paths.specs.Exceeding.{Postings}
use Rattle.ledger.proofs.Laws.{coded, names_row, both_at, passes_of, post_asks, postings_stay, posting_leaves}
use Rattle.ledger.proofs.answering.accept.Goals as goal

pub size_of-size-requires : goal.size_of-size-requires
size_of-size-requires c = (both_facts c.args.l.now c.args.postings.now c.requires.0).0

pub accept_submission-requires-clause-passes : goal.accept_submission-requires-clause-passes
accept_submission-requires-clause-passes c = passes_of c.args.l.now c.args.postings.now c.args.known.request.words.now c.args.known.request.action c.size_of-size.ensures c.requires.0 c.requires.1

pub accept_clock-requires-clause-passes : goal.accept_clock-requires-clause-passes
accept_clock-requires-clause-passes c = passes_of c.args.l.now c.args.postings.now c.args.known.request.words.now c.args.known.request.action c.size_of-size.ensures c.requires.0 c.requires.1

pub post-requires-clause-postings : goal.post-requires-clause-postings
post-requires-clause-postings c =
    subst (λ (h : ℕ). Postings h c.args.postings.now) (sym c.size_of-size.ensures.hours) (both_at c.args.l.now c.args.postings.now c.requires.0).1

pub post-requires-clause-post_passed : goal.post-requires-clause-post_passed
post-requires-clause-post_passed c =
    subst (λ (h : ℕ). PostPassed h c.args.known.request.words.now c.args.known.request.action) (sym c.size_of-size.ensures.hours)
    (post_asks _ c.args.l.now c.args.known.request.words.now c.args.known.request.action (number_passed c.args.l.now c.args.postings.now c.args.known.request.words.now c.args.known.request.action c.requires.1).kind (coded c.args.known c.in-Post.is))

pub accept_named-requires : goal.accept_named-requires
accept_named-requires c =
    record {
      passes = passes_of c.args.l.now c.args.postings.now c.args.known.request.words.now c.args.known.request.action c.size_of-size.ensures c.requires.0 c.requires.1;
      kind = names_row c.args.known c.in-SellerStatus.is;
    }

pub returns-in-Submit : goal.returns-in-Submit
returns-in-Submit c =
    let k = coded c.args.known c.in-Submit.is in
    let e = rw c.size_of-size.ensures.hours at c.accept_submission.ensures in
    record { answer = e.answer; ledger = e.ledger; postings = postings_stay _ c.args.postings.now c.args.known.request.words.now c.args.known.request.action (λ z. omega (arith, z, k)) }

pub returns-in-Clock : goal.returns-in-Clock
returns-in-Clock c =
    let k = coded c.args.known c.in-Clock.is in
    let e = rw c.size_of-size.ensures.hours at c.accept_clock.ensures in
    record { answer = e.answer; ledger = e.ledger; postings = postings_stay _ c.args.postings.now c.args.known.request.words.now c.args.known.request.action (λ z. omega (arith, z, k)) }

pub returns-in-Post : goal.returns-in-Post
returns-in-Post c =
    let k = coded c.args.known c.in-Post.is in
    let e = rw c.size_of-size.ensures.hours at c.post.ensures in
    let p = posting_leaves _ c.args.l.now c.args.postings.now c.args.known.request.words.now c.args.known.request.action k c.refused.ensures e in
    record { answer = p.0; ledger = p.1.0; postings = p.1.1 }

pub returns-in-SellerStatus : goal.returns-in-SellerStatus
returns-in-SellerStatus c =
    let e = rw c.size_of-size.ensures.hours at c.accept_named.ensures in
    record { answer = e.answer; ledger = e.ledger; postings = postings_stay _ c.args.postings.now c.args.known.request.words.now c.args.known.request.action (names_row c.args.known c.in-SellerStatus.is).2 }
