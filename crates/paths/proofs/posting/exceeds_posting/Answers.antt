use mathlib.Core.Path.{ap, ◌∙◌}
use mathlib.Core.Bool.{not}
use mathlib.Core.List.{List}
use Prim.Native.Nat.{ℕ}
use lib.ListN.{get_or}
use Rattle.words.specs.Lists.{splice}
use Rattle.rules.specs.Paths.{posting_at, use_of, over_posted}
use Rattle.rules.proofs.OverPaths.{exceeds}
use Rattle.paths.proofs.Posted.{exceeds_by}
use Rattle.paths.proofs.Overlaid.{overlaid_each}
use Rattle.paths.proofs.posting.exceeds_posting.Goals as goal

pub returns : goal.returns
unfolding over_posted exceeds
returns c =
    let p = c.args.posted in
    let h = p.ledger.size.hours in
    let x = c.args.path.number in
    let s = c.args.start in
    let v = c.args.profile.now in
    ap not c.is_covered.ensures
    ∙ exceeds_by h (splice p.postings.now (posting_at h x s) v) (λ y k. use_of h p.ledger.words.now y k) x _
    c.add_use.ensures
    (λ k lt.
    ap (λ (z : List ℕ). get_or (splice z s v) k 0) c.of_path.ensures.is
    ∙ overlaid_each p.postings_value c.args.path.in_range s v c.requires.0 k lt)
