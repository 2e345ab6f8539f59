use mathlib.Core.Path.{ap, ◌∙◌}
use mathlib.Core.Bool.{not}
use mathlib.Core.List.{List}
use Prim.Native.Nat.{ℕ}
use lib.ListN.{get_or}
use Rattle.paths.specs.Changes.{use_by}
use Rattle.paths.proofs.Posted.{exceeds_by, posted_each}
use Rattle.paths.proofs.exceeding.Judged.exceeds.Goals as goal

pub returns : goal.returns
returns c =
    let p = c.args.self.posted in
    let h = p.ledger.size.hours in
    let x = c.args.path.number in
    ap not c.all_covered.ensures
    ∙ exceeds_by h p.postings.now (λ y k. use_by h p.ledger.words.now c.args.self.change y k) x _ c.add_rows.ensures
    (λ k lt.
    ap (λ (v : List ℕ). get_or v k 0) c.of_path.ensures.is ∙ posted_each p.postings_value c.args.path.in_range k lt)
