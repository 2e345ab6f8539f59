use mathlib.Core.Path.{◌≡◌, sym, ap, ◌∙◌}
use mathlib.Core.Bool.{Bool, true, false, not, ◌&&◌}
use mathlib.Core.List.{List}
use Prim.Native.Nat.{ℕ}
use Rattle.words.specs.Lists.{all_below}
use Rattle.rules.specs.Pick.{◌gives◌else◌}
use Rattle.rules.specs.Layout.{hours, used}
use Rattle.rules.specs.Sound.{sound}
use Rattle.rules.specs.Open.{balanced_row, balanced_tree, unbalanced, open_number}
use Rattle.opening.proofs.check_open.Goals as goal

unsound : (l : List ℕ) → sound l ≡ false → 1 ≡ open_number l
unfolding open_number
unsound l e = sym (ap (λ (b : Bool). not b gives 1 else (unbalanced l gives 20 else 0)) e)

-- of the same words, and their hours
judged : (l : List ℕ) → sound l ≡ true → {k : List ℕ} → k ≡ l → {H : ℕ} → H ≡ hours k → (b : Bool) → b ≡ (all_below (used k) (λ n. balanced_row H k n) && all_below (used k) (λ n. balanced_tree H k n)) → (not b gives 20 else 0) ≡ open_number l
unfolding open_number unbalanced
judged l s {k} is {H} h b q =
    ap (λ (x : Bool). not x gives 20 else 0) q
    ∙ ap (λ (H : ℕ). not (all_below (used k) (λ n. balanced_row H k n) && all_below (used k) (λ n. balanced_tree H k n)) gives 20 else 0) h
    ∙ ap (λ (k : List ℕ). unbalanced k gives 20 else 0) is
    ∙ sym (ap (λ (b : Bool). not b gives 1 else (unbalanced l gives 20 else 0)) s)

pub returns-in_default : goal.returns-in_default
returns-in_default c = unsound _ c.in_default.ensures

pub returns-then-not-balanced : goal.returns-then-not-balanced
returns-then-not-balanced c =
    let of = c.in-Some in
    judged _ of.ensures.0 of.ensures.1 of.ledger.sound_at.hours false (sym c.if-not-balanced.true ∙ c.balanced.ensures)

pub returns : goal.returns
returns c =
    let of = c.in-Some in
    judged _ of.ensures.0 of.ensures.1 of.ledger.sound_at.hours true (sym c.if-not-balanced.false ∙ c.balanced.ensures)
