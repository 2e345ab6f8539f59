-- A row that a row in use is related to is in use too.
use mathlib.Core.Path.{◌≡◌, sym, ap, ◌∙◌}
use mathlib.Core.Bool.{false, true}
use mathlib.Core.List.{List}
use Prim.Native.Nat.{ℕ, ◌<◌}
use native.Mathlib.Omega.{arith}
use borrow.Author.Tests.{not-true}
use Rattle.words.proofs.Laws.{and_right}
use Rattle.rules.specs.Numbers.{NONFIRM_REDIRECT}
use Rattle.rules.specs.Layout.{used, row, reqtype, related_row}
use Rattle.rules.specs.Sound.{original}
use Rattle.rules.specs.Moves.{is_confirmed}
use Rattle.rules.proofs.Types.{derived_least}
use Rattle.rules.proofs.Unwound.{gives}
use Rattle.layout.specs.SoundAt.{SoundAt}
use Rattle.unwinding.specs.declared.rows.Rows.{Rows}

module _ {l : List ℕ} {R H : ℕ} (s : SoundAt l R H) {n : ℕ} (lt : n < used l) where
  -- it is an earlier row
  related_lower : original (reqtype (row H l n)) ≡ false → related_row H l n < n
  unfolding related_row
  related_lower o =
      let h = s.hours in
      let S = s.sound in
      let t = derived_least _ (S.words n lt).type_least (ap (λ (k : ℕ). original (reqtype (row k l n))) (sym h) ∙ o) in
      let up = (S.relations n lt).up t in
      omega (arith, up.0, up.1, ap (λ (k : ℕ). related_row k l n) h)

  pub gives_above : gives H l n ≡ true → related_row H l n < used l
  unfolding gives
  gives_above g = omega (arith, related_lower (not-true _ (and_right (is_confirmed (row H l n)) _ g)), lt)

  pub derived_above : original (reqtype (row H l n)) ≡ false → related_row H l n < used l
  derived_above o = omega (arith, related_lower o, lt)

  pub redirect_above : reqtype (row H l n) ≡ NONFIRM_REDIRECT → related_row H l n < used l
  unfolding original
  redirect_above t = derived_above (ap original t)

-- a row that is below the count is in use, and in the ledger
pub in_use : (l : Rows) {n : ℕ} → n < l.used → n < used l.ledger.words.now
in_use l lt = omega (arith, lt, l.used_value)
