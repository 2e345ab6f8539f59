-- The column of hour h of a ledger of H hours, with a tally.
use mathlib.Core.List.{List}
use Prim.Native.Nat.{ℕ, suc}
use lib.Dec.{ltb}
use lib.IntN.{ℤ, pos}
use Rattle.words.specs.Lists.{word_at}
use Rattle.column.specs.Column.{Col}
use Rattle.rules.specs.Pick.{pick}
use Rattle.rules.specs.Numbers.{granted_part, available_part, displaced_part, reduced_part}
use Rattle.rules.specs.Layout.{used, row, reqtype, status, related, path, hour_at}
use Rattle.rules.specs.Tally.{Tally, reduced_sum}

-- out k n is sum k of row n's entry (resold, redirected, transferred, relinquished), red n its reduced
abbrev pub view : ℕ → ℕ → List ℕ → (ℕ → ℕ → ℤ) → (ℕ → ℤ) → Col
view H h l out red = record {
  used = used l;
  ty = λ n. reqtype (row H l n);
  st = λ n. status (row H l n);
  ref = λ n. related (row H l n);
  path = λ n. path (row H l n);
  g = λ n. word_at (row H l n) (hour_at H granted_part h);
  a = λ n. word_at (row H l n) (hour_at H available_part h);
  d = λ n. word_at (row H l n) (hour_at H displaced_part h);
  r = λ n. word_at (row H l n) (hour_at H reduced_part h);
  out = out;
  red = red;
}

-- of a tally
abbrev pub out_of : Tally → ℕ → ℕ → ℕ → ℤ
out_of t h k n = pick (ltb k reduced_sum) ((t (suc n)).sum k h) (pos 0)

abbrev pub red_of : Tally → ℕ → ℕ → ℤ
red_of t h n = (t (suc n)).sum reduced_sum h

abbrev pub view_of : ℕ → ℕ → List ℕ → Tally → Col
view_of H h l t = view H h l (out_of t h) (red_of t h)
