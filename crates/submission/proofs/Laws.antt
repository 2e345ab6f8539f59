-- What a sound ledger and an accepted submission have.
use mathlib.Core.Path.{◌≡◌, sym, ap, subst, ◌∙◌}
use mathlib.Core.Bool.{false}
use mathlib.Core.List.{List}
use Prim.Native.Nat.{ℕ, ◌+◌, ◌≤◌, ◌<◌}
use native.Mathlib.Omega.{arith}
use lib.ListN.{length, get_or}
use lib.Seq.{sets, sets-eq}
use Rattle.words.specs.Lists.{splice}
use Rattle.rules.specs.Numbers.{row_words, requested_part}
use Rattle.rules.specs.Layout.{hours, used, row, set_hours}
use Rattle.rules.specs.Megawatts.{carries_over}
use Rattle.rules.specs.Checks.{profile}
use Rattle.rules.specs.Submit.{submit_number, new_words, new_row, submit_after}
use Rattle.rules.specs.declared.Action.{Action}
use Rattle.rules.proofs.Passed.{profile_length, submit_passed}
use Rattle.rules.proofs.Over.{over_submitting}
use Rattle.layout.specs.SoundAt.{SoundAt}
use Rattle.layout.proofs.Lent.{row_lent_length, row_back}
use Rattle.layout.proofs.SoundAt.{sized_at, head_fits}

-- past the rows of a sound ledger there is nothing
pub none_past : {l : List ℕ} {R H : ℕ} → SoundAt l R H → (n : ℕ) → R ≤ n → (k : ℕ) → get_or (row H l n) k 0 ≡ 0
none_past {l} s n le k = subst (λ (x : ℕ). get_or (row x l n) k 0 ≡ 0) (sym s.hours) (s.sound.unused n (omega (arith, le, s.sound.head.used, s.rows)) k)

-- ---- an accepted submission has a row, a profile in its slice, and room for it in the row
module _ {l : List ℕ} {R H : ℕ} (s : SoundAt l R H) (w : List ℕ) (a : Action) (e : submit_number H l w a ≡ 0) where
  pub row_free : used l < R
  row_free = omega (arith, (submit_passed H l w a e).room, s.sound.head.used, s.rows)

  pub profile_in : a.offset + a.length ≤ length w
  profile_in = (submit_passed H l w a e).profile.fits

  pub profile_fits : a.start + length (profile w a) ≤ H
  profile_fits =
      let p = submit_passed H l w a e in
      omega (arith, profile_length p.profile, p.starts, p.stops)

  -- it carries no word over 100,000
  pub submit_over : carries_over H (submit_after H l w a) ≡ false
  submit_over =
      let p = submit_passed (hours l) l w a (subst (λ (x : ℕ). submit_number x l w a ≡ 0) s.hours e) in
      subst (λ (x : ℕ). carries_over x (submit_after x l w a) ≡ false) (sym s.hours)
      (over_submitting s.sound (omega (arith, row_free, s.rows)) w a p.starts p.stops (profile_length p.profile))

-- ---- the words of the new row, stored one after another
pub words_stored : (r : List ℕ) (a : Action) → row_words ≤ length r → sets r 0 (new_words a) ≡ splice r 0 (new_words a)
unfolding new_words splice
words_stored r a h = sets-eq (new_words a) r 0 (omega arith)

-- the row as it is written with the action's profile, which was lent as v
pub row_written : (H : ℕ) (w : List ℕ) (a : Action) (r : List ℕ) {v u : List ℕ} → v ≡ profile w a
    → u ≡ set_hours H requested_part a.start v (splice r 0 (new_words a))
    → u ≡ new_row H w a r
unfolding new_row
row_written H w a r e h = h ∙ ap (λ (x : List ℕ). set_hours H requested_part a.start x (splice r 0 (new_words a))) e

-- for what an accepted one writes
pub ruleset accepted = (head_fits, sized_at, row_free, profile_in, profile_fits, row_lent_length, row_back, row_written)
