-- Postings: what is sound of them, and what a posting leaves.
use mathlib.Core.Path.{◌≡◌, refl, ap, ◌∙◌}
use mathlib.Core.Logic.{◌≢◌, ◌⊎◌, inl, inr}
use mathlib.Core.Bool.{Bool, true, ◌&&◌}
use mathlib.Core.List.{List}
use Prim.Native.Nat.{ℕ, suc, ◌+◌, ◌-◌, ◌*◌, ◌≤◌, ◌<◌}
use native.Mathlib.Nat.{mul-le-mul_right, suc-mul}
use native.Mathlib.Omega.{arith}
use borrow.Author.Tests.{eqb-true, eq-eqb}
use lib.Dec.{eqb}
use lib.ListN.{length, get_or}
use Rattle.words.specs.Lists.{within}
use Rattle.words.proofs.Laws.{lt_or_le, and_left, and_right, within_at, within_all, splice_length, splice_before, splice_in, splice_after}
use Rattle.rules.specs.Numbers.{most_path, most_megawatts}
use Rattle.rules.specs.Checks.{profile}
use Rattle.rules.specs.Paths.{posting_at, posted_in, sound_postings}
use Rattle.rules.specs.Post.{posted}
use Rattle.rules.specs.declared.Action.{Action}
use Rattle.rules.proofs.Passed.{PostPassed, words_length}

pub record SoundPostings (H : ℕ) (ps : List ℕ) : Type 0 where
  pub long : length ps ≡ most_path * H
  pub most : within most_megawatts ps ≡ true

pub postings_facts : (H : ℕ) (ps : List ℕ) → sound_postings H ps ≡ true → SoundPostings H ps
unfolding sound_postings
postings_facts H ps e = record { long = eqb-true _ _ (and_left (eqb (length ps) (most_path * H)) _ e); most = and_right (eqb (length ps) (most_path * H)) _ e }

pub facts_postings : (H : ℕ) (ps : List ℕ) → SoundPostings H ps → sound_postings H ps ≡ true
unfolding sound_postings
facts_postings H ps s = ap (λ (b : Bool). b && within most_megawatts ps) (eq-eqb _ _ s.long) ∙ s.most

-- a path's hours end where those of a later path start
paths_apart : (H : ℕ) {x y : ℕ} → 1 ≤ x → x < y → (x - 1) * H + H ≤ (y - 1) * H
paths_apart H {x} {y} least lt =
    let step : suc (x - 1) ≤ y - 1 = omega (arith, least, lt) in
    omega (arith, mul-le-mul_right H step, suc-mul (x - 1) H)

module _ {H : ℕ} {ps w : List ℕ} {a : Action} (S : SoundPostings H ps) (P : PostPassed H w a) where
  abbrev place : ℕ
  place = posting_at H a.path a.start

  -- the words written are those of the path's hours from start to stop
  ends : place + length (profile w a) ≡ (a.path - 1) * H + a.stop
  unfolding posting_at
  ends = omega (arith, words_length P.words, P.starts)

  room : place + length (profile w a) ≤ length ps
  room =
      let last : a.path < suc most_path = omega (arith, P.path.1) in
      let m : (suc most_path - 1) * H ≡ most_path * H = refl in
      omega (arith, ends, P.stops, S.long, paths_apart H P.path.0 last, m)

  pub posted_sound : SoundPostings H (posted H ps w a)
  unfolding posted
  posted_sound = record { long = splice_length ps place (profile w a) room ∙ S.long; most = within_all most_megawatts (posted H ps w a) word }
    where
      word : (i : ℕ) → i < length (posted H ps w a) → get_or (posted H ps w a) i 0 ≤ most_megawatts
      word i lt = go (lt_or_le i place) (lt_or_le i (place + length (profile w a)))
        where
          in_list : i < length ps
          in_list = omega (arith, lt, splice_length ps place (profile w a) room)

          go : (i < place) ⊎ (place ≤ i) → (i < place + length (profile w a)) ⊎ (place + length (profile w a) ≤ i) → get_or (posted H ps w a) i 0 ≤ most_megawatts
          go (inl u) v = omega (arith, splice_before ps place (profile w a) room i u, within_at most_megawatts ps S.most i in_list)
          go (inr u) (inr v) = omega (arith, splice_after ps place (profile w a) room i v, within_at most_megawatts ps S.most i in_list)
          go (inr u) (inl v) =
              let k : place + (i - place) ≡ i = omega (arith, u) in
              let below : i - place < length (profile w a) = omega (arith, u, v) in
              omega (arith, ap (λ (j : ℕ). get_or (posted H ps w a) j 0) k, splice_in ps place (profile w a) room (i - place) below, within_at most_megawatts (profile w a) P.words.most (i - place) below)

  -- the other paths' postings stay
  pub posted_other : (x h : ℕ) → 1 ≤ x → h < H → x ≢ a.path → posted_in H (posted H ps w a) x h ≡ posted_in H ps x h
  unfolding posted posted_in posting_at
  posted_other x h least lt ne = go (lt_or_le x a.path)
    where
      go : (x < a.path) ⊎ (a.path ≤ x) → posted_in H (posted H ps w a) x h ≡ posted_in H ps x h
      go (inl u) = splice_before ps place (profile w a) room ((x - 1) * H + h) (omega (arith, paths_apart H least u, lt))
      go (inr u) =
          let v : a.path < x = omega (arith, u, ne) in
          splice_after ps place (profile w a) room ((x - 1) * H + h) (omega (arith, ends, P.stops, paths_apart H P.path.0 v))
