-- Sums by hour: a profile, a share and a chain added, and the sums compared.
use mathlib.Core.Path.{◌≡◌, sym, ap, subst, ◌∙◌}
use mathlib.Core.Logic.{◌≢◌}
use mathlib.Core.Bool.{Bool, true, false, ◌||◌, not}
use mathlib.Core.List.{List}
use Prim.Native.Nat.{ℕ, ◌+◌, ◌-◌, ◌*◌, ◌≤◌, ◌<◌}
use native.Mathlib.Omega.{arith}
use lib.Dec.{eqb, leb, lit<}
use lib.ListN.{length, get_or}
use borrow.Author.Tests.{le-leb}
use Rattle.words.specs.Lists.{word_at, build, all_below, zip2, noughts, equal, roomy, most_word}
use Rattle.words.proofs.Laws.{all_cong, all_below_lem, build_length, build_at, zip_length, part_length, part_at, noughts_length, noughts_at}
use Rattle.rules.specs.Pick.{pick}
use Rattle.rules.specs.Numbers.{profiles, most_megawatts, granted_part, available_part, displaced_part, reduced_part, NONFIRM_REDIRECT}
use Rattle.rules.specs.Layout.{used, row, row_size, reqtype, hour_at, hours_of}
use Rattle.rules.specs.Open.{granted_of, held_of}
use Rattle.rules.proofs.Rows.{row_length}
use Rattle.rules.proofs.Seen.{hour_in}
use Rattle.rules.proofs.SoundFacts.{SoundHours}
use Rattle.layout.specs.SoundAt.{SoundAt}
use Rattle.layout.proofs.SoundAt.{sized_at}
use Rattle.words.specs.Sums.{Adds, Summed}
use Rattle.words.proofs.Sums.{adds_adds}
use Rattle.opening.specs.Chains.{Chained, Unchained, Falling, chain_sum}
use Rattle.opening.specs.Shares.{drawn_share, sum_of, balanced_by, most_share, most_sum, Sums}
use Rattle.opening.proofs.Chained.{last_falls, chained_as, chain_none, chain_next, chain_last}

-- ---- the hours of a row in use
module _ {l : List ℕ} {R H : ℕ} (s : SoundAt l R H) where
  pub in_rows : {n : ℕ} → n < used l → n < R
  in_rows lt = omega (arith, lt, s.rows, s.sound.head.used)

  pub few : used l ≤ 1024
  few = omega (arith, s.sound.head.used, s.sound.head.rows_most)

  words_of : {n : ℕ} → n < used l → SoundHours H (row H l n)
  words_of {n} lt = subst (λ (k : ℕ). SoundHours k (row k l n)) (sym s.hours) (s.sound.profiles n lt)

  module _ (n p : ℕ) (lt : n < used l) (plt : p < profiles) where
    hours_in : hour_at H p 0 + H ≤ length (row H l n)
    hours_in = let long : length (row H l n) ≡ row_size H = row_length (sized_at s) (in_rows lt) in omega (arith, hour_in H plt, long)

    pub hours_at : (h : ℕ) → h < H → word_at (hours_of H p 0 H (row H l n)) h ≡ word_at (row H l n) (hour_at H p h)
    hours_at h hlt =
        let e : hour_at H p 0 + h ≡ hour_at H p h = omega arith in
        part_at (row H l n) (hour_at H p 0) H hours_in h hlt ∙ ap (word_at (row H l n)) e

    pub hours_long : length (hours_of H p 0 H (row H l n)) ≡ H
    hours_long = part_length (row H l n) (hour_at H p 0) H hours_in

    module _ {sums : List ℕ} (o : Sums H (most_sum + most_share) sums) where
      pub hours_room : roomy most_word (hours_of H p 0 H (row H l n)) sums ≡ true
      unfolding roomy
      hours_room =
          all_below_lem (λ h. leb (word_at (hours_of H p 0 H (row H l n)) h + word_at sums h) most_word) (length (hours_of H p 0 H (row H l n)))
          (λ h hlt. let k : h < H = omega (arith, hlt, hours_long) in le-leb (word_at (hours_of H p 0 H (row H l n)) h + word_at sums h) most_word (omega (arith, hours_at h k, (words_of lt).most p h plt k, o.most h k)))

      pub hours_added : {next : List ℕ} → next ≡ zip2 ◌+◌ sums (hours_of H p 0 H (row H l n)) → Adds (λ h. word_at (row H l n) (hour_at H p h)) sums next
      unfolding zip2
      hours_added e = record {
        long = ap length e ∙ zip_length ◌+◌ sums (hours_of H p 0 H (row H l n));
        each = λ h hlt.
            ap (λ (x : List ℕ). get_or x h 0) e
            ∙ build_at (length sums) _ h hlt
            ∙ ap (λ (x : ℕ). get_or sums h 0 + x) (hours_at h (omega (arith, hlt, o.long)));
      }

    pub hours_compared : (sums : List ℕ) → length sums ≡ H → equal sums (hours_of H p 0 (length sums) (row H l n)) ≡ all_below H (λ h. eqb (word_at sums h) (word_at (row H l n) (hour_at H p h)))
    unfolding equal
    hours_compared sums e =
        ap (λ (k : ℕ). all_below k (λ h. eqb (word_at sums h) (word_at (hours_of H p 0 k (row H l n)) h))) e
        ∙ all_cong _ _ H (λ h hlt. ap (eqb (word_at sums h)) (hours_at h hlt))

  -- ---- shares
  module _ {n h : ℕ} (lt : n < used l) (hlt : h < H) where
    pub word_most : (p : ℕ) → p < profiles → word_at (row H l n) (hour_at H p h) ≤ most_megawatts
    word_most p plt = (words_of lt).most p h plt hlt

    pub held_most : held_of H l h n ≤ most_share
    unfolding held_of
    held_most = omega (arith, word_most available_part (lit< tt), word_most displaced_part (lit< tt), word_most reduced_part (lit< tt))

    pub drawn_most : drawn_share H l h n ≤ most_share
    unfolding drawn_share granted_of
    drawn_most = go (eqb (reqtype (row H l n)) NONFIRM_REDIRECT)
      where
        go : (b : Bool) → pick b (held_of H l h n) (word_at (row H l n) (hour_at H granted_part h)) ≤ most_share
        go true = held_most
        go false = omega (arith, word_most granted_part (lit< tt))

-- ---- room in sums
pub sums_wider : {H b b' : ℕ} {sums : List ℕ} → b ≤ b' → Sums H b sums → Sums H b' sums
sums_wider le o = record { long = o.long; most = λ h lt. omega (arith, le, o.most h lt) }

pub sums_after : {H b b' m : ℕ} {f : ℕ → ℕ} {sums next : List ℕ} → b + m ≤ b' → ((h : ℕ) → h < H → f h ≤ m) → Sums H b sums → Adds f sums next → Sums H b' next
sums_after le most o a = record { long = a.long ∙ o.long; most = λ h lt. omega (arith, le, most h lt, o.most h lt, a.each h (omega (arith, lt, o.long))) }

pub sums_none : (H : ℕ) (sums : List ℕ) {next : List ℕ} → length sums ≡ H → next ≡ noughts (length sums) → Sums H 0 next
sums_none H sums e q = record {
  long = ap length q ∙ noughts_length (length sums) ∙ e;
  most = λ h lt. omega (arith, ap (λ (x : List ℕ). get_or x h 0) q, noughts_at (length sums) h);
}

pub held_added : (H : ℕ) (l : List ℕ) (n : ℕ) {sums one two next : List ℕ}
    → Adds (λ h. word_at (row H l n) (hour_at H available_part h)) sums one → Adds (λ h. word_at (row H l n) (hour_at H displaced_part h)) one two → Adds (λ h. word_at (row H l n) (hour_at H reduced_part h)) two next
    → Adds (λ h. held_of H l h n) sums next
unfolding held_of
held_added H l n a d r = adds_adds (adds_adds a d) r

-- ---- the walk of a chain of N rows, at reference m, from reference last on: row c adds f h c
pub record Walking (N H : ℕ) (f : ℕ → ℕ → ℕ) (befores sums₀ : List ℕ) (last : ℕ) (sums : List ℕ) (m : ℕ) : Type 0 where
  pub below : m ≤ N
  pub long : length sums ≡ H
  pub each : (h : ℕ) → h < H → get_or sums h 0 + chain_sum befores (f h) m ≡ get_or sums₀ h 0 + chain_sum befores (f h) last
  pub most : (h : ℕ) → h < H → get_or sums h 0 + m * most_share ≤ get_or sums₀ h 0 + last * most_share

module _ {N H : ℕ} {f : ℕ → ℕ → ℕ} {befores sums₀ : List ℕ} {last : ℕ} {sums : List ℕ} {m : ℕ} (i : Walking N H f befores sums₀ last sums m) where
  pub walking_turn : Falling N befores → m ≢ 0 → {next : List ℕ} → Adds (λ h. f h (m - 1)) sums next → ((h : ℕ) → h < H → f h (m - 1) ≤ most_share) → Walking N H f befores sums₀ last next (get_or befores (m - 1) 0)
  walking_turn F ne a most =
      let low = F.falls (m - 1) (omega (arith, ne, i.below)) in
      record {
        below = omega (arith, low, ne, i.below);
        long = a.long ∙ i.long;
        each = λ h lt. omega (arith, i.each h lt, a.each h (omega (arith, lt, i.long)), chain_next F (f h) m ne i.below);
        most = λ h lt. omega (arith, i.most h lt, a.each h (omega (arith, lt, i.long)), most h lt, low, ne);
      }

  pub walking_room : N ≤ 1024 → last ≤ N → Sums H most_share sums₀ → Sums H most_sum sums
  walking_room few le o = record { long = i.long; most = λ h lt. omega (arith, i.most h lt, o.most h lt, few, le) }

  pub walking_done : m ≡ 0 → length sums₀ ≡ H → Adds (λ h. chain_sum befores (f h) last) sums₀ sums
  walking_done z long = record {
    long = i.long ∙ sym long;
    each = λ h lt.
        let hlt : h < H = omega (arith, lt, long) in
        omega (arith, i.each h hlt, ap (chain_sum befores (f h)) z, chain_none befores (f h));
  }

-- ---- what is held against granted of row n: its own part, and then the shares of its chain
module _ {H : ℕ} {f : ℕ → ℕ} (sums : List ℕ) (long : length sums ≡ H) {one next : List ℕ} (e : one ≡ noughts (length sums)) (a : Adds f one next) where
  pub start_own : Summed H f next
  start_own =
      let o = sums_none H sums long e in
      record { long = a.long ∙ o.long; each = λ h hlt. omega (arith, o.most h hlt, a.each h (omega (arith, hlt, o.long))) }

  pub start_room : ((h : ℕ) → h < H → f h ≤ most_share) → Sums H most_share next
  start_room most = record { long = start_own.long; most = λ h hlt. omega (arith, start_own.each h hlt, most h hlt) }

pub last_in : {N n : ℕ} → n < N → (link : ℕ → ℕ) {lasts befores : List ℕ} → Chained link N lasts befores → word_at lasts (n + 1) ≤ N
last_in {N} {n} lt link C = omega (arith, C.last (n + 1) (omega (arith, lt)), last_falls link (n + 1) N)

module _ {l : List ℕ} {H n : ℕ} (lt : n < used l) (link : ℕ → List ℕ → ℕ → ℕ) {lasts befores : List ℕ} (C : Chained (λ m. link H l m) (used l) lasts befores) where
  pub rows_summed : (own share : ℕ → List ℕ → ℕ → ℕ → ℕ) {one two : List ℕ} → Summed H (λ h. own H l h n) one → Adds (λ h. chain_sum befores (λ c. share H l h c) (word_at lasts (n + 1))) one two → Summed H (λ h. sum_of link own share H l h n) two
  unfolding sum_of
  rows_summed own share o a = record {
    long = a.long ∙ o.long;
    each = λ h hlt. omega (arith, o.each h hlt, a.each h (omega (arith, hlt, o.long)), chain_last C (λ c. share H l h c) (n + 1) (omega (arith, lt)));
  }

-- ---- and what comparing it with granted says
module _ (is_tested : ℕ → List ℕ → ℕ → Bool) (link : ℕ → List ℕ → ℕ → ℕ) (own share : ℕ → List ℕ → ℕ → ℕ → ℕ) {l : List ℕ} {H n : ℕ} {b : Bool} (t : b ≡ is_tested H l n) where
  pub told : b ≡ true → {c : Bool} {sums : List ℕ} → Summed H (λ h. sum_of link own share H l h n) sums → c ≡ all_below H (λ h. eqb (word_at sums h) (word_at (row H l n) (hour_at H granted_part h))) → c ≡ balanced_by is_tested link own share H l n
  unfolding balanced_by granted_of
  told e o q =
      q
      ∙ all_cong _ _ H (λ h hlt. ap (λ (x : ℕ). eqb x (word_at (row H l n) (hour_at H granted_part h))) (o.each h hlt))
      ∙ ap (λ (x : Bool). not x || all_below H (λ h. eqb (sum_of link own share H l h n) (word_at (row H l n) (hour_at H granted_part h)))) (sym e ∙ t)

  pub untold : b ≡ false → true ≡ balanced_by is_tested link own share H l n
  unfolding balanced_by
  untold e = ap (λ (x : Bool). not x || all_below H (λ h. eqb (sum_of link own share H l h n) (granted_of H l h n))) (sym e ∙ t)

-- ---- links that fill a table
module _ {l : List ℕ} {R H : ℕ} (s : SoundAt l R H) (link : ℕ → ℕ) {links : List ℕ} (filled : links ≡ build (used l) link) where
  pub links_unchained : ((n : ℕ) → n < used l → link n ≤ n + 1) → {lasts befores : List ℕ} → length lasts ≡ used l + 1 → length befores ≡ used l → Unchained links lasts befores
  links_unchained low p q =
      let e : length links ≡ used l = ap length filled ∙ build_length (used l) link in
      record {
        lasts_long = p ∙ ap (λ (k : ℕ). k + 1) (sym e);
        befores_long = q ∙ sym e;
        few = omega (arith, e, few s);
        low = λ n lt.
            let u : n < used l = omega (arith, lt, e) in
            omega (arith, ap (λ (x : List ℕ). word_at x n) filled, build_at (used l) link n u, low n u, e);
      }

  pub links_chained : {lasts befores : List ℕ} → Chained (λ n. word_at links n) (length links) lasts befores → Chained link (used l) lasts befores
  links_chained {lasts} {befores} c =
      let e : length links ≡ used l = ap length filled ∙ build_length (used l) link in
      chained_as (λ n lt. ap (λ (x : List ℕ). word_at x n) filled ∙ build_at (used l) link n lt)
      (subst (λ (k : ℕ). Chained (λ n. word_at links n) k lasts befores) e c)
