-- Use of a path followed as a row goes: what is freed, what is shifted, and the sums after it.
use mathlib.Core.Path.{◌≡◌, sym, ap, subst, ◌∙◌}
use mathlib.Core.Logic.{◌≢◌}
use mathlib.Core.Bool.{Bool, true, false, ◌&&◌}
use mathlib.Core.List.{List}
use Prim.Native.Nat.{ℕ, zero, suc, ◌+◌, ◌-◌, ◌*◌, ◌≤◌, ◌<◌}
use native.Mathlib.Decide.{ℕ_discrete}
use native.Mathlib.Nat.{mul-le-mul_right}
use native.Mathlib.Omega.{arith}
use lib.Dec.{leb}
use lib.ListN.{length, get_or}
use borrow.Author.Tests.{eq-eqb, ne_eqb, le-leb}
use Rattle.words.specs.Lists.{word_at, sum_below, zip2, covered}
use Rattle.words.proofs.Laws.{all_below_lem, sum_none, sum_more, build_at, zip_length}
use Rattle.rules.specs.Pick.{pick}
use Rattle.rules.specs.Numbers.{most_megawatts, granted_part, available_part}
use Rattle.rules.specs.Layout.{used, row, path, related_row, hour_at, hours_of}
use Rattle.rules.specs.Moves.{is_confirmed}
use Rattle.rules.proofs.After.{counts_by}
use Rattle.rules.proofs.Unwound.{adding, stays, gives, use_unwound}
use Rattle.layout.specs.SoundAt.{SoundAt}
use Rattle.layout.specs.Profiles.{part_of}
use Rattle.layout.specs.declared.profile.Profile.{Profile}
use Rattle.layout.proofs.Profiles.{part_below}
use Rattle.words.specs.Sums.{Takes, Summed}
use Rattle.opening.specs.Shares.{most_sum, Sums}
use Rattle.opening.proofs.Added.{few, hours_at, hours_long}
use Rattle.unwinding.specs.Order.{freed, freed_below, freed_use, returned}
use Rattle.unwinding.specs.Marks.{marked, Going}
use Rattle.unwinding.specs.Uses.{Holding, Lacking, Freeing, Shifted}
use Rattle.unwinding.specs.declared.rows.Rows.{Rows}
use Rattle.unwinding.proofs.Counted.{in_use}
use Rattle.unwinding.proofs.Steps.{use_next, lost_most, use_open, use_most}

-- ---- a profile taken off
module _ (l : Rows) (n : ℕ) (p : Profile) (lt : n < l.used) {sums : List ℕ}
    (o : Holding l.ledger.size.hours (λ h. word_at (row l.ledger.size.hours l.ledger.words.now n) (hour_at l.ledger.size.hours (part_of p) h)) sums) where
  abbrev H : ℕ
  H = l.ledger.size.hours

  abbrev own : List ℕ
  own = hours_of l.ledger.size.hours (part_of p) 0 l.ledger.size.hours (row l.ledger.size.hours l.ledger.words.now n)

  own_long : length own ≡ H
  own_long = hours_long l.ledger.sound_at n (part_of p) (in_use l lt) (part_below p)

  own_at : (h : ℕ) → h < H → word_at own h ≡ word_at (row H l.ledger.words.now n) (hour_at H (part_of p) h)
  own_at = hours_at l.ledger.sound_at n (part_of p) (in_use l lt) (part_below p)

  pub hours_fit : length own ≡ length sums
  hours_fit = own_long ∙ sym o.long

  pub hours_held : covered own sums ≡ true
  unfolding covered
  hours_held =
      all_below_lem (λ h. leb (word_at own h) (word_at sums h)) (length own)
      (λ h hlt.
      let k : h < H = omega (arith, hlt, own_long) in
      le-leb (word_at own h) (word_at sums h) (omega (arith, own_at h k, o.enough h k)))

  pub hours_taken : {next : List ℕ} → next ≡ zip2 ◌-◌ sums own
      → Takes (λ h. word_at (row l.ledger.size.hours l.ledger.words.now n) (hour_at l.ledger.size.hours (part_of p) h)) sums next
  unfolding zip2
  hours_taken e = record {
    long = ap length e ∙ zip_length ◌-◌ sums own;
    each = λ h hlt.
        ap (λ (x : List ℕ). get_or x h 0) e
        ∙ build_at (length sums) _ h hlt
        ∙ ap (λ (x : ℕ). get_or sums h 0 - x) (own_at h (omega (arith, hlt, o.long)));
  }

-- ---- rows freed, one after another
sum_part : (f : ℕ → ℕ) (i n : ℕ) → i ≤ n → sum_below i f ≤ sum_below n f
unfolding sum_below
sum_part f i zero le = let e : i ≡ 0 = omega (arith, le) in omega (arith, ap (λ (k : ℕ). sum_below k f) e)
sum_part f i (suc n) le = go (ℕ_discrete i (suc n)) (λ u. sum_part f i n u)
  where
    go : Dec (i ≡ suc n) → (i ≤ n → sum_below i f ≤ sum_below n f) → sum_below i f ≤ sum_below n f + f n
    go (yes e) g = omega (arith, ap (λ (k : ℕ). sum_below k f) e)
    go (no ne) g = omega (arith, g (omega (arith, le, ne)))

module _ (H : ℕ) (l : List ℕ) (gone : ℕ → Bool) (x n : ℕ) where
  abbrev term : ℕ → ℕ → ℕ
  term h m = pick (freed H l gone x n m) (word_at (row H l m) (hour_at H available_part h)) 0

  below_more : (h m : ℕ) → freed_below H l gone x n h (m + 1) ≡ freed_below H l gone x n h m + term h m
  unfolding freed_below
  below_more h m = sum_more (term h) m

  pub freeing_start : {sums : List ℕ} → ((h : ℕ) → h < H → freed_below H l gone x n h (used l) ≤ use_unwound H l gone x h) → Summed H (λ h. use_unwound H l gone x h) sums → Freeing H l gone x n 0 sums
  unfolding freed_below
  freeing_start most o = record {
    lacking = record { long = o.long; each = λ h lt. omega (arith, o.each h lt, sum_none (term h)) };
    most = most;
  }

module _ {H : ℕ} {l : List ℕ} {gone : ℕ → Bool} {x n m : ℕ} {sums : List ℕ} (F : Freeing H l gone x n m sums) where
  pub freeing_skip : freed H l gone x n m ≡ false → Freeing H l gone x n (m + 1) sums
  freeing_skip e = record {
    lacking = record {
      long = F.lacking.long;
      each = λ h lt.
          let none : term H l gone x n h m ≡ 0 = ap (λ (b : Bool). pick b (word_at (row H l m) (hour_at H available_part h)) 0) e in
          omega (arith, F.lacking.each h lt, below_more H l gone x n h m, none);
    };
    most = F.most;
  }

  module _ (lt : m < used l) (e : freed H l gone x n m ≡ true) where
    its : (h : ℕ) → term H l gone x n h m ≡ word_at (row H l m) (hour_at H available_part h)
    its h = ap (λ (b : Bool). pick b (word_at (row H l m) (hour_at H available_part h)) 0) e

    part : (h : ℕ) → freed_below H l gone x n h (m + 1) ≤ freed_below H l gone x n h (used l)
    unfolding freed_below
    part h = sum_part (term H l gone x n h) (m + 1) (used l) (omega (arith, lt))

    pub freeing_holds : Holding H (λ h. word_at (row H l m) (hour_at H available_part h)) sums
    freeing_holds = record {
      long = F.lacking.long;
      enough = λ h hlt. omega (arith, F.lacking.each h hlt, F.most h hlt, below_more H l gone x n h m, its h, part h);
    }

    pub freeing_less : {next : List ℕ} → Takes (λ h. word_at (row H l m) (hour_at H available_part h)) sums next → Freeing H l gone x n (m + 1) next
    freeing_less t = record {
      lacking = record {
        long = t.long ∙ F.lacking.long;
        each = λ h hlt. omega (arith, t.each h (omega (arith, hlt, F.lacking.long)), freeing_holds.enough h hlt, F.lacking.each h hlt, below_more H l gone x n h m, its h);
      };
      most = F.most;
    }

-- ---- what the steps say, for H hours
module _ {l : List ℕ} {R H : ℕ} (s : SoundAt l R H) {gone : ℕ → Bool} {n : ℕ} (G : Going H l gone n) (x : ℕ) where
  abbrev g : ℕ → ℕ
  g h = word_at (row H l n) (hour_at H granted_part h)

  abbrev counted : Bool
  counted = counts_by H l (stays H l gone) x n

  pub opened : is_confirmed (row H l n) ≡ false → (h : ℕ) → h < H → use_unwound H l (adding gone n) x h ≡ use_unwound H l gone x h
  opened off h =
      subst (λ (k : ℕ). Going k l gone n → is_confirmed (row k l n) ≡ false → h < k → use_unwound k l (adding gone n) x h ≡ use_unwound k l gone x h)
      (sym s.hours) (λ G off lt. use_open s.sound G x lt off) G off

  module _ (sure : is_confirmed (row H l n) ≡ true) where
    next : (h : ℕ) → h < H → use_unwound H l (adding gone n) x h + (pick counted (g h) 0 + freed_use H l gone x n h) ≡ use_unwound H l gone x h + pick (returned H l gone x n) (g h) 0
    next h =
        subst (λ (k : ℕ). Going k l gone n → is_confirmed (row k l n) ≡ true → h < k
        → use_unwound k l (adding gone n) x h + (pick (counts_by k l (stays k l gone) x n) (word_at (row k l n) (hour_at k granted_part h)) 0 + freed_use k l gone x n h) ≡ use_unwound k l gone x h + pick (returned k l gone x n) (word_at (row k l n) (hour_at k granted_part h)) 0)
        (sym s.hours) (λ G sure lt. use_next s.sound G x lt sure) G sure

    most : (h : ℕ) → h < H → pick counted (g h) 0 + freed_use H l gone x n h ≤ use_unwound H l gone x h
    most h =
        subst (λ (k : ℕ). Going k l gone n → is_confirmed (row k l n) ≡ true → h < k
        → pick (counts_by k l (stays k l gone) x n) (word_at (row k l n) (hour_at k granted_part h)) 0 + freed_use k l gone x n h ≤ use_unwound k l gone x h)
        (sym s.hours) (λ G sure lt. lost_most s.sound G x lt sure) G sure

    -- path x is row n's, or another
    pub freed_on : path (row H l n) ≡ x → (h : ℕ) → freed_use H l gone x n h ≡ freed_below H l gone x n h (used l)
    unfolding freed_use
    freed_on p h = ap (λ (b : Bool). pick b (freed_below H l gone x n h (used l)) 0) (eq-eqb _ _ p)

    pub freed_off : path (row H l n) ≢ x → (h : ℕ) → freed_use H l gone x n h ≡ 0
    unfolding freed_use
    freed_off p h = ap (λ (b : Bool). pick b (freed_below H l gone x n h (used l)) 0) (ne_eqb _ _ p)

    pub freed_most : path (row H l n) ≡ x → (h : ℕ) → h < H → freed_below H l gone x n h (used l) ≤ use_unwound H l gone x h
    freed_most p h lt = omega (arith, most h lt, freed_on p h)

    -- the sums lack what is freed: what row n held is there
    module _ {sums : List ℕ} (L : Lacking H (λ h. freed_use H l gone x n h) (λ h. use_unwound H l gone x h) sums) where
      use_bound : (h : ℕ) → h < H → use_unwound H l gone x h ≤ used l * most_megawatts
      use_bound h =
          subst (λ (k : ℕ). h < k → use_unwound k l gone x h ≤ used l * most_megawatts) (sym s.hours) (λ lt. use_most s.sound gone x lt)

      pub shift_room : Sums H most_sum sums
      shift_room = record {
        long = L.long;
        most = λ h lt. omega (arith, L.each h lt, use_bound h lt, mul-le-mul_right most_megawatts (few s));
      }

      pub shift_holds : {b : Bool} → b ≡ counted → Holding H (λ h. pick b (g h) 0) sums
      shift_holds e = record {
        long = L.long;
        enough = λ h lt. omega (arith, L.each h lt, most h lt, ap (λ (t : Bool). pick t (g h) 0) e);
      }

      -- and then shifted they are the use
      pub shift_done : {b c : Bool} {next : List ℕ} → b ≡ counted → c ≡ returned H l gone x n → Shifted g b c sums next → Summed H (λ h. use_unwound H l (adding gone n) x h) next
      shift_done {b} {c} e f S = record {
        long = S.long ∙ L.long;
        each = λ h lt.
            omega (arith, L.each h lt, next h lt, S.each h (omega (arith, lt, L.long)), ap (λ (t : Bool). pick t (g h) 0) e, ap (λ (t : Bool). pick t (g h) 0) f);
      }

-- granted of row n came back, by the marks with its own
pub came_is : (H : ℕ) (l : List ℕ) (gone : ℕ → Bool) (x n : ℕ) (marks : List Bool) → marked marks ≡ adding gone n → {b : Bool} → b ≡ (gives H l n && counts_by H l (stays H l (marked marks)) x (related_row H l n)) → b ≡ returned H l gone x n
unfolding returned
came_is H l gone x n marks a e = e ∙ ap (λ (g : ℕ → Bool). gives H l n && counts_by H l (stays H l g) x (related_row H l n)) a
