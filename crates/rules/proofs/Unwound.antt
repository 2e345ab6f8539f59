-- Annulments in order, from the ledger before them: what the rows hold once some of them are annulled, and what a
-- further annulment is tested by.
use mathlib.Core.Path.{◌≡◌, refl, sym, ap, subst, ◌∙◌}
use mathlib.Core.Logic.{◌≢◌, ◌⊎◌, inl, inr}
use mathlib.Core.Bool.{Bool, true, false, ◌&&◌, ◌||◌, not}
use mathlib.Core.List.{List, [], ◌∷◌}
use Prim.Native.Nat.{ℕ, zero, suc, ◌+◌, ◌<◌}
use native.Mathlib.Decide.{ℕ_discrete}
use native.Mathlib.Omega.{arith}
use borrow.Author.Tests.{eq-eqb, ne_eqb, not-true}
use lib.Dec.{eqb, leb}
use lib.ListN.{length, get_or}
use Rattle.words.specs.Lists.{word_at, sum_below, all_below}
use Rattle.words.proofs.Laws.{and_left, and_right}
use Rattle.column.proofs.Sums.{sum_zero, sum_point}
use Rattle.rules.specs.Pick.{pick}
use Rattle.rules.specs.Numbers.{head_words, row_words, most_megawatts, granted_part, available_part, displaced_part, CONFIRMED, ANNULLED}
use Rattle.rules.specs.Layout.{used, row_of, issued, row, reqtype, status, related_row, hour_at}
use Rattle.rules.specs.Sound.{original}
use Rattle.rules.specs.Moves.{is_confirmed, seller_may}
use Rattle.rules.proofs.Writes.{megawatts}
use Rattle.rules.proofs.Tests.{sums}
use Rattle.rules.proofs.After.{counts_by}
use Rattle.rules.proofs.OverPaths.{exceeds_at}

-- ---- the definitions that code goes by; gone names the rows that are annulled so far
-- and row n
unfoldable pub adding : (ℕ → Bool) → ℕ → ℕ → Bool
adding gone n m = eqb m n || gone m

-- the rows that are still CONFIRMED
unfoldable pub stays : ℕ → List ℕ → (ℕ → Bool) → ℕ → Bool
stays H l gone m = is_confirmed (row H l m) && not (gone m)

-- row j gives its granted back as it is annulled: it is CONFIRMED, and of types 3 to 7; to row m
unfoldable pub gives : ℕ → List ℕ → ℕ → Bool
gives H l j = is_confirmed (row H l j) && not (original (reqtype (row H l j)))

unfoldable pub gives_to : ℕ → List ℕ → ℕ → ℕ → Bool
gives_to H l j m = gives H l j && eqb (related_row H l j) m

-- what was given back to row m, for hour h: what row j gave, and all together
abbrev pub gave_to : ℕ → List ℕ → (ℕ → Bool) → ℕ → ℕ → ℕ → ℕ
gave_to H l gone m h j = pick (gone j && gives_to H l j m) (word_at (row H l j) (hour_at H granted_part h)) 0

unfoldable pub given_back : ℕ → List ℕ → (ℕ → Bool) → ℕ → ℕ → ℕ
given_back H l gone m h = sum_below (used l) (λ j. gave_to H l gone m h j)

-- row m is annulled, and gave its granted back to a row that counts in the use of path x
unfoldable pub returns_on : ℕ → List ℕ → (ℕ → Bool) → ℕ → ℕ → Bool
returns_on H l gone x m = gone m && (gives H l m && counts_by H l (stays H l gone) x (related_row H l m))

-- use of path x in hour h: available of a row that counts, or granted of one that gave it back to a row that counts; all
-- together
abbrev pub used_by : ℕ → List ℕ → (ℕ → Bool) → ℕ → ℕ → ℕ → ℕ
used_by H l gone x h m =
    pick (counts_by H l (stays H l gone) x m) (word_at (row H l m) (hour_at H available_part h)) (
    pick (returns_on H l gone x m) (word_at (row H l m) (hour_at H granted_part h))
    0)

unfoldable pub use_unwound : ℕ → List ℕ → (ℕ → Bool) → ℕ → ℕ → ℕ
use_unwound H l gone x h = sum_below (used l) (λ m. used_by H l gone x h m)

-- 15: available of row n, with what was given back, is its granted
unfoldable pub whole_again : ℕ → List ℕ → (ℕ → Bool) → ℕ → Bool
whole_again H l gone n =
    all_below H (λ h. eqb (word_at (row H l n) (hour_at H available_part h) + given_back H l gone n h) (word_at (row H l n) (hour_at H granted_part h)))

-- the last 1 of row m, to which something was given back and which is not CONFIRMED any more: of its displaced. One that
-- was annulled from 13 had its granted together in available by then, and what came later is in displaced
unfoldable pub fits_in : ℕ → List ℕ → (ℕ → Bool) → ℕ → ℕ → Bool
fits_in H l gone m h =
    let d = word_at (row H l m) (hour_at H displaced_part h) in
    pick (is_confirmed (row H l m))
    (leb (d + word_at (row H l m) (hour_at H available_part h) + given_back H l gone m h) (most_megawatts + word_at (row H l m) (hour_at H granted_part h)))
    (leb (d + given_back H l gone m h) most_megawatts)

-- row n is CONFIRMED and can be annulled: 15, 22, the last 1. Where its related row stays CONFIRMED, 22 has looked after
-- that row's available
unfoldable pub lets_go : ℕ → List ℕ → List ℕ → (ℕ → Bool) → ℕ → Bool
lets_go H l ps gone n =
    whole_again H l gone n
    && (not (exceeds_at H l n ps (use_unwound H l (adding gone n)))
    && (original (reqtype (row H l n))
    || (stays H l gone (related_row H l n) || all_below H (λ h. fits_in H l (adding gone n) (related_row H l n) h))))

-- a turn: reference r can be annulled
unfoldable pub turn : ℕ → List ℕ → List ℕ → (ℕ → Bool) → ℕ → Bool
turn H l ps gone r =
    issued l r
    && (not (gone (row_of r))
    && (seller_may (row H l (row_of r)) ANNULLED
    && (not (is_confirmed (row H l (row_of r))) || lets_go H l ps gone (row_of r))))

-- none so far
unfoldable pub none : ℕ → Bool
none m = false

-- the rows of gone, and of the first k references
unfoldable pub gone_by : (ℕ → Bool) → List ℕ → ℕ → ℕ → Bool
gone_by gone refs zero m = gone m
gone_by gone [] (suc k) m = gone m
gone_by gone (r ∷ rs) (suc k) m = gone_by (adding gone (row_of r)) rs k m

abbrev pub gone_at : List ℕ → ℕ → ℕ → Bool
gone_at refs k = gone_by none refs k

-- turn by turn
unfoldable pub passes : ℕ → List ℕ → List ℕ → (ℕ → Bool) → List ℕ → Bool
passes H l ps gone [] = true
passes H l ps gone (r ∷ rs) = turn H l ps gone r && passes H l ps (adding gone (row_of r)) rs

-- one reference more
pub gone_more : (gone : ℕ → Bool) (refs : List ℕ) (k : ℕ) → k < length refs → gone_by gone refs (suc k) ≡ adding (gone_by gone refs k) (row_of (word_at refs k))
unfolding gone_by
gone_more gone [] k lt = absurd (omega (arith, lt))
gone_more gone (r ∷ rs) zero lt = refl
gone_more gone (r ∷ rs) (suc k) lt = gone_more (adding gone (row_of r)) rs k (omega (arith, lt))

pub gone_next : (refs : List ℕ) (k m : ℕ) → k < length refs → gone_at refs (suc k) m ≡ (eqb m (row_of (word_at refs k)) || gone_at refs k m)
unfolding adding
gone_next refs k m lt = ap (λ (g : ℕ → Bool). g m) (gone_more none refs k lt)

-- ---- tests
pub by : (b : Bool) → (b ≡ true) ⊎ (b ≡ false)
by true = inl refl
by false = inr refl

pub and_false : (b : Bool) → (b && false) ≡ false
and_false true = refl
and_false false = refl

pub and_true : (b : Bool) → (b && true) ≡ b
and_true true = refl
and_true false = refl

-- ---- l' is the ledger l once the rows that gone names were annulled
pub record Unwound (H : ℕ) (l : List ℕ) (gone : ℕ → Bool) (l' : List ℕ) : Type 0 where
  pub head : (i : ℕ) → i < head_words → get_or l' i 0 ≡ get_or l i 0
  pub field : (m k : ℕ) → k < row_words → k ≢ 1 → get_or (row H l' m) k 0 ≡ get_or (row H l m) k 0
  pub now : (m : ℕ) → status (row H l' m) ≡ pick (gone m) ANNULLED (status (row H l m))
  pub granted : (m h : ℕ) → h < H → megawatts H h (row H l' m) granted_part ≡ megawatts H h (row H l m) granted_part
  -- a row that is still CONFIRMED
  pub available : (m h : ℕ) → h < H → stays H l gone m ≡ true → megawatts H h (row H l' m) available_part ≡ megawatts H h (row H l m) available_part + given_back H l gone m h
  pub kept : (m h : ℕ) → h < H → stays H l gone m ≡ true → megawatts H h (row H l' m) displaced_part ≡ megawatts H h (row H l m) displaced_part
  -- one that was, and one that was not before
  pub annulled : (m h : ℕ) → h < H → is_confirmed (row H l m) ≡ true → gone m ≡ true
      → megawatts H h (row H l' m) displaced_part + megawatts H h (row H l m) granted_part ≡ megawatts H h (row H l m) displaced_part + megawatts H h (row H l m) available_part + given_back H l gone m h
  pub other : (m h : ℕ) → h < H → is_confirmed (row H l m) ≡ false → megawatts H h (row H l' m) displaced_part ≡ megawatts H h (row H l m) displaced_part + given_back H l gone m h

-- ---- what was given back, with row n
module _ (H : ℕ) (l : List ℕ) (gone : ℕ → Bool) where
  none_back : ((m : ℕ) → gone m ≡ false) → (m h : ℕ) → given_back H l gone m h ≡ 0
  unfolding given_back
  none_back none m h =
      sums (used l) _ _ (λ j. refl)
      ∙ sum_zero (used l) _ (λ j _. ap (λ (b : Bool). pick (b && gives_to H l j m) (word_at (row H l j) (hour_at H granted_part h)) 0) (none j))

  pub back_more : {n : ℕ} → n < used l → gone n ≡ false → (m h : ℕ) → given_back H l (adding gone n) m h ≡ given_back H l gone m h + pick (gives_to H l n m) (word_at (row H l n) (hour_at H granted_part h)) 0
  unfolding given_back adding
  back_more {n} lt g m h =
      let a = sums (used l) (term (adding gone n)) (term (adding gone n)) (λ j. refl) in
      let b = sums (used l) (term gone) (term gone) (λ j. refl) in
      let c = sum_point (used l) n (term gone) (term (adding gone n)) lt (λ j ne. ap (λ (t : Bool). pick ((t || gone j) && gives_to H l j m) (word_at (row H l j) (hour_at H granted_part h)) 0) (ne_eqb j n ne)) in
      let e : term gone n ≡ 0 = ap (λ (t : Bool). pick (t && gives_to H l n m) (word_at (row H l n) (hour_at H granted_part h)) 0) g in
      let f : term (adding gone n) n ≡ pick (gives_to H l n m) (word_at (row H l n) (hour_at H granted_part h)) 0 = ap (λ (t : Bool). pick ((t || gone n) && gives_to H l n m) (word_at (row H l n) (hour_at H granted_part h)) 0) (eq-eqb n n refl) in
      a ∙ omega (arith, b, c, e, f)
    where
      term : (ℕ → Bool) → ℕ → ℕ
      term s j = pick (s j && gives_to H l j m) (word_at (row H l j) (hour_at H granted_part h)) 0

  -- before the first
  pub unwound_start : ((m : ℕ) → gone m ≡ false) → Unwound H l gone l
  unwound_start none = record {
    head = λ i lt. refl;
    field = λ m k lt ne. refl;
    now = λ m. sym (ap (λ (b : Bool). pick b ANNULLED (status (row H l m))) (none m));
    granted = λ m h lt. refl;
    available = λ m h lt _. omega (arith, none_back none m h);
    kept = λ m h lt _. refl;
    annulled = λ m h lt _ g. let z : ◌≡◌ {A = Bool} true false = sym g ∙ none m in let u : ◌≡◌ {A = ℕ} 0 1 = cc in absurd (omega (arith, u));
    other = λ m h lt _. omega (arith, none_back none m h);
  }

-- ---- row n of l' is annulled next, which leaves l''
pub record Goes (H : ℕ) (l l' l'' : List ℕ) (n : ℕ) : Type 0 where
  pub head : (i : ℕ) → i < head_words → get_or l'' i 0 ≡ get_or l' i 0
  pub field : (m k : ℕ) → k < row_words → k ≢ 1 → get_or (row H l'' m) k 0 ≡ get_or (row H l' m) k 0
  pub now : status (row H l'' n) ≡ ANNULLED
  pub rest : (m : ℕ) → m ≢ n → status (row H l'' m) ≡ status (row H l' m)
  pub granted : (m h : ℕ) → h < H → megawatts H h (row H l'' m) granted_part ≡ megawatts H h (row H l' m) granted_part
  pub own : (h : ℕ) → h < H → megawatts H h (row H l'' n) displaced_part ≡ megawatts H h (row H l' n) displaced_part
  pub whole : is_confirmed (row H l n) ≡ true → (h : ℕ) → h < H → megawatts H h (row H l' n) available_part ≡ megawatts H h (row H l n) granted_part
  -- the other rows: nothing is given back to them; it is, and to one that is CONFIRMED; or to another
  pub still_available : (m h : ℕ) → h < H → m ≢ n → gives_to H l n m ≡ false → megawatts H h (row H l'' m) available_part ≡ megawatts H h (row H l' m) available_part
  pub still_displaced : (m h : ℕ) → h < H → m ≢ n → gives_to H l n m ≡ false → megawatts H h (row H l'' m) displaced_part ≡ megawatts H h (row H l' m) displaced_part
  pub to_available : (m h : ℕ) → h < H → m ≢ n → gives_to H l n m ≡ true → is_confirmed (row H l' m) ≡ true → megawatts H h (row H l'' m) available_part ≡ megawatts H h (row H l' m) available_part + megawatts H h (row H l n) granted_part
  pub not_displaced : (m h : ℕ) → h < H → m ≢ n → gives_to H l n m ≡ true → is_confirmed (row H l' m) ≡ true → megawatts H h (row H l'' m) displaced_part ≡ megawatts H h (row H l' m) displaced_part
  pub to_displaced : (m h : ℕ) → h < H → m ≢ n → gives_to H l n m ≡ true → is_confirmed (row H l' m) ≡ false → megawatts H h (row H l'' m) displaced_part ≡ megawatts H h (row H l' m) displaced_part + megawatts H h (row H l n) granted_part

module _ {H : ℕ} {l : List ℕ} {gone : ℕ → Bool} {l' : List ℕ} (U : Unwound H l gone l') where
  pub confirmed_now : (m : ℕ) → is_confirmed (row H l' m) ≡ stays H l gone m
  unfolding is_confirmed stays
  confirmed_now m = ap (λ (s : ℕ). eqb s CONFIRMED) (U.now m) ∙ go (gone m)
    where
      go : (b : Bool) → eqb (pick b ANNULLED (status (row H l m))) CONFIRMED ≡ (eqb (status (row H l m)) CONFIRMED && not b)
      go true = sym (and_false (eqb (status (row H l m)) CONFIRMED))
      go false = sym (and_true (eqb (status (row H l m)) CONFIRMED))

  module _ {l'' : List ℕ} {n : ℕ} (lt : n < used l) (g : gone n ≡ false) (self : gives_to H l n n ≡ false) (E : Goes H l l' l'' n) where
    -- another row that is then CONFIRMED is so now
    was : (m : ℕ) → stays H l (adding gone n) m ≡ true → (m ≢ n) × (stays H l gone m ≡ true)
    unfolding stays adding
    was m e = go (ℕ_discrete m n)
      where
        sure : is_confirmed (row H l m) ≡ true
        sure = and_left _ _ e

        free : (eqb m n || gone m) ≡ false
        free = not-true _ (and_right (is_confirmed (row H l m)) _ e)

        go : Dec (m ≡ n) → (m ≢ n) × ((is_confirmed (row H l m) && not (gone m)) ≡ true)
        go (yes q) = let z : ◌≡◌ {A = Bool} true false = sym (ap (λ (b : Bool). b || gone m) (eq-eqb m n q)) ∙ free in let u : ◌≡◌ {A = ℕ} 0 1 = cc in absurd (omega (arith, u))
        go (no q) =
            let f : gone m ≡ false = sym (ap (λ (b : Bool). b || gone m) (ne_eqb m n q)) ∙ free in
            (q, ap (λ (b : Bool). b && not (gone m)) sure ∙ ap not f)

    was_gone : (m : ℕ) → m ≢ n → adding gone n m ≡ gone m
    unfolding adding
    was_gone m ne = ap (λ (b : Bool). b || gone m) (ne_eqb m n ne)

    is_gone : adding gone n n ≡ true
    unfolding adding
    is_gone = ap (λ (b : Bool). b || gone n) (eq-eqb n n refl)

    -- what is given back, by whether row n gives to row m
    more : (m h : ℕ) → gives_to H l n m ≡ true → given_back H l (adding gone n) m h ≡ given_back H l gone m h + megawatts H h (row H l n) granted_part
    more m h e = back_more H l gone lt g m h ∙ ap (λ (b : Bool). given_back H l gone m h + pick b (megawatts H h (row H l n) granted_part) 0) e

    same : (m h : ℕ) → gives_to H l n m ≡ false → given_back H l (adding gone n) m h ≡ given_back H l gone m h
    same m h e = back_more H l gone lt g m h ∙ ap (λ (b : Bool). given_back H l gone m h + pick b (megawatts H h (row H l n) granted_part) 0) e ∙ omega arith

    off : (m : ℕ) → is_confirmed (row H l m) ≡ false → is_confirmed (row H l' m) ≡ false
    unfolding stays
    off m e = confirmed_now m ∙ ap (λ (b : Bool). b && not (gone m)) e

    gone_off : (m : ℕ) → gone m ≡ true → is_confirmed (row H l' m) ≡ false
    unfolding stays
    gone_off m e = confirmed_now m ∙ ap (λ (b : Bool). is_confirmed (row H l m) && not b) e ∙ and_false (is_confirmed (row H l m))

    available_next : (m h : ℕ) → h < H → stays H l (adding gone n) m ≡ true → megawatts H h (row H l'' m) available_part ≡ megawatts H h (row H l m) available_part + given_back H l (adding gone n) m h
    available_next m h hlt s = go (by (gives_to H l n m))
      where
        go : (gives_to H l n m ≡ true) ⊎ (gives_to H l n m ≡ false) → megawatts H h (row H l'' m) available_part ≡ megawatts H h (row H l m) available_part + given_back H l (adding gone n) m h
        go (inl e) = let w = was m s in omega (arith, E.to_available m h hlt w.0 e (confirmed_now m ∙ w.1), U.available m h hlt w.1, more m h e)
        go (inr e) = let w = was m s in omega (arith, E.still_available m h hlt w.0 e, U.available m h hlt w.1, same m h e)

    kept_next : (m h : ℕ) → h < H → stays H l (adding gone n) m ≡ true → megawatts H h (row H l'' m) displaced_part ≡ megawatts H h (row H l m) displaced_part
    kept_next m h hlt s = go (by (gives_to H l n m))
      where
        go : (gives_to H l n m ≡ true) ⊎ (gives_to H l n m ≡ false) → megawatts H h (row H l'' m) displaced_part ≡ megawatts H h (row H l m) displaced_part
        go (inl e) = let w = was m s in E.not_displaced m h hlt w.0 e (confirmed_now m ∙ w.1) ∙ U.kept m h hlt w.1
        go (inr e) = let w = was m s in E.still_displaced m h hlt w.0 e ∙ U.kept m h hlt w.1

    -- displaced of a row that is not CONFIRMED in l' grows by what it is given
    grown : (m h : ℕ) → h < H → m ≢ n → is_confirmed (row H l' m) ≡ false → megawatts H h (row H l'' m) displaced_part + given_back H l gone m h ≡ megawatts H h (row H l' m) displaced_part + given_back H l (adding gone n) m h
    grown m h hlt ne f = go (by (gives_to H l n m))
      where
        go : (gives_to H l n m ≡ true) ⊎ (gives_to H l n m ≡ false) → megawatts H h (row H l'' m) displaced_part + given_back H l gone m h ≡ megawatts H h (row H l' m) displaced_part + given_back H l (adding gone n) m h
        go (inl e) = omega (arith, E.to_displaced m h hlt ne e f, more m h e)
        go (inr e) = omega (arith, E.still_displaced m h hlt ne e, same m h e)

    annulled_next : (m h : ℕ) → h < H → is_confirmed (row H l m) ≡ true → adding gone n m ≡ true
        → megawatts H h (row H l'' m) displaced_part + megawatts H h (row H l m) granted_part ≡ megawatts H h (row H l m) displaced_part + megawatts H h (row H l m) available_part + given_back H l (adding gone n) m h
    unfolding stays
    annulled_next m h hlt c a = go (ℕ_discrete m n)
      where
        Goal : ℕ → Type 0
        Goal k = is_confirmed (row H l k) ≡ true → megawatts H h (row H l'' k) displaced_part + megawatts H h (row H l k) granted_part ≡ megawatts H h (row H l k) displaced_part + megawatts H h (row H l k) available_part + given_back H l (adding gone n) k h

        self_goal : Goal n
        self_goal c =
            let s : stays H l gone n ≡ true = ap (λ (b : Bool). b && not (gone n)) c ∙ ap not g in
            omega (arith, E.own h hlt, U.kept n h hlt s, E.whole c h hlt, U.available n h hlt s, same n h self)

        go : Dec (m ≡ n) → megawatts H h (row H l'' m) displaced_part + megawatts H h (row H l m) granted_part ≡ megawatts H h (row H l m) displaced_part + megawatts H h (row H l m) available_part + given_back H l (adding gone n) m h
        go (yes q) = subst Goal (sym q) self_goal c
        go (no q) = let b : gone m ≡ true = sym (was_gone m q) ∙ a in omega (arith, grown m h hlt q (gone_off m b), U.annulled m h hlt c b)

    other_next : (m h : ℕ) → h < H → is_confirmed (row H l m) ≡ false → megawatts H h (row H l'' m) displaced_part ≡ megawatts H h (row H l m) displaced_part + given_back H l (adding gone n) m h
    other_next m h hlt c = go (ℕ_discrete m n)
      where
        Goal : ℕ → Type 0
        Goal k = is_confirmed (row H l k) ≡ false → megawatts H h (row H l'' k) displaced_part ≡ megawatts H h (row H l k) displaced_part + given_back H l (adding gone n) k h

        go : Dec (m ≡ n) → megawatts H h (row H l'' m) displaced_part ≡ megawatts H h (row H l m) displaced_part + given_back H l (adding gone n) m h
        go (yes q) = subst Goal (sym q) (λ f. omega (arith, E.own h hlt, U.other n h hlt f, same n h self)) c
        go (no q) = omega (arith, grown m h hlt q (off m c), U.other m h hlt c)

    pub unwound_next : Unwound H l (adding gone n) l''
    unwound_next = record {
      head = λ i k. E.head i k ∙ U.head i k;
      field = λ m k klt ne. E.field m k klt ne ∙ U.field m k klt ne;
      now = λ m. now m (ℕ_discrete m n);
      granted = λ m h hlt. E.granted m h hlt ∙ U.granted m h hlt;
      available = available_next;
      kept = kept_next;
      annulled = annulled_next;
      other = other_next;
    }
      where
        now : (m : ℕ) → Dec (m ≡ n) → status (row H l'' m) ≡ pick (adding gone n m) ANNULLED (status (row H l m))
        now m (yes q) =
            ap (λ (k : ℕ). status (row H l'' k)) q ∙ E.now
            ∙ sym (ap (λ (k : ℕ). pick (adding gone n k) ANNULLED (status (row H l m))) q ∙ ap (λ (b : Bool). pick b ANNULLED (status (row H l m))) is_gone)
        now m (no q) = E.rest m q ∙ U.now m ∙ sym (ap (λ (b : Bool). pick b ANNULLED (status (row H l m))) (was_gone m q))
