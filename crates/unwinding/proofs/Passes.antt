-- A list of references by three passes: each test of a turn by itself, over all turns.
use mathlib.Core.Path.{◌≡◌, refl, sym, ap, subst, ◌∙◌}
use mathlib.Core.Logic.{◌≢◌, ◌⊎◌, ⊎_elim, inl, inr}
use mathlib.Core.Bool.{Bool, true, false, ◌&&◌, ◌||◌, not}
use mathlib.Core.List.{List}
use Prim.Native.Nat.{ℕ, zero, suc, ◌+◌, ◌-◌, ◌≤◌, ◌<◌}
use native.Mathlib.Decide.{ℕ_discrete}
use native.Mathlib.Omega.{arith}
use borrow.Author.Tests.{eqb-true, leb-true, le-leb, eq-eqb, ne_eqb, not-true}
use lib.Dec.{eqb, leb, lit<}
use lib.ListN.{length}
use Rattle.words.specs.Lists.{word_at, all_below}
use Rattle.words.proofs.Laws.{lt_or_le, and_left, and_right, all_below_lem, all_at, all_cong}
use Rattle.rules.specs.Pick.{pick}
use Rattle.rules.specs.Numbers.{most_megawatts, most_path, granted_part, available_part, displaced_part, preconfirmed, coordinated, CONFIRMED, ANNULLED, RELINQUISH}
use Rattle.rules.specs.Layout.{hours, used, row_of, issued, row, reqtype, status, path, related_row, hour_at, has}
use Rattle.rules.specs.Sound.{original}
use Rattle.rules.specs.Moves.{is_confirmed, allowed, seller_moves, seller_may}
use Rattle.rules.specs.Act.{sound_both}
use Rattle.rules.specs.Annulments.{annuls_in_order}
use Rattle.rules.proofs.Types.{derived_least}
use Rattle.rules.proofs.SoundFacts.{SoundLedger, range}
use Rattle.rules.proofs.Passed.{or_none, or_some, not_or}
use Rattle.rules.proofs.OverPaths.{exceeds, exceeds_at}
use Rattle.rules.proofs.Unwound.{adding, none, gone_by, gone_at, gone_more, gone_next, stays, gives, gives_to, given_back, use_unwound, whole_again, fits_in, lets_go, turn, back_more, unwound_start, by, and_true}
use Rattle.rules.proofs.Unwinding.{same_true, never, not_to_itself}
use Rattle.rules.proofs.Annulments.{ledger_sound, annuls_in_order_lem}
use Rattle.unwinding.specs.Order.{movable, all_movable, gives_late, all_fit, asks, carries, carries_all, paths_carry}
use Rattle.unwinding.specs.Marks.{Going}

-- ---- tests
or_right : (b : Bool) {c : Bool} → c ≡ true → (b || c) ≡ true
or_right true e = refl
or_right false e = e

all_and : (n : ℕ) (p q : ℕ → Bool) → all_below n (λ k. p k && q k) ≡ (all_below n p && all_below n q)
unfolding all_below
all_and zero p q = refl
all_and (suc n) p q = ap (λ (b : Bool). b && (p n && q n)) (all_and n p q) ∙ swap (all_below n p) (all_below n q) (p n) (q n)
  where
    swap : (a b c d : Bool) → ((a && b) && (c && d)) ≡ ((a && c) && (b && d))
    swap false b c d = refl
    swap true true c d = refl
    swap true false true d = refl
    swap true false false d = refl

-- turn by turn and path by path
all_swap : (n m : ℕ) (p : ℕ → ℕ → Bool) → all_below n (λ k. all_below m (λ x. p k x)) ≡ all_below m (λ x. all_below n (λ k. p k x))
all_swap n m p =
    same_true _ _
    (λ e. all_below_lem _ m (λ x u. all_below_lem _ n (λ k v. all_at _ m x (all_at _ n k e v) u)))
    (λ e. all_below_lem _ n (λ k v. all_below_lem _ m (λ x u. all_at _ n k (all_at _ m x e u) v)))

-- what each step keeps
along : (P : ℕ → Type 0) (N : ℕ) → ((k : ℕ) → k < N → P k → P (suc k)) → (i j : ℕ) → i ≤ j → j ≤ N → P i → P j
along P N f i zero a b p = let e : i ≡ 0 = omega arith in subst P e p
along P N f i (suc j) a b p =
    ⊎_elim
    (λ u. let e : i ≡ suc j = omega (arith, u, a) in subst P e p)
    (λ u. f j (omega (arith, b)) (along P N f i j u (omega (arith, b)) p))
    (lt_or_le j i)

-- ---- the rows that are gone
module _ (refs : List ℕ) where
  gone_step : (m k : ℕ) → k < length refs → gone_at refs k m ≡ true → gone_at refs (suc k) m ≡ true
  gone_step m k lt e = gone_next refs k m lt ∙ or_right (eqb m (row_of (word_at refs k))) e

  -- one that is gone went at some turn
  gone_when : (m k : ℕ) → k ≤ length refs → gone_at refs k m ≡ true → (j : ℕ) × (j < k) × (row_of (word_at refs j) ≡ m)
  unfolding gone_by none
  gone_when m zero le e = never (sym e)
  gone_when m (suc k) le e =
      ⊎_elim
      (λ q. (k, omega arith, sym (eqb-true m (row_of (word_at refs k)) q)))
      (λ q. let w = gone_when m k (omega (arith, le)) q in (w.0, omega (arith, w.1), w.2))
      (or_some (eqb m (row_of (word_at refs k))) (gone_at refs k m) (sym (gone_next refs k m (omega (arith, le))) ∙ e))

pub gone_grows : (refs : List ℕ) (m i j : ℕ) → i ≤ j → j ≤ length refs → gone_at refs i m ≡ true → gone_at refs j m ≡ true
gone_grows refs m i j a b e = along (λ k. gone_at refs k m ≡ true) (length refs) (λ k lt q. gone_step refs m k lt q) i j a b e

pub stays_falls : (H : ℕ) (l refs : List ℕ) (p i j : ℕ) → i ≤ j → j ≤ length refs → stays H l (gone_at refs i) p ≡ false → stays H l (gone_at refs j) p ≡ false
unfolding stays
stays_falls H l refs p i j a b e = go (is_confirmed (row H l p)) (gone_at refs i p) (gone_at refs j p) (gone_grows refs p i j a b) e
  where
    go : (c g g' : Bool) → (g ≡ true → g' ≡ true) → (c && not g) ≡ false → (c && not g') ≡ false
    go false g g' f e = refl
    go true true g' f e = ap not (f refl)
    go true false g' f e = never e

-- ---- what a row that may go has passed
-- a relinquish record does not go from 13
stuck : (q : List ℕ) → is_confirmed q ≡ true → reqtype q ≡ RELINQUISH → seller_may q ANNULLED ≡ false
unfolding is_confirmed seller_may allowed seller_moves
stuck q c z =
    ap (λ (v : ℕ). allowed (seller_moves (has preconfirmed q) (has coordinated q) (eqb (reqtype q) RELINQUISH)) ANNULLED v) (eqb-true (status q) CONFIRMED c)
    ∙ ap (λ (b : Bool). allowed (seller_moves (has preconfirmed q) (has coordinated q) b) ANNULLED CONFIRMED) (eq-eqb (reqtype q) RELINQUISH z)

module _ (H : ℕ) (l : List ℕ) (gone : ℕ → Bool) (r : ℕ) (e : movable H l gone r ≡ true) where
  pub movable_row : row_of r < used l
  unfolding movable issued
  movable_row = let b = range 1 r (used l) (and_left _ _ e) in omega (arith, b.0, b.1)

  rest : (not (gone (row_of r)) && (seller_may (row H l (row_of r)) ANNULLED && (not (is_confirmed (row H l (row_of r))) || whole_again H l gone (row_of r)))) ≡ true
  unfolding movable
  rest = and_right (issued l r) _ e

  movable_free : gone (row_of r) ≡ false
  movable_free = not-true _ (and_left _ _ rest)

  may : seller_may (row H l (row_of r)) ANNULLED ≡ true
  may = and_left _ _ (and_right (not (gone (row_of r))) _ rest)

  movable_whole : is_confirmed (row H l (row_of r)) ≡ true → whole_again H l gone (row_of r) ≡ true
  movable_whole c = not_or _ _ (and_right (seller_may (row H l (row_of r)) ANNULLED) _ (and_right (not (gone (row_of r))) _ rest)) c

  movable_type : is_confirmed (row H l (row_of r)) ≡ true → reqtype (row H l (row_of r)) ≢ RELINQUISH
  movable_type c z = never (sym may ∙ stuck (row H l (row_of r)) c z)

-- ---- a turn by its three tests; 22 and the last 1 of row n
abbrev carried : ℕ → List ℕ → List ℕ → (ℕ → Bool) → ℕ → Bool
carried H l ps gone n = not (is_confirmed (row H l n)) || not (exceeds_at H l n ps (use_unwound H l (adding gone n)))

abbrev fits : ℕ → List ℕ → (ℕ → Bool) → ℕ → Bool
fits H l gone n =
    not (is_confirmed (row H l n))
    || (original (reqtype (row H l n)) || (stays H l gone (related_row H l n) || all_below H (λ h. fits_in H l (adding gone n) (related_row H l n) h)))

turn_three : (H : ℕ) (l ps : List ℕ) (gone : ℕ → Bool) (r : ℕ) → turn H l ps gone r ≡ (movable H l gone r && (fits H l gone (row_of r) && carried H l ps gone (row_of r)))
unfolding turn lets_go movable
turn_three H l ps gone r =
    split (issued l r) (not (gone (row_of r))) (seller_may (row H l (row_of r)) ANNULLED) (is_confirmed (row H l (row_of r))) (whole_again H l gone (row_of r))
    (not (exceeds_at H l (row_of r) ps (use_unwound H l (adding gone (row_of r)))))
    (original (reqtype (row H l (row_of r))) || (stays H l gone (related_row H l (row_of r)) || all_below H (λ h. fits_in H l (adding gone (row_of r)) (related_row H l (row_of r)) h)))
  where
    split : (i g m c w x o : Bool) → (i && (g && (m && (not c || (w && (x && o)))))) ≡ ((i && (g && (m && (not c || w)))) && ((not c || o) && (not c || x)))
    split false g m c w x o = refl
    split true false m c w x o = refl
    split true true false c w x o = refl
    split true true true false w x o = refl
    split true true true true false x o = refl
    split true true true true true true true = refl
    split true true true true true true false = refl
    split true true true true true false true = refl
    split true true true true true false false = refl

-- ---- the last 1 by its numbers
fits_made : (c : Bool) (d a g b : ℕ) → (c ≡ true → d + a + b ≤ most_megawatts + g) → (c ≡ false → d + b ≤ most_megawatts) → pick c (leb (d + a + b) (most_megawatts + g)) (leb (d + b) most_megawatts) ≡ true
fits_made true d a g b f h = le-leb (d + a + b) (most_megawatts + g) (f refl)
fits_made false d a g b f h = le-leb (d + b) most_megawatts (h refl)

fits_by : (c : Bool) (d a g b b' : ℕ) → b ≤ b' → pick c (leb (d + a + b') (most_megawatts + g)) (leb (d + b') most_megawatts) ≡ true → pick c (leb (d + a + b) (most_megawatts + g)) (leb (d + b) most_megawatts) ≡ true
fits_by true d a g b b' le e = le-leb (d + a + b) (most_megawatts + g) (omega (arith, le, leb-true (d + a + b') (most_megawatts + g) e))
fits_by false d a g b b' le e = le-leb (d + b) most_megawatts (omega (arith, le, leb-true (d + b') most_megawatts e))

-- with less given back it holds too
fits_less : (H : ℕ) (l : List ℕ) (gone more : ℕ → Bool) (p h : ℕ) → given_back H l gone p h ≤ given_back H l more p h → fits_in H l more p h ≡ true → fits_in H l gone p h ≡ true
unfolding fits_in
fits_less H l gone more p h le e =
    fits_by (is_confirmed (row H l p)) (word_at (row H l p) (hour_at H displaced_part h)) (word_at (row H l p) (hour_at H available_part h)) (word_at (row H l p) (hour_at H granted_part h))
    (given_back H l gone p h) (given_back H l more p h) le e

-- ---- a sound ledger
module _ {l : List ℕ} (S : SoundLedger l) where
  abbrev H : ℕ
  H = hours l

  -- ---- 22 of a row, path by path
  module _ {n : ℕ} (lt : n < used l) where
    above : original (reqtype (row (hours l) l n)) ≡ false → related_row (hours l) l n < used l
    unfolding related_row
    above e = let up = (S.relations n lt).up (derived_least (reqtype (row H l n)) (S.words n lt).type_least e) in omega (arith, lt, up.0, up.1)

    module _ (ps : List ℕ) (gone : ℕ → Bool) where
      abbrev o : Bool
      o = original (reqtype (row (hours l) l n))

      abbrev x1 : ℕ
      x1 = path (row (hours l) l n)

      abbrev x2 : ℕ
      x2 = path (row (hours l) l (related_row (hours l) l n))

      abbrev over : ℕ → Bool
      over x = exceeds (hours l) ps (use_unwound (hours l) l (adding gone n)) x

      to_paths : carried (hours l) l ps gone n ≡ true → (x : ℕ) → carries (hours l) l ps gone x n ≡ true
      unfolding carries asks exceeds_at
      to_paths e x = go (by (asks H l x n))
        where
          off : is_confirmed (row H l n) ≡ true → (over x1 || not o && over x2) ≡ false
          off c = not-true (over x1 || not o && over x2) (not_or (is_confirmed (row H l n)) (not (over x1 || not o && over x2)) e c)

          asked : is_confirmed (row H l n) ≡ true → (eqb x1 x ≡ true) ⊎ ((not o && eqb x2 x) ≡ true) → over x ≡ false
          asked c (inl q) = subst (λ (y : ℕ). over y ≡ false) (eqb-true x1 x q) (or_none (over x1) (not o && over x2) (off c)).0
          asked c (inr q) =
              subst (λ (y : ℕ). over y ≡ false) (eqb-true x2 x (and_right (not o) (eqb x2 x) q))
              (sym (ap (λ (b : Bool). b && over x2) (and_left (not o) (eqb x2 x) q)) ∙ (or_none (over x1) (not o && over x2) (off c)).1)

          go : (asks H l x n ≡ true) ⊎ (asks H l x n ≡ false) → (not (asks H l x n) || not (over x)) ≡ true
          go (inl a) =
              or_right (not (asks H l x n))
              (ap not (asked (and_left (is_confirmed (row H l n)) (eqb x1 x || not o && eqb x2 x) a) (or_some (eqb x1 x) (not o && eqb x2 x) (and_right (is_confirmed (row H l n)) (eqb x1 x || not o && eqb x2 x) a))))
          go (inr a) = ap (λ (b : Bool). not b || not (over x)) a

      from_paths : ((x : ℕ) → x < most_path → carries (hours l) l ps gone (suc x) n ≡ true) → carried (hours l) l ps gone n ≡ true
      unfolding carries asks exceeds_at
      from_paths f = go (by (is_confirmed (row H l n)))
        where
          -- a path that is asked
          at : (x : ℕ) → 1 ≤ x → x ≤ most_path → is_confirmed (row H l n) ≡ true → (eqb x1 x || not o && eqb x2 x) ≡ true → over x ≡ false
          at x least most c a =
              let e : suc (x - 1) ≡ x = omega (arith, least) in
              let k : (not (asks H l x n) || not (over x)) ≡ true = subst (λ (y : ℕ). carries H l ps gone y n ≡ true) e (f (x - 1) (omega (arith, least, most))) in
              not-true (over x) (not_or (asks H l x n) (not (over x)) k (ap (λ (b : Bool). b && (eqb x1 x || not o && eqb x2 x)) c ∙ a))

          own : is_confirmed (row H l n) ≡ true → over x1 ≡ false
          own c = let w = (S.words n lt).path in at x1 w.0 w.1 c (ap (λ (b : Bool). b || not o && eqb x2 x1) (eq-eqb x1 x1 refl))

          up : is_confirmed (row H l n) ≡ true → (o ≡ true) ⊎ (o ≡ false) → (not o && over x2) ≡ false
          up c (inl q) = ap (λ (b : Bool). not b && over x2) q
          up c (inr q) =
              let w = (S.words (related_row H l n) (above q)).path in
              ap (λ (b : Bool). not b && over x2) q
              ∙ at x2 w.0 w.1 c (or_right (eqb x1 x2) (ap (λ (b : Bool). not b && eqb x2 x2) q ∙ eq-eqb x2 x2 refl))

          go : (is_confirmed (row H l n) ≡ true) ⊎ (is_confirmed (row H l n) ≡ false) → (not (is_confirmed (row H l n)) || not (over x1 || not o && over x2)) ≡ true
          go (inl c) = or_right (not (is_confirmed (row H l n))) (ap (λ (b : Bool). not (b || not o && over x2)) (own c) ∙ ap not (up c (by o)))
          go (inr c) = ap (λ (b : Bool). not b || not (over x1 || not o && over x2)) c

      by_paths : carried (hours l) l ps gone n ≡ all_below most_path (λ x. carries (hours l) l ps gone (suc x) n)
      by_paths = same_true _ _ (λ e. all_below_lem _ most_path (λ x _. to_paths e (suc x))) (λ e. from_paths (λ x u. all_at _ most_path x e u))

  -- ---- row n goes
  module _ {gone : ℕ → Bool} {n : ℕ} (G : Going (hours l) l gone n) where
    same_back : (p h : ℕ) → gives_to (hours l) l n p ≡ false → given_back (hours l) l (adding gone n) p h ≡ given_back (hours l) l gone p h
    same_back p h e = back_more H l gone G.row G.free p h ∙ ap (λ (b : Bool). given_back H l gone p h + pick b (word_at (row H l n) (hour_at H granted_part h)) 0) e ∙ omega arith

    back_step : (p h : ℕ) → given_back (hours l) l gone p h ≤ given_back (hours l) l (adding gone n) p h
    back_step p h = omega (arith, back_more H l gone G.row G.free p h)

    stays_same : (p : ℕ) → p ≢ n → stays (hours l) l (adding gone n) p ≡ stays (hours l) l gone p
    unfolding stays adding
    stays_same p ne = ap (λ (b : Bool). is_confirmed (row H l p) && not (b || gone p)) (ne_eqb p n ne)

    fits_same : (p h : ℕ) → gives_to (hours l) l n p ≡ false → fits_in (hours l) l gone p h ≡ true → fits_in (hours l) l (adding gone n) p h ≡ true
    fits_same p h e f = fits_less H l (adding gone n) gone p h (omega (arith, same_back p h e)) f

    -- its own, when it goes from 13: it holds its granted again
    fits_whole : (h : ℕ) → h < hours l → is_confirmed (row (hours l) l n) ≡ true → fits_in (hours l) l (adding gone n) n h ≡ true
    unfolding fits_in whole_again
    fits_whole h hlt c =
        let e = eqb-true (word_at (row H l n) (hour_at H available_part h) + given_back H l gone n h) (word_at (row H l n) (hour_at H granted_part h)) (all_at _ H h (G.whole c) hlt) in
        fits_made (is_confirmed (row H l n)) (word_at (row H l n) (hour_at H displaced_part h)) (word_at (row H l n) (hour_at H available_part h)) (word_at (row H l n) (hour_at H granted_part h)) (given_back H l (adding gone n) n h)
        (λ _. omega (arith, e, (S.profiles n G.row).most displaced_part h (lit< tt) hlt, same_back n h (not_to_itself S G.row)))
        (λ z. never (sym c ∙ z))

    -- the last 1 of its turn is that of a row which it gives to late
    fits_late : (p h : ℕ) → h < hours l → fits (hours l) l gone n ≡ true → gives_to (hours l) l n p ≡ true → stays (hours l) l gone p ≡ false → fits_in (hours l) l (adding gone n) p h ≡ true
    unfolding gives_to gives
    fits_late p h hlt f t s = subst (λ (q : ℕ). fits_in H l (adding gone n) q h ≡ true) to (all_at _ H h (last derived (ap (λ (q : ℕ). stays H l gone q) to ∙ s)) hlt)
      where
        to : related_row H l n ≡ p
        to = eqb-true (related_row H l n) p (and_right (is_confirmed (row H l n) && not (original (reqtype (row H l n)))) (eqb (related_row H l n) p) t)

        sure : (is_confirmed (row H l n) && not (original (reqtype (row H l n)))) ≡ true
        sure = and_left (is_confirmed (row H l n) && not (original (reqtype (row H l n)))) (eqb (related_row H l n) p) t

        derived : original (reqtype (row H l n)) ≡ false
        derived = not-true (original (reqtype (row H l n))) (and_right (is_confirmed (row H l n)) (not (original (reqtype (row H l n)))) sure)

        all : Bool
        all = all_below H (λ h. fits_in H l (adding gone n) (related_row H l n) h)

        last : original (reqtype (row H l n)) ≡ false → stays H l gone (related_row H l n) ≡ false → all ≡ true
        last o q =
            sym (ap (λ (b : Bool). b || (stays H l gone (related_row H l n) || all)) o ∙ ap (λ (b : Bool). b || all) q)
            ∙ not_or (is_confirmed (row H l n)) (original (reqtype (row H l n)) || (stays H l gone (related_row H l n) || all)) f (and_left (is_confirmed (row H l n)) (not (original (reqtype (row H l n)))) sure)

    -- so each row that is not CONFIRMED any more fits
    fits_step : fits (hours l) l gone n ≡ true → (p : ℕ) → (stays (hours l) l gone p ≡ false → (h : ℕ) → h < hours l → fits_in (hours l) l gone p h ≡ true)
        → stays (hours l) l (adding gone n) p ≡ false → (h : ℕ) → h < hours l → fits_in (hours l) l (adding gone n) p h ≡ true
    unfolding stays
    fits_step f p before s h hlt = go (ℕ_discrete p n)
      where
        own : (is_confirmed (row H l n) ≡ true) ⊎ (is_confirmed (row H l n) ≡ false) → (stays H l gone n ≡ false → fits_in H l gone n h ≡ true) → fits_in H l (adding gone n) n h ≡ true
        own (inl c) b = fits_whole h hlt c
        own (inr c) b = fits_same n h (not_to_itself S G.row) (b (ap (λ (t : Bool). t && not (gone n)) c))

        other : stays H l gone p ≡ false → (gives_to H l n p ≡ true) ⊎ (gives_to H l n p ≡ false) → fits_in H l (adding gone n) p h ≡ true
        other s (inl t) = fits_late p h hlt f t s
        other s (inr t) = fits_same p h t (before s h hlt)

        go : Dec (p ≡ n) → fits_in H l (adding gone n) p h ≡ true
        go (yes q) = subst (λ (m : ℕ). (stays H l gone m ≡ false → fits_in H l gone m h ≡ true) → fits_in H l (adding gone n) m h ≡ true) (sym q) (own (by (is_confirmed (row H l n)))) (λ t. before t h hlt)
        go (no q) = other (sym (stays_same p q) ∙ s) (by (gives_to H l n p))

  -- before the first turn
  fits_start : (refs : List ℕ) (p : ℕ) → p < used l → stays (hours l) l (gone_at refs 0) p ≡ false → (h : ℕ) → h < hours l → fits_in (hours l) l (gone_at refs 0) p h ≡ true
  unfolding stays gone_by none fits_in
  fits_start refs p lt s h hlt =
      let c : is_confirmed (row H l p) ≡ false = sym (and_true (is_confirmed (row H l p))) ∙ s in
      fits_made (is_confirmed (row H l p)) (word_at (row H l p) (hour_at H displaced_part h)) (word_at (row H l p) (hour_at H available_part h)) (word_at (row H l p) (hour_at H granted_part h)) (given_back H l (gone_at refs 0) p h)
      (λ z. never (sym z ∙ c))
      (λ _. omega (arith, (unwound_start H l (gone_at refs 0) (λ m. refl)).other p h hlt c, (S.profiles p lt).most displaced_part h (lit< tt) hlt))

  -- ---- all turns
  module _ (refs : List ℕ) (go : all_movable (hours l) l refs ≡ true) where
    moves : (k : ℕ) → k < length refs → movable (hours l) l (gone_at refs k) (word_at refs k) ≡ true
    unfolding all_movable
    moves k lt = all_at _ (length refs) k go lt

    pub goes : (k : ℕ) → k < length refs → Going (hours l) l (gone_at refs k) (row_of (word_at refs k))
    goes k lt = record {
      free = movable_free H l (gone_at refs k) (word_at refs k) (moves k lt);
      whole = movable_whole H l (gone_at refs k) (word_at refs k) (moves k lt);
      records = λ m g c.
          let w = gone_when refs m k (omega (arith, lt)) g in
          let t = movable_type H l (gone_at refs w.0) (word_at refs w.0) (moves w.0 (omega (arith, lt, w.1))) in
          subst (λ (q : ℕ). is_confirmed (row H l q) ≡ true → reqtype (row H l q) ≢ RELINQUISH) w.2 t c;
      row = movable_row H l (gone_at refs k) (word_at refs k) (moves k lt);
    }

    back_grows : (p h i j : ℕ) → i ≤ j → j ≤ length refs → given_back (hours l) l (gone_at refs i) p h ≤ given_back (hours l) l (gone_at refs j) p h
    back_grows p h i j a b =
        along (λ k. given_back H l (gone_at refs i) p h ≤ given_back H l (gone_at refs k) p h) (length refs)
        (λ k lt le.
        let e = ap (λ (g : ℕ → Bool). given_back H l g p h) (gone_more none refs k lt) in
        omega (arith, le, e, back_step (goes k lt) p h))
        i j a b (omega arith)

    abbrev all_last : Bool
    all_last = all_below (length refs) (λ k. fits (hours l) l (gone_at refs k) (row_of (word_at refs k)))

    -- by each turn's last 1 the rows fit at the end
    fits_all : all_last ≡ true → (p : ℕ) → p < used l → (k : ℕ) → k ≤ length refs → stays (hours l) l (gone_at refs k) p ≡ false → (h : ℕ) → h < hours l → fits_in (hours l) l (gone_at refs k) p h ≡ true
    fits_all f p plt k le =
        along (λ k. stays H l (gone_at refs k) p ≡ false → (h : ℕ) → h < H → fits_in H l (gone_at refs k) p h ≡ true) (length refs)
        (λ k lt before.
        subst (λ (g : ℕ → Bool). stays H l g p ≡ false → (h : ℕ) → h < H → fits_in H l g p h ≡ true) (sym (gone_more none refs k lt))
        (fits_step (goes k lt) (all_at _ (length refs) k f lt) p before))
        0 k (omega arith) le (fits_start refs p plt)

    module _ (late : ℕ → Bool)
        (all : (j : ℕ) → j < length refs → gives_late (hours l) l (gone_at refs j) (row_of (word_at refs j)) ≡ true → late (related_row (hours l) l (row_of (word_at refs j))) ≡ true)
        (off : (p : ℕ) → late p ≡ true → stays (hours l) l (gone_at refs (length refs)) p ≡ false) where
      abbrev at_end : ℕ → Bool
      at_end p = all_below (hours l) (λ h. fits_in (hours l) l (gone_at refs (length refs)) p h)

      to_end : all_last ≡ true → all_fit (hours l) l refs late ≡ true
      unfolding all_fit
      to_end f = all_below_lem _ (used l) (λ p lt. one p lt (by (late p)))
        where
          one : (p : ℕ) → p < used l → (late p ≡ true) ⊎ (late p ≡ false) → (not (late p) || at_end p) ≡ true
          one p lt (inl e) = or_right (not (late p)) (all_below_lem (λ h. fits_in H l (gone_at refs (length refs)) p h) H (λ h hlt. fits_all f p lt (length refs) (omega arith) (off p e) h hlt))
          one p lt (inr e) = ap (λ (b : Bool). not b || at_end p) e

      module _ (f : all_fit (hours l) l refs late ≡ true) (k : ℕ) (lt : k < length refs) where
        abbrev n : ℕ
        n = row_of (word_at refs k)

        abbrev p : ℕ
        p = related_row (hours l) l (row_of (word_at refs k))

        abbrev then : Bool
        then = all_below (hours l) (λ h. fits_in (hours l) l (adding (gone_at refs k) n) p h)

        -- with all given back it fits, so it did in its turn
        late_fits : late p ≡ true → p < used l → then ≡ true
        unfolding all_fit
        late_fits e u = all_below_lem (λ h. fits_in H l (adding (gone_at refs k) n) p h) H (λ h hlt.
            let g = ap (λ (g : ℕ → Bool). given_back H l g p h) (gone_more none refs k lt) in
            let le = back_grows p h (suc k) (length refs) (omega (arith, lt)) (omega arith) in
            fits_less H l (adding (gone_at refs k) n) (gone_at refs (length refs)) p h (omega (arith, g, le)) (all_at (λ h. fits_in H l (gone_at refs (length refs)) p h) H h (not_or (late p) (at_end p) (all_at _ (used l) p f u) e) hlt))

        from_end : fits (hours l) l (gone_at refs k) (row_of (word_at refs k)) ≡ true
        unfolding gives_late gives
        from_end = one (by (is_confirmed (row H l n))) (by (original (reqtype (row H l n)))) (by (stays H l (gone_at refs k) p))
          where
            c : Bool
            c = is_confirmed (row H l n)

            o : Bool
            o = original (reqtype (row H l n))

            s : Bool
            s = stays H l (gone_at refs k) p

            one : (c ≡ true) ⊎ (c ≡ false) → (o ≡ true) ⊎ (o ≡ false) → (s ≡ true) ⊎ (s ≡ false) → (not c || (o || (s || then))) ≡ true
            one (inr e) d g = ap (λ (b : Bool). not b || (o || (s || then))) e
            one (inl e) (inl d) g = or_right (not c) (ap (λ (b : Bool). b || (s || then)) d)
            one (inl e) (inr d) (inl g) = or_right (not c) (or_right o (ap (λ (b : Bool). b || then) g))
            one (inl e) (inr d) (inr g) =
                or_right (not c) (or_right o (or_right s
                (late_fits (all k lt (ap (λ (b : Bool). (b && not o) && not s) e ∙ ap (λ (b : Bool). not b && not s) d ∙ ap not g)) (above (goes k lt).row d))))

      by_end : all_last ≡ all_fit (hours l) l refs late
      by_end = same_true _ _ to_end (λ f. all_below_lem _ (length refs) (λ k lt. from_end f k lt))

    by_all_paths : (ps : List ℕ) → all_below (length refs) (λ k. carried (hours l) l ps (gone_at refs k) (row_of (word_at refs k))) ≡ paths_carry (hours l) l ps refs
    unfolding paths_carry carries_all
    by_all_paths ps =
        all_cong _ _ (length refs) (λ k lt. by_paths (goes k lt).row ps (gone_at refs k))
        ∙ all_swap (length refs) most_path (λ k x. carries H l ps (gone_at refs k) (suc x) (row_of (word_at refs k)))

-- ---- the passes
module _ (l ps refs : List ℕ) (s : sound_both l ps ≡ true) where
  by_tests : annuls_in_order l ps refs
      ≡ (all_movable (hours l) l refs && (all_below (length refs) (λ k. fits (hours l) l (gone_at refs k) (row_of (word_at refs k))) && all_below (length refs) (λ k. carried (hours l) l ps (gone_at refs k) (row_of (word_at refs k)))))
  unfolding all_movable
  by_tests =
      annuls_in_order_lem l ps refs s
      ∙ all_cong _ _ (length refs) (λ k _. turn_three (hours l) l ps (gone_at refs k) (word_at refs k))
      ∙ all_and (length refs) (λ k. movable (hours l) l (gone_at refs k) (word_at refs k)) (λ k. fits (hours l) l (gone_at refs k) (row_of (word_at refs k)) && carried (hours l) l ps (gone_at refs k) (row_of (word_at refs k)))
      ∙ ap (λ (b : Bool). all_below (length refs) (λ k. movable (hours l) l (gone_at refs k) (word_at refs k)) && b)
      (all_and (length refs) (λ k. fits (hours l) l (gone_at refs k) (row_of (word_at refs k))) (λ k. carried (hours l) l ps (gone_at refs k) (row_of (word_at refs k))))

  -- the first pass says no
  pub unmovable : all_movable (hours l) l refs ≡ false → annuls_in_order l ps refs ≡ false
  unmovable e =
      by_tests
      ∙ ap (λ (b : Bool). b && (all_below (length refs) (λ k. fits (hours l) l (gone_at refs k) (row_of (word_at refs k))) && all_below (length refs) (λ k. carried (hours l) l ps (gone_at refs k) (row_of (word_at refs k))))) e

  module _ (go : all_movable (hours l) l refs ≡ true) where
    pub going : (k : ℕ) → k < length refs → Going (hours l) l (gone_at refs k) (row_of (word_at refs k))
    going k lt = goes (ledger_sound l ps 0 s) refs go k lt

    -- it says yes: the other two decide. late names the rows that were given something back late, and none that is
    -- CONFIRMED at the end
    pub by_passes : (late : ℕ → Bool)
        → ((j : ℕ) → j < length refs → gives_late (hours l) l (gone_at refs j) (row_of (word_at refs j)) ≡ true → late (related_row (hours l) l (row_of (word_at refs j))) ≡ true)
        → ((p : ℕ) → late p ≡ true → stays (hours l) l (gone_at refs (length refs)) p ≡ false)
        → annuls_in_order l ps refs ≡ (all_fit (hours l) l refs late && paths_carry (hours l) l ps refs)
    by_passes late all off =
        let S = ledger_sound l ps 0 s in
        by_tests
        ∙ ap (λ (b : Bool). b && (all_below (length refs) (λ k. fits (hours l) l (gone_at refs k) (row_of (word_at refs k))) && all_below (length refs) (λ k. carried (hours l) l ps (gone_at refs k) (row_of (word_at refs k))))) go
        ∙ ap (λ (b : Bool). b && all_below (length refs) (λ k. carried (hours l) l ps (gone_at refs k) (row_of (word_at refs k)))) (by_end S refs go late all off)
        ∙ ap (λ (b : Bool). all_fit (hours l) l refs late && b) (by_all_paths S refs go ps)
