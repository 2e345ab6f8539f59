-- One annulment more: what it does to the rows, and its tests, from the ledger before all of them.
use mathlib.Core.Path.{◌≡◌, refl, sym, ap, subst, ◌∙◌}
use mathlib.Core.Logic.{◌≢◌, ◌⊎◌, ⊎_elim, inl, inr}
use mathlib.Core.Bool.{Bool, true, false, ◌&&◌, ◌||◌, not}
use mathlib.Core.List.{List}
use Prim.Native.Nat.{ℕ, ◌+◌, ◌-◌, ◌≤◌, ◌<◌}
use native.Mathlib.Omega.{arith}
use borrow.Author.Tests.{eqb-true, eqb-false, leb-true, le-leb, eq-eqb, ne_eqb, not-true, not-false}
use lib.Dec.{eqb, leb, lit<}
use lib.ListN.{length, get_or, length-set, get_or-eq_default}
use lib.Seq.{get_or-set_same, get_or-set_other}
use Rattle.words.specs.Lists.{word_at, all_below, equal, roomy}
use Rattle.words.proofs.Laws.{lt_or_le, and_left, and_right, all_below_lem, all_at, all_cong, within_at}
use Rattle.rules.specs.Pick.{pick}
use Rattle.rules.specs.Numbers.{row_words, most_megawatts, granted_part, available_part, displaced_part, ANNULLED}
use Rattle.rules.specs.Layout.{rows, hours, used, row, on_row, reqtype, status, related, start, path, related_row, hour_at, hours_of, span_hours, granted, available, standing, set_status}
use Rattle.rules.specs.Sound.{original}
use Rattle.rules.specs.Moves.{is_confirmed, seller_may}
use Rattle.rules.specs.Megawatts.{returns_to, annulled_row, annul}
use Rattle.rules.specs.Paths.{posting_at, posted_in, over_at}
use Rattle.rules.proofs.Turned.{Turned, turned, kept_word}
use Rattle.rules.proofs.Seen.{Room, at, at_other}
use Rattle.rules.proofs.Spans.{Spanned, span_at}
use Rattle.rules.proofs.Writes.{megawatts, words, returns_profile, word_of, hour_of, returned_other}
use Rattle.rules.proofs.SoundFacts.{SoundLedger}
use Rattle.rules.proofs.Formed.{formed}
use Rattle.rules.proofs.Passed.{or_none, and_none}
use Rattle.rules.proofs.Posts.{SoundPostings}
use Rattle.rules.proofs.Types.{derived_type, derived_least, original_range}
use Rattle.rules.proofs.Placed.{Placed, placed_in, own_long, room_for, span_length, span_standing, equal_hour}
use Rattle.rules.proofs.Bounded.{room_hour, hour_room}
use Rattle.rules.proofs.Others.{returned_to, is_annul_top, is_annul_child, annuls, annulled_turned, gives as given, given_turned, own_kept, child_turned, above_is}
use Rattle.rules.proofs.Over.{full, over_annulling}
use Rattle.rules.proofs.OverPaths.{exceeds, exceeds_at, over_at_lem}
use Rattle.rules.proofs.Unwound.{adding, stays, gives, gives_to, given_back, use_unwound, whole_again, fits_in, Unwound, Goes, confirmed_now, back_more, unwound_next, by, and_false, and_true}
use Rattle.rules.proofs.UnwoundUse.{use_least, use_now}

-- ---- tests that hold together
pub same_true : (b c : Bool) → (b ≡ true → c ≡ true) → (c ≡ true → b ≡ true) → b ≡ c
same_true true c f g = sym (f refl)
same_true false true f g = g refl
same_true false false f g = refl

same_leb : (a b c d : ℕ) → (a ≤ b → c ≤ d) → (c ≤ d → a ≤ b) → leb a b ≡ leb c d
same_leb a b c d f g = same_true (leb a b) (leb c d) (λ e. le-leb c d (f (leb-true a b e))) (λ e. le-leb a b (g (leb-true c d e)))

-- a second test, known where the first holds
pub and_known : (b b' c c' : Bool) → b ≡ b' → (b' ≡ true → c ≡ c') → (b && c) ≡ (b' && c')
and_known b b' c c' e f = ap (λ (t : Bool). t && c) e ∙ go b' f
  where
    go : (t : Bool) → (t ≡ true → c ≡ c') → (t && c) ≡ (t && c')
    go true f = f refl
    go false f = refl

pub or_known : (b b' c c' : Bool) → b ≡ b' → (b' ≡ true → c ≡ c') → (not b || c) ≡ (not b' || c')
or_known b b' c c' e f = ap (λ (t : Bool). not t || c) e ∙ go b' f
  where
    go : (t : Bool) → (t ≡ true → c ≡ c') → (not t || c) ≡ (not t || c')
    go true f = f refl
    go false f = refl

pub never : {A : Type 0} → ◌≡◌ {A = Bool} true false → A
never z = let u : ◌≡◌ {A = ℕ} 0 1 = cc in absurd (omega (arith, u))

-- a posting, also past the end
word_most : {H : ℕ} {ps : List ℕ} → SoundPostings H ps → (k : ℕ) → get_or ps k 0 ≤ most_megawatts
word_most {H} {ps} Q k = ⊎_elim (λ u. within_at most_megawatts ps Q.most k u) (λ u. omega (arith, get_or-eq_default ps 0 u)) (lt_or_le k (length ps))

-- ---- what is given back to a row, by whether it is CONFIRMED
module _ (x : ℕ → ℕ) (z : ℕ) (r : List ℕ) where
  back_available : is_confirmed r ≡ true → at x (returns_to r) (x (returns_to r) + z) available_part ≡ x available_part + z
  unfolding returns_to
  back_available e = ap (λ (t : Bool). at x (pick t available_part displaced_part) (x (pick t available_part displaced_part) + z) available_part) e

  back_kept : is_confirmed r ≡ true → at x (returns_to r) (x (returns_to r) + z) displaced_part ≡ x displaced_part
  unfolding returns_to
  back_kept e = ap (λ (t : Bool). at x (pick t available_part displaced_part) (x (pick t available_part displaced_part) + z) displaced_part) e

  back_displaced : is_confirmed r ≡ false → at x (returns_to r) (x (returns_to r) + z) displaced_part ≡ x displaced_part + z
  unfolding returns_to
  back_displaced e = ap (λ (t : Bool). at x (pick t available_part displaced_part) (x (pick t available_part displaced_part) + z) displaced_part) e

-- the last 1 of row m as it is in l', by whether it was CONFIRMED, and whether it is annulled: of its available while it
-- is CONFIRMED, else of its displaced
abbrev either_by : ℕ → List ℕ → (ℕ → Bool) → ℕ → ℕ → Bool → Bool → Bool
either_by H l gone m h was annulled =
    pick was
    (pick annulled (leb (megawatts H h (row H l m) displaced_part + megawatts H h (row H l m) available_part + given_back H l gone m h) (most_megawatts + megawatts H h (row H l m) granted_part)) (leb (megawatts H h (row H l m) available_part + given_back H l gone m h) most_megawatts))
    (leb (megawatts H h (row H l m) displaced_part + given_back H l gone m h) most_megawatts)

unfoldable fits_either : ℕ → List ℕ → (ℕ → Bool) → ℕ → ℕ → Bool
fits_either H l gone m h = either_by H l gone m h (is_confirmed (row H l m)) (gone m)

-- a row gives nothing to itself
pub not_to_itself : {l : List ℕ} → SoundLedger l → {n : ℕ} → n < used l → gives_to (hours l) l n n ≡ false
unfolding gives_to gives related_row
not_to_itself {l} S {n} lt = go (by (original (reqtype (row (hours l) l n))))
  where
    c : Bool
    c = is_confirmed (row (hours l) l n)

    q : ℕ
    q = related (row (hours l) l n) - 1

    go : (original (reqtype (row (hours l) l n)) ≡ true) ⊎ (original (reqtype (row (hours l) l n)) ≡ false) → (c && not (original (reqtype (row (hours l) l n))) && eqb q n) ≡ false
    go (inl e) = ap (λ (t : Bool). c && not t && eqb q n) e ∙ ap (λ (t : Bool). t && eqb q n) (and_false c)
    go (inr e) =
        let up = (S.relations n lt).up (derived_least (reqtype (row (hours l) l n)) (S.words n lt).type_least e) in
        ap (λ (t : Bool). c && not (original (reqtype (row (hours l) l n))) && t) (ne_eqb q n (λ z. omega (arith, z, up.0, up.1)))
        ∙ and_false (c && not (original (reqtype (row (hours l) l n))))

-- ---- row n of l', which is not annulled yet
module _ {l : List ℕ} (S : SoundLedger l) {gone : ℕ → Bool} {l' : List ℕ} (U : Unwound (hours l) l gone l') (S' : SoundLedger l') {n : ℕ} (lt : n < used l) (g : gone n ≡ false) where
  abbrev H : ℕ
  H = hours l

  first : 0 < hours l
  first = omega (arith, S.head.hours_least)

  lt' : n < used l'
  lt' = omega (arith, lt, U.head 6 (lit< tt))

  P : Placed (rows l') (hours l) l' n
  P = placed_in (formed S') (U.head 1 (lit< tt)) lt'

  same_type : reqtype (row (hours l) l' n) ≡ reqtype (row (hours l) l n)
  same_type = U.field n 0 (lit< tt) (λ z. omega (arith, z))

  same_above : related_row (hours l) l' n ≡ related_row (hours l) l n
  unfolding related_row
  same_above = ap (λ (k : ℕ). k - 1) (U.field n 4 (lit< tt) (λ z. omega (arith, z)))

  least : 1 ≤ reqtype (row (hours l) l n)
  least = (S.words n lt).type_least

  lower : 3 ≤ reqtype (row (hours l) l n) → related_row (hours l) l n < n
  unfolding related_row
  lower t = omega (arith, ((S.relations n lt).up t).0, ((S.relations n lt).up t).1)

  self : gives_to (hours l) l n n ≡ false
  self = not_to_itself S lt

  -- ---- a row that gives nothing back: only it is written
  module _ {l'' r : List ℕ} (T : Turned (rows l') (hours l) l' l'' n r) (none : gives (hours l) l n ≡ false)
      (field : (k : ℕ) → k < row_words → k ≢ 1 → get_or r k 0 ≡ get_or (row (hours l) l' n) k 0) (is : status r ≡ ANNULLED)
      (granted_stays : (h : ℕ) → h < hours l → megawatts (hours l) h r granted_part ≡ megawatts (hours l) h (row (hours l) l' n) granted_part)
      (displaced-stays : (h : ℕ) → h < hours l → megawatts (hours l) h r displaced_part ≡ megawatts (hours l) h (row (hours l) l' n) displaced_part)
      (whole : is_confirmed (row (hours l) l n) ≡ true → (h : ℕ) → h < hours l → megawatts (hours l) h (row (hours l) l' n) available_part ≡ megawatts (hours l) h (row (hours l) l n) granted_part) where
    gives_none : (m : ℕ) → gives_to (hours l) l n m ≡ false
    unfolding gives_to
    gives_none m = ap (λ (t : Bool). t && eqb (related_row H l n) m) none

    goes_alone : Goes (hours l) l l' l'' n
    goes_alone = record {
      head = T.head;
      field = λ m k klt ne. kept_word T refl k (field k klt ne) m;
      now = ap status T.own ∙ is;
      rest = λ m ne. ap status (T.other m ne);
      granted = λ m h hlt. kept_word T refl (hour_at H granted_part h) (granted_stays h hlt) m;
      own = λ h hlt. ap (λ (q : List ℕ). megawatts H h q displaced_part) T.own ∙ displaced-stays h hlt;
      whole = whole;
      still_available = λ m h hlt ne _. ap (λ (q : List ℕ). megawatts H h q available_part) (T.other m ne);
      still_displaced = λ m h hlt ne _. ap (λ (q : List ℕ). megawatts H h q displaced_part) (T.other m ne);
      to_available = λ m h hlt ne e _. never (sym e ∙ gives_none m);
      not_displaced = λ m h hlt ne e _. never (sym e ∙ gives_none m);
      to_displaced = λ m h hlt ne e _. never (sym e ∙ gives_none m);
    }

  -- an open row
  open_none : is_confirmed (row (hours l) l n) ≡ false → gives (hours l) l n ≡ false
  unfolding gives
  open_none e = ap (λ (t : Bool). t && not (original (reqtype (row H l n)))) e

  goes_open : is_confirmed (row (hours l) l n) ≡ false → Goes (hours l) l l' (on_row (hours l) n (set_status ANNULLED) l') n
  goes_open e =
      let long = own_long P in
      goes_alone (turned P.sized P.own (set_status ANNULLED) refl (length-set (row H l' n) 1 ANNULLED ∙ long)) (open_none e)
      (λ k _ ne. get_or-set_other (row H l' n) 1 k ANNULLED 0 ne)
      (get_or-set_same (row H l' n) 1 ANNULLED 0 (omega (arith, long)))
      (λ h _. get_or-set_other (row H l' n) 1 (hour_at H granted_part h) ANNULLED 0 (λ z. omega (arith, z)))
      (λ h _. get_or-set_other (row H l' n) 1 (hour_at H displaced_part h) ANNULLED 0 (λ z. omega (arith, z)))
      (λ c. never (sym c ∙ e))

  -- a CONFIRMED row
  module _ (sure : is_confirmed (row (hours l) l n) ≡ true) (whole : equal (available (hours l) (row (hours l) l' n)) (granted (hours l) (row (hours l) l' n)) ≡ true) where
    whole_hour : (h : ℕ) → h < hours l → megawatts (hours l) h (row (hours l) l' n) available_part ≡ megawatts (hours l) h (row (hours l) l n) granted_part
    whole_hour h hlt = equal_hour P hlt available_part granted_part (lit< tt) (lit< tt) whole ∙ U.granted n h hlt

    top_none : original (reqtype (row (hours l) l n)) ≡ true → gives (hours l) l n ≡ false
    unfolding gives
    top_none e = ap (λ (t : Bool). is_confirmed (row H l n) && not t) e ∙ and_false (is_confirmed (row H l n))

    goes_top : original (reqtype (row (hours l) l n)) ≡ true → Goes (hours l) l l' (annul (hours l) n l') n
    goes_top e =
        let t = original_range (reqtype (row H l n)) e in
        subst (λ (z : List ℕ). Goes H l l' z n) (is_annul_top H n l' (omega (arith, same_type, t.0)) (omega (arith, same_type, t.1)))
        (goes_alone (annulled_turned P first) (top_none e)
        (λ k klt ne. (annuls P first).field k klt ∙ at_other (words (row H l' n)) 1 16 ne)
        ((annuls P first).field 1 (lit< tt))
        (λ h hlt. (annuls P hlt).hour granted_part (lit< tt))
        (λ h hlt. (annuls P hlt).hour displaced_part (lit< tt))
        (λ _. whole_hour))

    module _ (three : 3 ≤ reqtype (row (hours l) l n)) where
      t' : 3 ≤ reqtype (row (hours l) l' n)
      t' = omega (arith, same_type, three)

      abbrev l2 : List ℕ
      l2 = on_row (hours l) n (annulled_row (hours l)) (returned_to (hours l) n l')

      abbrev p : ℕ
      p = related_row (hours l) l' n

      child_gives : gives (hours l) l n ≡ true
      unfolding gives
      child_gives = ap (λ (t : Bool). t && not (original (reqtype (row H l n)))) sure ∙ ap not (derived_type (reqtype (row H l n)) three)

      to_row : (m : ℕ) → gives_to (hours l) l n m ≡ eqb (related_row (hours l) l n) m
      unfolding gives_to
      to_row m = ap (λ (t : Bool). t && eqb (related_row H l n) m) child_gives

      not_above : (m : ℕ) → gives_to (hours l) l n m ≡ false → m ≢ related_row (hours l) l' n
      not_above m e z = eqb-false (related_row H l n) m (sym (to_row m) ∙ e) (sym (z ∙ same_above))

      is_above : (m : ℕ) → gives_to (hours l) l n m ≡ true → related_row (hours l) l' n ≡ m
      is_above m e = same_above ∙ eqb-true (related_row H l n) m (sym (to_row m) ∙ e)

      other_row : (m : ℕ) → m ≢ n → gives_to (hours l) l n m ≡ false → row (hours l) (on_row (hours l) n (annulled_row (hours l)) (returned_to (hours l) n l')) m ≡ row (hours l) l' m
      other_row m ne e = (child_turned P first t').other m ne ∙ (given_turned P first t').other m (not_above m e)

      module _ (h : ℕ) (hlt : h < hours l) where
        back : standing (start (row (hours l) l' n)) (granted (hours l) (row (hours l) l' n)) h ≡ megawatts (hours l) h (row (hours l) l n) granted_part
        back = span_standing P hlt granted_part (lit< tt) ∙ U.granted n h hlt

        abbrev x : ℕ → ℕ
        x = megawatts (hours l) h (row (hours l) l' (related_row (hours l) l' n))

        abbrev z : ℕ
        z = standing (start (row (hours l) l' n)) (granted (hours l) (row (hours l) l' n)) h

        up_available : is_confirmed (row (hours l) l' (related_row (hours l) l' n)) ≡ true
            → megawatts (hours l) h (row (hours l) (on_row (hours l) n (annulled_row (hours l)) (returned_to (hours l) n l')) (related_row (hours l) l' n)) available_part ≡ x available_part + megawatts (hours l) h (row (hours l) l n) granted_part
        up_available c = hour_of (above_is P hlt t') (given P hlt t') available_part (lit< tt) ∙ back_available x z (row H l' p) c ∙ ap (λ (v : ℕ). x available_part + v) back

        up_kept : is_confirmed (row (hours l) l' (related_row (hours l) l' n)) ≡ true
            → megawatts (hours l) h (row (hours l) (on_row (hours l) n (annulled_row (hours l)) (returned_to (hours l) n l')) (related_row (hours l) l' n)) displaced_part ≡ x displaced_part
        up_kept c = hour_of (above_is P hlt t') (given P hlt t') displaced_part (lit< tt) ∙ back_kept x z (row H l' p) c

        up_displaced : is_confirmed (row (hours l) l' (related_row (hours l) l' n)) ≡ false
            → megawatts (hours l) h (row (hours l) (on_row (hours l) n (annulled_row (hours l)) (returned_to (hours l) n l')) (related_row (hours l) l' n)) displaced_part ≡ x displaced_part + megawatts (hours l) h (row (hours l) l n) granted_part
        up_displaced c = hour_of (above_is P hlt t') (given P hlt t') displaced_part (lit< tt) ∙ back_displaced x z (row H l' p) c ∙ ap (λ (v : ℕ). x displaced_part + v) back

      goes_child : Goes (hours l) l l' (annul (hours l) n l') n
      goes_child =
          subst (λ (z : List ℕ). Goes H l l' z n) (is_annul_child H n l' t') (record {
            head = λ i ilt. (child_turned P first t').head i ilt ∙ (given_turned P first t').head i ilt;
            field = λ m k klt ne.
                kept_word (child_turned P first t') (own_kept P first t') k ((annuls P first).field k klt ∙ at_other (words (row H l' n)) 1 16 ne) m
                ∙ kept_word (given_turned P first t') refl k ((given P first t').field k klt) m;
            now = word_of (child_turned P first t').own (annuls P first) 1 (lit< tt);
            rest = λ m ne. ap status ((child_turned P first t').other m ne) ∙ kept_word (given_turned P first t') refl 1 ((given P first t').field 1 (lit< tt)) m;
            granted = λ m h hlt.
                kept_word (child_turned P first t') (own_kept P first t') (hour_at H granted_part h) ((annuls P hlt).hour granted_part (lit< tt)) m
                ∙ kept_word (given_turned P first t') refl (hour_at H granted_part h) ((given P hlt t').hour granted_part (lit< tt) ∙ returned_other (megawatts H h (row H l' p)) _ (row H l' p) granted_part (λ e. omega (arith, e)) (λ e. omega (arith, e))) m;
            own = λ h hlt. hour_of (child_turned P first t').own (annuls P hlt) displaced_part (lit< tt);
            whole = λ _. whole_hour;
            still_available = λ m h hlt ne e. ap (λ (q : List ℕ). megawatts H h q available_part) (other_row m ne e);
            still_displaced = λ m h hlt ne e. ap (λ (q : List ℕ). megawatts H h q displaced_part) (other_row m ne e);
            to_available = λ m h hlt ne e.
                subst (λ (k : ℕ). is_confirmed (row H l' k) ≡ true → megawatts H h (row H l2 k) available_part ≡ megawatts H h (row H l' k) available_part + megawatts H h (row H l n) granted_part) (is_above m e) (up_available h hlt);
            not_displaced = λ m h hlt ne e.
                subst (λ (k : ℕ). is_confirmed (row H l' k) ≡ true → megawatts H h (row H l2 k) displaced_part ≡ megawatts H h (row H l' k) displaced_part) (is_above m e) (up_kept h hlt);
            to_displaced = λ m h hlt ne e.
                subst (λ (k : ℕ). is_confirmed (row H l' k) ≡ false → megawatts H h (row H l2 k) displaced_part ≡ megawatts H h (row H l' k) displaced_part + megawatts H h (row H l n) granted_part) (is_above m e) (up_displaced h hlt);
          })

    goes_confirmed : Goes (hours l) l l' (annul (hours l) n l') n
    goes_confirmed = go (by (original (reqtype (row H l n))))
      where
        go : (original (reqtype (row H l n)) ≡ true) ⊎ (original (reqtype (row H l n)) ≡ false) → Goes H l l' (annul H n l') n
        go (inl e) = goes_top e
        go (inr e) = goes_child (derived_least (reqtype (row H l n)) least e)

    pub unwound_annul : Unwound (hours l) l (adding gone n) (annul (hours l) n l')
    unwound_annul = unwound_next U lt g self goes_confirmed

  pub unwound_open : is_confirmed (row (hours l) l n) ≡ false → Unwound (hours l) l (adding gone n) (on_row (hours l) n (set_status ANNULLED) l')
  unwound_open e = unwound_next U lt g self (goes_open e)

  -- ---- the tests of the row
  -- 11
  pub may_now : seller_may (row (hours l) l' n) ANNULLED ≡ seller_may (row (hours l) l n) ANNULLED
  unfolding seller_may
  may_now =
      let s : status (row H l' n) ≡ status (row H l n) = U.now n ∙ ap (λ (b : Bool). pick b ANNULLED (status (row H l n))) g in
      cc (s, same_type, U.field n 7 (lit< tt) (λ z. omega (arith, z)))

  pub stays_now : is_confirmed (row (hours l) l' n) ≡ is_confirmed (row (hours l) l n)
  unfolding stays
  stays_now = confirmed_now U n ∙ ap (λ (b : Bool). is_confirmed (row H l n) && not b) g ∙ and_true (is_confirmed (row H l n))

  module _ (sure : is_confirmed (row (hours l) l n) ≡ true) where
    held_now : (h : ℕ) → h < hours l → megawatts (hours l) h (row (hours l) l' n) available_part ≡ megawatts (hours l) h (row (hours l) l n) available_part + given_back (hours l) l gone n h
    unfolding stays
    held_now h hlt = U.available n h hlt (ap (λ (b : Bool). b && not (gone n)) sure ∙ ap not g)

    -- 15
    pub whole_now : equal (available (hours l) (row (hours l) l' n)) (granted (hours l) (row (hours l) l' n)) ≡ whole_again (hours l) l gone n
    unfolding whole_again equal
    whole_now = same_true _ _ to from
      where
        r : List ℕ
        r = row (hours l) l' n

        to : equal (available H r) (granted H r) ≡ true → all_below H (λ h. eqb (word_at (row H l n) (hour_at H available_part h) + given_back H l gone n h) (word_at (row H l n) (hour_at H granted_part h))) ≡ true
        to e = all_below_lem _ H (λ h hlt. eq-eqb _ _ (sym (held_now h hlt) ∙ equal_hour P hlt available_part granted_part (lit< tt) (lit< tt) e ∙ U.granted n h hlt))

        spanned : Spanned H r
        spanned = record { long = own_long P; starts = omega (arith, P.starts); stops = P.stops }

        from : all_below H (λ h. eqb (word_at (row H l n) (hour_at H available_part h) + given_back H l gone n h) (word_at (row H l n) (hour_at H granted_part h))) ≡ true → all_below (length (available H r)) (λ k. eqb (word_at (available H r) k) (word_at (granted H r) k)) ≡ true
        from e =
            all_below_lem _ (length (available H r)) (λ k klt.
            let k' : k < span_hours r = omega (arith, klt, span_length P available_part (lit< tt)) in
            let hlt : start r + k < H = omega (arith, k', P.stops) in
            let same = eqb-true _ _ (all_at (λ h. eqb (word_at (row H l n) (hour_at H available_part h) + given_back H l gone n h) (word_at (row H l n) (hour_at H granted_part h))) H (start r + k) e hlt) in
            eq-eqb _ _ (span_at spanned available_part (lit< tt) k k' ∙ held_now (start r + k) hlt ∙ same ∙ sym (U.granted n (start r + k) hlt) ∙ sym (span_at spanned granted_part (lit< tt) k k')))

    -- 22
    pub paths_now : equal (available (hours l) (row (hours l) l' n)) (granted (hours l) (row (hours l) l' n)) ≡ true → (ps : List ℕ)
        → over_at (hours l) l' n (annul (hours l) n l') ps ≡ exceeds_at (hours l) l n ps (use_unwound (hours l) l (adding gone n))
    unfolding exceeds_at
    paths_now whole ps =
        over_at_lem H l' n (annul H n l') ps (use_unwound H l (adding gone n)) (λ x h hlt. use_now S (adding gone n) x h (unwound_annul sure whole) hlt)
        ∙ cc (same_type, same_above, U.field n 11 (lit< tt) (λ z. omega (arith, z)), U.field (related_row H l n) 11 (lit< tt) (λ z. omega (arith, z)))

    -- the last 1
    module _ (three : 3 ≤ reqtype (row (hours l) l n)) where
      abbrev up : ℕ
      up = related_row (hours l) l n

      up_lower : related_row (hours l) l n < n
      up_lower = lower three

      up_gone : adding gone n (related_row (hours l) l n) ≡ gone (related_row (hours l) l n)
      unfolding adding
      up_gone = ap (λ (b : Bool). b || gone (related_row H l n)) (ne_eqb (related_row H l n) n (λ z. omega (arith, z, up_lower)))

      more : (h : ℕ) → given_back (hours l) l (adding gone n) (related_row (hours l) l n) h ≡ given_back (hours l) l gone (related_row (hours l) l n) h + megawatts (hours l) h (row (hours l) l n) granted_part
      unfolding gives_to gives
      more h =
          back_more H l gone lt g (related_row H l n) h
          ∙ ap (λ (b : Bool). given_back H l gone (related_row H l n) h + pick b (megawatts H h (row H l n) granted_part) 0)
          (ap (λ (t : Bool). t && not (original (reqtype (row H l n))) && eqb (related_row H l n) (related_row H l n)) sure
          ∙ ap (λ (t : Bool). not t && eqb (related_row H l n) (related_row H l n)) (derived_type (reqtype (row H l n)) three)
          ∙ eq-eqb (related_row H l n) (related_row H l n) refl)

      fits_now : (h : ℕ) → h < hours l
          → leb (megawatts (hours l) h (row (hours l) l' (related_row (hours l) l n)) (returns_to (row (hours l) l' (related_row (hours l) l n))) + megawatts (hours l) h (row (hours l) l n) granted_part) most_megawatts
          ≡ fits_either (hours l) l (adding gone n) (related_row (hours l) l n) h
      unfolding fits_either returns_to stays
      fits_now h hlt = go (by (is_confirmed (row H l u))) (by (gone u))
        where
          u : ℕ
          u = related_row (hours l) l n

          Goal : Bool → Bool → Bool → Type 0
          Goal c b s = leb (megawatts H h (row H l' u) (pick s available_part displaced_part) + megawatts H h (row H l n) granted_part) most_megawatts ≡ either_by H l (adding gone n) u h c b

          to : (c b s : Bool) → is_confirmed (row H l u) ≡ c → gone u ≡ b → is_confirmed (row H l' u) ≡ s → Goal c b s → Goal (is_confirmed (row H l u)) (adding gone n u) (is_confirmed (row H l' u))
          to c b s i j k f =
              subst (λ (z : Bool). Goal z (adding gone n u) (is_confirmed (row H l' u))) (sym i)
              (subst (λ (z : Bool). Goal c z (is_confirmed (row H l' u))) (sym (up_gone ∙ j)) (subst (λ (z : Bool). Goal c b z) (sym k) f))

          go : (is_confirmed (row H l u) ≡ true) ⊎ (is_confirmed (row H l u) ≡ false) → (gone u ≡ true) ⊎ (gone u ≡ false) → Goal (is_confirmed (row H l u)) (adding gone n u) (is_confirmed (row H l' u))
          go (inl c) (inl b) =
              let s : is_confirmed (row H l' u) ≡ false = confirmed_now U u ∙ ap (λ (t : Bool). is_confirmed (row H l u) && not t) b ∙ and_false (is_confirmed (row H l u)) in
              let w = U.annulled u h hlt c b in
              let v = more h in
              to true true false c b s (same_leb (megawatts H h (row H l' u) displaced_part + megawatts H h (row H l n) granted_part) most_megawatts (megawatts H h (row H l u) displaced_part + megawatts H h (row H l u) available_part + given_back H l (adding gone n) u h) (most_megawatts + megawatts H h (row H l u) granted_part) (λ z. omega (arith, z, w, v)) (λ z. omega (arith, z, w, v)))
          go (inl c) (inr b) =
              let k : stays H l gone u ≡ true = ap (λ (t : Bool). t && not (gone u)) c ∙ ap not b in
              let w = U.available u h hlt k in
              let v = more h in
              to true false true c b (confirmed_now U u ∙ k) (same_leb (megawatts H h (row H l' u) available_part + megawatts H h (row H l n) granted_part) most_megawatts (megawatts H h (row H l u) available_part + given_back H l (adding gone n) u h) most_megawatts (λ z. omega (arith, z, w, v)) (λ z. omega (arith, z, w, v)))
          go (inr c) b =
              let s : is_confirmed (row H l' u) ≡ false = confirmed_now U u ∙ ap (λ (t : Bool). t && not (gone u)) c in
              let w = U.other u h hlt c in
              let v = more h in
              to false (gone u) false c refl s (same_leb (megawatts H h (row H l' u) displaced_part + megawatts H h (row H l n) granted_part) most_megawatts (megawatts H h (row H l u) displaced_part + given_back H l (adding gone n) u h) most_megawatts (λ z. omega (arith, z, w, v)) (λ z. omega (arith, z, w, v)))

      -- the row above has room for what row n gives back
      room_now : full (hours l) (start (row (hours l) l' n)) (granted (hours l) (row (hours l) l' n)) (row (hours l) l' (related_row (hours l) l' n)) ≡ not (all_below (hours l) (λ h. fits_either (hours l) l (adding gone n) (related_row (hours l) l n) h))
      unfolding full
      room_now =
          ap (λ (k : ℕ). not (roomy most_megawatts (granted H (row H l' n)) (hours_of H (returns_to (row H l' k)) (start (row H l' n)) (length (granted H (row H l' n))) (row H l' k)))) same_above
          ∙ ap not (same_true _ _ to from)
        where
          u : ℕ
          u = related_row (hours l) l n

          used' : u < used l'
          used' = omega (arith, up_lower, lt')

          room : Room H (start (row H l' n)) (granted H (row H l' n)) (row H l' u)
          room = room_for P (span_length P granted_part (lit< tt)) (omega (arith, up_lower, P.own))

          backs : (h : ℕ) → h < H → standing (start (row H l' n)) (granted H (row H l' n)) h ≡ megawatts H h (row H l n) granted_part
          backs h hlt = span_standing P hlt granted_part (lit< tt) ∙ U.granted n h hlt

          most : (h : ℕ) → h < H → megawatts H h (row H l' u) (returns_to (row H l' u)) ≤ most_megawatts
          most h hlt =
              subst (λ (J : ℕ). h < J → megawatts J h (row J l' u) (returns_to (row J l' u)) ≤ most_megawatts) (U.head 1 (lit< tt))
              (λ jlt. (S'.profiles u used').most (returns_to (row (hours l') l' u)) h (returns_profile (row (hours l') l' u)) jlt) hlt

          to : roomy most_megawatts (granted H (row H l' n)) (hours_of H (returns_to (row H l' u)) (start (row H l' n)) (length (granted H (row H l' n))) (row H l' u)) ≡ true → all_below H (λ h. fits_either H l (adding gone n) u h) ≡ true
          to e =
              all_below_lem _ H (λ h hlt.
              let w = room_hour room (returns_to (row H l' u)) (returns_profile (row H l' u)) e h (most h hlt) in
              sym (fits_now h hlt) ∙ le-leb (megawatts H h (row H l' u) (returns_to (row H l' u)) + megawatts H h (row H l n) granted_part) most_megawatts (omega (arith, w, backs h hlt)))

          from : all_below H (λ h. fits_either H l (adding gone n) u h) ≡ true → roomy most_megawatts (granted H (row H l' n)) (hours_of H (returns_to (row H l' u)) (start (row H l' n)) (length (granted H (row H l' n))) (row H l' u)) ≡ true
          from e =
              hour_room room (returns_to (row H l' u)) (returns_profile (row H l' u)) (λ h _ high.
              let hlt : h < H = omega (arith, high, room.fits) in
              let w = leb-true (megawatts H h (row H l' u) (returns_to (row H l' u)) + megawatts H h (row H l n) granted_part) most_megawatts (fits_now h hlt ∙ all_at (λ h. fits_either H l (adding gone n) u h) H h e hlt) in
              omega (arith, w, backs h hlt))

    module _ (three : 3 ≤ reqtype (row (hours l) l n)) (ps : List ℕ) (Q : SoundPostings (hours l) ps) (passed : not (exceeds_at (hours l) l n ps (use_unwound (hours l) l (adding gone n))) ≡ true) (derived : original (reqtype (row (hours l) l n)) ≡ false) where
      path_passed : exceeds (hours l) ps (use_unwound (hours l) l (adding gone n)) (path (row (hours l) l (related_row (hours l) l n))) ≡ false
      unfolding exceeds_at
      path_passed =
          and_none _ _ (or_none (exceeds H ps (use_unwound H l (adding gone n)) (path (row H l n))) _ (not-true _ passed)).1 (ap not derived)

      posted_most : (h : ℕ) → h < hours l → use_unwound (hours l) l (adding gone n) (path (row (hours l) l (related_row (hours l) l n))) h ≤ most_megawatts
      unfolding exceeds posted_in
      posted_most h hlt =
          let x : ℕ = path (row H l (related_row H l n)) in
          let w = leb-true (use_unwound H l (adding gone n) x h) (posted_in H ps x h) (all_at (λ h. leb (use_unwound H l (adding gone n) x h) (posted_in H ps x h)) H h (not-false _ path_passed) hlt) in
          omega (arith, w, word_most Q (posting_at H x h))

      stays_then : stays (hours l) l gone (related_row (hours l) l n) ≡ true → stays (hours l) l (adding gone n) (related_row (hours l) l n) ≡ true
      unfolding stays
      stays_then k = ap (λ (b : Bool). is_confirmed (row H l (related_row H l n)) && not b) (up_gone three) ∙ k

      -- CONFIRMED
      either_stays : stays (hours l) l gone (related_row (hours l) l n) ≡ true → (h : ℕ) → h < hours l → fits_either (hours l) l (adding gone n) (related_row (hours l) l n) h ≡ true
      unfolding fits_either stays
      either_stays k h hlt =
          let low = up_lower three in
          let u : ℕ = related_row H l n in
          ap (λ (b : Bool). either_by H l (adding gone n) u h b (adding gone n u)) (and_left (is_confirmed (row H l u)) (not (gone u)) k)
          ∙ ap (λ (b : Bool). either_by H l (adding gone n) u h true b) (up_gone three ∙ not-true _ (and_right (is_confirmed (row H l u)) (not (gone u)) k))
          ∙ le-leb (megawatts H h (row H l u) available_part + given_back H l (adding gone n) u h) most_megawatts
          (omega (arith, use_least S (adding gone n) h u (omega (arith, low, lt)) (stays_then k), posted_most h hlt))

      -- or not
      either_off : stays (hours l) l gone (related_row (hours l) l n) ≡ false → (h : ℕ) → fits_either (hours l) l (adding gone n) (related_row (hours l) l n) h ≡ fits_in (hours l) l (adding gone n) (related_row (hours l) l n) h
      unfolding fits_either fits_in stays
      either_off k h = go (by (is_confirmed (row H l (related_row H l n))))
        where
          u : ℕ
          u = related_row (hours l) l n

          of : Bool → Bool → Bool
          of = either_by H l (adding gone n) u h

          go : (is_confirmed (row H l u) ≡ true) ⊎ (is_confirmed (row H l u) ≡ false) → of (is_confirmed (row H l u)) (adding gone n u) ≡ of (is_confirmed (row H l u)) true
          go (inl c) =
              let b : gone u ≡ true = not-false _ (sym (ap (λ (t : Bool). t && not (gone u)) c) ∙ k) in
              ap (λ (t : Bool). of (is_confirmed (row H l u)) t) (up_gone three ∙ b)
          go (inr c) = ap (λ (t : Bool). of t (adding gone n u)) c ∙ sym (ap (λ (t : Bool). of t true) c)

      either_is : all_below (hours l) (λ h. fits_either (hours l) l (adding gone n) (related_row (hours l) l n) h) ≡ (stays (hours l) l gone (related_row (hours l) l n) || all_below (hours l) (λ h. fits_in (hours l) l (adding gone n) (related_row (hours l) l n) h))
      either_is = go (by (stays H l gone (related_row H l n)))
        where
          u : ℕ
          u = related_row (hours l) l n

          go : (stays H l gone u ≡ true) ⊎ (stays H l gone u ≡ false) → all_below H (λ h. fits_either H l (adding gone n) u h) ≡ (stays H l gone u || all_below H (λ h. fits_in H l (adding gone n) u h))
          go (inl k) = all_below_lem _ H (either_stays k) ∙ sym (ap (λ (b : Bool). b || all_below H (λ h. fits_in H l (adding gone n) u h)) k)
          go (inr k) = all_cong _ _ H (λ h _. either_off k h) ∙ sym (ap (λ (b : Bool). b || all_below H (λ h. fits_in H l (adding gone n) u h)) k)

    last_either : not (over_annulling (hours l) l' n) ≡ (original (reqtype (row (hours l) l n)) || all_below (hours l) (λ h. fits_either (hours l) l (adding gone n) (related_row (hours l) l n) h))
    unfolding over_annulling
    last_either = ap (λ (t : ℕ). not (not (original t) && full H (start (row H l' n)) (granted H (row H l' n)) (row H l' (related_row H l' n)))) same_type ∙ go (by (original (reqtype (row H l n))))
      where
        f : Bool
        f = full H (start (row H l' n)) (granted H (row H l' n)) (row H l' (related_row H l' n))

        c : Bool
        c = all_below H (λ h. fits_either H l (adding gone n) (related_row H l n) h)

        twice : (b : Bool) → not (not b) ≡ b
        twice true = refl
        twice false = refl

        go : (original (reqtype (row H l n)) ≡ true) ⊎ (original (reqtype (row H l n)) ≡ false) → not (not (original (reqtype (row H l n))) && f) ≡ (original (reqtype (row H l n)) || c)
        go (inl e) = ap (λ (b : Bool). not (not b && f)) e ∙ sym (ap (λ (b : Bool). b || c) e)
        go (inr e) =
            ap (λ (b : Bool). not (not b && f)) e ∙ ap not (room_now (derived_least (reqtype (row H l n)) least e)) ∙ twice c
            ∙ sym (ap (λ (b : Bool). b || c) e)

    -- 22 has passed: the row above stays within the bound where it is CONFIRMED
    pub last_now : (ps : List ℕ) → SoundPostings (hours l) ps → not (exceeds_at (hours l) l n ps (use_unwound (hours l) l (adding gone n))) ≡ true
        → not (over_annulling (hours l) l' n) ≡ (original (reqtype (row (hours l) l n)) || (stays (hours l) l gone (related_row (hours l) l n) || all_below (hours l) (λ h. fits_in (hours l) l (adding gone n) (related_row (hours l) l n) h)))
    last_now ps Q e = last_either ∙ go (by (original (reqtype (row H l n))))
      where
        u : ℕ
        u = related_row H l n

        go : (original (reqtype (row H l n)) ≡ true) ⊎ (original (reqtype (row H l n)) ≡ false)
            → (original (reqtype (row H l n)) || all_below H (λ h. fits_either H l (adding gone n) u h)) ≡ (original (reqtype (row H l n)) || (stays H l gone u || all_below H (λ h. fits_in H l (adding gone n) u h)))
        go (inl o) = ap (λ (b : Bool). b || all_below H (λ h. fits_either H l (adding gone n) u h)) o ∙ sym (ap (λ (b : Bool). b || (stays H l gone u || all_below H (λ h. fits_in H l (adding gone n) u h))) o)
        go (inr o) = ap (λ (b : Bool). original (reqtype (row H l n)) || b) (either_is (derived_least (reqtype (row H l n)) least o) ps Q e o)
