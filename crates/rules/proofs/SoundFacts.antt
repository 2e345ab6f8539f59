-- What a sound ledger is, as facts; and that they are all.
use mathlib.Core.Path.{◌≡◌, refl, sym, ap, ◌∙◌}
use mathlib.Core.Bool.{Bool, true, false, ◌&&◌, ◌||◌, not}
use mathlib.Core.Logic.{◌≢◌, ◌⊎◌, ⊎_elim, inl, inr}
use mathlib.Core.List.{List}
use Prim.Native.Nat.{ℕ, ◌+◌, ◌-◌, ◌/◌, ◌%◌, ◌≤◌, ◌<◌}
use native.Mathlib.Decide.{ℕ_discrete}
use native.Mathlib.Nat.{add-mul, mod-lt, div-add-mod', mul-le-mul_right}
use native.Mathlib.Omega.{arith}
use lib.Dec.{leb, eqb}
use lib.ListN.{length, get_or, drop, length-take, get_or-eq_default}
use lib.Seq.{get_or-take, get_or-drop}
use borrow.Author.Tests.{leb-true, ltb-true, eqb-true, eqb-false, le-leb, lt-ltb, eq-eqb, ne_eqb}
use Rattle.words.specs.Lists.{part, all_below, within, zeros}
use Rattle.words.proofs.Laws.{lt_or_le, and_left, and_right, all_at, all_below_lem, within_at, within_all, zeros_at, zeros_all}
use Rattle.rules.specs.Numbers.{row_words, used_words, profiles, most_rows, most_hours, most_entity, most_window, most_price, most_megawatts, most_type, most_status, most_flags, most_path, end_hour, end_second, end_limit, entity, NONFIRM_REDIRECT, RELINQUISH}
use Rattle.rules.specs.Layout.{rows, hours, provider, window, base, clock, used, head_end, row_base, row_size, row, reqtype, status, customer, seller, related, start, stop, flags, bid, offer, limit, path, related_row, hour_at, hours_of, span_hours, span, Sized}
use Rattle.rules.specs.Create.{good_numbers}
use Rattle.rules.specs.Sound.{upward, relates, inside, sound_head, sound_words, sound_profile, sound_related, sound_row, unused_zero, sound}
use Rattle.rules.proofs.Types.{original_type, derived_type}

pub record SoundHead (l : List ℕ) : Type 0 where
  pub long : length l ≡ row_base (hours l) (rows l)
  pub rows_least : 1 ≤ rows l
  pub rows_most : rows l ≤ most_rows
  pub hours_least : 1 ≤ hours l
  pub hours_most : hours l ≤ most_hours
  pub provider : (1 ≤ provider l) × (provider l ≤ most_entity)
  pub window : (1 ≤ window l) × (window l ≤ most_window)
  pub base : base l + hours l ≤ end_hour
  pub clock : clock l < end_second
  pub used : used l ≤ rows l
  pub end : head_end l ≡ 0

-- the sixteen words of the row r
pub record SoundWords (H : ℕ) (r : List ℕ) : Type 0 where
  pub type_least : 1 ≤ reqtype r
  pub type_most : reqtype r ≤ most_type
  pub status_least : 1 ≤ status r
  pub status_most : status r ≤ most_status
  pub customer : (1 ≤ customer r) × (customer r ≤ most_entity)
  pub seller : (1 ≤ seller r) × (seller r ≤ most_entity)
  pub starts : start r < stop r
  pub stops : stop r ≤ H
  pub flags : flags r ≤ most_flags
  pub bid : bid r ≤ most_price
  pub offer : offer r ≤ most_price
  pub limit : limit r < end_limit
  pub path : (1 ≤ path r) × (path r ≤ most_path)
  pub rest : (k : ℕ) → used_words ≤ k → k < row_words → get_or r k 0 ≡ 0

-- its profiles, hour by hour
pub record SoundHours (H : ℕ) (r : List ℕ) : Type 0 where
  pub most : (p h : ℕ) → p < profiles → h < H → get_or r (hour_at H p h) 0 ≤ most_megawatts
  pub outside : (p h : ℕ) → p < profiles → h < H → (h < start r) ⊎ (stop r ≤ h) → get_or r (hour_at H p h) 0 ≡ 0

-- row n and the row that it is related to
pub record SoundRelation (H : ℕ) (l : List ℕ) (n : ℕ) : Type 0 where
  pub originals : reqtype (row H l n) ≤ 2 → related (row H l n) ≡ 0
  pub up : 3 ≤ reqtype (row H l n) → (1 ≤ related (row H l n)) × (related (row H l n) ≤ n)
  pub redirect : reqtype (row H l n) ≡ RELINQUISH → reqtype (row H l (related_row H l n)) ≡ NONFIRM_REDIRECT
  pub others : 3 ≤ reqtype (row H l n) → reqtype (row H l n) ≢ RELINQUISH → (reqtype (row H l (related_row H l n)) ≢ NONFIRM_REDIRECT) × (reqtype (row H l (related_row H l n)) ≢ RELINQUISH)
  pub span : 3 ≤ reqtype (row H l n) → (start (row H l (related_row H l n)) ≤ start (row H l n)) × (stop (row H l n) ≤ stop (row H l (related_row H l n)))

pub record SoundLedger (l : List ℕ) : Type 0 where
  pub head : SoundHead l
  pub words : (n : ℕ) → n < used l → SoundWords (hours l) (row (hours l) l n)
  pub profiles : (n : ℕ) → n < used l → SoundHours (hours l) (row (hours l) l n)
  pub relations : (n : ℕ) → n < used l → SoundRelation (hours l) l n
  -- unused rows, also past the end
  pub unused : (n : ℕ) → used l ≤ n → (k : ℕ) → get_or (row (hours l) l n) k 0 ≡ 0

-- ---- tests
both : (b c : Bool) → (b && c) ≡ true → (b ≡ true) × (c ≡ true)
both b c e = (and_left b c e, and_right b c e)

pub range : (a x b : ℕ) → (leb a x && leb x b) ≡ true → (a ≤ x) × (x ≤ b)
range a x b e = (leb-true a x (and_left (leb a x) (leb x b) e), leb-true x b (and_right (leb a x) (leb x b) e))

join : (b c : Bool) → b ≡ true → c ≡ true → (b && c) ≡ true
join b c p q = ap (λ (x : Bool). x && c) p ∙ q

ranged : (a x b : ℕ) → (a ≤ x) × (x ≤ b) → (leb a x && leb x b) ≡ true
ranged a x b h = join (leb a x) (leb x b) (le-leb a x h.0) (le-leb x b h.1)

-- ---- the head
-- numbers that creation takes
pub good_sizes : (R H provider window base : ℕ) → good_numbers R H provider window base ≡ true → (R ≤ most_rows) × (H ≤ most_hours)
unfolding good_numbers
good_sizes R H provider window base e =
    let a = both _ _ e in
    let b = both _ _ a.1 in
    ((range 1 R most_rows a.0).1, (range 1 H most_hours b.0).1)

pub good_least : (R H provider window base : ℕ) → good_numbers R H provider window base ≡ true → (1 ≤ R) × (1 ≤ H)
unfolding good_numbers
good_least R H provider window base e =
    let a = both _ _ e in
    let b = both _ _ a.1 in
    ((range 1 R most_rows a.0).0, (range 1 H most_hours b.0).0)

pub head_facts : (l : List ℕ) → sound_head l ≡ true → SoundHead l
unfolding sound_head good_numbers entity
head_facts l e =
    let g = both _ _ e in
    let a = both _ _ g.0 in
    let b = both _ _ a.1 in
    let c = both _ _ b.1 in
    let d = both _ _ c.1 in
    let f = both _ _ g.1 in
    let h = both _ _ f.1 in
    let i = both _ _ h.1 in
    let R = range 1 (rows l) most_rows a.0 in
    let H = range 1 (hours l) most_hours b.0 in
    record {
      long = eqb-true _ _ f.0;
      rows_least = R.0;
      rows_most = R.1;
      hours_least = H.0;
      hours_most = H.1;
      provider = range 1 (provider l) most_entity c.0;
      window = range 1 (window l) most_window d.0;
      base = leb-true _ _ d.1;
      clock = ltb-true _ _ h.0;
      used = leb-true _ _ i.0;
      end = eqb-true _ _ i.1;
    }

facts_head : (l : List ℕ) → SoundHead l → sound_head l ≡ true
unfolding sound_head good_numbers entity
facts_head l h =
    join _ _
    (join _ _ (ranged 1 (rows l) most_rows (h.rows_least, h.rows_most))
    (join _ _ (ranged 1 (hours l) most_hours (h.hours_least, h.hours_most))
    (join _ _ (ranged 1 (provider l) most_entity h.provider)
    (join _ _ (ranged 1 (window l) most_window h.window) (le-leb _ _ h.base)))))
    (join _ _ (eq-eqb _ _ h.long) (join _ _ (lt-ltb _ _ h.clock) (join _ _ (le-leb _ _ h.used) (eq-eqb _ _ h.end))))

pub head_sized : {l : List ℕ} → SoundHead l → Sized l (rows l) (hours l)
head_sized h = record { long = h.long; rows = h.rows_most; hours = h.hours_most }

-- ---- words of a part, whether or not it lies in the list
part_word : (l : List ℕ) (a n k : ℕ) → k < n → get_or (part l a n) k 0 ≡ get_or l (a + k) 0
part_word l a n k lt = get_or-take n (drop a l) k 0 lt ∙ get_or-drop a l k 0

part_most : (l : List ℕ) (a n k : ℕ) → k < length (part l a n) → k < n
part_most l a n k lt = omega (arith, length-take n (drop a l))

zeros_word : (a : List ℕ) → zeros a ≡ true → (k : ℕ) → get_or a k 0 ≡ 0
zeros_word a e k = ⊎_elim (λ x. zeros_at a e k x) (λ x. get_or-eq_default a 0 x) (lt_or_le k (length a))

within_word : (b : ℕ) (a : List ℕ) → within b a ≡ true → (k : ℕ) → get_or a k 0 ≤ b
within_word b a e k =
    ⊎_elim (λ x. within_at b a e k x) (λ x. omega (arith, get_or-eq_default a 0 x)) (lt_or_le k (length a))

-- ---- the sixteen words
pub words_facts : (H : ℕ) (r : List ℕ) → sound_words H r ≡ true → SoundWords H r
unfolding sound_words entity
words_facts H r e =
    let a = both _ _ e in
    let b = both _ _ a.1 in
    let c = both _ _ b.1 in
    let d = both _ _ c.1 in
    let f = both _ _ d.1 in
    let g = both _ _ f.1 in
    let h = both _ _ g.1 in
    let i = both _ _ h.1 in
    let j = both _ _ i.1 in
    let m = both _ _ j.1 in
    let n = both _ _ m.1 in
    let t = range 1 (reqtype r) most_type a.0 in
    let s = range 1 (status r) most_status b.0 in
    record {
      type_least = t.0;
      type_most = t.1;
      status_least = s.0;
      status_most = s.1;
      customer = range 1 (customer r) most_entity c.0;
      seller = range 1 (seller r) most_entity d.0;
      starts = ltb-true _ _ f.0;
      stops = leb-true _ _ g.0;
      flags = leb-true _ _ h.0;
      bid = leb-true _ _ i.0;
      offer = leb-true _ _ j.0;
      limit = ltb-true _ _ m.0;
      path = range 1 (path r) most_path n.0;
      rest = λ k least most.
          let q : used_words + (k - used_words) ≡ k = omega (arith, least) in
          ap (λ (x : ℕ). get_or r x 0) (sym q)
          ∙ sym (part_word r used_words (row_words - used_words) (k - used_words) (omega (arith, least, most)))
          ∙ zeros_word (part r used_words (row_words - used_words)) n.1 (k - used_words);
    }

facts_words : (H : ℕ) (r : List ℕ) → SoundWords H r → sound_words H r ≡ true
unfolding sound_words entity
facts_words H r w =
    join _ _ (ranged 1 (reqtype r) most_type (w.type_least, w.type_most))
    (join _ _ (ranged 1 (status r) most_status (w.status_least, w.status_most))
    (join _ _ (ranged 1 (customer r) most_entity w.customer)
    (join _ _ (ranged 1 (seller r) most_entity w.seller)
    (join _ _ (lt-ltb _ _ w.starts)
    (join _ _ (le-leb _ _ w.stops)
    (join _ _ (le-leb _ _ w.flags)
    (join _ _ (le-leb _ _ w.bid)
    (join _ _ (le-leb _ _ w.offer)
    (join _ _ (lt-ltb _ _ w.limit)
    (join _ _ (ranged 1 (path r) most_path w.path)
    (zeros_all (part r used_words (row_words - used_words))
    (λ k lt.
    let k5 : k < row_words - used_words = part_most r used_words (row_words - used_words) k lt in
    part_word r used_words (row_words - used_words) k k5
    ∙ w.rest (used_words + k) (omega arith) (omega (arith, k5))))))))))))))

-- ---- profiles
hour_word : (H p s n : ℕ) (r : List ℕ) (h : ℕ) → s ≤ h → h < s + n → get_or r (hour_at H p h) 0 ≡ get_or (hours_of H p s n r) (h - s) 0
hour_word H p s n r h least most =
    let q : hour_at H p h ≡ hour_at H p s + (h - s) = omega (arith, least) in
    ap (λ (x : ℕ). get_or r x 0) q ∙ sym (part_word r (hour_at H p s) n (h - s) (omega (arith, least, most)))

word_hour : (H p s n : ℕ) (r : List ℕ) (k : ℕ) → k < length (hours_of H p s n r) → (k < n) × (get_or (hours_of H p s n r) k 0 ≡ get_or r (hour_at H p (s + k)) 0)
word_hour H p s n r k lt =
    let kn : k < n = part_most r (hour_at H p s) n k lt in
    let q : hour_at H p s + k ≡ hour_at H p (s + k) = omega arith in
    (kn, part_word r (hour_at H p s) n k kn ∙ ap (λ (x : ℕ). get_or r x 0) q)

module _ (H : ℕ) (r : List ℕ) (p : ℕ) where
  parts : sound_profile H r p ≡ true → (zeros (hours_of H p 0 (start r) r) ≡ true) × (within most_megawatts (hours_of H p (start r) (span_hours r) r) ≡ true) × (zeros (hours_of H p (stop r) (H - stop r) r) ≡ true)
  unfolding sound_profile span
  parts e =
      let a = both _ _ e in
      let b = both _ _ a.1 in
      (a.0, b.0, b.1)

  module _ (e : sound_profile H r p ≡ true) where
    outside_word : (h : ℕ) → h < H → (h < start r) ⊎ (stop r ≤ h) → get_or r (hour_at H p h) 0 ≡ 0
    outside_word h lt w =
        ⊎_elim
        (λ x. hour_word H p 0 (start r) r h (omega arith) (omega (arith, x)) ∙ zeros_word (hours_of H p 0 (start r) r) (parts e).0 (h - 0))
        (λ x. hour_word H p (stop r) (H - stop r) r h x (omega (arith, x, lt)) ∙ zeros_word (hours_of H p (stop r) (H - stop r) r) (parts e).2 (h - stop r))
        w

    inside_word : (h : ℕ) → start r ≤ h → h < stop r → get_or r (hour_at H p h) 0 ≤ most_megawatts
    inside_word h least most =
        omega (arith, hour_word H p (start r) (span_hours r) r h least (omega (arith, least, most)), within_word most_megawatts (hours_of H p (start r) (span_hours r) r) (parts e).1 (h - start r))

    most_word_lem : (h : ℕ) → h < H → get_or r (hour_at H p h) 0 ≤ most_megawatts
    most_word_lem h lt =
        ⊎_elim
        (λ x. omega (arith, outside_word h lt (inl x)))
        (λ x. ⊎_elim (λ y. inside_word h x y) (λ y. omega (arith, outside_word h lt (inr y))) (lt_or_le h (stop r)))
        (lt_or_le h (start r))

  facts_profile : SoundWords H r → SoundHours H r → p < profiles → sound_profile H r p ≡ true
  unfolding sound_profile span
  facts_profile w s lt =
      join _ _
      (zeros_all (hours_of H p 0 (start r) r)
      (λ k kl.
      let q = word_hour H p 0 (start r) r k kl in
      q.1 ∙ s.outside p (0 + k) lt (omega (arith, q.0)) (inl (omega (arith, q.0)))))
      (join _ _
      (within_all most_megawatts (hours_of H p (start r) (span_hours r) r)
      (λ k kl.
      let q = word_hour H p (start r) (span_hours r) r k kl in
      omega (arith, q.1, s.most p (start r + k) lt (omega (arith, q.0)))))
      (zeros_all (hours_of H p (stop r) (H - stop r) r)
      (λ k kl.
      let q = word_hour H p (stop r) (H - stop r) r k kl in
      q.1 ∙ s.outside p (stop r + k) lt (omega (arith, q.0)) (inr (omega arith)))))

hours_facts : (H : ℕ) (r : List ℕ) → all_below profiles (λ p. sound_profile H r p) ≡ true → SoundHours H r
hours_facts H r e =
    record {
      most = λ p h pl hl. most_word_lem H r p (all_at (λ p. sound_profile H r p) profiles p e pl) h hl;
      outside = λ p h pl hl w. outside_word H r p (all_at (λ p. sound_profile H r p) profiles p e pl) h hl w;
    }

facts_hours : (H : ℕ) (r : List ℕ) → SoundWords H r → SoundHours H r → all_below profiles (λ p. sound_profile H r p) ≡ true
facts_hours H r w s = all_below_lem (λ p. sound_profile H r p) profiles (λ p lt. facts_profile H r p w s lt)

-- ---- the related row
module _ (H : ℕ) (l : List ℕ) (n : ℕ) where
  related_none : SoundWords H (row H l n) → sound_related H l n ≡ true → reqtype (row H l n) ≤ 2 → related (row H l n) ≡ 0
  unfolding sound_related
  related_none w e lt = eqb-true _ _ (simp (original_type (reqtype (row H l n)) w.type_least lt) at e)

  related_some : sound_related H l n ≡ true → 3 ≤ reqtype (row H l n)
      → (upward H l n ≡ true) × (relates (reqtype (row H l n)) (reqtype (row H l (related_row H l n))) ≡ true) × (inside (start (row H l n)) (stop (row H l n)) (row H l (related_row H l n)) ≡ true)
  unfolding sound_related
  related_some e lt =
      let a = both _ _ (simp (derived_type (reqtype (row H l n)) lt) at e) in
      let b = both _ _ a.1 in
      (a.0, b.0, b.1)

pub upward_facts : (H : ℕ) (l : List ℕ) (n : ℕ) → upward H l n ≡ true → (1 ≤ related (row H l n)) × (related (row H l n) ≤ n)
unfolding upward
upward_facts H l n e = range 1 (related (row H l n)) n e

inside_facts : (a b : ℕ) (r : List ℕ) → inside a b r ≡ true → (start r ≤ a) × (b ≤ stop r)
unfolding inside
inside_facts a b r e = let w = both _ _ e in (leb-true _ _ w.0, leb-true _ _ w.1)

relates_redirect : (t u : ℕ) → relates t u ≡ true → t ≡ RELINQUISH → u ≡ NONFIRM_REDIRECT
unfolding relates
relates_redirect t u e q = eqb-true _ _ (simp (eq-eqb t RELINQUISH q) at e)

neither : (x y : Bool) → not (x || (y || false)) ≡ true → (x ≡ false) × (y ≡ false)
neither true y e = (sym e, cc)
neither false true e = (refl, sym e)
neither false false e = (refl, refl)

relates_others : (t u : ℕ) → relates t u ≡ true → t ≢ RELINQUISH → (u ≢ NONFIRM_REDIRECT) × (u ≢ RELINQUISH)
unfolding relates
relates_others t u e ne =
    let w = neither (eqb u NONFIRM_REDIRECT) (eqb u RELINQUISH) (simp (ne_eqb t RELINQUISH ne) at e) in
    (eqb-false _ _ w.0, eqb-false _ _ w.1)

relation_facts : (H : ℕ) (l : List ℕ) (n : ℕ) → SoundWords H (row H l n) → sound_related H l n ≡ true → SoundRelation H l n
relation_facts H l n w e =
    record {
      originals = related_none H l n w e;
      up = λ t. upward_facts H l n (related_some H l n e t).0;
      redirect = λ q. relates_redirect (reqtype (row H l n)) (reqtype (row H l (related_row H l n))) (related_some H l n e (omega (arith, q))).1 q;
      others = λ t ne. relates_others (reqtype (row H l n)) (reqtype (row H l (related_row H l n))) (related_some H l n e t).1 ne;
      span = λ t. inside_facts (start (row H l n)) (stop (row H l n)) (row H l (related_row H l n)) (related_some H l n e t).2;
    }

facts_relates : (t u : ℕ) → (t ≡ RELINQUISH → u ≡ NONFIRM_REDIRECT) → (t ≢ RELINQUISH → (u ≢ NONFIRM_REDIRECT) × (u ≢ RELINQUISH)) → Dec (t ≡ RELINQUISH) → relates t u ≡ true
unfolding relates
facts_relates t u a b (yes q) = simp (eq-eqb t RELINQUISH q) (eq-eqb u NONFIRM_REDIRECT (a q))
facts_relates t u a b (no ne) = simp (ne_eqb t RELINQUISH ne, ne_eqb u NONFIRM_REDIRECT (b ne).0, ne_eqb u RELINQUISH (b ne).1)

facts_relation : (H : ℕ) (l : List ℕ) (n : ℕ) → SoundWords H (row H l n) → SoundRelation H l n → sound_related H l n ≡ true
unfolding sound_related upward inside
facts_relation H l n w s =
    ⊎_elim
    (λ t. simp (original_type (reqtype (row H l n)) w.type_least (omega (arith, t))) (eq-eqb _ _ (s.originals (omega (arith, t)))))
    (λ t.
    simp (derived_type (reqtype (row H l n)) t)
    (join _ _ (ranged 1 (related (row H l n)) n (s.up t))
    (join _ _
    (facts_relates (reqtype (row H l n)) (reqtype (row H l (related_row H l n))) s.redirect (s.others t) (ℕ_discrete (reqtype (row H l n)) RELINQUISH))
    (join _ _ (le-leb _ _ (s.span t).0) (le-leb _ _ (s.span t).1)))))
    (lt_or_le (reqtype (row H l n)) 3)

-- ---- unused rows
pub row_after : (H : ℕ) {n m : ℕ} → n ≤ m → row_base H n ≤ row_base H m
unfolding row_base
row_after H {n} {m} h = omega (arith, mul-le-mul_right (row_size H) h)

unused_facts : (H : ℕ) (l : List ℕ) → unused_zero H l ≡ true → (n : ℕ) → used l ≤ n → (k : ℕ) → get_or (row H l n) k 0 ≡ 0
unfolding unused_zero row
unused_facts H l e n h k =
    ⊎_elim
    (λ x.
    let q : row_base H n + k ≡ row_base H (used l) + (row_base H n + k - row_base H (used l)) = omega (arith, row_after H h) in
    part_word l (row_base H n) (row_size H) k x
    ∙ ap (λ (i : ℕ). get_or l i 0) q
    ∙ sym (get_or-drop (row_base H (used l)) l (row_base H n + k - row_base H (used l)) 0)
    ∙ zeros_word (drop (row_base H (used l)) l) e (row_base H n + k - row_base H (used l)))
    (λ x. get_or-eq_default (part l (row_base H n) (row_size H)) 0 (omega (arith, x, length-take (row_size H) (drop (row_base H n) l))))
    (lt_or_le k (row_size H))

-- the word i after the start of row u, by its row and its place there
placed : (H u i : ℕ) → row_base H u + i ≡ row_base H (u + i / row_size H) + i % row_size H
unfolding row_base
placed H u i = omega (arith, add-mul u (i / row_size H) (row_size H), div-add-mod' i (row_size H))

facts_unused : (H : ℕ) (l : List ℕ) → ((n : ℕ) → used l ≤ n → (k : ℕ) → get_or (row H l n) k 0 ≡ 0) → unused_zero H l ≡ true
unfolding unused_zero row
facts_unused H l s =
    zeros_all (drop (row_base H (used l)) l)
    (λ i lt.
    let full : 0 < row_size H = omega arith in
    get_or-drop (row_base H (used l)) l i 0
    ∙ ap (λ (j : ℕ). get_or l j 0) (placed H (used l) i)
    ∙ sym (part_word l (row_base H (used l + i / row_size H)) (row_size H) (i % row_size H) (mod-lt i full))
    ∙ s (used l + i / row_size H) (omega arith) (i % row_size H))

-- ---- a sound ledger
row_facts : (H : ℕ) (l : List ℕ) (n : ℕ) → sound_row H l n ≡ true → SoundWords H (row H l n) × SoundHours H (row H l n) × SoundRelation H l n
unfolding sound_row
row_facts H l n e =
    let a = both _ _ e in
    let b = both _ _ a.1 in
    let w = words_facts H (row H l n) a.0 in
    (w, hours_facts H (row H l n) b.0, relation_facts H l n w b.1)

facts_row : (H : ℕ) (l : List ℕ) (n : ℕ) → SoundWords H (row H l n) → SoundHours H (row H l n) → SoundRelation H l n → sound_row H l n ≡ true
unfolding sound_row
facts_row H l n w h s =
    join _ _ (facts_words H (row H l n) w) (join _ _ (facts_hours H (row H l n) w h) (facts_relation H l n w s))

pub sound_facts : {l : List ℕ} → sound l ≡ true → SoundLedger l
unfolding sound
sound_facts {l} e =
    let a = both _ _ e in
    let b = both _ _ a.1 in
    let each : (n : ℕ) → n < used l → sound_row (hours l) l n ≡ true = λ n lt. all_at (λ n. sound_row (hours l) l n) (used l) n b.0 lt in
    record {
      head = head_facts l a.0;
      words = λ n lt. (row_facts (hours l) l n (each n lt)).0;
      profiles = λ n lt. (row_facts (hours l) l n (each n lt)).1;
      relations = λ n lt. (row_facts (hours l) l n (each n lt)).2;
      unused = unused_facts (hours l) l b.1;
    }

pub facts_sound : {l : List ℕ} → SoundLedger l → sound l ≡ true
unfolding sound
facts_sound {l} s =
    join _ _ (facts_head l s.head)
    (join _ _
    (all_below_lem (λ n. sound_row (hours l) l n) (used l) (λ n lt. facts_row (hours l) l n (s.words n lt) (s.profiles n lt) (s.relations n lt)))
    (facts_unused (hours l) l s.unused))

pub sized : {l : List ℕ} → SoundLedger l → Sized l (rows l) (hours l)
sized s = head_sized s.head
