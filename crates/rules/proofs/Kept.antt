-- What keeps a ledger formed.
use mathlib.Core.Path.{◌≡◌, refl, sym, ap, ◌∙◌, subst}
use mathlib.Core.Logic.{◌≢◌, ◌⊎◌, ⊎_elim, inl, inr}
use mathlib.Core.Bool.{Bool, true, false, ◌||◌}
use mathlib.Core.List.{List}
use Prim.Native.Nat.{ℕ, suc, ◌+◌, ◌-◌, ◌*◌, ◌/◌, ◌%◌, ◌≤◌, ◌<◌}
use native.Mathlib.Decide.{ℕ_discrete}
use native.Mathlib.Nat.{mod-lt, div-add-mod', div-lt_iff_lt-mul, add-div_right}
use native.Mathlib.Omega.{arith}
use borrow.Author.Tests.{eqb-false}
use lib.Dec.{eqb, lit<}
use lib.ListN.{length, get_or, set, length-set, get_or-eq_default}
use lib.Seq.{get_or-set_same, get_or-set_other}
use Rattle.words.specs.Lists.{zip2, noughts, within}
use Rattle.words.proofs.Laws.{lt_or_le, part_at, within_at, within_all, noughts_length, noughts_at}
use Rattle.rules.specs.Pick.{pick}
use Rattle.rules.specs.Numbers.{head_words, row_words, profiles, most_status, most_flags, most_price, most_megawatts, end_second, end_limit, approved, granted_given, offer_given, countered, requested_part, granted_part, available_part, displaced_part, reduced_part, RELINQUISH}
use Rattle.rules.specs.Layout.{rows, hours, used, row_base, row_size, row, on_row, reqtype, related, start, stop, flags, related_row, has_flag, flagged, hour_at, hours_of, span_hours, span, requested, granted, available, has, raise, set_status, set_bid, set_offer, set_limit, set_hours, add_hours, less_hours, clear_hours, Sized}
use Rattle.rules.specs.Megawatts.{in_force, grant, take_from, displaced_row, displace, annulled_row, annul, reduced_row, reduce}
use Rattle.rules.specs.Confirming.{held, emptied, confirm}
use Rattle.rules.specs.Checks.{profile, comes}
use Rattle.rules.specs.SellerStatus.{accepts, granted_after, entered, offered}
use Rattle.rules.specs.CustomerStatus.{bidden}
use Rattle.rules.specs.declared.Action.{Action}
use Rattle.rules.proofs.Seen.{Room, set_length}
use Rattle.rules.proofs.SoundFacts.{SoundHead, SoundWords, SoundRelation}
use Rattle.rules.proofs.Formed.{FormedHours, Formed}
use Rattle.rules.proofs.Leaves.{Kin, Leaves}
use Rattle.rules.proofs.Passed.{ProfilePassed, profile_length}
use Rattle.rules.proofs.Spans.{Spanned, span_room, span_length}
use Rattle.rules.proofs.Effects.{written, written_field, zipped, row_spanned, own_leaves, displace_leaves, annul_leaves, reduce_leaves, confirm_leaves}

-- row q is row r with another status, flags, prices, limit and hours, and formed
pub record Same (H : ℕ) (r q : List ℕ) : Type 0 where
  pub long : length q ≡ row_size H
  pub type : reqtype q ≡ reqtype r
  pub related : related q ≡ related r
  pub start : start q ≡ start r
  pub stop : stop q ≡ stop r
  pub words : SoundWords H q
  pub hours : FormedHours H q

-- ---- rows whose sixteen words are the same
pub words_same : {H : ℕ} {r q : List ℕ} → ((k : ℕ) → k < row_words → get_or q k 0 ≡ get_or r k 0) → SoundWords H r → SoundWords H q
words_same {H} {r} {q} e w = record {
  type_least = omega (arith, e 0 (lit< tt), w.type_least);
  type_most = omega (arith, e 0 (lit< tt), w.type_most);
  status_least = omega (arith, e 1 (lit< tt), w.status_least);
  status_most = omega (arith, e 1 (lit< tt), w.status_most);
  customer = (omega (arith, e 2 (lit< tt), w.customer), omega (arith, e 2 (lit< tt), w.customer));
  seller = (omega (arith, e 3 (lit< tt), w.seller), omega (arith, e 3 (lit< tt), w.seller));
  starts = omega (arith, e 5 (lit< tt), e 6 (lit< tt), w.starts);
  stops = omega (arith, e 6 (lit< tt), w.stops);
  flags = omega (arith, e 7 (lit< tt), w.flags);
  bid = omega (arith, e 8 (lit< tt), w.bid);
  offer = omega (arith, e 9 (lit< tt), w.offer);
  limit = omega (arith, e 10 (lit< tt), w.limit);
  path = (omega (arith, e 11 (lit< tt), w.path), omega (arith, e 11 (lit< tt), w.path));
  rest = λ k least most. e k most ∙ w.rest k least most;
}

pub hours_kin : {H : ℕ} {r q : List ℕ} → Kin H r q → FormedHours H r → FormedHours H q
hours_kin {H} {r} {q} k f = record {
  most = λ p h plt hlt. omega (arith, k.hour p h plt hlt, f.most p h plt hlt);
  outside = λ p h plt hlt w. let z = out h w in k.outside p h plt hlt z ∙ f.outside p h plt hlt z;
}
  where
    out : (h : ℕ) → (h < start q) ⊎ (stop q ≤ h) → (h < start r) ⊎ (stop r ≤ h)
    out h w = ⊎_elim (λ u. inl (omega (arith, k.field 5 (lit< tt)))) (λ u. inr (omega (arith, k.field 6 (lit< tt)))) w

-- a row that was 0 and became kin is 0
pub kin_zero : {H : ℕ} {r q : List ℕ} → 1 ≤ H → Kin H r q → ((k : ℕ) → get_or r k 0 ≡ 0) → (k : ℕ) → get_or q k 0 ≡ 0
kin_zero {H} {r} {q} least a z k = ⊎_elim (λ u. a.field k u ∙ z k) (λ u. ⊎_elim (λ v. body u v) (λ v. get_or-eq_default q 0 (omega (arith, a.long))) (lt_or_le k (row_size H))) (lt_or_le k row_words)
  where
    body : row_words ≤ k → k < row_size H → get_or q k 0 ≡ 0
    body u v =
        let p : ℕ = (k - row_words) / H in
        let h : ℕ = (k - row_words) % H in
        let hlt : h < H = mod-lt (k - row_words) least in
        let plt : p < profiles = (div-lt_iff_lt-mul {k = H} {x = k - row_words} {y = profiles} least).1 (omega arith) in
        let e : hour_at H p h ≡ k = omega (arith, div-add-mod' (k - row_words) H) in
        ap (λ (i : ℕ). get_or q i 0) (sym e) ∙ a.outside p h plt hlt (inr (omega (arith, z 6))) ∙ z (hour_at H p h)

-- ---- types, related references and spans of all rows are as they were
pub record Shaped (H : ℕ) (l l' : List ℕ) : Type 0 where
  pub type : (m : ℕ) → reqtype (row H l' m) ≡ reqtype (row H l m)
  pub related : (m : ℕ) → related (row H l' m) ≡ related (row H l m)
  pub start : (m : ℕ) → start (row H l' m) ≡ start (row H l m)
  pub stop : (m : ℕ) → stop (row H l' m) ≡ stop (row H l m)

-- the word k of the row that an effect is about is as it was: so it is in all rows
pub leaves_word : {R H : ℕ} {l l' : List ℕ} {n : ℕ} {r : List ℕ} → Leaves R H l l' n r → (k : ℕ) → k < row_words → get_or r k 0 ≡ get_or (row H l n) k 0 → (m : ℕ) → get_or (row H l' m) k 0 ≡ get_or (row H l m) k 0
leaves_word {R} {H} {l} {l'} {n} {r} L k lt e m = go (ℕ_discrete m n)
  where
    go : Dec (m ≡ n) → get_or (row H l' m) k 0 ≡ get_or (row H l m) k 0
    go (yes q) = ap (λ (i : ℕ). get_or (row H l' i) k 0) q ∙ ap (λ (x : List ℕ). get_or x k 0) L.own ∙ e ∙ ap (λ (i : ℕ). get_or (row H l i) k 0) (sym q)
    go (no ne) = ⊎_elim (λ u. (L.kin m ne u).field k lt) (λ u. ap (λ (x : List ℕ). get_or x k 0) (L.past m u)) (lt_or_le m R)

pub leaves_shaped : {R H : ℕ} {l l' : List ℕ} {n : ℕ} {r : List ℕ} → Leaves R H l l' n r → Same H (row H l n) r → Shaped H l l'
leaves_shaped L s = record {
  type = leaves_word L 0 (lit< tt) s.type;
  related = leaves_word L 4 (lit< tt) s.related;
  start = leaves_word L 5 (lit< tt) s.start;
  stop = leaves_word L 6 (lit< tt) s.stop;
}

module _ {H : ℕ} {l l' : List ℕ} (s : Shaped H l l') (n : ℕ) where
  pub shaped_above : related_row H l' n ≡ related_row H l n
  unfolding related_row
  shaped_above = ap (λ (k : ℕ). k - 1) (s.related n)

  above_type : reqtype (row H l' (related_row H l' n)) ≡ reqtype (row H l (related_row H l n))
  above_type = s.type (related_row H l' n) ∙ ap (λ (m : ℕ). reqtype (row H l m)) shaped_above

  above_start : start (row H l' (related_row H l' n)) ≡ start (row H l (related_row H l n))
  above_start = s.start (related_row H l' n) ∙ ap (λ (m : ℕ). start (row H l m)) shaped_above

  above_stop : stop (row H l' (related_row H l' n)) ≡ stop (row H l (related_row H l n))
  above_stop = s.stop (related_row H l' n) ∙ ap (λ (m : ℕ). stop (row H l m)) shaped_above

  pub relation_shaped : SoundRelation H l n → SoundRelation H l' n
  relation_shaped r = record {
    originals = λ t. s.related n ∙ r.originals (omega (arith, s.type n));
    up = λ t. let u = r.up (omega (arith, s.type n)) in (omega (arith, u.0, s.related n), omega (arith, u.1, s.related n));
    redirect = λ e. above_type ∙ r.redirect (sym (s.type n) ∙ e);
    others = λ t ne.
        let u = r.others (omega (arith, s.type n)) (λ e. ne (s.type n ∙ e)) in
        (λ e. u.0 (sym above_type ∙ e), λ e. u.1 (sym above_type ∙ e));
    span = λ t.
        let u = r.span (omega (arith, s.type n)) in
        (omega (arith, u.0, above_start, s.start n), omega (arith, u.1, above_stop, s.stop n));
  }

-- ---- a formed ledger, by its hours and rows used
pub formed_by : {l : List ℕ} {H U : ℕ} → hours l ≡ H → used l ≡ U → SoundHead l
    → ((n : ℕ) → n < U → SoundWords H (row H l n)) → ((n : ℕ) → n < U → FormedHours H (row H l n)) → ((n : ℕ) → n < U → SoundRelation H l n)
    → ((n : ℕ) → U ≤ n → (k : ℕ) → get_or (row H l n) k 0 ≡ 0) → Formed l
formed_by {l} {H} {U} eh eu head words hours relations unused = record {
  head = head;
  words = λ n lt. subst (λ (h : ℕ). SoundWords h (row h l n)) (sym eh) (words n (omega arith));
  profiles = λ n lt. subst (λ (h : ℕ). FormedHours h (row h l n)) (sym eh) (hours n (omega arith));
  relations = λ n lt. subst (λ (h : ℕ). SoundRelation h l n) (sym eh) (relations n (omega arith));
  unused = λ n le k. subst (λ (h : ℕ). get_or (row h l n) k 0 ≡ 0) (sym eh) (unused n (omega arith) k);
}

-- the head but for rows used and the clock
pub head_kept : {l l' : List ℕ} → SoundHead l → Sized l' (rows l) (hours l) → ((i : ℕ) → i < head_words → i ≢ 5 → i ≢ 6 → get_or l' i 0 ≡ get_or l i 0)
    → get_or l' 5 0 < end_second → get_or l' 6 0 ≤ rows l → SoundHead l'
head_kept {l} {l'} h s e c u =
    let e0 : get_or l' 0 0 ≡ get_or l 0 0 = e 0 (lit< tt) (λ q. omega arith) (λ q. omega arith) in
    let e1 : get_or l' 1 0 ≡ get_or l 1 0 = e 1 (lit< tt) (λ q. omega arith) (λ q. omega arith) in
    let e2 : get_or l' 2 0 ≡ get_or l 2 0 = e 2 (lit< tt) (λ q. omega arith) (λ q. omega arith) in
    let e3 : get_or l' 3 0 ≡ get_or l 3 0 = e 3 (lit< tt) (λ q. omega arith) (λ q. omega arith) in
    let e4 : get_or l' 4 0 ≡ get_or l 4 0 = e 4 (lit< tt) (λ q. omega arith) (λ q. omega arith) in
    let e7 : get_or l' 7 0 ≡ get_or l 7 0 = e 7 (lit< tt) (λ q. omega arith) (λ q. omega arith) in
    record {
      long = s.long ∙ ap (λ (H : ℕ). row_base H (rows l)) (sym e1) ∙ ap (λ (R : ℕ). row_base (hours l') R) (sym e0);
      rows_least = omega arith;
      rows_most = omega arith;
      hours_least = omega arith;
      hours_most = omega arith;
      provider = (omega (arith, h.provider), omega (arith, h.provider));
      window = (omega (arith, h.window), omega (arith, h.window));
      base = omega (arith, h.base);
      clock = c;
      used = omega arith;
      end = e7 ∙ h.end;
    }

-- ---- an effect that leaves its row formed keeps the ledger formed
pub formed_leaves : {l l' : List ℕ} {n : ℕ} {r : List ℕ} → Formed l → n < used l → Leaves (rows l) (hours l) l l' n r → Same (hours l) (row (hours l) l n) r → Formed l'
formed_leaves {l} {l'} {n} {r} F lt L s =
    formed_by (L.head 1 (lit< tt)) (L.head 6 (lit< tt))
    (head_kept F.head L.sized (λ i ilt a b. L.head i ilt) (omega (arith, L.head 5 (lit< tt), F.head.clock)) (omega (arith, L.head 6 (lit< tt), F.head.used)))
    (λ m mlt. words m mlt (ℕ_discrete m n))
    (λ m mlt. each m mlt (ℕ_discrete m n))
    (λ m mlt. relation_shaped (leaves_shaped L s) m (F.relations m mlt))
    (λ m le k. unused m le k (lt_or_le m (rows l)))
  where
    own : (m : ℕ) → m ≡ n → r ≡ row (hours l) l' m
    own m e = sym (ap (λ (i : ℕ). row (hours l) l' i) e ∙ L.own)

    kin : (m : ℕ) → m < used l → m ≢ n → Kin (hours l) (row (hours l) l m) (row (hours l) l' m)
    kin m mlt ne = L.kin m ne (omega (arith, F.head.used))

    words : (m : ℕ) → m < used l → Dec (m ≡ n) → SoundWords (hours l) (row (hours l) l' m)
    words m mlt (yes e) = subst (λ (q : List ℕ). SoundWords (hours l) q) (own m e) s.words
    words m mlt (no ne) = words_same (kin m mlt ne).field (F.words m mlt)

    each : (m : ℕ) → m < used l → Dec (m ≡ n) → FormedHours (hours l) (row (hours l) l' m)
    each m mlt (yes e) = subst (λ (q : List ℕ). FormedHours (hours l) q) (own m e) s.hours
    each m mlt (no ne) = hours_kin (kin m mlt ne) (F.profiles m mlt)

    unused : (m : ℕ) → used l ≤ m → (k : ℕ) → (m < rows l) ⊎ (rows l ≤ m) → get_or (row (hours l) l' m) k 0 ≡ 0
    unused m le k (inl u) = kin_zero F.head.hours_least (L.kin m (λ e. omega arith) u) (F.unused m le) k
    unused m le k (inr u) = ap (λ (q : List ℕ). get_or q k 0) (L.past m u) ∙ F.unused m le k

-- ---- writes in the row
pub same_self : {l : List ℕ} (F : Formed l) {n : ℕ} → n < used l → Same (hours l) (row (hours l) l n) (row (hours l) l n)
same_self F {n} lt = record {
  long = (row_spanned F lt).long;
  type = refl;
  related = refl;
  start = refl;
  stop = refl;
  words = F.words n lt;
  hours = F.profiles n lt;
}

-- a value that may be stored in the word k: status, flags, bid, offer, limit
pub record Stores (k v : ℕ) : Type 0 where
  pub least : 1 ≤ k
  pub jump : 2 ≤ k → 7 ≤ k
  pub most : k ≤ 10
  pub status : k ≡ 1 → (1 ≤ v) × (v ≤ most_status)
  pub flags : k ≡ 7 → v ≤ most_flags
  pub bid : k ≡ 8 → v ≤ most_price
  pub offer : k ≡ 9 → v ≤ most_price
  pub limit : k ≡ 10 → v < end_limit

module _ {H : ℕ} {q : List ℕ} (long : length q ≡ row_size H) (w : SoundWords H q) {k v : ℕ} (s : Stores k v) where
  -- the word j is as it was, or is v
  word_or : (P : ℕ → Type 0) (j : ℕ) → P (get_or q j 0) → (k ≡ j → P v) → P (get_or (set q k v) j 0)
  word_or P j old new = go (ℕ_discrete j k)
    where
      go : Dec (j ≡ k) → P (get_or (set q k v) j 0)
      go (yes e) =
          subst P (sym (ap (λ (i : ℕ). get_or (set q k v) i 0) e ∙ get_or-set_same q k v 0 (omega (arith, s.most, long)))) (new (sym e))
      go (no ne) = subst P (sym (get_or-set_other q k j v 0 ne)) old

  word_kept : (j : ℕ) → ((j ≡ 0) ⊎ ((2 ≤ j) × (j ≤ 6))) ⊎ (11 ≤ j) → get_or (set q k v) j 0 ≡ get_or q j 0
  word_kept j o = get_or-set_other q k j v 0 (λ e. ⊎_elim (λ x. ⊎_elim (λ y. omega (arith, s.least)) (λ y. omega (arith, s.jump (omega arith))) x) (λ x. omega (arith, s.most)) o)

  pub words_set : SoundWords H (set q k v)
  words_set = record {
    type_least = omega (arith, word_kept 0 (inl (inl refl)), w.type_least);
    type_most = omega (arith, word_kept 0 (inl (inl refl)), w.type_most);
    status_least = word_or (λ x. 1 ≤ x) 1 w.status_least (λ e. (s.status e).0);
    status_most = word_or (λ x. x ≤ most_status) 1 w.status_most (λ e. (s.status e).1);
    customer = rw (word_kept 2 (inl (inr (omega arith, omega arith)))) w.customer;
    seller = rw (word_kept 3 (inl (inr (omega arith, omega arith)))) w.seller;
    starts = omega (arith, word_kept 5 (inl (inr (omega arith, omega arith))), word_kept 6 (inl (inr (omega arith, omega arith))), w.starts);
    stops = omega (arith, word_kept 6 (inl (inr (omega arith, omega arith))), w.stops);
    flags = word_or (λ x. x ≤ most_flags) 7 w.flags s.flags;
    bid = word_or (λ x. x ≤ most_price) 8 w.bid s.bid;
    offer = word_or (λ x. x ≤ most_price) 9 w.offer s.offer;
    limit = word_or (λ x. x < end_limit) 10 w.limit s.limit;
    path = rw (word_kept 11 (inr (omega arith))) w.path;
    rest = λ j least most. word_kept j (inr (omega (arith, least))) ∙ w.rest j least most;
  }

module _ {H : ℕ} {r q : List ℕ} (o : Same H r q) {k v : ℕ} (s : Stores k v) where
  pub same_set : Same H r (set q k v)
  same_set = record {
    long = length-set q k v ∙ o.long;
    type = kept 0 (inl (inl refl)) ∙ o.type;
    related = kept 4 (inl (inr (omega arith, omega arith))) ∙ o.related;
    start = starts ∙ o.start;
    stop = stops ∙ o.stop;
    words = words_set o.long o.words s;
    hours = record {
      most = λ p h plt hlt. omega (arith, kept (hour_at H p h) (inr (omega arith)), o.hours.most p h plt hlt);
      outside = λ p h plt hlt w.
          kept (hour_at H p h) (inr (omega arith))
          ∙ o.hours.outside p h plt hlt (⊎_elim (λ u. inl (omega (arith, starts))) (λ u. inr (omega (arith, stops))) w);
    };
  }
    where
      kept : (j : ℕ) → ((j ≡ 0) ⊎ ((2 ≤ j) × (j ≤ 6))) ⊎ (11 ≤ j) → get_or (set q k v) j 0 ≡ get_or q j 0
      kept = word_kept o.long o.words s

      starts : get_or (set q k v) 5 0 ≡ start q
      starts = kept 5 (inl (inr (omega arith, omega arith)))

      stops : get_or (set q k v) 6 0 ≡ stop q
      stops = kept 6 (inl (inr (omega arith, omega arith)))

-- flags stay at most 63, which is one below a multiple of twice each flag: a flag is added only where it is not there
pub flagged_most : (flag k word : ℕ) → 0 < flag → k * 2 * flag ≡ suc most_flags → word ≤ most_flags → flagged flag word ≤ most_flags
unfolding flagged has_flag
flagged_most flag k word pos e most = go (eqb (word / flag % 2) 1) refl
  where
    below : word / flag < k * 2
    below = (div-lt_iff_lt-mul pos).1 (omega (arith, e, most))

    go : (b : Bool) → eqb (word / flag % 2) 1 ≡ b → pick b word (word + flag) ≤ most_flags
    go true o = most
    go false o =
        let odd : word / flag % 2 ≢ 1 = eqb-false _ _ o in
        let next : (word + flag) / flag < k * 2 = omega (arith, below, add-div_right word pos) in
        omega (arith, e, (div-lt_iff_lt-mul {k = flag} {x = word + flag} {y = k * 2} pos).0 next)

stores_status : {s : ℕ} → 1 ≤ s → s ≤ most_status → Stores 1 s
stores_status a b = record {
  least = omega arith;
  jump = λ e. absurd (omega arith);
  most = omega arith;
  status = λ e. (a, b);
  flags = λ e. absurd (omega arith);
  bid = λ e. absurd (omega arith);
  offer = λ e. absurd (omega arith);
  limit = λ e. absurd (omega arith);
}

stores_flags : {f : ℕ} → f ≤ most_flags → Stores 7 f
stores_flags a = record {
  least = omega arith;
  jump = λ e. omega arith;
  most = omega arith;
  status = λ e. absurd (omega arith);
  flags = λ e. a;
  bid = λ e. absurd (omega arith);
  offer = λ e. absurd (omega arith);
  limit = λ e. absurd (omega arith);
}

stores_bid : {p : ℕ} → p ≤ most_price → Stores 8 p
stores_bid a = record {
  least = omega arith;
  jump = λ e. omega arith;
  most = omega arith;
  status = λ e. absurd (omega arith);
  flags = λ e. absurd (omega arith);
  bid = λ e. a;
  offer = λ e. absurd (omega arith);
  limit = λ e. absurd (omega arith);
}

stores_offer : {p : ℕ} → p ≤ most_price → Stores 9 p
stores_offer a = record {
  least = omega arith;
  jump = λ e. omega arith;
  most = omega arith;
  status = λ e. absurd (omega arith);
  flags = λ e. absurd (omega arith);
  bid = λ e. absurd (omega arith);
  offer = λ e. a;
  limit = λ e. absurd (omega arith);
}

stores_limit : {t : ℕ} → t < end_limit → Stores 10 t
stores_limit a = record {
  least = omega arith;
  jump = λ e. omega arith;
  most = omega arith;
  status = λ e. absurd (omega arith);
  flags = λ e. absurd (omega arith);
  bid = λ e. absurd (omega arith);
  offer = λ e. absurd (omega arith);
  limit = λ e. a;
}

module _ {H : ℕ} {r q : List ℕ} (o : Same H r q) where
  pub same_status : {s : ℕ} → 1 ≤ s → s ≤ most_status → Same H r (set_status s q)
  same_status a b = same_set o (stores_status a b)

  pub same_flags : {f : ℕ} → f ≤ most_flags → Same H r (set q 7 f)
  same_flags a = same_set o (stores_flags a)

  pub same_bid : {p : ℕ} → p ≤ most_price → Same H r (set_bid p q)
  same_bid a = same_set o (stores_bid a)

  pub same_offer : {p : ℕ} → p ≤ most_price → Same H r (set_offer p q)
  same_offer a = same_set o (stores_offer a)

  pub same_limit : {t : ℕ} → t < end_limit → Same H r (set_limit t q)
  same_limit a = same_set o (stores_limit a)

  same_raise : {flag : ℕ} (k : ℕ) → 0 < flag → k * 2 * flag ≡ suc most_flags → Same H r (raise flag q)
  same_raise {flag} k pos e = same_flags (flagged_most flag k (flags q) pos e o.words.flags)

  pub same_approved : Same H r (raise approved q)
  same_approved = same_raise 8 (lit< tt) refl

  pub same_granted_given : Same H r (raise granted_given q)
  same_granted_given = same_raise 4 (lit< tt) refl

  pub same_offer_given : Same H r (raise offer_given q)
  same_offer_given = same_raise 2 (lit< tt) refl

  pub same_countered : Same H r (raise countered q)
  same_countered = same_raise 1 (lit< tt) refl

  -- hours of a profile inside the span; those of requested and granted within their bound
  pub same_hours : (p s : ℕ) (v : List ℕ) → p < profiles → start q ≤ s → s + length v ≤ stop q → (p < available_part → (k : ℕ) → k < length v → get_or v k 0 ≤ most_megawatts) → Same H r (set_hours H p s v q)
  same_hours p s v plt a b most = record {
    long = set_length room plt;
    type = field 0 (lit< tt) ∙ o.type;
    related = field 4 (lit< tt) ∙ o.related;
    start = field 5 (lit< tt) ∙ o.start;
    stop = field 6 (lit< tt) ∙ o.stop;
    words = words_same field o.words;
    hours = record {
      most = λ i h ilt hlt.
          ⊎_elim (λ e. omega (arith, e, o.hours.most i h ilt hlt)) (λ w. omega (arith, most (omega arith) (h - s) (omega arith))) (written room plt i h (omega arith) hlt);
      outside = λ i h ilt hlt z.
          ⊎_elim
          (λ e. e ∙ o.hours.outside i h ilt hlt (⊎_elim (λ u. inl (omega (arith, field 5 (lit< tt)))) (λ u. inr (omega (arith, field 6 (lit< tt)))) z))
          (λ w. ⊎_elim (λ u. absurd (omega (arith, field 5 (lit< tt)))) (λ u. absurd (omega (arith, field 6 (lit< tt)))) z)
          (written room plt i h ilt hlt);
    };
  }
    where
      room : Room H s v q
      room = record { long = o.long; fits = omega (arith, o.words.stops) }

      field : (k : ℕ) → k < row_words → get_or (set_hours H p s v q) k 0 ≡ get_or q k 0
      field = written_field room plt

-- a word for each hour of a row's span, within the bound
pub record Fitting (mw r : List ℕ) : Type 0 where
  pub counted : length mw ≡ span_hours r
  pub most : within most_megawatts mw ≡ true

module _ {H : ℕ} {r q : List ℕ} (o : Same H r q) where
  pub same_put : (p : ℕ) → p < profiles → {mw : List ℕ} → Fitting mw r → Same H r (set_hours H p (start r) mw q)
  same_put p plt {mw} f =
      same_hours o p (start r) mw plt (omega (arith, o.start)) (omega (arith, f.counted, o.start, o.stop, o.words.starts))
      (λ e k lt. within_at most_megawatts mw f.most k lt)

  pub same_clear : (p : ℕ) → p < profiles → (n : ℕ) → start r + n ≤ stop r → Same H r (clear_hours H p (start r) n q)
  unfolding clear_hours
  same_clear p plt n le =
      same_hours o p (start r) (noughts n) plt (omega (arith, o.start)) (omega (arith, noughts_length n, o.stop))
      (λ e k lt. omega (arith, noughts_at n k))

  same_zip : (p : ℕ) → p < profiles → available_part ≤ p → (f : ℕ → ℕ → ℕ) (mw : List ℕ) → length mw ≡ span_hours r → Same H r (set_hours H p (start r) (zip2 f (hours_of H p (start r) (length mw) q) mw) q)
  same_zip p plt least f mw e =
      let room : Room H (start r) mw q = record { long = o.long; fits = omega (arith, o.words.stops, o.words.starts, o.start, o.stop) } in
      same_hours o p (start r) (zip2 f (hours_of H p (start r) (length mw) q) mw) plt (omega (arith, o.start))
      (omega (arith, zipped room plt f, o.words.starts, o.start, o.stop)) (λ x k lt. absurd (omega arith))

  pub same_taken : (mw : List ℕ) → length mw ≡ span_hours r → Same H r (take_from H (start r) mw q)
  unfolding take_from less_hours
  same_taken mw e = same_zip available_part (lit< tt) (omega arith) ◌-◌ mw e

  pub same_added : (p : ℕ) → p < profiles → available_part ≤ p → (mw : List ℕ) → length mw ≡ span_hours r → Same H r (add_hours H p (start r) mw q)
  unfolding add_hours
  same_added p plt least mw e = same_zip p plt least ◌+◌ mw e

pub same_reduced : {H : ℕ} {r q : List ℕ} → Same H r q → (mw : List ℕ) → length mw ≡ span_hours r → Same H r (reduced_row H (start r) mw q)
unfolding reduced_row
same_reduced o mw e = same_added (same_taken o mw e) reduced_part (lit< tt) (omega arith) mw e

pub same_grant : {H : ℕ} {r q : List ℕ} → Same H r q → {mw : List ℕ} → Fitting mw r → Same H r (grant H (start r) mw q)
unfolding grant
same_grant o f = same_granted_given (same_put o granted_part (lit< tt) f)

pub same_held : {H : ℕ} {r q : List ℕ} → Same H r q → {mw : List ℕ} → Fitting mw r → Same H r (held H (start r) mw q)
unfolding held
same_held o f = same_status (same_grant (same_put o available_part (lit< tt) f) f) (omega arith) (omega arith)

pub same_emptied : {H : ℕ} {r q : List ℕ} → Same H r q → {mw : List ℕ} → Fitting mw r → Same H r (emptied H (start r) mw q)
unfolding emptied
same_emptied o {mw} f =
    same_status (same_grant (same_clear o available_part (lit< tt) (length mw) (omega (arith, f.counted, o.start, o.stop, o.words.starts))) f)
    (omega arith) (omega arith)

pub same_displaced : {H : ℕ} {r : List ℕ} → Same H r r → Same H r (displaced_row H r)
unfolding displaced_row
same_displaced {H} {r} o =
    same_status
    (same_clear (same_added o displaced_part (lit< tt) (omega arith) (available H r) (span_length (record { long = o.long; starts = omega (arith, o.words.starts); stops = o.words.stops }) available_part (lit< tt)))
    available_part (lit< tt) (span_hours r) (omega (arith, o.words.starts)))
    (omega arith) (omega arith)

pub same_annulled : {H : ℕ} {r : List ℕ} → Same H r r → Same H r (annulled_row H r)
unfolding annulled_row
same_annulled {H} {r} o = same_status (same_clear o available_part (lit< tt) (span_hours r) (omega (arith, o.words.starts))) (omega arith) (omega arith)

-- by the type: a relinquish record is emptied
pub same_confirmed : {H : ℕ} {r q : List ℕ} → Same H r q → {mw : List ℕ} → Fitting mw r → (b : Bool) → Same H r (pick b (emptied H (start r) mw q) (held H (start r) mw q))
same_confirmed o f true = same_emptied o f
same_confirmed o f false = same_held o f

-- a write that is made only where the test holds
same_when : {H : ℕ} {r q : List ℕ} (f : List ℕ → List ℕ) (b : Bool) → Same H r q → (b ≡ true → Same H r (f q)) → Same H r (pick b (f q) q)
same_when f true o s = s refl
same_when f false o s = o

same_entered : {H : ℕ} {r q : List ℕ} → Same H r q → (b : Bool) {s : ℕ} → 1 ≤ s → s ≤ most_status → Same H r (entered b s q)
unfolding entered
same_entered o b = same_status (same_when (raise countered) b o (λ _. same_countered o))

-- a row with an offer, and its flag
pub words_priced : {H : ℕ} {r : List ℕ} → length r ≡ row_size H → SoundWords H r → {p : ℕ} → p ≤ most_price → SoundWords H (raise offer_given (set_offer p r))
words_priced {H} {r} long w {p} most =
    let o = words_set long w (stores_offer most) in
    words_set (length-set r 9 p ∙ long) o (stores_flags (flagged_most offer_given 2 (flags (set_offer p r)) (lit< tt) refl o.flags))

-- and one that is granted
pub words_granted : {H : ℕ} {r : List ℕ} → length r ≡ row_size H → SoundWords H r → (s : ℕ) (mw : List ℕ) → s + length mw ≤ H → SoundWords H (grant H s mw r)
unfolding grant
words_granted {H} {r} long w s mw fits =
    let m : Room H s mw r = record { long = long; fits = fits } in
    let o : SoundWords H (set_hours H granted_part s mw r) = words_same (λ k lt. written_field m {p = granted_part} (lit< tt) k lt) w in
    words_set (set_length m {p = granted_part} (lit< tt)) o (stores_flags (flagged_most granted_given 4 (flags (set_hours H granted_part s mw r)) (lit< tt) refl o.flags))

pub same_offered : {H : ℕ} {r : List ℕ} → Same H r r → (expires : ℕ) → expires < end_limit → (a : Action) → a.price ≤ most_price → 1 ≤ a.status → a.status ≤ most_status → {mw : List ℕ} → Fitting mw r → Same H r (offered H expires a mw r)
unfolding offered
same_offered {H} {r} o expires e a p s t {mw} f =
    let offers = same_offer_given (same_offer o p) in
    let limits = same_limit (same_when (grant H (start r) mw) (comes a || accepts a) offers (λ _. same_grant offers f)) e in
    same_entered limits _ s t

pub same_bidden : {H : ℕ} {r : List ℕ} → Same H r r → (w : List ℕ) (a : Action) → a.price ≤ most_price → (comes a ≡ true → Fitting (profile w a) r) → Same H r (bidden H w a r)
unfolding bidden
same_bidden {H} {r} o w a p f =
    let bids = same_bid o p in
    same_when (set_hours H requested_part (start r) (profile w a)) (comes a) bids (λ c. same_put bids requested_part (lit< tt) (f c))

-- ---- the ledger after an effect
pub record Next (l l' : List ℕ) : Type 0 where
  pub formed : Formed l'
  pub hours : hours l' ≡ hours l
  pub rows : rows l' ≡ rows l
  pub used : used l ≤ used l'

-- a profile that fits a row fits what became of it
pub fitting_same : {H : ℕ} {mw r q : List ℕ} → Fitting mw r → Same H r q → Fitting mw q
fitting_same f s = record { counted = omega (arith, f.counted, s.start, s.stop); most = f.most }

module _ {l : List ℕ} (F : Formed l) {n : ℕ} (lt : n < used l) where
  pub next_leaves : {l' r : List ℕ} → Leaves (rows l) (hours l) l l' n r → Same (hours l) (row (hours l) l n) r → Next l l'
  next_leaves L s = record { formed = formed_leaves F lt L s; hours = L.head 1 (lit< tt); rows = L.head 0 (lit< tt); used = omega (arith, L.head 6 (lit< tt)) }

  pub next_own : (f : List ℕ → List ℕ) → Same (hours l) (row (hours l) l n) (f (row (hours l) l n)) → Next l (on_row (hours l) n f l)
  next_own f s = next_leaves (own_leaves F lt f s.long) s

  pub next_displace : Next l (displace (hours l) n l)
  next_displace = next_leaves (displace_leaves F lt) (same_displaced (same_self F lt))

  pub next_annul : Next l (annul (hours l) n l)
  next_annul = next_leaves (annul_leaves F lt) (same_annulled (same_self F lt))

  pub next_reduce : (mw : List ℕ) → length mw ≡ span_hours (row (hours l) l n) → Next l (reduce (hours l) n mw l)
  next_reduce mw e = next_leaves (reduce_leaves F lt mw e) (same_reduced (same_self F lt) mw e)

  pub next_confirm : {mw : List ℕ} → Fitting mw (row (hours l) l n) → Next l (confirm (hours l) n mw l)
  next_confirm {mw} f = next_leaves (confirm_leaves F lt mw f.counted) (same_confirmed (same_self F lt) f (eqb (reqtype (row (hours l) l n)) RELINQUISH))

-- a write in the row, and then an effect on the ledger that it leaves
module _ {l : List ℕ} (F : Formed l) {n : ℕ} (lt : n < used l) (f : List ℕ → List ℕ) (s : Same (hours l) (row (hours l) l n) (f (row (hours l) l n))) where
  pub next_then : (E : ℕ → List ℕ → List ℕ)
      → (Formed (on_row (hours l) n f l) → n < used (on_row (hours l) n f l) → row (hours (on_row (hours l) n f l)) (on_row (hours l) n f l) n ≡ f (row (hours l) l n) → Next (on_row (hours l) n f l) (E (hours (on_row (hours l) n f l)) (on_row (hours l) n f l)))
      → Next l (E (hours l) (on_row (hours l) n f l))
  next_then E h = record {
    formed = subst (λ (H : ℕ). Formed (E H l₁)) same after.formed;
    hours = subst (λ (H : ℕ). hours (E H l₁) ≡ hours l₁) same after.hours ∙ same;
    rows = subst (λ (H : ℕ). rows (E H l₁) ≡ rows l₁) same after.rows ∙ L.head 0 (lit< tt);
    used = omega (arith, subst (λ (H : ℕ). used l₁ ≤ used (E H l₁)) same after.used, L.head 6 (lit< tt));
  }
    where
      l₁ : List ℕ
      l₁ = on_row (hours l) n f l

      L : Leaves (rows l) (hours l) l l₁ n (f (row (hours l) l n))
      L = own_leaves F lt f s.long

      same : hours l₁ ≡ hours l
      same = L.head 1 (lit< tt)

      after : Next l₁ (E (hours l₁) l₁)
      after = h (formed_leaves F lt L s) (omega (arith, L.head 6 (lit< tt))) (ap (λ (H : ℕ). row H l₁ n) same ∙ L.own)

  -- its confirmation
  pub next_then_confirm : {mw : List ℕ} → Fitting mw (row (hours l) l n) → Next l (confirm (hours l) n mw (on_row (hours l) n f l))
  next_then_confirm {mw} fits =
      next_then (λ H. confirm H n mw) (λ F₁ lt₁ e. next_confirm F₁ lt₁ (subst (λ (q : List ℕ). Fitting mw q) (sym e) (fitting_same fits s)))

  -- its status
  pub next_then_status : {v : ℕ} → 1 ≤ v → v ≤ most_status → Next l (on_row (hours l) n (set_status v) (on_row (hours l) n f l))
  next_then_status {v} a b = next_then (λ H. on_row H n (set_status v)) (λ F₁ lt₁ e. next_own F₁ lt₁ (set_status v) (same_status (same_self F₁ lt₁) a b))

-- ---- profiles that fit
pub fitting_profile : {w : List ℕ} {a : Action} (r : List ℕ) → ProfilePassed w a (span_hours r) → Fitting (profile w a) r
fitting_profile r p = record { counted = profile_length p; most = p.most }

module _ {H : ℕ} {r : List ℕ} (o : Same H r r) where
  pub spanned : Spanned H r
  spanned = record { long = o.long; starts = omega (arith, o.words.starts); stops = o.words.stops }

  pub fitting_span : (p : ℕ) → p < available_part → Fitting (span H p r) r
  unfolding span
  fitting_span p plt =
      let plt' : p < profiles = omega arith in
      record {
        counted = span_length spanned p plt';
        most = within_all most_megawatts (span H p r)
            (λ k lt.
            let k' : k < span_hours r = omega (arith, span_length spanned p plt') in
            let e : hour_at H p (start r) + k ≡ hour_at H p (start r + k) = omega arith in
            let w : get_or (span H p r) k 0 ≡ get_or r (hour_at H p (start r + k)) 0 = part_at r (hour_at H p (start r)) (span_hours r) (span_room spanned plt') k k' ∙ ap (λ (i : ℕ). get_or r i 0) e in
            omega (arith, w, o.hours.most p (start r + k) plt (omega (arith, o.words.stops))));
      }

  pub fitting_force : Fitting (in_force H r) r
  unfolding in_force
  fitting_force = go (has granted_given r)
    where
      go : (b : Bool) → Fitting (pick b (granted H r) (requested H r)) r
      go true = fitting_span granted_part (lit< tt)
      go false = fitting_span requested_part (lit< tt)

  pub fitting_granted : (w : List ℕ) (a : Action) → (comes a ≡ true → ProfilePassed w a (span_hours r)) → Fitting (granted_after H w a r) r
  unfolding granted_after
  fitting_granted w a p = go (comes a) p
    where
      go : (b : Bool) → (b ≡ true → ProfilePassed w a (span_hours r)) → Fitting (pick b (profile w a) (in_force H r)) r
      go true q = fitting_profile r (q refl)
      go false q = fitting_force
