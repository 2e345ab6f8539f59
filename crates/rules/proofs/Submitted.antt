-- What a submission leaves: a formed ledger with one more row.
use mathlib.Core.Path.{◌≡◌, sym, ap, ◌∙◌, subst}
use mathlib.Core.Logic.{◌⊎◌, ⊎_elim, inl, inr}
use mathlib.Core.List.{List}
use Prim.Native.Nat.{ℕ, ◌+◌, ◌-◌, ◌≤◌, ◌<◌}
use native.Mathlib.Decide.{ℕ_discrete}
use native.Mathlib.Omega.{arith}
use lib.Dec.{lit<}
use lib.ListN.{length, get_or}
use Rattle.words.specs.Lists.{splice}
use Rattle.words.proofs.Laws.{within_at, splice_in, splice_after}
use Rattle.rules.specs.Numbers.{row_words, profiles, most_entity, most_megawatts, requested_part}
use Rattle.rules.specs.Layout.{rows, hours, used, row_of, row_size, row, reqtype, related, start, stop, related_row, hour_at}
use Rattle.rules.specs.Checks.{profile}
use Rattle.rules.specs.Submit.{new_words, new_row, submit_after}
use Rattle.rules.specs.declared.Action.{Action}
use Rattle.rules.proofs.Rows.{row_length}
use Rattle.rules.proofs.Seen.{Room}
use Rattle.rules.proofs.SoundFacts.{SoundWords, SoundRelation}
use Rattle.rules.proofs.Formed.{FormedHours, Formed, formed_sized}
use Rattle.rules.proofs.Passed.{profile_length, SubmitPassed}
use Rattle.rules.proofs.Effects.{Put, Opens, above_before, written, written_field, new_words_length, splice_new, submit_leaves}
use Rattle.rules.proofs.Kept.{Next, formed_by, head_kept}

-- ---- the new row, which was r
module _ {H : ℕ} {l w : List ℕ} {a : Action} (P : SubmitPassed H l w a) (r : List ℕ) (long : length r ≡ row_size H) where
  new_room : Room H a.start (profile w a) (splice r 0 (new_words a))
  new_room = record { long = splice_new H r w a long; fits = omega (arith, profile_length P.profile, P.starts, P.stops) }

  pub new_field : (k : ℕ) → k < 12 → get_or (new_row H w a r) k 0 ≡ get_or (new_words a) k 0
  unfolding new_row
  new_field k lt =
      let z : k ≡ 0 + k = omega arith in
      written_field new_room {p = requested_part} (lit< tt) k (omega arith)
      ∙ ap (λ (i : ℕ). get_or (splice r 0 (new_words a)) i 0) z
      ∙ splice_in r 0 (new_words a) (omega (arith, new_words_length a, long)) k (omega (arith, new_words_length a))

  past_words : (k : ℕ) → 12 ≤ k → get_or (splice r 0 (new_words a)) k 0 ≡ get_or r k 0
  past_words k le = splice_after r 0 (new_words a) (omega (arith, new_words_length a, long)) k (omega (arith, new_words_length a))

  module _ (zero : (k : ℕ) → get_or r k 0 ≡ 0) where
    pub new_rest : (k : ℕ) → 12 ≤ k → k < row_words → get_or (new_row H w a r) k 0 ≡ 0
    unfolding new_row
    new_rest k le lt = written_field new_room {p = requested_part} (lit< tt) k lt ∙ past_words k le ∙ zero k

    -- an hour of it: 0, or one of requested
    pub new_hour : (p h : ℕ) → p < profiles → h < H → (get_or (new_row H w a r) (hour_at H p h) 0 ≡ 0) ⊎ Put requested_part p a.start h (profile w a) (get_or (new_row H w a r) (hour_at H p h) 0)
    unfolding new_row
    new_hour p h plt hlt = ⊎_elim (λ e. inl (e ∙ past_words (hour_at H p h) (omega arith) ∙ zero (hour_at H p h))) (λ q. inr q) (written new_room {p = requested_part} (lit< tt) p h plt hlt)

    pub new_start : start (new_row H w a r) ≡ a.start
    unfolding new_words
    new_start = new_field 5 (lit< tt)

    pub new_stop : stop (new_row H w a r) ≡ a.stop
    unfolding new_words
    new_stop = new_field 6 (lit< tt)

    pub new_type : reqtype (new_row H w a r) ≡ a.reqtype
    unfolding new_words
    new_type = new_field 0 (lit< tt)

    pub new_related : related (new_row H w a r) ≡ a.related
    unfolding new_words
    new_related = new_field 4 (lit< tt)

    pub new_hours : FormedHours H (new_row H w a r)
    new_hours = record {
      most = λ p h plt hlt.
          ⊎_elim (λ e. omega (arith, e)) (λ q. omega (arith, q.is, within_at most_megawatts (profile w a) P.profile.most (h - a.start) (omega arith))) (new_hour p h (omega arith) hlt);
      outside = λ p h plt hlt z.
          ⊎_elim (λ e. e)
          (λ q. ⊎_elim (λ u. absurd (omega (arith, new_start))) (λ u. absurd (omega (arith, new_stop, profile_length P.profile, P.starts))) z)
          (new_hour p h plt hlt);
    }

    pub new_sound : (1 ≤ a.actor) × (a.actor ≤ most_entity) → SoundWords H (new_row H w a r)
    unfolding new_words
    new_sound actor = record {
      type_least = omega (arith, new_field 0 (lit< tt), P.type);
      type_most = omega (arith, new_field 0 (lit< tt), P.type);
      status_least = omega (arith, new_field 1 (lit< tt));
      status_most = omega (arith, new_field 1 (lit< tt));
      customer = (omega (arith, new_field 2 (lit< tt), actor), omega (arith, new_field 2 (lit< tt), actor));
      seller = (omega (arith, new_field 3 (lit< tt), P.seller), omega (arith, new_field 3 (lit< tt), P.seller));
      starts = omega (arith, new_start, new_stop, P.starts);
      stops = omega (arith, new_stop, P.stops);
      flags = omega (arith, new_field 7 (lit< tt), P.flags);
      bid = omega (arith, new_field 8 (lit< tt), P.price);
      offer = omega (arith, new_field 9 (lit< tt));
      limit = omega (arith, new_field 10 (lit< tt));
      path = (omega (arith, new_field 11 (lit< tt), P.path), omega (arith, new_field 11 (lit< tt), P.path));
      rest = λ k least most. new_rest k (omega arith) most;
    }

-- ---- relations
-- row n and the row above it are as they were
module _ (H : ℕ) (l l' : List ℕ) (n : ℕ) (e : row H l' n ≡ row H l n) where
  same_above : related_row H l' n ≡ related_row H l n
  unfolding related_row
  same_above = ap (λ (x : List ℕ). row_of (related x)) e

  word : (k : ℕ) → get_or (row H l' n) k 0 ≡ get_or (row H l n) k 0
  word k = ap (λ (x : List ℕ). get_or x k 0) e

  module _ (f : 3 ≤ reqtype (row H l n) → row H l' (related_row H l n) ≡ row H l (related_row H l n)) where
    above : 3 ≤ reqtype (row H l n) → (k : ℕ) → get_or (row H l' (related_row H l' n)) k 0 ≡ get_or (row H l (related_row H l n)) k 0
    above t k = ap (λ (m : ℕ). get_or (row H l' m) k 0) same_above ∙ ap (λ (x : List ℕ). get_or x k 0) (f t)

    relation_rows : SoundRelation H l n → SoundRelation H l' n
    relation_rows s = record {
      originals = λ t. word 4 ∙ s.originals (omega (arith, word 0));
      up = λ t. let u = s.up (omega (arith, word 0)) in (omega (arith, word 4, u.0), omega (arith, word 4, u.1));
      redirect = λ q. above (omega (arith, word 0)) 0 ∙ s.redirect (sym (word 0) ∙ q);
      others = λ t ne.
          let t' : 3 ≤ reqtype (row H l n) = omega (arith, word 0) in
          let u = s.others t' (λ q. ne (word 0 ∙ q)) in
          (λ q. u.0 (sym (above t' 0) ∙ q), λ q. u.1 (sym (above t' 0) ∙ q));
      span = λ t.
          let t' : 3 ≤ reqtype (row H l n) = omega (arith, word 0) in
          let u = s.span t' in
          (omega (arith, u.0, word 5, above t' 5), omega (arith, u.1, word 6, above t' 6));
    }

-- the new row's own
module _ {l w : List ℕ} {a : Action} (F : Formed l) (lt : used l < rows l) (P : SubmitPassed (hours l) l w a) {l' : List ℕ} (O : Opens (rows l) (hours l) l l' (new_row (hours l) w a (row (hours l) l (used l)))) where
  long : length (row (hours l) l (used l)) ≡ row_size (hours l)
  long = row_length (formed_sized F) lt

  none : (k : ℕ) → get_or (row (hours l) l (used l)) k 0 ≡ 0
  none = F.unused (used l) (omega arith)

  own_type : reqtype (row (hours l) l' (used l)) ≡ a.reqtype
  own_type = ap (λ (x : List ℕ). reqtype x) O.own ∙ new_type P (row (hours l) l (used l)) long none

  own_related : related (row (hours l) l' (used l)) ≡ a.related
  own_related = ap (λ (x : List ℕ). related x) O.own ∙ new_related P (row (hours l) l (used l)) long none

  own_start : start (row (hours l) l' (used l)) ≡ a.start
  own_start = ap (λ (x : List ℕ). start x) O.own ∙ new_start P (row (hours l) l (used l)) long none

  own_stop : stop (row (hours l) l' (used l)) ≡ a.stop
  own_stop = ap (λ (x : List ℕ). stop x) O.own ∙ new_stop P (row (hours l) l (used l)) long none

  own_above : 3 ≤ a.reqtype → row (hours l) l' (related_row (hours l) l' (used l)) ≡ row (hours l) l (row_of a.related)
  unfolding related_row
  own_above t =
      let i = (P.derived t).issued in
      ap (λ (k : ℕ). row (hours l) l' (row_of k)) own_related ∙ O.other (row_of a.related) (λ e. omega (arith, i.0, i.1))

  own_relation : SoundRelation (hours l) l' (used l)
  own_relation = record {
    originals = λ t. own_related ∙ P.original (omega (arith, own_type));
    up = λ t. let i = (P.derived (omega (arith, own_type))).issued in (omega (arith, own_related, i.0), omega (arith, own_related, i.1));
    redirect = λ q. let t : 3 ≤ a.reqtype = omega (arith, own_type) in ap (λ (x : List ℕ). reqtype x) (own_above t) ∙ (P.derived t).redirect (sym own_type ∙ q);
    others = λ t ne.
        let t' : 3 ≤ a.reqtype = omega (arith, own_type) in
        let u = (P.derived t').others (λ q. ne (own_type ∙ q)) in
        let e = ap (λ (x : List ℕ). reqtype x) (own_above t') in
        (λ q. u.0 (sym e ∙ q), λ q. u.1 (sym e ∙ q));
    span = λ t.
        let t' : 3 ≤ a.reqtype = omega (arith, own_type) in
        let u = (P.derived t').span in
        (omega (arith, u.0, own_start, ap (λ (x : List ℕ). start x) (own_above t')), omega (arith, u.1, own_stop, ap (λ (x : List ℕ). stop x) (own_above t')));
  }

  -- ---- the ledger
  opens_formed : (1 ≤ a.actor) × (a.actor ≤ most_entity) → Formed l'
  opens_formed actor =
      formed_by (O.head 1 (lit< tt) (λ e. omega arith)) O.more
      (head_kept F.head O.sized (λ i ilt _ ne. O.head i ilt ne) (omega (arith, O.head 5 (lit< tt) (λ e. omega arith), F.head.clock)) (omega (arith, O.more)))
      (λ m mlt. words m mlt (ℕ_discrete m (used l)))
      (λ m mlt. each m mlt (ℕ_discrete m (used l)))
      (λ m mlt. relates m mlt (ℕ_discrete m (used l)))
      (λ m le k. ap (λ (x : List ℕ). get_or x k 0) (O.other m (λ e. omega arith)) ∙ F.unused m (omega arith) k)
    where
      words : (m : ℕ) → m < used l + 1 → Dec (m ≡ used l) → SoundWords (hours l) (row (hours l) l' m)
      words m mlt (yes e) =
          subst (λ (i : ℕ). SoundWords (hours l) (row (hours l) l' i)) (sym e)
          (subst (λ (x : List ℕ). SoundWords (hours l) x) (sym O.own) (new_sound P (row (hours l) l (used l)) long none actor))
      words m mlt (no ne) = subst (λ (x : List ℕ). SoundWords (hours l) x) (sym (O.other m ne)) (F.words m (omega (arith, ne)))

      each : (m : ℕ) → m < used l + 1 → Dec (m ≡ used l) → FormedHours (hours l) (row (hours l) l' m)
      each m mlt (yes e) =
          subst (λ (i : ℕ). FormedHours (hours l) (row (hours l) l' i)) (sym e)
          (subst (λ (x : List ℕ). FormedHours (hours l) x) (sym O.own) (new_hours P (row (hours l) l (used l)) long none))
      each m mlt (no ne) = subst (λ (x : List ℕ). FormedHours (hours l) x) (sym (O.other m ne)) (F.profiles m (omega (arith, ne)))

      relates : (m : ℕ) → m < used l + 1 → Dec (m ≡ used l) → SoundRelation (hours l) l' m
      relates m mlt (yes e) = subst (λ (i : ℕ). SoundRelation (hours l) l' i) (sym e) own_relation
      relates m mlt (no ne) =
          let lt' : m < used l = omega (arith, ne) in
          relation_rows (hours l) l l' m (O.other m ne) (λ t. O.other (related_row (hours l) l m) (λ e. omega (arith, above_before F lt' t))) (F.relations m lt')

pub submit_opens : {l w : List ℕ} {a : Action} → Formed l → SubmitPassed (hours l) l w a → Opens (rows l) (hours l) l (submit_after (hours l) l w a) (new_row (hours l) w a (row (hours l) l (used l)))
submit_opens {l} {w} {a} F P =
    submit_leaves F (omega (arith, P.room, F.head.used)) w a (omega (arith, profile_length P.profile, P.starts, P.stops))

pub submit_next : {l w : List ℕ} {a : Action} → Formed l → SubmitPassed (hours l) l w a → (1 ≤ a.actor) × (a.actor ≤ most_entity) → Next l (submit_after (hours l) l w a)
submit_next {l} {w} {a} F P actor =
    let O = submit_opens F P in
    record { formed = opens_formed F (omega (arith, P.room, F.head.used)) P O actor; hours = O.head 1 (lit< tt) (λ e. omega arith); rows = O.head 0 (lit< tt) (λ e. omega arith); used = omega (arith, O.more) }
