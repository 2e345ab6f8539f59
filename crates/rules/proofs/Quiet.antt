-- A write in one row that leaves it neither CONFIRMED nor DISPLACED is a step of the column of every hour.
use mathlib.Core.Path.{◌≡◌, refl, sym, ap, subst, ◌∙◌}
use mathlib.Core.Logic.{◌≢◌}
use mathlib.Core.Bool.{Bool, true, false, ◌||◌}
use mathlib.Core.List.{List}
use Prim.Native.Nat.{ℕ, ◌+◌, ◌≤◌, ◌<◌}
use native.Mathlib.Omega.{arith}
use lib.Dec.{lit<, lit≤}
use lib.ListN.{length, set, length-set}
use lib.Seq.{get_or-set_same, get_or-set_other}
use lib.IntN.{ℤ}
use Rattle.words.proofs.Laws.{splice_length, splice_before, splice_after}
use Rattle.rules.specs.Pick.{when}
use Rattle.rules.specs.Numbers.{row_words, requested_part, granted_part, available_part, displaced_part, reduced_part, approved, countered}
use Rattle.rules.specs.Layout.{hours, used, row, on_row, row_size, reqtype, status, related, path, start, span_hours, hour_at, set_hours, set_status, raise}
use Rattle.rules.specs.Megawatts.{grant}
use Rattle.rules.specs.Checks.{profile, comes}
use Rattle.rules.specs.SellerStatus.{accepts, entered, offered}
use Rattle.rules.specs.CustomerStatus.{bidden}
use Rattle.rules.specs.declared.Action.{Action}
use Rattle.column.specs.Column.{Off}
use Rattle.column.specs.Step.{OutStays, RedStays, Step, quiet}
use Rattle.rules.proofs.Seen.{hour_apart}
use Rattle.rules.proofs.Writes.{megawatts}
use Rattle.rules.proofs.Turned.{Turned, turned, kept_word, still}
use Rattle.rules.proofs.View.{view}
use Rattle.rules.proofs.Formed.{Formed}
use Rattle.rules.proofs.Placed.{Placed, placed, own_long, span_fits}

-- row q is row r in what a column has of it at hour h, but for granted and the status, which is s
pub record Calm (H h : ℕ) (r q : List ℕ) (s : ℕ) : Type 0 where
  pub long : length q ≡ row_size H
  pub type : reqtype q ≡ reqtype r
  pub status : status q ≡ s
  pub related : related q ≡ related r
  pub path : path q ≡ path r
  pub hour : (p : ℕ) → available_part ≤ p → megawatts H h q p ≡ megawatts H h r p

pub calm_self : (H h : ℕ) (r : List ℕ) → length r ≡ row_size H → Calm H h r r (status r)
calm_self H h r e = record { long = e; type = refl; status = refl; related = refl; path = refl; hour = λ p low. refl }

module _ {H h : ℕ} {r q : List ℕ} {s : ℕ} (c : Calm H h r q s) where
  pub calm_set : (k v : ℕ) → k < row_words → 0 ≢ k → 1 ≢ k → 4 ≢ k → 11 ≢ k → Calm H h r (set q k v) s
  calm_set k v lt n0 n1 n4 n11 = record {
    long = length-set q k v ∙ c.long;
    type = get_or-set_other q k 0 v 0 n0 ∙ c.type;
    status = get_or-set_other q k 1 v 0 n1 ∙ c.status;
    related = get_or-set_other q k 4 v 0 n4 ∙ c.related;
    path = get_or-set_other q k 11 v 0 n11 ∙ c.path;
    hour = λ p low. get_or-set_other q k (hour_at H p h) v 0 (λ e. omega (arith, e, lt)) ∙ c.hour p low;
  }

  pub calm_status : (v : ℕ) → Calm H h r (set_status v q) v
  calm_status v = record {
    long = length-set q 1 v ∙ c.long;
    type = get_or-set_other q 1 0 v 0 (λ e. omega (arith, e)) ∙ c.type;
    status = get_or-set_same q 1 v 0 (omega (arith, c.long));
    related = get_or-set_other q 1 4 v 0 (λ e. omega (arith, e)) ∙ c.related;
    path = get_or-set_other q 1 11 v 0 (λ e. omega (arith, e)) ∙ c.path;
    hour = λ p low. get_or-set_other q 1 (hour_at H p h) v 0 (λ e. omega (arith, e)) ∙ c.hour p low;
  }

  -- hours of requested or granted
  pub calm_hours : (p a : ℕ) (v : List ℕ) → p < available_part → a + length v ≤ H → Calm H h r (set_hours H p a v q) s
  unfolding set_hours
  calm_hours p a v plt fits = record {
    long = splice_length q (hour_at H p a) v room ∙ c.long;
    type = splice_before q (hour_at H p a) v room 0 (omega arith) ∙ c.type;
    status = splice_before q (hour_at H p a) v room 1 (omega arith) ∙ c.status;
    related = splice_before q (hour_at H p a) v room 4 (omega arith) ∙ c.related;
    path = splice_before q (hour_at H p a) v room 11 (omega arith) ∙ c.path;
    hour = λ b low. let apart : p < b = omega (arith, plt, low) in splice_after q (hour_at H p a) v room (hour_at H b h) (omega (arith, hour_apart H apart, fits)) ∙ c.hour b low;
  }
    where
      room : hour_at H p a + length v ≤ length q
      room = omega (arith, hour_apart H plt, c.long, fits)

pub calm_when : {H h : ℕ} {r q : List ℕ} {s : ℕ} (b : Bool) (f : List ℕ → List ℕ) → Calm H h r q s → (b ≡ true → Calm H h r (f q) s) → Calm H h r (when b f q) s
calm_when true f c d = d refl
calm_when false f c d = c

calm_entered : {H h : ℕ} {r q : List ℕ} {s : ℕ} → Calm H h r q s → (b : Bool) (v : ℕ) → Calm H h r (entered b v q) v
unfolding entered
calm_entered c b v = calm_status (calm_when b (raise countered) c (λ _. calm_set c 7 _ (lit< tt) (λ e. omega (arith, e)) (λ e. omega (arith, e)) (λ e. omega (arith, e)) (λ e. omega (arith, e)))) v

-- ---- such a write is a step
module _ {R H : ℕ} {l : List ℕ} {n : ℕ} (o : Placed R H l n) {h : ℕ} (f : List ℕ → List ℕ) {s : ℕ} (c : Calm H h (row H l n) (f (row H l n)) s) (before : Off (status (row H l n))) (after : Off s) {B : ℕ → ℕ} where
  pub calm_step : (out out' : ℕ → ℕ → ℤ) (red red' : ℕ → ℤ)
      → OutStays (view H h l out red) (view H h (on_row H n f l) out' red')
      → RedStays (view H h l out red) (view H h (on_row H n f l) out' red')
      → Step B (view H h l out red) (view H h (on_row H n f l) out' red')
  calm_step out out' red red' outs reds =
      let T : Turned R H l (on_row H n f l) n (f (row H l n)) = turned o.sized o.own f refl c.long in
      quiet n
      record {
        keeps = record { used = T.head 6 (lit< tt); ty = kept_word T refl 0 c.type; ref = kept_word T refl 4 c.related; path = kept_word T refl 11 c.path };
        in_use = o.in_use;
        before = before;
        after = subst Off (sym (ap (λ (x : List ℕ). status x) T.own ∙ c.status)) after;
        a = ap (λ (x : List ℕ). megawatts H h x available_part) T.own ∙ c.hour available_part (lit≤ tt);
        d = ap (λ (x : List ℕ). megawatts H h x displaced_part) T.own ∙ c.hour displaced_part (lit≤ tt);
        r = ap (λ (x : List ℕ). megawatts H h x reduced_part) T.own ∙ c.hour reduced_part (lit≤ tt);
        rest = λ m ne. still H h l (on_row H n f l) out out' red red' m (T.other m ne);
        outs = outs;
        reds = reds;
      }

-- ---- the rules' writes in a row that is in use
module _ {R H : ℕ} {l : List ℕ} {n : ℕ} (o : Placed R H l n) (h : ℕ) where
  own_calm : Calm H h (row H l n) (row H l n) (status (row H l n))
  own_calm = calm_self H h (row H l n) (own_long o)

  pub status_calm : (s : ℕ) → Calm H h (row H l n) (set_status s (row H l n)) s
  status_calm s = calm_status own_calm s

  pub approved_calm : Calm H h (row H l n) (raise approved (row H l n)) (status (row H l n))
  approved_calm = calm_set own_calm 7 _ (lit< tt) (λ e. omega (arith, e)) (λ e. omega (arith, e)) (λ e. omega (arith, e)) (λ e. omega (arith, e))

  pub bidden_calm : (w : List ℕ) (a : Action) → (comes a ≡ true → length (profile w a) ≡ span_hours (row H l n)) → Calm H h (row H l n) (bidden H w a (row H l n)) (status (row H l n))
  unfolding bidden
  bidden_calm w a long =
      let B = calm_set own_calm 8 a.price (lit< tt) (λ e. omega (arith, e)) (λ e. omega (arith, e)) (λ e. omega (arith, e)) (λ e. omega (arith, e)) in
      calm_when (comes a) (set_hours H requested_part (start (row H l n)) (profile w a)) B
      (λ e. calm_hours B requested_part (start (row H l n)) (profile w a) (lit< tt) (omega (arith, long e, span_fits o)))

  grant_calm : {q : List ℕ} {s : ℕ} (mw : List ℕ) → length mw ≡ span_hours (row H l n) → Calm H h (row H l n) q s → Calm H h (row H l n) (grant H (start (row H l n)) mw q) s
  unfolding grant
  grant_calm mw long c =
      calm_set (calm_hours c granted_part (start (row H l n)) mw (lit< tt) (omega (arith, long, span_fits o))) 7 _ (lit< tt) (λ e. omega (arith, e)) (λ e. omega (arith, e)) (λ e. omega (arith, e)) (λ e. omega (arith, e))

  pub offered_calm : (expires : ℕ) (a : Action) (mw : List ℕ) → length mw ≡ span_hours (row H l n) → Calm H h (row H l n) (offered H expires a mw (row H l n)) a.status
  unfolding offered
  offered_calm expires a mw long =
      let A = calm_set own_calm 9 a.price (lit< tt) (λ e. omega (arith, e)) (λ e. omega (arith, e)) (λ e. omega (arith, e)) (λ e. omega (arith, e)) in
      let B = calm_set A 7 _ (lit< tt) (λ e. omega (arith, e)) (λ e. omega (arith, e)) (λ e. omega (arith, e)) (λ e. omega (arith, e)) in
      let C = calm_when (comes a || accepts a) (grant H (start (row H l n)) mw) B (λ e. grant_calm mw long B) in
      calm_entered (calm_set C 10 expires (lit< tt) (λ e. omega (arith, e)) (λ e. omega (arith, e)) (λ e. omega (arith, e)) (λ e. omega (arith, e))) _ a.status

-- ---- of a formed ledger
module _ {l : List ℕ} {n : ℕ} (f : Formed l) (lt : n < used l) (before : Off (status (row (hours l) l n))) {h : ℕ} (hlt : h < hours l) (out out' : ℕ → ℕ → ℤ) (red red' : ℕ → ℤ) {B : ℕ → ℕ} where
  pub offered_step : (expires : ℕ) (a : Action) (mw : List ℕ) → length mw ≡ span_hours (row (hours l) l n) → Off a.status
      → OutStays (view (hours l) h l out red) (view (hours l) h (on_row (hours l) n (offered (hours l) expires a mw) l) out' red')
      → RedStays (view (hours l) h l out red) (view (hours l) h (on_row (hours l) n (offered (hours l) expires a mw) l) out' red')
      → Step B (view (hours l) h l out red) (view (hours l) h (on_row (hours l) n (offered (hours l) expires a mw) l) out' red')
  offered_step expires a mw long after =
      calm_step (placed f lt) (offered (hours l) expires a mw) (offered_calm (placed f lt) h expires a mw long) before after out out' red red'

  pub status_step : (s : ℕ) → Off s
      → OutStays (view (hours l) h l out red) (view (hours l) h (on_row (hours l) n (set_status s) l) out' red')
      → RedStays (view (hours l) h l out red) (view (hours l) h (on_row (hours l) n (set_status s) l) out' red')
      → Step B (view (hours l) h l out red) (view (hours l) h (on_row (hours l) n (set_status s) l) out' red')
  status_step s after = calm_step (placed f lt) (set_status s) (status_calm (placed f lt) h s) before after out out' red red'

  pub approved_step : OutStays (view (hours l) h l out red) (view (hours l) h (on_row (hours l) n (raise approved) l) out' red')
      → RedStays (view (hours l) h l out red) (view (hours l) h (on_row (hours l) n (raise approved) l) out' red')
      → Step B (view (hours l) h l out red) (view (hours l) h (on_row (hours l) n (raise approved) l) out' red')
  approved_step = calm_step (placed f lt) (raise approved) (approved_calm (placed f lt) h) before before out out' red red'
