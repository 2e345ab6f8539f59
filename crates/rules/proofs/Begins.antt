-- A submission, the clock and creation, in the column of every hour.
use mathlib.Core.Path.{◌≡◌, refl, sym, ap, ◌∙◌}
use mathlib.Core.Logic.{◌≢◌, ⊎_elim}
use mathlib.Core.List.{List}
use Prim.Native.Nat.{ℕ, suc, ◌+◌, ◌-◌, ◌*◌, ◌≤◌, ◌<◌}
use native.Mathlib.Numerals.{add-one}
use native.Mathlib.Omega.{arith}
use lib.Dec.{lit<, lit≤}
use lib.ListN.{length, get_or, drop, length-take, get_or-eq_default}
use lib.Seq.{get_or-take, get_or-drop, get_or-set_same, get_or-set_other}
use lib.IntN.{ℤ, pos}
use Rattle.words.specs.Lists.{splice}
use Rattle.words.proofs.Laws.{lt_or_le, noughts_at, splice_length, splice_in, splice_after}
use Rattle.rules.specs.Numbers.{requested_part, available_part, displaced_part, reduced_part, NONFIRM_REDIRECT, RELINQUISH}
use Rattle.rules.specs.Layout.{rows, hours, used, row_of, row, on_row, row_base, row_size, reqtype, status, related, path, hour_at, Sized}
use Rattle.rules.specs.Create.{fresh}
use Rattle.rules.specs.Checks.{profile}
use Rattle.rules.specs.Submit.{new_words, new_row, submit_after}
use Rattle.rules.specs.Clock.{clock_after}
use Rattle.rules.specs.declared.Action.{Action}
use Rattle.column.specs.Step.{OutStays, RedStays, Submit, Fresh, Step, same, submit}
use Rattle.rules.proofs.Rows.{row_length, row_least, on_length, head_row}
use Rattle.rules.proofs.Writes.{megawatts}
use Rattle.rules.proofs.Turned.{Turned, turned, still}
use Rattle.rules.proofs.View.{view}
use Rattle.rules.proofs.Formed.{Formed, formed_sized}
use Rattle.rules.proofs.Quiet.{calm_self, calm_hours}

-- ---- a new row
-- what is seen of it: r is the unused row
record NewRow (H h : ℕ) (a : Action) (r q : List ℕ) : Type 0 where
  long : length q ≡ row_size H
  type : reqtype q ≡ a.reqtype
  status : status q ≡ 1
  related : related q ≡ a.related
  hour : (p : ℕ) → available_part ≤ p → megawatts H h q p ≡ megawatts H h r p

new_row_lem : {H h : ℕ} → h < H → (w : List ℕ) (a : Action) (r : List ℕ) → length r ≡ row_size H → a.start + length (profile w a) ≤ H → NewRow H h a r (new_row H w a r)
unfolding new_row new_words
new_row_lem {H} {h} hlt w a r long fits =
    let v : List ℕ = new_words a in
    let q : List ℕ = splice r 0 v in
    let twelve : length v ≡ 12 = refl in
    let room : 0 + length v ≤ length r = omega (arith, twelve, long) in
    let c = calm_hours (calm_self H h q (splice_length r 0 v room ∙ long)) requested_part a.start (profile w a) (lit< tt) fits in
    record {
      long = c.long;
      type = c.type ∙ splice_in r 0 v room 0 (lit< tt);
      status = c.status ∙ splice_in r 0 v room 1 (lit< tt);
      related = c.related ∙ splice_in r 0 v room 4 (lit< tt);
      hour = λ p low. c.hour p low ∙ splice_after r 0 v room (hour_at H p h) (omega (arith, twelve));
    }

-- the action's type and the row that it names as related
pub record NewRelation (H : ℕ) (l : List ℕ) (a : Action) : Type 0 where
  pub originals : a.reqtype ≤ 2 → a.related ≡ 0
  pub lower : a.related ≤ used l
  pub redirect : a.reqtype ≡ RELINQUISH → reqtype (row H l (row_of a.related)) ≡ NONFIRM_REDIRECT
  pub others : 3 ≤ a.reqtype → a.reqtype ≢ RELINQUISH → (reqtype (row H l (row_of a.related)) ≢ NONFIRM_REDIRECT) × (reqtype (row H l (row_of a.related)) ≢ RELINQUISH)

module _ {H : ℕ} {l : List ℕ} {a : Action} (e : NewRelation H l a) where
  under_redirect : (p : ℕ) → a.related ≡ suc p → a.reqtype ≡ RELINQUISH → reqtype (row H l p) ≡ NONFIRM_REDIRECT
  under_redirect p q t =
      let i : p ≡ row_of a.related = omega (arith, q) in
      ap (λ (m : ℕ). reqtype (row H l m)) i ∙ e.redirect t

  under_others : (p : ℕ) → a.related ≡ suc p → a.reqtype ≢ RELINQUISH → (reqtype (row H l p) ≢ NONFIRM_REDIRECT) × (reqtype (row H l p) ≢ RELINQUISH)
  under_others p q t =
      let none : a.related ≡ 0 → a.related ≡ suc p → ⊥ = λ x y. omega (arith, x, y) in
      let i : row_of a.related ≡ p = omega (arith, q) in
      let same : reqtype (row H l (row_of a.related)) ≡ reqtype (row H l p) = ap (λ (m : ℕ). reqtype (row H l m)) i in
      let three : 3 ≤ a.reqtype = ⊎_elim (λ u. absurd (none (e.originals (omega (arith, u))) q)) (λ u. u) (lt_or_le a.reqtype 3) in
      ((λ z. (e.others three t).0 (same ∙ z)), (λ z. (e.others three t).1 (same ∙ z)))

module _ {R H : ℕ} {l : List ℕ} (sized : Sized l R H) (left : used l < R) (w : List ℕ) (a : Action) (fits : a.start + length (profile w a) ≤ H) {h : ℕ} (hlt : h < H) where
  new : NewRow H h a (row H l (used l)) (new_row H w a (row H l (used l)))
  new = new_row_lem hlt w a (row H l (used l)) (row_length sized left) fits

  new_turned : Turned R H l (on_row H (used l) (new_row H w a) l) (used l) (new_row H w a (row H l (used l)))
  new_turned = turned sized left (new_row H w a) refl new.long

  new_own : row H (submit_after H l w a) (used l) ≡ new_row H w a (row H l (used l))
  unfolding submit_after
  new_own = head_row H (on_row H (used l) (new_row H w a) l) 6 (used l + 1) (used l) (lit< tt) ∙ new_turned.own

  new_other : (m : ℕ) → m ≢ used l → row H (submit_after H l w a) m ≡ row H l m
  unfolding submit_after
  new_other m ne = head_row H (on_row H (used l) (new_row H w a) l) 6 (used l + 1) m (lit< tt) ∙ new_turned.other m ne

  new_used : used (submit_after H l w a) ≡ suc (used l)
  unfolding submit_after
  new_used =
      get_or-set_same (on_row H (used l) (new_row H w a) l) 6 (used l + 1) 0 (omega (arith, on_length sized left (new_row H w a) new.long, sized.long, row_least H R))
      ∙ add-one (used l)

  submit_of : (out out' : ℕ → ℕ → ℤ) (red red' : ℕ → ℤ) → NewRelation H l a
      → OutStays (view H h l out red) (view H h (submit_after H l w a) out' red')
      → RedStays (view H h l out red) (view H h (submit_after H l w a) out' red')
      → Submit (view H h l out red) (view H h (submit_after H l w a) out' red')
  submit_of out out' red red' e outs reds =
      let l' : List ℕ = submit_after H l w a in
      let ty' : reqtype (row H l' (used l)) ≡ a.reqtype = ap (λ (x : List ℕ). reqtype x) new_own ∙ new.type in
      let st' : status (row H l' (used l)) ≡ 1 = ap (λ (x : List ℕ). status x) new_own ∙ new.status in
      let ref' : related (row H l' (used l)) ≡ a.related = ap (λ (x : List ℕ). related x) new_own ∙ new.related in
      record {
        used = new_used;
        ty = λ m ne. ap (λ (x : List ℕ). reqtype x) (new_other m ne);
        ref = λ m ne. ap (λ (x : List ℕ). related x) (new_other m ne);
        path = λ m ne. ap (λ (x : List ℕ). path x) (new_other m ne);
        rest = λ m ne. still H h l l' out out' red red' m (new_other m ne);
        st = ((λ z. omega (arith, z, st')), (λ z. omega (arith, z, st')));
        a = ap (λ (x : List ℕ). megawatts H h x available_part) new_own ∙ new.hour available_part (lit≤ tt);
        d = ap (λ (x : List ℕ). megawatts H h x displaced_part) new_own ∙ new.hour displaced_part (lit≤ tt);
        r = ap (λ (x : List ℕ). megawatts H h x reduced_part) new_own ∙ new.hour reduced_part (lit≤ tt);
        lower = omega (arith, ref', e.lower);
        top = λ z. ref' ∙ e.originals (omega (arith, z, ty'));
        under5 = λ p x y. under_redirect e p (sym ref' ∙ x) (sym ty' ∙ y);
        under = λ p x y. under_others e p (sym ref' ∙ x) (λ z. y (ty' ∙ z));
        outs = outs;
        reds = reds;
      }

pub submit_step : {l : List ℕ} → Formed l → used l < rows l → (w : List ℕ) (a : Action) → a.start + length (profile w a) ≤ hours l → NewRelation (hours l) l a
    → {h : ℕ} → h < hours l → (out out' : ℕ → ℕ → ℤ) (red red' : ℕ → ℤ) {B : ℕ → ℕ}
    → OutStays (view (hours l) h l out red) (view (hours l) h (submit_after (hours l) l w a) out' red')
    → RedStays (view (hours l) h l out red) (view (hours l) h (submit_after (hours l) l w a) out' red')
    → Step B (view (hours l) h l out red) (view (hours l) h (submit_after (hours l) l w a) out' red')
submit_step f left w a fits e hlt out out' red red' outs reds =
    submit (submit_of (formed_sized f) left w a fits hlt out out' red red' e outs reds)

-- ---- the clock
clock_row : (H : ℕ) (l : List ℕ) (a : Action) (n : ℕ) → row H (clock_after l a) n ≡ row H l n
unfolding clock_after
clock_row H l a n = head_row H l 5 a.time n (lit< tt)

clock_used : (l : List ℕ) (a : Action) → used (clock_after l a) ≡ used l
unfolding clock_after
clock_used l a = get_or-set_other l 5 6 a.time 0 (λ e. omega (arith, e))

pub clock_step : (H h : ℕ) (l : List ℕ) (a : Action) (out out' : ℕ → ℕ → ℤ) (red red' : ℕ → ℤ) {B : ℕ → ℕ}
    → OutStays (view H h l out red) (view H h (clock_after l a) out' red')
    → RedStays (view H h l out red) (view H h (clock_after l a) out' red')
    → Step B (view H h l out red) (view H h (clock_after l a) out' red')
clock_step H h l a out out' red red' outs reds =
    same
    record {
      keeps = record {
        used = clock_used l a;
        ty = λ n. ap (λ (x : List ℕ). reqtype x) (clock_row H l a n);
        ref = λ n. ap (λ (x : List ℕ). related x) (clock_row H l a n);
        path = λ n. ap (λ (x : List ℕ). path x) (clock_row H l a n);
      };
      rest = λ n. still H h l (clock_after l a) out out' red red' n (clock_row H l a n);
      outs = outs;
      reds = reds;
    }

-- ---- a fresh ledger
module _ (R H provider window base : ℕ) where
  fresh_word : (m : ℕ) → get_or (fresh R H provider window base) (suc (suc (suc (suc (suc (suc (suc (suc m)))))))) 0 ≡ 0
  unfolding fresh
  fresh_word m = noughts_at (R * row_size H) m

  fresh_later : (i : ℕ) → 8 ≤ i → get_or (fresh R H provider window base) i 0 ≡ 0
  fresh_later i le =
      let e : i ≡ suc (suc (suc (suc (suc (suc (suc (suc (i - 8)))))))) = omega (arith, le) in
      ap (λ (j : ℕ). get_or (fresh R H provider window base) j 0) e ∙ fresh_word (i - 8)

  -- every row is all 0, also past the end
  pub fresh_row : (n k : ℕ) → get_or (row H (fresh R H provider window base) n) k 0 ≡ 0
  unfolding row
  fresh_row n k =
      let l : List ℕ = fresh R H provider window base in
      ⊎_elim
      (λ x.
      get_or-take (row_size H) (drop (row_base H n) l) k 0 x
      ∙ get_or-drop (row_base H n) l k 0
      ∙ fresh_later (row_base H n + k) (omega (arith, row_least H n)))
      (λ x. get_or-eq_default (row H l n) 0 (omega (arith, x, length-take (row_size H) (drop (row_base H n) l))))
      (lt_or_le k (row_size H))

  fresh_used : used (fresh R H provider window base) ≡ 0
  unfolding fresh
  fresh_used = refl

  pub fresh_hours : hours (fresh R H provider window base) ≡ H
  unfolding fresh
  fresh_hours = refl

  pub fresh_column : (h : ℕ) → Fresh (view H h (fresh R H provider window base) (λ k n. pos 0) (λ n. pos 0))
  fresh_column h = record {
    used = fresh_used;
    st = λ n. fresh_row n 1;
    ref = λ n. fresh_row n 4;
    a = λ n. fresh_row n (hour_at H available_part h);
    d = λ n. fresh_row n (hour_at H displaced_part h);
    r = λ n. fresh_row n (hour_at H reduced_part h);
    out = λ k n. refl;
    red = λ n. refl;
  }
