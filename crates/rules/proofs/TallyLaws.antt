-- Laws of the tally: what an answer that is fed leaves of its entries and of their sums.
use mathlib.Core.Path.{◌≡◌, refl, sym, ap, subst, ◌∙◌}
use mathlib.Core.Logic.{◌≢◌, ◌⊎◌, ⊎_elim, inl, inr}
use mathlib.Core.Bool.{Bool, true, false, ◌&&◌, ◌||◌, not, and-false}
use mathlib.Core.List.{List}
use Prim.Native.Nat.{ℕ, suc, ◌-◌, ◌≤◌, ◌<◌}
use native.Mathlib.Decide.{ℕ_discrete}
use native.Mathlib.Omega.{arith}
use borrow.Author.Tests.{eq-eqb, ne_eqb, lt-ltb, le-ltb, le-leb}
use lib.Dec.{eqb, leb, ltb, lit<}
use lib.IntN.{ℤ, pos, neg_ℤ, ◌+ℤ◌}
use Rattle.column.specs.Sum.{choose}
use Rattle.column.specs.Column.{part, share, either}
use Rattle.column.proofs.Shares.{share_add, share_sub}
use Rattle.words.proofs.Laws.{lt_or_le}
use Rattle.rules.specs.Pick.{pick}
use Rattle.rules.specs.Numbers.{CONFIRMED, ANNULLED, NONFIRM_REDIRECT, RELINQUISH}
use Rattle.rules.specs.Layout.{standing}
use Rattle.rules.specs.Sound.{original, transfer, redirect}
use Rattle.rules.specs.Checks.{profile}
use Rattle.rules.specs.Tally.{Entry, Tally, reduced_sum, redirected_sum, relinquished_sum, put, granted_in, added, add_to, opened, changed, sum_of, returned, booked, moved, changed_in, counts, feed}
use Rattle.rules.specs.declared.Action.{Action}
use Rattle.rules.specs.declared.Answer.{Answer}
use Rattle.rules.proofs.View.{out_of, red_of}
use Rattle.rules.proofs.Types.{original_type, derived_type}

-- ---- entries
pub put_same : (r : ℕ) (e : Entry) (t : Tally) → put r e t r ≡ e
unfolding put
put_same r e t = ap (λ (b : Bool). pick b e (t r)) (eq-eqb r r refl)

pub put_other : (r : ℕ) (e : Entry) (t : Tally) (q : ℕ) → q ≢ r → put r e t q ≡ t q
unfolding put
put_other r e t q ne = ap (λ (b : Bool). pick b e (t q)) (ne_eqb q r ne)

-- the entry e is f but for its sums
pub record Like (e f : Entry) : Type 0 where
  pub reqtype : e.reqtype ≡ f.reqtype
  pub status : e.status ≡ f.status
  pub related : e.related ≡ f.related
  pub start : e.start ≡ f.start
  pub requested : e.requested ≡ f.requested
  pub granted : e.granted ≡ f.granted

pub like_self : {e f : Entry} → e ≡ f → Like e f
like_self q = record {
  reqtype = ap (λ (x : Entry). x.reqtype) q;
  status = ap (λ (x : Entry). x.status) q;
  related = ap (λ (x : Entry). x.related) q;
  start = ap (λ (x : Entry). x.start) q;
  requested = ap (λ (x : Entry). x.requested) q;
  granted = ap (λ (x : Entry). x.granted) q;
}

pub like_trans : {e f g : Entry} → Like e f → Like f g → Like e g
like_trans x y = record {
  reqtype = x.reqtype ∙ y.reqtype;
  status = x.status ∙ y.status;
  related = x.related ∙ y.related;
  start = x.start ∙ y.start;
  requested = x.requested ∙ y.requested;
  granted = x.granted ∙ y.granted;
}

added_like : (k : ℕ) (more : ℕ → ℤ) (e : Entry) → Like (added k more e) e
unfolding added
added_like k more e = record { reqtype = refl; status = refl; related = refl; start = refl; requested = refl; granted = refl }

pub add_like : (r k : ℕ) (more : ℕ → ℤ) (t : Tally) (q : ℕ) → Like (add_to r k more t q) (t q)
unfolding add_to
add_like r k more t q = go (ℕ_discrete q r)
  where
    go : Dec (q ≡ r) → Like (put r (added k more (t r)) t q) (t q)
    go (yes e) =
        subst (λ (i : ℕ). Like (put r (added k more (t r)) t i) (t i)) (sym e)
        (like_trans (like_self (put_same r (added k more (t r)) t)) (added_like k more (t r)))
    go (no ne) = like_self (put_other r (added k more (t r)) t q ne)

returned_like : (e : Entry) (more : ℕ → ℤ) (t : Tally) (q : ℕ) → Like (returned e more t q) (t q)
unfolding returned
returned_like e more t q = like_trans (add_like _ _ _ _ q) (add_like _ _ more t q)

pub booked_like : (e : Entry) (more : ℕ → ℤ) (t : Tally) (q : ℕ) → Like (booked e more t q) (t q)
unfolding booked
booked_like e more t q = go (original e.reqtype) (eqb e.reqtype RELINQUISH)
  where
    go : (b c : Bool) → Like (pick b t (pick c (returned e more t) (add_to e.related (sum_of e.reqtype) more t)) q) (t q)
    go true c = like_self refl
    go false true = returned_like e more t q
    go false false = add_like e.related (sum_of e.reqtype) more t q

-- ---- sums
added_sum : (k : ℕ) (more : ℕ → ℤ) (e : Entry) (h : ℕ) → (added k more e).sum k h ≡ e.sum k h +ℤ more h
unfolding added
added_sum k more e h = ap (λ (b : Bool). pick b (e.sum k h +ℤ more h) (e.sum k h)) (eq-eqb k k refl)

added_off : (k : ℕ) (more : ℕ → ℤ) (e : Entry) (j h : ℕ) → j ≢ k → (added k more e).sum j h ≡ e.sum j h
unfolding added
added_off k more e j h ne = ap (λ (b : Bool). pick b (e.sum j h +ℤ more h) (e.sum j h)) (ne_eqb j k ne)

pub add_sum : (r k : ℕ) (more : ℕ → ℤ) (t : Tally) (h : ℕ) → (add_to r k more t r).sum k h ≡ (t r).sum k h +ℤ more h
unfolding add_to
add_sum r k more t h = ap (λ (e : Entry). e.sum k h) (put_same r (added k more (t r)) t) ∙ added_sum k more (t r) h

pub add_off : (r k : ℕ) (more : ℕ → ℤ) (t : Tally) (q j h : ℕ) → (j ≢ k) ⊎ (q ≢ r) → (add_to r k more t q).sum j h ≡ (t q).sum j h
unfolding add_to
add_off r k more t q j h w = go (ℕ_discrete q r) w
  where
    go : Dec (q ≡ r) → (j ≢ k) ⊎ (q ≢ r) → (put r (added k more (t r)) t q).sum j h ≡ (t q).sum j h
    go (no ne) x = ap (λ (e : Entry). e.sum j h) (put_other r (added k more (t r)) t q ne)
    go (yes e) (inr x) = absurd (x e)
    go (yes e) (inl x) =
        subst (λ (i : ℕ). (put r (added k more (t r)) t i).sum j h ≡ (t i).sum j h) (sym e)
        (ap (λ (f : Entry). f.sum j h) (put_same r (added k more (t r)) t) ∙ added_off k more (t r) j h x)

-- an entry with the old one's sums changes no sum
pub put_sum : (r : ℕ) (e : Entry) (t : Tally) → e.sum ≡ (t r).sum → (q : ℕ) → (put r e t q).sum ≡ (t q).sum
put_sum r e t s q = go (ℕ_discrete q r)
  where
    go : Dec (q ≡ r) → (put r e t q).sum ≡ (t q).sum
    go (no ne) = ap (λ (f : Entry). f.sum) (put_other r e t q ne)
    go (yes i) = subst (λ (j : ℕ). (put r e t j).sum ≡ (t j).sum) (sym i) (ap (λ (f : Entry). f.sum) (put_same r e t) ∙ s)

-- ---- as the column has it
-- the sum of the tally that a type counts in is the column's
pub sum_part : (t : ℕ) → sum_of t ≡ part t
unfolding sum_of part redirect transfer
sum_part t = go (eqb t 3) (eqb t 4) (eqb t 5) (eqb t 6) (eqb t 7)
  where
    go : (a b c d e : Bool) → pick a 0 (pick (b || (c || false)) 1 (pick (d || (e || false)) 2 3)) ≡ choose a 0 (choose (either b c) 1 (choose (either d e) 2 3))
    go true b c d e = refl
    go false true c d e = refl
    go false false true d e = refl
    go false false false true e = refl
    go false false false false true = refl
    go false false false false false = refl

part_least : (t : ℕ) → part t < reduced_sum
unfolding part
part_least t = go (eqb t 3) (either (eqb t 4) (eqb t 5)) (either (eqb t 6) (eqb t 7))
  where
    go : (a b c : Bool) → choose a 0 (choose b 1 (choose c 2 3)) < 4
    go true b c = lit< tt
    go false true c = lit< tt
    go false false true = lit< tt
    go false false false = lit< tt

-- sums that stay
pub out_stays : (t t' : Tally) (h k n : ℕ) → (t' (suc n)).sum k h ≡ (t (suc n)).sum k h → out_of t' h k n ≡ out_of t h k n
out_stays t t' h k n e = ap (λ (x : ℤ). pick (ltb k reduced_sum) x (pos 0)) e

out_is : (t : Tally) (h k n : ℕ) → k < reduced_sum → out_of t h k n ≡ (t (suc n)).sum k h
out_is t h k n lt = ap (λ (b : Bool). pick b ((t (suc n)).sum k h) (pos 0)) (lt-ltb k reduced_sum lt)

module _ (t : Tally) (ty p h x : ℕ) (more : ℕ → ℤ) where
  off : (k n : ℕ) → (k ≢ part ty) ⊎ (n ≢ p) → out_of (add_to (suc p) (part ty) more t) h k n ≡ out_of t h k n
  off k n w = out_stays t (add_to (suc p) (part ty) more t) h k n (add_off (suc p) (part ty) more t (suc n) k h (⊎_elim (λ a. inl a) (λ a. inr (λ e. a (omega arith))) w))

  here : (z : ℤ) → more h ≡ z → out_of (add_to (suc p) (part ty) more t) h (part ty) p ≡ out_of t h (part ty) p +ℤ z
  here z e =
      out_is (add_to (suc p) (part ty) more t) h (part ty) p (part_least ty)
      ∙ add_sum (suc p) (part ty) more t h
      ∙ ap (λ (y : ℤ). (t (suc p)).sum (part ty) h +ℤ y) e
      ∙ ap (λ (y : ℤ). y +ℤ z) (sym (out_is t h (part ty) p (part_least ty)))

  pub add_out : more h ≡ pos x → (k n : ℕ) → out_of (add_to (suc p) (part ty) more t) h k n ≡ out_of t h k n +ℤ pos (share k ty (suc p) n x)
  add_out e = share_add (out_of t h) (out_of (add_to (suc p) (part ty) more t) h) ty p x (here (pos x) e) off

  pub take_out : more h ≡ neg_ℤ (pos x) → (k n : ℕ) → out_of (add_to (suc p) (part ty) more t) h k n ≡ out_of t h k n +ℤ neg_ℤ (pos (share k ty (suc p) n x))
  take_out e = share_sub (out_of t h) (out_of (add_to (suc p) (part ty) more t) h) ty p x (here (neg_ℤ (pos x)) e) off

-- ---- booking, by the type of the entry
booked_top : (e : Entry) (more : ℕ → ℤ) (t : Tally) → 1 ≤ e.reqtype → e.reqtype ≤ 2 → booked e more t ≡ t
unfolding booked
booked_top e more t least most =
    ap (λ (b : Bool). pick b t (pick (eqb e.reqtype RELINQUISH) (returned e more t) (add_to e.related (sum_of e.reqtype) more t)))
    (original_type e.reqtype least most)

booked_past : (e : Entry) (more : ℕ → ℤ) (t : Tally) → 3 ≤ e.reqtype
    → booked e more t ≡ pick (eqb e.reqtype RELINQUISH) (returned e more t) (add_to e.related (sum_of e.reqtype) more t)
unfolding booked
booked_past e more t least =
    ap (λ (b : Bool). pick b t (pick (eqb e.reqtype RELINQUISH) (returned e more t) (add_to e.related (sum_of e.reqtype) more t)))
    (derived_type e.reqtype least)

booked_child : (e : Entry) (more : ℕ → ℤ) (t : Tally) → 3 ≤ e.reqtype → e.reqtype ≢ RELINQUISH → booked e more t ≡ add_to e.related (part e.reqtype) more t
booked_child e more t least ne =
    booked_past e more t least
    ∙ ap (λ (b : Bool). pick b (returned e more t) (add_to e.related (sum_of e.reqtype) more t)) (ne_eqb e.reqtype RELINQUISH ne)
    ∙ ap (λ (k : ℕ). add_to e.related k more t) (sum_part e.reqtype)

booked_give : (e : Entry) (more : ℕ → ℤ) (t : Tally) → e.reqtype ≡ RELINQUISH → booked e more t ≡ returned e more t
booked_give e more t q =
    booked_past e more t (omega arith)
    ∙ ap (λ (b : Bool). pick b (returned e more t) (add_to e.related (sum_of e.reqtype) more t)) (eq-eqb e.reqtype RELINQUISH q)

-- of an entry of type ty, related to ref
module _ (e : Entry) (more : ℕ → ℤ) (t : Tally) (ty ref h x : ℕ) (type : e.reqtype ≡ ty) (relation : e.related ≡ ref) where
  pub top_out : 1 ≤ ty → ty ≤ 2 → (k n : ℕ) → out_of (booked e more t) h k n ≡ out_of t h k n
  top_out least most k n = ap (λ (u : Tally). out_of u h k n) (booked_top e more t (omega arith) (omega arith))

  -- ref is the reference of row p
  at_row : (p : ℕ) → ref ≡ suc p → 3 ≤ ty → ty ≢ RELINQUISH → booked e more t ≡ add_to (suc p) (part ty) more t
  at_row p up least ne =
      booked_child e more t (omega arith) (λ z. ne (sym type ∙ z))
      ∙ ap (λ (i : ℕ). add_to i (part e.reqtype) more t) (relation ∙ up)
      ∙ ap (λ (k : ℕ). add_to (suc p) (part k) more t) type

  pub child_out : 3 ≤ ty → ty ≢ RELINQUISH → 1 ≤ ref → more h ≡ pos x → (k n : ℕ) → out_of (booked e more t) h k n ≡ out_of t h k n +ℤ pos (share k ty ref n x)
  child_out least ne one m k n =
      let up : ref ≡ suc (ref - 1) = omega arith in
      ap (λ (u : Tally). out_of u h k n) (at_row (ref - 1) up least ne)
      ∙ add_out t ty (ref - 1) h x more m k n
      ∙ ap (λ (i : ℕ). out_of t h k n +ℤ pos (share k ty i n x)) (sym up)

  pub child_back : 3 ≤ ty → ty ≢ RELINQUISH → 1 ≤ ref → more h ≡ neg_ℤ (pos x) → (k n : ℕ) → out_of (booked e more t) h k n ≡ out_of t h k n +ℤ neg_ℤ (pos (share k ty ref n x))
  child_back least ne one m k n =
      let up : ref ≡ suc (ref - 1) = omega arith in
      ap (λ (u : Tally). out_of u h k n) (at_row (ref - 1) up least ne)
      ∙ take_out t ty (ref - 1) h x more m k n
      ∙ ap (λ (i : ℕ). out_of t h k n +ℤ neg_ℤ (pos (share k ty i n x))) (sym up)

  -- type 8: the redirect's entry is of type 5, related to ref'
  pub give_out : ty ≡ RELINQUISH → 1 ≤ ref → (ty' ref' : ℕ) → (t ref).reqtype ≡ ty' → ty' ≡ NONFIRM_REDIRECT → (t ref).related ≡ ref' → 1 ≤ ref' → more h ≡ pos x → (k n : ℕ)
      → out_of (booked e more t) h k n ≡ out_of t h k n +ℤ pos (share k ty ref n x) +ℤ neg_ℤ (pos (share k ty' ref' n x))
  unfolding part returned
  give_out is8 one ty' ref' kind is5 above one' m k n =
      let up : ref ≡ suc (ref - 1) = omega arith in
      let up' : ref' ≡ suc (ref' - 1) = omega arith in
      let first : Tally = add_to (suc (ref - 1)) (part RELINQUISH) more t in
      let row : (t e.related).related ≡ suc (ref' - 1) = ap (λ (i : ℕ). (t i).related) relation ∙ above ∙ up' in
      ap (λ (u : Tally). out_of u h k n)
      (booked_give e more t (type ∙ is8)
      ∙ ap (λ (i : ℕ). add_to i redirected_sum (λ j. neg_ℤ (more j)) (add_to e.related relinquished_sum more t)) row
      ∙ ap (λ (i : ℕ). add_to (suc (ref' - 1)) redirected_sum (λ j. neg_ℤ (more j)) (add_to i relinquished_sum more t)) (relation ∙ up))
      ∙ take_out first NONFIRM_REDIRECT (ref' - 1) h x (λ j. neg_ℤ (more j)) (ap neg_ℤ m) k n
      ∙ ap (λ (z : ℤ). z +ℤ neg_ℤ (pos (share k NONFIRM_REDIRECT (suc (ref' - 1)) n x))) (add_out t RELINQUISH (ref - 1) h x more m k n)
      ∙ ap (λ (z : ℕ). out_of t h k n +ℤ pos z +ℤ neg_ℤ (pos (share k NONFIRM_REDIRECT (suc (ref' - 1)) n x)))
      (ap (λ (i : ℕ). share k RELINQUISH i n x) (sym up) ∙ ap (λ (i : ℕ). share k i ref n x) (sym is8))
      ∙ ap (λ (z : ℕ). out_of t h k n +ℤ pos (share k ty ref n x) +ℤ neg_ℤ (pos z))
      (ap (λ (i : ℕ). share k NONFIRM_REDIRECT i n x) (sym up') ∙ ap (λ (i : ℕ). share k i ref' n x) (sym is5))

-- booking leaves reduced
reduced_off : (r k : ℕ) (more : ℕ → ℤ) (t : Tally) (h n : ℕ) → reduced_sum ≢ k → red_of (add_to r k more t) h n ≡ red_of t h n
reduced_off r k more t h n ne = add_off r k more t (suc n) reduced_sum h (inl ne)

returned_red : (e : Entry) (more : ℕ → ℤ) (t : Tally) (h n : ℕ) → red_of (returned e more t) h n ≡ red_of t h n
unfolding returned
returned_red e more t h n = reduced_off _ _ _ _ h n (λ z. omega (arith, z)) ∙ reduced_off _ _ more t h n (λ z. omega (arith, z))

pub booked_red : (e : Entry) (more : ℕ → ℤ) (t : Tally) (h n : ℕ) → red_of (booked e more t) h n ≡ red_of t h n
unfolding booked
booked_red e more t h n = go (original e.reqtype) (eqb e.reqtype RELINQUISH)
  where
    go : (b c : Bool) → red_of (pick b t (pick c (returned e more t) (add_to e.related (sum_of e.reqtype) more t))) h n ≡ red_of t h n
    go true c = refl
    go false true = returned_red e more t h n
    go false false = reduced_off e.related (sum_of e.reqtype) more t h n (λ z. omega (arith, z, sum_part e.reqtype, part_least e.reqtype))

-- reducing row c
pub reduced_here : (c : ℕ) (more : ℕ → ℤ) (t : Tally) (h : ℕ) → red_of (add_to (suc c) reduced_sum more t) h c ≡ red_of t h c +ℤ more h
reduced_here c more t h = add_sum (suc c) reduced_sum more t h

pub reduced_there : (c : ℕ) (more : ℕ → ℤ) (t : Tally) (h n : ℕ) → n ≢ c → red_of (add_to (suc c) reduced_sum more t) h n ≡ red_of t h n
reduced_there c more t h n ne = add_off (suc c) reduced_sum more t (suc n) reduced_sum h (inr (λ z. ne (omega arith)))

pub reduced_out : (r : ℕ) (more : ℕ → ℤ) (t : Tally) (h k n : ℕ) → out_of (add_to r reduced_sum more t) h k n ≡ out_of t h k n
reduced_out r more t h k n =
    ⊎_elim
    (λ x. out_stays t (add_to r reduced_sum more t) h k n (add_off r reduced_sum more t (suc n) k h (inl (λ z. omega (arith, x, z)))))
    (λ x.
    ap (λ (b : Bool). pick b ((add_to r reduced_sum more t (suc n)).sum k h) (pos 0)) (le-ltb k reduced_sum x)
    ∙ sym (ap (λ (b : Bool). pick b ((t (suc n)).sum k h) (pos 0)) (le-ltb k reduced_sum x)))
    (lt_or_le k reduced_sum)

-- ---- an answer that is fed
pub feed_none : (a : Action) (w : List ℕ) (answer : Answer) (t : Tally) → counts answer ≡ false → feed a w answer t ≡ t
unfolding feed
feed_none a w answer t c =
    ap (λ (b : Bool). pick (not b) t (pick (eqb a.kind 1) (put answer.reference (opened a w answer) t) (changed_in a w answer (changed a w answer (t answer.reference)) t))) c

pub counted : (answer : Answer) → answer.number ≡ 0 → 1 ≤ answer.reference → counts answer ≡ true
unfolding counts
counted answer n r = ap (λ (b : Bool). b && leb 1 answer.reference) (eq-eqb answer.number 0 n) ∙ le-leb 1 answer.reference r

pub feed_opened : (a : Action) (w : List ℕ) (answer : Answer) (t : Tally) → counts answer ≡ true → a.kind ≡ 1 → feed a w answer t ≡ put answer.reference (opened a w answer) t
unfolding feed
feed_opened a w answer t c one =
    ap (λ (b : Bool). pick (not b) t (pick (eqb a.kind 1) (put answer.reference (opened a w answer) t) (changed_in a w answer (changed a w answer (t answer.reference)) t))) c
    ∙ ap (λ (b : Bool). pick b (put answer.reference (opened a w answer) t) (changed_in a w answer (changed a w answer (t answer.reference)) t)) (eq-eqb a.kind 1 one)

-- the entry as a later action leaves it, and the tally with it
abbrev pub entry_after : Action → List ℕ → Answer → Tally → Entry
entry_after a w answer t = changed a w answer (t answer.reference)

abbrev pub entered : Action → List ℕ → Answer → Tally → Tally
entered a w answer t = put answer.reference (entry_after a w answer t) t

feed_changed : (a : Action) (w : List ℕ) (answer : Answer) (t : Tally) → counts answer ≡ true → a.kind ≢ 1 → feed a w answer t ≡ moved a w answer (entry_after a w answer t) (entered a w answer t)
unfolding feed changed_in
feed_changed a w answer t c ne =
    ap (λ (b : Bool). pick (not b) t (pick (eqb a.kind 1) (put answer.reference (opened a w answer) t) (changed_in a w answer (entry_after a w answer t) t))) c
    ∙ ap (λ (b : Bool). pick b (put answer.reference (opened a w answer) t) (changed_in a w answer (entry_after a w answer t) t)) (ne_eqb a.kind 1 ne)

module _ (a : Action) (w : List ℕ) (answer : Answer) (e : Entry) (t : Tally) where
  -- to 13
  moved_up : answer.before ≢ CONFIRMED → answer.after ≡ CONFIRMED → moved a w answer e t ≡ booked e (λ h. pos (granted_in e h)) t
  unfolding moved
  moved_up b c = simp (ne_eqb answer.before CONFIRMED b, eq-eqb answer.after CONFIRMED c)

  -- from 13 to 16
  moved_back : answer.before ≡ CONFIRMED → answer.after ≡ ANNULLED → moved a w answer e t ≡ booked e (λ h. neg_ℤ (pos (granted_in e h))) t
  unfolding moved
  moved_back b c = simp (eq-eqb answer.before CONFIRMED b, eq-eqb answer.after ANNULLED c)

  -- reduce
  moved_reduced : answer.before ≡ CONFIRMED → answer.after ≡ CONFIRMED → a.kind ≡ 5 → moved a w answer e t ≡ add_to answer.reference reduced_sum (λ h. pos (standing e.start (profile w a) h)) t
  unfolding moved
  moved_reduced b c k =
      let ne : answer.after ≢ ANNULLED = λ z. omega arith in
      simp (eq-eqb answer.before CONFIRMED b, ne_eqb answer.after ANNULLED ne, eq-eqb a.kind 5 k)

  -- any other
  moved_none : answer.after ≢ CONFIRMED → (answer.before ≢ CONFIRMED) ⊎ (answer.after ≢ ANNULLED) → a.kind ≢ 5 → moved a w answer e t ≡ t
  unfolding moved
  moved_none c (inl b) k = simp (ne_eqb answer.before CONFIRMED b, ne_eqb answer.after CONFIRMED c, ne_eqb a.kind 5 k)
  moved_none c (inr b) k = simp (ne_eqb answer.after CONFIRMED c, ne_eqb answer.after ANNULLED b, ne_eqb a.kind 5 k, and-false)

  -- no entry but for its sums
  moved_like : (q : ℕ) → Like (moved a w answer e t q) (t q)
  unfolding moved
  moved_like q = go (not (eqb answer.before CONFIRMED) && eqb answer.after CONFIRMED) (eqb answer.before CONFIRMED && eqb answer.after ANNULLED) (eqb a.kind 5)
    where
      go : (x y z : Bool) → Like (pick x (booked e (λ h. pos (granted_in e h)) t) (pick y (booked e (λ h. neg_ℤ (pos (granted_in e h))) t) (pick z (add_to answer.reference reduced_sum (λ h. pos (standing e.start (profile w a) h)) t) t)) q) (t q)
      go true y z = booked_like e (λ h. pos (granted_in e h)) t q
      go false true z = booked_like e (λ h. neg_ℤ (pos (granted_in e h))) t q
      go false false true = add_like answer.reference reduced_sum (λ h. pos (standing e.start (profile w a) h)) t q
      go false false false = like_self refl

  moved_red : a.kind ≢ 5 → (h n : ℕ) → red_of (moved a w answer e t) h n ≡ red_of t h n
  unfolding moved
  moved_red k h n = go (not (eqb answer.before CONFIRMED) && eqb answer.after CONFIRMED) (eqb answer.before CONFIRMED && eqb answer.after ANNULLED) (eqb a.kind 5) (ne_eqb a.kind 5 k)
    where
      go : (x y z : Bool) → z ≡ false → red_of (pick x (booked e (λ i. pos (granted_in e i)) t) (pick y (booked e (λ i. neg_ℤ (pos (granted_in e i))) t) (pick z (add_to answer.reference reduced_sum (λ i. pos (standing e.start (profile w a) i)) t) t))) h n ≡ red_of t h n
      go true y z f = booked_red e (λ i. pos (granted_in e i)) t h n
      go false true z f = booked_red e (λ i. neg_ℤ (pos (granted_in e i))) t h n
      go false false true f = cc
      go false false false f = refl

entered_sum : (a : Action) (w : List ℕ) (answer : Answer) (t : Tally) (q : ℕ) → (entered a w answer t q).sum ≡ (t q).sum
unfolding changed
entered_sum a w answer t q = put_sum answer.reference (entry_after a w answer t) t refl q

entered_out : (a : Action) (w : List ℕ) (answer : Answer) (t : Tally) (h k n : ℕ) → out_of (entered a w answer t) h k n ≡ out_of t h k n
entered_out a w answer t h k n = out_stays t (entered a w answer t) h k n (ap (λ (s : ℕ → ℕ → ℤ). s k h) (entered_sum a w answer t (suc n)))

-- ---- a later action's answer is fed: the entries, and their sums in the column's form
module _ (a : Action) (w : List ℕ) (answer : Answer) (t : Tally) (count : counts answer ≡ true) (later : a.kind ≢ 1) where
  pub fed_own : Like (feed a w answer t answer.reference) (entry_after a w answer t)
  fed_own =
      like_trans (like_self (ap (λ (u : Tally). u answer.reference) (feed_changed a w answer t count later)))
      (like_trans (moved_like a w answer (entry_after a w answer t) (entered a w answer t) answer.reference) (like_self (put_same answer.reference (entry_after a w answer t) t)))

  pub fed_other : (q : ℕ) → q ≢ answer.reference → Like (feed a w answer t q) (t q)
  fed_other q ne =
      like_trans (like_self (ap (λ (u : Tally). u q) (feed_changed a w answer t count later)))
      (like_trans (moved_like a w answer (entry_after a w answer t) (entered a w answer t) q) (like_self (put_other answer.reference (entry_after a w answer t) t q ne)))

  pub fed_red : a.kind ≢ 5 → (h n : ℕ) → red_of (feed a w answer t) h n ≡ red_of t h n
  fed_red k h n =
      ap (λ (u : Tally). red_of u h n) (feed_changed a w answer t count later)
      ∙ moved_red a w answer (entry_after a w answer t) (entered a w answer t) k h n
      ∙ ap (λ (s : ℕ → ℕ → ℤ). s reduced_sum h) (entered_sum a w answer t (suc n))

  -- neither to 13, nor from 13 to 16
  pub fed_quiet : answer.after ≢ CONFIRMED → (answer.before ≢ CONFIRMED) ⊎ (answer.after ≢ ANNULLED) → a.kind ≢ 5 → (h k n : ℕ) → out_of (feed a w answer t) h k n ≡ out_of t h k n
  fed_quiet c b five h k n =
      ap (λ (u : Tally). out_of u h k n) (feed_changed a w answer t count later ∙ moved_none a w answer (entry_after a w answer t) (entered a w answer t) c b five)
      ∙ entered_out a w answer t h k n

  -- reduce
  module _ (before : answer.before ≡ CONFIRMED) (at : answer.after ≡ CONFIRMED) (five : a.kind ≡ 5) (c : ℕ) (reference : answer.reference ≡ suc c) where
    reducing : feed a w answer t ≡ add_to (suc c) reduced_sum (λ h. pos (standing (entry_after a w answer t).start (profile w a) h)) (entered a w answer t)
    reducing =
        feed_changed a w answer t count later
        ∙ moved_reduced a w answer (entry_after a w answer t) (entered a w answer t) before at five
        ∙ ap (λ (i : ℕ). add_to i reduced_sum (λ h. pos (standing (entry_after a w answer t).start (profile w a) h)) (entered a w answer t)) reference

    pub fed_reduced : (h : ℕ) → red_of (feed a w answer t) h c ≡ red_of t h c +ℤ pos (standing (entry_after a w answer t).start (profile w a) h)
    fed_reduced h =
        ap (λ (u : Tally). red_of u h c) reducing
        ∙ reduced_here c (λ i. pos (standing (entry_after a w answer t).start (profile w a) i)) (entered a w answer t) h
        ∙ ap (λ (s : ℕ → ℕ → ℤ). s reduced_sum h +ℤ pos (standing (entry_after a w answer t).start (profile w a) h)) (entered_sum a w answer t (suc c))

    pub fed_unreduced : (h n : ℕ) → n ≢ c → red_of (feed a w answer t) h n ≡ red_of t h n
    fed_unreduced h n ne =
        ap (λ (u : Tally). red_of u h n) reducing
        ∙ reduced_there c (λ i. pos (standing (entry_after a w answer t).start (profile w a) i)) (entered a w answer t) h n ne
        ∙ ap (λ (s : ℕ → ℕ → ℤ). s reduced_sum h) (entered_sum a w answer t (suc n))

    pub fed_reduced_out : (h k n : ℕ) → out_of (feed a w answer t) h k n ≡ out_of t h k n
    fed_reduced_out h k n =
        ap (λ (u : Tally). out_of u h k n) reducing
        ∙ reduced_out (suc c) (λ i. pos (standing (entry_after a w answer t).start (profile w a) i)) (entered a w answer t) h k n
        ∙ entered_out a w answer t h k n

  -- an entry of type ty, related to ref, that has x granted in hour h
  module _ (ty ref h x : ℕ) (type : (entry_after a w answer t).reqtype ≡ ty) (relation : (entry_after a w answer t).related ≡ ref) (grant : granted_in (entry_after a w answer t) h ≡ x) where
    abbrev own : Entry
    own = entry_after a w answer t

    abbrev all : Tally
    all = entered a w answer t

    -- to 13
    module _ (before : answer.before ≢ CONFIRMED) (at : answer.after ≡ CONFIRMED) where
      up : feed a w answer t ≡ booked own (λ i. pos (granted_in own i)) all
      up = feed_changed a w answer t count later ∙ moved_up a w answer own all before at

      pub fed_top : 1 ≤ ty → ty ≤ 2 → (k n : ℕ) → out_of (feed a w answer t) h k n ≡ out_of t h k n
      fed_top least most k n =
          ap (λ (u : Tally). out_of u h k n) up
          ∙ top_out own (λ i. pos (granted_in own i)) all ty ref h x type relation least most k n
          ∙ entered_out a w answer t h k n

      pub fed_child : 3 ≤ ty → ty ≢ RELINQUISH → 1 ≤ ref → (k n : ℕ) → out_of (feed a w answer t) h k n ≡ out_of t h k n +ℤ pos (share k ty ref n x)
      fed_child least ne one k n =
          ap (λ (u : Tally). out_of u h k n) up
          ∙ child_out own (λ i. pos (granted_in own i)) all ty ref h x type relation least ne one (ap pos grant) k n
          ∙ ap (λ (z : ℤ). z +ℤ pos (share k ty ref n x)) (entered_out a w answer t h k n)

      pub fed_give : ty ≡ RELINQUISH → 1 ≤ ref → ref ≢ answer.reference → (ty' ref' : ℕ) → (t ref).reqtype ≡ ty' → ty' ≡ NONFIRM_REDIRECT → (t ref).related ≡ ref' → 1 ≤ ref' → (k n : ℕ)
          → out_of (feed a w answer t) h k n ≡ out_of t h k n +ℤ pos (share k ty ref n x) +ℤ neg_ℤ (pos (share k ty' ref' n x))
      fed_give is8 one ne ty' ref' kind is5 above one' k n =
          let same : all ref ≡ t ref = put_other answer.reference own t ref ne in
          ap (λ (u : Tally). out_of u h k n) up
          ∙ give_out own (λ i. pos (granted_in own i)) all ty ref h x type relation is8 one ty' ref'
          (ap (λ (f : Entry). f.reqtype) same ∙ kind) is5 (ap (λ (f : Entry). f.related) same ∙ above) one' (ap pos grant) k n
          ∙ ap (λ (z : ℤ). z +ℤ pos (share k ty ref n x) +ℤ neg_ℤ (pos (share k ty' ref' n x))) (entered_out a w answer t h k n)

    -- from 13 to 16
    module _ (before : answer.before ≡ CONFIRMED) (at : answer.after ≡ ANNULLED) where
      back : feed a w answer t ≡ booked own (λ i. neg_ℤ (pos (granted_in own i))) all
      back = feed_changed a w answer t count later ∙ moved_back a w answer own all before at

      pub fed_annul_top : 1 ≤ ty → ty ≤ 2 → (k n : ℕ) → out_of (feed a w answer t) h k n ≡ out_of t h k n
      fed_annul_top least most k n =
          ap (λ (u : Tally). out_of u h k n) back
          ∙ top_out own (λ i. neg_ℤ (pos (granted_in own i))) all ty ref h x type relation least most k n
          ∙ entered_out a w answer t h k n

      pub fed_annul_child : 3 ≤ ty → ty ≢ RELINQUISH → 1 ≤ ref → (k n : ℕ) → out_of (feed a w answer t) h k n ≡ out_of t h k n +ℤ neg_ℤ (pos (share k ty ref n x))
      fed_annul_child least ne one k n =
          ap (λ (u : Tally). out_of u h k n) back
          ∙ child_back own (λ i. neg_ℤ (pos (granted_in own i))) all ty ref h x type relation least ne one (ap (λ (z : ℕ). neg_ℤ (pos z)) grant) k n
          ∙ ap (λ (z : ℤ). z +ℤ neg_ℤ (pos (share k ty ref n x))) (entered_out a w answer t h k n)

-- ---- a submission's answer is fed: row c is new, and its sums were 0
module _ (a : Action) (w : List ℕ) (answer : Answer) (t : Tally) (count : counts answer ≡ true) (submit : a.kind ≡ 1) where
  pub opened_own : feed a w answer t answer.reference ≡ opened a w answer
  opened_own = ap (λ (u : Tally). u answer.reference) (feed_opened a w answer t count submit) ∙ put_same answer.reference (opened a w answer) t

  pub opened_other : (q : ℕ) → q ≢ answer.reference → feed a w answer t q ≡ t q
  opened_other q ne = ap (λ (u : Tally). u q) (feed_opened a w answer t count submit) ∙ put_other answer.reference (opened a w answer) t q ne

  module _ (c : ℕ) (reference : answer.reference ≡ suc c) (h : ℕ) where
    opened_zero : (k : ℕ) → (feed a w answer t (suc c)).sum k h ≡ pos 0
    unfolding opened
    opened_zero k = ap (λ (i : ℕ). (feed a w answer t i).sum k h) (sym reference) ∙ ap (λ (e : Entry). e.sum k h) opened_own

    opened_stays : (n k : ℕ) → n ≢ c → (feed a w answer t (suc n)).sum k h ≡ (t (suc n)).sum k h
    opened_stays n k ne = ap (λ (e : Entry). e.sum k h) (opened_other (suc n) (λ z. ne (omega arith)))

    pub opened_out : ((k : ℕ) → out_of t h k c ≡ pos 0) → (k n : ℕ) → out_of (feed a w answer t) h k n ≡ out_of t h k n
    opened_out empty k n = go (ℕ_discrete n c)
      where
        none : (b : Bool) → pick b (pos 0) (pos 0) ≡ pos 0
        none true = refl
        none false = refl

        go : Dec (n ≡ c) → out_of (feed a w answer t) h k n ≡ out_of t h k n
        go (no ne) = out_stays t (feed a w answer t) h k n (opened_stays n k ne)
        go (yes e) =
            subst (λ (i : ℕ). out_of (feed a w answer t) h k i ≡ out_of t h k i) (sym e)
            (ap (λ (x : ℤ). pick (ltb k reduced_sum) x (pos 0)) (opened_zero k) ∙ none (ltb k reduced_sum) ∙ sym (empty k))

    pub opened_red : red_of t h c ≡ pos 0 → (n : ℕ) → red_of (feed a w answer t) h n ≡ red_of t h n
    opened_red empty n = go (ℕ_discrete n c)
      where
        go : Dec (n ≡ c) → red_of (feed a w answer t) h n ≡ red_of t h n
        go (no ne) = opened_stays n reduced_sum ne
        go (yes e) = subst (λ (i : ℕ). red_of (feed a w answer t) h i ≡ red_of t h i) (sym e) (opened_zero reduced_sum ∙ sym empty)
