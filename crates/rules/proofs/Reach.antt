-- What an action on row n reads of the ledger: the head, row n, and, unless that is an original, the row that it is
-- related to. So its checks give the same number on ledgers that agree there.
use mathlib.Core.Path.{◌≡◌, refl, sym, ap, subst, ◌∙◌}
use mathlib.Core.Logic.{◌≢◌}
use mathlib.Core.Bool.{Bool, true, false, not}
use mathlib.Core.List.{List}
use Prim.Native.Nat.{ℕ, ◌≤◌, ◌<◌}
use native.Mathlib.Omega.{arith}
use borrow.Author.Tests.{eqb-true, eqb-false, ne_eqb}
use lib.Dec.{eqb, lit<}
use Rattle.rules.specs.Pick.{pick}
use Rattle.rules.specs.Numbers.{FULL_TRANSFER, RELINQUISH}
use Rattle.rules.specs.Layout.{provider, clock, used, issued, row_of, row, reqtype, related, related_row}
use Rattle.rules.specs.Sound.{original}
use Rattle.rules.specs.Confirming.{unapproved, unconfirmed, drawn_from, short, partial, confirm_number}
use Rattle.rules.specs.Checks.{named, named_row, no_reference, not_provider, waiting_number}
use Rattle.rules.specs.SellerStatus.{not_seller, fit_number, offer_number, seller_number}
use Rattle.rules.specs.CustomerStatus.{bid_confirm_number, bid_number, customer_number}
use Rattle.rules.specs.Approve.{approve_number}
use Rattle.rules.specs.Reduce.{reduce_number}
use Rattle.rules.specs.Lapse.{too_early, lapse_number}
use Rattle.rules.specs.Clock.{bad_time, clock_number}
use Rattle.rules.specs.Post.{post_number}
use Rattle.rules.specs.Act.{kind_number}
use Rattle.rules.specs.declared.Action.{Action}
use Rattle.rules.proofs.Types.{original_range}
use Rattle.rules.proofs.Soundness.{past}
use Rattle.rules.proofs.Wrote.{Agree, Frame}

-- K holds for row n and the rows above it that an action on row n may read or write: its related row, and, of a
-- relinquish record, that one's
pub record Reach (K : ℕ → Bool) (R H : ℕ) (l : List ℕ) (n : ℕ) : Type 0 where
  pub own : K n ≡ true
  pub own_row : n < R
  pub above : original (reqtype (row H l n)) ≡ false → K (related_row H l n) ≡ true
  pub above_row : original (reqtype (row H l n)) ≡ false → related_row H l n < R
  pub grand : eqb (reqtype (row H l n)) RELINQUISH ≡ true → K (related_row H l (related_row H l n)) ≡ true
  pub grand_row : eqb (reqtype (row H l n)) RELINQUISH ≡ true → related_row H l (related_row H l n) < R

-- lasting words say which rows these are
module _ {K : ℕ → Bool} {R H : ℕ} {l l' : List ℕ} (F : Frame K R H l l') where
  pub types_last : (n : ℕ) → reqtype (row H l' n) ≡ reqtype (row H l n)
  types_last n = F.word n 0 (lit< tt) refl

  pub related_last : (n : ℕ) → related_row H l' n ≡ related_row H l n
  unfolding related_row
  related_last n = ap row_of (F.word n 4 (lit< tt) refl)

  pub grand_last : (n : ℕ) → related_row H l' (related_row H l' n) ≡ related_row H l (related_row H l n)
  grand_last n = related_last (related_row H l' n) ∙ ap (related_row H l) (related_last n)

  pub reach_last : {J : ℕ → Bool} {n : ℕ} → Reach J R H l n → Reach J R H l' n
  reach_last {J} {n} X = record {
    own = X.own;
    own_row = X.own_row;
    above = λ t. ap J (related_last n) ∙ X.above (ap original (sym (types_last n)) ∙ t);
    above_row = λ t. subst (λ (k : ℕ). k < R) (sym (related_last n)) (X.above_row (ap original (sym (types_last n)) ∙ t));
    grand = λ t. ap J (grand_last n) ∙ X.grand (ap (λ (k : ℕ). eqb k RELINQUISH) (sym (types_last n)) ∙ t);
    grand_row = λ t. subst (λ (k : ℕ). k < R) (sym (grand_last n)) (X.grand_row (ap (λ (k : ℕ). eqb k RELINQUISH) (sym (types_last n)) ∙ t));
  }

pub agree_related : {K : ℕ → Bool} {R H : ℕ} {l m : List ℕ} → Agree K R H l m → {k : ℕ} → K k ≡ true → related_row H l k ≡ related_row H m k
unfolding related_row
agree_related G {k} t = ap (λ (r : List ℕ). row_of (related r)) (G.rows k t)

module _ {K : ℕ → Bool} {R H : ℕ} {l m : List ℕ} {n : ℕ} (G : Agree K R H l m) (X : Reach K R H l n) where
  pub same_row : row H l n ≡ row H m n
  same_row = G.rows n X.own

  pub same_related : related_row H l n ≡ related_row H m n
  same_related = agree_related G X.own

  pub same_above : original (reqtype (row H l n)) ≡ false → row H l (related_row H l n) ≡ row H m (related_row H m n)
  same_above t = G.rows (related_row H l n) (X.above t) ∙ ap (row H m) same_related

  -- confirming; the related row of an original is not looked at
  pub same_confirm : (mw : List ℕ) (b : Bool) → confirm_number H l n mw b ≡ confirm_number H m n mw b
  unfolding confirm_number unapproved unconfirmed short partial drawn_from
  same_confirm mw b = go (original (reqtype (row H m n))) refl
    where
      type_n : reqtype (row H l n) ≡ reqtype (row H m n)
      type_n = ap reqtype same_row

      go : (o : Bool) → original (reqtype (row H m n)) ≡ o → confirm_number H l n mw b ≡ confirm_number H m n mw b
      go true e = simp (same_row, e, ne_eqb (reqtype (row H m n)) FULL_TRANSFER (λ z. omega (arith, z, original_range (reqtype (row H m n)) e)))
      go false e = simp (same_row, same_above (ap original type_n ∙ e))

-- ---- the checks of each kind
module _ {K : ℕ → Bool} {R H : ℕ} {l m : List ℕ} (w : List ℕ) (a : Action) (G : Agree K R H l m) (X : Reach K R H l (named a)) where
  r : named_row H l a ≡ named_row H m a
  r = same_row G X

  u : used l ≡ used m
  u = G.head 6 (lit< tt)

  p : provider l ≡ provider m
  p = G.head 2 (lit< tt)

  pub same_seller : seller_number H l w a ≡ seller_number H m w a
  unfolding seller_number offer_number fit_number no_reference issued not_seller
  same_seller = simp (r, u, p, same_confirm G X)

  pub same_customer : customer_number H l w a ≡ customer_number H m w a
  unfolding customer_number bid_number bid_confirm_number no_reference issued
  same_customer = simp (r, u, same_confirm G X)

  pub same_approve : approve_number H l a ≡ approve_number H m a
  unfolding approve_number no_reference issued not_provider waiting_number
  same_approve = simp (r, u, p, same_confirm G X)

  pub same_reduce : reduce_number H l w a ≡ reduce_number H m w a
  unfolding reduce_number no_reference issued not_provider
  same_reduce = simp (r, u, p)

  pub same_lapse : lapse_number H l a ≡ lapse_number H m a
  unfolding lapse_number no_reference issued not_provider too_early waiting_number
  same_lapse = simp (r, u, p, G.head 5 (lit< tt), same_confirm G X)

-- ---- by kind
by : {i i' j j' : ℕ} (b : Bool) → (b ≡ true → i ≡ i') → j ≡ j' → pick b i j ≡ pick b i' j'
by true f e = f refl
by false f e = e

-- kinds 7 and 8 read the head alone
same_clock : (l m : List ℕ) (a : Action) → provider l ≡ provider m → clock l ≡ clock m → clock_number l a ≡ clock_number m a
unfolding clock_number bad_time not_provider
same_clock l m a p c = simp (p, c)

same_post : (H : ℕ) (l m w : List ℕ) (a : Action) → provider l ≡ provider m → post_number H l w a ≡ post_number H m w a
unfolding post_number not_provider
same_post H l m w a p = simp p

-- every kind but submission, on ledgers that agree in the rows reached
pub same_kind : {K : ℕ → Bool} {R H : ℕ} {l m : List ℕ} (w : List ℕ) (a : Action) → a.kind ≢ 1 → Agree K R H l m → Reach K R H l (named a) → kind_number H l w a ≡ kind_number H m w a
unfolding kind_number
same_kind {H = H} {l = l} {m = m} w a n1 G X =
    by (eqb a.kind 1) (λ t. absurd (n1 (eqb-true _ _ t)))
    (by (eqb a.kind 2) (λ t. same_seller w a G X)
    (by (eqb a.kind 3) (λ t. same_customer w a G X)
    (by (eqb a.kind 4) (λ t. same_approve w a G X)
    (by (eqb a.kind 5) (λ t. same_reduce w a G X)
    (by (eqb a.kind 6) (λ t. same_lapse w a G X)
    (by (eqb a.kind 7) (λ t. same_clock l m a (G.head 2 (lit< tt)) (G.head 5 (lit< tt)))
    (same_post H l m w a (G.head 2 (lit< tt)))))))))

above : {x : ℕ} → 9 ≤ x → x ≤ 8 → ⊥
above a b = omega (arith, a, b)

-- an action that names no row: 4 wherever it stands
module _ (H : ℕ) (l w : List ℕ) (a : Action) (e : issued l a.reference ≡ false) where
  unnamed : no_reference l a ≡ true
  unfolding no_reference
  unnamed = ap not e

  pub seller_none : seller_number H l w a ≡ 4
  unfolding seller_number
  seller_none = simp unnamed

  pub customer_none : customer_number H l w a ≡ 4
  unfolding customer_number
  customer_none = simp unnamed

  pub approve_none : approve_number H l a ≡ 4
  unfolding approve_number
  approve_none = simp unnamed

  pub reduce_none : reduce_number H l w a ≡ 4
  unfolding reduce_number
  reduce_none = simp unnamed

  pub lapse_none : lapse_number H l a ≡ 4
  unfolding lapse_number
  lapse_none = simp unnamed

  -- of every kind that names one
  pub kind_none : a.kind ≢ 1 → a.kind ≢ 7 → a.kind ≢ 8 → 1 ≤ a.kind → a.kind ≤ 8 → kind_number H l w a ≡ 4
  unfolding kind_number
  kind_none n1 n7 n8 least most =
      pass (eqb a.kind 1) (λ t. absurd (n1 (eqb-true _ _ t)))
      (λ e1. pass (eqb a.kind 2) (λ t. seller_none)
      (λ e2. pass (eqb a.kind 3) (λ t. customer_none)
      (λ e3. pass (eqb a.kind 4) (λ t. approve_none)
      (λ e4. pass (eqb a.kind 5) (λ t. reduce_none)
      (λ e5. pass (eqb a.kind 6) (λ t. lapse_none)
      (λ e6.
      let four : 4 ≤ a.kind = past (eqb-false _ _ e3) (past (eqb-false _ _ e2) (past n1 least)) in
      let nine : 9 ≤ a.kind = past n8 (past n7 (past (eqb-false _ _ e6) (past (eqb-false _ _ e5) (past (eqb-false _ _ e4) four)))) in
      absurd (above nine most)))))))
    where
      pass : {i j : ℕ} (b : Bool) → (b ≡ true → i ≡ 4) → (b ≡ false → j ≡ 4) → pick b i j ≡ 4
      pass true f g = f refl
      pass false f g = g refl
