-- Each step keeps the shape: references point down, and types stand under the types that they may.
use mathlib.Core.Path.{◌≡◌, sym, ◌∙◌}
use mathlib.Core.Logic.{◌≢◌}
use Prim.Native.Nat.{ℕ, suc, ◌≤◌}
use native.Mathlib.Decide.{dec_le}
use native.Mathlib.Omega.{arith}
use Rattle.column.specs.Column.{Col}
use Rattle.column.specs.Step.{Keeps, Submit, Step, same, submit, quiet, top, child, give, annul_top, annul_child, displace, reduce, Fresh}
use Rattle.column.proofs.Flow.{Shape, by_one}

-- the rows and their references stay, and the unused rows' statuses
keep : {S S' : Col} → Keeps S S' → ((n : ℕ) → S.used ≤ n → S'.st n ≡ S.st n) → Shape S → Shape S'
keep {S} {S'} K L H = record {
  fresh = λ n l. let f = H.fresh n (omega (arith, K.used)) in
      ((omega (arith, L n (omega (arith, K.used)), f.0), omega (arith, K.ref n, f.1)));
  lower = λ n. omega (arith, K.ref n, H.lower n);
  top = λ n l. K.ref n ∙ H.top n (omega (arith, K.ty n));
  under5 = λ n p e t. K.ty p ∙ H.under5 n p (sym (K.ref n) ∙ e) (sym (K.ty n) ∙ t);
  under = λ n p e t. let u = H.under n p (sym (K.ref n) ∙ e) (λ q. t (K.ty n ∙ q)) in omega (arith, K.ty p, u);
}

-- a row more
more : {S S' : Col} → Submit S S' → Shape S → Shape S'
more {S} {S'} N H = record {
  fresh = λ n l. let f = H.fresh n (omega (arith, N.used)) in
      ((omega (arith, (N.rest n (omega (arith, N.used))).st, f.0), omega (arith, N.ref n (omega (arith, N.used)), f.1)));
  lower = by_one (λ n. S'.ref n ≤ n) m N.lower (λ n e. omega (arith, N.ref n e, H.lower n));
  top = by_one (λ n. S'.ty n ≤ 2 → S'.ref n ≡ 0) m N.top (λ n e l. N.ref n e ∙ H.top n (omega (arith, N.ty n e)));
  under5 = λ n p e t. N.ty p (old n p e) ∙ by_one (λ n. S'.ref n ≡ suc p → S'.ty n ≡ 8 → S.ty p ≡ 5) m
      (N.under5 p)
      (λ n k e t. H.under5 n p (sym (N.ref n k) ∙ e) (sym (N.ty n k) ∙ t)) n e t;
  under = λ n p e t. let u = by_one (λ n. S'.ref n ≡ suc p → S'.ty n ≢ 8 → (S.ty p ≢ 5) × (S.ty p ≢ 8)) m
      (N.under p)
      (λ n k e t. H.under n p (sym (N.ref n k) ∙ e) (λ q. t (N.ty n k ∙ q))) n e t in omega (arith, N.ty p (old n p e), u);
}
  where
    m : ℕ
    m = S.used

    old : (n p : ℕ) → S'.ref n ≡ suc p → p ≢ m
    old n p = by_one (λ n. S'.ref n ≡ suc p → p ≢ m) m
        (λ e. omega (arith, N.lower))
        (λ n k e. go n k e (dec_le m n)) n
      where
        go : (n : ℕ) → n ≢ m → S'.ref n ≡ suc p → Dec (m ≤ n) → p ≢ m
        go n k e (yes l) = absurd (omega (arith, N.ref n k, (H.fresh n l).1))
        go n k e (no l) = omega (arith, N.ref n k, H.lower n)

live : {S : Col} (c : ℕ) → S.st c ≡ 13 → Shape S → S.used ≤ c → ⊥
live c e H l = omega (arith, (H.fresh c l).0)

pub step_shape : {B : ℕ → ℕ} {S S' : Col} → Step B S S' → Shape S → Shape S'
step_shape (same D) H = keep D.keeps (λ n l. (D.rest n).st) H
step_shape (submit N) H = more N H
step_shape (quiet c Q) H = keep Q.keeps (λ n l. (Q.rest n (omega (arith, Q.in_use))).st) H
step_shape (top c C T) H = keep C.keeps (λ n l. (C.rest n (omega (arith, C.in_use))).st) H
step_shape (child c p C T) H = keep C.keeps (λ n l. (C.rest n (omega (arith, C.in_use)) (omega (arith, C.in_use, C.parent, H.lower c))).st) H
step_shape (give c q p G T) H = keep G.keeps (λ n l. (G.rest n (omega (arith, G.in_use)) (omega (arith, G.in_use, G.parent, H.lower c)) (omega (arith, G.in_use, G.parent, G.grand, H.lower c, H.lower q))).st) H
step_shape (annul_top c A) H = keep A.keeps (λ n l. (A.rest n (omega (arith, A.in_use))).st) H
step_shape (annul_child c p A T) H = keep A.keeps (λ n l. (A.rest n (omega (arith, A.in_use)) (omega (arith, A.in_use, A.parent, H.lower c))).st) H
step_shape (displace c D) H = keep D.keeps (λ n l. (D.rest n (λ e. live c D.before H (omega arith))).st) H
step_shape (reduce c x D) H = keep D.keeps (λ n l. (D.rest n (λ e. live c D.before H (omega arith))).st) H

pub fresh_shape : {S : Col} → Fresh S → Shape S
fresh_shape F = record {
  fresh = λ n l. ((omega (arith, F.st n)), F.ref n);
  lower = λ n. omega (arith, F.ref n);
  top = λ n l. F.ref n;
  under5 = λ n p e t. absurd (omega (arith, F.ref n));
  under = λ n p e t. absurd (omega (arith, F.ref n));
}
