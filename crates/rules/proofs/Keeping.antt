-- How an accepted action keeps what is kept: one row is its own, the others are kin, and each hour's column goes by steps.
use mathlib.Core.Path.{◌≡◌, sym, subst, ◌∙◌}
use mathlib.Core.Logic.{◌≢◌, ◌⊎◌, ⊎_elim, inl, inr}
use mathlib.Core.List.{List}
use Prim.Native.Nat.{ℕ, suc, ◌≤◌, ◌<◌}
use native.Mathlib.Decide.{ℕ_discrete}
use native.Mathlib.Omega.{arith}
use lib.Dec.{lit<}
use lib.ListN.{get_or}
use Rattle.column.specs.Column.{Col}
use Rattle.column.specs.Step.{Step}
use Rattle.column.specs.Use.{Within}
use Rattle.column.proofs.Fits.{fit_most}
use Rattle.column.proofs.Kept.{step_kept}
use Rattle.column.proofs.Shapes.{step_shape}
use Rattle.column.proofs.Uses.{step_within}
use Rattle.rules.specs.Numbers.{most_megawatts, profiles, granted_part, available_part}
use Rattle.rules.specs.Layout.{rows, hours, used, row, hour_at}
use Rattle.rules.specs.Tally.{Tally}
use Rattle.rules.proofs.Rows.{row_length}
use Rattle.rules.proofs.Spans.{Spanned}
use Rattle.rules.proofs.SoundFacts.{SoundLedger, sized}
use Rattle.rules.proofs.Formed.{Formed}
use Rattle.rules.proofs.View.{view_of}
use Rattle.rules.proofs.Bounded.{any_of}
use Rattle.rules.proofs.Soundness.{bounded_sound}
use Rattle.rules.proofs.Leaves.{Leaves}
use Rattle.rules.proofs.Good.{Agrees, Ordered, GoodAt, Good}
use Rattle.rules.proofs.TallyLaws.{Like}
use Rattle.rules.proofs.Entries.{agrees_kin, agrees_like, words_spanned}

-- a step of a column that is in order
pub stepped : {B : ℕ → ℕ} {S S' : Col} → Step B S S' → Ordered B S → Ordered B S'
stepped s o = record { shape = step_shape s o.shape; inv = step_kept s o.shape o.inv; within = step_within s o.shape o.within }

pub ordered : {B : ℕ → ℕ → ℕ} {l : List ℕ} {t : Tally} → Good B l t → (h : ℕ) → h < hours l → Ordered (B h) (view_of (hours l) h l t)
ordered G h lt = G.good.columns h lt

-- within another bound
pub good_within : {B B' : ℕ → ℕ → ℕ} {l : List ℕ} {t : Tally} → Good B l t → ((h : ℕ) → h < hours l → Within (B' h) (view_of (hours l) h l t)) → Good B' l t
good_within G W = record {
  sound = G.sound;
  good = record {
    entries = G.good.entries;
    others = G.good.others;
    columns = λ h lt. record { shape = (G.good.columns h lt).shape; inv = (G.good.columns h lt).inv; within = W h lt };
  };
}

-- a formed ledger is sound where its columns are in order: what a row holds, or was reduced in it, was granted to it, and
-- what is granted is bounded
pub columns_sound : {B : ℕ → ℕ → ℕ} {l : List ℕ} (t : Tally) → Formed l → ((h : ℕ) → h < hours l → Ordered (B h) (view_of (hours l) h l t)) → SoundLedger l
columns_sound {B} {l} t F K = bounded_sound F (λ n lt. record { most = λ p h least plt x y. held n lt p h least plt (omega (arith, y, (F.words n lt).stops)) })
  where
    held : (n : ℕ) → n < used l → (p h : ℕ) → available_part ≤ p → p < profiles → h < hours l → get_or (row (hours l) l n) (hour_at (hours l) p h) 0 ≤ most_megawatts
    held n lt p h least plt hlt =
        let m = fit_most ((K h hlt).inv.fit n) in
        let g = (F.profiles n lt).most granted_part h (lit< tt) hlt in
        any_of (λ (i : ℕ). get_or (row (hours l) l n) (hour_at (hours l) i h) 0 ≤ most_megawatts) (omega (arith, m, g)) (omega (arith, m, g)) (omega (arith, m, g)) p least plt

module _ {B : ℕ → ℕ → ℕ} {l l' : List ℕ} {t t' : Tally} {n : ℕ} {r : List ℕ} (G : Good B l t) (lt : n < used l) (S : Formed l') (L : Leaves (rows l) (hours l) l l' n r)
    (A : Agrees (hours l) r (t' (suc n))) (F : (q : ℕ) → q ≢ suc n → Like (t' q) (t q))
    (K : (h : ℕ) → h < hours l → Ordered (B h) (view_of (hours l) h l' t')) where
  same_used : used l' ≡ used l
  same_used = L.head 6 (lit< tt)

  spanned : (m : ℕ) → m < used l → Spanned (hours l) (row (hours l) l m)
  spanned m mlt = words_spanned (G.sound.words m mlt) (row_length (sized G.sound) (omega (arith, G.sound.head.used)))

  entry : (m : ℕ) → m < used l → Agrees (hours l) (row (hours l) l' m) (t' (suc m))
  entry m mlt = go (ℕ_discrete m n)
    where
      go : Dec (m ≡ n) → Agrees (hours l) (row (hours l) l' m) (t' (suc m))
      go (yes e) = subst (λ (i : ℕ). Agrees (hours l) (row (hours l) l' i) (t' (suc i))) (sym e) (subst (λ (q : List ℕ). Agrees (hours l) q (t' (suc n))) (sym L.own) A)
      go (no ne) = agrees_like (F (suc m) (λ e. ne (omega (arith, e)))) (agrees_kin (L.kin m ne (omega (arith, G.sound.head.used))) (spanned m mlt) (G.good.entries m mlt))

  pub good_leaves : Good B l' t'
  good_leaves = record {
    sound = columns_sound t' S (subst (λ (H : ℕ). (h : ℕ) → h < H → Ordered (B h) (view_of H h l' t')) (sym (L.head 1 (lit< tt))) K);
    good = subst (λ (H : ℕ). GoodAt B H l' t') (sym (L.head 1 (lit< tt))) (record {
      entries = λ m mlt. entry m (omega (arith, same_used));
      others = λ q z. (F q (λ e. apart q e z)).reqtype ∙ G.good.others q (⊎_elim (λ u. inl u) (λ u. inr (omega (arith, u, same_used))) z);
      columns = K;
    });
  }
    where
      apart : (q : ℕ) → q ≡ suc n → (q ≡ 0) ⊎ (used l' < q) → ⊥
      apart q e (inl u) = omega (arith, e, u)
      apart q e (inr u) = omega (arith, e, u, lt, same_used)
