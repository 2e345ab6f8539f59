-- The ledger before a confirmation: with its row written, or as it was.
use mathlib.Core.Path.{refl, sym, subst}
use mathlib.Core.List.{List}
use Prim.Native.Nat.{ℕ, ◌<◌}
use Rattle.column.specs.Column.{Off}
use Rattle.rules.specs.Layout.{rows, hours, used, row, on_row, status}
use Rattle.rules.specs.Tally.{Tally}
use Rattle.rules.proofs.Rows.{row_length}
use Rattle.rules.proofs.Formed.{Formed, formed, formed_sized}
use Rattle.rules.proofs.View.{out_of, red_of}
use Rattle.rules.proofs.Leaves.{Leaves}
use Rattle.rules.proofs.Effects.{kin_self, own_leaves}
use Rattle.rules.proofs.Placed.{placed}
use Rattle.rules.proofs.Quiet.{Calm, calm_step}
use Rattle.rules.proofs.Kept.{Same, next_own}
use Rattle.rules.proofs.Good.{Good}
use Rattle.rules.proofs.Keeping.{stepped, ordered}
use Rattle.rules.proofs.Confirmed.{Ready}

module _ {B : ℕ → ℕ → ℕ} {l : List ℕ} {t : Tally} (G : Good B l t) {n : ℕ} (lt : n < used l) (off : Off (status (row (hours l) l n))) where
  F : Formed l
  F = formed G.sound

  self_leaves : Leaves (rows l) (hours l) l l n (row (hours l) l n)
  self_leaves = record {
    sized = formed_sized F;
    own = refl;
    kin = λ m ne mlt. kin_self (hours l) (row (hours l) l m) (row_length (formed_sized F) mlt);
    past = λ m le. refl;
    head = λ i ilt. refl;
  }

  pub ready_self : Ready B l l t n (row (hours l) l n)
  ready_self = record { formed = F; leaves = self_leaves; same_type = refl; same_related = refl; same_path = refl; ordered = ordered G; off = off }

  -- f writes in the row and leaves it neither CONFIRMED nor DISPLACED
  pub ready_on : (f : List ℕ → List ℕ) → Same (hours l) (row (hours l) l n) (f (row (hours l) l n)) → (s : ℕ)
      → ((h : ℕ) → Calm (hours l) h (row (hours l) l n) (f (row (hours l) l n)) s) → Off s → Ready B l (on_row (hours l) n f l) t n (f (row (hours l) l n))
  ready_on f same s calm after = record {
    formed = (next_own F lt f same).formed;
    leaves = own_leaves F lt f same.long;
    same_type = same.type;
    same_related = same.related;
    same_path = (calm 0).path;
    ordered = λ h hlt. stepped (calm_step (placed F lt) f (calm h) off after (out_of t h) (out_of t h) (red_of t h) (red_of t h) (record { out = λ k m. refl }) (record { red = λ m. refl })) (ordered G h hlt);
    off = subst Off (sym (calm 0).status) after;
  }
