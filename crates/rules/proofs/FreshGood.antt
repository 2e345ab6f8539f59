-- A fresh ledger and an empty tally.
use mathlib.Core.Path.{◌≡◌, refl, sym, ap, subst, ◌∙◌}
use mathlib.Core.Bool.{Bool, true, false, ◌&&◌}
use mathlib.Core.List.{List}
use Prim.Native.Nat.{ℕ, ◌*◌, ◌≤◌}
use native.Mathlib.Omega.{arith}
use borrow.Author.Tests.{leb-true}
use lib.Dec.{leb, ltb}
use lib.ListN.{get_or}
use lib.IntN.{pos}
use Rattle.words.proofs.Laws.{and_left, and_right, noughts_length}
use Rattle.column.specs.Step.{Fresh}
use Rattle.column.proofs.Shapes.{fresh_shape}
use Rattle.column.proofs.Uses.{fresh_within}
use Rattle.column.proofs.Final.{fresh_inv}
use Rattle.rules.specs.Pick.{pick}
use Rattle.rules.specs.Numbers.{most_rows, most_hours, most_entity, most_window, entity}
use Rattle.rules.specs.Layout.{hours, used, row_size, row_base, row}
use Rattle.rules.specs.Create.{good_numbers, fresh}
use Rattle.rules.specs.Tally.{reduced_sum, no_entry, no_entries}
use Rattle.rules.proofs.SoundFacts.{SoundHead, SoundLedger}
use Rattle.rules.proofs.View.{view_of}
use Rattle.rules.proofs.Begins.{fresh_row, fresh_column}
use Rattle.rules.proofs.Good.{Ordered, Good}

both : (b c : Bool) → (b && c) ≡ true → (b ≡ true) × (c ≡ true)
both b c e = (and_left b c e, and_right b c e)

range : (a x b : ℕ) → (leb a x && leb x b) ≡ true → (a ≤ x) × (x ≤ b)
range a x b e = (leb-true a x (and_left (leb a x) (leb x b) e), leb-true x b (and_right (leb a x) (leb x b) e))

module _ (R H provider window base : ℕ) (good : good_numbers R H provider window base ≡ true) where
  abbrev l : List ℕ
  l = fresh R H provider window base

  fresh_head : SoundHead l
  unfolding good_numbers entity fresh row_base
  fresh_head =
      let a = both _ _ good in
      let b = both _ _ a.1 in
      let c = both _ _ b.1 in
      let d = both _ _ c.1 in
      let r = range 1 R most_rows a.0 in
      let h = range 1 H most_hours b.0 in
      record {
        long = omega (arith, noughts_length (R * row_size H));
        rows_least = r.0;
        rows_most = r.1;
        hours_least = h.0;
        hours_most = h.1;
        provider = range 1 provider most_entity c.0;
        window = range 1 window most_window d.0;
        base = leb-true _ _ d.1;
        clock = omega arith;
        used = omega arith;
        end = refl;
      }

  none_used : used l ≡ 0
  unfolding fresh
  none_used = refl

  fresh_hours : hours l ≡ H
  unfolding fresh
  fresh_hours = refl

  fresh_sound : SoundLedger l
  fresh_sound = record {
    head = fresh_head;
    words = λ n lt. absurd (omega (arith, none_used));
    profiles = λ n lt. absurd (omega (arith, none_used));
    relations = λ n lt. absurd (omega (arith, none_used));
    unused = λ n le k. ap (λ (J : ℕ). get_or (row J l n) k 0) fresh_hours ∙ fresh_row R H provider window base n k;
  }

  -- its column, with the sums of an empty tally
  column : (h : ℕ) → Fresh (view_of H h l no_entries)
  unfolding no_entries no_entry
  column h =
      let F = fresh_column R H provider window base h in
      record { used = F.used; st = F.st; ref = F.ref; a = F.a; d = F.d; r = F.r; out = λ k n. nothing (ltb k reduced_sum); red = λ n. refl }
    where
      nothing : (b : Bool) → pick b (pos 0) (pos 0) ≡ pos 0
      nothing true = refl
      nothing false = refl

  pub fresh_good : {B : ℕ → ℕ → ℕ} → Good B l no_entries
  unfolding no_entries no_entry
  fresh_good {B} = record {
    sound = fresh_sound;
    good = record {
      entries = λ n lt. absurd (omega (arith, none_used));
      others = λ r z. refl;
      columns = λ h lt. subst (λ (J : ℕ). Ordered (B h) (view_of J h l no_entries)) (sym fresh_hours) (record { shape = fresh_shape (column h); inv = fresh_inv (column h); within = fresh_within (column h) });
    };
  }
