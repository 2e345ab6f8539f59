-- The three passes together, for H hours, and a list that is judged before any.
use mathlib.Core.Path.{◌≡◌, refl, sym, ap, subst, ◌∙◌}
use mathlib.Core.Bool.{Bool, true, false, ◌&&◌}
use mathlib.Core.List.{List, [], ◌∷◌}
use Prim.Native.Nat.{ℕ, ◌*◌, ◌≤◌}
use native.Mathlib.Omega.{arith}
use lib.ListN.{length}
use Rattle.std.specs.Bool.{◌==◌}
use Rattle.words.proofs.Laws.{and_left, and_right}
use Rattle.rules.specs.Layout.{rows, hours}
use Rattle.rules.specs.Sound.{sound}
use Rattle.rules.specs.Act.{sound_both}
use Rattle.rules.specs.Annulments.{annuls_in_order}
use Rattle.rules.proofs.SoundFacts.{sound_facts}
use Rattle.rules.proofs.Posts.{postings_facts}
use Rattle.rules.proofs.Annulments.{annuls_unsound}
use Rattle.layout.specs.SoundAt.{SoundAt}
use Rattle.layout.proofs.SoundAt.{sized_at, head_fits}
use Rattle.paths.specs.Exceeding.{Postings}
use Rattle.unwinding.specs.Order.{all_movable, all_fit, paths_carry}
use Rattle.unwinding.specs.Marks.{marked, Late}
use Rattle.unwinding.proofs.Passes.{unmovable, by_passes}

module _ (l ps : List ℕ) (both : sound_both l ps ≡ true) where
  pub sound_one : sound l ≡ true
  unfolding sound_both
  sound_one = and_left _ _ both

  pub sound_at : SoundAt l (rows l) (hours l)
  sound_at = record { sound = sound_facts sound_one; rows = refl; hours = refl }

  module _ {R H : ℕ} (s : SoundAt l R H) where
    pub postings_at : Postings H ps
    unfolding sound_both
    postings_at = record {
      long = subst (λ (k : ℕ). length ps ≡ 64 * k) (sym s.hours) (postings_facts (hours l) ps (and_right (sound l) _ both)).long;
      hours = (sized_at s).hours;
    }

    module _ (refs : List ℕ) where
      -- the first pass says no
      pub moved_not : all_movable H l refs ≡ false → false ≡ annuls_in_order l ps refs
      moved_not e = sym (unmovable l ps refs both (ap (λ (k : ℕ). all_movable k l refs) (sym s.hours) ∙ e))

      -- it says yes
      module _ (go : all_movable H l refs ≡ true) {late : List Bool} (L : Late H l refs late (length refs)) where
        by_two : annuls_in_order l ps refs ≡ (all_fit H l refs (marked late) && paths_carry H l ps refs)
        by_two =
            subst (λ (k : ℕ). all_movable k l refs ≡ true → Late k l refs late (length refs) → annuls_in_order l ps refs ≡ (all_fit k l refs (marked late) && paths_carry k l ps refs))
            (sym s.hours) (λ go L. by_passes l ps refs both go (marked late) L.all L.off) go L

        pub fitted_not : all_fit H l refs (marked late) ≡ false → false ≡ annuls_in_order l ps refs
        fitted_not e = sym (by_two ∙ ap (λ (b : Bool). b && paths_carry H l ps refs) e)

        pub carried_is : all_fit H l refs (marked late) ≡ true → {b : Bool} → b ≡ paths_carry H l ps refs → b ≡ annuls_in_order l ps refs
        carried_is e q = q ∙ sym (by_two ∙ ap (λ (b : Bool). b && paths_carry H l ps refs) e)

-- ---- before the passes: no reference; words that are not sound, with one
pub none_listed : (l ps refs : List ℕ) → (length refs == 0) ≡ true → true ≡ annuls_in_order l ps refs
unfolding annuls_in_order
none_listed l ps [] e = refl
none_listed l ps (r ∷ rs) e = absurd (grind (arith, e))

pub unsound_not : (l ps refs : List ℕ) → (length refs == 0) ≡ false → sound_both l ps ≡ false → false ≡ annuls_in_order l ps refs
unsound_not l ps [] ne s = absurd (grind (arith, ne))
unsound_not l ps (r ∷ rs) ne s = sym (annuls_unsound l ps r rs s)

-- a sound ledger has a head, so its rows used can be read
pub no_head : (l ps refs : List ℕ) → (length refs == 0) ≡ false → length l ≤ 6 → false ≡ annuls_in_order l ps refs
no_head l ps refs ne le = unsound_not l ps refs ne (go (sound_both l ps) refl)
  where
    go : (b : Bool) → sound_both l ps ≡ b → b ≡ false
    go true e = absurd (omega (arith, le, head_fits (sound_at l ps e)))
    go false e = refl
