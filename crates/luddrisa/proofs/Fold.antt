-- Actions one after another, as lists: what is known once some of them are done, and what is known once all are.
use mathlib.Core.Path.{◌≡◌, refl, sym, ◌∙◌, ap, subst}
use mathlib.Core.Bool.{Bool}
use mathlib.Core.List.{List, [], ◌∷◌, ◌++◌}
use Prim.Native.Nat.{ℕ, zero, suc, ◌<◌, ◌≤◌}
use native.Mathlib.Nat.{not-suc-le-zero, le_of_suc-le-suc}
use lib.ListN.{length, get_or, set, drop, length-set}
use Rattle.rules.specs.Act.{Outcome, step, sound_both}
use Rattle.rules.proofs.Batches.{ledgers_by, postings_by, replies_by, length_replies, tested_after}
use Rattle.rules.specs.declared.Action.{Action}
use Rattle.rules.specs.declared.Answer.{Answer}

-- what stands past the end of a list: no proof reads it
abbrev pub no_action : Action
no_action = record { kind = 0; actor = 0; reference = 0; reqtype = 0; status = 0; seller = 0; related = 0; start = 0; stop = 0; flags = 0; price = 0; time = 0; offset = 0; length = 0; path = 0 }

-- ---- lists
drop_step {ℓ} : {A : Type ℓ} (xs : List A) (i : ℕ) (d : A) → i < length xs → drop i xs ≡ get_or xs i d ∷ drop (suc i) xs
drop_step [] i d h = absurd (not-suc-le-zero h)
drop_step (x ∷ xs) zero d h = refl
drop_step (x ∷ xs) (suc i) d h = drop_step xs i d (le_of_suc-le-suc h)

drop_all {ℓ} : {A : Type ℓ} (xs : List A) → drop (length xs) xs ≡ []
drop_all [] = refl
drop_all (x ∷ xs) = drop_all xs

-- the answers rs are written into out, one after another, from place i on
abbrev pub poured : List Answer → ℕ → List Answer → List Answer
poured out i [] = out
poured out i (r ∷ rs) = poured (set out i r) (suc i) rs

poured_cons : (x : Answer) (out : List Answer) (i : ℕ) (rs : List Answer) → poured (x ∷ out) (suc i) rs ≡ x ∷ poured out i rs
poured_cons x out i [] = refl
poured_cons x out i (r ∷ rs) = poured_cons x (set out i r) (suc i) rs

-- from place 0 on they stand first, and the places past them are as they were
poured_all : (rs out : List Answer) → length rs ≤ length out → poured out 0 rs ≡ rs ++ drop (length rs) out
poured_all [] out h = refl
poured_all (r ∷ rs) [] h = absurd (not-suc-le-zero h)
poured_all (r ∷ rs) (x ∷ out) h = poured_cons r out 0 rs ∙ ap (λ (ys : List Answer). r ∷ ys) (poured_all rs out (le_of_suc-le-suc h))

-- ---- the actions xs on the ledger l₀ and the postings ps₀ with the words w, into the answers out₀. b: both were sound
-- i actions are done: those that are left lead from here to where all of them lead from the start
pub record Turned (b : Bool) (l₀ ps₀ w : List ℕ) (xs : List Action) (out₀ : List Answer) (i : ℕ) (led psts : List ℕ) (out : List Answer) : Type 0 where
  pub within : i ≤ length xs
  pub out_long : length out ≡ length out₀
  pub tested : b ≡ sound_both led psts
  pub led_is : ledgers_by b led psts w (drop i xs) ≡ ledgers_by b l₀ ps₀ w xs
  pub psts_is : postings_by b led psts w (drop i xs) ≡ postings_by b l₀ ps₀ w xs
  pub out_is : poured out i (replies_by b led psts w (drop i xs)) ≡ poured out₀ 0 (replies_by b l₀ ps₀ w xs)

module _ {b : Bool} {l₀ ps₀ w : List ℕ} {xs : List Action} {out₀ : List Answer} {i : ℕ} {led psts : List ℕ} {out : List Answer} (s : Turned b l₀ ps₀ w xs out₀ i led psts out) where
  abbrev pub doing : Action
  doing = get_or xs i no_action

  abbrev pub does : Outcome
  does = step b led psts w doing

  -- one more action: it leaves l and ps, and answers r
  module _ (h : i < length xs) {l ps : List ℕ} {r : Answer} (is_r : r ≡ does.answer) (is_l : l ≡ does.ledger) (is_ps : ps ≡ does.postings) where
    left_is : doing ∷ drop (suc i) xs ≡ drop i xs
    left_is = sym (drop_step xs i no_action h)

    more_tested : b ≡ sound_both l ps
    more_tested = tested_after b led psts w doing s.tested ∙ sym (λ j. sound_both (is_l j) (is_ps j))

    -- what is made of the ledger and the postings action by action is made from here as it was from before the action
    goes_on : (f : List ℕ → List ℕ → List Action → List ℕ) → f does.ledger does.postings (drop (suc i) xs) ≡ f led psts (doing ∷ drop (suc i) xs)
        → f l ps (drop (suc i) xs) ≡ f led psts (drop i xs)
    goes_on f e = (λ j. f (is_l j) (is_ps j) (drop (suc i) xs)) ∙ e ∙ ap (λ (ys : List Action). f led psts ys) left_is

    more_led : ledgers_by b l ps w (drop (suc i) xs) ≡ ledgers_by b l₀ ps₀ w xs
    unfolding ledgers_by
    more_led = goes_on (λ k ks ys. ledgers_by b k ks w ys) refl ∙ s.led_is

    more_psts : postings_by b l ps w (drop (suc i) xs) ≡ postings_by b l₀ ps₀ w xs
    unfolding postings_by
    more_psts = goes_on (λ k ks ys. postings_by b k ks w ys) refl ∙ s.psts_is

    more_out : poured (set out i r) (suc i) (replies_by b l ps w (drop (suc i) xs)) ≡ poured out₀ 0 (replies_by b l₀ ps₀ w xs)
    unfolding replies_by
    more_out =
        (λ j. poured (set out i (is_r j)) (suc i) (replies_by b (is_l j) (is_ps j) w (drop (suc i) xs)))
        ∙ ap (λ (ys : List Action). poured out i (replies_by b led psts w ys)) left_is ∙ s.out_is

    pub more : Turned b l₀ ps₀ w xs out₀ (suc i) l ps (set out i r)
    more = record {
      within = h;
      out_long = length-set out i r ∙ s.out_long;
      tested = more_tested;
      led_is = more_led;
      psts_is = more_psts;
      out_is = more_out;
    }

  -- ---- all are done
  module _ (e : i ≡ length xs) where
    none_left : [] ≡ drop i xs
    none_left = sym (ap (λ (k : ℕ). drop k xs) e ∙ drop_all xs)

    pub led_ended : led ≡ ledgers_by b l₀ ps₀ w xs
    unfolding ledgers_by
    led_ended = ap (λ (ys : List Action). ledgers_by b led psts w ys) none_left ∙ s.led_is

    pub psts_ended : psts ≡ postings_by b l₀ ps₀ w xs
    unfolding postings_by
    psts_ended = ap (λ (ys : List Action). postings_by b led psts w ys) none_left ∙ s.psts_is

    pub out_ended : length xs ≤ length out₀ → out ≡ replies_by b l₀ ps₀ w xs ++ drop (length xs) out₀
    unfolding replies_by
    out_ended room =
        let many : length (replies_by b l₀ ps₀ w xs) ≡ length xs = length_replies b l₀ ps₀ w xs in
        ap (λ (ys : List Action). poured out i (replies_by b led psts w ys)) none_left ∙ s.out_is
        ∙ poured_all (replies_by b l₀ ps₀ w xs) out₀ (subst (λ (k : ℕ). k ≤ length out₀) (sym many) room)
        ∙ ap (λ (k : ℕ). replies_by b l₀ ps₀ w xs ++ drop k out₀) many
