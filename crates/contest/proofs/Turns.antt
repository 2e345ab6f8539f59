-- A contest's moves, in turn: what each test of a turn settles.
use mathlib.Core.Path.{◌≡◌, sym, ap, ◌∙◌}
use mathlib.Core.Logic.{◌≢◌}
use mathlib.Core.List.{List}
use Prim.Native.Nat.{ℕ, suc, ◌+◌, ◌≤◌, ◌<◌}
use native.Mathlib.Numerals.{add-one}
use native.Mathlib.Omega.{arith}
use borrow.Author.Tests.{eq-eqb, ne_eqb, lt-ltb, le-ltb, lt-leb, le-leb}
use lib.ListN.{length, get_or, drop, drop_of_length-le}
use lib.Seq.{drop-cons}
use Rattle.rules.specs.Pick.{pick}
use Rattle.rules.specs.Contest.{stops, yields, bad_term, bad_match, replied, play}
use Rattle.rules.specs.declared.Ending.{Ending}
use Rattle.rules.specs.declared.Ending.TheVariants.{Kept, Lost, Unfinished, Refused}

-- i terms are named and matched: the rest is a contest from the last of them on
pub record Playing (c h first : ℕ) (moves replies : List ℕ) (last i : ℕ) : Type 0 where
  pub named : i ≤ length moves
  pub matched : i ≤ length replies
  pub rest : play c h last (drop i moves) (drop i replies) ≡ play c h first moves replies

module _ {c h first last i : ℕ} {moves replies : List ℕ} (P : Playing c h first moves replies last i) where
  abbrev term : ℕ
  term = get_or moves i 0

  abbrev reply : ℕ
  reply = get_or replies i 0

  abbrev end : Ending
  end = play c h first moves replies

  -- what follows a match of the term
  abbrev next : List ℕ → Ending
  next rest = play c h term (drop (suc i) moves) rest

  -- the challenger's moves ran out
  pub playing_out : length moves ≤ i → Unfinished ≡ end
  unfolding play
  playing_out le = ap (λ (ms : List ℕ). play c h last ms (drop i replies)) (sym (drop_of_length-le moves le)) ∙ P.rest

  module _ (lt : i < length moves) where
    turn : pick (stops term) Kept (pick (bad_term c last term) Refused (replied h term next (drop i replies))) ≡ end
    unfolding play
    turn = ap (λ (ms : List ℕ). play c h last ms (drop i replies)) (sym (drop-cons moves i 0 lt)) ∙ P.rest

    pub playing_stops : term ≡ 0 → Kept ≡ end
    playing_stops e = rw (eq-eqb term 0 e) at turn

    module _ (ne : term ≢ 0) where
      pub playing_high : c < term → Refused ≡ end
      unfolding bad_term
      playing_high e = rw (ne_eqb term 0 ne, lt-ltb c term e) at turn

      module _ (le : term ≤ c) where
        pub playing_short : term ≤ last → Refused ≡ end
        unfolding bad_term
        playing_short e = rw (ne_eqb term 0 ne, le-ltb c term le, le-leb term last e) at turn

        module _ (longer : last < term) where
          asked : replied h term next (drop i replies) ≡ end
          unfolding bad_term
          asked = rw (ne_eqb term 0 ne, le-ltb c term le, lt-leb term last longer) at turn

          -- the holder's ran out
          pub playing_unanswered : length replies ≤ i → Unfinished ≡ end
          unfolding replied
          playing_unanswered e = rw (drop_of_length-le replies e) at asked

          module _ (answered : i < length replies) where
            judged : pick (yields reply) Lost (pick (bad_match h term) Refused (next (drop (suc i) replies))) ≡ end
            unfolding replied
            judged = rw (drop-cons replies i 0 answered) at asked

            pub playing_yields : reply ≡ 0 → Lost ≡ end
            playing_yields e = rw (eq-eqb reply 0 e) at judged

            module _ (match : reply ≢ 0) where
              pub playing_unmatched : h < term → Refused ≡ end
              unfolding bad_match
              playing_unmatched e = rw (ne_eqb reply 0 match, lt-ltb h term e) at judged

              -- matched: the next turn
              pub playing_turn : term ≤ h → Playing c h first moves replies term (i + 1)
              unfolding bad_match
              playing_turn e = record {
                named = omega arith;
                matched = omega arith;
                rest = rw (add-one i) (rw (ne_eqb reply 0 match, le-ltb h term e) at judged);
              }
