-- Countered rows at work: expected answers and flags worked out from the text of request P1, by hand; shown by
-- computation. Then, of any row, when a countered one may be withdrawn, that a counteroffer makes it one, and that it
-- stays one.
use mathlib.Core.Path.{◌≡◌, refl, sym, ap, ◌∙◌}
use mathlib.Core.Bool.{Bool, true, false, or-true}
use mathlib.Core.List.{List, [], ◌∷◌}
use Prim.Native.Nat.{ℕ, ◌+◌, ◌<◌}
use native.Mathlib.Omega.{arith}
use lib.Dec.{lit<}
use lib.ListN.{length, set}
use lib.Seq.{get_or-set_other}
use Rattle.rules.specs.Rules.{rules}
use Rattle.rules.specs.Numbers.{countered}
use Rattle.rules.specs.Layout.{hours, row_base, row, flags, has_flag, has, raise}
use Rattle.rules.specs.Moves.{is_open, allowed, customer_moves, customer_may}
use Rattle.rules.specs.SellerStatus.{entered}
use Rattle.rules.specs.Act.{step}
use Rattle.rules.specs.Create.{fresh}
use Rattle.rules.specs.Paths.{unposted}
use Rattle.rules.specs.Calls.{Run, run_actions, answers}
use Rattle.rules.specs.Day.{submits, names, posts, line}
use Rattle.rules.specs.Parallel.{Plain}
use Rattle.rules.specs.declared.Action.{Action}
use Rattle.rules.specs.declared.Answer.{Answer}
use Rattle.rules.proofs.SoundFacts.{SoundLedger}
use Rattle.rules.proofs.Passed.{customer_move}
use Rattle.rules.proofs.Spans.{raise_has}
use Rattle.rules.proofs.FrameLaw.{frame_law}

-- path 1 is posted, and 10 asks for its hour, preconfirmed
begun : List ℕ → Run
begun words = run_actions (fresh 5 1 1 3600 0) (unposted 1) words (posts 1 1 ∷ submits 10 1 1 0 0 1 1 300 0 1 1 ∷ [])

-- 1 is countered, rebid and withdrawn; so is 2, coordinated; 3 is countered, rebid and accepted; 4, 20's transfer of a
-- part of 3, waits at 10 for its approval, first never countered and then countered; 5, coordinated, is withdrawn from
-- 11 and was never countered
rebid : Run
rebid =
    let b = begun (100 ∷ 40 ∷ []) in
    run_actions b.ledger b.postings (100 ∷ 40 ∷ [])
    (names 3 10 1 14 0 ∷ names 2 1 1 6 310 ∷ names 3 10 1 8 305 ∷ names 3 10 1 14 0 ∷ names 3 10 1 14 0
    ∷ submits 10 1 1 0 0 1 3 300 0 1 1 ∷ names 2 1 2 7 310 ∷ names 3 10 2 8 305 ∷ names 3 10 2 14 0
    ∷ submits 10 1 1 0 0 1 1 300 0 1 1 ∷ names 2 1 3 6 310 ∷ names 3 10 3 8 305 ∷ names 2 1 3 10 305 ∷ names 3 10 3 14 0
    ∷ submits 20 6 10 3 0 1 1 0 1 1 1 ∷ names 2 10 4 10 0 ∷ names 3 20 4 14 0
    ∷ names 2 10 4 6 5 ∷ names 3 20 4 8 0 ∷ names 2 10 4 10 0 ∷ names 3 20 4 14 0
    ∷ submits 10 1 1 0 0 1 3 300 0 1 1 ∷ names 2 1 5 11 300 ∷ names 3 10 5 14 0
    ∷ [])

flags_of : List ℕ → List ℕ
flags_of l = flags (row 1 l 0) ∷ flags (row 1 l 1) ∷ flags (row 1 l 2) ∷ flags (row 1 l 3) ∷ flags (row 1 l 4) ∷ []

countered_at_work :
    (answers rebid.done
    ≡ line 11 0 0 0 0 ∷ line 0 1 1 6 0 ∷ line 0 1 6 8 0 ∷ line 0 1 8 14 0 ∷ line 11 0 0 0 0
    ∷ line 0 2 0 1 0 ∷ line 0 2 1 7 0 ∷ line 0 2 7 8 0 ∷ line 0 2 8 14 0
    ∷ line 0 3 0 1 0 ∷ line 0 3 1 6 0 ∷ line 0 3 6 8 0 ∷ line 0 3 8 13 100 ∷ line 11 0 0 0 0
    ∷ line 0 4 0 1 0 ∷ line 0 4 1 10 0 ∷ line 11 0 0 0 0
    ∷ line 0 4 10 6 0 ∷ line 0 4 6 8 0 ∷ line 0 4 8 10 0 ∷ line 0 4 10 14 0
    ∷ line 0 5 0 1 0 ∷ line 0 5 1 11 0 ∷ line 0 5 11 14 0
    ∷ [])
    × (flags_of rebid.ledger ≡ (1 + 16 + 32) ∷ (1 + 2 + 16 + 32) ∷ (1 + 8 + 16 + 32) ∷ (1 + 8 + 16 + 32) ∷ (1 + 2 + 8 + 16) ∷ [])
unfolding rules begun rebid flags_of
countered_at_work = (refl, refl)

-- foreign words: the queued row 1 has these flags, and is withdrawn
withdrawn_with : ℕ → List Answer
withdrawn_with f =
    let b = begun (100 ∷ []) in
    answers (run_actions (set b.ledger (row_base 1 0 + 7) f) b.postings [] (names 3 10 1 14 0 ∷ [])).done

-- the flag alone, with preconfirmed, and with all the others; all the others without it; flags go up to 63
flags_at_work :
    (withdrawn_with 32 ≡ line 0 1 1 14 0 ∷ []) × (withdrawn_with 33 ≡ line 0 1 1 14 0 ∷ []) × (withdrawn_with 63 ≡ line 0 1 1 14 0 ∷ [])
    × (withdrawn_with 31 ≡ line 11 0 0 0 0 ∷ []) × (withdrawn_with 64 ≡ line 1 0 0 0 0 ∷ [])
unfolding rules begun withdrawn_with
flags_at_work = (refl, refl, refl, refl, refl)

-- ---- of any row
-- a countered row may be withdrawn exactly while it is open
pub countered_withdrawn : (r : List ℕ) → has countered r ≡ true → customer_may r 14 ≡ is_open r
unfolding customer_may allowed customer_moves is_open
countered_withdrawn r e = go (is_open r) (customer_may r 14) refl refl
  where
    go : (b c : Bool) → is_open r ≡ b → customer_may r 14 ≡ c → c ≡ b
    go true true o m = refl
    go false false o m = refl
    go true false o m = sym m ∙ simp (e, o, or-true)
    go false true o m = sym (customer_move r 14 m).is_open_lem ∙ o

-- a counteroffer makes it one
pub entered_countered : (s : ℕ) (r : List ℕ) → 7 < length r → has countered (entered true s r) ≡ true
unfolding entered
entered_countered s r lt = ap (has_flag countered) (get_or-set_other (raise countered r) 1 7 s 0 (λ z. omega (arith, z))) ∙ raise_has countered r (lit< tt) lt

-- and no action on a row clears the flag, in that row or another
pub countered_stays : {l : List ℕ} → SoundLedger l → (ps w : List ℕ) (a : Action) → Plain a → (n : ℕ) → has countered (row (hours l) l n) ≡ true → has countered (row (hours l) (step true l ps w a).ledger n) ≡ true
countered_stays s ps w a plain n = (frame_law s ps w a plain).marked n
