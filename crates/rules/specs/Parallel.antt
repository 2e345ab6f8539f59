-- Desks that work in parallel: two actions for unrelated deals, in either order.
use Rattle.std.specs.Prelude.{◌≡◌, ◌≢◌, true, List, [], ◌∷◌, ℕ, ◌<◌}
use Rattle.rules.specs.Layout.{hours, used, issued, row, reqtype, path}
use Rattle.rules.specs.Sound.{original}
use Rattle.rules.specs.Create.{good_numbers, fresh}
use Rattle.rules.specs.Paths.{unposted}
use Rattle.rules.specs.Checks.{named}
use Rattle.rules.specs.Act.{Outcome, outcome}
use Rattle.rules.specs.Calls.{Run, Call, run_actions, run_calls, answers}
use Rattle.rules.specs.Open.{in_tree}
use Rattle.rules.specs.Day.{submits, names, posts, line}
use Rattle.rules.specs.declared.Action.{Action}
use Rattle.rules.specs.declared.Answer.{Answer}

-- neither a submission, a posting nor a clock change
pub record Plain (a : Action) : Type 0 where
  pub submission : a.kind ≢ 1
  pub clock : a.kind ≢ 7
  pub posting : a.kind ≢ 8

-- row o is an original, and row n is it or descends from it
abbrev pub OfOriginal : ℕ → List ℕ → ℕ → ℕ → Type 0
OfOriginal H l o n = (original (reqtype (row H l o)) ≡ true) × (in_tree H l o n ≡ true)

-- rows n and m are or descend from different originals, and no path stands in rows of both trees
pub record Unrelated (H : ℕ) (l : List ℕ) (n m : ℕ) : Type 0 where
  -- the original of n, and that of m
  pub first : ℕ
  pub second : ℕ
  pub of_first : OfOriginal H l first n
  pub of_second : OfOriginal H l second m
  pub originals : first ≢ second
  pub paths : (i j : ℕ) → i < used l → j < used l → in_tree H l first i ≡ true → in_tree H l second j ≡ true
      → path (row H l i) ≢ path (row H l j)

-- of the rows that two actions name. An action that names no row is refused wherever it stands: nothing is asked then
abbrev pub Apart : List ℕ → Action → Action → Type 0
Apart l a b =
    issued l a.reference ≡ true → issued l b.reference ≡ true → Unrelated (hours l) l (named a) (named b)

-- an action after what another left, with the words lent to it
abbrev pub after : Outcome → List ℕ → Action → Outcome
after o w a = outcome o.ledger o.postings w a

-- both orders give the same words and each action the same answer, refusals included; w is lent to a, v to b
pub record EitherOrder (l ps w : List ℕ) (a : Action) (v : List ℕ) (b : Action) : Type 0 where
  pub ledgers : (after (outcome l ps w a) v b).ledger ≡ (after (outcome l ps v b) w a).ledger
  pub postings : (after (outcome l ps w a) v b).postings ≡ (after (outcome l ps v b) w a).postings
  pub first : (outcome l ps w a).answer ≡ (after (outcome l ps v b) w a).answer
  pub second : (after (outcome l ps w a) v b).answer ≡ (outcome l ps v b).answer

-- with any postings
abbrev pub InParallelOn : List ℕ → Type 0
InParallelOn l = (ps w v : List ℕ) (a b : Action) → Plain a → Plain b → Apart l a b → EitherOrder l ps w a v b

-- on any ledger that a list of calls from a fresh one can leave
abbrev pub InParallel : Type 0
InParallel =
    (R H provider window base : ℕ) → good_numbers R H provider window base ≡ true →
    (qs : List ℕ) (calls : List Call) → InParallelOn (run_calls (fresh R H provider window base) qs calls).ledger

-- ---- With a common path this does not hold. 100 is posted on paths 1 and 2, for one hour; two preconfirmed originals,
-- on path 1 and on path x, ask for 100 each
unfoldable pub two_ask : ℕ → Run
two_ask x =
    run_actions (fresh 2 1 1 3600 0) (unposted 1) (100 ∷ [])
    (posts 1 1 ∷ posts 1 2 ∷ submits 10 1 1 0 0 1 1 0 0 1 1 ∷ submits 20 1 1 0 0 1 1 0 0 1 x ∷ [])

-- the seller accepts the request of this reference
abbrev pub seller_accepts : ℕ → Action
seller_accepts r = names 2 1 r 10 0

-- what is answered where request r is accepted, and then request q
unfoldable pub accepted_then : ℕ → ℕ → ℕ → List Answer
accepted_then x r q =
    answers (run_actions (two_ask x).ledger (two_ask x).postings [] (seller_accepts r ∷ seller_accepts q ∷ [])).done

-- on two paths the requests are unrelated, and both are confirmed in either order. On one path whichever is first is
-- confirmed, and the other refused with 22; the rows are different originals, so the path is all that they share
abbrev pub CommonPath : Type 0
CommonPath =
    Unrelated 1 (two_ask 2).ledger 0 1
    × (accepted_then 2 1 2 ≡ line 0 1 1 13 100 ∷ line 0 2 1 13 100 ∷ [])
    × (accepted_then 2 2 1 ≡ line 0 2 1 13 100 ∷ line 0 1 1 13 100 ∷ [])
    × (accepted_then 1 1 2 ≡ line 0 1 1 13 100 ∷ line 22 0 0 0 0 ∷ [])
    × (accepted_then 1 2 1 ≡ line 0 2 1 13 100 ∷ line 22 0 0 0 0 ∷ [])
    × OfOriginal 1 (two_ask 1).ledger 0 0
    × OfOriginal 1 (two_ask 1).ledger 1 1
    × (EitherOrder (two_ask 1).ledger (two_ask 1).postings [] (seller_accepts 1) [] (seller_accepts 2) → ⊥)
