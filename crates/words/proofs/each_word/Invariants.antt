-- the words passed are what f gave, and the others are as they were
use Rattle.std.proofs.Common.{◌≡◌, ℕ, ◌<◌, ◌≤◌, length, get_or}
use Rattle.words.proofs.each_word.Given as goal

abbrev pub invariant-loop-i : goal.invariant-loop-i
invariant-loop-i g l =
    record {
      long : length l.dst ≡ length l.fn.dst;
      passed : (k : ℕ) → k < l.i → goal.F-post g l.f (get_or l.fn.dst k 0) (get_or l.src k 0) (get_or l.dst k 0);
      rest : (k : ℕ) → l.i ≤ k → get_or l.dst k 0 ≡ get_or l.fn.dst k 0;
    }
