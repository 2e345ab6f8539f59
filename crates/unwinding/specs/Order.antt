-- For contracts inside the crate: a list of references tested in three passes, each from the ledger as it stands. gone
-- names the rows that are annulled before. No promise to the outside names these.
use Rattle.std.specs.Prelude.{Bool, ◌&&◌, ◌||◌, not, List, ℕ, suc, eqb, length}
use Rattle.words.specs.Lists.{word_at, all_below, sum_below}
use Rattle.rules.specs.Pick.{pick}
use Rattle.rules.specs.Numbers.{most_path, available_part, NONFIRM_REDIRECT, ANNULLED}
use Rattle.rules.specs.Layout.{used, row_of, issued, row, reqtype, path, related_row, hour_at}
use Rattle.rules.specs.Sound.{original}
use Rattle.rules.specs.Moves.{is_confirmed, seller_may}
use Rattle.rules.proofs.After.{counts_by}
use Rattle.rules.proofs.OverPaths.{exceeds}
use Rattle.rules.proofs.Unwound.{adding, gone_at, stays, gives, use_unwound, whole_again, fits_in}

-- ---- 4, 11 and 15: reference r is there, its row is not annulled yet and may be, and holds its granted again
unfoldable pub movable : ℕ → List ℕ → (ℕ → Bool) → ℕ → Bool
movable H l gone r =
    issued l r
    && (not (gone (row_of r))
    && (seller_may (row H l (row_of r)) ANNULLED
    && (not (is_confirmed (row H l (row_of r))) || whole_again H l gone (row_of r))))

unfoldable pub all_movable : ℕ → List ℕ → List ℕ → Bool
all_movable H l refs = all_below (length refs) (λ k. movable H l (gone_at refs k) (word_at refs k))

-- ---- the last 1, once for each row that was given something back late, when it was not CONFIRMED any more: what it was
-- given only grows, so its displaced is judged when all are annulled
unfoldable pub gives_late : ℕ → List ℕ → (ℕ → Bool) → ℕ → Bool
gives_late H l gone n = gives H l n && not (stays H l gone (related_row H l n))

unfoldable pub all_fit : ℕ → List ℕ → List ℕ → (ℕ → Bool) → Bool
all_fit H l refs late = all_below (used l) (λ p. not (late p) || all_below H (λ h. fits_in H l (gone_at refs (length refs)) p h))

-- ---- 22, path by path: asked of path x where a CONFIRMED row n goes that is of it, or whose related row is
unfoldable pub asks : ℕ → List ℕ → ℕ → ℕ → Bool
asks H l x n =
    is_confirmed (row H l n)
    && (eqb (path (row H l n)) x
    || not (original (reqtype (row H l n))) && eqb (path (row H l (related_row H l n))) x)

unfoldable pub carries : ℕ → List ℕ → List ℕ → (ℕ → Bool) → ℕ → ℕ → Bool
carries H l ps gone x n = not (asks H l x n) || not (exceeds H ps (use_unwound H l (adding gone n)) x)

unfoldable pub carries_all : ℕ → List ℕ → List ℕ → List ℕ → ℕ → Bool
carries_all H l ps refs x = all_below (length refs) (λ k. carries H l ps (gone_at refs k) x (row_of (word_at refs k)))

unfoldable pub paths_carry : ℕ → List ℕ → List ℕ → List ℕ → Bool
paths_carry H l ps refs = all_below most_path (λ x. carries_all H l ps refs (suc x))

-- row m is a type 5 of another path that was in the use of path x for the sake of row n, and no longer is once n goes
unfoldable pub freed : ℕ → List ℕ → (ℕ → Bool) → ℕ → ℕ → ℕ → Bool
freed H l gone x n m =
    eqb (reqtype (row H l m)) NONFIRM_REDIRECT
    && (eqb (related_row H l m) n
    && (not (eqb (path (row H l m)) x)
    && stays H l gone m))

-- their available in hour h, of the rows below k, and of all
unfoldable pub freed_below : ℕ → List ℕ → (ℕ → Bool) → ℕ → ℕ → ℕ → ℕ → ℕ
freed_below H l gone x n h k = sum_below k (λ m. pick (freed H l gone x n m) (word_at (row H l m) (hour_at H available_part h)) 0)

unfoldable pub freed_use : ℕ → List ℕ → (ℕ → Bool) → ℕ → ℕ → ℕ → ℕ
freed_use H l gone x n h = pick (eqb (path (row H l n)) x) (freed_below H l gone x n h (used l)) 0

-- row n gives its granted back to a row that is in the use of path x
unfoldable pub returned : ℕ → List ℕ → (ℕ → Bool) → ℕ → ℕ → Bool
returned H l gone x n = gives H l n && counts_by H l (stays H l (adding gone n)) x (related_row H l n)
