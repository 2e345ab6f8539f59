-- Every action: its number, the ledger and the postings that it leaves, its answer.
use Rattle.std.specs.Prelude.{Bool, ◌&&◌, ◌||◌, not, List, ℕ, ◌+◌, eqb}
use Rattle.words.specs.Lists.{total}
use Rattle.rules.specs.Pick.{pick, ◌gives◌else◌, ◌only_if◌, ◌or_else◌, ◌is_from◌to◌}
use Rattle.rules.specs.Numbers.{most_kind, entity, CONFIRMED, DISPLACED}
use Rattle.rules.specs.Layout.{hours, used, row_of, row, status, granted, available}
use Rattle.rules.specs.Sound.{sound}
use Rattle.rules.specs.Moves.{confirmed_or_annulled}
use Rattle.rules.specs.Megawatts.{carries_over}
use Rattle.rules.specs.Checks.{named_row, profile}
use Rattle.rules.specs.Submit.{submit_number, submit_after}
use Rattle.rules.specs.SellerStatus.{seller_number, seller_after}
use Rattle.rules.specs.CustomerStatus.{customer_number, customer_after}
use Rattle.rules.specs.Approve.{approve_number, approve_after}
use Rattle.rules.specs.Reduce.{reduce_number, reduce_after}
use Rattle.rules.specs.Lapse.{lapse_number, lapse_after}
use Rattle.rules.specs.Clock.{clock_number, clock_after}
use Rattle.rules.specs.Paths.{sound_postings, over_posted, over_at}
use Rattle.rules.specs.Post.{post_number, posted}
use Rattle.rules.specs.declared.Action.{Action}
use Rattle.rules.specs.declared.Answer.{Answer}

-- one of eight, by the kind's number
abbrev pub by_kind : {A : Type 0} → ℕ → A → A → A → A → A → A → A → A → A
by_kind k x1 x2 x3 x4 x5 x6 x7 x8 =
    pick (eqb k 1) x1 (pick (eqb k 2) x2 (pick (eqb k 3) x3 (pick (eqb k 4) x4 (pick (eqb k 5) x5 (pick (eqb k 6) x6 (pick (eqb k 7) x7 x8))))))

unfoldable pub kind_number : ℕ → List ℕ → List ℕ → Action → ℕ
kind_number H l w a =
    by_kind a.kind (submit_number H l w a) (seller_number H l w a) (customer_number H l w a) (approve_number H l a)
    (reduce_number H l w a) (lapse_number H l a) (clock_number l a) (post_number H l w a)

-- the ledger after an accepted action; a posting leaves it as it is
unfoldable pub kind_after : ℕ → List ℕ → List ℕ → Action → List ℕ
kind_after H l w a =
    by_kind a.kind (submit_after H l w a) (seller_after H l w a) (customer_after H l w a) (approve_after H l a)
    (reduce_after H l w a) (lapse_after H l a) (clock_after l a) l

-- and the postings: a posting alone alters them
unfoldable pub postings_after : ℕ → List ℕ → List ℕ → Action → List ℕ
postings_after H ps w a = pick (eqb a.kind 8) (posted H ps w a) ps

-- every action. 1: ledger or postings unsound; 2: kind not 1 to 8; 3: actor no entity
unfoldable pub common_number : Bool → Action → ℕ
common_number is_sound a =
    not is_sound gives 1 else
    not (a.kind is_from 1 to most_kind) gives 2 else
    not (entity a.actor) gives 3 else
    0

-- the reference that an accepted action is about, and the status before: 0 for a submission
unfoldable pub subject : List ℕ → Action → ℕ
subject l a = pick (eqb a.kind 1) (used l + 1) a.reference

unfoldable pub status_before : ℕ → List ℕ → Action → ℕ
status_before H l a = pick (eqb a.kind 1) 0 (status (named_row H l a))

-- the action confirms its row, or annuls it from 13; next is the ledger after it
unfoldable pub uses_path : ℕ → List ℕ → Action → List ℕ → Bool
uses_path H l a next = confirmed_or_annulled (status_before H l a) (status (row H next (row_of (subject l a))))

-- 22: use of the posted path, or of the row's path or its related row's, would exceed the posting in any hour; next and
-- ps are the ledger and the postings after the action
unfoldable pub over_use : ℕ → List ℕ → Action → List ℕ → List ℕ → Bool
over_use H l a next ps =
    pick (eqb a.kind 8) (over_posted H next ps a.path)
    (uses_path H l a next && over_at H l (row_of (subject l a)) next ps)

unfoldable pub use_number : ℕ → List ℕ → Action → List ℕ → List ℕ → ℕ
use_number H l a next ps = 22 only_if over_use H l a next ps

-- 1: the action would carry an available, displaced or reduced word over 100,000 (judged last)
unfoldable pub last_number : ℕ → List ℕ → ℕ
last_number H next = 1 only_if carries_over H next

-- on a sound ledger: the checks of the kind, that of the use of paths, and the one that is judged last
unfoldable pub sound_number : ℕ → List ℕ → List ℕ → List ℕ → Action → ℕ
sound_number H l ps w a =
    kind_number H l w a or_else
    use_number H l a (kind_after H l w a) (postings_after H ps w a) or_else
    last_number H (kind_after H l w a)

-- first that applies, first given
unfoldable pub number : Bool → List ℕ → List ℕ → List ℕ → Action → ℕ
number is_sound l ps w a = common_number is_sound a or_else sound_number (hours l) l ps w a

-- Refused: the number and four zeros
unfoldable pub refusal : ℕ → Answer
refusal n = record { number = n; reference = 0; before = 0; after = 0; moved = 0 }

-- MW-hours moved as a row went from a status to another: granted of a row confirmed or annulled from 13, else what was
-- displaced, else 0. held is its available before, next the row after
unfoldable pub moved_between : ℕ → ℕ → ℕ → ℕ → List ℕ → ℕ
moved_between H old new held next =
    pick (confirmed_or_annulled old new) (total (granted H next)) (
    pick (eqb old CONFIRMED && eqb new DISPLACED) held
    0)

-- or what was reduced
unfoldable pub moved_by : ℕ → List ℕ → Action → ℕ → ℕ → ℕ → List ℕ → ℕ
moved_by H w a old new held next = pick (eqb a.kind 5) (total (profile w a)) (moved_between H old new held next)

-- of the row that the action is about
unfoldable pub megawatt_hours : ℕ → List ℕ → List ℕ → Action → List ℕ → ℕ
megawatt_hours H l w a next =
    let n = row_of (subject l a) in
    moved_by H w a (status_before H l a) (status (row H next n)) (total (available H (row H l n))) (row H next n)

-- Accepted: 0, reference, status before, status after, MW-hours moved
unfoldable pub acceptance : ℕ → List ℕ → List ℕ → Action → List ℕ → Answer
acceptance H l w a next =
    record { number = 0; reference = subject l a; before = status_before H l a; after = status (row H next (row_of (subject l a))); moved = megawatt_hours H l w a next }

-- the clock and a posting give five zeros
unfoldable pub answered : ℕ → List ℕ → List ℕ → Action → List ℕ → Answer
answered H l w a next = pick (eqb a.kind 7 || eqb a.kind 8) (refusal 0) (acceptance H l w a next)

-- What an action answers and leaves
pub record Outcome : Type 0 where
  pub answer : Answer
  pub ledger : List ℕ
  pub postings : List ℕ

unfoldable pub refused : List ℕ → List ℕ → ℕ → Outcome
refused l ps n = record { answer = refusal n; ledger = l; postings = ps }

unfoldable pub accepted : List ℕ → List ℕ → List ℕ → Action → List ℕ → Outcome
accepted l ps w a next = record { answer = answered (hours l) l w a next; ledger = next; postings = postings_after (hours l) ps w a }

-- of an action on a ledger and postings that are sound, or not
unfoldable pub step : Bool → List ℕ → List ℕ → List ℕ → Action → Outcome
step is_sound l ps w a =
    let n = number is_sound l ps w a in
    pick (eqb n 0) (accepted l ps w a (kind_after (hours l) l w a)) (refused l ps n)

-- the ledger is sound, and the postings are so for its hours
unfoldable pub sound_both : List ℕ → List ℕ → Bool
sound_both l ps = sound l && sound_postings (hours l) ps

unfoldable pub outcome : List ℕ → List ℕ → List ℕ → Action → Outcome
outcome l ps w a = step (sound_both l ps) l ps w a
