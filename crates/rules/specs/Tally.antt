-- The tally: resold, redirected, transferred, relinquished and reduced, from the actions, their profiles and their answers alone.
use Rattle.std.specs.Prelude.{Bool, ◌&&◌, not, List, [], ◌∷◌, ℕ, eqb, leb, ℤ, pos, neg_ℤ, ◌+ℤ◌}
use Rattle.rules.specs.Pick.{pick, ◌among◌}
use Rattle.words.specs.Lists.{zeros}
use Rattle.rules.specs.Numbers.{CONFIRMED, ANNULLED, RESALE, RELINQUISH}
use Rattle.rules.specs.Layout.{standing}
use Rattle.rules.specs.Sound.{original, transfer, redirect}
use Rattle.rules.specs.Checks.{profile, comes}
use Rattle.rules.specs.SellerStatus.{offers}
use Rattle.rules.specs.CustomerStatus.{bids}
use Rattle.rules.specs.Calls.{Done}
use Rattle.rules.specs.declared.Action.{Action}
use Rattle.rules.specs.declared.Answer.{Answer}

-- the five sums of an entry
abbrev pub resold_sum : ℕ
resold_sum = 0

abbrev pub redirected_sum : ℕ
redirected_sum = 1

abbrev pub transferred_sum : ℕ
transferred_sum = 2

abbrev pub relinquished_sum : ℕ
relinquished_sum = 3

abbrev pub reduced_sum : ℕ
reduced_sum = 4

-- profiles as the words from start on; the five sums by hour, signed
pub record Entry : Type 0 where
  pub reqtype : ℕ
  pub status : ℕ
  pub related : ℕ
  pub start : ℕ
  pub requested : List ℕ
  pub granted : List ℕ
  pub sum : ℕ → ℕ → ℤ

-- an entry for each reference; type 0 where there is none
abbrev pub Tally : Type 0
Tally = ℕ → Entry

unfoldable pub no_entry : Entry
no_entry = record { reqtype = 0; status = 0; related = 0; start = 0; requested = []; granted = []; sum = λ k h. pos 0 }

unfoldable pub no_entries : Tally
no_entries r = no_entry

unfoldable pub put : ℕ → Entry → Tally → Tally
put r e t q = pick (eqb q r) e (t q)

-- granted in an hour: the words stand from the start on, with 0 elsewhere
unfoldable pub granted_in : Entry → ℕ → ℕ
granted_in e h = standing e.start e.granted h

-- sum k of an entry with more added in each hour
unfoldable pub added : ℕ → (ℕ → ℤ) → Entry → Entry
added k more e =
    record { reqtype = e.reqtype; status = e.status; related = e.related; start = e.start; requested = e.requested; granted = e.granted; sum = λ j h. pick (eqb j k) (e.sum j h +ℤ more h) (e.sum j h) }

unfoldable pub add_to : ℕ → ℕ → (ℕ → ℤ) → Tally → Tally
add_to r k more t = put r (added k more (t r)) t

-- A submission opens an entry
unfoldable pub opened : Action → List ℕ → Answer → Entry
opened a w answer =
    record { reqtype = a.reqtype; status = answer.after; related = a.related; start = a.start; requested = profile w a; granted = []; sum = λ k h. pos 0 }

-- what a later action makes of its entry: status, requested, granted
unfoldable pub requested_by : Action → List ℕ → Entry → List ℕ
requested_by a w e = pick (eqb a.kind 3 && bids a && comes a) (profile w a) e.requested

unfoldable pub granted_by : Action → List ℕ → Entry → List ℕ
granted_by a w e = pick (eqb a.kind 2 && offers a && comes a) (profile w a) e.granted

-- status 10, 11 or 13 with nothing granted copies requested into granted
unfoldable pub copied : ℕ → List ℕ → List ℕ → List ℕ
copied new requested granted = pick (new among (10 ∷ 11 ∷ 13 ∷ []) && zeros granted) requested granted

unfoldable pub changed : Action → List ℕ → Answer → Entry → Entry
changed a w answer e =
    record { reqtype = e.reqtype; status = answer.after; related = e.related; start = e.start; requested = requested_by a w e; granted = copied answer.after (requested_by a w e) (granted_by a w e); sum = e.sum }

-- the sum of the related entry that a type counts in
unfoldable pub sum_of : ℕ → ℕ
sum_of t = pick (eqb t RESALE) resold_sum (pick (redirect t) redirected_sum (pick (transfer t) transferred_sum relinquished_sum))

-- type 8: granted added to the redirect's relinquished, and taken from the redirected of the redirect's related entry
unfoldable pub returned : Entry → (ℕ → ℤ) → Tally → Tally
returned e more t = add_to (t e.related).related redirected_sum (λ h. neg_ℤ (more h)) (add_to e.related relinquished_sum more t)

-- granted added to the related entry
unfoldable pub booked : Entry → (ℕ → ℤ) → Tally → Tally
booked e more t =
    pick (original e.reqtype) t (
    pick (eqb e.reqtype RELINQUISH) (returned e more t)
    (add_to e.related (sum_of e.reqtype) more t))

-- a change to 13 books granted, a change from 13 to 16 takes it back, reduce adds to reduced
unfoldable pub moved : Action → List ℕ → Answer → Entry → Tally → Tally
moved a w answer e t =
    pick (not (eqb answer.before CONFIRMED) && eqb answer.after CONFIRMED) (booked e (λ h. pos (granted_in e h)) t) (
    pick (eqb answer.before CONFIRMED && eqb answer.after ANNULLED) (booked e (λ h. neg_ℤ (pos (granted_in e h))) t) (
    pick (eqb a.kind 5) (add_to answer.reference reduced_sum (λ h. pos (standing e.start (profile w a) h)) t)
    t))

unfoldable pub changed_in : Action → List ℕ → Answer → Entry → Tally → Tally
changed_in a w answer e t = moved a w answer e (put answer.reference e t)

-- only answers 0 with a reference above 0 count
unfoldable pub counts : Answer → Bool
counts answer = eqb answer.number 0 && leb 1 answer.reference

unfoldable pub feed : Action → List ℕ → Answer → Tally → Tally
feed a w answer t =
    pick (not (counts answer)) t (
    pick (eqb a.kind 1) (put answer.reference (opened a w answer) t)
    (changed_in a w answer (changed a w answer (t answer.reference)) t))

unfoldable pub tally_from : Tally → List Done → Tally
tally_from t [] = t
tally_from t (d ∷ ds) = tally_from (feed d.action d.words d.answer t) ds

unfoldable pub tally : List Done → Tally
tally ds = tally_from no_entries ds
