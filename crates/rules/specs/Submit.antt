-- 1 Submit.
use Rattle.std.specs.Prelude.{Bool, ◌&&◌, ◌||◌, not, List, [], ◌∷◌, ℕ, ◌+◌, ◌-◌, eqb, ltb}
use Rattle.words.specs.Lists.{splice}
use Rattle.rules.specs.Pick.{pick, ◌gives◌else◌, ◌then◌, ◌is_from◌to◌, ◌among◌}
use Rattle.rules.specs.Numbers.{most_type, entity, preconfirmed, coordinated, requested_part, NONFIRM_REDIRECT, QUEUED}
use Rattle.rules.specs.Layout.{rows, provider, used, set_used, issued, row_of, row, on_row, reqtype, customer, path, has_flag, set_hours}
use Rattle.rules.specs.Sound.{original, resold, redirect, firm, relates, inside}
use Rattle.rules.specs.Moves.{is_confirmed}
use Rattle.rules.specs.Checks.{profile, bad_profile, bad_span, unknown_path, bad_price}
use Rattle.rules.specs.declared.Action.{Action}

-- 2: type
unfoldable pub bad_type : Action → Bool
bad_type a = not (a.reqtype is_from 1 to most_type)

-- 3: seller no entity
unfoldable pub bad_seller : Action → Bool
bad_seller a = not (entity a.seller)

-- 10: flags over 3, or type 5 not preconfirmed
unfoldable pub bad_flags : Action → Bool
bad_flags a = ltb (preconfirmed + coordinated) a.flags || eqb a.reqtype NONFIRM_REDIRECT && not (has_flag preconfirmed a.flags)

-- 21: an unknown path, or, for types 3, 6, 7, 8, another than that of an existing related row
unfoldable pub unfit_path : ℕ → List ℕ → Action → Bool
unfit_path H l a =
    a.reqtype among (3 ∷ 6 ∷ 7 ∷ 8 ∷ []) && (issued l a.related && not (eqb a.path (path (row H l (row_of a.related)))))

unfoldable pub bad_path : ℕ → List ℕ → Action → Bool
bad_path H l a = unknown_path a || unfit_path H l a

-- 9: related not 0 for types 1, 2; otherwise no CONFIRMED row, wrong type as under soundness, not firm for 4, 5, or span not inside its span
unfoldable pub good_related : ℕ → List ℕ → Action → Bool
good_related H l a =
    let n = row_of a.related in
    issued l a.related && (is_confirmed (row H l n)
    && (relates a.reqtype (reqtype (row H l n))
    && ((not (redirect a.reqtype) || firm H l n)
    && inside a.start a.stop (row H l n))))

unfoldable pub bad_related : ℕ → List ℕ → Action → Bool
bad_related H l a = not (pick (original a.reqtype) (eqb a.related 0) (good_related H l a))

-- 3: seller not the provider (1, 2, 4, 5, 8) or not the related customer (3, 6, 7); for 4, 5, 8 actor not the related customer
unfoldable pub related_customer : ℕ → List ℕ → Action → ℕ
related_customer H l a = customer (row H l (row_of a.related))

unfoldable pub bad_parties : ℕ → List ℕ → Action → Bool
bad_parties H l a =
    not (eqb a.seller (pick (resold a.reqtype) (related_customer H l a) (provider l)))
    || a.reqtype among (4 ∷ 5 ∷ 8 ∷ []) && not (eqb a.actor (related_customer H l a))

-- 8: R rows used
unfoldable pub no_row_left : List ℕ → Bool
no_row_left l = eqb (used l) (rows l)

unfoldable pub submit_number : ℕ → List ℕ → List ℕ → Action → ℕ
submit_number H l w a =
    bad_type a gives 2 else
    bad_seller a gives 3 else
    bad_span H a gives 6 else
    bad_profile w a (a.stop - a.start) gives 7 else
    bad_flags a gives 10 else
    bad_path H l a gives 21 else
    bad_price a gives 12 else
    bad_related H l a gives 9 else
    bad_parties H l a gives 3 else
    no_row_left l gives 8 else
    0

-- The new row has status 1, the actor as customer, the price as bid, the action's path and the profile as requested;
-- its other words are 0
unfoldable pub new_words : Action → List ℕ
new_words a =
    a.reqtype ∷ QUEUED ∷ a.actor ∷ a.seller ∷ a.related ∷ a.start ∷ a.stop ∷ a.flags ∷ a.price ∷ 0 ∷ 0 ∷ a.path ∷ []

unfoldable pub new_row : ℕ → List ℕ → Action → List ℕ → List ℕ
new_row H w a r = splice r 0 (new_words a) then set_hours H requested_part a.start (profile w a)

unfoldable pub submit_after : ℕ → List ℕ → List ℕ → Action → List ℕ
submit_after H l w a = l then on_row H (used l) (new_row H w a) then set_used (used l + 1)
