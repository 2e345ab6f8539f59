-- Types, their class up the chain, and the sound ledger.
use Rattle.std.specs.Prelude.{Bool, false, ◌&&◌, ◌||◌, not, List, [], ◌∷◌, ℕ, zero, suc, ◌-◌, eqb, leb, ltb, length, drop}
use Rattle.words.specs.Lists.{part, all_below, within, zeros}
use Rattle.rules.specs.Pick.{pick, ◌is_from◌to◌, ◌among◌}
use Rattle.rules.specs.Numbers.{row_words, used_words, profiles, most_type, most_status, most_price, most_megawatts, most_flags, most_path, end_second, end_limit, entity, NONFIRM_REDIRECT, RELINQUISH}
use Rattle.rules.specs.Layout.{rows, hours, provider, window, base, clock, used, head_end, row_base, row, reqtype, status, customer, seller, related, start, stop, flags, bid, offer, limit, path, related_row, hours_of, span}
use Rattle.rules.specs.Create.{good_numbers}

-- ORIGINAL, firm and non-firm; those sold by the related row's customer: RESALE, PART_TRANSFER, FULL_TRANSFER; the two transfers; the two redirects
unfoldable pub original : ℕ → Bool
original t = t is_from 1 to 2

unfoldable pub resold : ℕ → Bool
resold t = t among (3 ∷ 6 ∷ 7 ∷ [])

unfoldable pub transfer : ℕ → Bool
transfer t = t among (6 ∷ 7 ∷ [])

unfoldable pub redirect : ℕ → Bool
redirect t = t among (4 ∷ 5 ∷ [])

-- row n is related to an earlier row
unfoldable pub upward : ℕ → List ℕ → ℕ → Bool
upward H l n = related (row H l n) is_from 1 to n

-- whether row n is firm: types 1 and 4 are; 3, 6, 7 as the related row, and so on up the chain. The reference falls at each step
unfoldable pub firm_within : ℕ → ℕ → List ℕ → ℕ → Bool
firm_within zero H l n = false
firm_within (suc k) H l n =
    reqtype (row H l n) among (1 ∷ 4 ∷ [])
    || resold (reqtype (row H l n)) && (upward H l n && firm_within k H l (related_row H l n))

unfoldable pub firm : ℕ → List ℕ → ℕ → Bool
firm H l n = firm_within (suc n) H l n

-- a row of type t may be related to one of type u: 8 to 5, types 3 to 7 to neither 5 nor 8
unfoldable pub relates : ℕ → ℕ → Bool
relates t u = pick (eqb t RELINQUISH) (eqb u NONFIRM_REDIRECT) (not (u among (NONFIRM_REDIRECT ∷ RELINQUISH ∷ [])))

-- hours from a up to b lie inside the span of row r
unfoldable pub inside : ℕ → ℕ → List ℕ → Bool
inside a b r = leb (start r) a && leb b (stop r)

-- length, head and rows used within their ranges
unfoldable pub sound_head : List ℕ → Bool
sound_head l =
    good_numbers (rows l) (hours l) (provider l) (window l) (base l)
    && (eqb (length l) (row_base (hours l) (rows l))
    && (ltb (clock l) end_second && (leb (used l) (rows l) && eqb (head_end l) 0)))

-- the sixteen words of a row
unfoldable pub sound_words : ℕ → List ℕ → Bool
sound_words H r =
    reqtype r is_from 1 to most_type && (status r is_from 1 to most_status && (entity (customer r) && (entity (seller r)
    && (ltb (start r) (stop r) && (leb (stop r) H
    && (leb (flags r) most_flags && (leb (bid r) most_price && (leb (offer r) most_price && (ltb (limit r) end_limit
    && (path r is_from 1 to most_path
    && zeros (part r used_words (row_words - used_words))))))))))))

-- a profile: words at most 100,000 in the span, and 0 outside it
unfoldable pub sound_profile : ℕ → List ℕ → ℕ → Bool
sound_profile H r p =
    zeros (hours_of H p 0 (start r) r)
    && (within most_megawatts (span H p r) && zeros (hours_of H p (stop r) (H - stop r) r))

-- related to nothing, or to an earlier row of a fitting type whose span holds the row's
unfoldable pub sound_related : ℕ → List ℕ → ℕ → Bool
sound_related H l n =
    let r = row H l n in
    let above = row H l (related_row H l n) in
    pick (original (reqtype r)) (eqb (related r) 0)
    (upward H l n && (relates (reqtype r) (reqtype above) && inside (start r) (stop r) above))

unfoldable pub sound_row : ℕ → List ℕ → ℕ → Bool
sound_row H l n =
    sound_words H (row H l n) && (all_below profiles (λ p. sound_profile H (row H l n) p) && sound_related H l n)

unfoldable pub unused_zero : ℕ → List ℕ → Bool
unused_zero H l = zeros (drop (row_base H (used l)) l)

unfoldable pub sound : List ℕ → Bool
sound l =
    sound_head l && (all_below (used l) (λ n. sound_row (hours l) l n) && unused_zero (hours l) l)
